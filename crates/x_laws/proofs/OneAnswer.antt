-- A line of a script has one answer.
use Rattle.std.proofs.Common.{◌≡◌, ℕ, ◌<◌, ◌≤◌, Bool, true, false, List, [], ◌∷◌, ◌++◌, length, Option, None}
use Rattle.std.proofs.Common.{Some, refl, sym, ap, subst, ◌∙◌, arith}
use Rattle.std.specs.Prelude.{codes, option_and_then}
use Rattle.std.proofs.lemmas.Slice.Eq.{bytes_eq-Decides}
use Rattle.x_trees.specs.Tree.{Definition}
use Rattle.x_schema.specs.Schema.{Schema, id_named}
use Rattle.x_schema.specs.Schemas.{IsSchemaOf}
use Rattle.x_schema.specs.declared.schema.TypeId.{TypeId}
use Rattle.x_value.proofs.OneReading.{not_both, one_refusal}
use Rattle.x_value.proofs.OneReading as reading
use Rattle.x_value.specs.FaultTexts.{fault_line}
use Rattle.x_names.specs.Declarers.{first_declarer}
use Rattle.x_names.specs.declared.names.Declarer.{Declarer}
use Rattle.x_rules.specs.Results.{KnownNames}
use Rattle.x_session.specs.declared.declared.Spot.{Spot}
use Rattle.x_prelude.specs.Foreign.{foreign_names, spot_of}
use Rattle.x_prelude.specs.Leading.{AreLed, IsForeignUse, IsForeignUseBy, declared, first_led, foreign_uses}
use Rattle.x_prelude.specs.Leading.{not_taken, undeclared}
use Rattle.x_prelude.specs.declared.definition.FromC.{FromC}
use Rattle.x_script.specs.Answers.{Answer, answer, answered, refused}
use Rattle.x_script.specs.Clashing.{IsClashAnswer, clashes_answer}
use Rattle.x_script.specs.Clashing as clashing
use Rattle.x_script.specs.Commands.{clashes_asked, command_of, dump_asked, explain_asked}
use Rattle.x_script.specs.declared.script.command.Command.{Command}
use Rattle.x_compile.specs.Compile.{Item, definitions_of, faults_of}
use Rattle.x_compile.specs.Known.{KnownText, known_names}
use Rattle.x_session.specs.Typed.{all_definitions}
use Rattle.x_script.specs.Explaining.{IsExplainAnswer, explained_answer, telling_of}
use Rattle.x_script.specs.LineAnswers as answers
use Rattle.x_script.specs.LineAnswers.{IsCommandAnswer, IsDumped, IsLineAnswer, IsShownBy, alone, asks}
use Rattle.x_script.specs.LineAnswers.{clashes}
use Rattle.x_script.specs.LineAnswers.{explains, hidden, leads, read, shows, stands, too_long, within}
use Rattle.x_script.specs.Refusals.{unknown_line}
use Rattle.x_script.specs.Situations.{How, Over}
use Rattle.x_script.specs.Script.{AreAnswered, then_answer}
use Rattle.x_script.specs.Showing.{IsDumpAnswer, IsMessageAnswer, IsTypedAnswer, shown, stuck, no_type, typed}
use Rattle.x_script.specs.Showing.{faulty, faultless, value_answer}
use Rattle.x_compile.proofs.Compiled.{one_compilation}
use Rattle.x_laws.specs.Showing.{ShowsAlike}
use Rattle.x_explain.specs.Explained.{AreExplained}
use Rattle.x_laws.proofs.OneBefore.{AreSame, one_before, one_known, over_other, same_names}
use Rattle.x_laws.proofs.OneClash.{one_warnings}
use Rattle.x_laws.proofs.OneExplanation.{one_explanation}
use Rattle.x_laws.proofs.OneShowing.{types_show}

-- ---- a line that asks to show a value

one_message : (s : Schema) (id : TypeId) (message text : List ℕ) (a b : Answer)
    → IsMessageAnswer s id message text a → IsMessageAnswer s id message text b → a ≡ b
one_message s id message text a b (shown ns x e) (shown ms y k) =
    let same = reading.one_showing s id message ns ms x y in
    e ∙ ap (λ n. answered text (value_answer n)) same ∙ sym k
one_message s id message text a b (shown ns x e) (stuck at code y m k) = absurd
    (not_both s id message at code m (x.0, x.1, x.2) y)
one_message s id message text a b (stuck at code x m e) (shown ns y k) = absurd
    (not_both s id message at code m (y.0, y.1, y.2) x)
one_message s id message text a b (stuck at code x m e) (stuck at' code' y m' k) =
    let same = one_refusal s id message at at' code code' m m' x y in
    e ∙ ap (λ n. refused text (fault_line n code)) same.0 ∙ ap (λ c. refused text (fault_line at' c))
    same.1 ∙ sym k

message_other : (s t : Schema) (id other : TypeId) (message text : List ℕ) (a : Answer)
    → ShowsAlike s t id other → IsMessageAnswer s id message text a → IsMessageAnswer t other message text a
message_other s t id other message text a h (shown ns x e) = shown ns (h.nodes message ns x) e
message_other s t id other message text a h (stuck at code x m e) = stuck at code
    (h.refusals message at code x) m e

same_some : {X : Type 0} (o : Option X) (a b : X) → o ≡ Some a → o ≡ Some b → a ≡ b
same_some o a b e f = cc

none_some : (o : Option TypeId) (a : TypeId) → o ≡ None → o ≡ Some a → ⊥
none_some o a e f = absurd cc

one_typed : (ds : List (Option Definition)) (s t : Schema) (name message text : List ℕ) (a b : Answer)
    → IsSchemaOf ds s → IsSchemaOf ds t
    → IsTypedAnswer s name message text a → IsTypedAnswer t name message text b → a ≡ b
one_typed ds s t name message text a b h k (no_type x e) (no_type y f) = e ∙ sym f
one_typed ds s t name message text a b h k (no_type x e) (typed id y f) =
    let other = types_show ds t s k h name id y in absurd (none_some (id_named s name) other.0 x other.1)
one_typed ds s t name message text a b h k (typed id x e) (no_type y f) =
    let other = types_show ds s t h k name id x in absurd (none_some (id_named t name) other.0 y other.1)
one_typed ds s t name message text a b h k (typed id x e) (typed id' y f) =
    let other = types_show ds s t h k name id x in
    let same : other.0 ≡ id' = same_some (id_named t name) other.0 id' other.1 y in
    one_message t id' message text a b (subst (λ i. IsMessageAnswer t i message text a) same
    (message_other s t id other.0 message text a other.2 e)) f

none_left : {X : Type 0} (xs : List X) → 0 < length xs → xs ≡ [] → ⊥
none_left [] lt e = omega (arith, lt)
none_left (x ∷ xs) lt e = absurd cc

one_dump : (a b : KnownText) (text : List ℕ) (items : List Item) (name message : List ℕ) (x y : Answer)
    → AreSame a b → IsDumpAnswer a text items name message x → IsDumpAnswer b text items name message y
    → x ≡ y
one_dump a b text items name message x y s (faulty p e) (faulty q f) = e ∙ sym f
one_dump a b text items name message x y s (faulty p e) (faultless t none k q) =
    absurd (none_left (faults_of text items) p none)
one_dump a b text items name message x y s (faultless t none h p) (faulty q f) =
    absurd (none_left (faults_of text items) q none)
one_dump a b text items name message x y s (faultless t none h p) (faultless u none' k q) =
    let same : all_definitions a items ≡ all_definitions b items =
    ap (λ ds. ds ++ definitions_of items) s.definitions in
    one_typed (all_definitions b items) t u name message text x y (subst (λ ds. IsSchemaOf ds t) same h) k p q

-- ---- a line that asks to explain the faults

one_explained : (how : How) (text : List ℕ) (items : List Item) (a b : Answer)
    → IsExplainAnswer how text items a
    → IsExplainAnswer how text items b → a ≡ b
one_explained how text items a b h k =
    let names = same_names h.are_foreign.0 k.are_foreign.0
    (one_known how.files h.are_foreign.0 k.are_foreign.0 h.are_foreign.1 k.are_foreign.1) in
    let foreign : h.foreign ≡ k.foreign =
    h.are_foreign.2 ∙ ap (λ n. foreign_names how.from n text items) names ∙ sym k.are_foreign.2 in
    let t = telling_of how.file text in
    let same = one_explanation how.places k.foreign t items h.said k.said
    (subst (λ f. AreExplained how.places f t items h.said) foreign h.are_explained) k.are_explained in
    h.answer_is ∙ ap (λ s. answered text (explained_answer (length (faults_of text items)) s)) same
    ∙ sym k.answer_is

-- it asks to show no value
explains_no_value : (line : List ℕ) → explain_asked line ≡ true → dump_asked line ≡ None
explains_no_value line is = ap dump_asked ((bytes_eq-Decides line (codes "explain")).0 is)

-- ---- a line that asks for names that clash

one_clash : (how : How) (text : List ℕ) (items : List Item) (a b : Answer) → IsClashAnswer how text items a
    → IsClashAnswer how text items b → a ≡ b
one_clash how text items a b (clashing.faulty p e) (clashing.faulty q f) = e ∙ sym f
one_clash how text items a b (clashing.faulty p e) (clashing.faultless ws none are f) =
    absurd (none_left (faults_of text items) p none)
one_clash how text items a b (clashing.faultless ws none are e) (clashing.faulty q f) =
    absurd (none_left (faults_of text items) q none)
one_clash how text items a b (clashing.faultless ws none are e) (clashing.faultless others none' are' f) =
    e ∙ ap (λ l. answered text (clashes_answer how.file l)) (one_warnings text items ws others are are')
    ∙ sym f

-- it asks for nothing else
clashes_no_value : (line : List ℕ) → clashes_asked line ≡ true → dump_asked line ≡ None
clashes_no_value line is = ap dump_asked ((bytes_eq-Decides line (codes "clashes")).0 is)

clashes_no_reason : (line : List ℕ) → clashes_asked line ≡ true → explain_asked line ≡ false
clashes_no_reason line is = ap explain_asked ((bytes_eq-Decides line (codes "clashes")).0 is)

-- ---- a line

asked_both : {X Y : Type 0} (o : Option (X × Y)) (a c : X) (b d : Y) → o ≡ Some (a, b) → o ≡ Some (c, d)
    → (a ≡ c) × (b ≡ d)
asked_both o a c b d e f = let same = same_some o (a, b) (c, d) e f in (
  ap (λ p. p.0) same,
  ap (λ p. p.1)
      same,
)

asked_none : {X : Type 0} (o : Option X) (a : X) → o ≡ None → o ≡ Some a → ⊥
asked_none o a e f = absurd cc

both_ways : (b : Bool) → b ≡ true → b ≡ false → ⊥
both_ways b is not = absurd cc

too_much : (n m : ℕ) → n ≤ m → m < n → ⊥
too_much n m le lt = omega (arith, le, lt)

-- what holds over what stands before a text has one answer, if it has one over each known text
one_over : (how : How) (text : List ℕ) (P Q : KnownText → List Item → Type 0) (a b : Answer)
    → ((k l : KnownText) (items : List Item) → AreSame k l → P k items → Q l items → a ≡ b)
    → Over how text P → Over how text Q → a ≡ b
one_over how text P Q a b each h k =
    let same = one_before how.files how.from text h.0 k.0 h.1 k.1 in
    let c = h.2 in
    let d = k.2 in
    let items = (one_compilation k.0 text c.0 d.0 c.1 d.1 (over_other h.0 k.0 text c.0 c.1 same c.2) d.2).1 in
    each h.0 k.0 d.1 same (subst (P h.0) items c.3) d.3

one_command : (how : How) (text : List ℕ) (command : Command) (a b : Answer)
    → IsCommandAnswer how text command a
    → IsCommandAnswer how text command b → a ≡ b
one_command how text command a b (alone p) (alone q) = p [] ∙ sym (q [])
one_command how text command a b (alone p) (asks q) = p q.2.1 ∙ sym q.2.3
one_command how text command a b (asks p) (alone q) = p.2.3 ∙ sym (q p.2.1)
one_command how text command a b (asks p) (asks q) = one_over how text
    (λ known items. a ≡ answer how.base text items command)
    (λ known items. b ≡ answer how.base text items command)
    a b (λ k l items same e f. e ∙ sym f) p q

-- the definition of a name leads to one name of C first
one_led : (ds : List (Option Definition)) (from : ℕ) (p q : ℕ → Bool) → AreLed ds from p → AreLed ds from q
    → p ≡ q
one_led ds from p q h k = λ i n. same n i
  where
    either : (n : ℕ) (a b : Bool) → p n ≡ a → q n ≡ b → p n ≡ q n
    either n true b e f = e ∙ sym (k.all n (h.leads n e))
    either n false true e f = absurd (both_ways (p n) (h.all n (k.leads n f)) e)
    either n false false e f = e ∙ sym f

    same : (n : ℕ) → p n ≡ q n
    same n = either n (p n) (q n) refl refl

one_use_by : (known : KnownNames) (from : FromC) (text : List ℕ) (items : List Item) (name : List ℕ)
    (x y : Option Spot) → IsForeignUseBy known from text items name x
    → IsForeignUseBy known from text items name y → x ≡ y
one_use_by known from text items name x y (not_taken a e) (not_taken b f) = e ∙ sym f
one_use_by known from text items name x y (not_taken a e) (undeclared b f) = e ∙ sym f
one_use_by known from text items name x y (not_taken a e) (declared b at is led are f) =
    absurd (both_ways from.foreign b a)
one_use_by known from text items name x y (undeclared a e) (not_taken b f) = e ∙ sym f
one_use_by known from text items name x y (undeclared a e) (undeclared b f) = e ∙ sym f
one_use_by known from text items name x y (undeclared a e) (declared b at is led are f) =
    absurd (asked_none (first_declarer (definitions_of items) name) at a is)
one_use_by known from text items name x y (declared a at is led are e) (not_taken b f) =
    absurd (both_ways from.foreign a b)
one_use_by known from text items name x y (declared a at is led are e) (undeclared b f) =
    absurd (asked_none (first_declarer (definitions_of items) name) at b is)
one_use_by known from text items name x y (declared a at is led are e) (declared b at' is' led' are' f) =
    let ds = definitions_of items in
    let one : at ≡ at' = same_some (first_declarer ds name) at at' is is' in
    let tests : led ≡ led' = one_led ds at'.item led led'
    (subst (λ (d : Declarer). AreLed ds d.item led) one are) are' in
    e ∙ ap (λ t. option_and_then (spot_of text items) (first_led t (foreign_uses from known ds))) tests
    ∙ sym f

one_use : (files : List ℕ) (from : FromC) (text : List ℕ) (items : List Item) (name : List ℕ)
    (x y : Option Spot) → IsForeignUse files from text items name x
    → IsForeignUse files from text items name y
    → x ≡ y
one_use files from text items name x y h k =
    let same = same_names h.0 k.0 (one_known files h.0 k.0 h.1 k.1) in
    one_use_by (known_names k.0) from text items name x y
    (subst (λ n. IsForeignUseBy n from text items name x) same h.2) k.2

no_spot : (o : Option Spot) (spot : Spot) → o ≡ None → o ≡ Some spot → ⊥
no_spot o spot e f = absurd cc

-- by the items of one text a value is shown in one way
one_shown : (how : How) (a b : KnownText) (text : List ℕ) (items : List Item) (name message : List ℕ)
    (x y : Answer) → AreSame a b → IsShownBy how a text items name message x
    → IsShownBy how b text items name message y → x ≡ y
one_shown how a b text items name message x y s (answers.faulty p e) (answers.faulty q f) = e ∙ sym f
one_shown how a b text items name message x y s (answers.faulty p e) (leads spot none u f) =
    absurd (none_left (faults_of text items) p none)
one_shown how a b text items name message x y s (answers.faulty p e) (stands none u f) =
    absurd (none_left (faults_of text items) p none)
one_shown how a b text items name message x y s (leads spot none t e) (answers.faulty q f) =
    absurd (none_left (faults_of text items) q none)
one_shown how a b text items name message x y s (leads spot none t e) (leads spot' none' u f) =
    let same : Some spot ≡ Some spot' = one_use how.files how.from text items name (Some spot)
    (Some spot') t u in
    e ∙ ap (λ (at : Spot). refused text (unknown_line at)) (same_some (Some spot) spot spot' refl same)
    ∙ sym f
one_shown how a b text items name message x y s (leads spot none t e) (stands none' u f) =
    absurd (no_spot (Some spot) spot (one_use how.files how.from text items name (Some spot) None t u) refl)
one_shown how a b text items name message x y s (stands none t e) (answers.faulty q f) =
    absurd (none_left (faults_of text items) q none)
one_shown how a b text items name message x y s (stands none t e) (leads spot none' u f) =
    absurd (no_spot (Some spot) spot (one_use how.files how.from text items name (Some spot) None u t) refl)
one_shown how a b text items name message x y s (stands none t e) (stands none' u f) =
    one_dump a b text items name message x y s e f

one_dumped : (how : How) (text name message : List ℕ) (a b : Answer) → IsDumped how text name message a
    → IsDumped how text name message b → a ≡ b
one_dumped how text name message a b (hidden is e) (hidden is' f) = e ∙ sym f
one_dumped how text name message a b (hidden is e) (read is' f) = absurd (both_ways how.is_plain is' is)
one_dumped how text name message a b (read is e) (hidden is' f) = absurd (both_ways how.is_plain is is')
one_dumped how text name message a b (read is e) (read is' f) = one_over how text
    (λ known items. IsShownBy how known text items name message a)
    (λ known items. IsShownBy how known text items name message b) a b
    (λ k l items alike p q. one_shown how k l text items name message a b alike p q) e f

pub one_line : (how : How) (text line : List ℕ) (a b : Answer) → IsLineAnswer how text line a
    → IsLineAnswer how text line b → a ≡ b
one_line how text line a b (within x none unasked free e) (within y none' unasked' free' f) =
    one_command how text (command_of line) a b e f
one_line how text line a b (within x none unasked free e) (shows name message y asked f) =
    absurd (asked_none (dump_asked line) (name, message) none asked)
one_line how text line a b (within x none unasked free e) (explains y is f) =
    absurd (both_ways (explain_asked line) is unasked)
one_line how text line a b (within x none unasked free e) (clashes y is f) =
    absurd (both_ways (clashes_asked line) is free)
one_line how text line a b (within x none unasked free e) (too_long y f) =
    absurd (too_much (length line) _ x y)
one_line how text line a b (shows name message x asked e) (within y none unasked free f) =
    absurd (asked_none (dump_asked line) (name, message) none asked)
one_line how text line a b (shows name message x asked e) (shows name' message' y asked' f) =
    let same = asked_both (dump_asked line) name name' message message' asked asked' in
    one_dumped how text name' message' a b
    (subst (λ n. IsDumped how text n message' a) same.0 (subst (λ m. IsDumped how text name m a) same.1 e)) f
one_line how text line a b (shows name message x asked e) (explains y is f) =
    absurd (asked_none (dump_asked line) (name, message) (explains_no_value line is) asked)
one_line how text line a b (shows name message x asked e) (clashes y is f) =
    absurd (asked_none (dump_asked line) (name, message) (clashes_no_value line is) asked)
one_line how text line a b (shows name message x asked e) (too_long y f) =
    absurd (too_much (length line) _ x y)
one_line how text line a b (explains x is e) (within y none unasked free f) =
    absurd (both_ways (explain_asked line) is unasked)
one_line how text line a b (explains x is e) (shows name message y asked f) =
    absurd (asked_none (dump_asked line) (name, message) (explains_no_value line is) asked)
one_line how text line a b (explains x is e) (explains y is' f) = one_over how text
    (λ known items. IsExplainAnswer how text items a) (λ known items. IsExplainAnswer how text items b) a b
    (λ k l items same p q. one_explained how text items a b p q) e f
one_line how text line a b (explains x is e) (clashes y is' f) =
    absurd (both_ways (explain_asked line) is (clashes_no_reason line is'))
one_line how text line a b (explains x is e) (too_long y f) = absurd (too_much (length line) _ x y)
one_line how text line a b (clashes x is e) (within y none unasked free f) =
    absurd (both_ways (clashes_asked line) is free)
one_line how text line a b (clashes x is e) (shows name message y asked f) =
    absurd (asked_none (dump_asked line) (name, message) (clashes_no_value line is) asked)
one_line how text line a b (clashes x is e) (explains y is' f) =
    absurd (both_ways (explain_asked line) is' (clashes_no_reason line is))
one_line how text line a b (clashes x is e) (clashes y is' f) = one_over how text
    (λ known items. IsClashAnswer how text items a) (λ known items. IsClashAnswer how text items b) a b
    (λ k l items same p q. one_clash how text items a b p q) e f
one_line how text line a b (clashes x is e) (too_long y f) = absurd (too_much (length line) _ x y)
one_line how text line a b (too_long x e) (within y none unasked free f) =
    absurd (too_much (length line) _ y x)
one_line how text line a b (too_long x e) (shows name message y asked f) =
    absurd (too_much (length line) _ y x)
one_line how text line a b (too_long x e) (explains y is f) = absurd (too_much (length line) _ y x)
one_line how text line a b (too_long x e) (clashes y is f) = absurd (too_much (length line) _ y x)
one_line how text line a b (too_long x e) (too_long y f) = e ∙ sym f

-- ---- a script

pub one_script : (how : How) (text : List ℕ) (lines : List (List ℕ)) (a b : Answer)
    → AreAnswered how text lines a → AreAnswered how text lines b → a ≡ b
one_script how text [] a b h k = h ∙ sym k
one_script how text (line ∷ lines) a b h k =
    let one : h.0 ≡ k.0 = one_line how text line h.0 k.0 h.1 k.1 in
    let rest : h.2.0 ≡ k.2.0 = one_script how k.0.text lines h.2.0 k.2.0
    (subst (λ t. AreAnswered how t lines h.2.0) (ap (λ x. x.text) one) h.2.1) k.2.1 in
    h.2.2 ∙ ap (λ x. then_answer x h.2.0) one ∙ ap (then_answer k.0) rest ∙ sym k.2.2
