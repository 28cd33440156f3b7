-- Each procedure of a text without a fault has its numbers, and a schema has the first of its numbers.
use Rattle.std.proofs.Common.{◌≡◌, ◌^◌, ◌⊎◌, inl, inr, ℕ, zero, suc, ℤ, pos, negsuc, Bool, true, false}
use Rattle.std.proofs.Common.{cond, map, List, [], ◌∷◌, ◌++◌, length, Option, None, Some, refl, sym, ap}
use Rattle.std.proofs.Common.{subst, ◌∙◌, arith}
use Rattle.std.specs.Prelude.{is_some, nat_le, nat_lt, neg_ℤ, option_and_then}
use Rattle.std.specs.List.{IsAmong, flat_map}
use Rattle.std.specs.Map.{lookup}
use Rattle.std.proofs.lemmas.Bool.Decides.{nat_tests}
use Rattle.std.proofs.lemmas.Option.{slice_get_read}
use Rattle.x_lex.specs.declared.mark.Mark.{Mark}
use Rattle.x_lex.specs.declared.mark.Mark.TheVariants as marks
use Rattle.x_trees.specs.Tree as tree
use Rattle.x_trees.specs.Tree.{Definition}
use Rattle.x_trees.specs.Words.{Fixed, Name, Number}
use Rattle.x_trees.specs.Gloss.{Gloss, ProcedureNumber, ProgramNumber, Role, VersionNumber, gloss, glossed}
use Rattle.x_trees.specs.Gloss.{others_by, passed_by, procedure_by, procedures_by, version_by}
use Rattle.x_trees.specs.Gloss.{versions_by}
use Rattle.x_trees.specs.Gloss.{Declares, ProcedureName, VersionName, VoidArgument, VoidResult}
use Rattle.x_trees.specs.declared.names.declared_name.NameKind.TheVariants as kinds
use Rattle.x_trees.proofs.AmongLemmas.{among_cases, among_first, among_front, among_more, among_none}
use Rattle.x_trees.proofs.AmongLemmas.{among_parts, among_rear}
use Rattle.x_numbers.specs.Numbers.{in_range, is_negative, is_word_number, magnitude, value}
use Rattle.x_rules.specs.Results.{AreResults, Outcome, no_names}
use Rattle.x_rules.specs.Rules.{HasRole, IsNoNumber, number_role}
use Rattle.x_rules.specs.declared.fault.RuleCode.TheVariants as rule_codes
use Rattle.x_schema.specs.ProceduresOf.{AreProceduresBehind, Numbered, Table, word_spelled, numbers_by}
use Rattle.x_schema.specs.ProceduresOf.{numbers_from, procedures_declared, procedures_in, procedures_of}
use Rattle.x_schema.specs.ProceduresOf.{with_procedure}
use Rattle.x_schema.specs.Schema.{Schema, procedure_at, same_numbers}
use Rattle.x_schema.specs.Schemas.{IsSchemaOf}
use Rattle.x_schema.specs.SchemaOf.{unsigned_word}
use Rattle.x_schema.specs.declared.procedure.CompactProcedure.{CompactProcedure}
use Rattle.x_schema.specs.declared.procedure.ProcedureNumbers.{ProcedureNumbers}
use Rattle.x_laws.specs.Meant.{AreFaultless, HasProcedure, IsFirstOfNumbers}
use Rattle.x_laws.proofs.GoodNumbers.{IsFine, no_fault}

-- ---- the first of its numbers

front_found : (test : ProcedureNumbers → Bool) (table rest : Table) (k : CompactProcedure)
    → lookup test table ≡ Some k → lookup test (table ++ rest) ≡ Some k
front_found test [] rest k h = absurd cc
front_found test (e ∷ es) rest k h = by (test e.0) h (λ m. front_found test es rest k m)
  where
    by : (b : Bool) → cond b (Some e.1) (lookup test es) ≡ Some k
        → (lookup test es ≡ Some k → lookup test (es ++ rest) ≡ Some k)
        → cond b (Some e.1) (lookup test (es ++ rest)) ≡ Some k
    by true m next = m
    by false m next = next m

rear_found : (test : ProcedureNumbers → Bool) (table rest : Table) → lookup test table ≡ None
    → lookup test (table ++ rest) ≡ lookup test rest
rear_found test [] rest h = refl
rear_found test (e ∷ es) rest h = by (test e.0) h (λ m. rear_found test es rest m)
  where
    by : (b : Bool) → cond b (Some e.1) (lookup test es) ≡ None
        → (lookup test es ≡ None → lookup test (es ++ rest) ≡ lookup test rest)
        → cond b (Some e.1) (lookup test (es ++ rest)) ≡ lookup test rest
    by true m next = absurd cc
    by false m next = next m

-- numbers that a table has stay there
stays : (o : Option ProcedureNumbers) (table : Table) (x : CompactProcedure) (numbers : ProcedureNumbers)
    (k : CompactProcedure) → lookup (same_numbers numbers) table ≡ Some k
    → lookup (same_numbers numbers) (with_procedure table o x) ≡ Some k
stays None table x numbers k has = has
stays (Some n) table x numbers k has = by (is_some (lookup (same_numbers n) table))
  where
    by : (b : Bool) → lookup (same_numbers numbers) (cond b table (table ++ (n, x) ∷ [])) ≡ Some k
    by true = has
    by false = front_found (same_numbers numbers) table ((n, x) ∷ []) k has

kept_in : (s : Schema) (numbers : ProcedureNumbers) (k : CompactProcedure) (table : Table)
    (ps : List Numbered) → AreProceduresBehind s table ps → lookup (same_numbers numbers) table ≡ Some k
    → procedure_at s numbers ≡ Some k
kept_in s numbers k table [] are has = ap (lookup (same_numbers numbers)) are ∙ has
kept_in s numbers k table (p ∷ ps) are has =
    kept_in s numbers k (with_procedure table (numbers_by p) are.0) ps are.2
    (stays (numbers_by p) table are.0 numbers k has)

one_number : (a b : ProcedureNumbers) → same_numbers a b ≡ true → a ≡ b
one_number a b is =
    let program : a.program ≡ b.program = grind (arith, nat_tests) in
    let version : a.version ≡ b.version = grind (arith, nat_tests) in
    let procedure : a.procedure ≡ b.procedure = grind (arith, nat_tests) in
    λ i. record { program = program i; version = version i; procedure = procedure i }

same_self : (a : ProcedureNumbers) → same_numbers a a ≡ true
same_self a = grind (arith, nat_tests)

-- others do not come by a procedure that has none of them
still : (o : Option ProcedureNumbers) (table : Table) (x : CompactProcedure) (numbers : ProcedureNumbers)
    → (o ≡ Some numbers → ⊥) → lookup (same_numbers numbers) table ≡ None
    → lookup (same_numbers numbers) (with_procedure table o x) ≡ None
still None table x numbers other none = none
still (Some n) table x numbers other none = by (is_some (lookup (same_numbers n) table))
  where
    differs : (b : Bool) → same_numbers numbers n ≡ b → b ≡ false
    differs true same = absurd (other (ap Some (sym (one_number numbers n same))))
    differs false same = refl

    by : (b : Bool) → lookup (same_numbers numbers) (cond b table (table ++ (n, x) ∷ [])) ≡ None
    by true = none
    by false =
        rear_found (same_numbers numbers) table ((n, x) ∷ []) none
        ∙ ap (λ b. cond b (Some x) None) (differs (same_numbers numbers n) refl)

first_in : (s : Schema) (numbers : ProcedureNumbers) (table : Table) (front rear : List Numbered)
    (p : Numbered) → AreProceduresBehind s table (front ++ p ∷ rear)
    → lookup (same_numbers numbers) table ≡ None → numbers_by p ≡ Some numbers
    → ((q : Numbered) → IsAmong front q → numbers_by q ≡ Some numbers → ⊥)
    → HasProcedure s numbers p.procedure
first_in s numbers table [] rear p are none is others = record {
  kept = are.0;
  found = kept_in s numbers are.0 (with_procedure table (numbers_by p) are.0) rear are.2 here;
  is_procedure = are.1;
}
  where
    here : lookup (same_numbers numbers) (with_procedure table (numbers_by p) are.0) ≡ Some are.0
    here =
        ap (λ o. lookup (same_numbers numbers) (with_procedure table o are.0)) is
        ∙ ap (λ o. lookup (same_numbers numbers)
        (cond (is_some o) table (table ++ (numbers, are.0) ∷ []))) none
        ∙ rear_found (same_numbers numbers) table ((numbers, are.0) ∷ []) none
        ∙ ap (λ b. cond b (Some are.0) None) (same_self numbers)
first_in s numbers table (q ∷ front) rear p are none is others =
    first_in s numbers (with_procedure table (numbers_by q) are.0) front rear p are.2
    (still (numbers_by q) table are.0 numbers (others q (among_first q front)) none) is
    (λ r among. others r (among_more q r front among))

pub first_of_numbers : (definitions : List (Option Definition)) (s : Schema) → IsSchemaOf definitions s
    → (p : Numbered) (numbers : ProcedureNumbers) → IsFirstOfNumbers definitions p numbers
    → HasProcedure s numbers p.procedure
first_of_numbers definitions s is p numbers first =
    first_in s numbers [] first.front first.rear p
    (subst (AreProceduresBehind s []) first.parts is.procedures)
    refl first.numbers_are first.none_before

-- ---- and no others

-- numbers that a table has with one more are those of that one, or the table had them
came : (o : Option ProcedureNumbers) (table : Table) (x : CompactProcedure) (numbers : ProcedureNumbers)
    (k : CompactProcedure) → lookup (same_numbers numbers) (with_procedure table o x) ≡ Some k
    → (lookup (same_numbers numbers) table ≡ Some k) ⊎ (o ≡ Some numbers)
came None table x numbers k has = inl has
came (Some n) table x numbers k has = by (is_some (lookup (same_numbers n) table)) has
  where
    last : (b : Bool) → same_numbers numbers n ≡ b → cond b (Some x) None ≡ Some k → Some n ≡ Some numbers
    last true same e = ap Some (sym (one_number numbers n same))
    last false same e = absurd cc

    behind : (o : Option CompactProcedure) → lookup (same_numbers numbers) table ≡ o
        → lookup (same_numbers numbers) (table ++ (n, x) ∷ []) ≡ Some k
        → (lookup (same_numbers numbers) table ≡ Some k) ⊎ (Some n ≡ Some numbers)
    behind (Some y) is e =
        inl (is ∙ sym (front_found (same_numbers numbers) table ((n, x) ∷ []) y is) ∙ e)
    behind None is e =
        inr (last (same_numbers numbers n) refl
        (sym (rear_found (same_numbers numbers) table ((n, x) ∷ []) is) ∙ e))

    by : (b : Bool) → lookup (same_numbers numbers) (cond b table (table ++ (n, x) ∷ [])) ≡ Some k
        → (lookup (same_numbers numbers) table ≡ Some k) ⊎ (Some n ≡ Some numbers)
    by true e = inl e
    by false e = behind (lookup (same_numbers numbers) table) refl e

-- a procedure of the text has the numbers
abbrev IsOfOne : List Numbered → ProcedureNumbers → Type 0
IsOfOne ps numbers = (p : Numbered) × IsAmong ps p × (numbers_by p ≡ Some numbers)

only_in : (s : Schema) (numbers : ProcedureNumbers) (k : CompactProcedure) (table : Table)
    (ps : List Numbered) → AreProceduresBehind s table ps → procedure_at s numbers ≡ Some k
    → (lookup (same_numbers numbers) table ≡ Some k) ⊎ IsOfOne ps numbers
only_in s numbers k table [] are has = inl (sym (ap (lookup (same_numbers numbers)) are) ∙ has)
only_in s numbers k table (p ∷ ps) are has =
    by (only_in s numbers k (with_procedure table (numbers_by p) are.0) ps are.2 has)
  where
    here : (lookup (same_numbers numbers) table ≡ Some k) ⊎ (numbers_by p ≡ Some numbers)
        → (lookup (same_numbers numbers) table ≡ Some k) ⊎ IsOfOne (p ∷ ps) numbers
    here (inl found) = inl found
    here (inr is) = inr (p, among_first p ps, is)

    by : (lookup (same_numbers numbers)
        (with_procedure table (numbers_by p) are.0) ≡ Some k) ⊎ IsOfOne ps numbers
        → (lookup (same_numbers numbers) table ≡ Some k) ⊎ IsOfOne (p ∷ ps) numbers
    by (inl found) = here (came (numbers_by p) table are.0 numbers k found)
    by (inr rest) = inr (rest.0, among_more p rest.0 ps rest.1, rest.2)

pub no_other : (definitions : List (Option Definition)) (s : Schema) → IsSchemaOf definitions s
    → (numbers : ProcedureNumbers) (k : CompactProcedure) → procedure_at s numbers ≡ Some k
    → IsOfOne (procedures_of definitions) numbers
no_other definitions s is numbers k has = by
    (only_in s numbers k [] (procedures_of definitions) is.procedures has)
  where
    by : (lookup (same_numbers numbers) [] ≡ Some k) ⊎ IsOfOne (procedures_of definitions) numbers
        → IsOfOne (procedures_of definitions) numbers
    by (inl found) = absurd cc
    by (inr one) = one

-- ---- numbers of 32 bits

word_in_range : (text : List ℕ) → is_word_number (value text) ≡ true → in_range text ≡ true
unfolding value in_range
word_in_range text is = by (is_negative text) (magnitude text) is
  where
    by : (b : Bool) (m : ℕ) → is_word_number (cond b (neg_ℤ (pos m)) (pos m)) ≡ true
        → cond b (nat_le m (2 ^ 63)) (nat_lt m (2 ^ 64)) ≡ true
    by true zero is = refl
    by true (suc m) is = absurd cc
    by false m is = grind (arith, nat_tests)

word_of : (z : ℤ) → is_word_number z ≡ true → (n : ℕ) × (unsigned_word z ≡ Some n)
word_of (pos n) is = (n, ap (λ b. cond b (Some n) None) is)
word_of (negsuc n) is = absurd cc

number_known : (text : List ℕ) → is_word_number (value text) ≡ true → (n : ℕ) × (word_spelled text ≡ Some n)
number_known text is =
    let w = word_of (value text) is in (
      w.0,
      ap (λ b. option_and_then unsigned_word (cond b (Some (value text)) None)) (word_in_range text is)
          ∙ w.1,
    )

-- ---- the words of a program's numbers

abbrev pub IsThere : Definition → Role → Type 0
IsThere d role = (word : ℕ) × HasRole d word role

pub there : (d : Definition) (g : Gloss) (role : Role) → IsAmong (gloss d) g → g.roles ≡ role ∷ []
    → IsThere d role
there d g role (i, h) one = (
  i,
  record {
    gloss_at = g;
    word_is = slice_get_read (gloss d) (length (gloss d)) i g refl h.0 h.1;
    has = subst (λ l. IsAmong l role) (sym one) (among_first role []);
  },
)

-- the gloss of a number
abbrev pub numbered : List ℕ → Role → Gloss
numbered text role = glossed (Number text) (role ∷ [])

-- it stands behind `}` or `)`, and `=`
abbrev ended : List ℕ → Role → Gloss → List Gloss
ended text role close = close ∷ glossed (Fixed marks.Equals) [] ∷ numbered text role ∷ glossed
    (Fixed marks.Semicolon) [] ∷ []

at_end : (text : List ℕ) (role : Role) (close : Gloss) → IsAmong (ended text role close) (numbered text role)
at_end text role close = (2, (omega arith, refl))

abbrev brace : Gloss
brace = glossed (Fixed marks.CloseBrace) []

abbrev parenthesis : Gloss
parenthesis = glossed (Fixed marks.CloseParenthesis) []

in_procedure : (p : tree.Procedure)
    → IsAmong (procedure_by glossed true p) (numbered p.number (ProcedureNumber p.number))
in_procedure p =
    let g = numbered p.number (ProcedureNumber p.number) in
    let passed =
    passed_by glossed true (VoidArgument (length p.others) ∷ []) p.first
    ++ others_by glossed true p.others in
    let last = ended p.number (ProcedureNumber p.number) parenthesis in
    let name = glossed (Name p.name) (ProcedureName p.name ∷ []) in
    let opening = glossed (Fixed marks.OpenParenthesis) [] in
    among_rear (passed_by glossed true (VoidResult ∷ []) p.result) (name ∷ opening ∷ (passed ++ last)) g
    (among_more name g (opening ∷ (passed ++ last)) (among_more opening g (passed ++ last)
    (among_rear passed last g (at_end p.number (ProcedureNumber p.number) parenthesis))))

pub in_procedures : (ps : List tree.Procedure) (p : tree.Procedure) → IsAmong ps p
    → IsAmong (procedures_by glossed true ps) (numbered p.number (ProcedureNumber p.number))
in_procedures [] p among = absurd (among_none p among)
in_procedures (x ∷ xs) p among = by (among_cases x p xs among) (λ rest. in_procedures xs p rest)
  where
    g : Gloss
    g = numbered p.number (ProcedureNumber p.number)

    by : (p ≡ x) ⊎ IsAmong xs p → (IsAmong xs p → IsAmong (procedures_by glossed true xs) g)
        → IsAmong (procedures_by glossed true (x ∷ xs)) g
    by (inl is) next =
        among_front (procedure_by glossed true x) (procedures_by glossed true xs) g
        (subst (λ y. IsAmong (procedure_by glossed true y) g) is (in_procedure p))
    by (inr rest) next = among_rear (procedure_by glossed true x) (procedures_by glossed true xs) g
        (next rest)

-- what stands in braces behind a keyword and a name, and the number behind the braces
in_braces : (keyword : Mark) (name text : List ℕ) (roles : List Role) (role : Role) (inside : List Gloss)
    (g : Gloss) → IsAmong inside g ⊎ (g ≡ numbered text role)
    → IsAmong (glossed (Fixed keyword) [] ∷ glossed (Name name) roles ∷ glossed (Fixed marks.OpenBrace) []
    ∷ (inside ++ ended text role brace)) g
in_braces keyword name text roles role inside g which =
    among_more (glossed (Fixed keyword) []) g (own ∷ opening ∷ (inside ++ last))
    (among_more own g (opening ∷ (inside ++ last)) (among_more opening g (inside ++ last) (by which)))
  where
    own : Gloss
    own = glossed (Name name) roles

    opening : Gloss
    opening = glossed (Fixed marks.OpenBrace) []

    last : List Gloss
    last = ended text role brace

    by : IsAmong inside g ⊎ (g ≡ numbered text role) → IsAmong (inside ++ last) g
    by (inl among) = among_front inside last g among
    by (inr is) = among_rear inside last g (subst (IsAmong last) (sym is) (at_end text role brace))

-- the words of a version: its own number, and those of its procedures
pub in_version : (v : tree.Version) (g : Gloss)
    → IsAmong (procedures_by glossed true v.procedures) g ⊎ (g ≡ numbered v.number (VersionNumber v.number))
    → IsAmong (version_by glossed true v) g
in_version v g which =
    in_braces marks.Version v.name v.number (VersionName v.name ∷ []) (VersionNumber v.number)
    (procedures_by glossed true v.procedures) g which

pub in_versions : (vs : List tree.Version) (v : tree.Version) (g : Gloss) → IsAmong vs v
    → IsAmong (version_by glossed true v) g → IsAmong (versions_by glossed true vs) g
in_versions [] v g among has = absurd (among_none v among)
in_versions (x ∷ xs) v g among has = by (among_cases x v xs among) (λ rest. in_versions xs v g rest has)
  where
    by : (v ≡ x) ⊎ IsAmong xs v → (IsAmong xs v → IsAmong (versions_by glossed true xs) g)
        → IsAmong (versions_by glossed true (x ∷ xs)) g
    by (inl is) next =
        among_front (version_by glossed true x) (versions_by glossed true xs) g
        (subst (λ y. IsAmong (version_by glossed true y) g) is has)
    by (inr rest) next = among_rear (version_by glossed true x) (versions_by glossed true xs) g (next rest)

-- the words of a program: its own number, and those of its versions
pub in_program : (name number : List ℕ) (versions : List tree.Version) (g : Gloss)
    → IsAmong (versions_by glossed true versions) g ⊎ (g ≡ numbered number (ProgramNumber number))
    → IsAmong (gloss (tree.Program name versions number)) g
in_program name number versions g which =
    in_braces marks.Program name number (Declares name kinds.Program false ∷ []) (ProgramNumber number)
    (versions_by glossed true versions) g which

-- ---- procedures

pub among_flat : {X Y : Type 0} (f : X → List Y) (xs : List X) (y : Y) → IsAmong (flat_map f xs) y
    → (x : X) × IsAmong xs x × IsAmong (f x) y
among_flat f [] y h = absurd (among_none y h)
among_flat {X} {Y} f (x ∷ xs) y h = by (among_parts (f x) (flat_map f xs) y h) (λ k. among_flat f xs y k)
  where
    by : IsAmong (f x) y ⊎ IsAmong (flat_map f xs) y
        → (IsAmong (flat_map f xs) y → (z : X) × IsAmong xs z × IsAmong (f z) y)
        → (z : X) × IsAmong (x ∷ xs) z × IsAmong (f z) y
    by (inl here) next = (x, among_first x xs, here)
    by (inr rest) next = let r = next rest in (r.0, among_more x r.0 xs r.1, r.2)

pub among_mapped : {X Y : Type 0} (f : X → Y) (xs : List X) (y : Y) → IsAmong (map f xs) y
    → (x : X) × IsAmong xs x × (y ≡ f x)
among_mapped f [] y h = absurd (among_none y h)
among_mapped {X} {Y} f (x ∷ xs) y h = by (among_cases (f x) y (map f xs) h) (λ k. among_mapped f xs y k)
  where
    by : (y ≡ f x) ⊎ IsAmong (map f xs) y → (IsAmong (map f xs) y → (z : X) × IsAmong xs z × (y ≡ f z))
        → (z : X) × IsAmong (x ∷ xs) z × (y ≡ f z)
    by (inl is) next = (x, among_first x xs, is)
    by (inr rest) next = let r = next rest in (r.0, among_more x r.0 xs r.1, r.2)

-- the words of a procedure's three numbers
record AreThere (d : Definition) (p : Numbered) : Type 0 where
  program : IsThere d (ProgramNumber p.program)
  version : IsThere d (VersionNumber p.version)
  procedure : IsThere d (ProcedureNumber p.procedure.number)

are_there : (d : Definition) (p : Numbered) → IsAmong (procedures_declared (Some d)) p → AreThere d p
are_there (tree.Const name value) p among = absurd (among_none p among)
are_there (tree.Typedef d) p among = absurd (among_none p among)
are_there (tree.NewType name body) p among = absurd (among_none p among)
are_there (tree.Program name versions number) p among =
    let at = among_flat (procedures_in number) versions p among in
    let v = at.0 in
    let one =
    among_mapped
    (λ q. record { program = number; version = v.number; procedure = q }) v.procedures p at.2 in
    let q = one.0 in
    let d = tree.Program name versions number in
    let own = numbered number (ProgramNumber number) in
    let theirs = numbered v.number (VersionNumber v.number) in
    let last = numbered q.number (ProcedureNumber q.number) in
    subst (AreThere d) (sym one.2) (record {
      program = there d own (ProgramNumber number) (in_program name number versions own (inr refl)) refl;
      version =
          there d theirs (VersionNumber v.number)
          (in_program name number versions theirs
          (inl (in_versions versions v theirs at.1 (in_version v theirs (inr refl))))) refl;
      procedure =
          there d last (ProcedureNumber q.number)
          (in_program name number versions last
          (inl (in_versions versions v last at.1
          (in_version v last (inl (in_procedures v.procedures q one.1)))))) refl;
    })

pub number_has : (definitions : List (Option Definition)) (results : List (Option Outcome)) (item : ℕ)
    (d : Definition) (role : Role) (text : List ℕ) → IsFine definitions results item d → IsThere d role
    → number_role role ≡ Some text → (n : ℕ) × (word_spelled text ≡ Some n)
number_has definitions results item d role text h at is = number_known text
    (by (is_word_number (value text)) refl)
  where
    by : (b : Bool) → is_word_number (value text) ≡ b → is_word_number (value text) ≡ true
    by true e = e
    by false e =
        let broken : IsNoNumber d at.0 =
        record { role = role; has_role = at.1; text = text; is_number = is; outside = e } in
        absurd (no_fault definitions results item d at.0 rule_codes.Range h (inr (inr (inl broken))))

pub numbers_have : (definitions : List (Option Definition)) (results : List (Option Outcome)) (item : ℕ)
    (d : Definition) (p : Numbered) → IsFine definitions results item d
    → IsAmong (procedures_declared (Some d)) p → (numbers : ProcedureNumbers) × (numbers_by p ≡ Some numbers)
numbers_have definitions results item d p h has =
    let words = are_there d p has in
    let program =
    number_has definitions results item d (ProgramNumber p.program) p.program h words.program refl in
    let version =
    number_has definitions results item d (VersionNumber p.version) p.version h words.version refl in
    let procedure =
    number_has definitions results item d
    (ProcedureNumber p.procedure.number) p.procedure.number h words.procedure refl in (
      record { program = program.0; version = version.0; procedure = procedure.0 },
      λ k. numbers_from (program.1 k) (version.1 k) (procedure.1 k),
    )

pub each_procedure : (definitions : List (Option Definition)) (results : List (Option Outcome))
    → AreResults no_names definitions results → AreFaultless results → (p : Numbered)
    → IsAmong (procedures_of definitions) p → (numbers : ProcedureNumbers) × (numbers_by p ≡ Some numbers)
each_procedure definitions results are fine p among =
    let at = among_flat procedures_declared definitions p among in
    by at.0 at.1 at.2
  where
    by : (o : Option Definition) → IsAmong definitions o → IsAmong (procedures_declared o) p
        → (numbers : ProcedureNumbers) × (numbers_by p ≡ Some numbers)
    by None item has = absurd (among_none p has)
    by (Some d) (i, item) has =
        let here = slice_get_read definitions (length definitions) i (Some d) refl item.0 item.1 in
        let h : IsFine definitions results i d = record { are = are; fine = fine; there = here } in
        numbers_have definitions results i d p h has
