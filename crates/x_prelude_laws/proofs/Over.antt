-- A text over a known one.
use Rattle.std.proofs.Common.{◌≡◌, ◌⊎◌, inl, inr, ℕ, zero, suc, ◌+◌, Bool, true, false, cond, List, [], ◌∷◌}
use Rattle.std.proofs.Common.{◌++◌, map, Option, Some, None, is_some, arith, refl, sym, ap, subst, ◌∙◌}
use Rattle.std.specs.Prelude.{slice_get}
use Rattle.std.specs.List.{All, IsAmong}
use Rattle.std.proofs.lemmas.List.Elements.{All-nil}
use Rattle.x_lex.specs.declared.kind.Kind.{Kind}
use Rattle.x_lex.specs.Places.{Lexeme}
use Rattle.x_trees.specs.Tree.{Definition}
use Rattle.x_trees.specs.Mentions.{Mention, mentioned}
use Rattle.x_trees.specs.Names.{Declared, declared}
use Rattle.x_trees.specs.Seen.{names_of}
use Rattle.x_trees.proofs.AmongLemmas.{among_cases, among_first, among_more, among_none, among_parts}
use Rattle.x_item.specs.Parse.{Def, Fault, Nothing, Parse}
use Rattle.x_names.specs.Declarers.{declarer_at, first_declarer, first_from, is_beforehand}
use Rattle.x_names.proofs.DeclarerLaws.{first_found}
use Rattle.x_outline.specs.Bodies.{enumerators}
use Rattle.x_rules.specs.Constants.{is_declared_before, limit_of}
use Rattle.x_rules.specs.Mentioned.{fault_of_use, is_no_constant, is_no_type, is_of_faulty, is_too_late}
use Rattle.x_rules.specs.Mentioned.{is_unknown}
use Rattle.x_rules.specs.Results.{AreResults, AreResultsFrom, IsResult, KnownNames, Outcome, no_names}
use Rattle.x_rules.specs.Results.{result_at, view_by}
use Rattle.x_rules.specs.Rules.{AreFaults}
use Rattle.x_rules.specs.Views.{View, seen}
use Rattle.x_rules.specs.declared.fault.RuleCode.TheVariants as rules
use Rattle.x_rules.specs.declared.fault.WordFault.{WordFault}
use Rattle.x_compile.specs.Compile.{IsCompilation, Item, definitions_of, faults_at, faults_from, faults_of}
use Rattle.x_compile.specs.Compile.{item_faults, parsed_definition, placed, rule_faults, token_faults}
use Rattle.x_compile.specs.Known.{KnownText, known_definitions, known_names, nothing_known}
use Rattle.x_compile.proofs.Compiled.{one_compilation}
use Rattle.x_session.specs.Typed.{all_definitions}
use Rattle.x_prelude.specs.Before.{IsKnownOf}
use Rattle.x_prelude.specs.Lacking.{Occurrence, is_lacking, lacking, name_of}
use Rattle.x_prelude.proofs.LackingLemmas.{undeclared}
use Rattle.x_prelude_laws.specs.Over.{DeclareNoneLacking, IsFaultless}
use Rattle.x_prelude_laws.proofs.Alone.{all_among, no_known}
use Rattle.x_prelude_laws.proofs.Ended.{no_parts}
use Rattle.x_prelude_laws.proofs.Joined.{Apart, begins, joined}
use Rattle.x_prelude_laws.proofs.Lacks.{by_tests, in_lacking, is_in_lacking, occurs, occurs_in}
use Rattle.x_prelude_laws.proofs.Nothing.{no_elements}
use Rattle.x_prelude_laws.proofs.Unknown.{SeesDeclared, view_mentioned}

-- ---- the names of an item

-- where a name stands among those that are declared
record IsDeclaredAt (xs : List Declared) (name : List ℕ) : Type 0 where
  place : ℕ
  one : Declared
  is : slice_get xs place ≡ Some one
  named : one.name ≡ name

declared_at : (xs : List Declared) (name : List ℕ) → IsAmong (map (λ (x : Declared). x.name) xs) name
    → IsDeclaredAt xs name
declared_at [] name h = absurd (among_none name h)
declared_at (x ∷ xs) name h =
    by (among_cases x.name name (map (λ (x : Declared). x.name) xs) h) (λ k. declared_at xs name k)
  where
    by : (name ≡ x.name) ⊎ IsAmong (map (λ (x : Declared). x.name) xs) name
        → (IsAmong (map (λ (x : Declared). x.name) xs) name → IsDeclaredAt xs name)
        → IsDeclaredAt (x ∷ xs) name
    by (inl same) next = record { place = 0; one = x; is = refl; named = sym same }
    by (inr k) next =
        let rest = next k in
        record { place = suc rest.place; one = rest.one; is = rest.is; named = rest.named }

-- the mention of a name
record IsMentionedIn (ms : List Mention) (name : List ℕ) : Type 0 where
  one : Mention
  among : IsAmong ms one
  named : one.name ≡ name

mentioned_in : (ms : List Mention) (name : List ℕ) → IsAmong (map (λ (m : Mention). m.name) ms) name
    → IsMentionedIn ms name
mentioned_in [] name h = absurd (among_none name h)
mentioned_in (m ∷ ms) name h =
    by (among_cases m.name name (map (λ (m : Mention). m.name) ms) h) (λ k. mentioned_in ms name k)
  where
    by : (name ≡ m.name) ⊎ IsAmong (map (λ (m : Mention). m.name) ms) name
        → (IsAmong (map (λ (m : Mention). m.name) ms) name → IsMentionedIn ms name)
        → IsMentionedIn (m ∷ ms) name
    by (inl same) next = record { one = m; among = among_first m ms; named = sym same }
    by (inr k) next =
        let rest = next k in
        record { one = rest.one; among = among_more m rest.one ms rest.among; named = rest.named }

-- ---- where the definitions behind declare no name that is lacking

-- a name that an item declares has a first declarer
own_found : (ds : List (Option Definition)) (index : ℕ) (d : Definition) (name : List ℕ)
    → slice_get ds index ≡ Some (Some d) → IsDeclaredAt (declared d) name → is_beforehand name ≡ false
    → first_from 0 ds name ≡ None → ⊥
own_found ds index d name is at free none =
    let found = first_found ds name (declarer_at index at.place at.one) free (record {
      definition = d;
      item_is = is;
      declares = at.is ∙ ap Some (λ i. record {
        name = at.named i;
        word = at.one.word;
        kind = at.one.kind;
        lifted = at.one.lifted;
      });
    }) in
    let some = found.1 in absurd (cc)

-- a name that it mentions is declared there, or not behind
mention_apart : (ds es : List (Option Definition)) (index : ℕ) (d : Definition) (m : Mention)
    → DeclareNoneLacking ds es → slice_get ds index ≡ Some (Some d) → IsAmong (mentioned d) m
    → is_beforehand m.name ≡ false → first_from 0 ds m.name ≡ None → first_from 0 es m.name ≡ None
mention_apart ds es index d m apart is among free none =
    let o = occurs 0 ds index d m is among in
    let undeclared : is_some (first_declarer ds m.name) ≡ false =
    ap (λ b. is_some (cond b None (first_from 0 ds m.name))) free ∙ ap is_some none in
    let tests : is_lacking no_names (first_declarer ds) m.name ≡ true =
    by_tests no_names (first_declarer ds) m.name
    (record { free = free; unknown = refl; undeclared = undeclared }) in
    let there = is_in_lacking no_names ds o.occurrence o.among
    (ap (λ (x : Mention). is_lacking no_names (first_declarer ds) x.name) o.is ∙ tests) in
    let gone = all_among (λ (x : Occurrence). first_declarer es (name_of x) ≡ None) (lacking no_names ds)
    o.occurrence apart there in
    sym (ap (λ b. cond b None (first_from 0 es m.name)) free)
    ∙ sym (ap (λ (x : Mention). first_declarer es x.name) o.is) ∙ gone

pub apart : (ds es : List (Option Definition)) → DeclareNoneLacking ds es → Apart ds es
apart ds es none index d name is among free gone =
    by (among_parts (map (λ (x : Declared). x.name) (declared d))
    (map (λ (m : Mention). m.name) (mentioned d)) name among)
  where
    by : IsAmong (map (λ (x : Declared). x.name) (declared d)) name
        ⊎ IsAmong (map (λ (m : Mention). m.name) (mentioned d)) name → first_from 0 es name ≡ None
    by (inl k) = absurd (own_found ds index d name is (declared_at (declared d) name k) free gone)
    by (inr k) =
        let m = mentioned_in (mentioned d) name k in
        subst (λ n. first_from 0 es n ≡ None) m.named
        (mention_apart ds es index d m.one none is m.among
        (subst (λ n. is_beforehand n ≡ false) (sym m.named) free)
        (subst (λ n. first_from 0 ds n ≡ None) (sym m.named) gone))

-- ---- a text without a fault lacks no name

pub ruled_none : (tokens : List Lexeme) (p : Parse) (ruled : List WordFault) → faults_at tokens p ruled ≡ []
    → ruled ≡ []
ruled_none tokens p [] h = refl
ruled_none tokens Nothing (f ∷ fs) h = absurd (cc)
ruled_none tokens (Def d) (f ∷ fs) h = absurd (cc)
ruled_none tokens (Fault token code) (f ∷ fs) h = absurd (cc)

pub none_mapped : {X Y : Type 0} (f : X → Y) (xs : List X) → map f xs ≡ [] → xs ≡ []
none_mapped f [] h = refl
none_mapped f (x ∷ xs) h = absurd (cc)

-- a use of an unknown name is a fault
pub use_unknown : (view : View) (before : Bool) (m : Mention) → is_unknown view ≡ true
    → fault_of_use view before m.usage m.tag ≡ Some rules.Unknown
use_unknown view before m h =
    ap (λ b. cond b (Some rules.Unknown)
    (cond (is_no_type view m.usage m.tag) (Some rules.NotType)
    (cond (is_no_constant view m.usage) (Some rules.NotConst)
    (cond (is_too_late view before m.usage) (Some rules.LateName)
    (cond (is_of_faulty view m.usage) (Some rules.UsesFaulty) None))))) h

sees_known : (d : Definition) (see : List ℕ → View) (faults : List WordFault) (m : Mention)
    → AreFaults d (seen d (map see (names_of d))) faults → faults ≡ [] → IsAmong (mentioned d) m
    → is_unknown (see m.name) ≡ false
sees_known d see faults m are none among = by (is_unknown (see m.name)) refl
  where
    views : List ℕ → View
    views = seen d (map see (names_of d))

    by : (b : Bool) → is_unknown (see m.name) ≡ b → b ≡ false
    by false e = refl
    by true e =
        let unknown = ap is_unknown (view_mentioned d see m among) ∙ e in
        let fault = use_unknown (views m.name)
        (is_declared_before (enumerators d) (limit_of m.word) m.name) m unknown in
        let listed = are.are_all m.word rules.Unknown
        (record { mention = m; among = among; word_is = refl; fault = fault }) in
        absurd (among_none (record { word = m.word; code = rules.Unknown })
        (subst (λ fs. IsAmong fs (record { word = m.word; code = rules.Unknown })) none listed))

item_sees : (known : KnownNames) (all : List (Option Definition)) (read : ℕ → Option Outcome) (item : ℕ)
    (p : Option Definition) (o : Option Outcome) (d : Definition) (m : Mention)
    → IsResult known all read item p o → rule_faults o ≡ [] → p ≡ Some d → IsAmong (mentioned d) m
    → is_unknown (view_by known all read item m.name) ≡ false
item_sees known all read item None o d m h none is among = absurd (cc)
item_sees known all read item (Some e) None d m h none is among = absurd h
item_sees known all read item (Some e) (Some o) d m h none is among =
    let same : d ≡ e = cc in
    sees_known e (view_by known all read item) o.faults m h.are_faults none
    (subst (λ x. IsAmong (mentioned x) m) same among)

items_see : (known : KnownNames) (all : List (Option Definition)) (read : ℕ → Option Outcome) (text : List ℕ)
    (item : ℕ) (is : List Item) → AreResultsFrom known all read item (definitions_of is)
    (map (λ i. i.result) is) → faults_from text item is ≡ []
    → SeesDeclared (view_by known all read) item (definitions_of is)
items_see known all read text item [] h none index d m e k = absurd (cc)
items_see known all read text item (i ∷ is) h none zero d m e k =
    let at : item ≡ item + 0 = omega arith in
    let parts = no_parts (item_faults text item i) (faults_from text (suc item) is) none in
    let ruled = ruled_none i.tokens i.parse (rule_faults i.result)
    (none_mapped (placed text item i.tokens) (token_faults i) parts.0) in
    let parsed : parsed_definition i.parse ≡ Some d = cc in
    subst (λ n. is_unknown (view_by known all read n m.name) ≡ false) at
    (item_sees known all read item (parsed_definition i.parse) i.result d m h.0 ruled parsed k)
items_see known all read text item (i ∷ is) h none (suc index) d m e k =
    let at : suc item + index ≡ item + suc index = omega arith in
    let parts = no_parts (item_faults text item i) (faults_from text (suc item) is) none in
    subst (λ n. is_unknown (view_by known all read n m.name) ≡ false) at
    (items_see known all read text (suc item) is h.1 parts.1 index d m e k)

-- nothing is known before the first text
pub nothing_named : known_names nothing_known ≡ no_names
nothing_named = λ i name. no_known name i

lacks_none : (text : List ℕ) (tokens : List (Kind × ℕ)) (is : List Item)
    → IsCompilation nothing_known text tokens is → faults_of text is ≡ []
    → lacking no_names (definitions_of is) ≡ []
lacks_none text tokens is h none =
    subst (λ known. lacking known (definitions_of is) ≡ []) nothing_named
    (no_elements (lacking (known_names nothing_known) (definitions_of is)) gone)
  where
    ds : List (Option Definition)
    ds = definitions_of is

    read : ℕ → Option Outcome
    read = result_at (map (λ i. i.result) is)

    gone : (o : Occurrence) → IsAmong (lacking (known_names nothing_known) ds) o → ⊥
    gone o among =
        let parts = in_lacking (known_names nothing_known) ds o among in
        let at = occurs_in 0 ds o parts.0 in
        let known = items_see (known_names nothing_known) ds read text 0 is h.are_results none at.index
        at.definition o.mention at.is at.among in
        let unknown = sym (undeclared nothing_known ds read (0 + at.index) (name_of o)) ∙ parts.1 in
        (cc)

-- ---- known texts

-- the results of a known text, as those of one list
pub own_results : (before : List ℕ) (known : KnownText) → IsKnownOf before known
    → AreResults no_names (known_definitions known) known.outcomes
own_results [] known is =
    subst (λ (k : KnownText). AreResults no_names (known_definitions k) k.outcomes) (sym is) tt
own_results (b ∷ bs) known (tokens, items, h, is) =
    let own = subst (λ k. AreResults k (definitions_of items) (map (λ i. i.result) items)) nothing_named
    h.are_results in
    subst (λ ds. AreResults no_names ds known.outcomes) (sym is.definitions)
    (subst (AreResults no_names (definitions_of items)) (sym is.outcomes) own)

-- one without a fault lacks no name
pub known_lacks_none : (before : List ℕ) (known : KnownText) → IsKnownOf before known → IsFaultless before
    → lacking no_names (known_definitions known) ≡ []
known_lacks_none [] known is fine =
    subst (λ (k : KnownText). lacking no_names (known_definitions k) ≡ []) (sym is) refl
known_lacks_none (b ∷ bs) known (tokens, items, h, is) (others, more, k, none) =
    let same = (one_compilation nothing_known (b ∷ bs) tokens others items more h k).1 in
    let own : faults_of (b ∷ bs) items ≡ [] = ap (faults_of (b ∷ bs)) same ∙ none in
    subst (λ ds. lacking no_names ds ≡ []) (sym is.definitions) (lacks_none (b ∷ bs) tokens items h own)

-- so none behind it declares one
pub none_behind : (before : List ℕ) (known : KnownText) (behind : List (Option Definition))
    → IsKnownOf before known → IsFaultless before → DeclareNoneLacking (known_definitions known) behind
none_behind before known behind is fine =
    subst (All (λ (o : Occurrence). first_declarer behind (name_of o) ≡ None))
    (sym (known_lacks_none before known is fine))
    (All-nil (λ (o : Occurrence). first_declarer behind (name_of o) ≡ None))

-- ---- the laws

pub both_apart : (before text : List ℕ) (known : KnownText) (tokens : List (Kind × ℕ)) (items : List Item)
    → IsKnownOf before known → DeclareNoneLacking (known_definitions known) (definitions_of items)
    → IsCompilation known text tokens items
    → AreResults no_names (all_definitions known items) (known.outcomes ++ map (λ i. i.result) items)
both_apart before text known tokens items is none h =
    joined (known_definitions known) (definitions_of items) known.outcomes (map (λ i. i.result) items)
    (apart (known_definitions known) (definitions_of items) none) (own_results before known is) h.are_results

pub known_apart : (before : List ℕ) (known : KnownText) (behind : List (Option Definition))
    (results : List (Option Outcome)) → IsKnownOf before known
    → DeclareNoneLacking (known_definitions known) behind
    → AreResults no_names (known_definitions known ++ behind) results
    → (others : List (Option Outcome)) × (results ≡ known.outcomes ++ others)
known_apart before known behind results is none h =
    begins (known_definitions known) behind known.outcomes results
    (apart (known_definitions known) behind none) (own_results before known is) h

pub both_faultless : (before text : List ℕ) (known : KnownText) (tokens : List (Kind × ℕ)) (items : List Item)
    → IsKnownOf before known → IsFaultless before → IsCompilation known text tokens items
    → AreResults no_names (all_definitions known items) (known.outcomes ++ map (λ i. i.result) items)
both_faultless before text known tokens items is fine h =
    both_apart before text known tokens items is (none_behind before known (definitions_of items) is fine) h

pub known_faultless : (before : List ℕ) (known : KnownText) (behind : List (Option Definition))
    (results : List (Option Outcome)) → IsKnownOf before known → IsFaultless before
    → AreResults no_names (known_definitions known ++ behind) results
    → (others : List (Option Outcome)) × (results ≡ known.outcomes ++ others)
known_faultless before known behind results is fine h =
    known_apart before known behind results is (none_behind before known behind is fine) h
