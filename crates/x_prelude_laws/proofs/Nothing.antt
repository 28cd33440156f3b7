-- Behind files that end whole nothing is lacking that may be taken from C.
use Rattle.std.proofs.Common.{◌≡◌, ◌≢◌, ℕ, ◌≤◌, Bool, true, false, cond, List, [], ◌∷◌, ◌++◌, length, map}
use Rattle.std.proofs.Common.{Option, Some, None, is_some, refl, sym, ap, subst, ◌∙◌}
use Rattle.std.specs.Prelude.{◌&&◌, option_map, slice_get}
use Rattle.std.specs.List.{All, IsAmong}
use Rattle.std.specs.Map.{lookup}
use Rattle.std.specs.Str.{bytes_eq}
use Rattle.std.proofs.lemmas.List.Elements.{All-cons, All-nil}
use Rattle.std.proofs.lemmas.Slice.Eq.{bytes_eq-Decides}
use Rattle.x_text.specs.Limits.{most_text}
use Rattle.x_lex.specs.declared.kind.Kind.{Kind}
use Rattle.x_trees.specs.Tree.{Definition}
use Rattle.x_trees.specs.Mentions.{Mention, mentioned}
use Rattle.x_trees.specs.Words.{Word}
use Rattle.x_trees.specs.Spell.{spell}
use Rattle.x_trees.proofs.AmongLemmas.{among_first, among_more, among_none}
use Rattle.x_names.specs.Declarers.{first_declarer, is_beforehand}
use Rattle.x_names.specs.declared.names.Declarer.{Declarer}
use Rattle.x_rules.specs.Mentioned.{is_unknown}
use Rattle.x_rules.specs.Results.{meaning_at, result_at, view_by}
use Rattle.x_rules.specs.Views.{Earlier}
use Rattle.x_rules.specs.declared.fault.RuleCode.TheVariants as rules
use Rattle.x_compile.specs.Compile.{IsCompilation, Item, definitions_of, faults_of}
use Rattle.x_compile.specs.Known.{KnownText, known_definitions, known_names, nothing_known}
use Rattle.x_compile.specs.declared.fault as rust
use Rattle.x_compile.specs.declared.fault.FaultCode.TheVariants as codes
use Rattle.x_prelude.specs.Before.{IsBefore, IsKnownOf, StandsBefore}
use Rattle.x_prelude.specs.CTypes.{c_type, c_types}
use Rattle.x_prelude.specs.Lacking.{Occurrence, is_lacking, lacking, name_of}
use Rattle.x_prelude.specs.Prelude.{is_type, lacks_name, prelude}
use Rattle.x_prelude.specs.declared.definition.FromC.{FromC}
use Rattle.x_prelude.proofs.LackingLemmas.{undeclared}
use Rattle.x_prelude_laws.specs.Wholes.{EndsWhole}
use Rattle.x_prelude_laws.proofs.Found.{DeclaredIn, declared_in, has_declarer, in_front, in_rear}
use Rattle.x_prelude_laws.proofs.Found.{mentions_name, none_in_empty, same_definitions}
use Rattle.x_prelude_laws.proofs.Lacks.{Lacks, OccursIn, by_tests, in_lacking, is_in_lacking, lacks_by}
use Rattle.x_prelude_laws.proofs.Lacks.{lacks_mentioned, occurs, occurs_in}
use Rattle.x_prelude_laws.proofs.Lines.{IsName}
use Rattle.x_prelude_laws.proofs.Made.{Made, made}
use Rattle.x_prelude_laws.proofs.Room.{few_lacking}
use Rattle.x_prelude_laws.proofs.Unknown.{no_unknown_fault}
use Rattle.x_prelude_laws.proofs.Wholes.{Whole, ends_whole, whole_from, words_before}

-- ---- what is known of a text that ends whole

pub some_map : {X Y : Type 0} (f : X → Y) (o : Option X) → is_some (option_map f o) ≡ is_some o
some_map f None = refl
some_map f (Some x) = refl

-- a name that it declares is known
known_if_declared : (text : List ℕ) (all : List (List Word)) (known : KnownText) (name : List ℕ)
    → IsKnownOf text known
    → Whole text all → DeclaredIn all name → is_beforehand name ≡ false
    → is_some (known_names known name) ≡ true
known_if_declared [] all known name k w d free =
    absurd (among_none (spell d.definition) (subst (λ l. IsAmong l (spell d.definition))
    (none_in_empty all w) d.among))
known_if_declared (b ∷ bs) all known name k w d free =
    some_map (λ at. Earlier at.kind at.lifted (meaning_at (result_at known.outcomes) at))
    (first_declarer (known_definitions known) name)
    ∙ ap (λ ds. is_some (first_declarer ds name)) k.3.definitions
    ∙ has_declarer nothing_known (b ∷ bs) all k.0 k.1 name w k.2 d free

pub none_first : (name : List ℕ) → is_some (first_declarer [] name) ≡ false
none_first name = by (is_beforehand name) None refl
  where
    by : (b : Bool) (o : Option Declarer) → o ≡ None → is_some (cond b o o) ≡ false
    by true o e = ap is_some e
    by false o e = ap is_some e

-- and a name that is known is one that it declares
declared_if_known : (text : List ℕ) (all : List (List Word)) (known : KnownText) (name : List ℕ)
    → IsKnownOf text known
    → Whole text all → is_beforehand name ≡ false → is_some (known_names known name) ≡ true
    → DeclaredIn all name
declared_if_known [] all known name k w free some =
    absurd (let e : is_some (known_names known name) ≡ false =
    ap (λ x. is_some (known_names x name)) k
    ∙ some_map (λ at. Earlier at.kind at.lifted (meaning_at (result_at nothing_known.outcomes) at))
    (first_declarer [] name)
    ∙ none_first name in cc)
declared_if_known (b ∷ bs) all known name k w free some =
    declared_in nothing_known (b ∷ bs) all k.0 k.1 name w k.2 free
    (sym (ap (λ ds. is_some (first_declarer ds name)) k.3.definitions)
    ∙ sym (some_map (λ at. Earlier at.kind at.lifted (meaning_at (result_at known.outcomes) at))
    (first_declarer (known_definitions known) name))
    ∙ some)

-- ---- what stands before a text

-- what is lacking behind the files is declared by what stands before the text
pub record Stands (files : List ℕ) (from : FromC) (text : List ℕ) (ends : EndsWhole files) (before : List ℕ)
    (ds : List (Option Definition)) : Type 0 where
  pub own : KnownText
  pub own_is : IsKnownOf files own
  pub more : List (List Word)
  pub whole : Whole before (words_before files ends ++ more)
  pub types : from.types ≡ true → (e : List ℕ × List ℕ) → IsAmong c_types e
      → lacks_name (known_names own) ds e.0 ≡ true → DeclaredIn more e.0
  pub others : from.foreign ≡ true → (o : Occurrence) → IsAmong (lacking (known_names own) ds) o
      → is_type from (name_of o) ≡ false → DeclaredIn more (name_of o)

-- each name that a text mentions is one
pub named_by : (known : KnownText) (text : List ℕ) (tokens : List (Kind × ℕ)) (is : List Item)
    (o : Occurrence)
    → IsCompilation known text tokens is → OccursIn (definitions_of is) o.mention → IsName (name_of o)
named_by known text tokens is o h at =
    mentions_name known text tokens is at.definition at.index o.mention h at.is at.among

pub stands : (files : List ℕ) (from : FromC) (text before : List ℕ) (known : KnownText)
    (tokens : List (Kind × ℕ))
    (is : List Item) (ends : EndsWhole files) → length text ≤ most_text → StandsBefore files from text before
    → IsCompilation known text tokens is → Stands files from text ends before (definitions_of is)
stands files from text before known tokens is ends fits (
  lacks,
  (own, own_is, (other, (others, js, compiled, made_is))),
  parts,
) h =
    record {
      own = own;
      own_is = own_is;
      more = map spell all.definitions;
      whole = subst (λ t. Whole t (words_before files ends ++ map spell all.definitions))
          (sym same) all.whole;
      types = all.types;
      others = all.others;
    }
  where
    ds : List (Option Definition)
    ds = definitions_of is

    same_ds : definitions_of js ≡ ds
    same_ds = same_definitions other known text others tokens js is compiled h

    is_name : (o : Occurrence) → IsAmong (lacking (known_names own) ds) o → IsName (name_of o)
    is_name o k = named_by known text tokens is o h (occurs_in 0 ds o (in_lacking (known_names own) ds o k).0)

    all : Made from (known_names own) ds files (words_before files ends)
    all =
        made from (known_names own) ds files (words_before files ends) is_name
        (few_lacking known (known_names own) text tokens is fits h is_name) (whole_from files ends)

    same : before ≡ files ++ prelude from (known_names own) ds
    same = parts ∙ ap (λ l. files ++ l) (made_is ∙ ap (prelude from (known_names own)) same_ds)

-- ---- names that are lacking behind it

-- a name that is lacking there is lacking behind the files
still_lacking : (files : List ℕ) (from : FromC) (text before : List ℕ) (ends : EndsWhole files)
    (known : KnownText)
    (ds : List (Option Definition)) (name : List ℕ) (s : Stands files from text ends before ds)
    → IsKnownOf before known → Lacks (known_names known) (first_declarer ds) name
    → Lacks (known_names s.own) (first_declarer ds) name
still_lacking files from text before ends known ds name s k h = record {
  free = h.free;
  unknown = by (is_some (known_names s.own name)) refl;
  undeclared = h.undeclared;
}
  where
    by : (b : Bool) → is_some (known_names s.own name) ≡ b → b ≡ false
    by false e = refl
    by true e =
        let d = declared_if_known files (words_before files ends) s.own name s.own_is
        (whole_from files ends) h.free e in
        let there = known_if_declared before (words_before files ends ++ s.more) known name k s.whole
        (in_front (words_before files ends) s.more name d) h.free in
        let none = h.unknown in
        absurd (cc)

declared_there : (files : List ℕ) (from : FromC) (text before : List ℕ) (ends : EndsWhole files)
    (known : KnownText)
    (ds : List (Option Definition)) (name : List ℕ) (s : Stands files from text ends before ds)
    → IsKnownOf before known → Lacks (known_names known) (first_declarer ds) name → DeclaredIn s.more name → ⊥
declared_there files from text before ends known ds name s k h d =
    let there = known_if_declared before (words_before files ends ++ s.more) known name k s.whole
    (in_rear (words_before files ends) s.more name d) h.free in
    let none = h.unknown in
    (cc)

-- the row of a type of C
pub record HasRow (table : List (List ℕ × List ℕ)) (name : List ℕ) : Type 0 where
  pub row : List ℕ × List ℕ
  pub among : IsAmong table row
  pub named : row.0 ≡ name

row_of : (table : List (List ℕ × List ℕ)) (name : List ℕ) → is_some (lookup (bytes_eq name) table) ≡ true
    → HasRow table name
row_of [] name e = absurd (cc)
row_of (r ∷ table) name e = by (bytes_eq name r.0) refl e (λ k. row_of table name k)
  where
    by : (b : Bool) → bytes_eq name r.0 ≡ b
        → is_some (cond b (Some r.1) (lookup (bytes_eq name) table)) ≡ true
        → (is_some (lookup (bytes_eq name) table) ≡ true → HasRow table name) → HasRow (r ∷ table) name
    by true same k next =
        record { row = r; among = among_first r table; named = sym ((bytes_eq-Decides name r.0).0 same) }
    by false same k next =
        let rest = next k in
        record { row = rest.row; among = among_more r rest.row table rest.among; named = rest.named }

-- no type of C is lacking, where these are taken
no_type : (files : List ℕ) (from : FromC) (text before : List ℕ) (ends : EndsWhole files) (known : KnownText)
    (ds : List (Option Definition)) (o : Occurrence) (s : Stands files from text ends before ds)
    → from.types ≡ true
    → IsKnownOf before known → IsAmong (lacking (known_names known) ds) o
    → is_some (c_type (name_of o)) ≡ true → ⊥
no_type files from text before ends known ds o s taken k among is =
    let at = in_lacking (known_names known) ds o among in
    let lacks = lacks_by (known_names known) (first_declarer ds) (name_of o) at.1 in
    let still = still_lacking files from text before ends known ds (name_of o) s k lacks in
    let mentioned = lacks_mentioned (known_names s.own) ds o.mention (occurs_in 0 ds o at.0) still in
    let row = row_of c_types (name_of o) is in
    let own = ap (lacks_name (known_names s.own) ds) row.named ∙ mentioned in
    declared_there files from text before ends known ds (name_of o) s k lacks
    (subst (DeclaredIn s.more) row.named (s.types taken row.row row.among own))

-- no name is lacking, where any is taken
no_name : (files : List ℕ) (from : FromC) (text before : List ℕ) (ends : EndsWhole files) (known : KnownText)
    (ds : List (Option Definition)) (o : Occurrence) (s : Stands files from text ends before ds)
    → from.foreign ≡ true
    → IsKnownOf before known → IsAmong (lacking (known_names known) ds) o → ⊥
no_name files from text before ends known ds o s taken k among = by (is_type from (name_of o)) refl
  where
    by : (b : Bool) → is_type from (name_of o) ≡ b → ⊥
    by true e =
        let both = parts from.types (is_some (c_type (name_of o))) e in
        no_type files from text before ends known ds o s both.0 k among both.1
      where
        parts : (x y : Bool) → (x && y) ≡ true → (x ≡ true) × (y ≡ true)
        parts true true h = (refl, refl)
        parts true false h = absurd (cc)
        parts false y h = absurd (cc)
    by false e =
        let at = in_lacking (known_names known) ds o among in
        let lacks = lacks_by (known_names known) (first_declarer ds) (name_of o) at.1 in
        let still = still_lacking files from text before ends known ds (name_of o) s k lacks in
        let own = is_in_lacking (known_names s.own) ds o at.0
        (by_tests (known_names s.own) (first_declarer ds) (name_of o) still) in
        declared_there files from text before ends known ds (name_of o) s k lacks (s.others taken o own e)

pub no_elements : {X : Type 0} (xs : List X) → ((x : X) → IsAmong xs x → ⊥) → xs ≡ []
no_elements [] none = refl
no_elements (x ∷ xs) none = absurd (none x (among_first x xs))

pub all_of : {X : Type 0} (P : X → Type 0) (xs : List X) → ((x : X) → IsAmong xs x → P x) → All P xs
all_of P [] each = All-nil P
all_of P (x ∷ xs) each = All-cons P x xs (each x (among_first x xs))
    (all_of P xs (λ y h. each y (among_more x y xs h)))

-- ---- the laws

pub nothing_lacking : (files : List ℕ) (from : FromC) (text : List ℕ) (known : KnownText)
    (tokens : List (Kind × ℕ))
    (is : List Item) → from.foreign ≡ true → EndsWhole files → length text ≤ most_text
    → IsBefore files from text known → IsCompilation known text tokens is
    → lacking (known_names known) (definitions_of is) ≡ []
nothing_lacking files from text known tokens is taken ends fits (before, stand, k) h =
    no_elements (lacking (known_names known) (definitions_of is))
    (λ o among. no_name files from text before ends known (definitions_of is) o
    (stands files from text before known tokens is ends fits stand h) taken k among)

no_some : {X : Type 0} (o : Option X) → (is_some o ≡ true → ⊥) → o ≡ None
no_some None h = refl
no_some (Some x) h = absurd (h refl)

pub no_type_lacking : (files : List ℕ) (from : FromC) (text : List ℕ) (known : KnownText)
    (tokens : List (Kind × ℕ))
    (is : List Item) → from.types ≡ true → EndsWhole files → length text ≤ most_text
    → IsBefore files from text known → IsCompilation known text tokens is
    → All (λ o. c_type (name_of o) ≡ None) (lacking (known_names known) (definitions_of is))
no_type_lacking files from text known tokens is taken ends fits (before, stand, k) h =
    all_of (λ o. c_type (name_of o) ≡ None) (lacking (known_names known) (definitions_of is))
    (λ o among. no_some (c_type (name_of o))
    (λ some. no_type files from text before ends known (definitions_of is) o
    (stands files from text before known tokens is ends fits stand h) taken k among some))

pub before_whole : (files : List ℕ) (from : FromC) (text before : List ℕ) → EndsWhole files
    → length text ≤ most_text
    → StandsBefore files from text before → EndsWhole before
before_whole files from text before ends fits stand =
    let compiled = stand.1.2 in
    let s = stands files from text before compiled.0 compiled.1.0 compiled.1.1 ends fits stand compiled.1.2 in
    ends_whole before (words_before files ends ++ s.more) s.whole

-- the faults of undeclared names
pub no_fault_unknown : (files : List ℕ) (from : FromC) (text : List ℕ) (known : KnownText)
    (tokens : List (Kind × ℕ))
    (is : List Item) → from.foreign ≡ true → EndsWhole files → length text ≤ most_text
    → IsBefore files from text known → IsCompilation known text tokens is
    → All (λ (f : rust.Fault.Fault). f.code ≢ codes.Rule rules.Unknown) (faults_of text is)
no_fault_unknown files from text known tokens is taken ends fits before h =
    no_unknown_fault known text tokens is h (λ item d m e k. sees item d m e k)
  where
    ds : List (Option Definition)
    ds = definitions_of is

    none : lacking (known_names known) ds ≡ []
    none = nothing_lacking files from text known tokens is taken ends fits before h

    not_lacking : (item : ℕ) (d : Definition) (m : Mention) → slice_get ds item ≡ Some (Some d)
        → IsAmong (mentioned d) m
        → (b : Bool) → is_lacking (known_names known) (first_declarer ds) m.name ≡ b → b ≡ false
    not_lacking item d m e k false is = refl
    not_lacking item d m e k true is =
        let o = occurs 0 ds item d m e k in
        let own = ap (λ (x : Mention). is_lacking (known_names known) (first_declarer ds) x.name) o.is ∙ is in
        absurd (among_none o.occurrence (subst (λ l. IsAmong l o.occurrence) none
        (is_in_lacking (known_names known) ds o.occurrence o.among own)))

    sees : (item : ℕ) (d : Definition) (m : Mention) → slice_get ds item ≡ Some (Some d)
        → IsAmong (mentioned d) m
        → is_unknown (view_by (known_names known) ds (result_at (map (λ i. i.result) is)) item m.name) ≡ false
    sees item d m e k =
        sym (undeclared known ds (result_at (map (λ i. i.result) is)) item m.name)
        ∙ not_lacking item d m e k (is_lacking (known_names known) (first_declarer ds) m.name) refl
