-- A prelude without files has no fault.
use Rattle.std.proofs.Common.{◌≡◌, ◌≢◌, ℕ, ◌≤◌, true, false, List, [], ◌++◌, length, Option, Some, None}
use Rattle.std.proofs.Common.{is_some, refl, sym, ap, subst, ◌∙◌}
use Rattle.std.specs.Prelude.{codes, map, option_map}
use Rattle.std.specs.List.{All, IsAmong}
use Rattle.x_text.specs.Limits.{most_text}
use Rattle.x_lex.specs.declared.kind.Kind.{Kind}
use Rattle.x_trees.specs.Spell.{spell}
use Rattle.x_trees.specs.Tree.{Definition}
use Rattle.x_names.specs.Declarers.{first_declarer}
use Rattle.x_names.specs.declared.names.Declarer.{Declarer}
use Rattle.x_rules.specs.Results.{meaning_at, result_at}
use Rattle.x_rules.specs.Views.{Earlier}
use Rattle.x_compile.specs.Compile.{IsCompilation, Item, definitions_of, faults_of}
use Rattle.x_compile.specs.Known.{known_names, nothing_known}
use Rattle.x_prelude.specs.Before.{Defines, StandsBefore}
use Rattle.x_prelude.specs.Lacking.{Occurrence, lacking, name_of}
use Rattle.x_prelude.specs.Prelude.{prelude}
use Rattle.x_prelude.specs.declared.definition.FromC.{FromC}
use Rattle.x_prelude_laws.specs.Plain.{ArePlain}
use Rattle.x_prelude_laws.proofs.Clean.{no_faults}
use Rattle.x_prelude_laws.proofs.Found.{same_definitions}
use Rattle.x_prelude_laws.proofs.Lacks.{in_lacking, occurs_in}
use Rattle.x_prelude_laws.proofs.Lines.{IsName}
use Rattle.x_prelude_laws.proofs.Made.{IsPlain, Made, made}
use Rattle.x_prelude_laws.proofs.Nothing.{named_by, none_first}
use Rattle.x_prelude_laws.proofs.Room.{few_lacking}
use Rattle.x_prelude_laws.proofs.Wholes.{Whole, whole_none}

pub all_among : {X : Type 0} (P : X → Type 0) (xs : List X) (x : X) → All P xs → IsAmong xs x → P x
all_among P xs x all (i, h) = subst P (sym h.1) (all i x h.0)

pub no_known : (name : List ℕ) → known_names nothing_known name ≡ None
no_known name = none (first_declarer [] name) (none_first name)
  where
    none : (o : Option Declarer) → is_some o ≡ false
        → option_map (λ at. Earlier at.kind at.lifted (meaning_at (result_at nothing_known.outcomes) at)) o
        ≡ None
    none None e = refl
    none (Some at) e = absurd (cc)

pub faultless_alone : (from : FromC) (text before : List ℕ) (tokens : List (Kind × ℕ)) (is : List Item)
    → length text ≤ most_text
    → (from.foreign ≡ true → Defines text (λ ds. ArePlain (lacking (known_names nothing_known) ds)))
    → StandsBefore [] from text before → IsCompilation nothing_known before tokens is
    → faults_of before is ≡ []
faultless_alone from text before tokens is fits plain (
  lacks,
  (own, own_is, (other, (others, js, compiled, made_is))),
  parts,
) h =
    no_faults nothing_known before tokens is all.definitions all.names no_known
    (subst (λ t. Whole t (map spell all.definitions)) (sym same) all.whole) all.are
    (record { distinct = all.distinct; plain = all.plain plain_names; free = all.free }) h
  where
    ds : List (Option Definition)
    ds = definitions_of js

    plain_names : from.foreign ≡ true → (o : Occurrence) → IsAmong (lacking (known_names nothing_known) ds) o
        → IsPlain (name_of o)
    plain_names there o k =
        let t = plain there in
        let same = same_definitions t.0 other text t.1.0 others t.1.1 js t.1.2 compiled in
        all_among (λ (o : Occurrence). (front : List ℕ) → name_of o ≢ front ++ codes "__")
        (lacking (known_names nothing_known) ds) o
        (subst (λ l. ArePlain (lacking (known_names nothing_known) l)) same t.1.3) k

    is_name : (o : Occurrence) → IsAmong (lacking (known_names nothing_known) ds) o → IsName (name_of o)
    is_name o k =
        named_by other text others js o compiled (occurs_in 0 ds o
        (in_lacking (known_names nothing_known) ds o k).0)

    all : Made from (known_names nothing_known) ds [] []
    all =
        made from (known_names nothing_known) ds [] [] is_name
        (few_lacking other (known_names nothing_known) text others js fits compiled is_name) whole_none

    same : before ≡ prelude from (known_names nothing_known) ds
    same = parts ∙ made_is ∙ ap (λ k. prelude from (known_names k) ds) own_is
