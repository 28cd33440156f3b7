-- A definition with a type that is too high declares a type.
use Rattle.std.proofs.Common.{◌≡◌, ℕ, ◌+◌, Bool, true, false, List, [], ◌++◌, length, None, Some, refl, sym}
use Rattle.std.proofs.Common.{subst}
use Rattle.std.specs.List.{IsAmong}
use Rattle.x_trees.specs.Tree as tree
use Rattle.x_trees.specs.Gloss.{Gloss, InTypedef, body_kind, glossed, told_of, leading_roles, usage_at}
use Rattle.x_trees.specs.Gloss.{name_inside, name_roles, lifted_roles, type_by, named_by}
use Rattle.x_trees.specs.Names.{Declared, declared_at, declared}
use Rattle.x_trees.proofs.CollectLemmas.{told_append}
use Rattle.x_rules.specs.Views.{View}
use Rattle.x_rules.specs.Mentioned.{suits}
use Rattle.x_rules.specs.Types.{heights}
use Rattle.x_rules.specs.Found.{has_too_high}
use Rattle.x_rules.specs.Rules.{AreFaults}
use Rattle.x_rules.specs.declared.fault.RuleCode.TheVariants as codes
use Rattle.x_trees.proofs.AmongLemmas.{among_first, among_none, among_front, among_rear}
use Rattle.x_rules.proofs.FamilyLemmas.{too_high_at}

-- a name of a type that is not lifted
record OwnType (names : List Declared) : Type 0 where
  pub own : Declared
  pub among : IsAmong names own
  pub is_type : suits None own.kind ≡ true
  pub not_lifted : own.lifted ≡ false

body_suits : (body : tree.Body) → suits None (body_kind body) ≡ true
body_suits (tree.Enum es) = refl
body_suits (tree.Struct ds) = refl
body_suits (tree.Union d arms other) = refl

-- the name of a typedef is declared where it stands
named_typedef : (k : ℕ) (name : List ℕ) (type : tree.DataType) (shape : tree.Shape)
    → OwnType (told_of declared_at k
    (named_by glossed true (name_roles (Some InTypedef) name
    ++ lifted_roles (name_inside (Some InTypedef) name) type) name shape))
named_typedef k name type tree.Plain =
    record { own = _; among = among_first _ _; is_type = refl; not_lifted = refl }
named_typedef k name type tree.Optional =
    record { own = _; among = among_first _ _; is_type = refl; not_lifted = refl }
named_typedef k name type (tree.Array length) =
    record { own = _; among = among_first _ _; is_type = refl; not_lifted = refl }

-- a name among those of some words is one of all words
among_words : (k : ℕ) (front named last : List Gloss) (own : Declared)
    → IsAmong (told_of declared_at (k + length front) named) own
    → IsAmong (told_of declared_at k ((front ++ named) ++ last)) own
among_words k front named last own h =
    subst (λ l. IsAmong l own) (sym (told_append declared_at k (front ++ named) last))
    (among_front _ _ own (subst (λ l. IsAmong l own) (sym (told_append declared_at k front named))
    (among_rear _ _ own h)))

typedef_own : (name : List ℕ) (type : tree.DataType) (shape : tree.Shape)
    → OwnType (declared (tree.Typedef (tree.Of type name shape)))
typedef_own name type shape =
    let o = named_typedef (1 + length front) name type shape in
    record {
      own = o.own;
      among = among_words 1 front _ _ o.own o.among;
      is_type = o.is_type;
      not_lifted = o.not_lifted;
    }
  where
    front : List Gloss
    front = type_by glossed (leading_roles (Some InTypedef) (tree.Of type name shape))
        (usage_at (Some InTypedef) shape) (name_inside (Some InTypedef) name) type

own_type : (d : tree.Definition) (see : List ℕ → View) → has_too_high d see ≡ true → OwnType (declared d)
own_type (tree.Const name value) see h = absurd (cc)
own_type (tree.Program name versions number) see h = absurd (cc)
own_type (tree.NewType name body) see h =
    record { own = _; among = among_first _ _; is_type = body_suits body; not_lifted = refl }
own_type (tree.Typedef tree.Void) see h = absurd (cc)
own_type (tree.Typedef (tree.Opaque name size)) see h = absurd (cc)
own_type (tree.Typedef (tree.String name most)) see h = absurd (cc)
own_type (tree.Typedef (tree.Of type name shape)) see h = typedef_own name type shape

-- no type of a definition without a fault is too high
pub none_too_high : (d : tree.Definition) (see : List ℕ → View) → AreFaults d see []
    → has_too_high d see ≡ false
none_too_high d see h = by (has_too_high d see) refl
  where
    by : (b : Bool) → has_too_high d see ≡ b → has_too_high d see ≡ false
    by false e = e
    by true e =
        let o = own_type d see e in
        absurd (among_none (record { word = o.own.word; code = codes.TooHigh })
        (h.are_all o.own.word codes.TooHigh
        (too_high_at (heights d see) (declared d) o.own e o.among o.is_type o.not_lifted)))
