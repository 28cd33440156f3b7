-- The table of the items so far, and of one more.
use Rattle.std.proofs.Common.{◌≡◌, ℕ, zero, suc, ◌+◌, ◌<◌, List, [], ◌∷◌, ◌++◌, length, take, map, get_or}
use Rattle.std.proofs.Common.{Option, None, Some, refl, sym, ap, ◌∙◌, arith}
use Rattle.std.specs.Prelude.{slice_get, IfSome}
use Rattle.std.specs.Borrow.{Bor}
use Rattle.std.proofs.lemmas.List.{length-take-le, length-map}
use Rattle.x_trees.specs.Tree as tree
use Rattle.x_trees.specs.declared.trees.definition.Definition.{Definition}
use Rattle.x_trees.specs.View.{tree_at}
use Rattle.x_trees.specs.Spell.{IsShort}
use Rattle.x_names.specs.Declarers.{AreShort, declarer_in}
use Rattle.x_uses.specs.Occurrences.{declarers_at, users_at, declarers_of, users_of, sees, IsUsesOf}
use Rattle.x_uses.specs.Slots.{Entries, slot_at, Notes, IsShortItem, item_of_declarer, user_item, noted_some}
use Rattle.x_uses.specs.Slots.{names_of_entries, put_user, with_item}
use Rattle.x_uses.proofs.NotedLaws.{found_more, map_more}
use Rattle.x_uses.proofs.Follows.{declarer_pick, user_pick, declarers_found, users_found, declarer_picks}
use Rattle.x_uses.proofs.Follows.{user_picks}
use Rattle.x_uses.proofs.TableLemmas.{slot_seen}

get_listed : {X Y : Type 0} (f : X → Y) (xs : List X) (i : ℕ) (d : X) → i < length xs
    → slice_get (map f xs) i ≡ Some (f (get_or xs i d))
get_listed f [] i d lt = absurd (omega (arith, lt))
get_listed f (x ∷ xs) zero d lt = refl
get_listed f (x ∷ xs) (suc i) d lt = get_listed f xs i d (omega (arith, lt))

-- each item of short ones is short
pub short_item : (all : List (Option (Bor Definition))) (i : ℕ) (x : Option (Bor Definition)) → i < length all
    → x ≡ get_or all i x → AreShort (map tree_at all) → IsShortItem (tree_at x)
short_item all i x lt is short =
    by (tree_at x) (get_listed tree_at all i x lt ∙ ap (λ y. Some (tree_at y)) (sym is))
  where
    by : (o : Option tree.Definition) → slice_get (map tree_at all) i ≡ Some o → IfSome o IsShort
    by None e = tt
    by (Some d) e = short i d e

count_so_far : (all : List (Option (Bor Definition))) (i : ℕ) → i < length all
    → i ≡ length (map tree_at (take i all))
count_so_far all i lt =
    let n = length-map (take i all) tree_at in let t = length-take-le i all (omega (arith, lt)) in
    omega (arith, n, t)

pub declarers_next : (now next : Entries) (item i : ℕ) (all : List (Option (Bor Definition)))
    (x : Option (Bor Definition)) → i < length all → x ≡ get_or all i x → item ≡ i
    → Notes now next (λ name. declarer_in item name (tree_at x)) (sees (tree_at x)) item
    → ((name : List ℕ) → declarers_at (slot_at now name) ≡ declarers_of 0 (map tree_at (take i all)) name)
    → (name : List ℕ) → declarers_at (slot_at next name)
    ≡ declarers_of 0 (map tree_at (take (i + 1) all)) name
declarers_next now next item i all x lt is same h so_far name =
    let before = map tree_at (take i all) in
    h.declarers name ∙ ap (λ l. noted_some item_of_declarer l (declarer_in item name (tree_at x)))
    (so_far name ∙ declarers_found 0 before name)
    ∙ found_more item_of_declarer with_item (declarer_pick name) (declarer_picks name) item before (tree_at x)
    (same ∙ count_so_far all i lt)
    ∙ sym (declarers_found 0 (before ++ tree_at x ∷ []) name)
    ∙ ap (λ ds. declarers_of 0 ds name)
    (sym (map_more tree_at all i x lt ∙ ap (λ y. before ++ tree_at y ∷ []) (sym is)))

pub users_next : (now next : Entries) (item i : ℕ) (all : List (Option (Bor Definition)))
    (x : Option (Bor Definition)) → i < length all → x ≡ get_or all i x → item ≡ i
    → Notes now next (λ name. declarer_in item name (tree_at x)) (sees (tree_at x)) item
    → ((name : List ℕ) → users_at (slot_at now name) ≡ users_of 0 (map tree_at (take i all)) name)
    → (name : List ℕ) → users_at (slot_at next name) ≡ users_of 0 (map tree_at (take (i + 1) all)) name
users_next now next item i all x lt is same h so_far name =
    let before = map tree_at (take i all) in
    h.users name ∙ ap (λ l. noted_some user_item l (user_pick name item (tree_at x))) (so_far name
    ∙ users_found 0 before name)
    ∙ found_more user_item put_user (user_pick name) (user_picks name) item before (tree_at x)
    (same ∙ count_so_far all i lt)
    ∙ sym (users_found 0 (before ++ tree_at x ∷ []) name)
    ∙ ap (λ ds. users_of 0 ds name)
    (sym (map_more tree_at all i x lt ∙ ap (λ y. before ++ tree_at y ∷ []) (sym is)))

-- the table as it is seen
pub table_seen : (definitions : List (Option tree.Definition)) (es : Entries)
    → ((name : List ℕ) → declarers_at (slot_at es name) ≡ declarers_of 0 definitions name)
    → ((name : List ℕ) → users_at (slot_at es name) ≡ users_of 0 definitions name)
    → IsUsesOf definitions (names_of_entries es)
table_seen definitions es h k =
    record {
      declarers = λ name. ap declarers_at (slot_seen es name) ∙ h name;
      users = λ name. ap users_at (slot_seen es name) ∙ k name;
    }
