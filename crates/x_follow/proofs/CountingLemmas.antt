-- How many faults items have, one by one.
use Rattle.std.proofs.Common.{◌≡◌, ℕ, zero, suc, ◌+◌, ◌<◌, ◌≤◌, ◌-◌, inr, List, [], ◌∷◌, ◌++◌, Option, length}
use Rattle.std.proofs.Common.{take, drop, refl, sym, ap, ◌∙◌, arith, length-drop}
use Rattle.std.specs.Prelude.{option_and_then, option_map, slice_get}
use Rattle.std.proofs.lemmas.List.{drop-map, drop-drop, take-append-drop}
use Rattle.x_lists.proofs.ListLemmas.{map_append}
use Rattle.x_cutting.specs.ItemList as items
use Rattle.x_cutting.specs.ItemList.{ItemChange, LiesAmong, patched}
use Rattle.x_trees.specs.Tree.{Definition}
use Rattle.x_cutting.specs.declared.cutting.item_entry.ItemEntry.{ItemEntry}
use Rattle.x_lists.proofs.ListLemmas.{get_drop}
use Rattle.x_uses.specs.declared.uses.ItemSplice.{ItemSplice}
use Rattle.x_recheck.proofs.Numbering.{spliced_fresh, spliced_kept}
use Rattle.x_compile.specs.Counting.{entry_faults, own_faults}
use Rattle.x_compile.specs.KeptView.{entry_definitions, kept_definition}
use Rattle.x_compile.specs.declared.content.Content.{Content}

own_more : (es : List (ItemEntry Content)) (n : ℕ) → n < length es → own_faults (take (suc n) (items.kept es))
    ≡ own_faults (take n (items.kept es)) + entry_faults (slice_get es n)
own_more [] n lt = absurd (omega (arith, lt))
own_more (e ∷ es) zero lt = omega arith
own_more (e ∷ es) (suc n) lt = let rest = own_more es n (omega (arith, lt)) in omega (arith, rest)

-- one item more
pub own_next : (es : List (ItemEntry Content)) (n before count : ℕ) → n < length es
    → before ≡ own_faults (take n (items.kept es)) → count ≡ before + entry_faults (slice_get es n)
    → count ≡ own_faults (take (n + 1) (items.kept es))
own_next es n before count lt was is =
    let next : n + 1 ≡ suc n = omega arith in
    let more = ap (λ m. own_faults (take m (items.kept es))) next ∙ own_more es n lt in
    omega (arith, more, was, is)

-- one item more of those from an index on
pub own_behind : (es : List (ItemEntry Content)) (at index before count : ℕ) → at ≤ index → index < length es
    → before ≡ own_faults (take (index - at) (drop at (items.kept es)))
    → count ≡ before + entry_faults (slice_get es index)
    → count ≡ own_faults (take (index + 1 - at) (drop at (items.kept es)))
own_behind es at index before count le lt was is =
    let n = index - at in
    let l = length-drop at es in
    let here : at + n ≡ index = omega (arith, le) in
    let next : n + 1 ≡ index + 1 - at = omega (arith, le) in
    let same = drop-map (λ (e : ItemEntry Content). e.kept) at es in
    let got : slice_get (drop at es) n ≡ slice_get es index = get_drop at es n ∙ ap (slice_get es) here in
    own_next (drop at es) n before count (omega (arith, l, le, lt))
    (was ∙ ap (λ ks. own_faults (take n ks)) same) (is ∙ ap (λ o. before + entry_faults o) (sym got))
    ∙ ap (λ m. own_faults (take m (items.kept (drop at es)))) next
    ∙ ap (λ ks. own_faults (take (index + 1 - at) ks)) (sym same)

pub own_append : (ks js : List Content) → own_faults (ks ++ js) ≡ own_faults ks + own_faults js
own_append [] js = omega arith
own_append (k ∷ ks) js = let rest = own_append ks js in omega (arith, rest)

-- the faults of the items that a patch leaves, and of those that it takes out
pub own_patched : (es : List (ItemEntry Content)) (p : ItemChange Content)
    → own_faults (items.kept es) + own_faults (items.kept p.fresh)
    ≡ own_faults (items.kept (patched es p)) + own_faults (take p.removed (drop p.at (items.kept es)))
own_patched es p =
    let ks = items.kept es in
    let f = λ (e : ItemEntry Content). e.kept in
    let rear = drop (p.at + p.removed) es in
    let whole : own_faults ks ≡ own_faults (items.kept (take p.at es)) + own_faults (drop p.at ks) =
    ap (λ l. own_faults (items.kept l)) (sym (take-append-drop p.at es))
    ∙ ap own_faults (map_append f (take p.at es) (drop p.at es))
    ∙ own_append (items.kept (take p.at es)) (items.kept (drop p.at es))
    ∙ ap (λ l. own_faults (items.kept (take p.at es)) + own_faults l) (sym (drop-map f p.at es)) in
    let parted : own_faults (drop p.at ks)
    ≡ own_faults (take p.removed (drop p.at ks)) + own_faults (drop p.removed (drop p.at ks)) =
    ap own_faults (sym (take-append-drop p.removed (drop p.at ks)))
    ∙ own_append (take p.removed (drop p.at ks)) (drop p.removed (drop p.at ks)) in
    let last : own_faults (drop p.removed (drop p.at ks)) ≡ own_faults (items.kept rear) =
    ap own_faults (drop-drop p.removed p.at ks ∙ drop-map f (p.at + p.removed) es) in
    let new : own_faults (items.kept (patched es p)) ≡ own_faults (items.kept (take p.at es))
    + (own_faults (items.kept p.fresh) + own_faults (items.kept rear)) =
    ap own_faults (map_append f (take p.at es) (p.fresh ++ rear))
    ∙ own_append (items.kept (take p.at es)) (items.kept (p.fresh ++ rear))
    ∙ ap (λ n. own_faults (items.kept (take p.at es)) + n) (ap own_faults (map_append f p.fresh rear)
    ∙ own_append (items.kept p.fresh) (items.kept rear)) in
    omega (arith, whole, parted, last, new)

-- ---- what is kept with an item that a patch leaves

kept_get : (es : List (ItemEntry Content)) (i : ℕ)
    → option_map (λ (e : ItemEntry Content). e.kept) (slice_get es i) ≡ slice_get (items.kept es) i
kept_get [] i = refl
kept_get (e ∷ es) zero = refl
kept_get (e ∷ es) (suc i) = kept_get es i

pub kept_fresh : (es : List (ItemEntry Content)) (p : ItemChange Content) (i j : ℕ) → LiesAmong es p
    → p.at ≤ i → j ≡ i - p.at → j < length p.fresh
    → option_map (λ (e : ItemEntry Content). e.kept) (slice_get p.fresh j)
    ≡ slice_get (items.kept (patched es p)) i
kept_fresh es p i j among le is lt =
    let place : ItemSplice = record { at = p.at; removed = p.removed; added = length p.fresh } in
    let at = spliced_fresh es p.fresh place i among refl le (omega (arith, le, is, lt)) in
    ap (λ n. option_map (λ (e : ItemEntry Content). e.kept) (slice_get p.fresh n)) is
    ∙ ap (option_map (λ (e : ItemEntry Content). e.kept)) (sym at) ∙ kept_get (patched es p) i

pub kept_rear : (es : List (ItemEntry Content)) (p : ItemChange Content) (i j : ℕ) → LiesAmong es p
    → p.at + length p.fresh ≤ i → j + length p.fresh ≡ i + p.removed
    → option_map (λ (e : ItemEntry Content). e.kept) (slice_get es j)
    ≡ slice_get (items.kept (patched es p)) i
kept_rear es p i j among le is =
    let place : ItemSplice = record { at = p.at; removed = p.removed; added = length p.fresh } in
    let at = spliced_kept es p.fresh place i j among refl (inr (le, is)) in
    ap (option_map (λ (e : ItemEntry Content). e.kept)) (sym at) ∙ kept_get (patched es p) i

-- ---- definitions one by one

take_snoc : (es : List (ItemEntry Content)) (n : ℕ) → n < length es
    → take (suc n) (entry_definitions es) ≡ take n (entry_definitions es)
    ++ option_and_then (λ (e : ItemEntry Content). kept_definition e.kept) (slice_get es n) ∷ []
take_snoc [] n lt = absurd (omega (arith, lt))
take_snoc (e ∷ es) zero lt = refl
take_snoc (e ∷ es) (suc n) lt = ap (λ l. kept_definition e.kept ∷ l) (take_snoc es n (omega (arith, lt)))

pub definitions_next : (es : List (ItemEntry Content)) (n : ℕ) (ds new : List (Option Definition))
    (o : Option Definition) → n < length es → ds ≡ take n (entry_definitions es) → new ≡ ds ++ o ∷ []
    → o ≡ option_and_then (λ (e : ItemEntry Content). kept_definition e.kept) (slice_get es n)
    → new ≡ take (n + 1) (entry_definitions es)
definitions_next es n ds new o lt was pushed is =
    let next : suc n ≡ n + 1 = omega arith in
    pushed ∙ (λ i. was i ++ is i ∷ []) ∙ sym (take_snoc es n lt)
    ∙ ap (λ m. take m (entry_definitions es)) next

pub definitions_behind : (es : List (ItemEntry Content)) (at index : ℕ) (ds new : List (Option Definition))
    (o : Option Definition) → at ≤ index → index < length es
    → ds ≡ take (index - at) (drop at (entry_definitions es)) → new ≡ ds ++ o ∷ []
    → o ≡ option_and_then (λ (e : ItemEntry Content). kept_definition e.kept) (slice_get es index)
    → new ≡ take (index + 1 - at) (drop at (entry_definitions es))
definitions_behind es at index ds new o le lt was pushed is =
    let n = index - at in
    let l = length-drop at es in
    let here : at + n ≡ index = omega (arith, le) in
    let next : n + 1 ≡ index + 1 - at = omega (arith, le) in
    let same = drop-map (λ (e : ItemEntry Content). kept_definition e.kept) at es in
    let got : slice_get (drop at es) n ≡ slice_get es index = get_drop at es n ∙ ap (slice_get es) here in
    definitions_next (drop at es) n ds new o (omega (arith, l, le, lt)) (was ∙ ap (take n) same) pushed
    (is ∙ ap (option_and_then (λ (e : ItemEntry Content). kept_definition e.kept)) (sym got))
    ∙ ap (λ m. take m (entry_definitions (drop at es))) next ∙ ap (take (index + 1 - at)) (sym same)
