-- The patch that `recut` makes is the one of the definition.
use Rattle.std.proofs.Common.{◌≡◌, ℕ, suc, ◌+◌, ◌-◌, ◌≤◌, ◌<◌, Bool, true, false, List, [], ◌∷◌, ◌++◌, length}
use Rattle.std.proofs.Common.{take, drop, Option, None, Some, refl, ap, sym, ◌∙◌, subst, arith, length-append}
use Rattle.std.proofs.Common.{length-drop, length-take-le}
use Rattle.std.specs.Prelude.{◌↔◌, option_map, ◌==◌, cond}
use Rattle.std.specs.Bool.{beq}
use Rattle.std.specs.List.{splice}
use Rattle.std.proofs.lemmas.Bool.{cond-true, cond-false}
use Rattle.std.proofs.lemmas.List.{length-map}
use Rattle.x_text.specs.declared.text.source.TheConstants.{MAX_TEXT}
use Rattle.x_text.specs.Edits.{Change}
use Rattle.x_lex.specs.declared.kind.Kind.{Kind}
use Rattle.x_lex.specs.Tiling.{end_of}
use Rattle.x_lex.specs.TokenList.{TokenPatch}
use Rattle.x_lex.specs.TokenList as tokens
use Rattle.x_lex.specs.Places.{lexemes}
use Rattle.x_lex.specs.Relex.{old_place}
use Rattle.x_lex.proofs.RelexEnds.{tokens_fit}
use Rattle.x_lex.proofs.RelexRun.{IsEdit}
use Rattle.x_cutting.specs.declared.cutting.item_entry.ItemEntry.{ItemEntry}
use Rattle.x_cutting.specs.ItemList.{total, counts, tokens_before, ItemChange, patched, AreOfText}
use Rattle.x_cutting.specs.Items.{IsCut}
use Rattle.x_cutting.specs.Cutting.{DepthRole, roles, counts_from, ends_at, depth_after}
use Rattle.x_cutting.specs.Recut.{IsRelexed, IsItemPatch, start_of, EndsBefore, IsBehind, IsRejoining}
use Rattle.x_cutting.specs.Recut.{IsRecut, IsAmong}
use Rattle.x_cutting.proofs.CountLemmas.{counts-splice}
use Rattle.x_cutting.proofs.CuttingLemmas.{cut_counts, counts_cut}
use Rattle.x_cutting.proofs.FirstLemmas.{cut_of, cut_some, total_counts}
use Rattle.x_cutting.proofs.PatchedLemmas.{length-roles}
use Rattle.x_cutting.proofs.CutRun.{counts_pushed}
use Rattle.x_cutting.proofs.PatchEnds.{new_tokens, front_end}
use Rattle.x_cutting.proofs.RecutRun.{Meet, Keeps, Recut, Stays, Goes, Recutting, Advanced, Moved}
use Rattle.x_cutting.proofs.RecutRun.{recutting_none, recutting_more, advanced, item_some, recut_joined}
use Rattle.x_cutting.proofs.RecutRun.{recut_ended, both_zero}
use Rattle.x_cutting.proofs.RecutPlaces.{texts_meet, rejoins, rejoins_first, rejoins_none, recut_stays}
use Rattle.x_cutting.proofs.RecutPlaces.{recut_goes, rear_stays, front_items}

-- there is at most one item more than there are tokens
few_items : (d n : ℕ) (rs : List DepthRole) → length (counts_from d n rs) ≤ length rs + 1
few_items d n [] = omega arith
few_items d n (r ∷ rs) = by (ends_at d r) refl (few_items 0 0 rs) (few_items (depth_after d r) (n + 1) rs)
  where
    by : (b : Bool) → ends_at d r ≡ b → length (counts_from 0 0 rs) ≤ length rs + 1
        → length (counts_from (depth_after d r) (n + 1) rs) ≤ length rs + 1
        → length (counts_from d n (r ∷ rs)) ≤ suc (length rs) + 1
    by true e one other =
        let c = ap length (cond-true (ends_at d r) ((n + 1) ∷ counts_from 0 0 rs)
        (counts_from (depth_after d r) (n + 1) rs) e) in omega (arith, c, one)
    by false e one other =
        let c = ap length (cond-false (ends_at d r) ((n + 1) ∷ counts_from 0 0 rs)
        (counts_from (depth_after d r) (n + 1) rs) e) in omega (arith, c, other)

module _ {K : Type 0} (change : Change) (new : List ℕ) (ts : List (Kind × ℕ)) (items : List (ItemEntry K))
    (patch : TokenPatch) (rel : IsRelexed change new ts (counts items) patch) where
  abbrev us : List (Kind × ℕ)
  us = tokens.patched ts patch

  pub edit : IsEdit change new
  edit = record { lies = rel.within; result = rel.edited }

  pub meet : Meet (roles change.old ts) (roles new us) patch.at (length patch.fresh) patch.removed
  meet = texts_meet change new edit ts rel.tokens patch rel.patch

  pub items_are : counts items ≡ cut_of (roles change.old ts)
  items_are = cut_counts (lexemes change.old ts) (counts items) rel.items

  pub item_count : length items ≡ length (cut_of (roles change.old ts))
  item_count = sym (length-map items (λ (e : ItemEntry K). e.tokens)) ∙ ap length items_are

  -- as many tokens as the items have
  pub token_count : total (counts items) ≡ length ts
  token_count = ap total items_are ∙ (let t = total_counts 0 0 (roles change.old ts) in
      let l = length-roles change.old ts in omega (arith, t, l))

  pub new_count : length (roles new us) ≡ length us
  new_count = length-roles new us

  pub keeps : (k start x : ℕ) → x ≡ patch.at → k < length items → start ≡ tokens_before (counts items) k
      → start ≤ x → (k + 1 < length items → x < tokens_before (counts items) (k + 1))
      → Keeps (cut_of (roles change.old ts)) patch.at k start
  keeps k start x at within is before next = record {
    within = let n = item_count in omega (arith, n);
    start_is = is ∙ ap (λ l. tokens_before l k) items_are;
    before = omega (arith, at);
    next = λ more.
        let n = item_count in
        let l = next (omega (arith, n)) in
        let e = ap (λ l. tokens_before l (k + 1)) items_are in
        omega (arith, l, e, at);
  }

  module _ (k start : ℕ) (kept : Keeps (cut_of (roles change.old ts)) patch.at k start)
      (fresh : List (ItemEntry K)) (end : ℕ) where
    abbrev made : ItemChange K
    made = record { at = k; removed = end - k; start = start; fresh = fresh }

    abbrev TheRecut : Type 0
    TheRecut = Recut (cut_of (roles change.old ts)) (roles new us) patch.at (length patch.fresh) patch.removed
        k (counts fresh) end

    left_are : TheRecut → counts (patched items made) ≡ cut_of (roles new us)
    left_are h =
        let e : k + (end - k) ≡ end = let o = h.order in omega (arith, o) in
        counts-splice items fresh k (k + (end - k))
        ∙ ap (λ n. splice (counts items) k n (counts fresh)) e
        ∙ ap (λ l. splice l k end (counts fresh)) items_are
        ∙ sym h.are

    left_count : TheRecut → length (patched items made) ≡ length (cut_of (roles new us))
    left_count h = sym (length-map (patched items made) (λ (e : ItemEntry K). e.tokens))
        ∙ ap length (left_are h)

    fresh_count : length (counts fresh) ≡ length fresh
    fresh_count = length-map fresh (λ (e : ItemEntry K). e.tokens)

    -- the items of the new text are as few as a text can have
    made_fits : TheRecut → length new ≤ MAX_TEXT → AreOfText (counts (patched items made))
    made_fits h small =
        let fit = tokens_fit new us (new_tokens change new edit ts rel.tokens patch rel.patch) small in
        let few = fit.few in
        let l = length-roles new us in
        subst AreOfText (sym (left_are h)) (record {
          some = cut_some (roles new us);
          few = let n = few_items 0 0 (roles new us) in omega (arith, n, l, few);
          short = let t = total_counts 0 0 (roles new us) in omega (arith, t, l, few);
        })

    -- the parts of the definition that a place, if there is one, decides
    record Decided (join : Option ℕ) : Type 0 where
      rejoining : IsRejoining change ts us (cut_of (roles change.old ts)) (cut_of (roles new us))
          rel.patch.place join
      recut : (i : ℕ) → i < length (cut_of (roles new us))
          → IsAmong i k (k + length (counts fresh)) ↔ IsRecut us (cut_of (roles new us)) change.start join i
      rear : (i : ℕ) → i < length (cut_of (roles change.old ts))
          → (end ≤ i) ↔ IsBehind (option_map (old_place change) join)
          (start_of ts (cut_of (roles change.old ts)) i)

    decided : (join : Option ℕ) → TheRecut → Decided join → IsItemPatch change ts us items made
    decided join h d =
        let left = left_are h in
        let n = item_count in
        let e : k + (end - k) ≡ end = let o = h.order in omega (arith, o) in
        record {
          among = let w = h.within in omega (arith, w, n, e);
          start = kept.start_is ∙ ap (λ l. tokens_before l k) (sym items_are);
          cut = subst (λ text. IsCut (lexemes text us) (counts (patched items made))) rel.edited
              (counts_cut (lexemes new us) (counts (patched items made)) left);
          join = join;
          joins = record {
            place = rel.patch.place;
            meeting = rel.patch.meeting;
            rejoining = subst (λ l. IsRejoining change ts us (counts items) l rel.patch.place join) (sym left)
                (subst (λ l. IsRejoining change ts us l (cut_of (roles new us)) rel.patch.place join)
                (sym items_are) d.rejoining);
          };
          fresh = λ i lt.
              subst (λ l. IsAmong i k (k + length fresh) ↔ IsRecut us l change.start join i) (sym left)
              (subst (λ m. IsAmong i k (k + m) ↔ IsRecut us (cut_of (roles new us)) change.start join i)
              fresh_count (d.recut i (let c = left_count h in omega (arith, lt, c))));
          front = λ i lt.
              subst (λ l. (i < k) ↔ EndsBefore ts l change.start i) (sym items_are)
              (front_items change new edit ts rel.tokens patch rel.patch k start kept i
              (omega (arith, lt, n)));
          rear = λ i lt.
              subst (λ l. (k + (end - k) ≤ i) ↔ IsBehind (option_map (old_place change) join)
              (start_of ts l i)) (sym items_are)
              (subst (λ m. (m ≤ i) ↔ IsBehind (option_map (old_place change) join)
              (start_of ts (cut_of (roles change.old ts)) i)) (sym e)
              (d.rear i (omega (arith, lt, n))));
        }

    pub stays_made : Stays (cut_of (roles change.old ts)) (roles new us) patch.at (length patch.fresh)
        patch.removed k (counts fresh) end → IsItemPatch change ts us items made
    stays_made h =
        let there = some_left h in
        decided (Some (start_of us (cut_of (roles new us)) (k + length (counts fresh)))) h.recut (record {
          rejoining = (
            rejoins change new edit ts rel.tokens patch rel.patch k start kept (counts fresh) end there h,
            λ other lt r. rejoins_first change new edit ts rel.tokens patch rel.patch k start kept
                (counts fresh) end other h.recut there lt r,
          );
          recut = λ i lt. recut_stays change new edit ts rel.tokens patch rel.patch k start kept
              (counts fresh) end i there lt;
          rear = λ i lt. rear_stays change new edit ts rel.tokens patch rel.patch k start kept
              (counts fresh) end i h lt;
        })
      where
        some_left : Stays (cut_of (roles change.old ts)) (roles new us) patch.at (length patch.fresh)
            patch.removed k (counts fresh) end → k + length (counts fresh) < length (cut_of (roles new us))
        some_left h =
            let cs = cut_of (roles change.old ts) in
            let a = ap length h.recut.are in
            let w = kept.within in
            let t = h.there in
            let m = length-append (take k cs) (counts fresh ++ drop end cs) in
            let n = length-append (counts fresh) (drop end cs) in
            let f = length-take-le k cs (omega (arith, w)) in
            let r = length-drop end cs in
            omega (arith, a, t, m, n, f, r)

    pub goes_made : Goes (cut_of (roles change.old ts)) (roles new us) patch.at (length patch.fresh)
        patch.removed k (counts fresh) end → IsItemPatch change ts us items made
    goes_made h = decided None h.recut (record {
      rejoining = λ other r. rejoins_none change new edit ts rel.tokens patch rel.patch k start kept
          (counts fresh) end other h r;
      recut = λ i lt. recut_goes change new edit ts rel.tokens patch rel.patch k start kept
          (counts fresh) i h.last lt;
      rear = λ i lt. (λ le. let t = h.there in omega (arith, le, lt, t), λ none. absurd none);
    })

    pub stays_fits : Stays (cut_of (roles change.old ts)) (roles new us) patch.at (length patch.fresh)
        patch.removed k (counts fresh) end → length new ≤ MAX_TEXT → AreOfText (counts (patched items made))
    stays_fits h small = made_fits h.recut small

    pub goes_fits : Goes (cut_of (roles change.old ts)) (roles new us) patch.at (length patch.fresh)
        patch.removed k (counts fresh) end → length new ≤ MAX_TEXT → AreOfText (counts (patched items made))
    goes_fits h small = made_fits h.recut small

-- what is known before the loop: what the edit did to the
-- tokens of a text that isn't too long, and the items in front
pub record Ready {K : Type 0} (change : Change) (text : List ℕ) (ts : List (Kind × ℕ))
    (items : List (ItemEntry K)) (patch : TokenPatch) (k start : ℕ) : Type 0 where
  pub rel : IsRelexed change text ts (counts items) patch
  pub small : length text ≤ MAX_TEXT
  pub kept : Keeps (cut_of (roles change.old ts)) patch.at k start

pub relexed_as : {K : Type 0} (change : Change) (text new : List ℕ) (ts : List (Kind × ℕ))
    (items : List (ItemEntry K)) (patch : TokenPatch) → text ≡ new
    → IsRelexed change new ts (counts items) patch → IsRelexed change text ts (counts items) patch
relexed_as change text new ts items patch same rel =
    subst (λ t. IsRelexed change t ts (counts items) patch) (sym same) rel

pub ready : {K : Type 0} (change : Change) (text new : List ℕ) (ts : List (Kind × ℕ))
    (items : List (ItemEntry K)) (patch : TokenPatch) (k start x : ℕ) → text ≡ new → length new ≤ MAX_TEXT
    → IsRelexed change new ts (counts items) patch
    → x ≡ patch.at → k < length items → start ≡ tokens_before (counts items) k → start ≤ x
    → (k + 1 < length items → x < tokens_before (counts items) (k + 1))
    → Ready change text ts items patch k start
ready change text new ts items patch k start x same small rel at within is before next =
    let r = relexed_as change text new ts items patch same rel in
    record {
      rel = r;
      small = let l = ap length same in omega (arith, small, l);
      kept = keeps change text ts items patch r k start x at within is before next;
    }

module _ {K : Type 0} (change : Change) (text : List ℕ) (ts : List (Kind × ℕ)) (items : List (ItemEntry K))
    (patch : TokenPatch) (k start : ℕ) (known : Ready change text ts items patch k start) where
  abbrev all_meet : Meet (roles change.old ts) (roles text (tokens.patched ts patch)) patch.at
      (length patch.fresh) patch.removed
  all_meet = meet change text ts items patch known.rel

  -- the loop's state
  abbrev pub State : List (ItemEntry K) → ℕ → ℕ → ℕ → Type 0
  State fresh index back back_index = Recutting (counts items) (roles text (tokens.patched ts patch)) patch.at
      (length patch.fresh) patch.removed k start (counts fresh) index back back_index

  -- by what running depth finds
  abbrev Run : List (ItemEntry K) → ℕ → ℕ → ℕ → Type 0
  Run fresh index back back_index =
      Recutting (cut_of (roles change.old ts)) (roles text (tokens.patched ts patch)) patch.at
      (length patch.fresh) patch.removed k start (counts fresh) index back back_index

  are : counts items ≡ cut_of (roles change.old ts)
  are = items_are change text ts items patch known.rel

  run : (fresh : List (ItemEntry K)) (index back back_index : ℕ) → State fresh index back back_index
      → Run fresh index back back_index
  run fresh index back back_index h =
      subst (λ cs. Recutting cs (roles text (tokens.patched ts patch)) patch.at (length patch.fresh)
      patch.removed k start (counts fresh) index back back_index) are h

  state : (fresh : List (ItemEntry K)) (index back back_index : ℕ) → Run fresh index back back_index
      → State fresh index back back_index
  state fresh index back back_index h =
      subst (λ cs. Recutting cs (roles text (tokens.patched ts patch)) patch.at (length patch.fresh)
      patch.removed k start (counts fresh) index back back_index) (sym are) h

  run_moved : (index back to to_index : ℕ)
      → Moved (counts items) patch.at (length patch.fresh) patch.removed index back to to_index
      → Moved (cut_of (roles change.old ts)) patch.at (length patch.fresh) patch.removed index
      back to to_index
  run_moved index back to to_index h =
      subst (λ cs. Moved cs patch.at (length patch.fresh) patch.removed index back to to_index) are h

  pub few_tokens : length (tokens.patched ts patch) ≤ MAX_TEXT
  few_tokens = (tokens_fit text (tokens.patched ts patch)
      (new_tokens change text (edit change text ts items patch known.rel) ts known.rel.tokens patch
      known.rel.patch) known.small).few

  pub fresh_within : patch.at + length patch.fresh ≤ length (tokens.patched ts patch)
  fresh_within =
      let i = all_meet.in_new in let l = length-roles text (tokens.patched ts patch) in omega (arith, i, l)

  pub gone_within : patch.at + patch.removed ≤ length ts
  gone_within = let i = all_meet.in_old in let l = length-roles change.old ts in omega (arith, i, l)

  pub index_within : (fresh : List (ItemEntry K)) (index back back_index : ℕ)
      → State fresh index back back_index → index ≤ length (tokens.patched ts patch)
  index_within fresh index back back_index h =
      let w = h.within in let l = length-roles text (tokens.patched ts patch) in omega (arith, w, l)

  pub back_within : (fresh : List (ItemEntry K)) (index back back_index : ℕ)
      → State fresh index back back_index → back < length items
  back_within fresh index back back_index h =
      let w = h.back_within in let n = length-map items (λ (e : ItemEntry K). e.tokens) in omega (arith, w, n)

  pub back_is : (fresh : List (ItemEntry K)) (index back back_index : ℕ) → State fresh index back back_index
      → back_index ≡ tokens_before (counts items) back
  back_is fresh index back back_index h = h.back_is

  pub state_none : (fresh : List (ItemEntry K)) → fresh ≡ [] → State fresh start k start
  state_none fresh e = state fresh start k start
      (recutting_none (roles change.old ts) (roles text (tokens.patched ts patch)) patch.at
      (length patch.fresh) patch.removed all_meet k start known.kept (counts fresh) (ap counts e))

  pub place_start : (place : ℕ) → place ≡ end_of ts start → place ≡ end_of (tokens.patched ts patch) start
  place_start place e = e
      ∙ sym (front_end change text (edit change text ts items patch known.rel) ts known.rel.tokens patch
      known.rel.patch start known.kept.before)

  -- an item of the old ones was reached
  pub reached : (fresh : List (ItemEntry K)) (index back back_index to to_index target : ℕ)
      → State fresh index back back_index
      → target ≡ patch.at + patch.removed + (index - (patch.at + length patch.fresh)) → to < length items
      → to_index ≡ tokens_before (counts items) to
      → ((j : ℕ) → back ≤ j → j < to → tokens_before (counts items) j < target)
      → (to + 1 < length items → target ≤ to_index)
      → Advanced (counts items) patch.at (length patch.fresh) patch.removed index to to_index
  reached fresh index back back_index to to_index target h is within at below far =
      let n = item_count change text ts items patch known.rel in
      subst (λ cs. Advanced cs patch.at (length patch.fresh) patch.removed index to to_index) (sym are)
      (advanced (roles change.old ts) (roles text (tokens.patched ts patch)) patch.at (length patch.fresh)
      patch.removed all_meet k start known.kept (counts fresh) index back back_index to to_index target
      (run fresh index back back_index h) is (omega (arith, within, n))
      (at ∙ ap (λ l. tokens_before l to) are)
      (λ j le lt. let b = below j le lt in let e = ap (λ l. tokens_before l j) are in omega (arith, b, e))
      (λ more. far (omega (arith, more, n))))

  pub there_is : (to to_index : ℕ) → to_index ≡ tokens_before (counts items) to
      → to_index ≡ tokens_before (cut_of (roles change.old ts)) to
  there_is to to_index e = e ∙ ap (λ l. tokens_before l to) (items_are change text ts items patch known.rel)

  pub counted_within : (to : ℕ) → to < length items → to < length (counts items)
  counted_within to lt = let n = length-map items (λ (e : ItemEntry K). e.tokens) in omega (arith, lt, n)

  pub there_within : (to : ℕ) → to < length items → to < length (cut_of (roles change.old ts))
  there_within to lt = let n = item_count change text ts items patch known.rel in omega (arith, lt, n)

  -- one item more
  pub state_more : (fresh more : List (ItemEntry K)) (entry : ItemEntry K)
      (index count back back_index to to_index : ℕ) (whole : Bool) → State fresh index back back_index
      → Moved (counts items) patch.at (length patch.fresh) patch.removed index back to to_index
      → index + count ≤ length (tokens.patched ts patch)
      → counts_from 0 0 (drop index (roles text (tokens.patched ts patch))) ≡ count ∷ cond whole
      (counts_from 0 0 (drop (index + count) (roles text (tokens.patched ts patch)))) []
      → whole ≡ true → more ≡ fresh ++ entry ∷ [] → entry.tokens ≡ count
      → State more (index + count) to to_index
  state_more fresh more entry index count back back_index to to_index whole h moved fit item is
      pushed as_many =
      let S = roles text (tokens.patched ts patch) in
      let l = length-roles text (tokens.patched ts patch) in
      let m = run_moved index back to to_index moved in
      state more (index + count) to to_index
      (recutting_more (roles change.old ts) S patch.at (length patch.fresh) patch.removed all_meet k start
      known.kept (counts fresh) (counts more) index count back back_index to to_index
      (run fresh index back back_index h) m.forth m.within m.at m.below m.apart
      (omega (arith, fit, l))
      (item ∙ ap (λ b. count ∷ cond b (cut_of (drop (index + count) S)) []) is)
      (counts_pushed fresh more entry count pushed as_many))

  pub more_some : (index count : ℕ) (whole : Bool)
      → counts_from 0 0 (drop index (roles text (tokens.patched ts patch)))
      ≡ count ∷ cond whole (counts_from 0 0 (drop (index + count) (roles text (tokens.patched ts patch)))) []
      → whole ≡ true → 0 < count
  more_some index count whole item is =
      let S = roles text (tokens.patched ts patch) in
      item_some (roles change.old ts) S patch.at (length patch.fresh) patch.removed all_meet k start
      known.kept index count (item ∙ ap (λ b. count ∷ cond b (cut_of (drop (index + count) S)) []) is)

  -- the patch that is made where old items hold again, and where none does
  module _ (made : ItemChange K) where
    pub record IsMade : Type 0 where
      pub patch_is : IsItemPatch change ts (tokens.patched ts patch) items made
      pub fits : AreOfText (counts (patched items made))

    pub made_joined : (fresh : List (ItemEntry K)) (index back back_index to to_index target : ℕ)
        → State fresh index back back_index → back ≤ to → to < length items
        → to_index ≡ tokens_before (counts items) to
        → patch.at + length patch.fresh ≤ index
        → target ≡ patch.at + patch.removed + (index - (patch.at + length patch.fresh)) → to_index ≡ target
        → beq (index == 0) (target == 0) ≡ true
        → made ≡ record { at = k; removed = to - k; start = start; fresh = fresh } → IsMade
    made_joined fresh index back back_index to to_index target h forth within at far is there nil made_is =
        let stays = recut_joined (roles change.old ts) (roles text (tokens.patched ts patch)) patch.at
        (length patch.fresh) patch.removed all_meet k start known.kept (counts fresh) index back back_index to
        to_index (run fresh index back back_index h) forth (there_within to within) (there_is to to_index at)
        far (there ∙ is)
        (subst (λ n. (index ≡ 0) ↔ (n ≡ 0)) (sym there) (both_zero index target nil)) in
        let item_patch : IsItemPatch change ts (tokens.patched ts patch) items
        (record { at = k; removed = to - k; start = start; fresh = fresh }) =
        stays_made change text ts items patch known.rel k start known.kept fresh to stays in
        record {
          patch_is = subst (λ p. IsItemPatch change ts (tokens.patched ts patch) items p)
              (sym made_is) item_patch;
          fits = subst (λ p. AreOfText (counts (patched items p))) (sym made_is)
              (stays_fits change text ts items patch known.rel k start known.kept fresh to stays known.small);
        }

    pub made_ended : (fresh more : List (ItemEntry K)) (entry : ItemEntry K)
        (index count back back_index to to_index end : ℕ) (whole : Bool) → State fresh index back back_index
        → Moved (counts items) patch.at (length patch.fresh) patch.removed index back to to_index
        → counts_from 0 0 (drop index (roles text (tokens.patched ts patch))) ≡ count ∷ cond whole
        (counts_from 0 0 (drop (index + count) (roles text (tokens.patched ts patch)))) []
        → whole ≡ false → more ≡ fresh ++ entry ∷ [] → entry.tokens ≡ count → end ≡ length items
        → made ≡ record { at = k; removed = end - k; start = start; fresh = more } → IsMade
    made_ended fresh more entry index count back back_index to to_index end whole h moved item is pushed
        as_many all made_is =
        let S = roles text (tokens.patched ts patch) in
        let goes = recut_ended (roles change.old ts) S patch.at (length patch.fresh) patch.removed all_meet k
        start known.kept (counts fresh) (counts more) index count back back_index end
        (run fresh index back back_index h) (run_moved index back to to_index moved).apart
        (item ∙ ap (λ b. count ∷ cond b (cut_of (drop (index + count) S)) []) is)
        (counts_pushed fresh more entry count pushed as_many)
        (all ∙ item_count change text ts items patch known.rel) in
        let item_patch : IsItemPatch change ts (tokens.patched ts patch) items
        (record { at = k; removed = end - k; start = start; fresh = more }) =
        goes_made change text ts items patch known.rel k start known.kept more end goes in
        record {
          patch_is = subst (λ p. IsItemPatch change ts (tokens.patched ts patch) items p)
              (sym made_is) item_patch;
          fits = subst (λ p. AreOfText (counts (patched items p))) (sym made_is)
              (goes_fits change text ts items patch known.rel k start known.kept more end goes known.small);
        }
