-- What the loop of `recut` found is what the definition says of the places of items in the two texts.
use Rattle.std.proofs.Common.{◌≡◌, ℕ, zero, suc, ◌+◌, ◌-◌, ◌≤◌, ◌<◌, ◌⊎◌, inl, inr, ⊎_elim, true, false, List}
use Rattle.std.proofs.Common.{◌++◌, length, take, drop, Option, None, Some, refl, ap, sym, ◌∙◌, subst, arith}
use Rattle.std.proofs.Common.{append_assoc, length-append, length-take-le, true≢false}
use Rattle.std.specs.Prelude.{◌↔◌}
use Rattle.std.proofs.lemmas.Bool.{cases_lt}
use Rattle.std.proofs.lemmas.List.{take-append-drop, take_at, drop_at}
use Rattle.x_text.specs.Edits.{Change}
use Rattle.x_lex.specs.declared.kind.Kind.{Kind}
use Rattle.x_lex.specs.Tiling.{AreTokens, span, end_of}
use Rattle.x_lex.specs.TokenList.{TokenPatch, patched}
use Rattle.x_lex.specs.Places.{lexemes_from, is_line_start}
use Rattle.x_lex.specs.Relex.{IsPatch, old_place}
use Rattle.x_lex.proofs.EndLemmas.{end_mono}
use Rattle.x_lex.proofs.RelexRun.{IsEdit, same_front, drop_new}
use Rattle.x_cutting.specs.ItemList.{tokens_before}
use Rattle.x_cutting.specs.Cutting.{roles_of, roles}
use Rattle.x_cutting.specs.Recut.{start_of, EndsBefore, Rejoins, IsBehind, IsRecut, IsAmong}
use Rattle.x_cutting.proofs.CountLemmas.{before_mono, before_le}
use Rattle.x_cutting.proofs.FirstLemmas.{cut_of, total_counts}
use Rattle.x_cutting.proofs.PatchedLemmas.{length-roles_from, length-roles, patched_length}
use Rattle.x_cutting.proofs.PatchEnds.{new_tokens, end_strict, end_order, end_same, meeting_late, old_end}
use Rattle.x_cutting.proofs.PatchEnds.{new_end, shifted, front_end, late_new}
use Rattle.x_cutting.proofs.RecutRun.{Meet, Keeps, Joins, Recut, Stays, Goes, before_strict, keeps_new}
use Rattle.x_cutting.proofs.TextLemmas.{roles-append, roles_front, roles_rear, item_start}

-- the items of a text's tokens
abbrev items_of : List ℕ → List (Kind × ℕ) → List ℕ
items_of text ts = cut_of (roles text ts)

-- no more tokens stand before an item than there are
pub before_fits : (text : List ℕ) (ts : List (Kind × ℕ)) (i : ℕ)
    → tokens_before (items_of text ts) i ≤ length ts
before_fits text ts i = let l = before_le (items_of text ts) i in let t = total_counts 0 0 (roles text ts) in
    let n = length-roles text ts in omega (arith, l, t, n)

-- the start of an item is 0, or no line start
item_line : (text : List ℕ) (ts : List (Kind × ℕ)) (i : ℕ) → AreTokens text ts → i < length (items_of text ts)
    → 0 < tokens_before (items_of text ts) i → is_line_start text (start_of ts (items_of text ts) i) ≡ false
item_line text ts zero tiles lt some = absurd (omega arith)
item_line text ts (suc i) tiles lt some = item_start text ts i tiles lt

module _ (change : Change) (new : List ℕ) (edit : IsEdit change new) (ts : List (Kind × ℕ))
    (tiles : AreTokens change.old ts) (patch : TokenPatch) (is : IsPatch change ts patch) where
  abbrev us : List (Kind × ℕ)
  us = patched ts patch

  tokens : AreTokens new us
  tokens = new_tokens change new edit ts tiles patch is

  front_length : length (take patch.at ts) ≡ patch.at
  front_length = length-take-le patch.at ts is.front.within

  old_roles : roles change.old ts ≡ roles_of (lexemes_from change.old 0 (take patch.at ts))
      ++ roles_of (lexemes_from change.old (0 + span (take patch.at ts)) (drop patch.at ts))
  old_roles = ap (λ l. roles change.old l) (sym (take-append-drop patch.at ts))
      ∙ roles-append change.old 0 (take patch.at ts) (drop patch.at ts)

  new_roles : roles new us ≡ roles_of (lexemes_from new 0 (take patch.at ts)) ++ roles_of
      (lexemes_from new (0 + span (take patch.at ts)) (patch.fresh ++ drop (patch.at + patch.removed) ts))
  new_roles = roles-append new 0 (take patch.at ts) (patch.fresh ++ drop (patch.at + patch.removed) ts)

  front_same : take patch.at (roles new us) ≡ take patch.at (roles change.old ts)
  front_same =
      let below : 0 + span (take patch.at ts) ≤ change.start =
      ⊎_elim (λ some. let l = is.front.before some in omega (arith, l))
      (λ at_zero. let e : patch.at ≡ 0 = omega arith in let z = ap (λ i. span (take i ts)) e in
      omega (arith, z)) (cases_lt 0 patch.at) in
      let l = length-roles_from new 0 (take patch.at ts) ∙ front_length in
      let m = length-roles_from change.old 0 (take patch.at ts) ∙ front_length in
      ap (take patch.at) new_roles
      ∙ take_at (roles_of (lexemes_from new 0 (take patch.at ts)))
      (roles_of (lexemes_from new (0 + span (take patch.at ts))
      (patch.fresh ++ drop (patch.at + patch.removed) ts))) patch.at l
      ∙ sym (roles_front change.old new change.start 0 (take patch.at ts) (same_front change new edit) below)
      ∙ sym (take_at (roles_of (lexemes_from change.old 0 (take patch.at ts)))
      (roles_of (lexemes_from change.old (0 + span (take patch.at ts)) (drop patch.at ts))) patch.at m)
      ∙ ap (take patch.at) (sym old_roles)

  rear_of : (text : List ℕ) (xs ys : List (Kind × ℕ)) (n : ℕ) → length xs ≡ n
      → drop n (roles text (xs ++ ys)) ≡ roles_of (lexemes_from text (span xs) ys)
  rear_of text xs ys n l =
      let z : 0 + span xs ≡ span xs = omega arith in
      ap (drop n) (roles-append text 0 xs ys)
      ∙ drop_at (roles_of (lexemes_from text 0 xs)) (roles_of (lexemes_from text (0 + span xs) ys)) n
      (length-roles_from text 0 xs ∙ l)
      ∙ ap (λ p. roles_of (lexemes_from text p ys)) z

  rear_same : drop (patch.at + length patch.fresh) (roles new us)
      ≡ drop (patch.at + patch.removed) (roles change.old ts)
  rear_same =
      let rest = drop (patch.at + patch.removed) ts in
      let among : patch.at + patch.removed ≤ length ts = is.among in
      let l : length (take patch.at ts ++ patch.fresh) ≡ patch.at + length patch.fresh =
      length-append (take patch.at ts) patch.fresh ∙ ap (λ n. n + length patch.fresh) front_length in
      let here : span (take patch.at ts ++ patch.fresh) ≡ is.place =
      sym (ap span (take_at (take patch.at ts ++ patch.fresh) rest (patch.at + length patch.fresh) l))
      ∙ ap (λ t. end_of t (patch.at + length patch.fresh)) (append_assoc (take patch.at ts) patch.fresh rest)
      ∙ new_end change new edit ts tiles patch is in
      let there = old_end change new edit ts tiles patch is in
      let late = meeting_late change new edit ts tiles patch is in
      ap (λ t. drop (patch.at + length patch.fresh) (roles new t))
      (sym (append_assoc (take patch.at ts) patch.fresh rest))
      ∙ rear_of new (take patch.at ts ++ patch.fresh) rest (patch.at + length patch.fresh) l
      ∙ ap (λ p. roles_of (lexemes_from new p rest)) here
      ∙ roles_rear new change.old is.place (old_place change is.place) rest
      (drop_new change new edit is.place late)
      ∙ ap (λ p. roles_of (lexemes_from change.old p rest)) (sym there)
      ∙ sym (rear_of change.old (take (patch.at + patch.removed) ts) rest (patch.at + patch.removed)
      (length-take-le (patch.at + patch.removed) ts among))
      ∙ ap (λ t. drop (patch.at + patch.removed) (roles change.old t))
      (take-append-drop (patch.at + patch.removed) ts)

  -- the two texts have their roles in common where they have their tokens in common
  pub texts_meet : Meet (roles change.old ts) (roles new us) patch.at (length patch.fresh) patch.removed
  texts_meet = record {
    front = front_same;
    rear = rear_same;
    in_old = let l = length-roles change.old ts in
        let among : patch.at + patch.removed ≤ length ts = is.among in omega (arith, l, among);
    in_new = let l = length-roles new us in let p = patched_length ts patch is.among in
        let among : patch.at + patch.removed ≤ length ts = is.among in omega (arith, l, p, among);
  }

  -- where items end before a
  old_before : (k start i : ℕ) → Keeps (items_of change.old ts) patch.at k start
      → i < length (items_of change.old ts) → (i < k) ↔ EndsBefore ts (items_of change.old ts) change.start i
  old_before k start i h lt = (
    λ less.
        let w = h.within in
        let s = before_strict (roles change.old ts) i (i + 1) (omega arith) (omega (arith, w)) in
        let m = before_mono (items_of change.old ts) (i + 1) k (omega arith) in
        let e = h.start_is in
        let l = h.before in
        let n = end_mono ts (tokens_before (items_of change.old ts) (i + 1)) patch.at
        (omega (arith, m, e, l)) in
        let f = is.front.before (omega (arith, s, m, e, l)) in
        record { whole = omega (arith, w); before = omega (arith, n, f) },
    λ ends. ⊎_elim (λ less. less) (λ le.
        let w = ends.whole in
        let n = h.next (omega (arith, w)) in
        let m = before_mono (items_of change.old ts) (k + 1) (i + 1) (omega arith) in
        let fits = before_fits change.old ts (i + 1) in
        let f = is.front.next (omega (arith, n, m, fits)) in
        let g = end_mono ts (patch.at + 1) (tokens_before (items_of change.old ts) (i + 1))
        (omega (arith, n, m)) in
        let d = ends.before in
        absurd (omega (arith, f, g, d))) (cases_lt i k),
  )

  new_before : (k start i : ℕ) → Keeps (items_of new us) patch.at k start → i < length (items_of new us)
      → (i < k) ↔ EndsBefore us (items_of new us) change.start i
  new_before k start i h lt = (
    λ less.
        let w = h.within in
        let s = before_strict (roles new us) i (i + 1) (omega arith) (omega (arith, w)) in
        let m = before_mono (items_of new us) (i + 1) k (omega arith) in
        let e = h.start_is in
        let l = h.before in
        let n = end_mono us (tokens_before (items_of new us) (i + 1)) patch.at (omega (arith, m, e, l)) in
        let same = front_end change new edit ts tiles patch is patch.at (omega arith) in
        let f = is.front.before (omega (arith, s, m, e, l)) in
        record { whole = omega (arith, w); before = omega (arith, n, f, same) },
    λ ends. ⊎_elim (λ less. less) (λ le.
        let w = ends.whole in
        let n = h.next (omega (arith, w)) in
        let m = before_mono (items_of new us) (k + 1) (i + 1) (omega arith) in
        let fits = before_fits new us (i + 1) in
        let f = late_new change new edit ts tiles patch is (omega (arith, n, m, fits)) in
        let g = end_mono us (patch.at + 1) (tokens_before (items_of new us) (i + 1)) (omega (arith, n, m)) in
        let d = ends.before in
        absurd (omega (arith, f, g, d))) (cases_lt i k),
  )

  -- the start of an item of the new text, behind the fresh tokens
  old_start : (i : ℕ) → patch.at + length patch.fresh ≤ i → old_place change (end_of us i)
      ≡ end_of ts (patch.at + patch.removed + (i - (patch.at + length patch.fresh)))
  old_start i le =
      let e : i ≡ patch.at + length patch.fresh + (i - (patch.at + length patch.fresh)) = omega arith in
      ap (λ n. old_place change (end_of us n)) e
      ∙ shifted change new edit ts tiles patch is (i - (patch.at + length patch.fresh))

  -- a place that rejoins is where an item starts that joins
  pub record Place (place : ℕ) : Type 0 where
    pub index : ℕ
    pub within : index < length (items_of new us)
    pub starts : start_of us (items_of new us) index ≡ place
    pub joins : Joins (items_of change.old ts) (patch.at + length patch.fresh) (patch.at + patch.removed)
        (tokens_before (items_of new us) index)

  zero_line : (text : List ℕ) (p : ℕ) → p ≡ 0 → is_line_start text p ≡ true
  zero_line text p e = ap (is_line_start text) e

  agrees_new : (place : ℕ) → Rejoins change ts us (items_of change.old ts) (items_of new us) is.place place
      → is_line_start change.old (old_place change place) ≡ is_line_start new place
  agrees_new place h = h.agrees.starts ∙ ap (λ text. is_line_start text place) (sym edit.result)

  pub place_joins : (place : ℕ)
      → Rejoins change ts us (items_of change.old ts) (items_of new us) is.place place → Place place
  place_joins place h = record {
    index = i;
    within = h.in_new.within;
    starts = h.in_new.starts;
    joins = record {
      far = far;
      index = j;
      within = h.in_old.within;
      ends = ends;
      both = (λ e. there_none (here_zero e), λ e. here_none (there_zero e));
    };
  }
    where
      i : ℕ
      i = h.in_new.index

      j : ℕ
      j = h.in_old.index

      here : ℕ
      here = tokens_before (items_of new us) i

      there : ℕ
      there = tokens_before (items_of change.old ts) j

      far : patch.at + length patch.fresh ≤ here
      far = ⊎_elim
          (λ lt.
          let among : patch.at + patch.removed ≤ length ts = is.among in
          let p = patched_length ts patch is.among in
          let s = end_strict new us here (patch.at + length patch.fresh) tokens lt
          (omega (arith, p, among)) in
          let e = h.in_new.starts in
          let q = new_end change new edit ts tiles patch is in
          let late = h.late in
          absurd (omega (arith, s, e, q, late)))
          (λ le. le)
          (cases_lt here (patch.at + length patch.fresh))

      ends : there ≡ patch.at + patch.removed + (here - (patch.at + length patch.fresh))
      ends =
          let p = patched_length ts patch is.among in
          let fits = before_fits new us i in
          let far_is = far in
          end_same change.old ts there (patch.at + patch.removed + (here - (patch.at + length patch.fresh)))
          tiles (before_fits change.old ts j) (omega (arith, p, fits, far_is))
          (h.in_old.starts ∙ ap (old_place change) (sym h.in_new.starts) ∙ old_start here far)

      here_zero : here ≡ 0 → is_line_start new place ≡ true
      here_zero e = zero_line new place (sym h.in_new.starts ∙ ap (end_of us) e)

      there_zero : patch.at + patch.removed + (here - (patch.at + length patch.fresh)) ≡ 0
          → is_line_start change.old (old_place change place) ≡ true
      there_zero e = zero_line change.old (old_place change place)
          (sym h.in_old.starts ∙ ap (end_of ts) (ends ∙ e))

      there_none : is_line_start new place ≡ true
          → patch.at + patch.removed + (here - (patch.at + length patch.fresh)) ≡ 0
      there_none line = ⊎_elim
          (λ some.
          let e = ends in
          let no = item_line change.old ts j tiles h.in_old.within (omega (arith, some, e)) in
          absurd (true≢false (sym line ∙ sym (agrees_new place h)
          ∙ ap (is_line_start change.old) (sym h.in_old.starts) ∙ no)))
          (λ le. let r : patch.at + patch.removed + (here - (patch.at + length patch.fresh)) ≡ 0 =
          omega arith in r)
          (cases_lt 0 (patch.at + patch.removed + (here - (patch.at + length patch.fresh))))

      here_none : is_line_start change.old (old_place change place) ≡ true → here ≡ 0
      here_none line = ⊎_elim
          (λ some.
          let no = item_line new us i tokens h.in_new.within some in
          absurd (true≢false (sym line ∙ agrees_new place h
          ∙ ap (is_line_start new) (sym h.in_new.starts) ∙ no)))
          (λ le. let r : here ≡ 0 = omega arith in r)
          (cases_lt 0 here)

  module _ (k start : ℕ) (keeps : Keeps (items_of change.old ts) patch.at k start) where
    abbrev end_place : List ℕ → ℕ
    end_place news = start_of us (items_of new us) (k + length news)

    -- where the old items hold again
    pub rejoins : (news : List ℕ) (end : ℕ) → k + length news < length (items_of new us)
        → Stays (items_of change.old ts) (roles new us) patch.at (length patch.fresh) patch.removed k news end
        → Rejoins change ts us (items_of change.old ts) (items_of new us) is.place
        (start_of us (items_of new us) (k + length news))
    rejoins news end lt h = record {
      agrees = record {
        behind = let l = late in let m = meeting_late change new edit ts tiles patch is in
            omega (arith, l, m);
        in_new = record { index = here; within = before_fits new us (k + length news); ends = refl };
        in_old = record { index = there; within = before_fits change.old ts end; ends = old_is };
        starts = lines (cases_lt 0 here) (cases_lt 0 there)
            ∙ ap (λ text. is_line_start text (end_of us here)) edit.result;
      };
      late = late;
      in_new = record { index = k + length news; within = lt; starts = refl };
      in_old = record { index = end; within = h.there; starts = old_is };
    }
      where
        here : ℕ
        here = tokens_before (items_of new us) (k + length news)

        there : ℕ
        there = tokens_before (items_of change.old ts) end

        late : is.place ≤ end_of us here
        late = let m = end_mono us (patch.at + length patch.fresh) here h.far in
            let q = new_end change new edit ts tiles patch is in omega (arith, m, q)

        old_is : end_of ts there ≡ old_place change (end_of us here)
        old_is = ap (end_of ts) h.ends ∙ sym (old_start here h.far)

        lines : (0 < here) ⊎ (here ≤ 0) → (0 < there) ⊎ (there ≤ 0)
            → is_line_start change.old (old_place change (end_of us here))
            ≡ is_line_start new (end_of us here)
        lines (inl some) (inl more) = ap (is_line_start change.old) (sym old_is)
            ∙ item_line change.old ts end tiles h.there more
            ∙ sym (item_line new us (k + length news) tokens lt some)
        lines (inl some) (inr none) = let e = h.both.1 (omega arith) in absurd (omega (arith, e))
        lines (inr none) (inl more) = let e = h.both.0 (omega arith) in absurd (omega (arith, e))
        lines (inr none) (inr none') =
            let z : here ≡ 0 = omega arith in
            let w : there ≡ 0 = omega arith in
            zero_line change.old (old_place change (end_of us here)) (sym old_is ∙ ap (end_of ts) w)
            ∙ sym (zero_line new (end_of us here) (ap (end_of us) z))

    -- no place before it rejoins
    pub rejoins_first : (news : List ℕ) (end other : ℕ)
        → Recut (items_of change.old ts) (roles new us) patch.at (length patch.fresh) patch.removed k news end
        → k + length news < length (items_of new us)
        → other < start_of us (items_of new us) (k + length news)
        → Rejoins change ts us (items_of change.old ts) (items_of new us) is.place other → ⊥
    rejoins_first news end other h there lt r =
        let p = place_joins other r in
        let s = p.starts in
        let i = end_order new us (tokens_before (items_of new us) p.index)
        (tokens_before (items_of new us) (k + length news)) tokens (before_fits new us p.index)
        (omega (arith, s, lt)) in
        ⊎_elim
        (λ less. h.none p.index less p.joins)
        (λ le. let m = before_mono (items_of new us) (k + length news) p.index le in omega (arith, i, m))
        (cases_lt p.index (k + length news))

    -- none at all does
    pub rejoins_none : (news : List ℕ) (end other : ℕ)
        → Goes (items_of change.old ts) (roles new us) patch.at (length patch.fresh) patch.removed k news end
        → Rejoins change ts us (items_of change.old ts) (items_of new us) is.place other → ⊥
    rejoins_none news end other h r =
        let p = place_joins other r in
        let w = p.within in
        let l = h.last in
        h.recut.none p.index (omega (arith, w, l)) p.joins

    -- an item starts behind another exactly where it comes behind it
    new_order : (i j : ℕ) → i < length (items_of new us) → j < length (items_of new us)
        → (j ≤ i) ↔ (start_of us (items_of new us) j ≤ start_of us (items_of new us) i)
    new_order i j lt there = (
      λ le. end_mono us (tokens_before (items_of new us) j) (tokens_before (items_of new us) i)
          (before_mono (items_of new us) j i le),
      λ le. ⊎_elim (λ less.
          let s = before_strict (roles new us) i j less there in
          let e = end_strict new us (tokens_before (items_of new us) i) (tokens_before (items_of new us) j)
          tokens s (before_fits new us j) in
          absurd (omega (arith, e, le))) (λ ge. ge) (cases_lt i j),
    )

    old_order : (i j : ℕ) → i < length (items_of change.old ts) → j < length (items_of change.old ts)
        → (j ≤ i) ↔ (start_of ts (items_of change.old ts) j ≤ start_of ts (items_of change.old ts) i)
    old_order i j lt there = (
      λ le. end_mono ts (tokens_before (items_of change.old ts) j) (tokens_before (items_of change.old ts) i)
          (before_mono (items_of change.old ts) j i le),
      λ le. ⊎_elim (λ less.
          let s = before_strict (roles change.old ts) i j less there in
          let e = end_strict change.old ts (tokens_before (items_of change.old ts) i)
          (tokens_before (items_of change.old ts) j) tiles s (before_fits change.old ts j) in
          absurd (omega (arith, e, le))) (λ ge. ge) (cases_lt i j),
    )

    -- the items that are recut
    recut_from : (end i : ℕ) (z : Option ℕ) → i < length (items_of new us)
        → ((end ≤ i) ↔ IsBehind z (start_of us (items_of new us) i))
        → IsAmong i k end ↔ IsRecut us (items_of new us) change.start z i
    recut_from end i z lt rear =
        let before = new_before k start i (keeps_new (roles change.old ts) (roles new us) patch.at
        (length patch.fresh) patch.removed texts_meet k start keeps) lt in (
          λ h. record {
            late = λ ends. let l = before.1 ends in let f = h.from in omega (arith, l, f);
            early = λ late. let l = rear.1 late in let t = h.to in omega (arith, l, t);
          },
          λ h. record {
            from = ⊎_elim (λ less. absurd (h.late (before.0 less))) (λ le. le) (cases_lt i k);
            to = ⊎_elim (λ less. less) (λ le. absurd (h.early (rear.0 le))) (cases_lt i end);
          },
        )

    pub recut_stays : (news : List ℕ) (end i : ℕ) → k + length news < length (items_of new us)
        → i < length (items_of new us) → IsAmong i k (k + length news) ↔ IsRecut us
        (items_of new us) change.start (Some (start_of us (items_of new us) (k + length news))) i
    recut_stays news end i there lt = recut_from (k + length news) i
        (Some (start_of us (items_of new us) (k + length news))) lt (new_order i (k + length news) lt there)

    pub recut_goes : (news : List ℕ) (i : ℕ) → length (items_of new us) ≡ k + length news
        → i < length (items_of new us)
        → IsAmong i k (k + length news) ↔ IsRecut us (items_of new us) change.start None i
    recut_goes news i all lt =
        recut_from (k + length news) i None lt (λ le. omega (arith, le, lt, all), λ none. absurd none)

    pub rear_stays : (news : List ℕ) (end i : ℕ)
        → Stays (items_of change.old ts) (roles new us) patch.at (length patch.fresh) patch.removed k news end
        → i < length (items_of change.old ts)
        → (end ≤ i) ↔ IsBehind (Some (old_place change (start_of us (items_of new us) (k + length news))))
        (start_of ts (items_of change.old ts) i)
    rear_stays news end i h lt =
        let same : start_of ts (items_of change.old ts) end
        ≡ old_place change (start_of us (items_of new us) (k + length news)) = ap (end_of ts) h.ends
        ∙ sym (old_start (tokens_before (items_of new us) (k + length news)) h.far) in
        subst (λ p. (end ≤ i) ↔ (p ≤ start_of ts (items_of change.old ts) i)) same
        (old_order i end lt h.there)

    pub front_items : (i : ℕ) → i < length (items_of change.old ts)
        → (i < k) ↔ EndsBefore ts (items_of change.old ts) change.start i
    front_items i lt = old_before k start i keeps lt
