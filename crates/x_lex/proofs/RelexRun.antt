-- The loop of `relex`: what it keeps, one token more, and both ends.
use Rattle.std.proofs.Common.{◌≡◌, ℕ, suc, ◌+◌, ◌-◌, ◌<◌, ◌≤◌, ⊎_elim, Bool, List, [], ◌∷◌, ◌++◌, length}
use Rattle.std.proofs.Common.{get_or, take, drop, arith, refl, sym, ap, subst, ◌∙◌, length-drop}
use Rattle.std.proofs.Common.{length-append, length-take-le, get_or-drop, get_or-take, append_assoc}
use Rattle.std.specs.Prelude.{◌==◌}
use Rattle.std.proofs.lemmas.Bool.{cases_lt, cases_order}
use Rattle.std.proofs.lemmas.List.{drop-drop, drop_at, take-append-le, append-nil, get_or_append_left}
use Rattle.std.proofs.lemmas.List.{length_push}
use Rattle.x_lex.specs.declared.kind.Kind.{Kind}
use Rattle.x_lex.specs.Word.{IsToken}
use Rattle.x_text.specs.Edits.{Change, edited_by, LiesWithin}
use Rattle.x_lex.specs.Tiling.{Tiles, AreTokens, span, end_of}
use Rattle.x_lex.specs.Places.{is_line_start}
use Rattle.x_lex.specs.Relex.{IsBoundary, old_place, IsFront}
use Rattle.x_lex.proofs.TilingLemmas.{token_spans, Leads, leads_more, same_token}
use Rattle.x_lex.proofs.LocalLemmas.{local_token}
use Rattle.x_lex.proofs.SpanLemmas.{span-append}
use Rattle.x_lex.proofs.EndLemmas.{end_le_span, end_more, end_all, tiles_from, Same, same_line_starts}
use Rattle.x_lex.proofs.EndLemmas.{front_stays, starts_behind}
use Rattle.x_lex.proofs.RelexLemmas.{boundary_pushed, Between}

-- new is what the change, which lies within its text, leaves of it
pub record IsEdit (change : Change) (new : List ℕ) : Type 0 where
  pub lies : LiesWithin change
  pub result : new ≡ edited_by change

-- p agrees, were it a boundary of the new text
pub record Meets (change : Change) (new : List ℕ) (ts : List (Kind × ℕ)) (p : ℕ) : Type 0 where
  pub behind : change.start + length change.insert ≤ p
  pub in_old : IsBoundary ts (old_place change p)
  pub starts : is_line_start change.old (old_place change p) ≡ is_line_start new p

-- behind the first x old tokens the tokens `news` have been lexed, up to `at`
pub record Relexing (change : Change) (new : List ℕ) (ts : List (Kind × ℕ)) (x : ℕ) (news : List (Kind × ℕ))
    (start : Bool) (at : ℕ) : Type 0 where
  pub leads : Leads new (take x ts ++ news) start at
  pub spans : span (take x ts ++ news) ≡ at
  pub bit : start ≡ is_line_start new at
  pub between : Between change.start at (end_of ts x) news
  pub none : (p : ℕ) → p < at → IsBoundary (take x ts ++ news) p → Meets change new ts p → ⊥

module _ (change : Change) (new : List ℕ) (edit : IsEdit change new) where
  front_length : length (take change.start change.old) ≡ change.start
  front_length = let o = edit.lies.forward in let w = edit.lies.within in
      length-take-le change.start change.old (omega (arith, o, w))

  pub new_length : length new ≡ change.start + length change.insert + (length change.old - change.end)
  new_length =
      let e = ap length edit.result in
      let f = length-append (take change.start change.old ++ change.insert) (drop change.end change.old) in
      let g = length-append (take change.start change.old) change.insert in
      let h = front_length in
      let d = length-drop change.end change.old in
      omega (arith, e, f, g, h, d)

  pub same_front : Same change.old new change.start
  same_front = record {
    left = let o = edit.lies.forward in let w = edit.lies.within in omega (arith, o, w);
    right = let e = new_length in omega (arith, e);
    bytes = λ i lt.
        let l = front_length in
        let m = length-append (take change.start change.old) change.insert in
        let r : get_or new i 0 ≡ get_or (edited_by change) i 0 = ap (λ t. get_or t i 0) edit.result in
        sym (r ∙ get_or_append_left (take change.start change.old ++ change.insert)
        (drop change.end change.old) 0 i (omega (arith, l, m))
        ∙ get_or_append_left (take change.start change.old) change.insert 0 i (omega (arith, l))
        ∙ get_or-take change.start change.old i 0 lt);
  }

  -- behind the edited the texts are the same
  pub drop_new : (p : ℕ) → change.start + length change.insert ≤ p
      → drop p new ≡ drop (old_place change p) change.old
  drop_new p le =
      let l : length (take change.start change.old ++ change.insert) ≡ change.start + length change.insert =
      length-append (take change.start change.old) change.insert
      ∙ ap (λ k. k + length change.insert) front_length in
      let e : change.start + length change.insert + (p - (change.start + length change.insert)) ≡ p =
      omega arith in
      ap (λ i. drop i new) (sym e)
      ∙ sym (drop-drop (p - (change.start + length change.insert)) (change.start + length change.insert) new)
      ∙ ap (λ t. drop (p - (change.start + length change.insert))
      (drop (change.start + length change.insert) t)) edit.result
      ∙ ap (λ t. drop (p - (change.start + length change.insert)) t)
      (drop_at (take change.start change.old ++ change.insert) (drop change.end change.old)
      (change.start + length change.insert) l)
      ∙ drop-drop (p - (change.start + length change.insert)) change.end change.old

  module _ (ts : List (Kind × ℕ)) (tiles : AreTokens change.old ts) (x : ℕ)
      (front : IsFront ts change.start x) where
    take_span : span (take x ts) ≡ end_of ts x
    take_span = refl

    front_le : end_of ts x ≤ length new
    front_le =
        ⊎_elim
        (λ pos. let l = front.before pos in let e = new_length in omega (arith, l, e))
        (λ at_zero. let e : x ≡ 0 = omega arith in let z : end_of ts x ≡ 0 = ap (λ i. end_of ts i) e in
        omega (arith, z))
        (cases_lt 0 x)

    front_leads : Leads new (take x ts) (is_line_start new (end_of ts x)) (end_of ts x)
    front_leads = record {
      within = front_le;
      goes_on = λ us h. front_stays x change.old new ts change.start same_front tiles front.within
          front.before us h;
    }

    pub relexing_none : Relexing change new ts x [] (is_line_start new (end_of ts x)) (end_of ts x)
    relexing_none = record {
      leads = subst (λ l. Leads new l (is_line_start new (end_of ts x)) (end_of ts x))
          (sym (append-nil (take x ts))) front_leads;
      spans = ap span (append-nil (take x ts));
      bit = refl;
      between = record { late = λ i lt. absurd (omega arith); early = λ i lt. absurd (omega arith) };
      none = λ p lt h m.
          let l = m.behind in
          ⊎_elim
          (λ pos. let f = front.before pos in absurd (omega (arith, f, l)))
          (λ at_zero. let e : x ≡ 0 = omega arith in let z : end_of ts x ≡ 0 = ap (λ i. end_of ts i) e in
          absurd (omega (arith, z)))
          (cases_lt 0 x);
    }

    -- a new token right behind the kept ones doesn't end before the edited, or it were an old one
    first_far : (k : Kind) (len : ℕ) → IsToken k (is_line_start new (end_of ts x)) (drop (end_of ts x) new)
        len → end_of ts x + len < change.start → ⊥
    first_far k len t lt = at_rest (drop x ts) refl rest
      where
        bits : is_line_start new (end_of ts x) ≡ is_line_start change.old (end_of ts x)
        bits = sym (same_line_starts change.old new change.start (end_of ts x) (omega arith) same_front)

        there : IsToken k (is_line_start change.old (end_of ts x)) (drop (end_of ts x) change.old) len
        there =
            local_token k (is_line_start change.old (end_of ts x)) (drop (end_of ts x) new)
            (drop (end_of ts x) change.old) len
            (subst (λ s. IsToken k s (drop (end_of ts x) new) len) bits t)
            (record {
              left = let r = same_front.right in rw length-drop (omega (arith, r));
              right = let r = same_front.left in rw length-drop (omega (arith, r));
              same = λ i le. get_or-drop (end_of ts x) new i 0
                  ∙ sym (same_front.bytes (end_of ts x + i) (omega arith))
                  ∙ sym (get_or-drop (end_of ts x) change.old i 0);
            })

        rest : Tiles (is_line_start change.old (end_of ts x)) (drop (end_of ts x) change.old) (drop x ts)
        rest = tiles_from x change.old ts tiles front.within

        at_rest : (us : List (Kind × ℕ)) → drop x ts ≡ us
            → Tiles (is_line_start change.old (end_of ts x)) (drop (end_of ts x) change.old) us → ⊥
        at_rest [] e h =
            let s = token_spans k (is_line_start change.old (end_of ts x)) (drop (end_of ts x) change.old)
            len there in
            let some = s.some in
            let w = s.within in
            let z = ap length h in
            omega (arith, some, w, z)
        at_rest (u ∷ us) e h =
            let same = same_token (is_line_start change.old (end_of ts x)) (drop (end_of ts x) change.old)
            (k, len) u there h.0 in
            let l = ap length e in
            let d = length-drop x ts in
            let more : x < length ts = omega (arith, l, d) in
            let got : get_or ts x u ≡ u = sym (ap (λ i. get_or ts i u) (let z : x + 0 ≡ x = omega arith in z))
            ∙ sym (get_or-drop x ts 0 u) ∙ ap (λ l. get_or l 0 u) e in
            let far = front.next more in
            let m = end_more ts x u more in
            let lens : (get_or ts x u).1 ≡ len = ap (λ v. v.1) (got ∙ sym same) in
            omega (arith, far, m, lens)

    -- one token more
    pub relexing_more : (news : List (Kind × ℕ)) (start : Bool) (at end : ℕ) (k : Kind)
        → Relexing change new ts x news start at → (Meets change new ts at → ⊥) → at < end → end ≤ length new
        → IsToken k start (drop at new) (end - at)
        → Relexing change new ts x (news ++ (k, end - at) ∷ []) (get_or new (end - 1) 0 == 10) end
    relexing_more news start at end k h apart lt fit t = record {
      leads = subst (λ l. Leads new l (get_or new (end - 1) 0 == 10) end) assoc
          (leads_more new (take x ts ++ news) start at end k h.leads lt fit t);
      spans = whole;
      bit = starts_behind new at end lt;
      between = record { late = late; early = early };
      none = none;
    }
      where
        assoc : (take x ts ++ news) ++ (k, end - at) ∷ [] ≡ take x ts ++ (news ++ (k, end - at) ∷ [])
        assoc = append_assoc (take x ts) news ((k, end - at) ∷ [])

        sums : end_of ts x + span news ≡ at
        sums = let s = span-append (take x ts) news in let e = h.spans in omega (arith, s, e)

        whole : span (take x ts ++ (news ++ (k, end - at) ∷ [])) ≡ end
        whole = let s = span-append (take x ts ++ news) ((k, end - at) ∷ []) in let e = h.spans in
            let f = ap span assoc in omega (arith, s, e, f)

        inside : (i : ℕ) → i ≤ length news → end_of (news ++ (k, end - at) ∷ []) i ≡ end_of news i
        inside i le = ap span (take-append-le i news ((k, end - at) ∷ []) le)

        pushed : end_of (news ++ (k, end - at) ∷ []) (length news + 1) ≡ span news + (end - at)
        pushed =
            let e : length (news ++ (k, end - at) ∷ []) ≡ length news + 1 = length_push news (k, end - at) in
            let s = span-append news ((k, end - at) ∷ []) in
            ap (λ i. end_of (news ++ (k, end - at) ∷ []) i) (sym e) ∙ end_all (news ++ (k, end - at) ∷ [])
            ∙ (omega (arith, s))

        far_empty : news ≡ [] → change.start ≤ end
        far_empty e =
            let at_is : at ≡ end_of ts x = let s = sums in let z : span news ≡ 0 = ap span e in
            omega (arith, s, z) in
            ⊎_elim
            (λ less. absurd (first_far k (end - at)
            (subst (λ p. IsToken k (is_line_start new p) (drop p new) (end - at)) at_is
            (subst (λ s. IsToken k s (drop at new) (end - at)) h.bit t))
            (omega arith)))
            (λ le. le)
            (cases_lt end change.start)

        far_some : (m : ℕ) → length news ≡ suc m → change.start ≤ end
        far_some m e =
            let l = h.between.late m (omega arith) in
            let i : end_of news (m + 1) ≡ span news =
            ap (λ j. end_of news j) (let z : m + 1 ≡ length news = omega arith in z) ∙ end_all news in
            let s = sums in
            omega (arith, l, i, s)

        far : (us : List (Kind × ℕ)) → news ≡ us → change.start ≤ end
        far [] e = far_empty e
        far (u ∷ us) e = far_some (length us) (ap length e)

        late : (i : ℕ) → i < length (news ++ (k, end - at) ∷ [])
            → change.start ≤ end_of ts x + end_of (news ++ (k, end - at) ∷ []) (i + 1)
        late i l =
            ⊎_elim
            (λ less. let e = inside (i + 1) (omega arith) in let g = h.between.late i less in
            omega (arith, e, g))
            (λ ge.
            let n : i ≡ length news = let p = length_push news (k, end - at) in omega (arith, p) in
            let e : end_of (news ++ (k, end - at) ∷ []) (i + 1) ≡ span news + (end - at) =
            ap (λ j. end_of (news ++ (k, end - at) ∷ []) (j + 1)) n ∙ pushed in
            let f = far news refl in
            let s = sums in
            omega (arith, e, f, s))
            (cases_lt i (length news))

        early : (i : ℕ) → i < length (news ++ (k, end - at) ∷ [])
            → end_of ts x + end_of (news ++ (k, end - at) ∷ []) i < end
        early i l =
            let le : i ≤ length news = let p = length_push news (k, end - at) in omega (arith, p) in
            let e = inside i le in
            let m = end_le_span news i in
            let s = sums in
            omega (arith, e, m, s)

        none : (p : ℕ) → p < end → IsBoundary (take x ts ++ (news ++ (k, end - at) ∷ [])) p
            → Meets change new ts p → ⊥
        none p l i m =
            let j : IsBoundary ((take x ts ++ news) ++ (k, end - at) ∷ []) p =
            subst (λ us. IsBoundary us p) (sym assoc) i in
            let e = h.spans in
            let c : IsBoundary (take x ts ++ news) p =
            boundary_pushed (take x ts ++ news) (k, end - at) p j (omega (arith, e)) in
            ⊎_elim
            (λ same. apart (subst (λ q. Meets change new ts q) same m))
            (λ o. ⊎_elim
            (λ less. h.none p less c m)
            (λ more. let w = end_le_span (take x ts ++ news) c.index in let f = c.ends in
            absurd (omega (arith, w, f, e)))
            o)
            (cases_order p at)
