-- What an edit leaves of the items of a text: those before it and behind it stay what they are.
use Rattle.std.proofs.Common.{◌≡◌, ℕ, zero, suc, ◌+◌, ◌-◌, ◌<◌, ◌≤◌, ⊎_elim, true, List, [], ◌∷◌, ◌++◌}
use Rattle.std.proofs.Common.{length, map, take, drop, refl, sym, ap, subst, ◌∙◌, arith, length-append}
use Rattle.std.proofs.Common.{length-drop, length-take-le}
use Rattle.std.specs.List.{splice}
use Rattle.std.proofs.lemmas.Bool.{cases_lt}
use Rattle.std.proofs.lemmas.List.{drop-map, drop-drop, drop_all, drop-take, take-append-le, take-append-drop}
use Rattle.std.proofs.lemmas.List.{take-take}
use Rattle.std.proofs.Math.Seq.{take-append_seam, drop-append-add}
use Rattle.x_text.specs.Edits.{Change, edited_by, LiesWithin}
use Rattle.x_lex.specs.declared.kind.Kind.{Kind}
use Rattle.x_lex.specs.Places.{Lexeme, lexeme_at, lexemes, lexemes_from}
use Rattle.x_lex.specs.Relex.{IsFront, old_place}
use Rattle.x_lex.specs.Tiling.{AreTokens, end_of, span}
use Rattle.x_lex.specs.TokenList.{TokenPatch, LiesAmong, patched}
use Rattle.x_lex.proofs.RelexRun.{IsEdit, drop_new, new_length}
use Rattle.x_lex.proofs.SpanLemmas.{lexemes_drop, length-lexemes_from, span-drop, span_tiles}
use Rattle.x_cutting.specs.ItemList.{ItemChange, counts, tokens_before, total}
use Rattle.x_cutting.specs.ItemList as items
use Rattle.x_cutting.specs.Recut.{IsItemPatch}
use Rattle.x_cutting.proofs.CountLemmas.{counts-splice}
use Rattle.x_cutting.specs.Items.{IsCut}
use Rattle.x_cutting.specs.declared.cutting.item_entry.ItemEntry.{ItemEntry}
use Rattle.x_follow.specs.Following.{AreFollowed}
use Rattle.x_compile.specs.KeptView.{AreAlong, AreParsed}
use Rattle.x_compile.specs.declared.content.Content.{Content}
use Rattle.x_compile.proofs.LookLemmas.{look}
use Rattle.x_compile.proofs.AlongLemmas.{along_alike, along_append, along_back, along_each, along_front}
use Rattle.x_compile.proofs.AlongLemmas.{along_less, along_more, cut_of, parsed_along, total_before}
use Rattle.x_compile.proofs.AlongLemmas.{total_counts, total_cut, total_parts}

-- ---- tokens by what is left of a text

looks_from : List ℕ → List (Kind × ℕ) → List (Kind × List ℕ)
looks_from rest [] = []
looks_from rest (t ∷ ts) = (t.0, take t.1 rest) ∷ looks_from (drop t.1 rest) ts

looks_are : (text : List ℕ) (at : ℕ) (ts : List (Kind × ℕ))
    → map look (lexemes_from text at ts) ≡ looks_from (drop at text) ts
unfolding looks_from
looks_are text at [] = refl
looks_are text at (t ∷ ts) =
    let n : at + t.1 - at ≡ t.1 = omega arith in
    let rest = looks_are text (at + t.1) ts ∙ ap (λ r. looks_from r ts) (sym (drop-drop t.1 at text)) in
    λ i. (t.0, take (n i) (drop at text)) ∷ rest i

-- tokens look alike in texts that are the same as far as they go
looks_front : (r s : List ℕ) (ts : List (Kind × ℕ)) → take (span ts) r ≡ take (span ts) s
    → looks_from r ts ≡ looks_from s ts
unfolding looks_from
looks_front r s [] same = refl
looks_front r s (t ∷ ts) same =
    let le : t.1 ≤ t.1 + span ts = omega arith in
    let here : take t.1 r ≡ take t.1 s = sym (take-take t.1 (t.1 + span ts) r le) ∙ ap (take t.1) same
    ∙ take-take t.1 (t.1 + span ts) s le in
    let there : take (span ts) (drop t.1 r) ≡ take (span ts) (drop t.1 s) = sym (drop-take t.1 (span ts) r)
    ∙ ap (drop t.1) same ∙ drop-take t.1 (span ts) s in
    let rest = looks_front (drop t.1 r) (drop t.1 s) ts there in
    λ i. (t.0, here i) ∷ rest i

lexemes_take : (text : List ℕ) (at : ℕ) (ts : List (Kind × ℕ)) (n : ℕ)
    → take n (lexemes_from text at ts) ≡ lexemes_from text at (take n ts)
lexemes_take text at ts zero = refl
lexemes_take text at [] (suc n) = refl
lexemes_take text at (t ∷ ts) (suc n) =
    let rest = lexemes_take text (at + t.1) ts n in ap (λ l. lexeme_at text (t.0, at, at + t.1) ∷ l) rest

-- ---- the tokens that stay

-- the first tokens of both lists look alike, and so do those behind an index each
pub record SameEnds (olds news : List Lexeme) (front gone fresh : ℕ) : Type 0 where
  pub front_within : front ≤ length olds
  pub gone_within : gone ≤ length olds
  pub fresh_within : fresh ≤ length news
  pub before : map look (take front olds) ≡ map look (take front news)
  pub behind : map look (drop gone olds) ≡ map look (drop fresh news)
  pub many : length olds + fresh ≡ length news + gone

module _ (change : Change) (new : List ℕ) (ts : List (Kind × ℕ)) (patch : TokenPatch)
    (lies : LiesWithin change) (edited : new ≡ edited_by change) (olds : AreTokens change.old ts)
    (news : AreTokens new (patched ts patch))
    (among : LiesAmong ts patch) (front : IsFront ts change.start patch.at)
    (far : change.end ≤ end_of ts (patch.at + patch.removed)) where
  is_edit : IsEdit change new
  is_edit = record { lies = lies; result = edited }

  gone : ℕ
  gone = patch.at + patch.removed

  fresh : ℕ
  fresh = patch.at + length patch.fresh

  gone_le : patch.at + patch.removed ≤ length ts
  gone_le = among

  front_long : length (take patch.at ts) ≡ patch.at
  front_long = let a = gone_le in length-take-le patch.at ts (omega (arith, a))

  same_front : take patch.at (patched ts patch) ≡ take patch.at ts
  same_front =
      ap (λ n. take n (patched ts patch)) (sym front_long)
      ∙ take-append_seam (take patch.at ts) (patch.fresh ++ drop (patch.at + patch.removed) ts)

  same_rear : drop (patch.at + length patch.fresh) (patched ts patch) ≡ drop (patch.at + patch.removed) ts
  same_rear =
      let one : patch.at + length patch.fresh ≡ length (take patch.at ts) + length patch.fresh =
      let f = front_long in omega (arith, f) in
      let zero_more : length patch.fresh ≡ length patch.fresh + 0 = omega arith in
      ap (λ n. drop n (patched ts patch)) one
      ∙ drop-append-add (take patch.at ts) (patch.fresh ++ drop (patch.at + patch.removed) ts)
      (length patch.fresh)
      ∙ ap (λ n. drop n (patch.fresh ++ drop (patch.at + patch.removed) ts)) zero_more
      ∙ drop-append-add patch.fresh (drop (patch.at + patch.removed) ts) 0

  news_long : length (patched ts patch) + patch.removed ≡ length ts + length patch.fresh
  news_long =
      let a = gone_le in
      let f = front_long in
      let l = length-append (take patch.at ts) (patch.fresh ++ drop (patch.at + patch.removed) ts) in
      let m = length-append patch.fresh (drop (patch.at + patch.removed) ts) in
      let d = length-drop (patch.at + patch.removed) ts in
      omega (arith, a, f, l, m, d)

  -- the tokens in front end before the edit
  front_span : span (take patch.at ts) ≤ change.start
  front_span =
      ⊎_elim
      (λ some. let b = front.before some in let same : span (take patch.at ts) ≡ end_of ts patch.at = refl in
      omega (arith, b, same))
      (λ none. let z : patch.at ≡ 0 = omega (arith, none) in
      let e : span (take patch.at ts) ≡ 0 = ap (λ n. span (take n ts)) z in omega (arith, e))
      (cases_lt 0 patch.at)

  same_text : take (span (take patch.at ts)) change.old ≡ take (span (take patch.at ts)) new
  same_text =
      let n = span (take patch.at ts) in
      let o = lies.forward in
      let w = lies.within in
      let small = front_span in
      let l : length (take change.start change.old) ≡ change.start =
      length-take-le change.start change.old (omega (arith, o, w)) in
      let a = length-append (take change.start change.old) change.insert in
      sym (take-take n change.start change.old small)
      ∙ sym (take-append-le n (take change.start change.old) change.insert (omega (arith, l, small)))
      ∙ sym (take-append-le n (take change.start change.old ++ change.insert) (drop change.end change.old)
      (omega (arith, l, small, a)))
      ∙ ap (take n) (sym edited)

  before_alike : map look (take patch.at (lexemes change.old ts))
      ≡ map look (take patch.at (lexemes new (patched ts patch)))
  before_alike =
      ap (map look) (lexemes_take change.old 0 ts patch.at) ∙ looks_are change.old 0 (take patch.at ts)
      ∙ looks_front change.old new (take patch.at ts) same_text
      ∙ ap (looks_from new) (sym same_front)
      ∙ sym (ap (map look) (lexemes_take new 0 (patched ts patch) patch.at)
      ∙ looks_are new 0 (take patch.at (patched ts patch)))

  -- where the tokens behind start in both texts
  rear_start : (change.start + length change.insert
      ≤ end_of (patched ts patch) (patch.at + length patch.fresh))
      × (old_place change (end_of (patched ts patch) (patch.at + length patch.fresh))
      ≡ end_of ts (patch.at + patch.removed))
  rear_start =
      let us = patched ts patch in
      let p = span-drop us (patch.at + length patch.fresh) in
      let q = span-drop ts (patch.at + patch.removed) in
      let s = span_tiles true new us news in
      let t = span_tiles true change.old ts olds in
      let r = ap span same_rear in
      let n = new_length change new is_edit in
      let f = far in
      let w = lies.within in
      (omega (arith, p, q, s, t, r, n, f, w), omega (arith, p, q, s, t, r, n, f, w))

  same_behind : drop (end_of (patched ts patch) (patch.at + length patch.fresh)) new
      ≡ drop (end_of ts (patch.at + patch.removed)) change.old
  same_behind =
      let r = rear_start in
      drop_new change new is_edit (end_of (patched ts patch) (patch.at + length patch.fresh)) r.0
      ∙ ap (λ n. drop n change.old) r.1

  rear_looks : (text : List ℕ) (us : List (Kind × ℕ)) (i : ℕ)
      → map look (drop i (lexemes text us)) ≡ looks_from (drop (end_of us i) text) (drop i us)
  rear_looks text us i =
      let z : 0 + end_of us i ≡ end_of us i = omega arith in
      ap (map look) (lexemes_drop text 0 us i) ∙ looks_are text (0 + end_of us i) (drop i us)
      ∙ ap (λ n. looks_from (drop n text) (drop i us)) z

  behind_alike : map look (drop (patch.at + patch.removed) (lexemes change.old ts))
      ≡ map look (drop (patch.at + length patch.fresh) (lexemes new (patched ts patch)))
  behind_alike =
      rear_looks change.old ts (patch.at + patch.removed)
      ∙ (λ i. looks_from (sym same_behind i) (sym same_rear i))
      ∙ sym (rear_looks new (patched ts patch) (patch.at + length patch.fresh))

  pub same_ends : SameEnds (lexemes change.old ts) (lexemes new (patched ts patch)) patch.at
      (patch.at + patch.removed) (patch.at + length patch.fresh)
  same_ends =
      let a = gone_le in
      let l = length-lexemes_from change.old 0 ts in
      let m = length-lexemes_from new 0 (patched ts patch) in
      let n = news_long in
      record {
        front_within = omega (arith, a, l);
        gone_within = omega (arith, a, l);
        fresh_within = omega (arith, a, l, m, n);
        before = before_alike;
        behind = behind_alike;
        many = omega (arith, l, m, n);
      }

-- ---- the items that stay

module _ (olds news : List Lexeme) (front gone fresh : ℕ) (ends : SameEnds olds news front gone fresh)
    (es new : List (ItemEntry Content)) (at removed : ℕ) (among : at + removed ≤ length es)
    (before : tokens_before (counts es) at ≤ front)
    (behind : at + removed < length es → gone ≤ tokens_before (counts es) (at + removed))
    (cut : IsCut news (counts (splice es at (at + removed) new))) (old : AreParsed olds es) where
  along : AreAlong olds es
  along = along_each old.parts es olds old.are.all old.each

  -- those before the edit
  first : AreAlong news (take at es)
  first =
      let whole : AreAlong olds (take at es) = along_front (take at es) (drop at es) olds
      (subst (λ l. AreAlong olds l) (sym (take-append-drop at es)) along) in
      let few = total_before es at in
      let w = ends.front_within in
      let l : length (take front olds) ≡ front = length-take-le front olds w in
      let b = before in
      let here : AreAlong (take front olds) (take at es) =
      along_less (take at es) (take front olds) (drop front olds) (omega (arith, few, l, b))
      (subst (λ l. AreAlong l (take at es)) (sym (take-append-drop front olds)) whole) in
      subst (λ l. AreAlong l (take at es)) (take-append-drop front news)
      (along_more (take at es) (take front news) (drop front news)
      (along_alike (take at es) (take front olds) (take front news) ends.before here))

  -- how many tokens the fresh items start and end behind
  ends_at : tokens_before (counts es) at + total (counts new) + total (counts (drop (at + removed) es))
      ≡ length news
  ends_at =
      let a = total_counts (take at es) (new ++ drop (at + removed) es) in
      let b = total_counts new (drop (at + removed) es) in
      let c = total_before es at in
      let d = total_cut news (counts (splice es at (at + removed) new)) cut in
      omega (arith, a, b, c, d)

  pub fresh_fit : tokens_before (counts es) at + total (counts new) ≤ length news
  fresh_fit = let e = ends_at in omega (arith, e)

  olds_at : tokens_before (counts es) (at + removed) + total (counts (drop (at + removed) es)) ≡ length olds
  olds_at =
      let a = total_parts es (at + removed) in
      let b = total_cut olds (counts es) (cut_of olds es old) in
      omega (arith, a, b)

  -- those behind it
  last : AreAlong (drop (tokens_before (counts es) at + total (counts new)) news) (drop (at + removed) es)
  last =
      ⊎_elim
      (λ some.
      let j = tokens_before (counts es) (at + removed) in
      let far : gone ≤ j = behind some in
      let back : AreAlong (drop (total (counts (take (at + removed) es))) olds) (drop (at + removed) es) =
      along_back (take (at + removed) es) (drop (at + removed) es) olds
      (subst (λ l. AreAlong olds l) (sym (take-append-drop (at + removed) es)) along) in
      let here : AreAlong (drop j olds) (drop (at + removed) es) =
      subst (λ n. AreAlong (drop n olds) (drop (at + removed) es)) (total_before es (at + removed)) back in
      let e = ends_at in
      let o = olds_at in
      let m = ends.many in
      let w = ends.gone_within in
      let old_parts : j ≡ gone + (j - gone) = omega (arith, far) in
      let new_parts : fresh + (j - gone) ≡ tokens_before (counts es) at + total (counts new) =
      omega (arith, far, e, o, m, w) in
      let same : map look (drop j olds)
      ≡ map look (drop (tokens_before (counts es) at + total (counts new)) news) =
      ap (λ n. map look (drop n olds)) old_parts
      ∙ ap (map look) (sym (drop-drop (j - gone) gone olds))
      ∙ sym (drop-map look (j - gone) (drop gone olds))
      ∙ ap (drop (j - gone)) ends.behind
      ∙ drop-map look (j - gone) (drop fresh news)
      ∙ ap (map look) (drop-drop (j - gone) fresh news)
      ∙ ap (λ n. map look (drop n news)) new_parts in
      along_alike (drop (at + removed) es) (drop j olds)
      (drop (tokens_before (counts es) at + total (counts new)) news) same here)
      (λ none. subst (λ l. AreAlong (drop (tokens_before (counts es) at + total (counts new)) news) l)
      (sym (drop_all (at + removed) es none)) tt)
      (cases_lt (at + removed) (length es))

  pub parsed_behind : AreAlong (drop (tokens_before (counts es) at) news) new
      → AreParsed news (splice es at (at + removed) new)
  parsed_behind along_new =
      let start = total_before es at in
      let middle : AreAlong (drop (tokens_before (counts es) at) news) (new ++ drop (at + removed) es) =
      along_append new (drop (at + removed) es) (drop (tokens_before (counts es) at) news) along_new
      (subst (λ l. AreAlong l (drop (at + removed) es))
      (sym (drop-drop (total (counts new)) (tokens_before (counts es) at) news)) last) in
      parsed_along news (splice es at (at + removed) new) cut
      (along_append (take at es) (new ++ drop (at + removed) es) news first
      (subst (λ n. AreAlong (drop n news) (new ++ drop (at + removed) es)) (sym start) middle))

-- ---- the items that an edit leaves

module _ (new : List ℕ) (ts : List (Kind × ℕ)) (es : List (ItemEntry Content)) (patch : TokenPatch)
    (p : ItemChange Content) (h : AreFollowed new ts es patch)
    (recut : IsItemPatch h.change ts (patched ts patch) es p) (before : p.start ≤ patch.at)
    (behind : p.at + p.removed < length es
    → patch.at + patch.removed ≤ tokens_before (counts es) (p.at + p.removed)) where
  tiles : AreTokens new (patched ts patch)
  tiles = subst (λ text. AreTokens text (patched ts patch)) (sym h.relexed.edited) h.relexed.patch.tokens

  kept_ends : SameEnds (lexemes h.change.old ts) (lexemes new (patched ts patch)) patch.at
      (patch.at + patch.removed) (patch.at + length patch.fresh)
  kept_ends = same_ends h.change new ts patch h.relexed.within h.relexed.edited h.relexed.tokens tiles
      h.relexed.patch.among h.relexed.patch.front h.behind

  first_le : tokens_before (counts es) p.at ≤ patch.at
  first_le = let s = recut.start in let b = before in omega (arith, s, b)

  cut_with : (fresh : List (ItemEntry Content)) → counts fresh ≡ counts p.fresh
      → IsCut (lexemes new (patched ts patch)) (counts (splice es p.at (p.at + p.removed) fresh))
  cut_with fresh same =
      subst (λ text. IsCut (lexemes text (patched ts patch))
      (counts (splice es p.at (p.at + p.removed) fresh))) (sym h.relexed.edited)
      (subst (λ cs. IsCut (lexemes (edited_by h.change) (patched ts patch)) cs)
      (counts-splice es p.fresh p.at (p.at + p.removed)
      ∙ ap (λ l. splice (counts es) p.at (p.at + p.removed) l) (sym same)
      ∙ sym (counts-splice es fresh p.at (p.at + p.removed))) recut.cut)

  -- the fresh items' tokens are there
  pub fresh_within : p.start + total (counts p.fresh) ≤ length (patched ts patch)
  fresh_within =
      let fit = fresh_fit (lexemes h.change.old ts) (lexemes new (patched ts patch)) patch.at
      (patch.at + patch.removed) (patch.at + length patch.fresh) kept_ends es p.fresh p.at p.removed
      recut.among first_le behind (cut_with p.fresh refl) h.parsed in
      let s = recut.start in
      let l = length-lexemes_from new 0 (patched ts patch) in
      omega (arith, fit, s, l)

  pub items_followed : (q : ItemChange Content) → counts q.fresh ≡ counts p.fresh
      → q ≡ record p { fresh = q.fresh } → AreAlong (drop p.start (lexemes new (patched ts patch))) q.fresh
      → AreParsed (lexemes new (patched ts patch)) (items.patched es q)
  items_followed q same is along_new =
      let parsed = parsed_behind (lexemes h.change.old ts) (lexemes new (patched ts patch)) patch.at
      (patch.at + patch.removed) (patch.at + length patch.fresh) kept_ends es q.fresh p.at p.removed
      recut.among first_le behind (cut_with q.fresh same) h.parsed
      (subst (λ n. AreAlong (drop n (lexemes new (patched ts patch))) q.fresh) recut.start along_new) in
      subst (λ (r : ItemChange Content). AreParsed (lexemes new (patched ts patch))
      (splice es r.at (r.at + r.removed) q.fresh)) (sym is) parsed
