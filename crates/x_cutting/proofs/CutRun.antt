-- The loop of `cut`: what it keeps.
use Rattle.std.proofs.Common.{◌≡◌, ℕ, ◌+◌, ◌≤◌, Bool, true, false, List, [], ◌∷◌, ◌++◌, length, refl, ap, sym}
use Rattle.std.proofs.Common.{◌∙◌, subst, append_assoc, arith}
use Rattle.std.proofs.lemmas.Bool.{cond-true, cond-false}
use Rattle.std.proofs.lemmas.Bool.Decides.{nat_tests}
use Rattle.std.proofs.lemmas.List.{map-append, length_push}
use Rattle.x_text.specs.declared.text.source.TheConstants.{MAX_TEXT}
use Rattle.x_lex.specs.Places.{Lexeme}
use Rattle.x_cutting.specs.declared.cutting.item_entry.ItemEntry.{ItemEntry}
use Rattle.x_cutting.specs.Items.{IsCut}
use Rattle.x_cutting.specs.ItemList.{total, counts, AreOfText}
use Rattle.x_cutting.specs.Cutting.{DepthRole, opening, closing, semicolon, plain, role_of, roles_of}
use Rattle.x_cutting.specs.Cutting.{depth_after, ends_at, counts_from}
use Rattle.x_cutting.proofs.CountLemmas.{total-append}
use Rattle.x_cutting.proofs.CuttingLemmas.{counts_cut}
use Rattle.x_cutting.proofs.PatchedLemmas.{depth_after_le}

-- the items that were found go before those of the tokens that are left
pub record Cutting (all left : List Lexeme) (found : List ℕ) (depth count : ℕ) : Type 0 where
  pub goes_on : counts_from 0 0 (roles_of all) ≡ found ++ counts_from depth count (roles_of left)
  pub sums : total found + count + length left ≡ length all
  pub few : length found ≤ total found
  pub deep : depth ≤ count

pub cutting_none : (all left : List Lexeme) (found : List ℕ) (depth : ℕ) → left ≡ all → found ≡ [] → depth ≡ 0
    → Cutting all left found depth 0
cutting_none all left found depth is none zero =
    subst (λ l. Cutting all l found depth 0) (sym is)
    (subst (λ f. Cutting all all f depth 0) (sym none)
    (subst (λ d. Cutting all all [] d 0) (sym zero)
    (record { goes_on = refl; sums = omega arith; few = omega arith; deep = omega arith })))

-- a token that ends no item
pub cutting_on : (all left left' : List Lexeme) (found : List ℕ) (depth count next : ℕ) (t : Lexeme)
    (ends : Bool) → left ≡ t ∷ left' → ends ≡ ends_at depth (role_of t) → next ≡ depth_after depth (role_of t)
    → ends ≡ false → Cutting all left found depth count → Cutting all left' found next (count + 1)
cutting_on all left left' found depth count next t ends is says moved no_end h = record {
  goes_on =
      h.goes_on
      ∙ ap (λ l. found ++ counts_from depth count (roles_of l)) is
      ∙ ap (λ l. found ++ l)
      (cond-false (ends_at depth (role_of t)) ((count + 1) ∷ counts_from 0 0 (roles_of left'))
      (counts_from (depth_after depth (role_of t)) (count + 1) (roles_of left')) (sym says ∙ no_end))
      ∙ ap (λ d. found ++ counts_from d (count + 1) (roles_of left')) (sym moved);
  sums = let l = ap length is in let s = h.sums in omega (arith, l, s);
  few = h.few;
  deep = let a = depth_after_le depth (role_of t) in let d = h.deep in omega (arith, a, d, moved);
}

-- a token that ends one
pub cutting_end : (all left left' : List Lexeme) (found more : List ℕ) (depth count next : ℕ) (t : Lexeme)
    (ends : Bool) → left ≡ t ∷ left' → ends ≡ ends_at depth (role_of t) → next ≡ depth_after depth (role_of t)
    → ends ≡ true → more ≡ found ++ (count + 1) ∷ [] → Cutting all left found depth count
    → Cutting all left' more next 0
cutting_end all left left' found more depth count next t ends is says moved an_end pushed h = record {
  goes_on =
      h.goes_on
      ∙ ap (λ l. found ++ counts_from depth count (roles_of l)) is
      ∙ ap (λ l. found ++ l)
      (cond-true (ends_at depth (role_of t)) ((count + 1) ∷ counts_from 0 0 (roles_of left'))
      (counts_from (depth_after depth (role_of t)) (count + 1) (roles_of left')) (sym says ∙ an_end))
      ∙ sym (append_assoc found ((count + 1) ∷ []) (counts_from 0 0 (roles_of left')))
      ∙ ap (λ l. l ++ counts_from 0 0 (roles_of left')) (sym pushed)
      ∙ ap (λ d. more ++ counts_from d 0 (roles_of left')) (sym at_zero);
  sums = let l = ap length is in let s = h.sums in
      let t = ap total pushed ∙ total-append found ((count + 1) ∷ []) in omega (arith, l, s, t);
  few = let f = h.few in let l = ap length pushed ∙ length_push found (count + 1) in
      let t = ap total pushed ∙ total-append found ((count + 1) ∷ []) in omega (arith, f, l, t);
  deep = let z = at_zero in omega (arith, z);
}
  where
    zero_next : (d : ℕ) (r : DepthRole) → ends_at d r ≡ true → depth_after d r ≡ 0
    zero_next d opening e = (cc)
    zero_next d closing e = (cc)
    zero_next d semicolon e = grind (arith, nat_tests)
    zero_next d plain e = (cc)

    at_zero : next ≡ 0
    at_zero = moved ∙ zero_next depth (role_of t) (sym says ∙ an_end)

-- no token is left
pub cutting_all : (all left : List Lexeme) (found more : List ℕ) (depth count : ℕ) → left ≡ []
    → more ≡ found ++ count ∷ [] → Cutting all left found depth count → IsCut all more
cutting_all all left found more depth count none pushed h =
    counts_cut all more (pushed
    ∙ sym (h.goes_on ∙ ap (λ l. found ++ counts_from depth count (roles_of l)) none))

pub cutting_fits : (all left : List Lexeme) (found more : List ℕ) (depth count : ℕ) → left ≡ []
    → more ≡ found ++ count ∷ [] → Cutting all left found depth count → length all ≤ MAX_TEXT → AreOfText more
cutting_fits all left found more depth count none pushed h fits =
    let s = h.sums in
    let n = ap length none in
    let f = h.few in
    let l = ap length pushed ∙ length_push found count in
    let t = ap total pushed ∙ total-append found (count ∷ []) in
    record {
      some = omega (arith, l);
      few = omega (arith, l, f, s, fits, n);
      short = omega (arith, t, s, fits, n);
    }

-- an entry more
pub counts_pushed : {K : Type 0} (entries more : List (ItemEntry K)) (e : ItemEntry K) (n : ℕ)
    → more ≡ entries ++ e ∷ [] → e.tokens ≡ n → counts more ≡ counts entries ++ n ∷ []
counts_pushed {K} entries more e n pushed is =
    let f = λ (x : ItemEntry K). x.tokens in ap counts pushed ∙ map-append f entries (e ∷ [])
    ∙ ap (λ k. counts entries ++ k ∷ []) is
