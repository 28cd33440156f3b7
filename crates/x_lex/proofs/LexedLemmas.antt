-- What the loop that lexes a text keeps.
use Rattle.std.proofs.Common.{◌≡◌, ℕ, ◌+◌, ◌-◌, ◌<◌, ◌≤◌, Bool, true, List, [], ◌∷◌, ◌++◌, length, get_or}
use Rattle.std.proofs.Common.{drop, arith, refl, sym, ap, subst, ◌∙◌}
use Rattle.std.specs.Prelude.{◌==◌}
use Rattle.std.proofs.lemmas.List.{length_push}
use Rattle.x_text.specs.Counts.{Counts}
use Rattle.x_streams.specs.Counters.{raised}
use Rattle.x_lex.specs.declared.kind.Kind.{Kind}
use Rattle.x_lex.specs.Word.{IsToken}
use Rattle.x_lex.specs.Tiling.{AreTokens, span}
use Rattle.x_lex.proofs.TilingLemmas.{Leads, leads_none, leads_more, leads_all}
use Rattle.x_lex.proofs.SpanLemmas.{span-append}

-- n tokens were counted, and nothing else
pub record Counted (old now : Counts) (n : ℕ) : Type 0 where
  pub ticks : now.lexed ≡ raised old.lexed n
  pub others : now ≡ record old { lexed = now.lexed }

pub counted_none : (old : Counts) (n : ℕ) → n ≡ 0 → old.lexed ≡ raised old.lexed 0 → Counted old old n
counted_none old n e r = record { ticks = r ∙ ap (λ k. raised old.lexed k) (sym e); others = refl }

pub counted_more : (old now then : Counts) (n more : ℕ) → Counted old now n → more ≡ n + 1
    → then ≡ record now { lexed = raised now.lexed 1 } → Counted old then more
counted_more old now then n more h one counted =
    let lexed : then.lexed ≡ raised now.lexed 1 = ap (λ c. c.lexed) counted in
    record {
      ticks = let before = h.ticks in omega (arith, before, lexed, one);
      others = counted ∙ (λ i. record (h.others i) { lexed = (sym lexed) i });
    }

-- the entries are those of the first tokens, up to `at`, and each of them was counted
pub record Lexed (text : List ℕ) (old now : Counts) (entries : List (Kind × ℕ)) (start : Bool) (at : ℕ) :
    Type 0 where
  pub leads : Leads text entries start at
  pub spans : span entries ≡ at
  pub few : length entries ≤ at
  pub counted : Counted old now (length entries)

pub lexed_none : (text : List ℕ) (old : Counts) (entries : List (Kind × ℕ)) → entries ≡ []
    → old.lexed ≡ raised old.lexed 0 → Lexed text old old entries true 0
lexed_none text old entries e r = subst (λ es. Lexed text old old es true 0) (sym e)
    (record { leads = leads_none text; spans = refl; few = omega arith; counted = counted_none old 0 refl r })

pub lexed_more : (text : List ℕ) (old now then : Counts) (entries more : List (Kind × ℕ)) (entry : Kind × ℕ)
    (start : Bool) (at end : ℕ) (kind : Kind) →
    Lexed text old now entries start at → at < end → end ≤ length text
    → IsToken kind start (drop at text) (end - at) →
    entry ≡ (kind, end - at) → more ≡ entries ++ entry ∷ []
    → then ≡ record now { lexed = raised now.lexed 1 } →
    Lexed text old then more (get_or text (end - 1) 0 == 10) end
lexed_more text old now then entries more entry start at end kind h lt fit token is pushed counted =
    let pairs : more ≡ entries ++ (kind, end - at) ∷ [] = pushed ∙ ap (λ t. entries ++ t ∷ []) is in
    let len : length more ≡ length entries + 1 = ap length pushed ∙ length_push entries entry in
    record {
      leads = subst (λ ts. Leads text ts (get_or text (end - 1) 0 == 10) end) (sym pairs)
          (leads_more text entries start at end kind h.leads lt fit token);
      spans = let e = ap span pairs ∙ span-append entries ((kind, end - at) ∷ []) in let before = h.spans in
          omega (arith, e, before);
      few = let before = h.few in omega (arith, before, len);
      counted = counted_more old now then (length entries) (length more) h.counted len counted;
    }

-- at the end of the text they are all
pub lexed_all : (text : List ℕ) (old now : Counts) (entries : List (Kind × ℕ)) (start : Bool) (at : ℕ)
    → Lexed text old now entries start at → length text ≤ at → AreTokens text entries
lexed_all text old now entries start at h le = leads_all text entries start at h.leads le
