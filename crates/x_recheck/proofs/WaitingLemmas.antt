-- Items that wait.
use Rattle.std.proofs.Common.{◌≡◌, ◌<◌, ◌≤◌, ℕ, Bool, true, false, List, refl, sym, ◌∙◌}
use Rattle.std.proofs.lemmas.Bool.{true≢false}
use Rattle.x_rules.specs.Results.{Outcome}
use Rattle.x_recheck.specs.Editing.{TextEdit}
use Rattle.x_recheck.specs.inside.Deciding.{AddsItems, IsCovered, IsWaitedFor, is_waiting}
use Rattle.x_recheck.specs.declared.rechecking.queue.Queue.{Queue}

pub rests_before : (a b : Queue) (low high k : ℕ) → AddsItems a b low high → is_waiting b k ≡ false
    → is_waiting a k ≡ false
rests_before a b low high k adds rests = by (is_waiting a k) refl
  where
    by : (t : Bool) → is_waiting a k ≡ t → t ≡ false
    by true e = absurd (true≢false (sym (adds.keeps k e) ∙ rests))
    by false e = refl

pub adds_none : (a : Queue) (low high : ℕ) → AddsItems a a low high
adds_none a low high = record { keeps = λ k h. h; range = λ k h f. absurd (true≢false (sym h ∙ f)) }

pub adds_more : (a b c : Queue) (low high : ℕ) → AddsItems a b low high → AddsItems b c low high
    → AddsItems a c low high
adds_more a b c low high h m = record {
  keeps = λ k w. m.keeps k (h.keeps k w);
  range = λ k w f. by k w f (is_waiting b k) refl;
}
  where
    by : (k : ℕ) → is_waiting c k ≡ true → is_waiting a k ≡ false → (t : Bool) → is_waiting b k ≡ t
        → (low ≤ k) × (k < high)
    by k w f true e = h.range k e f
    by k w f false e = m.range k w e

pub covered_more : (e : TextEdit) (a b : Queue) (low high : ℕ) (name : List ℕ) → AddsItems a b low high
    → IsCovered e (is_waiting a) name → IsCovered e (is_waiting b) name
covered_more e a b low high name adds h k lt u rests = h k lt u (rests_before a b low high k adds rests)

pub told_more : (e : TextEdit) (item place : ℕ) (found : Outcome) (a b : Queue) (low high : ℕ) (name : List ℕ)
    → AddsItems a b low high → IsWaitedFor e item place found (is_waiting a) name
    → IsWaitedFor e item place found (is_waiting b) name
told_more e item place found a b low high name adds h k lt within u rests =
    h k lt within u (rests_before a b low high k adds rests)
