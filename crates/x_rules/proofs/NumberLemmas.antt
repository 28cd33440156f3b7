-- Numbers that stand twice, one after another.
use Rattle.std.specs.Prelude.{ℤ, not, ◌||◌, SomeIff, IsTrue}
use Rattle.std.specs.List.{list_any}
use Rattle.std.specs.Ordering.{int_eq}
use Rattle.std.proofs.Math.Bool.{or_comm}
use Rattle.std.proofs.lemmas.Cmp.{int_eq_equiv}
use Rattle.std.proofs.lemmas.List.Folds.{list_any_more}
use Rattle.std.proofs.Common.{◌≡◌, ℕ, ◌+◌, ◌<◌, Bool, true, false, cond, Option, Some, None, List, [], ◌∷◌}
use Rattle.std.proofs.Common.{◌++◌, length, take, get_or, refl, sym, ap, ◌∙◌, append_assoc, append-nil}
use Rattle.x_numbers.specs.Numbers.{in_range, value, number_spelled}
use Rattle.x_rules.specs.Found.{fault_at, repeated_code, numbers_behind}
use Rattle.x_rules.specs.declared.fault.RuleCode.{RuleCode}
use Rattle.x_rules.specs.declared.fault.WordFault.{WordFault}
use Rattle.x_rules.specs.declared.rules.repeats.Numbered.{Numbered}

-- the numbers so far are held, and with the faults of the rest there are those of all
pub record Counted (held : ℤ → Bool) (code : RuleCode) (faults all : List WordFault) (rest : List Numbered) :
    Type 0 where
  pub before : List ℤ
  pub same : (z : ℤ) → held z ≡ list_any (int_eq z) before
  pub parts : faults ++ numbers_behind code before rest ≡ all

pub counted_start : (held : ℤ → Bool) (code : RuleCode) (faults : List WordFault) (all : List Numbered)
    → ((z : ℤ) → held z ≡ false) → Counted held code faults (faults ++ numbers_behind code [] all) all
counted_start held code faults all none = record { before = []; same = none; parts = refl }

pub counted_next : (held next : ℤ → Bool) (code : RuleCode) (faults after all : List WordFault)
    (xs : List Numbered) (x : Numbered) (rest : List Numbered) → xs ≡ x ∷ rest
    → ((z : ℤ) → next z ≡ (int_eq x.number z || held z))
    → after ≡ faults ++ fault_at x.word (repeated_code code (not (held x.number)))
    → Counted held code faults all xs → Counted next code after all rest
counted_next held next code faults after all xs x rest is more step h = record {
  before = x.number ∷ h.before;
  same = λ z. more z ∙ ap (λ b. b || held z) (int_eq_equiv.symm x.number z)
      ∙ ap (λ b. int_eq z x.number || b) (h.same z);
  parts = ap (λ l. l ++ behind) (step
      ∙ ap (λ b. faults ++ fault_at x.word (repeated_code code (not b))) (h.same x.number))
      ∙ append_assoc faults (fault_at x.word (repeated_code code (not (list_any (int_eq x.number) h.before))))
      behind
      ∙ sym (ap (λ l. faults ++ numbers_behind code h.before l) is) ∙ h.parts;
}
  where
    behind : List WordFault
    behind = numbers_behind code (x.number ∷ h.before) rest

pub counted_all : (held : ℤ → Bool) (code : RuleCode) (faults all : List WordFault) (rest : List Numbered)
    → rest ≡ [] → Counted held code faults all rest → faults ≡ all
counted_all held code faults all rest none h = sym (append-nil faults)
    ∙ sym (ap (λ l. faults ++ numbers_behind code h.before l) none) ∙ h.parts

-- one number more is among those in front
pub number_more : (ns : List Numbered) (i : ℕ) (d : Numbered) → i < length ns → (z : ℤ)
    → list_any (λ n. int_eq z n.number) (take (i + 1) ns)
    ≡ (int_eq (get_or ns i d).number z || list_any (λ n. int_eq z n.number) (take i ns))
number_more ns i d h z =
    let here = (get_or ns i d).number in
    list_any_more (λ n. int_eq z n.number) ns i d h
    ∙ or_comm (list_any (λ n. int_eq z n.number) (take i ns)) (int_eq z here)
    ∙ ap (λ b. b || list_any (λ n. int_eq z n.number) (take i ns)) (int_eq_equiv.symm z here)

-- the number that a spelling stands for, if there is one
pub spelled : (text : List ℕ) (found : Option ℤ) → SomeIff found (IsTrue (in_range text)) (value text)
    → found ≡ number_spelled text
spelled text found h = by found (in_range text) h
  where
    by : (found : Option ℤ) (b : Bool) → SomeIff found (IsTrue b) (value text)
        → found ≡ cond b (Some (value text)) None
    by None true k = absurd (k refl)
    by None false k = refl
    by (Some z) true k = ap Some k.1
    by (Some z) false k = let no : false ≡ true = k.0 in absurd (cc)
