-- Lists of faults in their order.
use Rattle.std.proofs.Common.{◌≡◌, ◌<◌, ℕ, ◌-◌, ◌⊎◌, inl, inr, List, [], ◌∷◌, get_or, arith, refl, sym, ap}
use Rattle.std.proofs.Common.{subst, ◌∙◌}
use Rattle.std.proofs.lemmas.Bool.{cases_order}
use Rattle.std.specs.List.{IsAmong}
use Rattle.x_trees.specs.Tree.{Definition}
use Rattle.x_rules.specs.Views.{View}
use Rattle.x_rules.specs.Rules.{IsBefore, Ascends, AreFaults}
use Rattle.x_rules.specs.RuleTexts.{rule_number}
use Rattle.x_rules.specs.declared.fault.RuleCode.{RuleCode}
use Rattle.x_rules.specs.declared.fault.RuleCode.TheVariants as codes
use Rattle.x_rules.specs.declared.fault.WordFault.{WordFault}
use Rattle.x_trees.proofs.AmongLemmas.{among_first, among_cases, among_none}
use Rattle.x_rules.proofs.InOrder.{AreInOrder, Compared, one_order, ordered}

pub before_trans : (f g h : WordFault) → IsBefore f g → IsBefore g h → IsBefore f h
before_trans f g h (inl a) (inl b) = inl (omega (arith, a, b))
before_trans f g h (inl a) (inr b) = let e = b.0 in inl (omega (arith, a, e))
before_trans f g h (inr a) (inl b) = let e = a.0 in inl (omega (arith, e, b))
before_trans f g h (inr a) (inr b) = let x = a.1 in let y = b.1 in inr (a.0 ∙ b.0, omega (arith, x, y))

pub not_both : (f g : WordFault) → IsBefore f g → IsBefore g f → ⊥
not_both f g (inl a) (inl b) = omega (arith, a, b)
not_both f g (inl a) (inr b) = let e = b.0 in omega (arith, a, e)
not_both f g (inr a) (inl b) = let e = a.0 in omega (arith, e, b)
not_both f g (inr a) (inr b) = let x = a.1 in let y = b.1 in omega (arith, x, y)

pub rest_ascends : (f : WordFault) (rest : List WordFault) → Ascends (f ∷ rest) → Ascends rest
rest_ascends f [] h = tt
rest_ascends f (g ∷ rest) h = h.1

-- the first stands before all others
pub first_before : (f : WordFault) (rest : List WordFault) (x : WordFault) → Ascends (f ∷ rest)
    → IsAmong rest x → IsBefore f x
first_before f [] x h k = absurd (among_none x k)
first_before f (g ∷ rest) x h k = by (among_cases g x rest k) (first_before g rest x h.1)
  where
    by : (x ≡ g) ⊎ IsAmong rest x → (IsAmong rest x → IsBefore g x) → IsBefore f x
    by (inl e) more = subst (IsBefore f) (sym e) h.0
    by (inr j) more = before_trans f g x h.0 (more j)

-- ---- codes by their numbers

-- by their numbers from 20 on; there is no 35
all_codes : List RuleCode
all_codes =
    codes.Duplicate ∷ codes.Unknown ∷ codes.LateName ∷ codes.NotType ∷ codes.NotConst ∷ codes.Range
    ∷ codes.BadSize ∷ codes.VoidPlace ∷ codes.EmptyArray ∷ codes.BadDiscriminant ∷ codes.BadCase
    ∷ codes.RepeatedCase ∷ codes.RepeatedField ∷ codes.RepeatedNumber ∷ codes.TooHigh
    ∷ codes.Duplicate ∷ codes.InlineArgument ∷ codes.UsesFaulty ∷ []

code_at : ℕ → RuleCode
code_at n = get_or all_codes (n - 20) codes.Duplicate

at_number : (code : RuleCode) → code_at (rule_number code) ≡ code
unfolding code_at all_codes
at_number codes.Duplicate = refl
at_number codes.Unknown = refl
at_number codes.LateName = refl
at_number codes.NotType = refl
at_number codes.NotConst = refl
at_number codes.Range = refl
at_number codes.BadSize = refl
at_number codes.VoidPlace = refl
at_number codes.EmptyArray = refl
at_number codes.BadDiscriminant = refl
at_number codes.BadCase = refl
at_number codes.RepeatedCase = refl
at_number codes.RepeatedField = refl
at_number codes.RepeatedNumber = refl
at_number codes.TooHigh = refl
at_number codes.InlineArgument = refl
at_number codes.UsesFaulty = refl

-- of two faults one stands before the other, or they are one
compared : (f g : WordFault) → Compared IsBefore f g
compared f g = by (cases_order f.word g.word)
  where
    at_word : f.word ≡ g.word → (rule_number f.code ≡ rule_number g.code)
        ⊎ ((rule_number f.code < rule_number g.code) ⊎ (rule_number g.code < rule_number f.code))
        → Compared IsBefore f g
    at_word same (inl e) =
        let code : f.code ≡ g.code = sym (at_number f.code) ∙ ap code_at e ∙ at_number g.code in
        inr (inl (λ i. record { word = same i; code = code i }))
    at_word same (inr (inl lt)) = inl (inr (same, lt))
    at_word same (inr (inr lt)) = inr (inr (inr (sym same, lt)))

    by : (f.word ≡ g.word) ⊎ ((f.word < g.word) ⊎ (g.word < f.word)) → Compared IsBefore f g
    by (inl same) = at_word same (cases_order (rule_number f.code) (rule_number g.code))
    by (inr (inl lt)) = inl (inl lt)
    by (inr (inr lt)) = inr (inr (inl lt))

-- ---- faults in order

in_order : (fs : List WordFault) → Ascends fs → AreInOrder IsBefore fs
in_order [] h = tt
in_order (f ∷ fs) h = (λ x k. first_before f fs x h k, in_order fs (rest_ascends f fs h))

-- a definition has one list of faults
pub one_faults : (d : Definition) (see : List ℕ → View) (fs gs : List WordFault) → AreFaults d see fs
    → AreFaults d see gs → fs ≡ gs
one_faults d see fs gs h k =
    one_order IsBefore not_both fs gs (in_order fs h.ascend) (in_order gs k.ascend)
    (λ x j. k.are_all x.word x.code (h.are_faults x j)) (λ x j. h.are_all x.word x.code (k.are_faults x j))

ascends : (fs : List WordFault) → AreInOrder IsBefore fs → Ascends fs
ascends [] h = tt
ascends (f ∷ []) h = tt
ascends (f ∷ g ∷ fs) h = (h.0 g (among_first g fs), ascends (g ∷ fs) h.1)

-- faults that ascend, and are these
pub record Ascending (fs : List WordFault) : Type 0 where
  pub list : List WordFault
  pub ascend : Ascends list
  pub from : (f : WordFault) → IsAmong list f → IsAmong fs f
  pub kept : (f : WordFault) → IsAmong fs f → IsAmong list f

pub ascending : (fs : List WordFault) → Ascending fs
ascending fs = let o = ordered IsBefore before_trans compared fs in
    record { list = o.list; ascend = ascends o.list o.in_order; from = o.from; kept = o.kept }
