-- A list that is sorted and has each element once ascends.
use Rattle.std.proofs.Common.{◌≡◌, ◌<◌, ◌⊎◌, inl, inr, List, [], ◌∷◌, sym}
use Rattle.std.specs.List.{IsAmong, Contains}
use Rattle.std.specs.List.Sorted.{IsStrictlySortedBy}
use Rattle.std.specs.declared.cmp.Ordering.{Ordering}
use Rattle.std.specs.declared.cmp.Ordering.TheVariants.{Less}
use denote.Enum.Declared.{tag_of}
use Rattle.x_rules.specs.Rules.{IsBefore, Ascends}
use Rattle.x_rules.specs.contracts.fault.RuleCode.{the_type}
use Rattle.x_rules.specs.declared.fault.WordFault.{WordFault}
use Rattle.x_rules.proofs.RuleTextLemmas.{number_rises}

pub strict_ascends : (cmp : WordFault → WordFault → Ordering)
    → ((x y : WordFault) → cmp x y ≡ Less → IsBefore x y) → (xs : List WordFault) → IsStrictlySortedBy cmp xs
    → Ascends xs
unfolding IsStrictlySortedBy
strict_ascends cmp less [] h = tt
strict_ascends cmp less (x ∷ []) h = tt
strict_ascends cmp less (x ∷ y ∷ rest) h = (less x y h.0.0, strict_ascends cmp less (y ∷ rest) h.1)

pub among_contains : {X : Type 0} (xs : List X) (x : X) → IsAmong xs x → Contains xs x
among_contains xs x (i, h) = (i, h.0, sym h.1)

pub contains_among : {X : Type 0} (xs : List X) (x : X) → Contains xs x → IsAmong xs x
contains_among xs x h = (h.0, (h.1, sym h.2))

-- as the program orders faults: by the places of the rules, which their numbers follow
abbrev pub IsPlaced : WordFault → WordFault → Type 0
IsPlaced f g = (f.word < g.word) ⊎ ((f.word ≡ g.word) × (tag_of the_type f.code < tag_of the_type g.code))

pub placed_before : (f g : WordFault) → IsPlaced f g → IsBefore f g
placed_before f g (inl lt) = inl lt
placed_before f g (inr h) = inr (h.0, number_rises f.code g.code h.1)
