-- Numbers in little memory.
use Rattle.std.specs.Prelude.{◌≡◌, ◌<◌, ◌++◌, ℤ, List, length, Option, None, Some, slice_get}
use Rattle.x_rules.specs.declared.rules.packed_numbers.Packed.{Packed}
use Rattle.x_rules.specs.declared.rules.packed_numbers.Packed.TheVariants as packed

-- the number that is meant, where these are the large ones
abbrev pub unpacked : List ℤ → Packed → Option ℤ
unpacked large packed.Missing = None
unpacked large (packed.Small number) = Some number
unpacked large (packed.Large place) = slice_get large place

-- it is there if it is a large one
abbrev pub IsWithin : List ℤ → Packed → Type 0
IsWithin large packed.Missing = Unit {0}
IsWithin large (packed.Small number) = Unit {0}
IsWithin large (packed.Large place) = place < length large

-- others stand behind them
abbrev pub Grows : List ℤ → List ℤ → Type 0
Grows old new = (more : List ℤ) × (new ≡ old ++ more)
