-- What the table of names has.
use Rattle.std.specs.Prelude.{ℕ, List, unwrap_or}
use Rattle.std.specs.Cow.{cow_slice_items}
use Rattle.std.specs.Global.{Global}
use Rattle.std.specs.Map.{lookup}
use Rattle.std.specs.Str.{bytes_eq}
use Rattle.std.specs.declared.borrow.CowSlice.{CowSlice}
use Rattle.x_clash.specs.Clashes.{Thing}
use Rattle.x_clash.specs.Firsts.{AreFirsts, no_firsts}
use Rattle.x_clash.specs.declared.firsts.Firsts.{Firsts}

-- what it has for a name
abbrev pub firsts_in : List (CowSlice ℕ Global × Firsts) → List ℕ → Firsts
firsts_in entries name = unwrap_or (lookup (λ key. bytes_eq name (cow_slice_items key)) entries) no_firsts

-- of each name it has what is kept of these things
abbrev pub HasFirsts : List (CowSlice ℕ Global × Firsts) → List Thing → Type 0
HasFirsts entries things = (name : List ℕ) → AreFirsts name things (firsts_in entries name)
