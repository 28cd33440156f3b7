-- What the program's values stand for.
use Rattle.std.specs.Prelude.{ℕ, List, map}
use Rattle.std.specs.Cow.{cow_slice_items}
use Rattle.x_clash.specs.Given.{Given, Sort, Macro, Tagged, Function, Plain, Member}
use Rattle.x_clash.specs.declared.given.Given as rust
use Rattle.x_clash.specs.declared.given.Sort as sort
use Rattle.x_clash.specs.declared.given.Sort.TheVariants as sorts
use Rattle.x_clash.specs.declared.clash.Clash as found
use Rattle.x_clash.specs.declared.clash.Place.{Place}
use Rattle.x_clash.specs.declared.clash.Rival.{Rival}

abbrev pub view_sort : sort.Sort → Sort
view_sort (sorts.Macro text) = Macro text.now
view_sort sorts.Tagged = Tagged
view_sort sorts.Function = Function
view_sort sorts.Plain = Plain
view_sort sorts.Member = Member

abbrev pub view_given : rust.Given → Given
view_given g =
    record { name = cow_slice_items g.name; word = g.word; sort = view_sort g.sort; twin = g.twin }

abbrev pub view_all : List rust.Given → List Given
view_all gs = map view_given gs

-- a name that clashes, the place that leads to it, and what has the name, too
pub record Clash : Type 0 where
  pub name : List ℕ
  pub place : Place
  pub rival : Rival

abbrev pub view_clash : found.Clash → Clash
view_clash c = record { name = cow_slice_items c.name; place = c.place; rival = c.rival }

abbrev pub clash_at : List ℕ → Place → Rival → Clash
clash_at name place rival = record { name = name; place = place; rival = rival }
