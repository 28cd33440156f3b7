-- What the program keeps of an item while it is checked, as the definitions have it.
use Rattle.std.specs.Prelude.{◌≡◌, ℕ, ◌-◌, ◌^◌, min, nat_lt, true, false, Bool, List, ◌++◌, length, map, take}
use Rattle.std.specs.Prelude.{Option, Some, None, slice_get}
use Rattle.std.specs.Cow.{cow_slice_items}
use Rattle.std.specs.Option.{option_map_or}
use Rattle.x_trees.specs.declared.names.declared_name.DeclaredName.{DeclaredName}
use Rattle.x_trees.specs.declared.names.mention.Mention.{Mention}
use Rattle.x_trees.specs.declared.names.mention.Use.{Use}
use Rattle.x_trees.specs.declared.names.mention.Use.TheVariants as uses
use Rattle.x_rules.specs.Views as views
use Rattle.x_outline.specs.Bodies as bodies
use Rattle.x_rules.specs.Constants.{Known}
use Rattle.x_rules.specs.FirstPlaces.{first_place}
use Rattle.x_rules.specs.Types as types
use Rattle.x_rules.specs.RustViews.{view_class, view_view}
use Rattle.x_rules.specs.declared.rules.classes.Sight.{Sight}
use Rattle.x_rules.specs.Limits.{most_height}
use Rattle.x_rules.specs.declared.views.View.{View}
use Rattle.x_rules.specs.declared.rules.sights.Sights.{Sights}
use Rattle.x_rules.specs.declared.rules.constants.Constants.{Constants}
use Rattle.x_outline.specs.Parts.{view_enumerator_at}

-- ---- views

-- the view in a place
abbrev pub view_at : List View → Option ℕ → views.View
view_at vs None = views.Undeclared
view_at vs (Some place) = option_map_or view_view (slice_get vs place) views.Undeclared

-- the names that an item declares, and then those that it uses
abbrev pub names_seen : List DeclaredName → List Mention → List (List ℕ)
names_seen declared mentions = map (λ d. cow_slice_items d.name) declared ++ map (λ m. m.name.now) mentions

-- the first place of a name among those that have views
abbrev pub place_seen : Sights → List ℕ → Option ℕ
place_seen sights name = first_place 0 (map (λ x. x.now) sights.names) name

-- what an item sees of a name, by its views
abbrev pub seen_by : Sights → List ℕ → views.View
seen_by sights name = view_at sights.views.now (place_seen sights name)

abbrev pub view_sight : Sight → types.Sight
view_sight s = record { class = view_class s.class; height = s.height }

-- ---- heights

-- a height, as far as it is counted
abbrev pub capped : ℕ → ℕ
capped height = min height (2 ^ 32 - 1)

-- a height that no type may have
abbrev pub is_too_high : ℕ → Bool
is_too_high height = nat_lt most_height height

abbrev pub is_by_value : Use → Bool
is_by_value uses.ByValue = true
is_by_value usage = false

-- ---- enumerators

-- the enumerators are these, and the first of them have numbers
pub record HasNumbers (constants : Constants) (all : List bodies.EnumeratorAt)
    (known : List Known) : Type 0 where
  pub list : map view_enumerator_at constants.list ≡ all
  pub numbers : constants.numbers ≡ map (λ k. k.number) known
  pub front : map (λ k. k.enumerator) known ≡ take (length known) all

-- it holds of all the enumerators, and of the first of them with their numbers
abbrev pub OnNumbers : Constants → (List bodies.EnumeratorAt → List Known → Type 0) → Type 0
OnNumbers constants Is =
    (all : List bodies.EnumeratorAt) (known : List Known) → HasNumbers constants all known → Is all known
