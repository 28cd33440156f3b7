-- Which names are sought.
use Rattle.std.specs.Prelude.{◌&&◌, ◌||◌, not, Bool}
use Rattle.std.specs.Str.{bytes_eq}
use Rattle.x_lookups.specs.NamePlaces.{NamePlace, is_own, is_use, touches}
use Rattle.x_lookups.specs.declared.name_places.Sought.{Sought}
use Rattle.x_lookups.specs.declared.name_places.Sought.TheVariants.{Own, At, Declaring, Lifting, Using}

abbrev pub is_sought : Sought → NamePlace → Bool
is_sought Own n = is_own n.standing
is_sought (At at) n = is_own n.standing && touches n.token at
is_sought (Declaring name) n = not (is_use n.standing) && bytes_eq name.now n.name
is_sought (Lifting name) n = not (is_own n.standing) && bytes_eq name.now n.name
is_sought (Using name declared) n = bytes_eq name.now n.name && (declared || is_use n.standing)
