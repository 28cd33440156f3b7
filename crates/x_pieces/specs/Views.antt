-- What the program's values stand for.
use Rattle.std.specs.Prelude.{List, map}
use Rattle.std.specs.Cow.{cow_slice_items}
use Rattle.x_trees.specs.View.{view_body}
use Rattle.x_pieces.specs.CTypes.{CType}
use Rattle.x_pieces.specs.Declarations.{Location, InStruct, InUnion, Alone}
use Rattle.x_pieces.specs.InlineTypes.{NamedBody}
use Rattle.x_pieces.specs.declared.c_types.CType as rust
use Rattle.x_pieces.specs.declared.declaration.Location as place
use Rattle.x_pieces.specs.declared.declaration.Location.TheVariants as places
use Rattle.x_pieces.specs.declared.types.NamedBody as named

abbrev pub view_c : rust.CType → CType
view_c c = record { name = c.name.now; routine = c.routine.now }

abbrev pub view_location : place.Location → Location
view_location places.InStruct = InStruct
view_location (places.InUnion union) = InUnion union.now
view_location places.Alone = Alone

abbrev pub view_named : named.NamedBody → NamedBody
view_named t = record { name = cow_slice_items t.name; body = view_body t.body.now }

abbrev pub view_types : List named.NamedBody → List NamedBody
view_types ts = map view_named ts
