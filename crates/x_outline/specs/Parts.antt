-- Parts of a definition as the program keeps them.
use Rattle.std.specs.Prelude.{map}
use Rattle.x_trees.specs.View.{view_most, view_value}
use Rattle.x_outline.specs.Bodies as bodies
use Rattle.x_outline.specs.declared.parts.EnumeratorAt.{EnumeratorAt}
use Rattle.x_outline.specs.declared.parts.Members.{Members}
use Rattle.x_outline.specs.declared.parts.NameAt.{NameAt}
use Rattle.x_outline.specs.declared.parts.ValueAt.{ValueAt}
use Rattle.x_outline.specs.declared.parts.NumberAt.{NumberAt}

abbrev pub view_enumerator_at : EnumeratorAt → bodies.EnumeratorAt
view_enumerator_at e = record {
  word = e.word;
  name = e.enumerator.now.name.items;
  given = view_most e.enumerator.now.value;
  is_first = e.is_first;
}

abbrev pub view_name_at : NameAt → bodies.NameAt
view_name_at x = record { word = x.word; name = x.name.now }

abbrev pub view_value_at : ValueAt → bodies.ValueAt
view_value_at x = record { word = x.word; value = view_value x.value.now }

abbrev pub view_number_at : NumberAt → bodies.NumberAt
view_number_at x = record { word = x.word; text = x.text.now }

abbrev pub view_members : Members → bodies.Members
view_members m =
    record { names = map view_name_at m.names.items; numbers = map view_number_at m.numbers.items }
