-- Positions and ranges, as LSP writes them.
use Rattle.std.specs.Prelude.{codes}
use Rattle.serde_json.specs.Data.{Data, number, object, member, no_members, unsigned}
use Rattle.x_positions.specs.declared.positions.Position.{Position}

-- a position, and a range, as LSP writes them
abbrev pub position_data : Position → Data
position_data p = object (member (codes "character") (number (unsigned p.character))
    (member (codes "line") (number (unsigned p.line)) no_members))

abbrev pub range_data : Position → Position → Data
range_data start end = object (member (codes "end") (position_data end)
    (member (codes "start") (position_data start) no_members))
