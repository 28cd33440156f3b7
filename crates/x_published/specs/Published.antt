-- The data of what is published, by how it is kept until it is written.
use Rattle.std.specs.Prelude.{Option, option_map, string_bytes}
use Rattle.serde_json.specs.Data.{Data}
use Rattle.x_published.specs.declared.published.Diagnostic.{Diagnostic}
use Rattle.x_published.specs.declared.published.Message.{Message}
use Rattle.x_published.specs.declared.published.Message.TheVariants.{OfFault, Plain}
use Rattle.x_published.specs.declared.published.Place.{Place}
use Rattle.x_published.specs.declared.published.Severity.{Severity}
use Rattle.x_published.specs.Diagnostics.{diagnostic_data, plain_data, related_data}
use Rattle.x_positions.specs.PositionData.{range_data}

abbrev pub place_data : Place → Data
place_data p = related_data p.said.now p.uri.now p.range

-- what is said of a fault has its number
abbrev pub message_data : Severity → (range : Data) → Message → (related : Option Data) → Data
message_data severity range (OfFault m) related =
    diagnostic_data severity m.number range (string_bytes m.text) related
message_data severity range (Plain text) related =
    plain_data severity range (string_bytes text) related

abbrev pub data_of : Diagnostic → Data
data_of d = message_data d.severity (range_data d.range.start d.range.end) d.message
    (option_map place_data d.related)
