-- What a contract sees of a line.
use Rattle.x_directives.specs.declared.lines.Line.{Line}
use Rattle.x_directives.specs.Directives.{Marked}

abbrev pub seen : Line → Marked
seen line = record {
  start = line.start;
  bytes = line.bytes.now;
  part = line.part;
  commented = line.commented;
}
