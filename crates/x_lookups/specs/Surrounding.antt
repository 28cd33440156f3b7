-- What stands around a place, and how far a definition is read, as the program keeps them.
use Rattle.x_lookups.specs.Expecting.{Around}
use Rattle.x_lookups.specs.Parts.{Reading}
use Rattle.x_lookups.specs.declared.parts.PartReader.{PartReader}
use Rattle.x_lookups.specs.declared.surroundings.Surroundings.{Surroundings}

abbrev pub around_of : Surroundings → Around
around_of s = record {
  bodies = s.bodies.items;
  head = s.head;
  parentheses = s.parentheses;
  last = s.last;
}

abbrev pub reading_of : PartReader → Reading
reading_of r = record {
  parts = r.parts.items;
  outer = r.outer.items;
  body = r.body;
  before = r.before;
  last = r.last;
}
