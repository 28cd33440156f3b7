-- Which pieces are generated of a definition.
use Rattle.std.specs.Prelude.{ℕ, List, [], ◌++◌, codes}
use Rattle.std.specs.List.{flat_map}
use Rattle.x_trees.specs.Tree.{Definition, Const, Typedef, NewType, Program}
use Rattle.x_pieces.specs.CTypes.{spelled}
use Rattle.x_pieces.specs.InlineTypes.{types_of}
use Rattle.x_pieces.specs.Header.{forward_line, type_header, constant_line, typedef_header, program_header}
use Rattle.x_pieces.specs.Routines.{type_routine, typedef_routine, program_routines}
use Rattle.x_pieces.specs.Stubs.{program_stubs}
use Rattle.x_pieces.specs.Table.{program_table}
use Rattle.x_pieces.specs.Pieces.{Pieces}

-- what stands in the header behind the types
abbrev pub own_header : Definition → List ℕ
own_header (Const name value) = constant_line name (spelled value) ++ codes "\n"
own_header (Typedef d) = typedef_header d
own_header (NewType name body) = []
own_header (Program name versions number) = program_header name versions number

-- what stands in the routines behind those of the types
abbrev pub own_routines : Definition → List ℕ
own_routines (Const name value) = []
own_routines (Typedef d) = typedef_routine d
own_routines (NewType name body) = []
own_routines (Program name versions number) = program_routines versions

abbrev pub stubs_of : Definition → List ℕ
stubs_of (Program name versions number) = program_stubs versions
stubs_of d = []

abbrev pub table_of : Definition → List ℕ
table_of (Program name versions number) = program_table name versions
table_of d = []

-- the types of a definition come first
abbrev pub pieces_of : Definition → Pieces
pieces_of d = record {
  forward = flat_map forward_line (types_of d);
  header = flat_map type_header (types_of d) ++ own_header d;
  routines = flat_map type_routine (types_of d) ++ own_routines d;
  stubs = stubs_of d;
  table = table_of d;
}
