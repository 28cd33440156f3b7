-- The pieces of the server's tables: this project's profile of what rpcgen(1) writes.
use Rattle.std.specs.Prelude.{ℕ, List, ◌++◌, codes, if◌then◌else◌}
use Rattle.std.specs.List.{flat_map}
use Rattle.x_trees.specs.Tree.{Procedure, Version}
use Rattle.x_pieces.specs.CTypes.{CType, own}
use Rattle.x_pieces.specs.Procedures.{lower, in_decimal, are_several, argument_in, by_names}
use Rattle.x_pieces.specs.Procedures.{result_type, size_of, sized}

-- how large the argument is: several are in the struct of this name
abbrev pub argument_size : List ℕ → Procedure → List ℕ
argument_size group p = if are_several p.others then sized (own group) else size_of p.first

-- the row of a procedure of this number
abbrev pub row_of : List ℕ → List ℕ → CType → List ℕ → CType → List ℕ → List ℕ
row_of number function argument size result result_size =
    codes "    { " ++ in_decimal number
    ++ (codes ", (char *(*)())" ++ function ++ codes "_svc, (xdrproc_t)xdr_" ++ argument.routine
    ++ codes ", ") ++ size
    ++ (codes ", (xdrproc_t)xdr_" ++ result.routine ++ codes ", ") ++ result_size
    ++ codes " },\n"

-- that of a procedure whose function and struct of arguments have these names
abbrev pub row : List ℕ → List ℕ → Procedure → List ℕ
row function group p =
    row_of p.number function (argument_in group p) (argument_size group p) (result_type p) (size_of p.result)

-- the name of the program in lower case, and the number of the version in decimal
abbrev pub table_name : List ℕ → Version → List ℕ
table_name program v = lower program ++ codes "_" ++ in_decimal v.number

-- how many rows the table of this name has
abbrev pub count_line : List ℕ → List ℕ
count_line table =
    codes "int " ++ table ++ codes "_nproc = sizeof (" ++ table ++ codes "_table) / sizeof (" ++ table
    ++ codes "_table[0]);\n\n"

abbrev pub version_table : List ℕ → Version → List ℕ
version_table program v =
    (codes "struct rpcgen_table " ++ table_name program v ++ codes "_table[] = {\n")
    ++ flat_map (by_names row v) v.procedures
    ++ codes "};\n" ++ count_line (table_name program v)

abbrev pub program_table : List ℕ → List Version → List ℕ
program_table program versions = flat_map (version_table program) versions
