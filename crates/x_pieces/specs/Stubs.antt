-- The pieces of the client's stubs: this project's profile of what rpcgen(1) writes.
use Rattle.std.specs.Prelude.{ℕ, List, ◌++◌, codes, Option, Some, None}
use Rattle.x_trees.specs.Tree.{Argument, Procedure, Version}
use Rattle.x_pieces.specs.CTypes.{CType, passed_type}
use Rattle.x_pieces.specs.Procedures.{argument_in, result_type, version_pieces}

-- the type of what the stub keeps of the result: `void` is kept as a byte
abbrev pub kept_type : Option Argument → List ℕ
kept_type None = codes "char"
kept_type (Some a) = (passed_type (Some a)).name

abbrev pub kept_place : Option Argument → List ℕ
kept_place None = codes "(void *)&clnt_res"
kept_place (Some a) = codes "&clnt_res"

-- its head, for a function of this name
abbrev pub stub_head : List ℕ → CType → CType → List ℕ
stub_head function argument result =
    result.name ++ codes " *\n" ++ function ++ codes "(" ++ argument.name ++ codes " *argp, CLIENT *clnt)\n"

-- what it keeps
abbrev pub stub_kept : Option Argument → List ℕ
stub_kept result =
    codes "{\n    static " ++ kept_type result ++ codes " clnt_res;\n"
    ++ codes "    static struct timeval timeout = { 25, 0 };\n"
    ++ codes "\n"
    ++ codes "    memset((char *)&clnt_res, 0, sizeof (clnt_res));\n"

-- its call of the procedure of this name
abbrev pub stub_call : List ℕ → CType → CType → List ℕ
stub_call name argument result =
    codes "    if (clnt_call(clnt, " ++ name ++ codes ", (xdrproc_t)xdr_" ++ argument.routine
    ++ codes ", (char *)argp, (xdrproc_t)xdr_" ++ result.routine
    ++ codes ", (char *)&clnt_res, timeout) != RPC_SUCCESS)\n        return (NULL);\n"

-- what it answers
abbrev pub stub_end : Option Argument → List ℕ
stub_end result = codes "    return (" ++ kept_place result ++ codes ");\n}\n\n"

-- the stub of a procedure whose function and struct of arguments have these names
abbrev pub stub : List ℕ → List ℕ → Procedure → List ℕ
stub function group p =
    stub_head function (argument_in group p) (result_type p) ++ stub_kept p.result
    ++ stub_call p.name (argument_in group p) (result_type p) ++ stub_end p.result

abbrev pub program_stubs : List Version → List ℕ
program_stubs versions = version_pieces stub versions
