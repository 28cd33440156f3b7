-- The names that the four generated texts give to what a definition declares, and what each is in C. What the
-- texts are is defined by x_pieces.
use Rattle.std.specs.Prelude.{ℕ, ◌+◌, suc, List, [], ◌∷◌, ◌++◌, drop, codes, Option, None, Some}
use Rattle.std.specs.Prelude.{if◌then◌else◌}
use Rattle.std.specs.Fmt.{decimal}
use Rattle.std.specs.Str.{bytes_eq}
use Rattle.x_trees.specs.Tree as tree
use Rattle.x_trees.specs.Declarations.{is_void}
use Rattle.x_trees.specs.Names.{Declared, declared}
use Rattle.x_trees.specs.declared.names.declared_name.NameKind.{NameKind}
use Rattle.x_trees.specs.declared.names.declared_name.NameKind.TheVariants as kinds
use Rattle.x_outline.specs.Bodies.{BodyAt, NameAt, Members, bodies, fields_of, procedure_lists, versions_from}
use Rattle.x_pieces.specs.CTypes.{spelled}
use Rattle.x_pieces.specs.Header.{are_void}
use Rattle.x_pieces.specs.Procedures.{are_several, function_name, group_name}
use Rattle.x_pieces.specs.Table.{table_name}
use Rattle.x_clash.specs.Parts.{first_names, first_word, has_body, is_counted, is_typedef}

-- What a name is in C (C11, 6.2.3, 6.10.3): a macro, which stands for this text; at file scope a type with a
-- tag, a function or another name; or a member of a struct or a union.
pub data Sort : Type 0 where
  Macro : (text : List ℕ) → Sort
  Tagged : Sort
  Function : Sort
  Plain : Sort
  Member : Sort

-- A name in C, the word that leads to it, counted from 0 among the words of its definition, and what it is;
-- and the word of another member of the same struct that has the name, too.
pub record Given : Type 0 where
  pub name : List ℕ
  pub word : ℕ
  pub sort : Sort
  pub twin : Option ℕ

abbrev pub given : List ℕ → ℕ → Sort → Given
given name word sort = record { name = name; word = word; sort = sort; twin = None }

abbrev pub routine : List ℕ → ℕ → Given
routine name word = given (codes "xdr_" ++ name) word Function

-- ---- types, and the names of enumerators

abbrev pub declared_names : Declared → List Given
declared_names n = of n.kind
  where
    of : NameKind → List Given
    of kinds.Constant = given n.name n.word Plain ∷ []
    of kinds.Typedef = given n.name n.word Plain ∷ routine n.name n.word ∷ []
    of kinds.Program = []
    of kind = given n.name n.word Tagged ∷ routine n.name n.word ∷ []

-- the members that tell how many elements there are, and which, at the word of the name
abbrev pub length_names : List ℕ → ℕ → tree.Declaration → List Given
length_names name word d =
    if is_counted d
    then given (name ++ codes "_len") word Member ∷ given (name ++ codes "_val") word Member ∷ []
    else []

-- those of a `typedef`
abbrev pub typedef_names : tree.Definition → Declared → List Given
typedef_names (tree.Typedef d) n = if is_typedef n.kind then length_names n.name n.word d else []
typedef_names definition n = []

-- ---- members: `ns` are the names of the fields that are left

abbrev pub first_field : List NameAt → tree.Declaration → List Given
first_field [] d = []
first_field (n ∷ ns) d = given n.name n.word Member ∷ length_names n.name n.word d

-- what a declaration declares: `void` declares nothing
abbrev pub field_names : List NameAt → tree.Declaration → List Given
field_names ns d = if is_void d then [] else first_field ns d

abbrev pub fields_after : List NameAt → tree.Declaration → List NameAt
fields_after ns d = if is_void d then ns else drop 1 ns

abbrev pub struct_names : List NameAt → tree.Declarations → List Given
struct_names ns tree.none = []
struct_names ns (tree.more d ds) = field_names ns d ++ struct_names (fields_after ns d) ds

abbrev pub default_names : List NameAt → tree.Default → List Given
default_names ns tree.no_default = []
default_names ns (tree.default d) = field_names ns d

abbrev pub arm_names : List NameAt → tree.Arms → tree.Default → List Given
arm_names ns tree.no_arm other = default_names ns other
arm_names ns (tree.arm cases d rest) other = field_names ns d ++ arm_names (fields_after ns d) rest other

-- the word of the discriminant of a union, if that has this name: it is the first of the fields
abbrev pub discriminant_named : List ℕ → List NameAt → Option ℕ
discriminant_named name [] = None
discriminant_named name (n ∷ ns) = if bytes_eq n.name name then Some n.word else None

-- what its arms hold stands in a member of its own, if they hold anything
abbrev pub variant_names : List ℕ → ℕ → List NameAt → tree.Arms → tree.Default → List Given
variant_names around word ns arms other =
    if are_void arms other then []
    else record {
      name = around ++ codes "_u";
      word = word;
      sort = Member;
      twin = discriminant_named (around ++ codes "_u") ns;
    } ∷ []

-- the members of the type of this name, whose body has fields of these names
abbrev pub members_in : List ℕ → ℕ → List NameAt → tree.Body → List Given
members_in around word ns (tree.Enum es) = []
members_in around word ns (tree.Struct ds) = struct_names ns ds
members_in around word ns (tree.Union d arms other) =
    field_names ns d
    ++ (arm_names (fields_after ns d) arms other ++ variant_names around word ns arms other)

abbrev pub member_names : List ℕ → BodyAt → List Given
member_names around b = members_in around b.named (fields_of b) b.body

-- Types that have bodies, and the bodies, come in one order.

abbrev pub first_body : List ℕ → List BodyAt → List Given
first_body around [] = []
first_body around (b ∷ bs) = member_names around b

abbrev pub body_names : Declared → List BodyAt → List Given
body_names n bs = if has_body n.kind then first_body n.name bs else []

abbrev pub bodies_after : Declared → List BodyAt → List BodyAt
bodies_after n bs = if has_body n.kind then drop 1 bs else bs

-- what the definition of these names, and of these bodies, gives
abbrev pub type_names : tree.Definition → List Declared → List BodyAt → List Given
type_names d [] bs = []
type_names d (n ∷ ns) bs =
    declared_names n ++ typedef_names d n ++ body_names n bs ++ type_names d ns (bodies_after n bs)

-- ---- programs: `ns` are the names, with their words, of the versions or procedures that are left

-- the arguments behind the first
abbrev pub argument_names : ℕ → ℕ → List tree.Argument → List Given
argument_names word number [] = []
argument_names word number (a ∷ rest) =
    given (codes "arg" ++ decimal number) word Member ∷ argument_names word (suc number) rest

-- the struct of several arguments
abbrev pub group_names : List ℕ → ℕ → List tree.Argument → List Given
group_names group word others =
    if are_several others
    then given group word Tagged ∷ routine group word ∷ given (codes "arg1") word Member
    ∷ argument_names word 2 others
    else []

abbrev pub procedure_names : tree.Version → tree.Procedure → ℕ → List Given
procedure_names v p word =
    given p.name word (Macro p.number) ∷ given (function_name v p) word Function
    ∷ given (function_name v p ++ codes "_svc") word Function ∷ group_names (group_name v p) word p.others

abbrev pub procedures_names : tree.Version → List NameAt → List tree.Procedure → List Given
procedures_names v ns [] = []
procedures_names v ns (p ∷ ps) =
    procedure_names v p (first_word ns) ++ procedures_names v (drop 1 ns) ps

abbrev pub version_names : List ℕ → tree.Version → ℕ → List Given
version_names program v word =
    given v.name word (Macro v.number) ∷ given (table_name program v ++ codes "_table") word Plain
    ∷ given (table_name program v ++ codes "_nproc") word Plain ∷ []

abbrev pub versions_names : List ℕ → List NameAt → List Members → List tree.Version → List Given
versions_names program ns groups [] = []
versions_names program ns groups (v ∷ vs) =
    version_names program v (first_word ns) ++ procedures_names v (first_names groups) v.procedures
    ++ versions_names program (drop 1 ns) (drop 1 groups) vs

-- ---- a definition

abbrev pub names_given : tree.Definition → List Given
names_given (tree.Const name value) = given name 1 (Macro (spelled value)) ∷ []
names_given (tree.Program name versions number) =
    given name 1 (Macro number)
    ∷ versions_names name (versions_from 3 versions).names (procedure_lists 3 versions) versions
names_given d = type_names d (declared d) (bodies d)
