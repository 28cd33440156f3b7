-- The trees of definitions, apart from where they lie in memory. Each name and number is kept as it is
-- spelled.
use Rattle.std.specs.Prelude.{ℕ, List, Option}
use Rattle.x_trees.specs.declared.trees.declaration.Basic.{Basic}
use Rattle.x_trees.specs.declared.trees.declaration.Tag.{Tag}

-- a number, or the name of a constant
pub data Value : Type 0 where
  Number : (text : List ℕ) → Value
  Named : (text : List ℕ) → Value

-- how many elements an array has: so many, or at most so many
pub data Length : Type 0 where
  Fixed : (size : Value) → Length
  Variable : (most : Option Value) → Length

-- what stands around the name of a declaration
pub data Shape : Type 0 where
  Plain : Shape
  Optional : Shape
  Array : (length : Length) → Shape

-- a name of an enum, with its value where it is given
pub record Enumerator : Type 0 where
  pub name : List ℕ
  pub value : Option Value

-- types, the bodies of enums, structs and unions, declarations, and the lists of these
mutual
  pub data DataType : Type 0 where
    Simple : (basic : Basic) → DataType
    Name : (name : List ℕ) → DataType
    Tagged : (tag : Tag) (name : List ℕ) → DataType
    Inline : (body : Body) → DataType

  pub data Body : Type 0 where
    Enum : (enumerators : List Enumerator) → Body
    Struct : (declarations : Declarations) → Body
    Union : (discriminant : Declaration) (arms : Arms) (default : Default) → Body

  pub data Declaration : Type 0 where
    Void : Declaration
    Of : (type : DataType) (name : List ℕ) (shape : Shape) → Declaration
    Opaque : (name : List ℕ) (length : Length) → Declaration
    String : (name : List ℕ) (most : Option Value) → Declaration

  pub data Declarations : Type 0 where
    none : Declarations
    more : (first : Declaration) (rest : Declarations) → Declarations

  pub data Arms : Type 0 where
    no_arm : Arms
    arm : (cases : List Value) (declaration : Declaration) (rest : Arms) → Arms

  pub data Default : Type 0 where
    no_default : Default
    default : (declaration : Declaration) → Default

-- what is passed to a procedure or comes back from it; `void` is none
pub data Argument : Type 0 where
  Text : Argument
  Typed : (type : DataType) → Argument

pub record Procedure : Type 0 where
  pub result : Option Argument
  pub name : List ℕ
  pub first : Option Argument
  pub others : List Argument
  pub number : List ℕ

pub record Version : Type 0 where
  pub name : List ℕ
  pub procedures : List Procedure
  pub number : List ℕ

pub data Definition : Type 0 where
  Const : (name : List ℕ) (value : Value) → Definition
  Typedef : (declaration : Declaration) → Definition
  NewType : (name : List ℕ) (body : Body) → Definition
  Program : (name : List ℕ) (versions : List Version) (number : List ℕ) → Definition
