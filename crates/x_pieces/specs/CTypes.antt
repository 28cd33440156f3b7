-- The type of C and the XDR routine of each type of the language.
use Rattle.std.specs.Prelude.{ℕ, List, [], codes, Option, Some, None}
use Rattle.x_trees.specs.Tree.{DataType, Simple, Name, Tagged, Inline, Argument, Text, Typed, Value, Number}
use Rattle.x_trees.specs.Tree.{Named}
use Rattle.x_trees.specs.declared.trees.declaration.Basic.{Basic}
use Rattle.x_trees.specs.declared.trees.declaration.Basic.TheVariants as basics

-- a type as C has it, and its routine behind `xdr_`
pub record CType : Type 0 where
  pub name : List ℕ
  pub routine : List ℕ

-- a type whose routine has its name
abbrev pub own : List ℕ → CType
own name = record { name = name; routine = name }

abbrev pub basic_type : Basic → CType
basic_type basics.Int = own (codes "int")
basic_type basics.UnsignedInt = own (codes "u_int")
basic_type basics.Long = own (codes "long")
basic_type basics.UnsignedLong = own (codes "u_long")
basic_type basics.Hyper = own (codes "quad_t")
basic_type basics.UnsignedHyper = own (codes "u_quad_t")
basic_type basics.Unsigned = own (codes "u_int")
basic_type basics.Float = own (codes "float")
basic_type basics.Double = own (codes "double")
basic_type basics.Quadruple = own (codes "quadruple")
basic_type basics.Bool = record { name = codes "bool_t"; routine = codes "bool" }

-- where an inline type stands it has this lifted name
abbrev pub c_type : List ℕ → DataType → CType
c_type lifted (Simple b) = basic_type b
c_type lifted (Name n) = own n
c_type lifted (Tagged tag n) = own n
c_type lifted (Inline body) = own lifted

-- an argument or a result
abbrev pub passed_type : Option Argument → CType
passed_type None = own (codes "void")
passed_type (Some Text) = record { name = codes "char *"; routine = codes "wrapstring" }
passed_type (Some (Typed type)) = c_type [] type

-- how a value is spelled
abbrev pub spelled : Value → List ℕ
spelled (Number text) = text
spelled (Named text) = text

-- the greatest length of what has one: as it is spelled, or `~0`
abbrev pub most : Option Value → List ℕ
most None = codes "~0"
most (Some v) = spelled v
