-- Which words are offered at a place (LSP 3.17, `textDocument/completion`).
use Rattle.std.specs.Prelude.{◌&&◌, ◌==◌, ℕ, Bool, false, Option, None, Some}
use Rattle.x_trees.specs.Tree as tree
use Rattle.x_trees.specs.Tree.{Definition}
use Rattle.x_trees.specs.declared.names.declared_name.NameKind.{NameKind}
use Rattle.x_trees.specs.declared.names.declared_name.NameKind.TheVariants as names
use Rattle.x_names.specs.declared.names.Declarer.{Declarer}
use Rattle.x_questions.specs.declared.completion.ItemKind.{ItemKind}
use Rattle.x_questions.specs.declared.completion.ItemKind.TheVariants.{Class, Enum, Keyword}
use Rattle.x_questions.specs.declared.completion.ItemKind.TheVariants.{EnumMember, Constant, Struct}

-- a constant is one of its own, or an enumerator
abbrev pub constant_kind : Definition → ItemKind
constant_kind (tree.Const name value) = Constant
constant_kind definition = EnumMember

-- what a name is that a definition declares; that of a program stands nowhere else
abbrev pub item_kind : Definition → NameKind → Option ItemKind
item_kind definition names.Constant = Some (constant_kind definition)
item_kind definition names.Enum = Some Enum
item_kind definition names.Struct = Some Struct
item_kind definition names.Union = Some Struct
item_kind definition names.Typedef = Some Class
item_kind definition names.Program = None

-- the `CompletionItemKind`
abbrev pub item_number : ItemKind → ℕ
item_number Class = 7
item_number Enum = 13
item_number Keyword = 14
item_number EnumMember = 20
item_number Constant = 21
item_number Struct = 22

-- its first declarer is the item, in this place of the names that it declares
abbrev pub is_first : Option Declarer → (item place : ℕ) → Bool
is_first None item place = false
is_first (Some first) item place = first.item == item && first.place == place
