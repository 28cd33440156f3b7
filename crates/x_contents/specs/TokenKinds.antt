-- What kinds of token there are in a document (LSP 3.17, `textDocument/semanticTokens`).
use Rattle.std.specs.Prelude.{ℕ, ◌+◌, List, [], ◌∷◌, map, slice_get, slice_set, Option, None, Some}
use Rattle.std.specs.Prelude.{if◌then◌else◌}
use Rattle.x_lex.specs.Places.{Lexeme}
use Rattle.x_lex.specs.declared.kind.Kind.{Kind}
use Rattle.x_lex.specs.declared.kind.Kind.TheVariants as kinds
use Rattle.x_trees.specs.Mentions.{Mention, mentioned}
use Rattle.x_trees.specs.Tree.{Definition}
use Rattle.x_trees.specs.Words.{is_significant}
use Rattle.x_trees.specs.declared.names.declared_name.NameKind.{NameKind}
use Rattle.x_trees.specs.declared.names.declared_name.NameKind.TheVariants as names
use Rattle.x_names.specs.declared.names.Declarer.{Declarer}
use Rattle.x_names.specs.Declarers.{is_beforehand}
use Rattle.x_lookups.specs.Parts.{parts_of}
use Rattle.x_lookups.specs.declared.parts.Part.{Part}
use Rattle.x_lookups.specs.declared.parts.PartKind.{PartKind}
use Rattle.x_lookups.specs.declared.parts.PartKind.TheVariants as parts
use Rattle.x_contents.specs.declared.tokens.TokenKind.{TokenKind}
use Rattle.x_contents.specs.declared.tokens.TokenKind.TheVariants.{Keyword, Comment, Number, Macro}
use Rattle.x_contents.specs.declared.tokens.TokenKind.TheVariants.{«Type», Struct, Enum, EnumMember}
use Rattle.x_contents.specs.declared.tokens.TokenKind.TheVariants.{Namespace, Method, Property}

-- what a token is wherever it stands
abbrev pub kind_alone : Kind → Option TokenKind
kind_alone kinds.Space = None
kind_alone kinds.Comment = Some Comment
kind_alone kinds.OpenComment = Some Comment
kind_alone kinds.Percent = Some Macro
kind_alone kinds.Marker = Some Macro
kind_alone kinds.Directive = Some Macro
kind_alone kinds.Keyword = Some Keyword
kind_alone kinds.Name = None
kind_alone kinds.Number = Some Number
kind_alone kinds.BadNumber = None
kind_alone kinds.Punct = None
kind_alone kinds.BadByte = None

-- what the name of a part of a definition is
abbrev pub kind_of_part : PartKind → TokenKind
kind_of_part parts.Constant = EnumMember
kind_of_part parts.Enumerator = EnumMember
kind_of_part parts.Enum = Enum
kind_of_part parts.Struct = Struct
kind_of_part parts.Union = Struct
kind_of_part parts.Typedef = «Type»
kind_of_part parts.Field = Property
kind_of_part parts.Program = Namespace
kind_of_part parts.Version = Namespace
kind_of_part parts.Procedure = Method

-- what a name is that is declared as this
abbrev pub kind_declared : NameKind → TokenKind
kind_declared names.Constant = EnumMember
kind_declared names.Enum = Enum
kind_declared names.Struct = Struct
kind_declared names.Union = Struct
kind_declared names.Typedef = «Type»
kind_declared names.Program = Namespace

abbrev pub kind_by : Option Declarer → Option TokenKind
kind_by None = None
kind_by (Some declarer) = Some (kind_declared declarer.kind)

-- what a name is that is used: by what declares it first; TRUE and FALSE are constants
abbrev pub kind_used : (first : List ℕ → Option Declarer) → List ℕ → Option TokenKind
kind_used first name = if is_beforehand name then Some EnumMember else kind_by (first name)

-- ---- the tokens of an item

-- the places of the words among tokens, where the first of these has this place
abbrev pub word_places : ℕ → List Lexeme → List ℕ
word_places at [] = []
word_places at (t ∷ ts) =
    if is_significant t.kind then at ∷ word_places (at + 1) ts else word_places (at + 1) ts

-- the token at a place, if there is one, is of this kind
abbrev pub with_kind : List (Option TokenKind) → (place : Option ℕ) → Option TokenKind
    → List (Option TokenKind)
with_kind kinds None kind = kinds
with_kind kinds (Some place) kind = slice_set kinds place kind

-- the names that a definition uses, at its words
abbrev pub with_uses : (first : List ℕ → Option Declarer) → (words : List ℕ) → List (Option TokenKind)
    → List Mention → List (Option TokenKind)
with_uses first words kinds [] = kinds
with_uses first words kinds (m ∷ ms) =
    with_uses first words (with_kind kinds (slice_get words m.word) (kind_used first m.name)) ms

-- the names of its parts
abbrev pub with_part_kinds : List (Option TokenKind) → List Part → List (Option TokenKind)
with_part_kinds kinds [] = kinds
with_part_kinds kinds (p ∷ ps) = with_part_kinds (slice_set kinds p.name (Some (kind_of_part p.kind))) ps

-- what a token is in an item that has no definition: every name is used
abbrev pub kind_unparsed : (first : List ℕ → Option Declarer) → Kind → (text : List ℕ) → Option TokenKind
kind_unparsed first kinds.Name text = kind_used first text
kind_unparsed first kind text = kind_alone kind

-- what the tokens of an item are
abbrev pub kinds_in : (first : List ℕ → Option Declarer) → List Lexeme → Option Definition
    → List (Option TokenKind)
kinds_in first tokens None = map (λ t. kind_unparsed first t.kind t.text) tokens
kinds_in first tokens (Some d) = with_part_kinds (with_uses first (word_places 0 tokens)
    (map (λ t. kind_alone t.kind) tokens) (mentioned d)) (parts_of tokens)

-- the type of a token, by its place in the list of them that the server tells
abbrev pub type_of : TokenKind → ℕ
type_of Keyword = 0
type_of Comment = 1
type_of Number = 2
type_of Macro = 3
type_of «Type» = 4
type_of Struct = 5
type_of Enum = 6
type_of EnumMember = 7
type_of Namespace = 8
type_of Method = 9
type_of Property = 10
