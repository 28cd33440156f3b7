-- How the tokens of a text are written as items.
use Rattle.std.specs.Prelude.{◌≡◌, ℕ, ◌-◌, max, Bool, true, false, IsTrue, List, [], ◌∷◌, ◌++◌, count_by}
use Rattle.std.specs.Prelude.{length, map}
use Rattle.std.specs.List.{flat_map}
use Rattle.std.specs.Str.{bytes_eq}
use Rattle.x_lex.specs.declared.kind.Kind.{Kind}
use Rattle.x_lex.specs.declared.kind.Kind.TheVariants as kinds
use Rattle.x_lex.specs.Places.{Lexeme}

-- a mark of punctuation that is this byte
abbrev pub is_punct : ℕ → Kind → List ℕ → Bool
is_punct byte kinds.Punct text = bytes_eq text (byte ∷ [])
is_punct byte kind text = false

-- `{`
abbrev pub is_open : Lexeme → Bool
is_open t = is_punct 123 t.kind t.text

-- `}`
abbrev pub is_close : Lexeme → Bool
is_close t = is_punct 125 t.kind t.text

-- `;`
abbrev pub is_semicolon : Lexeme → Bool
is_semicolon t = is_punct 59 t.kind t.text

-- how many more braces are opened than closed, or 0
abbrev pub surplus : List Lexeme → ℕ
surplus tokens = count_by is_open tokens - count_by is_close tokens

-- the greatest surplus of a rear, the empty one included: a `}` without a `{` before it counts for nothing
abbrev pub depth : List Lexeme → ℕ
depth [] = 0
depth (t ∷ tokens) = max (surplus (t ∷ tokens)) (depth tokens)

-- the token ends the item whose tokens before it are these
pub record Ends (front : List Lexeme) (t : Lexeme) : Type 0 where
  pub semicolon : IsTrue (is_semicolon t)
  pub outside : depth front ≡ 0

-- no token ends an item
pub record HasNoEnd (part : List Lexeme) : Type 0 where
  pub never : (front : List Lexeme) (t : Lexeme) (rear : List Lexeme) → part ≡ front ++ t ∷ rear
      → Ends front t → ⊥

-- the last token ends the item, and none before it does
pub record IsWhole (item : List Lexeme) : Type 0 where
  pub front : List Lexeme
  pub token : Lexeme
  pub parts : item ≡ front ++ token ∷ []
  pub ends : Ends front token
  pub before : HasNoEnd front

-- so each of the items is
abbrev pub AreWhole : List (List Lexeme) → Type 0
AreWhole [] = Unit {0}
AreWhole (item ∷ items) = IsWhole item × AreWhole items

-- joined lists
abbrev pub joined : List (List Lexeme) → List Lexeme
joined parts = flat_map (λ part. part) parts

-- the items of the tokens: whole ones, and a last one that no token ends, even if it is empty
pub record AreItems (tokens : List Lexeme) (items : List (List Lexeme)) : Type 0 where
  pub whole : List (List Lexeme)
  pub last : List Lexeme
  pub parts : items ≡ whole ++ last ∷ []
  pub all : joined items ≡ tokens
  pub each : AreWhole whole
  pub rest : HasNoEnd last

-- the first item of the tokens that are left, and those behind it: a whole one, or else the last
abbrev pub IsNext : Bool → List Lexeme → List Lexeme → List Lexeme → Type 0
IsNext true left item rest = IsWhole item × (left ≡ item ++ rest)
IsNext false left item rest = HasNoEnd item × (left ≡ item) × (rest ≡ [])

-- how many tokens each item of the tokens has
pub record IsCut (tokens : List Lexeme) (counts : List ℕ) : Type 0 where
  pub items : List (List Lexeme)
  pub are : AreItems tokens items
  pub lengths : counts ≡ map length items
