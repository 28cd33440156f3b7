-- Cutting as a function of a running depth, which the program computes. That it gives the items that the
-- definition speaks of is a law (`cut_by_roles`); nothing else but private functions cites it.
use Rattle.std.specs.Prelude.{ℕ, ◌+◌, ◌-◌, Bool, false, List, [], ◌∷◌, map, cond, ◌==◌}
use Rattle.x_lex.specs.declared.kind.Kind.{Kind}
use Rattle.x_lex.specs.Places.{Lexeme, lexemes}
use Rattle.x_cutting.specs.Items.{is_punct}

-- what a token does to the depth of the braces
pub data DepthRole : Type 0 where
  opening : DepthRole
  closing : DepthRole
  semicolon : DepthRole
  plain : DepthRole

-- the role of the first test that passes
abbrev pub chosen : Bool → Bool → Bool → DepthRole
chosen p q r = cond p opening (cond q closing (cond r semicolon plain))

-- the role of a token, by its kind and its bytes
unfoldable pub role_by : Kind → List ℕ → DepthRole
role_by kind text = chosen (is_punct 123 kind text) (is_punct 125 kind text) (is_punct 59 kind text)

abbrev pub role_of : Lexeme → DepthRole
role_of t = role_by t.kind t.text

abbrev pub roles_of : List Lexeme → List DepthRole
roles_of tokens = map role_of tokens

-- the roles of the tokens of a text
abbrev pub roles : List ℕ → List (Kind × ℕ) → List DepthRole
roles text ts = roles_of (lexemes text ts)

-- the depth behind a token
abbrev pub depth_after : ℕ → DepthRole → ℕ
depth_after d opening = d + 1
depth_after d closing = d - 1
depth_after d semicolon = d
depth_after d plain = d

-- whether the token ends the item, before it at this depth
abbrev pub ends_at : ℕ → DepthRole → Bool
ends_at d semicolon = d == 0
ends_at d role = false

-- how many tokens each item has, where at this depth n tokens of the first have gone by
abbrev pub counts_from : ℕ → ℕ → List DepthRole → List ℕ
counts_from d n [] = n ∷ []
counts_from d n (r ∷ rs) =
    cond (ends_at d r) ((n + 1) ∷ counts_from 0 0 rs) (counts_from (depth_after d r) (n + 1) rs)
