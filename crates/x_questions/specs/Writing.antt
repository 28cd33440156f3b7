-- What is told of how a definition is written.
use Rattle.std.specs.Prelude.{◌&&◌, ◌||◌, ◌==◌, ◌+◌, ◌^◌, ◌-◌, ℕ, ℤ, Bool, min, List, [], ◌∷◌}
use Rattle.std.specs.Prelude.{Option, None, Some, if◌then◌else◌}
use Rattle.x_lex.specs.Places.{Lexeme}
use Rattle.x_lex.specs.declared.kind.Kind.{Kind}
use Rattle.x_lex.specs.declared.kind.Kind.TheVariants.{Number}
use Rattle.x_numbers.specs.Numbers.{in_range, value}
use Rattle.x_questions.specs.declared.written.Comments.{Comments}

-- Comments stand directly in front of what is in this line. Behind something else in its line a comment is
-- about that, unless the line goes on.
abbrev pub are_before : Comments → (line : ℕ) → Bool
are_before comments line =
    line == comments.line || (comments.alone && line == min (comments.line + 1) (2 ^ 64 - 1))

-- the number that a word stands for, if a constant may have it
abbrev pub number_of : List ℕ → Option ℤ
number_of text = if in_range text then Some (value text) else None

abbrev pub number_as : Kind → List ℕ → (before : Option ℤ) → Option ℤ
number_as Number text before = number_of text
number_as kind text before = before

-- the last number in some tokens, or what is before them
abbrev pub last_number : (before : Option ℤ) → List Lexeme → Option ℤ
last_number before [] = before
last_number before (t ∷ ts) = last_number (number_as t.kind t.text before) ts
