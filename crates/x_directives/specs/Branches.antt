-- Which places of a text stand in a branch behind the first one of a conditional.
use Rattle.std.specs.Prelude.{◌≡◌, ℕ, ◌+◌, ◌-◌, ◌==◌, nat_le, Bool, true, false, ◌||◌, ◌&&◌, if◌then◌else◌}
use Rattle.std.specs.Prelude.{List, [], ◌∷◌, map, codes, reverse, slice_index_or}
use Rattle.std.specs.List.{filter, prefix_len}
use Rattle.std.specs.Str.{bytes_eq}
use Rattle.x_directives.specs.declared.branches.Turn.{Turn}
use Rattle.x_directives.specs.Conditionals.{is_condition}
use Rattle.x_directives.specs.Directives.{Marked, marked_lines, directive_word}

-- the words with which a branch behind the first one begins
abbrev pub is_alternative : List ℕ → Bool
is_alternative word =
    bytes_eq word (codes "else") || bytes_eq word (codes "elif") || bytes_eq word (codes "elifdef")
    || bytes_eq word (codes "elifndef")

-- the word that ends a conditional
abbrev pub is_end : List ℕ → Bool
is_end word = bytes_eq word (codes "endif")

-- Whether what follows these lines, of which the last comes first, stands in such a branch. Of the
-- conditionals that end in the lines gone over, `depth` are still to begin: what is in these says nothing.
unfoldable pub later_behind : (depth : ℕ) → List Marked → Bool
later_behind depth [] = false
later_behind depth (line ∷ earlier) =
    let word = directive_word line in
    if is_end word then later_behind (1 + depth) earlier
    else if is_condition word then later_behind (depth - 1) earlier
    else if is_alternative word && depth == 0 then true
    else later_behind depth earlier

-- whether the place stands in such a branch: a line that begins at the place or before it is one before it
abbrev pub in_later_branch : List ℕ → ℕ → Bool
in_later_branch text place =
    later_behind 0 (reverse (filter (λ line. nat_le line.start place) (marked_lines text)))

-- what these turns, which ascend, say of a place: what the last one says that is not behind it
abbrev pub said_of : List Turn → ℕ → Bool
said_of turns place =
    slice_index_or (false ∷ map (λ t. t.later) turns) (prefix_len (λ t. nat_le t.start place) turns) false

-- they say of each place whether it stands in such a branch of the text
abbrev pub SayBranchesOf : List Turn → List ℕ → Type 0
SayBranchesOf turns text = (place : ℕ) → said_of turns place ≡ in_later_branch text place
