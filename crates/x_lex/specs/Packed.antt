-- A token's kind and length in one number: 16 times the length, and the number of the kind.
use Rattle.std.specs.Prelude.{ℕ, slice_index_or}
use Rattle.x_lex.specs.declared.kind.Kind.{Kind}
use Rattle.x_lex.specs.declared.kind.Kind.TheVariants as kinds
use Rattle.x_lex.specs.declared.tokens.token_entry.TheConstants.{KINDS}

-- the kind of this number
abbrev pub kind_of : ℕ → Kind
kind_of number = slice_index_or KINDS number kinds.Space
