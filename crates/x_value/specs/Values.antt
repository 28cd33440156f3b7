-- Values and their bytes (RFC 4506, sections 3 and 4). Of what type a value is, is not said here.
use Rattle.std.specs.Prelude.{ℕ, List, [], ◌++◌, length}
use Rattle.x_units.specs.Units.{copies, padding, word}

mutual
  pub data Value : Type 0 where
    -- bytes, and zeros that fill the last unit up: a number, `float`, `opaque x[n]`, or nothing at all
    body : List ℕ → Value
    -- values one behind another: a struct, `T x[n]`
    group : Values → Value
    -- a word and the values that it announces: `bool`, an enum; a length and its bytes; a count and its
    -- elements; whether a link leads anywhere, and where; a discriminant and its arm
    headed : ℕ → Values → Value

  pub data Values : Type 0 where
    end : Values
    more : Value → Values → Values

abbrev mutual
  pub enc : Value → List ℕ
  enc (body bs) = bs ++ copies (padding (length bs)) 0
  enc (group vs) = encs vs
  enc (headed w vs) = word w ++ encs vs

  pub encs : Values → List ℕ
  encs end = []
  encs (more v vs) = enc v ++ encs vs
