-- What the server tells of itself.
use Rattle.std.specs.Prelude.{ℕ, List, codes}
use Rattle.x_positions.specs.declared.encoding.Encoding.{Encoding}
use Rattle.x_positions.specs.declared.encoding.Encoding.TheVariants.{Utf8, Utf16}

-- what a way to count characters is called (LSP 3.17, `PositionEncodingKind`)
abbrev pub encoding_name : Encoding → List ℕ
encoding_name Utf8 = codes "utf-8"
encoding_name Utf16 = codes "utf-16"
