-- The lines that nodes are written as.
use Rattle.std.specs.Prelude.{ℕ, ◌/◌, ◌%◌, ◌+◌, Bool, ◌&&◌, ◌||◌, ◌==◌, not, nat_le, nat_lt, if◌then◌else◌}
use Rattle.std.specs.Prelude.{List, [], ◌∷◌, ◌++◌, codes}
use Rattle.std.specs.List.{flat_map}
use Rattle.std.specs.Fmt.{decimal, signed_decimal}
use Rattle.x_value.specs.Shown.{Label, Name, Index, Star, Arguments, Results, Leaf, Signed, Unsigned, Truth}
use Rattle.x_value.specs.Shown.{Enumerator, Hex, Text, Array, Null, Link, Struct, Union, Void, Node}

-- ---- bytes

-- a hexadecimal digit
abbrev pub hex_digit : ℕ → ℕ
hex_digit n = if nat_lt n 10 then 48 + n else 87 + n

-- two hexadecimal digits
abbrev pub hex_byte : ℕ → List ℕ
hex_byte b = hex_digit (b / 16) ∷ hex_digit (b % 16) ∷ []

abbrev pub hex_text : List ℕ → List ℕ
hex_text bs = codes "0x" ++ flat_map hex_byte bs

-- a byte between quotes: `"` and `\` have a `\` before them, and what is not printable in ASCII is written in
-- hexadecimal
abbrev pub quoted_byte : ℕ → List ℕ
quoted_byte b =
    if b == 34 || b == 92 then 92 ∷ b ∷ []
    else if nat_le 32 b && nat_le b 126 then b ∷ []
    else codes "\\x" ++ hex_byte b

-- a byte that stands between quotes as itself
abbrev pub is_plain : ℕ → Bool
is_plain b = (nat_le 32 b && nat_le b 126) && not (b == 34 || b == 92)

abbrev pub quoted_text : List ℕ → List ℕ
quoted_text bs = codes "\"" ++ flat_map quoted_byte bs ++ codes "\""

-- ---- nodes

abbrev pub label_text : Label → List ℕ
label_text (Name name) = name
label_text (Index n) = codes "[" ++ decimal n ++ codes "]"
label_text Star = codes "*"
label_text Arguments = codes "args"
label_text Results = codes "results"

abbrev pub truth_text : Bool → List ℕ
truth_text b = if b then codes "TRUE" else codes "FALSE"

abbrev pub leaf_text : Leaf → List ℕ
leaf_text (Signed z) = signed_decimal z
leaf_text (Unsigned n) = decimal n
leaf_text (Truth b) = truth_text b
leaf_text (Enumerator name z) = name ++ codes " (" ++ signed_decimal z ++ codes ")"
leaf_text (Hex bs) = hex_text bs
leaf_text (Text bs) = quoted_text bs
leaf_text (Array n) = codes "array " ++ decimal n
leaf_text Null = codes "null"
leaf_text Link = codes "link"
leaf_text Struct = codes "struct"
leaf_text Union = codes "union"
leaf_text Void = codes "void"

-- `LEVEL LABEL = TEXT`
abbrev pub node_line : Node → List ℕ
node_line n =
    decimal n.level ++ codes " " ++ label_text n.label ++ codes " = " ++ leaf_text n.leaf ++ codes "\n"

abbrev pub node_lines : List Node → List ℕ
node_lines nodes = flat_map node_line nodes
