-- What an undeclared word may have been meant as.
use Rattle.std.specs.Prelude.{◌≡◌, ◌<◌, ℕ, ◌-◌, ◌*◌, Bool, true, false, ◌&&◌, ◌||◌, ◌==◌, nat_le, nat_eq}
use Rattle.std.specs.Prelude.{List, [], ◌∷◌, codes, length, map, take, slice_index_or, slice_range, Option}
use Rattle.std.specs.Prelude.{None, Some}
use Rattle.std.specs.Prelude.{option_and_then, option_map, if◌then◌else◌, not}
use Rattle.std.specs.List.{filter, flat_map, list_any}
use Rattle.std.specs.Map.{lookup}
use Rattle.std.specs.Option.{option_or}
use Rattle.std.specs.Str.{bytes_eq}
use Rattle.strsim.specs.Edits.{damerau}
use Rattle.x_trees.specs.Names.{declared}
use Rattle.x_trees.specs.Tree.{Definition}
use Rattle.x_rules.specs.declared.fault.RuleCode.TheVariants.{Unknown}
use Rattle.x_compile.specs.Compile.{Item, definitions_of, places_of}
use Rattle.x_compile.specs.declared.fault.FaultCode.{FaultCode}
use Rattle.x_compile.specs.declared.fault.FaultCode.TheVariants.{Rule}
use Rattle.x_compile.specs.declared.fault.FaultPlace.{FaultPlace}
use Rattle.x_explain.specs.declared.found.FoundFault.{FoundFault}
use Rattle.x_explain.specs.declared.suggestions.Suggestion.{Suggestion}
use Rattle.x_explain.specs.Found.{AreFound}

-- types of C by their names there (stdint.h, sys/types.h, rpc/types.h), each with the type here that is on
-- the wire what its XDR routine writes: that of a u_long has 32 bits
abbrev pub is_int : List ℕ → Bool
is_int word = bytes_eq word (codes "int32_t") || bytes_eq word (codes "int16_t")
    || bytes_eq word (codes "short")

abbrev pub is_unsigned_of_width : List ℕ → Bool
is_unsigned_of_width word = bytes_eq word (codes "uint32_t") || bytes_eq word (codes "u_int32_t")
    || bytes_eq word (codes "uint16_t") || bytes_eq word (codes "u_int16_t")

abbrev pub is_unsigned_int : List ℕ → Bool
is_unsigned_int word = bytes_eq word (codes "u_int") || bytes_eq word (codes "uint")
    || bytes_eq word (codes "u_short") || bytes_eq word (codes "ushort") || is_unsigned_of_width word

abbrev pub is_unsigned_long : List ℕ → Bool
is_unsigned_long word = bytes_eq word (codes "u_long") || bytes_eq word (codes "ulong")

abbrev pub is_hyper : List ℕ → Bool
is_hyper word = bytes_eq word (codes "int64_t") || bytes_eq word (codes "longlong_t")
    || bytes_eq word (codes "quad_t")

abbrev pub is_unsigned_hyper : List ℕ → Bool
is_unsigned_hyper word = bytes_eq word (codes "uint64_t") || bytes_eq word (codes "u_int64_t")
    || bytes_eq word (codes "u_longlong_t") || bytes_eq word (codes "u_quad_t")

abbrev pub is_bool : List ℕ → Bool
is_bool word = bytes_eq word (codes "bool_t") || bytes_eq word (codes "boolean")

abbrev pub type_of_c : List ℕ → Option (List ℕ)
type_of_c word =
    if is_int word then Some (codes "int")
    else if is_unsigned_int word then Some (codes "unsigned int")
    else if is_unsigned_long word then Some (codes "unsigned long")
    else if is_hyper word then Some (codes "hyper")
    else if is_unsigned_hyper word then Some (codes "unsigned hyper")
    else if is_bool word then Some (codes "bool")
    else None

-- in how many steps a name is made of a word: a byte is put in, left out or replaced, or two neighbours are
-- swapped (Damerau and Levenshtein)
abbrev pub distance : (word name : List ℕ) → ℕ
distance [] name = length name
distance (b ∷ word) [] = length (b ∷ word)
distance (b ∷ word) (c ∷ name) = damerau nat_eq (b ∷ word) (c ∷ name)

-- words and names of up to 64 bytes are compared
abbrev pub is_short : List ℕ → Bool
is_short word = nat_le (length word) 64

-- at most a third of a word's length, which is also the most by which the length of a near name can differ
abbrev pub is_small : (word : List ℕ) → ℕ → Bool
is_small word steps = nat_le (3 * steps) (length word)

abbrev pub is_about_as_long : (word name : List ℕ) → Bool
is_about_as_long word name =
    is_small word (length word - length name) && is_small word (length name - length word)

-- how many bytes of a word are not in a name
abbrev pub strange : (word name : List ℕ) → ℕ
strange word name = length (filter (λ b. not (list_any (λ y. y == b) name)) word)

-- of each byte, whether it stands in a word
abbrev pub HasBytes : (has : List Bool) → (word : List ℕ) → Type 0
HasBytes has word = (b : ℕ) → b < 256 → slice_index_or has b false ≡ list_any (λ y. y == b) word

-- of both, at most a third of the word's length is not in the other: a step takes away one such byte at most,
-- so this holds of each near name
abbrev pub is_alike : (word name : List ℕ) → Bool
is_alike word name = is_small word (strange name word) && is_small word (strange word name)

-- a name is near whose distance is at most a third of the word's length
abbrev pub is_near : (word name : List ℕ) → Bool
is_near word name = is_short word && is_short name && is_about_as_long word name && is_alike word name
    && is_small word (distance word name)

-- it is no farther than the nearest of those after it
abbrev pub is_nearer : (word name : List ℕ) → Option (List ℕ) → Bool
is_nearer word name None = is_near word name
is_nearer word name (Some other) = is_near word name && nat_le (distance word name) (distance word other)

-- the nearest of some names; of several at one distance the first
abbrev pub nearest : (word : List ℕ) → List (List ℕ) → Option (List ℕ)
nearest word [] = None
nearest word (name ∷ names) =
    if is_nearer word name (nearest word names) then Some name else nearest word names

-- what an undeclared word may have been meant as: a type that C calls so, or the nearest name
abbrev pub suggestion : (word : List ℕ) → List (List ℕ) → Option (List ℕ)
suggestion word names = option_or (type_of_c word) (nearest word names)

-- the names that a definition declares, and those of a text that are compared: the first 1024
abbrev pub names_in : Option Definition → List (List ℕ)
names_in None = []
names_in (Some d) = map (λ n. n.name) (declared d)

abbrev pub compared : List (Option Definition) → List (List ℕ)
compared definitions = take 1024 (flat_map names_in definitions)

-- the undeclared words of a text for which something is suggested: the first 16
abbrev pub is_unknown : FaultCode → Bool
is_unknown (Rule Unknown) = true
is_unknown code = false

abbrev pub sought : List FaultPlace → List FaultPlace
sought places = take 16 (filter (λ p. is_unknown p.code) places)

-- what is suggested for words, each by the place where it starts
abbrev pub suggested : (text : List ℕ) → List (List ℕ) → FoundFault → ℕ × Option (List ℕ)
suggested text names d = (d.start, suggestion (slice_range text d.start d.end) names)

-- the list has what is suggested for these words of a text
pub record AreSuggested (text : List ℕ) (items : List Item) (list : List (ℕ × Option (List ℕ))) : Type 0 where
  pub found : List FoundFault
  pub are_found : AreFound text (sought (places_of items)) found
  pub list_is : list ≡ map (suggested text (compared (definitions_of items))) found

-- what it has for the word at a place
abbrev pub suggested_at : List (ℕ × Option (List ℕ)) → ℕ → Option (List ℕ)
suggested_at list start = option_and_then (λ s. s) (lookup (λ at. at == start) list)

-- the list of the program
abbrev pub view_suggestion : Suggestion → ℕ × Option (List ℕ)
view_suggestion s = (s.start, option_map (λ v. v.items) s.name)
