-- What a keyed hasher computes, and the key that is made of bytes.
use Rattle.std.specs.Prelude.{ℕ, ◌-◌, ◌*◌, ◌/◌, ◌^◌, ◌==◌, List, [], ◌∷◌, length, fold, if◌then◌else◌}
use Rattle.std.specs.Prelude.{bit_and, bit_xor}
use Rattle.std.specs.Hash.DefaultHasher as sip
use Rattle.std.specs.declared.hash.DefaultHasher.{DefaultHasher}
use Rattle.std.specs.Hash as fed
use Rattle.std.specs.Int.{from_le_bytes, w64}
use Rattle.x_hash.specs.declared.HashKey.{HashKey}
use Rattle.x_hash.specs.declared.KeyedHasher.{KeyedHasher}

-- both halves of the 128 bits of a product, joined by xor
abbrev pub folded_product : ℕ → ℕ → ℕ
folded_product a b = bit_xor (bit_and (a * b) (2 ^ 64 - 1)) (a * b / 2 ^ 64)

-- the state after a word
abbrev pub state_after : ℕ → ℕ → ℕ → ℕ
state_after factor state word = folded_product (bit_xor state word) factor

-- the words of some bytes: eight are one, the lowest first, and of any other number each is one
abbrev pub words_of : List ℕ → List ℕ
words_of bytes = if length bytes == 8 then from_le_bytes w64 bytes ∷ [] else bytes

-- the hasher after some words
abbrev pub hashed : KeyedHasher → List ℕ → KeyedHasher
hashed s words = record s { state = fold (state_after s.factor) s.state words }

-- the hasher after some bytes
abbrev pub write : KeyedHasher → List ℕ → KeyedHasher
write s bytes = hashed s (words_of bytes)

-- the key that is made of what a hasher was fed: what SipHash-1-3 gives of that, and of that and a zero
abbrev pub key_after : DefaultHasher → HashKey
key_after hasher = record {
  start = sip.finish hasher;
  factor = sip.finish (fold sip.write hasher (fed.u8 0));
}

-- the key that is made of bytes
abbrev pub key_of : List ℕ → HashKey
key_of bytes = key_after (sip.write sip.initial bytes)
