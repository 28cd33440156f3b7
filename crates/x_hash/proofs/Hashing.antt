-- The turn of the loop that feeds a keyed hasher.
use Rattle.std.proofs.Common.{◌≡◌, ℕ, ◌+◌, ◌<◌, List, length, take, slice_index_or, ap, sym, ◌∙◌}
use Rattle.std.proofs.hash.Loops.{byte_more}
use Rattle.x_hash.specs.Keys.{state_after, hashed}
use Rattle.x_hash.specs.declared.KeyedHasher.{KeyedHasher}

-- the hasher after one byte more
pub write_more : (s h : KeyedHasher) (bytes : List ℕ) (i : ℕ) → i < length bytes
    → h ≡ hashed s (take i bytes)
    → record { state = state_after h.factor h.state (slice_index_or bytes i 0); factor = h.factor }
    ≡ hashed s (take (i + 1) bytes)
write_more s h bytes i within e =
    ap (λ k. record { state = state_after k.factor k.state (slice_index_or bytes i 0); factor = k.factor }) e
    ∙ sym (ap (λ t. record s { state = t }) (byte_more (state_after s.factor) s.state bytes i within))
