-- The names that generated texts use.
use Rattle.std.specs.Prelude.{ℕ, ◌==◌, ◌-◌, List, bytes_eq, codes, drop, length, take, if◌then◌else◌}
use Rattle.std.specs.List.{after_last}

-- a name without a final `.x`
abbrev pub without_x : List ℕ → List ℕ
without_x name =
    if bytes_eq (drop (length name - 2) name) (codes ".x") then take (length name - 2) name else name

-- the name that generated texts use: that of the file, behind the last `/` of its path
abbrev pub base_of : List ℕ → List ℕ
base_of path = without_x (after_last (λ b. b == 47) path)
