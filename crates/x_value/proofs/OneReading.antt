-- Bytes are read in one way: as one value, or refused for one reason at one place.
use Rattle.std.proofs.Common.{◌≡◌, ℕ, ◌+◌, ◌*◌, ◌<◌, ◌≤◌, List, [], ◌∷◌, ◌++◌, length, sym, ◌∙◌, ap}
use Rattle.std.proofs.Common.{append_assoc, append-nil, arith, inl, inr}
use Rattle.std.specs.Prelude.{Option, Some}
use Rattle.std.proofs.lemmas.List.{length-append}
use Rattle.std.proofs.lemmas.Bool.{cases_lt}
use Rattle.x_schema.specs.Schema.{Schema}
use Rattle.x_schema.specs.declared.schema.TypeId.{TypeId}
use Rattle.x_value.specs.declared.fault.ReadCode.{ReadCode}
use Rattle.x_value.specs.declared.fault.ReadCode.TheVariants.{NoMemory}
use Rattle.x_value.specs.Dumps.{root_job, IsOf, IsEncoding, IsShown, BeginsEncoding, IsBadUnit, IsTruncated}
use Rattle.x_value.specs.Dumps.{HasTrailing, IsReadFault, no_memory_left, trailing, bad_unit, cut_short}
use Rattle.x_value.specs.Readings.{UnitRole, fault_of, nodes}
use Rattle.x_value.specs.Shown.{Node}
use Rattle.x_value.specs.Values.{Value, enc}
use Rattle.x_value.proofs.Fronts.{cut_longer, cut_same}
use Rattle.x_value.proofs.Unique.{one_value}

-- no encoding of a type is a front of another one
same_value : (s : Schema) (id : TypeId) (a b x y : List ℕ) (v w : Value) → IsOf s id v → IsOf s id w
    → a ≡ enc v → b ≡ enc w → a ++ x ≡ b ++ y → (v ≡ w) × (x ≡ y)
same_value s id a b x y v w fv fw ev ew e =
    one_value s (root_job s id).layout (root_job s id).spot v w x y fv fw
    (ap (λ t. t ++ x) (sym ev) ∙ e ∙ ap (λ t. t ++ y) ew)

-- ---- two refusals

begins_front : (s : Schema) (id : TypeId) (a b c : List ℕ) → b ≡ a ++ c → BeginsEncoding s id b
    → BeginsEncoding s id a
begins_front s id a b c e k =
    (c ++ k.0, (k.1.0, k.1.1, sym (append_assoc a c k.0) ∙ ap (λ t. t ++ k.0) (sym e) ∙ k.1.2))

aligned : (s : Schema) (id : TypeId) (bytes : List ℕ) (at : ℕ) (code : ReadCode)
    → (k : IsBadUnit s id bytes at code) → (n : ℕ) × (length k.front ≡ 4 * n)
aligned s id bytes at code k =
    let why = k.cause k.begins.1.0 k.begins.0 k.begins.1.1 k.begins.1.2 in (length why.before, why.place)

units_apart : (x y i j : ℕ) → x ≡ 4 * i → y ≡ 4 * j → x < y → x + 4 ≤ y
units_apart x y i j e f lt = omega arith

-- nothing longer than the front of a bad unit begins an encoding
not_behind : (s : Schema) (id : TypeId) (bytes : List ℕ) (at n : ℕ) (code : ReadCode) (front rest : List ℕ)
    → (k : IsBadUnit s id bytes at code) → bytes ≡ front ++ rest → length front ≡ 4 * n
    → BeginsEncoding s id front → length k.front < length front → ⊥
not_behind s id bytes at n code front rest k e even begins lt =
    let one = aligned s id bytes at code k in
    let long : length (k.front ++ k.unit) ≤ length front =
    (let l = length-append k.front k.unit in let w = k.wide in
    let a = units_apart (length k.front) (length front) one.0 n one.1 even lt in omega arith) in
    let c = cut_longer (k.front ++ k.unit) k.rest front rest (append_assoc k.front k.unit k.rest ∙ sym k.parts
    ∙ e) long in
    k.ended (begins_front s id (k.front ++ k.unit) front c.0 c.1 begins)

not_shorter : (s : Schema) (id : TypeId) (bytes : List ℕ) (at at' : ℕ) (code code' : ReadCode)
    → (x : IsBadUnit s id bytes at code) → (y : IsBadUnit s id bytes at' code')
    → length x.front < length y.front → ⊥
not_shorter s id bytes at at' code code' x y lt =
    let two = aligned s id bytes at' code' y in
    not_behind s id bytes at two.0 code y.front (y.unit ++ y.rest) x y.parts two.1 y.begins lt

same_role : (k l : UnitRole) (xs ys : List UnitRole) → k ∷ xs ≡ l ∷ ys → k ≡ l
same_role k l xs ys e = cc

same_code : (c d : ReadCode) (x : Option ReadCode) → x ≡ Some c → x ≡ Some d → c ≡ d
same_code c d x e f = cc

bad_same : (s : Schema) (id : TypeId) (bytes : List ℕ) (at at' : ℕ) (code code' : ReadCode)
    → (x : IsBadUnit s id bytes at code) → (y : IsBadUnit s id bytes at' code')
    → length x.front ≡ length y.front → (at ≡ at') × (code ≡ code')
bad_same s id bytes at at' code code' x y same =
    let c = cut_same x.front (x.unit ++ x.rest) y.front (y.unit ++ y.rest) (sym x.parts ∙ y.parts) same in
    let d = cut_same x.unit x.rest y.unit y.rest c.1 (x.wide ∙ sym y.wide) in
    let a = x.cause x.begins.1.0 x.begins.0 x.begins.1.1 x.begins.1.2 in
    let b = y.cause x.begins.1.0 x.begins.0 x.begins.1.1 (ap (λ t. t ++ x.begins.0) (sym c.0)
    ∙ x.begins.1.2) in
    let la : length x.front ≡ 4 * length a.before = a.place in
    let lb : length y.front ≡ 4 * length b.before = b.place in
    let found = cut_same a.before (a.role ∷ a.after) b.before (b.role ∷ b.after)
    (sym a.units_are ∙ b.units_are) (omega arith) in
    let role : a.role ≡ b.role = same_role a.role b.role a.after b.after found.1 in
    let fault : fault_of s a.role x.unit ≡ Some code' = ap (λ t. fault_of s t x.unit) role
    ∙ ap (λ t. fault_of s b.role t) d.0 ∙ b.fault in
    (x.place ∙ same ∙ sym y.place, same_code code code' (fault_of s a.role x.unit) a.fault fault)

bad_bad : (s : Schema) (id : TypeId) (bytes : List ℕ) (at at' : ℕ) (code code' : ReadCode)
    → IsBadUnit s id bytes at code → IsBadUnit s id bytes at' code' → (at ≡ at') × (code ≡ code')
bad_bad s id bytes at at' code code' x y =
    elim (cases_lt (length x.front) (length y.front)) [
      | inl lt ↦ absurd (not_shorter s id bytes at at' code code' x y lt)
      | inr le ↦ elim (cases_lt (length y.front) (length x.front)) [
        | inl lt ↦ absurd (not_shorter s id bytes at' at code' code y x lt)
        | inr more ↦ bad_same s id bytes at at' code code' x y (omega arith)
      ]
    ]

bad_cut : (s : Schema) (id : TypeId) (bytes : List ℕ) (at at' : ℕ) (code : ReadCode)
    → IsBadUnit s id bytes at code → IsTruncated s id bytes at' → ⊥
bad_cut s id bytes at at' code x y =
    elim (cases_lt (length x.front) (length y.front)) [
      | inl lt ↦ not_behind s id bytes at y.units code y.front y.tail x y.parts y.whole y.begins lt
      | inr le ↦ (
          let one : length bytes ≡ length x.front + length (x.unit ++ x.rest) = ap length x.parts
          ∙ length-append x.front (x.unit ++ x.rest) in
          let two : length bytes ≡ length y.front + length y.tail = ap length y.parts
          ∙ length-append y.front y.tail in
          let l = length-append x.unit x.rest in let w = x.wide in let p = y.part in omega arith)
    ]

behind_same : (s : Schema) (id : TypeId) (bytes : List ℕ) (at at' : ℕ) → HasTrailing s id bytes at
    → HasTrailing s id bytes at' → at ≡ at'
behind_same s id bytes at at' x y =
    let one = same_value s id x.front y.front x.more y.more x.is_encoding.0 y.is_encoding.0 x.is_encoding.1
    y.is_encoding.1 x.is_encoding.2 y.is_encoding.2 (sym x.parts ∙ y.parts) in
    let fronts : x.front ≡ y.front = x.is_encoding.2 ∙ ap enc one.0 ∙ sym y.is_encoding.2 in
    x.place ∙ ap length fronts ∙ sym y.place

-- want of memory aside
pub one_refusal : (s : Schema) (id : TypeId) (bytes : List ℕ) (at at' : ℕ) (code code' : ReadCode)
    → (code ≡ NoMemory → ⊥) → (code' ≡ NoMemory → ⊥)
    → IsReadFault s id bytes at code → IsReadFault s id bytes at' code' → (at ≡ at') × (code ≡ code')
one_refusal s id bytes at at' code code' m n (no_memory_left c z) y = absurd (m c)
one_refusal s id bytes at at' code code' m n x (no_memory_left d z) = absurd (n d)
one_refusal s id bytes at at' code code' m n (trailing c x) (trailing d y) =
    (behind_same s id bytes at at' x y, c ∙ sym d)
one_refusal s id bytes at at' code code' m n (trailing c x) (bad_unit y) =
    absurd (y.none x.front x.more x.parts x.is_encoding)
one_refusal s id bytes at at' code code' m n (trailing c x) (cut_short d y) =
    absurd (y.none x.front x.more x.parts x.is_encoding)
one_refusal s id bytes at at' code code' m n (bad_unit x) (trailing d y) =
    absurd (x.none y.front y.more y.parts y.is_encoding)
one_refusal s id bytes at at' code code' m n (bad_unit x) (bad_unit y) =
    bad_bad s id bytes at at' code code' x y
one_refusal s id bytes at at' code code' m n (bad_unit x) (cut_short d y) =
    absurd (bad_cut s id bytes at at' code x y)
one_refusal s id bytes at at' code code' m n (cut_short c x) (trailing d y) =
    absurd (x.none y.front y.more y.parts y.is_encoding)
one_refusal s id bytes at at' code code' m n (cut_short c x) (bad_unit y) =
    absurd (bad_cut s id bytes at' at code' y x)
one_refusal s id bytes at at' code code' m n (cut_short c x) (cut_short d y) =
    (x.place ∙ sym y.place, c ∙ sym d)

-- ---- a value

pub one_showing : (s : Schema) (id : TypeId) (bytes : List ℕ) (shown shown' : List Node)
    → IsShown s id bytes shown → IsShown s id bytes shown' → shown ≡ shown'
one_showing s id bytes shown shown' x y =
    let one = same_value s id bytes bytes [] [] x.0 y.0 x.1 y.1 x.2 y.2
    (ap (λ t. t ++ []) (sym (append-nil bytes)) ∙ ap (λ t. t ++ []) (append-nil bytes)) in
    x.3 ∙ ap (nodes s (root_job s id).layout (root_job s id).spot) one.0 ∙ sym y.3

none_behind : (s : Schema) (id : TypeId) (bytes front more : List ℕ) → 0 < length more → bytes ≡ front ++ more
    → IsEncoding s id front → IsEncoding s id bytes → ⊥
none_behind s id bytes front more some parts x y =
    let one = same_value s id front bytes more [] x.0 y.0 x.1 y.1 x.2 y.2
    (sym parts ∙ sym (append-nil bytes)) in
    let none : length more ≡ 0 = ap length one.1 in
    omega (arith, some, none)

pub not_both : (s : Schema) (id : TypeId) (bytes : List ℕ) (at : ℕ) (code : ReadCode) → (code ≡ NoMemory → ⊥)
    → IsEncoding s id bytes → IsReadFault s id bytes at code → ⊥
not_both s id bytes at code m v (no_memory_left c z) = m c
not_both s id bytes at code m v (trailing c x) =
    none_behind s id bytes x.front x.more x.some x.parts x.is_encoding v
not_both s id bytes at code m v (bad_unit x) = x.none bytes [] (sym (append-nil bytes)) v
not_both s id bytes at code m v (cut_short c x) = x.none bytes [] (sym (append-nil bytes)) v
