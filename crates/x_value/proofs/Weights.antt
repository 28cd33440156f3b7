-- The work that is left falls with each step.
use Rattle.std.proofs.Common.{◌≡◌, ℕ, zero, suc, ◌+◌, ◌-◌, ◌*◌, ◌^◌, ◌<◌, ◌≤◌, List, [], ◌∷◌, ◌++◌, length}
use Rattle.std.proofs.Common.{drop, refl, ap, arith}
use Rattle.std.proofs.Math.Nat.{mul-le-mul_left, mul-le-mul_right, pow-succ', one-le-pow, pow-le-pow_right}
use Rattle.std.proofs.Common.{get_or}
use Rattle.x_schema.specs.declared.form.Field.{Field}
use Rattle.x_schema.specs.declared.form.Form.{Form}
use Rattle.x_schema.specs.declared.form.Form.TheVariants as forms
use Rattle.x_schema.specs.Schema.{Schema, form_at}
use Rattle.x_value.specs.declared.reading.task.Spot as compact
use Rattle.x_value.specs.declared.reading.task.Task.{Task}
use Rattle.x_value.specs.declared.reading.task.Task.TheVariants.{One, Fields, Elements}
use Rattle.x_value.specs.Work.{fields, field_count, base, weight, most_weight, weights, work}

base_pos : (s : Schema) → 1 ≤ base s
unfolding base
base_pos s = omega arith

pub power_pos : (s : Schema) (i : ℕ) → 1 ≤ base s ^ i
power_pos s i = one-le-pow i (base s) (base_pos s)

pub power_le : (s : Schema) (i j : ℕ) → i ≤ j → base s ^ i ≤ base s ^ j
power_le s i j le = pow-le-pow_right {n = base s} (base_pos s) {i = i} {j = j} le

all_left : (n : ℕ) → n - 0 ≡ n
all_left n = omega arith

pub light_one : (s : Schema) (of : ℕ) (spot : compact.Spot) → of < length s.forms
    → weight s (One of spot) < most_weight s
unfolding weight most_weight
light_one s of spot lt = let p = power_le s (suc of) (length s.forms) (omega arith) in omega arith

pub light_elements : (s : Schema) (of w level links : ℕ) → of < length s.forms → w < 2 ^ 32
    → weight s (Elements of 0 w level links) < most_weight s
unfolding weight most_weight
light_elements s of w level links lt fits =
    let p = power_le s (suc of) (length s.forms) (omega arith) in
    let more : w * suc (base s ^ suc of) ≤ 2 ^ 32 * suc (base s ^ suc of) =
    mul-le-mul_right (suc (base s ^ suc of)) (omega arith) in
    let all : (w - 0) * suc (base s ^ suc of) ≡ w * suc (base s ^ suc of) =
    ap (λ t. t * suc (base s ^ suc of)) (all_left w) in
    omega arith

pub light_none : (s : Schema) → 0 < most_weight s
unfolding most_weight
light_none s = omega arith

pub some_weight : (s : Schema) (id : ℕ) → 0 < base s ^ suc id
some_weight s id = power_pos s (suc id)

field_count_in : (fs : List Form) (i : ℕ) → length (fields (get_or fs i forms.Void)) ≤ field_count fs
field_count_in [] i = omega arith
field_count_in (f ∷ fs) zero = omega arith
field_count_in (f ∷ fs) (suc i) = let h = field_count_in fs i in omega arith

struct_bound : (l f b x : ℕ) → l ≤ f → b ≡ 2 ^ 34 + 2 * f → 1 ≤ x → suc (l * suc x) < b * x
struct_bound l f b x le e pos =
    let one : l * x ≤ f * x = mul-le-mul_right x le in
    let two : f * 1 ≤ f * x = mul-le-mul_left f pos in
    let all : b * x ≡ (2 ^ 34 + 2 * f) * x = ap (λ t. t * x) e in
    omega arith

elements_bound : (n f b x : ℕ) → n < 2 ^ 32 → b ≡ 2 ^ 34 + 2 * f → 1 ≤ x → suc (n * suc x) < b * x
elements_bound n f b x le e pos =
    let one : n * suc x ≤ 2 ^ 32 * suc x = mul-le-mul_right (suc x) (omega arith) in
    let two : 2 ^ 34 * x ≤ b * x = mul-le-mul_right x (omega arith) in
    omega arith

pub light_struct : (s : Schema) (id level links : ℕ) → weight s (Fields id 0 level links) < base s ^ suc id
unfolding weight base
light_struct s id level links =
    let p : base s ^ suc id ≡ base s * base s ^ id = pow-succ' (base s) id in
    let h = struct_bound (length (fields (form_at s id))) (field_count s.forms) (base s) (base s ^ id)
    (field_count_in s.forms id) refl (power_pos s id) in
    omega arith

pub light_array : (s : Schema) (id of n level links : ℕ) → of < id → n < 2 ^ 32
    → weight s (Elements of 0 n level links) < base s ^ suc id
unfolding weight base
light_array s id of n level links lt fits =
    let p : base s ^ suc id ≡ base s * base s ^ id = pow-succ' (base s) id in
    let le = power_le s (suc of) id (omega arith) in
    let less : n * suc (base s ^ suc of) ≤ n * suc (base s ^ id) = mul-le-mul_left n (omega arith) in
    let all : (n - 0) * suc (base s ^ suc of) ≡ n * suc (base s ^ suc of) =
    ap (λ t. t * suc (base s ^ suc of)) (all_left n) in
    let h = elements_bound n (field_count s.forms) (base s) (base s ^ id) fits refl (power_pos s id) in
    omega arith

pub fields_step : (s : Schema) (id next level links : ℕ) (f : ℕ) (spot : compact.Spot) (x : Field)
    → drop next (fields (form_at s id)) ≡ x ∷ drop (suc next) (fields (form_at s id)) → f < id →
    weight s (Fields id (suc next) level links) + weight s (One f spot)
    < weight s (Fields id next level links)
unfolding weight
fields_step s id next level links f spot x e lt =
    let p = power_le s (suc f) id (omega arith) in
    let l : length (drop next (fields (form_at s id)))
    ≡ suc (length (drop (suc next) (fields (form_at s id)))) = ap length e in
    let m = ap (λ t. t * suc (base s ^ id)) l in
    omega arith

pub elements_step : (s : Schema) (id next end level links : ℕ) (spot : compact.Spot) → next < end
    → weight s (Elements id (suc next) end level links) + weight s (One id spot)
    < weight s (Elements id next end level links)
unfolding weight
elements_step s id next end level links spot lt =
    let e : end - next ≡ suc (end - suc next) = omega arith in
    let m : (end - next) * suc (base s ^ suc id) ≡ suc (end - suc next) * suc (base s ^ suc id) =
    ap (λ t. t * suc (base s ^ suc id)) e in
    omega arith

pub weights_append : (s : Schema) (a b : List Task) → weights s (a ++ b) ≡ weights s a + weights s b
weights_append s [] b = omega arith
weights_append s (t ∷ a) b = let h = weights_append s a b in omega arith

-- ---- the work that is left

pub work_same : (s : Schema) (bytes : List ℕ) (a b : List Task) → weights s b < weights s a
    → work s bytes b < work s bytes a
unfolding work
work_same s bytes a b lt = omega arith

pub work_at_most : (s : Schema) (bytes : List ℕ) (a b : List Task) → weights s b ≤ weights s a
    → work s bytes b ≤ work s bytes a
unfolding work
work_at_most s bytes a b le = omega arith

pub work_read : (s : Schema) (bytes rest : List ℕ) (a b : List Task) → length rest < length bytes
    → weights s b < weights s a + most_weight s → work s rest b < work s bytes a
unfolding work
work_read s bytes rest a b lt h =
    let p : most_weight s * suc (length rest) ≤ most_weight s * length bytes =
    mul-le-mul_left (most_weight s) lt in
    omega arith

pub fields_weight : (s : Schema) (id next level links : ℕ) → 0 < weight s (Fields id next level links)
unfolding weight
fields_weight s id next level links = omega arith

pub elements_weight : (s : Schema) (id next end level links : ℕ)
    → 0 < weight s (Elements id next end level links)
unfolding weight
elements_weight s id next end level links = omega arith

pub work_not_more : (s : Schema) (bytes rest : List ℕ) (a b : List Task) → length rest ≤ length bytes
    → weights s b < weights s a → work s rest b < work s bytes a
unfolding work
work_not_more s bytes rest a b le lt =
    let p : most_weight s * length rest ≤ most_weight s * length bytes = mul-le-mul_left (most_weight s) le in
    omega arith
