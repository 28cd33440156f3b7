-- Each type of a sound schema has a value, also where no more links may be opened.
use Rattle.std.proofs.Common.{lit<, ◌≡◌, ℕ, zero, suc, ◌<◌, ◌≤◌, List, [], ◌∷◌, length, refl, arith, Bool}
use Rattle.std.proofs.Common.{true, false}
use Rattle.std.specs.Prelude.{Option, Some, None, nat_lt, is_some, if◌then◌else◌}
use Rattle.std.proofs.lemmas.Bool.Decides.{nat_tests}
use Rattle.x_schema.specs.declared.form.Arm.{Arm}
use Rattle.x_schema.specs.declared.form.Arm.TheVariants as arms
use Rattle.x_schema.specs.declared.form.Field.{Field}
use Rattle.x_schema.specs.declared.form.Form.{Form}
use Rattle.x_schema.specs.declared.form.Form.TheVariants as forms
use Rattle.x_schema.specs.Choices.{arm_for}
use Rattle.x_schema.specs.Schema.{Schema, form_at}
use Rattle.x_schema.specs.Sound.{is_legal, AreSoundFields, IsSoundArm, IsSoundForm, IsSound}
use Rattle.x_value.specs.declared.fault.ReadCode.{ReadCode}
use Rattle.x_value.specs.declared.fault.ReadCode.TheVariants as codes
use Rattle.x_value.specs.Values.{Value, Values, body, group, headed, end, more}
use Rattle.x_units.specs.Units.{copies}
use Rattle.x_value.specs.Layouts.{Layout, Fixed, Fields, Elements, Flag, Named, Sized, Counted, Optional}
use Rattle.x_value.specs.Layouts.{Chosen, Spot, Job, layout_of, layout_at, field_job, field_jobs}
use Rattle.x_value.specs.Layouts.{element_jobs, arm_jobs, job, arm_fault, illegal_code}
use Rattle.x_value.specs.Shown.{Index}
use Rattle.x_value.specs.Readings.{Fits, Suits}
use Rattle.x_value.specs.Jobs.{IsSoundLayout, IsReady, AreReady}
use Rattle.x_value.proofs.Bytes.{copies_length, IsByteList-zeros}

-- ---- the layouts of a sound schema are sound

pub layout_sound_of : (s : Schema) (i : ℕ) (f : Form) → IsSound s → IsSoundForm s i f
    → IsSoundLayout s i (layout_of s f)
layout_sound_of s i forms.Void sound h = tt
layout_sound_of s i forms.Int sound h = tt
layout_sound_of s i forms.UnsignedInt sound h = tt
layout_sound_of s i forms.Hyper sound h = tt
layout_sound_of s i forms.UnsignedHyper sound h = tt
layout_sound_of s i forms.Float sound h = tt
layout_sound_of s i forms.Double sound h = tt
layout_sound_of s i forms.Quadruple sound h = tt
layout_sound_of s i forms.Bool sound h = tt
layout_sound_of s i (forms.Enum names) sound h = h
layout_sound_of s i (forms.FixedOpaque n) sound h = tt
layout_sound_of s i (forms.Opaque most) sound h = tt
layout_sound_of s i (forms.String most) sound h = tt
layout_sound_of s i (forms.FixedArray of n) sound h = h
layout_sound_of s i (forms.Array link most) sound h = sound.links link h
layout_sound_of s i (forms.Optional link) sound h = sound.links link h
layout_sound_of s i (forms.Struct fields) sound h = h
layout_sound_of s i (forms.Union discriminant choice) sound h = h

pub layout_sound : (s : Schema) (i : ℕ) → IsSound s → i < length s.forms → IsSoundLayout s i (layout_at s i)
layout_sound s i sound lt = layout_sound_of s i (form_at s i) sound (sound.forms i lt)

pub ready_at : (s : Schema) (i : ℕ) → IsSound s → i < length s.forms → IsReady s (layout_at s i)
ready_at s i sound lt = (i, omega arith, layout_sound s i sound lt)

-- ---- tests

pub lt_true : (a b : ℕ) → a < b → nat_lt a b ≡ true
lt_true a b h = grind (arith, nat_tests)

pub lt_false : (a b : ℕ) → b ≤ a → nat_lt a b ≡ false
lt_false a b h = grind (arith, nat_tests)

abbrev no_code : Option ReadCode
no_code = None

abbrev some_code : ReadCode → Option ReadCode
some_code c = Some c

chosen_fine : (legal : Bool) (arm : Option Arm) (c : ReadCode) → legal ≡ true → is_some arm ≡ true
    → (if legal then arm_fault arm else some_code c) ≡ no_code
chosen_fine true (Some a) c e f = refl
chosen_fine true None c e f = absurd cc
chosen_fine false arm c e f = absurd cc

sized_none : (most : ℕ) → (if nat_lt most 0 then some_code codes.TooMany else no_code) ≡ no_code
sized_none most = rw (lt_false most 0 (omega arith)) refl

-- ---- values

abbrev SomeBelow : Schema → ℕ → Type 0
SomeBelow s i = (j : ℕ) → j < i → (q : Spot) → (v : Value) × Fits s (layout_at s j) q v

some_fields : (s : Schema) (n i level links : ℕ) (fs : List Field) → AreSoundFields n i fs → SomeBelow s i
    → (vs : Values) × Suits s (field_jobs s level links fs) vs
some_fields s n i level links [] h below = (end, tt)
some_fields s n i level links (f ∷ fs) h below =
    let one = below f.form h.0.form (field_job s level links f).spot in
    let rest = some_fields s n i level links fs h.1 below in
    (more one.0 rest.0, (one.1, rest.1))

some_elements : (s : Schema) (of level links at n : ℕ)
    → ((q : Spot) → (v : Value) × Fits s (layout_at s of) q v)
    → (vs : Values) × Suits s (element_jobs s of level links at n) vs
some_elements s of level links at zero one = (end, tt)
some_elements s of level links at (suc n) one =
    let first = one (job (layout_at s of) (Index at) level links).spot in
    let rest = some_elements s of level links (suc at) n one in
    (more first.0 rest.0, (first.1, rest.1))

some_arm : (s : Schema) (n i level links : ℕ) (arm : Option Arm)
    → ((a : Arm) → arm ≡ Some a → IsSoundArm n i a) → SomeBelow s i
    → (vs : Values) × Suits s (arm_jobs s level links arm) vs
some_arm s n i level links (Some (arms.Of f)) h below =
    let sound = h (arms.Of f) refl in
    let one = below f.form sound.form (field_job s level links f).spot in
    (more one.0 end, (one.1, tt))
some_arm s n i level links (Some arms.Void) h below = (end, tt)
some_arm s n i level links None h below = (end, tt)

some_of : (s : Schema) (l : Layout) (i : ℕ) (p : Spot) → IsSoundLayout s i l → SomeBelow s i
    → (v : Value) × Fits s l p v
some_of s (Fixed leaf n) i p sound below = (body (copies n 0), (copies_length n 0, IsByteList-zeros n))
some_of s (Fields fs) i p sound below =
    let each = some_fields s (length s.names) i (suc p.level) p.links fs sound below in
    (group each.0, (tt, each.1))
some_of s (Elements of n) i p sound below =
    let each = some_elements s of (suc p.level) p.links 0 n (below of sound) in (group each.0, (tt, each.1))
some_of s Flag i p sound below = (headed 0 end, (tt, lit< tt, refl, tt))
some_of s (Named names) i p sound below =
    (headed sound.word end, (tt, sound.fits, (let e = sound.some in rw e refl), tt))
some_of s (Sized leaf most) i p sound below =
    (headed 0 (more (body []) end), (tt, lit< tt, sized_none most, ((refl, tt), tt)))
some_of s (Counted of most) i p sound below =
    (headed 0 end, (tt, lit< tt, (rw (lt_false most 0 (omega arith)) refl), tt))
some_of s (Optional of) i p sound below = (headed 0 end, (tt, lit< tt, refl, tt))
some_of s (Chosen d choice) i p sound below =
    let each = some_arm s (length s.names) i (suc p.level) p.links (arm_for choice sound.word)
    (sound.arms sound.word) below in (
      headed sound.word each.0,
      (
        tt,
        sound.fits,
        chosen_fine (is_legal (form_at s d.form) sound.word) (arm_for choice sound.word)
            (illegal_code (form_at s d.form)) sound.legal sound.chosen,
        each.1,
      ),
    )

some_below : (s : Schema) (k : ℕ) → IsSound s → (i : ℕ) → i < length s.forms → i < k → (p : Spot)
    → (v : Value) × Fits s (layout_at s i) p v
some_below s zero sound i lt b p = absurd (omega arith)
some_below s (suc k) sound i lt b p =
    some_of s (layout_at s i) i p (layout_sound s i sound lt)
    (λ j l q. some_below s k sound j (omega arith) (omega arith) q)

-- every type has a value that fits with as many links open as may be
pub some_value : (s : Schema) (i : ℕ) (p : Spot) → IsSound s → i < length s.forms
    → (v : Value) × Fits s (layout_at s i) p v
some_value s i p sound lt = some_below s (suc i) sound i lt (omega arith) p

pub some_ready : (s : Schema) (l : Layout) (p : Spot) → IsSound s → IsReady s l → (v : Value) × Fits s l p v
some_ready s l p sound r = some_of s l r.0 p r.2 (λ j lt q. some_value s j q sound (omega (arith, r.1)))

pub some_values : (s : Schema) (js : List Job) → IsSound s → AreReady s js → (vs : Values) × Suits s js vs
some_values s [] sound ready = (end, tt)
some_values s (j ∷ js) sound ready =
    let one = some_ready s j.layout j.spot sound ready.0 in
    let rest = some_values s js sound ready.1 in
    (more one.0 rest.0, (one.1, rest.1))
