-- What a sound schema says of the forms in it.
use Rattle.std.proofs.Common.{◌≡◌, ℕ, ◌<◌, length, sym, ap, subst, ◌∙◌, arith}
use Rattle.x_schema.specs.declared.form.Field.{Field}
use Rattle.x_schema.specs.declared.form.Form.{Form}
use Rattle.x_schema.specs.declared.form.Form.TheVariants.{Union}
use Rattle.x_schema.specs.Choices.{Choice}
use Rattle.x_schema.specs.Schema.{Schema, form_at}
use Rattle.x_schema.specs.Sound.{IsSound, IsSoundForm, IsSoundUnion}
use Rattle.std.specs.Prelude.{Option}
use Rattle.x_value.specs.declared.fault.ReadCode.{ReadCode}
use Rattle.x_value.specs.Layouts.{layout_at, layout_of, head_fault}

pub sound_union : (s : Schema) (i : ℕ) (f : Form) (d : Field) (c : Choice) → IsSound s → i < length s.forms
    → f ≡ form_at s i → f ≡ Union d c → IsSoundUnion s i d c
sound_union s i f d c sound lt e is = subst (IsSoundForm s i) (sym e ∙ is) (sound.forms i lt)

pub union_known : (s : Schema) (i : ℕ) (f : Form) (d : Field) (c : Choice) → IsSound s → i < length s.forms
    → f ≡ form_at s i → f ≡ Union d c → d.form < length s.forms
union_known s i f d c sound lt e is =
    let u = sound_union s i f d c sound lt e is in omega (arith, lt, u.discriminates.form)

-- what may not stand before a value of a form
pub fault_at : (s : Schema) (i : ℕ) (f g : Form) (links w : ℕ) (r : Option ReadCode) → f ≡ form_at s i → f ≡ g
    → r ≡ head_fault s (layout_of s g) links w → r ≡ head_fault s (layout_at s i) links w
fault_at s i f g links w r e is h = h ∙ ap (λ t. head_fault s (layout_of s t) links w) (sym is ∙ e)
