-- How many bytes the values of a type take at least (RFC 4506, section 4), and whether each takes so many. A
-- number stays at the greatest of 64 bits.
use Rattle.std.specs.Prelude.{ℕ, zero, suc, ◌+◌, ◌-◌, ◌*◌, ◌%◌, ◌^◌, ◌==◌, ◌&&◌, ◌||◌, Bool, true, false, min}
use Rattle.std.specs.Prelude.{List, [], ◌∷◌, ◌++◌, Option, None, Some, option_map, slice_get, codes}
use Rattle.std.specs.Prelude.{decimal}
use Rattle.x_schema.specs.Choices.{Choice}
use Rattle.x_schema.specs.Schema.{Schema, form_at}
use Rattle.x_schema.specs.declared.form.Arm.{Arm}
use Rattle.x_schema.specs.declared.form.Arm.TheVariants as arms
use Rattle.x_schema.specs.declared.form.Field.{Field}
use Rattle.x_schema.specs.declared.form.Form.{Form}
use Rattle.x_schema.specs.declared.form.Form.TheVariants as forms
use Rattle.x_lookups.specs.declared.sizes.Size.{Size}

abbrev pub in_64_bits : ℕ → ℕ
in_64_bits bytes = min bytes (2 ^ 64 - 1)

abbrev pub always : ℕ → Size
always bytes = record { least = bytes; fixed = true }

-- bytes with their padding
abbrev pub padded : ℕ → ℕ
padded bytes = bytes + (4 - bytes % 4) % 4

-- a count of at most so many values, and these
abbrev pub counted_size : ℕ → Size
counted_size most = record { least = 4; fixed = most == 0 }

-- both, one behind the other
abbrev pub both : Size → Size → Size
both a b = record { least = in_64_bits (a.least + b.least); fixed = a.fixed && b.fixed }

-- one of them
abbrev pub either : Size → Size → Size
either a b = record { least = min a.least b.least; fixed = (a.fixed && b.fixed) && a.least == b.least }

-- so many of it
abbrev pub times : Size → ℕ → Size
times a count = record { least = in_64_bits (a.least * count); fixed = a.fixed || count == 0 }

-- ---- of forms, by the sizes of those before them

abbrev pub or_nothing : Option Size → Size
or_nothing None = always 0
or_nothing (Some size) = size

abbrev pub size_at : List Size → ℕ → Size
size_at sizes form = or_nothing (slice_get sizes form)

-- what stands in front, and then the fields of a struct
abbrev pub with_fields : List Size → Size → List Field → Size
with_fields sizes size [] = size
with_fields sizes size (f ∷ fs) = with_fields sizes (both size (size_at sizes f.form)) fs

abbrev pub arm_size : List Size → Arm → Size
arm_size sizes arms.Void = always 0
arm_size sizes (arms.Of field) = size_at sizes field.form

-- what was found of a union so far, or one arm more
abbrev pub with_arm : List Size → Option Size → Arm → Size
with_arm sizes None arm = arm_size sizes arm
with_arm sizes (Some size) arm = either size (arm_size sizes arm)

-- or the arm of one case more, if there is one
abbrev pub with_case : List Size → Option Size → Option (ℕ × Arm) → Option Size
with_case sizes size None = size
with_case sizes size (Some c) = Some (with_arm sizes size c.1)

abbrev pub with_cases : List Size → Option Size → List (ℕ × Arm) → Option Size
with_cases sizes size [] = size
with_cases sizes size (c ∷ cs) = with_cases sizes (with_case sizes size (Some c)) cs

-- what stands behind the discriminant of a union: an arm of it
abbrev pub choice_size : List Size → Choice → Size
choice_size sizes choice =
    or_nothing (with_cases sizes (option_map (arm_size sizes) choice.default) choice.cases)

abbrev pub form_size : List Size → Form → Size
form_size sizes forms.Void = always 0
form_size sizes forms.Int = always 4
form_size sizes forms.UnsignedInt = always 4
form_size sizes forms.Hyper = always 8
form_size sizes forms.UnsignedHyper = always 8
form_size sizes forms.Float = always 4
form_size sizes forms.Double = always 8
form_size sizes forms.Quadruple = always 16
form_size sizes forms.Bool = always 4
form_size sizes (forms.Enum names) = always 4
form_size sizes (forms.FixedOpaque n) = always (padded n)
form_size sizes (forms.Opaque most) = counted_size most
form_size sizes (forms.String most) = counted_size most
form_size sizes (forms.FixedArray of n) = times (size_at sizes of) n
form_size sizes (forms.Array link most) = counted_size most
form_size sizes (forms.Optional link) = record { least = 4; fixed = false }
form_size sizes (forms.Struct fields) = with_fields sizes (always 0) fields.items
form_size sizes (forms.Union discriminant choice) =
    both (size_at sizes discriminant.form) (choice_size sizes choice)

-- the sizes of the first so many forms
abbrev pub sizes_of : Schema → ℕ → List Size
sizes_of s zero = []
sizes_of s (suc n) = sizes_of s n ++ form_size (sizes_of s n) (form_at s n) ∷ []

abbrev pub size_of : Schema → ℕ → Size
size_of s form = form_size (sizes_of s form) (form_at s form)

-- in words
abbrev pub told_as : (fixed : Bool) → (bytes : ℕ) → List ℕ
told_as true bytes = decimal bytes ++ codes " bytes"
told_as false bytes = codes "at least " ++ decimal bytes ++ codes " bytes"

abbrev pub size_text : Size → List ℕ
size_text size = told_as size.fixed size.least
