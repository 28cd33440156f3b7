-- Two schemas of the same definitions show bytes in the same way.
use Rattle.std.proofs.Common.{◌≡◌, ℕ, ◌*◌, List, [], ◌++◌, Option, None, Some, refl, sym, ap, subst, ◌∙◌}
use Rattle.std.specs.Prelude.{option_map}
use Rattle.std.specs.Map.{lookup}
use Rattle.std.specs.Str.{bytes_eq}
use Rattle.x_trees.specs.Tree.{Definition}
use Rattle.x_schema.specs.Schema.{Schema, form_at, id_named, type_id}
use Rattle.x_schema.specs.SchemaOf.{numbers_of}
use Rattle.x_schema.specs.Schemas.{IsSchemaOf}
use Rattle.x_schema.specs.declared.schema.NamedType.{NamedType}
use Rattle.x_schema.specs.declared.schema.TypeId.{TypeId}
use Rattle.x_schema.specs.declared.form.Form.TheVariants as forms
use Rattle.x_value.specs.declared.fault.ReadCode.{ReadCode}
use Rattle.x_value.specs.Values.{Value}
use Rattle.x_value.specs.Readings.{Fits, roles, nodes}
use Rattle.x_value.specs.Dumps.{root_label, root_job, IsOf, IsEncoding, IsShown, BeginsEncoding}
use Rattle.x_value.specs.Dumps.{NoFrontIsEncoding, IsCause, IsBadUnit, IsTruncated, IsReadFault}
use Rattle.x_value.specs.Dumps.{no_memory_left, trailing, bad_unit, cut_short}
use Rattle.x_value.specs.Shown.{Node, Name}
use Rattle.x_laws.specs.Showing.{ShowsAlike}
use Rattle.x_laws.proofs.Alike.{Alike}
use Rattle.x_laws.proofs.AlikeValues.{AreTypesAlike, layout_alike, fits_alike, same_nodes, roles_alike}
use Rattle.x_laws.proofs.AlikeValues.{same_at}
use Rattle.x_laws.proofs.AlikeSchemas.{AlikeFound, AlikeTables, found_alike, known_alike, leaf_placed}
use Rattle.x_laws.proofs.AlikeSchemas.{types_alike}

-- ---- types of two schemas

-- the types are alike either way, and are called the same
pub record AlikeIds (s t : Schema) (a b : TypeId) : Type 0 where
  pub all : AreTypesAlike s t
  pub back : AreTypesAlike t s
  pub form : Alike s t a.form b.form
  pub form_back : Alike t s b.form a.form
  pub labels : root_label s a.root ≡ root_label t b.root

turned : (s t : Schema) (a b : TypeId) → AlikeIds s t a b → AlikeIds t s b a
turned s t a b h = record
    { all = h.back; back = h.all; form = h.form_back; form_back = h.form; labels = sym h.labels }

same_place : (s t : Schema) (a b : TypeId) → AlikeIds s t a b → (root_job s a).spot ≡ (root_job t b).spot
same_place s t a b h = ap (λ l. record { label = l; level = 0; links = 0 }) h.labels

of_other : (s t : Schema) (a b : TypeId) (v : Value) → AlikeIds s t a b → IsOf s a v → IsOf t b v
of_other s t a b v h f =
    let layout = layout_alike s t (form_at s a.form) (form_at t b.form) h.all h.form in
    subst (λ p. Fits t (root_job t b).layout p v) (same_place s t a b h)
    (fits_alike s t (root_job s a).layout (root_job t b).layout (root_job s a).spot v h.all layout f)

nodes_other : (s t : Schema) (a b : TypeId) (v : Value) → AlikeIds s t a b
    → nodes s (root_job s a).layout (root_job s a).spot v ≡ nodes t (root_job t b).layout
    (root_job t b).spot v
nodes_other s t a b v h =
    let layout = layout_alike s t (form_at s a.form) (form_at t b.form) h.all h.form in
    same_nodes s t (root_job s a).layout (root_job t b).layout (root_job s a).spot v h.all layout
    ∙ ap (λ p. nodes t (root_job t b).layout p v) (same_place s t a b h)

encoding_other : (s t : Schema) (a b : TypeId) (bytes : List ℕ) → AlikeIds s t a b → IsEncoding s a bytes
    → IsEncoding t b bytes
encoding_other s t a b bytes h x = (x.0, of_other s t a b x.0 h x.1, x.2)

begins_other : (s t : Schema) (a b : TypeId) (front : List ℕ) → AlikeIds s t a b → BeginsEncoding s a front
    → BeginsEncoding t b front
begins_other s t a b front h x = (x.0, encoding_other s t a b (front ++ x.0) h x.1)

none_other : (s t : Schema) (a b : TypeId) (bytes : List ℕ) → AlikeIds s t a b → NoFrontIsEncoding s a bytes
    → NoFrontIsEncoding t b bytes
none_other s t a b bytes h x front rest e k = x front rest e
    (encoding_other t s b a front (turned s t a b h) k)

cause_other : (s t : Schema) (a b : TypeId) (front unit : List ℕ) (code : ReadCode) → AlikeIds s t a b
    → IsCause s a front unit code → IsCause t b front unit code
cause_other s t a b front unit code h x v y fits e =
    let why = x v y (of_other t s b a v (turned s t a b h) fits) e in
    let layout = layout_alike s t (form_at s a.form) (form_at t b.form) h.all h.form in
    let alike = roles_alike s t (root_job s a).layout (root_job t b).layout (root_job s a).spot
    (root_job t b).spot v h.all layout (same_place s t a b h) in
    let there = same_at s t (roles s (root_job s a).layout (root_job s a).spot v)
    (roles t (root_job t b).layout (root_job t b).spot v) why.before why.after why.role alike why.units_are in
    record {
      before = there.0;
      role = there.1;
      after = there.2;
      units_are = there.3;
      place = why.place ∙ ap (λ n. 4 * n) there.4;
      fault = sym (there.5 unit) ∙ why.fault;
    }

bad_other : (s t : Schema) (a b : TypeId) (bytes : List ℕ) (at : ℕ) (code : ReadCode) → AlikeIds s t a b
    → IsBadUnit s a bytes at code → IsBadUnit t b bytes at code
bad_other s t a b bytes at code h x = record {
  none = none_other s t a b bytes h x.none;
  front = x.front;
  unit = x.unit;
  rest = x.rest;
  parts = x.parts;
  place = x.place;
  wide = x.wide;
  begins = begins_other s t a b x.front h x.begins;
  ended = λ k. x.ended (begins_other t s b a (x.front ++ x.unit) (turned s t a b h) k);
  cause = cause_other s t a b x.front x.unit code h x.cause;
}

cut_other : (s t : Schema) (a b : TypeId) (bytes : List ℕ) (at : ℕ) → AlikeIds s t a b
    → IsTruncated s a bytes at → IsTruncated t b bytes at
cut_other s t a b bytes at h x = record {
  none = none_other s t a b bytes h x.none;
  place = x.place;
  front = x.front;
  tail = x.tail;
  parts = x.parts;
  units = x.units;
  whole = x.whole;
  part = x.part;
  begins = begins_other s t a b x.front h x.begins;
}

fault_other : (s t : Schema) (a b : TypeId) (bytes : List ℕ) (at : ℕ) (code : ReadCode) → AlikeIds s t a b
    → IsReadFault s a bytes at code → IsReadFault t b bytes at code
fault_other s t a b bytes at code h (no_memory_left c z) = no_memory_left c z
fault_other s t a b bytes at code h (trailing c x) = trailing c (record {
  front = x.front;
  more = x.more;
  parts = x.parts;
  some = x.some;
  is_encoding = encoding_other s t a b x.front h x.is_encoding;
  place = x.place;
})
fault_other s t a b bytes at code h (bad_unit x) = bad_unit (bad_other s t a b bytes at code h x)
fault_other s t a b bytes at code h (cut_short c x) = cut_short c (cut_other s t a b bytes at h x)

shown_other : (s t : Schema) (a b : TypeId) (bytes : List ℕ) (shown : List Node) → AlikeIds s t a b
    → IsShown s a bytes shown → IsShown t b bytes shown
shown_other s t a b bytes shown h x = (x.0, of_other s t a b x.0 h x.1, x.2, x.3 ∙ nodes_other s t a b x.0 h)

pub ids_show : (s t : Schema) (a b : TypeId) → AlikeIds s t a b → ShowsAlike s t a b
ids_show s t a b h = record {
  nodes = λ bytes shown x. shown_other s t a b bytes shown h x;
  refusals = λ bytes at code x. fault_other s t a b bytes at code h x;
}

-- ---- schemas of the same definitions

pub tables : (ds : List (Option Definition)) (s t : Schema) → IsSchemaOf ds s → IsSchemaOf ds t
    → AlikeTables s t s.types t.types
tables ds s t h k = types_alike s t (numbers_of ds) [] [] ds
    (leaf_placed s t 0 0 forms.Void tt h.void k.void) tt h.types k.types

pub all_alike : (ds : List (Option Definition)) (s t : Schema) → IsSchemaOf ds s → IsSchemaOf ds t
    → AreTypesAlike s t
all_alike ds s t h k = known_alike s t s.types t.types (leaf_placed s t 0 0 forms.Void tt h.void k.void)
    (tables ds s t h k)

named_showing : (s t : Schema) (x y : Option NamedType) (a : TypeId) → AreTypesAlike s t → AreTypesAlike t s
    → AlikeFound s t x y → AlikeFound t s y x
    → option_map type_id x ≡ Some a → (b : TypeId) × (option_map type_id y ≡ Some b) × ShowsAlike s t a b
named_showing s t None y a all back h k e = absurd cc
named_showing s t (Some m) None a all back h k e = absurd h
named_showing s t (Some m) (Some n) a all back h k e =
    let is : type_id m ≡ a = cc in (
      type_id n,
      refl,
      subst (λ i. ShowsAlike s t i (type_id n)) is
          (ids_show s t (type_id m) (type_id n) (record
          { all = all; back = back; form = h.form; form_back = k.form; labels = ap Name h.name })),
    )

pub types_show : (ds : List (Option Definition)) (s t : Schema) → IsSchemaOf ds s → IsSchemaOf ds t
    → (name : List ℕ) (a : TypeId) → id_named s name ≡ Some a
    → (b : TypeId) × (id_named t name ≡ Some b) × ShowsAlike s t a b
types_show ds s t h k name a e =
    named_showing s t (lookup (bytes_eq name) s.types) (lookup (bytes_eq name) t.types) a
    (all_alike ds s t h k) (all_alike ds t s k h)
    (found_alike s t name s.types t.types (tables ds s t h k))
    (found_alike t s name t.types s.types (tables ds t s k h)) e
