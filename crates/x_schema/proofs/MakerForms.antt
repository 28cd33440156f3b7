-- What each form of the grammar makes of a schema in the making.
use Rattle.std.proofs.Common.{◌≡◌, ℕ, ◌<◌, arith, true, false, map, length, get_or, List, [], ◌∷◌, ◌++◌}
use Rattle.std.proofs.Common.{Option, None, Some, refl, sym, ap, subst, ◌∙◌, append_assoc, append-nil}
use Rattle.std.specs.Global.{Global}
use Rattle.std.specs.declared.vec.Vec.{Vec}
use Rattle.std.specs.Map.{lookup}
use Rattle.std.specs.Option.{option_map_or}
use Rattle.std.specs.Str.{bytes_eq}
use Rattle.x_trees.specs.Tree as tree
use Rattle.x_trees.specs.declared.trees.declaration.Basic.{Basic}
use Rattle.x_trees.specs.declared.trees.declaration.Basic.TheVariants as basics
use Rattle.x_trees.specs.declared.names.mention.Use.TheVariants as uses
use Rattle.x_schema.specs.Schema.{Schema, form_at, name_at, target_at}
use Rattle.x_schema.specs.SchemaOf.{Known, Types, Numbers, AreFields, IsArmOf, IsBody, IsDeclared, IsType}
use Rattle.x_schema.specs.SchemaOf.{as_typedef, limit_in, size_in, basic_form, opaque_form, place_in}
use Rattle.x_schema.specs.SchemaOf.{place_named, typedefs_inside, typedefs_of, typedefs_of_fields}
use Rattle.x_trees.specs.Declarations.{is_void, name_of}
use Rattle.x_schema.specs.SchemaMaking.{Completes, IsGood, Puts, PutsAll, PutsPlace, PutsLink, AddsName}
use Rattle.x_schema.specs.SchemaMaking.{AddsForm, AddsLink, AddsFound, names_made, place_linked}
use Rattle.x_schema.specs.Sound.{IsSoundForm, IsSoundField, IsSoundArm, AreSoundFields}
use Rattle.x_schema.specs.declared.form.Arm.{Arm}
use Rattle.x_schema.specs.declared.form.Arm.TheVariants as arms
use Rattle.x_schema.specs.declared.form.Field.{Field}
use Rattle.x_schema.specs.declared.form.Form.{Form}
use Rattle.x_schema.specs.declared.form.Form.TheVariants as forms
use Rattle.x_schema.specs.declared.maker.Link.TheVariants as links
use Rattle.x_schema.specs.declared.maker.Maker.{Maker}
use Rattle.x_schema.specs.declared.schema.NamedType.{NamedType}
use Rattle.x_schema.proofs.MakerSteps.{behind_of, and_then, put_as, puts_none, puts_form, puts_link}
use Rattle.x_schema.proofs.MakerSteps.{puts_name, puts_found}
use Rattle.std.specs.Borrow.{Bor}

-- ---- a schema that a maker may end with

abbrev pub some_schema : Maker → Schema
some_schema m =
    record {
      names = names_made m;
      forms = m.forms.items;
      links = map (place_linked []) m.links.items;
      types = [];
      procedures = [];
    }

pub some_completes : (m : Maker) → Completes m (some_schema m)
some_completes m = record {
  names = record { rest = []; is = sym (append-nil (names_made m)) };
  forms = record { rest = []; is = sym (append-nil m.forms.items) };
  links = record { rest = []; is = sym (append-nil (map (place_linked []) m.links.items)) };
}

-- a place that is below every greatest number of forms
pub place_within : (known : Known) (a b : Maker) (N : List tree.Declaration)
    (P : ℕ → ℕ → Schema → Type 0) (place : ℕ)
    → Puts known a b N P → ((n i : ℕ) (s : Schema) → P n i s → place < i) → place < length b.forms.items
place_within known a b N P place p less =
    let s = some_schema b in
    less (length s.names) (length b.forms.items) s
    (p.is (length s.names) (length b.forms.items) s (behind_of b s (some_completes b)))

-- ---- what is found, and names

some_forms : (types : Types) (m : Maker) → IsGood types m → 0 < length m.forms.items
some_forms types m g =
    let long : length m.forms.items ≡ length (forms.Void ∷ g.void.rest) = ap length g.void.is in
    omega (arith, long)

pub named_within : (types : Types) (m : Maker) (name : List ℕ) → IsGood types m
    → place_named types name < length m.forms.items
named_within types m name g = by (lookup (bytes_eq name) types) refl
  where
    by : (o : Option NamedType) → lookup (bytes_eq name) types ≡ o
        → option_map_or (λ t. t.form) o 0 < length m.forms.items
    by None e = some_forms types m g
    by (Some t) e = (g.within name t e).0

pub void_there : (types : Types) (m : Maker) (s : Schema) → IsGood types m → Completes m s
    → form_at s 0 ≡ forms.Void
void_there types m s g c =
    ap (λ l. get_or l 0 forms.Void) (c.forms.is ∙ ap (λ l. l ++ c.forms.rest) g.void.is)

sound_basic : (s : Schema) (i : ℕ) (b : Basic) → IsSoundForm s i (basic_form b)
sound_basic s i basics.Int = tt
sound_basic s i basics.UnsignedInt = tt
sound_basic s i basics.Long = tt
sound_basic s i basics.UnsignedLong = tt
sound_basic s i basics.Hyper = tt
sound_basic s i basics.UnsignedHyper = tt
sound_basic s i basics.Unsigned = tt
sound_basic s i basics.Float = tt
sound_basic s i basics.Double = tt
sound_basic s i basics.Quadruple = tt
sound_basic s i basics.Bool = tt

pub held_basic : (known : Known) (a b : Maker) (basic : Basic) (place : ℕ)
    → AddsForm a b (basic_form basic) place
    → PutsPlace known a b [] place (λ s at. form_at s at ≡ basic_form basic)
held_basic known a b basic place add g =
    puts_form known a b (basic_form basic) place add g (λ s c. sound_basic s place basic)

pub held_named : (known : Known) (m : Maker) (name : List ℕ) (place : ℕ)
    → place ≡ place_named known.types name
    → PutsPlace known m m [] place (λ s at. at ≡ place_named known.types name)
held_named known m name place is g =
    puts_none known m (λ n i s. (place ≡ place_named known.types name) × (place < i)) g
    (λ n i s b. let le = b.forms in
    let lt : place < length m.forms.items = subst (λ p. p < length m.forms.items) (sym is)
    (named_within known.types m name g) in (is, omega (arith, le, lt)))

pub held_void : (known : Known) (m : Maker) → PutsPlace known m m [] 0 (λ s at. form_at s at ≡ forms.Void)
held_void known m g =
    puts_none known m (λ n i s. (form_at s 0 ≡ forms.Void) × (0 < i)) g
    (λ n i s b. let le = b.forms in let lt = some_forms known.types m g in
    (void_there known.types m s g b.completes, omega (arith, le, lt)))

sound_opaque : (s : Schema) (i : ℕ) (numbers : Numbers) (length : tree.Length)
    → IsSoundForm s i (opaque_form numbers length)
sound_opaque s i numbers (tree.Fixed v) = tt
sound_opaque s i numbers (tree.Variable v) = tt

pub held_opaque : (known : Known) (a b : Maker) (length : tree.Length) (place : ℕ)
    → AddsForm a b (opaque_form known.numbers length) place
    → PutsPlace known a b [] place (λ s at. form_at s at ≡ opaque_form known.numbers length)
held_opaque known a b length place add g = puts_form known a b (opaque_form known.numbers length) place add g
    (λ s c. sound_opaque s place known.numbers length)

pub held_string : (known : Known) (a b : Maker) (most place : ℕ) → AddsForm a b (forms.String most) place
    → PutsPlace known a b [] place (λ s at. form_at s at ≡ forms.String most)
held_string known a b most place add g = puts_form known a b (forms.String most) place add g (λ s c. tt)

-- ---- links

pub to_link : (known : Known) (a b c : Maker) (N : List tree.Declaration) (P : Schema → ℕ → Type 0)
    (place link : ℕ) → PutsPlace known a b N place P
    → AddsLink b c (links.To place) link → PutsLink known a c N link (λ s at. P s (target_at s at))
to_link known a b c N P place link p add g =
    let first = p g in
    let within = place_within known a b N (λ n i s. P s place × (place < i)) place first (λ n i s x. x.1) in
    and_then known a b c N [] N (λ n i s. P s place × (place < i))
    (λ n i s. (target_at s link ≡ place) × (link < length s.links))
    (λ n i s. P s (target_at s link) × (link < length s.links))
    (sym (append-nil N)) first (puts_link known b c (links.To place) link add first.good (within, tt))
    (λ n i s x y. (subst (P s) (sym y.0) x.0, y.1))

pub to_named : (known : Known) (a b : Maker) (name : Bor (List ℕ)) (link : ℕ)
    → AddsLink a b (links.Named name) link
    → PutsLink known a b [] link (λ s at. target_at s at ≡ place_named s.types name.now)
to_named known a b name link add g = puts_link known a b (links.Named name) link add g tt

-- ---- a form of parts

pub with_form : (known : Known) (a b c : Maker) (N : List tree.Declaration) (P : ℕ → ℕ → Schema → Type 0)
    (Q : Schema → ℕ → Type 0) (form : Form) (place : ℕ)
    → PutsAll known a b N P → AddsForm b c form place
    → ((s : Schema) → P (length s.names) place s → IsSoundForm s place form)
    → ((n i : ℕ) (s : Schema) → P n i s → form_at s place ≡ form → Q s place) → PutsPlace known a c N place Q
with_form known a b c N P Q form place p add sound then g =
    let first = p g in
    and_then known a b c N [] N P (λ n i s. (form_at s place ≡ form) × (place < i))
    (λ n i s. Q s place × (place < i)) (sym (append-nil N)) first
    (puts_form known b c form place add first.good
    (λ s h. sound s (subst (λ i. P (length s.names) i s) (sym add.place_is)
    (first.is (length s.names) (length b.forms.items) s (behind_of b s h)))))
    (λ n i s x y. (then n i s x y.0, y.1))

pub optional : (known : Known) (a b c : Maker) (N : List tree.Declaration) (type : tree.DataType)
    (name : List ℕ) (link place : ℕ)
    → PutsLink known a b N link (λ s at. IsType s known type uses.Link at)
    → AddsForm b c (forms.Optional link) place
    → PutsPlace known a c N place (λ s at. IsDeclared s known (tree.Of type name tree.Optional) at)
optional known a b c N type name link place p add =
    with_form known a b c N (λ n i s. IsType s known type uses.Link link × (link < length s.links))
    (λ s at. IsDeclared s known (tree.Of type name tree.Optional) at)
    (forms.Optional link) place p add (λ s x. x.1) (λ n i s x e. (link, e, x.0))

pub counted : (known : Known) (a b c : Maker) (N : List tree.Declaration) (type : tree.DataType)
    (name : List ℕ) (most : Option tree.Value) (link place limit : ℕ)
    → limit ≡ limit_in known.numbers most
    → PutsLink known a b N link (λ s at. IsType s known type uses.Link at)
    → AddsForm b c (forms.Array link limit) place
    → PutsPlace known a c N place
    (λ s at. IsDeclared s known (tree.Of type name (tree.Array (tree.Variable most))) at)
counted known a b c N type name most link place limit is p add =
    with_form known a b c N (λ n i s. IsType s known type uses.Link link × (link < length s.links))
    (λ s at. IsDeclared s known (tree.Of type name (tree.Array (tree.Variable most))) at)
    (forms.Array link limit) place p add (λ s x. x.1) (λ n i s x e. (link, e ∙ ap (forms.Array link) is, x.0))

pub fixed : (known : Known) (a b c : Maker) (N : List tree.Declaration) (type : tree.DataType) (name : List ℕ)
    (v : tree.Value) (of place size : ℕ)
    → size ≡ size_in known.numbers v
    → PutsPlace known a b N of (λ s at. IsType s known type uses.ByValue at)
    → AddsForm b c (forms.FixedArray of size) place
    → PutsPlace known a c N place
    (λ s at. IsDeclared s known (tree.Of type name (tree.Array (tree.Fixed v))) at)
fixed known a b c N type name v of place size is p add =
    with_form known a b c N (λ n i s. IsType s known type uses.ByValue of × (of < i))
    (λ s at. IsDeclared s known (tree.Of type name (tree.Array (tree.Fixed v))) at)
    (forms.FixedArray of size) place p add (λ s x. x.1)
    (λ n i s x e. (of, e ∙ ap (forms.FixedArray of) is, x.0))

pub plain : (known : Known) (a b : Maker) (N : List tree.Declaration) (type : tree.DataType)
    (name : List ℕ) (place : ℕ)
    → PutsPlace known a b N place (λ s at. IsType s known type uses.ByValue at)
    → PutsPlace known a b N place (λ s at. IsDeclared s known (tree.Of type name tree.Plain) at)
plain known a b N type name place p g =
    put_as known a b N (λ n i s. IsType s known type uses.ByValue place × (place < i))
    (λ n i s. IsDeclared s known (tree.Of type name tree.Plain) place × (place < i)) (p g)
    (λ n i s h x. ((place, refl, x.0), x.1))

-- ---- names of types

pub named_type : (known : Known) (a b c : Maker) (name : List ℕ) (body : tree.Body) (place : ℕ)
    → PutsPlace known a b (typedefs_inside name body) place (λ s at. IsBody s known body at)
    → AddsFound b c name place
    → PutsPlace known a c (typedefs_inside name body ++ as_typedef name body ∷ []) place
    (λ s at. IsBody s known body at)
named_type known a b c name body place p add g =
    let first = p g in
    and_then known a b c (typedefs_inside name body) (as_typedef name body ∷ [])
    (typedefs_inside name body ++ as_typedef name body ∷ [])
    (λ n i s. IsBody s known body place × (place < i)) (λ n i s. Unit {0})
    (λ n i s. IsBody s known body place × (place < i)) refl first
    (puts_found known b c (as_typedef name body) name place refl add first.good
    (λ n i s h. let x = first.is n i s h in ((place, refl, x.0), x.1)))
    (λ n i s x y. x)

-- ---- fields

pub field_put : (known : Known) (a b c : Maker) (N : List tree.Declaration) (d : tree.Declaration)
    (name : List ℕ) (index place : ℕ) → name ≡ name_of d
    → PutsPlace known a b N place (λ s at. IsDeclared s known d at) → AddsName b c name index
    → PutsAll known a c N (λ n i s. (name_at s index ≡ name_of d) × IsDeclared s known d place
    × IsSoundField n i (record { name = index; form = place }))
field_put known a b c N d name index place called p add g =
    let first = p g in
    and_then known a b c N [] N (λ n i s. IsDeclared s known d place × (place < i))
    (λ n i s. (name_at s index ≡ name) × (index < n))
    (λ n i s. (name_at s index ≡ name_of d) × IsDeclared s known d place
    × IsSoundField n i (record { name = index; form = place })) (sym (append-nil N))
    first (puts_name known b c name index add first.good)
    (λ n i s x y. (y.0 ∙ called, x.0, record { name = y.1; form = x.1 }))

abbrev pub IsFieldOf : Known → tree.Declaration → Field → ℕ → ℕ → Schema → Type 0
IsFieldOf known d field n i s = (name_at s field.name ≡ name_of d) × IsDeclared s known d field.form
    × IsSoundField n i field

-- the fields of declarations in front of the rest
pub record FieldsSoFar (known : Known) (old now : Maker) (around : List ℕ) (fields : List Field)
    (rest all : tree.Declarations) : Type 0 where
  pub typedefs : List tree.Declaration
  pub are : typedefs ++ typedefs_of_fields around rest ≡ typedefs_of_fields around all
  pub put : Puts known old now typedefs
      (λ n i s. ((more : List Field) → AreFields s known rest more → AreFields s known all (fields ++ more))
      × AreSoundFields n i fields)

pub fields_start : (known : Known) (m : Maker) (around : List ℕ) (ds : tree.Declarations)
    → IsGood known.types m → FieldsSoFar known m m around [] ds ds
fields_start known m around ds g = record {
  typedefs = [];
  are = refl;
  put = puts_none known m
      (λ n i s. ((more : List Field) → AreFields s known ds more → AreFields s known ds more) × Unit {0}) g
      (λ n i s b. ((λ more h. h), tt));
}

sound_behind : (n i : ℕ) (fs : List Field) (f : Field) → AreSoundFields n i fs → IsSoundField n i f
    → AreSoundFields n i (fs ++ f ∷ [])
sound_behind n i [] f h one = (one, tt)
sound_behind n i (x ∷ xs) f h one = (h.0, sound_behind n i xs f h.1 one)

pub fields_more : (known : Known) (a b c : Maker) (around : List ℕ) (fs : List Field) (d : tree.Declaration)
    (field : Field) (rest all : tree.Declarations)
    → FieldsSoFar known a b around fs (tree.more d rest) all
    → PutsAll known b c (typedefs_of around d) (IsFieldOf known d field)
    → FieldsSoFar known a c around (fs ++ field ∷ []) rest all
fields_more known a b c around fs d field rest all f p = record {
  typedefs = f.typedefs ++ typedefs_of around d;
  are = append_assoc f.typedefs (typedefs_of around d) (typedefs_of_fields around rest) ∙ f.are;
  put = and_then known a b c f.typedefs (typedefs_of around d) (f.typedefs ++ typedefs_of around d)
      (λ n i s. ((more : List Field) → AreFields s known (tree.more d rest) more
      → AreFields s known all (fs ++ more)) × AreSoundFields n i fs)
      (IsFieldOf known d field)
      (λ n i s. ((more : List Field) → AreFields s known rest more
      → AreFields s known all ((fs ++ field ∷ []) ++ more)) × AreSoundFields n i (fs ++ field ∷ []))
      refl f.put (p f.put.good)
      (λ n i s x y. (
        (λ more h. subst (AreFields s known all) (sym (append_assoc fs (field ∷ []) more))
            (x.0 (field ∷ more) (field, more, refl, y.0, y.1, h))),
        sound_behind n i fs field x.1 y.2,
      ));
}

pub fields_end : (known : Known) (a b : Maker) (around : List ℕ) (fs : List Field) (all : tree.Declarations)
    → FieldsSoFar known a b around fs tree.none all
    → Puts known a b (typedefs_of_fields around all)
    (λ n i s. AreFields s known all fs × AreSoundFields n i fs)
fields_end known a b around fs all f =
    subst (λ N. Puts known a b N (λ n i s. AreFields s known all fs × AreSoundFields n i fs))
    (sym (append-nil f.typedefs) ∙ f.are)
    (put_as known a b f.typedefs
    (λ n i s. ((more : List Field) → AreFields s known tree.none more → AreFields s known all (fs ++ more))
    × AreSoundFields n i fs)
    (λ n i s. AreFields s known all fs × AreSoundFields n i fs) f.put
    (λ n i s h x. (subst (AreFields s known all) (append-nil fs) (x.0 [] refl), x.1)))

pub struct_put : (known : Known) (a b c : Maker) (N : List tree.Declaration) (ds : tree.Declarations)
    (fields : Vec Field Global) (place : ℕ)
    → PutsAll known a b N (λ n i s. AreFields s known ds fields.items × AreSoundFields n i fields.items)
    → AddsForm b c (forms.Struct fields) place
    → PutsPlace known a c N place (λ s at. IsBody s known (tree.Struct ds) at)
struct_put known a b c N ds fields place p add =
    with_form known a b c N (λ n i s. AreFields s known ds fields.items × AreSoundFields n i fields.items)
    (λ s at. IsBody s known (tree.Struct ds) at)
    (forms.Struct fields) place p add (λ s x. x.1) (λ n i s x e. (fields, e, x.0))

-- ---- arms

abbrev pub IsArm : Known → tree.Declaration → Arm → ℕ → ℕ → Schema → Type 0
IsArm known d arm n i s = IsArmOf s d arm × IsDeclared s known d (place_in arm) × IsSoundArm n i arm

pub arm_void : (known : Known) (m : Maker) (around : List ℕ) (d : tree.Declaration) → is_void d ≡ true
    → PutsAll known m m (typedefs_of around d) (IsArm known d arms.Void)
arm_void known m around tree.Void e g = puts_none known m (IsArm known tree.Void arms.Void) g
    (λ n i s b. (refl, void_there known.types m s g b.completes, tt))
arm_void known m around (tree.Of type name shape) e g = absurd (cc)
arm_void known m around (tree.Opaque name size) e g = absurd (cc)
arm_void known m around (tree.String name most) e g = absurd (cc)

arm_called : (s : Schema) (d : tree.Declaration) (field : Field) → is_void d ≡ false
    → name_at s field.name ≡ name_of d → IsArmOf s d (arms.Of field)
arm_called s tree.Void field e h = absurd (cc)
arm_called s (tree.Of type name shape) field e h = h
arm_called s (tree.Opaque name size) field e h = h
arm_called s (tree.String name most) field e h = h

pub arm_field : (known : Known) (a b : Maker) (N : List tree.Declaration) (d : tree.Declaration)
    (field : Field) → is_void d ≡ false
    → PutsAll known a b N (IsFieldOf known d field) → PutsAll known a b N (IsArm known d (arms.Of field))
arm_field known a b N d field e p g =
    put_as known a b N (IsFieldOf known d field) (IsArm known d (arms.Of field)) (p g)
    (λ n i s h x. (arm_called s d field e x.0, x.1, x.2))
