-- What the maker of a schema makes of procedures.
use Rattle.std.proofs.Common.{◌≡◌, ℕ, ◌+◌, ◌<◌, ◌^◌, ◌-◌, arith, Bool, true, false, cond, is_some, map}
use Rattle.std.proofs.Common.{length, List, [], ◌∷◌, ◌++◌, Option, None, Some, refl, sym, ap, subst, ◌∙◌}
use Rattle.std.proofs.Common.{append_assoc, append-nil, length-append}
use Rattle.std.specs.Global.{Global}
use Rattle.std.specs.declared.vec.Vec.{Vec}
use Rattle.std.proofs.lemmas.Bool.Decides.{nat_tests}
use Rattle.std.specs.Bool.{◌==◌}
use Rattle.std.specs.List.{flat_map}
use Rattle.std.specs.Map.{lookup}
use Rattle.x_trees.specs.Tree as tree
use Rattle.x_trees.specs.View.{view_procedure}
use Rattle.x_trees.specs.declared.trees.program.Procedure as its
use Rattle.x_trees.specs.declared.trees.declaration.Basic.{Basic}
use Rattle.x_schema.specs.ProcedureMaking.{AreAllFields, AreKeptWithin, Grows, PutsAs, PutsField, PutsFields}
use Rattle.x_schema.specs.ProcedureMaking.{PutsProcedures, PutsWithin}
use Rattle.x_schema.specs.ProceduresOf.{AreArgumentFields, AreArguments, AreProceduresBehind, IsArgument}
use Rattle.x_schema.specs.ProceduresOf.{IsArgumentField, IsPassed, IsPassedType, IsProcedure, Numbered, Table}
use Rattle.x_schema.specs.ProceduresOf.{argument_name, numbers_by, procedures_by, with_procedure}
use Rattle.x_schema.specs.Schema.{Schema, IsKeptWithin, form_at, name_at, same_numbers}
use Rattle.x_schema.specs.SchemaOf.{Known, basic_form, place_named}
use Rattle.x_schema.specs.SchemaMaking.{AddsForm, AddsName, PutsPlace}
use Rattle.x_schema.specs.Sound.{AreSoundFields, IsSoundField}
use Rattle.x_schema.specs.declared.form.Field.{Field}
use Rattle.x_schema.specs.declared.form.Form.TheVariants as forms
use Rattle.x_schema.specs.declared.maker.Maker.{Maker}
use Rattle.x_schema.specs.declared.procedure.CompactProcedure.{CompactProcedure}
use Rattle.x_schema.specs.declared.procedure.ProcedureNumbers.{ProcedureNumbers}
use Rattle.x_schema.proofs.MakerForms.{held_basic, held_named, held_string, held_void, with_form}
use Rattle.x_schema.proofs.MakerSteps.{and_then, put_as, puts_name, puts_none}

-- ---- what is passed

-- what holds whatever types are known
pub put_known : (known : Known) (a b : Maker) (place : ℕ) (P : Schema → ℕ → Type 0)
    → PutsPlace known a b [] place P → PutsAs known a b place P
put_known known a b place P p g =
    put_as known a b [] (λ n i s. P s place × (place < i))
    (λ n i s. (s.types ≡ known.types → P s place) × (place < i)) (p g) (λ n i s h x. ((λ e. x.0), x.1))

pub passed_basic : (known : Known) (a b : Maker) (basic : Basic) (place : ℕ)
    → AddsForm a b (basic_form basic) place
    → PutsAs known a b place (λ s at. IsPassedType s (tree.Simple basic) at)
passed_basic known a b basic place add =
    put_known known a b place (λ s at. form_at s at ≡ basic_form basic) (held_basic known a b basic place add)

pub passed_named : (known : Known) (m : Maker) (name : List ℕ) (place : ℕ)
    → place ≡ place_named known.types name
    → PutsAs known m m place (λ s at. at ≡ place_named s.types name)
passed_named known m name place is g =
    put_as known m m [] (λ n i s. (place ≡ place_named known.types name) × (place < i))
    (λ n i s. (s.types ≡ known.types → place ≡ place_named s.types name) × (place < i))
    (held_named known m name place is g)
    (λ n i s h x. ((λ e. x.0 ∙ ap (λ t. place_named t name) (sym e)), x.1))

pub passed_void : (known : Known) (m : Maker) → PutsAs known m m 0 (λ s at. form_at s at ≡ forms.Void)
passed_void known m = put_known known m m 0 (λ s at. form_at s at ≡ forms.Void) (held_void known m)

pub passed_string : (known : Known) (a b : Maker) (place : ℕ) → AddsForm a b (forms.String (2 ^ 32 - 1)) place
    → PutsAs known a b place (λ s at. IsArgument s tree.Text at)
passed_string known a b place add = put_known known a b place
    (λ s at. form_at s at ≡ forms.String (2 ^ 32 - 1)) (held_string known a b (2 ^ 32 - 1) place add)

-- ---- arguments as fields

pub field_put : (known : Known) (a b c : Maker) (number : ℕ) (arg : Option tree.Argument) (place : ℕ)
    (field : Field)
    → PutsAs known a b place (λ s at. IsPassed s arg at) → AddsName b c (argument_name number) field.name
    → field.form ≡ place
    → PutsField known a c field (λ s. IsArgumentField s number arg field)
field_put known a b c number arg place field p add is g =
    let first = p g in
    and_then known a b c [] [] [] (λ n i s. (s.types ≡ known.types → IsPassed s arg place) × (place < i))
    (λ n i s. (name_at s field.name ≡ argument_name number) × (field.name < n))
    (λ n i s. (s.types ≡ known.types → IsArgumentField s number arg field) × IsSoundField n i field) refl
    first (puts_name known b c (argument_name number) field.name add first.good)
    (λ n i s x y. (
      (λ e. record { name = y.0; form = subst (λ p. IsPassed s arg p) (sym is) (x.0 e) }),
      record { name = y.1; form = subst (λ p. p < i) (sym is) x.1 },
    ))

-- the fields of the arguments in front of the rest
abbrev pub FieldsPut : Known → Maker → Maker → Option tree.Argument → List Field
    → (rest all : List tree.Argument) → Type 0
FieldsPut known old now first fields rest all =
    PutsWithin known old now (λ n i. AreSoundFields n i fields)
    (λ s. (more : List Field) → AreArgumentFields s (length fields + 1) rest more
    → AreAllFields s first all (fields ++ more))

pub fields_first : (known : Known) (a b : Maker) (first : Option tree.Argument) (field : Field)
    (all : List tree.Argument)
    → PutsField known a b field (λ s. IsArgumentField s 1 first field)
    → FieldsPut known a b first (field ∷ []) all all
fields_first known a b first field all p g =
    put_as known a b [] (λ n i s. (s.types ≡ known.types → IsArgumentField s 1 first field)
    × IsSoundField n i field)
    (λ n i s. (s.types ≡ known.types → (more : List Field) → AreArgumentFields s 2 all more
    → AreAllFields s first all (field ∷ more)) × AreSoundFields n i (field ∷ [])) (p g)
    (λ n i s h x. ((λ e more are. (field, more, refl, x.0 e, are)), (x.1, tt)))

sound_behind : (n i : ℕ) (fs : List Field) (f : Field) → AreSoundFields n i fs → IsSoundField n i f
    → AreSoundFields n i (fs ++ f ∷ [])
sound_behind n i [] f h one = (one, tt)
sound_behind n i (x ∷ xs) f h one = (h.0, sound_behind n i xs f h.1 one)

pub fields_more : (known : Known) (a b c : Maker) (first : Option tree.Argument) (fs : List Field)
    (arg : tree.Argument) (field : Field) (rest all : List tree.Argument)
    → FieldsPut known a b first fs (arg ∷ rest) all
    → PutsField known b c field (λ s. IsArgumentField s (length fs + 1) (Some arg) field)
    → FieldsPut known a c first (fs ++ field ∷ []) rest all
fields_more known a b c first fs arg field rest all f p g =
    let before = f g in
    and_then known a b c [] [] []
    (λ n i s. (s.types ≡ known.types → (more : List Field)
    → AreArgumentFields s (length fs + 1) (arg ∷ rest) more → AreAllFields s first all (fs ++ more))
    × AreSoundFields n i fs)
    (λ n i s. (s.types ≡ known.types → IsArgumentField s (length fs + 1) (Some arg) field)
    × IsSoundField n i field)
    (λ n i s. (s.types ≡ known.types → (more : List Field)
    → AreArgumentFields s (length (fs ++ field ∷ []) + 1) rest more
    → AreAllFields s first all ((fs ++ field ∷ []) ++ more))
    × AreSoundFields n i (fs ++ field ∷ [])) refl before (p before.good)
    (λ n i s x y. (
      (λ e more are. subst (AreAllFields s first all) (sym (append_assoc fs (field ∷ []) more))
          (x.0 e (field ∷ more) (
            field,
            more,
            refl,
            y.0 e,
            subst (λ k. AreArgumentFields s (k + 1) rest more) (length-append fs (field ∷ [])) are,
          ))),
      sound_behind n i fs field x.1 y.1,
    ))

pub fields_end : (known : Known) (a b : Maker) (first : Option tree.Argument) (fs : List Field)
    (all : List tree.Argument)
    → FieldsPut known a b first fs [] all → PutsFields known a b first all fs
fields_end known a b first fs all f g =
    put_as known a b []
    (λ n i s. (s.types ≡ known.types → (more : List Field) → AreArgumentFields s (length fs + 1) [] more
    → AreAllFields s first all (fs ++ more)) × AreSoundFields n i fs)
    (λ n i s. (s.types ≡ known.types → AreAllFields s first all fs) × AreSoundFields n i fs) (f g)
    (λ n i s h x. ((λ e. subst (AreAllFields s first all) (append-nil fs) (x.0 e [] refl)), x.1))

-- ---- procedures

pub arguments_one : (known : Known) (a b : Maker) (first : Option tree.Argument) (others : List tree.Argument)
    (place count : ℕ)
    → count ≡ length others → (count == 0) ≡ true → PutsAs known a b place (λ s at. IsPassed s first at)
    → PutsAs known a b place (λ s at. AreArguments s first others at)
arguments_one known a b first [] place count is none p = p
arguments_one known a b first (arg ∷ rest) place count is none p = absurd (grind (arith, nat_tests))

pub arguments_several : (known : Known) (a b c : Maker) (first : Option tree.Argument)
    (others : List tree.Argument) (vec : Vec Field Global) (place count : ℕ)
    → count ≡ length others → (count == 0) ≡ false → PutsFields known a b first others vec.items
    → AddsForm b c (forms.Struct vec) place
    → PutsAs known a c place (λ s at. AreArguments s first others at)
arguments_several known a b c first [] vec place count is some p add g = absurd (grind (arith, nat_tests))
arguments_several known a b c first (arg ∷ rest) vec place count is some p add g =
    with_form known a b c [] (λ n i s. (s.types ≡ known.types → AreAllFields s first (arg ∷ rest) vec.items)
    × AreSoundFields n i vec.items)
    (λ s at. s.types ≡ known.types → AreArguments s first (arg ∷ rest) at) (forms.Struct vec) place p add
    (λ s x. x.1)
    (λ n i s x e types. let all = x.0 types in (vec, all.0, all.1, e, all.2, all.3, all.4)) g

pub procedure_put : (known : Known) (a b c d : Maker) (p : tree.Procedure) (name : List ℕ)
    (kept : CompactProcedure) → name ≡ p.name
    → PutsAs known a b kept.arguments (λ s at. AreArguments s p.first p.others at)
    → PutsAs known b c kept.results (λ s at. IsPassed s p.result at) → AddsName c d name kept.name
    → PutsWithin known a d (λ n i. IsKeptWithin n i kept) (λ s. IsProcedure s p kept)
procedure_put known a b c d p name kept is arguments results add g =
    let one = arguments g in
    let two = results one.good in
    let both = and_then known a b c [] [] []
    (λ n i s. (s.types ≡ known.types → AreArguments s p.first p.others kept.arguments) × (kept.arguments < i))
    (λ n i s. (s.types ≡ known.types → IsPassed s p.result kept.results) × (kept.results < i))
    (λ n i s. (s.types ≡ known.types → AreArguments s p.first p.others kept.arguments
    × IsPassed s p.result kept.results) × (kept.arguments < i) × (kept.results < i)) refl one two
    (λ n i s x y. ((λ e. (x.0 e, y.0 e)), x.1, y.1)) in
    and_then known a c d [] [] []
    (λ n i s. (s.types ≡ known.types → AreArguments s p.first p.others kept.arguments
    × IsPassed s p.result kept.results) × (kept.arguments < i) × (kept.results < i))
    (λ n i s. (name_at s kept.name ≡ name) × (kept.name < n))
    (λ n i s. (s.types ≡ known.types → IsProcedure s p kept) × IsKeptWithin n i kept) refl
    both (puts_name known c d name kept.name add both.good)
    (λ n i s x y. (
      (λ e. let h = x.0 e in record { name = y.0 ∙ is; arguments = h.0; results = h.1 }),
      record { name = y.1; arguments = x.1; results = x.2 },
    ))

-- ---- tables

kept_behind : (n i : ℕ) (table : Table) (numbers : ProcedureNumbers) (kept : CompactProcedure)
    → AreKeptWithin n i table → IsKeptWithin n i kept
    → AreKeptWithin n i (table ++ (numbers, kept) ∷ [])
kept_behind n i [] numbers kept h one = (one, tt)
kept_behind n i (e ∷ es) numbers kept h one = (h.0, kept_behind n i es numbers kept h.1 one)

kept_first : (n i : ℕ) (table : Table) (numbers : Option ProcedureNumbers) (kept : CompactProcedure)
    → AreKeptWithin n i table → IsKeptWithin n i kept
    → AreKeptWithin n i (with_procedure table numbers kept)
kept_first n i table None kept h one = h
kept_first n i table (Some numbers) kept h one = by (is_some (lookup (same_numbers numbers) table))
  where
    by : (b : Bool) → AreKeptWithin n i (cond b table (table ++ (numbers, kept) ∷ []))
    by true = h
    by false = kept_behind n i table numbers kept h one

-- what is found in a table is within
pub kept_found : (n i : ℕ) (test : ProcedureNumbers → Bool) (table : Table) (kept : CompactProcedure)
    → AreKeptWithin n i table → lookup test table ≡ Some kept → IsKeptWithin n i kept
kept_found n i test [] kept h is = absurd (cc)
kept_found n i test (e ∷ es) kept h is = by (test e.0) (λ more. kept_found n i test es kept h.1 more) is
  where
    by : (b : Bool) → (lookup test es ≡ Some kept → IsKeptWithin n i kept)
        → cond b (Some e.1) (lookup test es) ≡ Some kept → IsKeptWithin n i kept
    by true others is = let same : e.1 ≡ kept = cc in subst (λ k. IsKeptWithin n i k) same h.0
    by false others is = others is

pub grows_none : (known : Known) (m : Maker) (table : Table) → PutsProcedures known m m table table []
grows_none known m table g =
    puts_none known m (λ n i s. Grows known n i s table table []) g
    (λ n i s b. record { procedures = λ e rest h. h; within = λ h. h })

pub grows_one : (known : Known) (a b : Maker) (before after : Table) (p : Numbered) (kept : CompactProcedure)
    → PutsWithin known a b (λ n i. IsKeptWithin n i kept) (λ s. IsProcedure s p.procedure kept)
    → after ≡ with_procedure before (numbers_by p) kept
    → PutsProcedures known a b before after (p ∷ [])
grows_one known a b before after p kept put is g =
    put_as known a b [] (λ n i s. (s.types ≡ known.types → IsProcedure s p.procedure kept)
    × IsKeptWithin n i kept) (λ n i s. Grows known n i s before after (p ∷ [])) (put g)
    (λ n i s h x. record {
      procedures = λ e rest are. (kept, x.0 e, subst (λ t. AreProceduresBehind s t rest) is are);
      within = λ w. subst (AreKeptWithin n i) (sym is) (kept_first n i before (numbers_by p) kept w x.1);
    })

pub grows_then : (known : Known) (a b c : Maker) (t u v : Table) (ps qs : List Numbered)
    → PutsProcedures known a b t u ps → PutsProcedures known b c u v qs
    → PutsProcedures known a c t v (ps ++ qs)
grows_then known a b c t u v ps qs p q g =
    let first = p g in
    and_then known a b c [] [] [] (λ n i s. Grows known n i s t u ps) (λ n i s. Grows known n i s u v qs)
    (λ n i s. Grows known n i s t v (ps ++ qs)) refl first (q first.good)
    (λ n i s x y. record {
      procedures = λ e rest are. subst (AreProceduresBehind s t) (sym (append_assoc ps qs rest))
          (x.procedures e (qs ++ rest) (y.procedures e rest are));
      within = λ w. y.within (x.within w);
    })

-- ---- lists

pub by_more : (program version : List ℕ) (xs : List its.Procedure) (x : its.Procedure)
    → procedures_by program version (map view_procedure (xs ++ x ∷ [])) ≡ procedures_by program version
    (map view_procedure xs) ++ procedures_by program version (view_procedure x ∷ [])
by_more program version [] x = refl
by_more program version (y ∷ ys) x =
    ap (λ l. record { program = program; version = version; procedure = view_procedure y } ∷ l)
    (by_more program version ys x)

pub mapped_more : {X Y Z : Type 0} (view : X → Y) (f : Y → List Z) (xs : List X) (x : X)
    → flat_map f (map view (xs ++ x ∷ [])) ≡ flat_map f (map view xs) ++ f (view x)
mapped_more view f [] x = append-nil (f (view x))
mapped_more view f (y ∷ ys) x = ap (λ l. f (view y) ++ l) (mapped_more view f ys x)
    ∙ sym (append_assoc (f (view y)) (flat_map f (map view ys)) (f (view x)))
