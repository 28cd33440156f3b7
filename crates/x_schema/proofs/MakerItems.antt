-- The items of a text, one behind another, and the schema at their end.
use Rattle.std.proofs.Common.{◌≡◌, ℕ, zero, suc, ◌<◌, ◌≤◌, arith, Bool, true, false, cond, is_some, map}
use Rattle.std.proofs.Common.{length, get_or, List, [], ◌∷◌, ◌++◌, Option, None, Some, refl, sym, ap, subst}
use Rattle.std.proofs.Common.{◌∙◌, append_assoc, append-nil}
use Rattle.std.specs.Map.{lookup}
use Rattle.std.specs.Prelude.{Result, Ok, Err, IfOk}
use Rattle.std.specs.Str.{bytes_eq}
use Rattle.x_trees.specs.Tree as tree
use Rattle.std.specs.Option.{option_or}
use Rattle.x_schema.specs.Schema.{Schema, IsKeptWithin, form_at, name_at, same_numbers}
use Rattle.x_schema.specs.ProcedureMaking.{AreKeptWithin, PutsProcedures}
use Rattle.x_schema.specs.ProceduresOf.{AreProceduresBehind, Numbered, Table, procedures_of}
use Rattle.x_schema.specs.Schemas.{IsSchemaOf}
use Rattle.x_schema.specs.SchemaOf.{Known, Types, AreTypesOf, IsBody, IsDeclared, as_typedef, place_named}
use Rattle.x_schema.specs.SchemaOf.{typedefs, typedefs_inside, typedefs_of, with_first, with_types}
use Rattle.x_schema.specs.SchemaOf.{numbers_of}
use Rattle.x_trees.specs.Declarations.{is_void, name_of}
use Rattle.x_schema.specs.SchemaMaking.{Completes, Behind, IsGood, IsStart, PutsAll, PutsPlace, AddsFound}
use Rattle.x_schema.specs.SchemaMaking.{FindsItem, FindsItems, TakesFound, AreLinksWithin, AreWithin}
use Rattle.x_schema.specs.SchemaMaking.{IsWithin, names_made, place_linked, with_found}
use Rattle.x_schema.specs.Sound.{IsSound, IsSoundForm}
use Rattle.x_schema.specs.declared.form.Form.TheVariants as forms
use Rattle.x_schema.specs.declared.maker.Link.{Link}
use Rattle.x_schema.specs.declared.maker.Link.TheVariants as links
use Rattle.x_schema.specs.declared.maker.Maker.{Maker}
use Rattle.x_schema.specs.declared.schema.NamedType.{NamedType}
use Rattle.x_numbers.proofs.Lookups.{lookup_more}
use Rattle.x_schema.proofs.ProcedureLemmas.{kept_found}
use Rattle.x_schema.proofs.MakerSteps.{and_then, put_as, puts_none, puts_found, front_get, front_same}
use Rattle.x_schema.proofs.MakerSteps.{good_same, named_long, names_same}
use Rattle.x_schema.proofs.MakerForms.{some_schema, some_completes, named_within, void_there}

-- ---- a definition

pub typedef_void : (known : Known) (m : Maker) (d : tree.Declaration) → is_void d ≡ true
    → PutsAll known m m (typedefs (Some (tree.Typedef d))) (λ n i s. Unit {0})
typedef_void known m tree.Void e g = puts_none known m (λ n i s. Unit {0}) g (λ n i s b. tt)
typedef_void known m (tree.Of type name shape) e g = absurd (cc)
typedef_void known m (tree.Opaque name size) e g = absurd (cc)
typedef_void known m (tree.String name most) e g = absurd (cc)

typedefs_are : (d : tree.Declaration) → is_void d ≡ false
    → typedefs (Some (tree.Typedef d)) ≡ typedefs_of (name_of d) d ++ d ∷ []
typedefs_are tree.Void e = absurd (cc)
typedefs_are (tree.Of type name shape) e = refl
typedefs_are (tree.Opaque name size) e = refl
typedefs_are (tree.String name most) e = refl

pub typedef_put : (known : Known) (a b c : Maker) (d : tree.Declaration) (name : List ℕ) (place : ℕ)
    → is_void d ≡ false → name ≡ name_of d
    → PutsPlace known a b (typedefs_of name d) place (λ s at. IsDeclared s known d at)
    → AddsFound b c name place
    → PutsAll known a c (typedefs (Some (tree.Typedef d))) (λ n i s. Unit {0})
typedef_put known a b c d name place e called p add g =
    let first = p g in
    and_then known a b c (typedefs_of name d) (d ∷ []) (typedefs (Some (tree.Typedef d)))
    (λ n i s. IsDeclared s known d place × (place < i)) (λ n i s. Unit {0}) (λ n i s. Unit {0})
    (typedefs_are d e ∙ ap (λ n. typedefs_of n d ++ d ∷ []) (sym called)) first
    (puts_found known b c d name place (sym called) add first.good first.is) (λ n i s x y. tt)

pub type_put : (known : Known) (a b : Maker) (name : List ℕ) (body : tree.Body) (place : ℕ)
    → PutsPlace known a b (typedefs_inside name body ++ as_typedef name body ∷ []) place
    (λ s at. IsBody s known body at)
    → PutsAll known a b (typedefs (Some (tree.NewType name body))) (λ n i s. Unit {0})
type_put known a b name body place p g =
    put_as known a b (typedefs_inside name body ++ as_typedef name body ∷ [])
    (λ n i s. IsBody s known body place × (place < i)) (λ n i s. Unit {0}) (p g) (λ n i s h x. tt)

pub nothing_put : (known : Known) (m : Maker) → PutsAll known m m [] (λ n i s. Unit {0})
nothing_put known m g = puts_none known m (λ n i s. Unit {0}) g (λ n i s b. tt)

-- every type of these is within
abbrev AreTypesWithin : ℕ → ℕ → Types → Type 0
AreTypesWithin n i types = (name : List ℕ) (u : NamedType) → lookup (bytes_eq name) types ≡ Some u
    → IsWithin n i u

more_found : (n i : ℕ) (name : List ℕ) (types : Types) (key : List ℕ) (t u : NamedType)
    → AreTypesWithin n i types → IsWithin n i t
    → lookup (bytes_eq name) (types ++ (key, t) ∷ []) ≡ Some u → IsWithin n i u
more_found n i name types key t u h one is = by (lookup (bytes_eq name) types) refl (bytes_eq name key)
    (sym (lookup_more (bytes_eq name) types key t) ∙ is)
  where
    by : (o : Option NamedType) → lookup (bytes_eq name) types ≡ o → (b : Bool)
        → option_or o (cond b (Some t) None) ≡ Some u → IsWithin n i u
    by (Some v) e b is = let same : v ≡ u = cc in subst (λ x. IsWithin n i x) same (h name v e)
    by None e true is = let same : t ≡ u = cc in subst (λ x. IsWithin n i x) same one
    by None e false is = absurd (cc)

within_first : (n i : ℕ) (types : Types) (key : List ℕ) (t : NamedType) → AreTypesWithin n i types
    → IsWithin n i t → AreTypesWithin n i (with_first bytes_eq types key t)
within_first n i types key t h one name u is = by (is_some (lookup (bytes_eq key) types)) is
  where
    by : (b : Bool) → lookup (bytes_eq name) (cond b types (types ++ (key, t) ∷ [])) ≡ Some u → IsWithin n i u
    by true is = h name u is
    by false is = more_found n i name types key t u h one is

within_found : (n i : ℕ) (names : List (List ℕ)) (types : Types) (ts : List NamedType)
    → AreTypesWithin n i types → AreWithin n i ts → AreTypesWithin n i (with_found names types ts)
within_found n i names types [] h w = h
within_found n i names types (t ∷ ts) h w =
    within_found n i names (with_first bytes_eq types (get_or names t.name []) t) ts
    (within_first n i types (get_or names t.name []) t h w.0) w.1

with_same : (m : Maker) (s : Schema) (i : ℕ) (types : Types) (ts : List NamedType) → Completes m s
    → AreWithin (length m.names.items) i ts
    → with_found (names_made m) types ts ≡ with_types s types ts
with_same m s i types [] c w = refl
with_same m s i types (t ∷ ts) c w =
    let less : t.name < length (names_made m) = subst (λ n. t.name < n) (sym (named_long m)) w.0.1 in
    let name : get_or (names_made m) t.name [] ≡ name_at s t.name =
    sym (front_get (names_made m) s.names t.name [] c.names less) in
    with_same m s i (with_first bytes_eq types (get_or (names_made m) t.name []) t) ts c w.1
    ∙ ap (λ n. with_types s (with_first bytes_eq types n t) ts) name

-- nothing but the found types is gone
behind_same : (mid new : Maker) (n i : ℕ) (s : Schema) → names_made new ≡ names_made mid → new.forms.items
    ≡ mid.forms.items → new.links.items ≡ mid.links.items → Behind new n i s → Behind mid n i s
behind_same mid new n i s names fs ls b = record {
  names = subst (λ k. k ≤ n) (names_same mid new names) b.names;
  forms = subst (λ l. length l ≤ i) fs b.forms;
  completes = completes_same mid new s names fs ls b.completes;
}
  where
    completes_same : (mid new : Maker) (s : Schema) → names_made new ≡ names_made mid → new.forms.items
        ≡ mid.forms.items → new.links.items ≡ mid.links.items → Completes new s → Completes mid s
    completes_same mid new s names fs ls c = record {
      names = front_same (names_made new) (names_made mid) s.names names c.names;
      forms = front_same new.forms.items mid.forms.items s.forms fs c.forms;
      links = front_same (map (place_linked s.types) new.links.items)
          (map (place_linked s.types) mid.links.items) s.links (ap (map (place_linked s.types)) ls) c.links;
    }

some_behind : (m : Maker) → Behind m (length m.names.items) (length m.forms.items) (some_schema m)
some_behind m = record { names = omega arith; forms = omega arith; completes = some_completes m }

pub item_found : (old mid new : Maker) (before after : Known) (d : Option tree.Definition)
    → PutsAll before old mid (typedefs d) (λ n i s. Unit {0})
    → TakesFound mid new before.types after.types → after.numbers ≡ before.numbers
    → FindsItem old new before after d
item_found old mid new before after d p take same = record {
  numbers = same;
  good = λ empty g. (good empty g, take.found);
  behind = λ empty g n i s b. (p g).behind n i s (back n i s b);
  types = λ empty g n i s b rest h. (
    (p g).found,
    ((p g).named n i s (back n i s b)).0,
    subst (λ t. AreTypesOf s before.numbers t rest)
        (types_is empty g ∙ with_same mid s (length mid.forms.items) before.types (p g).found
        (back n i s b).completes (within g)) h,
  );
}
  where
    back : (n i : ℕ) (s : Schema) → Behind new n i s → Behind mid n i s
    back n i s b = behind_same mid new n i s take.names take.forms take.links b

    within : (g : IsGood before.types old)
        → AreWithin (length mid.names.items) (length mid.forms.items) (p g).found
    within g = ((p g).named (length mid.names.items) (length mid.forms.items) (some_schema mid)
        (some_behind mid)).1

    types_is : old.found.items ≡ [] → (g : IsGood before.types old)
        → after.types ≡ with_found (names_made mid) before.types (p g).found
    types_is empty g = take.types
        ∙ ap (with_found (names_made mid) before.types) ((p g).adds ∙ ap (λ l. l ++ (p g).found) empty)

    good : old.found.items ≡ [] → IsGood before.types old → IsGood after.types new
    good empty g =
        let q = (p g).good in
        let long = names_same mid new take.names in
        let middle : IsGood after.types mid = record {
          void = q.void;
          sound = q.sound;
          links = q.links;
          within = λ name u is. within_found (length mid.names.items) (length mid.forms.items)
              (names_made mid) before.types (p g).found q.within (within g) name u
              (ap (lookup (bytes_eq name)) (sym (types_is empty g)) ∙ is);
        } in
        good_same after.types mid new take.forms (omega (arith, long))
        (subst (AreLinksWithin (length mid.forms.items)) (sym take.links) q.links)
        (λ s c. (back (length new.names.items) (length new.forms.items) s
        (record { names = omega arith; forms = omega arith; completes = c })).completes) middle

pub finds_none : (m : Maker) (known : Known) → FindsItems m m known known []
finds_none m known = record {
  numbers = refl;
  good = λ empty g. (g, empty);
  behind = λ empty g n i s b. b;
  types = λ empty g n i s b rest h. h;
}

pub finds_more : (a b c : Maker) (k l r : Known) (ds : List (Option tree.Definition))
    (d : Option tree.Definition) → FindsItems a b k l ds → FindsItem b c l r d
    → FindsItems a c k r (ds ++ d ∷ [])
finds_more a b c k l r ds d p q = record {
  numbers = q.numbers ∙ p.numbers;
  good = λ empty g. q.good (p.good empty g).1 (p.good empty g).0;
  behind = λ empty g n i s x. p.behind empty g n i s (q.behind (p.good empty g).1 (p.good empty g).0 n i s x);
  types = λ empty g n i s x rest h.
      subst (λ xs. AreTypesOf s k.numbers k.types xs) (sym (append_assoc ds (d ∷ []) rest))
      (p.types empty g n i s (q.behind (p.good empty g).1 (p.good empty g).0 n i s x) (d ∷ rest)
      (subst (λ num. AreTypesOf s num l.types (d ∷ rest)) p.numbers
      (q.types (p.good empty g).1 (p.good empty g).0 n i s x rest
      (subst (λ num. AreTypesOf s num r.types rest) (sym p.numbers) h))));
}

-- ---- the end

pub start_good : (m : Maker) → IsStart m → IsGood [] m
start_good m start = record {
  void = record { rest = []; is = start.forms };
  sound = λ s c i lt. by s c i lt;
  links = subst (AreLinksWithin (length m.forms.items)) (sym start.links) tt;
  within = λ name t is. absurd (cc);
}
  where
    by : (s : Schema) → Completes m s → (i : ℕ) → i < length m.forms.items → IsSoundForm s i (form_at s i)
    by s c i lt =
        let one : length m.forms.items ≡ 1 = ap length start.forms in
        let here : i ≡ 0 = omega (arith, lt, one) in
        let there : form_at s i ≡ forms.Void = ap (form_at s) here
        ∙ ap (λ l. get_or l 0 forms.Void) (c.forms.is ∙ ap (λ l. l ++ c.forms.rest) start.forms) in
        subst (λ f. IsSoundForm s i f) (sym there) tt

links_sound : (types : Types) (i : ℕ) (ls : List Link) → AreLinksWithin i ls
    → ((name : List ℕ) → place_named types name < i) → (l : ℕ) → l < length ls
    → get_or (map (place_linked types) ls) l 0 < i
links_sound types i [] h named l lt = absurd (omega (arith, lt))
links_sound types i (links.To place ∷ ls) h named zero lt = h.0
links_sound types i (links.To place ∷ ls) h named (suc l) lt =
    links_sound types i ls h.1 named l (omega (arith, lt))
links_sound types i (links.Named name ∷ ls) h named zero lt = named name.now
links_sound types i (links.Named name ∷ ls) h named (suc l) lt =
    links_sound types i ls h named l (omega (arith, lt))

pub end_completes : (m : Maker) (s : Schema) → s.names ≡ names_made m → s.forms ≡ m.forms.items
    → s.links ≡ map (place_linked s.types) m.links.items → Completes m s
end_completes m s names fs ls = record {
  names = record { rest = []; is = names ∙ sym (append-nil (names_made m)) };
  forms = record { rest = []; is = fs ∙ sym (append-nil m.forms.items) };
  links = record { rest = []; is = ls ∙ sym (append-nil (map (place_linked s.types) m.links.items)) };
}

mapped_long : {X Y : Type 0} (f : X → Y) (xs : List X) → length (map f xs) ≡ length xs
mapped_long f [] = refl
mapped_long f (x ∷ xs) = ap suc (mapped_long f xs)

pub end_sound : (m : Maker) (s : Schema) → IsGood s.types m
    → AreKeptWithin (length m.names.items) (length m.forms.items) s.procedures → s.names ≡ names_made m
    → s.forms ≡ m.forms.items → s.links ≡ map (place_linked s.types) m.links.items → IsSound s
end_sound m s g kept names fs ls = record {
  forms = λ i lt. g.sound s (end_completes m s names fs ls) i (subst (λ l. i < length l) fs lt);
  links = λ l lt. subst (λ x. get_or s.links l 0 < length x) (sym fs)
      (subst (λ x. get_or x l 0 < length m.forms.items) (sym ls)
      (links_sound s.types (length m.forms.items) m.links.items g.links
      (λ name. named_within s.types m name g) l (long l lt)));
  types = λ name t is. (
    subst (λ x. t.form < length x) (sym fs) (g.within name t is).0,
    subst (λ x. t.name < length x) (sym names)
        (subst (λ n. t.name < n) (sym (named_long m)) (g.within name t is).1),
  );
  procedures = λ numbers of is.
      subst (λ x. IsKeptWithin (length s.names) (length x) of) (sym fs)
      (subst (λ x. IsKeptWithin (length x) (length m.forms.items) of) (sym names)
      (subst (λ n. IsKeptWithin n (length m.forms.items) of) (sym (named_long m))
      (kept_found (length m.names.items) (length m.forms.items) (same_numbers numbers) s.procedures
      of kept is)));
}
  where
    long : (l : ℕ) → l < length s.links → l < length m.links.items
    long l lt = subst (λ n. l < n) (ap length ls ∙ mapped_long (place_linked s.types) m.links.items) lt

pub end_types : (start m last : Maker) (s : Schema) (before after : Known)
    (definitions : List (Option tree.Definition)) → IsStart start
    → FindsItems start m before after definitions
    → before.types ≡ [] → before.numbers ≡ numbers_of definitions → s.types ≡ after.types
    → PutsProcedures after m last [] s.procedures (procedures_of definitions) → Completes last s
    → IsSchemaOf definitions s
end_types start m last s before after definitions is finds empty numbers types put c =
    let first : IsGood before.types start = subst (λ t. IsGood t start) (sym empty) (start_good start is) in
    let good = (finds.good is.found first).0 in
    let puts = put good in
    let b : Behind last (length last.names.items) (length last.forms.items) s =
    record { names = omega arith; forms = omega arith; completes = c } in
    let back : Behind m (length last.names.items) (length last.forms.items) s =
    puts.behind (length last.names.items) (length last.forms.items) s b in
    let all : AreTypesOf s before.numbers before.types (definitions ++ []) =
    finds.types is.found first (length last.names.items) (length last.forms.items) s back [] types in
    let told : AreTypesOf s before.numbers before.types definitions =
    subst (λ ds. AreTypesOf s before.numbers before.types ds) (append-nil definitions) all in
    let told_empty : AreTypesOf s before.numbers [] definitions =
    subst (λ t. AreTypesOf s before.numbers t definitions) empty told in
    record {
      void = void_there after.types last s puts.good c;
      types = subst (λ n. AreTypesOf s n [] definitions) numbers told_empty;
      procedures = subst (AreProceduresBehind s []) (append-nil (procedures_of definitions))
          ((puts.is (length last.names.items) (length last.forms.items) s b).procedures types [] refl);
    }

pub end_good : (start m : Maker) (before after : Known) (definitions : List (Option tree.Definition))
    → IsStart start → FindsItems start m before after definitions
    → before.types ≡ [] → IsGood after.types m
end_good start m before after definitions is finds empty =
    (finds.good is.found (subst (λ t. IsGood t start) (sym empty) (start_good start is))).0

-- behind the procedures too
pub end_last : (start m last : Maker) (before after : Known) (definitions : List (Option tree.Definition))
    (table : Table) (ps : List Numbered) → IsStart start → FindsItems start m before after definitions
    → before.types ≡ [] → PutsProcedures after m last [] table ps
    → IsGood after.types last × AreKeptWithin (length last.names.items) (length last.forms.items) table
end_last start m last before after definitions table ps is finds empty put =
    let puts = put (end_good start m before after definitions is finds empty) in (
      puts.good,
      (puts.is (length last.names.items) (length last.forms.items) (some_schema last)
          (some_behind last)).within tt,
    )

-- what holds of each schema that the maker ends with holds of the one that it gives
pub ended : {E : Type 0} (r : Result Schema E) (definitions : List (Option tree.Definition)) (last : Maker)
    (types : Types) (table : Table)
    → IfOk r (λ s. Completes last s) → IfOk r (λ s. s.types ≡ types) → IfOk r (λ s. s.procedures ≡ table)
    → ((s : Schema) → Completes last s → s.types ≡ types → s.procedures ≡ table → IsSchemaOf definitions s)
    → IfOk r (IsSchemaOf definitions)
ended (Ok s) definitions last types table completes types_are table_is of_all =
    of_all s completes types_are table_is
ended (Err e) definitions last types table completes types_are table_is of_all = tt
