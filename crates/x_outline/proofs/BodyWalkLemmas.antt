-- What a walk over bodies finds, part by part.
use Rattle.std.proofs.Common.{◌≡◌, ℕ, suc, Option, ◌+◌, ◌^◌, ◌<◌, ◌⊎◌, inl, inr, List, [], ◌∷◌, ◌++◌, length}
use Rattle.std.proofs.Common.{map, ap, sym, refl, subst, ◌∙◌, append_assoc, append-nil, length-append, arith}
use Rattle.std.specs.List.{IsAmong}
use Rattle.std.specs.Borrow.{Bor}
use Rattle.x_trees.specs.Tree as tree
use Rattle.x_outline.specs.Bodies.{star}
use Rattle.x_trees.specs.Spell.{spell_type, spell_named, spell_length, spell_body, spell_cases}
use Rattle.x_trees.specs.Spell.{spell_enumerator, spell_other_enumerators, spell_enumerators}
use Rattle.x_trees.specs.Spell.{spell_declaration, spell_declarations, spell_arms, spell_default}
use Rattle.x_trees.specs.View.{view_body}
use Rattle.x_trees.specs.declared.trees.declaration.Body.{Body}
use Rattle.x_trees.proofs.CollectLemmas.{finds_none, finds_then, finds_as}
use Rattle.x_outline.specs.Bodies.{NameAt, ValueAt, bodies_inside, bodies_of_type, bodies_of_declaration}
use Rattle.x_outline.specs.Bodies.{bodies_of_fields, bodies_of_arms, bodies_of_default, field_at, fields_from}
use Rattle.x_outline.specs.Bodies.{arm_names_from, default_name, fields_of, cases_from, arm_cases_from}
use Rattle.x_outline.specs.Bodies.{cases_of}
use Rattle.x_outline.specs.Bodies as bodies
use Rattle.x_trees.specs.Spell.{IsShort}
use Rattle.x_outline.specs.BodyWalks.{Stand, Goes, GoesName, GoesDeclaration, GoesFields, GoesCases, GoesArms}
use Rattle.x_outline.specs.BodyWalks.{GoesDefault, GoesInside, Passes, FindsBody, FindsOwn, FindsAll}
use Rattle.x_outline.specs.BodyWalks.{AreBodies, IsBehind, IsFilled, AreFilled, view_body_at, body_at, within}
use Rattle.x_outline.specs.BodyWalks.{stand}
use Rattle.x_outline.specs.Parts.{view_name_at, view_value_at}
use Rattle.x_outline.specs.declared.parts.BodyAt.{BodyAt}
use Rattle.x_outline.specs.declared.bodies.BodyWalk.{BodyWalk}
use Rattle.x_outline.specs.declared.bodies.Contents.{Contents}
use Rattle.x_lists.proofs.ListLemmas.{map_append}
use Rattle.x_trees.proofs.AmongLemmas.{among_parts, among_cases, among_none}

pub goes_none : (a : Stand) → Goes a a 0 (λ k. []) (λ k. []) (λ k. [])
goes_none a = record {
  bodies = finds_none _;
  fields = finds_none _;
  cases = finds_none _;
  filled = λ fits are. are;
}

-- words without a body, of which nothing is found
pub goes_on : (a b : Stand) (n : ℕ) → (a.word + n < 2 ^ 64 → b.word ≡ a.word + n) → b.list ≡ a.list
    → b.fields ≡ a.fields → b.cases ≡ a.cases → Goes a b n (λ k. []) (λ k. []) (λ k. [])
goes_on a b n at list fields cases = record {
  bodies = record {
    word = at;
    list = λ fits. ap (map view_body_at) list ∙ sym (append-nil (map view_body_at a.list));
  };
  fields = record { word = at; list = λ fits. fields ∙ sym (append-nil a.fields) };
  cases = record { word = at; list = λ fits. cases ∙ sym (append-nil a.cases) };
  filled = λ fits are. subst AreFilled (sym list) are;
}

pub goes_then : {a b c : Stand} {n m : ℕ} {f g : ℕ → List bodies.BodyAt} {p q : ℕ → List NameAt}
    {u v : ℕ → List ValueAt} → Goes a b n f p u → Goes b c m g q v
    → Goes a c (n + m) (λ k. f k ++ g (k + n)) (λ k. p k ++ q (k + n)) (λ k. u k ++ v (k + n))
goes_then {a} {b} {c} {n} {m} x y = record {
  bodies = finds_then x.bodies y.bodies;
  fields = finds_then x.fields y.fields;
  cases = finds_then x.cases y.cases;
  filled = λ fits are. y.filled (second fits (x.bodies.word (first fits))) (x.filled (first fits) are);
}
  where
    first : a.word + (n + m) < 2 ^ 64 → a.word + n < 2 ^ 64
    first fits = omega (arith, fits)

    second : a.word + (n + m) < 2 ^ 64 → b.word ≡ a.word + n → b.word + m < 2 ^ 64
    second fits at = omega (arith, fits, at)

pub goes_as : {a b : Stand} {n m : ℕ} {f g : ℕ → List bodies.BodyAt} {p q : ℕ → List NameAt}
    {u v : ℕ → List ValueAt} → Goes a b n f p u → n ≡ m
    → ((k : ℕ) → f k ≡ g k) → ((k : ℕ) → p k ≡ q k) → ((k : ℕ) → u k ≡ v k) → Goes a b m g q v
goes_as {a} x same f p u = record {
  bodies = finds_as _ _ x.bodies same f;
  fields = finds_as _ _ x.fields same p;
  cases = finds_as _ _ x.cases same u;
  filled = λ fits. x.filled (subst (λ j. a.word + j < 2 ^ 64) (sym same) fits);
}

-- words without anything found, and then others
pub goes_past : {a b c : Stand} {n m : ℕ} {g : ℕ → List bodies.BodyAt} {q : ℕ → List NameAt}
    {v : ℕ → List ValueAt} → Goes a b n (λ k. []) (λ k. []) (λ k. []) → Goes b c m g q v
    → Goes a c (n + m) (λ k. g (k + n)) (λ k. q (k + n)) (λ k. v (k + n))
goes_past x y = goes_then x y

-- words behind which nothing is found
pub goes_before : {a b c : Stand} {n m : ℕ} {f : ℕ → List bodies.BodyAt} {p : ℕ → List NameAt}
    {u : ℕ → List ValueAt} → Goes a b n f p u → Goes b c m (λ k. []) (λ k. []) (λ k. [])
    → Goes a c (n + m) f p u
goes_before {f = f} {p} {u} x y = goes_as (goes_then x y) refl (λ k. append-nil (f k)) (λ k. append-nil (p k))
    (λ k. append-nil (u k))

-- ---- declarations

two : (n : ℕ) → 1 + (1 + n) ≡ suc (suc n)
two n = omega arith

-- a type with the words behind it, a name, and the words behind that
pub goes_typed : {a b c e : Stand} (type : tree.DataType) (name : List ℕ) (shape : tree.Shape) (behind : ℕ)
    → ((name : List ℕ) → star shape + (1 + behind) ≡ length (spell_named name shape))
    → Goes a b (length (spell_type type) + star shape) (λ k. bodies_of_type (star shape) k type)
    (λ k. []) (λ k. [])
    → GoesName b c name → Goes c e behind (λ k. []) (λ k. []) (λ k. [])
    → GoesDeclaration a e (tree.Of type name shape)
goes_typed type name shape behind count x y z =
    goes_as (goes_then x (goes_before y z))
    (long (length (spell_type type)) (star shape) behind (length (spell_named name shape)) (count name)
    ∙ sym (length-append (spell_type type) (spell_named name shape)))
    (λ k. append-nil (bodies_of_type (star shape) k type))
    (λ k. ap (λ w. record { word = w; name = name } ∷ []) (there k (length (spell_type type)) (star shape)))
    (λ k. refl)
  where
    long : (n s b m : ℕ) → s + (1 + b) ≡ m → (n + s) + (1 + b) ≡ n + m
    long n s b m h = omega (arith, h)

    there : (k n s : ℕ) → k + (n + s) ≡ (k + n) + s
    there k n s = omega arith

-- a word, a name, and the words of a length
pub goes_opaque : {a b c e : Stand} (name : List ℕ) (size : tree.Length)
    → Goes a b 1 (λ k. []) (λ k. []) (λ k. []) → GoesName b c name
    → Goes c e (length (spell_length size)) (λ k. []) (λ k. []) (λ k. [])
    → GoesDeclaration a e (tree.Opaque name size)
goes_opaque name size x y z = goes_as (goes_past x (goes_before y z)) (two (length (spell_length size)))
    (λ k. refl) (λ k. refl) (λ k. refl)

pub goes_string : {a b c e : Stand} (name : List ℕ) (most : Option tree.Value)
    → Goes a b 1 (λ k. []) (λ k. []) (λ k. []) → GoesName b c name
    → Goes c e (length (spell_length (tree.Variable most))) (λ k. []) (λ k. []) (λ k. [])
    → GoesDeclaration a e (tree.String name most)
goes_string name most x y z = goes_as (goes_past x (goes_before y z))
    (two (length (spell_length (tree.Variable most)))) (λ k. refl) (λ k. refl) (λ k. refl)

-- ---- lists

pub goes_fields : {a b c e : Stand} (d : tree.Declaration) (ds : tree.Declarations) → GoesDeclaration a b d
    → Goes b c 1 (λ k. []) (λ k. []) (λ k. []) → GoesFields c e ds → GoesFields a e (tree.more d ds)
goes_fields d ds x y z =
    goes_as (goes_then (goes_before x y) z)
    (long (length (spell_declaration d)) (length (spell_declarations ds))
    ∙ sym (length-append (spell_declaration d) (_ ∷ spell_declarations ds)))
    (λ k. ap (λ w. bodies_of_declaration k d ++ bodies_of_fields w ds)
    (there k (length (spell_declaration d))))
    (λ k. ap (λ w. field_at k d ++ fields_from w ds) (there k (length (spell_declaration d))))
    (λ k. refl)
  where
    long : (n m : ℕ) → (n + 1) + m ≡ n + suc m
    long n m = omega arith

    there : (k n : ℕ) → k + (n + 1) ≡ (k + n) + 1
    there k n = omega arith

-- a name, or a value, that was added to what is found of the body

pub goes_name : (a b : Stand) (name : List ℕ) → b.word ≡ a.word → b.list ≡ a.list
    → b.fields ≡ a.fields ++ record { word = a.word; name = name } ∷ [] → b.cases ≡ a.cases
    → Goes a b 0 (λ k. []) (λ k. record { word = k; name = name } ∷ []) (λ k. [])
goes_name a b name at list fields cases = record {
  bodies = record {
    word = λ fits. here;
    list = λ fits. ap (map view_body_at) list ∙ sym (append-nil (map view_body_at a.list));
  };
  fields = record { word = λ fits. here; list = λ fits. fields };
  cases = record { word = λ fits. here; list = λ fits. cases ∙ sym (append-nil a.cases) };
  filled = λ fits are. subst AreFilled (sym list) are;
}
  where
    here : b.word ≡ a.word + 0
    here = omega (arith, at)

pub goes_value : (a b : Stand) (value : tree.Value) → b.word ≡ a.word → b.list ≡ a.list → b.fields ≡ a.fields
    → b.cases ≡ a.cases ++ record { word = a.word; value = value } ∷ []
    → Goes a b 0 (λ k. []) (λ k. []) (λ k. record { word = k; value = value } ∷ [])
goes_value a b value at list fields cases = record {
  bodies = record {
    word = λ fits. here;
    list = λ fits. ap (map view_body_at) list ∙ sym (append-nil (map view_body_at a.list));
  };
  fields = record { word = λ fits. here; list = λ fits. fields ∙ sym (append-nil a.fields) };
  cases = record { word = λ fits. here; list = λ fits. cases };
  filled = λ fits are. subst AreFilled (sym list) are;
}
  where
    here : b.word ≡ a.word + 0
    here = omega (arith, at)

pub goes_cases : {a b c e f : Stand} (v : tree.Value) (vs : List tree.Value)
    → Goes a b 1 (λ k. []) (λ k. []) (λ k. [])
    → Goes b c 0 (λ k. []) (λ k. []) (λ k. record { word = k; value = v } ∷ [])
    → Goes c e 2 (λ k. []) (λ k. []) (λ k. []) → GoesCases e f vs → GoesCases a f (v ∷ vs)
goes_cases v vs x y z rest =
    goes_as (goes_past x (goes_then (goes_before y z) rest)) (long (length (spell_cases vs)))
    (λ k. refl) (λ k. refl)
    (λ k. ap (λ w. record { word = k + 1; value = v } ∷ cases_from w vs) (there k))
  where
    long : (n : ℕ) → 1 + ((0 + 2) + n) ≡ suc (suc (suc n))
    long n = omega arith

    there : (k : ℕ) → (k + 1) + (0 + 2) ≡ k + 3
    there k = omega arith

pub goes_arms : {a b c e f : Stand} (values : List tree.Value) (d : tree.Declaration) (rest : tree.Arms)
    → GoesCases a b values → GoesDeclaration b c d → Goes c e 1 (λ k. []) (λ k. []) (λ k. [])
    → GoesArms e f rest
    → GoesArms a f (tree.arm values d rest)
goes_arms values d rest x y z w =
    goes_as (goes_then x (goes_then (goes_before y z) w))
    (long (length (spell_cases values)) (length (spell_declaration d)) (length (spell_arms rest)) ∙ sym whole)
    (λ k. ap (λ j. bodies_of_declaration (k + length (spell_cases values)) d ++ bodies_of_arms j rest)
    (there (k + length (spell_cases values)) (length (spell_declaration d))))
    (λ k. ap (λ j. field_at (k + length (spell_cases values)) d ++ arm_names_from j rest)
    (there (k + length (spell_cases values)) (length (spell_declaration d))))
    (λ k. ap (λ j. cases_from k values ++ arm_cases_from j rest)
    (there (k + length (spell_cases values)) (length (spell_declaration d))))
  where
    long : (n m l : ℕ) → n + ((m + 1) + l) ≡ n + (m + suc l)
    long n m l = omega arith

    there : (k n : ℕ) → k + (n + 1) ≡ (k + n) + 1
    there k n = omega arith

    whole : length (spell_arms (tree.arm values d rest))
        ≡ length (spell_cases values) + (length (spell_declaration d) + suc (length (spell_arms rest)))
    whole = length-append (spell_cases values) (spell_declaration d ++ _ ∷ spell_arms rest)
        ∙ ap (λ n. length (spell_cases values) + n)
        (length-append (spell_declaration d) (_ ∷ spell_arms rest))

pub goes_default : {a b c e : Stand} (d : tree.Declaration) → Goes a b 2 (λ k. []) (λ k. []) (λ k. [])
    → GoesDeclaration b c d → Goes c e 2 (λ k. []) (λ k. []) (λ k. []) → GoesDefault a e (tree.default d)
goes_default d x y z =
    goes_as (goes_past x (goes_before y z)) (long (length (spell_declaration d))
    ∙ ap (λ n. suc (suc n)) (sym (length-append (spell_declaration d) (_ ∷ _ ∷ [])))) (λ k. refl)
    (λ k. refl) (λ k. refl)
  where
    long : (n : ℕ) → 2 + (n + 2) ≡ suc (suc (n + 2))
    long n = omega arith

-- ---- bodies

abbrev pub GoesBody : Stand → Stand → tree.Body → Type 0
GoesBody a b body = (named : ℕ) → Goes a b (length (spell_body body)) (λ k. bodies_inside k body)
    (λ k. fields_of (body_at named k body)) (λ k. cases_of (body_at named k body))

-- words between the braces
braced : (n : ℕ) → 1 + (n + 1) ≡ suc (n + 1)
braced n = omega arith

pub goes_enum : {a b c e : Stand} (es : List tree.Enumerator) → Goes a b 1 (λ k. []) (λ k. []) (λ k. [])
    → Goes b c (length (spell_enumerators es)) (λ k. []) (λ k. []) (λ k. [])
    → Goes c e 1 (λ k. []) (λ k. []) (λ k. [])
    → GoesBody a e (tree.Enum es)
goes_enum es x y z named =
    goes_as (goes_past x (goes_before y z)) (braced (length (spell_enumerators es))
    ∙ ap suc (sym (length-append (spell_enumerators es) (_ ∷ [])))) (λ k. refl) (λ k. refl) (λ k. refl)

pub goes_struct : {a b c e : Stand} (ds : tree.Declarations) → Goes a b 1 (λ k. []) (λ k. []) (λ k. [])
    → GoesFields b c ds → Goes c e 1 (λ k. []) (λ k. []) (λ k. []) → GoesBody a e (tree.Struct ds)
goes_struct ds x y z named =
    goes_as (goes_past x (goes_before y z)) (braced (length (spell_declarations ds))
    ∙ ap suc (sym (length-append (spell_declarations ds) (_ ∷ [])))) (λ k. refl) (λ k. refl) (λ k. refl)

union_long : (d : tree.Declaration) (arms : tree.Arms) (other : tree.Default)
    → length (spell_body (tree.Union d arms other))
    ≡ suc (suc (length (spell_declaration d)
    + suc (suc (length (spell_arms arms) + length (spell_default other)))))
union_long d arms other =
    ap (λ n. suc (suc n)) (length-append (spell_declaration d)
    (_ ∷ _ ∷ (spell_arms arms ++ spell_default other)) ∙ ap (λ n. length (spell_declaration d) + suc (suc n))
    (length-append (spell_arms arms) (spell_default other)))

pub goes_union : {a b c e f g : Stand} (d : tree.Declaration) (arms : tree.Arms) (other : tree.Default)
    → Goes a b 2 (λ k. []) (λ k. []) (λ k. []) → GoesDeclaration b c d
    → Goes c e 2 (λ k. []) (λ k. []) (λ k. [])
    → GoesArms e f arms → GoesDefault f g other → GoesBody a g (tree.Union d arms other)
goes_union d arms other x y z u v named =
    goes_as (goes_past x (goes_then (goes_before y z) (goes_then u v)))
    (long (length (spell_declaration d)) (length (spell_arms arms)) (length (spell_default other))
    ∙ sym (union_long d arms other))
    (λ k. ap (λ w. bodies_of_declaration (k + 2) d
    ++ (bodies_of_arms w arms ++ bodies_of_default (w + length (spell_arms arms)) other))
    (there (k + 2) (length (spell_declaration d))))
    (λ k.
    ap (λ w. field_at (k + 2) d
    ++ (arm_names_from w arms ++ default_name (w + length (spell_arms arms)) other))
    (there (k + 2) (length (spell_declaration d))))
    (λ k. append-nil (arm_cases_from ((k + 2) + (length (spell_declaration d) + 2)) arms)
    ∙ ap (λ w. arm_cases_from w arms) (there (k + 2) (length (spell_declaration d))))
  where
    long : (n m l : ℕ) → 2 + ((n + 2) + (m + l)) ≡ suc (suc (n + suc (suc (m + l))))
    long n m l = omega arith

    there : (k n : ℕ) → k + (n + 2) ≡ (k + n) + 2
    there k n = omega arith

-- the word behind the discriminant of a union
pub behind_union : {a b c : Stand} (d : tree.Declaration) (arms : tree.Arms) (other : tree.Default)
    → Goes a b 2 (λ k. []) (λ k. []) (λ k. []) → GoesDeclaration b c d
    → a.word + length (spell_body (tree.Union d arms other)) < 2 ^ 64
    → c.word ≡ (a.word + 2) + length (spell_declaration d)
behind_union {a} d arms other x y fits =
    (goes_past x y).bodies.word
    (few (length (spell_declaration d)) (length (spell_arms arms) + length (spell_default other))
    (subst (λ m. a.word + m < 2 ^ 64) (union_long d arms other) fits))
    ∙ there (length (spell_declaration d))
  where
    few : (m l : ℕ) → a.word + suc (suc (m + suc (suc l))) < 2 ^ 64 → a.word + (2 + m) < 2 ^ 64
    few m l h = omega (arith, h)

    there : (m : ℕ) → a.word + (2 + m) ≡ (a.word + 2) + m
    there m = omega arith

-- ---- types

pub goes_inline : {a b c : Stand} (before : ℕ) (body : tree.Body) → Goes a b 1 (λ k. []) (λ k. []) (λ k. [])
    → Goes b c (length (spell_body body) + before)
    (λ k. bodies_inside k body ++ body_at (k + length (spell_body body) + before) k body ∷ [])
    (λ k. []) (λ k. [])
    → Goes a c (length (spell_type (tree.Inline body)) + before)
    (λ k. bodies_of_type before k (tree.Inline body)) (λ k. []) (λ k. [])
goes_inline before body x y = goes_as (goes_past x y) (long (length (spell_body body)) before) (λ k. refl)
    (λ k. refl) (λ k. refl)
  where
    long : (n m : ℕ) → 1 + (n + m) ≡ suc n + m
    long n m = omega arith

pub are_more : (bs : List BodyAt) (b : BodyAt) → AreFilled bs → IsFilled b → AreFilled (bs ++ b ∷ [])
are_more bs b are is y h = by (among_parts bs (b ∷ []) y h)
  where
    one : (y ≡ b) ⊎ IsAmong [] y → IsFilled y
    one (inl e) = subst IsFilled (sym e) is
    one (inr k) = absurd (among_none y k)

    by : IsAmong bs y ⊎ IsAmong (b ∷ []) y → IsFilled y
    by (inl k) = are y k
    by (inr k) = one (among_cases b y [] k)

pub are_first : (bs : List BodyAt) (b : BodyAt) → AreFilled bs → IsFilled b → AreFilled (b ∷ bs)
are_first bs b are is y h = by (among_cases b y bs h)
  where
    by : (y ≡ b) ⊎ IsAmong bs y → IsFilled y
    by (inl e) = subst IsFilled (sym e) is
    by (inr k) = are y k

-- a body with what was found in it
abbrev pub filled_body : ℕ → ℕ → Bor Body → Contents → BodyAt
filled_body named at body contents = record {
  named = named;
  at = at;
  body = body;
  fields = contents.fields;
  cases = contents.cases;
  behind_discriminant = contents.behind_discriminant;
}

pub filled_is : (from to : BodyWalk) (body : Bor Body) (contents : Contents) (named : ℕ)
    → GoesInside from to (view_body body.now) contents
    → from.word + length (spell_body (view_body body.now)) < 2 ^ 64
    → IsFilled (filled_body named from.word body contents)
filled_is from to body contents named x fits = record {
  fields = (x.goes named).fields.list fits;
  cases = (x.goes named).cases.list fits;
  behind = x.behind fits;
  ends = fits;
}

-- a body, the words between it and the name that is
-- declared, and the body in its place behind those inside it
pub finds_body : (from at after to : BodyWalk) (body : Bor Body) (contents : Contents) (before : ℕ)
    → GoesInside from at (view_body body.now) contents → Passes at after before
    → to.word ≡ after.word → to.list.items ≡ after.list.items ++ filled_body after.word from.word body
    contents ∷ [] → FindsBody from to before (view_body body.now)
finds_body from at after to body contents before x y word list fields cases = record {
  bodies = record {
    word = λ fits. word ∙ here fits;
    list = λ fits. ap (map view_body_at) list
        ∙ map_append view_body_at after.list.items (own ∷ [])
        ∙ ap (λ l. l ++ view_body_at own ∷ []) (z.bodies.list fits)
        ∙ append_assoc (map view_body_at from.list.items) (bodies_inside from.word (view_body body.now))
        (view_body_at own ∷ [])
        ∙ ap (λ w. map view_body_at from.list.items
        ++ (bodies_inside from.word (view_body body.now) ++ body_at w from.word (view_body body.now) ∷ []))
        (here fits ∙ there from.word n before);
  };
  fields = record { word = λ fits. word ∙ here fits; list = λ fits. sym (append-nil fields) };
  cases = record { word = λ fits. word ∙ here fits; list = λ fits. sym (append-nil cases) };
  filled = λ fits are. subst AreFilled (sym list)
      (are_more after.list.items own (z.filled fits are)
      (filled_is from at body contents after.word x (few from.word n before fits)));
}
  where
    n : ℕ
    n = length (spell_body (view_body body.now))

    own : BodyAt
    own = filled_body after.word from.word body contents

    z : Goes (within from [] []) (stand after contents) (n + before)
        (λ k. bodies_inside k (view_body body.now)) (λ k. fields_of (body_at 0 k (view_body body.now)))
        (λ k. cases_of (body_at 0 k (view_body body.now)))
    z = goes_before (x.goes 0) (y _ _)

    here : from.word + (n + before) < 2 ^ 64 → after.word ≡ from.word + (n + before)
    here fits = z.bodies.word fits

    there : (k n m : ℕ) → k + (n + m) ≡ (k + n) + m
    there k n m = omega arith

    few : (k n m : ℕ) → k + (n + m) < 2 ^ 64 → k + n < 2 ^ 64
    few k n m h = omega (arith, h)

pub finds_own : (from at to : BodyWalk) (body : Bor Body) (contents : Contents)
    → GoesInside from at (view_body body.now) contents
    → to.list.items ≡ filled_body 1 from.word body contents ∷ at.list.items
    → FindsOwn from to (view_body body.now)
finds_own from at to body contents x list = record {
  bodies = λ fits. ap (map view_body_at) list
      ∙ ap (λ l. body_at 1 from.word (view_body body.now) ∷ l) ((x.goes 1).bodies.list fits);
  filled = λ fits are. subst AreFilled (sym list)
      (are_first at.list.items (filled_body 1 from.word body contents) ((x.goes 1).filled fits are)
      (filled_is from at body contents 1 x fits));
}

-- ---- enumerators

pub passes_enumerator : (a b c e : BodyWalk) (x : tree.Enumerator) (xs : List tree.Enumerator) (n : ℕ)
    → n ≡ length (spell_enumerator x) → Passes a b 1 → Passes b c n
    → Passes c e (length (spell_other_enumerators xs))
    → Passes a e (length (spell_other_enumerators (x ∷ xs)))
passes_enumerator a b c e x xs n is one own rest fields cases =
    goes_as (goes_past (one fields cases) (goes_past (own fields cases) (rest fields cases)))
    (ap (λ m. 1 + (m + length (spell_other_enumerators xs))) is
    ∙ long (length (spell_enumerator x)) (length (spell_other_enumerators xs))
    ∙ ap suc (sym (length-append (spell_enumerator x) (spell_other_enumerators xs))))
    (λ k. refl) (λ k. refl) (λ k. refl)
  where
    long : (n m : ℕ) → 1 + (n + m) ≡ suc (n + m)
    long n m = omega arith

pub passes_enumerators : (a b c : BodyWalk) (x : tree.Enumerator) (xs : List tree.Enumerator) (n : ℕ)
    → n ≡ length (spell_enumerator x) → Passes a b n
    → Passes b c (length (spell_other_enumerators xs)) → Passes a c (length (spell_enumerators (x ∷ xs)))
passes_enumerators a b c x xs n is own rest fields cases =
    goes_as (goes_past (own fields cases) (rest fields cases))
    (ap (λ m. m + length (spell_other_enumerators xs)) is
    ∙ sym (length-append (spell_enumerator x) (spell_other_enumerators xs)))
    (λ k. refl) (λ k. refl) (λ k. refl)

-- ---- what stands in a body, from contents that were empty

stand_empty : (w : BodyWalk) (c : Contents) → c.fields.items ≡ [] → c.cases.items ≡ []
    → stand w c ≡ within w [] []
stand_empty w c fields cases =
    ap (λ l. within w (map view_name_at l) (map view_value_at c.cases.items)) fields
    ∙ ap (λ l. within w [] (map view_value_at l)) cases

pub inside_of : (from to : BodyWalk) (body : tree.Body) (before contents : Contents) → before.fields.items
    ≡ [] → before.cases.items ≡ [] → GoesBody (stand from before) (stand to contents) body
    → (from.word + length (spell_body body) < 2 ^ 64 → IsBehind body from.word contents.behind_discriminant)
    → GoesInside from to body contents
inside_of from to body before contents fields cases x behind = record {
  goes = λ named. subst (λ s. GoesBody s (stand to contents) body)
      (stand_empty from before fields cases) x named;
  behind = behind;
}

-- ---- definitions

none_filled : (bs : List BodyAt) → bs ≡ [] → AreFilled bs
none_filled bs none b h = absurd (among_none b (subst (λ l. IsAmong l b) none h))

pub finds_nothing : (a : BodyWalk) (d : tree.Definition) → bodies.bodies d ≡ [] → FindsAll a a d
finds_nothing a d is = record {
  by = λ start none short.
      record { bodies = ap (map view_body_at) none ∙ sym is; filled = none_filled a.list.items none };
}

are_typedef : (a b c : Stand) (d : tree.Declaration) → a.word ≡ 0 → a.list ≡ []
    → Goes a b 1 (λ k. []) (λ k. []) (λ k. []) → GoesDeclaration b c d → IsShort (tree.Typedef d)
    → AreBodies c.list (tree.Typedef d)
are_typedef a b c d start none x y short = record {
  bodies = z.bodies.list fits ∙ ap (λ l. map view_body_at l ++ bodies_of_declaration (a.word + 1) d) none
      ∙ ap (λ w. bodies_of_declaration (w + 1) d) start;
  filled = z.filled fits (none_filled a.list none);
}
  where
    z : Goes a c (1 + length (spell_declaration d)) (λ k. bodies_of_declaration (k + 1) d)
        (λ k. field_at (k + 1) d) (λ k. [])
    z = goes_past x y

    few : (n : ℕ) → suc (n + 1) < 2 ^ 64 → a.word + (1 + n) < 2 ^ 64
    few n h = omega (arith, h, start)

    fits : a.word + (1 + length (spell_declaration d)) < 2 ^ 64
    fits = few (length (spell_declaration d))
        (subst (λ n. suc n < 2 ^ 64) (length-append (spell_declaration d) (_ ∷ [])) short)

pub finds_typedef : (from at to : BodyWalk) (before after : Contents) (d : tree.Declaration)
    → Passes from at 1 → GoesDeclaration (stand at before) (stand to after) d
    → FindsAll from to (tree.Typedef d)
finds_typedef from at to before after d x y = record {
  by = λ start none short. are_typedef (stand from before) (stand at before) (stand to after) d start none
      (x _ _) y short;
}

are_new_type : (from at to : BodyWalk) (name : List ℕ) (body : tree.Body) → from.word ≡ 0
    → from.list.items ≡ [] → Passes from at 2 → FindsOwn at to body → IsShort (tree.NewType name body)
    → AreBodies to.list.items (tree.NewType name body)
are_new_type from at to name body start none x own short = record {
  bodies = own.bodies fits ∙ ap (λ l. body_at 1 at.word body ∷ (l ++ bodies_inside at.word body)) empty
      ∙ ap (λ w. body_at 1 w body ∷ bodies_inside w body) second;
  filled = own.filled fits (y.filled two_fit (none_filled from.list.items none));
}
  where
    y : Goes (within from [] []) (within at [] []) 2 (λ k. []) (λ k. []) (λ k. [])
    y = x [] []

    two_fit : from.word + 2 < 2 ^ 64
    two_fit = omega (arith, start)

    second : at.word ≡ 2
    second = y.bodies.word two_fit ∙ ap (λ w. w + 2) start

    empty : map view_body_at at.list.items ≡ []
    empty = y.bodies.list two_fit ∙ ap (λ l. map view_body_at l ++ []) none

    few : (n : ℕ) → suc (suc (n + 1)) < 2 ^ 64 → at.word + n < 2 ^ 64
    few n h = omega (arith, h, second)

    fits : at.word + length (spell_body body) < 2 ^ 64
    fits = few (length (spell_body body))
        (subst (λ n. suc (suc n) < 2 ^ 64) (length-append (spell_body body) (_ ∷ [])) short)

pub finds_new_type : (from at to : BodyWalk) (name : List ℕ) (body : tree.Body) → Passes from at 2
    → FindsOwn at to body → FindsAll from to (tree.NewType name body)
finds_new_type from at to name body x own =
    record { by = λ start none short. are_new_type from at to name body start none x own short }
