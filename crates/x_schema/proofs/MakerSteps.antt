-- Steps of the maker of a schema, one behind another.
use Rattle.std.proofs.Common.{◌≡◌, ℕ, ◌+◌, ◌<◌, ◌≤◌, arith, nat_lt, Bool, true, false, map, length, get_or}
use Rattle.std.proofs.Common.{List, [], ◌∷◌, ◌++◌, refl, sym, ap, subst, ◌∙◌, append_assoc, append-nil}
use Rattle.std.proofs.Common.{length-append}
use Rattle.std.proofs.lemmas.List.{length-map, get_or_at, get_or_append_left}
use Rattle.std.proofs.lemmas.Bool.Decides.{nat_tests}
use Rattle.x_trees.specs.Tree as tree
use Rattle.x_schema.specs.Schema.{Schema, form_at, name_at, target_at}
use Rattle.x_schema.specs.SchemaOf.{Known, Types, AreNamed, IsDeclared}
use Rattle.x_trees.specs.Declarations.{name_of}
use Rattle.x_schema.specs.SchemaMaking.{IsFront, Completes, Behind, IsGood, Puts, AddsName, AddsForm}
use Rattle.x_schema.specs.SchemaMaking.{AddsLink, AddsFound, AreLinksWithin, AreWithin, IsWithin, names_made}
use Rattle.x_schema.specs.SchemaMaking.{place_linked}
use Rattle.x_schema.specs.Sound.{IsSoundForm}
use Rattle.x_schema.specs.declared.form.Form.{Form}
use Rattle.x_schema.specs.declared.form.Form.TheVariants as forms
use Rattle.x_schema.specs.declared.maker.Link.{Link}
use Rattle.x_schema.specs.declared.maker.Link.TheVariants as links
use Rattle.x_schema.specs.declared.maker.Maker.{Maker}
use Rattle.x_schema.specs.declared.schema.NamedType.{NamedType}
use Rattle.x_lists.proofs.ListLemmas.{map_append}

-- ---- fronts

pub front_of : {X : Type 0} (front more xs all : List X) → front ≡ xs ++ more → IsFront front all
    → IsFront xs all
front_of front more xs all is f =
    record { rest = more ++ f.rest; is = f.is ∙ ap (λ l. l ++ f.rest) is ∙ append_assoc xs more f.rest }

pub front_same : {X : Type 0} (front xs all : List X) → front ≡ xs → IsFront front all → IsFront xs all
front_same front xs all is f = record { rest = f.rest; is = f.is ∙ ap (λ l. l ++ f.rest) is }

-- what stands in a place of the front
pub front_get : {X : Type 0} (front all : List X) (i : ℕ) (d : X) → IsFront front all → i < length front
    → get_or all i d ≡ get_or front i d
front_get front all i d f lt = ap (λ l. get_or l i d) f.is ∙ get_or_append_left front f.rest d i lt

-- what stands behind the front
pub front_next : {X : Type 0} (xs front all : List X) (x d : X) → front ≡ xs ++ x ∷ [] → IsFront front all
    → get_or all (length xs) d ≡ x
front_next xs front all x d is f =
    ap (λ l. get_or l (length xs) d) (f.is ∙ ap (λ l. l ++ f.rest) is ∙ append_assoc xs (x ∷ []) f.rest)
    ∙ get_or_at xs x f.rest d (length xs) refl

pub front_longer : {X : Type 0} (front all : List X) → IsFront front all → length front ≤ length all
front_longer front all f =
    let long : length all ≡ length front + length f.rest = ap length f.is ∙ length-append front f.rest in
    omega (arith, long)

pub one_longer : {X : Type 0} (xs ys : List X) (x : X) → ys ≡ xs ++ x ∷ [] → length ys ≡ length xs + 1
one_longer xs ys x is = ap length is ∙ length-append xs (x ∷ [])

-- ---- names, forms and links more

pub named_long : (m : Maker) → length (names_made m) ≡ length m.names.items
named_long m = length-map m.names.items (λ n. n.items)

pub names_long : (old new : Maker) (name : List ℕ) → names_made new ≡ names_made old ++ name ∷ []
    → length new.names.items ≡ length old.names.items + 1
names_long old new name is =
    sym (named_long new) ∙ one_longer (names_made old) (names_made new) name is
    ∙ ap (λ n. n + 1) (named_long old)

pub names_same : (old new : Maker) → names_made new ≡ names_made old
    → length new.names.items ≡ length old.names.items
names_same old new is = sym (named_long new) ∙ ap length is ∙ named_long old

pub completes_more : (old new : Maker) (ns : List (List ℕ)) (fs : List Form) (ls : List Link) (s : Schema)
    → names_made new ≡ names_made old ++ ns → new.forms.items ≡ old.forms.items ++ fs
    → new.links.items ≡ old.links.items ++ ls
    → Completes new s → Completes old s
completes_more old new ns fs ls s names forms links c = record {
  names = front_of (names_made new) ns (names_made old) s.names names c.names;
  forms = front_of new.forms.items fs old.forms.items s.forms forms c.forms;
  links = front_of (map (place_linked s.types) new.links.items) (map (place_linked s.types) ls)
      (map (place_linked s.types) old.links.items) s.links
      (ap (map (place_linked s.types)) links ∙ map_append (place_linked s.types) old.links.items ls) c.links;
}

no_more : {X : Type 0} (xs ys : List X) → ys ≡ xs → ys ≡ xs ++ []
no_more xs ys is = is ∙ sym (append-nil xs)

pub name_completes : (old new : Maker) (name : List ℕ) (index : ℕ) (s : Schema) → AddsName old new name index
    → Completes new s → Completes old s
name_completes old new name index s a c =
    completes_more old new (name ∷ []) [] [] s a.names (no_more old.forms.items new.forms.items a.forms)
    (no_more old.links.items new.links.items a.links) c

pub form_completes : (old new : Maker) (form : Form) (place : ℕ) (s : Schema) → AddsForm old new form place
    → Completes new s → Completes old s
form_completes old new form place s a c =
    completes_more old new [] (form ∷ []) [] s (no_more (names_made old) (names_made new) a.names) a.forms
    (no_more old.links.items new.links.items a.links) c

pub link_completes : (old new : Maker) (link : Link) (place : ℕ) (s : Schema) → AddsLink old new link place
    → Completes new s → Completes old s
link_completes old new link place s a c =
    completes_more old new [] [] (link ∷ []) s (no_more (names_made old) (names_made new) a.names)
    (no_more old.forms.items new.forms.items a.forms) a.links c

pub found_completes : (old new : Maker) (name : List ℕ) (place : ℕ) (s : Schema)
    → AddsFound old new name place → Completes new s → Completes old s
found_completes old new name place s a c =
    completes_more old new (name ∷ []) [] [] s a.names (no_more old.forms.items new.forms.items a.forms)
    (no_more old.links.items new.links.items a.links) c

-- whatever completes it is behind it
pub behind_of : (m : Maker) (s : Schema) → Completes m s → Behind m (length s.names) (length m.forms.items) s
behind_of m s c =
    record {
      names = subst (λ n. n ≤ length s.names) (named_long m) (front_longer (names_made m) s.names c.names);
      forms = omega arith;
      completes = c;
    }

-- ---- soundness

pub links_more : (i j : ℕ) (ls : List Link) → i ≤ j → AreLinksWithin i ls → AreLinksWithin j ls
links_more i j [] le h = h
links_more i j (links.To place ∷ ls) le h = let lt = h.0 in (omega (arith, lt, le), links_more i j ls le h.1)
links_more i j (links.Named name ∷ ls) le h = links_more i j ls le h

pub links_append : (i : ℕ) (ls : List Link) (l : Link) → AreLinksWithin i ls → AreLinksWithin i (l ∷ [])
    → AreLinksWithin i (ls ++ l ∷ [])
links_append i [] l h one = one
links_append i (links.To place ∷ ls) l h one = (h.0, links_append i ls l h.1 one)
links_append i (links.Named name ∷ ls) l h one = links_append i ls l h one

pub within_more : (n m i j : ℕ) (t : NamedType) → n ≤ m → i ≤ j → IsWithin n i t → IsWithin m j t
within_more n m i j t names forms h =
    let f = h.0 in let g = h.1 in (omega (arith, f, forms), omega (arith, g, names))

-- as many forms, and no fewer names
pub good_same : (types : Types) (old new : Maker) → new.forms.items ≡ old.forms.items
    → length old.names.items ≤ length new.names.items
    → AreLinksWithin (length old.forms.items) new.links.items
    → ((s : Schema) → Completes new s → Completes old s) → IsGood types old → IsGood types new
good_same types old new same longer linked back g = record {
  void = subst (λ l. IsFront (forms.Void ∷ []) l) (sym same) g.void;
  sound = λ s c i lt. g.sound s (back s c) i (subst (λ l. i < length l) same lt);
  links = subst (λ l. AreLinksWithin (length l) new.links.items) (sym same) linked;
  within = λ name t h. within_more (length old.names.items) (length new.names.items) (length old.forms.items)
      (length new.forms.items) t longer
      (subst (λ l. length old.forms.items ≤ length l) (sym same) (omega arith)) (g.within name t h);
}

pub good_form : (types : Types) (old new : Maker) (form : Form) (place : ℕ) → AddsForm old new form place
    → IsGood types old
    → ((s : Schema) → Completes old s → IsSoundForm s place form) → IsGood types new
good_form types old new form place a g fresh =
    let long = one_longer old.forms.items new.forms.items form a.forms in
    let names = names_same old new a.names in
    record {
      void = record { rest = g.void.rest ++ form ∷ []; is = a.forms ∙ ap (λ l. l ++ form ∷ []) g.void.is };
      sound = λ s c i lt. by s c i lt (nat_lt i (length old.forms.items)) refl;
      links = links_more (length old.forms.items) (length new.forms.items) new.links.items
          (omega (arith, long)) (subst (AreLinksWithin (length old.forms.items)) (sym a.links) g.links);
      within = λ name t h. within_more (length old.names.items) (length new.names.items)
          (length old.forms.items) (length new.forms.items) t (omega (arith, names)) (omega (arith, long))
          (g.within name t h);
    }
  where
    by : (s : Schema) → Completes new s → (i : ℕ) → i < length new.forms.items → (b : Bool)
        → nat_lt i (length old.forms.items) ≡ b → IsSoundForm s i (form_at s i)
    by s c i lt true e = g.sound s (form_completes old new form place s a c) i (grind (arith, nat_tests))
    by s c i lt false e =
        let long = one_longer old.forms.items new.forms.items form a.forms in
        let not_less : length old.forms.items ≤ i = grind (arith, nat_tests) in
        let here : i ≡ length old.forms.items = omega (arith, long, lt, not_less) in
        let place_is = a.place_is in
        let there : place ≡ i = omega (arith, here, place_is) in
        let made : form_at s i ≡ form = ap (form_at s) here
        ∙ front_next old.forms.items new.forms.items s.forms form forms.Void a.forms c.forms in
        subst (λ f. IsSoundForm s i f) (sym made)
        (subst (λ p. IsSoundForm s p form) there (fresh s (form_completes old new form place s a c)))

-- ---- steps

pub puts_none : (known : Known) (m : Maker) (Is : ℕ → ℕ → Schema → Type 0) → IsGood known.types m
    → ((n i : ℕ) (s : Schema) → Behind m n i s → Is n i s) → Puts known m m [] Is
puts_none known m Is g is = record {
  behind = λ n i s b. b;
  longer = omega arith;
  good = g;
  found = [];
  adds = sym (append-nil m.found.items);
  named = λ n i s b. (refl, tt);
  is = is;
}

behind_form : (old new : Maker) (form : Form) (place n i : ℕ) (s : Schema) → AddsForm old new form place
    → Behind new n i s → Behind old n i s
behind_form old new form place n i s a b =
    let long = one_longer old.forms.items new.forms.items form a.forms in
    let names = names_same old new a.names in
    let bn = b.names in let bf = b.forms in
    record {
      names = omega (arith, names, bn);
      forms = omega (arith, long, bf);
      completes = form_completes old new form place s a b.completes;
    }

pub puts_form : (known : Known) (old new : Maker) (form : Form) (place : ℕ) → AddsForm old new form place
    → IsGood known.types old
    → ((s : Schema) → Completes old s → IsSoundForm s place form)
    → Puts known old new [] (λ n i s. (form_at s place ≡ form) × (place < i))
puts_form known old new form place a g fresh =
    let long = one_longer old.forms.items new.forms.items form a.forms in
    record {
      behind = λ n i s b. behind_form old new form place n i s a b;
      longer = omega (arith, long);
      good = good_form known.types old new form place a g fresh;
      found = [];
      adds = no_more old.found.items new.found.items a.found;
      named = λ n i s b. (refl, tt);
      is = λ n i s b. (
        ap (form_at s) a.place_is
            ∙ front_next old.forms.items new.forms.items s.forms form forms.Void a.forms b.completes.forms,
        less i b.forms,
      );
    }
  where
    less : (i : ℕ) → length new.forms.items ≤ i → place < i
    less i le = let long = one_longer old.forms.items new.forms.items form a.forms in let is = a.place_is in
        omega (arith, long, is, le)

pub puts_link : (known : Known) (old new : Maker) (link : Link) (place : ℕ) → AddsLink old new link place
    → IsGood known.types old → AreLinksWithin (length old.forms.items) (link ∷ [])
    → Puts known old new [] (λ n i s. (target_at s place ≡ place_linked s.types link)
    × (place < length s.links))
puts_link known old new link place a g within =
    let same = names_same old new a.names in
    record {
      behind = λ n i s b.
          record {
            names = subst (λ k. k ≤ n) same b.names;
            forms = subst (λ l. length l ≤ i) a.forms b.forms;
            completes = link_completes old new link place s a b.completes;
          };
      longer = subst (λ l. length old.forms.items ≤ length l) (sym a.forms) (omega arith);
      good = good_same known.types old new a.forms (omega (arith, same))
          (subst (AreLinksWithin (length old.forms.items)) (sym a.links)
          (links_append (length old.forms.items) old.links.items link g.links within))
          (λ s c. link_completes old new link place s a c) g;
      found = [];
      adds = no_more old.found.items new.found.items a.found;
      named = λ n i s b. (refl, tt);
      is = λ n i s b. (
        ap (target_at s) (there s) ∙ front_next (mapped s old) (mapped s new) s.links
            (place_linked s.types link) 0 (more s) b.completes.links,
        less s b.completes.links,
      );
    }
  where
    mapped : Schema → Maker → List ℕ
    mapped s m = map (place_linked s.types) m.links.items

    more : (s : Schema) → mapped s new ≡ mapped s old ++ place_linked s.types link ∷ []
    more s = ap (map (place_linked s.types)) a.links
        ∙ map_append (place_linked s.types) old.links.items (link ∷ [])

    there : (s : Schema) → place ≡ length (mapped s old)
    there s = a.place_is ∙ sym (length-map old.links.items (place_linked s.types))

    less : (s : Schema) → IsFront (mapped s new) s.links → place < length s.links
    less s f =
        let long = one_longer (mapped s old) (mapped s new) (place_linked s.types link) (more s) in
        let le = front_longer (mapped s new) s.links f in
        let is = there s in
        omega (arith, long, le, is)

name_behind : (old new : Maker) (name : List ℕ) (index n i : ℕ) (s : Schema) → AddsName old new name index
    → Behind new n i s → Behind old n i s
name_behind old new name index n i s a b =
    let long = names_long old new name a.names in
    let bn = b.names in
    record {
      names = omega (arith, long, bn);
      forms = subst (λ l. length l ≤ i) a.forms b.forms;
      completes = name_completes old new name index s a b.completes;
    }

pub puts_name : (known : Known) (old new : Maker) (name : List ℕ) (index : ℕ) → AddsName old new name index
    → IsGood known.types old
    → Puts known old new [] (λ n i s. (name_at s index ≡ name) × (index < n))
puts_name known old new name index a g =
    let long = names_long old new name a.names in
    record {
      behind = λ n i s b. name_behind old new name index n i s a b;
      longer = subst (λ l. length old.forms.items ≤ length l) (sym a.forms) (omega arith);
      good = good_same known.types old new a.forms (omega (arith, long))
          (subst (AreLinksWithin (length old.forms.items)) (sym a.links) g.links)
          (λ s c. name_completes old new name index s a c) g;
      found = [];
      adds = no_more old.found.items new.found.items a.found;
      named = λ n i s b. (refl, tt);
      is = λ n i s b. (
        ap (name_at s) there ∙ front_next (names_made old) (names_made new) s.names name [] a.names
            b.completes.names,
        less n b.names,
      );
    }
  where
    there : index ≡ length (names_made old)
    there = a.index_is ∙ sym (named_long old)

    less : (n : ℕ) → length new.names.items ≤ n → index < n
    less n le = let long = names_long old new name a.names in let is = a.index_is in
        omega (arith, long, is, le)

-- a typedef, of what is so declared
pub puts_found : (known : Known) (old new : Maker) (d : tree.Declaration) (name : List ℕ) (place : ℕ)
    → name_of d ≡ name → AddsFound old new name place → IsGood known.types old
    → ((n i : ℕ) (s : Schema) → Behind old n i s → IsDeclared s known d place × (place < i))
    → Puts known old new (d ∷ []) (λ n i s. Unit {0})
puts_found known old new d name place called a g is =
    let long = names_long old new name a.names in
    record {
      behind = behind;
      longer = subst (λ l. length old.forms.items ≤ length l) (sym a.forms) (omega arith);
      good = good_same known.types old new a.forms (omega (arith, long))
          (subst (AreLinksWithin (length old.forms.items)) (sym a.links) g.links)
          (λ s c. found_completes old new name place s a c) g;
      found = t ∷ [];
      adds = a.found;
      named = λ n i s b. (
        (t, [], refl, here s b.completes, (is n i s (behind n i s b)).0, refl),
        (((is n i s (behind n i s b)).1, less n b.names), tt),
      );
      is = λ n i s b. tt;
    }
  where
    t : NamedType
    t = record { name = length old.names.items; form = place }

    behind : (n i : ℕ) (s : Schema) → Behind new n i s → Behind old n i s
    behind n i s b =
        let long = names_long old new name a.names in
        let bn = b.names in
        record {
          names = omega (arith, long, bn);
          forms = subst (λ l. length l ≤ i) a.forms b.forms;
          completes = found_completes old new name place s a b.completes;
        }

    less : (n : ℕ) → length new.names.items ≤ n → length old.names.items < n
    less n le = let long = names_long old new name a.names in omega (arith, long, le)

    here : (s : Schema) → Completes new s → name_at s (length old.names.items) ≡ name_of d
    here s c = ap (name_at s) (sym (named_long old))
        ∙ front_next (names_made old) (names_made new) s.names name [] a.names c.names ∙ sym called

-- ---- one behind another

pub named_append : (s : Schema) (known : Known) (ds es : List tree.Declaration) (xs ys : List NamedType)
    → AreNamed s known ds xs → AreNamed s known es ys → AreNamed s known (ds ++ es) (xs ++ ys)
named_append s known [] es xs ys h k = subst (λ l. AreNamed s known es (l ++ ys)) (sym h) k
named_append s known (d ∷ ds) es xs ys (t, rest, is, name, declared, more) k =
    (t, rest ++ ys, ap (λ l. l ++ ys) is, name, declared, named_append s known ds es rest ys more k)

pub within_append : (n i : ℕ) (xs ys : List NamedType) → AreWithin n i xs → AreWithin n i ys
    → AreWithin n i (xs ++ ys)
within_append n i [] ys h k = k
within_append n i (x ∷ xs) ys h k = (h.0, within_append n i xs ys h.1 k)

pub and_then : (known : Known) (a b c : Maker) (N M T : List tree.Declaration)
    (P Q R : ℕ → ℕ → Schema → Type 0) → T ≡ N ++ M
    → Puts known a b N P → Puts known b c M Q → ((n i : ℕ) (s : Schema) → P n i s → Q n i s → R n i s)
    → Puts known a c T R
and_then known a b c N M T P Q R is p q both =
    let first = p.longer in
    let second = q.longer in
    record {
      behind = λ n i s h. p.behind n i s (q.behind n i s h);
      longer = omega (arith, first, second);
      good = q.good;
      found = p.found ++ q.found;
      adds = q.adds ∙ ap (λ l. l ++ q.found) p.adds ∙ append_assoc a.found.items p.found q.found;
      named = λ n i s h. (
        subst (λ l. AreNamed s known l (p.found ++ q.found)) (sym is)
            (named_append s known N M p.found q.found (p.named n i s (q.behind n i s h)).0
            (q.named n i s h).0),
        within_append n i p.found q.found (p.named n i s (q.behind n i s h)).1 (q.named n i s h).1,
      );
      is = λ n i s h. both n i s (p.is n i s (q.behind n i s h)) (q.is n i s h);
    }

-- what is told, in other words
pub put_as : (known : Known) (a b : Maker) (N : List tree.Declaration) (P Q : ℕ → ℕ → Schema → Type 0)
    → Puts known a b N P
    → ((n i : ℕ) (s : Schema) → Behind b n i s → P n i s → Q n i s) → Puts known a b N Q
put_as known a b N P Q p as_is = record {
  behind = p.behind;
  longer = p.longer;
  good = p.good;
  found = p.found;
  adds = p.adds;
  named = p.named;
  is = λ n i s h. as_is n i s h (p.is n i s h);
}
