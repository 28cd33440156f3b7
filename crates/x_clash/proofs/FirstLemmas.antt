-- The first things that have a name, and one thing more.
use Rattle.std.proofs.Common.{◌≡◌, ℕ, Bool, true, false, cond, List, [], ◌∷◌, ◌++◌, Option, None, Some, refl}
use Rattle.std.proofs.Common.{sym, ap, ◌∙◌}
use Rattle.std.specs.Prelude.{◌&&◌, find, not, option_map}
use Rattle.std.specs.Option.{option_or}
use Rattle.std.specs.Str.{bytes_eq}
use Rattle.std.proofs.lemmas.List.Folds.{find-append}
use Rattle.std.proofs.lemmas.Slice.Eq.{bytes_eq-Decides}
use Rattle.x_numbers.proofs.Lookups.{or_none}
use Rattle.x_clash.specs.Clashes.{Thing, first_of, has_name, is_at_file_scope, is_macro, is_member}
use Rattle.x_clash.specs.Clashes.{is_other_macro, thing_place}
use Rattle.x_clash.specs.Firsts.{AreFirsts, beside, macro_beside, macro_place}
use Rattle.x_clash.specs.Given.{Sort, Macro, Tagged, Function, Plain, Member}
use Rattle.x_clash.specs.declared.clash.Place.{Place}
use Rattle.x_clash.specs.declared.firsts.FirstMacro.{FirstMacro}
use Rattle.x_clash.specs.declared.firsts.Firsts.{Firsts}

mapped : (a b : Option Thing)
    → option_map thing_place (option_or a b) ≡ option_or (option_map thing_place a) (option_map thing_place b)
mapped None b = refl
mapped (Some t) b = refl

-- the place of a thing, if the test is passed
abbrev pub place_if : Bool → Thing → Option Place
place_if b t = cond b (Some (thing_place t)) None

one : (b : Bool) (t : Thing) → option_map thing_place (cond b (Some t) None) ≡ place_if b t
one true t = refl
one false t = refl

-- behind all others stands one more
pub first_more : (test : Sort → Bool) (name : List ℕ) (things : List Thing) (t : Thing)
    → first_of test name (things ++ t ∷ [])
    ≡ option_or (first_of test name things) (place_if (has_name name test t) t)
first_more test name things t =
    ap (option_map thing_place) (find-append (has_name name test) things (t ∷ []))
    ∙ mapped (find (has_name name test) things) (find (has_name name test) (t ∷ []))
    ∙ ap (option_or (first_of test name things)) (one (has_name name test t) t)

same_bytes : (name other : List ℕ) → name ≡ other → bytes_eq name other ≡ true
same_bytes name other same = (bytes_eq-Decides name other).1 same

-- what is first of a name, with one thing more of that name
pub after : (test : Sort → Bool) (name : List ℕ) (things : List Thing) (t : Thing)
    (o : Option Place) (b : Bool)
    → name ≡ t.given.name → o ≡ first_of test name things → test t.given.sort ≡ b
    → option_or o (place_if b t) ≡ first_of test name (things ++ t ∷ [])
after test name things t o b same is tested =
    let here : has_name name test t ≡ b =
    ap (λ c. c && test t.given.sort) (same_bytes name t.given.name same) ∙ tested in
    ap (λ x. option_or x (place_if b t)) is
    ∙ sym (ap (λ c. option_or (first_of test name things) (place_if c t)) here)
    ∙ sym (first_more test name things t)

pub stays : (test : Sort → Bool) (name : List ℕ) (things : List Thing) (t : Thing) (o : Option Place)
    → name ≡ t.given.name → o ≡ first_of test name things → test t.given.sort ≡ false
    → o ≡ first_of test name (things ++ t ∷ [])
stays test name things t o same is tested = or_none o ∙ after test name things t o false same is tested

-- and with one of another name
pub apart : (test : Sort → Bool) (name : List ℕ) (things : List Thing) (t : Thing) (o : Option Place)
    → bytes_eq name t.given.name ≡ false → o ≡ first_of test name things
    → o ≡ first_of test name (things ++ t ∷ [])
apart test name things t o other is =
    let here : has_name name test t ≡ false = ap (λ c. c && test t.given.sort) other in
    is ∙ or_none (first_of test name things)
    ∙ sym (ap (λ c. option_or (first_of test name things) (place_if c t)) here)
    ∙ sym (first_more test name things t)

pub with_other : (name : List ℕ) (things : List Thing) (t : Thing) (f : Firsts)
    → bytes_eq name t.given.name ≡ false
    → AreFirsts name things f → AreFirsts name (things ++ t ∷ []) f
with_other name things t f other are = record {
  macros = apart is_macro name things t (macro_place f) other are.macros;
  other_macros = λ text. apart (is_other_macro text) name things t (macro_beside text f) other
      (are.other_macros text);
  at_file_scope = apart is_at_file_scope name things t f.at_file_scope other are.at_file_scope;
  members = apart is_member name things t f.member other are.members;
}

pub with_member : (name : List ℕ) (things : List Thing) (t : Thing) (f : Firsts) (member : Option Place)
    → name ≡ t.given.name
    → t.given.sort ≡ Member → member ≡ option_or f.member (Some (thing_place t)) → AreFirsts name things f
    → AreFirsts name (things ++ t ∷ []) (record f { member = member })
with_member name things t f member same sort more are = record {
  macros = stays is_macro name things t (macro_place f) same are.macros (ap is_macro sort);
  other_macros = λ text.
      stays (is_other_macro text) name things t (macro_beside text f) same (are.other_macros text)
      (ap (is_other_macro text) sort);
  at_file_scope = stays is_at_file_scope name things t f.at_file_scope same are.at_file_scope
      (ap is_at_file_scope sort);
  members = more ∙ after is_member name things t f.member true same are.members (ap is_member sort);
}

-- what is at file scope is no macro and no member
abbrev pub IsAtFileScope : Sort → Type 0
IsAtFileScope sort = (is_macro sort ≡ false) × ((text : List ℕ) → is_other_macro text sort ≡ false)
    × (is_member sort ≡ false)

at_file_scope : (sort : Sort) → is_at_file_scope sort ≡ true → IsAtFileScope sort
at_file_scope (Macro text) h = absurd (cc)
at_file_scope Tagged h = (refl, (λ text. refl), refl)
at_file_scope Function h = (refl, (λ text. refl), refl)
at_file_scope Plain h = (refl, (λ text. refl), refl)
at_file_scope Member h = absurd (cc)

pub with_name : (name : List ℕ) (things : List Thing) (t : Thing) (f : Firsts) (place : Option Place)
    → name ≡ t.given.name
    → is_at_file_scope t.given.sort ≡ true → place ≡ option_or f.at_file_scope (Some (thing_place t))
    → AreFirsts name things f
    → AreFirsts name (things ++ t ∷ []) (record f { at_file_scope = place })
with_name name things t f place same sort more are =
    let is = at_file_scope t.given.sort sort in
    record {
      macros = stays is_macro name things t (macro_place f) same are.macros is.0;
      other_macros = λ text.
          stays (is_other_macro text) name things t (macro_beside text f) same (are.other_macros text)
          (is.1 text);
      at_file_scope = more ∙ after is_at_file_scope name things t f.at_file_scope true same
          are.at_file_scope sort;
      members = stays is_member name things t f.member same are.members is.2;
    }

-- ---- macros

-- what is kept is first, and nothing behind it
kept : (o x : Option Place) (place : Place) → o ≡ Some place → o ≡ option_or o x
kept o x place is = is ∙ sym (ap (λ y. option_or y x) is)

-- the first macro of the name
pub with_first_macro : (name : List ℕ) (things : List Thing) (t : Thing) (f : Firsts) (m : FirstMacro)
    → name ≡ t.given.name → t.given.sort ≡ Macro m.text.now → m.place ≡ thing_place t → f.first_macro ≡ None
    → AreFirsts name things f
    → AreFirsts name (things ++ t ∷ []) (record f { first_macro = Some m; other_macro = None })
with_first_macro name things t f m same sort place none are = record {
  macros = ap Some place ∙ after is_macro name things t None true same no_macro (ap is_macro sort);
  other_macros = λ text. by text (bytes_eq text m.text.now) refl;
  at_file_scope = stays is_at_file_scope name things t f.at_file_scope same are.at_file_scope
      (ap is_at_file_scope sort);
  members = stays is_member name things t f.member same are.members (ap is_member sort);
}
  where
    no_macro : None ≡ first_of is_macro name things
    no_macro = sym (ap (option_map (λ (x : FirstMacro). x.place)) none) ∙ are.macros

    gone : (text : List ℕ) → None ≡ first_of (is_other_macro text) name things
    gone text = sym (ap (λ x. beside text x f.other_macro) none) ∙ are.other_macros text

    by : (text : List ℕ) (b : Bool) → bytes_eq text m.text.now ≡ b
        → cond (bytes_eq text m.text.now) None (Some m.place)
        ≡ first_of (is_other_macro text) name (things ++ t ∷ [])
    by text true e = ap (λ c. cond c None (Some m.place)) e
        ∙ after (is_other_macro text) name things t None false same (gone text)
        (ap (is_other_macro text) sort ∙ ap not e)
    by text false e = ap (λ c. cond c None (Some m.place)) e ∙ ap Some place
        ∙ after (is_other_macro text) name things t None true same (gone text)
        (ap (is_other_macro text) sort ∙ ap not e)

-- one more that stands for the text of the first
pub with_same_macro : (name : List ℕ) (things : List Thing) (t : Thing) (f : Firsts) (m : FirstMacro)
    → name ≡ t.given.name → t.given.sort ≡ Macro m.text.now → f.first_macro ≡ Some m
    → AreFirsts name things f → AreFirsts name (things ++ t ∷ []) f
with_same_macro name things t f m same sort first are = record {
  macros = kept (macro_place f) (Some (thing_place t)) m.place
      (ap (option_map (λ (x : FirstMacro). x.place)) first)
      ∙ after is_macro name things t (macro_place f) true same are.macros (ap is_macro sort);
  other_macros = λ text. by text (bytes_eq text m.text.now) refl;
  at_file_scope = stays is_at_file_scope name things t f.at_file_scope same are.at_file_scope
      (ap is_at_file_scope sort);
  members = stays is_member name things t f.member same are.members (ap is_member sort);
}
  where
    by : (text : List ℕ) (b : Bool) → bytes_eq text m.text.now ≡ b
        → macro_beside text f ≡ first_of (is_other_macro text) name (things ++ t ∷ [])
    by text true e = or_none (macro_beside text f)
        ∙ after (is_other_macro text) name things t (macro_beside text f) false same (are.other_macros text)
        (ap (is_other_macro text) sort ∙ ap not e)
    by text false e =
        kept (macro_beside text f) (Some (thing_place t)) m.place
        (ap (λ x. beside text x f.other_macro) first ∙ ap (λ c. cond c f.other_macro (Some m.place)) e)
        ∙ after (is_other_macro text) name things t (macro_beside text f) true same (are.other_macros text)
        (ap (is_other_macro text) sort ∙ ap not e)

-- one more that stands for another text
pub with_other_macro : (name : List ℕ) (things : List Thing) (t : Thing) (f : Firsts) (m : FirstMacro)
    (text : List ℕ)
    (other : Option Place) → name ≡ t.given.name → t.given.sort ≡ Macro text → f.first_macro ≡ Some m
    → bytes_eq m.text.now text ≡ false → other ≡ option_or f.other_macro (Some (thing_place t))
    → AreFirsts name things f
    → AreFirsts name (things ++ t ∷ []) (record f { other_macro = other })
with_other_macro name things t f m text other same sort first differs more are = record {
  macros = kept (macro_place f) (Some (thing_place t)) m.place
      (ap (option_map (λ (x : FirstMacro). x.place)) first)
      ∙ after is_macro name things t (macro_place f) true same are.macros (ap is_macro sort);
  other_macros = λ wanted. by wanted (bytes_eq wanted m.text.now) refl;
  at_file_scope = stays is_at_file_scope name things t f.at_file_scope same are.at_file_scope
      (ap is_at_file_scope sort);
  members = stays is_member name things t f.member same are.members (ap is_member sort);
}
  where
    by : (wanted : List ℕ) (b : Bool) → bytes_eq wanted m.text.now ≡ b
        → beside wanted f.first_macro other ≡ first_of (is_other_macro wanted) name (things ++ t ∷ [])
    by wanted true e =
        let one : wanted ≡ m.text.now = (bytes_eq-Decides wanted m.text.now).0 e in
        let apart : bytes_eq wanted text ≡ false = ap (λ n. bytes_eq n text) one ∙ differs in
        let here : (o : Option Place) → beside wanted f.first_macro o ≡ o =
        λ o. ap (λ x. beside wanted x o) first ∙ ap (λ c. cond c o (Some m.place)) e in
        here other ∙ more ∙ sym (ap (λ o. option_or o (Some (thing_place t))) (here f.other_macro))
        ∙ after (is_other_macro wanted) name things t (macro_beside wanted f) true same
        (are.other_macros wanted)
        (ap (is_other_macro wanted) sort ∙ ap not apart)
    by wanted false e =
        let here : (o : Option Place) → beside wanted f.first_macro o ≡ Some m.place =
        λ o. ap (λ x. beside wanted x o) first ∙ ap (λ c. cond c o (Some m.place)) e in
        here other ∙ sym (here f.other_macro)
        ∙ kept (macro_beside wanted f) (place_if (not (bytes_eq wanted text)) t) m.place (here f.other_macro)
        ∙ after (is_other_macro wanted) name things t (macro_beside wanted f)
        (not (bytes_eq wanted text)) same
        (are.other_macros wanted) (ap (is_other_macro wanted) sort)
