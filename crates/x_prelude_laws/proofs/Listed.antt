-- The definitions of lines, one behind the other.
use Rattle.std.proofs.Common.{◌≡◌, ◌⊎◌, inl, inr, ℕ, zero, suc, List, [], ◌∷◌, ◌++◌, map, Some, refl, sym, ap}
use Rattle.std.proofs.Common.{Bool, true, false, get_or, subst, ◌∙◌}
use Rattle.std.specs.Prelude.{if◌then◌else◌, slice_get}
use Rattle.std.specs.List.{IsAmong, flat_map}
use Rattle.std.proofs.lemmas.List.{append-nil, append_assoc}
use Rattle.x_lex.specs.Bytes.{is_letter}
use Rattle.x_trees.specs.Names.{Declared, declared}
use Rattle.x_trees.specs.Spell.{KeepsLimits, spell}
use Rattle.x_trees.specs.Tree.{Definition}
use Rattle.x_trees.specs.Words.{Word}
use Rattle.x_trees.proofs.AmongLemmas.{among_cases, among_first, among_more, among_none}
use Rattle.x_prelude_laws.proofs.Distinct.{Distinct}
use Rattle.x_prelude_laws.proofs.Found.{DeclaredIn, in_rear}
use Rattle.x_prelude_laws.proofs.Lines.{Line}
use Rattle.x_prelude_laws.proofs.Named.{among_map}
use Rattle.x_prelude_laws.proofs.Sound.{IsSound}
use Rattle.x_prelude_laws.proofs.SoundLines.{IsOwn, SoundLine}
use Rattle.x_prelude_laws.proofs.Wholes.{Whole, whole_both, whole_line}

-- the definition of a line for the name
pub record IsOf (d : Definition) (name : List ℕ) : Type 0 where
  pub limits : KeepsLimits d
  pub sound : IsSound d
  pub names : (x : Declared) → IsAmong (declared d) x → IsOwn name x

abbrev pub AreOf : List Definition → List (List ℕ) → Type 0
AreOf [] [] = Unit {0}
AreOf [] (n ∷ ns) = ⊥
AreOf (d ∷ ds) [] = ⊥
AreOf (d ∷ ds) (n ∷ ns) = IsOf d n × AreOf ds ns

pub of_both : (ds es : List Definition) (ns ms : List (List ℕ)) → AreOf ds ns → AreOf es ms
    → AreOf (ds ++ es) (ns ++ ms)
of_both [] es [] ms h k = k
of_both [] es (n ∷ ns) ms h k = absurd h
of_both (d ∷ ds) es [] ms h k = absurd h
of_both (d ∷ ds) es (n ∷ ns) ms h k = (h.0, of_both ds es ns ms h.1 k)

-- what stands for a name in these
pub record Origin {X : Type 0} (line name : X → List ℕ) (xs : List X) (n : List ℕ) : Type 0 where
  pub one : X
  pub among : IsAmong xs one
  pub named : name one ≡ n
  pub some : line one ≡ [] → ⊥

abbrev pub MaySound : List ℕ → List ℕ → Type 0
MaySound text name = (text ≡ []) ⊎ SoundLine text name

-- the text with lines for these behind it
pub record Listed {X : Type 0} (text : List ℕ) (all : List (List Word)) (line name : X → List ℕ)
    (xs : List X) : Type 0 where
  pub definitions : List Definition
  pub names : List (List ℕ)
  pub whole : Whole (text ++ flat_map line xs) (all ++ map spell definitions)
  pub are : AreOf definitions names
  pub origins : (n : List ℕ) → IsAmong names n → Origin line name xs n
  pub distinct : Distinct (map name xs) → Distinct names
  pub declares : (x : X) → IsAmong xs x → (line x ≡ [] → ⊥) → DeclaredIn (map spell definitions) (name x)

pub not_empty : (text name : List ℕ) → SoundLine text name → text ≡ [] → ⊥
not_empty text name l e = let f = l.line.letter in let g = ap (λ t. is_letter (get_or t 0 0)) e in absurd (cc)

declared_by : (text name : List ℕ) (all : List (List Word)) (l : Line text name)
    → DeclaredIn (spell l.definition ∷ all) name
declared_by text name all l = record {
  definition = l.definition;
  limits = l.limits;
  among = among_first (spell l.definition) all;
  own = l.own;
  place = 0;
  is = l.first;
  named = l.named;
}

later : {X : Type 0} (line name : X → List ℕ) (x : X) (xs : List X) (n : List ℕ) → Origin line name xs n
    → Origin line name (x ∷ xs) n
later line name x xs n o =
    record { one = o.one; among = among_more x o.one xs o.among; named = o.named; some = o.some }

pub listed : {X : Type 0} (text : List ℕ) (all : List (List Word)) (line name : X → List ℕ) (xs : List X)
    → ((x : X) → IsAmong xs x → MaySound (line x) (name x)) → Whole text all → Listed text all line name xs
listed text all line name [] may w = record {
  definitions = [];
  names = [];
  whole = subst (λ t. Whole t (all ++ [])) (sym (append-nil text))
      (subst (Whole text) (sym (append-nil all)) w);
  are = tt;
  origins = λ n h. absurd (among_none n h);
  distinct = λ h. tt;
  declares = λ x h some. absurd (among_none x h);
}
listed {X} text all line name (x ∷ xs) may w =
    by (may x (among_first x xs)) (λ t a v. listed t a line name xs (λ y h. may y (among_more x y xs h)) v)
  where
    by : MaySound (line x) (name x) → ((t : List ℕ) (a : List (List Word)) → Whole t a
        → Listed t a line name xs)
        → Listed text all line name (x ∷ xs)
    by (inl e) next =
        let rest = next text all w in
        record {
          definitions = rest.definitions;
          names = rest.names;
          whole = subst (λ l. Whole (text ++ (l ++ flat_map line xs)) (all ++ map spell rest.definitions))
              (sym e) rest.whole;
          are = rest.are;
          origins = λ n h. later line name x xs n (rest.origins n h);
          distinct = λ h. rest.distinct h.1;
          declares = λ y h some. cases y (among_cases x y xs h) some (rest.declares y);
        }
      where
        cases : {P : Type 0} (y : X) → (y ≡ x) ⊎ IsAmong xs y → (line y ≡ [] → ⊥)
            → (IsAmong xs y → (line y ≡ [] → ⊥) → P) → P
        cases y (inl same) some rest = absurd (some (ap line same ∙ e))
        cases y (inr k) some rest = rest k some
    by (inr l) next =
        let d = l.line.definition in
        let rest = next (text ++ line x) (all ++ spell d ∷ [])
        (whole_both text (line x) all (spell d ∷ []) w (whole_line (line x) (name x) l.line)) in
        record {
          definitions = d ∷ rest.definitions;
          names = name x ∷ rest.names;
          whole = subst (λ t. Whole t (all ++ spell d ∷ map spell rest.definitions))
              (append_assoc text (line x) (flat_map line xs))
              (subst (Whole ((text ++ line x) ++ flat_map line xs))
              (append_assoc all (spell d ∷ []) (map spell rest.definitions)) rest.whole);
          are = (record { limits = l.line.limits; sound = l.sound; names = l.names }, rest.are);
          origins = λ n h. origin rest.names n (among_cases (name x) n rest.names h) (λ k. rest.origins n k);
          distinct = λ h. (λ k. apart h.0 (rest.origins (name x) k), rest.distinct h.1);
          declares = λ y h some. cases y (map spell rest.definitions) (among_cases x y xs h)
              (λ k. rest.declares y k some);
        }
      where
        cases : (y : X) (more : List (List Word)) → (y ≡ x) ⊎ IsAmong xs y
            → (IsAmong xs y → DeclaredIn more (name y))
            → DeclaredIn (spell l.line.definition ∷ more) (name y)
        cases y more (inl same) rest =
            subst (λ z. DeclaredIn (spell l.line.definition ∷ more) (name z)) (sym same)
            (declared_by (line x) (name x) more l.line)
        cases y more (inr k) rest = in_rear (spell l.line.definition ∷ []) more (name y) (rest k)

        origin : (names : List (List ℕ)) (n : List ℕ) → (n ≡ name x) ⊎ IsAmong names n
            → (IsAmong names n → Origin line name xs n) → Origin line name (x ∷ xs) n
        origin names n (inl same) next =
            record {
              one = x;
              among = among_first x xs;
              named = sym same;
              some = not_empty (line x) (name x) l;
            }
        origin names n (inr k) next = later line name x xs n (next k)

        apart : (IsAmong (map name xs) (name x) → ⊥) → Origin line name xs (name x) → ⊥
        apart gone o = gone (subst (IsAmong (map name xs)) o.named (among_map name xs o.one o.among))

-- ---- a part that is there or not

pub record ListedPart {X : Type 0} (there : Bool) (text : List ℕ) (all : List (List Word))
    (line name : X → List ℕ)
    (xs : List X) : Type 0 where
  pub definitions : List Definition
  pub names : List (List ℕ)
  pub whole : Whole (text ++ (if there then flat_map line xs else [])) (all ++ map spell definitions)
  pub are : AreOf definitions names
  pub is_there : (n : List ℕ) → IsAmong names n → there ≡ true
  pub origins : (n : List ℕ) → IsAmong names n → Origin line name xs n
  pub distinct : Distinct (map name xs) → Distinct names
  pub declares : there ≡ true → (x : X) → IsAmong xs x → (line x ≡ [] → ⊥)
      → DeclaredIn (map spell definitions) (name x)

pub listed_part : {X : Type 0} (there : Bool) (text : List ℕ) (all : List (List Word))
    (line name : X → List ℕ) (xs : List X)
    → ((x : X) → there ≡ true → IsAmong xs x → MaySound (line x) (name x)) → Whole text all
    → ListedPart there text all line name xs
listed_part true text all line name xs may w =
    let l = listed text all line name xs (λ x k. may x refl k) w in
    record {
      definitions = l.definitions;
      names = l.names;
      whole = l.whole;
      are = l.are;
      is_there = λ n k. refl;
      origins = l.origins;
      distinct = l.distinct;
      declares = λ e. l.declares;
    }
listed_part false text all line name xs may w = record {
  definitions = [];
  names = [];
  whole = subst (λ t. Whole t (all ++ [])) (sym (append-nil text))
      (subst (Whole text) (sym (append-nil all)) w);
  are = tt;
  is_there = λ n k. absurd (among_none n k);
  origins = λ n k. absurd (among_none n k);
  distinct = λ h. tt;
  declares = λ e. absurd (cc);
}

-- ---- places

-- the definition and the name at a place
pub record OfAt (ns : List (List ℕ)) (index : ℕ) (d : Definition) : Type 0 where
  pub name : List ℕ
  pub is : slice_get ns index ≡ Some name
  pub of : IsOf d name

pub of_at : (ds : List Definition) (ns : List (List ℕ)) (index : ℕ) (d : Definition) → AreOf ds ns
    → slice_get ds index ≡ Some d → OfAt ns index d
of_at [] ns index d h e = absurd (cc)
of_at (x ∷ ds) [] index d h e = absurd h
of_at (x ∷ ds) (n ∷ ns) zero d h e =
    let same : x ≡ d = cc in record { name = n; is = refl; of = subst (λ y. IsOf y n) same h.0 }
of_at (x ∷ ds) (n ∷ ns) (suc index) d h e =
    let rest = of_at ds ns index d h.1 e in record { name = rest.name; is = rest.is; of = rest.of }
