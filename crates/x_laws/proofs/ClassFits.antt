-- Where the class of what is declared is known, the words of its form stand for the numbers of the class.
use Rattle.std.proofs.Common.{◌≡◌, ◌↔◌, ◌<◌, ◌⊎◌, inl, inr, ℕ, zero, suc, ◌-◌, ◌^◌, ℤ, pos, negsuc}
use Rattle.std.proofs.Common.{Bool, true, false, ◌||◌, cond, map, List, [], ◌∷◌, ◌++◌, Option, None, Some}
use Rattle.std.proofs.Common.{is_some, refl, sym, ap, subst, ◌∙◌, arith}
use Rattle.std.specs.Prelude.{nat_lt, nat_eq, option_map, option_and_then}
use Rattle.std.specs.List.{IsAmong}
use Rattle.std.specs.Map.{lookup}
use Rattle.std.specs.Option.{option_or}
use Rattle.std.specs.Ordering.{int_eq}
use Rattle.std.proofs.lemmas.Bool.Decides.{Decides-int_eq, nat_tests}
use Rattle.std.proofs.lemmas.Cmp.{int_eq_equiv}
use Rattle.std.proofs.lemmas.Int.{ints}
use Rattle.std.proofs.lemmas.Option.{same_Some}
use lib.Signed.{lt_z}
use Rattle.x_numbers.specs.Numbers.{is_enum_number, is_word_number}
use Rattle.x_numbers.proofs.Lookups.{lookup_more}
use Rattle.x_trees.specs.Tree as tree
use Rattle.x_trees.specs.declared.trees.declaration.Basic.{Basic}
use Rattle.x_trees.specs.declared.trees.declaration.Basic.TheVariants as basics
use Rattle.x_trees.proofs.AmongLemmas.{among_cases, among_first, among_more, among_none, among_same}
use Rattle.x_rules.specs.Rules.{IsOutside}
use Rattle.x_rules.specs.Types.{basic_class, enum_number, if_all, number_set, put_number}
use Rattle.x_rules.specs.Views.{Class, Other, Signed, Unsigned, Boolean, Enumeration}
use Rattle.x_schema.specs.Choices.{name_for}
use Rattle.x_schema.specs.SchemaOf.{basic_form, enum_form, signed_word, unsigned_word, with_first}
use Rattle.x_schema.specs.SchemaOf.{with_word, word_by}
use Rattle.x_schema.specs.Sound.{is_legal}
use Rattle.x_schema.specs.declared.form.Form.{Form}
use Rattle.x_schema.specs.declared.form.Form.TheVariants as forms
use Rattle.x_laws.specs.Meant.{HasWord, words_meant}
use Rattle.x_laws.proofs.TypeTables.{or_assoc, or_same}

-- ---- a class and a form

-- the numbers of the class are those that the words of the form stand for
abbrev pub Fits : Class → Form → Type 0
Fits class form = (class ≡ Other → ⊥) → (z : ℤ) → (IsOutside class z → ⊥) ↔ HasWord form z

not_false : (b : Bool) → (b ≡ false → ⊥) → b ≡ true
not_false true h = refl
not_false false h = absurd (h refl)

pub no_other : (form : Form) → Fits Other form
no_other form other = absurd (other refl)

-- ---- numbers with a sign

word_good : (z : ℤ) → is_enum_number z ≡ true → (w : ℕ) × (signed_word z ≡ Some w)
word_good (pos n) e = (n, ap (λ b. cond b (Some n) None) e)
word_good (negsuc n) e = ((2 ^ 32 - 1) - n, ap (λ b. cond b (Some ((2 ^ 32 - 1) - n)) None) e)

good_word : (z : ℤ) (w : ℕ) → signed_word z ≡ Some w → is_enum_number z ≡ true
good_word (pos n) w e = by (nat_lt n (2 ^ 31)) e
  where
    by : (b : Bool) → cond b (Some n) None ≡ Some w → b ≡ true
    by true k = refl
    by false k = absurd cc
good_word (negsuc n) w e = by (nat_lt n (2 ^ 31)) e
  where
    by : (b : Bool) → cond b (Some ((2 ^ 32 - 1) - n)) None ≡ Some w → b ≡ true
    by true k = refl
    by false k = absurd cc

pos_word : (n w : ℕ) → signed_word (pos n) ≡ Some w → (n < 2 ^ 31) × (n ≡ w)
pos_word n w e = by (nat_lt n (2 ^ 31)) refl e
  where
    by : (b : Bool) → nat_lt n (2 ^ 31) ≡ b → cond b (Some n) None ≡ Some w → (n < 2 ^ 31) × (n ≡ w)
    by true t k = (grind (arith, nat_tests), same_Some n w k)
    by false t k = absurd cc

negative_word : (n w : ℕ) → signed_word (negsuc n) ≡ Some w → (n < 2 ^ 31) × ((2 ^ 32 - 1) - n ≡ w)
negative_word n w e = by (nat_lt n (2 ^ 31)) refl e
  where
    by : (b : Bool) → nat_lt n (2 ^ 31) ≡ b → cond b (Some ((2 ^ 32 - 1) - n)) None ≡ Some w
        → (n < 2 ^ 31) × ((2 ^ 32 - 1) - n ≡ w)
    by true t k = (grind (arith, nat_tests), same_Some ((2 ^ 32 - 1) - n) w k)
    by false t k = absurd cc

apart : (m n w : ℕ) → signed_word (pos m) ≡ Some w → signed_word (negsuc n) ≡ Some w → ⊥
apart m n w h k =
    let p = pos_word m w h in
    let q = negative_word n w k in
    let low = p.0 in
    let is = p.1 in
    let far = q.0 in
    let at = q.1 in
    omega (arith, low, is, far, at)

-- a word stands for one number
one_number : (y z : ℤ) (w : ℕ) → signed_word y ≡ Some w → signed_word z ≡ Some w → y ≡ z
one_number (pos m) (pos n) w h k = ap pos ((pos_word m w h).1 ∙ sym (pos_word n w k).1)
one_number (pos m) (negsuc n) w h k = absurd (apart m n w h k)
one_number (negsuc m) (pos n) w h k = absurd (apart n m w k h)
one_number (negsuc m) (negsuc n) w h k =
    let p = negative_word m w h in
    let q = negative_word n w k in
    let low = p.0 in
    let is = p.1 in
    let far = q.0 in
    let at = q.1 in
    let same : m ≡ n = omega (arith, low, is, far, at) in
    ap negsuc same

fits_int : Fits Signed forms.Int
fits_int other z = (
  (λ inside. let w = word_good z (not_false (is_enum_number z) inside) in (w.0, w.1, refl)),
  (λ h outside. let good = good_word z h.0 h.1 in absurd cc),
)

-- ---- numbers without a sign

word_number : (z : ℤ) → is_word_number z ≡ true → (w : ℕ) × (unsigned_word z ≡ Some w)
word_number (pos n) e = (n, ap (λ b. cond b (Some n) None) e)
word_number (negsuc n) e = absurd cc

number_word : (z : ℤ) (w : ℕ) → unsigned_word z ≡ Some w → is_word_number z ≡ true
number_word (pos n) w e = by (nat_lt n (2 ^ 32)) e
  where
    by : (b : Bool) → cond b (Some n) None ≡ Some w → b ≡ true
    by true k = refl
    by false k = absurd cc
number_word (negsuc n) w e = absurd cc

unsigned_is : (z : ℤ) (w : ℕ) → unsigned_word z ≡ Some w → z ≡ pos w
unsigned_is (pos n) w e = by (nat_lt n (2 ^ 32)) e
  where
    by : (b : Bool) → cond b (Some n) None ≡ Some w → pos n ≡ pos w
    by true k = ap pos (same_Some n w k)
    by false k = absurd cc
unsigned_is (negsuc n) w e = absurd cc

-- a word of a form stands for one number
pub one_by : (form : Form) (y z : ℤ) (w : ℕ) → word_by form y ≡ Some w → word_by form z ≡ Some w → y ≡ z
one_by forms.UnsignedInt y z w h k = unsigned_is y w h ∙ sym (unsigned_is z w k)
one_by form y z w h k = one_number y z w h k

fits_unsigned : Fits Unsigned forms.UnsignedInt
fits_unsigned other z = (
  (λ inside. let w = word_number z (not_false (is_word_number z) inside) in (w.0, w.1, refl)),
  (λ h outside. let good = number_word z h.0 h.1 in absurd cc),
)

-- ---- TRUE and FALSE

abbrev natural : ℤ → ℕ
natural (pos n) = n
natural (negsuc n) = 2

truth_word : (z : ℤ) → (IsOutside Boolean z → ⊥) → HasWord forms.Bool z
truth_word (pos zero) inside = (0, refl, refl)
truth_word (pos (suc zero)) inside = (1, refl, refl)
truth_word (pos (suc (suc n))) inside = absurd
    (inside (
      (λ e. let is : suc (suc n) ≡ 0 = ap natural e in omega (arith, is)),
      (λ e. let is : suc (suc n) ≡ 1 = ap natural e in omega (arith, is)),
    ))
truth_word (negsuc n) inside = absurd
    (inside (
      (λ e. let is : 2 ≡ 0 = ap natural e in omega (arith, is)),
      (λ e. let is : 2 ≡ 1 = ap natural e in omega (arith, is)),
    ))

below_two : (w : ℕ) → nat_lt w 2 ≡ true → w < 2
below_two w h = grind (arith, nat_tests)

word_truth : (z : ℤ) → HasWord forms.Bool z → IsOutside Boolean z → ⊥
word_truth (pos zero) h outside = outside.0 refl
word_truth (pos (suc zero)) h outside = outside.1 refl
word_truth (pos (suc (suc n))) h outside =
    let is = (pos_word (suc (suc n)) h.0 h.1).1 in
    let lt = below_two h.0 h.2 in
    omega (arith, is, lt)
word_truth (negsuc n) h outside =
    let word = negative_word n h.0 h.1 in
    let far = word.0 in
    let is = word.1 in
    let lt = below_two h.0 h.2 in
    omega (arith, far, is, lt)

fits_bool : Fits Boolean forms.Bool
fits_bool other z = (truth_word z, word_truth z)

pub fits_basic : (b : Basic) → Fits (basic_class b) (basic_form b)
fits_basic basics.Int = fits_int
fits_basic basics.UnsignedInt = fits_unsigned
fits_basic basics.Long = fits_int
fits_basic basics.UnsignedLong = fits_unsigned
fits_basic basics.Hyper = no_other forms.Hyper
fits_basic basics.UnsignedHyper = no_other forms.UnsignedHyper
fits_basic basics.Unsigned = fits_unsigned
fits_basic basics.Float = no_other forms.Float
fits_basic basics.Double = no_other forms.Double
fits_basic basics.Quadruple = no_other forms.Quadruple
fits_basic basics.Bool = fits_bool

-- ---- a set of numbers

neither : (x y : ℤ) → lt_z x y ≡ false → lt_z y x ≡ false → x ≡ y
neither x y h k = grind (arith, ints)

-- what is put in, or was there
put_from : (z : ℤ) (xs : List ℤ) (w : ℤ) → IsAmong (put_number z xs) w → (w ≡ z) ⊎ IsAmong xs w
put_from z [] w h = among_cases z w [] h
put_from z (x ∷ xs) w h = by (lt_z z x) (lt_z x z) h (put_from z xs w)
  where
    behind : (w ≡ z) ⊎ IsAmong xs w → (w ≡ z) ⊎ IsAmong (x ∷ xs) w
    behind (inl e) = inl e
    behind (inr j) = inr (among_more x w xs j)

    then : (w ≡ x) ⊎ IsAmong (put_number z xs) w → (IsAmong (put_number z xs) w → (w ≡ z) ⊎ IsAmong xs w)
        → (w ≡ z) ⊎ IsAmong (x ∷ xs) w
    then (inl e) more = inr (among_same x w xs (sym e))
    then (inr j) more = behind (more j)

    by : (a b : Bool) → IsAmong (cond a (z ∷ x ∷ xs) (cond b (x ∷ put_number z xs) (x ∷ xs))) w
        → (IsAmong (put_number z xs) w → (w ≡ z) ⊎ IsAmong xs w) → (w ≡ z) ⊎ IsAmong (x ∷ xs) w
    by true b k more = among_cases z w (x ∷ xs) k
    by false true k more = then (among_cases x w (put_number z xs) k) more
    by false false k more = inr k

put_kept : (z : ℤ) (xs : List ℤ) (w : ℤ) → IsAmong xs w → IsAmong (put_number z xs) w
put_kept z [] w h = absurd (among_none w h)
put_kept z (x ∷ xs) w h = by (lt_z z x) (lt_z x z) (among_cases x w xs h) (put_kept z xs w)
  where
    by : (a b : Bool) → (w ≡ x) ⊎ IsAmong xs w → (IsAmong xs w → IsAmong (put_number z xs) w)
        → IsAmong (cond a (z ∷ x ∷ xs) (cond b (x ∷ put_number z xs) (x ∷ xs))) w
    by true b k more = among_more z w (x ∷ xs) h
    by false true (inl e) more = among_same x w (put_number z xs) (sym e)
    by false true (inr j) more = among_more x w (put_number z xs) (more j)
    by false false k more = h

put_there : (z : ℤ) (xs : List ℤ) → IsAmong (put_number z xs) z
put_there z [] = among_first z []
put_there z (x ∷ xs) = by (lt_z z x) refl (lt_z x z) refl (put_there z xs)
  where
    by : (a : Bool) → lt_z z x ≡ a → (b : Bool) → lt_z x z ≡ b → IsAmong (put_number z xs) z
        → IsAmong (cond a (z ∷ x ∷ xs) (cond b (x ∷ put_number z xs) (x ∷ xs))) z
    by true e b f more = among_first z (x ∷ xs)
    by false e true f more = among_more x z (put_number z xs) more
    by false e false f more = among_same x z xs (sym (neither z x e f))

set_from : (zs : List ℤ) (w : ℤ) → IsAmong (number_set zs) w → IsAmong zs w
set_from [] w h = h
set_from (z ∷ zs) w h = by (put_from z (number_set zs) w h) (set_from zs w)
  where
    by : (w ≡ z) ⊎ IsAmong (number_set zs) w → (IsAmong (number_set zs) w → IsAmong zs w) → IsAmong (z ∷ zs) w
    by (inl e) more = among_same z w zs (sym e)
    by (inr j) more = among_more z w zs (more j)

set_kept : (zs : List ℤ) (w : ℤ) → IsAmong zs w → IsAmong (number_set zs) w
set_kept [] w h = h
set_kept (z ∷ zs) w h = by (among_cases z w zs h) (set_kept zs w)
  where
    by : (w ≡ z) ⊎ IsAmong zs w → (IsAmong zs w → IsAmong (number_set zs) w)
        → IsAmong (put_number z (number_set zs)) w
    by (inl e) more = subst (IsAmong (put_number z (number_set zs))) (sym e) (put_there z (number_set zs))
    by (inr j) more = put_kept z (number_set zs) w (more j)

-- a number is one of these, or is none of them
one_or_none : (zs : List ℤ) (z : ℤ) → IsAmong zs z ⊎ (IsAmong zs z → ⊥)
one_or_none [] z = inr (among_none z)
one_or_none (x ∷ xs) z = by (int_eq z x) refl (one_or_none xs z)
  where
    differs : int_eq z x ≡ false → z ≡ x → ⊥
    differs e same =
        let is : false ≡ true = sym e ∙ ap (int_eq z) (sym same) ∙ int_eq_equiv.refl z in absurd cc

    none : int_eq z x ≡ false → (IsAmong xs z → ⊥) → (z ≡ x) ⊎ IsAmong xs z → ⊥
    none e h (inl same) = differs e same
    none e h (inr j) = h j

    by : (b : Bool) → int_eq z x ≡ b → IsAmong xs z ⊎ (IsAmong xs z → ⊥)
        → IsAmong (x ∷ xs) z ⊎ (IsAmong (x ∷ xs) z → ⊥)
    by true e rest = inl (among_same x z xs (sym ((Decides-int_eq z x).0 e)))
    by false e (inl j) = inl (among_more x z xs j)
    by false e (inr h) = inr (λ k. none e h (among_cases x z xs k))

-- ---- the words of an enum

-- the word of a number
abbrev is_word : ℕ → Option ℕ → Bool
is_word w None = false
is_word w (Some x) = nat_eq w x

-- the word of one of the numbers
abbrev is_word_of : ℕ → List ℤ → Bool
is_word_of w [] = false
is_word_of w (z ∷ zs) = is_word w (signed_word z) || is_word_of w zs

or_false : (a : Bool) → a ≡ a || false
or_false true = refl
or_false false = refl

or_true : (a : Bool) → a || true ≡ true
or_true true = refl
or_true false = refl

same_nat : (m n : ℕ) → nat_eq m n ≡ true → m ≡ n
same_nat m n h = grind (arith, nat_tests)

pub nat_same : (n : ℕ) → nat_eq n n ≡ true
nat_same n = grind (arith, nat_tests)

-- the words have this one
abbrev has_word : {X : Type 0} → ℕ → List (ℕ × X) → Bool
has_word w words = is_some (lookup (nat_eq w) words)

some_or : {X : Type 0} (o : Option X) (b : Bool) (x : X)
    → is_some (option_or o (cond b (Some x) None)) ≡ is_some o || b
some_or None true x = refl
some_or None false x = refl
some_or (Some y) b x = refl

first_has : {X : Type 0} (words : List (ℕ × X)) (k : ℕ) (x : X) (w : ℕ)
    → has_word w (with_first nat_eq words k x) ≡ has_word w words || nat_eq w k
first_has words k x w = by (has_word k words) refl
  where
    by : (b : Bool) → has_word k words ≡ b
        → has_word w (cond b words (words ++ (k, x) ∷ [])) ≡ has_word w words || nat_eq w k
    by true e = or_same (has_word w words) (nat_eq w k)
        (λ same. ap (λ v. has_word v words) (same_nat w k same) ∙ e)
    by false e = ap is_some (lookup_more (nat_eq w) words k x)
        ∙ some_or (lookup (nat_eq w) words) (nat_eq w k) x

word_has : {X : Type 0} (words : List (ℕ × X)) (o : Option ℕ) (x : X) (w : ℕ)
    → has_word w (with_word words o x) ≡ has_word w words || is_word w o
word_has words None x w = or_false (has_word w words)
word_has words (Some k) x w = first_has words k x w

-- all numbers of an enum: the first, and the others
record AreAll (o : Option ℤ) (os : List (Option ℤ)) (zs : List ℤ) : Type 0 where
  first : ℤ
  rest : List ℤ
  is_first : o ≡ Some first
  are_rest : if_all os ≡ Some rest
  are : zs ≡ first ∷ rest

all_next : (o : Option ℤ) (os : List (Option ℤ)) (zs : List ℤ) → if_all (o ∷ os) ≡ Some zs → AreAll o os zs
all_next None os zs h = absurd cc
all_next (Some z) os zs h = by (if_all os) refl h
  where
    by : (rest : Option (List ℤ)) → if_all os ≡ rest → option_map (λ ys. z ∷ ys) rest ≡ Some zs
        → AreAll (Some z) os zs
    by None e k = absurd cc
    by (Some ys) e k = record {
      first = z;
      rest = ys;
      is_first = refl;
      are_rest = e;
      are = sym (same_Some (z ∷ ys) zs k);
    }

-- a number that an enum may have
good_number : (o : Option ℤ) (z : ℤ) → enum_number o ≡ Some z → (o ≡ Some z) × (is_enum_number z ≡ true)
good_number None z h = absurd cc
good_number (Some y) z h = by (is_enum_number y) refl h
  where
    by : (b : Bool) → is_enum_number y ≡ b → cond b (Some y) None ≡ Some z
        → (Some y ≡ Some z) × (is_enum_number z ≡ true)
    by true e k = (k, subst (λ x. is_enum_number x ≡ true) (same_Some y z k) e)
    by false e k = absurd cc

abbrev numbers_by : (List ℕ → Option ℤ) → List tree.Enumerator → List (Option ℤ)
numbers_by meant es = map (λ e. enum_number (meant e.name)) es

all_good : (meant : List ℕ → Option ℤ) (es : List tree.Enumerator) (zs : List ℤ)
    → if_all (numbers_by meant es) ≡ Some zs → (z : ℤ) → IsAmong zs z → is_enum_number z ≡ true
all_good meant [] zs h z among = absurd (among_none z
    (subst (λ l. IsAmong l z) (sym (same_Some [] zs h)) among))
all_good meant (e ∷ es) zs h z among =
    let parts = all_next (enum_number (meant e.name)) (numbers_by meant es) zs h in
    by parts (among_cases parts.first z parts.rest (subst (λ l. IsAmong l z) parts.are among))
    (all_good meant es parts.rest parts.are_rest z)
  where
    by : (parts : AreAll (enum_number (meant e.name)) (numbers_by meant es) zs)
        → (z ≡ parts.first) ⊎ IsAmong parts.rest z → (IsAmong parts.rest z → is_enum_number z ≡ true)
        → is_enum_number z ≡ true
    by parts (inl same) more =
        subst (λ x. is_enum_number x ≡ true) (sym same)
        (good_number (meant e.name) parts.first parts.is_first).1
    by parts (inr j) more = more j

-- the words of an enum are those of its numbers
words_are : (meant : List ℕ → Option ℤ) (words : List (ℕ × List ℕ)) (es : List tree.Enumerator) (zs : List ℤ)
    → if_all (numbers_by meant es) ≡ Some zs → (w : ℕ)
    → has_word w (words_meant meant words es) ≡ has_word w words || is_word_of w zs
words_are meant words [] zs h w =
    or_false (has_word w words) ∙ ap (λ l. has_word w words || is_word_of w l) (same_Some [] zs h)
words_are meant words (e ∷ es) zs h w =
    let parts = all_next (enum_number (meant e.name)) (numbers_by meant es) zs h in
    let word = option_and_then signed_word (meant e.name) in
    let is : word ≡ signed_word parts.first =
    ap (option_and_then signed_word) (good_number (meant e.name) parts.first parts.is_first).0 in
    words_are meant (with_word words word e.name) es parts.rest parts.are_rest w
    ∙ ap (λ b. b || is_word_of w parts.rest) (word_has words word e.name w)
    ∙ or_assoc (has_word w words) (is_word w word) (is_word_of w parts.rest)
    ∙ ap (λ o. has_word w words || (is_word w o || is_word_of w parts.rest)) is
    ∙ sym (ap (λ l. has_word w words || is_word_of w l) parts.are)

-- by what is alike for the names of an enum, its words are the same
pub words_alike : (a b : List ℕ → Option ℤ) (words : List (ℕ × List ℕ)) (es : List tree.Enumerator)
    → ((e : tree.Enumerator) → IsAmong es e → a e.name ≡ b e.name)
    → words_meant a words es ≡ words_meant b words es
words_alike a b words [] h = refl
words_alike a b words (e ∷ es) h =
    ap (λ o. words_meant a (with_word words (option_and_then signed_word o) e.name) es)
    (h e (among_first e es))
    ∙ words_alike a b (with_word words (option_and_then signed_word (b e.name)) e.name) es
    (λ x k. h x (among_more e x es k))

-- names of other names
names_have : (names : List (ℕ × ℕ)) (f : ℕ → List ℕ) (w : ℕ)
    → has_word w (map (λ e. (e.0, f e.1)) names) ≡ is_some (name_for names w)
names_have [] f w = refl
names_have (e ∷ es) f w = by (nat_eq w e.0) (names_have es f w)
  where
    by : (b : Bool) → has_word w (map (λ x. (x.0, f x.1)) es) ≡ is_some (name_for es w)
        → is_some (cond b (Some (f e.1)) (lookup (nat_eq w) (map (λ x. (x.0, f x.1)) es)))
        ≡ is_some (cond b (Some e.1) (name_for es w))
    by true h = refl
    by false h = h

-- a word of one of the numbers
word_found : (zs : List ℤ) (z : ℤ) (w : ℕ) → IsAmong zs z → signed_word z ≡ Some w → is_word_of w zs ≡ true
word_found [] z w h is = absurd (among_none z h)
word_found (x ∷ xs) z w h is = by (among_cases x z xs h) (λ k. word_found xs z w k is)
  where
    by : (z ≡ x) ⊎ IsAmong xs z → (IsAmong xs z → is_word_of w xs ≡ true) → is_word_of w (x ∷ xs) ≡ true
    by (inl same) more =
        ap (λ o. is_word w o || is_word_of w xs) (ap signed_word (sym same) ∙ is)
        ∙ ap (λ b. b || is_word_of w xs) (nat_same w)
    by (inr k) more = ap (λ b. is_word w (signed_word x) || b) (more k) ∙ or_true (is_word w (signed_word x))

found_word : (w : ℕ) (zs : List ℤ) → is_word_of w zs ≡ true → (z : ℤ) × IsAmong zs z
    × (signed_word z ≡ Some w)
found_word w [] h = absurd cc
found_word w (z ∷ zs) h = by (signed_word z) refl h (found_word w zs)
  where
    Found : List ℤ → Type 0
    Found l = (x : ℤ) × IsAmong l x × (signed_word x ≡ Some w)

    later : Found zs → Found (z ∷ zs)
    later one = (one.0, among_more z one.0 zs one.1, one.2)

    then : (x : ℕ) (b : Bool) → signed_word z ≡ Some x → nat_eq w x ≡ b → b || is_word_of w zs ≡ true
        → (is_word_of w zs ≡ true → Found zs) → Found (z ∷ zs)
    then x true e same k more = (z, among_first z zs, e ∙ ap Some (sym (same_nat w x same)))
    then x false e same k more = later (more k)

    by : (o : Option ℕ) → signed_word z ≡ o → is_word w o || is_word_of w zs ≡ true
        → (is_word_of w zs ≡ true → Found zs) → Found (z ∷ zs)
    by None e k more = later (more k)
    by (Some x) e k more = then x (nat_eq w x) e refl k more

legal_is : (names : List (ℕ × ℕ)) (w : ℕ) → is_legal (enum_form names) w ≡ is_some (name_for names w)
legal_is [] w = refl
legal_is (e ∷ es) w = refl

word_is : (names : List (ℕ × ℕ)) (z : ℤ) → word_by (enum_form names) z ≡ signed_word z
word_is [] z = refl
word_is (e ∷ es) z = refl

-- an enum has the words of its numbers
fits_enum : (names : List (ℕ × ℕ)) (zs : List ℤ)
    → ((w : ℕ) → is_some (name_for names w) ≡ is_word_of w zs)
    → ((z : ℤ) → IsAmong zs z → is_enum_number z ≡ true)
    → Fits (Enumeration (number_set zs)) (enum_form names)
fits_enum names zs words good other z = (
  (λ inside. has inside (one_or_none (number_set zs) z)),
  (λ h outside.
      let legal : is_word_of h.0 zs ≡ true = sym (words h.0) ∙ sym (legal_is names h.0) ∙ h.2 in
      let one = found_word h.0 zs legal in
      let same = one_number one.0 z h.0 one.2 (sym (word_is names z) ∙ h.1) in
      outside (set_kept zs z (subst (IsAmong zs) same one.1))),
)
  where
    has : ((IsAmong (number_set zs) z → ⊥) → ⊥)
        → IsAmong (number_set zs) z ⊎ (IsAmong (number_set zs) z → ⊥) → HasWord (enum_form names) z
    has inside (inr none) = absurd (inside none)
    has inside (inl there) =
        let among = set_from zs z there in
        let w = word_good z (good z among) in (
          w.0,
          word_is names z ∙ w.1,
          legal_is names w.0 ∙ words w.0 ∙ word_found zs z w.0 among w.1,
        )

-- the numbers of an enum, which by these names have words, fit it
pub fits_numbers : (meant : List ℕ → Option ℤ) (es : List tree.Enumerator) (zs : List ℤ)
    (names : List (ℕ × ℕ)) (name : ℕ → List ℕ) → if_all (numbers_by meant es) ≡ Some zs
    → map (λ e. (e.0, name e.1)) names ≡ words_meant meant [] es
    → Fits (Enumeration (number_set zs)) (enum_form names)
fits_numbers meant es zs names name all are =
    fits_enum names zs
    (λ w. sym (names_have names name w) ∙ ap (has_word w) are ∙ words_are meant [] es zs all w)
    (all_good meant es zs all)
