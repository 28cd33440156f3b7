-- What is found of numbers that stand twice is what the rules say, and all of it.
use Rattle.std.specs.Prelude.{ℤ, not, ◌||◌}
use Rattle.std.proofs.Common.{◌≡◌, ℕ, ◌⊎◌, inl, inr, Bool, true, false, List, [], ◌∷◌, ◌++◌, Option, None}
use Rattle.std.proofs.Common.{Some, refl, sym, ap, subst, ◌∙◌, append_assoc, append-nil}
use Rattle.std.proofs.lemmas.Bool.Decides.{Decides-int_eq}
use Rattle.std.proofs.lemmas.Cmp.{int_eq_equiv}
use Rattle.std.proofs.lemmas.Option.{same_Some}
use Rattle.std.specs.List.{IsAmong, flat_map, list_any}
use Rattle.std.specs.Ordering.{int_eq}
use Rattle.x_outline.specs.Bodies.{BodyAt, Members, cases_of}
use Rattle.x_rules.specs.Constants.{Known, limit_of, number_by}
use Rattle.x_numbers.specs.Numbers.{number_spelled}
use Rattle.x_rules.specs.Views.{View}
use Rattle.x_rules.specs.Found.{fault_at, numbered, repeated_code, numbers_behind, repeated_numbers}
use Rattle.x_rules.specs.Found.{spelled_numbers, repeated_cases}
use Rattle.x_rules.specs.Rules.{HasNumber, IsRepeatedCase, IsRepeatedNumber}
use Rattle.x_rules.specs.declared.fault.RuleCode.{RuleCode}
use Rattle.x_rules.specs.declared.fault.RuleCode.TheVariants as codes
use Rattle.x_rules.specs.declared.fault.WordFault.{WordFault}
use Rattle.x_rules.specs.declared.rules.repeats.Numbered.{Numbered}
use Rattle.x_trees.proofs.AmongLemmas.{among_first, among_cases, among_none, among_front, among_rear}
use Rattle.x_trees.proofs.AmongLemmas.{among_parts}
use Rattle.x_rules.proofs.FamilyLemmas.{flat_among, among_flat, fault_is}

-- ---- numbers seen

int_same : (a b : ℤ) → int_eq a b ≡ true → a ≡ b
int_same a b e = (Decides-int_eq a b).0 e

-- the numbers seen are those of the elements before
pub record Held {X : Type 0} (number_of : X → Option ℤ) (seen : List ℤ) (before : List X) : Type 0 where
  pub from : (z : ℤ) → list_any (int_eq z) seen ≡ true → HasNumber number_of before z
  pub all : (z : ℤ) → HasNumber number_of before z → list_any (int_eq z) seen ≡ true

pub held_start : {X : Type 0} (number_of : X → Option ℤ) → Held number_of [] []
held_start number_of = record { from = λ z e. absurd (cc); all = λ z h. absurd (among_none h.other h.among) }

wider : {X : Type 0} {number_of : X → Option ℤ} (before : List X) (x : X) (z : ℤ)
    → HasNumber number_of before z → HasNumber number_of (before ++ x ∷ []) z
wider before x z h =
    record { other = h.other; among = among_front before (x ∷ []) h.other h.among; same = h.same }

held_none : {X : Type 0} (number_of : X → Option ℤ) (seen : List ℤ) (before : List X) (x : X)
    → number_of x ≡ None → Held number_of seen before → Held number_of seen (before ++ x ∷ [])
held_none number_of seen before x none h =
    record {
      from = λ z e. wider before x z (h.from z e);
      all = λ z k. by z k (among_parts before (x ∷ []) k.other k.among);
    }
  where
    by : (z : ℤ) (k : HasNumber number_of (before ++ x ∷ []) z)
        → IsAmong before k.other ⊎ IsAmong (x ∷ []) k.other → list_any (int_eq z) seen ≡ true
    by z k (inl j) = h.all z (record { other = k.other; among = j; same = k.same })
    by z k (inr j) = then (among_cases x k.other [] j)
      where
        then : (k.other ≡ x) ⊎ IsAmong [] k.other → list_any (int_eq z) seen ≡ true
        then (inl e) = let is : None ≡ Some z = sym none ∙ sym (ap number_of e) ∙ k.same in absurd (cc)
        then (inr i) = absurd (among_none k.other i)

held_more : {X : Type 0} (number_of : X → Option ℤ) (seen : List ℤ) (before : List X) (x : X) (n : ℤ)
    → number_of x ≡ Some n → Held number_of seen before → Held number_of (n ∷ seen) (before ++ x ∷ [])
held_more number_of seen before x n is h =
    record {
      from = λ z e. from z (int_eq z n) refl e;
      all = λ z k. by z k (among_parts before (x ∷ []) k.other k.among);
    }
  where
    from : (z : ℤ) (b : Bool) → int_eq z n ≡ b → (int_eq z n || list_any (int_eq z) seen) ≡ true
        → HasNumber number_of (before ++ x ∷ []) z
    from z true t e =
        record {
          other = x;
          among = among_rear before (x ∷ []) x (among_first x []);
          same = is ∙ ap Some (sym (int_same z n t));
        }
    from z false t e = wider before x z (h.from z (sym (ap (λ b. b || list_any (int_eq z) seen) t) ∙ e))

    or_true : (b : Bool) → (b || true) ≡ true
    or_true true = refl
    or_true false = refl

    by : (z : ℤ) (k : HasNumber number_of (before ++ x ∷ []) z)
        → IsAmong before k.other ⊎ IsAmong (x ∷ []) k.other → (int_eq z n || list_any (int_eq z) seen) ≡ true
    by z k (inl j) = ap (λ b. int_eq z n || b)
        (h.all z (record { other = k.other; among = j; same = k.same })) ∙ or_true (int_eq z n)
    by z k (inr j) = then (among_cases x k.other [] j)
      where
        then : (k.other ≡ x) ⊎ IsAmong [] k.other → (int_eq z n || list_any (int_eq z) seen) ≡ true
        then (inl e) =
            let same : z ≡ n = same_Some z n (sym k.same ∙ ap number_of e ∙ is) in
            ap (λ b. b || list_any (int_eq z) seen) (ap (int_eq z) (sym same) ∙ int_eq_equiv.refl z)
        then (inr i) = absurd (among_none k.other i)

-- ---- elements with numbers

-- an element whose number an earlier one has, behind others
pub record Repeats {X : Type 0} (word_of : X → ℕ) (number_of : X → Option ℤ) (before xs : List X) (word : ℕ) :
    Type 0 where
  pub front : List X
  pub here : X
  pub rear : List X
  pub parts : xs ≡ front ++ here ∷ rear
  pub word_is : word ≡ word_of here
  pub number : ℤ
  pub number_is : number_of here ≡ Some number
  pub earlier : HasNumber number_of (before ++ front) number

further : {X : Type 0} {word_of : X → ℕ} {number_of : X → Option ℤ} (before : List X) (x : X) (xs : List X)
    (word : ℕ) → Repeats word_of number_of (before ++ x ∷ []) xs word
    → Repeats word_of number_of before (x ∷ xs) word
further {number_of = number_of} before x xs word r = record {
  front = x ∷ r.front;
  here = r.here;
  rear = r.rear;
  parts = ap (λ l. x ∷ l) r.parts;
  word_is = r.word_is;
  number = r.number;
  number_is = r.number_is;
  earlier = subst (λ l. HasNumber number_of l r.number) (append_assoc before (x ∷ []) r.front) r.earlier;
}

pub found_repeats : {X : Type 0} (word_of : X → ℕ) (number_of : X → Option ℤ) (code : RuleCode)
    (seen : List ℤ) (before xs : List X) (f : WordFault) → Held number_of seen before
    → IsAmong (numbers_behind code seen (flat_map (λ x. numbered (word_of x) (number_of x)) xs)) f
    → (f.code ≡ code) × Repeats word_of number_of before xs f.word
found_repeats word_of number_of code seen before [] f h k = absurd (among_none f k)
found_repeats word_of number_of code seen before (x ∷ xs) f h k =
    by (number_of x) refl k (λ held. found_repeats word_of number_of code seen (before ++ x ∷ []) xs f held)
    (λ n held. found_repeats word_of number_of code (n ∷ seen) (before ++ x ∷ []) xs f held)
  where
    rest : List Numbered
    rest = flat_map (λ x. numbered (word_of x) (number_of x)) xs

    by : (o : Option ℤ) → number_of x ≡ o
        → IsAmong (numbers_behind code seen (numbered (word_of x) o ++ rest)) f
        → (Held number_of seen (before ++ x ∷ []) → IsAmong (numbers_behind code seen rest) f
        → (f.code ≡ code) × Repeats word_of number_of (before ++ x ∷ []) xs f.word)
        → ((n : ℤ) → Held number_of (n ∷ seen) (before ++ x ∷ [])
        → IsAmong (numbers_behind code (n ∷ seen) rest) f
        → (f.code ≡ code) × Repeats word_of number_of (before ++ x ∷ []) xs f.word)
        → (f.code ≡ code) × Repeats word_of number_of before (x ∷ xs) f.word
    by None e j none more =
        let o = none (held_none number_of seen before x e h) j in (o.0, further before x xs f.word o.1)
    by (Some n) e j none more =
        then (among_parts (fault_at (word_of x) (repeated_code code (not (list_any (int_eq n) seen))))
        (numbers_behind code (n ∷ seen) rest) f j)
      where
        here : (b : Bool) → list_any (int_eq n) seen ≡ b
            → IsAmong (fault_at (word_of x) (repeated_code code (not b))) f
            → (f.code ≡ code) × Repeats word_of number_of before (x ∷ xs) f.word
        here true t i =
            let is = fault_is (word_of x) (Some code) f i in (
              same_Some f.code code (sym is.code_is),
              record {
                front = [];
                here = x;
                rear = xs;
                parts = refl;
                word_is = is.word_is;
                number = n;
                number_is = e;
                earlier = subst (λ l. HasNumber number_of l n) (sym (append-nil before)) (h.from n t);
              },
            )
        here false t i = absurd (among_none f i)

        then : IsAmong (fault_at (word_of x) (repeated_code code (not (list_any (int_eq n) seen)))) f
            ⊎ IsAmong (numbers_behind code (n ∷ seen) rest) f
            → (f.code ≡ code) × Repeats word_of number_of before (x ∷ xs) f.word
        then (inl i) = here (list_any (int_eq n) seen) refl i
        then (inr i) = let o = more n (held_more number_of seen before x n e h) i in
            (o.0, further before x xs f.word o.1)

pub repeats_found : {X : Type 0} (word_of : X → ℕ) (number_of : X → Option ℤ) (code : RuleCode)
    (seen : List ℤ) (before front : List X) (here : X) (rear : List X) (number : ℤ)
    → number_of here ≡ Some number
    → HasNumber number_of (before ++ front) number → Held number_of seen before
    → IsAmong (numbers_behind code seen
    (flat_map (λ x. numbered (word_of x) (number_of x)) (front ++ here ∷ rear)))
    (record { word = word_of here; code = code })
repeats_found word_of number_of code seen before [] here rear number is earlier h =
    subst
    (λ o. IsAmong (numbers_behind code seen (numbered (word_of here) o
    ++ flat_map (λ x. numbered (word_of x) (number_of x)) rear)) fault) (sym is)
    (among_front (fault_at (word_of here) (repeated_code code (not (list_any (int_eq number) seen)))) _ fault
    (subst (λ b. IsAmong (fault_at (word_of here) (repeated_code code (not b))) fault)
    (sym (h.all number (subst (λ l. HasNumber number_of l number) (append-nil before) earlier)))
    (among_first fault [])))
  where
    fault : WordFault
    fault = record { word = word_of here; code = code }
repeats_found word_of number_of code seen before (y ∷ ys) here rear number is earlier h =
    by (number_of y) refl (λ held. repeats_found word_of number_of code seen (before ++ y ∷ []) ys here rear
    number is next held)
    (λ n held. repeats_found word_of number_of code (n ∷ seen) (before ++ y ∷ []) ys here rear number
    is next held)
  where
    fault : WordFault
    fault = record { word = word_of here; code = code }

    rest : List Numbered
    rest = flat_map (λ x. numbered (word_of x) (number_of x)) (ys ++ here ∷ rear)

    next : HasNumber number_of ((before ++ y ∷ []) ++ ys) number
    next = subst (λ l. HasNumber number_of l number) (sym (append_assoc before (y ∷ []) ys)) earlier

    by : (o : Option ℤ) → number_of y ≡ o
        → (Held number_of seen (before ++ y ∷ []) → IsAmong (numbers_behind code seen rest) fault)
        → ((n : ℤ) → Held number_of (n ∷ seen) (before ++ y ∷ [])
        → IsAmong (numbers_behind code (n ∷ seen) rest) fault)
        → IsAmong (numbers_behind code seen (numbered (word_of y) (number_of y) ++ rest)) fault
    by None e none more =
        subst (λ o. IsAmong (numbers_behind code seen (numbered (word_of y) o ++ rest)) fault) (sym e)
        (none (held_none number_of seen before y e h))
    by (Some n) e none more =
        subst (λ o. IsAmong (numbers_behind code seen (numbered (word_of y) o ++ rest)) fault) (sym e)
        (among_rear (fault_at (word_of y) (repeated_code code (not (list_any (int_eq n) seen))))
        (numbers_behind code (n ∷ seen) rest) fault (more n (held_more number_of seen before y n e h)))

-- ---- cases

pub found_case : (see : List ℕ → View) (known : List Known) (all : List BodyAt) (f : WordFault)
    → IsAmong (flat_map (λ b. repeated_cases see known (cases_of b)) all) f
    → (f.code ≡ codes.RepeatedCase)
    × IsRepeatedCase (λ word v. number_by see known (limit_of word) v) all f.word
found_case see known all f h =
    let o = flat_among (λ b. repeated_cases see known (cases_of b)) all f h in
    let r = found_repeats (λ v. v.word) (λ v. number_by see known (limit_of v.word) v.value)
    codes.RepeatedCase [] [] (cases_of o.one) f
    (held_start (λ v. number_by see known (limit_of v.word) v.value)) o.of_it in
    let is = r.1 in (
      r.0,
      record {
        union = o.one;
        is_body = o.among;
        front = is.front;
        here = is.here;
        rear = is.rear;
        parts = is.parts;
        word_is = is.word_is;
        number = is.number;
        number_is = is.number_is;
        earlier = is.earlier;
      },
    )

pub case_found : (see : List ℕ → View) (known : List Known) (all : List BodyAt) (word : ℕ)
    → IsRepeatedCase (λ word v. number_by see known (limit_of word) v) all word
    → IsAmong (flat_map (λ b. repeated_cases see known (cases_of b)) all)
    (record { word = word; code = codes.RepeatedCase })
case_found see known all word h =
    among_flat (λ b. repeated_cases see known (cases_of b)) all h.union
    (record { word = word; code = codes.RepeatedCase }) h.is_body
    (subst (λ w. IsAmong (repeated_cases see known (cases_of h.union))
    (record { word = w; code = codes.RepeatedCase })) (sym h.word_is)
    (subst (λ l. IsAmong (repeated_cases see known l)
    (record { word = h.here.word; code = codes.RepeatedCase })) (sym h.parts)
    (repeats_found (λ v. v.word) (λ v. number_by see known (limit_of v.word) v.value) codes.RepeatedCase [] []
    h.front h.here h.rear h.number h.number_is h.earlier
    (held_start (λ v. number_by see known (limit_of v.word) v.value)))))

-- ---- numbers of versions and procedures

pub found_number : (groups : List Members) (m : Members) (f : WordFault) → IsAmong groups m
    → IsAmong (repeated_numbers codes.RepeatedNumber (spelled_numbers m.numbers)) f
    → (f.code ≡ codes.RepeatedNumber) × IsRepeatedNumber groups f.word
found_number groups m f among h =
    let r = found_repeats (λ x. x.word) (λ x. number_spelled x.text) codes.RepeatedNumber [] [] m.numbers f
    (held_start (λ x. number_spelled x.text)) h in
    let is = r.1 in (
      r.0,
      record {
        group = m;
        is_group = among;
        front = is.front;
        here = is.here;
        rear = is.rear;
        parts = is.parts;
        word_is = is.word_is;
        number = is.number;
        number_is = is.number_is;
        earlier = is.earlier;
      },
    )

pub number_found : (groups : List Members) (word : ℕ) (h : IsRepeatedNumber groups word)
    → IsAmong (repeated_numbers codes.RepeatedNumber (spelled_numbers h.group.numbers))
    (record { word = word; code = codes.RepeatedNumber })
number_found groups word h =
    subst (λ w. IsAmong (repeated_numbers codes.RepeatedNumber (spelled_numbers h.group.numbers))
    (record { word = w; code = codes.RepeatedNumber })) (sym h.word_is)
    (subst (λ l. IsAmong (repeated_numbers codes.RepeatedNumber (spelled_numbers l))
    (record { word = h.here.word; code = codes.RepeatedNumber })) (sym h.parts)
    (repeats_found (λ x. x.word) (λ x. number_spelled x.text) codes.RepeatedNumber [] [] h.front h.here h.rear
    h.number h.number_is h.earlier (held_start (λ x. number_spelled x.text))))
