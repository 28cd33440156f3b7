-- Which faults are chosen.
use Rattle.std.proofs.Common.{◌≡◌, ℕ, zero, suc, ◌+◌, ◌-◌, ◌<◌, ◌≤◌, arith, Bool, true, false, cond, List, []}
use Rattle.std.proofs.Common.{◌∷◌}
use Rattle.std.proofs.Common.{◌++◌, append-nil, length, length-append, drop, get_or, append_assoc, refl, sym}
use Rattle.std.proofs.Common.{ap, ◌∙◌}
use Rattle.std.proofs.lemmas.List.{drop_more}
use Rattle.std.proofs.lemmas.List.Elements.{filter-append}
use Rattle.std.specs.Prelude.{not}
use Rattle.std.specs.List.{filter}
use Rattle.x_compile.specs.declared.fault.FaultPlace.{FaultPlace}
use Rattle.x_told.specs.Choosing.{chosen, is_consequence, is_error, left_out, with_first}
use Rattle.x_told.specs.Telling.{is_of_faulty}

-- ---- the first of those that pass

module _ {X : Type 0} (t : X → Bool) where
  pub passed : (n : ℕ) (x : X) (xs : List X) → t x ≡ false → with_first n t (x ∷ xs) ≡ x ∷ with_first n t xs
  passed zero x xs is =
      let rest = filter (λ y. not (t y)) xs in ap (λ b. cond (not b) (x ∷ rest) rest) is
  passed (suc n) x xs is = ap (λ b. x ∷ with_first (cond b n (suc n)) t xs) is

  pub taken : (n : ℕ) (x : X) (xs : List X) → t x ≡ true
      → with_first (suc n) t (x ∷ xs) ≡ x ∷ with_first n t xs
  taken n x xs is = ap (λ b. x ∷ with_first (cond b n (suc n)) t xs) is

  pub dropped : (x : X) (xs : List X) → t x ≡ true → with_first zero t (x ∷ xs) ≡ with_first zero t xs
  dropped x xs is = let rest = filter (λ y. not (t y)) xs in ap (λ b. cond (not b) (x ∷ rest) rest) is

  how_many : (x : X) (xs : List X) (b : Bool) → t x ≡ b
      → length (filter t (x ∷ xs)) ≡ length (cond b (x ∷ filter t xs) (filter t xs))
  how_many x xs b is = ap (λ b. length (cond b (x ∷ filter t xs) (filter t xs))) is

  -- where no more than so many pass, all are there
  abbrev AreThere : List X → Type 0
  AreThere xs = (n : ℕ) → length (filter t xs) ≤ n → with_first n t xs ≡ xs

  one_there : (x : X) (xs : List X) → AreThere xs → (n : ℕ) → length (filter t (x ∷ xs)) ≤ n → (b : Bool)
      → t x ≡ b → with_first n t (x ∷ xs) ≡ x ∷ xs
  one_there x xs rest n few false is =
      let many = how_many x xs false is in
      passed n x xs is ∙ ap (λ l. x ∷ l) (rest n (omega (arith, many, few)))
  one_there x xs rest zero few true is = let many = how_many x xs true is in absurd (omega (arith, many, few))
  one_there x xs rest (suc n) few true is =
      let many = how_many x xs true is in
      taken n x xs is ∙ ap (λ l. x ∷ l) (rest n (omega (arith, many, few)))

  pub all_there : (xs : List X) (n : ℕ) → length (filter t xs) ≤ n → with_first n t xs ≡ xs
  all_there [] zero few = refl
  all_there [] (suc n) few = refl
  all_there (x ∷ xs) n few = one_there x xs (all_there xs) n few (t x) refl

  -- with those that are not there they are all
  abbrev AreCounted : List X → Type 0
  AreCounted xs = (n : ℕ) → length (with_first n t xs) + (length (filter t xs) - n) ≡ length xs

  one_counted : (x : X) (xs : List X) → AreCounted xs → (n : ℕ) (b : Bool) → t x ≡ b
      → length (with_first n t (x ∷ xs)) + (length (filter t (x ∷ xs)) - n) ≡ suc (length xs)
  one_counted x xs counts n false is =
      let many = how_many x xs false is in
      let long = ap (λ l. length l) (passed n x xs is) in
      let rest = counts n in
      omega (arith, many, long, rest)
  one_counted x xs counts zero true is =
      let many = how_many x xs true is in
      let long = ap (λ l. length l) (dropped x xs is) in
      let rest = counts zero in
      omega (arith, many, long, rest)
  one_counted x xs counts (suc n) true is =
      let many = how_many x xs true is in
      let long = ap (λ l. length l) (taken n x xs is) in
      let rest = counts n in
      omega (arith, many, long, rest)

  pub counted : (xs : List X) (n : ℕ) → length (with_first n t xs) + (length (filter t xs) - n) ≡ length xs
  counted [] zero = refl
  counted [] (suc n) = omega arith
  counted (x ∷ xs) n = one_counted x xs (counted xs) n (t x) refl

  -- all that do not pass are there
  module _ (u : X → Bool) (other : (x : X) → t x ≡ true → u x ≡ false) where
    gone : (x : X) (l : List X) → t x ≡ true → filter u (x ∷ l) ≡ filter u l
    gone x l is = ap (λ b. cond b (x ∷ filter u l) (filter u l)) (other x is)

    abbrev Stay : List X → Type 0
    Stay xs = (n : ℕ) → filter u (with_first n t xs) ≡ filter u xs

    one_stays : (x : X) (xs : List X) → Stay xs → (n : ℕ) (b : Bool) → t x ≡ b
        → filter u (with_first n t (x ∷ xs)) ≡ filter u (x ∷ xs)
    one_stays x xs rest n false is =
        ap (filter u) (passed n x xs is) ∙ ap (λ l. cond (u x) (x ∷ l) l) (rest n)
    one_stays x xs rest zero true is = ap (filter u) (dropped x xs is) ∙ rest zero ∙ sym (gone x xs is)
    one_stays x xs rest (suc n) true is =
        ap (filter u) (taken n x xs is) ∙ gone x (with_first n t xs) is ∙ rest n ∙ sym (gone x xs is)

    pub others_stay : (xs : List X) (n : ℕ) → filter u (with_first n t xs) ≡ filter u xs
    others_stay [] zero = refl
    others_stay [] (suc n) = refl
    others_stay (x ∷ xs) n = one_stays x xs (others_stay xs) n (t x) refl

-- ---- errors and consequences

-- each fault is one or the other
both : (ps : List FaultPlace) → length (filter is_error ps) + length (filter is_consequence ps) ≡ length ps
both [] = refl
both (p ∷ ps) = by (is_consequence p) (both ps)
  where
    by : (b : Bool) → length (filter is_error ps) + length (filter is_consequence ps) ≡ length ps
        → length (cond (not b) (p ∷ filter is_error ps) (filter is_error ps))
        + length (cond b (p ∷ filter is_consequence ps) (filter is_consequence ps)) ≡ suc (length ps)
    by true h = omega (arith, h)
    by false h = omega (arith, h)

no_consequence : (p : FaultPlace) → is_error p ≡ true → is_consequence p ≡ false
no_consequence p is = by (is_consequence p) is
  where
    by : (b : Bool) → not b ≡ true → b ≡ false
    by true e = absurd (cc)
    by false e = refl

-- where there are no more than may be shown, all are
pub all_chosen : (most : ℕ) (told : List FaultPlace) → length told ≤ most → told ≡ chosen most told
all_chosen most told few =
    let parts = both told in
    let room = most - length (filter is_error told) in
    sym (ap (with_first room is_consequence) (all_there is_error told most (omega (arith, parts, few)))
    ∙ all_there is_consequence told room (omega (arith, parts, few)))

-- those that are shown, and those that are left, are all
pub none_lost : (most : ℕ) (told : List FaultPlace)
    → length (chosen most told) + left_out most told ≡ length told
none_lost most told =
    let parts = both told in
    let errors = counted is_error told most in
    let shown = with_first most is_error told in
    let room = most - length (filter is_error told) in
    let consequences = counted is_consequence shown room in
    let stay = ap (λ l. length l) (others_stay is_error is_consequence no_consequence told most) in
    omega (arith, parts, errors, consequences, stay)

-- ---- the first faults

-- no element passes a test and its opposite
none_of_both : (ps : List FaultPlace) → filter is_error (filter is_consequence ps) ≡ []
none_of_both [] = refl
none_of_both (p ∷ ps) = by (is_consequence p) refl (none_of_both ps)
  where
    by : (b : Bool) → is_consequence p ≡ b → filter is_error (filter is_consequence ps) ≡ []
        → filter is_error (filter is_consequence (p ∷ ps)) ≡ []
    by true e rest =
        ap (λ b. filter is_error (cond b (p ∷ filter is_consequence ps) (filter is_consequence ps))) e
        ∙ ap (λ b. cond (not b) (p ∷ filter is_error (filter is_consequence ps))
        (filter is_error (filter is_consequence ps))) e
        ∙ rest
    by false e rest =
        ap (λ b. filter is_error (cond b (p ∷ filter is_consequence ps) (filter is_consequence ps))) e ∙ rest

-- what is no error is a consequence
not_error : (ps : List FaultPlace) → filter (λ p. not (is_error p)) ps ≡ filter is_consequence ps
not_error ps = ap (λ t. filter t ps) (λ i p. twice (is_consequence p) i)
  where
    twice : (b : Bool) → not (not b) ≡ b
    twice true = refl
    twice false = refl

-- behind so many errors none is shown
abbrev EnoughIn : List FaultPlace → Type 0
EnoughIn ps = (n : ℕ) → n ≤ length (filter is_error ps) → (rest : List FaultPlace)
    → with_first n is_error (ps ++ rest) ≡ with_first n is_error ps ++ filter is_consequence rest

one_enough : (p : FaultPlace) (ps : List FaultPlace) → EnoughIn ps → (n : ℕ)
    → n ≤ length (filter is_error (p ∷ ps)) → (rest : List FaultPlace) → (b : Bool) → is_error p ≡ b
    → with_first n is_error (p ∷ ps ++ rest) ≡ with_first n is_error (p ∷ ps) ++ filter is_consequence rest
one_enough p ps enough n few rest false is =
    let many = ap (λ b. length (cond b (p ∷ filter is_error ps) (filter is_error ps))) is in
    passed is_error n p (ps ++ rest) is ∙ ap (λ l. p ∷ l) (enough n (omega (arith, many, few)) rest)
    ∙ ap (λ l. l ++ filter is_consequence rest) (sym (passed is_error n p ps is))
one_enough p ps enough zero few rest true is =
    dropped is_error p (ps ++ rest) is ∙ enough zero (omega arith) rest
    ∙ ap (λ l. l ++ filter is_consequence rest) (sym (dropped is_error p ps is))
one_enough p ps enough (suc n) few rest true is =
    let many = ap (λ b. length (cond b (p ∷ filter is_error ps) (filter is_error ps))) is in
    taken is_error n p (ps ++ rest) is ∙ ap (λ l. p ∷ l) (enough n (omega (arith, many, few)) rest)
    ∙ ap (λ l. l ++ filter is_consequence rest) (sym (taken is_error n p ps is))

enough_in : (ps : List FaultPlace) → EnoughIn ps
enough_in [] zero few rest = not_error rest
enough_in [] (suc n) few rest = absurd (omega (arith, few))
enough_in (p ∷ ps) n few rest = one_enough p ps (enough_in ps) n few rest (is_error p) refl

-- so what stands behind them does not matter
pub enough_errors : (most : ℕ) (ps rest : List FaultPlace) → most ≤ length (filter is_error ps)
    → chosen most ps ≡ chosen most (ps ++ rest)
enough_errors most ps rest few =
    let long = ap (λ l. length l) (filter-append is_error ps rest)
    ∙ length-append (filter is_error ps) (filter is_error rest) in
    let here : most - length (filter is_error ps) ≡ 0 = omega (arith, few) in
    let there : most - length (filter is_error (ps ++ rest)) ≡ 0 = omega (arith, few, long) in
    let shown = with_first most is_error ps in
    let behind = filter is_consequence rest in
    ap (λ n. with_first n is_consequence shown) here
    ∙ sym (append-nil (filter is_error shown))
    ∙ ap (λ l. filter is_error shown ++ l) (sym (none_of_both rest))
    ∙ sym (filter-append is_error shown behind)
    ∙ ap (filter is_error) (sym (enough_in ps most few rest))
    ∙ ap (λ n. with_first n is_consequence (with_first most is_error (ps ++ rest))) (sym there)

-- room for errors, when another fault was passed
pub room_behind : (most : ℕ) (ps : List FaultPlace) (p : FaultPlace) (room left : ℕ) (b : Bool)
    → b ≡ is_of_faulty p.code → room ≡ most - length (filter is_error ps) → left ≡ cond b room (room - 1)
    → left ≡ most - length (filter is_error (ps ++ p ∷ []))
room_behind most ps p room left b is room_is left_is =
    let long = ap (λ l. length l) (filter-append is_error ps (p ∷ []))
    ∙ length-append (filter is_error ps) (filter is_error (p ∷ [])) in
    by b is left_is long
  where
    by : (b : Bool) → b ≡ is_of_faulty p.code → left ≡ cond b room (room - 1)
        → length (filter is_error (ps ++ p ∷ []))
        ≡ length (filter is_error ps) + length (filter is_error (p ∷ []))
        → left ≡ most - length (filter is_error (ps ++ p ∷ []))
    by true e l long =
        let one = ap (λ c. length (cond (not c) (p ∷ []) [])) (sym e) in omega (arith, one, long, l, room_is)
    by false e l long =
        let one = ap (λ c. length (cond (not c) (p ∷ []) [])) (sym e) in omega (arith, one, long, l, room_is)

-- ---- one fault after another

-- what is shown of faults, where there is room for so many errors and consequences
abbrev pub shown_in : (errors room : ℕ) → List FaultPlace → List FaultPlace
shown_in errors room ps = with_first room is_consequence (with_first errors is_error ps)

-- a fault more is shown, and less room is left for others
goes_in : (told list new : List FaultPlace) (i : ℕ) (none : FaultPlace)
    (f g : List FaultPlace → List FaultPlace)
    (all : List FaultPlace) → i < length told
    → f (get_or told i none ∷ drop (i + 1) told) ≡ get_or told i none ∷ g (drop (i + 1) told)
    → new ≡ list ++ get_or told i none ∷ [] → list ++ f (drop i told) ≡ all
    → new ++ g (drop (i + 1) told) ≡ all
goes_in told list new i none f g all lt is new_is had =
    let p = get_or told i none in
    let rest = g (drop (i + 1) told) in
    ap (λ l. l ++ rest) new_is ∙ append_assoc list (p ∷ []) rest ∙ ap (λ l. list ++ l) (sym is)
    ∙ ap (λ l. list ++ f l) (sym (drop_more told i none lt)) ∙ had

pub error_shown : (told list new : List FaultPlace) (i : ℕ) (none : FaultPlace) (errors room left : ℕ)
    (all : List FaultPlace) → i < length told → is_of_faulty (get_or told i none).code ≡ false
    → suc left ≡ errors → new ≡ list ++ get_or told i none ∷ []
    → list ++ shown_in errors room (drop i told) ≡ all
    → new ++ shown_in left room (drop (i + 1) told) ≡ all
error_shown told list new i none errors room left all lt is less new_is had =
    let p = get_or told i none in
    let rest = drop (i + 1) told in
    goes_in told list new i none (shown_in (suc left) room) (shown_in left room) all lt
    (ap (with_first room is_consequence) (taken is_error left p rest (ap not is))
    ∙ passed is_consequence room p (with_first left is_error rest) is)
    new_is (ap (λ n. list ++ shown_in n room (drop i told)) less ∙ had)

pub consequence_shown : (told list new : List FaultPlace) (i : ℕ) (none : FaultPlace) (errors room left : ℕ)
    (all : List FaultPlace) → i < length told → is_of_faulty (get_or told i none).code ≡ true
    → suc left ≡ room → new ≡ list ++ get_or told i none ∷ []
    → list ++ shown_in errors room (drop i told) ≡ all
    → new ++ shown_in errors left (drop (i + 1) told) ≡ all
consequence_shown told list new i none errors room left all lt is less new_is had =
    let p = get_or told i none in
    let rest = drop (i + 1) told in
    goes_in told list new i none (shown_in errors (suc left)) (shown_in errors left) all lt
    (ap (with_first (suc left) is_consequence) (passed is_error errors p rest (ap not is))
    ∙ taken is_consequence left p (with_first errors is_error rest) is)
    new_is (ap (λ n. list ++ shown_in errors n (drop i told)) less ∙ had)

-- one that is not shown
pub error_hidden : (told list : List FaultPlace) (i : ℕ) (none : FaultPlace) (errors room : ℕ)
    (all : List FaultPlace) → i < length told → is_of_faulty (get_or told i none).code ≡ false → errors ≡ 0
    → list ++ shown_in errors room (drop i told) ≡ all
    → list ++ shown_in errors room (drop (i + 1) told) ≡ all
error_hidden told list i none errors room all lt is full had =
    let p = get_or told i none in
    let rest = drop (i + 1) told in
    ap (λ n. list ++ shown_in n room rest) full
    ∙ ap (λ l. list ++ with_first room is_consequence l) (sym (dropped is_error p rest (ap not is)))
    ∙ (λ j. list ++ shown_in (sym full j) room (sym (drop_more told i none lt) j)) ∙ had

pub consequence_hidden : (told list : List FaultPlace) (i : ℕ) (none : FaultPlace) (errors room : ℕ)
    (all : List FaultPlace) → i < length told → is_of_faulty (get_or told i none).code ≡ true → room ≡ 0
    → list ++ shown_in errors room (drop i told) ≡ all
    → list ++ shown_in errors room (drop (i + 1) told) ≡ all
consequence_hidden told list i none errors room all lt is full had =
    let p = get_or told i none in
    let rest = drop (i + 1) told in
    ap (λ n. list ++ shown_in errors n rest) full
    ∙ ap (λ l. list ++ l)
    (sym (ap (with_first zero is_consequence) (passed is_error errors p rest (ap not is))
    ∙ dropped is_consequence p (with_first errors is_error rest) is))
    ∙ (λ j. list ++ shown_in errors (sym full j) (sym (drop_more told i none lt) j)) ∙ had
