-- Results of items, by what was found of the items before them.
use Rattle.std.proofs.Common.{◌≡◌, ℕ, suc, ◌+◌, ◌<◌, Bool, true, false, cond, List, [], ◌∷◌, ◌++◌, length}
use Rattle.std.proofs.Common.{map, arith, take, drop, get_or, ◌≤◌, Option, None, Some, refl, sym, ap, subst}
use Rattle.std.proofs.Common.{◌∙◌, append-nil}
use Rattle.std.specs.Cow.{cow_slice_items}
use Rattle.std.proofs.lemmas.List.{take_all, drop_all, length_push, length-map, length-take-le}
use Rattle.x_text.specs.Counts.{Counts}
use Rattle.x_trees.specs.Tree.{Definition}
use Rattle.x_trees.specs.Names.{Declared}
use Rattle.x_trees.specs.Collected.{view_name}
use Rattle.x_trees.specs.Mentions.{Mention}
use Rattle.x_trees.specs.Collected.{view_mention}
use Rattle.x_trees.specs.declared.names.declared_name.DeclaredName.{DeclaredName}
use Rattle.x_trees.specs.declared.names.mention.Mention as rust
use Rattle.x_trees.specs.declared.names.declared_name.NameKind.TheVariants as kinds
use Rattle.x_rules.specs.Views.{View, Earlier}
use Rattle.x_trees.specs.Seen.{names_of}
use Rattle.x_trees.specs.Spell.{IsShort}
use Rattle.x_names.specs.Declarers.{AreShort, is_beforehand, FirstIs}
use Rattle.x_names.specs.declared.names.Declarer.{Declarer}
use Rattle.x_rules.specs.Results.{KnownNames, known_or, Outcome, IsOutcome, IsResult, AreResults}
use Rattle.x_rules.specs.Results.{AreResultsFrom, result_at, view_of, view_by, beforehand_meaning}
use Rattle.x_rules.specs.declared.fault.WordFault.{WordFault}
use Rattle.x_pieces.specs.Pieces.{Pieces}
use Rattle.x_pieces.specs.Rendering.{pieces_of}
use Rattle.x_names.proofs.DeclarerLaws.{as_found}
use Rattle.x_rules.proofs.HasResults.{stays_result, agree_front}
use Rattle.x_lists.proofs.ListLemmas.{drop_one, get_at, take_next}
use Rattle.x_rules.proofs.OutlineLemmas.{map_map}
use Rattle.x_rules.proofs.ResultLaws.{AgreeBefore}
use Rattle.x_text.proofs.Listing.{mapped_one}
use Rattle.std.specs.Global.{Box}
use Rattle.std.specs.Prelude.{is_some, option_map, slice_get}
use Rattle.x_compile.specs.Checking.{AreChecked, AreRendered, IsShortAt, all_checked, kept_definitions, sound}
use Rattle.x_compile.specs.Checking.{sound_pieces, view_by_first}
use Rattle.x_compile.specs.Counting.{faults_found, faults_with}
use Rattle.x_compile.specs.KeptView.{found_pieces, found_result, kept_definition, kept_found, pieces_behind}
use Rattle.x_compile.specs.KeptView.{renewed_pieces}
use Rattle.x_compile.specs.declared.content.CheckResult.{CheckResult}
use Rattle.x_compile.specs.declared.content.Content.{Content}

-- ---- one item more

results_push : (known : KnownNames) (definitions : List (Option Definition)) (r s : ℕ → Option Outcome)
    (n m : ℕ) (ds : List (Option Definition)) (os : List (Option Outcome)) (d : Option Definition)
    (o : Option Outcome)
    → AgreeBefore r s m → m ≡ n + length os → AreResultsFrom known definitions r n ds os
    → IsResult known definitions s m d o → AreResultsFrom known definitions s n (ds ++ d ∷ []) (os ++ o ∷ [])
results_push known definitions r s n m [] [] d o agree place are is =
    let here : m ≡ n = omega (arith, place) in (subst (λ k. IsResult known definitions s k d o) here is, tt)
results_push known definitions r s n m [] (x ∷ os) d o agree place are is = absurd are
results_push known definitions r s n m (y ∷ ds) [] d o agree place are is = absurd are
results_push known definitions r s n m (y ∷ ds) (x ∷ os) d o agree place are is =
    let next : m ≡ suc n + length os = omega (arith, place) in (
      stays_result known definitions r s n y x (λ k lt. agree k (omega (arith, lt, place))) are.0,
      results_push known definitions r s (suc n) m ds os d o agree next are.1 is,
    )

-- the result of the next item joins those of the items before it
pub results_more : (known : KnownNames) (definitions : List (Option Definition))
    (ds : List (Option Definition)) (os : List (Option Outcome)) (item : ℕ) (d : Option Definition)
    (o : Option Outcome)
    → item ≡ length os → AreResultsFrom known definitions (result_at os) 0 ds os
    → IsResult known definitions (result_at os) item d o
    → AreResultsFrom known definitions (result_at (os ++ o ∷ [])) 0 (ds ++ d ∷ []) (os ++ o ∷ [])
results_more known definitions ds os item d o place are is =
    let agree : AgreeBefore (result_at os) (result_at (os ++ o ∷ [])) item =
    agree_front os (o ∷ []) item place in
    results_push known definitions (result_at os) (result_at (os ++ o ∷ [])) 0 item ds os d o agree
    (omega (arith, place)) are
    (stays_result known definitions (result_at os) (result_at (os ++ o ∷ [])) item d o agree is)

-- ---- views by a table of names

pub views_by_first : (known : KnownNames) (definitions : List (Option Definition))
    (find : List ℕ → Option Declarer) (results : ℕ → Option Outcome) (item : ℕ)
    → ((name : List ℕ) → FirstIs definitions name (find name))
    → (names : List (List ℕ)) → map (view_by_first known find results item) names
    ≡ map (view_by known definitions results item) names
views_by_first known definitions find results item first names =
    ap (λ f. map f names)
    (λ i name. ap (λ o. cond (is_beforehand name) (Earlier kinds.Constant false (beforehand_meaning name))
    (known_or (known name) (view_of results item o))) (as_found definitions name (find name) (first name)) i)

-- what checking a definition gives by views of a table of names
pub result_by_first : (known : KnownNames) (definitions : List (Option Definition))
    (find : List ℕ → Option Declarer) (results : ℕ → Option Outcome) (item : ℕ) (d : Definition)
    (views : List View) (o : Outcome)
    → ((name : List ℕ) → FirstIs definitions name (find name))
    → views ≡ map (view_by_first known find results item) (names_of d) → IsOutcome d views o
    → IsResult known definitions results item (Some d) (Some o)
result_by_first known definitions find results item d views o first are is =
    subst (λ vs. IsOutcome d vs o) (are
    ∙ views_by_first known definitions find results item first (names_of d)) is

-- ---- the names that an item sees

pub names_declared : (f : List ℕ → View) (views : List View) (n : ℕ) (lent ds : List DeclaredName)
    (all : List Declared) → views ≡ map f (map (λ d. cow_slice_items d.name) (take n lent))
    → length lent ≤ n → lent ≡ ds
    → map view_name ds ≡ all → views ≡ map f (map (λ x. x.name) all ++ [])
names_declared f views n lent ds all so end same are =
    so ∙ ap (λ l. map f (map (λ (d : DeclaredName). cow_slice_items d.name) l)) (take_all n lent end ∙ same)
    ∙ ap (map f) (map_map (λ x. x.name) view_name ds ∙ ap (map (λ (x : Declared). x.name)) are
    ∙ sym (append-nil (map (λ (x : Declared). x.name) all)))

pub names_mentioned : (f : List ℕ → View) (views : List View) (front : List (List ℕ)) (n : ℕ)
    (lent ms : List rust.Mention) (all : List Mention)
    → views ≡ map f (front ++ map (λ m. m.name.now) (take n lent)) → length lent ≤ n → lent ≡ ms
    → map view_mention ms ≡ all → views ≡ map f (front ++ map (λ m. m.name) all)
names_mentioned f views front n lent ms all so end same are =
    so ∙ ap (λ l. map f (front ++ map (λ (m : rust.Mention). m.name.now) l)) (take_all n lent end ∙ same)
    ∙ ap (λ l. map f (front ++ l)) (map_map (λ m. m.name) view_mention ms
    ∙ ap (map (λ (m : Mention). m.name)) are)

-- ---- an item

-- an item without a definition has no result
pub no_result : (known : KnownNames) (definitions : List (Option Definition)) (results : ℕ → Option Outcome)
    (item : ℕ) (d : Option Definition) → None ≡ d → IsResult known definitions results item d None
no_result known definitions results item None is = tt
no_result known definitions results item (Some d) is = absurd (cc)

pub some_result : (known : KnownNames) (definitions : List (Option Definition))
    (find : List ℕ → Option Declarer) (results : ℕ → Option Outcome) (item : ℕ) (d : Definition)
    (kept : Option Definition) (views : List View) (o : Outcome)
    → Some d ≡ kept → IsShortAt kept → ((name : List ℕ) → FirstIs definitions name (find name))
    → (IsShort d → views ≡ map (view_by_first known find results item) (names_of d))
    → (IsShort d → IsOutcome d views o)
    → IsResult known definitions results item kept (Some o)
some_result known definitions find results item d kept views o same short first are is =
    let fits = short d (sym same) in
    subst (λ x. IsResult known definitions results item x (Some o)) same
    (result_by_first known definitions find results item d views o first (are fits) (is fits))

-- ---- all items

-- the definition at an index
here : {X : Type 0} (f : X → Option Definition) (xs : List X) (index : ℕ) (x : X) → index < length xs
    → x ≡ get_or xs index x → slice_get (map f xs) index ≡ Some (f x)
here f xs index x lt is = get_at (map f xs) index (f x) (drop (suc index) (map f xs))
    (mapped_one f xs index x lt is)

pub short_here : {X : Type 0} (f : X → Option Definition) (xs : List X) (index : ℕ) (x : X)
    → index < length xs → x ≡ get_or xs index x → AreShort (map f xs) → IsShortAt (f x)
short_here f xs index x lt is short d same = short index d (here f xs index x lt is ∙ ap Some same)

pub many_more : {R : Type 0} (index : ℕ) (rs new : List R) (r : R) → new ≡ rs ++ r ∷ [] → index ≡ length rs
    → index + 1 ≡ length new
many_more index rs new r pushed many =
    let more = ap length pushed ∙ length_push rs r in
    omega (arith, many, more)

pub results_next : {X : Type 0} (known : KnownNames) (f : X → Option Definition) (xs : List X) (index : ℕ)
    (x : X) (rs new : List (Option Outcome)) (r : Option Outcome)
    → index < length xs → x ≡ get_or xs index x → new ≡ rs ++ r ∷ [] → index ≡ length rs
    → AreResultsFrom known (map f xs) (result_at rs) 0 (take index (map f xs)) rs
    → IsResult known (map f xs) (result_at rs) (length rs) (f x) r
    → AreResultsFrom known (map f xs) (result_at new) 0 (take (index + 1) (map f xs)) new
results_next known f xs index x rs new r lt at pushed many are is =
    let ds = map f xs in
    let next : suc index ≡ index + 1 = omega arith in
    let front : take (index + 1) ds ≡ take index ds ++ f x ∷ [] =
    sym (ap (λ n. take n ds) next)
    ∙ take_next ds index (f x) (drop (suc index) ds) (mapped_one f xs index x lt at) in
    subst (λ os. AreResultsFrom known ds (result_at os) 0 (take (index + 1) ds) os) (sym pushed)
    (subst (λ l. AreResultsFrom known ds (result_at (rs ++ r ∷ [])) 0 l (rs ++ r ∷ [])) (sym front)
    (results_more known ds (take index ds) rs (length rs) (f x) r refl are is))

counted_on : (counts : Counts) (d : Option Definition) (ds : List (Option Definition))
    → all_checked counts (d ∷ ds) ≡ all_checked (all_checked counts (d ∷ [])) ds
counted_on counts None ds = refl
counted_on counts (Some d) ds = refl

-- one item more is counted
pub counted_more : {X : Type 0} (f : X → Option Definition) (before after all : Counts) (xs : List X)
    (index : ℕ) (x : X) → index < length xs → x ≡ get_or xs index x → after ≡ all_checked before (f x ∷ [])
    → all_checked before (map f (drop index xs)) ≡ all → all_checked after (map f (drop (index + 1) xs)) ≡ all
counted_more f before after all xs index x lt at step so =
    let front = drop_one xs index x lt ∙ ap (λ i. i ∷ drop (index + 1) xs) (sym at) in
    ap (λ c. all_checked c (map f (drop (index + 1) xs))) step
    ∙ sym (counted_on before (f x) (map f (drop (index + 1) xs)))
    ∙ sym (ap (λ is. all_checked before (map f is)) front) ∙ so

-- what is generated of one item more
rendered_push : (ks : List Content) (rs : List (Option (Box CheckResult))) (k : Content)
    (r : Option (Box CheckResult))
    → AreRendered ks rs → renewed_pieces (found_pieces (kept_found k)) r
    ≡ sound_pieces (kept_definition k) (found_result r) → AreRendered (ks ++ k ∷ []) (rs ++ r ∷ [])
rendered_push [] [] k r are is = (is, tt)
rendered_push [] (x ∷ rs) k r are is = absurd are
rendered_push (y ∷ ks) [] k r are is = absurd are
rendered_push (y ∷ ks) (x ∷ rs) k r are is = (are.0, rendered_push ks rs k r are.1 is)

-- one element more of a list that is gone over
front_next : {X Y : Type 0} (f : X → Y) (xs : List X) (index : ℕ) (x : X) → index < length xs
    → x ≡ get_or xs index x → take (index + 1) (map f xs) ≡ take index (map f xs) ++ f x ∷ []
front_next f xs index x lt at =
    let ys = map f xs in
    let next : suc index ≡ index + 1 = omega arith in
    sym (ap (λ n. take n ys) next)
    ∙ take_next ys index (f x) (drop (suc index) ys) (mapped_one f xs index x lt at)

pub rendered_next : {X : Type 0} (f : X → Content) (xs : List X) (index : ℕ) (x : X)
    (rs new : List (Option (Box CheckResult))) (r : Option (Box CheckResult))
    → index < length xs → x ≡ get_or xs index x → new ≡ rs ++ r ∷ [] → AreRendered (take index (map f xs)) rs
    → renewed_pieces (found_pieces (kept_found (f x))) r
    ≡ sound_pieces (kept_definition (f x)) (found_result r)
    → AreRendered (take (index + 1) (map f xs)) new
rendered_next f xs index x rs new r lt at pushed are is =
    let ks = map f xs in
    subst (λ os. AreRendered (take (index + 1) ks) os) (sym pushed)
    (subst (λ l. AreRendered l (rs ++ r ∷ [])) (sym (front_next f xs index x lt at))
    (rendered_push (take index ks) rs (f x) r are is))

-- the faults of one item more
faults_push : (ks : List Content) (rs : List (Option (Box CheckResult))) (k : Content)
    (r : Option (Box CheckResult)) → length ks ≡ length rs
    → faults_found (ks ++ k ∷ []) (rs ++ r ∷ []) ≡ faults_found ks rs + faults_with k r
faults_push [] [] k r many = omega arith
faults_push [] (x ∷ rs) k r many = absurd (omega (arith, many))
faults_push (y ∷ ks) [] k r many = absurd (omega (arith, many))
faults_push (y ∷ ks) (x ∷ rs) k r many =
    let more = faults_push ks rs k r (omega (arith, many)) in omega (arith, more)

pub faults_next : {X : Type 0} (f : X → Content) (xs : List X) (index faults : ℕ) (x : X)
    (rs new : List (Option (Box CheckResult))) (r : Option (Box CheckResult))
    → index < length xs → x ≡ get_or xs index x → new ≡ rs ++ r ∷ [] → index ≡ length rs
    → faults ≡ faults_found (take index (map f xs)) rs
    → faults + faults_with (f x) r ≡ faults_found (take (index + 1) (map f xs)) new
faults_next f xs index faults x rs new r lt at pushed many is =
    let ks = map f xs in
    let l = length-map xs f in
    let long : length (take index ks) ≡ index = length-take-le index ks (omega (arith, l, lt)) in
    let more = faults_push (take index ks) rs (f x) r (long ∙ many) in
    let same : faults_found (take (index + 1) ks) new ≡ faults_found (take index ks ++ f x ∷ [])
    (rs ++ r ∷ []) = λ i. faults_found (front_next f xs index x lt at i) (pushed i) in
    omega (arith, more, same, is)

-- all items are checked
pub checked_all : {X : Type 0} (known : KnownNames) (f : X → Content) (xs : List X) (n : ℕ)
    (rs : List (Option (Box CheckResult))) (faults : ℕ) → length xs ≤ n
    → AreResultsFrom known (map (λ x. kept_definition (f x)) xs) (result_at (map found_result rs)) 0
    (take n (map (λ x. kept_definition (f x)) xs)) (map found_result rs)
    → AreRendered (take n (map f xs)) rs → faults ≡ faults_found (take n (map f xs)) rs
    → AreChecked known (map f xs) rs faults
checked_all known f xs n rs faults end are rendered count =
    let ds = map (λ x. kept_definition (f x)) xs in
    let l = length-map xs f in
    let m = length-map xs (λ x. kept_definition (f x)) in
    let all : take n (map f xs) ≡ map f xs = take_all n (map f xs) (omega (arith, l, end)) in
    let whole : take n ds ≡ ds = take_all n ds (omega (arith, m, end)) in
    let same : kept_definitions (map f xs) ≡ ds = sym (map_map kept_definition f xs) in
    record {
      results = subst (λ l. AreResults known l (map found_result rs)) (sym same)
          (subst (λ l. AreResultsFrom known ds (result_at (map found_result rs)) 0 l (map found_result rs))
          whole are);
      rendered = subst (λ l. AreRendered l rs) all rendered;
      count = count ∙ ap (λ l. faults_found l rs) all;
    }

-- all of them are counted
pub counted_all : {X : Type 0} (f : X → Content) (xs : List X) (n : ℕ) (now all : Counts) → length xs ≤ n
    → all_checked now (map (λ x. kept_definition (f x)) (drop n xs)) ≡ all → now ≡ all
counted_all f xs n now all end so =
    sym (ap (λ l. all_checked now (map (λ x. kept_definition (f x)) l)) (drop_all n xs end)) ∙ so

-- ---- what is generated of a definition

-- pieces of a definition that has some, or gets new ones where it has no fault
pub pieces_stay : (d : Definition) (had new : Option Pieces) (fs : List WordFault) (has : Bool)
    → has ≡ is_some had → new ≡ cond has None (option_map pieces_of (sound (Some d) fs))
    → ((p : Pieces) → had ≡ Some p → Some (pieces_of d) ≡ Some p)
    → pieces_behind had new fs ≡ option_map pieces_of (sound (Some d) fs)
pieces_stay d None new [] has is made right =
    ap (λ n. pieces_behind None n []) (made ∙ ap (λ b. cond b None (Some (pieces_of d))) is)
pieces_stay d (Some p) new [] has is made right = ap (λ n. pieces_behind (Some p) n [])
    (made ∙ ap (λ b. cond b None (Some (pieces_of d))) is) ∙ sym (right p refl)
pieces_stay d had new (f ∷ fs) has is made right = ap (λ n. pieces_behind had n (f ∷ fs)) (made ∙ none has)
  where
    none : (b : Bool) → cond b None (option_map pieces_of (sound (Some d) (f ∷ fs))) ≡ None
    none true = refl
    none false = refl
