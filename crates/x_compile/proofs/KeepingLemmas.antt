-- What was found of items is kept with them, from the last item on.
use Rattle.std.proofs.Common.{◌≡◌, ℕ, zero, suc, ◌+◌, ◌<◌, ◌⊎◌, inl, inr, List, [], ◌∷◌, ◌++◌, length, take}
use Rattle.std.proofs.Common.{drop, get_or, Option, None, refl, sym, ap, subst, ◌∙◌, append-nil, append_assoc}
use Rattle.std.proofs.Common.{arith}
use Rattle.std.specs.Global.{Box}
use Rattle.std.specs.Prelude.{Some, slice_get, slice_set}
use Rattle.std.proofs.lemmas.Option.{same_Some}
use Rattle.std.proofs.lemmas.List.{length_push, length-append, length-take-le, map-set, take-append-drop}
use Rattle.x_lists.proofs.ListLemmas.{drop_none, some_at}
use Rattle.x_cutting.specs.ItemList.{byte_counts, counts}
use Rattle.x_cutting.specs.ItemList as items
use Rattle.x_cutting.specs.declared.cutting.item_entry.ItemEntry.{ItemEntry}
use Rattle.x_rules.specs.declared.fault.RuleCode.{RuleCode}
use Rattle.x_compile.specs.Checking.{AreKnown, IsKnownAt}
use Rattle.x_compile.specs.KeptView.{AreWith, IsMarked, IsWith, IsWithAt, found_pieces, found_result}
use Rattle.x_compile.specs.KeptView.{kept_definition, kept_found, kept_lines, kept_parse, renewed_pieces}
use Rattle.x_compile.specs.declared.content.CheckResult.{CheckResult}
use Rattle.x_compile.specs.declared.content.Content.{Content}
use Rattle.x_compile.specs.declared.content.Content.TheVariants as contents
use Rattle.x_compile.specs.declared.content.ItemBody.{ItemBody}

-- what was found of an item stands in its box, whichever variant has it
pub found_in : (k : Content) (body : Box ItemBody) → (k ≡ contents.Sound body)
    ⊎ (((code : RuleCode) × (word : ℕ) × (k ≡ contents.OneFault code word body)) ⊎ (k ≡ contents.Faulty body))
    → kept_found k ≡ body.value.found
found_in k body (inl is) = ap kept_found is
found_in k body (inr (inl is)) = ap kept_found is.2
found_in k body (inr (inr is)) = ap kept_found is

set_seam : {X : Type 0} (front : List X) (x y : X) (rest : List X) (m : ℕ) → m ≡ length front
    → slice_set (front ++ x ∷ rest) m y ≡ front ++ y ∷ rest
set_seam [] x y rest m e = ap (λ n. slice_set (x ∷ rest) n y) e
set_seam (z ∷ front) x y rest zero e = absurd (omega (arith, e))
set_seam (z ∷ front) x y rest (suc m) e = ap (λ l. z ∷ l) (set_seam front x y rest m (omega (arith, e)))

many_known : (es : List (ItemEntry Content)) (rs : List (Option (Box CheckResult)))
    → AreKnown (items.kept es) rs → length es ≡ length rs
many_known [] [] known = refl
many_known [] (r ∷ rs) known = absurd known
many_known (e ∷ es) [] known = absurd known
many_known (e ∷ es) (r ∷ rs) known = ap suc (many_known es rs known.1)

known_at : (front back : List (ItemEntry Content)) (e : ItemEntry Content)
    (rs left : List (Option (Box CheckResult))) (r : Option (Box CheckResult)) → length front ≡ length rs
    → AreKnown (items.kept (front ++ e ∷ back)) (rs ++ r ∷ left) → kept_definition e.kept ≡ None → r ≡ None
known_at [] back e [] left r many known = known.0
known_at [] back e (s ∷ rs) left r many known = absurd (omega (arith, many))
known_at (f ∷ front) back e [] left r many known = absurd (omega (arith, many))
known_at (f ∷ front) back e (s ∷ rs) left r many known =
    known_at front back e rs left r (omega (arith, many)) known.1

-- the last items have what was found of them, and `rs` is left for those before
pub record AreKept (olds : List (ItemEntry Content)) (all : List (Option (Box CheckResult)))
    (news : List (ItemEntry Content)) (rs : List (Option (Box CheckResult))) : Type 0 where
  pub front : List (ItemEntry Content)
  pub back : List (ItemEntry Content)
  pub done : List (ItemEntry Content)
  pub left : List (Option (Box CheckResult))
  pub olds_are : olds ≡ front ++ back
  pub news_are : news ≡ front ++ done
  pub all_are : all ≡ rs ++ left
  pub many : length front ≡ length rs
  pub with : AreWith back left done

pub kept_none : (olds : List (ItemEntry Content)) (all : List (Option (Box CheckResult)))
    → AreKnown (items.kept olds) all → AreKept olds all olds all
kept_none olds all known = record {
  front = olds;
  back = [];
  done = [];
  left = [];
  olds_are = sym (append-nil olds);
  news_are = sym (append-nil olds);
  all_are = sym (append-nil all);
  many = many_known olds all known;
  with = tt;
}

-- the item that is next, and those before it
pub record IsLast (olds : List (ItemEntry Content)) (all : List (Option (Box CheckResult)))
    (news : List (ItemEntry Content)) (rs : List (Option (Box CheckResult))) (r : Option (Box CheckResult)) :
    Type 0 where
  pub front : List (ItemEntry Content)
  pub item : ItemEntry Content
  pub back : List (ItemEntry Content)
  pub done : List (ItemEntry Content)
  pub left : List (Option (Box CheckResult))
  pub olds_are : olds ≡ front ++ item ∷ back
  pub news_are : news ≡ front ++ item ∷ done
  pub all_are : all ≡ rs ++ r ∷ left
  pub many : length front ≡ length rs
  pub with : AreWith back left done

pub last_item : (olds : List (ItemEntry Content)) (all : List (Option (Box CheckResult)))
    (news : List (ItemEntry Content)) (before rs : List (Option (Box CheckResult)))
    (r : Option (Box CheckResult))
    → before ≡ rs ++ r ∷ [] → AreKept olds all news before → IsLast olds all news rs r
last_item olds all news before rs r popped h =
    let m = length rs in
    let more : length h.front ≡ m + 1 = h.many ∙ ap length popped ∙ length_push rs r in
    let at = some_at h.front m (omega (arith, more)) in
    let none : drop (suc m) h.front ≡ [] = drop_none h.front (suc m) (omega (arith, more)) in
    let split : take m h.front ++ at.0 ∷ [] ≡ h.front =
    sym (ap (λ l. take m h.front ++ l) (at.1 ∙ ap (λ l. at.0 ∷ l) none)) ∙ take-append-drop m h.front in
    let long : length (take m h.front) ≡ m = length-take-le m h.front (omega (arith, more)) in
    record {
      front = take m h.front;
      item = at.0;
      back = h.back;
      done = h.done;
      left = h.left;
      olds_are = h.olds_are ∙ ap (λ l. l ++ h.back) (sym split)
          ∙ append_assoc (take m h.front) (at.0 ∷ []) h.back;
      news_are = h.news_are ∙ ap (λ l. l ++ h.done) (sym split)
          ∙ append_assoc (take m h.front) (at.0 ∷ []) h.done;
      all_are = h.all_are ∙ ap (λ l. l ++ h.left) popped ∙ append_assoc rs (r ∷ []) h.left;
      many = long;
      with = h.with;
    }

pub last_known : (olds : List (ItemEntry Content)) (all : List (Option (Box CheckResult)))
    (news : List (ItemEntry Content)) (rs : List (Option (Box CheckResult))) (r : Option (Box CheckResult))
    → (h : IsLast olds all news rs r) → AreKnown (items.kept olds) all
    → kept_definition h.item.kept ≡ None → r ≡ None
last_known olds all news rs r h known =
    known_at h.front h.back h.item rs h.left r h.many
    (subst (λ l. AreKnown (items.kept l) (rs ++ r ∷ h.left)) h.olds_are
    (subst (λ l. AreKnown (items.kept olds) l) h.all_are known))

get_seam : {X : Type 0} (front : List X) (x d : X) (rest : List X) (m : ℕ) → m ≡ length front
    → get_or (front ++ x ∷ rest) m d ≡ x
get_seam [] x d rest m e = ap (λ n. get_or (x ∷ rest) n d) e
get_seam (z ∷ front) x d rest zero e = absurd (omega (arith, e))
get_seam (z ∷ front) x d rest (suc m) e = get_seam front x d rest m (omega (arith, e))

-- it stands where what is left of the list ends
pub last_is : (olds : List (ItemEntry Content)) (all : List (Option (Box CheckResult)))
    (news : List (ItemEntry Content)) (rs : List (Option (Box CheckResult))) (r : Option (Box CheckResult))
    (h : IsLast olds all news rs r) (m : ℕ) (e : ItemEntry Content)
    → m ≡ length rs → e ≡ get_or news m e → e ≡ h.item
last_is olds all news rs r h m e at is = is ∙ ap (λ l. get_or l m e) h.news_are
    ∙ get_seam h.front h.item e h.done m (at ∙ sym h.many)

-- it has what was found of it
pub kept_more : (olds : List (ItemEntry Content)) (all : List (Option (Box CheckResult)))
    (news next : List (ItemEntry Content)) (rs : List (Option (Box CheckResult)))
    (r : Option (Box CheckResult)) (m : ℕ) (f : ItemEntry Content)
    → (h : IsLast olds all news rs r) → m ≡ length rs → next ≡ slice_set news m f → IsWith h.item r f
    → AreKept olds all next rs
kept_more olds all news next rs r m f h at set is = record {
  front = h.front;
  back = h.item ∷ h.back;
  done = f ∷ h.done;
  left = r ∷ h.left;
  olds_are = h.olds_are;
  news_are = set ∙ ap (λ l. slice_set l m f) h.news_are
      ∙ set_seam h.front h.item f h.done m (at ∙ sym h.many);
  all_are = h.all_are;
  many = h.many;
  with = (is, h.with);
}

no_items : {X : Type 0} (xs : List X) → length xs ≡ 0 → xs ≡ []
no_items [] none = refl
no_items (x ∷ xs) none = absurd (omega (arith, none))

pub kept_all : (olds : List (ItemEntry Content)) (all : List (Option (Box CheckResult)))
    (news : List (ItemEntry Content)) (rs : List (Option (Box CheckResult))) → rs ≡ []
    → AreKept olds all news rs → AreWith olds all news
kept_all olds all news rs none h =
    let front = no_items h.front (h.many ∙ ap length none) in
    let olds_are : h.back ≡ olds = sym (h.olds_are ∙ ap (λ l. l ++ h.back) front) in
    let news_are : h.done ≡ news = sym (h.news_are ∙ ap (λ l. l ++ h.done) front) in
    let all_are : h.left ≡ all = sym (h.all_are ∙ ap (λ l. l ++ h.left) none) in
    subst (λ l. AreWith l all news) olds_are
    (subst (λ l. AreWith h.back l news) all_are (subst (λ l. AreWith h.back h.left l) news_are h.with))

-- ---- an item of a list in place

here_at : (front : List (ItemEntry Content)) (x : ItemEntry Content) (rest : List (ItemEntry Content)) (m : ℕ)
    → m ≡ length front → slice_get (front ++ x ∷ rest) m ≡ Some x
here_at [] x rest m e = ap (λ n. slice_get (x ∷ rest) n) e
here_at (z ∷ front) x rest zero e = absurd (omega (arith, e))
here_at (z ∷ front) x rest (suc m) e = here_at front x rest m (omega (arith, e))

pub last_within : (olds : List (ItemEntry Content)) (all : List (Option (Box CheckResult)))
    (news : List (ItemEntry Content)) (rs : List (Option (Box CheckResult))) (r : Option (Box CheckResult))
    (h : IsLast olds all news rs r) (m : ℕ) → m ≡ length rs → m < length news
last_within olds all news rs r h m at =
    let l = ap length h.news_are ∙ length-append h.front (h.item ∷ h.done) in
    let many = h.many in
    omega (arith, l, many, at)

pub kept_get : (es : List (ItemEntry Content)) (i : ℕ) (e : ItemEntry Content) → slice_get es i ≡ Some e
    → slice_get (items.kept es) i ≡ Some e.kept
kept_get [] i e is = absurd (cc)
kept_get (x ∷ es) zero e is =
    let same : x ≡ e = same_Some x e is in ap (λ (y : ItemEntry Content). Some y.kept) same
kept_get (x ∷ es) (suc i) e is = kept_get es i e is

pub last_known_at : (olds : List (ItemEntry Content)) (all : List (Option (Box CheckResult)))
    (news : List (ItemEntry Content)) (rs : List (Option (Box CheckResult))) (r : Option (Box CheckResult))
    (h : IsLast olds all news rs r) (m : ℕ) → m ≡ length rs
    → AreKnown (items.kept olds) all → IsKnownAt (items.kept news) m r
last_known_at olds all news rs r h m at known k is none =
    let here : slice_get news m ≡ Some h.item = ap (λ l. slice_get l m) h.news_are
    ∙ here_at h.front h.item h.done m (at ∙ sym h.many) in
    let same : h.item.kept ≡ k = same_Some h.item.kept k (sym (kept_get news m h.item here) ∙ is) in
    last_known olds all news rs r h known (ap kept_definition same ∙ none)

pub kept_on : (olds : List (ItemEntry Content)) (all : List (Option (Box CheckResult)))
    (news next : List (ItemEntry Content)) (rs : List (Option (Box CheckResult)))
    (r : Option (Box CheckResult)) (m : ℕ) → (h : IsLast olds all news rs r) → m ≡ length rs
    → IsWithAt news m r next → AreKept olds all next rs
kept_on olds all news next rs r m h at with =
    let here : slice_get news m ≡ Some h.item = ap (λ l. slice_get l m) h.news_are
    ∙ here_at h.front h.item h.done m (at ∙ sym h.many) in
    let same : with.old ≡ h.item = same_Some with.old h.item (sym with.was ∙ here) in
    kept_more olds all news next rs r m with.item h at with.put
    (subst (λ e. IsWith e r with.item) same with.with)

-- ---- one thing is kept in place of another, the tokens and bytes stay

-- an entry with which another thing is kept
abbrev pub keeping : ItemEntry Content → Content → ItemEntry Content
keeping e k = record { tokens = e.tokens; bytes = e.bytes; kept = k }

-- entries are alike that have as many tokens and bytes, and with which the same is kept
same_entries : (xs ys : List (ItemEntry Content)) → counts xs ≡ counts ys → byte_counts xs ≡ byte_counts ys
    → items.kept xs ≡ items.kept ys → xs ≡ ys
same_entries [] [] c b k = refl
same_entries [] (y ∷ ys) c b k = absurd (cc)
same_entries (x ∷ xs) [] c b k = absurd (cc)
same_entries (x ∷ xs) (y ∷ ys) c b k =
    let tokens : x.tokens ≡ y.tokens = cc in
    let bytes : x.bytes ≡ y.bytes = cc in
    let kept : x.kept ≡ y.kept = cc in
    let others : counts xs ≡ counts ys = cc in
    let other_bytes : byte_counts xs ≡ byte_counts ys = cc in
    let rest : items.kept xs ≡ items.kept ys = cc in
    let tail = same_entries xs ys others other_bytes rest in
    λ j. record { tokens = tokens j; bytes = bytes j; kept = kept j } ∷ tail j

counts_stay : (es : List (ItemEntry Content)) (i : ℕ) (e f : ItemEntry Content) → slice_get es i ≡ Some e
    → f.tokens ≡ e.tokens → counts (slice_set es i f) ≡ counts es
counts_stay [] i e f is same = refl
counts_stay (x ∷ es) zero e f is same =
    let here : x ≡ e = same_Some x e is in
    ap (λ n. n ∷ counts es) (same ∙ ap (λ (y : ItemEntry Content). y.tokens) (sym here))
counts_stay (x ∷ es) (suc i) e f is same = ap (λ l. x.tokens ∷ l) (counts_stay es i e f is same)

pub entry_set : (es fs : List (ItemEntry Content)) (i : ℕ) (e f : ItemEntry Content) → counts fs ≡ counts es
    → byte_counts fs ≡ slice_set (byte_counts es) i f.bytes
    → items.kept fs ≡ slice_set (items.kept es) i f.kept
    → slice_get es i ≡ Some e → f.tokens ≡ e.tokens → fs ≡ slice_set es i f
entry_set es fs i e f many bytes set is same =
    same_entries fs (slice_set es i f) (many ∙ sym (counts_stay es i e f is same))
    (bytes ∙ sym (map-set (λ (x : ItemEntry Content). x.bytes) es i f))
    (set ∙ sym (map-set (λ (x : ItemEntry Content). x.kept) es i f))

-- what stands there, put there again
set_same : (es : List (ItemEntry Content)) (i : ℕ) (e : ItemEntry Content) → slice_get es i ≡ Some e
    → slice_set (byte_counts es) i e.bytes ≡ byte_counts es
set_same [] i e is = refl
set_same (x ∷ es) zero e is =
    let here : x ≡ e = same_Some x e is in ap (λ (y : ItemEntry Content). y.bytes ∷ byte_counts es) (sym here)
set_same (x ∷ es) (suc i) e is = ap (λ l. x.bytes ∷ l) (set_same es i e is)

set_twice : {X : Type 0} (xs : List X) (i : ℕ) (x y : X) → slice_set (slice_set xs i x) i y ≡ slice_set xs i y
set_twice [] i x y = refl
set_twice (z ∷ xs) zero x y = refl
set_twice (z ∷ xs) (suc i) x y = ap (λ l. z ∷ l) (set_twice xs i x y)

pub entry_of : (es : List (ItemEntry Content)) (i : ℕ) (k : Content) → slice_get (items.kept es) i ≡ Some k
    → (e : ItemEntry Content) × (slice_get es i ≡ Some e) × (e.kept ≡ k)
entry_of [] i k is = absurd (cc)
entry_of (x ∷ es) zero k is = (x, refl, same_Some x.kept k is)
entry_of (x ∷ es) (suc i) k is = entry_of es i k is

-- the same item, whatever the numbers of its tokens and bytes, with which what was found is kept
pub kept_with : (out new : Content) (r : Option (Box CheckResult)) → kept_parse new ≡ kept_parse out
    → kept_lines new ≡ kept_lines out → found_result (kept_found new) ≡ found_result r
    → found_pieces (kept_found new) ≡ renewed_pieces (found_pieces (kept_found out)) r
    → (IsMarked out → IsMarked new)
    → (e : ItemEntry Content) → IsWith (keeping e out) r (keeping e new)
kept_with out new r parse lines result pieces marked e = record {
  tokens = refl;
  bytes = refl;
  parse = parse;
  lines = lines;
  result = result;
  pieces = pieces;
  marked = marked;
}

-- what was kept with an item is exchanged, and then again
pub with_at : (es fs gs : List (ItemEntry Content)) (i : ℕ) (out none new : Content)
    (r : Option (Box CheckResult)) → slice_get (items.kept es) i ≡ Some out → counts fs ≡ counts es
    → byte_counts fs ≡ byte_counts es → items.kept fs ≡ slice_set (items.kept es) i none
    → counts gs ≡ counts fs → byte_counts gs ≡ byte_counts fs
    → items.kept gs ≡ slice_set (items.kept fs) i new
    → ((e : ItemEntry Content) → IsWith (keeping e out) r (keeping e new)) → IsWithAt es i r gs
with_at es fs gs i out none new r was c1 b1 k1 c2 b2 k2 with =
    let at = entry_of es i out was in
    let set : items.kept gs ≡ slice_set (items.kept es) i new = k2 ∙ ap (λ l. slice_set l i new) k1
    ∙ set_twice (items.kept es) i none new in
    let e : at.0 ≡ keeping at.0 out = λ j. keeping at.0 (at.2 j) in
    record {
      old = at.0;
      was = at.1;
      item = keeping at.0 new;
      put = entry_set es gs i at.0 (keeping at.0 new) (c2 ∙ c1) (b2 ∙ b1 ∙ sym (set_same es i at.0 at.1))
          set at.1 refl;
      with = subst (λ x. IsWith x r (keeping at.0 new)) (sym e) (with at.0);
    }
