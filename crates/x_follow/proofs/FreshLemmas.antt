-- Fresh items are parsed one after another.
use Rattle.std.proofs.Common.{◌≡◌, ℕ, zero, suc, ◌+◌, ◌<◌, ◌≤◌, List, [], ◌∷◌, ◌++◌, length, take, drop, None}
use Rattle.std.proofs.Common.{Some, refl, sym, ap, subst, ◌∙◌, arith, length-drop}
use Rattle.std.specs.Prelude.{All, slice_get, slice_set}
use Rattle.std.proofs.lemmas.List.{drop-drop}
use Rattle.std.proofs.lemmas.List.Elements.{All-nil, All-push}
use Rattle.std.proofs.lemmas.Option.{same_Some}
use Rattle.x_lists.proofs.LengthLemmas.{before_le, before_read}
use Rattle.x_lex.specs.Places.{Lexeme}
use Rattle.x_cutting.specs.ItemList.{byte_counts, counts, tokens_before, total}
use Rattle.x_cutting.specs.ItemList as items
use Rattle.x_item.specs.Parse.{IsParse}
use Rattle.x_cutting.specs.declared.cutting.item_entry.ItemEntry.{ItemEntry}
use Rattle.x_compile.specs.Generated.{lines_of}
use Rattle.x_compile.specs.KeptView.{AreAlong, IsItem, IsMarked, byte_count, kept_found, kept_lines}
use Rattle.x_compile.specs.KeptView.{kept_parse}
use Rattle.x_compile.specs.declared.content.Content.{Content}
use Rattle.x_compile.proofs.AlongLemmas.{along_append, total_before}
use Rattle.x_compile.proofs.KeepingLemmas.{entry_set}

-- the first n of the items are parsed, along these tokens, of which the walk has left those behind
pub record IsParsedTo (tokens : List Lexeme) (old now : List (ItemEntry Content)) (walk : List Lexeme)
    (n : ℕ) : Type 0 where
  pub same : counts now ≡ counts old
  pub left : walk ≡ drop (tokens_before (counts old) n) tokens
  pub along : AreAlong tokens (take n now)
  pub unchecked : All (λ e. kept_found e.kept ≡ None) (take n now)

pub parsed_none : (tokens : List Lexeme) (old : List (ItemEntry Content)) (walk : List Lexeme) → walk ≡ tokens
    → IsParsedTo tokens old old walk 0
parsed_none tokens old walk is =
    record { same = refl; left = is; along = tt; unchecked = All-nil (λ e. kept_found e.kept ≡ None) }

-- the tokens of the next item are there
pub next_within : (tokens : List Lexeme) (old now : List (ItemEntry Content)) (walk : List Lexeme) (n m : ℕ)
    → IsParsedTo tokens old now walk n → total (counts old) ≤ length tokens
    → slice_get (counts now) n ≡ Some m → m ≤ length walk
next_within tokens old now walk n m h fits is =
    let here : slice_get (counts old) n ≡ Some m = ap (λ cs. slice_get cs n) (sym h.same) ∙ is in
    let next = before_read (λ c. c) (counts old) n m here in
    let most = before_le (λ c. c) (counts old) (n + 1) in
    let l = ap length h.left ∙ length-drop (tokens_before (counts old) n) tokens in
    omega (arith, next, most, l, fits)

take_set : {X : Type 0} (xs : List X) (n : ℕ) (y : X) → n < length xs
    → take (suc n) (slice_set xs n y) ≡ take n xs ++ y ∷ []
take_set [] n y lt = absurd (omega (arith, lt))
take_set (x ∷ xs) zero y lt = refl
take_set (x ∷ xs) (suc n) y lt = ap (λ l. x ∷ l) (take_set xs n y (omega (arith, lt)))

entry_at : (es : List (ItemEntry Content)) (i m : ℕ) → slice_get (counts es) i ≡ Some m
    → (e : ItemEntry Content) × (slice_get es i ≡ Some e) × (e.tokens ≡ m)
entry_at [] i m is = absurd (cc)
entry_at (x ∷ es) zero m is = (x, refl, same_Some x.tokens m is)
entry_at (x ∷ es) (suc i) m is = entry_at es i m is

within : (es : List (ItemEntry Content)) (i : ℕ) (e : ItemEntry Content) → slice_get es i ≡ Some e
    → i < length es
within [] i e is = absurd (cc)
within (x ∷ es) zero e is = omega arith
within (x ∷ es) (suc i) e is = let r = within es i e is in omega (arith, r)

-- one item more
pub parsed_next : (tokens : List Lexeme) (old now next : List (ItemEntry Content)) (walk walk' : List Lexeme)
    (n m bytes : ℕ) (k : Content) → IsParsedTo tokens old now walk n → total (counts old) ≤ length tokens
    → slice_get (counts now) n ≡ Some m
    → walk' ≡ drop m walk → bytes ≡ byte_count (take m walk) → IsMarked k
    → IsParse (take m walk) (kept_parse k) → kept_lines k ≡ lines_of (take m walk) → kept_found k ≡ None
    → counts next ≡ counts now → byte_counts next ≡ slice_set (byte_counts now) n bytes
    → items.kept next ≡ slice_set (items.kept now) n k
    → IsParsedTo tokens old next walk' (n + 1)
parsed_next tokens old now next walk walk' n m bytes k h fits is rest count marked parse lines none
    many sizes set =
    let at = entry_at now n m is in
    let f : ItemEntry Content = record { tokens = at.0.tokens; bytes = bytes; kept = k } in
    let put : next ≡ slice_set now n f = entry_set now next n at.0 f many sizes set at.1 refl in
    let one : suc n ≡ n + 1 = omega arith in
    let front : take (n + 1) next ≡ take n now ++ f ∷ [] = ap (λ l. take (n + 1) l) put
    ∙ ap (λ j. take j (slice_set now n f)) (sym one) ∙ take_set now n f (within now n at.0 at.1) in
    let here : slice_get (counts old) n ≡ Some m = ap (λ cs. slice_get cs n) (sym h.same) ∙ is in
    let far = before_read (λ c. c) (counts old) n m here in
    let few = next_within tokens old now walk n m h fits is in
    let long : at.0.tokens ≡ length (take at.0.tokens walk) = let e = at.2 in
    let t = length_take at.0.tokens walk (omega (arith, e, few)) in omega (arith, t) in
    let item : IsItem (take at.0.tokens walk) f = record {
      count = long;
      bytes = count ∙ ap (λ j. byte_count (take j walk)) (sym at.2);
      parsed = subst (λ j. IsParse (take j walk) (kept_parse k)) (sym at.2) parse;
      lines = lines ∙ ap (λ j. lines_of (take j walk)) (sym at.2);
      marked = marked;
    } in
    let start : tokens_before (counts old) n ≡ total (counts (take n now)) =
    ap (λ cs. tokens_before cs n) (sym h.same) ∙ sym (total_before now n) in
    let there : IsItem (take f.tokens (drop (total (counts (take n now))) tokens)) f =
    subst (λ l. IsItem (take at.0.tokens l) f) (h.left ∙ ap (λ j. drop j tokens) start) item in
    record {
      same = many ∙ h.same;
      left = rest ∙ ap (drop m) h.left ∙ drop-drop m (tokens_before (counts old) n) tokens
          ∙ ap (λ j. drop j tokens) (sym far);
      along = subst (λ l. AreAlong tokens l) (sym front)
          (along_append (take n now) (f ∷ []) tokens h.along (there, tt));
      unchecked = subst (λ l. All (λ e. kept_found e.kept ≡ None) l) (sym front)
          (All-push (λ e. kept_found e.kept ≡ None) (take n now) f h.unchecked none);
    }
  where
    length_take : (j : ℕ) (l : List Lexeme) → j ≤ length l → length (take j l) ≡ j
    length_take zero l le = refl
    length_take (suc j) [] le = absurd (omega (arith, le))
    length_take (suc j) (x ∷ l) le = let r = length_take j l (omega (arith, le)) in omega (arith, r)
