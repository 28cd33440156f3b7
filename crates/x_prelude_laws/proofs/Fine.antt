-- Pieces of which each is a word by itself, and that may stand side by side, are the tokens of their text.
use Rattle.std.proofs.Common.{◌≡◌, ℕ, suc, ◌+◌, ◌^◌, ◌<◌, Bool, true, false, cond, List, [], ◌∷◌, ◌++◌, map}
use Rattle.std.proofs.Common.{length, get_or, take, arith, refl, sym, ap, subst, ◌∙◌}
use Rattle.std.specs.Prelude.{if◌then◌else◌, ◌&&◌, ◌||◌, decimal}
use Rattle.std.specs.List.{list_all, prefix_len}
use Rattle.std.specs.Int.Digits.{AllBelowBase, digits_of}
use Rattle.std.proofs.Math.Seq.{take-append_seam}
use Rattle.std.proofs.lemmas.Bool.{cond-true, cond-false}
use Rattle.std.proofs.lemmas.Bool.Decides.{nat_tests}
use Rattle.std.proofs.lemmas.Fmt.{decimal-digits_of}
use Rattle.std.proofs.lemmas.Int.Digits.{all_below_base_digits_of, first_digits_of}
use Rattle.std.proofs.lemmas.List.{length-append}
use Rattle.x_lex.specs.declared.kind.Kind.{Kind}
use Rattle.x_lex.specs.declared.kind.Kind.TheVariants as kinds
use Rattle.x_lex.specs.Bytes.{is_between, is_decimal, is_digit, is_hex, is_keyword, is_letter, is_negative}
use Rattle.x_lex.specs.Bytes.{is_number, is_octal, is_punct, is_space, is_word_byte}
use Rattle.x_lex.specs.Scan.{scan, scan_as}
use Rattle.x_lex.specs.Tiling.{starts_after}
use Rattle.x_lex.specs.Word.{IsToken}
use Rattle.x_lex.proofs.ClassLemmas.{class_blank, class_digits, class_letters, class_mark}
use Rattle.x_lex.proofs.MarkLemmas.{punct_apart}
use Rattle.x_lex.proofs.ScanLemmas.{scan_token}
use Rattle.x_prelude_laws.proofs.Pieces.{Lexes, Piece, bytes_of}

-- ---- words

-- a letter or `_`, then letters, digits or `_`
pub record IsWordy (w : List ℕ) : Type 0 where
  pub first : is_letter (get_or w 0 0) ≡ true
  pub all : list_all is_word_byte w ≡ true

-- `1` to `9`, then digits
pub record IsDecimal (w : List ℕ) : Type 0 where
  pub first : is_between 49 57 (get_or w 0 0) ≡ true
  pub all : list_all is_digit w ≡ true

-- one byte
pub record IsByte (p : ℕ → Bool) (w : List ℕ) : Type 0 where
  pub byte : ℕ
  pub is : w ≡ byte ∷ []
  pub passes : p byte ≡ true

-- a digit, then letters, digits or `_`, in the form of a number
pub record IsNumeral (w : List ℕ) : Type 0 where
  pub first : is_digit (get_or w 0 0) ≡ true
  pub all : list_all is_word_byte w ≡ true
  pub form : is_number w ≡ true

-- it is a word of the kind, wherever it stands
abbrev pub IsFine : Kind → List ℕ → Type 0
IsFine kinds.Keyword w = IsWordy w × (is_keyword w ≡ true)
IsFine kinds.Name w = IsWordy w × (is_keyword w ≡ false)
IsFine kinds.Number w = IsNumeral w
IsFine kinds.Punct w = IsByte is_punct w
IsFine kinds.Space w = IsByte is_space w
IsFine kind w = ⊥

abbrev pub AllFine : List Piece → Type 0
AllFine [] = Unit {0}
AllFine (p ∷ ps) = IsFine p.0 p.1 × AllFine ps

-- tokens of these kinds may stand side by side
abbrev pub is_apart : Kind → Kind → Bool
is_apart kinds.Punct kind = true
is_apart kinds.Space kinds.Space = false
is_apart kinds.Space kind = true
is_apart kind kinds.Space = true
is_apart kind kinds.Punct = true
is_apart kind other = false

abbrev pub are_apart : List Piece → Bool
are_apart [] = true
are_apart (p ∷ []) = true
are_apart (p ∷ q ∷ ps) = is_apart p.0 q.0 && are_apart (q ∷ ps)

-- ---- how far a word goes

run_len : (p : ℕ → Bool) (w rest : List ℕ) → list_all p w ≡ true → p (get_or rest 0 0) ≡ false
    → prefix_len p (w ++ rest) ≡ length w
run_len p [] [] all stops = refl
run_len p [] (b ∷ rest) all stops = cond-false (p b) (1 + prefix_len p rest) 0 stops
run_len p (b ∷ w) rest all stops = by (p b) (list_all p w) refl refl all (λ f. run_len p w rest f stops)
  where
    by : (q r : Bool) → p b ≡ q → list_all p w ≡ r → (q && r) ≡ true
        → (list_all p w ≡ true → prefix_len p (w ++ rest) ≡ length w)
        → cond (p b) (1 + prefix_len p (w ++ rest)) 0 ≡ suc (length w)
    by true true e f both next =
        let more = next f in
        cond-true (p b) (1 + prefix_len p (w ++ rest)) 0 e ∙ omega (arith, more)
    by true false e f both next = absurd (cc)
    by false r e f both next = absurd (cc)

-- a byte that passes one test passes the other
all_by : (p q : ℕ → Bool) (w : List ℕ) → ((b : ℕ) → p b ≡ true → q b ≡ true) → list_all p w ≡ true
    → list_all q w ≡ true
all_by p q [] more all = refl
all_by p q (b ∷ w) more all = by (p b) (list_all p w) refl refl all (λ f. all_by p q w more f)
  where
    both : (x y : Bool) → x ≡ true → y ≡ true → (x && y) ≡ true
    both x y e f = ap (λ z. z && y) e ∙ f

    by : (x y : Bool) → p b ≡ x → list_all p w ≡ y → (x && y) ≡ true
        → (list_all p w ≡ true → list_all q w ≡ true) → (q b && list_all q w) ≡ true
    by true true e f h next = both (q b) (list_all q w) (more b e) (next f)
    by true false e f h next = absurd (cc)
    by false y e f h next = absurd (cc)

digit_in_word : (b : ℕ) → is_digit b ≡ true → is_word_byte b ≡ true
digit_in_word b h = grind (arith, nat_tests)

first_digit : (b : ℕ) → is_between 49 57 b ≡ true → is_digit b ≡ true
first_digit b h = grind (arith, nat_tests)

-- a run has a first byte
wordy_some : (w : List ℕ) → IsWordy w → 0 < length w
wordy_some [] h = let f = h.first in absurd (cc)
wordy_some (b ∷ w) h = omega arith

numeral_some : (w : List ℕ) → IsNumeral w → 0 < length w
numeral_some [] h = let f = h.first in absurd (cc)
numeral_some (b ∷ w) h = omega arith

first_byte : (w rest : List ℕ) → 0 < length w → get_or (w ++ rest) 0 0 ≡ get_or w 0 0
first_byte [] rest some = absurd (omega (arith, some))
first_byte (b ∷ w) rest some = refl

token_by : (kind : Kind) (start : Bool) (rest : List ℕ) (n : ℕ) → 0 < length rest
    → scan start rest ≡ (kind, n)
    → IsToken kind start rest n
token_by kind start rest n some is = subst (λ u. IsToken u.0 start rest u.1) is (scan_token start rest some)

long : (w rest : List ℕ) → 0 < length w → 0 < length (w ++ rest)
long w rest some = omega (arith, some, length-append w rest)

word_token : (kind : Kind) (start : Bool) (w rest : List ℕ) → IsWordy w
    → (if is_keyword w then kinds.Keyword else kinds.Name) ≡ kind → is_word_byte (get_or rest 0 0) ≡ false
    → IsToken kind start (w ++ rest) (length w)
unfolding scan
word_token kind start w rest h is stops =
    let some = wordy_some w h in
    let letter : is_letter (get_or (w ++ rest) 0 0) ≡ true = ap is_letter (first_byte w rest some)
    ∙ h.first in
    let count = run_len is_word_byte w rest h.all stops in
    let word : take (prefix_len is_word_byte (w ++ rest)) (w ++ rest) ≡ w =
    ap (λ n. take n (w ++ rest)) count ∙ take-append_seam w rest in
    let kind_is : (if is_keyword (take (prefix_len is_word_byte (w ++ rest))
    (w ++ rest)) then kinds.Keyword else kinds.Name) ≡ kind =
    ap (λ l. if is_keyword l then kinds.Keyword else kinds.Name) word ∙ is in
    token_by kind start (w ++ rest) (length w) (long w rest some)
    (ap (λ c. scan_as c (w ++ rest)) (class_letters start (get_or (w ++ rest) 0 0)
    (get_or (w ++ rest) 1 0) letter)
    ∙ (λ i. (kind_is i, count i)))

decimal_is : (w : List ℕ) → IsDecimal w → is_decimal w ≡ true
decimal_is [] h = let f = h.first in absurd (cc)
decimal_is (b ∷ w) h = by (is_digit b) (list_all is_digit w) refl h.all
  where
    by : (x y : Bool) → list_all is_digit w ≡ y → (x && y) ≡ true
        → (is_between 49 57 b && list_all is_digit w) ≡ true
    by true true f e = ap (λ z. z && list_all is_digit w) h.first ∙ f
    by true false f e = absurd (cc)
    by false y f e = absurd (cc)

number_is : (w : List ℕ) → IsDecimal w → is_number w ≡ true
unfolding is_number
number_is w h = ap (λ z. z || is_negative w || is_octal w || is_hex w) (decimal_is w h)

pub numeral_from : (w : List ℕ) → IsDecimal w → IsNumeral w
numeral_from w h = record {
  first = first_digit (get_or w 0 0) h.first;
  all = all_by is_digit is_word_byte w digit_in_word h.all;
  form = number_is w h;
}

number_token : (start : Bool) (w rest : List ℕ) → IsNumeral w → is_word_byte (get_or rest 0 0) ≡ false
    → IsToken kinds.Number start (w ++ rest) (length w)
unfolding scan
number_token start w rest h stops =
    let some = numeral_some w h in
    let digit : is_digit (get_or (w ++ rest) 0 0) ≡ true = ap is_digit (first_byte w rest some) ∙ h.first in
    let count = run_len is_word_byte w rest h.all stops in
    let word : take (prefix_len is_word_byte (w ++ rest)) (w ++ rest) ≡ w =
    ap (λ n. take n (w ++ rest)) count ∙ take-append_seam w rest in
    let kind_is : (if is_number (take (prefix_len is_word_byte (w ++ rest))
    (w ++ rest)) then kinds.Number else kinds.BadNumber) ≡ kinds.Number =
    ap (λ l. if is_number l then kinds.Number else kinds.BadNumber) word
    ∙ ap (λ b. if b then kinds.Number else kinds.BadNumber) h.form in
    token_by kinds.Number start (w ++ rest) (length w) (long w rest some)
    (ap (λ c. scan_as c (w ++ rest)) (class_digits start (get_or (w ++ rest) 0 0)
    (get_or (w ++ rest) 1 0) digit)
    ∙ (λ i. (kind_is i, count i)))

punct_token : (start : Bool) (b : ℕ) (rest : List ℕ) → is_punct b ≡ true
    → IsToken kinds.Punct start (b ∷ rest) 1
unfolding scan
punct_token start b rest h =
    token_by kinds.Punct start (b ∷ rest) 1 (omega arith)
    (ap (λ c. scan_as c (b ∷ rest)) (class_mark start b (get_or rest 0 0) h))

one_space : (start : Bool) (b : ℕ) (rest : List ℕ) → is_space b ≡ true → is_space (get_or rest 0 0) ≡ false
    → IsToken kinds.Space start (b ∷ rest) 1
unfolding scan
one_space start b rest h stops =
    let all : list_all is_space (b ∷ []) ≡ true = ap (λ q. q && true) h in
    let count : prefix_len is_space (b ∷ rest) ≡ 1 = run_len is_space (b ∷ []) rest all stops in
    token_by kinds.Space start (b ∷ rest) 1 (omega arith)
    (ap (λ c. scan_as c (b ∷ rest)) (class_blank start b (get_or rest 0 0) h) ∙ (λ i. (kinds.Space, count i)))

-- ---- one piece before others

letter_no_space : (b : ℕ) → is_letter b ≡ true → is_space b ≡ false
letter_no_space b h = grind (arith, nat_tests)

digit_no_space : (b : ℕ) → is_digit b ≡ true → is_space b ≡ false
digit_no_space b h = grind (arith, nat_tests)

space_no_word : (b : ℕ) → is_space b ≡ true → is_word_byte b ≡ false
space_no_word b h = grind (arith, nat_tests)

punct_no_word : (b : ℕ) → is_punct b ≡ true → is_word_byte b ≡ false
punct_no_word b h = let apart = punct_apart b h in grind (arith, nat_tests)

punct_no_space : (b : ℕ) → is_punct b ≡ true → is_space b ≡ false
punct_no_space b h = let apart = punct_apart b h in grind (arith, nat_tests)

-- the first byte of a piece goes on no word, and no white space
pub record Stops (kind : Kind) (b : ℕ) : Type 0 where
  pub word : is_apart kinds.Name kind ≡ true → is_word_byte b ≡ false
  pub space : is_apart kinds.Space kind ≡ true → is_space b ≡ false

stops_wordy : (kind : Kind) (w rest : List ℕ) → IsWordy w → is_apart kinds.Name kind ≡ false
    → Stops kind (get_or (w ++ rest) 0 0)
stops_wordy kind w rest h not = record {
  word = λ e. absurd (cc);
  space = λ e. ap is_space (first_byte w rest (wordy_some w h)) ∙ letter_no_space (get_or w 0 0) h.first;
}

stops_byte : (kind : Kind) (p : ℕ → Bool) (w rest : List ℕ) (h : IsByte p w)
    → (is_apart kinds.Name kind ≡ true → is_word_byte h.byte ≡ false)
    → (is_apart kinds.Space kind ≡ true → is_space h.byte ≡ false) → Stops kind (get_or (w ++ rest) 0 0)
stops_byte kind p w rest h word space = subst (λ l. Stops kind (get_or (l ++ rest) 0 0)) (sym h.is)
    (record { word = word; space = space })

stops : (kind : Kind) (w rest : List ℕ) → IsFine kind w → Stops kind (get_or (w ++ rest) 0 0)
stops kinds.Keyword w rest h = stops_wordy kinds.Keyword w rest h.0 refl
stops kinds.Name w rest h = stops_wordy kinds.Name w rest h.0 refl
stops kinds.Number w rest h = record {
  word = λ e. absurd (cc);
  space = λ e. ap is_space (first_byte w rest (numeral_some w h)) ∙ digit_no_space (get_or w 0 0) h.first;
}
stops kinds.Punct w rest h =
    stops_byte kinds.Punct is_punct w rest h (λ e. punct_no_word h.byte h.passes)
    (λ e. punct_no_space h.byte h.passes)
stops kinds.Space w rest h =
    stops_byte kinds.Space is_space w rest h (λ e. space_no_word h.byte h.passes) (λ e. absurd (cc))
stops kind w rest h = absurd h

-- the pieces behind one
abbrev goes_on : Kind → List Piece → Bool
goes_on kind [] = true
goes_on kind (p ∷ ps) = is_apart kind p.0

no_word_behind : (kind : Kind) (ps : List Piece) → ((k : Kind) → is_apart kind k ≡ true
    → is_apart kinds.Name k ≡ true)
    → AllFine ps → goes_on kind ps ≡ true → is_word_byte (get_or (bytes_of ps) 0 0) ≡ false
no_word_behind kind [] like h e = refl
no_word_behind kind (p ∷ ps) like h e = (stops p.0 p.1 (bytes_of ps) h.0).word (like p.0 e)

no_space_behind : (ps : List Piece) → AllFine ps → goes_on kinds.Space ps ≡ true
    → is_space (get_or (bytes_of ps) 0 0) ≡ false
no_space_behind [] h e = refl
no_space_behind (p ∷ ps) h e = (stops p.0 p.1 (bytes_of ps) h.0).space e

-- one token, before such pieces
fine_token : (kind : Kind) (w : List ℕ) (start : Bool) (ps : List Piece) → IsFine kind w → AllFine ps
    → goes_on kind ps ≡ true → IsToken kind start (w ++ bytes_of ps) (length w)
fine_token kinds.Keyword w start ps h all e =
    word_token kinds.Keyword start w (bytes_of ps) h.0 (ap (λ b. if b then kinds.Keyword else kinds.Name) h.1)
    (no_word_behind kinds.Keyword ps (λ k same. like k same) all e)
  where
    like : (k : Kind) → is_apart kinds.Keyword k ≡ true → is_apart kinds.Name k ≡ true
    like kinds.Space same = refl
    like kinds.Punct same = refl
    like k same = absurd (cc)
fine_token kinds.Name w start ps h all e =
    word_token kinds.Name start w (bytes_of ps) h.0 (ap (λ b. if b then kinds.Keyword else kinds.Name) h.1)
    (no_word_behind kinds.Name ps (λ k same. same) all e)
fine_token kinds.Number w start ps h all e =
    number_token start w (bytes_of ps) h (no_word_behind kinds.Number ps (λ k same. like k same) all e)
  where
    like : (k : Kind) → is_apart kinds.Number k ≡ true → is_apart kinds.Name k ≡ true
    like kinds.Space same = refl
    like kinds.Punct same = refl
    like k same = absurd (cc)
fine_token kinds.Punct w start ps h all e =
    subst (λ l. IsToken kinds.Punct start (l ++ bytes_of ps) (length l)) (sym h.is)
    (punct_token start h.byte (bytes_of ps) h.passes)
fine_token kinds.Space w start ps h all e =
    subst (λ l. IsToken kinds.Space start (l ++ bytes_of ps) (length l)) (sym h.is)
    (one_space start h.byte (bytes_of ps) h.passes (no_space_behind ps all e))
fine_token kind w start ps h all e = absurd h

apart_first : (p : Piece) (ps : List Piece) → are_apart (p ∷ ps) ≡ true → goes_on p.0 ps ≡ true
apart_first p [] e = refl
apart_first p (q ∷ ps) e = by (is_apart p.0 q.0) (are_apart (q ∷ ps)) e
  where
    by : (x y : Bool) → (x && y) ≡ true → x ≡ true
    by true y e = refl
    by false y e = absurd (cc)

apart_rest : (p : Piece) (ps : List Piece) → are_apart (p ∷ ps) ≡ true → are_apart ps ≡ true
apart_rest p [] e = refl
apart_rest p (q ∷ ps) e = by (is_apart p.0 q.0) (are_apart (q ∷ ps)) e
  where
    by : (x y : Bool) → (x && y) ≡ true → y ≡ true
    by true y e = e
    by false y e = absurd (cc)

-- such pieces are the tokens of their text
pub fine_lexes : (start : Bool) (ps : List Piece) → AllFine ps → are_apart ps ≡ true → Lexes start ps
fine_lexes start [] all e = tt
fine_lexes start (p ∷ ps) all e = (
  fine_token p.0 p.1 start ps all.0 all.1 (apart_first p ps e),
  fine_lexes (starts_after (p.1 ++ bytes_of ps) (length p.1)) ps all.1 (apart_rest p ps e),
)

-- ---- decimal numbers

digits_all : (ds : List ℕ) → AllBelowBase 10 ds → list_all is_digit (map (λ d. 48 + d) ds) ≡ true
digits_all [] h = refl
digits_all (d ∷ ds) h = ap (λ b. b && list_all is_digit (map (λ d. 48 + d) ds)) (digit d h.0)
    ∙ digits_all ds h.1
  where
    digit : (d : ℕ) → d < 10 → is_digit (48 + d) ≡ true
    digit d lt = grind (arith, nat_tests)

digits_decimal : (ds : List ℕ) → AllBelowBase 10 ds → 0 < get_or ds 0 0 → IsDecimal (map (λ d. 48 + d) ds)
digits_decimal [] h lt = absurd (omega (arith, lt))
digits_decimal (d ∷ ds) h lt = record { first = digit d h.0 lt; all = digits_all (d ∷ ds) h }
  where
    digit : (d : ℕ) → d < 10 → 0 < d → is_between 49 57 (48 + d) ≡ true
    digit d lt some = grind (arith, nat_tests)

pub decimal_fine : (n : ℕ) → 0 < n → n < 2 ^ 64 → IsNumeral (decimal n)
decimal_fine n some small =
    subst IsNumeral (sym (decimal-digits_of n some small))
    (numeral_from (map (λ d. 48 + d) (digits_of 10 n)) (digits_decimal (digits_of 10 n)
    (all_below_base_digits_of 10 n (omega arith)) (first_digits_of 10 n (omega arith) some)))
