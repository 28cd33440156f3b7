-- Words and pairs of hexadecimal digits.
use Rattle.std.proofs.Common.{◌≡◌, ℕ, suc, ◌+◌, ◌*◌, ◌<◌, true, false, Bool, ◌&&◌, List, [], ◌∷◌, ◌++◌}
use Rattle.std.proofs.Common.{length, take, drop, get_or, eqb, Option, None, Some, arith, refl, sym, ap, ◌∙◌}
use Rattle.std.proofs.Common.{drop-cons, append_assoc, add-one}
use Rattle.std.specs.Prelude.{codes, bytes_eq, nat_lt, if◌then◌else◌}
use Rattle.std.specs.List.{list_all, join_with_byte}
use Rattle.std.specs.Char.{is_ascii_hexdigit, digit_value}
use Rattle.std.proofs.lemmas.Bool.Decides.{nat_tests}
use Rattle.memchr.specs.Find.{IsFirstByte, is_byte}
use Rattle.x_lines.proofs.Parting.{unsplit, split_at}
use Rattle.std.proofs.lemmas.List.Recursion.{and_at}
use Rattle.std.proofs.lemmas.List.Splits.{slice_split_none, length-slice_split, join_with_byte-slice_split}
use Rattle.x_script.specs.declared.script.command.Command.TheVariants.{Bad}
use Rattle.x_script.specs.Commands.{words_of, is_hex, bytes_of, edit_line, edit_by, asked_by, command_of}
use Rattle.x_script.specs.Commands.{asked_if, dump_by, dump_asked_by, dump_asked}

-- one pair more of hexadecimal digits
pub next_pair : (word : List ℕ) (i : ℕ) → 2 * i + 1 < length word
    → bytes_of (drop (2 * i) word) ≡ (16 * digit_value (get_or word (2 * i) 0)
    + digit_value (get_or word (2 * i + 1) 0)) ∷ bytes_of (drop (2 * (i + 1)) word)
next_pair word i lt =
    let first : drop (2 * i) word ≡ get_or word (2 * i) 0 ∷ drop (2 * i + 1) word =
    rw add-one (drop-cons word (2 * i) 0 (omega arith)) in
    let second : drop (2 * i + 1) word ≡ get_or word (2 * i + 1) 0 ∷ drop (2 * (i + 1)) word =
    drop-cons word (2 * i + 1) 0 lt ∙ ap (λ k. get_or word (2 * i + 1) 0 ∷ drop k word)
    (let e : suc (2 * i + 1) ≡ 2 * (i + 1) = omega arith in e) in
    rw (first, second) refl

pub more_pairs : (word before after : List ℕ) (i high low : ℕ) → 2 * i + 1 < length word
    → high ≡ digit_value (get_or word (2 * i) 0) → low ≡ digit_value (get_or word (2 * i + 1) 0)
    → after ≡ before ++ (16 * high + low) ∷ []
    → before ++ bytes_of (drop (2 * i) word) ≡ bytes_of word
    → after ++ bytes_of (drop (2 * (i + 1)) word) ≡ bytes_of word
more_pairs word before after i high low lt first second grown so_far =
    let rest = bytes_of (drop (2 * (i + 1)) word) in
    let byte : 16 * high + low
    ≡ 16 * digit_value (get_or word (2 * i) 0) + digit_value (get_or word (2 * i + 1) 0) =
    ap (λ x. 16 * x + low) first ∙ ap (λ x. 16 * digit_value (get_or word (2 * i) 0) + x) second in
    ap (λ l. l ++ rest) grown ∙ append_assoc before ((16 * high + low) ∷ []) rest
    ∙ ap (λ b. before ++ b ∷ rest) byte ∙ ap (λ l. before ++ l) (sym (next_pair word i lt)) ∙ so_far

-- a line with no space is one word
pub no_space : (line : List ℕ) (r : Option ℕ) → IsFirstByte (is_byte 32) line r → r ≡ None
    → words_of line ≡ line ∷ []
no_space line r first none = unsplit 32 line r first none

-- a line's first word ends at its first space
pub first_space : (line : List ℕ) (r : Option ℕ) (at : ℕ) → IsFirstByte (is_byte 32) line r → r ≡ Some at
    → words_of line ≡ take at line ∷ words_of (drop (at + 1) line)
first_space line r at first some = split_at 32 line r at first some

-- what a line of several words asks for
pub asked_by_more : (line name rest : List ℕ) → words_of line ≡ name ∷ words_of rest
    → command_of line ≡ (if bytes_eq name (codes "edit") then edit_by (words_of rest) else Bad)
asked_by_more line name rest parts = ap asked_by parts
    ∙ more (words_of rest) (rw length-slice_split (omega arith))
  where
    more : (words : List (List ℕ)) → 0 < length words
        → asked_by (name ∷ words) ≡ (if bytes_eq name (codes "edit") then edit_by words else Bad)
    more [] some = absurd (omega arith)
    more (word ∷ words) some = refl

pub asked_by_edit : (line name rest : List ℕ) → words_of line ≡ name ∷ words_of rest
    → bytes_eq name (codes "edit") ≡ true → command_of line ≡ edit_by (words_of rest)
asked_by_edit line name rest parts is = asked_by_more line name rest parts
    ∙ ap (λ b. if b then edit_by (words_of rest) else Bad) is

pub asked_by_other : (line name rest : List ℕ) → words_of line ≡ name ∷ words_of rest
    → bytes_eq name (codes "edit") ≡ false → command_of line ≡ Bad
asked_by_other line name rest parts is = asked_by_more line name rest parts
    ∙ ap (λ b. if b then edit_by (words_of rest) else Bad) is

-- a space is no hexadecimal digit
no_digit : (c : ℕ) → is_ascii_hexdigit c ≡ true → eqb c 32 ≡ false
no_digit c is = grind (arith, nat_tests)

digits_of : (hex : List ℕ) → is_hex hex ≡ true → list_all is_ascii_hexdigit hex ≡ true
digits_of hex is = grind (arith, nat_tests)

hex_is_word : (hex : List ℕ) → is_hex hex ≡ true → words_of hex ≡ hex ∷ []
hex_is_word hex is = slice_split_none (λ b. eqb b 32) hex
    (λ k d lt. no_digit (get_or hex k d)
    (and_at (list_all is_ascii_hexdigit) is_ascii_hexdigit refl (λ _ _. refl) hex k d lt (digits_of hex is)))

pub edit_by_hex : (words start rest end hex : List ℕ) → words_of words ≡ start ∷ words_of rest
    → words_of rest ≡ end ∷ words_of hex → is_hex hex ≡ true
    → edit_by (words_of words) ≡ edit_line start end (bytes_of hex)
edit_by_hex words start rest end hex first second is =
    ap edit_by (first ∙ ap (λ l. start ∷ l) (second ∙ ap (λ l. end ∷ l) (hex_is_word hex is)))
    ∙ ap (λ b. if b then edit_line start end (bytes_of hex) else Bad) is

-- a list that one word spells is that word
one_is_all : (hex word : List ℕ) → words_of hex ≡ word ∷ [] → word ≡ hex
one_is_all hex word is = sym (ap (join_with_byte 32) is) ∙ join_with_byte-slice_split 32 hex

pub edit_by_other : (words start rest end hex : List ℕ) → words_of words ≡ start ∷ words_of rest
    → words_of rest ≡ end ∷ words_of hex → is_hex hex ≡ false
    → edit_by (words_of words) ≡ Bad
edit_by_other words start rest end hex first second is =
    ap edit_by (first ∙ ap (λ l. start ∷ l) second)
    ∙ other (words_of hex) (rw length-slice_split (omega arith)) (one_is_all hex)
  where
    other : (parts : List (List ℕ)) → 0 < length parts → ((word : List ℕ) → parts ≡ word ∷ [] → word ≡ hex)
        → edit_by (start ∷ end ∷ parts) ≡ Bad
    other [] some one = absurd (omega arith)
    other (word ∷ []) some one = ap (λ w. if is_hex w then edit_line start end (bytes_of w) else Bad)
        (one word refl) ∙ ap (λ b. if b then edit_line start end (bytes_of hex) else Bad) is
    other (word ∷ next ∷ parts) some one = refl

pub edit_by_two : (words start end : List ℕ) → words_of words ≡ start ∷ words_of end → words_of end ≡ end ∷ []
    → edit_by (words_of words) ≡ edit_line start end []
edit_by_two words start end first second = ap edit_by (first ∙ ap (λ l. start ∷ l) second)

-- two spaces part three words
pub three_words : (words start rest end hex : List ℕ) → words_of words ≡ start ∷ words_of rest
    → words_of rest ≡ end ∷ words_of hex → 2 < length (words_of words)
three_words words start rest end hex first second =
    omega (arith, ap length first, ap length second, length-slice_split (λ b. eqb b 32) hex)

-- ---- `dump`

-- a line of one word asks for no value
pub dump_of_one : (line : List ℕ) → words_of line ≡ line ∷ [] → None ≡ dump_asked line
dump_of_one line one = sym (ap dump_asked_by one ∙ none (bytes_eq line (codes "dump")))
  where
    none : (b : Bool) → (if b then dump_by [] else None) ≡ None
    none true = refl
    none false = refl

-- a line whose first word is another asks for none
pub dump_of_other : (line word rest : List ℕ) → words_of line ≡ word ∷ words_of rest
    → bytes_eq word (codes "dump") ≡ false → None ≡ dump_asked line
dump_of_other line word rest parts is =
    sym (ap dump_asked_by parts ∙ ap (λ b. if b then dump_by (words_of rest) else None) is)

-- what stands behind `dump`
pub dump_of_rest : (line word rest : List ℕ) → words_of line ≡ word ∷ words_of rest
    → bytes_eq word (codes "dump") ≡ true → dump_asked line ≡ dump_by (words_of rest)
dump_of_rest line word rest parts is = ap dump_asked_by parts
    ∙ ap (λ b. if b then dump_by (words_of rest) else None) is

-- one word behind it is a type
pub dump_of_type : (words : List ℕ) → words_of words ≡ words ∷ []
    → dump_by (words_of words) ≡ asked_if (nat_lt 0 (length words)) words []
dump_of_type words one = ap dump_by one

-- of two words behind it the second is in hexadecimal
pub dump_of_hex : (words name hex : List ℕ) → words_of words ≡ name ∷ words_of hex → is_hex hex ≡ true
    → dump_by (words_of words) ≡ asked_if (nat_lt 0 (length name)) name (bytes_of hex)
dump_of_hex words name hex parts is =
    ap dump_by (parts ∙ ap (λ l. name ∷ l) (hex_is_word hex is))
    ∙ ap (λ b. asked_if (nat_lt 0 (length name) && b) name (bytes_of hex)) is ∙ same (nat_lt 0 (length name))
  where
    same : (b : Bool) → asked_if (b && true) name (bytes_of hex) ≡ asked_if b name (bytes_of hex)
    same true = refl
    same false = refl

pub dump_of_no_hex : (words name hex : List ℕ) → words_of words ≡ name ∷ words_of hex → is_hex hex ≡ false
    → None ≡ dump_by (words_of words)
dump_of_no_hex words name hex parts is =
    sym (ap dump_by parts ∙ other (words_of hex) (rw length-slice_split (omega arith)) (one_is_all hex))
  where
    bad : (b : Bool) → asked_if (b && false) name (bytes_of hex) ≡ None
    bad true = refl
    bad false = refl

    other : (parts : List (List ℕ)) → 0 < length parts → ((word : List ℕ) → parts ≡ word ∷ [] → word ≡ hex)
        → dump_by (name ∷ parts) ≡ None
    other [] some one = absurd (omega arith)
    other (word ∷ []) some one = ap (λ w. asked_if (nat_lt 0 (length name) && is_hex w) name (bytes_of w))
        (one word refl)
        ∙ ap (λ b. asked_if (nat_lt 0 (length name) && b) name (bytes_of hex)) is
        ∙ bad (nat_lt 0 (length name))
    other (word ∷ next ∷ parts) some one = refl
