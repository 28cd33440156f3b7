-- Texts that are kept with one byte for each phrase.
use Rattle.std.proofs.Common.{◌≡◌, ◌-◌, ◌+◌, ℕ, zero, suc, ◌<◌, Bool, true, false, List, [], ◌∷◌, ◌++◌}
use Rattle.std.proofs.Common.{Option, None, Some, ◌⊎◌, inl, inr, length, ap, arith, refl, subst, sym, take}
use Rattle.std.proofs.Common.{◌∙◌, ◌^◌, append_assoc, append-nil}
use Rattle.std.specs.Prelude.{◌&&◌, ◌==◌, if◌then◌else◌, codes, decimal, option_map, option_to_list}
use Rattle.std.specs.Prelude.{slice_get, unwrap_or, IsSome}
use Rattle.std.specs.List.{list_all}
use Rattle.std.specs.Option.{option_map_or}
use Rattle.std.specs.Str.Parse.{AllDigits}
use Rattle.std.proofs.lemmas.Bool.{and_parts, cases_eq, cases_lt, eqb-true, false≢true, le-leb}
use Rattle.std.proofs.lemmas.Bool.{leb-true}
use Rattle.std.proofs.lemmas.Fmt.{decimal_is_IsNumeral}
use Rattle.std.proofs.lemmas.Grind.{flat_map-append}
use Rattle.std.proofs.lemmas.List.{length-append}
use Rattle.std.proofs.lemmas.List.Folds.{list_all-append}
use Rattle.std.proofs.lemmas.Option.{slice_get_past}
use Rattle.std.proofs.lemmas.Str.Parse.{digit_from_value}
use Rattle.json.specs.Print.{escape, escape_byte}
use Rattle.json.proofs.Printed.Strings.{escape_byte_plain}
use Rattle.serde_json.specs.Data.{string}
use Rattle.serde_json.specs.Written.{compact_text}
use Rattle.x_frames.specs.ListTexts.{ended, without_comma}
use Rattle.x_frames.proofs.TextLemmas.{comma_ended, last_there}
use Rattle.x_contents.specs.Phrases.{byte_of, has_comma, is_own, phrase_text, phrases, spelt_byte, spelt_out}
use Rattle.x_contents.specs.StringTexts.{is_plain_byte}
use Rattle.x_contents.specs.declared.phrases.Phrase.{Phrase}
use Rattle.x_contents.specs.declared.phrases.Phrase.TheVariants.{Children, Kind, Name, Range, Selection, End}
use Rattle.x_contents.specs.declared.phrases.Phrase.TheVariants.{Line, Start, RangeEnd}

-- ---- phrases

kept : (p : Phrase) → spelt_byte (byte_of p) ≡ phrase_text p
kept Children = refl
kept Kind = refl
kept Name = refl
kept Range = refl
kept Selection = refl
kept End = refl
kept Line = refl
kept Start = refl
kept RangeEnd = refl

-- a phrase is kept as its byte
pub phrase_kept : (p : Phrase) → spelt_out (byte_of p ∷ []) ≡ phrase_text p
phrase_kept p = append-nil (spelt_byte (byte_of p)) ∙ kept p

-- ---- bytes that are kept for themselves

own_byte : (b : ℕ) → is_own b ≡ true → spelt_byte b ≡ b ∷ []
own_byte b is =
    let least = leb-true 32 b is in
    ap (λ o. unwrap_or (option_map phrase_text o) (b ∷ [])) (slice_get_past phrases b (omega (arith, least)))

pub own_text : (bs : List ℕ) → list_all is_own bs ≡ true → spelt_out bs ≡ bs
own_text [] is = refl
own_text (b ∷ bs) is =
    let parts = and_parts (is_own b) (list_all is_own bs) is in
    λ i. own_byte b parts.0 i ++ own_text bs parts.1 i

both : (a b : Bool) → a ≡ true → b ≡ true → (a && b) ≡ true
both a b first rest = λ i. first i && rest i

pub plain_own : (bs : List ℕ) → list_all is_plain_byte bs ≡ true → list_all is_own bs ≡ true
plain_own [] is = refl
plain_own (b ∷ bs) is =
    let parts = and_parts (is_plain_byte b) (list_all is_plain_byte bs) is in
    let three = and_parts _ _ parts.0 in
    let two = and_parts _ _ three.0 in
    let one = and_parts _ _ two.0 in
    both (is_own b) (list_all is_own bs) one.0 (plain_own bs parts.1)

digits_own : (ds : List ℕ) → AllDigits 10 ds → list_all is_own ds ≡ true
digits_own [] all = refl
digits_own (d ∷ ds) all =
    let digit = digit_from_value d all.0 in
    both (is_own d) (list_all is_own ds) (le-leb 32 d (omega (arith, digit))) (digits_own ds all.1)

pub number_own : (n : ℕ) → n < 2 ^ 64 → list_all is_own (decimal n) ≡ true
number_own n small = digits_own (decimal n) (decimal_is_IsNumeral n small).0.1

-- what stands in a string for the bytes below n
abbrev owns_below : ℕ → Bool
owns_below zero = true
owns_below (suc n) = list_all is_own (escape_byte n) && owns_below n

below : (n : ℕ) → owns_below n ≡ true → (b : ℕ) → b < n → list_all is_own (escape_byte b) ≡ true
below zero is b small = absurd (omega (arith, small))
below (suc n) is b small =
    let parts = and_parts (list_all is_own (escape_byte n)) (owns_below n) is in
    elim (cases_eq b n) [
      | inl same ↦ ap (λ c. list_all is_own (escape_byte c)) same
          ∙ parts.0
      | inr other ↦ below n parts.1 b (omega (arith, small, other))
    ]

all_below : owns_below 93 ≡ true
unfolding escape_byte
all_below = refl

escape_own : (b : ℕ) → list_all is_own (escape_byte b) ≡ true
escape_own b = elim (cases_lt b 93) [
  | inl small ↦ below 93 all_below b small
  | inr great ↦
      ap (list_all is_own) (escape_byte_plain b (λ e. omega (arith, great, e)) (λ e. omega (arith, great, e))
      (omega (arith, great)))
      ∙ both (is_own b) true (le-leb 32 b (omega (arith, great))) refl
]

own_append : (bs cs : List ℕ) → list_all is_own bs ≡ true → list_all is_own cs ≡ true
    → list_all is_own (bs ++ cs) ≡ true
own_append bs cs first rest = list_all-append is_own bs cs
    ∙ both (list_all is_own bs) (list_all is_own cs) first rest

escapes_own : (bs : List ℕ) → list_all is_own (escape bs) ≡ true
escapes_own [] = refl
escapes_own (b ∷ bs) = own_append (escape_byte b) (escape bs) (escape_own b) (escapes_own bs)

pub string_own : (s : List ℕ) → list_all is_own (compact_text (string s)) ≡ true
string_own s = own_append (escape s) (34 ∷ []) (escapes_own s) refl

-- ---- one behind another

pub spelt_more : (old more : List ℕ) → spelt_out (old ++ more) ≡ spelt_out old ++ spelt_out more
spelt_more old more = flat_map-append spelt_byte old more

-- the number of bytes with more of them
pub counted_more : (count more sum : ℕ) (old new : List ℕ) → count ≡ length (spelt_out old)
    → more ≡ length (spelt_out new)
    → sum ≡ count + more → sum ≡ length (spelt_out (old ++ new))
counted_more count more sum old new is more_is sum_is =
    let both = ap length (spelt_more old new) in
    let parts = length-append (spelt_out old) (spelt_out new) in
    omega (arith, is, more_is, sum_is, both, parts)

-- ---- the end of a list

record EndsOtherwise (text : List ℕ) : Type 0 where
  front : List ℕ
  last : ℕ
  text_is : text ≡ front ++ last ∷ []
  is_other : (last == 44) ≡ false

phrase_ends : (p : Phrase) → EndsOtherwise (phrase_text p)
phrase_ends Children = record { front = codes "{\"children\""; last = 58; text_is = refl; is_other = refl }
phrase_ends Kind = record { front = codes ",\"kind\""; last = 58; text_is = refl; is_other = refl }
phrase_ends Name = record { front = codes ",\"name\""; last = 58; text_is = refl; is_other = refl }
phrase_ends Range = record { front = codes ",\"range\""; last = 58; text_is = refl; is_other = refl }
phrase_ends Selection = record
    { front = codes ",\"selectionRange\""; last = 58; text_is = refl; is_other = refl }
phrase_ends End = record
    { front = codes "{\"end\":{\"character\""; last = 58; text_is = refl; is_other = refl }
phrase_ends Line = record { front = codes ",\"line\""; last = 58; text_is = refl; is_other = refl }
phrase_ends Start = record
    { front = codes "},\"start\":{\"character\""; last = 58; text_is = refl; is_other = refl }
phrase_ends RangeEnd = record { front = codes "}"; last = 125; text_is = refl; is_other = refl }

byte_ends : (b : ℕ) → (b == 44) ≡ false → EndsOtherwise (spelt_byte b)
byte_ends b other = by (slice_get phrases b)
  where
    by : (o : Option Phrase) → EndsOtherwise (unwrap_or (option_map phrase_text o) (b ∷ []))
    by None = record { front = []; last = b; text_is = refl; is_other = other }
    by (Some p) = phrase_ends p

last_is : (front : List ℕ) (b : ℕ) → slice_get (front ++ b ∷ []) (length (front ++ b ∷ []) - 1) ≡ Some b
last_is front b =
    let len = length-append front (b ∷ []) in
    let one : length (front ++ b ∷ []) - 1 ≡ length front = omega (arith, len) in
    ap (slice_get (front ++ b ∷ [])) one ∙ last_there front b

-- a list that ends otherwise than with a comma
other_ended : (text : List ℕ) → EndsOtherwise text → ended text ≡ text ++ 93 ∷ []
other_ended text e =
    let whole = e.front ++ e.last ∷ [] in
    let unchanged : without_comma whole (slice_get whole (length whole - 1)) ≡ whole =
    ap (without_comma whole) (last_is e.front e.last)
    ∙ ap (λ b. if b then take (length whole - 1) whole else whole) e.is_other in
    ap ended e.text_is ∙ ap (λ l. l ++ 93 ∷ []) (unchanged ∙ sym e.text_is)

split_last : (bs : List ℕ) → (bs ≡ []) ⊎ ((front : List ℕ) × (last : ℕ) × (bs ≡ front ++ last ∷ []))
split_last [] = inl refl
split_last (b ∷ bs) = elim (split_last bs) [
  | inl none ↦ inr ([], b, ap (λ l. b ∷ l) none)
  | inr more ↦ inr (b ∷ more.0, more.1, ap (λ l. b ∷ l) more.2)
]

comma_by : (front : List ℕ) (last : ℕ) → has_comma (front ++ last ∷ []) ≡ (last == 44)
comma_by front last = ap (λ o. option_map_or (λ b. b == 44) o false) (last_is front last)

ends_so : (front : List ℕ) (last : ℕ) → EndsOtherwise (spelt_byte last)
    → EndsOtherwise (spelt_out (front ++ last ∷ []))
ends_so front last e = record {
  front = spelt_out front ++ e.front;
  last = e.last;
  text_is = spelt_more front (last ∷ []) ∙ ap (λ l. spelt_out front ++ l)
      (append-nil (spelt_byte last) ∙ e.text_is)
      ∙ sym (append_assoc (spelt_out front) e.front (e.last ∷ []));
  is_other = e.is_other;
}

-- a list without a comma at its end gets its bracket behind it
pub open_ended : (bs : List ℕ) → has_comma bs ≡ false → ended (spelt_out bs) ≡ spelt_out bs ++ 93 ∷ []
open_ended bs none = elim (split_last bs) [
  | inl empty ↦ subst (λ l. ended (spelt_out l) ≡ spelt_out l ++ 93 ∷ []) (sym empty) refl
  | inr more ↦
      let other : (more.1 == 44) ≡ false = sym (comma_by more.0 more.1) ∙ sym (ap has_comma more.2) ∙ none in
      subst (λ l. ended (spelt_out l) ≡ spelt_out l ++ 93 ∷ []) (sym more.2)
      (other_ended (spelt_out (more.0 ++ more.1 ∷ [])) (ends_so more.0 more.1 (byte_ends more.1 other)))
]

-- where a comma stands at its end, this is what is popped
pub comma_popped : (bs rest : List ℕ) (o : Option ℕ) → bs ≡ rest ++ option_to_list o
    → (0 < length bs → IsSome o) → has_comma bs ≡ true
    → bs ≡ rest ++ 44 ∷ []
comma_popped bs rest None is some comma = elim (split_last bs) [
  | inl empty ↦ absurd (false≢true (sym (ap has_comma empty) ∙ comma))
  | inr more ↦
      let len = ap length more.2 in
      let sum = length-append more.0 (more.1 ∷ []) in
      absurd (false≢true (some (omega (arith, len, sum))))
]
comma_popped bs rest (Some b) is some comma =
    is ∙ ap (λ c. rest ++ c ∷ []) (eqb-true b 44 (sym (comma_by rest b) ∙ sym (ap has_comma is) ∙ comma))

-- and its bracket comes in its place
pub closed_ended : (bs rest : List ℕ) → bs ≡ rest ++ 44 ∷ [] → ended (spelt_out bs) ≡ spelt_out rest
    ++ 93 ∷ []
closed_ended bs rest is = ap (λ l. ended (spelt_out l)) is ∙ ap ended (spelt_more rest (44 ∷ []))
    ∙ comma_ended (spelt_out rest)

pub counted_less : (count fewer : ℕ) (bs rest : List ℕ) → count ≡ length (spelt_out bs) → bs ≡ rest
    ++ 44 ∷ [] → fewer ≡ count - 1
    → fewer ≡ length (spelt_out rest)
counted_less count fewer bs rest is split fewer_is =
    let all = ap (λ l. length (spelt_out l)) split in
    let parts = ap length (spelt_more rest (44 ∷ [])) in
    let sum = length-append (spelt_out rest) (44 ∷ []) in
    omega (arith, is, fewer_is, all, parts, sum)
