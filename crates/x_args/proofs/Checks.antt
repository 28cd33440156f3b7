-- Whether words ask for a check of files, word by word.
use Rattle.std.proofs.Common.{◌≡◌, ◌∙◌, ◌<◌, ◌≤◌, ℕ, ◌+◌, Bool, ◌&&◌, ◌||◌, not, true, false, List, [], ◌∷◌}
use Rattle.std.proofs.Common.{length, get_or, drop, map, codes, refl, ap, sym, arith}
use Rattle.std.specs.Str.{bytes_eq}
use Rattle.std.proofs.lemmas.List.{at_drop_all, at_drop_more}
use Rattle.clap.specs.Words.{Text}
use Rattle.x_args.specs.Args.{asks_check, has_check}

met : (word : Text) (rest : List Text)
    → has_check (word ∷ rest)
    ≡ (not (bytes_eq word (codes "--")) && (bytes_eq word (codes "--check") || has_check rest))
unfolding has_check
met word rest = refl

none_left : has_check [] ≡ false
unfolding has_check
none_left = refl

-- a `--` ends the search
pub ends : (word : Text) (rest : List Text) → bytes_eq word (codes "--") ≡ true
    → has_check (word ∷ rest) ≡ false
ends word rest same = met word rest
    ∙ ap (λ b. not b && (bytes_eq word (codes "--check") || has_check rest)) same

-- a `--check` is found
pub finds : (word : Text) (rest : List Text) → bytes_eq word (codes "--") ≡ false
    → bytes_eq word (codes "--check") ≡ true
    → has_check (word ∷ rest) ≡ true
finds word rest goes same =
    met word rest ∙ ap (λ b. not b && (bytes_eq word (codes "--check") || has_check rest)) goes
    ∙ ap (λ b. b || has_check rest) same

-- any other word is passed over
passes : (word : Text) (rest : List Text) → bytes_eq word (codes "--") ≡ false
    → bytes_eq word (codes "--check") ≡ false
    → has_check (word ∷ rest) ≡ has_check rest
passes word rest goes other =
    met word rest ∙ ap (λ b. not b && (bytes_eq word (codes "--check") || has_check rest)) goes
    ∙ ap (λ b. b || has_check rest) other

module _ {X : Type 0} (text : X → Text) where
  abbrev asked : List X → Bool
  asked xs = has_check (map text xs)

  -- what is asked by all words, where the search comes to one of them
  pub at_word : (words others : List X) (program word : X) (i : ℕ) → words ≡ program ∷ others
      → asked (drop i others) ≡ asked others
      → i < length others → word ≡ get_or others i word
      → asks_check (map text words) ≡ has_check (text word ∷ map text (drop (i + 1) others))
  at_word words others program word i are kept lt is =
      ap (λ ws. asks_check (map text ws)) are ∙ sym kept ∙ at_drop_more asked others i word lt
      ∙ ap (λ w. asked (w ∷ drop (i + 1) others)) (sym is)

  -- where it goes on behind that
  pub goes_on : (others : List X) (word : X) (i : ℕ) → asked (drop i others) ≡ asked others
      → i < length others → word ≡ get_or others i word
      → bytes_eq (text word) (codes "--") ≡ false → bytes_eq (text word) (codes "--check") ≡ false
      → asked (drop (i + 1) others) ≡ asked others
  goes_on others word i kept lt is goes other =
      sym (passes (text word) (map text (drop (i + 1) others)) goes other)
      ∙ ap (λ w. asked (w ∷ drop (i + 1) others)) is
      ∙ sym (at_drop_more asked others i word lt) ∙ kept

  -- and where no word is left
  pub at_end : (words others : List X) (program : X) (i : ℕ) → words ≡ program ∷ others
      → asked (drop i others) ≡ asked others
      → length others ≤ i → asks_check (map text words) ≡ false
  at_end words others program i are kept past =
      ap (λ ws. asks_check (map text ws)) are ∙ sym kept ∙ at_drop_all asked others i past ∙ none_left

  -- there is not even the program's name
  pub no_words : (xs : List X) → length xs ≡ 0 → asks_check (map text xs) ≡ false
  no_words [] none = none_left
  no_words (x ∷ xs) none = absurd (omega (arith, none))
