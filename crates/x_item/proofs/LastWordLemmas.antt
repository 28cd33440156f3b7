-- The last word of tokens, from their end.
use Rattle.std.proofs.Common.{◌≡◌, ℕ, List, [], ◌∷◌, ◌++◌, true, false, ap, sym, ◌∙◌, map, take, drop, get_or}
use Rattle.std.proofs.Common.{length, arith, ◌<◌, ◌≤◌, ◌+◌}
use Rattle.std.proofs.lemmas.List.{map-append, drop_more, drop_all, take-append-drop, length-map}
use Rattle.std.proofs.lemmas.List.{length-take-le}
use Rattle.x_lex.specs.Places.{lexeme}
use Rattle.x_lex.specs.declared.tokens.token.Token.{Token}
use Rattle.x_trees.specs.Words.{words_of, is_significant}
use Rattle.x_item.specs.Parse.{IsLastWord}
use Rattle.x_parser.proofs.WordLemmas.{words_of-other}

-- the token at a place and those behind it
at_place : (all : List Token) (i : ℕ) (d : Token) → i < length all
    → map lexeme (drop i all) ≡ lexeme (get_or all i d) ∷ map lexeme (drop (i + 1) all)
at_place all i d h = ap (map lexeme) (drop_more all i d h)

-- from the end: the words behind a place, one token earlier
rest_from : (all : List Token) (at k : ℕ) (d : Token) → k + 1 ≡ at → at ≤ length all
    → map lexeme (drop k all) ≡ lexeme (get_or all k d) ∷ map lexeme (drop at all)
rest_from all at k d is within =
    let inside : k < length all = omega arith in
    at_place all k d inside ∙ ap (λ n. lexeme (get_or all k d) ∷ map lexeme (drop n all)) is

pub none_behind : (all : List Token) (at k : ℕ) (d : Token) → k + 1 ≡ at → at ≤ length all
    → words_of (map lexeme (drop at all)) ≡ [] → is_significant (get_or all k d).kind ≡ false
    → words_of (map lexeme (drop k all)) ≡ []
none_behind all at k d is within h other =
    ap words_of (rest_from all at k d is within)
    ∙ words_of-other (lexeme (get_or all k d)) (map lexeme (drop at all)) other ∙ h

-- a word with none behind it is the last
pub last_here : (all : List Token) (at k : ℕ) (d : Token) → k + 1 ≡ at → at ≤ length all
    → words_of (map lexeme (drop at all)) ≡ [] → is_significant (get_or all k d).kind ≡ true
    → IsLastWord (map lexeme all) k
last_here all at k d is within h word =
    let short : k ≤ length all = omega arith in
    record {
      front = map lexeme (take k all);
      token = lexeme (get_or all k d);
      rear = map lexeme (drop at all);
      parts =
          ap (map lexeme) (sym (take-append-drop k all)) ∙ map-append lexeme (take k all) (drop k all)
          ∙ ap (λ r. map lexeme (take k all) ++ r) (rest_from all at k d is within);
      place = sym (length-map (take k all) lexeme ∙ length-take-le k all short);
      is_word = word;
      behind = h;
    }

pub none_past : (all : List Token) (at : ℕ) → length all ≤ at → words_of (map lexeme (drop at all)) ≡ []
none_past all at past = ap (λ (ts : List Token). words_of (map lexeme ts)) (drop_all at all past)

pub none_at_all : (all : List Token) (at : ℕ) → at ≤ 0 → words_of (map lexeme (drop at all)) ≡ []
    → words_of (map lexeme all) ≡ []
none_at_all all at none h =
    let is : at ≡ 0 = omega arith in
    ap (λ n. words_of (map lexeme (drop n all))) (sym is) ∙ h
