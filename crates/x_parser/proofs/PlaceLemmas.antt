-- The places of the words among tokens.
use Rattle.std.proofs.Common.{◌≡◌, ℕ, suc, ◌+◌, ◌<◌, ◌≤◌, List, [], ◌∷◌, length, map, drop, get_or, true}
use Rattle.std.proofs.Common.{false, ap, sym, ◌∙◌, arith, add-one}
use Rattle.std.specs.Prelude.{if◌then◌else◌}
use Rattle.std.proofs.lemmas.List.{drop_more, drop_all, length-map, length-drop}
use Rattle.x_lex.specs.Places.{Lexeme, lexeme}
use Rattle.x_lex.specs.declared.tokens.token.Token.{Token}
use Rattle.x_trees.specs.Words.{word_of, is_significant}
use Rattle.x_parser.specs.Stuck.{code_of}
use Rattle.x_parser.specs.declared.fault_code.FaultCode.TheVariants as codes
use Rattle.x_parser.specs.Reading.{word_ahead, places_of, ahead, first_left, first_code, left_in, code_in}
use Rattle.x_parser.specs.Reading.{IsSplit}

pub places_word : (t : Lexeme) (ts : List Lexeme) → is_significant t.kind ≡ true
    → places_of (t ∷ ts) ≡ word_ahead t ts ∷ places_of ts
places_word t ts is = ap (λ b. if b then word_ahead t ts ∷ places_of ts else places_of ts) is

pub places_other : (t : Lexeme) (ts : List Lexeme) → is_significant t.kind ≡ false
    → places_of (t ∷ ts) ≡ places_of ts
places_other t ts is = ap (λ b. if b then word_ahead t ts ∷ places_of ts else places_of ts) is

-- the tokens from a place on
from_place : (all : List Token) (i : ℕ) (d : Token) → i < length all
    → map lexeme (drop i all) ≡ lexeme (get_or all i d) ∷ map lexeme (drop (i + 1) all)
from_place all i d inside = ap (map lexeme) (drop_more all i d inside)

pub ahead_on : (all : List Token) (i : ℕ) (d : Token) → i < length all → is_significant (get_or all i d).kind
    ≡ false → ahead (drop i all) ≡ ahead all → ahead (drop (i + 1) all) ≡ ahead all
unfolding ahead
ahead_on all i d inside other h =
    sym (places_other (lexeme (get_or all i d)) (map lexeme (drop (i + 1) all)) other)
    ∙ ap places_of (sym (from_place all i d inside)) ∙ h

pub ahead_none : (all : List Token) (i : ℕ) → length all ≤ i → ahead (drop i all) ≡ ahead all → ahead all ≡ []
unfolding ahead
ahead_none all i past h = sym h ∙ ap (λ (ts : List Token). places_of (map lexeme ts)) (drop_all i all past)

pub left_none : (all : List Token) → ahead all ≡ [] → left_in all ≡ 0
unfolding left_in
left_none all e = ap first_left e

pub split_at : (all rest : List Token) (i : ℕ) (d : Token) → i < length all
    → is_significant (get_or all i d).kind ≡ true → ahead (drop i all) ≡ ahead all → rest ≡ drop (i + 1) all
    → IsSplit all (get_or all i d) rest
unfolding ahead left_in code_in
split_at all rest i d inside word h is =
    let t = lexeme (get_or all i d) in
    let behind = map lexeme (drop (i + 1) all) in
    let all_is : ahead all ≡ word_ahead t behind ∷ places_of behind = sym h
    ∙ ap places_of (from_place all i d inside) ∙ places_word t behind word in
    let left : left_in all ≡ suc (length behind) = ap first_left all_is in
    let code : code_in all ≡ code_of t.kind = ap first_code all_is in
    record {
      all = all_is ∙ ap (λ n. record { word = word_of t; left = n; code = code_of t.kind } ∷ places_of behind)
          (sym left)
          ∙ ap (λ c. record { word = word_of t; left = left_in all; code = c } ∷ places_of behind) (sym code)
          ∙ ap (λ (ts : List Token). record { word = word_of t; left = left_in all; code = code_in all }
          ∷ ahead ts) (sym is);
      left = left ∙ ap suc (length-map (drop (i + 1) all) lexeme)
          ∙ ap (λ (ts : List Token). suc (length ts)) (sym is) ∙ sym (add-one (length rest));
      code = code;
      shorter = omega (arith, ap length is, length-drop (i + 1) all);
    }

pub code_none : (all : List Token) → ahead all ≡ [] → code_in all ≡ codes.Syntax
unfolding code_in
code_none all e = ap first_code e
