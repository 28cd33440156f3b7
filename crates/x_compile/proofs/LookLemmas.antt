-- What tokens are, wherever they stand: items of tokens that look alike parse alike.
use Rattle.std.proofs.Common.{◌≡◌, ℕ, ◌+◌, inl, inr, Bool, true, false, cond, List, [], ◌∷◌, ◌++◌, length}
use Rattle.std.proofs.Common.{map, drop, refl, sym, ap, subst, ◌∙◌}
use Rattle.std.specs.Prelude.{IsTrue, codes}
use Rattle.std.specs.List.{filter, flat_map}
use Rattle.std.proofs.lemmas.List.{length-map}
use Rattle.x_lex.specs.declared.kind.Kind.{Kind}
use Rattle.x_lex.specs.Places.{Lexeme}
use Rattle.x_trees.specs.Spell.{Begins}
use Rattle.x_trees.specs.Words.{Word, is_significant, word_by, word_of, words_of}
use Rattle.x_parser.specs.Stuck.{IsStuck, code_of}
use Rattle.x_item.specs.Parse.{Parse, Nothing, Def, Fault, IsParse, IsLastWord, IsUnfinished}
use Rattle.x_parser.specs.declared.fault_code.FaultCode.{FaultCode}
use Rattle.x_compile.specs.Generated.{is_percent, lines_of}
use Rattle.x_compile.specs.KeptView.{byte_count}

-- a token's kind and its bytes
abbrev pub look : Lexeme → Kind × List ℕ
look t = (t.kind, t.text)

map_cond : {X Y : Type 0} (f : X → Y) (b : Bool) (xs ys : List X)
    → map f (cond b xs ys) ≡ cond b (map f xs) (map f ys)
map_cond f true xs ys = refl
map_cond f false xs ys = refl

-- ---- words

words_by : List (Kind × List ℕ) → List Word
words_by [] = []
words_by (l ∷ ls) = cond (is_significant l.0) (word_by l.0 l.1 ∷ words_by ls) (words_by ls)

words_are : (ts : List Lexeme) → words_of ts ≡ words_by (map look ts)
unfolding words_by
words_are [] = refl
words_are (t ∷ ts) =
    let rest = words_are ts in
    map_cond word_of (is_significant t.kind) (t ∷ filter (λ u. is_significant u.kind) ts)
    (filter (λ u. is_significant u.kind) ts)
    ∙ (λ i. cond (is_significant t.kind) (word_of t ∷ rest i) (rest i))

pub words_alike : (xs ys : List Lexeme) → map look xs ≡ map look ys → words_of xs ≡ words_of ys
words_alike xs ys same = words_are xs ∙ ap words_by same ∙ sym (words_are ys)

-- ---- bytes

bytes_by : List (Kind × List ℕ) → ℕ
bytes_by [] = 0
bytes_by (l ∷ ls) = length l.1 + bytes_by ls

bytes_are : (ts : List Lexeme) → byte_count ts ≡ bytes_by (map look ts)
unfolding bytes_by
bytes_are [] = refl
bytes_are (t ∷ ts) = ap (λ n. length t.text + n) (bytes_are ts)

pub bytes_alike : (xs ys : List Lexeme) → map look xs ≡ map look ys → byte_count xs ≡ byte_count ys
bytes_alike xs ys same = bytes_are xs ∙ ap bytes_by same ∙ sym (bytes_are ys)

-- ---- lines that pass through

lines_by : List (Kind × List ℕ) → List ℕ
lines_by [] = []
lines_by (l ∷ ls) = cond (is_percent l.0) ((drop 1 l.1 ++ codes "\n") ++ lines_by ls) (lines_by ls)

flat_cond : {X Y : Type 0} (f : X → List Y) (b : Bool) (x : X) (xs : List X)
    → flat_map f (cond b (x ∷ xs) xs) ≡ cond b (f x ++ flat_map f xs) (flat_map f xs)
flat_cond f true x xs = refl
flat_cond f false x xs = refl

lines_are : (ts : List Lexeme) → lines_of ts ≡ lines_by (map look ts)
unfolding lines_by
lines_are [] = refl
lines_are (t ∷ ts) =
    let rest = lines_are ts in
    flat_cond (λ (u : Lexeme). drop 1 u.text ++ codes "\n") (is_percent t.kind) t
    (filter (λ u. is_percent u.kind) ts)
    ∙ (λ i. cond (is_percent t.kind) ((drop 1 t.text ++ codes "\n") ++ rest i) (rest i))

pub lines_alike : (xs ys : List Lexeme) → map look xs ≡ map look ys → lines_of xs ≡ lines_of ys
lines_alike xs ys same = lines_are xs ∙ ap lines_by same ∙ sym (lines_are ys)

-- ---- parses

-- a list of tokens that look as these do has its parts where these have them
record Parted (front : List Lexeme) (token : Lexeme) (rear ys : List Lexeme) : Type 0 where
  before : List Lexeme
  here : Lexeme
  behind : List Lexeme
  parts : ys ≡ before ++ here ∷ behind
  front_is : map look front ≡ map look before
  token_is : look token ≡ look here
  rear_is : map look rear ≡ map look behind

parted : (front : List Lexeme) (token : Lexeme) (rear ys : List Lexeme)
    → map look (front ++ token ∷ rear) ≡ map look ys → Parted front token rear ys
parted [] token rear [] same = absurd (cc)
parted [] token rear (y ∷ ys) same =
    let head : look token ≡ look y = cc in
    let tail : map look rear ≡ map look ys = cc in
    record {
      before = [];
      here = y;
      behind = ys;
      parts = refl;
      front_is = refl;
      token_is = head;
      rear_is = tail;
    }
parted (f ∷ front) token rear [] same = absurd (cc)
parted (f ∷ front) token rear (y ∷ ys) same =
    let head : look f ≡ look y = cc in
    let tail : map look (front ++ token ∷ rear) ≡ map look ys = cc in
    let r = parted front token rear ys tail in
    record {
      before = y ∷ r.before;
      here = r.here;
      behind = r.behind;
      parts = ap (λ l. y ∷ l) r.parts;
      front_is = λ i. head i ∷ r.front_is i;
      token_is = r.token_is;
      rear_is = r.rear_is;
    }

pub many_alike : (xs ys : List Lexeme) → map look xs ≡ map look ys → length xs ≡ length ys
many_alike xs ys same = sym (length-map xs look) ∙ ap length same ∙ length-map ys look

with_alike : (xs ys : List Lexeme) (s t : Lexeme) → map look xs ≡ map look ys → look s ≡ look t
    → words_of xs ++ word_of s ∷ [] ≡ words_of ys ++ word_of t ∷ []
with_alike xs ys s t same one =
    let words = words_alike xs ys same in λ i. words i ++ word_by (one i).0 (one i).1 ∷ []

stuck_alike : (xs ys : List Lexeme) (at : ℕ) (code : FaultCode) → map look xs ≡ map look ys
    → IsStuck xs at code → IsStuck ys at code
stuck_alike xs ys at code same h =
    let p = parted h.front h.token h.rear ys (sym (ap (map look) h.parts) ∙ same) in
    record {
      front = p.before;
      token = p.here;
      rear = p.behind;
      parts = p.parts;
      place = h.place ∙ many_alike h.front p.before p.front_is;
      is_word = subst (λ l. IsTrue (is_significant l.0)) p.token_is h.is_word;
      before = subst Begins (words_alike h.front p.before p.front_is) h.before;
      here = λ begins. h.here
          (subst Begins (sym (with_alike h.front p.before h.token p.here p.front_is p.token_is)) begins);
      by_kind = h.by_kind ∙ ap (λ l. code_of l.0) p.token_is;
    }

last_alike : (xs ys : List Lexeme) (at : ℕ) → map look xs ≡ map look ys → IsLastWord xs at → IsLastWord ys at
last_alike xs ys at same h =
    let p = parted h.front h.token h.rear ys (sym (ap (map look) h.parts) ∙ same) in
    record {
      front = p.before;
      token = p.here;
      rear = p.behind;
      parts = p.parts;
      place = h.place ∙ many_alike h.front p.before p.front_is;
      is_word = subst (λ l. IsTrue (is_significant l.0)) p.token_is h.is_word;
      behind = sym (words_alike h.rear p.behind p.rear_is) ∙ h.behind;
    }

unfinished_alike : (xs ys : List Lexeme) (at : ℕ) (code : FaultCode) → map look xs ≡ map look ys
    → IsUnfinished xs at code → IsUnfinished ys at code
unfinished_alike xs ys at code same h =
    let words = words_alike xs ys same in
    record {
      last = last_alike xs ys at same h.last;
      begins = subst Begins words h.begins;
      no_whole = λ d keeps is. h.no_whole d keeps (is ∙ sym words);
      unfinished = h.unfinished;
    }

pub parse_alike : (xs ys : List Lexeme) (p : Parse) → map look xs ≡ map look ys → IsParse xs p → IsParse ys p
parse_alike xs ys Nothing same h = sym (words_alike xs ys same) ∙ h
parse_alike xs ys (Def d) same h = (h.0, h.1 ∙ words_alike xs ys same)
parse_alike xs ys (Fault at code) same (inl h) = inl (stuck_alike xs ys at code same h)
parse_alike xs ys (Fault at code) same (inr h) = inr (unfinished_alike xs ys at code same h)
