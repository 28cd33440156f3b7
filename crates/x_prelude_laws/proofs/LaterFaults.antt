-- The faults of an item that has the same words so many bytes later.
use Rattle.std.proofs.Common.{◌≡◌, ℕ, zero, suc, ◌+◌, ◌-◌, ◌<◌, Bool, true, false, cond, List, [], ◌∷◌, ◌++◌}
use Rattle.std.proofs.Common.{map, length, inl, inr, arith, ne_eqb, refl, sym, ap, subst, ◌∙◌}
use Rattle.std.specs.Prelude.{◌&&◌, ◌==◌}
use Rattle.std.proofs.lemmas.List.{length-append, length-map, map-append}
use Rattle.x_lex.specs.Places.{Lexeme}
use Rattle.x_trees.specs.Spell.{Begins}
use Rattle.x_trees.specs.Words.{is_significant, word_of, words_of}
use Rattle.x_item.specs.Parse.{Def, Fault, IsParse, Nothing, Parse}
use Rattle.x_parser.specs.declared.fault_code.FaultCode.{FaultCode}
use Rattle.x_item.proofs.ParseLaws.{one_parse}
use Rattle.x_rules.specs.declared.fault.WordFault.{WordFault}
use Rattle.x_compile.specs.Compile.{at_token, faults_at, start_of, token_of_word}
use Rattle.x_compile.specs.declared.fault as rust
use Rattle.x_compile.specs.declared.fault.TokenFault.{TokenFault}
use Rattle.x_prelude_laws.proofs.Joint.{kept, kept_append, kept_no, kept_twice, kept_yes, moved, words_moved}

-- ---- where words start

-- a word starts where it does among the words alone
pub start_word : (ts : List Lexeme) (word : ℕ) → start_of ts (token_of_word ts word) ≡ start_of (kept ts) word
start_word [] word = refl
start_word (t ∷ ts) word = by (is_significant t.kind) refl word (λ w. start_word ts w)
  where
    tested : (b : Bool) → is_significant t.kind ≡ b → (w : ℕ) → token_of_word (t ∷ ts) w
        ≡ cond (b && w == 0) 0 (suc (token_of_word ts (cond b (w - 1) w)))
    tested b e w = ap (λ b. cond (b && w == 0) 0 (suc (token_of_word ts (cond b (w - 1) w)))) e

    by : (b : Bool) → is_significant t.kind ≡ b → (w : ℕ)
        → ((v : ℕ) → start_of ts (token_of_word ts v) ≡ start_of (kept ts) v)
        → start_of (t ∷ ts) (token_of_word (t ∷ ts) w) ≡ start_of (kept (t ∷ ts)) w
    by false e w rest =
        ap (start_of (t ∷ ts)) (tested false e w) ∙ rest w ∙ ap (λ l. start_of l w) (sym (kept_no t ts e))
    by true e zero rest =
        ap (start_of (t ∷ ts)) (tested true e zero) ∙ ap (λ l. start_of l zero) (sym (kept_yes t ts e))
    by true e (suc v) rest =
        let other : (suc v == 0) ≡ false = ne_eqb (suc v) 0 (λ z. omega (arith, z)) in
        let left : suc v - 1 ≡ v = omega arith in
        ap (start_of (t ∷ ts)) (tested true e (suc v)
        ∙ ap (λ b. cond b 0 (suc (token_of_word ts (suc v - 1)))) other
        ∙ ap (λ w. suc (token_of_word ts w)) left) ∙ rest v
        ∙ ap (λ l. start_of l (suc v)) (sym (kept_yes t ts e))

moved_start : (n : ℕ) (ts : List Lexeme) (k : ℕ) → k < length ts
    → start_of (map (moved n) ts) k ≡ n + start_of ts k
moved_start n [] k lt = absurd (omega (arith, lt))
moved_start n (t ∷ ts) zero lt = refl
moved_start n (t ∷ ts) (suc k) lt = moved_start n ts k (omega (arith, lt))

at_push : (xs : List Lexeme) (t : Lexeme) (ys : List Lexeme) → start_of (xs ++ t ∷ ys) (length xs) ≡ t.start
at_push [] t ys = refl
at_push (x ∷ xs) t ys = at_push xs t ys

-- ---- a fault of spelling

words_kept : (ts : List Lexeme) → words_of (kept ts) ≡ words_of ts
words_kept ts = ap (map word_of) (kept_twice ts)

-- among the words alone
record FaultIn (item : List Lexeme) (at : ℕ) (code : FaultCode) : Type 0 where
  place : ℕ
  within : place < length (kept item)
  start : start_of item at ≡ start_of (kept item) place
  is : IsParse (kept item) (Fault place code)

record CutAt (item : List Lexeme) (at : ℕ) (front : List Lexeme) (t : Lexeme)
    (rear : List Lexeme) : Type 0 where
  parts : kept item ≡ kept front ++ t ∷ kept rear
  within : length (kept front) < length (kept item)
  start : start_of item at ≡ start_of (kept item) (length (kept front))

cut_at : (item : List Lexeme) (at : ℕ) (front : List Lexeme) (t : Lexeme) (rear : List Lexeme)
    → item ≡ front ++ t ∷ rear → at ≡ length front → is_significant t.kind ≡ true
    → CutAt item at front t rear
cut_at item at front t rear parts place word =
    let cut : kept item ≡ kept front ++ t ∷ kept rear =
    ap kept parts ∙ kept_append front (t ∷ rear) ∙ ap (λ l. kept front ++ l) (kept_yes t rear word) in
    let many = ap length cut in
    record {
      parts = cut;
      within = omega (arith, many, length-append (kept front) (t ∷ kept rear));
      start = (λ i. start_of (parts i) (place i)) ∙ at_push front t rear
          ∙ sym (ap (λ l. start_of l (length (kept front))) cut ∙ at_push (kept front) t (kept rear));
    }

fault_in : (item : List Lexeme) (at : ℕ) (code : FaultCode) → IsParse item (Fault at code)
    → FaultIn item at code
fault_in item at code (inl s) =
    let c = cut_at item at s.front s.token s.rear s.parts s.place s.is_word in
    let same = words_kept s.front in
    record {
      place = length (kept s.front);
      within = c.within;
      start = c.start;
      is = inl (record {
        front = kept s.front;
        token = s.token;
        rear = kept s.rear;
        parts = c.parts;
        place = refl;
        is_word = s.is_word;
        before = subst Begins (sym same) s.before;
        here = λ b. s.here (subst (λ ws. Begins (ws ++ word_of s.token ∷ [])) same b);
        by_kind = s.by_kind;
      });
    }
fault_in item at code (inr u) =
    let s = u.last in
    let c = cut_at item at s.front s.token s.rear s.parts s.place s.is_word in
    let same = words_kept item in
    record {
      place = length (kept s.front);
      within = c.within;
      start = c.start;
      is = inr (record {
        last = record {
          front = kept s.front;
          token = s.token;
          rear = kept s.rear;
          parts = c.parts;
          place = refl;
          is_word = s.is_word;
          behind = words_kept s.rear ∙ s.behind;
        };
        begins = subst Begins (sym same) u.begins;
        no_whole = λ d limits e. u.no_whole d limits (e ∙ same);
        unfinished = u.unfinished;
      });
    }

-- the same of moved words
moved_parts : (n : ℕ) (ts front : List Lexeme) (t : Lexeme) (rear : List Lexeme) → ts ≡ front ++ t ∷ rear
    → map (moved n) ts ≡ map (moved n) front ++ moved n t ∷ map (moved n) rear
moved_parts n ts front t rear e = ap (map (moved n)) e ∙ map-append (moved n) front (t ∷ rear)

fault_moved : (n : ℕ) (ts : List Lexeme) (at : ℕ) (code : FaultCode) → IsParse ts (Fault at code)
    → IsParse (map (moved n) ts) (Fault at code)
fault_moved n ts at code (inl s) =
    let same = words_moved n s.front in
    inl (record {
      front = map (moved n) s.front;
      token = moved n s.token;
      rear = map (moved n) s.rear;
      parts = moved_parts n ts s.front s.token s.rear s.parts;
      place = s.place ∙ sym (length-map s.front (moved n));
      is_word = s.is_word;
      before = subst Begins (sym same) s.before;
      here = λ b. s.here (subst (λ ws. Begins (ws ++ word_of s.token ∷ [])) same b);
      by_kind = s.by_kind;
    })
fault_moved n ts at code (inr u) =
    let s = u.last in
    let same = words_moved n ts in
    inr (record {
      last = record {
        front = map (moved n) s.front;
        token = moved n s.token;
        rear = map (moved n) s.rear;
        parts = moved_parts n ts s.front s.token s.rear s.parts;
        place = s.place ∙ sym (length-map s.front (moved n));
        is_word = s.is_word;
        behind = words_moved n s.rear ∙ s.behind;
      };
      begins = subst Begins (sym same) u.begins;
      no_whole = λ d limits e. u.no_whole d limits (e ∙ same);
      unfinished = u.unfinished;
    })

-- where a fault stands, and its code
record SameFault (n : ℕ) (a j : List Lexeme) (at k : ℕ) (code other : FaultCode) : Type 0 where
  start : start_of a at ≡ n + start_of j k
  code_is : code ≡ other

same_fault : (n : ℕ) (a j : List Lexeme) (at k : ℕ) (code other : FaultCode)
    → kept a ≡ map (moved n) (kept j) → IsParse a (Fault at code) → IsParse j (Fault k other)
    → SameFault n a j at k code other
same_fault n a j at k code other same h l =
    let f = fault_in a at code h in
    let g = fault_in j k other l in
    let one = one_parse (map (moved n) (kept j)) (Fault f.place code) (Fault g.place other)
    (subst (λ ts. IsParse ts (Fault f.place code)) same f.is) (fault_moved n (kept j) g.place other g.is) in
    let place : f.place ≡ g.place = cc in
    record {
      start = f.start ∙ (λ i. start_of (same i) (place i)) ∙ moved_start n (kept j) g.place g.within
          ∙ ap (λ k. n + k) (sym g.start);
      code_is = cc;
    }

-- ---- all faults of an item

-- where its token starts, and its code
pub record Seen : Type 0 where
  pub start : ℕ
  pub code : rust.FaultCode.FaultCode

abbrev pub seen_at : List Lexeme → TokenFault → Seen
seen_at tokens f = record { start = start_of tokens f.token; code = f.code }

abbrev pub seen_behind : ℕ → Seen → Seen
seen_behind n x = record { start = n + x.start; code = x.code }

-- at words of which there are so many
abbrev pub AreWithin : ℕ → List WordFault → Type 0
AreWithin n [] = Unit {0}
AreWithin n (f ∷ fs) = (f.word < n) × AreWithin n fs

seen_ruled : (n : ℕ) (a j : List Lexeme) (ruled : List WordFault) → kept a ≡ map (moved n) (kept j)
    → AreWithin (length (kept j)) ruled
    → map (seen_at a) (map (at_token a) ruled)
    ≡ map (seen_behind n) (map (seen_at j) (map (at_token j) ruled))
seen_ruled n a j [] same h = refl
seen_ruled n a j (f ∷ fs) same h =
    let start = start_word a f.word ∙ ap (λ l. start_of l f.word) same ∙ moved_start n (kept j) f.word h.0
    ∙ ap (λ k. n + k) (sym (start_word j f.word)) in
    let rest = seen_ruled n a j fs same h.1 in
    λ i. record { start = start i; code = (at_token a f).code } ∷ rest i

words_same : (n : ℕ) (a j : List Lexeme) → kept a ≡ map (moved n) (kept j) → words_of a ≡ words_of j
words_same n a j same = sym (words_kept a) ∙ ap words_of same ∙ words_moved n (kept j) ∙ words_kept j

pub seen_faults : (n : ℕ) (a j : List Lexeme) (p q : Parse) (ruled : List WordFault)
    → kept a ≡ map (moved n) (kept j) → IsParse a p → IsParse j q → AreWithin (length (kept j)) ruled
    → map (seen_at a) (faults_at a p ruled) ≡ map (seen_behind n) (map (seen_at j) (faults_at j q ruled))
seen_faults n a j Nothing Nothing ruled same h k within = seen_ruled n a j ruled same within
seen_faults n a j Nothing (Def d) ruled same h k within = seen_ruled n a j ruled same within
seen_faults n a j (Def d) Nothing ruled same h k within = seen_ruled n a j ruled same within
seen_faults n a j (Def d) (Def e) ruled same h k within = seen_ruled n a j ruled same within
seen_faults n a j Nothing (Fault i c) ruled same h k within =
    absurd (let f = one_parse j Nothing (Fault i c) (sym (words_same n a j same) ∙ h) k in cc)
seen_faults n a j (Def d) (Fault i c) ruled same h k within =
    absurd (let f = one_parse j (Def d) (Fault i c) (h.0, h.1 ∙ words_same n a j same) k in cc)
seen_faults n a j (Fault i c) Nothing ruled same h k within =
    absurd (let f = one_parse a Nothing (Fault i c) (words_same n a j same ∙ k) h in cc)
seen_faults n a j (Fault i c) (Def e) ruled same h k within =
    absurd (let f = one_parse a (Def e) (Fault i c) (k.0, k.1 ∙ sym (words_same n a j same)) h in cc)
seen_faults n a j (Fault i c) (Fault k e) ruled same h l within =
    let s = same_fault n a j i k c e same h l in
    λ m. record { start = s.start m; code = rust.FaultCode.TheVariants.Syntax (s.code_is m) } ∷ []
