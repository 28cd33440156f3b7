-- What reading an item says of spellings.
use Rattle.std.proofs.Common.{◌≡◌, ◌≢◌, ℕ, suc, ◌+◌, ◌-◌, ◌≤◌, List, [], ◌∷◌, ◌++◌, length, true, false}
use Rattle.std.proofs.Common.{Option, Some, None, Result, Ok, Err, refl, ap, sym, ◌∙◌, subst, append_assoc}
use Rattle.std.proofs.Common.{arith, length-append, ⊎_elim}
use Rattle.std.proofs.lemmas.List.{append-nil, append_cancel_right, nil_from_length, map-append}
use Rattle.std.specs.Result.{IsErrAnd, IfErr}
use Rattle.std.proofs.lemmas.Result.{err_from_is_err_and}
use Rattle.x_lex.specs.Places.{Lexeme}
use Rattle.x_trees.specs.Words.{Word, word_of, words_of, is_significant}
use Rattle.x_trees.specs.Tree as tree
use Rattle.x_trees.specs.Spell.{spell, KeepsLimits, Begins}
use Rattle.x_parser.specs.Stuck.{code_of, IsStuck}
use Rattle.x_parser.specs.Symbols.{Symbol, Item, step, go}
use Rattle.x_parser.specs.Reading.{WordAhead, word_ahead, places_of, words_at, read, IsAt, IsRefused}
use Rattle.x_parser.specs.declared.fault_code.FaultCode.{FaultCode}
use Rattle.x_parser.specs.declared.parse_error.ParseError.{ParseError}
use Rattle.x_parser.specs.declared.parse_error.ParseError.TheVariants as errors
use Rattle.x_parser.proofs.Machine.{drive, Stuck, past, stuck}
use Rattle.x_parser.proofs.Grammar.{Value, text, build, built, split, least}
use Rattle.x_parser.proofs.PlaceLemmas.{places_word, places_other}
use Rattle.x_parser.proofs.WordLemmas.{words_of-word, words_of-other, cases_word}

same_head : {A : Type 0} {x y : A} {a b : List A} → x ∷ a ≡ y ∷ b → x ≡ y
same_head e = cc

same_tail : {A : Type 0} {x y : A} {a b : List A} → x ∷ a ≡ y ∷ b → a ≡ b
same_tail e = cc

not_empty : {A : Type 0} (a : List A) (x : A) (b : List A) → [] ≢ a ++ x ∷ b
not_empty [] x b e = cc
not_empty (y ∷ a) x b e = cc

-- two lists cut at the same length
same_cut : {A : Type 0} (a c b d : List A) → length a ≡ length c → a ++ b ≡ c ++ d → (a ≡ c) × (b ≡ d)
same_cut [] [] b d len e = (refl, e)
same_cut [] (y ∷ c) b d len e = cc
same_cut (x ∷ a) [] b d len e = cc
same_cut (x ∷ a) (y ∷ c) b d len e =
    let shorter : length a ≡ length c = omega arith in
    let rest = same_cut a c b d shorter (same_tail e) in
    let whole : x ∷ a ≡ y ∷ c = ap (λ t. x ∷ t) rest.0 ∙ ap (λ z. z ∷ c) (same_head e) in
    (whole, rest.1)

pub words_places : (tokens : List Lexeme) → words_at (places_of tokens) ≡ words_of tokens
words_places [] = refl
words_places (t ∷ ts) =
    ⊎_elim
    (λ is. ap words_at (places_word t ts is) ∙ ap (λ x. word_of t ∷ x) (words_places ts)
    ∙ sym (words_of-word t ts is))
    (λ is. ap words_at (places_other t ts is) ∙ words_places ts ∙ sym (words_of-other t ts is))
    (cases_word t)

-- a place of a word, and the token there
record PlacedAt (tokens : List Lexeme) (gone : List WordAhead) (at : WordAhead) : Type 0 where
  front : List Lexeme
  token : Lexeme
  rear : List Lexeme
  parts : tokens ≡ front ++ token ∷ rear
  is_word : is_significant token.kind ≡ true
  words : words_of front ≡ words_at gone
  word : word_of token ≡ at.word
  left : at.left ≡ suc (length rear)
  code : at.code ≡ code_of token.kind

placed_here : (t : Lexeme) (ts : List Lexeme) (gone : List WordAhead) (at : WordAhead) (rest : List WordAhead)
    → is_significant t.kind ≡ true → word_ahead t ts ∷ places_of ts ≡ gone ++ at ∷ rest
    → ((more : List WordAhead) → places_of ts ≡ more ++ at ∷ rest → PlacedAt ts more at)
    → PlacedAt (t ∷ ts) gone at
placed_here t ts [] at rest word e ih =
    let is : word_ahead t ts ≡ at = same_head e in
    record {
      front = [];
      token = t;
      rear = ts;
      parts = refl;
      is_word = word;
      words = refl;
      word = ap (λ (p : WordAhead). p.word) is;
      left = ap (λ (p : WordAhead). p.left) (sym is);
      code = ap (λ (p : WordAhead). p.code) (sym is);
    }
placed_here t ts (g ∷ gone) at rest word e ih =
    let is : word_ahead t ts ≡ g = same_head e in
    let h = ih gone (same_tail e) in
    record {
      front = t ∷ h.front;
      token = h.token;
      rear = h.rear;
      parts = ap (λ x. t ∷ x) h.parts;
      is_word = h.is_word;
      words = words_of-word t h.front word ∙ ap (λ x. word_of t ∷ x) h.words
          ∙ ap (λ (p : WordAhead). p.word ∷ words_at gone) is;
      word = h.word;
      left = h.left;
      code = h.code;
    }

placed_later : (t : Lexeme) (ts : List Lexeme) (gone : List WordAhead) (at : WordAhead)
    → is_significant t.kind ≡ false → PlacedAt ts gone at → PlacedAt (t ∷ ts) gone at
placed_later t ts gone at other h = record {
  front = t ∷ h.front;
  token = h.token;
  rear = h.rear;
  parts = ap (λ x. t ∷ x) h.parts;
  is_word = h.is_word;
  words = words_of-other t h.front other ∙ h.words;
  word = h.word;
  left = h.left;
  code = h.code;
}

placed : (tokens : List Lexeme) (gone : List WordAhead) (at : WordAhead) (rest : List WordAhead)
    → places_of tokens ≡ gone ++ at ∷ rest → PlacedAt tokens gone at
placed [] gone at rest e = absurd (not_empty gone at rest e)
placed (t ∷ ts) gone at rest e =
    ⊎_elim
    (λ word. placed_here t ts gone at rest word (sym (places_word t ts word) ∙ e)
    (λ more f. placed ts more at rest f))
    (λ other. placed_later t ts gone at other (placed ts gone at rest (sym (places_other t ts other) ∙ e)))
    (cases_word t)

-- where reading stops at a place, the machine stops at its word
record Cut (ss : List Symbol) (ps : List WordAhead) (left : ℕ) (code : FaultCode) : Type 0 where
  gone : List WordAhead
  at : WordAhead
  rest : List WordAhead
  parts : ps ≡ gone ++ at ∷ rest
  left_is : left ≡ at.left
  code_is : code ≡ at.code
  words : drive step ss (words_at ps) ≡ Err (suc (length (words_at rest)))

driven : (s : Symbol) (ss : List Symbol) (p : WordAhead) (ps : List WordAhead) (o : Option (List Symbol))
    → o ≡ step s p.word → drive step (s ∷ ss) (words_at (p ∷ ps))
    ≡ go o (λ symbols. drive step (symbols ++ ss) (words_at ps)) (Err (suc (length (words_at ps))))
driven s ss p ps o is =
    ap (λ (o : Option (List Symbol)). go o (λ symbols. drive step (symbols ++ ss) (words_at ps))
    (Err (suc (length (words_at ps))))) (sym is)

halts_step : (s : Symbol) (ss : List Symbol) (p : WordAhead) (ps : List WordAhead) (left : ℕ)
    (code : FaultCode) (o : Option (List Symbol)) → o ≡ step s p.word
    → ((rr : List Symbol) → read rr ps ≡ Err (errors.Stuck left code) → Cut rr ps left code)
    → go o (λ symbols. read (symbols ++ ss) ps) (Err (errors.Stuck p.left p.code))
    ≡ Err (errors.Stuck left code) → Cut (s ∷ ss) (p ∷ ps) left code
halts_step s ss p ps left code None is ih e = record {
  gone = [];
  at = p;
  rest = ps;
  parts = refl;
  left_is = cc;
  code_is = cc;
  words = driven s ss p ps None is;
}
halts_step s ss p ps left code (Some rhs) is ih e =
    let h = ih (rhs ++ ss) e in
    record {
      gone = p ∷ h.gone;
      at = h.at;
      rest = h.rest;
      parts = ap (λ x. p ∷ x) h.parts;
      left_is = h.left_is;
      code_is = h.code_is;
      words = driven s ss p ps (Some rhs) is ∙ h.words;
    }

halts : (ps : List WordAhead) (ss : List Symbol) (left : ℕ) (code : FaultCode)
    → read ss ps ≡ Err (errors.Stuck left code) → Cut ss ps left code
halts ps [] left code e = cc
halts [] (s ∷ ss) left code e = cc
halts (p ∷ ps) (s ∷ ss) left code e =
    halts_step s ss p ps left code (step s p.word) refl (λ rr f. halts ps rr left code f) e

ends_step : (s : Symbol) (ss : List Symbol) (p : WordAhead) (ps : List WordAhead) (o : Option (List Symbol))
    → o ≡ step s p.word → ((rr : List Symbol) → read rr ps ≡ Err errors.AtEnd
    → drive step rr (words_at ps) ≡ Err 0)
    → go o (λ symbols. read (symbols ++ ss) ps) (Err (errors.Stuck p.left p.code)) ≡ Err errors.AtEnd
    → drive step (s ∷ ss) (words_at (p ∷ ps)) ≡ Err 0
ends_step s ss p ps None is ih e = cc
ends_step s ss p ps (Some rhs) is ih e = driven s ss p ps (Some rhs) is ∙ ih (rhs ++ ss) e

ends_words : (ps : List WordAhead) (ss : List Symbol) → read ss ps ≡ Err errors.AtEnd
    → drive step ss (words_at ps) ≡ Err 0
ends_words ps [] e = cc
ends_words [] (s ∷ ss) e = refl
ends_words (p ∷ ps) (s ∷ ss) e = ends_step s ss p ps (step s p.word) refl (λ rr f. ends_words ps rr f) e

-- what is left is a rear of the places
record Rear (ps rest : List WordAhead) : Type 0 where
  gone : List WordAhead
  parts : ps ≡ gone ++ rest

rear_step : (ss : List Symbol) (p : WordAhead) (ps rest : List WordAhead) (o : Option (List Symbol))
    (stop : ParseError) → ((rr : List Symbol) → read rr ps ≡ Ok rest → Rear ps rest)
    → go o (λ symbols. read (symbols ++ ss) ps) (Err stop) ≡ Ok rest → Rear (p ∷ ps) rest
rear_step ss p ps rest None stop ih e = cc
rear_step ss p ps rest (Some rhs) stop ih e =
    let h = ih (rhs ++ ss) e in
    record { gone = p ∷ h.gone; parts = ap (λ x. p ∷ x) h.parts }

rear_of : (ps : List WordAhead) (ss : List Symbol) (rest : List WordAhead) → read ss ps ≡ Ok rest
    → Rear ps rest
rear_of ps [] rest e = record { gone = []; parts = cc }
rear_of [] (s ∷ ss) rest e = cc
rear_of (p ∷ ps) (s ∷ ss) rest e =
    rear_step ss p ps rest (step s p.word) (errors.Stuck p.left p.code) (λ rr f. rear_of ps rr rest f) e

-- the machine at an item
stuck_item : (ws : List Word) (n : ℕ) → drive step (Item ∷ []) ws ≡ Err n → Stuck Value text (Item ∷ []) ws n
stuck_item ws n e = stuck step Value text build built split least ws (Item ∷ []) n e

begins : (ws : List Word) (n : ℕ) (h : Stuck Value text (Item ∷ []) ws n) → Begins h.seen
begins ws n h =
    (h.begins.0.0.0, h.begins.0.0.1, h.begins.1, sym (append-nil (spell h.begins.0.0.0)) ∙ h.begins.2)

goes : (d : tree.Definition) → KeepsLimits d → (rest : List Word)
    → drive step (Item ∷ []) (spell d ++ rest) ≡ Ok rest
goes d p rest = past step Value text build built split least (spell d) (Item ∷ []) [] ((d, p), tt) rest
    (append-nil (spell d))

-- no spelling goes on behind another
none_behind : (d e : tree.Definition) → KeepsLimits d → KeepsLimits e → (w : Word) (more : List Word)
    → spell e ≢ spell d ++ w ∷ more
none_behind d e p q w more same =
    let one : drive step (Item ∷ []) (spell d ++ w ∷ more) ≡ Ok (w ∷ more) = goes d p (w ∷ more) in
    let two : drive step (Item ∷ []) (spell e ++ []) ≡ Ok [] = goes e q [] in
    let both = sym one ∙ ap (drive step (Item ∷ [])) (sym same ∙ sym (append-nil (spell e))) ∙ two in
    cc

-- a fault at a place
fault_at : (item : List Lexeme) (gone : List WordAhead) (at : WordAhead) (left : ℕ) (code : FaultCode)
    → PlacedAt item gone at → left ≡ at.left → code ≡ at.code → Begins (words_at gone)
    → (Begins (words_at gone ++ at.word ∷ []) → ⊥)
    → (left ≤ length item) × IsStuck item (length item - left) code
fault_at item gone at left code h left_is code_is before here =
    let tokens : length item ≡ length h.front + suc (length h.rear) = ap length h.parts
    ∙ length-append h.front (h.token ∷ h.rear) in
    let within : left ≤ length item = omega (arith, h.left, left_is) in (
      within,
      record {
        front = h.front;
        token = h.token;
        rear = h.rear;
        parts = h.parts;
        place = omega (arith, h.left, left_is);
        is_word = h.is_word;
        before = subst Begins (sym h.words) before;
        here = λ b. here (subst Begins (ap (λ ws. ws ++ word_of h.token ∷ []) h.words
            ∙ ap (λ w. words_at gone ++ w ∷ []) h.word) b);
        by_kind = code_is ∙ h.code;
      },
    )

words_cut : (ps gone : List WordAhead) (at : WordAhead) (rest : List WordAhead) → ps ≡ gone ++ at ∷ rest
    → words_at ps ≡ words_at gone ++ at.word ∷ words_at rest
words_cut ps gone at rest e = ap words_at e ∙ map-append (λ (p : WordAhead). p.word) gone (at ∷ rest)

stuck_cut : (item : List Lexeme) (left : ℕ) (code : FaultCode) → Cut (Item ∷ []) (places_of item) left code
    → (left ≤ length item) × IsStuck item (length item - left) code
stuck_cut item left code h =
    let s = stuck_item (words_at (places_of item)) (suc (length (words_at h.rest))) h.words in
    let cut : s.seen ++ s.ahead ≡ words_at h.gone ++ h.at.word ∷ words_at h.rest = sym s.parts
    ∙ words_cut (places_of item) h.gone h.at h.rest h.parts in
    let lengths : length s.seen + length s.ahead
    ≡ length (words_at h.gone) + length (h.at.word ∷ words_at h.rest) =
    sym (length-append s.seen s.ahead) ∙ ap length cut
    ∙ length-append (words_at h.gone) (h.at.word ∷ words_at h.rest) in
    let same_length : length s.seen ≡ length (words_at h.gone) = omega (arith, s.left) in
    let same = same_cut s.seen (words_at h.gone) s.ahead (h.at.word ∷ words_at h.rest) same_length cut in
    fault_at item h.gone h.at left code (placed item h.gone h.at h.rest h.parts) h.left_is h.code_is
    (subst Begins same.0 (begins (words_at (places_of item)) (suc (length (words_at h.rest))) s))
    (λ b. s.ends h.at.word (words_at h.rest) same.1 ((b.0, b.1), tt) b.2
    (append-nil (spell b.0) ∙ b.3 ∙ append_assoc (words_at h.gone) (h.at.word ∷ []) b.2
    ∙ ap (λ t. t ++ h.at.word ∷ b.2) (sym same.0)))

-- an item whose words end within a spelling
ended : (item : List Lexeme) → drive step (Item ∷ []) (words_at (places_of item)) ≡ Err 0
    → IsRefused item errors.AtEnd
ended item e =
    let s = stuck_item (words_at (places_of item)) 0 e in
    let none_left : s.ahead ≡ [] = nil_from_length s.ahead s.left in
    let all : words_of item ≡ s.seen = sym (words_places item) ∙ s.parts ∙ ap (λ t. s.seen ++ t) none_left
    ∙ append-nil s.seen in (
      subst Begins (sym all) (begins (words_at (places_of item)) 0 s),
      λ d p same. s.short none_left ((d, p), tt) (append-nil (spell d) ∙ same ∙ all),
    )

-- an item at which reading fails
pub refused : (item : List Lexeme) (e : ParseError) → IsAt e (read (Item ∷ []) (places_of item))
    → IsRefused item e
refused item errors.Memory f = tt
refused item errors.AtEnd f = ended item (ends_words (places_of item) (Item ∷ []) f)
refused item (errors.Stuck left code) f =
    stuck_cut item left code (halts (places_of item) (Item ∷ []) left code f)

-- an item with a word after a definition
pub behind : (d : tree.Definition) (item : List Lexeme) (at : WordAhead) (rest : List WordAhead)
    → KeepsLimits d → words_at (places_of item) ≡ spell d ++ words_at (at ∷ rest)
    → read (Item ∷ []) (places_of item) ≡ read [] (at ∷ rest) → IsRefused item (errors.Stuck at.left at.code)
behind d item at rest p spelled leads =
    let r = rear_of (places_of item) (Item ∷ []) (at ∷ rest) leads in
    let gone : words_at r.gone ≡ spell d = append_cancel_right (words_at r.gone) (spell d)
    (words_at (at ∷ rest)) (sym (words_cut (places_of item) r.gone at rest r.parts) ∙ spelled) in
    fault_at item r.gone at at.left at.code (placed item r.gone at rest r.parts) refl refl
    (d, p, [], sym gone ∙ sym (append-nil (words_at r.gone)))
    (λ b. none_behind d b.0 p b.1 at.word b.2 (b.3 ∙ append_assoc (words_at r.gone) (at.word ∷ []) b.2
    ∙ ap (λ x. x ++ at.word ∷ b.2) gone))

-- the exits of a `?`
pub exit_refused : (item : List Lexeme) {T : Type 0} (r : Result T ParseError) (x : ParseError)
    → IsErrAnd r (λ y. y ≡ x) → IsRefused item x → IfErr r (λ e. IsRefused item e)
exit_refused item r x is p = let h = err_from_is_err_and r is in rw (h.1, h.2) p
