-- Reading of parts, one after another.
use Rattle.std.proofs.Common.{◌≡◌, ◌≢◌, ◌↔◌, ℕ, Bool, true, false, nat_eq, get_or, map, IsTrue, List, [], ◌∷◌}
use Rattle.std.proofs.Common.{◌++◌, cond, Some, None, Result, Ok, Err, refl, ap, sym, ◌∙◌, subst}
use Rattle.std.proofs.Common.{append_assoc, arith}
use Rattle.std.specs.Result.{IsErrAnd, IfOk, IfErr}
use Rattle.std.proofs.lemmas.Bool.{eq-eqb, eqb-true}
use Rattle.std.proofs.lemmas.Result.{err_from_is_err_and}
use Rattle.x_lex.specs.declared.tokens.token.Token.{Token}
use Rattle.x_trees.specs.Words.{Word, Fixed, word_of}
use Rattle.x_lex.specs.Places.{lexeme}
use Rattle.x_lex.specs.declared.mark.Mark.{Mark}
use Rattle.x_lex.specs.declared.mark.Mark.TheVariants as marks
use Rattle.x_lex.specs.Marks.{spellings, place_of}
use Rattle.x_parser.specs.Symbols.{Symbol, Token as OfMark, go}
use Rattle.x_parser.specs.declared.fault_code.FaultCode.{FaultCode}
use Rattle.x_parser.specs.Reading.{WordAhead, IsAt, Fails, ReadsPart, IsPart, HasFirst, IsSplit, LacksFirst}
use Rattle.x_parser.specs.Reading.{ahead, words_at, left_in, code_in, read}
use Rattle.x_parser.specs.declared.parse_error.ParseError.{ParseError}
use Rattle.x_parser.specs.declared.parse_error.ParseError.TheVariants as errors

-- an error is where reading stops
pub at_along : (e : ParseError) (r q : Result (List WordAhead) ParseError) → r ≡ q → IsAt e q → IsAt e r
at_along errors.Memory r q is f = tt
at_along errors.AtEnd r q is f = is ∙ f
at_along (errors.Stuck left code) r q is f = is ∙ f

-- the exit of a `?`
pub exit_at : {T : Type 0} (P : ParseError → Type 0) (r : Result T ParseError) (x : ParseError)
    → IsErrAnd r (λ y. y ≡ x) → P x → IfErr r P
exit_at P r x is p = let h = err_from_is_err_and r is in rw (h.1, h.2) p

pub exit : {from : List Symbol} {tokens : List Token} {T : Type 0} (r : Result T ParseError) (x : ParseError)
    → IsErrAnd r (λ y. y ≡ x) → Fails from tokens x → IfErr r (λ e. Fails from tokens e)
exit {from} {tokens} r x is p = exit_at (λ e. Fails from tokens e) r x is p

-- two lists of symbols by which the tokens are read alike
pub record Alike (from to : List Symbol) (tokens : List Token) : Type 0 where
  pub by : (ss : List Symbol) → read (from ++ ss) (ahead tokens) ≡ read (to ++ ss) (ahead tokens)

-- so are any tokens
pub alike : {from to : List Symbol} (tokens : List Token)
    → ((ps : List WordAhead) (ss : List Symbol) → read (from ++ ss) ps ≡ read (to ++ ss) ps)
    → Alike from to tokens
alike tokens is = record { by = λ ss. is (ahead tokens) ss }

-- a word with tokens from it on, before others
abbrev pub headed : Word → ℕ → FaultCode → List WordAhead → List WordAhead
headed w left code ps = record { word = w; left = left; code = code } ∷ ps

-- so are tokens that begin with this word
pub alike_first : {from to : List Symbol} {tokens rest : List Token} {w : Word} → HasFirst tokens w rest
    → ((left : ℕ) (code : FaultCode) (ps : List WordAhead) (ss : List Symbol)
    → read (from ++ ss) (headed w left code ps) ≡ read (to ++ ss) (headed w left code ps))
    → Alike from to tokens
alike_first {from} {to} {tokens} {rest} h is = record {
  by = λ ss. ap (read (from ++ ss)) h.found ∙ is (left_in tokens) (code_in tokens) (ahead rest) ss
      ∙ ap (read (to ++ ss)) (sym h.found);
}

-- so are tokens whose first word, if there is one, is of a kind; and
-- those that do not begin with this word, or with either of these
unlike : (s u : Symbol) (from to : List Symbol) (P : Word → Type 0)
    → ((x : Word) (left : ℕ) (code : FaultCode) (ps : List WordAhead) (ss : List Symbol) → P x
    → read (s ∷ (from ++ ss)) (headed x left code ps) ≡ read (u ∷ (to ++ ss)) (headed x left code ps))
    → (ps : List WordAhead) (ss : List Symbol)
    → ((p : WordAhead) (qs : List WordAhead) → ps ≡ p ∷ qs → P p.word)
    → read (s ∷ (from ++ ss)) ps ≡ read (u ∷ (to ++ ss)) ps
unlike s u from to P is [] ss h = refl
unlike s u from to P is (p ∷ ps) ss h = is p.word p.left p.code ps ss (h p ps refl)

pub alike_where : (P : Word → Type 0) {s u : Symbol} {from to : List Symbol} {tokens : List Token}
    → ((p : WordAhead) (qs : List WordAhead) → ahead tokens ≡ p ∷ qs → P p.word)
    → ((x : Word) (left : ℕ) (code : FaultCode) (ps : List WordAhead) (ss : List Symbol) → P x
    → read (s ∷ (from ++ ss)) (headed x left code ps) ≡ read (u ∷ (to ++ ss)) (headed x left code ps))
    → Alike (s ∷ from) (u ∷ to) tokens
alike_where P {s} {u} {from} {to} {tokens} h is =
    record { by = λ ss. unlike s u from to P is (ahead tokens) ss h }

pub alike_other : {s u : Symbol} {from to : List Symbol} {tokens : List Token} {w : Word}
    → LacksFirst tokens w → ((x : Word) (left : ℕ) (code : FaultCode) (ps : List WordAhead) (ss : List Symbol)
    → x ≢ w → read (s ∷ (from ++ ss)) (headed x left code ps) ≡ read (u ∷ (to ++ ss)) (headed x left code ps))
    → Alike (s ∷ from) (u ∷ to) tokens
alike_other {w = w} h is = alike_where (λ x. x ≢ w) h.by is

pub alike_neither : {s u : Symbol} {from to : List Symbol} {tokens : List Token} {w v : Word}
    → LacksFirst tokens w → LacksFirst tokens v
    → ((x : Word) (left : ℕ) (code : FaultCode) (ps : List WordAhead) (ss : List Symbol) → (x ≢ w) × (x ≢ v)
    → read (s ∷ (from ++ ss)) (headed x left code ps) ≡ read (u ∷ (to ++ ss)) (headed x left code ps))
    → Alike (s ∷ from) (u ∷ to) tokens
alike_neither {w = w} {v} h g is =
    alike_where (λ x. (x ≢ w) × (x ≢ v)) (λ p ps e. (h.by p ps e, g.by p ps e)) is

pub fails_alike : {from to : List Symbol} {tokens : List Token} {e : ParseError} → Alike from to tokens
    → Fails to tokens e → Fails from tokens e
fails_alike {e = e} is f = record { by = λ ss. at_along e _ _ (is.by ss) (f.by ss) }

pub read_alike : {before words : List Word} {from by to : List Symbol} {tokens rest : List Token}
    → Alike from by tokens → ReadsPart before by tokens words to rest
    → ReadsPart before from tokens words to rest
read_alike is r = record { found = r.found; leads = λ ss. is.by ss ∙ r.leads ss; shorter = r.shorter }

pub read_on : {before words : List Word} {from by to : List Symbol} {tokens rest : List Token}
    → ReadsPart before from tokens words by rest → Alike by to rest
    → ReadsPart before from tokens words to rest
read_on r is = record { found = r.found; leads = λ ss. r.leads ss ∙ is.by ss; shorter = r.shorter }

-- the words may be told in another way
pub read_as : {before words others : List Word} {from to : List Symbol} {tokens rest : List Token}
    → words ≡ others → ReadsPart before from tokens words to rest
    → ReadsPart before from tokens others to rest
read_as {rest = rest} is r =
    record { found = r.found ∙ ap (λ t. t ++ words_at (ahead rest)) is; leads = r.leads; shorter = r.shorter }

-- the first word is read
pub read_first : {from to : List Symbol} {tokens rest : List Token} {w : Word} (x : Word)
    → HasFirst tokens w rest → w ≡ x
    → ((left : ℕ) (code : FaultCode) (ps : List WordAhead) (ss : List Symbol)
    → read (from ++ ss) (headed x left code ps) ≡ read (to ++ ss) ps)
    → ReadsPart [] from tokens (x ∷ []) to rest
read_first {from} {to} {tokens} {rest} {w} x h same is = record {
  found = ap words_at h.found ∙ ap (λ y. y ∷ words_at (ahead rest)) same;
  leads = λ ss. ap (read (from ++ ss)) h.found
      ∙ ap (λ y. read (from ++ ss) (headed y (left_in tokens) (code_in tokens) (ahead rest))) same
      ∙ is (left_in tokens) (code_in tokens) (ahead rest) ss;
  shorter = let s = h.shorter in omega (arith, s);
}

-- a part and the part after it
pub read_then : (b c : List Symbol) {before words more : List Word} {from to : List Symbol}
    {tokens middle rest : List Token} → ReadsPart before from tokens words (b ++ c) middle
    → ReadsPart [] b middle more to rest → ReadsPart before from tokens (words ++ more) (to ++ c) rest
read_then b c {before} {words} {more} {from} {to} {tokens} {middle} {rest} p q = record {
  found = p.found ∙ ap (λ t. words ++ t) q.found ∙ sym (append_assoc words more (words_at (ahead rest)));
  leads = λ ss. p.leads ss ∙ ap (λ l. read l (ahead middle)) (append_assoc b c ss) ∙ q.leads (c ++ ss)
      ∙ ap (λ l. read l (ahead rest)) (sym (append_assoc to c ss));
  shorter = let s = p.shorter in let t = q.shorter in omega (arith, s, t);
}

-- a part before other symbols
pub read_more : (b c : List Symbol) {before words : List Word} {to : List Symbol} {tokens rest : List Token}
    → ReadsPart before b tokens words to rest → ReadsPart before (b ++ c) tokens words (to ++ c) rest
read_more b c {to = to} {tokens} {rest} r = record {
  found = r.found;
  leads = λ ss. ap (λ l. read l (ahead tokens)) (append_assoc b c ss) ∙ r.leads (c ++ ss)
      ∙ ap (λ l. read l (ahead rest)) (sym (append_assoc to c ss));
  shorter = r.shorter;
}

pub fails_more : (b c : List Symbol) {tokens : List Token} {e : ParseError} → Fails b tokens e
    → Fails (b ++ c) tokens e
fails_more b c {tokens} {e} f =
    record {
      by = λ ss. at_along e _ _ (ap (λ l. read l (ahead tokens)) (append_assoc b c ss)) (f.by (c ++ ss));
    }

-- a part that is spelled with the word before it
pub read_after : (b c : List Symbol) (words : List Word) (x : Word) {before more : List Word}
    {from to : List Symbol} {tokens middle rest : List Token}
    → ReadsPart before from tokens (words ++ x ∷ []) (b ++ c) middle
    → ReadsPart (x ∷ []) b middle more to rest → ReadsPart before from tokens (words ++ more) (to ++ c) rest
read_after b c words x {before} {more} {from} {to} {tokens} {middle} {rest} p q = record {
  found = p.found ∙ append_assoc words (x ∷ []) (words_at (ahead middle)) ∙ ap (λ t. words ++ t) q.found
      ∙ sym (append_assoc words more (words_at (ahead rest)));
  leads = λ ss. p.leads ss ∙ ap (λ l. read l (ahead middle)) (append_assoc b c ss) ∙ q.leads (c ++ ss)
      ∙ ap (λ l. read l (ahead rest)) (sym (append_assoc to c ss));
  shorter = let s = p.shorter in let t = q.shorter in omega (arith, s, t);
}

-- where reading went on to other symbols and failed there
pub fails_then : (b c : List Symbol) {before words : List Word} {from : List Symbol}
    {tokens rest : List Token} {e : ParseError} → ReadsPart before from tokens words (b ++ c) rest
    → Fails b rest e → Fails from tokens e
fails_then b c {rest = rest} {e = e} r f = record {
  by = λ ss. at_along e _ _ (r.leads ss ∙ ap (λ l. read l (ahead rest)) (append_assoc b c ss))
      (f.by (c ++ ss));
}

-- the symbol of a mark takes it
pub takes_mark : (m : Mark) (left : ℕ) (code : FaultCode) (ps : List WordAhead) (ss : List Symbol)
    → read (OfMark m ∷ ss) (headed (Fixed m) left code ps) ≡ read ss ps
takes_mark m left code ps ss =
    ap (λ b. go (cond b (Some []) None) (λ symbols. read (symbols ++ ss) ps) (Err (errors.Stuck left code)))
    (eq-eqb (place_of m) (place_of m) refl)

-- a mark told by another name
pub part_along : {m k : Mark} {tokens rest : List Token} → m ≡ k
    → IsPart (OfMark m) tokens (Fixed m ∷ []) rest → IsPart (OfMark k) tokens (Fixed k ∷ []) rest
part_along {tokens = tokens} {rest} is r = subst (λ m. IsPart (OfMark m) tokens (Fixed m ∷ []) rest) is r

pub fails_along : {m k : Mark} {tokens : List Token} {e : ParseError} → m ≡ k → Fails (OfMark m ∷ []) tokens e
    → Fails (OfMark k ∷ []) tokens e
fails_along {tokens = tokens} {e} is f = subst (λ m. Fails (OfMark m ∷ []) tokens e) is f

-- a part after a word
pub read_after_word : (x : Word) {words : List Word} {from to : List Symbol} {tokens rest : List Token}
    → ReadsPart [] from tokens words to rest → ReadsPart (x ∷ []) from tokens (x ∷ words) to rest
read_after_word x r =
    record {
      found = ap (λ t. x ∷ t) r.found;
      leads = r.leads;
      shorter = let s = r.shorter in omega (arith, s);
    }

-- what a test for a mark says
pub not_mark : {r : Bool} {w : Word} {m : Mark} → IsTrue r ↔ (w ≡ Fixed m) → r ≡ false → w ≢ Fixed m
not_mark both off is = let on = both.1 is in cc

-- what holds of a value that is given back
pub ok_of : {T E Q : Type 0} (P : T → Type 0) (r : Result T E) (value : T) → IfOk r (λ x. x ≡ value)
    → IfOk r (λ x. Q) → (Q → P value) → IfOk r P
ok_of P (Ok x) value is q p = subst P (sym is) (p q)
ok_of P (Err e) value is q p = tt

-- no two marks have one place in the table
mark_at : ℕ → Mark
mark_at n = get_or (map (λ entry. entry.1) spellings) n marks.Bool

mark_at_place : (m : Mark) → mark_at (place_of m) ≡ m
unfolding mark_at
mark_at_place marks.Bool = refl
mark_at_place m = refl

pub one_place : (m k : Mark) → nat_eq (place_of m) (place_of k) ≡ true → m ≡ k
one_place m k is = sym (mark_at_place m) ∙ ap mark_at (eqb-true (place_of m) (place_of k) is)
    ∙ mark_at_place k

-- the symbol of a mark takes no other word
other_taken : (m k : Mark) (b : Bool) → b ≡ nat_eq (place_of m) (place_of k) → Fixed k ≢ Fixed m
    → (left : ℕ) (code : FaultCode) (ps : List WordAhead) (ss : List Symbol)
    → go (cond b (Some []) None) (λ symbols. read (symbols ++ ss) ps) (Err (errors.Stuck left code))
    ≡ Err (errors.Stuck left code)
other_taken m k false is other left code ps ss = refl
other_taken m k true is other left code ps ss = absurd (other (ap Fixed (sym (one_place m k (sym is)))))

takes_no_other : (m : Mark) (w : Word) (left : ℕ) (code : FaultCode) (ps : List WordAhead) (ss : List Symbol)
    → w ≢ Fixed m → read (OfMark m ∷ ss) (headed w left code ps) ≡ Err (errors.Stuck left code)
takes_no_other m (Fixed k) left code ps ss other =
    other_taken m k (nat_eq (place_of m) (place_of k)) refl other left code ps ss
takes_no_other m w left code ps ss other = refl

pub stuck_other : {tokens rest : List Token} {w : Word} {m : Mark} (e : ParseError) → HasFirst tokens w rest
    → w ≢ Fixed m → e ≡ errors.Stuck (left_in tokens) (code_in tokens) → Fails (OfMark m ∷ []) tokens e
stuck_other {tokens} {rest} {w} {m} e first other is =
    subst (λ x. Fails (OfMark m ∷ []) tokens x) (sym is)
    (record {
      by = λ ss. ap (read (OfMark m ∷ ss)) first.found
          ∙ takes_no_other m w (left_in tokens) (code_in tokens) (ahead rest) ss other;
    })

-- what a word says of the first word
pub split_first : {tokens rest : List Token} {token : Token} {m : Mark} → IsSplit tokens token rest
    → word_of (lexeme token) ≡ Fixed m → HasFirst tokens (Fixed m) rest
split_first {tokens} {rest} h is = record {
  found = h.all ∙ ap (λ w. headed w (left_in tokens) (code_in tokens) (ahead rest)) is;
  shorter = h.shorter;
}

pub split_other : {tokens rest : List Token} {token : Token} {m : Mark} → IsSplit tokens token rest
    → word_of (lexeme token) ≢ Fixed m → LacksFirst tokens (Fixed m)
split_other {tokens} {rest} {token} {m} h not = record {
  by = λ p ps e is. let all = sym h.all ∙ e in let same : word_of (lexeme token) ≡ p.word = cc in
      not (same ∙ is);
}

pub split_none : {tokens : List Token} {m : Mark} → ahead tokens ≡ [] → LacksFirst tokens (Fixed m)
split_none h = record { by = λ p ps e is. let never = sym h ∙ e in cc }
