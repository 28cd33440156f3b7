-- An item has one parse.
use Rattle.std.proofs.Common.{◌≡◌, ◌≢◌, true, ℕ, List, [], ◌∷◌, ◌++◌, length, refl, ap, sym, ◌∙◌, subst}
use Rattle.std.proofs.Common.{append_assoc, inl, inr}
use Rattle.std.proofs.lemmas.List.{append-nil}
use Rattle.x_lex.specs.Places.{Lexeme}
use Rattle.x_trees.specs.Words.{Word, word_of, words_of, is_significant}
use Rattle.x_trees.specs.Tree as tree
use Rattle.x_trees.specs.Tree.{Definition}
use Rattle.x_trees.specs.Spell.{spell, KeepsLimits, Begins}
use Rattle.x_parser.specs.Stuck.{IsStuck, code_of}
use Rattle.x_item.specs.Parse.{Parse, Nothing, Def, Fault, IsParse, IsLastWord}
use Rattle.x_parser.specs.declared.fault_code.FaultCode.{FaultCode}
use Rattle.x_parser.proofs.WordLemmas.{words_of-append, words_of-word}
use Rattle.x_parser.proofs.SpellingLaws.{one_spelling}

same_head : {A : Type 0} {x y : A} {a b : List A} → x ∷ a ≡ y ∷ b → x ≡ y
same_head e = cc

same_tail : {A : Type 0} {x y : A} {a b : List A} → x ∷ a ≡ y ∷ b → a ≡ b
same_tail e = cc

-- two ways to cut a list at one of its elements: at the same, or the one before the other
data Order (a : List Lexeme) (t : Lexeme) (b c : List Lexeme) (u : Lexeme) (d : List Lexeme) : Type 0 where
  Same : a ≡ c → t ≡ u → b ≡ d → Order a t b c u d
  First : (between : List Lexeme) → c ≡ a ++ t ∷ between → b ≡ between ++ u ∷ d → Order a t b c u d
  Second : (between : List Lexeme) → a ≡ c ++ u ∷ between → d ≡ between ++ t ∷ b → Order a t b c u d

later : (x y : Lexeme) (a : List Lexeme) (t : Lexeme) (b c : List Lexeme) (u : Lexeme) (d : List Lexeme)
    → x ≡ y → Order a t b c u d → Order (x ∷ a) t b (y ∷ c) u d
later x y a t b c u d is (Same p q r) = Same (ap (λ z. z ∷ a) is ∙ ap (λ l. y ∷ l) p) q r
later x y a t b c u d is (First m p q) = First m (ap (λ l. y ∷ l) p ∙ ap (λ z. z ∷ (a ++ t ∷ m)) (sym is)) q
later x y a t b c u d is (Second m p q) = Second m (ap (λ l. x ∷ l) p ∙ ap (λ z. z ∷ (c ++ u ∷ m)) is) q

order : (a : List Lexeme) (t : Lexeme) (b c : List Lexeme) (u : Lexeme) (d : List Lexeme)
    → a ++ t ∷ b ≡ c ++ u ∷ d → Order a t b c u d
order [] t b [] u d e = Same refl (same_head e) (same_tail e)
order [] t b (y ∷ c) u d e = First c (ap (λ z. z ∷ c) (sym (same_head e))) (same_tail e)
order (x ∷ a) t b [] u d e = Second a (ap (λ z. z ∷ a) (same_head e)) (sym (same_tail e))
order (x ∷ a) t b (y ∷ c) u d e = later x y a t b c u d (same_head e) (order a t b c u d (same_tail e))

words_cut : (a : List Lexeme) (t : Lexeme) (b : List Lexeme) → is_significant t.kind ≡ true
    → words_of (a ++ t ∷ b) ≡ words_of a ++ word_of t ∷ words_of b
words_cut a t b is = words_of-append a (t ∷ b) ∙ ap (λ ws. words_of a ++ ws) (words_of-word t b is)

not_empty : (a : List Word) (w : Word) (b : List Word) → a ++ w ∷ b ≢ []
not_empty [] w b e = cc
not_empty (x ∷ a) w b e = cc

begins_front : (a : List Word) (w : Word) (b : List Word) → Begins (a ++ w ∷ b) → Begins (a ++ w ∷ [])
begins_front a w b h =
    (h.0, h.1, b ++ h.2, h.3 ∙ append_assoc a (w ∷ b) h.2 ∙ sym (append_assoc a (w ∷ []) (b ++ h.2)))

-- at a word with which the words begin nothing
front_of_item : (item : List Lexeme) (at : ℕ) (code : FaultCode) (h : IsStuck item at code)
    → words_of item ≡ words_of h.front ++ word_of h.token ∷ words_of h.rear
front_of_item item at code h = ap words_of h.parts ∙ words_cut h.front h.token h.rear h.is_word

no_words_stuck : (item : List Lexeme) (at : ℕ) (code : FaultCode) → words_of item ≡ []
    → IsStuck item at code → ⊥
no_words_stuck item at code none h =
    not_empty (words_of h.front) (word_of h.token) (words_of h.rear)
    (sym (front_of_item item at code h) ∙ none)

no_words_last : (item : List Lexeme) (at : ℕ) → words_of item ≡ [] → IsLastWord item at → ⊥
no_words_last item at none h =
    not_empty (words_of h.front) (word_of h.token) (words_of h.rear)
    (sym (ap words_of h.parts ∙ words_cut h.front h.token h.rear h.is_word) ∙ none)

begins_stuck : (item : List Lexeme) (at : ℕ) (code : FaultCode) → Begins (words_of item)
    → IsStuck item at code → ⊥
begins_stuck item at code b h =
    h.here (begins_front (words_of h.front) (word_of h.token) (words_of h.rear)
    (subst Begins (front_of_item item at code h) b))

whole_begins : (item : List Lexeme) (d : Definition) → KeepsLimits d → spell d ≡ words_of item
    → Begins (words_of item)
whole_begins item d fits is = (d, fits, [], is ∙ sym (append-nil (words_of item)))

abbrev same_fault : ℕ → FaultCode → ℕ → FaultCode → Type 0
same_fault i c j e = let p : Parse = Fault i c in p ≡ Fault j e

fault_is : (i : ℕ) (c : FaultCode) (j : ℕ) (e : FaultCode) → i ≡ j → c ≡ e → same_fault i c j e
fault_is i c j e p q = ap (λ n. Fault n c) p ∙ ap (λ x. Fault j x) q

-- a first word that is stuck comes before no other
stuck_first : (item : List Lexeme) (i : ℕ) (c : FaultCode) (h : IsStuck item i c)
    (front between : List Lexeme) → front ≡ h.front ++ h.token ∷ between → Begins (words_of front) → ⊥
stuck_first item i c h front between is b =
    h.here (begins_front (words_of h.front) (word_of h.token) (words_of between)
    (subst Begins (ap words_of is ∙ words_cut h.front h.token between h.is_word) b))

one_stuck : (item : List Lexeme) (i : ℕ) (c : FaultCode) (j : ℕ) (e : FaultCode) → IsStuck item i c
    → IsStuck item j e → same_fault i c j e
one_stuck item i c j e h k =
    by_order (order h.front h.token h.rear k.front k.token k.rear (sym h.parts ∙ k.parts))
  where
    by_order : Order h.front h.token h.rear k.front k.token k.rear → same_fault i c j e
    by_order (Same p q r) = fault_is i c j e (h.place ∙ ap length p ∙ sym k.place)
        (h.by_kind ∙ ap (λ (t : Lexeme). code_of t.kind) q ∙ sym k.by_kind)
    by_order (First m p q) = absurd (stuck_first item i c h k.front m p k.before)
    by_order (Second m p q) = absurd (stuck_first item j e k h.front m p h.before)

-- behind the last word there is none
last_only : (rear between : List Lexeme) (t : Lexeme) (behind : List Lexeme) → words_of rear ≡ []
    → rear ≡ between ++ t ∷ behind → is_significant t.kind ≡ true → ⊥
last_only rear between t behind none is word =
    not_empty (words_of between) (word_of t) (words_of behind)
    (sym (ap words_of is ∙ words_cut between t behind word) ∙ none)

one_last : (item : List Lexeme) (i j : ℕ) → IsLastWord item i → IsLastWord item j → i ≡ j
one_last item i j h k = by_order (order h.front h.token h.rear k.front k.token k.rear (sym h.parts ∙ k.parts))
  where
    by_order : Order h.front h.token h.rear k.front k.token k.rear → i ≡ j
    by_order (Same p q r) = h.place ∙ ap length p ∙ sym k.place
    by_order (First m p q) = absurd (last_only h.rear m k.token k.rear h.behind q k.is_word)
    by_order (Second m p q) = absurd (last_only k.rear m h.token h.rear k.behind q h.is_word)

one_fault : (item : List Lexeme) (i : ℕ) (c : FaultCode) (j : ℕ) (e : FaultCode) → IsParse item (Fault i c)
    → IsParse item (Fault j e) → same_fault i c j e
one_fault item i c j e (inl h) (inl k) = one_stuck item i c j e h k
one_fault item i c j e (inl h) (inr k) = absurd (begins_stuck item i c k.begins h)
one_fault item i c j e (inr h) (inl k) = absurd (begins_stuck item j e h.begins k)
one_fault item i c j e (inr h) (inr k) =
    fault_is i c j e (one_last item i j h.last k.last) (h.unfinished ∙ sym k.unfinished)

nothing_or_fault : (item : List Lexeme) (i : ℕ) (c : FaultCode) → words_of item ≡ []
    → IsParse item (Fault i c) → ⊥
nothing_or_fault item i c none (inl h) = no_words_stuck item i c none h
nothing_or_fault item i c none (inr h) = no_words_last item i none h.last

def_or_fault : (item : List Lexeme) (d : Definition) (i : ℕ) (c : FaultCode) → IsParse item (Def d)
    → IsParse item (Fault i c) → ⊥
def_or_fault item d i c is (inl h) = begins_stuck item i c (whole_begins item d is.0 is.1) h
def_or_fault item d i c is (inr h) = h.no_whole d is.0 is.1

some_spelling : (d : Definition) → spell d ≢ []
some_spelling (tree.Const name value) e = cc
some_spelling (tree.Typedef d) e = cc
some_spelling (tree.NewType name body) e = cc
some_spelling (tree.Program name versions number) e = cc

pub one_parse : (item : List Lexeme) (p q : Parse) → IsParse item p → IsParse item q → p ≡ q
one_parse item Nothing Nothing h k = refl
one_parse item Nothing (Def d) h k = absurd (some_spelling d (k.1 ∙ h))
one_parse item Nothing (Fault i c) h k = absurd (nothing_or_fault item i c h k)
one_parse item (Def d) Nothing h k = absurd (some_spelling d (h.1 ∙ k))
one_parse item (Def d) (Def e) h k = ap Def (one_spelling d e h.0 k.0 (h.1 ∙ sym k.1))
one_parse item (Def d) (Fault i c) h k = absurd (def_or_fault item d i c h k)
one_parse item (Fault i c) Nothing h k = absurd (nothing_or_fault item i c k h)
one_parse item (Fault i c) (Def d) h k = absurd (def_or_fault item d i c k h)
one_parse item (Fault i c) (Fault j e) h k = one_fault item i c j e h k
