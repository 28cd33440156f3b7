-- Items that are parsed one after another.
use Rattle.std.proofs.Common.{◌≡◌, ℕ, zero, suc, ◌+◌, ◌<◌, ◌≤◌, inl, inr, Bool, true, false, List, [], ◌∷◌}
use Rattle.std.proofs.Common.{◌++◌, length, take, drop, filter, Some, lit<, ◌^◌, refl, ap, sym, ◌∙◌, subst}
use Rattle.std.proofs.Common.{append_assoc, arith}
use Rattle.std.specs.Prelude.{slice_get}
use Rattle.std.proofs.lemmas.List.{length_push, length-append, length-map}
use Rattle.std.proofs.lemmas.List.Sums.{length-filter, count_by-le-length}
use Rattle.std.proofs.lemmas.Option.{same_Some}
use Rattle.std.proofs.Math.Seq.{take-append_seam, drop-append_seam}
use Rattle.x_text.specs.Counts.{Counts}
use Rattle.x_streams.specs.Counters.{raised}
use Rattle.x_lex.specs.Places.{Lexeme}
use Rattle.x_text.specs.declared.text.source.TheConstants.{MAX_TEXT}
use Rattle.x_trees.specs.Tree.{Definition}
use Rattle.x_trees.specs.Spell.{spell}
use Rattle.x_trees.specs.Words.{word_of, words_of, is_significant}
use Rattle.x_item.specs.Parse.{Parse, Nothing, Def, Fault, IsParse}
use Rattle.x_cutting.specs.Items.{joined, AreWhole, IsNext}
use Rattle.x_parser.specs.declared.fault_code.FaultCode.{FaultCode}
use Rattle.x_cutting.proofs.ItemListLemmas.{joined_push, whole_push}
use Rattle.x_names.specs.Declarers.{AreShort}
use Rattle.x_compile.specs.Compile.{parsed_definition}
use Rattle.x_cutting.specs.ItemList.{AreOfText, counts, total}
use Rattle.x_cutting.specs.declared.cutting.item_entry.ItemEntry.{ItemEntry}
use Rattle.x_compile.specs.KeptView.{IsItem, kept_parse, kept_definition, entry_definitions, AreEach}
use Rattle.x_compile.specs.KeptView.{AreParsed}
use Rattle.x_compile.specs.declared.content.Content.{Content}

each_push : (parts : List (List Lexeme)) (items : List (ItemEntry Content)) (part : List Lexeme)
    (item : ItemEntry Content) → AreEach parts items → IsItem part item
    → AreEach (parts ++ part ∷ []) (items ++ item ∷ [])
each_push [] [] part item each this = (this, tt)
each_push [] (x ∷ items) part item each this = absurd each
each_push (p ∷ parts) [] part item each this = absurd each
each_push (p ∷ parts) (x ∷ items) part item each this = (each.0, each_push parts items part item each.1 this)

pub take_part : (part rest : List Lexeme) (n : ℕ) → n ≡ length part → take n (part ++ rest) ≡ part
take_part part rest n e = ap (λ k. take k (part ++ rest)) e ∙ take-append_seam part rest

pub drop_part : (part rest : List Lexeme) (n : ℕ) → n ≡ length part → drop n (part ++ rest) ≡ rest
drop_part part rest n e = ap (λ k. drop k (part ++ rest)) e ∙ drop-append_seam part rest

-- whole items of the first tokens are parsed, and those of `left` are not yet
pub record AreParsedSoFar (all left : List Lexeme) (items : List (ItemEntry Content)) : Type 0 where
  pub done : List (List Lexeme)
  pub split : joined done ++ left ≡ all
  pub whole : AreWhole done
  pub each : AreEach done items

-- the same where items are left, and all are parsed where none is
abbrev pub Parsing : Bool → List Lexeme → List Lexeme → List (ItemEntry Content) → Type 0
Parsing true all left items = AreParsedSoFar all left items
Parsing false all left items = AreParsed all items

pub parsing_none : (all left : List Lexeme) → left ≡ all → Parsing true all left []
parsing_none all left is = record { done = []; split = is; whole = tt; each = tt }

split_more : (done : List (List Lexeme)) (part left left' all : List Lexeme) → left ≡ part ++ left'
    → joined done ++ left ≡ all → joined (done ++ part ∷ []) ++ left' ≡ all
split_more done part left left' all is split =
    ap (λ l. l ++ left') (joined_push done part) ∙ append_assoc (joined done) part left'
    ∙ ap (λ l. joined done ++ l) (sym is) ∙ split

-- one item more
pub parsing_more : (whole : Bool) (all left part left' : List Lexeme) (items : List (ItemEntry Content))
    (item : ItemEntry Content) → Parsing true all left items → IsNext whole left part left' → IsItem part item
    → Parsing whole all left' (items ++ item ∷ [])
parsing_more true all left part left' items item h next this = record {
  done = h.done ++ part ∷ [];
  split = split_more h.done part left left' all next.1 h.split;
  whole = whole_push h.done part h.whole next.0;
  each = each_push h.done items part item h.each this;
}
parsing_more false all left part left' items item h next this = record {
  parts = h.done ++ part ∷ [];
  are = record {
    whole = h.done;
    last = part;
    parts = refl;
    all = joined_push h.done part ∙ ap (λ l. joined h.done ++ l) (sym next.1) ∙ h.split;
    each = h.whole;
    rest = next.0;
  };
  each = each_push h.done items part item h.each this;
}

-- a part is no longer than what was left, and what is left then is shorter, or nothing
pub part_short : (whole : Bool) (left part left' : List Lexeme) → IsNext whole left part left'
    → length part ≤ length left
part_short true left part left' next = let l = ap length next.1 ∙ length-append part left' in omega (arith, l)
part_short false left part left' next = let l = ap length next.1 in omega (arith, l)

pub rest_short : (whole : Bool) (left part left' : List Lexeme) → IsNext whole left part left'
    → length left' ≤ length left
rest_short true left part left' next = let l = ap length next.1 ∙ length-append part left' in omega (arith, l)
rest_short false left part left' next = let l = ap length next.2 in omega (arith, l)

-- how many steps are left at the most
abbrev pub steps_left : Bool → List Lexeme → ℕ
steps_left true left = length left + 1
steps_left false left = 0

pub fewer_steps : (whole : Bool) (left part left' : List Lexeme) → IsNext whole left part left'
    → steps_left whole left' < steps_left true left
fewer_steps true left part left' next =
    let l = ap length next.1 ∙ length-append part left' in
    let w = next.0 in
    let p = ap length w.parts ∙ length_push w.front w.token in
    omega (arith, l, p)
fewer_steps false left part left' next = omega arith

same_many : (parts : List (List Lexeme)) (items : List (ItemEntry Content)) → AreEach parts items
    → length items ≡ length parts
same_many [] [] each = refl
same_many [] (x ∷ items) each = absurd each
same_many (p ∷ parts) [] each = absurd each
same_many (p ∷ parts) (x ∷ items) each = ap suc (same_many parts items each.1)

many_tokens : (whole : List (List Lexeme)) → AreWhole whole → length whole ≤ length (joined whole)
many_tokens [] each = omega arith
many_tokens (part ∷ whole) each =
    let w = each.0 in
    let p = ap length w.parts ∙ length_push w.front w.token in
    let l = length-append part (joined whole) in
    let h = many_tokens whole each.1 in
    omega (arith, p, l, h)

-- there is an item
pub some_items : (all : List Lexeme) (items : List (ItemEntry Content)) → AreParsed all items
    → 0 < length items
some_items all items h =
    let same = same_many h.parts items h.each in
    let parts = ap length h.are.parts ∙ length_push h.are.whole h.are.last in
    omega (arith, same, parts)

-- there is at most one item more than there are tokens
pub few_items : (all : List Lexeme) (items : List (ItemEntry Content)) → AreParsed all items
    → length items ≤ length all + 1
few_items all items h =
    let same = same_many h.parts items h.each in
    let parts = ap length h.are.parts ∙ length_push h.are.whole h.are.last in
    let tokens = ap length (sym h.are.all) ∙ ap (λ ps. length (joined ps)) h.are.parts
    ∙ ap length (joined_push h.are.whole h.are.last) ∙ length-append (joined h.are.whole) h.are.last in
    let many = many_tokens h.are.whole h.are.each in
    omega (arith, same, parts, tokens, many)

total_tokens : (parts : List (List Lexeme)) (items : List (ItemEntry Content)) → AreEach parts items
    → total (counts items) ≡ length (joined parts)
total_tokens [] [] each = refl
total_tokens [] (x ∷ items) each = absurd each
total_tokens (p ∷ parts) [] each = absurd each
total_tokens (p ∷ parts) (x ∷ items) each =
    let first = each.0.count in
    let others = total_tokens parts items each.1 in
    let l = length-append p (joined parts) in
    omega (arith, first, others, l)

-- the items are no more than a text can have
pub items_of_text : (all : List Lexeme) (items : List (ItemEntry Content)) → AreParsed all items
    → length all ≤ MAX_TEXT → AreOfText (counts items)
items_of_text all items h short =
    let same = length-map items (λ e. e.tokens) in
    let some = some_items all items h in
    let few = few_items all items h in
    let tokens = total_tokens h.parts items h.each ∙ ap length h.are.all in
    record {
      some = omega (arith, same, some);
      few = omega (arith, same, few, short);
      short = omega (arith, tokens, short);
    }

-- a fault stands at a token of the item
pub fault_within : (tokens : List Lexeme) (token : ℕ) (code : FaultCode) → IsParse tokens (Fault token code)
    → token ≤ length tokens
fault_within tokens token code (inl h) =
    let at = h.place in let l = length-append h.front (h.token ∷ h.rear) in let all = ap length h.parts in
    omega (arith, at, l, all)
fault_within tokens token code (inr h) =
    let at = h.last.place in let l = length-append h.last.front (h.last.token ∷ h.last.rear) in
    let all = ap length h.last.parts in omega (arith, at, l, all)

-- a meter that has counted so many items
abbrev pub HasCounted : Counts → Counts → ℕ → Type 0
HasCounted old new zero = new ≡ old
HasCounted old new (suc n) = new ≡ record old { parsed = raised old.parsed (suc n) }

-- the same, of one item more
counted_on : (old new next : Counts) (n : ℕ) → HasCounted old new n
    → next ≡ record new { parsed = raised new.parsed 1 }
    → next ≡ record old { parsed = raised old.parsed (suc n) }
counted_on old new next zero h is = is
    ∙ ap (λ (c : Counts). let d : Counts = record c { parsed = raised c.parsed 1 } in d) h
counted_on old new next (suc n) h is =
    let more : raised (raised old.parsed (suc n)) 1 ≡ raised old.parsed (suc (suc n)) = omega arith in
    is ∙ ap (λ (c : Counts). let d : Counts = record c { parsed = raised c.parsed 1 } in d) h
    ∙ ap (λ k. let d : Counts = record old { parsed = k } in d) more

pub counted_push : (old new next : Counts) (items : List (ItemEntry Content)) (item : ItemEntry Content)
    → HasCounted old new (length items) → next ≡ record new { parsed = raised new.parsed 1 }
    → HasCounted old next (length (items ++ item ∷ []))
counted_push old new next items item h is =
    subst (HasCounted old next) (sym (length_push items item))
    (let n : length items + 1 ≡ suc (length items) = omega arith in
    subst (HasCounted old next) (sym n) (counted_on old new next (length items) h is))

pub counted_all : (old new : Counts) (n : ℕ) → 0 < n → HasCounted old new n
    → new ≡ record old { parsed = raised old.parsed n }
counted_all old new zero some h = absurd (omega (arith, some))
counted_all old new (suc n) some h = h

-- ---- definitions are short

fewer_words : (tokens : List Lexeme) → length (words_of tokens) ≤ length tokens
fewer_words tokens =
    let a = length-map (filter (λ t. is_significant t.kind) tokens) word_of in
    let b = length-filter (λ t. is_significant t.kind) tokens in
    let c = count_by-le-length (λ t. is_significant t.kind) tokens in
    omega (arith, a, b, c)

short_parse : (part : List Lexeme) (p : Parse) (d : Definition) → IsParse part p
    → parsed_definition p ≡ Some d → length (spell d) ≤ length part
short_parse part Nothing d parsed is = absurd (cc)
short_parse part (Def e) d parsed is =
    let same : e ≡ d = same_Some e d is in
    let words = ap length (ap spell (sym same) ∙ parsed.1) in
    let few = fewer_words part in
    omega (arith, words, few)
short_parse part (Fault token code) d parsed is = absurd (cc)

short_each : (parts : List (List Lexeme)) (items : List (ItemEntry Content)) (index : ℕ) (d : Definition)
    → AreEach parts items → slice_get (entry_definitions items) index ≡ Some (Some d)
    → length (spell d) ≤ length (joined parts)
short_each [] [] index d each is = absurd (cc)
short_each [] (x ∷ items) index d each is = absurd each
short_each (p ∷ parts) [] index d each is = absurd each
short_each (p ∷ parts) (x ∷ items) zero d each is =
    let here = short_parse p (kept_parse x.kept) d each.0.parsed
    (same_Some (kept_definition x.kept) (Some d) is) in
    let l = length-append p (joined parts) in
    omega (arith, here, l)
short_each (p ∷ parts) (x ∷ items) (suc index) d each is =
    let there = short_each parts items index d each.1 is in
    let l = length-append p (joined parts) in
    omega (arith, there, l)

most_words : MAX_TEXT < 2 ^ 64
most_words = lit< tt

-- no definition has as many words as a text may have bytes, and one more
pub short_items : (all : List Lexeme) (items : List (ItemEntry Content)) → AreParsed all items
    → length all ≤ MAX_TEXT → AreShort (entry_definitions items)
short_items all items h few index d is =
    let words = short_each h.parts items index d h.each is in
    let tokens = ap length h.are.all in
    let most = most_words in
    omega (arith, words, tokens, few, most)
