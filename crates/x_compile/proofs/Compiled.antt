-- What compiling gives, by what the program keeps of it.
use Rattle.std.proofs.Common.{◌≡◌, ℕ, true, suc, ◌+◌, List, [], ◌∷◌, Option, map, length, take, drop, refl}
use Rattle.std.proofs.Common.{sym, ap, subst, ◌∙◌}
use Rattle.std.specs.Prelude.{slice_get, option_and_then}
use Rattle.x_lex.specs.declared.kind.Kind.{Kind}
use Rattle.x_lex.specs.Places.{Lexeme, lexemes_from, lexemes}
use Rattle.x_lex.specs.Tiling.{AreTokens}
use Rattle.x_lex.proofs.TilingLemmas.{same_tiles}
use Rattle.x_item.specs.Parse.{IsParse}
use Rattle.x_cutting.specs.Items.{AreItems, joined, IsCut}
use Rattle.x_item.proofs.ParseLaws.{one_parse}
use Rattle.x_cutting.proofs.CuttingLemmas.{same_cut}
use Rattle.x_rules.specs.Results.{AreResults}
use Rattle.x_uses.specs.Occurrences.{UseTable}
use Rattle.x_rules.proofs.ResultLaws.{one_results}
use Rattle.x_cutting.specs.declared.cutting.item_entry.ItemEntry.{ItemEntry}
use Rattle.x_compile.specs.KeptView.{AreEach, AreParsed, entry_definitions, entry_results, found_result}
use Rattle.x_compile.specs.KeptView.{items_with}
use Rattle.x_compile.specs.KeptView.{kept_definition, kept_found, kept_parse}
use Rattle.x_compile.proofs.ItemLemmas.{take_part, drop_part}
use Rattle.x_compile.specs.Compile.{Item, parsed_definition, definitions_of, definition_at, tokens_of}
use Rattle.x_compile.specs.Compile.{IsCompilation, AreParses}
use Rattle.x_compile.specs.KeptText.{IsKept, items_of}
use Rattle.x_compile.specs.Known.{KnownText, known_names}
use Rattle.x_compile.specs.declared.content.Content.{Content}

pub length-lexemes : (text : List ℕ) (at : ℕ) (ts : List (Kind × ℕ))
    → length (lexemes_from text at ts) ≡ length ts
length-lexemes text at [] = refl
length-lexemes text at (t ∷ ts) = ap suc (length-lexemes text (at + t.1) ts)

pub length-items : (tokens : List Lexeme) (entries : List (ItemEntry Content))
    → length (items_with tokens entries) ≡ length entries
length-items tokens [] = refl
length-items tokens (e ∷ es) = ap suc (length-items (drop e.tokens tokens) es)

pub definitions-items : (tokens : List Lexeme) (entries : List (ItemEntry Content))
    → definitions_of (items_with tokens entries) ≡ entry_definitions entries
definitions-items tokens [] = refl
definitions-items tokens (e ∷ es) =
    ap (λ ds. kept_definition e.kept ∷ ds) (definitions-items (drop e.tokens tokens) es)

-- the results are those that are kept
pub results-items : (tokens : List Lexeme) (entries : List (ItemEntry Content))
    → map (λ i. i.result) (items_with tokens entries) ≡ entry_results entries
results-items tokens [] = refl
results-items tokens (e ∷ es) =
    ap (λ os. found_result (kept_found e.kept) ∷ os) (results-items (drop e.tokens tokens) es)

pub tokens_are : (known : KnownText) (text : List ℕ) (tokens : List (Kind × ℕ)) (items : List Item)
    → IsCompilation known text tokens items → tokens_of items ≡ lexemes text tokens
tokens_are known text tokens items h = h.are_items.all

-- a definition by its index
pub definition_found : (tokens : List Lexeme) (entries : List (ItemEntry Content)) (index : ℕ)
    → option_and_then (λ d. d) (slice_get (entry_definitions entries) index)
    ≡ definition_at (items_with tokens entries) index
definition_found tokens entries index =
    ap (λ ds. option_and_then (λ d. d) (slice_get ds index)) (sym (definitions-items tokens entries))

-- the items by their numbers of tokens are those that were cut
parts_are : (ps : List (List Lexeme)) (entries : List (ItemEntry Content)) (tokens : List Lexeme)
    → joined ps ≡ tokens → AreEach ps entries
    → map (λ i. i.tokens) (items_with tokens entries) ≡ ps
parts_are [] [] tokens e each = refl
parts_are [] (i ∷ is) tokens e each = absurd each
parts_are (p ∷ ps) [] tokens e each = absurd each
parts_are (p ∷ ps) (i ∷ is) tokens e each =
    let first : take i.tokens tokens ≡ p = ap (take i.tokens) (sym e)
    ∙ take_part p (joined ps) i.tokens each.0.count in
    let rest : drop i.tokens tokens ≡ joined ps = ap (drop i.tokens) (sym e)
    ∙ drop_part p (joined ps) i.tokens each.0.count in
    let others = parts_are ps is (drop i.tokens tokens) (sym rest) each.1 in
    λ k. first k ∷ others k

parses_are : (ps : List (List Lexeme)) (entries : List (ItemEntry Content)) (tokens : List Lexeme)
    → joined ps ≡ tokens → AreEach ps entries
    → AreParses (items_with tokens entries)
parses_are [] [] tokens e each = tt
parses_are [] (i ∷ is) tokens e each = absurd each
parses_are (p ∷ ps) [] tokens e each = absurd each
parses_are (p ∷ ps) (i ∷ is) tokens e each =
    let first : take i.tokens tokens ≡ p = ap (take i.tokens) (sym e)
    ∙ take_part p (joined ps) i.tokens each.0.count in
    let rest : drop i.tokens tokens ≡ joined ps = ap (drop i.tokens) (sym e)
    ∙ drop_part p (joined ps) i.tokens each.0.count in (
      subst (λ part. IsParse part (kept_parse i.kept)) (sym first) each.0.parsed,
      parses_are ps is (drop i.tokens tokens) (sym rest) each.1,
    )

compiles : (known : KnownText) (text : List ℕ) (tokens : List (Kind × ℕ)) (entries : List (ItemEntry Content))
    → AreTokens text tokens → AreParsed (lexemes text tokens) entries
    → AreResults (known_names known) (entry_definitions entries) (entry_results entries)
    → IsCompilation known text tokens (items_of text tokens entries)
compiles known text tokens entries are cut results =
    let all = lexemes text tokens in
    record {
      are_tokens = are;
      are_items = subst (λ ps. AreItems all ps)
          (sym (parts_are cut.parts entries all cut.are.all cut.each)) cut.are;
      are_parses = parses_are cut.parts entries all cut.are.all cut.each;
      are_results = subst (λ os. AreResults (known_names known) (definitions_of (items_with all entries)) os)
          (sym (results-items all entries))
          (subst (λ ds. AreResults (known_names known) ds (entry_results entries))
          (sym (definitions-items all entries)) results);
    }

-- what is kept of a text is its compilation
pub compilation : {known : KnownText} {text : List ℕ} {tokens : List (Kind × ℕ)}
    {entries : List (ItemEntry Content)} {faults : ℕ} {uses : Option UseTable}
    → IsKept known text tokens entries faults uses
    → IsCompilation known text tokens (items_of text tokens entries)
compilation {known} {text} {tokens} {entries} h =
    compiles known text tokens entries h.are_tokens h.parsed h.are_results

-- lists of as many elements each, joined to one list, are the same
same_parts : (xs ys : List (List Lexeme)) → map length xs ≡ map length ys → joined xs ≡ joined ys → xs ≡ ys
same_parts [] [] e j = refl
same_parts [] (y ∷ ys) e j = absurd (cc)
same_parts (x ∷ xs) [] e j = absurd (cc)
same_parts (x ∷ xs) (y ∷ ys) e j =
    let count : length x ≡ length y = cc in
    let counts : map length xs ≡ map length ys = cc in
    let first : x ≡ y = sym (take_part x (joined xs) (length y) (sym count)) ∙ ap (take (length y)) j
    ∙ take_part y (joined ys) (length y) refl in
    let rest : joined xs ≡ joined ys = sym (drop_part x (joined xs) (length y) (sym count))
    ∙ ap (drop (length y)) j ∙ drop_part y (joined ys) (length y) refl in
    let others = same_parts xs ys counts rest in
    λ k. first k ∷ others k

-- tokens have one list of items
one_cut : (tokens : List Lexeme) (xs ys : List (List Lexeme)) → AreItems tokens xs
    → AreItems tokens ys → xs ≡ ys
one_cut tokens xs ys h k =
    let left : IsCut tokens (map length xs) = record { items = xs; are = h; lengths = refl } in
    let right : IsCut tokens (map length ys) = record { items = ys; are = k; lengths = refl } in
    same_parts xs ys (same_cut tokens (map length xs) (map length ys) left right) (h.all ∙ sym k.all)

-- items with the same tokens have the same parses
same_parses : (is js : List Item) → map (λ i. i.tokens) is ≡ map (λ i. i.tokens) js → AreParses is
    → AreParses js → map (λ i. i.parse) is ≡ map (λ i. i.parse) js
same_parses [] [] e p q = refl
same_parses [] (j ∷ js) e p q = absurd (cc)
same_parses (i ∷ is) [] e p q = absurd (cc)
same_parses (i ∷ is) (j ∷ js) e p q =
    let tokens : i.tokens ≡ j.tokens = cc in
    let others : map (λ k. k.tokens) is ≡ map (λ k. k.tokens) js = cc in
    let parse : i.parse ≡ j.parse =
    one_parse j.tokens i.parse j.parse (subst (λ ts. IsParse ts i.parse) tokens p.0) q.0 in
    let rest = same_parses is js others p.1 q.1 in
    λ k. parse k ∷ rest k

definitions_by : (is : List Item) → definitions_of is ≡ map parsed_definition (map (λ i. i.parse) is)
definitions_by [] = refl
definitions_by (i ∷ is) = ap (λ ds. parsed_definition i.parse ∷ ds) (definitions_by is)

-- items are the same where their parts are
same_items : (is js : List Item) → map (λ i. i.tokens) is ≡ map (λ i. i.tokens) js → map (λ i. i.parse) is
    ≡ map (λ i. i.parse) js → map (λ i. i.result) is ≡ map (λ i. i.result) js → is ≡ js
same_items [] [] e p r = refl
same_items [] (j ∷ js) e p r = absurd (cc)
same_items (i ∷ is) [] e p r = absurd (cc)
same_items (i ∷ is) (j ∷ js) e p r =
    let tokens : i.tokens ≡ j.tokens = cc in
    let parse : i.parse ≡ j.parse = cc in
    let result : i.result ≡ j.result = cc in
    let tokens_left : map (λ k. k.tokens) is ≡ map (λ k. k.tokens) js = cc in
    let parses_left : map (λ k. k.parse) is ≡ map (λ k. k.parse) js = cc in
    let results_left : map (λ k. k.result) is ≡ map (λ k. k.result) js = cc in
    let first : i ≡ j = λ k. record { tokens = tokens k; parse = parse k; result = result k } in
    let rest = same_items is js tokens_left parses_left results_left in
    λ k. first k ∷ rest k

pub one_compilation : (known : KnownText) (text : List ℕ) (tokens others : List (Kind × ℕ))
    (items more : List Item) → IsCompilation known text tokens items → IsCompilation known text others more
    → (tokens ≡ others) × (items ≡ more)
one_compilation known text tokens others items more h k =
    let same = same_tiles true text tokens others h.are_tokens k.are_tokens in
    let parts = one_cut (lexemes text others) (map (λ i. i.tokens) items) (map (λ i. i.tokens) more)
    (subst (λ ts. AreItems (lexemes text ts) (map (λ i. i.tokens) items)) same h.are_items) k.are_items in
    let parses = same_parses items more parts h.are_parses k.are_parses in
    let definitions : definitions_of items ≡ definitions_of more = definitions_by items
    ∙ ap (map parsed_definition) parses ∙ sym (definitions_by more) in
    let results = one_results (known_names known) (definitions_of more) (map (λ i. i.result) items)
    (map (λ i. i.result) more) (subst (λ ds. AreResults (known_names known) ds (map (λ i. i.result) items))
    definitions h.are_results) k.are_results in
    (same, same_items items more parts parses results)
