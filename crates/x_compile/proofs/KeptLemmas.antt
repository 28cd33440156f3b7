-- What is kept of items once they are checked.
use Rattle.std.proofs.Common.{◌≡◌, ℕ, zero, suc, ◌+◌, List, [], ◌∷◌, ◌++◌, length, map, take, drop, Option}
use Rattle.std.proofs.Common.{None, Some, refl, sym, ap, subst, ◌∙◌, arith}
use Rattle.std.specs.Borrow.{Bor}
use Rattle.std.specs.Global.{Box}
use Rattle.std.specs.Prelude.{option_map, All, IfSome}
use Rattle.std.proofs.lemmas.List.Elements.{All-append, All-nil, All-cons, All-head, All-tail}
use Rattle.std.proofs.lemmas.List.{length-map, length-append}
use Rattle.x_lex.specs.declared.kind.Kind.{Kind}
use Rattle.x_lex.specs.Places.{Lexeme, lexemes}
use Rattle.x_lex.specs.Tiling.{AreTokens}
use Rattle.x_lists.proofs.ListLemmas.{map_append}
use Rattle.x_cutting.specs.ItemList.{AreOfText, ItemChange, counts}
use Rattle.x_cutting.specs.ItemList as items
use Rattle.x_trees.specs.Tree.{Definition}
use Rattle.x_item.specs.Parse.{Parse, Nothing, Def, Fault, IsParse}
use Rattle.x_cutting.specs.declared.cutting.item_entry.ItemEntry.{ItemEntry}
use Rattle.x_rules.specs.Results.{KnownNames, Outcome, AreResultsFrom, AreResults, IsResult, result_at}
use Rattle.x_names.specs.Declarers.{AreShort}
use Rattle.x_rules.specs.Rules.{Ascends}
use Rattle.x_rules.specs.declared.fault.WordFault.{WordFault}
use Rattle.x_pieces.specs.Pieces.{Pieces}
use Rattle.x_pieces.specs.Rendering.{pieces_of}
use Rattle.x_uses.specs.Occurrences.{IsUsesOf, UseTable}
use Rattle.x_compile.specs.Checking.{AreChecked, AreKnown, AreRendered, IsMade, IsSound, kept_definitions}
use Rattle.x_compile.specs.Checking.{sound, sound_pieces}
use Rattle.x_compile.specs.Compile.{IsCompilation, definitions_of, faults_at, faults_from, item_faults}
use Rattle.x_compile.specs.Compile.{parsed_definition, placed, rule_faults, token_faults}
use Rattle.x_compile.specs.Counting.{faults_found, faults_with}
use Rattle.x_compile.specs.FaultWalk.{AreOrdered}
use Rattle.x_compile.specs.Generated.{faultless, part_of}
use Rattle.x_compile.specs.KeptView.{AreAlong, AreEach, AreParsed, AreWith, IsItem, entry_definitions}
use Rattle.x_compile.specs.KeptView.{entry_results, found_pieces, found_result}
use Rattle.x_compile.specs.KeptView.{item_with, items_with, kept_definition, kept_found, kept_parse}
use Rattle.x_compile.specs.KeptView.{kept_part}
use Rattle.x_compile.specs.KeptText.{IsKept, items_of}
use Rattle.x_compile.specs.Known.{KnownText, known_names}
use Rattle.x_compile.specs.declared.content.CheckResult.{CheckResult}
use Rattle.x_compile.specs.declared.content.Content.{Content}
use Rattle.x_compile.proofs.Compiled.{results-items}
use Rattle.x_compile.proofs.AlongLemmas.{along_each}

-- ---- nothing was found of an item without a definition

none_found : (r : Option (Box CheckResult)) → found_result r ≡ None → r ≡ None
none_found None is = refl
none_found (Some found) is = absurd (cc)

known_one : (known : KnownNames) (definitions : List (Option Definition)) (results : ℕ → Option Outcome)
    (n : ℕ) (d : Option Definition) (o : Option Outcome) → IsResult known definitions results n d o
    → d ≡ None → o ≡ None
known_one known definitions results n None None is none = refl
known_one known definitions results n None (Some o) is none = absurd is
known_one known definitions results n (Some d) o is none = absurd (cc)

known_from : (known : KnownNames) (definitions : List (Option Definition)) (results : ℕ → Option Outcome)
    (n : ℕ) (ks : List Content) (rs : List (Option (Box CheckResult)))
    → AreResultsFrom known definitions results n (kept_definitions ks) (map found_result rs) → AreKnown ks rs
known_from known definitions results n [] [] are = tt
known_from known definitions results n [] (r ∷ rs) are = absurd are
known_from known definitions results n (k ∷ ks) [] are = absurd are
known_from known definitions results n (k ∷ ks) (r ∷ rs) are = (
  λ none. none_found r (known_one known definitions results n (kept_definition k)
      (found_result r) are.0 none),
  known_from known definitions results (suc n) ks rs are.1,
)

pub are_known : (known : KnownNames) (ks : List Content) (rs : List (Option (Box CheckResult))) (faults : ℕ)
    → AreChecked known ks rs faults → AreKnown ks rs
are_known known ks rs faults h = known_from known (kept_definitions ks) (result_at (map found_result rs)) 0 ks
    rs h.results

-- the definitions by what is kept
pub definitions_kept : (es : List (ItemEntry Content))
    → kept_definitions (items.kept es) ≡ entry_definitions es
definitions_kept [] = refl
definitions_kept (e ∷ es) = ap (λ ds. kept_definition e.kept ∷ ds) (definitions_kept es)

-- ---- items with what was found of them

each_with : (parts : List (List Lexeme)) (es : List (ItemEntry Content))
    (rs : List (Option (Box CheckResult))) (fs : List (ItemEntry Content)) → AreWith es rs fs
    → AreEach parts es → AreEach parts fs
each_with [] [] [] [] with each = tt
each_with (p ∷ ps) [] [] [] with each = absurd each
each_with [] (e ∷ es) (r ∷ rs) (f ∷ fs) with each = absurd each
each_with (p ∷ ps) (e ∷ es) (r ∷ rs) (f ∷ fs) with each =
    let this : IsItem p f = record {
      count = with.0.tokens ∙ each.0.count;
      bytes = with.0.bytes ∙ each.0.bytes;
      parsed = subst (IsParse p) (sym with.0.parse) each.0.parsed;
      lines = with.0.lines ∙ each.0.lines;
      marked = with.0.marked each.0.marked;
    } in
    (this, each_with ps es rs fs with.1 each.1)
each_with parts [] [] (f ∷ fs) with each = absurd with
each_with parts [] (r ∷ rs) fs with each = absurd with
each_with parts (e ∷ es) [] fs with each = absurd with
each_with parts (e ∷ es) (r ∷ rs) [] with each = absurd with

pub parsed_with : (all : List Lexeme) (es : List (ItemEntry Content)) (rs : List (Option (Box CheckResult)))
    (fs : List (ItemEntry Content)) → AreWith es rs fs → AreParsed all es → AreParsed all fs
parsed_with all es rs fs with h =
    record { parts = h.parts; are = h.are; each = each_with h.parts es rs fs with h.each }

pub counts_with : (es : List (ItemEntry Content)) (rs : List (Option (Box CheckResult)))
    (fs : List (ItemEntry Content)) → AreWith es rs fs → counts fs ≡ counts es
counts_with [] [] [] with = refl
counts_with (e ∷ es) (r ∷ rs) (f ∷ fs) with =
    let others = counts_with es rs fs with.1 in λ i. with.0.tokens i ∷ others i
counts_with [] [] (f ∷ fs) with = absurd with
counts_with [] (r ∷ rs) fs with = absurd with
counts_with (e ∷ es) [] fs with = absurd with
counts_with (e ∷ es) (r ∷ rs) [] with = absurd with

pub definitions_with : (es : List (ItemEntry Content)) (rs : List (Option (Box CheckResult)))
    (fs : List (ItemEntry Content)) → AreWith es rs fs → entry_definitions fs ≡ entry_definitions es
definitions_with [] [] [] with = refl
definitions_with (e ∷ es) (r ∷ rs) (f ∷ fs) with =
    let others = definitions_with es rs fs with.1 in λ i. parsed_definition (with.0.parse i) ∷ others i
definitions_with [] [] (f ∷ fs) with = absurd with
definitions_with [] (r ∷ rs) fs with = absurd with
definitions_with (e ∷ es) [] fs with = absurd with
definitions_with (e ∷ es) (r ∷ rs) [] with = absurd with

pub results_with : (es : List (ItemEntry Content)) (rs : List (Option (Box CheckResult)))
    (fs : List (ItemEntry Content)) → AreWith es rs fs → entry_results fs ≡ map found_result rs
results_with [] [] [] with = refl
results_with (e ∷ es) (r ∷ rs) (f ∷ fs) with =
    let others = results_with es rs fs with.1 in λ i. with.0.result i ∷ others i
results_with [] [] (f ∷ fs) with = absurd with
results_with [] (r ∷ rs) fs with = absurd with
results_with (e ∷ es) [] fs with = absurd with
results_with (e ∷ es) (r ∷ rs) [] with = absurd with

-- ---- what is generated of them

sound_none : (fs : List WordFault) → sound None fs ≡ None
sound_none [] = refl
sound_none (f ∷ fs) = refl

sound_some : (tokens : List Lexeme) (d : Definition) (fs : List WordFault)
    → sound (Some d) fs ≡ faultless (faults_at tokens (Def d) fs) (Def d)
sound_some tokens d [] = refl
sound_some tokens d (f ∷ fs) = refl

faultless_none : (tokens : List Lexeme) (fs : List WordFault)
    → None ≡ faultless (faults_at tokens Nothing fs) Nothing
faultless_none tokens [] = refl
faultless_none tokens (f ∷ fs) = refl

faultless_is : (tokens : List Lexeme) (p : Parse) (fs : List WordFault)
    → sound (parsed_definition p) fs ≡ faultless (faults_at tokens p fs) p
faultless_is tokens Nothing fs = sound_none fs ∙ faultless_none tokens fs
faultless_is tokens (Def d) fs = sound_some tokens d fs
faultless_is tokens (Fault token code) fs = sound_none fs

sound_with : (es : List (ItemEntry Content)) (rs : List (Option (Box CheckResult)))
    (fs : List (ItemEntry Content)) → AreWith es rs fs → AreRendered (items.kept es) rs
    → All (λ e. IsSound e.kept) fs
sound_with [] [] [] with are = All-nil (λ e. IsSound e.kept)
sound_with (e ∷ es) (r ∷ rs) (f ∷ fs) with are =
    let same : sound_pieces (kept_definition e.kept) (found_result r)
    ≡ sound_pieces (kept_definition f.kept) (found_result (kept_found f.kept)) =
    λ i. sound_pieces (parsed_definition (sym with.0.parse i)) (sym with.0.result i) in
    All-cons (λ e. IsSound e.kept) f fs (with.0.pieces ∙ are.0 ∙ same) (sound_with es rs fs with.1 are.1)
sound_with [] [] (f ∷ fs) with are = absurd with
sound_with [] (r ∷ rs) fs with are = absurd with
sound_with (e ∷ es) [] fs with are = absurd with
sound_with (e ∷ es) (r ∷ rs) [] with are = absurd with

parts_along : (es : List (ItemEntry Content)) (tokens : List Lexeme) → AreAlong tokens es
    → All (λ e. IsSound e.kept) es → map (λ e. kept_part e.kept) es ≡ map part_of (items_with tokens es)
parts_along [] tokens along sound = refl
parts_along (e ∷ es) tokens along sound =
    let lines = along.0.lines in
    let here : IsSound e.kept = All-head (λ e. IsSound e.kept) e es sound in
    let pieces = here ∙ ap (option_map pieces_of) (faultless_is (take e.tokens tokens) (kept_parse e.kept)
    (rule_faults (found_result (kept_found e.kept)))) in
    let others = parts_along es (drop e.tokens tokens) along.1 (All-tail (λ e. IsSound e.kept) e es sound) in
    λ i. record { lines = lines i; pieces = pieces i } ∷ others i

-- what is generated of the items of a text
pub parts_kept : {known : KnownText} {text : List ℕ} {tokens : List (Kind × ℕ)}
    {entries : List (ItemEntry Content)} {faults : ℕ} {uses : Option UseTable}
    → IsKept known text tokens entries faults uses
    → map (λ e. kept_part e.kept) entries ≡ map part_of (items_of text tokens entries)
parts_kept {known} {text} {tokens} {entries} h = parts_along entries (lexemes text tokens)
    (along_each h.parsed.parts entries (lexemes text tokens) h.parsed.are.all h.parsed.each) h.sound

-- what was generated of an item is of its definition
sound_definition : (d : Option Definition) (fs : List WordFault) (p : Pieces)
    → option_map pieces_of (sound d fs) ≡ Some p → option_map pieces_of d ≡ Some p
sound_definition d [] p is = is
sound_definition d (f ∷ fs) p is = absurd (cc)

pub made_of : (k : Content) → IsSound k → IsMade k
made_of k sound p is = sound_definition (kept_definition k) (rule_faults (found_result (kept_found k))) p
    (sym sound ∙ is)

pub made_none : (k : Content) → kept_found k ≡ None → IsMade k
made_none k none p is = absurd (no_piece (sym (ap found_pieces none) ∙ is))
  where
    no_piece : None ≡ Some p → ⊥
    no_piece e = cc

-- ---- all of them

all_take : {X : Type 0} (P : X → Type 0) (xs : List X) (n : ℕ) → All P xs → All P (take n xs)
all_take P xs zero all = All-nil P
all_take P [] (suc n) all = All-nil P
all_take P (x ∷ xs) (suc n) all =
    All-cons P x (take n xs) (All-head P x xs all) (all_take P xs n (All-tail P x xs all))

all_drop : {X : Type 0} (P : X → Type 0) (xs : List X) (n : ℕ) → All P xs → All P (drop n xs)
all_drop P xs zero all = all
all_drop P [] (suc n) all = All-nil P
all_drop P (x ∷ xs) (suc n) all = all_drop P xs n (All-tail P x xs all)

kept_all : (P : ItemEntry Content → Type 0) (Q : Content → Type 0)
    → ((e : ItemEntry Content) → P e → Q e.kept) → (es : List (ItemEntry Content)) → All P es
    → All Q (items.kept es)
kept_all P Q step [] all = All-nil Q
kept_all P Q step (e ∷ es) all = All-cons Q e.kept (items.kept es) (step e (All-head P e es all))
    (kept_all P Q step es (All-tail P e es all))

-- what is generated of items that are not checked yet: nothing
pub made_unchecked : (es : List (ItemEntry Content)) → All (λ e. kept_found e.kept ≡ None) es
    → All IsMade (items.kept es)
made_unchecked es all =
    kept_all (λ e. kept_found e.kept ≡ None) IsMade (λ e none. made_none e.kept none) es all

-- what is generated of the items that an edit leaves
pub made_patched : (es : List (ItemEntry Content)) (p : ItemChange Content) → All (λ e. IsSound e.kept) es
    → All (λ e. kept_found e.kept ≡ None) p.fresh → All IsMade (items.kept (items.patched es p))
made_patched es p sound none =
    let P : ItemEntry Content → Type 0 = λ e. IsMade e.kept in
    let front = all_take (λ e. IsSound e.kept) es p.at sound in
    let rear = all_drop (λ e. IsSound e.kept) es (p.at + p.removed) sound in
    let step : (e : ItemEntry Content) → IsSound e.kept → IsMade e.kept = λ e s. made_of e.kept s in
    subst (λ l. All IsMade l)
    (sym (map_append (λ e. e.kept) (take p.at es) (p.fresh ++ drop (p.at + p.removed) es)
    ∙ ap (λ l. items.kept (take p.at es) ++ l)
    (map_append (λ e. e.kept) p.fresh (drop (p.at + p.removed) es))))
    (All-append IsMade (items.kept (take p.at es))
    (items.kept p.fresh ++ items.kept (drop (p.at + p.removed) es))
    (kept_all (λ e. IsSound e.kept) IsMade step (take p.at es) front)
    (All-append IsMade (items.kept p.fresh) (items.kept (drop (p.at + p.removed) es))
    (made_unchecked p.fresh none)
    (kept_all (λ e. IsSound e.kept) IsMade step (drop (p.at + p.removed) es) rear)))

-- what holds of each item, of what is lent
pub all_lent : (P : Content → Type 0) (refs : List (Bor Content)) (ks : List Content)
    → map (λ k. k.now) refs ≡ ks → All P ks → All (λ k. P k.now) refs
all_lent P [] ks same all = All-nil (λ k. P k.now)
all_lent P (r ∷ refs) [] same all = absurd (cc)
all_lent P (r ∷ refs) (k ∷ ks) same all =
    let here : r.now ≡ k = cc in
    let there : map (λ x. x.now) refs ≡ ks = cc in
    All-cons (λ x. P x.now) r refs (subst P (sym here) (All-head P k ks all))
    (all_lent P refs ks there (All-tail P k ks all))

-- nothing was found of these
pub none_kept : (es : List (ItemEntry Content)) → All (λ e. kept_found e.kept ≡ None) es
    → All (λ k. kept_found k ≡ None) (items.kept es)
none_kept es all = kept_all (λ e. kept_found e.kept ≡ None) (λ k. kept_found k ≡ None) (λ e none. none) es all

-- ---- how many faults they have

pub many_faults : (tokens others : List Lexeme) (p : Parse) (fs : List WordFault)
    → length (faults_at tokens p fs) ≡ length (faults_at others p fs)
many_faults tokens others Nothing fs = length-map fs _ ∙ sym (length-map fs _)
many_faults tokens others (Def d) fs = length-map fs _ ∙ sym (length-map fs _)
many_faults tokens others (Fault token code) fs = refl

pub count_found : (text : List ℕ) (n : ℕ) (tokens : List Lexeme) (es : List (ItemEntry Content))
    (rs : List (Option (Box CheckResult))) (fs : List (ItemEntry Content)) → AreWith es rs fs
    → faults_found (items.kept es) rs ≡ length (faults_from text n (items_with tokens fs))
count_found text n tokens [] [] [] with = refl
count_found text n tokens (e ∷ es) (r ∷ rs) (f ∷ fs) with =
    let i = item_with tokens f in
    let same : faults_with e.kept r
    ≡ length (faults_at [] (kept_parse f.kept) (rule_faults (found_result (kept_found f.kept)))) =
    λ j. length (faults_at [] (sym with.0.parse j) (rule_faults (sym with.0.result j))) in
    let here = many_faults [] i.tokens (kept_parse f.kept) (rule_faults (found_result (kept_found f.kept))) in
    let placed = length-map (token_faults i) (placed text n i.tokens) in
    let others = count_found text (suc n) (drop f.tokens tokens) es rs fs with.1 in
    let all = length-append (item_faults text n i)
    (faults_from text (suc n) (items_with (drop f.tokens tokens) fs)) in
    omega (arith, same, here, placed, others, all)
count_found text n tokens [] [] (f ∷ fs) with = absurd with
count_found text n tokens [] (r ∷ rs) fs with = absurd with
count_found text n tokens (e ∷ es) [] fs with = absurd with
count_found text n tokens (e ∷ es) (r ∷ rs) [] with = absurd with

-- all that is kept of a text, once what was found of its items is kept with them
pub kept_is : (known : KnownText) (text : List ℕ) (tokens : List (Kind × ℕ)) (es : List (ItemEntry Content))
    (rs : List (Option (Box CheckResult))) (count : ℕ) (fs : List (ItemEntry Content))
    (uses : Option UseTable) → AreTokens text tokens
    → AreParsed (lexemes text tokens) es → AreShort (entry_definitions es) → AreOfText (counts es)
    → AreChecked (known_names known) (items.kept es) rs count → AreWith es rs fs
    → IfSome uses (IsUsesOf (entry_definitions es)) → IsKept known text tokens fs count uses
kept_is known text tokens es rs count fs uses are parsed short of_text checked with used =
    let all = lexemes text tokens in
    let few = of_text.few in
    let counted = length-map es (λ e. e.tokens) in
    let same = sym (length-map fs (λ e. e.tokens)) ∙ ap length (counts_with es rs fs with) in
    let parts = length-map fs (λ e. kept_part e.kept) in
    let definitions = definitions_with es rs fs with ∙ sym (definitions_kept es) in
    record {
      are_tokens = are;
      parsed = parsed_with all es rs fs with parsed;
      short = subst AreShort (sym (definitions_with es rs fs with)) short;
      are_results = subst (λ os. AreResults (known_names known) (entry_definitions fs) os)
          (sym (results_with es rs fs with))
          (subst (λ ds. AreResults (known_names known) ds (map found_result rs))
          (sym definitions) checked.results);
      sound = sound_with es rs fs with checked.rendered;
      few = omega (arith, few, counted, same, parts);
      count_is = checked.count ∙ count_found text 0 all es rs fs with;
      uses_are = subst (λ ds. IfSome uses (IsUsesOf ds)) (sym (definitions_with es rs fs with)) used;
    }

-- ---- the faults that were found come in order

ascends_one : (known : KnownNames) (definitions : List (Option Definition)) (results : ℕ → Option Outcome)
    (n : ℕ) (d : Option Definition) (o : Option Outcome) → IsResult known definitions results n d o
    → Ascends (rule_faults o)
ascends_one known definitions results n None None is = tt
ascends_one known definitions results n None (Some o) is = absurd is
ascends_one known definitions results n (Some d) None is = absurd is
ascends_one known definitions results n (Some d) (Some o) is = is.are_faults.ascend

ordered_from : (known : KnownNames) (definitions : List (Option Definition)) (results : ℕ → Option Outcome)
    (n : ℕ) (ds : List (Option Definition)) (os : List (Option Outcome))
    → AreResultsFrom known definitions results n ds os → All (λ o. Ascends (rule_faults o)) os
ordered_from known definitions results n [] [] are k d lt = absurd (omega (arith, lt))
ordered_from known definitions results n [] (o ∷ os) are k x lt = absurd are
ordered_from known definitions results n (d ∷ ds) [] are k x lt = absurd are
ordered_from known definitions results n (d ∷ ds) (o ∷ os) are zero x lt =
    ascends_one known definitions results n d o are.0
ordered_from known definitions results n (d ∷ ds) (o ∷ os) are (suc k) x lt =
    ordered_from known definitions results (suc n) ds os are.1 k x (omega (arith, lt))

ordered_entries : (entries : List (ItemEntry Content))
    → All (λ o. Ascends (rule_faults o)) (entry_results entries) → AreOrdered entries
ordered_entries [] all k e lt = absurd (omega (arith, lt))
ordered_entries (x ∷ entries) all zero e lt = all zero None (omega arith)
ordered_entries (x ∷ entries) all (suc k) e lt =
    ordered_entries entries (λ j o l. all (suc j) o (omega (arith, l))) k e (omega (arith, lt))

pub are_ordered : (known : KnownText) (text : List ℕ) (tokens : List (Kind × ℕ))
    (entries : List (ItemEntry Content)) → IsCompilation known text tokens (items_of text tokens entries)
    → AreOrdered entries
are_ordered known text tokens entries h =
    let items = items_of text tokens entries in
    let os = map (λ i. i.result) items in
    ordered_entries entries
    (subst (λ rs. All (λ o. Ascends (rule_faults o)) rs) (results-items (lexemes text tokens) entries)
    (ordered_from (known_names known) (definitions_of items) (result_at os) 0 (definitions_of items) os
    h.are_results))
