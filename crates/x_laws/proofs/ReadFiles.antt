-- Known files that were read end whole.
use Rattle.std.proofs.Common.{◌≡◌, ◌&&◌, ℕ, ◌≤◌, Bool, true, List, [], ◌∷◌, ◌++◌, codes, length, sym, subst}
use Rattle.std.specs.Prelude.{◌≢◌}
use Rattle.std.proofs.lemmas.List.Elements.{All-head, All-tail}
use Rattle.std.specs.List.{All}
use Rattle.std.specs.Str.{bytes_eq}
use Rattle.x_text.specs.Limits.{most_text}
use Rattle.x_lex.specs.declared.kind.Kind.{Kind}
use Rattle.x_rules.specs.declared.fault.RuleCode.TheVariants.{Unknown}
use Rattle.x_compile.specs.Compile.{Item, IsCompilation, faults_of}
use Rattle.x_compile.specs.Known.{KnownText}
use Rattle.x_compile.specs.declared.fault.FaultCode.TheVariants.{Rule}
use Rattle.x_prelude.specs.Before.{IsBefore}
use Rattle.x_prelude.specs.declared.definition.FromC.{FromC}
use Rattle.x_prelude_laws.proofs.Behind.{next_whole}
use Rattle.x_prelude_laws.proofs.Nothing.{no_fault_unknown}
use Rattle.x_prelude_laws.proofs.Wholes.{ends_whole, whole_none}
use Rattle.x_prelude_laws.specs.Wholes.{EndsWhole}
use Rattle.x_opening.specs.Opening.{AreRead}
use Rattle.x_opening.specs.declared.known.KnownSource.{KnownSource}

abbrev IsShort : KnownSource → Type 0
IsShort f = length f.session.text ≤ most_text

-- files behind a text that ends whole
behind : (from : FromC) (front : List ℕ) (plain : Bool) (names : List (List ℕ)) (files : List KnownSource)
    (text : List ℕ) (is_plain : Bool) → All IsShort files → EndsWhole front
    → AreRead from front plain names files text is_plain → EndsWhole text
behind from front plain [] [] text is_plain short ends read = subst EndsWhole (sym read.0) ends
behind from front plain [] (f ∷ fs) text is_plain short ends read = absurd read
behind from front plain (n ∷ ns) [] text is_plain short ends read = absurd read
behind from front plain (n ∷ ns) (f ∷ fs) text is_plain short ends read =
    let own = f.session.text in
    let whole = next_whole front from f.session.known own read.3 ends (All-head IsShort f fs short)
    read.5 read.2 in
    behind from (front ++ read.3 ++ own ++ codes "\n") (plain && bytes_eq read.3 read.4) ns fs text is_plain
    (All-tail IsShort f fs short) whole read.7

pub read_whole : (from : FromC) (names : List (List ℕ)) (files : List KnownSource) (text : List ℕ)
    (is_plain : Bool) → All (λ f. length f.session.text ≤ most_text) files
    → AreRead from [] true names files text is_plain → EndsWhole text
read_whole from names files text is_plain short read =
    behind from [] true names files text is_plain short (ends_whole [] [] whole_none) read

pub none_undeclared : (from : FromC) (names : List (List ℕ)) (files : List KnownSource) (before : List ℕ)
    (is_plain : Bool) (text : List ℕ) (known : KnownText) (tokens : List (Kind × ℕ)) (items : List Item)
    → All (λ f. length f.session.text ≤ most_text) files
    → AreRead from [] true names files before is_plain → from.foreign ≡ true
    → length text ≤ most_text → IsBefore before from text known → IsCompilation known text tokens items
    → All (λ f. f.code ≢ Rule Unknown) (faults_of text items)
none_undeclared from names files before is_plain text known tokens items short read foreign fits stands is =
    no_fault_unknown before from text known tokens items foreign
    (read_whole from names files before is_plain short read) fits stands is
