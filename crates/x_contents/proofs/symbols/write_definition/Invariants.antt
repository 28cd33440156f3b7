use Rattle.std.proofs.Common.{◌≡◌, [], drop, map}
use Rattle.x_lex.specs.Places.{lexeme}
use Rattle.x_contents.specs.Kept.{spelt}
use Rattle.x_contents.specs.Reading.{outline_of}
use Rattle.x_contents.specs.Symbols.{with_parts}
use Rattle.x_contents.specs.SymbolTexts.{no_text, text_of}
use Rattle.x_contents.proofs.symbols.write_definition.Given as goal

abbrev pub invariant-loop-part : goal.invariant-loop-part
invariant-loop-part l =
    with_parts no_text (text_of (map lexeme l.tokens) l.ranges) (outline_of l.levels l.text)
    (drop l.part-index l.part-items)
    ≡ with_parts no_text (text_of (map lexeme l.tokens) l.ranges)
    (record { levels = []; told = spelt l.fn.text }) l.part-items
