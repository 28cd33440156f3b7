use Rattle.std.proofs.Common.{◌++◌}
use Rattle.std.specs.Prelude.{codes, decimal}
use Rattle.x_contents.specs.Kept.{spelt}
use Rattle.x_contents.proofs.SymbolLemmas.{part_more}
use Rattle.x_contents.proofs.symbols.write_range.Goals as goal

pub returns : goal.returns
returns c =
    let old = spelt c.args.text.now in
    let range = c.args.range.now in
    let line = codes ",\"line\":" in
    let w1 = codes "{\"end\":{\"character\":" in
    let w2 = w1 ++ decimal range.end.character in
    let w3 = w2 ++ line in
    let w4 = w3 ++ decimal range.end.line in
    let w5 = w4 ++ codes "},\"start\":{\"character\":" in
    let w6 = w5 ++ decimal range.start.character in
    let w7 = w6 ++ line in
    let w8 = w7 ++ decimal range.start.line in
    let t1 = c.in_ok-add_phrase.ensures in
    let t2 = part_more old w1 (decimal range.end.character) _ _ t1 c.in_ok-add_number.ensures in
    let t3 = part_more old w2 line _ _ t2 c.in_ok-add_phrase-2.ensures in
    let t4 = part_more old w3 (decimal range.end.line) _ _ t3 c.in_ok-add_number-2.ensures in
    let t5 = part_more old w4 (codes "},\"start\":{\"character\":") _ _ t4 c.in_ok-add_phrase-3.ensures in
    let t6 = part_more old w5 (decimal range.start.character) _ _ t5 c.in_ok-add_number-3.ensures in
    let t7 = part_more old w6 line _ _ t6 c.in_ok-add_phrase-4.ensures in
    let t8 = part_more old w7 (decimal range.start.line) _ _ t7 c.in_ok-add_number-4.ensures in
    part_more old w8 (codes "}}") _ _ t8 c.in_ok-add_phrase-5.ensures
