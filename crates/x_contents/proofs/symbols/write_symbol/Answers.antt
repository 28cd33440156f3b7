use Rattle.std.proofs.Common.{◌++◌, ap, append_assoc, sym, ◌∙◌}
use Rattle.std.specs.Prelude.{codes, decimal, option_map}
use Rattle.std.specs.Str.Lossy.{utf8_lossy}
use Rattle.serde_json.specs.Data.{string}
use Rattle.serde_json.specs.Written.{compact_text}
use Rattle.x_contents.specs.Kept.{spelt}
use Rattle.x_contents.specs.Symbols.{symbol_kind}
use Rattle.x_contents.specs.SymbolTexts.{list_text, range_text}
use Rattle.x_contents.proofs.SymbolLemmas.{part_more}
use Rattle.x_contents.proofs.symbols.write_symbol.Goals as goal

pub returns : goal.returns
returns c =
    let old = spelt c.args.text.now in
    let shown = c.args.shown.now in
    let children = list_text (option_map (λ list. spelt list.now) c.args.children) in
    let kind = decimal (symbol_kind shown.kind) in
    let name = compact_text (string (utf8_lossy shown.name.now)) in
    let range = range_text shown.range shown.range in
    let selection = range_text shown.selection shown.selection in
    let w1 = codes "{\"children\":" in
    let w2 = w1 ++ children in
    let w3 = w2 ++ codes ",\"kind\":" in
    let w4 = w3 ++ kind in
    let w5 = w4 ++ codes ",\"name\":" in
    let w6 = w5 ++ name in
    let w7 = w6 ++ codes ",\"range\":" in
    let w8 = w7 ++ range in
    let w9 = w8 ++ codes ",\"selectionRange\":" in
    let w10 = w9 ++ selection in
    let t1 = c.in_ok-add_phrase.ensures in
    let t2 = part_more old w1 children _ _ t1 c.in_ok-write_list.ensures in
    let t3 = part_more old w2 (codes ",\"kind\":") _ _ t2 c.in_ok-add_phrase-2.ensures in
    let number =
    c.in_ok-add_number.ensures
    ∙ ap (λ n. spelt c.add_phrase-2.new.self ++ decimal n) c.symbol_kind.ensures in
    let t4 = part_more old w3 kind _ _ t3 number in
    let t5 = part_more old w4 (codes ",\"name\":") _ _ t4 c.in_ok-add_phrase-3.ensures in
    let t6 = part_more old w5 name _ _ t5 c.in_ok-add_string.ensures in
    let t7 = part_more old w6 (codes ",\"range\":") _ _ t6 c.in_ok-add_phrase-4.ensures in
    let t8 = part_more old w7 range _ _ t7 c.in_ok-write_range.ensures in
    let t9 = part_more old w8 (codes ",\"selectionRange\":") _ _ t8 c.in_ok-add_phrase-5.ensures in
    let t10 = part_more old w9 selection _ _ t9 c.in_ok-write_range-2.ensures in
    part_more old w10 (codes "},") _ _ t10 c.in_ok-add.ensures
    ∙ ap (λ l. old ++ l) (sym (append_assoc w10 (codes "}") (codes ",")))
