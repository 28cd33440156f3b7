use Rattle.std.proofs.Common.{◌≡◌, ◌≤◌, length, map, take, drop, ap, subst, sym, ◌∙◌, arith, length-drop}
use Rattle.x_text.specs.Counts.{Counts}
use Rattle.x_lex.specs.Places.{lexeme, lexemes}
use Rattle.x_lex.specs.TokenList.{patched}
use Rattle.x_lex.proofs.SpanLemmas.{length-lexemes_from}
use Rattle.x_cutting.specs.ItemList.{counts, tokens_before, total}
use Rattle.x_item.specs.Parse.{IsParse}
use Rattle.x_compile.specs.Generated.{lines_of}
use Rattle.x_compile.specs.KeptView.{byte_count, kept_parse}
use Rattle.x_compile.proofs.WalkedItems.{bytes_few_left, bytes_few_taken, bytes_of_all}
use Rattle.x_follow.proofs.FreshLemmas.{parsed_next}
use Rattle.x_follow.proofs.fresh.parse_fresh.Goals as goal

pub byte_count-requires : goal.byte_count-requires
byte_count-requires c =
    let us = patched c.args.tokens.now.list c.args.patch.now in
    let all = lexemes c.args.text.now us in
    let tokens = drop c.args.items.now.start all in
    let walk = c.loop-index.walk in
    let count = c.token_count.result in
    let part : map lexeme c.deref-in-loop-index.result.now ≡ take count walk =
    ap (map lexeme) c.deref-in-loop-index.ensures.value ∙ c.in_ok-take_tokens.ensures.part in
    let same = ap byte_count part in
    let taken = bytes_few_taken count walk in
    let at = tokens_before (counts c.args.items.now.fresh) c.loop-index.index in
    let left = ap byte_count c.loop-index.invariant.parsed.left in
    let fewer = bytes_few_left at tokens in
    let few = bytes_few_left c.args.items.now.start all in
    let whole = bytes_of_all c.args.text.now us c.requires.tokens in
    let small = c.bytes-text.ensures.small in
    omega (arith, same, taken, left, fewer, few, whole, small)

pub loop-index-preserved : goal.loop-index-preserved
loop-index-preserved c =
    let us = patched c.args.tokens.now.list c.args.patch.now in
    let tokens = drop c.args.items.now.start (lexemes c.args.text.now us) in
    let index = c.loop-index.index in
    let walk = c.loop-index.walk in
    let count = c.token_count.result in
    let k = c.in_ok-kept.kept in
    let inv = c.loop-index.invariant in
    let l = length-drop c.args.items.now.start (lexemes c.args.text.now us) in
    let m = length-lexemes_from c.args.text.now 0 us in
    let w = c.requires.within in
    let fits : total (counts c.args.items.now.fresh) ≤ length tokens = omega (arith, l, m, w) in
    let part : map lexeme c.deref.result.now ≡ take count walk = ap (map lexeme) c.deref.ensures.value
    ∙ c.in_ok-take_tokens.ensures.part in
    let counted = c.in_ok-kept.ensures.counted in
    let one = ap (λ (n : Counts). n.parsed) counted in
    let ticks = inv.ticks in
    record {
      parsed = parsed_next tokens c.args.items.now.fresh c.loop-index.items.fresh c.fill.new.self.fresh walk
          c.take_tokens.new.walk index count c.byte_count.result k inv.parsed fits c.token_count.ensures
          c.in_ok-take_tokens.ensures.walk
          (c.byte_count.ensures ∙ ap byte_count (ap (map lexeme) c.deref-in-loop-index.ensures.value
          ∙ c.in_ok-take_tokens.ensures.part)) c.in_ok-kept.ensures.marked
          (subst (λ t. IsParse t (kept_parse k)) part c.in_ok-kept.ensures.parse) (c.in_ok-kept.ensures.lines
          ∙ ap lines_of part) c.in_ok-kept.ensures.unchecked c.fill.ensures.counts c.fill.ensures.bytes
          c.fill.ensures.kept;
      others = c.fill.ensures.others ∙ (λ i. record (inv.others i) { fresh = c.fill.new.self.fresh });
      ticks = omega (arith, one, ticks);
      no_others = counted ∙ (λ i. record (inv.no_others i) { parsed = (sym one) i });
    }
