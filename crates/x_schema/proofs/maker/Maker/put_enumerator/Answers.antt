use Rattle.std.proofs.Common.{◌≡◌, ◌<◌, ◌^◌, nat_eq, true, false, Some, is_some, ap, sym, ◌∙◌}
use Rattle.std.specs.Map.{lookup}
use Rattle.indexmap.proofs.CallerLemmas.{insert_entry-new}
use Rattle.x_numbers.proofs.Lookups.{none_is}
use Rattle.x_schema.proofs.KeyedTables.{copied_some}
use Rattle.x_schema.proofs.MakerArms.{enumerator_kept, enumerator_new, word_there}
use Rattle.x_schema.proofs.maker.Maker.put_enumerator.Goals as goal

pub returns-then-is_some : goal.returns-then-is_some
returns-then-is_some c known g =
    let es = c.args.names.now.entries in
    let w = c.args.word in
    let some : is_some (lookup (nat_eq w) es) ≡ true = ap is_some (sym c.get.ensures.value)
    ∙ copied_some c.get.result ∙ sym c.is_some.ensures ∙ c.if-is_some.true in
    enumerator_kept known c.args.self.now es (Some w) c.args.name.now
    (λ s. word_there s es w c.args.name.now some) g

pub returns : goal.returns
returns c known g =
    let es = c.args.names.now.entries in
    let w = c.args.word in
    let index = c.in_ok-name.name in
    let none : is_some (lookup (nat_eq w) es) ≡ false = ap is_some (sym c.get.ensures.value)
    ∙ copied_some c.get.result ∙ sym c.is_some.ensures ∙ c.if-is_some.false in
    let fits : w < 2 ^ 32 = c.ranges.word.fits in
    enumerator_new known c.args.self.now c.name.new.self es c.insert.new.self.entries w index c.args.name.now
    c.in_ok-name.ensures none fits
    (c.in_ok-insert.ensures.entries
    ∙ insert_entry-new _ c.args.names.now w index (none_is (lookup (nat_eq w) es) none)) g
