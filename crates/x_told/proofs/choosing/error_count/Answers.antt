use Rattle.std.proofs.Common.{◌≡◌, ◌+◌, ◌∙◌, ap, arith, cond, get_or, length, take, subst}
use Rattle.std.specs.List.{filter}
use Rattle.std.proofs.lemmas.List.{take_all}
use Rattle.std.proofs.lemmas.List.Filters.{length-filter_more}
use Rattle.x_told.specs.Choosing.{is_error}
use Rattle.x_told.proofs.choosing.error_count.Goals as goal

pub returns : goal.returns
returns c =
    c.loop-fault.invariant.counted
    ∙ ap (λ l. length (filter is_error l))
    (take_all c.loop-fault.fault-index c.args.told.now c.loop-fault-test.false)
