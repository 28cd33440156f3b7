use Rattle.std.proofs.Common.{◌≡◌, drop, map}
use Rattle.x_args.specs.Args.{has_check}
use Rattle.x_args.proofs.checking_args.asks_check.Given as goal

abbrev pub invariant-loop-other : goal.invariant-loop-other
invariant-loop-other g l = has_check (map g.S.AsStr.text (drop l.other-index l.others))
    ≡ has_check (map g.S.AsStr.text l.others)
