use Rattle.std.proofs.Common.{◌+◌, ◌-◌, ◌≡◌, ap, arith, take, drop}
use Rattle.x_directives.proofs.between.block.Goals as goal

pub returns : goal.returns
returns c =
    let size : c.args.at + 4096 - c.args.at ≡ 4096 = omega arith in
    ap (λ n. take n (drop c.args.at c.args.text.now)) size
