use Rattle.std.proofs.Common.{true}
use Rattle.x_lex.proofs.TilingLemmas.{same_tiles}
use Rattle.x_lex.proofs.laws.one_tiling.Goals as goal

pub returns : goal.returns
returns c text ts us h k = same_tiles true text ts us h k
