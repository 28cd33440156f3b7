use Rattle.x_item.proofs.ParseLaws.{one_parse}
use Rattle.x_item.proofs.laws.one_parse.Goals as goal

pub returns : goal.returns
returns c = one_parse
