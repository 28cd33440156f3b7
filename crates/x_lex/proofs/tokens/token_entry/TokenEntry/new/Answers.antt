use Rattle.x_lex.proofs.PackedLemmas.{unpacked}
use Rattle.x_lex.proofs.tokens.token_entry.TokenEntry.new.Goals as goal

pub returns : goal.returns
returns c = unpacked c.args.kind c.args.length
