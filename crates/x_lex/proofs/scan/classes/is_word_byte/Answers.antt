use Rattle.std.proofs.Common.{◌∙◌, arith}
use Rattle.x_lex.proofs.WordTable.{told}
use Rattle.x_lex.proofs.scan.classes.is_word_byte.Goals as goal

pub stands_in-requires : goal.stands_in-requires
stands_in-requires c = let fits = c.ranges.byte.fits in omega (arith, fits)

pub returns : goal.returns
returns c = let fits = c.ranges.byte.fits in c.stands_in.ensures ∙ told c.args.byte (omega (arith, fits))
