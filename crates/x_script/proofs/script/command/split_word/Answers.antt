use Rattle.std.proofs.Common.{◌∷◌, ◌+◌, ◌∙◌, sym, ap, take}
use Rattle.std.proofs.lemmas.List.{take_rest}
use Rattle.x_script.specs.Commands.{words_of}
use Rattle.x_script.proofs.CommandLemmas.{no_space, first_space}
use Rattle.x_script.proofs.script.command.split_word.Goals as goal

pub returns-in_err-space : goal.returns-in_err-space
returns-in_err-space c =
    rw c.from_residual.ensures (no_space c.args.line.now c.memchr.result c.memchr.ensures c.in_err-space.was)

pub returns : goal.returns
returns c =
    first_space c.args.line.now c.memchr.result c.in_ok-space.space c.memchr.ensures c.in_ok-space.was
    ∙ ap (λ l. take c.in_ok-space.space c.args.line.now ∷ words_of l)
    (sym (take_rest c.args.line.now (c.in_ok-space.space + 1)))
