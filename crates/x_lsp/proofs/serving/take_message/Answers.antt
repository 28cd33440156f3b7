use Rattle.std.proofs.Common.{inl}
use Rattle.x_lsp.proofs.serving.take_message.Goals as goal

pub returns-in-None : goal.returns-in-None
returns-in-None c = inl (record { is_said = c.reply.ensures.said; makes = c.reply.ensures.makes })
