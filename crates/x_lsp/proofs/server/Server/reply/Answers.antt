use Rattle.std.proofs.Common.{refl}
use Rattle.serde_json.specs.View.{view}
use Rattle.x_frames.specs.Answers.{to_message, no_memory}
use Rattle.x_frames.specs.KeptSaid.{no_memory_answer}
use Rattle.x_lsp.specs.States.{by_message, by_no_memory}
use Rattle.x_lsp.proofs.server.Server.reply.Goals as goal

pub returns-in-Ok-clause-said : goal.returns-in-Ok-clause-said
returns-in-Ok-clause-said c = to_message (view c.in-Ok.message) c.in-Ok.ensures.ok.1 c.reply_to.ensures.said

pub returns-in-Ok-clause-makes : goal.returns-in-Ok-clause-makes
returns-in-Ok-clause-makes c = by_message (view c.in-Ok.message) c.in-Ok.ensures.ok.1 c.reply_to.ensures.makes

pub returns-then-is_memory-clause-said : goal.returns-then-is_memory-clause-said
returns-then-is_memory-clause-said c = no_memory no_memory_answer refl refl refl

pub returns-then-is_memory-clause-makes : goal.returns-then-is_memory-clause-makes
returns-then-is_memory-clause-makes c = by_no_memory refl ((refl, refl), c.lose_all.ensures.lost)
