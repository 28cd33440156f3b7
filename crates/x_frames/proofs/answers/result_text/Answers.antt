use Rattle.serde_json.specs.View.{view}
use Rattle.x_frames.proofs.answers.result_text.Goals as goal

pub returns-in-Ok-clause-text : goal.returns-in-Ok-clause-text
returns-in-Ok-clause-text c = (view c.args.found.now, c.in-Ok.ensures.text c.requires)
