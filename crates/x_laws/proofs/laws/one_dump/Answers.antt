use Rattle.x_laws.proofs.OneDump.{one_messages, one_stream}
use Rattle.x_laws.proofs.laws.one_dump.Goals as goal

pub returns-clause-messages : goal.returns-clause-messages
returns-clause-messages c = one_messages

pub returns-clause-stream : goal.returns-clause-stream
returns-clause-stream c = one_stream
