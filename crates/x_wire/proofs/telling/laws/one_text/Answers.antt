use Rattle.x_wire.proofs.OneText.{one_text_of, one_stream_text}
use Rattle.x_wire.proofs.telling.laws.one_text.Goals as goal

pub returns : goal.returns
returns c = record {
  messages = λ s messages t u. one_text_of s messages t u;
  stream = λ s stream t u. one_stream_text s stream t u;
}
