-- What a server says to a message, as the program keeps it.
use Rattle.std.specs.Prelude.{ℕ, List, ◌++◌, Option, Some, codes}
use Rattle.x_contents.specs.Kept.{found_text}
use Rattle.x_documents.specs.Replies.{said_of}
use Rattle.x_lsp.specs.declared.answer.Answer.{Answer}
use Rattle.x_lsp.specs.declared.said.Said.{Said}
use Rattle.x_lsp.specs.declared.said.Said.TheVariants.{Reply, Answered}

-- the text of an answer
abbrev pub answered_text : Answer → List ℕ
answered_text answer = answer.front.items ++ found_text answer.found ++ codes "}"

abbrev pub said_by : Said → Option (List ℕ)
said_by (Reply reply) = said_of reply
said_by (Answered answer) = Some (answered_text answer)
