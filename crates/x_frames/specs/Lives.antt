-- How far a server's life is (LSP 3.17, "Server lifecycle"), and which requests it carries out then.
use Rattle.std.specs.Prelude.{ℕ, List, Bool, true, false, bytes_eq, codes, if◌then◌else◌}
use Rattle.std.specs.Prelude.{Option, Some, None, Result, Ok, Err, option_map}
use Rattle.x_frames.specs.declared.answers.ErrorCode.{ErrorCode}
use Rattle.x_frames.specs.declared.answers.ErrorCode.TheVariants.{InvalidRequest, TooLong, MethodNotFound}
use Rattle.x_frames.specs.declared.answers.ErrorCode.TheVariants.{InvalidParams, InternalError, ParseError}
use Rattle.x_frames.specs.declared.answers.ErrorCode.TheVariants.{NotInitialized, RequestFailed}
use Rattle.x_frames.specs.declared.answers.ErrorCode.TheVariants.{ContentModified, NameUnparsed, NameLifted}
use Rattle.x_frames.specs.declared.answers.ErrorCode.TheVariants.{RequestCancelled}
use Rattle.x_frames.specs.declared.life.Life.{Life}
use Rattle.x_frames.specs.declared.life.Life.TheVariants.{Fresh, Running, ShutDown, Ended}
use Rattle.x_frames.specs.declared.method.Method.{Method}
use Rattle.x_frames.specs.declared.method.Method.TheVariants.{Initialize, Shutdown, Ask}
use Rattle.x_frames.specs.declared.method.Question.{Question}
use Rattle.x_frames.specs.declared.method.Question.TheVariants.{OfDocument, OfPosition}
use Rattle.x_frames.specs.declared.method.DocumentQuestion.{DocumentQuestion}
use Rattle.x_frames.specs.declared.method.DocumentQuestion.TheVariants.{Symbols, Folds, Tokens, Text}
use Rattle.x_frames.specs.declared.method.PositionQuestion.{PositionQuestion}
use Rattle.x_frames.specs.declared.method.PositionQuestion.TheVariants.{Definition, References, Highlights}
use Rattle.x_frames.specs.declared.method.PositionQuestion.TheVariants.{Hover, Completion, PrepareRename}
use Rattle.x_frames.specs.declared.method.PositionQuestion.TheVariants.{Rename}

-- the question about a whole document that has this name, and that about a position in one
abbrev pub document_question_named : List ℕ → Option DocumentQuestion
document_question_named name =
    if bytes_eq name (codes "textDocument/documentSymbol") then Some Symbols
    else if bytes_eq name (codes "textDocument/foldingRange") then Some Folds
    else if bytes_eq name (codes "textDocument/semanticTokens/full") then Some Tokens
    else if bytes_eq name (codes "rpcgen/text") then Some Text
    else None

abbrev pub position_question_named : List ℕ → Option PositionQuestion
position_question_named name =
    if bytes_eq name (codes "textDocument/definition") then Some Definition
    else if bytes_eq name (codes "textDocument/references") then Some References
    else if bytes_eq name (codes "textDocument/documentHighlight") then Some Highlights
    else if bytes_eq name (codes "textDocument/hover") then Some Hover
    else if bytes_eq name (codes "textDocument/completion") then Some Completion
    else if bytes_eq name (codes "textDocument/prepareRename") then Some PrepareRename
    else if bytes_eq name (codes "textDocument/rename") then Some Rename
    else None

abbrev pub either_question : Option DocumentQuestion → Option PositionQuestion → Option Question
either_question (Some question) other = Some (OfDocument question)
either_question None (Some question) = Some (OfPosition question)
either_question None None = None

-- the question about a document that has this name
abbrev pub question_named : List ℕ → Option Question
question_named name = either_question (document_question_named name) (position_question_named name)

-- the request of this name
abbrev pub method_named : List ℕ → Option Method
method_named name =
    if bytes_eq name (codes "initialize") then Some Initialize
    else if bytes_eq name (codes "shutdown") then Some Shutdown
    else option_map Ask (question_named name)

-- whether the client has ended the server, and then, whether it had asked it to shut down
abbrev pub end_of : Life → Option Bool
end_of Fresh = None
end_of Running = None
end_of ShutDown = None
end_of (Ended asked) = Some asked

-- The request that is carried out; another is refused with this error. Until a client initializes the server
-- it carries nothing else out, and behind `shutdown` nothing at all.
abbrev pub admitted : Life → Option Method → Result Method ErrorCode
admitted Fresh None = Err NotInitialized
admitted Fresh (Some Initialize) = Ok Initialize
admitted Fresh (Some Shutdown) = Err NotInitialized
admitted Fresh (Some (Ask question)) = Err NotInitialized
admitted Running None = Err MethodNotFound
admitted Running (Some Initialize) = Err InvalidRequest
admitted Running (Some Shutdown) = Ok Shutdown
admitted Running (Some (Ask question)) = Ok (Ask question)
admitted ShutDown method = Err InvalidRequest
admitted (Ended asked) method = Err InvalidRequest

-- the life behind a request that got its result
abbrev pub life_behind : Life → Method → Life
life_behind life Initialize = Running
life_behind life Shutdown = ShutDown
life_behind life (Ask question) = life

abbrev pub is_shut_down : Life → Bool
is_shut_down Fresh = false
is_shut_down Running = false
is_shut_down ShutDown = true
is_shut_down (Ended asked) = false

-- the life behind a notification
abbrev pub life_noted : Life → List ℕ → Life
life_noted life method = if bytes_eq method (codes "exit") then Ended (is_shut_down life) else life

-- an error of a request that was carried out: its parameters are wrong, it asks for what may not be, or is
-- about a text that is not the client's, or memory ran out
abbrev pub is_of_request : ErrorCode → Bool
is_of_request ParseError = false
is_of_request InvalidRequest = false
is_of_request TooLong = false
is_of_request MethodNotFound = false
is_of_request InvalidParams = true
is_of_request InternalError = true
is_of_request RequestFailed = true
is_of_request (NameUnparsed line) = true
is_of_request NameLifted = true
is_of_request ContentModified = true
is_of_request RequestCancelled = false
is_of_request NotInitialized = false

-- an error of a question about a document that is in step
abbrev pub is_of_question : ErrorCode → Bool
is_of_question ContentModified = false
is_of_question code = is_of_request code
