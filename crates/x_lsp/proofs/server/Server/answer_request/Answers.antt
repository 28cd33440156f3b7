use Rattle.std.proofs.Common.{◌≡◌, ◌∙◌, ℕ, List, Option, None, Some, Result, Ok, Err, ap, subst}
use Rattle.std.specs.Prelude.{MatchResult}
use Rattle.serde_json.specs.Data.{Data}
use Rattle.serde_json.specs.View.{view}
use Rattle.x_frames.specs.Answers.{IsRefused, IsToMethod}
use Rattle.x_frames.specs.Lives.{admitted, method_named}
use Rattle.x_documents.specs.Documents.{Document}
use Rattle.x_lsp.specs.Saying.{said_by}
use Rattle.x_documents.specs.Views.{documents_of}
use Rattle.x_frames.specs.declared.life.Life.TheVariants.{Running}
use Rattle.x_frames.specs.declared.method.Method.{Method}
use Rattle.x_frames.specs.declared.method.Method.TheVariants.{Ask, Initialize, Shutdown}
use Rattle.x_frames.specs.declared.method.Question.{Question}
use Rattle.x_lsp.specs.Answering.{IsAnsweredBy, asked_document}
use Rattle.x_lsp.specs.States.{IsAskedOf}
use Rattle.x_lsp.proofs.server.Server.answer_request.Goals as goal

pub returns-in-Ok-clause-said : goal.returns-in-Ok-clause-said
returns-in-Ok-clause-said c =
    let life = c.args.self.now.life in
    let life' = c.carry_out.new.self.life in
    let id = view c.args.id.now in
    let said = said_by c.carry_out.result in
    let is : Ok c.in-Ok.method ≡ admitted life (method_named c.args.name.now) = c.in-Ok.ensures
    ∙ ap (admitted life) c.named.ensures in
    subst (λ r. MatchResult r (λ m. IsToMethod life id m said life')
    (λ code. IsRefused id code said × (life' ≡ life))) is c.carry_out.ensures.said

method_of : {T : Type 0} → Result Method T → Method
method_of (Ok method) = method
method_of (Err code) = Shutdown

of_running : (named : Option Method) (method : Method) (id : Data) (docs : List Document)
    (params : Option Data) (said : Option (List ℕ))
    → Ok method ≡ admitted Running named
    → ((question : Question) → method ≡ Ask question
    → IsAnsweredBy id question (asked_document docs params) params said)
    → IsAskedOf id named docs params said
unfolding method_of
of_running None method id docs params said is asked = tt
of_running (Some Initialize) method id docs params said is asked = tt
of_running (Some Shutdown) method id docs params said is asked = tt
of_running (Some (Ask question)) method id docs params said is asked = asked question (ap method_of is)

pub returns-in-Ok-clause-asked : goal.returns-in-Ok-clause-asked
returns-in-Ok-clause-asked c =
    let id = view c.args.id.now in
    let said = said_by c.carry_out.result in
    let named = method_named c.args.name.now in
    λ runs.
    of_running named c.in-Ok.method id (documents_of c.args.self.now.documents) _ said
    (c.in-Ok.ensures ∙ ap (admitted c.args.self.now.life) c.named.ensures
    ∙ ap (λ l. admitted l named) runs) c.carry_out.ensures.asked
