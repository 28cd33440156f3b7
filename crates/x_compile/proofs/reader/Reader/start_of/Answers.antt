use Rattle.std.proofs.Common.{◌≡◌, ◌<◌, [], ◌∷◌, drop, inr, sym, ap, ◌∙◌, arith}
use Rattle.x_lex.specs.Places.{lexeme}
use Rattle.x_compile.specs.Compile.{start_of}
use Rattle.x_compile.specs.ItemReading.{unread}
use Rattle.x_compile.proofs.FaultLemmas.{start_there, start_nowhere}
use Rattle.x_compile.proofs.reader.Reader.start_of.Goals as goal

pub returns-in_default : goal.returns-in_default
returns-in_default c =
    let walk = c.self.inside.walk in
    let none : drop c.args.token walk ≡ [] = sym c.pass.ensures ∙ c.in_default.ensures.steps.0 in
    start_nowhere walk c.self.inside.left c.args.token (inr none)
    ∙ ap (λ v. start_of (unread v) c.args.token) c.self.view_is

pub returns : goal.returns
returns c =
    let walk = c.self.inside.walk in
    let here : drop c.args.token walk ≡ lexeme c.in-Some.token ∷ c.next.new.self = sym c.pass.ensures
    ∙ c.in-Some.ensures.steps in
    let within : c.args.token < c.self.inside.left = let more = c.if-self-token.false in
    omega (arith, more) in
    start_there walk c.self.inside.left c.args.token (lexeme c.in-Some.token) c.next.new.self within here
    ∙ ap (λ v. start_of (unread v) c.args.token) c.self.view_is
