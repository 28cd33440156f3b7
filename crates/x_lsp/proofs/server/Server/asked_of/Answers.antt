use Rattle.std.proofs.Common.{◌≡◌, ◌∙◌, sym, true}
use Rattle.x_lsp.proofs.AnsweringLemmas.{in_step_found, in_step_place_found}
use Rattle.x_lsp.proofs.server.Server.asked_of.Goals as goal

pub returns-in-OfDocument-clause-finds : goal.returns-in-OfDocument-clause-finds
returns-in-OfDocument-clause-finds c =
    let d = c.args.document.now in
    let step : d.in_step ≡ true = sym c.is_in_step.ensures ∙ c.if-not-is_in_step.false in
    let asked = c.answer_about_document.ensures in
    in_step_found d c.args.question c.in-OfDocument.question _ c.encoding.result c.shown.result.now
    c.compiled.result.now c.answer_about_document.result step c.in-OfDocument.is
    c.encoding.ensures c.shown.ensures c.compiled.ensures (record {
      text_is = asked.value;
      code_is = asked.code;
      symbols = asked.symbols;
      folds = asked.folds;
      tokens = asked.tokens;
      told = asked.text;
    })

pub returns-in-OfPosition-clause-finds : goal.returns-in-OfPosition-clause-finds
returns-in-OfPosition-clause-finds c =
    let d = c.args.document.now in
    let step : d.in_step ≡ true = sym c.is_in_step.ensures ∙ c.if-not-is_in_step.false in
    in_step_place_found d c.args.question c.in-OfPosition.question _ c.asked_at.result step
    c.in-OfPosition.is c.asked_at.ensures.text c.asked_at.ensures.code
