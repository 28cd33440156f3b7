use Rattle.x_questions.proofs.RefusingLemmas.{found_refuses, none_refuses}
use Rattle.x_questions.proofs.questions.references.Goals as goal

pub returns-in-Some-clause-refused : goal.returns-in-Some-clause-refused
returns-in-Some-clause-refused c =
    found_refuses _ c.args.document.now.compiled.now.session c.args.document.now.shown.now c.args.at
    c.in_ok-token.field-0 c.in-Some.token c.name_unparsed.result c.in-Some.is c.in_ok-token.ensures
    c.name_unparsed.ensures

pub returns-in_ok-uses-in-None-clause-refused : goal.returns-in_ok-uses-in-None-clause-refused
returns-in_ok-uses-in-None-clause-refused c =
    none_refuses _ c.args.document.now.compiled.now.session c.args.document.now.shown.now c.args.at
    c.in_ok-token.field-0 _ c.in-None.is c.in_ok-token.ensures
