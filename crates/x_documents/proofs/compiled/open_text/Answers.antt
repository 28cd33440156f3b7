use Rattle.std.proofs.Common.{◌∙◌}
use Rattle.std.proofs.lemmas.Grind.{merely}
use Rattle.x_documents.proofs.CompiledLemmas.{not_compiled, opened_over, opened_so}
use Rattle.x_documents.proofs.compiled.open_text.Goals as goal

pub returns-clause-compiled : goal.returns-clause-compiled
returns-clause-compiled c =
    let setting = c.args.setting.now in
    let opened = c.open.ensures in
    opened_so c.open.result setting.files.now setting.blanks c.args.shown.now c.deref.result.now
    c.deref-2.result.now setting.from_c (c.deref.ensures.value ∙ c.in-Ok.ensures.files)
    (c.deref-2.ensures.value ∙ c.in-Ok.ensures.text) opened.files opened.text opened.from_c opened.before

pub returns-clause-over : goal.returns-clause-over
returns-clause-over c = opened_over c.open.result c.open.ensures.over

pub returns-clause-fault : goal.returns-clause-fault
returns-clause-fault c =
    let setting = c.args.setting.now in
    not_compiled c.open.result setting.files.now setting.from_c setting.blanks setting.warns setting.most
    c.args.shown.now c.deref.result.now
    c.deref-2.result.now (c.deref.ensures.value ∙ c.in-Ok.ensures.files)
    (c.deref-2.ensures.value ∙ c.in-Ok.ensures.text)
    (λ e. merely (c.open.ensures.large e)) c.open.ensures.in_range
