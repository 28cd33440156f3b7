use Rattle.std.proofs.Common.{false, sym, ◌∙◌}
use Rattle.x_documents.proofs.CompiledLemmas.{followed_so, not_compiled}
use Rattle.x_documents.proofs.StandLemmas.{stood_files, stood_text}
use Rattle.x_documents.proofs.compiled.follow_text.Goals as goal

pub returns-then-stands-clause-compiled : goal.returns-then-stands-clause-compiled
returns-then-stands-clause-compiled c =
    let files = c.args.files.now in
    let shown = c.args.shown.now in
    let stands = c.requires.stands c.if-stands.true in
    let done = c.follow_both.ensures in
    followed_so c.follow_both.result files c.args.blanks shown files shown c.args.text.now.from_c
    c.follow_both.new.text (sym (stood_files files c.args.blanks shown stands))
    (sym (stood_text c.args.blanks shown stands)) done.files done.text done.from_c done.before

pub returns-then-stands-clause-fault : goal.returns-then-stands-clause-fault
returns-then-stands-clause-fault c =
    let files = c.args.files.now in
    let shown = c.args.shown.now in
    let stands = c.requires.stands c.if-stands.true in
    let done = c.follow_both.ensures in
    not_compiled c.follow_both.result files c.args.text.now.from_c c.args.blanks false 0 shown files shown
    (sym (stood_files files c.args.blanks shown stands)) (sym (stood_text c.args.blanks shown stands))
    done.large done.in_range

pub returns-clause-compiled : goal.returns-clause-compiled
returns-clause-compiled c =
    let done = c.follow_both-2.ensures in
    followed_so c.follow_both-2.result c.args.files.now c.args.blanks c.args.shown.now c.deref.result.now
    c.deref-2.result.now c.args.text.now.from_c c.follow_both-2.new.text
    (c.deref.ensures.value ∙ c.in-Ok.ensures.files)
    (c.deref-2.ensures.value ∙ c.in-Ok.ensures.text) done.files
    done.text done.from_c done.before

pub returns-clause-fault : goal.returns-clause-fault
returns-clause-fault c =
    let done = c.follow_both-2.ensures in
    not_compiled c.follow_both-2.result c.args.files.now c.args.text.now.from_c c.args.blanks false 0
    c.args.shown.now
    c.deref.result.now c.deref-2.result.now (c.deref.ensures.value ∙ c.in-Ok.ensures.files)
    (c.deref-2.ensures.value ∙ c.in-Ok.ensures.text) done.large done.in_range
