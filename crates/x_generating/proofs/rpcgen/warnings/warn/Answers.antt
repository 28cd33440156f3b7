use Rattle.std.proofs.Common.{◌≡◌, ◌∙◌, ap, map, subst, sym, true, false}
use Rattle.x_warnings.specs.Warnings.{view_warning}
use Rattle.x_generating.specs.Warnings.{TellsThem, are_faults}
use Rattle.x_generating.proofs.ClashLemmas.{faulty_so, good_so}
use Rattle.x_generating.proofs.rpcgen.warnings.warn.Goals as goal

pub returns-then-are_faults-clause-faulty : goal.returns-then-are_faults-clause-faulty
returns-then-are_faults-clause-faulty g c e =
    let list = c.in-Ok.list.items in
    let ws = map view_warning list in
    let state = g.E.Sink.state in
    let file = c.args.file.now in
    let is : are_faults c.args.strict ws ≡ true =
    sym (ap (λ l. are_faults c.args.strict (map view_warning l)) c.deref-in-Ok.ensures.value)
    ∙ sym c.are_faults.ensures ∙ c.if-are_faults.true in
    let said = subst (λ l. TellsThem file (map view_warning l) (state c.args.err.now) (state c.say.new.err))
    c.deref.ensures.value c.say.ensures.said in
    faulty_so c.args.strict c.args.how.now.style file c.args.session.now.text (state c.args.err.now)
    (state c.say.new.err) ws is c.in-Ok.ensures said

pub returns-in-Ok-clause-good : goal.returns-in-Ok-clause-good
returns-in-Ok-clause-good g c e =
    let list = c.in-Ok.list.items in
    let ws = map view_warning list in
    let state = g.E.Sink.state in
    let file = c.args.file.now in
    let is : are_faults c.args.strict ws ≡ false =
    sym (ap (λ l. are_faults c.args.strict (map view_warning l)) c.deref-in-Ok.ensures.value)
    ∙ sym c.are_faults.ensures ∙ c.if-are_faults.false in
    let said = subst (λ l. TellsThem file (map view_warning l) (state c.args.err.now) (state c.say.new.err))
    c.deref.ensures.value c.say.ensures.said in
    good_so c.args.strict c.args.how.now.style file c.args.session.now.text (state c.args.err.now)
    (state c.say.new.err) ws is c.in-Ok.ensures said
