use Rattle.std.proofs.Common.{◌≡◌, ◌∙◌, ap, map, subst, sym, true, false}
use Rattle.x_warnings.specs.Warnings.{view_warning}
use Rattle.x_generating.specs.Generate.{no_room}
use Rattle.x_generating.specs.Warnings.{TellsThem, are_faults}
use Rattle.x_generating.proofs.ClashLemmas.{faulty_so, good_so, mapped_none, plain_so}
use Rattle.x_generating.proofs.rpcgen.write_checked.Goals as goal

pub returns-in-Err-clause-failed : goal.returns-in-Err-clause-failed
returns-in-Err-clause-failed g c e = no_room c.tell_of_file.ensures

pub returns-then-are_faults-clause-faulty : goal.returns-then-are_faults-clause-faulty
returns-then-are_faults-clause-faulty g c e =
    let strict = c.args.args.now.strict in
    let ws = map view_warning c.in-Ok.list.items in
    let state = g.E.Sink.state in
    let file = c.args.args.now.file.now in
    let is : are_faults strict ws ≡ true =
    sym (ap (λ l. are_faults strict (map view_warning l)) c.deref.ensures.value)
    ∙ sym c.are_faults.ensures ∙ c.if-are_faults.true in
    let said = subst (λ l. TellsThem file (map view_warning l) (state c.args.err.now) (state c.say.new.err))
    c.deref-then-are_faults.ensures.value c.say.ensures.said in
    faulty_so strict c.args.how.now.style file c.args.session.now.text (state c.args.err.now)
    (state c.say.new.err) ws is c.in-Ok.ensures said

pub returns-clause-good : goal.returns-clause-good
returns-clause-good g c done =
    let strict = c.args.args.now.strict in
    let ws = map view_warning c.in-Ok.list.items in
    let state = g.E.Sink.state in
    let file = c.args.args.now.file.now in
    let end = state c.write_and_say.new.err in
    let is : are_faults strict ws ≡ false =
    sym (ap (λ l. are_faults strict (map view_warning l)) c.deref.ensures.value)
    ∙ sym c.are_faults.ensures ∙ c.if-are_faults.false in
    let said = subst (λ l. TellsThem file (map view_warning l) (state c.args.err.now) end)
    c.deref-2.ensures.value (c.write_and_say.ensures.said done) in
    good_so strict c.args.how.now.style file c.args.session.now.text (state c.args.err.now) end ws is
    c.in-Ok.ensures said

pub returns-clause-quiet : goal.returns-clause-quiet
returns-clause-quiet g c plain done =
    let strict = c.args.args.now.strict in
    let list = c.in-Ok.list.items in
    let ws = map view_warning list in
    let is : are_faults strict ws ≡ false =
    sym (ap (λ l. are_faults strict (map view_warning l)) c.deref.ensures.value)
    ∙ sym c.are_faults.ensures ∙ c.if-are_faults.false in
    let none = plain_so strict c.args.how.now.style c.args.session.now.text ws plain is c.in-Ok.ensures in
    c.write_and_say.ensures.quiet (c.deref-2.ensures.value ∙ mapped_none view_warning list none) done
