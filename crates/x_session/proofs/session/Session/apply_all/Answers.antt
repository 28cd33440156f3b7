use Rattle.std.proofs.Common.{◌≡◌, suc, ◌+◌, [], ◌∷◌, ◌++◌, take, drop, get_or, ap, sym, subst, ◌∙◌, arith}
use Rattle.x_text.specs.declared.text.edit.Edit.{Edit}
use Rattle.std.proofs.lemmas.List.{take_all}
use Rattle.x_session.specs.Work.{IsWorkOfAll}
use Rattle.x_session.proofs.EditLists.{HasTaken, taken_more, stops_at}
use Rattle.x_lists.proofs.ListLemmas.{drop_one, take_next}
use Rattle.x_session.proofs.WorkLemmas.{worked_more}
use Rattle.x_session.proofs.session.Session.apply_all.Goals as goal

-- what stands where there is no edit
abbrev none : Edit
none = record { start = 0; end = 0; insert = record { ref_ptr = (0, 0); now = [] } }

pub loop-index-preserved : goal.loop-index-preserved
loop-index-preserved c =
    let text = c.args.self.now.text in
    let edits = c.args.edits.now in
    let index = c.loop-index.index in
    let now = c.loop-index.self.text in
    let taken = subst (λ es. HasTaken text edits es now index)
    (drop_one edits index none c.loop-index-test.true) c.loop-index.invariant.0 in
    let one : suc index ≡ index + 1 = omega arith in
    let front : take (index + 1) edits ≡ take index edits ++ get_or edits index none ∷ [] =
    sym (ap (λ n. take n edits) one) ∙ take_next edits index (get_or edits index none)
    (drop (index + 1) edits) (drop_one edits index none c.loop-index-test.true) in (
      taken_more text edits (drop (index + 1) edits) (get_or edits index none) now c.apply.new.self.text index
          taken c.in-Ok.ensures.fault.fits c.in-Ok.ensures.text,
      c.in-Ok.ensures.base ∙ c.loop-index.invariant.1,
      c.in-Ok.ensures.known ∙ c.loop-index.invariant.2,
      subst (λ es. IsWorkOfAll c.args.self.now es c.apply.new.self c.with-total.result) (sym front)
          (worked_more c.args.self.now c.loop-index.self c.apply.new.self (take index edits)
          (get_or edits index none) c.loop-index.total c.with-total.result c.in-Ok.work
          c.loop-index.invariant.3
          (record {
            text_is = c.in-Ok.ensures.text;
            base_is = c.in-Ok.ensures.base;
            known_is = c.in-Ok.ensures.known;
          }) c.in-Ok.ensures.work c.with-total.ensures),
    )

pub returns-in-Err-clause-stops : goal.returns-in-Err-clause-stops
returns-in-Err-clause-stops c =
    let text = c.args.self.now.text in
    let edits = c.args.edits.now in
    let index = c.loop-index.index in
    let now = c.loop-index.self.text in
    let edit = get_or edits index none in
    let taken = subst (λ es. HasTaken text edits es now index)
    (drop_one edits index none c.loop-index-test.true) c.loop-index.invariant.0 in
    stops_at text edits (drop (index + 1) edits) edit now c.apply.new.self.text index c.in-Err.fault taken
    (ap (λ s. s.text) c.in-Err.ensures.same)
    c.in-Err.ensures.fault

pub returns-in-Err-clause-done : goal.returns-in-Err-clause-done
returns-in-Err-clause-done c = (
  c.loop-index.total,
  subst (λ d. IsWorkOfAll c.args.self.now (take c.loop-index.index c.args.edits.now) d c.loop-index.total)
      (sym c.in-Err.ensures.same) c.loop-index.invariant.3,
)

pub returns-clause-works : goal.returns-clause-works
returns-clause-works c = subst (λ es. IsWorkOfAll c.args.self.now es c.loop-index.self c.loop-index.total)
    (take_all c.loop-index.index c.args.edits.now c.loop-index-test.false) c.loop-index.invariant.3
