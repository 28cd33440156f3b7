use Rattle.std.proofs.Common.{◌≡◌, ◌∙◌, ◌+◌, ◌-◌, ap, sym, subst, arith, length, drop}
use Rattle.std.specs.Prelude.{All}
use Rattle.x_positions.specs.Waymarks.{IsAt, IsWaymark}
use Rattle.x_positions.proofs.MarkLemmas.{behind_edit, left_within, stay_in}
use Rattle.x_positions.proofs.marking.kept_behind.Goals as goal

pub keep_before-requires-clause-marks : goal.keep_before-requires-clause-marks
keep_before-requires-clause-marks c =
    stay_in c.args.encoding _ c.args.marks.now c.args.edit.now c.args.text.now _
    c.at_start-marker.ensures.encoding c.at_start-marker.ensures.text c.requires.left

pub overflow_add-at-in-Some : goal.overflow_add-at-in-Some
overflow_add-at-in-Some c =
    let h = c.requires.left in
    let from = c.in-Some.ensures in
    let within = left_within c.args.encoding c.args.marks.now c.args.edit.now c.args.text.now
    c.in-Some.from.at _ h from.0 (from.1 c.args.encoding h.old h.marked).0 in
    let small = c.requires.small in
    omega (arith, within, small)

pub spot_from-marker-requires-clause-from : goal.spot_from-marker-requires-clause-from
spot_from-marker-requires-clause-from c =
    c.last_before.ensures.spot c.args.encoding c.args.text.now c.requires.others

pub spot_from-marker-requires-clause-within : goal.spot_from-marker-requires-clause-within
spot_from-marker-requires-clause-within c =
    let h = c.requires.left in
    let from = c.in-Some.ensures in
    left_within c.args.encoding c.args.marks.now c.args.edit.now c.args.text.now c.in-Some.from.at _ h from.0
    (from.1 c.args.encoding h.old h.marked).0

pub mark_moved-requires : goal.mark_moved-requires
mark_moved-requires c =
    let h = c.requires.left in
    let e = c.args.encoding in
    let edit = c.args.edit.now in
    let from = c.in-Some.from in
    let to = c.spot_from-marker.result in
    let self = c.keep_before.new.self in
    let found = c.in-Some.ensures.1 e h.old h.marked in
    let text : self.text.now ≡ c.args.text.now = c.in_ok-keep_before.ensures.text
    ∙ c.at_start-marker.ensures.text in
    let encoding : self.encoding ≡ e = c.in_ok-keep_before.ensures.encoding
    ∙ c.at_start-marker.ensures.encoding in
    let same = behind_edit e c.args.marks.now edit c.args.text.now from.at h c.in-Some.ensures.0 in
    let at : to.at ≡ edit.start + length edit.insert.now + (from.at - edit.end) =
    c.spot_from-marker.ensures.at in
    let there = subst (λ n. IsAt e c.args.text.now n to.position)
    (sym at) c.spot_from-marker.ensures.spot in (
      h.old,
      record {
        small = h.small;
        from_at = subst (λ v. IsAt v h.old from.at from.position) (sym encoding) found.0;
        to_at = subst (λ v. IsAt v self.text.now to.at to.position) (sym encoding)
            (subst (λ t. IsAt e t to.at to.position) (sym text) there);
        same = same ∙ ap (drop (edit.start + length edit.insert.now + (from.at - edit.end))) (sym text)
            ∙ ap (λ n. drop n self.text.now) (sym at);
      },
      subst (λ v. All (IsWaymark v h.old) c.in-Some.rest.now) (sym encoding) found.1,
    )
