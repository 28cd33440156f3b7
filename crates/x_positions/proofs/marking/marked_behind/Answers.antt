use Rattle.std.proofs.Common.{◌≡◌, ◌∙◌, ◌+◌, ◌-◌, ◌≤◌, ap, sym, subst, arith, length, drop}
use Rattle.std.specs.Prelude.{All}
use Rattle.x_positions.specs.Waymarks.{IsAt, IsWaymark}
use Rattle.x_positions.proofs.MarkLemmas.{behind_edit, left_size, stay_in}
use Rattle.x_positions.proofs.marking.marked_behind.Goals as goal

pub keep_before-requires-clause-marks : goal.keep_before-requires-clause-marks
keep_before-requires-clause-marks c =
    stay_in c.args.encoding _ c.args.marks.now c.args.edit.now c.args.text.now _
    c.at_start-marker.ensures.encoding c.at_start-marker.ensures.text c.requires.left

pub overflow_add-inserted-in-Some : goal.overflow_add-inserted-in-Some
overflow_add-inserted-in-Some c =
    let h = c.requires.left in
    let sizes = left_size c.args.encoding c.args.marks.now c.args.edit.now c.args.text.now h in
    let from = (c.in-Some.ensures.1 c.args.encoding h.old h.marked).0.within in
    let small = c.requires.small in
    let found = c.in-Some.ensures.0 in
    omega (arith, sizes, from, small, found)

pub mark_until-requires-clause-within : goal.mark_until-requires-clause-within
mark_until-requires-clause-within c =
    let h = c.requires.left in
    let sizes = left_size c.args.encoding c.args.marks.now c.args.edit.now c.args.text.now h in
    let from = (c.in-Some.ensures.1 c.args.encoding h.old h.marked).0.within in
    let found = c.in-Some.ensures.0 in
    let same = ap length (c.in_ok-keep_before.ensures.text ∙ c.at_start-marker.ensures.text) in
    omega (arith, sizes, from, found, same)

pub mark_moved-requires : goal.mark_moved-requires
mark_moved-requires c =
    let h = c.requires.left in
    let edit = c.args.edit.now in
    let from = c.in-Some.from in
    let self = c.mark_until.new.self in
    let found = c.in-Some.ensures.1 c.args.encoding h.old h.marked in
    let least = c.in-Some.ensures.0 in
    let text : self.text.now ≡ c.args.text.now = c.in_ok-mark_until-in-Some.ensures.text
    ∙ c.in_ok-keep_before.ensures.text ∙ c.at_start-marker.ensures.text in
    let encoding : self.encoding ≡ c.args.encoding = c.in_ok-mark_until-in-Some.ensures.encoding
    ∙ c.in_ok-keep_before.ensures.encoding ∙ c.at_start-marker.ensures.encoding in
    let behind : edit.end ≤ from.at = omega (arith, least) in
    let same = behind_edit c.args.encoding c.args.marks.now edit c.args.text.now from.at h behind in (
      h.old,
      record {
        small = h.small;
        from_at = subst (λ e. IsAt e h.old from.at from.position) (sym encoding) found.0;
        to_at = self.passed;
        same = same ∙ ap (drop (edit.start + length edit.insert.now + (from.at - edit.end))) (sym text)
            ∙ ap (λ n. drop n self.text.now) (sym c.in_ok-mark_until-in-Some.ensures.last);
      },
      subst (λ e. All (IsWaymark e h.old) c.in-Some.rest.now) (sym encoding) found.1,
    )
