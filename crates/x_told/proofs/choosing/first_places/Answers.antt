use Rattle.std.proofs.Common.{◌≡◌, ◌++◌, ◌-◌, ◌≤◌, ◌∙◌, ◌∷◌, [], ap, append_assoc, arith, false, length, sym}
use Rattle.std.proofs.Common.{true}
use Rattle.std.specs.List.{filter}
use Rattle.x_told.specs.Choosing.{chosen, is_error}
use Rattle.x_told.proofs.ChosenLemmas.{enough_errors, room_behind}
use Rattle.x_told.proofs.choosing.first_places.Goals as goal
use Rattle.x_told.proofs.choosing.first_places.Goals.{then-not-is_of_faulty, else-not-is_of_faulty}

pub returns-then-room-eq0 : goal.returns-then-room-eq0
returns-then-room-eq0 c =
    let h = c.fault_places-place-items.ensures in
    let most = c.args.most in
    let places = c.loop-place.places.items in
    let p = c.in-Some.place in
    let rest = c.next.new.self in
    let room = c.loop-place.room in
    let left : c.if-not-is_of_faulty.room ≡ most - length (filter is_error (places ++ p ∷ [])) =
    elim c.if-not-is_of_faulty.branch [
      | then-not-is_of_faulty w ↦
          room_behind most places p room c.if-not-is_of_faulty.room false
          (sym w.if-not-is_of_faulty.true ∙ c.is_of_faulty.ensures) c.loop-place.invariant.room
          (w.room-is ∙ w.saturating_sub-room.ensures)
      | else-not-is_of_faulty w ↦
          room_behind most places p room c.if-not-is_of_faulty.room true
          (sym w.if-not-is_of_faulty.false ∙ c.is_of_faulty.ensures) c.loop-place.invariant.room w.room-is
    ] in
    let full = c.if-room-eq0.true in
    let few : most ≤ length (filter is_error (places ++ p ∷ [])) = omega (arith, left, full) in
    let whole = append_assoc places (p ∷ []) rest ∙ ap (λ l. places ++ l) (sym c.in-Some.ensures.steps)
    ∙ c.loop-place.invariant.parts ∙ c.into_iter-place-iterator.ensures.into_iter_gives in (
      h.0,
      h.1,
      h.2,
      ap (chosen most) c.in_ok-push.ensures.items ∙ enough_errors most (places ++ p ∷ []) rest few
          ∙ ap (chosen most) (whole ∙ h.3),
    )
