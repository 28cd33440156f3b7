use Rattle.std.proofs.Common.{◌≡◌, ◌++◌, ◌+◌, ap, arith, drop, sym, ◌∙◌}
use Rattle.x_compile.specs.declared.fault.FaultPlace.{FaultPlace}
use Rattle.x_told.proofs.ChosenLemmas.{consequence_hidden, consequence_shown, error_hidden, error_shown}
use Rattle.x_told.proofs.ChosenLemmas.{shown_in}
use Rattle.x_told.proofs.choosing.first_of.Goals as goal
use Rattle.x_told.proofs.choosing.first_of.Goals.{then-is_of_faulty+then-room-gt0+in_ok-push}
use Rattle.x_told.proofs.choosing.first_of.Goals.{then-is_of_faulty+else-room-gt0}
use Rattle.x_told.proofs.choosing.first_of.Goals.{else-is_of_faulty+then-error_room-gt0+in_ok-push-2}
use Rattle.x_told.proofs.choosing.first_of.Goals.{else-is_of_faulty+else-error_room-gt0}

pub loop-fault-preserved : goal.loop-fault-preserved
loop-fault-preserved c =
    let told = c.args.told.now in
    let list = c.loop-fault.list.items in
    let i = c.loop-fault.fault-index in
    let errors = c.loop-fault.error_room in
    let room = c.loop-fault.room in
    let all = shown_in c.args.errors c.args.consequences told in
    let lt = c.loop-fault-test.true in
    let had = c.loop-fault.invariant in
    let rest = drop (i + 1) told in
    elim c.if-is_of_faulty.branch [
      | then-is_of_faulty+then-room-gt0+in_ok-push w ↦
          let some = w.if-room-gt0.true in
          (λ j. (w.list-is j).items ++ shown_in (w.error_room-is j) (w.room-is j) rest)
          ∙ consequence_shown told list w.push.new.self.items i _ errors room _ all lt
          (sym c.is_of_faulty.ensures ∙ w.if-is_of_faulty.true) (omega (arith, some))
          w.in_ok-push.ensures.items had
      | then-is_of_faulty+else-room-gt0 w ↦
          let full = w.if-room-gt0.false in
          (λ j. (w.list-is j).items ++ shown_in (w.error_room-is j) (w.room-is j) rest)
          ∙ consequence_hidden told list i _ errors room all lt
          (sym c.is_of_faulty.ensures ∙ w.if-is_of_faulty.true) (omega (arith, full)) had
      | else-is_of_faulty+then-error_room-gt0+in_ok-push-2 w ↦
          let some = w.if-error_room-gt0.true in
          (λ j. (w.list-is j).items ++ shown_in (w.error_room-is j) (w.room-is j) rest)
          ∙ error_shown told list w.push-then-error_room-gt0.new.self.items i _ errors room _ all lt
          (sym c.is_of_faulty.ensures ∙ w.if-is_of_faulty.false) (omega (arith, some))
          w.in_ok-push-2.ensures.items had
      | else-is_of_faulty+else-error_room-gt0 w ↦
          let full = w.if-error_room-gt0.false in
          (λ j. (w.list-is j).items ++ shown_in (w.error_room-is j) (w.room-is j) rest)
          ∙ error_hidden told list i _ errors room all lt
          (sym c.is_of_faulty.ensures ∙ w.if-is_of_faulty.false) (omega (arith, full)) had
    ]
