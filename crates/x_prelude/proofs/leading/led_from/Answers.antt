use Rattle.std.proofs.Common.{◌≡◌, ◌<◌, ◌+◌, Some, None, ap, arith, get_or, length, map, refl, subst, sym}
use Rattle.std.proofs.Common.{◌∙◌}
use Rattle.std.specs.Prelude.{slice_get}
use Rattle.std.proofs.lemmas.List.{get_or_read_under}
use Rattle.x_trees.specs.Collected.{view_mention}
use Rattle.x_trees.specs.View.{tree_at, view_definition}
use Rattle.x_names.specs.DeclarerTable.{first_in}
use Rattle.x_prelude.specs.Reaching.{AreNamesOf, AreReached, GoesOnTo}
use Rattle.x_prelude.specs.declared.leading.Reached.{Reached}
use Rattle.x_prelude.proofs.LeadingLemmas.{defined_at, used_of, uses_found}
use Rattle.x_prelude.proofs.ReachingLemmas.{IsWalk, all_done, nothing_on, order_within, walk_begins, walk_led}
use Rattle.x_prelude.proofs.ReachingLemmas.{walk_more}
use Rattle.x_prelude.proofs.leading.led_from.Goals as goal
use Rattle.x_prelude.proofs.leading.led_from.Goals.{in-Some+in_ok-read+in_ok-add_used, in_default}
use Rattle.x_prelude.proofs.leading.led_from.Goals.{else-loop-index-test, then-loop-index-test+then-index-len}

pub loop-index-init : goal.loop-index-init
loop-index-init c =
    let count = length c.args.definitions.now in
    let on = c.in_ok-add.ensures.on count c.in_ok-reached.ensures.reached in
    record {
      reached = on.reached;
      walk = λ are. walk_begins (map tree_at c.args.definitions.now) c.args.from count c.in_ok-reached.reached
          c.add.new.self c.in_ok-reached.ensures.nothing on;
    }

pub loop-index-preserved : goal.loop-index-preserved
loop-index-preserved c =
    let definitions = c.args.definitions.now in
    let ds = map tree_at definitions in
    let count = length definitions in
    let first = first_in c.args.names.now in
    let had = c.loop-index.invariant in
    let old = c.loop-index.reached in
    let index = c.loop-index.index in
    let item = c.index-item.result.now in
    let inside : index < length old.order.items = omega (arith, c.if-index-len.false, c.len.ensures) in
    let read : item ≡ get_or old.order.items index 0 = get_or_read_under old.order.items index
    (length old.order.items) item 0 c.index-item.ensures inside refl in
    let within = order_within count old index item had.reached inside c.index-item.ensures in
    let Goes : Reached → Type 0 = λ s. record {
      reached : AreReached count s;
      walk : AreNamesOf ds first → IsWalk ds c.args.from count (index + 1) s;
    } in
    elim c.match-definitions-item.branch [
      | in-Some+in_ok-read+in_ok-add_used w ↦
          let new = w.add_used.new.self in
          let on = w.in_ok-add_used.ensures count had.reached in
          let d = view_definition w.in-Some.definition.now in
          let at : slice_get ds item ≡ Some (Some d) =
          defined_at definitions item (Some w.in-Some.definition) _
          within w.in-Some.is in
          subst Goes (sym w.reached-is) (record {
            reached = on.reached;
            walk = λ are. walk_more ds c.args.from count index item old new inside read
                (subst (λ l. GoesOnTo l count old new) (uses_found ds first item d
                (map view_mention w.deref.result.now) are.1 at
                (ap (map view_mention) w.deref.ensures.value
                ∙ w.in_ok-read.ensures.mentioned (are.0 item d at))) on)
                (had.walk are);
          })
      | in_default w ↦
          let at : slice_get ds item ≡ Some None =
          defined_at definitions item None _ within w.in_default.is in
          subst Goes (sym w.reached-is) (record {
            reached = had.reached;
            walk = λ are. walk_more ds c.args.from count index item old old inside read
                (subst (λ l. GoesOnTo l count old old) (sym (used_of ds item None at))
                (nothing_on count old had.reached))
                (had.walk are);
          })
    ]

pub returns-clause-led : goal.returns-clause-led
returns-clause-led c are =
    let count = length c.args.definitions.now in
    let r = c.loop-index.reached in
    let few = all_done count r c.loop-index.invariant.reached in
    elim c.loop-index-test.branch [
      | else-loop-index-test w ↦ walk_led (map tree_at c.args.definitions.now) c.args.from count
          c.loop-index.index
          r (omega (arith, few, w.loop-index-test.false)) (c.loop-index.invariant.walk are)
      | then-loop-index-test+then-index-len w ↦ walk_led (map tree_at c.args.definitions.now)
          c.args.from count
          c.loop-index.index r (omega (arith, w.if-index-len.true, w.len.ensures))
          (c.loop-index.invariant.walk are)
    ]
