use Rattle.std.proofs.Common.{◌+◌, arith}
use Rattle.x_value.specs.Layouts.{most_links}
use Rattle.x_value.specs.Work.{spot_of}
use Rattle.x_value.proofs.StepLemmas.{array_known, optional_known, arm_known, behind_none}
use Rattle.x_value.proofs.Weights.{light_none, light_one, light_elements}
use Rattle.x_value.proofs.reading.steps.behind_head.Goals as goal

pub returns-then-word-eq0-clause-light : goal.returns-then-word-eq0-clause-light
returns-then-word-eq0-clause-light c = light_none c.args.schema.now

pub overflow_add-result : goal.overflow_add-result
unfolding most_links
overflow_add-result c = let h = c.requires.word.value.spot.1 in omega arith

pub returns-then-word-eq0-2-clause-light : goal.returns-then-word-eq0-2-clause-light
returns-then-word-eq0-2-clause-light c = light_none c.args.schema.now

pub overflow_add-spot : goal.overflow_add-spot
unfolding most_links
overflow_add-spot c = let h = c.requires.word.value.spot.1 in omega arith

pub returns-else-word-eq0-clause-light : goal.returns-else-word-eq0-clause-light
returns-else-word-eq0-clause-light c =
    light_elements c.args.schema.now c.target-of.result c.args.word c.args.level (c.args.spot.links + 1)
    (array_known c.args.schema.now c.args.form c.form_at.result.now c.in-Array.link c.in-Array.field-1
    c.target-of.result c.form_at.ensures.sound c.requires.word.value.known c.form_at.ensures.form
    c.in-Array.is c.target-of.ensures.target) c.ranges.word.fits

pub returns-else-word-eq0-2-clause-light : goal.returns-else-word-eq0-2-clause-light
returns-else-word-eq0-2-clause-light c =
    light_one c.args.schema.now c.target.result _
    (optional_known c.args.schema.now c.args.form c.form_at.result.now c.in-Optional.link c.target.result
    c.form_at.ensures.sound c.requires.word.value.known c.form_at.ensures.form c.in-Optional.is
    c.target.ensures.target)

pub returns-in-Some-clause-typed : goal.returns-in-Some-clause-typed
returns-in-Some-clause-typed c =
    c.arm_task.ensures.typed c.args.schema.now
    (arm_known c.args.schema.now c.args.form c.form_at.result.now c.in-Union.field-0 c.in-Union.arms
    c.args.word c.arm.result c.in-Some.arm c.form_at.ensures.sound c.requires.word.value.known
    c.form_at.ensures.form c.in-Union.is c.arm.ensures c.in-Some.is)

pub returns-in-Some-clause-light : goal.returns-in-Some-clause-light
returns-in-Some-clause-light c =
    c.arm_task.ensures.light c.args.schema.now
    (arm_known c.args.schema.now c.args.form c.form_at.result.now c.in-Union.field-0 c.in-Union.arms
    c.args.word c.arm.result c.in-Some.arm c.form_at.ensures.sound c.requires.word.value.known
    c.form_at.ensures.form c.in-Union.is c.arm.ensures c.in-Some.is)

pub returns-in_default : goal.returns-in_default
returns-in_default c = record {
  jobs = behind_none c.args.schema.now c.args.form c.form_at.result.now
      (spot_of c.args.schema.now c.args.spot) c.args.word c.requires.word.headed c.form_at.ensures.form
      c.in_default.not-Array c.in_default.not-Optional c.in_default.not-Union;
  typed = tt;
  light = light_none c.args.schema.now;
}
