use Rattle.std.proofs.Common.{subst}
use Rattle.std.proofs.lemmas.Result.{IfOk-weaker}
use Rattle.x_names.specs.DeclarerTable.{first_in}
use Rattle.x_compile.specs.Known.{known_names}
use Rattle.x_prelude.specs.Reaching.{is_marked}
use Rattle.x_prelude.proofs.LeadingLemmas.{Finds}
use Rattle.x_prelude.proofs.leading.first_led.Goals as goal

pub returns : goal.returns
returns c =
    let own = known_names c.args.known.now in
    let first = first_in c.args.names.now in
    let marks = c.in_ok-marks.marks.items in
    IfOk-weaker c.first_marked.result _ _ (λ found h named. record {
      is_led = is_marked marks;
      led = c.in_ok-marks.ensures.led named;
      first = subst (λ ms. Finds found own c.args.from_c first c.args.definitions.now ms)
          c.deref.ensures.value h named;
    }) c.first_marked.ensures
