use Rattle.std.proofs.Common.{◌≡◌, suc, ◌+◌, ◌++◌, arith, subst, ◌∙◌}
use Rattle.x_compile.specs.Compile.{definitions_of}
use Rattle.x_compile.specs.Known.{known_names}
use Rattle.x_session.specs.Session.{Compiles}
use Rattle.x_session.proofs.DeclaredLemmas.{of_each}
use Rattle.x_prelude.specs.Prelude.{lacks_name, type_text}
use Rattle.x_prelude.proofs.TypeLemmas.{all_types, types_more}
use Rattle.x_prelude.proofs.c_types.add_types_in.Goals as goal

pub loop-name-preserved : goal.loop-name-preserved
loop-name-preserved c =
    let own = known_names c.args.known.now in
    let i = c.loop-name.name-index in
    let next : i + 1 ≡ suc i = omega arith in
    let mid = c.loop-name.text.items in
    let new = c.add_type.new.text.items in
    let name = c.as_bytes.result.now in
    let declaration = c.as_bytes-in-loop-name.result.now in
    let one = subst (λ s. Compiles s.known s.text (λ items. new ≡ mid ++ type_text
    (lacks_name own (definitions_of items) name) declaration)) c.loop-name.invariant.session
    c.in_ok-add_type.ensures.text in
    record {
      session = c.in_ok-add_type.ensures.session ∙ c.loop-name.invariant.session;
      text = λ tokens items is. types_more c.args.table.now i (i + 1) _ own (definitions_of items)
          name declaration
          c.args.text.now.items mid new next c.loop-name-test.true c.as_bytes.ensures.value
          c.as_bytes-in-loop-name.ensures.value (c.loop-name.invariant.text tokens items is)
          (of_each c.args.session.now.text one tokens items is);
    }

pub returns-clause-text : goal.returns-clause-text
returns-clause-text c =
    let k = c.item_count.ensures in (
      k.0,
      k.1,
      k.2,
      all_types c.args.table.now c.loop-name.name-index (known_names c.args.known.now) (definitions_of k.1)
          c.args.text.now.items c.loop-name.text.items c.loop-name-test.false
          (c.loop-name.invariant.text k.0 k.1 k.2),
    )
