use Rattle.std.proofs.Common.{ap, refl, sym, subst, ◌∙◌}
use Rattle.std.specs.Prelude.{option_map}
use Rattle.std.specs.Option.{option_copied_mut}
use Rattle.x_uses.specs.Slots.{slot_stays, Changes}
use Rattle.x_uses.proofs.TableLemmas.{written_in, not_missing}
use Rattle.x_uses.proofs.uses.replacing.take_out_near.Goals.{in-Some, in_default}
use Rattle.x_uses.proofs.uses.replacing.take_out_near.Goals as goal

pub returns : goal.returns
returns c =
    let old = c.args.table.now in
    let name = c.args.name.now in
    let f = slot_stays c.args.place in
    let stands = c.if-not-stands_in.ensures refl in
    let value = sym c.get_index_mut.ensures.value in
    elim c.match-get_index_mut.branch [
      | in-Some w ↦
          subst (λ t. Changes old.entries t.entries name (option_map f)) (sym w.table-is)
          (written_in old c.args.near name w.in-Some.slot.now w.take_out.new.self f
          c.get_index_mut.ensures.unique stands (value ∙ ap option_copied_mut w.in-Some.is)
          w.take_out.ensures)
      | in_default w ↦ absurd
          (not_missing old c.args.near name stands (value ∙ ap option_copied_mut w.in_default.is))
    ]
