use Rattle.std.proofs.Common.{◌≡◌, Some, sym, subst, ◌∙◌}
use Rattle.std.proofs.lemmas.Slice.Eq.{bytes_eq-Decides}
use Rattle.x_uses.specs.Slots.{slot_at}
use Rattle.x_uses.proofs.uses.replacing.stands_in.Goals as goal

pub returns-in-Some : goal.returns-in-Some
returns-in-Some c is =
    let es = c.args.table.now.entries in
    let key = c.in-Some.key.now in
    let slot = c.in-Some._slot.now in
    let same : c.args.name.now ≡ key.items =
    (bytes_eq-Decides c.args.name.now c.as_slice.result.now).0 (sym c.eq.ensures ∙ is)
    ∙ c.as_slice.ensures.value in
    record {
      entry = (key, slot);
      there = sym c.in-Some.ensures.entry;
      is = sym same;
      slot = subst (λ n. slot_at es n ≡ Some slot) (sym same) c.in-Some.ensures.value;
    }
