use Rattle.std.proofs.Common.{Some, inl, inr, refl, ap, sym, subst, ◌∙◌}
use Rattle.std.specs.Option.{option_copied_mut}
use Rattle.std.proofs.lemmas.Result.{on_ok_weaker}
use Rattle.x_uses.specs.Slots.{Changes}
use Rattle.x_uses.proofs.TableLemmas.{written}
use Rattle.x_uses.proofs.NoteLemmas.{declarer_noted, on_ok_both}
use Rattle.x_uses.proofs.uses.making.note_declarer.Goals as goal

pub returns-in-Some : goal.returns-in-Some
returns-in-Some c =
    let old = c.args.table.now in
    let new = c.get_mut.follows.lender c.note_declarer.new.self in
    let s = c.in-Some.slot.now in
    let w = c.note_declarer.new.self in
    let there = sym c.get_mut.ensures.value ∙ ap option_copied_mut c.in-Some.is in
    on_ok_both c.note_declarer.result
    (λ more users. declarer_noted old.entries new.entries c.args.name.now s w c.args.declarer (inl there)
    (written old new c.args.name.now s w (λ _. Some w) there refl (c.get_mut.follows.holds w)) more users)
    c.note_declarer.ensures.declarers c.note_declarer.ensures.users

pub returns : goal.returns
returns c =
    let old = c.args.table.now in
    let new = c.insert_slot.new.table in
    let w = c.note_declarer-2.new.self in
    let none = sym c.get_mut.ensures.value ∙ ap option_copied_mut c.in_default.is in
    on_ok_weaker c.insert_slot.result
    (λ put. declarer_noted old.entries new.entries c.args.name.now c.new-slot.result w c.args.declarer
    (inr (none, c.new-slot.ensures)) (subst (λ m. Changes m.entries new.entries c.args.name.now (λ _. Some w))
    c.get_mut.follows.holds-at-none put)
    c.in_ok-note_declarer.ensures.declarers c.in_ok-note_declarer.ensures.users)
    c.insert_slot.ensures.inserted
