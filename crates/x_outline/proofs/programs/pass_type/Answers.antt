use Rattle.std.proofs.Common.{[], length, OnOk, sym, subst}
use Rattle.std.proofs.lemmas.Result.{on_ok_weaker}
use Rattle.x_trees.specs.Spell.{spell_basic, spell_type, spell_body}
use Rattle.x_trees.specs.View.{view_type, view_body}
use Rattle.x_outline.specs.BodyWalks.{Passes}
use Rattle.x_outline.specs.MemberWalks.{Skips}
use Rattle.x_outline.proofs.MemberWalkLemmas.{skips_inline}
use Rattle.x_outline.proofs.programs.pass_type.Goals as goal

pub returns-in-Basic : goal.returns-in-Basic
returns-in-Basic c =
    let words : Passes c.args.walk.now c.skip.new.self (length (spell_basic c.in-Basic.basic)) =
    rw c.word_count.ensures at c.skip.ensures in
    subst (λ x. Skips c.args.walk.now c.skip.new.self (length (spell_type (view_type x)))) (sym c.in-Basic.is)
    (words [] []).bodies

pub returns-in-Named : goal.returns-in-Named
returns-in-Named c =
    subst (λ x. Skips c.args.walk.now c.skip-in-Named.new.self (length (spell_type (view_type x))))
    (sym c.in-Named.is) (c.skip-in-Named.ensures [] []).bodies

pub returns-in-Tagged : goal.returns-in-Tagged
returns-in-Tagged c =
    subst (λ x. Skips c.args.walk.now c.skip-in-Tagged.new.self (length (spell_type (view_type x))))
    (sym c.in-Tagged.is) (c.skip-in-Tagged.ensures [] []).bodies

pub returns-in-Inline : goal.returns-in-Inline
returns-in-Inline c =
    let body = view_body c.in-Inline.body.value in
    subst (λ x. OnOk c.pass.result
    (Skips c.args.walk.now c.pass.new.self (length (spell_type (view_type x))))) (sym c.in-Inline.is)
    (on_ok_weaker c.pass.result
    (λ x. let inside : Skips c.skip-in-Inline.new.self c.pass.new.self (length (spell_body body)) =
    rw c.deref.ensures at x in
    skips_inline c.args.walk.now c.skip-in-Inline.new.self c.pass.new.self body
    (c.skip-in-Inline.ensures [] []).bodies inside)
    c.pass.ensures)
