use Rattle.std.proofs.Common.{◌≡◌, ◌∙◌, ap, length}
use Rattle.std.specs.Prelude.{option_and_then, slice_get}
use Rattle.x_session.proofs.DeclaredLemmas.{got, got_list, looked_up, word_items}
use Rattle.x_session.proofs.declared.DeclaredNames.word.Goals as goal

pub returns-clause-by_table : goal.returns-clause-by_table
returns-clause-by_table c =
    let item = c.args.item in
    let number = c.args.word in
    let words = c.in_ok-words.words.now in
    let at = c.in_ok-words.ensures.lookup in
    let word = c.get-2.ensures.lookup in
    let one = got_list (λ v. v.items) c.args.self.now.words.items c.deref.result.now item words
    c.deref.ensures.value at.3.0 at.1 in
    let known = looked_up c.get-2.result (length c.deref-2.result.now) number _ word.3 in
    c.copied.ensures
    ∙ got c.get-2.result words.items c.deref-2.result.now number c.deref-2.ensures.value word.1 known
    ∙ ap (option_and_then (λ w. slice_get w number)) one

pub returns-clause-by_items : goal.returns-clause-by_items
returns-clause-by_items c = λ text items h.
    returns-clause-by_table c ∙ word_items text items c.args.self.now c.args.item c.args.word h
