use Rattle.std.proofs.Common.{ap, sym, subst, ◌∙◌, arith}
use Rattle.std.specs.List.{IsAmong}
use Rattle.std.specs.Prelude.{is_some, slice_index_or, IsTrue}
use Rattle.x_recheck.specs.inside.Deciding.{text_edit}
use Rattle.x_recheck.proofs.UserLemmas.{user_within, kept_user, none_among, only_kept, first_among}
use Rattle.x_recheck.proofs.rechecking.candidates.may_have_kept_users.Goals as goal

pub new_number-requires-clause-item : goal.new_number-requires-clause-item
new_number-requires-clause-item g c =
    let users = c.users.result.now in
    let lt = user_within 0 (text_edit g.L.CheckedItems.text c.args.items.now).old c.args.name.now
    (slice_index_or users 0 0) (subst (λ l. IsAmong l (slice_index_or users 0 0)) c.users.ensures
    (first_among users c.in-len1.len_at_least)) in
    omega (arith, lt)

pub returns-in-empty : goal.returns-in-empty
returns-in-empty g c k u =
    let e = text_edit g.L.CheckedItems.text c.args.items.now in
    absurd (none_among c.users.result.now c.in-empty.len_below u.was
    (subst (λ l. IsAmong l u.was) (sym c.users.ensures) (kept_user e k c.args.name.now c.requires.edit u)))

pub returns-in-len1 : goal.returns-in-len1
returns-in-len1 g c k u =
    let e = text_edit g.L.CheckedItems.text c.args.items.now in
    let among = subst (λ l. IsAmong l u.was) (sym c.users.ensures)
    (kept_user e k c.args.name.now c.requires.edit u) in
    subst IsTrue (ap is_some (sym c.new_number.ensures) ∙ sym c.is_some.ensures)
    (only_kept c.args.items.now.place c.users.result.now c.in-len1.len_below k u.was among u.kept)
