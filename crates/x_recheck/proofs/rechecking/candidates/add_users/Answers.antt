use Rattle.std.proofs.Common.{◌≡◌, ◌≤◌, ℕ, Some, true, length, get_or, arith, sym, subst}
use Rattle.std.proofs.lemmas.Grind.{get_or_default_zero}
use Rattle.std.specs.List.{IsAmong}
use Rattle.x_recheck.specs.Editing.{definitions_after, old_number}
use Rattle.x_recheck.specs.inside.Deciding.{text_edit, is_waiting}
use Rattle.x_recheck.proofs.UserLemmas.{user_within, kept_user}
use Rattle.x_recheck.proofs.WaitingLemmas.{adds_more}
use Rattle.x_recheck.proofs.WalkLemmas.{each_next, each_all}
use Rattle.x_recheck.proofs.rechecking.candidates.add_users.Goals as goal

pub add_user-requires-clause-was : goal.add_user-requires-clause-was
add_user-requires-clause-was g c =
    let users = c.users-user-items.result.now in
    let index = c.loop-user.user-index in
    let user = get_or users index 0 in
    let among : IsAmong users user =
    (index, (c.loop-user-test.true, sym (get_or_default_zero users index user c.loop-user-test.true))) in
    let lt = user_within 0 (text_edit g.L.CheckedItems.text c.args.items.now).old c.args.name.now user
    (subst (λ l. IsAmong l user) c.users-user-items.ensures among) in
    omega (arith, lt)

pub loop-user-preserved : goal.loop-user-preserved
loop-user-preserved g c =
    let users = c.users-user-items.result.now in
    let index = c.loop-user.user-index in
    let user = get_or users index 0 in
    let before = c.loop-user.queue in
    let now = c.add_user.new.queue in
    let adds = c.in_ok-add_user.ensures.adds in
    record {
      adds = adds_more c.args.queue.now before now c.args.low
          (length (definitions_after (text_edit g.L.CheckedItems.text c.args.items.now)))
          c.loop-user.invariant.adds adds;
      waits = each_next (λ was. (k : ℕ) → c.args.low ≤ k → old_number c.args.items.now.place k ≡ Some was
          → is_waiting before k ≡ true)
          (λ was. (k : ℕ) → c.args.low ≤ k → old_number c.args.items.now.place k ≡ Some was
          → is_waiting now k ≡ true)
          users index user c.loop-user-test.true
          (sym (get_or_default_zero users index user c.loop-user-test.true))
          (λ was h k le kept. adds.keeps k (h k le kept)) c.loop-user.invariant.waits
          c.in_ok-add_user.ensures.waits;
    }

pub returns-clause-waits : goal.returns-clause-waits
returns-clause-waits g c k le u =
    let e = text_edit g.L.CheckedItems.text c.args.items.now in
    let among = subst (λ l. IsAmong l u.was) (sym c.users-user-items.ensures)
    (kept_user e k c.args.name.now c.requires.edit u) in
    each_all (λ was. (k : ℕ) → c.args.low ≤ k → old_number c.args.items.now.place k ≡ Some was
    → is_waiting c.loop-user.queue k ≡ true)
    c.users-user-items.result.now c.loop-user.user-index c.loop-user-test.false c.loop-user.invariant.waits
    u.was among k le u.kept
