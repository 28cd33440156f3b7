use Rattle.x_recheck.proofs.rechecking.candidates.is_alike.Goals as goal

pub is_former-requires-clause-after : goal.is_former-requires-clause-after
is_former-requires-clause-after g c = c.requires.after c.in-Some-Some.after c.in-Some-Some.is-1
