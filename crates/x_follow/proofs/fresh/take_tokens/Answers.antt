use Rattle.std.proofs.Common.{[], ◌∷◌, ◌++◌, ◌+◌, ◌-◌, map, take, ap, ◌∙◌, arith}
use Rattle.std.proofs.lemmas.List.{map-append}
use Rattle.x_lex.specs.Places.{lexeme}
use Rattle.x_compile.proofs.WalkLemmas.{left_more, taken_more}
use Rattle.x_follow.proofs.fresh.take_tokens.Goals as goal

pub loop-taken-preserved : goal.loop-taken-preserved
loop-taken-preserved c =
    let token = c.in-Some.token in
    let count = c.args.count in
    let taken = c.loop-taken._taken in
    let next = c.next.new.self in
    let before = map lexeme c.loop-taken.part.items in
    let more = ap (map lexeme) c.in_ok-push.ensures.items
    ∙ map-append lexeme c.loop-taken.part.items (token ∷ []) in
    let lt = c.loop-taken-test.true in
    record {
      within = omega arith;
      part = ap (λ l. l ++ take (count - (taken + 1)) next) more
          ∙ taken_more before c.loop-taken.walk next (take count c.args.walk.now) (lexeme token) count taken
          (taken + 1) c.in-Some.ensures.steps (omega (arith, lt)) (omega arith) c.loop-taken.invariant.part;
      left = left_more c.loop-taken.walk next _ (lexeme token) count taken (taken + 1) c.in-Some.ensures.steps
          (omega (arith, lt)) (omega arith) c.loop-taken.invariant.left;
    }
