use Rattle.std.proofs.Common.{◌≡◌, ◌+◌, ◌∷◌, ◌++◌, length, drop, sym, ap, subst, ◌∙◌, arith}
use Rattle.x_lex.specs.Places.{lexemes}
use Rattle.x_compile.specs.FaultWalk.{ArePassed, faults_behind}
use Rattle.x_compile.specs.KeptView.{IsMarked}
use Rattle.x_compile.proofs.FaultLemmas.{no_places, ordered_rest}
use Rattle.x_compile.proofs.WalkedItems.{end_by_bytes, end_within, faults_next, stand_behind, stand_within}
use Rattle.x_compile.proofs.item_walk.ItemWalk.next_faulty.Goals as goal

pub overflow_add-self : goal.overflow_add-self
overflow_add-self c =
    let before = c.items.self-inside in
    let is = end_by_bytes before.source.now before.tokens.now.list before.token before.start
    c.in_ok-entry.entry.now before.entries c.next.new.self c.items.invariant.tokens
    c.in_ok-entry.ensures.steps c.items.invariant.stand in
    let within = end_within before.source.now before.tokens.now.list
    (before.token + c.in_ok-entry.entry.now.tokens) c.items.invariant.tokens in
    let small = c.items.invariant.places in
    omega (arith, is, within, small)

pub overflow_add-self-in-items : goal.overflow_add-self-in-items
overflow_add-self-in-items c =
    let before = c.items.self-inside in
    let within = stand_within before.source.now before.tokens.now.list before.token before.start
    c.in_ok-entry.entry.now before.entries c.next.new.self c.in_ok-entry.ensures.steps
    c.items.invariant.stand in
    let small = c.items.invariant.small in
    omega (arith, within, small)

pub of-requires-clause-marked : goal.of-requires-clause-marked
of-requires-clause-marked c =
    let before = c.items.self-inside in
    (subst (ArePassed (drop before.token (lexemes before.source.now before.tokens.now.list)))
    c.in_ok-entry.ensures.steps c.items.invariant.stand.passed).2

pub invariant_of-self-then-is_faulty : goal.invariant_of-self-then-is_faulty
invariant_of-self-then-is_faulty c =
    let before = c.items.self-inside in
    let e = c.in_ok-entry.entry.now in
    let es = c.next.new.self in
    let all : before.entries ≡ e ∷ es = c.in_ok-entry.ensures.steps in
    let few = c.items.invariant.few in
    let one = ap length all in (
      c.items.invariant.tokens,
      stand_behind before.source.now before.tokens.now.list before.token before.start (before.start + e.bytes)
          e before.entries es all c.items.invariant.stand
          (end_by_bytes before.source.now before.tokens.now.list before.token before.start e before.entries es
          c.items.invariant.tokens all c.items.invariant.stand),
      ordered_rest e before.entries es all c.items.invariant.ordered,
      omega (arith, few, one),
    )

pub items-preserved : goal.items-preserved
items-preserved c =
    let before = c.items.self-inside in
    let text = before.source.now in
    let ts = before.tokens.now.list in
    let e = c.in_ok-entry.entry.now in
    let es = c.next.new.self in
    let all : before.entries ≡ e ∷ es = c.in_ok-entry.ensures.steps in
    let marked : IsMarked e.kept =
    (subst (ArePassed (drop before.token (lexemes text ts))) all c.items.invariant.stand.passed).2 in
    let few = c.items.invariant.few in
    let one = ap length all in
    record {
      tokens = c.items.invariant.tokens;
      stand = stand_behind text ts before.token before.start (before.start + e.bytes) e before.entries es all
          c.items.invariant.stand (end_by_bytes text ts before.token before.start e before.entries es
          c.items.invariant.tokens all c.items.invariant.stand);
      ordered = ordered_rest e before.entries es all c.items.invariant.ordered;
      small = c.items.invariant.small;
      places = c.items.invariant.places;
      few = omega (arith, few, one);
      left = sym (ap (λ l. l ++ faults_behind text ts (before.token + e.tokens) (before.number + 1) es)
          (no_places before.number (drop before.token (lexemes text ts)) e marked
          (sym c.is_faulty.ensures ∙ c.if-is_faulty.false)))
          ∙ sym (faults_next text ts before.token before.number e before.entries es all)
          ∙ c.items.invariant.left;
    }
