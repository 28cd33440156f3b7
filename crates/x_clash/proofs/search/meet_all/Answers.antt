use Rattle.std.proofs.Common.{◌≡◌, List, [], ◌∷◌, ◌++◌, map, sym, ap, subst, ◌∙◌, append_assoc, length, refl}
use Rattle.std.proofs.Common.{arith}
use Rattle.std.proofs.lemmas.List.{append-nil}
use Rattle.x_taken.specs.TakenNames.{taken_in}
use Rattle.x_clash.specs.Clashes.{Thing}
use Rattle.x_clash.specs.Table.{HasFirsts}
use Rattle.x_clash.specs.Views.{view_clash}
use Rattle.x_clash.specs.declared.given.Given.{Given}
use Rattle.x_clash.proofs.SearchLemmas.{clashes_more, things_by, things_more}
use Rattle.x_clash.proofs.search.meet_all.Goals as goal

pub loop-given-preserved : goal.loop-given-preserved
loop-given-preserved c =
    let so_far = c.loop-given.yielded in
    let g = c.in-Some.given in
    let item = c.args.item in
    let left = c.next.new.self.rest.items in
    let P : List Thing → Type 0 = λ l. HasFirsts c.meet.new.table.entries l in
    record {
      split = c.loop-given.invariant.split ∙ ap (λ l. so_far ++ l) c.in-Some.ensures.steps.0
          ∙ sym (append_assoc so_far (g ∷ []) left);
      table = λ things has. subst P (things_more item things so_far g)
          (c.in_ok-meet.ensures.table (things ++ things_by item so_far)
          (c.loop-given.invariant.table things has));
      found = λ things has. clashes_more (taken_in c.args.taken.now) item things so_far g
          (map view_clash c.args.found.now.items) (map view_clash c.loop-given.found.items)
          (map view_clash c.meet.new.found.items) (c.loop-given.invariant.found things has)
          (c.in_ok-meet.ensures.found (things ++ things_by item so_far)
          (c.loop-given.invariant.table things has));
    }

empty : (gs : List Given) → length gs ≡ 0 → gs ≡ []
empty [] h = refl
empty (g ∷ gs) h = absurd (omega (arith, h))

all : (names so_far left : List Given) → names ≡ so_far ++ left → left ≡ [] → so_far ≡ names
all names so_far left split none = sym (append-nil so_far) ∙ ap (λ l. so_far ++ l) (sym none) ∙ sym split

pub returns-clause-table : goal.returns-clause-table
returns-clause-table c things has =
    let P : List Given → Type 0 =
    λ gs. HasFirsts c.loop-given.table.entries (things ++ things_by c.args.item gs) in
    subst P (all c.args.names.items c.loop-given.yielded c.loop-given.given-iterator.rest.items
    c.loop-given.invariant.split (empty c.loop-given.given-iterator.rest.items
    (sym c.loop-given.given-iterator.rest.ok.0 ∙ c.in-None.ensures.steps.0)))
    (c.loop-given.invariant.table things has)
