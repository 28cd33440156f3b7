use Rattle.std.proofs.Common.{◌-◌, ◌∙◌, sym, ap, subst, get_or, leb, rules}
use Rattle.std.specs.List.Sorted.{IsNonDecreasingBy}
use Rattle.std.proofs.lemmas.List.Sorted.{IsPartitionedBy-leb, IsPartitionPoint-from_clause}
use Rattle.x_directives.specs.Branches.{said_of}
use Rattle.x_directives.proofs.BranchLemmas.{last_said, none_said}
use Rattle.x_directives.proofs.branches.LaterBranches.has.Goals as goal

pub returns-then-count-gt0 : goal.returns-then-count-gt0
returns-then-count-gt0 c =
    let turns = c.deref.result.now in
    let same = c.deref.ensures.value in
    let place = c.args.place in
    let found = c.partition_point-count in
    let last = c.index.result.now in
    let up = subst (IsNonDecreasingBy (λ t. t.start)) (sym same) c.self.invariant in
    let parts = IsPartitionPoint-from_clause (λ t. leb t.start place) turns found.result
    found.ensures.partitioned (IsPartitionedBy-leb (λ t. t.start) turns place up)
    (λ a r q k. search rules) in
    last_said turns place found.result parts found.ensures.bound last c.if-count-gt0.true
    (c.index.ensures ∙ ap (λ l. get_or l (found.result - 1) last) (sym same))
    ∙ ap (λ l. said_of l place) (same ∙ c.self.view_is)

pub returns-else-count-gt0 : goal.returns-else-count-gt0
returns-else-count-gt0 c =
    let turns = c.deref.result.now in
    let same = c.deref.ensures.value in
    let place = c.args.place in
    let found = c.partition_point-count in
    let up = subst (IsNonDecreasingBy (λ t. t.start)) (sym same) c.self.invariant in
    let parts = IsPartitionPoint-from_clause (λ t. leb t.start place) turns found.result
    found.ensures.partitioned (IsPartitionedBy-leb (λ t. t.start) turns place up)
    (λ a r q k. search rules) in
    none_said turns place found.result parts found.ensures.bound c.if-count-gt0.false
    ∙ ap (λ l. said_of l place) (same ∙ c.self.view_is)
