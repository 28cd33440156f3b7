use Rattle.std.proofs.Common.{◌≡◌, ◌++◌, [], map, take}
use Rattle.std.specs.Cow.{cow_slice_items}
use Rattle.x_rules.proofs.rules.sights.list_names.Given as goal

-- the names so far
abbrev pub invariant-loop-name : goal.invariant-loop-name
invariant-loop-name l = l.fn.names.items ≡ []
    → map (λ x. x.now) l.names.items ≡ map (λ d. cow_slice_items d.name) (take l.name-index l.declared)

abbrev pub invariant-loop-mention : goal.invariant-loop-mention
invariant-loop-mention l =
    l.fn.names.items ≡ [] → map (λ x. x.now) l.names.items ≡ map (λ d. cow_slice_items d.name) l.declared
    ++ map (λ m. m.name.now) (take l.mention-index l.mentions)
