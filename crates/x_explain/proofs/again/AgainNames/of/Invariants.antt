use Rattle.std.proofs.Common.{◌≡◌, ℕ, List, drop}
use Rattle.x_lex.specs.declared.kind.Kind.{Kind}
use Rattle.x_compile.specs.Compile.{IsCompilation, Item}
use Rattle.x_explain.specs.AgainNames.{again_from, entry_at, name_at}
use Rattle.x_explain.proofs.again.AgainNames.of.Given as goal

-- the table has what is declared again from this item on
abbrev pub invariant-loop-item : goal.invariant-loop-item
invariant-loop-item l = (tokens : List (Kind × ℕ)) (items : List Item)
    → IsCompilation l.session.known l.session.text tokens items → (start : ℕ)
    → entry_at l.table.entries start ≡ name_at (again_from items l.item (drop l.item items)) start
