use Rattle.std.proofs.Common.{◌≡◌, ℕ, List, ◌++◌, take}
use Rattle.x_lex.specs.declared.kind.Kind.{Kind}
use Rattle.x_compile.specs.Compile.{IsCompilation, Item, definitions_of}
use Rattle.x_compile.specs.Known.{known_names}
use Rattle.x_prelude.specs.CTypes.{view_types}
use Rattle.x_prelude.specs.Prelude.{types_in}
use Rattle.x_prelude.proofs.c_types.add_types_in.Given as goal

-- the text has the types among the entries so far
abbrev pub invariant-loop-name : goal.invariant-loop-name
invariant-loop-name l = record {
  session : l.session ≡ l.fn.session;
  text : (tokens : List (Kind × ℕ)) (items : List Item)
      → IsCompilation l.fn.session.known l.fn.session.text tokens items
      → l.text.items ≡ l.fn.text.items
      ++ types_in (view_types (take l.name-index l.table)) (known_names l.known) (definitions_of items);
}
