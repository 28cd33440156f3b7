use Rattle.std.proofs.Common.{◌≡◌, ◌++◌, map, drop}
use Rattle.std.specs.List.{flat_map}
use Rattle.x_directives.specs.Spelling.{spelled}
use Rattle.x_documents.specs.Grounds.{constant_text}
use Rattle.x_documents.proofs.compiled.add_constants.Given as goal

-- with the constants that are left behind it, the text is what it is to be
abbrev pub invariant-loop-constant : goal.invariant-loop-constant
invariant-loop-constant l =
    l.text.items ++ flat_map constant_text (map spelled (drop l.constant-index l.constant-items))
    ≡ l.fn.text.items ++ flat_map constant_text (map spelled l.constant-items)
