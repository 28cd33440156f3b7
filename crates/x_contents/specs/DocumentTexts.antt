-- What is told of a document as a text.
use Rattle.std.specs.Prelude.{ℕ, List}
use Rattle.std.specs.List.{flat_map}
use Rattle.x_compile.specs.Compile.{Item, faults_of}
use Rattle.x_compile.specs.Generated.{text_of}
use Rattle.x_session.specs.FaultLines.{fault_line}
use Rattle.x_contents.specs.declared.wanted.Wanted.{Wanted}
use Rattle.x_contents.specs.declared.wanted.Wanted.TheVariants.{Generated, Faults}

-- Of a text with these items: what is generated of it, where generated texts use the name `base`; or its
-- faults, one a line.
abbrev pub told_text : Wanted → (base text : List ℕ) → List Item → List ℕ
told_text (Generated which) base text items = text_of which base items
told_text Faults base text items = flat_map fault_line (faults_of text items)
