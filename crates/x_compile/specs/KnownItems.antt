-- What is kept of definitions that are known before a text.
use Rattle.std.specs.Prelude.{List, Option, None, Some, map}
use Rattle.x_trees.specs.declared.trees.definition.Definition.{Definition}
use Rattle.x_cutting.specs.declared.cutting.item_entry.ItemEntry.{ItemEntry}
use Rattle.x_compile.specs.Known.{KnownText}
use Rattle.x_compile.specs.KeptView.{entry_results}
use Rattle.x_compile.specs.declared.content.Content.{Content}
use Rattle.x_compile.specs.declared.content.Content.TheVariants as items
use Rattle.x_compile.specs.declared.content.Parse.{Parse}
use Rattle.x_compile.specs.declared.content.Parse.TheVariants as kept

abbrev pub parsed_tree : Parse → Option Definition
parsed_tree kept.Nothing = None
parsed_tree (kept.Def d) = Some d
parsed_tree (kept.Fault token code) = None

-- the definition of an item, as the program has it
abbrev pub kept_tree : Content → Option Definition
kept_tree items.Nothing = None
kept_tree (items.Fault token code) = None
kept_tree (items.Sound body) = parsed_tree body.value.parse
kept_tree (items.OneFault code word body) = parsed_tree body.value.parse
kept_tree (items.Faulty body) = parsed_tree body.value.parse

-- the definitions of these items, and what checking them gives
abbrev pub known_text : List (ItemEntry Content) → KnownText
known_text es = record { definitions = map (λ e. kept_tree e.kept) es; outcomes = entry_results es }
