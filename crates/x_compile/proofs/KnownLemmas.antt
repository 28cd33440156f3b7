-- What is kept of known definitions is what the definitions say of them.
use Rattle.std.proofs.Common.{◌≡◌, List, [], ◌∷◌, option_map, refl}
use Rattle.x_trees.specs.View.{view_definition}
use Rattle.x_cutting.specs.declared.cutting.item_entry.ItemEntry.{ItemEntry}
use Rattle.x_compile.specs.Compile.{parsed_definition}
use Rattle.x_compile.specs.Known.{known_definitions}
use Rattle.x_compile.specs.KnownItems.{kept_tree, known_text, parsed_tree}
use Rattle.x_compile.specs.KeptView.{entry_definitions, kept_definition, view_parse}
use Rattle.x_compile.specs.declared.content.Content.{Content}
use Rattle.x_compile.specs.declared.content.Content.TheVariants as items
use Rattle.x_compile.specs.declared.content.Parse.{Parse}
use Rattle.x_compile.specs.declared.content.Parse.TheVariants as kept

parsed_as : (p : Parse) → option_map view_definition (parsed_tree p) ≡ parsed_definition (view_parse p)
parsed_as kept.Nothing = refl
parsed_as (kept.Def d) = refl
parsed_as (kept.Fault token code) = refl

kept_as : (k : Content) → option_map view_definition (kept_tree k) ≡ kept_definition k
kept_as items.Nothing = refl
kept_as (items.Fault token code) = refl
kept_as (items.Sound body) = parsed_as body.value.parse
kept_as (items.OneFault code word body) = parsed_as body.value.parse
kept_as (items.Faulty body) = parsed_as body.value.parse

-- the definitions of known items are theirs
pub definitions_known : (es : List (ItemEntry Content))
    → known_definitions (known_text es) ≡ entry_definitions es
definitions_known [] = refl
definitions_known (e ∷ es) =
    let here = kept_as e.kept in let rest = definitions_known es in λ i. here i ∷ rest i
