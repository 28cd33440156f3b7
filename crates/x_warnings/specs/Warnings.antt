-- The names of a text that clash in C, at their places in the text.
use Rattle.std.specs.Prelude.{◌≡◌, ℕ, List, [], Option, map, option_map}
use Rattle.std.specs.Cow.{cow_slice_items}
use Rattle.x_compile.specs.Compile.{Item, definitions_of}
use Rattle.x_session.specs.DeclaredNames.{spot_at, word_of_item, word_spot}
use Rattle.x_session.specs.declared.declared.DeclaredNames.{DeclaredNames}
use Rattle.x_session.specs.declared.declared.Spot.{Spot}
use Rattle.x_taken.specs.TakenNames.{taken_as}
use Rattle.x_clash.specs.Clashes.{AreClashes}
use Rattle.x_clash.specs.declared.clash.Clash.{Clash}
use Rattle.x_clash.specs.declared.clash.Place.{Place}
use Rattle.x_clash.specs.declared.clash.Rival.{Rival}
use Rattle.x_clash.specs.declared.clash.Rival.TheVariants as rivals
use Rattle.x_warnings.specs.declared.warning.OtherMeaning.{OtherMeaning}
use Rattle.x_warnings.specs.declared.warning.OtherMeaning.TheVariants.{OfC, OfText}
use Rattle.x_warnings.specs.declared.warning.Warning as rust

-- a name that clashes, the word that leads to it, and what else has it
pub record Warning : Type 0 where
  pub name : List ℕ
  pub spot : Option Spot
  pub other : OtherMeaning

-- where words start
abbrev pub Spots : Type 0
Spots = Place → Option Spot

abbrev pub other_of : Spots → Rival → OtherMeaning
other_of spots (rivals.OfC kind) = OfC kind
other_of spots (rivals.OfText p) = OfText (spots p)

-- a clash at its places
abbrev pub warning_of : Spots → Clash → Warning
warning_of spots c =
    record { name = cow_slice_items c.name; spot = spots c.place; other = other_of spots c.rival }

-- the words of a text that has these items
abbrev pub spots_of : List ℕ → List Item → Spots
spots_of text items p = option_map (λ t. spot_at text t.start) (word_of_item items p.item p.word)

-- these are the names of a text that clash in C
abbrev pub AreWarnings : List ℕ → List Item → List Warning → Type 0
AreWarnings text items ws = (found : List Clash) × AreClashes taken_as 0 [] (definitions_of items) found
    × (ws ≡ map (warning_of (spots_of text items)) found)

-- ---- what the program has of that

-- where words start, by the table of a text's names
abbrev pub spots_in : DeclaredNames → Spots
spots_in table p = word_spot table p.item p.word

abbrev pub view_warning : rust.Warning → Warning
view_warning w = record { name = cow_slice_items w.name; spot = w.spot; other = w.other }
