-- The texts of what is kept with phrases.
use Rattle.std.specs.Prelude.{ℕ, List}
use Rattle.x_contents.specs.Phrases.{spelt_out}
use Rattle.x_contents.specs.declared.found.Found.{Found}
use Rattle.x_contents.specs.declared.found.Found.TheVariants.{Text, Phrased}
use Rattle.x_contents.specs.declared.phrased_text.PhrasedText.{PhrasedText}

-- the text that is kept
abbrev pub spelt : PhrasedText → List ℕ
spelt text = spelt_out text.bytes.items

-- the text of a result
abbrev pub found_text : Found → List ℕ
found_text (Text text) = text.items
found_text (Phrased text) = spelt text
