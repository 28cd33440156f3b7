-- What stands before the text of a file that is opened, and what compiling the text says then.
use Rattle.std.specs.Prelude.{◌≡◌, ℕ, Bool, false, ◌&&◌, List, [], ◌∷◌, ◌++◌, codes}
use Rattle.std.specs.Str.{bytes_eq}
use Rattle.x_compile.specs.Compile.{Item, faults_of}
use Rattle.x_compile.specs.Known.{KnownText}
use Rattle.x_session.specs.Session.{Compiles}
use Rattle.x_explain.specs.KnownFiles.{KnownPlaces, with_file}
use Rattle.x_prelude.specs.Before as before
use Rattle.x_prelude.specs.Before.{IsPrelude}
use Rattle.x_prelude.specs.declared.definition.FromC.{FromC}
use Rattle.x_args.specs.declared.before_args.BeforeArgs.{BeforeArgs}
use Rattle.x_opening.specs.declared.known.KnownSource.{KnownSource}
use Rattle.x_opening.specs.declared.known.KnownSources.{KnownSources}
use Rattle.x_opening.specs.declared.opening.FaultStyle.{FaultStyle}
use Rattle.x_opening.specs.declared.opening.Opening.{Opening}

-- what the options of a command line take from C
abbrev pub from_options : BeforeArgs → FromC
from_options options = record { types = options.c_types; foreign = options.foreign }

-- a text stands behind these files, and may use these names of C
pub record IsAfter (how : Opening) (style : FaultStyle) (known : KnownSources) (from : FromC) : Type 0 where
  pub style_is : how.style ≡ style
  pub known_is : how.known.now ≡ known
  pub from_is : how.from_c ≡ from

-- this is known before a text: the known files, and the definitions that it lacks
abbrev pub IsBefore : Opening → (text : List ℕ) → KnownText → Type 0
IsBefore how text known = before.IsBefore how.known.now.text.items how.from_c text known

-- what compiling a text gives, over what is known before it
abbrev pub CompilesBy : Opening → (text : List ℕ) → (List Item → Type 0) → Type 0
CompilesBy how text P = before.CompilesBy how.known.now.text.items how.from_c text P

-- what stands before a text is too large
abbrev pub IsCrowded : Opening → (text : List ℕ) → Type 0
IsCrowded how text = before.IsCrowded how.known.now.text.items how.from_c text

-- Where these files declare names, behind others. Each is compiled over what is known before it.
abbrev pub HavePlaces : (before : KnownPlaces) → List KnownSource → KnownPlaces → Type 0
HavePlaces before [] places = places ≡ before
HavePlaces before (f ∷ fs) places = Compiles f.session.known f.session.text
    (λ items. HavePlaces (with_file before f.name.now f.session.text items) fs places)

-- only names of C's table may be taken
abbrev pub types_only : FromC → FromC
types_only from = record { types = from.types; foreign = false }

-- The files of these names were read, one after another, each over the text of those before it, which is
-- `front` at first, and over what it lacks itself. Each has no fault so. What it lacks and its own text, with
-- a line end, go behind that text, which is this at the end. It is plain if what stands there is (`plain`),
-- and none of the files takes a name from C but those of its table.
abbrev pub AreRead : FromC → (front : List ℕ) → (plain : Bool) → (names : List (List ℕ)) → List KnownSource
    → (text : List ℕ) → (is_plain : Bool) → Type 0
AreRead from front plain [] [] text is_plain = (text ≡ front) × (is_plain ≡ plain)
AreRead from front plain (n ∷ ns) (f ∷ fs) text is_plain = (f.name.now ≡ n)
    × before.IsBefore front from f.session.text f.session.known
    × Compiles f.session.known f.session.text (λ items. faults_of f.session.text items ≡ [])
    × (lacking of_types : List ℕ) × IsPrelude front from f.session.text lacking
    × IsPrelude front (types_only from) f.session.text of_types
    × AreRead from (front ++ lacking ++ f.session.text ++ codes "\n") (plain && bytes_eq lacking of_types)
    ns fs text is_plain
AreRead from front plain names files text is_plain = ⊥
