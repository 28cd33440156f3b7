-- What the answers of a script depend on, beside its lines.
use Rattle.std.specs.Prelude.{◌≡◌, ℕ, Bool, List}
use Rattle.x_compile.specs.Compile.{Item}
use Rattle.x_compile.specs.Known.{KnownText}
use Rattle.x_session.specs.Session.{Compiles}
use Rattle.x_explain.specs.KnownFiles.{KnownPlaces, places_of_files}
use Rattle.x_prelude.specs.Before.{IsBefore}
use Rattle.x_prelude.specs.declared.definition.FromC.{FromC}
use Rattle.x_prelude.specs.declared.followed.FollowedText.{FollowedText}
use Rattle.x_script.specs.declared.script.ScriptFile.{ScriptFile}

-- what no line changes: the name of the file, the base of the names in what is generated, the text of the
-- known files, what may be taken from C, where the known files declare names, and whether they take no name
-- from C but those of its table
pub record How : Type 0 where
  pub file : List ℕ
  pub base : List ℕ
  pub files : List ℕ
  pub from : FromC
  pub places : KnownPlaces
  pub is_plain : Bool

-- that, and the text
pub record Situation : Type 0 where
  pub how : How
  pub text : List ℕ

-- the one that a script finds, and leaves
abbrev pub situation : ScriptFile → FollowedText → Situation
situation file t = record {
  how = record {
    file = file.name.now;
    base = t.session.base;
    files = t.files.items;
    from = t.from_c;
    places = places_of_files file.known.now.list.items;
    is_plain = file.is_plain;
  };
  text = t.session.text;
}

-- this text is left
pub record Leaves (old new : Situation) (text : List ℕ) : Type 0 where
  pub text_is : new.text ≡ text
  pub how_is : new.how ≡ old.how

-- this holds of what compiling a text gives, over what stands before it
abbrev pub Over : How → (text : List ℕ) → (KnownText → List Item → Type 0) → Type 0
Over how text P =
    (known : KnownText) × IsBefore how.files how.from text known × Compiles known text (P known)
