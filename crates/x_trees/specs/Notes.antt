-- What single words are to the rules, read off the roles of a definition's words.
use Rattle.std.specs.Prelude.{ℕ, nat_lt, Bool, List, [], ◌∷◌, ◌++◌, Option, Some, None, if◌then◌else◌}
use Rattle.x_trees.specs.Tree as tree
use Rattle.x_trees.specs.View.{view_value, view_declaration}
use Rattle.x_trees.specs.Gloss as gloss
use Rattle.x_trees.specs.Gloss.{Role, told_of}
use Rattle.x_trees.specs.declared.names.note.ValueRole.{ValueRole}
use Rattle.x_trees.specs.declared.names.note.ValueRole.TheVariants as roles
use Rattle.x_trees.specs.declared.names.note.Note as rust
use Rattle.x_trees.specs.declared.names.note.Note.TheVariants as notes
use Rattle.x_trees.specs.declared.names.note.NoteAt as at

pub data Note : Type 0 where
  ValueNote : (role : ValueRole) (value : tree.Value) → Note
  NumberNote : (text : List ℕ) → Note
  MisplacedNote : Note
  DiscriminantNote : (declaration : tree.Declaration) → Note
  InlineNote : Note

pub record NoteAt : Type 0 where
  pub word : ℕ
  pub note : Note

-- the note of a word in a role, where there is one
abbrev pub void_note : Bool → Option Note
void_note misplaced = if misplaced then Some MisplacedNote else None

abbrev pub note_of : Role → Option Note
note_of (gloss.ConstantValue v) = Some (ValueNote roles.Constant v)
note_of (gloss.EnumeratorValue v) = Some (ValueNote roles.Enumerator v)
note_of (gloss.CaseValue v) = Some (ValueNote roles.Case v)
note_of (gloss.FixedSize v) = Some (ValueNote roles.FixedSize v)
note_of (gloss.GreatestSize v) = Some (ValueNote roles.GreatestSize v)
note_of (gloss.ProgramNumber text) = Some (NumberNote text)
note_of (gloss.VersionNumber text) = Some (NumberNote text)
note_of (gloss.ProcedureNumber text) = Some (NumberNote text)
note_of (gloss.VoidDeclaration gloss.InTypedef) = Some MisplacedNote
note_of (gloss.VoidDeclaration (gloss.Inside gloss.AsField around)) = Some MisplacedNote
note_of (gloss.VoidDeclaration (gloss.Inside gloss.AsDiscriminant around)) = Some MisplacedNote
note_of (gloss.VoidArgument others) = void_note (nat_lt 0 others)
note_of (gloss.Discriminant d) = Some (DiscriminantNote d)
note_of gloss.InlineArgument = Some InlineNote
note_of role = None

abbrev pub note_list : ℕ → Option Note → List NoteAt
note_list word None = []
note_list word (Some note) = record { word = word; note = note } ∷ []

-- the notes of the word at a place, by its roles
abbrev pub noted_at : ℕ → List Role → List NoteAt
noted_at word [] = []
noted_at word (role ∷ roles) = note_list word (note_of role) ++ noted_at word roles

-- the notes of a definition, in the order of its words
abbrev pub noted : tree.Definition → List NoteAt
noted d = told_of noted_at 0 (gloss.gloss d)

-- ---- what the program has

abbrev pub view_note : rust.Note → Note
view_note (notes.Value role value) = ValueNote role (view_value value.now)
view_note (notes.Number text) = NumberNote text.now
view_note notes.Misplaced = MisplacedNote
view_note (notes.Discriminant d) = DiscriminantNote (view_declaration d.now)
view_note notes.InlineArgument = InlineNote

abbrev pub view_note_at : at.NoteAt → NoteAt
view_note_at n = record { word = n.word; note = view_note n.note }
