-- What a session is a view of: the text and what is known before it, the base of the names in what is
-- generated of it, and of its lists of tokens and items the seats and how many entries they have moved.
use Rattle.std.specs.Prelude.{◌≡◌, ℕ, List, [], ◌∷◌, ◌++◌, length, Err}
use Rattle.x_text.specs.Edits.{change_of, edited_by, FitsText, Judges}
use Rattle.x_text.specs.declared.text.edit.Edit.{Edit}
use Rattle.x_text.specs.declared.text.fault.TextFault.{TextFault}
use Rattle.x_lex.specs.declared.kind.Kind.{Kind}
use Rattle.x_compile.specs.Compile.{Item, IsCompilation}
use Rattle.x_compile.specs.Known.{KnownText}
use Rattle.x_session.specs.declared.session.work.Work.{Work}

-- A seat is the index in a list behind the entries that were put in last. A list counts each kept entry that
-- it moves.
pub record Document : Type 0 where
  pub base : List ℕ
  pub known : KnownText
  pub text : List ℕ
  pub token_seat : ℕ
  pub item_seat : ℕ
  pub tokens_moved : ℕ
  pub items_moved : ℕ

-- the session has this text now, and the base that it had, and what was known before its text still is
pub record LeavesText (old new : Document) (text : List ℕ) : Type 0 where
  pub text_is : new.text ≡ text
  pub base_is : new.base ≡ old.base
  pub known_is : new.known ≡ old.known

-- this holds of what compiling the text from scratch gives, where this is known before it
abbrev pub Compiles : KnownText → List ℕ → (List Item → Type 0) → Type 0
Compiles known text P =
    (tokens : List (Kind × ℕ)) × (items : List Item) × IsCompilation known text tokens items × P items

-- the text after all edits, one after another
abbrev pub edited_by_all : List ℕ → List Edit → List ℕ
edited_by_all text [] = text
edited_by_all text (e ∷ es) = edited_by_all (edited_by (change_of text e)) es

-- the text takes each of the edits in its turn
abbrev pub TakesAll : List ℕ → List Edit → Type 0
TakesAll text [] = Unit {0}
TakesAll text (e ∷ es) = FitsText (change_of text e) × TakesAll (edited_by (change_of text e)) es

-- The text takes the edits before the one at the index, which leave this text, and refuses that one as it
-- would alone.
pub record StopsAt (text : List ℕ) (edits : List Edit) (left : List ℕ) (index : ℕ)
    (fault : TextFault) : Type 0 where
  pub before : List Edit
  pub edit : Edit
  pub behind : List Edit
  pub edits_are : edits ≡ before ++ edit ∷ behind
  pub index_is : index ≡ length before
  pub takes : TakesAll text before
  pub left_is : left ≡ edited_by_all text before
  pub refuses : Judges {T = Work} (change_of left edit) (Err fault)
