-- What is compiled of the text that a client has.
use Rattle.std.specs.Prelude.{◌≡◌, ◌==◌, ℕ, Bool, false, true, List, ◌++◌}
use Rattle.std.specs.List.{All}
use Rattle.x_prelude.specs.Before.{IsBefore}
use Rattle.x_prelude.specs.declared.followed.FollowedText.{FollowedText}
use Rattle.x_documents.specs.Grounds.{compiled_of, constants_of, has_mark}

-- It is the text that a client has, blanked or not, over what stands before it behind the text of these files
-- and the constants of its directives.
pub record IsCompiled (files : List ℕ) (blanks : Bool) (shown : List ℕ) (text : FollowedText) : Type 0 where
  pub files_are : text.files.items ≡ files ++ constants_of blanks shown
  pub text_is : text.session.text ≡ compiled_of blanks shown
  pub before : ∥ IsBefore text.files.items text.from_c text.session.text text.session.known ∥₁

-- no byte of these is a `#`
abbrev pub HasNoHash : List ℕ → Type 0
HasNoHash bytes = All (λ byte. (byte == 35) ≡ false) bytes

-- It is compiled as it stands: if lines of cpp are blanked, no byte can be of one, and no byte order mark
-- stands at the front.
pub record Stands (blanks : Bool) (shown : List ℕ) : Type 0 where
  pub no_hash : blanks ≡ true → HasNoHash shown
  pub no_mark : blanks ≡ true → has_mark shown ≡ false

-- it is compiled, and as it stands
pub record IsAsItStands (files : List ℕ) (blanks : Bool) (shown : List ℕ) (text : FollowedText) : Type 0 where
  pub stands : Stands blanks shown
  pub compiled : IsCompiled files blanks shown text
