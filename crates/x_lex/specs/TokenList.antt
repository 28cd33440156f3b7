-- Tokens as they are kept, and what takes the place of some of them.
use Rattle.std.specs.Prelude.{ℕ, ◌≤◌, List, length}
use Rattle.x_lists.specs.Seqs.{Gapped}
use Rattle.x_lists.specs.Lengths.{Patch}
use Rattle.x_text.specs.declared.text.source.TheConstants.{MAX_TEXT}
use Rattle.x_lex.specs.declared.kind.Kind.{Kind}
use Rattle.x_lex.specs.Tiling.{span}
pub use Rattle.x_lists.specs.Lengths.{patched, LiesAmong, HasRoom}

-- tokens in order, each with its kind and length; the index behind those that were put in last; and how many
-- more there is room for
abbrev pub TokenList : Type 0
TokenList = Gapped (Kind × ℕ)

-- fresh tokens in place of `removed` old ones from index `at` on; `start` is the place of the first of them
-- in its text
abbrev pub TokenPatch : Type 0
TokenPatch = Patch (Kind × ℕ)

-- there are no more tokens, and they have no more bytes together, than a text can have
pub record IsOfText (ts : List (Kind × ℕ)) : Type 0 where
  pub few : length ts ≤ MAX_TEXT
  pub short : span ts ≤ MAX_TEXT
