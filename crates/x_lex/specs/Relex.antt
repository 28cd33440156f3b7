-- What a change of a text leaves of its tokens. It compares the tokens of two texts, each lexed from its
-- start: `ts` of the old text and `us` of the one that the change leaves.
use Rattle.std.specs.Prelude.{◌≡◌, ℕ, ◌+◌, ◌-◌, ◌<◌, ◌≤◌, ◌||◌, ◌⊎◌, nat_lt, nat_le, List, [], ◌∷◌, ◌++◌}
use Rattle.std.specs.Prelude.{length, take, drop, if◌then◌else◌}
use Rattle.x_text.specs.Edits.{Change, edited_by}
use Rattle.x_lists.specs.Lengths.{IsCountBefore}
use Rattle.x_lex.specs.declared.kind.Kind.{Kind}
use Rattle.x_lex.specs.Tiling.{AreTokens, bytes_of, end_of}
use Rattle.x_lex.specs.Places.{is_line_start}
use Rattle.x_lex.specs.TokenList.{TokenPatch, patched, LiesAmong}

-- the place is 0 or the end of a token
pub record IsBoundary (ts : List (Kind × ℕ)) (place : ℕ) : Type 0 where
  pub index : ℕ
  pub within : index ≤ length ts
  pub ends : end_of ts index ≡ place

-- where a place behind the new bytes was in the old text: as far behind the bytes that went
abbrev pub old_place : Change → ℕ → ℕ
old_place change place = change.end + (place - (change.start + length change.insert))

-- the place is behind the new bytes, it is a boundary of both texts, and it is a line start in both or in
-- neither
pub record Agrees (change : Change) (ts us : List (Kind × ℕ)) (place : ℕ) : Type 0 where
  pub behind : change.start + length change.insert ≤ place
  pub in_new : IsBoundary us place
  pub in_old : IsBoundary ts (old_place change place)
  pub starts : is_line_start change.old (old_place change place) ≡ is_line_start (edited_by change) place

-- the place is the least that agrees, or the end of the new text where none does
pub record IsMeeting (change : Change) (ts us : List (Kind × ℕ)) (place : ℕ) : Type 0 where
  pub meets : Agrees change ts us place ⊎ (place ≡ length (edited_by change))
  pub least : (other : ℕ) → other < place → Agrees change ts us other → ⊥

-- those of the tokens, the first of which starts at `at`, that neither end before a nor start at q or behind
-- it
abbrev pub fresh_from : ℕ → ℕ → ℕ → List (Kind × ℕ) → List (Kind × ℕ)
fresh_from a q at [] = []
fresh_from a q at (t ∷ ts) =
    if nat_lt (at + t.1) a || nat_le q at then fresh_from a q (at + t.1) ts else t
    ∷ fresh_from a q (at + t.1) ts

-- those of the tokens of the new text, where q is the meeting place
abbrev pub fresh : ℕ → ℕ → List (Kind × ℕ) → List (Kind × ℕ)
fresh a q us = fresh_from a q 0 us

-- those of the tokens, the first of which starts at `at`, that end before a or start at q or behind it
abbrev pub kept_from : ℕ → ℕ → ℕ → List (Kind × ℕ) → List (Kind × ℕ)
kept_from a q at [] = []
kept_from a q at (t ∷ ts) =
    if nat_lt (at + t.1) a || nat_le q at then t ∷ kept_from a q (at + t.1) ts
    else kept_from a q (at + t.1) ts

-- those of the tokens of the old text, where q is the old place of the meeting place
abbrev pub kept_tokens : ℕ → ℕ → List (Kind × ℕ) → List (Kind × ℕ)
kept_tokens a q ts = kept_from a q 0 ts

-- x is how many of the tokens end before a
abbrev pub IsFront : List (Kind × ℕ) → ℕ → ℕ → Type 0
IsFront ts a x = IsCountBefore bytes_of ts (length ts) a x

-- the patch puts the fresh tokens, and no others, in place of the old ones that are not kept, and leaves the
-- tokens of the new text
pub record IsPatch (change : Change) (ts : List (Kind × ℕ)) (patch : TokenPatch) : Type 0 where
  pub front : IsFront ts change.start patch.at
  pub start : patch.start ≡ end_of ts patch.at
  pub among : LiesAmong ts patch
  pub tokens : AreTokens (edited_by change) (patched ts patch)
  pub place : ℕ
  pub meeting : IsMeeting change ts (patched ts patch) place
  pub fresh_are : patch.fresh ≡ fresh change.start place (patched ts patch)
  pub kept_are : take patch.at ts ++ drop (patch.at + patch.removed) ts
      ≡ kept_tokens change.start (old_place change place) ts
