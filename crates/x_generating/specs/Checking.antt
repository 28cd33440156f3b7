-- What `rpcgen --check` does.
use Rattle.std.specs.Prelude.{◌≡◌, ◌⊎◌, ℕ, Bool, List, [], ◌∷◌, ◌++◌, codes}
use Rattle.x_streams.specs.Streams.{Stream}
use Rattle.x_args.specs.Status.{worse}
use Rattle.x_args.specs.Telling.{IsTold, told_of}
use Rattle.x_args.specs.declared.status.Status.{Status}
use Rattle.x_args.specs.declared.status.Status.TheVariants.{Done, Faulty, Failed}
use Rattle.x_opening.specs.declared.opening.Opening.{Opening}
use Rattle.x_opening.specs.Opening.{CompilesBy}
use Rattle.x_opening.specs.Opened.{IsFaultless, NotOpened}
use Rattle.x_generating.specs.Warnings.{IsFaulty, IsGood}

-- a file is not read, which is told
abbrev pub IsUnread : (file : List ℕ) → (before after : Stream) → Type 0
IsUnread file before after =
    IsTold before after (told_of (codes "rpcgen") (codes "out of memory"))
    ⊎ IsTold before after (codes "rpcgen" ++ codes ": " ++ file ++ codes ": cannot be read\n")

-- What the check of a file comes to, by its status: the text that was read has no fault, and which of its
-- names clash in C is told; or it has faults, or such names where that counts as a fault, which is told as a
-- run of `rpcgen` tells it; or the file is not read, or its text is not opened, which is told.
abbrev pub IsChecked : (strict : Bool) → (how : Opening) → (file : List ℕ) → (before after : Stream) → Status
    → Type 0
IsChecked strict how file before after Done = (text : List ℕ) × IsFaultless how text
    × CompilesBy how text (λ items. IsGood strict how.style file text items before after)
IsChecked strict how file before after Faulty =
    (text : List ℕ) × CompilesBy how text (λ items. IsFaulty strict how file text items before after)
IsChecked strict how file before after Failed =
    IsUnread file before after
    ⊎ ((text : List ℕ) × NotOpened how (codes "rpcgen") file text before after)

-- What the check of several files comes to: what that of each comes to, in their order, and the worst of
-- their statuses.
unfoldable pub AreChecked : (strict : Bool) → (how : Opening) → (files : List (List ℕ))
    → (before after : Stream) → Status → Type 0
AreChecked strict how [] before after status = (after ≡ before) × (status ≡ Done)
AreChecked strict how (file ∷ files) before after status =
    (between : Stream) × (first others : Status) × IsChecked strict how file before between first
    × AreChecked strict how files between after others × (status ≡ worse first others)
