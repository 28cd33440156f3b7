-- What is added of an item.
use Rattle.std.proofs.Common.{◌≡◌, ℕ, ◌+◌, List, [], ◌++◌, length, length-append, Option, Some, None, Bor}
use Rattle.std.proofs.Common.{refl, sym, ap, ◌∙◌}
use Rattle.std.specs.Prelude.{slice_get}
use Rattle.std.specs.Option.{option_map_or, option_copied}
use Rattle.x_streams.specs.Streams.{Stream}
use Rattle.x_streams.specs.Writing.{Inked, Adds}
use Rattle.x_streams.proofs.Pens.{adds_none}
use Rattle.x_pieces.specs.Pieces.{Pieces, piece, Part, lines_at, pieces_at}
use Rattle.x_pieces.specs.Texts.{forward_of, part_text}
use Rattle.x_pieces.specs.declared.which.Which.{Which}

pub forward_at : (parts : List Part) (i : ℕ)
    → option_map_or forward_of (slice_get parts i) [] ≡ option_map_or (λ d. d.forward) (pieces_at parts i) []
forward_at parts i = on (slice_get parts i)
  where
    on : (it : Option Part) → option_map_or forward_of it []
        ≡ option_map_or (λ d. d.forward) (option_map_or (λ p. p.pieces) it None) []
    on None = refl
    on (Some p) = refl

pub part_at : (which : Which) (parts : List Part) (i : ℕ)
    → option_map_or (part_text which) (slice_get parts i) []
    ≡ lines_at parts i ++ option_map_or (piece which) (pieces_at parts i) []
part_at which parts i = on (slice_get parts i)
  where
    on : (it : Option Part) → option_map_or (part_text which) it [] ≡ option_map_or (λ p. p.lines) it []
        ++ option_map_or (piece which) (option_map_or (λ p. p.pieces) it None) []
    on None = refl
    on (Some p) = refl

-- the pieces that a list has in a place were added, or there are none
pub some_added : {S : Type 0} (state : S → Stream) (f : Pieces → List ℕ) (answer : Option (Bor Pieces))
    (it : Option Pieces) (d : Bor Pieces) (bytes : List ℕ) (p q end : Inked) (before : Stream) (s now : S)
    → option_copied answer ≡ it → answer ≡ Some d → bytes ≡ f d.now → end ≡ q → now ≡ s
    → Adds p before q (state s) bytes → Adds p before end (state now) (option_map_or f it [])
some_added state f answer it d bytes p q end before s now copied is of pen sink more =
    let some : it ≡ Some d.now = sym copied ∙ ap option_copied is in rw (some, pen, sink, ← of) more

pub none_added : {S : Type 0} (state : S → Stream) (f : Pieces → List ℕ) (answer : Option (Bor Pieces))
    (it : Option Pieces) (p end : Inked) (s now : S)
    → option_copied answer ≡ it → answer ≡ None → end ≡ p → now ≡ s
    → Adds p (state s) end (state now) (option_map_or f it [])
none_added state f answer it p end s now copied is pen sink =
    let none : it ≡ None = sym copied ∙ ap option_copied is in rw (none, pen, sink) (adds_none p (state s))

pub part_length : (which : Which) (parts : List Part) (i : ℕ)
    → length (option_map_or (part_text which) (slice_get parts i) [])
    ≡ length (lines_at parts i) + length (option_map_or (piece which) (pieces_at parts i) [])
part_length which parts i = ap length (part_at which parts i)
    ∙ length-append (lines_at parts i) (option_map_or (piece which) (pieces_at parts i) [])
