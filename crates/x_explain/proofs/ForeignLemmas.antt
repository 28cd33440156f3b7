-- Names that are taken from C, one line after another.
use Rattle.std.proofs.Common.{◌≡◌, ℕ, ◌+◌, ◌<◌, Bool, List, ◌∷◌, drop, get_or, length, sym, subst}
use Rattle.std.specs.List.{flat_map}
use Rattle.std.proofs.lemmas.List.{drop_more}
use Rattle.x_streams.specs.Streams.{Stream}
use Rattle.x_streams.specs.Writing.{Adds, Inked}
use Rattle.x_streams.proofs.Pens.{adds_trans}
use Rattle.x_explain.specs.Explained.{foreign_line}
use Rattle.x_session.specs.Foreign.{view_all, view_foreign}
use Rattle.x_session.specs.declared.foreign.ForeignName as rust

pub line_more : (coloured : Bool) (file : List ℕ) (names : List rust.ForeignName) (i : ℕ)
    (d : rust.ForeignName)
    (p q r : Inked) (a b c : Stream) → i < length names
    → Adds p a q b (foreign_line coloured file (view_foreign (get_or names i d)))
    → Adds q b r c (flat_map (foreign_line coloured file) (view_all (drop (i + 1) names)))
    → Adds p a r c (flat_map (foreign_line coloured file) (view_all (drop i names)))
line_more coloured file names i d p q r a b c lt one others =
    let line = foreign_line coloured file in
    subst (λ ns. Adds p a r c (flat_map line (view_all ns))) (sym (drop_more names i d lt))
    (adds_trans p q r a b c (line (view_foreign (get_or names i d)))
    (flat_map line (view_all (drop (i + 1) names))) one others)
