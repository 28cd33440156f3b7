-- Each type of C's table is declared by a line.
use Rattle.std.proofs.Common.{map, ◌≡◌, ◌⊎◌, inl, inr, ℕ, true, false, List, [], ◌∷◌, ◌++◌, get_or, refl, sym}
use Rattle.std.proofs.Common.{subst}
use Rattle.std.specs.Prelude.{codes}
use Rattle.std.specs.List.{IsAmong, list_all}
use Rattle.x_lex.specs.Bytes.{is_keyword, is_letter, is_word_byte}
use Rattle.x_lex.specs.Marks.{mark_of}
use Rattle.x_trees.proofs.AmongLemmas.{among_cases, among_none}
use Rattle.x_trees.specs.declared.trees.declaration.Basic.TheVariants as basics
use Rattle.x_prelude.specs.CTypes.{c_types}
use Rattle.x_prelude_laws.proofs.Lines.{IsName, hyper_line, int_line, unsigned_hyper_line, unsigned_line}
use Rattle.x_prelude_laws.proofs.Lines.{unsigned_long_line}
use Rattle.x_prelude_laws.proofs.SoundLines.{SoundLine, opaque_line, typedef_line}

-- a row of the table with its line
record RowLine : Type 0 where
  row : List ℕ × List ℕ
  line : SoundLine (codes "typedef " ++ row.1 ++ codes ";\n") row.0

-- a name by its tests
abbrev pub IsFree : List ℕ → Type 0
IsFree w = (is_letter (get_or w 0 0) ≡ true) × (list_all is_word_byte w ≡ true) × (is_keyword w ≡ false)

own : (w : List ℕ) → IsFree w → IsName w
own w h = record { wordy = record { first = h.0; all = h.1 }; no_keyword = h.2 }

abbrev int_row : (w : List ℕ) → IsFree w → RowLine
int_row w h =
    record { row = (w, codes "int " ++ w); line = typedef_line basics.Int _ w (int_line w (own w h)) }

abbrev unsigned_row : (w : List ℕ) → IsFree w → RowLine
unsigned_row w h =
    record {
      row = (w, codes "unsigned int " ++ w);
      line = typedef_line basics.UnsignedInt _ w
          (unsigned_line w (own w h));
    }

abbrev unsigned_long_row : (w : List ℕ) → IsFree w → RowLine
unsigned_long_row w h =
    record {
      row = (w, codes "unsigned long " ++ w);
      line = typedef_line basics.UnsignedLong _ w
          (unsigned_long_line w (own w h));
    }

abbrev hyper_row : (w : List ℕ) → IsFree w → RowLine
hyper_row w h =
    record { row = (w, codes "hyper " ++ w); line = typedef_line basics.Hyper _ w (hyper_line w (own w h)) }

abbrev unsigned_hyper_row : (w : List ℕ) → IsFree w → RowLine
unsigned_hyper_row w h =
    record {
      row = (w, codes "unsigned hyper " ++ w);
      line =
          typedef_line basics.UnsignedHyper _ w (unsigned_hyper_line w (own w h));
    }

rows : List RowLine
unfolding mark_of
rows =
    int_row (codes "char") (refl, refl, refl)
    ∷ unsigned_row (codes "u_char") (refl, refl, refl)
    ∷ int_row (codes "short") (refl, refl, refl)
    ∷ unsigned_row (codes "u_short") (refl, refl, refl)
    ∷ unsigned_row (codes "u_int") (refl, refl, refl)
    ∷ unsigned_long_row (codes "u_long") (refl, refl, refl)
    ∷ int_row (codes "int8_t") (refl, refl, refl)
    ∷ unsigned_row (codes "uint8_t") (refl, refl, refl)
    ∷ unsigned_row (codes "u_int8_t") (refl, refl, refl)
    ∷ int_row (codes "int16_t") (refl, refl, refl)
    ∷ unsigned_row (codes "uint16_t") (refl, refl, refl)
    ∷ unsigned_row (codes "u_int16_t") (refl, refl, refl)
    ∷ int_row (codes "int32_t") (refl, refl, refl)
    ∷ unsigned_row (codes "uint32_t") (refl, refl, refl)
    ∷ unsigned_row (codes "u_int32_t") (refl, refl, refl)
    ∷ hyper_row (codes "int64_t") (refl, refl, refl)
    ∷ unsigned_hyper_row (codes "uint64_t") (refl, refl, refl)
    ∷ unsigned_hyper_row (codes "u_int64_t") (refl, refl, refl)
    ∷ hyper_row (codes "quad_t") (refl, refl, refl)
    ∷ unsigned_hyper_row (codes "u_quad_t") (refl, refl, refl)
    ∷ record { row = (codes "netobj", codes "opaque netobj<1024>"); line = opaque_line }
    ∷ []

row_in : (rs : List RowLine) (e : List ℕ × List ℕ) → IsAmong (map (λ r. r.row) rs) e
    → SoundLine (codes "typedef " ++ e.1 ++ codes ";\n") e.0
row_in [] e h = absurd (among_none e h)
row_in (r ∷ rs) e h = by (among_cases r.row e (map (λ r. r.row) rs) h) (λ k. row_in rs e k)
  where
    by : (e ≡ r.row) ⊎ IsAmong (map (λ r. r.row) rs) e
        → (IsAmong (map (λ r. r.row) rs) e → SoundLine (codes "typedef " ++ e.1 ++ codes ";\n") e.0)
        → SoundLine (codes "typedef " ++ e.1 ++ codes ";\n") e.0
    by (inl same) next = subst (λ y. SoundLine (codes "typedef " ++ y.1 ++ codes ";\n") y.0) (sym same) r.line
    by (inr k) next = next k

same_rows : map (λ r. r.row) rows ≡ c_types
unfolding rows
same_rows = refl

pub type_line : (e : List ℕ × List ℕ) → IsAmong c_types e
    → SoundLine (codes "typedef " ++ e.1 ++ codes ";\n") e.0
type_line e h = row_in rows e (subst (λ l. IsAmong l e) (sym same_rows) h)
