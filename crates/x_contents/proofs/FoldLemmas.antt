-- The text of folds is that of their data.
use Rattle.std.proofs.Common.{◌≡◌, ◌≤◌, ℕ, Bool, true, false, List, [], ◌∷◌, ◌++◌, length, map, drop, ap}
use Rattle.std.proofs.Common.{append_assoc, sym, refl, ◌∙◌}
use Rattle.std.specs.Prelude.{codes, decimal}
use Rattle.std.specs.List.{flat_map}
use Rattle.std.proofs.lemmas.List.{append-nil, drop_all}
use Rattle.serde_json.specs.Data.{array}
use Rattle.serde_json.specs.View.{items_of}
use Rattle.serde_json.specs.Written.{compact_text}
use Rattle.serde_json.proofs.OnLiterals.{serde_json_on_literals}
use Rattle.x_frames.specs.ListTexts.{ended, entry_text}
use Rattle.x_frames.proofs.TextLemmas.{five, list_ended, six}
use Rattle.x_contents.specs.Folds.{fold_data, fold_text}
use Rattle.x_contents.specs.declared.folds.Fold.{Fold}
use Rattle.x_contents.specs.declared.folds.Lines.{Lines}

text_by : (lines : Lines) (comment : Bool) → fold_text
    (record { lines = lines; comment = comment }) ≡ entry_text
    (fold_data (record { lines = lines; comment = comment }))
unfolding serde_json_on_literals
text_by lines true =
    ap (λ l. l ++ codes ",") (six (codes "{\"endLine\":") (decimal lines.last)
    (codes ",\"kind\":\"comment\"") (codes ",\"startLine\":") (decimal lines.first) (codes "}"))
text_by lines false =
    ap (λ l. l ++ codes ",") (six (codes "{\"endLine\":") (decimal lines.last) [] (codes ",\"startLine\":")
    (decimal lines.first) (codes "}"))

-- seven parts behind a text
pub seven_behind : (t a b c d e f g : List ℕ) → t ++ a ++ b ++ c ++ d ++ e ++ f ++ g ≡ t
    ++ (a ++ b ++ c ++ d ++ e ++ f ++ g)
seven_behind t a b c d e f g =
    append_assoc (t ++ a ++ b ++ c ++ d ++ e) f g
    ∙ six_behind t a b c d e (f ++ g)
    ∙ ap (λ l. t ++ l) (sym (append_assoc (a ++ b ++ c ++ d ++ e) f g))
  where
    six_behind : (t a b c d e f : List ℕ) → t ++ a ++ b ++ c ++ d ++ e ++ f ≡ t
        ++ (a ++ b ++ c ++ d ++ e ++ f)
    six_behind t a b c d e f = append_assoc (t ++ a ++ b ++ c ++ d) e f ∙ six t a b c d (e ++ f)
        ∙ ap (λ l. t ++ l) (sym (five a b c d (e ++ f)) ∙ sym (append_assoc (a ++ b ++ c ++ d) e f))

each_text : (folds : List Fold) → flat_map fold_text folds ≡ flat_map entry_text (map fold_data folds)
each_text [] = refl
each_text (f ∷ fs) = λ i. text_by f.lines f.comment i ++ each_text fs i

pub folds_text : (folds : List Fold) → ended (91 ∷ flat_map fold_text folds) ≡ compact_text
    (array (items_of (map fold_data folds)))
folds_text folds = ap (λ l. ended (91 ∷ l)) (each_text folds) ∙ list_ended (map fold_data folds)

-- behind the last one
pub no_more : {A : Type 0} (f : A → List ℕ) (text : List ℕ) (xs : List A) (n : ℕ) (all : List ℕ)
    → length xs ≤ n → text ++ flat_map f (drop n xs) ≡ all → text ≡ all
no_more f text xs n all le is = sym (append-nil text)
    ∙ ap (λ l. text ++ flat_map f l) (sym (drop_all n xs le)) ∙ is
