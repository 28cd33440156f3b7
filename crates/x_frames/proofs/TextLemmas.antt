-- Answers and lists, as they are written.
use Rattle.std.proofs.Common.{◌≡◌, ◌-◌, ℕ, true, List, [], ◌∷◌, ◌++◌, length, take, Some, refl, ap, sym, ◌∙◌}
use Rattle.std.proofs.Common.{append_assoc, arith}
use Rattle.std.specs.Prelude.{codes, slice_get}
use Rattle.std.specs.List.{flat_map}
use Rattle.std.proofs.lemmas.List.{length-append}
use Rattle.std.proofs.Math.Seq.{take-append_seam}
use Rattle.serde_json.specs.Data.{Data, array}
use Rattle.serde_json.specs.View.{items_of}
use Rattle.serde_json.specs.Written.{compact_text, items_text}
use Rattle.serde_json.proofs.OnLiterals.{serde_json_on_literals}
use Rattle.x_frames.specs.Answers.{answer_data, answer_text}
use Rattle.x_frames.specs.ListTexts.{ended, entry_text, open_list, without_comma}

-- ---- parts of a text, behind one another

pub five : (a b c d e : List ℕ) → a ++ b ++ c ++ d ++ e ≡ a ++ (b ++ (c ++ (d ++ e)))
five a b c d e = append_assoc (a ++ b ++ c) d e ∙ append_assoc (a ++ b) c (d ++ e)
    ∙ append_assoc a b (c ++ (d ++ e))

pub six : (a b c d e f : List ℕ) → a ++ b ++ c ++ d ++ e ++ f ≡ a ++ (b ++ (c ++ (d ++ (e ++ f))))
six a b c d e f = append_assoc (a ++ b ++ c ++ d) e f ∙ five a b c d (e ++ f)

pub eleven : (a b c d e f g h m n o : List ℕ)
    → a ++ b ++ c ++ d ++ e ++ f ++ g ++ h ++ m ++ n ++ o ≡ a
    ++ (b ++ (c ++ (d ++ (e ++ (f ++ (g ++ (h ++ (m ++ (n ++ o)))))))))
eleven a b c d e f g h m n o =
    append_assoc (a ++ b ++ c ++ d ++ e ++ f ++ g ++ h ++ m) n o
    ∙ append_assoc (a ++ b ++ c ++ d ++ e ++ f ++ g ++ h) m (n ++ o)
    ∙ append_assoc (a ++ b ++ c ++ d ++ e ++ f ++ g) h (m ++ (n ++ o))
    ∙ append_assoc (a ++ b ++ c ++ d ++ e ++ f) g (h ++ (m ++ (n ++ o)))
    ∙ append_assoc (a ++ b ++ c ++ d ++ e) f (g ++ (h ++ (m ++ (n ++ o))))
    ∙ six a b c d e (f ++ (g ++ (h ++ (m ++ (n ++ o)))))

-- the text of an answer is that of its data
pub answer_text_is : (id result : Data) → compact_text (answer_data id result) ≡ answer_text
    (compact_text id) (compact_text result)
unfolding serde_json_on_literals
answer_text_is id result = sym (five (codes "{\"id\":") (compact_text id)
    (codes ",\"jsonrpc\":\"2.0\",\"result\":") (compact_text result) (codes "}"))

-- ---- lists

-- entries behind others, without the last comma
abbrev front_of : List Data → List ℕ
front_of [] = []
front_of (d ∷ ds) = 44 ∷ (compact_text d ++ front_of ds)

front_comma : (ds : List Data) → 44 ∷ flat_map entry_text ds ≡ front_of ds ++ 44 ∷ []
front_comma [] = refl
front_comma (d ∷ ds) =
    ap (λ l. 44 ∷ l) (append_assoc (compact_text d) (44 ∷ []) (flat_map entry_text ds)
    ∙ ap (λ l. compact_text d ++ l) (front_comma ds)
    ∙ sym (append_assoc (compact_text d) (front_of ds) (44 ∷ [])))

front_end : (ds : List Data) → items_text true (items_of ds) ≡ front_of ds ++ 93 ∷ []
front_end [] = refl
front_end (d ∷ ds) =
    ap (λ l. 44 ∷ l) (ap (λ l. compact_text d ++ l) (front_end ds)
    ∙ sym (append_assoc (compact_text d) (front_of ds) (93 ∷ [])))

pub last_there : (xs : List ℕ) (b : ℕ) → slice_get (xs ++ b ∷ []) (length xs) ≡ Some b
last_there [] b = refl
last_there (x ∷ xs) b = last_there xs b

-- a closing bracket in place of a comma
pub comma_ended : (xs : List ℕ) → ended (xs ++ 44 ∷ []) ≡ xs ++ 93 ∷ []
comma_ended xs =
    let len = length-append xs (44 ∷ []) in
    let last_is : length (xs ++ 44 ∷ []) - 1 ≡ length xs = omega (arith, len) in
    ap (λ l. l ++ 93 ∷ [])
    (ap (λ n. without_comma (xs ++ 44 ∷ []) (slice_get (xs ++ 44 ∷ []) n)) last_is
    ∙ ap (without_comma (xs ++ 44 ∷ [])) (last_there xs 44)
    ∙ ap (λ n. take n (xs ++ 44 ∷ [])) last_is
    ∙ take-append_seam xs (44 ∷ []))

-- an ended list is the list
pub list_ended : (ds : List Data) → ended (open_list ds) ≡ compact_text (array (items_of ds))
list_ended [] = refl
list_ended (d ∷ ds) =
    let front = 91 ∷ (compact_text d ++ front_of ds) in
    let whole : open_list (d ∷ ds) ≡ front ++ 44 ∷ [] =
    ap (λ l. 91 ∷ l) (append_assoc (compact_text d) (44 ∷ []) (flat_map entry_text ds)
    ∙ ap (λ l. compact_text d ++ l) (front_comma ds)
    ∙ sym (append_assoc (compact_text d) (front_of ds) (44 ∷ []))) in
    ap ended whole ∙ comma_ended front
    ∙ ap (λ l. 91 ∷ l) (append_assoc (compact_text d) (front_of ds) (93 ∷ [])
    ∙ ap (λ l. compact_text d ++ l) (sym (front_end ds)))
