-- What is published of faults.
use Rattle.std.proofs.Common.{◌≡◌, ℕ, Option, None, Some, length, take, drop, get_or, arith, ne_eqb, eq-eqb}
use Rattle.std.proofs.Common.{List, [], ◌∷◌, ◌++◌, map, refl, sym, subst, ap, ◌∙◌}
use Rattle.std.specs.Prelude.{◌==◌}
use Rattle.std.specs.List.{before_first}
use Rattle.std.proofs.lemmas.List.{take_all, take-append-drop}
use Rattle.std.proofs.Math.Seq.{take-append_seam}
use Rattle.std.proofs.lemmas.List.Sums.{position_or_len_is}
use Rattle.memchr.specs.Find.{IsFirstByte, is_byte}
use Rattle.x_lines.proofs.Parting.{first_is}
use Rattle.serde_json.specs.Data.{Data}
use Rattle.x_compile.specs.Compile.{Item}
use Rattle.x_compile.specs.declared.fault.FaultPlace.{FaultPlace}
use Rattle.x_published.specs.declared.client.Client.{Client}
use Rattle.x_published.specs.Diagnostics.{AreDiagnostics, IsDiagnostic}

-- one fault more
pub diagnostics_more : (c : Client) (uri shown text : List ℕ) (items : List Item) (faults : List FaultPlace)
    (ds : List Data) (f : FaultPlace) (d : Data) → AreDiagnostics c uri shown text items faults ds
    → IsDiagnostic c uri shown text items f d
    → AreDiagnostics c uri shown text items (faults ++ f ∷ []) (ds ++ d ∷ [])
diagnostics_more c uri shown text items [] [] f d are is = (is, tt)
diagnostics_more c uri shown text items [] (x ∷ ds) f d are is = absurd are
diagnostics_more c uri shown text items (g ∷ faults) [] f d are is = absurd are
diagnostics_more c uri shown text items (g ∷ faults) (x ∷ ds) f d are is =
    (are.0, diagnostics_more c uri shown text items faults ds f d are.1 is)

-- what is published of a fault is so of each with its code and its place
pub same_diagnostic : (c : Client) (uri shown text : List ℕ) (items : List Item) (f g : FaultPlace)
    (d : Data) → f.code ≡ g.code → f.start ≡ g.start → IsDiagnostic c uri shown text items f d
    → IsDiagnostic c uri shown text items g d
same_diagnostic c uri shown text items f g d code start is =
    subst (λ (g : FaultPlace). IsDiagnostic c uri shown text items g d)
    (λ i. record { item = g.item; token = g.token; start = start i; code = code i })
    (record {
      end = is.end;
      sentence = is.sentence;
      other = is.other;
      token = is.token;
      other_is =
          is.other_is;
      data_is = is.data_is;
    })

-- a text that begins so, and what stands behind that
pub begins : (p s t : List ℕ) → t ≡ p ++ s → take (length p) t ≡ p
begins p s t is = ap (take (length p)) is ∙ take-append_seam p s

pub begun_so : (p t : List ℕ) → take (length p) t ≡ p → t ≡ p ++ drop (length p) t
begun_so p t is = sym (take-append-drop (length p) t) ∙ ap (λ l. l ++ drop (length p) t) is

-- the bytes before a place, or all
abbrev pub front_of : Option ℕ → List ℕ → List ℕ
front_of None text = text
front_of (Some at) text = take at text

-- the first word of a text
pub word_found : (text : List ℕ) (r : Option ℕ) → IsFirstByte (is_byte 32) text r
    → front_of r text ≡ before_first (λ b. b == 32) text
word_found text None first =
    let all = position_or_len_is (λ b. b == 32) text (length text) 0 (omega arith)
    (λ j lt. ne_eqb (get_or text j 0) 32 (λ e. first j (omega arith) lt (eq-eqb (get_or text j 0) 32 e)))
    (λ lt. absurd (omega arith)) in
    sym (ap (λ k. take k text) all ∙ take_all (length text) text (omega arith))
word_found text (Some at) first = ap (λ k. take k text) (sym (first_is 32 text (Some at) at first refl).1)

pub map-snoc : {X Y : Type 0} (f : X → Y) (xs : List X) (x : X) → map f (xs ++ x ∷ []) ≡ map f xs ++ f x ∷ []
map-snoc f [] x = refl
map-snoc f (y ∷ xs) x = ap (λ l. f y ∷ l) (map-snoc f xs x)
