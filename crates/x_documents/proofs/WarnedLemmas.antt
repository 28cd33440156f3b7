-- What is published of names that clash in C, one name after another.
use Rattle.std.proofs.Common.{◌≡◌, ◌∙◌, ℕ, suc, ◌+◌, ◌<◌, ◌++◌, Bool, true, false, List, [], ◌∷◌, map, take}
use Rattle.std.proofs.Common.{append-nil, append_assoc, ap, drop, drop-cons, get_or, length, refl, subst, sym}
use Rattle.std.specs.Prelude.{MatchBool, OnOk, Result, Ok, Err}
use Rattle.std.proofs.lemmas.List.{map-append}
use Rattle.serde_json.specs.Data.{Data}
use Rattle.x_explain.proofs.FoundLemmas.{take_more}
use Rattle.x_warnings.specs.Warnings.{Warning, view_warning}
use Rattle.x_warnings.specs.declared.warning.Warning as rust
use Rattle.x_published.specs.declared.client.Client.{Client}
use Rattle.x_published.specs.Warned.{AreWarned, IsWarnedAt}

-- of one name more
warned_behind : (c : Client) (uri shown text : List ℕ) (ws : List Warning) (w : Warning) (ds here : List Data)
    → AreWarned c uri shown text ws ds → IsWarnedAt c uri shown text w w.spot here
    → AreWarned c uri shown text (ws ++ w ∷ []) (ds ++ here)
warned_behind c uri shown text [] w ds here are is =
    (here, [], ap (λ l. l ++ here) are ∙ sym (append-nil here), is, refl)
warned_behind c uri shown text (v ∷ ws) w ds here are is = (
  are.0,
  are.1 ++ here,
  ap (λ l. l ++ here) are.2 ∙ append_assoc are.0 are.1 here,
  are.3,
  warned_behind c uri shown text ws w are.1 here are.4 is,
)

pub warned_more : (c : Client) (uri shown text : List ℕ) (found : List rust.Warning) (i : ℕ)
    (none : rust.Warning) (ds here : List Data) → i < length found
    → AreWarned c uri shown text (map view_warning (take i found)) ds
    → IsWarnedAt c uri shown text (view_warning (get_or found i none)) (get_or found i none).spot here
    → AreWarned c uri shown text (map view_warning (take (i + 1) found)) (ds ++ here)
warned_more c uri shown text found i none ds here lt are is =
    let w = get_or found i none in
    subst (λ ws. AreWarned c uri shown text ws (ds ++ here))
    (sym (ap (map view_warning) (take_more found i w (drop (suc i) found) (drop-cons found i none lt))
    ∙ map-append view_warning (take i found) (w ∷ [])))
    (warned_behind c uri shown text (map view_warning (take i found)) (view_warning w) ds here are is)

-- what holds by a test, where it comes out so
pub if_passed : (P Q : Type 0) (b : Bool) → b ≡ true → P → MatchBool b P Q
if_passed P Q true is p = p
if_passed P Q false is p = absurd (cc)

pub if_failed : (P Q : Type 0) (b : Bool) → b ≡ false → Q → MatchBool b P Q
if_failed P Q true is q = absurd (cc)
if_failed P Q false is q = q

-- what follows where a result is good
pub on_ok : {X E P Q : Type 0} (r : Result X E) → OnOk r P → (P → Q) → OnOk r Q
on_ok (Ok x) h f = f h
on_ok (Err e) h f = tt
