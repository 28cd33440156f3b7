-- The hints of a text, one place after another, and those of names that are taken from C.
use Rattle.std.proofs.Common.{◌≡◌, ℕ, suc, ◌+◌, ◌<◌, ◌++◌, List, [], ◌∷◌, map, take, drop, length, get_or}
use Rattle.std.proofs.Common.{append_assoc}
use Rattle.std.proofs.Common.{drop-cons, sym, ap, subst, ◌∙◌}
use Rattle.std.proofs.lemmas.List.{drop_more, map-append}
use Rattle.serde_json.specs.Data.{Data}
use Rattle.x_session.specs.Foreign.{ForeignName, view_all, view_foreign}
use Rattle.x_session.specs.declared.foreign.ForeignName as rust
use Rattle.x_explain.proofs.FoundLemmas.{take_more}
use Rattle.x_positions.specs.declared.encoding.Encoding.{Encoding}
use Rattle.x_published.specs.Diagnostics.{AreForeignHints, IsForeignHint}
use Rattle.x_published.proofs.DiagnosticLemmas.{map-snoc}

-- one more of what a list is to have behind what it has
pub one_more : {X Y Z : Type 0} (told : X → Z) (wanted : Y → Z) (xs : List X) (x : X) (new : List X)
    (ys : List Y)
    (i : ℕ) (d : Y) (all : List Z) → i < length ys → new ≡ xs ++ x ∷ [] → told x ≡ wanted (get_or ys i d)
    → map told xs ++ map wanted (drop i ys) ≡ all → map told new ++ map wanted (drop (i + 1) ys) ≡ all
one_more told wanted xs x new ys i d all lt pushed is had =
    let rest = map wanted (drop (i + 1) ys) in
    ap (λ l. map told l ++ rest) pushed
    ∙ ap (λ l. l ++ rest) (map-snoc told xs x)
    ∙ append_assoc (map told xs) (told x ∷ []) rest
    ∙ ap (λ z. map told xs ++ z ∷ rest) is
    ∙ ap (λ l. map told xs ++ map wanted l) (sym (drop_more ys i d lt))
    ∙ had

-- a hint more
hint_behind : (e : Encoding) (shown text : List ℕ) (fs : List ForeignName) (ds : List Data) (f : ForeignName)
    (d : Data) → AreForeignHints e shown text fs ds → IsForeignHint e shown text f d
    → AreForeignHints e shown text (fs ++ f ∷ []) (ds ++ d ∷ [])
hint_behind e shown text [] [] f d are is = (is, tt)
hint_behind e shown text [] (x ∷ ds) f d are is = absurd are
hint_behind e shown text (x ∷ fs) [] f d are is = absurd are
hint_behind e shown text (x ∷ fs) (y ∷ ds) f d are is = (are.0, hint_behind e shown text fs ds f d are.1 is)

pub hint_more : (e : Encoding) (shown text : List ℕ) (names : List rust.ForeignName) (i : ℕ)
    (none : rust.ForeignName) (ds : List Data) (d : Data) → i < length names
    → AreForeignHints e shown text (view_all (take i names)) ds
    → IsForeignHint e shown text (view_foreign (get_or names i none)) d
    → AreForeignHints e shown text (view_all (take (i + 1) names)) (ds ++ d ∷ [])
hint_more e shown text names i none ds d lt are is =
    let name = get_or names i none in
    subst (λ fs. AreForeignHints e shown text fs (ds ++ d ∷ []))
    (sym (ap view_all (take_more names i name (drop (suc i) names) (drop-cons names i none lt))
    ∙ map-append view_foreign (take i names) (name ∷ [])))
    (hint_behind e shown text (view_all (take i names)) ds (view_foreign name) d are is)
