-- What the search for clashes finds, thing by thing.
use Rattle.std.proofs.Common.{◌≡◌, ℕ, suc, Bool, true, false, cond, List, [], ◌∷◌, ◌++◌, map, Option, None}
use Rattle.std.proofs.Common.{Some, refl, sym, ap, subst, ◌∙◌, append_assoc, arith}
use Rattle.std.specs.Prelude.{option_map, unwrap_or}
use Rattle.std.specs.Cow.{cow_slice_items}
use Rattle.std.specs.Global.{Global}
use Rattle.std.specs.Map.{lookup}
use Rattle.std.specs.Option.{option_or, option_to_list}
use Rattle.std.specs.Str.{bytes_eq}
use Rattle.std.specs.declared.borrow.CowSlice.{CowSlice}
use Rattle.std.proofs.lemmas.List.{append-nil}
use Rattle.std.proofs.lemmas.Slice.Eq.{bytes_eq-Decides}
use Rattle.x_taken.specs.declared.taken.TakenAs.{TakenAs}
use Rattle.x_trees.specs.Tree.{Definition}
use Rattle.x_clash.specs.declared.clash.Clash as told_as
use Rattle.x_clash.specs.Clashes.{AreClashes, AreInOrder, Thing, clash_with, clashes_behind, clashes_of}
use Rattle.x_clash.specs.Clashes.{first_of, is_at_file_scope, is_macro, is_other_macro, met_by, rival_of_c}
use Rattle.x_clash.specs.Clashes.{thing, things_of, twin_of}
use Rattle.x_clash.specs.Firsts.{AreFirsts, met_in, no_firsts}
use Rattle.x_clash.specs.Given.{Sort, Macro, Tagged, Function, Plain, Member}
use Rattle.x_clash.specs.Table.{HasFirsts, firsts_in}
use Rattle.x_clash.specs.Views.{Clash, view_all, view_given}
use Rattle.x_clash.specs.declared.given.Given as rust
use Rattle.x_clash.specs.declared.clash.Rival.{Rival}
use Rattle.x_clash.specs.declared.clash.Rival.TheVariants.{OfText}
use Rattle.x_clash.specs.declared.firsts.Firsts.{Firsts}
use Rattle.x_clash.proofs.FirstLemmas.{with_other}

-- what a thing meets of those that are kept is what it meets of all
pub met_is : (name : List ℕ) (things : List Thing) (f : Firsts) (sort : Sort) → AreFirsts name things f
    → met_in f sort ≡ met_by sort name things
met_is name things f (Macro text) are =
    ap (λ x. option_or x (option_or f.at_file_scope f.member)) (are.other_macros text)
    ∙ ap (λ x. option_or (first_of (is_other_macro text) name things) (option_or x f.member))
    are.at_file_scope
    ∙ ap (λ x. option_or (first_of (is_other_macro text) name things)
    (option_or (first_of is_at_file_scope name things) x)) are.members
met_is name things f Member are = are.macros
met_is name things f Tagged are = ap (λ x. option_or x f.at_file_scope) are.macros
    ∙ ap (option_or (first_of is_macro name things)) are.at_file_scope
met_is name things f Function are = ap (λ x. option_or x f.at_file_scope) are.macros
    ∙ ap (option_or (first_of is_macro name things)) are.at_file_scope
met_is name things f Plain are = ap (λ x. option_or x f.at_file_scope) are.macros
    ∙ ap (option_or (first_of is_macro name things)) are.at_file_scope

-- no thing is there yet
pub none_kept : HasFirsts [] []
none_kept name = record { macros = refl; other_macros = λ text. refl; at_file_scope = refl; members = refl }

abbrev pub found_in : List ℕ → List (CowSlice ℕ Global × Firsts) → Option Firsts
found_in name entries = lookup (λ key. bytes_eq name (cow_slice_items key)) entries

-- a thing is put into the table
pub put : (old new : List (CowSlice ℕ Global × Firsts)) (things : List Thing) (t : Thing) (f : Firsts)
    → ((name : List ℕ) → found_in name new ≡ option_or (cond (bytes_eq name t.given.name) (Some f) None)
    (found_in name old))
    → AreFirsts t.given.name (things ++ t ∷ []) f → HasFirsts old things → HasFirsts new (things ++ t ∷ [])
put old new things t f more are has name = by (bytes_eq name t.given.name) refl
  where
    by : (b : Bool) → bytes_eq name t.given.name ≡ b → AreFirsts name (things ++ t ∷ []) (firsts_in new name)
    by true e =
        let same : name ≡ t.given.name = (bytes_eq-Decides name t.given.name).0 e in
        let here : firsts_in new name ≡ f = ap (λ o. unwrap_or o no_firsts) (more name
        ∙ ap (λ c. option_or (cond c (Some f) None) (found_in name old)) e) in
        let P : List ℕ → Type 0 = λ n. AreFirsts n (things ++ t ∷ []) f in
        let Q : Firsts → Type 0 = λ g. AreFirsts name (things ++ t ∷ []) g in
        subst Q (sym here) (subst P (sym same) are)
    by false e =
        let here : firsts_in new name ≡ firsts_in old name = ap (λ o. unwrap_or o no_firsts) (more name
        ∙ ap (λ c. option_or (cond c (Some f) None) (found_in name old)) e) in
        let Q : Firsts → Type 0 = λ g. AreFirsts name (things ++ t ∷ []) g in
        subst Q (sym here) (with_other name things t (firsts_in old name) e (has name))

map-both : {X Y : Type 0} (f : X → Y) (xs ys : List X) → map f (xs ++ ys) ≡ map f xs ++ map f ys
map-both f [] ys = refl
map-both f (x ∷ xs) ys = ap (λ l. f x ∷ l) (map-both f xs ys)

-- the clashes of a thing, one kind after another
pub told : (taken : List ℕ → Option TakenAs) (things : List Thing) (t : Thing) (a b c d : List Clash)
    (r s u : Option Rival)
    → b ≡ a ++ map (clash_with t) (option_to_list r) → c ≡ b ++ map (clash_with t) (option_to_list s)
    → d ≡ c ++ map (clash_with t) (option_to_list u) → r ≡ rival_of_c taken t.given → s ≡ twin_of t
    → u ≡ option_map OfText (met_by t.given.sort t.given.name things) → d ≡ a ++ clashes_of taken things t
told taken things t a b c d r s u one two three is_r is_s is_u =
    let first = option_to_list r in
    let second = option_to_list s in
    let third = option_to_list u in
    let F = map (clash_with t) in
    three ∙ ap (λ l. l ++ F third) (two ∙ ap (λ l. l ++ F second) one ∙ append_assoc a (F first) (F second))
    ∙ append_assoc a (F first ++ F second) (F third)
    ∙ ap (λ l. a ++ l) (append_assoc (F first) (F second) (F third))
    ∙ ap (λ l. a ++ (F first ++ l)) (sym (map-both (clash_with t) second third))
    ∙ ap (λ l. a ++ l) (sym (map-both (clash_with t) first (second ++ third)))
    ∙ ap (λ o. a ++ F (option_to_list o ++ (second ++ third))) is_r
    ∙ ap (λ o. a ++ F (option_to_list (rival_of_c taken t.given) ++ (option_to_list o ++ third))) is_s
    ∙ ap (λ o. a ++ F (option_to_list (rival_of_c taken t.given)
    ++ (option_to_list (twin_of t) ++ option_to_list o))) is_u

-- the clashes of things, and then of more behind them
pub behind_both : (taken : List ℕ → Option TakenAs) (things xs ys : List Thing)
    → clashes_behind taken things (xs ++ ys) ≡ clashes_behind taken things xs
    ++ clashes_behind taken (things ++ xs) ys
behind_both taken things [] ys = ap (λ l. clashes_behind taken l ys) (sym (append-nil things))
behind_both taken things (x ∷ xs) ys =
    ap (λ l. clashes_of taken things x ++ l) (behind_both taken (things ++ x ∷ []) xs ys)
    ∙ sym (append_assoc (clashes_of taken things x) (clashes_behind taken (things ++ x ∷ []) xs)
    (clashes_behind taken ((things ++ x ∷ []) ++ xs) ys))
    ∙ ap (λ l. (clashes_of taken things x ++ clashes_behind taken (things ++ x ∷ []) xs)
    ++ clashes_behind taken l ys)
    (append_assoc things (x ∷ []) xs)

-- ---- the things of an item, one after another

abbrev pub things_by : ℕ → List rust.Given → List Thing
things_by item gs = map (thing item) (view_all gs)

more : (item : ℕ) (gs : List rust.Given) (g : rust.Given)
    → things_by item (gs ++ g ∷ []) ≡ things_by item gs ++ thing item (view_given g) ∷ []
more item gs g =
    ap (map (thing item)) (map-both view_given gs (g ∷ []))
    ∙ map-both (thing item) (view_all gs) (view_given g ∷ [])

pub things_more : (item : ℕ) (things : List Thing) (gs : List rust.Given) (g : rust.Given)
    → (things ++ things_by item gs) ++ thing item (view_given g) ∷ []
    ≡ things ++ things_by item (gs ++ g ∷ [])
things_more item things gs g =
    append_assoc things (things_by item gs) (thing item (view_given g) ∷ [])
    ∙ sym (ap (λ l. things ++ l) (more item gs g))

pub clashes_more : (taken : List ℕ → Option TakenAs) (item : ℕ) (things : List Thing) (gs : List rust.Given)
    (g : rust.Given)
    (old before after : List Clash) → before ≡ old ++ clashes_behind taken things (things_by item gs)
    → after ≡ before ++ clashes_of taken (things ++ things_by item gs) (thing item (view_given g))
    → after ≡ old ++ clashes_behind taken things (things_by item (gs ++ g ∷ []))
clashes_more taken item things gs g old before after so here =
    let front = things_by item gs in
    let t = thing item (view_given g) in
    here ∙ ap (λ l. l ++ clashes_of taken (things ++ front) t) so
    ∙ append_assoc old (clashes_behind taken things front) (clashes_of taken (things ++ front) t)
    ∙ ap (λ l. old ++ (clashes_behind taken things front ++ l))
    (sym (append-nil (clashes_of taken (things ++ front) t)))
    ∙ ap (λ l. old ++ l) (sym (behind_both taken things front (t ∷ [])))
    ∙ ap (λ l. old ++ clashes_behind taken things l) (sym (more item gs g))

-- ---- items, one after another

-- nothing is in order
pub none_in_order : AreInOrder [] []
none_in_order = record {
  unsorted = [];
  these = refl;
  permuted = record { moves = []; below = tt; is = refl };
  sorted = λ k d low high. absurd (omega (arith, high));
  stable = λ x. refl;
}

-- the clashes of one item more
pub item_more : (taken : List ℕ → Option TakenAs) (item next : ℕ) (things : List Thing)
    (ds rest all : List (Option Definition)) (d : Option Definition) (found here : List told_as.Clash)
    → next ≡ suc item → ds ≡ d ∷ rest → AreInOrder (clashes_behind taken things (things_of item d)) here
    → ((more : List told_as.Clash) → AreClashes taken item things ds more
    → AreClashes taken 0 [] all (found ++ more))
    → (more : List told_as.Clash) → AreClashes taken next (things ++ things_of item d) rest more
    → AreClashes taken 0 [] all ((found ++ here) ++ more)
item_more taken item next things ds rest all d found here is_next is ordered so more left =
    let P : List told_as.Clash → Type 0 = λ l. AreClashes taken 0 [] all l in
    let Q : List (Option Definition) → Type 0 = λ l. AreClashes taken item things l (here ++ more) in
    let R : ℕ → Type 0 = λ n. AreClashes taken n (things ++ things_of item d) rest more in
    subst P (sym (append_assoc found here more))
    (so (here ++ more) (subst Q (sym is) (here, more, refl, ordered, subst R is_next left)))

-- an item without a definition
pub item_without : (taken : List ℕ → Option TakenAs) (item next : ℕ) (things : List Thing)
    (ds rest all : List (Option Definition)) (found : List told_as.Clash) → next ≡ suc item → ds ≡ None ∷ rest
    → ((more : List told_as.Clash) → AreClashes taken item things ds more
    → AreClashes taken 0 [] all (found ++ more))
    → (more : List told_as.Clash) → AreClashes taken next things rest more
    → AreClashes taken 0 [] all (found ++ more)
item_without taken item next things ds rest all found is_next is so more left =
    let P : List told_as.Clash → Type 0 = λ l. AreClashes taken 0 [] all (l ++ more) in
    let Q : List Thing → Type 0 = λ l. AreClashes taken next l rest more in
    subst P (append-nil found)
    (item_more taken item next things ds rest all None found [] is_next is none_in_order so more
    (subst Q (sym (append-nil things)) left))

pub all_items : (taken : List ℕ → Option TakenAs) (item : ℕ) (things : List Thing)
    (ds all : List (Option Definition))
    (found : List told_as.Clash) → ds ≡ []
    → ((more : List told_as.Clash) → AreClashes taken item things ds more
    → AreClashes taken 0 [] all (found ++ more))
    → AreClashes taken 0 [] all found
all_items taken item things ds all found none so =
    let P : List told_as.Clash → Type 0 = λ l. AreClashes taken 0 [] all l in
    let Q : List (Option Definition) → Type 0 = λ l. AreClashes taken item things l [] in
    subst P (append-nil found) (so [] (subst Q (sym none) refl))
