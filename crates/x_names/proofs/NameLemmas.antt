-- Looking names up in a table that grows.
use Rattle.std.proofs.Common.{◌≡◌, ℕ, suc, Bool, true, false, cond, List, [], ◌∷◌, Option, None, Some, refl}
use Rattle.std.proofs.Common.{sym, ap, ◌∙◌}
use Rattle.std.specs.Prelude.{is_none}
use Rattle.std.specs.Map.{lookup}
use Rattle.std.specs.Str.{bytes_eq}
use Rattle.std.proofs.lemmas.Slice.Eq.{bytes_eq-Decides}
use Rattle.indexmap.specs.IndexMap.{insert_entry}
use Rattle.x_trees.specs.Tree.{Definition}
use Rattle.x_trees.specs.Names.{Declared}
use Rattle.std.specs.Option.{option_or}
use Rattle.x_numbers.proofs.Lookups.{or_none}
use Rattle.x_names.specs.Declarers.{declarer_at, place_of_name, declarer_in, first_from}
use Rattle.x_names.specs.declared.names.Declarer.{Declarer}

-- a name that is there changes nothing
pub stays : {X : Type 0} (find : List ℕ → Option X) (name : List ℕ) (r : Option X) (x : X) → r ≡ find name
    → is_none r ≡ false → (other : List ℕ)
    → find other ≡ option_or (find other) (cond (bytes_eq other name) (Some x) None)
stays find name None x is none other = absurd (cc)
stays find name (Some y) x is none other = by (bytes_eq other name) refl
  where
    by : (b : Bool) → bytes_eq other name ≡ b → find other ≡ option_or (find other) (cond b (Some x) None)
    by false e = or_none (find other)
    by true e = let same : other ≡ name = (bytes_eq-Decides other name).0 e in
        let there : find other ≡ Some y = ap find same ∙ sym is in
        there ∙ ap (λ a. option_or a (Some x)) (sym there)

pub option_or_after : {X : Type 0} (a b c : Option X)
    → option_or (option_or a b) c ≡ option_or a (option_or b c)
option_or_after None b c = refl
option_or_after (Some x) b c = refl

-- an entry is put in place of that of its key, or at the end
pub lookup_put : {K X : Type 0} (eq : K → K → Bool) (text : K → List ℕ)
    → ((a b : K) → eq a b ≡ bytes_eq (text a) (text b)) → (name : List ℕ) (es : List (K × X)) (k : K) (x : X)
    → lookup (λ key. bytes_eq name (text key)) (insert_entry eq es k x)
    ≡ option_or (cond (bytes_eq name (text k)) (Some x) None) (lookup (λ key. bytes_eq name (text key)) es)
lookup_put eq text is name [] k x = or_none (cond (bytes_eq name (text k)) (Some x) None)
lookup_put {K} {X} eq text is name (e ∷ es) k x = by (eq k e.0) refl (bytes_eq name (text k)) refl
    (bytes_eq name (text e.0)) refl (lookup_put eq text is name es k x)
  where
    find : List (K × X) → Option X
    find = lookup (λ key. bytes_eq name (text key))

    by : (a : Bool) → eq k e.0 ≡ a → (b : Bool) → bytes_eq name (text k) ≡ b → (c : Bool)
        → bytes_eq name (text e.0) ≡ c
        → find (insert_entry eq es k x) ≡ option_or (cond b (Some x) None) (find es)
        → find (cond a ((e.0, x) ∷ es) (e ∷ insert_entry eq es k x))
        ≡ option_or (cond b (Some x) None) (cond c (Some e.1) (find es))
    by true same true mine true there h = ap (λ b. cond b (Some x) (find es)) there
    by true same false other false gone h = ap (λ b. cond b (Some x) (find es)) gone
    by true same true mine false gone h =
        let one : text k ≡ text e.0 = (bytes_eq-Decides (text k) (text e.0)).0 (sym (is k e.0) ∙ same) in
        let clash : bytes_eq name (text e.0) ≡ true = ap (bytes_eq name) (sym one) ∙ mine in
        absurd (cc)
    by true same false other true there h =
        let one : text k ≡ text e.0 = (bytes_eq-Decides (text k) (text e.0)).0 (sym (is k e.0) ∙ same) in
        let clash : bytes_eq name (text k) ≡ true = ap (bytes_eq name) one ∙ there in
        absurd (cc)
    by false differs true mine true there h =
        let first : name ≡ text k = (bytes_eq-Decides name (text k)).0 mine in
        let clash : bytes_eq (text k) (text e.0) ≡ true =
        ap (λ n. bytes_eq n (text e.0)) (sym first) ∙ there in
        let none : bytes_eq (text k) (text e.0) ≡ false = sym (is k e.0) ∙ differs in
        absurd (cc)
    by false differs true mine false gone h =
        ap (λ b. cond b (Some e.1) (find (insert_entry eq es k x))) gone ∙ h
    by false differs false other true there h =
        ap (λ b. cond b (Some e.1) (find (insert_entry eq es k x))) there
    by false differs false other false gone h =
        ap (λ b. cond b (Some e.1) (find (insert_entry eq es k x))) gone ∙ h

-- one item more, in front of those in the table
pub item_before : (before after : Option Declarer) (n m : ℕ) (ds : List (Option Definition))
    (d : Option Definition) (rest : List (Option Definition)) (name : List ℕ)
    → m ≡ suc n → ds ≡ d ∷ rest → before ≡ first_from m rest name
    → after ≡ option_or (declarer_in n name d) before → after ≡ first_from n ds name
item_before before after n m ds d rest name next is h more =
    more ∙ ap (option_or (declarer_in n name d)) (h ∙ ap (λ k. first_from k rest name) next)
    ∙ sym (ap (λ l. first_from n l name) is)

-- one name more of an item, in front of those in the table
pub name_before : (old before after : Option Declarer) (item n m : ℕ) (ds : List Declared) (d : Declared)
    (rest : List Declared) (name : List ℕ)
    → m ≡ suc n → ds ≡ d ∷ rest → before ≡ option_or (place_of_name item m name rest) old
    → after ≡ option_or (cond (bytes_eq name d.name) (Some (declarer_at item n d)) None) before
    → after ≡ option_or (place_of_name item n name ds) old
name_before old before after item n m ds d rest name next is h more =
    more ∙ ap (option_or (cond (bytes_eq name d.name) (Some (declarer_at item n d)) None))
    (h ∙ ap (λ k. option_or (place_of_name item k name rest) old) next)
    ∙ step (bytes_eq name d.name) ∙ sym (ap (λ l. option_or (place_of_name item n name l) old) is)
  where
    step : (b : Bool) → option_or (cond b (Some (declarer_at item n d)) None)
        (option_or (place_of_name item (suc n) name rest) old)
        ≡ option_or (cond b (Some (declarer_at item n d)) (place_of_name item (suc n) name rest)) old
    step true = refl
    step false = refl
