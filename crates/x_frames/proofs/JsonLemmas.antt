-- Data without a float.
use Rattle.std.proofs.Common.{◌≡◌, ℕ, Bool, true, false, List, [], ◌∷◌, ◌++◌, map, ap, ◌∙◌}
use Rattle.std.specs.Prelude.{◌||◌, Result, Ok, Err, OnOk, OnErr}
use Rattle.std.specs.Prelude.{String}
use Rattle.std.specs.Cmp.Lexicographic.{slice_cmp}
use Rattle.std.specs.Ordering.{match_ordering, nat_cmp}
use Rattle.std.specs.declared.alloc.Global.{Global}
use Rattle.std.specs.declared.cmp.Ordering.{Ordering}
use Rattle.std.specs.declared.cmp.Ordering.TheVariants.{Less, Equal, Greater}
use Rattle.serde_json.specs.Data.{Data, Members, no_members, member, put}
use Rattle.serde_json.specs.View.{items_of, items_view, members_view, view}
use Rattle.serde_json.specs.Written.{has_float, items_have_float, members_have_float}
use Rattle.serde_json.specs.declared.value.Value.{Value}
use Rattle.x_lists.proofs.ListLemmas.{map_append}

none_of : (t u v : Bool) → (t || u) ≡ false → (u ≡ false → v ≡ false) → (t || v) ≡ false
none_of true u v e f = absurd (cc)
none_of false u v e f = f e

-- one more in a list without a float
pub plain_more : (ds : List Data) (d : Data) → items_have_float (items_of ds) ≡ false → has_float d ≡ false
    → items_have_float (items_of (ds ++ d ∷ [])) ≡ false
plain_more [] d none plain = ap (λ t. t || false) plain
plain_more (e ∷ ds) d none plain =
    none_of (has_float e) (items_have_float (items_of ds)) (items_have_float (items_of (ds ++ d ∷ []))) none
    (λ rest. plain_more ds d rest plain)

-- a list without a float that was to get one more, whether it did or not
pub plain_pushed : {A E : Type 0} (r : Result A E) (before after : List Value) (v : Value)
    → OnOk r (after ≡ before ++ v ∷ []) → OnErr r (after ≡ before)
    → items_have_float (items_view before) ≡ false → has_float (view v) ≡ false
    → items_have_float (items_view after) ≡ false
plain_pushed (Ok x) before after v ok err plain value =
    ap (λ l. items_have_float (items_view l)) ok
    ∙ ap (λ l. items_have_float (items_of l)) (map_append view before (v ∷ []))
    ∙ plain_more (map view before) (view v) plain value
plain_pushed (Err e) before after v ok err plain value = ap (λ l. items_have_float (items_view l)) err ∙ plain

tail_of : (t u : Bool) → (t || u) ≡ false → u ≡ false
tail_of true u e = absurd (cc)
tail_of false u e = e

-- one of three
plain_ordered : (o : Ordering) (a b c : Members) → members_have_float a ≡ false → members_have_float b ≡ false
    → members_have_float c ≡ false → members_have_float (match_ordering o a b c) ≡ false
plain_ordered Less a b c pa pb pc = pa
plain_ordered Equal a b c pa pb pc = pb
plain_ordered Greater a b c pa pb pc = pc

-- one more among members without a float
plain_put : (k : List ℕ) (d : Data) (ms : Members) → has_float d ≡ false → members_have_float ms ≡ false
    → members_have_float (put k d ms) ≡ false
plain_put k d no_members plain none = ap (λ t. t || false) plain
plain_put k d (member l e ms) plain none =
    plain_ordered (slice_cmp nat_cmp k l) (member k d (member l e ms)) (member l d ms)
    (member l e (put k d ms))
    (ap (λ t. t || members_have_float (member l e ms)) plain ∙ none)
    (ap (λ t. t || members_have_float ms) plain ∙ tail_of (has_float e) (members_have_float ms) none)
    (none_of (has_float e) (members_have_float ms) (members_have_float (put k d ms)) none
    (λ rest. plain_put k d ms plain rest))

-- members without a float that were to get one more, whether they did or not
pub plain_stored : {A E : Type 0} (r : Result A E) (before after : List (String Global × Value)) (k : List ℕ)
    (v : Value)
    → OnOk r (members_view after ≡ put k (view v) (members_view before)) → OnErr r (after ≡ before)
    → members_have_float (members_view before) ≡ false → has_float (view v) ≡ false
    → members_have_float (members_view after) ≡ false
plain_stored (Ok x) before after k v ok err plain value = ap members_have_float ok
    ∙ plain_put k (view v) (members_view before) value plain
plain_stored (Err e) before after k v ok err plain value = ap (λ l. members_have_float (members_view l)) err
    ∙ plain
