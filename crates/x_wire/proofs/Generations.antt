-- Generations of calls: which call is the last of its xid.
use Rattle.std.proofs.Common.{◌≡◌, ℕ, ◌+◌, ◌*◌, ◌/◌, ◌%◌, ◌^◌, ◌<◌, ◌≤◌, nat_eq, Bool, true, false, cond}
use Rattle.std.proofs.Common.{List, [], ◌∷◌, ◌++◌, map, length, Option, Some, None, refl, sym, ap, subst, ◌∙◌}
use Rattle.std.proofs.Common.{arith}
use Rattle.std.proofs.lemmas.Map.Made.{lookup-map_values}
use Rattle.std.proofs.lemmas.Bool.Decides.{nat_tests}
use Rattle.std.specs.Prelude.{option_map}
use Rattle.std.specs.Map.{lookup}
use Rattle.std.specs.Option.{option_or}
use Rattle.std.specs.Ordering.{nat_cmp, is_eq}
use Rattle.std.specs.BTreeMap.{BTreeMap, get}
use Rattle.x_wire.specs.LastCalls.{call_kept, calls_in, last_in}
use Rattle.x_wire.specs.declared.telling.calls.CompactCall.{CompactCall}
use Rattle.x_wire.specs.declared.telling.calls.LastCall.{LastCall}

or_assoc : {T : Type 0} → (a b c : Option T) → option_or (option_or a b) c ≡ option_or a (option_or b c)
or_assoc None b c = refl
or_assoc (Some x) b c = refl

or_none : {T : Type 0} → (a : Option T) → option_or a None ≡ a
or_none None = refl
or_none (Some x) = refl

or_cond : {T : Type 0} → (b : Bool) (x : T) (a : Option T)
    → cond b (Some x) a ≡ option_or (cond b (Some x) None) a
or_cond true x a = refl
or_cond false x a = refl

cond_or : {T : Type 0} → (b : Bool) (x : T) (a c : Option T)
    → cond b (Some x) (option_or a c) ≡ option_or (cond b (Some x) a) c
cond_or true x a c = refl
cond_or false x a c = refl

lookup_both : {K X : Type 0} → (test : K → Bool) (es fs : List (K × X))
    → lookup test (es ++ fs) ≡ option_or (lookup test es) (lookup test fs)
lookup_both test [] fs = refl
lookup_both test (e ∷ es) fs = ap (cond (test e.0) (Some e.1)) (lookup_both test es fs)
    ∙ cond_or (test e.0) e.1 (lookup test es) (lookup test fs)

-- the last call of an xid in a generation
abbrev found_in : ℕ → BTreeMap ℕ CompactCall → ℕ → Option LastCall
found_in generation m xid = option_map (call_kept generation) (lookup (nat_eq xid) m.entries)

-- of one generation more the last call comes first
last_more : (g at : ℕ) (ms : List (BTreeMap ℕ CompactCall)) (m : BTreeMap ℕ CompactCall) (xid : ℕ)
    → at ≡ g + length ms
    → last_in g (ms ++ m ∷ []) xid ≡ option_or (found_in at m xid) (last_in g ms xid)
last_more g at [] m xid is =
    lookup-map_values (call_kept g) (nat_eq xid) m.entries
    ∙ ap (λ n. found_in n m xid) (let same : g ≡ at = omega (arith, is) in same)
    ∙ sym (or_none (found_in at m xid))
last_more g at (n ∷ ms) m xid is =
    let kept = map (λ (e : ℕ × CompactCall). (e.0, call_kept g e.1)) n.entries in
    lookup_both (nat_eq xid) (calls_in (g + 1) (ms ++ m ∷ [])) kept
    ∙ ap (λ o. option_or o (lookup (nat_eq xid) kept)) (last_more (g + 1) at ms m xid (omega (arith, is)))
    ∙ or_assoc (found_in at m xid) (last_in (g + 1) ms xid) (lookup (nat_eq xid) kept)
    ∙ ap (option_or (found_in at m xid)) (sym (lookup_both (nat_eq xid) (calls_in (g + 1) ms) kept))

-- of all generations the call in the last one comes first
last_whole : (at : ℕ) (ms : List (BTreeMap ℕ CompactCall)) (m : BTreeMap ℕ CompactCall) (xid : ℕ)
    → at ≡ length ms
    → last_in 0 (ms ++ m ∷ []) xid ≡ option_or (found_in at m xid) (last_in 0 ms xid)
last_whole at ms m xid is = last_more 0 at ms m xid (omega (arith, is))

-- an empty generation more changes nothing
pub last_begun : (ms : List (BTreeMap ℕ CompactCall)) (m : BTreeMap ℕ CompactCall) (xid : ℕ) → m.entries ≡ []
    → last_in 0 (ms ++ m ∷ []) xid ≡ last_in 0 ms xid
last_begun ms m xid is =
    last_whole (length ms) ms m xid refl
    ∙ ap (λ (es : List (ℕ × CompactCall)).
    option_or (option_map (call_kept (length ms)) (lookup (nat_eq xid) es)) (last_in 0 ms xid)) is

-- the last call is found by the entries of the last generation
pub last_same : (ms : List (BTreeMap ℕ CompactCall)) (old new : BTreeMap ℕ CompactCall) (xid : ℕ)
    → new.entries ≡ old.entries
    → last_in 0 (ms ++ new ∷ []) xid ≡ last_in 0 (ms ++ old ∷ []) xid
last_same ms old new xid is =
    last_whole (length ms) ms new xid refl
    ∙ ap (λ (es : List (ℕ × CompactCall)).
    option_or (option_map (call_kept (length ms)) (lookup (nat_eq xid) es)) (last_in 0 ms xid)) is
    ∙ sym (last_whole (length ms) ms old xid refl)

-- ---- maps

same_test : (a b : ℕ) → is_eq (nat_cmp a b) ≡ nat_eq a b
same_test a b = grind (arith, nat_tests)

by_entries : (xid : ℕ) (es : List (ℕ × CompactCall))
    → lookup (λ k. is_eq (nat_cmp xid k)) es ≡ lookup (nat_eq xid) es
by_entries xid [] = refl
by_entries xid (e ∷ es) = ap (λ b. cond b (Some e.1) (lookup (λ k. is_eq (nat_cmp xid k)) es))
    (same_test xid e.0) ∙ ap (cond (nat_eq xid e.0) (Some e.1)) (by_entries xid es)

put_by : (b : Bool) (at : ℕ) (call : CompactCall) (old : Option CompactCall) (o : Option LastCall)
    → option_or (option_map (call_kept at) (cond b (Some call) old)) o
    ≡ cond b (Some (call_kept at call)) (option_or (option_map (call_kept at) old) o)
put_by true at call old o = refl
put_by false at call old o = refl

-- a map finds by the order of its keys what is found by whether they are equal
pub get_is : (m : BTreeMap ℕ CompactCall) (xid : ℕ) → get nat_cmp m xid ≡ lookup (nat_eq xid) m.entries
get_is m xid = by_entries xid m.entries

-- what was put into the last generation is the last call of its xid
pub put_last : (ms : List (BTreeMap ℕ CompactCall)) (old new : BTreeMap ℕ CompactCall) (at xid : ℕ)
    (call : CompactCall)
    → at ≡ length ms
    → ((q : ℕ) → get nat_cmp new q ≡ cond (is_eq (nat_cmp xid q)) (Some call) (get nat_cmp old q))
    → (q : ℕ) → last_in 0 (ms ++ new ∷ []) q
    ≡ cond (nat_eq xid q) (Some (call_kept at call)) (last_in 0 (ms ++ old ∷ []) q)
put_last ms old new at xid call is updates q =
    let found : lookup (nat_eq q) new.entries
    ≡ cond (nat_eq xid q) (Some call) (lookup (nat_eq q) old.entries) =
    sym (get_is new q) ∙ updates q ∙ ap (λ b. cond b (Some call) (get nat_cmp old q)) (same_test xid q)
    ∙ ap (cond (nat_eq xid q) (Some call)) (get_is old q) in
    last_whole at ms new q is ∙ ap (λ o. option_or (option_map (call_kept at) o) (last_in 0 ms q)) found
    ∙ put_by (nat_eq xid q) at call (lookup (nat_eq q) old.entries) (last_in 0 ms q)
    ∙ ap (cond (nat_eq xid q) (Some (call_kept at call))) (sym (last_whole at ms old q is))

-- the last generation has the call
pub get_some : (ms : List (BTreeMap ℕ CompactCall)) (m : BTreeMap ℕ CompactCall) (at xid : ℕ)
    (call : CompactCall) → at ≡ length ms
    → get nat_cmp m xid ≡ Some call → last_in 0 (ms ++ m ∷ []) xid ≡ Some (call_kept at call)
get_some ms m at xid call is found =
    last_whole at ms m xid is
    ∙ ap (λ o. option_or (option_map (call_kept at) o) (last_in 0 ms xid)) (sym (get_is m xid) ∙ found)

-- it does not have one
pub get_none : (ms : List (BTreeMap ℕ CompactCall)) (m : BTreeMap ℕ CompactCall) (xid : ℕ)
    → get nat_cmp m xid ≡ None → last_in 0 (ms ++ m ∷ []) xid ≡ last_in 0 ms xid
get_none ms m xid found =
    last_whole (length ms) ms m xid refl
    ∙ ap (λ o. option_or (option_map (call_kept (length ms)) o) (last_in 0 ms xid))
    (sym (get_is m xid) ∙ found)

-- there is none in no generation
pub none_left : (ms : List (BTreeMap ℕ CompactCall)) (xid : ℕ) → length ms ≡ 0 → last_in 0 ms xid ≡ None
none_left [] xid is = refl
none_left (m ∷ ms) xid is = absurd (omega (arith, is))
