-- The faults of cases are what the rule for cases says, and all of them.
use Rattle.std.specs.Prelude.{ℤ, pos, nat_le, nat_lt, not, ◌&&◌}
use Rattle.std.proofs.Common.{◌≡◌, ℕ, ◌+◌, length, Bool, true, false, cond, List, [], map, Option, None, Some}
use Rattle.std.proofs.Common.{arith, refl, sym, ap, subst, ◌∙◌}
use Rattle.std.proofs.lemmas.Bool.Decides.{Decides-int_eq}
use Rattle.std.proofs.lemmas.Cmp.{int_eq_equiv}
use Rattle.std.proofs.lemmas.Option.{same_Some}
use Rattle.std.specs.List.{IsAmong, flat_map, list_any}
use Rattle.std.specs.Ordering.{int_eq}
use Rattle.x_trees.specs.Tree as tree
use Rattle.x_trees.specs.Tree.{Definition}
use Rattle.x_trees.specs.Spell.{spell_declaration}
use Rattle.x_trees.specs.View.{view_body}
use Rattle.x_outline.specs.Bodies.{BodyAt, ValueAt, bodies, enumerators, cases_of}
use Rattle.x_outline.specs.BodyWalks.{view_body_at, IsBehind, AreFilled}
use Rattle.x_rules.specs.Cases.{is_outside, case_fault, has_fault, case_faults, class_faults, bad_cases_by}
use Rattle.x_rules.specs.Cases.{bad_cases_of}
use Rattle.x_rules.specs.Constants.{Known, knowns, limit_of, number_by}
use Rattle.x_rules.specs.Found.{fault_at}
use Rattle.x_numbers.specs.Numbers.{is_enum_number, is_word_number}
use Rattle.x_rules.specs.Rules.{Breaks, IsOutside, IsBadCase, HasNoFault}
use Rattle.x_rules.specs.Types.{declaration_class}
use Rattle.x_rules.specs.Views.{View, Class, Other, Signed, Unsigned, Boolean, Enumeration}
use Rattle.x_rules.specs.declared.fault.RuleCode.{RuleCode}
use Rattle.x_rules.specs.declared.fault.RuleCode.TheVariants as codes
use Rattle.x_rules.specs.declared.fault.WordFault.{WordFault}
use Rattle.x_outline.specs.declared.parts.BodyAt.{BodyAt as Kept}
use Rattle.x_trees.proofs.AmongLemmas.{among_none}
use Rattle.x_rules.proofs.FamilyLemmas.{flat_among, among_flat, fault_is, is_fault, any_is, any_found}
use Rattle.x_rules.proofs.OutlineLemmas.{flat_bodies}
use Rattle.x_rules.proofs.SortedFaults.{inside, within}

-- the faults of the cases of a union, by whether a fault
-- stands in its brackets, and by the class of its discriminant
pub union_faults : (see : List ℕ → View) (known : List Known) (found : List WordFault) (body : tree.Body)
    (d : tree.Declaration) (arms : tree.Arms) (other : tree.Default) (at behind : ℕ) (vs : List ValueAt)
    (has : Bool) (class : Option Class)
    → body ≡ tree.Union d arms other → has ≡ has_fault found (at + 2) behind
    → class ≡ declaration_class see known d
    → cond has [] (class_faults see known class vs) ≡ bad_cases_by see known found body at behind vs
union_faults see known found body d arms other at behind vs has class is e f =
    ap (λ b. cond b [] (class_faults see known class vs)) e
    ∙ ap (λ o. cond (has_fault found (at + 2) behind) [] (class_faults see known o vs)) f
    ∙ ap (λ b. bad_cases_by see known found b at behind vs) (sym is)

-- ---- numbers that a discriminant has not

not_true : (b : Bool) → not b ≡ true → b ≡ false
not_true true e = absurd (cc)
not_true false e = refl

both : (a b : Bool) → (a && b) ≡ true → (a ≡ true) × (b ≡ true)
both true b e = (refl, e)
both false b e = absurd (cc)

differs : (z n : ℤ) → int_eq z n ≡ false → z ≡ n → ⊥
differs z n e same =
    let is : false ≡ true = sym e ∙ ap (int_eq z) (sym same) ∙ int_eq_equiv.refl z in absurd (cc)

not_same : (z n : ℤ) → (z ≡ n → ⊥) → int_eq z n ≡ false
not_same z n other = by (int_eq z n) refl
  where
    by : (b : Bool) → int_eq z n ≡ b → b ≡ false
    by true e = absurd (other ((Decides-int_eq z n).0 e))
    by false e = refl

outside_is : (class : Class) (z : ℤ) → is_outside class z ≡ true → IsOutside class z
outside_is Other z e = absurd (cc)
outside_is Signed z e = not_true (is_enum_number z) e
outside_is Unsigned z e = not_true (is_word_number z) e
outside_is Boolean z e =
    let parts = both (not (int_eq z (pos 0))) (not (int_eq z (pos 1))) e in (
      differs z (pos 0) (not_true (int_eq z (pos 0)) parts.0),
      differs z (pos 1) (not_true (int_eq z (pos 1)) parts.1),
    )
outside_is (Enumeration numbers) z e =
    λ k. let is : false ≡ true = sym (not_true (list_any (int_eq z) numbers) e)
    ∙ any_found (int_eq z) numbers z k (int_eq_equiv.refl z) in absurd (cc)

is_outside_of : (class : Class) (z : ℤ) → IsOutside class z → is_outside class z ≡ true
is_outside_of Other z h = absurd h
is_outside_of Signed z h = ap not h
is_outside_of Unsigned z h = ap not h
is_outside_of Boolean z h = ap (λ b. not b && not (int_eq z (pos 1))) (not_same z (pos 0) h.0)
    ∙ ap not (not_same z (pos 1) h.1)
is_outside_of (Enumeration numbers) z h = by (list_any (int_eq z) numbers) refl
  where
    by : (b : Bool) → list_any (int_eq z) numbers ≡ b → not b ≡ true
    by true e = let o = any_is (int_eq z) numbers e in
        absurd (h (subst (IsAmong numbers) (sym ((Decides-int_eq z o.0).0 o.2)) o.1))
    by false e = refl

-- ---- the cases of a body

-- the word behind the discriminant of a union whose first word is this one
abbrev pub behind_of : tree.Body → ℕ → ℕ
behind_of (tree.Union d arms other) at = at + 2 + length (spell_declaration d)
behind_of body at = at

-- the faults of the cases of a body of a definition
abbrev pub bad_cases_in : (List ℕ → View) → List Known → List WordFault → BodyAt → List WordFault
bad_cases_in see known found b = bad_cases_by see known found b.body b.at (behind_of b.body b.at) (cases_of b)

same_behind : (see : List ℕ → View) (known : List Known) (found : List WordFault) (body : tree.Body)
    (at behind : ℕ) (vs : List ValueAt) → IsBehind body at behind
    → bad_cases_by see known found body at behind vs
    ≡ bad_cases_by see known found body at (behind_of body at) vs
same_behind see known found (tree.Enum es) at behind vs h = refl
same_behind see known found (tree.Struct ds) at behind vs h = refl
same_behind see known found (tree.Union d arms other) at behind vs h =
    ap (λ k. cond (has_fault found (at + 2) k) [] (class_faults see known (declaration_class see known d) vs))
    h

-- what is kept of bodies gives the faults of their cases
pub kept_bad_cases : (see : List ℕ → View) (known : List Known) (found : List WordFault) (bs : List Kept)
    → AreFilled bs
    → flat_map (bad_cases_of see known found) bs
    ≡ flat_map (bad_cases_in see known found) (map view_body_at bs)
kept_bad_cases see known found bs filled =
    flat_bodies (bad_cases_of see known found) (bad_cases_in see known found) bs
    (λ b k.
    ap (bad_cases_by see known found (view_body b.body.now) b.at b.behind_discriminant) (filled b k).cases
    ∙ same_behind see known found (view_body b.body.now) b.at b.behind_discriminant
    (cases_of (view_body_at b)) (filled b k).behind)

-- ---- a case that is found

-- what is found of a case
record Outside (see : List ℕ → View) (known : List Known) (class : Class) (vs : List ValueAt)
    (f : WordFault) : Type 0 where
  pub case : ValueAt
  pub is_case : IsAmong vs case
  pub word_is : f.word ≡ case.word
  pub code_is : f.code ≡ codes.BadCase
  pub number : ℤ
  pub number_is : number_by see known (limit_of case.word) case.value ≡ Some number
  pub outside : IsOutside class number

found_outside : (see : List ℕ → View) (known : List Known) (class : Class) (vs : List ValueAt) (f : WordFault)
    → IsAmong (case_faults see known class vs) f → Outside see known class vs f
found_outside see known class vs f h =
    let o = flat_among
    (λ v. fault_at v.word (case_fault class (number_by see known (limit_of v.word) v.value))) vs f h in
    let is = fault_is o.one.word (case_fault class (number_by see known (limit_of o.one.word) o.one.value))
    f o.of_it in
    by o.one o.among is.word_is (number_by see known (limit_of o.one.word) o.one.value) refl is.code_is
  where
    none : Option RuleCode
    none = None

    by : (v : ValueAt) → IsAmong vs v → f.word ≡ v.word → (n : Option ℤ)
        → number_by see known (limit_of v.word) v.value ≡ n → case_fault class n ≡ Some f.code
        → Outside see known class vs f
    by v k w None e c = absurd (cc)
    by v k w (Some z) e c = then (is_outside class z) refl
      where
        then : (b : Bool) → is_outside class z ≡ b → Outside see known class vs f
        then true t = record {
          case = v;
          is_case = k;
          word_is = w;
          code_is = sym (same_Some codes.BadCase f.code
              (sym (ap (λ b. cond b (Some codes.BadCase) none) t) ∙ c));
          number = z;
          number_is = e;
          outside = outside_is class z t;
        }
        then false t =
            let is : none ≡ Some f.code = sym (ap (λ b. cond b (Some codes.BadCase) none) t) ∙ c in
            absurd (cc)

-- a union in whose brackets no fault stands, with the class of its discriminant
record IsClear (see : List ℕ → View) (known : List Known) (found : List WordFault) (body : tree.Body)
    (at behind : ℕ) (vs : List ValueAt) (f : WordFault) : Type 0 where
  pub discriminant : tree.Declaration
  pub arms : tree.Arms
  pub other : tree.Default
  pub body_is : body ≡ tree.Union discriminant arms other
  pub clear : has_fault found (at + 2) behind ≡ false
  pub class : Class
  pub class_is : declaration_class see known discriminant ≡ Some class
  pub among : IsAmong (case_faults see known class vs) f

found_clear : (see : List ℕ → View) (known : List Known) (found : List WordFault) (body : tree.Body)
    (at behind : ℕ) (vs : List ValueAt) (f : WordFault)
    → IsAmong (bad_cases_by see known found body at behind vs) f → IsClear see known found body at behind vs f
found_clear see known found (tree.Enum es) at behind vs f h = absurd (among_none f h)
found_clear see known found (tree.Struct ds) at behind vs f h = absurd (among_none f h)
found_clear see known found (tree.Union d arms other) at behind vs f h =
    by (has_fault found (at + 2) behind) refl h
  where
    by : (b : Bool) → has_fault found (at + 2) behind ≡ b
        → IsAmong (cond b [] (class_faults see known (declaration_class see known d) vs)) f
        → IsClear see known found (tree.Union d arms other) at behind vs f
    by true e k = absurd (among_none f k)
    by false e k = then (declaration_class see known d) refl k
      where
        then : (o : Option Class) → declaration_class see known d ≡ o
            → IsAmong (class_faults see known o vs) f
            → IsClear see known found (tree.Union d arms other) at behind vs f
        then None c j = absurd (among_none f j)
        then (Some class) c j =
            record {
              discriminant = d;
              arms = arms;
              other = other;
              body_is = refl;
              clear = e;
              class = class;
              class_is = c;
              among = j;
            }

-- where none of the faults stands in the words of a declaration, none of its words breaks a rule
no_fault : (d : Definition) (see : List ℕ → View) (found : List WordFault) (at behind : ℕ)
    (declaration : tree.Declaration)
    → ((word : ℕ) (code : RuleCode) → Breaks d see word code
    → IsAmong found (record { word = word; code = code }))
    → behind ≡ at + length (spell_declaration declaration) → has_fault found at behind ≡ false
    → HasNoFault d see at declaration
no_fault d see found at behind declaration all ends clear word code le lt breaks =
    let test : (nat_le at word && nat_lt word behind) ≡ true =
    inside at behind word le (omega (arith, ends, lt)) in
    let is : false ≡ true = sym clear ∙ any_found (λ f. nat_le at f.word && nat_lt f.word behind) found
    (record { word = word; code = code }) (all word code breaks) test in
    absurd (cc)

pub found_bad_case : (d : Definition) (see : List ℕ → View) (found : List WordFault) (f : WordFault)
    → ((word : ℕ) (code : RuleCode) → Breaks d see word code
    → IsAmong found (record { word = word; code = code }))
    → IsAmong (flat_map (bad_cases_in see (knowns see (enumerators d)) found) (bodies d)) f
    → (f.code ≡ codes.BadCase) × IsBadCase d see f.word
found_bad_case d see found f all h =
    let known = knowns see (enumerators d) in
    let o = flat_among (bad_cases_in see known found) (bodies d) f h in
    let b = o.one in
    let c = found_clear see known found b.body b.at (behind_of b.body b.at) (cases_of b) f o.of_it in
    let out = found_outside see known c.class (cases_of b) f c.among in (
      out.code_is,
      record {
        union = b;
        is_body = o.among;
        at = b.at + 2;
        discriminant = c.discriminant;
        is_switch = record { arms = c.arms; other = c.other; body_is = c.body_is; at_is = refl };
        case = out.case;
        is_case = out.is_case;
        word_is = out.word_is;
        number = out.number;
        number_is = out.number_is;
        class = c.class;
        class_is = c.class_is;
        outside = out.outside;
        no_fault = no_fault d see found (b.at + 2) (behind_of b.body b.at) c.discriminant all
            (ap (λ t. behind_of t b.at) c.body_is) c.clear;
      },
    )

-- ---- a case is found

-- none of the faults stands in the words of a declaration none of whose words breaks a rule
clear_of : (d : Definition) (see : List ℕ → View) (found : List WordFault) (at behind : ℕ)
    (declaration : tree.Declaration)
    → ((f : WordFault) → IsAmong found f → Breaks d see f.word f.code)
    → behind ≡ at + length (spell_declaration declaration) → HasNoFault d see at declaration
    → false ≡ has_fault found at behind
clear_of d see found at behind declaration each ends none = by (has_fault found at behind) refl
  where
    by : (b : Bool) → has_fault found at behind ≡ b → false ≡ b
    by true e =
        let o = any_is (λ f. nat_le at f.word && nat_lt f.word behind) found e in
        let in' = within at behind o.0.word o.2 in
        let lt = in'.1 in
        absurd (none o.0.word o.0.code in'.0 (omega (arith, ends, lt)) (each o.0 o.1))
    by false e = refl

pub bad_case_found : (d : Definition) (see : List ℕ → View) (found : List WordFault) (word : ℕ)
    → ((f : WordFault) → IsAmong found f → Breaks d see f.word f.code) → IsBadCase d see word
    → IsAmong (flat_map (bad_cases_in see (knowns see (enumerators d)) found) (bodies d))
    (record { word = word; code = codes.BadCase })
bad_case_found d see found word each h =
    let known = knowns see (enumerators d) in
    let b = h.union in
    let behind = behind_of b.body b.at in
    let vs = cases_of b in
    let switch = h.is_switch in
    let fault : WordFault = record { word = word; code = codes.BadCase } in
    let behind_is : behind ≡ b.at + 2 + length (spell_declaration h.discriminant) =
    ap (λ t. behind_of t b.at) switch.body_is in
    let clear = clear_of d see found (b.at + 2) behind h.discriminant each behind_is
    (subst (λ k. HasNoFault d see k h.discriminant) switch.at_is h.no_fault) in
    among_flat (bad_cases_in see known found) (bodies d) b fault h.is_body
    (subst (λ l. IsAmong l fault) (union_faults see known found b.body h.discriminant switch.arms switch.other
    b.at behind vs false (Some h.class) switch.body_is clear (sym h.class_is))
    (among_flat (λ v. fault_at v.word (case_fault h.class (number_by see known (limit_of v.word) v.value))) vs
    h.case fault h.is_case
    (is_fault word h.case.word (case_fault h.class (number_by see known (limit_of h.case.word) h.case.value))
    codes.BadCase h.word_is
    (ap (case_fault h.class) h.number_is
    ∙ ap (λ b. cond b (Some codes.BadCase) none) (is_outside_of h.class h.number h.outside)))))
  where
    none : Option RuleCode
    none = None
