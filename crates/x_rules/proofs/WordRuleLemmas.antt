-- The faults of noted words are those that the rules name.
use Rattle.std.specs.Prelude.{ℤ, pos, negsuc, neg_ℤ, nat_lt, nat_le}
use Rattle.std.proofs.Common.{◌≡◌, ℕ, zero, suc, ◌^◌, inl, inr, Bool, true, false, cond, List, Option, None}
use Rattle.std.proofs.Common.{Some, arith, refl, sym, ap, subst, ◌∙◌}
use Rattle.std.proofs.lemmas.Bool.Decides.{nat_tests}
use Rattle.std.proofs.lemmas.Option.{same_Some}
use Rattle.std.specs.List.{IsAmong}
use Rattle.x_trees.specs.Tree as tree
use Rattle.x_trees.specs.Gloss as gloss
use Rattle.x_trees.specs.Gloss.{Role}
use Rattle.x_rules.specs.Views.{View, Class, Other, Signed, Unsigned, Boolean, Enumeration}
use Rattle.x_outline.specs.Bodies.{enumerators}
use Rattle.x_numbers.specs.Numbers.{magnitude, is_negative, in_range, value, is_word_number, is_enum_number}
use Rattle.x_numbers.specs.Numbers.{is_zero}
use Rattle.x_rules.specs.Constants.{knowns, limit_of, number_by}
use Rattle.x_numbers.specs.Numbers.{number_spelled}
use Rattle.x_rules.specs.Types.{declaration_class}
use Rattle.x_trees.specs.Notes.{Note, ValueNote, NumberNote, MisplacedNote, DiscriminantNote, InlineNote}
use Rattle.x_trees.specs.Notes.{void_note, note_of, noted}
use Rattle.x_rules.specs.Found.{fault_at, number_fault, value_fault, spelled_fault, has_no_class}
use Rattle.x_rules.specs.Found.{discriminant_fault, note_fault, note_faults}
use Rattle.x_rules.specs.Rules.{HasRole, Breaks, IsNoConstant, IsNoEnumValue, IsNoNumber, IsBadSize}
use Rattle.x_rules.specs.Rules.{IsEmptyArray, IsVoidPlace, IsBadDiscriminant, value_role, number_role}
use Rattle.x_rules.specs.Rules.{size_role, is_misplaced}
use Rattle.x_trees.specs.declared.names.note.ValueRole.{ValueRole}
use Rattle.x_trees.specs.declared.names.note.ValueRole.TheVariants as roles
use Rattle.x_rules.specs.declared.fault.RuleCode.{RuleCode}
use Rattle.x_rules.specs.declared.fault.RuleCode.TheVariants as codes
use Rattle.x_rules.specs.declared.fault.WordFault.{WordFault}
use Rattle.x_rules.proofs.FamilyLemmas.{flat_among, among_flat, fault_is, is_fault}
use Rattle.x_rules.proofs.NoteLemmas.{ComesFrom, comes_from, noted_role, role_noted, value_role_of}

abbrev no_code : Option RuleCode
no_code = None

-- a number from 0 to 2^32-1 is one that a constant may have
word_in_range : (text : List ℕ) → in_range text ≡ false → is_word_number (value text) ≡ false
unfolding in_range value
word_in_range text h = by (is_negative text) (magnitude text) h
  where
    negative : (m : ℕ) → nat_le m (2 ^ 63) ≡ false → is_word_number (neg_ℤ (pos m)) ≡ false
    negative zero h = absurd (cc)
    negative (suc m) h = refl

    by : (n : Bool) (m : ℕ) → cond n (nat_le m (2 ^ 63)) (nat_lt m (2 ^ 64)) ≡ false
        → is_word_number (cond n (neg_ℤ (pos m)) (pos m)) ≡ false
    by true m e = negative m e
    by false m e = grind (arith, nat_tests)

-- what a test was, where an option came of it
no_number : (b : Bool) (z : ℤ) → cond b (Some z) None ≡ None → b ≡ false
no_number true z h = absurd (cc)
no_number false z h = refl

where_true : (b : Bool) (a code : RuleCode) → cond b (Some a) no_code ≡ Some code → (b ≡ true) × (a ≡ code)
where_true true a code h = (refl, same_Some a code h)
where_true false a code h = absurd (cc)

where_false : (b : Bool) (a code : RuleCode) → cond b no_code (Some a) ≡ Some code → (b ≡ false) × (a ≡ code)
where_false true a code h = absurd (cc)
where_false false a code h = (refl, same_Some a code h)

class_none : (class : Option Class) → has_no_class class ≡ true → class ≡ Some Other
class_none None h = absurd (cc)
class_none (Some Other) h = refl
class_none (Some Signed) h = absurd (cc)
class_none (Some Unsigned) h = absurd (cc)
class_none (Some Boolean) h = absurd (cc)
class_none (Some (Enumeration numbers)) h = absurd (cc)

zero_is : (z : ℤ) → is_zero z ≡ true → z ≡ pos 0
zero_is (pos n) h = let e : n ≡ 0 = grind (arith, nat_tests) in ap pos e
zero_is (negsuc n) h = absurd (cc)

-- ---- each note

value_breaks : (d : tree.Definition) (see : List ℕ → View) (word : ℕ) (role : Role) (r : ValueRole)
    (v : tree.Value) (number : Option ℤ) (code : RuleCode)
    → HasRole d word role → role ≡ value_role_of r v
    → number_by see (knowns see (enumerators d)) (limit_of word) v ≡ number
    → value_fault r v number ≡ Some code → Breaks d see word code
value_breaks d see word role r (tree.Named name) None code has is num h = absurd (cc)
value_breaks d see word role r (tree.Number text) None code has is num h =
    subst (Breaks d see word) (same_Some codes.Range code h)
    (inl record {
      role = role;
      has_role = has;
      text = text;
      is_value = ap value_role is ∙ value_of r (tree.Number text);
      outside = no_number (in_range text) (value text) num;
    })
  where
    value_of : (r : ValueRole) (v : tree.Value) → value_role (value_role_of r v) ≡ Some v
    value_of roles.Constant v = refl
    value_of roles.Enumerator v = refl
    value_of roles.Case v = refl
    value_of roles.FixedSize v = refl
    value_of roles.GreatestSize v = refl
value_breaks d see word role roles.Constant v (Some z) code has is num h = absurd (cc)
value_breaks d see word role roles.Case v (Some z) code has is num h = absurd (cc)
value_breaks d see word role roles.Enumerator v (Some z) code has is num h =
    let w = where_false (is_enum_number z) codes.Range code h in
    subst (Breaks d see word) w.1
    (inr (inl record {
      given = v;
      is_value = subst (HasRole d word) is has;
      number = z;
      number_is = num;
      outside = w.0;
    }))
value_breaks d see word role roles.GreatestSize v (Some z) code has is num h =
    let w = where_false (is_word_number z) codes.BadSize code h in
    subst (Breaks d see word) w.1 record {
      role = role;
      has_role = has;
      size = v;
      is_size = ap size_role is;
      number = z;
      number_is = num;
      outside = w.0;
    }
value_breaks d see word role roles.FixedSize v (Some z) code has is num h = by (is_word_number z) refl
  where
    by : (b : Bool) → is_word_number z ≡ b → Breaks d see word code
    by true e =
        let w = where_true (is_zero z) codes.EmptyArray code
        (sym (ap (λ b. cond b (cond (is_zero z) (Some codes.EmptyArray) no_code) (Some codes.BadSize)) e)
        ∙ h) in
        subst (Breaks d see word) w.1 record {
          size = v;
          has_role = subst (HasRole d word) is has;
          is_zero = num ∙ ap Some (zero_is z w.0);
        }
    by false e =
        let c = same_Some codes.BadSize code
        (sym (ap (λ b. cond b (cond (is_zero z) (Some codes.EmptyArray) no_code) (Some codes.BadSize)) e)
        ∙ h) in
        subst (Breaks d see word) c record {
          role = role;
          has_role = has;
          size = v;
          is_size = ap size_role is;
          number = z;
          number_is = num;
          outside = e;
        }

spelled_breaks : (d : tree.Definition) (see : List ℕ → View) (word : ℕ) (role : Role) (text : List ℕ)
    (code : RuleCode)
    → HasRole d word role → number_role role ≡ Some text → spelled_fault (number_spelled text) ≡ Some code
    → Breaks d see word code
spelled_breaks d see word role text code has is h = by (in_range text) refl
  where
    gives : (outside : is_word_number (value text) ≡ false) → codes.Range ≡ code → Breaks d see word code
    gives outside c = subst (Breaks d see word) c
        (inr
        (inr (inl record { role = role; has_role = has; text = text; is_number = is; outside = outside })))

    by : (b : Bool) → in_range text ≡ b → Breaks d see word code
    by true e =
        let w = where_false (is_word_number (value text)) codes.Range code
        (sym (ap (λ b. spelled_fault (cond b (Some (value text)) None)) e) ∙ h) in gives w.0 w.1
    by false e = gives (word_in_range text e)
        (same_Some codes.Range code (sym (ap (λ b. spelled_fault (cond b (Some (value text)) None)) e) ∙ h))

note_breaks : (d : tree.Definition) (see : List ℕ → View) (word : ℕ) (role : Role) (note : Note)
    (code : RuleCode)
    → HasRole d word role → ComesFrom role note
    → note_fault see (knowns see (enumerators d)) word note ≡ Some code → Breaks d see word code
note_breaks d see word role (ValueNote r v) code has is h = value_breaks d see word role r v
    (number_by see (knowns see (enumerators d)) (limit_of word) v) code has is refl h
note_breaks d see word role (NumberNote text) code has is h =
    spelled_breaks d see word role text code has is h
note_breaks d see word role MisplacedNote code has is h =
    subst (Breaks d see word) (same_Some codes.VoidPlace code h)
    record { role = role; has_role = has; misplaced = is }
note_breaks d see word role (DiscriminantNote declaration) code has is h =
    let w = where_true (has_no_class (declaration_class see (knowns see (enumerators d)) declaration))
    codes.BadDiscriminant code h in
    subst (Breaks d see word) w.1 record {
      discriminant = declaration;
      has_role = subst (HasRole d word) is has;
      no_class = class_none (declaration_class see (knowns see (enumerators d)) declaration) w.0;
    }
note_breaks d see word role InlineNote code has is h =
    subst (Breaks d see word) (same_Some codes.InlineArgument code h) (subst (HasRole d word) is has)

-- what is found of noted words breaks the rules
pub found_note : (d : tree.Definition) (see : List ℕ → View) (f : WordFault)
    → IsAmong (note_faults see (knowns see (enumerators d)) (noted d)) f → Breaks d see f.word f.code
found_note d see f h =
    let o = flat_among (λ n. fault_at n.word (note_fault see (knowns see (enumerators d)) n.word n.note))
    (noted d) f h in
    let is = fault_is o.one.word (note_fault see (knowns see (enumerators d)) o.one.word o.one.note)
    f o.of_it in
    let from = noted_role d o.one o.among in
    subst (λ word. Breaks d see word f.code) (sym is.word_is)
    (note_breaks d see o.one.word from.role o.one.note f.code from.has_role
    (comes_from from.role o.one.note from.note_is) is.code_is)

-- ---- and each word that breaks one of these rules is found

value_noted : (role : Role) (v : tree.Value) → value_role role ≡ Some v
    → (r : ValueRole) × (note_of role ≡ Some (ValueNote r v))
value_noted (gloss.ConstantValue w) v h =
    (roles.Constant, ap (λ x. Some (ValueNote roles.Constant x)) (same_Some w v h))
value_noted (gloss.EnumeratorValue w) v h =
    (roles.Enumerator, ap (λ x. Some (ValueNote roles.Enumerator x)) (same_Some w v h))
value_noted (gloss.CaseValue w) v h = (roles.Case, ap (λ x. Some (ValueNote roles.Case x)) (same_Some w v h))
value_noted (gloss.FixedSize w) v h =
    (roles.FixedSize, ap (λ x. Some (ValueNote roles.FixedSize x)) (same_Some w v h))
value_noted (gloss.GreatestSize w) v h =
    (roles.GreatestSize, ap (λ x. Some (ValueNote roles.GreatestSize x)) (same_Some w v h))
value_noted role v h = absurd (cc)

number_noted : (role : Role) (text : List ℕ) → number_role role ≡ Some text
    → note_of role ≡ Some (NumberNote text)
number_noted (gloss.ProgramNumber t) text h = ap (λ x. Some (NumberNote x)) (same_Some t text h)
number_noted (gloss.VersionNumber t) text h = ap (λ x. Some (NumberNote x)) (same_Some t text h)
number_noted (gloss.ProcedureNumber t) text h = ap (λ x. Some (NumberNote x)) (same_Some t text h)
number_noted role text h = absurd (cc)

misplaced_noted : (role : Role) → is_misplaced role ≡ true → note_of role ≡ Some MisplacedNote
misplaced_noted (gloss.VoidDeclaration gloss.InTypedef) h = refl
misplaced_noted (gloss.VoidDeclaration (gloss.Inside gloss.AsField around)) h = refl
misplaced_noted (gloss.VoidDeclaration (gloss.Inside gloss.AsDiscriminant around)) h = refl
misplaced_noted (gloss.VoidArgument others) h = ap void_note h
misplaced_noted role h = absurd (cc)

-- a size has one of two roles
record IsSize (role : Role) (v : tree.Value) : Type 0 where
  pub r : ValueRole
  pub note_is : note_of role ≡ Some (ValueNote r v)
  pub fault : (z : ℤ) → is_word_number z ≡ false → number_fault r z ≡ Some codes.BadSize

size_noted : (role : Role) (v : tree.Value) → size_role role ≡ Some v → IsSize role v
size_noted (gloss.FixedSize w) v h = record {
  r = roles.FixedSize;
  note_is = ap (λ x. Some (ValueNote roles.FixedSize x)) (same_Some w v h);
  fault = λ z e. ap (λ b. cond b (cond (is_zero z) (Some codes.EmptyArray) no_code) (Some codes.BadSize)) e;
}
size_noted (gloss.GreatestSize w) v h = record {
  r = roles.GreatestSize;
  note_is = ap (λ x. Some (ValueNote roles.GreatestSize x)) (same_Some w v h);
  fault = λ z e. ap (λ b. cond b no_code (Some codes.BadSize)) e;
}
size_noted role v h = absurd (cc)

-- the fault of a note of the word is found
note_found : (d : tree.Definition) (see : List ℕ → View) (word : ℕ) (role : Role) (note : Note)
    (code : RuleCode) → HasRole d word role → note_of role ≡ Some note
    → note_fault see (knowns see (enumerators d)) word note ≡ Some code
    → IsAmong (note_faults see (knowns see (enumerators d)) (noted d)) (record { word = word; code = code })
note_found d see word role note code has is fault =
    among_flat (λ n. fault_at n.word (note_fault see (knowns see (enumerators d)) n.word n.note)) (noted d)
    (record { word = word; note = note }) (record { word = word; code = code })
    (role_noted d word role note has is)
    (is_fault word word (note_fault see (knowns see (enumerators d)) word note) code refl fault)

abbrev AreFound : tree.Definition → (List ℕ → View) → ℕ → RuleCode → Type 0
AreFound d see word code = IsAmong (note_faults see (knowns see (enumerators d)) (noted d))
    (record { word = word; code = code })

pub no_constant_found : (d : tree.Definition) (see : List ℕ → View) (word : ℕ) → IsNoConstant d word
    → AreFound d see word codes.Range
no_constant_found d see word h =
    let n = value_noted h.role (tree.Number h.text) h.is_value in
    note_found d see word h.role (ValueNote n.0 (tree.Number h.text)) codes.Range h.has_role n.1
    (ap (λ b. value_fault n.0 (tree.Number h.text) (cond b (Some (value h.text)) None)) h.outside)

pub no_enum_value_found : (d : tree.Definition) (see : List ℕ → View) (word : ℕ) → IsNoEnumValue d see word
    → AreFound d see word codes.Range
no_enum_value_found d see word h =
    note_found d see word (gloss.EnumeratorValue h.given) (ValueNote roles.Enumerator h.given) codes.Range
    h.is_value refl
    (ap (value_fault roles.Enumerator h.given) h.number_is
    ∙ ap (λ b. cond b no_code (Some codes.Range)) h.outside)

pub no_number_found : (d : tree.Definition) (see : List ℕ → View) (word : ℕ) → IsNoNumber d word
    → AreFound d see word codes.Range
no_number_found d see word h =
    note_found d see word h.role (NumberNote h.text) codes.Range h.has_role
    (number_noted h.role h.text h.is_number) (by (in_range h.text))
  where
    by : (b : Bool) → spelled_fault (cond b (Some (value h.text)) None) ≡ Some codes.Range
    by true = ap (λ b. cond b no_code (Some codes.Range)) h.outside
    by false = refl

pub bad_size_found : (d : tree.Definition) (see : List ℕ → View) (word : ℕ) → IsBadSize d see word
    → AreFound d see word codes.BadSize
bad_size_found d see word h =
    let s = size_noted h.role h.size h.is_size in
    note_found d see word h.role (ValueNote s.r h.size) codes.BadSize h.has_role s.note_is
    (ap (value_fault s.r h.size) h.number_is ∙ s.fault h.number h.outside)

pub empty_array_found : (d : tree.Definition) (see : List ℕ → View) (word : ℕ) → IsEmptyArray d see word
    → AreFound d see word codes.EmptyArray
empty_array_found d see word h =
    note_found d see word (gloss.FixedSize h.size) (ValueNote roles.FixedSize h.size) codes.EmptyArray
    h.has_role refl (ap (value_fault roles.FixedSize h.size) h.is_zero)

pub void_place_found : (d : tree.Definition) (see : List ℕ → View) (word : ℕ) → IsVoidPlace d word
    → AreFound d see word codes.VoidPlace
void_place_found d see word h = note_found d see word h.role MisplacedNote codes.VoidPlace h.has_role
    (misplaced_noted h.role h.misplaced) refl

pub bad_discriminant_found : (d : tree.Definition) (see : List ℕ → View) (word : ℕ)
    → IsBadDiscriminant d see word → AreFound d see word codes.BadDiscriminant
bad_discriminant_found d see word h =
    note_found d see word (gloss.Discriminant h.discriminant) (DiscriminantNote h.discriminant)
    codes.BadDiscriminant h.has_role refl (ap discriminant_fault h.no_class)

pub inline_argument_found : (d : tree.Definition) (see : List ℕ → View) (word : ℕ)
    → HasRole d word gloss.InlineArgument → AreFound d see word codes.InlineArgument
inline_argument_found d see word h =
    note_found d see word gloss.InlineArgument InlineNote codes.InlineArgument h refl refl
