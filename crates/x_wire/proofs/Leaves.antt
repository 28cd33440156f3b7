-- Words, bodies and their faults.
use Rattle.std.proofs.Common.{◌≡◌, ℕ, zero, suc, ◌+◌, ◌-◌, ◌*◌, ◌/◌, ◌%◌, ◌^◌, ◌<◌, ◌≤◌, List, [], ◌∷◌, ◌++◌}
use Rattle.std.proofs.Common.{length, refl, sym, ◌∙◌, ap, subst, append_assoc, arith, Bool, true, false, take}
use Rattle.std.proofs.Common.{drop}
use Rattle.std.specs.Prelude.{if◌then◌else◌, nat_lt, Option, Some, None}
use Rattle.std.proofs.lemmas.Bool.Decides.{nat_tests}
use Rattle.std.proofs.lemmas.List.{length-append, take-append-drop, length-take, length-drop}
use Rattle.std.proofs.Math.Seq.{drop-append_seam}
use Rattle.x_value.specs.declared.fault.ReadCode.{ReadCode}
use Rattle.x_value.specs.declared.fault.ReadCode.TheVariants as codes
use Rattle.x_value.specs.Readings.{IsByteList}
use Rattle.x_units.specs.Units.{are_zeros, word, copies, padding}
use Rattle.x_value.proofs.Bytes.{word_length, word_from, copies_length, padding_least, zeros_true}
use Rattle.x_value.proofs.Bytes.{zeros_copies, IsByteList-append, IsByteList-zeros, IsByteList-left, pad_left}
use Rattle.x_value.proofs.Fronts.{cut_same}
use Rattle.x_wire.specs.Limits.{most_auth_bytes}
use Rattle.x_wire.specs.Headers.{Header, HeaderField, Number, State, Length, Body, field_bytes, fields_bytes}
use Rattle.x_wire.specs.HeaderFaults.{UnitKind, AnyUnit, StateUnit, LengthUnit, PaddedUnit, body_units}
use Rattle.x_wire.specs.HeaderFaults.{field_units, fields_units, unit_fault}
use Rattle.x_wire.specs.HeaderForms.{FieldKind, AnyNumber, AnyState, AnyLength, BodyOf, IsOfKind, HeaderForm}
use Rattle.x_wire.specs.HeaderForms.{Whole, Next, Path, number_form, state_form, length_form, body_form}
use Rattle.x_wire.specs.HeaderForms.{bytes_in, Reads, BegunForm, BadForm, CutForm, FormFault, ends, stops}
use Rattle.x_wire.proofs.Forms.{some_field, some_field_is, begun_field, reads_one}

abbrev no_code : Option ReadCode
no_code = None

abbrev some_code : ReadCode → Option ReadCode
some_code c = Some c

none_some : (c : ReadCode) → no_code ≡ some_code c → ⊥
none_some c e = cc

-- the first field of what is to be read
record First (k : FieldKind) (n : HeaderField → HeaderForm) (fs : List HeaderField) (h : Header) : Type 0
  where
    pub field : HeaderField
    pub more : List HeaderField
    pub same : fs ≡ field ∷ more
    pub of : IsOfKind k field
    pub path : Path (n field) more (Whole h)

first : (k : FieldKind) (n : HeaderField → HeaderForm) (fs : List HeaderField) (h : Header)
    → Path (Next k n) fs (Whole h) → First k n fs h
first k n [] h p = absurd cc
first k n (f ∷ fs) h p = record { field = f; more = fs; same = refl; of = p.0; path = p.1 }

-- ---- words

-- the fields of the kind are words, and each has this unit
record IsWordKind (k : FieldKind) (u : UnitKind) : Type 0 where
  pub wide : (g : HeaderField) → IsOfKind k g → length (field_bytes g) ≡ 4
  pub unit : (g : HeaderField) → IsOfKind k g → field_units g ≡ u ∷ []
  pub fine : (g : HeaderField) → IsOfKind k g → unit_fault u (field_bytes g) ≡ no_code

word_cut : (k : FieldKind) (u : UnitKind) (n : HeaderField → HeaderForm) (bytes : List ℕ) → IsWordKind k u
    → length bytes < 4 → CutForm (Next k n) bytes
word_cut k u n bytes w short = record {
  front = [];
  tail = bytes;
  parts = refl;
  units = 0;
  whole = refl;
  part = short;
  begun = begun_field k n (some_field k) [] (field_bytes (some_field k)) (some_field_is k) refl
      (let l = w.wide (some_field k) (some_field_is k) in omega arith);
}

word_bad : (k : FieldKind) (u : UnitKind) (n : HeaderField → HeaderForm) (unit rest : List ℕ)
    (code : ReadCode) → IsWordKind k u → length unit ≡ 4 → unit_fault u unit ≡ some_code code →
    BadForm (Next k n) (unit ++ rest) (length (unit ++ rest)) code
word_bad k u n unit rest code w wide fault = record {
  front = [];
  unit = unit;
  rest = rest;
  parts = refl;
  place = refl;
  wide = wide;
  begun = begun_field k n (some_field k) [] (field_bytes (some_field k)) (some_field_is k) refl
      (let l = w.wide (some_field k) (some_field_is k) in omega arith);
  ended = λ x fs h p e.
      let f = first k n fs h p in
      let bytes : unit ++ x ≡ field_bytes f.field ++ fields_bytes f.more =
      e ∙ ap (λ t. fields_bytes t) f.same in
      let is = cut_same unit x (field_bytes f.field) (fields_bytes f.more) bytes
      (wide ∙ sym (w.wide f.field f.of)) in
      none_some code (sym (w.fine f.field f.of) ∙ ap (λ t. unit_fault u t) (sym is.0) ∙ fault);
  cause = λ x fs h p e.
      let f = first k n fs h p in (
        [],
        u,
        fields_units f.more,
        ap (λ t. fields_units t) f.same ∙ ap (λ t. t ++ fields_units f.more) (w.unit f.field f.of),
        refl,
        fault,
      );
}

if_true : (b : Bool) (x y : Option ReadCode) → b ≡ true → (if b then x else y) ≡ x
if_true true x y e = refl
if_true false x y e = absurd cc

if_false : (b : Bool) (x y : Option ReadCode) → b ≡ false → (if b then x else y) ≡ y
if_false true x y e = absurd cc
if_false false x y e = refl

lt_true : (a b : ℕ) → a < b → nat_lt a b ≡ true
lt_true a b h = grind (arith, nat_tests)

lt_false : (a b : ℕ) → b ≤ a → nat_lt a b ≡ false
lt_false a b h = grind (arith, nat_tests)

-- numbers

number_wide : (g : HeaderField) → IsOfKind AnyNumber g → length (field_bytes g) ≡ 4
number_wide (Number n) o = word_length n
number_wide (State c n) o = absurd o
number_wide (Length n) o = absurd o
number_wide (Body bs) o = absurd o

number_unit : (g : HeaderField) → IsOfKind AnyNumber g → field_units g ≡ AnyUnit ∷ []
number_unit (Number n) o = refl
number_unit (State c n) o = absurd o
number_unit (Length n) o = absurd o
number_unit (Body bs) o = absurd o

number_kind : IsWordKind AnyNumber AnyUnit
number_kind = record { wide = number_wide; unit = number_unit; fine = λ g o. refl }

pub number_reads : (on : ℕ → HeaderForm) (n : ℕ) (bytes rest : List ℕ) → bytes ≡ word n ++ rest → n < 2 ^ 32
    → Reads (number_form on) bytes (on n) rest
number_reads on n bytes rest e lt = reads_one AnyNumber _ (Number n) bytes rest lt e

pub number_cut : (on : ℕ → HeaderForm) (bytes : List ℕ) → length bytes < 4
    → FormFault (number_form on) bytes 0 codes.Short
number_cut on bytes short = ends refl refl (word_cut AnyNumber AnyUnit _ bytes number_kind short)

-- states

state_wide : (last : ℕ) (g : HeaderField) → IsOfKind (AnyState last) g → length (field_bytes g) ≡ 4
state_wide last (Number n) o = absurd o
state_wide last (State c n) o = word_length n
state_wide last (Length n) o = absurd o
state_wide last (Body bs) o = absurd o

state_unit : (last : ℕ) (g : HeaderField) → IsOfKind (AnyState last) g
    → field_units g ≡ StateUnit (suc last) ∷ []
state_unit last (Number n) o = absurd o
state_unit last (State c n) o = ap (λ t. StateUnit t ∷ []) o.0
state_unit last (Length n) o = absurd o
state_unit last (Body bs) o = absurd o

state_test : (count n : ℕ) → n < 2 ^ 32
    → unit_fault (StateUnit count) (word n) ≡ (if nat_lt n count then no_code else some_code codes.BadEnum)
state_test count n lt = ap (λ t. if nat_lt t count then no_code else some_code codes.BadEnum) (word_from n lt)

state_fine : (last : ℕ) (g : HeaderField) → IsOfKind (AnyState last) g
    → unit_fault (StateUnit (suc last)) (field_bytes g) ≡ no_code
state_fine last (Number n) o = absurd o
state_fine last (State c n) o =
    let lt : n < suc last = omega arith in
    state_test (suc last) n o.2
    ∙ if_true (nat_lt n (suc last)) no_code (some_code codes.BadEnum) (lt_true n (suc last) lt)
state_fine last (Length n) o = absurd o
state_fine last (Body bs) o = absurd o

state_kind : (last : ℕ) → IsWordKind (AnyState last) (StateUnit (suc last))
state_kind last = record { wide = state_wide last; unit = state_unit last; fine = state_fine last }

pub state_reads : (last : ℕ) (on : ℕ → HeaderForm) (n : ℕ) (bytes rest : List ℕ) → bytes ≡ word n ++ rest
    → n < 2 ^ 32 → n ≤ last → Reads (state_form last on) bytes (on n) rest
state_reads last on n bytes rest e lt le =
    reads_one (AnyState last) _ (State (suc last) n) bytes rest (refl, omega arith, lt) e

pub state_cut : (last : ℕ) (on : ℕ → HeaderForm) (bytes : List ℕ) → length bytes < 4
    → FormFault (state_form last on) bytes 0 codes.Short
state_cut last on bytes short =
    ends refl refl (word_cut (AnyState last) (StateUnit (suc last)) _ bytes (state_kind last) short)

pub state_bad : (last : ℕ) (on : ℕ → HeaderForm) (n : ℕ) (bytes rest : List ℕ) → bytes ≡ word n ++ rest
    → n < 2 ^ 32 → last < n → FormFault (state_form last on) bytes (length bytes) codes.BadEnum
state_bad last on n bytes rest e lt over =
    let fault : unit_fault (StateUnit (suc last)) (word n) ≡ some_code codes.BadEnum =
    state_test (suc last) n lt ∙ if_false (nat_lt n (suc last)) no_code (some_code codes.BadEnum)
    (lt_false n (suc last) (omega arith)) in
    stops (subst (λ t. BadForm (state_form last on) t (length t) codes.BadEnum) (sym e)
    (word_bad (AnyState last) (StateUnit (suc last)) _ (word n) rest codes.BadEnum (state_kind last)
    (word_length n) fault))

-- lengths

length_wide : (g : HeaderField) → IsOfKind AnyLength g → length (field_bytes g) ≡ 4
length_wide (Number n) o = absurd o
length_wide (State c n) o = absurd o
length_wide (Length n) o = word_length n
length_wide (Body bs) o = absurd o

length_unit : (g : HeaderField) → IsOfKind AnyLength g → field_units g ≡ LengthUnit ∷ []
length_unit (Number n) o = absurd o
length_unit (State c n) o = absurd o
length_unit (Length n) o = refl
length_unit (Body bs) o = absurd o

length_test : (n : ℕ) → n < 2 ^ 32
    → unit_fault LengthUnit (word n) ≡ (if nat_lt most_auth_bytes n then some_code codes.TooMany else no_code)
length_test n lt = ap (λ t. if nat_lt most_auth_bytes t then some_code codes.TooMany else no_code)
    (word_from n lt)

length_fine : (g : HeaderField) → IsOfKind AnyLength g → unit_fault LengthUnit (field_bytes g) ≡ no_code
length_fine (Number n) o = absurd o
length_fine (State c n) o = absurd o
length_fine (Length n) o =
    length_test n (omega arith)
    ∙ if_false (nat_lt most_auth_bytes n) (some_code codes.TooMany) no_code (lt_false most_auth_bytes n o)
length_fine (Body bs) o = absurd o

length_kind : IsWordKind AnyLength LengthUnit
length_kind = record { wide = length_wide; unit = length_unit; fine = length_fine }

pub length_reads : (on : ℕ → HeaderForm) (n : ℕ) (bytes rest : List ℕ) → bytes ≡ word n ++ rest
    → n ≤ most_auth_bytes → Reads (length_form on) bytes (on n) rest
length_reads on n bytes rest e le = reads_one AnyLength _ (Length n) bytes rest le e

pub length_cut : (on : ℕ → HeaderForm) (bytes : List ℕ) → length bytes < 4
    → FormFault (length_form on) bytes 0 codes.Short
length_cut on bytes short = ends refl refl (word_cut AnyLength LengthUnit _ bytes length_kind short)

pub length_bad : (on : ℕ → HeaderForm) (n : ℕ) (bytes rest : List ℕ) → bytes ≡ word n ++ rest → n < 2 ^ 32
    → most_auth_bytes < n → FormFault (length_form on) bytes (length bytes) codes.TooMany
length_bad on n bytes rest e lt over =
    let fault : unit_fault LengthUnit (word n) ≡ some_code codes.TooMany = length_test n lt
    ∙ if_true (nat_lt most_auth_bytes n) (some_code codes.TooMany) no_code (lt_true most_auth_bytes n over) in
    stops (subst (λ t. BadForm (length_form on) t (length t) codes.TooMany) (sym e)
    (word_bad AnyLength LengthUnit _ (word n) rest codes.TooMany length_kind (word_length n) fault))

-- ---- bodies

-- the first field is a body of so many bytes
record FirstBody (n : ℕ) (fs : List HeaderField) : Type 0 where
  pub bs : List ℕ
  pub more : List HeaderField
  pub same : fs ≡ Body bs ∷ more
  pub long : length bs ≡ n
  pub bytes : fields_bytes fs ≡ bs ++ (copies (padding n) 0 ++ fields_bytes more)
  pub units : fields_units fs ≡ body_units n ++ fields_units more

first_body_of : (n : ℕ) (f : HeaderField) (fs more : List HeaderField) → IsOfKind (BodyOf n) f → fs ≡ f ∷ more
    → FirstBody n fs
first_body_of n (Number m) fs more o e = absurd o
first_body_of n (State c m) fs more o e = absurd o
first_body_of n (Length m) fs more o e = absurd o
first_body_of n (Body bs) fs more o e = record {
  bs = bs;
  more = more;
  same = e;
  long = o.0;
  bytes =
      ap (λ t. fields_bytes t) e ∙ append_assoc bs (copies (padding (length bs)) 0) (fields_bytes more)
      ∙ ap (λ t. bs ++ (copies (padding t) 0 ++ fields_bytes more)) o.0;
  units = ap (λ t. fields_units t) e ∙ ap (λ t. body_units t ++ fields_units more) o.0;
}

first_body : (n : ℕ) (f : HeaderField → HeaderForm) (fs : List HeaderField) (h : Header)
    → Path (Next (BodyOf n) f) fs (Whole h) → FirstBody n fs
first_body n f fs h p =
    let one = first (BodyOf n) f fs h p in first_body_of n one.field fs one.more one.of one.same

pub body_reads : (n : ℕ) (on : List ℕ → HeaderForm) (bs zeros rest bytes : List ℕ) → IsByteList bytes
    → bytes ≡ bs ++ (zeros ++ rest) → length bs ≡ n → length zeros ≡ padding n → are_zeros zeros ≡ true →
    Reads (body_form n on) bytes (on bs) rest
body_reads n on bs zeros rest bytes fit parts long some clear =
    let same : zeros ≡ copies (padding (length bs)) 0 = zeros_copies (padding n) zeros some clear
    ∙ ap (λ t. copies (padding t) 0) (sym long) in
    reads_one (BodyOf n) _ (Body bs) bytes rest
    (long, IsByteList-left bs (zeros ++ rest) (subst IsByteList parts fit))
    (parts ∙ ap (λ t. bs ++ (t ++ rest)) same ∙ sym (append_assoc bs (copies (padding (length bs)) 0) rest))

-- the front of a body of n bytes, cut where a unit ends
body_begun : (n q : ℕ) (f : HeaderField → HeaderForm) (a : List ℕ) → IsByteList a → length a ≡ 4 * q
    → 4 * q ≤ n → 4 * q < n + padding n → BegunForm (Next (BodyOf n) f) a
body_begun n q f a fit len small less =
    let zeros : length (copies {A = ℕ} (n - 4 * q) 0) ≡ n - 4 * q = copies_length (n - 4 * q) 0 in
    let pads : length (copies {A = ℕ} (padding n) 0) ≡ padding n = copies_length (padding n) 0 in
    let long : length (a ++ copies (n - 4 * q) 0) ≡ n = length-append a (copies {A = ℕ} (n - 4 * q) 0)
    ∙ omega arith in
    begun_field (BodyOf n) f (Body (a ++ copies (n - 4 * q) 0)) a
    (copies (n - 4 * q) 0 ++ copies (padding n) 0)
    (long, IsByteList-append a (copies (n - 4 * q) 0) fit (IsByteList-zeros (n - 4 * q)))
    (sym (append_assoc a (copies (n - 4 * q) 0) (copies (padding n) 0))
    ∙ ap (λ t. (a ++ copies (n - 4 * q) 0) ++ copies (padding t) 0) (sym long))
    (let l = length-append (copies {A = ℕ} (n - 4 * q) 0) (copies {A = ℕ} (padding n) 0) in omega arith)

pub body_cut : (n : ℕ) (on : List ℕ → HeaderForm) (bytes : List ℕ) → IsByteList bytes
    → length bytes < n + padding n → FormFault (body_form n on) bytes 0 codes.Short
body_cut n on bytes fit short =
    let q : ℕ = length bytes / 4 in
    let cut : take (4 * q) bytes ++ drop (4 * q) bytes ≡ bytes = take-append-drop (4 * q) bytes in
    let front : length (take (4 * q) bytes) ≡ 4 * q = length-take (4 * q) bytes ∙ omega arith in
    let back : length (drop (4 * q) bytes) < 4 = (let l = length-drop (4 * q) bytes in omega arith) in
    let less : 4 * q < n + padding n = omega arith in
    ends refl refl (record {
      front = take (4 * q) bytes;
      tail = drop (4 * q) bytes;
      parts = sym cut;
      units = q;
      whole = front;
      part = back;
      begun = body_begun n q _ (take (4 * q) bytes)
          (IsByteList-left (take (4 * q) bytes) (drop (4 * q) bytes) (subst IsByteList (sym cut) fit)) front
          (padding_least n q less) less;
    })

-- the units of a body whose last one it does not fill
units_padded : (q k : ℕ) → 0 < k → k < 4 → body_units (4 * q + k) ≡ copies q AnyUnit ++ (PaddedUnit k ∷ [])
units_padded zero zero p lt = absurd (omega arith)
units_padded zero (suc zero) p lt = refl
units_padded zero (suc (suc zero)) p lt = refl
units_padded zero (suc (suc (suc zero))) p lt = refl
units_padded zero (suc (suc (suc (suc k)))) p lt = absurd (omega arith)
units_padded (suc q) k p lt =
    let e : 4 * suc q + k ≡ suc (suc (suc (suc (4 * q + k)))) = omega arith in
    ap body_units e ∙ ap (λ t. AnyUnit ∷ t) (units_padded q k p lt)

true_false : true ≡ false → ⊥
true_false e = cc

drop_seam : (k : ℕ) (b p : List ℕ) → length b ≡ k → drop k (b ++ p) ≡ p
drop_seam k b p e = ap (λ t. drop t (b ++ p)) (sym e) ∙ drop-append_seam b p

-- the last unit of a body of n = 4 q + k bytes holds k of them, and then bad
bad_unit_of : (n q k : ℕ) (f : HeaderField → HeaderForm) (a b bad rest : List ℕ) → 4 * q + k ≡ n
    → IsByteList a → length a ≡ 4 * q → length b ≡ k → 0 < k → k < 4 → length bad ≡ padding n
    → k + padding n ≡ 4 → are_zeros bad ≡ false →
    BadForm (Next (BodyOf n) f) (a ++ ((b ++ bad) ++ rest)) (length ((b ++ bad) ++ rest)) codes.BadPad
bad_unit_of n q k f a b bad rest is fit lena lenb pos small lenp four not_zero = record {
  front = a;
  unit = b ++ bad;
  rest = rest;
  parts = refl;
  place = refl;
  wide = length-append b bad ∙ omega arith;
  begun = body_begun n q f a fit lena (omega arith) (omega arith);
  ended = λ x fs h p e.
      let g = first_body n f fs h p in
      let parts : (a ++ b) ++ (bad ++ x) ≡ g.bs ++ (copies (padding n) 0 ++ fields_bytes g.more) =
      append_assoc a b (bad ++ x) ∙ ap (λ t. a ++ t) (sym (append_assoc b bad x)) ∙ e ∙ g.bytes in
      let d = cut_same (a ++ b) (bad ++ x) g.bs (copies (padding n) 0 ++ fields_bytes g.more) parts
      (length-append a b ∙ (let l = g.long in omega arith)) in
      let z = cut_same bad x (copies (padding n) 0) (fields_bytes g.more) d.1
      (lenp ∙ sym (copies_length (padding n) 0)) in
      true_false (sym (zeros_true (padding n)) ∙ ap are_zeros (sym z.0) ∙ not_zero);
  cause = λ x fs h p e.
      let g = first_body n f fs h p in
      let shape : body_units n ≡ copies q AnyUnit ++ (PaddedUnit k ∷ []) = ap body_units (sym is)
      ∙ units_padded q k pos small in (
        copies q AnyUnit,
        PaddedUnit k,
        fields_units g.more,
        g.units ∙ ap (λ t. t ++ fields_units g.more) shape
            ∙ append_assoc (copies q AnyUnit) (PaddedUnit k ∷ []) (fields_units g.more),
        (let lc : length (copies q AnyUnit) ≡ q = copies_length q AnyUnit in lena ∙ omega arith),
        ap (λ t. if are_zeros t then no_code else some_code codes.BadPad) (drop_seam k b bad lenb)
            ∙ if_false (are_zeros bad) no_code (some_code codes.BadPad) not_zero,
      );
}

some_bytes : (p : List ℕ) → are_zeros p ≡ false → 0 < length p
some_bytes [] e = absurd cc
some_bytes (x ∷ p) e = omega arith

padded_four : (n : ℕ) → 0 < n % 4 → n % 4 + padding n ≡ 4
unfolding padding
padded_four n h = omega arith

body_bad_of : (n q k : ℕ) (on : List ℕ → HeaderForm) (a b bad rest bytes : List ℕ)
    → bytes ≡ (a ++ b) ++ (bad ++ rest) → 4 * q + k ≡ n → IsByteList a → length a ≡ 4 * q → length b ≡ k
    → 0 < k → k < 4 → length bad ≡ padding n → k + padding n ≡ 4 → are_zeros bad ≡ false →
    FormFault (body_form n on) bytes (length rest + 4) codes.BadPad
body_bad_of n q k on a b bad rest bytes e is fit lena lenb pos small lenp four not_zero =
    let parts : a ++ ((b ++ bad) ++ rest) ≡ bytes = ap (λ t. a ++ t) (append_assoc b bad rest)
    ∙ sym (append_assoc a b (bad ++ rest)) ∙ sym e in
    let left : length ((b ++ bad) ++ rest) ≡ length rest + 4 = length-append (b ++ bad) rest
    ∙ (let l = length-append b bad in omega arith) in
    stops (subst (λ t. BadForm (body_form n on) t (length rest + 4) codes.BadPad) parts
    (subst (λ t. BadForm (body_form n on) (a ++ ((b ++ bad) ++ rest)) t codes.BadPad) left
    (bad_unit_of n q k (λ f. on (bytes_in f)) a b bad rest is fit lena lenb pos small lenp four not_zero)))

pub body_bad : (n : ℕ) (on : List ℕ → HeaderForm) (bs bad rest bytes : List ℕ) → IsByteList bytes
    → bytes ≡ bs ++ (bad ++ rest) → length bs ≡ n → length bad ≡ padding n → are_zeros bad ≡ false →
    FormFault (body_form n on) bytes (length rest + 4) codes.BadPad
body_bad n on bs bad rest bytes fit parts long lenp not_zero =
    let some = some_bytes bad not_zero in
    let pos : 0 < n % 4 = pad_left n (omega arith) in
    let cut : take (4 * (n / 4)) bs ++ drop (4 * (n / 4)) bs ≡ bs = take-append-drop (4 * (n / 4)) bs in
    let fits : IsByteList bs = IsByteList-left bs (bad ++ rest) (subst IsByteList parts fit) in
    body_bad_of n (n / 4) (n % 4) on (take (4 * (n / 4)) bs) (drop (4 * (n / 4)) bs) bad rest bytes
    (parts ∙ ap (λ t. t ++ (bad ++ rest)) (sym cut))
    (omega arith)
    (IsByteList-left (take (4 * (n / 4)) bs) (drop (4 * (n / 4)) bs) (subst IsByteList (sym cut) fits))
    (length-take (4 * (n / 4)) bs ∙ omega arith)
    (length-drop (4 * (n / 4)) bs ∙ omega arith)
    pos
    (omega arith)
    lenp
    (padded_four n pos)
    not_zero
