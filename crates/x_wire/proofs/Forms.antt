-- What forms lead to, and what is refused behind a front of one.
use Rattle.std.proofs.Common.{◌≡◌, ℕ, zero, suc, ◌+◌, ◌*◌, ◌<◌, List, [], ◌∷◌, ◌++◌, length, refl, sym, ◌∙◌}
use Rattle.std.proofs.Common.{ap, subst, append_assoc, arith, lit<}
use Rattle.std.proofs.lemmas.List.{append-nil, length-append}
use Rattle.x_value.specs.declared.fault.ReadCode.{ReadCode}
use Rattle.x_units.specs.Units.{copies, padding}
use Rattle.x_value.proofs.Bytes.{word_length, word_cancel, body_cancel, body_length, copies_length}
use Rattle.x_value.proofs.Bytes.{IsByteList-zeros}
use Rattle.x_wire.specs.Headers.{Header, HeaderField, Number, State, Length, Body, field_bytes, fields_bytes}
use Rattle.x_wire.specs.HeaderFaults.{UnitKind, body_units, field_units, fields_units}
use Rattle.x_wire.specs.HeaderForms.{FieldKind, AnyNumber, AnyState, AnyLength, BodyOf, IsOfKind, HeaderForm}
use Rattle.x_wire.specs.HeaderForms.{Whole, Next, Path, Reads, BegunForm, BadForm, CutForm, FormFault, ends}
use Rattle.x_wire.specs.HeaderForms.{stops, trails}

-- ---- fields

pub fields_bytes-append : (fs gs : List HeaderField)
    → fields_bytes (fs ++ gs) ≡ fields_bytes fs ++ fields_bytes gs
fields_bytes-append [] gs = refl
fields_bytes-append (f ∷ fs) gs =
    ap (λ t. field_bytes f ++ t) (fields_bytes-append fs gs)
    ∙ sym (append_assoc (field_bytes f) (fields_bytes fs) (fields_bytes gs))

pub fields_units-append : (fs gs : List HeaderField)
    → fields_units (fs ++ gs) ≡ fields_units fs ++ fields_units gs
fields_units-append [] gs = refl
fields_units-append (f ∷ fs) gs =
    ap (λ t. field_units f ++ t) (fields_units-append fs gs)
    ∙ sym (append_assoc (field_units f) (fields_units fs) (fields_units gs))

pad_again : (n : ℕ) → padding (suc (suc (suc (suc n)))) ≡ padding n
unfolding padding
pad_again n = omega arith

-- a body and its padding fill whole units
body_fills : (n : ℕ) → n + padding n ≡ 4 * length (body_units n)
unfolding padding
body_fills zero = refl
body_fills (suc zero) = refl
body_fills (suc (suc zero)) = refl
body_fills (suc (suc (suc zero))) = refl
body_fills (suc (suc (suc (suc n)))) = let ih = body_fills n in let p = pad_again n in omega arith

pub field_fills : (f : HeaderField) → length (field_bytes f) ≡ 4 * length (field_units f)
field_fills (Number n) = word_length n
field_fills (State count n) = word_length n
field_fills (Length n) = word_length n
field_fills (Body bs) = body_length bs ∙ body_fills (length bs)

pub fields_fill : (fs : List HeaderField) → length (fields_bytes fs) ≡ 4 * length (fields_units fs)
fields_fill [] = refl
fields_fill (f ∷ fs) =
    length-append (field_bytes f) (fields_bytes fs) ∙ (let a = field_fills f in let b = fields_fill fs in
    let l = length-append (field_units f) (fields_units fs) in omega arith)

-- fields of one kind: none is a proper front of another
pub field_cancel : (k : FieldKind) (f g : HeaderField) (x y : List ℕ) → IsOfKind k f → IsOfKind k g
    → field_bytes f ++ x ≡ field_bytes g ++ y → (f ≡ g) × (x ≡ y)
field_cancel AnyNumber (Number m) (Number n) x y a b e =
    let c = word_cancel m n x y a b e in (ap Number c.0, c.1)
field_cancel (AnyState last) (State c m) (State d n) x y a b e =
    let q = word_cancel m n x y a.2 b.2 e in
    (ap (λ t. State t m) (a.0 ∙ sym b.0) ∙ ap (λ t. State d t) q.0, q.1)
field_cancel AnyLength (Length m) (Length n) x y a b e =
    let c = word_cancel m n x y (omega arith) (omega arith) e in (ap Length c.0, c.1)
field_cancel (BodyOf n) (Body bs) (Body cs) x y a b e =
    let c = body_cancel bs cs x y (a.0 ∙ sym b.0) e in (ap Body c.0, c.1)
field_cancel AnyNumber (Number m) (State d n) x y a b e = absurd b
field_cancel AnyNumber (Number m) (Length n) x y a b e = absurd b
field_cancel AnyNumber (Number m) (Body cs) x y a b e = absurd b
field_cancel (AnyState last) (State c m) (Number n) x y a b e = absurd b
field_cancel (AnyState last) (State c m) (Length n) x y a b e = absurd b
field_cancel (AnyState last) (State c m) (Body cs) x y a b e = absurd b
field_cancel AnyLength (Length m) (Number n) x y a b e = absurd b
field_cancel AnyLength (Length m) (State d n) x y a b e = absurd b
field_cancel AnyLength (Length m) (Body cs) x y a b e = absurd b
field_cancel (BodyOf n) (Body bs) (Number m) x y a b e = absurd b
field_cancel (BodyOf n) (Body bs) (State d m) x y a b e = absurd b
field_cancel (BodyOf n) (Body bs) (Length m) x y a b e = absurd b
field_cancel _ _ _ x y a b e = absurd a

-- ---- paths

pub path-append : (form : HeaderForm) (fs gs : List HeaderField) (on on' : HeaderForm) → Path form fs on
    → Path on gs on' → Path form (fs ++ gs) on'
path-append form [] gs on on' p q = subst (λ t. Path t gs on') (sym p) q
path-append (Whole h) (f ∷ fs) gs on on' p q = absurd p
path-append (Next k n) (f ∷ fs) gs on on' p q = (p.0, path-append (n f) fs gs on on' p.1 q)

-- what begins as the one path does goes on from its end
pub record Goes (on : HeaderForm) (fs ps : List HeaderField) (z : List ℕ) (h : Header) : Type 0 where
  pub more : List HeaderField
  pub same : fs ≡ ps ++ more
  pub path : Path on more (Whole h)
  pub bytes : z ≡ fields_bytes more

pub goes_on : (form on : HeaderForm) (ps fs : List HeaderField) (z : List ℕ) (h : Header) → Path form ps on
    → Path form fs (Whole h) → fields_bytes ps ++ z ≡ fields_bytes fs → Goes on fs ps z h
goes_on form on [] fs z h p q e =
    record { more = fs; same = refl; path = subst (λ t. Path t fs (Whole h)) p q; bytes = e }
goes_on (Whole a) on (g ∷ ps) fs z h p q e = absurd p
goes_on (Next k n) on (g ∷ ps) [] z h p q e = absurd cc
goes_on (Next k n) on (g ∷ ps) (f ∷ fs) z h p q e =
    let c = field_cancel k g f (fields_bytes ps ++ z) (fields_bytes fs) p.0 q.0
    (sym (append_assoc (field_bytes g) (fields_bytes ps) z) ∙ e) in
    let r = goes_on (n g) on ps fs z h p.1 (subst (λ t. Path (n t) fs (Whole h)) (sym c.0) q.1) c.1 in
    record {
      more = r.more;
      same = ap (λ t. t ∷ fs) (sym c.0) ∙ ap (λ t. g ∷ t) r.same;
      path = r.path;
      bytes = r.bytes;
    }

nothing_on : (a h : Header) (fs : List HeaderField) → Path (Whole a) fs (Whole h) → (fs ≡ []) × (a ≡ h)
nothing_on a h [] p = (refl, cc)
nothing_on a h (f ∷ fs) p = absurd p

-- one header at the most is a front of the bytes
pub one_path : (form : HeaderForm) (fs gs : List HeaderField) (g h : Header) (x y : List ℕ)
    → Path form fs (Whole g) → Path form gs (Whole h) → fields_bytes fs ++ x ≡ fields_bytes gs ++ y
    → (g ≡ h) × (x ≡ y)
one_path (Whole a) [] [] g h x y p q e = (cc, e)
one_path (Whole a) [] (f ∷ gs) g h x y p q e = absurd q
one_path (Whole a) (f ∷ fs) gs g h x y p q e = absurd p
one_path (Next k n) [] gs g h x y p q e = absurd cc
one_path (Next k n) (f ∷ fs) [] g h x y p q e = absurd cc
one_path (Next k n) (f ∷ fs) (f' ∷ gs) g h x y p q e =
    let c = field_cancel k f f' (fields_bytes fs ++ x) (fields_bytes gs ++ y) p.0 q.0
    (sym (append_assoc (field_bytes f) (fields_bytes fs) x) ∙ e
    ∙ append_assoc (field_bytes f') (fields_bytes gs) y) in
    one_path (n f) fs gs g h x y p.1 (subst (λ t. Path (n t) gs (Whole h)) (sym c.0) q.1) c.1

-- ---- each form has a header

pub some_field : FieldKind → HeaderField
some_field AnyNumber = Number 0
some_field (AnyState last) = State (suc last) 0
some_field AnyLength = Length 0
some_field (BodyOf n) = Body (copies n 0)

pub some_field_is : (k : FieldKind) → IsOfKind k (some_field k)
unfolding some_field
some_field_is AnyNumber = lit< tt
some_field_is (AnyState last) = (refl, omega arith, lit< tt)
some_field_is AnyLength = omega arith
some_field_is (BodyOf n) = (copies_length n 0, IsByteList-zeros n)

pub record HasPath (form : HeaderForm) : Type 0 where
  pub fields : List HeaderField
  pub header : Header
  pub path : Path form fields (Whole header)

pub some_path : (form : HeaderForm) → HasPath form
some_path (Whole h) = record { fields = []; header = h; path = refl }
some_path (Next k n) =
    let p = some_path (n (some_field k)) in
    record { fields = some_field k ∷ p.fields; header = p.header; path = (some_field_is k, p.path) }

-- the front of a field begins the form
pub begun_field : (k : FieldKind) (n : HeaderField → HeaderForm) (g : HeaderField) (front rest : List ℕ)
    → IsOfKind k g → front ++ rest ≡ field_bytes g → 0 < length rest → BegunForm (Next k n) front
begun_field k n g front rest o e some =
    let p = some_path (n g) in
    record {
      rest = rest ++ fields_bytes p.fields;
      some = let l = length-append rest (fields_bytes p.fields) in omega arith;
      fields = g ∷ p.fields;
      header = p.header;
      path = (o, p.path);
      parts = sym (append_assoc front rest (fields_bytes p.fields)) ∙ ap (λ t. t ++ fields_bytes p.fields) e;
    }

-- ---- what was read

pub reads_one : (k : FieldKind) (n : HeaderField → HeaderForm) (g : HeaderField) (bytes rest : List ℕ)
    → IsOfKind k g → bytes ≡ field_bytes g ++ rest → Reads (Next k n) bytes (n g) rest
reads_one k n g bytes rest o e = record {
  fields = g ∷ [];
  path = (o, refl);
  parts = e ∙ ap (λ t. t ++ rest) (sym (append-nil (field_bytes g)));
}

pub reads_nothing : (form : HeaderForm) (bytes : List ℕ) → Reads form bytes form bytes
reads_nothing form bytes = record { fields = []; path = refl; parts = refl }

pub reads_then : {a b c : HeaderForm} {x y z : List ℕ} → Reads a x b y → Reads b y c z → Reads a x c z
reads_then {a = a} {b = b} {c = c} {z = z} f g = record {
  fields = f.fields ++ g.fields;
  path = path-append a f.fields g.fields b c f.path g.path;
  parts =
      f.parts ∙ ap (λ t. fields_bytes f.fields ++ t) g.parts
      ∙ sym (append_assoc (fields_bytes f.fields) (fields_bytes g.fields) z)
      ∙ ap (λ t. t ++ z) (sym (fields_bytes-append f.fields g.fields));
}

-- ---- what is refused behind what was read

begun_behind : (a b : HeaderForm) (fs : List HeaderField) (front : List ℕ) → Path a fs b → BegunForm b front
    → BegunForm a (fields_bytes fs ++ front)
begun_behind a b fs front p k = record {
  rest = k.rest;
  some = k.some;
  fields = fs ++ k.fields;
  header = k.header;
  path = path-append a fs k.fields b (Whole k.header) p k.path;
  parts = append_assoc (fields_bytes fs) front k.rest ∙ ap (λ t. fields_bytes fs ++ t) k.parts
      ∙ sym (fields_bytes-append fs k.fields);
}

cut_behind : (a b : HeaderForm) (x y : List ℕ) → Reads a x b y → CutForm b y → CutForm a x
cut_behind a b x y m k = record {
  front = fields_bytes m.fields ++ k.front;
  tail = k.tail;
  parts = m.parts ∙ ap (λ t. fields_bytes m.fields ++ t) k.parts
      ∙ sym (append_assoc (fields_bytes m.fields) k.front k.tail);
  units = length (fields_units m.fields) + k.units;
  whole = let l = length-append (fields_bytes m.fields) k.front in let w = k.whole in
      let f = fields_fill m.fields in omega arith;
  part = k.part;
  begun = begun_behind a b m.fields k.front m.path k.begun;
}

units_behind : (ps fs more : List HeaderField) (before after : List UnitKind) (kind : UnitKind)
    → fs ≡ ps ++ more → fields_units more ≡ before ++ (kind ∷ after)
    → fields_units fs ≡ (fields_units ps ++ before) ++ (kind ∷ after)
units_behind ps fs more before after kind e h =
    ap (λ t. fields_units t) e ∙ fields_units-append ps more ∙ ap (λ t. fields_units ps ++ t) h
    ∙ sym (append_assoc (fields_units ps) before (kind ∷ after))

bad_behind : (a b : HeaderForm) (x y : List ℕ) (left : ℕ) (code : ReadCode) → Reads a x b y
    → BadForm b y left code → BadForm a x left code
bad_behind a b x y left code m k = record {
  front = fields_bytes m.fields ++ k.front;
  unit = k.unit;
  rest = k.rest;
  parts = m.parts ∙ ap (λ t. fields_bytes m.fields ++ t) k.parts
      ∙ sym (append_assoc (fields_bytes m.fields) k.front (k.unit ++ k.rest));
  place = k.place;
  wide = k.wide;
  begun = begun_behind a b m.fields k.front m.path k.begun;
  ended = λ z fs h p e.
      let r = goes_on a b m.fields fs (k.front ++ (k.unit ++ z)) h m.path p
      (sym (append_assoc (fields_bytes m.fields) k.front (k.unit ++ z)) ∙ e) in
      k.ended z r.more h r.path r.bytes;
  cause = λ z fs h p e.
      let r = goes_on a b m.fields fs (k.front ++ z) h m.path p
      (sym (append_assoc (fields_bytes m.fields) k.front z) ∙ e) in
      let why = k.cause z r.more h r.path r.bytes in (
        fields_units m.fields ++ why.0,
        why.1,
        why.2,
        units_behind m.fields fs r.more why.0 why.2 why.1 r.same why.3,
        (let l = length-append (fields_bytes m.fields) k.front in
            let u = length-append (fields_units m.fields) why.0 in let w : length k.front ≡ 4 * length why.0 =
            why.4 in let f = fields_fill m.fields in omega arith),
        why.5,
      );
}

pub behind : {a b : HeaderForm} {x y : List ℕ} {left : ℕ} {code : ReadCode} → Reads a x b y
    → FormFault b y left code → FormFault a x left code
behind {a = a} {b = b} {x = x} {y = y} m (ends c l k) = ends c l (cut_behind a b x y m k)
behind {a = a} {b = b} {x = x} {y = y} {left = left} {code = code} m (stops k) =
    stops (bad_behind a b x y left code m k)
behind m (trails c h rest k bare some l) = trails c h rest (reads_then m k) bare some l
