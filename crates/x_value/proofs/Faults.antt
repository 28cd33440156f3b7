-- What is refused behind the bytes that were read is refused in all of them.
use Rattle.std.proofs.Common.{◌≡◌, ℕ, ◌+◌, ◌-◌, ◌*◌, ◌<◌, ◌≤◌, List, [], ◌∷◌, ◌++◌, length, refl, sym, ap}
use Rattle.std.proofs.Common.{subst, ◌∙◌, append_assoc, arith, ◌⊎◌, inl, inr}
use Rattle.std.specs.Prelude.{Bool, true, false, if◌then◌else◌, nat_lt, nat_eq, is_some, Option, Some, None}
use Rattle.std.specs.Prelude.{drop}
use Rattle.std.specs.Int.{from_be_bytes, w32}
use Rattle.std.proofs.lemmas.List.{append-nil, length-append}
use Rattle.x_schema.specs.declared.form.Arm.{Arm}
use Rattle.x_schema.specs.declared.form.Form.{Form}
use Rattle.x_schema.specs.declared.form.Form.TheVariants as forms
use Rattle.x_schema.specs.declared.schema.TypeId.{TypeId}
use Rattle.x_schema.specs.Choices.{arm_for, name_for}
use Rattle.x_schema.specs.Schema.{Schema, form_at}
use Rattle.x_schema.specs.Sound.{is_legal}
use Rattle.x_value.specs.declared.fault.ReadCode.{ReadCode}
use Rattle.x_value.specs.declared.fault.ReadCode.TheVariants as codes
use Rattle.x_value.specs.Shown.{Node}
use Rattle.x_value.specs.Values.{Value, Values, body, group, headed, end, more, enc, encs}
use Rattle.x_units.specs.Units.{word, are_zeros}
use Rattle.x_value.specs.Layouts.{Layout, Fixed, Fields, Elements, Flag, Named, Sized, Counted, Optional}
use Rattle.x_value.specs.Layouts.{Chosen, Spot, Job, most_links, members, behind, arm_fault, head_fault}
use Rattle.x_value.specs.Layouts.{open_fault, illegal_code}
use Rattle.x_value.specs.Readings.{Fits, Suits, UnitRole, Free, Padded, Head, fault_of, roles, roles_each}
use Rattle.x_value.specs.Readings.{nodes, nodes_each}
use Rattle.x_value.specs.Language.{Leads, Begins, NotIn, IsOfUnits, Stuck, Short}
use Rattle.x_value.specs.Jobs.{Spells, Faulty, Refused, no_memory, ends, trails, stops, Moves}
use Rattle.x_value.specs.Dumps.{root_job, IsEncoding, IsShown, BeginsEncoding, NoFrontIsEncoding, IsReadFault}
use Rattle.x_value.specs.Dumps.{no_memory_left, trailing, bad_unit, cut_short}
use Rattle.x_value.proofs.Fronts.{leads_nowhere, leads_then, stuck_behind, short_behind, none_in_short}
use Rattle.x_value.proofs.Fronts.{none_in_stuck}
use Rattle.x_value.proofs.Bytes.{word_length, body_length, body_units}
use Rattle.x_value.proofs.Unique.{one_values}

-- ---- an encoding has as many units as roles

mutual
  units_value : (s : Schema) (l : Layout) (p : Spot) (v : Value) → Fits s l p v
      → length (enc v) ≡ 4 * length (roles s l p v)
  units_value s l p (body bs) h = body_length bs ∙ body_units (length bs)
  units_value s l p (group vs) h = units_values s (members s l p) vs h.1
  units_value s l p (headed w vs) h =
      length-append (word w) (encs vs)
      ∙ (let e = word_length w in let u = units_values s (behind s l p w) vs h.3 in omega arith)

  units_values : (s : Schema) (js : List Job) (v : Values) → Suits s js v
      → length (encs v) ≡ 4 * length (roles_each s js v)
  units_values s [] end h = refl
  units_values s [] (more v vs) h = absurd h
  units_values s (j ∷ js) end h = absurd h
  units_values s (j ∷ js) (more v vs) h =
      length-append (enc v) (encs vs)
      ∙ (let a = units_value s j.layout j.spot v h.0 in let b = units_values s js vs h.1 in
      let l = length-append (roles s j.layout j.spot v) (roles_each s js vs) in omega arith)

pub of_units : (s : Schema) (js : List Job) → IsOfUnits (Spells s js)
of_units s js = record {
  one_end = λ a b y z n m h k.
      (one_values s js h.values k.values b [] h.suits k.suits (ap (λ t. t ++ b) (sym h.bytes) ∙ k.bytes
      ∙ sym (append-nil (encs k.values)))).1;
  units = λ a y n h. ap length h.bytes ∙ units_values s js h.values h.suits
      ∙ ap (λ t. 4 * length t) (sym h.told);
}

-- ---- one value

pub spelled : (s : Schema) (j : Job) (v : Value) (x : List ℕ) → Fits s j.layout j.spot v → x ≡ enc v
    → Spells s (j ∷ []) x (roles s j.layout j.spot v) (nodes s j.layout j.spot v)
spelled s j v x h e = record {
  values = more v end;
  suits = (h, tt);
  bytes = e ∙ sym (append-nil (enc v));
  told = sym (append-nil (roles s j.layout j.spot v));
  shown = sym (append-nil (nodes s j.layout j.spot v));
}

shown_value : (s : Schema) (j : Job) (vs : Values) (x : List ℕ) (n : List Node) → Suits s (j ∷ []) vs
    → x ≡ encs vs → n ≡ nodes_each s (j ∷ []) vs
    → (v : Value) × Fits s j.layout j.spot v × (x ≡ enc v) × (n ≡ nodes s j.layout j.spot v)
shown_value s j end x n h e t = absurd h
shown_value s j (more v end) x n h e t =
    (v, h.0, e ∙ append-nil (enc v), t ∙ append-nil (nodes s j.layout j.spot v))
shown_value s j (more v (more w ws)) x n h e t = absurd h.1

pub shown_of : (s : Schema) (id : TypeId) (x : List ℕ) (r : List UnitRole) (n : List Node)
    → Spells s (root_job s id ∷ []) x r n → IsShown s id x n
shown_of s id x r n h = shown_value s (root_job s id) h.values x n h.suits h.bytes h.shown

pub encoding_of : (s : Schema) (id : TypeId) (x : List ℕ) (r : List UnitRole) (n : List Node)
    → Spells s (root_job s id ∷ []) x r n → IsEncoding s id x
encoding_of s id x r n h = let v = shown_of s id x r n h in (v.0, v.1, v.2)

-- ---- refusals

not_short : codes.Short ≡ codes.NoMemory → ⊥
not_short e = cc

not_trailing : codes.Trailing ≡ codes.NoMemory → ⊥
not_trailing e = cc

abbrev some_code : ReadCode → Option ReadCode
some_code c = Some c

abbrev no_code : Option ReadCode
no_code = None

if_none : (b : Bool) (c d : ReadCode) → (if b then no_code else some_code c) ≡ some_code d → c ≡ d
if_none true c d e = absurd cc
if_none false c d e = cc

if_some : (b : Bool) (c d : ReadCode) (x : Option ReadCode) → (if b then some_code c else x) ≡ some_code d
    → (c ≡ d) ⊎ (x ≡ some_code d)
if_some true c d x e = inl cc
if_some false c d x e = inr e

if_skip : (b : Bool) (d : ReadCode) (x : Option ReadCode) → (if b then no_code else x) ≡ some_code d
    → x ≡ some_code d
if_skip true d x e = absurd cc
if_skip false d x e = e

if_else : (b : Bool) (c d : ReadCode) (x : Option ReadCode) → (if b then x else some_code c) ≡ some_code d
    → (c ≡ d) ⊎ (x ≡ some_code d)
if_else true c d x e = inr e
if_else false c d x e = inl cc

never_open : (n : ℕ) → open_fault n ≡ some_code codes.NoMemory → ⊥
never_open n e = (let h : codes.TooDeep ≡ codes.NoMemory =
    if_none (nat_lt n most_links) codes.TooDeep codes.NoMemory e in cc)

never_arm : (arm : Option Arm) → arm_fault arm ≡ some_code codes.NoMemory → ⊥
never_arm (Some arm) e = cc
never_arm None e = cc

never_illegal : (f : Form) → illegal_code f ≡ codes.NoMemory → ⊥
never_illegal forms.Bool e = cc
never_illegal _ e = cc

never_head : (s : Schema) (l : Layout) (n w : ℕ) → head_fault s l n w ≡ some_code codes.NoMemory → ⊥
never_head s (Fixed leaf k) n w e = cc
never_head s (Fields fs) n w e = cc
never_head s (Elements of k) n w e = cc
never_head s Flag n w e =
    (let h : codes.BadBool ≡ codes.NoMemory = if_none (nat_lt w 2) codes.BadBool codes.NoMemory e in cc)
never_head s (Named names) n w e =
    (let h : codes.BadEnum ≡ codes.NoMemory =
    if_none (is_some (name_for names w)) codes.BadEnum codes.NoMemory e in cc)
never_head s (Sized leaf most) n w e =
    elim (if_some (nat_lt most w) codes.TooMany codes.NoMemory no_code e) [ inl h ↦ cc | inr h ↦ cc ]
never_head s (Counted of most) n w e =
    elim (if_some (nat_lt most w) codes.TooMany codes.NoMemory (if nat_eq w 0 then no_code else open_fault n)
    e) [ inl h ↦ cc | inr h ↦ never_open n (if_skip (nat_eq w 0) codes.NoMemory (open_fault n) h) ]
never_head s (Optional of) n w e =
    elim (if_else (nat_lt w 2) codes.BadBool codes.NoMemory (if nat_eq w 0 then no_code else open_fault n) e)
    [ inl h ↦ cc | inr h ↦ never_open n (if_skip (nat_eq w 0) codes.NoMemory (open_fault n) h) ]
never_head s (Chosen d choice) n w e =
    elim (if_else (is_legal (form_at s d.form) w) (illegal_code (form_at s d.form)) codes.NoMemory
    (arm_fault (arm_for choice w)) e)
    [ inl h ↦ never_illegal (form_at s d.form) h | inr h ↦ never_arm (arm_for choice w) h ]

never_memory : (s : Schema) (r : UnitRole) (u : List ℕ) → fault_of s r u ≡ some_code codes.NoMemory → ⊥
never_memory s Free u e = cc
never_memory s (Padded k) u e =
    (let h : codes.BadPad ≡ codes.NoMemory = if_none (are_zeros (drop k u)) codes.BadPad codes.NoMemory e in
    cc)
never_memory s (Head l n) u e = never_head s l n (from_be_bytes w32 u) e

memory_at : (s : Schema) (ks : List Job) (rest : List ℕ) (at : ℕ) (code : ReadCode)
    → Refused s ks rest at code → code ≡ codes.NoMemory → at ≡ 0
memory_at s ks rest at code (no_memory c p) is = p
memory_at s ks rest at code (ends c k) is = absurd (not_short (sym c ∙ is))
memory_at s ks rest at code (trails c k) is = absurd (not_trailing (sym c ∙ is))
memory_at s ks rest at code (stops k) is =
    let why = k.cause k.begun.rest k.begun.told k.begun.shown k.begun.is_in in
    absurd (never_memory s why.1 k.unit (why.5 ∙ ap some_code is))

refused_at : (s : Schema) (js ks : List Job) (m rest : List ℕ) (shown : List Node) (at at' : ℕ)
    (code : ReadCode) → (moves : Moves s js m shown ks rest) → at' ≡ length moves.front + at
    → (code ≡ codes.NoMemory → ⊥) → Refused s ks rest at code → Refused s js m at' code
refused_at s js ks m rest shown at at' code moves e isnt (no_memory c p) = absurd (isnt c)
refused_at s js ks m rest shown at at' code moves e isnt (ends c k) =
    ends c (subst (λ t. Short (Spells s js) m t) (sym e)
    (subst (λ t. Short (Spells s js) t (length moves.front + at)) (sym moves.parts)
    (short_behind (Spells s js) (Spells s ks) moves.front rest moves.told shown at moves.leads moves.even k)))
refused_at s js ks m rest shown at at' code moves e isnt (trails c k) =
    trails c (record {
      front = moves.front ++ k.front;
      more = k.more;
      told = moves.told ++ k.told;
      shown = shown ++ k.shown;
      parts = moves.parts ∙ ap (λ t. moves.front ++ t) k.parts
          ∙ sym (append_assoc moves.front k.front k.more);
      place = e ∙ ap (λ t. length moves.front + t) k.place ∙ sym (length-append moves.front k.front);
      is_in = moves.leads.on k.front k.told k.shown k.is_in;
      some = k.some;
    })
refused_at s js ks m rest shown at at' code moves e isnt (stops k) =
    stops (subst (λ t. Stuck (Spells s js) (Faulty s code) m t) (sym e)
    (subst (λ t. Stuck (Spells s js) (Faulty s code) t (length moves.front + at)) (sym moves.parts)
    (stuck_behind (Spells s js) (Spells s ks) (Faulty s code) moves.front rest moves.told shown at moves.leads
    moves.even k)))

is_memory : (c : ReadCode) → (c ≡ codes.NoMemory → ⊥) ⊎ (c ≡ codes.NoMemory)
is_memory codes.Short = inl (λ e. cc)
is_memory codes.BadBool = inl (λ e. cc)
is_memory codes.BadEnum = inl (λ e. cc)
is_memory codes.NoArm = inl (λ e. cc)
is_memory codes.TooMany = inl (λ e. cc)
is_memory codes.BadPad = inl (λ e. cc)
is_memory codes.TooDeep = inl (λ e. cc)
is_memory codes.Trailing = inl (λ e. cc)
is_memory codes.NoMemory = inr refl

refused_behind_at : (s : Schema) (js ks : List Job) (m rest : List ℕ) (shown : List Node) (at at' : ℕ)
    (code : ReadCode) → Moves s js m shown ks rest → Refused s ks rest at code
    → (code ≡ codes.NoMemory → at' ≡ at) → ((code ≡ codes.NoMemory → ⊥) → at' ≡ length m - length rest + at)
    → (code ≡ codes.NoMemory → ⊥) ⊎ (code ≡ codes.NoMemory) → Refused s js m at' code
refused_behind_at s js ks m rest shown at at' code moves r same place (inr is) =
    no_memory is (same is ∙ memory_at s ks rest at code r is)
refused_behind_at s js ks m rest shown at at' code moves r same place (inl isnt) =
    let long : length m ≡ length moves.front + length rest = ap length moves.parts
    ∙ length-append moves.front rest in
    let p = place isnt in
    refused_at s js ks m rest shown at at' code moves (omega arith) isnt r

-- the fault of what stands behind, counted from the start
pub refused_behind : (s : Schema) (js ks : List Job) (m rest : List ℕ) (shown : List Node) (at at' : ℕ)
    (code : ReadCode) → Moves s js m shown ks rest → Refused s ks rest at code
    → (code ≡ codes.NoMemory → at' ≡ at) → ((code ≡ codes.NoMemory → ⊥) → at' ≡ length m - length rest + at)
    → Refused s js m at' code
refused_behind s js ks m rest shown at at' code moves r same place =
    refused_behind_at s js ks m rest shown at at' code moves r same place (is_memory code)

pub refused_within : (s : Schema) (js : List Job) (m : List ℕ) (at : ℕ) (code : ReadCode)
    → Refused s js m at code → at ≤ length m
refused_within s js m at code (no_memory c p) = omega arith
refused_within s js m at code (ends c k) = let p = k.place in omega arith
refused_within s js m at code (trails c k) =
    let p = k.place in let l = ap length k.parts ∙ length-append k.front k.more in omega arith
refused_within s js m at code (stops k) =
    let p = k.place in let l = ap length k.parts ∙ length-append k.front (k.unit ++ k.rest) in omega arith

no_front : (s : Schema) (id : TypeId) (m : List ℕ)
    → ((a b : List ℕ) → m ≡ a ++ b → NotIn (Spells s (root_job s id ∷ [])) a) → NoFrontIsEncoding s id m
no_front s id m h a b e k = h a b e (roles s (root_job s id).layout (root_job s id).spot k.0)
    (nodes s (root_job s id).layout (root_job s id).spot k.0) (spelled s (root_job s id) k.0 a k.1 k.2)

begins_of : (s : Schema) (id : TypeId) (x : List ℕ) → Begins (Spells s (root_job s id ∷ [])) x
    → BeginsEncoding s id x
begins_of s id x b = (b.rest, encoding_of s id (x ++ b.rest) b.told b.shown b.is_in)

pub fault_is : (s : Schema) (id : TypeId) (m : List ℕ) (at : ℕ) (code : ReadCode)
    → Refused s (root_job s id ∷ []) m at code → IsReadFault s id m at code
fault_is s id m at code (no_memory c p) = no_memory_left c p
fault_is s id m at code (ends c k) = cut_short c (record {
  none = no_front s id m
      (none_in_short (Spells s (root_job s id ∷ [])) m at (of_units s (root_job s id ∷ [])) k);
  place = k.place;
  front = k.front;
  tail = k.tail;
  parts = k.parts;
  units = k.units;
  whole = k.whole;
  part = k.part;
  begins = begins_of s id k.front k.begun;
})
fault_is s id m at code (trails c k) =
    trailing c (record {
      front = k.front;
      more = k.more;
      parts = k.parts;
      some = k.some;
      is_encoding = encoding_of s id k.front k.told k.shown k.is_in;
      place = k.place;
    })
fault_is s id m at code (stops k) = bad_unit (record {
  none = no_front s id m (none_in_stuck (Spells s (root_job s id ∷ [])) (Faulty s code) m at
      (of_units s (root_job s id ∷ [])) k);
  front = k.front;
  unit = k.unit;
  rest = k.rest;
  parts = k.parts;
  place = k.place;
  wide = k.wide;
  begins = begins_of s id k.front k.begun;
  ended = λ b. k.ended b.0 (roles s (root_job s id).layout (root_job s id).spot b.1.0)
      (nodes s (root_job s id).layout (root_job s id).spot b.1.0)
      (spelled s (root_job s id) b.1.0 (k.front ++ (k.unit ++ b.0)) b.1.1
      (sym (append_assoc k.front k.unit b.0) ∙ b.1.2));
  cause = λ v y h e.
      let why = k.cause y (roles s (root_job s id).layout (root_job s id).spot v)
      (nodes s (root_job s id).layout (root_job s id).spot v)
      (spelled s (root_job s id) v (k.front ++ y) h e) in
      record {
        before = why.0;
        role = why.1;
        after = why.2;
        units_are = why.3;
        place = why.4;
        fault = why.5;
      };
})

pub not_encoding : (s : Schema) (id : TypeId) (m : List ℕ) (at : ℕ) (code : ReadCode)
    → Refused s (root_job s id ∷ []) m at code → (code ≡ codes.NoMemory) ⊎ (IsEncoding s id m → ⊥)
not_encoding s id m at code (no_memory c p) = inl c
not_encoding s id m at code (ends c k) =
    inr (λ h. no_front s id m (none_in_short (Spells s (root_job s id ∷ [])) m at
    (of_units s (root_job s id ∷ [])) k) m [] (sym (append-nil m)) h)
not_encoding s id m at code (trails c k) = inr (λ h.
    let u = of_units s (root_job s id ∷ []) in
    let e = u.one_end k.front k.more k.told (roles s (root_job s id).layout (root_job s id).spot h.0) k.shown
    (nodes s (root_job s id).layout (root_job s id).spot h.0) k.is_in
    (spelled s (root_job s id) h.0 (k.front ++ k.more) h.1 (sym k.parts ∙ h.2)) in
    let l : length k.more ≡ 0 = ap length e in let p = k.some in omega arith)
not_encoding s id m at code (stops k) =
    inr (λ h. no_front s id m (none_in_stuck (Spells s (root_job s id ∷ [])) (Faulty s code) m at
    (of_units s (root_job s id ∷ [])) k) m [] (sym (append-nil m)) h)

-- ---- steps one behind another

pub moves_same : (s : Schema) (js ks : List Job) (m : List ℕ) → js ≡ ks → Moves s js m [] ks m
moves_same s js ks m e = subst (λ t. Moves s js m [] t m) e
    (record { front = []; told = []; parts = refl; even = refl; leads = leads_nowhere (Spells s js) })

pub moves_then : (s : Schema) (is js ks : List Job) (m rest rest' : List ℕ) (a b : List Node)
    → Moves s is m a js rest → Moves s js rest b ks rest' → Moves s is m (a ++ b) ks rest'
moves_then s is js ks m rest rest' a b f g = record {
  front = f.front ++ g.front;
  told = f.told ++ g.told;
  parts = f.parts ∙ ap (λ t. f.front ++ t) g.parts ∙ sym (append_assoc f.front g.front rest');
  even = length-append f.front g.front
      ∙ (let x = f.even in let y = g.even in let l = length-append f.told g.told in omega arith);
  leads = leads_then (Spells s is) (Spells s js) (Spells s ks) f.front g.front f.told g.told a b
      f.leads g.leads;
}

-- ---- the end

pub done_shown : (s : Schema) (id : TypeId) (m rest : List ℕ) (shown : List Node) (ks : List Job)
    → Moves s (root_job s id ∷ []) m shown ks rest → ks ≡ [] → rest ≡ [] → IsShown s id m shown
done_shown s id m rest shown ks moves none all =
    let front : m ≡ moves.front ++ [] = moves.parts ∙ ap (λ t. moves.front ++ t) all in
    let leads : Leads (Spells s (root_job s id ∷ [])) moves.front moves.told shown (Spells s []) =
    subst (λ t. Leads (Spells s (root_job s id ∷ [])) moves.front moves.told shown (Spells s t)) none
    moves.leads in
    let last : Spells s (root_job s id ∷ []) (moves.front ++ []) (moves.told ++ []) (shown ++ []) =
    leads.on [] [] [] (record { values = end; suits = tt; bytes = refl; told = refl; shown = refl }) in
    shown_of s id m (moves.told ++ []) shown
    (subst (λ t. Spells s (root_job s id ∷ []) m (moves.told ++ []) t) (append-nil shown)
    (subst (λ t. Spells s (root_job s id ∷ []) t (moves.told ++ []) (shown ++ [])) (sym front) last))

pub done_trailing : (s : Schema) (id : TypeId) (m rest : List ℕ) (shown : List Node) (at : ℕ) (ks : List Job)
    → Moves s (root_job s id ∷ []) m shown ks rest → ks ≡ [] → 0 < length rest → at ≡ length m - length rest
    → Refused s (root_job s id ∷ []) m at codes.Trailing
done_trailing s id m rest shown at ks moves none some place =
    let leads : Leads (Spells s (root_job s id ∷ [])) moves.front moves.told shown (Spells s []) =
    subst (λ t. Leads (Spells s (root_job s id ∷ [])) moves.front moves.told shown (Spells s t)) none
    moves.leads in
    let long : length m ≡ length moves.front + length rest = ap length moves.parts
    ∙ length-append moves.front rest in
    trails refl (record {
      front = moves.front;
      more = rest;
      told = moves.told ++ [];
      shown = shown ++ [];
      parts = moves.parts;
      place = place ∙ omega arith;
      is_in = subst (λ t. Spells s (root_job s id ∷ []) t (moves.told ++ []) (shown ++ []))
          (append-nil moves.front) (leads.on [] [] []
          (record { values = end; suits = tt; bytes = refl; told = refl; shown = refl }));
      some = some;
    })
