-- Bodies of bytes, and their padding.
use Rattle.std.proofs.Common.{◌≡◌, ℕ, ◌+◌, ◌-◌, ◌*◌, ◌/◌, ◌%◌, ◌<◌, ◌≤◌, List, [], ◌∷◌, ◌++◌, length, refl}
use Rattle.std.proofs.Common.{sym, ◌∙◌, ap, subst, append_assoc, arith, true, false, take, drop}
use Rattle.std.specs.Prelude.{if◌then◌else◌, Option, Some, None}
use Rattle.std.proofs.lemmas.List.{append-nil, length-append, take-append-drop, length-take, length-drop}
use Rattle.std.proofs.Math.Seq.{drop-append_seam}
use Rattle.x_schema.specs.Schema.{Schema}
use Rattle.x_schema.specs.Sound.{IsSound}
use Rattle.x_value.specs.declared.fault.ReadCode.{ReadCode}
use Rattle.x_value.specs.declared.fault.ReadCode.TheVariants as codes
use Rattle.x_value.specs.Shown.{Leaf, Node}
use Rattle.x_value.specs.Values.{Value, Values, body, group, headed, end, more, enc, encs}
use Rattle.x_units.specs.Units.{padding, copies, are_zeros}
use Rattle.x_value.specs.Layouts.{Fixed, Spot, Job, placed, body_nodes}
use Rattle.x_value.specs.Readings.{IsByteList, Fits, Suits, UnitRole, Free, Padded, body_roles, roles}
use Rattle.x_value.specs.Readings.{roles_each, nodes, nodes_each}
use Rattle.x_value.specs.Language.{Begins, NotIn, Stuck, Short}
use Rattle.x_value.specs.Jobs.{Spells, AreReady, Faulty, Moves, BodyTaken, BodyFault, cut_body, bad_pad}
use Rattle.x_value.specs.Jobs.{Refused, ends, stops}
use Rattle.x_value.proofs.Fronts.{cut_same}
use Rattle.x_value.proofs.Bytes.{copies_length, body_units, body_length, body_cancel, padding_least}
use Rattle.x_value.proofs.Bytes.{roles_padded, zeros_true, IsByteList-append, IsByteList-zeros}
use Rattle.x_value.proofs.Bytes.{IsByteList-left, unit_full, pad_left}
use Rattle.x_value.proofs.Sound.{some_values}
use Rattle.x_value.proofs.Pieces.{Opens, moves_of}

-- ---- a whole body

abbrev pub body_bytes : List ℕ → List ℕ
body_bytes bs = bs ++ copies (padding (length bs)) 0

body_on : (s : Schema) (leaf : List ℕ → Leaf) (n : ℕ) (p : Spot) (bs : List ℕ) → length bs ≡ n → IsByteList bs
    → (vs : Values) → Suits s [] vs →
    (v : Value) × Fits s (Fixed leaf n) p v × (enc v ≡ body_bytes bs ++ encs vs)
    × (roles s (Fixed leaf n) p v ≡ body_roles (length bs) ++ roles_each s [] vs)
    × (nodes s (Fixed leaf n) p v ≡ body_nodes (Fixed leaf n) p bs ++ nodes_each s [] vs)
body_on s leaf n p bs long bytes end h = (
  body bs,
  (long, bytes),
  sym (append-nil (body_bytes bs)),
  sym (append-nil (body_roles (length bs))),
  sym (append-nil (body_nodes (Fixed leaf n) p bs)),
)
body_on s leaf n p bs long bytes (more v vs) h = absurd h

body_back : (s : Schema) (leaf : List ℕ → Leaf) (n : ℕ) (p : Spot) (bs : List ℕ) → length bs ≡ n
    → (v : Value) (x y : List ℕ) → Fits s (Fixed leaf n) p v → enc v ++ y ≡ body_bytes bs ++ x →
    (vs : Values) × Suits s [] vs × (enc v ≡ body_bytes bs ++ encs vs)
    × (roles s (Fixed leaf n) p v ≡ body_roles (length bs) ++ roles_each s [] vs)
    × (nodes s (Fixed leaf n) p v ≡ body_nodes (Fixed leaf n) p bs ++ nodes_each s [] vs)
body_back s leaf n p bs long (body a) x y h e =
    let is : a ≡ bs = (body_cancel a bs y x (h.0 ∙ sym long) e).0 in (
      end,
      tt,
      ap (λ t. body_bytes t) is ∙ sym (append-nil (body_bytes bs)),
      ap (λ (t : List ℕ). body_roles (length t)) is ∙ sym (append-nil (body_roles (length bs))),
      ap (λ t. body_nodes (Fixed leaf n) p t) is ∙ sym (append-nil (body_nodes (Fixed leaf n) p bs)),
    )
body_back s leaf n p bs long (group vs) x y h e = absurd h.0
body_back s leaf n p bs long (headed w vs) x y h e = absurd h.0

opens_body : (s : Schema) (leaf : List ℕ → Leaf) (n : ℕ) (p : Spot) (bs : List ℕ) → length bs ≡ n
    → IsByteList bs → Opens s (Fixed leaf n) p [] (body_bytes bs) (body_roles (length bs))
    (body_nodes (Fixed leaf n) p bs)
opens_body s leaf n p bs long bytes =
    record { on = body_on s leaf n p bs long bytes; back = body_back s leaf n p bs long }

body_moves_at : (s : Schema) (leaf : List ℕ → Leaf) (n : ℕ) (p : Spot) (bs m rest : List ℕ) → length bs ≡ n
    → IsByteList bs → m ≡ body_bytes bs ++ rest → (ks : List Job)
    → Moves s (placed (Fixed leaf n) p ∷ ks) m (body_nodes (Fixed leaf n) p bs) ks rest
body_moves_at s leaf n p bs m rest long bytes parts ks =
    moves_of s (Fixed leaf n) p [] (body_bytes bs) (body_roles (length bs)) (body_nodes (Fixed leaf n) p bs) m
    rest (opens_body s leaf n p bs long bytes) parts (body_length bs ∙ body_units (length bs)) ks

pub body_moves : (s : Schema) (leaf : List ℕ → Leaf) (n : ℕ) (p : Spot) (m bs rest : List ℕ) → IsByteList m
    → BodyTaken n m bs rest → (ks : List Job)
    → Moves s (placed (Fixed leaf n) p ∷ ks) m (body_nodes (Fixed leaf n) p bs) ks rest
body_moves s leaf n p m bs rest bytes taken ks =
    let long : length bs ≡ n = taken.long in
    let parts : m ≡ body_bytes bs ++ rest = taken.parts
    ∙ ap (λ t. bs ++ (copies (padding t) 0 ++ rest)) (sym long)
    ∙ sym (append_assoc bs (copies (padding (length bs)) 0) rest) in
    body_moves_at s leaf n p bs m rest long
    (IsByteList-left bs (copies (padding n) 0 ++ rest) (subst IsByteList taken.parts bytes)) parts ks

-- ---- a body that is cut, or whose padding is not zero

record BodyFront (n : ℕ) (x : List ℕ) (z : List UnitRole) : Type 0 where
  pub bs : List ℕ
  pub rest : List ℕ
  pub told : List UnitRole
  pub long : length bs ≡ n
  pub bytes : x ≡ bs ++ (copies (padding n) 0 ++ rest)
  pub tells : z ≡ body_roles n ++ told

body_front_at : (s : Schema) (leaf : List ℕ → Leaf) (n : ℕ) (p : Spot) (ks : List Job) (vs : Values)
    (x : List ℕ) (z : List UnitRole) → Suits s (placed (Fixed leaf n) p ∷ ks) vs → x ≡ encs vs
    → z ≡ roles_each s (placed (Fixed leaf n) p ∷ ks) vs → BodyFront n x z
body_front_at s leaf n p ks end x z h e t = absurd h
body_front_at s leaf n p ks (more (group vs) ws) x z h e t = absurd h.0.0
body_front_at s leaf n p ks (more (headed w vs) ws) x z h e t = absurd h.0.0
body_front_at s leaf n p ks (more (body bs) ws) x z h e t =
    let long : length bs ≡ n = h.0.0 in
    record {
      bs = bs;
      rest = encs ws;
      told = roles_each s ks ws;
      long = long;
      bytes = e ∙ append_assoc bs (copies (padding (length bs)) 0) (encs ws)
          ∙ ap (λ t. bs ++ (copies (padding t) 0 ++ encs ws)) long;
      tells = t ∙ ap (λ u. body_roles u ++ roles_each s ks ws) long;
    }

body_front : (s : Schema) (leaf : List ℕ → Leaf) (n : ℕ) (p : Spot) (ks : List Job) (x : List ℕ)
    (z : List UnitRole) (m : List Node) → Spells s (placed (Fixed leaf n) p ∷ ks) x z m → BodyFront n x z
body_front s leaf n p ks x z m h = body_front_at s leaf n p ks h.values x z h.suits h.bytes h.told

filled : (n q : ℕ) (a : List ℕ) → length a ≡ 4 * q → 4 * q ≤ n → length (a ++ copies (n - 4 * q) 0) ≡ n
filled n q a len small = length-append a (copies (n - 4 * q) 0)
    ∙ (let c : length (copies {A = ℕ} (n - 4 * q) 0) ≡ n - 4 * q = copies_length (n - 4 * q) 0 in omega arith)

-- the front of a body of n bytes, cut where a unit ends
cut_begins : (s : Schema) (leaf : List ℕ → Leaf) (n : ℕ) (p : Spot) (ks : List Job) (q : ℕ) (a : List ℕ)
    → IsSound s → AreReady s ks → IsByteList a → length a ≡ 4 * q → 4 * q ≤ n →
    Begins (Spells s (placed (Fixed leaf n) p ∷ ks)) a
cut_begins s leaf n p ks q a sound ready bytes len small =
    let some = some_values s ks sound ready in
    let long : length (a ++ copies (n - 4 * q) 0) ≡ n = filled n q a len small in
    record {
      rest = copies (n - 4 * q) 0 ++ (copies (padding n) 0 ++ encs some.0);
      told = roles_each s (placed (Fixed leaf n) p ∷ ks) (more (body (a ++ copies (n - 4 * q) 0)) some.0);
      shown = nodes_each s (placed (Fixed leaf n) p ∷ ks) (more (body (a ++ copies (n - 4 * q) 0)) some.0);
      is_in = record {
        values = more (body (a ++ copies (n - 4 * q) 0)) some.0;
        suits = (
          (long, IsByteList-append a (copies (n - 4 * q) 0) bytes (IsByteList-zeros (n - 4 * q))),
          some.1,
        );
        bytes = ap (λ t. a ++ (copies (n - 4 * q) 0 ++ (copies (padding t) 0 ++ encs some.0))) (sym long)
            ∙ simp append_assoc;
        told = refl;
        shown = refl;
      };
    }

cut_unfinished : (s : Schema) (leaf : List ℕ → Leaf) (n : ℕ) (p : Spot) (ks : List Job) (a : List ℕ)
    → length a < n + padding n → NotIn (Spells s (placed (Fixed leaf n) p ∷ ks)) a
cut_unfinished s leaf n p ks a small z m h =
    let f = body_front s leaf n p ks a z m h in
    let two : length (copies {A = ℕ} (padding n) 0 ++ f.rest) ≡ padding n + length f.rest =
    length-append (copies {A = ℕ} (padding n) 0) f.rest
    ∙ ap (λ t. t + length f.rest) (copies_length (padding n) 0) in
    let all : length a ≡ length f.bs + length (copies {A = ℕ} (padding n) 0 ++ f.rest) = ap length f.bytes
    ∙ length-append f.bs (copies {A = ℕ} (padding n) 0 ++ f.rest) in
    let l = f.long in
    omega arith

short_body : (s : Schema) (leaf : List ℕ → Leaf) (n : ℕ) (p : Spot) (ks : List Job) (q : ℕ) (a tail : List ℕ)
    → IsSound s → AreReady s ks → IsByteList a →
    length a ≡ 4 * q → length tail < 4 → length (a ++ tail) < n + padding n
    → Short (Spells s (placed (Fixed leaf n) p ∷ ks)) (a ++ tail) (length (a ++ tail))
short_body s leaf n p ks q a tail sound ready bytes len part small =
    let l = length-append a tail in
    record {
      front = a;
      tail = tail;
      parts = refl;
      place = refl;
      begun = cut_begins s leaf n p ks q a sound ready bytes len (padding_least n q (omega arith));
      units = q;
      whole = len;
      part = part;
      unfinished = cut_unfinished s leaf n p ks a (omega arith);
    }

true_false : true ≡ false → ⊥
true_false e = cc

drop_seam : (k : ℕ) (b p : List ℕ) → length b ≡ k → drop k (b ++ p) ≡ p
drop_seam k b p e = ap (λ t. drop t (b ++ p)) (sym e) ∙ drop-append_seam b p

abbrev no_code : Option ReadCode
no_code = None

abbrev some_code : ReadCode → Option ReadCode
some_code c = Some c

-- the last unit of a body of 4 q + k bytes holds k of them, and then bad
stuck_body : (s : Schema) (leaf : List ℕ → Leaf) (p : Spot) (ks : List Job) (q k : ℕ) (a b bad rest : List ℕ)
    → IsSound s → AreReady s ks → IsByteList a →
    length a ≡ 4 * q → length b ≡ k → 0 < k → k < 4 → length bad ≡ padding (4 * q + k)
    → are_zeros bad ≡ false →
    Stuck (Spells s (placed (Fixed leaf (4 * q + k)) p ∷ ks)) (Faulty s codes.BadPad)
    (a ++ ((b ++ bad) ++ rest)) (4 * q)
stuck_body s leaf p ks q k a b bad rest sound ready bytes lena lenb pos small lenp not_zero =
    let four : k + padding (4 * q + k) ≡ 4 = unit_full q k pos small in
    record {
      front = a;
      unit = b ++ bad;
      rest = rest;
      parts = refl;
      place = sym lena;
      wide = length-append b bad ∙ omega arith;
      begun = cut_begins s leaf (4 * q + k) p ks q a sound ready bytes lena (omega arith);
      unfinished = cut_unfinished s leaf (4 * q + k) p ks a (omega arith);
      ended = λ x z n h.
          let f = body_front s leaf (4 * q + k) p ks (a ++ ((b ++ bad) ++ x)) z n h in
          let parts : (a ++ b) ++ (bad ++ x) ≡ f.bs ++ (copies (padding (4 * q + k)) 0 ++ f.rest) =
          append_assoc a b (bad ++ x) ∙ ap (λ t. a ++ t) (sym (append_assoc b bad x)) ∙ f.bytes in
          let d = cut_same (a ++ b) (bad ++ x) f.bs (copies (padding (4 * q + k)) 0 ++ f.rest) parts
          (length-append a b ∙ (let l = f.long in omega arith)) in
          let g = cut_same bad x (copies (padding (4 * q + k)) 0) f.rest d.1
          (lenp ∙ sym (copies_length (padding (4 * q + k)) 0)) in
          true_false (sym (zeros_true (padding (4 * q + k))) ∙ ap are_zeros (sym g.0) ∙ not_zero);
      cause = λ x z n h.
          let f = body_front s leaf (4 * q + k) p ks (a ++ x) z n h in
          let shape : body_roles (4 * q + k) ≡ copies q Free ++ (Padded k ∷ []) =
          roles_padded q k pos small in (
            copies q Free,
            Padded k,
            f.told,
            f.tells ∙ ap (λ t. t ++ f.told) shape ∙ append_assoc (copies q Free) (Padded k ∷ []) f.told,
            (let lc : length (copies q Free) ≡ q = copies_length q Free in lena ∙ omega arith),
            ap (λ t. if are_zeros t then no_code else some_code codes.BadPad) (drop_seam k b bad lenb)
                ∙ ap (λ t. if t then no_code else some_code codes.BadPad) not_zero,
          );
    }

-- ---- refusals

units_of : (n : ℕ) → (4 * (n / 4) + n % 4 ≡ n) × (n % 4 < 4)
units_of n = (omega arith, omega arith)

short_body_at : (s : Schema) (leaf : List ℕ → Leaf) (n : ℕ) (p : Spot) (m : List ℕ) → IsSound s → IsByteList m
    → length m < n + padding n → (ks : List Job) → AreReady s ks
    → Short (Spells s (placed (Fixed leaf n) p ∷ ks)) m (length m)
short_body_at s leaf n p m sound bytes short ks ready =
    let cut : take (4 * (length m / 4)) m ++ drop (4 * (length m / 4)) m ≡ m =
    take-append-drop (4 * (length m / 4)) m in
    let u = units_of (length m) in
    let lt' = length-take (4 * (length m / 4)) m in
    let ld = length-drop (4 * (length m / 4)) m in
    subst (λ t. Short (Spells s (placed (Fixed leaf n) p ∷ ks)) t (length t)) cut
    (short_body s leaf n p ks (length m / 4) (take (4 * (length m / 4)) m)
    (drop (4 * (length m / 4)) m) sound ready
    (IsByteList-left (take (4 * (length m / 4)) m) (drop (4 * (length m / 4)) m)
    (subst IsByteList (sym cut) bytes)) (omega arith) (omega arith)
    (subst (λ t. length t < n + padding n) (sym cut) short))

some_bytes : (p : List ℕ) → are_zeros p ≡ false → 0 < length p
some_bytes [] e = absurd cc
some_bytes (x ∷ p) e = omega arith

stuck_body_at : (s : Schema) (leaf : List ℕ → Leaf) (p : Spot) (q k : ℕ) (bs bad tail : List ℕ) → IsSound s
    → IsByteList bs → length bs ≡ 4 * q + k → 0 < k → k < 4 → length bad ≡ padding (4 * q + k)
    → are_zeros bad ≡ false → (ks : List Job) → AreReady s ks →
    Stuck (Spells s (placed (Fixed leaf (4 * q + k)) p ∷ ks)) (Faulty s codes.BadPad)
    (bs ++ (bad ++ tail)) (4 * q)
stuck_body_at s leaf p q k bs bad tail sound bytes long pos less lenp not_zero ks ready =
    let cut : take (4 * q) bs ++ drop (4 * q) bs ≡ bs = take-append-drop (4 * q) bs in
    let lt' = length-take (4 * q) bs in
    let ld = length-drop (4 * q) bs in
    let all = stuck_body s leaf p ks q k (take (4 * q) bs) (drop (4 * q) bs) bad tail sound ready
    (IsByteList-left (take (4 * q) bs) (drop (4 * q) bs) (subst IsByteList (sym cut) bytes)) (omega arith)
    (omega arith) pos less lenp not_zero in
    let parts : take (4 * q) bs ++ ((drop (4 * q) bs ++ bad) ++ tail) ≡ bs ++ (bad ++ tail) =
    ap (λ t. take (4 * q) bs ++ t) (append_assoc (drop (4 * q) bs) bad tail)
    ∙ sym (append_assoc (take (4 * q) bs) (drop (4 * q) bs) (bad ++ tail))
    ∙ ap (λ t. t ++ (bad ++ tail)) cut in
    subst (λ t. Stuck (Spells s (placed (Fixed leaf (4 * q + k)) p ∷ ks)) (Faulty s codes.BadPad) t (4 * q))
    parts all

stuck_body_len : (s : Schema) (leaf : List ℕ → Leaf) (n : ℕ) (p : Spot) (bs bad tail : List ℕ) → IsSound s
    → IsByteList bs → length bs ≡ n → length bad ≡ padding n → are_zeros bad ≡ false → (q k : ℕ)
    → 4 * q + k ≡ n → 0 < k → k < 4 → (ks : List Job) → AreReady s ks →
    Stuck (Spells s (placed (Fixed leaf n) p ∷ ks)) (Faulty s codes.BadPad) (bs ++ (bad ++ tail)) (4 * q)
stuck_body_len s leaf n p bs bad tail sound bytes long lenp not_zero q k is pos less ks ready =
    subst (λ t. Stuck (Spells s (placed (Fixed leaf t) p ∷ ks)) (Faulty s codes.BadPad)
    (bs ++ (bad ++ tail)) (4 * q)) is
    (stuck_body_at s leaf p q k bs bad tail sound bytes (long ∙ sym is) pos less
    (lenp ∙ ap (λ t. padding t) (sym is)) not_zero ks ready)

pub body_refused : (s : Schema) (leaf : List ℕ → Leaf) (n : ℕ) (p : Spot) (m : List ℕ) (at : ℕ)
    (code : ReadCode) → IsSound s → IsByteList m → BodyFault n m at code → (ks : List Job) → AreReady s ks
    → Refused s (placed (Fixed leaf n) p ∷ ks) m at code
body_refused s leaf n p m at code sound bytes (cut_body c a short) ks ready =
    ends c (subst (λ t. Short (Spells s (placed (Fixed leaf n) p ∷ ks)) m t) (sym a)
    (short_body_at s leaf n p m sound bytes short ks ready))
body_refused s leaf n p m at code sound bytes (bad_pad bs bad tail cut long lenp not_zero place c) ks ready =
    let u = units_of n in
    let some = some_bytes bad not_zero in
    let pos : 0 < n % 4 = pad_left n (omega arith) in
    let fit = IsByteList-left bs (bad ++ tail) (subst IsByteList cut bytes) in
    let stuck = stuck_body_len s leaf n p bs bad tail sound fit long lenp not_zero (n / 4)
    (n % 4) u.0 pos u.1 ks ready in
    let at_is : at ≡ 4 * (n / 4) = omega arith in
    stops (subst (λ t. Stuck (Spells s (placed (Fixed leaf n) p ∷ ks)) (Faulty s t) m at) (sym c)
    (subst (λ t. Stuck (Spells s (placed (Fixed leaf n) p ∷ ks)) (Faulty s codes.BadPad) m t) (sym at_is)
    (subst (λ t. Stuck (Spells s (placed (Fixed leaf n) p ∷ ks)) (Faulty s codes.BadPad) t (4 * (n / 4)))
    (sym cut) stuck)))
