-- Values one behind another, and what stands behind the first word of a value.
use Rattle.std.proofs.Common.{lit<, ◌≡◌, ℕ, ◌+◌, ◌^◌, ◌<◌, List, [], ◌∷◌, ◌++◌, length, refl, sym, ◌∙◌, ap}
use Rattle.std.proofs.Common.{subst, append_assoc, arith}
use Rattle.std.specs.Prelude.{Option, Some, None}
use Rattle.std.proofs.lemmas.List.{length-append}
use Rattle.x_schema.specs.Schema.{Schema}
use Rattle.x_schema.specs.Sound.{IsSound}
use Rattle.x_value.specs.declared.fault.ReadCode.{ReadCode}
use Rattle.x_value.specs.Shown.{Node}
use Rattle.x_value.specs.Values.{Value, Values, body, group, headed, end, more, enc, encs}
use Rattle.x_units.specs.Units.{word}
use Rattle.x_value.specs.Layouts.{Layout, Spot, Job, placed, members, behind, head_fault, group_nodes}
use Rattle.x_value.specs.Layouts.{head_nodes}
use Rattle.x_value.specs.Readings.{IsGroup, IsHeaded, Fits, Suits, UnitRole, Head, roles, roles_each, nodes}
use Rattle.x_value.specs.Readings.{nodes_each}
use Rattle.x_value.specs.Language.{NotIn, Stuck, Short}
use Rattle.x_value.specs.Jobs.{Spells, AreReady, Faulty, Moves, HeadTaken, HeadFault, no_word, bad_word}
use Rattle.x_value.specs.Jobs.{Refused, ends, stops}
use Rattle.x_value.proofs.Bytes.{word_length, word_from, word_cancel}
use Rattle.x_value.proofs.Unique.{body_not_group, body_not_headed, group_not_headed}
use Rattle.x_value.proofs.Pieces.{Opens, begins_any, moves_of}

-- ---- groups

group_back : (s : Schema) (l : Layout) (p : Spot) (v : Value) → IsGroup l → Fits s l p v →
    (vs : Values) × Suits s (members s l p) vs × (enc v ≡ encs vs)
    × (roles s l p v ≡ roles_each s (members s l p) vs)
    × (nodes s l p v ≡ group_nodes l p ++ nodes_each s (members s l p) vs)
group_back s l p (group vs) g h = (vs, h.1, refl, refl, refl)
group_back s l p (body bs) g h = absurd (body_not_group l bs h g)
group_back s l p (headed w vs) g h = absurd (group_not_headed l g h.0)

opens_group : (s : Schema) (l : Layout) (p : Spot) → IsGroup l
    → Opens s l p (members s l p) [] [] (group_nodes l p)
opens_group s l p g =
    record { on = λ vs h. (group vs, (g, h), refl, refl, refl); back = λ v x y h e. group_back s l p v g h }

pub group_moves : (s : Schema) (l : Layout) (p : Spot) (m : List ℕ) → IsGroup l → (ks : List Job)
    → Moves s (placed l p ∷ ks) m (group_nodes l p) (members s l p ++ ks) m
group_moves s l p m g ks = moves_of s l p (members s l p) [] [] (group_nodes l p) m m (opens_group s l p g)
    refl refl ks

-- ---- words

head_is : (s : Schema) (l : Layout) (p : Spot) (u w : ℕ) (vs : Values) → Suits s (behind s l p u) vs → u ≡ w →
    (ws : Values) × Suits s (behind s l p w) ws × (enc (headed u vs) ≡ word w ++ encs ws)
    × (roles s l p (headed u vs) ≡ (Head l p.links ∷ []) ++ roles_each s (behind s l p w) ws)
    × (nodes s l p (headed u vs) ≡ head_nodes s l p w ++ nodes_each s (behind s l p w) ws)
head_is s l p u w vs h e = (
  vs,
  subst (λ t. Suits s (behind s l p t) vs) e h,
  ap (λ t. word t ++ encs vs) e,
  ap (λ t. Head l p.links ∷ roles_each s (behind s l p t) vs) e,
  ap (λ t. head_nodes s l p t ++ nodes_each s (behind s l p t) vs) e,
)

head_back : (s : Schema) (l : Layout) (p : Spot) (w : ℕ) (v : Value) (x y : List ℕ) → IsHeaded l → w < 2 ^ 32
    → Fits s l p v → enc v ++ y ≡ word w ++ x →
    (ws : Values) × Suits s (behind s l p w) ws × (enc v ≡ word w ++ encs ws)
    × (roles s l p v ≡ (Head l p.links ∷ []) ++ roles_each s (behind s l p w) ws)
    × (nodes s l p v ≡ head_nodes s l p w ++ nodes_each s (behind s l p w) ws)
head_back s l p w (group vs) x y g lt h e = absurd (group_not_headed l h.0 g)
head_back s l p w (body bs) x y g lt h e = absurd (body_not_headed l bs h g)
head_back s l p w (headed u vs) x y g lt h e = head_is s l p u w vs h.3
    (word_cancel u w (encs vs ++ y) x h.1 lt (sym (append_assoc (word u) (encs vs) y) ∙ e)).0

opens_head : (s : Schema) (l : Layout) (p : Spot) (w : ℕ) → IsHeaded l → w < 2 ^ 32 → head_fault s l p.links w
    ≡ None → Opens s l p (behind s l p w) (word w) (Head l p.links ∷ []) (head_nodes s l p w)
opens_head s l p w g lt fine = record {
  on = λ vs h. (headed w vs, (g, lt, fine, h), refl, refl, refl);
  back = λ v x y h e. head_back s l p w v x y g lt h e;
}

pub head_moves : (s : Schema) (l : Layout) (p : Spot) (m rest : List ℕ) (w : ℕ) → IsHeaded l
    → HeadTaken s l p.links m w rest → (ks : List Job)
    → Moves s (placed l p ∷ ks) m (head_nodes s l p w) (behind s l p w ++ ks) rest
head_moves s l p m rest w g t ks = moves_of s l p (behind s l p w) (word w) (Head l p.links ∷ [])
    (head_nodes s l p w) m rest (opens_head s l p w g t.fits t.fine) t.parts (word_length w) ks

-- ---- a word that may not stand there, and bytes that end too early

pub record Front (s : Schema) (j : Job) (x : List ℕ) (z : List UnitRole) : Type 0 where
  pub first : ℕ
  pub rest : List ℕ
  pub told : List UnitRole
  pub fits : first < 2 ^ 32
  pub fine : head_fault s j.layout j.spot.links first ≡ None
  pub bytes : x ≡ word first ++ rest
  pub tells : z ≡ Head j.layout j.spot.links ∷ told

front_at : (s : Schema) (j : Job) (ks : List Job) (vs : Values) (x : List ℕ) (z : List UnitRole)
    → IsHeaded j.layout → Suits s (j ∷ ks) vs → x ≡ encs vs → z ≡ roles_each s (j ∷ ks) vs → Front s j x z
front_at s j ks end x z g h e t = absurd h
front_at s j ks (more (body bs) ws) x z g h e t = absurd (body_not_headed j.layout bs h.0 g)
front_at s j ks (more (group vs) ws) x z g h e t = absurd (group_not_headed j.layout h.0.0 g)
front_at s j ks (more (headed w vs) ws) x z g h e t = record {
  first = w;
  rest = encs vs ++ encs ws;
  told = roles_each s (behind s j.layout j.spot w) vs ++ roles_each s ks ws;
  fits = h.0.1;
  fine = h.0.2;
  bytes = e ∙ append_assoc (word w) (encs vs) (encs ws);
  tells = t;
}

front_of : (s : Schema) (j : Job) (ks : List Job) (x : List ℕ) (z : List UnitRole) (n : List Node)
    → IsHeaded j.layout → Spells s (j ∷ ks) x z n → Front s j x z
front_of s j ks x z n g h = front_at s j ks h.values x z g h.suits h.bytes h.told

not_nothing : (s : Schema) (j : Job) (ks : List Job) → IsHeaded j.layout → (x : List ℕ) → length x < 4
    → NotIn (Spells s (j ∷ ks)) x
not_nothing s j ks g x lt z n h =
    let f = front_of s j ks x z n g h in
    let e : length x ≡ length (word f.first) + length f.rest = ap length f.bytes
    ∙ length-append (word f.first) f.rest in
    let four = word_length f.first in
    omega arith

abbrev no_code : Option ReadCode
no_code = None

abbrev some_code : ReadCode → Option ReadCode
some_code c = Some c

some_none : (c : ReadCode) → some_code c ≡ no_code → ⊥
some_none c e = cc

stuck_word : (s : Schema) (j : Job) (ks : List Job) (w : ℕ) (rest : List ℕ) (c : ReadCode) → IsSound s
    → AreReady s (j ∷ ks) → IsHeaded j.layout → w < 2 ^ 32 → head_fault s j.layout j.spot.links w ≡ Some c
    → Stuck (Spells s (j ∷ ks)) (Faulty s c) (word w ++ rest) 0
stuck_word s j ks w rest c sound ready g lt fault = record {
  front = [];
  unit = word w;
  rest = rest;
  parts = refl;
  place = refl;
  wide = word_length w;
  begun = begins_any s (j ∷ ks) sound ready;
  unfinished = not_nothing s j ks g [] (lit< tt);
  ended = λ x z n h.
      let f = front_of s j ks (word w ++ x) z n g h in
      let c' = word_cancel w f.first x f.rest lt f.fits f.bytes in
      some_none c (sym fault ∙ ap (λ t. head_fault s j.layout j.spot.links t) c'.0 ∙ f.fine);
  cause = λ x z n h.
      let f = front_of s j ks x z n g h in (
        [],
        Head j.layout j.spot.links,
        f.told,
        f.tells,
        refl,
        ap (λ t. head_fault s j.layout j.spot.links t) (word_from w lt) ∙ fault,
      );
}

short_word : (s : Schema) (j : Job) (ks : List Job) (m : List ℕ) → IsSound s → AreReady s (j ∷ ks)
    → IsHeaded j.layout → length m < 4 → Short (Spells s (j ∷ ks)) m (length m)
short_word s j ks m sound ready g lt = record {
  front = [];
  tail = m;
  parts = refl;
  place = refl;
  begun = begins_any s (j ∷ ks) sound ready;
  units = 0;
  whole = refl;
  part = lt;
  unfinished = not_nothing s j ks g [] (lit< tt);
}

pub head_refused : (s : Schema) (l : Layout) (p : Spot) (m : List ℕ) (at : ℕ) (code : ReadCode) → IsSound s
    → IsHeaded l → HeadFault s l p.links m at code → (ks : List Job) → AreReady s (placed l p ∷ ks)
    → Refused s (placed l p ∷ ks) m at code
head_refused s l p m at code sound g (no_word c a short) ks ready =
    ends c (subst (λ t. Short (Spells s (placed l p ∷ ks)) m t) (sym a)
    (short_word s (placed l p) ks m sound ready g short))
head_refused s l p m at code sound g (bad_word w rest parts fits a fault) ks ready =
    stops (subst (λ t. Stuck (Spells s (placed l p ∷ ks)) (Faulty s code) m t) (sym a)
    (subst (λ t. Stuck (Spells s (placed l p ∷ ks)) (Faulty s code) t 0) (sym parts)
    (stuck_word s (placed l p) ks w rest code sound ready g fits fault)))
