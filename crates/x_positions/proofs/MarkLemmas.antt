-- Marks of a text, and how they follow an edit.
use Rattle.std.proofs.Common.{◌≡◌, ℕ, ◌+◌, ◌-◌, ◌<◌, ◌≤◌, List, ◌++◌, length, take, drop, min, arith, refl}
use Rattle.std.proofs.Common.{sym, ap, subst, ◌∙◌, ◌⊎◌, inl, inr}
use Rattle.std.specs.Prelude.{All}
use Rattle.std.proofs.lemmas.List.{length-drop, length-take, length-append, drop-drop, take-append-le}
use Rattle.std.proofs.lemmas.List.{take-take}
use Rattle.std.proofs.lemmas.List.Elements.{All-weaker}
use Rattle.std.proofs.Math.Seq.{drop-append-add}
use Rattle.x_text.specs.declared.text.edit.Edit.{Edit}
use Rattle.x_positions.specs.declared.encoding.Encoding.{Encoding}
use Rattle.x_positions.specs.declared.positions.Position.{Position}
use Rattle.x_positions.specs.declared.spots.Spot.{Spot}
use Rattle.x_positions.specs.declared.waymarks.Waymark.{Waymark}
use Rattle.x_positions.specs.Positions.{position_of}
use Rattle.x_positions.specs.Waymarks.{HasMoved, IsAt, IsLeft, IsWaymark}
use Rattle.x_positions.proofs.LineLemmas.{drop_all, position}
use Rattle.x_positions.proofs.WalkLemmas.{IsShift, is_shifted, position_on, same_position, walked}
use Rattle.x_positions.proofs.WalkLemmas.{walked_none}

-- a place past the end has the position of the end
pub clamped : (e : Encoding) (text : List ℕ) (at n : ℕ) → n ≡ min at (length text)
    → position_of e text n ≡ position_of e text at
clamped e text at n is = go (either at (length text))
  where
    either : (a c : ℕ) → (a ≤ c) ⊎ (c < a)
    either a c = grind arith

    go : (at ≤ length text) ⊎ (length text < at) → position_of e text n ≡ position_of e text at
    go (inl le) = ap (position_of e text) (let same : n ≡ at = omega arith in same)
    go (inr lt) =
        let end : n ≡ length text = omega arith in
        let k = at - length text in
        let place : length text + k ≡ at = omega arith in
        ap (position_of e text) end
        ∙ sym (position_on e text (length text) k ∙ ap (λ l. walked e l k (position_of e text (length text)))
        (drop_all text) ∙ walked_none e k (position_of e text (length text)))
        ∙ ap (position_of e text) place

-- ---- what moves with the bytes behind an edit

-- a place and its position, and what it was before
pub record IsThere (e : Encoding) (text : List ℕ) (from to spot : Spot) (there : Position) : Type 0 where
  pub is_at : IsAt e text (to.at + (spot.at - from.at)) there
  pub shift : IsShift from.position to.position spot.position there

pub has_moved : (e : Encoding) (text old : List ℕ) (from to spot : Spot) → HasMoved e text old from to
    → IsAt e old spot.at spot.position → from.at ≤ spot.at
    → IsThere e text from to spot (position_of e text (to.at + (spot.at - from.at)))
has_moved e text old from to spot h is le =
    let n = spot.at - from.at in
    let place : from.at + n ≡ spot.at = omega arith in
    let sizes = ap length h.same in
    let old_size = length-drop from.at old in
    let size = length-drop to.at text in
    let within = is.within in
    let room = h.to_at.within in
    record {
      is_at = record { within = omega (arith, sizes, old_size, size, within, room); position_is = refl };
      shift = is_shifted e old text from.at to.at n from.position to.position spot.position h.from_at
          h.to_at h.same
          (subst (λ k. IsAt e old k spot.position) (sym place) is);
    }

-- the position of what moved
pub moved_in_line : (p p' q r : Position) → IsShift p p' q r → q.line - p.line ≡ 0
    → position (p'.line + (q.line - p.line)) (p'.character + (q.character - p.character)) ≡ r
moved_in_line p p' q r h none =
    let onward = h.onward in
    let lines = h.lines in
    let line : q.line ≡ p.line = omega (arith, onward, none) in
    let le = (h.same line).0 in
    let equal = (h.same line).1 in
    let line_is : p'.line + (q.line - p.line) ≡ r.line = omega (arith, onward, lines) in
    let character_is : p'.character + (q.character - p.character) ≡ r.character = omega (arith, le, equal) in
    λ i. position (line_is i) (character_is i)

pub moved_behind : (p p' q r : Position) → IsShift p p' q r → (q.line - p.line ≡ 0 → ⊥)
    → position (p'.line + (q.line - p.line)) q.character ≡ r
moved_behind p p' q r h some =
    let onward = h.onward in
    let lines = h.lines in
    let later : p.line < q.line = omega (arith, onward, some) in
    let equal = h.later later in
    let line_is : p'.line + (q.line - p.line) ≡ r.line = omega (arith, onward, lines) in
    λ i. position (line_is i) (sym equal i)

-- ---- what an edit leaves

-- marks before the edit stay
pub stay : (e : Encoding) (marks : List Waymark) (edit : Edit) (text : List ℕ) → IsLeft e marks edit text
    → All (λ mark. mark.at < edit.start → IsWaymark e text mark) marks
stay e marks edit text h =
    All-weaker (IsWaymark e h.old) (λ mark. mark.at < edit.start → IsWaymark e text mark) one marks h.marked
  where
    front : List ℕ
    front = take edit.start h.old

    one : (mark : Waymark) → IsWaymark e h.old mark → mark.at < edit.start → IsWaymark e text mark
    one mark is lt =
        let forward = h.lies_within.forward in
        let room = h.lies_within.within in
        let size = length-take edit.start h.old in
        let size_all = ap length h.text_is ∙ length-append (front ++ edit.insert.now) (drop edit.end h.old) in
        let size_front = length-append front edit.insert.now in
        let whole : length front ≡ edit.start = omega (arith, size, forward, room) in
        let same : take edit.start h.old ≡ take edit.start text =
        sym (ap (take edit.start) h.text_is ∙ take-append-le edit.start (front ++ edit.insert.now)
        (drop edit.end h.old) (omega (arith, size_front, whole))
        ∙ take-append-le edit.start front edit.insert.now (omega (arith, whole))
        ∙ take-take edit.start edit.start h.old (omega arith)) in
        record {
          within = omega (arith, forward, room, size, size_all, size_front, lt);
          position_is = sym (same_position e h.old text mark.at edit.start lt same) ∙ is.position_is;
        }

-- the same of a marker, which has the text and the encoding
pub stay_in : (e v : Encoding) (marks : List Waymark) (edit : Edit) (text t : List ℕ) → v ≡ e → t ≡ text
    → IsLeft e marks edit text → All (λ mark. mark.at < edit.start → IsWaymark v t mark) marks
stay_in e v marks edit text t encoding same h =
    subst (λ x. All (λ mark. mark.at < edit.start → IsWaymark x t mark) marks) (sym encoding)
    (subst (λ l. All (λ mark. mark.at < edit.start → IsWaymark e l mark) marks) (sym same)
    (stay e marks edit text h))

-- what stood behind the edit stands behind it
pub behind_edit : (e : Encoding) (marks : List Waymark) (edit : Edit) (text : List ℕ) (at : ℕ)
    → (h : IsLeft e marks edit text) → edit.end ≤ at
    → drop at h.old ≡ drop (edit.start + length edit.insert.now + (at - edit.end)) text
behind_edit e marks edit text at h le =
    let front = take edit.start h.old in
    let rest = drop edit.end h.old in
    let k = at - edit.end in
    let forward = h.lies_within.forward in
    let room = h.lies_within.within in
    let size = length-take edit.start h.old in
    let size_front = length-append front edit.insert.now in
    let place : edit.start + length edit.insert.now + k ≡ length (front ++ edit.insert.now) + k =
    omega (arith, forward, room, size, size_front) in
    let all : edit.end + k ≡ at = omega arith in
    sym (ap (λ n. drop n text) place ∙ ap (drop (length (front ++ edit.insert.now) + k)) h.text_is
    ∙ drop-append-add (front ++ edit.insert.now) rest k
    ∙ drop-drop k edit.end h.old ∙ ap (λ n. drop n h.old) all)

pub left_size : (e : Encoding) (marks : List Waymark) (edit : Edit) (text : List ℕ)
    → (h : IsLeft e marks edit text)
    → length text + edit.end ≡ edit.start + length edit.insert.now + length h.old
left_size e marks edit text h =
    let front = take edit.start h.old in
    let forward = h.lies_within.forward in
    let room = h.lies_within.within in
    let size = length-take edit.start h.old in
    let size_all = ap length h.text_is ∙ length-append (front ++ edit.insert.now) (drop edit.end h.old) in
    let size_front = length-append front edit.insert.now in
    let size_rest = length-drop edit.end h.old in
    omega (arith, forward, room, size, size_all, size_front, size_rest)

-- and is a place of the text
pub left_within : (e : Encoding) (marks : List Waymark) (edit : Edit) (text : List ℕ) (at : ℕ) (p : Position)
    → (h : IsLeft e marks edit text) → edit.end ≤ at → IsAt e h.old at p
    → edit.start + length edit.insert.now + (at - edit.end) ≤ length text
left_within e marks edit text at p h le is =
    let sizes = left_size e marks edit text h in
    let within = is.within in
    omega (arith, sizes, within, le)
