-- Bytes have one fault at the most.
use Rattle.std.proofs.Common.{◌≡◌, ℕ, ◌+◌, ◌*◌, ◌<◌, ◌≤◌, List, ◌∷◌, ◌++◌, length, sym, ◌∙◌, ap, append_assoc}
use Rattle.std.proofs.Common.{arith, inl, inr}
use Rattle.std.specs.Prelude.{Option, Some}
use Rattle.std.proofs.lemmas.List.{length-append}
use Rattle.std.proofs.lemmas.Bool.{cases_lt}
use Rattle.x_value.specs.declared.fault.ReadCode.{ReadCode}
use Rattle.x_value.proofs.Fronts.{cut_longer, cut_same}
use Rattle.x_wire.specs.Headers.{header_fields, header_bytes}
use Rattle.x_wire.specs.HeaderFaults.{UnitKind, unit_fault, BeginsHeader, HasBytesBehind, IsBadHeaderUnit}
use Rattle.x_wire.specs.HeaderFaults.{IsCutHeader, IsHeaderFault, trailing, bad_unit, cut_short}
use Rattle.x_wire.proofs.Forms.{one_path}
use Rattle.x_wire.proofs.HeaderLemmas.{header_path}
use Rattle.x_wire.specs.HeaderForms.{header_form}

begins_front : (a b c : List ℕ) → b ≡ a ++ c → BeginsHeader b → BeginsHeader a
begins_front a b c e k = (c ++ k.0, k.1, k.2, sym (append_assoc a c k.0) ∙ ap (λ t. t ++ k.0) (sym e) ∙ k.3)

aligned : (bytes : List ℕ) (at : ℕ) (code : ReadCode) → (k : IsBadHeaderUnit bytes at code)
    → (n : ℕ) × (length k.front ≡ 4 * n)
aligned bytes at code k =
    let why = k.cause k.begins.1 k.begins.0 k.begins.2 k.begins.3 in (length why.0, why.4)

units_apart : (x y i j : ℕ) → x ≡ 4 * i → y ≡ 4 * j → x < y → x + 4 ≤ y
units_apart x y i j e f lt = omega arith

-- nothing longer than the front of a bad unit begins a header
not_behind : (bytes : List ℕ) (at n : ℕ) (code : ReadCode) (front rest : List ℕ)
    → (k : IsBadHeaderUnit bytes at code) → bytes ≡ front ++ rest → length front ≡ 4 * n → BeginsHeader front
    → length k.front < length front → ⊥
not_behind bytes at n code front rest k e even begins lt =
    let one = aligned bytes at code k in
    let long : length (k.front ++ k.unit) ≤ length front =
    (let l = length-append k.front k.unit in let w = k.wide in
    let a = units_apart (length k.front) (length front) one.0 n one.1 even lt in omega arith) in
    let c = cut_longer (k.front ++ k.unit) k.rest front rest (append_assoc k.front k.unit k.rest ∙ sym k.parts
    ∙ e) long in
    k.ended (begins_front (k.front ++ k.unit) front c.0 c.1 begins)

not_shorter : (bytes : List ℕ) (at at' : ℕ) (code code' : ReadCode) → (x : IsBadHeaderUnit bytes at code)
    → (y : IsBadHeaderUnit bytes at' code') → length x.front < length y.front → ⊥
not_shorter bytes at at' code code' x y lt =
    let two = aligned bytes at' code' y in
    not_behind bytes at two.0 code y.front (y.unit ++ y.rest) x y.parts two.1 y.begins lt

same_kind : (k l : UnitKind) (xs ys : List UnitKind) → k ∷ xs ≡ l ∷ ys → k ≡ l
same_kind k l xs ys e = cc

same_code : (c d : ReadCode) (x : Option ReadCode) → x ≡ Some c → x ≡ Some d → c ≡ d
same_code c d x e f = cc

bad_same : (bytes : List ℕ) (at at' : ℕ) (code code' : ReadCode) → (x : IsBadHeaderUnit bytes at code)
    → (y : IsBadHeaderUnit bytes at' code') → length x.front ≡ length y.front → (at ≡ at') × (code ≡ code')
bad_same bytes at at' code code' x y same =
    let c = cut_same x.front (x.unit ++ x.rest) y.front (y.unit ++ y.rest) (sym x.parts ∙ y.parts) same in
    let d = cut_same x.unit x.rest y.unit y.rest c.1 (x.wide ∙ sym y.wide) in
    let a = x.cause x.begins.1 x.begins.0 x.begins.2 x.begins.3 in
    let b = y.cause x.begins.1 x.begins.0 x.begins.2 (ap (λ t. t ++ x.begins.0) (sym c.0) ∙ x.begins.3) in
    let la : length x.front ≡ 4 * length a.0 = a.4 in
    let lb : length y.front ≡ 4 * length b.0 = b.4 in
    let kinds = cut_same a.0 (a.1 ∷ a.2) b.0 (b.1 ∷ b.2) (sym a.3 ∙ b.3) (omega arith) in
    let kind : a.1 ≡ b.1 = same_kind a.1 b.1 a.2 b.2 kinds.1 in
    let fault : unit_fault a.1 x.unit ≡ Some code' = ap (λ t. unit_fault t x.unit) kind
    ∙ ap (λ t. unit_fault b.1 t) d.0 ∙ b.5 in
    (x.place ∙ same ∙ sym y.place, same_code code code' (unit_fault a.1 x.unit) a.5 fault)

bad_bad : (bytes : List ℕ) (at at' : ℕ) (code code' : ReadCode) → IsBadHeaderUnit bytes at code
    → IsBadHeaderUnit bytes at' code' → (at ≡ at') × (code ≡ code')
bad_bad bytes at at' code code' x y =
    elim (cases_lt (length x.front) (length y.front)) [
      | inl lt ↦ absurd (not_shorter bytes at at' code code' x y lt)
      | inr le ↦ elim (cases_lt (length y.front) (length x.front)) [
        | inl lt ↦ absurd (not_shorter bytes at' at code' code y x lt)
        | inr more ↦ bad_same bytes at at' code code' x y (omega arith)
      ]
    ]

bad_cut : (bytes : List ℕ) (at at' : ℕ) (code : ReadCode) → IsBadHeaderUnit bytes at code
    → IsCutHeader bytes at' → ⊥
bad_cut bytes at at' code x y =
    elim (cases_lt (length x.front) (length y.front)) [
      | inl lt ↦ not_behind bytes at y.units code y.front y.tail x y.parts y.whole y.begins lt
      | inr le ↦ (
          let one : length bytes ≡ length x.front + length (x.unit ++ x.rest) = ap length x.parts
          ∙ length-append x.front (x.unit ++ x.rest) in
          let two : length bytes ≡ length y.front + length y.tail = ap length y.parts
          ∙ length-append y.front y.tail in
          let l = length-append x.unit x.rest in let w = x.wide in let p = y.part in omega arith)
    ]

behind_same : (bytes : List ℕ) (at at' : ℕ) → HasBytesBehind bytes at → HasBytesBehind bytes at' → at ≡ at'
behind_same bytes at at' x y =
    let one = one_path header_form (header_fields x.header) (header_fields y.header) x.header y.header x.more
    y.more (header_path x.header x.fits) (header_path y.header y.fits) (sym x.parts ∙ y.parts) in
    x.place ∙ ap (λ t. length (header_bytes t)) one.0 ∙ sym y.place

pub one_fault_lem : (bytes : List ℕ) (at at' : ℕ) (code code' : ReadCode) → IsHeaderFault bytes at code
    → IsHeaderFault bytes at' code' → (at ≡ at') × (code ≡ code')
one_fault_lem bytes at at' code code' (trailing c x) (trailing d y) =
    (behind_same bytes at at' x y, c ∙ sym d)
one_fault_lem bytes at at' code code' (trailing c x) (bad_unit y) =
    absurd (y.none x.header x.more x.fits x.parts)
one_fault_lem bytes at at' code code' (trailing c x) (cut_short d y) =
    absurd (y.none x.header x.more x.fits x.parts)
one_fault_lem bytes at at' code code' (bad_unit x) (trailing d y) =
    absurd (x.none y.header y.more y.fits y.parts)
one_fault_lem bytes at at' code code' (bad_unit x) (bad_unit y) = bad_bad bytes at at' code code' x y
one_fault_lem bytes at at' code code' (bad_unit x) (cut_short d y) = absurd (bad_cut bytes at at' code x y)
one_fault_lem bytes at at' code code' (cut_short c x) (trailing d y) =
    absurd (x.none y.header y.more y.fits y.parts)
one_fault_lem bytes at at' code code' (cut_short c x) (bad_unit y) = absurd (bad_cut bytes at' at code' y x)
one_fault_lem bytes at at' code code' (cut_short c x) (cut_short d y) = (x.place ∙ sym y.place, c ∙ sym d)
