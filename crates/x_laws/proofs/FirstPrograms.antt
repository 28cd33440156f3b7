-- Each procedure of a program of a text without a fault is in a schema, where no program before it has its
-- number.
use Rattle.std.proofs.Common.{◌≡◌, ◌<◌, ◌⊎◌, inl, inr, ℕ, zero, suc, List, [], ◌∷◌, ◌++◌, Option, None, Some}
use Rattle.std.proofs.Common.{refl, sym, ap, ◌∙◌, arith}
use Rattle.std.specs.Prelude.{slice_get}
use Rattle.std.specs.List.{IsAmong, flat_map}
use Rattle.std.proofs.lemmas.Grind.{flat_map-append}
use Rattle.std.proofs.lemmas.List.{append_assoc}
use Rattle.std.proofs.lemmas.Option.{same_Some}
use Rattle.x_trees.specs.Tree as tree
use Rattle.x_trees.specs.Tree.{Definition}
use Rattle.x_trees.proofs.AmongLemmas.{Parted, among_cases, among_none, among_parted, among_parts}
use Rattle.x_rules.proofs.FamilyLemmas.{among_flat as among_pieces}
use Rattle.x_rules.specs.Results.{AreResults, Outcome, no_names}
use Rattle.x_schema.specs.ProceduresOf.{Numbered, numbers_by, procedures_declared}
use Rattle.x_schema.specs.ProceduresOf.{procedures_in, word_spelled}
use Rattle.x_schema.specs.Schema.{Schema}
use Rattle.x_schema.specs.Schemas.{IsSchemaOf}
use Rattle.x_schema.specs.declared.procedure.ProcedureNumbers.{ProcedureNumbers}
use Rattle.x_laws.specs.Meant.{AreFaultless, HasProcedure, IsFirstOfNumbers, IsFirstProgram, IsProgramAt}
use Rattle.x_laws.proofs.EachProcedure.{among_flat, among_mapped, first_of_numbers, numbers_have}
use Rattle.x_laws.proofs.GoodNumbers.{IsFine}
use Rattle.x_laws.proofs.OnceNumbered.{among_map, numbers_of_one, once}

-- what stands in a list at a place, and the places of those before it
record IsSplit {X : Type 0} (xs : List X) (i : ℕ) (x : X) : Type 0 where
  before : List X
  behind : List X
  parts : xs ≡ before ++ x ∷ behind
  places : (y : X) → IsAmong before y → (j : ℕ) × (j < i) × (slice_get xs j ≡ Some y)

split : {X : Type 0} (xs : List X) (i : ℕ) (x : X) → slice_get xs i ≡ Some x → IsSplit xs i x
split [] i x e = absurd cc
split (y ∷ ys) zero x e = record {
  before = [];
  behind = ys;
  parts = ap (λ z. z ∷ ys) (same_Some y x e);
  places = λ z k. absurd (among_none z k);
}
split {X} (y ∷ ys) (suc i) x e =
    let s = split ys i x e in
    record {
      before = y ∷ s.before;
      behind = s.behind;
      parts = ap (λ l. y ∷ l) s.parts;
      places = λ z k. by s.before z s.places (among_cases y z s.before k);
    }
  where
    by : (before : List X) (z : X)
        → ((w : X) → IsAmong before w → (j : ℕ) × (j < i) × (slice_get ys j ≡ Some w))
        → (z ≡ y) ⊎ IsAmong before z → (j : ℕ) × (j < suc i) × (slice_get (y ∷ ys) j ≡ Some z)
    by before z next (inl same) = (0, omega arith, ap Some (sym same))
    by before z next (inr k) = let r = next z k in let lt = r.1 in (suc r.0, omega (arith, lt), r.2)

-- the program that a procedure is declared in
program_of : (d : Definition) (q : Numbered) → IsAmong (procedures_declared (Some d)) q
    → (name : List ℕ) × (versions : List tree.Version) × (d ≡ tree.Program name versions q.program)
program_of (tree.Const name value) q k = absurd (among_none q k)
program_of (tree.Typedef d) q k = absurd (among_none q k)
program_of (tree.NewType name body) q k = absurd (among_none q k)
program_of (tree.Program name versions number) q k =
    let v = among_flat (procedures_in number) versions q k in
    let p =
    among_mapped (λ p. record { program = number; version = v.0.number; procedure = p }) v.0.procedures q v.2
    in (name, versions, ap (tree.Program name versions) (sym (ap (λ y. y.program) p.2)))

first_numbers : (definitions : List (Option Definition)) (results : List (Option Outcome))
    → AreResults no_names definitions results → AreFaultless results → (item : ℕ)
    (versions : List tree.Version) (number : List ℕ) → IsFirstProgram definitions item versions number
    → (q : Numbered) → IsAmong (flat_map (procedures_in number) versions) q → (numbers : ProcedureNumbers)
    → q.program ≡ number → numbers_by q ≡ Some numbers → IsFirstOfNumbers definitions q numbers
first_numbers definitions results are fine item versions number first q among numbers own is = record {
  front = flat_map procedures_declared at.before ++ part.front;
  rear = part.rear ++ flat_map procedures_declared at.behind;
  parts =
      ap (flat_map procedures_declared) at.parts
      ∙ flat_map-append procedures_declared at.before (Some d ∷ at.behind)
      ∙ ap (λ l. flat_map procedures_declared at.before ++ (l ++ flat_map procedures_declared at.behind))
      part.parts
      ∙ ap (λ l. flat_map procedures_declared at.before ++ l)
      (append_assoc part.front (q ∷ part.rear) (flat_map procedures_declared at.behind))
      ∙ sym (append_assoc (flat_map procedures_declared at.before) part.front
      (q ∷ (part.rear ++ flat_map procedures_declared at.behind)));
  numbers_are = is;
  none_before = λ r k same.
      by r same (among_parts (flat_map procedures_declared at.before) part.front r k);
}
  where
    d : Definition
    d = tree.Program first.is_program.name versions number

    at : IsSplit definitions item (Some d)
    at = split definitions item (Some d) first.is_program.item_is

    part : Parted (flat_map (procedures_in number) versions) q
    part = among_parted (flat_map (procedures_in number) versions) q among

    of_item : (o : Option Definition) (r : Numbered) (j : ℕ) → j < item → slice_get definitions j ≡ Some o
        → IsAmong (procedures_declared o) r → numbers_by r ≡ Some numbers → ⊥
    of_item None r j lt there has same = among_none r has
    of_item (Some e) r j lt there has same =
        let p = program_of e r has in
        let earlier : IsProgramAt definitions j p.1 r.program =
        record { name = p.0; item_is = there ∙ ap (λ x. Some (Some x)) p.2 } in
        let theirs = numbers_of_one r numbers same in
        let ours = numbers_of_one q numbers is in
        first.none_before j p.1 r.program lt earlier
        (theirs.program_is ∙ sym ours.program_is ∙ ap word_spelled own)

    by : (r : Numbered) → numbers_by r ≡ Some numbers
        → IsAmong (flat_map procedures_declared at.before) r ⊎ IsAmong part.front r → ⊥
    by r same (inl k) =
        let o = among_flat procedures_declared at.before r k in
        let place = at.places o.0 o.1 in
        of_item o.0 r place.0 place.1 place.2 o.2 same
    by r same (inr k) =
        once definitions results are fine item versions number first.is_program part.front part.rear q
        part.parts r k (same ∙ sym is)

pub first_program : (definitions : List (Option Definition)) (results : List (Option Outcome)) (s : Schema)
    → AreResults no_names definitions results → AreFaultless results → IsSchemaOf definitions s → (item : ℕ)
    (versions : List tree.Version) (number : List ℕ) → IsFirstProgram definitions item versions number
    → (v : tree.Version) → IsAmong versions v → (p : tree.Procedure) → IsAmong v.procedures p
    → (numbers : ProcedureNumbers)
    × (numbers_by (record { program = number; version = v.number; procedure = p }) ≡ Some numbers)
    × HasProcedure s numbers p
first_program definitions results s are fine h item versions number first v has p among =
    let d = tree.Program first.is_program.name versions number in
    let good : IsFine definitions results item d =
    record { are = are; fine = fine; there = first.is_program.item_is } in
    let q : Numbered = record { program = number; version = v.number; procedure = p } in
    let in_version =
    among_map (λ x. record { program = number; version = v.number; procedure = x }) v.procedures p among in
    let declared = among_pieces (procedures_in number) versions v q has in_version in
    let n = numbers_have definitions results item d q good declared in (
      n.0,
      n.1,
      first_of_numbers definitions s h q n.0
          (first_numbers definitions results are fine item versions number first q declared n.0 refl n.1),
    )
