-- In a text without a fault no two versions of a program have one number, and no two procedures of a version.
use Rattle.std.proofs.Common.{◌≡◌, ◌^◌, ◌⊎◌, inl, inr, ℕ, ◌+◌, ℤ, pos, negsuc, Bool, true}
use Rattle.std.proofs.Common.{false, cond, map, List, [], ◌∷◌, ◌++◌, Option, None, Some, refl, sym, ap, subst}
use Rattle.std.proofs.Common.{◌∙◌, length}
use Rattle.std.specs.Prelude.{nat_lt, option_and_then}
use Rattle.std.specs.List.{IsAmong, flat_map}
use Rattle.std.proofs.lemmas.List.{append_assoc, map-append}
use Rattle.std.proofs.lemmas.Option.{same_Some}
use Rattle.x_trees.specs.Tree as tree
use Rattle.x_trees.specs.Tree.{Definition}
use Rattle.x_trees.specs.Gloss.{ProcedureNumber, VersionNumber}
use Rattle.x_trees.specs.Spell.{spell_procedure}
use Rattle.x_trees.proofs.AmongLemmas.{among_cases, among_first, among_front, among_more, among_none}
use Rattle.x_trees.proofs.AmongLemmas.{among_parts, among_rear, among_same}
use Rattle.x_numbers.specs.Numbers.{number_spelled}
use Rattle.x_outline.specs.Bodies.{Members, behind_version, members, procedure_lists}
use Rattle.x_outline.specs.Bodies.{procedures_from, versions_from}
use Rattle.x_rules.specs.Results.{AreResults, Outcome, no_names}
use Rattle.x_rules.specs.declared.fault.RuleCode.TheVariants as rule_codes
use Rattle.x_schema.specs.ProceduresOf.{Numbered, numbers_by, numbers_from, procedures_in, word_spelled}
use Rattle.x_schema.specs.SchemaOf.{unsigned_word}
use Rattle.x_schema.specs.declared.procedure.ProcedureNumbers.{ProcedureNumbers}
use Rattle.x_laws.specs.Meant.{AreFaultless, IsProgramAt, NoneTwice}
use Rattle.x_laws.proofs.EachProcedure.{among_flat, among_mapped, in_procedures, in_program, in_version}
use Rattle.x_laws.proofs.EachProcedure.{in_versions, number_has, numbered, numbers_have, there}
use Rattle.x_laws.proofs.GoodNumbers.{IsFine, no_fault}

-- ---- lists

pub same_head : {X : Type 0} {x y : X} {xs ys : List X} → x ∷ xs ≡ y ∷ ys → x ≡ y
same_head e = cc

pub same_tail : {X : Type 0} {x y : X} {xs ys : List X} → x ∷ xs ≡ y ∷ ys → xs ≡ ys
same_tail e = cc

both : {X : Type 0} {x y : X} {xs ys : List X} → x ≡ y → xs ≡ ys → x ∷ xs ≡ y ∷ ys
both {y} {xs} h t = ap (λ z. z ∷ xs) h ∙ ap (λ zs. y ∷ zs) t

-- the list has one of which this is told, behind those of which these are
record IsToldOf {X Y : Type 0} (told : X → Y) (xs : List X) (before : List Y) (one : Y) : Type 0 where
  front : List X
  here : X
  rear : List X
  parts : xs ≡ front ++ here ∷ rear
  here_is : told here ≡ one
  front_is : map told front ≡ before

told_of : {X Y : Type 0} (told : X → Y) (xs : List X) (before behind : List Y) (one : Y)
    → map told xs ≡ before ++ one ∷ behind → IsToldOf told xs before one
told_of told [] [] behind one e = absurd cc
told_of told [] (y ∷ before) behind one e = absurd cc
told_of told (x ∷ xs) [] behind one e =
    record { front = []; here = x; rear = xs; parts = refl; here_is = same_head e; front_is = refl }
told_of told (x ∷ xs) (y ∷ before) behind one e =
    let r = told_of told xs before behind one (same_tail e) in
    record {
      front = x ∷ r.front;
      here = r.here;
      rear = r.rear;
      parts = ap (λ l. x ∷ l) r.parts;
      here_is = r.here_is;
      front_is = both (same_head e) r.front_is;
    }

pub among_map : {X Y : Type 0} (f : X → Y) (xs : List X) (x : X) → IsAmong xs x → IsAmong (map f xs) (f x)
among_map f [] x k = absurd (among_none x k)
among_map {X} f (y ∷ ys) x k = by (among_cases y x ys k) (λ r. among_map f ys x r)
  where
    by : (x ≡ y) ⊎ IsAmong ys x → (IsAmong ys x → IsAmong (map f ys) (f x)) → IsAmong (f y ∷ map f ys) (f x)
    by (inl e) next = among_same (f y) (f x) (map f ys) (ap f (sym e))
    by (inr r) next = among_more (f y) (f x) (map f ys) (next r)

-- ---- numbers of 32 bits

word_number : (z : ℤ) (n : ℕ) → unsigned_word z ≡ Some n → z ≡ pos n
word_number (pos m) n e = by (nat_lt m (2 ^ 32)) e
  where
    by : (b : Bool) → cond b (Some m) None ≡ Some n → pos m ≡ pos n
    by true k = ap pos (same_Some m n k)
    by false k = absurd cc
word_number (negsuc m) n e = absurd cc

spelled_number : (text : List ℕ) (n : ℕ) → word_spelled text ≡ Some n → number_spelled text ≡ Some (pos n)
spelled_number text n e = by (number_spelled text) e
  where
    by : (o : Option ℤ) → option_and_then unsigned_word o ≡ Some n → o ≡ Some (pos n)
    by None k = absurd cc
    by (Some z) k = ap Some (word_number z n k)

-- no earlier one of a group has the number of another
none_repeated : (definitions : List (Option Definition)) (results : List (Option Outcome)) (item : ℕ)
    (d : Definition) (group : Members) (before behind : List (List ℕ)) (one other : List ℕ) (n : ℕ)
    → IsFine definitions results item d → IsAmong (members d) group
    → map (λ x. x.text) group.numbers ≡ before ++ one ∷ behind → IsAmong before other
    → word_spelled one ≡ Some n → word_spelled other ≡ Some n → ⊥
none_repeated definitions results item d group before behind one other n h is_group texts among is same =
    let at = told_of (λ x. x.text) group.numbers before behind one texts in
    let earlier =
    among_mapped (λ x. x.text) at.front other (subst (λ l. IsAmong l other) (sym at.front_is) among) in
    no_fault definitions results item d at.here.word rule_codes.RepeatedNumber h (record {
      group = group;
      is_group = is_group;
      front = at.front;
      here = at.here;
      rear = at.rear;
      parts = at.parts;
      word_is = refl;
      number = pos n;
      number_is = ap number_spelled at.here_is ∙ spelled_number one n is;
      earlier = record {
        other = earlier.0;
        among = earlier.1;
        same = ap number_spelled (sym earlier.2) ∙ spelled_number other n same;
      };
    })

-- ---- versions

version_texts : (at : ℕ) (versions : List tree.Version)
    → map (λ x. x.text) (versions_from at versions).numbers ≡ map (λ v. v.number) versions
version_texts at [] = refl
version_texts at (v ∷ vs) = ap (λ l. v.number ∷ l) (version_texts (behind_version at v) vs)

pub versions_once : (definitions : List (Option Definition)) (results : List (Option Outcome))
    → AreResults no_names definitions results → AreFaultless results → (item : ℕ)
    (versions : List tree.Version) (number : List ℕ) → IsProgramAt definitions item versions number
    → NoneTwice (λ (v : tree.Version). word_spelled v.number) versions
versions_once definitions results are fine item versions number at front rear here parts other among same =
    let d = tree.Program at.name versions number in
    let h : IsFine definitions results item d = record { are = are; fine = fine; there = at.item_is } in
    let among_here : IsAmong versions here =
    subst (λ l. IsAmong l here) (sym parts) (among_rear front (here ∷ rear) here (among_first here rear)) in
    let own = numbered here.number (VersionNumber here.number) in
    let word =
    number_has definitions results item d (VersionNumber here.number) here.number h
    (there d own (VersionNumber here.number) (in_program at.name number versions own
    (inl (in_versions versions here own among_here (in_version here own (inr refl))))) refl) refl in
    none_repeated definitions results item d (versions_from 3 versions) (map (λ v. v.number) front)
    (map (λ v. v.number) rear) here.number other.number word.0 h
    (among_rear (procedure_lists 3 versions) (versions_from 3 versions ∷ []) (versions_from 3 versions)
    (among_first (versions_from 3 versions) []))
    (version_texts 3 versions ∙ ap (map (λ v. v.number)) parts
    ∙ map-append (λ v. v.number) front (here ∷ rear))
    (among_map (λ v. v.number) front other among) word.1 (same ∙ word.1)

-- ---- procedures of a version

procedure_texts : (at : ℕ) (procedures : List tree.Procedure)
    → map (λ x. x.text) (procedures_from at procedures).numbers ≡ map (λ p. p.number) procedures
procedure_texts at [] = refl
procedure_texts at (p ∷ ps) = ap (λ l. p.number ∷ l) (procedure_texts (at + length (spell_procedure p)) ps)

-- the procedures of a version are one of the lists
listed : (at : ℕ) (versions : List tree.Version) (v : tree.Version) → IsAmong versions v
    → (place : ℕ) × IsAmong (procedure_lists at versions) (procedures_from place v.procedures)
listed at [] v k = absurd (among_none v k)
listed at (x ∷ xs) v k = by (among_cases x v xs k) (λ r. listed (behind_version at x) xs v r)
  where
    own : Members
    own = procedures_from (at + 3) x.procedures

    rest : List Members
    rest = procedure_lists (behind_version at x) xs

    by : (v ≡ x) ⊎ IsAmong xs v
        → (IsAmong xs v → (place : ℕ) × IsAmong rest (procedures_from place v.procedures))
        → (place : ℕ) × IsAmong (own ∷ rest) (procedures_from place v.procedures)
    by (inl e) next = (
      at + 3,
      among_same own (procedures_from (at + 3) v.procedures) rest
          (ap (λ y. procedures_from (at + 3) y.procedures) (sym e)),
    )
    by (inr r) next =
        let l = next r in (l.0, among_more own (procedures_from l.0 v.procedures) rest l.1)

pub procedures_once : (definitions : List (Option Definition)) (results : List (Option Outcome))
    → AreResults no_names definitions results → AreFaultless results → (item : ℕ)
    (versions : List tree.Version) (number : List ℕ) → IsProgramAt definitions item versions number
    → (v : tree.Version) → IsAmong versions v
    → NoneTwice (λ (p : tree.Procedure). word_spelled p.number) v.procedures
procedures_once definitions results are fine item versions number at v has front rear here parts other among
    same =
    let d = tree.Program at.name versions number in
    let h : IsFine definitions results item d = record { are = are; fine = fine; there = at.item_is } in
    let among_here : IsAmong v.procedures here =
    subst (λ l. IsAmong l here) (sym parts) (among_rear front (here ∷ rear) here (among_first here rear)) in
    let own = numbered here.number (ProcedureNumber here.number) in
    let word =
    number_has definitions results item d (ProcedureNumber here.number) here.number h
    (there d own (ProcedureNumber here.number) (in_program at.name number versions own
    (inl (in_versions versions v own has
    (in_version v own (inl (in_procedures v.procedures here among_here)))))) refl) refl in
    let group = listed 3 versions v has in
    none_repeated definitions results item d (procedures_from group.0 v.procedures)
    (map (λ p. p.number) front) (map (λ p. p.number) rear) here.number other.number word.0 h
    (among_front (procedure_lists 3 versions) (versions_from 3 versions ∷ [])
    (procedures_from group.0 v.procedures) group.1)
    (procedure_texts group.0 v.procedures ∙ ap (map (λ p. p.number)) parts
    ∙ map-append (λ p. p.number) front (here ∷ rear))
    (among_map (λ p. p.number) front other among) word.1 (same ∙ word.1)

-- ---- procedures of a program

-- what stands where the pieces of a list hold it: in which piece it is, and what is before it
record IsInPiece {X Y : Type 0} (f : X → List Y) (xs : List X) (front : List Y) (here : Y) : Type 0 where
  before : List X
  piece : X
  behind : List X
  pieces : xs ≡ before ++ piece ∷ behind
  first : List Y
  last : List Y
  parts : f piece ≡ first ++ here ∷ last
  front_is : front ≡ flat_map f before ++ first

-- what stands in two lists stands in the first, or in the second
record IsInSecond {Y : Type 0} (xs ys front rear : List Y) (here : Y) : Type 0 where
  first : List Y
  front_is : front ≡ xs ++ first
  parts : ys ≡ first ++ here ∷ rear

record IsInFirst {Y : Type 0} (xs front : List Y) (here : Y) : Type 0 where
  last : List Y
  parts : xs ≡ front ++ here ∷ last

in_either : {Y : Type 0} (xs ys front rear : List Y) (here : Y) → xs ++ ys ≡ front ++ here ∷ rear
    → IsInFirst xs front here ⊎ IsInSecond xs ys front rear here
in_either [] ys front rear here e = inr (record { first = front; front_is = refl; parts = e })
in_either (x ∷ xs) ys [] rear here e =
    inl (record { last = xs; parts = ap (λ z. z ∷ xs) (same_head e) })
in_either {Y} (x ∷ xs) ys (y ∷ front) rear here e = by (in_either xs ys front rear here (same_tail e))
  where
    by : IsInFirst xs front here ⊎ IsInSecond xs ys front rear here
        → IsInFirst (x ∷ xs) (y ∷ front) here ⊎ IsInSecond (x ∷ xs) ys (y ∷ front) rear here
    by (inl r) = inl (record { last = r.last; parts = both (same_head e) r.parts })
    by (inr r) =
        inr (record { first = r.first; front_is = both (sym (same_head e)) r.front_is; parts = r.parts })

in_piece : {X Y : Type 0} (f : X → List Y) (xs : List X) (front rear : List Y) (here : Y)
    → flat_map f xs ≡ front ++ here ∷ rear → IsInPiece f xs front here
in_piece f [] [] rear here e = absurd cc
in_piece f [] (y ∷ front) rear here e = absurd cc
in_piece {X} {Y} f (x ∷ xs) front rear here e =
    by (in_either (f x) (flat_map f xs) front rear here e)
    (λ first k. in_piece f xs first rear here k)
  where
    by : IsInFirst (f x) front here ⊎ IsInSecond (f x) (flat_map f xs) front rear here
        → ((first : List Y) → flat_map f xs ≡ first ++ here ∷ rear → IsInPiece f xs first here)
        → IsInPiece f (x ∷ xs) front here
    by (inl r) next = record {
      before = [];
      piece = x;
      behind = xs;
      pieces = refl;
      first = front;
      last = r.last;
      parts = r.parts;
      front_is = refl;
    }
    by (inr r) next =
        let p = next r.first r.parts in
        record {
          before = x ∷ p.before;
          piece = p.piece;
          behind = p.behind;
          pieces = ap (λ l. x ∷ l) p.pieces;
          first = p.first;
          last = p.last;
          parts = p.parts;
          front_is =
              r.front_is ∙ ap (λ l. f x ++ l) p.front_is
              ∙ sym (append_assoc (f x) (flat_map f p.before) p.first);
        }

-- three numbers are there where each is
pub record AreNumbers (program version procedure : Option ℕ) (n : ProcedureNumbers) : Type 0 where
  pub program_is : program ≡ Some n.program
  pub version_is : version ≡ Some n.version
  pub procedure_is : procedure ≡ Some n.procedure

pub each_number : (program version procedure : Option ℕ) (n : ProcedureNumbers)
    → numbers_from program version procedure ≡ Some n → AreNumbers program version procedure n
each_number None b c n e = absurd cc
each_number (Some x) None c n e = absurd cc
each_number (Some x) (Some y) None n e = absurd cc
each_number (Some x) (Some y) (Some z) n e =
    let same = same_Some (record { program = x; version = y; procedure = z }) n e in
    record {
      program_is = ap (λ m. Some m.program) same;
      version_is = ap (λ m. Some m.version) same;
      procedure_is = ap (λ m. Some m.procedure) same;
    }

pub numbers_of_one : (p : Numbered) (n : ProcedureNumbers) → numbers_by p ≡ Some n
    → AreNumbers (word_spelled p.program) (word_spelled p.version) (word_spelled p.procedure.number) n
numbers_of_one p n e =
    each_number (word_spelled p.program) (word_spelled p.version) (word_spelled p.procedure.number) n e

pub once : (definitions : List (Option Definition)) (results : List (Option Outcome))
    → AreResults no_names definitions results → AreFaultless results → (item : ℕ)
    (versions : List tree.Version) (number : List ℕ) → IsProgramAt definitions item versions number
    → NoneTwice numbers_by (flat_map (procedures_in number) versions)
once definitions results are fine item versions number at front rear here parts other among same =
    by (among_parts (flat_map (procedures_in number) piece.before) piece.first other
    (subst (λ l. IsAmong l other) piece.front_is among))
  where
    d : Definition
    d = tree.Program at.name versions number

    h : IsFine definitions results item d
    h = record { are = are; fine = fine; there = at.item_is }

    piece : IsInPiece (procedures_in number) versions front here
    piece = in_piece (procedures_in number) versions front rear here parts

    among_here : IsAmong (flat_map (procedures_in number) versions) here
    among_here =
        subst (λ l. IsAmong l here) (sym parts)
        (among_rear front (here ∷ rear) here (among_first here rear))

    n : (n : ProcedureNumbers) × (numbers_by here ≡ Some n)
    n = numbers_have definitions results item d here h among_here

    numbers : AreNumbers (word_spelled here.program) (word_spelled here.version)
        (word_spelled here.procedure.number) n.0
    numbers = numbers_of_one here n.0 n.1

    others : AreNumbers (word_spelled other.program) (word_spelled other.version)
        (word_spelled other.procedure.number) n.0
    others = numbers_of_one other n.0 (same ∙ n.1)

    -- as a procedure of a version
    numbered_in : tree.Version → tree.Procedure → Numbered
    numbered_in v p = record { program = number; version = v.number; procedure = p }

    told : IsToldOf (numbered_in piece.piece) piece.piece.procedures piece.first here
    told = told_of (numbered_in piece.piece) piece.piece.procedures piece.first piece.last here piece.parts

    here_version : here.version ≡ piece.piece.number
    here_version = sym (ap (λ q. q.version) told.here_is)

    by : IsAmong (flat_map (procedures_in number) piece.before) other ⊎ IsAmong piece.first other → ⊥
    by (inl k) =
        let v = among_flat (procedures_in number) piece.before other k in
        let q = among_mapped (numbered_in v.0) v.0.procedures other v.2 in
        versions_once definitions results are fine item versions number at piece.before piece.behind
        piece.piece piece.pieces v.0 v.1
        (ap word_spelled (sym (ap (λ y. y.version) q.2)) ∙ others.version_is ∙ sym numbers.version_is
        ∙ ap word_spelled here_version)
    by (inr k) =
        let q =
        among_mapped (numbered_in piece.piece) told.front other
        (subst (λ l. IsAmong l other) (sym told.front_is) k) in
        procedures_once definitions results are fine item versions number at piece.piece
        (subst (λ l. IsAmong l piece.piece) (sym piece.pieces)
        (among_rear piece.before (piece.piece ∷ piece.behind) piece.piece
        (among_first piece.piece piece.behind)))
        told.front told.rear told.here told.parts q.0 q.1
        (ap word_spelled (sym (ap (λ y. y.procedure.number) q.2)) ∙ others.procedure_is
        ∙ sym numbers.procedure_is ∙ ap word_spelled (sym (ap (λ y. y.procedure.number) told.here_is)))
