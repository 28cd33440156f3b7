-- Where a walk over a program stands.
use Rattle.std.specs.Prelude.{ℕ, List, [], ◌∷◌, length, map}
use Rattle.x_trees.specs.Tree as tree
use Rattle.x_trees.specs.Spell.{spell_procedure, spell_procedures, spell_versions}
use Rattle.x_trees.specs.Collected.{Covers}
use Rattle.x_outline.specs.Bodies as bodies
use Rattle.x_outline.specs.BodyWalks.{view_walk}
use Rattle.x_outline.specs.Parts.{view_name_at, view_number_at, view_members}
use Rattle.x_outline.specs.declared.bodies.BodyWalk.{BodyWalk}
use Rattle.x_outline.specs.declared.parts.Members.{Members}

-- the walk has gone over n words more, and found no body
abbrev pub Skips : BodyWalk → BodyWalk → ℕ → Type 0
Skips from to n = Covers (view_walk from) (view_walk to) n (λ k. [])

-- the word to which a walk has come; the members of the versions that it has gone over; the names and the
-- numbers that it has found of those that it is among
pub record WalkState : Type 0 where
  pub word : ℕ
  pub groups : List bodies.Members
  pub names : List bodies.NameAt
  pub numbers : List bodies.NumberAt

abbrev pub place : ℕ → List Members → Members → WalkState
place word groups m = record {
  word = word;
  groups = map view_members groups;
  names = map view_name_at m.names.items;
  numbers = map view_number_at m.numbers.items;
}

-- the walk has gone over n words more, and found these from the word on where it was
pub record Adds (a b : WalkState) (n : ℕ) (more : ℕ → List bodies.Members)
    (found : ℕ → bodies.Members) : Type 0 where
  pub groups : Covers (record { word = a.word; list = a.groups })
      (record { word = b.word; list = b.groups }) n more
  pub names : Covers (record { word = a.word; list = a.names }) (record { word = b.word; list = b.names }) n
      (λ k. (found k).names)
  pub numbers : Covers (record { word = a.word; list = a.numbers })
      (record { word = b.word; list = b.numbers }) n (λ k. (found k).numbers)

-- a name, or a number, that stands at the word

abbrev pub AddsName : ℕ → Members → Members → List ℕ → Type 0
AddsName word from to name =
    (groups : List Members) → Adds (place word groups from) (place word groups to) 0 (λ k. [])
    (λ k. record { names = record { word = k; name = name } ∷ []; numbers = [] })

abbrev pub AddsNumber : ℕ → Members → Members → List ℕ → Type 0
AddsNumber word from to text =
    (groups : List Members) → Adds (place word groups from) (place word groups to) 0 (λ k. [])
    (λ k. record { names = []; numbers = record { word = k; text = text } ∷ [] })

-- nothing is found yet
abbrev pub start : ℕ → WalkState
start word = record { word = word; groups = []; names = []; numbers = [] }

-- a procedure alone
abbrev pub procedure_at : ℕ → tree.Procedure → bodies.Members
procedure_at at p =
    bodies.member (record { word = bodies.procedure_name at p; name = p.name })
    (record { word = bodies.procedure_number at p; text = p.number }) bodies.no_members

abbrev pub AddsProcedure : WalkState → WalkState → tree.Procedure → Type 0
AddsProcedure a b p = Adds a b (length (spell_procedure p)) (λ k. []) (λ k. procedure_at k p)

abbrev pub AddsProcedures : WalkState → WalkState → List tree.Procedure → Type 0
AddsProcedures a b ps = Adds a b (length (spell_procedures ps)) (λ k. []) (λ k. bodies.procedures_from k ps)

abbrev pub AddsVersions : WalkState → WalkState → List tree.Version → Type 0
AddsVersions a b vs =
    Adds a b (length (spell_versions vs)) (λ k. bodies.procedure_lists k vs) (λ k. bodies.versions_from k vs)

-- a version, whatever is found of those behind it
abbrev pub AddsVersion : WalkState → WalkState → tree.Version → Type 0
AddsVersion a b v = (to : WalkState) (vs : List tree.Version) → AddsVersions b to vs
    → AddsVersions a to (v ∷ vs)
