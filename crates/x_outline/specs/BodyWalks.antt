-- Where a walk over the bodies of a definition stands.
use Rattle.std.specs.Prelude.{◌≡◌, ◌<◌, ℕ, ◌+◌, ◌^◌, List, [], ◌∷◌, ◌++◌, length, map}
use Rattle.std.specs.List.{IsAmong}
use Rattle.x_trees.specs.Tree as tree
use Rattle.x_trees.specs.View.{view_body}
use Rattle.x_trees.specs.Spell.{spell_type, spell_body, spell_cases, spell_declaration, spell_declarations}
use Rattle.x_trees.specs.Spell.{spell_arms, spell_default}
use Rattle.x_trees.specs.Collected.{Walked, Covers}
use Rattle.x_outline.specs.Bodies as bodies
use Rattle.x_trees.specs.Spell.{IsShort}
use Rattle.x_outline.specs.Parts.{view_name_at, view_value_at}
use Rattle.x_outline.specs.declared.parts.BodyAt.{BodyAt}
use Rattle.x_outline.specs.declared.bodies.BodyWalk.{BodyWalk}
use Rattle.x_outline.specs.declared.bodies.Contents.{Contents}

abbrev pub view_body_at : BodyAt → bodies.BodyAt
view_body_at b = record { named = b.named; at = b.at; body = view_body b.body.now }

-- the bodies that the walk has found
abbrev pub view_walk : BodyWalk → Walked bodies.BodyAt
view_walk w = record { word = w.word; list = map view_body_at w.list.items }

-- the word behind the discriminant of a union whose first word is this one
abbrev pub IsBehind : tree.Body → ℕ → ℕ → Type 0
IsBehind (tree.Union d arms other) at behind = behind ≡ at + 2 + length (spell_declaration d)
IsBehind body at behind = Unit {0}

-- what is kept beside a body is what stands in it, and it ends before the greatest number
pub record IsFilled (b : BodyAt) : Type 0 where
  pub fields : map view_name_at b.fields.items ≡ bodies.fields_of (view_body_at b)
  pub cases : map view_value_at b.cases.items ≡ bodies.cases_of (view_body_at b)
  pub behind : IsBehind (view_body b.body.now) b.at b.behind_discriminant
  pub ends : b.at + length (spell_body (view_body b.body.now)) < 2 ^ 64

abbrev pub AreFilled : List BodyAt → Type 0
AreFilled bs = (b : BodyAt) → IsAmong bs b → IsFilled b

-- ---- steps of a walk

-- where a walk stands: its word, the bodies that it has found, and the names of fields and the cases of the
-- body that it is in
pub record Stand : Type 0 where
  pub word : ℕ
  pub list : List BodyAt
  pub fields : List bodies.NameAt
  pub cases : List bodies.ValueAt

abbrev pub within : BodyWalk → List bodies.NameAt → List bodies.ValueAt → Stand
within w fields cases = record { word = w.word; list = w.list.items; fields = fields; cases = cases }

abbrev pub stand : BodyWalk → Contents → Stand
stand w c = within w (map view_name_at c.fields.items) (map view_value_at c.cases.items)

-- The walk has gone over n words more, and found these from the word on where it was. Of a walk that comes to
-- 2^64 words nothing is said.
pub record Goes (a b : Stand) (n : ℕ) (found : ℕ → List bodies.BodyAt) (names : ℕ → List bodies.NameAt)
    (values : ℕ → List bodies.ValueAt) : Type 0 where
  pub bodies : Covers (record { word = a.word; list = map view_body_at a.list })
      (record { word = b.word; list = map view_body_at b.list }) n found
  pub fields : Covers (record { word = a.word; list = a.fields })
      (record { word = b.word; list = b.fields }) n names
  pub cases : Covers (record { word = a.word; list = a.cases })
      (record { word = b.word; list = b.cases }) n values
  pub filled : a.word + n < 2 ^ 64 → AreFilled a.list → AreFilled b.list

-- over words without names of fields and cases of the body that the walk is in
abbrev pub Finds : BodyWalk → BodyWalk → ℕ → (ℕ → List bodies.BodyAt) → Type 0
Finds from to n found =
    (fields : List bodies.NameAt) (cases : List bodies.ValueAt)
    → Goes (within from fields cases) (within to fields cases) n found (λ k. []) (λ k. [])

-- and without a body
abbrev pub Passes : BodyWalk → BodyWalk → ℕ → Type 0
Passes from to n = Finds from to n (λ k. [])

-- over a type, and the words between it and the name that is declared
abbrev pub FindsType : BodyWalk → BodyWalk → ℕ → tree.DataType → Type 0
FindsType from to before type =
    Finds from to (length (spell_type type) + before) (λ k. bodies.bodies_of_type before k type)

-- over a body, and the words between it and the name that is declared
abbrev pub FindsBody : BodyWalk → BodyWalk → ℕ → tree.Body → Type 0
FindsBody from to before body =
    Finds from to (length (spell_body body) + before)
    (λ k. bodies.bodies_inside k body
    ++ record { named = k + length (spell_body body) + before; at = k; body = body } ∷ [])

abbrev pub GoesName : Stand → Stand → List ℕ → Type 0
GoesName a b name = Goes a b 1 (λ k. []) (λ k. record { word = k; name = name } ∷ []) (λ k. [])

abbrev pub GoesDeclaration : Stand → Stand → tree.Declaration → Type 0
GoesDeclaration a b d =
    Goes a b (length (spell_declaration d)) (λ k. bodies.bodies_of_declaration k d)
    (λ k. bodies.field_at k d) (λ k. [])

abbrev pub GoesFields : Stand → Stand → tree.Declarations → Type 0
GoesFields a b ds =
    Goes a b (length (spell_declarations ds)) (λ k. bodies.bodies_of_fields k ds)
    (λ k. bodies.fields_from k ds) (λ k. [])

abbrev pub GoesCases : Stand → Stand → List tree.Value → Type 0
GoesCases a b values =
    Goes a b (length (spell_cases values)) (λ k. []) (λ k. []) (λ k. bodies.cases_from k values)

abbrev pub GoesArms : Stand → Stand → tree.Arms → Type 0
GoesArms a b arms =
    Goes a b (length (spell_arms arms)) (λ k. bodies.bodies_of_arms k arms)
    (λ k. bodies.arm_names_from k arms)
    (λ k. bodies.arm_cases_from k arms)

abbrev pub GoesDefault : Stand → Stand → tree.Default → Type 0
GoesDefault a b other =
    Goes a b (length (spell_default other)) (λ k. bodies.bodies_of_default k other)
    (λ k. bodies.default_name k other) (λ k. [])

abbrev pub body_at : ℕ → ℕ → tree.Body → bodies.BodyAt
body_at named at body = record { named = named; at = at; body = body }

-- the walk has gone over the body, whose contents these are
pub record GoesInside (from to : BodyWalk) (body : tree.Body) (contents : Contents) : Type 0 where
  pub goes : (named : ℕ)
      → Goes (within from [] []) (stand to contents) (length (spell_body body))
      (λ k. bodies.bodies_inside k body)
      (λ k. bodies.fields_of (body_at named k body)) (λ k. bodies.cases_of (body_at named k body))
  pub behind : from.word + length (spell_body body) < 2 ^ 64
      → IsBehind body from.word contents.behind_discriminant

-- the walk has gone over the body of a definition, which stands in front of those inside it
pub record FindsOwn (from to : BodyWalk) (body : tree.Body) : Type 0 where
  pub bodies : from.word + length (spell_body body) < 2 ^ 64
      → map view_body_at to.list.items ≡ body_at 1 from.word body
      ∷ (map view_body_at from.list.items ++ bodies.bodies_inside from.word body)
  pub filled : from.word + length (spell_body body) < 2 ^ 64 → AreFilled from.list.items
      → AreFilled to.list.items

-- these are the bodies of the definition, with what stands in them
pub record AreBodies (bs : List BodyAt) (d : tree.Definition) : Type 0 where
  pub bodies : map view_body_at bs ≡ bodies.bodies d
  pub filled : AreFilled bs

-- a walk from the first word on has found all bodies of the definition
pub record FindsAll (from to : BodyWalk) (d : tree.Definition) : Type 0 where
  pub by : from.word ≡ 0 → from.list.items ≡ [] → IsShort d → AreBodies to.list.items d
