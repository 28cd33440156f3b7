-- What the maker of a schema does for procedures, told of every schema that it may end with, where the types
-- known are those of the schema.
use Rattle.std.specs.Prelude.{◌≡◌, ℕ, List, [], ◌∷◌, ◌++◌, Option}
use Rattle.x_trees.specs.Tree as tree
use Rattle.x_schema.specs.ProceduresOf.{AreArgumentFields, AreProceduresBehind}
use Rattle.x_schema.specs.ProceduresOf.{IsArgumentField, Numbered, Table}
use Rattle.x_schema.specs.Schema.{Schema, IsKeptWithin}
use Rattle.x_schema.specs.SchemaMaking.{PutsAll, PutsPlace}
use Rattle.x_schema.specs.SchemaOf.{Known}
use Rattle.x_schema.specs.Sound.{AreSoundFields, IsSoundField}
use Rattle.x_schema.specs.declared.form.Field.{Field}
use Rattle.x_schema.specs.declared.maker.Maker.{Maker}

-- what stands at the place is put
abbrev pub PutsAs : Known → Maker → Maker → ℕ → (Schema → ℕ → Type 0) → Type 0
PutsAs known old new place Is = PutsPlace known old new [] place (λ s at. s.types ≡ known.types → Is s at)

-- what is told of the schema is put, with places and names within
abbrev pub PutsWithin : Known → Maker → Maker → (ℕ → ℕ → Type 0) → (Schema → Type 0) → Type 0
PutsWithin known old new Within Is =
    PutsAll known old new [] (λ n i s. (s.types ≡ known.types → Is s) × Within n i)

-- an argument is put as a field
abbrev pub PutsField : Known → Maker → Maker → Field → (Schema → Type 0) → Type 0
PutsField known old new field Is = PutsWithin known old new (λ n i. IsSoundField n i field) Is

-- all arguments as fields
abbrev pub AreAllFields : Schema → Option tree.Argument → List tree.Argument → List Field → Type 0
AreAllFields s first others fields =
    (field : Field) × (rest : List Field) × (fields ≡ field ∷ rest) × IsArgumentField s 1 first field
    × AreArgumentFields s 2 others rest

-- several arguments are put as fields
abbrev pub PutsFields : Known → Maker → Maker → Option tree.Argument → List tree.Argument → List Field
    → Type 0
PutsFields known old new first others fields =
    PutsWithin known old new (λ n i. AreSoundFields n i fields) (λ s. AreAllFields s first others fields)

-- every procedure of the table is within
abbrev pub AreKeptWithin : ℕ → ℕ → Table → Type 0
AreKeptWithin n i [] = Unit {0}
AreKeptWithin n i (e ∷ es) = IsKeptWithin n i e.1 × AreKeptWithin n i es

-- of procedures behind those of a table the table grows to another
pub record Grows (known : Known) (n i : ℕ) (s : Schema) (before after : Table)
    (ps : List Numbered) : Type 0 where
  pub procedures : s.types ≡ known.types → (rest : List Numbered) → AreProceduresBehind s after rest
      → AreProceduresBehind s before (ps ++ rest)
  pub within : AreKeptWithin n i before → AreKeptWithin n i after

abbrev pub PutsProcedures : Known → Maker → Maker → Table → Table → List Numbered → Type 0
PutsProcedures known old new before after ps =
    PutsAll known old new [] (λ n i s. Grows known n i s before after ps)
