-- The reader's stack, and how much work it stands for: a number that falls with each step.
use Rattle.std.specs.Prelude.{◌≡◌, ◌⊎◌, ◌++◌, ℕ, suc, ◌+◌, ◌-◌, ◌*◌, ◌^◌, ◌<◌, ◌≤◌, List, [], ◌∷◌, length}
use Rattle.std.specs.Prelude.{drop, Option, Some, None}
use Rattle.x_schema.specs.declared.form.Arm.{Arm}
use Rattle.x_schema.specs.declared.form.Arm.TheVariants as arms
use Rattle.x_schema.specs.declared.form.Field.{Field}
use Rattle.x_schema.specs.declared.form.Form.{Form}
use Rattle.x_schema.specs.declared.form.Form.TheVariants as forms
use Rattle.x_schema.specs.Schema.{Schema, form_at}
use Rattle.x_schema.specs.Sound.{AreSoundEnumerators}
use Rattle.x_value.specs.declared.nodes.compact_node.CompactNode.{CompactNode}
use Rattle.x_value.specs.declared.reading.task.Spot as compact
use Rattle.x_value.specs.declared.reading.task.Task.{Task}
use Rattle.x_value.specs.declared.reading.task.Task.TheVariants.{One, Fields, Elements}
use Rattle.x_value.specs.Entries.{label_of, nodes_of, IsCalled, AreNamed}
use Rattle.x_value.specs.Layouts.{Spot, Job, placed, layout_at, most_links, field_jobs, element_jobs}
use Rattle.x_value.specs.Jobs.{Moves}

abbrev pub fields : Form → List Field
fields (forms.Struct fs) = fs.items
fields _ = []

abbrev pub spot_of : Schema → compact.Spot → Spot
spot_of s spot = record { label = label_of s spot.label; level = spot.level; links = spot.links }

abbrev pub value_job : Schema → ℕ → compact.Spot → Job
value_job s form spot = placed (layout_at s form) (spot_of s spot)

abbrev pub jobs_of_task : Schema → Task → List Job
jobs_of_task s (One form spot) = value_job s form spot ∷ []
jobs_of_task s (Fields form next level links) = field_jobs s level links (drop next (fields (form_at s form)))
jobs_of_task s (Elements form next end level links) = element_jobs s form level links next (end - next)

abbrev pub jobs_of_option : Schema → Option Task → List Job
jobs_of_option s None = []
jobs_of_option s (Some task) = jobs_of_task s task

-- the top of the stack is the last of the list
abbrev pub pending : Schema → List Task → List Job
pending s [] = []
pending s (task ∷ tasks) = pending s tasks ++ jobs_of_task s task

abbrev pub IsSpot : Schema → compact.Spot → Type 0
IsSpot s spot = IsCalled (length s.names) spot.label × (spot.links ≤ most_links)

-- a task that the reader may carry out
abbrev pub IsTyped : Schema → Task → Type 0
IsTyped s (One form spot) = (form < length s.forms) × IsSpot s spot
IsTyped s (Fields form next level links) = (form < length s.forms) × (links ≤ most_links)
IsTyped s (Elements form next end level links) = (form < length s.forms) × (links ≤ most_links)

abbrev pub IsTypedOption : Schema → Option Task → Type 0
IsTypedOption s None = Unit {0}
IsTypedOption s (Some task) = IsTyped s task

abbrev pub AreTasks : Schema → List Task → Type 0
AreTasks s [] = Unit {0}
AreTasks s (task ∷ tasks) = IsTyped s task × AreTasks s tasks

-- the reader may carry out the task that it took from its stack, and then those that are left there
pub record IsTakenTask (s : Schema) (taken : Task) (stack : List Task) : Type 0 where
  pub task : IsTyped s taken
  pub tasks : AreTasks s stack

-- the reader may read the value of this form that stands there
pub record IsToRead (s : Schema) (form : ℕ) (at : compact.Spot) : Type 0 where
  pub known : form < length s.forms
  pub spot : IsSpot s at

-- ---- work

abbrev pub field_count : List Form → ℕ
field_count [] = 0
field_count (f ∷ fs) = length (fields f) + field_count fs

unfoldable pub base : Schema → ℕ
base s = 2 ^ 34 + 2 * field_count s.forms

unfoldable pub weight : Schema → Task → ℕ
weight s (One form spot) = base s ^ suc form
weight s (Fields form next level links) =
    suc (length (drop next (fields (form_at s form))) * suc (base s ^ form))
weight s (Elements form next end level links) = suc ((end - next) * suc (base s ^ suc form))

abbrev pub weight_of_option : Schema → Option Task → ℕ
weight_of_option s None = 0
weight_of_option s (Some task) = weight s task

-- more than what is put on the stack behind a word
unfoldable pub most_weight : Schema → ℕ
most_weight s = 2 + 2 ^ 32 * suc (base s ^ length s.forms)

abbrev pub weights : Schema → List Task → ℕ
weights s [] = 0
weights s (task ∷ tasks) = weight s task + weights s tasks

unfoldable pub work : Schema → List ℕ → List Task → ℕ
work s bytes tasks = most_weight s * length bytes + weights s tasks

-- a value was begun: bytes were read, or no more are left and what is left of it is less work
abbrev pub IsLighter : Schema → ℕ → List ℕ → Option Task → List ℕ → Type 0
IsLighter s form bytes task rest =
    ((length rest < length bytes) × (weight_of_option s task < most_weight s)) ⊎
    ((length rest ≤ length bytes) × (weight_of_option s task < base s ^ suc form))

-- ---- steps

-- the list ends with the other
abbrev pub IsRear : List ℕ → List ℕ → Type 0
IsRear message rest = (front : List ℕ) × (message ≡ front ++ rest)

abbrev pub shown_entries : CompactNode → Option CompactNode → List CompactNode
shown_entries first (Some second) = first ∷ second ∷ []
shown_entries first None = first ∷ []

-- a value was begun, or read whole
pub record Begun (s : Schema) (message : List ℕ) (form : ℕ) (spot : compact.Spot) (bytes : List ℕ)
    (first : CompactNode) (second : Option CompactNode) (next : Option Task) (rest : List ℕ) : Type 0 where
  pub moves : (ks : List Job) → Moves s (value_job s form spot ∷ ks) bytes (nodes_of s message
      (shown_entries first second)) (jobs_of_option s next ++ ks) rest
  pub named : AreNamed (length s.names) (shown_entries first second)
  pub typed : IsTypedOption s next
  pub light : IsLighter s form bytes next rest

-- a task was taken from the old stack and carried out
pub record Turn (s : Schema) (message : List ℕ) (task : Task) (old : List Task) (entries : List CompactNode)
    (bytes : List ℕ) (new : List Task) (more : List CompactNode) (rest : List ℕ) : Type 0 where
  pub added : List CompactNode
  pub appended : more ≡ entries ++ added
  pub named : AreNamed (length s.names) added
  pub moves : Moves s (jobs_of_task s task ++ pending s old) bytes (nodes_of s message added)
      (pending s new) rest
  pub tasks : AreTasks s new
  pub less : work s rest new < work s bytes (old ++ (task ∷ []))

-- the names of an enum, of so many
abbrev pub IsNamedForm : ℕ → Form → Type 0
IsNamedForm n (forms.Enum names) = AreSoundEnumerators n names
IsNamedForm n _ = Unit {0}

-- a value begins with a word, and behind it stand other values
abbrev pub IsHeadedForm : Form → Type 0
IsHeadedForm forms.Bool = Unit {0}
IsHeadedForm (forms.Enum names) = Unit {0}
IsHeadedForm (forms.Array link most) = Unit {0}
IsHeadedForm (forms.Optional link) = Unit {0}
IsHeadedForm (forms.Union discriminant choice) = Unit {0}
IsHeadedForm _ = ⊥

-- The reader may read the value of this form that stands there, which begins with a word: what stands behind
-- that word has this level.
pub record IsHeaded (s : Schema) (form : ℕ) (at : compact.Spot) (inner : ℕ) : Type 0 where
  pub value : IsToRead s form at
  pub headed : IsHeadedForm (form_at s form)
  pub level : inner ≡ suc at.level

-- a value is a length and a body
abbrev pub IsSizedForm : Form → Type 0
IsSizedForm (forms.Opaque most) = Unit {0}
IsSizedForm (forms.String most) = Unit {0}
IsSizedForm _ = ⊥

abbrev pub IsKnownArm : Schema → Arm → Type 0
IsKnownArm s arms.Void = Unit {0}
IsKnownArm s (arms.Of f) = (f.form < length s.forms) × (f.name < length s.names)

abbrev pub tasks_of_option : Option Task → List Task
tasks_of_option (Some task) = task ∷ []
tasks_of_option None = []

abbrev pub tasks_of_value : Option (ℕ × compact.Spot) → List Task
tasks_of_value (Some value) = One value.0 value.1 ∷ []
tasks_of_value None = []

-- a task that reads no bytes was taken from the old stack and carried out
pub record Stacked (s : Schema) (task : Task) (old new : List Task) : Type 0 where
  pub jobs : jobs_of_task s task ++ pending s old ≡ pending s new
  pub tasks : AreTasks s new
  pub less : weights s new < weights s (old ++ (task ∷ []))

-- a task was taken from the old stack, and its first value, if it has one, is to be read next
pub record TakesTask (s : Schema) (task : Task) (old new : List Task)
    (value : Option (ℕ × compact.Spot)) : Type 0 where
  pub jobs : jobs_of_task s task ++ pending s old ≡ pending s (new ++ tasks_of_value value)
  pub tasks : AreTasks s (new ++ tasks_of_value value)
  pub less : weights s (new ++ tasks_of_value value) < weights s (old ++ (task ∷ [])) + length
      (tasks_of_value value)

-- what was read before the rest, and what is still to be read
pub record Reading (s : Schema) (job : Job) (message : List ℕ) (stack : List Task)
    (entries : List CompactNode) (rest : List ℕ) : Type 0 where
  pub moves : Moves s (job ∷ []) message (nodes_of s message entries) (pending s stack) rest
  pub tasks : AreTasks s stack
  pub named : AreNamed (length s.names) entries
