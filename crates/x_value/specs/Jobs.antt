-- What is still to be read, and what the reader's steps answer.
use Rattle.std.specs.Prelude.{◌≡◌, ℕ, ◌+◌, ◌*◌, ◌<◌, ◌≤◌, List, [], ◌∷◌, ◌++◌, ◌-◌, ◌%◌, ◌^◌, length, false}
use Rattle.std.specs.Prelude.{Some, None}
use Rattle.x_schema.specs.Schema.{Schema}
use Rattle.x_schema.specs.Sound.{AreSoundEnumerators, AreSoundFields, IsSoundUnion}
use Rattle.x_value.specs.declared.fault.ReadCode.{ReadCode}
use Rattle.x_value.specs.declared.fault.ReadCode.TheVariants as codes
use Rattle.x_value.specs.Shown.{Node}
use Rattle.x_value.specs.Values.{Values, encs}
use Rattle.x_units.specs.Units.{word, padding, copies, are_zeros}
use Rattle.x_value.specs.Layouts.{Layout, Fields, Elements, Named, Counted, Optional, Chosen, Job, head_fault}
use Rattle.x_value.specs.Readings.{Suits, UnitRole, fault_of, roles_each, nodes_each}
use Rattle.x_value.specs.Language.{Leads, Stuck, Short, Trailing}

-- the bytes of values of these types, one behind another, with what each unit is, and what is shown
pub record Spells (s : Schema) (js : List Job) (x : List ℕ) (r : List UnitRole) (n : List Node) : Type 0 where
  pub values : Values
  pub suits : Suits s js values
  pub bytes : x ≡ encs values
  pub told : r ≡ roles_each s js values
  pub shown : n ≡ nodes_each s js values

-- ---- sound types

-- what stands in a value by value are forms below i
abbrev pub IsSoundLayout : Schema → ℕ → Layout → Type 0
IsSoundLayout s i (Fields fs) = AreSoundFields (length s.names) i fs
IsSoundLayout s i (Elements of n) = of < i
IsSoundLayout s i (Named names) = AreSoundEnumerators (length s.names) names
IsSoundLayout s i (Counted of most) = of < length s.forms
IsSoundLayout s i (Optional of) = of < length s.forms
IsSoundLayout s i (Chosen discriminant choice) = IsSoundUnion s i discriminant choice
IsSoundLayout s i _ = Unit {0}

abbrev pub IsReady : Schema → Layout → Type 0
IsReady s layout = (i : ℕ) × (i ≤ length s.forms) × IsSoundLayout s i layout

abbrev pub AreReady : Schema → List Job → Type 0
AreReady s [] = Unit {0}
AreReady s (j ∷ js) = IsReady s j.layout × AreReady s js

-- ---- answers

abbrev pub Faulty : Schema → ReadCode → UnitRole → List ℕ → Type 0
Faulty s code role unit = fault_of s role unit ≡ Some code

-- what is answered for bytes that spell no values of these types
pub data Refused (s : Schema) (js : List Job) (m : List ℕ) (at : ℕ) (code : ReadCode) : Type 0 where
  no_memory : code ≡ codes.NoMemory → at ≡ 0 → Refused s js m at code
  ends : code ≡ codes.Short → Short (Spells s js) m at → Refused s js m at code
  trails : code ≡ codes.Trailing → Trailing (Spells s js) m at → Refused s js m at code
  stops : Stuck (Spells s js) (Faulty s code) m at → Refused s js m at code

-- the bytes that were read, what they show, and what is still to be read behind them
pub record Moves (s : Schema) (js : List Job) (m : List ℕ) (shown : List Node) (ks : List Job)
    (rest : List ℕ) : Type 0 where
  pub front : List ℕ
  pub told : List UnitRole
  pub parts : m ≡ front ++ rest
  pub even : length front ≡ 4 * length told
  pub leads : Leads (Spells s js) front told shown (Spells s ks)

-- a first word that may not stand there, or none
pub data HeadFault (s : Schema) (layout : Layout) (links : ℕ) (m : List ℕ) (at : ℕ)
    (code : ReadCode) : Type 0 where
  no_word : code ≡ codes.Short → at ≡ length m → length m < 4 → HeadFault s layout links m at code
  bad_word : (w : ℕ) (rest : List ℕ) → m ≡ word w ++ rest → w < 2 ^ 32 → at ≡ 0 →
      head_fault s layout links w ≡ Some code →
      HeadFault s layout links m at code

-- a first word that may stand there
pub record HeadTaken (s : Schema) (layout : Layout) (links : ℕ) (m : List ℕ) (w : ℕ)
    (rest : List ℕ) : Type 0 where
  pub parts : m ≡ word w ++ rest
  pub fits : w < 2 ^ 32
  pub fine : head_fault s layout links w ≡ None

-- a body that is cut or whose padding is not zero
pub data BodyFault (len : ℕ) (m : List ℕ) (at : ℕ) (code : ReadCode) : Type 0 where
  cut_body : code ≡ codes.Short → at ≡ length m → length m < len + padding len → BodyFault len m at code
  bad_pad : (bs p rest : List ℕ) → m ≡ bs ++ (p ++ rest) → length bs ≡ len → length p ≡ padding len →
      are_zeros p ≡ false →
      at ≡ len - len % 4 → code ≡ codes.BadPad → BodyFault len m at code

-- a body with its padding
pub record BodyTaken (len : ℕ) (m bs rest : List ℕ) : Type 0 where
  pub long : length bs ≡ len
  pub parts : m ≡ bs ++ (copies (padding len) 0 ++ rest)
