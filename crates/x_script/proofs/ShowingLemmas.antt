-- What is told of a message.
use Rattle.std.proofs.Common.{◌≡◌, ◌<◌, ◌≤◌, ℕ, List, Bool, true, false, Some, None, Result, Ok, Err, length}
use Rattle.std.proofs.Common.{arith, refl, subst}
use Rattle.std.specs.Prelude.{IfOk}
use Rattle.std.proofs.lemmas.List.{nil_from_length}
use Rattle.x_lists.specs.declared.no_memory.NoMemory.{NoMemory}
use Rattle.x_streams.specs.Streams.{Stream}
use Rattle.x_streams.specs.Writing.{Inked, Adds}
use Rattle.x_schema.specs.Schema.{Schema, id_named}
use Rattle.x_schema.specs.declared.schema.TypeId.{TypeId}
use Rattle.x_value.specs.Dumps.{IsReadFault, IsShown}
use Rattle.x_value.specs.FaultTexts.{fault_line}
use Rattle.x_value.specs.Shown.{Node}
use Rattle.x_value.specs.declared.fault.ReadCode.{ReadCode}
use Rattle.x_value.specs.declared.fault.ReadCode.TheVariants as codes_of
use Rattle.x_script.specs.Answers.{Answer, answered, refused, refused_by}
use Rattle.x_compile.specs.Compile.{Item, faults_of}
use Rattle.x_compile.specs.Known.{KnownText}
use Rattle.x_session.specs.declared.declared.Spot.{Spot}
use Rattle.x_session.proofs.DeclaredLemmas.{of_each}
use Rattle.x_prelude.specs.Leading.{IsForeignUse}
use Rattle.x_script.specs.LineAnswers.{IsShownBy}
use Rattle.x_script.specs.LineAnswers as answers
use Rattle.x_script.specs.Refusals.{refusal_line, unknown_line}
use Rattle.x_script.specs.Script.{AddsAnswer, TellsOver}
use Rattle.x_script.specs.declared.script.refusal.LineRefusal.TheVariants as refusals
use Rattle.x_script.specs.Situations.{How}
use Rattle.x_session.specs.Session.{Compiles}
use Rattle.x_script.specs.Showing.{IsMessageAnswer, IsTypedAnswer, IsDumpAnswer, shown, stuck, no_type, typed}
use Rattle.x_script.specs.Showing.{faulty, faultless, value_answer}
use Rattle.x_session.specs.Typed.{GivesSchema}
use Rattle.x_session.specs.declared.session.schema_fault.SchemaFault.{SchemaFault}
use Rattle.x_session.specs.declared.session.schema_fault.SchemaFault.TheVariants.{Faulty}

module _ (p q : Inked) (now now' : Stream) where
  pub tells_shown : (s : Schema) (id : TypeId) (message : List ℕ) (nodes : List Node)
      → IsShown s id message nodes
      → Adds p now q now' (value_answer nodes) → TellsOver (IsMessageAnswer s id message) false p now q now'
  tells_shown s id message nodes is added text = (
    answered text (value_answer nodes),
    shown nodes is refl,
    record { added = added; refused_is = refl; text_is = refl },
  )

  pub tells_stuck : (s : Schema) (id : TypeId) (message : List ℕ) (at : ℕ) (code : ReadCode)
      → IsReadFault s id message at code
      → (code ≡ codes_of.NoMemory → ⊥) → Adds p now q now' (fault_line at code)
      → TellsOver (IsMessageAnswer s id message) true p now q now'
  tells_stuck s id message at code is other added text = (
    refused text (fault_line at code),
    stuck at code is other refl,
    record { added = added; refused_is = refl; text_is = refl },
  )

  pub tells_no_type : (s : Schema) (name message : List ℕ) → id_named s name ≡ None
      → Adds p now q now' (refusal_line refusals.NoType)
      → TellsOver (IsTypedAnswer s name message) true p now q now'
  tells_no_type s name message none added text = (
    refused_by text refusals.NoType,
    no_type none refl,
    record { added = added; refused_is = refl; text_is = refl },
  )

  pub tells_typed : (s : Schema) (id : TypeId) (name message : List ℕ) (r : Result Bool NoMemory)
      → id_named s name ≡ Some id
      → IfOk r (λ refused. TellsOver (IsMessageAnswer s id message) refused p now q now')
      → IfOk r (λ refused. TellsOver (IsTypedAnswer s name message) refused p now q now')
  tells_typed s id name message (Ok b) is h =
      λ text. (let told = h text in (told.0, typed id is told.1, told.2))
  tells_typed s id name message (Err e) is h = h

  pub tells_faulty : (known : KnownText) (text : List ℕ) (items : List Item) (name message : List ℕ)
      (r : Result Schema SchemaFault) → r ≡ Err Faulty → GivesSchema known text items r
      → Adds p now q now' (refusal_line refusals.Faulty)
      → (a : Answer) × IsDumpAnswer known text items name message a × AddsAnswer a text true p now q now'
  tells_faulty known text items name message r is gives added = (
    refused_by text refusals.Faulty,
    faulty (subst (GivesSchema known text items) is gives) refl,
    record { added = added; refused_is = refl; text_is = refl },
  )

  pub tells_faultless : (known : KnownText) (text name message : List ℕ) (s : Schema)
      (r : Result Schema SchemaFault) (t : Result Bool NoMemory) → r ≡ Ok s
      → Compiles known text (λ items. GivesSchema known text items r)
      → IfOk t (λ refused. TellsOver (IsTypedAnswer s name message) refused p now q now')
      → IfOk t (λ refused. Compiles known text
      (λ items. (a : Answer) × IsDumpAnswer known text items name message a
      × AddsAnswer a text refused p now q now'))
  tells_faultless known text name message s r (Ok b) is gives h =
      let given = subst (GivesSchema known text gives.1) is gives.3 in
      let told = h text in
      (gives.0, gives.1, gives.2, (told.0, faultless s given.0 given.1 told.1, told.2))
  tells_faultless known text name message s r (Err e) is gives h = h

-- what is told of a value by the items of a text
module _ (p q : Inked) (now now' : Stream) (how : How) {known : KnownText} (text name message : List ℕ) where
  pub shown_faulty : (count : ℕ) → 0 < count
      → Compiles known text (λ items. count ≡ length (faults_of text items))
      → Adds p now q now' (refusal_line refusals.Faulty)
      → Compiles known text (λ items. (a : Answer) × IsShownBy how known text items name message a
      × AddsAnswer a text true p now q now')
  shown_faulty count some counted added =
      let many = counted.3 in (
        counted.0,
        counted.1,
        counted.2,
        (
          refused_by text refusals.Faulty,
          answers.faulty (omega (arith, some, many)) refl,
          record { added = added; refused_is = refl; text_is = refl },
        ),
      )

  pub shown_unknown : (count : ℕ) (spot : Spot) → count ≤ 0
      → Compiles known text (λ items. count ≡ length (faults_of text items))
      → Compiles known text (λ items. IsForeignUse how.files how.from text items name (Some spot))
      → Adds p now q now' (unknown_line spot)
      → Compiles known text (λ items. (a : Answer) × IsShownBy how known text items name message a
      × AddsAnswer a text true p now q now')
  shown_unknown count spot none counted leads added =
      let many = of_each text counted leads.0 leads.1 leads.2 in (
        leads.0,
        leads.1,
        leads.2,
        (
          refused text (unknown_line spot),
          answers.leads spot (nil_from_length (faults_of text leads.1) (omega (arith, none, many)))
              leads.3 refl,
          record { added = added; refused_is = refl; text_is = refl },
        ),
      )

  pub shown_known : (count : ℕ) (r : Result Bool NoMemory) → count ≤ 0
      → Compiles known text (λ items. count ≡ length (faults_of text items))
      → Compiles known text (λ items. IsForeignUse how.files how.from text items name None)
      → IfOk r (λ refused. Compiles known text (λ items. (a : Answer)
      × IsDumpAnswer known text items name message a × AddsAnswer a text refused p now q now'))
      → IfOk r (λ refused. Compiles known text (λ items. (a : Answer)
      × IsShownBy how known text items name message a × AddsAnswer a text refused p now q now'))
  shown_known count (Ok b) none counted leads h =
      let many = of_each text counted h.0 h.1 h.2 in
      let stands = of_each text leads h.0 h.1 h.2 in (
        h.0,
        h.1,
        h.2,
        (
          h.3.0,
          answers.stands (nil_from_length (faults_of text h.1) (omega (arith, none, many))) stands h.3.1,
          h.3.2,
        ),
      )
  shown_known count (Err e) none counted leads h = tt
