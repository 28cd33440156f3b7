-- One turn of the reader's loop, and the whole of it.
use Rattle.std.proofs.Common.{take, ◌-◌, ◌≡◌, ℕ, zero, suc, ◌+◌, ◌^◌, ◌<◌, ◌≤◌, List, [], ◌∷◌, ◌++◌, length}
use Rattle.std.proofs.Common.{drop, refl, sym, ap, subst, ◌∙◌, append_assoc, arith, inl, inr}
use Rattle.std.specs.Prelude.{Bool, true, false, ◌==◌, Option, Some, None}
use Rattle.std.proofs.lemmas.List.{append-nil, length-append}
use Rattle.std.proofs.lemmas.Bool.Decides.{nat_tests}
use Rattle.x_schema.specs.declared.form.Field.{Field}
use Rattle.x_schema.specs.declared.form.Form.{Form}
use Rattle.x_schema.specs.declared.form.Form.TheVariants as forms
use Rattle.x_schema.specs.declared.schema.TypeId.{TypeId}
use Rattle.x_schema.specs.declared.schema.Root.{Root}
use Rattle.x_schema.specs.Schema.{Schema, form_at, IsTypeId, IsRoot}
use Rattle.x_schema.specs.Sound.{IsSound, IsSoundForm, AreSoundFields}
use Rattle.x_value.specs.declared.nodes.compact_node.CompactNode.{CompactNode}
use Rattle.x_value.specs.declared.nodes.compact_node.CompactLabel.TheVariants as labels
use Rattle.x_value.specs.declared.fault.ReadCode.{ReadCode}
use Rattle.x_value.specs.declared.fault.ReadCode.TheVariants as codes
use Rattle.x_value.specs.declared.reading.task.Spot as compact
use Rattle.x_value.specs.declared.reading.task.Task.{Task}
use Rattle.x_value.specs.declared.reading.task.Task.TheVariants.{One, Fields, Elements}
use Rattle.x_value.specs.Layouts.{Job, job, layout_at, field_jobs, element_jobs, most_links}
use Rattle.x_value.specs.declared.nodes.compact_node.CompactLabel.{CompactLabel}
use Rattle.x_value.specs.Entries.{nodes_of, node_of, label_of, IsCalled, AreNamed}
use Rattle.x_value.specs.Dumps.{root_job, root_label}
use Rattle.x_value.specs.Jobs.{AreReady, Moves, Refused}
use Rattle.x_value.specs.Work.{fields, value_job, jobs_of_task, jobs_of_option, pending, tasks_of_option}
use Rattle.x_value.specs.Work.{tasks_of_value, shown_entries, IsTyped, IsTypedOption, AreTasks, IsSpot}
use Rattle.x_value.specs.Work.{IsRear, IsLighter, weight, weight_of_option, weights, work, base, Begun}
use Rattle.x_value.specs.Work.{Stacked, TakesTask, Turn, Reading}
use Rattle.x_value.proofs.Sound.{ready_at}
use Rattle.x_value.proofs.Faults.{moves_same, moves_then, refused_behind, refused_within}
use Rattle.x_value.proofs.Weights.{weights_append, work_same, work_at_most, work_read, work_not_more}
use Rattle.x_value.proofs.Weights.{fields_step, elements_step, fields_weight, elements_weight}

-- ---- stacks

pub pending_push : (s : Schema) (ts : List Task) (t : Task)
    → pending s (ts ++ (t ∷ [])) ≡ jobs_of_task s t ++ pending s ts
pending_push s [] t = sym (append-nil (jobs_of_task s t))
pending_push s (x ∷ ts) t = ap (λ v. v ++ jobs_of_task s x) (pending_push s ts t)
    ∙ append_assoc (jobs_of_task s t) (pending s ts) (jobs_of_task s x)

pub tasks_push : (s : Schema) (ts : List Task) (t : Task) → AreTasks s ts → IsTyped s t
    → AreTasks s (ts ++ (t ∷ []))
tasks_push s [] t h k = (k, tt)
tasks_push s (x ∷ ts) t h k = (h.0, tasks_push s ts t h.1 k)

tasks_parts : (s : Schema) (old : List Task) (task : Task) → AreTasks s (old ++ (task ∷ []))
    → AreTasks s old × IsTyped s task
tasks_parts s [] task h = (tt, h.0)
tasks_parts s (t ∷ old) task h = let p = tasks_parts s old task h.1 in ((h.0, p.0), p.1)

pub shown_two : (a b c : List CompactNode) (x y : CompactNode) → b ≡ a ++ (x ∷ []) → c ≡ b ++ (y ∷ [])
    → c ≡ a ++ shown_entries x (Some y)
shown_two a b c x y e f = f ∙ ap (λ t. t ++ (y ∷ [])) e ∙ append_assoc a (x ∷ []) (y ∷ [])

-- ---- what is pending is of the schema

fields_sound : (s : Schema) (i : ℕ) (f : Form) → IsSoundForm s i f
    → AreSoundFields (length s.names) i (fields f)
fields_sound s i (forms.Struct fs) h = h
fields_sound s i forms.Void h = tt
fields_sound s i forms.Int h = tt
fields_sound s i forms.UnsignedInt h = tt
fields_sound s i forms.Hyper h = tt
fields_sound s i forms.UnsignedHyper h = tt
fields_sound s i forms.Float h = tt
fields_sound s i forms.Double h = tt
fields_sound s i forms.Quadruple h = tt
fields_sound s i forms.Bool h = tt
fields_sound s i (forms.Enum names) h = tt
fields_sound s i (forms.FixedOpaque n) h = tt
fields_sound s i (forms.Opaque most) h = tt
fields_sound s i (forms.String most) h = tt
fields_sound s i (forms.FixedArray of n) h = tt
fields_sound s i (forms.Array link most) h = tt
fields_sound s i (forms.Optional link) h = tt
fields_sound s i (forms.Union d c) h = tt

sound_drop : (n i k : ℕ) (fs : List Field) → AreSoundFields n i fs → AreSoundFields n i (drop k fs)
sound_drop n i zero fs h = h
sound_drop n i (suc k) [] h = tt
sound_drop n i (suc k) (f ∷ fs) h = sound_drop n i k fs h.1

ready_fields : (s : Schema) (i level links : ℕ) (fs : List Field) → IsSound s → i < length s.forms
    → AreSoundFields (length s.names) i fs → AreReady s (field_jobs s level links fs)
ready_fields s i level links [] sound lt h = tt
ready_fields s i level links (f ∷ fs) sound lt h =
    (ready_at s f.form sound (omega (arith, lt, h.0.form)), ready_fields s i level links fs sound lt h.1)

ready_elements : (s : Schema) (of level links at n : ℕ) → IsSound s → of < length s.forms
    → AreReady s (element_jobs s of level links at n)
ready_elements s of level links at zero sound lt = tt
ready_elements s of level links at (suc n) sound lt =
    (ready_at s of sound lt, ready_elements s of level links (suc at) n sound lt)

drop_sound : (s : Schema) (form next : ℕ) → IsSound s → form < length s.forms
    → AreSoundFields (length s.names) form (drop next (fields (form_at s form)))
drop_sound s form next sound lt = sound_drop (length s.names) form next (fields (form_at s form))
    (fields_sound s form (form_at s form) (sound.forms form lt))

ready_task : (s : Schema) (t : Task) → IsSound s → IsTyped s t → AreReady s (jobs_of_task s t)
ready_task s (One form spot) sound h = (ready_at s form sound h.0, tt)
ready_task s (Fields form next level links) sound h = ready_fields s form level links
    (drop next (fields (form_at s form))) sound h.0 (drop_sound s form next sound h.0)
ready_task s (Elements form next end level links) sound h =
    ready_elements s form level links next (end - next) sound h.0

ready_append : (s : Schema) (js ks : List Job) → AreReady s js → AreReady s ks → AreReady s (js ++ ks)
ready_append s [] ks h k = k
ready_append s (j ∷ js) ks h k = (h.0, ready_append s js ks h.1 k)

pub pending_ready : (s : Schema) (ts : List Task) → IsSound s → AreTasks s ts → AreReady s (pending s ts)
pending_ready s [] sound h = tt
pending_ready s (t ∷ ts) sound h =
    ready_append s (pending s ts) (jobs_of_task s t) (pending_ready s ts sound h.1) (ready_task s t sound h.0)

-- ---- turns that read no bytes

pub stacked_none : (s : Schema) (task : Task) (old : List Task) → jobs_of_task s task ≡ [] → 0 < weight s task
    → AreTasks s old → Stacked s task old old
stacked_none s task old none some tasks = record {
  jobs = ap (λ t. t ++ pending s old) none;
  tasks = tasks;
  less = (let w = weights_append s old (task ∷ []) in omega arith);
}

stacked_two : (s : Schema) (task one two : Task) (old mid new : List Task) → mid ≡ old ++ (one ∷ [])
    → new ≡ mid ++ (two ∷ []) → jobs_of_task s task ≡ jobs_of_task s two ++ jobs_of_task s one →
    weight s one + weight s two < weight s task → AreTasks s old → IsTyped s one → IsTyped s two
    → Stacked s task old new
stacked_two s task one two old mid new em en jobs less tasks t1 t2 =
    let e : new ≡ (old ++ (one ∷ [])) ++ (two ∷ []) = en ∙ ap (λ t. t ++ (two ∷ [])) em in
    let p : pending s new ≡ jobs_of_task s two ++ (jobs_of_task s one ++ pending s old) =
    ap (λ t. pending s t) e ∙ pending_push s (old ++ (one ∷ [])) two
    ∙ ap (λ t. jobs_of_task s two ++ t) (pending_push s old one) in
    record {
      jobs = ap (λ t. t ++ pending s old) jobs
          ∙ append_assoc (jobs_of_task s two) (jobs_of_task s one) (pending s old) ∙ sym p;
      tasks = subst (AreTasks s) (sym e)
          (tasks_push s (old ++ (one ∷ [])) two (tasks_push s old one tasks t1) t2);
      less = (
          let w : weights s (old ++ (task ∷ [])) ≡ weights s old + (weight s task + 0) =
          weights_append s old (task ∷ []) in
          let u : weights s new ≡ weights s (old ++ (one ∷ [])) + (weight s two + 0) = ap (λ t. weights s t) e
          ∙ weights_append s (old ++ (one ∷ [])) (two ∷ []) in
          let v : weights s (old ++ (one ∷ [])) ≡ weights s old + (weight s one + 0) =
          weights_append s old (one ∷ []) in
          omega arith);
    }

abbrev no_fields : List Field
no_fields = []

pub no_field : (s : Schema) (form place level links : ℕ) (f : Form) (old : List Task) → f ≡ form_at s form
    → drop place (fields f) ≡ [] → AreTasks s old → Stacked s (Fields form place level links) old old
no_field s form place level links f old e none tasks =
    let none' : drop place (fields (form_at s form)) ≡ [] =
    subst (λ t. drop place (fields t) ≡ no_fields) e none in
    stacked_none s (Fields form place level links) old (ap (λ t. field_jobs s level links t) none')
    (fields_weight s form place level links) tasks

pub one_field : (s : Schema) (form place next level links : ℕ) (f : Form) (x : Field)
    (old mid new : List Task) → IsSound s → f ≡ form_at s form → next ≡ place + 1
    → drop place (fields f) ≡ x ∷ drop (place + 1) (fields f) →
    IsTyped s (Fields form place level links) → AreTasks s old
    → mid ≡ old ++ (Fields form next level links ∷ [])
    → new ≡ mid ++ (One x.form (record { label = labels.Name x.name; level = level; links = links }) ∷ [])
    → Stacked s (Fields form place level links) old new
one_field s form place next level links f x old mid new sound e up is typed tasks em en =
    let up' : place + 1 ≡ suc place = omega arith in
    let is' : drop place (fields (form_at s form)) ≡ x ∷ drop (suc place) (fields (form_at s form)) =
    subst (λ t. drop place (fields t) ≡ x ∷ drop (suc place) (fields t)) e
    (subst (λ t. drop place (fields f) ≡ x ∷ drop t (fields f)) up' is) in
    let sounds : AreSoundFields (length s.names) form (x ∷ drop (suc place) (fields (form_at s form))) =
    subst (AreSoundFields (length s.names) form) is' (drop_sound s form place sound typed.0) in
    let below = sounds.0.form in
    stacked_two s (Fields form place level links) (Fields form (suc place) level links)
    (One x.form (record { label = labels.Name x.name; level = level; links = links })) old mid new
    (em ∙ ap (λ t. old ++ (Fields form t level links ∷ [])) (up ∙ up')) en
    (ap (λ t. field_jobs s level links t) is')
    (fields_step s form place level links x.form
    (record { label = labels.Name x.name; level = level; links = links }) x is' below) tasks
    (typed.0, typed.1) (omega (arith, typed.0, below), (sounds.0.name, typed.1))

left_none : (next end : ℕ) → end ≤ next → end - next ≡ 0
left_none next end le = omega arith

left_some : (next end : ℕ) → next < end → end - next ≡ suc (end - suc next)
left_some next end lt = omega arith

pub no_element : (s : Schema) (form next end level links : ℕ) (old : List Task) → end ≤ next → AreTasks s old
    → Stacked s (Elements form next end level links) old old
no_element s form next end level links old le tasks =
    stacked_none s (Elements form next end level links) old
    (ap (λ t. element_jobs s form level links next t) (left_none next end le))
    (elements_weight s form next end level links) tasks

pub one_element : (s : Schema) (form next after end level links : ℕ) (old mid new : List Task) → next < end
    → after ≡ suc next → IsTyped s (Elements form next end level links) → AreTasks s old →
    mid ≡ old ++ (Elements form after end level links ∷ [])
    → new ≡ mid ++ (One form (record { label = labels.Index next; level = level; links = links }) ∷ [])
    → Stacked s (Elements form next end level links) old new
one_element s form next after end level links old mid new lt up typed tasks em en =
    stacked_two s (Elements form next end level links) (Elements form (suc next) end level links)
    (One form (record { label = labels.Index next; level = level; links = links })) old mid new
    (em ∙ ap (λ t. old ++ (Elements form t end level links ∷ [])) up) en
    (ap (λ t. element_jobs s form level links next t) (left_some next end lt))
    (elements_step s form next end level links
    (record { label = labels.Index next; level = level; links = links }) lt) tasks (typed.0, typed.1)
    (typed.0, (tt, typed.1))

pub stacked_same : (s : Schema) (task : Task) (old new : List Task) → Stacked s task old new
    → Stacked s task old (new ++ [])
stacked_same s task old new h = subst (λ t. Stacked s task old t) (sym (append-nil new)) h

pub opened_stacked : (s : Schema) (task : Task) (old new : List Task) (value : Option (ℕ × compact.Spot))
    → Stacked s task old (new ++ tasks_of_value value) → TakesTask s task old new value
opened_stacked s task old new value h =
    record { jobs = h.jobs; tasks = h.tasks; less = (let l = h.less in omega arith) }

pub opened_one : (s : Schema) (form : ℕ) (spot : compact.Spot) (old : List Task) → AreTasks s old
    → IsTyped s (One form spot) → TakesTask s (One form spot) old old (Some (form, spot))
opened_one s form spot old tasks typed = record {
  jobs = sym (pending_push s old (One form spot));
  tasks = tasks_push s old (One form spot) tasks typed;
  less = omega arith;
}

pub turn_closed : (s : Schema) (message : List ℕ) (task : Task) (old new : List Task)
    (entries : List CompactNode) (bytes : List ℕ) → TakesTask s task old new None
    → Turn s message task old entries bytes new entries bytes
turn_closed s message task old new entries bytes o = record {
  added = [];
  appended = sym (append-nil entries);
  named = tt;
  moves = moves_same s (jobs_of_task s task ++ pending s old) (pending s new) bytes
      (o.jobs ∙ ap (λ t. pending s t) (append-nil new));
  tasks = subst (AreTasks s) (append-nil new) o.tasks;
  less = work_same s bytes (old ++ (task ∷ [])) new (let e = ap (λ t. weights s t) (append-nil new) in
      let l = o.less in omega arith);
}

-- ---- a value that was begun

pending_next : (s : Schema) (old new : List Task) (next : Option Task) → new ≡ old ++ tasks_of_option next
    → pending s new ≡ jobs_of_option s next ++ pending s old
pending_next s old new None e = ap (λ t. pending s t) (e ∙ append-nil old)
pending_next s old new (Some t) e = ap (λ t. pending s t) e ∙ pending_push s old t

tasks_next : (s : Schema) (old new : List Task) (next : Option Task) → new ≡ old ++ tasks_of_option next
    → AreTasks s old → IsTypedOption s next → AreTasks s new
tasks_next s old new None e h k = subst (AreTasks s) (sym (e ∙ append-nil old)) h
tasks_next s old new (Some t) e h k = subst (AreTasks s) (sym e) (tasks_push s old t h k)

weights_next : (s : Schema) (old new : List Task) (next : Option Task) → new ≡ old ++ tasks_of_option next
    → weights s new ≡ weights s old + weight_of_option s next
weights_next s old new None e = ap (λ t. weights s t) (e ∙ append-nil old) ∙ omega arith
weights_next s old new (Some t) e = ap (λ t. weights s t) e ∙ weights_append s old (t ∷ []) ∙ omega arith

one_weight : (s : Schema) (form : ℕ) (spot : compact.Spot) → weight s (One form spot) ≡ base s ^ suc form
unfolding weight
one_weight s form spot = refl

less_begun : (s : Schema) (form : ℕ) (spot : compact.Spot) (bytes rest : List ℕ) (next : Option Task)
    (old new : List Task) → weights s new ≡ weights s old + weight_of_option s next
    → IsLighter s form bytes next rest → work s rest new < work s bytes (old ++ (One form spot ∷ []))
less_begun s form spot bytes rest next old new e (inl h) =
    work_read s bytes rest (old ++ (One form spot ∷ [])) new h.0
    (let w = weights_append s old (One form spot ∷ []) in let k = h.1 in omega arith)
less_begun s form spot bytes rest next old new e (inr h) =
    work_not_more s bytes rest (old ++ (One form spot ∷ [])) new h.0
    (let w = weights_append s old (One form spot ∷ []) in let k = h.1 in let o = one_weight s form spot in
    omega arith)

pub turn_begun : (s : Schema) (message : List ℕ) (form : ℕ) (spot : compact.Spot) (bytes rest : List ℕ)
    (first : CompactNode) (second : Option CompactNode) (next : Option Task) (old new : List Task)
    (entries more : List CompactNode) → Begun s message form spot bytes first second next rest →
    more ≡ entries ++ shown_entries first second → new ≡ old ++ tasks_of_option next → AreTasks s old
    → Turn s message (One form spot) old entries bytes new more rest
turn_begun s message form spot bytes rest first second next old new entries more b em en tasks = record {
  added = shown_entries first second;
  appended = em;
  named = b.named;
  moves =
      subst (λ t. Moves s (value_job s form spot ∷ pending s old) bytes
      (nodes_of s message (shown_entries first second)) t rest) (sym (pending_next s old new next en))
      (b.moves (pending s old));
  tasks = tasks_next s old new next en tasks b.typed;
  less = less_begun s form spot bytes rest next old new (weights_next s old new next en) b.light;
}

-- what is to be read of a task's first value, and behind it
jobs_opened : (s : Schema) (task : Task) (old new : List Task) (form : ℕ) (spot : compact.Spot)
    → TakesTask s task old new (Some (form, spot))
    → value_job s form spot ∷ pending s new ≡ jobs_of_task s task ++ pending s old
jobs_opened s task old new form spot o = sym (o.jobs ∙ pending_push s new (One form spot))

pub opened_parts : (s : Schema) (task : Task) (old new : List Task) (form : ℕ) (spot : compact.Spot)
    → TakesTask s task old new (Some (form, spot)) → AreTasks s new × IsTyped s (One form spot)
opened_parts s task old new form spot o = tasks_parts s new (One form spot) o.tasks

pub turn_opened : (s : Schema) (message : List ℕ) (task : Task) (old new last : List Task) (form : ℕ)
    (spot : compact.Spot) (entries more : List CompactNode) (bytes rest : List ℕ)
    → TakesTask s task old new (Some (form, spot)) →
    Turn s message (One form spot) new entries bytes last more rest
    → Turn s message task old entries bytes last more rest
turn_opened s message task old new last form spot entries more bytes rest o t = record {
  added = t.added;
  appended = t.appended;
  named = t.named;
  moves = subst (λ js. Moves s js bytes (nodes_of s message t.added) (pending s last) rest)
      (jobs_opened s task old new form spot o) t.moves;
  tasks = t.tasks;
  less = (
      let most = work_at_most s bytes (old ++ (task ∷ [])) (new ++ (One form spot ∷ [])) (let l = o.less in
      omega arith) in
      let l = t.less in
      omega arith);
}

pub refused_opened : (s : Schema) (task : Task) (old new : List Task) (form : ℕ) (spot : compact.Spot)
    (bytes : List ℕ) (at : ℕ) (code : ReadCode) → TakesTask s task old new (Some (form, spot)) →
    Refused s (value_job s form spot ∷ pending s new) bytes at code
    → Refused s (jobs_of_task s task ++ pending s old) bytes at code
refused_opened s task old new form spot bytes at code o r =
    subst (λ js. Refused s js bytes at code) (jobs_opened s task old new form spot o) r

-- ---- the loop

nodes_append : (s : Schema) (m : List ℕ) (a b : List CompactNode)
    → nodes_of s m (a ++ b) ≡ nodes_of s m a ++ nodes_of s m b
nodes_append s m [] b = refl
nodes_append s m (e ∷ a) b = ap (λ t. node_of s m e ∷ t) (nodes_append s m a b)

named_append : (n : ℕ) (a b : List CompactNode) → AreNamed n a → AreNamed n b → AreNamed n (a ++ b)
named_append n [] b h k = k
named_append n (e ∷ a) b h k = (h.0, h.1, named_append n a b h.2 k)

pub first_reading : (s : Schema) (job : Job) (message : List ℕ) (stack : List Task)
    (entries : List CompactNode) (form : ℕ) (spot : compact.Spot) → stack ≡ One form spot ∷ [] → entries ≡ []
    → job ≡ value_job s form spot → form < length s.forms → IsSpot s spot
    → Reading s job message stack entries message
first_reading s job message stack entries form spot e none is lt ready = record {
  moves = subst (λ t. Moves s (job ∷ []) message (nodes_of s message t) (pending s stack) message) (sym none)
      (moves_same s (job ∷ []) (pending s stack) message
      (ap (λ t. t ∷ []) is ∙ sym (ap (λ t. pending s t) e)));
  tasks = subst (AreTasks s) (sym e) ((lt, ready), tt);
  named = subst (AreNamed (length s.names)) (sym none) tt;
}

pub next_reading : (s : Schema) (job : Job) (message : List ℕ) (stack old new : List Task) (task : Task)
    (entries more : List CompactNode) (rest rest' : List ℕ) → Reading s job message stack entries rest
    → stack ≡ old ++ (task ∷ []) → Turn s message task old entries rest new more rest'
    → Reading s job message new more rest'
next_reading s job message stack old new task entries more rest rest' r e t =
    let here : pending s stack ≡ jobs_of_task s task ++ pending s old = ap (λ v. pending s v) e
    ∙ pending_push s old task in
    let nodes : nodes_of s message more ≡ nodes_of s message entries ++ nodes_of s message t.added =
    ap (λ v. nodes_of s message v) t.appended ∙ nodes_append s message entries t.added in
    record {
      moves = subst (λ v. Moves s (job ∷ []) message v (pending s new) rest') (sym nodes)
          (moves_then s (job ∷ []) (pending s stack) (pending s new) message rest rest'
          (nodes_of s message entries) (nodes_of s message t.added) r.moves
          (subst (λ v. Moves s v rest (nodes_of s message t.added) (pending s new) rest')
          (sym here) t.moves));
      tasks = t.tasks;
      named = subst (AreNamed (length s.names)) (sym t.appended)
          (named_append (length s.names) entries t.added r.named t.named);
    }

pub next_less : (s : Schema) (message : List ℕ) (stack old new : List Task) (task : Task)
    (entries more : List CompactNode) (rest rest' : List ℕ) → stack ≡ old ++ (task ∷ [])
    → Turn s message task old entries rest new more rest' → work s rest' new < work s rest stack
next_less s message stack old new task entries more rest rest' e t =
    subst (λ v. work s rest' new < work s rest v) (sym e) t.less

pub last_task : (s : Schema) (items old : List Task) (task : Task) → items ≡ old ++ (task ∷ [])
    → AreTasks s items → IsTyped s task
last_task s items old task e h = (tasks_parts s old task (subst (AreTasks s) e h)).1

pub other_tasks : (s : Schema) (items old : List Task) (task : Task) → items ≡ old ++ (task ∷ [])
    → AreTasks s items → AreTasks s old
other_tasks s items old task e h = (tasks_parts s old task (subst (AreTasks s) e h)).0

pub rear_of : (s : Schema) (job : Job) (message : List ℕ) (stack : List Task) (entries : List CompactNode)
    (rest : List ℕ) → Reading s job message stack entries rest → IsRear message rest
rear_of s job message stack entries rest r = (r.moves.front, r.moves.parts)

pub turn_refused : (s : Schema) (job : Job) (message rest : List ℕ) (stack old : List Task)
    (entries : List CompactNode) (task : Task) (at at' : ℕ) (code code' : ReadCode)
    → Reading s job message stack entries rest → stack ≡ old ++ (task ∷ []) →
    Refused s (jobs_of_task s task ++ pending s old) rest at code → code' ≡ code
    → (code ≡ codes.NoMemory → at' ≡ at)
    → ((code ≡ codes.NoMemory → ⊥) → at' ≡ length message - length rest + at)
    → Refused s (job ∷ []) message at' code'
turn_refused s job message rest stack old entries task at at' code code' r e refused same a b =
    let here : Refused s (pending s stack) rest at code = subst (λ t. Refused s t rest at code)
    (sym (ap (λ t. pending s t) e ∙ pending_push s old task)) refused in
    subst (λ t. Refused s (job ∷ []) message at' t) (sym same)
    (refused_behind s (job ∷ []) (pending s stack) message rest (nodes_of s message entries) at at' code
    r.moves here a b)

pub refused_fits : (s : Schema) (job : Job) (message rest : List ℕ) (stack : List Task)
    (entries : List CompactNode) (js : List Job) (at : ℕ) (code : ReadCode)
    → Reading s job message stack entries rest → Refused s js rest at code
    → at + (length message - length rest) ≤ length message
refused_fits s job message rest stack entries js at code r refused =
    let w = refused_within s js rest at code refused in
    let l : length message ≡ length r.moves.front + length rest = ap length r.moves.parts
    ∙ length-append r.moves.front rest in
    omega arith

pub pending_none : (s : Schema) (items new : List Task) (n : ℕ) → items ≡ new ++ [] → new ≡ take (n - 1) items
    → n ≡ 0 → pending s items ≡ []
pending_none s items new n e f z =
    let k : n - 1 ≡ 0 = omega arith in
    ap (λ t. pending s t) (e ∙ append-nil new ∙ f ∙ ap (λ t. take t items) k)

abbrev no_length : ℕ
no_length = 0

not_zero : (n : ℕ) → (suc n == 0) ≡ true → ⊥
not_zero n e = let h : suc n ≡ 0 = grind (arith, nat_tests) in omega arith

zero_is_zero : (no_length == 0) ≡ false → ⊥
zero_is_zero e = cc

pub is_empty_test : (xs : List ℕ) (b : Bool) → b ≡ (length xs == 0) → b ≡ true → xs ≡ []
is_empty_test [] b e h = refl
is_empty_test (x ∷ xs) b e h = absurd (not_zero (length xs) (sym e ∙ h))

pub is_some_test : (xs : List ℕ) (b : Bool) → b ≡ (length xs == 0) → b ≡ false → 0 < length xs
is_some_test [] b e h = absurd (zero_is_zero (sym e ∙ h))
is_some_test (x ∷ xs) b e h = omega arith

pub root_is : (s : Schema) (id : TypeId) (form : ℕ) (c : CompactLabel) (root : Root) → form ≡ id.form
    → root ≡ id.root → label_of s c ≡ root_label s root
    → root_job s id ≡ value_job s form (record { label = c; level = 0; links = 0 })
root_is s id form c root e r h = ap (λ t. job (layout_at s id.form) t 0 0)
    (sym (h ∙ ap (λ t. root_label s t) r)) ∙ ap (λ t. job (layout_at s t) (label_of s c) 0 0) (sym e)

pub root_spot : (s : Schema) (id : TypeId) (c : CompactLabel) (root : Root) → IsTypeId s id → root ≡ id.root
    → (IsRoot s root → IsCalled (length s.names) c) → IsSpot s (record { label = c; level = 0; links = 0 })
root_spot s id c root known r h = (h (subst (IsRoot s) (sym r) known.root), zero_links most_links)
  where
    zero_links : (n : ℕ) → 0 ≤ n
    zero_links n = omega arith

pub root_form : (s : Schema) (id : TypeId) (form : ℕ) → IsTypeId s id → form ≡ id.form → form < length s.forms
root_form s id form known e = subst (λ t. t < length s.forms) (sym e) known.form
