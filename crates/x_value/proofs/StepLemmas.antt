-- What a step of the reader owes: what it moves to, or why it refuses.
use Rattle.std.proofs.Common.{◌≡◌, ℕ, zero, suc, ◌+◌, ◌-◌, ◌^◌, ◌<◌, ◌≤◌, List, [], ◌∷◌, ◌++◌, length, take}
use Rattle.std.proofs.Common.{drop, refl, sym, ◌∙◌, ap, subst, append_assoc, arith, inl, inr}
use Rattle.std.specs.Prelude.{Option, Some, None, Vec}
use Rattle.std.proofs.lemmas.List.{length-append}
use Rattle.std.proofs.Math.Seq.{drop-append_seam}
use Rattle.x_schema.specs.declared.form.Arm.{Arm}
use Rattle.x_schema.specs.declared.form.Arm.TheVariants as arms
use Rattle.x_schema.specs.declared.form.Field.{Field}
use Rattle.x_schema.specs.declared.form.Form.{Form}
use Rattle.x_schema.specs.declared.form.Form.TheVariants as forms
use Rattle.x_schema.specs.Choices.{Choice, arm_for}
use Rattle.x_schema.specs.Schema.{Schema, form_at, target_at}
use Rattle.x_schema.specs.Sound.{IsSound, IsSoundForm, IsSoundUnion, IsSoundArm}
use Rattle.x_value.specs.declared.nodes.compact_node.CompactNode.{CompactNode}
use Rattle.x_value.specs.declared.nodes.compact_node.CompactLeaf.{CompactLeaf}
use Rattle.x_value.specs.declared.nodes.compact_node.CompactLeaf.TheVariants as leaves
use Rattle.x_value.specs.declared.fault.ReadCode.{ReadCode}
use Rattle.x_value.specs.declared.fault.ReadCode.TheVariants as codes
use Rattle.x_value.specs.declared.reading.task.Spot as compact
use Rattle.x_value.specs.declared.reading.task.Task.{Task}
use Rattle.x_value.specs.declared.reading.task.Task.TheVariants.{Fields, Elements}
use Rattle.x_value.specs.Shown.{Leaf, Node, Hex, Text}
use Rattle.x_units.specs.Units.{word, padding, copies}
use Rattle.x_value.specs.Layouts.{field_jobs, element_jobs, Layout, Fixed, Sized, Spot, Job, placed}
use Rattle.x_value.specs.Layouts.{layout_of, layout_at, behind, members, head_nodes, group_nodes, body_nodes}
use Rattle.x_value.specs.Layouts.{body_leaf, fixed_size, at_spot, int_leaf, unsigned_int_leaf, hyper_leaf}
use Rattle.x_value.specs.Layouts.{unsigned_hyper_leaf, nothing}
use Rattle.x_value.specs.Readings.{IsByteList, IsHeaded, IsGroup}
use Rattle.x_value.specs.Entries.{node_of, nodes_of, leaf_of, body_at, IsCalled, IsKeptLeaf, AreNamed}
use Rattle.x_value.specs.Jobs.{AreReady, Moves, HeadTaken, HeadFault, BodyTaken, BodyFault, cut_body, bad_pad}
use Rattle.x_value.specs.Jobs.{Refused}
use Rattle.x_value.specs.Work.{IsSpot, fields, spot_of, value_job, jobs_of_option, IsNamedForm, IsHeadedForm}
use Rattle.x_value.specs.Work.{IsSizedForm, IsKnownArm, IsRear, IsTypedOption, shown_entries, Begun}
use Rattle.x_value.specs.Work.{weight_of_option, most_weight, base, weight}
use Rattle.x_value.proofs.Bytes.{word_length, IsByteList-right}
use Rattle.x_value.proofs.Sound.{ready_at}
use Rattle.x_value.proofs.Opening.{group_moves, head_moves, head_refused}
use Rattle.x_value.proofs.Bodies.{body_moves, body_refused}
use Rattle.x_value.proofs.Faults.{moves_then, refused_behind}
use Rattle.x_value.proofs.Weights.{some_weight, light_struct, light_array}

-- ---- what stands in the forms of a sound schema

form_sound : (s : Schema) (i : ℕ) (f g : Form) → IsSound s → i < length s.forms → f ≡ form_at s i → f ≡ g
    → IsSoundForm s i g
form_sound s i f g sound lt e is = subst (IsSoundForm s i) (sym e ∙ is) (sound.forms i lt)

pub array_known : (s : Schema) (i : ℕ) (f : Form) (link most t : ℕ) → IsSound s → i < length s.forms
    → f ≡ form_at s i → f ≡ forms.Array link most → t ≡ target_at s link → t < length s.forms
array_known s i f link most t sound lt e is at = subst (λ u. u < length s.forms) (sym at)
    (sound.links link (form_sound s i f (forms.Array link most) sound lt e is))

pub optional_known : (s : Schema) (i : ℕ) (f : Form) (link t : ℕ) → IsSound s → i < length s.forms
    → f ≡ form_at s i → f ≡ forms.Optional link → t ≡ target_at s link → t < length s.forms
optional_known s i f link t sound lt e is at = subst (λ u. u < length s.forms) (sym at)
    (sound.links link (form_sound s i f (forms.Optional link) sound lt e is))

pub fixed_array_known : (s : Schema) (i : ℕ) (f : Form) (of n : ℕ) → IsSound s → i < length s.forms
    → f ≡ form_at s i → f ≡ forms.FixedArray of n → of < i
fixed_array_known s i f of n sound lt e is = form_sound s i f (forms.FixedArray of n) sound lt e is

arm_known_at : (s : Schema) (i : ℕ) (arm : Arm) → i < length s.forms → IsSoundArm (length s.names) i arm
    → IsKnownArm s arm
arm_known_at s i arms.Void lt h = tt
arm_known_at s i (arms.Of f) lt h = (omega (arith, lt, h.form), h.name)

pub arm_known : (s : Schema) (i : ℕ) (f : Form) (d : Field) (c : Choice) (w : ℕ) (r : Option Arm) (arm : Arm)
    → IsSound s → i < length s.forms → f ≡ form_at s i → f ≡ forms.Union d c → r ≡ arm_for c w → r ≡ Some arm
    → IsKnownArm s arm
arm_known s i f d c w r arm sound lt e is at some =
    let u : IsSoundUnion s i d c = form_sound s i f (forms.Union d c) sound lt e is in
    arm_known_at s i arm lt (u.arms w arm (sym at ∙ some))

named_form : (s : Schema) (i : ℕ) (f : Form) → IsSoundForm s i f → IsNamedForm (length s.names) f
named_form s i (forms.Enum names) h = h
named_form s i forms.Void h = tt
named_form s i forms.Int h = tt
named_form s i forms.UnsignedInt h = tt
named_form s i forms.Hyper h = tt
named_form s i forms.UnsignedHyper h = tt
named_form s i forms.Float h = tt
named_form s i forms.Double h = tt
named_form s i forms.Quadruple h = tt
named_form s i forms.Bool h = tt
named_form s i (forms.FixedOpaque n) h = tt
named_form s i (forms.Opaque most) h = tt
named_form s i (forms.String most) h = tt
named_form s i (forms.FixedArray of n) h = tt
named_form s i (forms.Array link most) h = tt
named_form s i (forms.Optional link) h = tt
named_form s i (forms.Struct fields) h = tt
named_form s i (forms.Union d c) h = tt

pub union_named : (s : Schema) (i : ℕ) (f g : Form) (d : Field) (c : Choice) → IsSound s → i < length s.forms
    → f ≡ form_at s i → f ≡ forms.Union d c → g ≡ form_at s d.form
    → IsNamedForm (length s.names) g × (d.name < length s.names)
union_named s i f g d c sound lt e is at =
    let u : IsSoundUnion s i d c = form_sound s i f (forms.Union d c) sound lt e is in (
      subst (IsNamedForm (length s.names)) (sym at)
          (named_form s d.form (form_at s d.form)
          (sound.forms d.form (omega (arith, lt, u.discriminates.form)))),
      u.discriminates.name,
    )

pub node_named : (n : ℕ) (spot : compact.Spot) (kept : CompactLeaf) (e : CompactNode)
    → e ≡ record { level = spot.level; label = spot.label; leaf = kept } → IsCalled n spot.label
    → IsKeptLeaf n kept → IsCalled n e.label × IsKeptLeaf n e.leaf
node_named n spot kept e is h k =
    (subst (λ t. IsCalled n t.label) (sym is) h, subst (λ t. IsKeptLeaf n t.leaf) (sym is) k)

-- ---- kinds of forms

pub headed_layout : (s : Schema) (f : Form) → IsHeadedForm f → IsHeaded (layout_of s f)
headed_layout s forms.Bool h = tt
headed_layout s (forms.Enum names) h = tt
headed_layout s (forms.Array link most) h = tt
headed_layout s (forms.Optional link) h = tt
headed_layout s (forms.Union d c) h = tt
headed_layout s _ h = absurd h

pub behind_none : (s : Schema) (i : ℕ) (f : Form) (p : Spot) (w : ℕ) → IsHeadedForm (form_at s i)
    → f ≡ form_at s i → ((link most : ℕ) → f ≡ forms.Array link most → ⊥)
    → ((link : ℕ) → f ≡ forms.Optional link → ⊥) → ((d : Field) (c : Choice) → f ≡ forms.Union d c → ⊥)
    → [] ≡ behind s (layout_at s i) p w
behind_none s i f p w h e a b c =
    subst (λ t. [] ≡ behind s (layout_of s t) p w) e (by_form f (subst IsHeadedForm (sym e) h) a b c)
  where
    by_form : (g : Form) → IsHeadedForm g → ((link most : ℕ) → g ≡ forms.Array link most → ⊥)
        → ((link : ℕ) → g ≡ forms.Optional link → ⊥) → ((d : Field) (c : Choice) → g ≡ forms.Union d c → ⊥)
        → [] ≡ behind s (layout_of s g) p w
    by_form forms.Bool h a b c = refl
    by_form (forms.Enum names) h a b c = refl
    by_form (forms.Array link most) h a b c = absurd (a link most refl)
    by_form (forms.Optional link) h a b c = absurd (b link refl)
    by_form (forms.Union d choice) h a b c = absurd (c d choice refl)
    by_form _ h a b c = absurd h

pub record IsFixedLayout (s : Schema) (f : Form) (n : ℕ) : Type 0 where
  pub leaf : List ℕ → Leaf
  pub is : layout_of s f ≡ Fixed leaf n
  pub shows : (bs : List ℕ) → body_leaf f bs ≡ leaf bs

abbrev some_size : ℕ → Option ℕ
some_size n = Some n

same_size : (m n : ℕ) → some_size m ≡ some_size n → m ≡ n
same_size m n e = cc

pub fixed_layout : (s : Schema) (f : Form) (n : ℕ) → fixed_size f ≡ Some n → IsFixedLayout s f n
fixed_layout s forms.Void n e =
    record { leaf = nothing; is = ap (Fixed nothing) (same_size 0 n e); shows = λ bs. refl }
fixed_layout s forms.Int n e =
    record { leaf = int_leaf; is = ap (Fixed int_leaf) (same_size 4 n e); shows = λ bs. refl }
fixed_layout s forms.UnsignedInt n e =
    record {
      leaf = unsigned_int_leaf;
      is = ap (Fixed unsigned_int_leaf) (same_size 4 n e);
      shows = λ bs. refl;
    }
fixed_layout s forms.Hyper n e =
    record { leaf = hyper_leaf; is = ap (Fixed hyper_leaf) (same_size 8 n e); shows = λ bs. refl }
fixed_layout s forms.UnsignedHyper n e =
    record {
      leaf = unsigned_hyper_leaf;
      is = ap (Fixed unsigned_hyper_leaf) (same_size 8 n e);
      shows = λ bs. refl;
    }
fixed_layout s forms.Float n e =
    record { leaf = Hex; is = ap (Fixed Hex) (same_size 4 n e); shows = λ bs. refl }
fixed_layout s forms.Double n e =
    record { leaf = Hex; is = ap (Fixed Hex) (same_size 8 n e); shows = λ bs. refl }
fixed_layout s forms.Quadruple n e =
    record { leaf = Hex; is = ap (Fixed Hex) (same_size 16 n e); shows = λ bs. refl }
fixed_layout s (forms.FixedOpaque k) n e =
    record { leaf = Hex; is = ap (Fixed Hex) (same_size k n e); shows = λ bs. refl }
fixed_layout s _ n e = absurd cc

pub record IsSizedLayout (s : Schema) (f : Form) : Type 0 where
  pub leaf : List ℕ → Leaf
  pub most : ℕ
  pub is : layout_of s f ≡ Sized leaf most
  pub shows : (bs : List ℕ) → body_leaf f bs ≡ leaf bs

pub sized_layout : (s : Schema) (f : Form) → IsSizedForm f → IsSizedLayout s f
sized_layout s (forms.Opaque most) h = record { leaf = Hex; most = most; is = refl; shows = λ bs. refl }
sized_layout s (forms.String most) h = record { leaf = Text; most = most; is = refl; shows = λ bs. refl }
sized_layout s _ h = absurd h

-- ---- bodies in the message

pub rear_behind : (m bytes front rest : List ℕ) → IsRear m bytes → bytes ≡ front ++ rest → IsRear m rest
rear_behind m bytes front rest r e =
    (r.0 ++ front, r.1 ∙ ap (λ t. r.0 ++ t) e ∙ sym (append_assoc r.0 front rest))

abbrev empty : List ℕ
empty = []

take_all : (a b : List ℕ) (n : ℕ) → length a ≡ n → take n (a ++ b) ≡ a
take_all a b zero e = take_none a (a ++ b) e
  where
    take_none : (a c : List ℕ) → length a ≡ 0 → take 0 c ≡ a
    take_none [] c e = refl
    take_none (x ∷ a) c e = absurd (omega arith)
take_all [] b (suc n) e = absurd (omega arith)
take_all (x ∷ a) b (suc n) e = ap (λ t. x ∷ t) (take_all a b n (omega arith))

drop_front : (a b : List ℕ) (n : ℕ) → length a ≡ n → drop n (a ++ b) ≡ b
drop_front a b n e = ap (λ t. drop t (a ++ b)) (sym e) ∙ drop-append_seam a b

pub body_found : (m bytes bs rest : List ℕ) (len : ℕ) → IsRear m bytes → BodyTaken len bytes bs rest
    → body_at m (length m - length bytes) len ≡ bs
body_found m bytes bs rest len r taken =
    let long : length m ≡ length r.0 + length bytes = ap length r.1 ∙ length-append r.0 bytes in
    ap (λ t. take len (drop (length m - length bytes) t)) r.1
    ∙ ap (λ t. take len t) (drop_front r.0 bytes (length m - length bytes) (omega arith))
    ∙ ap (λ t. take len t) taken.parts
    ∙ take_all bs (copies (padding len) 0 ++ rest) len taken.long

pub body_less : (len : ℕ) (m bs rest : List ℕ) → BodyTaken len m bs rest → length rest + len ≤ length m
body_less len m bs rest taken =
    let a : length m ≡ length bs + length (copies {A = ℕ} (padding len) 0 ++ rest) = ap length taken.parts
    ∙ length-append bs (copies {A = ℕ} (padding len) 0 ++ rest) in
    let b = length-append (copies {A = ℕ} (padding len) 0) rest in
    let c = taken.long in
    omega arith

pub body_shown : (s : Schema) (leaf : List ℕ → Leaf) (f : Form) (len : ℕ) (spot : compact.Spot)
    (kept : CompactLeaf) (e : CompactNode) (message m bs rest : List ℕ) →
    e ≡ record { level = spot.level; label = spot.label; leaf = kept }
    → leaf_of s message kept ≡ body_leaf f bs → body_leaf f bs ≡ leaf bs → IsByteList m
    → BodyTaken len m bs rest → (ks : List Job) →
    Moves s (placed (Fixed leaf len) (spot_of s spot) ∷ ks) m (node_of s message e ∷ []) ks rest
body_shown s leaf f len spot kept e message m bs rest is shows same bytes taken ks =
    let nodes : node_of s message e ∷ [] ≡ body_nodes (Fixed leaf len) (spot_of s spot) bs =
    ap (λ t. node_of s message t ∷ []) is ∙ ap (λ t. at_spot (spot_of s spot) t ∷ []) (shows ∙ same) in
    subst (λ t. Moves s (placed (Fixed leaf len) (spot_of s spot) ∷ ks) m t ks rest) (sym nodes)
    (body_moves s leaf len (spot_of s spot) m bs rest bytes taken ks)

-- ---- words and bodies

pub sized_moves : (s : Schema) (l : Layout) (leaf : List ℕ → Leaf) (most : ℕ) (p : Spot)
    (m rest rest' : List ℕ) (w : ℕ) (shown : List Node) (ks : List Job) → l ≡ Sized leaf most
    → HeadTaken s l p.links m w rest →
    Moves s (placed (Fixed leaf w) p ∷ ks) rest shown ks rest' → Moves s (placed l p ∷ ks) m shown ks rest'
sized_moves s l leaf most p m rest rest' w shown ks e taken moves =
    let taken' : HeadTaken s (Sized leaf most) p.links m w rest =
    subst (λ t. HeadTaken s t p.links m w rest) e taken in
    subst (λ t. Moves s (placed t p ∷ ks) m shown ks rest') (sym e)
    (moves_then s (placed (Sized leaf most) p ∷ ks) (placed (Fixed leaf w) p ∷ ks) ks m rest rest' [] shown
    (head_moves s (Sized leaf most) p m rest w tt taken' ks) moves)

body_isnt_memory : (w : ℕ) (m : List ℕ) (at : ℕ) (code : ReadCode) → BodyFault w m at code
    → code ≡ codes.NoMemory → ⊥
body_isnt_memory w m at code (cut_body c a b) e = (let h : codes.Short ≡ codes.NoMemory = sym c ∙ e in cc)
body_isnt_memory w m at code (bad_pad a b d x y z u v c) e =
    (let h : codes.BadPad ≡ codes.NoMemory = sym c ∙ e in cc)

pub sized_refused : (s : Schema) (l : Layout) (leaf : List ℕ → Leaf) (most : ℕ) (p : Spot) (m rest : List ℕ)
    (w at at' : ℕ) (code code' : ReadCode) (ks : List Job) → l ≡ Sized leaf most → IsSound s
    → HeadTaken s l p.links m w rest → IsByteList m →
    BodyFault w rest at code → code' ≡ code → ((code ≡ codes.NoMemory → ⊥) → at' ≡ 4 + at) → AreReady s ks
    → Refused s (placed l p ∷ ks) m at' code'
sized_refused s l leaf most p m rest w at at' code code' ks e sound taken bytes fault same place ready =
    let taken' : HeadTaken s (Sized leaf most) p.links m w rest =
    subst (λ t. HeadTaken s t p.links m w rest) e taken in
    let fit : IsByteList rest = IsByteList-right (word w) rest (subst IsByteList taken.parts bytes) in
    let long : length m ≡ length (word w) + length rest = ap length taken.parts
    ∙ length-append (word w) rest in
    let four = word_length w in
    let isnt = body_isnt_memory w rest at code fault in
    let there : at' ≡ 4 + at = place isnt in
    subst (λ t. Refused s (placed t p ∷ ks) m at' code') (sym e)
    (subst (λ t. Refused s (placed (Sized leaf most) p ∷ ks) m at' t) (sym same)
    (refused_behind s (placed (Sized leaf most) p ∷ ks) (placed (Fixed leaf w) p ∷ ks) m rest [] at at' code
    (head_moves s (Sized leaf most) p m rest w tt taken' ks)
    (body_refused s leaf w p rest at code sound fit fault ks ready) (λ h. absurd (isnt h))
    (λ h. (omega arith))))

pub fixed_refused : (s : Schema) (l : Layout) (leaf : List ℕ → Leaf) (n : ℕ) (p : Spot) (m : List ℕ) (at : ℕ)
    (code : ReadCode) (ks : List Job) → l ≡ Fixed leaf n → IsSound s → IsByteList m → BodyFault n m at code
    → AreReady s ks → Refused s (placed l p ∷ ks) m at code
fixed_refused s l leaf n p m at code ks e sound bytes fault ready =
    subst (λ t. Refused s (placed t p ∷ ks) m at code) (sym e)
    (body_refused s leaf n p m at code sound bytes fault ks ready)

pub value_refused : (s : Schema) (form : ℕ) (spot : compact.Spot) (m : List ℕ) (at : ℕ) (code : ReadCode)
    (ks : List Job) → IsSound s → form < length s.forms → IsHeaded (layout_at s form)
    → HeadFault s (layout_at s form) spot.links m at code → AreReady s ks
    → Refused s (value_job s form spot ∷ ks) m at code
value_refused s form spot m at code ks sound lt g fault ready =
    head_refused s (layout_at s form) (spot_of s spot) m at code sound g fault ks
    (ready_at s form sound lt, ready)

pub read_less : (m rest : List ℕ) (w : ℕ) → m ≡ word w ++ rest → length rest < length m
read_less m rest w e =
    let l : length m ≡ length (word w) + length rest = ap length e ∙ length-append (word w) rest in
    let four = word_length w in omega arith

pub head_begun : (s : Schema) (message : List ℕ) (form : ℕ) (spot : compact.Spot) (bytes rest : List ℕ)
    (w : ℕ) (first : CompactNode) (second : Option CompactNode) (next : Option Task)
    → IsHeaded (layout_at s form) → HeadTaken s (layout_at s form) spot.links bytes w rest →
    nodes_of s message (shown_entries first second) ≡ head_nodes s (layout_at s form) (spot_of s spot) w
    → AreNamed (length s.names) (shown_entries first second) →
    jobs_of_option s next ≡ behind s (layout_at s form) (spot_of s spot) w → IsTypedOption s next
    → weight_of_option s next < most_weight s → Begun s message form spot bytes first second next rest
head_begun s message form spot bytes rest w first second next g taken shown named jobs typed light = record {
  moves = λ ks. subst (λ t. Moves s (value_job s form spot ∷ ks) bytes t (jobs_of_option s next ++ ks) rest)
      (sym shown)
      (subst (λ t. Moves s (value_job s form spot ∷ ks) bytes
      (head_nodes s (layout_at s form) (spot_of s spot) w) (t ++ ks) rest) (sym jobs)
      (head_moves s (layout_at s form) (spot_of s spot) bytes rest w g taken ks));
  named = named;
  typed = typed;
  light = inl (read_less bytes rest w taken.parts, light);
}

pub body_begun : (s : Schema) (message : List ℕ) (form : ℕ) (spot : compact.Spot) (bytes rest : List ℕ)
    (first : CompactNode)
    → ((ks : List Job) → Moves s (value_job s form spot ∷ ks) bytes (nodes_of s message (first ∷ [])) ks rest)
    → AreNamed (length s.names) (first ∷ []) → length rest ≤ length bytes
    → Begun s message form spot bytes first None None rest
body_begun s message form spot bytes rest first moves named le = record {
  moves = moves;
  named = named;
  typed = tt;
  light = inr (le, some_weight s form);
}

-- ---- structs and fixed arrays

abbrev group_of : Schema → Form → Type 0
group_of s f = IsGroup (layout_of s f)

pub group_begun : (s : Schema) (message : List ℕ) (form : ℕ) (f : Form) (spot : compact.Spot) (bytes : List ℕ)
    (first : CompactNode) (task : Task) → f ≡ form_at s form → IsGroup (layout_of s f)
    → nodes_of s message (first ∷ []) ≡ group_nodes (layout_of s f) (spot_of s spot) →
    AreNamed (length s.names) (first ∷ [])
    → jobs_of_option s (Some task) ≡ members s (layout_of s f) (spot_of s spot) → IsTypedOption s (Some task)
    → weight s task < base s ^ suc form → Begun s message form spot bytes first None (Some task) bytes
group_begun s message form f spot bytes first task e g shown named jobs typed light = record {
  moves = λ ks. subst (λ t. Moves s (placed (layout_of s t) (spot_of s spot) ∷ ks) bytes
      (nodes_of s message (first ∷ [])) (jobs_of_option s (Some task) ++ ks) bytes) e
      (subst (λ t. Moves s (placed (layout_of s f) (spot_of s spot) ∷ ks) bytes t
      (jobs_of_option s (Some task) ++ ks) bytes) (sym shown)
      (subst (λ t. Moves s (placed (layout_of s f) (spot_of s spot) ∷ ks) bytes
      (group_nodes (layout_of s f) (spot_of s spot)) (t ++ ks) bytes) (sym jobs)
      (group_moves s (layout_of s f) (spot_of s spot) bytes g ks)));
  named = named;
  typed = typed;
  light = inr (omega arith, light);
}

pub leaf_same : (f g : Form) (leaf : List ℕ → Leaf) → f ≡ g → ((bs : List ℕ) → body_leaf g bs ≡ leaf bs)
    → (bs : List ℕ) → body_leaf f bs ≡ leaf bs
leaf_same f g leaf e h bs = ap (λ t. body_leaf t bs) e ∙ h bs

pub headed_sized : (s : Schema) (f : Form) → IsSizedForm f → IsHeaded (layout_of s f)
headed_sized s (forms.Opaque most) h = tt
headed_sized s (forms.String most) h = tt
headed_sized s _ h = absurd h

pub struct_begun : (s : Schema) (message : List ℕ) (form : ℕ) (f : Form) (fs : Vec Field _)
    (spot : compact.Spot) (bytes : List ℕ) (first : CompactNode) (level : ℕ) → form < length s.forms
    → f ≡ form_at s form → f ≡ forms.Struct fs → IsSpot s spot →
    level ≡ suc spot.level → first ≡ record { level = spot.level; label = spot.label; leaf = leaves.Struct }
    → Begun s message form spot bytes first None (Some (Fields form 0 level spot.links)) bytes
struct_begun s message form f fs spot bytes first level lt e is ready up first_is =
    let n = node_named (length s.names) spot leaves.Struct first first_is ready.0 tt in
    group_begun s message form (forms.Struct fs) spot bytes first (Fields form 0 level spot.links)
    (sym is ∙ e) tt (ap (λ t. node_of s message t ∷ []) first_is) (n.0, n.1, tt)
    (ap (λ t. field_jobs s t spot.links (drop 0 (fields (form_at s form)))) up
    ∙ ap (λ t. field_jobs s (suc spot.level) spot.links (fields t)) (sym e ∙ is)) (lt, ready.1)
    (light_struct s form level spot.links)

zero_less : (n : ℕ) → n - 0 ≡ n
zero_less n = omega arith

pub array_begun : (s : Schema) (message : List ℕ) (form : ℕ) (f : Form) (of n : ℕ) (spot : compact.Spot)
    (bytes : List ℕ) (first : CompactNode) (level : ℕ) (task : Task) → IsSound s → form < length s.forms
    → f ≡ form_at s form → f ≡ forms.FixedArray of n → IsSpot s spot →
    level ≡ suc spot.level → first ≡ record { level = spot.level; label = spot.label; leaf = leaves.Array n }
    → n < 2 ^ 32 → task ≡ Elements of 0 n level spot.links
    → Begun s message form spot bytes first None (Some task) bytes
array_begun s message form f of n spot bytes first level task sound lt e is ready up first_is fits task_is =
    let below = fixed_array_known s form f of n sound lt e is in
    let k = node_named (length s.names) spot (leaves.Array n) first first_is ready.0 tt in
    subst (λ t. Begun s message form spot bytes first None (Some t) bytes) (sym task_is)
    (group_begun s message form (forms.FixedArray of n) spot bytes first (Elements of 0 n level spot.links)
    (sym is ∙ e) tt (ap (λ t. node_of s message t ∷ []) first_is) (k.0, k.1, tt)
    (ap (λ t. element_jobs s of t spot.links 0 (n - 0)) up
    ∙ ap (λ t. element_jobs s of (suc spot.level) spot.links 0 t) (zero_less n))
    (omega (arith, below, lt), ready.1) (light_array s form of n level spot.links below fits))
