-- Nodes have one list of places, and the bodies that they show are the slices of the message there.
use Rattle.std.proofs.Common.{◌≡◌, ℕ, zero, suc, ◌+◌, Bool, true, false, List, [], ◌∷◌, ◌++◌, map, length}
use Rattle.std.proofs.Common.{take, drop, All, Option, None, Some, refl, sym, ap, subst, ◌∙◌, append_assoc}
use Rattle.std.proofs.Common.{append-nil, arith}
use Rattle.std.specs.Prelude.{nat_eq, if◌then◌else◌}
use Rattle.std.proofs.lemmas.List.{length-append, map-append, take_at, drop_at}
use Rattle.std.proofs.lemmas.Option.{same_Some}
use Rattle.x_units.specs.Units.{word, padding, copies}
use Rattle.x_schema.specs.Choices.{arm_for}
use Rattle.x_schema.specs.Schema.{Schema, form_at}
use Rattle.x_schema.specs.declared.form.Arm.{Arm}
use Rattle.x_schema.specs.declared.form.Arm.TheVariants as arms
use Rattle.x_schema.specs.declared.form.Field.{Field}
use Rattle.x_schema.specs.declared.form.Form.{Form}
use Rattle.x_schema.specs.declared.form.Form.TheVariants as forms
use Rattle.x_schema.specs.declared.schema.TypeId.{TypeId}
use Rattle.x_value.specs.Dumps.{root_job, IsShown}
use Rattle.x_value.specs.Layouts.{Layout, Fixed, Fields, Elements, Flag, Named, Sized, Counted, Optional}
use Rattle.x_value.specs.Layouts.{Chosen, Spot, Job, job, layout_of, layout_at, field_jobs, element_jobs}
use Rattle.x_value.specs.Layouts.{arm_jobs, members, behind, discriminant_leaf, body_nodes, group_nodes}
use Rattle.x_value.specs.Layouts.{head_nodes}
use Rattle.x_value.specs.Readings.{nodes, nodes_each}
use Rattle.x_value.specs.Shown.{Leaf, Null, Link, Star, Node}
use Rattle.x_value.specs.Values.{Value, Values, body, group, headed, end, more, enc, encs}
use Rattle.x_value.proofs.Bytes.{word_length}
use Rattle.x_value.proofs.Unique.{one_value}
use Rattle.x_laws.specs.Places.{PlacedNode, at_place, placed_nodes, placed_each, IsShownAt, body_shown}
use Rattle.x_laws.specs.Places.{ShowsSlice}

-- ---- the nodes themselves

abbrev node_in : PlacedNode → Node
node_in n = n.node

without_place : (at : ℕ) (ns : List Node) → map node_in (map (at_place at) ns) ≡ ns
without_place at [] = refl
without_place at (n ∷ ns) = ap (λ l. n ∷ l) (without_place at ns)

parts_without : (at : ℕ) (ns : List Node) (placed : List PlacedNode) (ms : List Node)
    → map node_in placed ≡ ms → map node_in (map (at_place at) ns ++ placed) ≡ ns ++ ms
parts_without at ns placed ms e =
    let first = without_place at ns in
    map-append node_in (map (at_place at) ns) placed ∙ (λ i. first i ++ e i)

mutual
  same_nodes : (s : Schema) (l : Layout) (p : Spot) (v : Value) (at : ℕ)
      → map node_in (placed_nodes s l p v at) ≡ nodes s l p v
  same_nodes s l p (body bs) at = without_place at (body_nodes l p bs)
  same_nodes s l p (group vs) at =
      parts_without at (group_nodes l p) (placed_each s (members s l p) vs at)
      (nodes_each s (members s l p) vs) (same_nodes_each s (members s l p) vs at)
  same_nodes s l p (headed w vs) at =
      parts_without at (head_nodes s l p w) (placed_each s (behind s l p w) vs (at + 4))
      (nodes_each s (behind s l p w) vs) (same_nodes_each s (behind s l p w) vs (at + 4))

  same_nodes_each : (s : Schema) (js : List Job) (vs : Values) (at : ℕ)
      → map node_in (placed_each s js vs at) ≡ nodes_each s js vs
  same_nodes_each s [] vs at = refl
  same_nodes_each s (j ∷ js) end at = refl
  same_nodes_each s (j ∷ js) (more v vs) at =
      let first = same_nodes s j.layout j.spot v at in
      let rest = same_nodes_each s js vs (at + length (enc v)) in
      map-append node_in (placed_nodes s j.layout j.spot v at) (placed_each s js vs (at + length (enc v)))
      ∙ (λ i. first i ++ rest i)

-- ---- what shows bytes shows those of the body

abbrev ShowsBody : (List ℕ → Leaf) → Type 0
ShowsBody leaf = (bs bytes : List ℕ) → body_shown (leaf bs) ≡ Some bytes → bytes ≡ bs

abbrev IsFaithful : Layout → Type 0
IsFaithful (Fixed leaf n) = ShowsBody leaf
IsFaithful (Sized leaf most) = ShowsBody leaf
IsFaithful _ = Unit {0}

abbrev AreFaithful : List Job → Type 0
AreFaithful [] = Unit {0}
AreFaithful (j ∷ js) = IsFaithful j.layout × AreFaithful js

of_form : (s : Schema) (f : Form) → IsFaithful (layout_of s f)
of_form s forms.Void = λ bs bytes e. absurd cc
of_form s forms.Int = λ bs bytes e. absurd cc
of_form s forms.UnsignedInt = λ bs bytes e. absurd cc
of_form s forms.Hyper = λ bs bytes e. absurd cc
of_form s forms.UnsignedHyper = λ bs bytes e. absurd cc
of_form s forms.Float = λ bs bytes e. sym (same_Some bs bytes e)
of_form s forms.Double = λ bs bytes e. sym (same_Some bs bytes e)
of_form s forms.Quadruple = λ bs bytes e. sym (same_Some bs bytes e)
of_form s forms.Bool = tt
of_form s (forms.Enum names) = tt
of_form s (forms.FixedOpaque n) = λ bs bytes e. sym (same_Some bs bytes e)
of_form s (forms.Opaque most) = λ bs bytes e. sym (same_Some bs bytes e)
of_form s (forms.String most) = λ bs bytes e. sym (same_Some bs bytes e)
of_form s (forms.FixedArray of n) = tt
of_form s (forms.Array link most) = tt
of_form s (forms.Optional link) = tt
of_form s (forms.Struct fields) = tt
of_form s (forms.Union discriminant choice) = tt

of_fields : (s : Schema) (level links : ℕ) (fs : List Field) → AreFaithful (field_jobs s level links fs)
of_fields s level links [] = tt
of_fields s level links (f ∷ fs) = (of_form s (form_at s f.form), of_fields s level links fs)

of_elements : (s : Schema) (of level links at n : ℕ) → AreFaithful (element_jobs s of level links at n)
of_elements s of level links at zero = tt
of_elements s of level links at (suc n) = (of_form s (form_at s of), of_elements s of level links (suc at) n)

of_arm : (s : Schema) (level links : ℕ) (a : Option Arm) → AreFaithful (arm_jobs s level links a)
of_arm s level links None = tt
of_arm s level links (Some arms.Void) = tt
of_arm s level links (Some (arms.Of f)) = (of_form s (form_at s f.form), tt)

of_members : (s : Schema) (l : Layout) (p : Spot) → AreFaithful (members s l p)
of_members s (Fields fs) p = of_fields s (suc p.level) p.links fs
of_members s (Elements of n) p = of_elements s of (suc p.level) p.links 0 n
of_members s _ p = tt

of_link : (s : Schema) (of level links : ℕ) (b : Bool)
    → AreFaithful (if b then [] else (job (layout_at s of) Star level links ∷ []))
of_link s of level links true = tt
of_link s of level links false = (of_form s (form_at s of), tt)

of_behind : (s : Schema) (l : Layout) (p : Spot) (w : ℕ) → IsFaithful l → AreFaithful (behind s l p w)
of_behind s (Sized leaf most) p w h = (h, tt)
of_behind s (Counted of most) p w h = of_elements s of (suc p.level) (suc p.links) 0 w
of_behind s (Optional of) p w h = of_link s of (suc p.level) (suc p.links) (nat_eq w 0)
of_behind s (Chosen discriminant choice) p w h = of_arm s (suc p.level) p.links (arm_for choice w)
of_behind s _ p w h = tt

-- ---- nodes that show no bytes

abbrev ShowNone : List Node → Type 0
ShowNone [] = Unit {0}
ShowNone (n ∷ ns) = (body_shown n.leaf ≡ None) × ShowNone ns

none_of_group : (l : Layout) (p : Spot) → ShowNone (group_nodes l p)
none_of_group (Fields fs) p = (refl, tt)
none_of_group (Elements of n) p = (refl, tt)
none_of_group _ p = tt

none_of_discriminant : (s : Schema) (f : Form) (w : ℕ) → body_shown (discriminant_leaf s f w) ≡ None
none_of_discriminant s forms.Bool w = refl
none_of_discriminant s (forms.Enum names) w = refl
none_of_discriminant s forms.UnsignedInt w = refl
none_of_discriminant s _ w = refl

none_of_link : (b : Bool) → body_shown (if b then Null else Link) ≡ None
none_of_link true = refl
none_of_link false = refl

none_of_head : (s : Schema) (l : Layout) (p : Spot) (w : ℕ) → ShowNone (head_nodes s l p w)
none_of_head s Flag p w = (refl, tt)
none_of_head s (Named names) p w = (refl, tt)
none_of_head s (Counted of most) p w = (refl, tt)
none_of_head s (Optional of) p w = (none_of_link (nat_eq w 0), tt)
none_of_head s (Chosen d choice) p w = (refl, (none_of_discriminant s (form_at s d.form) w, tt))
none_of_head s _ p w = tt

-- ---- slices

abbrev ShowSlices : List ℕ → List PlacedNode → Type 0
ShowSlices m [] = Unit {0}
ShowSlices m (n ∷ ns) = ShowsSlice m n × ShowSlices m ns

slices_behind : (m : List ℕ) (xs ys : List PlacedNode) → ShowSlices m xs → ShowSlices m ys
    → ShowSlices m (xs ++ ys)
slices_behind m [] ys h k = k
slices_behind m (x ∷ xs) ys h k = (h.0, slices_behind m xs ys h.1 k)

slices_of_none : (m : List ℕ) (at : ℕ) (ns : List Node) → ShowNone ns → ShowSlices m (map (at_place at) ns)
slices_of_none m at [] h = tt
slices_of_none m at (n ∷ ns) h = let none = h.0 in ((λ bytes e. absurd cc), slices_of_none m at ns h.1)

slice_between : (before bs rear : List ℕ) → bs ≡ take (length bs)
    (drop (length before) (before ++ (bs ++ rear)))
slice_between before bs rear = sym (ap (λ t. take (length bs) t)
    (drop_at before (bs ++ rear) (length before) refl) ∙ take_at bs rear (length bs) refl)

slices_of_body : (l : Layout) (p : Spot) (m before bs rear : List ℕ) (at : ℕ) → IsFaithful l → m ≡ before
    ++ (bs ++ rear) → at ≡ length before
    → ShowSlices m (map (at_place at) (body_nodes l p bs))
slices_of_body (Fixed leaf n) p m before bs rear at h e place = ((λ bytes is. by bytes (h bs bytes is)), tt)
  where
    there : bs ≡ take (length bs) (drop at m)
    there = let from = sym place in let whole = sym e in slice_between before bs rear
        ∙ (λ i. take (length bs) (drop (from i) (whole i)))

    by : (bytes : List ℕ) → bytes ≡ bs → bytes ≡ take (length bytes) (drop at m)
    by bytes same = subst (λ x. x ≡ take (length x) (drop at m)) (sym same) there
slices_of_body _ p m before bs rear at h e place = tt

-- the message with its parts put together in another way
behind_first : (m before a b rear : List ℕ) → m ≡ before ++ ((a ++ b) ++ rear) → m ≡ before
    ++ (a ++ (b ++ rear))
behind_first m before a b rear e = e ∙ ap (λ t. before ++ t) (append_assoc a b rear)

behind_more : (m before a b rear : List ℕ) → m ≡ before ++ ((a ++ b) ++ rear) → m ≡ (before ++ a)
    ++ (b ++ rear)
behind_more m before a b rear e = behind_first m before a b rear e ∙ sym (append_assoc before a (b ++ rear))

longer : (before a : List ℕ) (at n : ℕ) → at ≡ length before → length a ≡ n → at + n ≡ length (before ++ a)
longer before a at n place long = let l = sym long in (λ i. place i + l i) ∙ sym (length-append before a)

mutual
  slices_of : (s : Schema) (l : Layout) (p : Spot) (v : Value) (m before rear : List ℕ) (at : ℕ)
      → IsFaithful l → m ≡ before ++ (enc v ++ rear) → at ≡ length before
      → ShowSlices m (placed_nodes s l p v at)
  slices_of s l p (body bs) m before rear at h e place =
      slices_of_body l p m before bs (copies (padding (length bs)) 0 ++ rear) at h
      (behind_first m before bs (copies (padding (length bs)) 0) rear e) place
  slices_of s l p (group vs) m before rear at h e place =
      slices_behind m (map (at_place at) (group_nodes l p)) (placed_each s (members s l p) vs at)
      (slices_of_none m at (group_nodes l p) (none_of_group l p))
      (slices_of_each s (members s l p) vs m before rear at (of_members s l p) e place)
  slices_of s l p (headed w vs) m before rear at h e place =
      slices_behind m (map (at_place at) (head_nodes s l p w)) (placed_each s (behind s l p w) vs (at + 4))
      (slices_of_none m at (head_nodes s l p w) (none_of_head s l p w))
      (slices_of_each s (behind s l p w) vs m (before ++ word w) rear (at + 4) (of_behind s l p w h)
      (behind_more m before (word w) (encs vs) rear e)
      (longer before (word w) at 4 place (word_length w)))

  slices_of_each : (s : Schema) (js : List Job) (vs : Values) (m before rear : List ℕ) (at : ℕ)
      → AreFaithful js → m ≡ before ++ (encs vs ++ rear) → at ≡ length before
      → ShowSlices m (placed_each s js vs at)
  slices_of_each s [] vs m before rear at h e place = tt
  slices_of_each s (j ∷ js) end m before rear at h e place = tt
  slices_of_each s (j ∷ js) (more v vs) m before rear at h e place =
      slices_behind m (placed_nodes s j.layout j.spot v at) (placed_each s js vs (at + length (enc v)))
      (slices_of s j.layout j.spot v m before (encs vs ++ rear) at h.0
      (behind_first m before (enc v) (encs vs) rear e) place)
      (slices_of_each s js vs m (before ++ enc v) rear (at + length (enc v)) h.1
      (behind_more m before (enc v) (encs vs) rear e)
      (longer before (enc v) at (length (enc v)) place refl))

each_of : (m : List ℕ) (ns : List PlacedNode) → ShowSlices m ns → All (ShowsSlice m) ns
each_of m [] h k d lt = absurd (omega arith)
each_of m (n ∷ ns) h zero d lt = h.0
each_of m (n ∷ ns) h (suc k) d lt = each_of m ns h.1 k d (omega arith)

-- ---- a message

pub shown_in_place : (s : Schema) (id : TypeId) (bytes : List ℕ) (shown : List Node)
    → IsShown s id bytes shown
    → (placed : List PlacedNode) × IsShownAt s id bytes placed × (shown ≡ map (λ n. n.node) placed)
    × All (ShowsSlice bytes) placed
shown_in_place s id bytes shown x =
    let l = (root_job s id).layout in
    let p = (root_job s id).spot in
    let whole : bytes ≡ [] ++ (enc x.0 ++ []) = x.2 ∙ sym (append-nil (enc x.0)) in (
      placed_nodes s l p x.0 0,
      (x.0, x.1, x.2, refl),
      x.3 ∙ sym (same_nodes s l p x.0 0),
      each_of bytes (placed_nodes s l p x.0 0) (slices_of s l p x.0 bytes [] [] 0
          (of_form s (form_at s id.form)) whole refl),
    )

pub one_placing : (s : Schema) (id : TypeId) (bytes : List ℕ) (a b : List PlacedNode)
    → IsShownAt s id bytes a → IsShownAt s id bytes b → a ≡ b
one_placing s id bytes a b x y =
    let l = (root_job s id).layout in
    let p = (root_job s id).spot in
    let one = one_value s l p x.0 y.0 [] [] x.1 y.1 (ap (λ t. t ++ []) (sym x.2 ∙ y.2)) in
    x.3 ∙ ap (λ v. placed_nodes s l p v 0) one.0 ∙ sym y.3
