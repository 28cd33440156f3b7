-- The names that are found twice in a group are those that the rule names.
use Rattle.std.proofs.Common.{◌≡◌, ℕ, suc, ◌+◌, ◌⊎◌, inl, inr, Bool, true, false, List, [], ◌∷◌, ◌++◌, map}
use Rattle.std.proofs.Common.{length, length-append, Option, Some, arith, refl, sym, ap, subst, ◌∙◌}
use Rattle.std.proofs.Common.{append_assoc, append-nil}
use Rattle.std.proofs.lemmas.Option.{same_Some}
use Rattle.std.specs.List.{IsAmong}
use Rattle.x_outline.specs.Bodies.{NameAt}
use Rattle.x_rules.specs.FirstPlaces.{first_place, is_behind}
use Rattle.x_rules.specs.Found.{fault_at, repeat_code, repeats_from, repeated_names}
use Rattle.x_rules.specs.Rules.{HasName, IsRepeatedField}
use Rattle.x_rules.specs.declared.fault.RuleCode.{RuleCode}
use Rattle.x_rules.specs.declared.fault.RuleCode.TheVariants as codes
use Rattle.x_rules.specs.declared.fault.WordFault.{WordFault}
use Rattle.x_trees.proofs.AmongLemmas.{among_none, among_front, among_rear, among_parts}
use Rattle.x_rules.proofs.DuplicateLemmas.{found_behind, behind_found}
use Rattle.x_rules.proofs.FamilyLemmas.{fault_is, is_fault}
use Rattle.x_lists.proofs.ListLemmas.{map_append}

abbrev name_of : NameAt → List ℕ
name_of x = x.name

-- the first place of a name in a group
abbrev first_in : List NameAt → List ℕ → Option ℕ
first_in xs name = first_place 0 (map name_of xs) name

-- whether a name behind these is among them
abbrev repeats : List NameAt → NameAt → List NameAt → Bool
repeats front x rear = is_behind (first_in (front ++ x ∷ rear) x.name) (length front)

repeats_by : (front : List NameAt) (x : NameAt) (rear : List NameAt) → repeats front x rear
    ≡ is_behind (first_place 0 (map name_of front ++ map name_of (x ∷ rear)) x.name) (0 + length front)
repeats_by front x rear =
    let zero_more : length front ≡ 0 + length front = omega arith in
    ap (λ l. is_behind (first_place 0 l x.name) (length front)) (map_append name_of front (x ∷ rear))
    ∙ ap (is_behind (first_place 0 (map name_of front ++ map name_of (x ∷ rear)) x.name)) zero_more

repeats_is : (front : List NameAt) (x : NameAt) (rear : List NameAt) → repeats front x rear ≡ true
    → HasName name_of front x.name
repeats_is front x rear h = found_behind name_of 0 front (map name_of (x ∷ rear)) x.name
    (sym (repeats_by front x rear) ∙ h)

is_repeat : (front : List NameAt) (x : NameAt) (rear : List NameAt) → HasName name_of front x.name
    → repeats front x rear ≡ true
is_repeat front x rear h = repeats_by front x rear
    ∙ behind_found name_of 0 front (map name_of (x ∷ rear)) x.name h

code_is : (b : Bool) (code : RuleCode) → repeat_code b ≡ Some code → (b ≡ true) × (codes.RepeatedField ≡ code)
code_is true code h = (refl, same_Some codes.RepeatedField code h)
code_is false code h = absurd (cc)

-- a name of a group that stands there before
record Repeated (all : List NameAt) (word : ℕ) : Type 0 where
  pub front : List NameAt
  pub here : NameAt
  pub rear : List NameAt
  pub parts : all ≡ front ++ here ∷ rear
  pub word_is : word ≡ here.word
  pub earlier : HasName name_of front here.name

-- one name more is in front
abbrev onward : List NameAt → NameAt → List NameAt → List NameAt
onward front x rear = (front ++ x ∷ []) ++ rear

moved : (front : List NameAt) (x : NameAt) (rear : List NameAt) → onward front x rear ≡ front ++ x ∷ rear
moved front x rear = append_assoc front (x ∷ []) rear

count : (front : List NameAt) (x : NameAt) → length (front ++ x ∷ []) ≡ suc (length front)
count front x = omega (arith, length-append front (x ∷ []))

-- the faults of the names behind these
abbrev behind : List NameAt → List NameAt → List WordFault
behind front rear = repeats_from (first_in (front ++ rear)) (length front) rear

-- behind one name more they are those of the rest
behind_next : (front : List NameAt) (x : NameAt) (rear : List NameAt)
    → behind (front ++ x ∷ []) rear ≡ repeats_from (first_in (front ++ x ∷ rear)) (suc (length front)) rear
behind_next front x rear = ap (λ all. repeats_from (first_in all) (length (front ++ x ∷ [])) rear)
    (moved front x rear) ∙ ap (λ n. repeats_from (first_in (front ++ x ∷ rear)) n rear) (count front x)

found_repeat : (front rear : List NameAt) (f : WordFault) → IsAmong (behind front rear) f
    → (f.code ≡ codes.RepeatedField) × Repeated (front ++ rear) f.word
found_repeat front [] f h = absurd (among_none f h)
found_repeat front (x ∷ rear) f h =
    by (among_parts (fault_at x.word (repeat_code (repeats front x rear)))
    (repeats_from (first_in (front ++ x ∷ rear)) (suc (length front)) rear) f h)
    (found_repeat (front ++ x ∷ []) rear f)
  where
    by : IsAmong (fault_at x.word (repeat_code (repeats front x rear))) f
        ⊎ IsAmong (repeats_from (first_in (front ++ x ∷ rear)) (suc (length front)) rear) f
        → (IsAmong (behind (front ++ x ∷ []) rear) f
        → (f.code ≡ codes.RepeatedField) × Repeated (onward front x rear) f.word)
        → (f.code ≡ codes.RepeatedField) × Repeated (front ++ x ∷ rear) f.word
    by (inl k) more =
        let is = fault_is x.word (repeat_code (repeats front x rear)) f k in
        let code = code_is (repeats front x rear) f.code is.code_is in (
          sym code.1,
          record {
            front = front;
            here = x;
            rear = rear;
            parts = refl;
            word_is = is.word_is;
            earlier = repeats_is front x rear code.0;
          },
        )
    by (inr k) more =
        let r = more (subst (λ l. IsAmong l f) (sym (behind_next front x rear)) k) in
        (r.0, subst (λ all. Repeated all f.word) (moved front x rear) r.1)

repeat_found : (before front : List NameAt) (here : NameAt) (rear : List NameAt)
    → HasName name_of (before ++ front) here.name
    → IsAmong (behind before (front ++ here ∷ rear)) (record { word = here.word; code = codes.RepeatedField })
repeat_found before [] here rear h =
    among_front (fault_at here.word (repeat_code (repeats before here rear)))
    (repeats_from (first_in (before ++ here ∷ rear)) (suc (length before)) rear)
    (record { word = here.word; code = codes.RepeatedField })
    (is_fault here.word here.word (repeat_code (repeats before here rear)) codes.RepeatedField refl
    (ap repeat_code
    (is_repeat before here rear (subst (λ l. HasName name_of l here.name) (append-nil before) h))))
repeat_found before (x ∷ front) here rear h =
    let more = repeat_found (before ++ x ∷ []) front here rear
    (subst (λ l. HasName name_of l here.name) (sym (append_assoc before (x ∷ []) front)) h) in
    among_rear (fault_at x.word (repeat_code (repeats before x (front ++ here ∷ rear))))
    (repeats_from (first_in (before ++ x ∷ (front ++ here ∷ rear))) (suc (length before))
    (front ++ here ∷ rear))
    (record { word = here.word; code = codes.RepeatedField })
    (subst (λ l. IsAmong l (record { word = here.word; code = codes.RepeatedField }))
    (behind_next before x (front ++ here ∷ rear)) more)

pub found_field : (groups : List (List NameAt)) (group : List NameAt) (f : WordFault) → IsAmong groups group
    → IsAmong (repeated_names group) f → (f.code ≡ codes.RepeatedField) × IsRepeatedField groups f.word
found_field groups group f among h =
    let r = found_repeat [] group f h in
    let is = r.1 in (
      r.0,
      record {
        group = group;
        is_group = among;
        front = is.front;
        here = is.here;
        rear = is.rear;
        parts = is.parts;
        word_is = is.word_is;
        earlier = is.earlier;
      },
    )

pub field_found : (groups : List (List NameAt)) (word : ℕ) (h : IsRepeatedField groups word)
    → IsAmong (repeated_names h.group) (record { word = word; code = codes.RepeatedField })
field_found groups word h =
    subst (λ w. IsAmong (repeated_names h.group) (record { word = w; code = codes.RepeatedField }))
    (sym h.word_is)
    (subst (λ l. IsAmong (repeated_names l) (record { word = h.here.word; code = codes.RepeatedField }))
    (sym h.parts)
    (repeat_found [] h.front h.here h.rear h.earlier))
