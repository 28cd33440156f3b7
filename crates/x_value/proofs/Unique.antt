-- No two values of a type have one encoding, and none begins another.
use Rattle.std.proofs.Common.{◌≡◌, ℕ, List, [], ◌∷◌, ◌++◌, length, refl, sym, ◌∙◌, ap, subst, append_assoc}
use Rattle.x_schema.specs.Schema.{Schema}
use Rattle.x_value.specs.Values.{Value, Values, body, group, headed, end, more, enc, encs}
use Rattle.x_units.specs.Units.{word}
use Rattle.x_value.specs.Layouts.{Layout, Fixed, Fields, Elements, Spot, Job, members, behind}
use Rattle.x_value.specs.Readings.{IsLeafBody, IsGroup, IsHeaded, Fits, Suits}
use Rattle.x_value.proofs.Bytes.{word_cancel, body_cancel}

pub body_not_group : (l : Layout) (bs : List ℕ) → IsLeafBody l bs → IsGroup l → ⊥
body_not_group (Fixed leaf n) bs b g = g
body_not_group (Fields fs) bs b g = b
body_not_group (Elements of n) bs b g = b
body_not_group _ bs b g = g

pub body_not_headed : (l : Layout) (bs : List ℕ) → IsLeafBody l bs → IsHeaded l → ⊥
body_not_headed (Fixed leaf n) bs b h = h
body_not_headed (Fields fs) bs b h = h
body_not_headed (Elements of n) bs b h = h
body_not_headed _ bs b h = b

pub group_not_headed : (l : Layout) → IsGroup l → IsHeaded l → ⊥
group_not_headed (Fixed leaf n) g h = h
group_not_headed (Fields fs) g h = h
group_not_headed (Elements of n) g h = h
group_not_headed _ g h = g

same_length : (l : Layout) (a b : List ℕ) → IsLeafBody l a → IsLeafBody l b → length a ≡ length b
same_length (Fixed leaf n) a b h k = h.0 ∙ sym k.0
same_length _ a b h k = absurd h

mutual
  pub one_value : (s : Schema) (l : Layout) (p : Spot) (v w : Value) (x y : List ℕ) → Fits s l p v
      → Fits s l p w → enc v ++ x ≡ enc w ++ y → (v ≡ w) × (x ≡ y)
  one_value s l p (body a) (body b) x y h k e =
      let c = body_cancel a b x y (same_length l a b h k) e in (ap body c.0, c.1)
  one_value s l p (body a) (group b) x y h k e = absurd (body_not_group l a h k.0)
  one_value s l p (body a) (headed u b) x y h k e = absurd (body_not_headed l a h k.0)
  one_value s l p (group a) (body b) x y h k e = absurd (body_not_group l b k h.0)
  one_value s l p (group a) (group b) x y h k e =
      let c = one_values s (members s l p) a b x y h.1 k.1 e in (ap group c.0, c.1)
  one_value s l p (group a) (headed u b) x y h k e = absurd (group_not_headed l h.0 k.0)
  one_value s l p (headed u a) (body b) x y h k e = absurd (body_not_headed l b k h.0)
  one_value s l p (headed u a) (group b) x y h k e = absurd (group_not_headed l k.0 h.0)
  one_value s l p (headed u a) (headed w b) x y h k e =
      let c = word_cancel u w (encs a ++ x) (encs b ++ y) h.1 k.1 (sym (append_assoc (word u) (encs a) x) ∙ e
      ∙ append_assoc (word w) (encs b) y) in
      let d = one_values s (behind s l p u) a b x y h.3
      (subst (λ t. Suits s (behind s l p t) b) (sym c.0) k.3) c.1 in
      (ap (λ t. headed t a) c.0 ∙ ap (λ t. headed w t) d.0, d.1)

  pub one_values : (s : Schema) (js : List Job) (v w : Values) (x y : List ℕ) → Suits s js v → Suits s js w
      → encs v ++ x ≡ encs w ++ y → (v ≡ w) × (x ≡ y)
  one_values s [] end end x y h k e = (refl, e)
  one_values s [] end (more b bs) x y h k e = absurd k
  one_values s [] (more a as') w x y h k e = absurd h
  one_values s (j ∷ js) end w x y h k e = absurd h
  one_values s (j ∷ js) (more a as') end x y h k e = absurd k
  one_values s (j ∷ js) (more a as') (more b bs) x y h k e =
      let c = one_value s j.layout j.spot a b (encs as' ++ x) (encs bs ++ y) h.0 k.0
      (sym (append_assoc (enc a) (encs as') x) ∙ e ∙ append_assoc (enc b) (encs bs) y) in
      let d = one_values s js as' bs x y h.1 k.1 c.1 in
      (ap (λ t. more t as') c.0 ∙ ap (λ t. more b t) d.0, d.1)
