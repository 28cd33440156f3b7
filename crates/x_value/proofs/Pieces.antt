-- What stands behind the front of what is to be read.
use Rattle.std.proofs.Common.{◌≡◌, ℕ, ◌*◌, List, [], ◌∷◌, ◌++◌, length, refl, sym, ◌∙◌, ap, append_assoc}
use Rattle.std.proofs.lemmas.List.{append_cancel_left}
use Rattle.x_schema.specs.Schema.{Schema}
use Rattle.x_schema.specs.Sound.{IsSound}
use Rattle.x_value.specs.Shown.{Node}
use Rattle.x_value.specs.Values.{Value, Values, end, more, enc, encs}
use Rattle.x_value.specs.Layouts.{Layout, Spot, Job, placed}
use Rattle.x_value.specs.Readings.{Fits, Suits, UnitRole, roles, roles_each, nodes, nodes_each}
use Rattle.x_value.specs.Language.{Leads, Begins}
use Rattle.x_value.specs.Jobs.{Spells, AreReady, Moves}
use Rattle.x_value.proofs.Sound.{some_values}

-- ---- values one behind another

pub join : Values → Values → Values
join end ws = ws
join (more v vs) ws = more v (join vs ws)

pub suits_join : (s : Schema) (js ks : List Job) (v w : Values) → Suits s js v → Suits s ks w
    → Suits s (js ++ ks) (join v w)
unfolding join
suits_join s [] ks end w h k = k
suits_join s [] ks (more a v) w h k = absurd h
suits_join s (j ∷ js) ks end w h k = absurd h
suits_join s (j ∷ js) ks (more a v) w h k = (h.0, suits_join s js ks v w h.1 k)

pub encs_join : (v w : Values) → encs (join v w) ≡ encs v ++ encs w
unfolding join
encs_join end w = refl
encs_join (more a v) w = ap (λ t. enc a ++ t) (encs_join v w) ∙ sym (append_assoc (enc a) (encs v) (encs w))

pub roles_join : (s : Schema) (js ks : List Job) (v w : Values) → Suits s js v
    → roles_each s (js ++ ks) (join v w) ≡ roles_each s js v ++ roles_each s ks w
unfolding join
roles_join s [] ks end w h = refl
roles_join s [] ks (more a v) w h = absurd h
roles_join s (j ∷ js) ks end w h = absurd h
roles_join s (j ∷ js) ks (more a v) w h =
    ap (λ t. roles s j.layout j.spot a ++ t) (roles_join s js ks v w h.1)
    ∙ sym (append_assoc (roles s j.layout j.spot a) (roles_each s js v) (roles_each s ks w))

pub nodes_join : (s : Schema) (js ks : List Job) (v w : Values) → Suits s js v
    → nodes_each s (js ++ ks) (join v w) ≡ nodes_each s js v ++ nodes_each s ks w
unfolding join
nodes_join s [] ks end w h = refl
nodes_join s [] ks (more a v) w h = absurd h
nodes_join s (j ∷ js) ks end w h = absurd h
nodes_join s (j ∷ js) ks (more a v) w h =
    ap (λ t. nodes s j.layout j.spot a ++ t) (nodes_join s js ks v w h.1)
    ∙ sym (append_assoc (nodes s j.layout j.spot a) (nodes_each s js v) (nodes_each s ks w))

pub record Parts (s : Schema) (js ks : List Job) (v : Values) : Type 0 where
  pub one : Values
  pub two : Values
  pub joined : v ≡ join one two
  pub one_suits : Suits s js one
  pub two_suits : Suits s ks two

pub suits_split : (s : Schema) (js ks : List Job) (v : Values) → Suits s (js ++ ks) v → Parts s js ks v
unfolding join
suits_split s [] ks v h = record { one = end; two = v; joined = refl; one_suits = tt; two_suits = h }
suits_split s (j ∷ js) ks end h = absurd h
suits_split s (j ∷ js) ks (more a v) h =
    let p = suits_split s js ks v h.1 in
    record {
      one = more a p.one;
      two = p.two;
      joined = ap (λ t. more a t) p.joined;
      one_suits = (h.0, p.one_suits);
      two_suits = p.two_suits;
    }

pub begins_any : (s : Schema) (js : List Job) → IsSound s → AreReady s js → Begins (Spells s js) []
begins_any s js sound ready =
    let some = some_values s js sound ready in
    record {
      rest = encs some.0;
      told = roles_each s js some.0;
      shown = nodes_each s js some.0;
      is_in = record { values = some.0; suits = some.1; bytes = refl; told = refl; shown = refl };
    }

-- ---- the front of a value

-- behind the front of a value of the layout stand values of these types
pub record Opens (s : Schema) (l : Layout) (p : Spot) (js : List Job) (front : List ℕ) (told : List UnitRole)
    (shown : List Node) : Type 0 where
  pub on : (vs : Values) → Suits s js vs → (v : Value) × Fits s l p v × (enc v ≡ front ++ encs vs)
      × (roles s l p v ≡ told ++ roles_each s js vs) × (nodes s l p v ≡ shown ++ nodes_each s js vs)
  pub back : (v : Value) (x y : List ℕ) → Fits s l p v → enc v ++ y ≡ front ++ x
      → (vs : Values) × Suits s js vs × (enc v ≡ front ++ encs vs)
      × (roles s l p v ≡ told ++ roles_each s js vs) × (nodes s l p v ≡ shown ++ nodes_each s js vs)

opened_back : (s : Schema) (j : Job) (js ks : List Job) (front : List ℕ) (told : List UnitRole)
    (shown : List Node) (x : List ℕ) (z : List UnitRole) (m : List Node)
    → Opens s j.layout j.spot js front told shown →
    (vs : Values) → Suits s (j ∷ ks) vs → front ++ x ≡ encs vs → z ≡ roles_each s (j ∷ ks) vs
    → m ≡ nodes_each s (j ∷ ks) vs →
    (y : List UnitRole) × (n : List Node) × (z ≡ told ++ y) × (m ≡ shown ++ n) × Spells s (js ++ ks) x y n
opened_back s j js ks front told shown x z m o end h b t d = absurd h
opened_back s j js ks front told shown x z m o (more v ws) h b t d =
    let p = o.back v x (encs ws) h.0 (sym b) in
    let bytes : enc v ≡ front ++ encs p.0 = p.2 in
    let tells : roles s j.layout j.spot v ≡ told ++ roles_each s js p.0 = p.3 in
    let shows : nodes s j.layout j.spot v ≡ shown ++ nodes_each s js p.0 = p.4 in
    let beyond : front ++ x ≡ front ++ (encs p.0 ++ encs ws) = b ∙ ap (λ u. u ++ encs ws) bytes
    ∙ append_assoc front (encs p.0) (encs ws) in (
      roles_each s (js ++ ks) (join p.0 ws),
      nodes_each s (js ++ ks) (join p.0 ws),
      t ∙ ap (λ u. u ++ roles_each s ks ws) tells
          ∙ append_assoc told (roles_each s js p.0) (roles_each s ks ws)
          ∙ ap (λ u. told ++ u) (sym (roles_join s js ks p.0 ws p.1)),
      d ∙ ap (λ u. u ++ nodes_each s ks ws) shows
          ∙ append_assoc shown (nodes_each s js p.0) (nodes_each s ks ws)
          ∙ ap (λ u. shown ++ u) (sym (nodes_join s js ks p.0 ws p.1)),
      record {
        values = join p.0 ws;
        suits = suits_join s js ks p.0 ws p.1 h.1;
        bytes = append_cancel_left front x (encs p.0 ++ encs ws) beyond ∙ sym (encs_join p.0 ws);
        told = refl;
        shown = refl;
      },
    )

pub opened : (s : Schema) (j : Job) (js ks : List Job) (front : List ℕ) (told : List UnitRole)
    (shown : List Node) → Opens s j.layout j.spot js front told shown
    → Leads (Spells s (j ∷ ks)) front told shown (Spells s (js ++ ks))
opened s j js ks front told shown o = record {
  on = λ x y n h.
      let p = suits_split s js ks h.values h.suits in
      let v = o.on p.one p.one_suits in
      record {
        values = more v.0 p.two;
        suits = (v.1, p.two_suits);
        bytes =
            let b : x ≡ encs h.values = h.bytes in
            let b' : encs h.values ≡ encs p.one ++ encs p.two = ap encs p.joined ∙ encs_join p.one p.two in
            let b'' : enc v.0 ≡ front ++ encs p.one = v.2 in
            ap (λ t. front ++ t) (b ∙ b') ∙ sym (append_assoc front (encs p.one) (encs p.two))
            ∙ ap (λ t. t ++ encs p.two) (sym b'');
        told =
            let b : y ≡ roles_each s (js ++ ks) h.values = h.told in
            let b' : roles_each s (js ++ ks) h.values ≡ roles_each s js p.one ++ roles_each s ks p.two =
            ap (λ t. roles_each s (js ++ ks) t) p.joined ∙ roles_join s js ks p.one p.two p.one_suits in
            ap (λ t. told ++ t) (b ∙ b')
            ∙ sym (append_assoc told (roles_each s js p.one) (roles_each s ks p.two))
            ∙ ap (λ t. t ++ roles_each s ks p.two) (sym v.3);
        shown =
            let b : n ≡ nodes_each s (js ++ ks) h.values = h.shown in
            let b' : nodes_each s (js ++ ks) h.values ≡ nodes_each s js p.one ++ nodes_each s ks p.two =
            ap (λ t. nodes_each s (js ++ ks) t) p.joined ∙ nodes_join s js ks p.one p.two p.one_suits in
            ap (λ t. shown ++ t) (b ∙ b')
            ∙ sym (append_assoc shown (nodes_each s js p.one) (nodes_each s ks p.two))
            ∙ ap (λ t. t ++ nodes_each s ks p.two) (sym v.4);
      };
  back = λ x z m h. opened_back s j js ks front told shown x z m o h.values h.suits h.bytes h.told h.shown;
}

pub moves_of : (s : Schema) (l : Layout) (p : Spot) (js : List Job) (front : List ℕ) (told : List UnitRole)
    (shown : List Node) (m rest : List ℕ) → Opens s l p js front told shown → m ≡ front ++ rest
    → length front ≡ 4 * length told → (ks : List Job) → Moves s (placed l p ∷ ks) m shown (js ++ ks) rest
moves_of s l p js front told shown m rest o parts even ks = record {
  front = front;
  told = told;
  parts = parts;
  even = even;
  leads = opened s (placed l p) js ks front told shown o;
}
