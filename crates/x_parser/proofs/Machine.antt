-- What a machine of symbols accepts, and where it is stuck, for any symbols and entries.
use Rattle.std.proofs.Common.{◌≡◌, ◌≢◌, ℕ, suc, List, [], ◌∷◌, ◌++◌, length, Option, Some, None, Result, Ok}
use Rattle.std.proofs.Common.{Err, refl, ap, sym, ◌∙◌, subst, append_assoc}
use Rattle.x_parser.specs.Symbols.{go}

-- what is left once the stack is empty, or how many entries are left where the machine is stuck: 0 at the end
abbrev pub drive : {S I : Type 0} → (S → I → Option (List S)) → List S → List I → Result (List I) ℕ
drive step [] ws = Ok ws
drive step (s ∷ ss) [] = Err 0
drive step (s ∷ ss) (w ∷ ws) = go (step s w) (λ rhs. drive step (rhs ++ ss) ws) (Err (suc (length ws)))

-- a value for each symbol
abbrev pub Vals : {S : Type 0} → (S → Type 0) → List S → Type 0
Vals V [] = Unit {0}
Vals V (s ∷ ss) = V s × Vals V ss

abbrev pub Kids : {S : Type 0} → (S → Type 0) → Option (List S) → Type 0
Kids V None = ⊥
Kids V (Some ss) = Vals V ss

abbrev pub texts : {S I : Type 0} → (V : S → Type 0) → ((s : S) → V s → List I) → (ss : List S)
    → Vals V ss → List I
texts V text [] vs = []
texts V text (s ∷ ss) vs = text s vs.0 ++ texts V text ss vs.1

abbrev pub kid_texts : {S I : Type 0} → (V : S → Type 0) → ((s : S) → V s → List I) → (o : Option (List S))
    → Kids V o → List I
kid_texts V text None k = []
kid_texts V text (Some ss) vs = texts V text ss vs

-- values of a list of symbols, put together and taken apart
pub join : {S : Type 0} (V : S → Type 0) (a b : List S) → Vals V a → Vals V b → Vals V (a ++ b)
join V [] b va vb = vb
join V (s ∷ a) b va vb = (va.0, join V a b va.1 vb)

pub texts_join : {S I : Type 0} (V : S → Type 0) (text : (s : S) → V s → List I) (a b : List S)
    (va : Vals V a) (vb : Vals V b) → texts V text (a ++ b) (join V a b va vb)
    ≡ texts V text a va ++ texts V text b vb
unfolding join
texts_join V text [] b va vb = refl
texts_join V text (s ∷ a) b va vb = ap (λ t. text s va.0 ++ t) (texts_join V text a b va.1 vb)
    ∙ sym (append_assoc (text s va.0) (texts V text a va.1) (texts V text b vb))

pub front : {S : Type 0} (V : S → Type 0) (a b : List S) → Vals V (a ++ b) → Vals V a
front V [] b v = tt
front V (s ∷ a) b v = (v.0, front V a b v.1)

pub back : {S : Type 0} (V : S → Type 0) (a b : List S) → Vals V (a ++ b) → Vals V b
back V [] b v = v
back V (s ∷ a) b v = back V a b v.1

pub join_parts : {S : Type 0} (V : S → Type 0) (a b : List S) (v : Vals V (a ++ b))
    → join V a b (front V a b v) (back V a b v) ≡ v
unfolding join front back
join_parts V [] b v = refl
join_parts V (s ∷ a) b v = ap (λ x. (v.0, x)) (join_parts V a b v.1)

pub front_join : {S : Type 0} (V : S → Type 0) (a b : List S) (va : Vals V a) (vb : Vals V b)
    → front V a b (join V a b va vb) ≡ va
unfolding join front
front_join V [] b va vb = refl
front_join V (s ∷ a) b va vb = ap (λ x. (va.0, x)) (front_join V a b va.1 vb)

pub back_join : {S : Type 0} (V : S → Type 0) (a b : List S) (va : Vals V a) (vb : Vals V b)
    → back V a b (join V a b va vb) ≡ vb
unfolding join back
back_join V [] b va vb = refl
back_join V (s ∷ a) b va vb = back_join V a b va.1 vb

go_more : {S I : Type 0} (step : S → I → Option (List S)) (ws : List I) (a b : List S) (n m : ℕ)
    (o : Option (List S)) → ((c : List S) → drive step c ws ≡ Err n → drive step (c ++ b) ws ≡ Err n)
    → go o (λ rhs. drive step (rhs ++ a) ws) (Err m) ≡ Err n
    → go o (λ rhs. drive step (rhs ++ (a ++ b)) ws) (Err m) ≡ Err n
go_more step ws a b n m None ih e = e
go_more step ws a b n m (Some rhs) ih e = ap (λ c. drive step c ws) (sym (append_assoc rhs a b))
    ∙ ih (rhs ++ a) e

-- more symbols change nothing where the machine is stuck
pub stuck_more : {S I : Type 0} (step : S → I → Option (List S)) (ws : List I) (a b : List S) (n : ℕ)
    → drive step a ws ≡ Err n → drive step (a ++ b) ws ≡ Err n
stuck_more step ws [] b n e = cc
stuck_more step [] (s ∷ a) b n e = e
stuck_more step (w ∷ ws) (s ∷ a) b n e =
    go_more step ws a b n (suc (length ws)) (step s w) (λ c f. stuck_more step ws c b n f) e

-- where a machine is stuck with n entries left: what it has seen
-- begins a text, and with the entry ahead of it nothing does
pub record Stuck {S I : Type 0} (V : S → Type 0) (text : (s : S) → V s → List I) (ss : List S) (ws : List I)
    (n : ℕ) : Type 0 where
  pub seen : List I
  pub ahead : List I
  pub parts : ws ≡ seen ++ ahead
  pub left : length ahead ≡ n
  pub begins : (v : Vals V ss) × (more : List I) × (texts V text ss v ≡ seen ++ more)
  pub ends : (w : I) (rest : List I) → ahead ≡ w ∷ rest → (v : Vals V ss) (more : List I)
      → texts V text ss v ≢ seen ++ w ∷ more
  pub short : ahead ≡ [] → (v : Vals V ss) → texts V text ss v ≢ seen

-- What each symbol has to bring: the value that a step and the values of its symbols make, with its text;
-- each value's first entry and parts; and a value.
module _ {S I : Type 0} (step : S → I → Option (List S)) (V : S → Type 0) (text : (s : S) → V s → List I)
    (build : (s : S) (w : I) → Kids V (step s w) → V s)
    (built : (s : S) (w : I) (k : Kids V (step s w))
    → text s (build s w k) ≡ w ∷ kid_texts V text (step s w) k)
    (split : (s : S) (v : V s) → (w : I) × (k : Kids V (step s w)) × (v ≡ build s w k))
    (least : (s : S) → V s) where
  -- the first entry of a value
  opened : (s : S) (v : V s)
      → text s v ≡ (split s v).0 ∷ kid_texts V text (step s (split s v).0) (split s v).1
  opened s v = ap (text s) (split s v).2 ∙ built s (split s v).0 (split s v).1

  past_kids : (a b : List S) (va : Vals V a) (ws rest : List I) (n : Result (List I) ℕ) (o : Option (List S))
      (k : Kids V o) → ((c : List S) (vc : Vals V c) → texts V text c vc ≡ ws
      → drive step (c ++ b) (ws ++ rest) ≡ drive step b rest) → kid_texts V text o k ++ texts V text a va ≡ ws
      → go o (λ rhs. drive step (rhs ++ (a ++ b)) (ws ++ rest)) n ≡ drive step b rest
  past_kids a b va ws rest n None k ih e = absurd k
  past_kids a b va ws rest n (Some rhs) k ih e =
      ap (λ c. drive step c (ws ++ rest)) (sym (append_assoc rhs a b))
      ∙ ih (rhs ++ a) (join V rhs a k va) (texts_join V text rhs a k va ∙ e)

  -- the machine goes past what values spell
  pub past : (ws : List I) (a b : List S) (va : Vals V a) (rest : List I) → texts V text a va ≡ ws
      → drive step (a ++ b) (ws ++ rest) ≡ drive step b rest
  past [] [] b va rest e = refl
  past (w ∷ ws) [] b va rest e = cc
  past [] (s ∷ a) b va rest e =
      let o = opened s va.0 in
      let f : (split s va.0).0 ∷ (kid_texts V text (step s (split s va.0).0) (split s va.0).1
      ++ texts V text a va.1) ≡ [] = sym (ap (λ t. t ++ texts V text a va.1) o) ∙ e in
      cc
  past (w ∷ ws) (s ∷ a) b va rest e =
      let o = opened s va.0 in
      let x = (split s va.0).0 in
      let k = (split s va.0).1 in
      let f : x ∷ (kid_texts V text (step s x) k ++ texts V text a va.1) ≡ w ∷ ws =
      sym (ap (λ t. t ++ texts V text a va.1) o) ∙ e in
      let hd : x ≡ w = cc in
      let tl : kid_texts V text (step s x) k ++ texts V text a va.1 ≡ ws = cc in
      subst (λ y. go (step s y) (λ rhs. drive step (rhs ++ (a ++ b)) (ws ++ rest))
      (Err (suc (length (ws ++ rest)))) ≡ drive step b rest) hd
      (past_kids a b va.1 ws rest (Err (suc (length (ws ++ rest)))) (step s x) k
      (λ c vc. past ws c b vc rest) tl)

  -- a value for each symbol of a list
  least_all : (ss : List S) → Vals V ss
  least_all [] = tt
  least_all (s ∷ ss) = (least s, least_all ss)

  -- the text of a list of symbols begins with an entry that the first symbol takes
  unwound : (P : I → Type 0) (s : S) (ss : List S) (v : Vals V (s ∷ ss)) (w : I) (rest : List I)
      → texts V text (s ∷ ss) v ≡ w ∷ rest
      → (k : Kids V (step s w)) × (kid_texts V text (step s w) k ++ texts V text ss v.1 ≡ rest)
  unwound P s ss v w rest e =
      let o = opened s v.0 in
      let x = (split s v.0).0 in
      let k = (split s v.0).1 in
      let f : x ∷ (kid_texts V text (step s x) k ++ texts V text ss v.1) ≡ w ∷ rest =
      sym (ap (λ t. t ++ texts V text ss v.1) o) ∙ e in
      let hd : x ≡ w = cc in
      let tl : kid_texts V text (step s x) k ++ texts V text ss v.1 ≡ rest = cc in
      subst (λ y. (k : Kids V (step s y)) × (kid_texts V text (step s y) k ++ texts V text ss v.1 ≡ rest)) hd
      (k, tl)

  never_empty : (s : S) (ss : List S) (v : Vals V (s ∷ ss)) → texts V text (s ∷ ss) v ≢ []
  never_empty s ss v e =
      let o = opened s v.0 in
      let f : (split s v.0).0 ∷ (kid_texts V text (step s (split s v.0).0) (split s v.0).1
      ++ texts V text ss v.1) ≡ [] = sym (ap (λ t. t ++ texts V text ss v.1) o) ∙ e in
      cc

  stuck_kids : (s : S) (ss : List S) (w : I) (ws : List I) (n : ℕ) (o : Option (List S)) → o ≡ step s w
      → ((c : List S) → drive step c ws ≡ Err n → Stuck V text c ws n)
      → go o (λ rhs. drive step (rhs ++ ss) ws) (Err (suc (length ws))) ≡ Err n
      → Stuck V text (s ∷ ss) (w ∷ ws) n
  stuck_kids s ss w ws n None is ih e = record {
    seen = [];
    ahead = w ∷ ws;
    parts = refl;
    left = cc;
    begins = (least_all (s ∷ ss), texts V text (s ∷ ss) (least_all (s ∷ ss)), refl);
    ends = λ x rest at v more t. let u = unwound (λ y. ⊥) s ss v x more t in let same : w ≡ x = cc in
        subst (λ o. Kids V o) (sym is) (subst (λ y. Kids V (step s y)) (sym same) u.0);
    short = λ at v t. cc;
  }
  stuck_kids s ss w ws n (Some rhs) is ih e =
      let h = ih (rhs ++ ss) e in
      let turn = λ (y : List S) (p : Some rhs ≡ step s w). p in
      record {
        seen = w ∷ h.seen;
        ahead = h.ahead;
        parts = ap (λ t. w ∷ t) h.parts;
        left = h.left;
        begins =
            let kids = subst (λ o. (k : Kids V o)
            × (kid_texts V text o k ++ texts V text ss (back V rhs ss h.begins.0) ≡ h.seen ++ h.begins.1))
            is (
              front V rhs ss h.begins.0,
              sym (texts_join V text rhs ss (front V rhs ss h.begins.0) (back V rhs ss h.begins.0))
                  ∙ ap (texts V text (rhs ++ ss)) (join_parts V rhs ss h.begins.0) ∙ h.begins.2,
            ) in (
              (build s w kids.0, back V rhs ss h.begins.0),
              h.begins.1,
              ap (λ t. t ++ texts V text ss (back V rhs ss h.begins.0)) (built s w kids.0)
                  ∙ ap (λ t. w ∷ t) kids.1,
            );
        ends = λ x rest at v more t.
            let u = unwound (λ y. ⊥) s ss v w (h.seen ++ x ∷ more) t in
            let kids = subst (λ o. (k : Kids V o)
            × (kid_texts V text o k ++ texts V text ss v.1 ≡ h.seen ++ x ∷ more)) (sym is) u in
            h.ends x rest at (join V rhs ss kids.0 v.1) more (texts_join V text rhs ss kids.0 v.1 ∙ kids.1);
        short = λ at v t.
            let u = unwound (λ y. ⊥) s ss v w h.seen t in
            let kids = subst (λ o. (k : Kids V o) × (kid_texts V text o k ++ texts V text ss v.1 ≡ h.seen))
            (sym is) u in
            h.short at (join V rhs ss kids.0 v.1) (texts_join V text rhs ss kids.0 v.1 ∙ kids.1);
      }

  pub stuck : (ws : List I) (ss : List S) (n : ℕ) → drive step ss ws ≡ Err n → Stuck V text ss ws n
  stuck ws [] n e = cc
  stuck [] (s ∷ ss) n e = record {
    seen = [];
    ahead = [];
    parts = refl;
    left = cc;
    begins = (least_all (s ∷ ss), texts V text (s ∷ ss) (least_all (s ∷ ss)), refl);
    ends = λ x rest at v more t. cc;
    short = λ at v t. never_empty s ss v t;
  }
  stuck (w ∷ ws) (s ∷ ss) n e = stuck_kids s ss w ws n (step s w) refl (λ c d. stuck ws c n d) e

  -- two values with one text are the same
  one_kids : (s : S) (a : List S) (w : I) (ws : List I) (o : Option (List S)) (k l : Kids V o)
      (va vb : Vals V a) → ((c : List S) (v u : Vals V c) → texts V text c v ≡ ws → texts V text c u ≡ ws
      → v ≡ u) → kid_texts V text o k ++ texts V text a va ≡ ws
      → kid_texts V text o l ++ texts V text a vb ≡ ws → (k ≡ l) × (va ≡ vb)
  one_kids s a w ws None k l va vb ih p q = absurd k
  one_kids s a w ws (Some rhs) k l va vb ih p q =
      let e = ih (rhs ++ a) (join V rhs a k va) (join V rhs a l vb) (texts_join V text rhs a k va ∙ p)
      (texts_join V text rhs a l vb ∙ q) in (
        sym (front_join V rhs a k va) ∙ ap (front V rhs a) e ∙ front_join V rhs a l vb,
        sym (back_join V rhs a k va) ∙ ap (back V rhs a) e ∙ back_join V rhs a l vb,
      )

  -- the text of a list of symbols begins with an entry that the first symbol takes, and which makes the value
  made : (s : S) (ss : List S) (v : Vals V (s ∷ ss)) (w : I) (rest : List I)
      → texts V text (s ∷ ss) v ≡ w ∷ rest → (k : Kids V (step s w)) × (v.0 ≡ build s w k)
      × (kid_texts V text (step s w) k ++ texts V text ss v.1 ≡ rest)
  made s ss v w rest e =
      let o = opened s v.0 in
      let x = (split s v.0).0 in
      let k = (split s v.0).1 in
      let f : x ∷ (kid_texts V text (step s x) k ++ texts V text ss v.1) ≡ w ∷ rest =
      sym (ap (λ t. t ++ texts V text ss v.1) o) ∙ e in
      let hd : x ≡ w = cc in
      let tl : kid_texts V text (step s x) k ++ texts V text ss v.1 ≡ rest = cc in
      subst (λ y. (k : Kids V (step s y)) × (v.0 ≡ build s y k)
      × (kid_texts V text (step s y) k ++ texts V text ss v.1 ≡ rest)) hd (k, (split s v.0).2, tl)

  pub one_text : (ws : List I) (a : List S) (v u : Vals V a) → texts V text a v ≡ ws
      → texts V text a u ≡ ws → v ≡ u
  one_text ws [] v u p q = refl
  one_text [] (s ∷ a) v u p q = absurd (never_empty s a v p)
  one_text (w ∷ ws) (s ∷ a) v u p q =
      let m = made s a v w ws p in
      let n = made s a u w ws q in
      let both = one_kids s a w ws (step s w) m.0 n.0 v.1 u.1 (λ c x y. one_text ws c x y) m.2 n.2 in
      let heads : v.0 ≡ u.0 = m.1 ∙ ap (build s w) both.0 ∙ sym n.1 in
      let tails : v.1 ≡ u.1 = both.1 in
      ap (λ (x : V s). (x, v.1)) heads ∙ ap (λ (y : Vals V a). (u.0, y)) tails
