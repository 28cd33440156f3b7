-- The notes of words, and the roles that they come from.
use Rattle.std.specs.Prelude.{nat_lt, slice_get}
use Rattle.std.proofs.Common.{◌≡◌, ℕ, zero, suc, ◌+◌, ◌⊎◌, inl, inr, Bool, true, false, List, [], ◌∷◌, ◌++◌}
use Rattle.std.proofs.Common.{Option, None, Some, arith, refl, sym, ap, subst, ◌∙◌}
use Rattle.std.proofs.lemmas.Option.{same_Some}
use Rattle.std.specs.List.{IsAmong}
use Rattle.x_trees.specs.Tree as tree
use Rattle.x_trees.specs.Gloss as gloss
use Rattle.x_trees.specs.Gloss.{Gloss, Role, told_of}
use Rattle.x_trees.specs.Notes.{Note, NoteAt, ValueNote, NumberNote, MisplacedNote, DiscriminantNote}
use Rattle.x_trees.specs.Notes.{InlineNote, void_note, note_of, note_list, noted_at, noted}
use Rattle.x_rules.specs.Rules.{HasRole, number_role, is_misplaced}
use Rattle.x_trees.specs.declared.names.note.ValueRole.{ValueRole}
use Rattle.x_trees.specs.declared.names.note.ValueRole.TheVariants as roles
use Rattle.x_trees.proofs.AmongLemmas.{among_first, among_more, among_cases, among_none, among_front}
use Rattle.x_trees.proofs.AmongLemmas.{among_rear, among_parts}

-- ---- the roles of a word

record OfRole (word : ℕ) (all : List Role) (n : NoteAt) : Type 0 where
  pub role : Role
  pub among : IsAmong all role
  pub note_is : note_of role ≡ Some n.note
  pub word_is : n.word ≡ word

list_is : (word : ℕ) (note : Option Note) (n : NoteAt) → IsAmong (note_list word note) n
    → (note ≡ Some n.note) × (n.word ≡ word)
list_is word None n h = absurd (among_none n h)
list_is word (Some note) n h = by (among_cases (record { word = word; note = note }) n [] h)
  where
    by : (n ≡ record { word = word; note = note }) ⊎ IsAmong [] n
        → (Some note ≡ Some n.note) × (n.word ≡ word)
    by (inl e) = (ap Some (sym (ap (λ x. x.note) e)), ap (λ x. x.word) e)
    by (inr k) = absurd (among_none n k)

role_among : (word : ℕ) (all : List Role) (n : NoteAt) → IsAmong (noted_at word all) n → OfRole word all n
role_among word [] n h = absurd (among_none n h)
role_among word (role ∷ rest) n h =
    by (among_parts (note_list word (note_of role)) (noted_at word rest) n h) (role_among word rest n)
  where
    by : IsAmong (note_list word (note_of role)) n ⊎ IsAmong (noted_at word rest) n
        → (IsAmong (noted_at word rest) n → OfRole word rest n) → OfRole word (role ∷ rest) n
    by (inl k) more = let is = list_is word (note_of role) n k in
        record { role = role; among = among_first role rest; note_is = is.0; word_is = is.1 }
    by (inr k) more =
        let o = more k in
        record {
          role = o.role;
          among = among_more role o.role rest o.among;
          note_is = o.note_is;
          word_is = o.word_is;
        }

among_role : (word : ℕ) (all : List Role) (role : Role) (note : Note) → IsAmong all role
    → note_of role ≡ Some note → IsAmong (noted_at word all) (record { word = word; note = note })
among_role word [] role note h e = absurd (among_none role h)
among_role word (first ∷ rest) role note h e =
    by (among_cases first role rest h) (λ k. among_role word rest role note k e)
  where
    by : (role ≡ first) ⊎ IsAmong rest role
        → (IsAmong rest role → IsAmong (noted_at word rest) (record { word = word; note = note }))
        → IsAmong (note_list word (note_of first) ++ noted_at word rest) (record { word = word; note = note })
    by (inl same) more =
        among_front (note_list word (note_of first)) (noted_at word rest)
        (record { word = word; note = note })
        (subst (λ o. IsAmong (note_list word o) (record { word = word; note = note }))
        (sym e ∙ ap note_of same) (among_first (record { word = word; note = note }) []))
    by (inr k) more = among_rear (note_list word (note_of first)) (noted_at word rest)
        (record { word = word; note = note }) (more k)

-- ---- the words of a definition

record OfWord (at : ℕ) (gs : List Gloss) (n : NoteAt) : Type 0 where
  pub index : ℕ
  pub gloss_at : Gloss
  pub there : slice_get gs index ≡ Some gloss_at
  pub word_is : n.word ≡ at + index
  pub role : Role
  pub has : IsAmong gloss_at.roles role
  pub note_is : note_of role ≡ Some n.note

told_word : (at : ℕ) (gs : List Gloss) (n : NoteAt) → IsAmong (told_of noted_at at gs) n → OfWord at gs n
told_word at [] n h = absurd (among_none n h)
told_word at (g ∷ gs) n h = by (among_parts (noted_at at g.roles) (told_of noted_at (at + 1) gs) n h)
    (told_word (at + 1) gs n)
  where
    by : IsAmong (noted_at at g.roles) n ⊎ IsAmong (told_of noted_at (at + 1) gs) n
        → (IsAmong (told_of noted_at (at + 1) gs) n → OfWord (at + 1) gs n) → OfWord at (g ∷ gs) n
    by (inl k) more =
        let o = role_among at g.roles n k in
        let word = o.word_is in
        record {
          index = 0;
          gloss_at = g;
          there = refl;
          word_is = omega (arith, word);
          role = o.role;
          has = o.among;
          note_is = o.note_is;
        }
    by (inr k) more =
        let o = more k in
        let word = o.word_is in
        record {
          index = suc o.index;
          gloss_at = o.gloss_at;
          there = o.there;
          word_is = omega (arith, word);
          role = o.role;
          has = o.has;
          note_is = o.note_is;
        }

word_told : (at : ℕ) (gs : List Gloss) (index word : ℕ) (g : Gloss) (role : Role) (note : Note)
    → slice_get gs index ≡ Some g → word ≡ at + index → IsAmong g.roles role → note_of role ≡ Some note
    → IsAmong (told_of noted_at at gs) (record { word = word; note = note })
word_told at [] index word g role note h w k e = absurd (cc)
word_told at (x ∷ gs) zero word g role note h w k e =
    let same : x ≡ g = same_Some x g h in
    let here : at ≡ word = omega (arith, w) in
    among_front (noted_at at x.roles) (told_of noted_at (at + 1) gs) (record { word = word; note = note })
    (subst (λ m. IsAmong (noted_at at x.roles) (record { word = m; note = note })) here
    (among_role at x.roles role note (subst (λ y. IsAmong y.roles role) (sym same) k) e))
word_told at (x ∷ gs) (suc index) word g role note h w k e =
    among_rear (noted_at at x.roles) (told_of noted_at (at + 1) gs) (record { word = word; note = note })
    (word_told (at + 1) gs index word g role note h (omega (arith, w)) k e)

-- a note comes from a role of its word
pub record FromRole (d : tree.Definition) (n : NoteAt) : Type 0 where
  pub role : Role
  pub has_role : HasRole d n.word role
  pub note_is : note_of role ≡ Some n.note

pub noted_role : (d : tree.Definition) (n : NoteAt) → IsAmong (noted d) n → FromRole d n
noted_role d n h =
    let o = told_word 0 (gloss.gloss d) n h in
    let word = o.word_is in
    let index : o.index ≡ n.word = omega (arith, word) in
    record {
      role = o.role;
      has_role = record {
        gloss_at = o.gloss_at;
        word_is = sym (ap (slice_get (gloss.gloss d)) index) ∙ o.there;
        has = o.has;
      };
      note_is = o.note_is;
    }

-- and a role has its note
pub role_noted : (d : tree.Definition) (word : ℕ) (role : Role) (note : Note) → HasRole d word role
    → note_of role ≡ Some note → IsAmong (noted d) (record { word = word; note = note })
role_noted d word role note h e = word_told 0 (gloss.gloss d) word word h.gloss_at role note h.word_is
    (omega arith) h.has e

-- ---- which role a note comes from

abbrev pub value_role_of : ValueRole → tree.Value → Role
value_role_of roles.Constant v = gloss.ConstantValue v
value_role_of roles.Enumerator v = gloss.EnumeratorValue v
value_role_of roles.Case v = gloss.CaseValue v
value_role_of roles.FixedSize v = gloss.FixedSize v
value_role_of roles.GreatestSize v = gloss.GreatestSize v

abbrev pub ComesFrom : Role → Note → Type 0
ComesFrom role (ValueNote r v) = role ≡ value_role_of r v
ComesFrom role (NumberNote text) = number_role role ≡ Some text
ComesFrom role MisplacedNote = is_misplaced role ≡ true
ComesFrom role (DiscriminantNote d) = role ≡ gloss.Discriminant d
ComesFrom role InlineNote = role ≡ gloss.InlineArgument

comes : (role : Role) (x note : Note) → ComesFrom role x → Some x ≡ Some note → ComesFrom role note
comes role x note h e = subst (ComesFrom role) (same_Some x note e) h

pub comes_from : (role : Role) (note : Note) → note_of role ≡ Some note → ComesFrom role note
comes_from (gloss.ConstantValue v) note h =
    comes (gloss.ConstantValue v) (ValueNote roles.Constant v) note refl h
comes_from (gloss.EnumeratorValue v) note h =
    comes (gloss.EnumeratorValue v) (ValueNote roles.Enumerator v) note refl h
comes_from (gloss.CaseValue v) note h = comes (gloss.CaseValue v) (ValueNote roles.Case v) note refl h
comes_from (gloss.FixedSize v) note h = comes (gloss.FixedSize v) (ValueNote roles.FixedSize v) note refl h
comes_from (gloss.GreatestSize v) note h =
    comes (gloss.GreatestSize v) (ValueNote roles.GreatestSize v) note refl h
comes_from (gloss.ProgramNumber text) note h = comes (gloss.ProgramNumber text) (NumberNote text) note refl h
comes_from (gloss.VersionNumber text) note h = comes (gloss.VersionNumber text) (NumberNote text) note refl h
comes_from (gloss.ProcedureNumber text) note h =
    comes (gloss.ProcedureNumber text) (NumberNote text) note refl h
comes_from (gloss.VoidDeclaration gloss.InTypedef) note h =
    comes (gloss.VoidDeclaration gloss.InTypedef) MisplacedNote note refl h
comes_from (gloss.VoidDeclaration (gloss.Inside gloss.AsField around)) note h =
    comes (gloss.VoidDeclaration (gloss.Inside gloss.AsField around)) MisplacedNote note refl h
comes_from (gloss.VoidDeclaration (gloss.Inside gloss.AsDiscriminant around)) note h =
    comes (gloss.VoidDeclaration (gloss.Inside gloss.AsDiscriminant around)) MisplacedNote note refl h
comes_from (gloss.VoidDeclaration (gloss.Inside gloss.AsArm around)) note h = absurd (cc)
comes_from (gloss.VoidArgument others) note h = by (nat_lt 0 others) refl
  where
    by : (b : Bool) → nat_lt 0 others ≡ b → ComesFrom (gloss.VoidArgument others) note
    by true e = comes (gloss.VoidArgument others) MisplacedNote note e (sym (ap void_note e) ∙ h)
    by false e = let is : void_note false ≡ Some note = sym (ap void_note e) ∙ h in absurd (cc)
comes_from (gloss.Discriminant d) note h = comes (gloss.Discriminant d) (DiscriminantNote d) note refl h
comes_from gloss.InlineArgument note h = comes gloss.InlineArgument InlineNote note refl h
comes_from gloss.VoidResult note h = absurd (cc)
comes_from (gloss.Declares name kind lifted) note h = absurd (cc)
comes_from (gloss.Mentions name usage tag) note h = absurd (cc)
comes_from (gloss.EnumeratorName name) note h = absurd (cc)
comes_from (gloss.FieldName name) note h = absurd (cc)
comes_from (gloss.VersionName name) note h = absurd (cc)
comes_from (gloss.ProcedureName name) note h = absurd (cc)

-- and each such role has the note

pub value_noted : (r : ValueRole) (v : tree.Value) → note_of (value_role_of r v) ≡ Some (ValueNote r v)
value_noted roles.Constant v = refl
value_noted roles.Enumerator v = refl
value_noted roles.Case v = refl
value_noted roles.FixedSize v = refl
value_noted roles.GreatestSize v = refl
