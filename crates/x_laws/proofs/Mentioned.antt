-- What a name that a faultless item uses as a type means.
use Rattle.std.proofs.Common.{◌≡◌, ◌<◌, ◌⊎◌, inl, inr, ℕ, Bool, true, false, not, ◌||◌, cond, map, List, []}
use Rattle.std.proofs.Common.{◌∷◌, Option, None, Some, refl, sym, ap, subst, ◌∙◌, arith}
use Rattle.std.specs.Prelude.{slice_get, nat_lt}
use Rattle.std.specs.List.{IsAmong}
use Rattle.std.specs.Str.{bytes_eq}
use Rattle.std.proofs.lemmas.Bool.Decides.{nat_tests}
use Rattle.std.proofs.lemmas.Slice.Eq.{bytes_eq-Decides}
use Rattle.x_trees.specs.Tree.{Definition}
use Rattle.x_trees.specs.Names.{declared}
use Rattle.x_trees.specs.Seen.{names_of}
use Rattle.x_trees.specs.Mentions.{Mention, mentioned}
use Rattle.x_trees.specs.declared.trees.declaration.Tag.{Tag}
use Rattle.x_trees.specs.declared.trees.declaration.Tag.TheVariants as tags
use Rattle.x_trees.specs.declared.names.declared_name.NameKind.{NameKind}
use Rattle.x_trees.specs.declared.names.declared_name.NameKind.TheVariants as kinds
use Rattle.x_trees.specs.declared.names.mention.Use.{Use}
use Rattle.x_trees.specs.declared.names.mention.Use.TheVariants as uses
use Rattle.x_names.specs.Declarers.{is_beforehand, IsFirstDeclarer, first_from}
use Rattle.x_names.specs.declared.names.Declarer.{Declarer}
use Rattle.x_names.proofs.DeclarerLaws.{found_is_first}
use Rattle.x_outline.specs.Bodies.{enumerators}
use Rattle.x_rules.specs.Constants.{is_declared_before, limit_of}
use Rattle.x_rules.specs.Mentioned.{is_constant, fault_of_use, is_declared_as, is_no_constant, is_no_type}
use Rattle.x_rules.specs.Mentioned.{is_of_faulty, is_too_late, is_unknown, mention_fault, suits}
use Rattle.x_rules.specs.Results.{Outcome, AreResults, result_at, view_by, view_of, meaning_at}
use Rattle.x_rules.specs.Results.{beforehand_meaning, no_names}
use Rattle.x_rules.specs.Rules.{AreFaults, HasMentionFault}
use Rattle.x_rules.specs.Views.{View, Earlier, Own, Later, seen}
use Rattle.x_rules.specs.declared.fault.RuleCode.{RuleCode}
use Rattle.x_rules.specs.declared.fault.RuleCode.TheVariants as codes
use Rattle.x_rules.specs.declared.fault.WordFault.{WordFault}
use Rattle.x_trees.proofs.AmongLemmas.{among_cases, among_none}
use Rattle.x_rules.proofs.MentionLemmas.{MentionCode, IsUnknown, IsNotType, IsNotConst, IsLateName}
use Rattle.x_rules.proofs.MentionLemmas.{IsUsesFaulty, mention_code}
use Rattle.x_laws.specs.Meant.{AreFaultless}
use Rattle.x_laws.proofs.Faultless.{is_listed, listed_rear, outcome_of, view_seen}

-- ---- a use without a fault

-- what is left where no earlier test holds
abbrev FirstOf : Bool → Bool → Bool → Bool → Bool → Option RuleCode
FirstOf a b c d e = cond a (Some codes.Unknown) (cond b (Some codes.NotType)
    (cond c (Some codes.NotConst) (cond d (Some codes.LateName) (cond e (Some codes.UsesFaulty) None))))

no_type_fault : (a b c d e : Bool) → FirstOf a b c d e ≡ None → b ≡ false
no_type_fault true b c d e h = absurd cc
no_type_fault false true c d e h = absurd cc
no_type_fault false false c d e h = refl

not_late : (a b c d e : Bool) → FirstOf a b c d e ≡ None → d ≡ false
not_late true b c d e h = absurd cc
not_late false true c d e h = absurd cc
not_late false false true d e h = absurd cc
not_late false false false true e h = absurd cc
not_late false false false false e h = refl

not_false : (a : Bool) → not a ≡ false → a ≡ true
not_false true e = refl
not_false false e = absurd cc

pub used_type : (view : View) (before : Bool) (usage : Use) (tag : Option Tag) → (usage ≡ uses.Value → ⊥)
    → fault_of_use view before usage tag ≡ None → is_declared_as (suits tag) view ≡ true
used_type view before uses.Value tag type h = absurd (type refl)
used_type view before uses.ByValue tag type h =
    not_false (is_declared_as (suits tag) view)
    (no_type_fault (is_unknown view) (is_no_type view uses.ByValue tag) (is_no_constant view uses.ByValue)
    (is_too_late view before uses.ByValue) (is_of_faulty view uses.ByValue) h)
used_type view before uses.Link tag type h =
    not_false (is_declared_as (suits tag) view)
    (no_type_fault (is_unknown view) (is_no_type view uses.Link tag) (is_no_constant view uses.Link)
    (is_too_late view before uses.Link) (is_of_faulty view uses.Link) h)

pub held_in_time : (view : View) (before : Bool) (tag : Option Tag)
    → fault_of_use view before uses.ByValue tag ≡ None → is_too_late view before uses.ByValue ≡ false
held_in_time view before tag h =
    not_late (is_unknown view) (is_no_type view uses.ByValue tag) (is_no_constant view uses.ByValue)
    (is_too_late view before uses.ByValue) (is_of_faulty view uses.ByValue) h

no_faulty : (a b c d e : Bool) → FirstOf a b c d e ≡ None → e ≡ false
no_faulty true b c d e h = absurd cc
no_faulty false true c d e h = absurd cc
no_faulty false false true d e h = absurd cc
no_faulty false false false true e h = absurd cc
no_faulty false false false false true h = absurd cc
no_faulty false false false false false h = refl

no_unknown : (a b c d e : Bool) → FirstOf a b c d e ≡ None → a ≡ false
no_unknown true b c d e h = absurd cc
no_unknown false b c d e h = refl

no_other_fault : (a b c d e : Bool) → FirstOf a b c d e ≡ None → c ≡ false
no_other_fault true b c d e h = absurd cc
no_other_fault false true c d e h = absurd cc
no_other_fault false false true d e h = absurd cc
no_other_fault false false false d e h = refl

-- a value by a name without a fault
pub record IsValue (view : View) (before : Bool) : Type 0 where
  pub known : is_unknown view ≡ false
  pub constant : is_declared_as is_constant view ≡ true
  pub in_time : is_too_late view before uses.Value ≡ false
  pub good : is_of_faulty view uses.Value ≡ false

pub used_value : (view : View) (before : Bool) → fault_of_use view before uses.Value None ≡ None
    → IsValue view before
used_value view before h = record {
  known = no_unknown (is_unknown view) false (is_no_constant view uses.Value)
      (is_too_late view before uses.Value) (is_of_faulty view uses.Value) h;
  constant = not_false (is_declared_as is_constant view)
      (no_other_fault (is_unknown view) false (is_no_constant view uses.Value)
      (is_too_late view before uses.Value) (is_of_faulty view uses.Value) h);
  in_time = not_late (is_unknown view) false (is_no_constant view uses.Value)
      (is_too_late view before uses.Value) (is_of_faulty view uses.Value) h;
  good = no_faulty (is_unknown view) false (is_no_constant view uses.Value)
      (is_too_late view before uses.Value) (is_of_faulty view uses.Value) h;
}

mention_breaks : (d : Definition) (see : List ℕ → View) (faults : List WordFault) (m : Mention)
    (code named : RuleCode) → AreFaults d see faults → faults ≡ []
    → (HasMentionFault (mentioned d) see (enumerators d) named m.word
    → IsAmong faults (record { word = m.word; code = named }))
    → IsAmong (mentioned d) m → mention_fault see (enumerators d) m ≡ Some code → named ≡ code → ⊥
mention_breaks d see faults m code named are none told among fault same =
    among_none (record { word = m.word; code = named })
    (subst (λ fs. IsAmong fs (record { word = m.word; code = named })) none
    (told (record { mention = m; among = among; word_is = refl; fault = fault ∙ ap Some (sym same) })))

-- a type that is held is none of a faulty item
pub held_good : (view : View) (before : Bool) (tag : Option Tag)
    → fault_of_use view before uses.ByValue tag ≡ None → is_of_faulty view uses.ByValue ≡ false
held_good view before tag h =
    no_faulty (is_unknown view) (is_no_type view uses.ByValue tag) (is_no_constant view uses.ByValue)
    (is_too_late view before uses.ByValue) (is_of_faulty view uses.ByValue) h

pub no_mention_fault : (d : Definition) (see : List ℕ → View) (faults : List WordFault) (m : Mention)
    → AreFaults d see faults → faults ≡ [] → IsAmong (mentioned d) m
    → mention_fault see (enumerators d) m ≡ None
no_mention_fault d see faults m are none among = by (mention_fault see (enumerators d) m) refl
  where
    broken : (code : RuleCode) → mention_fault see (enumerators d) m ≡ Some code → MentionCode code → ⊥
    broken code e (IsUnknown k) = mention_breaks d see faults m code codes.Unknown are none
        (λ h. are.are_all m.word codes.Unknown h) among e k
    broken code e (IsNotType k) = mention_breaks d see faults m code codes.NotType are none
        (λ h. are.are_all m.word codes.NotType h) among e k
    broken code e (IsNotConst k) = mention_breaks d see faults m code codes.NotConst are none
        (λ h. are.are_all m.word codes.NotConst h) among e k
    broken code e (IsLateName k) = mention_breaks d see faults m code codes.LateName are none
        (λ h. are.are_all m.word codes.LateName h) among e k
    broken code e (IsUsesFaulty k) = mention_breaks d see faults m code codes.UsesFaulty are none
        (λ h. are.are_all m.word codes.UsesFaulty h) among e k

    by : (o : Option RuleCode) → mention_fault see (enumerators d) m ≡ o
        → mention_fault see (enumerators d) m ≡ None
    by None e = e
    by (Some code) e =
        absurd (broken code e (mention_code (see m.name)
        (is_declared_before (enumerators d) (limit_of m.word) m.name) m.usage m.tag code e))

-- ---- what a view of a type tells

pub suits_any : (tag : Option Tag) (kind : NameKind) → suits tag kind ≡ true → suits None kind ≡ true
suits_any None kind h = h
suits_any (Some tags.Enum) kinds.Enum h = refl
suits_any (Some tags.Struct) kinds.Struct h = refl
suits_any (Some tags.Union) kinds.Union h = refl
suits_any tag kind h = absurd cc

-- an item's view of a type's name comes of its first declarer
pub record IsViewed (definitions : List (Option Definition)) (name : List ℕ) : Type 0 where
  pub at : Declarer
  pub declarable : is_beforehand name ≡ false
  pub found : first_from 0 definitions name ≡ Some at
  pub first : IsFirstDeclarer definitions name at
  pub is_type : suits None at.kind ≡ true

pub same_kind : (read : ℕ → Option Outcome) (item : ℕ) (at : Declarer) (tag : Option Tag)
    → is_declared_as (suits tag) (view_of read item (Some at)) ≡ true → suits tag at.kind ≡ true
same_kind read item at tag h = by (nat_lt at.item item) (nat_lt item at.item) h
  where
    by : (a b : Bool) → is_declared_as (suits tag)
        (cond a (Earlier at.kind at.lifted (meaning_at read at))
        (cond b (Later at.kind at.lifted) (Own at.kind at.lifted))) ≡ true → suits tag at.kind ≡ true
    by true b k = k
    by false true k = k
    by false false k = k

pub viewed : (definitions : List (Option Definition)) (read : ℕ → Option Outcome) (item : ℕ) (name : List ℕ)
    (tag : Option Tag)
    → is_declared_as (suits tag) (view_by no_names definitions read item name) ≡ true
    → IsViewed definitions name
viewed definitions read item name tag h = by (is_beforehand name) refl (first_from 0 definitions name) refl h
  where
    by : (b : Bool) → is_beforehand name ≡ b → (o : Option Declarer) → first_from 0 definitions name ≡ o
        → is_declared_as (suits tag) (cond b (Earlier kinds.Constant false (beforehand_meaning name))
        (view_of read item (cond b None (first_from 0 definitions name)))) ≡ true
        → IsViewed definitions name
    by true e o f k = let none = suits_any tag kinds.Constant k in absurd cc
    by false e None f k = let none : is_declared_as (suits tag) (view_of read item None) ≡ true = sym
        (ap (λ x. is_declared_as (suits tag) (view_of read item x)) f) ∙ k in absurd cc
    by false e (Some at) f k =
        let found = sym (ap (λ x. is_declared_as (suits tag) (view_of read item x)) f) ∙ k in
        record {
          at = at;
          declarable = e;
          found = f;
          first = found_is_first definitions name at f e;
          is_type = suits_any tag at.kind (same_kind read item at tag found);
        }

pub view_found : (definitions : List (Option Definition)) (read : ℕ → Option Outcome) (item : ℕ)
    (name : List ℕ) (h : IsViewed definitions name)
    → view_by no_names definitions read item name ≡ view_of read item (Some h.at)
view_found definitions read item name h =
    ap (λ b. cond b (Earlier kinds.Constant false (beforehand_meaning name))
    (view_of read item (cond b None (first_from 0 definitions name)))) h.declarable
    ∙ ap (view_of read item) h.found

pub declared_before : (read : ℕ → Option Outcome) (item : ℕ) (at : Declarer) (before : Bool)
    → is_too_late (view_of read item (Some at)) before uses.ByValue ≡ false → at.item < item
declared_before read item at before h = by (nat_lt at.item item) refl (nat_lt item at.item) h
  where
    by : (a : Bool) → nat_lt at.item item ≡ a → (b : Bool)
        → is_too_late (cond a (Earlier at.kind at.lifted (meaning_at read at))
        (cond b (Later at.kind at.lifted) (Own at.kind at.lifted))) before uses.ByValue ≡ false
        → at.item < item
    by true e b k = grind (arith, nat_tests)
    by false e true k = absurd cc
    by false e false k = absurd cc

-- ---- a name that an item uses as a type

pub mentioned_listed : (ms : List Mention) (m : Mention) → IsAmong ms m
    → is_listed m.name (map (λ x. x.name) ms) ≡ true
mentioned_listed [] m h = absurd (among_none m h)
mentioned_listed (x ∷ xs) m h = by (among_cases x m xs h) (λ k. mentioned_listed xs m k)
  where
    or_true : (a : Bool) → a || true ≡ true
    or_true true = refl
    or_true false = refl

    by : (m ≡ x) ⊎ IsAmong xs m → (IsAmong xs m → is_listed m.name (map (λ y. y.name) xs) ≡ true)
        → bytes_eq m.name x.name || is_listed m.name (map (λ y. y.name) xs) ≡ true
    by (inl e) more = ap (λ b. b || is_listed m.name (map (λ y. y.name) xs))
        ((bytes_eq-Decides m.name x.name).1 (ap (λ y. y.name) e))
    by (inr k) more = ap (λ b. bytes_eq m.name x.name || b) (more k) ∙ or_true (bytes_eq m.name x.name)

-- the name means a type; where it is held, one of an earlier item
pub record IsUse (definitions : List (Option Definition)) (item : ℕ) (m : Mention) : Type 0 where
  pub viewed : IsViewed definitions m.name
  pub held : m.usage ≡ uses.ByValue → viewed.at.item < item

pub use_of : (definitions : List (Option Definition)) (results : List (Option Outcome)) (item : ℕ)
    (d : Definition) (m : Mention) → AreResults no_names definitions results → AreFaultless results
    → slice_get definitions item ≡ Some (Some d) → IsAmong (mentioned d) m → (m.usage ≡ uses.Value → ⊥)
    → IsUse definitions item m
use_of definitions results item d m are fine there among type =
    let o = outcome_of definitions results item d are there in
    let see = seen d (map (view_by no_names definitions (result_at results) item) (names_of d)) in
    let no_fault = no_mention_fault d see o.outcome.faults m o.are_faults (fine item o.outcome o.is) among in
    let view : see m.name ≡ view_by no_names definitions (result_at results) item m.name =
    view_seen d (view_by no_names definitions (result_at results) item) m.name
    (listed_rear m.name (map (λ x. x.name) (declared d)) (map (λ x. x.name) (mentioned d))
    (mentioned_listed (mentioned d) m among)) in
    let before = is_declared_before (enumerators d) (limit_of m.word) m.name in
    let fault : fault_of_use (view_by no_names definitions
    (result_at results) item m.name) before m.usage m.tag ≡ None = sym
    (ap (λ v. fault_of_use v before m.usage m.tag) view) ∙ no_fault in
    let found = viewed definitions (result_at results) item m.name m.tag
    (used_type (view_by no_names definitions
    (result_at results) item m.name) before m.usage m.tag type fault) in
    record {
      viewed = found;
      held = λ e.
          declared_before (result_at results) item found.at before
          (sym (ap (λ v. is_too_late v before uses.ByValue)
          (view_found definitions (result_at results) item m.name found))
          ∙ held_in_time (view_by no_names definitions (result_at results) item m.name) before m.tag
          (sym (ap (λ u. fault_of_use (view_by no_names definitions
          (result_at results) item m.name) before u m.tag) e) ∙ fault));
    }
