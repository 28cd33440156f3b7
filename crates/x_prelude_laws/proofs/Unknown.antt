-- A text that mentions no undeclared name has no fault of such a name.
use Rattle.std.proofs.Common.{◌≡◌, ◌≢◌, ◌⊎◌, inl, inr, ℕ, suc, ◌+◌, Bool, true, false, cond, List, [], ◌∷◌}
use Rattle.std.proofs.Common.{map, Option, None, Some, arith, refl, sym, ap, subst, ◌∙◌}
use Rattle.std.specs.Prelude.{slice_get}
use Rattle.std.specs.List.{All, IsAmong}
use Rattle.std.specs.Str.{bytes_eq}
use Rattle.std.proofs.lemmas.List.Elements.{All-append, All-cons, All-map, All-nil, All-weaker}
use Rattle.std.proofs.lemmas.Slice.Eq.{bytes_eq-Decides}
use Rattle.x_lex.specs.declared.kind.Kind.{Kind}
use Rattle.x_lex.specs.Places.{Lexeme}
use Rattle.x_trees.specs.Tree.{Definition}
use Rattle.x_trees.specs.Mentions.{Mention, mentioned}
use Rattle.x_trees.specs.Names.{declared}
use Rattle.x_trees.specs.Seen.{names_of}
use Rattle.x_trees.proofs.AmongLemmas.{among_cases, among_first, among_more, among_none, among_rear}
use Rattle.x_item.specs.Parse.{Def, Fault, Nothing, Parse}
use Rattle.x_outline.specs.Bodies.{enumerators}
use Rattle.x_rules.specs.Constants.{is_declared_before, limit_of}
use Rattle.x_rules.specs.Mentioned.{fault_of_use, is_no_constant, is_no_type, is_of_faulty, is_too_late}
use Rattle.x_rules.specs.Mentioned.{is_unknown}
use Rattle.x_rules.specs.Results.{AreResultsFrom, IsResult, KnownNames, Outcome, result_at, view_by}
use Rattle.x_rules.specs.Rules.{AreFaults, HasMentionFault, IsFault}
use Rattle.x_rules.specs.Views.{View, seen, view_in}
use Rattle.x_rules.specs.declared.fault.RuleCode.TheVariants as rules
use Rattle.x_rules.specs.declared.fault.WordFault.{WordFault}
use Rattle.x_compile.specs.Compile.{IsCompilation, Item, at_token, definitions_of, faults_at, faults_from}
use Rattle.x_compile.specs.Compile.{faults_of, item_faults, parsed_definition, placed, rule_faults}
use Rattle.x_compile.specs.Compile.{token_faults}
use Rattle.x_compile.specs.Known.{KnownText, known_names}
use Rattle.x_compile.specs.declared.fault.FaultCode.{FaultCode}
use Rattle.x_compile.specs.declared.fault.FaultCode.TheVariants as codes
use Rattle.x_compile.specs.declared.fault.TokenFault.{TokenFault}
use Rattle.x_compile.specs.declared.fault as rust
use Rattle.x_prelude_laws.proofs.Named.{among_map}

-- ---- views

-- the view of a name among those of names
pub view_among : (see : List ℕ → View) (names : List (List ℕ)) (name : List ℕ) → IsAmong names name
    → view_in names (map see names) name ≡ see name
view_among see [] name h = absurd (among_none name h)
view_among see (n ∷ ns) name h =
    by (bytes_eq name n) refl (among_cases n name ns h) (λ k. view_among see ns name k)
  where
    by : (b : Bool) → bytes_eq name n ≡ b → (name ≡ n) ⊎ IsAmong ns name
        → (IsAmong ns name → view_in ns (map see ns) name ≡ see name)
        → cond b (see n) (view_in ns (map see ns) name) ≡ see name
    by true e k next = ap see (sym ((bytes_eq-Decides name n).0 e))
    by false e (inl same) next = let f = (bytes_eq-Decides name n).1 same in absurd (cc)
    by false e (inr k) next = next k

-- what an item sees of a name that it mentions
pub view_mentioned : (d : Definition) (see : List ℕ → View) (m : Mention) → IsAmong (mentioned d) m
    → seen d (map see (names_of d)) m.name ≡ see m.name
view_mentioned d see m h =
    view_among see (names_of d) m.name
    (among_rear (map (λ x. x.name) (declared d)) (map (λ (x : Mention). x.name) (mentioned d)) m.name
    (among_map (λ (x : Mention). x.name) (mentioned d) m h))

-- ---- faults

by_first : (a b c d e : Bool)
    → cond a (Some rules.Unknown) (cond b (Some rules.NotType) (cond c (Some rules.NotConst)
    (cond d (Some rules.LateName) (cond e (Some rules.UsesFaulty) None)))) ≡ Some rules.Unknown → a ≡ true
by_first true b c d e h = refl
by_first false true c d e h = absurd (cc)
by_first false false true d e h = absurd (cc)
by_first false false false true e h = absurd (cc)
by_first false false false false true h = absurd (cc)
by_first false false false false false h = absurd (cc)

pub unknown_use : (view : View) (before : Bool) (m : Mention)
    → fault_of_use view before m.usage m.tag ≡ Some rules.Unknown
    → is_unknown view ≡ true
unknown_use view before m h =
    by_first (is_unknown view) (is_no_type view m.usage m.tag) (is_no_constant view m.usage)
    (is_too_late view before m.usage) (is_of_faulty view m.usage) h

-- each mention sees a declared name
abbrev pub SeesDeclared : (ℕ → List ℕ → View) → ℕ → List (Option Definition) → Type 0
SeesDeclared see item ds = (index : ℕ) (d : Definition) (m : Mention) → slice_get ds index ≡ Some (Some d)
    → IsAmong (mentioned d) m → is_unknown (see (item + index) m.name) ≡ false

abbrev IsOther : WordFault → Type 0
IsOther f = f.code ≢ rules.Unknown

no_unknown : (d : Definition) (see : List ℕ → View) (faults : List WordFault) (f : WordFault)
    → AreFaults d (seen d (map see (names_of d))) faults
    → ((m : Mention) → IsAmong (mentioned d) m → is_unknown (see m.name) ≡ false)
    → IsAmong faults f → IsOther f
no_unknown d see faults f are none among is =
    by (subst (IsFault d views f.word) is (are.are_faults f among))
  where
    views : List ℕ → View
    views = seen d (map see (names_of d))

    by : HasMentionFault (mentioned d) views (enumerators d) rules.Unknown f.word → ⊥
    by h =
        let is = unknown_use (views h.mention.name) (is_declared_before (enumerators d)
        (limit_of h.mention.word) h.mention.name) h.mention h.fault in
        let not = none h.mention h.among in
        let same = view_mentioned d see h.mention h.among in
        absurd (let e : is_unknown (see h.mention.name) ≡ true = ap is_unknown (sym same) ∙ is in cc)

all_other : (d : Definition) (see : List ℕ → View) (faults : List WordFault)
    → AreFaults d (seen d (map see (names_of d))) faults
    → ((m : Mention) → IsAmong (mentioned d) m → is_unknown (see m.name) ≡ false) → All IsOther faults
all_other d see faults are none = by faults (λ f k. no_unknown d see faults f are none k)
  where
    by : (fs : List WordFault) → ((f : WordFault) → IsAmong fs f → IsOther f) → All IsOther fs
    by [] h = All-nil IsOther
    by (f ∷ fs) h = All-cons IsOther f fs (h f (among_first f fs)) (by fs (λ g k. h g (among_more f g fs k)))

ruled_other : (known : KnownNames) (ds : List (Option Definition)) (read : ℕ → Option Outcome) (item : ℕ)
    (d : Option Definition) (o : Option Outcome) → IsResult known ds read item d o
    → ((e : Definition) (m : Mention) → d ≡ Some e → IsAmong (mentioned e) m
    → is_unknown (view_by known ds read item m.name) ≡ false)
    → All IsOther (rule_faults o)
ruled_other known ds read item None None h none = All-nil IsOther
ruled_other known ds read item None (Some o) h none = absurd h
ruled_other known ds read item (Some d) None h none = absurd h
ruled_other known ds read item (Some d) (Some o) h none =
    all_other d (view_by known ds read item) o.faults h.are_faults (λ m k. none d m refl k)

abbrev IsOtherCode : FaultCode → Type 0
IsOtherCode code = code ≢ codes.Rule rules.Unknown

rule_other : (f : WordFault) (tokens : List Lexeme) → IsOther f → IsOtherCode (at_token tokens f).code
rule_other f tokens h e = h (cc)

ruled : (tokens : List Lexeme) (faults : List WordFault) → All IsOther faults
    → All (λ (f : TokenFault). IsOtherCode f.code) (map (at_token tokens) faults)
ruled tokens faults h =
    All-map (λ (f : TokenFault). IsOtherCode f.code) (at_token tokens) faults
    (All-weaker IsOther (λ (f : WordFault). IsOtherCode (at_token tokens f).code)
    (λ f k. rule_other f tokens k) faults h)

at_tokens : (tokens : List Lexeme) (p : Parse) (faults : List WordFault) → All IsOther faults
    → All (λ (f : TokenFault). IsOtherCode f.code) (faults_at tokens p faults)
at_tokens tokens (Fault token code) faults h =
    All-cons (λ (f : TokenFault). IsOtherCode f.code) (record { token = token; code = codes.Syntax code }) []
    (λ e. cc) (All-nil (λ (f : TokenFault). IsOtherCode f.code))
at_tokens tokens Nothing faults h = ruled tokens faults h
at_tokens tokens (Def d) faults h = ruled tokens faults h

from_items : (known : KnownNames) (ds : List (Option Definition)) (read : ℕ → Option Outcome) (text : List ℕ)
    (item : ℕ) (is : List Item) → AreResultsFrom known ds read item (definitions_of is)
    (map (λ i. i.result) is)
    → SeesDeclared (view_by known ds read) item (definitions_of is)
    → All (λ (f : rust.Fault.Fault). IsOtherCode f.code) (faults_from text item is)
from_items known ds read text item [] h see = All-nil (λ (f : rust.Fault.Fault). IsOtherCode f.code)
from_items known ds read text item (i ∷ is) h see =
    All-append (λ (f : rust.Fault.Fault). IsOtherCode f.code) (item_faults text item i)
    (faults_from text (suc item) is)
    (All-map (λ (f : rust.Fault.Fault). IsOtherCode f.code) (placed text item i.tokens) (token_faults i)
    (at_tokens i.tokens i.parse (rule_faults i.result)
    (ruled_other known ds read item (parsed_definition i.parse) i.result h.0 here)))
    (from_items known ds read text (suc item) is h.1 there)
  where
    here : (e : Definition) (m : Mention) → parsed_definition i.parse ≡ Some e → IsAmong (mentioned e) m
        → is_unknown (view_by known ds read item m.name) ≡ false
    here e m is k =
        let at : item + 0 ≡ item = omega arith in
        subst (λ n. is_unknown (view_by known ds read n m.name) ≡ false) at (see 0 e m (ap Some is) k)

    there : SeesDeclared (view_by known ds read) (suc item) (definitions_of is)
    there index d m e k =
        let at : item + suc index ≡ suc item + index = omega arith in
        subst (λ n. is_unknown (view_by known ds read n m.name) ≡ false) at (see (suc index) d m e k)

-- a text of which each mention sees a declared name has no such fault
pub no_unknown_fault : (known : KnownText) (text : List ℕ) (tokens : List (Kind × ℕ)) (is : List Item)
    → IsCompilation known text tokens is
    → ((item : ℕ) (d : Definition) (m : Mention) → slice_get (definitions_of is) item ≡ Some (Some d)
    → IsAmong (mentioned d) m
    → is_unknown (view_by (known_names known) (definitions_of is)
    (result_at (map (λ i. i.result) is)) item m.name) ≡ false)
    → All (λ (f : rust.Fault.Fault). f.code ≢ codes.Rule rules.Unknown) (faults_of text is)
no_unknown_fault known text tokens is h see =
    from_items (known_names known) (definitions_of is) (result_at
    (map (λ i. i.result) is)) text 0 is h.are_results
    (λ index d m e k.
    let at : index ≡ 0 + index = omega arith in
    subst (λ n. is_unknown (view_by (known_names known) (definitions_of is)
    (result_at (map (λ i. i.result) is)) n m.name) ≡ false) at
    (see index d m e k))
