-- The name at a place, its definition and its uses, of one compilation of a text.
use Rattle.std.proofs.Common.{◌≡◌, ℕ, Bool, Bor, true, false, cond, List, Option, None, Some, Result, Ok, Err}
use Rattle.std.proofs.Common.{refl, ap, subst, ◌∙◌}
use Rattle.std.specs.Prelude.{◌&&◌, IfOk, is_some, not, option_and_then, option_map}
use Rattle.std.specs.Option.{option_or}
use Rattle.std.specs.Str.{bytes_eq}
use Rattle.x_lex.specs.Places.{Lexeme, lexeme}
use Rattle.x_lex.specs.declared.tokens.token.Token.{Token}
use Rattle.x_names.specs.Declarers.{first_from, is_beforehand}
use Rattle.x_compile.specs.Compile.{Item, definitions_of}
use Rattle.x_compile.proofs.Compiled.{one_compilation}
use Rattle.x_compile.specs.Known.{KnownText}
use Rattle.x_session.specs.Session.{Compiles}
use Rattle.x_session.specs.DeclaredNames.{definition_of, word_at}
use Rattle.x_lookups.specs.NamePlaces.{first_of, is_lifted_name, is_own, name_at, names_of, references_of}
use Rattle.x_lookups.specs.NamePlaces.{tokens_where, touches, uses_of}
use Rattle.x_lookups.specs.Unparsed.{any_name_at, unparsed_name, unparsed_use, unparsed_use_at}
use Rattle.x_lookups.specs.Unparsed.{unparsed_where}
use Rattle.x_lookups.proofs.DeclarerLemmas.{first_declared, is_declaring}

-- what holds of a result holds of what follows from it
pub ok_then : {X E : Type 0} {P Q : X → Type 0} (r : Result X E) → ((x : X) → P x → Q x) → IfOk r P → IfOk r Q
ok_then (Ok x) f h = f x h
ok_then (Err e) f h = tt

pub name_found : {known : KnownText} (text : List ℕ) (at : ℕ) (ts : List Lexeme) (o : Option Token)
    (name : Option (List ℕ))
    → Compiles known text (λ items. ts
    ≡ tokens_where (λ n. is_own n.standing && touches n.token at) (names_of items))
    → option_map lexeme o ≡ first_of ts → name ≡ option_map (λ t. t.text) (option_map lexeme o)
    → Compiles known text (λ items. name ≡ name_at items at)
name_found text at ts o name c first is =
    (c.0, c.1, c.2, is ∙ ap (option_map (λ (t : Lexeme). t.text)) (first ∙ ap first_of c.3))

pub definition_found : {known : KnownText} (text name : List ℕ) (b : Bool) (ts : List Lexeme)
    (r : Option Lexeme) → Compiles known text
    (λ items. ts ≡ tokens_where (is_declaring name) (names_of items)) → b ≡ is_beforehand name
    → r ≡ cond b None (first_of ts) → Compiles known text (λ items. r ≡ definition_of items name)
definition_found text name b ts r c before is =
    let found = ap first_of c.3 ∙ first_declared name c.1 c.2.are_parses in (
      c.0,
      c.1,
      c.2,
      is ∙ ap (cond b None) found ∙ by b
          ∙ ap (λ t. option_and_then (word_at c.1) (cond t None (first_from 0 (definitions_of c.1) name)))
          before,
    )
  where
    by : (t : Bool) → cond t None (option_and_then (word_at c.1) (first_from 0 (definitions_of c.1) name))
        ≡ option_and_then (word_at c.1) (cond t None (first_from 0 (definitions_of c.1) name))
    by true = refl
    by false = refl

both : {known : KnownText} (text : List ℕ) (P Q : List Item → Type 0) → Compiles known text P
    → Compiles known text Q → Compiles known text (λ items. P items × Q items)
both {known} text P Q p q =
    let same = (one_compilation known text p.0 q.0 p.1 q.1 p.2 q.2).1 in
    (q.0, q.1, q.2, (subst P same p.3, q.3))

-- the name that is found is this one
pub named_as : {known : KnownText} (text : List ℕ) (at : ℕ) (o p : Option (Bor (List ℕ))) → o ≡ p
    → Compiles known text (λ items. option_map (λ (n : Bor (List ℕ)). n.now) o ≡ name_at items at)
    → Compiles known text (λ items. option_map (λ (n : Bor (List ℕ)). n.now) p ≡ name_at items at)
named_as {known} text at o p is c =
    subst (λ x. Compiles known text (λ items. option_map (λ (n : Bor (List ℕ)). n.now) x ≡ name_at items at))
    is c

pub definition_named : {known : KnownText} (text : List ℕ) (at : ℕ) (name : List ℕ) (r : Option Lexeme)
    → Compiles known text (λ items. Some name ≡ name_at items at)
    → Compiles known text (λ items. r ≡ definition_of items name)
    → Compiles known text (λ items. r ≡ option_and_then (definition_of items) (name_at items at))
definition_named text at name r named found =
    let b = both text (λ items. Some name ≡ name_at items at) (λ items. r ≡ definition_of items name)
    named found in
    (b.0, b.1, b.2, b.3.1 ∙ ap (option_and_then (definition_of b.1)) b.3.0)

pub definition_unnamed : {known : KnownText} (text : List ℕ) (at : ℕ)
    → Compiles known text (λ items. None ≡ name_at items at)
    → Compiles known text (λ items. None ≡ option_and_then (definition_of items) (name_at items at))
definition_unnamed text at named =
    (named.0, named.1, named.2, ap (option_and_then (definition_of named.1)) named.3)

pub references_named : {known : KnownText} (text : List ℕ) (at : ℕ) (declared : Bool) (name : List ℕ)
    (ts : List Lexeme) → Compiles known text (λ items. Some name ≡ name_at items at)
    → Compiles known text (λ items. ts ≡ uses_of items declared name)
    → Compiles known text (λ items. ts ≡ references_of items declared (name_at items at))
references_named text at declared name ts named found =
    let b = both text (λ items. Some name ≡ name_at items at) (λ items. ts ≡ uses_of items declared name)
    named found in
    (b.0, b.1, b.2, b.3.1 ∙ ap (references_of b.1 declared) b.3.0)

-- ---- names in what does not parse

-- the name at a place whose item parses is the name there
pub named_there : {known : KnownText} (text : List ℕ) (at : ℕ) (name : List ℕ)
    → Compiles known text (λ items. Some name ≡ name_at items at)
    → Compiles known text (λ items. Some name ≡ any_name_at items at)
named_there text at name named =
    (named.0, named.1, named.2, ap (λ o. option_or o (unparsed_name named.1 at)) named.3)

pub named_any : {known : KnownText} (text : List ℕ) (at : ℕ) (o p : Option (Bor (List ℕ))) → o ≡ p
    → Compiles known text (λ items. option_map (λ (n : Bor (List ℕ)). n.now) o ≡ any_name_at items at)
    → Compiles known text (λ items. option_map (λ (n : Bor (List ℕ)). n.now) p ≡ any_name_at items at)
named_any {known} text at o p is c =
    subst (λ x. Compiles known text
    (λ items. option_map (λ (n : Bor (List ℕ)). n.now) x ≡ any_name_at items at)) is c

-- else it is that in an item that does not parse
pub named_beside : {known : KnownText} (text : List ℕ) (at : ℕ) (o : Option (List ℕ))
    → Compiles known text (λ items. None ≡ name_at items at)
    → Compiles known text (λ items. o ≡ unparsed_name items at)
    → Compiles known text (λ items. o ≡ any_name_at items at)
named_beside text at o none beside =
    let b = both text (λ items. None ≡ name_at items at) (λ items. o ≡ unparsed_name items at) none beside in
    (b.0, b.1, b.2, b.3.1 ∙ ap (λ n. option_or n (unparsed_name b.1 at)) b.3.0)

pub name_unparsed : {known : KnownText} (text : List ℕ) (at : ℕ) (o : Option Lexeme)
    → Compiles known text (λ items. o ≡ first_of (unparsed_where (λ t. touches t at) items))
    → Compiles known text (λ items. option_map (λ t. t.text) o ≡ unparsed_name items at)
name_unparsed text at o found = (found.0, found.1, found.2, ap (option_map (λ (t : Lexeme). t.text)) found.3)

pub use_named : {known : KnownText} (text : List ℕ) (at : ℕ) (name : List ℕ) (r : Option Lexeme)
    → Compiles known text (λ items. Some name ≡ any_name_at items at)
    → Compiles known text (λ items. r ≡ unparsed_use items name)
    → Compiles known text (λ items. r ≡ unparsed_use_at items at)
use_named text at name r named found =
    let b = both text (λ items. Some name ≡ any_name_at items at) (λ items. r ≡ unparsed_use items name)
    named found in
    (b.0, b.1, b.2, b.3.1 ∙ ap (option_and_then (unparsed_use b.1)) b.3.0)

pub use_unnamed : {known : KnownText} (text : List ℕ) (at : ℕ)
    → Compiles known text (λ items. None ≡ any_name_at items at)
    → Compiles known text (λ items. None ≡ unparsed_use_at items at)
use_unnamed text at named = (named.0, named.1, named.2, ap (option_and_then (unparsed_use named.1)) named.3)

-- ---- names of inline types

is_found : (o : Option Token) → is_some o ≡ is_some (option_map lexeme o)
is_found None = refl
is_found (Some t) = refl

pub lifted_found : {known : KnownText} (text name : List ℕ) (b : Bool) (o : Option Token) (ts : List Lexeme)
    → Compiles known text (λ items. ts
    ≡ tokens_where (λ n. not (is_own n.standing) && bytes_eq name n.name) (names_of items))
    → b ≡ is_some o → option_map lexeme o ≡ first_of ts
    → Compiles known text (λ items. b ≡ is_lifted_name items name)
lifted_found text name b o ts c is first =
    (c.0, c.1, c.2, is ∙ is_found o ∙ ap is_some (first ∙ ap first_of c.3))
