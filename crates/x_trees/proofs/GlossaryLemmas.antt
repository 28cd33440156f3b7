-- What a walk over a definition finds, part by part.
use Rattle.std.proofs.Common.{◌≡◌, ℕ, ◌+◌, ◌^◌, ◌<◌, List, [], ◌∷◌, ◌++◌, map, length, take, Option, Some}
use Rattle.std.proofs.Common.{None, true, false, refl, ap, sym, subst, ◌∙◌, append_assoc}
use Rattle.std.proofs.lemmas.List.{take-map, length-map, append-nil}
use Rattle.x_trees.specs.Tree as tree
use Rattle.x_trees.specs.Gloss as gloss
use Rattle.x_trees.specs.Gloss.{Role, Site, InTypedef, Inside, AsField, AsDiscriminant, AsArm, InlineArgument}
use Rattle.x_trees.specs.Gloss.{Gloss, glossed, body_mark, body_kind, basic_marks, use_by, leading_roles}
use Rattle.x_trees.specs.Gloss.{name_inside, name_roles, lifted_roles, value_roles, spell_value, named_by}
use Rattle.x_trees.specs.Gloss.{type_by, body_by, declaration_by, argument_by, told_of}
use Rattle.x_lex.specs.declared.mark.Mark.{Mark}
use Rattle.x_trees.specs.Words.{Word, Name, Fixed}
use Rattle.x_trees.specs.Spell.{spell, spell_type}
use Rattle.x_trees.specs.Names.{Declared, declared_at}
use Rattle.x_trees.specs.Mentions.{Mention, mentioned_at}
use Rattle.x_trees.specs.Notes.{NoteAt, ValueNote, noted_at, view_note_at}
use Rattle.x_trees.specs.Collected.{Walked, Covers, CoversAll, Finds, Reads, ReadsOn, ReadsAll, IsOutside}
use Rattle.x_trees.specs.Collected.{declared_by, mentioned_by, noted_by, view_name, view_mention, role_of}
use Rattle.x_trees.specs.Collected.{roles_of_lifted}
use Rattle.x_trees.specs.declared.trees.declaration.Basic.{Basic}
use Rattle.x_trees.specs.declared.trees.declaration.Basic.TheVariants as basics
use Rattle.x_trees.specs.declared.names.declared_name.NameKind.{NameKind}
use Rattle.x_trees.specs.declared.names.mention.Use.{Use}
use Rattle.x_trees.specs.declared.names.mention.Use.TheVariants as uses
use Rattle.x_trees.specs.declared.names.note.ValueRole.{ValueRole}
use Rattle.x_trees.specs.declared.names.note.ValueRole.TheVariants as roles
use Rattle.x_trees.specs.declared.names.glossary.Lifted.{Lifted}
use Rattle.x_trees.specs.declared.names.glossary.Walk.{Walk}
use Rattle.x_trees.proofs.CollectLemmas.{finds_none, finds_then, finds_here, finds_less, covers_words}
use Rattle.x_trees.proofs.CollectLemmas.{covers_then, finds_all}
use Rattle.x_trees.proofs.GlossLemmas.{AreBare, long_as, told_of_bare, bare_body, bare_marks, words_body}
use Rattle.x_trees.proofs.GlossLemmas.{words_type, words_gloss}

-- ---- steps

pub found_then : {a b c : Walk} {n m : ℕ} {d e : ℕ → List Declared} {u v : ℕ → List Mention}
    {o p : ℕ → List NoteAt} → Finds a b n d u o → Finds b c m e v p
    → Finds a c (n + m) (λ k. d k ++ e (k + n)) (λ k. u k ++ v (k + n)) (λ k. o k ++ p (k + n))
found_then x y = record {
  names_in = finds_then x.names_in y.names_in;
  mentions_in = finds_then x.mentions_in y.mentions_in;
  notes_in = finds_then x.notes_in y.notes_in;
}

-- found at a word, and from that word on
pub found_here : {a b c : Walk} {n : ℕ} {d e : ℕ → List Declared} {u v : ℕ → List Mention}
    {o p : ℕ → List NoteAt} → Finds a b 0 d u o → Finds b c n e v p
    → Finds a c n (λ k. d k ++ e k) (λ k. u k ++ v k) (λ k. o k ++ p k)
found_here x y = record {
  names_in = finds_here x.names_in y.names_in;
  mentions_in = finds_here x.mentions_in y.mentions_in;
  notes_in = finds_here x.notes_in y.notes_in;
}

-- the words in which this was found
pub reads : {a b : Walk} {words : List Gloss}
    → Finds a b (length words) (λ k. told_of declared_at k words) (λ k. told_of mentioned_at k words)
    (λ k. told_of noted_at k words) → Reads a b words
reads x = record {
  names_in = record { all = x.names_in };
  mentions_in = record { all = x.mentions_in };
  notes_in = record { all = x.notes_in };
}

pub reads_then : {a b c : Walk} {xs ys : List Gloss} → Reads a b xs → Reads b c ys → Reads a c (xs ++ ys)
reads_then x y = record {
  names_in = covers_then x.names_in y.names_in;
  mentions_in = covers_then x.mentions_in y.mentions_in;
  notes_in = covers_then x.notes_in y.notes_in;
}

pub reads_next : {a b c : Walk} {g : Gloss} {ys : List Gloss} → Reads a b (g ∷ []) → Reads b c ys
    → Reads a c (g ∷ ys)
reads_next x y = reads_then x y

pub reads_two : {a b c : Walk} {g h : Gloss} {ys : List Gloss} → Reads a b (g ∷ h ∷ []) → Reads b c ys
    → Reads a c (g ∷ h ∷ ys)
reads_two x y = reads_then x y

pub reads_three : {a b c : Walk} {f g h : Gloss} {ys : List Gloss} → Reads a b (f ∷ g ∷ h ∷ []) → Reads b c ys
    → Reads a c (f ∷ g ∷ h ∷ ys)
reads_three x y = reads_then x y

pub reads_as : {a b : Walk} {xs ys : List Gloss} → Reads a b xs → xs ≡ ys → Reads a b ys
reads_as {a} {b} x same = subst (Reads a b) same x

-- ---- lists of parts

pub reads_start : (a : Walk) (all : List Gloss) → ReadsOn a a all all
reads_start a all = record { by = λ to h. h }

-- one of the elements of a list that the walk goes over
pub reads_over : {X : Type 0} {from at next : Walk} {whole : List Gloss} (words : List X → List Gloss)
    {first : List Gloss} (x : X) (all rest : List X) → all ≡ x ∷ rest → words (x ∷ rest) ≡ first ++ words rest
    → ReadsOn from at whole (words all) → Reads at next first → ReadsOn from next whole (words rest)
reads_over words x all rest is parts on step = record {
  by = λ to h. on.by to (reads_as (reads_then step h) (sym parts ∙ ap words (sym is)));
}

pub reads_end : {X : Type 0} {from at : Walk} {whole : List Gloss} (words : List X → List Gloss)
    (rest : List X) → rest ≡ [] → [] ≡ words [] → ReadsOn from at whole (words rest) → Reads from at whole
reads_end {at = at} words rest is none on =
    on.by at
    (reads_as (reads record { names_in = finds_none _; mentions_in = finds_none _; notes_in = finds_none _ })
    (none ∙ ap words (sym is)))

-- ---- values

pub reads_number : {a b : Walk} (role : ValueRole) (t : List ℕ)
    → Finds a b 1 (λ k. []) (λ k. []) (λ k. record { word = k; note = ValueNote role (tree.Number t) } ∷ [])
    → Reads a b (glossed (spell_value (tree.Number t))
    (value_roles (role_of role (tree.Number t)) (tree.Number t)) ∷ [])
reads_number roles.Constant t x = reads x
reads_number roles.Enumerator t x = reads x
reads_number roles.Case t x = reads x
reads_number roles.FixedSize t x = reads x
reads_number roles.GreatestSize t x = reads x

pub reads_name : {a b : Walk} (role : ValueRole) (t : List ℕ)
    → Finds a b 1 (λ k. []) (λ k. record { name = t; word = k; usage = uses.Value; tag = None } ∷ [])
    (λ k. record { word = k; note = ValueNote role (tree.Named t) } ∷ [])
    → Reads a b (glossed (spell_value (tree.Named t))
    (value_roles (role_of role (tree.Named t)) (tree.Named t)) ∷ [])
reads_name roles.Constant t x = reads x
reads_name roles.Enumerator t x = reads x
reads_name roles.Case t x = reads x
reads_name roles.FixedSize t x = reads x
reads_name roles.GreatestSize t x = reads x

-- ---- the first words of declarations

abbrev IsSilent : {A : Type 0} → (ℕ → List Role → List A) → List Role → Type 0
IsSilent tell roles = (k : ℕ) → tell k roles ≡ []

leading_declares : (site : Site) (d : tree.Declaration) → IsSilent declared_at (leading_roles (Some site) d)
leading_declares InTypedef d k = refl
leading_declares (Inside AsField around) d k = refl
leading_declares (Inside AsDiscriminant around) d k = refl
leading_declares (Inside AsArm around) d k = refl

leading_mentions : (site : Site) (d : tree.Declaration) → IsSilent mentioned_at (leading_roles (Some site) d)
leading_mentions InTypedef d k = refl
leading_mentions (Inside AsField around) d k = refl
leading_mentions (Inside AsDiscriminant around) d k = refl
leading_mentions (Inside AsArm around) d k = refl

-- words of which the first has these roles, by the same words without them
covers_led : {A : Type 0} {tell : ℕ → List Role → List A} {a b c : Walked A} (found : ℕ → List A)
    (plain words : List Gloss) → length plain ≡ length words
    → ((k : ℕ) → found k ++ told_of tell k plain ≡ told_of tell k words) → Covers a b 0 found
    → CoversAll tell b c plain → CoversAll tell a c words
covers_led found plain words same told x y = covers_words words _ _ (finds_here x y.all) same told

led_long : (first : List Role) (usage : Option Use) (inside : Option (List ℕ)) (type : tree.DataType)
    → length (type_by glossed [] usage inside type) ≡ length (type_by glossed first usage inside type)
led_long first usage inside (tree.Simple basics.Int) = refl
led_long first usage inside (tree.Simple basics.UnsignedInt) = refl
led_long first usage inside (tree.Simple basics.Long) = refl
led_long first usage inside (tree.Simple basics.UnsignedLong) = refl
led_long first usage inside (tree.Simple basics.Hyper) = refl
led_long first usage inside (tree.Simple basics.UnsignedHyper) = refl
led_long first usage inside (tree.Simple basics.Unsigned) = refl
led_long first usage inside (tree.Simple basics.Float) = refl
led_long first usage inside (tree.Simple basics.Double) = refl
led_long first usage inside (tree.Simple basics.Quadruple) = refl
led_long first usage inside (tree.Simple basics.Bool) = refl
led_long first usage inside (tree.Name t) = refl
led_long first usage inside (tree.Tagged tag t) = refl
led_long first usage inside (tree.Inline body) = refl

front_bare : {A : Type 0} (tell : ℕ → List Role → List A) (first : List Role) (rest : List A)
    → ((k : ℕ) → tell k [] ≡ []) → (k : ℕ) → tell k first ++ (tell k [] ++ rest) ≡ tell k first ++ rest
front_bare tell first rest none k = ap (λ l. tell k first ++ (l ++ rest)) (none k)

-- what is told of the first word of a type beside what its own name is
led_told : {A : Type 0} (tell : ℕ → List Role → List A) (first : List Role) (usage : Use)
    (inside : Option (List ℕ)) (type : tree.DataType)
    → ((k : ℕ) → tell k [] ≡ [])
    → ((t : List ℕ) (k : ℕ) → tell k first ++ tell k (gloss.Mentions t usage None ∷ [])
    ≡ tell k (gloss.Mentions t usage None ∷ first))
    → (k : ℕ) → tell k first ++ told_of tell k (type_by glossed [] (Some usage) inside type)
    ≡ told_of tell k (type_by glossed first (Some usage) inside type)
led_told tell first usage inside (tree.Simple basics.Int) none named k = front_bare tell first _ none k
led_told tell first usage inside (tree.Simple basics.UnsignedInt) none named k =
    front_bare tell first _ none k
led_told tell first usage inside (tree.Simple basics.Long) none named k = front_bare tell first _ none k
led_told tell first usage inside (tree.Simple basics.UnsignedLong) none named k =
    front_bare tell first _ none k
led_told tell first usage inside (tree.Simple basics.Hyper) none named k = front_bare tell first _ none k
led_told tell first usage inside (tree.Simple basics.UnsignedHyper) none named k =
    front_bare tell first _ none k
led_told tell first usage inside (tree.Simple basics.Unsigned) none named k = front_bare tell first _ none k
led_told tell first usage inside (tree.Simple basics.Float) none named k = front_bare tell first _ none k
led_told tell first usage inside (tree.Simple basics.Double) none named k = front_bare tell first _ none k
led_told tell first usage inside (tree.Simple basics.Quadruple) none named k = front_bare tell first _ none k
led_told tell first usage inside (tree.Simple basics.Bool) none named k = front_bare tell first _ none k
led_told tell first usage inside (tree.Tagged tag t) none named k = front_bare tell first _ none k
led_told tell first usage inside (tree.Inline body) none named k = front_bare tell first _ none k
led_told tell first usage inside (tree.Name t) none named k =
    sym (append_assoc (tell k first) (tell k (gloss.Mentions t usage None ∷ [])) [])
    ∙ ap (λ l. l ++ []) (named t k)

pub reads_led_type : {a b c : Walk} (site : Site) (d : tree.Declaration) (usage : Use)
    (inside : Option (List ℕ)) (type : tree.DataType)
    → Finds a b 0 (λ k. []) (λ k. []) (λ k. noted_at k (leading_roles (Some site) d))
    → Reads b c (type_by glossed [] (Some usage) inside type)
    → Reads a c (type_by glossed (leading_roles (Some site) d) (Some usage) inside type)
reads_led_type site d usage inside type x y = record {
  names_in = covers_led (λ k. []) plain words long
      (λ k. ap (λ l. l ++ told_of declared_at k plain) (sym (leading_declares site d k))
      ∙ led_told declared_at first usage inside type (λ j. refl) (λ t j. append-nil (declared_at j first)) k)
      x.names_in y.names_in;
  mentions_in = covers_led (λ k. []) plain words long
      (λ k. ap (λ l. l ++ told_of mentioned_at k plain) (sym (leading_mentions site d k))
      ∙ led_told mentioned_at first usage inside type (λ j. refl) named k) x.mentions_in y.mentions_in;
  notes_in = covers_led (λ k. noted_at k first) plain words long
      (led_told noted_at first usage inside type (λ j. refl) (λ t j. append-nil (noted_at j first)))
      x.notes_in y.notes_in;
}
  where
    first : List Role
    first = leading_roles (Some site) d

    plain : List Gloss
    plain = type_by glossed [] (Some usage) inside type

    words : List Gloss
    words = type_by glossed first (Some usage) inside type

    long : length plain ≡ length words
    long = led_long first (Some usage) inside type

    named : (t : List ℕ) (k : ℕ) → mentioned_at k first ++ mentioned_at k (gloss.Mentions t usage None ∷ [])
        ≡ mentioned_at k (gloss.Mentions t usage None ∷ first)
    named t k =
        let m : Mention = record { name = t; word = k; usage = usage; tag = None } in
        ap (λ l. l ++ m ∷ []) (leading_mentions site d k) ∙ ap (λ l. m ∷ l) (sym (leading_mentions site d k))

-- a keyword that is the first word of a declaration
pub reads_first : {a b c : Walk} (site : Site) (d : tree.Declaration) (keyword : Word)
    → Finds a b 0 (λ k. []) (λ k. []) (λ k. noted_at k (leading_roles (Some site) d))
    → Finds b c 1 (λ k. []) (λ k. []) (λ k. [])
    → Reads a c (glossed keyword (leading_roles (Some site) d) ∷ [])
reads_first site d keyword x y = record {
  names_in = covers_led (λ k. []) (glossed keyword [] ∷ []) _ refl
      (λ k. ap (λ l. l ++ []) (sym (leading_declares site d k))) x.names_in record { all = y.names_in };
  mentions_in = covers_led (λ k. []) (glossed keyword [] ∷ []) _ refl
      (λ k. ap (λ l. l ++ []) (sym (leading_mentions site d k))) x.mentions_in record { all = y.mentions_in };
  notes_in = covers_led (λ k. noted_at k (leading_roles (Some site) d)) (glossed keyword [] ∷ []) _ refl
      (λ k. refl) x.notes_in record { all = y.notes_in };
}

-- ---- the names of declarations

pub reads_declared : {a b c e : Walk} (site : Site) (name : List ℕ) (lifted : Option Lifted)
    → Finds a b 0 (λ k. declared_at k (name_roles (Some site) name)) (λ k. []) (λ k. [])
    → Finds b c 0 (λ k. declared_at k (roles_of_lifted lifted)) (λ k. []) (λ k. [])
    → Finds c e 1 (λ k. []) (λ k. []) (λ k. [])
    → Reads a e (glossed (Name name) (name_roles (Some site) name ++ roles_of_lifted lifted) ∷ [])
reads_declared InTypedef name None x y z = reads (found_here x (found_here y z))
reads_declared InTypedef name (Some lifted) x y z = reads (found_here x (found_here y z))
reads_declared (Inside position around) name None x y z = reads (found_here x (found_here y z))
reads_declared (Inside position around) name (Some lifted) x y z = reads (found_here x (found_here y z))

-- one that is not that of an inline type
pub reads_own : {a b : Walk} (site : Site) (name : List ℕ)
    → Reads a b (glossed (Name name) (name_roles (Some site) name ++ []) ∷ [])
    → Reads a b (glossed (Name name) (name_roles (Some site) name) ∷ [])
reads_own site name x =
    reads_as x (ap (λ roles. glossed (Name name) roles ∷ []) (append-nil (name_roles (Some site) name)))

pub outside_lifts : (type : tree.DataType) → IsOutside type → (inside : Option (List ℕ))
    → lifted_roles inside type ≡ []
outside_lifts type out None = refl
outside_lifts (tree.Simple b) out (Some lifted) = refl
outside_lifts (tree.Name t) out (Some lifted) = refl
outside_lifts (tree.Tagged tag t) out (Some lifted) = refl
outside_lifts (tree.Inline body) out (Some lifted) = absurd out

-- a type, and the name of a declaration with what stands around it
pub reads_typed : {a b c e : Walk} (site : Site) (type : tree.DataType) (name : List ℕ) (shape : tree.Shape)
    (lifted : List Role) → lifted ≡ lifted_roles (name_inside (Some site) name) type
    → Finds a b 0 (λ k. []) (λ k. []) (λ k. noted_at k (leading_roles (Some site) (tree.Of type name shape)))
    → Reads b c (type_by glossed [] (Some (use_by shape)) (name_inside (Some site) name) type)
    → Reads c e (named_by glossed true (name_roles (Some site) name ++ lifted) name shape)
    → Reads a e (declaration_by glossed (Some site) (tree.Of type name shape))
reads_typed {c = c} {e} site type name shape lifted is lead x y =
    reads_then (reads_led_type site (tree.Of type name shape) (use_by shape) (name_inside (Some site) name)
    type lead x)
    (subst (λ l. Reads c e (named_by glossed true (name_roles (Some site) name ++ l) name shape)) is y)

-- what is found of a declaration as it is written
pub reads_declaration : {a b : Walk} {d e : tree.Declaration} (site : Site) → d ≡ e
    → Reads a b (declaration_by glossed (Some site) e) → Reads a b (declaration_by glossed (Some site) d)
reads_declaration {a} {b} site is x = subst (λ d. Reads a b (declaration_by glossed (Some site) d)) (sym is) x

-- what is found in front of a declaration as it is written
pub led_as : {a b : Walk} {d e : tree.Declaration} (site : Site) → d ≡ e
    → Finds a b 0 (λ k. []) (λ k. []) (λ k. noted_at k (leading_roles (Some site) d))
    → Finds a b 0 (λ k. []) (λ k. []) (λ k. noted_at k (leading_roles (Some site) e))
led_as {a} {b} site is x =
    subst (λ d. Finds a b 0 (λ k. []) (λ k. []) (λ k. noted_at k (leading_roles (Some site) d))) is x

-- ---- types

-- words without roles
pub reads_bare : {a b : Walk} {n : ℕ} (words : List Gloss) → n ≡ length words → AreBare words
    → Finds a b n (λ k. []) (λ k. []) (λ k. []) → Reads a b words
reads_bare words count bare x = record {
  names_in = covers_words words _ _ x.names_in count
      (λ k. sym (told_of_bare declared_at k words (λ j. refl) bare));
  mentions_in = covers_words words _ _ x.mentions_in count
      (λ k. sym (told_of_bare mentioned_at k words (λ j. refl) bare));
  notes_in = covers_words words _ _ x.notes_in count
      (λ k. sym (told_of_bare noted_at k words (λ j. refl) bare));
}

pub reads_basic : {a b : Walk} {n : ℕ} (usage : Option Use) (inside : Option (List ℕ)) (basic : Basic)
    → n ≡ length (spell_type (tree.Simple basic)) → Finds a b n (λ k. []) (λ k. []) (λ k. [])
    → Reads a b (type_by glossed [] usage inside (tree.Simple basic))
reads_basic usage inside basic count x =
    reads_bare (type_by glossed [] usage inside (tree.Simple basic))
    (count ∙ sym (long_as (type_by glossed [] usage inside (tree.Simple basic))
    (words_type [] usage inside (tree.Simple basic))))
    (bare_marks (basic_marks basic)) x

-- a type that is no inline one, as an argument
pub reads_argument : {a b : Walk} (inside : Option (List ℕ)) (type : tree.DataType) → IsOutside type
    → Reads a b (type_by glossed [] (Some uses.ByValue) inside type)
    → Reads a b (argument_by glossed true (tree.Typed type))
reads_argument inside (tree.Simple b) out x = x
reads_argument inside (tree.Name t) out x = x
reads_argument inside (tree.Tagged tag t) out x = x
reads_argument inside (tree.Inline body) out x = absurd out

-- an inline type that is an argument, of which what was found is taken away

covers_less : {A : Type 0} (tell : ℕ → List Role → List A) (a b c : Walked A) (body : tree.Body)
    → ((j : ℕ) → tell j [] ≡ []) → CoversAll tell a b (body_by glossed (Some []) body)
    → c.word ≡ b.word → c.list ≡ take (length a.list) b.list → CoversAll tell a c (body_by glossed None body)
covers_less tell a b c body none x word list =
    covers_words (body_by glossed None body) _ _ (finds_less a b c _ _ x.all word list)
    (long_as (body_by glossed (Some []) body) (words_body (Some []) body)
    ∙ sym (long_as (body_by glossed None body) (words_body None body)))
    (λ k. sym (told_of_bare tell k (body_by glossed None body) none (bare_body body)))

pub taken : {A B : Type 0} (f : A → B) (a b : List A)
    → map f (take (length a) b) ≡ take (length (map f a)) (map f b)
taken f a b = sym (take-map f (length a) b) ∙ ap (λ n. take n (map f b)) (sym (length-map a f))

pub reads_less : {a b c : Walk} (body : tree.Body) → Reads a b (body_by glossed (Some []) body)
    → c.word ≡ b.word
    → c.glossary.declared.items ≡ take (length a.glossary.declared.items) b.glossary.declared.items
    → c.glossary.mentioned.items ≡ take (length a.glossary.mentioned.items) b.glossary.mentioned.items
    → c.glossary.notes.items ≡ take (length a.glossary.notes.items) b.glossary.notes.items
    → Reads a c (body_by glossed None body)
reads_less {a} {b} {c} body x word names mentions notes = record {
  names_in = covers_less declared_at (declared_by a) (declared_by b) (declared_by c) body
      (λ j. refl) x.names_in word (ap (map view_name) names
      ∙ taken view_name a.glossary.declared.items b.glossary.declared.items);
  mentions_in = covers_less mentioned_at (mentioned_by a) (mentioned_by b) (mentioned_by c) body
      (λ j. refl) x.mentions_in word (ap (map view_mention) mentions
      ∙ taken view_mention a.glossary.mentioned.items b.glossary.mentioned.items);
  notes_in = covers_less noted_at (noted_by a) (noted_by b) (noted_by c) body (λ j. refl) x.notes_in word
      (ap (map view_note_at) notes ∙ taken view_note_at a.glossary.notes.items b.glossary.notes.items);
}

-- ---- definitions

-- the walk has gone over all words but the last, which has no role
pub reads_all : {from to : Walk} (d : tree.Definition) (front : List Gloss) (last : Word)
    → gloss.gloss d ≡ front ++ glossed last [] ∷ [] → Reads from to front → ReadsAll from to d
reads_all {from} {to} d front last parts x = record {
  declared_are = λ start empty few. finds_all {tell = declared_at} front rest start (ap (map view_name) empty)
      x.names_in (λ k. refl) (short few) ∙ ap (told_of declared_at 0) (sym parts);
  mentioned_are = λ start empty few.
      finds_all {tell = mentioned_at} front rest start (ap (map view_mention) empty) x.mentions_in (λ k. refl)
      (short few) ∙ ap (told_of mentioned_at 0) (sym parts);
  noted_are = λ start empty few. finds_all {tell = noted_at} front rest start (ap (map view_note_at) empty)
      x.notes_in (λ k. refl) (short few) ∙ ap (told_of noted_at 0) (sym parts);
}
  where
    rest : List Gloss
    rest = glossed last [] ∷ []

    short : length (spell d) < 2 ^ 64 → length (front ++ rest) < 2 ^ 64
    short few = subst (λ n. n < 2 ^ 64) (sym (long_as (gloss.gloss d) (words_gloss d)) ∙ ap length parts) few

-- a keyword, and the name behind it
pub reads_headed : {a b : Walk} (mark : Mark) (name : List ℕ) (kind : NameKind) {found : List ℕ}
    {as_kind : NameKind} → found ≡ name → as_kind ≡ kind
    → Finds a b 2 (λ k. record { name = found; word = k + 1; kind = as_kind; lifted = false } ∷ [])
    (λ k. []) (λ k. [])
    → Reads a b (glossed (Fixed mark) [] ∷ glossed (Name name) (gloss.Declares name kind false ∷ []) ∷ [])
reads_headed {a} {b} mark name kind {found} {as_kind} named kept x =
    reads (subst (λ n. Finds a b 2 (λ k. record { name = n; word = k + 1; kind = kind; lifted = false } ∷ [])
    (λ k. []) (λ k. [])) named
    (subst (λ c. Finds a b 2 (λ k. record { name = found; word = k + 1; kind = c; lifted = false } ∷ [])
    (λ k. []) (λ k. [])) kept x))

-- a program: three words, the versions, two words, the number and a word without a role
pub reads_program : {from a b c to : Walk} (d : tree.Definition) (e f g : Gloss) (versions : List Gloss)
    (h i number : Gloss) (last : Word)
    → gloss.gloss d ≡ e ∷ f ∷ g ∷ (versions ++ h ∷ i ∷ number ∷ glossed last [] ∷ [])
    → Reads from a (e ∷ f ∷ g ∷ []) → Reads a b versions → Reads b c (h ∷ i ∷ []) → Reads c to (number ∷ [])
    → ReadsAll from to d
reads_program d e f g versions h i number last parts x y z w =
    reads_all d (e ∷ f ∷ g ∷ (versions ++ h ∷ i ∷ number ∷ [])) last (parts
    ∙ ap (λ l. e ∷ f ∷ g ∷ l) (sym (append_assoc versions (h ∷ i ∷ number ∷ []) (glossed last [] ∷ []))))
    (reads_three x (reads_then y (reads_two z w)))
