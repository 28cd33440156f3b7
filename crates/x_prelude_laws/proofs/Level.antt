-- A definition closes its braces, and ends with `;` behind them.
use Rattle.std.proofs.Common.{◌≡◌, ℕ, ◌+◌, ◌-◌, Bool, false, length, List, [], ◌∷◌, ◌++◌, Option, Some, None}
use Rattle.std.proofs.Common.{is_some, arith, refl, sym, ap, ◌∙◌}
use Rattle.std.proofs.lemmas.List.{append_assoc}
use Rattle.x_lex.specs.declared.mark.Mark.{Mark}
use Rattle.x_lex.specs.declared.mark.Mark.TheVariants as marks
use Rattle.x_cutting.specs.Cutting.{DepthRole, closing, depth_after, opening, plain, semicolon}
use Rattle.x_trees.specs.Tree as tree
use Rattle.x_trees.specs.Gloss as gloss
use Rattle.x_trees.specs.Gloss.{Role, Site, worded}
use Rattle.x_trees.specs.Spell.{spell}
use Rattle.x_trees.specs.Words.{Fixed, Name, Number, Word}
use Rattle.x_trees.specs.declared.names.mention.Use.{Use}
use Rattle.x_trees.specs.declared.trees.declaration.Basic.{Basic}
use Rattle.x_trees.specs.declared.trees.declaration.Basic.TheVariants as basics
use Rattle.x_trees.specs.declared.trees.declaration.Tag.{Tag}
use Rattle.x_trees.specs.declared.trees.declaration.Tag.TheVariants as tags

-- what a word does to the depth of the braces
abbrev pub mark_role : Mark → DepthRole
mark_role marks.OpenBrace = opening
mark_role marks.CloseBrace = closing
mark_role marks.Semicolon = semicolon
mark_role mark = plain

abbrev pub word_role : Word → DepthRole
word_role (Fixed mark) = mark_role mark
word_role word = plain

-- the depth behind words
abbrev pub run : ℕ → List Word → ℕ
run d [] = d
run d (w ∷ ws) = run (depth_after d (word_role w)) ws

-- it is that before them
abbrev pub IsLevel : List Word → Type 0
IsLevel ws = (d : ℕ) → run d ws ≡ d

run-append : (d : ℕ) (xs ys : List Word) → run d (xs ++ ys) ≡ run (run d xs) ys
run-append d [] ys = refl
run-append d (x ∷ xs) ys = run-append (depth_after d (word_role x)) xs ys

both : (xs ys : List Word) → IsLevel xs → IsLevel ys → IsLevel (xs ++ ys)
both xs ys h k d = run-append d xs ys ∙ ap (λ n. run n ys) (h d) ∙ k d

back : (d : ℕ) → d + 1 - 1 ≡ d
back d = omega arith

-- braces around words, and others behind
braced : (xs ys : List Word) → IsLevel xs → IsLevel ys → IsLevel
    (Fixed marks.OpenBrace ∷ (xs ++ Fixed marks.CloseBrace ∷ ys))
braced xs ys h k d =
    run-append (d + 1) xs (Fixed marks.CloseBrace ∷ ys) ∙ ap (λ n. run (n - 1) ys) (h (d + 1))
    ∙ ap (λ n. run n ys) (back d) ∙ k d

-- words that close one brace more than they open
abbrev IsClosing : List Word → Type 0
IsClosing ws = (d : ℕ) → run (d + 1) ws ≡ d

-- ---- the words of each part

level_value : (v : tree.Value) (ws : List Word) → IsLevel ws → IsLevel (gloss.spell_value v ∷ ws)
level_value (tree.Number t) ws h = h
level_value (tree.Named t) ws h = h

level_basic : (first : List Role) (b : Basic) → IsLevel (gloss.marks_by worded first (gloss.basic_marks b))
level_basic first basics.Int d = refl
level_basic first b d = refl

level_most : (told : Bool) (v : Option tree.Value) → IsLevel (gloss.most_by worded told v)
level_most told None = λ d. refl
level_most told (Some v) = level_value v [] (λ d. refl)

level_length : (told : Bool) (l : tree.Length) → IsLevel (gloss.length_by worded told l)
level_length told (tree.Fixed v) = level_value v (Fixed marks.CloseBracket ∷ []) (λ d. refl)
level_length told (tree.Variable v) = both (gloss.most_by worded told v) (Fixed marks.Greater ∷ [])
    (level_most told v) (λ d. refl)

level_named : (told : Bool) (roles : List Role) (name : List ℕ) (shape : tree.Shape)
    → IsLevel (gloss.named_by worded told roles name shape)
level_named told roles name tree.Plain = λ d. refl
level_named told roles name tree.Optional = λ d. refl
level_named told roles name (tree.Array l) = level_length told l

level_given : (told : Bool) (v : Option tree.Value) → IsLevel (gloss.given_by worded told v)
level_given told None = λ d. refl
level_given told (Some v) = level_value v [] (λ d. refl)

level_enumerator : (told : Bool) (e : tree.Enumerator) → IsLevel (gloss.enumerator_by worded told e)
level_enumerator told e = level_given told e.value

level_others : (told : Bool) (es : List tree.Enumerator) → IsLevel (gloss.other_enumerators_by worded told es)
level_others told [] = λ d. refl
level_others told (e ∷ es) =
    both (gloss.enumerator_by worded told e) (gloss.other_enumerators_by worded told es)
    (level_enumerator told e) (level_others told es)

level_enumerators : (told : Bool) (es : List tree.Enumerator) → IsLevel (gloss.enumerators_by worded told es)
level_enumerators told [] = λ d. refl
level_enumerators told (e ∷ es) =
    both (gloss.enumerator_by worded told e) (gloss.other_enumerators_by worded told es)
    (level_enumerator told e) (level_others told es)

level_cases : (told : Bool) (vs : List tree.Value) → IsLevel (gloss.cases_by worded told vs)
level_cases told [] = λ d. refl
level_cases told (v ∷ vs) = level_value v (Fixed marks.Colon ∷ gloss.cases_by worded told vs)
    (level_cases told vs)

level_tag : (tag : Tag) (ws : List Word) → IsLevel ws → IsLevel (Fixed (gloss.tag_mark tag) ∷ ws)
level_tag tags.Enum ws h = h
level_tag tags.Struct ws h = h
level_tag tags.Union ws h = h

level_mark : (b : tree.Body) (ws : List Word) → IsLevel ws → IsLevel (Fixed (gloss.body_mark b) ∷ ws)
level_mark (tree.Enum es) ws h = h
level_mark (tree.Struct ds) ws h = h
level_mark (tree.Union d arms other) ws h = h

mutual
  level_type : (first : List Role) (usage : Option Use) (inside : Option (List ℕ)) (t : tree.DataType)
      → IsLevel (gloss.type_by worded first usage inside t)
  level_type first usage inside (tree.Simple b) = level_basic first b
  level_type first usage inside (tree.Name t) = λ d. refl
  level_type first usage inside (tree.Tagged tag t) = level_tag tag (Name t ∷ []) (λ d. refl)
  level_type first usage inside (tree.Inline body) = level_mark body (gloss.body_by worded inside body)
      (level_body inside body)

  level_body : (around : Option (List ℕ)) (b : tree.Body) → IsLevel (gloss.body_by worded around b)
  level_body around (tree.Enum es) =
      braced (gloss.enumerators_by worded (is_some around) es) [] (level_enumerators (is_some around) es)
      (λ d. refl)
  level_body around (tree.Struct ds) =
      braced (gloss.declarations_by worded around ds) [] (level_declarations around ds) (λ d. refl)
  level_body around (tree.Union d arms other) =
      both (gloss.declaration_by worded (gloss.site_in gloss.AsDiscriminant around) d)
      (Fixed marks.CloseParenthesis ∷ Fixed marks.OpenBrace ∷
      (gloss.arms_by worded around arms ++ gloss.default_by worded around other))
      (level_declaration (gloss.site_in gloss.AsDiscriminant around) d)
      (λ n. run-append (n + 1) (gloss.arms_by worded around arms) (gloss.default_by worded around other)
      ∙ ap (λ m. run m (gloss.default_by worded around other)) (level_arms around arms (n + 1))
      ∙ closing_default around other n)

  level_declaration : (site : Option Site) (d : tree.Declaration)
      → IsLevel (gloss.declaration_by worded site d)
  level_declaration site tree.Void = λ d. refl
  level_declaration site (tree.Of type name shape) =
      both (gloss.type_by worded (gloss.leading_roles site (tree.Of type name shape))
      (gloss.usage_at site shape) (gloss.name_inside site name) type)
      (gloss.named_by worded (is_some site) (gloss.name_roles site name ++ gloss.lifted_roles
      (gloss.name_inside site name) type) name shape)
      (level_type (gloss.leading_roles site (tree.Of type name shape)) (gloss.usage_at site shape)
      (gloss.name_inside site name) type)
      (level_named (is_some site) (gloss.name_roles site name ++ gloss.lifted_roles
      (gloss.name_inside site name) type) name shape)
  level_declaration site (tree.Opaque name l) = level_length (is_some site) l
  level_declaration site (tree.String name most) = level_length (is_some site) (tree.Variable most)

  level_declarations : (around : Option (List ℕ)) (ds : tree.Declarations)
      → IsLevel (gloss.declarations_by worded around ds)
  level_declarations around tree.none = λ d. refl
  level_declarations around (tree.more d ds) =
      both (gloss.declaration_by worded (gloss.site_in gloss.AsField around) d)
      (Fixed marks.Semicolon ∷ gloss.declarations_by worded around ds)
      (level_declaration (gloss.site_in gloss.AsField around) d) (level_declarations around ds)

  level_arms : (around : Option (List ℕ)) (arms : tree.Arms) → IsLevel (gloss.arms_by worded around arms)
  level_arms around tree.no_arm = λ d. refl
  level_arms around (tree.arm cases d rest) =
      both (gloss.cases_by worded (is_some around) cases)
      (gloss.declaration_by worded (gloss.site_in gloss.AsArm around) d ++ Fixed marks.Semicolon
      ∷ gloss.arms_by worded around rest)
      (level_cases (is_some around) cases)
      (both (gloss.declaration_by worded (gloss.site_in gloss.AsArm around) d)
      (Fixed marks.Semicolon ∷ gloss.arms_by worded around rest)
      (level_declaration (gloss.site_in gloss.AsArm around) d) (level_arms around rest))

  closing_default : (around : Option (List ℕ)) (other : tree.Default)
      → IsClosing (gloss.default_by worded around other)
  closing_default around tree.no_default = λ d. back d
  closing_default around (tree.default e) =
      λ d. run-append (d + 1) (gloss.declaration_by worded (gloss.site_in gloss.AsArm around) e)
      (Fixed marks.Semicolon ∷ Fixed marks.CloseBrace ∷ [])
      ∙ ap (λ n. n - 1) (level_declaration (gloss.site_in gloss.AsArm around) e (d + 1)) ∙ back d

level_argument : (told : Bool) (a : tree.Argument) → IsLevel (gloss.argument_by worded told a)
level_argument told tree.Text = λ d. refl
level_argument told (tree.Typed type) = level_type (gloss.argument_roles told type) _ None type

level_passed : (told : Bool) (void : List Role) (p : Option tree.Argument)
    → IsLevel (gloss.passed_by worded told void p)
level_passed told void None = λ d. refl
level_passed told void (Some a) = level_argument told a

level_arguments : (told : Bool) (others : List tree.Argument) → IsLevel (gloss.others_by worded told others)
level_arguments told [] = λ d. refl
level_arguments told (a ∷ rest) =
    both (gloss.argument_by worded told a) (gloss.others_by worded told rest) (level_argument told a)
    (level_arguments told rest)

level_procedure : (told : Bool) (p : tree.Procedure) → IsLevel (gloss.procedure_by worded told p)
level_procedure told p =
    both (gloss.passed_by worded told result p.result) _ (level_passed told result p.result)
    (both (gloss.passed_by worded told first p.first ++ gloss.others_by worded told p.others)
    (Fixed marks.CloseParenthesis ∷ Fixed marks.Equals ∷ Number p.number ∷ Fixed marks.Semicolon ∷ [])
    (both (gloss.passed_by worded told first p.first) (gloss.others_by worded told p.others)
    (level_passed told first p.first) (level_arguments told p.others))
    (λ d. refl))
  where
    result : List Role
    result = gloss.roles_where told (gloss.VoidResult ∷ [])

    first : List Role
    first = gloss.roles_where told (gloss.VoidArgument (length p.others) ∷ [])

level_procedures : (told : Bool) (ps : List tree.Procedure) → IsLevel (gloss.procedures_by worded told ps)
level_procedures told [] = λ d. refl
level_procedures told (p ∷ ps) =
    both (gloss.procedure_by worded told p) (gloss.procedures_by worded told ps) (level_procedure told p)
    (level_procedures told ps)

level_version : (told : Bool) (v : tree.Version) → IsLevel (gloss.version_by worded told v)
level_version told v =
    braced (gloss.procedures_by worded told v.procedures)
    (Fixed marks.Equals ∷ Number v.number ∷ Fixed marks.Semicolon ∷ []) (level_procedures told v.procedures)
    (λ d. refl)

level_versions : (told : Bool) (vs : List tree.Version) → IsLevel (gloss.versions_by worded told vs)
level_versions told [] = λ d. refl
level_versions told (v ∷ vs) =
    both (gloss.version_by worded told v) (gloss.versions_by worded told vs) (level_version told v)
    (level_versions told vs)

-- the words end with `;` outside braces
pub record IsClosed (ws : List Word) : Type 0 where
  pub front : List Word
  pub parts : ws ≡ front ++ Fixed marks.Semicolon ∷ []
  pub level : run 0 front ≡ 0

pub closed : (d : tree.Definition) → IsClosed (spell d)
closed (tree.Const name value) = record {
  front = Fixed marks.Const ∷ Name name ∷ Fixed marks.Equals ∷ gloss.spell_value value ∷ [];
  parts = refl;
  level = level_value value [] (λ d. refl) 0;
}
closed (tree.Typedef d) = record {
  front = Fixed marks.Typedef ∷ gloss.declaration_by worded None d;
  parts = refl;
  level = level_declaration None d 0;
}
closed (tree.NewType name body) = record {
  front = Fixed (gloss.body_mark body) ∷ Name name ∷ gloss.body_by worded None body;
  parts = refl;
  level = level_mark body (Name name ∷ gloss.body_by worded None body) (level_body None body) 0;
}
closed (tree.Program name versions number) = record {
  front = Fixed marks.Program ∷ Name name ∷ Fixed marks.OpenBrace
      ∷ (gloss.versions_by worded false versions ++ Fixed marks.CloseBrace ∷ Fixed marks.Equals
      ∷ Number number ∷ []);
  parts = ap (λ l. Fixed marks.Program ∷ Name name ∷ Fixed marks.OpenBrace ∷ l)
      (sym (append_assoc (gloss.versions_by worded false versions)
      (Fixed marks.CloseBrace ∷ Fixed marks.Equals ∷ Number number ∷ [])
      (Fixed marks.Semicolon ∷ [])));
  level = braced (gloss.versions_by worded false versions) (Fixed marks.Equals ∷ Number number ∷ [])
      (level_versions false versions) (λ d. refl) 0;
}
