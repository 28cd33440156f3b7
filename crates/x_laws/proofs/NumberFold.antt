-- The numbers of a text, enumerator by enumerator.
use Rattle.std.proofs.Common.{◌≡◌, ℕ, ◌+◌, ℤ, pos, Bool, true, false, List, [], ◌∷◌, ◌++◌, length, Option}
use Rattle.std.proofs.Common.{None, Some, refl, sym, ap, ◌∙◌}
use Rattle.x_trees.specs.Tree as tree
use Rattle.x_trees.specs.Spell.{spell_cases, spell_declaration, spell_enumerator}
use Rattle.x_numbers.specs.Numbers.{next_number}
use Rattle.x_outline.specs.Bodies.{BodyAt, EnumeratorAt, arms_at, bodies_of_arms, bodies_of_declaration}
use Rattle.x_outline.specs.Bodies.{bodies_of_default, bodies_of_fields, bodies_of_type, default_at}
use Rattle.x_outline.specs.Bodies.{enumerators, enumerators_from, enumerators_in, star}
use Rattle.x_schema.specs.SchemaOf.{Numbers, number_given, number_in, with_arms, with_body, with_declaration}
use Rattle.x_schema.specs.SchemaOf.{with_declarations, with_default, with_definition, with_enumerators}
use Rattle.x_schema.specs.SchemaOf.{with_number, with_type}
use Rattle.x_laws.proofs.EnumWords.{in_order, inline_enumerators, new_enumerators, own_enumerators}

-- the number of an enumerator behind one of this number
abbrev pub given_number : Numbers → Option ℤ → Bool → Option tree.Value → Option ℤ
given_number numbers before is_first (Some v) = number_in numbers v
given_number numbers before true None = Some (pos 0)
given_number numbers before false None = next_number before

abbrev pub number_behind : Numbers → Option ℤ → EnumeratorAt → Option ℤ
number_behind numbers before e = given_number numbers before e.is_first e.given

-- the numbers with those of enumerators
abbrev pub fold : Numbers → Option ℤ → List EnumeratorAt → Numbers
fold numbers before [] = numbers
fold numbers before (e ∷ es) = fold (with_number numbers e.name (number_behind numbers before e))
    (number_behind numbers before e) es

-- the number of the last of them
abbrev last : Numbers → Option ℤ → List EnumeratorAt → Option ℤ
last numbers before [] = before
last numbers before (e ∷ es) = last (with_number numbers e.name (number_behind numbers before e))
    (number_behind numbers before e) es

fold_both : (numbers : Numbers) (before : Option ℤ) (es fs : List EnumeratorAt)
    → fold numbers before (es ++ fs) ≡ fold (fold numbers before es) (last numbers before es) fs
fold_both numbers before [] fs = refl
fold_both numbers before (e ∷ es) fs = fold_both (with_number numbers e.name
    (number_behind numbers before e)) (number_behind numbers before e) es fs

pub other_given : (numbers : Numbers) (before : Option ℤ) (v : Option tree.Value)
    → number_given numbers (next_number before) v ≡ given_number numbers before false v
other_given numbers before None = refl
other_given numbers before (Some v) = refl

pub first_given : (numbers : Numbers) (before : Option ℤ) (v : Option tree.Value)
    → number_given numbers (Some (pos 0)) v ≡ given_number numbers before true v
first_given numbers before None = refl
first_given numbers before (Some v) = refl

others_fold : (numbers : Numbers) (before : Option ℤ) (at : ℕ) (es : List tree.Enumerator)
    → with_enumerators numbers (next_number before) es ≡ fold numbers before (enumerators_from false at es)
others_fold numbers before at [] = refl
others_fold numbers before at (e ∷ es) =
    others_fold (with_number numbers e.name (number_given numbers (next_number before) e.value))
    (number_given numbers (next_number before) e.value) (at + length (spell_enumerator e) + 1) es
    ∙ ap (λ z. fold (with_number numbers e.name z) z
    (enumerators_from false (at + length (spell_enumerator e) + 1) es))
    (other_given numbers before e.value)

enums_fold : (numbers : Numbers) (before : Option ℤ) (at : ℕ) (es : List tree.Enumerator)
    → with_enumerators numbers (Some (pos 0)) es ≡ fold numbers before (enumerators_from true at es)
enums_fold numbers before at [] = refl
enums_fold numbers before at (e ∷ es) =
    others_fold (with_number numbers e.name (number_given numbers (Some (pos 0)) e.value))
    (number_given numbers (Some (pos 0)) e.value) (at + length (spell_enumerator e) + 1) es
    ∙ ap (λ z. fold (with_number numbers e.name z) z
    (enumerators_from false (at + length (spell_enumerator e) + 1) es))
    (first_given numbers before e.value)

-- bodies one behind another
both_fold : (numbers one two : Numbers) (before : Option ℤ) (as' bs : List BodyAt)
    → one ≡ fold numbers before (enumerators_in as')
    → ((b : Option ℤ) → two ≡ fold one b (enumerators_in bs))
    → two ≡ fold numbers before (enumerators_in (as' ++ bs))
both_fold numbers one two before as' bs first then =
    then (last numbers before (enumerators_in as'))
    ∙ ap (λ n. fold n (last numbers before (enumerators_in as')) (enumerators_in bs)) first
    ∙ sym (fold_both numbers before (enumerators_in as') (enumerators_in bs))
    ∙ ap (fold numbers before) (sym (in_order as' bs))

mutual
  body_fold : (numbers : Numbers) (before : Option ℤ) (at : ℕ) (body : tree.Body)
      → with_body numbers body ≡ fold numbers before (own_enumerators at body)
  body_fold numbers before at (tree.Enum es) = enums_fold numbers before (at + 1) es
  body_fold numbers before at (tree.Struct ds) = fields_fold numbers before (at + 1) ds
  body_fold numbers before at (tree.Union d as' other) =
      both_fold numbers (with_declaration numbers d)
      (with_default (with_arms (with_declaration numbers d) as') other) before
      (bodies_of_declaration (at + 2) d)
      (bodies_of_arms (arms_at at d) as' ++ bodies_of_default (default_at at d as') other)
      (declaration_fold numbers before (at + 2) d)
      (λ b. both_fold (with_declaration numbers d) (with_arms (with_declaration numbers d) as')
      (with_default (with_arms (with_declaration numbers d) as') other) b
      (bodies_of_arms (arms_at at d) as') (bodies_of_default (default_at at d as') other)
      (arms_fold (with_declaration numbers d) b (arms_at at d) as')
      (λ c. default_fold (with_arms (with_declaration numbers d) as') c (default_at at d as') other))

  type_fold : (numbers : Numbers) (before : Option ℤ) (behind at : ℕ) (type : tree.DataType)
      → with_type numbers type ≡ fold numbers before (enumerators_in (bodies_of_type behind at type))
  type_fold numbers before behind at (tree.Simple b) = refl
  type_fold numbers before behind at (tree.Name n) = refl
  type_fold numbers before behind at (tree.Tagged tag n) = refl
  type_fold numbers before behind at (tree.Inline body) = body_fold numbers before (at + 1) body
      ∙ ap (fold numbers before) (sym (inline_enumerators behind at body))

  declaration_fold : (numbers : Numbers) (before : Option ℤ) (at : ℕ) (d : tree.Declaration)
      → with_declaration numbers d ≡ fold numbers before (enumerators_in (bodies_of_declaration at d))
  declaration_fold numbers before at tree.Void = refl
  declaration_fold numbers before at (tree.Of type name shape) = type_fold numbers before (star shape) at type
  declaration_fold numbers before at (tree.Opaque name length) = refl
  declaration_fold numbers before at (tree.String name most) = refl

  fields_fold : (numbers : Numbers) (before : Option ℤ) (at : ℕ) (ds : tree.Declarations)
      → with_declarations numbers ds ≡ fold numbers before (enumerators_in (bodies_of_fields at ds))
  fields_fold numbers before at tree.none = refl
  fields_fold numbers before at (tree.more d ds) =
      both_fold numbers (with_declaration numbers d)
      (with_declarations (with_declaration numbers d) ds) before (bodies_of_declaration at d)
      (bodies_of_fields (at + length (spell_declaration d) + 1) ds)
      (declaration_fold numbers before at d) (λ b. fields_fold (with_declaration numbers d) b
      (at + length (spell_declaration d) + 1) ds)

  arms_fold : (numbers : Numbers) (before : Option ℤ) (at : ℕ) (as' : tree.Arms)
      → with_arms numbers as' ≡ fold numbers before (enumerators_in (bodies_of_arms at as'))
  arms_fold numbers before at tree.no_arm = refl
  arms_fold numbers before at (tree.arm values d rest) =
      both_fold numbers (with_declaration numbers d) (with_arms (with_declaration numbers d) rest) before
      (bodies_of_declaration (at + length (spell_cases values)) d)
      (bodies_of_arms (at + length (spell_cases values) + length (spell_declaration d) + 1) rest)
      (declaration_fold numbers before (at + length (spell_cases values)) d)
      (λ b. arms_fold (with_declaration numbers d) b
      (at + length (spell_cases values) + length (spell_declaration d) + 1) rest)

  default_fold : (numbers : Numbers) (before : Option ℤ) (at : ℕ) (other : tree.Default)
      → with_default numbers other ≡ fold numbers before (enumerators_in (bodies_of_default at other))
  default_fold numbers before at tree.no_default = refl
  default_fold numbers before at (tree.default d) = declaration_fold numbers before (at + 2) d

-- the numbers with those of a definition
abbrev pub taken : Numbers → tree.Definition → Numbers
taken numbers (tree.Const name value) = with_number numbers name (number_in numbers value)
taken numbers d = fold numbers None (enumerators d)

pub definition_fold : (numbers : Numbers) (d : tree.Definition)
    → with_definition numbers (Some d) ≡ taken numbers d
definition_fold numbers (tree.Const name value) = refl
definition_fold numbers (tree.Typedef d) = declaration_fold numbers None 1 d
definition_fold numbers (tree.NewType name body) = body_fold numbers None 2 body
    ∙ ap (fold numbers None) (sym (new_enumerators body))
definition_fold numbers (tree.Program name versions number) = refl
