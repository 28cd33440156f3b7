-- What the functions that read types, declarations and their lists rest on.
use Rattle.std.proofs.Common.{◌≡◌, ◌≢◌, ℕ, zero, suc, ◌+◌, ◌-◌, List, [], ◌∷◌, ◌++◌, Option, Some, None}
use Rattle.std.proofs.Common.{Result, Err, map, refl, ap, sym, ◌∙◌, subst, append_assoc, arith}
use Rattle.std.proofs.lemmas.List.{append-nil, map-append}
use Rattle.std.specs.Result.{IfOk, IfErr}
use Rattle.std.proofs.lemmas.Result.{IfOk-weaker, IfErr-weaker}
use Rattle.x_lex.specs.declared.tokens.token.Token.{Token as LexToken}
use Rattle.x_trees.specs.Words.{Word, Fixed, Name}
use Rattle.x_trees.specs.Tree as tree
use Rattle.x_trees.specs.Gloss.{tag_mark, spell_value}
use Rattle.x_trees.specs.Spell.{spell_enumerator, spell_other_enumerators, spell_enumerators, spell_cases}
use Rattle.x_trees.specs.Spell.{spell_declaration, spell_declarations, spell_arms, HasOne, HasDeclaration}
use Rattle.x_trees.specs.Spell.{HasArm, DeclarationFits, DeclarationsFit, ArmsFit, BodyFits, TypeFits}
use Rattle.x_trees.specs.View.{view_value, view_enumerator, view_declaration, view_declarations, view_arms}
use Rattle.x_lex.specs.declared.mark.Mark.{Mark}
use Rattle.x_lex.specs.declared.mark.Mark.TheVariants as marks
use Rattle.x_parser.specs.declared.ending.Ending.{Ending}
use Rattle.x_parser.specs.declared.ending.Ending.TheVariants as endings
use Rattle.x_trees.specs.declared.trees.declaration.Enumerator.{Enumerator}
use Rattle.x_trees.specs.declared.trees.value.Value.{Value}
use Rattle.x_trees.specs.declared.trees.declaration.Tag.{Tag}
use Rattle.x_trees.specs.declared.trees.declaration.Tag.TheVariants as tags
use Rattle.x_trees.specs.declared.trees.declaration.Declaration.{Declaration}
use Rattle.x_trees.specs.declared.trees.declaration.Arm.{Arm}
use Rattle.x_parser.specs.declared.fault_code.FaultCode.{FaultCode}
use Rattle.x_parser.specs.declared.words.Word as source
use Rattle.x_parser.specs.declared.words.Word.TheVariants as words
use Rattle.x_parser.specs.declared.parse_error.ParseError.{ParseError}
use Rattle.x_parser.specs.declared.parse_error.ParseError.TheVariants as errors
use Rattle.x_parser.specs.Symbols.{Symbol, Context, InDeclaration, Token, AnyName, AnyValue, AnyLength}
use Rattle.x_parser.specs.Symbols.{AfterLess, AfterName, AfterType, AfterUnsigned, Typed, AfterTag, AnyBody}
use Rattle.x_parser.specs.Symbols.{Enumerators, AfterEnumerator, MoreEnumerators, Declared, Declarations}
use Rattle.x_parser.specs.Symbols.{MoreDeclarations, Arms, AfterCase, MoreArms, ending_mark, followed, go}
use Rattle.x_parser.specs.Symbols.{step_declared}
use Rattle.x_parser.specs.Reading.{view_word, WordAhead, HasFirst, LacksFirst, ReadsPart, Fails, read}
use Rattle.x_parser.specs.Reading.{spell_ended, spell_arm}
use Rattle.x_parser.proofs.ReadLemmas.{Alike, alike, alike_first, alike_where, alike_other, alike_neither}
use Rattle.x_parser.proofs.ReadLemmas.{headed, read_as, read_first, read_then, read_after, fails_then}

-- no word that is no name is one
not_name : (w : source.Word) → ((t : _) → w ≢ words.Name t) → (u : List ℕ) → view_word w ≢ Name u
not_name (words.Name t) h u e = h t refl
not_name (words.Mark t) h u e = cc
not_name (words.Number t) h u e = cc
not_name words.Other h u e = cc

-- a list of one
pub one_only : {A : Type 0} (none xs : List A) (x : A) → none ≡ [] → xs ≡ none ++ x ∷ [] → xs ≡ [] ++ x ∷ []
one_only none xs x is pushed = pushed ∙ ap (λ ys. ys ++ x ∷ []) is

-- what stands between `<` and `>`
after_less_is : (w : Word) (left : ℕ) (code : FaultCode) (ps : List WordAhead) (ss : List Symbol)
    → w ≢ Fixed marks.Greater → read (AfterLess ∷ ss) (headed w left code ps)
    ≡ read (AnyValue ∷ Token marks.Greater ∷ ss) (headed w left code ps)
after_less_is (Fixed marks.Greater) left code ps ss h = absurd (h refl)
after_less_is w left code ps ss h = refl

pub after_less : {tokens : List LexToken} → LacksFirst tokens (Fixed marks.Greater)
    → Alike (AfterLess ∷ []) (AnyValue ∷ Token marks.Greater ∷ []) tokens
after_less other = alike_other other after_less_is

-- a length that is no `<`
any_length_is : (w : Word) (left : ℕ) (code : FaultCode) (ps : List WordAhead) (ss : List Symbol)
    → w ≢ Fixed marks.Less → read (AnyLength ∷ ss) (headed w left code ps)
    ≡ read (Token marks.OpenBracket ∷ AnyValue ∷ Token marks.CloseBracket ∷ ss) (headed w left code ps)
any_length_is (Fixed marks.Less) left code ps ss h = absurd (h refl)
any_length_is (Fixed m) left code ps ss h = refl
any_length_is w left code ps ss h = refl

pub any_length : {tokens : List LexToken} → LacksFirst tokens (Fixed marks.Less)
    → Alike (AnyLength ∷ []) (Token marks.OpenBracket ∷ AnyValue ∷ Token marks.CloseBracket ∷ []) tokens
any_length other = alike_other other any_length_is

-- after a name, at an ending and at none
pub ended_name : (e : Ending) {m : Mark} {tokens rest : List LexToken} → m ≡ ending_mark e
    → HasFirst tokens (Fixed m) rest
    → ReadsPart [] (AfterName e ∷ []) tokens (Fixed (ending_mark e) ∷ []) [] rest
ended_name endings.Semicolon is first =
    read_first (Fixed marks.Semicolon) first (ap Fixed is) (λ left code ps ss. refl)
ended_name endings.Parenthesis is first =
    read_first (Fixed marks.CloseParenthesis) first (ap Fixed is) (λ left code ps ss. refl)

after_name_is : (e : Ending) (w : Word) (left : ℕ) (code : FaultCode) (ps : List WordAhead) (ss : List Symbol)
    → w ≢ Fixed (ending_mark e) → read (AfterName e ∷ ss) (headed w left code ps)
    ≡ read (AnyLength ∷ Token (ending_mark e) ∷ ss) (headed w left code ps)
after_name_is endings.Semicolon (Fixed marks.Semicolon) left code ps ss h = absurd (h refl)
after_name_is endings.Semicolon (Fixed m) left code ps ss h = refl
after_name_is endings.Parenthesis (Fixed marks.CloseParenthesis) left code ps ss h = absurd (h refl)
after_name_is endings.Parenthesis (Fixed m) left code ps ss h = refl
after_name_is e w left code ps ss h = refl

pub after_name : (e : Ending) {m : Mark} {tokens : List LexToken} → m ≡ ending_mark e
    → LacksFirst tokens (Fixed m) → Alike (AfterName e ∷ []) (AnyLength ∷ Token (ending_mark e) ∷ []) tokens
after_name e {tokens = tokens} is other =
    alike_other (subst (λ k. LacksFirst tokens (Fixed k)) is other) (after_name_is e)

-- a declaration's name, with no star
named_is : (e : Ending) (w : Word) (left : ℕ) (code : FaultCode) (ps : List WordAhead) (ss : List Symbol)
    → w ≢ Fixed marks.Star → read (AfterType (InDeclaration e) ∷ ss) (headed w left code ps)
    ≡ read (AnyName ∷ AfterName e ∷ ss) (headed w left code ps)
named_is e (Fixed marks.Star) left code ps ss h = absurd (h refl)
named_is e w left code ps ss h = refl

pub no_star : (e : Ending) {tokens : List LexToken} → LacksFirst tokens (Fixed marks.Star)
    → Alike (AfterType (InDeclaration e) ∷ []) (AnyName ∷ AfterName e ∷ []) tokens
no_star e other = alike_other other (named_is e)

-- enumerators
enumerators_is : (ps : List WordAhead) (ss : List Symbol)
    → read (Enumerators ∷ ss) ps ≡ read (AnyName ∷ AfterEnumerator ∷ ss) ps
enumerators_is [] ss = refl
enumerators_is (p ∷ ps) ss = by p.word p.left p.code
  where
    by : (w : Word) (left : ℕ) (code : FaultCode) → read (Enumerators ∷ ss) (headed w left code ps)
        ≡ read (AnyName ∷ AfterEnumerator ∷ ss) (headed w left code ps)
    by (Name t) left code = refl
    by w left code = refl

pub of_enumerator : (tokens : List LexToken)
    → Alike (Enumerators ∷ []) (AnyName ∷ AfterEnumerator ∷ []) tokens
of_enumerator tokens = alike tokens enumerators_is

more_enumerators_is : (w : Word) (left : ℕ) (code : FaultCode) (ps : List WordAhead) (ss : List Symbol)
    → w ≢ Fixed marks.CloseBrace → read (MoreEnumerators ∷ ss) (headed w left code ps)
    ≡ read (Token marks.Comma ∷ Enumerators ∷ ss) (headed w left code ps)
more_enumerators_is (Fixed marks.CloseBrace) left code ps ss h = absurd (h refl)
more_enumerators_is (Fixed m) left code ps ss h = refl
more_enumerators_is w left code ps ss h = refl

pub more_enumerators : {tokens : List LexToken} → LacksFirst tokens (Fixed marks.CloseBrace)
    → Alike (MoreEnumerators ∷ []) (Token marks.Comma ∷ Enumerators ∷ []) tokens
more_enumerators other = alike_other other more_enumerators_is

has_push : {A : Type 0} (xs : List A) (x : A) → HasOne (xs ++ x ∷ [])
has_push [] x = tt
has_push (y ∷ xs) x = tt

pub has_pushed : {A : Type 0} {B : Type 0} (f : A → B) (xs : List A) (x : A) (ys : List A) → ys ≡ xs ++ x ∷ []
    → HasOne (map f ys)
has_pushed f xs x ys is = subst HasOne (sym (ap (map f) is ∙ map-append f xs (x ∷ [])))
    (has_push (map f xs) (f x))

others_push : (es : List tree.Enumerator) (e : tree.Enumerator) → spell_other_enumerators (es ++ e ∷ [])
    ≡ spell_other_enumerators es ++ Fixed marks.Comma ∷ spell_enumerator e
others_push [] e = ap (λ t. Fixed marks.Comma ∷ t) (append-nil (spell_enumerator e))
others_push (x ∷ es) e =
    ap (λ t. Fixed marks.Comma ∷ (spell_enumerator x ++ t)) (others_push es e)
    ∙ ap (λ t. Fixed marks.Comma ∷ t)
    (sym (append_assoc (spell_enumerator x) (spell_other_enumerators es)
    (Fixed marks.Comma ∷ spell_enumerator e)))

enumerators_push : (es : List tree.Enumerator) (e : tree.Enumerator) → HasOne es
    → spell_enumerators (es ++ e ∷ []) ≡ (spell_enumerators es ++ Fixed marks.Comma ∷ [])
    ++ spell_enumerator e
enumerators_push [] e some = absurd some
enumerators_push (x ∷ es) e some =
    ap (λ t. spell_enumerator x ++ t) (others_push es e)
    ∙ sym (append_assoc (spell_enumerator x) (spell_other_enumerators es)
    (Fixed marks.Comma ∷ spell_enumerator e))
    ∙ sym (append_assoc (spell_enumerators (x ∷ es)) (Fixed marks.Comma ∷ []) (spell_enumerator e))

-- one more enumerator
pub enumerators_more : (xs : List Enumerator) (x : Enumerator) (ys : List Enumerator) → ys ≡ xs ++ x ∷ []
    → HasOne (map view_enumerator xs) → (spell_enumerators (map view_enumerator xs) ++ Fixed marks.Comma ∷ [])
    ++ spell_enumerator (view_enumerator x) ≡ spell_enumerators (map view_enumerator ys)
enumerators_more xs x ys is some =
    sym (enumerators_push (map view_enumerator xs) (view_enumerator x) some)
    ∙ ap spell_enumerators (sym (ap (map view_enumerator) is ∙ map-append view_enumerator xs (x ∷ [])))

pub enumerators_one : (x : Enumerator) (ys : List Enumerator) → ys ≡ [] ++ x ∷ []
    → spell_enumerator (view_enumerator x) ≡ spell_enumerators (map view_enumerator ys)
enumerators_one x ys is = sym (append-nil (spell_enumerator (view_enumerator x)))
    ∙ ap (λ zs. spell_enumerators (map view_enumerator zs)) (sym is)

-- a body of declarations is a declaration and the rest
go_followed : (o : Option (List Symbol)) (m ss : List Symbol) (ps : List WordAhead) (stop : ParseError)
    → go (followed m o) (λ rhs. read (rhs ++ ss) ps) (Err stop)
    ≡ go o (λ rhs. read (rhs ++ (m ++ ss)) ps) (Err stop)
go_followed None m ss ps stop = refl
go_followed (Some rhs) m ss ps stop = ap (λ c. read c ps) (append_assoc rhs m ss)

declarations_is : (n : ℕ) (ps : List WordAhead) (ss : List Symbol)
    → read (Declarations n ∷ ss) ps ≡ read (Declared n endings.Semicolon ∷ MoreDeclarations n ∷ ss) ps
declarations_is n [] ss = refl
declarations_is n (p ∷ ps) ss = go_followed (step_declared n endings.Semicolon p.word)
    (MoreDeclarations n ∷ []) ss ps (errors.Stuck p.left p.code)

pub of_declarations : (n : ℕ) (tokens : List LexToken)
    → Alike (Declarations n ∷ []) (Declared n endings.Semicolon ∷ MoreDeclarations n ∷ []) tokens
of_declarations n tokens = alike tokens (declarations_is n)

more_is : (n : ℕ) (w : Word) (left : ℕ) (code : FaultCode) (ps : List WordAhead) (ss : List Symbol)
    → w ≢ Fixed marks.CloseBrace → read (MoreDeclarations n ∷ ss) (headed w left code ps)
    ≡ read (Declared n endings.Semicolon ∷ MoreDeclarations n ∷ ss) (headed w left code ps)
more_is n (Fixed marks.CloseBrace) left code ps ss h = absurd (h refl)
more_is n w left code ps ss h = go_followed (step_declared n endings.Semicolon w) (MoreDeclarations n ∷ []) ss
    ps (errors.Stuck left code)

pub more_declarations : (n : ℕ) {tokens : List LexToken} → LacksFirst tokens (Fixed marks.CloseBrace)
    → Alike (MoreDeclarations n ∷ []) (Declared n endings.Semicolon ∷ MoreDeclarations n ∷ []) tokens
more_declarations n other = alike_other other (more_is n)

-- one more declaration
declarations_push : (xs : List Declaration) (x : Declaration)
    → spell_declarations (view_declarations (xs ++ x ∷ [])) ≡ spell_declarations (view_declarations xs)
    ++ spell_ended (view_declaration x) endings.Semicolon
declarations_push [] x = refl
declarations_push (y ∷ xs) x =
    ap (λ t. spell_declaration (view_declaration y) ++ Fixed marks.Semicolon ∷ t) (declarations_push xs x)
    ∙ sym (append_assoc (spell_declaration (view_declaration y))
    (Fixed marks.Semicolon ∷ spell_declarations (view_declarations xs))
    (spell_ended (view_declaration x) endings.Semicolon))

pub declarations_more : (xs : List Declaration) (x : Declaration) (ys : List Declaration) → ys ≡ xs ++ x ∷ []
    → spell_declarations (view_declarations xs) ++ spell_ended (view_declaration x) endings.Semicolon
    ≡ spell_declarations (view_declarations ys)
declarations_more xs x ys is = sym (declarations_push xs x)
    ∙ ap (λ zs. spell_declarations (view_declarations zs)) (sym is)

fits_snoc : (n : ℕ) (xs : List Declaration) (x : Declaration) → DeclarationsFit (view_declarations xs) n
    → DeclarationFits (view_declaration x) n → DeclarationsFit (view_declarations (xs ++ x ∷ [])) n
fits_snoc n [] x h f = (f, tt)
fits_snoc n (y ∷ xs) x h f = (h.0, fits_snoc n xs x h.1 f)

has_snoc : (xs : List Declaration) (x : Declaration) → HasDeclaration (view_declarations (xs ++ x ∷ []))
has_snoc [] x = tt
has_snoc (y ∷ xs) x = tt

pub fits_declaration : (n : ℕ) (xs : List Declaration) (x : Declaration) (ys : List Declaration)
    → ys ≡ xs ++ x ∷ [] → DeclarationsFit (view_declarations xs) n → DeclarationFits (view_declaration x) n
    → DeclarationsFit (view_declarations ys) n
fits_declaration n xs x ys is h f =
    subst (λ zs. DeclarationsFit (view_declarations zs) n) (sym is) (fits_snoc n xs x h f)

pub has_declaration : (xs : List Declaration) (x : Declaration) (ys : List Declaration) → ys ≡ xs ++ x ∷ []
    → HasDeclaration (view_declarations ys)
has_declaration xs x ys is = subst (λ zs. HasDeclaration (view_declarations zs)) (sym is) (has_snoc xs x)

-- one more case
cases_push : (vs : List tree.Value) (v : tree.Value) → spell_cases (vs ++ v ∷ [])
    ≡ spell_cases vs ++ (Fixed marks.Case ∷ spell_value v ∷ Fixed marks.Colon ∷ [])
cases_push [] v = refl
cases_push (u ∷ vs) v = ap (λ t. Fixed marks.Case ∷ spell_value u ∷ Fixed marks.Colon ∷ t) (cases_push vs v)

pub cases_one : (v : Value) (us : List Value) → us ≡ [] ++ v ∷ []
    → Fixed marks.Case ∷ spell_value (view_value v) ∷ Fixed marks.Colon ∷ [] ≡ spell_cases (map view_value us)
cases_one v us is = ap (λ vs. spell_cases (map view_value vs)) (sym is)

pub cases_more : (vs : List Value) (v : Value) (us : List Value) → us ≡ vs ++ v ∷ []
    → (spell_cases (map view_value vs) ++ Fixed marks.Case ∷ [])
    ++ (spell_value (view_value v) ∷ Fixed marks.Colon ∷ []) ≡ spell_cases (map view_value us)
cases_more vs v us is =
    append_assoc (spell_cases (map view_value vs)) (Fixed marks.Case ∷ [])
    (spell_value (view_value v) ∷ Fixed marks.Colon ∷ [])
    ∙ sym (cases_push (map view_value vs) (view_value v))
    ∙ ap spell_cases (sym (ap (map view_value) is ∙ map-append view_value vs (v ∷ [])))

no_case_is : (n : ℕ) (w : Word) (left : ℕ) (code : FaultCode) (ps : List WordAhead) (ss : List Symbol)
    → w ≢ Fixed marks.Case → read (AfterCase n ∷ ss) (headed w left code ps)
    ≡ read (Declared n endings.Semicolon ∷ ss) (headed w left code ps)
no_case_is n (Fixed marks.Case) left code ps ss h = absurd (h refl)
no_case_is n w left code ps ss h = refl

pub no_case : (n : ℕ) {tokens : List LexToken} → LacksFirst tokens (Fixed marks.Case)
    → Alike (AfterCase n ∷ []) (Declared n endings.Semicolon ∷ []) tokens
no_case n other = alike_other other (no_case_is n)

-- the body of a union is an arm and the rest
arms_is : (n : ℕ) (ps : List WordAhead) (ss : List Symbol) → read (Arms n ∷ ss) ps
    ≡ read (Token marks.Case ∷ AnyValue ∷ Token marks.Colon ∷ AfterCase n ∷ MoreArms n ∷ ss) ps
arms_is n [] ss = refl
arms_is n (p ∷ ps) ss = by p.word p.left p.code
  where
    by : (w : Word) (left : ℕ) (code : FaultCode)
        → read (Arms n ∷ ss) (headed w left code ps)
        ≡ read (Token marks.Case ∷ AnyValue ∷ Token marks.Colon ∷ AfterCase n ∷ MoreArms n ∷ ss)
        (headed w left code ps)
    by (Fixed marks.Case) left code = refl
    by (Fixed m) left code = refl
    by w left code = refl

pub of_arms : (n : ℕ) (tokens : List LexToken)
    → Alike (Arms n ∷ []) (Token marks.Case ∷ AnyValue ∷ Token marks.Colon ∷ AfterCase n ∷ MoreArms n
    ∷ []) tokens
of_arms n tokens = alike tokens (arms_is n)

more_arms_is : (n : ℕ) (w : Word) (left : ℕ) (code : FaultCode) (ps : List WordAhead) (ss : List Symbol)
    → w ≢ Fixed marks.CloseBrace → w ≢ Fixed marks.Default
    → read (MoreArms n ∷ ss) (headed w left code ps)
    ≡ read (Token marks.Case ∷ AnyValue ∷ Token marks.Colon ∷ AfterCase n ∷ MoreArms n ∷ ss)
    (headed w left code ps)
more_arms_is n (Fixed marks.CloseBrace) left code ps ss a b = absurd (a refl)
more_arms_is n (Fixed marks.Default) left code ps ss a b = absurd (b refl)
more_arms_is n (Fixed m) left code ps ss a b = refl
more_arms_is n w left code ps ss a b = refl

pub more_arms : (n : ℕ) {tokens : List LexToken} → LacksFirst tokens (Fixed marks.CloseBrace)
    → LacksFirst tokens (Fixed marks.Default)
    → Alike (MoreArms n ∷ []) (Token marks.Case ∷ AnyValue ∷ Token marks.Colon ∷ AfterCase n ∷ MoreArms n
    ∷ []) tokens
more_arms n other second =
    alike_neither other second (λ w left code ps ss h. more_arms_is n w left code ps ss h.0 h.1)

-- one more arm
abbrev pub arm_words : Arm → List Word
arm_words a = spell_arm (map view_value a.cases.items) (view_declaration a.declaration)

arms_push : (xs : List Arm) (x : Arm)
    → spell_arms (view_arms (xs ++ x ∷ [])) ≡ spell_arms (view_arms xs) ++ arm_words x
arms_push [] x = refl
arms_push (y ∷ xs) x =
    ap (λ t. spell_cases (map view_value y.cases.items)
    ++ (spell_declaration (view_declaration y.declaration) ++ Fixed marks.Semicolon ∷ t)) (arms_push xs x)
    ∙ simp append_assoc

pub arms_more : (xs : List Arm) (x : Arm) (ys : List Arm) → ys ≡ xs ++ x ∷ []
    → spell_arms (view_arms xs) ++ arm_words x ≡ spell_arms (view_arms ys)
arms_more xs x ys is = sym (arms_push xs x) ∙ ap (λ zs. spell_arms (view_arms zs)) (sym is)

has_arm_snoc : (xs : List Arm) (x : Arm) → HasArm (view_arms (xs ++ x ∷ []))
has_arm_snoc [] x = tt
has_arm_snoc (y ∷ xs) x = tt

arms_snoc : (n : ℕ) (xs : List Arm) (x : Arm) → ArmsFit (view_arms xs) n
    → HasOne (map view_value x.cases.items) → DeclarationFits (view_declaration x.declaration) n
    → ArmsFit (view_arms (xs ++ x ∷ [])) n
arms_snoc n [] x h c d = (c, (d, tt))
arms_snoc n (y ∷ xs) x h c d = (h.0, (h.1.0, arms_snoc n xs x h.1.1 c d))

pub has_arm : (xs : List Arm) (x : Arm) (ys : List Arm) → ys ≡ xs ++ x ∷ [] → HasArm (view_arms ys)
has_arm xs x ys is = subst (λ z. HasArm (view_arms z)) (sym is) (has_arm_snoc xs x)

pub fits_arm : (n : ℕ) (xs : List Arm) (x : Arm) (ys : List Arm) → ys ≡ xs ++ x ∷ []
    → ArmsFit (view_arms xs) n → HasOne (map view_value x.cases.items)
    → DeclarationFits (view_declaration x.declaration) n → ArmsFit (view_arms ys) n
fits_arm n xs x ys is h c d = subst (λ z. ArmsFit (view_arms z) n) (sym is) (arms_snoc n xs x h c d)

-- what follows `default`
abbrev pub default_symbols : ℕ → List Symbol
default_symbols n = Token marks.Colon ∷ Declared n endings.Semicolon ∷ Token marks.CloseBrace ∷ []

-- a struct and one more declaration, and a union's arms and one more
pub struct_read : (n : ℕ) (xs : List Declaration) (x : Declaration) (ys : List Declaration)
    {tokens left rest : List LexToken} → ys ≡ xs ++ x ∷ []
    → ReadsPart [] (AnyBody tags.Struct n ∷ []) tokens
    (Fixed marks.OpenBrace ∷ spell_declarations (view_declarations xs))
    (Declared n endings.Semicolon ∷ MoreDeclarations n ∷ []) left
    → ReadsPart [] (Declared n endings.Semicolon ∷ []) left
    (spell_ended (view_declaration x) endings.Semicolon) [] rest
    → ReadsPart [] (AnyBody tags.Struct n ∷ []) tokens
    (Fixed marks.OpenBrace ∷ spell_declarations (view_declarations ys)) (MoreDeclarations n ∷ []) rest
struct_read n xs x ys is h r =
    read_as (ap (λ t. Fixed marks.OpenBrace ∷ t) (declarations_more xs x ys is))
    (read_then (Declared n endings.Semicolon ∷ []) (MoreDeclarations n ∷ []) h r)

pub arms_read : (n : ℕ) (xs : List Arm) (x : Arm) (ys : List Arm) {from : List Symbol}
    {tokens left rest : List LexToken} → ys ≡ xs ++ x ∷ []
    → ReadsPart [] from tokens (Fixed marks.OpenBrace ∷ (spell_arms (view_arms xs) ++ Fixed marks.Case ∷ []))
    (AnyValue ∷ Token marks.Colon ∷ AfterCase n ∷ MoreArms n ∷ []) left
    → ReadsPart (Fixed marks.Case ∷ []) (AnyValue ∷ Token marks.Colon ∷ AfterCase n ∷ []) left
    (arm_words x) [] rest → ReadsPart [] from tokens (Fixed marks.OpenBrace ∷ spell_arms (view_arms ys))
    (MoreArms n ∷ []) rest
arms_read n xs x ys is h r =
    read_as (ap (λ t. Fixed marks.OpenBrace ∷ t) (arms_more xs x ys is))
    (read_after (AnyValue ∷ Token marks.Colon ∷ AfterCase n ∷ []) (MoreArms n ∷ [])
    (Fixed marks.OpenBrace ∷ spell_arms (view_arms xs)) (Fixed marks.Case) h r)

-- bodies
enum_is : (n : ℕ) (ps : List WordAhead) (ss : List Symbol)
    → read (AnyBody tags.Enum n ∷ ss) ps ≡ read (Token marks.OpenBrace ∷ Enumerators ∷ ss) ps
enum_is n [] ss = refl
enum_is n (p ∷ ps) ss = by p.word p.left p.code
  where
    by : (w : Word) (left : ℕ) (code : FaultCode) → read (AnyBody tags.Enum n ∷ ss) (headed w left code ps)
        ≡ read (Token marks.OpenBrace ∷ Enumerators ∷ ss) (headed w left code ps)
    by (Fixed marks.OpenBrace) left code = refl
    by (Fixed m) left code = refl
    by w left code = refl

pub of_enum : (n : ℕ) (tokens : List LexToken)
    → Alike (AnyBody tags.Enum n ∷ []) (Token marks.OpenBrace ∷ Enumerators ∷ []) tokens
of_enum n tokens = alike tokens (enum_is n)

struct_is : (n : ℕ) (ps : List WordAhead) (ss : List Symbol)
    → read (AnyBody tags.Struct n ∷ ss) ps ≡ read (Token marks.OpenBrace ∷ Declarations n ∷ ss) ps
struct_is n [] ss = refl
struct_is n (p ∷ ps) ss = by p.word p.left p.code
  where
    by : (w : Word) (left : ℕ) (code : FaultCode) → read (AnyBody tags.Struct n ∷ ss) (headed w left code ps)
        ≡ read (Token marks.OpenBrace ∷ Declarations n ∷ ss) (headed w left code ps)
    by (Fixed marks.OpenBrace) left code = refl
    by (Fixed m) left code = refl
    by w left code = refl

pub of_struct : (n : ℕ) (tokens : List LexToken)
    → Alike (AnyBody tags.Struct n ∷ []) (Token marks.OpenBrace ∷ Declarations n ∷ []) tokens
of_struct n tokens = alike tokens (struct_is n)

abbrev pub union_symbols : ℕ → List Symbol
union_symbols n = Token marks.Switch ∷ Token marks.OpenParenthesis ∷ Declared n endings.Parenthesis
    ∷ Token marks.OpenBrace ∷ Arms n ∷ []

union_is : (n : ℕ) (ps : List WordAhead) (ss : List Symbol)
    → read (AnyBody tags.Union n ∷ ss) ps ≡ read (union_symbols n ++ ss) ps
union_is n [] ss = refl
union_is n (p ∷ ps) ss = by p.word p.left p.code
  where
    by : (w : Word) (left : ℕ) (code : FaultCode) → read (AnyBody tags.Union n ∷ ss) (headed w left code ps)
        ≡ read (union_symbols n ++ ss) (headed w left code ps)
    by (Fixed marks.Switch) left code = refl
    by (Fixed m) left code = refl
    by w left code = refl

pub of_union : (n : ℕ) (tokens : List LexToken) → Alike (AnyBody tags.Union n ∷ []) (union_symbols n) tokens
of_union n tokens = alike tokens (union_is n)

-- a body after a keyword
tagged_is : (tag : Tag) (n : ℕ) (w : Word) (left : ℕ) (code : FaultCode) (ps : List WordAhead)
    (ss : List Symbol) → ((t : List ℕ) → w ≢ Name t) → n ≢ 0
    → read (AfterTag tag n ∷ ss) (headed w left code ps)
    ≡ read (AnyBody tag (n - 1) ∷ ss) (headed w left code ps)
tagged_is tag zero w left code ps ss h some = absurd (some refl)
tagged_is tag (suc n) (Name t) left code ps ss h some = absurd (h t refl)
tagged_is tag (suc n) w left code ps ss h some =
    let e : n ≡ suc n - 1 = omega arith in
    ap (λ k. read (AnyBody tag k ∷ ss) (headed w left code ps)) e

pub no_tag_name : (tag : Tag) (n : ℕ) {tokens rest : List LexToken} (w : source.Word)
    → HasFirst tokens (view_word w) rest → ((t : _) → w ≢ words.Name t) → n ≢ 0
    → Alike (AfterTag tag n ∷ []) (AnyBody tag (n - 1) ∷ []) tokens
no_tag_name tag n w first h some =
    alike_first first (λ left code ps ss. tagged_is tag n (view_word w) left code ps ss (not_name w h) some)

pub fits_one_more : (t : tree.DataType) (n : ℕ) → n ≢ 0 → TypeFits t (n - 1 + 1) → TypeFits t n
fits_one_more t n some h = let e : n - 1 + 1 ≡ n = omega arith in subst (TypeFits t) e h

-- an inline type
pub fits_inline : (t : tree.DataType) (b : tree.Body) (n : ℕ) → t ≡ tree.Inline b → BodyFits b n
    → TypeFits t (n + 1)
fits_inline t b n is fits =
    let e : suc n ≡ n + 1 = omega arith in
    subst (λ k. TypeFits t k) e (subst (λ y. TypeFits y (suc n)) (sym is) fits)

-- a declaration that begins with a type
declared_is : (n : ℕ) (e : Ending) (w : Word) (left : ℕ) (code : FaultCode) (ps : List WordAhead)
    (ss : List Symbol) → w ≢ Fixed marks.Void → w ≢ Fixed marks.Opaque → w ≢ Fixed marks.String
    → read (Declared n e ∷ ss) (headed w left code ps)
    ≡ read (Typed n (InDeclaration e) ∷ ss) (headed w left code ps)
declared_is n e (Fixed marks.Void) left code ps ss a b c = absurd (a refl)
declared_is n e (Fixed marks.Opaque) left code ps ss a b c = absurd (b refl)
declared_is n e (Fixed marks.String) left code ps ss a b c = absurd (c refl)
declared_is n e w left code ps ss a b c = refl

pub no_keyword : (n : ℕ) (e : Ending) {tokens : List LexToken} → LacksFirst tokens (Fixed marks.Void)
    → LacksFirst tokens (Fixed marks.Opaque) → LacksFirst tokens (Fixed marks.String)
    → Alike (Declared n e ∷ []) (Typed n (InDeclaration e) ∷ []) tokens
no_keyword n e a b c =
    alike_where (λ w. (w ≢ Fixed marks.Void) × ((w ≢ Fixed marks.Opaque) × (w ≢ Fixed marks.String)))
    (λ p ps is. (a.by p ps is, (b.by p ps is, c.by p ps is)))
    (λ w left code ps ss h. declared_is n e w left code ps ss h.0 h.1.0 h.1.1)

pub union_words : (d rest : List Word)
    → (Fixed marks.Switch ∷ Fixed marks.OpenParenthesis ∷ (d ++ Fixed marks.CloseParenthesis ∷ []))
    ++ Fixed marks.OpenBrace ∷ rest ≡ Fixed marks.Switch ∷ Fixed marks.OpenParenthesis
    ∷ (d ++ Fixed marks.CloseParenthesis ∷ Fixed marks.OpenBrace ∷ rest)
union_words d rest =
    ap (λ t. Fixed marks.Switch ∷ Fixed marks.OpenParenthesis ∷ t)
    (append_assoc d (Fixed marks.CloseParenthesis ∷ []) (Fixed marks.OpenBrace ∷ rest))

-- what follows `unsigned`
module _ {T : Type 0} {tokens left : List LexToken} {w : Word} (first : HasFirst tokens w left)
    (is : w ≡ Fixed marks.Unsigned) (r : Result T ParseError) where
  start : (n : ℕ) (c : Context)
      → ReadsPart [] (Typed n c ∷ []) tokens (Fixed marks.Unsigned ∷ []) (AfterUnsigned c ∷ []) left
  start n c = read_first (Fixed marks.Unsigned) first is (λ l code ps ss. refl)

  pub read_unsigned : (spelled : T → List Word) (rest : T → List LexToken)
      → IfOk r (λ x. (c : Context)
      → ReadsPart (Fixed marks.Unsigned ∷ []) (AfterUnsigned c ∷ []) left (spelled x) (AfterType c ∷ [])
      (rest x)) → IfOk r (λ x. (n : ℕ) (c : Context)
      → ReadsPart [] (Typed n c ∷ []) tokens (spelled x) (AfterType c ∷ []) (rest x))
  read_unsigned spelled rest h =
      IfOk-weaker r (λ x. (c : Context)
      → ReadsPart (Fixed marks.Unsigned ∷ []) (AfterUnsigned c ∷ []) left (spelled x) (AfterType c ∷ [])
      (rest x)) (λ x. (n : ℕ) (c : Context)
      → ReadsPart [] (Typed n c ∷ []) tokens (spelled x) (AfterType c ∷ []) (rest x))
      (λ x p n c. read_after (AfterUnsigned c ∷ []) [] [] (Fixed marks.Unsigned) (start n c) (p c)) h

  pub stuck_unsigned : IfErr r (λ e. (c : Context) → Fails (AfterUnsigned c ∷ []) left e)
      → IfErr r (λ e. (n : ℕ) (c : Context) → Fails (Typed n c ∷ []) tokens e)
  stuck_unsigned h =
      IfErr-weaker r (λ e. (c : Context) → Fails (AfterUnsigned c ∷ []) left e)
      (λ e. (n : ℕ) (c : Context) → Fails (Typed n c ∷ []) tokens e)
      (λ e f n c. fails_then (AfterUnsigned c ∷ []) [] (start n c) (f c)) h

-- what follows `enum`, `struct` or `union`
tag_is : (tag : Tag) (n : ℕ) (c : Context) (left : ℕ) (code : FaultCode) (ps : List WordAhead)
    (ss : List Symbol) → read (Typed n c ∷ ss) (headed (Fixed (tag_mark tag)) left code ps)
    ≡ read (AfterTag tag n ∷ AfterType c ∷ ss) ps
tag_is tags.Enum n c left code ps ss = refl
tag_is tags.Struct n c left code ps ss = refl
tag_is tags.Union n c left code ps ss = refl

module _ {T : Type 0} (tag : Tag) (n : ℕ) {tokens left : List LexToken} {w : Word}
    (first : HasFirst tokens w left) (is : w ≡ Fixed (tag_mark tag)) (r : Result T ParseError) where
  after_keyword : (c : Context) → ReadsPart [] (Typed n c ∷ []) tokens (Fixed (tag_mark tag) ∷ [])
      (AfterTag tag n ∷ AfterType c ∷ []) left
  after_keyword c = read_first (Fixed (tag_mark tag)) first is (tag_is tag n c)

  pub read_tagged : (spelled : T → List Word) (rest : T → List LexToken)
      → IfOk r (λ x. ReadsPart (Fixed (tag_mark tag) ∷ []) (AfterTag tag n ∷ []) left (spelled x) [] (rest x))
      → IfOk r (λ x. (c : Context)
      → ReadsPart [] (Typed n c ∷ []) tokens (spelled x) (AfterType c ∷ []) (rest x))
  read_tagged spelled rest h =
      IfOk-weaker r (λ x. ReadsPart (Fixed (tag_mark tag) ∷ []) (AfterTag tag n ∷ []) left (spelled x) []
      (rest x)) (λ x. (c : Context)
      → ReadsPart [] (Typed n c ∷ []) tokens (spelled x) (AfterType c ∷ []) (rest x))
      (λ x p c. read_after (AfterTag tag n ∷ []) (AfterType c ∷ []) [] (Fixed (tag_mark tag))
      (after_keyword c) p) h

  pub stuck_tagged : IfErr r (λ e. Fails (AfterTag tag n ∷ []) left e)
      → IfErr r (λ e. (c : Context) → Fails (Typed n c ∷ []) tokens e)
  stuck_tagged h =
      IfErr-weaker r (λ e. Fails (AfterTag tag n ∷ []) left e)
      (λ e. (c : Context) → Fails (Typed n c ∷ []) tokens e)
      (λ e f c. fails_then (AfterTag tag n ∷ []) (AfterType c ∷ []) (after_keyword c) f) h
