-- Reading what programs are made of.
use Rattle.std.proofs.Common.{◌≡◌, ◌≢◌, ℕ, Option, Some, None, Err, List, [], ◌∷◌, ◌++◌, map, refl, ap, sym}
use Rattle.std.proofs.Common.{◌∙◌, subst, append_assoc}
use Rattle.std.proofs.lemmas.List.{append-nil, map-append}
use Rattle.x_lex.specs.declared.tokens.token.Token.{Token as LexToken}
use Rattle.x_trees.specs.Words.{Word, Fixed}
use Rattle.x_trees.specs.Tree as tree
use Rattle.x_trees.specs.Spell.{spell_argument, spell_passed, spell_others, spell_procedure, spell_procedures}
use Rattle.x_trees.specs.Spell.{spell_version, spell_versions, ArgumentFits, OthersFit, ProcedureFits}
use Rattle.x_trees.specs.Spell.{ProceduresFit, VersionFits, VersionsFit}
use Rattle.x_lex.specs.declared.mark.Mark.TheVariants as marks
use Rattle.x_trees.specs.View.{view_argument}
use Rattle.x_trees.specs.declared.trees.declaration.TheConstants.{MOST_INLINE}
use Rattle.x_trees.specs.declared.trees.program.Argument.{Argument}
use Rattle.x_parser.specs.declared.fault_code.FaultCode.{FaultCode}
use Rattle.x_parser.specs.Symbols.{Symbol, Token, AnyName, Typed, InArguments, InResult, AfterType, Arguments}
use Rattle.x_parser.specs.Symbols.{Parameters, Procedures, MoreProcedures, Versions, MoreVersions, go}
use Rattle.x_parser.specs.Symbols.{followed, step_result, of_number, of_procedure, of_version}
use Rattle.x_parser.specs.Symbols.{Result as AnyResult}
use Rattle.x_parser.specs.Reading.{WordAhead, LacksFirst, ReadsPart, read}
use Rattle.x_parser.specs.declared.parse_error.ParseError.{ParseError}
use Rattle.x_parser.specs.declared.parse_error.ParseError.TheVariants as errors
use Rattle.x_parser.proofs.ReadLemmas.{Alike, alike, alike_other, alike_neither, headed, read_as, read_then}

-- an argument that is no `string`
arguments_is : (w : Word) (left : ℕ) (code : FaultCode) (ps : List WordAhead) (ss : List Symbol)
    → w ≢ Fixed marks.String → read (Arguments ∷ ss) (headed w left code ps)
    ≡ read (Typed MOST_INLINE InArguments ∷ ss) (headed w left code ps)
arguments_is (Fixed marks.String) left code ps ss h = absurd (h refl)
arguments_is w left code ps ss h = refl

pub no_string : {tokens : List LexToken} → LacksFirst tokens (Fixed marks.String)
    → Alike (Arguments ∷ []) (Typed MOST_INLINE InArguments ∷ []) tokens
no_string other = alike_other other arguments_is

-- a first argument that is not `void`
parameters_is : (w : Word) (left : ℕ) (code : FaultCode) (ps : List WordAhead) (ss : List Symbol)
    → w ≢ Fixed marks.Void → read (Parameters ∷ ss) (headed w left code ps)
    ≡ read (Arguments ∷ ss) (headed w left code ps)
parameters_is (Fixed marks.Void) left code ps ss h = absurd (h refl)
parameters_is w left code ps ss h = refl

pub no_void : {tokens : List LexToken} → LacksFirst tokens (Fixed marks.Void)
    → Alike (Parameters ∷ []) (Arguments ∷ []) tokens
no_void other = alike_other other parameters_is

-- a result that is neither
result_is : (w : Word) (left : ℕ) (code : FaultCode) (ps : List WordAhead) (ss : List Symbol)
    → w ≢ Fixed marks.Void → w ≢ Fixed marks.String → read (AnyResult ∷ ss) (headed w left code ps)
    ≡ read (Typed MOST_INLINE InResult ∷ ss) (headed w left code ps)
result_is (Fixed marks.Void) left code ps ss h g = absurd (h refl)
result_is (Fixed marks.String) left code ps ss h g = absurd (g refl)
result_is w left code ps ss h g = refl

pub typed_result : {tokens : List LexToken} → LacksFirst tokens (Fixed marks.Void)
    → LacksFirst tokens (Fixed marks.String) → Alike (AnyResult ∷ []) (Typed MOST_INLINE InResult ∷ []) tokens
typed_result other second =
    alike_neither other second (λ w left code ps ss h. result_is w left code ps ss h.0 h.1)

-- after an argument there are others
more_arguments_is : (w : Word) (left : ℕ) (code : FaultCode) (ps : List WordAhead) (ss : List Symbol)
    → w ≢ Fixed marks.CloseParenthesis → read (AfterType InArguments ∷ ss) (headed w left code ps)
    ≡ read (Token marks.Comma ∷ Arguments ∷ ss) (headed w left code ps)
more_arguments_is (Fixed marks.CloseParenthesis) left code ps ss h = absurd (h refl)
more_arguments_is (Fixed m) left code ps ss h = refl
more_arguments_is w left code ps ss h = refl

pub more_arguments : {tokens : List LexToken} → LacksFirst tokens (Fixed marks.CloseParenthesis)
    → Alike (AfterType InArguments ∷ []) (Token marks.Comma ∷ Arguments ∷ []) tokens
more_arguments other = alike_other other more_arguments_is

after_result_is : (ps : List WordAhead) (ss : List Symbol)
    → read (AfterType InResult ∷ ss) ps ≡ read (AnyName ∷ ss) ps
after_result_is [] ss = refl
after_result_is (p ∷ ps) ss = refl

pub after_result : (tokens : List LexToken) → Alike (AfterType InResult ∷ []) (AnyName ∷ []) tokens
after_result tokens = alike tokens after_result_is

-- a procedure and more of them
go_followed : (o : Option (List Symbol)) (m ss : List Symbol) (ps : List WordAhead) (stop : ParseError)
    → go (followed m o) (λ rhs. read (rhs ++ ss) ps) (Err stop)
    ≡ go o (λ rhs. read (rhs ++ (m ++ ss)) ps) (Err stop)
go_followed None m ss ps stop = refl
go_followed (Some rhs) m ss ps stop = ap (λ c. read c ps) (append_assoc rhs m ss)

procedures_is : (ps : List WordAhead) (ss : List Symbol)
    → read (Procedures ∷ ss) ps ≡ read ((of_procedure ++ MoreProcedures ∷ []) ++ ss) ps
procedures_is [] ss = refl
procedures_is (p ∷ ps) ss =
    go_followed (step_result p.word) (Token marks.OpenParenthesis ∷ Parameters
    ∷ (of_number ++ MoreProcedures ∷ [])) ss ps (errors.Stuck p.left p.code)

pub more_of_procedures : (tokens : List LexToken)
    → Alike (Procedures ∷ []) (of_procedure ++ MoreProcedures ∷ []) tokens
more_of_procedures tokens = alike tokens procedures_is

more_procedures_is : (w : Word) (left : ℕ) (code : FaultCode) (ps : List WordAhead) (ss : List Symbol)
    → w ≢ Fixed marks.CloseBrace → read (MoreProcedures ∷ ss) (headed w left code ps)
    ≡ read (Procedures ∷ ss) (headed w left code ps)
more_procedures_is (Fixed marks.CloseBrace) left code ps ss h = absurd (h refl)
more_procedures_is w left code ps ss h = refl

pub more_procedures : {tokens : List LexToken} → LacksFirst tokens (Fixed marks.CloseBrace)
    → Alike (MoreProcedures ∷ []) (of_procedure ++ MoreProcedures ∷ []) tokens
more_procedures other = alike_other other
    (λ w left code ps ss h. more_procedures_is w left code ps ss h ∙ procedures_is (headed w left code ps) ss)

-- a version and more of them
versions_is : (ps : List WordAhead) (ss : List Symbol)
    → read (Versions ∷ ss) ps ≡ read ((of_version ++ MoreVersions ∷ []) ++ ss) ps
versions_is [] ss = refl
versions_is (p ∷ ps) ss = by p.word p.left p.code
  where
    by : (w : Word) (left : ℕ) (code : FaultCode) → read (Versions ∷ ss) (headed w left code ps)
        ≡ read ((of_version ++ MoreVersions ∷ []) ++ ss) (headed w left code ps)
    by (Fixed marks.Version) left code = refl
    by w left code = refl

pub more_of_versions : (tokens : List LexToken)
    → Alike (Versions ∷ []) (of_version ++ MoreVersions ∷ []) tokens
more_of_versions tokens = alike tokens versions_is

more_versions_is : (w : Word) (left : ℕ) (code : FaultCode) (ps : List WordAhead) (ss : List Symbol)
    → w ≢ Fixed marks.CloseBrace → read (MoreVersions ∷ ss) (headed w left code ps)
    ≡ read (Versions ∷ ss) (headed w left code ps)
more_versions_is (Fixed marks.CloseBrace) left code ps ss h = absurd (h refl)
more_versions_is w left code ps ss h = refl

pub more_versions : {tokens : List LexToken} → LacksFirst tokens (Fixed marks.CloseBrace)
    → Alike (MoreVersions ∷ []) (of_version ++ MoreVersions ∷ []) tokens
more_versions other = alike_other other
    (λ w left code ps ss h. more_versions_is w left code ps ss h ∙ versions_is (headed w left code ps) ss)

-- one more element of a list
pub spelled_more : {A V : Type 0} (view : A → V) (spell : List V → List Word) (one : V → List Word)
    → ((vs : List V) (v : V) → spell (vs ++ v ∷ []) ≡ spell vs ++ one v) → (xs : List A) (x : A) (ys : List A)
    → ys ≡ xs ++ x ∷ [] → spell (map view xs) ++ one (view x) ≡ spell (map view ys)
spelled_more view spell one push xs x ys is =
    sym (push (map view xs) (view x)) ∙ ap spell (sym (ap (map view) is ∙ map-append view xs (x ∷ [])))

-- one more, behind the `{`
pub braced_more : {A V : Type 0} (view : A → V) (spell : List V → List Word) (one : V → List Word)
    → ((vs : List V) (v : V) → spell (vs ++ v ∷ []) ≡ spell vs ++ one v)
    → (each : List Symbol) (more : Symbol) (xs : List A) (x : A) (ys : List A) → ys ≡ xs ++ x ∷ []
    → {from : List Symbol} {tokens left rest : List LexToken}
    → ReadsPart [] from tokens (Fixed marks.OpenBrace ∷ spell (map view xs)) (each ++ more ∷ []) left
    → ReadsPart [] each left (one (view x)) [] rest
    → ReadsPart [] from tokens (Fixed marks.OpenBrace ∷ spell (map view ys)) (more ∷ []) rest
braced_more view spell one push each more xs x ys is h r =
    read_as (ap (λ t. Fixed marks.OpenBrace ∷ t) (spelled_more view spell one push xs x ys is))
    (read_then each (more ∷ []) h r)

pub fits_more : {A V : Type 0} (view : A → V) (Fits : List V → Type 0) (Fit : V → Type 0)
    → ((vs : List V) (v : V) → Fits vs → Fit v → Fits (vs ++ v ∷ [])) → (xs : List A) (x : A) (ys : List A)
    → ys ≡ xs ++ x ∷ [] → Fits (map view xs) → Fit (view x) → Fits (map view ys)
fits_more view Fits Fit push xs x ys is h f =
    subst Fits (sym (ap (map view) is ∙ map-append view xs (x ∷ []))) (push (map view xs) (view x) h f)

abbrev pub spell_other : tree.Argument → List Word
spell_other a = Fixed marks.Comma ∷ spell_argument a

pub others_push : (vs : List tree.Argument) (v : tree.Argument)
    → spell_others (vs ++ v ∷ []) ≡ spell_others vs ++ spell_other v
others_push [] v = ap (λ t. Fixed marks.Comma ∷ t) (append-nil (spell_argument v))
others_push (u ∷ vs) v =
    ap (λ t. spell_other u ++ t) (others_push vs v)
    ∙ sym (append_assoc (spell_other u) (spell_others vs) (spell_other v))

pub others_fit : (vs : List tree.Argument) (v : tree.Argument) → OthersFit vs → ArgumentFits v
    → OthersFit (vs ++ v ∷ [])
others_fit [] v h f = (f, tt)
others_fit (u ∷ vs) v h f = (h.0, others_fit vs v h.1 f)

pub procedures_push : (vs : List tree.Procedure) (v : tree.Procedure)
    → spell_procedures (vs ++ v ∷ []) ≡ spell_procedures vs ++ spell_procedure v
procedures_push [] v = append-nil (spell_procedure v)
procedures_push (u ∷ vs) v =
    ap (λ t. spell_procedure u ++ t) (procedures_push vs v)
    ∙ sym (append_assoc (spell_procedure u) (spell_procedures vs) (spell_procedure v))

pub procedures_fit : (vs : List tree.Procedure) (v : tree.Procedure) → ProceduresFit vs → ProcedureFits v
    → ProceduresFit (vs ++ v ∷ [])
procedures_fit [] v h f = (f, tt)
procedures_fit (u ∷ vs) v h f = (h.0, procedures_fit vs v h.1 f)

pub versions_push : (vs : List tree.Version) (v : tree.Version)
    → spell_versions (vs ++ v ∷ []) ≡ spell_versions vs ++ spell_version v
versions_push [] v = append-nil (spell_version v)
versions_push (u ∷ vs) v =
    ap (λ t. spell_version u ++ t) (versions_push vs v)
    ∙ sym (append_assoc (spell_version u) (spell_versions vs) (spell_version v))

pub versions_fit : (vs : List tree.Version) (v : tree.Version) → VersionsFit vs → VersionFits v
    → VersionsFit (vs ++ v ∷ [])
versions_fit [] v h f = (f, tt)
versions_fit (u ∷ vs) v h f = (h.0, versions_fit vs v h.1 f)

pub arguments_push : (first : Option tree.Argument) (vs : List tree.Argument) (v : tree.Argument)
    → spell_passed first ++ spell_others (vs ++ v ∷ [])
    ≡ (spell_passed first ++ spell_others vs) ++ spell_other v
arguments_push first vs v =
    ap (λ t. spell_passed first ++ t) (others_push vs v)
    ∙ sym (append_assoc (spell_passed first) (spell_others vs) (spell_other v))

pub argument_more : (first : Option tree.Argument) (xs : List Argument) (x : Argument) (ys : List Argument)
    → ys ≡ xs ++ x ∷ []
    → ((spell_passed first ++ spell_others (map view_argument xs)) ++ Fixed marks.Comma ∷ [])
    ++ spell_argument (view_argument x) ≡ spell_passed first ++ spell_others (map view_argument ys)
argument_more first xs x ys is =
    append_assoc (spell_passed first ++ spell_others (map view_argument xs)) (Fixed marks.Comma ∷ [])
    (spell_argument (view_argument x))
    ∙ spelled_more view_argument (λ vs. spell_passed first ++ spell_others vs) spell_other
    (arguments_push first) xs x ys is

pub no_others : (first : Option tree.Argument) (ys : List Argument) → ys ≡ []
    → spell_passed first ≡ spell_passed first ++ spell_others (map view_argument ys)
no_others first ys is = sym (append-nil (spell_passed first))
    ∙ ap (λ zs. spell_passed first ++ spell_others (map view_argument zs)) (sym is)
