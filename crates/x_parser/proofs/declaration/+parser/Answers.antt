use Rattle.std.proofs.Common.{ℕ, ◌-◌, [], ◌∷◌, ◌++◌, ap, sym, ◌∙◌, subst, append_assoc, refl}
use Rattle.std.proofs.lemmas.Result.{IfOk-weaker, IfErr-weaker}
use Rattle.x_trees.specs.Words.{Fixed}
use Rattle.x_trees.specs.Gloss.{tag_mark}
use Rattle.x_trees.specs.Spell.{spell_body, spell_type, spell_named, spell_declaration, spell_declarations}
use Rattle.x_trees.specs.Spell.{spell_arms, spell_default, TypeFits, BodyFits, ArmsFit, DeclarationsFit}
use Rattle.x_trees.specs.Tree.{default}
use Rattle.x_trees.specs.View.{view_type, view_body, view_shape, view_declaration, view_declarations}
use Rattle.x_trees.specs.View.{view_arms}
use Rattle.x_lex.specs.declared.mark.Mark.TheVariants as marks
use Rattle.x_parser.specs.declared.ending.Ending.TheVariants as endings
use Rattle.x_parser.specs.Symbols.{Context, AnyValue, Token, AfterCase, MoreArms, Declared, Declarations}
use Rattle.x_parser.specs.Symbols.{MoreDeclarations, Arms, InDeclaration, AfterType, Typed, ending_mark}
use Rattle.x_trees.specs.declared.trees.declaration.Tag.TheVariants as tags
use Rattle.x_parser.specs.Reading.{view_word, ReadsPart, Fails}
use Rattle.x_parser.proofs.ReadLemmas.{exit, read_first, fails_alike, fails_more, fails_then, read_alike}
use Rattle.x_parser.proofs.ReadLemmas.{read_as, read_more, read_on, read_then, read_after, read_after_word}
use Rattle.x_parser.proofs.LoopLemmas.{of_struct, of_union, union_words, of_declarations, more_declarations}
use Rattle.x_parser.proofs.LoopLemmas.{default_symbols, struct_read, arms_read, has_declaration}
use Rattle.x_parser.proofs.LoopLemmas.{fits_declaration, of_arms, more_arms, has_arm, fits_arm, no_keyword}
use Rattle.x_parser.proofs.LoopLemmas.{no_tag_name, read_tagged, stuck_tagged, fits_one_more, fits_inline}
use Rattle.x_parser.proofs.declaration.+parser.Goals as goal

pub body_of_struct-returns-in_err-left-clause-stuck : goal.body_of_struct-returns-in_err-left-clause-stuck
body_of_struct-returns-in_err-left-clause-stuck t c =
    let same = of_struct c.args.depth c.args.tokens.now in
    exit _ _ c.from_residual.ensures.1
    (fails_alike same (fails_more (Token marks.OpenBrace ∷ []) (Declarations c.args.depth ∷ [])
    c.in_err-left.ensures.stuck))

pub body_of_struct-loop-members-init : goal.body_of_struct-loop-members-init
body_of_struct-loop-members-init t c =
    let n = c.args.depth in
    let start = read_alike (of_struct n c.args.tokens.now)
    (read_more (Token marks.OpenBrace ∷ []) (Declarations n ∷ []) c.in_ok-left.ensures.read) in
    let none = sym c.new-members.ensures.items in
    record {
      read = read_as (ap (λ ds. Fixed marks.OpenBrace ∷ spell_declarations (view_declarations ds)) none)
          (read_on start (of_declarations n c.in_ok-left.left.now));
      fits = subst (λ ds. DeclarationsFit (view_declarations ds) n) none tt;
    }

pub body_of_struct-returns-in_err-member-clause-stuck : goal.body_of_struct-returns-in_err-member-clause-stuck
body_of_struct-returns-in_err-member-clause-stuck t c =
    let n = c.args.depth in
    exit _ _ c.from_residual-in_err-member.ensures.1
    (fails_then (Declared n endings.Semicolon ∷ []) (MoreDeclarations n ∷ []) c.loop-members.invariant.read
    c.in_err-member.ensures.stuck)

pub body_of_struct-returns-in-Some-clause-read : goal.body_of_struct-returns-in-Some-clause-read
body_of_struct-returns-in-Some-clause-read t c =
    let n = c.args.depth in
    let read = struct_read n c.loop-members.members.items c.in_ok-member.member _ c.in_ok-push.ensures.items
    c.loop-members.invariant.read c.in_ok-member.ensures.read in
    let closed = read_first {from = MoreDeclarations n ∷ []} {to = []} (Fixed marks.CloseBrace)
    c.in-Some.ensures.some refl (λ left code ps ss. refl) in
    read_as (ap spell_body (sym c.struct_body.ensures)) (read_then (MoreDeclarations n ∷ []) [] read closed)

pub body_of_struct-returns-in-Some-clause-fits : goal.body_of_struct-returns-in-Some-clause-fits
body_of_struct-returns-in-Some-clause-fits t c =
    let n = c.args.depth in
    let pushed = c.in_ok-push.ensures.items in
    let member = c.in_ok-member in
    subst (λ body. BodyFits body n) (sym c.struct_body.ensures) (
      has_declaration c.loop-members.members.items member.member _ pushed,
      fits_declaration n c.loop-members.members.items member.member _ pushed c.loop-members.invariant.fits
          member.ensures.fits,
    )

pub body_of_struct-loop-members-preserved : goal.body_of_struct-loop-members-preserved
body_of_struct-loop-members-preserved t c =
    let n = c.args.depth in
    let read = struct_read n c.loop-members.members.items c.in_ok-member.member _ c.in_ok-push.ensures.items
    c.loop-members.invariant.read c.in_ok-member.ensures.read in
    record {
      read = read_on read (more_declarations n c.in_default.ensures.none);
      fits = fits_declaration n c.loop-members.members.items c.in_ok-member.member _
          c.in_ok-push.ensures.items c.loop-members.invariant.fits c.in_ok-member.ensures.fits;
    }

pub arms-returns-in_err-rest-clause-stuck : goal.arms-returns-in_err-rest-clause-stuck
arms-returns-in_err-rest-clause-stuck t c =
    exit _ _ c.from_residual.ensures.1
    (fails_more (Token marks.OpenBrace ∷ []) (Arms c.args.depth ∷ []) c.in_err-rest.ensures.stuck)

pub arms-returns-in_err-left-clause-stuck : goal.arms-returns-in_err-left-clause-stuck
arms-returns-in_err-left-clause-stuck t c =
    let n = c.args.depth in
    let start = read_on (read_more (Token marks.OpenBrace ∷ []) (Arms n ∷ []) c.in_ok-rest.ensures.read)
    (of_arms n c.in_ok-rest.rest.now) in
    exit _ _ c.from_residual-in_err-left.ensures.1
    (fails_then (Token marks.Case ∷ []) (AnyValue ∷ Token marks.Colon ∷ AfterCase n ∷ MoreArms n ∷ []) start
    c.in_err-left.ensures.stuck)

pub arms-loop-arms-init : goal.arms-loop-arms-init
arms-loop-arms-init t c =
    let n = c.args.depth in
    let none = sym c.new-arms.ensures.items in
    let start = read_on (read_more (Token marks.OpenBrace ∷ []) (Arms n ∷ []) c.in_ok-rest.ensures.read)
    (of_arms n c.in_ok-rest.rest.now) in
    let case = read_then (Token marks.Case ∷ [])
    (AnyValue ∷ Token marks.Colon ∷ AfterCase n ∷ MoreArms n ∷ []) start c.in_ok-left.ensures.read in
    record {
      read = read_as
          (ap (λ arms. Fixed marks.OpenBrace ∷ (spell_arms (view_arms arms) ++ Fixed marks.Case ∷ [])) none)
          case;
      fits = subst (λ arms. ArmsFit (view_arms arms) n) none tt;
    }

pub arms-returns-in_err-member-clause-stuck : goal.arms-returns-in_err-member-clause-stuck
arms-returns-in_err-member-clause-stuck t c =
    let n = c.args.depth in
    exit _ _ c.from_residual-in_err-member.ensures.1
    (fails_then (AnyValue ∷ Token marks.Colon ∷ AfterCase n ∷ []) (MoreArms n ∷ []) c.loop-arms.invariant.read
    c.in_err-member.ensures.stuck)

pub arms-returns-in-Some-clause-read : goal.arms-returns-in-Some-clause-read
arms-returns-in-Some-clause-read t c =
    let n = c.args.depth in
    let read = arms_read n c.loop-arms.arms.items c.in_ok-member.member _ c.in_ok-push.ensures.items
    c.loop-arms.invariant.read c.in_ok-member.ensures.read in
    read_then (MoreArms n ∷ []) [] read
    (read_first {from = MoreArms n ∷ []} {to = []} (Fixed marks.CloseBrace) c.in-Some.ensures.some refl
    (λ left code ps ss. refl))

pub arms-returns-in-Some-clause-fits : goal.arms-returns-in-Some-clause-fits
arms-returns-in-Some-clause-fits t c = (
  has_arm c.loop-arms.arms.items c.in_ok-member.member _ c.in_ok-push.ensures.items,
  (
    fits_arm c.args.depth c.loop-arms.arms.items c.in_ok-member.member _ c.in_ok-push.ensures.items
        c.loop-arms.invariant.fits c.in_ok-member.ensures.some c.in_ok-member.ensures.fits,
    tt,
  ),
)

pub arms-returns-in_err-default-clause-stuck : goal.arms-returns-in_err-default-clause-stuck
arms-returns-in_err-default-clause-stuck t c =
    let n = c.args.depth in
    let read = arms_read n c.loop-arms.arms.items c.in_ok-member.member _ c.in_ok-push.ensures.items
    c.loop-arms.invariant.read c.in_ok-member.ensures.read in
    let other = read_then (MoreArms n ∷ []) [] read
    (read_first {from = MoreArms n ∷ []} {to = default_symbols n} (Fixed marks.Default)
    c.in-Some-strip_mark.ensures.some refl (λ left code ps ss. refl)) in
    exit _ _ c.from_residual-in_err-default.ensures.1
    (fails_then (default_symbols n) [] other c.in_err-default.ensures.stuck)

pub arms-returns-in-Some-strip_mark-clause-read : goal.arms-returns-in-Some-strip_mark-clause-read
arms-returns-in-Some-strip_mark-clause-read t c =
    let n = c.args.depth in
    let read = arms_read n c.loop-arms.arms.items c.in_ok-member.member _ c.in_ok-push.ensures.items
    c.loop-arms.invariant.read c.in_ok-member.ensures.read in
    let other = read_then (MoreArms n ∷ []) [] read
    (read_first {from = MoreArms n ∷ []} {to = default_symbols n} (Fixed marks.Default)
    c.in-Some-strip_mark.ensures.some refl (λ left code ps ss. refl)) in
    read_after (default_symbols n) [] (Fixed marks.OpenBrace ∷ spell_arms (view_arms c.push.new.self.items))
    (Fixed marks.Default) other c.in_ok-default.ensures.read

pub arms-returns-in-Some-strip_mark-clause-fits : goal.arms-returns-in-Some-strip_mark-clause-fits
arms-returns-in-Some-strip_mark-clause-fits t c = (
  has_arm c.loop-arms.arms.items c.in_ok-member.member _ c.in_ok-push.ensures.items,
  (
    fits_arm c.args.depth c.loop-arms.arms.items c.in_ok-member.member _ c.in_ok-push.ensures.items
        c.loop-arms.invariant.fits c.in_ok-member.ensures.some c.in_ok-member.ensures.fits,
    c.in_ok-default.ensures.fits,
  ),
)

pub arms-returns-in_err-left-2-clause-stuck : goal.arms-returns-in_err-left-2-clause-stuck
arms-returns-in_err-left-2-clause-stuck t c =
    let n = c.args.depth in
    let read = arms_read n c.loop-arms.arms.items c.in_ok-member.member _ c.in_ok-push.ensures.items
    c.loop-arms.invariant.read c.in_ok-member.ensures.read in
    let on = read_on read (more_arms n c.in_default.ensures.none c.in_default-strip_mark.ensures.none) in
    exit _ _ c.from_residual-in_err-left-2.ensures.1
    (fails_then (Token marks.Case ∷ []) (AnyValue ∷ Token marks.Colon ∷ AfterCase n ∷ MoreArms n ∷ []) on
    c.in_err-left-2.ensures.stuck)

pub arms-loop-arms-preserved : goal.arms-loop-arms-preserved
arms-loop-arms-preserved t c =
    let n = c.args.depth in
    let read = arms_read n c.loop-arms.arms.items c.in_ok-member.member _ c.in_ok-push.ensures.items
    c.loop-arms.invariant.read c.in_ok-member.ensures.read in
    let on = read_on read (more_arms n c.in_default.ensures.none c.in_default-strip_mark.ensures.none) in
    record {
      read = read_then (Token marks.Case ∷ []) (AnyValue ∷ Token marks.Colon ∷ AfterCase n ∷ MoreArms n ∷ [])
          on c.in_ok-left-2.ensures.read;
      fits = fits_arm c.args.depth c.loop-arms.arms.items c.in_ok-member.member _ c.in_ok-push.ensures.items
          c.loop-arms.invariant.fits c.in_ok-member.ensures.some c.in_ok-member.ensures.fits;
    }

pub body_of_union-returns-in_err-rest-clause-stuck : goal.body_of_union-returns-in_err-rest-clause-stuck
body_of_union-returns-in_err-rest-clause-stuck t c =
    let n = c.args.depth in
    exit _ _ c.from_residual.ensures.1
    (fails_alike (of_union n c.args.tokens.now)
    (fails_more (Token marks.Switch ∷ []) (Token marks.OpenParenthesis ∷ Declared n endings.Parenthesis
    ∷ Token marks.OpenBrace ∷ Arms n ∷ []) c.in_err-rest.ensures.stuck))

pub body_of_union-returns-in_err-rest-2-clause-stuck : goal.body_of_union-returns-in_err-rest-2-clause-stuck
body_of_union-returns-in_err-rest-2-clause-stuck t c =
    let n = c.args.depth in
    let start = read_alike (of_union n c.args.tokens.now)
    (read_more (Token marks.Switch ∷ []) (Token marks.OpenParenthesis ∷ Declared n endings.Parenthesis
    ∷ Token marks.OpenBrace ∷ Arms n ∷ []) c.in_ok-rest.ensures.read) in
    exit _ _ c.from_residual-in_err-rest-2.ensures.1
    (fails_then (Token marks.OpenParenthesis ∷ []) (Declared n endings.Parenthesis ∷ Token marks.OpenBrace
    ∷ Arms n ∷ []) start c.in_err-rest-2.ensures.stuck)

pub body_of_union-returns-in_err-discriminant-clause-stuck :
    goal.body_of_union-returns-in_err-discriminant-clause-stuck
body_of_union-returns-in_err-discriminant-clause-stuck t c =
    let n = c.args.depth in
    let start = read_alike (of_union n c.args.tokens.now)
    (read_more (Token marks.Switch ∷ []) (Token marks.OpenParenthesis ∷ Declared n endings.Parenthesis
    ∷ Token marks.OpenBrace ∷ Arms n ∷ []) c.in_ok-rest.ensures.read) in
    let opened = read_then (Token marks.OpenParenthesis ∷ [])
    (Declared n endings.Parenthesis ∷ Token marks.OpenBrace ∷ Arms n ∷ []) start
    c.in_ok-rest-2.ensures.read in
    exit _ _ c.from_residual-in_err-discriminant.ensures.1
    (fails_then (Declared n endings.Parenthesis ∷ []) (Token marks.OpenBrace ∷ Arms n ∷ []) opened
    c.in_err-discriminant.ensures.stuck)

pub body_of_union-returns-in_err-arms-clause-stuck : goal.body_of_union-returns-in_err-arms-clause-stuck
body_of_union-returns-in_err-arms-clause-stuck t c =
    let n = c.args.depth in
    let start = read_alike (of_union n c.args.tokens.now)
    (read_more (Token marks.Switch ∷ []) (Token marks.OpenParenthesis ∷ Declared n endings.Parenthesis
    ∷ Token marks.OpenBrace ∷ Arms n ∷ []) c.in_ok-rest.ensures.read) in
    let opened = read_then (Token marks.OpenParenthesis ∷ [])
    (Declared n endings.Parenthesis ∷ Token marks.OpenBrace ∷ Arms n ∷ []) start
    c.in_ok-rest-2.ensures.read in
    let told = read_then (Declared n endings.Parenthesis ∷ []) (Token marks.OpenBrace ∷ Arms n ∷ []) opened
    c.in_ok-discriminant.ensures.read in
    exit _ _ c.from_residual-in_err-arms.ensures.1
    (fails_then (Token marks.OpenBrace ∷ Arms n ∷ []) [] told c.in_err-arms.ensures.stuck)

pub body_of_union-returns-clause-read : goal.body_of_union-returns-clause-read
body_of_union-returns-clause-read t c =
    let n = c.args.depth in
    let start = read_alike (of_union n c.args.tokens.now)
    (read_more (Token marks.Switch ∷ []) (Token marks.OpenParenthesis ∷ Declared n endings.Parenthesis
    ∷ Token marks.OpenBrace ∷ Arms n ∷ []) c.in_ok-rest.ensures.read) in
    let opened = read_then (Token marks.OpenParenthesis ∷ [])
    (Declared n endings.Parenthesis ∷ Token marks.OpenBrace ∷ Arms n ∷ []) start
    c.in_ok-rest-2.ensures.read in
    let told = read_then (Declared n endings.Parenthesis ∷ []) (Token marks.OpenBrace ∷ Arms n ∷ []) opened
    c.in_ok-discriminant.ensures.read in
    read_as (union_words _ _ ∙ ap spell_body (sym c.in_ok-union_body.ensures))
    (read_then (Token marks.OpenBrace ∷ Arms n ∷ []) [] told c.in_ok-arms.ensures.read)

pub body_of_union-returns-clause-fits : goal.body_of_union-returns-clause-fits
body_of_union-returns-clause-fits t c =
    subst (λ body. BodyFits body c.args.depth) (sym c.in_ok-union_body.ensures)
    (c.in_ok-discriminant.ensures.fits, c.in_ok-arms.ensures.fits)

pub data_type-returns-in_default-mark : goal.data_type-returns-in_default-mark
data_type-returns-in_default-mark t c =
    let n = c.args.depth in
    let tokens = c.args.tokens.now in
    record {
      read = IfOk-weaker c.basic.result (λ x. (n : ℕ) (at : Context)
          → ReadsPart [] (Typed n at ∷ []) tokens (spell_type (view_type x.0)) (AfterType at ∷ []) x.1.now)
          (λ x. (at : Context) → ReadsPart [] (Typed n at ∷ []) tokens (spell_type (view_type x.0))
          (AfterType at ∷ []) x.1.now) (λ x r. r n) c.basic.ensures.read;
      fits = IfOk-weaker c.basic.result (λ x. (n : ℕ) → TypeFits (view_type x.0) n)
          (λ x. TypeFits (view_type x.0) n) (λ x f. f n) c.basic.ensures.fits;
      stuck = IfErr-weaker c.basic.result (λ e. (n : ℕ) (at : Context) → Fails (Typed n at ∷ []) tokens e)
          (λ e. (at : Context) → Fails (Typed n at ∷ []) tokens e) (λ e f. f n) c.basic.ensures.stuck;
    }

pub declared-returns-in_err-data-clause-stuck : goal.declared-returns-in_err-data-clause-stuck
declared-returns-in_err-data-clause-stuck t c =
    let n = c.args.depth in
    let e = c.args.ending in
    let same = no_keyword n e c.in_default.ensures.none c.in_default-strip_mark.ensures.none
    c.in_default-strip_mark-2.ensures.none in
    exit _ _ c.from_residual.ensures.1 (fails_alike same (c.in_err-data.ensures.stuck (InDeclaration e)))

pub declared-returns-in_err-name-clause-stuck : goal.declared-returns-in_err-name-clause-stuck
declared-returns-in_err-name-clause-stuck t c =
    let n = c.args.depth in
    let e = c.args.ending in
    let same = no_keyword n e c.in_default.ensures.none c.in_default-strip_mark.ensures.none
    c.in_default-strip_mark-2.ensures.none in
    let typed = read_alike same (c.in_ok-data.ensures.read (InDeclaration e)) in
    exit _ _ c.from_residual-in_err-name.ensures.1
    (fails_then (AfterType (InDeclaration e) ∷ []) [] typed c.in_err-name.ensures.stuck)

pub declared-returns-clause-read : goal.declared-returns-clause-read
declared-returns-clause-read t c =
    let n = c.args.depth in
    let e = c.args.ending in
    let same = no_keyword n e c.in_default.ensures.none c.in_default-strip_mark.ensures.none
    c.in_default-strip_mark-2.ensures.none in
    let typed = read_alike same (c.in_ok-data.ensures.read (InDeclaration e)) in
    read_as (sym (append_assoc (spell_type (view_type c.in_ok-data.data))
    (spell_named c.in_ok-name.name.items (view_shape c.in_ok-name.shape)) (Fixed (ending_mark e) ∷ [])))
    (read_then (AfterType (InDeclaration e) ∷ []) [] typed c.in_ok-name.ensures.read)

pub tagged-returns-in_err-body-in_default-clause-stuck :
    goal.tagged-returns-in_err-body-in_default-clause-stuck
tagged-returns-in_err-body-in_default-clause-stuck t c =
    let same = no_tag_name c.args.tag c.args.depth c.in_ok-word.word c.in_ok-word.ensures.word
    c.in_default.not-Name c.if-depth-eq0.false in
    exit _ _ c.from_residual-in_err-body-in_default.ensures.1
    (fails_alike same c.in_err-body-in_default.ensures.stuck)

pub tagged-returns-in_ok-inline-in_default-clause-read :
    goal.tagged-returns-in_ok-inline-in_default-clause-read
tagged-returns-in_ok-inline-in_default-clause-read t c =
    let tag = c.args.tag in
    let made = c.in_ok-inline-in_default.ensures in
    let read = c.in_ok-body-in_default.ensures in
    let same = no_tag_name tag c.args.depth c.in_ok-word.word c.in_ok-word.ensures.word c.in_default.not-Name
    c.if-depth-eq0.false in
    read_alike same
    (read_as (ap (λ m. Fixed m ∷ spell_body (view_body c.in_ok-body-in_default.body)) (sym read.of)
    ∙ ap spell_type (sym made)) (read_after_word (Fixed (tag_mark tag)) read.read))

pub tagged-returns-in_ok-inline-in_default-clause-fits :
    goal.tagged-returns-in_ok-inline-in_default-clause-fits
tagged-returns-in_ok-inline-in_default-clause-fits t c =
    fits_one_more _ c.args.depth c.if-depth-eq0.false
    (fits_inline _ _ (c.args.depth - 1) c.in_ok-inline-in_default.ensures
    c.in_ok-body-in_default.ensures.fits)

pub arm-returns-in_err-declaration-clause-stuck : goal.arm-returns-in_err-declaration-clause-stuck
arm-returns-in_err-declaration-clause-stuck t c =
    let n = c.args.depth in
    exit _ _ c.from_residual-in_err-declaration.ensures.1
    (fails_then (Declared n endings.Semicolon ∷ []) [] (c.in_ok-cases.ensures.read n)
    c.in_err-declaration.ensures.stuck)

pub arm-returns-clause-read : goal.arm-returns-clause-read
arm-returns-clause-read t c =
    let n = c.args.depth in
    read_then (Declared n endings.Semicolon ∷ []) [] (c.in_ok-cases.ensures.read n)
    c.in_ok-declaration.ensures.read

pub default_arm-returns-clause-read : goal.default_arm-returns-clause-read
default_arm-returns-clause-read t c =
    let n = c.args.depth in
    let d = view_declaration c.in_ok-declaration.declaration in
    let start = read_more (Token marks.Colon ∷ [])
    (Declared n endings.Semicolon ∷ Token marks.CloseBrace ∷ []) c.in_ok-rest.ensures.read in
    let told = read_then (Declared n endings.Semicolon ∷ []) (Token marks.CloseBrace ∷ []) start
    c.in_ok-declaration.ensures.read in
    let closed = read_then (Token marks.CloseBrace ∷ []) [] told c.in_ok-declaration-2.ensures.read in
    let words = append_assoc (spell_declaration d) (Fixed marks.Semicolon ∷ [])
    (Fixed marks.CloseBrace ∷ []) in
    let same = ap (λ d. spell_default (default (view_declaration d)))
    (sym c.in_ok-declaration-2.ensures.value) in
    read_as (ap (λ t. Fixed marks.Default ∷ Fixed marks.Colon ∷ t) words ∙ same)
    (read_after_word (Fixed marks.Default) closed)

pub data_type-returns-in-Enum : goal.data_type-returns-in-Enum
data_type-returns-in-Enum t c =
    let n = c.args.depth in
    let first = c.in_ok-word.ensures.word in
    let is = ap view_word c.in-Mark.is ∙ ap Fixed c.in-Enum.is in
    let last = c.tagged in
    record {
      read = read_tagged tags.Enum n first is last.result (λ x. spell_type (view_type x.0))
          (λ x. x.1.now) last.ensures.read;
      fits = last.ensures.fits;
      stuck = stuck_tagged tags.Enum n first is last.result last.ensures.stuck;
    }

pub data_type-returns-in-Struct : goal.data_type-returns-in-Struct
data_type-returns-in-Struct t c =
    let n = c.args.depth in
    let first = c.in_ok-word.ensures.word in
    let is = ap view_word c.in-Mark.is ∙ ap Fixed c.in-Struct.is in
    let last = c.tagged-in-Struct in
    record {
      read = read_tagged tags.Struct n first is last.result (λ x. spell_type (view_type x.0))
          (λ x. x.1.now) last.ensures.read;
      fits = last.ensures.fits;
      stuck = stuck_tagged tags.Struct n first is last.result last.ensures.stuck;
    }

pub data_type-returns-in-Union : goal.data_type-returns-in-Union
data_type-returns-in-Union t c =
    let n = c.args.depth in
    let first = c.in_ok-word.ensures.word in
    let is = ap view_word c.in-Mark.is ∙ ap Fixed c.in-Union.is in
    let last = c.tagged-in-Union in
    record {
      read = read_tagged tags.Union n first is last.result (λ x. spell_type (view_type x.0))
          (λ x. x.1.now) last.ensures.read;
      fits = last.ensures.fits;
      stuck = stuck_tagged tags.Union n first is last.result last.ensures.stuck;
    }
