use Rattle.std.proofs.Common.{[], ◌∷◌, ap, map, refl, subst, sym}
use Rattle.x_trees.specs.Words.{Fixed}
use Rattle.x_trees.specs.Spell.{ArgumentFits, OthersFit}
use Rattle.x_trees.specs.View.{view_argument}
use Rattle.x_lex.specs.declared.mark.Mark.TheVariants as marks
use Rattle.x_parser.specs.Symbols.{Token, InArguments, AfterType, Arguments, Parameters}
use Rattle.x_parser.proofs.ReadLemmas.{exit, fails_more, fails_then, read_as, read_first, read_more, read_on}
use Rattle.x_parser.proofs.ReadLemmas.{read_then}
use Rattle.x_parser.proofs.ProgramLemmas.{argument_more, more_arguments, no_others, fits_more, others_fit}
use Rattle.x_parser.proofs.program.arguments.Goals as goal

pub returns-in_err-rest-clause-stuck : goal.returns-in_err-rest-clause-stuck
returns-in_err-rest-clause-stuck c =
    exit _ _ c.from_residual.ensures.1
    (fails_more (Token marks.OpenParenthesis ∷ []) (Parameters ∷ []) c.in_err-rest.ensures.stuck)

pub returns-in_err-head-clause-stuck : goal.returns-in_err-head-clause-stuck
returns-in_err-head-clause-stuck c =
    let start = read_more (Token marks.OpenParenthesis ∷ []) (Parameters ∷ []) c.in_ok-rest.ensures.read in
    exit _ _ c.from_residual-in_err-head.ensures.1
    (fails_then (Parameters ∷ []) [] start c.in_err-head.ensures.stuck)

pub loop-rest-init : goal.loop-rest-init
loop-rest-init c =
    let start = read_more (Token marks.OpenParenthesis ∷ []) (Parameters ∷ []) c.in_ok-rest.ensures.read in
    record {
      read = read_as (ap (λ t. Fixed marks.OpenParenthesis ∷ t) (no_others _ _ c.new-others.ensures.items))
          (read_then (Parameters ∷ []) [] start c.in_ok-head.ensures.read);
      first_fits = c.in_ok-head.ensures.fits;
      fits = subst (λ vs. OthersFit (map view_argument vs)) (sym c.new-others.ensures.items) tt;
    }

pub returns-in-Some-clause-read : goal.returns-in-Some-clause-read
returns-in-Some-clause-read c =
    let closed = read_first {from = AfterType InArguments ∷ []} {to = []} (Fixed marks.CloseParenthesis)
    c.in-Some.ensures.some refl (λ left code ps ss. refl) in
    read_then (AfterType InArguments ∷ []) [] c.loop-rest.invariant.read closed

pub returns-in_err-rest-2-clause-stuck : goal.returns-in_err-rest-2-clause-stuck
returns-in_err-rest-2-clause-stuck c =
    let on = read_on c.loop-rest.invariant.read (more_arguments c.in_default.ensures.none) in
    exit _ _ c.from_residual-in_err-rest-2.ensures.1
    (fails_then (Token marks.Comma ∷ []) (Arguments ∷ []) on c.in_err-rest-2.ensures.stuck)

pub returns-in_err-next-clause-stuck : goal.returns-in_err-next-clause-stuck
returns-in_err-next-clause-stuck c =
    let on = read_on c.loop-rest.invariant.read (more_arguments c.in_default.ensures.none) in
    let past = read_then (Token marks.Comma ∷ []) (Arguments ∷ []) on c.in_ok-rest-2.ensures.read in
    exit _ _ c.from_residual-in_err-next.ensures.1
    (fails_then (Arguments ∷ []) [] past c.in_err-next.ensures.stuck)

pub loop-rest-preserved : goal.loop-rest-preserved
loop-rest-preserved c =
    let h = c.loop-rest.invariant in
    let next = c.in_ok-next in
    let pushed = c.in_ok-push.ensures.items in
    let on = read_on h.read (more_arguments c.in_default.ensures.none) in
    let past = read_then (Token marks.Comma ∷ []) (Arguments ∷ []) on c.in_ok-rest-2.ensures.read in
    record {
      read = read_as (ap (λ t. Fixed marks.OpenParenthesis ∷ t)
          (argument_more _ c.loop-rest.others.items next.next _ pushed))
          (read_then (Arguments ∷ []) [] past next.ensures.read);
      first_fits = h.first_fits;
      fits = fits_more view_argument OthersFit ArgumentFits others_fit c.loop-rest.others.items next.next _
          pushed h.fits next.ensures.fits;
    }
