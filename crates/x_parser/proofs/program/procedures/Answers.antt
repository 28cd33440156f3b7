use Rattle.std.proofs.Common.{[], ◌∷◌, ap, map, refl, subst, sym}
use Rattle.x_lex.specs.declared.mark.Mark.TheVariants as marks
use Rattle.x_trees.specs.Words.{Fixed}
use Rattle.x_trees.specs.Spell.{spell_procedure, spell_procedures, ProcedureFits, ProceduresFit}
use Rattle.x_trees.specs.View.{view_procedure}
use Rattle.x_parser.specs.Symbols.{Token, Procedures, MoreProcedures, of_procedure}
use Rattle.x_parser.proofs.ReadLemmas.{exit, fails_more, fails_then, read_as, read_first, read_more, read_on}
use Rattle.x_parser.proofs.ReadLemmas.{read_then}
use Rattle.x_parser.proofs.LoopLemmas.{has_pushed}
use Rattle.x_parser.proofs.ProgramLemmas.{more_of_procedures, more_procedures, procedures_push}
use Rattle.x_parser.proofs.ProgramLemmas.{procedures_fit, braced_more, fits_more}
use Rattle.x_parser.proofs.program.procedures.Goals as goal

pub returns-in_err-left-clause-stuck : goal.returns-in_err-left-clause-stuck
returns-in_err-left-clause-stuck c =
    exit _ _ c.from_residual.ensures.1
    (fails_more (Token marks.OpenBrace ∷ []) (Procedures ∷ []) c.in_err-left.ensures.stuck)

pub loop-members-init : goal.loop-members-init
loop-members-init c =
    let none = sym c.new-members.ensures.items in
    let start = read_more (Token marks.OpenBrace ∷ []) (Procedures ∷ []) c.in_ok-left.ensures.read in
    record {
      read = read_as (ap (λ ms. Fixed marks.OpenBrace ∷ spell_procedures (map view_procedure ms)) none)
          (read_on start (more_of_procedures c.in_ok-left.left.now));
      fits = subst (λ ms. ProceduresFit (map view_procedure ms)) none tt;
    }

pub returns-in_err-member-clause-stuck : goal.returns-in_err-member-clause-stuck
returns-in_err-member-clause-stuck c =
    exit _ _ c.from_residual-in_err-member.ensures.1
    (fails_then of_procedure (MoreProcedures ∷ []) c.loop-members.invariant.read
    c.in_err-member.ensures.stuck)

pub returns-in-Some-clause-read : goal.returns-in-Some-clause-read
returns-in-Some-clause-read c =
    let read = braced_more view_procedure spell_procedures spell_procedure procedures_push of_procedure
    MoreProcedures c.loop-members.members.items c.in_ok-member.member _ c.in_ok-push.ensures.items
    c.loop-members.invariant.read c.in_ok-member.ensures.read in
    read_then (MoreProcedures ∷ []) [] read
    (read_first {from = MoreProcedures ∷ []} {to = []} (Fixed marks.CloseBrace) c.in-Some.ensures.some refl
    (λ left code ps ss. refl))

pub returns-in-Some-clause-some : goal.returns-in-Some-clause-some
returns-in-Some-clause-some c = has_pushed view_procedure c.loop-members.members.items c.in_ok-member.member _
    c.in_ok-push.ensures.items

pub returns-in-Some-clause-fits : goal.returns-in-Some-clause-fits
returns-in-Some-clause-fits c =
    fits_more view_procedure ProceduresFit ProcedureFits procedures_fit c.loop-members.members.items
    c.in_ok-member.member _ c.in_ok-push.ensures.items c.loop-members.invariant.fits
    c.in_ok-member.ensures.fits

pub loop-members-preserved : goal.loop-members-preserved
loop-members-preserved c =
    let read = braced_more view_procedure spell_procedures spell_procedure procedures_push of_procedure
    MoreProcedures c.loop-members.members.items c.in_ok-member.member _ c.in_ok-push.ensures.items
    c.loop-members.invariant.read c.in_ok-member.ensures.read in
    record {
      read = read_on read (more_procedures c.in_default.ensures.none);
      fits = fits_more view_procedure ProceduresFit ProcedureFits procedures_fit c.loop-members.members.items
          c.in_ok-member.member _ c.in_ok-push.ensures.items c.loop-members.invariant.fits
          c.in_ok-member.ensures.fits;
    }
