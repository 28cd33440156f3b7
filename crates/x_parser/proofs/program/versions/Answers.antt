use Rattle.std.proofs.Common.{[], ◌∷◌, ap, map, refl, subst, sym}
use Rattle.x_lex.specs.declared.mark.Mark.TheVariants as marks
use Rattle.x_trees.specs.Words.{Fixed}
use Rattle.x_trees.specs.Spell.{spell_version, spell_versions, VersionFits, VersionsFit}
use Rattle.x_trees.specs.View.{view_version}
use Rattle.x_parser.specs.Symbols.{Token, Versions, MoreVersions, of_version}
use Rattle.x_parser.proofs.ReadLemmas.{exit, fails_more, fails_then, read_as, read_first, read_more, read_on}
use Rattle.x_parser.proofs.ReadLemmas.{read_then}
use Rattle.x_parser.proofs.LoopLemmas.{has_pushed}
use Rattle.x_parser.proofs.ProgramLemmas.{more_of_versions, more_versions, versions_push, versions_fit}
use Rattle.x_parser.proofs.ProgramLemmas.{braced_more, fits_more}
use Rattle.x_parser.proofs.program.versions.Goals as goal

pub returns-in_err-left-clause-stuck : goal.returns-in_err-left-clause-stuck
returns-in_err-left-clause-stuck c =
    exit _ _ c.from_residual.ensures.1
    (fails_more (Token marks.OpenBrace ∷ []) (Versions ∷ []) c.in_err-left.ensures.stuck)

pub loop-members-init : goal.loop-members-init
loop-members-init c =
    let none = sym c.new-members.ensures.items in
    let start = read_more (Token marks.OpenBrace ∷ []) (Versions ∷ []) c.in_ok-left.ensures.read in
    record {
      read = read_as (ap (λ ms. Fixed marks.OpenBrace ∷ spell_versions (map view_version ms)) none)
          (read_on start (more_of_versions c.in_ok-left.left.now));
      fits = subst (λ ms. VersionsFit (map view_version ms)) none tt;
    }

pub returns-in_err-member-clause-stuck : goal.returns-in_err-member-clause-stuck
returns-in_err-member-clause-stuck c =
    exit _ _ c.from_residual-in_err-member.ensures.1
    (fails_then of_version (MoreVersions ∷ []) c.loop-members.invariant.read c.in_err-member.ensures.stuck)

pub returns-in-Some-clause-read : goal.returns-in-Some-clause-read
returns-in-Some-clause-read c =
    let read = braced_more view_version spell_versions spell_version versions_push of_version MoreVersions
    c.loop-members.members.items c.in_ok-member.member _ c.in_ok-push.ensures.items
    c.loop-members.invariant.read c.in_ok-member.ensures.read in
    read_then (MoreVersions ∷ []) [] read
    (read_first {from = MoreVersions ∷ []} {to = []} (Fixed marks.CloseBrace) c.in-Some.ensures.some refl
    (λ left code ps ss. refl))

pub returns-in-Some-clause-some : goal.returns-in-Some-clause-some
returns-in-Some-clause-some c = has_pushed view_version c.loop-members.members.items c.in_ok-member.member _
    c.in_ok-push.ensures.items

pub returns-in-Some-clause-fits : goal.returns-in-Some-clause-fits
returns-in-Some-clause-fits c =
    fits_more view_version VersionsFit VersionFits versions_fit c.loop-members.members.items
    c.in_ok-member.member _ c.in_ok-push.ensures.items c.loop-members.invariant.fits
    c.in_ok-member.ensures.fits

pub loop-members-preserved : goal.loop-members-preserved
loop-members-preserved c =
    let read = braced_more view_version spell_versions spell_version versions_push of_version MoreVersions
    c.loop-members.members.items c.in_ok-member.member _ c.in_ok-push.ensures.items
    c.loop-members.invariant.read c.in_ok-member.ensures.read in
    record {
      read = read_on read (more_versions c.in_default.ensures.none);
      fits = fits_more view_version VersionsFit VersionFits versions_fit c.loop-members.members.items
          c.in_ok-member.member _ c.in_ok-push.ensures.items c.loop-members.invariant.fits
          c.in_ok-member.ensures.fits;
    }
