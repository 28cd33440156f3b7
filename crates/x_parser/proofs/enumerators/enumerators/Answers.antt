use Rattle.std.proofs.Common.{[], ◌∷◌, refl}
use Rattle.x_trees.specs.Words.{Fixed}
use Rattle.x_lex.specs.declared.mark.Mark.TheVariants as marks
use Rattle.x_parser.specs.Symbols.{Enumerators, MoreEnumerators, Token}
use Rattle.x_trees.specs.View.{view_enumerator}
use Rattle.x_parser.proofs.ReadLemmas.{exit, fails_then, read_as, read_first, read_on, read_then}
use Rattle.x_parser.proofs.LoopLemmas.{one_only, has_pushed, enumerators_one, enumerators_more}
use Rattle.x_parser.proofs.LoopLemmas.{more_enumerators}
use Rattle.x_parser.proofs.enumerators.enumerators.Goals as goal

pub loop-rest-init : goal.loop-rest-init
loop-rest-init c =
    let member = c.in_ok-member in
    let one = one_only _ _ _ c.new-members.ensures.items c.in_ok-push.ensures.items in
    record {
      read = read_as (enumerators_one member.member _ one) member.ensures.read;
      some = has_pushed view_enumerator [] member.member _ one;
    }

pub returns-in-Some-clause-read : goal.returns-in-Some-clause-read
returns-in-Some-clause-read c =
    let closed = read_first {from = MoreEnumerators ∷ []} {to = []} (Fixed marks.CloseBrace)
    c.in-Some.ensures.some refl (λ left code ps ss. refl) in
    read_then (MoreEnumerators ∷ []) [] c.loop-rest.invariant.read closed

pub returns-in_err-rest-clause-stuck : goal.returns-in_err-rest-clause-stuck
returns-in_err-rest-clause-stuck c =
    let on = read_on c.loop-rest.invariant.read (more_enumerators c.in_default.ensures.none) in
    exit _ _ c.from_residual-in_err-rest.ensures.1
    (fails_then (Token marks.Comma ∷ []) (Enumerators ∷ []) on c.in_err-rest.ensures.stuck)

pub returns-in_err-next-clause-stuck : goal.returns-in_err-next-clause-stuck
returns-in_err-next-clause-stuck c =
    let on = read_on c.loop-rest.invariant.read (more_enumerators c.in_default.ensures.none) in
    let past = read_then (Token marks.Comma ∷ []) (Enumerators ∷ []) on c.in_ok-rest.ensures.read in
    exit _ _ c.from_residual-in_err-next.ensures.1
    (fails_then (Enumerators ∷ []) [] past c.in_err-next.ensures.stuck)

pub loop-rest-preserved : goal.loop-rest-preserved
loop-rest-preserved c =
    let h = c.loop-rest.invariant in
    let next = c.in_ok-next in
    let pushed = c.in_ok-push-2.ensures.items in
    let on = read_on h.read (more_enumerators c.in_default.ensures.none) in
    let past = read_then (Token marks.Comma ∷ []) (Enumerators ∷ []) on c.in_ok-rest.ensures.read in
    record {
      read = read_as (enumerators_more c.loop-rest.members.items next.next _ pushed h.some)
          (read_then (Enumerators ∷ []) [] past next.ensures.read);
      some = has_pushed view_enumerator c.loop-rest.members.items next.next _ pushed;
    }
