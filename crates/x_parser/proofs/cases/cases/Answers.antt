use Rattle.std.proofs.Common.{ℕ, [], ◌∷◌, ap, map, refl}
use Rattle.x_trees.specs.Words.{Fixed}
use Rattle.x_lex.specs.declared.mark.Mark.TheVariants as marks
use Rattle.x_parser.specs.Symbols.{AnyValue, Token, AfterCase}
use Rattle.x_trees.specs.View.{view_value}
use Rattle.x_trees.specs.Spell.{spell_cases}
use Rattle.x_parser.specs.Reading.{Fails}
use Rattle.x_parser.proofs.ReadLemmas.{exit_at, fails_more, fails_then, read_as, read_on, read_then}
use Rattle.x_parser.proofs.ReadLemmas.{read_more, read_after_word, read_first}
use Rattle.x_parser.proofs.LoopLemmas.{one_only, has_pushed, cases_one, cases_more, no_case}
use Rattle.x_parser.proofs.cases.cases.Goals as goal

pub returns-in_err-first_case-clause-stuck : goal.returns-in_err-first_case-clause-stuck
returns-in_err-first_case-clause-stuck c =
    exit_at (λ e. (n : ℕ) → Fails (AnyValue ∷ Token marks.Colon ∷ AfterCase n ∷ []) c.args.tokens.now e) _ _
    c.from_residual.ensures.1
    (λ n. fails_more (AnyValue ∷ Token marks.Colon ∷ []) (AfterCase n ∷ []) c.in_err-first_case.ensures.stuck)

pub loop-rest-init : goal.loop-rest-init
loop-rest-init c =
    let case = c.in_ok-first_case in
    let one = one_only _ _ _ c.new-cases.ensures.items c.in_ok-push.ensures.items in
    record {
      read = λ n. read_as (cases_one case.first_case _ one)
          (read_after_word (Fixed marks.Case)
          (read_more (AnyValue ∷ Token marks.Colon ∷ []) (AfterCase n ∷ []) case.ensures.read));
      some = has_pushed view_value [] case.first_case _ one;
    }

pub returns-clause-read : goal.returns-clause-read
returns-clause-read c = λ n. read_as (ap (λ cases. spell_cases (map view_value cases)) c.fitted.ensures)
    (read_on (c.loop-rest.invariant.read n) (no_case n c.in_default.ensures.none))

pub returns-in_err-next-clause-stuck : goal.returns-in_err-next-clause-stuck
returns-in_err-next-clause-stuck c =
    let read = λ (n : ℕ). read_first {from = AfterCase n ∷ []}
    {to = AnyValue ∷ Token marks.Colon ∷ AfterCase n ∷ []} (Fixed marks.Case) c.in-Some.ensures.some refl
    (λ left code ps ss. refl) in
    exit_at (λ e. (n : ℕ) → Fails (AnyValue ∷ Token marks.Colon ∷ AfterCase n ∷ []) c.args.tokens.now e) _ _
    c.from_residual-in_err-next.ensures.1
    (λ n. fails_then (AnyValue ∷ Token marks.Colon ∷ []) (AfterCase n ∷ [])
    (read_then (AfterCase n ∷ []) [] (c.loop-rest.invariant.read n) (read n)) c.in_err-next.ensures.stuck)

pub loop-rest-preserved : goal.loop-rest-preserved
loop-rest-preserved c =
    let h = c.loop-rest.invariant in
    let next = c.in_ok-next in
    let pushed = c.in_ok-push-2.ensures.items in
    let read = λ (n : ℕ). read_first {from = AfterCase n ∷ []}
    {to = AnyValue ∷ Token marks.Colon ∷ AfterCase n ∷ []} (Fixed marks.Case) c.in-Some.ensures.some refl
    (λ left code ps ss. refl) in
    record {
      read = λ n. read_as (cases_more c.loop-rest.cases.items next.next _ pushed)
          (read_then (AnyValue ∷ Token marks.Colon ∷ []) (AfterCase n ∷ [])
          (read_then (AfterCase n ∷ []) [] (h.read n) (read n)) next.ensures.read);
      some = has_pushed view_value c.loop-rest.cases.items next.next _ pushed;
    }
