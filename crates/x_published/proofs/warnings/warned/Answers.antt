use Rattle.std.proofs.Common.{◌≡◌, ◌∙◌, ◌∷◌, [], ap, refl, subst, sym}
use Rattle.x_positions.specs.Positions.{position_of}
use Rattle.x_positions.specs.PositionData.{range_data}
use Rattle.x_published.specs.declared.published.Diagnostic.{Diagnostic}
use Rattle.x_published.specs.declared.published.Message.TheVariants.{Plain}
use Rattle.x_published.specs.declared.published.Severity.TheVariants as severity
use Rattle.x_published.specs.Diagnostics.{IsRangeAt, plain_data}
use Rattle.x_published.specs.Published.{data_of}
use Rattle.x_published.specs.Warned.{IsWarnedAt, IsWarning}
use Rattle.x_warnings.specs.Warnings.{view_warning}
use Rattle.x_published.proofs.warnings.warned.Goals as goal

pub returns : goal.returns
returns c =
    let client = c.args.client in
    let e = client.encoding in
    let uri = c.args.uri.now in
    let shown = c.args.shown.now in
    let text = c.args.text.now in
    let w = view_warning c.args.warning.now in
    let spot = c.in-Some.spot in
    let made : Diagnostic = record {
      severity = severity.Warning;
      message = Plain c.in_ok-warning_text.field-0;
      range = c.range.result;
      related = c.place_of.result;
    } in
    let first : c.range.result.start ≡ position_of e shown spot.start =
    c.range.ensures.start ∙ ap (λ v. position_of v shown spot.start) c.requires.encoding in
    let last : c.range.result.end ≡ position_of e shown c.token_end.result =
    c.range.ensures.end ∙ ap (λ v. position_of v shown c.token_end.result) c.requires.encoding in
    let is : IsWarning client uri shown text w spot.start (data_of made) = record {
      end = c.token_end.result;
      other = c.range_at.result;
      token = c.token_end.ensures;
      other_is = subst (λ o. IsRangeAt e shown text o c.range_at.result) c.shown_start-start.ensures
          (subst (λ v. IsRangeAt v shown text c.shown_start-start.result c.range_at.result)
          c.requires.encoding c.range_at.ensures);
      data_is = λ i. plain_data severity.Warning (range_data (first i) (last i))
          (c.in_ok-warning_text.ensures i) (c.place_of.ensures i);
    } in
    subst (λ o. IsWarnedAt client uri shown text w o (data_of made ∷ [])) (sym c.in-Some.is)
    (data_of made, refl, is)
