use Rattle.std.proofs.Common.{◌∙◌, Some, [], map, ap, subst, w64}
use Rattle.std.proofs.lemmas.Int.{to_z-of_z}
use Rattle.serde_json.specs.Data.{number}
use Rattle.serde_json.specs.Find.{of_integer}
use Rattle.serde_json.proofs.FreeTexts.{text_of_value}
use Rattle.serde_json.specs.Events.{SendsValue}
use Rattle.x_published.specs.Diagnostics.{published_data, published_with}
use Rattle.x_published.specs.Published.{data_of}
use Rattle.x_published.proofs.WritingLemmas.{plain_published}
use Rattle.x_published.proofs.published.published_text.Goals as goal

pub returns-in-Ok : goal.returns-in-Ok
returns-in-Ok c =
    let list = c.args.list.items in
    let h = c.in-Ok.ensures.events in
    let version = c.version_value.ensures ∙ ap (λ z. number (of_integer z))
    (to_z-of_z w64 c.args.version c.ranges.version) in
    let sent = subst (λ d. SendsValue (published_with c.args.uri.now d (map data_of list))
    (Some []) h.0) version h.1 in
    text_of_value (published_data c.args.uri.now c.args.version
    (map data_of list)) h.0 c.in-Ok.text.items sent h.2
    (plain_published c.args.uri.now c.args.version list)
