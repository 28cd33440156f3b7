use Rattle.std.proofs.Common.{◌++◌, ◌∙◌, [], append-nil, append_assoc, map, sym, ap, subst, refl}
use Rattle.std.specs.Prelude.{option_map}
use Rattle.std.specs.Option.{option_to_list}
use Rattle.std.proofs.lemmas.List.{take_all}
use Rattle.x_warnings.specs.Warnings.{view_warning}
use Rattle.x_warnings.specs.declared.warning.Warning as rust
use Rattle.x_published.specs.Published.{data_of}
use Rattle.x_published.specs.Warned.{AreWarned, IsWarnedAt}
use Rattle.x_documents.proofs.WarnedLemmas.{warned_more}
use Rattle.x_documents.proofs.warned_names.add_found.Goals as goal

pub loop-warning-init : goal.loop-warning-init
loop-warning-init c = ([], refl, sym (append-nil (map data_of c.args.list.now.items)))

pub loop-warning-preserved : goal.loop-warning-preserved
loop-warning-preserved c =
    let client = c.args.client in
    let uri = c.args.uri.now in
    let shown = c.args.shown.now in
    let text = c.args.text.now in
    let inv = c.loop-warning.invariant in
    let w = c.warning-item.result in
    let here = option_to_list (option_map data_of c.in_ok-diagnostic.diagnostic) in (
      inv.0 ++ here,
      warned_more client uri shown text c.args.found.now c.loop-warning.warning-index w inv.0 here
          c.loop-warning-test.true inv.1
          (subst (λ (v : rust.Warning). IsWarnedAt client uri shown text (view_warning v) v.spot here)
          c.warning-item.is c.in_ok-diagnostic.ensures),
      c.in_ok-add_some.ensures ∙ ap (λ l. l ++ here) inv.2
          ∙ append_assoc (map data_of c.args.list.now.items) inv.0 here,
    )

pub returns : goal.returns
returns c =
    let text = c.args.text.now in
    let inv = c.loop-warning.invariant in (
      inv.0,
      subst (λ ws. AreWarned c.args.client c.args.uri.now c.args.shown.now text (map view_warning ws) inv.0)
          (take_all c.loop-warning.warning-index c.args.found.now c.loop-warning-test.false) inv.1,
      inv.2,
    )
