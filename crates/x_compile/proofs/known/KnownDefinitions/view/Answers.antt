use Rattle.std.proofs.Common.{◌≡◌, sym, ap, subst, ◌∙◌}
use Rattle.std.specs.Prelude.{Option, option_map}
use Rattle.std.specs.Option.{option_map_or}
use Rattle.x_rules.specs.Results.{result_at}
use Rattle.x_rules.specs.RustViews.{view_view}
use Rattle.x_compile.specs.Known.{KnownText, known_names, names_known, nothing_known}
use Rattle.x_compile.specs.KnownItems.{known_text}
use Rattle.x_compile.specs.declared.known.KnownItems.{KnownItems}
use Rattle.x_compile.specs.KeptView.{entry_results}
use Rattle.x_compile.proofs.KnownLemmas.{definitions_known}
use Rattle.x_compile.proofs.known.KnownDefinitions.view.Goals as goal

-- what is seen where these items are kept, or nothing
abbrev seen : Option KnownItems → KnownText
seen o = option_map_or (λ i. known_text i.items.entries.list) o nothing_known

pub returns : goal.returns
returns c =
    let es = c.in_ok-as_ref.field-0.now.items.entries.list in
    let name = c.args.name.now in
    subst (λ k. option_map view_view c.view.result ≡ known_names k name) c.self.view_is
    (subst (λ o. option_map view_view c.view.result ≡ known_names (seen o) name) c.in_ok-as_ref.ensures.value
    (c.view.ensures ∙ ap (λ ds. names_known ds (result_at (entry_results es)) name)
    (sym (definitions_known es))))
