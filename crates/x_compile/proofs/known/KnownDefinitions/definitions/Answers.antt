use Rattle.std.proofs.Common.{◌≡◌, map, sym, subst}
use Rattle.std.specs.Prelude.{IfOk, Option}
use Rattle.std.specs.Option.{option_map_or}
use Rattle.x_trees.specs.View.{tree_at}
use Rattle.x_compile.specs.Known.{KnownText, known_definitions, nothing_known}
use Rattle.x_compile.specs.KnownItems.{known_text}
use Rattle.x_compile.specs.declared.known.KnownItems.{KnownItems}
use Rattle.x_compile.proofs.KnownLemmas.{definitions_known}
use Rattle.x_compile.proofs.known.KnownDefinitions.definitions.Goals as goal

-- what is seen where these items are kept, or nothing
abbrev seen : Option KnownItems → KnownText
seen o = option_map_or (λ i. known_text i.items.entries.list) o nothing_known

pub returns-in-Some : goal.returns-in-Some
returns-in-Some c =
    let es = c.in-Some.known.items.entries.list in
    subst (λ k. IfOk c.definitions.result (λ ds. map tree_at ds.items ≡ known_definitions k)) c.self.view_is
    (subst (λ o. IfOk c.definitions.result (λ ds. map tree_at ds.items ≡ known_definitions (seen o)))
    (sym c.in-Some.is)
    (subst (λ l. IfOk c.definitions.result (λ ds. map tree_at ds.items ≡ l)) (sym (definitions_known es))
    c.definitions.ensures))
