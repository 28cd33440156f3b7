use Rattle.std.proofs.Common.{◌≡◌, map, ap, ◌∙◌}
use Rattle.std.specs.Cow.{cow_slice_items}
use Rattle.x_compile.specs.Compile.{definitions_of}
use Rattle.x_explain.specs.Suggestions.{compared, suggested}
use Rattle.x_session.proofs.DeclaredLemmas.{of_each}
use Rattle.x_explain.proofs.suggestions.Suggestions.of.Goals as goal

pub returns : goal.returns
returns c =
    let text = c.args.session.now.text in
    let f = c.in_ok-found.ensures in
    let named : map cow_slice_items c.deref.result.now ≡ compared (definitions_of f.1) =
    ap (map cow_slice_items) c.deref.ensures.value ∙ of_each text c.in_ok-names.ensures f.0 f.1 f.2 in (
      f.0,
      f.1,
      f.2,
      record {
        found = c.in_ok-found.found.items;
        are_found = f.3;
        list_is = c.in_ok-list.ensures
            ∙ (λ i. map (suggested (c.bytes.ensures i) (named i)) (c.deref-2.ensures.value i));
      },
    )
