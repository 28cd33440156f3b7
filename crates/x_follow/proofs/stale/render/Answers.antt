use Rattle.std.proofs.Common.{◌≡◌, None, Some, option_map, sym, ap, ◌∙◌, refl}
use Rattle.std.specs.Prelude.{slice_get, option_copied}
use Rattle.x_compile.specs.KeptView.{found_pieces, kept_definition, kept_found, pieces_behind}
use Rattle.x_cutting.specs.ItemList.{kept, patched}
use Rattle.x_pieces.specs.Pieces.{Pieces}
use Rattle.x_pieces.specs.Rendering.{pieces_of}
use Rattle.x_compile.specs.Checking.{IsMade, sound_pieces}
use Rattle.x_trees.specs.View.{tree_at, view_definition}
use Rattle.x_compile.specs.declared.content.CheckResult.{CheckResult}
use Rattle.x_follow.proofs.RenderLemmas.{renewed_as}
use Rattle.x_follow.proofs.StaleLemmas.{all_at}
use Rattle.x_follow.proofs.stale.render.Goals as goal

pub returns : goal.returns
returns c =
    let k = c.in-Some.kept.now in
    let d = view_definition c.in-Some-definition.definition.now in
    let found : c.in_ok-new.field-0.value
    ≡ record { checked = c.args.rechecked.checked; pieces = c.in_ok-pieces.pieces } =
    c.in_ok-new.ensures.ok in
    let at : slice_get (kept (patched c.args.items.now.list c.args.patch.now)) c.args.rechecked.item
    ≡ Some k = sym c.kept_behind.ensures ∙ ap option_copied c.in-Some.is in
    let defined : kept_definition k ≡ Some d = sym c.definition.ensures
    ∙ ap tree_at c.in-Some-definition.is in
    let makes : (p : Pieces) → found_pieces (kept_found k) ≡ Some p → Some (pieces_of d) ≡ Some p =
    λ p is. ap (option_map pieces_of) (sym defined)
    ∙ all_at IsMade (kept (patched c.args.items.now.list c.args.patch.now)) c.args.rechecked.item k
    c.requires.made at p is in
    record {
      item_is = refl;
      checked_is = ap (λ (r : CheckResult). r.checked) found;
      planned = record {
        item = k;
        at = at;
        defined = λ none. let e : None ≡ Some d = sym none ∙ defined in absurd (cc);
        rendered =
            (λ i. pieces_behind (found_pieces (kept_found k)) (found i).pieces (found i).checked.faults)
            ∙ renewed_as c.pieces.result (found_pieces (kept_found k)) c.in_ok-pieces.pieces d
            c.args.rechecked.checked.faults c.is_some.result c.pieces.ensures c.is_some.ensures
            c.in_ok-pieces.ensures makes
            ∙ (λ i. sound_pieces (sym defined i) (Some (sym found i).checked));
      };
    }
