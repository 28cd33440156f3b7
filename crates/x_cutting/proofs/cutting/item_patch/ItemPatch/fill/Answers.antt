use Rattle.std.proofs.Common.{◌≡◌, length, ap, subst, ◌∙◌, arith}
use Rattle.std.specs.Prelude.{IfSome, slice_set}
use Rattle.x_cutting.specs.declared.cutting.item_entry.ItemEntry.{ItemEntry}
use Rattle.x_cutting.specs.ItemList.{byte_counts, counts, kept}
use Rattle.x_cutting.proofs.CountLemmas.{counts_set, bytes_set, kept_set}
use Rattle.x_cutting.proofs.cutting.item_patch.ItemPatch.fill.Goals as goal

pub returns-clause-counts : goal.returns-clause-counts
returns-clause-counts g c =
    let f : ItemEntry g.row.K.Denot =
    record {
      tokens = c.in_place_of-filled.result.tokens;
      bytes = c.args.bytes;
      kept = c.in_place_of-filled.result.kept;
    } in
    let same = subst (λ o. IfSome o (λ (e : ItemEntry g.row.K.Denot). f.tokens ≡ e.tokens)) c.get.ensures
    c.in_place_of-filled.ensures.tokens in
    ap (λ p. counts p.fresh) c.exchange.ensures.put
    ∙ counts_set c.self.inside.entries.fresh c.args.index f (let lt = c.requires in
    let e = ap (λ v. length v.fresh) c.self.view_is in omega (arith, lt, e)) same
    ∙ ap (λ v. counts v.fresh) c.self.view_is

pub returns-clause-bytes : goal.returns-clause-bytes
returns-clause-bytes g c =
    let f : ItemEntry g.row.K.Denot =
    record {
      tokens = c.in_place_of-filled.result.tokens;
      bytes = c.args.bytes;
      kept = c.in_place_of-filled.result.kept;
    } in
    ap (λ p. byte_counts p.fresh) c.exchange.ensures.put
    ∙ bytes_set c.self.inside.entries.fresh c.args.index f
    ∙ ap (λ v. slice_set (byte_counts v.fresh) c.args.index c.args.bytes) c.self.view_is

pub returns-clause-kept : goal.returns-clause-kept
returns-clause-kept g c =
    let f : ItemEntry g.row.K.Denot =
    record {
      tokens = c.in_place_of-filled.result.tokens;
      bytes = c.args.bytes;
      kept = c.in_place_of-filled.result.kept;
    } in
    ap (λ p. kept p.fresh) c.exchange.ensures.put
    ∙ kept_set c.self.inside.entries.fresh c.args.index f
    ∙ ap (λ v. slice_set (kept v.fresh) c.args.index c.in_place_of-filled.result.kept) c.self.view_is
    ∙ ap (λ k. slice_set (kept c.args.self.now.fresh) c.args.index k) c.in_place_of-filled.ensures.kept
