use Rattle.std.proofs.Common.{◌≡◌, length, sym, ap, subst, ◌∙◌, arith}
use Rattle.std.specs.Prelude.{IfSome, slice_get, slice_set}
use Rattle.x_cutting.specs.declared.cutting.item_entry.ItemEntry.{ItemEntry}
use Rattle.x_cutting.specs.ItemList.{byte_counts, counts, kept}
use Rattle.x_cutting.proofs.CountLemmas.{counts_set, bytes_same, kept_set, kept_get}
use Rattle.x_cutting.proofs.cutting.item_patch.ItemPatch.exchange.Goals as goal

pub returns-clause-out : goal.returns-clause-out
returns-clause-out g c =
    kept_get c.args.self.now.fresh c.args.index c.exchange.result
    (ap (λ v. slice_get v.fresh c.args.index) (sym c.self.view_is) ∙ c.exchange.ensures.out)

pub returns-clause-counts : goal.returns-clause-counts
returns-clause-counts g c =
    let same =
    subst (λ o. IfSome o (λ (e : ItemEntry g.row.K.Denot). c.in_place_of-entry.result.tokens ≡ e.tokens))
    c.get.ensures c.in_place_of-entry.ensures.tokens in
    ap (λ p. counts p.fresh) c.exchange.ensures.put
    ∙ counts_set c.self.inside.entries.fresh c.args.index c.in_place_of-entry.result (let lt = c.requires in
    let e = ap (λ v. length v.fresh) c.self.view_is in omega (arith, lt, e)) same
    ∙ ap (λ v. counts v.fresh) c.self.view_is

pub returns-clause-bytes : goal.returns-clause-bytes
returns-clause-bytes g c =
    let same =
    subst (λ o. IfSome o (λ (e : ItemEntry g.row.K.Denot). c.in_place_of-entry.result.bytes ≡ e.bytes))
    c.get.ensures c.in_place_of-entry.ensures.bytes in
    ap (λ p. byte_counts p.fresh) c.exchange.ensures.put
    ∙ bytes_same c.self.inside.entries.fresh c.args.index c.in_place_of-entry.result (let lt = c.requires in
    let e = ap (λ v. length v.fresh) c.self.view_is in omega (arith, lt, e)) same
    ∙ ap (λ v. byte_counts v.fresh) c.self.view_is

pub returns-clause-kept : goal.returns-clause-kept
returns-clause-kept g c =
    ap (λ p. kept p.fresh) c.exchange.ensures.put
    ∙ kept_set c.self.inside.entries.fresh c.args.index c.in_place_of-entry.result
    ∙ ap (λ v. slice_set (kept v.fresh) c.args.index c.in_place_of-entry.result.kept) c.self.view_is
    ∙ ap (λ k. slice_set (kept c.args.self.now.fresh) c.args.index k) c.in_place_of-entry.ensures.kept
