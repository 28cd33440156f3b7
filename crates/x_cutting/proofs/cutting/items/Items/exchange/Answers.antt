use Rattle.std.proofs.Common.{◌≡◌, length, sym, ap, subst, ◌∙◌, arith, refl}
use Rattle.std.specs.Prelude.{IfSome, slice_get, slice_set}
use Rattle.x_cutting.specs.declared.cutting.item_entry.ItemEntry.{ItemEntry}
use Rattle.x_cutting.specs.ItemList.{AreOfText, byte_counts, counts, kept, total}
use Rattle.x_cutting.proofs.CountLemmas.{total_as, counts_set, bytes_same, kept_set, kept_get}
use Rattle.x_cutting.proofs.cutting.items.Items.exchange.Goals as goal
use Rattle.x_cutting.proofs.cutting.items.Items.exchange.Goals.{After-in_place_of-entry}

-- each item has as many tokens as before
same_counts : (g : _) (c : After-in_place_of-entry g)
    → counts (slice_set c.self.inside.entries.list c.args.index c.in_place_of-entry.result)
    ≡ counts c.self.inside.entries.list
same_counts g c =
    counts_set c.self.inside.entries.list c.args.index c.in_place_of-entry.result (let lt = c.requires in
    let e = ap (λ v. length v.list) c.self.view_is in omega (arith, lt, e))
    (subst (λ o. IfSome o (λ (e : ItemEntry g.row.K.Denot). c.in_place_of-entry.result.tokens ≡ e.tokens))
    c.get.ensures c.in_place_of-entry.ensures.tokens)

pub exchange-out-requires-clause-short : goal.exchange-out-requires-clause-short
exchange-out-requires-clause-short g c =
    let all = slice_set c.self.inside.entries.list c.args.index c.in_place_of-entry.result in
    let sums = total_as all all refl in
    let same = ap total
    (same_counts g (goal.at.exchange-out-requires-clause-short g c).After-in_place_of-entry) in
    let short = c.self.invariant.short in
    omega (arith, sums, same, short)

pub invariant_of-self : goal.invariant_of-self
invariant_of-self g c =
    subst AreOfText (sym (same_counts g (goal.at.invariant_of-self g c).After-in_place_of-entry)
    ∙ sym (ap counts c.exchange-out.ensures.list)) c.self.invariant

pub returns-clause-out : goal.returns-clause-out
returns-clause-out g c =
    kept_get c.args.self.now.list c.args.index c.exchange-out.result.0
    (ap (λ v. slice_get v.list c.args.index) (sym c.self.view_is) ∙ c.exchange-out.ensures.out)

pub returns-clause-counts : goal.returns-clause-counts
returns-clause-counts g c =
    ap counts c.exchange-out.ensures.list
    ∙ same_counts g (goal.at.returns-clause-counts g c).After-in_place_of-entry
    ∙ ap (λ v. counts v.list) c.self.view_is

pub returns-clause-bytes : goal.returns-clause-bytes
returns-clause-bytes g c =
    ap byte_counts c.exchange-out.ensures.list
    ∙ bytes_same c.self.inside.entries.list c.args.index c.in_place_of-entry.result (let lt = c.requires in
    let e = ap (λ v. length v.list) c.self.view_is in omega (arith, lt, e))
    (subst (λ o. IfSome o (λ (e : ItemEntry g.row.K.Denot). c.in_place_of-entry.result.bytes ≡ e.bytes))
    c.get.ensures c.in_place_of-entry.ensures.bytes)
    ∙ ap (λ v. byte_counts v.list) c.self.view_is

pub returns-clause-kept : goal.returns-clause-kept
returns-clause-kept g c =
    ap kept c.exchange-out.ensures.list
    ∙ kept_set c.self.inside.entries.list c.args.index c.in_place_of-entry.result
    ∙ ap (λ v. slice_set (kept v.list) c.args.index c.in_place_of-entry.result.kept) c.self.view_is
    ∙ ap (λ k. slice_set (kept c.args.self.now.list) c.args.index k) c.in_place_of-entry.ensures.kept
