use Rattle.std.proofs.Common.{◌≡◌, refl, sym, ap, map, subst, ◌∙◌}
use Rattle.std.specs.Prelude.{option_map}
use Rattle.std.specs.Cow.{cow_slice_items}
use Rattle.std.specs.Map.{lookup}
use Rattle.std.specs.Str.{bytes_eq}
use Rattle.x_names.proofs.NameLemmas.{lookup_put}
use Rattle.x_taken.specs.TakenNames.{taken_in}
use Rattle.x_clash.specs.Clashes.{thing}
use Rattle.x_clash.specs.Firsts.{AreFirsts}
use Rattle.x_clash.specs.Table.{firsts_in}
use Rattle.x_clash.specs.Views.{view_clash, view_given}
use Rattle.x_clash.specs.declared.clash.Rival.TheVariants.{OfText}
use Rattle.x_clash.specs.declared.firsts.Firsts.{Firsts}
use Rattle.x_clash.proofs.SearchLemmas.{met_is, put, told}
use Rattle.x_clash.proofs.search.meet.Goals as goal

pub returns-clause-table : goal.returns-clause-table
returns-clause-table c things has =
    let t = thing c.args.item (view_given c.args.given) in
    let name = cow_slice_items c.args.given.name in
    let old = c.args.table.now.entries in
    let f = c.with-after.result in
    let firsts : c.firsts_in-firsts.result ≡ firsts_in old name =
    rw c.deref.ensures.value at c.firsts_in-firsts.ensures in
    let P : Firsts → Type 0 = λ g. AreFirsts name things g in
    let kept = subst P (sym firsts) (has name) in
    put old c.insert.new.self.entries things t f
    (λ other. ap (lookup (λ key. bytes_eq other (cow_slice_items key))) c.in_ok-insert.ensures.entries
    ∙ lookup_put _ cow_slice_items (λ a b. refl) other old c.args.given.name f)
    (c.with-after.ensures things t refl refl kept) has

pub returns-clause-found : goal.returns-clause-found
returns-clause-found c things has =
    let t = thing c.args.item (view_given c.args.given) in
    let name = cow_slice_items c.args.given.name in
    let old = c.args.table.now.entries in
    let firsts : c.firsts_in-firsts.result ≡ firsts_in old name =
    rw c.deref.ensures.value at c.firsts_in-firsts.ensures in
    let P : Firsts → Type 0 = λ g. AreFirsts name things g in
    let kept = subst P (sym firsts) (has name) in
    told (taken_in c.args.taken.now) things t (map view_clash c.args.found.now.items)
    (map view_clash c.add_clash.new.found.items) (map view_clash c.add_clash-2.new.found.items)
    (map view_clash c.add_clash-3.new.found.items) c.in_ok-of_c.of_c c.twin_of.result c.rival_at.result
    c.in_ok-add_clash.ensures c.in_ok-add_clash-2.ensures c.in_ok-add_clash-3.ensures
    c.in_ok-of_c.ensures c.twin_of.ensures
    (c.rival_at.ensures ∙ ap (option_map OfText)
    (c.met_by-met.ensures ∙ met_is name things c.firsts_in-firsts.result t.given.sort kept))
