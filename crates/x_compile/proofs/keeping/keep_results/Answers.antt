use Rattle.std.proofs.Common.{◌≡◌, length, refl, sym, ap, subst, ◌∙◌}
use Rattle.x_compile.specs.KeptView.{IsWith, kept_definition}
use Rattle.x_cutting.specs.declared.cutting.item_entry.ItemEntry.{ItemEntry}
use Rattle.x_compile.specs.declared.content.Content.{Content}
use Rattle.x_compile.proofs.KeepingLemmas.{kept_none, kept_more, last_item, last_known, last_is}
use Rattle.x_compile.proofs.keeping.keep_results.Goals as goal

pub loop-found-init : goal.loop-found-init
loop-found-init c = kept_none c.args.entries.now.items c.args.results.items c.requires

pub keep-requires : goal.keep-requires
keep-requires c none =
    let before = c.loop-found.results.items in
    let rs = c.pop.new.self.items in
    let last = last_item c.args.entries.now.items c.args.results.items c.loop-found.entries.items before rs
    c.in-Some.found c.in-Some.ensures.items c.loop-found.invariant in
    let at : c.len.result ≡ length rs = c.len.ensures ∙ c.pop.new.self.ok.0 in
    let is = last_is c.args.entries.now.items c.args.results.items c.loop-found.entries.items rs
    c.in-Some.found last c.len.result c.index_mut.result.now at c.index_mut.ensures.value in
    last_known c.args.entries.now.items c.args.results.items c.loop-found.entries.items rs c.in-Some.found
    last c.requires
    (sym (ap (λ (e : ItemEntry Content). kept_definition e.kept) is) ∙ none)

pub loop-found-preserved : goal.loop-found-preserved
loop-found-preserved c =
    let before = c.loop-found.results.items in
    let rs = c.pop.new.self.items in
    let last = last_item c.args.entries.now.items c.args.results.items c.loop-found.entries.items before rs
    c.in-Some.found c.in-Some.ensures.items c.loop-found.invariant in
    let at : c.len.result ≡ length rs = c.len.ensures ∙ c.pop.new.self.ok.0 in
    let is = last_is c.args.entries.now.items c.args.results.items c.loop-found.entries.items rs
    c.in-Some.found last c.len.result c.index_mut.result.now at c.index_mut.ensures.value in
    let f : ItemEntry Content =
    record {
      tokens = c.index_mut.result.now.tokens;
      bytes = c.index_mut.result.now.bytes;
      kept = c.keep.new.self;
    } in
    let now : IsWith c.index_mut.result.now c.in-Some.found f = record {
      tokens = refl;
      bytes = refl;
      parse = c.keep.ensures.parse;
      lines = c.keep.ensures.lines;
      result = c.keep.ensures.result;
      pieces = c.keep.ensures.pieces;
      marked = c.keep.ensures.marked;
    } in
    kept_more c.args.entries.now.items c.args.results.items c.loop-found.entries.items _ rs c.in-Some.found
    c.len.result f last at refl
    (subst (λ e. IsWith e c.in-Some.found f) is now)
