use Rattle.std.proofs.Common.{◌≡◌, sym, ap, subst, ◌∙◌}
use Rattle.x_text.specs.Edits.{change_of}
use Rattle.x_lex.specs.TokenList as tokens
use Rattle.x_lex.specs.Places.{lexemes}
use Rattle.x_cutting.specs.Items.{IsCut}
use Rattle.x_cutting.specs.ItemList.{counts, patched, LiesAmong}
use Rattle.x_cutting.specs.Recut.{IsRelexed}
use Rattle.rows.proofs.kept.follow.Goals as goal

pub recut-requires : goal.recut-requires
recut-requires c = record {
  change = change_of c.args.old.now c.args.edit.now;
  relexed = record {
    within = c.requires.within;
    edited = c.requires.edited;
    tokens = c.requires.tokens;
    items = c.requires.items;
    patch = c.in_ok-patch.ensures.patch;
  };
}

pub put-moved_items-requires-clause-among : goal.put-moved_items-requires-clause-among
put-moved_items-requires-clause-among c = subst (λ l. LiesAmong l c.in_ok-fresh.fresh)
    (sym c.in_ok-reserve-2.ensures.list) c.in_ok-fresh.ensures.among

pub returns-clause-items : goal.returns-clause-items
returns-clause-items c =
    let change = change_of c.args.old.now c.args.edit.now in
    let relexed : IsRelexed change c.args.new.now c.args.tokens.now.list (counts c.args.items.now.list)
    c.in_ok-patch.patch =
    record {
      within = c.requires.within;
      edited = c.requires.edited;
      tokens = c.requires.tokens;
      items = c.requires.items;
      patch = c.in_ok-patch.ensures.patch;
    } in
    let cut = subst (λ text. IsCut (lexemes text (tokens.patched c.args.tokens.now.list c.in_ok-patch.patch))
    (counts (patched c.args.items.now.list c.in_ok-fresh.fresh))) (sym c.requires.edited)
    (c.in_ok-fresh.ensures.patch change relexed).cut in
    let new_tokens : tokens.patched c.args.tokens.now.list c.in_ok-patch.patch
    ≡ c.put-moved_tokens.new.self.list = ap (λ l. tokens.patched l c.in_ok-patch.patch)
    (sym c.in_ok-reserve.ensures.list) ∙ sym c.put-moved_tokens.ensures.list in
    let new_items : patched c.args.items.now.list c.in_ok-fresh.fresh ≡ c.put-moved_items.new.self.list =
    ap (λ l. patched l c.in_ok-fresh.fresh) (sym c.in_ok-reserve-2.ensures.list)
    ∙ sym c.put-moved_items.ensures.list in
    subst (λ l. IsCut (lexemes c.args.new.now l) (counts c.put-moved_items.new.self.list)) new_tokens
    (subst (λ l. IsCut (lexemes c.args.new.now (tokens.patched c.args.tokens.now.list c.in_ok-patch.patch))
    (counts l)) new_items cut)
