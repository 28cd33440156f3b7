use Rattle.std.proofs.Common.{ap, refl, sym, subst, ◌∙◌}
use Rattle.x_text.specs.Edits.{change_of}
use Rattle.x_lists.specs.Seqs.{Gapped}
use Rattle.x_lex.specs.Places.{lexemes}
use Rattle.x_lex.specs.TokenList as tokens
use Rattle.x_cutting.specs.ItemList.{AreOfText, counts}
use Rattle.x_cutting.specs.ItemList as items
use Rattle.x_cutting.specs.Recut.{IsItemPatch, IsRelexed}
use Rattle.x_cutting.specs.declared.cutting.item_entry.ItemEntry.{ItemEntry}
use Rattle.x_compile.specs.Known.{known_names}
use Rattle.x_compile.specs.Counting.{faults_found}
use Rattle.x_follow.specs.Following.{AreFollowed, AreStaleChecked, IsNameChange, behind}
use Rattle.x_compile.specs.KeptView.{AreParsed}
use Rattle.x_follow.specs.Planned.{ArePlanned}
use Rattle.x_compile.specs.declared.content.Content.{Content}
use Rattle.x_compile.proofs.AlongLemmas.{cut_of}
use Rattle.x_follow.proofs.StaleLemmas.{short_behind, short_fresh}
use Rattle.x_follow.proofs.TableLemmas.{table_same}
use Rattle.x_follow.proofs.planning.plan_edit.Goals as goal

pub next_items-requires : goal.next_items-requires
next_items-requires c =
    let change = change_of c.args.old.now c.args.edit.now in
    let ts = c.args.tokens.now.list in
    let es = c.args.items.now.entries.list in
    let patch = c.in_ok-patch.patch in
    subst (λ l. AreFollowed c.args.new.now l es patch) (sym c.in_ok-patch.ensures.list)
    (record {
      change = change;
      relexed = record {
        within = c.requires.within;
        edited = c.requires.edited;
        tokens = c.requires.are_tokens;
        items = cut_of (lexemes c.args.old.now ts) es c.requires.parsed;
        patch = c.in_ok-patch.ensures.patch;
      };
      parsed = c.requires.parsed;
      behind = c.in_ok-patch.ensures.behind;
    })

pub plan_checks-requires-clause-short : goal.plan_checks-requires-clause-short
plan_checks-requires-clause-short c =
    let es = c.args.items.now.entries.list in
    let fresh = c.in_ok-fresh.fresh in
    short_fresh es fresh c.in_ok-fresh.ensures.among
    (short_behind c.args.new.now c.args.tokens.now.list c.next_tokens.new.tokens.list c.in_ok-patch.patch
    (items.patched es fresh) c.in_ok-patch.ensures.list c.in_ok-patch.ensures.of_text
    c.in_ok-fresh.ensures.parsed)

pub plan_checks-requires-clause-checked : goal.plan_checks-requires-clause-checked
plan_checks-requires-clause-checked c =
    table_same (known_names c.args.known.now) c.args.items.now
    (record c.args.items.now { entries = c.next_items.new.items }) c.requires.checked
    c.in_ok-fresh.ensures.list refl c.requires.checked.uses

pub faults_behind-requires-clause-planned : goal.faults_behind-requires-clause-planned
faults_behind-requires-clause-planned c =
    subst (ArePlanned (items.kept (items.patched c.plan_checks.new.items.entries.list c.in_ok-fresh.fresh)))
    (sym c.deref.ensures.value) c.in_ok-checks.ensures.stale.planned

pub returns-clause-plan : goal.returns-clause-plan
returns-clause-plan c =
    let change = change_of c.args.old.now c.args.edit.now in
    let es = c.args.items.now.entries.list in
    let patch = c.in_ok-patch.patch in
    let fresh = c.in_ok-fresh.fresh in
    let ts = c.next_tokens.new.tokens.list in
    let list = c.in_ok-patch.ensures.list in
    let same = ap (λ (g : Gapped (ItemEntry Content)). g.list) c.in_ok-checks.ensures.entries
    ∙ c.in_ok-fresh.ensures.list in
    let rel : IsRelexed change c.args.new.now ts (counts es) patch =
    subst (λ l. IsRelexed change c.args.new.now l (counts es) patch) (sym list) (record {
      within = c.requires.within;
      edited = c.requires.edited;
      tokens = c.requires.are_tokens;
      items = cut_of (lexemes c.args.old.now c.args.tokens.now.list) es c.requires.parsed;
      patch = c.in_ok-patch.ensures.patch;
    }) in
    record {
      patch = c.in_ok-patch.ensures.patch;
      recut = subst (λ l. IsItemPatch change l (tokens.patched l patch) es fresh) list
          (c.in_ok-fresh.ensures.recut change rel);
      parsed = subst (λ text. AreParsed (lexemes text (tokens.patched c.args.tokens.now.list patch))
          (items.patched es fresh)) c.requires.edited
          (subst (λ l. AreParsed (lexemes c.args.new.now (tokens.patched l patch)) (items.patched es fresh))
          list c.in_ok-fresh.ensures.parsed);
      short = short_behind c.args.new.now c.args.tokens.now.list ts patch (items.patched es fresh) list
          c.in_ok-patch.ensures.of_text c.in_ok-fresh.ensures.parsed;
      checked = subst (λ l. AreStaleChecked (known_names c.args.known.now) l fresh
          c.in_ok-checks.checks.found.items) same c.in_ok-checks.ensures.stale;
      count = c.in_ok-faults.ensures
          ∙ (λ i. faults_found (items.kept (items.patched (same i) fresh))
          (behind (same i) fresh (c.deref.ensures.value i)));
    }

pub returns-clause-room : goal.returns-clause-room
returns-clause-room c =
    let patch = c.in_ok-patch.patch in
    let fresh = c.in_ok-fresh.fresh in
    let same = ap (λ (g : Gapped (ItemEntry Content)). g.list) c.in_ok-checks.ensures.entries
    ∙ c.in_ok-fresh.ensures.list in
    let names = ap (λ (g : Gapped (ItemEntry Content)). g.list) c.in_ok-checks.ensures.entries in
    record {
      tokens_among = subst (λ l. tokens.LiesAmong l patch) (sym c.in_ok-patch.ensures.list)
          c.in_ok-patch.ensures.patch.among;
      token_room = c.in_ok-patch.ensures.room;
      tokens_of_text = subst (λ l. tokens.IsOfText (tokens.patched l patch)) (sym c.in_ok-patch.ensures.list)
          c.in_ok-patch.ensures.of_text;
      items = record {
        among = subst (λ l. items.LiesAmong l fresh) (sym same) c.in_ok-fresh.ensures.among;
        room = subst (λ g. items.HasRoom g fresh) (sym c.in_ok-checks.ensures.entries)
            c.in_ok-fresh.ensures.room;
        of_text = subst (λ l. AreOfText (counts (items.patched l fresh)))
            (sym same) c.in_ok-fresh.ensures.of_text;
      };
      planned = c.in_ok-checks.ensures.stale.planned;
      ascending = c.in_ok-checks.ensures.stale.stale.ascend;
      names = subst (λ l. IsNameChange l fresh c.in_ok-checks.checks.names)
          (sym names) c.in_ok-checks.ensures.change;
      name_room = c.in_ok-checks.ensures.room;
    }
