use Rattle.std.proofs.Common.{◌+◌, sym, subst}
use Rattle.std.specs.Prelude.{All}
use Rattle.std.proofs.lemmas.List.Elements.{All-push}
use Rattle.std.proofs.lemmas.Result.{IfOk-weaker}
use Rattle.x_lex.specs.Places.{lexeme, lexemes}
use Rattle.x_cutting.specs.declared.cutting.item_entry.ItemEntry.{ItemEntry}
use Rattle.x_cutting.specs.Items.{IsCut}
use Rattle.x_cutting.specs.ItemList.{counts}
use Rattle.x_cutting.proofs.CutRun.{cutting_end, cutting_all, cutting_fits, counts_pushed}
use Rattle.x_cutting.proofs.cutting.cut.cut.Goals as goal

pub loop-token-preserved-then-ends : goal.loop-token-preserved-then-ends
loop-token-preserved-then-ends g c =
    let all = lexemes c.args.source.now c.args.tokens.now.list in
    record {
      cutting = cutting_end all c.loop-token.token-iterator c.next.new.self
          (counts c.loop-token.entries.items) (counts c.push.new.self.items) c.loop-token.cutter
          c.loop-token.count c.ends.new.self (lexeme c.in-Some.token) c.ends.result
          c.in-Some.ensures.steps c.ends.ensures.ends c.ends.ensures.moved c.if-ends.true
          (counts_pushed c.loop-token.entries.items c.push.new.self.items c.new.result
          (c.loop-token.count + 1) c.in_ok-push.ensures.items c.new.ensures.tokens)
          c.loop-token.invariant.cutting;
      small = c.loop-token.invariant.small;
      blank = subst (λ l. All (λ (item : ItemEntry g.row.K.Denot). g.K.Default.is_default item.kept) l)
          (sym c.in_ok-push.ensures.items)
          (All-push (λ (item : ItemEntry g.row.K.Denot). g.K.Default.is_default item.kept)
          c.loop-token.entries.items c.new.result c.loop-token.invariant.blank c.new.ensures.blank);
    }

pub from_entries-requires : goal.from_entries-requires
from_entries-requires g c =
    let all = lexemes c.args.source.now c.args.tokens.now.list in
    record {
      of_text = cutting_fits all c.loop-token.token-iterator (counts c.loop-token.entries.items)
          (counts c.push-2.new.self.items) c.loop-token.cutter c.loop-token.count c.in-None.ensures.steps.0
          (counts_pushed c.loop-token.entries.items c.push-2.new.self.items c.new-2.result c.loop-token.count
          c.in_ok-push-2.ensures.items c.new-2.ensures.tokens)
          c.loop-token.invariant.cutting c.loop-token.invariant.small;
    }

pub returns-clause-cut : goal.returns-clause-cut
returns-clause-cut g c =
    let all = lexemes c.args.source.now c.args.tokens.now.list in
    let cut : IsCut all (counts c.push-2.new.self.items) =
    cutting_all all c.loop-token.token-iterator (counts c.loop-token.entries.items)
    (counts c.push-2.new.self.items) c.loop-token.cutter c.loop-token.count c.in-None.ensures.steps.0
    (counts_pushed c.loop-token.entries.items c.push-2.new.self.items c.new-2.result c.loop-token.count
    c.in_ok-push-2.ensures.items c.new-2.ensures.tokens)
    c.loop-token.invariant.cutting in
    IfOk-weaker c.from_entries.result _ _ (λ items is. subst (λ l. IsCut all (counts l)) (sym is) cut)
    c.from_entries.ensures.list

pub returns-clause-blank : goal.returns-clause-blank
returns-clause-blank g c =
    let blank : All (λ (item : ItemEntry g.row.K.Denot). g.K.Default.is_default item.kept)
    c.push-2.new.self.items =
    subst (λ l. All (λ (item : ItemEntry g.row.K.Denot). g.K.Default.is_default item.kept) l)
    (sym c.in_ok-push-2.ensures.items)
    (All-push (λ (item : ItemEntry g.row.K.Denot). g.K.Default.is_default item.kept)
    c.loop-token.entries.items c.new-2.result c.loop-token.invariant.blank c.new-2.ensures.blank) in
    IfOk-weaker c.from_entries.result _ _
    (λ items is. subst (λ l. All (λ (item : ItemEntry g.row.K.Denot). g.K.Default.is_default item.kept) l)
    (sym is) blank) c.from_entries.ensures.list
