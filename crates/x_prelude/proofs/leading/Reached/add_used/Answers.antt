use Rattle.std.proofs.Common.{◌≡◌, ℕ, ◌+◌, arith, length, map, subst, sym, take, ◌∙◌}
use Rattle.std.proofs.lemmas.List.{take_all}
use Rattle.x_trees.specs.Collected.{view_mention}
use Rattle.x_names.specs.DeclarerTable.{first_in}
use Rattle.x_prelude.specs.Leading.{declaring_all}
use Rattle.x_prelude.specs.Reaching.{AreReached, GoesOnTo}
use Rattle.x_prelude.specs.declared.leading.Reached.{Reached}
use Rattle.x_prelude.proofs.LeadingLemmas.{goes_more, goes_same}
use Rattle.x_prelude.proofs.leading.Reached.add_used.Goals as goal
use Rattle.x_prelude.proofs.leading.Reached.add_used.Goals.{in-Some+in_ok-add, in_default}

pub loop-mention-preserved : goal.loop-mention-preserved
loop-mention-preserved c =
    let first = first_in c.args.names.now in
    let ms = c.args.mentions.now in
    let i = c.loop-mention.mention-index in
    let had = c.loop-mention.invariant in
    let Reaches : Reached → Type 0 = λ s. record {
      counted : length s.marks.items ≡ length c.args.self.now.marks.items;
      on : (count : ℕ) → AreReached count c.args.self.now → GoesOnTo (declaring_all first
          (map view_mention (take (i + 1) ms))) count c.args.self.now s;
    } in
    elim c.match-first.branch [
      | in-Some+in_ok-add w ↦ subst (λ s. Reaches s) (sym w.self-is) (record {
        counted = w.add.ensures.counted ∙ had.counted;
        on = λ count h.
            let before = had.on count h in
            goes_more first ms i _ count c.args.self.now c.loop-mention.self w.add.new.self c.first.result
            w.in-Some.declarer c.loop-mention-test.true c.first.ensures w.in-Some.is before
            (w.in_ok-add.ensures.on count before.reached);
      })
      | in_default w ↦ subst (λ s. Reaches s) (sym w.self-is) (record {
        counted = had.counted;
        on = λ count h. goes_same first ms i _ count c.args.self.now c.loop-mention.self c.first.result
            c.loop-mention-test.true c.first.ensures w.in_default.is (had.on count h);
      })
    ]

pub returns : goal.returns
returns c count h =
    let first = first_in c.args.names.now in
    subst (λ l. GoesOnTo (declaring_all first (map view_mention l)) count c.args.self.now c.loop-mention.self)
    (take_all c.loop-mention.mention-index c.args.mentions.now (omega (arith, c.loop-mention-test.false)))
    (c.loop-mention.invariant.on count h)
