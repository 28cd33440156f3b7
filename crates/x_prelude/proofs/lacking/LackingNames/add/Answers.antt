use Rattle.std.proofs.Common.{◌+◌, ◌++◌, map, take, sym, subst, ◌∙◌}
use Rattle.std.specs.List.{filter}
use Rattle.x_names.specs.DeclarerTable.{first_in}
use Rattle.x_compile.specs.Known.{known_names}
use Rattle.x_prelude.specs.Lacking.{Occurrence, is_lacking, name_of}
use Rattle.x_prelude.specs.LackingTable.{HasNames, occurrence}
use Rattle.x_prelude.proofs.FirstLemmas.{has_none_passed, has_passed}
use Rattle.x_prelude.proofs.lacking.LackingNames.add.Goals as goal
use Rattle.x_prelude.proofs.lacking.LackingNames.add.Goals.{then-is_lacking+in_ok-note, else-is_lacking}

pub loop-mention-preserved : goal.loop-mention-preserved
loop-mention-preserved c before h =
    let known = known_names c.args.known.now in
    let first = first_in c.args.names.now in
    let ms = c.args.mentions.now in
    let item = c.args.item in
    let i = c.loop-mention.mention-index in
    let lack = λ (o : Occurrence). is_lacking known first (name_of o) in
    let had = c.loop-mention.invariant before h in
    elim c.if-is_lacking.branch [
      | then-is_lacking+in_ok-note w ↦
          subst (λ t. HasNames t (filter lack (before ++ map (occurrence item) (take (i + 1) ms))))
          (sym w.self-is)
          (has_passed lack before item ms i _ w.note.new.self c.loop-mention-test.true
          (sym c.is_lacking.ensures ∙ w.if-is_lacking.true)
          (w.in_ok-note.ensures (filter lack (before ++ map (occurrence item) (take i ms))) had))
      | else-is_lacking w ↦
          subst (λ t. HasNames t (filter lack (before ++ map (occurrence item) (take (i + 1) ms))))
          (sym w.self-is)
          (has_none_passed lack before item ms i _ c.loop-mention.self c.loop-mention-test.true
          (sym c.is_lacking.ensures ∙ w.if-is_lacking.false) had)
    ]
