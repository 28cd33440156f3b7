use Rattle.std.proofs.Common.{[], map, sym, ap, ◌∙◌}
use Rattle.std.proofs.lemmas.List.{drop_all}
use Rattle.x_pieces.specs.Parts.{behind}
use Rattle.x_pieces.proofs.PartLemmas.{behind_is}
use Rattle.x_clash.proofs.given.joined.Goals as goal

pub returns : goal.returns
returns c =
    sym (ap (λ ps. behind c.loop-part.text.items (map (λ p. p.now) ps)) (drop_all _ _ c.loop-part-test.false))
    ∙ c.loop-part.invariant ∙ behind_is [] (map (λ p. p.now) c.args.parts.now)
