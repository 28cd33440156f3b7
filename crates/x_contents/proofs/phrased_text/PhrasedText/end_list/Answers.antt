use Rattle.std.proofs.Common.{◌≡◌, ◌∙◌, ◌∷◌, ◌++◌, [], ap, arith, sym}
use Rattle.x_contents.specs.Phrases.{spelt_out}
use Rattle.x_contents.proofs.PhraseLemmas.{closed_ended, comma_popped, counted_less, open_ended}
use Rattle.x_contents.proofs.phrased_text.PhrasedText.end_list.Goals as goal
use Rattle.x_contents.proofs.phrased_text.PhrasedText.end_list.Goals.{then-has_comma, else-has_comma}

pub invariant_of-self : goal.invariant_of-self
invariant_of-self c =
    let text = c.args.self.now in
    let rest = c.pop.new.self.items in
    let len = text.bytes.ok.0 in
    let split = comma_popped text.bytes.items rest c.pop.result c.pop.ensures.items
    (λ some. c.pop.ensures.variant.1 (omega (arith, len, some)))
    (sym c.has_comma.ensures ∙ c.if-has_comma.true) in
    record {
      counted = counted_less text.count c.saturating_sub-self.result text.bytes.items rest text.counted split
          c.saturating_sub-self.ensures;
    }

pub returns : goal.returns
returns c =
    let text = c.args.self.now in
    let bytes = text.bytes.items in
    let now = spelt_out c.if-has_comma.self.bytes.items in
    let same : now ++ 93 ∷ [] ≡ _ = elim c.if-has_comma.branch [
      | then-has_comma w ↦
          let len = text.bytes.ok.0 in
          let split = comma_popped bytes w.pop.new.self.items w.pop.result w.pop.ensures.items
          (λ some. w.pop.ensures.variant.1 (omega (arith, len, some)))
          (sym c.has_comma.ensures ∙ w.if-has_comma.true) in
          ap (λ s. spelt_out s.bytes.items ++ 93 ∷ []) w.self-is ∙ sym (closed_ended bytes _ split)
      | else-has_comma w ↦
          ap (λ s. spelt_out s.bytes.items ++ 93 ∷ []) w.self-is
          ∙ sym (open_ended bytes (sym c.has_comma.ensures ∙ w.if-has_comma.false))
    ] in
    c.in_ok-add.ensures ∙ same
