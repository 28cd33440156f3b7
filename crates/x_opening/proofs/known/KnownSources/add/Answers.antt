use Rattle.std.proofs.Common.{◌++◌, ◌&&◌, ap, codes, subst, ◌∙◌}
use Rattle.std.specs.Str.{bytes_eq}
use Rattle.x_prelude.specs.Before.{IsPrelude}
use Rattle.x_opening.specs.Opening.{types_only}
use Rattle.x_opening.proofs.known.KnownSources.add.Goals as goal

pub returns-clause-text : goal.returns-clause-text
returns-clause-text c =
    let old = c.args.self.now.text.items in
    let lacking = c.in-Ok-Ok.lacking.items in
    let bytes = c.args.bytes.now in
    let first = c.in_ok-extend_from_slice.ensures.items ∙ ap (λ l. old ++ l) c.deref-5.ensures.value in
    let second = c.in_ok-extend_from_slice-2.ensures.items ∙ ap (λ l. l ++ bytes) first in (
      lacking,
      c.in-Ok-Ok.of_types.items,
      subst (λ f. IsPrelude f c.args.from_c bytes lacking) c.deref.ensures.value c.in-Ok-Ok.ensures.lacking,
      subst (λ f. IsPrelude f (types_only c.args.from_c) bytes c.in-Ok-Ok.of_types.items)
          c.deref-2.ensures.value
          c.in-Ok-Ok.ensures'.lacking,
      c.in_ok-push.ensures.items ∙ ap (λ l. l ++ codes "\n") second,
      ap (λ b. c.args.self.now.is_plain && b)
          (c.is_same.ensures ∙ ap (λ l. bytes_eq l c.deref-4.result.now) c.deref-3.ensures.value
          ∙ ap (λ l. bytes_eq lacking l) c.deref-4.ensures.value),
    )
