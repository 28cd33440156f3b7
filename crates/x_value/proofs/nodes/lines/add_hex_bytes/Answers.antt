use Rattle.std.proofs.Common.{ℕ, List, [], ◌++◌, sym, ap, ◌∙◌, subst, append_assoc, append-nil, rules}
use Rattle.std.proofs.lemmas.Grind.{flat_map-append}
use Rattle.std.proofs.lemmas.List.{nil_from_length}
use Rattle.std.specs.List.{flat_map}
use Rattle.x_streams.specs.Writing.{Adds}
use Rattle.x_streams.proofs.Pens.{adds_none, adds_trans}
use Rattle.x_value.specs.Lines.{hex_byte}
use Rattle.x_value.proofs.nodes.lines.add_hex_bytes.Goals as goal

pub loop-chunk-init : goal.loop-chunk-init
loop-chunk-init g c = (
  search rules,
  tt,
  search rules,
  ([], search rules, adds_none c.args.pen.now (g.S.Sink.state c.args.sink.now)),
)

pub loop-chunk-preserved : goal.loop-chunk-preserved
loop-chunk-preserved g c =
    let chunk = c.in-Some.chunk.now in
    let steps = c.in-Some.ensures.steps in
    let so = c.loop-chunk.invariant.3 in
    let start = g.S.Sink.state c.args.sink.now in
    let mid = g.S.Sink.state c.loop-chunk.sink in
    let end = g.S.Sink.state c.add.new.sink in (
      search rules,
      tt,
      steps.0 ∙ c.loop-chunk.invariant.2,
      (
        so.0 ++ chunk,
        append_assoc so.0 chunk _ ∙ ap (λ (t : List ℕ). so.0 ++ t) (sym steps.1.0) ∙ so.1,
        subst (λ t. Adds c.args.pen.now start c.add.new.self end t)
            (sym (flat_map-append hex_byte so.0 chunk))
            (adds_trans c.args.pen.now c.loop-chunk.pen c.add.new.self start mid end (flat_map hex_byte so.0)
            (flat_map hex_byte chunk) so.2
            (subst (λ t. Adds c.loop-chunk.pen mid c.add.new.self end t) c.hex_digits-digits.ensures
            c.add.ensures)),
      ),
    )

pub returns : goal.returns
returns g c =
    let so = c.loop-chunk.invariant.3 in
    let none = nil_from_length _ c.in-None.ensures.steps.1.0 in
    subst (λ xs. Adds c.args.pen.now (g.S.Sink.state c.args.sink.now) c.loop-chunk.pen
    (g.S.Sink.state c.loop-chunk.sink) (flat_map hex_byte xs))
    (sym (append-nil so.0) ∙ ap (λ (t : List ℕ). so.0 ++ t) (sym none) ∙ so.1) so.2
