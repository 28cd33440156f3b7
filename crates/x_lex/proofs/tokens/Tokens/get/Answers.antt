use Rattle.std.proofs.Common.{◌≡◌, ◌+◌, Some, length, sym, ap, ◌∙◌, arith}
use Rattle.std.specs.Prelude.{slice_get}
use Rattle.std.proofs.lemmas.Option.{slice_get_within}
use Rattle.x_lists.proofs.LengthLemmas.{before_le, before_read, none_past}
use Rattle.x_lex.specs.Tiling.{bytes_of, end_of}
use Rattle.x_lex.proofs.SpanLemmas.{place_found, place_past}
use Rattle.x_lex.proofs.tokens.Tokens.get.Goals as goal
use Rattle.x_lex.proofs.tokens.Tokens.get.Goals.{In_ok-kind}

-- the token that was read
found : (c : In_ok-kind) → slice_get c.args.self.now.list c.args.index
    ≡ Some (c.in_ok-kind.kind, c.in_ok-kind.length)
found c = sym c.kind_and_length.ensures ∙ c.in_ok-kind.was

pub start_of-start-requires : goal.start_of-start-requires
start_of-start-requires c =
    let within = slice_get_within c.args.self.now.list c.args.index (c.in_ok-kind.kind, c.in_ok-kind.length)
    (found (goal.at.start_of-start-requires c).In_ok-kind) in
    let list = ap (λ v. length v.list) c.self.view_is in
    omega (arith, within, list)

pub overflow_add-result : goal.overflow_add-result
overflow_add-result c =
    let ts = c.self.inside.entries.list in
    let list = ap (λ v. v.list) c.self.view_is in
    let read = before_read bytes_of ts c.args.index (c.in_ok-kind.kind, c.in_ok-kind.length)
    (ap (λ l. slice_get l c.args.index) list ∙ found (goal.at.overflow_add-result c).In_ok-kind) in
    let le = before_le bytes_of ts (c.args.index + 1) in
    let short = c.self.invariant.short in
    let start = c.start_of-start.ensures in
    omega (arith, read, le, short, start)

pub returns : goal.returns
returns c =
    let start = c.start_of-start.ensures ∙ ap (λ v. end_of v.list c.args.index) c.self.view_is in
    sym (place_found c.args.self.now.list c.args.index c.start_of-start.result
    (c.in_ok-kind.kind, c.in_ok-kind.length) (found (goal.at.returns c).In_ok-kind) start)

pub returns-in_err-kind : goal.returns-in_err-kind
returns-in_err-kind c =
    let past = none_past c.args.self.now.list c.args.index
    (sym c.kind_and_length.ensures ∙ c.in_err-kind.was) in
    c.from_residual.ensures ∙ sym (place_past c.args.self.now.list 0 c.args.index past)
