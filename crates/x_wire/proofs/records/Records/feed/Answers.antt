use Rattle.std.proofs.Common.{refl, ap, None}
use Rattle.x_wire.specs.Framers.{left_by, whole_in}
use Rattle.x_wire.specs.RecordFaults.{fault_at}
use Rattle.x_wire.specs.Records.{Left}
use Rattle.std.proofs.lemmas.Result.{err_from_is_err_and}
use Rattle.x_wire.proofs.Feeding.{fed_of, fed_whole, refused_of, some_used, same_fault, no_fault}
use Rattle.x_wire.proofs.records.Records.feed.Goals as goal

pub returns-in_err-used : goal.returns-in_err-used
returns-in_err-used c =
    let p = err_from_is_err_and c.from_residual.result c.from_residual.ensures.1 in
    rw (p.1, p.2) (
      (
        refl,
        λ _. tt,
        refused_of c.in_err-used.field-0.0.code c.self.inside.framer c.feed.new.self
            c.args.self.now c.args.piece.now c.in_err-used.field-0.0.at c.self.view_is
            c.in_err-used.ensures.err,
      ),
      record {
        within = tt;
        some = tt;
        refused = same_fault (fault_at (left_by c.self.inside.framer).phase) (fault_at c.args.self.now.phase)
            c.in_err-used.field-0.0 (ap (λ (l : Left). fault_at l.phase) c.self.view_is)
            c.in_err-used.ensures.refused;
        fed = tt;
      },
    )

pub returns-then-is_whole : goal.returns-then-is_whole
returns-then-is_whole c = (
  (
    refl,
    λ _. tt,
    fed_whole c.self.inside.framer c.feed.new.self c.args.self.now c.args.piece.now
        c.in_ok-used.used c.in_ok-used.is_whole c.joined.result.now c.self.view_is c.in_ok-used.ensures.ok
        c.if-is_whole.true c.joined.ensures,
  ),
  record {
    within = c.in_ok-used.ensures.ok.within;
    some = some_used c.self.inside.framer c.feed.new.self c.args.piece.now c.in_ok-used.used
        c.in_ok-used.is_whole c.in_ok-used.ensures.ok;
    refused = no_fault (fault_at (left_by c.self.inside.framer).phase) (fault_at c.args.self.now.phase)
        (c.in_ok-used.used, c.in_ok-used.is_whole) _ (ap (λ (l : Left). fault_at l.phase) c.self.view_is)
        c.in_ok-used.ensures.refused;
    fed = tt;
  },
)

pub returns : goal.returns
returns c = (
  (
    refl,
    λ _. tt,
    fed_of c.self.inside.framer c.feed.new.self c.args.self.now c.args.piece.now
        c.in_ok-used.used c.in_ok-used.is_whole None c.self.view_is c.in_ok-used.ensures.ok
        (ap (whole_in c.feed.new.self) c.if-is_whole.false) (λ _. c.if-is_whole.false),
  ),
  record {
    within = c.in_ok-used.ensures.ok.within;
    some = some_used c.self.inside.framer c.feed.new.self c.args.piece.now c.in_ok-used.used
        c.in_ok-used.is_whole c.in_ok-used.ensures.ok;
    refused = no_fault (fault_at (left_by c.self.inside.framer).phase) (fault_at c.args.self.now.phase)
        (c.in_ok-used.used, c.in_ok-used.is_whole) _ (ap (λ (l : Left). fault_at l.phase) c.self.view_is)
        c.in_ok-used.ensures.refused;
    fed = tt;
  },
)
