use Rattle.std.proofs.Common.{◌∙◌, ◌<◌, length, subst}
use Rattle.x_lines.specs.declared.lines.TheConstants.{LONGEST}
use Rattle.x_lines.proofs.ReadingLemmas.{none_in_front}
use Rattle.x_lines.proofs.SearchLemmas.{searched_more, searched_trimmed}
use Rattle.x_lines.proofs.lines.find_end.Goals as goal

pub returns-in-Some-search-clause-come : goal.returns-in-Some-search-clause-come
returns-in-Some-search-clause-come g c =
    searched_trimmed c.args.queue.now c.read.new.self c.search-in-pieces.new.queue
    (g.R.Tap.state c.args.tap.now).bytes (g.R.Tap.state c.read.new.tap).bytes
    (searched_more c.args.queue.now c.pieces.queue c.read.new.self (g.R.Tap.state c.args.tap.now).bytes
    (g.R.Tap.state c.pieces.tap).bytes (g.R.Tap.state c.read.new.tap).bytes c.in_ok-read.field-0
    c.pieces.invariant.come c.in_ok-read.ensures.come)
    c.in-Some-search.ensures.trimmed

pub pieces-preserved : goal.pieces-preserved
pieces-preserved g c = record {
  come = searched_trimmed c.args.queue.now c.read.new.self c.search-in-pieces.new.queue
      (g.R.Tap.state c.args.tap.now).bytes (g.R.Tap.state c.read.new.tap).bytes
      (searched_more c.args.queue.now c.pieces.queue c.read.new.self (g.R.Tap.state c.args.tap.now).bytes
      (g.R.Tap.state c.pieces.tap).bytes (g.R.Tap.state c.read.new.tap).bytes c.in_ok-read.field-0
      c.pieces.invariant.come c.in_ok-read.ensures.come)
      c.in_default-search.ensures.trimmed;
  no_feed = c.in_default-search.ensures.found;
  failed = c.in_ok-read.ensures.failed ∙ c.pieces.invariant.failed;
}

pub returns-then-searched-gt-LONGEST-clause-found : goal.returns-then-searched-gt-LONGEST-clause-found
returns-then-searched-gt-LONGEST-clause-found g c = (
  none_in_front c.pieces.queue c.pieces.invariant.no_feed,
  subst (λ l. LONGEST < length l) c.bytes-searched.ensures c.if-searched-gt-LONGEST.true,
)
