use Rattle.std.proofs.Common.{◌≡◌, drop, map}
use Rattle.x_text.specs.declared.text.fault.TextFault.{TextFault}
use Rattle.x_frames.specs.Params.{replacement_of}
use Rattle.x_documents.specs.Changes.{changed_by_all}
use Rattle.x_documents.specs.Noting.{Fit, IsStopped}
use Rattle.x_positions.specs.Waymarks.{AreWaymarks}
use Rattle.x_documents.proofs.carrying.apply_changes.Given as goal

-- what is so of the changes that are left is so of all
abbrev pub invariant-loop-change : goal.invariant-loop-change
invariant-loop-change l = record {
  text : changed_by_all l.marks.encoding l.text (map replacement_of (drop l.change-index l.changes))
      ≡ changed_by_all l.fn.marks.encoding l.fn.text (map replacement_of l.changes);
  fit : Fit l.marks.encoding l.text (map replacement_of (drop l.change-index l.changes))
      → Fit l.fn.marks.encoding l.fn.text (map replacement_of l.changes);
  stopped : (fault : TextFault)
      → IsStopped l.marks.encoding l.text fault (map replacement_of (drop l.change-index l.changes))
      → IsStopped l.fn.marks.encoding l.fn.text fault (map replacement_of l.changes);
  marks : AreWaymarks l.text l.marks;
  encoding : l.marks.encoding ≡ l.fn.marks.encoding;
}
