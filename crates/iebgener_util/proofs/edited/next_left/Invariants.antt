use Rattle.std.proofs.Common.{◌≡◌, ◌≤◌}
use Rattle.std.specs.Prelude.{Ok}
use Rattle.vol_model.specs.declared.contents.Shelf.{Shelf}
use Rattle.record_files.specs.Calls.{ReadsBeside}
use Rattle.record_files.specs.Reader.{reader_most, reader_stream}
use Rattle.iebgener_util.specs.SkippedGroups.{left_of}
use Rattle.iebgener_util.proofs.edited.next_left.Given as goal

abbrev pub invariant-loop-skipped : goal.invariant-loop-skipped
invariant-loop-skipped g l = record {
  reads : ReadsBeside {T = Unit {0}} g.M.Machine (λ (shelf : Shelf) u. left_of l.fn.skipped (reader_stream l.fn.reader shelf) ≡ left_of l.skipped (reader_stream l.reader shelf)) l.fn.machine l.machine (Ok tt);
  fewer : reader_most l.reader ≤ reader_most l.fn.reader;
}

abbrev pub decreases-loop-skipped : goal.decreases-loop-skipped
decreases-loop-skipped g l = reader_most l.reader
