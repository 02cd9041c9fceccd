use Rattle.std.proofs.Common.{◌≡◌, ◌≤◌}
use Rattle.std.specs.Prelude.{Ok}
use Rattle.vol_model.specs.declared.contents.Shelf.{Shelf}
use Rattle.record_files.specs.Calls.{ReadsBeside}
use Rattle.record_files.specs.Reader.{block_stream, most_left}
use Rattle.record_files.proofs.block_reading.BlockRecordsRecordSource.next.Given as goal

abbrev pub invariant-loop : goal.invariant-loop
invariant-loop g l = record {
  reads : ReadsBeside {T = Unit {0}} g.M.Machine (λ (shelf : Shelf) u. block_stream l.fn.self shelf ≡ block_stream l.self shelf) l.fn.machine l.machine (Ok tt);
  fewer : most_left l.self ≤ most_left l.fn.self;
}

abbrev pub decreases-loop : goal.decreases-loop
decreases-loop g l = most_left l.self
