use Rattle.pds_directory.proofs.DirectoryReads.{AreTaken}
use Rattle.pds_directory.proofs.reading.add_reached.Given as goal

abbrev pub invariant-loop-passed : goal.invariant-loop-passed
invariant-loop-passed l = AreTaken l.k l.passed l.buf.records l.initial.reading l.reading
