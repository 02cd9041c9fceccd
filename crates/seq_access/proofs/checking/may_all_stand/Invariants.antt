use Rattle.std.proofs.Common.{◌≡◌, true, take}
use Rattle.std.specs.List.{enumerate_from, list_all}
use Rattle.pack_spec.specs.Directories.{may_stand}
use Rattle.seq_access.proofs.checking.may_all_stand.Given as goal

abbrev pub invariant-loop-passed : goal.invariant-loop-passed
invariant-loop-passed l = list_all (may_stand l.end l.k) (take l.passed (enumerate_from 1 (take l.count l.buf.records))) ≡ true
