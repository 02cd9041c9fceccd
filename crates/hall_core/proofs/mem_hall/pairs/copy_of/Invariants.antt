use Rattle.std.proofs.Common.{◌≡◌, take}
use Rattle.hall_core.specs.Held.{files_of}
use Rattle.hall_core.proofs.mem_hall.pairs.copy_of.Given as goal

-- the files so far
abbrev pub invariant-loop-file : goal.invariant-loop-file
invariant-loop-file l = files_of l.copy.items ≡ take l.file-index (files_of l.files)
