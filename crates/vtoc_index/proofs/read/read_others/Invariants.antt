use Rattle.std.proofs.Common.{◌-◌}
use Rattle.hall_core.specs.Images.{image_of}
use Rattle.vtoc_index.proofs.CallsMade.{KeepsReading}
use Rattle.vtoc_index.proofs.read.read_others.Given as goal

abbrev pub invariant-loop-track : goal.invariant-loop-track
invariant-loop-track g l =
    KeepsReading g.H.Hall.tells (g.H.Hall.facts l.initial.hall) (g.H.Hall.facts l.hall) (g.H.Hall.meaning l.initial.hall) (g.H.Hall.meaning l.hall)
    (image_of (g.H.Hall.meaning l.initial.hall).state (g.H.Hall.facts l.initial.hall) l.unit) l.geometry l.unit l.fn.vtoc.start (l.track - l.fn.vtoc.start) l.initial.buf l.buf l.initial.found l.found
