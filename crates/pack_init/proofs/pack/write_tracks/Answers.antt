use Rattle.std.proofs.Common.{◌+◌, ◌≤◌, length, arith}
use Rattle.hall_core.specs.Facts.{name_in}
use Rattle.pack_init.specs.Init.{size_of}
use Rattle.pack_init.specs.Progress.{IsHeaderless}
use Rattle.pack_init.proofs.EmptyLemmas.{tracks_more, vtoc_inside}
use Rattle.pack_init.proofs.PatchLemmas.{headerless_patched}
use Rattle.pack_init.proofs.WriteLemmas.{is_error, name_stays, writes_done, writes_fail, writes_named, writes_one, writes_sync, writes_then}
use Rattle.pack_init.proofs.pack.write_tracks.Goals as goal

pub returns-in_err-write-clause-files : goal.returns-in_err-write-clause-files
returns-in_err-write-clause-files g c told =
    let pack = c.args.geometry.now in
    let at = c.offset_of.result in
    let behind : 512 ≤ at = omega (arith, c.offset_of.ensures) in
    let inside : at + length c.args.slots.now ≤ size_of pack = omega (arith, c.offset_of.ensures, vtoc_inside pack c.args.vtoc (length c.args.slots.now) c.requires.shape c.requires.slots) in
    writes_fail c.from_residual.result (is_error _ c.from_residual.result c.from_residual.ensures.1)
    (writes_one (λ image was. headerless_patched (size_of pack) at c.args.slots.now image behind inside was) (c.in_err-write.ensures.files told))

pub returns-in_err-write_empty_tracks-clause-files : goal.returns-in_err-write_empty_tracks-clause-files
returns-in_err-write_empty_tracks-clause-files g c told =
    let pack = c.args.geometry.now in
    let at = c.offset_of.result in
    let behind : 512 ≤ at = omega (arith, c.offset_of.ensures) in
    let inside : at + length c.args.slots.now ≤ size_of pack = omega (arith, c.offset_of.ensures, vtoc_inside pack c.args.vtoc (length c.args.slots.now) c.requires.shape c.requires.slots) in
    let same = name_stays (g.H.Hall.facts c.write.new.self) (g.H.Hall.facts c.args.hall.now) c.args.unit c.in_ok-write.ensures.faults.units in
    writes_fail c.from_residual-in_err-write_empty_tracks.result (is_error _ c.from_residual-in_err-write_empty_tracks.result c.from_residual-in_err-write_empty_tracks.ensures.1)
    (writes_then (writes_one (λ image was. headerless_patched (size_of pack) at c.args.slots.now image behind inside was) (c.in_ok-write.ensures.files told))
    (writes_named same (c.in_err-write_empty_tracks.ensures.files told)))

pub returns-in_err-sync-clause-files : goal.returns-in_err-sync-clause-files
returns-in_err-sync-clause-files g c told =
    let pack = c.args.geometry.now in
    let at = c.offset_of.result in
    let behind : 512 ≤ at = omega (arith, c.offset_of.ensures) in
    let inside : at + length c.args.slots.now ≤ size_of pack = omega (arith, c.offset_of.ensures, vtoc_inside pack c.args.vtoc (length c.args.slots.now) c.requires.shape c.requires.slots) in
    let same = name_stays (g.H.Hall.facts c.write.new.self) (g.H.Hall.facts c.args.hall.now) c.args.unit c.in_ok-write.ensures.faults.units in
    writes_fail c.from_residual-in_err-sync.result (is_error _ c.from_residual-in_err-sync.result c.from_residual-in_err-sync.ensures.1)
    (writes_then (writes_one (λ image was. headerless_patched (size_of pack) at c.args.slots.now image behind inside was) (c.in_ok-write.ensures.files told))
    (writes_then (writes_named same (c.in_ok-write_empty_tracks.ensures.files told))
    (writes_sync (g.met.H.Hall.leaves_state c.write_empty_tracks.new.hall) (c.in_err-sync.ensures.files told))))

pub returns-clause-files : goal.returns-clause-files
returns-clause-files g c told =
    let pack = c.args.geometry.now in
    let at = c.offset_of.result in
    let name = name_in (g.H.Hall.facts c.args.hall.now) c.args.unit in
    let behind : 512 ≤ at = omega (arith, c.offset_of.ensures) in
    let inside : at + length c.args.slots.now ≤ size_of pack = omega (arith, c.offset_of.ensures, vtoc_inside pack c.args.vtoc (length c.args.slots.now) c.requires.shape c.requires.slots) in
    let same = name_stays (g.H.Hall.facts c.write.new.self) (g.H.Hall.facts c.args.hall.now) c.args.unit c.in_ok-write.ensures.faults.units in
    tracks_more name (IsHeaderless (size_of pack)) pack c.args.vtoc at c.args.slots.now (g.H.Hall.meaning c.args.hall.now) (g.H.Hall.meaning c.write.new.self) (g.H.Hall.meaning c.sync.new.self) c.offset_of.ensures
    (writes_one (λ image was. headerless_patched (size_of pack) at c.args.slots.now image behind inside was) (c.in_ok-write.ensures.files told))
    (writes_done tt (writes_then (writes_named same (c.in_ok-write_empty_tracks.ensures.files told))
    (writes_sync (g.met.H.Hall.leaves_state c.write_empty_tracks.new.hall) (c.in_ok-sync.ensures.files told))))
