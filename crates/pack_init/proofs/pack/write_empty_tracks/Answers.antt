use Rattle.std.proofs.Common.{◌≡◌, ◌+◌, ◌-◌, ◌≤◌, length, ap, arith}
use Rattle.hall_core.specs.Facts.{name_in}
use Rattle.pack_spec.specs.Label.{tracks_of}
use Rattle.pack_init.specs.Init.{size_of}
use Rattle.pack_init.specs.Progress.{IsHeaderless}
use Rattle.pack_init.proofs.EmptyLemmas.{empties_all, empties_more, empties_none, long_track, track_inside}
use Rattle.pack_init.proofs.WriteLemmas.{calls_done, calls_none, calls_then, is_error, name_stays, write_named, writes_done, writes_fail}
use Rattle.pack_init.proofs.pack.write_empty_tracks.Goals as goal

pub loop-track-init : goal.loop-track-init
loop-track-init g c =
    let none : c.args.vtoc + 1 - (c.args.vtoc + 1) ≡ 0 = omega arith in
    record {
      faults = calls_none (g.H.Hall.facts c.args.hall.now) tt;
      files = λ told. empties_none tt (name_in (g.H.Hall.facts c.args.hall.now) c.args.unit) (IsHeaderless (size_of c.args.geometry.now)) c.args.geometry.now (c.args.vtoc + 1) _ (g.H.Hall.meaning c.args.hall.now) none;
    }

pub returns-in_err-write-clause-files : goal.returns-in_err-write-clause-files
returns-in_err-write-clause-files g c told =
    let l = c.loop-track in
    let pack = c.args.geometry.now in
    let name = name_in (g.H.Hall.facts c.args.hall.now) c.args.unit in
    let same = name_stays (g.H.Hall.facts l.hall) (g.H.Hall.facts c.args.hall.now) c.args.unit l.invariant.faults.units in
    let long : length c.empty_track.result ≡ 29 = ap length c.empty_track.ensures in
    let inside : c.offset_of.result + length c.empty_track.result ≤ size_of pack = omega (arith, long, c.offset_of.ensures, track_inside pack l.track 29 (omega arith) (long_track pack c.args.vtoc c.requires.shape)) in
    writes_fail c.from_residual.result (is_error _ c.from_residual.result c.from_residual.ensures.1)
    (empties_more name pack (c.args.vtoc + 1) l.track c.offset_of.result c.empty_track.result (g.H.Hall.meaning c.args.hall.now) (g.H.Hall.meaning l.hall) (g.H.Hall.meaning c.write.new.self)
    l.auto.track c.offset_of.ensures c.empty_track.ensures inside (l.invariant.files told) (write_named same (c.in_err-write.ensures.files told)))

pub loop-track-preserved : goal.loop-track-preserved
loop-track-preserved g c =
    let l = c.loop-track in
    let pack = c.args.geometry.now in
    let name = name_in (g.H.Hall.facts c.args.hall.now) c.args.unit in
    let same = name_stays (g.H.Hall.facts l.hall) (g.H.Hall.facts c.args.hall.now) c.args.unit l.invariant.faults.units in
    let long : length c.empty_track.result ≡ 29 = ap length c.empty_track.ensures in
    let inside : c.offset_of.result + length c.empty_track.result ≤ size_of pack = omega (arith, long, c.offset_of.ensures, track_inside pack l.track 29 (omega arith) (long_track pack c.args.vtoc c.requires.shape)) in
    record {
      faults = calls_done tt (calls_then l.invariant.faults c.in_ok-write.ensures.faults);
      files = λ told. writes_done tt (empties_more name pack (c.args.vtoc + 1) l.track c.offset_of.result c.empty_track.result (g.H.Hall.meaning c.args.hall.now) (g.H.Hall.meaning l.hall) (g.H.Hall.meaning c.write.new.self)
          l.auto.track c.offset_of.ensures c.empty_track.ensures inside (l.invariant.files told) (write_named same (c.in_ok-write.ensures.files told)));
    }

pub returns-clause-files : goal.returns-clause-files
returns-clause-files g c told =
    let l = c.loop-track in
    let pack = c.args.geometry.now in
    let end : l.track - (c.args.vtoc + 1) ≡ tracks_of pack - (c.args.vtoc + 1) = omega (arith, c.requires.shape.room) in
    empties_all (name_in (g.H.Hall.facts c.args.hall.now) c.args.unit) (IsHeaderless (size_of pack)) pack (c.args.vtoc + 1) (l.track - (c.args.vtoc + 1)) (tracks_of pack - (c.args.vtoc + 1)) (g.H.Hall.meaning c.args.hall.now) (g.H.Hall.meaning l.hall) end (l.invariant.files told)
