use Rattle.std.proofs.Common.{◌≡◌, ◌-◌, ◌*◌, length}
use Rattle.pack_init.specs.Layout.{vtoc_tracks}
use Rattle.pack_init.proofs.tracks.vtoc_tracks.Given as goal

abbrev pub invariant-loop-track : goal.invariant-loop-track
invariant-loop-track l = record {
  bytes : l.tracks.items ≡ vtoc_tracks l.geometry l.slot_0 l.slot_1 (l.track - 1);
  len : length l.tracks.items ≡ (l.track - 1) * l.geometry.track_size;
}
