use Rattle.std.proofs.Common.{◌≡◌, ◌++◌, ◌+◌, ◌-◌, ℕ, List, suc, ap, ap₂, sym, ◌∙◌, ◌*◌, length, length-append, arith, rules}
use Rattle.pack_init.specs.Layout.{vtoc_track, vtoc_tracks}
use Rattle.pack_init.proofs.ListLemmas.{flat_map_next}
use Rattle.pack_init.proofs.tracks.vtoc_tracks.Goals as goal

pub loop-track-preserved : goal.loop-track-preserved
loop-track-preserved c =
    let g = c.args.geometry.now in
    let a = c.args.slot_0.now in
    let b = c.args.slot_1.now in
    let track = c.loop-track.track in
    let number : track + 1 - 1 ≡ suc (track - 1) = omega (arith, c.loop-track.auto.track) in
    let place : 1 + (track - 1) ≡ track = omega (arith, c.loop-track.auto.track) in
    let added : c.extend_from_slice.new.self.items ≡ c.loop-track.tracks.items ++ vtoc_track g a b track = search rules in
    let one : c.extend_from_slice.new.self.items ≡ c.loop-track.tracks.items ++ c.in_ok-bytes.bytes.items = search rules in
    let size : length c.in_ok-bytes.bytes.items ≡ g.track_size = omega (arith, c.in_ok-bytes.ensures.len) in
    record {
      bytes = added ∙ ap (λ (l : List ℕ). l ++ vtoc_track g a b track) c.loop-track.invariant.bytes
          ∙ sym (flat_map_next (vtoc_track g a b) 1 (track - 1) track place)
          ∙ ap (vtoc_tracks g a b) (sym number);
      len = ap length one ∙ length-append c.loop-track.tracks.items c.in_ok-bytes.bytes.items
          ∙ ap₂ (λ (x y : ℕ). x + y) c.loop-track.invariant.len size ∙ omega arith
          ∙ ap (λ (n : ℕ). n * g.track_size) (sym number);
    }
