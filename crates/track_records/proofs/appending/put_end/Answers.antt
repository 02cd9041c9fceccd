use Rattle.std.proofs.Common.{◌≡◌, ◌+◌, ◌-◌, ◌/◌, ◌%◌, [], arith, ℕ, List, refl, sym, ap, ◌∙◌, if◌then◌else◌, length}
use Rattle.std.proofs.lemmas.List.{append-nil}
use Rattle.stop_model.specs.Files.{patched}
use Rattle.ckd_image.specs.Writing.{front_bytes}
use Rattle.pack_spec.specs.Label.{heads_of}
use Rattle.track_records.proofs.PutLemmas.{put_all, put_here}
use Rattle.track_records.proofs.appending.put_end.Goals as goal

pub returns : goal.returns
returns c =
    let bytes : List ℕ = c.args.bytes.now in
    let at : ℕ = c.end_of-at.result in
    let n : at + 8 - at ≡ length c.copy_from_slice.new.self = omega (arith, ap length c.copy_from_slice.ensures.after) in
    let front = c.begin-start.ensures.front ∙ ap (λ (heads : ℕ). if c.is_empty.result then patched bytes 0 (front_bytes (c.args.track / heads) (c.args.track % heads)) else bytes) c.heads-heads.ensures in
    record {
      put = put_all (c.args.track / heads_of c.args.geometry) (c.args.track % heads_of c.args.geometry) [] bytes c.args.places.now c.begin-start.new.bytes _ c.args.places.now at c.is_empty.result _ c.requires.are tt c.end_of-at.ensures
          (omega (arith, c.requires.room, c.end_of-at.ensures)) c.is_empty.ensures front
          (put_here c.begin-start.new.bytes c.copy_from_slice.new.self at (at + 8 - at) n ∙ ap (patched c.begin-start.new.bytes at) c.copy_from_slice.ensures.after)
          (sym (append-nil c.args.places.now)) c.begin-start.ensures.start refl;
    }
