use Rattle.std.proofs.Common.{◌≡◌, ◌+◌, ◌-◌, ◌≤◌, length, arith}
use Rattle.track_records.proofs.PatchLemmas.{put_twice}
use Rattle.track_records.proofs.buffer.put_parts.Goals as goal

pub returns : goal.returns
returns c =
    let first : c.args.at + length c.args.key.now - c.args.at ≡ length c.args.key.now = omega arith in
    let second : c.args.at + length c.args.key.now + length c.args.payload.now - (c.args.at + length c.args.key.now) ≡ length c.args.payload.now = omega arith in
    let inside : c.args.at ≤ length c.args.bytes.now = omega (arith, c.requires) in
    rw (first, second, c.copy_from_slice.ensures.after, c.copy_from_slice-2.ensures.after) (put_twice c.args.bytes.now c.args.key.now c.args.payload.now c.args.at inside)
