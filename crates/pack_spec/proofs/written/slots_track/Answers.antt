-- One more slot stands after the others, and the end after all of them.
use Rattle.std.proofs.Common.{◌≡◌, ◌+◌, ◌++◌, [], length, take, get_or, map, vec_len, ap, ap₂, ◌∙◌, ◌*◌, ◌≡◌, arith, refl, length-append}
use Rattle.ckd_image.specs.Track.{record_bytes, records_bytes}
use Rattle.ckd_image.specs.Writing.{front_bytes, record_on}
use Rattle.pack_spec.specs.Written.{slot_record}
use Rattle.pack_spec.proofs.WrittenTracks.{SlotsWritten-none, SlotsWritten-more, SlotsWritten-all, finished, finished_size}
use Rattle.pack_spec.proofs.written.slots_track.Goals as goal

pub loop-index-init : goal.loop-index-init
loop-index-init c =
    SlotsWritten-none c.args.at c.args.slots.now c.push_front.new.bytes.items
    (c.in_ok-push_front.ensures.added ∙ ap (λ bs. bs ++ front_bytes c.args.at.cylinder c.args.at.head) c.new-track.ensures.items)

pub loop-index-preserved : goal.loop-index-preserved
loop-index-preserved c =
    SlotsWritten-more c.args.at c.args.slots.now c.loop-index.index c.loop-index.track.items c.push_record.new.bytes.items (get_or c.args.slots.now c.loop-index.index [])
    c.loop-index.invariant c.loop-index-test.true refl (omega (arith, c.split_at.ensures.front_len)) (c.in_ok-push_record.ensures.added
    ∙ ap₂ (λ key content. c.loop-index.track.items ++ record_bytes (c.loop-index.index + 1) (record_on c.args.at.cylinder c.args.at.head key content)) c.split_at.ensures.front c.split_at.ensures.back)

pub returns-clause-bytes : goal.returns-clause-bytes
returns-clause-bytes c =
    let at = c.args.at in
    let records = records_bytes 1 (map (slot_record at) c.args.slots.now) in
    let bytes = SlotsWritten-all at c.args.slots.now c.loop-index.index c.loop-index.track.items c.loop-index.invariant (omega (arith, c.loop-index-test.false)) in
    finished at records c.loop-index.track.items c.push_end.new.bytes.items (vec_len c.loop-index.track) c.args.size bytes (omega arith) c.in_ok-push_end.ensures.added

pub returns-clause-len : goal.returns-clause-len
returns-clause-len c =
    let at = c.args.at in
    let before = records_bytes 1 (map (slot_record at) (take c.loop-index.index c.args.slots.now)) in
    let long : length c.loop-index.track.items ≡ 21 + 148 * c.loop-index.index = ap length c.loop-index.invariant.parts ∙ length-append (front_bytes at.cylinder at.head) before ∙ omega (arith, c.loop-index.invariant.size) in
    let size : length c.push_end.new.bytes.items ≡ c.args.size =
    finished_size c.loop-index.track.items c.push_end.new.bytes.items (vec_len c.loop-index.track) c.args.size (omega arith) (omega (arith, c.loop-index.auto.index-end)) c.in_ok-push_end.ensures.added in
    omega arith
