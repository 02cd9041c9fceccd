use Rattle.std.proofs.Common.{[], ◌∷◌, ◌++◌, ap, ◌∙◌, arith, length, take, drop, List, ℕ}
use Rattle.hall_core.specs.Facts.{unit_of}
use Rattle.stop_model.specs.Files.{File, file_of}
use Rattle.hall_core.specs.Held.{files_of, shapes_of}
use Rattle.stop_model.specs.Moments.{Same}
use Rattle.hall_core.specs.History.{passed}
use Rattle.hall_core.specs.Memory.{first_files, events_of, meaning_of, facts_of}
use Rattle.hall_core.proofs.CallLemmas.{moved, same_still, same_passed}
use Rattle.hall_core.proofs.UnitLemmas.{place_read, inside_pairs, unit_read}
use Rattle.hall_core.proofs.mem_hall.MemHallHall.read.Goals as goal

pub returns-then-lacks_room-clause-files : goal.returns-then-lacks_room-clause-files
returns-then-lacks_room-clause-files c = same_still (first_files c.args.self.now) (events_of c.args.self.now)

pub returns-then-fails-clause-files : goal.returns-then-fails-clause-files
returns-then-fails-clause-files c =
    let old = c.args.self.now in
    moved (λ m. Same (meaning_of old) m) (first_files old) (first_files c.record_plain.new.self) (events_of old ++ passed ∷ []) (events_of c.record_plain.new.self)
    c.record_plain.ensures.setup.first c.record_plain.ensures.noted.events (same_passed (first_files old) (events_of old))

pub returns-clause-files : goal.returns-clause-files
returns-clause-files c =
    let old = c.args.self.now in
    moved (λ m. Same (meaning_of old) m) (first_files old) (first_files c.record_plain.new.self) (events_of old ++ passed ∷ []) (events_of c.record_plain.new.self)
    c.record_plain.ensures.setup.first c.record_plain.ensures.noted.events (same_passed (first_files old) (events_of old))

pub index-requires-2 : goal.index-requires-2
index-requires-2 c =
    let old = c.args.self.now in
    let new = c.record_plain.new.self in
    let place = place_read (shapes_of (files_of new.files.items)) new.units.items c.args.unit c.index.result.now new.replay.firsts (rw (c.record_plain.ensures.files, c.record_plain.ensures.units) c.requires.attached) c.index.ensures in
    omega (arith, inside_pairs new.files.items c.index.result.now place.is_first)

pub copy_at-requires : goal.copy_at-requires
copy_at-requires c =
    let pair = unit_read c.args.self.now c.record_plain.new.self c.args.unit c.index.result.now c.index-2.result.now c.record_plain.ensures.files c.record_plain.ensures.units c.requires.attached c.index.ensures c.index-2.ensures in
    omega (arith, pair.size, c.requires.inside, ap length c.deref.ensures.value)

pub returns-clause-bytes : goal.returns-clause-bytes
returns-clause-bytes c =
    let old = c.args.self.now in
    let pair = unit_read old c.record_plain.new.self c.args.unit c.index.result.now c.index-2.result.now c.record_plain.ensures.files c.record_plain.ensures.units c.requires.attached c.index.ensures c.index-2.ensures in
    (c.index-2.result.now.1.items, ap (λ (l : List File). file_of l (unit_of (facts_of old).units c.args.unit).name) old.replay.present ∙ pair.file, c.copy_at.ensures ∙ ap (λ (image : List ℕ). take (length c.copy_at.new.buf) (drop c.args.at image)) c.deref.ensures.value)
