use Rattle.std.proofs.Common.{IsTrue, refl, rules, ◌∙◌, ℕ, List, subst, ap}
use Rattle.std.specs.Prelude.{Err}
use Rattle.std.proofs.lemmas.Result.{on_ok_weaker}
use Rattle.hall_core.specs.Images.{image_in}
use Rattle.pds_directory.specs.Directories.{broken_in}
use Rattle.seq_access.specs.Bodies.{FindsBroken}
use Rattle.vol_model.specs.declared.answers.CheckErr.{CheckErr}
use Rattle.vtoc_index.specs.Index.{IsMounted}
use Rattle.vtoc_index.specs.declared.vol.Vol.{Vol}
use Rattle.mount_repair.specs.Walks.{is_packed}
use Rattle.mount_repair.proofs.OtherBuffers.{back, same_image}
use Rattle.mount_repair.proofs.WalkedBodies.{held_library, named_slot, noted_dir, packed_unread, read_broken, read_whole, sound_noted, start_of, unread_dir, unread_kind}
use Rattle.mount_repair.proofs.walk.walk_part.Given.{Over}
use Rattle.mount_repair.proofs.walk.walk_part.Goals.{After-check_part_records}
use Rattle.mount_repair.proofs.walk.walk_part.Goals as goal

pub returns-in-Err-clause-kind : goal.returns-in-Err-clause-kind
returns-in-Err-clause-kind g c told =
    let image = image_in (g.H.Hall.meaning c.args.hall.now) (g.H.Hall.facts c.args.hall.now) c.args.vol.now.unit in
    unread_kind image c.args.vol.now c.args.set.now (c.requires.part told) c.in-Err.error c.unread.result c.unread.ensures (c.in-Err.ensures.dir told c.args.set.now c.requires.slot)

pub returns-in-Err-clause-notes : goal.returns-in-Err-clause-notes
returns-in-Err-clause-notes g c = record {
  directory = λ told.
      let image = image_in (g.H.Hall.meaning c.args.hall.now) (g.H.Hall.facts c.args.hall.now) c.args.vol.now.unit in
      unread_dir image c.args.vol.now c.args.set.now (c.requires.part told) c.args.slot c.args.walk.now.unpacked.items c.in-Err.error c.unread.result c.unread.ensures (c.in-Err.ensures.dir told c.args.set.now c.requires.slot);
  library = search rules;
  sound = search rules;
  volume = refl;
}

-- ---- what its records show of the image

shown : (g : Over) (c : After-check_part_records g) → IsTrue g.H.Hall.tells → FindsBroken c.check_part_records.result (broken_in (image_in (g.H.Hall.meaning c.args.hall.now) (g.H.Hall.facts c.args.hall.now) c.args.vol.now.unit) c.args.vol.now c.args.set.now)
shown g c told =
    back (g.H.Hall.meaning c.args.hall.now) (g.H.Hall.meaning c.walk_dir.new.hall) (g.H.Hall.facts c.args.hall.now) (g.H.Hall.facts c.walk_dir.new.hall) c.args.vol.now c.walk_dir.new.vol (c.in-Ok.ensures.same told).state c.in-Ok.ensures.faults.units c.in-Ok.ensures.others
    (λ (i : List ℕ) (w : Vol). FindsBroken c.check_part_records.result (broken_in i w c.args.set.now)) (c.check_part_records.ensures.broken told)

mounted : (g : Over) (c : After-check_part_records g) → IsTrue g.H.Hall.tells → IsMounted (image_in (g.H.Hall.meaning c.args.hall.now) (g.H.Hall.facts c.args.hall.now) c.args.vol.now.unit) c.check_part_records.new.vol
mounted g c told =
    subst (λ (i : List ℕ). IsMounted i c.check_part_records.new.vol) (same_image (g.H.Hall.meaning c.args.hall.now) (g.H.Hall.meaning c.walk_dir.new.hall) (g.H.Hall.facts c.args.hall.now) (g.H.Hall.facts c.walk_dir.new.hall) c.args.vol.now c.walk_dir.new.vol (c.in-Ok.ensures.same told).state c.in-Ok.ensures.faults.units c.in-Ok.ensures.others) (c.check_part_records.ensures.mounted told)

-- ---- all records can be read

pub returns-in-Ok-check_part_records-clause-notes : goal.returns-in-Ok-check_part_records-clause-notes
returns-in-Ok-check_part_records-clause-notes g c =
    let w = (goal.at.returns-in-Ok-check_part_records-clause-notes g c).After-check_part_records in
    let image = image_in (g.H.Hall.meaning c.args.hall.now) (g.H.Hall.facts c.args.hall.now) c.args.vol.now.unit in
    let v = c.args.vol.now in
    let f = c.args.set.now in
    record {
      directory = λ told.
          let dir = c.in-Ok.ensures.dir told f c.requires.slot in
          on_ok_weaker c.note.result
          (noted_dir image v f (c.requires.part told) c.in-Ok.found.dir dir c.args.slot c.args.walk.now.unpacked.items c.note.new.unpacked.items
          (read_whole image v f (c.requires.part told) c.in-Ok.found.dir dir (subst (λ r. FindsBroken r (broken_in image v f)) c.in-Ok-check_part_records.is (shown g w told))))
          c.note.ensures.noted;
      library = λ told.
          let dir = c.in-Ok.ensures.dir told f c.requires.slot in
          on_ok_weaker c.note.result
          (held_library image v f (c.requires.part told) c.in-Ok.found.dir dir c.args.slot c.track_at.result c.args.walk.now.libraries.items c.note.new.libraries.items c.requires.slot
          (start_of image v c.walk_dir.new.vol c.check_part_records.new.vol f c.track_at.result c.in-Ok.ensures.others c.check_part_records.ensures.others (mounted g w told) (c.requires.part told) c.track_at.ensures.track)
          (read_whole image v f (c.requires.part told) c.in-Ok.found.dir dir (subst (λ r. FindsBroken r (broken_in image v f)) c.in-Ok-check_part_records.is (shown g w told))))
          c.note.ensures.held;
      sound = λ sound.
          on_ok_weaker c.note.result
          (λ noted. sound_noted v.slots.items c.args.slot c.in-Ok.found.dir c.args.walk.now.unpacked.items c.note.new.unpacked.items (named_slot v.slots.items c.args.slot f c.requires.slot) noted sound)
          c.note.ensures.noted;
      volume = refl;
    }

-- ---- or they can't

pub returns-in-Err-Unreadable-clause-notes : goal.returns-in-Err-Unreadable-clause-notes
returns-in-Err-Unreadable-clause-notes g c =
    let w = (goal.at.returns-in-Err-Unreadable-clause-notes g c).After-check_part_records in
    let image = image_in (g.H.Hall.meaning c.args.hall.now) (g.H.Hall.facts c.args.hall.now) c.args.vol.now.unit in
    let v = c.args.vol.now in
    let f = c.args.set.now in
    record {
      directory = λ told.
          is_packed (packed_unread image v f (c.requires.part told) c.in-Err-Unreadable.track
          (read_broken image v f (c.requires.part told) c.in-Ok.found.dir (c.in-Ok.ensures.dir told f c.requires.slot) c.in-Err-Unreadable.track
          (subst (λ r. FindsBroken r (broken_in image v f)) (c.in-Err-Unreadable.is ∙ ap (λ (e : CheckErr). Err e) c.in-Err-Unreadable.field-0-is) (shown g w told))))
          (λ i. c.args.walk.now.unpacked.items);
      library = search rules;
      sound = search rules;
      volume = refl;
    }

pub returns-in-Err-Unreadable-clause-mounted : goal.returns-in-Err-Unreadable-clause-mounted
returns-in-Err-Unreadable-clause-mounted g c told = mounted g (goal.at.returns-in-Err-Unreadable-clause-mounted g c).After-check_part_records told

pub returns-clause-mounted : goal.returns-clause-mounted
returns-clause-mounted g c told = mounted g (goal.at.returns-clause-mounted g c).After-check_part_records told
