use Rattle.std.proofs.Common.{◌≡◌, ◌-◌, ◌<◌, Some, length, refl, sym, arith}
use Rattle.std.proofs.lemmas.Option.{slice_get_within}
use Rattle.hall_core.specs.Images.{image_in}
use Rattle.stop_model.proofs.MomentLemmas.{same_then}
use Rattle.pack_spec.specs.Blocks.{upto_last}
use Rattle.pack_spec.specs.Label.{records_on}
use Rattle.vtoc_index.proofs.HeldLemmas.{noted}
use Rattle.seq_access.specs.Bodies.{owned_in}
use Rattle.seq_access.proofs.Checked.{broken, read_as}
use Rattle.vtoc_sets.proofs.DataPlaces.{blocks_none, few_owned_tracks}
use Rattle.seq_access.proofs.Seeking.{blocks_found, finds_none, finds_some, none_unfit}
use Rattle.seq_access.proofs.reading.seek_on.Goals.{then-at-eq65535-via-then-at-eq65535, then-at-eq65535-via-else-at-eq65535+then-not-is_block}
use Rattle.seq_access.proofs.reading.seek_on.Goals as goal

pub returns-in_default-clause-faults : goal.returns-in_default-clause-faults
returns-in_default-clause-faults g c =
    noted refl refl refl (omega arith) c.differs.ensures.faults c.differs.ensures.rose
    (λ told.
    let set = c.requires.set told in
    c.requires.blocks told (blocks_none _ c.args.vol.now c.args.set.now set c.args.last c.args.at.tt (sym (c.in_default.ensures.track _ set.set))))

pub hold-requires-clause-there : goal.hold-requires-clause-there
hold-requires-clause-there g c told none =
    let set = c.requires.set told in
    let image = image_in (g.H.Hall.meaning c.args.hall.now) (g.H.Hall.facts c.args.hall.now) c.args.vol.now.unit in
    c.requires.blocks told (broken image c.args.vol.now c.args.set.now set c.args.last c.args.at.tt c.in-Some.track (sym (c.in-Some.ensures.track _ set.set)) c.in-Some.ensures.inside (read_as image _ _ _ _ c.in-Some.track _ c.requires.buffer c.upto_last.ensures none))

pub returns-then-from-len-clause-found : goal.returns-then-from-len-clause-found
returns-then-from-len-clause-found g c told =
    let set = c.requires.set told in
    let image = image_in (g.H.Hall.meaning c.args.hall.now) (g.H.Hall.facts c.args.hall.now) c.args.vol.now.unit in
    let b = c.hold.new.buf.records in
    let read : records_on image c.args.vol.now.geometry (upto_last c.args.last c.args.at.tt) c.in-Some.track ≡ Some b.records =
    read_as image _ _ _ _ c.in-Some.track _ c.requires.buffer c.upto_last.ensures (c.in_ok-hold.ensures.records told) in
    finds_none _ c.args.at b (blocks_found image c.args.vol.now c.args.set.now set c.args.last c.args.at.tt c.in-Some.track (sym (c.in-Some.ensures.track _ set.set)) c.in-Some.ensures.inside b.records read (c.requires.blocks told))
    (omega (arith, c.if-from-len.true, c.from.ensures, c.len.ensures))

pub returns-then-at-eq65535-clause-same : goal.returns-then-at-eq65535-clause-same
returns-then-at-eq65535-clause-same g c told = same_then (c.in_ok-hold.ensures.same told) (c.differs-then-at-eq65535.ensures.files told)

pub returns-then-at-eq65535-clause-faults : goal.returns-then-at-eq65535-clause-faults
returns-then-at-eq65535-clause-faults g c =
    let was = c.in_ok-hold.ensures.faults in
    noted was.units was.references was.prints was.later c.differs-then-at-eq65535.ensures.faults c.differs-then-at-eq65535.ensures.rose
    (λ told.
    let set = c.requires.set told in
    let image = image_in (g.H.Hall.meaning c.args.hall.now) (g.H.Hall.facts c.args.hall.now) c.args.vol.now.unit in
    let b = c.hold.new.buf.records in
    let there = sym (c.in-Some.ensures.track _ set.set) in
    let read : records_on image c.args.vol.now.geometry (upto_last c.args.last c.args.at.tt) c.in-Some.track ≡ Some b.records =
    read_as image _ _ _ _ c.in-Some.track _ c.requires.buffer c.upto_last.ensures (c.in_ok-hold.ensures.records told) in
    elim c.then-at-eq65535.branch [
      | then-at-eq65535-via-then-at-eq65535 w ↦
          let low : c.args.at.tt < length (owned_in image c.args.vol.now c.args.set.now) = slice_get_within (owned_in image c.args.vol.now c.args.set.now) c.args.at.tt c.in-Some.track there in
          let few : length (owned_in image c.args.vol.now c.args.set.now) < 65535 = few_owned_tracks image c.args.vol.now c.args.set.now set in
          omega (arith, w.if-at-eq65535.true, low, few)
      | then-at-eq65535-via-else-at-eq65535+then-not-is_block w ↦
          none_unfit image c.args.vol.now c.args.set.now set c.args.last c.args.at.tt c.in-Some.track there c.in-Some.ensures.inside b.records read (c.requires.blocks told) (c.args.at.r - 1) w.if-not-is_block.ensures
    ])

pub returns-clause-found : goal.returns-clause-found
returns-clause-found g c told =
    let set = c.requires.set told in
    let image = image_in (g.H.Hall.meaning c.args.hall.now) (g.H.Hall.facts c.args.hall.now) c.args.vol.now.unit in
    let b = c.hold.new.buf.records in
    let read : records_on image c.args.vol.now.geometry (upto_last c.args.last c.args.at.tt) c.in-Some.track ≡ Some b.records =
    read_as image _ _ _ _ c.in-Some.track _ c.requires.buffer c.upto_last.ensures (c.in_ok-hold.ensures.records told) in
    finds_some _ c.args.at c.args.at b (blocks_found image c.args.vol.now c.args.set.now set c.args.last c.args.at.tt c.in-Some.track (sym (c.in-Some.ensures.track _ set.set)) c.in-Some.ensures.inside b.records read (c.requires.blocks told))
    c.requires.number (omega (arith, c.if-from-len.false, c.from.ensures, c.len.ensures))
