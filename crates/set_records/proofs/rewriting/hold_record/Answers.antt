use Rattle.std.proofs.Common.{◌≡◌, ◌-◌, Bool, true, false, Some, sym, ap, ◌∙◌, subst}
use Rattle.std.specs.Prelude.{IsTrue, slice_get}
use Rattle.hall_core.specs.Images.{image_in}
use Rattle.stop_model.proofs.MomentLemmas.{same_then}
use Rattle.pack_spec.specs.Label.{records_on}
use Rattle.vtoc_index.specs.declared.vol.Vol.{Vol}
use Rattle.vtoc_sets.specs.Sets.{owned_in}
use Rattle.set_records.specs.Rewriting.{AreHeld, HoldsRecord}
use Rattle.set_records.proofs.Tellings.{none_there, noted_device, noted_first, same_track, tells_not}
use Rattle.set_records.proofs.rewriting.hold_record.Goals as goal

pub returns-in_default-clause-faults : goal.returns-in_default-clause-faults
returns-in_default-clause-faults g c =
    let image = image_in (g.H.Hall.meaning c.args.hall.now) (g.H.Hall.facts c.args.hall.now) c.args.vol.now.unit in
    let v : Vol = c.args.vol.now in
    let never : IsTrue g.H.Hall.tells → ⊥ = λ told.
    let found = c.requires.there told in
    none_there (slice_get (owned_in image v c.args.set.now) c.args.place.tt) found.track found.owned (c.in_default.ensures.track image (c.requires.set told)) in
    tells_not _ g.H.Hall.tells never (λ untold. noted_first _ _ _ c.differs.ensures.faults (c.differs.ensures.rose untold))

pub returns-then-not-branch-clause-same : goal.returns-then-not-branch-clause-same
returns-then-not-branch-clause-same g c = λ told. same_then (c.holds_record.ensures.same told) (c.differs-then-not-branch.ensures.files told)

pub returns-then-not-branch-clause-faults : goal.returns-then-not-branch-clause-faults
returns-then-not-branch-clause-faults g c =
    let image = image_in (g.H.Hall.meaning c.args.hall.now) (g.H.Hall.facts c.args.hall.now) c.args.vol.now.unit in
    let v : Vol = c.args.vol.now in
    let never : IsTrue g.H.Hall.tells → ⊥ = λ told.
    let found = c.requires.there told in
    let track : found.track ≡ c.in-Some.track = same_track found.track c.in-Some.track (sym found.owned ∙ sym (c.in-Some.ensures.track image (c.requires.set told))) in
    let held : AreHeld c.in_ok-holds_record.field-0 c.args.keys c.args.contents (records_on image v.geometry (Some c.args.place.r) c.in-Some.track) c.holds_record.new.vol.buf.records (c.args.place.r - 1) = c.in_ok-holds_record.ensures.held told in
    let other : c.in_ok-holds_record.field-0 ≡ false = c.if-not-branch.true in
    let none : AreHeld false c.args.keys c.args.contents (records_on image v.geometry (Some c.args.place.r) c.in-Some.track) c.holds_record.new.vol.buf.records (c.args.place.r - 1) = subst (λ (b : Bool). AreHeld b c.args.keys c.args.contents (records_on image v.geometry (Some c.args.place.r) c.in-Some.track) c.holds_record.new.vol.buf.records (c.args.place.r - 1)) other held in
    none found.records (ap (records_on image v.geometry (Some c.args.place.r)) (sym track) ∙ found.read) found.lengths in
    tells_not _ g.H.Hall.tells never (λ untold. noted_device c.in_ok-holds_record.field-0 _ _ _ _ c.in_ok-holds_record.ensures.faults c.differs-then-not-branch.ensures.faults (c.differs-then-not-branch.ensures.rose untold))

pub returns-clause-held : goal.returns-clause-held
returns-clause-held g c = λ told.
    let image = image_in (g.H.Hall.meaning c.args.hall.now) (g.H.Hall.facts c.args.hall.now) c.args.vol.now.unit in
    let v : Vol = c.args.vol.now in
    let now : Vol = record v { buf = c.holds_record.new.vol.buf } in
    let held : AreHeld c.in_ok-holds_record.field-0 c.args.keys c.args.contents (records_on image v.geometry (Some c.args.place.r) c.in-Some.track) c.holds_record.new.vol.buf.records (c.args.place.r - 1) = c.in_ok-holds_record.ensures.held told in
    let here : c.in_ok-holds_record.field-0 ≡ true = c.if-not-branch.false in
    let read : AreHeld true c.args.keys c.args.contents (records_on image v.geometry (Some c.args.place.r) c.in-Some.track) c.holds_record.new.vol.buf.records (c.args.place.r - 1) = subst (λ (b : Bool). AreHeld b c.args.keys c.args.contents (records_on image v.geometry (Some c.args.place.r) c.in-Some.track) c.holds_record.new.vol.buf.records (c.args.place.r - 1)) here held in
    let holds : HoldsRecord image now c.args.set.now c.args.place = record {
      owned = sym (c.in-Some.ensures.track image (c.requires.set told)) ∙ ap Some (sym c.holds_record.ensures.track);
      stand = ap (records_on image v.geometry (Some c.args.place.r)) c.holds_record.ensures.track ∙ read;
    } in
    subst (λ (u : Vol). HoldsRecord image u c.args.set.now c.args.place) (sym c.holds_record.ensures.others) holds
