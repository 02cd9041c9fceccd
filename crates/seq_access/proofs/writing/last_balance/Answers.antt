use Rattle.std.proofs.Common.{◌≡◌, List, ℕ, arith, refl, subst, sym}
use Rattle.dscb_codec.specs.declared.F1.{F1}
use Rattle.hall_core.specs.Images.{image_in}
use Rattle.stop_model.proofs.MomentLemmas.{same_then}
use Rattle.vtoc_index.specs.Index.{IsMounted}
use Rattle.vtoc_sets.specs.Sets.{HasSet}
use Rattle.seq_access.specs.Writing.{AreThere, HoldsLast}
use Rattle.seq_access.proofs.EndSteps.{there_put}
use Rattle.seq_access.proofs.PutCalls.{image_as}
use Rattle.seq_access.proofs.WritersKept.{same_set}
use Rattle.seq_access.proofs.writing.last_balance.Goals as goal

pub set_at-requires-clause-set : goal.set_at-requires-clause-set
set_at-requires-clause-set g c told = let is = c.requires.writing told in (is.f, is.slot)

pub returns-in_err-set-clause-mounted : goal.returns-in_err-set-clause-mounted
returns-in_err-set-clause-mounted g c told = (c.requires.writing told).set.mounted

pub hold_last-requires-clause-set : goal.hold_last-requires-clause-set
hold_last-requires-clause-set g c told =
    let v = c.args.vol.now in
    let m0 = g.H.Hall.meaning c.args.hall.now in
    let m1 = g.H.Hall.meaning c.set_at.new.hall in
    let f0 = g.H.Hall.facts c.args.hall.now in
    let f1 = g.H.Hall.facts c.set_at.new.hall in
    let is = c.requires.writing told in
    let same : is.f ≡ c.in_ok-set.set = same_set v c.args.writer.slot is.f c.in_ok-set.set is.slot c.in_ok-set.ensures.set in
    let image = image_as m0 m1 f0 f1 v.unit v.unit (c.in_ok-set.ensures.same told).state c.in_ok-set.ensures.faults.units refl in
    subst (λ (f : F1). HasSet (image_in m1 f1 v.unit) v f) same (subst (λ (i : List ℕ). HasSet i v is.f) (sym image) is.set)

pub hold_last-requires-clause-there : goal.hold_last-requires-clause-there
hold_last-requires-clause-there g c told =
    let v = c.args.vol.now in
    let w = c.args.writer in
    let m0 = g.H.Hall.meaning c.args.hall.now in
    let m1 = g.H.Hall.meaning c.set_at.new.hall in
    let f0 = g.H.Hall.facts c.args.hall.now in
    let f1 = g.H.Hall.facts c.set_at.new.hall in
    let is = c.requires.writing told in
    let same : is.f ≡ c.in_ok-set.set = same_set v w.slot is.f c.in_ok-set.set is.slot c.in_ok-set.ensures.set in
    let image = image_as m0 m1 f0 f1 v.unit v.unit (c.in_ok-set.ensures.same told).state c.in_ok-set.ensures.faults.units refl in
    let there : AreThere (image_in m0 f0 v.unit) v is.f w.last = there_put (image_in m0 f0 v.unit) v w is c.requires.put (omega arith) (omega arith) in
    subst (λ (f : F1). AreThere (image_in m1 f1 v.unit) v f w.last) same (subst (λ (i : List ℕ). AreThere i v is.f w.last) (sym image) there)

pub returns-in_err-hold_last-clause-same : goal.returns-in_err-hold_last-clause-same
returns-in_err-hold_last-clause-same g c told = same_then (c.in_ok-set.ensures.same told) (c.hold_last.ensures.same told)

pub returns-in_err-hold_last-clause-mounted : goal.returns-in_err-hold_last-clause-mounted
returns-in_err-hold_last-clause-mounted g c told =
    let v = c.args.vol.now in
    let image = image_as (g.H.Hall.meaning c.args.hall.now) (g.H.Hall.meaning c.set_at.new.hall) (g.H.Hall.facts c.args.hall.now) (g.H.Hall.facts c.set_at.new.hall) v.unit v.unit (c.in_ok-set.ensures.same told).state c.in_ok-set.ensures.faults.units refl in
    subst (λ (i : List ℕ). IsMounted i c.hold_last.new.vol) image (c.hold_last.ensures.mounted told)

pub returns-clause-held : goal.returns-clause-held
returns-clause-held g c told is =
    let v = c.args.vol.now in
    let w = c.args.writer in
    let v2 = c.hold_last.new.vol in
    let image = image_as (g.H.Hall.meaning c.args.hall.now) (g.H.Hall.meaning c.set_at.new.hall) (g.H.Hall.facts c.args.hall.now) (g.H.Hall.facts c.set_at.new.hall) v.unit v.unit (c.in_ok-set.ensures.same told).state c.in_ok-set.ensures.faults.units refl in
    let same : is.f ≡ c.in_ok-set.set = same_set v w.slot is.f c.in_ok-set.set is.slot c.in_ok-set.ensures.set in
    subst (λ (f : F1). HoldsLast (image_in (g.H.Hall.meaning c.args.hall.now) (g.H.Hall.facts c.args.hall.now) v.unit) v2 f w.last) (sym same)
    (subst (λ (i : List ℕ). HoldsLast i v2 c.in_ok-set.set w.last) image (c.in_ok-hold_last.ensures.held told))

pub returns-clause-same : goal.returns-clause-same
returns-clause-same g c told = same_then (c.in_ok-set.ensures.same told) (c.in_ok-hold_last.ensures.same told)

pub returns-clause-mounted : goal.returns-clause-mounted
returns-clause-mounted g c told =
    let v = c.args.vol.now in
    let image = image_as (g.H.Hall.meaning c.args.hall.now) (g.H.Hall.meaning c.set_at.new.hall) (g.H.Hall.facts c.args.hall.now) (g.H.Hall.facts c.set_at.new.hall) v.unit v.unit (c.in_ok-set.ensures.same told).state c.in_ok-set.ensures.faults.units refl in
    subst (λ (i : List ℕ). IsMounted i c.hold_last.new.vol) image (c.in_ok-hold_last.ensures.mounted told)
