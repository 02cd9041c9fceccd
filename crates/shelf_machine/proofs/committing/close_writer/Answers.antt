-- The ends are placed, and what a writer placed becomes its set's.
use Rattle.std.proofs.Common.{◌≡◌, IsTrue, ℕ, Ok, Err, refl, sym, ap, subst, arith}
use Rattle.vol_model.specs.Calls.{counted}
use Rattle.vol_model.specs.declared.answers.MachErr.{MachErr}
use Rattle.shelf_machine.specs.Committing.{ClosesOn}
use Rattle.shelf_machine.proofs.ClosedWriters.{all_placed, closes_done, closes_failed, closes_stopped}
use Rattle.shelf_machine.proofs.FilledSets.{places_well}
use Rattle.shelf_machine.specs.ReadyPacks.{caches_of, vols_of}
use Rattle.shelf_machine.specs.PendingShelves.{kept_in}
use Rattle.shelf_machine.proofs.ReadyPacks.{ready_by}
use Rattle.vol_model.specs.declared.answers.MachErr.TheVariants.{Device}
use Rattle.shelf_machine.proofs.committing.close_writer.Given.{Over}
use Rattle.shelf_machine.proofs.committing.close_writer.Goals.{After-commit_on}
use Rattle.shelf_machine.proofs.committing.close_writer.Goals as goal

-- the ends are placed and the commit is called: the writer is closed where it is done, and where the device failed
closes : (g : Over) (c : After-commit_on g) → IsTrue g.H.Hall.tells
    → (c.commit_on.result ≡ Ok (tt {0})
    → ClosesOn (g.H.Hall.facts c.args.hall.now).units (g.H.Hall.facts c.commit_on.new.hall).units (vols_of c.args.packs.now.items) (vols_of c.commit_on.new.packs.items) c.args.writer.now c.place_ends.new.writer
    (g.H.Hall.meaning c.args.hall.now) (g.H.Hall.meaning c.commit_on.new.hall) c.args.done.now (counted c.place_ends.new.done 1) (Ok (tt {0})))
    × ((l : ℕ) → ClosesOn (g.H.Hall.facts c.args.hall.now).units (g.H.Hall.facts c.commit_on.new.hall).units (vols_of c.args.packs.now.items) (vols_of c.commit_on.new.packs.items) c.args.writer.now c.place_ends.new.writer
    (g.H.Hall.meaning c.args.hall.now) (g.H.Hall.meaning c.commit_on.new.hall) c.args.done.now l (Err Device))
closes g c told =
    let us = (g.H.Hall.facts c.args.hall.now).units in
    let mid = (g.H.Hall.facts c.place_ends.new.hall).units in
    let us' = (g.H.Hall.facts c.commit_on.new.hall).units in
    let vols = vols_of c.args.packs.now.items in
    let vols1 = vols_of c.place_ends.new.packs.items in
    let vols' = vols_of c.commit_on.new.packs.items in
    let known' = caches_of c.commit_on.new.packs.items in
    let w = c.args.writer.now in
    let w1 = c.place_ends.new.writer in
    let m = g.H.Hall.meaning c.args.hall.now in
    let m1 = g.H.Hall.meaning c.place_ends.new.hall in
    let m' = g.H.Hall.meaning c.commit_on.new.hall in
    let n = c.args.done.now in
    let k = c.place_ends.new.done in
    let well = places_well m us vols c.requires.writer.ready.indexes (kept_in c.requires.writer.ready told) w c.requires.writer.slot (c.requires.writer.pending told) c.place_ends.ensures.low in
    let run = c.in-Ok.ensures.shelf told in
    let all = all_placed us mid us' vols vols1 vols' w w1 w1 m m1 m' n k well run in
    let commits = c.commit_on.ensures.shelf told _ all in (
      closes_done us mid us' vols vols1 vols' w w1 w1 m m1 m' n k well run known' c.commit_on.result commits,
      closes_failed us mid us' vols vols1 vols' w w1 w1 m m1 m' n k well run known' c.commit_on.result commits,
    )

pub returns-in-Ok-commit_on-clause-shelf : goal.returns-in-Ok-commit_on-clause-shelf
returns-in-Ok-commit_on-clause-shelf g c told =
    let m = g.H.Hall.meaning c.args.hall.now in
    let m' = g.H.Hall.meaning c.commit_on.new.hall in
    let count : c.saturating_add.result ≡ counted c.place_ends.new.done 1 = omega (arith, c.saturating_add.ensures) in
    subst (λ (l : ℕ). ClosesOn (g.H.Hall.facts c.args.hall.now).units (g.H.Hall.facts c.commit_on.new.hall).units (vols_of c.args.packs.now.items) (vols_of c.commit_on.new.packs.items) c.args.writer.now c.place_ends.new.writer m m' c.args.done.now l (Ok (tt {0}))) (sym count)
    ((closes g (goal.at.returns-in-Ok-commit_on-clause-shelf g c).After-commit_on told).0 c.in-Ok-commit_on.is)

pub returns-in-Ok-commit_on-clause-ready : goal.returns-in-Ok-commit_on-clause-ready
returns-in-Ok-commit_on-clause-ready g c sound =
    let us = (g.H.Hall.facts c.args.hall.now).units in
    let mid = (g.H.Hall.facts c.place_ends.new.hall).units in
    let us' = (g.H.Hall.facts c.commit_on.new.hall).units in
    let vols = vols_of c.args.packs.now.items in
    let vols1 = vols_of c.place_ends.new.packs.items in
    let vols' = vols_of c.commit_on.new.packs.items in
    let w = c.args.writer.now in
    let w1 = c.place_ends.new.writer in
    let m = g.H.Hall.meaning c.args.hall.now in
    let m1 = g.H.Hall.meaning c.place_ends.new.hall in
    let m' = g.H.Hall.meaning c.commit_on.new.hall in
    let n = c.args.done.now in
    let k = c.place_ends.new.done in
    let well = λ (told : IsTrue g.H.Hall.tells). places_well m us vols c.requires.writer.ready.indexes (kept_in c.requires.writer.ready told) w c.requires.writer.slot (c.requires.writer.pending told) c.place_ends.ensures.low in
    let commits = λ (told : IsTrue g.H.Hall.tells). c.in-Ok-commit_on.ensures.shelf told _ (all_placed us mid us' vols vols1 vols' w w1 w1 m m1 m' n k (well told) (c.in-Ok.ensures.shelf told)) in
    ready_by g.H.Hall.tells (g.H.Hall.facts c.commit_on.new.hall) m' c.commit_on.new.packs.items c.commit_on.ensures.indexes c.in-Ok-commit_on.ensures.order
    (λ told. (commits told).kept) (λ told. (commits told).bodies) (λ told. (commits told).held)

pub returns-in-Err-commit_on-clause-shelf : goal.returns-in-Err-commit_on-clause-shelf
returns-in-Err-commit_on-clause-shelf g c told = (closes g (goal.at.returns-in-Err-commit_on-clause-shelf g c).After-commit_on told).1 c.place_ends.new.done

pub returns-in-Err-clause-shelf : goal.returns-in-Err-clause-shelf
returns-in-Err-clause-shelf g c told =
    let us = (g.H.Hall.facts c.args.hall.now).units in
    let mid = (g.H.Hall.facts c.place_ends.new.hall).units in
    let vols = vols_of c.args.packs.now.items in
    let vols1 = vols_of c.place_ends.new.packs.items in
    let w = c.args.writer.now in
    let w1 = c.place_ends.new.writer in
    let m = g.H.Hall.meaning c.args.hall.now in
    let m1 = g.H.Hall.meaning c.place_ends.new.hall in
    let n = c.args.done.now in
    let k = c.place_ends.new.done in
    let well = places_well m us vols c.requires.writer.ready.indexes (kept_in c.requires.writer.ready told) w c.requires.writer.slot (c.requires.writer.pending told) c.place_ends.ensures.low in
    closes_stopped us mid mid vols vols1 vols1 w w1 w1 m m1 m1 n k well c.in-Err.error
    (λ is. c.in-Err.ensures.keeps.memory (ap (λ (e : MachErr). Err e) is)) (c.in-Err.ensures.shelf told)

pub commit_on-requires : goal.commit_on-requires
commit_on-requires g c = record { writer = record { ready = c.in-Ok.ensures.keeps.ready refl; slot = c.in-Ok.ensures.keeps.slot refl; pending = λ told. (c.in-Ok.ensures.shelf told).pending refl } }
