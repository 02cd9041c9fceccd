use Rattle.std.proofs.Common.{◌≡◌, List, ℕ, sym, ap, subst, ◌∙◌}
use Rattle.hall_core.specs.Facts.{Attached}
use Rattle.shelf_machine.specs.Machine.{AreIndexes, AreKept, KeepsSafe, shelf_or_none, shelf_under, units_of}
use Rattle.shelf_machine.specs.Opening.{AreSettledImages, names_of}
use Rattle.shelf_machine.proofs.HallShelves.{kept_settled}
use Rattle.shelf_machine.proofs.Openings.{opened_safe}
use Rattle.shelf_machine.specs.ReadyPacks.{vols_of}
use Rattle.shelf_machine.proofs.ReadyPacks.{ready_by}
use Rattle.shelf_machine.proofs.machine.HallShelf.open.Goals as goal

pub invariant_of-result : goal.invariant_of-result
invariant_of-result g c =
    let files = (g.H.Hall.meaning c.open_packs.new.hall).state in
    let vols = vols_of c.in-Ok.packs.items in
    let units = c.in-Ok.ensures.faults.units in
    record {
      indexes = subst (λ (us : List Attached). AreIndexes us vols) (sym units) c.in-Ok.ensures.opened.indexes;
      ready = λ sound. ready_by g.H.Hall.tells (g.H.Hall.facts c.open_packs.new.hall) (g.H.Hall.meaning c.open_packs.new.hall) c.in-Ok.packs.items
          (subst (λ (us : List Attached). AreIndexes us vols) (sym units) c.in-Ok.ensures.opened.indexes) c.in-Ok.ensures.opened.order
          (λ told. subst (λ (us : List Attached). AreKept files us vols) (sym units) (c.in-Ok.ensures.files told).kept)
          (λ told. c.in-Ok.ensures.known told) (λ told. c.in-Ok.ensures.held told);
      slot = λ sound. tt;
      pending = λ sound told. (c.in-Ok.ensures.files told).durable;
    }

pub returns-in-Ok-clause-shelf : goal.returns-in-Ok-clause-shelf
returns-in-Ok-clause-shelf g c told =
    let attached = (g.H.Hall.facts c.args.hall).units in
    let now = (g.H.Hall.facts c.open_packs.new.hall).units in
    let m = g.H.Hall.meaning c.args.hall in
    let m' = g.H.Hall.meaning c.open_packs.new.hall in
    let vols = vols_of c.in-Ok.packs.items in
    let opened = c.in-Ok.ensures.opened in
    let run = c.in-Ok.ensures.files told in
    let numbers : names_of attached (units_of vols) ≡ names_of attached c.args.units.now = ap (names_of attached) opened.numbers in
    let names : names_of now (units_of vols) ≡ names_of attached c.args.units.now = ap (λ (us : List Attached). names_of us (units_of vols)) c.in-Ok.ensures.faults.units ∙ numbers in
    record {
      shelf = run.shelf;
      before = run.before;
      after = run.after;
      state = ap (λ (ns : List (List ℕ)). shelf_under ns m'.state) names ∙ ap shelf_or_none run.after;
      settled = subst (λ (ns : List (List ℕ)). AreSettledImages ns m'.state) numbers (kept_settled m'.state attached vols run.kept);
      durable = run.durable;
      promise = λ t early just. subst (λ (ns : List (List ℕ)). KeepsSafe ns vols m' t m.state) (sym names)
          (opened_safe attached vols (names_of attached c.args.units.now) m m' run.shelf numbers opened.indexes run.kept run.before run.after run.safe t early just);
    }
