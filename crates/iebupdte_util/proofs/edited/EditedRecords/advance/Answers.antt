use Rattle.std.proofs.Common.{refl, sym, ◌∙◌, arith, rules}
use Rattle.std.specs.Prelude.{Ok}
use Rattle.record_files.proofs.AfterLemmas.{nothing_none, nothing_then}
use Rattle.iebupdte_util.proofs.EditedLemmas.{end_edited, end_fits, end_rises, fault_edited, filled_edited, filled_fits, part_edited, part_fits, record_edited, record_fits}
use Rattle.iebupdte_util.proofs.edited.EditedRecords.advance.Goals as goal

pub loop-self-init : goal.loop-self-init
loop-self-init g c = record {
  gives = λ told. refl;
  order = λ told. refl;
  fits = λ told. refl;
  fewer = omega arith;
  runs = λ told. nothing_none g.M.Machine.tells_prints (g.M.Machine.meaning c.args.machine.now) (Ok tt);
  writer = λ told. refl;
  promise = λ told t known early kept. kept;
  count = refl;
  call = search rules;
}

pub take-requires : goal.take-requires
take-requires g c = c.in_ok-fill.ensures.next c.if-not-branch.false

pub loop-self-smaller : goal.loop-self-smaller
loop-self-smaller g c =
    let less = c.in_ok-fill.ensures.fewer c.if-not-branch.false in
    let fewer = (rw c.in-Part.is at c.in_ok-take.ensures).fewer in
    omega (arith, less, fewer)

pub loop-self-preserved : goal.loop-self-preserved
loop-self-preserved g c =
    let inv = c.loop-self.invariant in
    let s = (g.M.Machine.meaning c.args.machine.now).state in
    let e = c.loop-self.self in
    let f = record e { olds = c.fill.new.self } in
    let h = c.take.new.self in
    let part = rw c.in-Part.is at c.in_ok-take.ensures in
    let less = c.in_ok-fill.ensures.fewer c.if-not-branch.false in
    let fewer = part.fewer in
    record {
      gives = λ told.
          let fills = rw (c.if-not-branch.false, (inv.runs told).state) at (c.in_ok-fill.ensures.fills told) in
          inv.gives told ∙ filled_edited e c.fill.new.self s fills.0 ∙ part_edited f h s part;
      order = λ told.
          let fills = rw (c.if-not-branch.false, (inv.runs told).state) at (c.in_ok-fill.ensures.fills told) in
          part.order s ∙ sym fills.1 ∙ inv.order told;
      fits = λ told.
          let fills = rw (c.if-not-branch.false, (inv.runs told).state) at (c.in_ok-fill.ensures.fills told) in
          part_fits f h s part ∙ sym (filled_fits e c.fill.new.self s fills.0) ∙ inv.fits told;
      fewer = omega (arith, inv.fewer, less, fewer);
      runs = λ told. nothing_then (Ok tt) (inv.runs told) (c.fill.ensures.runs told);
      writer = λ told. c.fill.ensures.writer told ∙ inv.writer told;
      promise = λ told t known early kept. c.fill.ensures.promise told t known (omega (arith, early, (inv.runs told).moments.later)) (inv.promise told t known early kept);
      count = c.fill.ensures.count ∙ inv.count;
      call = search rules;
    }

pub returns-then-not-branch-clause-gives : goal.returns-then-not-branch-clause-gives
returns-then-not-branch-clause-gives g c told =
    let inv = c.loop-self.invariant in
    let s = (g.M.Machine.meaning c.args.machine.now).state in
    inv.gives told ∙ fault_edited c.loop-self.self s (rw (c.if-not-branch.true, (inv.runs told).state) at (c.in_ok-fill.ensures.fills told))

pub returns-then-not-branch-clause-runs : goal.returns-then-not-branch-clause-runs
returns-then-not-branch-clause-runs g c told = nothing_then _ (c.loop-self.invariant.runs told) (c.fill.ensures.runs told)

pub returns-in-Record-clause-gives : goal.returns-in-Record-clause-gives
returns-in-Record-clause-gives g c told =
    let inv = c.loop-self.invariant in
    let s = (g.M.Machine.meaning c.args.machine.now).state in
    let e = c.loop-self.self in
    let fills = rw (c.if-not-branch.false, (inv.runs told).state) at (c.in_ok-fill.ensures.fills told) in
    inv.gives told ∙ filled_edited e c.fill.new.self s fills.0 ∙ record_edited (record e { olds = c.fill.new.self }) c.take.new.self s (rw c.in-Record.is at c.in_ok-take.ensures)

pub returns-in-Record-clause-checks : goal.returns-in-Record-clause-checks
returns-in-Record-clause-checks g c told =
    let inv = c.loop-self.invariant in
    let s = (g.M.Machine.meaning c.args.machine.now).state in
    let e = c.loop-self.self in
    let gave = rw c.in-Record.is at c.in_ok-take.ensures in
    let fills = rw (c.if-not-branch.false, (inv.runs told).state) at (c.in_ok-fill.ensures.fills told) in
    (gave.order s ∙ sym fills.1 ∙ inv.order told, record_fits (record e { olds = c.fill.new.self }) c.take.new.self s gave ∙ sym (filled_fits e c.fill.new.self s fills.0) ∙ inv.fits told)

pub returns-in-Record-clause-fewer : goal.returns-in-Record-clause-fewer
returns-in-Record-clause-fewer g c given =
    let less = c.in_ok-fill.ensures.fewer c.if-not-branch.false in
    let fewer = (rw c.in-Record.is at c.in_ok-take.ensures).fewer in
    omega (arith, c.loop-self.invariant.fewer, less, fewer)

pub returns-in-Record-clause-runs : goal.returns-in-Record-clause-runs
returns-in-Record-clause-runs g c told = nothing_then _ (c.loop-self.invariant.runs told) (c.fill.ensures.runs told)

pub returns-in-End-clause-gives : goal.returns-in-End-clause-gives
returns-in-End-clause-gives g c told =
    let inv = c.loop-self.invariant in
    let s = (g.M.Machine.meaning c.args.machine.now).state in
    let e = c.loop-self.self in
    let fills = rw (c.if-not-branch.false, (inv.runs told).state) at (c.in_ok-fill.ensures.fills told) in
    inv.gives told ∙ filled_edited e c.fill.new.self s fills.0 ∙ end_edited (record e { olds = c.fill.new.self }) c.take.new.self s (rw c.in-End.is at c.in_ok-take.ensures)

pub returns-in-End-clause-checks : goal.returns-in-End-clause-checks
returns-in-End-clause-checks g c told =
    let inv = c.loop-self.invariant in
    let s = (g.M.Machine.meaning c.args.machine.now).state in
    let e = c.loop-self.self in
    let f = record e { olds = c.fill.new.self } in
    let gave = rw c.in-End.is at c.in_ok-take.ensures in
    let fills = rw (c.if-not-branch.false, (inv.runs told).state) at (c.in_ok-fill.ensures.fills told) in
    (end_rises f c.take.new.self s gave ∙ sym fills.1 ∙ inv.order told, end_fits f c.take.new.self s gave ∙ sym (filled_fits e c.fill.new.self s fills.0) ∙ inv.fits told)

pub returns-in-End-clause-runs : goal.returns-in-End-clause-runs
returns-in-End-clause-runs g c told = nothing_then _ (c.loop-self.invariant.runs told) (c.fill.ensures.runs told)
