use Rattle.std.proofs.Common.{refl, ◌∙◌, ap, arith, rules}
use Rattle.std.specs.Prelude.{Ok}
use Rattle.record_files.specs.Streams.{Stream}
use Rattle.record_files.proofs.AfterLemmas.{nothing_none, nothing_then}
use Rattle.iebupdte_util.proofs.checking.walk.Goals as goal

pub loop-init : goal.loop-init
loop-init g c = record {
  broken = λ told. refl;
  order = λ told. refl;
  fits = λ told. refl;
  runs = λ told. nothing_none g.M.Machine.tells_prints (g.M.Machine.meaning c.args.machine.now) (Ok tt);
  promise = λ told t known early kept. kept;
  count = refl;
  call = search rules;
}

pub loop-smaller : goal.loop-smaller
loop-smaller g c = c.in_ok-advance.ensures.fewer c.in-Record.is

pub loop-preserved : goal.loop-preserved
loop-preserved g c =
    let inv = c.loop.invariant in
    record {
      broken = λ told. inv.broken told ∙ ap (λ (st : Stream). st.broken) (rw (c.in-Record.is, (inv.runs told).state) at (c.in_ok-advance.ensures.gives told));
      order = λ told. let checks = rw (c.in-Record.is, (inv.runs told).state) at (c.in_ok-advance.ensures.checks told) in checks.0 ∙ inv.order told;
      fits = λ told. let checks = rw (c.in-Record.is, (inv.runs told).state) at (c.in_ok-advance.ensures.checks told) in checks.1 ∙ inv.fits told;
      runs = λ told. nothing_then (Ok tt) (inv.runs told) (c.advance.ensures.runs told);
      promise = λ told t known early kept. c.advance.ensures.promise told t known (omega (arith, early, (inv.runs told).moments.later)) (inv.promise told t known early kept);
      count = c.advance.ensures.count ∙ inv.count;
      call = search rules;
    }

pub returns-in-End-clause-walked : goal.returns-in-End-clause-walked
returns-in-End-clause-walked g c told =
    let inv = c.loop.invariant in
    let checks = rw (c.in-End.is, (inv.runs told).state) at (c.in_ok-advance.ensures.checks told) in
    (inv.broken told ∙ ap (λ (st : Stream). st.broken) (rw (c.in-End.is, (inv.runs told).state) at (c.in_ok-advance.ensures.gives told)), checks.0 ∙ inv.order told, checks.1 ∙ inv.fits told)

pub returns-in-End-clause-runs : goal.returns-in-End-clause-runs
returns-in-End-clause-runs g c told = nothing_then _ (c.loop.invariant.runs told) (c.advance.ensures.runs told)

pub returns-in-Broken-clause-walked : goal.returns-in-Broken-clause-walked
returns-in-Broken-clause-walked g c told =
    let inv = c.loop.invariant in
    inv.broken told ∙ ap (λ (st : Stream). st.broken) (rw (c.in-Broken.is, (inv.runs told).state) at (c.in_ok-advance.ensures.gives told))

pub returns-in-Broken-clause-runs : goal.returns-in-Broken-clause-runs
returns-in-Broken-clause-runs g c told = nothing_then _ (c.loop.invariant.runs told) (c.advance.ensures.runs told)
