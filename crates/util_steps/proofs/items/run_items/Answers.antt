use Rattle.std.proofs.Common.{arith, rules}
use Rattle.util_steps.proofs.ItemLemmas.{items_code, items_count, items_further, items_run, items_stop}
use Rattle.util_steps.proofs.items.run_items.Goals as goal

pub returns-in_err-code-clause-runs : goal.returns-in_err-code-clause-runs
returns-in_err-code-clause-runs g c told =
    let m = g.M.Machine.meaning in
    items_stop (c.loop-code.invariant.so_far told) (g.M.Machine.status c.next.new.machine).done (g.W.Items.items c.next.new.self (m c.next.new.machine).state) c.in_err-code.field-0.0 c.from_residual.result c.from_residual.ensures.0 (rw c.in_err-code.was at (c.next.ensures.item told))

pub loop-code-preserved : goal.loop-code-preserved
loop-code-preserved g c =
    let m = g.M.Machine.meaning in
    let after = g.W.Items.items c.next.new.self (m c.next.new.machine).state in
    record {
      so_far = λ told. items_further (c.loop-code.invariant.so_far told) after c.in-Some.code c.higher-highest.result c.higher-highest.ensures (rw c.in-Some.is at (c.in_ok-code.ensures.item told));
      later = λ told. let next = (rw c.in-Some.is at (c.in_ok-code.ensures.item told)).3 in omega (arith, c.loop-code.invariant.later told, next.moments.later);
      promise = λ told t known early kept. c.next.ensures.promise told t known (omega (arith, early, c.loop-code.invariant.later told)) (c.loop-code.invariant.promise told t known early kept);
      small = search (rules, arith);
      call = search rules;
    }

pub returns-in-None-clause-runs : goal.returns-in-None-clause-runs
returns-in-None-clause-runs g c told =
    let m = g.M.Machine.meaning in
    items_run (c.loop-code.invariant.so_far told) (g.M.Machine.status c.next.new.machine).done (g.W.Items.items c.next.new.self (m c.next.new.machine).state) (rw c.in-None.is at (c.in_ok-code.ensures.item told))

pub returns-in-None-clause-code : goal.returns-in-None-clause-code
returns-in-None-clause-code g c told =
    let m = g.M.Machine.meaning in
    items_code (c.loop-code.invariant.so_far told) (g.M.Machine.status c.next.new.machine).done (g.W.Items.items c.next.new.self (m c.next.new.machine).state) (rw c.in-None.is at (c.in_ok-code.ensures.item told))

pub returns-in-None-clause-count : goal.returns-in-None-clause-count
returns-in-None-clause-count g c told =
    let m = g.M.Machine.meaning in
    items_count (c.loop-code.invariant.so_far told) (g.M.Machine.status c.next.new.machine).done (g.W.Items.items c.next.new.self (m c.next.new.machine).state) (rw c.in-None.is at (c.in_ok-code.ensures.item told))
