use Rattle.std.proofs.Common.{◌≡◌, ◌+◌, List, [], ◌∷◌, ℕ, drop, sym, ◌∙◌, ap, arith, rules}
use Rattle.std.specs.Prelude.{Some}
use Rattle.vol_model.specs.declared.contents.Shelf.{Shelf}
use Rattle.vol_model.specs.Writing.{set_on}
use Rattle.util_steps.proofs.Reporting.{has_said}
use Rattle.iehlist_util.specs.Lines.{extent_line}
use Rattle.iehlist_util.specs.Items.{extent_lines}
use Rattle.iehlist_util.proofs.Listings.{says_all, says_idle, says_more, says_stop, says_stop_idle}
use Rattle.iehlist_util.proofs.SetLemmas.{next_extent, no_extent}
use Rattle.iehlist_util.proofs.listing.say_extents.Goals as goal

pub returns-in_err-run-clause-says : goal.returns-in_err-run-clause-says
returns-in_err-run-clause-says g c told x at count =
    let durable = g.met.M.Machine.durable c.loop-k.machine told c.loop-k.invariant.call.sound in
    says_stop_idle (c.loop-k.invariant.so_far told x at count) c.from_residual.result c.from_residual.ensures.0 (c.read_extent.ensures.same told) durable

pub returns-in_err-say_extent-in-Some-clause-says : goal.returns-in_err-say_extent-in-Some-clause-says
returns-in_err-say_extent-in-Some-clause-says g c told x at count =
    let m = g.M.Machine.meaning in
    let durable = g.met.M.Machine.durable c.loop-k.machine told c.loop-k.invariant.call.sound in
    let so = says_idle (c.loop-k.invariant.so_far told x at count) (c.read_extent.ensures.same told) durable in
    let here : set_on (m c.loop-k.machine).state c.args.v c.args.dsn.now.bytes ≡ Some x = ap (λ (s : Shelf). set_on s c.args.v c.args.dsn.now.bytes) (c.loop-k.invariant.state told) ∙ at in
    let left = next_extent (m c.loop-k.machine).state c.args.v c.args.dsn.now.bytes x here c.loop-k.k c.in-Some.run' (sym c.in-Some.is ∙ c.in_ok-run.ensures.value told) in
    says_stop so (extent_line (c.loop-k.k + 1) c.in-Some.run' ∷ []) (extent_lines (c.loop-k.k + 1 + 1) (drop (c.loop-k.k + 1) x.extents)) c.from_residual-in_err-say_extent-in-Some.result c.from_residual-in_err-say_extent-in-Some.ensures.0 left (c.say_extent.ensures.says told).moments

pub returns-in-None-clause-says : goal.returns-in-None-clause-says
returns-in-None-clause-says g c told x at count =
    let m = g.M.Machine.meaning in
    let durable = g.met.M.Machine.durable c.loop-k.machine told c.loop-k.invariant.call.sound in
    let so = says_idle (c.loop-k.invariant.so_far told x at count) (c.read_extent.ensures.same told) durable in
    let here : set_on (m c.loop-k.machine).state c.args.v c.args.dsn.now.bytes ≡ Some x = ap (λ (s : Shelf). set_on s c.args.v c.args.dsn.now.bytes) (c.loop-k.invariant.state told) ∙ at in
    says_all so tt (no_extent (m c.loop-k.machine).state c.args.v c.args.dsn.now.bytes x here c.loop-k.k (sym c.in-None.is ∙ c.in_ok-run.ensures.value told))

pub loop-k-preserved : goal.loop-k-preserved
loop-k-preserved g c =
    let m = g.M.Machine.meaning in
    let so_far = c.loop-k.invariant in
    record {
      so_far = λ told x at count.
          let durable = g.met.M.Machine.durable c.loop-k.machine told c.loop-k.invariant.call.sound in
          let so = says_idle (c.loop-k.invariant.so_far told x at count) (c.read_extent.ensures.same told) durable in
          let here : set_on (m c.loop-k.machine).state c.args.v c.args.dsn.now.bytes ≡ Some x = ap (λ (s : Shelf). set_on s c.args.v c.args.dsn.now.bytes) (c.loop-k.invariant.state told) ∙ at in
          let left = next_extent (m c.loop-k.machine).state c.args.v c.args.dsn.now.bytes x here c.loop-k.k c.in-Some.run' (sym c.in-Some.is ∙ c.in_ok-run.ensures.value told) in
          let lines : List (List ℕ) = extent_line (c.loop-k.k + 1) c.in-Some.run' ∷ [] in
          says_more so lines (extent_lines (c.loop-k.k + 1 + 1) (drop (c.loop-k.k + 1) x.extents)) left (has_said lines (c.in_ok-say_extent-in-Some.ensures.says told));
      state = λ told. (c.in_ok-say_extent-in-Some.ensures.says told).shelf ∙ (c.read_extent.ensures.same told).state ∙ so_far.state told;
      later = λ told. omega (arith, so_far.later told, (c.read_extent.ensures.same told).time.later, (c.say_extent.ensures.says told).moments.later);
      promise = λ told t known early kept.
          let first = c.read_extent.ensures.promise told t known (omega (arith, early, so_far.later told)) (so_far.promise told t known early kept) in
          c.say_extent.ensures.promise told t known (omega (arith, early, so_far.later told, (c.read_extent.ensures.same told).time.later)) first;
      count = c.say_extent.ensures.count ∙ c.read_extent.ensures.count ∙ so_far.count;
      call = search rules;
    }
