use Rattle.std.proofs.Common.{◌≡◌, ◌+◌, ◌≤◌, drop, length, sym, ◌∙◌, ap, arith, rules}
use Rattle.std.specs.Prelude.{Some, slice_get}
use Rattle.std.specs.List.{flat_map}
use Rattle.vol_model.specs.declared.contents.Shelf.{Shelf}
use Rattle.vol_model.specs.Writing.{set_on}
use Rattle.util_steps.proofs.Reporting.{has_said, said_state}
use Rattle.iehlist_util.specs.Items.{lines_of_set, set_lines}
use Rattle.iehlist_util.proofs.Listings.{says_all, says_idle, says_more, says_stop, says_stop_idle}
use Rattle.iehlist_util.proofs.SetLemmas.{few_sets, lawful_at, name_at, no_set_left, none_left, rest_read}
use Rattle.iehlist_util.proofs.listing.say_all.Goals as goal

pub returns-in_err-dsn-clause-says : goal.returns-in_err-dsn-clause-says
returns-in_err-dsn-clause-says g c told volume at =
    let durable = g.met.M.Machine.durable c.loop-k.machine told c.loop-k.invariant.call.sound in
    says_stop_idle (c.loop-k.invariant.so_far told volume at) c.from_residual.result c.from_residual.ensures.0 (c.read_name.ensures.same told) durable

pub returns-in_err-list_set-in-Some-clause-says : goal.returns-in_err-list_set-in-Some-clause-says
returns-in_err-list_set-in-Some-clause-says g c told volume at =
    let m = g.M.Machine.meaning in
    let shelf = (m c.loop-k.machine).state in
    let mid = (m c.read_name.new.machine).state in
    let sound = c.loop-k.invariant.call.sound in
    let durable = g.met.M.Machine.durable c.loop-k.machine told sound in
    let so = says_idle (c.loop-k.invariant.so_far told volume at) (c.read_name.ensures.same told) durable in
    let here : slice_get shelf.volumes c.args.v ≡ Some volume = ap (λ (s : Shelf). slice_get s.volumes c.args.v) (c.loop-k.invariant.state told) ∙ at in
    let lines = lines_of_set c.args.format (set_on mid c.args.v c.in-Some.dsn.bytes) in
    let left = rest_read c.args.format shelf mid c.args.v volume (g.met.M.Machine.lawful c.loop-k.machine told sound) here (c.read_name.ensures.same told).state c.loop-k.k c.in-Some.dsn (sym c.in-Some.is ∙ c.in_ok-dsn.ensures.value told) in
    says_stop so lines (flat_map (set_lines c.args.format) (drop (c.loop-k.k + 1) volume.sets)) c.from_residual-in_err-list_set-in-Some.result c.from_residual-in_err-list_set-in-Some.ensures.0 left (c.list_set.ensures.says told).moments

pub returns-in-None-clause-says : goal.returns-in-None-clause-says
returns-in-None-clause-says g c told volume at =
    let m = g.M.Machine.meaning in
    let shelf = (m c.loop-k.machine).state in
    let durable = g.met.M.Machine.durable c.loop-k.machine told c.loop-k.invariant.call.sound in
    let so = says_idle (c.loop-k.invariant.so_far told volume at) (c.read_name.ensures.same told) durable in
    let here : slice_get shelf.volumes c.args.v ≡ Some volume = ap (λ (s : Shelf). slice_get s.volumes c.args.v) (c.loop-k.invariant.state told) ∙ at in
    says_all so tt (ap (flat_map (set_lines c.args.format)) (no_set_left volume.sets c.loop-k.k (sym c.in-None.is ∙ c.in_ok-dsn.ensures.value told ∙ name_at shelf c.args.v volume here c.loop-k.k)))

pub loop-k-preserved : goal.loop-k-preserved
loop-k-preserved g c =
    let so_far = c.loop-k.invariant in
    record {
      so_far = λ told volume at.
          let m = g.M.Machine.meaning in
          let shelf = (m c.loop-k.machine).state in
          let mid = (m c.read_name.new.machine).state in
          let sound = c.loop-k.invariant.call.sound in
          let durable = g.met.M.Machine.durable c.loop-k.machine told sound in
          let so = says_idle (c.loop-k.invariant.so_far told volume at) (c.read_name.ensures.same told) durable in
          let here : slice_get shelf.volumes c.args.v ≡ Some volume = ap (λ (s : Shelf). slice_get s.volumes c.args.v) (c.loop-k.invariant.state told) ∙ at in
          let lines = lines_of_set c.args.format (set_on mid c.args.v c.in-Some.dsn.bytes) in
          let left = rest_read c.args.format shelf mid c.args.v volume (g.met.M.Machine.lawful c.loop-k.machine told sound) here (c.read_name.ensures.same told).state c.loop-k.k c.in-Some.dsn (sym c.in-Some.is ∙ c.in_ok-dsn.ensures.value told) in
          says_more so lines (flat_map (set_lines c.args.format) (drop (c.loop-k.k + 1) volume.sets)) left (has_said lines (c.in_ok-list_set-in-Some.ensures.says told));
      state = λ told. said_state (lines_of_set c.args.format (set_on (g.M.Machine.meaning c.read_name.new.machine).state c.args.v c.in-Some.dsn.bytes)) (has_said (lines_of_set c.args.format (set_on (g.M.Machine.meaning c.read_name.new.machine).state c.args.v c.in-Some.dsn.bytes)) (c.in_ok-list_set-in-Some.ensures.says told)) ∙ (c.read_name.ensures.same told).state ∙ so_far.state told;
      later = λ told. omega (arith, so_far.later told, (c.read_name.ensures.same told).time.later, (c.list_set.ensures.says told).moments.later);
      promise = λ told t known early kept.
          let first = c.read_name.ensures.promise told t known (omega (arith, early, so_far.later told)) (so_far.promise told t known early kept) in
          c.list_set.ensures.promise told t known (omega (arith, early, so_far.later told, (c.read_name.ensures.same told).time.later)) first;
      count = c.list_set.ensures.count ∙ c.read_name.ensures.count ∙ so_far.count;
      call = search rules;
    }

pub returns-clause-says : goal.returns-clause-says
returns-clause-says g c told volume at =
    let m = g.M.Machine.meaning in
    let shelf = (m c.args.machine.now).state in
    let lawful = lawful_at shelf c.args.v volume (g.met.M.Machine.lawful c.args.machine.now told c.requires.sound) at in
    let past : length volume.sets ≤ c.loop-k.k = omega (arith, few_sets volume lawful, c.loop-k-test.false) in
    says_all (c.loop-k.invariant.so_far told volume at) tt (ap (flat_map (set_lines c.args.format)) (none_left volume.sets c.loop-k.k past))
