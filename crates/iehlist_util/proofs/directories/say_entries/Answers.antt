-- The line of each entry is printed after those before it.
use Rattle.std.proofs.Common.{◌+◌, List, [], ◌∷◌, ℕ, drop, map, sym, ◌∙◌, ap, arith, rules}
use Rattle.vol_model.specs.declared.contents.Shelf.{Shelf}
use Rattle.vol_model.specs.Reading.{entries_in}
use Rattle.vol_model.specs.Writing.{body_on}
use Rattle.util_steps.proofs.Reporting.{has_said}
use Rattle.iehlist_util.specs.Directories.{HasEntries}
use Rattle.iehlist_util.specs.Lines.{entry_line}
use Rattle.iehlist_util.proofs.DirectoryLemmas.{entries_end, next_entry, no_entry}
use Rattle.iehlist_util.proofs.Listings.{says_all, says_idle, says_more, says_stop, says_stop_idle}
use Rattle.iehlist_util.proofs.directories.say_entries.Goals as goal

pub returns-in_err-entry-clause-says : goal.returns-in_err-entry-clause-says
returns-in_err-entry-clause-says g c told es has count =
    let durable = g.met.M.Machine.durable c.loop-k.machine told c.loop-k.invariant.call.sound in
    says_stop_idle (c.loop-k.invariant.so_far told es has count) c.from_residual.result c.from_residual.ensures.0 (c.read_entry.ensures.same told) durable

pub returns-in_err-say_entry-in-Some-clause-says : goal.returns-in_err-say_entry-in-Some-clause-says
returns-in_err-say_entry-in-Some-clause-says g c told es has count =
    let m = g.M.Machine.meaning in
    let durable = g.met.M.Machine.durable c.loop-k.machine told c.loop-k.invariant.call.sound in
    let so = says_idle (c.loop-k.invariant.so_far told es has count) (c.read_entry.ensures.same told) durable in
    let here : HasEntries (m c.loop-k.machine).state c.args.v c.args.dsn.now.bytes es = ap (λ (s : Shelf). entries_in (body_on s c.args.v c.args.dsn.now.bytes)) (c.loop-k.invariant.state told) ∙ has in
    let left = next_entry es c.loop-k.k c.in-Some.entry (sym c.in-Some.is ∙ c.in_ok-entry.ensures.value told es here) in
    says_stop so (entry_line c.in-Some.entry ∷ []) (map entry_line (drop (c.loop-k.k + 1) es)) c.from_residual-in_err-say_entry-in-Some.result c.from_residual-in_err-say_entry-in-Some.ensures.0 left (c.say_entry.ensures.says told).moments

pub returns-in-None-clause-says : goal.returns-in-None-clause-says
returns-in-None-clause-says g c told es has count =
    let m = g.M.Machine.meaning in
    let durable = g.met.M.Machine.durable c.loop-k.machine told c.loop-k.invariant.call.sound in
    let so = says_idle (c.loop-k.invariant.so_far told es has count) (c.read_entry.ensures.same told) durable in
    let here : HasEntries (m c.loop-k.machine).state c.args.v c.args.dsn.now.bytes es = ap (λ (s : Shelf). entries_in (body_on s c.args.v c.args.dsn.now.bytes)) (c.loop-k.invariant.state told) ∙ has in
    says_all so tt (no_entry es c.loop-k.k (sym c.in-None.is ∙ c.in_ok-entry.ensures.value told es here))

pub loop-k-preserved : goal.loop-k-preserved
loop-k-preserved g c =
    let m = g.M.Machine.meaning in
    let so_far = c.loop-k.invariant in
    record {
      so_far = λ told es has count.
          let durable = g.met.M.Machine.durable c.loop-k.machine told so_far.call.sound in
          let so = says_idle (so_far.so_far told es has count) (c.read_entry.ensures.same told) durable in
          let here : HasEntries (m c.loop-k.machine).state c.args.v c.args.dsn.now.bytes es = ap (λ (s : Shelf). entries_in (body_on s c.args.v c.args.dsn.now.bytes)) (so_far.state told) ∙ has in
          let left = next_entry es c.loop-k.k c.in-Some.entry (sym c.in-Some.is ∙ c.in_ok-entry.ensures.value told es here) in
          let lines : List (List ℕ) = entry_line c.in-Some.entry ∷ [] in
          says_more so lines (map entry_line (drop (c.loop-k.k + 1) es)) left (has_said lines (c.in_ok-say_entry-in-Some.ensures.says told));
      state = λ told. (c.in_ok-say_entry-in-Some.ensures.says told).shelf ∙ (c.read_entry.ensures.same told).state ∙ so_far.state told;
      later = λ told. omega (arith, so_far.later told, (c.read_entry.ensures.same told).time.later, (c.say_entry.ensures.says told).moments.later);
      promise = λ told t known early kept.
          let first = c.read_entry.ensures.promise told t known (omega (arith, early, so_far.later told)) (so_far.promise told t known early kept) in
          c.say_entry.ensures.promise told t known (omega (arith, early, so_far.later told, (c.read_entry.ensures.same told).time.later)) first;
      count = c.say_entry.ensures.count ∙ c.read_entry.ensures.count ∙ so_far.count;
      call = search rules;
    }

pub returns-clause-says : goal.returns-clause-says
returns-clause-says g c told es has count =
    says_all (c.loop-k.invariant.so_far told es has count) tt (entries_end es c.loop-k.k (omega (arith, count, c.loop-k-test.false, c.loop-k.auto.k-end)))
