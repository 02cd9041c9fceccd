-- Entries are counted up to the first that isn't there.
use Rattle.std.proofs.Common.{sym, ◌∙◌, ap, arith, rules}
use Rattle.stop_model.proofs.MomentLemmas.{same_then}
use Rattle.vol_model.specs.declared.contents.Shelf.{Shelf}
use Rattle.vol_model.specs.Reading.{entries_in}
use Rattle.vol_model.specs.Writing.{body_on}
use Rattle.iehlist_util.specs.Directories.{HasEntries}
use Rattle.iehlist_util.proofs.DirectoryLemmas.{all_counted, few_entries, one_more}
use Rattle.iehlist_util.proofs.directories.count_entries.Goals as goal

pub returns-in-None-clause-value : goal.returns-in-None-clause-value
returns-in-None-clause-value g c told es has =
    let m = g.M.Machine.meaning in
    let here : HasEntries (m c.loop-k.machine).state c.args.v c.args.dsn.now.bytes es = ap (λ (s : Shelf). entries_in (body_on s c.args.v c.args.dsn.now.bytes)) (c.loop-k.invariant.same told).state ∙ has in
    all_counted es c.loop-k.k (sym (c.in_ok-read_entry.ensures.value told es here) ∙ c.in-None.is) (c.loop-k.invariant.counted told es has)

pub loop-k-preserved : goal.loop-k-preserved
loop-k-preserved g c =
    let m = g.M.Machine.meaning in
    let so_far = c.loop-k.invariant in
    record {
      counted = λ told es has.
          let here : HasEntries (m c.loop-k.machine).state c.args.v c.args.dsn.now.bytes es = ap (λ (s : Shelf). entries_in (body_on s c.args.v c.args.dsn.now.bytes)) (so_far.same told).state ∙ has in
          one_more es c.loop-k.k c.in-Some.field-0 (sym c.in-Some.is ∙ c.in_ok-read_entry.ensures.value told es here);
      same = λ told. same_then (so_far.same told) (c.read_entry.ensures.same told);
      promise = λ told t known early kept.
          c.read_entry.ensures.promise told t known (omega (arith, early, (so_far.same told).time.later)) (so_far.promise told t known early kept);
      count = c.read_entry.ensures.count ∙ so_far.count;
      call = search rules;
    }

pub returns-clause-value : goal.returns-clause-value
returns-clause-value g c told es has =
    let m = g.M.Machine.meaning in
    let lawful = g.met.M.Machine.lawful c.args.machine.now told c.requires.sound in
    let few = few_entries (m c.args.machine.now).state c.args.v c.args.dsn.now.bytes es lawful has in
    omega (arith, few, c.loop-k.invariant.counted told es has, c.loop-k-test.false)
