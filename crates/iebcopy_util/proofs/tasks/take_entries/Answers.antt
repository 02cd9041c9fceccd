use Rattle.std.proofs.Common.{◌≡◌, ℕ, length, ◌∙◌, ◌≤◌, List, ◌++◌, take, [], refl, sym, ap, arith, rules, append_assoc}
use Rattle.std.proofs.lemmas.List.{append-nil, take_at}
use Rattle.record_files.proofs.FoundLemmas.{library_entries}
use Rattle.record_files.proofs.Reading.{reads_none, reads_stops, reads_then}
use Rattle.record_files.specs.Members.{entries_of}
use Rattle.iebcopy_util.specs.declared.tasks.MemberCopy.{MemberCopy}
use Rattle.iebcopy_util.specs.Tasks.{wanted, with_source}
use Rattle.iebcopy_util.proofs.TaskLemmas.{no_entry_past, passed_all, passed_one}
use Rattle.iebcopy_util.proofs.tasks.take_entries.Goals as goal

-- the first copies are those of earlier inputs
firsts : (first : ℕ) (now old more : List MemberCopy) → first ≡ length old → now ≡ old ++ more → take first now ≡ old
firsts first now old more at is = ap (λ (l : List MemberCopy). take first l) is ∙ ap (λ (k : ℕ). take k (old ++ more)) at ∙ take_at old more (length old) refl

pub loop-refusal-init : goal.loop-refusal-init
loop-refusal-init g c = record {
  first = search rules;
  more = ([], sym (append-nil c.args.tasks.now.items));
  read = reads_none g.M.Machine tt c.requires.ready (g.met.M.Machine.counts_now c.args.machine.now) (λ told x is. refl);
  lawful = c.requires.lawful;
}

pub returns-in_err-take_entry-clause-reads : goal.returns-in_err-take_entry-clause-reads
returns-in_err-take_entry-clause-reads g c = reads_stops g.M.Machine c.loop-refusal.invariant.read c.from_residual.result c.from_residual.ensures (rw c.in_err-take_entry.was at c.take_entry.ensures.reads)

pub returns-in-Ok-false-clause-reads : goal.returns-in-Ok-false-clause-reads
returns-in-Ok-false-clause-reads g c =
    reads_then g.M.Machine c.loop-refusal.invariant.read _ (rw (c.in-Ok-false.is, c.in-Ok-false.field-0-test) at c.in_ok-take_entry.ensures.reads) (λ told so takes_of x is.
    let takes = takes_of (entries_of x.body) (library_entries (g.M.Machine.meaning c.args.machine.now).state c.args.source.now.set x is) in
    (refl, passed_all (wanted c.args.choice.now c.args.tasks.now.items c.args.source.now) (entries_of x.body) c.loop-refusal.k c.loop-refusal.tasks.items (with_source c.args.choice.now c.args.tasks.now.items c.args.source.now x) (so x is) c.take_entry.new.tasks.items takes.0 takes.1))

pub returns-in-Err-clause-reads : goal.returns-in-Err-clause-reads
returns-in-Err-clause-reads g c = reads_then g.M.Machine c.loop-refusal.invariant.read _ (rw c.in-Err.is at c.in_ok-take_entry.ensures.reads) (λ told so never x is. absurd (never (entries_of x.body) (library_entries (g.M.Machine.meaning c.args.machine.now).state c.args.source.now.set x is)))

pub loop-refusal-preserved : goal.loop-refusal-preserved
loop-refusal-preserved g c =
    let inv = c.loop-refusal.invariant in
    let old = c.args.tasks.now.items in
    let more = c.in_ok-take_entry.ensures.more in
    record {
      first = inv.first;
      more = let grown = more in (inv.more.0 ++ grown.0, grown.1 ∙ ap (λ (l : List MemberCopy). l ++ grown.0) inv.more.1 ∙ append_assoc old inv.more.0 grown.0);
      read = reads_then g.M.Machine inv.read tt (rw (c.in-Ok-true.is, c.in-Ok-true.field-0-test) at c.in_ok-take_entry.ensures.reads) (λ told so takes_of x is.
          let takes = takes_of (entries_of x.body) (library_entries (g.M.Machine.meaning c.args.machine.now).state c.args.source.now.set x is) in
          let fronts : take c.len-first.result c.loop-refusal.tasks.items ≡ old = firsts c.len-first.result c.loop-refusal.tasks.items old inv.more.0 inv.first inv.more.1 in
          let grown = takes.2 ∙ ap (λ (l : List MemberCopy). c.loop-refusal.tasks.items ++ wanted c.args.choice.now l c.args.source.now takes.0) fronts in
          passed_one (wanted c.args.choice.now old c.args.source.now) (entries_of x.body) c.loop-refusal.k c.loop-refusal.tasks.items (with_source c.args.choice.now old c.args.source.now x) (so x is) takes.0 c.take_entry.new.tasks.items c.in-Some.next takes.1 grown (omega (arith, c.in-Some.ensures)));
      lawful = c.in_ok-take_entry.ensures.lawful;
    }

pub returns-in-None-clause-reads : goal.returns-in-None-clause-reads
returns-in-None-clause-reads g c =
    reads_then g.M.Machine c.loop-refusal.invariant.read _ (rw (c.in-Ok-true.is, c.in-Ok-true.field-0-test) at c.in_ok-take_entry.ensures.reads) (λ told so takes_of x is.
    let takes = takes_of (entries_of x.body) (library_entries (g.M.Machine.meaning c.args.machine.now).state c.args.source.now.set x is) in
    let past : 4294967295 ≤ c.loop-refusal.k = omega (arith, c.in-None.ensures) in
    absurd (no_entry_past (g.M.Machine.meaning c.args.machine.now).state c.args.source.now.set x c.loop-refusal.k takes.0 (g.met.M.Machine.lawful c.args.machine.now told c.requires.ready.sound) is takes.1 past))
