use Rattle.std.proofs.Common.{◌≡◌, true, false, ℕ, Bool, List, ◌∷◌, ◌++◌, refl, sym, ◌∙◌, ap, rules}
use Rattle.std.specs.Prelude.{Ok, Err}
use Rattle.record_blocks.specs.Packer.{blocks_given}
use Rattle.record_files.specs.declared.record_writer.RecordWriter.{RecordWriter}
use Rattle.record_files.specs.RecordWriter.{held_by, held_if}
use Rattle.record_files.specs.Writing.{coming_of}
use Rattle.record_files.proofs.AdvanceLemmas.{advanced_none}
use Rattle.record_files.proofs.PutLemmas.{fault_alike, none_given, one_given, stops_alike}
use Rattle.record_files.proofs.RecordLemmas.{advances_as, has_last}
use Rattle.record_files.proofs.putting.pass_on.Goals as goal

-- the held block in front of the one that is finished
given : (w : RecordWriter) (full : Bool) (more : List (List ℕ)) (broken : Bool) (held : List ℕ) → full ≡ true → held ≡ w.held.items
    → coming_of (held_by w ++ blocks_given full w.next.items more) broken ≡ coming_of (held_if w.holds held ++ (w.next.items ∷ more)) broken
given w full more broken held is same =
    ap (λ (l : List (List ℕ)). coming_of l broken) (one_given (held_by w) full w.next.items more is) ∙ ap (λ (h : List ℕ). coming_of (held_if w.holds h ++ (w.next.items ∷ more)) broken) (sym same)

pub returns-then-not-full-clause-advances : goal.returns-then-not-full-clause-advances
returns-then-not-full-clause-advances g c told more broken =
    let w = c.args.writer.now in
    let is : c.args.full ≡ false = search rules in
    advances_as (Ok (Ok tt)) (ap (λ (l : List (List ℕ)). coming_of l broken) (none_given (held_by w) c.args.full w.next.items more is)) refl
    (record { step = advanced_none g.M.Machine.tells_prints (coming_of (held_by w ++ more) broken) (g.M.Machine.writer c.args.machine.now) (g.M.Machine.meaning c.args.machine.now) (g.M.Machine.status c.args.machine.now).done })

pub returns-in_err-fault-clause-advances : goal.returns-in_err-fault-clause-advances
returns-in_err-fault-clause-advances g c told more broken =
    let w = c.args.writer.now in
    let is : c.args.full ≡ true = search rules in
    advances_as c.from_residual.result (given w c.args.full more broken c.deref.result.now is c.deref.ensures.value) refl
    (stops_alike _ c.from_residual.result c.from_residual.ensures.0 (c.in_err-fault.ensures.advances told (w.next.items ∷ more) broken (has_last broken w.next.items more)))

pub returns-in-Err-clause-advances : goal.returns-in-Err-clause-advances
returns-in-Err-clause-advances g c told more broken =
    let w = c.args.writer.now in
    let is : c.args.full ≡ true = search rules in
    advances_as (Ok (Err c.in-Err.fault)) (given w c.args.full more broken c.deref.result.now is c.deref.ensures.value) refl
    (fault_alike c.in-Err.fault (rw c.in-Err.is at (c.in_ok-fault.ensures.advances told (w.next.items ∷ more) broken (has_last broken w.next.items more))))

pub returns-clause-advances : goal.returns-clause-advances
returns-clause-advances g c told more broken =
    let w = c.args.writer.now in
    let is : c.args.full ≡ true = search rules in
    let swapped : c.swap.new.x.items ≡ w.next.items = rw c.swap.ensures.x_after refl in
    advances_as (Ok (Ok tt)) (given w c.args.full more broken c.deref.result.now is c.deref.ensures.value) (ap (λ (l : List ℕ). coming_of (l ∷ more) broken) swapped)
    (record { step = (rw c.in_default.is at (c.in_ok-fault.ensures.advances told (w.next.items ∷ more) broken (has_last broken w.next.items more))).step })
