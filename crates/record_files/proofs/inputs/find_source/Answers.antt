use Rattle.std.proofs.Common.{◌≡◌, sym, subst}
use Rattle.std.specs.Prelude.{Ok, Err, Option}
use Rattle.ebcdic_names.specs.declared.names.Name8.{Name8}
use Rattle.record_files.specs.Inputs.{IsFound, found_input, from}
use Rattle.record_files.proofs.FoundLemmas.{input_found, input_refused, known_member, known_whole, member_found, member_refused}
use Rattle.record_files.proofs.Reading.{reads_as}
use Rattle.record_files.proofs.inputs.find_source.Goals as goal

pub returns-in-Ok : goal.returns-in-Ok
returns-in-Ok g c =
    reads_as g.M.Machine (rw c.in-Ok.is at c.in_ok-info-in-Some.ensures) _ (λ told found.
    let shelf = (g.M.Machine.meaning c.args.machine.now).state in
    subst (λ (o : Option Name8). IsFound (Ok (known_member c.in-Ok.info c.in-Ok.place)) (found_input shelf (from c.args.set.now o))) (sym c.in-Some.is)
    (member_found shelf c.args.set.now c.in-Some.name c.in-Ok.info c.in-Ok.place found))

pub returns-in-Err : goal.returns-in-Err
returns-in-Err g c =
    reads_as g.M.Machine (rw c.in-Err.is at c.in_ok-info-in-Some.ensures) _ (λ told found.
    let shelf = (g.M.Machine.meaning c.args.machine.now).state in
    subst (λ (o : Option Name8). found_input shelf (from c.args.set.now o) ≡ Err c.in-Err.refusal) (sym c.in-Some.is)
    (member_refused shelf c.args.set.now c.in-Some.name c.in-Err.refusal found))

pub returns-in-Ok-2 : goal.returns-in-Ok-2
returns-in-Ok-2 g c =
    reads_as g.M.Machine (rw c.in-Ok-2.is at c.in_ok-info-in-None.ensures) _ (λ told found.
    let shelf = (g.M.Machine.meaning c.args.machine.now).state in
    subst (λ (o : Option Name8). IsFound (Ok (known_whole c.in-Ok-2.info)) (found_input shelf (from c.args.set.now o))) (sym c.in-None.is)
    (input_found shelf c.args.set.now c.in-Ok-2.info found))

pub returns-in-Err-2 : goal.returns-in-Err-2
returns-in-Err-2 g c =
    reads_as g.M.Machine (rw c.in-Err-2.is at c.in_ok-info-in-None.ensures) _ (λ told found.
    let shelf = (g.M.Machine.meaning c.args.machine.now).state in
    subst (λ (o : Option Name8). found_input shelf (from c.args.set.now o) ≡ Err c.in-Err-2.refusal) (sym c.in-None.is)
    (input_refused shelf c.args.set.now c.in-Err-2.refusal found))
