use Rattle.std.proofs.Common.{sym, subst}
use Rattle.std.specs.Prelude.{Ok, None}
use Rattle.record_files.specs.declared.inputs.Input.{Input}
use Rattle.record_files.specs.Inputs.{IsFound, found_input, input_view}
use Rattle.record_files.proofs.FoundLemmas.{input_cards}
use Rattle.record_files.proofs.Reading.{reads_none}
use Rattle.record_files.proofs.inputs.find_input.Goals as goal

pub returns-in-Cards : goal.returns-in-Cards
returns-in-Cards g c =
    reads_none g.M.Machine _ c.requires (g.met.M.Machine.counts_now c.args.machine.now) (λ told.
    let shelf = (g.M.Machine.meaning c.args.machine.now).state in
    subst (λ (i : Input). IsFound (Ok (record { attr = None; start = None })) (found_input shelf (input_view i))) (sym c.in-Cards.is) (input_cards shelf c.in-Cards.field-0.now))
