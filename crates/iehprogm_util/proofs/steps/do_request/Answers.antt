use Rattle.std.proofs.Common.{◌∙◌, ap}
use Rattle.std.specs.Prelude.{Err}
use Rattle.ebcdic_names.specs.declared.names.Serial.{Serial}
use Rattle.vol_model.specs.declared.refusals.Refusal.TheVariants.{NoVolume}
use Rattle.vol_model.specs.Shelf.{number_of}
use Rattle.util_steps.proofs.Taking.{takes_as, takes_none}
use Rattle.util_syntax.specs.declared.listing.Outcome.TheVariants as outcome
use Rattle.iehprogm_util.proofs.StepLemmas.{steps_found, steps_none}
use Rattle.iehprogm_util.proofs.steps.do_request.Goals as goal

pub returns-in-Some : goal.returns-in-Some
returns-in-Some g c =
    let shelf = (g.M.Machine.meaning c.args.machine.now).state in
    takes_as g.M.Machine (λ told. steps_found c.args.date.now shelf c.args.request.now c.in-Some.v (c.in-Some.ensures told ∙ ap (λ (x : Serial). number_of shelf x.bytes) c.serial.ensures)) c.do_on.ensures

pub returns-in-None : goal.returns-in-None
returns-in-None g c =
    let shelf = (g.M.Machine.meaning c.args.machine.now).state in
    takes_as g.M.Machine (λ told. steps_none c.args.date.now shelf c.args.request.now (c.in-None.ensures told ∙ ap (λ (x : Serial). number_of shelf x.bytes) c.serial.ensures)) (takes_none g.M.Machine (Err (outcome.Refused NoVolume)) c.requires.ready)
