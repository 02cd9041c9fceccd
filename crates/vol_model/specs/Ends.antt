-- How a run ends where a call failed that nothing can refuse.
use Rattle.vol_model.specs.declared.answers.Stop.{Stop}
use Rattle.vol_model.specs.declared.answers.Stop.TheVariants as stop
use Rattle.vol_model.specs.declared.answers.WorkErr.{WorkErr}
use Rattle.vol_model.specs.declared.answers.WorkErr.TheVariants.{Memory, Device}

abbrev pub stop_for : WorkErr → Stop
stop_for Memory = stop.Memory
stop_for Device = stop.Device
