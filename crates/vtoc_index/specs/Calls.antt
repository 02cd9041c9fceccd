-- What the reading of a VTOC leaves of a hall, in this project's profile.
use Rattle.std.specs.Prelude.{Result, IsErrOf}
use Rattle.hall_core.specs.Facts.{Facts, ReportedCall}
use Rattle.pack_spec.specs.declared.MountErr.{MountErr}
use Rattle.pack_spec.specs.declared.MountErr.TheVariants.{Device}

-- calls that read, which answer a fault of the device as one
abbrev pub MountCall : {T : Type 0} → Facts → Facts → Result T MountErr → Type 0
MountCall old new result = ReportedCall (IsErrOf result Device) old new
