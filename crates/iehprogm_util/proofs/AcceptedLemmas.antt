-- What IEHPROGM does is accepted.
use Rattle.std.proofs.Common.{ℕ, Bool, true, false, List}
use Rattle.std.specs.Prelude.{Option, Some, None, not, ◌&&◌, if◌then◌else◌, Err}
use Rattle.std.specs.Option.{option_map_or}
use Rattle.ebcdic_names.specs.declared.names.Dsn.{Dsn}
use Rattle.ebcdic_names.specs.declared.names.Name8.{Name8}
use Rattle.vol_model.specs.declared.contents.Entry.{Entry}
use Rattle.vol_model.specs.declared.contents.Shelf.{Shelf}
use Rattle.vol_model.specs.declared.refusals.Refusal.TheVariants.{NoVolume}
use Rattle.vol_model.specs.declared.requests.Op.TheVariants as ops
use Rattle.vol_model.specs.Did.{answered, because}
use Rattle.vol_model.specs.Shelf.{number_of}
use Rattle.vol_model.specs.Writing.{set_on}
use Rattle.util_steps.specs.Accepted.{AllAccepted}
use Rattle.util_steps.specs.Expiry.{is_unexpired}
use Rattle.util_steps.proofs.AcceptedLemmas.{DidAccepted, ItemsAccepted, accepted_then}
use Rattle.util_syntax.specs.declared.listing.Outcome.TheVariants as outcome
use Rattle.util_syntax.specs.declared.step.StepIn.{StepIn}
use Rattle.util_syntax.specs.Items.{StatementView}
use Rattle.util_program.specs.Outcomes.{performed}
use Rattle.util_program.proofs.AcceptedLemmas.{performed_accepted, program_accepted}
use Rattle.iehprogm_util.specs.declared.requests.Request.{Request}
use Rattle.iehprogm_util.specs.declared.requests.Request.TheVariants.{Rename, RenameMember, Scratch, ScratchMember}
use Rattle.iehprogm_util.specs.Items.{entry_renamed, iehprogm_items, member_on, member_renamed, requested_item, scratched, serial_in, statement_item, steps_of, steps_on}
use Rattle.iehprogm_util.specs.Requests.{request_of}

scratch : (date : List ℕ) (s : Shelf) (v : ℕ) (dsn : Dsn) (purge : Bool) → DidAccepted s (scratched date s v dsn purge)
unfolding scratched
scratch date s v dsn purge = by_date (not purge && option_map_or (is_unexpired date) (set_on s v dsn.bytes) false)
  where
    by_date : (b : Bool) → DidAccepted s (if b then answered (Err outcome.Expires) else performed s (ops.Scratch v dsn))
    by_date true = tt
    by_date false = performed_accepted s (ops.Scratch v dsn)

rename_entry : (s : Shelf) (v : ℕ) (dsn : Dsn) (old new : Name8) (e : Entry) → DidAccepted s (entry_renamed s v dsn old new e)
unfolding entry_renamed
rename_entry s v dsn old new e =
    let enter = ops.Enter v dsn (record e { name = new }) false in
    accepted_then s (performed s enter) (λ x u. performed u (ops.Drop v dsn old)) (performed_accepted s enter) (λ x u. performed_accepted u (ops.Drop v dsn old))

rename_member : (s : Shelf) (v : ℕ) (dsn : Dsn) (old new : Name8) → DidAccepted s (member_renamed s v dsn old new)
unfolding member_renamed
rename_member s v dsn old new = accepted_then s (answered (because outcome.Refused (member_on s v dsn old))) (λ e u. entry_renamed u v dsn old new e) tt (λ e u. rename_entry u v dsn old new e)

on_volume : (date : List ℕ) (s : Shelf) (v : ℕ) (request : Request) → DidAccepted s (steps_on date s v request)
on_volume date s v (Rename serial old new) = performed_accepted s (ops.Rename v old new)
on_volume date s v (RenameMember serial dsn old new) = rename_member s v dsn old new
on_volume date s v (Scratch serial dsn purge) = scratch date s v dsn purge
on_volume date s v (ScratchMember serial dsn member) = performed_accepted s (ops.Drop v dsn member)

requests : (date : List ℕ) (s : Shelf) (request : Request) → DidAccepted s (steps_of date s request)
unfolding steps_of
requests date s request = by_number (number_of s (serial_in request).bytes)
  where
    by_number : (o : Option ℕ) → DidAccepted s (option_map_or (λ v. steps_on date s v request) o (answered (Err (outcome.Refused NoVolume))))
    by_number None = tt
    by_number (Some v) = on_volume date s v request

asked : (date : List ℕ) (s : Shelf) (card : ℕ) (request : Option Request) → AllAccepted s (requested_item date s card request).operations
asked date s card None = tt
asked date s card (Some request) = requests date s request

each : (date : List ℕ) (s : Shelf) (x : StatementView) → AllAccepted s (statement_item date s x).operations
each date s x = asked date s x.card (request_of x)

-- the items of a step
pub iehprogm_accepted : (step : StepIn) (s : Shelf) → ItemsAccepted s (iehprogm_items step s)
iehprogm_accepted step s = program_accepted (statement_item step.date) (each step.date) step s
