-- IEHLIST does no operation.
use Rattle.std.proofs.Common.{ℕ}
use Rattle.std.specs.Prelude.{Option, Some, None}
use Rattle.vol_model.specs.declared.contents.Shelf.{Shelf}
use Rattle.vol_model.specs.declared.contents.Volume.{Volume}
use Rattle.util_steps.specs.Accepted.{AllAccepted}
use Rattle.util_steps.proofs.AcceptedLemmas.{ItemsAccepted}
use Rattle.util_syntax.specs.declared.step.StepIn.{StepIn}
use Rattle.util_syntax.specs.Items.{StatementView}
use Rattle.util_program.proofs.AcceptedLemmas.{program_accepted}
use Rattle.iehlist_util.specs.declared.requests.ListPds.{ListPds}
use Rattle.iehlist_util.specs.declared.requests.ListVtoc.{ListVtoc}
use Rattle.iehlist_util.specs.declared.requests.Request.{Request}
use Rattle.iehlist_util.specs.declared.requests.Request.TheVariants.{Pds, Vtoc}
use Rattle.iehlist_util.specs.Items.{asked_item, iehlist_items, pds_item, requested_item, statement_item, volume_for, vtoc_item}
use Rattle.iehlist_util.specs.Requests.{request_of}

of_vtoc : (s : Shelf) (card : ℕ) (request : ListVtoc) (found : Option Volume) → AllAccepted s (vtoc_item card request found).operations
of_vtoc s card request None = tt
of_vtoc s card request (Some volume) = tt

of_pds : (s : Shelf) (card : ℕ) (request : ListPds) (found : Option Volume) → AllAccepted s (pds_item card request found).operations
of_pds s card request None = tt
of_pds s card request (Some volume) = tt

asked : (s : Shelf) (card : ℕ) (request : Request) → AllAccepted s (asked_item s card request).operations
asked s card (Vtoc request) = of_vtoc s card request (volume_for s request.volume)
asked s card (Pds request) = of_pds s card request (volume_for s request.volume)

requested : (s : Shelf) (card : ℕ) (request : Option Request) → AllAccepted s (requested_item s card request).operations
requested s card None = tt
requested s card (Some request) = asked s card request

each : (s : Shelf) (x : StatementView) → AllAccepted s (statement_item s x).operations
each s x = requested s x.card (request_of x)

-- the items of a step
pub iehlist_accepted : (step : StepIn) (s : Shelf) → ItemsAccepted s (iehlist_items step s)
iehlist_accepted step s = program_accepted statement_item each step s
