-- What becomes of the data sets of a step after it, in this project's profile.
use Rattle.std.specs.Prelude.{ℕ, Bool, true, false, List, codes, Option, Some, None, if◌then◌else◌}
use Rattle.std.specs.List.{filter_map}
use Rattle.std.specs.Option.{option_map_or}
use Rattle.jcl_forms.specs.declared.disposition.DdAfter.{DdAfter}
use Rattle.jcl_forms.specs.declared.disposition.DdAfter.TheVariants.{Delete}
use Rattle.job_deck.specs.declared.job.Dd.{Dd}
use Rattle.job_deck.specs.declared.job.DdWhat.{DdWhat}
use Rattle.job_deck.specs.declared.job.DdWhat.TheVariants.{Set}
use Rattle.util_steps.specs.Items.{items_along}
use Rattle.util_syntax.specs.declared.listing.Object.TheVariants.{Name}
use Rattle.util_syntax.specs.declared.listing.Outcome.TheVariants.{Expires}
use Rattle.util_syntax.specs.declared.step.DdIn.{DdIn}
use Rattle.util_syntax.specs.declared.step.DdIn.TheVariants as given
use Rattle.util_syntax.specs.Listing.{item_line}
use Rattle.vol_model.specs.declared.contents.Shelf.{Shelf}
use Rattle.vol_model.specs.declared.requests.Op.TheVariants.{Scratch}
use Rattle.vol_model.specs.Events.{Item}
use Rattle.vol_model.specs.Writing.{did_apply, set_on}
use Rattle.util_steps.specs.Expiry.{is_unexpired}
use Rattle.job_runner.specs.declared.dispositions.Deletion.{Deletion}
use Rattle.job_runner.specs.DataSets.{operation_item}
use Rattle.job_runner.specs.Parts.{says}

abbrev pub is_delete : DdAfter → Bool
is_delete Delete = true
is_delete _ = false

-- the DD says DELETE
abbrev pub says_delete : DdWhat → Bool
says_delete (Set set) = is_delete set.after
says_delete _ = false

abbrev pub deletion_as : ℕ → DdIn → Option Deletion
deletion_as card (given.Set v dsn member append dcb) = Some (record { card = card; v = v; dsn = dsn })
deletion_as card _ = None

-- the set that a DD deletes after its step
unfoldable pub deletion_for : Dd × DdIn → Option Deletion
deletion_for p = if says_delete p.0.what then deletion_as p.0.card p.1 else None

-- a set is scratched, unless it is there and expires later than on this date
unfoldable pub deleted : List ℕ → Shelf → Deletion → Item
deleted date shelf d =
    if option_map_or (is_unexpired date) (set_on shelf d.v d.dsn.bytes) false
    then says 8 (item_line d.card (codes "DELETE") (Name d.dsn) Expires)
    else operation_item d.card (codes "DELETE") d.dsn 8 (did_apply shelf (Scratch d.v d.dsn))

-- the dispositions of the DDs of a step, in order
unfoldable pub dispositions : List ℕ → List (Dd × DdIn) → Shelf → List Item
dispositions date dds shelf = items_along (deleted date) shelf (filter_map deletion_for dds)
