-- Deletions, case by case.
use Rattle.std.proofs.Common.{◌≡◌, ℕ, Bool, true, false, cond, List, codes, sym, ap}
use Rattle.std.specs.Option.{option_map_or}
use Rattle.util_syntax.specs.declared.listing.Object.TheVariants.{Name}
use Rattle.util_syntax.specs.declared.listing.Outcome.TheVariants.{Expires}
use Rattle.util_syntax.specs.Listing.{item_line}
use Rattle.vol_model.specs.declared.contents.Shelf.{Shelf}
use Rattle.vol_model.specs.declared.requests.Op.TheVariants.{Scratch}
use Rattle.vol_model.specs.Writing.{did_apply, set_on}
use Rattle.util_steps.specs.Expiry.{is_unexpired}
use Rattle.job_runner.specs.declared.dispositions.Deletion.{Deletion}
use Rattle.job_runner.specs.DataSets.{operation_item}
use Rattle.job_runner.specs.Dispositions.{deleted}
use Rattle.job_runner.specs.Parts.{says}

module _ (date : List ℕ) (shelf : Shelf) (d : Deletion) where
  -- an unexpired set stays
  pub kept_back : option_map_or (is_unexpired date) (set_on shelf d.v d.dsn.bytes) false ≡ true → says 8 (item_line d.card (codes "DELETE") (Name d.dsn) Expires) ≡ deleted date shelf d
  unfolding deleted
  kept_back so = sym (ap (λ (t : Bool). cond t (says 8 (item_line d.card (codes "DELETE") (Name d.dsn) Expires)) (operation_item d.card (codes "DELETE") d.dsn 8 (did_apply shelf (Scratch d.v d.dsn)))) so)

  -- another goes
  pub not_kept : option_map_or (is_unexpired date) (set_on shelf d.v d.dsn.bytes) false ≡ false → operation_item d.card (codes "DELETE") d.dsn 8 (did_apply shelf (Scratch d.v d.dsn)) ≡ deleted date shelf d
  unfolding deleted
  not_kept so = sym (ap (λ (t : Bool). cond t (says 8 (item_line d.card (codes "DELETE") (Name d.dsn) Expires)) (operation_item d.card (codes "DELETE") d.dsn 8 (did_apply shelf (Scratch d.v d.dsn)))) so)
