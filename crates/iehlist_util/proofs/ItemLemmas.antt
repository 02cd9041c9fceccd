-- The items of statements.
use Rattle.std.proofs.Common.{◌≡◌, ℕ, Bool, List, [], ◌∷◌, ◌++◌, length, map, refl, sym, ◌∙◌, ap, subst}
use Rattle.std.specs.Prelude.{Option, Some, None, Result, Ok, Err, IsErr, option_and_then, option_map, slice_get}
use Rattle.stop_model.specs.Moments.{Meaning}
use Rattle.ebcdic_names.specs.declared.names.Serial.{Serial}
use Rattle.vol_model.specs.declared.answers.Stop.{Stop}
use Rattle.vol_model.specs.declared.answers.VolumeInfo.{VolumeInfo}
use Rattle.vol_model.specs.declared.contents.Shelf.{Shelf}
use Rattle.vol_model.specs.declared.contents.Volume.{Volume}
use Rattle.vol_model.specs.declared.requests.Op.{Op}
use Rattle.vol_model.specs.Calls.{counted}
use Rattle.vol_model.specs.Events.{Say, operations_of}
use Rattle.vol_model.specs.Reading.{volume_info}
use Rattle.util_steps.specs.Items.{DoesItem}
use Rattle.util_steps.proofs.Reporting.{HasSaid, StopsSaying, item_broken, has_said, said_then, stops_before, stops_behind}
use Rattle.util_syntax.specs.declared.listing.Object.{Object}
use Rattle.util_syntax.specs.declared.listing.Outcome.{Outcome}
use Rattle.util_syntax.specs.Listing.{item_line}
use Rattle.iehlist_util.specs.Items.{FindsVolume, Listing, listing_item, volume_for, volume_number}

operations_said : (lines : List (List ℕ)) → operations_of (map Say lines) ≡ []
operations_said [] = refl
operations_said (line ∷ lines) = operations_said lines

module _ (card : ℕ) (operation : List ℕ) (named : Object) (l : Listing) {tells : Bool} {old : Meaning Shelf} where
  -- lines are printed in part
  pub listing_stopped : {new : Meaning Shelf} {n m : ℕ} (r : Result ℕ Stop) → IsErr r → StopsSaying tells l.lines old new → DoesItem tells (listing_item card operation named l) old new n m r
  listing_stopped r failed time = item_broken r failed (stops_before l.lines (item_line card operation named l.outcome ∷ []) time)

  -- or all of them, and then the one that answers the statement
  pub listing_done : {mid new : Meaning Shelf} {n k m : ℕ} (outcome : Outcome) (r : Result ℕ Stop) → HasSaid tells l.lines old mid → outcome ≡ l.outcome → k ≡ n → DoesItem tells (listing_item card operation named (record { lines = []; outcome = outcome })) mid new k m r
      → DoesItem tells (listing_item card operation named l) old new n m r
  listing_done {mid = mid} {new = new} {n = n} {k = k} {m = m} outcome r said is count does =
      by_result r (subst (λ (o : Outcome). DoesItem tells (listing_item card operation named (record { lines = []; outcome = o })) mid new k m r) is does)
    where
      last : List (List ℕ)
      last = item_line card operation named l.outcome ∷ []

      by_result : (q : Result ℕ Stop) → DoesItem tells (listing_item card operation named (record { lines = []; outcome = l.outcome })) mid new k m q → DoesItem tells (listing_item card operation named l) old new n m q
      by_result (Ok code) does =
          let lines : HasSaid tells last mid new = has_said last does.runs in
          let run : HasSaid tells (l.lines ++ last) old new = said_then l.lines last said lines in
          record {
            runs = record { shelf = run.state; printed = run.printed; moments = run.moments };
            code = does.code;
            count = record { count = does.count.count ∙ ap (λ (i : ℕ). counted i 0) count ∙ ap (λ (ops : List Op). counted n (length ops)) (sym (operations_said (l.lines ++ last))) };
          }
      by_result (Err e) does = item_broken (Err e) refl (stops_behind l.lines last said does.runs.moments)

-- ---- the volume that is listed

module _ (shelf : Shelf) (serial : Option Serial) (v : ℕ) (numbered : volume_number shelf serial ≡ Some v) where
  numbered_volume : volume_for shelf serial ≡ slice_get shelf.volumes v
  numbered_volume = ap (option_and_then (λ w. slice_get shelf.volumes w)) numbered

  pub volume_found : (info : VolumeInfo) → Some info ≡ option_map volume_info (slice_get shelf.volumes v) → FindsVolume shelf serial (Some (v, info))
  volume_found info told = by_get (slice_get shelf.volumes v) refl told
    where
      by_get : (o : Option Volume) → slice_get shelf.volumes v ≡ o → Some info ≡ option_map volume_info o → FindsVolume shelf serial (Some (v, info))
      by_get None at told = let never : ⊥ = cc in absurd never
      by_get (Some volume) at told = let same : info ≡ volume_info volume = cc in (volume, numbered_volume ∙ at, at, same)

  pub volume_missing : None ≡ option_map volume_info (slice_get shelf.volumes v) → FindsVolume shelf serial None
  volume_missing told = by_get (slice_get shelf.volumes v) refl told
    where
      by_get : (o : Option Volume) → slice_get shelf.volumes v ≡ o → None ≡ option_map volume_info o → FindsVolume shelf serial None
      by_get None at told = numbered_volume ∙ at
      by_get (Some volume) at told = let never : ⊥ = cc in absurd never

-- a volume's serial in short
pub info_serial : (volume : Volume) (info : VolumeInfo) → info ≡ volume_info volume → info.serial ≡ volume.serial
unfolding volume_info
info_serial volume info is = ap (λ (i : VolumeInfo). i.serial) is
