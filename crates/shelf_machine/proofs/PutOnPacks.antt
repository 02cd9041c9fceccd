-- A block that is put on one of several packs, or isn't: the shelf and what was promised stay, and the writer stands on the images.
use Rattle.std.proofs.Common.{◌≡◌, ℕ, List, set, Some, Result, refl, sym, ap, ◌∙◌, subst}
use Rattle.std.specs.Prelude.{IsErrOf, slice_get}
use Rattle.dscb_codec.specs.declared.Dscb.TheVariants as formats
use Rattle.dscb_codec.specs.declared.F1.{F1}
use Rattle.free_rebuild.specs.Repairs.{image_named}
use Rattle.hall_core.specs.Facts.{Attached, Facts, unit_of}
use Rattle.stop_model.specs.Files.{File}
use Rattle.stop_model.specs.Moments.{Meaning}
use Rattle.stop_model.proofs.MomentLemmas.{CountsNow}
use Rattle.track_records.specs.Buffers.{Buffer}
use Rattle.vtoc_index.specs.declared.vol.Vol.{Vol}
use Rattle.vtoc_index.specs.Index.{IsMounted}
use Rattle.seq_access.specs.declared.writer.PutErr.{PutErr}
use Rattle.seq_access.specs.declared.writer.PutErr.TheVariants.{Device}
use Rattle.seq_access.specs.Bodies.{last_in}
use Rattle.seq_access.specs.Writing.{AreSpared}
use Rattle.shelf_machine.specs.Known.{AreHeld, ForgetsOn}
use Rattle.shelf_machine.specs.Machine.{AreIndexes, AreKept, units_of}
use Rattle.shelf_machine.specs.Opening.{names_of}
use Rattle.pack_machine.specs.Ready.{IsSamePack}
use Rattle.shelf_machine.specs.Pending.{IsWriterOn, LeavesSpared}
use Rattle.shelf_machine.specs.Putting.{PutsOn}
use Rattle.pack_machine.specs.declared.pack.Pack.{Pack}
use Rattle.pack_machine.specs.declared.pack_cache.PackCache.{PackCache}
use Rattle.shelf_machine.specs.ReadyPacks.{caches_of, vols_of}
use Rattle.shelf_machine.proofs.ReadyPacks.{caches_set, vols_set}
use Rattle.shelf_machine.specs.declared.writer.Writer.{Writer}
use Rattle.shelf_machine.proofs.ForgottenTracks.{held_still, pack_still}
use Rattle.pack_machine.proofs.ListPlaces.{get_set}
use Rattle.shelf_machine.proofs.Operating.{kept_after, name_there}
use Rattle.shelf_machine.proofs.Promises.{keeps_safe_by}
use Rattle.shelf_machine.proofs.Putting.{LeavesBehind, directories_still, guarded_left, kept_still, shelf_moments, shelf_stays, spared_still}
use Rattle.std.proofs.lemmas.Option.{same_Some}

-- by the lists of packs of which one is set
pub puts_set : {T : Type 0} (packs : List Pack) (k : ℕ) (p : Pack) (names : List (List ℕ)) (attached : List Attached) (w : Writer) (m m' : Meaning (List File)) (r : Result T PutErr)
    → PutsOn names attached (vols_of packs) (set (vols_of packs) k p.vol) (set (caches_of packs) k p.cache) w m m' r → PutsOn names attached (vols_of packs) (vols_of (set packs k p)) (caches_of (set packs k p)) w m m' r
puts_set packs k p names attached w m m' r puts =
    subst (λ (vs : List Vol). PutsOn names attached (vols_of packs) vs (caches_of (set packs k p)) w m m' r) (sym (vols_set packs k p))
    (subst (λ (bs : List PackCache). PutsOn names attached (vols_of packs) (set (vols_of packs) k p.vol) bs w m m' r) (sym (caches_set packs k p)) puts)

module _ (old new : Facts) (vols : List Vol) (indexes : AreIndexes old.units vols) (m m' : Meaning (List File)) (counts : CountsNow m) (here : m.left m.state) (kept : AreKept m.state old.units vols)
    (w w' : Writer) (v : Vol) (at : slice_get vols w.v ≡ Some v) (b : Buffer) (units : new.units ≡ old.units) (on : IsWriterOn (image_named m.state (unit_of old.units v.unit).name) v w)
    (spared : LeavesSpared (unit_of old.units v.unit).name m v w) (f : F1) (there : slice_get v.slots.items w.inner.slot ≡ Some (formats.F1 f)) where
  abbrev name : List ℕ
  name = (unit_of old.units v.unit).name

  abbrev v' : Vol
  v' = record v { buf = b }

  abbrev names : List (List ℕ)
  names = names_of old.units (units_of vols)

  same_pack : IsSamePack v v'
  same_pack = record { unit = refl; serial = refl; geometry = refl; vtoc = refl; room = refl }

  pub puts_on : {T : Type 0} (r : Result T PutErr) (known known' : List PackCache) → ForgetsOn w.v known known' → AreHeld m.state old.units vols known → LeavesBehind name v f m m' → (¬ IsErrOf r Device → IsMounted (image_named m'.state name) v')
      → (¬ IsErrOf r Device → IsWriterOn (image_named m'.state name) v' w') → w'.v ≡ w.v → w'.inner.slot ≡ w.inner.slot → PutsOn names new.units vols (set vols w.v v') known' w' m m' r
  puts_on r known known' forgot held leaves mounted stands number slot = record {
    state = shelf_stays name m v (kept w.v v at) w on spared f there m' leaves names;
    printed = leaves.printed;
    moments = shelf_moments name m v (kept w.v v at) w on spared f there m' leaves names;
    safe = keeps_safe_by names vols indexes.names w.v name (name_there old.units vols w.v v at) v v' at refl refl (AreSpared name v f (last_in (image_named m.state name) v f) m.state) m m' counts here leaves.moments
        (guarded_left name m v (kept w.v v at) w on spared f there m' leaves names) (λ files differ other apart. differ.others other apart);
    kept = λ none. kept_after old new vols w.v v v' at same_pack units m.state m'.state indexes kept leaves.here.others (kept_still name m v (kept w.v v at) w on spared f there m' leaves names b (mounted none));
    pending = λ none u is.
        let same : v' ≡ u = same_Some _ _ (sym (get_set vols w.v v v' at) ∙ ap (slice_get (set vols w.v v')) (sym number) ∙ is) in
        subst (λ (x : Vol). IsWriterOn (image_named m'.state (unit_of new.units x.unit).name) x w' × LeavesSpared (unit_of new.units x.unit).name m' x w') same
        (subst (λ (us : List Attached). IsWriterOn (image_named m'.state (unit_of us v.unit).name) v' w' × LeavesSpared (unit_of us v.unit).name m' v' w') (sym units)
        (stands none, spared_still name m v (kept w.v v at) w on spared f there m' leaves names b w' slot));
    held = λ none. subst (λ (us : List Attached). AreHeld m'.state us (set vols w.v v') known') (sym units) (held_still m.state m'.state old.units vols known known' w.v v v' at indexes.names refl leaves.here.others forgot.others
        (pack_still (image_named m.state name) (image_named m'.state name) v v' known known' w.v forgot (directories_still name m v (kept w.v v at) w on spared f there m' leaves names) (λ a is. held w.v v a at is)) held);
  }
