-- What a read of a pack leaves of it.
use Rattle.std.proofs.Common.{◌∙◌, ◌∷◌, ◌≡◌, Bool, IsTrue, List, Option, Some, [], ap, refl, subst, sym, ℕ}
use Rattle.std.specs.Prelude.{option_and_then, slice_get}
use Rattle.free_rebuild.specs.Repairs.{image_named}
use Rattle.hall_core.specs.Facts.{Attached, Facts, ReportedCall, unit_of}
use Rattle.stop_model.specs.Files.{File}
use Rattle.stop_model.specs.Moments.{Meaning, Same}
use Rattle.vol_model.specs.Shelf.{set_of}
use Rattle.vol_model.specs.Writing.{set_on}
use Rattle.vol_model.specs.declared.contents.Shelf.{Shelf}
use Rattle.vol_model.specs.declared.contents.Volume.{Volume}
use Rattle.vtoc_index.specs.Index.{IsOfUnit}
use Rattle.vtoc_index.specs.Names.{AreByName, name_at}
use Rattle.vtoc_index.specs.declared.vol.Vol.{Vol}
use Rattle.vtoc_sets.specs.Sets.{volume_in}
use Rattle.pack_machine.specs.Known.{HoldLibraries, HoldsPack, ListsBroken, ListsUnread}
use Rattle.pack_machine.specs.Ready.{IsKeptSettled, IsOfImage, IsReady, Rest, file_name}
use Rattle.pack_machine.specs.Unread.{broken_in}
use Rattle.pack_machine.specs.declared.pack.Pack.{Pack}
use Rattle.pack_machine.specs.declared.unread.Unread.{Unread}
use Rattle.seq_access.specs.Reading.{HoldsTrack}
use Rattle.vtoc_index.proofs.KeptLemmas.{mounted_of}
use Rattle.pack_machine.specs.Blocks.{IsOnImage}
use Rattle.pack_machine.specs.declared.pack_cache.PackCache.{PackCache}
use Rattle.stop_model.proofs.MomentLemmas.{CountsNow, same_none}

-- the sets of a volume that can't be read are those of the volume of its number
pub lists_on : (w : Volume) (unread : List Unread) → ListsBroken w unread → (shelf : Shelf) (n : ℕ) → slice_get shelf.volumes n ≡ Some w → ListsUnread shelf n unread
unfolding set_on
lists_on w unread lists shelf n at name = lists name ∙ sym (ap (λ (o : Option Volume). option_and_then broken_in (option_and_then (set_of name) o)) at)

-- the image of a pack is that of a volume of any shelf that has it
abbrev pub on_image : (image : List ℕ) (p : Pack) → IsOfImage image p → (shelf : Shelf) (n : ℕ) → slice_get shelf.volumes n ≡ Some (volume_in image p.vol) → IsOnImage image p.vol p.cache
on_image image p of shelf n there = record {
  shelf = shelf;
  number = n;
  mounted = mounted_of image p.vol of.kept.kept;
  there = there;
  lists = lists_on (volume_in image p.vol) p.cache.unread.items of.lists shelf n there;
  libraries = of.held.libraries;
  held = of.held.track;
}

-- and there is such a shelf
pub on_one : (image : List ℕ) (p : Pack) → IsOfImage image p → IsOnImage image p.vol p.cache
on_one image p of = on_image image p of (record { volumes = volume_in image p.vol ∷ [] }) 0 refl

-- the index of a pack is as before, and so is the list of its sets that can't be read
pub rest : {D : Type 0} {tells : Bool} {f f' : Facts} {m m' : Meaning (List File)} {p p' : Pack} → IsReady tells f m p → p'.vol ≡ p.vol → p'.cache.unread ≡ p.cache.unread → (IsTrue tells → Same m m')
    → (IsTrue tells → HoldLibraries (image_named m.state (file_name f p.vol)) p.vol p'.cache.libraries.items) → (IsTrue tells → HoldsTrack (image_named m.state (file_name f p.vol)) p'.cache.buf) → ReportedCall D f f' → Rest D tells f f' m m' p p'
rest {D} {tells} {f} {f'} {m} {m'} {p} {p'} ready vol unread same libraries track faults = record {
  ready = record {
    unit = subst (λ (us : List Attached). IsOfUnit us p'.vol) (sym faults.units) (subst (IsOfUnit f.units) (sym vol) ready.unit);
    names = subst (λ (w : Vol). AreByName (name_at w.slots.items) w.by_name.items) (sym vol) ready.names;
    image = λ told. subst (λ (i : List ℕ). IsOfImage i p') (sym (ap (λ (fs : List File). image_named fs (file_name f' p'.vol)) (same told).state ∙ ap (image_named m.state) named)) (record {
      kept = subst (IsKeptSettled image) (sym vol) (ready.image told).kept;
      lists = subst (λ (w : Vol). ListsBroken (volume_in image w) p'.cache.unread.items) (sym vol) (subst (ListsBroken (volume_in image p.vol)) (sym (ap (λ us. us.items) unread)) (ready.image told).lists);
      held = subst (λ (w : Vol). HoldsPack image w p'.cache) (sym vol) (record { track = track told; libraries = libraries told });
    });
  };
  same = same;
  vol = vol;
  faults = faults;
}
  where
    image : List ℕ
    image = image_named m.state (file_name f p.vol)

    named : file_name f' p'.vol ≡ file_name f p.vol
    named = ap (λ (us : List Attached). (unit_of us p'.vol.unit).name) faults.units ∙ ap (λ (w : Vol). (unit_of f.units w.unit).name) vol

-- where another track is held, and the same libraries
pub rest_track : {D : Type 0} {tells : Bool} {f f' : Facts} {m m' : Meaning (List File)} {p p' : Pack} → IsReady tells f m p → p'.vol ≡ p.vol → p'.cache.unread ≡ p.cache.unread → p'.cache.libraries ≡ p.cache.libraries → (IsTrue tells → Same m m')
    → (IsTrue tells → HoldsTrack (image_named m.state (file_name f p.vol)) p'.cache.buf) → ReportedCall D f f' → Rest D tells f f' m m' p p'
rest_track {D} {tells} {f} {f'} {m} {m'} {p} {p'} ready vol unread libraries same track faults = rest ready vol unread same
    (λ told. subst (HoldLibraries (image_named m.state (file_name f p.vol)) p.vol) (sym (ap (λ ls. ls.items) libraries)) (ready.image told).held.libraries) track faults

-- by what a read leaves of what is known
pub rest_buffer : {D : Type 0} {tells : Bool} {f f' : Facts} {m m' : Meaning (List File)} {p p' : Pack} → IsReady tells f m p → p'.vol ≡ p.vol → p'.cache ≡ record (p.cache) { buf = p'.cache.buf } → (IsTrue tells → Same m m')
    → (IsTrue tells → HoldsTrack (image_named m.state (file_name f p.vol)) p'.cache.buf) → ReportedCall D f f' → Rest D tells f f' m m' p p'
rest_buffer {D} {tells} {f} {f'} {m} {m'} {p} {p'} ready vol others = rest_track ready vol (ap (λ (b : PackCache). b.unread) others) (ap (λ (b : PackCache). b.libraries) others)

-- where nothing is called
pub rest_none : {D : Type 0} {tells : Bool} {f : Facts} {m : Meaning (List File)} {p : Pack} → IsReady tells f m p → CountsNow m → ReportedCall D f f → Rest D tells f f m m p p
rest_none {D} {tells} {f} {m} {p} ready counts faults = record { ready = ready; same = λ told. same_none m counts; vol = refl; faults = faults }
