-- What a read of one of several packs leaves of all, and of the machine that has them.
use Rattle.std.proofs.Common.{Bool, IsTrue, List, None, Option, Some, ap, false, refl, set, subst, sym, true, ℕ, ⊎_elim, ◌∙◌, ◌≡◌}
use Rattle.std.specs.Prelude.{IsErrOf, Result, slice_get}
use Rattle.std.proofs.lemmas.Bool.{cases_eq}
use Rattle.free_rebuild.specs.Repairs.{image_named}
use Rattle.hall_core.specs.Facts.{Facts, ReportedCall}
use Rattle.stop_model.specs.Files.{File}
use Rattle.stop_model.specs.Moments.{Meaning}
use Rattle.stop_model.proofs.MomentLemmas.{CountsNow, same_none}
use Rattle.vtoc_index.specs.declared.vol.Vol.{Vol}
use Rattle.vtoc_sets.specs.Sets.{volume_in}
use Rattle.shelf_machine.specs.Machine.{AreIndexes, ByFiles, KeepsSafe, LeavesJust, shelf_under, status_with, units_of, writer_in}
use Rattle.shelf_machine.specs.Opening.{names_of}
use Rattle.shelf_machine.specs.Pending.{HasSlot, IsPendingBy}
use Rattle.shelf_machine.specs.PendingShelves.{kept_in}
use Rattle.shelf_machine.specs.ReadyPacks.{AreReady, RestPacks, vols_of}
use Rattle.pack_machine.specs.Ready.{IsReady, Rest, file_name}
use Rattle.pack_machine.specs.declared.pack.Pack.{Pack}
use Rattle.shelf_machine.specs.declared.writer.Writer.{Writer}
use Rattle.shelf_machine.proofs.Holding.{has_volumes, kept_mounted, volume_there}
use Rattle.pack_machine.proofs.ListPlaces.{get_map, get_other, get_set, set_itself}
use Rattle.shelf_machine.proofs.Pendings.{pending_same}
use Rattle.shelf_machine.proofs.ReadyPacks.{ready_later, vols_set}
use Rattle.shelf_machine.proofs.SeveralPacks.{missing}
use Rattle.std.proofs.lemmas.Option.{same_Some}
use Rattle.vol_model.specs.Calls.{Idles, ReadCall}
use Rattle.stop_model.specs.Steps.{seen}
use Rattle.shelf_machine.proofs.MachineLibraries.{idles_through}
use Rattle.shelf_machine.proofs.ReadMachines.{read_call}

-- ---- several packs

-- nothing is called
pub rest_none : {D : Type 0} {tells : Bool} {f : Facts} {m : Meaning (List File)} {packs : List Pack} → AreReady tells f m packs → CountsNow m → ReportedCall D f f → RestPacks D tells f f m m packs packs
rest_none {D} {tells} {f} {m} {packs} ready counts faults = record { ready = ready; same = λ told. same_none m counts; vols = refl; faults = faults }

module _ {tells : Bool} {f : Facts} {m : Meaning (List File)} {packs : List Pack} (ready : AreReady tells f m packs) where
  -- the shelf has no volume of a number that no pack has
  pub no_volume : IsTrue tells → (n : ℕ) → slice_get packs n ≡ None → slice_get (shelf_under (names_of f.units (units_of (vols_of packs))) m.state).volumes n ≡ None
  no_volume told n none = (has_volumes m.state f.units (vols_of packs) (kept_mounted m.state f.units (vols_of packs) (kept_in ready told)) ready.indexes.serials).none n (missing packs n none)

  module _ (k : ℕ) (p : Pack) (there : slice_get packs k ≡ Some p) where
    -- the volume of the pack of this number stands on the shelf
    pub volume_at : IsTrue tells → slice_get (shelf_under (names_of f.units (units_of (vols_of packs))) m.state).volumes k ≡ Some (volume_in (image_named m.state (file_name f p.vol)) p.vol)
    volume_at told = volume_there m.state f.units (vols_of packs) (kept_mounted m.state f.units (vols_of packs) (kept_in ready told)) ready.indexes.serials k p.vol (get_map (λ (q : Pack). q.vol) packs k p there)

    pub rest_packs : {D : Type 0} {f' : Facts} {m' : Meaning (List File)} {p' : Pack} → Rest D tells f f' m m' p p' → RestPacks D tells f f' m m' packs (set packs k p')
    rest_packs {D} {f'} {m'} {p'} rests = record {
      ready = record {
        indexes = subst (AreIndexes f'.units) (sym same_vols) later.indexes;
        each = λ j q is. ⊎_elim
            (λ here. subst (IsReady tells f' m') (same_Some _ _ (sym (get_set packs k p p' there) ∙ ap (slice_get (set packs k p')) (sym here) ∙ is)) rests.ready)
            (λ differs. later.each j q (sym (get_other packs j k p' differs) ∙ is))
            (cases_eq j k);
      };
      same = rests.same;
      vols = same_vols;
      faults = rests.faults;
    }
      where
        same_vols : vols_of (set packs k p') ≡ vols_of packs
        same_vols = vols_set packs k p' ∙ ap (set (vols_of packs) k) rests.vol ∙ set_itself (vols_of packs) k p.vol (get_map (λ (q : Pack). q.vol) packs k p there)

        later : AreReady tells f' m' packs
        later = ready_later tells f f' m m' packs rests.faults.units (λ told. (rests.same told).state) ready

-- what a writer left pending is pending still
pub pending_rest : {D : Type 0} {tells : Bool} {f f' : Facts} {m m' : Meaning (List File)} {packs packs' : List Pack} (w : Option Writer) → RestPacks D tells f f' m m' packs packs' → IsTrue tells → IsPendingBy m f.units (vols_of packs) w → IsPendingBy m' f'.units (vols_of packs') w
pending_rest {D} {tells} {f} {f'} {m} {m'} {packs} {packs'} w rests told pending = subst (λ (vs : List Vol). IsPendingBy m' f'.units vs w) (sym rests.vols)
    (pending_same m m' f.units f'.units (vols_of packs) w (rests.same told).state (λ j left. ((rests.same told).left j).0 left) rests.faults.units pending)

pub slot_rest : {D : Type 0} {tells : Bool} {f f' : Facts} {m m' : Meaning (List File)} {packs packs' : List Pack} (w : Option Writer) → RestPacks D tells f f' m m' packs packs' → HasSlot (vols_of packs) w → HasSlot (vols_of packs') w
slot_rest w rests slot = subst (λ (vs : List Vol). HasSlot vs w) (sym rests.vols) slot

-- the machine is idle but for the time
pub rest_idle : {D : Type 0} {tells : Bool} {f f' : Facts} {m m' : Meaning (List File)} {packs packs' : List Pack} (w : Option Writer) → CountsNow m → RestPacks D tells f f' m m' packs packs' → IsTrue tells
    → Idles (seen (shelf_under (names_of f.units (units_of (vols_of packs)))) m) (seen (shelf_under (names_of f'.units (units_of (vols_of packs')))) m') (writer_in m.state f.units (vols_of packs) w) (writer_in m'.state f'.units (vols_of packs') w)
    (ByFiles (KeepsSafe (names_of f.units (units_of (vols_of packs))) (vols_of packs) m)) (ByFiles (KeepsSafe (names_of f'.units (units_of (vols_of packs'))) (vols_of packs') m')) (LeavesJust m) (LeavesJust m')
rest_idle {D} {tells} {f} {f'} {m} {m'} {packs} {packs'} w counts rests told = idles_through f.units f'.units rests.faults.units (vols_of packs) (vols_of packs') rests.vols m m' counts (rests.same told) w

-- it is sound unless the device failed
pub rest_call : {T E : Type 0} {device : E} {tells : Bool} {f f' : Facts} {m m' : Meaning (List File)} {packs packs' : List Pack} {r : Result T E} (w : Option Writer) (done : ℕ) (sound sound' : Bool) → RestPacks (IsErrOf r device) tells f f' m m' packs packs'
    → (IsErrOf r device → sound' ≡ false) → (¬ IsErrOf r device → sound' ≡ true) → ReadCall device (status_with sound w done f (vols_of packs)) (status_with sound' w done f' (vols_of packs')) r
rest_call {T} {E} {device} {tells} {f} {f'} {m} {m'} {packs} {packs'} {r} w done sound sound' rests failed others =
    subst (λ (vs : List Vol). ReadCall device (status_with sound w done f (vols_of packs)) (status_with sound' w done f' vs) r) (sym rests.vols) (read_call device r f f' (vols_of packs) w done sound sound' rests.faults failed others)
