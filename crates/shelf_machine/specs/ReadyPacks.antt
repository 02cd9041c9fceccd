-- Mounted packs that a hall may be called for, and what an operation or a read leaves of them, in this project's profile.
use Rattle.std.specs.Prelude.{◌≡◌, ℕ, Bool, true, IsTrue, List, map, slice_get, Some, Result}
use Rattle.free_rebuild.specs.Operations.{StoreCall}
use Rattle.hall_core.specs.Facts.{Facts, ReportedCall}
use Rattle.stop_model.specs.Files.{File}
use Rattle.stop_model.specs.Moments.{Meaning, Same}
use Rattle.vol_model.specs.Calls.{sound_after}
use Rattle.vol_model.specs.declared.answers.StoreErr.{StoreErr}
use Rattle.vol_model.specs.declared.requests.Op.{Op}
use Rattle.vtoc_index.specs.declared.vol.Vol.{Vol}
use Rattle.shelf_machine.specs.Machine.{AreIndexes, base_of, units_of}
use Rattle.shelf_machine.specs.Opening.{names_of}
use Rattle.shelf_machine.specs.Operating.{OperatesOnShelf}
use Rattle.pack_machine.specs.Ready.{reported}
use Rattle.pack_machine.specs.declared.pack.Pack.{Pack}
use Rattle.pack_machine.specs.declared.pack_cache.PackCache.{PackCache}
use Rattle.pack_machine.specs.Ready.{IsReady}

-- the indexes of packs, and what is known of the bodies on each
abbrev pub vols_of : List Pack → List Vol
vols_of packs = map (λ (p : Pack). p.vol) packs

abbrev pub caches_of : List Pack → List PackCache
caches_of packs = map (λ (p : Pack). p.cache) packs

-- Packs that are ready: each is, and they are those of attached units.
pub record AreReady (tells : Bool) (facts : Facts) (m : Meaning (List File)) (packs : List Pack) : Type 0 where
  pub indexes : AreIndexes facts.units (vols_of packs)
  pub each : (k : ℕ) (p : Pack) → slice_get packs k ≡ Some p → IsReady tells facts m p

-- What an operation on packs leaves: it is one of their shelf; they are ready again unless the device failed, and the same packs in any case.
pub record LeavesPacks {T : Type 0} (tells : Bool) (op : Op) (f f' : Facts) (m m' : Meaning (List File))
    (packs packs' : List Pack) (result : Result T StoreErr) : Type 0 where
  pub shelf : IsTrue tells → OperatesOnShelf op (names_of f.units (units_of (vols_of packs))) (names_of f'.units (units_of (vols_of packs'))) f'.units
      (vols_of packs) (vols_of packs') m m' result
  pub ready : sound_after (reported result) ≡ true → AreReady tells f' m' packs'
  pub indexes : AreIndexes f'.units (vols_of packs')
  pub base : base_of f' (vols_of packs') ≡ base_of f (vols_of packs)
  pub faults : StoreCall f f' result

-- What a read of packs leaves: nothing changes but the time, and what is held of them.
pub record RestPacks (IsFault : Type 0) (tells : Bool) (f f' : Facts) (m m' : Meaning (List File))
    (packs packs' : List Pack) : Type 0 where
  pub ready : AreReady tells f' m' packs'
  pub same : IsTrue tells → Same m m'
  pub vols : vols_of packs' ≡ vols_of packs
  pub faults : ReportedCall IsFault f f'

-- Packs with the same indexes, of which the same is known.
pub record AreAlike (packs packs' : List Pack) : Type 0 where
  pub vols : vols_of packs' ≡ vols_of packs
  pub caches : caches_of packs' ≡ caches_of packs
