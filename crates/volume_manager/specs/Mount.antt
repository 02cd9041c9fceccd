-- What is found in a file that is to be mounted.
use Rattle.std.specs.Prelude.{◌≡◌, ◌≢◌, ℕ, List, Some}
use Rattle.stop_model.specs.Files.{File, file_of}
use Rattle.pack_spec.specs.declared.MountErr.{MountErr}
use Rattle.pack_spec.specs.declared.MountErr.TheVariants.{Memory, Device}
use Rattle.vol_model.specs.declared.contents.Volume.{Volume}
use Rattle.mount_repair.specs.Scans.{IsScanOf}
use Rattle.mount_repair.specs.declared.scanned.Scan.{Scan}
use Rattle.vtoc_index.specs.declared.vol.Vol.{Vol}
use Rattle.vtoc_index.specs.Index.{IsMounted}
use Rattle.volume_manager.specs.Lines.{unit_line}
use Rattle.volume_manager.specs.Task.{Task, Says, task_on}

-- The file is there, and its image stands for a volume, whose index this is.
pub record IsPackIn (file : List ℕ) (files : List File) (v : Vol) : Type 0 where
  pub image : List ℕ
  pub there : file_of files file ≡ Some image
  pub mounted : IsMounted image v

-- The file is there, and this is a scan of its image.
pub record IsScanIn (file : List ℕ) (files : List File) (s : Scan) : Type 0 where
  pub image : List ℕ
  pub there : file_of files file ≡ Some image
  pub scan : IsScanOf image s

-- Whatever was to be done, this is why the file is refused; want of memory and a fault of the device say nothing of it.
pub record RefusesFile (file : List ℕ) (files : List File) (e : MountErr) : Type 0 where
  pub why : e ≢ Memory → e ≢ Device → (task : List ℕ → Volume → Task) → task_on file task (file_of files file) ≡ Says 21 (unit_line file e)
