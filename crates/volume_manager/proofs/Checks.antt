-- What is found on a pack, as it is printed.
use Rattle.std.proofs.Common.{◌≡◌, ◌≢◌, ℕ, Bool, true, false, List, [], ◌∷◌, sym, ◌∙◌, ap, subst}
use Rattle.std.specs.Prelude.{Option, Some, None, Result, Ok, slice_range, unwrap_or}
use Rattle.std.specs.Option.{option_map}
use Rattle.pack_spec.specs.declared.MountErr.{MountErr}
use Rattle.pack_spec.specs.Label.{label_of}
use Rattle.ebcdic_names.specs.declared.names.Dsn.{Dsn}
use Rattle.mount_repair.specs.Scans.{IsScanOf}
use Rattle.mount_repair.specs.Settled.{is_settled}
use Rattle.mount_repair.specs.declared.scanned.Scan.{Scan}
use Rattle.mount_repair.proofs.SettledTests.{scan_settled}
use Rattle.pack_spec.specs.Volume.{volume_of, volume_with}
use Rattle.stop_model.specs.Files.{File}
use Rattle.stop_model.specs.Moments.{Meaning}
use Rattle.pack_machine.specs.Checking.{all_unread, unread_in}
use Rattle.pack_machine.specs.declared.unread.Unread.{Unread}
use Rattle.vol_model.specs.declared.contents.Volume.{Volume}
use Rattle.vol_model.specs.declared.answers.Kind.{Kind}
use Rattle.vtoc_index.specs.Index.{IsMounted}
use Rattle.vtoc_index.specs.declared.vol.Vol.{Vol}
use Rattle.vtoc_sets.specs.Sets.{volume_in}
use Rattle.volume_manager.specs.Lines.{check_text}
use Rattle.volume_manager.specs.Run.{FollowsTask}
use Rattle.volume_manager.specs.Task.{Says, check_code, check_task}

-- the serial in a label
labelled : (label : Option (List ℕ)) (serial : List ℕ) → option_map (λ l. slice_range l 4 10) label ≡ Some serial → slice_range (unwrap_or label []) 4 10 ≡ serial
labelled None serial is = cc
labelled (Some label) serial is = cc

-- the volume of a mounted image is that of its index
pub volume_right : (image : List ℕ) (v : Vol) (volume : Volume) → IsMounted image v → volume_of image ≡ Ok volume → volume_in image v ≡ volume
volume_right image v volume mounted stands = ok_same (sym mounted.volume ∙ stands)
  where
    ok_same : {a b : Volume} → ◌≡◌ {A = Result Volume MountErr} (Ok a) (Ok b) → a ≡ b
    ok_same same = cc

-- and it has the serial of the index
serial_right : (image : List ℕ) (v : Vol) (volume : Volume) → IsMounted image v → volume_of image ≡ Ok volume → v.serial.bytes ≡ volume.serial.bytes
unfolding volume_with
serial_right image v volume mounted stands =
    sym (labelled (label_of image v.geometry) v.serial.bytes mounted.index.serial) ∙ ap (λ (w : Volume). w.serial.bytes) (volume_right image v volume mounted stands)

-- what a scan tells of an image is what the task says
pub scan_said : {image : List ℕ} {old new : Meaning (List File)} (s : Scan) (result : ℕ) → IsScanOf image s
    → FollowsTask (Says (check_code s.settled (unread_in s.volume.items)) (check_text s.vol.serial.bytes s.settled (unread_in s.volume.items))) old new result → FollowsTask (check_task image (volume_in image s.vol)) old new result
scan_said {image} {old} {new} s result scan does =
    let settled = is_settled image in
    let volume = volume_in image s.vol in
    subst (λ (l : List ℕ). FollowsTask (Says (check_code settled (all_unread volume)) (check_text l settled (all_unread volume))) old new result)
    (serial_right image s.vol volume scan.mounted scan.mounted.volume)
    (subst (λ (sets : List (Dsn × Kind)). FollowsTask (Says (check_code settled (unread_in sets)) (check_text s.vol.serial.bytes settled (unread_in sets))) old new result) scan.volume
    (subst (λ (b : Bool). FollowsTask (Says (check_code b (unread_in s.volume.items)) (check_text s.vol.serial.bytes b (unread_in s.volume.items))) old new result) (scan_settled image s scan) does))

-- the status of a check isn't that of want of memory
pub ample : (settled : Bool) (unread : List Unread) → check_code settled unread ≢ 25
ample true [] is = cc is
ample true (u ∷ unread) is = cc is
ample false unread is = cc is
