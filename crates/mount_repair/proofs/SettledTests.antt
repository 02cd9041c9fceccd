-- An image is settled where the test says so.
use Rattle.std.proofs.Common.{◌≡◌, ℕ, Bool, true, false, List, refl, sym, ap₂}
use Rattle.std.specs.Prelude.{◌&&◌, ◌↔◌, IsTrue}
use Rattle.std.proofs.lemmas.Bool.{and_parts}
use Rattle.free_rebuild.specs.Settled.{is_settled_vtoc}
use Rattle.free_rebuild.proofs.SettledBool.{settled_true, settled_vtoc}
use Rattle.pack_spec.specs.Settled.{IsSettled}
use Rattle.pds_directory.specs.Packed.{are_packed}
use Rattle.pds_directory.proofs.PackedTests.{are_packed_is, are_packed_of}
use Rattle.mount_repair.specs.Scans.{IsScanOf}
use Rattle.mount_repair.specs.Settled.{is_settled}
use Rattle.mount_repair.specs.declared.scanned.Scan.{Scan}

pub settled_is : (image : List ℕ) → IsSettled image → is_settled image ≡ true
settled_is image settled =
    ap₂ (λ (a b : Bool). a && b) (settled_true image (settled.0, settled.1, settled.2)) (are_packed_is image settled.0 settled.1 settled.3)

pub settled_by : (image : List ℕ) → is_settled image ≡ true → IsSettled image
settled_by image is =
    let both = and_parts (is_settled_vtoc image) (are_packed image) is in
    let vtoc = settled_vtoc image both.0 in
    (vtoc.0, vtoc.1, vtoc.2, are_packed_of image vtoc.0 vtoc.1 both.1)

-- two tests of one thing agree
same_test : {P : Type 0} (a b : Bool) → IsTrue a ↔ P → (P → b ≡ true) → (b ≡ true → P) → a ≡ b
same_test true true both to from = refl
same_test false false both to from = refl
same_test true false both to from = sym (to (both.0 refl))
same_test false true both to from = both.1 (from refl)

-- a scan gives what the test says
pub scan_settled : (image : List ℕ) (s : Scan) → IsScanOf image s → s.settled ≡ is_settled image
scan_settled image s scan = same_test s.settled (is_settled image) scan.settled (settled_is image) (settled_by image)
