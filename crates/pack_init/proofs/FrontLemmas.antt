-- The header and track 0 of an image, each written or still zeros.
use Rattle.std.proofs.Common.{◌≡◌, ℕ, List, [], ◌++◌, Bool, true, false, length, replicate, refl, ap, sym, ◌∙◌, if◌then◌else◌}
use Rattle.std.proofs.lemmas.List.{length-replicate}
use Rattle.stop_model.specs.Files.{patched}
use Rattle.pack_init.specs.Progress.{IsFrontWritten}
use Rattle.pack_init.proofs.PatchLemmas.{patched_at}

-- zeros of a length, or as many bytes
same_length : (b : Bool) (bytes : List ℕ) (n : ℕ) → length bytes ≡ n → length (if b then bytes else replicate n 0) ≡ length bytes
same_length true bytes n e = refl
same_length false bytes n e = length-replicate n 0 ∙ sym e

-- the header is written
pub header_written : (header label rest image : List ℕ) → length header ≡ 512 → IsFrontWritten header label rest image → IsFrontWritten header label rest (patched image 0 header)
header_written header label rest image long (h, l, is) =
    let behind = (if l then label else replicate (length label) 0) ++ rest in
    (true, l, ap (λ (x : List ℕ). patched x 0 header) is ∙ patched_at [] (if h then header else replicate 512 0) header behind 0 refl (same_length h header 512 long))

-- the label is
pub label_written : (header label rest image : List ℕ) → length header ≡ 512 → IsFrontWritten header label rest image → IsFrontWritten header label rest (patched image 512 label)
label_written header label rest image long (h, l, is) = (
  h,
  true,
  ap (λ (x : List ℕ). patched x 512 label) is
      ∙ patched_at (if h then header else replicate 512 0) (if l then label else replicate (length label) 0) label rest 512
      (same_length h header 512 long ∙ long) (same_length l label (length label) refl),
)
