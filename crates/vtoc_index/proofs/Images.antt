-- The image of a unit, as reads give it.
use Rattle.std.proofs.Common.{◌≡◌, ℕ, ◌<◌, List, [], length, take, drop, true, sym, ap, ◌∙◌, arith}
use Rattle.std.specs.Prelude.{unwrap_or, nat_lt, Err}
use Rattle.std.proofs.lemmas.Bool.Decides.{nat_tests}
use Rattle.ckd_image.specs.declared.header.ImageErr.TheVariants.{BadMagic}
use Rattle.ckd_image.specs.Header.{geometry_of}
use Rattle.hall_core.specs.Facts.{Facts, Attached, unit_of}
use Rattle.stop_model.specs.Files.{File, file_of, HasBytesAt}
use Rattle.hall_core.specs.Images.{AreWhole, image_of}

-- an image is as long as its unit
pub image_length : (files : List File) (units : List Attached) (unit : ℕ) → AreWhole files units → unit < length units → length (unwrap_or (file_of files (unit_of units unit).name) []) ≡ (unit_of units unit).size
image_length files units unit whole low = let w = whole unit low in ap (λ o. length (unwrap_or o [])) w.1 ∙ w.2

-- a file shorter than a header has no geometry
pub short_refused : (bytes : List ℕ) (len : ℕ) → len < 512 → geometry_of bytes len ≡ Err BadMagic
unfolding geometry_of
short_refused bytes len short = let is : nat_lt len 512 ≡ true = grind (arith, nat_tests) in rw is

-- what the header gives that is read is what the front of the image gives
pub header_read : (files : List File) (name : List ℕ) (header : List ℕ) (size : ℕ) → HasBytesAt files name 0 header → length header ≡ 512 → length (unwrap_or (file_of files name) []) ≡ size → geometry_of (take 512 (unwrap_or (file_of files name) [])) (length (unwrap_or (file_of files name) [])) ≡ geometry_of header size
header_read files name header size has long sized =
    let image : List ℕ = unwrap_or (file_of files name) [] in
    let there : header ≡ take (length header) (drop 0 image) = has.2 ∙ ap (λ o. take (length header) (drop 0 (unwrap_or o []))) (sym has.1) in
    let is : header ≡ take 512 image = there ∙ ap (λ (n : ℕ). take n (drop 0 image)) long in
    ap (λ (n : ℕ). geometry_of (take 512 image) n) sized ∙ ap (λ (b : List ℕ). geometry_of b size) (sym is)

-- the image of a unit stays while files and units do
pub same_image : (files files0 : List File) (f f0 : Facts) (unit : ℕ) → files ≡ files0 → f.units ≡ f0.units → image_of files f unit ≡ image_of files0 f0 unit
same_image files files0 f f0 unit same units = ap (λ (x : List File). image_of x f unit) same ∙ ap (λ (u : List Attached). unwrap_or (file_of files0 (unit_of u unit).name) []) units
