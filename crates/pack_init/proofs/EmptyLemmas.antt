-- Tracks that are made empty, one after the other.
use Rattle.std.specs.Prelude.{Result, Ok}
use Rattle.std.proofs.Common.{◌≡◌, ◌≤◌, ◌<◌, ◌+◌, ◌-◌, ◌*◌, ℕ, suc, List, length, ap, sym, subst, ◌∙◌, arith, lit≤}
use Rattle.std.proofs.Math.Nat.{mul-le-mul_right}
use Rattle.ckd_image.specs.declared.device.DiskType.{DiskType}
use Rattle.ckd_image.specs.declared.device.DiskType.TheVariants.{D2311, D2314, D3330, D3350}
use Rattle.ckd_image.specs.declared.header.Geometry.{Geometry}
use Rattle.ckd_image.specs.Device.{row_of}
use Rattle.stop_model.specs.Files.{File, patched, AfterWrite}
use Rattle.stop_model.specs.Moments.{Meaning}
use Rattle.pack_spec.specs.Label.{tracks_of}
use Rattle.pack_spec.specs.New.{IsNewPack}
use Rattle.pack_init.specs.Init.{size_of}
use Rattle.pack_init.specs.Layout.{empty_bytes, offset_of, with_empties, with_tracks}
use Rattle.pack_init.specs.Progress.{IsHeaderless, Writes}
use Rattle.pack_init.proofs.PatchLemmas.{headerless_patched}
use Rattle.pack_init.proofs.WriteLemmas.{writes_none, writes_one, writes_then}

-- a track that is written is long enough for what stands on an empty one
long_tracks : (d : DiskType) → 29 ≤ (row_of d).written_track_size
long_tracks D2311 = lit≤ tt
long_tracks D2314 = lit≤ tt
long_tracks D3330 = lit≤ tt
long_tracks D3350 = lit≤ tt

-- and so is one of a new pack
pub long_track : (g : Geometry) (n : ℕ) → IsNewPack g n → 29 ≤ g.track_size
long_track g n pack = omega (arith, pack.size, long_tracks g.device)

-- so many bytes of a track lie inside the image
pub track_inside : (g : Geometry) (track len : ℕ) → track < tracks_of g → len ≤ g.track_size → offset_of g track + len ≤ size_of g
track_inside g track len inside fits =
    let behind : suc track ≤ tracks_of g = omega arith in
    omega (arith, mul-le-mul_right {m = suc track} {n = tracks_of g} g.track_size behind)

-- one track more
pub empties_more : {T E A B : Type 0} {x : A} {result : Result T E} (name : List ℕ) (g : Geometry) (first track at : ℕ) (bytes : List ℕ) (old mid new : Meaning (List File))
    → first ≤ track → at ≡ offset_of g track → bytes ≡ empty_bytes g track → at + length bytes ≤ size_of g
    → Writes {T = A} {E = B} name (IsHeaderless (size_of g)) (with_empties g first (track - first)) old mid (Ok x)
    → AfterWrite name at bytes mid new result
    → Writes name (IsHeaderless (size_of g)) (with_empties g first (track + 1 - first)) old new result
unfolding with_empties
empties_more {T = T} {E = E} {result = result} name g first track at bytes old mid new low place content inside before write =
    let k = track - first in
    let count : track + 1 - first ≡ suc k = omega arith in
    let here : track ≡ first + k = omega arith in
    let behind : 512 ≤ at = omega (arith, place) in
    let all : Writes name (IsHeaderless (size_of g)) (λ image. patched (with_empties g first k image) at bytes) old new result =
    writes_then before (writes_one (λ image was. headerless_patched (size_of g) at bytes image behind inside was) write) in
    subst (λ (n : ℕ). Writes name (IsHeaderless (size_of g)) (with_empties g first n) old new result) (sym count)
    (subst (λ (b : List ℕ). Writes name (IsHeaderless (size_of g)) (λ image. patched (with_empties g first k image) (offset_of g (first + k)) b) old new result) (content ∙ ap (empty_bytes g) here)
    (subst (λ (n : ℕ). Writes name (IsHeaderless (size_of g)) (λ image. patched (with_empties g first k image) n bytes) old new result) (place ∙ ap (offset_of g) here) all))

-- no track yet
pub empties_none : {A B : Type 0} (x : A) (name : List ℕ) (P : List ℕ → Type 0) (g : Geometry) (first n : ℕ) (m : Meaning (List File)) → n ≡ 0 → Writes {T = A} {E = B} name P (with_empties g first n) m m (Ok x)
unfolding with_empties
empties_none {A = A} {B = B} x name P g first n m none = subst (λ (k : ℕ). Writes {T = A} {E = B} name P (with_empties g first k) m m (Ok x)) (sym none) (writes_none m x)

-- as many tracks
pub empties_all : {T E : Type 0} {result : Result T E} (name : List ℕ) (P : List ℕ → Type 0) (g : Geometry) (first n k : ℕ) (old new : Meaning (List File)) → n ≡ k → Writes name P (with_empties g first n) old new result → Writes name P (with_empties g first k) old new result
empties_all {result = result} name P g first n k old new same w = subst (λ (i : ℕ). Writes name P (with_empties g first i) old new result) same w

-- the tracks of the VTOC lie inside the image
pub vtoc_inside : (g : Geometry) (n len : ℕ) → IsNewPack g n → len ≡ n * g.track_size → offset_of g 1 + len ≤ size_of g
vtoc_inside g n len pack long =
    let room : 1 + n ≤ tracks_of g = omega (arith, pack.room) in
    omega (arith, long, mul-le-mul_right {m = 1 + n} {n = tracks_of g} g.track_size room)

-- the VTOC, and then the tracks after it
pub tracks_more : {T E A B : Type 0} {x : A} {result : Result T E} (name : List ℕ) (P : List ℕ → Type 0) (g : Geometry) (n at : ℕ) (vtoc : List ℕ) (old mid new : Meaning (List File))
    → at ≡ offset_of g 1
    → Writes {T = A} {E = B} name P (λ image. patched image at vtoc) old mid (Ok x)
    → Writes name P (with_empties g (n + 1) (tracks_of g - (n + 1))) mid new result
    → Writes name P (with_tracks g n vtoc) old new result
unfolding with_tracks
tracks_more {result = result} name P g n at vtoc old mid new place before behind =
    subst (λ (k : ℕ). Writes name P (λ image. with_empties g (n + 1) (tracks_of g - (n + 1)) (patched image k vtoc)) old new result) place (writes_then before behind)
