-- What an operation on the VTOC of one volume leaves, done or failed, and what a stop in it leaves, in this project's profile.
use Rattle.std.specs.Prelude.{◌≡◌, ℕ, List}
use Rattle.ckd_image.specs.declared.header.Geometry.{Geometry}
use Rattle.stop_model.specs.Files.{File}
use Rattle.pack_spec.specs.Alike.{DifferInVtoc}
use Rattle.vol_model.specs.declared.contents.Run.{Run}
use Rattle.vtoc_index.specs.declared.vol.Vol.{Vol}
pub use Rattle.free_rebuild.specs.Operations.{ChangesImage, DoesOperation, IsBeforeOrAfter, IsDone, IsLeftInOperation, Operates, StoreCall}
pub use Rattle.free_rebuild.specs.Repairs.{image_named}

-- an index of the same geometry and VTOC as another
abbrev pub HasVtocOf : Vol → Vol → Type 0
HasVtocOf v w = w ≡ record v { slots = w.slots; free = w.free; by_name = w.by_name; buf = w.buf }

-- images differ in the tracks of an index's VTOC alone
abbrev pub InVtoc : Vol → List ℕ → List ℕ → Type 0
InVtoc v = DifferInVtoc v.geometry v.vtoc

-- files differ in the image of this name alone, and that in the tracks of its VTOC
abbrev pub ChangesVtoc : List ℕ → Geometry → Run → List File → List File → Type 0
ChangesVtoc name g vtoc = ChangesImage name (DifferInVtoc g vtoc)
