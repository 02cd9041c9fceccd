-- That an index is that of a mounted image, as a fact with one proof at most, for a ghost field of what keeps the two together.
use Rattle.std.specs.Prelude.{◌≡◌, ◌≢◌, ℕ, ◌+◌, ◌≤◌, List, [], ◌∷◌, length, take, Some, Ok}
use Rattle.std.specs.Coded.{×_prop, le_prop}
use Rattle.std.proofs.Common.{sym, ◌∙◌, arith}
use mathlib.Core.HLevel.{Σ_prop_path}
use Rattle.std.proofs.Props.{props}
use Rattle.ckd_image.specs.Header.{geometry_of}
use Rattle.vtoc_index.specs.declared.vol.Vol.{Vol}
use Rattle.pack_spec.specs.Label.{records_on}
use Rattle.pack_spec.specs.Vtoc.{vtoc_of}
use Rattle.pack_spec.specs.Slots.{slots_of_vtoc, track_faults}
use Rattle.pack_spec.specs.Rules.{slots_faults}
use Rattle.pack_spec.specs.Owned.{volume_faults}
use Rattle.pack_spec.specs.Volume.{volume_by}
use Rattle.vol_model.specs.Space.{free_runs}
use Rattle.vtoc_index.specs.Index.{AreDscbs, AreFirsts, firsts_of, serial_on}

-- The index is that of the VTOC of an image that breaks no rule.
-- Such an image stands for a volume, by `mounted_of`. A buffer with records holds the first ones of its track.
pub record IsKept (image : List ℕ) (v : Vol) : Type 0 where
  pub header : geometry_of (take 512 image) (length image) ≡ Ok v.geometry
  pub serial : serial_on image v.geometry ≡ Some v.serial.bytes
  pub vtoc : vtoc_of image v.geometry ≡ Ok v.vtoc
  pub tracks : track_faults image v.geometry v.vtoc ≡ []
  pub lawful : slots_faults v.geometry (slots_of_vtoc image v.geometry v.vtoc) ≡ []
  pub whole : volume_faults (volume_by image v.geometry v.vtoc) ≡ []
  pub free : v.free.items ≡ free_runs (volume_by image v.geometry v.vtoc)
  pub slots : AreDscbs v.slots.items (slots_of_vtoc image v.geometry v.vtoc)
  pub firsts : v.firsts.items ≡ firsts_of image v.geometry v.vtoc
  pub buffer : v.buf.records ≢ [] → records_on image v.buf.geometry
      (Some (length v.buf.records)) v.buf.track ≡ Some v.buf.records

-- the first slots tell the number of the first of them
same_number : (n m : ℕ) (firsts : List ℕ) (end : ℕ) → AreFirsts n firsts end
    → AreFirsts m firsts end → n ≡ m
same_number n m [] end one other = one ∙ sym other
same_number n m (first ∷ firsts) end one other = sym one.0 ∙ other.0

-- how many slots stand on the first track, and that the others' first slots follow
abbrev Count : ℕ → List ℕ → ℕ → Type 0
Count number firsts end = (count : ℕ) × (count ≤ 255) × AreFirsts (number + count) firsts end

same_count : (number : ℕ) (firsts : List ℕ) (end : ℕ) (s t : Count number firsts end) → s.0 ≡ t.0
same_count number firsts end s t = let same : number + s.0
    ≡ number + t.0 = same_number (number + s.0) (number + t.0) firsts end s.2 t.2 in
    omega (arith, same)

counts_once : (number : ℕ) (firsts : List ℕ) (end : ℕ)
    → ((c : ℕ) → IsProp (AreFirsts (number + c) firsts end)) → IsProp (Count number firsts end)
counts_once number firsts end each s t =
    let rest : ℕ → Type 0 = λ (c : ℕ). (c ≤ 255) × AreFirsts (number + c) firsts end in
    let pairs : ◌≡◌ {A = (c : ℕ) × rest c} (s.0, (s.1, s.2))
    (t.0, (t.1, t.2)) = Σ_prop_path {B = rest}
    (λ (c : ℕ). ×_prop {A = c ≤ 255} le_prop (each c)) (same_count number firsts end s t) in
    λ i. ((pairs i).0, (pairs i).1.0, (pairs i).1.1)

pub AreFirsts-prop : (number : ℕ) (firsts : List ℕ) (end : ℕ) → IsProp (AreFirsts number firsts end)
AreFirsts-prop number [] end = Prim.hlevel props
AreFirsts-prop number (first ∷ firsts) end = ×_prop (Prim.hlevel props)
    (counts_once number firsts end (λ (c : ℕ). AreFirsts-prop (number + c) firsts end))

pub ruleset kept_props = (AreFirsts-prop, props)

pub IsKept-prop : (image : List ℕ) (v : Vol) → IsProp (IsKept image v)
IsKept-prop image v = Prim.hlevel kept_props
