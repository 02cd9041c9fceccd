-- What is read of an image is its volume, or a reason why there is none.
use Rattle.std.proofs.Common.{◌≡◌, ◌⊎◌, inr, ⊎_elim, ℕ, true, false, List, [], ◌++◌, length, take, Some, sym, ap, subst, ◌∙◌}
use Rattle.std.specs.Prelude.{Ok, Err, slice_get}
use Rattle.ckd_image.specs.declared.header.Geometry.{Geometry}
use Rattle.ckd_image.specs.Header.{geometry_of}
use Rattle.pack_spec.specs.declared.MountErr.{MountErr}
use Rattle.pack_spec.specs.declared.MountErr.TheVariants.{Memory, BadVtoc}
use Rattle.pack_spec.specs.Label.{is_inside, label_of}
use Rattle.pack_spec.specs.Slots.{slots_of_vtoc}
use Rattle.pack_spec.specs.Rules.{slots_faults}
use Rattle.pack_spec.specs.Owned.{volume_faults}
use Rattle.pack_spec.specs.Volume.{volume_by, volume_of, volume_within}
use Rattle.pack_spec.specs.Vtoc.{vtoc_of, vtoc_on}
use Rattle.vol_model.specs.declared.contents.Run.{Run}
use Rattle.vol_model.specs.Space.{free_runs}
use Rattle.vtoc_index.specs.Index.{AreDscbs, IsMounted, IsReason}
use Rattle.vtoc_index.specs.Reading.{AreTracksRead, IsLabel, Refuses}
use Rattle.vtoc_index.specs.declared.label.Label.{Label}
use Rattle.vtoc_index.specs.declared.tracks.ReadSlots.{ReadSlots}
use Rattle.vtoc_index.specs.declared.vol.Vol.{Vol}
use Rattle.vtoc_index.proofs.Reasons.{reason, refuses_same, serial_read, slot_refused, volume_read, volume_there, vtoc_inside, vtoc_outside}
use Rattle.track_records.specs.Written.{StandsOn}

-- the label is refused
pub label_reason : (image seen : List ℕ) (g held : Geometry) (e : MountErr) → seen ≡ image → held ≡ g → geometry_of (take 512 image) (length image) ≡ Ok g → Refuses (volume_within seen held (vtoc_of seen held)) e → IsReason image e
label_reason image seen g held e same alike header refused =
    reason image e
    (refuses_same (volume_of image)
    (ap (λ (i : List ℕ). volume_within i held (vtoc_of i held)) same ∙ ap (λ (x : Geometry). volume_within image x (vtoc_of image x)) alike ∙ sym (volume_read image g header))
    refused)

-- the label of an image as it is seen later
pub label_seen : (image seen : List ℕ) (g held : Geometry) (x : Label) → seen ≡ image → held ≡ g → IsLabel (label_of seen held) x → IsLabel (label_of image g) x
label_seen image seen g held x same alike is =
    subst (λ (y : Geometry). IsLabel (label_of image y) x) alike (subst (λ (i : List ℕ). IsLabel (label_of i held) x) same is)

-- it leads outside the image
pub outside_reason : (image : List ℕ) (g : Geometry) (x : Label) → geometry_of (take 512 image) (length image) ≡ Ok g → IsLabel (label_of image g) x → is_inside g x.vtoc ≡ false → volume_of image ≡ Err BadVtoc
outside_reason image g x header label outside = volume_read image g header ∙ vtoc_outside image g x label outside

-- the VTOC is refused
pub vtoc_reason : (image seen : List ℕ) (g : Geometry) (x : Label) (e : MountErr) → seen ≡ image → geometry_of (take 512 image) (length image) ≡ Ok g → IsLabel (label_of image g) x → is_inside g x.vtoc ≡ true → Refuses (volume_within seen g (vtoc_on seen g x.vtoc)) e → IsReason image e
vtoc_reason image seen g x e same header label inside refused =
    reason image e
    (refuses_same (volume_of image)
    (ap (λ (i : List ℕ). volume_within i g (vtoc_on i g x.vtoc)) same ∙ ap (volume_within image g) (sym (vtoc_inside image g x label inside)) ∙ sym (volume_read image g header))
    refused)

-- all that is read of an image
pub record IsSeen (image : List ℕ) (g : Geometry) (x : Label) (v : Vol) (found : ReadSlots) : Type 0 where
  pub header : geometry_of (take 512 image) (length image) ≡ Ok g
  pub label : IsLabel (label_of image g) x
  pub inside : is_inside g x.vtoc ≡ true
  pub extent : vtoc_on image g x.vtoc ≡ Ok v.vtoc
  pub read : AreTracksRead image g v.vtoc.start v.vtoc.len found

vtoc_is : (image : List ℕ) (g : Geometry) (x : Label) (v : Vol) (found : ReadSlots) → IsSeen image g x v found → vtoc_of image g ≡ Ok v.vtoc
vtoc_is image g x v found seen = vtoc_inside image g x seen.label seen.inside ∙ seen.extent

-- a slot is refused, or the volume as a whole
pub slots_reason : (image : List ℕ) (g : Geometry) (x : Label) (vtoc : Run) (found : ReadSlots) (e : MountErr) → geometry_of (take 512 image) (length image) ≡ Ok g → IsLabel (label_of image g) x → is_inside g x.vtoc ≡ true → vtoc_on image g x.vtoc ≡ Ok vtoc → AreTracksRead image g vtoc.start vtoc.len found
    → (e ≡ Memory) ⊎ (slice_get (slots_faults g (slots_of_vtoc image g vtoc) ++ volume_faults (volume_by image g vtoc)) 0 ≡ Some e) → IsReason image e
slots_reason image g x vtoc found e header label inside extent read why =
    reason image e (record {
      why = λ memory _. ⊎_elim (λ is. absurd (memory is)) (λ fault. volume_read image g header ∙ ap (volume_within image g) (vtoc_inside image g x label inside ∙ extent) ∙ slot_refused image g vtoc e read.tracks fault) why;
    })

-- nothing is
pub mounted : (image : List ℕ) (x : Label) (v : Vol) (found : ReadSlots) → IsSeen image v.geometry x v found → v.serial ≡ x.serial → v.firsts.items ≡ found.firsts.items → StandsOn image v.buf
    → AreDscbs v.slots.items (slots_of_vtoc image v.geometry v.vtoc) × (slots_faults v.geometry (slots_of_vtoc image v.geometry v.vtoc) ≡ [])
    → (volume_faults (volume_by image v.geometry v.vtoc) ≡ []) × (v.free.items ≡ free_runs (volume_by image v.geometry v.vtoc)) → IsMounted image v
mounted image x v found seen serial firsts stands slots whole =
    let g = v.geometry in
    let vtoc = vtoc_is image g x v found seen in
    record {
      index = record {
        header = seen.header;
        serial = serial_read image g x seen.label ∙ ap (λ s. Some s.bytes) (sym serial);
        tracks = seen.read.tracks;
        slots = slots.0;
        firsts = firsts ∙ seen.read.firsts;
        buffer = inr stands;
      };
      vtoc = vtoc;
      lawful = slots.1;
      whole = whole.0;
      free = whole.1;
      volume = volume_read image g seen.header ∙ ap (volume_within image g) vtoc ∙ volume_there image g v.vtoc seen.read.tracks slots.1 whole.0;
    }
