-- Why there is no index, by the step at which a rule is broken.
use Rattle.std.proofs.Common.{◌≡◌, ℕ, Bool, true, false, cond, List, [], ◌++◌, length, take, Option, Some, None, refl, sym, ap, subst, ◌∙◌}
use Rattle.std.specs.Prelude.{Result, Ok, Err, unwrap_or, slice_get, slice_range}
use Rattle.std.specs.Option.{option_map}
use Rattle.ckd_image.specs.declared.header.Geometry.{Geometry}
use Rattle.ckd_image.specs.declared.header.ImageErr.{ImageErr}
use Rattle.ckd_image.specs.Header.{geometry_of}
use Rattle.pack_spec.specs.declared.MountErr.{MountErr}
use Rattle.pack_spec.specs.declared.MountErr.TheVariants.{NoFile, Image, NoLabel, BadVtoc, VtocTrack, NoFormat4, NoFormat5, BadDscb, UnsupportedDscb, UnsupportedExtent, BadExtent, BadChain, DuplicateName, Overlap, VtocFull, SameSerial, Memory, Device}
use Rattle.pack_spec.specs.declared.address.Address.{Address}
use Rattle.pack_spec.specs.Label.{is_inside, label_of}
use Rattle.vol_model.specs.declared.contents.Run.{Run}
use Rattle.pack_spec.specs.Vtoc.{vtoc_of, vtoc_at, vtoc_on}
use Rattle.pack_spec.specs.Slots.{slots_of_vtoc, track_faults}
use Rattle.pack_spec.specs.Rules.{slots_faults}
use Rattle.pack_spec.specs.Owned.{volume_faults}
use Rattle.pack_spec.specs.Volume.{volume_by, volume_of, volume_on, volume_within, unless, vtoc_fault}
use Rattle.vtoc_index.specs.Index.{IsReason, serial_on}
use Rattle.vtoc_index.specs.Reading.{Refuses, IsLabel, Says}
use Rattle.vtoc_index.specs.declared.label.Label.{Label}

pub refuses : {X : Type 0} {given : Result X MountErr} {e : MountErr} → given ≡ Err e → Refuses given e
refuses is = record { why = λ _ _. is }

pub refuses_memory : {X : Type 0} (given : Result X MountErr) → Refuses given Memory
refuses_memory given = record { why = λ other _. absurd (other refl) }

pub refuses_device : {X : Type 0} (given : Result X MountErr) → Refuses given Device
refuses_device given = record { why = λ _ other. absurd (other refl) }

pub refuses_same : {X : Type 0} {given : Result X MountErr} {e : MountErr} (given' : Result X MountErr) → given ≡ given' → Refuses given e → Refuses given' e
refuses_same {e = e} given' same refused = subst (λ g. Refuses g e) same refused

pub refuses_error : {X : Type 0} (given : Result X MountErr) (e e' : MountErr) → e ≡ e' → Refuses given e → Refuses given e'
refuses_error given e e' same refused = subst (λ x. Refuses given x) same refused

-- a refusal by the definition of a volume is a reason
pub reason : (image : List ℕ) (e : MountErr) → Refuses (volume_of image) e → IsReason image e
reason image NoFile refused = refused.why (λ is. cc) (λ is. cc)
reason image (Image e) refused = refused.why (λ is. cc) (λ is. cc)
reason image NoLabel refused = refused.why (λ is. cc) (λ is. cc)
reason image BadVtoc refused = refused.why (λ is. cc) (λ is. cc)
reason image (VtocTrack track) refused = refused.why (λ is. cc) (λ is. cc)
reason image NoFormat4 refused = refused.why (λ is. cc) (λ is. cc)
reason image NoFormat5 refused = refused.why (λ is. cc) (λ is. cc)
reason image (BadDscb slot byte) refused = refused.why (λ is. cc) (λ is. cc)
reason image (UnsupportedDscb slot byte) refused = refused.why (λ is. cc) (λ is. cc)
reason image (UnsupportedExtent slot) refused = refused.why (λ is. cc) (λ is. cc)
reason image (BadExtent slot) refused = refused.why (λ is. cc) (λ is. cc)
reason image (BadChain slot) refused = refused.why (λ is. cc) (λ is. cc)
reason image (DuplicateName slot other) refused = refused.why (λ is. cc) (λ is. cc)
reason image (Overlap track) refused = refused.why (λ is. cc) (λ is. cc)
reason image (VtocFull slots) refused = refused.why (λ is. cc) (λ is. cc)
reason image (SameSerial unit other) refused = refused.why (λ is. cc) (λ is. cc)
reason image Memory refused = tt
reason image Device refused = tt

-- the header is refused, or read
pub volume_unread : (image : List ℕ) (e : ImageErr) → geometry_of (take 512 image) (length image) ≡ Err e → volume_of image ≡ Err (Image e)
unfolding volume_of
volume_unread image e is = ap (volume_on image) is

pub volume_read : (image : List ℕ) (g : Geometry) → geometry_of (take 512 image) (length image) ≡ Ok g → volume_of image ≡ volume_within image g (vtoc_of image g)
unfolding volume_of
volume_read image g is = ap (volume_on image) is

-- there is no label
pub unlabelled : (image : List ℕ) (g : Geometry) → label_of image g ≡ None → volume_within image g (vtoc_of image g) ≡ Err NoLabel
unfolding vtoc_of vtoc_at
unlabelled image g none = ap (λ (l : Option (List ℕ)). volume_within image g (vtoc_at image g l)) none

-- there is one
pub label_there : (given : Option (List ℕ)) (x : Label) → IsLabel given x → (content : List ℕ) × ((given ≡ Some content) × Says x content)
label_there None x is = absurd is
label_there (Some content) x is = (content, (refl, is))

pub is_label : (given there : Option (List ℕ)) (x : Label) → given ≡ there → IsLabel given x → IsLabel there x
is_label given there x same is = subst (λ (l : Option (List ℕ)). IsLabel l x) same is

chosen : {A : Type 0} (b c : Bool) (u v : A) → b ≡ c → cond b u v ≡ cond c u v
chosen b c u v is = ap (λ x. cond x u v) is

-- it leads outside the image
pub vtoc_outside : (image : List ℕ) (g : Geometry) (x : Label) → IsLabel (label_of image g) x → is_inside g x.vtoc ≡ false → volume_within image g (vtoc_of image g) ≡ Err BadVtoc
unfolding vtoc_of vtoc_at vtoc_on
vtoc_outside image g x is outside =
    let l = label_there (label_of image g) x is in
    ap (λ (m : Option (List ℕ)). volume_within image g (vtoc_at image g m)) l.1.0
    ∙ ap (λ (a : Address). volume_within image g (cond (is_inside g a) (vtoc_on image g a) (Err BadVtoc))) (sym l.1.1.vtoc)
    ∙ ap (volume_within image g) (chosen (is_inside g x.vtoc) false (vtoc_on image g x.vtoc) (Err BadVtoc) outside)

-- or to a track of the image
pub vtoc_inside : (image : List ℕ) (g : Geometry) (x : Label) → IsLabel (label_of image g) x → is_inside g x.vtoc ≡ true → vtoc_of image g ≡ vtoc_on image g x.vtoc
unfolding vtoc_of vtoc_at vtoc_on
vtoc_inside image g x is inside =
    let l = label_there (label_of image g) x is in
    ap (vtoc_at image g) l.1.0
    ∙ ap (λ (a : Address). cond (is_inside g a) (vtoc_on image g a) (Err BadVtoc)) (sym l.1.1.vtoc)
    ∙ chosen (is_inside g x.vtoc) true (vtoc_on image g x.vtoc) (Err BadVtoc) inside

-- the serial is that of the label
pub serial_read : (image : List ℕ) (g : Geometry) (x : Label) → IsLabel (label_of image g) x → serial_on image g ≡ Some x.serial.bytes
serial_read image g x is =
    let l = label_there (label_of image g) x is in
    ap (option_map (λ label. slice_range label 4 10)) l.1.0 ∙ ap (λ (b : List ℕ). Some b) (sym l.1.1.serial)

-- the extent is refused
pub extent_refused : (image : List ℕ) (g : Geometry) (vtoc : Result Run MountErr) (e : MountErr) → vtoc ≡ Err e → volume_within image g vtoc ≡ Err e
extent_refused image g vtoc e is = ap (volume_within image g) is

-- what slots and the volume break, where the tracks break nothing
fault_of_slots : (image : List ℕ) (g : Geometry) (v : Run) → track_faults image g v ≡ [] → vtoc_fault image g v ≡ slice_get (slots_faults g (slots_of_vtoc image g v) ++ volume_faults (volume_by image g v)) 0
unfolding vtoc_fault
fault_of_slots image g v good =
    ap (λ (l : List MountErr). slice_get (l ++ (slots_faults g (slots_of_vtoc image g v) ++ volume_faults (volume_by image g v))) 0) good

-- a slot is refused, or the volume as a whole
pub slot_refused : (image : List ℕ) (g : Geometry) (v : Run) (e : MountErr) → track_faults image g v ≡ [] → slice_get (slots_faults g (slots_of_vtoc image g v) ++ volume_faults (volume_by image g v)) 0 ≡ Some e → volume_within image g (Ok v) ≡ Err e
slot_refused image g v e good is = ap (λ o. unless o (volume_by image g v)) (fault_of_slots image g v good ∙ is)

-- nothing is refused
pub volume_there : (image : List ℕ) (g : Geometry) (v : Run) → track_faults image g v ≡ [] → slots_faults g (slots_of_vtoc image g v) ≡ [] → volume_faults (volume_by image g v) ≡ [] → volume_within image g (Ok v) ≡ Ok (volume_by image g v)
volume_there image g v good lawful whole =
    ap (λ o. unless o (volume_by image g v))
    (fault_of_slots image g v good
    ∙ ap (λ (l : List MountErr). slice_get (l ++ volume_faults (volume_by image g v)) 0) lawful
    ∙ ap (λ (l : List MountErr). slice_get l 0) whole)
