-- Images that stand for a shelf, image by image.
use Rattle.std.proofs.Common.{◌≡◌, ◌≢◌, ◌+◌, ℕ, zero, suc, Bool, List, [], ◌∷◌, length, get_or, map, take, set, Option, Some, None, refl, sym, ap, subst, ◌∙◌, arith}
use Rattle.std.specs.Prelude.{Result, Ok, Err, cond, nat_lt, not, position, slice_get}
use Rattle.std.specs.List.{enumerate_from, position_or_len}
use Rattle.std.specs.Option.{option_map}
use Rattle.std.specs.Str.{bytes_eq}
use Rattle.std.proofs.lemmas.List.Quantifiers.{position-Some}
use Rattle.std.proofs.lemmas.List.{take-map}
use Rattle.std.proofs.lemmas.Option.{slice_get-get_or}
use Rattle.std.proofs.lemmas.Slice.Eq.{bytes_eq-Decides}
use Rattle.free_rebuild.specs.Repairs.{image_named}
use Rattle.stop_model.specs.Files.{File}
use Rattle.pack_spec.specs.declared.MountErr.{MountErr}
use Rattle.pack_spec.specs.declared.MountErr.TheVariants.{SameSerial}
use Rattle.pack_spec.specs.Shelf.{UnitRefusal, has_serial, serial_fault, serial_faults, shelf_of, shelf_unless, shelf_with, volume_then, volumes_from}
use Rattle.pack_spec.specs.Volume.{volume_of}
use Rattle.vol_model.specs.declared.contents.Shelf.{Shelf}
use Rattle.vol_model.specs.declared.contents.Volume.{Volume}
use Rattle.shelf_machine.specs.Opening.{AreApart, images_named}
use Rattle.pack_machine.proofs.ListPlaces.{get_map, none_kept, numbered, of_take}

-- each image stands for its volume
abbrev pub AllStand : List (List ℕ) → List Volume → Type 0
AllStand [] [] = Unit {0}
AllStand [] (w ∷ volumes) = ⊥
AllStand (image ∷ images) [] = ⊥
AllStand (image ∷ images) (w ∷ volumes) = (volume_of image ≡ Ok w) × AllStand images volumes

-- the serials of volumes
abbrev pub serials_in : List Volume → List (List ℕ)
serials_in volumes = map (λ (w : Volume). w.serial.bytes) volumes

pub volumes_there : (unit : ℕ) (images : List (List ℕ)) (volumes : List Volume) → AllStand images volumes → volumes_from unit images ≡ Ok volumes
volumes_there unit [] [] all = refl
volumes_there unit [] (w ∷ volumes) all = absurd all
volumes_there unit (image ∷ images) [] all = absurd all
volumes_there unit (image ∷ images) (w ∷ volumes) all =
    ap (λ (r : Result Volume MountErr). volume_then unit r (volumes_from (unit + 1) images)) all.0
    ∙ ap (λ (r : Result (List Volume) UnitRefusal). volume_then unit (Ok w) r) (volumes_there (unit + 1) images volumes all.1)

pub all_there : (unit : ℕ) (images : List (List ℕ)) (volumes : List Volume) → volumes_from unit images ≡ Ok volumes → AllStand images volumes
all_there unit [] [] is = tt
all_there unit [] (w ∷ volumes) is = absurd cc
all_there unit (image ∷ images) volumes is = by_first (volume_of image) (volumes_from (unit + 1) images) refl refl (λ ws rest. all_there (unit + 1) images ws rest) is
  where
    by_first : (r : Result Volume MountErr) (others : Result (List Volume) UnitRefusal) → volume_of image ≡ r → volumes_from (unit + 1) images ≡ others
        → ((ws : List Volume) → volumes_from (unit + 1) images ≡ Ok ws → AllStand images ws) → volume_then unit r others ≡ Ok volumes → AllStand (image ∷ images) volumes
    by_first (Err e) others first rest each whole = absurd cc
    by_first (Ok w) (Err r) first rest each whole = absurd cc
    by_first (Ok w) (Ok ws) first rest each whole =
        let all : w ∷ ws ≡ volumes = cc in
        subst (AllStand (image ∷ images)) all (first, each ws rest)

-- the first image that is refused refuses all
pub first_refused : (unit : ℕ) (images : List (List ℕ)) (volumes : List Volume) (k : ℕ) (image : List ℕ) (e : MountErr) → AllStand (take k images) volumes → slice_get images k ≡ Some image → volume_of image ≡ Err e
    → volumes_from unit images ≡ Err (record { unit = unit + k; why = e })
first_refused unit [] volumes k image e all at is = absurd cc
first_refused unit (first ∷ images) volumes zero image e all at is =
    let same : first ≡ image = cc in
    let none : unit ≡ unit + 0 = omega arith in
    ap (λ (r : Result Volume MountErr). volume_then unit r (volumes_from (unit + 1) images)) (ap volume_of same ∙ is)
    ∙ ap (λ (n : ℕ). Err (record { unit = n; why = e })) none
first_refused unit (first ∷ images) [] (suc k) image e all at is = absurd all
first_refused unit (first ∷ images) (w ∷ volumes) (suc k) image e all at is =
    let next : unit + 1 + k ≡ unit + suc k = omega arith in
    ap (λ (r : Result Volume MountErr). volume_then unit r (volumes_from (unit + 1) images)) all.0
    ∙ ap (λ (r : Result (List Volume) UnitRefusal). volume_then unit (Ok w) r) (first_refused (unit + 1) images volumes k image e all.1 at is)
    ∙ ap (λ (n : ℕ). Err (record { unit = n; why = e })) next

-- the volume of an image
pub stands_at : (images : List (List ℕ)) (volumes : List Volume) (k : ℕ) (image : List ℕ) → AllStand images volumes → slice_get images k ≡ Some image → (w : Volume) × (slice_get volumes k ≡ Some w) × (volume_of image ≡ Ok w)
stands_at [] volumes k image all at = absurd cc
stands_at (i ∷ images) [] k image all at = absurd all
stands_at (i ∷ images) (w ∷ volumes) zero image all at = let same : image ≡ i = cc in (w, refl, ap volume_of same ∙ all.0)
stands_at (i ∷ images) (w ∷ volumes) (suc k) image all at = stands_at images volumes k image all.1 at

-- files in which each image of these names is as before
pub all_same : (names : List (List ℕ)) (files files' : List File) (volumes : List Volume) → AllStand (images_named files names) volumes
    → ((j : ℕ) (other : List ℕ) → slice_get names j ≡ Some other → image_named files' other ≡ image_named files other) → AllStand (images_named files' names) volumes
all_same [] files files' [] all same = tt
all_same [] files files' (w ∷ volumes) all same = absurd all
all_same (n ∷ names) files files' [] all same = absurd all
all_same (n ∷ names) files files' (w ∷ volumes) all same =
    (ap volume_of (same 0 n refl) ∙ all.0, all_same names files files' volumes all.1 (λ j other at. same (suc j) other at))

-- and files in which one image is another, which stands for a volume too
pub one_set : (names : List (List ℕ)) (files files' : List File) (volumes : List Volume) (k : ℕ) (name : List ℕ) (after : Volume) → AllStand (images_named files names) volumes → slice_get names k ≡ Some name
    → ((j : ℕ) (other : List ℕ) → slice_get names j ≡ Some other → j ≢ k → image_named files' other ≡ image_named files other) → volume_of (image_named files' name) ≡ Ok after
    → AllStand (images_named files' names) (set volumes k after)
one_set [] files files' volumes k name after all at same here = absurd cc
one_set (n ∷ names) files files' [] k name after all at same here = absurd all
one_set (n ∷ names) files files' (w ∷ volumes) zero name after all at same here =
    let is : n ≡ name = cc in
    (ap (λ (x : List ℕ). volume_of (image_named files' x)) is ∙ here, all_same names files files' volumes all.1 (λ j other there. same (suc j) other there (λ none. omega (arith, none))))
one_set (n ∷ names) files files' (w ∷ volumes) (suc k) name after all at same here =
    (ap volume_of (same 0 n refl (λ none. omega (arith, none))) ∙ all.0, one_set names files files' volumes k name after all.1 at (λ j other there apart. same (suc j) other there (λ is. apart (omega (arith, is)))) here)

-- where no serial stands twice, none stands before its volume
pub none_before : (serials : List (List ℕ)) (k : ℕ) (serial : List ℕ) → AreApart serials → slice_get serials k ≡ Some serial → position (λ (s : List ℕ). bytes_eq s serial) (take k serials) ≡ None
none_before serials k serial apart at = by_place (position (λ (s : List ℕ). bytes_eq s serial) (take k serials)) refl
  where
    by_place : (o : Option ℕ) → position (λ (s : List ℕ). bytes_eq s serial) (take k serials) ≡ o → position (λ (s : List ℕ). bytes_eq s serial) (take k serials) ≡ None
    by_place None is = is
    by_place (Some j) is =
        let found = position-Some (λ (s : List ℕ). bytes_eq s serial) (take k serials) j serial is in
        let same : get_or (take k serials) j serial ≡ serial = (bytes_eq-Decides (get_or (take k serials) j serial) serial).0 found.1 in
        let front = of_take k serials j serial (slice_get-get_or (take k serials) j serial found.0 ∙ ap (λ (s : List ℕ). Some s) same) in
        let here : j ≡ k = apart j k serial front.1 at in
        absurd (omega (arith, front.0, here))

-- a test that two lists pass alike finds the same place in both
pub place_alike : {X Y : Type 0} (p : X → Bool) (q : Y → Bool) (f : X → Y) (xs : List X) → ((x : X) → p x ≡ q (f x)) → position p xs ≡ position q (map f xs)
place_alike {X = X} p q f xs alike = ap (λ (i : ℕ). answer i (length xs)) (front xs) ∙ ap (answer (position_or_len q (map f xs))) (size xs)
  where
    answer : ℕ → ℕ → Option ℕ
    answer i m = cond (nat_lt i m) (Some i) None

    front : (xs : List X) → position_or_len p xs ≡ position_or_len q (map f xs)
    front [] = refl
    front (x ∷ xs) = ap (λ (t : Bool). cond (not t) (1 + position_or_len p xs) 0) (alike x) ∙ ap (λ (i : ℕ). cond (not (q (f x))) (1 + i) 0) (front xs)

    size : (xs : List X) → length xs ≡ length (map f xs)
    size [] = refl
    size (x ∷ xs) = ap suc (size xs)

-- the fault of a volume, by the serials
abbrev pub fault_in : List (List ℕ) → ℕ → List ℕ → Option UnitRefusal
fault_in serials unit serial = option_map (λ (other : ℕ). record { unit = unit; why = SameSerial unit other }) (position (λ (s : List ℕ). bytes_eq s serial) (take unit serials))

pub fault_by : (volumes : List Volume) (k : ℕ) (w : Volume) → serial_fault volumes k w ≡ fault_in (serials_in volumes) k w.serial.bytes
fault_by volumes k w =
    let test : List ℕ → Bool = λ s. bytes_eq s w.serial.bytes in
    ap (option_map (λ (other : ℕ). record { unit = k; why = SameSerial k other }))
    (place_alike (has_serial w.serial.bytes) test (λ (x : Volume). x.serial.bytes) (take k volumes) (λ x. refl) ∙ ap (position test) (sym (take-map (λ (x : Volume). x.serial.bytes) k volumes)))

pub no_faults : (volumes : List Volume) → AreApart (serials_in volumes) → serial_faults volumes ≡ []
unfolding serial_faults
no_faults volumes apart = none_kept (λ (p : ℕ × Volume). serial_fault volumes p.0 p.1) (enumerate_from 0 volumes) (λ k p at.
    let here = numbered 0 volumes k p at in
    let place : p.0 ≡ k = omega (arith, here.0) in
    fault_by volumes p.0 p.1 ∙ ap (option_map (λ (other : ℕ). record { unit = p.0; why = SameSerial p.0 other }))
    (none_before (serials_in volumes) p.0 p.1.serial.bytes apart (ap (slice_get (serials_in volumes)) place ∙ get_map (λ (x : Volume). x.serial.bytes) volumes k p.1 here.1)))

-- images that all stand for volumes with serials of their own stand for a shelf
pub shelf_there : (images : List (List ℕ)) (volumes : List Volume) → AllStand images volumes → AreApart (serials_in volumes) → shelf_of images ≡ Ok (record { volumes = volumes })
unfolding shelf_of
shelf_there images volumes all apart =
    ap shelf_with (volumes_there 0 images volumes all) ∙ ap (λ (faults : List UnitRefusal). shelf_unless (slice_get faults 0) volumes) (no_faults volumes apart)

-- and images that stand for a shelf all stand for its volumes
pub shelf_all : (images : List (List ℕ)) (shelf : Shelf) → shelf_of images ≡ Ok shelf → AllStand images shelf.volumes
unfolding shelf_of
shelf_all images shelf is = by_volumes (volumes_from 0 images) refl is
  where
    by_fault : (volumes : List Volume) (o : Option UnitRefusal) → shelf_unless o volumes ≡ Ok shelf → volumes ≡ shelf.volumes
    by_fault volumes None whole = let same : record { volumes = volumes } ≡ shelf = cc in ap (λ (s : Shelf). s.volumes) same
    by_fault volumes (Some r) whole = absurd cc

    by_volumes : (r : Result (List Volume) UnitRefusal) → volumes_from 0 images ≡ r → shelf_with r ≡ Ok shelf → AllStand images shelf.volumes
    by_volumes (Err r) there whole = absurd cc
    by_volumes (Ok volumes) there whole =
        subst (AllStand images) (by_fault volumes (slice_get (serial_faults volumes) 0) whole) (all_there 0 images volumes there)

-- an image that is refused, or a serial that stands twice, refuses the shelf
pub shelf_refused : (images : List (List ℕ)) (r : UnitRefusal) → volumes_from 0 images ≡ Err r → shelf_of images ≡ Err r
unfolding shelf_of
shelf_refused images r is = ap shelf_with is

pub shelf_twice : (images : List (List ℕ)) (volumes : List Volume) (r : UnitRefusal) → AllStand images volumes → slice_get (serial_faults volumes) 0 ≡ Some r → shelf_of images ≡ Err r
unfolding shelf_of
shelf_twice images volumes r all fault = ap shelf_with (volumes_there 0 images volumes all) ∙ ap (λ (o : Option UnitRefusal). shelf_unless o volumes) fault
