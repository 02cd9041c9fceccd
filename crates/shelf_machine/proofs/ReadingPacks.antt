-- The packs of several units, scanned one after another, and their serials compared.
use Rattle.std.proofs.Common.{◌≡◌, ◌≢◌, ◌<◌, ◌≤◌, ◌+◌, ⊎_elim, inl, inr, ℕ, zero, suc, Bool, true, false, List, [], ◌∷◌, ◌++◌, length, map, take, Some, None, refl, sym, ap, subst, ◌∙◌, arith}
use Rattle.std.specs.Prelude.{◌⊎◌, Contains, IsTrue, Err, position, slice_get}
use Rattle.std.specs.List.{enumerate_from, range_with_len}
use Rattle.std.specs.Option.{option_map}
use Rattle.std.specs.Str.{bytes_eq}
use Rattle.std.proofs.lemmas.List.{length-map, take-map}
use Rattle.std.proofs.lemmas.Option.{slice_get-get_or, slice_get_within}
use Rattle.std.proofs.lemmas.Slice.Eq.{bytes_eq-Decides}
use Rattle.free_rebuild.specs.Repairs.{image_named}
use Rattle.hall_core.specs.Facts.{Attached, Facts, ReportedCall, unit_of}
use Rattle.hall_core.specs.Images.{image_of}
use Rattle.stop_model.specs.Files.{File}
use Rattle.stop_model.specs.Moments.{Meaning, Same}
use Rattle.stop_model.proofs.MomentLemmas.{same_then}
use Rattle.pack_spec.specs.declared.MountErr.{MountErr}
use Rattle.pack_spec.specs.declared.MountErr.TheVariants.{Device, Memory, SameSerial}
use Rattle.pack_spec.specs.Shelf.{serial_fault, serial_faults, shelf_of}
use Rattle.pack_spec.specs.Volume.{volume_of}
use Rattle.vol_model.specs.declared.contents.Volume.{Volume}
use Rattle.mount_repair.specs.Scans.{IsScanOf, IsScanOn}
use Rattle.mount_repair.specs.declared.scanned.Scan.{Scan}
use Rattle.mount_repair.proofs.DeviceCalls.{Unreported, reported_none}
use Rattle.vtoc_index.specs.Index.{IsMounted}
use Rattle.vtoc_index.specs.declared.vol.Vol.{Vol}
use Rattle.shelf_machine.specs.Machine.{serials_of, units_of}
use Rattle.shelf_machine.specs.Opening.{AreApart, AreUnits, images_named, names_of}
use Rattle.shelf_machine.specs.Packs.{AreMounted, AreScanned, AreScansOf, IsFirstTwice, RefusesImages, indexes_of}
use Rattle.shelf_machine.specs.declared.open_failure.OpenFailure.{OpenFailure}
use Rattle.shelf_machine.proofs.Holding.{held_serials, held_stand, volumes_held}
use Rattle.pack_machine.proofs.ListPlaces.{first_kept, get_map, in_take, none_passes, number_of, numbered, of_map}
use Rattle.shelf_machine.proofs.ShelfLemmas.{AllStand, fault_by, fault_in, first_refused, place_alike, serials_in, shelf_refused, shelf_twice}
use Rattle.mount_repair.proofs.Lists.{take_push}

-- How far the scans have come: the packs on the first units, and nothing else changed but the time.
pub record ScannedSoFar (tells : Bool) (units : List ℕ) (old now : Facts) (m m' : Meaning (List File)) (scans : List Scan) (k : ℕ) : Type 0 where
  pub facts : Unreported old now
  pub same : IsTrue tells → Same m m'
  pub scanned : AreScanned old.units (take k units) scans
  pub images : IsTrue tells → AreScansOf m.state old.units scans

-- an element of a list to which one was put
pub of_push : {X : Type 0} (xs : List X) (x : X) (k : ℕ) (y : X) → slice_get (xs ++ x ∷ []) k ≡ Some y → (slice_get xs k ≡ Some y) ⊎ (x ≡ y)
of_push [] x zero y at = inr cc
of_push [] x (suc k) y at = absurd cc
of_push (z ∷ xs) x zero y at = inl at
of_push (z ∷ xs) x (suc k) y at = of_push xs x k y at

pub map_push : {X Y : Type 0} (f : X → Y) (xs : List X) (x : X) → map f (xs ++ x ∷ []) ≡ map f xs ++ f x ∷ []
map_push f [] x = refl
map_push f (y ∷ xs) x = ap (λ zs. f y ∷ zs) (map_push f xs x)

range_at : (a n k u : ℕ) → slice_get (range_with_len a n) k ≡ Some u → u ≡ a + k
range_at a zero k u at = absurd cc
range_at a (suc n) zero u at = let same : a ≡ u = cc in omega (arith, same)
range_at a (suc n) (suc k) u at = let rest : u ≡ a + 1 + k = range_at (a + 1) n k u at in omega (arith, rest)

-- the unit at a place is that of its number
pub unit_number : (units : List ℕ) (k u : ℕ) → units ≡ range_with_len 0 (length units) → slice_get units k ≡ Some u → u ≡ k
unit_number units k u numbered at =
    let far : u ≡ 0 + k = range_at 0 (length units) k u (ap (λ (us : List ℕ). slice_get us k) (sym numbered) ∙ at) in
    omega (arith, far)

-- so it is low
pub number_at : (units : List ℕ) (k u : ℕ) → units ≡ range_with_len 0 (length units) → slice_get units k ≡ Some u → u < length units
number_at units k u numbered at = omega (arith, unit_number units k u numbered at, slice_get_within units k u at)

pub number_low : (units : List ℕ) (u : ℕ) → units ≡ range_with_len 0 (length units) → Contains units u → u < length units
number_low units u numbered held = number_at units held.0 u numbered (slice_get-get_or units held.0 u held.1 ∙ ap (λ (n : ℕ). Some n) held.2)

-- what scans tell of indexes
pub mounted_scans : (files : List File) (attached : List Attached) (scans : List Scan) → AreScansOf files attached scans → AreMounted files attached (indexes_of scans)
mounted_scans files attached scans images k v at =
    let of = of_map (λ (s : Scan). s.vol) scans k v at in
    subst (λ (w : Vol). IsMounted (image_named files (unit_of attached w.unit).name) w) of.2 (images k of.0 of.1).mounted

-- one pack more
scanned_more : (attached : List Attached) (units : List ℕ) (scans : List Scan) (k unit : ℕ) (s : Scan) → slice_get units k ≡ Some unit → AreScanned attached (take k units) scans → IsScanOn attached unit s → AreScanned attached (take (k + 1) units) (scans ++ s ∷ [])
scanned_more attached units scans k unit s at scanned on = record {
  numbers =
      ap units_of (map_push (λ (x : Scan). x.vol) scans s) ∙ map_push (λ (w : Vol). w.unit) (indexes_of scans) s.vol
      ∙ ap (λ (us : List ℕ). us ++ s.vol.unit ∷ []) scanned.numbers ∙ ap (λ (u : ℕ). take k units ++ u ∷ []) on.unit ∙ sym (take_push units k unit at);
  each = λ j x here. ⊎_elim (λ before. scanned.each j x before) (λ same. subst (λ (y : Scan). IsScanOn attached y.vol.unit y) same (subst (λ (n : ℕ). IsScanOn attached n s) (sym on.unit) on)) (of_push scans s j x here);
}

images_more : (files : List File) (attached : List Attached) (scans : List Scan) (s : Scan) → AreScansOf files attached scans → IsScanOf (image_named files (unit_of attached s.vol.unit).name) s → AreScansOf files attached (scans ++ s ∷ [])
images_more files attached scans s images here j x at = ⊎_elim
    (λ before. images j x before)
    (λ same. subst (λ (y : Scan). IsScanOf (image_named files (unit_of attached y.vol.unit).name) y) same here)
    (of_push scans s j x at)

-- the image of a unit, where nothing changed but the time
pub image_before : (files files' : List File) (old now : Facts) (unit : ℕ) → files' ≡ files → now.units ≡ old.units → image_of files' now unit ≡ image_named files (unit_of old.units unit).name
image_before files files' old now unit same units =
    ap (λ (fs : List File). image_named fs (unit_of now.units unit).name) same ∙ ap (λ (us : List Attached). image_named files (unit_of us unit).name) units

-- the first pack that is refused refuses the shelf
pub pack_refused : (files : List File) (attached : List Attached) (units : List ℕ) (vols : List Vol) (k unit : ℕ) (e : MountErr) → units ≡ range_with_len 0 (length units) → slice_get units k ≡ Some unit
    → units_of vols ≡ take k units → AreMounted files attached vols → volume_of (image_named files (unit_of attached unit).name) ≡ Err e
    → shelf_of (images_named files (names_of attached units)) ≡ Err (record { unit = unit; why = e })
pack_refused files attached units vols k unit e numbered at read mounted is =
    let images : List (List ℕ) = images_named files (names_of attached units) in
    let front : images_named files (names_of attached (units_of vols)) ≡ take k images =
    ap (λ (us : List ℕ). images_named files (names_of attached us)) read
    ∙ ap (images_named files) (sym (take-map (λ (u : ℕ). (unit_of attached u).name) k units))
    ∙ sym (take-map (image_named files) k (names_of attached units)) in
    let stand : AllStand (take k images) (volumes_held files attached vols) = subst (λ (is : List (List ℕ)). AllStand is (volumes_held files attached vols)) front (held_stand files attached vols mounted) in
    let here : slice_get images k ≡ Some (image_named files (unit_of attached unit).name) =
    get_map (image_named files) (names_of attached units) k (unit_of attached unit).name (get_map (λ (u : ℕ). (unit_of attached u).name) units k unit at) in
    let place : 0 + k ≡ unit = omega (arith, unit_number units k unit numbered at) in
    shelf_refused images (record { unit = unit; why = e })
    (first_refused 0 images (volumes_held files attached vols) k (image_named files (unit_of attached unit).name) e stand here is
    ∙ ap (λ (n : ℕ). Err (record { unit = n; why = e })) place)

-- ---- the loop over units

-- a unit that is asked for is attached
pub unit_attached : (attached : List Attached) (units : List ℕ) (k unit : ℕ) → AreUnits attached units → slice_get units k ≡ Some unit → unit < length attached
unit_attached attached units k unit are at = omega (arith, unit_number units k unit are.numbered at, slice_get_within units k unit at, are.attached)

module _ (tells : Bool) (units : List ℕ) (old now : Facts) (m m' : Meaning (List File)) (scans : List Scan) (k unit : ℕ) (at : slice_get units k ≡ Some unit) (so_far : ScannedSoFar tells units old now m m' scans k) where
  -- the pack on the next unit is refused
  pub refuses_pack : (s : OpenFailure) → AreUnits old.units units → IsTrue tells → s.unit ≡ unit → (s.why ≢ Memory → s.why ≢ Device → volume_of (image_of m'.state now unit) ≡ Err s.why) → RefusesImages (names_of old.units units) m.state s
  refuses_pack s are told place refused memory device =
      let image = image_before m.state m'.state old now unit (so_far.same told).state so_far.facts.units in
      pack_refused m.state old.units units (indexes_of scans) k unit s.why are.numbered at so_far.scanned.numbers (mounted_scans m.state old.units scans (so_far.images told)) (ap volume_of (sym image) ∙ refused memory device)
      ∙ ap (λ (n : ℕ). Err (record { unit = n; why = s.why })) (sym place)

  -- or it is scanned
  pub scanned_next : (next : Facts) (m'' : Meaning (List File)) (scans' : List Scan) (s : Scan) → IsScanOn now.units unit s → (IsTrue tells → IsScanOf (image_of m'.state now unit) s)
      → (IsTrue tells → Same m' m'') → Unreported now next → scans' ≡ scans ++ s ∷ [] → ScannedSoFar tells units old next m m'' scans' (k + 1)
  scanned_next next m'' scans' s on image_is same call pushed = record {
    facts = reported_none old now next so_far.facts call (λ never. never);
    same = λ told. same_then (so_far.same told) (same told);
    scanned = subst (AreScanned old.units (take (k + 1) units)) (sym pushed) (scanned_more old.units units scans k unit s at so_far.scanned (subst (λ (us : List Attached). IsScanOn us unit s) so_far.facts.units on));
    images = λ told.
        let image : image_of m'.state now unit ≡ image_named m.state (unit_of old.units s.vol.unit).name =
        image_before m.state m'.state old now unit (so_far.same told).state so_far.facts.units ∙ ap (λ (u : ℕ). image_named m.state (unit_of old.units u).name) (sym on.unit) in
        subst (AreScansOf m.state old.units) (sym pushed) (images_more m.state old.units scans s (so_far.images told) (subst (λ (i : List ℕ). IsScanOf i s) image (image_is told)));
  }

-- calls without a fault, and then memory ran out
pub stop_memory : (old now : Facts) (e : OpenFailure) → Unreported old now → e.why ≡ Memory → ReportedCall (e.why ≡ Device) old now
stop_memory old now e calls memory = record {
  units = calls.units;
  references = calls.references;
  prints = calls.prints;
  later = calls.later;
  device = λ is. absurd (let wrong : Memory ≡ Device = sym memory ∙ is in cc);
  others = λ none. calls.others (λ never. never);
}

-- ---- serials

-- none of the first serials stands before its place
abbrev pub NoneTwice : List (List ℕ) → ℕ → Type 0
NoneTwice serials n = (k : ℕ) (s : List ℕ) → k < n → slice_get serials k ≡ Some s → position (λ t. bytes_eq t s) (take k serials) ≡ None

lower_or_last : (j k : ℕ) → j < k + 1 → (j < k) ⊎ (j ≡ k)
lower_or_last zero zero low = inr refl
lower_or_last zero (suc k) low = inl (omega arith)
lower_or_last (suc j) zero low = absurd (omega (arith, low))
lower_or_last (suc j) (suc k) low = ⊎_elim (λ less. inl (omega (arith, less))) (λ same. inr (ap suc same)) (lower_or_last j k (omega (arith, low)))

pub apart_of : (serials : List (List ℕ)) → NoneTwice serials (length serials) → AreApart serials
apart_of serials none j k text first second = ⊎_elim (λ less. absurd (before j k text first second less)) (λ more. ⊎_elim (λ less. absurd (before k j text second first less)) (λ same. same) more) (three_ways j k)
  where
    before : (j k : ℕ) (text : List ℕ) → slice_get serials j ≡ Some text → slice_get serials k ≡ Some text → j < k → ⊥
    before j k text first second less =
        let never : bytes_eq text text ≡ false = none_passes (λ (t : List ℕ). bytes_eq t text) (take k serials) j text (none k text (slice_get_within serials k text second) second) (in_take k serials j text less first) in
        let found : bytes_eq text text ≡ true = (bytes_eq-Decides text text).1 refl in
        cc (never, found)

    three_ways : (j k : ℕ) → (j < k) ⊎ ((k < j) ⊎ (j ≡ k))
    three_ways zero zero = inr (inr refl)
    three_ways zero (suc k) = inl (omega arith)
    three_ways (suc j) zero = inr (inl (omega arith))
    three_ways (suc j) (suc k) = ⊎_elim (λ less. inl (omega (arith, less))) (λ more. inr (⊎_elim (λ less. inl (omega (arith, less))) (λ same. inr (ap suc same)) more)) (three_ways j k)

-- the first serial that stands twice, among scans
serials_map : (scans : List Scan) → map (λ (s : Scan). s.vol.serial.bytes) scans ≡ serials_of (indexes_of scans)
serials_map [] = refl
serials_map (s ∷ scans) = ap (λ (l : List (List ℕ)). s.vol.serial.bytes ∷ l) (serials_map scans)

pub place_by_serial : (scans : List Scan) (k : ℕ) (serial : List ℕ) → position (λ (s : Scan). bytes_eq s.vol.serial.bytes serial) (take k scans) ≡ position (λ (t : List ℕ). bytes_eq t serial) (take k (serials_of (indexes_of scans)))
place_by_serial scans k serial =
    let test : List ℕ → Bool = λ t. bytes_eq t serial in
    place_alike (λ (s : Scan). bytes_eq s.vol.serial.bytes serial) test (λ (s : Scan). s.vol.serial.bytes) (take k scans) (λ s. refl)
    ∙ ap (position test) (sym (take-map (λ (s : Scan). s.vol.serial.bytes) k scans)) ∙ ap (λ (l : List (List ℕ)). position test (take k l)) (serials_map scans)

-- one serial more that doesn't stand before its place
pub none_more : (scans : List Scan) (k : ℕ) (s : Scan) → slice_get scans k ≡ Some s → position (λ (x : Scan). bytes_eq x.vol.serial.bytes s.vol.serial.bytes) (take k scans) ≡ None → NoneTwice (serials_of (indexes_of scans)) k → NoneTwice (serials_of (indexes_of scans)) (k + 1)
none_more scans k s at none before j t low here = ⊎_elim (λ less. before j t less here) (λ same. this same) (lower_or_last j k low)
  where
    some_same : {a b : List ℕ} → Some a ≡ Some b → a ≡ b
    some_same is = cc

    serials : List (List ℕ)
    serials = serials_of (indexes_of scans)

    this : j ≡ k → position (λ x. bytes_eq x t) (take j serials) ≡ None
    this same =
        let there : slice_get serials k ≡ Some s.vol.serial.bytes = get_map (λ (w : Vol). w.serial.bytes) (indexes_of scans) k s.vol (get_map (λ (x : Scan). x.vol) scans k s at) in
        let serial : s.vol.serial.bytes ≡ t = some_same (sym there ∙ ap (slice_get serials) (sym same) ∙ here) in
        ap (λ (n : ℕ). position (λ x. bytes_eq x t) (take n serials)) same
        ∙ ap (λ (b : List ℕ). position (λ x. bytes_eq x b) (take k serials)) (sym serial)
        ∙ sym (place_by_serial scans k s.vol.serial.bytes) ∙ none

-- the first serial that stands before its place
pub first_twice : (scans : List Scan) (k other : ℕ) (s : Scan) → slice_get scans k ≡ Some s → position (λ (x : Scan). bytes_eq x.vol.serial.bytes s.vol.serial.bytes) (take k scans) ≡ Some other → NoneTwice (serials_of (indexes_of scans)) k → IsFirstTwice (serials_of (indexes_of scans)) k other
first_twice scans k other s at found before = record {
  serial = s.vol.serial.bytes;
  at = get_map (λ (w : Vol). w.serial.bytes) (indexes_of scans) k s.vol (get_map (λ (x : Scan). x.vol) scans k s at);
  first = sym (place_by_serial scans k s.vol.serial.bytes) ∙ found;
  before = before;
}

-- all serials are looked at
pub apart_upto : (vols : List Vol) (k : ℕ) → length vols ≤ k → NoneTwice (serials_of vols) k → AreApart (serials_of vols)
apart_upto vols k all none = apart_of (serials_of vols) (λ j s low at. none j s (omega (arith, low, all, length-map vols (λ (w : Vol). w.serial.bytes))) at)

-- refuses the shelf
pub twice_refused : (files : List File) (attached : List Attached) (vols : List Vol) (unit other : ℕ) → AreMounted files attached vols → IsFirstTwice (serials_of vols) unit other
    → shelf_of (images_named files (names_of attached (units_of vols))) ≡ Err (record { unit = unit; why = SameSerial unit other })
unfolding serial_faults
twice_refused files attached vols unit other mounted twice =
    let volumes : List Volume = volumes_held files attached vols in
    let same : serials_in volumes ≡ serials_of vols = held_serials files attached vols mounted in
    let there = of_map (λ (w : Volume). w.serial.bytes) volumes unit twice.serial (ap (λ (ss : List (List ℕ)). slice_get ss unit) same ∙ twice.at) in
    shelf_twice (images_named files (names_of attached (units_of vols))) volumes (record { unit = unit; why = SameSerial unit other }) (held_stand files attached vols mounted)
    (first_kept (λ (p : ℕ × Volume). serial_fault volumes p.0 p.1) (enumerate_from 0 volumes) unit (unit, there.0) (record { unit = unit; why = SameSerial unit other })
    (number_of volumes unit there.0 there.1)
    (fault_by volumes unit there.0 ∙ ap (λ (s : List ℕ). fault_in (serials_in volumes) unit s) there.2 ∙ ap (λ (ss : List (List ℕ)). fault_in ss unit twice.serial) same
    ∙ ap (option_map (λ (o : ℕ). record { unit = unit; why = SameSerial unit o })) twice.first)
    (λ k p low at.
    let here = numbered 0 volumes k p at in
    let place : p.0 ≡ k = omega (arith, here.0) in
    let serial : slice_get (serials_of vols) k ≡ Some p.1.serial.bytes = ap (λ (ss : List (List ℕ)). slice_get ss k) (sym same) ∙ get_map (λ (w : Volume). w.serial.bytes) volumes k p.1 here.1 in
    fault_by volumes p.0 p.1 ∙ ap (λ (n : ℕ). fault_in (serials_in volumes) n p.1.serial.bytes) place ∙ ap (λ (ss : List (List ℕ)). fault_in ss k p.1.serial.bytes) same
    ∙ ap (option_map (λ (o : ℕ). record { unit = k; why = SameSerial k o })) (twice.before k p.1.serial.bytes low serial)))
