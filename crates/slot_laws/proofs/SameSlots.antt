-- Images that have the same label and the same VTOC, byte for byte: they have the same slots, and where one is mounted, so is the other.
use Rattle.std.proofs.Common.{◌≡◌, ◌⊎◌, ◌+◌, ◌≤◌, ◌*◌, ◌/◌, ◌%◌, ℕ, zero, suc, Bool, true, false, cond, List, [], ◌∷◌, ◌++◌, length, take, map, Option, Some, None, Ok, Err, refl, sym, ap, ap₂, ◌∙◌, subst, arith, option_and_then}
use Rattle.std.specs.Prelude.{◌&&◌, ◌==◌, slice_range, unwrap_or, is_none}
use Rattle.std.specs.List.{cons_option, filter_map, flat_map, range_with_len}
use Rattle.std.specs.Option.{option_map}
use Rattle.std.proofs.lemmas.Bool.{and_parts, eqb-true}
use Rattle.ckd_image.specs.declared.header.Geometry.{Geometry}
use Rattle.ckd_image.specs.Header.{geometry_of}
use Rattle.ckd_image.specs.Track.{Record}
use Rattle.ckd_image.specs.Reading.{records_of}
use Rattle.pack_spec.specs.declared.MountErr.{MountErr}
use Rattle.pack_spec.specs.declared.MountErr.TheVariants.{BadVtoc, VtocTrack}
use Rattle.pack_spec.specs.declared.address.Address.{Address}
use Rattle.pack_spec.specs.declared.slot.VtocSlot.{VtocSlot}
use Rattle.pack_spec.specs.Alike.{IsIn}
use Rattle.pack_spec.specs.Blocks.{data_tracks}
use Rattle.pack_spec.specs.Bodies.{catalog_of}
use Rattle.pack_spec.specs.Label.{address_at, heads_of, is_inside, label_in, label_of, records_on, track_bytes, track_of_address}
use Rattle.pack_spec.specs.Owned.{volume_faults}
use Rattle.pack_spec.specs.Rules.{slots_faults}
use Rattle.pack_spec.specs.Slots.{slots_in, slots_of_vtoc, slots_on, track_fault, track_faults}
use Rattle.pack_spec.specs.Volume.{data_sets_in, volume_by, volume_with}
use Rattle.pack_spec.specs.Vtoc.{first_slot, is_extent, is_vtoc_extent, lower_of, run_of_extent, vtoc_at, vtoc_by, vtoc_of, vtoc_on}
use Rattle.vol_model.specs.declared.contents.DataSet.{DataSet}
use Rattle.vol_model.specs.declared.contents.Run.{Run}
use Rattle.vol_model.specs.Order.{in_order}
use Rattle.vol_model.specs.Space.{free_runs}
use Rattle.track_records.specs.Buffers.{Buffer}
use Rattle.track_records.specs.Written.{StandsOn}
use Rattle.vtoc_index.specs.declared.vol.Vol.{Vol}
use Rattle.vtoc_index.specs.Index.{AreDscbs, IsMounted, firsts_of, slots_before}
use Rattle.vtoc_index.proofs.ExtentLaw.{volume_is}

-- what is read of a track is by its bytes
pub by_bytes : (g : Geometry) (u : Option ℕ) (t : ℕ) (before after : List ℕ) → track_bytes after g t ≡ track_bytes before g t → records_on after g u t ≡ records_on before g u t
unfolding records_on
by_bytes g u t before after same = ap (records_of (t / heads_of g) (t % heads_of g) u) same

-- where the extent of a VTOC begins that is found at an address; it isn't empty
extent_begins : (g : Geometry) (at : Address) (vtoc : Run) (found : Option (List ℕ)) → vtoc_by g at found ≡ Ok vtoc → (vtoc.start ≡ track_of_address g at) × (1 ≤ vtoc.len)
extent_begins g at vtoc None is = cc
extent_begins g at vtoc (Some slot) is = by_test (is_vtoc_extent g at extent) refl is
  where
    extent : List ℕ
    extent = slice_range slot 105 115

    by_test : (b : Bool) → is_vtoc_extent g at extent ≡ b → cond b (Ok (run_of_extent g extent)) (Err BadVtoc) ≡ Ok vtoc → (vtoc.start ≡ track_of_address g at) × (1 ≤ vtoc.len)
    by_test false test same = cc
    by_test true test same =
        let tests = and_parts (is_extent g extent && ((lower_of extent).cylinder == at.cylinder) && ((lower_of extent).head == at.head)) _ test in
        let heads = and_parts (is_extent g extent && ((lower_of extent).cylinder == at.cylinder)) _ tests.0 in
        let cylinders = and_parts (is_extent g extent) _ heads.0 in
        let cylinder : (lower_of extent).cylinder ≡ at.cylinder = eqb-true _ _ cylinders.1 in
        let head : (lower_of extent).head ≡ at.head = eqb-true _ _ heads.1 in
        let run : run_of_extent g extent ≡ vtoc = cc in (
          sym (ap (λ (r : Run). r.start) run)
              ∙ ap (λ (n : ℕ). n * heads_of g + (lower_of extent).head) cylinder
              ∙ ap (λ (n : ℕ). at.cylinder * heads_of g + n) head,
          omega (arith, ap (λ (r : Run). r.len) run),
        )

-- the VTOC's extent by the label, and the first record where that leads
abbrev found_on : List ℕ → Geometry → List ℕ → Option (List ℕ)
found_on image g label = option_and_then first_slot (records_on image g (Some 1) (track_of_address g (address_at 11 label)))

extent_where : (image : List ℕ) (g : Geometry) (vtoc : Run) (label : List ℕ) → label_of image g ≡ Some label → vtoc_of image g ≡ Ok vtoc → (is_inside g (address_at 11 label) ≡ true) × (vtoc_by g (address_at 11 label) (found_on image g label) ≡ Ok vtoc)
unfolding vtoc_of vtoc_at vtoc_on
extent_where image g vtoc label labelled is = by_inside (is_inside g (address_at 11 label)) refl (sym (ap (vtoc_at image g) labelled) ∙ is)
  where
    by_inside : (b : Bool) → is_inside g (address_at 11 label) ≡ b → cond b (vtoc_by g (address_at 11 label) (found_on image g label)) (Err BadVtoc) ≡ Ok vtoc → (is_inside g (address_at 11 label) ≡ true) × (vtoc_by g (address_at 11 label) (found_on image g label) ≡ Ok vtoc)
    by_inside true inside found = (inside, found)
    by_inside false inside found = cc

extent_there : (image : List ℕ) (g : Geometry) (vtoc : Run) (label : List ℕ) → label_of image g ≡ Some label → is_inside g (address_at 11 label) ≡ true → vtoc_by g (address_at 11 label) (found_on image g label) ≡ Ok vtoc → vtoc_of image g ≡ Ok vtoc
unfolding vtoc_of vtoc_at vtoc_on
extent_there image g vtoc label labelled inside is =
    ap (vtoc_at image g) labelled
    ∙ ap (λ (b : Bool). cond b (vtoc_by g (address_at 11 label) (found_on image g label)) (Err BadVtoc)) inside
    ∙ is

-- images that have the same label and the same VTOC, byte for byte
module _ (g : Geometry) (vtoc : Run) (before after : List ℕ)
    (front : track_bytes after g 0 ≡ track_bytes before g 0)
    (same : (t : ℕ) → IsIn vtoc t → track_bytes after g t ≡ track_bytes before g t) where
  pub label_same : label_of after g ≡ label_of before g
  unfolding label_of
  label_same = ap (option_and_then label_in) (by_bytes g (Some 3) 0 before after front)

  on_same : (t : ℕ) → IsIn vtoc t → slots_on after g t ≡ slots_on before g t
  unfolding slots_on
  on_same t within = ap (option_and_then (slots_in g t)) (by_bytes g None t before after (same t within))

  slots_from : (n low : ℕ) → vtoc.start ≤ low → low + n ≤ vtoc.start + vtoc.len → flat_map (λ t. unwrap_or (slots_on after g t) []) (range_with_len low n) ≡ flat_map (λ t. unwrap_or (slots_on before g t) []) (range_with_len low n)
  slots_from zero low under within = refl
  slots_from (suc n) low under within = ap₂ (λ (x y : List VtocSlot). x ++ y) (ap (λ (o : Option (List VtocSlot)). unwrap_or o []) (on_same low (under, omega (arith, within)))) (slots_from n (low + 1) (omega (arith, under)) (omega (arith, within)))

  slots_upto : (n : ℕ) → n ≤ vtoc.len → slots_of_vtoc after g (record { start = vtoc.start; len = n }) ≡ slots_of_vtoc before g (record { start = vtoc.start; len = n })
  unfolding slots_of_vtoc
  slots_upto n low = slots_from n vtoc.start (omega arith) (omega (arith, low))

  pub slots_same : slots_of_vtoc after g vtoc ≡ slots_of_vtoc before g vtoc
  slots_same = slots_upto vtoc.len (omega arith)

  faults_from : (n low : ℕ) → vtoc.start ≤ low → low + n ≤ vtoc.start + vtoc.len → filter_map (track_fault after g) (range_with_len low n) ≡ filter_map (track_fault before g) (range_with_len low n)
  unfolding track_fault
  faults_from zero low under within = refl
  faults_from (suc n) low under within = ap₂ (λ (x : Option MountErr) (y : List MountErr). cons_option x y) (ap (λ (o : Option (List VtocSlot)). cond (is_none o) (Some (VtocTrack low)) None) (on_same low (under, omega (arith, within)))) (faults_from n (low + 1) (omega (arith, under)) (omega (arith, within)))

  pub faults_same : track_faults after g vtoc ≡ track_faults before g vtoc
  unfolding track_faults
  faults_same = faults_from vtoc.len vtoc.start (omega arith) (omega arith)

  firsts_from : (n low : ℕ) → low + n ≤ vtoc.len → map (slots_before after g vtoc) (range_with_len low n) ≡ map (slots_before before g vtoc) (range_with_len low n)
  firsts_from zero low within = refl
  firsts_from (suc n) low within = ap₂ (λ (x : ℕ) (y : List ℕ). x ∷ y) (ap length (slots_upto low (omega (arith, within)))) (firsts_from n (low + 1) (omega (arith, within)))

  pub firsts_same : firsts_of after g vtoc ≡ firsts_of before g vtoc
  unfolding firsts_of
  firsts_same = firsts_from vtoc.len 0 (omega arith)

  pub extent_same : (label : List ℕ) → label_of before g ≡ Some label → vtoc_of before g ≡ Ok vtoc → vtoc_of after g ≡ Ok vtoc
  extent_same label labelled is =
      let at : Address = address_at 11 label in
      let e = extent_where before g vtoc label labelled is in
      let begins = extent_begins g at vtoc (found_on before g label) e.1 in
      let there : records_on after g (Some 1) (track_of_address g at) ≡ records_on before g (Some 1) (track_of_address g at) = by_bytes g (Some 1) (track_of_address g at) before after (same (track_of_address g at) (omega (arith, begins.0), omega (arith, begins.0, begins.1))) in
      extent_there after g vtoc label (label_same ∙ labelled) e.0 (ap (λ (o : Option (List Record)). vtoc_by g at (option_and_then first_slot o)) there ∙ e.1)

-- An image keeps the size, the header, track 0 and the tracks of the VTOC of another.
pub record KeepsVtoc (v : Vol) (before after : List ℕ) : Type 0 where
  pub size : length after ≡ length before
  pub header : take 512 after ≡ take 512 before
  pub front : track_bytes after v.geometry 0 ≡ track_bytes before v.geometry 0
  pub vtoc : (t : ℕ) → IsIn v.vtoc t → track_bytes after v.geometry t ≡ track_bytes before v.geometry t

module _ (before after : List ℕ) (v : Vol) (keeps : KeepsVtoc v before after) where
  abbrev g : Geometry
  g = v.geometry

  abbrev slots : List VtocSlot
  slots = slots_of_vtoc before g v.vtoc

  pub slots_kept : slots_of_vtoc after g v.vtoc ≡ slots
  slots_kept = slots_same g v.vtoc before after keeps.front keeps.vtoc

  pub label_kept : label_of after g ≡ label_of before g
  label_kept = label_same g v.vtoc before after keeps.front keeps.vtoc

  -- where its data sets are the same, so is the volume
  pub volume_same : data_sets_in g (data_tracks after g v.vtoc) slots ≡ data_sets_in g (data_tracks before g v.vtoc) slots → volume_by after g v.vtoc ≡ volume_by before g v.vtoc
  unfolding volume_with
  volume_same sets_kept =
      ap₂ (λ (l : List ℕ) (ss : List VtocSlot). volume_with g (data_tracks after g v.vtoc) l v.vtoc ss) (ap (λ (o : Option (List ℕ)). unwrap_or o []) label_kept) slots_kept
      ∙ ap (λ (sets : List DataSet). record {
        serial = record { bytes = slice_range (unwrap_or (label_of before g) []) 4 10 };
        geometry = g;
        vtoc = v.vtoc;
        slots = length slots;
        sets = in_order sets;
        catalog = catalog_of (in_order sets);
      }) sets_kept

  some_label : (o : Option (List ℕ)) → o ≡ label_of before g → option_map (λ (l : List ℕ). slice_range l 4 10) o ≡ Some v.serial.bytes → (label : List ℕ) × (label_of before g ≡ Some label)
  some_label None is e = cc
  some_label (Some l) is e = (l, sym is)

  -- Where its volume breaks no more rules and has the same free runs, the index of the other is its own, but for the buffer.
  pub mounted_same : IsMounted before v → volume_faults (volume_by after g v.vtoc) ≡ volume_faults (volume_by before g v.vtoc) → free_runs (volume_by after g v.vtoc) ≡ free_runs (volume_by before g v.vtoc)
      → (b : Buffer) → (b.records ≡ []) ⊎ StandsOn after b → IsMounted after (record v { buf = b })
  mounted_same m rules space b held =
      let label = some_label (label_of before g) refl m.index.serial in
      let faults : track_faults after g v.vtoc ≡ [] = faults_same g v.vtoc before after keeps.front keeps.vtoc ∙ m.index.tracks in
      let extent : vtoc_of after g ≡ Ok v.vtoc = extent_same g v.vtoc before after keeps.front keeps.vtoc label.0 label.1 m.vtoc in
      let header : geometry_of (take 512 after) (length after) ≡ Ok g = ap₂ (λ (l : List ℕ) (n : ℕ). geometry_of l n) keeps.header keeps.size ∙ m.index.header in
      let lawful : slots_faults g (slots_of_vtoc after g v.vtoc) ≡ [] = ap (slots_faults g) slots_kept ∙ m.lawful in
      let whole : volume_faults (volume_by after g v.vtoc) ≡ [] = rules ∙ m.whole in
      record {
        index = record {
          header = header;
          serial = ap (option_map (λ (l : List ℕ). slice_range l 4 10)) label_kept ∙ m.index.serial;
          tracks = faults;
          slots = subst (AreDscbs v.slots.items) (sym slots_kept) m.index.slots;
          firsts = m.index.firsts ∙ sym (firsts_same g v.vtoc before after keeps.front keeps.vtoc);
          buffer = held;
        };
        vtoc = extent;
        lawful = lawful;
        whole = whole;
        free = m.free ∙ sym space;
        volume = volume_is after g v.vtoc header extent faults lawful whole;
      }
