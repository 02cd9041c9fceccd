-- What the image of a new pack stands for.
use Rattle.std.proofs.Common.{◌≡◌, ◌≤◌, ◌<◌, ◌+◌, ◌-◌, ◌*◌, ◌/◌, ◌%◌, ◌^◌, ℕ, zero, suc, Bool, true, false, ◌&&◌, List, [], ◌∷◌, ◌++◌, length, map, take, replicate, Option, Some, None, Ok, Err, ap, ap₂, sym, subst, refl, ◌∙◌, arith, eq-eqb, length-append, if◌then◌else◌}
use Rattle.std.specs.Prelude.{nat_le, nat_lt, ◌==◌, is_none, option_and_then, unwrap_or, slice_get, slice_range, Result}
use Rattle.std.specs.List.{cons_option, filter_map, flat_map, range_with_len}
use Rattle.std.specs.Int.{w16, from_be_bytes, to_be_bytes}
use Rattle.std.proofs.Math.Nat.{div-lt_iff_lt-mul, mod-lt}
use Rattle.std.proofs.lemmas.Bool.Decides.{nat_tests}
use Rattle.std.proofs.lemmas.List.{length-map, take-append-drop, take_at}
use Rattle.std.proofs.lemmas.Nat.{from_be_bytes-to_be_bytes_2}
use Rattle.ckd_image.specs.declared.header.Geometry.{Geometry}
use Rattle.ckd_image.specs.Device.{row_of}
use Rattle.ckd_image.specs.Header.{geometry_of, header_bytes}
use Rattle.ckd_image.specs.Track.{Record}
use Rattle.ckd_image.proofs.WrittenHeaders.{written_read}
use Rattle.dscb_codec.specs.declared.F1.{F1}
use Rattle.dscb_codec.specs.declared.F4.{F4}
use Rattle.dscb_codec.specs.declared.Dscb.{Dscb}
use Rattle.dscb_codec.specs.declared.DscbErr.{DscbErr}
use Rattle.dscb_codec.specs.declared.Dscb.TheVariants as formats
use Rattle.dscb_codec.specs.Layout.{decoded, f4_of}
use Rattle.dscb_codec.proofs.Formats.{decoded_f4}
use Rattle.vol_model.specs.declared.contents.DataSet.{DataSet}
use Rattle.vol_model.specs.declared.contents.Run.{Run}
use Rattle.vol_model.specs.declared.contents.Volume.{Volume}
use Rattle.vol_model.specs.Order.{in_order}
use Rattle.pack_spec.specs.declared.MountErr.{MountErr}
use Rattle.pack_spec.specs.declared.MountErr.TheVariants.{BadVtoc, VtocTrack}
use Rattle.pack_spec.specs.declared.address.Address.{Address}
use Rattle.pack_spec.specs.declared.slot.VtocSlot.{VtocSlot}
use Rattle.pack_spec.specs.Label.{heads_of, is_inside, label_in, label_of, records_on, track_of_address, tracks_of}
use Rattle.pack_spec.specs.New.{IsNewImage, IsNewPack, IsSlotOf, address_of, free_slot, image_with, new_f4, new_f5, new_records, new_track_at, new_volume, new_vtoc, slots_of_track, vtoc_extent}
use Rattle.pack_spec.specs.Owned.{volume_faults}
use Rattle.pack_spec.specs.Rules.{set_in, slots_faults}
use Rattle.pack_spec.specs.Settled.{AreSettled, IsSettled}
use Rattle.pack_spec.specs.Slots.{record_address, slots_from, slots_in, slots_of_vtoc, slots_on, track_fault, track_faults}
use Rattle.pack_spec.specs.Blocks.{data_tracks}
use Rattle.pack_spec.specs.Bodies.{catalog_of}
use Rattle.pack_spec.specs.Volume.{data_set_of, data_sets_in, unless, volume_by, volume_of, volume_on, volume_with, volume_within, vtoc_fault}
use Rattle.pack_spec.specs.Vtoc.{first_slot, is_extent, is_vtoc_extent, lower_of, run_of_extent, upper_of, vtoc_at, vtoc_by, vtoc_of, vtoc_on}
use Rattle.pack_spec.specs.Written.{label_bytes, label_records, slot_record}
use Rattle.pack_spec.proofs.SlotCounts.{length-slots_from}
use Rattle.pack_init.proofs.ImageLemmas.{is_within, not_first}
use Rattle.pack_init.proofs.LabelLemmas.{IsLabel, label_read}
use Rattle.pack_init.proofs.ReadLemmas.{few_cylinders, image_length, low_cylinder, low_head, records_up_to, records_whole, track_slots}
use Rattle.pack_init.proofs.RefusalLemmas.{new_geometry}
use Rattle.pack_init.proofs.SettledLemmas.{slots_settled}
use Rattle.pack_init.proofs.SlotLemmas.{AreFree, both, free_append, free_slots, sets_none, slot_test, slots_sound, slots_test, spare_f5, spare_free}
use Rattle.pack_init.proofs.SpaceLemmas.{none_broken}

less : (m n : ℕ) → m < n → nat_lt m n ≡ true
less m n low = grind (arith, nat_tests)

at_most : (m n : ℕ) → m ≤ n → nat_le m n ≡ true
at_most m n low = grind (arith, nat_tests)

-- an address of two numbers, each in two bytes
address_read : (x y : ℕ) → x < 2 ^ 16 → y < 2 ^ 16 → (let at : Address = record { cylinder = from_be_bytes w16 (to_be_bytes w16 x); head = from_be_bytes w16 (to_be_bytes w16 y) } in at) ≡ record { cylinder = x; head = y }
address_read x y low high = ap₂ (λ (p q : ℕ). let at : Address = record { cylinder = p; head = q } in at) (from_be_bytes-to_be_bytes_2 x low) (from_be_bytes-to_be_bytes_2 y high)

-- no number of a range has a fault
range_none : {X : Type 0} (f : ℕ → Option X) (i j : ℕ) → ((k : ℕ) → i ≤ k → k < i + j → f k ≡ None) → filter_map f (range_with_len i j) ≡ []
range_none f i zero none = refl
range_none f i (suc j) none = ap₂ cons_option (none i (omega arith) (omega arith)) (range_none f (i + 1) j (λ k low high. none k (omega arith) (omega arith)))

module _ (g : Geometry) (serial : List ℕ) (n : ℕ) (a b : List ℕ) (pack : IsNewPack g n) (six : length serial ≡ 6) (format_4 : IsSlotOf (formats.F4 (new_f4 g n)) a) (format_5 : IsSlotOf (formats.F5 (new_f5 g n)) b) where
  abbrev image : List ℕ
  image = image_with g serial n a b

  abbrev v : Address
  v = address_of g 1

  first : 1 < tracks_of g
  first = omega (arith, pack.first, pack.room)

  low : (k : ℕ) → k < tracks_of g → k / heads_of g < 2 ^ 16
  low k inside = omega (arith, low_cylinder g serial n a b pack six format_4.len format_5.len k inside)

  high : (k : ℕ) → k % heads_of g < 2 ^ 16
  high k = low_head g serial n a b pack six format_4.len format_5.len k

  header : take 512 image ≡ header_bytes g
  unfolding image_with
  header = take_at (header_bytes g) (flat_map (new_track_at g serial n a b) (range_with_len 0 (tracks_of g))) 512 refl

  geometry_read : geometry_of (take 512 image) (length image) ≡ Ok g
  geometry_read = ap (λ (l : List ℕ). geometry_of l (length image)) header ∙ written_read g (length image) (new_geometry g n (length image) pack (image_length g serial n a b pack six format_4.len format_5.len))

  l : IsLabel serial v
  l = label_read serial v six (low 1 first) (high 1)

  label_is : label_of image g ≡ Some (label_bytes serial v)
  unfolding label_of
  label_is = ap (option_and_then label_in) (records_up_to g serial n a b pack six format_4.len format_5.len 3 0 (omega (arith, first)) (omega arith)) ∙ l.found

  -- addresses of tracks
  inside : (k : ℕ) → k < tracks_of g → is_inside g (address_of g k) ≡ true
  inside k below =
      let few = few_cylinders g.device in
      let some : zero < heads_of g = omega (arith, few.1.0) in
      both _ _ (less (k / heads_of g) g.cylinders ((div-lt_iff_lt-mul {k = heads_of g} {x = k} {y = g.cylinders} some).1 below)) (less (k % heads_of g) (heads_of g) (mod-lt k some))

  track_of : (k : ℕ) → track_of_address g (address_of g k) ≡ k
  track_of k =
      let few = few_cylinders g.device in
      let some : 0 < heads_of g = omega (arith, few.1.0) in
      omega arith

  lower : lower_of (vtoc_extent g n) ≡ v
  lower = address_read (1 / heads_of g) (1 % heads_of g) (low 1 first) (high 1)

  upper : upper_of (vtoc_extent g n) ≡ address_of g n
  upper = address_read (n / heads_of g) (n % heads_of g) (low n pack.room) (high n)

  extent_is : slice_range a 105 115 ≡ vtoc_extent g n
  unfolding f4_of new_f4
  extent_is = ap (λ (f : F4). f.vtoc) (decoded_f4 a (new_f4 g n) format_4.decodes).1

  extent_inside : is_extent g (vtoc_extent g n) ≡ true
  extent_inside =
      ap₂ (λ (x y : Address). is_inside g x && is_inside g y && nat_le (track_of_address g x) (track_of_address g y)) lower upper
      ∙ both _ _ (both _ _ (inside 1 first) (inside n pack.room)) (ap₂ nat_le (track_of 1) (track_of n) ∙ at_most 1 n pack.first)

  run_is : run_of_extent g (vtoc_extent g n) ≡ new_vtoc n
  run_is =
      let count : n - 1 + 1 ≡ n = omega (arith, pack.first) in
      ap₂ (λ (x y : Address). let r : Run = record { start = track_of_address g x; len = track_of_address g y - track_of_address g x + 1 } in r) lower upper
      ∙ ap₂ (λ (s t : ℕ). let r : Run = record { start = s; len = t - s + 1 } in r) (track_of 1) (track_of n)
      ∙ ap (λ (t : ℕ). let r : Run = record { start = 1; len = t } in r) count

  extent_good : is_vtoc_extent g v (vtoc_extent g n) ≡ true
  extent_good =
      let few : n ≤ 257 = omega (arith, pack.most) in
      ap (λ (x : Address). is_extent g (vtoc_extent g n) && (x.cylinder == v.cylinder) && (x.head == v.head) && nat_le (run_of_extent g (vtoc_extent g n)).len 257) lower
      ∙ both _ _ (both _ _ (both _ _ extent_inside (eq-eqb v.cylinder v.cylinder refl)) (eq-eqb v.head v.head refl)) (ap (λ (r : Run). nat_le r.len 257) run_is ∙ at_most n 257 few)

  -- the first track of the VTOC, and its first slot
  first_records : new_records g serial n a b 1 ≡ map (slot_record v) (slots_of_track g a b 1)
  first_records = ap (λ (t : Bool). if t then map (slot_record v) (slots_of_track g a b 1) else []) (at_most 1 n pack.first)

  first_is : option_and_then first_slot (records_on image g (Some 1) 1) ≡ Some a
  first_is =
      let some : 1 ≤ length (new_records g serial n a b 1) = omega (arith, ap length first_records) in
      ap (option_and_then first_slot) (records_up_to g serial n a b pack six format_4.len format_5.len 1 1 first some)
      ∙ ap (λ (rs : List Record). first_slot (take 1 rs)) first_records
      ∙ ap₂ (λ (t : Bool) (s : List ℕ). if t then Some s else None) (slot_test v a format_4.len) (take-append-drop 44 a)

  vtoc_is : vtoc_of image g ≡ Ok (new_vtoc n)
  unfolding vtoc_of vtoc_at vtoc_on
  vtoc_is =
      ap (vtoc_at image g) label_is
      ∙ ap (λ (at : Address). if is_inside g at then vtoc_on image g at else Err BadVtoc) l.vtoc
      ∙ ap (λ (t : Bool). if t then vtoc_on image g v else Err BadVtoc) (inside 1 first)
      ∙ ap (λ (k : ℕ). vtoc_by g v (option_and_then first_slot (records_on image g (Some 1) k))) (track_of 1)
      ∙ ap (vtoc_by g v) first_is
      ∙ ap (λ (e : List ℕ). if is_vtoc_extent g v e then Ok (run_of_extent g e) else Err BadVtoc) extent_is
      ∙ ap (λ (t : Bool). if t then Ok (run_of_extent g (vtoc_extent g n)) else Err BadVtoc) extent_good
      ∙ ap Ok run_is

  -- the slots of a track of the VTOC
  abbrev slots_at : ℕ → List VtocSlot
  slots_at k = slots_from g k 1 (map (slot_record (address_of g k)) (slots_of_track g a b k))

  track_records : (k : ℕ) → 1 ≤ k → k < 1 + n → new_records g serial n a b k ≡ map (slot_record (address_of g k)) (slots_of_track g a b k)
  track_records k some few = ap₂ (λ (x y : Bool). if x then label_records serial v else (if y then map (slot_record (address_of g k)) (slots_of_track g a b k) else [])) (not_first k some) (is_within k n few)

  on_track : (k : ℕ) → 1 ≤ k → k < 1 + n → slots_on image g k ≡ Some (slots_at k)
  unfolding slots_on
  on_track k some few =
      let below : k < tracks_of g = omega (arith, pack.room) in
      ap (option_and_then (slots_in g k)) (records_whole g serial n a b pack six format_4.len format_5.len k below)
      ∙ ap (slots_in g k) (track_records k some few)
      ∙ ap (λ (t : Bool). if t then Some (slots_at k) else None) (slots_test (address_of g k) (slots_of_track g a b k) (track_slots g a b k format_4.len format_5.len).0)

  found_is : (k : ℕ) → 1 ≤ k → k < 1 + n → unwrap_or (slots_on image g k) [] ≡ slots_at k
  found_is k some few = ap (λ (o : Option (List VtocSlot)). unwrap_or o []) (on_track k some few)

  tracks_good : track_faults image g (new_vtoc n) ≡ []
  unfolding track_faults track_fault
  tracks_good = range_none (track_fault image g) 1 n (λ k some few. ap (λ (o : Option (List VtocSlot)). if is_none o then Some (VtocTrack k) else None) (on_track k some few))

  count_at : (k : ℕ) → length (slots_at k) ≡ (row_of g.device).dscbs_per_track
  count_at k = length-slots_from g k 1 (map (slot_record (address_of g k)) (slots_of_track g a b k)) ∙ length-map (slots_of_track g a b k) (slot_record (address_of g k)) ∙ (track_slots g a b k format_4.len format_5.len).1

  counted : (i j : ℕ) → 1 ≤ i → i + j ≤ 1 + n → length (flat_map (λ k. unwrap_or (slots_on image g k) []) (range_with_len i j)) ≡ j * (row_of g.device).dscbs_per_track
  counted i zero some few = omega arith
  counted i (suc j) some few =
      length-append (unwrap_or (slots_on image g i) []) (flat_map (λ k. unwrap_or (slots_on image g k) []) (range_with_len (i + 1) j))
      ∙ omega (arith, ap length (found_is i some (omega arith)), count_at i, counted (i + 1) j (omega arith) (omega arith))

  abbrev d : ℕ
  d = (row_of g.device).dscbs_per_track

  not_one : (i : ℕ) → 2 ≤ i → (i == 1) ≡ false
  not_one i two = grind (arith, nat_tests)

  free_at : (i : ℕ) → 2 ≤ i → slots_of_track g a b i ≡ replicate d free_slot
  free_at i two = ap (λ (t : Bool). if t then a ∷ b ∷ replicate (d - 2) free_slot else replicate d free_slot) (not_one i two)

  free_slots_at : (i : ℕ) → 2 ≤ i → AreFree (slots_at i)
  free_slots_at i two = subst (λ (ss : List (List ℕ)). AreFree (slots_from g i 1 (map (slot_record (address_of g i)) ss))) (sym (free_at i two)) (free_slots g i 1 d (address_of g i))

  later_free : (i j : ℕ) → 2 ≤ i → i + j ≤ 1 + n → AreFree (flat_map (λ k. unwrap_or (slots_on image g k) []) (range_with_len i j))
  later_free i zero some few = tt
  later_free i (suc j) some few =
      free_append (unwrap_or (slots_on image g i) []) (flat_map (λ k. unwrap_or (slots_on image g k) []) (range_with_len (i + 1) j))
      (subst (λ (ss : List VtocSlot). AreFree ss) (sym (found_is i (omega arith) (omega arith))) (free_slots_at i some))
      (later_free (i + 1) j (omega arith) (omega arith))

  -- all slots
  abbrev slot_4 : VtocSlot
  slot_4 = record { address = record_address g 1 1; content = Ok (formats.F4 (new_f4 g n)) }

  abbrev slot_5 : VtocSlot
  slot_5 = record { address = record_address g 1 2; content = Ok (formats.F5 (new_f5 g n)) }

  abbrev frees : List VtocSlot
  frees = slots_from g 1 3 (map (slot_record v) (replicate (d - 2) free_slot))

  abbrev later : List VtocSlot
  later = flat_map (λ k. unwrap_or (slots_on image g k) []) (range_with_len 2 (n - 1))

  first_slots : slots_at 1 ≡ slot_4 ∷ slot_5 ∷ frees
  first_slots = ap₂ (λ (p q : Result Dscb DscbErr). let x : VtocSlot = record { address = record_address g 1 1; content = p } in let y : VtocSlot = record { address = record_address g 1 2; content = q } in x ∷ y ∷ frees)
      (ap decoded (take-append-drop 44 a) ∙ format_4.decodes) (ap decoded (take-append-drop 44 b) ∙ format_5.decodes)

  slots_are : slots_of_vtoc image g (new_vtoc n) ≡ slot_4 ∷ slot_5 ∷ (frees ++ later)
  unfolding slots_of_vtoc
  slots_are =
      let count : n ≡ suc (n - 1) = omega (arith, pack.first) in
      ap (λ (k : ℕ). flat_map (λ i. unwrap_or (slots_on image g i) []) (range_with_len 1 k)) count
      ∙ ap (λ (ss : List VtocSlot). ss ++ later) (found_is 1 (omega arith) (omega (arith, pack.first)) ∙ first_slots)

  slots_count : length (slots_of_vtoc image g (new_vtoc n)) ≡ n * d
  unfolding slots_of_vtoc
  slots_count = counted 1 n (omega arith) (omega arith)

  others_free : AreFree (frees ++ later)
  others_free = free_append frees later (free_slots g 1 3 (d - 2) v) (later_free 2 (n - 1) (omega arith) (omega (arith, pack.first)))

  unset : filter_map (λ s. set_in s.content) (slot_4 ∷ slot_5 ∷ (frees ++ later)) ≡ []
  unset = sets_none g (slot_5 ∷ (frees ++ later)) (spare_f5 g slot_5 (new_f5 g n) refl, spare_free g (frees ++ later) others_free)

  volume_is : volume_by image g (new_vtoc n) ≡ new_volume g serial n
  unfolding volume_with data_sets_in in_order catalog_of
  volume_is =
      let ss = slot_4 ∷ slot_5 ∷ (frees ++ later) in
      let count : length ss ≡ n * d = ap length (sym slots_are) ∙ slots_count in
      let tracks : List (List ℕ) = data_tracks image g (new_vtoc n) in
      ap₂ (λ (o : Option (List ℕ)) (s : List VtocSlot). volume_with g tracks (unwrap_or o []) (new_vtoc n) s) label_is slots_are
      ∙ ap₂ (λ (s : List ℕ) (c : ℕ). let w : Volume = record { serial = record { bytes = s }; geometry = g; vtoc = new_vtoc n; slots = c; sets = in_order (map (data_set_of g tracks ss) (filter_map (λ x. set_in x.content) ss)); catalog = catalog_of (in_order (map (data_set_of g tracks ss) (filter_map (λ x. set_in x.content) ss))) } in w) l.serial_is count
      ∙ ap (λ (fs : List F1). let w : Volume = record { serial = record { bytes = serial }; geometry = g; vtoc = new_vtoc n; slots = n * d; sets = in_order (map (data_set_of g tracks ss) fs); catalog = catalog_of (in_order (map (data_set_of g tracks ss) fs)) } in w) unset

  fault_none : vtoc_fault image g (new_vtoc n) ≡ None
  unfolding vtoc_fault
  fault_none =
      let sound : slots_faults g (slots_of_vtoc image g (new_vtoc n)) ≡ [] = ap (slots_faults g) slots_are ∙ slots_sound g slot_4 slot_5 (frees ++ later) (new_f4 g n) (new_f5 g n) refl refl (spare_free g (frees ++ later) others_free) in
      let whole : volume_faults (volume_by image g (new_vtoc n)) ≡ [] = ap volume_faults volume_is ∙ none_broken g serial n pack in
      ap₂ (λ (x y : List MountErr). slice_get (x ++ y) 0) tracks_good (ap₂ (λ (x y : List MountErr). x ++ y) sound whole)

  pub mounts : volume_of image ≡ Ok (new_volume g serial n)
  unfolding volume_of
  mounts = ap (volume_on image) geometry_read ∙ ap (volume_within image g) vtoc_is ∙ ap₂ (λ (o : Option MountErr) (w : Volume). unless o w) fault_none volume_is

  pub settled : IsSettled image
  settled =
      let none : (k : ℕ) (x : DataSet) → slice_get [] k ≡ Some x → ⊥ = λ k x there. cc in (
        new_volume g serial n,
        mounts,
        subst (λ (ss : List VtocSlot). AreSettled ss (new_volume g serial n)) (sym slots_are) (slots_settled g serial n pack slot_4.address slot_5.address (frees ++ later) others_free (ap length (sym slots_are) ∙ slots_count)),
        λ k x there. absurd (none k x there),
      )

-- each image of a new pack does
pub mounts_new : (g : Geometry) (serial : List ℕ) (n : ℕ) (bytes : List ℕ) → IsNewPack g n → length serial ≡ 6 → IsNewImage g serial n bytes → volume_of bytes ≡ Ok (new_volume g serial n)
mounts_new g serial n bytes pack six is = ap volume_of is.bytes ∙ mounts g serial n is.slot_0 is.slot_1 pack six is.format_4 is.format_5

-- and is settled
pub settled_new : (g : Geometry) (serial : List ℕ) (n : ℕ) (bytes : List ℕ) → IsNewPack g n → length serial ≡ 6 → IsNewImage g serial n bytes → IsSettled bytes
settled_new g serial n bytes pack six is = subst IsSettled (sym is.bytes) (settled g serial n is.slot_0 is.slot_1 pack six is.format_4 is.format_5)
