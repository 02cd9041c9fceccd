-- The slots of the tracks of a VTOC, a track after another.
use Rattle.std.proofs.Common.{◌≡◌, ℕ, zero, suc, ◌+◌, ◌-◌, ◌<◌, ◌≤◌, List, [], ◌∷◌, ◌++◌, length, Option, Some, None, refl, sym, ap, subst, ◌∙◌, arith, length-append}
use Rattle.std.specs.Prelude.{Ok, Err, option_and_then, unwrap_or}
use Rattle.pack_spec.specs.declared.MountErr.{MountErr}
use Rattle.pack_spec.specs.Rules.{slots_faults}
use Rattle.pack_spec.specs.Owned.{volume_faults}
use Rattle.pack_spec.specs.Volume.{unless, volume_by, vtoc_fault}
use Rattle.pack_spec.proofs.FirstFaults.{first_append-some}
use Rattle.std.proofs.lemmas.List.{append-nil}
use Rattle.std.proofs.lemmas.List.FromFn.{map-range_with_len_more}
use Rattle.std.proofs.lemmas.List.Elements.{filter_map-append}
use Rattle.std.proofs.lemmas.Grind.{flat_map-append}
use Rattle.std.specs.List.{cons_option, filter_map, flat_map, range_with_len, slice_get}
use Rattle.ckd_image.specs.declared.header.Geometry.{Geometry}
use Rattle.ckd_image.specs.Track.{Record}
use Rattle.pack_spec.specs.declared.MountErr.TheVariants.{VtocTrack}
use Rattle.pack_spec.specs.declared.slot.VtocSlot.{VtocSlot}
use Rattle.pack_spec.specs.declared.address.Address.{Address}
use Rattle.pack_spec.specs.Label.{records_on, track_of_address}
use Rattle.vol_model.specs.declared.contents.Run.{Run}
use Rattle.pack_spec.specs.Slots.{slots_in, slots_on, slots_of_vtoc, track_fault, track_faults}
use Rattle.pack_spec.specs.Volume.{volume_within}
use Rattle.vtoc_index.specs.Index.{AreFirsts, firsts_of, slots_before}
use Rattle.vtoc_index.specs.Reading.{Adds, AreNumbered, AreTracksRead, IsExtent}
use Rattle.pack_spec.specs.Vtoc.{vtoc_on}
use Rattle.vtoc_index.specs.declared.tracks.ReadSlots.{ReadSlots}

abbrev run : ℕ → ℕ → Run
run start len = record { start = start; len = len }

-- numbers in a row, in two parts
range_append : (s a b : ℕ) → range_with_len s (a + b) ≡ range_with_len s a ++ range_with_len (s + a) b
range_append s zero b = let z : 0 + b ≡ b = omega arith in let t : s + 0 ≡ s = omega arith in rw (z, t) refl
range_append s (suc a) b =
    let n : suc a + b ≡ suc (a + b) = omega arith in
    let t : s + 1 + a ≡ s + suc a = omega arith in
    ap (range_with_len s) n ∙ ap (λ (l : List ℕ). s ∷ l) (range_append (s + 1) a b) ∙ ap (λ (k : ℕ). s ∷ (range_with_len (s + 1) a ++ range_with_len k b)) t

-- a good track, and one that isn't
fault_not : (image : List ℕ) (g : Geometry) (track : ℕ) (slots : List VtocSlot) → slots_on image g track ≡ Some slots → track_fault image g track ≡ None
unfolding track_fault
fault_not image g track slots e = rw e refl

fault_is : (image : List ℕ) (g : Geometry) (track : ℕ) → slots_on image g track ≡ None → track_fault image g track ≡ Some (VtocTrack track)
unfolding track_fault
fault_is image g track e = rw e refl

slots_there : (image : List ℕ) (g : Geometry) (track : ℕ) (slots : List VtocSlot) → slots_on image g track ≡ Some slots → unwrap_or (slots_on image g track) [] ≡ slots
slots_there image g track slots e = rw e refl

pub slots_are : (image : List ℕ) (g : Geometry) (track : ℕ) (xs : List Record) (given : Option (List VtocSlot)) → records_on image g None track ≡ Some xs → slots_in g track xs ≡ given → slots_on image g track ≡ given
unfolding slots_on
slots_are image g track xs given read are = ap (option_and_then (slots_in g track)) read ∙ are

pub slots_none : (image : List ℕ) (g : Geometry) (track : ℕ) → records_on image g None track ≡ None → slots_on image g track ≡ None
unfolding slots_on
slots_none image g track none = ap (option_and_then (slots_in g track)) none

-- one more track
faults_more : (image : List ℕ) (g : Geometry) (start len track : ℕ) (slots : List VtocSlot) → track ≡ start + len → slots_on image g track ≡ Some slots → track_faults image g (run start len) ≡ [] → track_faults image g (run start (len + 1)) ≡ []
unfolding track_faults
faults_more image g start len track slots at there good =
    ap (filter_map (track_fault image g)) (range_append start len 1)
    ∙ filter_map-append (track_fault image g) (range_with_len start len) (range_with_len (start + len) 1)
    ∙ ap (λ l. l ++ filter_map (track_fault image g) (range_with_len (start + len) 1)) good
    ∙ ap (λ (t : ℕ). filter_map (track_fault image g) (range_with_len t 1)) (sym at)
    ∙ ap (λ o. cons_option o []) (fault_not image g track slots there)

slots_more : (image : List ℕ) (g : Geometry) (start len track : ℕ) (slots : List VtocSlot) → track ≡ start + len → slots_on image g track ≡ Some slots → slots_of_vtoc image g (run start (len + 1)) ≡ slots_of_vtoc image g (run start len) ++ slots
unfolding slots_of_vtoc
slots_more image g start len track slots at there =
    ap (flat_map (λ t. unwrap_or (slots_on image g t) [])) (range_append start len 1)
    ∙ flat_map-append (λ (t : ℕ). unwrap_or (slots_on image g t) []) (range_with_len start len) (range_with_len (start + len) 1)
    ∙ ap (λ (t : ℕ). flat_map (λ t. unwrap_or (slots_on image g t) []) (range_with_len start len) ++ flat_map (λ t. unwrap_or (slots_on image g t) []) (range_with_len t 1)) (sym at)
    ∙ ap (λ (l : List VtocSlot). flat_map (λ t. unwrap_or (slots_on image g t) []) (range_with_len start len) ++ l) (append-nil (unwrap_or (slots_on image g track) []) ∙ slots_there image g track slots there)

firsts_more : (image : List ℕ) (g : Geometry) (start len : ℕ) → firsts_of image g (run start (len + 1)) ≡ firsts_of image g (run start len) ++ length (slots_of_vtoc image g (run start len)) ∷ []
unfolding firsts_of
firsts_more image g start len = map-range_with_len_more (slots_before image g (run start len)) 0 len len (omega arith)

-- nothing is read yet
pub read_none : (image : List ℕ) (g : Geometry) (start : ℕ) (found : ReadSlots) → found.slots.items ≡ [] → found.firsts.items ≡ [] → AreTracksRead image g start 0 found
unfolding track_faults slots_of_vtoc firsts_of
read_none image g start found no_slots no_firsts = record { tracks = refl; slots = no_slots; firsts = no_firsts }

pub read_more : (image : List ℕ) (g : Geometry) (start len track : ℕ) (records : List Record) (old new : ReadSlots) → track ≡ start + len → AreTracksRead image g start len old → records_on image g None track ≡ Some records → new.firsts.items ≡ old.firsts.items ++ length old.slots.items ∷ [] → Adds g track records old.slots.items new.slots.items → AreTracksRead image g start (len + 1) new
read_more image g start len track records old new at before read firsts adds =
    let there = slots_are image g track records (Some adds.slots) read adds.are_slots in
    record {
      tracks = faults_more image g start len track adds.slots at there before.tracks;
      slots = adds.added ∙ ap (λ (l : List VtocSlot). l ++ adds.slots) before.slots ∙ sym (slots_more image g start len track adds.slots at there);
      firsts =
          firsts
          ∙ ap (λ (l : List ℕ). l ++ length old.slots.items ∷ []) before.firsts
          ∙ ap (λ (l : List VtocSlot). firsts_of image g (run start len) ++ length l ∷ []) before.slots
          ∙ sym (firsts_more image g start len);
    }

-- the first track is read
pub first_read : (image : List ℕ) (g : Geometry) (start : ℕ) (records : List Record) (none new : ReadSlots) → none.slots.items ≡ [] → none.firsts.items ≡ [] → records_on image g None start ≡ Some records → new.firsts.items ≡ none.firsts.items ++ length none.slots.items ∷ [] → Adds g start records none.slots.items new.slots.items → AreTracksRead image g start 1 new
first_read image g start records none new no_slots no_firsts read firsts adds =
    let begin : start ≡ start + 0 = omega arith in
    read_more image g start 0 start records none new begin (read_none image g start none no_slots no_firsts) read firsts adds

-- the first track that breaks the rules is answered
within_track : (image : List ℕ) (g : Geometry) (vtoc : Run) (e : MountErr) → slice_get (track_faults image g vtoc) 0 ≡ Some e → volume_within image g (Ok vtoc) ≡ Err e
unfolding vtoc_fault
within_track image g vtoc e is =
    ap (λ (o : Option MountErr). unless o (volume_by image g vtoc))
    (sym (first_append-some (track_faults image g vtoc) (slots_faults g (slots_of_vtoc image g vtoc) ++ volume_faults (volume_by image g vtoc)) e (sym is)))

-- a track breaks the rules, and those before it don't
pub track_refused : (image : List ℕ) (g : Geometry) (start len all track : ℕ) → track ≡ start + len → len < all → track_faults image g (run start len) ≡ [] → slots_on image g track ≡ None → volume_within image g (Ok (run start all)) ≡ Err (VtocTrack track)
unfolding track_faults
track_refused image g start len all track at low good none =
    let more : all ≡ len + suc (all - len - 1) = omega arith in
    let rest : List ℕ = range_with_len (start + len + 1) (all - len - 1) in
    within_track image g (run start all) (VtocTrack track)
    (ap (λ (n : ℕ). slice_get (filter_map (track_fault image g) (range_with_len start n)) 0) more
    ∙ ap (λ (l : List ℕ). slice_get (filter_map (track_fault image g) l) 0) (range_append start len (suc (all - len - 1)))
    ∙ ap (λ l. slice_get l 0) (filter_map-append (track_fault image g) (range_with_len start len) ((start + len) ∷ rest))
    ∙ ap (λ l. slice_get (l ++ filter_map (track_fault image g) ((start + len) ∷ rest)) 0) good
    ∙ ap (λ (t : ℕ). slice_get (filter_map (track_fault image g) (t ∷ rest)) 0) (sym at)
    ∙ ap (λ o. slice_get (cons_option o (filter_map (track_fault image g) rest)) 0) (fault_is image g track none))

-- the first track does
pub first_refused : (image : List ℕ) (g : Geometry) (at : Address) (vtoc : Run) → vtoc_on image g at ≡ Ok vtoc → IsExtent g at vtoc → slots_on image g vtoc.start ≡ None → volume_within image g (vtoc_on image g at) ≡ Err (VtocTrack vtoc.start)
unfolding track_faults
first_refused image g at vtoc is extent none =
    let begin : vtoc.start ≡ vtoc.start + 0 = omega arith in
    let low : 0 < vtoc.len = omega (arith, extent.some) in
    ap (volume_within image g) is ∙ track_refused image g vtoc.start 0 vtoc.len vtoc.start begin low refl none

pub first_broken : (image : List ℕ) (g : Geometry) (at : Address) (vtoc : Run) (track : ℕ) → vtoc_on image g at ≡ Ok vtoc → IsExtent g at vtoc → track ≡ track_of_address g at → records_on image g None (track_of_address g at) ≡ None → volume_within image g (vtoc_on image g at) ≡ Err (VtocTrack track)
first_broken image g at vtoc track is extent same none =
    first_refused image g at vtoc is extent (slots_none image g vtoc.start (ap (λ (t : ℕ). records_on image g None t) extent.begins ∙ none))
    ∙ ap (λ (t : ℕ). Err (VtocTrack t)) (extent.begins ∙ sym same)

-- numbers of first slots
AreFirsts-more : (number end more : ℕ) (firsts : List ℕ) → AreFirsts number firsts end → more ≤ 255 → AreFirsts number (firsts ++ end ∷ []) (end + more)
AreFirsts-more number end more [] is few = (sym is, (more, few, ap (λ (n : ℕ). n + more) is))
AreFirsts-more number end more (first ∷ firsts) is few = (is.0, (is.1.0, is.1.1, AreFirsts-more (number + is.1.0) end more firsts is.1.2 few))

pub numbered_none : (found : ReadSlots) → found.slots.items ≡ [] → found.firsts.items ≡ [] → AreNumbered 0 found
numbered_none found no_slots no_firsts = record {
  tracks = ap length no_firsts;
  firsts = subst (λ (l : List ℕ). AreFirsts 0 l (length found.slots.items)) (sym no_firsts) (sym (ap length no_slots));
  few = omega (arith, ap length no_slots);
}

pub numbered_more : (g : Geometry) (track len more : ℕ) (records : List Record) (old new : ReadSlots) → AreNumbered len old → new.firsts.items ≡ old.firsts.items ++ length old.slots.items ∷ [] → more ≤ 255 → length new.slots.items ≡ length old.slots.items + more → Adds g track records old.slots.items new.slots.items → AreNumbered (len + 1) new
numbered_more g track len more records old new before firsts few added adds = record {
  tracks = ap length firsts ∙ length-append old.firsts.items (length old.slots.items ∷ []) ∙ ap (λ (n : ℕ). n + 1) before.tracks;
  firsts =
      subst (λ (l : List ℕ). AreFirsts 0 l (length new.slots.items)) (sym firsts)
      (subst (λ (n : ℕ). AreFirsts 0 (old.firsts.items ++ length old.slots.items ∷ []) n) (sym added) (AreFirsts-more 0 (length old.slots.items) more old.firsts.items before.firsts few));
  few = omega (arith, before.few, added);
}
