-- What a repair wrote is settled.
use Rattle.std.proofs.Common.{◌≡◌, ◌+◌, ◌≤◌, ℕ, List, [], ◌∷◌, length, Some, refl, sym, ap, subst, ◌∙◌, arith}
use Rattle.std.specs.Prelude.{bit_and, slice_get}
use Rattle.std.proofs.Math.ListN.{set}
use Rattle.dscb_codec.specs.declared.Dscb.{Dscb}
use Rattle.dscb_codec.specs.declared.Dscb.TheVariants as formats
use Rattle.dscb_codec.specs.declared.F4.{F4}
use Rattle.ckd_image.specs.declared.header.Geometry.{Geometry}
use Rattle.vol_model.specs.declared.contents.Volume.{Volume}
use Rattle.vol_model.specs.Space.{free_runs}
use Rattle.pack_spec.specs.declared.slot.VtocSlot.{VtocSlot}
use Rattle.pack_spec.specs.FreeChain.{dscbs_for, entries_of, free_entries}
use Rattle.pack_spec.specs.Label.{heads_of}
use Rattle.pack_spec.specs.Settled.{AreSettled, highest_of}
use Rattle.pack_spec.specs.Volume.{volume_with}
use Rattle.vtoc_index.specs.declared.vol.Vol.{Vol}
use Rattle.vtoc_index.specs.Index.{IsIndexOf, IsMounted, address_in}
use Rattle.free_rebuild.specs.Chain.{chained}
use Rattle.free_rebuild.specs.Clearing.{AreCleared, free_in, highest_among, with_counts}
use Rattle.free_rebuild.proofs.AddressLemmas.{held_slots}
use Rattle.free_rebuild.proofs.ChainLemmas.{AreHeld, chained_front}
use Rattle.free_rebuild.proofs.HighestLemmas.{highest_held}
use Rattle.free_rebuild.proofs.MarkLemmas.{marked_off}
use Rattle.free_rebuild.proofs.RoomThere.{front_stays, room_there}
use Rattle.free_rebuild.proofs.SettledLemmas.{IsRebuilt, rebuilt_settled}
use Rattle.free_rebuild.proofs.StandLemmas.{HasFront, StandsFor, has_front, slots_by}
use Rattle.free_rebuild.proofs.WriteLemmas.{entries_many}

-- the index of an image that stands for a volume has its geometry, its VTOC, and its free runs
pub stands_parts : (volume : Volume) (image : List ℕ) (v : Vol) → StandsFor volume image v → (v.geometry ≡ volume.geometry) × (v.vtoc ≡ volume.vtoc)
unfolding volume_with
stands_parts volume image v stands = (ap (λ (x : Volume). x.geometry) stands.same, ap (λ (x : Volume). x.vtoc) stands.same)

pub stands_entries : (volume : Volume) (image : List ℕ) (v : Vol) → StandsFor volume image v → free_entries volume ≡ entries_of (heads_of v.geometry) v.free.items
stands_entries volume image v stands =
    let parts = stands_parts volume image v stands in
    let free : free_runs volume ≡ v.free.items = sym (stands.mounted.free ∙ ap free_runs stands.same) in
    ap (λ (g : Geometry). entries_of (heads_of g) (free_runs volume)) (sym parts.0) ∙ ap (entries_of (heads_of v.geometry)) free

-- format 4 may be put over: the last format 1 stays
highest_set : (at : ℕ → List ℕ) (ds : List Dscb) (f h : F4) → slice_get ds 0 ≡ Some (formats.F4 f) → highest_among at (set ds 0 (formats.F4 h)) ≡ highest_among at ds
highest_set at [] f h is = refl
highest_set at (x ∷ ds) f h is =
    let same : x ≡ formats.F4 f = cc in
    sym (ap (λ (y : Dscb). highest_among at (y ∷ ds)) same)

-- What a repair wrote, from a marked image on: its slots without the unused, those with the chain, and format 4 at last.
pub record IsRepaired (v : Vol) (cleared mid final : List Dscb) (last : Dscb) : Type 0 where
  pub clears : AreCleared (address_in v) (length v.slots.items) v.slots.items cleared
  pub chain : mid ≡ chained (address_in v) cleared 1 (entries_of (heads_of v.geometry) v.free.items)
  pub item : Dscb
  pub first : slice_get mid 0 ≡ Some item
  pub head : last ≡ with_counts (free_in mid) (highest_among (address_in v) mid) item
  pub whole : final ≡ set mid 0 last

-- format 4 stands in slot 0 still when the chain is written
pub four_stays : (image : List ℕ) (v : Vol) (cleared mid : List Dscb) → IsMounted image v → v.vtoc.start + v.vtoc.len ≤ 65536 → AreCleared (address_in v) (length v.slots.items) v.slots.items cleared → mid ≡ chained (address_in v) cleared 1 (entries_of (heads_of v.geometry) v.free.items) → (front : HasFront v.slots.items) → slice_get mid 0 ≡ Some (formats.F4 front.head)
four_stays image v cleared mid mounted low clears chain front =
    let at : ℕ → List ℕ = address_in v in
    let ess : List (List (List ℕ)) = entries_of (heads_of v.geometry) v.free.items in
    let first = front_stays at v.slots.items cleared clears 0 (formats.F4 front.head) (omega arith) front.four in
    let second = front_stays at v.slots.items cleared clears 1 front.one (omega arith) front.second in
    ap (λ (l : List Dscb). slice_get l 0) chain ∙ chained_front at cleared 1 0 ess (room_there image v cleared mounted low clears) front.one second front.opened (omega arith) ∙ first

-- the head that is put at last
pub last_head : (image : List ℕ) (v : Vol) (cleared mid final : List Dscb) (last : Dscb) → IsMounted image v → v.vtoc.start + v.vtoc.len ≤ 65536 → (is : IsRepaired v cleared mid final last) → (front : HasFront v.slots.items) → last ≡ with_counts (free_in mid) (highest_among (address_in v) mid) (formats.F4 front.head)
last_head image v cleared mid final last mounted low is front =
    let there = four_stays image v cleared mid mounted low is.clears is.chain front in
    let both : Some is.item ≡ Some (formats.F4 front.head) = sym is.first ∙ there in
    let same : is.item ≡ formats.F4 front.head = cc in
    is.head ∙ ap (with_counts (free_in mid) (highest_among (address_in v) mid)) same

pub repaired_settled : (volume : Volume) (image put : List ℕ) (v w : Vol) (cleared mid : List Dscb) (last : Dscb) → StandsFor volume image v → v.vtoc.start + v.vtoc.len ≤ 65536 → IsRepaired v cleared mid w.slots.items last → IsIndexOf put w → w ≡ record v { slots = w.slots; buf = w.buf } → AreSettled (slots_by put w) volume
repaired_settled volume image put v w cleared mid last stands low is index others =
    let at : ℕ → List ℕ = address_in v in
    let ess : List (List (List ℕ)) = entries_of (heads_of v.geometry) v.free.items in
    let front = has_front image v stands.mounted in
    let h : F4 = front.head in
    let head : F4 = record h { highest = highest_among at mid; free = free_in mid; indicators = bit_and h.indicators 0x7B } in
    let four : last ≡ formats.F4 head = last_head image v cleared mid w.slots.items last stands.mounted low is front in
    let there = four_stays image v cleared mid stands.mounted low is.clears is.chain front in
    let final : w.slots.items ≡ set mid 0 (formats.F4 head) = is.whole ∙ ap (set mid 0) four in
    let many : length ess ≡ dscbs_for (length v.free.items) = entries_many (heads_of v.geometry) v.free.items in
    let rebuilt : IsRebuilt at v.slots.items cleared w.slots.items ess head = record {
      first = h;
      four = front.four;
      one = front.one;
      second = front.second;
      open_one = front.opened;
      clears = is.clears;
      some = omega (arith, many);
      room = room_there image v cleared stands.mounted low is.clears;
      last = final ∙ ap (λ (l : List Dscb). set l 0 (formats.F4 head)) is.chain;
      bits = marked_off h (free_in mid) (highest_among at mid);
      free = ap free_in is.chain;
    } in
    let slots : List VtocSlot = slots_by put w in
    let held : AreHeld at slots w.slots.items = subst (λ (a : ℕ → List ℕ). AreHeld a slots w.slots.items) (ap (λ (x : Vol). address_in x) others) (held_slots put w index) in
    let highest : highest_among at mid ≡ highest_of slots = sym (highest_set at mid h head there) ∙ ap (highest_among at) (sym final) ∙ highest_held at slots w.slots.items held in
    rebuilt_settled at v.slots.items cleared w.slots.items ess head rebuilt slots held volume (stands_entries volume image v stands) highest
