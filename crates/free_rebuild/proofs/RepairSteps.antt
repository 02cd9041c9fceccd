-- The steps of a repair, one after the other.
use Rattle.std.proofs.Common.{◌≡◌, ◌⊎◌, ◌+◌, ◌≤◌, ◌<◌, ℕ, zero, suc, true, List, [], ◌∷◌, length, Option, Some, Result, Ok, Err, refl, sym, ap, subst, ◌∙◌, inl, inr, ⊎_elim, arith, option_and_then}
use Rattle.std.specs.Prelude.{bit_and, bit_or, slice_get, slice_index_or, slice_set, unwrap_or, IsErr, OnOk}
use Rattle.std.specs.Option.{option_map}
use Rattle.std.proofs.Math.ListN.{set}
use Rattle.std.proofs.lemmas.List.{length-set}
use Rattle.std.proofs.lemmas.Result.{IfOk-from_err, on_ok_weaker}
use Rattle.ckd_image.specs.declared.header.Geometry.{Geometry}
use Rattle.dscb_codec.specs.declared.Dscb.{Dscb}
use Rattle.dscb_codec.specs.declared.Dscb.TheVariants as formats
use Rattle.dscb_codec.specs.declared.F4.{F4}
use Rattle.dscb_codec.specs.Layout.{decoded}
use Rattle.hall_core.specs.Facts.{Attached, unit_of}
use Rattle.hall_core.specs.Images.{AreWhole}
use Rattle.stop_model.specs.Files.{File, file_of, patched}
use Rattle.stop_model.specs.Moments.{Meaning, IsDurable, Elapses}
use Rattle.stop_model.specs.Steps.{StepTo}
use Rattle.stop_model.proofs.MomentLemmas.{elapses_none, elapses_then, elapses_weaker}
use Rattle.vol_model.specs.declared.contents.Run.{Run}
use Rattle.vol_model.specs.declared.contents.Volume.{Volume}
use Rattle.pack_spec.specs.declared.slot.VtocSlot.{VtocSlot}
use Rattle.pack_spec.specs.FreeChain.{entries_of}
use Rattle.pack_spec.specs.Label.{heads_of}
use Rattle.pack_spec.specs.Settled.{AreSettled, IsMarked, IsSettledVtoc, head_in, head_of, is_marked, slots_for}
use Rattle.pack_spec.specs.Slots.{slots_of_vtoc}
use Rattle.pack_spec.specs.Volume.{volume_of}
use Rattle.vtoc_index.specs.declared.vol.Vol.{Vol}
use Rattle.vtoc_index.specs.Index.{IsIndexOf, IsMounted, IsOfUnit, IsPut, address_in, place_of_slot}
use Rattle.free_rebuild.specs.Chain.{IsOpenAt, chained}
use Rattle.vtoc_index.specs.Bits.{with_bit}
use Rattle.free_rebuild.specs.Clearing.{AreCleared, free_in, highest_among, with_counts}
use Rattle.free_rebuild.specs.Durable.{HaveSlot, IsRewritten, LeavesAll, PutsDurably, StaysAlike}
use Rattle.free_rebuild.specs.Repairs.{IsSafe, Repairs, image_named}
use Rattle.free_rebuild.specs.Stops.{AreAlikeTo, HoldsSlots}
use Rattle.free_rebuild.specs.Updates.{Concludes, IsGuardedFor, IsMarkedFor, Marks}
use Rattle.free_rebuild.proofs.AddressLemmas.{held_slots}
use Rattle.free_rebuild.proofs.ChainLemmas.{chained_length, get_low, get_set, get_set_other}
use Rattle.free_rebuild.proofs.MarkLemmas.{marked_on}
use Rattle.free_rebuild.proofs.PutLemmas.{put_anywhere}
use Rattle.free_rebuild.proofs.RoomThere.{front_stays}
use Rattle.free_rebuild.proofs.RunCounts.{low_tracks}
use Rattle.free_rebuild.proofs.SeenLemmas.{Seen, guarded_of, marked_of, safe_guarded, safe_of, seen_alike, seen_first}
use Rattle.free_rebuild.proofs.SettledRepair.{IsRepaired, four_stays, repaired_settled, stands_parts}
use Rattle.free_rebuild.proofs.StandLemmas.{HasFront, PutsFour, alike_itself, four_alike, has_front, slots_by, volume_on}
use Rattle.free_rebuild.proofs.WriteLemmas.{image_there}

-- What stops left since a moment has S, and nothing was printed.
pub record Since (S : List File → Type 0) (old now : Meaning (List File)) : Type 0 where
  pub time : Elapses old now (λ files p. S files × (p ≡ old.printed))
  pub printed : now.printed ≡ old.printed

pub since_none : (S : List File → Type 0) (old : Meaning (List File)) → Since S old old
since_none S old = record { time = elapses_none old _; printed = refl }

pub since_all : {T E : Type 0} {S Q : List File → Type 0} {old mid new : Meaning (List File)} {result : Result T E} → Since S old mid → LeavesAll Q mid new result → ((files : List File) → Q files → S files) → Since S old new
since_all since leaves weaker = record {
  time = elapses_then since.time (elapses_weaker leaves.moments (λ files p left. (weaker files left.0, left.1 ∙ since.printed)));
  printed = leaves.printed ∙ since.printed;
}

pub since_step : {T E : Type 0} {S : List File → Type 0} {old mid new : Meaning (List File)} {after : List File} {result : Result T E} → Since S old mid → StepTo (λ files. files) after mid new result → S mid.state → S after → Since S old new
since_step {S = S} since step before here = record {
  time = elapses_then since.time (elapses_weaker step.moments (λ files p left. (⊎_elim (λ is. subst S (sym is) before) (λ is. subst S (sym is) here) left.0, left.1 ∙ since.printed)));
  printed = step.printed ∙ since.printed;
}

-- what stands at a place of a list
index_is : {X : Type 0} (xs : List X) (k : ℕ) (x d : X) → slice_get xs k ≡ Some x → slice_index_or xs k d ≡ x
index_is [] k x d is = cc
index_is (y ∷ xs) zero x d is = cc
index_is (y ∷ xs) (suc k) x d is = index_is xs k x d is

-- what a call that is done gives by three facts
all_done : {T E A B C P : Type 0} (result : Result T E) → OnOk result A → OnOk result B → OnOk result C → (A → B → C → P) → OnOk result P
all_done (Ok x) a b c give = give a b c
all_done (Err e) a b c give = tt

-- the format 4 of an index is that of its image
head_is : (image : List ℕ) (w : Vol) (f : F4) → IsIndexOf image w → slice_get w.slots.items 0 ≡ Some (formats.F4 f) → head_of (slots_by image w) ≡ Some f
head_is image w f index there =
    let slot : slice_get (slots_by image w) 0 ≡ Some (record { address = address_in w 0; content = Ok (formats.F4 f) }) = held_slots image w index 0 ∙ ap (option_map (λ (d : Dscb). record { address = address_in w 0; content = Ok d })) there in
    ap (option_and_then (λ (s : VtocSlot). head_in s.content)) slot

-- Files in which format 4 of an index is put over, by an index of theirs.
pub record Put (name : List ℕ) (v : Vol) (volume : Volume) (start after : List File) (w w' : Vol) (new : F4) : Type 0 where
  pub seen : Seen name v volume start after w'
  pub items : w'.slots.items ≡ set w.slots.items 0 (formats.F4 new)
  pub head : head_of (slots_by (image_named after name) w') ≡ Some new
  pub others : w' ≡ record w { slots = w'.slots; buf = w'.buf }

module _ (name : List ℕ) (v : Vol) (volume : Volume) (start files after : List File) (w : Vol) (d : Dscb) (bytes : List ℕ) (low : v.vtoc.start + v.vtoc.len ≤ 65536) (seen : Seen name v volume start files w) (slot : HaveSlot name w 0 d bytes files after) (dscb : decoded bytes ≡ Ok d) (size : length bytes ≡ 140) (front : HasFront w.slots.items) (new : F4) (is : d ≡ formats.F4 new) (extent : new.vtoc ≡ front.head.vtoc) where
  abbrev image : List ℕ
  image = image_named files name

  abbrev put : List ℕ
  put = patched image (place_of_slot w 0) bytes

  four : PutsFour image put w
  four = record {
    old = front.head;
    new = new;
    there = front.four;
    extent = extent;
    bytes = bytes;
    dscb = dscb ∙ ap (λ (x : Dscb). Ok x) is;
    size = size;
    written = refl;
    is = subst (λ (x : Dscb). IsPut w 0 x image put) is slot.image;
  }

  pub put_by : (w' : Vol) → IsIndexOf put w' → w' ≡ record w { slots = w'.slots; buf = w'.buf } → w'.slots.items ≡ slice_set w.slots.items 0 d → Put name v volume start after w w' new
  put_by w' index others items =
      let low_first : 0 < length w.slots.items = get_low w.slots.items 0 (formats.F4 front.head) front.four in
      let same : image_named after name ≡ put = ap (λ (o : Option (List ℕ)). unwrap_or o []) slot.there in
      let all : w'.slots.items ≡ set w.slots.items 0 (formats.F4 new) = items ∙ ap (set w.slots.items 0) is in
      let first : slice_get w'.slots.items 0 ≡ Some (formats.F4 new) = ap (λ (l : List Dscb). slice_get l 0) all ∙ get_set w.slots.items 0 (formats.F4 new) low_first in
      record {
        seen = seen_alike name v volume start files after w w' put low seen slot.there (four_alike image put w seen.stands.mounted four) index others slot.others;
        items = all;
        head = ap (λ (i : List ℕ). head_of (slots_by i w')) same ∙ head_is put w' new index first;
        others = others;
      }

  pub put_some : (w' : Vol) × Put name v volume start after w w' new
  put_some =
      let low_first : 0 < length w.slots.items = get_low w.slots.items 0 (formats.F4 front.head) front.four in
      let holds : HoldsSlots image w w.slots.items = record { index = w; others = refl; items = refl; is = seen.stands.mounted.index } in
      let both = put_anywhere image w w.slots.items 0 d bytes holds low_first dscb size in
      (both.0.index, put_by both.0.index both.0.is both.0.others both.0.items)

-- A stage of a repair after which the bit of an interrupted update is on.
pub record Marked (name : List ℕ) (v : Vol) (volume : Volume) (old now : Meaning (List File)) (w : Vol) : Type 0 where
  pub since : Since (IsSafe name volume old.state) old now
  pub durable : IsDurable now
  pub seen : Seen name v volume old.state now.state w
  pub head : F4
  pub first : head_of (slots_by (image_named now.state name) w) ≡ Some head
  pub on : is_marked head ≡ true

-- An update begins: the image of an index is there, and no write is pending.
pub record Entered (name : List ℕ) (v : Vol) (old : Meaning (List File)) : Type 0 where
  pub low : v.vtoc.start + v.vtoc.len ≤ 65536
  pub there : file_of old.state name ≡ Some (image_named old.state name)
  pub mounted : IsMounted (image_named old.state name) v
  pub durable : IsDurable old

pub entered : (units : List Attached) (v : Vol) (old : Meaning (List File)) → AreWhole old.state units → IsOfUnit units v → IsMounted (image_named old.state (unit_of units v.unit).name) v → IsDurable old → Entered (unit_of units v.unit).name v old
entered units v old whole of mounted durable = record { low = low_tracks units v of; there = image_there old.state units v.unit whole of.attached; mounted = mounted; durable = durable }

module _ (name : List ℕ) (v : Vol) (old : Meaning (List File)) (start : Entered name v old) where
  abbrev whole : Volume
  whole = volume_on (image_named old.state name) v

  abbrev Safe : List File → Type 0
  Safe files = IsSafe name whole old.state files

  abbrev Guarded : List File → Type 0
  Guarded files = IsGuardedFor name whole old.state files

  first : Seen name v whole old.state old.state v
  first = seen_first name v old.state start.there start.mounted

  safe_first : Safe old.state
  safe_first = safe_of name v whole old.state old.state v first (inr refl)

  -- a repair that ended early
  pub repairs_not : {T E : Type 0} {new : Meaning (List File)} (v' : Vol) (answer : Result T E) → IsErr answer → Since Safe old new → Repairs name v' old new answer
  repairs_not v' answer failed since = record {
    volume = whole;
    before = start.mounted.volume;
    safe = IfOk-from_err answer _ failed;
    settled = IfOk-from_err answer _ failed;
    index = IfOk-from_err answer _ failed;
    durable = IfOk-from_err answer _ failed;
    printed = since.printed;
    moments = since.time;
  }

  -- an end of an update that ended early
  pub concludes_not : {T E : Type 0} {new : Meaning (List File)} (v' : Vol) (answer : Result T E) → IsErr answer → Since Guarded old new → Concludes name v' old new answer
  concludes_not v' answer failed since = record {
    volume = whole;
    before = start.mounted.volume;
    safe = IfOk-from_err answer _ failed;
    settled = IfOk-from_err answer _ failed;
    index = IfOk-from_err answer _ failed;
    durable = IfOk-from_err answer _ failed;
    printed = since.printed;
    moments = since.time;
  }

  -- an image of which a bit is on at the entry
  pub marked_first : IsMarked (slots_by (image_named old.state name) v) → Marked name v whole old old v
  marked_first marked = record {
    since = since_none Safe old;
    durable = start.durable;
    seen = seen_first name v old.state start.there start.mounted;
    head = marked.0;
    first = marked.1;
    on = marked.2;
  }

  pub guarded_none : Since Guarded old old
  guarded_none = since_none Guarded old

  -- the bit goes on
  module _ {T E : Type 0} (v1 : Vol) (m1 : Meaning (List File)) (result : Result T E) (puts : PutsDurably name v 0 (with_bit true (slice_index_or v.slots.items 0 formats.F0)) v1 old m1 result) where
    front : HasFront v.slots.items
    front = has_front (image_named old.state name) v start.mounted

    abbrev on : F4
    on = record front.head { indicators = bit_or front.head.indicators 0x04 }

    is_on : with_bit true (slice_index_or v.slots.items 0 formats.F0) ≡ formats.F4 on
    is_on = ap (with_bit true) (index_is v.slots.items 0 (formats.F4 front.head) formats.F0 front.four)

    safe_on : Safe puts.after
    safe_on =
        let some = put_some name v whole old.state old.state puts.after v _ puts.bytes start.low first puts.put puts.dscb puts.size front on is_on refl in
        safe_of name v whole old.state puts.after some.0 some.1.seen (inl (inl (on, some.1.head, marked_on front.head)))

    pub mark_since : Since Safe old m1
    mark_since = since_step (since_none Safe old) puts.step safe_first safe_on

    pub mark_done : IsIndexOf (image_named m1.state name) v1 → v1 ≡ record v { slots = v1.slots; buf = v1.buf } → v1.slots.items ≡ slice_set v.slots.items 0 (with_bit true (slice_index_or v.slots.items 0 formats.F0)) → (m1.state ≡ puts.after) × IsDurable m1 → Marked name v whole old m1 v1
    mark_done index others items done =
        let same : image_named m1.state name ≡ patched (image_named old.state name) (place_of_slot v 0) puts.bytes = ap (λ (files : List File). image_named files name) done.0 ∙ ap (λ (o : Option (List ℕ)). unwrap_or o []) puts.put.there in
        let p = put_by name v whole old.state old.state puts.after v _ puts.bytes start.low first puts.put puts.dscb puts.size front on is_on refl v1 (subst (λ (i : List ℕ). IsIndexOf i v1) same index) others items in
        record {
          since = mark_since;
          durable = done.1;
          seen = subst (λ (files : List File). Seen name v whole old.state files v1) (sym done.0) p.seen;
          head = on;
          first = ap (λ (files : List File). head_of (slots_by (image_named files name) v1)) done.0 ∙ p.head;
          on = marked_on front.head;
        }

    marked_after : IsMarkedFor name whole old.state puts.after
    marked_after =
        let some = put_some name v whole old.state old.state puts.after v _ puts.bytes start.low first puts.put puts.dscb puts.size front on is_on refl in
        marked_of name v whole old.state puts.after some.0 some.1.seen (on, some.1.head, marked_on front.head)

    abbrev Begun : List File → Type 0
    Begun files = (files ≡ old.state) ⊎ IsMarkedFor name whole old.state files

    begun : Since Begun old m1
    begun = since_step (since_none Begun old) puts.step (inl refl) (inr marked_after)

    pub marks : OnOk result (v1.slots.items ≡ slice_set v.slots.items 0 (with_bit true (slice_index_or v.slots.items 0 formats.F0))) → v1 ≡ record v { slots = v1.slots; buf = v1.buf } → Marks name v1 old m1 result
    marks items others = record {
      volume = whole;
      before = start.mounted.volume;
      marked = on_ok_weaker result (λ done. subst (IsMarkedFor name whole old.state) (sym done.0) marked_after) puts.step.done;
      index = all_done result puts.step.done puts.index items (λ done index1 items1. (mark_done index1 others items1 done).seen.stands.mounted);
      durable = on_ok_weaker result (λ done. done.1) puts.step.done;
      printed = begun.printed;
      moments = begun.time;
    }

  -- while it is on, slots without a part may be put
  module _ (m1 : Meaning (List File)) (v1 : Vol) (on : Marked name v whole old m1 v1) where
    abbrev base : List ℕ
    base = image_named m1.state name

    low_on : v1.vtoc.start + v1.vtoc.len ≤ 65536
    low_on = subst (λ (r : Run). r.start + r.len ≤ 65536) (sym (ap (λ (x : Vol). x.vtoc) on.seen.others)) start.low

    pub alike_first : AreAlikeTo name v1 base m1.state m1.state
    alike_first = record {
      bytes = base;
      there = on.seen.there;
      dscbs = v1.slots.items;
      holds = record { index = v1; others = refl; items = refl; is = on.seen.stands.mounted.index };
      alike = alike_itself base v1 on.seen.stands.mounted.index;
      head = refl;
      others = λ other apart. refl;
    }

    pub guarded_alike : (files : List File) → AreAlikeTo name v1 base m1.state files → Guarded files
    guarded_alike files all =
        let seen = seen_alike name v whole old.state m1.state files v1 all.holds.index all.bytes start.low on.seen all.there all.alike all.holds.is all.holds.others all.others in
        let same : image_named files name ≡ all.bytes = ap (λ (o : Option (List ℕ)). unwrap_or o []) all.there in
        let head : head_of (slots_by (image_named files name) all.holds.index) ≡ Some on.head =
        ap (λ (i : List ℕ). head_of (slots_by i all.holds.index)) same
        ∙ ap (λ (x : Vol). head_of (slots_by all.bytes x)) all.holds.others
        ∙ all.head
        ∙ on.first in
        guarded_of name v whole old.state files all.holds.index seen (inl (on.head, head, on.on))

    pub safe_alike : (files : List File) → AreAlikeTo name v1 base m1.state files → Safe files
    safe_alike files all = safe_guarded name whole old.state files (guarded_alike files all)

    pub alike_since : {T E : Type 0} {mid new : Meaning (List File)} {result : Result T E} → Since Safe old mid → LeavesAll (AreAlikeTo name v1 base m1.state) mid new result → Since Safe old new
    alike_since since leaves = since_all since leaves safe_alike

    pub guarded_since : {T E : Type 0} {mid new : Meaning (List File)} {result : Result T E} → Since Guarded old mid → LeavesAll (AreAlikeTo name v1 base m1.state) mid new result → Since Guarded old new
    guarded_since since leaves = since_all since leaves guarded_alike

    pub clear_leaves : {T E : Type 0} {m2 : Meaning (List File)} {result : Result T E} → StaysAlike name v1 m1 m2 result → LeavesAll (AreAlikeTo name v1 base m1.state) m1 m2 result
    clear_leaves stays = stays v1 base m1.state refl on.seen.stands.mounted.vtoc alike_first

    pub write_leaves : {T E : Type 0} {m2 m3 : Meaning (List File)} {result : Result T E} (v2 : Vol) → v2 ≡ record v1 { slots = v2.slots; buf = v2.buf } → AreAlikeTo name v1 base m1.state m2.state → StaysAlike name v2 m2 m3 result → LeavesAll (AreAlikeTo name v1 base m1.state) m2 m3 result
    write_leaves v2 others alike stays = stays v1 base m1.state others on.seen.stands.mounted.vtoc alike

    -- both go off
    module _ (v3 : Vol) (m3 : Meaning (List File)) (all : AreAlikeTo name v1 base m1.state m3.state) (index : IsIndexOf (image_named m3.state name) v3) (others3 : v3 ≡ record v1 { slots = v3.slots; buf = v3.buf }) (written : IsRewritten v1 v3.slots.items) where
      seen3 : Seen name v whole old.state m3.state v3
      seen3 =
          let same : image_named m3.state name ≡ all.bytes = ap (λ (o : Option (List ℕ)). unwrap_or o []) all.there in
          seen_alike name v whole old.state m1.state m3.state v1 v3 all.bytes start.low on.seen all.there all.alike (subst (λ (i : List ℕ). IsIndexOf i v3) same index) others3 all.others

      front1 : HasFront v1.slots.items
      front1 = has_front base v1 on.seen.stands.mounted

      item3 : slice_get v3.slots.items 0 ≡ Some (formats.F4 front1.head)
      item3 = four_stays base v1 written.cleared v3.slots.items on.seen.stands.mounted low_on written.clears written.chain front1

      front3 : HasFront v3.slots.items
      front3 = has_front (image_named m3.state name) v3 seen3.stands.mounted

      abbrev last : Dscb
      last = with_counts (free_in v3.slots.items) (highest_among (address_in v3) v3.slots.items) (slice_index_or v3.slots.items 0 formats.F0)

      abbrev off : F4
      off = record front3.head { highest = highest_among (address_in v3) v3.slots.items; free = free_in v3.slots.items; indicators = bit_and front3.head.indicators 0x7B }

      is_off : last ≡ formats.F4 off
      is_off = ap (with_counts (free_in v3.slots.items) (highest_among (address_in v3) v3.slots.items)) (index_is v3.slots.items 0 (formats.F4 front3.head) formats.F0 front3.four)

      settled_by : (after : List File) (w : Vol) → Put name v whole old.state after v3 w off → AreSettled (slots_by (image_named after name) w) whole
      settled_by after w p =
          let repaired : IsRepaired v1 written.cleared v3.slots.items w.slots.items last = record {
            clears = written.clears;
            chain = written.chain;
            item = formats.F4 front1.head;
            first = item3;
            head = ap (λ (x : Vol). with_counts (free_in v3.slots.items) (highest_among (address_in x) v3.slots.items) (slice_index_or v3.slots.items 0 formats.F0)) others3 ∙ ap (with_counts (free_in v3.slots.items) (highest_among (address_in v1) v3.slots.items)) (index_is v3.slots.items 0 (formats.F4 front1.head) formats.F0 item3);
            whole = p.items ∙ ap (set v3.slots.items 0) (sym is_off);
          } in
          repaired_settled whole base (image_named after name) v1 w written.cleared v3.slots.items last on.seen.stands low_on repaired p.seen.stands.mounted.index (p.others ∙ ap (λ (x : Vol). record x { slots = w.slots; buf = w.buf }) others3)

      module _ {T E : Type 0} (v4 : Vol) (m4 : Meaning (List File)) (result : Result T E) (puts : PutsDurably name v3 0 last v4 m3 m4 result) where
        guarded_off : Guarded puts.after
        guarded_off =
            let some = put_some name v whole old.state m3.state puts.after v3 last puts.bytes start.low seen3 puts.put puts.dscb puts.size front3 off is_off refl in
            let settled = settled_by puts.after some.0 some.1 in
            guarded_of name v whole old.state puts.after some.0 some.1.seen (inr settled.chain)

        safe_off : Safe puts.after
        safe_off = safe_guarded name whole old.state puts.after guarded_off

        done_by : IsIndexOf (image_named m4.state name) v4 → v4 ≡ record v3 { slots = v4.slots; buf = v4.buf } → v4.slots.items ≡ slice_set v3.slots.items 0 last → m4.state ≡ puts.after → IsSettledVtoc (image_named m4.state name) × IsMounted (image_named m4.state name) v4
        done_by index4 others4 items4 done =
            let same : image_named m4.state name ≡ patched (image_named m3.state name) (place_of_slot v3 0) puts.bytes = ap (λ (files : List File). image_named files name) done ∙ ap (λ (o : Option (List ℕ)). unwrap_or o []) puts.put.there in
            let p = put_by name v whole old.state m3.state puts.after v3 last puts.bytes start.low seen3 puts.put puts.dscb puts.size front3 off is_off refl v4 (subst (λ (i : List ℕ). IsIndexOf i v4) same index4) others4 items4 in
            let image4 : List ℕ = image_named puts.after name in
            let stands : volume_of image4 ≡ Ok whole = p.seen.stands.mounted.volume ∙ ap (λ (x : Volume). Ok x) p.seen.stands.same in
            let parts = stands_parts whole image4 v4 p.seen.stands in
            let slots : slots_by image4 v4 ≡ slots_for image4 whole = ap (λ (g : Geometry). slots_of_vtoc image4 g v4.vtoc) parts.0 ∙ ap (slots_of_vtoc image4 whole.geometry) parts.1 in
            let settled : IsSettledVtoc image4 = (whole, stands, subst (λ (ss : List VtocSlot). AreSettled ss whole) slots (settled_by puts.after v4 p)) in
            (subst (λ (files : List File). IsSettledVtoc (image_named files name)) (sym done) settled, subst (λ (files : List File). IsMounted (image_named files name) v4) (sym done) p.seen.stands.mounted)

        ends : OnOk result (v4.slots.items ≡ slice_set v3.slots.items 0 last) → v4 ≡ record v3 { slots = v4.slots; buf = v4.buf } → OnOk result (IsSettledVtoc (image_named m4.state name) × IsMounted (image_named m4.state name) v4)
        ends items others4 = all_done result puts.step.done puts.index items (λ done index4 items4. done_by index4 others4 items4 done.0)

        pub repairs : Since Safe old m3 → OnOk result (v4.slots.items ≡ slice_set v3.slots.items 0 last) → v4 ≡ record v3 { slots = v4.slots; buf = v4.buf } → Repairs name v4 old m4 result
        repairs before3 items others4 =
            let since : Since Safe old m4 = since_step before3 puts.step (safe_alike m3.state all) safe_off in
            record {
              volume = whole;
              before = start.mounted.volume;
              safe = on_ok_weaker result (λ done. subst Safe (sym done.0) safe_off) puts.step.done;
              settled = on_ok_weaker result (λ is. is.0) (ends items others4);
              index = on_ok_weaker result (λ is. is.1) (ends items others4);
              durable = on_ok_weaker result (λ done. done.1) puts.step.done;
              printed = since.printed;
              moments = since.time;
            }

        pub concludes : Since Guarded old m3 → OnOk result (v4.slots.items ≡ slice_set v3.slots.items 0 last) → v4 ≡ record v3 { slots = v4.slots; buf = v4.buf } → Concludes name v4 old m4 result
        concludes before3 items others4 =
            let since : Since Guarded old m4 = since_step before3 puts.step (guarded_alike m3.state all) guarded_off in
            record {
              volume = whole;
              before = start.mounted.volume;
              safe = on_ok_weaker result (λ done. subst Guarded (sym done.0) guarded_off) puts.step.done;
              settled = on_ok_weaker result (λ is. is.0) (ends items others4);
              index = on_ok_weaker result (λ is. is.1) (ends items others4);
              durable = on_ok_weaker result (λ done. done.1) puts.step.done;
              printed = since.printed;
              moments = since.time;
            }

-- slot 1 is open still when the unused is cleared
pub open_cleared : (at : ℕ → List ℕ) (ds cleared : List Dscb) → IsOpenAt ds 1 → AreCleared at (length ds) ds cleared → IsOpenAt cleared 1
open_cleared at ds cleared opened clears = (opened.0, front_stays at ds cleared clears 1 opened.0 (omega arith) opened.1, opened.2)

-- and when the bit is put before
pub open_stays : (at : ℕ → List ℕ) (ds marked cleared : List Dscb) (d : Dscb) → IsOpenAt ds 1 → marked ≡ set ds 0 d → AreCleared at (length marked) marked cleared → IsOpenAt cleared 1
open_stays at ds marked cleared d opened is clears =
    let there : slice_get marked 1 ≡ Some opened.0 = ap (λ (l : List Dscb). slice_get l 1) is ∙ get_set_other ds 0 1 d (λ e. omega (arith, e)) ∙ opened.1 in
    open_cleared at marked cleared (opened.0, there, opened.2) clears

-- slot 1 is there, and open
pub open_there : (ds : List Dscb) → HasFront ds → IsOpenAt ds 1
open_there ds front = (front.one, front.second, front.opened)

-- no slot is lost
pub as_many : (at by : ℕ → List ℕ) (ds marked cleared mid : List Dscb) (d : Dscb) (ess : List (List (List ℕ))) → marked ≡ set ds 0 d → AreCleared at (length marked) marked cleared → mid ≡ chained by cleared 1 ess → length mid ≡ length ds
as_many at by ds marked cleared mid d ess is clears chain = ap length chain ∙ chained_length by cleared 1 ess ∙ clears.size ∙ ap length is ∙ length-set ds 0 d

-- the slots are cleared, and then the chain is written
pub rewritten : (v w : Vol) (mid : List Dscb) → w ≡ record v { slots = w.slots; buf = w.buf } → AreCleared (address_in v) (length v.slots.items) v.slots.items w.slots.items → mid ≡ chained (address_in w) w.slots.items 1 (entries_of (heads_of w.geometry) w.free.items) → IsRewritten v mid
rewritten v w mid others clears chain = record {
  cleared = w.slots.items;
  clears = clears;
  chain = chain ∙ ap (λ (x : Vol). chained (address_in x) w.slots.items 1 (entries_of (heads_of x.geometry) x.free.items)) others;
}

pub rewritten_length : (v : Vol) (mid : List Dscb) → IsRewritten v mid → length mid ≡ length v.slots.items
rewritten_length v mid is = ap length is.chain ∙ chained_length (address_in v) is.cleared 1 (entries_of (heads_of v.geometry) v.free.items) ∙ is.clears.size
