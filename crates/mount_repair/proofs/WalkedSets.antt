-- How far the walk over the data sets of a pack has come.
use Rattle.std.proofs.Common.{◌≡◌, ◌≢◌, ◌<◌, ◌≤◌, ◌+◌, ⊎_elim, inl, inr, ℕ, zero, suc, Bool, List, [], ◌∷◌, ◌++◌, get_or, length, map, Some, None, refl, sym, ap, subst, ◌∙◌, arith}
use Rattle.std.specs.Prelude.{◌⊎◌, IsTrue, slice_get, take}
use Rattle.std.proofs.lemmas.Bool.Decides.{leb_tells}
use Rattle.std.proofs.lemmas.Option.{slice_get-get_or}
use Rattle.dscb_codec.specs.declared.Dscb.TheVariants as formats
use Rattle.dscb_codec.specs.declared.F1.{F1}
use Rattle.ebcdic_names.specs.declared.names.Dsn.{Dsn}
use Rattle.free_rebuild.specs.Repairs.{image_named}
use Rattle.hall_core.specs.Facts.{Attached, Facts, ReportedCall, unit_of}
use Rattle.stop_model.specs.Files.{File}
use Rattle.stop_model.specs.Moments.{Meaning, Same}
use Rattle.stop_model.proofs.MomentLemmas.{CountsNow, same_none, same_then}
use Rattle.pds_directory.specs.Directories.{IsReadablePart}
use Rattle.stow_ops.specs.Packing.{IsPackingOf}
use Rattle.vol_model.specs.declared.answers.Kind.{Kind}
use Rattle.vol_model.specs.declared.contents.DataSet.{DataSet}
use Rattle.stow_ops.specs.declared.packings.Packing.{Packing}
use Rattle.track_records.specs.Buffers.{Buffer}
use Rattle.vtoc_index.specs.Index.{IsMounted, IsOfUnit}
use Rattle.vtoc_index.specs.Names.{AreByName, name_at}
use Rattle.vtoc_index.specs.declared.vol.Vol.{Vol}
use Rattle.vtoc_index.proofs.NameOrder.{name_there, not_before, place_named, rises, slice_some}
use Rattle.vtoc_sets.specs.Sets.{volume_in}
use Rattle.mount_repair.specs.Scans.{AreLibraries, AreUnpacked, CanBePacked, IsLibraryIn, IsListed}
use Rattle.mount_repair.specs.Sets.{IsPackedSet, name_and_kind, names_and_kinds, set_by}
use Rattle.mount_repair.specs.Walks.{IsWalkOf, NotesDir, NotesLibrary, WalksSet, is_noted, is_packed, keeps_none, keeps_one}
use Rattle.mount_repair.specs.declared.library.Library.{Library}
use Rattle.mount_repair.specs.declared.scanned.Unpacked.{Unpacked}
use Rattle.mount_repair.specs.declared.walk.Walk.{Walk}
use Rattle.mount_repair.proofs.DeviceCalls.{Unreported, reported_none, unreported}
use Rattle.mount_repair.proofs.Lists.{at_push, of_push, take_all, take_push}
use Rattle.mount_repair.proofs.OtherBuffers.{image_at}
use Rattle.mount_repair.proofs.SetsByName.{kth_set, name_here, no_more_sets}

-- A directory that isn't packed is that of one of the first so many data sets, in the order of names, and can be packed so.
pub record IsNoted (image : List ℕ) (v : Vol) (k : ℕ) (u : Unpacked) : Type 0 where
  pub place : ℕ
  pub low : place < k
  pub at : slice_get v.by_name.items place ≡ Some u.slot
  pub can : CanBePacked image v u
  pub not : ¬ IsPackedSet image v can.set

-- a library is that of a data set whose directory is packed
abbrev pub IsKept : List ℕ → Vol → Library → Type 0
IsKept image v l = (slot : ℕ) × (f : F1) × (slice_get v.slots.items slot ≡ Some (formats.F1 f)) × IsLibraryIn image v slot l × IsPackedSet image v f

-- The first so many data sets are walked.
pub record WalkedUpto (image : List ℕ) (v : Vol) (w : Walk) (k : ℕ) : Type 0 where
  pub volume : w.volume.items ≡ take k (names_and_kinds (volume_in image v))
  pub each : (i : ℕ) (u : Unpacked) → slice_get w.unpacked.items i ≡ Some u → IsNoted image v k u
  pub apart : (i j : ℕ) (u x : Unpacked) → slice_get w.unpacked.items i ≡ Some u → slice_get w.unpacked.items j ≡ Some x → u.slot ≡ x.slot → i ≡ j
  pub others : (n slot : ℕ) (f : F1) → n < k → slice_get v.by_name.items n ≡ Some slot → slice_get v.slots.items slot ≡ Some (formats.F1 f) → IsPackedSet image v f ⊎ IsListed w.unpacked.items slot
  pub libraries : (i : ℕ) (l : Library) → slice_get w.libraries.items i ≡ Some l → IsKept image v l

-- nothing stands in an empty list
nothing : {X : Type 0} (xs : List X) → xs ≡ [] → (i : ℕ) (x : X) → slice_get xs i ≡ Some x → ⊥
nothing {X = X} xs none i x at = none_at i x (ap (λ (l : List X). slice_get l i) (sym none) ∙ at)
  where
    none_at : (j : ℕ) (y : X) → slice_get [] j ≡ Some y → ⊥
    none_at j y there = cc

pub walked_none : (image : List ℕ) (v : Vol) (w : Walk) → w.volume.items ≡ [] → w.unpacked.items ≡ [] → w.libraries.items ≡ [] → WalkedUpto image v w 0
walked_none image v w no_names no_dirs no_libraries = record {
  volume = no_names;
  each = λ i u at. absurd (nothing w.unpacked.items no_dirs i u at);
  apart = λ i j u x at there same. absurd (nothing w.unpacked.items no_dirs i u at);
  others = λ n slot f low at is. absurd (omega (arith, low));
  libraries = λ i l at. absurd (nothing w.libraries.items no_libraries i l at);
}

one_format : {a b : F1} → Some (formats.F1 a) ≡ Some (formats.F1 b) → a ≡ b
one_format same = cc

one_slot_number : {a b : ℕ} → Some a ≡ Some b → a ≡ b
one_slot_number same = cc

-- a slot stands once in the order of names
place_once : (v : Vol) → AreByName (name_at v.slots.items) v.by_name.items → (i j slot : ℕ) → slice_get v.by_name.items i ≡ Some slot → slice_get v.by_name.items j ≡ Some slot → i ≡ j
place_once v order i j slot at there =
    let p = slice_some v.by_name.items i slot at in
    let q = slice_some v.by_name.items j slot there in
    let named = name_there (name_at v.slots.items) v.by_name.items order i p.0 in
    let other : name_at v.slots.items (get_or v.by_name.items j 0) ≡ Some named.0 = ap (name_at v.slots.items) (q.1 0 ∙ sym (p.1 0)) ∙ named.1 in
    elim (leb_tells (suc i) j) [
      | inl less ↦ absurd (not_before named.0 (rises (name_at v.slots.items) v.by_name.items order i j named.0 named.0 less.1 q.0 named.1 other))
      | inr more ↦ elim (leb_tells (suc j) i) [
        | inl less ↦ absurd (not_before named.0 (rises (name_at v.slots.items) v.by_name.items order j i named.0 named.0 less.1 p.0 other named.1))
        | inr low ↦ omega (arith, more.1, low.1)
      ]
    ]

module _ (image : List ℕ) (v : Vol) (mounted : IsMounted image v) (order : AreByName (name_at v.slots.items) v.by_name.items) where
  -- one more is walked
  module _ (old new : Walk) (k slot : ℕ) (f : F1) (so_far : WalkedUpto image v old k) (at : slice_get v.by_name.items k ≡ Some slot) (is : slice_get v.slots.items slot ≡ Some (formats.F1 f)) (walks : WalksSet image v slot f old new) where
    volume_next : new.volume.items ≡ take (k + 1) (names_and_kinds (volume_in image v))
    volume_next =
        walks.kind
        ∙ ap (λ (l : List (Dsn × Kind)). l ++ name_and_kind (set_by image v f) ∷ []) so_far.volume
        ∙ sym (take_push (names_and_kinds (volume_in image v)) k (name_and_kind (set_by image v f)) (mapped (volume_in image v).sets k (set_by image v f) (kth_set image v mounted order k slot f at is)))
      where
        mapped : (xs : List DataSet) (j : ℕ) (x : DataSet) → slice_get xs j ≡ Some x → slice_get (map name_and_kind xs) j ≡ Some (name_and_kind x)
        mapped [] j x there = cc
        mapped (y ∷ ys) zero x there = let same : y ≡ x = cc in ap (λ (z : DataSet). Some (name_and_kind z)) same
        mapped (y ∷ ys) (suc j) x there = mapped ys j x there

    later : (u : Unpacked) → IsNoted image v k u → IsNoted image v (k + 1) u
    later u noted = record { place = noted.place; low = omega (arith, noted.low); at = noted.at; can = noted.can; not = noted.not }

    -- a slot that was passed before isn't this one
    passed : (u : Unpacked) → IsNoted image v k u → u.slot ≢ slot
    passed u noted same =
        let where_it : slice_get v.by_name.items noted.place ≡ Some slot = noted.at ∙ ap (λ (s : ℕ). Some s) same in
        let once : noted.place ≡ k = place_once v order noted.place k slot where_it at in
        omega (arith, once, noted.low)

    -- the number of a set up to this one is that of one before, or this
    split : (n : ℕ) → n < k + 1 → (n < k) ⊎ (n ≡ k)
    split n low = elim (leb_tells (suc n) k) [ inl less ↦ inl less.1 | inr more ↦ inr (omega (arith, low, more.1)) ]

    this_set : (n s : ℕ) (x : F1) → n ≡ k → slice_get v.by_name.items n ≡ Some s → slice_get v.slots.items s ≡ Some (formats.F1 x) → (slot ≡ s) × (f ≡ x)
    this_set n s x same there slot_is =
        let one : slot ≡ s = one_slot_number (sym at ∙ ap (slice_get v.by_name.items) (sym same) ∙ there) in
        (one, one_format (sym is ∙ ap (slice_get v.slots.items) one ∙ slot_is))

    -- its library is kept, or nothing
    libraries_next : (i : ℕ) (l : Library) → slice_get new.libraries.items i ≡ Some l → IsKept image v l
    libraries_next i l there = by walks.library
      where
        by : NotesLibrary image v slot f old.libraries.items new.libraries.items → IsKept image v l
        by (keeps_none same) = so_far.libraries i l (ap (λ (ls : List Library). slice_get ls i) (sym same) ∙ there)
        by (keeps_one x library packed pushed) =
            ⊎_elim (λ was. so_far.libraries i l was) (λ now. subst (IsKept image v) now.1 (slot, f, is, library, packed))
            (of_push old.libraries.items x i l (ap (λ (ls : List Library). slice_get ls i) (sym pushed) ∙ there))

    -- nothing is noted of it
    next_none : IsPackedSet image v f → new.unpacked.items ≡ old.unpacked.items → WalkedUpto image v new (k + 1)
    next_none packed same = record {
      volume = volume_next;
      each = λ i u there. later u (so_far.each i u (before i u there));
      apart = λ i j u x first second slots. so_far.apart i j u x (before i u first) (before j x second) slots;
      others = λ n s x low there slot_is. ⊎_elim
          (λ less. subst (λ (l : List Unpacked). IsPackedSet image v x ⊎ IsListed l s) (sym same) (so_far.others n s x less there slot_is))
          (λ now. inl (subst (IsPackedSet image v) (this_set n s x now there slot_is).1 packed))
          (split n low);
      libraries = libraries_next;
    }
      where
        before : (i : ℕ) (u : Unpacked) → slice_get new.unpacked.items i ≡ Some u → slice_get old.unpacked.items i ≡ Some u
        before i u there = ap (λ (l : List Unpacked). slice_get l i) (sym same) ∙ there

    -- or how its directory comes to be packed
    module _ (u : Unpacked) (unpacked : ¬ IsPackedSet image v f) (in_slot : u.slot ≡ slot) (part : IsReadablePart image v f) (packing : IsPackingOf image v f u.packing) (pushed : new.unpacked.items ≡ old.unpacked.items ++ u ∷ []) where
      this_noted : IsNoted image v (k + 1) u
      this_noted = record {
        place = k;
        low = omega arith;
        at = at ∙ ap (λ (s : ℕ). Some s) (sym in_slot);
        can = record { set = f; slot = ap (slice_get v.slots.items) in_slot ∙ is; part = part; packing = packing };
        not = unpacked;
      }

      -- an element is one of before, or this at the end
      either : (i : ℕ) (x : Unpacked) → slice_get new.unpacked.items i ≡ Some x → (slice_get old.unpacked.items i ≡ Some x) ⊎ ((i ≡ length old.unpacked.items) × (u ≡ x))
      either i x there = of_push old.unpacked.items u i x (ap (λ (l : List Unpacked). slice_get l i) (sym pushed) ∙ there)

      listed_still : (s : ℕ) → IsListed old.unpacked.items s → IsListed new.unpacked.items s
      listed_still s listed = (listed.0, listed.1, ap (λ (l : List Unpacked). slice_get l listed.0) pushed ∙ (at_push old.unpacked.items u).0 listed.0 listed.1 listed.2, listed.3)

      listed_now : IsListed new.unpacked.items slot
      listed_now = (length old.unpacked.items, u, ap (λ (l : List Unpacked). slice_get l (length old.unpacked.items)) pushed ∙ (at_push old.unpacked.items u).1, in_slot)

      next_noted : WalkedUpto image v new (k + 1)
      next_noted = record {
        volume = volume_next;
        each = λ i x there. ⊎_elim (λ was. later x (so_far.each i x was)) (λ now. subst (IsNoted image v (k + 1)) now.1 this_noted) (either i x there);
        apart = λ i j x y first second slots. two i j x y slots (either i x first) (either j y second);
        others = λ n s x low there slot_is. ⊎_elim
            (λ less. ⊎_elim (λ packed. inl packed) (λ listed. inr (listed_still s listed)) (so_far.others n s x less there slot_is))
            (λ now. inr (subst (IsListed new.unpacked.items) (this_set n s x now there slot_is).0 listed_now))
            (split n low);
        libraries = libraries_next;
      }
        where
          two : (i j : ℕ) (x y : Unpacked) → x.slot ≡ y.slot → (slice_get old.unpacked.items i ≡ Some x) ⊎ ((i ≡ length old.unpacked.items) × (u ≡ x)) → (slice_get old.unpacked.items j ≡ Some y) ⊎ ((j ≡ length old.unpacked.items) × (u ≡ y)) → i ≡ j
          two i j x y slots (inl first) (inl second) = so_far.apart i j x y first second slots
          two i j x y slots (inl first) (inr second) = absurd (passed x (so_far.each i x first) (slots ∙ ap (λ (z : Unpacked). z.slot) (sym second.1) ∙ in_slot))
          two i j x y slots (inr first) (inl second) = absurd (passed y (so_far.each j y second) (sym slots ∙ ap (λ (z : Unpacked). z.slot) (sym first.1) ∙ in_slot))
          two i j x y slots (inr first) (inr second) = first.0 ∙ sym second.0

    pub walked_next : WalkedUpto image v new (k + 1)
    walked_next = by walks.directory
      where
        by : NotesDir image v slot f old.unpacked.items new.unpacked.items → WalkedUpto image v new (k + 1)
        by (is_packed packed same) = next_none packed same
        by (is_noted u unpacked in_slot part packing pushed) = next_noted u unpacked in_slot part packing pushed

  -- all are walked
  pub walked_all : (w : Walk) (k : ℕ) → length v.by_name.items ≤ k → WalkedUpto image v w k → IsWalkOf image v w
  walked_all w k all so_far = record {
    volume = so_far.volume ∙ take_all (names_and_kinds (volume_in image v)) k (few (volume_in image v).sets k (no_more_sets image v mounted order k (past v.by_name.items k all)));
    unpacked = record {
      each = λ i u at. (so_far.each i u at).can;
      apart = so_far.apart;
      others = λ slot f is.
          let place = place_named (name_at v.slots.items) v.by_name.items order slot f.name (name_here image v mounted order slot f is) in
          so_far.others place.0 slot f (omega (arith, place.1, all)) (slice_get-get_or v.by_name.items place.0 0 place.1 ∙ ap (λ (s : ℕ). Some s) place.2) is;
    };
    none = λ i u f at is packed.
        let noted = so_far.each i u at in
        noted.not (subst (IsPackedSet image v) (one_format (sym is ∙ noted.can.slot)) packed);
    libraries = so_far.libraries;
  }
    where
      past : {X : Type 0} (xs : List X) (j : ℕ) → length xs ≤ j → slice_get xs j ≡ None
      past [] j low = refl
      past (x ∷ xs) zero low = absurd (omega (arith, low))
      past (x ∷ xs) (suc j) low = past xs j (omega (arith, low))

      few : (xs : List DataSet) (j : ℕ) → slice_get xs j ≡ None → length (map name_and_kind xs) ≤ j
      few [] j none = omega arith
      few (x ∷ xs) zero none = cc
      few (x ∷ xs) (suc j) none = omega (arith, few xs j none)

-- another buffer of the index changes nothing of that
module _ (image : List ℕ) (v : Vol) (b : Buffer) (f : F1) (mounted : IsMounted image v) where
  pub part_before : IsReadablePart image (record v { buf = b }) f → IsReadablePart image v f
  part_before part = record {
    part = record { set = record { mounted = mounted; extents = part.part.set.extents }; slot = part.part.slot; dscb = part.part.dscb; partitioned = part.part.partitioned };
    readable = part.readable;
  }

  pub packing_before : (p : Packing) → IsPackingOf image (record v { buf = b }) f p → IsPackingOf image v f p
  packing_before p packing = record { dir = packing.dir; is = packing.is; read = record { body = packing.read.body; read = packing.read.read; end = packing.read.end } }

  pub can_with : IsMounted image (record v { buf = b }) → (u : Unpacked) → CanBePacked image v u → CanBePacked image (record v { buf = b }) u
  can_with mounted' u can = record {
    set = can.set;
    slot = can.slot;
    part = record {
      part = record { set = record { mounted = mounted'; extents = can.part.part.set.extents }; slot = can.part.part.slot; dscb = can.part.part.dscb; partitioned = can.part.part.partitioned };
      readable = can.part.readable;
    };
    packing = record { dir = can.packing.dir; is = can.packing.is; read = record { body = can.packing.read.body; read = can.packing.read.read; end = can.packing.read.end } };
  }

-- nor of libraries
module _ (image : List ℕ) (v : Vol) (b : Buffer) (mounted : IsMounted image v) where
  pub library_before : (slot : ℕ) (l : Library) → IsLibraryIn image (record v { buf = b }) slot l → IsLibraryIn image v slot l
  library_before slot l library = record {
    set = library.set;
    there = library.there;
    part = part_before image v b library.set mounted library.part;
    start = library.start;
    read = record { body = library.read.body; read = library.read.read; end = library.read.end };
  }

  pub library_with : IsMounted image (record v { buf = b }) → (slot : ℕ) (l : Library) → IsLibraryIn image v slot l → IsLibraryIn image (record v { buf = b }) slot l
  library_with mounted' slot l library =
      let part = library.part in
      record {
        set = library.set;
        there = library.there;
        part = record {
          part = record { set = record { mounted = mounted'; extents = part.part.set.extents }; slot = part.part.slot; dscb = part.part.dscb; partitioned = part.part.partitioned };
          readable = part.readable;
        };
        start = library.start;
        read = record { body = library.read.body; read = library.read.read; end = library.read.end };
      }

module _ (image : List ℕ) (v : Vol) (b : Buffer) (f : F1) (mounted : IsMounted image v) where
  pub walks_before : (slot : ℕ) (old new : Walk) → WalksSet image (record v { buf = b }) slot f old new → WalksSet image v slot f old new
  walks_before slot old new walks = record { kind = walks.kind; directory = by walks.directory; library = kept walks.library }
    where
      by : NotesDir image (record v { buf = b }) slot f old.unpacked.items new.unpacked.items → NotesDir image v slot f old.unpacked.items new.unpacked.items
      by (is_packed packed same) = is_packed packed same
      by (is_noted u unpacked in_slot part packing pushed) = is_noted u unpacked in_slot (part_before image v b f mounted part) (packing_before image v b f mounted u.packing packing) pushed

      kept : NotesLibrary image (record v { buf = b }) slot f old.libraries.items new.libraries.items → NotesLibrary image v slot f old.libraries.items new.libraries.items
      kept (keeps_none same) = keeps_none same
      kept (keeps_one l library packed pushed) = keeps_one l (library_before image v b mounted slot l library) packed pushed

-- the index of a scan is the walked one, with another buffer
pub unpacked_with : (image : List ℕ) (v v' : Vol) (us : List Unpacked) → v' ≡ record v { buf = v'.buf } → IsMounted image v → IsMounted image v' → AreUnpacked image v us → AreUnpacked image v' us
unpacked_with image v v' us others mounted mounted' unpacked =
    subst (λ (w : Vol). AreUnpacked image w us) (sym others) (record {
      each = λ k u there. can_with image v v'.buf (unpacked.each k u there).set mounted (subst (IsMounted image) others mounted') u (unpacked.each k u there);
      apart = unpacked.apart;
      others = unpacked.others;
    })

-- the libraries of a walk are those of sets that aren't listed
pub libraries_with : (image : List ℕ) (v v' : Vol) (w : Walk) → v' ≡ record v { buf = v'.buf } → IsMounted image v → IsMounted image v' → IsWalkOf image v w → AreLibraries image v' w.unpacked.items w.libraries.items
libraries_with image v v' w others mounted mounted' walk =
    subst (λ (x : Vol). AreLibraries image x w.unpacked.items w.libraries.items) (sym others) each
  where
    each : AreLibraries image (record v { buf = v'.buf }) w.unpacked.items w.libraries.items
    each k l there =
        let kept = walk.libraries k l there in (
          kept.0,
          λ listed. walk.none listed.0 listed.1 kept.1 listed.2 (ap (slice_get v.slots.items) listed.3 ∙ kept.2) kept.4,
          library_with image v v'.buf mounted (subst (IsMounted image) others mounted') kept.0 l kept.3,
        )

-- a slot in the order of names has one
pub slot_named : (v : Vol) → AreByName (name_at v.slots.items) v.by_name.items → (k slot : ℕ) → slice_get v.by_name.items k ≡ Some slot → (n : List ℕ) × (name_at v.slots.items slot ≡ Some n)
slot_named v order k slot at =
    let place = slice_some v.by_name.items k slot at in
    let named = name_there (name_at v.slots.items) v.by_name.items order k place.0 in
    (named.0, ap (name_at v.slots.items) (sym (place.1 0)) ∙ named.1)

-- So many data sets of a pack are walked; the index is as before, but for its buffer.
pub record WalkedSets (tells : Bool) (old now : Facts) (m m' : Meaning (List File)) (before v : Vol) (w : Walk) (k : ℕ) : Type 0 where
  pub facts : Unreported old now
  pub same : IsTrue tells → Same m m'
  pub others : v ≡ record before { buf = v.buf }
  pub unit : IsOfUnit now.units v
  pub mounted : IsTrue tells → IsMounted (image_at m old before) v
  pub walked : IsTrue tells → WalkedUpto (image_at m old before) before w k

pub sets_none : (tells : Bool) (facts : Facts) (m : Meaning (List File)) (v : Vol) (w : Walk) → CountsNow m → IsOfUnit facts.units v → (IsTrue tells → IsMounted (image_at m facts v) v) → w.volume.items ≡ [] → w.unpacked.items ≡ []
    → w.libraries.items ≡ [] → WalkedSets tells facts facts m m v v w 0
sets_none tells facts m v w counts unit mounted no_names no_dirs no_libraries = record {
  facts = unreported facts;
  same = λ told. same_none m counts;
  others = refl;
  unit = unit;
  mounted = mounted;
  walked = λ told. walked_none (image_at m facts v) v w no_names no_dirs no_libraries;
}

module _ (tells : Bool) (old now : Facts) (m m' : Meaning (List File)) (before v : Vol) (w : Walk) (k : ℕ) (so_far : WalkedSets tells old now m m' before v w k) where
  -- the image is as it was
  pub image_kept : IsTrue tells → image_at m' now v ≡ image_at m old before
  image_kept told =
      ap (λ (fs : List File). image_named fs (unit_of now.units v.unit).name) (so_far.same told).state
      ∙ ap (λ (us : List Attached). image_named m.state (unit_of us v.unit).name) so_far.facts.units
      ∙ ap (λ (x : Vol). image_named m.state (unit_of old.units x.unit).name) so_far.others

  pub sets_next : {P : Type 0} (next : Facts) (m'' : Meaning (List File)) (v' : Vol) (w' : Walk) (slot : ℕ) (f : F1) → (IsTrue tells → IsMounted (image_at m old before) before) → AreByName (name_at before.slots.items) before.by_name.items
      → ReportedCall P now next → (P → ⊥) → (IsTrue tells → Same m' m'') → v' ≡ record v { buf = v'.buf } → IsOfUnit next.units v'
      → (IsTrue tells → IsMounted (image_at m' now v) v') → slice_get before.by_name.items k ≡ Some slot → slice_get v.slots.items slot ≡ Some (formats.F1 f)
      → (IsTrue tells → WalksSet (image_at m' now v) v slot f w w') → WalkedSets tells old next m m'' before v' w' (k + 1)
  sets_next next m'' v' w' slot f first order call none same others unit mounted at is walks = record {
    facts = reported_none old now next so_far.facts call none;
    same = λ told. same_then (so_far.same told) (same told);
    others = others ∙ ap (λ (x : Vol). record x { buf = v'.buf }) so_far.others;
    unit = unit;
    mounted = λ told. subst (λ (i : List ℕ). IsMounted i v') (image_kept told) (mounted told);
    walked = λ told. walked_next (image_at m old before) before (first told) order w w' k slot f (so_far.walked told) at
        (ap (λ (x : Vol). slice_get x.slots.items slot) (sym so_far.others) ∙ is)
        (with_buffer told (subst (λ (i : List ℕ). WalksSet i v slot f w w') (image_kept told) (walks told)));
  }
    where
      with_buffer : IsTrue tells → WalksSet (image_at m old before) v slot f w w' → WalksSet (image_at m old before) before slot f w w'
      with_buffer told given = walks_before (image_at m old before) before v.buf f (first told) slot w w' (subst (λ (x : Vol). WalksSet (image_at m old before) x slot f w w') so_far.others given)
