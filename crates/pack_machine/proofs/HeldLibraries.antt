-- The directories of partitioned data sets, as they are read and held.
use Rattle.std.proofs.Common.{◌≡◌, ⊎_elim, inl, ℕ, suc, Bool, true, false, cond, List, [], ◌∷◌, ◌++◌, length, Option, Some, None, refl, sym, ap, subst, ◌∙◌, arith}
use Rattle.std.specs.Prelude.{◌==◌, IfErr, IfOk, IfSome, OnErr, Result, Ok, Err, find, nat_le, position, slice_get}
use Rattle.std.specs.List.{AllByRecursion}
use Rattle.std.proofs.lemmas.Bool.{eqb-true}
use Rattle.chain_spec.specs.Kept.{joined, kept, kept_from}
use Rattle.dscb_codec.specs.declared.Dscb.TheVariants as formats
use Rattle.dscb_codec.specs.declared.F1.{F1}
use Rattle.hall_core.specs.Facts.{Attached}
use Rattle.mount_repair.proofs.Lists.{at_push, of_push}
use Rattle.track_records.specs.Buffers.{Buffer}
use Rattle.pack_spec.specs.Directories.{name_number}
use Rattle.pds_directory.specs.declared.dir.Dir.{Dir}
use Rattle.pds_directory.specs.Directories.{IsPartIn, IsReadIn, IsReadUnless, IsReadablePart, ReadsDir, broken_in, entries_read, members_in, owned_in}
use Rattle.pds_directory.proofs.EndWalks.{there_is}
use Rattle.pds_directory.specs.Entries.{IsReadEntry}
use Rattle.seq_access.specs.Bodies.{end_in, part_in}
use Rattle.seq_access.specs.Reading.{AreRead, HoldsTrack}
use Rattle.seq_access.specs.declared.read_buf.ReadBuf.{ReadBuf}
use Rattle.seq_access.specs.declared.read_buf.Reach.{Reach}
use Rattle.seq_access.specs.declared.read_buf.Reach.TheVariants.{Nothing}
use Rattle.vtoc_sets.proofs.OtherBuffers.{mounted_with}
use Rattle.vol_model.specs.declared.answers.Kind.TheVariants as kinds
use Rattle.vol_model.specs.declared.answers.ReadErr.{ReadErr}
use Rattle.vol_model.specs.declared.answers.ReadErr.TheVariants as errors
use Rattle.vol_model.specs.declared.contents.Body.{Body}
use Rattle.vol_model.specs.declared.contents.Body.TheVariants.{Catalog, Other, Part, Seq, Unreadable}
use Rattle.vol_model.specs.declared.contents.Entry.{Entry}
use Rattle.vol_model.specs.declared.contents.Place.{Place}
use Rattle.vol_model.specs.Lawful.{IsLawfulEntry}
use Rattle.vol_model.specs.Reading.{directory_size, entries_in, kind_of}
use Rattle.vol_model.specs.Shelf.{blocks_of, unreadable}
use Rattle.vtoc_index.specs.Index.{IsOfUnit}
use Rattle.vtoc_index.specs.declared.vol.Vol.{Vol}
use Rattle.vtoc_sets.specs.Sets.{volume_in}
use Rattle.pack_machine.specs.Blocks.{IsPartOn}
use Rattle.pack_machine.specs.Known.{HoldLibraries, IsLibraryOf}
use Rattle.pack_machine.specs.Libraries.{AreOthers, HoldsLibrary, HoldsPart, IsLent, IsLibraryAt, IsMadeFrom, IsVacancyOf, ReadsLibrary, is_vacant_by, library_from}
use Rattle.pack_machine.specs.Standing.{IsDirectoryAt}
use Rattle.mount_repair.specs.declared.library.Library.{Library}
use Rattle.pack_machine.proofs.FoundElements.{find_place, found_at}
use Rattle.pack_machine.proofs.StandingDirectories.{directory_held, directory_read}
use Rattle.mount_repair.proofs.WalkedBodies.{one_set}

-- ---- a directory that is read

-- an error that says of a body that it can't be read
no_refusal : (b : Body) (k : ℕ) → b ≡ Unreadable k → unreadable b ≡ None → ⊥
no_refusal b k is whole = let both : unreadable (Unreadable k) ≡ None = ap unreadable (sym is) ∙ whole in absurd cc

-- the library of a directory that was read
module _ (image : List ℕ) (v : Vol) (f : F1) (start : ℕ) (first : slice_get (owned_in image v f) 0 ≡ Some start) where
  by_break : (o : Option ℕ) (dir : Dir) → IsReadUnless o image v f dir → unreadable (part_in image v f) ≡ None → IsReadIn image v f dir
  by_break None dir read whole = read
  by_break (Some k) dir is whole = absurd (no_refusal (part_in image v f) k is whole)

  library_read : (dir : Dir) (l : Library) → IsMadeFrom (Ok dir) start (Ok l) → ReadsDir (Ok dir) image v f → ReadsLibrary (Ok l) image v f
  library_read dir l made read whole = record {
    start = first ∙ ap (λ (t : ℕ). Some t) (sym made.1);
    dir = subst (IsReadIn image v f) (sym made.0) (by_break (broken_in image v f) dir read whole);
  }

  -- and why there is none
  library_unread : (e : ReadErr) → ReadsDir (Err e) image v f → ReadsLibrary (Err e) image v f
  library_unread (errors.Unreadable k) is = is
  library_unread errors.Memory is = tt
  library_unread errors.Device is = tt

  pub library_made : (read : Result Dir ReadErr) (r : Result Library ReadErr) → IsMadeFrom read start r → ReadsDir read image v f → ReadsLibrary r image v f
  library_made (Ok dir) (Ok l) made was = library_read dir l made was
  library_made (Ok dir) (Err e) made was = subst (λ (x : ReadErr). ReadsLibrary (Err x) image v f) (sym made) tt
  library_made (Err e) r made was = subst (λ (x : Result Library ReadErr). ReadsLibrary x image v f) (sym made) (library_unread e was)

pub made_start : (read : Result Dir ReadErr) (start : ℕ) (r : Result Library ReadErr) → IsMadeFrom read start r → IfOk r (λ l. l.start ≡ start)
made_start (Ok dir) start (Ok l) made = made.1
made_start (Ok dir) start (Err e) made = tt
made_start (Err e) start r made = subst (λ (x : Result Library ReadErr). IfOk x (λ l. l.start ≡ start)) (sym made) tt

-- entries that are read are lawful, and so are those that count
front_lawful : (xs ys : List Entry) → AllByRecursion IsReadEntry xs → AllByRecursion IsLawfulEntry ys → AllByRecursion IsLawfulEntry (xs ++ ys)
front_lawful [] ys some rest = rest
front_lawful (x ∷ xs) ys some rest = (some.0.lawful, front_lawful xs ys some.1 rest)

joined_lawful : (blocks : List (List Entry)) → AllByRecursion (AllByRecursion IsReadEntry) blocks → AllByRecursion IsLawfulEntry (joined blocks)
joined_lawful [] all = tt
joined_lawful (es ∷ blocks) all = front_lawful es (joined blocks) all.0 (joined_lawful blocks all.1)

kept_lawful : (bound : ℕ) (es : List Entry) → AllByRecursion IsLawfulEntry es → AllByRecursion IsLawfulEntry (kept_from name_number bound es)
kept_lawful bound [] all = tt
kept_lawful bound (e ∷ es) all = by (nat_le bound (name_number e)) (λ n. kept_lawful n es all.1)
  where
    by : (b : Bool) → ((n : ℕ) → AllByRecursion IsLawfulEntry (kept_from name_number n es)) → AllByRecursion IsLawfulEntry (cond b (e ∷ kept_from name_number (suc (name_number e)) es) (kept_from name_number bound es))
    by true rest = (all.0, rest (suc (name_number e)))
    by false rest = rest bound

lawful_kept : (dir : Dir) (es : List Entry) → AllByRecursion (AllByRecursion IsReadEntry) (entries_read dir) → es ≡ kept name_number (joined (entries_read dir)) → AllByRecursion IsLawfulEntry es
lawful_kept dir es all is = subst (AllByRecursion IsLawfulEntry) (sym is) (kept_lawful 0 (joined (entries_read dir)) (joined_lawful (entries_read dir) all))

pub lawful_entries : (l : Library) → AllByRecursion IsLawfulEntry l.entries.items
lawful_entries l = lawful_kept l.dir l.entries.items l.lawful.dir.entries l.lawful.entries

-- ---- a buffer that is lent

-- an index with another buffer, empty
abbrev with_buffer : Vol → Buffer → Vol
with_buffer v b = record v { buf = record b { unit = v.unit; track = v.vtoc.start; records = [] } }

pub unit_with : (units : List Attached) (v : Vol) (b : Buffer) → b.geometry ≡ v.geometry → IsOfUnit units v → IsOfUnit units (with_buffer v b)
unit_with units v b same unit = record {
  attached = unit.attached;
  whole = unit.whole;
  inside = unit.inside;
  tracks = unit.tracks;
  few = unit.few;
  most = unit.most;
  firsts = unit.firsts;
  free = unit.free;
  buffer = (same, refl);
}

pub part_with : (image : List ℕ) (v : Vol) (b : Buffer) (f : F1) → IsPartIn image v f → IsPartIn image (with_buffer v b) f
part_with image v b f part = record {
  set = record { mounted = mounted_with image v (record b { unit = v.unit; track = v.vtoc.start; records = [] }) part.set.mounted (inl refl); extents = part.set.extents };
  slot = part.slot;
  dscb = part.dscb;
  partitioned = part.partitioned;
}

-- what is read of it is read of the index
library_back : (image : List ℕ) (v : Vol) (b : Buffer) (f : F1) (r : Result Library ReadErr) → ReadsLibrary r image (with_buffer v b) f → ReadsLibrary r image v f
library_back image v b f (Ok l) reads = λ whole.
    let at = reads whole in record {
      start = at.start;
      dir = record { body = at.dir.body; read = at.dir.read; end = at.dir.end };
    }
library_back image v b f (Err (errors.Unreadable k)) is = is
library_back image v b f (Err errors.Memory) is = tt
library_back image v b f (Err errors.Device) is = tt

module _ (v lent : Vol) (b b1 : ReadBuf) (is : IsLent v lent b b1) where
  pub lent_unit : (units : List Attached) → b.records.geometry ≡ v.geometry → IsOfUnit units v → IsOfUnit units lent
  lent_unit units same unit = subst (IsOfUnit units) (sym is.index) (unit_with units v b.records same unit)

  pub lent_at : (slot : ℕ) (f : F1) → slice_get v.slots.items slot ≡ Some (formats.F1 f) → slice_get lent.slots.items slot ≡ Some (formats.F1 f)
  lent_at slot f at = subst (λ (w : Vol). slice_get w.slots.items slot ≡ Some (formats.F1 f)) (sym is.index) at

  -- by the images of units
  module _ (image : ℕ → List ℕ) (f : F1) where
    pub lent_part : IsPartIn (image v.unit) v f → IsPartIn (image lent.unit) lent f
    lent_part part = subst (λ (w : Vol). IsPartIn (image w.unit) w f) (sym is.index) (part_with (image v.unit) v b.records f part)

    pub lent_parts : (slot : ℕ) → slice_get v.slots.items slot ≡ Some (formats.F1 f) → IsPartIn (image v.unit) v f → (x : F1) → slice_get lent.slots.items slot ≡ Some (formats.F1 x) → IsPartIn (image lent.unit) lent x
    lent_parts slot there part x at = subst (IsPartIn (image lent.unit) lent) (one_set lent.slots.items slot f x (lent_at slot f there) at) (lent_part part)

    pub lent_readable : IsReadablePart (image v.unit) v f → IsReadablePart (image lent.unit) lent f
    lent_readable part = subst (λ (w : Vol). IsReadablePart (image w.unit) w f) (sym is.index) (record { part = part_with (image v.unit) v b.records f part.part; readable = part.readable })

    -- what is read of the index as it was lent is read of it
    pub lent_end : {E : Type 0} (r : Result Place E) → IfOk r (λ p. p ≡ end_in (image lent.unit) lent f) → IfOk r (λ p. p ≡ end_in (image v.unit) v f)
    lent_end r at = subst (λ (w : Vol). IfOk r (λ p. p ≡ end_in (image w.unit) w f)) is.index at

    pub lent_library : (start : ℕ) → slice_get (owned_in (image v.unit) v f) 0 ≡ Some start → (read : Result Dir ReadErr) (r : Result Library ReadErr) → IsMadeFrom read start r → ReadsDir read (image lent.unit) lent f → ReadsLibrary r (image v.unit) v f
    lent_library start first read r made was =
        let first_lent = subst (λ (w : Vol). slice_get (owned_in (image w.unit) w f) 0 ≡ Some start) (sym is.index) first in
        let reads = library_made (image lent.unit) lent f start first_lent read r made was in
        library_back (image v.unit) v b.records f r (subst (λ (w : Vol). ReadsLibrary r (image w.unit) w f) is.index reads)

  -- and the index has its own buffer again
  pub given_back : (w v' : Vol) → w ≡ record lent { buf = w.buf } → v' ≡ record w { buf = b1.records } → v' ≡ v
  given_back w v' others back =
      back
      ∙ ap (λ (x : Vol). record x { buf = b1.records }) others
      ∙ ap (λ (x : Vol). record x { buf = b1.records }) is.index
      ∙ ap (λ (r : ReadBuf). record v { buf = r.records }) is.buffer

  pub geometry_back : (units : List Attached) (w : Vol) → w ≡ record lent { buf = w.buf } → IsOfUnit units w → w.buf.geometry ≡ v.geometry
  geometry_back units w others unit = unit.buffer.0 ∙ ap (λ (x : Vol). x.geometry) others ∙ ap (λ (x : Vol). x.geometry) is.index

-- a buffer that holds nothing holds its track
pub nothing_held : (image : List ℕ) (b : ReadBuf) → b.reach ≡ Nothing → HoldsTrack image b
nothing_held image b none = subst (λ (r : Reach). AreRead image r b.records) (sym none) tt

-- ---- a library that is held

-- a body with a directory can be read
pub whole_kind : (b : Body) → kind_of b ≡ kinds.Part → unreadable b ≡ None
whole_kind (Seq blocks) is = refl
whole_kind (Part dir end entries blocks) is = refl
whole_kind Catalog is = refl
whole_kind Other is = refl
whole_kind (Unreadable track) is = absurd cc

pub readable_by : (image : List ℕ) (v : Vol) (f : F1) (body : Body) → IsPartOn image v f body → IsReadablePart image v f
readable_by image v f body on = record { part = on.part; readable = whole_kind (part_in image v f) on.readable }

-- libraries stay held beside one more
pub push_held : (image : List ℕ) (v : Vol) (old : List Library) (l : Library) → HoldLibraries image v old → IsDirectoryAt image (volume_in image v) l.start l.dir → HoldLibraries image v (old ++ l ∷ [])
push_held image v old l held is n x there = ⊎_elim (λ was. held n x was) (λ now. subst (λ (y : Library). IsDirectoryAt image (volume_in image v) y.start y.dir) now.1 is) (of_push old l n x there)

-- what holds of each that a search may find holds of what it found
pub some_found : {X : Type 0} (o p : Option X) (P : X → Type 0) → o ≡ p → ((x : X) → p ≡ Some x → P x) → IfSome o P
some_found None p P is each = tt
some_found (Some x) p P is each = each x (sym is)

-- those without one of a data set that begins where a library does
pub others_from : (old new : List Library) (start : ℕ) (l : Library) → l.start ≡ start → AreOthers start old new → AreOthers l.start old new
others_from old new start l same others = subst (λ (t : ℕ). AreOthers t old new) (sym same) others

pub found_start : (libraries : List Library) (start : ℕ) (l : Library) → library_from libraries start ≡ Some l → l.start ≡ start
found_start libraries start l is = eqb-true l.start start (find_place (λ (x : Library). x.start == start) libraries l is).2

module _ (image : List ℕ) (v : Vol) (f : F1) where
  -- a library of the data set has what its body has
  pub library_body : (l : Library) → IsLibraryAt image v f l → IsLibraryOf l (part_in image v f)
  library_body l at =
      let e : end_in image v f ≡ l.dir.end = sym at.dir.end in
      let n : kept name_number (joined (entries_read l.dir)) ≡ l.entries.items = sym l.lawful.entries in
      let m : members_in image v f ≡ blocks_of (part_in image v f) = sym (ap blocks_of at.dir.body) in
      at.dir.body ∙ (λ i. Part (length l.dir.places.items) (e i) (n i) (m i))

  pub vacant_told : (l : Library) (vacant : Bool) → vacant ≡ is_vacant_by l f.lstar → IsLibraryAt image v f l → IsVacancyOf (Some vacant) (part_in image v f) f.lstar
  vacant_told l vacant is at = (l, library_body l at, is)

  module _ (part : IsReadablePart image v f) where
    -- it has a first track
    pub some_track : None ≡ slice_get (owned_in image v f) 0 → ⊥
    some_track none = there_is image v f part 0 (omega arith) none

    pub is_read : (k : ℕ) → part_in image v f ≡ Unreadable k → ⊥
    is_read k is = no_refusal (part_in image v f) k is part.readable

    -- one that was read stands where it begins
    pub library_stands : (l : Library) → IsLibraryAt image v f l → IsDirectoryAt image (volume_in image v) l.start l.dir
    library_stands l at = directory_read image v f part l.start l.dir at.start at.dir

    module _ (libraries : List Library) (held : HoldLibraries image v libraries) (start : ℕ) (first : Some start ≡ slice_get (owned_in image v f) 0) where
      -- one that is held and begins there is its
      pub library_held : (at : ℕ) (l : Library) → slice_get libraries at ≡ Some l → (l.start == start) ≡ true → IsLibraryAt image v f l
      library_held at l there begins =
          let begun : slice_get (owned_in image v f) 0 ≡ Some l.start = sym first ∙ ap (λ (t : ℕ). Some t) (sym (eqb-true l.start start begins)) in
          record { start = begun; dir = directory_held image v f part l.start l.dir begun l.lawful.dir (held at l there) }

      pub place_held : (at : ℕ) → Some at ≡ position (λ (l : Library). l.start == start) libraries → HoldsPart (Ok at) (part_in image v f) libraries
      place_held at is =
          let found = found_at (λ (l : Library). l.start == start) libraries at (sym is) in
          (found.0, found.1, library_body found.0 (library_held at found.0 found.1 found.2))

      pub found_held : (l : Library) → library_from libraries start ≡ Some l → IsLibraryAt image v f l
      found_held l is =
          let found = find_place (λ (x : Library). x.start == start) libraries l is in
          library_held found.0 l found.1 found.2

    -- one that was read and put after others, or for which memory ran out
    pub added_part : (r : Result ℕ ReadErr) (l : Library) (old new : List Library) → IfOk r (λ at. (at ≡ length old) × (new ≡ old ++ l ∷ [])) → IfErr r (λ e. e ≡ errors.Memory) → IsLibraryAt image v f l → HoldsPart r (part_in image v f) new
    added_part (Ok at) l old new added memory is = (l, ap (slice_get new) added.0 ∙ ap (λ (ls : List Library). slice_get ls (length old)) added.1 ∙ (at_push old l).1, library_body l is)
    added_part (Err e) l old new added memory is = subst (λ (x : ReadErr). HoldsPart (Err x) (part_in image v f) new) (sym memory) tt

    pub added_held : (r : Result ℕ ReadErr) (l : Library) (old new : List Library) → IfOk r (λ at. (at ≡ length old) × (new ≡ old ++ l ∷ [])) → OnErr r (new ≡ old) → HoldLibraries image v old → IsLibraryAt image v f l → HoldLibraries image v new
    added_held (Ok at) l old new added failed held is = subst (HoldLibraries image v) (sym added.1) (push_held image v old l held (library_stands l is))
    added_held (Err e) l old new added failed held is = subst (HoldLibraries image v) (sym failed) held

  pub not_read : (e : ReadErr) (libraries : List Library) → ReadsLibrary (Err e) image v f → HoldsPart (Err e) (part_in image v f) libraries
  not_read (errors.Unreadable k) libraries is = is
  not_read errors.Memory libraries is = tt
  not_read errors.Device libraries is = tt

-- where a partitioned one isn't held, none is
pub held_by : (e : ReadErr) (body : Body) (libraries : List Library) (held : ℕ → Option Library) → HoldsPart (Err e) body libraries → HoldsLibrary (Err e) body held
held_by (errors.Unreadable k) body libraries held is = (ap entries_in is, ap directory_size is)
held_by errors.Memory body libraries held is = tt
held_by errors.Device body libraries held is = tt

-- ---- what is answered by a library

pub found_lawful : (p : Entry → Bool) (es : List Entry) → AllByRecursion IsLawfulEntry es → IfSome (find p es) IsLawfulEntry
found_lawful p [] all = tt
found_lawful p (e ∷ es) all = by (p e) (found_lawful p es all.1)
  where
    by : (b : Bool) → IfSome (find p es) IsLawfulEntry → IfSome (cond b (Some e) (find p es)) IsLawfulEntry
    by true rest = all.0
    by false rest = rest

pub copied_lawful : {E : Type 0} (r : Result (Option Entry) E) (e : Entry) → IfOk r (λ found. found ≡ Some e) → IsLawfulEntry e → IfOk r (λ found. IfSome found IsLawfulEntry)
copied_lawful (Ok x) e is lawful = subst (λ (o : Option Entry). IfSome o IsLawfulEntry) (sym is) lawful
copied_lawful (Err f) e is lawful = tt
