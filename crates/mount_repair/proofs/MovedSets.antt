-- The data sets of one volume in two images: what is known of the directories in the one is known of those in the other.
use Rattle.std.proofs.Common.{◌≡◌, ℕ, true, List, [], length, Some, None, refl, sym, ap, ap₂, subst, ◌∙◌}
use Rattle.std.specs.Prelude.{slice_get, unwrap_or}
use Rattle.std.specs.List.{flat_map}
use Rattle.std.proofs.lemmas.Option.{slice_get-get_or}
use Rattle.dscb_codec.specs.declared.Dscb.TheVariants as formats
use Rattle.dscb_codec.specs.declared.F1.{F1}
use Rattle.chain_spec.specs.Kept.{joined, kept}
use Rattle.pack_spec.specs.Blocks.{owned_tracks}
use Rattle.pack_spec.specs.Directories.{behind_end, name_number, part_tracks, read_to}
use Rattle.pack_spec.specs.Settled.{HasPacked, IsPacked, directory_upto}
use Rattle.pack_spec.specs.Volume.{attr_of, data_set_of}
use Rattle.pack_spec.proofs.BodyKinds.{partitioned_body}
use Rattle.pack_spec.proofs.PartBodies.{part_end, part_is, part_or_unread}
use Rattle.pds_directory.specs.Directories.{IsRead, IsReadIn, IsReadablePart, data_in, directory_in, end_in, entries_read, members_in, owned_in, part_in}
use Rattle.pds_directory.specs.declared.dir.Dir.{Dir}
use Rattle.pds_directory.proofs.PackedDirectories.{directory_in_is}
use Rattle.stow_ops.specs.Packing.{IsPackingOf}
use Rattle.stow_ops.specs.declared.packings.Packing.{Packing}
use Rattle.vol_model.specs.declared.contents.Block.{Block}
use Rattle.vol_model.specs.declared.contents.Body.{Body}
use Rattle.vol_model.specs.declared.contents.Body.TheVariants.{Seq, Part, Catalog, Other, Unreadable}
use Rattle.vol_model.specs.declared.contents.DataSet.{DataSet}
use Rattle.vol_model.specs.declared.contents.Entry.{Entry}
use Rattle.vol_model.specs.declared.contents.Place.{Place}
use Rattle.vol_model.specs.declared.contents.Volume.{Volume}
use Rattle.vol_model.specs.Shelf.{is_partitioned, unreadable}
use Rattle.vtoc_index.specs.Index.{IsMounted}
use Rattle.vtoc_index.specs.Names.{AreByName, name_at}
use Rattle.vtoc_index.specs.declared.vol.Vol.{Vol}
use Rattle.vtoc_index.proofs.NameOrder.{name_there, place_named}
use Rattle.vtoc_sets.specs.Sets.{extents_in, volume_in}
use Rattle.mount_repair.specs.Scans.{IsLibraryIn}
use Rattle.mount_repair.specs.Sets.{IsPackedSet, set_by}
use Rattle.mount_repair.specs.declared.library.Library.{Library}
use Rattle.mount_repair.proofs.SetsByName.{kth_set, name_here, set_there}
use Rattle.mount_repair.proofs.SettledScans.{format_there}

-- ---- the directory of a partitioned data set

-- its body
pub part_is_body : (image : List ℕ) (v : Vol) (f : F1) → is_partitioned f.name (attr_of f) ≡ true → (set_by image v f).body ≡ part_in image v f
unfolding data_set_of
part_is_body image v f partitioned = partitioned_body v.geometry (data_in image v) f.name (attr_of f) (extents_in image v f) f.lstar partitioned

own_extents : (image : List ℕ) (v : Vol) (f : F1) → (set_by image v f).extents ≡ extents_in image v f
unfolding data_set_of
own_extents image v f = refl

-- that of one that can be read ends where its body says
module _ (image : List ℕ) (v : Vol) (f : F1) (n : ℕ) (end : Place) (es : List Entry) (bs : List Block) (is : part_in image v f ≡ Part n end es bs) where
  pub end_is : end_in image v f ≡ end
  end_is = part_end v.geometry (data_in image v) (extents_in image v f) f.lstar n end es bs is

  pub directory_of : directory_in image v f ≡ directory_upto v.geometry (data_in image v) (owned_in image v f) end
  directory_of = directory_in_is image v f (ap unreadable is) ∙ ap (directory_upto v.geometry (data_in image v) (owned_in image v f)) end_is

  -- and is packed where these blocks are
  packed_at : IsPacked (directory_in image v f) → HasPacked v.geometry (data_in image v) (set_by image v f).extents (Part n end es bs)
  packed_at packed =
      let same : owned_tracks (set_by image v f).extents ≡ owned_in image v f = ap owned_tracks (own_extents image v f) in
      subst IsPacked (directory_of ∙ ap (λ (ts : List ℕ). directory_upto v.geometry (data_in image v) ts end) (sym same)) packed

  blocks_at : HasPacked v.geometry (data_in image v) (set_by image v f).extents (Part n end es bs) → IsPacked (directory_in image v f)
  blocks_at packed =
      let same : owned_tracks (set_by image v f).extents ≡ owned_in image v f = ap owned_tracks (own_extents image v f) in
      subst IsPacked (ap (λ (ts : List ℕ). directory_upto v.geometry (data_in image v) ts end) same ∙ sym directory_of) packed

module _ (image : List ℕ) (v : Vol) (f : F1) (partitioned : is_partitioned f.name (attr_of f) ≡ true) where
  abbrev has : Body → Type 0
  has = HasPacked v.geometry (data_in image v) (set_by image v f).extents

  pub packed_set : (unreadable (part_in image v f) ≡ None → IsPacked (directory_in image v f)) → IsPackedSet image v f
  packed_set packed =
      subst has (sym (part_is_body image v f partitioned))
      (part_or_unread v.geometry (data_in image v) (extents_in image v f) f.lstar (λ body. part_in image v f ≡ body → has body)
      (λ n end es bs is. packed_at image v f n end es bs is (packed (ap unreadable is))) (λ k is. tt) refl)

  pub packed_blocks : IsPackedSet image v f → unreadable (part_in image v f) ≡ None → IsPacked (directory_in image v f)
  packed_blocks packed =
      part_or_unread v.geometry (data_in image v) (extents_in image v f) f.lstar (λ body. part_in image v f ≡ body → unreadable (part_in image v f) ≡ None → IsPacked (directory_in image v f))
      (λ n end es bs is readable. blocks_at image v f n end es bs is (subst has (part_is_body image v f partitioned ∙ is) packed))
      (λ k is readable. let wrong : unreadable (Unreadable k) ≡ None = sym (ap unreadable is) ∙ readable in cc)
      refl

-- ---- one volume in two images

some_format : {x y : F1} → Some (formats.F1 x) ≡ Some (formats.F1 y) → x ≡ y
some_format same = cc

some_set : {x y : DataSet} → Some x ≡ Some y → x ≡ y
some_set same = cc

-- the index of the other has other slots and another buffer
abbrev pub moved : Vol → Vol → Vol
moved v u = record v { slots = u.slots; buf = u.buf }

module _ (a b : List ℕ) (v u : Vol) (mounted : IsMounted a v) (mounted' : IsMounted b (moved v u)) (order : AreByName (name_at v.slots.items) v.by_name.items) (order' : AreByName (name_at u.slots.items) v.by_name.items)
    (volumes : volume_in b (moved v u) ≡ volume_in a v) where
  abbrev w : Vol
  w = moved v u

  -- the data sets in a slot
  pub set_before : (slot : ℕ) (y : F1) → slice_get u.slots.items slot ≡ Some (formats.F1 y) → (x : F1) × (slice_get v.slots.items slot ≡ Some (formats.F1 x)) × (set_by b w y ≡ set_by a v x)
  set_before slot y is =
      let place = place_named (name_at u.slots.items) v.by_name.items order' slot y.name (name_here b w mounted' order' slot y is) in
      let at : slice_get v.by_name.items place.0 ≡ Some slot = slice_get-get_or v.by_name.items place.0 0 place.1 ∙ ap (λ (s : ℕ). Some s) place.2 in
      let named = name_there (name_at v.slots.items) v.by_name.items order place.0 place.1 in
      let found = format_there v.slots.items slot named.0 (ap (name_at v.slots.items) (sym place.2) ∙ named.1) in
      (found.0, found.1, some_set (sym (kth_set b w mounted' order' place.0 slot y at is) ∙ ap (λ (x : Volume). slice_get x.sets place.0) volumes ∙ kth_set a v mounted order place.0 slot found.0 at found.1))

  pub set_after : (slot : ℕ) (x : F1) → slice_get v.slots.items slot ≡ Some (formats.F1 x) → (y : F1) × (slice_get u.slots.items slot ≡ Some (formats.F1 y)) × (set_by b w y ≡ set_by a v x)
  set_after slot x is =
      let place = place_named (name_at v.slots.items) v.by_name.items order slot x.name (name_here a v mounted order slot x is) in
      let at : slice_get v.by_name.items place.0 ≡ Some slot = slice_get-get_or v.by_name.items place.0 0 place.1 ∙ ap (λ (s : ℕ). Some s) place.2 in
      let named = name_there (name_at u.slots.items) v.by_name.items order' place.0 place.1 in
      let found = format_there u.slots.items slot named.0 (ap (name_at u.slots.items) (sym place.2) ∙ named.1) in
      (found.0, found.1, some_set (sym (kth_set b w mounted' order' place.0 slot found.0 at found.1) ∙ ap (λ (y : Volume). slice_get y.sets place.0) volumes ∙ kth_set a v mounted order place.0 slot x at is))

  -- a data set whose directory stands in both alike
  module _ (x y : F1) (same : set_by b w y ≡ set_by a v x)
      (upto : (end : Place) → directory_upto v.geometry (data_in b w) (owned_tracks (set_by a v x).extents) end ≡ directory_upto v.geometry (data_in a v) (owned_tracks (set_by a v x).extents) end) where
    has_moved : (body : Body) → HasPacked v.geometry (data_in a v) (set_by a v x).extents body → HasPacked v.geometry (data_in b w) (set_by a v x).extents body
    has_moved (Seq bs) packed = tt
    has_moved (Part n end es bs) packed = subst IsPacked (sym (upto end)) packed
    has_moved Catalog packed = tt
    has_moved Other packed = tt
    has_moved (Unreadable k) packed = tt

    pub packed_moved : IsPackedSet a v x → IsPackedSet b w y
    packed_moved packed = subst (λ (d : DataSet). HasPacked v.geometry (data_in b w) d.extents d.body) (sym same) (has_moved (set_by a v x).body packed)

    names : y.name ≡ x.name
    unfolding data_set_of
    names = ap (λ (d : DataSet). d.name.bytes) same

    attrs : attr_of y ≡ attr_of x
    unfolding data_set_of
    attrs = ap (λ (d : DataSet). d.attr) same

    owned_same : owned_in b w y ≡ owned_in a v x
    owned_same = ap owned_tracks (sym (own_extents b w y) ∙ ap (λ (d : DataSet). d.extents) same ∙ own_extents a v x)

    kind_same : is_partitioned x.name (attr_of x) ≡ true → is_partitioned y.name (attr_of y) ≡ true
    kind_same is = ap (λ (n : List ℕ). is_partitioned n (attr_of y)) names ∙ ap (is_partitioned x.name) attrs ∙ is

    part_same : is_partitioned x.name (attr_of x) ≡ true → part_in b w y ≡ part_in a v x
    part_same is = sym (part_is_body b w y (kind_same is)) ∙ ap (λ (d : DataSet). d.body) same ∙ part_is_body a v x is

    module _ (slot : ℕ) (there : slice_get u.slots.items slot ≡ Some (formats.F1 y)) (part : IsReadablePart a v x) where
      pub part_moved : IsReadablePart b w y
      part_moved = record {
        part = record { set = (set_there b w mounted' slot y there).set; slot = slot; dscb = there; partitioned = kind_same part.part.partitioned };
        readable = ap unreadable (part_same part.part.partitioned) ∙ part.readable;
      }

      -- what was read of its directory
      read_moved : (dir : Dir) → IsReadIn a v x dir → IsReadIn b w y dir
      read_moved dir read =
          let n : ℕ = length dir.places.items in
          let es : List Entry = kept name_number (joined (entries_read dir)) in
          let now : part_in b w y ≡ Part n (end_in a v x) es (members_in a v x) = part_same part.part.partitioned ∙ read.body in
          let end : end_in b w y ≡ end_in a v x = end_is b w y n (end_in a v x) es (members_in a v x) now in
          let members : members_in b w y ≡ members_in a v x =
          ap (λ (p : Place). behind_end p (blocks_by p)) end
          ∙ (part_is v.geometry (data_in b w) (extents_in b w y) y.lstar n (end_in a v x) es (members_in a v x) now).blocks in
          let blocks : directory_in b w y ≡ directory_in a v x =
          directory_of b w y n (end_in a v x) es (members_in a v x) now
          ∙ ap (λ (ts : List ℕ). directory_upto v.geometry (data_in b w) ts (end_in a v x)) (owned_same ∙ sym (ap owned_tracks (own_extents a v x)))
          ∙ upto (end_in a v x)
          ∙ ap (λ (ts : List ℕ). directory_upto v.geometry (data_in a v) ts (end_in a v x)) (ap owned_tracks (own_extents a v x))
          ∙ sym (directory_of a v x n (end_in a v x) es (members_in a v x) read.body) in
          record {
            body = now ∙ ap₂ (λ (p : Place) (ms : List Block). Part n p es ms) (sym end) (sym members);
            read = subst (λ (bs : List Block). IsRead bs dir) (sym blocks) read.read;
            end = read.end ∙ sym end;
          }
        where
          blocks_by : Place → List Block
          blocks_by p = flat_map (λ o. unwrap_or o []) (part_tracks v.geometry (data_in b w) (owned_in b w y) p (read_to p y.lstar))

      pub packing_moved : (p : Packing) → IsPackingOf a v x p → IsPackingOf b w y p
      packing_moved p packing = record { dir = packing.dir; is = packing.is; read = read_moved packing.dir packing.read }

      -- its library
      pub library_moved : (l : Library) → slice_get (owned_in a v x) 0 ≡ Some l.start → IsReadIn a v x l.dir → IsLibraryIn b w slot l
      library_moved l start read = record {
        set = y;
        there = there;
        part = part_moved;
        start = ap (λ (ts : List ℕ). slice_get ts 0) owned_same ∙ start;
        read = read_moved l.dir read;
      }
