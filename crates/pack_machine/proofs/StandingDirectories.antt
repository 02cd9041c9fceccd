-- What was read of a directory stands on an image as it was read, and what stands so was read of it.
use Rattle.std.proofs.Common.{◌≡◌, ℕ, List, [], ◌++◌, length, map, take, drop, Option, Some, None, inl, inr, refl, sym, ap, ◌∙◌, subst}
use Rattle.std.specs.Prelude.{slice_get, unwrap_or}
use Rattle.std.proofs.Math.Seq.{take-append_seam}
use Rattle.std.proofs.lemmas.Bool.Decides.{eqb_tells}
use Rattle.std.proofs.lemmas.List.{length-map, take-append-drop}
use Rattle.chain_spec.specs.Kept.{joined, kept}
use Rattle.chain_spec.specs.Store.{Block as Stored, reads, stored}
use Rattle.chain_spec.proofs.StoreLemmas.{length-stored, reads-stored}
use Rattle.ckd_image.specs.declared.header.Geometry.{Geometry}
use Rattle.dscb_codec.specs.declared.F1.{F1}
use Rattle.pack_spec.specs.Blocks.{owned_tracks}
use Rattle.pack_spec.specs.Directories.{entries_of, name_number, stored_in}
use Rattle.pack_spec.specs.Settled.{directory_upto}
use Rattle.pack_spec.specs.Slots.{slots_of_vtoc}
use Rattle.pack_spec.specs.Volume.{attr_of, data_set_of, volume_with}
use Rattle.pack_spec.proofs.BodyKinds.{partitioned_body}
use Rattle.pack_spec.proofs.Lawful.{lawful_volume}
use Rattle.pack_spec.proofs.PartBodies.{IsPart, is_part, part_or_unread}
use Rattle.pds_directory.specs.declared.dir.Dir.{Dir}
use Rattle.pds_directory.specs.Directories.{IsLawfulDir, IsRead, IsReadIn, IsReadablePart, data_in, directory_in, end_in, entries_read, members_in, owned_in, part_in, tracks_in}
use Rattle.pds_directory.proofs.PackedDirectories.{directory_in_is}
use Rattle.pds_directory.proofs.PackedTracks.{sets_apart}
use Rattle.pds_directory.proofs.ReadSteps.{part_is}
use Rattle.vol_model.specs.declared.contents.Block.{Block}
use Rattle.vol_model.specs.declared.contents.Body.{Body}
use Rattle.vol_model.specs.declared.contents.Body.TheVariants.{Part, Unreadable}
use Rattle.vol_model.specs.declared.contents.DataSet.{DataSet}
use Rattle.vol_model.specs.declared.contents.Entry.{Entry}
use Rattle.vol_model.specs.declared.contents.Place.{Place}
use Rattle.vol_model.specs.declared.contents.Volume.{Volume}
use Rattle.vol_model.specs.Lawful.{OwnsOnce}
use Rattle.vol_model.specs.Shelf.{unreadable}
use Rattle.vol_model.specs.Slots.{entry_size}
use Rattle.vtoc_index.specs.declared.vol.Vol.{Vol}
use Rattle.vtoc_sets.specs.Sets.{extents_in, volume_in}
use Rattle.pack_machine.specs.Standing.{IsDirectoryAt, StandsSo}
use Rattle.pack_machine.proofs.PackedBlocks.{index_set}

-- ---- one directory

-- what was read of blocks stands in them,
pub stands_of_read : (directory : List Block) (dir : Dir) → IsRead directory dir → StandsSo directory dir
stands_of_read directory dir read = record {
  places = read.places;
  blocks =
      ap (take (length (entries_read dir))) read.blocks
      ∙ ap (λ (n : ℕ). take n (stored (entries_read dir) ++ read.behind)) (sym (length-stored (entries_read dir)))
      ∙ take-append_seam (stored (entries_read dir)) read.behind;
}

-- and what stands in them was read of them
pub read_of_stands : (directory : List Block) (dir : Dir) → StandsSo directory dir → IsRead directory dir
read_of_stands directory dir stands =
    let rest : List (Option (Stored Entry)) = drop (length (entries_read dir)) (map stored_in directory) in
    record {
      places = stands.places;
      behind = rest;
      blocks = sym (take-append-drop (length (entries_read dir)) (map stored_in directory)) ∙ ap (λ (s : List (Option (Stored Entry))). s ++ rest) stands.blocks;
    }

-- the entries that count in the blocks of a directory that was read
entries_stored : (directory : List Block) (dir : Dir) → IsLawfulDir dir → IsRead directory dir → entries_of directory ≡ kept name_number (joined (entries_read dir))
entries_stored directory dir lawful read =
    ap (λ (s : List (Option (Stored Entry))). unwrap_or (reads name_number s) []) read.blocks
    ∙ ap (λ (o : Option (List Entry)). unwrap_or o []) (reads-stored name_number entry_size 254 12 (entries_read dir) read.behind lawful.fit)

-- ---- that of a data set which can be read

module _ (image : List ℕ) (v : Vol) (f : F1) (part : IsReadablePart image v f) where
  abbrev g : Geometry
  g = v.geometry

  abbrev w : Volume
  w = volume_in image v

  abbrev mine : DataSet
  mine = data_set_of g (data_in image v) (slots_of_vtoc image g v.vtoc) f

  place : (j : ℕ) × (slice_get w.sets j ≡ Some mine)
  place = index_set image v f part.part.slot part.part.set.mounted part.part.dscb

  -- the parts of its body
  body_is : part_in image v f ≡ Part (length (directory_in image v f)) (end_in image v f) (entries_of (directory_in image v f)) (members_in image v f)
  body_is = part_or_unread g (data_in image v) (extents_in image v f) f.lstar
      (λ (b : Body). part_in image v f ≡ b → unreadable b ≡ None → part_in image v f ≡ Part (length (directory_in image v f)) (end_in image v f) (entries_of (directory_in image v f)) (members_in image v f))
      (λ n end es bs is some.
      let p : IsPart (end_in image v f) (tracks_in image v f) n end es bs = is_part (end_in image v f) (tracks_in image v f) n end es bs (sym (part_is image v f) ∙ is) in
      let count = sym p.count in
      let at = sym p.end_at in
      let entries = sym p.entries in
      let blocks = sym p.blocks in
      is ∙ (λ i. Part (count i) (at i) (entries i) (blocks i)))
      (λ k is none. absurd (let never : unreadable (Unreadable k) ≡ None = none in cc))
      refl
      part.readable

  set_body : mine.body ≡ part_in image v f
  unfolding data_set_of
  set_body = partitioned_body g (data_in image v) f.name (attr_of f) (extents_in image v f) f.lstar part.part.partitioned

  module _ (start : ℕ) (dir : Dir) (first : slice_get (owned_in image v f) 0 ≡ Some start) where
    -- A directory that stands where the set begins was read of it.
    pub directory_held : IsLawfulDir dir → IsDirectoryAt image w start dir → IsReadIn image v f dir
    unfolding volume_with data_set_of
    directory_held lawful at =
        let stood : (dir.end ≡ end_in image v f) × StandsSo (directory_upto g (data_in image v) (owned_in image v f) (end_in image v f)) dir =
        at place.0 (length (directory_in image v f)) mine (end_in image v f) (entries_of (directory_in image v f)) (members_in image v f) place.1 first (set_body ∙ body_is)
        in
        let read : IsRead (directory_in image v f) dir = read_of_stands (directory_in image v f) dir (subst (λ (bs : List Block). StandsSo bs dir) (sym (directory_in_is image v f part.readable)) stood.1) in
        let count : length (directory_in image v f) ≡ length dir.places.items = sym (ap length read.places ∙ length-map (directory_in image v f) (λ (b : Block). b.place)) in
        let entries = entries_stored (directory_in image v f) dir lawful read in
        record {
          body = body_is ∙ (λ i. Part (count i) (end_in image v f) (entries i) (members_in image v f));
          read = read;
          end = stood.0;
        }

    stands_there : IsReadIn image v f dir → (n : ℕ) (end : Place) (es : List Entry) (bs : List Block) → mine.body ≡ Part n end es bs → (dir.end ≡ end) × StandsSo (directory_upto g (data_in image v) (owned_tracks mine.extents) end) dir
    unfolding data_set_of
    stands_there read n end es bs is =
        let both : Part (length dir.places.items) (end_in image v f) (kept name_number (joined (entries_read dir))) (members_in image v f) ≡ Part n end es bs = sym read.body ∙ sym set_body ∙ is in
        let same : end_in image v f ≡ end = cc in (
          read.end ∙ same,
          subst (λ (p : Place). StandsSo (directory_upto g (data_in image v) (owned_in image v f) p) dir) same
              (subst (λ (bs : List Block). StandsSo bs dir) (directory_in_is image v f part.readable) (stands_of_read (directory_in image v f) dir read.read)),
        )

    once : OwnsOnce w
    once = (lawful_volume image w part.part.set.mounted.volume).owned

    begins : slice_get (owned_tracks mine.extents) 0 ≡ Some start
    unfolding data_set_of
    begins = first

    -- One that was read of it stands there: no other set begins on that track.
    pub directory_read : IsReadIn image v f dir → IsDirectoryAt image w start dir
    unfolding volume_with
    directory_read read k n x end es bs there own is = elim (eqb_tells k place.0) [
      | inl e ↦ same e.1
      | inr e ↦ absurd (sets_apart w once k place.0 x mine there place.1 e.1 0 0 start own begins)
    ]
      where
        same : k ≡ place.0 → (dir.end ≡ end) × StandsSo (directory_upto g (data_in image v) (owned_tracks x.extents) end) dir
        same e =
            let both : Some mine ≡ Some x = sym place.1 ∙ ap (slice_get w.sets) (sym e) ∙ there in
            let set : mine ≡ x = cc in
            subst (λ (y : DataSet). y.body ≡ Part n end es bs → (dir.end ≡ end) × StandsSo (directory_upto g (data_in image v) (owned_tracks y.extents) end) dir) set (stands_there read n end es bs) is
