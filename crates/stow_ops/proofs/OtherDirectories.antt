-- Where the directory of one data set is written, those of others stay as they are.
use Rattle.std.proofs.Common.{◌≡◌, ◌≢◌, ◌+◌, ℕ, zero, suc, false, cond, ◌&&◌, List, [], ◌∷◌, length, map, Option, Some, None, Result, Ok, refl, sym, ap, ap₂, ◌∙◌, subst, arith, option_and_then}
use Rattle.std.specs.Prelude.{◌==◌, slice_get, unwrap_or}
use Rattle.std.specs.List.{cons_option, filter_map, find, flat_map, list_any}
use Rattle.std.specs.Option.{option_map_or}
use Rattle.chain_spec.specs.Kept.{joined, kept}
use Rattle.ckd_image.specs.declared.header.Geometry.{Geometry}
use Rattle.ckd_image.specs.Track.{Record}
use Rattle.dscb_codec.specs.declared.Dscb.{Dscb}
use Rattle.dscb_codec.specs.declared.Dscb.TheVariants as formats
use Rattle.dscb_codec.specs.declared.DscbErr.{DscbErr}
use Rattle.dscb_codec.specs.declared.F1.{F1}
use Rattle.pack_spec.specs.declared.slot.VtocSlot.{VtocSlot}
use Rattle.pack_spec.specs.Blocks.{records_in, upto_last}
use Rattle.pack_spec.specs.Directories.{before_end, behind_end, end_from, end_or, end_record, is_end_record, name_number, part_at, part_blocks, part_body, part_on, part_tracks, read_to, record_numbers}
use Rattle.pack_spec.specs.Rules.{has_extents, set_in}
use Rattle.pack_spec.proofs.BlockBodies.{map_range}
use Rattle.pack_spec.proofs.PartBodies.{same_part}
use Rattle.track_records.specs.Buffers.{Buffer}
use Rattle.vol_model.specs.declared.contents.Block.{Block}
use Rattle.vol_model.specs.declared.contents.Body.TheVariants as bodies
use Rattle.vol_model.specs.declared.contents.Place.{Place}
use Rattle.vol_model.specs.declared.contents.Run.{Run}
use Rattle.vol_model.specs.Shelf.{unreadable}
use Rattle.vtoc_index.specs.declared.vol.Vol.{Vol}
use Rattle.vtoc_index.specs.Index.{AreDscbs, IsMounted}
use Rattle.vtoc_sets.specs.Sets.{extents_in}
use Rattle.pds_directory.specs.declared.dir.Dir.{Dir}
use Rattle.pds_directory.specs.Directories.{IsPartIn, IsRead, IsReadIn, IsReadablePart, blocks_in, data_in, directory_in, end_in, entries_read, members_in, owned_in, part_in, tracks_in}
use Rattle.stow_ops.specs.declared.packings.Packing.{Packing}
use Rattle.stow_ops.specs.Packing.{IsPackingOf}
use Rattle.stow_ops.specs.Stores.{DifferOn, directory_tracks}
use Rattle.stow_ops.proofs.DirectoryImages.{DifferOnOwned, same_extents, same_owned, slots_kept}
use Rattle.pds_directory.proofs.PartSets.{fs, runs, set_out, sets_once, slots}
use Rattle.vtoc_sets.proofs.OwnedSets.{among_sets}
use Rattle.vtoc_sets.proofs.Owners.{on_same, owned_some, two_of}
use Rattle.slot_laws.proofs.SameSlots.{by_bytes}
use Rattle.stow_ops.proofs.WrittenDirectories.{on_owned}

-- ---- directories on tracks that are read alike

end_alike : (g : Geometry) (a b : List (List ℕ)) (t : ℕ) → ((r : ℕ) → records_in g b (Some r) t ≡ records_in g a (Some r) t) → end_record g b t ≡ end_record g a t
unfolding end_record
end_alike g a b t same = λ i. find (λ r. option_map_or (list_any is_end_record) (same r i) false) record_numbers

end_same : (g : Geometry) (a b : List (List ℕ)) (k : ℕ) (ts : List ℕ) → ((j t : ℕ) → slice_get ts j ≡ Some t → end_record g b t ≡ end_record g a t) → end_from g b k ts ≡ end_from g a k ts
unfolding end_from
end_same g a b k [] same = refl
end_same g a b k (t ∷ ts) same = ap₂ (end_or k) (end_same g a b (k + 1) ts (λ j u there. same (suc j) u there)) (same zero t refl)

part_at_same : (g : Geometry) (a b : List (List ℕ)) (owned : List ℕ) (end to : Place) (k : ℕ) → ((t : ℕ) → slice_get owned k ≡ Some t → records_in g b (upto_last to k) t ≡ records_in g a (upto_last to k) t) → part_at g b owned end to k ≡ part_at g a owned end to k
unfolding part_at part_on
part_at_same g a b owned end to k same = by (slice_get owned k) refl
  where
    by : (o : Option ℕ) → slice_get owned k ≡ o → option_and_then (part_on g b end to k) o ≡ option_and_then (part_on g a end to k) o
    by None there = refl
    by (Some t) there = ap (λ (o : Option (List Record)). cond ((k == to.tt) && (to.r == 0)) None (option_and_then (part_blocks end k) o)) (same t there)

-- ---- two sets in the index

abbrev sets_in : List VtocSlot → List F1
sets_in slots = filter_map (λ (s : VtocSlot). set_in s.content) slots

-- the places of two format 1s among the data sets in slots
record AreApart (slots : List VtocSlot) (f x : F1) : Type 0 where
  first : ℕ
  second : ℕ
  is_first : slice_get (sets_in slots) first ≡ Some f
  is_second : slice_get (sets_in slots) second ≡ Some x
  apart : first ≢ second

swapped : (all : List VtocSlot) (f x : F1) → AreApart all f x → AreApart all x f
swapped all f x are = record { first = are.second; second = are.first; is_first = are.is_second; is_second = are.is_first; apart = λ same. are.apart (sym same) }

behind_first : (s : VtocSlot) (slots : List VtocSlot) (f x : F1) (m : ℕ) → set_in s.content ≡ Some f → slice_get (sets_in slots) m ≡ Some x → AreApart (s ∷ slots) f x
behind_first s slots f x m set there = record {
  first = zero;
  second = suc m;
  is_first = ap (λ (o : Option F1). slice_get (cons_option o (sets_in slots)) zero) set;
  is_second = ap (λ (o : Option F1). slice_get (cons_option o (sets_in slots)) (suc m)) set ∙ there;
  apart = λ same. absurd (omega (arith, same));
}

behind_any : (s : VtocSlot) (slots : List VtocSlot) (f x : F1) → AreApart slots f x → AreApart (s ∷ slots) f x
behind_any s slots f x are = by (set_in s.content) refl
  where
    by : (o : Option F1) → set_in s.content ≡ o → AreApart (s ∷ slots) f x
    by None set = record {
      first = are.first;
      second = are.second;
      is_first = ap (λ (o : Option F1). slice_get (cons_option o (sets_in slots)) are.first) set ∙ are.is_first;
      is_second = ap (λ (o : Option F1). slice_get (cons_option o (sets_in slots)) are.second) set ∙ are.is_second;
      apart = are.apart;
    }
    by (Some h) set = record {
      first = suc are.first;
      second = suc are.second;
      is_first = ap (λ (o : Option F1). slice_get (cons_option o (sets_in slots)) (suc are.first)) set ∙ are.is_first;
      is_second = ap (λ (o : Option F1). slice_get (cons_option o (sets_in slots)) (suc are.second)) set ∙ are.is_second;
      apart = λ same. are.apart (omega (arith, same));
    }

are_apart : (slots : List VtocSlot) (dscbs : List Dscb) (j k : ℕ) (f x : F1) → AreDscbs dscbs slots → slice_get dscbs j ≡ Some (formats.F1 f) → slice_get dscbs k ≡ Some (formats.F1 x) → k ≢ j → AreApart slots f x
are_apart slots [] j k f x are first second apart = cc
are_apart [] (d ∷ dscbs) j k f x are first second apart = absurd (empty (Ok d) (map Ok dscbs) are)
  where
    empty : (c : Result Dscb DscbErr) (rest : List (Result Dscb DscbErr)) → [] ≡ c ∷ rest → ⊥
    empty c rest same = cc
are_apart (s ∷ slots) (d ∷ dscbs) zero zero f x are first second apart = absurd (apart refl)
are_apart (s ∷ slots) (d ∷ dscbs) zero (suc k) f x are first second apart =
    let same : d ≡ formats.F1 f = cc in
    let content : s.content ≡ Ok d = cc in
    let more : AreDscbs dscbs slots = cc in
    let rest = among_sets slots dscbs k x more second in
    behind_first s slots f x rest.0 (ap set_in (content ∙ ap Ok same)) rest.1
are_apart (s ∷ slots) (d ∷ dscbs) (suc j) zero f x are first second apart =
    let same : d ≡ formats.F1 x = cc in
    let content : s.content ≡ Ok d = cc in
    let more : AreDscbs dscbs slots = cc in
    let rest = among_sets slots dscbs j f more first in
    swapped (s ∷ slots) x f (behind_first s slots x f rest.0 (ap set_in (content ∙ ap Ok same)) rest.1)
are_apart (s ∷ slots) (d ∷ dscbs) (suc j) (suc k) f x are first second apart =
    let more : AreDscbs dscbs slots = cc in
    behind_any s slots f x (are_apart slots dscbs j k f x more first second (λ same. apart (ap suc same)))

-- ---- the directory of another data set

module _ (before after : List ℕ) (v : Vol) (f : F1) (slot : ℕ) (part : IsPartIn before v f) (there : slice_get v.slots.items slot ≡ Some (formats.F1 f)) (differ : DifferOnOwned v f before after)
    (x : F1) (k : ℕ) (other : slice_get v.slots.items k ≡ Some (formats.F1 x)) (apart : k ≢ slot) where
  abbrev g : Geometry
  g = v.geometry

  two : AreApart (slots before v f part) f x
  two = are_apart (slots before v f part) v.slots.items slot k f x part.set.mounted.index.slots there other apart

  abbrev own : List ℕ
  own = owned_in before v x

  read_alike : (j t : ℕ) (u : Option ℕ) → slice_get own j ≡ Some t → records_in g (data_in after v) u t ≡ records_in g (data_in before v) u t
  read_alike j t u mine =
      on_same g v.vtoc before after u t (set_out before v f part x two.second j t two.is_second mine)
      (by_bytes g u t before after (differ.others t (λ i theirs. absurd (omega (arith, sets_once before v f part t, two_of (runs before v f part) t (fs before v f part) two.first two.second f x two.is_first two.is_second two.apart, owned_some (runs before v f part x) j t mine, owned_some (runs before v f part f) i t theirs)))))

  end_stays : end_in after v x ≡ end_in before v x
  end_stays = ap (end_from g (data_in after v) 0) (same_owned before after v f part differ x) ∙ end_same g (data_in before v) (data_in after v) 0 own (λ j t mine. end_alike g (data_in before v) (data_in after v) t (λ r. read_alike j t (Some r) mine))

  tracks_stay : tracks_in after v x ≡ tracks_in before v x
  unfolding part_tracks
  tracks_stay =
      let end : Place = end_in before v x in
      let to : Place = read_to end x.lstar in
      ap (λ (ts : List ℕ). part_tracks g (data_in after v) ts (end_in after v x) (read_to (end_in after v x) x.lstar)) (same_owned before after v f part differ x)
      ∙ ap (λ (p : Place). part_tracks g (data_in after v) own p (read_to p x.lstar)) end_stays
      ∙ map_range (part_at g (data_in after v) own end to) (part_at g (data_in before v) own end to) (to.tt + 1) 0 (λ j l u. part_at_same g (data_in before v) (data_in after v) own end to j (λ t mine. read_alike j t (upto_last to j) mine))

  blocks_stay : blocks_in after v x ≡ blocks_in before v x
  blocks_stay = ap (λ (ts : List (Option (List Block))). flat_map (λ o. unwrap_or o []) ts) tracks_stay

  pub directory_stays : directory_in after v x ≡ directory_in before v x
  directory_stays = ap₂ before_end end_stays blocks_stay

  members_stay : members_in after v x ≡ members_in before v x
  members_stay = ap₂ behind_end end_stays blocks_stay

  part_stays : part_in after v x ≡ part_in before v x
  part_stays =
      ap (λ (xs : List Run). part_body g (data_in after v) xs x.lstar) (same_extents before after v f part differ x)
      ∙ same_part g (data_in before v) (data_in after v) (extents_in before v x) x.lstar read_alike

  -- What was read of it is what an image has.
  pub read_stays : (dir : Dir) → IsReadIn before v x dir → IsReadIn after v x dir
  read_stays dir read = record {
    body = part_stays ∙ read.body ∙ ap₂ (λ (p : Place) (bs : List Block). bodies.Part (length dir.places.items) p (kept name_number (joined (entries_read dir))) bs) (sym end_stays) (sym members_stay);
    read = subst (λ (d : List Block). IsRead d dir) (sym directory_stays) read.read;
    end = read.end ∙ sym end_stays;
  }

  -- It can be read still.
  pub readable_stays : (b : Buffer) → IsMounted after (record v { buf = b }) → IsReadablePart before v x → IsReadablePart after (record v { buf = b }) x
  readable_stays b mounted readable = record {
    part = record {
      set = record { mounted = mounted; extents = ap (λ (ss : List VtocSlot). has_extents g ss x) (slots_kept before after v f part differ) ∙ readable.part.set.extents };
      slot = k;
      dscb = other;
      partitioned = readable.part.partitioned;
    };
    readable = ap unreadable part_stays ∙ readable.readable;
  }

-- ---- where one directory was written

module _ (before after : List ℕ) (v v' : Vol) (f : F1) (slot : ℕ) (part : IsReadablePart before v f) (there : slice_get v.slots.items slot ≡ Some (formats.F1 f))
    (differ : DifferOn v.geometry (directory_tracks before v f) before after) (others : v' ≡ record v { buf = v'.buf })
    (x : F1) (k : ℕ) (other : slice_get v.slots.items k ≡ Some (formats.F1 x)) (apart : k ≢ slot) where
  abbrev on : DifferOnOwned v f before after
  on = on_owned v f before after differ

  -- The directory of another data set is as it was.
  pub other_directory : directory_in after v' x ≡ directory_in before v x
  other_directory = ap (λ (u : Vol). directory_in after u x) others ∙ directory_stays before after v f slot part.part there on x k other apart

  pub other_readable : IsMounted after v' → IsReadablePart before v x → IsReadablePart after v' x
  other_readable mounted readable =
      subst (λ (u : Vol). IsReadablePart after u x) (sym others)
      (readable_stays before after v f slot part.part there on x k other apart v'.buf (subst (IsMounted after) others mounted) readable)

  -- By what it came to be packed it still does.
  pub other_packing : (p : Packing) → IsPackingOf before v x p → IsPackingOf after v' x p
  other_packing p packing =
      let read : IsReadIn after v x packing.dir = read_stays before after v f slot part.part there on x k other apart packing.dir packing.read in
      subst (λ (u : Vol). IsPackingOf after u x p) (sym others) (record { dir = packing.dir; is = packing.is; read = record { body = read.body; read = read.read; end = read.end } })
