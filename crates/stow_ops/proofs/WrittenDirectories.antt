-- An image on which a block of a directory is written has the directory with that block, and is else as before.
use Rattle.std.proofs.Common.{◌≡◌, ◌≢◌, ◌+◌, ◌-◌, ◌≤◌, ◌<◌, ◌%◌, ℕ, zero, suc, Bool, true, false, ◌||◌, List, [], ◌∷◌, length, map, take, Option, Some, None, refl, sym, ap, ap₂, ◌∙◌, subst, arith, ⊎_elim}
use Rattle.std.specs.Prelude.{◌==◌, is_none, position, slice_get, slice_set, unwrap_or}
use Rattle.std.specs.List.{flat_map, list_any}
use Rattle.std.specs.Option.{option_map}
use Rattle.std.proofs.lemmas.Bool.Decides.{eqb_tells, nat_tests}
use Rattle.chain_spec.specs.Store.{Block as Stored}
use Rattle.ckd_image.specs.declared.header.Geometry.{Geometry}
use Rattle.dscb_codec.specs.declared.F1.{F1}
use Rattle.pack_spec.specs.Blocks.{records_in}
use Rattle.pack_spec.specs.Directories.{before_end, behind_end, block_entries, end_from, part_tracks, read_to, stored_in}
use Rattle.track_records.specs.Updates.{with_parts}
use Rattle.set_records.specs.Rewriting.{HasRewritten}
use Rattle.vol_model.specs.declared.contents.Block.{Block}
use Rattle.vol_model.specs.declared.contents.Entry.{Entry}
use Rattle.vol_model.specs.declared.contents.Place.{Place}
use Rattle.vol_model.specs.Places.{is_before}
use Rattle.vol_model.specs.Space.{is_in}
use Rattle.vtoc_index.specs.declared.vol.Vol.{Vol}
use Rattle.pds_directory.specs.Directories.{IsPartIn, blocks_in, broken_in, data_in, directory_in, end_in, owned_in, tracks_in}
use Rattle.stow_ops.specs.Stores.{DifferOn, HasStore, directory_tracks, store_in}
use Rattle.stow_ops.proofs.DirectoryImages.{DifferOnOwned, same_owned}
use Rattle.stow_ops.proofs.FoundBlocks.{IsFound, block_found}
use Rattle.pds_directory.proofs.PartSets.{outside, own_once}
use Rattle.vtoc_sets.proofs.Owners.{data_read, read_bytes}
use Rattle.stow_ops.proofs.WrittenBlocks.{change_other, end_kept, place_kept, rewritten, tracks_kept}
use Rattle.stow_ops.proofs.WrittenStores.{all_apart, all_changed, apart_filter, before_same, behind_same, broken_same, not_both, one_changed, places_same}

-- ---- tracks of a list

any_there : (ts : List ℕ) (n k t : ℕ) → slice_get ts k ≡ Some t → k < n → list_any (λ (x : ℕ). x == t) (take n ts) ≡ true
any_there [] n k t is low = cc
any_there (x ∷ ts) zero k t is low = absurd (omega (arith, low))
any_there (x ∷ ts) (suc n) zero t is low =
    let same : x ≡ t = cc in
    ap (λ (b : Bool). b || list_any (λ (y : ℕ). y == t) (take n ts)) (itself x t same)
  where
    itself : (m n : ℕ) → m ≡ n → (m == n) ≡ true
    itself m n same = grind (arith, nat_tests)
any_there (x ∷ ts) (suc n) (suc k) t is low = or_rest (x == t) (list_any (λ (y : ℕ). y == t) (take n ts)) (any_there ts n k t is (omega (arith, low)))
  where
    or_rest : (b c : Bool) → c ≡ true → (b || c) ≡ true
    or_rest true c is = refl
    or_rest false c is = is

not_there : (ts : List ℕ) (n t : ℕ) → ((k : ℕ) → slice_get ts k ≡ Some t → ⊥) → list_any (λ (x : ℕ). x == t) (take n ts) ≡ false
not_there [] zero t none = refl
not_there [] (suc n) t none = refl
not_there (x ∷ ts) zero t none = refl
not_there (x ∷ ts) (suc n) t none = ⊎_elim (λ w. absurd (none zero (ap Some w.1))) (λ w. ap (λ (b : Bool). b || list_any (λ (y : ℕ). y == t) (take n ts)) w.0 ∙ not_there ts n t (λ k is. none (suc k) is)) (eqb_tells x t)

-- images that differ on the tracks of a directory differ on those of its data set alone
pub on_owned : (v : Vol) (f : F1) (before after : List ℕ) → DifferOn v.geometry (directory_tracks before v f) before after → DifferOnOwned v f before after
on_owned v f before after differ = record {
  size = differ.size;
  header = differ.header;
  others = λ track none. differ.others track (not_there (owned_in before v f) (suc (end_in before v f).tt) track none);
}

-- ---- a block that is written

-- this key and these data are those of a block for a place of a directory that can be read
pub record Rewrites (v : Vol) (f : F1) (k : ℕ) (place : Place) (key content : List ℕ) (block : Stored Entry) (before : List ℕ) : Type 0 where
  pub part : IsPartIn before v f
  pub whole : broken_in before v f ≡ None
  pub b : Block
  pub at : slice_get (directory_in before v f) k ≡ Some b
  pub is : b.place ≡ place
  pub keys : length key ≡ 8
  pub contents : length content ≡ 256
  pub reads : block_entries (map (λ (x : ℕ). x % 256) content) ≡ Some block

module _ (v : Vol) (f : F1) (k : ℕ) (place : Place) (key content : List ℕ) (block : Stored Entry) (before after : List ℕ)
    (w : Rewrites v f k place key content block before) (up : HasRewritten v f place key content before after) where
  abbrev g : Geometry
  g = v.geometry

  abbrev i : ℕ
  i = place.r - 1

  abbrev end : Place
  end = end_in before v f

  abbrev to : Place
  to = read_to end f.lstar

  found : IsFound g (data_in before v) (owned_in before v f) place × (is_before place end ≡ true)
  found = subst (λ (p : Place). IsFound g (data_in before v) (owned_in before v f) p × (is_before p end ≡ true)) w.is (block_found g (data_in before v) (owned_in before v f) end to k w.b w.at)

  number : 1 + i ≡ place.r
  number = omega (arith, found.0.first)

  same_some : (x y : ℕ) → Some x ≡ Some y → x ≡ y
  same_some x y e = cc

  track_is : found.0.track ≡ up.track
  track_is = same_some found.0.track up.track (sym found.0.there ∙ up.owned)

  out : is_in up.track v.vtoc ≡ false
  out = outside before v f w.part place.tt up.track up.owned

  others : (t : ℕ) (u : Option ℕ) → t ≢ up.track → records_in g (data_in after v) u t ≡ records_in g (data_in before v) u t
  others t u apart = read_bytes g v.vtoc before after u t (up.others t apart)

  mine : (u : Option ℕ) → records_in g (data_in after v) u up.track ≡ option_map (with_parts i key content) (records_in g (data_in before v) u up.track)
  mine u =
      data_read after g v.vtoc u up.track out up.inside
      ∙ up.records u
      ∙ ap (option_map (with_parts i key content)) (sym (data_read before g v.vtoc u up.track out up.inside))

  read : records_in g (data_in before v) (Some place.r) up.track ≡ Some found.0.held
  read = ap (records_in g (data_in before v) (Some place.r)) (sym track_is) ∙ found.0.read

  once : (j : ℕ) → slice_get (owned_in before v f) j ≡ Some up.track → j ≡ place.tt
  once j there = own_once before v f w.part j place.tt up.track there up.owned

  low : place.tt ≤ end.tt
  low = before_track place end found.1
    where
      before_track : (p q : Place) → is_before p q ≡ true → p.tt ≤ q.tt
      before_track p q is = grind (arith, nat_tests)

  differ : DifferOn g (directory_tracks before v f) before after
  differ = record {
    size = up.size;
    header = up.header;
    others = λ track none. up.others track (λ same. never (sym none ∙ ap (λ (t : ℕ). list_any (λ (x : ℕ). x == t) (directory_tracks before v f)) same ∙ any_there (owned_in before v f) (suc end.tt) place.tt up.track up.owned (omega (arith, low))));
  }
    where
      never : false ≡ true → ⊥
      never e = cc

  abbrev change : Block → Block
  change = rewritten place key content

  owned_after : owned_in after v f ≡ owned_in before v f
  owned_after = same_owned before after v f w.part (on_owned v f before after differ) f

  end_after : end_in after v f ≡ end
  end_after = ap (end_from g (data_in after v) 0) owned_after ∙ end_kept place key content w.keys w.contents g (data_in before v) (data_in after v) (owned_in before v f) up.track i found.0.held others mine number read found.0.lengths up.owned once

  tracks_after : tracks_in after v f ≡ map (option_map (map change)) (tracks_in before v f)
  tracks_after =
      ap₂ (λ (ts : List ℕ) (p : Place). part_tracks g (data_in after v) ts p (read_to p f.lstar)) owned_after end_after
      ∙ tracks_kept place key content w.keys w.contents g (data_in before v) (data_in after v) (owned_in before v f) up.track i found.0.held others mine number read found.0.lengths up.owned once end to found.1

  blocks_after : blocks_in after v f ≡ map change (blocks_in before v f)
  blocks_after = ap (λ (ts : List (Option (List Block))). flat_map (λ o. unwrap_or o []) ts) tracks_after ∙ all_changed change (tracks_in before v f)

  stays : (b : Block) → (change b).place ≡ b.place
  stays = place_kept place key content

  directory_after : directory_in after v f ≡ map change (directory_in before v f)
  directory_after = ap₂ before_end end_after blocks_after ∙ before_same change stays end (blocks_in before v f)

  -- The image has the directory with that block.
  pub block_written : HasStore v f (slice_set (store_in before v f) k (Some block)) before after
  block_written = record {
    differ = differ;
    end = end_after;
    places = ap (map (λ (b : Block). b.place)) directory_after ∙ places_same change stays (directory_in before v f);
    stored =
        ap (map stored_in) directory_after
        ∙ one_changed stored_in key content (directory_in before v f) k w.b place w.is (apart_filter (λ (b : Block). is_before b.place end) (blocks_in before v f) (all_apart g (data_in before v) (owned_in before v f) end to)) w.at
        ∙ ap (slice_set (store_in before v f) k) w.reads;
    members =
        ap₂ behind_end end_after blocks_after
        ∙ behind_same change stays end (blocks_in before v f) (λ b behind. change_other place key content b (λ same. not_both place end found.1 (ap (is_before end) (sym same) ∙ behind)));
    whole = ap (position (λ o. is_none o)) tracks_after ∙ broken_same change (tracks_in before v f) ∙ w.whole;
  }
