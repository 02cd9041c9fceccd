-- A data set on an image, and on one that differs after its last block alone.
use Rattle.std.proofs.Common.{◌≡◌, ◌⊎◌, subst, ◌+◌, ◌≤◌, ◌<◌, ◌/◌, ◌%◌, ℕ, Bool, true, cond, List, [], length, take, map, Option, Some, None, inl, refl, sym, ap, ◌∙◌, arith, ⊎_elim}
use Rattle.std.specs.Prelude.{slice_get}
use Rattle.std.specs.List.{range_with_len}
use Rattle.ckd_image.specs.declared.header.Geometry.{Geometry}
use Rattle.ckd_image.specs.Track.{Record}
use Rattle.ckd_image.proofs.GeometryLemmas.{has_geometry}
use Rattle.dscb_codec.specs.declared.F1.{F1}
use Rattle.vol_model.specs.declared.contents.Body.{Body}
use Rattle.vol_model.specs.declared.contents.Body.TheVariants.{Seq}
use Rattle.vol_model.specs.declared.contents.Place.{Place}
use Rattle.vol_model.specs.declared.contents.Run.{Run}
use Rattle.pack_spec.specs.declared.slot.VtocSlot.{VtocSlot}
use Rattle.pack_spec.specs.Blocks.{blocks_at, has_no_block, last_of, owned_tracks, seq_body, seq_of}
use Rattle.pack_spec.specs.Bodies.{body_of}
use Rattle.pack_spec.specs.Label.{heads_of, records_on, track_bytes}
use Rattle.pack_spec.specs.Rules.{has_extents}
use Rattle.pack_spec.specs.Volume.{attr_of}
use Rattle.pack_spec.proofs.BlockBodies.{same_body}
use Rattle.track_records.specs.Appends.{MayContinue, continuation, start_behind}
use Rattle.track_records.specs.Buffers.{Buffer}
use Rattle.track_records.specs.Written.{StandsOn}
use Rattle.track_records.proofs.FrontLemmas.{first_of}
use Rattle.vtoc_index.specs.declared.vol.Vol.{Vol}
use Rattle.vtoc_index.specs.Last.{lstar_of}
use Rattle.vtoc_sets.specs.Sets.{HasSet, extents_in}
use Rattle.seq_access.specs.Bodies.{IsLastOf, IsSetIn, IsWritable, body_of_set, body_upto, data_in, last_read, owned_in}
use Rattle.seq_access.specs.Writing.{DifferBehind}
use Rattle.vtoc_sets.proofs.OtherBuffers.{mounted_with}
use Rattle.vtoc_sets.proofs.OwnedSets.{outside}
use Rattle.vtoc_sets.proofs.OwnedSets.{own_inside}
use Rattle.vtoc_sets.proofs.OwnedSets.{own_once as own_apart}
use Rattle.vtoc_sets.proofs.Owners.{on_same}
use Rattle.seq_access.proofs.LastPlaces.{last_said}
use Rattle.seq_access.proofs.SparedCalls.{differ_by}
use Rattle.seq_access.proofs.SparedFiles.{MayWrite}
use Rattle.slot_laws.proofs.SameSlots.{by_bytes}
use Rattle.seq_access.proofs.SparedImages.{own_kept, same_extents, slots_kept, spared_mounted}
use Rattle.seq_access.proofs.WritersKept.{set_by}

-- of records that are read the first ones are read too
pub first_on : (image : List ℕ) (g : Geometry) (u : Option ℕ) (t n : ℕ) (xs : List Record) → records_on image g u t ≡ Some xs → n ≤ length xs → records_on image g (Some n) t ≡ Some (take n xs)
unfolding records_on
first_on image g u t n xs is low = first_of (t / heads_of g) (t % heads_of g) u (track_bytes image g t) xs is n low

-- an index without the records in its buffer
abbrev pub bare : Vol → Vol
bare v = record v { buf = record (v.buf) { records = [] } }

-- a data set of an image by an index is one by that
pub bare_set : (image : List ℕ) (v : Vol) (f : F1) → IsSetIn image v f → IsSetIn image (bare v) f
bare_set image v f set = record { set = set_by image v (record (v.buf) { records = [] }) f set.set refl; slot = set.slot; dscb = set.dscb }

-- The body up to a last block is the same where the records are that it is made of.
module _ (before after : List ℕ) (v : Vol) (f : F1) (set : IsSetIn before v f) (lstar : List ℕ)
    (earlier : (k t : ℕ) → k < (last_of lstar).tt → slice_get (owned_in before v f) k ≡ Some t → records_on after v.geometry None t ≡ records_on before v.geometry None t)
    (at : (t : ℕ) → slice_get (owned_in before v f) (last_of lstar).tt ≡ Some t → 1 ≤ (last_of lstar).r → records_on after v.geometry (Some (last_of lstar).r) t ≡ records_on before v.geometry (Some (last_of lstar).r) t) where
  abbrev g : Geometry
  g = v.geometry

  abbrev extents : List Run
  extents = extents_in before v f

  pub upto_kept : (has_no_block lstar ≡ true) ⊎ (1 ≤ (last_of lstar).r) → seq_body g (data_in after v) extents lstar ≡ seq_body g (data_in before v) extents lstar
  unfolding seq_body
  upto_kept some = ⊎_elim none_there (λ first. same_body g (data_in before v) (data_in after v) extents lstar
      (λ k t low own. on_same g v.vtoc before after None t (outside before v f set k t own) (earlier k t low own))
      (λ t own. on_same g v.vtoc before after (Some (last_of lstar).r) t (outside before v f set (last_of lstar).tt t own) (at t own first))) some
    where
      none_there : has_no_block lstar ≡ true → seq_body g (data_in after v) extents lstar ≡ seq_body g (data_in before v) extents lstar
      none_there none =
          ap (λ (c : Bool). cond c (Seq []) (seq_of (map (blocks_at g (data_in after v) (owned_tracks extents) (last_of lstar)) (range_with_len 0 ((last_of lstar).tt + 1))))) none
          ∙ sym (ap (λ (c : Bool). cond c (Seq []) (seq_of (map (blocks_at g (data_in before v) (owned_tracks extents) (last_of lstar)) (range_with_len 0 ((last_of lstar).tt + 1))))) none)

module _ (before after : List ℕ) (v : Vol) (f : F1) (set : IsSetIn before (bare v) f) (last : Place) (differ : DifferBehind v f last before after) where
  differ_bare : DifferBehind (bare v) f last before after
  differ_bare = differ_by v (record (v.buf) { records = [] }) f last before after differ

  pub same_runs : extents_in after v f ≡ extents_in before v f
  same_runs = same_extents before after (bare v) f set last differ_bare f

  pub tracks_kept : owned_in after v f ≡ owned_in before v f
  tracks_kept = ap owned_tracks same_runs

  -- what differs so does in the other direction, too
  pub differ_back : DifferBehind v f last after before
  differ_back = record {
    size = sym differ.size;
    header = sym differ.header;
    others = λ track out. sym (differ.others track (λ k own past. out k (ap (λ (ts : List ℕ). slice_get ts k) tracks_kept ∙ own) past));
    kept = λ track own first. sym (differ.kept track (ap (λ (ts : List ℕ). slice_get ts last.tt) (sym tracks_kept) ∙ own) first);
  }

  -- the records up to there are the same
  pub front_kept : last.tt < 65536 → last.r < 256 → (has_no_block (lstar_of last) ≡ true) ⊎ (1 ≤ (last_of (lstar_of last)).r) → body_upto after v f (lstar_of last) ≡ body_upto before v f (lstar_of last)
  front_kept low small some =
      let said : last_of (lstar_of last) ≡ last = last_said last low small in
      let at : (t : ℕ) → slice_get (owned_in before v f) (last_of (lstar_of last)).tt ≡ Some t → 1 ≤ (last_of (lstar_of last)).r → records_on after v.geometry (Some (last_of (lstar_of last)).r) t ≡ records_on before v.geometry (Some (last_of (lstar_of last)).r) t =
      subst (λ (p : Place). (t : ℕ) → slice_get (owned_in before v f) p.tt ≡ Some t → 1 ≤ p.r → records_on after v.geometry (Some p.r) t ≡ records_on before v.geometry (Some p.r) t) (sym said) differ.kept in
      ap (λ (xs : List Run). seq_body v.geometry (data_in after v) xs (lstar_of last)) same_runs
      ∙ upto_kept before after (bare v) f set (lstar_of last)
      (λ k t under own. by_bytes v.geometry None t before after (differ.others t (λ j mine past. absurd (omega (arith, under, past, ap (λ (p : Place). p.tt) said, own_apart before (bare v) f set k j t own mine)))))
      at some

  -- where the record is the set's last, so is its body
  module _ (ends : IsLastOf before v f last) where
    pub body_kept : body_of_set after v f ≡ body_of_set before v f
    body_kept =
        ap (λ (xs : List Run). body_of v.geometry (data_in after v) f.name (attr_of f) xs f.lstar) same_runs
        ∙ own_kept before after (bare v) f set last differ_bare ends

    pub ends_kept : IsLastOf after v f last
    ends_kept = (subst IsWritable (sym body_kept) ends.0, ends.1 ∙ ap (λ (b : Body). last_read b f.lstar) (sym body_kept))

    -- and it is one of that image, whatever the buffer holds of that
    pub set_kept : (b : Buffer) → (b.records ≡ []) ⊎ StandsOn after b → HasSet after (record v { buf = b }) f
    set_kept b held = record {
      mounted = mounted_with after (bare v) b (spared_mounted before after (bare v) f set last differ_bare ends (inl refl)) held;
      extents = ap (λ (ss : List VtocSlot). has_extents v.geometry ss f) (slots_kept before after (bare v) f set last differ_bare) ∙ set.set.extents;
    }

  -- A buffer of a track that isn't before the last record's, which holds the records up to that there, may be written after.
  pub may_write : (b : Buffer) (new : List Record) (k : ℕ) → b.geometry ≡ v.geometry → start_behind b.records + length (continuation b new) ≤ v.geometry.track_size
      → slice_get (owned_in after v f) k ≡ Some b.track → last.tt ≤ k → (last.tt ≡ k → last.r ≤ length b.records) → MayContinue after b → MayWrite before v f last b new
  may_write b new k same room owned past low may =
      let there : slice_get (owned_in before v f) k ≡ Some b.track = ap (λ (ts : List ℕ). slice_get ts k) (sym tracks_kept) ∙ owned in
      record {
        geometry = same;
        whole = has_geometry (take 512 before) (length before) v.geometry set.set.mounted.index.header;
        inside = own_inside before (bare v) f set k b.track there;
        room = room;
        k = k;
        owned = there;
        past = past;
        first = λ at one.
            let here = low (own_apart before (bare v) f set last.tt k b.track at there) in
            (here, sym (differ.kept b.track at one) ∙ front here one may);
      }
    where
      front : last.r ≤ length b.records → 1 ≤ last.r → MayContinue after b → records_on after v.geometry (Some last.r) b.track ≡ Some (take last.r b.records)
      front here one may = ⊎_elim (λ none. absurd (omega (arith, here, one, ap length none))) (λ stands.
          ap (λ (x : Geometry). records_on after x (Some last.r) b.track) (sym same)
          ∙ first_on after b.geometry stands.0 b.track last.r b.records stands.1 here) may
