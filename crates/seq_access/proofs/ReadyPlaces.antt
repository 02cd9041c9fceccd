-- Where a writer's next block goes, by the records in the buffer of the index.
use Rattle.std.proofs.Common.{◌≡◌, ◌+◌, ◌/◌, ◌%◌, ◌≤◌, ◌<◌, ℕ, zero, suc, Bool, true, false, List, [], ◌∷◌, ◌++◌, length, map, None, Option, Some, inl, inr, refl, sym, ap, ◌∙◌, subst, arith}
use Rattle.std.specs.Prelude.{slice_get, nat_le, ◌&&◌, ◌==◌}
use Rattle.std.proofs.lemmas.Bool.{and_parts, cases_lt, leb-true}
use Rattle.ckd_image.specs.declared.header.Geometry.{Geometry}
use Rattle.ckd_image.specs.Device.{row_of}
use Rattle.ckd_image.specs.Track.{Record}
use Rattle.hall_core.specs.Facts.{Attached}
use Rattle.pack_spec.specs.Blocks.{blocks_from, data_tracks, has_no_block, records_in}
use Rattle.pack_spec.specs.Label.{heads_of, records_on, tracks_of}
use Rattle.track_records.specs.Buffers.{Buffer}
use Rattle.track_records.specs.Calls.{HasTrack}
use Rattle.track_records.proofs.StandLemmas.{stand}
use Rattle.vol_model.specs.declared.contents.Block.{Block}
use Rattle.vol_model.specs.declared.contents.Body.TheVariants as bodies
use Rattle.vol_model.specs.declared.contents.Run.{Run}
use Rattle.vol_model.specs.Places.{Content, lengths, next_place, place_behind}
use Rattle.vol_model.specs.Space.{is_in}
use Rattle.vtoc_index.specs.declared.vol.Vol.{Vol}
use Rattle.vtoc_index.specs.Index.{IsOfUnit}
use Rattle.vtoc_index.specs.Last.{lstar_of}
use Rattle.vtoc_sets.specs.Sets.{extents_in}
use Rattle.seq_access.specs.declared.writer.Writer.{Writer}
use Rattle.seq_access.specs.Bodies.{IsSetIn, data_in, owned_in}
use Rattle.seq_access.specs.Writing.{AreThere, IsRoomy, IsWriting, record_next, sizes, written_by}
use Rattle.seq_access.proofs.BodyWalks.{body_none}
use Rattle.vtoc_sets.proofs.OwnedSets.{outside}
use Rattle.seq_access.proofs.EndedTracks.{count_on}
use Rattle.vtoc_sets.proofs.Owners.{data_past, data_read}
use Rattle.seq_access.proofs.LastPlaces.{last_said, some_said}
use Rattle.seq_access.proofs.MoreBlocks.{Parts, parts_of}
use Rattle.seq_access.proofs.NextPlaces.{next_behind, next_first}

-- records of a data track are those of the image
pub read_there : (image : List ℕ) (g : Geometry) (vtoc : Run) (u : Option ℕ) (t : ℕ) (xs : List Record) → is_in t vtoc ≡ false → records_in g (data_tracks image g vtoc) u t ≡ Some xs → records_on image g u t ≡ Some xs
read_there image g vtoc u t xs out is = elim (cases_lt t (tracks_of g)) [
  | inl w ↦ sym (data_read image g vtoc u t out w) ∙ is
  | inr w ↦ absurd (omega (arith, (stand (t / heads_of g) (t % heads_of g) u [] xs (sym (data_past image g vtoc u t w) ∙ is)).front))
]

-- a list that has none at a place ends before it
pub ends_before : (xs : List ℕ) (k : ℕ) → slice_get xs k ≡ None → length xs ≤ k
ends_before [] k is = omega arith
ends_before (x ∷ xs) zero is = cc
ends_before (x ∷ xs) (suc k) is = omega (arith, ends_before xs k is)

one_some : {X : Type 0} {a b : X} {o : Option X} → o ≡ Some a → o ≡ Some b → a ≡ b
one_some {a = a} {b = b} one other = let both : Some a ≡ Some b = sym one ∙ other in cc

-- an empty buffer of a track of a set has room
pub roomy_empty : (units : List Attached) (v : Vol) (b : Buffer) → IsOfUnit units v → b.geometry ≡ v.geometry → b.unit ≡ v.unit → b.track < tracks_of v.geometry → b.records ≡ [] → IsRoomy units b
roomy_empty units v b unit geometry number inside empty =
    let least = and_parts ((v.geometry.track_size % 512 == 0) && nat_le ((row_of v.geometry.device).largest_record + 37) v.geometry.track_size) (nat_le v.geometry.track_size 65536) unit.whole.track_size in
    let long = and_parts (v.geometry.track_size % 512 == 0) (nat_le ((row_of v.geometry.device).largest_record + 37) v.geometry.track_size) least.0 in
    let size : (row_of v.geometry.device).largest_record + 37 ≤ v.geometry.track_size = leb-true ((row_of v.geometry.device).largest_record + 37) v.geometry.track_size long.1 in
    let P : ℕ → Geometry → Type 0 = λ n g. HasTrack units n g b.track in
    let Q : List Record → Geometry → Type 0 = λ xs g. IsRoomy units (record { geometry = g; unit = b.unit; track = b.track; records = xs }) in
    let here : HasTrack units v.unit v.geometry b.track = record { attached = unit.attached; whole = unit.whole; inside = inside } in
    let mine : HasTrack units b.unit v.geometry b.track = subst (λ (n : ℕ). P n v.geometry) (sym number) here in
    let roomy : Q [] v.geometry = record { track = mine; few = omega arith; blocks = refl; room = omega (arith, size) } in
    subst (λ (g : Geometry). Q b.records g) (sym geometry) (subst (λ (xs : List Record). Q xs v.geometry) (sym empty) roomy)

module _ (image : List ℕ) (v : Vol) (w : Writer) (is : IsWriting image v w) (low : w.last.tt < 65536) (small : w.last.r < 256) where
  -- no block stands where none is the last
  none_written : w.last.r ≡ 0 → written_by is ≡ []
  none_written zero_r = by (has_no_block (lstar_of w.last)) refl
    where
      by : (b : Bool) → has_no_block (lstar_of w.last) ≡ b → written_by is ≡ []
      by true none =
          let both : bodies.Seq (written_by is) ≡ bodies.Seq [] = sym is.so_far ∙ body_none v.geometry (data_in image v) (extents_in image v is.f) (lstar_of w.last) none in
          cc
      by false some =
          let parts = parts_of v.geometry (extents_in image v is.f) (data_in image v) (lstar_of w.last) w.last (written_by is) (last_said w.last low small) some is.so_far in
          absurd (omega (arith, parts.first, zero_r))

  pub next_none : w.last.r ≡ 0 → (c : Content) → record_next is c ≡ record { tt = 0; r = 1 }
  next_none zero_r c = ap (λ (bs : List Block). next_place v.geometry.device (bodies.Seq bs) c) (none_written zero_r) ∙ next_first v.geometry.device c

  module _ (first : 1 ≤ w.last.r) where
    abbrev there : IsSetIn image v is.f
    there = record { set = is.set; slot = w.slot; dscb = is.slot }

    parts : Parts v.geometry (extents_in image v is.f) (data_in image v) w.last (written_by is)
    parts = parts_of v.geometry (extents_in image v is.f) (data_in image v) (lstar_of w.last) w.last (written_by is) (last_said w.last low small) (some_said w.last first) is.so_far

    stand_parts : records_on image v.geometry (Some w.last.r) parts.track ≡ Some parts.records
    stand_parts = read_there image v.geometry v.vtoc (Some w.last.r) parts.track parts.records (outside image v is.f there w.last.tt parts.track parts.there) parts.read

    -- the last block's track is read up to it
    pub are_there : AreThere image v is.f w.last
    are_there = record {
      first = first;
      track = parts.track;
      owned = parts.there;
      records = parts.records;
      stand = stand_parts;
      blocks = parts.blocks;
    }

    -- and the next block goes after its records
    pub next_by : (t : ℕ) (xs : List Record) → slice_get (owned_in image v is.f) w.last.tt ≡ Some t → records_on image v.geometry (Some w.last.r) t ≡ Some xs → (c : Content)
        → record_next is c ≡ place_behind v.geometry.device (record { tt = w.last.tt; r = length xs }) (map sizes xs) (lengths c)
    next_by t xs owned stands c =
        let track : parts.track ≡ t = one_some parts.there owned in
        let mine : records_on image v.geometry (Some w.last.r) t ≡ Some parts.records = ap (records_on image v.geometry (Some w.last.r)) (sym track) ∙ stand_parts in
        let records : parts.records ≡ xs = one_some mine stands in
        ap (λ (bs : List Block). next_place v.geometry.device (bodies.Seq bs) c) (parts.all ∙ ap (λ (rs : List Record). parts.front ++ blocks_from w.last.tt 1 rs) records)
        ∙ behind xs (omega (arith, first, count_on image v.geometry w.last.r t xs stands))
      where
        behind : (rs : List Record) → 1 ≤ length rs → next_place v.geometry.device (bodies.Seq (parts.front ++ blocks_from w.last.tt 1 rs)) c ≡ place_behind v.geometry.device (record { tt = w.last.tt; r = length rs }) (map sizes rs) (lengths c)
        behind [] some = absurd (omega (arith, some))
        behind (x ∷ rs) some = next_behind v.geometry.device parts.front w.last.tt x rs c parts.before
