-- What a track adds to what was read of a directory.
use Rattle.std.proofs.Common.{◌≡◌, ◌≢◌, ◌⊎◌, ◌+◌, ◌-◌, ◌≤◌, ◌<◌, ℕ, Bool, true, false, IsTrue, cond, inl, inr, List, [], ◌∷◌, ◌++◌, length, map, take, Option, Some, None, refl, sym, ap, ◌∙◌, subst, append_assoc, arith}
use Rattle.std.specs.Prelude.{Err, Ok, IfOk, OnOk, Result, slice_get, unwrap_or}
use Rattle.std.specs.List.{flat_map, list_all, range_with_len}
use Rattle.std.proofs.lemmas.Bool.Decides.{eqb_tells}
use Rattle.std.proofs.lemmas.Grind.{flat_map-append}
use Rattle.std.proofs.lemmas.List.{append-nil, length-map}
use Rattle.std.proofs.lemmas.List.FromFn.{map-range_with_len_more}
use Rattle.ckd_image.specs.Track.{Record}
use Rattle.dscb_codec.specs.declared.F1.{F1}
use Rattle.chain_spec.specs.Kept.{joined, kept}
use Rattle.vol_model.specs.declared.answers.ReadErr.{ReadErr}
use Rattle.vol_model.specs.declared.answers.ReadErr.TheVariants as errors
use Rattle.vol_model.specs.declared.contents.Block.{Block}
use Rattle.vol_model.specs.declared.contents.Body.TheVariants as bodies
use Rattle.vol_model.specs.declared.contents.Place.{Place}
use Rattle.pack_spec.specs.Blocks.{blocks_from}
use Rattle.pack_spec.specs.Directories.{before_end, directory_break, is_directory_record, name_number, part_body, part_of, read_to}
use Rattle.pack_spec.specs.Label.{records_on, tracks_of}
use Rattle.pack_spec.proofs.PartBodies.{IsPast}
use Rattle.track_records.specs.Buffers.{Buffer}
use Rattle.vtoc_index.specs.declared.vol.Vol.{Vol}
use Rattle.pds_directory.specs.declared.ends.Reached.{Reached}
use Rattle.pds_directory.specs.declared.reading.Reading.{Reading}
use Rattle.pds_directory.specs.Directories.{IsPartIn, IsReadUnless, ReadsDir, broken_in, data_in, directory_in, end_in, entries_read, members_in, owned_in, part_in, tracks_in}
use Rattle.pds_directory.specs.Reading.{AreBad, AreReadSoFar, HasBytesOf, HoldEntries, HoldsWhole, IsReached, IsReadBefore, IsReadToEnd, Reaches, ReadsRecords, ReadsTrack, SeeksOn, at_in, end_on, front_in}
use Rattle.pds_directory.proofs.PartSets.{few_owned_tracks, records_are}
use Rattle.pds_directory.proofs.PartWalks.{behind_here, behind_last, blocks_on, break_past, in_front, read_all, read_broken, unended, unread, whole_at}
use Rattle.pds_directory.proofs.TrackReads.{before_here, end_within, ends_here, none_owned, none_read, none_stand, past, seeks_on, whole_here}

-- the body, by its directory's end and its tracks
pub part_is : (image : List ℕ) (v : Vol) (f : F1) → part_in image v f ≡ part_of (end_in image v f) (tracks_in image v f)
unfolding part_body
part_is image v f = refl

module _ (image : List ℕ) (v : Vol) (f : F1) (part : IsPartIn image v f) (k : ℕ) (r : Reading) (before : IsReadBefore image v f k r) where
  abbrev data_bytes : List (List ℕ)
  data_bytes = data_in image v

  abbrev owned : List ℕ
  owned = owned_in image v f

  abbrev end : Place
  end = end_in image v f

  abbrev to : Place
  to = read_to end f.lstar

  abbrev front : List Block
  front = front_in image v f k

  -- the directory's end isn't after the last block that is read
  end_past : IsPast end to
  end_past = past v.geometry data_bytes owned f.lstar

  late : (j : ℕ) → directory_break end.tt (directory_in image v f) ≡ Some j → k ≤ j
  late = break_past v.geometry data_bytes owned end to k before.end end_past.track r.ended (entries_read r.dir) before.read.entries

  unread_here : (at_in image v f k ≡ None) ⊎ (directory_break end.tt (directory_in image v f) ≡ Some k) → part_in image v f ≡ bodies.Unreadable k
  unread_here is = part_is image v f ∙ unread v.geometry data_bytes owned end to k before.end end_past.track before.whole late is

  -- the next track isn't the set's
  pub no_track : None ≡ slice_get owned k → part_in image v f ≡ bodies.Unreadable k
  no_track is = unread_here (inl (none_owned v.geometry data_bytes owned f.lstar k (sym is)))

  -- so many tracks are never passed
  pub never_all : 65535 ≤ k → ⊥
  never_all all = omega (arith, all, before.end, end_within v.geometry data_bytes 0 owned, few_owned_tracks image v f part)

  module _ (t : ℕ) (there : Some t ≡ slice_get owned k) (inside : t < tracks_of v.geometry) where
    pub has_bytes : HasBytesOf image v.geometry data_bytes t
    has_bytes upto = records_are image v f part upto k t (sym there) inside

    -- it breaks the grammar
    pub broken_track : (xs : List Record) → Reaches (Ok None) v.geometry data_bytes t xs → part_in image v f ≡ bodies.Unreadable k
    broken_track xs reaches = unread_here (inl (none_read v.geometry data_bytes owned f.lstar k t (sym there) before.end reaches.0 reaches.1))

    module _ (xs : List Record) (reached : Reached) (is : IsReached v.geometry data_bytes t xs reached) where
      abbrev records : List Record
      records = take reached.before xs

      -- the directory's blocks on the tracks after it
      abbrev rest : List Block
      rest = before_end end (blocks_on v.geometry data_bytes owned end to (k + 1) (to.tt - k))

      directory_is : (bs : List Block) → at_in image v f k ≡ Some bs → directory_in image v f ≡ (front ++ blocks_from k 1 records) ++ rest
      directory_is bs some =
          in_front v.geometry data_bytes owned end to k before.end end_past.track
          ∙ ap (λ (more : List Block). front ++ more) (behind_here v.geometry data_bytes owned end to k before.end end_past.track
          ∙ ap (λ (o : Option (List Block)). before_end end (unwrap_or o []) ++ rest) some
          ∙ ap (λ (more : List Block). more ++ rest) (before_here v.geometry data_bytes owned f.lstar k t (sym there) before.end xs reached is bs some))
          ∙ sym (append_assoc front (blocks_from k 1 records) rest)

      -- its records break the directory
      bad_records : AreBad k front records → part_in image v f ≡ bodies.Unreadable k
      bad_records (inl none) = unread_here (inl (none_stand v.geometry data_bytes owned f.lstar k t (sym there) before.end xs reached is none))
      bad_records (inr breaks) = by (at_in image v f k) refl
        where
          by : (o : Option (List Block)) → at_in image v f k ≡ o → part_in image v f ≡ bodies.Unreadable k
          by None none = unread_here (inl none)
          by (Some bs) some = unread_here (inr (ap (directory_break end.tt) (directory_is bs some) ∙ breaks end.tt rest))

      front_more : (bs : List Block) → at_in image v f k ≡ Some bs → front_in image v f (k + 1) ≡ front ++ bs
      front_more bs some =
          let last : 0 + k ≡ k = omega arith in
          ap (λ (ts : List (Option (List Block))). flat_map (λ o. unwrap_or o []) ts) (map-range_with_len_more (at_in image v f) 0 k k last)
          ∙ flat_map-append (λ o. unwrap_or o []) (map (at_in image v f) (range_with_len 0 k)) (at_in image v f k ∷ [])
          ∙ ap (λ (o : Option (List Block)). front ++ (unwrap_or o [] ++ [])) some
          ∙ ap (λ (more : List Block). front ++ more) (append-nil bs)

      -- it was read, and the end stands after it
      passed : (new : Reading) → reached.ended ≡ false → list_all is_directory_record records ≡ true → AreReadSoFar (front ++ blocks_from k 1 records) new → IsReadBefore image v f (k + 1) new
      passed new open_track lengths so_far =
          let here = whole_here v.geometry data_bytes owned f.lstar k t (sym there) before.end xs reached is open_track lengths in
          record {
            end = omega (arith, here.0);
            whole = λ j low. elim (eqb_tells j k) [
              | inl w ↦ λ none. (let none_here : at_in image v f k ≡ None = ap (at_in image v f) (sym w.1) ∙ none in let some : Some (blocks_from k 1 records) ≡ None = sym here.1 ∙ none_here in cc)
              | inr w ↦ before.whole j (omega (arith, low, w.1))
            ];
            read = subst (λ (bs : List Block). AreReadSoFar bs new) (sym (front_more (blocks_from k 1 records) here.1)) so_far;
          }

      -- or on it
      at_end : (new : Reading) → reached.ended ≡ true → ((place : Place) → end_on k reached ≡ Some place → new.dir.end ≡ place) → AreReadSoFar (front ++ blocks_from k 1 records) new → IsReadToEnd image v f k new
      at_end new ended known so_far =
          let on = ends_here v.geometry data_bytes owned f.lstar k t (sym there) before.end xs reached is ended in
          let place : Place = record { tt = k; r = reached.before + 1 } in
          let met : end_on k reached ≡ Some place = ap (λ (c : Bool). cond c (Some place) None) ended in
          let here : SeeksOn end k (Some place) = seeks_on v.geometry data_bytes owned f.lstar k t (sym there) before.end xs reached is (Some place) (sym met) in
          record {
            end = on;
            place = known place met ∙ here;
            whole = before.whole;
            unbroken = late;
            read = λ some. by on (at_in image v f k) refl some;
          }
        where
          by : end.tt ≡ k → (o : Option (List Block)) → at_in image v f k ≡ o → o ≢ None → AreReadSoFar (directory_in image v f) new
          by on None is some = absurd (some refl)
          by on (Some bs) is some =
              subst (λ (bs : List Block). AreReadSoFar bs new)
              (sym (directory_is bs is ∙ ap (λ (more : List Block). (front ++ blocks_from k 1 records) ++ more) (behind_last v.geometry data_bytes owned end to k before.end end_past.track on) ∙ append-nil (front ++ blocks_from k 1 records)))
              so_far

      pub reads_track : (result : Result Bool ReadErr) (new : Reading) → IfOk result (λ ended. ended ≡ reached.ended) → OnOk result ((place : Place) → end_on k reached ≡ Some place → new.dir.end ≡ place) → ((directory : List Block) → AreReadSoFar directory r → ReadsRecords result k directory records new) → ReadsTrack result image v f k new
      reads_track (Ok false) new same known reads = let all = reads front before.read in passed new (sym same) all.0 all.1
      reads_track (Ok true) new same known reads = let all = reads front before.read in at_end new (sym same) known all.1
      reads_track (Err (errors.Unreadable j)) new same known reads = let bad = reads front before.read in bad_records bad.1 ∙ ap bodies.Unreadable (sym bad.0)
      reads_track (Err errors.Memory) new same known reads = tt
      reads_track (Err errors.Device) new same known reads = tt

-- a buffer holds the track of the end whole where it was read to its end marker
pub holds_whole : (image : List ℕ) (v : Vol) (f : F1) (k t : ℕ) (b : Buffer) (reached : Reached) (new : Reading) (result : Result Bool ReadErr) → Some t ≡ slice_get (owned_in image v f) k → (IsTrue reached.whole → records_on image v.geometry None t ≡ Some b.records)
    → IfOk result (λ ended. IsTrue ended → new.whole ≡ reached.whole) → IfOk result (λ ended. IsTrue ended → IsTrue new.whole → HoldsWhole image v f k b)
holds_whole image v f k t b reached new (Ok ended) there read same = λ is whole. (t, sym there, read (subst (λ (c : Bool). IsTrue c) (same is) whole))
holds_whole image v f k t b reached new (Err e) there read same = tt

-- ---- a directory that was read to its end

module _ (image : List ℕ) (v : Vol) (f : F1) (k : ℕ) (r : Reading) (to_end : IsReadToEnd image v f k r) where
  abbrev ending : Place
  ending = end_in image v f

  least : k ≤ ending.tt
  least = omega (arith, to_end.end)

  beyond : IsPast ending (read_to ending f.lstar)
  beyond = past v.geometry (data_in image v) (owned_in image v f) f.lstar

  hold : (c : Bool) → r.ended ≡ c → at_in image v f k ≢ None → HoldEntries c (directory_in image v f) (entries_read r.dir)
  hold c is some = let so_far = to_end.read some in subst (λ (b : Bool). HoldEntries b (directory_in image v f) (entries_read r.dir)) is so_far.entries

  -- no block ends it
  pub finish_open : r.ended ≡ false → ReadsDir (Err (errors.Unreadable k)) image v f
  finish_open is =
      part_is image v f ∙ unended v.geometry (data_in image v) (owned_in image v f) ending (read_to ending f.lstar) k least beyond.track to_end.whole to_end.unbroken to_end.end (entries_read r.dir) (hold false is)

  -- one does
  pub finish_ended : r.ended ≡ true → ReadsDir (Ok r.dir) image v f
  finish_ended is = by (broken_in image v f) refl
    where
      by : (o : Option ℕ) → broken_in image v f ≡ o → IsReadUnless o image v f r.dir
      by (Some i) broken =
          part_is image v f ∙ read_broken v.geometry (data_in image v) (owned_in image v f) ending (read_to ending f.lstar) k least beyond.track to_end.whole to_end.unbroken (entries_read r.dir) (hold true is) i broken
      by None none =
          let some = whole_at v.geometry (data_in image v) (owned_in image v f) ending (read_to ending f.lstar) k least beyond.track to_end.whole to_end.unbroken none in
          let so_far = to_end.read some in
          let held = hold true is some in
          let count : length (directory_in image v f) ≡ length r.dir.places.items = sym (ap length so_far.places ∙ length-map (directory_in image v f) (λ (b : Block). b.place)) in
          record {
            body = part_is image v f
                ∙ read_all v.geometry (data_in image v) (owned_in image v f) ending (read_to ending f.lstar) k least beyond.track to_end.whole to_end.unbroken (entries_read r.dir) held none
                ∙ ap (λ (n : ℕ). bodies.Part n ending (kept name_number (joined (entries_read r.dir))) (members_in image v f)) count;
            read = record {
              places = so_far.places;
              behind = held.1;
              blocks = held.2;
            };
            end = to_end.place;
          }
