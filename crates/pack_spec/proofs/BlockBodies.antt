-- What the body of a sequential data set depends on: the records of its tracks up to the last block, and no more.
use Rattle.std.proofs.Common.{◌≡◌, ◌+◌, ◌≤◌, ◌<◌, ℕ, zero, suc, Bool, true, false, cond, ◌&&◌, List, [], ◌∷◌, ◌++◌, map, Option, Some, None, inl, inr, refl, sym, ap, ap₂, ◌∙◌, arith, option_and_then}
use Rattle.std.specs.Prelude.{◌==◌, is_none, position, slice_get, unwrap_or}
use Rattle.std.specs.List.{flat_map, list_any, range_with_len}
use Rattle.std.proofs.lemmas.Bool.Decides.{nat_tests, eqb_tells}
use Rattle.std.proofs.lemmas.Grind.{flat_map-append}
use Rattle.ckd_image.specs.declared.header.Geometry.{Geometry}
use Rattle.ckd_image.specs.Track.{Record}
use Rattle.vol_model.specs.declared.contents.Block.{Block}
use Rattle.vol_model.specs.declared.contents.Body.TheVariants.{Seq}
use Rattle.vol_model.specs.declared.contents.Place.{Place}
use Rattle.vol_model.specs.declared.contents.Run.{Run}
use Rattle.vol_model.specs.Space.{is_in}
use Rattle.pack_spec.specs.Label.{track_bytes, tracks_of}
use Rattle.pack_spec.specs.Slots.{tracks_in}
use Rattle.pack_spec.specs.Alike.{DifferInVtoc, IsIn}
use Rattle.pack_spec.specs.Blocks.{blocks_at, blocks_of, blocks_on, data_track, data_tracks, has_no_block, last_of, owned_tracks, records_in, seq_body, seq_of, seq_unless, upto_last}
use Rattle.pack_spec.proofs.SetNames.{neither, nowhere}

-- images that have the same bytes on every track outside the VTOC have the same data tracks
pub same_tracks : (g : Geometry) (vtoc : Run) (before after : List ℕ) → ((track : ℕ) → ¬ IsIn vtoc track → track_bytes after g track ≡ track_bytes before g track) → data_tracks after g vtoc ≡ data_tracks before g vtoc
unfolding data_tracks
same_tracks g vtoc before after same = λ i. map (λ t. each t i) (range_with_len 0 (tracks_of g))
  where
    outside : (t : ℕ) → is_in t vtoc ≡ false → ¬ IsIn vtoc t
    outside t out within = grind (arith, nat_tests)

    by : (t : ℕ) (b : Bool) → is_in t vtoc ≡ b → cond b [] (track_bytes after g t) ≡ cond b [] (track_bytes before g t)
    by t true is = refl
    by t false is = same t (outside t is)

    each : (t : ℕ) → data_track after g vtoc t ≡ data_track before g vtoc t
    each t = by t (is_in t vtoc) refl

-- images that differ in the tracks of the VTOC alone
pub vtoc_tracks : (g : Geometry) (vtoc : Run) (before after : List ℕ) → DifferInVtoc g vtoc before after → data_tracks after g vtoc ≡ data_tracks before g vtoc
vtoc_tracks g vtoc before after differ = same_tracks g vtoc before after differ.tracks

-- images that differ in one track, which the VTOC has
pub one_track : (g : Geometry) (vtoc : Run) (before after : List ℕ) (k : ℕ) → k < vtoc.len → ((track : ℕ) → (track ≡ vtoc.start + k → ⊥) → track_bytes after g track ≡ track_bytes before g track) → data_tracks after g vtoc ≡ data_tracks before g vtoc
one_track g vtoc before after k low others = same_tracks g vtoc before after (λ track out. others track (λ same. out (omega arith, omega arith)))

module _ {X : Type 0} where
  -- what is the same for each number of a range
  pub map_range : (f h : ℕ → X) (n low : ℕ) → ((k : ℕ) → low ≤ k → k < low + n → f k ≡ h k) → map f (range_with_len low n) ≡ map h (range_with_len low n)
  map_range f h zero low same = refl
  map_range f h (suc n) low same = ap₂ (λ (x : X) (xs : List X). x ∷ xs) (same low (omega arith) (omega arith)) (map_range f h n (low + 1) (λ k l u. same k (omega arith) (omega arith)))

  -- where none of a range gives nothing, each gives something
  pub all_there : (f : ℕ → Option X) (n low : ℕ) → list_any (λ o. is_none o) (map f (range_with_len low n)) ≡ false → (k : ℕ) → low ≤ k → k < low + n → is_none (f k) ≡ false
  all_there f zero low none k l u = absurd (omega arith)
  all_there f (suc n) low none k l u =
      let parts = neither (is_none (f low)) (list_any (λ o. is_none o) (map f (range_with_len (low + 1) n))) none in
      elim (eqb_tells low k) [
        | inl w ↦ rw (← w.1) parts.0
        | inr w ↦ all_there f n (low + 1) parts.1 k (omega (arith, l, w.1)) (omega (arith, u))
      ]

  pub front_there : (xs ys : List X) (k : ℕ) (x : X) → slice_get xs k ≡ Some x → slice_get (xs ++ ys) k ≡ Some x
  front_there [] ys k x is = cc
  front_there (z ∷ xs) ys zero x is = is
  front_there (z ∷ xs) ys (suc k) x is = front_there xs ys k x is

-- The bodies are equal where each track before the last block's has the same records to its end marker, and that one up to the last block.
module _ (g : Geometry) (a b : List (List ℕ)) (extents : List Run) (lstar : List ℕ)
    (before : (k t : ℕ) → k < (last_of lstar).tt → slice_get (owned_tracks extents) k ≡ Some t → records_in g b None t ≡ records_in g a None t)
    (at : (t : ℕ) → slice_get (owned_tracks extents) (last_of lstar).tt ≡ Some t → records_in g b (Some (last_of lstar).r) t ≡ records_in g a (Some (last_of lstar).r) t) where
  abbrev last : Place
  last = last_of lstar

  same_records : (k t : ℕ) → k < last.tt + 1 → slice_get (owned_tracks extents) k ≡ Some t → records_in g b (upto_last last k) t ≡ records_in g a (upto_last last k) t
  same_records k t low there = elim (eqb_tells k last.tt) [
    | inl w ↦ rw w.0 (at t (ap (slice_get (owned_tracks extents)) (sym w.1) ∙ there))
    | inr w ↦ rw w.0 (before k t (omega (arith, low, w.1)) there)
  ]

  same_at : (k : ℕ) → k < last.tt + 1 → blocks_at g b (owned_tracks extents) last k ≡ blocks_at g a (owned_tracks extents) last k
  unfolding blocks_at blocks_on
  same_at k low = by (slice_get (owned_tracks extents) k) refl
    where
      one : (t : ℕ) → slice_get (owned_tracks extents) k ≡ Some t → blocks_on g b last k t ≡ blocks_on g a last k t
      one t there = ap (λ (o : Option (List Record)). cond ((k == last.tt) && (last.r == 0)) None (option_and_then (blocks_of k) o)) (same_records k t low there)

      by : (o : Option ℕ) → slice_get (owned_tracks extents) k ≡ o → option_and_then (blocks_on g b last k) o ≡ option_and_then (blocks_on g a last k) o
      by None there = refl
      by (Some t) there = one t there

  pub same_body : seq_body g b extents lstar ≡ seq_body g a extents lstar
  unfolding seq_body
  same_body =
      ap (λ (l : List (Option (List Block))). cond (has_no_block lstar) (Seq []) (seq_of l))
      (map_range (blocks_at g b (owned_tracks extents) last) (blocks_at g a (owned_tracks extents) last) (last.tt + 1) 0 (λ k l u. same_at k (omega arith)))

-- no track of a body that can be read breaks it
pub tracks_read : (tracks : List (Option (List Block))) (bs : List Block) → seq_of tracks ≡ Seq bs → (list_any (λ o. is_none o) tracks ≡ false) × (flat_map (λ o. unwrap_or o []) tracks ≡ bs)
tracks_read tracks bs is = by (position (λ o. is_none o) tracks) refl is
  where
    by : (o : Option ℕ) → position (λ o. is_none o) tracks ≡ o → seq_unless o (flat_map (λ o. unwrap_or o []) tracks) ≡ Seq bs → (list_any (λ o. is_none o) tracks ≡ false) × (flat_map (λ o. unwrap_or o []) tracks ≡ bs)
    by None none e = (nowhere (λ o. is_none o) tracks none, cc)
    by (Some k) some e = cc

-- More extents after the others leave a body that can be read as it is.
module _ (g : Geometry) (tracks : List (List ℕ)) (extents more : List Run) (lstar : List ℕ) where
  abbrev ending : Place
  ending = last_of lstar

  more_at : (k : ℕ) → is_none (blocks_at g tracks (owned_tracks extents) ending k) ≡ false → blocks_at g tracks (owned_tracks (extents ++ more)) ending k ≡ blocks_at g tracks (owned_tracks extents) ending k
  unfolding blocks_at owned_tracks
  more_at k some = by (slice_get (owned_tracks extents) k) refl some
    where
      by : (o : Option ℕ) → slice_get (owned_tracks extents) k ≡ o → is_none (option_and_then (blocks_on g tracks ending k) o) ≡ false
          → option_and_then (blocks_on g tracks ending k) (slice_get (owned_tracks (extents ++ more)) k) ≡ option_and_then (blocks_on g tracks ending k) o
      by None none e = cc
      by (Some t) there e = ap (option_and_then (blocks_on g tracks ending k))
          (ap (λ (l : List ℕ). slice_get l k) (flat_map-append tracks_in extents more) ∙ front_there (owned_tracks extents) (owned_tracks more) k t there)

  pub more_extents : (bs : List Block) → seq_body g tracks extents lstar ≡ Seq bs → seq_body g tracks (extents ++ more) lstar ≡ Seq bs
  unfolding seq_body
  more_extents bs is = by (has_no_block lstar) is
    where
      by : (b : Bool) → cond b (Seq []) (seq_of (map (blocks_at g tracks (owned_tracks extents) ending) (range_with_len 0 (ending.tt + 1)))) ≡ Seq bs
          → cond b (Seq []) (seq_of (map (blocks_at g tracks (owned_tracks (extents ++ more)) ending) (range_with_len 0 (ending.tt + 1)))) ≡ Seq bs
      by true e = e
      by false e =
          let read = tracks_read (map (blocks_at g tracks (owned_tracks extents) ending) (range_with_len 0 (ending.tt + 1))) bs e in
          let same = map_range (blocks_at g tracks (owned_tracks (extents ++ more)) ending) (blocks_at g tracks (owned_tracks extents) ending) (ending.tt + 1) 0 (λ k l u. more_at k (all_there (blocks_at g tracks (owned_tracks extents) ending) (ending.tt + 1) 0 read.0 k l u)) in
          ap seq_of same ∙ e
