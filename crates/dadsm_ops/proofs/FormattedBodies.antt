-- The body of a data set whose first tracks have the records of a new directory.
use Rattle.std.proofs.Common.{◌≡◌, ◌⊎◌, ◌/◌, ◌%◌, ◌≤◌, ◌<◌, ℕ, Bool, true, false, cond, List, [], ◌∷◌, ◌++◌, length, map, Option, Some, None, inl, inr, refl, sym, ap, ◌∙◌, arith, length-append}
use Rattle.std.specs.Prelude.{◌==◌, ◌&&◌, not, slice_get, slice_index, slice_range}
use Rattle.std.specs.Int.{w16, from_be_bytes}
use Rattle.std.proofs.Math.Nat.{mod-eq_of_lt}
use Rattle.std.proofs.lemmas.Bool.{eq-eqb}
use Rattle.std.proofs.lemmas.Bool.Decides.{eqb_tells, nat_tests}
use Rattle.std.proofs.lemmas.Nat.{from_be_bytes-to_be_bytes_2}
use Rattle.std.proofs.lemmas.List.{length-map, take_all}
use Rattle.std.proofs.lemmas.List.FromFn.{get_or-map-range_with_len}
use Rattle.ckd_image.specs.declared.header.Geometry.{Geometry}
use Rattle.ckd_image.specs.Reading.{records_of}
use Rattle.ckd_image.specs.Track.{Record}
use Rattle.pack_spec.specs.Blocks.{data_track, data_tracks, last_of, owned_tracks, records_in, upto_last}
use Rattle.pack_spec.specs.Directories.{new_block, new_numbers, part_body}
use Rattle.pack_spec.specs.Label.{heads_of, records_on, track_bytes, tracks_of}
use Rattle.pack_spec.specs.Bodies.{body_of}
use Rattle.pack_spec.proofs.BodyKinds.{partitioned_body}
use Rattle.pack_spec.proofs.EndRecords.{first_read}
use Rattle.pack_spec.proofs.NewDirectories.{IsNewOn, new_part}
use Rattle.pack_spec.proofs.NewPlaces.{end_counts}
use Rattle.vol_model.specs.declared.contents.Attr.{Attr}
use Rattle.vol_model.specs.declared.contents.Body.TheVariants.{Part}
use Rattle.vol_model.specs.declared.contents.Body.TheVariants as bodies
use Rattle.vol_model.specs.declared.contents.Place.{Place}
use Rattle.vol_model.specs.declared.contents.Run.{Run}
use Rattle.vol_model.specs.Places.{Content, directory_end, end_of_file, is_before}
use Rattle.vol_model.specs.Shelf.{is_catalog, is_partitioned, is_sequential, new_body, organization}
use Rattle.vol_model.specs.Space.{is_in}
use Rattle.vtoc_index.specs.Last.{lstar_of}
use Rattle.dadsm_ops.specs.Formatting.{IsFormatted, contents_of}

-- LSTAR that says the place of the end-of-file record names no block after it
pub end_said : (p : Place) → p.tt < 65536 → p.r < 256 → is_before p (last_of (lstar_of p)) ≡ false
end_said p low small =
    let tt_is : from_be_bytes w16 (slice_range (lstar_of p) 0 2) ≡ p.tt = from_be_bytes-to_be_bytes_2 p.tt low in
    let r_is : slice_index (lstar_of p) 2 % 256 ≡ p.r = mod-eq_of_lt small in
    ap (λ (n : ℕ). is_before p (record { tt = n; r = slice_index (lstar_of p) 2 % 256 })) tt_is ∙ ap (λ (n : ℕ). is_before p (record { tt = p.tt; r = n })) r_is ∙ itself p.tt p.r
  where
    itself : (t r : ℕ) → is_before (record { tt = t; r = r }) (record { tt = t; r = r }) ≡ false
    itself t r = grind (arith, nat_tests)

-- what is read of a data track is what stands on the image
data_read : (image : List ℕ) (g : Geometry) (vtoc : Run) (u : Option ℕ) (t : ℕ) → is_in t vtoc ≡ false → t < tracks_of g → records_in g (data_tracks image g vtoc) u t ≡ records_on image g u t
unfolding records_in records_on data_tracks
data_read image g vtoc u t out inside =
    ap (records_of (t / heads_of g) (t % heads_of g) u)
    (get_or-map-range_with_len (data_track image g vtoc) 0 (tracks_of g) t t [] inside (omega arith) ∙ ap (λ (b : Bool). cond b [] (track_bytes image g t)) out)

module _ (image : List ℕ) (g : Geometry) (vtoc : Run) (runs : List Run) (n : ℕ) (lstar : List ℕ) (some : 1 ≤ n) (last : is_before (directory_end g.device n) (last_of lstar) ≡ false)
    (outside : (k t : ℕ) → slice_get (owned_tracks runs) k ≡ Some t → (is_in t vtoc ≡ false) × (t < tracks_of g))
    (formatted : (k : ℕ) → k ≤ (directory_end g.device n).tt → IsFormatted image g runs n k) where
  abbrev end : Place
  end = directory_end g.device n

  abbrev tracks : List (List ℕ)
  tracks = data_tracks image g vtoc

  read : (k : ℕ) (f : IsFormatted image g runs n k) → records_in g tracks None f.track ≡ Some f.xs
  read k f = let out = outside k f.track f.there in data_read image g vtoc None f.track out.0 out.1 ∙ f.records

  -- the end-of-file record is the last of its track
  count : (k : ℕ) (f : IsFormatted image g runs n k) → k ≡ end.tt → length f.xs ≡ end.r
  count k f same =
      let ends : (end.tt == k) ≡ true = eq-eqb end.tt k (sym same) in
      let all : contents_of f.xs ≡ map new_block (new_numbers g.device n k) ++ end_of_file ∷ [] = f.holds ∙ ap (λ (b : Bool). map new_block (new_numbers g.device n k) ++ cond b (end_of_file ∷ []) []) ends in
      let many : length (new_numbers g.device n k) ≡ length (new_numbers g.device n end.tt) = ap (λ (j : ℕ). length (new_numbers g.device n j)) same in
      omega (arith, sym (length-map {B = Content} f.xs (λ x. (x.key, x.data))), ap length all, length-append (map new_block (new_numbers g.device n k)) (end_of_file ∷ []), length-map (new_numbers g.device n k) new_block, many, end_counts g.device n some)

  pub new_on : (k : ℕ) → k ≤ end.tt → IsNewOn g tracks (owned_tracks runs) g.device n k
  new_on k low = by (formatted k low) (eqb_tells k end.tt)
    where
      by : (f : IsFormatted image g runs n k) → (((k == end.tt) ≡ true) × (k ≡ end.tt)) ⊎ (((k == end.tt) ≡ false) × (k ≡ end.tt → ⊥)) → IsNewOn g tracks (owned_tracks runs) g.device n k
      by f (inl w) =
          let long : length f.xs ≡ end.r = count k f w.1 in
          let up : upto_last end k ≡ Some end.r = ap (λ (b : Bool). cond b (Some end.r) None) w.0 in
          record {
            track = f.track;
            there = f.there;
            xs = f.xs;
            records = ap (λ (u : Option ℕ). records_in g tracks u f.track) up
                ∙ first_read g tracks f.track None f.xs end.r (read k f) (omega (arith, long))
                ∙ ap (λ (xs : List Record). Some xs) (take_all end.r f.xs (omega (arith, long)));
            holds = f.holds;
          }
      by f (inr w) = record {
        track = f.track;
        there = f.there;
        xs = f.xs;
        records = ap (λ (b : Bool). records_in g tracks (cond b (Some end.r) None) f.track) w.0 ∙ read k f;
        holds = f.holds;
      }

  -- It is a directory of so many blocks without entries, and no block stands after it.
  pub formatted_body : part_body g tracks runs lstar ≡ Part n end [] []
  formatted_body = new_part g tracks runs lstar g.device n some last new_on

  -- So it is the body of a new partitioned data set, whose format 1 has this LSTAR.
  pub formatted_set : (name : List ℕ) (attr now : Attr) → now.dsorg ≡ attr.dsorg → is_catalog name ≡ false → is_partitioned name attr ≡ true → body_of g tracks name now runs lstar ≡ new_body g.device name attr n
  formatted_set name attr now kind other part =
      partitioned_body g tracks name now runs lstar (ap (λ (d : ℕ). not (is_catalog name) && d / 512 == 1) kind ∙ part)
      ∙ formatted_body
      ∙ by (is_catalog name) (is_sequential name attr) (is_partitioned name attr) other (flat (is_catalog name) (organization attr) part) part
    where
      apart : (m : ℕ) → (m == 1) ≡ true → (m == 32) ≡ false
      apart m one = grind (arith, nat_tests)

      flat : (c : Bool) (m : ℕ) → (not c && m == 1) ≡ true → (not c && m == 32) ≡ false
      flat true m one = refl
      flat false m one = apart m one

      by : (c s p : Bool) → c ≡ false → s ≡ false → p ≡ true → Part n end [] [] ≡ cond c bodies.Catalog (cond s (bodies.Seq []) (cond p (Part n end [] []) bodies.Other))
      by true s p is no_seq is_part = cc
      by false true p is no_seq is_part = cc
      by false false true is no_seq is_part = refl
      by false false false is no_seq is_part = cc
