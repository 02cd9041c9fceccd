-- A put of a writer, step by step: the buffer of the index is made ready, and the block is written after its records.
use Rattle.std.proofs.Common.{◌≡◌, ◌+◌, ◌*◌, ◌/◌, ◌%◌, ◌≤◌, ◌<◌, ℕ, true, List, [], ◌∷◌, ◌++◌, length, map, Result, Ok, inr, refl, sym, ap, ap₂, ◌∙◌, subst, arith}
use Rattle.std.specs.Prelude.{IsErr, slice_get}
use Rattle.std.proofs.lemmas.List.{length-map}
use Rattle.std.proofs.lemmas.List.Sums.{sum_by-cons}
use Rattle.std.proofs.lemmas.Option.{slice_get_within}
use Rattle.ckd_image.specs.Fit.{fits}
use Rattle.ckd_image.specs.Header.{is_track_size}
use Rattle.ckd_image.specs.Track.{Record}
use Rattle.ckd_image.specs.declared.device.DiskType.{DiskType}
use Rattle.ckd_image.specs.declared.header.Geometry.{Geometry}
use Rattle.ckd_image.proofs.FitBytes.{fits_bytes, fits_track, lengths_of}
use Rattle.dscb_codec.specs.declared.F1.{F1}
use Rattle.stop_model.specs.Files.{AfterWrite, File}
use Rattle.stop_model.specs.Moments.{Meaning}
use Rattle.stop_model.proofs.BlockLemmas.{keeps_not, keeps_then}
use Rattle.vol_model.specs.declared.contents.Block.{Block}
use Rattle.vol_model.specs.declared.contents.Body.{Body}
use Rattle.vol_model.specs.declared.contents.Body.TheVariants as bodies
use Rattle.vol_model.specs.declared.contents.Place.{Place}
use Rattle.vol_model.specs.declared.contents.Run.{Run}
use Rattle.vol_model.specs.Places.{Content, lengths, next_place, placed}
use Rattle.pack_spec.specs.Blocks.{seq_body}
use Rattle.pack_spec.specs.Label.{heads_of}
use Rattle.track_records.specs.Appends.{IsAppended, continuation, end_of, place_behind, record_of, start_behind, with_more}
use Rattle.track_records.specs.Buffers.{Buffer}
use Rattle.track_records.specs.Updates.{offset_of}
use Rattle.track_records.specs.Written.{StandsOn}
use Rattle.track_records.proofs.ContinueLemmas.{length-behind}
use Rattle.vtoc_index.specs.declared.vol.Vol.{Vol}
use Rattle.vtoc_index.specs.Index.{IsMounted}
use Rattle.vtoc_index.specs.Last.{lstar_of}
use Rattle.free_rebuild.specs.Repairs.{image_named}
use Rattle.seq_access.specs.declared.writer.Writer.{Writer}
use Rattle.seq_access.specs.Bodies.{IsSetIn, body_of_set, body_upto, data_in, last_in, last_read, owned_in}
use Rattle.seq_access.specs.Writing.{DifferBehind, IsPutBehind, IsReady, IsWriting, Spares, puts_in, sizes, written_by}
use Rattle.seq_access.proofs.NextBodies.{next_same}
use Rattle.seq_access.proofs.PutParts.{puts_more, same_body_more, same_set_more, writing_more}
use Rattle.seq_access.proofs.PutPlaces.{PutsAt, differs, ends_of, past, same_so_far, set_of, upto}
use Rattle.seq_access.proofs.SparedFiles.{MayWrite, spared_pends}
use Rattle.seq_access.proofs.SparedSets.{bare, bare_set, may_write, same_runs, set_kept}

-- what fits a track by its capacity fits the bytes after a buffer's records
offset_lengths : (xs : List Record) → offset_of xs (length xs) ≡ 8 * length xs + lengths_of (map sizes xs)
offset_lengths [] = refl
offset_lengths (x ∷ xs) = omega (arith, offset_lengths xs, sum_by-cons (λ (l : ℕ × ℕ). l.0 + l.1) (sizes x) (map sizes xs))

pub fits_room : (b : Buffer) (device : DiskType) (kl dl : ℕ) → fits device (map sizes b.records) kl dl ≡ true → is_track_size device b.geometry.track_size ≡ true → end_of b + (8 + kl + dl) + 8 ≤ b.geometry.track_size
fits_room b device kl dl fit lawful = omega (arith, fits_track device (map sizes b.records) kl dl b.geometry.track_size fit lawful, offset_lengths b.records, length-map b.records sizes)

pub fits_few : (b : Buffer) (device : DiskType) (kl dl : ℕ) → fits device (map sizes b.records) kl dl ≡ true → length b.records < 255
fits_few b device kl dl fit = omega (arith, (fits_bytes device (map sizes b.records) kl dl fit).few, length-map b.records sizes)

-- what failed, whatever error the caller makes of its own
pub spares_not : {T E A B : Type 0} {name : List ℕ} {v : Vol} {f : F1} {last : Place} {old new : Meaning (List File)} {r : Result T E} (answer : Result A B) → IsErr answer → Spares name v f last old new r → Spares name v f last old new answer
spares_not answer failed spares before set left here = let k = spares before set left here in (keeps_not answer failed k.0, k.1)

module _ (i0 i1 : List ℕ) (v : Vol) (w : Writer) (is : IsWriting i0 v w) (kl dl : ℕ) (place : Place) (b : Buffer)
    (ready : IsReady is kl dl place i1 (record v { buf = b })) (geometry : b.geometry ≡ v.geometry) (low : w.last.tt < 65536) (small : w.last.r < 256) where
  abbrev held : Vol
  held = record v { buf = b }

  abbrev f0 : F1
  f0 = is.f

  abbrev f1 : F1
  f1 = ready.writing.f

  -- the set's last record
  abbrev last0 : Place
  last0 = last_in i0 v f0

  abbrev last1 : Place
  last1 = last_in i1 held f1

  last_same : last1 ≡ last0
  last_same = ap (λ (f : F1). last_in i1 held f) ready.same ∙ ap (λ (x : Body). last_read x f0.lstar) ready.body

  puts_same : puts_in i1 held f1 w ≡ puts_in i0 v f0 w
  puts_same = ap (λ (f : F1). puts_in i1 held f w) ready.same ∙ ready.puts

  owned_same : owned_in i1 held f1 ≡ owned_in i0 v f0
  owned_same = ap (λ (f : F1). owned_in i1 held f) ready.same ∙ ready.tracks

  blocks_same : written_by ready.writing ≡ written_by is
  blocks_same = ap₂ (λ (old : List Block) (cs : List Content). old ++ placed v.geometry.device (bodies.Seq old) cs) ready.old puts_same

  pub puts_at : (c : Content) → lengths c ≡ (kl, dl) → PutsAt i1 held w ready.writing c place
  puts_at c e = record {
    geometry = geometry;
    next = ready.next c e ∙ sym (ap (λ (bs : List Block). next_place v.geometry.device (bodies.Seq bs) c) blocks_same);
    owned = ap (λ (ts : List ℕ). slice_get ts place.tt) owned_same ∙ ready.owned;
    number = ready.number;
    may = ready.may;
    ended = λ apart one track own. ready.ended apart one track (ap (λ (ts : List ℕ). slice_get ts w.last.tt) (sym owned_same) ∙ own);
    low = low;
    small = small;
  }

  -- the block is put
  pub put_done : (key content : List ℕ) → lengths (key, content) ≡ (kl, dl) → length key ≤ 255 → length content ≤ 32760 → place.tt < 65536 → place.r < 256 → (count : ℕ) → 0 < count
      → (i2 : List ℕ) → IsAppended b key content i1 i2 → StandsOn i2 (with_more b (record_of b key content ∷ []))
      → IsPutBehind is (key, content) place i2 (record v { buf = with_more b (record_of b key content ∷ []) }) (record { slot = w.slot; last = place; blocks = count })
  put_done key content e key_fits data_fits far near count any i2 put stands =
      let at = puts_at (key, content) e in
      let more = puts_more i1 i2 held w ready.writing key content place at put stands key_fits data_fits far near count any in
      record {
        next = ready.next (key, content) e ∙ sym (next_same i0 v w is low (key, content));
        owned = slice_get_within (owned_in i0 v f0) place.tt b.track ready.owned;
        writing = writing_more i1 i2 held w ready.writing key content place at put stands key_fits data_fits far near count any;
        same = same_set_more i1 i2 held w ready.writing key content place at put stands key_fits data_fits far near count any ∙ ready.same;
        body = subst (λ (f : F1). body_of_set i2 held f ≡ body_of_set i1 held f) ready.same (same_body_more i1 i2 held w ready.writing key content place at put stands key_fits data_fits far near count any) ∙ ready.body;
        puts =
            ap (λ (f : F1). puts_in i2 (record v { buf = with_more b (record_of b key content ∷ []) }) f (record { slot = w.slot; last = place; blocks = count })) (sym ready.same)
            ∙ more
            ∙ ap (λ (cs : List Content). cs ++ (key, content) ∷ []) puts_same;
      }

  -- and what a stop leaves meanwhile
  pub spares_more : {T E A B : Type 0} (name : List ℕ) (m0 m1 m2 : Meaning (List File)) (x : A) (r : Result T E) (key content : List ℕ) → lengths (key, content) ≡ (kl, dl) → image_named m1.state name ≡ i1
      → Spares {T = A} {E = B} name v f0 last0 m0 m1 (Ok x) → end_of b + (8 + length key + length content) + 8 ≤ b.geometry.track_size
      → AfterWrite name (place_behind b) (continuation b (record_of b key content ∷ [])) m1 m2 r → Spares name v f0 last0 m0 m2 r
  spares_more name m0 m1 m2 x r key content e at first room wrote before set left here =
      let new : List Record = record_of b key content ∷ [] in
      let one = first before set left here in
      let set' : IsSetIn (image_named before name) (bare v) f0 = record { set = set; slot = w.slot; dscb = is.slot } in
      let differ : DifferBehind v f0 last0 (image_named before name) i1 = subst (DifferBehind v f0 last0 (image_named before name)) at one.1.image in
      let p = puts_at (key, content) e in
      let beyond : last0.tt ≤ place.tt = subst (λ (q : Place). q.tt ≤ place.tt) last_same (past i1 held w ready.writing (key, content) place p) in
      let within : last0.tt ≡ place.tt → last0.r ≤ length b.records =
      subst (λ (q : Place). q.tt ≡ place.tt → q.r ≤ length b.records) last_same (upto i1 held w ready.writing (key, content) place p last1 ready.writing.behind)
      in
      let fit : start_behind b.records + length (continuation b new) ≤ v.geometry.track_size = omega (arith, room, length-behind (b.track / heads_of b.geometry) (b.track % heads_of b.geometry) b.records key content, ap (λ (g : Geometry). g.track_size) geometry) in
      let may : MayWrite (image_named before name) v f0 last0 b new = may_write (image_named before name) i1 v f0 set' last0 differ b new place.tt geometry fit (ap (λ (ts : List ℕ). slice_get ts place.tt) ready.tracks ∙ ready.owned) beyond within ready.may in
      let two = spared_pends name before v f0 last0 b new may m1 m2 r wrote one.0.left one.1 in
      (keeps_then one.0 two.0, two.1)

  -- and the blocks up to the last one are as they were, where what is put isn't to be one
  pub blocks_stay : (key content : List ℕ) → lengths (key, content) ≡ (kl, dl) → 1 ≤ w.last.r → (i2 : List ℕ) → IsAppended b key content i1 i2 → body_upto i2 v f0 (lstar_of w.last) ≡ bodies.Seq (written_by is)
  blocks_stay key content e some i2 put =
      let at = puts_at (key, content) e in
      let new : List Record = record_of b key content ∷ [] in
      let differ : DifferBehind held f1 last1 i1 i2 = differs i1 held w ready.writing (key, content) place at new i2 put in
      ap (λ (f : F1). body_upto i2 v f (lstar_of w.last)) (sym ready.same)
      ∙ ap (λ (xs : List Run). seq_body v.geometry (data_in i2 v) xs (lstar_of w.last)) (same_runs i1 i2 held f1 (bare_set i1 held f1 (set_of i1 held w ready.writing)) last1 differ)
      ∙ same_so_far i1 held w ready.writing (key, content) place at new i2 put some
      ∙ ready.writing.so_far
      ∙ ap bodies.Seq blocks_same

  pub set_stays : (key content : List ℕ) → lengths (key, content) ≡ (kl, dl) → (i2 : List ℕ) → IsAppended b key content i1 i2 → StandsOn i2 (with_more b (record_of b key content ∷ [])) → IsMounted i2 (record v { buf = with_more b (record_of b key content ∷ []) })
  set_stays key content e i2 put stands =
      let new : List Record = record_of b key content ∷ [] in
      (set_kept i1 i2 held f1 (bare_set i1 held f1 (set_of i1 held w ready.writing)) last1 (differs i1 held w ready.writing (key, content) place (puts_at (key, content) e) new i2 put) (ends_of i1 held w ready.writing) (with_more b new) (inr stands)).mounted
