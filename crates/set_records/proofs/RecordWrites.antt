-- A record of a data set that is written over and made durable: what a stop leaves, and what the buffer holds then.
use Rattle.std.proofs.Common.{◌≡◌, ◌⊎◌, ◌-◌, ◌≤◌, ◌<◌, ℕ, List, [], ◌++◌, length, Option, Some, None, Result, Ok, Err, inl, inr, refl, sym, ap, ap₂, ◌∙◌, subst, arith, ⊎_elim}
use Rattle.std.specs.Prelude.{IsErr, slice_get, unwrap_or}
use Rattle.std.specs.Option.{option_map}
use Rattle.std.proofs.lemmas.Result.{IfOk-from_err}
use Rattle.ckd_image.specs.Header.{HasGeometry}
use Rattle.ckd_image.specs.declared.header.Geometry.{Geometry}
use Rattle.dscb_codec.specs.declared.F1.{F1}
use Rattle.hall_core.specs.Facts.{Attached, unit_of}
use Rattle.stop_model.specs.Files.{AfterSync, AfterWrite, File, file_of, patched, written}
use Rattle.stop_model.specs.Moments.{Elapses, IsDurable, Meaning, Same}
use Rattle.stop_model.proofs.BlockLemmas.{pends_of_write}
use Rattle.stop_model.proofs.MomentLemmas.{elapses_from_exactly, elapses_then}
use Rattle.pack_spec.specs.Label.{records_on, track_bytes, tracks_of}
use Rattle.track_records.specs.Buffers.{Buffer}
use Rattle.track_records.specs.Calls.{HasTrack}
use Rattle.track_records.specs.Updates.{HasLengths, with_parts}
use Rattle.track_records.specs.Written.{IsUpdated, StandsOn, place_of, with_record}
use Rattle.track_records.proofs.WrittenLemmas.{stands_written, updated}
use Rattle.vol_model.specs.declared.contents.Place.{Place}
use Rattle.vtoc_index.specs.declared.vol.Vol.{Vol}
use Rattle.vtoc_index.specs.Index.{IsOfUnit}
use Rattle.vtoc_sets.specs.Sets.{owned_in}
use Rattle.free_rebuild.specs.Repairs.{image_named}
use Rattle.free_rebuild.proofs.PutLemmas.{written_other, written_there}
use Rattle.set_records.specs.Rewriting.{HaveRewritten, HoldsRecord, RewritesRecord}

-- a call that failed before the write
pub rewrites_not : {T E : Type 0} (e : E) (name : List ℕ) (v : Vol) (f : F1) (place : Place) (key content : List ℕ) (buf : Buffer) (old new : Meaning (List File)) → IsDurable old → Same old new → RewritesRecord {T = T} name v f place key content buf old new (Err e)
rewrites_not e name v f place key content buf old new durable same = record {
  done = tt;
  durable = tt;
  buffer = tt;
  printed = same.printed;
  moments = elapses_from_exactly same.time (λ files p now. (inl (durable files now.0), now.1));
}

-- a buffer holds the track of a record of a data set up to that, which has a key and data of these lengths
pub record Rewrites (v : Vol) (f : F1) (place : Place) (buf : Buffer) (key content : List ℕ) (before : List ℕ) : Type 0 where
  pub geometry : buf.geometry ≡ v.geometry
  pub inside : buf.track < tracks_of v.geometry
  pub owned : slice_get (owned_in before v f) place.tt ≡ Some buf.track
  pub stand : records_on before v.geometry (Some place.r) buf.track ≡ Some buf.records
  pub lengths : HasLengths buf.records (place.r - 1) (length key) (length content)

pub may_rewrite : (us : List Attached) (image : List ℕ) (v w : Vol) (f : F1) (place : Place) (key content : List ℕ) → w ≡ record v { buf = w.buf } → IsOfUnit us w → HoldsRecord image w f place → HasTrack us w.buf.unit w.buf.geometry w.buf.track
    → HasLengths w.buf.records (place.r - 1) (length key) (length content) → Rewrites v f place w.buf key content image
may_rewrite us image v w f place key content others unit held track lengths =
    let geometry : w.buf.geometry ≡ v.geometry = unit.buffer.0 ∙ ap (λ (u : Vol). u.geometry) others in
    let here : HoldsRecord image (record v { buf = w.buf }) f place = subst (λ (u : Vol). HoldsRecord image u f place) others held in
    record {
      geometry = geometry;
      inside = subst (λ (g : Geometry). w.buf.track < tracks_of g) geometry track.inside;
      owned = here.owned;
      stand = here.stand;
      lengths = lengths;
    }

-- the name of the unit that the buffer is of
pub buffer_name : (us now : List Attached) (v w : Vol) → now ≡ us → w ≡ record v { buf = w.buf } → IsOfUnit now w → (unit_of now w.buf.unit).name ≡ (unit_of us v.unit).name
buffer_name us now v w same others unit = ap₂ (λ (l : List Attached) (n : ℕ). (unit_of l n).name) same (unit.buffer.1 ∙ ap (λ (u : Vol). u.unit) others)

module _ (name : List ℕ) (v : Vol) (f : F1) (place : Place) (buf : Buffer) (key content : List ℕ) (old mid : Meaning (List File))
    (may : Rewrites v f place buf key content (image_named old.state name)) (has : HasGeometry (length (image_named old.state name)) v.geometry) (durable : IsDurable old) (same : Same old mid) where
  abbrev image : List ℕ
  image = image_named old.state name

  abbrev at : ℕ
  at = place_of buf (place.r - 1)

  abbrev next : List File
  next = written old.state name at (key ++ content)

  file_there : file_of old.state name ≡ Some image
  file_there = by (file_of old.state name) refl (omega (arith, has.whole))
    where
      by : (o : Option (List ℕ)) → file_of old.state name ≡ o → 512 ≤ length (unwrap_or o []) → file_of old.state name ≡ Some image
      by None is long = absurd (omega (arith, long))
      by (Some l) is long = is ∙ ap (λ (o : Option (List ℕ)). Some (unwrap_or o [])) (sym is)

  stands : StandsOn image buf
  stands = (Some place.r, subst (λ (g : Geometry). records_on image g (Some place.r) buf.track ≡ Some buf.records) (sym may.geometry) may.stand)

  up : IsUpdated buf (place.r - 1) key content image (patched image at (key ++ content))
  up = updated buf (place.r - 1) key content image (subst (HasGeometry (length image)) (sym may.geometry) has) (subst (λ (g : Geometry). buf.track < tracks_of g) (sym may.geometry) may.inside) stands may.lengths

  image_next : image_named next name ≡ patched image at (key ++ content)
  image_next = ap (λ (o : Option (List ℕ)). unwrap_or o []) (written_there old.state name at (key ++ content) image file_there)

  up_next : IsUpdated buf (place.r - 1) key content image (image_named next name)
  up_next = subst (IsUpdated buf (place.r - 1) key content image) (sym image_next) up

  have_next : HaveRewritten name v f place key content old.state next
  have_next = record {
    others = λ other apart. written_other old.state name other at (key ++ content) apart;
    image = record {
      track = buf.track;
      owned = may.owned;
      inside = may.inside;
      size = up_next.size;
      header = up_next.header;
      records = λ upto. subst (λ (g : Geometry). records_on (image_named next name) g upto buf.track ≡ option_map (with_parts (place.r - 1) key content) (records_on image g upto buf.track)) may.geometry (up_next.records upto);
      others = λ other apart. subst (λ (g : Geometry). track_bytes (image_named next name) g other ≡ track_bytes image g other) may.geometry (up_next.others other apart);
    };
  }

  abbrev Left : List File → Type 0
  Left files = (files ≡ old.state) ⊎ HaveRewritten name v f place key content old.state files

  module _ {T E : Type 0} (m2 : Meaning (List File)) (r : Result T E) (wrote : AfterWrite name at (key ++ content) mid m2 r) where
    left_wrote : (x : List File) → m2.left x → Left x
    left_wrote x l =
        let d = (pends_of_write wrote).pending x l in
        let here : d.0 ≡ old.state = durable d.0 ((same.left d.0).0 d.1) in
        ⊎_elim (λ w. inl (w ∙ here)) (λ w. inr (subst (HaveRewritten name v f place key content old.state) (sym (w ∙ ap (λ (files : List File). written files name at (key ++ content)) here)) have_next)) d.2

    printed_wrote : m2.printed ≡ old.printed
    printed_wrote = wrote.printed ∙ same.printed

    time_wrote : Elapses old m2 (λ files p. Left files × (p ≡ old.printed))
    time_wrote = elapses_then
        (elapses_from_exactly same.time (λ files p now. (inl (durable files now.0), now.1)))
        (elapses_from_exactly wrote.time (λ files p now. (left_wrote files now.0, now.1 ∙ printed_wrote)))

    pub rewrite_failed : {U D : Type 0} (s : Result U D) (b : Buffer) → IsErr s → RewritesRecord name v f place key content b old m2 s
    rewrite_failed s b failed = record { done = IfOk-from_err s _ failed; durable = IfOk-from_err s _ failed; buffer = IfOk-from_err s _ failed; printed = printed_wrote; moments = time_wrote }

    module _ {S D : Type 0} (new : Meaning (List File)) (s : Result S D) (synced : AfterSync m2 new s) where
      time_synced : Elapses old new (λ files p. Left files × (p ≡ old.printed))
      time_synced = elapses_then time_wrote (elapses_from_exactly synced.time (λ files p now. (left_wrote files now.0, now.1 ∙ printed_wrote)))

      pub rewrite_unsynced : {U F : Type 0} (e : F) (b : Buffer) → RewritesRecord {T = U} name v f place key content b old new (Err e)
      rewrite_unsynced e b = record { done = tt; durable = tt; buffer = tt; printed = synced.printed ∙ printed_wrote; moments = time_synced }

  module _ {T E S D : Type 0} (m2 new : Meaning (List File)) (x : T) (y : S) (wrote : AfterWrite {T = T} {E = E} name at (key ++ content) mid m2 (Ok x)) (synced : AfterSync {T = S} {E = D} m2 new (Ok y)) where
    state_is : new.state ≡ next
    state_is = synced.state ∙ wrote.done ∙ ap (λ (files : List File). written files name at (key ++ content)) same.state

    pub rewrite_done : {F : Type 0} (b : Buffer) → b ≡ with_record buf (place.r - 1) key content → RewritesRecord {T = S} {E = F} name v f place key content b old new (Ok y)
    rewrite_done b is = record {
      done = subst (HaveRewritten name v f place key content old.state) (sym state_is) have_next;
      durable = synced.done;
      buffer =
          subst (λ (files : List File). StandsOn (image_named files name) b) (sym state_is)
          (subst (StandsOn (image_named next name)) (sym is) (stands_written buf (place.r - 1) key content image (image_named next name) up_next stands));
      printed = synced.printed ∙ printed_wrote m2 (Ok x) wrote;
      moments = time_synced m2 (Ok x) wrote new (Ok y) synced;
    }

  pub rewrite_synced : {T E S D : Type 0} (m2 new : Meaning (List File)) (x : T) (r : Result S D) → AfterWrite {T = T} {E = E} name at (key ++ content) mid m2 (Ok x) → AfterSync m2 new r → (b : Buffer) → b ≡ with_record buf (place.r - 1) key content → RewritesRecord {T = S} {E = D} name v f place key content b old new r
  rewrite_synced {E = E} m2 new x (Ok y) wrote synced b is = rewrite_done {E = E} m2 new x y wrote synced b is
  rewrite_synced m2 new x (Err e) wrote synced b is = rewrite_unsynced m2 (Ok x) wrote new (Err e) synced e b
