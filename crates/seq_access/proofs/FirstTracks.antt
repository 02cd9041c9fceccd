-- The buffer of an index is made the empty one of a set's first track, or stays where the set has none.
use Rattle.std.proofs.Common.{◌≡◌, ◌≤◌, ◌<◌, ℕ, List, [], length, map, true, None, Some, Result, Ok, Err, inl, refl, sym, ap, ◌∙◌, subst, arith}
use Rattle.std.specs.Prelude.{IfErr, IfOk, IsErrOf, OnErr, OnOk, slice_get}
use Rattle.ckd_image.specs.Fit.{fits}
use Rattle.ckd_image.specs.Track.{Record}
use Rattle.dscb_codec.specs.declared.F1.{F1}
use Rattle.hall_core.specs.Facts.{Attached, Facts, ReportedCall}
use Rattle.pack_spec.specs.Label.{tracks_of}
use Rattle.track_records.specs.Buffers.{Buffer}
use Rattle.vol_model.specs.declared.contents.Place.{Place}
use Rattle.vol_model.specs.Places.{Content}
use Rattle.vtoc_index.specs.declared.vol.Vol.{Vol}
use Rattle.vtoc_index.specs.Index.{IsMounted, IsOfUnit}
use Rattle.vtoc_sets.specs.Sets.{HasSet}
use Rattle.seq_access.specs.declared.writer.PutErr.{PutErr}
use Rattle.seq_access.specs.declared.writer.PutErr.TheVariants as put_err
use Rattle.seq_access.specs.declared.writer.Writer.{Writer}
use Rattle.seq_access.specs.Bodies.{owned_in}
use Rattle.seq_access.specs.Writing.{IsReady, IsRoomy, IsWriting, record_next, sizes}
use Rattle.vtoc_sets.proofs.OtherBuffers.{call_as, mounted_with, unit_with}
use Rattle.seq_access.proofs.ReadyPlaces.{ends_before, roomy_empty}
use Rattle.seq_access.proofs.ReadySteps.{ready_first}

-- an index that differs in its buffer alone
pub others_by : (v v' : Vol) (b : Buffer) → v' ≡ record v { buf = b } → v' ≡ record v { buf = v'.buf }
others_by v v' b is = is ∙ ap (λ (x : Buffer). record v { buf = x }) (sym (ap (λ (x : Vol). x.buf) is))

module _ (v v' : Vol) (set : F1) (r : Result Place PutErr) where
  abbrev made : Buffer
  made = record (v.buf) { unit = v.unit; track = v'.buf.track; records = [] }

  -- what the call leaves
  pub record Turned : Type 0 where
    pub place : IfOk r (λ (p : Place). p ≡ record { tt = 0; r = 1 })
    pub track : OnOk r ((image : List ℕ) → HasSet image v set → slice_get (owned_in image v set) 0 ≡ Some v'.buf.track)
    pub inside : OnOk r (v'.buf.track < tracks_of v.geometry)
    pub buffer : OnOk r (v' ≡ record v { buf = made })
    pub none : OnErr r ((image : List ℕ) → HasSet image v set → slice_get (owned_in image v set) 0 ≡ None)
    pub same : OnErr r (v' ≡ v)
    pub error : IfErr r (λ (e : PutErr). e ≡ put_err.NeedExtent)

pub first_others : (v v' : Vol) (set : F1) (r : Result Place PutErr) → Turned v v' set r → v' ≡ record v { buf = v'.buf }
first_others v v' set (Ok p) t = others_by v v' (made v v' set (Ok p)) t.buffer
first_others v v' set (Err e) t = others_by v v' v.buf t.same

pub first_unit : (us us' : List Attached) (v v' : Vol) (set : F1) (r : Result Place PutErr) → Turned v v' set r → us' ≡ us → IsOfUnit us v → IsOfUnit us' v'
first_unit us us' v v' set (Ok p) t same unit = subst (IsOfUnit us') (sym t.buffer) (unit_with us us' v (made v v' set (Ok p)) same refl refl unit)
first_unit us us' v v' set (Err e) t same unit = subst (IsOfUnit us') (sym t.same) (subst (λ (x : List Attached). IsOfUnit x v) (sym same) unit)

pub first_roomy : (us us' : List Attached) (v v' : Vol) (set : F1) (r : Result Place PutErr) → Turned v v' set r → us' ≡ us → IsOfUnit us v → OnOk r (IsRoomy us' v'.buf)
first_roomy us us' v v' set (Ok p) t same unit =
    let now : IsOfUnit us' v = subst (λ (x : List Attached). IsOfUnit x v) (sym same) unit in
    roomy_empty us' v v'.buf now (ap (λ (x : Vol). x.buf.geometry) t.buffer ∙ unit.buffer.0) (ap (λ (x : Vol). x.buf.unit) t.buffer) t.inside (ap (λ (x : Vol). x.buf.records) t.buffer)
first_roomy us us' v v' set (Err e) t same unit = tt

pub first_fits : (v v' : Vol) (set : F1) (r : Result Place PutErr) (kl dl : ℕ) → Turned v v' set r → fits v.geometry.device [] kl dl ≡ true → OnOk r (fits v.geometry.device (map sizes v'.buf.records) kl dl ≡ true)
first_fits v v' set (Ok p) kl dl t fit = ap (λ (xs : List Record). fits v.geometry.device (map sizes xs) kl dl) (ap (λ (x : Vol). x.buf.records) t.buffer) ∙ fit
first_fits v v' set (Err e) kl dl t fit = tt

pub first_mounted : (image : List ℕ) (v v' : Vol) (set : F1) (r : Result Place PutErr) → Turned v v' set r → IsMounted image v → IsMounted image v'
first_mounted image v v' set (Ok p) t m = subst (IsMounted image) (sym t.buffer) (mounted_with image v (made v v' set (Ok p)) m (inl refl))
first_mounted image v v' set (Err e) t m = subst (IsMounted image) (sym t.same) m

pub first_faults : (f g : Facts) (v v' : Vol) (set : F1) (r : Result Place PutErr) → Turned v v' set r → ReportedCall ⊥ f g → ReportedCall (IsErrOf r put_err.Device) f g
first_faults f g v v' set r t call = call_as call (λ none. absurd none) (never r t.error)
  where
    never : (r : Result Place PutErr) → IfErr r (λ (e : PutErr). e ≡ put_err.NeedExtent) → IsErrOf r put_err.Device → ⊥
    never (Ok p) is of = cc
    never (Err e) is of = cc

pub first_ready : (image : List ℕ) (v v' : Vol) (set : F1) (r : Result Place PutErr) (w : Writer) (is : IsWriting image v w) (kl dl : ℕ) → Turned v v' set r → w.last.tt < 65536 → w.last.r < 256 → w.last.r ≡ 0 → is.f ≡ set → IfOk r (λ (p : Place). IsReady is kl dl p image v')
first_ready image v v' set (Ok p) w is kl dl t low small none same =
    let has : HasSet image v set = subst (HasSet image v) same is.set in
    let owned : slice_get (owned_in image v is.f) 0 ≡ Some v'.buf.track = ap (λ (f : F1). slice_get (owned_in image v f) 0) same ∙ t.track image has in
    ready_first image v w is low small kl dl v' (made v v' set (Ok p)) p t.buffer refl none t.place owned
first_ready image v v' set (Err e) w is kl dl t low small none same = tt

pub first_need : (image : List ℕ) (v v' : Vol) (set : F1) (r : Result Place PutErr) (w : Writer) (is : IsWriting image v w) (c : Content) → Turned v v' set r → w.last.r ≡ 0 → is.f ≡ set → IsErrOf r put_err.NeedExtent → length (owned_in image v is.f) ≤ (record_next is c).tt
first_need image v v' set (Ok p) w is c t none same of = absurd (no_error p of)
  where
    no_error : (p : Place) → IsErrOf {T = Place} (Ok p) put_err.NeedExtent → ⊥
    no_error p of = cc
first_need image v v' set (Err e) w is c t none same of =
    let has : HasSet image v set = subst (HasSet image v) same is.set in
    let ends : length (owned_in image v set) ≤ 0 = ends_before (owned_in image v set) 0 (t.none image has) in
    omega (arith, ends, ap (λ (f : F1). length (owned_in image v f)) same)
