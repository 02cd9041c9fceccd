-- The buffer of the index is ready for a writer's next block: on the last block's track, or at the front of the next one.
use Rattle.std.proofs.Common.{◌≡◌, ◌+◌, ◌≤◌, ◌<◌, ℕ, Bool, true, false, cond, List, [], length, map, Some, Result, Ok, Err, inl, inr, refl, sym, ap, ◌∙◌, subst, arith}
use Rattle.std.specs.Prelude.{IfOk, OnOk, slice_get}
use Rattle.ckd_image.specs.declared.header.Geometry.{Geometry}
use Rattle.ckd_image.specs.Fit.{fits}
use Rattle.pack_spec.specs.Label.{records_on}
use Rattle.track_records.specs.Buffers.{Buffer}
use Rattle.track_records.specs.Written.{StandsOn}
use Rattle.vol_model.specs.declared.contents.Place.{Place}
use Rattle.vol_model.specs.Places.{Content, lengths, place_behind}
use Rattle.vtoc_index.specs.declared.vol.Vol.{Vol}
use Rattle.vtoc_index.specs.Index.{IsMounted}
use Rattle.seq_access.specs.declared.writer.PutErr.{PutErr}
use Rattle.seq_access.specs.declared.writer.Writer.{Writer}
use Rattle.seq_access.specs.Bodies.{owned_in}
use Rattle.seq_access.specs.Writing.{HoldsLast, IsEnded, IsReady, IsWriting, record_next, sizes}
use Rattle.vtoc_sets.proofs.OtherBuffers.{mounted_with}
use Rattle.seq_access.proofs.ReadyPlaces.{next_by, next_none}
use Rattle.seq_access.proofs.WritersKept.{puts_with, writing_with}

-- whether a content goes on the track
place_there : (b : Bool) (there next : Place) → b ≡ true → cond b there next ≡ there
place_there true there next is = refl
place_there false there next is = cc

place_front : (b : Bool) (there next : Place) → b ≡ false → cond b there next ≡ next
place_front true there next is = cc
place_front false there next is = refl

module _ (image : List ℕ) (v : Vol) (w : Writer) (is : IsWriting image v w) (low : w.last.tt < 65536) (small : w.last.r < 256) (kl dl : ℕ) where
  -- of a set without blocks, at its front
  pub ready_first : (v' : Vol) (b : Buffer) (place : Place) → v' ≡ record v { buf = b } → b.records ≡ [] → w.last.r ≡ 0 → place ≡ record { tt = 0; r = 1 } → slice_get (owned_in image v is.f) 0 ≡ Some b.track → IsReady is kl dl place image v'
  ready_first v' b place same empty none at owned =
      let m : IsMounted image (record v { buf = b }) = mounted_with image v b is.set.mounted (inl empty) in
      subst (λ (x : Vol). IsReady is kl dl place image x) (sym same) (record {
        next = λ c alike. at ∙ sym (next_none image v w is low small none c);
        owned = ap (λ (p : Place). slice_get (owned_in image v is.f) p.tt) at ∙ owned;
        number = omega (arith, ap length empty, ap (λ (p : Place). p.r) at);
        may = inl empty;
        tracks = refl;
        writing = writing_with image v b w is m;
        same = refl;
        body = refl;
        old = refl;
        puts = puts_with image v b is.f w;
        ended = λ apart first. absurd (omega (arith, none, first));
      })

  module _ (first : 1 ≤ w.last.r) (b : Buffer) (held : HoldsLast image (record v { buf = b }) is.f w.last) where
    next_at : (c : Content) → lengths c ≡ (kl, dl) → record_next is c ≡ place_behind v.geometry.device (record { tt = w.last.tt; r = length b.records }) (map sizes b.records) (kl, dl)
    next_at c same =
        next_by image v w is low small first b.track b.records held.owned held.stand c
        ∙ ap (place_behind v.geometry.device (record { tt = w.last.tt; r = length b.records }) (map sizes b.records)) same

    -- after the last block on its track, where it fits that
    pub ready_same : (v' : Vol) (place : Place) → v' ≡ record v { buf = b } → IsMounted image (record v { buf = b }) → b.geometry ≡ v.geometry → fits v.geometry.device (map sizes b.records) kl dl ≡ true → place ≡ record { tt = w.last.tt; r = length b.records + 1 }
        → IsReady is kl dl place image v'
    ready_same v' place same m geometry fit at =
        let stands : StandsOn image b = (Some w.last.r, ap (λ (g : Geometry). records_on image g (Some w.last.r) b.track) geometry ∙ held.stand) in
        let there : Place = record { tt = w.last.tt; r = length b.records + 1 } in
        let behind : Place = record { tt = w.last.tt + 1; r = 1 } in
        subst (λ (x : Vol). IsReady is kl dl place image x) (sym same) (record {
          next = λ c alike. at ∙ sym (next_at c alike ∙ place_there (fits v.geometry.device (map sizes b.records) kl dl) there behind fit);
          owned = ap (λ (p : Place). slice_get (owned_in image v is.f) p.tt) at ∙ held.owned;
          number = ap (λ (p : Place). p.r) (sym at);
          may = inr stands;
          tracks = refl;
          writing = writing_with image v b w is m;
          same = refl;
          body = refl;
          old = refl;
          puts = puts_with image v b is.f w;
          ended = λ apart first. absurd (apart (ap (λ (p : Place). p.tt) at));
        })

    place_past : (c : Content) → lengths c ≡ (kl, dl) → fits v.geometry.device (map sizes b.records) kl dl ≡ false → record_next is c ≡ record { tt = w.last.tt + 1; r = 1 }
    place_past c same long = next_at c same ∙ place_front (fits v.geometry.device (map sizes b.records) kl dl) (record { tt = w.last.tt; r = length b.records + 1 }) (record { tt = w.last.tt + 1; r = 1 }) long

    -- and else at the front of the next one
    pub ready_next : (image' : List ℕ) (v' : Vol) (place : Place) → IsEnded image (record v { buf = b }) is.f is.old w image' v' → v'.buf.records ≡ [] → fits v.geometry.device (map sizes b.records) kl dl ≡ false → place ≡ record { tt = w.last.tt + 1; r = 1 }
        → slice_get (owned_in image v is.f) (w.last.tt + 1) ≡ Some v'.buf.track → IsReady is kl dl place image' v'
    ready_next image' v' place end empty long at owned = record {
      next = λ c alike. at ∙ sym (place_past c alike long);
      owned = ap (λ (p : Place). slice_get (owned_in image v is.f) p.tt) at ∙ owned;
      number = omega (arith, ap length empty, ap (λ (p : Place). p.r) at);
      may = inl empty;
      tracks = end.tracks;
      writing = end.writing;
      same = end.same;
      body = end.body;
      old = end.old;
      puts = end.puts ∙ puts_with image v b is.f w;
      ended = λ apart some. end.ended;
    }

    pub ready_by : (image' : List ℕ) (v' : Vol) (r : Result Place PutErr) → IsMounted image (record v { buf = b }) → fits v.geometry.device (map sizes b.records) kl dl ≡ false → IfOk r (λ (p : Place). p ≡ record { tt = w.last.tt + 1; r = 1 })
        → OnOk r ((i : IsWriting image (record v { buf = b }) w) → IsEnded image (record v { buf = b }) i.f i.old w image' v') → OnOk r (slice_get (owned_in image v is.f) (w.last.tt + 1) ≡ Some v'.buf.track) → OnOk r (v'.buf.records ≡ []) → IfOk r (λ (p : Place). IsReady is kl dl p image' v')
    ready_by image' v' (Ok p) m long at end owned empty = ready_next image' v' p (end (writing_with image v b w is m)) empty long at owned
    ready_by image' v' (Err e) m long at end owned empty = tt

    pub needs : (c : Content) → lengths c ≡ (kl, dl) → fits v.geometry.device (map sizes b.records) kl dl ≡ false → (n : ℕ) → n ≤ w.last.tt + 1 → n ≤ (record_next is c).tt
    needs c same long n most = omega (arith, most, ap (λ (p : Place). p.tt) (place_past c same long))

  pub needs_first : (c : Content) → w.last.r ≡ 0 → (n : ℕ) → n ≤ 0 → n ≤ (record_next is c).tt
  needs_first c none n most = omega (arith, most)
