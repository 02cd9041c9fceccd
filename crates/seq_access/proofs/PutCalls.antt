-- What the calls of a put come to: one makes the buffer of the index ready, and one writes after its records.
use Rattle.std.proofs.Common.{◌≡◌, ◌+◌, ◌≤◌, ◌<◌, ℕ, List, [], ◌∷◌, length, Result, Ok, sym, ap, ◌∙◌, subst}
use Rattle.std.specs.Prelude.{None, Some, slice_get, unwrap_or}
use Rattle.ckd_image.specs.declared.header.Geometry.{Geometry}
use Rattle.hall_core.specs.Facts.{Attached, Facts, name_in, unit_of}
use Rattle.hall_core.specs.Images.{image_in, image_of}
use Rattle.stop_model.specs.Files.{AfterWrite, File, file_of}
use Rattle.stop_model.specs.Moments.{Meaning}
use Rattle.track_records.specs.Appends.{IsAppended, MayContinue, continuation, end_of, place_behind, record_of, with_more}
use Rattle.track_records.specs.Buffers.{Buffer}
use Rattle.track_records.specs.Written.{StandsOn}
use Rattle.vol_model.specs.declared.contents.Place.{Place}
use Rattle.vol_model.specs.Places.{lengths}
use Rattle.vtoc_index.specs.declared.vol.Vol.{Vol}
use Rattle.vtoc_index.specs.Index.{IsMounted, IsOfUnit}
use Rattle.seq_access.specs.declared.writer.Writer.{Writer}
use Rattle.pack_spec.specs.Label.{records_on}
use Rattle.seq_access.specs.Bodies.{HasBlocks, last_in, owned_in}
use Rattle.seq_access.specs.Writing.{EndsWithNothing, IsPutBehind, IsReady, IsWriting, Spares, body_so_far, record_next, written_by}
use Rattle.seq_access.proofs.PutSteps.{blocks_stay, put_done, set_stays, spares_more}
use Rattle.seq_access.proofs.SparedCalls.{spares_as}

-- the image of a unit is the same where the files and the units are
pub image_as : (m m' : Meaning (List File)) (f f' : Facts) (n n' : ℕ) → m'.state ≡ m.state → f'.units ≡ f.units → n' ≡ n → image_in m' f' n' ≡ image_in m f n
image_as m m' f f' n n' state units number =
    ap (λ (files : List File). image_of files f' n') state
    ∙ ap (λ (us : List Attached). unwrap_or (file_of m.state (unit_of us n').name) []) units
    ∙ ap (image_in m f) number

module _ (m0 m1 m2 : Meaning (List File)) (f0 f1 f2 : Facts) (v0 v1 : Vol) (w : Writer) (is : IsWriting (image_in m0 f0 v0.unit) v0 w) (kl dl : ℕ) (place : Place)
    (others : v1 ≡ record v0 { buf = v1.buf }) (unit : IsOfUnit f1.units v1) (units : f1.units ≡ f0.units)
    (ready : IsReady is kl dl place (image_in m1 f1 v0.unit) v1) (low : w.last.tt < 65536) (small : w.last.r < 256) (key content : List ℕ) (e : lengths (key, content) ≡ (kl, dl)) where
  abbrev b : Buffer
  b = v1.buf

  abbrev name : List ℕ
  name = (unit_of f0.units v0.unit).name

  abbrev last : Place
  last = last_in (image_in m0 f0 v0.unit) v0 is.f

  abbrev i1 : List ℕ
  i1 = image_in m1 f1 v0.unit

  abbrev i2 : List ℕ
  i2 = image_in m2 f2 v0.unit

  abbrev more : Buffer
  more = with_more b (record_of b key content ∷ [])

  number : b.unit ≡ v0.unit
  number = unit.buffer.1 ∙ ap (λ (v : Vol). v.unit) others

  geometry : b.geometry ≡ v0.geometry
  geometry = unit.buffer.0 ∙ ap (λ (v : Vol). v.geometry) others

  here : IsReady is kl dl place i1 (record v0 { buf = b })
  here = subst (IsReady is kl dl place i1) others ready

  names : name_in f1 b.unit ≡ name
  names = ap (name_in f1) number ∙ ap (λ (us : List Attached). (unit_of us v0.unit).name) units

  -- what a stop leaves
  pub call_spares : {T E A B U D : Type 0} (x : A) (r : Result T E) (answer : Result U D) → Spares {T = A} {E = B} name v0 is.f last m0 m1 (Ok x) → end_of b + (8 + length key + length content) + 8 ≤ b.geometry.track_size
      → AfterWrite (name_in f1 b.unit) (place_behind b) (continuation b (record_of b key content ∷ [])) m1 m2 r → Spares name v0 is.f last m0 m2 answer
  call_spares {T = T} {E = E} x r answer first room wrote =
      let image : image_in m1 f1 v0.unit ≡ image_of m1.state f0 v0.unit = ap (λ (us : List Attached). unwrap_or (file_of m1.state (unit_of us v0.unit).name) []) units in
      let by_name : AfterWrite name (place_behind b) (continuation b (record_of b key content ∷ [])) m1 m2 r = subst (λ (n : List ℕ). AfterWrite n (place_behind b) (continuation b (record_of b key content ∷ [])) m1 m2 r) names wrote in
      spares_as name v0 is.f last m0 m2 r answer (spares_more (image_in m0 f0 v0.unit) i1 v0 w is kl dl place b here geometry low small name m0 m1 m2 x r key content e (sym image) first room by_name)

  module _ (b2 : Buffer) (same : b2 ≡ more) (wrote : MayContinue (image_of m1.state f1 b.unit) b → IsAppended b key content (image_of m1.state f1 b.unit) (image_of m2.state f2 b.unit) × StandsOn (image_of m2.state f2 b.unit) b2) where
    appended : IsAppended b key content i1 i2 × StandsOn i2 b2
    appended = subst (λ (n : ℕ). MayContinue (image_of m1.state f1 n) b → IsAppended b key content (image_of m1.state f1 n) (image_of m2.state f2 n) × StandsOn (image_of m2.state f2 n) b2) number wrote here.may

    stands : StandsOn i2 more
    stands = subst (StandsOn i2) same appended.1

    index : ◌≡◌ {A = Vol} (record v1 { buf = b2 }) (record v0 { buf = more })
    index = ap (λ (x : Buffer). let v : Vol = record v1 { buf = x } in v) same ∙ ap (λ (v : Vol). let u : Vol = record v { buf = more } in u) others

    pub call_puts : length key ≤ 255 → length content ≤ 32760 → place.tt < 65536 → place.r < 256 → (count : ℕ) → 0 < count → IsPutBehind is (key, content) place i2 (record v1 { buf = b2 }) (record { slot = w.slot; last = place; blocks = count })
    call_puts key_fits data_fits far near count any =
        let put : IsPutBehind is (key, content) place i2 (record v0 { buf = more }) (record { slot = w.slot; last = place; blocks = count }) =
        put_done (image_in m0 f0 v0.unit) i1 v0 w is kl dl place b here geometry low small key content e key_fits data_fits far near count any i2 appended.0 stands
        in
        subst (λ (v : Vol). IsPutBehind is (key, content) place i2 v (record { slot = w.slot; last = place; blocks = count })) (sym index) put

    -- or where it isn't to be a block, the others are as they were
    pub call_stays : 1 ≤ w.last.r → HasBlocks (body_so_far i2 (record v1 { buf = b2 }) is.f w) (written_by is)
    call_stays some =
        ap (λ (v : Vol). body_so_far i2 v is.f w) index
        ∙ blocks_stay (image_in m0 f0 v0.unit) i1 v0 w is kl dl place b here geometry low small key content e some i2 appended.0

    -- where it has no key and no data, its track ends with an end-of-file record
    pub call_ends : key ≡ [] → content ≡ [] → (track : ℕ) → slice_get (owned_in (image_in m0 f0 v0.unit) v0 is.f) (record_next is (key, content)).tt ≡ Some track → EndsWithNothing i2 v0.geometry track (record_next is (key, content)).r
    call_ends no_key no_content track own =
        let at : place ≡ record_next is (key, content) = here.next (key, content) e in
        let one : b.track ≡ track = same_some b.track track (sym here.owned ∙ ap (λ (p : Place). slice_get (owned_in (image_in m0 f0 v0.unit) v0 is.f) p.tt) at ∙ own) in
        record {
          front = b.records;
          last = record_of b key content;
          records = ap (records_on i2 v0.geometry None) (sym one) ∙ ap (λ (g : Geometry). records_on i2 g None b.track) (sym geometry) ∙ appended.0.records;
          number = here.number ∙ ap (λ (p : Place). p.r) at;
          key = no_key;
          content = no_content;
        }
      where
        same_some : (x y : ℕ) → Some x ≡ Some y → x ≡ y
        same_some x y e = cc

    pub call_mounted : IsMounted i2 (record v1 { buf = b2 })
    call_mounted = subst (IsMounted i2) (sym index) (set_stays (image_in m0 f0 v0.unit) i1 v0 w is kl dl place b here geometry low small key content e i2 appended.0 stands)
