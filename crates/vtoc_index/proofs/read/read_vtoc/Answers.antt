use Rattle.std.proofs.Common.{IsTrue, ◌≡◌, ◌⊎◌, [], ◌++◌, Some, refl, sym, ap, subst, ◌∙◌, arith, ℕ, List, length}
use Rattle.std.specs.Prelude.{Err, Ok, slice_get, unwrap_or}
use Rattle.pack_spec.specs.declared.MountErr.TheVariants.{Memory}
use Rattle.pack_spec.specs.Rules.{slots_faults}
use Rattle.pack_spec.specs.Slots.{slots_of_vtoc}
use Rattle.pack_spec.specs.Label.{label_of}
use Rattle.pack_spec.specs.Owned.{volume_faults}
use Rattle.pack_spec.specs.Blocks.{data_tracks}
use Rattle.pack_spec.specs.Volume.{volume_with}
use Rattle.vol_model.specs.Space.{free_runs}
use Rattle.vtoc_index.proofs.HeldDscbs.{dscbs_many}
use Rattle.std.proofs.lemmas.Result.{err_from_is_err_and}
use Rattle.hall_core.specs.Images.{image_in}
use Rattle.vtoc_index.specs.Index.{AreDscbs, AreFirsts}
use Rattle.vtoc_index.specs.Reading.{AreTracksRead}
use Rattle.pack_spec.specs.Vtoc.{vtoc_on}
use Rattle.pack_spec.specs.declared.slot.VtocSlot.{VtocSlot}
use Rattle.vtoc_index.proofs.CallsMade.{reason_at}
use Rattle.vtoc_index.proofs.Images.{same_image}
use Rattle.vtoc_index.proofs.Mounts.{label_reason, label_seen, mounted, outside_reason, slots_reason, vtoc_reason}
use Rattle.track_records.specs.Buffers.{Buffer}
use Rattle.track_records.specs.Written.{StandsOn}
use Rattle.vtoc_index.proofs.read.read_vtoc.Given.{Over}
use Rattle.vtoc_index.proofs.read.read_vtoc.Goals.{After-judge, After-read_label, After-read_slots}
use Rattle.vtoc_index.proofs.read.read_vtoc.Goals as goal

-- the image is the same once its header is read
seen_same : (g : Over) (c : After-read_label g) → IsTrue g.H.Hall.tells → image_in (g.H.Hall.meaning c.read_geometry.new.hall) (g.H.Hall.facts c.read_geometry.new.hall) c.args.unit ≡ image_in (g.H.Hall.meaning c.args.hall.now) (g.H.Hall.facts c.args.hall.now) c.args.unit
seen_same g c told = same_image _ _ (g.H.Hall.facts c.read_geometry.new.hall) (g.H.Hall.facts c.args.hall.now) c.args.unit (c.in_ok-geometry.ensures.files told).state c.in_ok-geometry.ensures.faults.units

alike : (g : Over) (c : After-read_label g) → c.in_ok-buf.buf.geometry ≡ c.in_ok-geometry.geometry
alike g c = ap (λ (b : Buffer). b.geometry) c.in_ok-buf.ensures

-- and once its label is
later_same : (g : Over) (c : After-read_slots g) → IsTrue g.H.Hall.tells → image_in (g.H.Hall.meaning c.read_label.new.hall) (g.H.Hall.facts c.read_label.new.hall) c.args.unit ≡ image_in (g.H.Hall.meaning c.read_geometry.new.hall) (g.H.Hall.facts c.read_geometry.new.hall) c.args.unit
later_same g c told = same_image _ _ (g.H.Hall.facts c.read_label.new.hall) (g.H.Hall.facts c.read_geometry.new.hall) c.args.unit (c.in_ok-label.ensures.files told).state c.in_ok-label.ensures.faults.units

-- the tracks of its VTOC are read
record AreRead (g : Over) (c : After-judge g) : Type 0 where
  extent : vtoc_on (image_in (g.H.Hall.meaning c.args.hall.now) (g.H.Hall.facts c.args.hall.now) c.args.unit) c.in_ok-geometry.geometry c.in_ok-label.label.vtoc ≡ Ok c.in_ok-vtoc.vtoc
  read : AreTracksRead (image_in (g.H.Hall.meaning c.args.hall.now) (g.H.Hall.facts c.args.hall.now) c.args.unit) c.in_ok-geometry.geometry c.in_ok-vtoc.vtoc.start c.in_ok-vtoc.vtoc.len c.in_ok-vtoc.found
  slots : c.deref.result.now ≡ slots_of_vtoc (image_in (g.H.Hall.meaning c.args.hall.now) (g.H.Hall.facts c.args.hall.now) c.args.unit) c.in_ok-geometry.geometry c.in_ok-vtoc.vtoc
  stands : StandsOn (image_in (g.H.Hall.meaning c.args.hall.now) (g.H.Hall.facts c.args.hall.now) c.args.unit) c.read_slots.new.buf

tracks_read : (g : Over) (c : After-judge g) → IsTrue g.H.Hall.tells → image_in (g.H.Hall.meaning c.read_label.new.hall) (g.H.Hall.facts c.read_label.new.hall) c.args.unit ≡ image_in (g.H.Hall.meaning c.args.hall.now) (g.H.Hall.facts c.args.hall.now) c.args.unit → AreRead g c
tracks_read g c told still =
    let geometry = c.in_ok-geometry.geometry in
    let vtoc = c.in_ok-vtoc.vtoc in
    let read = subst (λ (i : List ℕ). AreTracksRead i geometry vtoc.start vtoc.len c.in_ok-vtoc.found) still (c.in_ok-vtoc.ensures.read told) in
    record {
      extent = ap (λ (i : List ℕ). vtoc_on i geometry c.in_ok-label.label.vtoc) (sym still) ∙ c.in_ok-vtoc.ensures.extent told;
      read = read;
      slots = c.deref.ensures.value ∙ read.slots;
      stands = subst (λ (i : List ℕ). StandsOn i c.read_slots.new.buf) still (c.in_ok-vtoc.ensures.stands told);
    }

pub returns-in_err-label-clause-refused : goal.returns-in_err-label-clause-refused
returns-in_err-label-clause-refused g c told =
    let w = (goal.at.returns-in_err-label-clause-refused g c).After-read_label in
    let p = err_from_is_err_and c.from_residual-in_err-label.result c.from_residual-in_err-label.ensures.1 in
    reason_at _ c.from_residual-in_err-label.result c.in_err-label.field-0.0 (p.1 ∙ ap Err p.2)
    (label_reason _ _ c.in_ok-geometry.geometry c.in_ok-buf.buf.geometry c.in_err-label.field-0.0 (seen_same g w told) (alike g w) (c.in_ok-geometry.ensures.read told) (c.in_err-label.ensures.refused told))

pub returns-then-not-is_inside-clause-refused : goal.returns-then-not-is_inside-clause-refused
returns-then-not-is_inside-clause-refused g c told =
    let w = (goal.at.returns-then-not-is_inside-clause-refused g c).After-read_label in
    let label = label_seen _ _ c.in_ok-geometry.geometry c.in_ok-buf.buf.geometry c.in_ok-label.label (seen_same g w told) (alike g w) (c.in_ok-label.ensures.label told) in
    outside_reason _ c.in_ok-geometry.geometry c.in_ok-label.label (c.in_ok-geometry.ensures.read told) label (sym c.if-not-is_inside.ensures)

pub returns-in_err-vtoc-clause-refused : goal.returns-in_err-vtoc-clause-refused
returns-in_err-vtoc-clause-refused g c told =
    let at = goal.at.returns-in_err-vtoc-clause-refused g c in
    let w = at.After-read_label in
    let same = seen_same g w told in
    let label = label_seen _ _ c.in_ok-geometry.geometry c.in_ok-buf.buf.geometry c.in_ok-label.label same (alike g w) (c.in_ok-label.ensures.label told) in
    let p = err_from_is_err_and c.from_residual-in_err-vtoc.result c.from_residual-in_err-vtoc.ensures.1 in
    reason_at _ c.from_residual-in_err-vtoc.result c.in_err-vtoc.field-0.0 (p.1 ∙ ap Err p.2)
    (vtoc_reason _ _ c.in_ok-geometry.geometry c.in_ok-label.label c.in_err-vtoc.field-0.0 (later_same g at.After-read_slots told ∙ same) (c.in_ok-geometry.ensures.read told) label (sym c.if-not-is_inside.ensures) (c.in_err-vtoc.ensures.refused told))

pub returns-in_err-judged-clause-refused : goal.returns-in_err-judged-clause-refused
returns-in_err-judged-clause-refused g c told =
    let at = goal.at.returns-in_err-judged-clause-refused g c in
    let w = at.After-read_label in
    let same = seen_same g w told in
    let geometry = c.in_ok-geometry.geometry in
    let image = image_in (g.H.Hall.meaning c.args.hall.now) (g.H.Hall.facts c.args.hall.now) c.args.unit in
    let label = label_seen image _ geometry c.in_ok-buf.buf.geometry c.in_ok-label.label same (alike g w) (c.in_ok-label.ensures.label told) in
    let vtoc = c.in_ok-vtoc.vtoc in
    let tracks = tracks_read g at.After-judge told (later_same g at.After-read_slots told ∙ same) in
    let p = err_from_is_err_and c.from_residual-in_err-judged.result c.from_residual-in_err-judged.ensures.1 in
    reason_at image c.from_residual-in_err-judged.result c.in_err-judged.field-0.0 (p.1 ∙ ap Err p.2)
    (slots_reason image geometry c.in_ok-label.label vtoc c.in_ok-vtoc.found c.in_err-judged.field-0.0 (c.in_ok-geometry.ensures.read told) label (sym c.if-not-is_inside.ensures) tracks.extent tracks.read
    (subst (λ (l : List VtocSlot). (c.in_err-judged.field-0.0 ≡ Memory) ⊎ (slice_get (slots_faults geometry l ++ volume_faults (volume_with geometry (data_tracks image geometry vtoc) (unwrap_or (label_of image geometry) []) vtoc l)) 0 ≡ Some c.in_err-judged.field-0.0)) tracks.slots (c.in_err-judged.ensures.refused (data_tracks image geometry vtoc) (unwrap_or (label_of image geometry) []))))

pub returns-clause-mounted : goal.returns-clause-mounted
returns-clause-mounted g c told =
    let at = goal.at.returns-clause-mounted g c in
    let w = at.After-read_label in
    let same = seen_same g w told in
    let geometry = c.in_ok-geometry.geometry in
    let image = image_in (g.H.Hall.meaning c.args.hall.now) (g.H.Hall.facts c.args.hall.now) c.args.unit in
    let vtoc = c.in_ok-vtoc.vtoc in
    let tracks = tracks_read g at.After-judge told (later_same g at.After-read_slots told ∙ same) in
    mounted image c.in_ok-label.label _ c.in_ok-vtoc.found
    (record {
      header = c.in_ok-geometry.ensures.read told;
      label = label_seen image _ geometry c.in_ok-buf.buf.geometry c.in_ok-label.label same (alike g w) (c.in_ok-label.ensures.label told);
      inside = sym c.if-not-is_inside.ensures;
      extent = tracks.extent;
      read = tracks.read;
    })
    refl refl tracks.stands (subst (λ (l : List VtocSlot). AreDscbs c.in_ok-judged.judged.dscbs.items l × (slots_faults geometry l ≡ [])) tracks.slots c.in_ok-judged.ensures.dscbs)
    (subst (λ (l : List VtocSlot). (volume_faults (volume_with geometry (data_tracks image geometry vtoc) (unwrap_or (label_of image geometry) []) vtoc l) ≡ []) × (c.in_ok-judged.judged.free.items ≡ free_runs (volume_with geometry (data_tracks image geometry vtoc) (unwrap_or (label_of image geometry) []) vtoc l))) tracks.slots (c.in_ok-judged.ensures.free (data_tracks image geometry vtoc) (unwrap_or (label_of image geometry) [])))

-- as many slots are held as were read
pub returns-clause-unit : goal.returns-clause-unit
returns-clause-unit g c =
    let extent = c.in_ok-vtoc.ensures.numbers.0 in
    let numbers = c.in_ok-vtoc.ensures.numbers.1 in
    let many : length c.in_ok-judged.judged.dscbs.items ≡ length c.in_ok-vtoc.found.slots.items = dscbs_many c.in_ok-judged.judged.dscbs.items c.deref.result.now c.in_ok-judged.ensures.dscbs.0 ∙ ap length c.deref.ensures.value in (
      refl,
      record {
        attached = c.requires;
        whole = c.in_ok-geometry.ensures.whole;
        inside = extent.inside;
        tracks = numbers.tracks;
        few = extent.few;
        most = omega (arith, many, numbers.few, extent.few);
        firsts = subst (λ (n : ℕ). AreFirsts 0 c.in_ok-vtoc.found.firsts.items n) (sym many) numbers.firsts;
        free = c.in_ok-judged.ensures.runs;
        buffer = c.in_ok-vtoc.ensures.buffer;
      },
    )
