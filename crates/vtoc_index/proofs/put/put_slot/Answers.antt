use Rattle.std.proofs.Common.{◌≡◌, ◌+◌, ◌-◌, ◌++◌, List, length, IsTrue, refl, rules, inr, ℕ, ap, subst, sym, ◌∙◌, arith, take}
use Rattle.std.proofs.lemmas.List.{take-append-drop}
use Rattle.std.proofs.lemmas.Result.{IfOk-from_err}
use Rattle.ckd_image.specs.declared.header.Geometry.{Geometry}
use Rattle.hall_core.specs.Facts.{Attached, unit_of}
use Rattle.hall_core.specs.Images.{image_of}
use Rattle.stop_model.specs.Files.{patched}
use Rattle.track_records.specs.Buffers.{Buffer}
use Rattle.track_records.specs.Written.{StandsOn, place_of}
use Rattle.track_records.proofs.UpdateLemmas.{lengths_there}
use Rattle.track_records.proofs.WriteLemmas.{same_write, write_done, write_failed}
use Rattle.vtoc_index.specs.Index.{IsPut, place_of_slot}
use Rattle.vtoc_index.specs.Puts.{HasSlot, IsHeld, IsReplaced}
use Rattle.dscb_codec.specs.declared.Dscb.{Dscb}
use Rattle.vtoc_index.proofs.BegunLemmas.{after_same, not_begun, same_image}
use Rattle.vtoc_index.proofs.PutLaw.{front_of, held_place, index_put, slot_found, slot_put, track_of}
use Rattle.vtoc_index.proofs.put.put_slot.Given.{Over}
use Rattle.vtoc_index.proofs.put.put_slot.Goals.{After-update}
use Rattle.std.specs.Vec.{with_item}
use Rattle.vtoc_index.proofs.put.put_slot.Goals as goal

pub hold-requires-clause-there : goal.hold-requires-clause-there
hold-requires-clause-there g c told =
    let v = c.args.vol.now in
    let image = image_of (g.H.Hall.meaning c.args.hall.now).state (g.H.Hall.facts c.args.hall.now) v.unit in
    let place = c.place_of-place in
    let f = slot_found image v c.args.slot (c.requires.index told) c.requires.slot in
    subst (λ (n : ℕ). HasSlot image v.buf.geometry n place.result.number) (sym place.ensures.track)
    (subst (λ (n : ℕ). HasSlot image v.buf.geometry (track_of v c.args.slot) n) (sym place.ensures.number)
    (subst (λ (x : Geometry). HasSlot image x (track_of v c.args.slot) (front_of v c.args.slot + 1)) (sym c.requires.unit.buffer.0) f.has))

pub returns-in_err-hold-clause-files : goal.returns-in_err-hold-clause-files
returns-in_err-hold-clause-files g c told = record {
  bytes = c.encode-bytes.result;
  dscb = c.encode-bytes.ensures.decoded;
  size = search rules;
  write = not_begun c.from_residual.result c.from_residual.ensures.0 (c.in_err-hold.ensures.files told);
  kept =
      let image = image_of (g.H.Hall.meaning c.args.hall.now).state (g.H.Hall.facts c.args.hall.now) c.args.vol.now.unit in
      slot_put image c.args.vol.now c.args.slot c.args.dscb.now c.encode-bytes.result (c.requires.index told) c.requires.slot (search rules) c.encode-bytes.ensures.decoded;
  done = IfOk-from_err c.from_residual.result _ c.from_residual.ensures.0;
}

-- the write is one of the slot's bytes at its place
name_is : (g : Over) (c : After-update g) → (unit_of (g.H.Hall.facts c.hold.new.hall).units c.hold.new.buf.unit).name ≡ (unit_of (g.H.Hall.facts c.args.hall.now).units c.args.vol.now.unit).name
name_is g c =
    ap (λ (us : List Attached). (unit_of us c.hold.new.buf.unit).name) c.in_ok-hold.ensures.faults.units
    ∙ ap (λ (u : ℕ). (unit_of (g.H.Hall.facts c.args.hall.now).units u).name) (c.in_ok-hold.ensures.kept.1 ∙ c.requires.unit.buffer.1)

front_is : (g : Over) (c : After-update g) → c.place_of-place.result.number - 1 ≡ front_of c.args.vol.now c.args.slot
front_is g c = omega (arith, c.place_of-place.ensures.number)

image_is : (g : Over) (c : After-update g) → IsTrue g.H.Hall.tells → image_of (g.H.Hall.meaning c.hold.new.hall).state (g.H.Hall.facts c.hold.new.hall) c.args.vol.now.unit ≡ image_of (g.H.Hall.meaning c.args.hall.now).state (g.H.Hall.facts c.args.hall.now) c.args.vol.now.unit
image_is g c told = same_image _ _ (g.H.Hall.facts c.args.hall.now) (g.H.Hall.facts c.hold.new.hall) c.args.vol.now.unit c.args.vol.now.unit (c.in_ok-hold.ensures.files told).state c.in_ok-hold.ensures.faults.units refl

place_is : (g : Over) (c : After-update g) → IsTrue g.H.Hall.tells → place_of c.hold.new.buf (c.place_of-place.result.number - 1) ≡ place_of_slot c.args.vol.now c.args.slot
place_is g c told =
    let v = c.args.vol.now in
    let b = c.hold.new.buf in
    let image = image_of (g.H.Hall.meaning c.args.hall.now).state (g.H.Hall.facts c.args.hall.now) v.unit in
    let f = slot_found image v c.args.slot (c.requires.index told) c.requires.slot in
    let stands : StandsOn image b = subst (λ (i : List ℕ). StandsOn i b) (image_is g c told) (c.in_ok-hold.ensures.stands told) in
    let low = lengths_there b.records (c.place_of-place.result.number - 1) 44 96 c.in_ok-hold.ensures.lengths in
    let track : b.track ≡ track_of v c.args.slot = ap (λ (x : Buffer). x.track) c.in_ok-hold.ensures.buffer ∙ c.place_of-place.ensures.track in
    ap (place_of b) (front_is g c) ∙ held_place image v c.args.slot b f stands (c.in_ok-hold.ensures.kept.0 ∙ c.requires.unit.buffer.0) track (omega (arith, low, front_is g c))

bytes_is : (g : Over) (c : After-update g) → c.split_at.result.0.now ++ c.split_at.result.1.now ≡ c.encode-bytes.result
bytes_is g c = ap (λ (l : List ℕ). l ++ c.split_at.result.1.now) c.split_at.ensures.front ∙ ap (λ (l : List ℕ). take 44 c.encode-bytes.result ++ l) c.split_at.ensures.back ∙ take-append-drop 44 c.encode-bytes.result

pub returns-in_err-update-clause-files : goal.returns-in_err-update-clause-files
returns-in_err-update-clause-files g c told =
    let w = (goal.at.returns-in_err-update-clause-files g c).After-update in
    record {
      bytes = c.encode-bytes.result;
      dscb = c.encode-bytes.ensures.decoded;
      size = search rules;
      write =
          write_failed c.from_residual-in_err-update.result c.from_residual-in_err-update.ensures.0
          (same_write _ _ _ _ _ _ (name_is g w) (place_is g w told) (bytes_is g w)
          (after_same _ _ _ _ _ _ (g.met.H.Hall.counts_now c.args.hall.now) (w.in_ok-hold.ensures.files told) _ (c.in_err-update.ensures.files told)));
      kept =
          let image = image_of (g.H.Hall.meaning c.args.hall.now).state (g.H.Hall.facts c.args.hall.now) c.args.vol.now.unit in
          slot_put image c.args.vol.now c.args.slot c.args.dscb.now c.encode-bytes.result (c.requires.index told) c.requires.slot (search rules) c.encode-bytes.ensures.decoded;
      done = IfOk-from_err c.from_residual-in_err-update.result _ c.from_residual-in_err-update.ensures.0;
    }

replaced : (g : Over) (c : After-update g) (d : Dscb) → IsReplaced c.args.slot d c.args.vol.now (record (c.args.vol.now) { slots = with_item c.args.vol.now.slots c.args.slot d; buf = c.update.new.buf })
replaced g c d = record {
  items = search rules;
  others = refl;
  geometry = ap (λ (x : Buffer). x.geometry) c.update.ensures.buffer ∙ c.in_ok-hold.ensures.kept.0;
  unit = ap (λ (x : Buffer). x.unit) c.update.ensures.buffer ∙ c.in_ok-hold.ensures.kept.1;
}

pub returns-clause-files : goal.returns-clause-files
returns-clause-files g c told =
    let w = (goal.at.returns-clause-files g c).After-update in
    let v = c.args.vol.now in
    let image = image_of (g.H.Hall.meaning c.args.hall.now).state (g.H.Hall.facts c.args.hall.now) v.unit in
    let put = image_of (g.H.Hall.meaning c.update.new.hall).state (g.H.Hall.facts c.update.new.hall) v.unit in
    let b = c.hold.new.buf in
    let number = w.in_ok-hold.ensures.kept.1 ∙ c.requires.unit.buffer.1 in
    let stands = subst (λ (n : ℕ). StandsOn (image_of (g.H.Hall.meaning c.hold.new.hall).state (g.H.Hall.facts c.hold.new.hall) n) b) (sym number) (w.in_ok-hold.ensures.stands told) in
    let wrote = c.in_ok-update.ensures.record told stands in
    let bytes = c.encode-bytes.result in
    let size : length bytes ≡ 140 = search rules in
    let same = ap (λ (n : ℕ). image_of (g.H.Hall.meaning c.hold.new.hall).state (g.H.Hall.facts c.hold.new.hall) n) number ∙ image_is g w told in
    let is : put ≡ patched image (place_of_slot v c.args.slot) bytes =
    sym (ap (λ (n : ℕ). image_of (g.H.Hall.meaning c.update.new.hall).state (g.H.Hall.facts c.update.new.hall) n) number)
    ∙ wrote.0.bytes
    ∙ ap (λ (i : List ℕ). patched i (place_of b (c.place_of-place.result.number - 1)) (c.split_at.result.0.now ++ c.split_at.result.1.now)) same
    ∙ ap (λ (n : ℕ). patched image n (c.split_at.result.0.now ++ c.split_at.result.1.now)) (place_is g w told)
    ∙ ap (patched image (place_of_slot v c.args.slot)) (bytes_is g w)
    in
    let index = c.requires.index told in
    let law : IsPut v c.args.slot c.args.dscb.now image put = subst (λ (i : List ℕ). IsPut v c.args.slot c.args.dscb.now image i) (sym is) (slot_put image v c.args.slot c.args.dscb.now bytes index c.requires.slot size c.encode-bytes.ensures.decoded) in
    let held : IsHeld put c.update.new.buf = inr (subst (λ (n : ℕ). StandsOn (image_of (g.H.Hall.meaning c.update.new.hall).state (g.H.Hall.facts c.update.new.hall) n) c.update.new.buf) number wrote.1) in
    record {
      bytes = bytes;
      dscb = c.encode-bytes.ensures.decoded;
      size = size;
      write =
          write_done tt
          (same_write _ _ _ _ _ _ (name_is g w) (place_is g w told) (bytes_is g w)
          (after_same _ _ _ _ _ _ (g.met.H.Hall.counts_now c.args.hall.now) (w.in_ok-hold.ensures.files told) _ (c.in_ok-update.ensures.files told)));
      kept = slot_put image v c.args.slot c.args.dscb.now bytes index c.requires.slot size c.encode-bytes.ensures.decoded;
      done = (law, index_put image put v (record v { slots = with_item v.slots c.args.slot c.args.dscb.now; buf = c.update.new.buf }) c.args.slot c.args.dscb.now index law (replaced g w c.args.dscb.now) held);
    }
