use Rattle.std.proofs.Common.{◌≡◌, length, sym, subst, ◌∙◌, arith}
use Rattle.std.specs.Prelude.{IfOk, IfErr, Ok, take}
use Rattle.ckd_image.specs.declared.header.ImageErr.TheVariants.{BadMagic}
use Rattle.ckd_image.specs.Header.{geometry_of}
use Rattle.hall_core.specs.Facts.{unit_of}
use Rattle.hall_core.specs.Images.{image_of}
use Rattle.pack_spec.specs.Volume.{volume_of}
use Rattle.vtoc_index.specs.Reading.{Refuses}
use Rattle.vtoc_index.proofs.Images.{image_length, short_refused, header_read}
use Rattle.vtoc_index.proofs.Reasons.{refuses, volume_unread}
use Rattle.vtoc_index.proofs.header.read_geometry.Goals.{in-Ok-read, in-Err}
use Rattle.vtoc_index.proofs.header.read_geometry.Goals as goal

pub returns-then-len-clause-refused : goal.returns-then-len-clause-refused
returns-then-len-clause-refused g c told =
    let m = g.H.Hall.meaning c.args.hall.now in
    let f = g.H.Hall.facts c.args.hall.now in
    let long = image_length m.state f.units c.args.unit (g.met.H.Hall.whole c.args.hall.now told) c.requires in
    refuses (volume_unread (image_of m.state f c.args.unit) BadMagic (short_refused _ _ (omega (arith, long, c.size-len.ensures))))

pub returns-clause-read : goal.returns-clause-read
returns-clause-read g c told =
    let m = g.H.Hall.meaning c.args.hall.now in
    let f = g.H.Hall.facts c.args.hall.now in
    let image = image_of m.state f c.args.unit in
    let long = image_length m.state f.units c.args.unit (g.met.H.Hall.whole c.args.hall.now told) c.requires in
    let size : length c.read.new.buf ≡ 512 = c.read.auto.buf in
    let header = header_read m.state (unit_of f.units c.args.unit).name c.read.new.buf c.size-len.result (c.in-Ok.ensures.bytes told) size (long ∙ sym c.size-len.ensures) in
    elim c.match-read-2.branch [
      | in-Ok-read w ↦ subst (λ r. IfOk r (λ x. geometry_of (take 512 image) (length image) ≡ Ok x)) (sym w.result-is) (header ∙ sym c.read-2.ensures.exact ∙ w.in-Ok-read.is)
      | in-Err w ↦ subst (λ r. IfOk r (λ x. geometry_of (take 512 image) (length image) ≡ Ok x)) (sym w.result-is) tt
    ]

pub returns-clause-refused : goal.returns-clause-refused
returns-clause-refused g c told =
    let m = g.H.Hall.meaning c.args.hall.now in
    let f = g.H.Hall.facts c.args.hall.now in
    let image = image_of m.state f c.args.unit in
    let long = image_length m.state f.units c.args.unit (g.met.H.Hall.whole c.args.hall.now told) c.requires in
    let size : length c.read.new.buf ≡ 512 = c.read.auto.buf in
    let header = header_read m.state (unit_of f.units c.args.unit).name c.read.new.buf c.size-len.result (c.in-Ok.ensures.bytes told) size (long ∙ sym c.size-len.ensures) in
    elim c.match-read-2.branch [
      | in-Ok-read w ↦ subst (λ r. IfErr r (Refuses (volume_of image))) (sym w.result-is) tt
      | in-Err w ↦ subst (λ r. IfErr r (Refuses (volume_of image))) (sym w.result-is) (refuses (volume_unread image w.in-Err.fault (header ∙ sym c.read-2.ensures.exact ∙ w.in-Err.is)))
    ]
