use Rattle.std.proofs.Common.{inl, inr, sym, ap}
use Rattle.pack_spec.specs.Bodies.{body_of}
use Rattle.pack_spec.specs.Volume.{attr_of}
use Rattle.vol_model.specs.Reading.{kind_of}
use Rattle.pack_machine.proofs.ShelfReads.{kind_listed, kind_unlisted, part_unlisted}
use Rattle.pack_machine.proofs.reads.kind_in.Goals as goal

pub returns-in-Some : goal.returns-in-Some
returns-in-Some c g tracks extents listed =
    let f = c.args.set.now in
    kind_listed f.name (attr_of f) (body_of g tracks f.name (attr_of f) extents f.lstar) c.args.known.now.unread.items (inl (sym c.in-Seq.ensures.kind)) listed c.in-Some.track c.in-Some.ensures

pub returns-in-None : goal.returns-in-None
returns-in-None c g tracks extents listed =
    let f = c.args.set.now in
    kind_unlisted f.name (attr_of f) (body_of g tracks f.name (attr_of f) extents f.lstar) c.args.known.now.unread.items (inl (sym c.in-Seq.ensures.kind)) listed g tracks extents f.lstar (c.in-Seq.ensures.body g tracks extents) c.in-None.ensures

pub returns-in-Some-track_of : goal.returns-in-Some-track_of
returns-in-Some-track_of c g tracks extents listed =
    let f = c.args.set.now in
    kind_listed f.name (attr_of f) (body_of g tracks f.name (attr_of f) extents f.lstar) c.args.known.now.unread.items (inr (sym c.in-Part.ensures.kind)) listed c.in-Some-track_of.track c.in-Some-track_of.ensures

pub returns-in-None-track_of : goal.returns-in-None-track_of
returns-in-None-track_of c g tracks extents listed =
    let f = c.args.set.now in
    part_unlisted f.name (attr_of f) (body_of g tracks f.name (attr_of f) extents f.lstar) c.args.known.now.unread.items (inr (sym c.in-Part.ensures.kind)) listed g tracks extents f.lstar (c.in-Part.ensures.body g tracks extents) c.in-None-track_of.ensures

pub returns-in-Catalog : goal.returns-in-Catalog
returns-in-Catalog c g tracks extents listed = sym (ap kind_of (c.in-Catalog.ensures.body g tracks extents))

pub returns-in-Other : goal.returns-in-Other
returns-in-Other c g tracks extents listed = sym (ap kind_of (c.in-Other.ensures.body g tracks extents))
