-- The blocks of a partitioned data set are ordered.
use Rattle.std.proofs.Common.{◌<◌, ℕ, List, arith}
use Rattle.dscb_codec.specs.declared.F1.{F1}
use Rattle.vol_model.specs.declared.contents.Body.{Body}
use Rattle.vol_model.specs.declared.contents.Body.TheVariants as bodies
use Rattle.vol_model.specs.Lawful.{IsLawfulBody}
use Rattle.vol_model.specs.Places.{tracks_in}
use Rattle.vol_model.specs.Shelf.{blocks_of}
use Rattle.pack_spec.proofs.PartLawful.{lawful_part}
use Rattle.pack_spec.proofs.SeqBodies.{length-owned}
use Rattle.vtoc_index.specs.declared.vol.Vol.{Vol}
use Rattle.vtoc_sets.specs.Sets.{extents_in}
use Rattle.seq_access.specs.Bodies.{IsSetIn, data_in, part_in}
use Rattle.vtoc_sets.proofs.DataPlaces.{few_owned_tracks}
use Rattle.member_access.proofs.LaterBlocks.{AreOrdered, ordered}

lawful_ordered : (tracks : ℕ) (body : Body) → IsLawfulBody tracks body → AreOrdered (blocks_of body)
lawful_ordered tracks (bodies.Seq bs) h = ordered tracks (record { tt = 0; r = 0 }) bs h.0 h.1
lawful_ordered tracks (bodies.Part dir end es bs) h = ordered tracks end bs h.follow h.blocks
lawful_ordered tracks bodies.Catalog h = record { rise = tt; each = tt }
lawful_ordered tracks bodies.Other h = record { rise = tt; each = tt }
lawful_ordered tracks (bodies.Unreadable track) h = record { rise = tt; each = tt }

pub part_ordered : (image : List ℕ) (v : Vol) (f : F1) → IsSetIn image v f → AreOrdered (blocks_of (part_in image v f))
part_ordered image v f set =
    let runs = extents_in image v f in
    let many = few_owned_tracks image v f set in
    let few : tracks_in runs < 65535 = omega (arith, many, length-owned runs) in
    lawful_ordered (tracks_in runs) (part_in image v f) (lawful_part v.geometry (data_in image v) runs f.lstar few)
