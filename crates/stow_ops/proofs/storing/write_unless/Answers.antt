use Rattle.std.proofs.Common.{◌≡◌, ◌<◌, List, get_or, length, map, inr, subst}
use Rattle.hall_core.specs.Images.{image_in}
use Rattle.vol_model.specs.declared.contents.Block.{Block}
use Rattle.vol_model.specs.declared.contents.Place.{Place}
use Rattle.pds_directory.specs.Directories.{directory_in}
use Rattle.stow_ops.proofs.WritesAt.{place_at}
use Rattle.stow_ops.proofs.storing.write_unless.Goals as goal

pub write_block-requires-clause-there : goal.write_block-requires-clause-there
write_block-requires-clause-there g c = λ told.
    let image = image_in (g.H.Hall.meaning c.args.hall.now) (g.H.Hall.facts c.args.hall.now) c.args.vol.now.unit in
    let bs : List Block = directory_in image c.args.vol.now c.args.set.now in
    let low : c.args.at < length (map (λ (b : Block). b.place) bs) = subst (λ (ps : List Place). c.args.at < length ps) (c.requires.there told) c.requires.place in
    let is : c.index-place.result.now ≡ get_or (map (λ (b : Block). b.place) bs) c.args.at c.index-place.result.now = subst (λ (ps : List Place). c.index-place.result.now ≡ get_or ps c.args.at c.index-place.result.now) (c.requires.there told) c.index-place.ensures in
    (c.args.at, place_at bs c.args.at c.index-place.result.now c.index-place.result.now low is)

pub returns-clause-files : goal.returns-clause-files
returns-clause-files g c = λ told.
    let image = image_in (g.H.Hall.meaning c.args.hall.now) (g.H.Hall.facts c.args.hall.now) c.args.vol.now.unit in
    let bs : List Block = directory_in image c.args.vol.now c.args.set.now in
    let low : c.args.at < length (map (λ (b : Block). b.place) bs) = subst (λ (ps : List Place). c.args.at < length ps) (c.requires.there told) c.requires.place in
    let is : c.index-place.result.now ≡ get_or (map (λ (b : Block). b.place) bs) c.args.at c.index-place.result.now = subst (λ (ps : List Place). c.index-place.result.now ≡ get_or ps c.args.at c.index-place.result.now) (c.requires.there told) c.index-place.ensures in
    inr (c.write_block.ensures.files told c.args.at (place_at bs c.args.at c.index-place.result.now c.index-place.result.now low is))
