use Rattle.std.proofs.Common.{Bool, None, ◌∙◌, subst}
use Rattle.hall_core.specs.Images.{image_in}
use Rattle.pack_spec.specs.Label.{records_on}
use Rattle.pds_directory.specs.Reading.{IsReadUpTo}
use Rattle.pds_directory.proofs.EndReads.{held_first, reached_whole}
use Rattle.pds_directory.proofs.ends.reach_end.Goals as goal

pub returns-then-read-clause-reached : goal.returns-then-read-clause-reached
returns-then-read-clause-reached g c told tracks has =
    let image = image_in (g.H.Hall.meaning c.args.hall.now) (g.H.Hall.facts c.args.hall.now) c.args.vol.now.unit in
    let xs = c.read_up_to.new.vol.buf.records in
    let P : Bool → Type 0 = λ b. IsReadUpTo b (records_on image c.args.vol.now.geometry None c.args.track) xs in
    reached_whole c.args.vol.now.geometry tracks c.args.track xs c.reached_in.result c.reached_in.ensures c.in_ok-read.ensures.few (has None ∙ subst P c.if-read.true (c.in_ok-read.ensures.read told))

pub returns-then-read-clause-held : goal.returns-then-read-clause-held
returns-then-read-clause-held g c = held_first c.read_up_to.new.vol.buf.records c.reached_in.result c.reached_in.ensures c.in_ok-read.ensures.few
