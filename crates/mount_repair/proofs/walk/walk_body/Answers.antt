use Rattle.std.proofs.Common.{refl, rules}
use Rattle.hall_core.specs.Images.{image_in}
use Rattle.vol_model.specs.declared.contents.Body.TheVariants.{Other, Unreadable}
use Rattle.mount_repair.proofs.WalkedBodies.{no_library, other_dir, seq_dir}
use Rattle.mount_repair.proofs.walk.walk_body.Goals as goal

pub returns-in-Seq-clause-notes : goal.returns-in-Seq-clause-notes
returns-in-Seq-clause-notes g c =
    let image = image_in (g.H.Hall.meaning c.args.hall.now) (g.H.Hall.facts c.args.hall.now) c.args.vol.now.unit in
    record {
      directory = λ told. seq_dir image c.args.vol.now c.args.set.now c.args.slot c.args.walk.now.unpacked.items c.check_records.result c.kind_walked.result _ (c.in-Seq.ensures.body _ _ _) (c.check_records.ensures.body told) c.kind_walked.ensures;
      library = λ told. no_library image c.args.vol.now c.args.set.now c.args.slot c.args.walk.now.libraries.items c.kind_walked.result;
      sound = search rules;
      volume = refl;
    }

pub returns-in-Catalog-clause-notes : goal.returns-in-Catalog-clause-notes
returns-in-Catalog-clause-notes g c = record {
  directory = λ told.
      let image = image_in (g.H.Hall.meaning c.args.hall.now) (g.H.Hall.facts c.args.hall.now) c.args.vol.now.unit in
      other_dir image c.args.vol.now c.args.set.now c.args.slot c.args.walk.now.unpacked.items (Unreadable 0) (c.in-Catalog.ensures.body _ _ _) (λ n end es bs part. cc);
  library = search rules;
  sound = search rules;
  volume = refl;
}

pub returns-in-Other-clause-notes : goal.returns-in-Other-clause-notes
returns-in-Other-clause-notes g c = record {
  directory = λ told.
      let image = image_in (g.H.Hall.meaning c.args.hall.now) (g.H.Hall.facts c.args.hall.now) c.args.vol.now.unit in
      other_dir image c.args.vol.now c.args.set.now c.args.slot c.args.walk.now.unpacked.items Other (c.in-Other.ensures.body _ _ _) (λ n end es bs part. cc);
  library = search rules;
  sound = search rules;
  volume = refl;
}
