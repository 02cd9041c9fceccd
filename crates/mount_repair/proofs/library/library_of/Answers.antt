use Rattle.std.proofs.Common.{◌∙◌, ap, map}
use Rattle.std.specs.Prelude.{vec_items}
use Rattle.chain_spec.specs.Kept.{joined, kept}
use Rattle.pack_spec.specs.Directories.{name_number}
use Rattle.vol_model.specs.declared.contents.Entry.{Entry}
use Rattle.mount_repair.proofs.library.library_of.Goals as goal

pub invariant_of-result : goal.invariant_of-result
invariant_of-result c = record {
  lawful = record {
    dir = c.requires;
    entries = c.in_ok-entries.ensures ∙ ap (λ bs. kept name_number (joined {E = Entry} (map vec_items bs))) c.deref.ensures.value;
  };
}
