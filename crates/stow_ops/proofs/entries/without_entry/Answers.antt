use Rattle.std.proofs.Common.{refl}
use Rattle.std.specs.Str.{bytes_eq}
use Rattle.vol_model.specs.declared.contents.Entry.{Entry}
use Rattle.stow_ops.proofs.EntryLists.{dropped_at, nowhere}
use Rattle.stow_ops.proofs.entries.without_entry.Goals as goal

pub returns-in_default-clause-refused : goal.returns-in_default-clause-refused
returns-in_default-clause-refused c = (refl, nowhere (λ (e : Entry). bytes_eq e.name.bytes c.args.name.now.bytes) c.args.entries.items (cc))

pub returns-clause-dropped : goal.returns-clause-dropped
returns-clause-dropped c = dropped_at c.args.name.now.bytes c.args.entries.items c.remove.new.self.items c.in-Some.at c.remove.result (cc) c.remove.ensures.by_index.2
