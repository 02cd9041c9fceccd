-- The entry is picked of those of the directory.
use Rattle.std.proofs.Common.{ap, ◌∙◌}
use Rattle.std.specs.Prelude.{find}
use Rattle.std.specs.Option.{option_copied}
use Rattle.std.specs.Str.{bytes_eq}
use Rattle.vol_model.specs.declared.contents.Entry.{Entry}
use Rattle.vol_model.specs.Reading.{entries_in}
use Rattle.map_machine.specs.Reads.{body_in}
use Rattle.map_machine.proofs.Finding.{copied_picks}
use Rattle.map_machine.proofs.reads.entry_in.Goals as goal

pub returns-in-Part-clause-value : goal.returns-in-Part-clause-value
returns-in-Part-clause-value c =
    copied_picks c.copy_found.result (option_copied c.entry_of.result) (entries_in (body_in (option_copied c.args.set))) c.in-Part.entries (λ es. find (λ (e : Entry). bytes_eq e.name.bytes c.args.name.now.bytes) es)
    c.copy_found.ensures (ap (λ o. entries_in (body_in (option_copied o))) c.in-Some.is ∙ ap entries_in c.in-Part.is)
    (c.entry_of.ensures ∙ ap (λ es. find (λ (e : Entry). bytes_eq e.name.bytes c.args.name.now.bytes) es) c.as_slice.ensures)
