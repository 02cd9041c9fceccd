use Rattle.std.proofs.Common.{◌≡◌, ◌+◌, map, take}
use Rattle.std.specs.List.{concat}
use Rattle.chain_spec.specs.Cut.{total}
use Rattle.vol_model.specs.Slots.{entry_size}
use Rattle.pds_directory.specs.Entries.{AreSized}
use Rattle.pds_directory.specs.Spelling.{entry_bytes}
use Rattle.pds_directory.proofs.EntryBytes.{IsPut}
use Rattle.pds_directory.proofs.encoding.put_entries.Given as goal

abbrev pub invariant-loop-entry : goal.invariant-loop-entry
invariant-loop-entry l =
    (l.at ≡ 2 + total entry_size (take l.entry-index l.entries))
    × AreSized (take l.entry-index l.entries)
    × IsPut 2 (concat (map entry_bytes (take l.entry-index l.entries))) l.fn.data l.data
