use Rattle.std.proofs.Common.{◌+◌, ◌≤◌, ℕ, Bool, cond, List, ap, ◌∙◌, arith}
use Rattle.chain_spec.specs.Cut.{total}
use Rattle.vol_model.specs.declared.contents.Entry.{Entry}
use Rattle.vol_model.specs.Slots.{entry_size}
use Rattle.pack_spec.specs.Directories.{block_entries}
use Rattle.pds_directory.proofs.BlockData.{AreBehindCount, moved, with_end, without_end, whole_data}
use Rattle.pds_directory.proofs.ReadBack.{block_back}
use Rattle.pds_directory.proofs.encoding.block_bytes.Goals as goal
use Rattle.pds_directory.proofs.encoding.block_bytes.Goals.{then-last, else-last}

pub returns-clause-bytes : goal.returns-clause-bytes
returns-clause-bytes c =
    let es : List Entry = c.args.entries.now in
    let last : Bool = c.args.last in
    let sized = c.put_entries-at.ensures.sized in
    let fit = c.requires.fit in
    let put = c.put_entries-at.ensures in
    let behind : AreBehindCount es last c.if-last.at c.if-last.data = elim c.if-last.branch [
      | then-last w ↦
          let room : total entry_size es + 12 ≤ 254 = omega (arith, fit, ap {B = ℕ} (λ (b : Bool). cond b 12 0) w.if-last.true) in
          moved (with_end es c.put_entries-at.result w.put_part-at.result c.put_entries-at.new.data w.put_part-at.new.data room sized put.behind put.bytes (omega arith) w.put_part-at.ensures.behind w.put_part-at.ensures.bytes) w.if-last.true w.at-is w.data-is
      | else-last w ↦
          let room : total entry_size es ≤ 254 = omega (arith, fit) in
          moved (without_end es c.put_entries-at.result c.put_entries-at.new.data room sized put.behind put.bytes) w.if-last.false w.at-is w.data-is
    ] in
    whole_data es last c.if-last.at c.if-last.data c.to_be_bytes.result c.put_part.new.data sized behind c.to_be_bytes.ensures c.put_part.ensures.bytes

pub returns-clause-reads : goal.returns-clause-reads
returns-clause-reads c = ap block_entries (returns-clause-bytes c) ∙ block_back c.args.entries.now c.args.last c.requires c.put_entries-at.ensures.sized
