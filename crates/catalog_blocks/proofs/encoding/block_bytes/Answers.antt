use Rattle.std.proofs.Common.{ap, ◌∙◌, arith}
use Rattle.catalog_blocks.specs.declared.blocks.CatBlock.{CatBlock}
use Rattle.catalog_blocks.specs.Blocks.{block_in}
use Rattle.catalog_blocks.proofs.BlockData.{spelled_put, whole_data}
use Rattle.catalog_blocks.proofs.ReadBack.{block_back, length_spelled}
use Rattle.catalog_blocks.proofs.encoding.block_bytes.Goals as goal

pub returns-clause-bytes : goal.returns-clause-bytes
returns-clause-bytes c =
    let b : CatBlock = record { entries = c.args.entries.now; next = c.args.next } in
    let put = c.put_entries-at.ensures in
    let is = spelled_put b c.put_entries-at.result c.put_entries-at.new.data c.put_link-used.new.data c.requires.fit put.sized put.end put.bytes (omega arith) c.put_link-used.ensures.bytes in
    whole_data b c.put_link-used.result c.put_link-used.new.data c.to_be_bytes.result c.put_part.new.data is (omega (arith, put.end, c.put_link-used.ensures.end, length_spelled b put.sized)) c.to_be_bytes.ensures c.put_part.ensures.bytes

pub returns-clause-reads : goal.returns-clause-reads
returns-clause-reads c =
    let b : CatBlock = record { entries = c.args.entries.now; next = c.args.next } in
    ap block_in (returns-clause-bytes c) ∙ block_back b c.requires c.put_entries-at.ensures.sized (omega arith)
