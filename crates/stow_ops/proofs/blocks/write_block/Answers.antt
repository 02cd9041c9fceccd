use Rattle.std.proofs.Common.{◌≡◌, ℕ, List, length, ap, ◌∙◌, subst, arith}
use Rattle.chain_spec.specs.Store.{Block as Stored}
use Rattle.hall_core.specs.Facts.{unit_of}
use Rattle.hall_core.specs.Images.{image_in}
use Rattle.pack_spec.specs.Directories.{block_entries}
use Rattle.vol_model.specs.declared.contents.Entry.{Entry}
use Rattle.vtoc_index.specs.declared.vol.Vol.{Vol}
use Rattle.set_records.specs.Rewriting.{HasRecord}
use Rattle.stow_ops.proofs.BlockWrites.{writes_block}
use Rattle.stow_ops.proofs.PlacesHeld.{place_held}
use Rattle.stow_ops.proofs.WholeBytes.{whole_bytes}
use Rattle.stow_ops.proofs.WrittenDirectories.{Rewrites}
use Rattle.stow_ops.proofs.blocks.write_block.Goals as goal

pub rewrite_record-requires-clause-set : goal.rewrite_record-requires-clause-set
rewrite_record-requires-clause-set g c told = (c.requires.part told).set

pub rewrite_record-requires-clause-there : goal.rewrite_record-requires-clause-there
rewrite_record-requires-clause-there g c told =
    let image = image_in (g.H.Hall.meaning c.args.hall.now) (g.H.Hall.facts c.args.hall.now) c.args.vol.now.unit in
    let keys : 8 ≡ length c.block_bytes.result.0 = omega arith in
    let contents : 256 ≡ length c.block_bytes.result.1 = omega arith in
    let held = place_held image c.args.vol.now c.args.set.now c.args.place (c.requires.part told) (c.requires.there told) in
    subst (λ (n : ℕ). HasRecord image c.args.vol.now c.args.set.now c.args.place n (length c.block_bytes.result.1)) keys
    (subst (λ (n : ℕ). HasRecord image c.args.vol.now c.args.set.now c.args.place 8 n) contents held)

pub returns-clause-files : goal.returns-clause-files
returns-clause-files g c = λ told k at.
    let image = image_in (g.H.Hall.meaning c.args.hall.now) (g.H.Hall.facts c.args.hall.now) c.args.vol.now.unit in
    let v : Vol = c.args.vol.now in
    let key : List ℕ = c.block_bytes.result.0 in
    let content : List ℕ = c.block_bytes.result.1 in
    let block : Stored Entry = record { entries = c.args.entries.now; ends = c.args.last } in
    let keys : length key ≡ 8 = omega arith in
    let contents : length content ≡ 256 = omega arith in
    let may : Rewrites v c.args.set.now k c.args.place key content block image = record {
      part = c.requires.part told;
      whole = c.requires.whole told;
      b = at.0;
      at = at.1;
      is = at.2;
      keys = keys;
      contents = contents;
      reads = ap block_entries (whole_bytes content c.bytes_law.ensures) ∙ c.block_bytes.ensures.reads;
    } in
    writes_block (unit_of (g.H.Hall.facts c.args.hall.now).units v.unit).name v c.args.set.now k c.args.place key content block (g.H.Hall.meaning c.args.hall.now) may
    c.rewrite_record.new.vol (g.H.Hall.meaning c.rewrite_record.new.hall) c.rewrite_record.result c.rewrite_record.ensures.others (c.rewrite_record.ensures.files told)
