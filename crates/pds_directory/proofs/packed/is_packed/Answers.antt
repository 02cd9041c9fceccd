use Rattle.std.proofs.Common.{◌≡◌, ◌&&◌, Bool, map, vec_items, sym, ap, ◌∙◌}
use Rattle.chain_spec.specs.Kept.{joined}
use Rattle.pack_spec.specs.Directories.{rise_from}
use Rattle.pds_directory.specs.Directories.{entries_read}
use Rattle.pds_directory.specs.Packed.{are_full}
use Rattle.pds_directory.proofs.PackedReads.{read_packed}
use Rattle.pds_directory.proofs.packed.is_packed.Goals as goal

pub returns-then-all_rise : goal.returns-then-all_rise
returns-then-all_rise c directory read =
    let rise : c.all_rise.result ≡ rise_from 0 (joined (entries_read c.args.dir.now)) = c.all_rise.ensures ∙ ap (λ bs. rise_from 0 (joined (map vec_items bs))) c.deref.ensures.value in
    let full : c.are_full.result ≡ are_full (entries_read c.args.dir.now) = c.are_full.ensures ∙ ap (λ bs. are_full (map vec_items bs)) c.deref-then-all_rise.ensures.value in
    full ∙ sym (read_packed directory c.args.dir.now c.requires read ∙ ap (λ (b : Bool). b && are_full (entries_read c.args.dir.now)) (sym rise ∙ c.if-all_rise.true))

pub returns-else-all_rise : goal.returns-else-all_rise
returns-else-all_rise c directory read =
    let rise : c.all_rise.result ≡ rise_from 0 (joined (entries_read c.args.dir.now)) = c.all_rise.ensures ∙ ap (λ bs. rise_from 0 (joined (map vec_items bs))) c.deref.ensures.value in
    c.if-all_rise.false ∙ sym (read_packed directory c.args.dir.now c.requires read ∙ ap (λ (b : Bool). b && are_full (entries_read c.args.dir.now)) (sym rise ∙ c.if-all_rise.false))
