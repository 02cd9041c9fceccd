-- The block is picked of those of the body.
use Rattle.std.proofs.Common.{not, ap, ◌∙◌}
use Rattle.std.specs.Prelude.{find}
use Rattle.std.specs.Option.{option_copied}
use Rattle.vol_model.specs.declared.contents.Block.{Block}
use Rattle.vol_model.specs.Places.{is_before}
use Rattle.vol_model.specs.Reading.{readable}
use Rattle.map_machine.specs.Reads.{body_in}
use Rattle.map_machine.proofs.Finding.{copied_picks}
use Rattle.map_machine.proofs.reads.block_in.Goals as goal

pub returns-in-Seq-clause-value : goal.returns-in-Seq-clause-value
returns-in-Seq-clause-value c =
    copied_picks c.copy_found.result (option_copied c.block_from.result) (readable (body_in (option_copied c.args.set))) c.in-Seq.blocks (λ bs. find (λ (b : Block). not (is_before b.place c.args.from)) bs)
    c.copy_found.ensures (ap (λ o. readable (body_in (option_copied o))) c.in-Some.is ∙ ap readable c.in-Seq.is)
    (c.block_from.ensures ∙ ap (λ bs. find (λ (b : Block). not (is_before b.place c.args.from)) bs) c.as_slice.ensures)

pub returns-in-Part-clause-value : goal.returns-in-Part-clause-value
returns-in-Part-clause-value c =
    copied_picks c.copy_found-in-Part.result (option_copied c.block_from-in-Part.result) (readable (body_in (option_copied c.args.set))) c.in-Part.blocks (λ bs. find (λ (b : Block). not (is_before b.place c.args.from)) bs)
    c.copy_found-in-Part.ensures (ap (λ o. readable (body_in (option_copied o))) c.in-Some.is ∙ ap readable c.in-Part.is)
    (c.block_from-in-Part.ensures ∙ ap (λ bs. find (λ (b : Block). not (is_before b.place c.args.from)) bs) c.as_slice-in-Part.ensures)
