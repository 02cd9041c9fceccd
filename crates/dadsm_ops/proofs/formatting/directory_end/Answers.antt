-- The end-of-file record stands after the last block where the track takes it, and else on the next.
use Rattle.std.proofs.Common.{◌≡◌, ◌≤◌, ℕ, take, replicate, sym, ap, ◌∙◌}
use Rattle.std.proofs.lemmas.List.{take-replicate}
use Rattle.vol_model.specs.Places.{directory_lengths}
use Rattle.dadsm_ops.proofs.DirectoryPlaces.{end_by}
use Rattle.dadsm_ops.proofs.formatting.directory_end.Goals as goal

pub returns-then-fits-clause-place : goal.returns-then-fits-clause-place
returns-then-fits-clause-place c =
    let few : c.last_block-last.result.r ≤ 36 = c.last_block-last.ensures.few in
    let same : take c.from.result (replicate 36 directory_lengths) ≡ replicate c.last_block-last.result.r directory_lengths = ap (λ (n : ℕ). take n (replicate 36 directory_lengths)) c.from.ensures ∙ take-replicate c.last_block-last.result.r 36 directory_lengths few in
    end_by c.args.device c.args.dir c.last_block-last.result (take c.from.result (replicate 36 directory_lengths)) _ c.last_block-last.ensures.place same (sym c.if-fits.true ∙ c.fits.ensures)

pub returns-else-fits-clause-place : goal.returns-else-fits-clause-place
returns-else-fits-clause-place c =
    let few : c.last_block-last.result.r ≤ 36 = c.last_block-last.ensures.few in
    let same : take c.from.result (replicate 36 directory_lengths) ≡ replicate c.last_block-last.result.r directory_lengths = ap (λ (n : ℕ). take n (replicate 36 directory_lengths)) c.from.ensures ∙ take-replicate c.last_block-last.result.r 36 directory_lengths few in
    end_by c.args.device c.args.dir c.last_block-last.result (take c.from.result (replicate 36 directory_lengths)) _ c.last_block-last.ensures.place same (sym c.if-fits.false ∙ c.fits.ensures)
