use Rattle.std.proofs.Common.{◌∙◌, ap, List, ℕ}
use Rattle.ckd_image.specs.Fit.{fits}
use Rattle.job_runner.specs.Space.{takes_one_more}
use Rattle.job_runner.proofs.SpaceLemmas.{front}
use Rattle.job_runner.proofs.new_sets.takes_one_more.Goals as goal

pub returns : goal.returns
unfolding takes_one_more
returns c = c.fits.ensures ∙ ap (λ (e : List (ℕ × ℕ)). fits c.args.device e 0 c.args.len) (front c.args.n (0, c.args.len) c.requires)
