use Rattle.std.proofs.Common.{refl, rules}
use Rattle.std.specs.Prelude.{Ok, None}
use Rattle.job_runner.specs.DataSets.{refuses}
use Rattle.job_runner.proofs.DefinitionLemmas.{resolve_done, resolve_stopped}
use Rattle.job_runner.proofs.PartLemmas.{does_one}
use Rattle.job_runner.proofs.definitions.refuse.Goals as goal

pub returns-in_err-answer : goal.returns-in_err-answer
returns-in_err-answer g c = record {
  works = λ told. resolve_stopped (refuses c.args.word.now c.args.card c.args.dsn.now c.args.refusal) c.from_residual.result c.from_residual.ensures.0 (does_one c.answer.result (c.answer.ensures.item told));
  promise = search rules;
  faults = search rules;
}

pub returns : goal.returns
returns g c = record {
  works = λ told. resolve_done (refuses c.args.word.now c.args.card c.args.dsn.now c.args.refusal) None (does_one (Ok c.in_ok-answer.field-0) (c.in_ok-answer.ensures.item told)) refl;
  promise = search rules;
  faults = search rules;
}
