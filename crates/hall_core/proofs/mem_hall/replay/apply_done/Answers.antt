use Rattle.std.proofs.Common.{[], ◌∷◌, get_or, subst, Bool, false, if◌then◌else◌}
use Rattle.hall_core.specs.Replay.{changes_in, is_kept_step, files_made, HasRedone}
use Rattle.hall_core.specs.declared.mem_hall.step.Step.{Step}
use Rattle.hall_core.specs.declared.mem_hall.step.Step.TheVariants.{Write}
use Rattle.hall_core.proofs.ReplayLemmas.{step_read}
use Rattle.hall_core.proofs.RedoLemmas.{redoable_at, redone_done}
use Rattle.hall_core.proofs.mem_hall.replay.apply_done.Goals as goal

pub redo-requires : goal.redo-requires
redo-requires c =
    let source = c.args.source.now in
    let i = c.loop-step.step-index in
    redoable_at source.files.now source.units.now source.pool.now c.args.files.now.items c.loop-step.files.items c.args.steps.now i _ c.requires c.loop-step-test.true (step_read c.args.steps.now i _ c.loop-step-test.true) c.loop-step.invariant.shapes c.loop-step.invariant.files

pub loop-step-preserved : goal.loop-step-preserved
loop-step-preserved c =
    let source = c.args.source.now in
    let steps = c.args.steps.now in
    let i = c.loop-step.step-index in
    let here : Step = get_or steps i (Write 0 0 0 0 false) in
    redone_done source.files.now source.units.now source.pool.now c.args.files.now.items c.loop-step.files.items c.redo.new.files.items steps i here c.loop-step-test.true (step_read steps i _ c.loop-step-test.true) c.loop-step.invariant
    (subst (λ (b : Bool). HasRedone source.files.now c.loop-step.files.items c.redo.new.files.items (if is_kept_step here b then changes_in source.files.now source.units.now source.pool.now (here ∷ []) else []) (files_made (here ∷ []))) c.wrote.ensures c.in_ok-redo.ensures)
