use Rattle.std.proofs.Common.{◌≡◌, ◌≤◌, ◌+◌, ◌∙◌, ◌++◌, [], ◌∷◌, drop, get_or, sym, subst, arith, ℕ, List, Bool, true, false, if◌then◌else◌}
use Rattle.hall_core.specs.History.{Change, with_changes, kept}
use Rattle.hall_core.specs.Held.{files_of, attached_in}
use Rattle.hall_core.specs.Replay.{changes_in, is_write, is_kept_step, files_made, HasRedone}
use Rattle.hall_core.specs.declared.mem_hall.step.Step.{Step}
use Rattle.hall_core.specs.declared.mem_hall.step.Step.TheVariants.{Write}
use Rattle.hall_core.proofs.ReplayLemmas.{kept_step, step_read, none_left}
use Rattle.hall_core.proofs.RedoLemmas.{made_seen, redoable_at, redone_kept}
use Rattle.hall_core.proofs.mem_hall.replay.apply_kept.Goals as goal

one_more : (b : Bool) (n : ℕ) → (if b then n + 1 else n) ≤ n + 1
one_more true n = omega arith
one_more false n = omega arith

pub redo-requires : goal.redo-requires
redo-requires c =
    let source = c.args.source.now in
    let i = c.loop-step.step-index in
    redoable_at source.files.now source.units.now source.pool.now c.args.files.now.items c.loop-step.files.items c.args.steps.now i _ c.requires c.loop-step-test.true (step_read c.args.steps.now i _ c.loop-step-test.true) c.loop-step.invariant.shapes c.loop-step.invariant.count

pub returns : goal.returns
returns c =
    let source = c.args.source.now in
    sym (c.loop-step.invariant.left ∙ none_left (attached_in source.files.now source.units.now) source.pool.now c.args.steps.now (drop c.loop-step.next c.args.keep.now) (files_of c.loop-step.files.items) c.loop-step.step-index (omega arith))

pub loop-step-preserved : goal.loop-step-preserved
loop-step-preserved c =
    let source = c.args.source.now in
    let steps = c.args.steps.now in
    let keep = c.args.keep.now in
    let i = c.loop-step.step-index in
    let next = c.loop-step.next in
    let here : Step = get_or steps i (Write 0 0 0 0 false) in
    let redone : HasRedone source.files.now c.loop-step.files.items c.redo.new.files.items (if is_kept_step here (get_or keep next false) then changes_in source.files.now source.units.now source.pool.now (here ∷ []) else []) (files_made (here ∷ [])) =
    subst (λ (b : Bool). HasRedone source.files.now c.loop-step.files.items c.redo.new.files.items (if is_kept_step here b then changes_in source.files.now source.units.now source.pool.now (here ∷ []) else []) (files_made (here ∷ []))) c.flag_at.ensures c.in_ok-redo.ensures in
    let step : (cs : List Change) → with_changes (files_of c.loop-step.files.items) (kept (drop next keep) (changes_in source.files.now source.units.now source.pool.now (here ∷ []) ++ cs)) ≡ with_changes (files_of c.redo.new.files.items) (kept (drop c.next_flag-next.result keep) cs) =
    subst (λ (n : ℕ). (cs : List Change) → with_changes (files_of c.loop-step.files.items) (kept (drop next keep) (changes_in source.files.now source.units.now source.pool.now (here ∷ []) ++ cs)) ≡ with_changes (files_of c.redo.new.files.items) (kept (drop n keep) cs)) (sym c.next_flag-next.ensures)
    (redone_kept source.files.now source.units.now source.pool.now c.loop-step.files.items c.redo.new.files.items keep next here redone) in
    record {
      left = kept_step (attached_in source.files.now source.units.now) source.pool.now steps keep i next c.next_flag-next.result here (with_changes (files_of c.args.files.now.items) (kept keep (changes_in source.files.now source.units.now source.pool.now steps))) (files_of c.loop-step.files.items) (files_of c.redo.new.files.items) c.loop-step-test.true (step_read steps i _ c.loop-step-test.true) c.loop-step.invariant.left step;
      shapes = redone.shapes;
      count = omega (arith, redone.files, c.loop-step.invariant.count, made_seen steps i here c.loop-step-test.true (step_read steps i _ c.loop-step-test.true));
      flags = omega (arith, c.next_flag-next.ensures, one_more (is_write here) next, c.loop-step.invariant.flags);
    }
