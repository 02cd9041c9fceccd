use Rattle.std.proofs.Common.{◌≡◌, ◌∙◌, ℕ, ◌-◌, ap, sym, subst, arith, take, drop, length, List}
use Rattle.std.proofs.lemmas.List.{take_all, length-drop}
use Rattle.stop_model.specs.Files.{File}
use Rattle.hall_core.specs.History.{with_changes, kept}
use Rattle.hall_core.specs.Held.{files_of}
use Rattle.hall_core.specs.Replay.{changes_in, AreRedoable}
use Rattle.hall_core.specs.declared.mem_hall.step.Step.{Step}
use Rattle.hall_core.proofs.RedoLemmas.{redoable_take, redoable_drop}
use Rattle.hall_core.proofs.mem_hall.replay.apply_left.Goals as goal

behind : (steps : List Step) (from : ℕ) → take (length steps - from) (drop from steps) ≡ drop from steps
behind steps from = take_all (length steps - from) (drop from steps) (omega (arith, length-drop from steps))

pub apply_done-requires : goal.apply_done-requires
apply_done-requires c =
    let source = c.args.source.now in
    redoable_take source.files.now source.units.now source.pool.now c.args.files.now.items c.args.steps.now c.args.from c.requires.within

pub apply_kept-requires : goal.apply_kept-requires
apply_kept-requires c =
    let source = c.args.source.now in
    let done = c.in_ok-apply_done.ensures in
    subst (λ (l : List Step). AreRedoable source.files.now source.units.now (length source.pool.now) c.apply_done.new.files.items l) (sym (behind c.args.steps.now c.args.from))
    (redoable_drop source.files.now source.units.now source.pool.now c.args.files.now.items c.apply_done.new.files.items c.args.steps.now c.args.from c.requires.within c.requires.inside done.shapes done.files)

pub returns : goal.returns
returns c =
    let source = c.args.source.now in
    let rest = drop c.args.from c.args.steps.now in
    c.in_ok-apply_kept.ensures
    ∙ ap (λ (l : List Step). with_changes (files_of c.apply_done.new.files.items) (kept c.args.keep.now (changes_in source.files.now source.units.now source.pool.now l))) (behind c.args.steps.now c.args.from)
    ∙ ap (λ (l : List File). with_changes l (kept c.args.keep.now (changes_in source.files.now source.units.now source.pool.now rest))) c.in_ok-apply_done.ensures.made
