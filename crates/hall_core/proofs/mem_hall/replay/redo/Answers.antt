use Rattle.std.proofs.Common.{◌≡◌, ◌+◌, ◌-◌, ℕ, ap, sym, subst, arith, refl, if◌then◌else◌, [], ◌∷◌, length, take, drop}
use Rattle.hall_core.specs.declared.mem_hall.step.Step.{Step}
use Rattle.std.specs.Prelude.{String, Vec}
use Rattle.std.specs.declared.alloc.Global.{Global}
use Rattle.hall_core.specs.Held.{attached_as, file_of_pair}
use Rattle.hall_core.specs.Replay.{changes_in, is_kept_step, files_made, new_file, HasRedone, IsRedoable}
use Rattle.hall_core.proofs.RedoLemmas.{redone_write, redone_create}
use Rattle.hall_core.proofs.mem_hall.replay.redo.Goals as goal

pub returns-in-Write : goal.returns-in-Write
returns-in-Write c =
    let present = c.args.source.now.files.now in
    let places = c.args.source.now.units.now in
    let pool = c.args.source.now.pool.now in
    let w = c.in-Write in
    let size : w.start + w.len - w.start ≡ w.len = omega arith in
    let can = subst (λ (s : Step). IsRedoable present places (length pool) c.args.files.now.items s) w.is c.requires in
    subst (λ (s : Step). HasRedone present c.args.files.now.items c.write_file.new.files.items (if is_kept_step s c.args.is_kept then changes_in present places pool (s ∷ []) else []) (files_made (s ∷ []))) (sym w.is)
    (redone_write present places pool c.args.files.now.items c.write_file.new.files.items w.unit _ w.at w.start w.len _ w.is_done c.args.is_kept can refl (ap (λ (n : ℕ). take n (drop w.start pool)) size) c.write_file.ensures.done c.write_file.ensures.shapes)

pub returns-in_ok-push-in-Create : goal.returns-in_ok-push-in-Create
returns-in_ok-push-in-Create c =
    let present = c.args.source.now.files.now in
    let places = c.args.source.now.units.now in
    let pool = c.args.source.now.pool.now in
    let w = c.in-Create in
    let can = subst (λ (s : Step). IsRedoable present places (length pool) c.args.files.now.items s) w.is c.requires in
    let made : file_of_pair c.in_ok-pair-in-Create.pair ≡ new_file (attached_as (file_of_pair c.index-source-source.result)) =
    subst (λ (item : String Global × Vec ℕ Global). file_of_pair c.in_ok-pair-in-Create.pair ≡ new_file (attached_as (file_of_pair item))) (sym c.index-source-source.is) c.in_ok-pair-in-Create.ensures in
    subst (λ (s : Step). HasRedone present c.args.files.now.items c.push.new.self.items (if is_kept_step s c.args.is_kept then changes_in present places pool (s ∷ []) else []) (files_made (s ∷ []))) (sym w.is)
    (redone_create present places pool c.args.files.now.items c.push.new.self.items w.unit _ c.in_ok-pair-in-Create.pair c.index-source-source.result can refl c.index-source-source.is made c.in_ok-push-in-Create.ensures.items)
