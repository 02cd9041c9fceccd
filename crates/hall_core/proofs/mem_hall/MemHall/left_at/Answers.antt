use Rattle.std.proofs.Common.{◌∙◌, ℕ, List, ap, arith}
use Rattle.std.specs.Prelude.{String, Vec}
use Rattle.std.specs.declared.alloc.Global.{Global}
use Rattle.hall_core.specs.Held.{files_of, attached_in}
use Rattle.hall_core.specs.Memory.{disk_at}
use Rattle.hall_core.proofs.ReplayLemmas.{IsRedone, left_made}
use Rattle.hall_core.proofs.RedoLemmas.{redoable_left}
use Rattle.hall_core.proofs.mem_hall.MemHall.left_at.Goals as goal
use Rattle.hall_core.proofs.mem_hall.MemHall.left_at.Goals.{In_ok-printed}

pub apply_left-requires : goal.apply_left-requires
apply_left-requires c = record {
  within = redoable_left c.args.self.now c.deref-3.result.now c.in_ok-files.files.items c.deref-2.result.now c.deref-4.result.now c.deref.result.now c.min-end.result c.deref-3.ensures.value c.deref-2.ensures.value c.deref-4.ensures.value c.deref.ensures.value (c.in_ok-files.ensures ∙ ap files_of c.first_files.ensures);
  inside = c.pending_from-from.ensures.within;
}

made : (c : In_ok-printed) → IsRedone (disk_at c.args.self.now c.args.moment) c.args.keep.now (files_of c.apply_left.new.files.items) c.in_ok-printed.printed.items
made c =
    let hall = c.args.self.now in
    left_made hall c.args.moment c.min-end.result c.pending_from-from.result c.args.keep.now (files_of c.apply_left.new.files.items) c.in_ok-printed.printed.items (omega arith)
    c.deref.result.now (attached_in c.deref-3.result.now c.deref-2.result.now) c.deref-4.result.now c.deref-5.result.now (files_of c.in_ok-files.files.items)
    c.deref.ensures.value (ap (λ (l : List (String Global × Vec ℕ Global)). attached_in l c.deref-2.result.now) c.deref-3.ensures.value ∙ ap (λ (l : List ℕ). attached_in hall.files.items l) c.deref-2.ensures.value)
    c.deref-4.ensures.value c.deref-5.ensures.value (c.in_ok-files.ensures ∙ ap files_of c.first_files.ensures)
    c.pending_from-from.ensures c.in_ok-apply_left.ensures c.in_ok-printed.ensures

pub returns-clause-files : goal.returns-clause-files
returns-clause-files c = (made (goal.at.returns-clause-files c).In_ok-printed).files_are

pub returns-clause-text : goal.returns-clause-text
returns-clause-text c = (made (goal.at.returns-clause-text c).In_ok-printed).text_is
