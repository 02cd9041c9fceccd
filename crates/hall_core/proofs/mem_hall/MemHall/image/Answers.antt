use Rattle.std.proofs.Common.{◌∙◌, sym, ap, List, ℕ, Some}
use Rattle.stop_model.specs.Files.{File, file_of}
use Rattle.hall_core.proofs.UnitLemmas.{pair_named}
use Rattle.hall_core.proofs.mem_hall.MemHall.image.Goals as goal

pub returns : goal.returns
returns c =
    let hall = c.args.self.now in
    let found = rw c.deref.ensures.value at c.in_ok-place.ensures in
    ap (λ (l : List File). file_of l c.args.name.now) hall.replay.present ∙ pair_named hall.files.items c.in_ok-place.place c.index.result.now c.args.name.now found.0 found.1 c.index.ensures ∙ ap (λ (l : List ℕ). Some l) (sym c.as_slice.ensures.value)
