use Rattle.std.proofs.Common.{◌≡◌, ℕ, ap, arith, get_or, length, Some, ◌∙◌}
use Rattle.std.specs.Prelude.{◌++◌, []}
use Rattle.pack_spec.specs.Slots.{slots_of_vtoc}
use Rattle.vtoc_sets.proofs.CountedRows.{row_further, row_own, row_past}
use Rattle.vtoc_sets.proofs.extents.extent_at.Goals as goal

pub returns-then-set-k : goal.returns-then-set-k
returns-then-set-k c image index = row_past (slots_of_vtoc image c.args.vol.now.geometry c.args.vol.now.vtoc) c.args.set.now c.args.k (omega arith)

pub returns-then-k-lt-OWN_EXTENTS : goal.returns-then-k-lt-OWN_EXTENTS
returns-then-k-lt-OWN_EXTENTS c image index =
    ap (λ (n : ℕ). Some (get_or c.args.set.now.runs n [])) c.from.ensures ∙ row_own (slots_of_vtoc image c.args.vol.now.geometry c.args.vol.now.vtoc) c.args.set.now c.args.k [] (omega arith) (omega arith)

pub returns-in_err-format_3_of : goal.returns-in_err-format_3_of
returns-in_err-format_3_of c image index =
    let three : length c.args.set.now.runs ≡ 3 = omega arith in
    c.from_residual.ensures ∙ row_further (slots_of_vtoc image c.args.vol.now.geometry c.args.vol.now.vtoc) c.args.set.now c.args.k [] (omega arith) (omega arith) three (c.in_err-format_3_of.ensures image index)

pub returns : goal.returns
returns c image index =
    let three : length c.args.set.now.runs ≡ 3 = omega arith in
    c.further_at.ensures
    ∙ row_further (slots_of_vtoc image c.args.vol.now.geometry c.args.vol.now.vtoc) c.args.set.now c.args.k (c.in_ok-format_3_of.field-0.now.front ++ c.in_ok-format_3_of.field-0.now.back) (omega arith) (omega arith) three (c.in_ok-format_3_of.ensures image index)
