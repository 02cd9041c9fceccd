use Rattle.std.proofs.Common.{◌≡◌, List, [], ◌∷◌, ℕ, ◌∙◌, ap, Bool}
use Rattle.std.specs.Prelude.{Some, if◌then◌else◌}
use Rattle.vol_model.specs.declared.contents.Shelf.{Shelf}
use Rattle.vol_model.specs.Writing.{set_on}
use Rattle.util_steps.proofs.Reporting.{has_said}
use Rattle.iehlist_util.specs.Lines.{set_line}
use Rattle.iehlist_util.specs.Items.{extent_lines, set_lines}
use Rattle.iehlist_util.proofs.Listings.{says_all, says_begin, says_last, says_more, says_stop}
use Rattle.iehlist_util.proofs.SetLemmas.{info_extents, set_name, set_parts}
use Rattle.iehlist_util.proofs.listing.list_known_set.Goals as goal

pub returns-in_err-say_set_line-clause-says : goal.returns-in_err-say_set_line-clause-says
returns-in_err-say_set_line-clause-says g c told x at is =
    let m = g.M.Machine.meaning in
    let name = c.args.dsn.now.bytes in
    let parts = set_parts c.args.format x name c.args.info.now (set_name (m c.args.machine.now).state c.args.v name x at) is in
    says_stop (says_begin g.M.Machine.tells_prints (set_lines c.args.format x) (m c.args.machine.now)) (set_line name c.args.info.now ∷ []) (if c.args.format then extent_lines 1 x.extents else []) c.from_residual.result c.from_residual.ensures.0 parts (c.say_set_line.ensures.says told).moments

pub returns-then-format-clause-says : goal.returns-then-format-clause-says
returns-then-format-clause-says g c told x at is =
    let m = g.M.Machine.meaning in
    let name = c.args.dsn.now.bytes in
    let lines : List (List ℕ) = set_line name c.args.info.now ∷ [] in
    let parts = set_parts c.args.format x name c.args.info.now (set_name (m c.args.machine.now).state c.args.v name x at) is in
    let runs = c.in_ok-say_set_line.ensures.says told in
    let so = says_more (says_begin g.M.Machine.tells_prints (set_lines c.args.format x) (m c.args.machine.now)) lines (if c.args.format then extent_lines 1 x.extents else []) parts (has_said lines runs) in
    let here : set_on (m c.say_set_line.new.machine).state c.args.v name ≡ Some x = ap (λ (s : Shelf). set_on s c.args.v name) runs.shelf ∙ at in
    let chosen : (if c.args.format then extent_lines 1 x.extents else []) ≡ extent_lines 1 x.extents = ap (λ (t : Bool). if t then extent_lines 1 x.extents else []) c.if-format.true in
    says_last so (extent_lines 1 x.extents) c.say_extents.result chosen (c.say_extents.ensures.says told x here (info_extents x c.args.info.now is))

pub returns-else-format-clause-says : goal.returns-else-format-clause-says
returns-else-format-clause-says g c told x at is =
    let m = g.M.Machine.meaning in
    let name = c.args.dsn.now.bytes in
    let lines : List (List ℕ) = set_line name c.args.info.now ∷ [] in
    let parts = set_parts c.args.format x name c.args.info.now (set_name (m c.args.machine.now).state c.args.v name x at) is in
    let so = says_more (says_begin g.M.Machine.tells_prints (set_lines c.args.format x) (m c.args.machine.now)) lines (if c.args.format then extent_lines 1 x.extents else []) parts (has_said lines (c.in_ok-say_set_line.ensures.says told)) in
    let none : (if c.args.format then extent_lines 1 x.extents else []) ≡ [] = ap (λ (t : Bool). if t then extent_lines 1 x.extents else []) c.if-format.false in
    says_all so tt none
