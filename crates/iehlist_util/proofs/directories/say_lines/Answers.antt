-- The line of a directory is printed before those of its entries.
use Rattle.std.proofs.Common.{List, [], ◌∷◌, ℕ, map, refl, ◌∙◌, ap}
use Rattle.vol_model.specs.declared.contents.Shelf.{Shelf}
use Rattle.vol_model.specs.Reading.{entries_in}
use Rattle.vol_model.specs.Writing.{body_on}
use Rattle.util_steps.proofs.Reporting.{has_said}
use Rattle.iehlist_util.specs.Directories.{HasEntries, directory_lines}
use Rattle.iehlist_util.specs.Lines.{directory_line, entry_line}
use Rattle.iehlist_util.proofs.DirectoryLemmas.{directory_parts, has_entries}
use Rattle.iehlist_util.proofs.Listings.{says_begin, says_idle, says_last, says_more, says_stop, says_stop_idle}
use Rattle.iehlist_util.proofs.directories.say_lines.Goals as goal

pub returns-in_err-members-clause-says : goal.returns-in_err-members-clause-says
returns-in_err-members-clause-says g c told d on blocks =
    let old = g.M.Machine.meaning c.args.machine.now in
    let durable = g.met.M.Machine.durable c.args.machine.now told c.requires.sound in
    says_stop_idle (says_begin g.M.Machine.tells_prints (directory_lines c.args.dsn.now.bytes d) old) c.from_residual.result c.from_residual.ensures.0 (c.count_entries.ensures.same told) durable

pub returns-in_err-say_directory_line-clause-says : goal.returns-in_err-say_directory_line-clause-says
returns-in_err-say_directory_line-clause-says g c told d on blocks =
    let old = g.M.Machine.meaning c.args.machine.now in
    let name = c.args.dsn.now.bytes in
    let durable = g.met.M.Machine.durable c.args.machine.now told c.requires.sound in
    let members = c.in_ok-members.ensures.value told d.entries (has_entries old.state c.args.v name d on) in
    let parts = directory_parts name d c.args.blocks c.in_ok-members.members blocks members in
    let so = says_idle (says_begin g.M.Machine.tells_prints (directory_lines name d) old) (c.count_entries.ensures.same told) durable in
    says_stop so (directory_line name c.args.blocks c.in_ok-members.members ∷ []) (map entry_line d.entries) c.from_residual-in_err-say_directory_line.result c.from_residual-in_err-say_directory_line.ensures.0 parts (c.say_directory_line.ensures.says told).moments

pub returns-clause-says : goal.returns-clause-says
returns-clause-says g c told d on blocks =
    let m = g.M.Machine.meaning in
    let old = m c.args.machine.now in
    let name = c.args.dsn.now.bytes in
    let same = c.count_entries.ensures.same told in
    let durable = g.met.M.Machine.durable c.args.machine.now told c.requires.sound in
    let has = has_entries old.state c.args.v name d on in
    let members = c.in_ok-members.ensures.value told d.entries has in
    let parts = directory_parts name d c.args.blocks c.in_ok-members.members blocks members in
    let lines : List (List ℕ) = directory_line name c.args.blocks c.in_ok-members.members ∷ [] in
    let runs = c.in_ok-say_directory_line.ensures.says told in
    let so = says_more (says_idle (says_begin g.M.Machine.tells_prints (directory_lines name d) old) same durable) lines (map entry_line d.entries) parts (has_said lines runs) in
    let here : HasEntries (m c.say_directory_line.new.machine).state c.args.v name d.entries = ap (λ (s : Shelf). entries_in (body_on s c.args.v name)) (runs.shelf ∙ same.state) ∙ has in
    says_last so (map entry_line d.entries) c.say_entries.result refl (c.say_entries.ensures.says told d.entries here members)
