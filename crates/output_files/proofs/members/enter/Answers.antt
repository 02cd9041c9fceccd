use Rattle.std.proofs.Common.{refl}
use Rattle.record_files.specs.Members.{ends_directory}
use Rattle.util_steps.proofs.Taking.{takes_ends, takes_stops, takes_then}
use Rattle.output_files.specs.Members.{all_names, did_enter, names_view}
use Rattle.output_files.proofs.EnterLemmas.{others, own}
use Rattle.output_files.proofs.MemberLemmas.{none_first}
use Rattle.output_files.proofs.members.enter.Goals as goal

pub enter_name-requires-clause-lawful : goal.enter_name-requires-clause-lawful
enter_name-requires-clause-lawful g c = let n = names_view c.args.names.now in rw c.own_name.ensures (none_first ends_directory n.name n.aliases (all_names n) refl c.requires.lawful).0

pub enter_aliases-requires-clause-lawful : goal.enter_aliases-requires-clause-lawful
enter_aliases-requires-clause-lawful g c = let n = names_view c.args.names.now in (none_first ends_directory n.name n.aliases (all_names n) refl c.requires.lawful).1

pub returns-in_err-fault : goal.returns-in_err-fault
unfolding did_enter
returns-in_err-fault g c =
    takes_stops g.M.Machine (λ shelf. own shelf c.args.to.now c.args.place (names_view c.args.names.now)) (others c.args.to.now c.args.place c.args.names.now.aliases_replace c.args.names.now.aliases.now) c.from_residual.result c.from_residual.ensures (rw (c.in_err-fault.was, c.own_name.ensures) at c.enter_name.ensures)

pub returns-in-Err : goal.returns-in-Err
unfolding did_enter
returns-in-Err g c =
    takes_ends g.M.Machine (λ shelf. own shelf c.args.to.now c.args.place (names_view c.args.names.now)) (others c.args.to.now c.args.place c.args.names.now.aliases_replace c.args.names.now.aliases.now) (rw (c.in-Err.is, c.own_name.ensures) at c.in_ok-fault.ensures)

pub returns : goal.returns
unfolding did_enter
returns g c =
    takes_then g.M.Machine (λ shelf. own shelf c.args.to.now c.args.place (names_view c.args.names.now)) (others c.args.to.now c.args.place c.args.names.now.aliases_replace c.args.names.now.aliases.now) (rw (c.in_default.is, c.own_name.ensures) at c.in_ok-fault.ensures) c.enter_aliases.ensures
