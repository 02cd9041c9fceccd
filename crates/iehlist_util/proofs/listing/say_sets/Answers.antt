use Rattle.std.proofs.Common.{List, map, sym, subst}
use Rattle.std.specs.Prelude.{Option}
use Rattle.ebcdic_names.specs.declared.names.Dsn.{Dsn}
use Rattle.vol_model.specs.Events.{Say}
use Rattle.vol_model.specs.Runs.{Runs}
use Rattle.iehlist_util.specs.Items.{listed_on, listed_sets}
use Rattle.iehlist_util.proofs.listing.say_sets.Goals as goal

pub returns-in-Some-clause-says : goal.returns-in-Some-clause-says
returns-in-Some-clause-says g c told volume at =
    let m = g.M.Machine.meaning in
    let format = c.args.request.now.format in
    subst (λ (o : Option (List Dsn)). Runs g.M.Machine.tells_prints (map Say (listed_on format volume o).lines) (m c.args.machine.now) (m c.say_named.new.machine) c.say_named.result) (sym c.in-Some.is)
    (subst (λ (l : List Dsn). Runs g.M.Machine.tells_prints (map Say (listed_sets format volume l).lines) (m c.args.machine.now) (m c.say_named.new.machine) c.say_named.result) c.as_slice.ensures (c.say_named.ensures.says told volume at))
