use Rattle.std.proofs.Common.{subst, sym}
use Rattle.std.proofs.lemmas.Result.{on_ok_weaker}
use Rattle.pack_spec.specs.FreeChain.{entries_of}
use Rattle.pack_spec.specs.Label.{heads_of}
use Rattle.vtoc_index.specs.Index.{address_in}
use Rattle.free_rebuild.proofs.NameLemmas.{HaveSameNames, chain_names, names_kept}
use Rattle.hall_core.specs.Facts.{unit_of}
use Rattle.free_rebuild.specs.Stops.{KeepsAlike}
use Rattle.free_rebuild.proofs.RunCounts.{few_runs}
use Rattle.free_rebuild.proofs.chain.write_free.Goals as goal

pub write_chain-requires-clause-few : goal.write_chain-requires-clause-few
write_chain-requires-clause-few g c = few_runs (g.H.Hall.facts c.args.hall.now).units c.args.vol.now c.requires.unit

pub returns-clause-files : goal.returns-clause-files
returns-clause-files g c told =
    let v = c.args.vol.now in
    let new = g.H.Hall.meaning c.write_chain.new.hall in
    subst (λ h. KeepsAlike (unit_of (g.H.Hall.facts h).units v.unit).name v (g.H.Hall.meaning h) new c.write_chain.result) c.in_ok-check_front.ensures.hall (c.write_chain.ensures.files told)

pub returns-clause-names : goal.returns-clause-names
returns-clause-names g c ordered =
    let v = c.args.vol.now in
    let w = c.write_chain.new.vol in
    let ess = entries_of (heads_of v.geometry) v.free.items in
    let names = chain_names (address_in v) v.slots.items 1 ess c.in_ok-check_front.ensures.first in
    on_ok_weaker c.write_chain.result (λ is. names_kept v w c.write_chain.ensures.others (subst (HaveSameNames v.slots.items) (sym is) names) ordered) c.write_chain.ensures.chain
