use Rattle.std.proofs.Common.{◌+◌, ◌≤◌, ◌<◌, ℕ, rules, arith, refl, subst, sym}
use Rattle.vol_model.proofs.FreeRuns.{EndBy-higher}
use Rattle.pack_spec.specs.Label.{tracks_of}
use Rattle.vtoc_index.proofs.OwnedVolumes.{few_tracks}
use Rattle.dadsm_ops.specs.Scratching.{usable_tracks}
use Rattle.dadsm_ops.proofs.FreedLists.{freed_all, freed_more, freed_none, usable_few}
use Rattle.dadsm_ops.proofs.scratching.release.Goals as goal

pub loop-run-init : goal.loop-run-init
loop-run-init c = record { grown = omega arith; capacity = refl; freed = freed_none _ c.args.free.now.items c.args.runs.now c.requires.maximal }

pub insert-requires-clause-within : goal.insert-requires-clause-within
insert-requires-clause-within c =
    let few = few_tracks c.args.geometry c.requires.whole in
    c.loop-run.invariant.freed.within 65535 (usable_few c.args.geometry c.requires.whole) (EndBy-higher (tracks_of c.args.geometry) 65535 c.args.free.now.items few c.requires.within)

pub loop-run-preserved : goal.loop-run-preserved
loop-run-preserved c =
    let limit : ℕ = usable_tracks c.args.geometry in
    let part = c.first_part.result in
    let ends : part.start + part.len ≤ limit = subst (λ (n : ℕ). part.start + part.len ≤ n) c.usable_tracks-tracks.ensures c.first_part.ensures.within in
    let more = freed_more limit c.args.free.now.items c.loop-run.free.items c.insert.new.free.items c.args.runs.now c.loop-run.run-index _ part c.loop-run-test.true (search rules) ends
    (λ track low. c.first_part.ensures.tracks track (subst (λ (n : ℕ). track < n) (sym c.usable_tracks-tracks.ensures) low)) c.loop-run.invariant.freed c.insert.ensures.runs in
    record { grown = omega arith; capacity = cc; freed = more }

pub returns-clause-freed : goal.returns-clause-freed
returns-clause-freed c = freed_all _ c.args.free.now.items _ c.args.runs.now c.loop-run.run-index (omega arith) c.loop-run.invariant.freed
