use Rattle.std.proofs.Common.{◌≡◌, ◌∙◌, List, ℕ, ap, refl, subst, sym}
use Rattle.std.proofs.lemmas.Result.{IfOk-from_err}
use Rattle.hall_core.specs.Facts.{unit_of}
use Rattle.hall_core.specs.Images.{image_in}
use Rattle.vtoc_index.specs.Index.{IsMounted}
use Rattle.vtoc_index.specs.declared.vol.Vol.{Vol}
use Rattle.seq_access.specs.Writing.{HasEnd, body_so_far}
use Rattle.seq_access.proofs.EndCalls.{spares_ended}
use Rattle.seq_access.proofs.EndSteps.{balance_held, blocks_back, end_back, leaves_all, moved_writing, no_time, sync_time}
use Rattle.seq_access.proofs.PutCalls.{image_as}
use Rattle.seq_access.proofs.SparedCalls.{spares_same}
use Rattle.seq_access.proofs.writing.end_durably.Goals as goal

pub returns-in_err-balance-clause-files : goal.returns-in_err-balance-clause-files
returns-in_err-balance-clause-files g c told is before set left here =
    let v = c.args.vol.now in
    let m0 = g.H.Hall.meaning c.args.hall.now in
    let m1 = g.H.Hall.meaning c.last_balance.new.hall in
    let name : List ℕ = (unit_of (g.H.Hall.facts c.args.hall.now).units v.unit).name in
    leaves_all name v is.f _ m0 m1 m1 c.last_balance.result c.from_residual.result (spares_same name v is.f _ m0 m1 c.last_balance.result (c.last_balance.ensures.same told)) (IfOk-from_err c.from_residual.result _ c.from_residual.ensures.0) refl refl (no_time m1) before set left here

pub put_end-requires-clause-writing : goal.put_end-requires-clause-writing
put_end-requires-clause-writing g c told =
    let v0 = c.args.vol.now in
    let v1 = c.last_balance.new.vol in
    let m0 = g.H.Hall.meaning c.args.hall.now in
    let m1 = g.H.Hall.meaning c.last_balance.new.hall in
    let f0 = g.H.Hall.facts c.args.hall.now in
    let f1 = g.H.Hall.facts c.last_balance.new.hall in
    let others = c.last_balance.ensures.others in
    let image = image_as m0 m1 f0 f1 v0.unit v1.unit (c.last_balance.ensures.same told).state c.in_ok-balance.ensures.faults.units (ap (λ (v : Vol). v.unit) others) in
    moved_writing (image_in m0 f0 v0.unit) (image_in m1 f1 v1.unit) v0 v1 c.args.writer image others (c.last_balance.ensures.mounted told) (c.requires.writing told)

pub returns-in_err-put_end-clause-files : goal.returns-in_err-put_end-clause-files
returns-in_err-put_end-clause-files g c told is before set left here =
    let v0 = c.args.vol.now in
    let m0 = g.H.Hall.meaning c.args.hall.now in
    let m1 = g.H.Hall.meaning c.last_balance.new.hall in
    let m2 = g.H.Hall.meaning c.put_end.new.hall in
    let f0 = g.H.Hall.facts c.args.hall.now in
    leaves_all (unit_of f0.units v0.unit).name v0 is.f _ m0 m2 m2 c.put_end.result c.from_residual-in_err-put_end.result (spares_ended m0 m1 m2 f0 (g.H.Hall.facts c.last_balance.new.hall) v0 c.last_balance.new.vol c.args.writer (c.last_balance.ensures.same told) c.in_ok-balance.ensures.faults.units c.last_balance.ensures.others (c.last_balance.ensures.mounted told) is c.put_end.result (c.put_end.ensures.spares told)) (IfOk-from_err c.from_residual-in_err-put_end.result _ c.from_residual-in_err-put_end.ensures.0) refl refl (no_time m2) before set left here

pub returns-in_err-make_durable-clause-files : goal.returns-in_err-make_durable-clause-files
returns-in_err-make_durable-clause-files g c told is before set left here =
    let v0 = c.args.vol.now in
    let m0 = g.H.Hall.meaning c.args.hall.now in
    let m1 = g.H.Hall.meaning c.last_balance.new.hall in
    let m2 = g.H.Hall.meaning c.put_end.new.hall in
    let m3 = g.H.Hall.meaning c.make_durable.new.hall in
    let f0 = g.H.Hall.facts c.args.hall.now in
    let sync = c.make_durable.ensures.files told in
    leaves_all (unit_of f0.units v0.unit).name v0 is.f _ m0 m2 m3 c.put_end.result c.from_residual-in_err-make_durable.result (spares_ended m0 m1 m2 f0 (g.H.Hall.facts c.last_balance.new.hall) v0 c.last_balance.new.vol c.args.writer (c.last_balance.ensures.same told) c.in_ok-balance.ensures.faults.units c.last_balance.ensures.others (c.last_balance.ensures.mounted told) is c.put_end.result (c.put_end.ensures.spares told)) (IfOk-from_err c.from_residual-in_err-make_durable.result _ c.from_residual-in_err-make_durable.ensures.0) sync.state sync.printed (sync_time m2 m3 c.make_durable.result sync) before set left here

pub returns-clause-files : goal.returns-clause-files
returns-clause-files g c told is before set left here =
    let v0 = c.args.vol.now in
    let m0 = g.H.Hall.meaning c.args.hall.now in
    let m1 = g.H.Hall.meaning c.last_balance.new.hall in
    let m2 = g.H.Hall.meaning c.put_end.new.hall in
    let m3 = g.H.Hall.meaning c.make_durable.new.hall in
    let f0 = g.H.Hall.facts c.args.hall.now in
    let sync = c.make_durable.ensures.files told in
    leaves_all (unit_of f0.units v0.unit).name v0 is.f _ m0 m2 m3 c.put_end.result _ (spares_ended m0 m1 m2 f0 (g.H.Hall.facts c.last_balance.new.hall) v0 c.last_balance.new.vol c.args.writer (c.last_balance.ensures.same told) c.in_ok-balance.ensures.faults.units c.last_balance.ensures.others (c.last_balance.ensures.mounted told) is c.put_end.result (c.put_end.ensures.spares told)) (c.in_ok-make_durable.ensures.files told).done sync.state sync.printed (sync_time m2 m3 c.make_durable.result sync) before set left here

pub returns-clause-blocks : goal.returns-clause-blocks
returns-clause-blocks g c told is =
    let v0 = c.args.vol.now in
    let v1 = c.last_balance.new.vol in
    let m0 = g.H.Hall.meaning c.args.hall.now in
    let m1 = g.H.Hall.meaning c.last_balance.new.hall in
    let m2 = g.H.Hall.meaning c.put_end.new.hall in
    let f0 = g.H.Hall.facts c.args.hall.now in
    let f1 = g.H.Hall.facts c.last_balance.new.hall in
    let f2 = g.H.Hall.facts c.put_end.new.hall in
    let others = c.last_balance.ensures.others in
    let number : v1.unit ≡ v0.unit = ap (λ (v : Vol). v.unit) others in
    let image = image_as m0 m1 f0 f1 v0.unit v1.unit (c.last_balance.ensures.same told).state c.in_ok-balance.ensures.faults.units number in
    let last = image_as m2 (g.H.Hall.meaning c.make_durable.new.hall) f2 (g.H.Hall.facts c.make_durable.new.hall) v1.unit v0.unit (c.make_durable.ensures.files told).state c.in_ok-make_durable.ensures.faults.units (sym number) in
    ap (λ (i : List ℕ). body_so_far i c.put_end.new.vol is.f c.args.writer) last
    ∙ blocks_back (image_in m0 f0 v0.unit) (image_in m1 f1 v1.unit) v0 v1 c.args.writer image others (c.last_balance.ensures.mounted told) is (image_in m2 f2 v1.unit) c.put_end.new.vol (c.in_ok-put_end.ensures.blocks told)

pub returns-clause-mounted : goal.returns-clause-mounted
returns-clause-mounted g c told =
    let number : c.last_balance.new.vol.unit ≡ c.args.vol.now.unit = ap (λ (v : Vol). v.unit) c.last_balance.ensures.others in
    let last = image_as (g.H.Hall.meaning c.put_end.new.hall) (g.H.Hall.meaning c.make_durable.new.hall) (g.H.Hall.facts c.put_end.new.hall) (g.H.Hall.facts c.make_durable.new.hall) c.last_balance.new.vol.unit c.args.vol.now.unit (c.make_durable.ensures.files told).state c.in_ok-make_durable.ensures.faults.units (sym number) in
    subst (λ (i : List ℕ). IsMounted i c.put_end.new.vol) (sym last) (c.in_ok-put_end.ensures.mounted told)

pub returns-clause-balance : goal.returns-clause-balance
returns-clause-balance g c told is =
    balance_held (image_in (g.H.Hall.meaning c.args.hall.now) (g.H.Hall.facts c.args.hall.now) c.args.vol.now.unit) c.args.vol.now c.last_balance.new.vol is.f c.args.writer.last c.in_ok-balance.balance c.last_balance.ensures.others (c.in_ok-balance.ensures.held told is) c.in_ok-balance.ensures.balance

pub returns-clause-end : goal.returns-clause-end
returns-clause-end g c told is fill =
    let v0 = c.args.vol.now in
    let v1 = c.last_balance.new.vol in
    let m0 = g.H.Hall.meaning c.args.hall.now in
    let m2 = g.H.Hall.meaning c.put_end.new.hall in
    let f0 = g.H.Hall.facts c.args.hall.now in
    let f1 = g.H.Hall.facts c.last_balance.new.hall in
    let f2 = g.H.Hall.facts c.put_end.new.hall in
    let number : v1.unit ≡ v0.unit = ap (λ (v : Vol). v.unit) c.last_balance.ensures.others in
    let image = image_as m0 (g.H.Hall.meaning c.last_balance.new.hall) f0 f1 v0.unit v1.unit (c.last_balance.ensures.same told).state c.in_ok-balance.ensures.faults.units number in
    let last = image_as m2 (g.H.Hall.meaning c.make_durable.new.hall) f2 (g.H.Hall.facts c.make_durable.new.hall) v1.unit v0.unit (c.make_durable.ensures.files told).state c.in_ok-make_durable.ensures.faults.units (sym number) in
    subst (λ (i : List ℕ). HasEnd is i) (sym last)
    (end_back (image_in m0 f0 v0.unit) (image_in (g.H.Hall.meaning c.last_balance.new.hall) f1 v1.unit) v0 v1 c.args.writer image c.last_balance.ensures.others (c.last_balance.ensures.mounted told) is (image_in m2 f2 v1.unit) (c.in_ok-put_end.ensures.end told) fill)
