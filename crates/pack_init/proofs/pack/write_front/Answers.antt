use Rattle.std.proofs.Common.{◌≡◌, length, rules}
use Rattle.pack_init.proofs.FrontLemmas.{header_written, label_written}
use Rattle.pack_init.proofs.WriteLemmas.{is_error, name_stays, write_named, writes_done, writes_fail, writes_one, writes_sync, writes_then}
use Rattle.pack_init.proofs.pack.write_front.Goals as goal

pub returns-in_err-write-clause-files : goal.returns-in_err-write-clause-files
returns-in_err-write-clause-files g c rest told =
    let header = c.args.header.now in
    let long : length header ≡ 512 = search rules in
    writes_fail c.from_residual.result (is_error _ c.from_residual.result c.from_residual.ensures.1)
    (writes_one (λ image front. header_written header c.args.label.now rest image long front) (c.in_err-write.ensures.files told))

pub returns-in_err-write-2-clause-files : goal.returns-in_err-write-2-clause-files
returns-in_err-write-2-clause-files g c rest told =
    let header = c.args.header.now in
    let label = c.args.label.now in
    let long : length header ≡ 512 = search rules in
    let same = name_stays (g.H.Hall.facts c.write.new.self) (g.H.Hall.facts c.args.hall.now) c.args.unit c.in_ok-write.ensures.faults.units in
    writes_fail c.from_residual-in_err-write-2.result (is_error _ c.from_residual-in_err-write-2.result c.from_residual-in_err-write-2.ensures.1)
    (writes_then (writes_one (λ image front. header_written header label rest image long front) (c.in_ok-write.ensures.files told))
    (writes_one (λ image front. label_written header label rest image long front) (write_named same (c.in_err-write-2.ensures.files told))))

pub returns-in_err-sync-clause-files : goal.returns-in_err-sync-clause-files
returns-in_err-sync-clause-files g c rest told =
    let header = c.args.header.now in
    let label = c.args.label.now in
    let long : length header ≡ 512 = search rules in
    let same = name_stays (g.H.Hall.facts c.write.new.self) (g.H.Hall.facts c.args.hall.now) c.args.unit c.in_ok-write.ensures.faults.units in
    writes_fail c.from_residual-in_err-sync.result (is_error _ c.from_residual-in_err-sync.result c.from_residual-in_err-sync.ensures.1)
    (writes_then (writes_one (λ image front. header_written header label rest image long front) (c.in_ok-write.ensures.files told))
    (writes_then (writes_one (λ image front. label_written header label rest image long front) (write_named same (c.in_ok-write-2.ensures.files told)))
    (writes_sync (g.met.H.Hall.leaves_state c.write-2.new.self) (c.in_err-sync.ensures.files told))))

pub returns-clause-files : goal.returns-clause-files
returns-clause-files g c rest told =
    let header = c.args.header.now in
    let label = c.args.label.now in
    let long : length header ≡ 512 = search rules in
    let same = name_stays (g.H.Hall.facts c.write.new.self) (g.H.Hall.facts c.args.hall.now) c.args.unit c.in_ok-write.ensures.faults.units in
    writes_done tt
    (writes_then (writes_one (λ image front. header_written header label rest image long front) (c.in_ok-write.ensures.files told))
    (writes_then (writes_one (λ image front. label_written header label rest image long front) (write_named same (c.in_ok-write-2.ensures.files told)))
    (writes_sync (g.met.H.Hall.leaves_state c.write-2.new.self) (c.in_ok-sync.ensures.files told))))
