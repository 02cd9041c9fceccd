use Rattle.std.proofs.Common.{rules, sym, ◌∙◌, arith}
use Rattle.shelf_machine.proofs.ReadyPacks.{pack_at}
use Rattle.shelf_machine.proofs.SeveralPacks.{leaves_nowhere, leaves_packs}
use Rattle.std.proofs.lemmas.Option.{slice_get_past}
use Rattle.shelf_machine.proofs.operations.operate.Goals as goal

pub returns-then-k-len : goal.returns-then-k-len
returns-then-k-len g c = record {
  leaves = leaves_nowhere g.H.Hall.tells (g.H.Hall.facts c.args.hall.now) (g.H.Hall.meaning c.args.hall.now) c.args.packs.now.items c.requires.ready c.args.op.now c.requires.durable (g.met.H.Hall.counts_now c.args.hall.now)
      (slice_get_past c.args.packs.now.items _ (omega (arith, c.if-k-len.true, c.len.ensures, c.from-k.ensures, c.volume_number.ensures))) (search rules);
}

pub operate_pack-requires-clause-ready : goal.operate_pack-requires-clause-ready
operate_pack-requires-clause-ready g c = c.requires.ready.each c.from-k.result c.index_mut.result.now (pack_at c.args.packs.now.items c.from-k.result c.index_mut.result.now (omega (arith, c.if-k-len.false, c.len.ensures)) c.index_mut.ensures.value)

pub returns : goal.returns
returns g c = record {
  leaves = leaves_packs g.H.Hall.tells c.args.op.now (g.H.Hall.facts c.args.hall.now) (g.H.Hall.facts c.operate_pack.new.hall) (g.H.Hall.meaning c.args.hall.now) (g.H.Hall.meaning c.operate_pack.new.hall) c.args.packs.now.items c.from-k.result
      c.index_mut.result.now c.operate_pack.new.pack c.operate_pack.result c.requires.ready (pack_at c.args.packs.now.items c.from-k.result c.index_mut.result.now (omega (arith, c.if-k-len.false, c.len.ensures)) c.index_mut.ensures.value) c.operate_pack.ensures.leaves
      (sym (c.from-k.ensures ∙ c.volume_number.ensures)) c.requires.durable (g.met.H.Hall.counts_now c.args.hall.now) (g.met.H.Hall.leaves_state c.args.hall.now);
}
