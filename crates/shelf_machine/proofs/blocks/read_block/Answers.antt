use Rattle.std.proofs.Common.{ℕ, rules, subst, arith}
use Rattle.vol_model.specs.Reading.{Picks, blocks_from, first, readable}
use Rattle.vol_model.specs.Writing.{body_on}
use Rattle.shelf_machine.specs.Machine.{shelf_under, units_of}
use Rattle.shelf_machine.specs.Opening.{names_of}
use Rattle.shelf_machine.specs.ReadyPacks.{vols_of}
use Rattle.shelf_machine.proofs.ReadyPacks.{pack_at}
use Rattle.shelf_machine.proofs.Resting.{no_volume, rest_none, rest_packs, volume_at}
use Rattle.pack_machine.proofs.ReadBlocks.{nothing_picked}
use Rattle.pack_machine.proofs.ShelfReads.{blocks_missing}
use Rattle.std.proofs.lemmas.Option.{slice_get_past}
use Rattle.shelf_machine.proofs.blocks.read_block.Goals as goal

-- no pack has this number
pub returns-then-k-len-clause-block : goal.returns-then-k-len-clause-block
returns-then-k-len-clause-block g c told =
    let shelf = shelf_under (names_of (g.H.Hall.facts c.args.hall.now).units (units_of (vols_of c.args.packs.now.items))) (g.H.Hall.meaning c.args.hall.now).state in
    let none = no_volume c.requires.ready told c.args.v (slice_get_past c.args.packs.now.items c.args.v (omega (arith, c.if-k-len.true, c.len.ensures, c.from-k.ensures))) in
    nothing_picked (readable (body_on shelf c.args.v c.args.dsn.now.bytes)) c.args.from (blocks_missing shelf c.args.v none c.args.dsn.now.bytes)

pub returns-then-k-len-clause-rest : goal.returns-then-k-len-clause-rest
returns-then-k-len-clause-rest g c = rest_none c.requires.ready (g.met.H.Hall.counts_now c.args.hall.now) (search rules)

-- ---- the pack of this number

pub read_block_on-requires : goal.read_block_on-requires
read_block_on-requires g c = record { ready = c.requires.ready.each c.from-k.result c.index_mut.result.now (pack_at c.args.packs.now.items c.from-k.result c.index_mut.result.now (omega (arith, c.if-k-len.false, c.len.ensures)) c.index_mut.ensures.value) }

pub returns-clause-block : goal.returns-clause-block
returns-clause-block g c told =
    let at = pack_at c.args.packs.now.items c.from-k.result c.index_mut.result.now (omega (arith, c.if-k-len.false, c.len.ensures)) c.index_mut.ensures.value in
    let shelf = shelf_under (names_of (g.H.Hall.facts c.args.hall.now).units (units_of (vols_of c.args.packs.now.items))) (g.H.Hall.meaning c.args.hall.now).state in
    subst (λ (j : ℕ). Picks c.read_block_on.result (readable (body_on shelf j c.args.dsn.now.bytes)) (λ bs. first (blocks_from c.args.from bs))) c.from-k.ensures
    (c.read_block_on.ensures.block told shelf c.from-k.result (volume_at c.requires.ready c.from-k.result c.index_mut.result.now at told))

pub returns-clause-rest : goal.returns-clause-rest
returns-clause-rest g c =
    let at = pack_at c.args.packs.now.items c.from-k.result c.index_mut.result.now (omega (arith, c.if-k-len.false, c.len.ensures)) c.index_mut.ensures.value in
    rest_packs c.requires.ready c.from-k.result c.index_mut.result.now at c.read_block_on.ensures.rest
