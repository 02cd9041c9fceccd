use Rattle.std.proofs.Common.{refl, rules}
use Rattle.pack_machine.proofs.ReadBlocks.{picks_no_set, picks_other, picks_part, picks_set}
use Rattle.pack_machine.proofs.ReadSets.{part_known, seen_on, set_known, set_readable, set_unreadable, volume_on}
use Rattle.pack_machine.proofs.Resting.{on_one, rest_buffer, rest_none}
use Rattle.pack_machine.proofs.blocks.read_block_on.Goals as goal

pub returns-in_default-clause-block : goal.returns-in_default-clause-block
returns-in_default-clause-block g c told shelf n there =
    picks_no_set _ _ _ (seen_on c.requires.ready told shelf n there) c.args.dsn.now.bytes c.args.from (c.in_default.ensures shelf n (volume_on c.requires.ready told shelf n there))

pub returns-in-Unreadable-clause-block : goal.returns-in-Unreadable-clause-block
returns-in-Unreadable-clause-block g c told = set_unreadable c.requires.ready told c.args.dsn.now c.in-Some.set c.in-Some.ensures c.in-Unreadable.track c.in-Unreadable.ensures

pub returns-in_default-kind_in-clause-block : goal.returns-in_default-kind_in-clause-block
returns-in_default-kind_in-clause-block g c told shelf n there =
    picks_other _ _ _ (seen_on c.requires.ready told shelf n there) c.args.dsn.now.bytes c.in-Some.set (c.in-Some.ensures shelf n (volume_on c.requires.ready told shelf n there)) c.args.pack.now.cache.unread.items refl c.kind_in.result c.args.from c.kind_in.ensures
    c.in_default-kind_in.not-Seq c.in_default-kind_in.not-Part c.in_default-kind_in.not-Unreadable

pub read_block-requires-clause-set : goal.read_block-requires-clause-set
read_block-requires-clause-set g c told = set_known c.requires.ready told c.args.dsn.now c.in-Some.set c.in-Some.ensures

pub read_block-requires-clause-readable : goal.read_block-requires-clause-readable
read_block-requires-clause-readable g c told = set_readable c.requires.ready told c.args.dsn.now c.in-Some.set c.in-Some.ensures c.in-Seq.ensures

pub read_block-requires-clause-held : goal.read_block-requires-clause-held
read_block-requires-clause-held g c told = (c.requires.ready.image told).held.track

pub returns-in-Ok-clause-block : goal.returns-in-Ok-clause-block
returns-in-Ok-clause-block g c told shelf n there =
    picks_set _ _ _ (seen_on c.requires.ready told shelf n there) c.args.dsn.now.bytes c.in-Some.set (c.in-Some.ensures shelf n (volume_on c.requires.ready told shelf n there)) c.args.pack.now.cache.unread.items refl c.in-Seq.ensures c.in-Ok.found c.args.from (c.in-Ok.ensures.block told)

pub read_member-requires-clause-known : goal.read_member-requires-clause-known
read_member-requires-clause-known g c told = on_one _ c.args.pack.now (c.requires.ready.image told)

pub read_member-requires-clause-part : goal.read_member-requires-clause-part
read_member-requires-clause-part g c told = part_known c.requires.ready told c.args.dsn.now c.in-Some.set c.in-Some.ensures c.in-Part.ensures

pub returns-in-Ok-read_member-clause-block : goal.returns-in-Ok-read_member-clause-block
returns-in-Ok-read_member-clause-block g c told shelf n there =
    picks_part _ _ _ (seen_on c.requires.ready told shelf n there) c.args.dsn.now.bytes c.in-Some.set (c.in-Some.ensures shelf n (volume_on c.requires.ready told shelf n there)) c.args.pack.now.cache.unread.items refl c.in-Part.ensures c.in-Ok-read_member.found c.args.from (c.in-Ok-read_member.ensures.block told)

pub returns-in_default-clause-rest : goal.returns-in_default-clause-rest
returns-in_default-clause-rest g c = rest_none c.requires.ready (g.met.H.Hall.counts_now c.args.hall.now) (search rules)

pub returns-in-Unreadable-clause-rest : goal.returns-in-Unreadable-clause-rest
returns-in-Unreadable-clause-rest g c = rest_none c.requires.ready (g.met.H.Hall.counts_now c.args.hall.now) (search rules)

pub returns-in_default-kind_in-clause-rest : goal.returns-in_default-kind_in-clause-rest
returns-in_default-kind_in-clause-rest g c = rest_none c.requires.ready (g.met.H.Hall.counts_now c.args.hall.now) (search rules)

pub returns-in-Ok-clause-rest : goal.returns-in-Ok-clause-rest
returns-in-Ok-clause-rest g c = let read = c.read_block.ensures in rest_buffer c.requires.ready refl refl read.same read.held (search rules)

pub returns-in-Err-Memory-clause-rest : goal.returns-in-Err-Memory-clause-rest
returns-in-Err-Memory-clause-rest g c = let read = c.read_block.ensures in rest_buffer c.requires.ready refl refl read.same read.held (search rules)

pub returns-in-Err-Device-clause-rest : goal.returns-in-Err-Device-clause-rest
returns-in-Err-Device-clause-rest g c = let read = c.read_block.ensures in rest_buffer c.requires.ready refl refl read.same read.held (search rules)

pub returns-in-Ok-read_member-clause-rest : goal.returns-in-Ok-read_member-clause-rest
returns-in-Ok-read_member-clause-rest g c = let read = c.read_member.ensures in rest_buffer c.requires.ready read.vol read.others read.same read.held (search rules)

pub returns-in-Err-Memory-read_member-clause-rest : goal.returns-in-Err-Memory-read_member-clause-rest
returns-in-Err-Memory-read_member-clause-rest g c = let read = c.read_member.ensures in rest_buffer c.requires.ready read.vol read.others read.same read.held (search rules)

pub returns-in-Err-Device-read_member-clause-rest : goal.returns-in-Err-Device-read_member-clause-rest
returns-in-Err-Device-read_member-clause-rest g c = let read = c.read_member.ensures in rest_buffer c.requires.ready read.vol read.others read.same read.held (search rules)
