use Rattle.std.proofs.Common.{refl, rules}
use Rattle.pack_machine.proofs.ReadBlocks.{into_none, into_other, into_part, into_set}
use Rattle.pack_machine.proofs.ReadSets.{part_known, seen_on, set_known, set_readable, set_unreadable, volume_on}
use Rattle.pack_machine.proofs.Resting.{on_one, rest_buffer, rest_none}
use Rattle.pack_machine.proofs.blocks.read_into_on.Goals as goal

pub returns-in_default-clause-block : goal.returns-in_default-clause-block
returns-in_default-clause-block g c told shelf n there =
    into_none _ _ _ (seen_on c.requires.ready told shelf n there) c.args.dsn.now.bytes c.args.from (c.in_default.ensures shelf n (volume_on c.requires.ready told shelf n there))

pub returns-in-Unreadable-clause-block : goal.returns-in-Unreadable-clause-block
returns-in-Unreadable-clause-block g c told = set_unreadable c.requires.ready told c.args.dsn.now c.in-Some.set c.in-Some.ensures c.in-Unreadable.track c.in-Unreadable.ensures

pub returns-in_default-kind_in-clause-block : goal.returns-in_default-kind_in-clause-block
returns-in_default-kind_in-clause-block g c told shelf n there =
    into_other _ _ _ (seen_on c.requires.ready told shelf n there) c.args.dsn.now.bytes c.in-Some.set (c.in-Some.ensures shelf n (volume_on c.requires.ready told shelf n there)) c.args.pack.now.cache.unread.items refl c.kind_in.result c.args.from c.kind_in.ensures
    c.in_default-kind_in.not-Seq c.in_default-kind_in.not-Part c.in_default-kind_in.not-Unreadable

pub read_into-requires-clause-set : goal.read_into-requires-clause-set
read_into-requires-clause-set g c told = set_known c.requires.ready told c.args.dsn.now c.in-Some.set c.in-Some.ensures

pub read_into-requires-clause-readable : goal.read_into-requires-clause-readable
read_into-requires-clause-readable g c told = set_readable c.requires.ready told c.args.dsn.now c.in-Some.set c.in-Some.ensures c.in-Seq.ensures

pub read_into-requires-clause-held : goal.read_into-requires-clause-held
read_into-requires-clause-held g c told = (c.requires.ready.image told).held.track

pub returns-in-Ok-clause-block : goal.returns-in-Ok-clause-block
returns-in-Ok-clause-block g c told shelf n there =
    into_set _ _ _ (seen_on c.requires.ready told shelf n there) c.args.dsn.now.bytes c.in-Some.set (c.in-Some.ensures shelf n (volume_on c.requires.ready told shelf n there)) c.args.pack.now.cache.unread.items refl c.in-Seq.ensures c.in-Ok.more c.args.from _ (c.in-Ok.ensures.block told)

pub read_member_into-requires-clause-known : goal.read_member_into-requires-clause-known
read_member_into-requires-clause-known g c told = on_one _ c.args.pack.now (c.requires.ready.image told)

pub read_member_into-requires-clause-part : goal.read_member_into-requires-clause-part
read_member_into-requires-clause-part g c told = part_known c.requires.ready told c.args.dsn.now c.in-Some.set c.in-Some.ensures c.in-Part.ensures

pub returns-in-Ok-read_member_into-clause-block : goal.returns-in-Ok-read_member_into-clause-block
returns-in-Ok-read_member_into-clause-block g c told shelf n there =
    into_part _ _ _ (seen_on c.requires.ready told shelf n there) c.args.dsn.now.bytes c.in-Some.set (c.in-Some.ensures shelf n (volume_on c.requires.ready told shelf n there)) c.args.pack.now.cache.unread.items refl c.in-Part.ensures c.in-Ok-read_member_into.more c.args.from _ (c.in-Ok-read_member_into.ensures.block told)

pub returns-in_default-clause-rest : goal.returns-in_default-clause-rest
returns-in_default-clause-rest g c = rest_none c.requires.ready (g.met.H.Hall.counts_now c.args.hall.now) (search rules)

pub returns-in-Unreadable-clause-rest : goal.returns-in-Unreadable-clause-rest
returns-in-Unreadable-clause-rest g c = rest_none c.requires.ready (g.met.H.Hall.counts_now c.args.hall.now) (search rules)

pub returns-in_default-kind_in-clause-rest : goal.returns-in_default-kind_in-clause-rest
returns-in_default-kind_in-clause-rest g c = rest_none c.requires.ready (g.met.H.Hall.counts_now c.args.hall.now) (search rules)

pub returns-in-Ok-clause-rest : goal.returns-in-Ok-clause-rest
returns-in-Ok-clause-rest g c = let read = c.read_into.ensures in rest_buffer c.requires.ready refl refl read.same read.held (search rules)

pub returns-in-Err-clause-rest : goal.returns-in-Err-clause-rest
returns-in-Err-clause-rest g c = let read = c.read_into.ensures in rest_buffer c.requires.ready refl refl read.same read.held (search rules)

pub returns-in-Ok-read_member_into-clause-rest : goal.returns-in-Ok-read_member_into-clause-rest
returns-in-Ok-read_member_into-clause-rest g c = let read = c.read_member_into.ensures in rest_buffer c.requires.ready read.vol read.others read.same read.held (search rules)

pub returns-in-Err-read_member_into-clause-rest : goal.returns-in-Err-read_member_into-clause-rest
returns-in-Err-read_member_into-clause-rest g c = let read = c.read_member_into.ensures in rest_buffer c.requires.ready read.vol read.others read.same read.held (search rules)
