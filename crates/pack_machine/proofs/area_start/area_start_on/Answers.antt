use Rattle.std.proofs.Common.{refl, rules}
use Rattle.hall_core.specs.Images.{image_in}
use Rattle.pack_machine.proofs.ReadBlocks.{part_named}
use Rattle.pack_machine.proofs.ReadFronts.{front_none, front_other, front_part}
use Rattle.pack_machine.proofs.Resting.{on_image, on_one, rest_buffer, rest_none}
use Rattle.pack_machine.proofs.area_start.area_start_on.Goals as goal

-- ---- nothing is read

pub returns-in_default-clause-front : goal.returns-in_default-clause-front
returns-in_default-clause-front g c told shelf n there =
    let pack = c.args.pack.now in
    let image = image_in (g.H.Hall.meaning c.args.hall.now) (g.H.Hall.facts c.args.hall.now) pack.vol.unit in
    let on = on_image image pack (c.requires.ready.image told) shelf n there in
    front_none image pack.vol pack.cache on c.args.dsn.now.bytes (c.in_default.ensures shelf n (record { image = image; mounted = on.mounted; there = there }))

pub returns-in_default-clause-rest : goal.returns-in_default-clause-rest
returns-in_default-clause-rest g c = rest_none c.requires.ready (g.met.H.Hall.counts_now c.args.hall.now) (search rules)

pub returns-in_default-kind_in-clause-front : goal.returns-in_default-kind_in-clause-front
returns-in_default-kind_in-clause-front g c told shelf n there =
    let pack = c.args.pack.now in
    let image = image_in (g.H.Hall.meaning c.args.hall.now) (g.H.Hall.facts c.args.hall.now) pack.vol.unit in
    let on = on_image image pack (c.requires.ready.image told) shelf n there in
    front_other image pack.vol pack.cache on c.args.dsn.now.bytes c.in-Some.set (c.in-Some.ensures shelf n (record { image = image; mounted = on.mounted; there = there })) c.kind_in.result c.kind_in.ensures c.in_default-kind_in.not-Part

pub returns-in_default-kind_in-clause-rest : goal.returns-in_default-kind_in-clause-rest
returns-in_default-kind_in-clause-rest g c = rest_none c.requires.ready (g.met.H.Hall.counts_now c.args.hall.now) (search rules)

-- ---- the directory of a partitioned data set is

pub front_in-requires-clause-known : goal.front_in-requires-clause-known
front_in-requires-clause-known g c told = on_one _ c.args.pack.now (c.requires.ready.image told)

pub front_in-requires-clause-part : goal.front_in-requires-clause-part
front_in-requires-clause-part g c told on =
    let pack = c.args.pack.now in
    let image = image_in (g.H.Hall.meaning c.args.hall.now) (g.H.Hall.facts c.args.hall.now) pack.vol.unit in
    part_named image pack.vol pack.cache on c.args.dsn.now.bytes c.in-Some.set (c.in-Some.ensures on.shelf on.number (record { image = image; mounted = on.mounted; there = on.there })) pack.cache.unread.items refl c.in-Part.ensures

pub returns-in-Ok-clause-front : goal.returns-in-Ok-clause-front
returns-in-Ok-clause-front g c told shelf n there =
    let pack = c.args.pack.now in
    let image = image_in (g.H.Hall.meaning c.args.hall.now) (g.H.Hall.facts c.args.hall.now) pack.vol.unit in
    let on = on_image image pack (c.requires.ready.image told) shelf n there in
    front_part image pack.vol pack.cache on c.args.dsn.now.bytes c.in-Some.set (c.in-Some.ensures shelf n (record { image = image; mounted = on.mounted; there = there })) c.in-Part.ensures c.in-Ok.front (c.in-Ok.ensures.front told)

pub returns-in-Ok-clause-rest : goal.returns-in-Ok-clause-rest
returns-in-Ok-clause-rest g c = let read = c.front_in.ensures in rest_buffer c.requires.ready read.vol read.others read.same read.held (search rules)

pub returns-in-Err-clause-rest : goal.returns-in-Err-clause-rest
returns-in-Err-clause-rest g c = let read = c.front_in.ensures in rest_buffer c.requires.ready read.vol read.others read.same read.held (search rules)
