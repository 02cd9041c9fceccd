use Rattle.std.proofs.Common.{refl, sym, ap, subst, rules}
use Rattle.std.specs.Prelude.{Err, slice_get}
use Rattle.hall_core.specs.Images.{image_in}
use Rattle.vol_model.specs.Reading.{directory_size, entries_in}
use Rattle.vol_model.specs.declared.contents.Body.{Body}
use Rattle.pack_machine.specs.Libraries.{HoldsPart, IsHeld}
use Rattle.pack_machine.specs.Reads.{HasVolume}
use Rattle.pack_machine.proofs.HeldLibraries.{held_by, readable_by}
use Rattle.pack_machine.proofs.ReadBlocks.{no_library, not_listed, part_on}
use Rattle.pack_machine.proofs.ShelfReads.{body_none, is_set, no_set}
use Rattle.pack_machine.proofs.Resting.{on_image, on_one, rest, rest_none}
use Rattle.pack_machine.proofs.libraries.cached_directory_on.Goals as goal

pub returns-in_default-clause-library : goal.returns-in_default-clause-library
returns-in_default-clause-library g c told shelf n there =
    let pack = c.args.pack.now in
    let image = image_in (g.H.Hall.meaning c.args.hall.now) (g.H.Hall.facts c.args.hall.now) pack.vol.unit in
    let on = on_image image pack (c.requires.ready.image told) shelf n there in
    let has : HasVolume shelf n pack.vol = record { image = image; mounted = on.mounted; there = there } in
    let none = body_none shelf n pack.vol has c.args.dsn.now.bytes (no_set shelf n pack.vol has c.args.dsn.now.bytes (c.in_default.ensures.none refl)) in
    (ap entries_in none, ap directory_size none)

pub cached_directory_of-requires-clause-known : goal.cached_directory_of-requires-clause-known
cached_directory_of-requires-clause-known g c told = on_one _ c.args.pack.now (c.requires.ready.image told)

pub cached_directory_of-requires-clause-part : goal.cached_directory_of-requires-clause-part
cached_directory_of-requires-clause-part g c told =
    let on = on_one _ c.args.pack.now (c.requires.ready.image told) in
    let pack = c.args.pack.now in
    let image = image_in (g.H.Hall.meaning c.args.hall.now) (g.H.Hall.facts c.args.hall.now) pack.vol.unit in
    readable_by image pack.vol c.in-Some.set _
    (part_on image pack.vol pack.cache on c.args.dsn.now.bytes c.in-Some.set (is_set on.shelf on.number pack.vol (record { image = image; mounted = on.mounted; there = on.there }) c.args.dsn.now.bytes c.in-Some.slot c.in-Some.set c.in-Some.ensures.slot c.in-Some.ensures.set) pack.cache.unread.items refl c.in-Part.ensures)

pub returns-in-Ok-clause-library : goal.returns-in-Ok-clause-library
returns-in-Ok-clause-library g c told shelf n there =
    let pack = c.args.pack.now in
    let image = image_in (g.H.Hall.meaning c.args.hall.now) (g.H.Hall.facts c.args.hall.now) pack.vol.unit in
    let on = on_image image pack (c.requires.ready.image told) shelf n there in
    let its = part_on image pack.vol pack.cache on c.args.dsn.now.bytes c.in-Some.set (is_set shelf n pack.vol (record { image = image; mounted = on.mounted; there = there }) c.args.dsn.now.bytes c.in-Some.slot c.in-Some.set c.in-Some.ensures.slot c.in-Some.ensures.set) pack.cache.unread.items refl c.in-Part.ensures in
    subst (IsHeld (slice_get c.cached_directory_of.new.known.libraries.items c.in-Ok.at)) (sym its.content) (c.in-Ok.ensures.library told)

pub returns-in-Err-clause-library : goal.returns-in-Err-clause-library
returns-in-Err-clause-library g c told shelf n there =
    let pack = c.args.pack.now in
    let image = image_in (g.H.Hall.meaning c.args.hall.now) (g.H.Hall.facts c.args.hall.now) pack.vol.unit in
    let on = on_image image pack (c.requires.ready.image told) shelf n there in
    let its = part_on image pack.vol pack.cache on c.args.dsn.now.bytes c.in-Some.set (is_set shelf n pack.vol (record { image = image; mounted = on.mounted; there = there }) c.args.dsn.now.bytes c.in-Some.slot c.in-Some.set c.in-Some.ensures.slot c.in-Some.ensures.set) pack.cache.unread.items refl c.in-Part.ensures in
    held_by c.in-Err.error _ _ _ (subst (λ (b : Body). HoldsPart (Err c.in-Err.error) b c.cached_directory_of.new.known.libraries.items) (sym its.content) (c.in-Err.ensures.library told))

pub returns-in-Unreadable-clause-library : goal.returns-in-Unreadable-clause-library
returns-in-Unreadable-clause-library g c told shelf n there =
    let pack = c.args.pack.now in
    let image = image_in (g.H.Hall.meaning c.args.hall.now) (g.H.Hall.facts c.args.hall.now) pack.vol.unit in
    let on = on_image image pack (c.requires.ready.image told) shelf n there in
    let unread = not_listed image pack.vol pack.cache on c.args.dsn.now.bytes c.in-Some.set (is_set shelf n pack.vol (record { image = image; mounted = on.mounted; there = there }) c.args.dsn.now.bytes c.in-Some.slot c.in-Some.set c.in-Some.ensures.slot c.in-Some.ensures.set) pack.cache.unread.items refl c.in-Unreadable.track c.in-Unreadable.ensures in
    (ap entries_in unread, ap directory_size unread)

pub returns-in_default-kind_in-clause-library : goal.returns-in_default-kind_in-clause-library
returns-in_default-kind_in-clause-library g c told shelf n there =
    let pack = c.args.pack.now in
    let image = image_in (g.H.Hall.meaning c.args.hall.now) (g.H.Hall.facts c.args.hall.now) pack.vol.unit in
    let on = on_image image pack (c.requires.ready.image told) shelf n there in
    let none = no_library image pack.vol pack.cache on c.args.dsn.now.bytes c.in-Some.set (is_set shelf n pack.vol (record { image = image; mounted = on.mounted; there = there }) c.args.dsn.now.bytes c.in-Some.slot c.in-Some.set c.in-Some.ensures.slot c.in-Some.ensures.set) pack.cache.unread.items refl c.kind_in.result c.kind_in.ensures
    c.in_default-kind_in.not-Part c.in_default-kind_in.not-Unreadable in
    (none.entries, none.size)

pub returns-in_default-clause-rest : goal.returns-in_default-clause-rest
returns-in_default-clause-rest g c = rest_none c.requires.ready (g.met.H.Hall.counts_now c.args.hall.now) (search rules)

pub returns-in-Unreadable-clause-rest : goal.returns-in-Unreadable-clause-rest
returns-in-Unreadable-clause-rest g c = rest_none c.requires.ready (g.met.H.Hall.counts_now c.args.hall.now) (search rules)

pub returns-in_default-kind_in-clause-rest : goal.returns-in_default-kind_in-clause-rest
returns-in_default-kind_in-clause-rest g c = rest_none c.requires.ready (g.met.H.Hall.counts_now c.args.hall.now) (search rules)

pub returns-in-Ok-clause-rest : goal.returns-in-Ok-clause-rest
returns-in-Ok-clause-rest g c = let read = c.cached_directory_of.ensures in rest c.requires.ready read.vol read.unread read.same read.known read.held (search rules)

pub returns-in-Err-clause-rest : goal.returns-in-Err-clause-rest
returns-in-Err-clause-rest g c = let read = c.cached_directory_of.ensures in rest c.requires.ready read.vol read.unread read.same read.known read.held (search rules)
