use Rattle.std.proofs.Common.{◌∙◌, ℕ, Option, rules, set, sym, ap, subst, arith}
use Rattle.std.specs.Prelude.{option_and_then, slice_get}
use Rattle.mount_repair.specs.declared.library.Library.{Library}
use Rattle.vol_model.specs.Reading.{directory_size, entries_in}
use Rattle.vol_model.specs.Writing.{body_on}
use Rattle.pack_machine.specs.Libraries.{HoldsLibrary}
use Rattle.shelf_machine.specs.Machine.{shelf_under, units_of}
use Rattle.shelf_machine.specs.Opening.{names_of}
use Rattle.shelf_machine.specs.ReadyPacks.{caches_of, vols_of}
use Rattle.pack_machine.specs.declared.pack.Pack.{Pack}
use Rattle.pack_machine.specs.declared.pack_cache.PackCache.{PackCache}
use Rattle.pack_machine.proofs.ListPlaces.{get_map, get_set}
use Rattle.shelf_machine.proofs.ReadyPacks.{pack_at}
use Rattle.shelf_machine.proofs.Resting.{no_volume, rest_none, rest_packs, volume_at}
use Rattle.pack_machine.proofs.ShelfReads.{body_missing}
use Rattle.std.proofs.lemmas.Option.{slice_get_past}
use Rattle.shelf_machine.proofs.libraries.cached_directory.Goals as goal

-- no pack has this number
pub returns-then-k-len-clause-library : goal.returns-then-k-len-clause-library
returns-then-k-len-clause-library g c told =
    let shelf = shelf_under (names_of (g.H.Hall.facts c.args.hall.now).units (units_of (vols_of c.args.packs.now.items))) (g.H.Hall.meaning c.args.hall.now).state in
    let none = no_volume c.requires.ready told c.args.v (slice_get_past c.args.packs.now.items c.args.v (omega (arith, c.if-k-len.true, c.len.ensures, c.from-k.ensures))) in
    let missing = body_missing shelf c.args.v none c.args.dsn.now.bytes in
    (ap entries_in missing, ap directory_size missing)

pub returns-then-k-len-clause-rest : goal.returns-then-k-len-clause-rest
returns-then-k-len-clause-rest g c = rest_none c.requires.ready (g.met.H.Hall.counts_now c.args.hall.now) (search rules)

-- ---- the pack of this number

pub cached_directory_on-requires : goal.cached_directory_on-requires
cached_directory_on-requires g c = record { ready = c.requires.ready.each c.from-k.result c.index_mut.result.now (pack_at c.args.packs.now.items c.from-k.result c.index_mut.result.now (omega (arith, c.if-k-len.false, c.len.ensures)) c.index_mut.ensures.value) }

pub returns-clause-library : goal.returns-clause-library
returns-clause-library g c told =
    let at = pack_at c.args.packs.now.items c.from-k.result c.index_mut.result.now (omega (arith, c.if-k-len.false, c.len.ensures)) c.index_mut.ensures.value in
    let shelf = shelf_under (names_of (g.H.Hall.facts c.args.hall.now).units (units_of (vols_of c.args.packs.now.items))) (g.H.Hall.meaning c.args.hall.now).state in
    let packs' = set c.args.packs.now.items c.from-k.result c.cached_directory_on.new.pack in
    let now = get_map (λ (p : Pack). p.cache) packs' c.from-k.result c.cached_directory_on.new.pack (get_set c.args.packs.now.items c.from-k.result c.index_mut.result.now c.cached_directory_on.new.pack at) in
    let found = λ (o : Option PackCache) (at : ℕ). option_and_then (λ (b : PackCache). slice_get b.libraries.items at) o in
    subst (λ (ls : ℕ → Option Library). HoldsLibrary c.cached_directory_on.result (body_on shelf c.args.v c.args.dsn.now.bytes) ls)
    (sym (ap found (ap (slice_get (caches_of packs')) (sym c.from-k.ensures) ∙ now)))
    (subst (λ (j : ℕ). HoldsLibrary c.cached_directory_on.result (body_on shelf j c.args.dsn.now.bytes) (λ (at : ℕ). slice_get c.cached_directory_on.new.pack.cache.libraries.items at)) c.from-k.ensures
    (c.cached_directory_on.ensures.library told shelf c.from-k.result (volume_at c.requires.ready c.from-k.result c.index_mut.result.now at told)))

pub returns-clause-rest : goal.returns-clause-rest
returns-clause-rest g c =
    let at = pack_at c.args.packs.now.items c.from-k.result c.index_mut.result.now (omega (arith, c.if-k-len.false, c.len.ensures)) c.index_mut.ensures.value in
    rest_packs c.requires.ready c.from-k.result c.index_mut.result.now at c.cached_directory_on.ensures.rest
