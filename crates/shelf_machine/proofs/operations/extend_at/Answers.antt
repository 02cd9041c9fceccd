use Rattle.std.proofs.Common.{◌≡◌, IsTrue, None, Some, rules, refl, set, sym, subst, ap, ◌∙◌, arith}
use Rattle.std.specs.Prelude.{Err, IsErrOf, Ok, Result, slice_get}
use Rattle.vtoc_index.specs.declared.vol.Vol.{Vol}
use Rattle.shelf_machine.specs.ReadyPacks.{vols_of}
use Rattle.pack_machine.specs.declared.pack.Pack.{Pack}
use Rattle.dadsm_ops.specs.Operations.{InVtoc, Operates}
use Rattle.hall_core.specs.Facts.{unit_of}
use Rattle.vol_model.specs.Calls.{IsUndone}
use Rattle.vol_model.specs.Shelf.{extend_on, step_on}
use Rattle.vol_model.specs.declared.answers.StoreErr.{StoreErr}
use Rattle.vol_model.specs.declared.answers.StoreErr.TheVariants as store
use Rattle.vol_model.specs.declared.refusals.Refusal.{Refusal}
use Rattle.vol_model.specs.declared.requests.Op.TheVariants.{Extend}
use Rattle.pack_machine.specs.Ready.{IsSamePack, reported}
use Rattle.pack_machine.proofs.ListPlaces.{get_map, get_set}
use Rattle.shelf_machine.proofs.SeveralPacks.{leaves_nowhere, leaves_packs, missing}
use Rattle.shelf_machine.proofs.ReadyPacks.{pack_at}
use Rattle.std.proofs.lemmas.Option.{same_Some, slice_get_past}
use Rattle.shelf_machine.proofs.operations.extend_at.Goals as goal

pub returns-then-k-len-clause-leaves : goal.returns-then-k-len-clause-leaves
returns-then-k-len-clause-leaves g c =
    leaves_nowhere g.H.Hall.tells (g.H.Hall.facts c.args.hall.now) (g.H.Hall.meaning c.args.hall.now) c.args.packs.now.items c.requires.ready (Extend c.args.v c.args.dsn.now) c.requires.durable (g.met.H.Hall.counts_now c.args.hall.now)
    (slice_get_past c.args.packs.now.items _ (omega (arith, c.if-k-len.true, c.len.ensures, c.from-k.ensures))) (search rules)

pub extend_on-requires-clause-ready : goal.extend_on-requires-clause-ready
extend_on-requires-clause-ready g c = c.requires.ready.each c.from-k.result c.index_mut.result.now (pack_at c.args.packs.now.items c.from-k.result c.index_mut.result.now (omega (arith, c.if-k-len.false, c.len.ensures)) c.index_mut.ensures.value)

pub returns-clause-leaves : goal.returns-clause-leaves
unfolding step_on
returns-clause-leaves g c =
    leaves_packs g.H.Hall.tells (Extend c.args.v c.args.dsn.now) (g.H.Hall.facts c.args.hall.now) (g.H.Hall.facts c.extend_on.new.hall) (g.H.Hall.meaning c.args.hall.now) (g.H.Hall.meaning c.extend_on.new.hall) c.args.packs.now.items c.from-k.result
    c.index_mut.result.now c.extend_on.new.pack c.extend_on.result c.requires.ready (pack_at c.args.packs.now.items c.from-k.result c.index_mut.result.now (omega (arith, c.if-k-len.false, c.len.ensures)) c.index_mut.ensures.value) c.extend_on.ensures.leaves
    (sym c.from-k.ensures) c.requires.durable (g.met.H.Hall.counts_now c.args.hall.now) (g.met.H.Hall.leaves_state c.args.hall.now)

pub returns-then-k-len-clause-pack : goal.returns-then-k-len-clause-pack
returns-then-k-len-clause-pack g c vol vol' at at' =
    let none : slice_get (vols_of c.args.packs.now.items) c.args.v ≡ None = missing c.args.packs.now.items c.args.v (slice_get_past c.args.packs.now.items c.args.v (omega (arith, c.if-k-len.true, c.len.ensures, c.from-k.ensures))) in
    let wrong : None ≡ Some vol = sym none ∙ at in
    cc

-- where the extension wasn't done the index is as before
same_undone : {T : Type 0} (v v' : Vol) (r : Result T StoreErr) → ((why : Refusal) → IsErrOf r (store.Refused why) → v' ≡ v) → ¬ IsErrOf r store.Memory → IsUndone (reported r) → v' ≡ v
same_undone v v' (Ok x) refused memory undone = absurd undone
same_undone v v' (Err (store.Refused why)) refused memory undone = refused why refl
same_undone v v' (Err store.Memory) refused memory undone = absurd (memory refl)
same_undone v v' (Err store.Device) refused memory undone = absurd undone

pub returns-clause-pack : goal.returns-clause-pack
returns-clause-pack g c vol vol' at at' =
    let packs = c.args.packs.now.items in
    let p : Pack = c.index_mut.result.now in
    let p' : Pack = c.extend_on.new.pack in
    let was : Vol = p.vol in
    let is : Vol = p'.vol in
    let there = pack_at c.args.packs.now.items c.from-k.result c.index_mut.result.now (omega (arith, c.if-k-len.false, c.len.ensures)) c.index_mut.ensures.value in
    let before = get_map (λ (q : Pack). q.vol) packs c.from-k.result p there in
    let after = get_map (λ (q : Pack). q.vol) (set packs c.from-k.result p') c.from-k.result p' (get_set packs c.from-k.result p p' there) in
    let here : was ≡ vol = same_Some _ _ (sym before ∙ ap (slice_get (vols_of packs)) c.from-k.ensures ∙ at) in
    let here' : is ≡ vol' = same_Some _ _ (sym after ∙ ap (slice_get (vols_of (set packs c.from-k.result p'))) c.from-k.ensures ∙ at') in
    subst (λ (u : Vol). IsSamePack u vol' × (IsUndone (reported c.extend_on.result) → vol' ≡ u)
    × (IsTrue g.H.Hall.tells → Operates (unit_of (g.H.Hall.facts c.args.hall.now).units u.unit).name (extend_on c.args.dsn.now) vol' (InVtoc vol') (g.H.Hall.meaning c.args.hall.now) (g.H.Hall.meaning c.extend_on.new.hall) c.extend_on.result)) here
    (subst (λ (u : Vol). IsSamePack was u × (IsUndone (reported c.extend_on.result) → u ≡ was)
    × (IsTrue g.H.Hall.tells → Operates (unit_of (g.H.Hall.facts c.args.hall.now).units was.unit).name (extend_on c.args.dsn.now) u (InVtoc u) (g.H.Hall.meaning c.args.hall.now) (g.H.Hall.meaning c.extend_on.new.hall) c.extend_on.result)) here' (
      c.extend_on.ensures.leaves.pack,
      same_undone was is c.extend_on.result c.extend_on.ensures.refused c.extend_on.ensures.memory,
      c.extend_on.ensures.files,
    ))
