use Rattle.std.proofs.Common.{◌≡◌, ◌∙◌, ℕ, List, Option, ap, option_and_then, subst, sym}
use Rattle.std.specs.Prelude.{Err, Ok, Result, is_some}
use Rattle.std.specs.Option.{option_map}
use Rattle.std.proofs.lemmas.Result.{err_from_is_err_and}
use Rattle.dscb_codec.specs.declared.Dscb.{Dscb}
use Rattle.dscb_codec.specs.declared.F1.{F1}
use Rattle.hall_core.specs.Facts.{unit_of}
use Rattle.pack_spec.specs.Rules.{set_in}
use Rattle.stop_model.proofs.MomentLemmas.{same_none}
use Rattle.space_alloc.specs.Units.{listed}
use Rattle.vol_model.specs.declared.answers.StoreErr.{StoreErr}
use Rattle.vol_model.specs.declared.answers.StoreErr.TheVariants.{Refused}
use Rattle.vol_model.specs.declared.refusals.Refusal.{Refusal}
use Rattle.vol_model.specs.Shelf.{extend_on}
use Rattle.dadsm_ops.specs.Operations.{InVtoc, Operates, image_named}
use Rattle.dadsm_ops.proofs.ExtendedNames.{dsn_at, named_at, plain_at}
use Rattle.dadsm_ops.proofs.ExtendedOperates.{operates_extended, operates_unextended, refused_at}
use Rattle.dadsm_ops.proofs.Operating.{operates_none}
use Rattle.dadsm_ops.proofs.extending.extend.Goals as goal

pub set_at-set-requires : goal.set_at-set-requires
set_at-set-requires g c = ap (λ (o : Option Dscb). is_some (option_and_then (λ (d : Dscb). option_map (λ (f : F1). f.name) (set_in (Ok d))) o)) c.requires.set.there

-- ---- nothing is begun

pub returns-in_err-extents-clause-files : goal.returns-in_err-extents-clause-files
returns-in_err-extents-clause-files g c dsn is told =
    let hall = c.args.hall.now in
    let v = c.args.vol.now in
    let m = g.H.Hall.meaning hall in
    let name : List ℕ = (unit_of (g.H.Hall.facts hall).units v.unit).name in
    let mounted = c.requires.mounted told in
    let set = c.set_at-set.result in
    let there = c.set_at-set.ensures in
    let p = err_from_is_err_and c.from_residual.result c.from_residual.ensures.1 in
    let r : Refusal = c.in_err-extents.field-0.0 in
    let given : c.from_residual.result ≡ Err (Refused r) = p.1 ∙ ap (λ (e : StoreErr). Err e) p.2 in
    let is_refused = refused_at v c.args.slot set there (plain_at v.slots.items c.args.slot c.requires.set set there) dsn (dsn_at v.slots.items c.args.slot set there dsn is) r c.in_err-extents.ensures.refused (image_named m.state name) mounted
    (c.requires.body told set.name (named_at v.slots.items c.args.slot set there)) in
    subst (λ (x : Result (Unit {0}) StoreErr). Operates name (extend_on dsn) v (InVtoc v) m m x) (sym given)
    (operates_none name (extend_on dsn) v (InVtoc v) m _ r mounted.volume is_refused (same_none m (g.met.H.Hall.counts_now hall)))

-- ---- what is planned is carried out

pub carry_out-requires-clause-plan : goal.carry_out-requires-clause-plan
carry_out-requires-clause-plan g c told = c.in_ok-extents.ensures.plan _ c.args.slot (c.requires.mounted told) c.set_at-set.ensures

pub returns-in-Ok-clause-files : goal.returns-in-Ok-clause-files
returns-in-Ok-clause-files g c dsn is told =
    let v = c.args.vol.now in
    let units = (g.H.Hall.facts c.args.hall.now).units in
    let name : List ℕ = (unit_of units v.unit).name in
    let set = c.set_at-set.result in
    let there = c.set_at-set.ensures in
    let mounted = c.requires.mounted told in
    let named = dsn_at v.slots.items c.args.slot set there dsn is in
    operates_extended name v c.carry_out.new.vol (g.H.Hall.meaning c.args.hall.now) (g.H.Hall.meaning c.carry_out.new.hall) mounted c.args.slot set there (plain_at v.slots.items c.args.slot c.requires.set set there) (c.requires.body told set.name (named_at v.slots.items c.args.slot set there))
    (listed c.in_ok-extents.extents) (c.in_ok-extents.ensures.plan _ c.args.slot mounted there) dsn named tt (c.in-Ok.ensures.files dsn named told)

pub returns-in-Err-clause-files : goal.returns-in-Err-clause-files
returns-in-Err-clause-files g c dsn is told =
    let v = c.args.vol.now in
    let units = (g.H.Hall.facts c.args.hall.now).units in
    let name : List ℕ = (unit_of units v.unit).name in
    let set = c.set_at-set.result in
    let there = c.set_at-set.ensures in
    let mounted = c.requires.mounted told in
    let named = dsn_at v.slots.items c.args.slot set there dsn is in
    operates_unextended name v c.carry_out.new.vol (g.H.Hall.meaning c.args.hall.now) (g.H.Hall.meaning c.carry_out.new.hall) mounted c.args.slot set there (plain_at v.slots.items c.args.slot c.requires.set set there) (c.requires.body told set.name (named_at v.slots.items c.args.slot set there))
    (listed c.in_ok-extents.extents) (c.in_ok-extents.ensures.plan _ c.args.slot mounted there) dsn named (c.carry_out.ensures.files dsn named told)
