use Rattle.std.proofs.Common.{◌≡◌, List, true, false, subst, sym, ◌∙◌}
use Rattle.std.specs.Prelude.{Ok, Err, is_some}
use Rattle.space_alloc.specs.Units.{Chooses}
use Rattle.vol_model.specs.declared.contents.Run.{Run}
use Rattle.vol_model.specs.Space.{EndBy}
use Rattle.dadsm_ops.specs.Allocating.{is_wrong}
use Rattle.dadsm_ops.proofs.ChosenRuns.{absent_found, has_choice, refused_exists, refused_kind, refused_space, wrong_is}
use Rattle.dadsm_ops.proofs.ChosenTracks.{chosen_tracks}
use Rattle.dadsm_ops.proofs.NewChoices.{chosen_written}
use Rattle.dadsm_ops.proofs.NewPlans.{free_within}
use Rattle.dadsm_ops.proofs.planning.chosen.Goals as goal

pub returns-then-is_some-clause-refused : goal.returns-then-is_some-clause-refused
returns-then-is_some-clause-refused c image volume mounted stands =
    let some : is_some c.find.result ≡ true = cc in
    refused_exists c.args.dsn.now c.args.attr.now c.args.request.now c.args.dir image c.args.vol.now volume mounted stands c.find.result c.find.ensures some

pub returns-then-is_partitioned-dir-clause-refused : goal.returns-then-is_partitioned-dir-clause-refused
returns-then-is_partitioned-dir-clause-refused c image volume mounted stands =
    let no_set : is_some c.find.result ≡ false = cc in
    let wrong : is_wrong c.args.dsn.now c.args.attr.now c.args.dir ≡ true = wrong_is c.is_partitioned.result c.args.dsn.now c.args.attr.now c.args.dir c.is_partitioned.ensures ∙ c.if-is_partitioned-dir.true in
    refused_kind c.args.dsn.now c.args.attr.now c.args.request.now c.args.dir image c.args.vol.now volume mounted stands c.find.result c.find.ensures no_set wrong

pub choose-requires-clause-within : goal.choose-requires-clause-within
choose-requires-clause-within c =
    subst (EndBy 65535) (sym c.deref.ensures.value) (free_within c.args.vol.now c.requires.unit)

pub returns-in-Ok-clause-written : goal.returns-in-Ok-clause-written
returns-in-Ok-clause-written c =
    let e = c.in-Ok.extents in
    let v = c.args.vol.now in
    let chooses = subst (λ (rs : List Run). Chooses rs v.geometry c.args.request.now (Ok e)) c.deref.ensures.value c.in-Ok.ensures.choice in
    chosen_written v c.args.request.now e c.requires.unit chooses c.in-Ok.ensures.within

pub returns-in-Ok-clause-tracks : goal.returns-in-Ok-clause-tracks
returns-in-Ok-clause-tracks c =
    let e = c.in-Ok.extents in
    let v = c.args.vol.now in
    chosen_tracks v c.args.request.now e c.requires.unit (subst (λ (rs : List Run). Chooses rs v.geometry c.args.request.now (Ok e)) c.deref.ensures.value c.in-Ok.ensures.choice)

pub returns-in-Ok-clause-absent : goal.returns-in-Ok-clause-absent
returns-in-Ok-clause-absent c =
    let no_set : is_some c.find.result ≡ false = cc in
    absent_found c.args.dsn.now.bytes c.args.vol.now c.find.result c.find.ensures no_set

pub returns-in-Ok-clause-chosen : goal.returns-in-Ok-clause-chosen
returns-in-Ok-clause-chosen c image volume mounted stands =
    let e = c.in-Ok.extents in
    let v = c.args.vol.now in
    let no_set : is_some c.find.result ≡ false = cc in
    let right : is_wrong c.args.dsn.now c.args.attr.now c.args.dir ≡ false = wrong_is c.is_partitioned.result c.args.dsn.now c.args.attr.now c.args.dir c.is_partitioned.ensures ∙ c.if-is_partitioned-dir.false in
    let chooses = subst (λ (rs : List Run). Chooses rs v.geometry c.args.request.now (Ok e)) c.deref.ensures.value c.in-Ok.ensures.choice in
    has_choice c.args.dsn.now c.args.attr.now c.args.request.now c.args.dir image v volume mounted stands c.find.result c.find.ensures no_set right e chooses

pub returns-in-Err-clause-refused : goal.returns-in-Err-clause-refused
returns-in-Err-clause-refused c image volume mounted stands =
    let e = c.in-Err.none in
    let v = c.args.vol.now in
    let no_set : is_some c.find.result ≡ false = cc in
    let right : is_wrong c.args.dsn.now c.args.attr.now c.args.dir ≡ false = wrong_is c.is_partitioned.result c.args.dsn.now c.args.attr.now c.args.dir c.is_partitioned.ensures ∙ c.if-is_partitioned-dir.false in
    let chooses = subst (λ (rs : List Run). Chooses rs v.geometry c.args.request.now (Err e)) c.deref.ensures.value c.in-Err.ensures.choice in
    refused_space c.args.dsn.now c.args.attr.now c.args.request.now c.args.dir image v volume mounted stands c.find.result c.find.ensures no_set right e chooses
