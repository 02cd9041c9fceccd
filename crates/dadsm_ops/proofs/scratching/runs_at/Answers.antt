use Rattle.std.proofs.Common.{◌≡◌, ◌∙◌, subst, sym}
use Rattle.std.proofs.lemmas.Option.{get_or_from_slice_get}
use Rattle.dscb_codec.specs.declared.Dscb.TheVariants as formats
use Rattle.dscb_codec.specs.declared.F1.{F1}
use Rattle.vol_model.specs.Space.{covers}
use Rattle.vtoc_sets.specs.Sets.{HasSet, extents_in}
use Rattle.dadsm_ops.proofs.scratching.runs_at.Goals as goal

pub returns-in-F1 : goal.returns-in-F1
returns-in-F1 c image set is has track =
    let v = c.args.vol.now in
    let there = c.index.ensures ∙ get_or_from_slice_get v.slots.items c.args.slot (formats.F1 set) _ is in
    let one : formats.F1 c.in-F1.set ≡ formats.F1 set = sym c.in-F1.is ∙ there in
    let same : c.in-F1.set ≡ set = cc in
    subst (λ (x : F1). covers c.runs_of.result track ≡ covers (extents_in image v x) track) same
    (c.runs_of.ensures image (subst (λ (x : F1). HasSet image v x) (sym same) has) track)

pub returns-in_default : goal.returns-in_default
returns-in_default c image set is has track =
    absurd (c.in_default.not-F1 set (c.index.ensures ∙ get_or_from_slice_get c.args.vol.now.slots.items c.args.slot (formats.F1 set) _ is))
