use Rattle.std.proofs.Common.{◌≡◌, ◌∙◌, ◌+◌, ◌<◌, List, None, ℕ, Some, ap, arith, length, subst, sym}
use Rattle.std.specs.Prelude.{Err, IfErr, Ok, Result}
use Rattle.std.proofs.lemmas.Result.{err_from_is_err_and}
use Rattle.pack_spec.specs.Volume.{volume_of}
use Rattle.space_alloc.specs.declared.extents.Extents.{Extents}
use Rattle.space_alloc.specs.Units.{listed}
use Rattle.vol_model.specs.declared.contents.Attr.{Attr}
use Rattle.vol_model.specs.declared.contents.Volume.{Volume}
use Rattle.vol_model.specs.declared.refusals.Refusal.{Refusal}
use Rattle.vol_model.specs.declared.refusals.Refusal.TheVariants.{NoSpace}
use Rattle.vol_model.specs.Shelf.{secondary_asked, secondary_choice}
use Rattle.vtoc_index.specs.Index.{IsMounted}
use Rattle.dadsm_ops.specs.Extending.{IsRefused}
use Rattle.dadsm_ops.proofs.ExtensionRefusals.{extents_refused, space_refused}
use Rattle.dadsm_ops.proofs.extending.more_extents.Goals as goal

pub returns-in_err-extents-clause-refused : goal.returns-in_err-extents-clause-refused
returns-in_err-extents-clause-refused c =
    let v = c.args.vol.now in
    let set = c.args.set.now in
    let p = err_from_is_err_and c.from_residual.result c.from_residual.ensures.1 in
    let r : Refusal = c.in_err-extents.field-0.0 in
    let given : c.from_residual.result ≡ Err r = p.1 ∙ ap (λ (e : Refusal). Err e) p.2 in
    let none = subst (λ (a : Attr). (image : List ℕ) (volume : Volume) → IsMounted image v → volume_of image ≡ Ok volume → (secondary_choice volume a ≡ None) × (r ≡ NoSpace (secondary_asked a))) c.attr_of.ensures.attr c.in_err-extents.ensures.refused in
    subst (λ (x : Result Extents Refusal). IfErr x (λ y. IsRefused v set y)) (sym given) (space_refused v set r none)

pub returns-then-from-clause-refused : goal.returns-then-from-clause-refused
returns-then-from-clause-refused c =
    let v = c.args.vol.now in
    let set = c.args.set.now in
    let runs = listed c.in_ok-extents.extents in
    let chosen = subst (λ (a : Attr). (image : List ℕ) (volume : Volume) → IsMounted image v → volume_of image ≡ Ok volume → secondary_choice volume a ≡ Some runs) c.attr_of.ensures.attr c.in_ok-extents.ensures.chosen in
    let more : 16 < set.extents + length runs = omega (arith, c.if-from.true, c.from.ensures, c.from-2.ensures, c.from-3.ensures, c.extent_count-count.ensures) in
    extents_refused v set runs chosen more

pub returns-clause-more : goal.returns-clause-more
returns-clause-more c image volume mounted stands = record {
  chosen = subst (λ (a : Attr). secondary_choice volume a ≡ Some (listed c.in_ok-extents.extents)) c.attr_of.ensures.attr (c.in_ok-extents.ensures.chosen image volume mounted stands);
  few = omega (arith, c.if-from.false, c.from.ensures, c.from-2.ensures, c.from-3.ensures, c.extent_count-count.ensures);
}
