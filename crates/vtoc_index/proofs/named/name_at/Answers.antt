-- The name in the slot that stands at this place.
use Rattle.std.proofs.Common.{◌≡◌, ℕ, List, Some, None, Option, sym, ap, ◌∙◌}
use Rattle.std.specs.Prelude.{option_map, slice_get}
use Rattle.dscb_codec.specs.declared.Dscb.{Dscb}
use Rattle.ebcdic_names.specs.declared.names.Dsn.{Dsn}
use Rattle.vtoc_index.specs.Names.{name_at, or_zeros}
use Rattle.vtoc_index.proofs.NamedSets.{name_of_kth}
use Rattle.vtoc_index.proofs.named.name_at.Goals as goal

pub returns-in_err-slot : goal.returns-in_err-slot
returns-in_err-slot c image volume mounted is =
    let slots = c.args.vol.now.slots.items in
    let at : None ≡ slice_get c.args.vol.now.by_name.items c.args.k = c.in_err-slot.ensures ∙ ap (λ (l : List ℕ). slice_get l c.args.k) c.deref.ensures.value in
    c.from_residual.ensures ∙ ap (option_map (λ s. record { bytes = or_zeros (name_at slots s) })) at ∙ name_of_kth image c.args.vol.now volume c.args.k mounted is c.requires

pub returns : goal.returns
returns c image volume mounted is =
    let slots = c.args.vol.now.slots.items in
    let at : Some c.in_ok-slot.slot ≡ slice_get c.args.vol.now.by_name.items c.args.k = c.in_ok-slot.ensures ∙ ap (λ (l : List ℕ). slice_get l c.args.k) c.deref.ensures.value in
    let name = c.name_in.ensures ∙ ap (λ (l : List Dscb). or_zeros (name_at l c.in_ok-slot.slot)) c.deref-2.ensures.value in
    ap (λ (b : List ℕ). Some (record { bytes = b })) name
    ∙ ap (option_map (λ s. record { bytes = or_zeros (name_at slots s) })) at ∙ name_of_kth image c.args.vol.now volume c.args.k mounted is c.requires
