-- The slot of a name is the first that has it, since no other does.
use Rattle.std.proofs.Common.{◌≡◌, ◌≢◌, ℕ, List, Some, None, Option, Bool, true, false, refl, sym, ap, subst, ◌∙◌}
use Rattle.std.proofs.lemmas.Slice.Eq.{bytes_eq-Decides}
use Rattle.std.specs.Str.{bytes_eq}
use Rattle.dscb_codec.specs.declared.Dscb.{Dscb}
use Rattle.vtoc_index.specs.Names.{IsFrom, name_at, or_zeros}
use Rattle.vtoc_index.proofs.NameOrder.{found_first, found_none, one_slot}
use Rattle.vtoc_index.proofs.NameSearch.{from_is, from_other}
use Rattle.vtoc_index.proofs.named.find.Goals as goal

-- what is found is the first of these slots
from_in : (slots seen : List Dscb) (by_name held : List ℕ) (name : List ℕ) (found : Option ℕ) → seen ≡ slots → held ≡ by_name → IsFrom (name_at seen) held name found → IsFrom (name_at slots) by_name name found
from_in slots seen by_name held name found same alike is =
    subst (λ (l : List ℕ). IsFrom (name_at slots) l name found) alike (subst (λ (l : List Dscb). IsFrom (name_at l) held name found) same is)

unequal : (m n : List ℕ) → bytes_eq m n ≡ false → m ≡ n → ⊥
unequal m n differ same = let both : true ≡ false = sym ((bytes_eq-Decides m n).1 same) ∙ differ in cc

pub returns-then-eq : goal.returns-then-eq
returns-then-eq c =
    let slots = c.args.vol.now.slots.items in
    let by_name = c.args.vol.now.by_name.items in
    let name = c.args.name.now.bytes in
    let slot = c.in_ok-slot.slot in
    let from = from_in slots c.deref.result.now by_name c.deref-2.result.now name (Some slot) c.deref.ensures.value c.deref-2.ensures.value c.in_ok-slot.ensures in
    let equal : c.name_in.result ≡ name = (bytes_eq-Decides c.name_in.result name).0 (sym c.if-eq.ensures) in
    let key : or_zeros (name_at slots slot) ≡ name = ap (λ l. or_zeros (name_at l slot)) (sym c.deref-3.ensures.value) ∙ sym c.name_in.ensures ∙ equal in
    let named = from_is (name_at slots) by_name c.requires name (Some slot) slot from refl key in
    sym (found_first slots slot name (λ j other. one_slot (name_at slots) by_name c.requires j slot name other named) named)

pub returns-else-eq : goal.returns-else-eq
returns-else-eq c =
    let slots = c.args.vol.now.slots.items in
    let by_name = c.args.vol.now.by_name.items in
    let name = c.args.name.now.bytes in
    let slot = c.in_ok-slot.slot in
    let from = from_in slots c.deref.result.now by_name c.deref-2.result.now name (Some slot) c.deref.ensures.value c.deref-2.ensures.value c.in_ok-slot.ensures in
    let never : (other : ℕ) → Some slot ≡ Some other → or_zeros (name_at slots other) ≡ name → ⊥ = λ other is key.
    let same : slot ≡ other = cc in
    let equal : c.name_in.result ≡ name = c.name_in.ensures ∙ ap (λ l. or_zeros (name_at l slot)) c.deref-3.ensures.value ∙ ap (λ (s : ℕ). or_zeros (name_at slots s)) same ∙ key in
    unequal c.name_in.result name (sym c.if-eq.ensures) equal in
    sym (found_none slots name (from_other (name_at slots) by_name c.requires name (Some slot) from never))

pub returns-in_err-slot : goal.returns-in_err-slot
returns-in_err-slot c =
    let slots = c.args.vol.now.slots.items in
    let by_name = c.args.vol.now.by_name.items in
    let name = c.args.name.now.bytes in
    let from = from_in slots c.deref.result.now by_name c.deref-2.result.now name None c.deref.ensures.value c.deref-2.ensures.value c.in_err-slot.ensures in
    c.from_residual.ensures ∙ sym (found_none slots name (from_other (name_at slots) by_name c.requires name None from (λ other is key. cc)))
