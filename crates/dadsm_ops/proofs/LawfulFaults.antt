-- A lawful volume breaks no rule as a whole, and neither does the one after a Scratch or an Empty.
use Rattle.std.proofs.Common.{◌≡◌, ℕ, ◌≤◌, Bool, false, cond, List, [], ◌∷◌, ◌++◌, filter, map, nat_le, nat_lt, refl, ap, ap₂, ◌∙◌, arith}
use Rattle.std.specs.Prelude.{Result, Ok}
use Rattle.std.specs.List.{count_by, range_with_len}
use Rattle.std.proofs.lemmas.Bool.Decides.{nat_tests}
use Rattle.ebcdic_names.specs.declared.names.Dsn.{Dsn}
use Rattle.pack_spec.specs.declared.MountErr.{MountErr}
use Rattle.pack_spec.specs.declared.MountErr.TheVariants.{Overlap, VtocFull}
use Rattle.pack_spec.specs.Label.{tracks_of}
use Rattle.pack_spec.specs.Owned.{is_owned_twice, overlap_faults, room_faults, volume_faults}
use Rattle.vol_model.specs.declared.contents.Attr.{Attr}
use Rattle.vol_model.specs.declared.contents.Shelf.{Shelf}
use Rattle.vol_model.specs.declared.contents.Volume.{Volume}
use Rattle.vol_model.specs.declared.refusals.Refusal.{Refusal}
use Rattle.vol_model.specs.Lawful.{IsLawful, IsLawfulVolume, OwnsOnce, owned_runs}
use Rattle.vol_model.specs.Shelf.{empty_on, scratch_on, step, step_on, with_volume}
use Rattle.vol_model.specs.Slots.{slots_needed}
use Rattle.vol_model.specs.Space.{is_in}
use Rattle.shelf_laws.proofs.Emptying.{empty_lawful}
use Rattle.shelf_laws.proofs.Scratching.{scratch_lawful}

not_two : (n : ℕ) → n ≤ 1 → nat_le 2 n ≡ false
not_two n once = grind (arith, nat_tests)

not_less : (n m : ℕ) → m ≤ n → nat_lt n m ≡ false
not_less n m le = grind (arith, nat_tests)

none_twice : (volume : Volume) → OwnsOnce volume → (ts : List ℕ) → map Overlap (filter (is_owned_twice volume) ts) ≡ []
none_twice volume once [] = refl
none_twice volume once (t ∷ ts) =
    ap (λ (b : Bool). map Overlap (cond b (t ∷ filter (is_owned_twice volume) ts) (filter (is_owned_twice volume) ts))) (not_two (count_by (is_in t) (owned_runs volume)) (once t)) ∙ none_twice volume once ts

-- A lawful volume breaks no rule as a whole.
pub lawful_faults : (volume : Volume) → IsLawfulVolume volume → volume_faults volume ≡ []
unfolding volume_faults overlap_faults room_faults
lawful_faults volume is =
    ap₂ (λ (a b : List MountErr). a ++ b)
    (none_twice volume is.owned (range_with_len 0 (tracks_of volume.geometry)))
    (ap (λ (b : Bool). cond b (VtocFull (slots_needed volume) ∷ []) []) (not_less volume.slots (slots_needed volume) is.room))

-- the shelf of one volume
abbrev alone : Volume → Shelf
alone volume = record { volumes = volume ∷ [] }

-- The volume after a Scratch is lawful.
pub scratched_lawful : (dsn : Dsn) (volume after : Volume) → IsLawfulVolume volume → scratch_on dsn volume ≡ Ok after → IsLawfulVolume after
unfolding step step_on
scratched_lawful dsn volume after is done =
    let few : 1 ≤ 256 = omega arith in
    let one : IsLawful (alone volume) = record { few = few; volumes = (is, tt) } in
    let then : IsLawful (alone after) = scratch_lawful (alone volume) (alone after) 0 dsn one (ap (λ (r : Result Volume Refusal). with_volume (alone volume) 0 r) done) in
    then.volumes.0

-- The volume after an Empty is lawful.
pub emptied_lawful : (dsn : Dsn) (attr : Attr) (volume after : Volume) → IsLawfulVolume volume → empty_on dsn attr volume ≡ Ok after → IsLawfulVolume after
unfolding step step_on
emptied_lawful dsn attr volume after is done =
    let few : 1 ≤ 256 = omega arith in
    let one : IsLawful (alone volume) = record { few = few; volumes = (is, tt) } in
    let then : IsLawful (alone after) = empty_lawful (alone volume) (alone after) 0 dsn attr one (ap (λ (r : Result Volume Refusal). with_volume (alone volume) 0 r) done) in
    then.volumes.0
