-- Over any operations from a lawful shelf, members stay whole.
use Rattle.std.proofs.Common.{◌≡◌, ◌⊎◌, inl, inr, ⊎_elim, List, [], ◌∷◌, ◌++◌, refl, ◌∙◌, subst, append_assoc}
use Rattle.std.specs.Prelude.{Result, Ok, Err, IsOk, is_ok, if◌then◌else◌}
use Rattle.vol_model.specs.declared.contents.Shelf.{Shelf}
use Rattle.vol_model.specs.declared.refusals.Refusal.{Refusal}
use Rattle.vol_model.specs.declared.requests.Op.{Op}
use Rattle.vol_model.specs.Events.{after_operations, behind}
use Rattle.vol_model.specs.Lawful.{IsLawful}
use Rattle.vol_model.specs.Shelf.{step}
use Rattle.member_laws.specs.Members.{HasMember, IsTaken, KeepsMembers, Removes, SetMember, StaysWhole, TakesAway, member_after, member_behind, renamed_by}
use Rattle.member_laws.proofs.EachStep.{each_keeps}
use Rattle.member_laws.proofs.Ordered.{IsOrdered, shelf_ordered}
use Rattle.member_laws.proofs.StaysOrdered.{shelf_stays}

-- an operation takes a member away or keeps it, also where it is refused
one_keeps : (s : Shelf) (op : Op) → IsOrdered s → (m : SetMember) → HasMember s m → TakesAway s op m ⊎ HasMember (behind s (step s op)) (member_behind s op m)
one_keeps s op h m held = by_result (step s op) refl
  where
    by_result : (r : Result Shelf Refusal) → step s op ≡ r → (IsOk r × Removes op m) ⊎ HasMember (behind s r) (if is_ok r then renamed_by op m else m)
    by_result (Ok t) done = ⊎_elim (λ gone. inl (refl, gone)) (λ stays. inr stays) (each_keeps s t op h done m held)
    by_result (Err r) done = inr held

still_ordered : (s : Shelf) (op : Op) → IsOrdered s → IsOrdered (behind s (step s op))
still_ordered s op h = by_result (step s op) refl
  where
    by_result : (r : Result Shelf Refusal) → step s op ≡ r → IsOrdered (behind s r)
    by_result (Ok t) done = shelf_stays s t op h done
    by_result (Err r) done = h

-- each operation does
all_kept : (ops : List Op) (s : Shelf) → IsOrdered s → KeepsMembers s ops
unfolding KeepsMembers
all_kept [] s h = tt
all_kept (op ∷ ops) s h = (one_keeps s op h, all_kept ops (behind s (step s op)) (still_ordered s op h))

pub members_kept : (ops : List Op) (s : Shelf) → IsLawful s → KeepsMembers s ops
members_kept ops s lawful = all_kept ops s (shelf_ordered s lawful)

-- more operations after the first
behind_first : (first more : List Op) (s : Shelf) → KeepsMembers s (first ++ more) → KeepsMembers (after_operations s first) more
unfolding KeepsMembers
behind_first [] more s keeps = keeps
behind_first (op ∷ first) more s keeps = behind_first first more (behind s (step s op)) keeps.1

-- over more operations a member is taken away at one of them, or stays
over_more : (more rest : List Op) (s : Shelf) (m : SetMember) → KeepsMembers s (more ++ rest) → HasMember s m → IsTaken s more m ⊎ HasMember (after_operations s more) (member_after s more m)
unfolding KeepsMembers
over_more [] rest s m keeps held = inr held
over_more (op ∷ more) rest s m keeps held =
    ⊎_elim (λ gone. inl (inl gone))
    (λ stays. ⊎_elim (λ later. inl (inr later)) (λ still. inr still) (over_more more rest (behind s (step s op)) (member_behind s op m) keeps.1 stays))
    (keeps.0 m held)

-- they stay whole on a shelf that is ordered, and so on a lawful one
pub kept_whole : (ops : List Op) (s : Shelf) → IsOrdered s → StaysWhole s ops
unfolding StaysWhole
kept_whole ops s h first more rest m is held =
    let keeps : KeepsMembers s (first ++ (more ++ rest)) = subst (KeepsMembers s) (is ∙ append_assoc first more rest) (all_kept ops s h) in
    over_more more rest (after_operations s first) m (behind_first first (more ++ rest) s keeps) held

pub stays_whole : (ops : List Op) (s : Shelf) → IsLawful s → StaysWhole s ops
stays_whole ops s lawful = kept_whole ops s (shelf_ordered s lawful)
