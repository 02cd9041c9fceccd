-- The theorems on a plan: what is found after any of its first writes.
use Rattle.std.proofs.Common.{◌≡◌, ℕ, ◌<◌, ◌≤◌, List, [], ◌∷◌, ◌++◌, refl, ap, sym, ◌∙◌, arith, ◌⊎◌, ⊎_elim, inl, inr, append-nil, take, drop, length, reverse, Option, Some, subst, length-append}
use Rattle.std.specs.Prelude.{option_map, slice_get}
use Rattle.std.specs.List.{All}
use Rattle.std.proofs.lemmas.Bool.{cases_lt}
use Rattle.chain_spec.proofs.CutLemmas.{total-append}
use Rattle.chain_spec.proofs.NeededLemmas.{needed_is_length}
use Rattle.chain_spec.proofs.StoreLemmas.{length-stored}
use Rattle.chain_spec.specs.Cut.{AllFit, IsCut, IsFull, total}
use Rattle.chain_spec.specs.Kept.{Rises, joined, kept}
use Rattle.chain_spec.specs.Store.{Block, reads, stored}
use Rattle.sorted_chain.proofs.Changed.{StandsFor, changed_mixed, no_more_without}
use Rattle.sorted_chain.proofs.Mixed.{Finds, kept_mixed, no_more_blocks, kept_within}
use Rattle.sorted_chain.proofs.Orders.{backward_all, backward_so_far, forward_all, forward_so_far}
use Rattle.sorted_chain.proofs.Places.{Avoids, backward_writes, backward_fresh, backward_puts, forward_fresh, forward_puts, left_old}
use Rattle.sorted_chain.specs.Cutting.{IsForward, blocks_of, forward_writes}
use Rattle.sorted_chain.specs.Plan.{IsPlan, ChangesOne, after_writes}
use Rattle.sorted_chain.specs.Plan.ChangesOne.{inserted, removed, replaced}

module _ {E : Type 0} (name size : E → ℕ) where
  is_read : (store : List (Option (Block E))) (list : List E) → Finds name size 0 store list → reads name store ≡ Some list
  is_read store list finds = ap (option_map (kept name)) finds.1 ∙ ap Some finds.2

  -- repair: from the first to the last, any blocks that fit, and what is kept of them
  pub repair_is_safe : (room end : ℕ) (old cut : List (List E)) (t : List (Option (Block E))) (k : ℕ) →
      AllFit size room end old → AllFit size room end cut → IsFull size room end cut → kept name (joined old) ≡ joined cut →
      length cut ≤ length (stored old ++ t) →
      reads name (after_writes (length cut) (take k (forward_writes 0 cut)) (stored old ++ t)) ≡ Some (joined cut)
  repair_is_safe room end old cut t k from fits full same room_for =
      let so = forward_so_far (length cut) 0 [] cut (stored old ++ t) k refl (omega arith) room_for in
      ap (reads name) (so.1 ∙ ap (λ st. take (so.0) st ++ drop (so.0) (stored old ++ t)) (sym (append-nil (stored cut)))) ∙ is_read (take (so.0) (stored cut ++ []) ++ drop (so.0) (stored old ++ t)) (joined cut) (kept_mixed name size 0 room end cut old [] t (so.0) fits full from same)

  -- one entry more, or a larger one: from the last to the first
  pub growing_is_safe : (room end : ℕ) (old cut : List (List E)) (t : List (Option (Block E))) (k : ℕ) (a : List E) (x : E) (ys z : List E) →
      StandsFor name size x ys → Rises name (a ++ (x ∷ z)) →
      AllFit size room end old → IsFull size room end old → joined old ≡ a ++ (ys ++ z) →
      AllFit size room end cut → joined cut ≡ a ++ (x ∷ z) →
      length cut ≤ length (stored old ++ t) →
      (reads name (after_writes (length cut) (take k (backward_writes cut)) (stored old ++ t)) ≡ Some (a ++ (ys ++ z))) ⊎ (reads name (after_writes (length cut) (take k (backward_writes cut)) (stored old ++ t)) ≡ Some (a ++ (x ∷ z)))
  growing_is_safe room end old cut t k a x ys z stands rises from full small fits great room_for =
      let so = backward_so_far (length cut) 0 [] cut (stored old ++ t) k refl (omega arith) room_for in
      ⊎_elim (λ h. inl (ap (reads name) so.1 ∙ is_read (take (so.0) (stored old ++ t) ++ drop (so.0) (stored cut ++ drop (length cut) (stored old ++ t))) (a ++ (ys ++ z)) h)) (λ h. inr (ap (reads name) so.1 ∙ is_read (take (so.0) (stored old ++ t) ++ drop (so.0) (stored cut ++ drop (length cut) (stored old ++ t))) (a ++ (x ∷ z)) h))
      (changed_mixed name size room end old cut a x ys z t (drop (length cut) (stored old ++ t)) (so.0) stands rises from full small fits great)

  -- one entry less, or a smaller one: from the first to the last
  pub shrinking_is_safe : (room end : ℕ) (old cut : List (List E)) (t : List (Option (Block E))) (k : ℕ) (a : List E) (x : E) (ys z : List E) →
      StandsFor name size x ys → Rises name (a ++ (x ∷ z)) →
      AllFit size room end old → joined old ≡ a ++ (x ∷ z) →
      AllFit size room end cut → IsFull size room end cut → joined cut ≡ a ++ (ys ++ z) →
      length cut ≤ length (stored old ++ t) →
      (reads name (after_writes (length cut) (take k (forward_writes 0 cut)) (stored old ++ t)) ≡ Some (a ++ (ys ++ z))) ⊎ (reads name (after_writes (length cut) (take k (forward_writes 0 cut)) (stored old ++ t)) ≡ Some (a ++ (x ∷ z)))
  shrinking_is_safe room end old cut t k a x ys z stands rises from great fits full small room_for =
      let so = forward_so_far (length cut) 0 [] cut (stored old ++ t) k refl (omega arith) room_for in
      let here = so.1 ∙ ap (λ st. take (so.0) st ++ drop (so.0) (stored old ++ t)) (sym (append-nil (stored cut))) in
      ⊎_elim (λ h. inl (ap (reads name) here ∙ is_read (take (so.0) (stored cut ++ []) ++ drop (so.0) (stored old ++ t)) (a ++ (ys ++ z)) h)) (λ h. inr (ap (reads name) here ∙ is_read (take (so.0) (stored cut ++ []) ++ drop (so.0) (stored old ++ t)) (a ++ (x ∷ z)) h))
      (changed_mixed name size room end cut old a x ys z [] t (so.0) stands rises fits full small from great)

  -- the writes of a plan: by the totals, from the first to the last, or from the last to the first
  abbrev pub IsOrdered : List (List E) → List E → List (List E) → List (ℕ × List E) → Type 0
  IsOrdered old new cut writes = (total size new ≤ total size (joined old) → writes ≡ forward_writes 0 cut) × (total size (joined old) < total size new → writes ≡ backward_writes cut)

  -- a change of one entry of a packed chain
  pub change_is_safe : (room end : ℕ) (old : List (List E)) (list new : List E) (cut : List (List E)) (writes : List (ℕ × List E)) (t : List (Option (Block E))) (k : ℕ) →
      ((e : E) → 0 < size e) →
      IsCut size room end old list → IsCut size room end cut new → IsOrdered old new cut writes → Rises name list → Rises name new → ChangesOne name list new →
      length cut ≤ length (stored old ++ t) →
      (reads name (after_writes (length cut) (take k writes) (stored old ++ t)) ≡ Some list) ⊎ (reads name (after_writes (length cut) (take k writes) (stored old ++ t)) ≡ Some new)
  change_is_safe room end old list new cut writes t k sizes was is order rises rises_new (inserted a x z from to) room_for =
      let more : total size (joined old) < total size new = omega (arith, ap (total size) was.holds, ap (total size) from, ap (total size) to, total-append size a z, total-append size a (x ∷ z), sizes x) in
      rw (order.1 more, from, to) (growing_is_safe room end old cut t k a x [] z tt (subst (Rises name) to rises_new) was.fits was.full (was.holds ∙ from) is.fits (is.holds ∙ to) room_for)
  change_is_safe room end old list new cut writes t k sizes was is order rises rises_new (removed a x z from to) room_for =
      let less : total size new ≤ total size (joined old) = omega (arith, ap (total size) was.holds, ap (total size) from, ap (total size) to, total-append size a z, total-append size a (x ∷ z), sizes x) in
      rw (order.0 less, from, to) (⊎_elim inr inl (shrinking_is_safe room end old cut t k a x [] z tt (subst (Rises name) from rises) was.fits (was.holds ∙ from) is.fits is.full (is.holds ∙ to) room_for))
  change_is_safe room end old list new cut writes t k sizes was is order rises rises_new (replaced a x y z from to same) room_for = ⊎_elim
      (λ more. rw (order.1 more, from, to) (growing_is_safe room end old cut t k a y (x ∷ []) z (same, omega (arith, more, ap (total size) was.holds, ap (total size) from, ap (total size) to, total-append size a (x ∷ z), total-append size a (y ∷ z))) (subst (Rises name) to rises_new) was.fits was.full (was.holds ∙ from) is.fits (is.holds ∙ to) room_for))
      (λ less. rw (order.0 less, from, to) (⊎_elim inr inl (shrinking_is_safe room end old cut t k a x (y ∷ []) z (sym same, omega (arith, less, ap (total size) was.holds, ap (total size) from, ap (total size) to, total-append size a (x ∷ z), total-append size a (y ∷ z))) (subst (Rises name) from rises) was.fits (was.holds ∙ from) is.fits is.full (is.holds ∙ to) room_for)))
      (cases_lt (total size (joined old)) (total size new))

  -- blocks that each fit, and what is kept of them
  pub packing_is_safe : (room end : ℕ) (old : List (List E)) (new : List E) (cut : List (List E)) (writes : List (ℕ × List E)) (t : List (Option (Block E))) (k : ℕ) →
      AllFit size room end old → new ≡ kept name (joined old) → IsCut size room end cut new → IsOrdered old new cut writes →
      length cut ≤ length (stored old ++ t) →
      reads name (after_writes (length cut) (take k writes) (stored old ++ t)) ≡ Some new
  packing_is_safe room end old new cut writes t k from all is order room_for =
      let less : total size new ≤ total size (joined old) = omega (arith, ap (total size) all, kept_within name size 0 (joined old)) in
      rw (order.0 less) (repair_is_safe room end old cut t k from is.fits is.full (sym all ∙ sym is.holds) room_for ∙ ap Some is.holds)

  -- where the entry goes, or is replaced by one no larger, no block more is needed
  pub change_is_small : (room end : ℕ) (old : List (List E)) (list new : List E) (cut : List (List E)) → ((e : E) → 0 < size e) →
      IsCut size room end old list → IsCut size room end cut new → Rises name list → ChangesOne name list new → total size new ≤ total size list → length cut ≤ length old
  change_is_small room end old list new cut sizes was is rises (inserted a x z from to) less = absurd (omega (arith, less, ap (total size) from, ap (total size) to, total-append size a z, total-append size a (x ∷ z), sizes x))
  change_is_small room end old list new cut sizes was is rises (removed a x z from to) less = no_more_without name size room end cut old a x [] z tt (subst (Rises name) from rises) is.fits is.full (is.holds ∙ to) was.fits (was.holds ∙ from)
  change_is_small room end old list new cut sizes was is rises (replaced a x y z from to same) less = no_more_without name size room end cut old a x (y ∷ []) z (sym same, omega (arith, less, ap (total size) from, ap (total size) to, total-append size a (x ∷ z), total-append size a (y ∷ z))) (subst (Rises name) from rises) is.fits is.full (is.holds ∙ to) was.fits (was.holds ∙ from)

  kept_is_small : (room end : ℕ) (old : List (List E)) (new : List E) (cut : List (List E)) → AllFit size room end old → new ≡ kept name (joined old) → IsCut size room end cut new → length cut ≤ length old
  kept_is_small room end old new cut fits from is = no_more_blocks name size 0 room end cut old is.fits is.full fits (sym from ∙ sym is.holds)

  -- the writes of a cut in either order are a plan
  planned : (room end : ℕ) (old : List (List E)) (new : List E) (cut : List (List E)) (writes : List (ℕ × List E)) → ((e : E) → 0 < size e) → IsCut size room end cut new → IsOrdered old new cut writes →
      All (λ (w : ℕ × List E). slice_get cut w.0 ≡ Some w.1) writes →
      ((store : List (Option (Block E))) → length cut ≤ length store → after_writes (length cut) writes store ≡ stored cut ++ drop (length cut) store) →
      ((before : List (ℕ × List E)) (w : ℕ × List E) (later : List (ℕ × List E)) → writes ≡ before ++ (w ∷ later) → Avoids w.0 before) → IsPlan name size room end old new (length cut) writes
  planned room end old new cut writes sizes is order puts all fresh = record {
    cut = cut;
    is_cut = is;
    number = refl;
    count = sym (needed_is_length size room end cut new is);
    places = puts;
    packs = all;
    survives = λ list was rises rises_new change behind room_for k. change_is_safe room end old list new cut writes behind k sizes was is order rises rises_new change room_for;
    shrinks = λ list was rises change less. change_is_small room end old list new cut sizes was is rises change less;
    repairs = λ fits from. (kept_is_small room end old new cut fits from is, λ behind k. packing_is_safe room end old new cut writes behind k fits from is order (omega (arith, kept_is_small room end old new cut fits from is, length-append (stored old) behind, length-stored old)));
    unchanged = λ before w later same as_was last behind. left_old (length cut) before w old behind (fresh before w later same) as_was last;
  }

  pub planned_forward : (room end : ℕ) (old : List (List E)) (new : List E) (writes : List (ℕ × List E)) → ((e : E) → 0 < size e) → IsForward size room end new writes → total size new ≤ total size (joined old) → IsPlan name size room end old new (length (blocks_of writes)) writes
  planned_forward room end old new writes sizes is less = planned room end old new (blocks_of writes) writes sizes is.cut
      ((λ h. is.ordered), (λ h. absurd (omega (arith, h, less))))
      (subst (All (λ (w : ℕ × List E). slice_get (blocks_of writes) w.0 ≡ Some w.1)) (sym is.ordered) (forward_puts (blocks_of writes)))
      (λ store h. ap (λ ws. after_writes (length (blocks_of writes)) ws store) is.ordered ∙ forward_all (length (blocks_of writes)) 0 [] (blocks_of writes) store refl (omega arith) h)
      (λ before w later same. forward_fresh 0 (blocks_of writes) before w later (sym is.ordered ∙ same))

  pub planned_backward : (room end : ℕ) (old : List (List E)) (new : List E) (writes : List (ℕ × List E)) → ((e : E) → 0 < size e) → IsForward size room end new writes → total size (joined old) < total size new → IsPlan name size room end old new (length (blocks_of writes)) (reverse writes)
  planned_backward room end old new writes sizes is more = planned room end old new (blocks_of writes) (reverse writes) sizes is.cut
      ((λ h. absurd (omega (arith, h, more))), (λ h. ap reverse is.ordered))
      (subst (All (λ (w : ℕ × List E). slice_get (blocks_of writes) w.0 ≡ Some w.1)) (sym (ap reverse is.ordered)) (backward_puts (blocks_of writes)))
      (λ store h. ap (λ ws. after_writes (length (blocks_of writes)) (reverse ws) store) is.ordered ∙ backward_all (length (blocks_of writes)) 0 [] (blocks_of writes) store refl (omega arith) h)
      (λ before w later same. backward_fresh (blocks_of writes) before w later (sym (ap reverse is.ordered) ∙ same))
