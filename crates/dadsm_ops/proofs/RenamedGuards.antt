-- Slots of which the format 1 DSCBs of one name get another are guarded and settled as before: a name is in neither the chain of free space nor the counts of format 4.
use Rattle.std.proofs.Common.{◌≡◌, inl, inr, ⊎_elim, ℕ, ◌+◌, Bool, cond, List, [], ◌∷◌, map, drop, Option, Some, None, Result, Ok, Err, refl, sym, ap, ap₂, subst, ◌∙◌}
use Rattle.std.specs.Prelude.{◌||◌, ◌&&◌, not, length, position, replicate, slice_get, unwrap_or, option_and_then}
use Rattle.std.specs.List.{count_by, filter, last_or, list_all}
use Rattle.std.specs.Option.{option_map}
use Rattle.std.proofs.lemmas.List.{drop-map}
use Rattle.std.proofs.lemmas.List.Sums.{sum_by-cons}
use Rattle.dscb_codec.specs.declared.Dscb.{Dscb}
use Rattle.dscb_codec.specs.declared.Dscb.TheVariants as formats
use Rattle.dscb_codec.specs.declared.DscbErr.{DscbErr}
use Rattle.vol_model.specs.declared.contents.Volume.{Volume}
use Rattle.pack_spec.specs.declared.slot.VtocSlot.{VtocSlot}
use Rattle.pack_spec.specs.FreeChain.{HasSpace, IsChain, ListsFree, free_entries, next_free}
use Rattle.pack_spec.specs.Rules.{is_f3, is_f5_or_f0}
use Rattle.pack_spec.specs.Settled.{AreGuarded, AreSettled, head_in, head_of, highest_of, is_f0, is_f1, is_f5, is_used, leads_to}
use Rattle.slot_laws.proofs.KeptSlots.{all_units}
use Rattle.slot_laws.proofs.ChangedLists.{filter-map, list_any-map, position-map, slice_get-map}
use Rattle.dadsm_ops.proofs.RenamedSlots.{f3-renamed, f5-renamed, renamed_content, renamed_slot, same_count, same_pointer}

-- what is in a slot
abbrev Content : Type 0
Content = Result Dscb DscbErr

module _ (old new : List ℕ) where
  abbrev slot : VtocSlot → VtocSlot
  slot s = renamed_slot old new s

  f0-alike : (c : Content) → is_f0 (renamed_content old new c) ≡ is_f0 c
  f0-alike (Ok formats.F0) = refl
  f0-alike (Ok (formats.F1 f)) = refl
  f0-alike (Ok (formats.F3 f)) = refl
  f0-alike (Ok (formats.F4 f)) = refl
  f0-alike (Ok (formats.F5 f)) = refl
  f0-alike (Err e) = refl

  f1-alike : (c : Content) → is_f1 (renamed_content old new c) ≡ is_f1 c
  f1-alike (Ok formats.F0) = refl
  f1-alike (Ok (formats.F1 f)) = refl
  f1-alike (Ok (formats.F3 f)) = refl
  f1-alike (Ok (formats.F4 f)) = refl
  f1-alike (Ok (formats.F5 f)) = refl
  f1-alike (Err e) = refl

  f5-alike : (c : Content) → is_f5 (renamed_content old new c) ≡ is_f5 c
  f5-alike (Ok formats.F0) = refl
  f5-alike (Ok (formats.F1 f)) = refl
  f5-alike (Ok (formats.F3 f)) = refl
  f5-alike (Ok (formats.F4 f)) = refl
  f5-alike (Ok (formats.F5 f)) = refl
  f5-alike (Err e) = refl

  head-alike : (c : Content) → head_in (renamed_content old new c) ≡ head_in c
  head-alike (Ok formats.F0) = refl
  head-alike (Ok (formats.F1 f)) = refl
  head-alike (Ok (formats.F3 f)) = refl
  head-alike (Ok (formats.F4 f)) = refl
  head-alike (Ok (formats.F5 f)) = refl
  head-alike (Err e) = refl

  leads-alike : (c : Content) (s : VtocSlot) → leads_to (renamed_content old new c) (slot s) ≡ leads_to c s
  leads-alike (Ok formats.F0) s = refl
  leads-alike (Ok (formats.F1 f)) s = rw (same_count old new f, same_pointer old new f, f3-renamed old new s.content) refl
  leads-alike (Ok (formats.F3 f)) s = refl
  leads-alike (Ok (formats.F4 f)) s = refl
  leads-alike (Ok (formats.F5 f)) s = refl
  leads-alike (Err e) s = refl

  -- as many slots pass a test that the name says nothing of
  counted : (p : VtocSlot → Bool) → ((s : VtocSlot) → p (slot s) ≡ p s) → (ss : List VtocSlot) → count_by p (map (renamed_slot old new) ss) ≡ count_by p ss
  counted p same [] = refl
  counted p same (s ∷ ss) =
      sum_by-cons (λ (y : VtocSlot). cond (p y) 1 0) (slot s) (map (renamed_slot old new) ss)
      ∙ ap₂ (λ (b : Bool) (n : ℕ). cond b 1 0 + n) (same s) (counted p same ss)
      ∙ sym (sum_by-cons (λ (y : VtocSlot). cond (p y) 1 0) s ss)

  all_pass : (p q : VtocSlot → Bool) → ((s : VtocSlot) → q (slot s) ≡ p s) → (ss : List VtocSlot) → list_all q (map (renamed_slot old new) ss) ≡ list_all p ss
  all_pass p q same [] = refl
  all_pass p q same (s ∷ ss) = ap₂ (λ (a b : Bool). a && b) (same s) (all_pass p q same ss)

  addresses : (ss : List VtocSlot) → map (λ (s : VtocSlot). s.address) (map (renamed_slot old new) ss) ≡ map (λ (s : VtocSlot). s.address) ss
  addresses [] = refl
  addresses (s ∷ ss) = ap (λ (l : List (List ℕ)). s.address ∷ l) (addresses ss)

  module _ (slots : List VtocSlot) where
    -- the format 4
    head_alike : head_of (map (renamed_slot old new) slots) ≡ head_of slots
    head_alike = ap (option_and_then (λ (s : VtocSlot). head_in s.content)) (slice_get-map (renamed_slot old new) slots 0) ∙ by_slot (slice_get slots 0)
      where
        by_slot : (o : Option VtocSlot) → option_and_then (λ (s : VtocSlot). head_in s.content) (option_map (renamed_slot old new) o) ≡ option_and_then (λ (s : VtocSlot). head_in s.content) o
        by_slot None = refl
        by_slot (Some s) = head-alike s.content

    -- the chain of free space
    next_alike : (from : ℕ) → next_free (map (renamed_slot old new) slots) from ≡ next_free slots from
    next_alike from =
        ap (λ (ss : List VtocSlot). option_map (λ i. from + i) (position (λ s. is_f5_or_f0 s.content) ss)) (drop-map (renamed_slot old new) from slots)
        ∙ ap (λ (o : Option ℕ). option_map (λ i. from + i) o) (position-map (λ s. Unit {0}) (renamed_slot old new) (λ s. is_f5_or_f0 s.content) (λ s. is_f5_or_f0 s.content) (λ s any. f5-renamed old new s.content) (drop from slots) (all_units (drop from slots)))

    there : (k : ℕ) (s : VtocSlot) → slice_get slots k ≡ Some s → slice_get (map (renamed_slot old new) slots) k ≡ Some (slot s)
    there k s is = slice_get-map (renamed_slot old new) slots k ∙ ap (option_map (renamed_slot old new)) is

    space_alike : (k : ℕ) (entries : List (List ℕ)) (pointer : List ℕ) → HasSpace slots k entries pointer → HasSpace (map (renamed_slot old new) slots) k entries pointer
    space_alike k entries pointer has = (slot has.0, there k has.0 has.1, (has.2.0, ap (renamed_content old new) has.2.1, has.2.2, has.2.3))

    chain_alike : (k : ℕ) (all : List (List (List ℕ))) → IsChain slots k all → IsChain (map (renamed_slot old new) slots) k all
    chain_alike k [] is = is
    chain_alike k (entries ∷ []) is = space_alike k entries (replicate 5 0) is
    chain_alike k (entries ∷ more ∷ others) is =
        (is.0, slot is.1, next_alike (k + 1) ∙ is.2, there is.0 is.1 is.3, space_alike k entries is.1.address is.4, chain_alike is.0 (more ∷ others) is.5)

    used_alike : (s : VtocSlot) → is_used (map (renamed_slot old new) slots) (slot s) ≡ is_used slots s
    used_alike s = list_any-map (λ (t : VtocSlot). leads_to t.content s) (λ (t : VtocSlot). leads_to t.content (slot s)) (renamed_slot old new) (λ t. leads-alike t.content s) slots

    highest_alike : highest_of (map (renamed_slot old new) slots) ≡ highest_of slots
    highest_alike =
        ap (λ (ss : List VtocSlot). unwrap_or (last_or None (map (λ (s : VtocSlot). s.address) ss)) (replicate 5 0)) (filter-map (λ (s : VtocSlot). is_f1 s.content) (λ (s : VtocSlot). is_f1 s.content) (renamed_slot old new) (λ s. f1-alike s.content) slots)
        ∙ ap (λ (l : List (List ℕ)). unwrap_or (last_or None l) (replicate 5 0)) (addresses (filter (λ (s : VtocSlot). is_f1 s.content) slots))

    module _ (volume after : Volume) (same : free_entries after ≡ free_entries volume) where
      lists_alike : ListsFree slots volume → ListsFree (map (renamed_slot old new) slots) after
      lists_alike is = subst (λ (all : List (List (List ℕ))). IsChain (map (renamed_slot old new) slots) 1 all) (sym same) (chain_alike 1 (free_entries volume) is)

      -- The slots are guarded as before.
      pub guarded_alike : AreGuarded slots volume → AreGuarded (map (renamed_slot old new) slots) after
      guarded_alike guarded = ⊎_elim (λ marked. inl (marked.0, head_alike ∙ marked.1, marked.2)) (λ listed. inr (lists_alike listed)) guarded

      -- The slots are settled as before.
      pub settled_alike : AreSettled slots volume → AreSettled (map (renamed_slot old new) slots) after
      settled_alike is = record {
        head = is.head;
        first = head_alike ∙ is.first;
        bits = is.bits;
        chain = lists_alike is.chain;
        free = is.free ∙ sym (counted (λ s. is_f0 s.content) (λ s. f0-alike s.content) slots);
        highest = is.highest ∙ sym highest_alike;
        used = all_pass (λ s. not (is_f3 s.content) || is_used slots s) (λ s. not (is_f3 s.content) || is_used (map (renamed_slot old new) slots) s) (λ s. ap₂ (λ (a b : Bool). not a || b) (f3-renamed old new s.content) (used_alike s)) slots ∙ is.used;
        alone = counted (λ s. is_f5 s.content) (λ s. f5-alike s.content) slots ∙ is.alone ∙ ap length (sym same);
      }
