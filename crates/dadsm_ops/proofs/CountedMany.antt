-- How many extents a data set of a mounted image has: as many as its format 1 counts.
use Rattle.std.proofs.Common.{◌≡◌, ◌≤◌, ℕ, Bool, true, false, cond, List, [], ◌++◌, length, take, Option, Some, None, refl, sym, ap, ◌∙◌, arith, length-take}
use Rattle.std.specs.Prelude.{find, is_some, nat_le}
use Rattle.std.specs.Option.{option_map_or}
use Rattle.std.proofs.lemmas.Bool.{and_parts, ltb-false}
use Rattle.std.proofs.lemmas.Bool.Decides.{nat_tests}
use Rattle.std.proofs.lemmas.List.{length-append}
use Rattle.dscb_codec.specs.declared.F1.{F1}
use Rattle.pack_spec.specs.declared.slot.VtocSlot.{VtocSlot}
use Rattle.pack_spec.specs.Rules.{counted_extents, format_3_of, further_extents, has_extents, is_chained, is_f3, is_led_to}
use Rattle.pack_spec.proofs.AlikeSlots.{IsSetOf}
use Rattle.pack_spec.proofs.AlikeVolumes.{chain_found}
use Rattle.vtoc_index.specs.declared.vol.Vol.{Vol}
use Rattle.vtoc_index.specs.Index.{IsMounted}
use Rattle.free_rebuild.proofs.DecodedSlots.{found_at, slot_decoded, third_of, thirteen_more, three_runs}
use Rattle.slot_laws.proofs.StandingPuts.{slots_by}

-- It has as many extents as its format 1 counts.
pub counted_many : (image : List ℕ) (v : Vol) → IsMounted image v → (f : F1) → IsSetOf (slots_by image v) f → has_extents v.geometry (slots_by image v) f ≡ true → (length (counted_extents (slots_by image v) f) ≡ f.extents) × (f.extents ≤ 16)
unfolding counted_extents has_extents
counted_many image v mounted f set good = by_chain (is_chained f) refl
  where
    slots : List VtocSlot
    slots = slots_by image v

    runs : length f.runs ≡ 3
    runs = three_runs set.1 f (slot_decoded image v.geometry v.vtoc set.0 set.1 set.2) set.3

    most : f.extents ≤ 16
    most = at_most f.extents (and_parts (nat_le f.extents 16) _ good).0
      where
        at_most : (n : ℕ) → nat_le n 16 ≡ true → n ≤ 16
        at_most n e = grind (arith, nat_tests)

    taken : f.extents ≤ length (f.runs ++ option_map_or (λ (s : VtocSlot). further_extents s.content) (format_3_of slots f) []) → (length (take f.extents (f.runs ++ option_map_or (λ (s : VtocSlot). further_extents s.content) (format_3_of slots f) [])) ≡ f.extents) × (f.extents ≤ 16)
    taken there = (omega (arith, there, length-take f.extents (f.runs ++ option_map_or (λ (s : VtocSlot). further_extents s.content) (format_3_of slots f) [])), most)

    by_third : is_chained f ≡ true → (o : Option VtocSlot) → format_3_of slots f ≡ o → is_some o ≡ true → (length (take f.extents (f.runs ++ option_map_or (λ (s : VtocSlot). further_extents s.content) (format_3_of slots f) [])) ≡ f.extents) × (f.extents ≤ 16)
    by_third chained None is some = cc
    by_third chained (Some t) is some =
        let found : find (is_led_to f) slots ≡ Some t = sym (ap (λ (b : Bool). cond b (find (is_led_to f) slots) None) chained) ∙ is in
        let there = found_at (is_led_to f) slots t found in
        let third = third_of t.content (and_parts _ (is_f3 t.content) there.2).1 in
        let more : length (third.0.front ++ third.0.back) ≡ 13 = thirteen_more t third.0 (slot_decoded image v.geometry v.vtoc there.0 t there.1) third.1 in
        let further : option_map_or (λ (s : VtocSlot). further_extents s.content) (format_3_of slots f) [] ≡ third.0.front ++ third.0.back =
        ap (λ (o : Option VtocSlot). option_map_or (λ (s : VtocSlot). further_extents s.content) o []) is ∙ ap further_extents third.1 in
        let whole : length (f.runs ++ option_map_or (λ (s : VtocSlot). further_extents s.content) (format_3_of slots f) []) ≡ 16 =
        ap (λ (l : List (List ℕ)). length (f.runs ++ l)) further ∙ length-append f.runs (third.0.front ++ third.0.back) ∙ omega (arith, runs, more) in
        taken (omega (arith, whole, most))

    by_chain : (b : Bool) → is_chained f ≡ b → (length (take f.extents (f.runs ++ option_map_or (λ (s : VtocSlot). further_extents s.content) (format_3_of slots f) [])) ≡ f.extents) × (f.extents ≤ 16)
    by_chain true chained = by_third chained (format_3_of slots f) refl (chain_found v.geometry slots mounted.lawful f set chained)
    by_chain false flat =
        let few : f.extents ≤ 3 = ltb-false 3 f.extents flat in
        let all = length-append f.runs (option_map_or (λ (s : VtocSlot). further_extents s.content) (format_3_of slots f) []) in
        taken (omega (arith, few, all, runs))
