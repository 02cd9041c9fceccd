-- The extents that the format 1 of a data set counts once its DSCBs hold the added ones.
use Rattle.std.proofs.Common.{◌≡◌, ◌+◌, ◌≤◌, ◌<◌, ℕ, Bool, true, false, cond, List, [], ◌++◌, length, take, Option, Some, None, Ok, refl, sym, ap, ◌∙◌, arith, length-append}
use Rattle.std.specs.Prelude.{find, nat_lt}
use Rattle.std.specs.Option.{option_map_or}
use Rattle.std.proofs.lemmas.Bool.Decides.{nat_tests}
use Rattle.std.proofs.lemmas.List.{take-append-le}
use Rattle.ckd_image.specs.declared.header.Geometry.{Geometry}
use Rattle.dscb_codec.specs.declared.Dscb.TheVariants as formats
use Rattle.dscb_codec.specs.declared.F1.{F1}
use Rattle.dscb_codec.specs.declared.F3.{F3}
use Rattle.pack_spec.specs.declared.slot.VtocSlot.{VtocSlot}
use Rattle.pack_spec.specs.Rules.{counted_extents, format_3_of, further_extents, is_chained, is_led_to}
use Rattle.vol_model.specs.declared.contents.Run.{Run}
use Rattle.dadsm_ops.specs.Extending.{added_extents, added_fields, f1_with, f3_with}
use Rattle.dadsm_ops.proofs.AddedFields.{behind_own, fields_append, fields_taken}

less : (a b : ℕ) → a < b → nat_lt a b ≡ true
less a b l = grind (arith, nat_tests)

not_less : (a b : ℕ) → b ≤ a → nat_lt a b ≡ false
not_less a b l = grind (arith, nat_tests)

-- the name stays
pub after_name : (g : Geometry) (kind : ℕ) (f : F1) (runs : List Run) (pointer : List ℕ) → (f1_with g kind runs pointer f).name ≡ f.name
unfolding f1_with
after_name g kind f runs pointer = refl

module _ (g : Geometry) (kind : ℕ) (f : F1) (runs : List Run) (pointer : List ℕ) (three : length f.runs ≡ 3) where
  abbrev count : ℕ
  count = f.extents

  abbrev after : F1
  after = f1_with g kind runs pointer f

  -- where its pointer counts
  pub after_chained : is_chained after ≡ nat_lt 3 (f.extents + length runs)
  unfolding f1_with
  after_chained = refl

  pub after_pointer : after.pointer ≡ pointer
  unfolding f1_with
  after_pointer = refl

  -- the extents by the rows after its own
  rows_counted : (own rows : List (List ℕ)) → take count (f.runs ++ own) ≡ take count (f.runs ++ rows) → count + length runs ≤ 3 + length rows
      → take (count + length runs) (added_fields g kind count runs 0 f.runs ++ added_fields g kind count runs 3 rows) ≡ take count (f.runs ++ own) ++ added_extents g kind count runs
  rows_counted own rows same fits =
      let number : 0 + length f.runs ≡ 3 = omega (arith, three) in
      let all : added_fields g kind count runs 0 f.runs ++ added_fields g kind count runs 3 rows ≡ added_fields g kind count runs 0 (f.runs ++ rows) =
      ap (λ (n : ℕ). added_fields g kind count runs 0 f.runs ++ added_fields g kind count runs n rows) (sym number) ∙ sym (fields_append g kind count runs 0 f.runs rows) in
      ap (take (count + length runs)) all
      ∙ fields_taken g kind count runs count 0 (f.runs ++ rows) (omega arith) (omega (arith, fits, length-append f.runs rows, three))
      ∙ ap (λ (l : List (List ℕ)). l ++ added_extents g kind count runs) (sym same)

  counted_by : (slots : List VtocSlot) (rows : List (List ℕ)) → option_map_or (λ (s : VtocSlot). further_extents s.content) (format_3_of slots after) [] ≡ added_fields g kind count runs 3 rows
      → take count (f.runs ++ option_map_or (λ (s : VtocSlot). further_extents s.content) (format_3_of slots f) []) ≡ take count (f.runs ++ rows) → count + length runs ≤ 3 + length rows
      → counted_extents slots after ≡ counted_extents slots f ++ added_extents g kind count runs
  unfolding counted_extents f1_with
  counted_by slots rows further same fits =
      ap (λ (l : List (List ℕ)). take (count + length runs) (added_fields g kind count runs 0 f.runs ++ l)) further
      ∙ rows_counted (option_map_or (λ (s : VtocSlot). further_extents s.content) (format_3_of slots f) []) rows same fits

  -- not more than three extents
  pub counted_own : (slots : List VtocSlot) → f.extents + length runs ≤ 3 → counted_extents slots after ≡ counted_extents slots f ++ added_extents g kind f.extents runs
  unfolding f1_with
  counted_own slots few =
      let new : is_chained after ≡ false = not_less 3 (f.extents + length runs) few in
      let old : is_chained f ≡ false = not_less 3 f.extents (omega (arith, few)) in
      counted_by slots []
      (ap (λ (b : Bool). option_map_or (λ (s : VtocSlot). further_extents s.content) (cond b (find (is_led_to after) slots) None) []) new)
      (ap (λ (b : Bool). take count (f.runs ++ option_map_or (λ (s : VtocSlot). further_extents s.content) (cond b (find (is_led_to f) slots) None) [])) old)
      (omega (arith, few))

  module _ (slots : List VtocSlot) (s : VtocSlot) (h : F3) (front : length h.front ≡ 4) (back : length h.back ≡ 9) (held : s.content ≡ Ok (formats.F3 (f3_with g kind f.extents runs h))) (most : f.extents + length runs ≤ 16) (found : format_3_of slots after ≡ Some s) where
    abbrev rows : List (List ℕ)
    rows = h.front ++ h.back

    f3_rows : (f3_with g kind f.extents runs h).front ++ (f3_with g kind f.extents runs h).back ≡ added_fields g kind f.extents runs 3 (h.front ++ h.back)
    unfolding f3_with
    f3_rows =
        let number : 3 + length h.front ≡ 7 = omega (arith, front) in
        ap (λ (n : ℕ). added_fields g kind count runs 3 h.front ++ added_fields g kind count runs n h.back) (sym number) ∙ sym (fields_append g kind count runs 3 h.front h.back)

    further : option_map_or (λ (t : VtocSlot). further_extents t.content) (format_3_of slots after) [] ≡ added_fields g kind count runs 3 rows
    further = ap (λ (o : Option VtocSlot). option_map_or (λ (t : VtocSlot). further_extents t.content) o []) found ∙ ap further_extents held ∙ f3_rows

    fits : f.extents + length runs ≤ 3 + length rows
    fits = omega (arith, most, length-append h.front h.back, front, back)

    -- a format 3 besides
    pub counted_new_third : f.extents ≤ 3 → counted_extents slots after ≡ counted_extents slots f ++ added_extents g kind f.extents runs
    counted_new_third few =
        let old : is_chained f ≡ false = not_less 3 f.extents few in
        counted_by slots rows further
        (ap (λ (b : Bool). take count (f.runs ++ option_map_or (λ (t : VtocSlot). further_extents t.content) (cond b (find (is_led_to f) slots) None) [])) old
        ∙ take-append-le count f.runs [] (omega (arith, few, three)) ∙ sym (take-append-le count f.runs rows (omega (arith, few, three))))
        fits

    -- or the one that the set had
    pub counted_own_third : format_3_of slots f ≡ Some s → counted_extents slots after ≡ counted_extents slots f ++ added_extents g kind f.extents runs
    counted_own_third led =
        counted_by slots rows further
        (ap (λ (o : Option VtocSlot). take count (f.runs ++ option_map_or (λ (t : VtocSlot). further_extents t.content) o [])) led
        ∙ ap (λ c. take count (f.runs ++ further_extents c)) held ∙ ap (λ (l : List (List ℕ)). take count (f.runs ++ l)) f3_rows ∙ low_rows)
        fits
      where
        low_rows : take f.extents (f.runs ++ added_fields g kind f.extents runs 3 (h.front ++ h.back)) ≡ take f.extents (f.runs ++ (h.front ++ h.back))
        low_rows =
            let number : 3 ≡ 0 + length f.runs = omega (arith, three) in
            ap (λ (n : ℕ). take f.extents (f.runs ++ added_fields g kind f.extents runs n (h.front ++ h.back))) number
            ∙ behind_own g kind f.extents runs f.extents 0 f.runs (h.front ++ h.back) (omega arith)
