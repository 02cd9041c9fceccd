-- The other entries stay in a directory where one is put into it, or goes.
use Rattle.std.proofs.Common.{◌≡◌, ◌<◌, ◌⊎◌, inl, inr, ⊎_elim, not, ℕ, zero, suc, Bool, true, false, cond, List, [], ◌∷◌, length, get_or, filter, ◌∙◌, ap, arith}
use Rattle.std.proofs.lemmas.Cmp.{nat_list_cmp_total}
use Rattle.std.proofs.lemmas.List.Elements.{Contains-append_left, Contains-append_right}
use Rattle.std.proofs.lemmas.Map.Text.{is_eq-slice_cmp}
use Rattle.std.specs.Prelude.{Contains}
use Rattle.std.specs.Cmp.Lexicographic.{slice_cmp}
use Rattle.std.specs.Ordering.{is_eq, is_lt, nat_cmp, ordering_reverse}
use Rattle.std.specs.Str.{bytes_eq}
use Rattle.std.specs.declared.cmp.Ordering.{Ordering}
use Rattle.std.specs.declared.cmp.Ordering.TheVariants.{Less, Equal, Greater}
use Rattle.vol_model.specs.declared.contents.Entry.{Entry}
use Rattle.vol_model.specs.Shelf.{is_entry_before, with_entry}

-- what passes a filter stays
module _ {X : Type 0} (t : X → Bool) where
  first_stays : (x y : X) (b : Bool) (xs : List X) → y ≡ x → b ≡ true → Contains (cond b (y ∷ xs) xs) x
  first_stays x y true xs same on = (0, omega arith, same)
  first_stays x y false xs same on = cc

  rest_stays : (x y : X) (b : Bool) (xs : List X) → Contains xs x → Contains (cond b (y ∷ xs) xs) x
  rest_stays x y true xs among = Contains-append_right (y ∷ []) xs x among
  rest_stays x y false xs among = among

  at_stays : (x : X) (xs : List X) (k : ℕ) → k < length xs → get_or xs k x ≡ x → t x ≡ true → Contains (filter t xs) x
  at_stays x [] k lt at on = absurd (omega arith)
  at_stays x (y ∷ xs) zero lt at on = first_stays x y (t y) (filter t xs) at (ap t at ∙ on)
  at_stays x (y ∷ xs) (suc k) lt at on = rest_stays x y (t y) (filter t xs) (at_stays x xs k (omega arith) at on)

  pub passed_stays : (x : X) (xs : List X) → Contains xs x → t x ≡ true → Contains (filter t xs) x
  passed_stays x xs among on = at_stays x xs among.0 among.1 among.2 on

-- of two entries of other names one stands before the other
either : (o : Ordering) → is_eq o ≡ false → (is_lt o ≡ true) ⊎ (is_lt (ordering_reverse o) ≡ true)
either Less e = inl (λ i. true)
either Equal e = cc
either Greater e = inr (λ i. true)

in_order : (a b : Entry) → bytes_eq a.name.bytes b.name.bytes ≡ false → (is_entry_before a b ≡ true) ⊎ (is_entry_before b a ≡ true)
in_order a b apart =
    let turned = nat_list_cmp_total.antisymm b.name.bytes a.name.bytes in
    ⊎_elim (λ l. inl l) (λ r. inr (ap is_lt turned ∙ r)) (either (slice_cmp nat_cmp a.name.bytes b.name.bytes) (is_eq-slice_cmp a.name.bytes b.name.bytes ∙ apart))

-- an entry stays where one of another name is put in
pub entered_stays : (e x : Entry) (es : List Entry) → Contains es x → bytes_eq x.name.bytes e.name.bytes ≡ false → Contains (with_entry e es) x
entered_stays e x es among apart =
    let below : Entry → Bool = λ y. is_entry_before y e in
    let above : Entry → Bool = λ y. is_entry_before e y in
    ⊎_elim (λ l. Contains-append_left (filter below es) (e ∷ filter above es) x (passed_stays below x es among l))
    (λ r. Contains-append_right (filter below es) (e ∷ filter above es) x (Contains-append_right (e ∷ []) (filter above es) x (passed_stays above x es among r)))
    (in_order x e apart)

-- and where one of another name goes
pub dropped_stays : (name : List ℕ) (x : Entry) (es : List Entry) → Contains es x → bytes_eq x.name.bytes name ≡ false → Contains (filter (λ (e : Entry). not (bytes_eq e.name.bytes name)) es) x
dropped_stays name x es among apart = passed_stays (λ (e : Entry). not (bytes_eq e.name.bytes name)) x es among (ap not apart)
