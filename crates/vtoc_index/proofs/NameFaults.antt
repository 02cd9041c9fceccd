-- The lowest slot of each name, a slot at a time.
use Rattle.std.proofs.Common.{◌≡◌, ◌⊎◌, inl, inr, ℕ, ◌+◌, ◌<◌, ◌≤◌, Bool, true, false, cond, nat_lt, List, [], ◌∷◌, ◌++◌, length, take, get_or, Option, Some, None, Result, Ok, Err, refl, sym, ap, ◌∙◌, arith, length-append}
use Rattle.std.specs.Prelude.{option_and_then}
use Rattle.std.specs.List.{position, position_or_len}
use Rattle.std.specs.Option.{option_map}
use Rattle.std.specs.Str.{bytes_eq}
use Rattle.std.proofs.lemmas.Bool.Decides.{nat_tests}
use Rattle.std.proofs.lemmas.List.{length-take-le, take_more}
use Rattle.std.proofs.lemmas.List.Folds.{position_or_len_push}
use Rattle.std.proofs.lemmas.List.Sums.{prefix_len-le-length}
use Rattle.std.proofs.lemmas.Slice.Eq.{bytes_eq-Decides}
use lib.Dec.{eqb}
use Rattle.dscb_codec.specs.declared.F1.{F1}
use Rattle.dscb_codec.specs.declared.Dscb.{Dscb}
use Rattle.dscb_codec.specs.declared.DscbErr.{DscbErr}
use Rattle.pack_spec.specs.declared.MountErr.TheVariants.{DuplicateName}
use Rattle.pack_spec.specs.declared.slot.VtocSlot.{VtocSlot}
use Rattle.pack_spec.specs.Rules.{is_named, name_fault, set_in}
use Rattle.dscb_codec.specs.declared.Dscb.TheVariants as formats

-- places in a list with one more element
place-other : (n l m k : ℕ) → n ≤ l → m ≡ cond (eqb n l) (l + 1) n → k ≡ l + 1 → cond (nat_lt m k) (Some m) None ≡ cond (nat_lt n l) (Some n) None
place-other n l m k within is long = grind (arith, nat_tests)

place-first : (n l m k : ℕ) → n ≤ l → m ≡ cond (eqb n l) (l + 0) n → k ≡ l + 1 → cond (nat_lt n l) (Some n) None ≡ None → cond (nat_lt m k) (Some m) None ≡ Some l
place-first n l m k within is long none = grind (arith, nat_tests)

pub position_push-other : {X : Type 0} (p : X → Bool) (xs : List X) (y : X) → p y ≡ false → position p (xs ++ y ∷ []) ≡ position p xs
position_push-other {X = X} p xs y fails =
    place-other (position_or_len p xs) (length xs) (position_or_len p (xs ++ y ∷ [])) (length (xs ++ y ∷ [])) (prefix_len-le-length _ xs)
    (position_or_len_push p xs y ∙ ap (λ (b : Bool). cond (eqb (position_or_len p xs) (length xs)) (length xs + cond b 0 1) (position_or_len p xs)) fails)
    (length-append xs (y ∷ []))

pub position_push-first : {X : Type 0} (p : X → Bool) (xs : List X) (y : X) → position p xs ≡ None → p y ≡ true → position p (xs ++ y ∷ []) ≡ Some (length xs)
position_push-first {X = X} p xs y none passes =
    place-first (position_or_len p xs) (length xs) (position_or_len p (xs ++ y ∷ [])) (length (xs ++ y ∷ [])) (prefix_len-le-length _ xs)
    (position_or_len_push p xs y ∙ ap (λ (b : Bool). cond (eqb (position_or_len p xs) (length xs)) (length xs + cond b 0 1) (position_or_len p xs)) passes)
    (length-append xs (y ∷ [])) none

-- the name of a content that has this name
pub name_of_named : (name : List ℕ) (content : Result Dscb DscbErr) → is_named name content ≡ true → option_map (λ f. f.name) (set_in content) ≡ Some name
name_of_named name (Err e) named = cc
name_of_named name (Ok formats.F0) named = cc
name_of_named name (Ok (formats.F1 f)) named = ap Some ((bytes_eq-Decides f.name name).0 named)
name_of_named name (Ok (formats.F3 f)) named = cc
name_of_named name (Ok (formats.F4 f)) named = cc
name_of_named name (Ok (formats.F5 f)) named = cc

-- and by the name of a content, whether it has another
pub named_by : (key name : List ℕ) (content : Result Dscb DscbErr) → Some key ≡ option_map (λ f. f.name) (set_in content) → is_named name content ≡ bytes_eq key name
named_by key name (Err e) is = cc
named_by key name (Ok formats.F0) is = cc
named_by key name (Ok (formats.F1 f)) is = let same : f.name ≡ key = cc in ap (λ (k : List ℕ). bytes_eq k name) same
named_by key name (Ok (formats.F3 f)) is = cc
named_by key name (Ok (formats.F4 f)) is = cc
named_by key name (Ok (formats.F5 f)) is = cc

-- a test that is true or false
truth : (b : Bool) → (b ≡ true) ⊎ (b ≡ false)
truth true = inl refl
truth false = inr refl

-- the lowest slot of each name, where one more slot has none, or one that is new
pub lowest-more : (lowest : List ℕ → Option ℕ) (xs : List VtocSlot) (i : ℕ) (d : VtocSlot) → i < length xs → ((name : List ℕ) → lowest name ≡ position (λ x. is_named name x.content) (take i xs)) → option_and_then lowest (option_map (λ f. f.name) (set_in (get_or xs i d).content)) ≡ None → (name : List ℕ) → cond (is_named name (get_or xs i d).content) (Some i) (lowest name) ≡ position (λ x. is_named name x.content) (take (i + 1) xs)
lowest-more lowest xs i d below so_far new name =
    let x = get_or xs i d in
    let named = λ (y : VtocSlot). is_named name y.content in
    let more : position named (take (i + 1) xs) ≡ position named (take i xs ++ x ∷ []) = ap (position named) (take_more xs i d below) in
    elim (truth (is_named name x.content)) [
      | inl is ↦
          let none : lowest name ≡ None = ap (option_and_then lowest) (sym (name_of_named name x.content is)) ∙ new in
          let long : length (take i xs) ≡ i = length-take-le i xs (omega arith) in
          ap (λ (b : Bool). cond b (Some i) (lowest name)) is
          ∙ ap Some (sym long)
          ∙ sym (position_push-first named (take i xs) x (sym (so_far name) ∙ none) is)
          ∙ sym more
      | inr not_is ↦
          ap (λ (b : Bool). cond b (Some i) (lowest name)) not_is
          ∙ so_far name
          ∙ sym (position_push-other named (take i xs) x not_is)
          ∙ sym more
    ]

-- the rule on names that a slot breaks, by the lowest slots so far
pub name_fault-is : (lowest : List ℕ → Option ℕ) (xs : List VtocSlot) (i : ℕ) (s : VtocSlot) → ((name : List ℕ) → lowest name ≡ position (λ y. is_named name y.content) (take i xs)) → name_fault xs i s ≡ option_map (DuplicateName i) (option_and_then lowest (option_map (λ f. f.name) (set_in s.content)))
unfolding name_fault
name_fault-is lowest xs i s so_far = by_set (set_in s.content)
  where
    by_set : (o : Option F1) → option_and_then (λ f. option_map (DuplicateName i) (position (λ t. is_named f.name t.content) (take i xs))) o ≡ option_map (DuplicateName i) (option_and_then lowest (option_map (λ f. f.name) o))
    by_set None = refl
    by_set (Some f) = ap (option_map (DuplicateName i)) (sym (so_far f.name))
