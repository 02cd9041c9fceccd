-- The label among the records that a buffer holds.
use Rattle.std.proofs.Common.{◌≡◌, ◌≢◌, ℕ, Bool, true, false, cond, List, [], ◌∷◌, length, Option, Some, None, refl, ap, ◌∙◌, arith}
use Rattle.std.specs.Prelude.{unwrap_or}
use Rattle.std.specs.Option.{option_map}
use Rattle.ckd_image.specs.Track.{Record}
use Rattle.pack_spec.specs.Label.{label_in, are_label}
use Rattle.vtoc_index.specs.Reading.{record_number}

-- a part of a record that is there
pub key_there : (o : Option Record) (d : Record) (bytes : List ℕ) → option_map (λ x. x.key) o ≡ Some bytes → (unwrap_or o d).key ≡ bytes
key_there None d bytes is = cc
key_there (Some x) d bytes is = cc

pub data_there : (o : Option Record) (d : Record) (bytes : List ℕ) → option_map (λ x. x.data) o ≡ Some bytes → (unwrap_or o d).data ≡ bytes
data_there None d bytes is = cc
data_there (Some x) d bytes is = cc

-- three records are the label's or not
pub label_in-three : (xs : List Record) → length xs ≡ 3 → label_in xs ≡ cond (are_label (record_number xs 0) (record_number xs 1) (record_number xs 2)) (Some (record_number xs 2).data) None
unfolding label_in
label_in-three [] e = absurd (omega arith)
label_in-three (x ∷ []) e = absurd (omega arith)
label_in-three (x ∷ y ∷ []) e = absurd (omega arith)
label_in-three (x ∷ y ∷ z ∷ []) e = refl
label_in-three (x ∷ y ∷ z ∷ w ∷ ws) e = absurd (omega arith)

chosen : {A : Type 0} (b c : Bool) (u v : A) → b ≡ c → cond b u v ≡ cond c u v
chosen b c u v is = ap (λ x. cond x u v) is

pub label_found : (xs : List Record) (content : List ℕ) → length xs ≡ 3 → are_label (record_number xs 0) (record_number xs 1) (record_number xs 2) ≡ true → (record_number xs 2).data ≡ content → label_in xs ≡ Some content
label_found xs content three are is = label_in-three xs three ∙ chosen _ true _ _ are ∙ ap (λ (b : List ℕ). Some b) is

pub label_not : (xs : List Record) → length xs ≡ 3 → are_label (record_number xs 0) (record_number xs 1) (record_number xs 2) ≡ false → label_in xs ≡ None
label_not xs three are = label_in-three xs three ∙ chosen _ false _ _ are

-- fewer or more have none
pub label_in-other : (xs : List Record) → length xs ≢ 3 → label_in xs ≡ None
unfolding label_in
label_in-other [] n = refl
label_in-other (x ∷ []) n = refl
label_in-other (x ∷ y ∷ []) n = refl
label_in-other (x ∷ y ∷ z ∷ []) n = absurd (n refl)
label_in-other (x ∷ y ∷ z ∷ w ∷ ws) n = refl
