-- The records of the track on which a directory ends, read up to the end: the first of all that are read there.
use Rattle.std.proofs.Common.{◌≡◌, refl, ◌⊎◌, ◌≤◌, ℕ, zero, suc, Bool, true, false, cond, List, [], ◌∷◌, length, take, Option, Some, None, inl, inr, sym, ap, ◌∙◌, arith}
use Rattle.std.specs.Prelude.{◌==◌}
use Rattle.std.specs.Option.{option_map}
use Rattle.std.proofs.lemmas.Bool.Decides.{eqb_tells}
use Rattle.ckd_image.specs.declared.header.Geometry.{Geometry}
use Rattle.ckd_image.specs.Track.{Record}
use Rattle.pack_spec.specs.Blocks.{records_in}
use Rattle.pack_spec.proofs.FrontRecords.{count_in, first_of_all, first_of_some, first_records, first_taken}
use Rattle.pack_spec.proofs.PartBodies.{IsPast, IsRead}
use Rattle.vol_model.specs.declared.contents.Place.{Place}

pub few_first : (n : ℕ) (xs ys : List Record) → first_records n xs ≡ Some ys → n ≤ length xs
few_first zero xs ys is = omega arith
few_first (suc n) [] ys is = cc
few_first (suc n) (x ∷ xs) ys is = by (first_records n xs) (λ zs some. few_first n xs zs some) is
  where
    by : (o : Option (List Record)) → ((zs : List Record) → o ≡ Some zs → n ≤ length xs) → option_map (λ (zs : List Record). x ∷ zs) o ≡ Some ys → suc n ≤ length (x ∷ xs)
    by None rest e = cc
    by (Some zs) rest e = omega (arith, rest zs refl)

pub end_first : (g : Geometry) (tracks : List (List ℕ)) (owned : List ℕ) (end to : Place) → IsPast end to → (read : IsRead g tracks owned end to end.tt) → (ys : List Record) → records_in g tracks (Some end.r) read.track ≡ Some ys → (end.r ≤ length read.xs) × (ys ≡ take end.r read.xs)
end_first g tracks owned end to past read ys some = by (eqb_tells end.tt to.tt)
  where
    by : (((end.tt == to.tt) ≡ true) × (end.tt ≡ to.tt)) ⊎ (((end.tt == to.tt) ≡ false) × (end.tt ≡ to.tt → ⊥)) → (end.r ≤ length read.xs) × (ys ≡ take end.r read.xs)
    by (inl w) =
        let upto : records_in g tracks (Some to.r) read.track ≡ Some read.xs = ap (λ (b : Bool). records_in g tracks (cond b (Some to.r) None) read.track) (sym w.0) ∙ read.records in
        let both : Some ys ≡ Some (take end.r read.xs) = sym some ∙ first_of_some g tracks read.track read.xs end.r to.r (past.place w.1) upto in
        (omega (arith, count_in g tracks read.track read.xs to.r upto, past.place w.1), cc)
    by (inr w) =
        let whole : records_in g tracks None read.track ≡ Some read.xs = ap (λ (b : Bool). records_in g tracks (cond b (Some to.r) None) read.track) (sym w.0) ∙ read.records in
        let first : first_records end.r read.xs ≡ Some ys = sym (first_of_all g tracks read.track read.xs end.r whole) ∙ some in
        let low = few_first end.r read.xs ys first in
        let both : Some ys ≡ Some (take end.r read.xs) = sym first ∙ first_taken end.r read.xs low in
        (low, cc)
