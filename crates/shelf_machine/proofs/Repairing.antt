-- The repair of several packs, one after another.
use Rattle.std.proofs.Common.{◌≡◌, ◌≢◌, ◌≤◌, ◌+◌, ⊎_elim, inr, ℕ, List, [], Option, Some, refl, sym, ap, subst, ◌∙◌, arith}
use Rattle.std.specs.Prelude.{Result, slice_get, unwrap_or}
use Rattle.std.proofs.lemmas.Bool.{cases_eq}
use Rattle.free_rebuild.specs.Repairs.{image_named}
use Rattle.mount_repair.specs.Repairs.{RepairsPack, StaysVolume}
use Rattle.mount_repair.specs.declared.scanned.Scan.{Scan}
use Rattle.stop_model.specs.Files.{File}
use Rattle.stop_model.specs.Moments.{Meaning}
use Rattle.stop_model.proofs.MomentLemmas.{elapses_none, elapses_then, elapses_weaker}
use Rattle.vol_model.specs.declared.contents.Volume.{Volume}
use Rattle.shelf_machine.specs.Opening.{AreApart, AreSafe, IsSafeImage, OpensSafely, images_named}
use Rattle.pack_machine.proofs.ListPlaces.{set_itself}
use Rattle.shelf_machine.proofs.Promises.{not_among, one_text}
use Rattle.shelf_machine.proofs.ShelfLemmas.{AllStand, one_set, serials_in, shelf_there}
use Rattle.shelf_machine.proofs.ShelfSteps.{another, volume_here}

-- What stops left since repairs began that have come to the pack of this number: images of the same volumes, safe; and the packs from this on are as they were.
pub record Repaired (names : List (List ℕ)) (volumes : List Volume) (k : ℕ) (old now : Meaning (List File)) : Type 0 where
  pub all : AllStand (images_named now.state names) volumes
  pub safe : AreSafe names volumes old.state now.state
  pub untouched : (j : ℕ) (name : List ℕ) → k ≤ j → slice_get names j ≡ Some name → image_named now.state name ≡ image_named old.state name
  pub opens : OpensSafely names (record { volumes = volumes }) old now

-- files as they are, are safe
pub safe_same : (names : List (List ℕ)) (volumes : List Volume) (files : List File) → AreSafe names volumes files files
safe_same names volumes files = record {
  images = λ k name w at is. record { guarded = inr (λ track in_vtoc. refl) };
  others = λ other none. refl;
}

pub repaired_none : (names : List (List ℕ)) (volumes : List Volume) (m : Meaning (List File)) → AllStand (images_named m.state names) volumes → Repaired names volumes 0 m m
repaired_none names volumes m all = record {
  all = all;
  safe = safe_same names volumes m.state;
  untouched = λ j name low at. refl;
  opens = record { printed = refl; moments = elapses_none m _ };
}

module _ (names : List (List ℕ)) (volumes : List Volume) (apart : AreApart names) (serials : AreApart (serials_in volumes)) (k : ℕ) (name : List ℕ) (at : slice_get names k ≡ Some name)
    (old now : Meaning (List File)) (so_far : Repaired names volumes k old now) where
  -- what a stop in the next repair leaves
  at_stop : (w : Volume) (files : List File) → slice_get volumes k ≡ Some w → StaysVolume name w now.state files → AllStand (images_named files names) volumes × AreSafe names volumes old.state files
  at_stop w files here stop = (
    subst (AllStand (images_named files names)) (set_itself volumes k w here) (one_set names now.state files volumes k name w so_far.all at other_images stop.stands),
    record {
      images = λ j other u there is. ⊎_elim (λ same. changed j other u there is same) (λ differs. stayed j other u there is differs) (cases_eq j k);
      others = λ other none. stop.others other (not_among names k name other at none) ∙ so_far.safe.others other none;
    },
  )
    where
      other_images : (j : ℕ) (other : List ℕ) → slice_get names j ≡ Some other → j ≢ k → image_named files other ≡ image_named now.state other
      other_images j other there differs = ap (λ (o : Option (List ℕ)). unwrap_or o []) (stop.others other (λ same. differs (apart j k name (there ∙ ap (λ (n : List ℕ). Some n) same) at)))

      was : image_named now.state name ≡ image_named old.state name
      was = so_far.untouched k name (omega arith) at

      some_same : {a b : Volume} → Some a ≡ Some b → a ≡ b
      some_same same = cc

      now_safe : IsSafeImage w (image_named old.state name) (image_named files name)
      now_safe = subst (λ (i : List ℕ). IsSafeImage w i (image_named files name)) was (record { guarded = stop.guarded })

      changed : (j : ℕ) (other : List ℕ) (u : Volume) → slice_get names j ≡ Some other → slice_get volumes j ≡ Some u → j ≡ k → IsSafeImage u (image_named old.state other) (image_named files other)
      changed j other u there is same =
          let this : name ≡ other = one_text names k at (ap (slice_get names) (sym same) ∙ there) in
          let volume : w ≡ u = some_same (sym here ∙ ap (slice_get volumes) (sym same) ∙ is) in
          subst (λ (x : Volume). IsSafeImage x (image_named old.state other) (image_named files other)) volume
          (subst (λ (n : List ℕ). IsSafeImage w (image_named old.state n) (image_named files n)) this now_safe)

      stayed : (j : ℕ) (other : List ℕ) (u : Volume) → slice_get names j ≡ Some other → slice_get volumes j ≡ Some u → (j ≡ k → ⊥) → IsSafeImage u (image_named old.state other) (image_named files other)
      stayed j other u there is differs =
          subst (λ (i : List ℕ). IsSafeImage u (image_named old.state other) i) (sym (other_images j other there differs)) (so_far.safe.images j other u there is)

  module _ {E : Type 0} (new : Meaning (List File)) (r : Result Scan E) (run : RepairsPack name now new r) where
    here : slice_get volumes k ≡ Some run.volume
    here = volume_here names volumes now.state so_far.all apart serials k name at run.volume run.before

    -- so the repairs left that, done or failed
    pub opens_more : OpensSafely names (record { volumes = volumes }) old new
    opens_more = record {
      printed = run.printed ∙ so_far.opens.printed;
      moments = elapses_then so_far.opens.moments (elapses_weaker run.moments (λ files p stop. (
        shelf_there (images_named files names) volumes (at_stop run.volume files here stop.0).0 serials,
        ((at_stop run.volume files here stop.0).1, stop.1 ∙ so_far.opens.printed),
      )));
    }

    -- and where it is done they have come to the next
    pub repaired_more : StaysVolume name run.volume now.state new.state → Repaired names volumes (k + 1) old new
    repaired_more safe = record {
      all = (at_stop run.volume new.state here safe).0;
      safe = (at_stop run.volume new.state here safe).1;
      untouched = λ j other low there.
          let differs : j ≢ k = λ same. omega (arith, low, same) in
          ap (λ (o : Option (List ℕ)). unwrap_or o []) (safe.others other (another names volumes now.state so_far.all apart serials k name at j other there differs))
          ∙ so_far.untouched j other (omega (arith, low)) there;
      opens = opens_more;
    }
