-- A data set removed from a pack.
use Rattle.std.proofs.Common.{◌≡◌, ◌∙◌, ℕ, List, [], ◌∷◌, Option, Some, None, refl, sym, ap}
use Rattle.std.specs.Prelude.{Result, Ok, Err, filter, if◌then◌else◌, not, option_and_then}
use Rattle.std.specs.Option.{option_map}
use Rattle.dscb_codec.specs.declared.Dscb.{Dscb}
use Rattle.dadsm_ops.specs.Operations.{DoesOperation, Operates}
use Rattle.dadsm_ops.proofs.FoundSets.{set_found}
use Rattle.ebcdic_names.specs.declared.names.Dsn.{Dsn}
use Rattle.free_rebuild.specs.Repairs.{image_named}
use Rattle.pack_spec.specs.Rules.{set_in}
use Rattle.pack_spec.specs.Volume.{volume_of}
use Rattle.stop_model.specs.Files.{File}
use Rattle.stop_model.specs.Moments.{Meaning}
use Rattle.stop_model.proofs.MomentLemmas.{CountsNow, elapses_none, same_none}
use Rattle.vol_model.specs.Shelf.{has_name, is_catalog, on_found, scratch_on}
use Rattle.vol_model.specs.declared.answers.StoreErr.{StoreErr}
use Rattle.vol_model.specs.declared.answers.StoreErr.TheVariants as store
use Rattle.pack_machine.specs.Refusals.{IsRefusedBy}
use Rattle.vol_model.specs.declared.contents.DataSet.{DataSet}
use Rattle.vol_model.specs.declared.contents.Shelf.{Shelf}
use Rattle.vol_model.specs.declared.contents.Volume.{Volume}
use Rattle.vol_model.specs.declared.refusals.Refusal.{Refusal}
use Rattle.vol_model.specs.declared.refusals.Refusal.TheVariants.{NoSet}
use Rattle.vol_model.specs.Writing.{set_on}
use Rattle.vtoc_index.specs.Index.{IsMounted, first_named}
use Rattle.vtoc_index.specs.Names.{name_at}
use Rattle.vtoc_index.specs.declared.vol.Vol.{Vol}
use Rattle.vtoc_sets.specs.Sets.{volume_in}
use Rattle.pack_machine.specs.Reads.{HasVolume}
use Rattle.pack_machine.proofs.ShelfReads.{is_set, no_set}

-- the name in a slot that was found
pub name_found : (name : List ℕ) (items : List Dscb) (slot : ℕ) → first_named name items ≡ Some slot → name_at items slot ≡ Some name
name_found name items slot first =
    let found = set_found name items slot first in
    ap (option_and_then (λ (d : Dscb). option_map (λ f. f.name) (set_in (Ok d)))) found.set ∙ ap (λ (n : List ℕ). Some n) found.named

module _ (image : List ℕ) (v : Vol) (dsn : Dsn) (mounted : IsMounted image v) where
  abbrev alone : Shelf
  alone = record { volumes = volume_in image v ∷ [] }

  abbrev here : HasVolume alone 0 v
  here = record { image = image; mounted = mounted; there = refl }

  abbrev without : DataSet → Result Volume Refusal
  without x = Ok (record (volume_in image v) {
    sets = filter (λ (y : DataSet). not (has_name dsn.bytes y)) (volume_in image v).sets;
    catalog = if is_catalog dsn.bytes then None else (volume_in image v).catalog;
  })

  pub scratch_none : first_named dsn.bytes v.slots.items ≡ None → scratch_on dsn (volume_in image v) ≡ Err NoSet
  unfolding scratch_on set_on
  scratch_none none = ap (λ (o : Option DataSet). on_found o without) (no_set alone 0 v here dsn.bytes none)

  pub scratch_some : (slot : ℕ) → first_named dsn.bytes v.slots.items ≡ Some slot → (after : Volume) × (scratch_on dsn (volume_in image v) ≡ Ok after)
  unfolding scratch_on set_on
  scratch_some slot first =
      let found = set_found dsn.bytes v.slots.items slot first in
      (_, ap (λ (o : Option DataSet). on_found o without) (is_set alone 0 v here dsn.bytes slot found.f first found.set).1)

  -- no volume of the image refuses it then
  pub is_accepted : (slot : ℕ) → first_named dsn.bytes v.slots.items ≡ Some slot → (r : Refusal) (w : Volume) → volume_of image ≡ Ok w → scratch_on dsn w ≡ Err r → ⊥
  is_accepted slot first r w stands refused =
      let some = scratch_some slot first in
      let same : volume_in image v ≡ w = same_volume (sym mounted.volume ∙ stands) in
      contradicts (sym some.1 ∙ ap (scratch_on dsn) same ∙ refused)
    where
      same_volume : {E : Type 0} {a b : Volume} → ◌≡◌ {A = Result Volume E} (Ok a) (Ok b) → a ≡ b
      same_volume is = cc

      contradicts : {a : Volume} → ◌≡◌ {A = Result Volume Refusal} (Ok a) (Err r) → ⊥
      contradicts is = cc

-- an operation that ends before anything is called
module _ {T : Type 0} (name : List ℕ) (operation : Volume → Result Volume Refusal) (v : Vol) (Changes : List ℕ → List ℕ → Type 0) (m : Meaning (List File)) (counts : CountsNow m) (volume : Volume) (before : volume_of (image_named m.state name) ≡ Ok volume) where
  abbrev undone : (e : StoreErr) → DoesOperation {T = T} name operation v Changes m m (Err e)
  undone e = record { volume = volume; before = before; done = tt; settled = tt; printed = refl; moments = elapses_none m _ }

  pub operates_refused : (why : Refusal) → operation volume ≡ Err why → Operates {T = T} name operation v Changes m m (Err (store.Refused why))
  operates_refused why refused = record {
    does = undone (store.Refused why);
    refused = λ r is. refused ∙ ap (λ (x : Refusal). Err x) (same_refusal is);
    idle = λ r is. same_none m counts;
    memory = λ is. same_none m counts;
  }
    where
      same_refusal : {a b : Refusal} → ◌≡◌ {A = Result T StoreErr} (Err (store.Refused a)) (Err (store.Refused b)) → a ≡ b
      same_refusal same = cc

  -- for this reason
  pub operates_error : (e : StoreErr) → IsRefusedBy e (operation volume) → Operates {T = T} name operation v Changes m m (Err e)
  operates_error (store.Refused why) is = operates_refused why is
  operates_error store.Memory is = record { does = undone store.Memory; refused = λ r other. absurd cc; idle = λ r other. same_none m counts; memory = λ other. same_none m counts }
  operates_error store.Device is = absurd is

-- an operation that isn't refused, and was called
module _ {E : Type 0} (name : List ℕ) (operation : Volume → Result Volume Refusal) (v : Vol) (Changes : List ℕ → List ℕ → Type 0) (m m' : Meaning (List File)) where
  pub operates_done : {T : Type 0} (x y : T) → DoesOperation {T = T} {E = E} name operation v Changes m m' (Ok x) → Operates name operation v Changes m m' (Ok y)
  operates_done x y does = record {
    does = record { volume = does.volume; before = does.before; done = does.done; settled = does.settled; printed = does.printed; moments = does.moments };
    refused = λ r is. absurd cc;
    idle = λ r is. absurd (cc (does.done.step, is));
    memory = λ is. absurd cc;
  }

  pub operates_failed : {T : Type 0} (e : E) → ((r : Refusal) (w : Volume) → volume_of (image_named m.state name) ≡ Ok w → operation w ≡ Err r → ⊥) → DoesOperation {T = T} name operation v Changes m m' (Err e) → Operates {T = T} name operation v Changes m m' (Err store.Device)
  operates_failed e accepted does = record {
    does = record { volume = does.volume; before = does.before; done = tt; settled = tt; printed = does.printed; moments = does.moments };
    refused = λ r is. absurd cc;
    idle = λ r is. absurd (accepted r does.volume does.before is);
    memory = λ is. absurd cc;
  }
