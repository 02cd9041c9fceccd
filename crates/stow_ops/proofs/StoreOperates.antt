-- Writes of a plan on a directory are an operation on the volume, which puts other entries there.
use Rattle.std.proofs.Common.{◌≡◌, ◌≤◌, ◌<◌, ℕ, Bool, true, false, List, ◌++◌, length, take, Option, Result, Ok, Err, inl, inr, refl, sym, ap, ◌∙◌, subst, arith, ⊎_elim}
use Rattle.std.specs.Prelude.{IsErrOf, nat_lt}
use Rattle.std.proofs.lemmas.Bool.Decides.{nat_tests}
use Rattle.chain_spec.specs.Cut.{IsCut}
use Rattle.chain_spec.specs.Kept.{joined, kept}
use Rattle.chain_spec.specs.Store.{Block as Stored, stored}
use Rattle.chain_spec.proofs.KeptLemmas.{kept_rises}
use Rattle.dscb_codec.specs.declared.F1.{F1}
use Rattle.pack_spec.specs.Directories.{name_number}
use Rattle.pack_spec.specs.Volume.{volume_by, volume_of}
use Rattle.sorted_chain.specs.Plan.{ReadsEither, after_writes}
use Rattle.stop_model.specs.Files.{File}
use Rattle.stop_model.specs.Moments.{Meaning}
use Rattle.stop_model.proofs.MomentLemmas.{CountsNow, elapses_none, elapses_weaker, same_none}
use Rattle.vol_model.specs.declared.answers.StoreErr.{StoreErr}
use Rattle.vol_model.specs.declared.answers.StoreErr.TheVariants as errors
use Rattle.vol_model.specs.declared.contents.Entry.{Entry}
use Rattle.vol_model.specs.declared.contents.Volume.{Volume}
use Rattle.vol_model.specs.declared.refusals.Refusal.{Refusal}
use Rattle.vol_model.specs.declared.refusals.Refusal.TheVariants.{DirFull}
use Rattle.vol_model.specs.Shelf.{refuse, with_entries, with_set}
use Rattle.vol_model.specs.Slots.{directory_needed}
use Rattle.vtoc_index.specs.declared.vol.Vol.{Vol}
use Rattle.free_rebuild.specs.Repairs.{image_named}
use Rattle.pds_directory.specs.declared.dir.Dir.{Dir}
use Rattle.pds_directory.specs.Directories.{IsLawfulDir, entries_read}
use Rattle.pds_directory.specs.Entries.{chain_size}
use Rattle.free_rebuild.specs.Operations.{DoesOperation, IsLeftInOperation, Operates}
use Rattle.stow_ops.specs.Stores.{AreForDir, CarriesOut, DifferOn, HaveStore, IsDirPlan, IsToHave, MakesEntries, directory_tracks, store_after, store_in}
use Rattle.stow_ops.proofs.ChainSizes.{chain_needed}
use Rattle.stow_ops.proofs.DirectoryImages.{guarded_kept, settled_kept}
use Rattle.stow_ops.proofs.DirectoryVolumes.{volume_entries, volume_same}
use Rattle.stow_ops.proofs.PlanStores.{all_joined, cut_chain, long, reads_last}
use Rattle.stow_ops.proofs.WrittenDirectories.{on_owned}

-- ---- the operation

module _ (name : List ℕ) (v : Vol) (f : F1) (dir : Dir) (entries : List Entry) (blocks : ℕ) (writes : List (ℕ × List Entry)) (old : Meaning (List File))
    (have : IsToHave (image_named old.state name) v f dir entries) (lawful : IsLawfulDir dir) (are : AreForDir entries) (plan : IsDirPlan (entries_read dir) entries blocks writes) (fits : blocks ≤ length dir.places.items)
    (operation : Volume → Result Volume Refusal) (makes : MakesEntries operation (image_named old.state name) f (length dir.places.items) entries) where
  abbrev image : List ℕ
  image = image_named old.state name

  abbrev volume : Volume
  volume = volume_by image v.geometry v.vtoc

  abbrev after : Volume
  after = with_set volume f.name (with_entries entries)

  abbrev list : List Entry
  list = kept name_number (joined (entries_read dir))

  abbrev stores : ℕ → List (Option (Stored Entry))
  stores k = store_after image v f blocks writes k

  abbrev Changes : List ℕ → List ℕ → Type 0
  Changes = DifferOn v.geometry (directory_tracks image v f)

  stands : volume_of image ≡ Ok volume
  stands = have.part.part.set.mounted.volume

  abbrev behind : List (Option (Stored Entry))
  behind = have.read.read.behind

  store_is : store_in image v f ≡ stored (entries_read dir) ++ behind
  store_is = have.read.read.blocks

  cut_old : IsCut chain_size 254 12 (entries_read dir) list
  cut_old = cut_chain (entries_read dir) list (all_joined (entries_read dir) lawful.entries) have.packed

  reads_at : (k : ℕ) → ReadsEither name_number list entries (stores k)
  reads_at k = subst (λ (s : List (Option (Stored Entry))). ReadsEither name_number list entries (after_writes blocks (take k writes) s)) (sym store_is)
      (plan.survives list cut_old (kept_rises name_number 0 (joined (entries_read dir))) are.rise have.changes behind (omega (arith, long image v f dir entries blocks writes have.read are plan fits, ap length store_is)) k)

  not_more : (m n : ℕ) → m ≤ n → nat_lt n m ≡ false
  not_more m n low = grind (arith, nat_tests)

  step : operation volume ≡ Ok after
  step =
      let count : blocks ≡ directory_needed entries = plan.count ∙ chain_needed entries are.each in
      makes volume stands
      ∙ ap (λ (b : Bool). refuse b (DirFull (directory_needed entries)) (Ok after)) (not_more (directory_needed entries) (length dir.places.items) (omega (arith, fits, count)))

  left_stands : (k : ℕ) (files : List File) → HaveStore name v f (stores k) old.state files → IsLeftInOperation name volume (operation volume) Changes old.state files
  left_stands k files done = record {
    stands = ⊎_elim
        (λ read. inl (volume_same v f image (image_named files name) have.part.part dir have.read (stores k) done.image read))
        (λ read. inr (after, step, volume_entries v f image (image_named files name) have.part.part dir have.read (stores k) done.image entries read))
        (reads_at k);
    guarded = guarded_kept image (image_named files name) v f have.part.part (on_owned v f image (image_named files name) done.image.differ);
    changes = record { others = done.others; image = done.image.differ };
  }

  module _ (v' : Vol) (new : Meaning (List File)) where
    -- it is done
    pub operates_done : {T U E : Type 0} (x : T) (y : U) → CarriesOut {T = T} {E = E} name v f blocks writes v' old new (Ok x) → Operates {T = U} name operation v' Changes old new (Ok y)
    operates_done x y carried = record {
      does = record {
        volume = volume;
        before = stands;
        done = record {
          after = after;
          step = step;
          stands = volume_entries v f image (image_named new.state name) have.part.part dir have.read (stores (length writes)) carried.done.image entries (reads_last image v f dir entries blocks writes have.read are plan fits);
          index = carried.index;
          durable = carried.durable;
          changes = record { others = carried.done.others; image = carried.done.image.differ };
        };
        settled = settled_kept image (image_named new.state name) v f have.part.part (on_owned v f image (image_named new.state name) carried.done.image.differ);
        printed = carried.printed;
        moments = elapses_weaker carried.moments (λ files p left. (left_stands left.0.0 files left.0.1, left.1));
      };
      refused = λ r none. cc;
      idle = λ r none. let never : Ok after ≡ Err r = sym step ∙ none in cc;
      memory = λ none. cc;
    }

    -- or the device failed
    pub operates_failed : {T U E : Type 0} (e : E) → CarriesOut {T = T} name v f blocks writes v' old new (Err e) → Operates {T = U} name operation v' Changes old new (Err errors.Device)
    operates_failed e carried = record {
      does = record {
        volume = volume;
        before = stands;
        done = tt;
        settled = tt;
        printed = carried.printed;
        moments = elapses_weaker carried.moments (λ files p left. (left_stands left.0.0 files left.0.1, left.1));
      };
      refused = λ r is. cc;
      idle = λ r none. let never : Ok after ≡ Err r = sym step ∙ none in cc;
      memory = λ is. cc;
    }

-- ---- a plan that can't be made

module _ (name : List ℕ) (v : Vol) (f : F1) (dir : Dir) (entries : List Entry) (old : Meaning (List File)) (have : IsToHave (image_named old.state name) v f dir entries) (operation : Volume → Result Volume Refusal)
    (makes : MakesEntries operation (image_named old.state name) f (length dir.places.items) entries) (counts : CountsNow old) (v' : Vol) where
  abbrev kind : List ℕ → List ℕ → Type 0
  kind = DifferOn v.geometry (directory_tracks (image_named old.state name) v f)

  -- what hasn't begun
  pub not_begun : {T : Type 0} (e : StoreErr) → DoesOperation {T = T} name operation v' kind old old (Err e)
  not_begun e = record {
    volume = volume_by (image_named old.state name) v.geometry v.vtoc;
    before = have.part.part.set.mounted.volume;
    done = tt;
    settled = tt;
    printed = refl;
    moments = elapses_none old _;
  }

  -- it can't be made for want of memory, or because the entries need more blocks than there are
  pub operates_not : (e : StoreErr) → ((r : Refusal) → IsErrOf {T = Unit {0}} (Err e) (errors.Refused r) → (r ≡ DirFull (directory_needed entries)) × (length dir.places.items < directory_needed entries)) → Operates {T = Unit {0}} name operation v' kind old old (Err e)
  unfolding not_begun
  operates_not e full = record {
    does = not_begun e;
    refused = λ q is.
        let why = full q is in
        makes (volume_by (image_named old.state name) v.geometry v.vtoc) have.part.part.set.mounted.volume
        ∙ ap (λ (b : Bool). refuse b (DirFull (directory_needed entries)) (Ok (with_set (volume_by (image_named old.state name) v.geometry v.vtoc) f.name (with_entries entries)))) (more (length dir.places.items) (directory_needed entries) why.1)
        ∙ ap Err (sym why.0);
    idle = λ q none. same_none old counts;
    memory = λ is. same_none old counts;
  }
    where
      more : (m n : ℕ) → m < n → nat_lt m n ≡ true
      more m n low = grind (arith, nat_tests)
