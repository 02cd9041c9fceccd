-- A directory that was read, with the blocks of a plan in place of its own: it is what is read once the plan is carried out.
use Rattle.std.proofs.Common.{◌≡◌, ◌++◌, ◌≤◌, ℕ, List, [], ◌∷◌, length, drop, sym, ap, ap₂, ◌∙◌, subst, arith}
use Rattle.std.specs.Prelude.{vec_items}
use Rattle.std.specs.List.{AllByRecursion}
use Rattle.std.proofs.lemmas.List.{length-map}
use Rattle.chain_spec.specs.Cut.{AllFit}
use Rattle.chain_spec.specs.Kept.{joined, kept}
use Rattle.chain_spec.specs.Store.{stored}
use Rattle.chain_spec.proofs.KeptLemmas.{kept_all}
use Rattle.dscb_codec.specs.declared.F1.{F1}
use Rattle.pack_spec.specs.Directories.{name_number}
use Rattle.track_records.specs.Buffers.{Buffer}
use Rattle.vol_model.specs.declared.contents.Block.{Block}
use Rattle.vol_model.specs.declared.contents.Body.TheVariants as bodies
use Rattle.vol_model.specs.declared.contents.Entry.{Entry}
use Rattle.vol_model.specs.declared.contents.Place.{Place}
use Rattle.vol_model.specs.Slots.{entry_size}
use Rattle.vtoc_index.specs.declared.vol.Vol.{Vol}
use Rattle.pds_directory.specs.declared.dir.Dir.{Dir}
use Rattle.pds_directory.specs.Directories.{IsLawfulDir, IsOfRecord, IsPartIn, IsReadIn, end_in, entries_read, members_in}
use Rattle.pds_directory.specs.Entries.{IsReadEntry}
use Rattle.stow_ops.specs.Stores.{AreForDir, HasStore, IsDirPlan, store_after, store_in}
use Rattle.stow_ops.proofs.DirectoryVolumes.{body_after}
use Rattle.stow_ops.proofs.PlanStores.{all_parts, cut_entries, reads_last, store_last}

each_block : (bs : List (List Entry)) → AllByRecursion IsReadEntry (joined bs) → AllByRecursion (AllByRecursion IsReadEntry) bs
each_block [] all = tt
each_block (b ∷ bs) all = let parts = all_parts b (joined bs) all in (parts.0, each_block bs parts.1)

-- the same is read by an index with another buffer
pub read_by : (image : List ℕ) (v : Vol) (b : Buffer) (f : F1) (dir : Dir) → IsReadIn image v f dir → IsReadIn image (record v { buf = b }) f dir
read_by image v b f dir read = record { body = read.body; read = read.read; end = read.end }

module _ (dir : Dir) (entries : List Entry) (blocks : ℕ) (writes : List (ℕ × List Entry)) (lawful : IsLawfulDir dir) (are : AreForDir entries) (plan : IsDirPlan (entries_read dir) entries blocks writes) (fits : blocks ≤ length dir.places.items)
    (new : Dir) (places : new.places ≡ dir.places) (end : new.end ≡ dir.end) (is : entries_read new ≡ plan.cut) where
  cut_read : AllByRecursion IsReadEntry (joined plan.cut)
  cut_read = subst (AllByRecursion IsReadEntry) (sym plan.is_cut.holds) are.each

  as_many : length new.places.items ≡ length dir.places.items
  as_many = ap (λ ps. length ps.items) places

  pub lawful_then : IsLawfulDir new
  lawful_then = record {
    room = omega (arith, length-map new.blocks.items vec_items, ap length is, plan.number, fits, as_many);
    few = omega (arith, lawful.few, as_many);
    entries = subst (AllByRecursion (AllByRecursion IsReadEntry)) (sym is) (each_block plan.cut cut_read);
    fit = subst (AllFit entry_size 254 12) (sym is) (cut_entries plan.cut entries cut_read plan.is_cut).fits;
    places = subst (λ ps. AllByRecursion IsOfRecord ps.items) (sym places) lawful.places;
  }

  pub kept_then : entries ≡ kept name_number (joined (entries_read new))
  kept_then = sym (ap (λ (bs : List (List Entry)). kept name_number (joined bs)) is ∙ ap (kept name_number) plan.is_cut.holds ∙ kept_all name_number 0 0 entries (omega arith) are.rise)

  module _ (image : List ℕ) (v : Vol) (f : F1) (part : IsPartIn image v f) (read : IsReadIn image v f dir) (after : List ℕ) (has : HasStore v f (store_after image v f blocks writes (length writes)) image after) where
    -- The image that has the store of all writes has the new directory.
    pub read_then : IsReadIn after v f new
    read_then = record {
      body =
          body_after v f image after part dir read (store_after image v f blocks writes (length writes)) has entries (reads_last image v f dir entries blocks writes read are plan fits)
          ∙ ap (λ (n : ℕ). bodies.Part n (end_in image v f) entries (members_in image v f)) (sym as_many)
          ∙ ap (λ (p : Place). bodies.Part (length new.places.items) p entries (members_in image v f)) (sym has.end)
          ∙ ap₂ (λ (es : List Entry) (bs : List Block). bodies.Part (length new.places.items) (end_in after v f) es bs) kept_then (sym has.members);
      read = record {
        places = ap (λ ps. ps.items) places ∙ read.read.places ∙ sym has.places;
        behind = drop blocks (store_in image v f);
        blocks = has.stored ∙ store_last image v f dir entries blocks writes read are plan fits ∙ ap (λ (bs : List (List Entry)). stored bs ++ drop blocks (store_in image v f)) (sym is);
      };
      end = end ∙ read.end ∙ sym has.end;
    }
