-- A block of a directory whose record is written over: what a stop leaves, and what is read then.
use Rattle.std.proofs.Common.{◌≡◌, ℕ, List, Option, Some, Result, Ok, Err, inl, inr, sym, subst, ⊎_elim}
use Rattle.std.specs.Prelude.{OnOk, slice_set}
use Rattle.std.proofs.lemmas.Result.{on_ok_weaker}
use Rattle.chain_spec.specs.Store.{Block as Stored}
use Rattle.dscb_codec.specs.declared.F1.{F1}
use Rattle.stop_model.specs.Files.{File}
use Rattle.stop_model.specs.Moments.{Meaning}
use Rattle.stop_model.proofs.MomentLemmas.{elapses_weaker}
use Rattle.track_records.specs.Written.{StandsOn}
use Rattle.vol_model.specs.declared.contents.Entry.{Entry}
use Rattle.vol_model.specs.declared.contents.Place.{Place}
use Rattle.vtoc_index.specs.declared.vol.Vol.{Vol}
use Rattle.vtoc_index.specs.Index.{IsMounted}
use Rattle.free_rebuild.specs.Repairs.{image_named}
use Rattle.set_records.specs.Rewriting.{HaveRewritten, RewritesRecord}
use Rattle.stow_ops.specs.Stores.{HaveStore, WritesBlock, store_in}
use Rattle.stow_ops.proofs.DirectoryImages.{mounted_kept}
use Rattle.stow_ops.proofs.WrittenDirectories.{Rewrites, block_written, on_owned}

module _ (name : List ℕ) (v : Vol) (f : F1) (k : ℕ) (place : Place) (key content : List ℕ) (block : Stored Entry) (old : Meaning (List File)) (may : Rewrites v f k place key content block (image_named old.state name)) where
  abbrev store : List (Option (Stored Entry))
  store = slice_set (store_in (image_named old.state name) v f) k (Some block)

  -- files with the record have the directory with that block
  have_store : (files : List File) → HaveRewritten name v f place key content old.state files → HaveStore name v f store old.state files
  have_store files have = record {
    others = have.others;
    image = block_written v f k place key content block (image_named old.state name) (image_named files name) may have.image;
  }

  pub writes_block : {T E : Type 0} (w : Vol) (new : Meaning (List File)) (result : Result T E) → w ≡ record v { buf = w.buf } → RewritesRecord name v f place key content w.buf old new result → WritesBlock name v f k block w old new result
  writes_block w new result others wrote = record {
    done = on_ok_weaker result (have_store new.state) wrote.done;
    durable = wrote.durable;
    index = both result wrote.done wrote.buffer;
    printed = wrote.printed;
    moments = elapses_weaker wrote.moments (λ files p here. (⊎_elim (λ before. inl before) (λ have. inr (have_store files have)) here.0, here.1));
  }
    where
      mounted : HaveRewritten name v f place key content old.state new.state → StandsOn (image_named new.state name) w.buf → IsMounted (image_named new.state name) w
      mounted have stands =
          subst (IsMounted (image_named new.state name)) (sym others)
          (mounted_kept (image_named old.state name) (image_named new.state name) v f may.part (on_owned v f (image_named old.state name) (image_named new.state name) (have_store new.state have).image.differ) w.buf (inr stands))

      both : {T E : Type 0} (r : Result T E) → OnOk r (HaveRewritten name v f place key content old.state new.state) → OnOk r (StandsOn (image_named new.state name) w.buf) → OnOk r (IsMounted (image_named new.state name) w)
      both (Ok x) have stands = mounted have stands
      both (Err e) have stands = tt
