-- Slots that are put and made durable.
use Rattle.std.proofs.Common.{◌≡◌, ℕ, List, [], Option, Some, sym, ap, subst, ◌∙◌}
use Rattle.std.specs.Prelude.{Result, Ok, IsErr, unwrap_or}
use Rattle.std.proofs.lemmas.Result.{IfOk-from_err, on_ok_weaker}
use Rattle.dscb_codec.specs.declared.Dscb.{Dscb}
use Rattle.vtoc_index.specs.Index.{IsIndexOf, IsPut, place_of_slot}
use Rattle.vtoc_index.specs.Puts.{AfterPut}
use Rattle.vtoc_index.specs.declared.vol.Vol.{Vol}
use Rattle.stop_model.specs.Files.{File, AfterSync, file_of, patched, written}
use Rattle.stop_model.specs.Moments.{Meaning, IsDurable}
use Rattle.stop_model.proofs.BlockLemmas.{keeps_block, syncs_of_sync}
use Rattle.stop_model.proofs.StepLemmas.{failed_write, write_then_sync}
use Rattle.free_rebuild.specs.Durable.{HaveSlot, PutsDurably, StaysAlike}
use Rattle.free_rebuild.specs.Repairs.{image_named}
use Rattle.free_rebuild.specs.Stops.{AreAlikeTo, KeepsAlike}
use Rattle.free_rebuild.proofs.PutLemmas.{written_other, written_there}

-- what the image is with the slot
pub slot_written : {name : List ℕ} {v : Vol} {slot : ℕ} {d : Dscb} {bytes : List ℕ} {before after : List File} → HaveSlot name v slot d bytes before after → image_named after name ≡ patched (image_named before name) (place_of_slot v slot) bytes
slot_written have = ap (λ (o : Option (List ℕ)). unwrap_or o []) have.there

pub slot_put : {name : List ℕ} {v : Vol} {slot : ℕ} {d : Dscb} {bytes : List ℕ} {before after : List File} → HaveSlot name v slot d bytes before after → IsPut v slot d (image_named before name) (image_named after name)
slot_put {name = name} {v = v} {slot = slot} {d = d} {before = before} have = subst (λ (i : List ℕ). IsPut v slot d (image_named before name) i) (sym (slot_written have)) have.image

-- a slot that is put and then made durable is one step over the files
module _ (name : List ℕ) (v v' : Vol) (slot : ℕ) (d : Dscb) (old : Meaning (List File)) (there : file_of old.state name ≡ Some (image_named old.state name)) (durable : IsDurable old) where
  -- the files with that slot
  have_slot : (bytes : List ℕ) → IsPut v slot d (image_named old.state name) (patched (image_named old.state name) (place_of_slot v slot) bytes) → HaveSlot name v slot d bytes old.state (written old.state name (place_of_slot v slot) bytes)
  have_slot bytes is = record {
    others = λ other apart. written_other old.state name other (place_of_slot v slot) bytes apart;
    there = written_there old.state name (place_of_slot v slot) bytes (image_named old.state name) there;
    image = is;
  }

  -- where the write fails
  pub put_fails : {T E A B : Type 0} {put : List ℕ} {new : Meaning (List File)} {result : Result T E} (answer : Result A B) → IsErr answer → AfterPut name v slot d v' (image_named old.state name) put old new result → PutsDurably name v slot d v' old new answer
  put_fails answer failed put = record {
    bytes = put.bytes;
    dscb = put.dscb;
    size = put.size;
    after = written old.state name (place_of_slot v slot) put.bytes;
    put = have_slot put.bytes put.kept;
    step = failed_write (λ files. files) answer failed durable put.write;
    index = IfOk-from_err answer _ failed;
  }

  -- where it is done, whether or not the sync is
  pub put_synced : {T E X Y : Type 0} {put : List ℕ} {mid new : Meaning (List File)} {x : T} (result : Result X Y) → AfterPut {T = T} {E = E} name v slot d v' (image_named old.state name) put old mid (Ok x) → put ≡ image_named mid.state name → AfterSync mid new result → PutsDurably name v slot d v' old new result
  put_synced {mid = mid} result put same sync = record {
    bytes = put.bytes;
    dscb = put.dscb;
    size = put.size;
    after = written old.state name (place_of_slot v slot) put.bytes;
    put = have_slot put.bytes put.kept;
    step = write_then_sync (λ files. files) durable put.write sync;
    index = on_ok_weaker result (λ done. subst (λ (i : List ℕ). IsIndexOf i v') (same ∙ ap (λ (files : List File). image_named files name) (sym sync.state)) put.done.1) sync.done;
  }

-- what was alike stays so, where the writes fail
pub stays_not : {T E A B : Type 0} (name : List ℕ) (v' : Vol) (old new : Meaning (List File)) (result : Result T E) (answer : Result A B) → IsDurable old → IsErr answer → KeepsAlike name v' old new result → StaysAlike name v' old new answer
stays_not name v' old new result answer durable failed keeps v image before others found alike =
    let kept = keeps v image before others found (λ files left. subst (AreAlikeTo name v image before) (sym (durable files left)) alike) in
    record { done = IfOk-from_err answer _ failed; printed = kept.printed; moments = kept.moments }

-- and where they are done, whether or not the sync is
pub stays_synced : {T E A B : Type 0} (name : List ℕ) (v' : Vol) (old mid new : Meaning (List File)) (x : T) (result : Result A B) → IsDurable old → mid.left mid.state → KeepsAlike {T = T} {E = E} name v' old mid (Ok x) → AfterSync mid new result → StaysAlike name v' old new result
stays_synced name v' old mid new x result durable here keeps sync v image before others found alike =
    let kept = keeps v image before others found (λ files left. subst (AreAlikeTo name v image before) (sym (durable files left)) alike) in
    let block = keeps_block {Among = λ _ files. AreAlikeTo name v image before files} kept (syncs_of_sync sync) in
    record {
      done = on_ok_weaker result (λ done. (done.1, subst (AreAlikeTo name v image before) (sym sync.state) (kept.left mid.state here))) block.done;
      printed = block.printed;
      moments = block.moments;
    }
