-- Blocks of a directory written one after another: how far that has come, and what a stop leaves.
use Rattle.std.proofs.Common.{◌≡◌, ◌+◌, ℕ, zero, suc, Bool, List, [], ◌∷◌, ◌++◌, length, map, take, drop, Option, Some, None, Result, Ok, refl, sym, ap, ap₂, ◌∙◌, subst, arith, ⊎_elim}
use Rattle.std.specs.Prelude.{◌==◌, IsErr, nat_eq, slice_get, slice_set}
use Rattle.std.specs.List.{list_any}
use Rattle.std.proofs.lemmas.Result.{IfOk-from_err}
use Rattle.chain_spec.specs.Store.{Block as Stored}
use Rattle.dscb_codec.specs.declared.F1.{F1}
use Rattle.pack_spec.specs.declared.slot.VtocSlot.{VtocSlot}
use Rattle.pack_spec.specs.Rules.{has_extents}
use Rattle.sorted_chain.specs.Plan.{after_write, after_writes}
use Rattle.sorted_chain.proofs.Orders.{after_writes-append}
use Rattle.stop_model.specs.Files.{File}
use Rattle.stop_model.specs.Moments.{Elapses, IsDurable, Meaning}
use Rattle.stop_model.proofs.MomentLemmas.{elapses_none, elapses_then, elapses_weaker}
use Rattle.track_records.specs.Buffers.{Buffer}
use Rattle.vol_model.specs.declared.contents.Block.{Block}
use Rattle.vol_model.specs.declared.contents.Entry.{Entry}
use Rattle.vol_model.specs.declared.contents.Place.{Place}
use Rattle.vtoc_index.specs.declared.vol.Vol.{Vol}
use Rattle.vtoc_index.specs.Index.{IsMounted}
use Rattle.free_rebuild.specs.Repairs.{image_named}
use Rattle.pds_directory.specs.Directories.{IsPartIn, broken_in, directory_in}
use Rattle.stow_ops.specs.Stores.{CarriesOut, DifferOn, HasStore, HaveStore, SoFar, WritesBlock, directory_tracks, store_after, store_in}
use Rattle.stow_ops.proofs.DirectoryImages.{same_owned, slots_kept}
use Rattle.stow_ops.proofs.WrittenDirectories.{on_owned}

-- ---- stores of one image after another

pub differ_none : (v : Vol) (f : F1) (image : List ℕ) → DifferOn v.geometry (directory_tracks image v f) image image
differ_none v f image = record { size = refl; header = refl; others = λ track none. refl }

pub store_none : (v : Vol) (f : F1) (image : List ℕ) → broken_in image v f ≡ None → HasStore v f (store_in image v f) image image
store_none v f image whole = record { differ = differ_none v f image; end = refl; places = refl; stored = refl; members = refl; whole = whole }

module _ (v : Vol) (f : F1) (first mid : List ℕ) (part : IsPartIn first v f) where
  tracks_mid : (s : List (Option (Stored Entry))) → HasStore v f s first mid → directory_tracks mid v f ≡ directory_tracks first v f
  tracks_mid s has = ap₂ (λ (p : Place) (ts : List ℕ). take (suc p.tt) ts) has.end (same_owned first mid v f part (on_owned v f first mid has.differ) f)

  pub store_then : (s r : List (Option (Stored Entry))) (last : List ℕ) → HasStore v f s first mid → HasStore v f r mid last → HasStore v f r first last
  store_then s r last one two = record {
    differ = record {
      size = two.differ.size ∙ one.differ.size;
      header = two.differ.header ∙ one.differ.header;
      others = λ track none. two.differ.others track (ap (list_any (λ (t : ℕ). t == track)) (tracks_mid s one) ∙ none) ∙ one.differ.others track none;
    };
    end = two.end ∙ one.end;
    places = two.places ∙ one.places;
    stored = two.stored;
    members = two.members ∙ one.members;
    whole = two.whole;
  }

  -- and the data set is one of the later image
  pub part_kept : (s : List (Option (Stored Entry))) (b : Buffer) → HasStore v f s first mid → IsMounted mid (record v { buf = b }) → IsPartIn mid (record v { buf = b }) f
  part_kept s b has mounted = record {
    set = record {
      mounted = mounted;
      extents = ap (λ (ss : List VtocSlot). has_extents v.geometry ss f) (slots_kept first mid v f part (on_owned v f first mid has.differ)) ∙ part.set.extents;
    };
    slot = part.slot;
    dscb = part.dscb;
    partitioned = part.partitioned;
  }

-- an index with another buffer has the same
pub by_other : (v : Vol) (b : Buffer) (f : F1) (s : List (Option (Stored Entry))) (before after : List ℕ) → HasStore (record v { buf = b }) f s before after → HasStore v f s before after
by_other v b f s before after has = record {
  differ = record { size = has.differ.size; header = has.differ.header; others = has.differ.others };
  end = has.end;
  places = has.places;
  stored = has.stored;
  members = has.members;
  whole = has.whole;
}

-- ---- how far the writes have come

taken_more : {X : Type 0} (xs : List X) (k : ℕ) (x : X) → slice_get xs k ≡ Some x → take (k + 1) xs ≡ take k xs ++ x ∷ []
taken_more [] k x is = cc
taken_more {X = X} (y ∷ xs) zero x is = let same : y ≡ x = cc in ap (λ (z : X). z ∷ []) same
taken_more {X = X} (y ∷ xs) (suc k) x is =
    let next : suc k + 1 ≡ suc (k + 1) = omega arith in
    ap (λ (n : ℕ). take n (y ∷ xs)) next ∙ ap (λ (l : List X). y ∷ l) (taken_more xs k x is)

pub parted : {X : Type 0} (xs : List X) (k : ℕ) (x : X) → slice_get xs k ≡ Some x → xs ≡ take k xs ++ x ∷ drop (k + 1) xs
parted [] k x is = cc
parted {X = X} (y ∷ xs) zero x is = let same : y ≡ x = cc in ap (λ (z : X). z ∷ xs) same
parted {X = X} (y ∷ xs) (suc k) x is =
    let next : suc (k + 1) ≡ suc k + 1 = omega arith in
    ap (λ (l : List X). y ∷ l) (parted xs k x is) ∙ ap (λ (n : ℕ). y ∷ (take k xs ++ x ∷ drop n (y ∷ xs))) next

module _ (name : List ℕ) (v : Vol) (f : F1) (blocks : ℕ) (writes : List (ℕ × List Entry)) (old : Meaning (List File)) where
  abbrev image : List ℕ
  image = image_named old.state name

  abbrev stores : ℕ → List (Option (Stored Entry))
  stores k = store_after image v f blocks writes k

  -- none is done
  pub none_so_far : IsDurable old → IsMounted image v → broken_in image v f ≡ None → SoFar name v f blocks writes 0 v old old
  none_so_far durable mounted whole = record {
    have = record { others = λ other apart. refl; image = store_none v f image whole };
    durable = durable;
    index = mounted;
    printed = refl;
    moments = elapses_none old _;
  }

  store_next : (k : ℕ) (w : ℕ × List Entry) → slice_get writes k ≡ Some w → stores (k + 1) ≡ after_write blocks w (stores k)
  store_next k w at = ap (λ (ws : List (ℕ × List Entry)). after_writes blocks ws (store_in image v f)) (taken_more writes k w at) ∙ after_writes-append blocks (take k writes) (w ∷ []) (store_in image v f)

  -- one is left out that changes nothing
  pub left_out : (k : ℕ) (w : ℕ × List Entry) (v' : Vol) (now : Meaning (List File)) → slice_get writes k ≡ Some w → after_write blocks w (stores k) ≡ stores k → SoFar name v f blocks writes k v' old now → SoFar name v f blocks writes (k + 1) v' old now
  left_out k w v' now at same so = record {
    have = subst (λ (s : List (Option (Stored Entry))). HaveStore name v f s old.state now.state) (sym (store_next k w at ∙ same)) so.have;
    durable = so.durable;
    index = so.index;
    printed = so.printed;
    moments = so.moments;
  }

  module _ (part : IsPartIn image v f) (k : ℕ) (w : ℕ × List Entry) (at : slice_get writes k ≡ Some w) (b : Buffer) (now : Meaning (List File)) (so : SoFar name v f blocks writes k (record v { buf = b }) old now)
      {T E : Type 0} (v' : Vol) (new : Meaning (List File)) (r : Result T E)
      (wrote : WritesBlock name (record v { buf = b }) f w.0 (record { entries = w.1; ends = nat_eq (suc w.0) blocks }) v' now new r) where
    have_next : (files : List File) → HaveStore name (record v { buf = b }) f (slice_set (store_in (image_named now.state name) v f) w.0 (Some (record { entries = w.1; ends = nat_eq (suc w.0) blocks }))) now.state files → HaveStore name v f (stores (k + 1)) old.state files
    have_next files have = record {
      others = λ other apart. have.others other apart ∙ so.have.others other apart;
      image =
          let two = by_other v b f _ _ _ have.image in
          let same : slice_set (store_in (image_named now.state name) v f) w.0 (Some (record { entries = w.1; ends = nat_eq (suc w.0) blocks })) ≡ stores (k + 1) =
          ap (λ (s : List (Option (Stored Entry))). slice_set s w.0 (Some (record { entries = w.1; ends = nat_eq (suc w.0) blocks }))) so.have.image.stored ∙ sym (store_next k w at) in
          subst (λ (s : List (Option (Stored Entry))). HasStore v f s image (image_named files name)) same (store_then v f image (image_named now.state name) part (stores k) _ (image_named files name) so.have.image two);
    }

    moments_next : Elapses old new (λ files p. ((j : ℕ) × HaveStore name v f (stores j) old.state files) × (p ≡ old.printed))
    moments_next = elapses_then so.moments (elapses_weaker wrote.moments (λ files p has. (⊎_elim (λ same. (k, subst (HaveStore name v f (stores k) old.state) (sym same) so.have)) (λ have. (k + 1, have_next files have)) has.0, has.1 ∙ so.printed)))

    -- one failed
    pub failed_at : {U D : Type 0} (s : Result U D) (u : Vol) → IsErr s → CarriesOut name v f blocks writes u old new s
    failed_at s u failed = record { done = IfOk-from_err s _ failed; durable = IfOk-from_err s _ failed; index = IfOk-from_err s _ failed; printed = wrote.printed ∙ so.printed; moments = moments_next }

  -- or is done
  module _ (part : IsPartIn image v f) (k : ℕ) (w : ℕ × List Entry) (at : slice_get writes k ≡ Some w) (b : Buffer) (now : Meaning (List File)) (so : SoFar name v f blocks writes k (record v { buf = b }) old now)
      {T E : Type 0} (x : T) (v' : Vol) (new : Meaning (List File))
      (wrote : WritesBlock {T = T} {E = E} name (record v { buf = b }) f w.0 (record { entries = w.1; ends = nat_eq (suc w.0) blocks }) v' now new (Ok x)) where
    pub done_at : SoFar name v f blocks writes (k + 1) v' old new
    done_at = record {
      have = have_next part k w at b now so v' new (Ok x) wrote new.state wrote.done;
      durable = wrote.durable;
      index = wrote.index;
      printed = wrote.printed ∙ so.printed;
      moments = moments_next part k w at b now so v' new (Ok x) wrote;
    }

  taken_all : {X : Type 0} (xs : List X) → take (length xs) xs ≡ xs
  taken_all [] = refl
  taken_all {X = X} (x ∷ xs) = ap (λ (l : List X). x ∷ l) (taken_all xs)

  -- all are done
  pub all_done : {T E : Type 0} (x : T) (v' : Vol) (new : Meaning (List File)) → SoFar name v f blocks writes (length writes) v' old new → CarriesOut {T = T} {E = E} name v f blocks writes v' old new (Ok x)
  all_done x v' new so = record { done = so.have; durable = so.durable; index = so.index; printed = so.printed; moments = so.moments }

-- a block's place is among those of the directory, also of a later image
pub place_later : (v : Vol) (f : F1) (s : List (Option (Stored Entry))) (first mid : List ℕ) (k : ℕ) (p : Place) → HasStore v f s first mid → slice_get (map (λ (b : Block). b.place) (directory_in first v f)) k ≡ Some p → (b : Block) × (slice_get (directory_in mid v f) k ≡ Some b) × (b.place ≡ p)
place_later v f s first mid k p has is = of_map (directory_in mid v f) k (ap (λ (ps : List Place). slice_get ps k) has.places ∙ is)
  where
    of_map : (bs : List Block) (k : ℕ) → slice_get (map (λ (b : Block). b.place) bs) k ≡ Some p → (b : Block) × (slice_get bs k ≡ Some b) × (b.place ≡ p)
    of_map [] k is = cc
    of_map (b ∷ bs) zero is = (b, refl, cc)
    of_map (b ∷ bs) (suc k) is = of_map bs k is

-- ---- the same by whatever index and name is at hand

module _ (name : List ℕ) (v : Vol) (f : F1) (blocks : ℕ) (writes : List (ℕ × List Entry)) (old now : Meaning (List File)) (k : ℕ) (part : IsPartIn (image_named old.state name) v f)
    (v1 : Vol) (others : v1 ≡ record v { buf = v1.buf }) (so : SoFar name v f blocks writes k v1 old now) where
  abbrev here : Vol
  here = record v { buf = v1.buf }

  so_here : SoFar name v f blocks writes k here old now
  so_here = subst (λ (u : Vol). SoFar name v f blocks writes k u old now) others so

  pub part_now : IsPartIn (image_named now.state name) v1 f
  part_now = subst (λ (u : Vol). IsPartIn (image_named now.state name) u f) (sym others) (part_kept v f (image_named old.state name) (image_named now.state name) part (store_after (image_named old.state name) v f blocks writes k) v1.buf so.have.image so_here.index)

  pub places_now : map (λ (b : Block). b.place) (directory_in (image_named now.state name) v1 f) ≡ map (λ (b : Block). b.place) (directory_in (image_named old.state name) v f)
  places_now = subst (λ (u : Vol). map (λ (b : Block). b.place) (directory_in (image_named now.state name) u f) ≡ map (λ (b : Block). b.place) (directory_in (image_named old.state name) v f)) (sym others) so.have.image.places

  pub whole_now : broken_in (image_named now.state name) v1 f ≡ None
  whole_now = subst (λ (u : Vol). broken_in (image_named now.state name) u f ≡ None) (sym others) so.have.image.whole

  module _ (w : ℕ × List Entry) (at : slice_get writes k ≡ Some w) (v2 : Vol) (new : Meaning (List File)) where
    abbrev block : Stored Entry
    block = record { entries = w.1; ends = nat_eq (w.0 + 1) blocks }

    by_suc : nat_eq (w.0 + 1) blocks ≡ nat_eq (suc w.0) blocks
    by_suc = let one : w.0 + 1 ≡ suc w.0 = omega arith in ap (λ (n : ℕ). nat_eq n blocks) one

    as_here : {T E : Type 0} (r : Result T E) → WritesBlock name v1 f w.0 block v2 now new r → WritesBlock name here f w.0 (record { entries = w.1; ends = nat_eq (suc w.0) blocks }) v2 now new r
    as_here r wrote = subst (λ (b : Bool). WritesBlock name here f w.0 (record { entries = w.1; ends = b }) v2 now new r) by_suc (subst (λ (u : Vol). WritesBlock name u f w.0 block v2 now new r) others wrote)

    pub goes_on : {T E : Type 0} (x : T) → WritesBlock {T = T} {E = E} name v1 f w.0 block v2 now new (Ok x) → SoFar name v f blocks writes (k + 1) v2 old new
    goes_on x wrote = done_at name v f blocks writes old part k w at v1.buf now so_here x v2 new (as_here (Ok x) wrote)

    pub goes_wrong : {T E U D : Type 0} (r : Result T E) (s : Result U D) (u : Vol) → IsErr s → WritesBlock name v1 f w.0 block v2 now new r → CarriesOut name v f blocks writes u old new s
    goes_wrong r s u failed wrote = failed_at name v f blocks writes old part k w at v1.buf now so_here v2 new r (as_here r wrote) s u failed
