-- Why the directory of a data set isn't changed, by why members can't be written to it.
use Rattle.std.proofs.Common.{◌≡◌, ◌∙◌, ℕ, Bool, true, false, cond, not, List, [], ◌∷◌, Option, Some, None, refl, sym, ap, subst}
use Rattle.std.specs.Prelude.{Result, Err, slice_get}
use Rattle.dscb_codec.specs.declared.Dscb.TheVariants as formats
use Rattle.dscb_codec.specs.declared.F1.{F1}
use Rattle.ebcdic_names.specs.declared.names.Dsn.{Dsn}
use Rattle.pack_spec.specs.Volume.{attr_of}
use Rattle.pack_spec.proofs.BodyKinds.{partitioned_body}
use Rattle.pds_directory.specs.Directories.{IsReadablePart, data_in}
use Rattle.vol_model.specs.declared.answers.Mode.TheVariants as modes
use Rattle.vol_model.specs.declared.contents.Body.{Body}
use Rattle.vol_model.specs.declared.contents.Body.TheVariants as bodies
use Rattle.vol_model.specs.declared.contents.DataSet.{DataSet}
use Rattle.vol_model.specs.declared.contents.Entry.{Entry}
use Rattle.vol_model.specs.declared.contents.Shelf.{Shelf}
use Rattle.vol_model.specs.declared.contents.Volume.{Volume}
use Rattle.vol_model.specs.declared.refusals.Refusal.{Refusal}
use Rattle.vol_model.specs.declared.refusals.Refusal.TheVariants.{NoSet, Unreadable, WrongKind}
use Rattle.vol_model.specs.Shelf.{in_directory, is_partitioned, on_directory, on_found, refuse, set_of, unreadable, write_refusal, write_refusal_for}
use Rattle.vol_model.specs.Writing.{begin_refusal, set_on}
use Rattle.vtoc_index.specs.Index.{IsMounted, first_named}
use Rattle.vtoc_index.specs.declared.vol.Vol.{Vol}
use Rattle.vtoc_sets.specs.Sets.{extents_in, volume_in}
use Rattle.pack_machine.specs.Known.{ListsBroken, ListsUnread}
use Rattle.pack_machine.specs.Reads.{HasVolume, IsSetOn}
use Rattle.pack_machine.specs.declared.unread.Unread.{Unread}
use Rattle.pack_machine.proofs.ShelfReads.{begin_set, body_here, is_set, named, no_set}

-- the operation on a directory: its blocks, and its entries
abbrev Change : Type 0
Change = ℕ → List Entry → Result Volume Refusal

refused_by : (p : Bool) (body : Body) (operation : Change) (r : Refusal) → cond p (unreadable body) (Some WrongKind) ≡ Some r → refuse (not p) WrongKind (in_directory body operation) ≡ Err r
refused_by false body operation r is = let same : WrongKind ≡ r = cc in ap (λ (x : Refusal). Err x) same
refused_by true (bodies.Seq blocks) operation r is = absurd cc
refused_by true (bodies.Part dir end entries blocks) operation r is = absurd cc
refused_by true bodies.Catalog operation r is = absurd cc
refused_by true bodies.Other operation r is = absurd cc
refused_by true (bodies.Unreadable track) operation r is = let same : Unreadable track ≡ r = cc in ap (λ (x : Refusal). Err x) same

module _ (image : List ℕ) (v : Vol) (dsn : Dsn) (mounted : IsMounted image v) where
  abbrev pub alone : Shelf
  alone = record { volumes = volume_in image v ∷ [] }

  abbrev pub here : HasVolume alone 0 v
  here = record { image = image; mounted = mounted; there = refl }

  abbrev pub refusal : Option Refusal
  refusal = begin_refusal alone (record { v = 0; dsn = dsn; mode = modes.Area })

  refusal_is : refusal ≡ write_refusal_for modes.Area dsn.bytes (set_of dsn.bytes (volume_in image v))
  unfolding begin_refusal write_refusal
  refusal_is = refl

  by_set : (o : Option DataSet) (operation : Change) (r : Refusal) → write_refusal_for modes.Area dsn.bytes o ≡ Some r
      → on_found o (λ (x : DataSet). refuse (not (is_partitioned dsn.bytes x.attr)) WrongKind (in_directory x.body operation)) ≡ Err r
  by_set None operation r is = let same : NoSet ≡ r = cc in ap (λ (x : Refusal). Err x) same
  by_set (Some x) operation r is = refused_by (is_partitioned dsn.bytes x.attr) x.body operation r is

  pub directory_refused : (r : Refusal) → Some r ≡ refusal → (operation : Change) → on_directory dsn (volume_in image v) operation ≡ Err r
  directory_refused r is operation = by_set (set_of dsn.bytes (volume_in image v)) operation r (sym refusal_is ∙ sym is)

  pub directory_none : first_named dsn.bytes v.slots.items ≡ None → (operation : Change) → on_directory dsn (volume_in image v) operation ≡ Err NoSet
  unfolding set_on
  directory_none none operation = ap (λ (o : Option DataSet). on_found o (λ (x : DataSet). refuse (not (is_partitioned dsn.bytes x.attr)) WrongKind (in_directory x.body operation))) (no_set alone 0 v here dsn.bytes none)

  -- the list of those that can't be read is that of this shelf
  pub lists_alone : (unread : List Unread) → ListsBroken (volume_in image v) unread → ListsUnread alone 0 unread
  unfolding set_on
  lists_alone unread lists = lists

  module _ (slot : ℕ) (f : F1) (first : first_named dsn.bytes v.slots.items ≡ Some slot) (is : slice_get v.slots.items slot ≡ Some (formats.F1 f)) (none : None ≡ refusal) where
    set_there : IsSetOn image v (set_on alone 0 dsn.bytes) (Some f)
    set_there = is_set alone 0 v here dsn.bytes slot f first is

    pub its_name : f.name ≡ dsn.bytes
    its_name = named alone 0 v here dsn.bytes f set_there

    both : (p : Bool) (body : Body) → None ≡ cond p (unreadable body) (Some WrongKind) → (p ≡ true) × (unreadable body ≡ None)
    both true body well = (refl, sym well)
    both false body well = absurd cc

    well : (is_partitioned f.name (attr_of f) ≡ true) × (unreadable (body_here image v f) ≡ None)
    well = both (is_partitioned f.name (attr_of f)) (body_here image v f) (none ∙ begin_set alone 0 v here dsn modes.Area f set_there)

    pub its_part : IsReadablePart image v f
    its_part = record {
      part = record { set = set_there.0.set; slot = slot; dscb = is; partitioned = well.0 };
      readable = subst (λ (b : Body). unreadable b ≡ None) (partitioned_body v.geometry (data_in image v) f.name (attr_of f) (extents_in image v f) f.lstar well.0) well.1;
    }
