-- The volume of slots of which one holds its format 1 with a further last block: it is the one after its data set was written to.
use Rattle.std.proofs.Common.{◌≡◌, ℕ, Bool, true, cond, List, [], map, Option, Some, None, Ok, refl, sym, ap, ◌∙◌}
use Rattle.std.specs.Prelude.{slice_get}
use Rattle.ckd_image.specs.declared.header.Geometry.{Geometry}
use Rattle.dscb_codec.specs.declared.Dscb.TheVariants as formats
use Rattle.dscb_codec.specs.declared.F1.{F1}
use Rattle.ebcdic_names.specs.declared.names.Dsn.{Dsn}
use Rattle.pack_spec.specs.declared.slot.VtocSlot.{VtocSlot}
use Rattle.pack_spec.specs.Bodies.{body_of}
use Rattle.pack_spec.specs.Rules.{counted_extents, slots_faults}
use Rattle.pack_spec.specs.Volume.{attr_of, counted_runs, data_set_of, volume_with}
use Rattle.pack_spec.specs.Vtoc.{run_of_extent}
use Rattle.vol_model.specs.declared.answers.Mode.{Mode}
use Rattle.vol_model.specs.declared.contents.Body.{Body}
use Rattle.vol_model.specs.declared.contents.DataSet.{DataSet}
use Rattle.vol_model.specs.declared.contents.Place.{Place}
use Rattle.vol_model.specs.declared.contents.Run.{Run}
use Rattle.vol_model.specs.declared.contents.Volume.{Volume}
use Rattle.vol_model.specs.declared.refusals.Refusal.{Refusal}
use Rattle.vol_model.specs.declared.refusals.Refusal.TheVariants.{WrongKind}
use Rattle.vol_model.specs.Places.{Content, placed, with_blocks}
use Rattle.vol_model.specs.Shelf.{fits_mode, unless_refused, unreadable, with_set, with_written, write_on, write_refusal, write_refusal_for, written}
use Rattle.vtoc_index.specs.Index.{with_dscb}
use Rattle.vtoc_index.specs.Last.{lstar_of}
use Rattle.slot_laws.proofs.ChangedVolumes.{set_there, volume_changed}

-- a format 1 with this last block and this track balance
abbrev pub raised : Place → ℕ → F1 → F1
raised last balance f = record f { lstar = lstar_of last; balance = balance }

module _ (g : Geometry) (tracks : List (List ℕ)) (slots : List VtocSlot) (k : ℕ) (s : VtocSlot) (f : F1) (last : Place) (balance : ℕ) (at : slice_get slots k ≡ Some s) (set : s.content ≡ Ok (formats.F1 f)) (none : slots_faults g slots ≡ []) where
  abbrev now : F1
  now = raised last balance f

  abbrev after : List VtocSlot
  after = with_dscb k (formats.F1 now) slots

  abbrev as_set : F1 → DataSet
  as_set h = data_set_of g tracks slots h

  counted_now : counted_extents slots now ≡ counted_extents slots f
  unfolding counted_extents
  counted_now = refl

  module _ (mode : Mode) (cs : List Content) (body : Body) (kind : fits_mode mode f.name (attr_of f) ≡ true) (readable : unreadable body ≡ None) (was : body_of g tracks f.name (attr_of f) (counted_runs g slots f) f.lstar ≡ body)
      (is : body_of g tracks f.name (attr_of f) (counted_runs g slots f) (lstar_of last) ≡ with_blocks body (placed g.device body (written mode body cs))) (label : List ℕ) (vtoc : Run) where
    abbrev volume : Volume
    volume = volume_with g tracks label vtoc slots

    abbrev more : DataSet → DataSet
    more x = with_written g.device mode cs x

    abbrev make : Body → DataSet
    make body = record { name = record { bytes = f.name }; attr = attr_of f; extents = counted_runs g slots f; body = body }

    set_was : as_set f ≡ make body
    unfolding data_set_of
    set_was = ap make was

    -- the data set with its blocks
    set_now : as_set now ≡ more (as_set f)
    unfolding data_set_of attr_of
    set_now =
        ap (λ (es : List (List ℕ)). record { name = record { bytes = f.name }; attr = attr_of f; extents = map (run_of_extent g) es; body = body_of g tracks f.name (attr_of f) (map (run_of_extent g) es) (lstar_of last) }) counted_now
        ∙ ap make is
        ∙ sym (ap more set_was)

    -- The volume of the slots with the last block raised is the one with these contents.
    pub volume_written : volume_with g tracks label vtoc after ≡ with_set volume f.name more
    volume_written = volume_changed g tracks slots k s f at set none now more (λ x. refl) set_now label vtoc

    -- and the operation isn't refused
    pub written_on : write_on mode (record { bytes = f.name }) cs volume ≡ Ok (with_set volume f.name more)
    unfolding write_on write_refusal volume_with
    written_on =
        let dsn : Dsn = record { bytes = f.name } in
        ap (λ (o : Option DataSet). unless_refused (write_refusal_for mode f.name o) (with_set volume f.name more)) (set_there g tracks slots k s f at set none label vtoc ∙ ap (λ (x : DataSet). Some x) set_was)
        ∙ ap (λ (b : Bool). unless_refused (cond b (unreadable body) (Some WrongKind)) (with_set volume f.name more)) kind
        ∙ ap (λ (r : Option Refusal). unless_refused r (with_set volume f.name more)) readable
