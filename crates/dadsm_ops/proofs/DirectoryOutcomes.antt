-- The outcome of a request for a new data set, with a directory or without.
use Rattle.std.proofs.Common.{◌≡◌, ℕ, Bool, true, false, List, Option, Some, None, Result, Ok, Err, ap, ◌∙◌}
use Rattle.std.specs.Prelude.{nat_lt}
use Rattle.ebcdic_names.specs.declared.names.Dsn.{Dsn}
use Rattle.vol_model.specs.declared.contents.Attr.{Attr}
use Rattle.vol_model.specs.declared.contents.Run.{Run}
use Rattle.vol_model.specs.declared.contents.Volume.{Volume}
use Rattle.vol_model.specs.declared.refusals.Refusal.{Refusal}
use Rattle.vol_model.specs.declared.refusals.Refusal.TheVariants as refusals
use Rattle.vol_model.specs.declared.requests.Request.{Request}
use Rattle.vol_model.specs.Places.{tracks_in}
use Rattle.vol_model.specs.Shelf.{allocate_on, has_set, if_room, lacks_room, on_choice, refuse, with_new}
use Rattle.vol_model.specs.Slots.{slots_needed}
use Rattle.vol_model.specs.Space.{choice}
use Rattle.dadsm_ops.specs.Allocating.{is_wrong}

module _ (dsn : Dsn) (attr : Attr) (q : Request) (dir : ℕ) (volume : Volume) where
  -- the volume with the set on these tracks
  abbrev pub after : List Run → Volume
  after runs = with_new dsn attr q dir volume runs

  -- more slots are needed than there are
  abbrev pub is_short : List Run → Bool
  is_short runs = nat_lt (after runs).slots (slots_needed (after runs))

  -- the directory doesn't fit
  abbrev pub is_crowded : List Run → Bool
  is_crowded runs = lacks_room volume.geometry.device dsn.bytes dir (tracks_in runs)

  abbrev outcome : Bool → Bool → Option (List Run) → Result Volume Refusal
  outcome exists wrong chosen = refuse exists refusals.SetExists (refuse wrong refusals.WrongKind (on_choice q.primary chosen (λ runs. if_room (is_crowded runs) (after runs))))

  outcome_is : allocate_on dsn attr q dir volume ≡ outcome (has_set volume dsn.bytes) (is_wrong dsn attr dir) (choice volume q.unit q.contig q.primary)
  unfolding allocate_on
  outcome_is = λ i. outcome (has_set volume dsn.bytes) (is_wrong dsn attr dir) (choice volume q.unit q.contig q.primary)

  pub set_exists : has_set volume dsn.bytes ≡ true → allocate_on dsn attr q dir volume ≡ Err refusals.SetExists
  set_exists exists = outcome_is ∙ ap (λ (b : Bool). outcome b (is_wrong dsn attr dir) (choice volume q.unit q.contig q.primary)) exists

  module _ (absent : has_set volume dsn.bytes ≡ false) where
    new_name : allocate_on dsn attr q dir volume ≡ outcome false (is_wrong dsn attr dir) (choice volume q.unit q.contig q.primary)
    new_name = outcome_is ∙ ap (λ (b : Bool). outcome b (is_wrong dsn attr dir) (choice volume q.unit q.contig q.primary)) absent

    pub wrong_kind : is_wrong dsn attr dir ≡ true → allocate_on dsn attr q dir volume ≡ Err refusals.WrongKind
    wrong_kind wrong = new_name ∙ ap (λ (b : Bool). outcome false b (choice volume q.unit q.contig q.primary)) wrong

    module _ (right : is_wrong dsn attr dir ≡ false) where
      of_kind : allocate_on dsn attr q dir volume ≡ outcome false false (choice volume q.unit q.contig q.primary)
      of_kind = new_name ∙ ap (λ (b : Bool). outcome false b (choice volume q.unit q.contig q.primary)) right

      pub no_space : choice volume q.unit q.contig q.primary ≡ None → allocate_on dsn attr q dir volume ≡ Err (refusals.NoSpace q.primary)
      no_space none = of_kind ∙ ap (outcome false false) none

      module _ (runs : List Run) (chosen : choice volume q.unit q.contig q.primary ≡ Some runs) where
        on_runs : allocate_on dsn attr q dir volume ≡ if_room (is_crowded runs) (after runs)
        on_runs = of_kind ∙ ap (outcome false false) chosen

        abbrev judged : Bool → Bool → Result Volume Refusal
        judged short crowded = refuse short (refusals.VtocFull (slots_needed (after runs))) (refuse crowded refusals.NoRoom (Ok (after runs)))

        pub vtoc_full : is_short runs ≡ true → allocate_on dsn attr q dir volume ≡ Err (refusals.VtocFull (slots_needed (after runs)))
        vtoc_full short = on_runs ∙ ap (λ (b : Bool). judged b (is_crowded runs)) short

        pub no_room : is_short runs ≡ false → is_crowded runs ≡ true → allocate_on dsn attr q dir volume ≡ Err refusals.NoRoom
        no_room long crowded = on_runs ∙ ap (λ (b : Bool). judged b (is_crowded runs)) long ∙ ap (judged false) crowded

        pub set_made : is_short runs ≡ false → is_crowded runs ≡ false → allocate_on dsn attr q dir volume ≡ Ok (after runs)
        set_made long roomy = on_runs ∙ ap (λ (b : Bool). judged b (is_crowded runs)) long ∙ ap (judged false) roomy
