-- The volume of slots of which one holds its format 1 without blocks: it is the one after an Empty of its data set.
use Rattle.std.proofs.Common.{◌≡◌, ℕ, ◌/◌, Bool, true, false, cond, not, ◌&&◌, ◌||◌, List, [], ◌∷◌, map, Option, Some, None, Ok, refl, sym, ap, subst, ◌∙◌, arith}
use Rattle.std.specs.Prelude.{◌==◌, replicate, slice_get, Result, if◌then◌else◌}
use Rattle.std.proofs.lemmas.Bool.Decides.{nat_tests}
use Rattle.ckd_image.specs.declared.header.Geometry.{Geometry}
use Rattle.dscb_codec.specs.declared.Dscb.TheVariants as formats
use Rattle.dscb_codec.specs.declared.F1.{F1}
use Rattle.ebcdic_names.specs.declared.names.Dsn.{Dsn}
use Rattle.pack_spec.specs.declared.slot.VtocSlot.{VtocSlot}
use Rattle.pack_spec.specs.Blocks.{has_no_block, seq_body, seq_unless}
use Rattle.pack_spec.specs.Bodies.{body_of}
use Rattle.pack_spec.specs.Rules.{counted_extents, slots_faults}
use Rattle.pack_spec.specs.Volume.{attr_of, counted_runs, data_set_of, volume_with}
use Rattle.pack_spec.specs.Vtoc.{run_of_extent}
use Rattle.pack_spec.specs.Directories.{part_body}
use Rattle.pack_spec.proofs.BodyKinds.{partitioned_body, sequential_body}
use Rattle.pack_spec.proofs.PartBodies.{part_or_unread}
use Rattle.vol_model.specs.declared.contents.Attr.{Attr}
use Rattle.vol_model.specs.declared.contents.Block.{Block}
use Rattle.vol_model.specs.declared.contents.Body.{Body}
use Rattle.vol_model.specs.declared.contents.Body.TheVariants as bodies
use Rattle.vol_model.specs.declared.contents.DataSet.{DataSet}
use Rattle.vol_model.specs.declared.contents.Entry.{Entry}
use Rattle.vol_model.specs.declared.contents.Place.{Place}
use Rattle.vol_model.specs.declared.contents.Run.{Run}
use Rattle.vol_model.specs.declared.contents.Volume.{Volume}
use Rattle.vol_model.specs.declared.refusals.Refusal.{Refusal}
use Rattle.vol_model.specs.declared.refusals.Refusal.TheVariants.{WrongKind}
use Rattle.vol_model.specs.Shelf.{empty_on, empty_set, emptied, if_readable, is_catalog, is_partitioned, is_sequential, is_vacant, may_empty, set_of, with_set, without_blocks}
use Rattle.shelf_laws.proofs.Steps.{found_ok, ok_same, refuse_ok}
use Rattle.vtoc_index.specs.Index.{with_dscb}
use Rattle.dadsm_ops.specs.Emptying.{emptied_format_1}
use Rattle.slot_laws.proofs.ChangedVolumes.{set_there, volume_changed}
use Rattle.dadsm_ops.proofs.VacantSets.{vacant_part}

-- ---- a body without blocks

plain_body : (o : Option ℕ) (blocks : List Block) → without_blocks (seq_unless o blocks) ≡ bodies.Seq []
plain_body None blocks = refl
plain_body (Some k) blocks = refl

-- a sequential body
seq_emptied : (g : Geometry) (tracks : List (List ℕ)) (extents : List Run) (lstar : List ℕ) → without_blocks (seq_body g tracks extents lstar) ≡ bodies.Seq []
unfolding seq_body
seq_emptied g tracks extents lstar = by_test (has_no_block lstar) _ (plain_body _ _)
  where
    by_test : (b : Bool) (body : Body) → without_blocks body ≡ bodies.Seq [] → without_blocks (cond b (bodies.Seq []) body) ≡ bodies.Seq []
    by_test true body plain = refl
    by_test false body plain = plain

-- the organization of a data set that is emptied
abbrev after_dsorg : ℕ → ℕ
after_dsorg d = if d == 0 then 0x4000 else d

seq_kept : (c : Bool) (d : ℕ) → (not c && d / 512 == 32) ≡ true → (not c && after_dsorg d / 512 == 32) ≡ true
seq_kept true d is = is
seq_kept false d is = by_zero (d == 0)
  where
    by_zero : (b : Bool) → (cond b 0x4000 d / 512 == 32) ≡ true
    by_zero true = refl
    by_zero false = is

part_kept : (c : Bool) (d : ℕ) → (not c && d / 512 == 1) ≡ true → ((d == 0) ≡ false) × ((not c && after_dsorg d / 512 == 1) ≡ true)
part_kept true d is = cc
part_kept false d is =
    let some : (d == 0) ≡ false = apart d is in
    (some, ap (λ (b : Bool). cond b 0x4000 d / 512 == 1) some ∙ is)
  where
    apart : (n : ℕ) → (n / 512 == 1) ≡ true → (n == 0) ≡ false
    apart n one = grind (arith, nat_tests)

not_not : (b : Bool) → not b ≡ false → b ≡ true
not_not true is = refl
not_not false is = cc

-- a partitioned body without entries and blocks, if it can be read
vacant_is : (n : ℕ) (end : Place) (es : List Entry) (bs : List Block) → is_vacant (bodies.Part n end es bs) ≡ true → bodies.Part n end es bs ≡ bodies.Part n end [] []
vacant_is n end [] [] is = refl
vacant_is n end [] (b ∷ bs) is = cc
vacant_is n end (e ∷ es) bs is = cc

-- a body by the answers to the tests on its kind
abbrev by_kind : Bool → Bool → Bool → Body → Body → Body
by_kind s p c seq part = cond s seq (cond p part (cond c (bodies.Unreadable 0) bodies.Other))

-- Where a data set may be emptied and its body is read, that body without blocks is the one of which no block is named.
module _ (g : Geometry) (tracks : List (List ℕ)) (name : List ℕ) (attr now : Attr) (extents : List Run) (lstar : List ℕ) (new w : Volume) (kind : now.dsorg ≡ after_dsorg attr.dsorg) where
  abbrev readable : Body → Type 0
  readable body = (let rest : Result Volume Refusal = Ok new in if_readable body rest) ≡ Ok w

  seq_without : is_sequential name now ≡ true → body_of g tracks name now extents (replicate 3 0) ≡ bodies.Seq []
  unfolding seq_body
  seq_without is = sequential_body g tracks name now extents (replicate 3 0) is

  part_without : is_partitioned name now ≡ true → is_vacant (part_body g tracks extents lstar) ≡ true → readable (part_body g tracks extents lstar) → body_of g tracks name now extents (replicate 3 0) ≡ without_blocks (part_body g tracks extents lstar)
  part_without is = part_or_unread g tracks extents lstar
      (λ (b : Body). part_body g tracks extents lstar ≡ b → is_vacant b ≡ true → readable b → body_of g tracks name now extents (replicate 3 0) ≡ without_blocks b)
      (λ n end es bs read vacant ok.
      partitioned_body g tracks name now extents (replicate 3 0) is ∙ vacant_part g tracks extents lstar n end (read ∙ vacant_is n end es bs vacant))
      (λ k read vacant ok. cc)
      refl

  pub body_emptied : may_empty name attr (body_of g tracks name attr extents lstar) ≡ true → readable (body_of g tracks name attr extents lstar) → body_of g tracks name now extents (replicate 3 0) ≡ without_blocks (body_of g tracks name attr extents lstar)
  unfolding body_of
  body_emptied = by (is_sequential name attr) (is_partitioned name attr) refl refl
    where
      only : (s z p v : Bool) → s ≡ false → z ≡ false → (s || (z || (p && v))) ≡ true → v ≡ true
      only true z p v other none may = cc
      only false true p v other none may = cc
      only false false true v other none may = may
      only false false false v other none may = cc

      without : (c : Bool) (d : ℕ) → ((d == 0 && not c) || false) ≡ true → (c ≡ false) × ((not c && after_dsorg d / 512 == 32) ≡ true)
      without true d may = absurd (never (d == 0) may)
        where
          never : (b : Bool) → ((b && false) || false) ≡ true → ⊥
          never true e = cc
          never false e = cc
      without false d may = (refl, by_zero (d == 0) may)
        where
          by_zero : (b : Bool) → ((b && true) || false) ≡ true → (cond b 0x4000 d / 512 == 32) ≡ true
          by_zero true e = refl
          by_zero false e = cc

      by : (s p : Bool) → is_sequential name attr ≡ s → is_partitioned name attr ≡ p
          → let body : Body = by_kind s p (is_catalog name) (seq_body g tracks extents lstar) (part_body g tracks extents lstar) in
          (s || ((attr.dsorg == 0 && not (is_catalog name)) || (p && is_vacant body))) ≡ true → readable body → body_of g tracks name now extents (replicate 3 0) ≡ without_blocks body
      by true p seq part may read =
          seq_without (ap (λ (d : ℕ). not (is_catalog name) && d / 512 == 32) kind ∙ seq_kept (is_catalog name) attr.dsorg seq) ∙ sym (seq_emptied g tracks extents lstar)
      by false true seq part may read =
          let kept = part_kept (is_catalog name) attr.dsorg part in
          part_without (ap (λ (d : ℕ). not (is_catalog name) && d / 512 == 1) kind ∙ kept.1) (only false (attr.dsorg == 0 && not (is_catalog name)) true _ refl (ap (λ (b : Bool). b && not (is_catalog name)) kept.0) may) read
      by false false seq part may read =
          let flat = without (is_catalog name) attr.dsorg may in
          seq_without (ap (λ (d : ℕ). not (is_catalog name) && d / 512 == 32) kind ∙ flat.1)
          ∙ ap (λ (c : Bool). without_blocks (cond c (bodies.Unreadable 0) bodies.Other)) (sym flat.0)

-- ---- the data sets in the slots

module _ (g : Geometry) (tracks : List (List ℕ)) (slots : List VtocSlot) (k : ℕ) (s : VtocSlot) (f : F1) (attr : Attr) (at : slice_get slots k ≡ Some s) (set : s.content ≡ Ok (formats.F1 f)) (none : slots_faults g slots ≡ []) where
  abbrev now : F1
  now = emptied_format_1 attr f

  abbrev after : List VtocSlot
  after = with_dscb k (formats.F1 now) slots

  abbrev as_set : F1 → DataSet
  as_set h = data_set_of g tracks slots h

  module _ (label : List ℕ) (vtoc : Run) (w : Volume) (done : empty_on (record { bytes = f.name }) attr (volume_with g tracks label vtoc slots) ≡ Ok w) where
    abbrev volume : Volume
    volume = volume_with g tracks label vtoc slots

    -- the outcome, and what wasn't refused
    judged : (may_empty f.name (as_set f).attr (as_set f).body ≡ true) × ((let rest : Result Volume Refusal = Ok (with_set volume f.name (emptied attr)) in if_readable (as_set f).body rest) ≡ Ok w)
    unfolding empty_on volume_with
    judged =
        let dsn : Dsn = record { bytes = f.name } in
        let of = found_ok (set_of f.name volume) (empty_set dsn attr volume) w done in
        let same : of.0 ≡ as_set f = let both : Some of.0 ≡ Some (as_set f) = sym of.1 ∙ set_there g tracks slots k s f at set none label vtoc in cc in
        let step : empty_set dsn attr volume (as_set f) ≡ Ok w = subst (λ (y : DataSet). empty_set dsn attr volume y ≡ Ok w) same of.2 in
        let kind = refuse_ok (not (may_empty f.name (as_set f).attr (as_set f).body)) WrongKind (if_readable (as_set f).body (Ok (with_set volume f.name (emptied attr)))) w step in
        (not_not (may_empty f.name (as_set f).attr (as_set f).body) kind.0, kind.1)

    counted_now : counted_extents slots now ≡ counted_extents slots f
    unfolding counted_extents
    counted_now = refl

    -- the data set without blocks
    set_now : as_set now ≡ emptied attr (as_set f)
    unfolding data_set_of attr_of
    set_now =
        let make : List Run → Body → DataSet = λ runs body. record { name = record { bytes = f.name }; attr = attr_of now; extents = runs; body = body } in
        ap (λ (es : List (List ℕ)). make (map (run_of_extent g) es) (body_of g tracks f.name (attr_of now) (map (run_of_extent g) es) (replicate 3 0))) counted_now
        ∙ ap (make (counted_runs g slots f))
        (body_emptied g tracks f.name (attr_of f) (attr_of now) (counted_runs g slots f) f.lstar (with_set volume f.name (emptied attr)) w refl judged.0 judged.1)

    -- The volume of the slots with the data set emptied is the one after its Empty.
    pub volume_emptied : volume_with g tracks label vtoc after ≡ with_set volume f.name (emptied attr)
    volume_emptied = volume_changed g tracks slots k s f at set none now (emptied attr) (λ x. refl) set_now label vtoc

    pub volume_then : with_set volume f.name (emptied attr) ≡ w
    volume_then = readable_same (as_set f).body (with_set volume f.name (emptied attr)) judged.1
      where
        readable_same : (body : Body) (new : Volume) → (let rest : Result Volume Refusal = Ok new in if_readable body rest) ≡ Ok w → new ≡ w
        readable_same (bodies.Seq bs) new e = ok_same new w e
        readable_same (bodies.Part dir end es bs) new e = ok_same new w e
        readable_same bodies.Catalog new e = ok_same new w e
        readable_same bodies.Other new e = ok_same new w e
        readable_same (bodies.Unreadable track) new e = cc
