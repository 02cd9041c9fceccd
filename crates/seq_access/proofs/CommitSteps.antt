-- Blocks that become those of their set: after the sync of the blocks one write of the format 1 decides.
use Rattle.std.proofs.Common.{◌≡◌, ◌≤◌, ◌<◌, ℕ, true, List, [], None, Ok, Err, Result, inl, inr, refl, sym, ap, ◌∙◌, subst, ⊎_elim}
use Rattle.std.specs.Prelude.{IsErr, OnOk, slice_index_or, unwrap_or, Option}
use Rattle.std.proofs.lemmas.Option.{get_or_from_slice_get}
use Rattle.std.proofs.lemmas.Result.{IfOk-from_err}
use Rattle.dscb_codec.specs.declared.Dscb.{Dscb}
use Rattle.dscb_codec.specs.declared.Dscb.TheVariants as formats
use Rattle.dscb_codec.specs.declared.F1.{F1}
use Rattle.ebcdic_names.specs.declared.names.Dsn.{Dsn}
use Rattle.stop_model.specs.Files.{File, patched}
use Rattle.stop_model.specs.Moments.{Meaning}
use Rattle.stop_model.proofs.MomentLemmas.{elapses_then, elapses_weaker}
use Rattle.pack_spec.specs.Alike.{DifferInVtoc}
use Rattle.pack_spec.specs.Settled.{AreGuarded, AreSettled, IsGuarded, IsSettledVtoc, slots_for}
use Rattle.pack_spec.specs.Volume.{attr_of, volume_by, volume_of, volume_with}
use Rattle.pack_spec.specs.declared.slot.VtocSlot.{VtocSlot}
use Rattle.track_records.specs.Buffers.{Buffer}
use Rattle.vol_model.specs.declared.answers.Mode.{Mode}
use Rattle.vol_model.specs.declared.contents.Body.{Body}
use Rattle.vol_model.specs.declared.contents.Body.TheVariants as bodies
use Rattle.vol_model.specs.declared.contents.Place.{Place}
use Rattle.vol_model.specs.declared.contents.Volume.{Volume}
use Rattle.vol_model.specs.declared.refusals.Refusal.{Refusal}
use Rattle.vol_model.specs.Places.{Content, placed, with_blocks}
use Rattle.vol_model.specs.Shelf.{fits_mode, unreadable, write_on, written}
use Rattle.vtoc_index.specs.declared.vol.Vol.{Vol}
use Rattle.vtoc_index.specs.Index.{IsIndexOf, IsMounted, place_of_slot}
use Rattle.vtoc_index.specs.Last.{lstar_of, with_last}
use Rattle.free_rebuild.specs.Durable.{HaveSlot, LeavesAll, PutsDurably}
use Rattle.free_rebuild.specs.Repairs.{image_named}
use Rattle.seq_access.specs.declared.writer.Writer.{Writer}
use Rattle.seq_access.specs.Bodies.{HasBlocks, IsLastOf, IsSetIn, IsWritable, body_of_set, body_upto, last_in}
use Rattle.seq_access.specs.Writing.{AreSpared, Commits, DifferBehind, HasSetBy, IsLeftInCommit, IsWriting, body_so_far, puts_in, written_by}
use Rattle.seq_access.proofs.PutPlaces.{ends_of, set_of}
use Rattle.seq_access.proofs.RaisedBodies.{raised_body}
use Rattle.seq_access.proofs.RaisedImages.{CanRaise, StandsWritten, raised_differs, raised_mounted, raised_stands}
use Rattle.seq_access.proofs.RaisedSets.{raised}
use Rattle.seq_access.proofs.SparedCalls.{differ_by}
use Rattle.seq_access.proofs.SparedImages.{slots_kept, spared_mounted, volume_kept}
use Rattle.seq_access.proofs.SparedSets.{bare, bare_set, body_kept, differ_back, ends_kept}

-- a body after which blocks may be put can be read
writable_read : (b : Body) → IsWritable b → unreadable b ≡ None
writable_read (bodies.Seq bs) is = refl
writable_read (bodies.Part n end es bs) is = refl
writable_read b is = absurd is

both_ok : {T E P Q R : Type 0} (result : Result T E) → OnOk result P → OnOk result Q → (P → Q → R) → OnOk result R
both_ok (Ok x) p q then = then p q
both_ok (Err e) p q then = tt

module _ (name : List ℕ) (v : Vol) (w : Writer) (i0 : List ℕ) (is : IsWriting i0 v w) (before : List File) (volume : Volume)
    (set : HasSetBy (image_named before name) v is.f) (stands : volume_of (image_named before name) ≡ Ok volume)
    (then' : List File) (here : AreSpared name v is.f (last_in i0 v is.f) before then') (seen : image_named then' name ≡ i0) where
  abbrev f : F1
  f = is.f

  -- the set's last record
  abbrev last : Place
  last = last_in i0 v f

  abbrev image : List ℕ
  image = image_named before name

  abbrev old_volume : Volume
  old_volume = volume_by image v.geometry v.vtoc

  the_set : IsSetIn image (bare v) f
  the_set = record { set = set; slot = w.slot; dscb = is.slot }

  differ_then : DifferBehind v f last image i0
  differ_then = subst (DifferBehind v f last image) seen here.image

  -- it is that of the image before, too
  ends : IsLastOf image v f last
  ends = ends_kept i0 image v f (bare_set i0 v f (set_of i0 v w is)) last (differ_back image i0 v f the_set last differ_then) (ends_of i0 v w is)

  same_volume : (other : Volume) → volume_of image ≡ Ok other → other ≡ old_volume
  same_volume other there = let same : Ok other ≡ Ok old_volume = sym there ∙ set.mounted.volume in cc

  -- what differs after the last block alone stands for the volume, and its VTOC is the same
  module _ (files : List File) (spared : AreSpared name v f last before files) where
    differ : DifferBehind (bare v) f last image (image_named files name)
    differ = differ_by v (record (v.buf) { records = [] }) f last image (image_named files name) spared.image

    volume_there : volume_of (image_named files name) ≡ Ok old_volume
    volume_there =
        let index : IsMounted (image_named files name) (bare v) = spared_mounted image (image_named files name) (bare v) f the_set last differ ends (inl refl) in
        index.volume ∙ ap (λ (x : Volume). Ok x) (volume_kept image (image_named files name) (bare v) f the_set last differ ends)

    pub same_stands : volume_of (image_named files name) ≡ Ok volume
    same_stands = volume_there ∙ ap (λ (x : Volume). Ok x) (sym (same_volume volume stands))

    same_slots : slots_for (image_named files name) old_volume ≡ slots_for image old_volume
    unfolding volume_with
    same_slots = slots_kept image (image_named files name) (bare v) f the_set last differ

    pub same_guarded : IsGuarded image → IsGuarded (image_named files name)
    same_guarded was =
        let here : AreGuarded (slots_for image old_volume) old_volume = subst (λ (x : Volume). AreGuarded (slots_for image x) x) (same_volume was.0 was.1) was.2 in
        (old_volume, volume_there, subst (λ (ss : List VtocSlot). AreGuarded ss old_volume) (sym same_slots) here)

    pub same_settled : IsSettledVtoc image → IsSettledVtoc (image_named files name)
    same_settled was =
        let here : AreSettled (slots_for image old_volume) old_volume = subst (λ (x : Volume). AreSettled (slots_for image x) x) (same_volume was.0 was.1) was.2 in
        (old_volume, volume_there, subst (λ (ss : List VtocSlot). AreSettled ss old_volume) (sym same_slots) here)

    -- so a stop that leaves it leaves the volume as before
    pub left_before : (stepped : Result Volume Refusal) → IsLeftInCommit name volume stepped before files
    left_before stepped = record { stands = inl same_stands; guarded = same_guarded; others = spared.others }

  module _ (mode : Mode) (cs : List Content) (kind : fits_mode mode f.name (attr_of f) ≡ true) (all : written mode (body_of_set i0 v f) cs ≡ puts_in i0 v f w) (low : w.last.tt < 65536) (small : w.last.r < 256) (first : 1 ≤ w.last.r) where
    abbrev body : Body
    body = body_of_set i0 v f

    abbrev dsn : Dsn
    dsn = record { bytes = f.name }

    abbrev stepped : Result Volume Refusal
    stepped = write_on mode dsn cs volume

    -- where the blocks aren't durable yet, or the call failed before
    pub commit_fails : {T E A B : Type 0} {m0 m1 : Meaning (List File)} {result : Result T E} (answer : Result A B) (v' : Vol) → IsErr answer → LeavesAll (AreSpared name v f last before) m0 m1 result → Commits name volume stepped v' before m0 m1 answer
    commit_fails answer v' failed call = record {
      done = IfOk-from_err answer _ failed;
      printed = call.printed;
      moments = elapses_weaker call.moments (λ files p left. (left_before files left.0 stepped, left.1));
    }

    module _ (m0 m1 : Meaning (List File)) (b : Buffer)
        (mounted : IsMounted (image_named m1.state name) (record v { buf = b })) (blocks : body_upto (image_named m1.state name) v f (lstar_of w.last) ≡ bodies.Seq (written_by is)) where
      abbrev v1 : Vol
      v1 = record v { buf = b }

      abbrev i1 : List ℕ
      i1 = image_named m1.state name

      -- the body before is the set's still
      was : AreSpared name v f last before m1.state → body_of_set i1 v f ≡ body
      was now = body_kept image i1 v f the_set last now.image ends ∙ sym (body_kept image i0 v f the_set last differ_then ends)

      can : AreSpared name v f last before m1.state → CanRaise i1 v1 w.slot f w.last mode body cs
      can now = record {
        mounted = mounted;
        set = is.slot;
        kind = kind;
        readable = writable_read body is.writable;
        was = was now;
        is = raised_body i0 v w is low small first i1 (was now) blocks ∙ ap (λ (ds : List Content). with_blocks body (placed v.geometry.device body ds)) (sym all);
      }

      -- the write of the format 1, done or failed
      pub commit_ends : {T E A B : Type 0} {m2 : Meaning (List File)} {x : A} (result : Result T E) (balance : ℕ) (v2 : Vol) → LeavesAll {T = A} {E = B} (AreSpared name v f last before) m0 m1 (Ok x)
          → PutsDurably name v1 w.slot (with_last w.last balance (slice_index_or v1.slots.items w.slot formats.F0)) v2 m1 m2 result → v2 ≡ record v1 { slots = v2.slots; buf = v2.buf } → Commits name volume stepped v2 before m0 m2 result
      commit_ends {m2 = m2} result balance v2 ended put same =
          let d : Dscb = formats.F1 (raised w.last balance f) in
          let is_d : with_last w.last balance (slice_index_or v1.slots.items w.slot formats.F0) ≡ d = ap (with_last w.last balance) (get_or_from_slice_get v1.slots.items w.slot (formats.F1 f) formats.F0 is.slot) in
          let puts_d : PutsDurably name v1 w.slot d v2 m1 m2 result = subst (λ (y : Dscb). PutsDurably name v1 w.slot y v2 m1 m2 result) is_d put in
          let put : HaveSlot name v1 w.slot d puts_d.bytes m1.state puts_d.after = puts_d.put in
          let now : AreSpared name v f last before m1.state = ended.done.1 in
          let raised_image : List ℕ = patched i1 (place_of_slot v1 w.slot) puts_d.bytes in
          let there : image_named puts_d.after name ≡ raised_image = ap (λ (o : Option (List ℕ)). unwrap_or o []) put.there in
          let fill : StandsWritten volume dsn mode cs i1 raised_image = raised_stands i1 raised_image v1 w.slot f w.last balance mode body cs puts_d.bytes (can now) puts_d.size puts_d.dscb refl put.image volume (same_stands m1.state now) in
          let left_after : IsLeftInCommit name volume stepped before puts_d.after = record {
            stands = inr (fill.after, fill.step, ap volume_of there ∙ fill.stands);
            guarded = λ guarded. subst IsGuarded (sym there) (fill.guarded (same_guarded m1.state now guarded));
            others = λ other apart. put.others other apart ∙ now.others other apart;
          } in
          record {
            done = both_ok result puts_d.step.done puts_d.index (λ done index.
                let state : image_named m2.state name ≡ raised_image = ap (λ (files : List File). image_named files name) done.0 ∙ there in
                record {
                  after = fill.after;
                  step = fill.step;
                  stands = ap volume_of state ∙ fill.stands;
                  index = subst (λ (i : List ℕ). IsMounted i v2) (sym state) (raised_mounted i1 raised_image v1 w.slot f w.last balance mode body cs puts_d.bytes (can now) puts_d.size puts_d.dscb refl put.image v2 same (subst (λ (i : List ℕ). IsIndexOf i v2) state index));
                  settled = λ settled. subst IsSettledVtoc (sym state) (fill.settled (same_settled m1.state now settled));
                  changes = record {
                    old = bare v;
                    geometry = ap (λ (u : Vol). u.geometry) same;
                    vtoc = ap (λ (u : Vol). u.vtoc) same;
                    f = f;
                    set = the_set;
                    last = last;
                    ends = ends;
                    between = i1;
                    behind = differ_by v (record (v.buf) { records = [] }) f last image i1 now.image;
                    alone = subst (λ (i : List ℕ). DifferInVtoc v.geometry v.vtoc i1 i) (sym state) (raised_differs i1 raised_image v1 w.slot f w.last balance mode body cs puts_d.bytes (can now) puts_d.size puts_d.dscb refl put.image);
                  };
                  durable = done.1;
                });
            printed = puts_d.step.printed ∙ ended.printed;
            moments = elapses_then
                (elapses_weaker ended.moments (λ files p left. (left_before files left.0 stepped, left.1)))
                (elapses_weaker puts_d.step.moments (λ files p left. (
                  ⊎_elim (λ same_files. subst (IsLeftInCommit name volume stepped before) (sym same_files) (left_before m1.state now stepped)) (λ raised_files. subst (IsLeftInCommit name volume stepped before) (sym raised_files) left_after) left.0,
                  left.1 ∙ ended.printed,
                )));
          }

    -- the same by what the calls tell
    pub commit_done : {T E A B : Type 0} (m0 m1 m2 : Meaning (List File)) (v1 v2 : Vol) (n1 told : List ℕ) (x : A) (result : Result T E) (balance : ℕ) → v1 ≡ record v { buf = v1.buf } → n1 ≡ name → told ≡ image_named m1.state name → IsMounted told v1 → HasBlocks (body_so_far told v1 f w) (written_by is) → LeavesAll {T = A} {E = B} (AreSpared name v f last before) m0 m1 (Ok x)
        → PutsDurably n1 v1 w.slot (with_last w.last balance (slice_index_or v1.slots.items w.slot formats.F0)) v2 m1 m2 result → v2 ≡ record v1 { slots = v2.slots; buf = v2.buf } → Commits name volume stepped v2 before m0 m2 result
    commit_done m0 m1 m2 v1 v2 n1 told x result balance index names image mounted blocks ended put same =
        let b : Buffer = v1.buf in
        let now : Vol = record v { buf = b } in
        let mounted' : IsMounted (image_named m1.state name) now = subst (IsMounted (image_named m1.state name)) index (subst (λ (i : List ℕ). IsMounted i v1) image mounted) in
        let blocks' : body_upto (image_named m1.state name) v f (lstar_of w.last) ≡ bodies.Seq (written_by is) =
        subst (λ (u : Vol). body_so_far (image_named m1.state name) u f w ≡ bodies.Seq (written_by is)) index (subst (λ (i : List ℕ). body_so_far i v1 f w ≡ bodies.Seq (written_by is)) image blocks)
        in
        let put' : PutsDurably name now w.slot (with_last w.last balance (slice_index_or now.slots.items w.slot formats.F0)) v2 m1 m2 result =
        subst (λ (u : Vol). PutsDurably name u w.slot (with_last w.last balance (slice_index_or u.slots.items w.slot formats.F0)) v2 m1 m2 result) index
        (subst (λ (n : List ℕ). PutsDurably n v1 w.slot (with_last w.last balance (slice_index_or v1.slots.items w.slot formats.F0)) v2 m1 m2 result) names put)
        in
        commit_ends m0 m1 b mounted' blocks' result balance v2 ended put' (same ∙ ap (λ (u : Vol). record u { slots = v2.slots; buf = v2.buf }) index)
