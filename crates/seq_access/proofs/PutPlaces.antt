-- Where the next block of a writer goes on an image, and what a write after the records of that track leaves.
use Rattle.std.proofs.Common.{◌≡◌, ◌≢◌, ◌⊎◌, ◌+◌, ◌≤◌, ◌<◌, ◌/◌, ◌%◌, ℕ, Bool, true, false, cond, List, [], ◌∷◌, ◌++◌, length, map, drop, Option, Some, None, inl, inr, refl, sym, ap, ◌∙◌, subst, arith, ⊎_elim}
use Rattle.std.specs.Prelude.{slice_get}
use Rattle.std.specs.List.{range_with_len}
use Rattle.std.proofs.lemmas.Bool.Decides.{eqb_tells}
use Rattle.std.proofs.lemmas.List.{take_all}
use Rattle.std.proofs.lemmas.Slice.Eq.{bytes_eq-Decides}
use Rattle.ckd_image.specs.Fit.{fits}
use Rattle.ckd_image.specs.declared.device.DiskType.{DiskType}
use Rattle.ckd_image.specs.declared.header.Geometry.{Geometry}
use Rattle.ckd_image.specs.Track.{Record}
use Rattle.ckd_image.specs.Reading.{records_of}
use Rattle.ckd_image.proofs.Grammar.{read_past, reads_front}
use Rattle.vol_model.specs.declared.contents.Block.{Block}
use Rattle.vol_model.specs.declared.contents.Body.TheVariants.{Seq}
use Rattle.vol_model.specs.declared.contents.Place.{Place}
use Rattle.vol_model.specs.Places.{Content, lengths, next_place, place_behind}
use Rattle.pack_spec.specs.Blocks.{blocks_at, blocks_from, has_no_block, last_of, owned_tracks, records_in, seq_body, seq_of}
use Rattle.pack_spec.specs.Label.{heads_of, records_on, track_bytes}
use Rattle.pack_spec.specs.Volume.{attr_of}
use Rattle.track_records.specs.Appends.{IsContinued, MayContinue}
use Rattle.pack_spec.proofs.FrontRecords.{count_up}
use Rattle.vtoc_index.specs.declared.vol.Vol.{Vol}
use Rattle.vtoc_index.specs.Last.{lstar_of}
use Rattle.vtoc_sets.specs.Sets.{extents_in}
use Rattle.seq_access.specs.declared.writer.Writer.{Writer}
use Rattle.seq_access.specs.Bodies.{IsLastOf, IsSetIn, data_in, last_in, owned_in}
use Rattle.seq_access.specs.Writing.{DifferBehind, IsNotBefore, IsWriting, record_next, sizes, written_by}
use Rattle.seq_access.proofs.LastPlaces.{last_said}
use Rattle.seq_access.proofs.MoreBlocks.{Parts, parts_of}
use Rattle.seq_access.proofs.NextPlaces.{AreBefore, next_behind, next_first}
use Rattle.seq_access.proofs.OwnBodies.{last_small as small}
use Rattle.slot_laws.proofs.SameSlots.{by_bytes}
use Rattle.vtoc_sets.proofs.OwnedSets.{own_once as own_apart}
use Rattle.seq_access.proofs.SparedSets.{first_on, upto_kept}

-- a writer's data set
pub set_of : (image : List ℕ) (v : Vol) (w : Writer) (is : IsWriting image v w) → IsSetIn image v is.f
set_of image v w is = record { set = is.set; slot = w.slot; dscb = is.slot }

-- whose last record is this
pub ends_of : (image : List ℕ) (v : Vol) (w : Writer) (is : IsWriting image v w) → IsLastOf image v is.f (last_in image v is.f)
ends_of image v w is = (is.writable, refl)

-- and has a number of one byte, on a track that a TTR can say
pub last_small : (image : List ℕ) (v : Vol) (w : Writer) (is : IsWriting image v w) → (last_in image v is.f).r < 256
last_small image v w is = small v.geometry (data_in image v) is.f.name (attr_of is.f) (extents_in image v is.f) is.f.lstar is.writable

pub last_low : (image : List ℕ) (v : Vol) (w : Writer) (is : IsWriting image v w) → w.last.tt < 65536 → (last_in image v is.f).tt < 65536
last_low image v w is low = ⊎_elim (λ before. omega (arith, before, low)) (λ same. omega (arith, same.0, low)) is.behind

-- it is none, or isn't a record 0
pub some_of : (image : List ℕ) (v : Vol) (w : Writer) (is : IsWriting image v w) → (has_no_block (lstar_of (last_in image v is.f)) ≡ true) ⊎ (1 ≤ (last_of (lstar_of (last_in image v is.f))).r)
some_of image v w is = by (lstar_of (last_in image v is.f)) (has_no_block (lstar_of (last_in image v is.f))) refl is.front
  where
    by : (told : List ℕ) (b : Bool) → has_no_block told ≡ b → seq_body v.geometry (data_in image v) (extents_in image v is.f) told ≡ Seq is.old → (has_no_block told ≡ true) ⊎ (1 ≤ (last_of told).r)
    by told true e front = inl e
    by told false e front = inr (parts_of v.geometry (extents_in image v is.f) (data_in image v) told (last_of told) is.old refl e front).first

same_blocks : (xs ys : List Block) → Seq xs ≡ Seq ys → xs ≡ ys
same_blocks xs ys e = cc

-- the blocks after which a writer puts: none, or those up to the last one's track and those on it
abbrev pub Stands : {image : List ℕ} {v : Vol} {w : Writer} → IsWriting image v w → Type 0
Stands {image} {v} {w} is = ((w.last ≡ record { tt = 0; r = 0 }) × (written_by is ≡ [])) ⊎ Parts v.geometry (extents_in image v is.f) (data_in image v) w.last (written_by is)

pub standing : (image : List ℕ) (v : Vol) (w : Writer) (is : IsWriting image v w) → w.last.tt < 65536 → w.last.r < 256 → Stands is
unfolding seq_body
standing image v w is low small = by (has_no_block (lstar_of w.last)) refl
  where
    tracks : List (Option (List Block))
    tracks = map (blocks_at v.geometry (data_in image v) (owned_tracks (extents_in image v is.f)) (last_of (lstar_of w.last))) (range_with_len 0 ((last_of (lstar_of w.last)).tt + 1))

    by : (b : Bool) → has_no_block (lstar_of w.last) ≡ b → Stands is
    by true none =
        let zeros : lstar_of w.last ≡ 0 ∷ 0 ∷ 0 ∷ [] = (bytes_eq-Decides (lstar_of w.last) (0 ∷ 0 ∷ 0 ∷ [])).0 none in
        inl (sym (last_said w.last low small) ∙ ap last_of zeros, sym (same_blocks [] (written_by is) (sym (ap (λ (c : Bool). cond c (Seq []) (seq_of tracks)) none) ∙ is.so_far)))
    by false some = inr (parts_of v.geometry (extents_in image v is.f) (data_in image v) (lstar_of w.last) w.last (written_by is) (last_said w.last low small) some is.so_far)

-- as many records are read as are wanted
pub count_of : (c h r : ℕ) (held : List ℕ) (xs : List Record) → records_of c h (Some r) held ≡ Some xs → length xs ≡ r
count_of c h r held xs is = count_up r 1 (drop 21 held) xs (sym (read_past c h (Some r) held (reads_front c h (Some r) xs held is)) ∙ is)

pub count_in : (g : Geometry) (tracks : List (List ℕ)) (r t : ℕ) (xs : List Record) → records_in g tracks (Some r) t ≡ Some xs → length xs ≡ r
unfolding records_in
count_in g tracks r t xs is = count_of (t / heads_of g) (t % heads_of g) r _ xs is

-- all records that are read are those up to the last of them
pub all_on : (image : List ℕ) (g : Geometry) (u : Option ℕ) (t n : ℕ) (xs : List Record) → records_on image g u t ≡ Some xs → n ≡ length xs → records_on image g (Some n) t ≡ Some xs
all_on image g u t n xs is same = first_on image g u t n xs is (omega (arith, same)) ∙ ap (λ (l : List Record). Some l) (take_all n xs (omega (arith, same)))

-- after the records of the last block's track
next_of : (device : DiskType) (front : List Block) (k r : ℕ) (xs : List Record) (c : Content) → length xs ≡ r → 1 ≤ r → AreBefore k front
    → next_place device (Seq (front ++ blocks_from k 1 xs)) c ≡ place_behind device (record { tt = k; r = r }) (map sizes xs) (lengths c)
next_of device front k r [] c e first before = absurd (omega (arith, e, first))
next_of device front k r (x ∷ xs) c e first before = next_behind device front k x xs c before ∙ ap (λ (n : ℕ). place_behind device (record { tt = k; r = n }) (map sizes (x ∷ xs)) (lengths c)) e

-- on that track, or on the next
one_place : (b : Bool) (here next : Place) → (cond b here next ≡ here) ⊎ (cond b here next ≡ next)
one_place true here next = inl refl
one_place false here next = inr refl

goes_behind : (device : DiskType) (last : Place) (earlier : List (ℕ × ℕ)) (new : ℕ × ℕ) → (place_behind device last earlier new ≡ record { tt = last.tt; r = last.r + 1 }) ⊎ (place_behind device last earlier new ≡ record { tt = last.tt + 1; r = 1 })
goes_behind device last earlier new = one_place (fits device earlier new.0 new.1) (record { tt = last.tt; r = last.r + 1 }) (record { tt = last.tt + 1; r = 1 })

-- A writer may put a content at a place: the buffer of the index is that of its track, with the records before it there.
pub record PutsAt (image : List ℕ) (v : Vol) (w : Writer) (is : IsWriting image v w) (c : Content) (place : Place) : Type 0 where
  pub geometry : v.buf.geometry ≡ v.geometry
  pub next : place ≡ record_next is c
  pub owned : slice_get (owned_in image v is.f) place.tt ≡ Some v.buf.track
  pub number : length v.buf.records + 1 ≡ place.r
  pub may : MayContinue image v.buf
  pub ended : place.tt ≢ w.last.tt → 1 ≤ w.last.r → (track : ℕ) → slice_get (owned_in image v is.f) w.last.tt ≡ Some track
      → records_on image v.geometry None track ≡ records_on image v.geometry (Some w.last.r) track
  pub low : w.last.tt < 65536
  pub small : w.last.r < 256

-- one place is the next after another, on its track or not
abbrev pub Follows : Place → Place → Type 0
Follows p last = ((p.tt ≡ last.tt) × (p.r ≡ last.r + 1)) ⊎ ((p.tt ≡ last.tt + 1) × (p.r ≡ 1))

not_before : (p last q : Place) → Follows p last → IsNotBefore last q → IsNotBefore p q
not_before p last q follows behind = ⊎_elim (λ here. ⊎_elim (λ low. inl (omega (arith, here.0, low))) (λ at. inr (omega (arith, here.0, at.0), omega (arith, here.1, at.1))) behind)
    (λ on. inl (⊎_elim (λ low. omega (arith, on.0, low)) (λ at. omega (arith, on.0, at.0)) behind)) follows

module _ (image : List ℕ) (v : Vol) (w : Writer) (is : IsWriting image v w) (c : Content) (place : Place) (at : PutsAt image v w is c place) where
  abbrev pub ThePart : Type 0
  ThePart = Parts v.geometry (extents_in image v is.f) (data_in image v) w.last (written_by is)

  pub goes : ((w.last ≡ record { tt = 0; r = 0 }) × (written_by is ≡ []) × (place ≡ record { tt = 0; r = 1 })) ⊎ (ThePart × ((place ≡ record { tt = w.last.tt; r = w.last.r + 1 }) ⊎ (place ≡ record { tt = w.last.tt + 1; r = 1 })))
  goes = ⊎_elim
      (λ none. inl (none.0, none.1, at.next ∙ ap (λ (bs : List Block). next_place v.geometry.device (Seq bs) c) none.1 ∙ next_first v.geometry.device c))
      (λ parts. inr (parts, by parts))
      (standing image v w is at.low at.small)
    where
      by : ThePart → (place ≡ record { tt = w.last.tt; r = w.last.r + 1 }) ⊎ (place ≡ record { tt = w.last.tt + 1; r = 1 })
      by parts =
          let to : place ≡ place_behind v.geometry.device w.last (map sizes parts.records) (lengths c) =
          at.next ∙ ap (λ (bs : List Block). next_place v.geometry.device (Seq bs) c) parts.all
          ∙ next_of v.geometry.device parts.front w.last.tt w.last.r parts.records c (count_in v.geometry (data_in image v) w.last.r parts.track parts.records parts.read) parts.first parts.before
          in
          ⊎_elim (λ here. inl (to ∙ here)) (λ on. inr (to ∙ on)) (goes_behind v.geometry.device w.last (map sizes parts.records) (lengths c))

  pub follows : Follows place w.last
  follows = ⊎_elim
      (λ first. inl (omega (arith, ap (λ (p : Place). p.tt) first.0, ap (λ (p : Place). p.tt) first.2), omega (arith, ap (λ (p : Place). p.r) first.0, ap (λ (p : Place). p.r) first.2)))
      (λ more. ⊎_elim (λ here. inl (ap (λ (p : Place). p.tt) here, ap (λ (p : Place). p.r) here)) (λ on. inr (ap (λ (p : Place). p.tt) on, ap (λ (p : Place). p.r) on)) more.1)
      goes

  pub behind : IsNotBefore place (last_in image v is.f)
  behind = not_before place w.last (last_in image v is.f) follows is.behind

  pub past : (last_in image v is.f).tt ≤ place.tt
  past = ⊎_elim (λ low. omega (arith, low)) (λ same. omega (arith, same.0)) behind

  -- the buffer has the records up to a last block on its track
  pub upto : (q : Place) → IsNotBefore w.last q → q.tt ≡ place.tt → q.r ≤ length v.buf.records
  upto q before same = ⊎_elim
      (λ here. ⊎_elim (λ low. absurd (omega (arith, low, same, here.0))) (λ on. omega (arith, on.1, here.1, at.number)) before)
      (λ far. ⊎_elim (λ low. absurd (omega (arith, low, same, far.0))) (λ on. absurd (omega (arith, on.0, same, far.0))) before)
      follows

  -- what is written after them is after the set's last block
  module _ (new : List Record) (after : List ℕ) (put : IsContinued v.buf new image after) where
    pub elsewhere : (track : ℕ) → track ≢ v.buf.track → track_bytes after v.geometry track ≡ track_bytes image v.geometry track
    elsewhere track apart = subst (λ (g : Geometry). track_bytes after g track ≡ track_bytes image g track) at.geometry (put.others track apart)

    pub up_to : (track r : ℕ) → track ≡ v.buf.track → 1 ≤ r → r ≤ length v.buf.records → records_on after v.geometry (Some r) track ≡ records_on image v.geometry (Some r) track
    up_to track r same one low =
        ap (records_on after v.geometry (Some r)) same
        ∙ subst (λ (g : Geometry). records_on after g (Some r) v.buf.track ≡ records_on image g (Some r) v.buf.track) at.geometry (put.earlier r one low)
        ∙ ap (records_on image v.geometry (Some r)) (sym same)

    kept_upto : (q : Place) → IsNotBefore w.last q → (track : ℕ) → slice_get (owned_in image v is.f) q.tt ≡ Some track → 1 ≤ q.r → records_on after v.geometry (Some q.r) track ≡ records_on image v.geometry (Some q.r) track
    kept_upto q before track own one = elim (eqb_tells track v.buf.track) [
      | inl w1 ↦ up_to track q.r w1.1 one (upto q before (own_apart image v is.f (set_of image v w is) q.tt place.tt v.buf.track (own ∙ ap (λ (t : ℕ). Some t) w1.1) at.owned))
      | inr w1 ↦ by_bytes v.geometry (Some q.r) track image after (elsewhere track w1.1)
    ]

    pub differs : DifferBehind v is.f (last_in image v is.f) image after
    differs = record {
      size = put.size;
      header = put.header;
      others = λ track out. elsewhere track (λ same. out place.tt (at.owned ∙ ap (λ (t : ℕ). Some t) (sym same)) past);
      kept = kept_upto (last_in image v is.f) is.behind;
    }

    -- the tracks before this one
    pub earlier : (k t : ℕ) → k < place.tt → slice_get (owned_in image v is.f) k ≡ Some t → records_on after v.geometry None t ≡ records_on image v.geometry None t
    earlier k t low own = by_bytes v.geometry None t image after (elsewhere t (λ same. absurd (omega (arith, low, own_apart image v is.f (set_of image v w is) k place.tt v.buf.track (own ∙ ap (λ (t : ℕ). Some t) same) at.owned))))

    -- and the blocks up to the writer's last
    pub same_so_far : 1 ≤ w.last.r → seq_body v.geometry (data_in after v) (extents_in image v is.f) (lstar_of w.last) ≡ seq_body v.geometry (data_in image v) (extents_in image v is.f) (lstar_of w.last)
    same_so_far some =
        let said : last_of (lstar_of w.last) ≡ w.last = last_said w.last at.low at.small in
        let before : (k t : ℕ) → k < (last_of (lstar_of w.last)).tt → slice_get (owned_in image v is.f) k ≡ Some t → records_on after v.geometry None t ≡ records_on image v.geometry None t =
        λ k t low own. earlier k t (⊎_elim (λ here. omega (arith, low, ap (λ (p : Place). p.tt) said, here.0)) (λ far. omega (arith, low, ap (λ (p : Place). p.tt) said, far.0)) follows) own
        in
        upto_kept image after v is.f (set_of image v w is) (lstar_of w.last) before
        (kept_upto (last_of (lstar_of w.last)) (inr (ap (λ (p : Place). p.tt) said, omega (arith, ap (λ (p : Place). p.r) said))))
        (inr (omega (arith, some, ap (λ (p : Place). p.r) said)))
