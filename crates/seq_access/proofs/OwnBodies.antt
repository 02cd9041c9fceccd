-- The body of a data set to which blocks may be added: its kind, that it stays where its records up to the last do, and those records as a sequential set's.
use Rattle.std.proofs.Common.{◌≡◌, ◌≤◌, ◌<◌, ℕ, Bool, true, false, cond, List, Some, None, refl, sym, ap, ◌∙◌, subst, arith, option_and_then}
use Rattle.std.specs.Prelude.{◌==◌, ◌&&◌, slice_get, slice_index}
use Rattle.std.proofs.Math.Nat.{mod-lt}
use Rattle.std.proofs.lemmas.Bool.Decides.{nat_tests}
use Rattle.ckd_image.specs.declared.header.Geometry.{Geometry}
use Rattle.vol_model.specs.declared.contents.Attr.{Attr}
use Rattle.vol_model.specs.declared.contents.Block.{Block}
use Rattle.vol_model.specs.declared.contents.Body.{Body}
use Rattle.vol_model.specs.declared.contents.Body.TheVariants.{Other, Part, Seq, Unreadable}
use Rattle.vol_model.specs.declared.contents.Entry.{Entry}
use Rattle.vol_model.specs.declared.contents.Place.{Place}
use Rattle.vol_model.specs.declared.contents.Run.{Run}
use Rattle.vol_model.specs.Places.{is_before}
use Rattle.vol_model.specs.Shelf.{is_catalog, is_partitioned, is_sequential}
use Rattle.pack_spec.specs.Blocks.{has_no_block, last_of, owned_tracks, records_in, seq_body, upto_last}
use Rattle.pack_spec.specs.Bodies.{body_of}
use Rattle.pack_spec.specs.Directories.{part_at, part_blocks, part_body, part_on, read_to}
use Rattle.pack_spec.proofs.BlockBodies.{same_body}
use Rattle.pack_spec.proofs.BodyKinds.{partitioned_body, sequential_body}
use Rattle.pack_spec.proofs.PartBodies.{IsRead, kept_part, part_end, part_or_unread, part_read}
use Rattle.pack_spec.proofs.PartLawful.{end_number}
use Rattle.pack_spec.proofs.SeqBodies.{seq_or_unread}
use Rattle.vtoc_index.specs.Last.{lstar_of}
use Rattle.seq_access.specs.Bodies.{IsWritable, last_read}
use Rattle.seq_access.proofs.BodyWalks.{body_none}
use Rattle.seq_access.proofs.LastPlaces.{body_said, last_said, some_said}
use Rattle.seq_access.proofs.MoreBlocks.{parts_of}
use Rattle.seq_access.proofs.PartReading.{all, read_up_to}

some_record : (m n : ℕ) → ((m == m) && (n == 0)) ≡ false → 1 ≤ n
some_record m n is = grind (arith, nat_tests)

-- a partitioned body that can be read is read up to a record after R0
pub part_first : (g : Geometry) (tracks : List (List ℕ)) (extents : List Run) (lstar : List ℕ) (n : ℕ) (end : Place) (es : List Entry) (bs : List Block) → part_body g tracks extents lstar ≡ Part n end es bs → 1 ≤ (read_to end lstar).r
unfolding part_at part_on
part_first g tracks extents lstar n end es bs is = by_read (part_read g tracks extents lstar n end es bs is (read_to end lstar).tt (omega arith))
  where
    by_zero : (t : ℕ) (on : List Block) (c : Bool) → (((read_to end lstar).tt == (read_to end lstar).tt) && ((read_to end lstar).r == 0)) ≡ c
        → cond c None (option_and_then (part_blocks end (read_to end lstar).tt) (records_in g tracks (upto_last (read_to end lstar) (read_to end lstar).tt) t)) ≡ Some on → 1 ≤ (read_to end lstar).r
    by_zero t on true test e = cc
    by_zero t on false test e = some_record (read_to end lstar).tt (read_to end lstar).r test

    by_read : IsRead g tracks (owned_tracks extents) end (read_to end lstar) (read_to end lstar).tt → 1 ≤ (read_to end lstar).r
    by_read read = by_zero read.track _ (((read_to end lstar).tt == (read_to end lstar).tt) && ((read_to end lstar).r == 0)) refl
        (ap (option_and_then (part_on g tracks end (read_to end lstar) (read_to end lstar).tt)) (sym read.there) ∙ read.blocks)

module _ (g : Geometry) (tracks : List (List ℕ)) (name : List ℕ) (attr : Attr) (extents : List Run) (lstar : List ℕ) where
  abbrev body : Body
  body = body_of g tracks name attr extents lstar

  abbrev by_kind : Bool → Bool → Bool → Body
  by_kind s p c = cond s (seq_body g tracks extents lstar) (cond p (part_body g tracks extents lstar) (cond c (Unreadable 0) Other))

  -- blocks are those of a sequential set
  pub as_sequential : (bs : List Block) → body ≡ Seq bs → (is_sequential name attr ≡ true) × (seq_body g tracks extents lstar ≡ Seq bs)
  unfolding body_of
  as_sequential bs is = by (is_sequential name attr) (is_partitioned name attr) (is_catalog name) refl is
    where
      by : (s p c : Bool) → is_sequential name attr ≡ s → by_kind s p c ≡ Seq bs → (is_sequential name attr ≡ true) × (seq_body g tracks extents lstar ≡ Seq bs)
      by true p c kind e = (kind, e)
      by false true c kind e = absurd (part_or_unread g tracks extents lstar (λ (b : Body). b ≡ Seq bs → ⊥) (λ n end es xs no. cc) (λ k no. cc) e)
      by false false true kind e = cc
      by false false false kind e = cc

  -- a directory is that of a partitioned one
  pub as_partitioned : (n : ℕ) (end : Place) (es : List Entry) (bs : List Block) → body ≡ Part n end es bs → (is_partitioned name attr ≡ true) × (part_body g tracks extents lstar ≡ Part n end es bs)
  unfolding body_of
  as_partitioned n end es bs is = by (is_sequential name attr) (is_partitioned name attr) (is_catalog name) refl is
    where
      by : (s p c : Bool) → is_partitioned name attr ≡ p → by_kind s p c ≡ Part n end es bs → (is_partitioned name attr ≡ true) × (part_body g tracks extents lstar ≡ Part n end es bs)
      by true p c kind e = absurd (seq_or_unread g tracks extents lstar (λ (b : Body). b ≡ Part n end es bs → ⊥) (λ xs no. cc) (λ k no. cc) e)
      by false true c kind e = (kind, e)
      by false false true kind e = cc
      by false false false kind e = cc

  -- where blocks may be added, it is one of the two
  pub by_body : (P : Type 0) → IsWritable body → ((bs : List Block) → body ≡ Seq bs → P) → ((n : ℕ) (end : Place) (es : List Entry) (bs : List Block) → body ≡ Part n end es bs → P) → P
  by_body P writable seq part = by body refl writable
    where
      by : (b : Body) → body ≡ b → IsWritable b → P
      by (Seq bs) e w = seq bs e
      by (Part n end es bs) e w = part n end es bs e
      by b e w = absurd w

  abbrev pub last : Place
  last = last_read body lstar

  -- its last record has a number of one byte
  pub last_small : IsWritable body → last.r < 256
  last_small writable = by_body (last.r < 256) writable
      (λ bs e. omega (arith, mod-lt (slice_index lstar 2) {m = 255} (omega arith), ap (λ (b : Body). (last_read b lstar).r) e))
      (λ n end es bs e. omega (arith, part_small n end es bs e, ap (λ (b : Body). (last_read b lstar).r) e))
    where
      part_small : (n : ℕ) (end : Place) (es : List Entry) (bs : List Block) → body ≡ Part n end es bs → (read_to end lstar).r < 256
      part_small n end es bs e = by (is_before end (last_of lstar))
        where
          low : end.r ≤ 255
          low = omega (arith, end_number g tracks 0 (owned_tracks extents), ap (λ (p : Place). p.r) (part_end g tracks extents lstar n end es bs (as_partitioned n end es bs e).1))

          by : (b : Bool) → (cond b (last_of lstar) end).r < 256
          by true = omega (arith, mod-lt (slice_index lstar 2) {m = 255} (omega arith))
          by false = omega (arith, low)

  -- its records up to there can be read as a sequential set's
  pub front_read : IsWritable body → last.tt < 65536 → (old : List Block) × (seq_body g tracks extents (lstar_of last) ≡ Seq old)
  front_read writable low = by_body ((old : List Block) × (seq_body g tracks extents (lstar_of last) ≡ Seq old)) writable seq part
    where
      small : last.r < 256
      small = last_small writable

      seq : (bs : List Block) → body ≡ Seq bs → (old : List Block) × (seq_body g tracks extents (lstar_of last) ≡ Seq old)
      seq bs e = (bs, body_said g tracks extents lstar last bs (ap (λ (b : Body). last_read b lstar) e) low small (as_sequential bs e).1)

      part : (n : ℕ) (end : Place) (es : List Entry) (bs : List Block) → body ≡ Part n end es bs → (old : List Block) × (seq_body g tracks extents (lstar_of last) ≡ Seq old)
      part n end es bs e =
          let is : part_body g tracks extents lstar ≡ Part n end es bs = (as_partitioned n end es bs e).1 in
          let at : last ≡ read_to end lstar = ap (λ (b : Body). last_read b lstar) e in
          let first : 1 ≤ last.r = omega (arith, part_first g tracks extents lstar n end es bs is, ap (λ (p : Place). p.r) at) in
          (all g tracks extents lstar n end es bs is, read_up_to g tracks extents lstar n end es bs is (lstar_of last) (last_said last low small ∙ at) (some_said last first))

-- It stays where each track before the last record's has the same records to its end marker, and that one up to there.
module _ (g : Geometry) (a b : List (List ℕ)) (name : List ℕ) (attr : Attr) (extents : List Run) (lstar : List ℕ) where
  abbrev KeptTo : Place → Type 0
  KeptTo p = ((k t : ℕ) → k < p.tt → slice_get (owned_tracks extents) k ≡ Some t → records_in g b None t ≡ records_in g a None t)
      × ((t : ℕ) → slice_get (owned_tracks extents) p.tt ≡ Some t → 1 ≤ p.r → records_in g b (Some p.r) t ≡ records_in g a (Some p.r) t)

  seq_kept : (bs : List Block) → seq_body g a extents lstar ≡ Seq bs → KeptTo (last_of lstar) → seq_body g b extents lstar ≡ seq_body g a extents lstar
  seq_kept bs is kept = by (has_no_block lstar) refl
    where
      by : (c : Bool) → has_no_block lstar ≡ c → seq_body g b extents lstar ≡ seq_body g a extents lstar
      by true none = body_none g b extents lstar none ∙ sym (body_none g a extents lstar none)
      by false some =
          let parts = parts_of g extents a lstar (last_of lstar) bs refl some is in
          same_body g a b extents lstar kept.0 (λ t own. kept.1 t own parts.first)

  pub own_same : (p : Place) → KeptTo p → IsWritable (body_of g a name attr extents lstar) → p ≡ last_read (body_of g a name attr extents lstar) lstar → body_of g b name attr extents lstar ≡ body_of g a name attr extents lstar
  own_same p kept writable at = by_body g a name attr extents lstar (body_of g b name attr extents lstar ≡ body_of g a name attr extents lstar) writable seq part
    where
      seq : (bs : List Block) → body_of g a name attr extents lstar ≡ Seq bs → body_of g b name attr extents lstar ≡ body_of g a name attr extents lstar
      seq bs e =
          let kind = as_sequential g a name attr extents lstar bs e in
          let kept_last : KeptTo (last_of lstar) = subst KeptTo (at ∙ ap (λ (x : Body). last_read x lstar) e) kept in
          sequential_body g b name attr extents lstar kind.0 ∙ seq_kept bs kind.1 kept_last ∙ kind.1 ∙ sym e

      part : (n : ℕ) (end : Place) (es : List Entry) (bs : List Block) → body_of g a name attr extents lstar ≡ Part n end es bs → body_of g b name attr extents lstar ≡ body_of g a name attr extents lstar
      part n end es bs e =
          let kind = as_partitioned g a name attr extents lstar n end es bs e in
          let kept_last : KeptTo (read_to end lstar) = subst KeptTo (at ∙ ap (λ (x : Body). last_read x lstar) e) kept in
          let first : 1 ≤ (read_to end lstar).r = part_first g a extents lstar n end es bs kind.1 in
          partitioned_body g b name attr extents lstar kind.0
          ∙ kept_part g a b extents lstar n end es bs kind.1 kept_last.0 (λ t own. kept_last.1 t own first)
          ∙ sym e
