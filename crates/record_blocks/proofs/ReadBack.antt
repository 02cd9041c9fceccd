-- What is packed is read back.
use Rattle.std.proofs.Common.{◌≡◌, ◌∙◌, ◌↔◌, ap, ap₂, sym, refl, subst, ℕ, ◌≤◌, Bool, true, false, Ok, List, [], ◌∷◌, ◌++◌, length, None, arith, length-append}
use Rattle.std.specs.Prelude.{map}
use Rattle.std.specs.List.{AllByRecursion}
use Rattle.std.proofs.lemmas.List.{length-replicate, map-append}
use Rattle.record_blocks.specs.declared.formats.Format.{Format}
use Rattle.record_blocks.specs.declared.formats.Base.{Base}
use Rattle.record_blocks.specs.declared.formats.Base.TheVariants.{Fixed, Variable, Undefined}
use Rattle.record_blocks.specs.Formats.{base_of, is_blocked, has_s, first_fault}
use Rattle.record_blocks.specs.Blocks.{Segment, whole_segment, body_of, block_as, IsLawfulAs, IsMany, IsBlock}
use Rattle.record_blocks.specs.Segments.{AreCodes}
use Rattle.record_blocks.specs.Joining.{joined_records}
use Rattle.record_blocks.specs.Packing.{is_spanned, is_spanned_as, longest, longest_as, block_of, filled_record, filled_record_as}
use Rattle.record_blocks.specs.Cut.{AllShort, IsRecordBlock, AreRecordBlocks, all_records, whole_segments, blocks_of}
use Rattle.record_blocks.specs.Reading.{reading, complete_reading}
use Rattle.record_blocks.specs.Layout.{packing, all_segments, AreSpannedBlocks, IsSpannedPacking, IsReadBack, spanned_bytes}
use Rattle.record_blocks.proofs.Exact.{reads}
use Rattle.record_blocks.proofs.Joins.{records-join}
use Rattle.record_blocks.proofs.Cuts.{cut}
use Rattle.record_blocks.proofs.Layouts.{has-layout, one-layout, records-codes}

-- VS and VBS
record Spanned (base : Base) (format : Format) : Type 0 where
  is : base ≡ Variable
  s : has_s format ≡ true

spanned-is : (base : Base) (format : Format) → is_spanned_as base format ≡ true → Spanned base format
spanned-is Fixed format e = cc
spanned-is Variable format e = record { is = refl; s = e }
spanned-is Undefined format e = cc

lawful-spanned : (format : Format) (segments : List Segment) → has_s format ≡ true → AreCodes segments → AllByRecursion (IsLawfulAs Variable format) segments
lawful-spanned format [] e h = tt
lawful-spanned format (s ∷ ss) e h = (rw e h.0, lawful-spanned format ss e h.1)

front-codes : (xs ys : List Segment) → AreCodes (xs ++ ys) → AreCodes xs
front-codes [] ys h = tt
front-codes (x ∷ xs) ys h = (h.0, front-codes xs ys h.1)

rest-codes : (xs ys : List Segment) → AreCodes (xs ++ ys) → AreCodes ys
rest-codes [] ys h = h
rest-codes (x ∷ xs) ys h = rest-codes xs ys h.1

spanned-block : (format : Format) (segments : List Segment) → is_spanned format ≡ true → IsMany (is_blocked format) segments → AreCodes segments → IsBlock format (block_of format (body_of Variable segments)) segments
spanned-block format segments e many codes =
    let s = spanned-is (base_of format) format e in
    record {
      spells = ap (λ base. block_as (base_of format) (body_of base segments)) (sym s.is);
      lawful = subst (λ base. AllByRecursion (IsLawfulAs base format) segments) (sym s.is) (lawful-spanned format segments s.s codes);
      many = many;
    }

spanned-reads : (format : Format) (layout : List (List Segment)) → is_spanned format ≡ true → first_fault format ≡ None → AreSpannedBlocks format layout → AreCodes (all_segments layout)
    → map (λ block. reading format block) (spanned_bytes format layout) ≡ map (λ segments. complete_reading segments) layout
spanned-reads format [] e f h c = refl
spanned-reads format (b ∷ bs) e f h c =
    let block = h.0 in
    ap₂ (λ x xs. x ∷ xs) (reads format (block_of format (body_of Variable b)) b f (spanned-block format b e block.many (front-codes b (all_segments bs) c)))
    (spanned-reads format bs e f h.1 (rest-codes b (all_segments bs) c))

none-filled : (base : Base) (format : Format) (records : List (List ℕ)) → base ≡ Variable → map (λ rec. filled_record_as base format rec) records ≡ records
none-filled Fixed format records e = cc
none-filled Variable format [] e = refl
none-filled Variable format (r ∷ rs) e = ap (λ xs. r ∷ xs) (none-filled Variable format rs e)
none-filled Undefined format records e = cc

spanned-back : (format : Format) (records : List (List ℕ)) → is_spanned format ≡ true → first_fault format ≡ None → AllShort format records → IsReadBack format records (packing format records)
spanned-back format records e f a =
    let h = has-layout format records e f a in
    let are = h.are in
    let is : packing format records ≡ spanned_bytes format h.layout = rw e h.bytes in
    let joins : joined_records (longest format) None (all_segments h.layout) ≡ Ok (map (λ rec. filled_record format rec) records)
    = records-join (longest format) are.joins ∙ ap Ok (sym (none-filled (base_of format) format records (spanned-is (base_of format) format e).is)) in
    record {
      layout = h.layout;
      reads = ap (λ blocks. map (λ block. reading format block) blocks) is ∙ spanned-reads format h.layout e f are.blocks (records-codes (longest format) are.joins);
      joins = rw e joins;
    }

-- a record that is a segment of its own is lawful
filled-lawful : (base : Base) (format : Format) (rec : List ℕ) → length rec ≤ longest_as base format → IsLawfulAs base format (whole_segment (filled_record_as base format rec))
filled-lawful Fixed format rec h = (refl, simp (length-append, length-replicate) (omega arith))
filled-lawful Variable format rec h = omega arith
filled-lawful Undefined format rec h = refl

all-lawful : (format : Format) (recs : List (List ℕ)) → AllShort format recs → AllByRecursion (IsLawfulAs (base_of format) format) (whole_segments format recs)
all-lawful format [] h = tt
all-lawful format (r ∷ rs) h = (filled-lawful (base_of format) format r h.0, all-lawful format rs h.1)

filled-many : (format : Format) (recs : List (List ℕ)) → IsRecordBlock format recs → IsMany (is_blocked format) (whole_segments format recs)
filled-many format [] h = absurd h
filled-many format (r ∷ []) h = tt
filled-many format (r ∷ n ∷ rs) h = h.0

front-short : (format : Format) (xs ys : List (List ℕ)) → AllShort format (xs ++ ys) → AllShort format xs
front-short format [] ys h = tt
front-short format (x ∷ xs) ys h = (h.0, front-short format xs ys h.1)

rest-short : (format : Format) (xs ys : List (List ℕ)) → AllShort format (xs ++ ys) → AllShort format ys
rest-short format [] ys h = h
rest-short format (x ∷ xs) ys h = rest-short format xs ys h.1

cut-reads : (format : Format) (cuts : List (List (List ℕ))) → first_fault format ≡ None → AreRecordBlocks format cuts → AllShort format (all_records cuts)
    → map (λ block. reading format block) (blocks_of format cuts) ≡ map (λ segments. complete_reading segments) (map (λ recs. whole_segments format recs) cuts)
cut-reads format [] f h a = refl
cut-reads format (b ∷ bs) f h a =
    let block : IsBlock format (block_of format (body_of (base_of format) (whole_segments format b))) (whole_segments format b) = record { spells = refl; lawful = all-lawful format b (front-short format b (all_records bs) a); many = filled-many format b h.0 } in
    ap₂ (λ x xs. x ∷ xs) (reads format (block_of format (body_of (base_of format) (whole_segments format b))) (whole_segments format b) f block) (cut-reads format bs f h.1 (rest-short format b (all_records bs) a))

cut-segments : (format : Format) (cuts : List (List (List ℕ))) → all_segments (map (λ recs. whole_segments format recs) cuts) ≡ whole_segments format (all_records cuts)
cut-segments format [] = refl
cut-segments format (b ∷ bs) = ap (λ xs. whole_segments format b ++ xs) (cut-segments format bs) ∙ sym (map-append (λ rec. whole_segment (filled_record format rec)) b (all_records bs))

segment-bytes : (format : Format) (recs : List (List ℕ)) → map (λ s. s.bytes) (whole_segments format recs) ≡ map (λ rec. filled_record format rec) recs
segment-bytes format [] = refl
segment-bytes format (r ∷ rs) = ap (λ xs. filled_record format r ∷ xs) (segment-bytes format rs)

cut-back : (format : Format) (records : List (List ℕ)) → is_spanned format ≡ false → first_fault format ≡ None → AllShort format records → IsReadBack format records (packing format records)
cut-back format records e f a =
    let c = cut format records e f a in
    let are = c.1 in
    let is : packing format records ≡ blocks_of format c.0 = rw e c.2 in
    let short : AllShort format (all_records c.0) = subst (λ rs. AllShort format rs) (sym are.holds) a in
    let bytes : map (λ s. s.bytes) (all_segments (map (λ recs. whole_segments format recs) c.0)) ≡ map (λ rec. filled_record format rec) records
    = ap (λ ss. map (λ s. s.bytes) ss) (cut-segments format c.0) ∙ segment-bytes format (all_records c.0) ∙ ap (λ rs. map (λ rec. filled_record format rec) rs) are.holds in
    record {
      layout = map (λ recs. whole_segments format recs) c.0;
      reads = ap (λ blocks. map (λ block. reading format block) blocks) is ∙ cut-reads format c.0 f are.filled short;
      joins = rw e (ap Ok bytes);
    }

by-spanned : (format : Format) (records : List (List ℕ)) (v : Bool) → is_spanned format ≡ v → first_fault format ≡ None → AllShort format records → IsReadBack format records (packing format records)
by-spanned format records true e f a = spanned-back format records e f a
by-spanned format records false e f a = cut-back format records e f a

pub read-back : (format : Format) (records : List (List ℕ)) → first_fault format ≡ None → AllShort format records → IsReadBack format records (packing format records)
read-back format records f a = by-spanned format records (is_spanned format) refl f a

-- the packing into VS or VBS blocks is exactly that of the records
pub spanned-exact : (format : Format) (records blocks : List (List ℕ)) → is_spanned format ≡ true → first_fault format ≡ None → AllShort format records → (blocks ≡ packing format records) ↔ IsSpannedPacking format records blocks
spanned-exact format records blocks e f a =
    let h = has-layout format records e f a in
    let is : packing format records ≡ spanned_bytes format h.layout = rw e h.bytes in (
      (λ b. record { layout = h.layout; are = h.are; bytes = b ∙ is }),
      (λ p. p.bytes ∙ ap (spanned_bytes format) (one-layout format records p.layout h.layout p.are h.are) ∙ sym is),
    )
