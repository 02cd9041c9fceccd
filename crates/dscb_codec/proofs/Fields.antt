-- Bytes that have the fields of a DSCB decode to it, and bytes that decode to it have its fields.
use Rattle.std.proofs.Common.{◌≡◌, ℕ, zero, suc, ◌+◌, ◌-◌, ◌*◌, length-drop, ◌^◌, ◌<◌, ◌≤◌, List, [], ◌∷◌, length, take, drop, get_or, refl, arith, ap, subst, sym, ◌∙◌, drop-cons}
use Rattle.std.specs.Prelude.{slice_index}
use Rattle.std.specs.List.{concat}
use Rattle.std.specs.Int.{w16, w32, to_be_bytes, from_be_bytes}
use Rattle.std.specs.Simd.{first_chunks}
use Rattle.std.proofs.lemmas.List.{length-take-le, take_all, get_or-take, get_or-drop}
use Rattle.std.proofs.lemmas.Nat.{from_be_bytes-to_be_bytes_2, from_be_bytes-to_be_bytes_4, be_bytes_2, be_bytes_4}
use Rattle.dscb_codec.specs.declared.F1.{F1}
use Rattle.dscb_codec.specs.declared.F3.{F3}
use Rattle.dscb_codec.specs.declared.F4.{F4}
use Rattle.dscb_codec.specs.declared.F5.{F5}
use Rattle.dscb_codec.specs.Layout.{AreBytes, AreRows, f1_of, f3_of, f4_of, f5_of, format_byte, part}
use Rattle.dscb_codec.proofs.Rows.{chunks-concat, concat-first_chunks}
use Rattle.dscb_codec.proofs.Tables.{HasFields, f1_fields, f3_fields, f4_fields, f5_fields, same_from}

-- a number is read where its bytes stand
half_read : (bytes : List ℕ) (at m : ℕ) → m < 2 ^ 16 → part bytes at 2 ≡ to_be_bytes w16 m → from_be_bytes w16 (part bytes at 2) ≡ m
half_read bytes at m below is = ap (λ (l : List ℕ). from_be_bytes w16 l) is ∙ from_be_bytes-to_be_bytes_2 m below

word_read : (bytes : List ℕ) (at m : ℕ) → m < 2 ^ 32 → part bytes at 4 ≡ to_be_bytes w32 m → from_be_bytes w32 (part bytes at 4) ≡ m
word_read bytes at m below is = ap (λ (l : List ℕ). from_be_bytes w32 l) is ∙ from_be_bytes-to_be_bytes_4 m below

-- the first byte of a part
first_of_part : (bytes : List ℕ) (at : ℕ) → slice_index (part bytes at 1) 0 ≡ slice_index bytes at
first_of_part bytes at =
    get_or-take (at + 1 - at) (drop at bytes) 0 0 (omega arith) ∙ get_or-drop at bytes 0 0 ∙ ap (λ (k : ℕ). get_or bytes k 0) (let e : at + 0 ≡ at = omega arith in e)

byte_read : (bytes : List ℕ) (at b : ℕ) → part bytes at 1 ≡ b ∷ [] → slice_index bytes at ≡ b
byte_read bytes at b is = sym (first_of_part bytes at) ∙ ap (λ (l : List ℕ). slice_index l 0) is

rows_read : (bytes : List ℕ) (at k n : ℕ) (rows : List (List ℕ)) → AreRows n k rows → part bytes at (n * k) ≡ concat rows → first_chunks n k (part bytes at (n * k)) ≡ rows
rows_read bytes at k n rows are is = ap (λ (l : List ℕ). first_chunks n k l) is ∙ chunks-concat n k rows are

-- a byte is a part of one byte
byte_written : (bytes : List ℕ) (at : ℕ) → at < length bytes → part bytes at 1 ≡ slice_index bytes at ∷ []
byte_written bytes at inside =
    ap (λ (n : ℕ). take n (drop at bytes)) (let e : at + 1 - at ≡ 1 = omega arith in e)
    ∙ ap (λ (rest : List ℕ). take 1 rest) (drop-cons bytes at 0 inside)

none_bytes : AreBytes []
none_bytes zero = omega arith
none_bytes (suc k) = omega arith

take_bytes : (n : ℕ) (xs : List ℕ) → AreBytes xs → AreBytes (take n xs)
take_bytes zero xs are k = none_bytes k
take_bytes (suc n) [] are k = none_bytes k
take_bytes (suc n) (x ∷ xs) are zero = are 0
take_bytes (suc n) (x ∷ xs) are (suc k) = take_bytes n xs (λ j. are (suc j)) k

part_bytes : (bytes : List ℕ) (at n : ℕ) → AreBytes bytes → AreBytes (part bytes at n)
part_bytes bytes at n are = take_bytes (at + n - at) (drop at bytes) (λ k. let P : ℕ → Type 0 = λ b. b < 256 in subst P (sym (get_or-drop at bytes k 0)) (are (at + k)))

part_length : (bytes : List ℕ) (at n : ℕ) → at + n ≤ length bytes → length (part bytes at n) ≡ n
part_length bytes at n inside =
    length-take-le (at + n - at) (drop at bytes) (omega (arith, length-drop at bytes)) ∙ (let e : at + n - at ≡ n = omega arith in e)

half_written : (bytes : List ℕ) (at : ℕ) → at + 2 ≤ length bytes → AreBytes bytes → part bytes at 2 ≡ to_be_bytes w16 (from_be_bytes w16 (part bytes at 2))
half_written bytes at inside are = sym (be_bytes_2 (part bytes at 2) _ (part_length bytes at 2 inside) (part_bytes bytes at 2 are) refl)

word_written : (bytes : List ℕ) (at : ℕ) → at + 4 ≤ length bytes → AreBytes bytes → part bytes at 4 ≡ to_be_bytes w32 (from_be_bytes w32 (part bytes at 4))
word_written bytes at inside are = sym (be_bytes_4 (part bytes at 4) _ (part_length bytes at 4 inside) (part_bytes bytes at 4 are) refl)

rows_written : (bytes : List ℕ) (at k n : ℕ) → at + n * k ≤ length bytes → part bytes at (n * k) ≡ concat (first_chunks n k (part bytes at (n * k)))
rows_written bytes at k n inside =
    sym (concat-first_chunks n k (part bytes at (n * k)) ∙ take_all (n * k) (part bytes at (n * k)) (omega (arith, part_length bytes at (n * k) inside)))

-- format 1
pub f1_read : (bytes : List ℕ) (f : F1) (volseq : f.volseq < 2 ^ 16) (dsorg : f.dsorg < 2 ^ 16) (blksize : f.blksize < 2 ^ 16) (lrecl : f.lrecl < 2 ^ 16) (rkp : f.rkp < 2 ^ 16) (scalo : f.scalo < 2 ^ 32) (balance : f.balance < 2 ^ 16) (runs : AreRows 10 3 f.runs) → HasFields bytes (f1_fields f) → f1_of bytes ≡ f
unfolding f1_of
f1_read bytes f volseq dsorg blksize lrecl rkp scalo balance runs has =
    λ i. record {
      name = has.0 i;
      serial = has.1.1.0 i;
      volseq = half_read bytes 51 f.volseq volseq has.1.1.1.0 i;
      created = has.1.1.1.1.0 i;
      expires = has.1.1.1.1.1.0 i;
      extents = byte_read bytes 59 f.extents has.1.1.1.1.1.1.0 i;
      dir_used = byte_read bytes 60 f.dir_used has.1.1.1.1.1.1.1.0 i;
      res61 = has.1.1.1.1.1.1.1.1.0 i;
      system = has.1.1.1.1.1.1.1.1.1.0 i;
      res75 = has.1.1.1.1.1.1.1.1.1.1.0 i;
      dsorg = half_read bytes 82 f.dsorg dsorg has.1.1.1.1.1.1.1.1.1.1.1.0 i;
      recfm = byte_read bytes 84 f.recfm has.1.1.1.1.1.1.1.1.1.1.1.1.0 i;
      optcd = byte_read bytes 85 f.optcd has.1.1.1.1.1.1.1.1.1.1.1.1.1.0 i;
      blksize = half_read bytes 86 f.blksize blksize has.1.1.1.1.1.1.1.1.1.1.1.1.1.1.0 i;
      lrecl = half_read bytes 88 f.lrecl lrecl has.1.1.1.1.1.1.1.1.1.1.1.1.1.1.1.0 i;
      keylen = byte_read bytes 90 f.keylen has.1.1.1.1.1.1.1.1.1.1.1.1.1.1.1.1.0 i;
      rkp = half_read bytes 91 f.rkp rkp has.1.1.1.1.1.1.1.1.1.1.1.1.1.1.1.1.1.0 i;
      indicators = byte_read bytes 93 f.indicators has.1.1.1.1.1.1.1.1.1.1.1.1.1.1.1.1.1.1.0 i;
      scalo = word_read bytes 94 f.scalo scalo has.1.1.1.1.1.1.1.1.1.1.1.1.1.1.1.1.1.1.1.0 i;
      lstar = has.1.1.1.1.1.1.1.1.1.1.1.1.1.1.1.1.1.1.1.1.0 i;
      balance = half_read bytes 101 f.balance balance has.1.1.1.1.1.1.1.1.1.1.1.1.1.1.1.1.1.1.1.1.1.0 i;
      res103 = has.1.1.1.1.1.1.1.1.1.1.1.1.1.1.1.1.1.1.1.1.1.1.0 i;
      runs = rows_read bytes 105 3 10 f.runs runs has.1.1.1.1.1.1.1.1.1.1.1.1.1.1.1.1.1.1.1.1.1.1.1.0 i;
      pointer = has.1.1.1.1.1.1.1.1.1.1.1.1.1.1.1.1.1.1.1.1.1.1.1.1.0 i;
    }

pub f1_format : (bytes : List ℕ) (f : F1) → HasFields bytes (f1_fields f) → format_byte bytes ≡ 0xF1
f1_format bytes f has = byte_read bytes 44 0xF1 has.1.0

f1_written : (bytes : List ℕ) → length bytes ≡ 140 → AreBytes bytes → format_byte bytes ≡ 0xF1 → HasFields bytes (f1_fields (f1_of bytes))
unfolding f1_of
f1_written bytes wide are format =
    (refl, (byte_written bytes 44 (omega (arith, wide)) ∙ ap (λ (b : ℕ). b ∷ []) format, (refl, (half_written bytes 51 (omega (arith, wide)) are, (refl, (refl, (byte_written bytes 59 (omega (arith, wide)), (byte_written bytes 60 (omega (arith, wide)), (refl, (refl, (refl, (half_written bytes 82 (omega (arith, wide)) are, (byte_written bytes 84 (omega (arith, wide)), (byte_written bytes 85 (omega (arith, wide)), (half_written bytes 86 (omega (arith, wide)) are, (half_written bytes 88 (omega (arith, wide)) are, (byte_written bytes 90 (omega (arith, wide)), (half_written bytes 91 (omega (arith, wide)) are, (byte_written bytes 93 (omega (arith, wide)), (word_written bytes 94 (omega (arith, wide)) are, (refl, (half_written bytes 101 (omega (arith, wide)) are, (refl, (rows_written bytes 105 3 10 (omega (arith, wide)), (refl, tt)))))))))))))))))))))))))

pub f1_only : (f : F1) (encoded : List ℕ) → length encoded ≡ 140 → HasFields encoded (f1_fields f) → (bytes : List ℕ) → length bytes ≡ 140 → AreBytes bytes → format_byte bytes ≡ 0xF1 → f1_of bytes ≡ f → bytes ≡ encoded
f1_only f encoded wide has bytes wide_bytes are format is =
    let has_too : HasFields bytes (f1_fields f) = subst (λ (g : F1). HasFields bytes (f1_fields g)) is (f1_written bytes wide_bytes are format) in
    same_from (f1_fields f) 0 140 bytes encoded refl (omega arith) (omega arith) has_too has

-- format 3
pub f3_read : (bytes : List ℕ) (f : F3) (id : f.id < 2 ^ 32) (front : AreRows 10 4 f.front) (back : AreRows 10 9 f.back) → HasFields bytes (f3_fields f) → f3_of bytes ≡ f
unfolding f3_of
f3_read bytes f id front back has =
    λ i. record {
      id = word_read bytes 0 f.id id has.0 i;
      front = rows_read bytes 4 4 10 f.front front has.1.0 i;
      back = rows_read bytes 45 9 10 f.back back has.1.1.1.0 i;
      pointer = has.1.1.1.1.0 i;
    }

pub f3_format : (bytes : List ℕ) (f : F3) → HasFields bytes (f3_fields f) → format_byte bytes ≡ 0xF3
f3_format bytes f has = byte_read bytes 44 0xF3 has.1.1.0

f3_written : (bytes : List ℕ) → length bytes ≡ 140 → AreBytes bytes → format_byte bytes ≡ 0xF3 → HasFields bytes (f3_fields (f3_of bytes))
unfolding f3_of
f3_written bytes wide are format =
    (word_written bytes 0 (omega (arith, wide)) are, (rows_written bytes 4 4 10 (omega (arith, wide)), (byte_written bytes 44 (omega (arith, wide)) ∙ ap (λ (b : ℕ). b ∷ []) format, (rows_written bytes 45 9 10 (omega (arith, wide)), (refl, tt)))))

pub f3_only : (f : F3) (encoded : List ℕ) → length encoded ≡ 140 → HasFields encoded (f3_fields f) → (bytes : List ℕ) → length bytes ≡ 140 → AreBytes bytes → format_byte bytes ≡ 0xF3 → f3_of bytes ≡ f → bytes ≡ encoded
f3_only f encoded wide has bytes wide_bytes are format is =
    let has_too : HasFields bytes (f3_fields f) = subst (λ (g : F3). HasFields bytes (f3_fields g)) is (f3_written bytes wide_bytes are format) in
    same_from (f3_fields f) 0 140 bytes encoded refl (omega arith) (omega arith) has_too has

-- format 4
pub f4_read : (bytes : List ℕ) (f : F4) (free : f.free < 2 ^ 16) (next_alt : f.next_alt < 2 ^ 32) (alternates : f.alternates < 2 ^ 16) (size : f.size < 2 ^ 32) (capacity : f.capacity < 2 ^ 16) (tolerance : f.tolerance < 2 ^ 16) → HasFields bytes (f4_fields f) → f4_of bytes ≡ f
unfolding f4_of
f4_read bytes f free next_alt alternates size capacity tolerance has =
    λ i. record {
      id = has.0 i;
      highest = has.1.1.0 i;
      free = half_read bytes 50 f.free free has.1.1.1.0 i;
      next_alt = word_read bytes 52 f.next_alt next_alt has.1.1.1.1.0 i;
      alternates = half_read bytes 56 f.alternates alternates has.1.1.1.1.1.0 i;
      indicators = byte_read bytes 58 f.indicators has.1.1.1.1.1.1.0 i;
      extents = byte_read bytes 59 f.extents has.1.1.1.1.1.1.1.0 i;
      res60 = has.1.1.1.1.1.1.1.1.0 i;
      size = word_read bytes 62 f.size size has.1.1.1.1.1.1.1.1.1.0 i;
      capacity = half_read bytes 66 f.capacity capacity has.1.1.1.1.1.1.1.1.1.1.0 i;
      i = byte_read bytes 68 f.i has.1.1.1.1.1.1.1.1.1.1.1.0 i;
      l = byte_read bytes 69 f.l has.1.1.1.1.1.1.1.1.1.1.1.1.0 i;
      k = byte_read bytes 70 f.k has.1.1.1.1.1.1.1.1.1.1.1.1.1.0 i;
      flag = byte_read bytes 71 f.flag has.1.1.1.1.1.1.1.1.1.1.1.1.1.1.0 i;
      tolerance = half_read bytes 72 f.tolerance tolerance has.1.1.1.1.1.1.1.1.1.1.1.1.1.1.1.0 i;
      dscbs = byte_read bytes 74 f.dscbs has.1.1.1.1.1.1.1.1.1.1.1.1.1.1.1.1.0 i;
      dirs = byte_read bytes 75 f.dirs has.1.1.1.1.1.1.1.1.1.1.1.1.1.1.1.1.1.0 i;
      res76 = has.1.1.1.1.1.1.1.1.1.1.1.1.1.1.1.1.1.1.0 i;
      vtoc = has.1.1.1.1.1.1.1.1.1.1.1.1.1.1.1.1.1.1.1.0 i;
      res115 = has.1.1.1.1.1.1.1.1.1.1.1.1.1.1.1.1.1.1.1.1.0 i;
    }

pub f4_format : (bytes : List ℕ) (f : F4) → HasFields bytes (f4_fields f) → format_byte bytes ≡ 0xF4
f4_format bytes f has = byte_read bytes 44 0xF4 has.1.0

f4_written : (bytes : List ℕ) → length bytes ≡ 140 → AreBytes bytes → format_byte bytes ≡ 0xF4 → HasFields bytes (f4_fields (f4_of bytes))
unfolding f4_of
f4_written bytes wide are format =
    (refl, (byte_written bytes 44 (omega (arith, wide)) ∙ ap (λ (b : ℕ). b ∷ []) format, (refl, (half_written bytes 50 (omega (arith, wide)) are, (word_written bytes 52 (omega (arith, wide)) are, (half_written bytes 56 (omega (arith, wide)) are, (byte_written bytes 58 (omega (arith, wide)), (byte_written bytes 59 (omega (arith, wide)), (refl, (word_written bytes 62 (omega (arith, wide)) are, (half_written bytes 66 (omega (arith, wide)) are, (byte_written bytes 68 (omega (arith, wide)), (byte_written bytes 69 (omega (arith, wide)), (byte_written bytes 70 (omega (arith, wide)), (byte_written bytes 71 (omega (arith, wide)), (half_written bytes 72 (omega (arith, wide)) are, (byte_written bytes 74 (omega (arith, wide)), (byte_written bytes 75 (omega (arith, wide)), (refl, (refl, (refl, tt)))))))))))))))))))))

pub f4_only : (f : F4) (encoded : List ℕ) → length encoded ≡ 140 → HasFields encoded (f4_fields f) → (bytes : List ℕ) → length bytes ≡ 140 → AreBytes bytes → format_byte bytes ≡ 0xF4 → f4_of bytes ≡ f → bytes ≡ encoded
f4_only f encoded wide has bytes wide_bytes are format is =
    let has_too : HasFields bytes (f4_fields f) = subst (λ (g : F4). HasFields bytes (f4_fields g)) is (f4_written bytes wide_bytes are format) in
    same_from (f4_fields f) 0 140 bytes encoded refl (omega arith) (omega arith) has_too has

-- format 5
pub f5_read : (bytes : List ℕ) (f : F5) (id : f.id < 2 ^ 32) (front : AreRows 5 8 f.front) (back : AreRows 5 18 f.back) → HasFields bytes (f5_fields f) → f5_of bytes ≡ f
unfolding f5_of
f5_read bytes f id front back has =
    λ i. record {
      id = word_read bytes 0 f.id id has.0 i;
      front = rows_read bytes 4 8 5 f.front front has.1.0 i;
      back = rows_read bytes 45 18 5 f.back back has.1.1.1.0 i;
      pointer = has.1.1.1.1.0 i;
    }

pub f5_format : (bytes : List ℕ) (f : F5) → HasFields bytes (f5_fields f) → format_byte bytes ≡ 0xF5
f5_format bytes f has = byte_read bytes 44 0xF5 has.1.1.0

f5_written : (bytes : List ℕ) → length bytes ≡ 140 → AreBytes bytes → format_byte bytes ≡ 0xF5 → HasFields bytes (f5_fields (f5_of bytes))
unfolding f5_of
f5_written bytes wide are format =
    (word_written bytes 0 (omega (arith, wide)) are, (rows_written bytes 4 8 5 (omega (arith, wide)), (byte_written bytes 44 (omega (arith, wide)) ∙ ap (λ (b : ℕ). b ∷ []) format, (rows_written bytes 45 18 5 (omega (arith, wide)), (refl, tt)))))

pub f5_only : (f : F5) (encoded : List ℕ) → length encoded ≡ 140 → HasFields encoded (f5_fields f) → (bytes : List ℕ) → length bytes ≡ 140 → AreBytes bytes → format_byte bytes ≡ 0xF5 → f5_of bytes ≡ f → bytes ≡ encoded
f5_only f encoded wide has bytes wide_bytes are format is =
    let has_too : HasFields bytes (f5_fields f) = subst (λ (g : F5). HasFields bytes (f5_fields g)) is (f5_written bytes wide_bytes are format) in
    same_from (f5_fields f) 0 140 bytes encoded refl (omega arith) (omega arith) has_too has
