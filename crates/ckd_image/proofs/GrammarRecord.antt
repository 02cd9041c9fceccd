-- One record at the front of a track's bytes: how it is read, and that what is read is its bytes.
use Rattle.std.proofs.Common.{◌≡◌, ◌≢◌, ℕ, zero, suc, ◌+◌, ◌-◌, ◌<◌, ◌≤◌, true, false, List, [], ◌∷◌, ◌++◌, length, take, drop, get_or, slice_range, refl, sym, ap, ◌∙◌, arith, subst, append_assoc, add_assoc, length-take-le, ap₂, drop-drop, take-append-drop, length-append, length-drop, take_at, drop_at, le-leb, eq-eqb, leb-true, eqb-true}
use Rattle.std.proofs.lemmas.Bool.{and_from, and_parts, false_from_ne_true, false≢true}
use Rattle.std.proofs.lemmas.Slice.Eq.{bytes_eq-Decides}
use Rattle.std.proofs.lemmas.Nat.{from_be_bytes-to_be_bytes_2, be_bytes_2}
use Rattle.std.specs.Int.{w16, to_be_bytes, from_be_bytes}
use Rattle.ckd_image.specs.Track.{Record, IsRecord, end_marker, count_of, record_bytes}
use Rattle.ckd_image.specs.Reading.{is_at_end, record_length, front_record, is_record_at}

-- what holds of each list of four holds of a list whose length is 4
pub at_four : (P : List ℕ → Type 0) → ((a b c d : ℕ) → P (a ∷ b ∷ c ∷ d ∷ [])) → (xs : List ℕ) → length xs ≡ 4 → P xs
at_four P h [] e = absurd (omega arith)
at_four P h (a ∷ []) e = absurd (omega arith)
at_four P h (a ∷ b ∷ []) e = absurd (omega arith)
at_four P h (a ∷ b ∷ c ∷ []) e = absurd (omega arith)
at_four P h (a ∷ b ∷ c ∷ d ∷ []) e = h a b c d
at_four P h (a ∷ b ∷ c ∷ d ∷ x ∷ xs) e = absurd (omega arith)

-- x is read at the front of the bytes as Rr, and t is what stands after it
pub record Reads (r : ℕ) (x : Record) (bytes t : List ℕ) : Type 0 where
  pub goes_on : is_at_end bytes ≡ false
  pub stands : is_record_at r bytes ≡ true
  pub front : front_record bytes ≡ x
  pub behind : drop (record_length bytes) bytes ≡ t

-- the bytes begin with no end marker where the first eight are none
pub not_at_end : (bytes xs : List ℕ) → take 8 bytes ≡ xs → xs ≢ end_marker → is_at_end bytes ≡ false
not_at_end bytes xs e ne = false_from_ne_true (is_at_end bytes) (λ t. ne (sym e ∙ (bytes_eq-Decides (take 8 bytes) end_marker).0 t))

-- the eight bytes of a count
abbrev pub counted : ℕ → ℕ → ℕ → ℕ → ℕ → ℕ → ℕ → List ℕ
counted a b c d r k n = a ∷ b ∷ c ∷ d ∷ r ∷ k ∷ to_be_bytes w16 n

-- the length of a record whose count is written out
counted_length : (a b c d r k n : ℕ) (rest : List ℕ) → n < 65536 → record_length (counted a b c d r k n ++ rest) ≡ 8 + k + n
counted_length a b c d r k n rest fits = ap (λ (m : ℕ). 8 + k + m) (from_be_bytes-to_be_bytes_2 n fits)

-- such a record stands at the front
counted_stands : (a b c d r : ℕ) (key content t : List ℕ) → length content < 65536
    → is_record_at r (counted a b c d r (length key) (length content) ++ ((key ++ content) ++ t)) ≡ true
counted_stands a b c d r key content t fits =
    let size : length ((key ++ content) ++ t) ≡ length key + length content + length t = length-append (key ++ content) t ∙ ap (λ (m : ℕ). m + length t) (length-append key content) in
    let whole : record_length (counted a b c d r (length key) (length content) ++ ((key ++ content) ++ t)) ≡ 8 + length key + length content = counted_length a b c d r (length key) (length content) ((key ++ content) ++ t) fits in
    and_from _ _ (and_from _ _ (le-leb _ _ (omega arith)) (eq-eqb r r refl)) (le-leb _ _ (omega arith))

-- its key is read
counted_key : (a b c d r n : ℕ) (key content t : List ℕ)
    → slice_range (counted a b c d r (length key) n ++ ((key ++ content) ++ t)) 8 (8 + length key) ≡ key
counted_key a b c d r n key content t =
    let e : 8 + length key - 8 ≡ length key = omega arith in
    rw (e, append_assoc key content t) (take_at key (content ++ t) (length key) refl)

-- what stands after the count and the key
counted_past_key : (a b c d r n : ℕ) (key content t : List ℕ)
    → drop (8 + length key) (counted a b c d r (length key) n ++ ((key ++ content) ++ t)) ≡ content ++ t
counted_past_key a b c d r n key content t =
    sym (drop-drop (length key) 8 (counted a b c d r (length key) n ++ ((key ++ content) ++ t)))
    ∙ (ap (drop (length key)) (append_assoc key content t) ∙ drop_at key (content ++ t) (length key) refl)

-- its data are read
counted_data : (a b c d r n : ℕ) (key content t : List ℕ)
    → slice_range (counted a b c d r (length key) n ++ ((key ++ content) ++ t)) (8 + length key) (8 + length key + length content) ≡ content
counted_data a b c d r n key content t =
    let e : 8 + length key + length content - (8 + length key) ≡ length content = omega arith in
    rw (e, counted_past_key a b c d r n key content t) (take_at content t (length content) refl)

-- what stands after it
counted_behind : (a b c d r n : ℕ) (key content t : List ℕ)
    → drop (8 + length key + length content) (counted a b c d r (length key) n ++ ((key ++ content) ++ t)) ≡ t
counted_behind a b c d r n key content t =
    sym (drop-drop (length content) (8 + length key) (counted a b c d r (length key) n ++ ((key ++ content) ++ t)))
    ∙ (ap (drop (length content)) (counted_past_key a b c d r n key content t) ∙ drop_at content t (length content) refl)

-- a record of those parts
abbrev pub made : List ℕ → List ℕ → List ℕ → Record
made address key content = record { address = address; key = key; «data» = content }

counted_reads : (a b c d r : ℕ) (key content t : List ℕ) → IsRecord r (made (a ∷ b ∷ c ∷ d ∷ []) key content)
    → Reads r (made (a ∷ b ∷ c ∷ d ∷ []) key content) (record_bytes r (made (a ∷ b ∷ c ∷ d ∷ []) key content) ++ t) t
counted_reads a b c d r key content t is =
    let long : record_length (counted a b c d r (length key) (length content) ++ ((key ++ content) ++ t)) ≡ 8 + length key + length content = counted_length a b c d r (length key) (length content) ((key ++ content) ++ t) is.data_fits in
    record {
      goes_on = not_at_end (record_bytes r (made (a ∷ b ∷ c ∷ d ∷ []) key content) ++ t) (count_of r (made (a ∷ b ∷ c ∷ d ∷ []) key content)) refl is.count;
      stands = counted_stands a b c d r key content t is.data_fits;
      front = ap₂ (made (a ∷ b ∷ c ∷ d ∷ [])) (counted_key a b c d r (length content) key content t) (ap (slice_range (counted a b c d r (length key) (length content) ++ ((key ++ content) ++ t)) (8 + length key)) long ∙ counted_data a b c d r (length content) key content t);
      behind = ap (λ (m : ℕ). drop m (counted a b c d r (length key) (length content) ++ ((key ++ content) ++ t))) long ∙ counted_behind a b c d r (length content) key content t;
    }

-- a record's bytes are read as that record
pub record_reads : (r : ℕ) (x : Record) (t : List ℕ) → IsRecord r x → Reads r x (record_bytes r x ++ t) t
record_reads r x t is =
    at_four (λ ad. IsRecord r (made ad x.key x.data) → Reads r (made ad x.key x.data) (record_bytes r (made ad x.key x.data) ++ t) t)
    (λ a b c d. counted_reads a b c d r x.key x.data t) x.address is.four is

-- what holds of each list that begins with eight written out holds of a list that has eight
pub at_eight : (P : List ℕ → Type 0) → ((a b c d e f g h : ℕ) (xs : List ℕ) → P (a ∷ b ∷ c ∷ d ∷ e ∷ f ∷ g ∷ h ∷ xs)) → (xs : List ℕ) → 8 ≤ length xs → P xs
at_eight P h [] e = absurd (omega arith)
at_eight P h (a ∷ []) e = absurd (omega arith)
at_eight P h (a ∷ b ∷ []) e = absurd (omega arith)
at_eight P h (a ∷ b ∷ c ∷ []) e = absurd (omega arith)
at_eight P h (a ∷ b ∷ c ∷ d ∷ []) e = absurd (omega arith)
at_eight P h (a ∷ b ∷ c ∷ d ∷ x ∷ []) e = absurd (omega arith)
at_eight P h (a ∷ b ∷ c ∷ d ∷ x ∷ y ∷ []) e = absurd (omega arith)
at_eight P h (a ∷ b ∷ c ∷ d ∷ x ∷ y ∷ z ∷ []) e = absurd (omega arith)
at_eight P h (a ∷ b ∷ c ∷ d ∷ x ∷ y ∷ z ∷ w ∷ xs) e = h a b c d x y z w xs

-- a list in three parts
three_parts : (k n : ℕ) (xs : List ℕ) → (take k xs ++ take n (drop k xs)) ++ drop (k + n) xs ≡ xs
three_parts k n xs =
    append_assoc (take k xs) (take n (drop k xs)) (drop (k + n) xs)
    ∙ (ap (λ (ys : List ℕ). take k xs ++ (take n (drop k xs) ++ ys)) (sym (drop-drop n k xs))
    ∙ (ap (λ (ys : List ℕ). take k xs ++ ys) (take-append-drop n (drop k xs))
    ∙ take-append-drop k xs))

-- each element is a byte
abbrev pub AreBytes : List ℕ → Type 0
AreBytes bytes = (i : ℕ) → get_or bytes i 0 < 256

abbrev pub joined : List ℕ → List ℕ → List ℕ
joined xs ys = xs ++ ys

-- what is left of a sum
back_eight : (f : ℕ) → 8 + f - 8 ≡ f
back_eight f = omega arith

back_more : (m n : ℕ) → m + n - m ≡ n
back_more m n = omega arith

-- two bytes as a list, and the number that they are
two_bytes : (g h : ℕ) → g < 256 → h < 256 → AreBytes (g ∷ h ∷ [])
two_bytes g h small_g small_h zero = small_g
two_bytes g h small_g small_h (suc zero) = small_h
two_bytes g h small_g small_h (suc (suc i)) = omega arith

two_small : (g h n : ℕ) → g < 256 → h < 256 → n ≡ from_be_bytes w16 (g ∷ h ∷ []) → n < 65536
two_small g h n small_g small_h e = omega arith

-- the bytes are those of a record as Rr and what stands after
pub record IsSplit (r : ℕ) (bytes : List ℕ) : Type 0 where
  pub is : IsRecord r (front_record bytes)
  pub parts : bytes ≡ record_bytes r (front_record bytes) ++ drop (record_length bytes) bytes

-- the same of bytes of which eight are written out: n is what the last two say
split_eight : (r a b c d f g h n : ℕ) (xs : List ℕ) → n ≡ from_be_bytes w16 (g ∷ h ∷ []) → AreBytes (a ∷ b ∷ c ∷ d ∷ r ∷ f ∷ g ∷ h ∷ xs)
    → is_at_end (a ∷ b ∷ c ∷ d ∷ r ∷ f ∷ g ∷ h ∷ xs) ≡ false → f + n ≤ length xs → IsSplit r (a ∷ b ∷ c ∷ d ∷ r ∷ f ∷ g ∷ h ∷ xs)
split_eight r a b c d f g h n xs is_n small goes fits =
    let bytes : List ℕ = a ∷ b ∷ c ∷ d ∷ r ∷ f ∷ g ∷ h ∷ xs in
    let long : record_length bytes ≡ 8 + f + n = ap (λ (m : ℕ). 8 + f + m) (sym is_n) in
    let is_key : (front_record bytes).key ≡ take f xs = ap (λ (m : ℕ). take m xs) (back_eight f) in
    let is_content : (front_record bytes).data ≡ take n (drop f xs) =
    ap₂ (λ (m : ℕ) (ys : List ℕ). take m ys) (ap (λ (m : ℕ). m - (8 + f)) long ∙ back_more (8 + f) n) (sym (drop-drop f 8 bytes)) in
    let rest : drop (record_length bytes) bytes ≡ drop (f + n) xs =
    ap (λ (m : ℕ). drop m bytes) (long ∙ add_assoc 8 f n) ∙ sym (drop-drop (f + n) 8 bytes) in
    let key_long : length (front_record bytes).key ≡ f = ap length is_key ∙ length-take-le f xs (omega arith) in
    let content_long : length (front_record bytes).data ≡ n = ap length is_content ∙ length-take-le n (drop f xs) (omega (arith, length-drop f xs)) in
    let last : to_be_bytes w16 (length (front_record bytes).data) ≡ g ∷ h ∷ [] =
    be_bytes_2 (g ∷ h ∷ []) (length (front_record bytes).data) refl (two_bytes g h (small 6) (small 7)) (content_long ∙ is_n) in
    let counted_is : count_of r (front_record bytes) ≡ a ∷ b ∷ c ∷ d ∷ r ∷ f ∷ g ∷ h ∷ [] =
    ap₂ (λ (k : ℕ) (ys : List ℕ). a ∷ b ∷ c ∷ d ∷ r ∷ k ∷ ys) key_long last in
    let content_small : n < 65536 = two_small g h n (small 6) (small 7) is_n in
    record {
      is = record {
        number = small 4;
        four = refl;
        key_fits = rw key_long (small 5);
        data_fits = rw content_long content_small;
        count = λ e. false≢true (sym goes ∙ (bytes_eq-Decides (take 8 bytes) end_marker).1 (sym counted_is ∙ e));
      };
      parts = sym (ap₂ joined counted_is (ap₂ joined (ap₂ joined is_key is_content) rest ∙ three_parts f n xs));
    }

-- the same of bytes of which Rr is said to stand at the front
pub record_split : (r : ℕ) (bytes : List ℕ) → AreBytes bytes → is_at_end bytes ≡ false → is_record_at r bytes ≡ true → IsSplit r bytes
record_split r bytes small goes stands =
    let parts = and_parts _ _ stands in
    let front = and_parts _ _ parts.0 in
    at_eight (λ bs. AreBytes bs → is_at_end bs ≡ false → get_or bs 4 0 ≡ r → record_length bs ≤ length bs → IsSplit r bs)
    (λ a b c d e f g h xs small' goes' is_r fits.
    subst (λ q. IsSplit q (a ∷ b ∷ c ∷ d ∷ e ∷ f ∷ g ∷ h ∷ xs)) is_r
    (split_eight e a b c d f g h (from_be_bytes w16 (g ∷ h ∷ [])) xs refl small' goes' (omega arith)))
    bytes (leb-true 8 (length bytes) front.0) small goes (eqb-true (get_or bytes 4 0) r front.1) (leb-true (record_length bytes) (length bytes) parts.1)
