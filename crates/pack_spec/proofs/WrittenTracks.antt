-- The label's data as they are written, and slots as the records of a track.
use Rattle.std.proofs.Common.{◌≡◌, ◌+◌, ◌*◌, ◌-◌, ◌<◌, ◌≤◌, ℕ, suc, slice_index_or, ap₂, List, [], ◌∷◌, ◌++◌, length, take, drop, get_or, map, replicate, refl, sym, ap, ◌∙◌, arith, append_assoc, length-append, length-drop, length-take-le}
use Rattle.std.proofs.lemmas.List.{append-nil, drop-replicate, drop_at, take_at, length-map, length-replicate, length-take, map-append, take_all, take_more}
use borrow.Rule.Slice.PartMut.{post_of, put_mid}
use Rattle.ckd_image.specs.Track.{Record, end_marker, record_bytes, records_bytes}
use Rattle.ckd_image.specs.Writing.{front_bytes}
use Rattle.std.specs.Int.{w16, to_be_bytes}
use Rattle.pack_spec.specs.declared.address.Address.{Address}
use Rattle.pack_spec.specs.Label.{vol1}
use Rattle.pack_spec.specs.Written.{label_bytes, slot_record}

-- bytes put after those that stand already, over equal ones
put_behind : (x n k m : ℕ) (front ys : List ℕ) → length front ≡ n → put_mid n k (front ++ replicate m x) ys ≡ (front ++ ys) ++ replicate (m - k) x
put_behind x n k m front ys e =
    let behind : post_of n k (front ++ replicate m x) ≡ replicate (m - k) x = ap (drop k) (drop_at front (replicate m x) n e) ∙ drop-replicate k m x in
    ap₂ (λ (xs zs : List ℕ). xs ++ (ys ++ zs)) (take_at front (replicate m x) n e) behind ∙ sym (append_assoc front ys (replicate (m - k) x))

-- three parts, each put after the other over blanks
pub laid : (a s z : List ℕ) → length a ≡ 4 → length s ≡ 6 → put_mid 10 6 (put_mid 4 6 (a ++ drop 4 (replicate 80 0x40)) s) z ≡ a ++ (s ++ (z ++ replicate 64 0x40))
laid a s z la ls =
    let two : length (a ++ s) ≡ 10 = length-append a s ∙ omega arith in
    ap (λ (xs : List ℕ). put_mid 10 6 (put_mid 4 6 (a ++ xs) s) z) (drop-replicate 4 80 0x40)
    ∙ (ap (λ (xs : List ℕ). put_mid 10 6 xs z) (put_behind 0x40 4 6 76 a s la)
    ∙ (put_behind 0x40 10 6 70 (a ++ s) z two
    ∙ (append_assoc (a ++ s) z _ ∙ append_assoc a s _)))

-- the label's data, of its text, its serial, and the security byte with the address of the VTOC
pub label_laid : (a s z c h serial : List ℕ) (vtoc : Address) → a ≡ vol1 → s ≡ serial → length serial ≡ 6 → c ≡ to_be_bytes w16 vtoc.cylinder → h ≡ to_be_bytes w16 vtoc.head
    → z ≡ 0 ∷ slice_index_or c 0 0 ∷ slice_index_or c 1 0 ∷ slice_index_or h 0 0 ∷ slice_index_or h 1 0 ∷ 1 ∷ []
    → put_mid 10 6 (put_mid 4 6 (a ++ drop 4 (replicate 80 0x40)) s) z ≡ label_bytes serial vtoc
label_laid a s z c h serial vtoc text number six cc hh last =
    let blanks : List ℕ = replicate 64 0x40 in
    laid a s z (ap length text) (ap length number ∙ six)
    ∙ (ap (λ (xs : List ℕ). xs ++ (s ++ (z ++ blanks))) text
    ∙ (ap (λ (xs : List ℕ). vol1 ++ (xs ++ (z ++ blanks))) number
    ∙ (ap (λ (xs : List ℕ). vol1 ++ (serial ++ (xs ++ blanks))) last
    ∙ ap₂ (λ (x y : List ℕ). vol1 ++ (serial ++ (0 ∷ slice_index_or x 0 0 ∷ slice_index_or x 1 0 ∷ slice_index_or y 0 0 ∷ slice_index_or y 1 0 ∷ 1 ∷ blanks))) cc hh)))

-- three records, each after the other
pub three_written : (front b c d : List ℕ) (x y z : Record) → b ≡ front ++ record_bytes 1 x → c ≡ b ++ record_bytes 2 y → d ≡ c ++ record_bytes 3 z → d ≡ front ++ records_bytes 1 (x ∷ y ∷ z ∷ [])
three_written front b c d x y z e f g =
    g
    ∙ (ap (λ (bs : List ℕ). bs ++ record_bytes 3 z) (f ∙ (ap (λ (bs : List ℕ). bs ++ record_bytes 2 y) e ∙ append_assoc front (record_bytes 1 x) (record_bytes 2 y)))
    ∙ (append_assoc front (record_bytes 1 x ++ record_bytes 2 y) (record_bytes 3 z)
    ∙ ap (λ (bs : List ℕ). front ++ bs) (append_assoc (record_bytes 1 x) (record_bytes 2 y) (record_bytes 3 z)
    ∙ ap (λ (bs : List ℕ). record_bytes 1 x ++ (record_bytes 2 y ++ bs)) (sym (append-nil (record_bytes 3 z))))))

-- one more record
pub records_bytes-push : (r n : ℕ) (xs : List Record) (y : Record) → n ≡ r + length xs → records_bytes r (xs ++ y ∷ []) ≡ records_bytes r xs ++ record_bytes n y
records_bytes-push r n [] y e =
    let same : r ≡ n = omega arith in
    append-nil (record_bytes r y) ∙ ap (λ (k : ℕ). record_bytes k y) same
records_bytes-push r n (x ∷ xs) y e =
    let next : n ≡ suc r + length xs = omega arith in
    ap (λ (bs : List ℕ). record_bytes r x ++ bs) (records_bytes-push (suc r) n xs y next) ∙ sym (append_assoc (record_bytes r x) (records_bytes (suc r) xs) (record_bytes n y))

-- the bytes are the front of a track with the first i slots after it
pub record SlotsWritten (at : Address) (slots : List (List ℕ)) (i : ℕ) (bytes : List ℕ) : Type 0 where
  pub parts : bytes ≡ front_bytes at.cylinder at.head ++ records_bytes 1 (map (slot_record at) (take i slots))
  pub size : length (records_bytes 1 (map (slot_record at) (take i slots))) ≡ 148 * i

-- none yet
pub SlotsWritten-none : (at : Address) (slots : List (List ℕ)) (bytes : List ℕ) → bytes ≡ front_bytes at.cylinder at.head → SlotsWritten at slots 0 bytes
SlotsWritten-none at slots bytes e = record { parts = e ∙ sym (append-nil (front_bytes at.cylinder at.head)); size = refl }

-- one more
pub SlotsWritten-more : (at : Address) (slots : List (List ℕ)) (i : ℕ) (bytes more slot : List ℕ) → SlotsWritten at slots i bytes → i < length slots → get_or slots i [] ≡ slot → length slot ≡ 140
    → more ≡ bytes ++ record_bytes (i + 1) (slot_record at slot) → SlotsWritten at slots (i + 1) more
SlotsWritten-more at slots i bytes more slot w here is long e =
    let before = map (slot_record at) (take i slots) in
    let number : i + 1 ≡ 1 + length before = omega (arith, length-map (take i slots) (slot_record at), length-take i slots) in
    let taken : take (i + 1) slots ≡ take i slots ++ slot ∷ [] = take_more slots i [] here ∙ ap (λ (s : List ℕ). take i slots ++ s ∷ []) is in
    let records : map (slot_record at) (take (i + 1) slots) ≡ before ++ slot_record at slot ∷ [] = ap (map (slot_record at)) taken ∙ map-append (slot_record at) (take i slots) (slot ∷ []) in
    let all : records_bytes 1 (map (slot_record at) (take (i + 1) slots)) ≡ records_bytes 1 before ++ record_bytes (i + 1) (slot_record at slot) =
    ap (records_bytes 1) records ∙ records_bytes-push 1 (i + 1) before (slot_record at slot) number in
    let key : length (take 44 slot) ≡ 44 = length-take-le 44 slot (omega arith) in
    let content : length (drop 44 slot) ≡ 96 = length-drop 44 slot ∙ omega arith in
    let one : length (record_bytes (i + 1) (slot_record at slot)) ≡ 148 = omega (arith, length-append (take 44 slot) (drop 44 slot)) in
    record {
      parts = e ∙ (ap (λ (bs : List ℕ). bs ++ record_bytes (i + 1) (slot_record at slot)) w.parts
          ∙ (append_assoc (front_bytes at.cylinder at.head) (records_bytes 1 before) (record_bytes (i + 1) (slot_record at slot))
          ∙ ap (λ (bs : List ℕ). front_bytes at.cylinder at.head ++ bs) (sym all)));
      size = ap length all ∙ (length-append (records_bytes 1 before) (record_bytes (i + 1) (slot_record at slot)) ∙ omega (arith, w.size));
    }

-- all of them
pub SlotsWritten-all : (at : Address) (slots : List (List ℕ)) (i : ℕ) (bytes : List ℕ) → SlotsWritten at slots i bytes → length slots ≤ i → bytes ≡ front_bytes at.cylinder at.head ++ records_bytes 1 (map (slot_record at) slots)
SlotsWritten-all at slots i bytes w none_left =
    w.parts ∙ ap (λ (xs : List (List ℕ)). front_bytes at.cylinder at.head ++ records_bytes 1 (map (slot_record at) xs)) (take_all i slots none_left)

-- records, and the end of their track
pub finished : (at : Address) (records bytes more : List ℕ) (n size : ℕ) → bytes ≡ front_bytes at.cylinder at.head ++ records → n ≡ length bytes
    → more ≡ bytes ++ (end_marker ++ replicate (size - (n + 8)) 0) → more ≡ front_bytes at.cylinder at.head ++ (records ++ (end_marker ++ replicate (size - (29 + length records)) 0))
finished at records bytes more n size e long end =
    let total : length bytes ≡ 21 + length records = ap length e ∙ length-append (front_bytes at.cylinder at.head) records in
    let rest : size - (n + 8) ≡ size - (29 + length records) = omega arith in
    end ∙ (ap (λ (bs : List ℕ). bs ++ (end_marker ++ replicate (size - (n + 8)) 0)) e
    ∙ (append_assoc (front_bytes at.cylinder at.head) records _
    ∙ ap (λ (k : ℕ). front_bytes at.cylinder at.head ++ (records ++ (end_marker ++ replicate k 0))) rest))

-- it has its size where the end marker fits
pub finished_size : (bytes more : List ℕ) (n size : ℕ) → n ≡ length bytes → n + 8 ≤ size → more ≡ bytes ++ (end_marker ++ replicate (size - (n + 8)) 0) → length more ≡ size
finished_size bytes more n size long room e =
    let rest : List ℕ = replicate (size - (n + 8)) 0 in
    ap length e ∙ (length-append bytes (end_marker ++ rest) ∙ omega (arith, length-replicate {A = ℕ} (size - (n + 8)) 0))
