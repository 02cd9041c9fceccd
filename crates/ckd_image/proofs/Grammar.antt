-- Laws of the grammar of a track: the records that are read are those of the grammar, and there is a break just where nothing is read.
use Rattle.std.proofs.Common.{◌≡◌, ℕ, zero, suc, ◌+◌, ◌<◌, ◌≤◌, true, false, List, [], ◌∷◌, ◌++◌, length, take, drop, Option, Some, None, option_map, ◌⊎◌, inl, inr, refl, sym, ap, ap₂, ◌∙◌, subst, arith, append_assoc, get_or-drop, take-append-drop}
use Rattle.std.proofs.lemmas.Bool.{cases_Bool, cases_lt, false_from_ne_true}
use Rattle.std.proofs.lemmas.Slice.Eq.{bytes_eq-Decides}
use Rattle.ckd_image.specs.Track.{Record, IsRecord, IsR0, AreRecords, Follows, end_marker, record_bytes, records_bytes, home_address}
use Rattle.ckd_image.specs.Reading.{is_at_end, is_record_at, front_record, record_length, records_to_end, records_up_to, is_front, records_behind, records_of}
use Rattle.ckd_image.specs.Break.{break_to_end, break_up_to, break_behind, break_or_after, pattern_break, front_pattern, break_of}
use Rattle.ckd_image.proofs.GrammarRecord.{AreBytes, record_reads, record_split}
use Rattle.ckd_image.proofs.GrammarFront.{front_reads, front_split, map_none, map_some, if_true, if_false, none-matches, matches-none, matches_front, front_matches}
use Rattle.ckd_image.proofs.GrammarWalk.{RecordCase.short, RecordCase.other, RecordCase.cut, RecordCase.whole, record_case, to_end_ended, to_end_zero, to_end_broken, to_end_stands, up_to_zero, up_to_short, up_to_ended, up_to_broken, up_to_stands, break_end_ended, break_end_zero, break_end_broken, break_end_stands, break_up_zero, break_up_short, break_up_ended, break_up_broken, break_up_stands}

-- one record more before those that are read
abbrev pub after : Record → List Record → List Record
after x xs = x ∷ xs

-- ---- a break, or something read

-- where no break is found before an end marker, the records are read
end_none : (n r : ℕ) (bytes : List ℕ) → break_to_end n r bytes ≡ None → (rs : List Record) × (records_to_end n r bytes ≡ Some rs)
end_none zero r bytes e =
    elim (cases_Bool (is_at_end bytes)) [
      | inl t ↦ ([], to_end_ended 0 r bytes t)
      | inr t ↦ absurd (let w = break_end_zero r bytes t in cc)
    ]
end_none (suc n) r bytes e =
    elim (cases_Bool (is_at_end bytes)) [
      | inl t ↦ ([], to_end_ended (suc n) r bytes t)
      | inr t ↦ elim (record_case true r bytes) [
        | short l f b ↦ absurd (let w = break_end_broken n r _ bytes t b in cc)
        | other l d f b ↦ absurd (let w = break_end_broken n r _ bytes t b in cc)
        | cut l d s f b ↦ absurd (let w = break_end_broken n r _ bytes t b in cc)
        | whole f b ↦
            (let w = end_none n (suc r) (drop (record_length bytes) bytes) (map_none _ _ (sym (break_end_stands n r bytes t b) ∙ e)) in
            (front_record bytes ∷ w.0, to_end_stands n r bytes t f ∙ ap (option_map (after (front_record bytes))) w.1))
      ]
    ]

-- where one is found, nothing is read
end_some : (n r k : ℕ) (bytes : List ℕ) → break_to_end n r bytes ≡ Some k → records_to_end n r bytes ≡ None
end_some zero r k bytes e =
    elim (cases_Bool (is_at_end bytes)) [
      | inl t ↦ absurd (let w = break_end_ended 0 r bytes t in cc)
      | inr t ↦ to_end_zero r bytes t
    ]
end_some (suc n) r k bytes e =
    elim (cases_Bool (is_at_end bytes)) [
      | inl t ↦ absurd (let w = break_end_ended (suc n) r bytes t in cc)
      | inr t ↦ elim (record_case true r bytes) [
        | short l f b ↦ to_end_broken (suc n) r bytes t f
        | other l d f b ↦ to_end_broken (suc n) r bytes t f
        | cut l d s f b ↦ to_end_broken (suc n) r bytes t f
        | whole f b ↦
            (let v = map_some _ _ k (sym (break_end_stands n r bytes t b) ∙ e) in
            to_end_stands n r bytes t f ∙ ap (option_map (after (front_record bytes))) (end_some n (suc r) v.0 (drop (record_length bytes) bytes) v.1))
      ]
    ]

-- the same up to a record
up_none : (n r : ℕ) (bytes : List ℕ) → break_up_to n r bytes ≡ None → (rs : List Record) × (records_up_to n r bytes ≡ Some rs)
up_none zero r bytes e =
    elim (cases_lt (length bytes) 8) [
      | inl t ↦ absurd (let w = break_up_short r bytes t in cc)
      | inr t ↦ ([], up_to_zero r bytes t)
    ]
up_none (suc n) r bytes e =
    elim (cases_Bool (is_at_end bytes)) [
      | inl t ↦ absurd (let w = break_up_ended n r bytes t in cc)
      | inr t ↦ elim (record_case false r bytes) [
        | short l f b ↦ absurd (let w = break_up_broken n r _ bytes t b in cc)
        | other l d f b ↦ absurd (let w = break_up_broken n r _ bytes t b in cc)
        | cut l d s f b ↦ absurd (let w = break_up_broken n r _ bytes t b in cc)
        | whole f b ↦
            (let w = up_none n (suc r) (drop (record_length bytes) bytes) (map_none _ _ (sym (break_up_stands n r bytes t b) ∙ e)) in
            (front_record bytes ∷ w.0, up_to_stands n r bytes t f ∙ ap (option_map (after (front_record bytes))) w.1))
      ]
    ]

up_some : (n r k : ℕ) (bytes : List ℕ) → break_up_to n r bytes ≡ Some k → records_up_to n r bytes ≡ None
up_some zero r k bytes e =
    elim (cases_lt (length bytes) 8) [
      | inl t ↦ up_to_short r bytes t
      | inr t ↦ absurd (let w = break_up_zero r bytes t in cc)
    ]
up_some (suc n) r k bytes e =
    elim (cases_Bool (is_at_end bytes)) [
      | inl t ↦ up_to_ended n r bytes t
      | inr t ↦ elim (record_case false r bytes) [
        | short l f b ↦ up_to_broken n r bytes f
        | other l d f b ↦ up_to_broken n r bytes f
        | cut l d s f b ↦ up_to_broken n r bytes f
        | whole f b ↦
            (let v = map_some _ _ k (sym (break_up_stands n r bytes t b) ∙ e) in
            up_to_stands n r bytes t f ∙ ap (option_map (after (front_record bytes))) (up_some n (suc r) v.0 (drop (record_length bytes) bytes) v.1))
      ]
    ]

-- both after the front
behind_none : (u : Option ℕ) (bytes : List ℕ) → break_behind u bytes ≡ None → (rs : List Record) × (records_behind u bytes ≡ Some rs)
behind_none None bytes e = end_none 255 1 bytes e
behind_none (Some r) bytes e = up_none r 1 bytes e

behind_some : (u : Option ℕ) (k : ℕ) (bytes : List ℕ) → break_behind u bytes ≡ Some k → records_behind u bytes ≡ None
behind_some None k bytes e = end_some 255 1 k bytes e
behind_some (Some r) k bytes e = up_some r 1 k bytes e

-- an option holds something or nothing
pub cases_option : {A : Type 0} (o : Option A) → (o ≡ None) ⊎ ((x : A) × (o ≡ Some x))
cases_option None = inl refl
cases_option (Some x) = inr (x, refl)

-- the front breaks, or what stands after it
pub break_front : (c h : ℕ) (u : Option ℕ) (k : ℕ) (bytes : List ℕ) → pattern_break (front_pattern c h) bytes ≡ Some k → break_of c h u bytes ≡ Some k
unfolding break_of
break_front c h u k bytes e = ap (λ (o : Option ℕ). break_or_after o 21 (break_behind u (drop 21 bytes))) e

pub break_past : (c h : ℕ) (u : Option ℕ) (bytes : List ℕ) → pattern_break (front_pattern c h) bytes ≡ None → break_of c h u bytes ≡ option_map (λ (k : ℕ). 21 + k) (break_behind u (drop 21 bytes))
unfolding break_of
break_past c h u bytes e = ap (λ (o : Option ℕ). break_or_after o 21 (break_behind u (drop 21 bytes))) e

-- nothing is read without a front, and after it the records
pub read_nothing : (c h : ℕ) (u : Option ℕ) (bytes : List ℕ) → is_front c h bytes ≡ false → records_of c h u bytes ≡ None
unfolding records_of
read_nothing c h u bytes e = if_false (is_front c h bytes) _ _ e

pub read_past : (c h : ℕ) (u : Option ℕ) (bytes : List ℕ) → is_front c h bytes ≡ true → records_of c h u bytes ≡ records_behind u (drop 21 bytes)
unfolding records_of
read_past c h u bytes e = if_true (is_front c h bytes) _ _ e

-- the front stands just where its pattern doesn't break
pub front_stands : (c h : ℕ) (bytes : List ℕ) → pattern_break (front_pattern c h) bytes ≡ None → is_front c h bytes ≡ true
front_stands c h bytes e = matches_front c h bytes (none-matches (front_pattern c h) bytes e)

pub front_broken : (c h k : ℕ) (bytes : List ℕ) → pattern_break (front_pattern c h) bytes ≡ Some k → is_front c h bytes ≡ false
front_broken c h k bytes e = false_from_ne_true (is_front c h bytes) (λ t. let w = matches-none (front_pattern c h) bytes (front_matches c h bytes t) in cc)

-- a track that breaks nowhere is read
pub break_none : (c h : ℕ) (u : Option ℕ) (bytes : List ℕ) → break_of c h u bytes ≡ None → (rs : List Record) × (records_of c h u bytes ≡ Some rs)
break_none c h u bytes e =
    elim (cases_option (pattern_break (front_pattern c h) bytes)) [
      | inl p ↦
          (let w = behind_none u (drop 21 bytes) (map_none _ _ (sym (break_past c h u bytes p) ∙ e)) in
          (w.0, read_past c h u bytes (front_stands c h bytes p) ∙ w.1))
      | inr p ↦ absurd (let w = break_front c h u p.0 bytes p.1 in cc)
    ]

-- where a track breaks, nothing is read
pub break_some : (c h : ℕ) (u : Option ℕ) (bytes : List ℕ) (at : ℕ) → break_of c h u bytes ≡ Some at → records_of c h u bytes ≡ None
break_some c h u bytes at e =
    elim (cases_option (pattern_break (front_pattern c h) bytes)) [
      | inl p ↦
          (let w = map_some _ _ at (sym (break_past c h u bytes p) ∙ e) in
          read_past c h u bytes (front_stands c h bytes p) ∙ behind_some u w.0 (drop 21 bytes) w.1)
      | inr p ↦ read_nothing c h u bytes (front_broken c h p.0 bytes p.1)
    ]

-- ---- what the grammar has is read

-- the bytes are records from Rr on, an end marker, and a rest
pub record IsToEnd (r : ℕ) (rs : List Record) (bytes : List ℕ) : Type 0 where
  pub rest : List ℕ
  pub stand : AreRecords r rs
  pub parts : bytes ≡ records_bytes r rs ++ (end_marker ++ rest)

-- the bytes are so many records from Rr on, and a rest of at least eight
pub record IsUpTo (n r : ℕ) (rs : List Record) (bytes : List ℕ) : Type 0 where
  pub rest : List ℕ
  pub stand : AreRecords r rs
  pub parts : bytes ≡ records_bytes r rs ++ rest
  pub room : 8 ≤ length rest
  pub number : length rs ≡ n

-- one record is read, and the others after it
pub step_end : (n r : ℕ) (x : Record) (t : List ℕ) → IsRecord r x → records_to_end (suc n) r (record_bytes r x ++ t) ≡ option_map (after x) (records_to_end n (suc r) t)
step_end n r x t is =
    let w = record_reads r x t is in
    to_end_stands n r (record_bytes r x ++ t) w.goes_on w.stands
    ∙ ap₂ (λ (y : Record) (ys : List ℕ). option_map (after y) (records_to_end n (suc r) ys)) w.front w.behind

pub step_up : (n r : ℕ) (x : Record) (t : List ℕ) → IsRecord r x → records_up_to (suc n) r (record_bytes r x ++ t) ≡ option_map (after x) (records_up_to n (suc r) t)
step_up n r x t is =
    let w = record_reads r x t is in
    up_to_stands n r (record_bytes r x ++ t) w.goes_on w.stands
    ∙ ap₂ (λ (y : Record) (ys : List ℕ). option_map (after y) (records_up_to n (suc r) ys)) w.front w.behind

-- the end marker ends a track, whatever stands after it
pub marker_ends : (rest : List ℕ) → is_at_end (end_marker ++ rest) ≡ true
marker_ends rest = (bytes_eq-Decides end_marker end_marker).1 refl

-- records that may stand are read
pub read_to_end : (rs : List Record) (n r : ℕ) (rest : List ℕ) → AreRecords r rs → length rs ≤ n → records_to_end n r (records_bytes r rs ++ (end_marker ++ rest)) ≡ Some rs
read_to_end [] n r rest s l = to_end_ended n r (end_marker ++ rest) (marker_ends rest)
read_to_end (x ∷ xs) zero r rest s l = absurd (omega arith)
read_to_end (x ∷ xs) (suc n) r rest s l =
    ap (records_to_end (suc n) r) (append_assoc (record_bytes r x) (records_bytes (suc r) xs) (end_marker ++ rest))
    ∙ (step_end n r x (records_bytes (suc r) xs ++ (end_marker ++ rest)) s.0 ∙ ap (option_map (after x)) (read_to_end xs n (suc r) rest s.1 (omega arith)))

read_up_to : (rs : List Record) (r : ℕ) (rest : List ℕ) → AreRecords r rs → 8 ≤ length rest → records_up_to (length rs) r (records_bytes r rs ++ rest) ≡ Some rs
read_up_to [] r rest s l = up_to_zero r rest l
read_up_to (x ∷ xs) r rest s l =
    ap (records_up_to (suc (length xs)) r) (append_assoc (record_bytes r x) (records_bytes (suc r) xs) rest)
    ∙ (step_up (length xs) r x (records_bytes (suc r) xs ++ rest) s.0 ∙ ap (option_map (after x)) (read_up_to xs (suc r) rest s.1 l))

-- there are no more records than numbers for them
few_records : (rs : List Record) (r : ℕ) → r ≤ 256 → AreRecords r rs → r + length rs ≤ 256
few_records [] r l s = omega arith
few_records (x ∷ xs) r l s = let here : r < 256 = s.0.number in omega (arith, few_records xs (suc r) here s.1)

-- a track of the grammar is read as its records
pub follows_read : (c h : ℕ) (u : Option ℕ) (rs : List Record) (bytes : List ℕ) → Follows c h u rs bytes → records_of c h u bytes ≡ Some rs
follows_read c h None rs bytes f =
    let w = front_reads f.first c h f.r0 (records_bytes 1 rs ++ (end_marker ++ f.rest)) f.zero_stands in
    ap (records_of c h None) f.parts
    ∙ (read_past c h None _ w.stands
    ∙ (ap (records_to_end 255 1) w.behind
    ∙ read_to_end rs 255 1 f.rest f.stand (omega (arith, few_records rs 1 (omega arith) f.stand))))
follows_read c h (Some r) rs bytes f =
    let w = front_reads f.0.first c h f.0.r0 (records_bytes 1 rs ++ f.0.rest) f.0.zero_stands in
    ap (records_of c h (Some r)) f.0.parts
    ∙ (read_past c h (Some r) _ w.stands
    ∙ (ap (records_up_to r 1) w.behind
    ∙ (ap (λ (n : ℕ). records_up_to n 1 (records_bytes 1 rs ++ f.0.rest)) (sym f.1)
    ∙ read_up_to rs 1 f.0.rest f.0.stand f.0.room)))

-- ---- what is read follows the grammar

-- the bytes after some are bytes
pub bytes_behind : (n : ℕ) (bytes : List ℕ) → AreBytes bytes → AreBytes (drop n bytes)
bytes_behind n bytes small i = rw get_or-drop (small (n + i))

-- an end marker at the front
pub ended_parts : (bytes : List ℕ) → is_at_end bytes ≡ true → bytes ≡ end_marker ++ drop 8 bytes
ended_parts bytes t = sym (take-append-drop 8 bytes) ∙ ap (λ (ys : List ℕ). ys ++ drop 8 bytes) ((bytes_eq-Decides (take 8 bytes) end_marker).0 t)

-- no record before an end marker, and one record more
pub none_to_end : (r : ℕ) (bytes : List ℕ) → is_at_end bytes ≡ true → IsToEnd r [] bytes
none_to_end r bytes t = record { rest = drop 8 bytes; stand = tt; parts = ended_parts bytes t }

pub one_to_end : (r : ℕ) (x : Record) (xs : List Record) (bytes t : List ℕ) → IsRecord r x → bytes ≡ record_bytes r x ++ t → IsToEnd (suc r) xs t → IsToEnd r (x ∷ xs) bytes
one_to_end r x xs bytes t is e w = record {
  rest = w.rest;
  stand = (is, w.stand);
  parts = e ∙ (ap (λ (ys : List ℕ). record_bytes r x ++ ys) w.parts ∙ sym (append_assoc (record_bytes r x) (records_bytes (suc r) xs) (end_marker ++ w.rest)));
}

pub none_up_to : (r : ℕ) (bytes : List ℕ) → 8 ≤ length bytes → IsUpTo 0 r [] bytes
none_up_to r bytes l = record { rest = bytes; stand = tt; parts = refl; room = l; number = refl }

pub one_up_to : (n r : ℕ) (x : Record) (xs : List Record) (bytes t : List ℕ) → IsRecord r x → bytes ≡ record_bytes r x ++ t → IsUpTo n (suc r) xs t → IsUpTo (suc n) r (x ∷ xs) bytes
one_up_to n r x xs bytes t is e w = record {
  rest = w.rest;
  stand = (is, w.stand);
  parts = e ∙ (ap (λ (ys : List ℕ). record_bytes r x ++ ys) w.parts ∙ sym (append_assoc (record_bytes r x) (records_bytes (suc r) xs) w.rest));
  room = w.room;
  number = ap suc w.number;
}

-- what an option has is one thing
pub one_answer : {A : Type 0} (o : Option A) (x y : A) → o ≡ Some x → o ≡ Some y → x ≡ y
one_answer o x y p q = cc

-- what is read before an end marker stands there
pub to_end_stand : (n r : ℕ) (rs : List Record) (bytes : List ℕ) → AreBytes bytes → records_to_end n r bytes ≡ Some rs → IsToEnd r rs bytes
to_end_stand zero r rs bytes small e =
    elim (cases_Bool (is_at_end bytes)) [
      | inl t ↦ subst (λ xs. IsToEnd r xs bytes) (one_answer _ [] rs (to_end_ended 0 r bytes t) e) (none_to_end r bytes t)
      | inr t ↦ absurd (let w = to_end_zero r bytes t in cc)
    ]
to_end_stand (suc n) r rs bytes small e =
    elim (cases_Bool (is_at_end bytes)) [
      | inl t ↦ subst (λ xs. IsToEnd r xs bytes) (one_answer _ [] rs (to_end_ended (suc n) r bytes t) e) (none_to_end r bytes t)
      | inr t ↦ elim (cases_Bool (is_record_at r bytes)) [
        | inl f ↦
            (let v = map_some (after (front_record bytes)) _ rs (sym (to_end_stands n r bytes t f) ∙ e) in
            let w = record_split r bytes small t f in
            subst (λ xs. IsToEnd r xs bytes) (sym v.2)
            (one_to_end r (front_record bytes) v.0 bytes (drop (record_length bytes) bytes) w.is w.parts
            (to_end_stand n (suc r) v.0 (drop (record_length bytes) bytes) (bytes_behind (record_length bytes) bytes small) v.1)))
        | inr f ↦ absurd (let w = to_end_broken (suc n) r bytes t f in cc)
      ]
    ]

-- what is read up to a record stands there
pub up_to_stand : (n r : ℕ) (rs : List Record) (bytes : List ℕ) → AreBytes bytes → records_up_to n r bytes ≡ Some rs → IsUpTo n r rs bytes
up_to_stand zero r rs bytes small e =
    elim (cases_lt (length bytes) 8) [
      | inl t ↦ absurd (let w = up_to_short r bytes t in cc)
      | inr t ↦ subst (λ xs. IsUpTo 0 r xs bytes) (one_answer _ [] rs (up_to_zero r bytes t) e) (none_up_to r bytes t)
    ]
up_to_stand (suc n) r rs bytes small e =
    elim (cases_Bool (is_at_end bytes)) [
      | inl t ↦ absurd (let w = up_to_ended n r bytes t in cc)
      | inr t ↦ elim (cases_Bool (is_record_at r bytes)) [
        | inl f ↦
            (let v = map_some (after (front_record bytes)) _ rs (sym (up_to_stands n r bytes t f) ∙ e) in
            let w = record_split r bytes small t f in
            subst (λ xs. IsUpTo (suc n) r xs bytes) (sym v.2)
            (one_up_to n r (front_record bytes) v.0 bytes (drop (record_length bytes) bytes) w.is w.parts
            (up_to_stand n (suc r) v.0 (drop (record_length bytes) bytes) (bytes_behind (record_length bytes) bytes small) v.1)))
        | inr f ↦ absurd (let w = up_to_broken n r bytes f in cc)
      ]
    ]

-- a front and what stands after it are a track
pub track_to_end : (c h : ℕ) (rs : List Record) (bytes t : List ℕ) (first : ℕ) (r0 : Record) → IsR0 r0 → bytes ≡ home_address first c h ++ (record_bytes 0 r0 ++ t) → IsToEnd 1 rs t → Follows c h None rs bytes
track_to_end c h rs bytes t first r0 is e w = record {
  first = first;
  r0 = r0;
  rest = w.rest;
  zero_stands = is;
  stand = w.stand;
  parts = e ∙ ap (λ (ys : List ℕ). home_address first c h ++ (record_bytes 0 r0 ++ ys)) w.parts;
}

pub track_up_to : (c h n : ℕ) (rs : List Record) (bytes t : List ℕ) (first : ℕ) (r0 : Record) → IsR0 r0 → bytes ≡ home_address first c h ++ (record_bytes 0 r0 ++ t) → IsUpTo n 1 rs t → Follows c h (Some n) rs bytes
track_up_to c h n rs bytes t first r0 is e w = (
  record {
    first = first;
    r0 = r0;
    rest = w.rest;
    zero_stands = is;
    stand = w.stand;
    parts = e ∙ ap (λ (ys : List ℕ). home_address first c h ++ (record_bytes 0 r0 ++ ys)) w.parts;
    room = w.room;
  },
  w.number,
)

-- where records are read the front stands
pub reads_front : (c h : ℕ) (u : Option ℕ) (rs : List Record) (bytes : List ℕ) → records_of c h u bytes ≡ Some rs → is_front c h bytes ≡ true
reads_front c h u rs bytes e =
    elim (cases_Bool (is_front c h bytes)) [
      | inl t ↦ t
      | inr t ↦ absurd (let w = read_nothing c h u bytes t in cc)
    ]

-- what is read is a track of the grammar
pub read_follows : (c h : ℕ) (u : Option ℕ) (rs : List Record) (bytes : List ℕ) → AreBytes bytes → records_of c h u bytes ≡ Some rs → Follows c h u rs bytes
read_follows c h None rs bytes small e =
    let t = reads_front c h None rs bytes e in
    let w = front_split c h bytes t in
    track_to_end c h rs bytes (drop 21 bytes) w.first w.r0 w.is w.parts
    (to_end_stand 255 1 rs (drop 21 bytes) (bytes_behind 21 bytes small) (sym (read_past c h None bytes t) ∙ e))
read_follows c h (Some n) rs bytes small e =
    let t = reads_front c h (Some n) rs bytes e in
    let w = front_split c h bytes t in
    track_up_to c h n rs bytes (drop 21 bytes) w.first w.r0 w.is w.parts
    (up_to_stand n 1 rs (drop 21 bytes) (bytes_behind 21 bytes small) (sym (read_past c h (Some n) bytes t) ∙ e))
