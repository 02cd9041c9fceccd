-- The home address and R0 at the front of a track's bytes.
use Rattle.std.proofs.Common.{◌≡◌, ◌≢◌, ℕ, zero, suc, ◌+◌, ◌<◌, ◌≤◌, Bool, true, false, ◌==◌, List, [], ◌∷◌, ◌++◌, length, take, drop, get_or, replicate, slice_range, Option, Some, None, option_map, if◌then◌else◌, ◌⊎◌, inl, inr, refl, sym, ap, ap₂, ◌∙◌, subst, arith, length-append, drop_at, length-take-le, take-append-drop, le-leb, eq-eqb, leb-true, eqb-true}
use Rattle.std.specs.Prelude.{⊤}
use Rattle.std.proofs.lemmas.Bool.{and_from, and_parts}
use Rattle.std.proofs.lemmas.Slice.Eq.{bytes_eq-Decides}
use Rattle.std.specs.Int.{w16, to_be_bytes}
use Rattle.ckd_image.specs.Track.{Record, IsR0, end_marker, record_bytes, home_address}
use Rattle.ckd_image.specs.Reading.{is_front}
use Rattle.ckd_image.specs.Break.{pattern_break, front_pattern}
use Rattle.ckd_image.proofs.GrammarRecord.{at_four, at_eight, made}

-- the bytes are a home address, R0 and what stands after
pub record IsFront (cylinder head : ℕ) (bytes : List ℕ) : Type 0 where
  pub first : ℕ
  pub r0 : Record
  pub is : IsR0 r0
  pub parts : bytes ≡ home_address first cylinder head ++ (record_bytes 0 r0 ++ drop 21 bytes)

-- a count with R = 0 isn't the end marker
no_marker : (a b c d k : ℕ) (xs : List ℕ) → (a ∷ b ∷ c ∷ d ∷ 0 ∷ k ∷ xs) ≢ end_marker
no_marker a b c d k xs e = let r : ◌≡◌ {A = ℕ} 0 255 = ap (λ (ys : List ℕ). get_or ys 4 0) e in omega arith

-- eight bytes as R0
made_r0 : (a b c d : ℕ) (content : List ℕ) → length content ≡ 8 → IsR0 (made (a ∷ b ∷ c ∷ d ∷ []) [] content)
made_r0 a b c d content e = record {
  stands = record {
    number = omega arith;
    four = refl;
    key_fits = omega arith;
    data_fits = omega arith;
    count = no_marker a b c d 0 (to_be_bytes w16 (length content));
  };
  no_key = refl;
  eight = e;
}

-- the last six bytes of R0's count
r0_count : (n : ℕ) → n ≡ 8 → (0 ∷ 0 ∷ to_be_bytes w16 n) ≡ 0 ∷ 0 ∷ 0 ∷ 8 ∷ []
r0_count n e = ap (λ (m : ℕ). 0 ∷ 0 ∷ to_be_bytes w16 m) e

-- the front of a track whose R0 is written out
made_front : (first c h a b x y : ℕ) (content t : List ℕ) → length content ≡ 8
    → is_front c h (home_address first c h ++ (record_bytes 0 (made (a ∷ b ∷ x ∷ y ∷ []) [] content) ++ t)) ≡ true
unfolding is_front
made_front first c h a b x y content t e =
    let size : length (content ++ t) ≡ 8 + length t = length-append content t ∙ ap (λ (m : ℕ). m + length t) e in
    and_from _ _ (and_from _ _ (le-leb _ _ (omega arith)) ((bytes_eq-Decides (to_be_bytes w16 c ++ to_be_bytes w16 h) (to_be_bytes w16 c ++ to_be_bytes w16 h)).1 refl))
    ((bytes_eq-Decides (0 ∷ 0 ∷ to_be_bytes w16 (length content)) (0 ∷ 0 ∷ 0 ∷ 8 ∷ [])).1 (r0_count (length content) e))

-- the front is read, and what is left after it
pub record FrontReads (c h : ℕ) (bytes t : List ℕ) : Type 0 where
  pub stands : is_front c h bytes ≡ true
  pub behind : drop 21 bytes ≡ t

pub front_reads : (first c h : ℕ) (r0 : Record) (t : List ℕ) → IsR0 r0 → FrontReads c h (home_address first c h ++ (record_bytes 0 r0 ++ t)) t
front_reads first c h r0 t is =
    at_four (λ ad. FrontReads c h (home_address first c h ++ (record_bytes 0 (made ad r0.key r0.data) ++ t)) t)
    (λ a b x y. subst (λ k. FrontReads c h (home_address first c h ++ (record_bytes 0 (made (a ∷ b ∷ x ∷ y ∷ []) k r0.data) ++ t)) t) (sym is.no_key)
    (record {
      stands = made_front first c h a b x y r0.data t is.eight;
      behind = drop_at r0.data t 8 is.eight;
    }))
    r0.address is.stands.four

-- sixteen bytes written out that are a front
front_sixteen : (c h b0 b1 b2 b3 b4 b5 b6 b7 b8 b9 b10 b11 b12 b13 b14 b15 : ℕ) (xs : List ℕ) → 5 ≤ length xs
    → (b1 ∷ b2 ∷ b3 ∷ b4 ∷ []) ≡ to_be_bytes w16 c ++ to_be_bytes w16 h → (b9 ∷ b10 ∷ b11 ∷ b12 ∷ []) ≡ 0 ∷ 0 ∷ 0 ∷ 8 ∷ []
    → IsFront c h (b0 ∷ b1 ∷ b2 ∷ b3 ∷ b4 ∷ b5 ∷ b6 ∷ b7 ∷ b8 ∷ b9 ∷ b10 ∷ b11 ∷ b12 ∷ b13 ∷ b14 ∷ b15 ∷ xs)
front_sixteen c h b0 b1 b2 b3 b4 b5 b6 b7 b8 b9 b10 b11 b12 b13 b14 b15 xs long home count =
    let content : List ℕ = b13 ∷ b14 ∷ b15 ∷ take 5 xs in
    let some : length (take 5 xs) ≡ 5 = length-take-le 5 xs long in
    let eight : length content ≡ 8 = omega arith in
    let last : (b9 ∷ b10 ∷ b11 ∷ b12 ∷ []) ≡ 0 ∷ 0 ∷ to_be_bytes w16 (length content) = count ∙ sym (r0_count (length content) eight) in
    record {
      first = b0;
      r0 = made (b5 ∷ b6 ∷ b7 ∷ b8 ∷ []) [] content;
      is = made_r0 b5 b6 b7 b8 content eight;
      parts = ap (λ (ys : List ℕ). b0 ∷ b1 ∷ b2 ∷ b3 ∷ b4 ∷ b5 ∷ b6 ∷ b7 ∷ b8 ∷ b9 ∷ b10 ∷ b11 ∷ b12 ∷ b13 ∷ b14 ∷ b15 ∷ ys) (sym (take-append-drop 5 xs))
          ∙ ap₂ (λ (ys zs : List ℕ). b0 ∷ (ys ++ (b5 ∷ b6 ∷ b7 ∷ b8 ∷ (zs ++ (content ++ drop 5 xs))))) home last;
    }

-- what holds of each list that begins with sixteen written out holds of a list that has sixteen
at_sixteen : (P : List ℕ → Type 0) → ((b0 b1 b2 b3 b4 b5 b6 b7 b8 b9 b10 b11 b12 b13 b14 b15 : ℕ) (xs : List ℕ)
    → P (b0 ∷ b1 ∷ b2 ∷ b3 ∷ b4 ∷ b5 ∷ b6 ∷ b7 ∷ b8 ∷ b9 ∷ b10 ∷ b11 ∷ b12 ∷ b13 ∷ b14 ∷ b15 ∷ xs))
    → (xs : List ℕ) → 16 ≤ length xs → P xs
at_sixteen P h xs long =
    at_eight (λ ys. 16 ≤ length ys → P ys)
    (λ b0 b1 b2 b3 b4 b5 b6 b7 ys l. at_eight (λ zs. P (b0 ∷ b1 ∷ b2 ∷ b3 ∷ b4 ∷ b5 ∷ b6 ∷ b7 ∷ zs)) (h b0 b1 b2 b3 b4 b5 b6 b7) ys (omega arith))
    xs (omega arith) long

-- where the front stands the bytes are one
pub front_split : (c h : ℕ) (bytes : List ℕ) → is_front c h bytes ≡ true → IsFront c h bytes
unfolding is_front
front_split c h bytes stands =
    let parts = and_parts _ _ stands in
    let front = and_parts _ _ parts.0 in
    let long : 21 ≤ length bytes = leb-true 21 (length bytes) front.0 in
    at_sixteen (λ bs. 21 ≤ length bs → slice_range bs 1 5 ≡ to_be_bytes w16 c ++ to_be_bytes w16 h → slice_range bs 9 13 ≡ 0 ∷ 0 ∷ 0 ∷ 8 ∷ [] → IsFront c h bs)
    (λ b0 b1 b2 b3 b4 b5 b6 b7 b8 b9 b10 b11 b12 b13 b14 b15 xs l. front_sixteen c h b0 b1 b2 b3 b4 b5 b6 b7 b8 b9 b10 b11 b12 b13 b14 b15 xs (omega arith))
    bytes (omega arith) long
    ((bytes_eq-Decides (slice_range bytes 1 5) (to_be_bytes w16 c ++ to_be_bytes w16 h)).0 front.1)
    ((bytes_eq-Decides (slice_range bytes 9 13) (0 ∷ 0 ∷ 0 ∷ 8 ∷ [])).0 parts.1)

-- what an option gives under a function
pub map_none : {A B : Type 0} (f : A → B) (o : Option A) → option_map f o ≡ None → o ≡ None
map_none f None e = refl
map_none f (Some x) e = absurd (cc)

pub map_some : {A B : Type 0} (f : A → B) (o : Option A) (y : B) → option_map f o ≡ Some y → (x : A) × (o ≡ Some x) × (y ≡ f x)
map_some f None y e = absurd (cc)
map_some f (Some x) y e = (x, refl, cc)

-- which way a test went
pub if_true : {A : Type 0} (t : Bool) (a b : A) → t ≡ true → (if t then a else b) ≡ a
if_true true a b e = refl
if_true false a b e = absurd (cc)

pub if_false : {A : Type 0} (t : Bool) (a b : A) → t ≡ false → (if t then a else b) ≡ b
if_false true a b e = absurd (cc)
if_false false a b e = refl

pub if_cases : {A : Type 0} (t : Bool) (a b y : A) → (if t then a else b) ≡ y → ((t ≡ true) × (a ≡ y)) ⊎ ((t ≡ false) × (b ≡ y))
if_cases true a b y e = inl (refl, e)
if_cases false a b y e = inr (refl, e)

-- the bytes begin as the pattern says
abbrev pub Matches : List (Option ℕ) → List ℕ → Type 0
Matches [] bytes = ⊤
Matches (p ∷ ps) [] = ⊥
Matches (None ∷ ps) (b ∷ bytes) = Matches ps bytes
Matches (Some x ∷ ps) (b ∷ bytes) = (b ≡ x) × Matches ps bytes

-- bytes that break no pattern are as it says, and the other way round
pub none-matches : (ps : List (Option ℕ)) (bytes : List ℕ) → pattern_break ps bytes ≡ None → Matches ps bytes
unfolding pattern_break
none-matches [] bytes e = tt
none-matches (p ∷ ps) [] e = absurd (cc)
none-matches (None ∷ ps) (b ∷ bytes) e = none-matches ps bytes (map_none suc _ e)
none-matches (Some x ∷ ps) (b ∷ bytes) e =
    elim (if_cases (b == x) (option_map suc (pattern_break ps bytes)) (Some 0) None e) [
      | inl w ↦ (eqb-true b x w.0, none-matches ps bytes (map_none suc _ w.1))
      | inr w ↦ absurd (cc)
    ]

pub matches-none : (ps : List (Option ℕ)) (bytes : List ℕ) → Matches ps bytes → pattern_break ps bytes ≡ None
unfolding pattern_break
matches-none [] bytes m = refl
matches-none (p ∷ ps) [] m = absurd m
matches-none (None ∷ ps) (b ∷ bytes) m = ap (option_map suc) (matches-none ps bytes m)
matches-none (Some x ∷ ps) (b ∷ bytes) m = if_true (b == x) _ _ (eq-eqb b x m.0) ∙ ap (option_map suc) (matches-none ps bytes m.1)

-- a pattern's length
pub matches_long : (ps : List (Option ℕ)) (bytes : List ℕ) → Matches ps bytes → length ps ≤ length bytes
matches_long [] bytes m = omega arith
matches_long (p ∷ ps) [] m = absurd m
matches_long (None ∷ ps) (b ∷ bytes) m = omega (arith, matches_long ps bytes m)
matches_long (Some x ∷ ps) (b ∷ bytes) m = omega (arith, matches_long ps bytes m.1)

-- enough bytes that aren't judged
matches_any : (n : ℕ) (bytes : List ℕ) → n ≤ length bytes → Matches (replicate n None) bytes
matches_any zero bytes l = tt
matches_any (suc n) [] l = absurd (omega arith)
matches_any (suc n) (b ∷ bytes) l = matches_any n bytes (omega arith)

-- the front's pattern says what the front is
four_same : (a b c d w x y z : ℕ) → a ≡ w → b ≡ x → c ≡ y → d ≡ z → (a ∷ b ∷ c ∷ d ∷ []) ≡ w ∷ x ∷ y ∷ z ∷ []
four_same a b c d w x y z p q r s = cc

pub matches_front : (c h : ℕ) (bytes : List ℕ) → Matches (front_pattern c h) bytes → is_front c h bytes ≡ true
unfolding is_front
matches_front c h bytes m =
    let long : 21 ≤ length bytes = matches_long (front_pattern c h) bytes m in
    at_sixteen (λ bs. 21 ≤ length bs → Matches (front_pattern c h) bs → is_front c h bs ≡ true)
    (λ b0 b1 b2 b3 b4 b5 b6 b7 b8 b9 b10 b11 b12 b13 b14 b15 xs l w.
    and_from _ _ (and_from _ _ (le-leb _ _ l)
    ((bytes_eq-Decides (b1 ∷ b2 ∷ b3 ∷ b4 ∷ []) (to_be_bytes w16 c ++ to_be_bytes w16 h)).1 (four_same b1 b2 b3 b4 _ _ _ _ w.0 w.1.0 w.1.1.0 w.1.1.1.0)))
    ((bytes_eq-Decides (b9 ∷ b10 ∷ b11 ∷ b12 ∷ []) (0 ∷ 0 ∷ 0 ∷ 8 ∷ [])).1 (four_same b9 b10 b11 b12 _ _ _ _ w.1.1.1.1.0 w.1.1.1.1.1.0 w.1.1.1.1.1.1.0 w.1.1.1.1.1.1.1.0)))
    bytes (omega arith) long m

pub front_matches : (c h : ℕ) (bytes : List ℕ) → is_front c h bytes ≡ true → Matches (front_pattern c h) bytes
unfolding is_front
front_matches c h bytes stands =
    let parts = and_parts _ _ stands in
    let front = and_parts _ _ parts.0 in
    let long : 21 ≤ length bytes = leb-true 21 (length bytes) front.0 in
    at_sixteen (λ bs. 21 ≤ length bs → slice_range bs 1 5 ≡ to_be_bytes w16 c ++ to_be_bytes w16 h → slice_range bs 9 13 ≡ 0 ∷ 0 ∷ 0 ∷ 8 ∷ [] → Matches (front_pattern c h) bs)
    (λ b0 b1 b2 b3 b4 b5 b6 b7 b8 b9 b10 b11 b12 b13 b14 b15 xs l e f. (
      ap (λ (ys : List ℕ). get_or ys 0 0) e,
      (
        ap (λ (ys : List ℕ). get_or ys 1 0) e,
        (
          ap (λ (ys : List ℕ). get_or ys 2 0) e,
          (
            ap (λ (ys : List ℕ). get_or ys 3 0) e,
            (ap (λ (ys : List ℕ). get_or ys 0 0) f, (ap (λ (ys : List ℕ). get_or ys 1 0) f, (ap (λ (ys : List ℕ). get_or ys 2 0) f, (ap (λ (ys : List ℕ). get_or ys 3 0) f, matches_any 5 xs (omega arith))))),
          ),
        ),
      ),
    ))
    bytes (omega arith) long
    ((bytes_eq-Decides (slice_range bytes 1 5) (to_be_bytes w16 c ++ to_be_bytes w16 h)).0 front.1)
    ((bytes_eq-Decides (slice_range bytes 9 13) (0 ∷ 0 ∷ 0 ∷ 8 ∷ [])).0 parts.1)

-- where the pattern breaks: inside the bytes, whatever stands after the place, and where it can be completed
pub pattern_inside : (ps : List (Option ℕ)) (bytes : List ℕ) (k : ℕ) → pattern_break ps bytes ≡ Some k → k ≤ length bytes
unfolding pattern_break
pattern_inside [] bytes k e = absurd (cc)
pattern_inside (p ∷ ps) [] k e = let z : 0 ≡ k = cc in omega arith
pattern_inside (None ∷ ps) (b ∷ bytes) k e =
    let w = map_some suc (pattern_break ps bytes) k e in
    omega (arith, pattern_inside ps bytes w.0 w.1, w.2)
pattern_inside (Some x ∷ ps) (b ∷ bytes) k e =
    elim (if_cases (b == x) (option_map suc (pattern_break ps bytes)) (Some 0) (Some k) e) [
      | inl v ↦ (let w = map_some suc (pattern_break ps bytes) k v.1 in omega (arith, pattern_inside ps bytes w.0 w.1, w.2))
      | inr v ↦ (let z : 0 ≡ k = cc in omega arith)
    ]

pub pattern_stays : (ps : List (Option ℕ)) (bytes : List ℕ) (k n : ℕ) (rest : List ℕ) → pattern_break ps bytes ≡ Some k → k < n → k < length bytes → Matches ps (take n bytes ++ rest) → ⊥
unfolding pattern_break
pattern_stays [] bytes k n rest e l m s = absurd (cc)
pattern_stays (p ∷ ps) [] k n rest e l m s = omega arith
pattern_stays (p ∷ ps) (b ∷ bytes) k zero rest e l m s = omega arith
pattern_stays (None ∷ ps) (b ∷ bytes) k (suc n) rest e l m s =
    let w = map_some suc (pattern_break ps bytes) k e in
    pattern_stays ps bytes w.0 n rest w.1 (omega (arith, w.2)) (omega (arith, w.2)) s
pattern_stays (Some x ∷ ps) (b ∷ bytes) k (suc n) rest e l m s =
    elim (if_cases (b == x) (option_map suc (pattern_break ps bytes)) (Some 0) (Some k) e) [
      | inl v ↦ (let w = map_some suc (pattern_break ps bytes) k v.1 in pattern_stays ps bytes w.0 n rest w.1 (omega (arith, w.2)) (omega (arith, w.2)) s.1)
      | inr v ↦ (let t = eq-eqb b x s.0 in cc)
    ]

-- the bytes before a place, completed as the pattern says
pub record Fills (ps : List (Option ℕ)) (bytes : List ℕ) : Type 0 where
  pub rest : List ℕ
  pub fits : Matches ps (bytes ++ rest)
  pub long : length (bytes ++ rest) ≡ length ps

fill_all : (ps : List (Option ℕ)) → Fills ps []
fill_all [] = record { rest = []; fits = tt; long = refl }
fill_all (None ∷ ps) = let w = fill_all ps in record { rest = 0 ∷ w.rest; fits = w.fits; long = ap suc w.long }
fill_all (Some x ∷ ps) = let w = fill_all ps in record { rest = x ∷ w.rest; fits = (refl, w.fits); long = ap suc w.long }

pub pattern_fills : (ps : List (Option ℕ)) (bytes : List ℕ) (k : ℕ) → pattern_break ps bytes ≡ Some k → Fills ps (take k bytes)
unfolding pattern_break
pattern_fills [] bytes k e = absurd (cc)
pattern_fills (p ∷ ps) [] k e = let z : 0 ≡ k = cc in subst (λ n. Fills (p ∷ ps) (take n [])) z (fill_all (p ∷ ps))
pattern_fills (None ∷ ps) (b ∷ bytes) k e =
    let w = map_some suc (pattern_break ps bytes) k e in
    let v = pattern_fills ps bytes w.0 w.1 in
    subst (λ n. Fills (None ∷ ps) (take n (b ∷ bytes))) (sym w.2) (record { rest = v.rest; fits = v.fits; long = ap suc v.long })
pattern_fills (Some x ∷ ps) (b ∷ bytes) k e =
    elim (if_cases (b == x) (option_map suc (pattern_break ps bytes)) (Some 0) (Some k) e) [
      | inl v ↦ (let w = map_some suc (pattern_break ps bytes) k v.1 in
          let u = pattern_fills ps bytes w.0 w.1 in
          subst (λ n. Fills (Some x ∷ ps) (take n (b ∷ bytes))) (sym w.2) (record { rest = u.rest; fits = (eqb-true b x v.0, u.fits); long = ap suc u.long }))
      | inr v ↦ (let z : 0 ≡ k = cc in subst (λ n. Fills (Some x ∷ ps) (take n (b ∷ bytes))) z (fill_all (Some x ∷ ps)))
    ]
