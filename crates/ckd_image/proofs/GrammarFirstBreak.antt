-- The break that is found is the first byte that breaks the grammar.
use Rattle.std.proofs.Common.{◌≡◌, ℕ, ◌+◌, ◌-◌, ◌<◌, ◌≤◌, true, List, [], ◌++◌, length, take, drop, Option, Some, None, IfSome, inl, inr, refl, sym, ap, ◌∙◌, subst, arith, append_assoc, length-drop}
use Rattle.std.proofs.lemmas.List.{drop_all}
use Rattle.std.proofs.lemmas.Bool.{cases_Bool}
use Rattle.ckd_image.specs.Track.{Record, Follows, BreaksAt, record_bytes, home_address}
use Rattle.ckd_image.specs.Reading.{is_front, records_behind, records_of}
use Rattle.ckd_image.specs.Break.{break_behind, pattern_break, front_pattern, break_of}
use Rattle.ckd_image.proofs.GrammarRecord.{AreBytes}
use Rattle.ckd_image.proofs.GrammarFront.{IsFront, Fills, front_split, map_some, none-matches, matches_long, matches_front, front_matches, pattern_inside, pattern_stays, pattern_fills}
use Rattle.ckd_image.proofs.Grammar.{cases_option, break_front, break_past, break_some, read_nothing, read_past, front_stands, follows_read, bytes_behind, one_answer, track_to_end, track_up_to}
use Rattle.ckd_image.proofs.GrammarBreak.{part_length, kept_behind, end_inside, up_inside, end_stays, up_stays}
use Rattle.ckd_image.proofs.GrammarBegin.{can_end, can_reach, kept_more, end_begins, up_begins}

-- a track begins with these bytes
pub record CanBegin (c h : ℕ) (u : Option ℕ) (front : List ℕ) : Type 0 where
  pub records : List Record
  pub rest : List ℕ
  pub is : Follows c h u records (front ++ rest)

-- the bytes of a front, and others after it
front_then : (c h : ℕ) (front more t : List ℕ) (w : IsFront c h (front ++ more)) → length (front ++ more) ≡ 21
    → front ++ (more ++ t) ≡ home_address w.first c h ++ (record_bytes 0 w.r0 ++ t)
front_then c h front more t w l =
    let home : List ℕ = home_address w.first c h in
    let nothing : drop 21 (front ++ more) ≡ [] = drop_all 21 (front ++ more) (omega (arith, l)) in
    sym (append_assoc front more t)
    ∙ (ap (λ (ys : List ℕ). ys ++ t) (w.parts ∙ ap (λ (ys : List ℕ). home ++ (record_bytes 0 w.r0 ++ ys)) nothing)
    ∙ (append_assoc home (record_bytes 0 w.r0 ++ []) t ∙ ap (λ (ys : List ℕ). home ++ ys) (append_assoc (record_bytes 0 w.r0) [] t)))

-- a front that is completed, and an end after it
front_begins : (c h : ℕ) (u : Option ℕ) (front : List ℕ) → IfSome u (λ r. r < 256) → Fills (front_pattern c h) front → CanBegin c h u front
front_begins c h None front l f =
    let w = front_split c h (front ++ f.rest) (matches_front c h (front ++ f.rest) f.fits) in
    let v = can_end 1 in
    record {
      records = v.records;
      rest = f.rest ++ v.rest;
      is = track_to_end c h v.records (front ++ (f.rest ++ v.rest)) v.rest w.first w.r0 w.is (front_then c h front f.rest v.rest w f.long) v.is;
    }
front_begins c h (Some n) front l f =
    let w = front_split c h (front ++ f.rest) (matches_front c h (front ++ f.rest) f.fits) in
    let v = can_reach n 1 (omega (arith, l)) in
    record {
      records = v.records;
      rest = f.rest ++ v.rest;
      is = track_up_to c h n v.records (front ++ (f.rest ++ v.rest)) v.rest w.first w.r0 w.is (front_then c h front f.rest v.rest w f.long) v.is;
    }

-- a front that stays, and what stands after it
front_kept : (c h k : ℕ) (bytes rest : List ℕ) (w : IsFront c h bytes) → 21 ≤ length bytes
    → take (21 + k) bytes ++ rest ≡ home_address w.first c h ++ (record_bytes 0 w.r0 ++ (take k (drop 21 bytes) ++ rest))
front_kept c h k bytes rest w l =
    let home : List ℕ = home_address w.first c h in
    let parts : bytes ≡ (home ++ record_bytes 0 w.r0) ++ drop 21 bytes = w.parts ∙ sym (append_assoc home (record_bytes 0 w.r0) (drop 21 bytes)) in
    kept_more 21 k bytes (home ++ record_bytes 0 w.r0) (drop 21 bytes) rest parts (part_length 21 bytes (home ++ record_bytes 0 w.r0) parts l)
    ∙ append_assoc home (record_bytes 0 w.r0) (take k (drop 21 bytes) ++ rest)

-- what breaks after a front can be completed
behind_begins : (c h : ℕ) (u : Option ℕ) (k : ℕ) (bytes : List ℕ) → AreBytes bytes → IfSome u (λ r. r < 256) → is_front c h bytes ≡ true → 21 ≤ length bytes
    → break_behind u (drop 21 bytes) ≡ Some k → CanBegin c h u (take (21 + k) bytes)
behind_begins c h None k bytes small l t long e =
    let w = front_split c h bytes t in
    let v = end_begins 255 1 k (drop 21 bytes) (bytes_behind 21 bytes small) refl e in
    record {
      records = v.records;
      rest = v.rest;
      is = track_to_end c h v.records (take (21 + k) bytes ++ v.rest) (take k (drop 21 bytes) ++ v.rest) w.first w.r0 w.is (front_kept c h k bytes v.rest w long) v.is;
    }
behind_begins c h (Some n) k bytes small l t long e =
    let w = front_split c h bytes t in
    let v = up_begins n 1 k (drop 21 bytes) (bytes_behind 21 bytes small) (omega (arith, l)) e in
    record {
      records = v.records;
      rest = v.rest;
      is = track_up_to c h n v.records (take (21 + k) bytes ++ v.rest) (take k (drop 21 bytes) ++ v.rest) w.first w.r0 w.is (front_kept c h k bytes v.rest w long) v.is;
    }

-- where what stands after a front breaks: inside it, and whatever stands after that place
behind_inside : (u : Option ℕ) (k : ℕ) (bytes : List ℕ) → break_behind u bytes ≡ Some k → k ≤ length bytes
behind_inside None k bytes e = end_inside 255 1 k bytes e
behind_inside (Some n) k bytes e = up_inside n 1 k bytes e

behind_stays : (u : Option ℕ) (k m : ℕ) (bytes rest : List ℕ) → AreBytes bytes → break_behind u bytes ≡ Some k → k < m → k < length bytes → records_behind u (take m bytes ++ rest) ≡ None
behind_stays None k m bytes rest small e l s = end_stays 255 1 k m bytes rest small e l s
behind_stays (Some n) k m bytes rest small e l s = up_stays n 1 k m bytes rest small e l s

-- where a track breaks: in its front, or after it
pub data Place (c h : ℕ) (u : Option ℕ) (bytes : List ℕ) (at : ℕ) : Type 0 where
  in_front : pattern_break (front_pattern c h) bytes ≡ Some at → Place c h u bytes at
  behind : is_front c h bytes ≡ true → 21 ≤ length bytes → (k : ℕ) → break_behind u (drop 21 bytes) ≡ Some k → at ≡ 21 + k → Place c h u bytes at

place_of : (c h : ℕ) (u : Option ℕ) (bytes : List ℕ) (at : ℕ) → break_of c h u bytes ≡ Some at → Place c h u bytes at
place_of c h u bytes at e =
    elim (cases_option (pattern_break (front_pattern c h) bytes)) [
      | inl p ↦
          (let w = map_some _ _ at (sym (break_past c h u bytes p) ∙ e) in
          behind (front_stands c h bytes p) (matches_long (front_pattern c h) bytes (none-matches (front_pattern c h) bytes p)) w.0 w.1 w.2)
      | inr p ↦ in_front (p.1 ∙ ap Some (one_answer _ p.0 at (break_front c h u p.0 bytes p.1) e))
    ]

-- nothing is read where the byte at the break stays
pub break_stays : (c h : ℕ) (u : Option ℕ) (bytes : List ℕ) (at : ℕ) → AreBytes bytes → break_of c h u bytes ≡ Some at → at < length bytes
    → (rest : List ℕ) → records_of c h u (take (at + 1) bytes ++ rest) ≡ None
break_stays c h u bytes at small e l rest =
    elim (cases_Bool (is_front c h (take (at + 1) bytes ++ rest))) [
      | inl t ↦ elim (place_of c h u bytes at e) [
        | in_front p ↦ absurd (pattern_stays (front_pattern c h) bytes at (at + 1) rest p (omega arith) l (front_matches c h (take (at + 1) bytes ++ rest) t))
        | behind f long k b s ↦
            read_past c h u (take (at + 1) bytes ++ rest) t
            ∙ (ap (records_behind u) (kept_behind 21 (at + 1) bytes rest (omega arith) long)
            ∙ behind_stays u k (at + 1 - 21) (drop 21 bytes) rest (bytes_behind 21 bytes small) b (omega arith) (omega (arith, length-drop 21 bytes)))
      ]
      | inr t ↦ read_nothing c h u (take (at + 1) bytes ++ rest) t
    ]

-- the break is no further on than the bytes go
pub break_inside : (c h : ℕ) (u : Option ℕ) (bytes : List ℕ) (at : ℕ) → break_of c h u bytes ≡ Some at → at ≤ length bytes
break_inside c h u bytes at e =
    elim (place_of c h u bytes at e) [
      | in_front p ↦ pattern_inside (front_pattern c h) bytes at p
      | behind f long k b s ↦ omega (arith, behind_inside u k (drop 21 bytes) b, length-drop 21 bytes, s, long)
    ]

-- some track begins with the bytes before it
pub break_begins : (c h : ℕ) (u : Option ℕ) (bytes : List ℕ) (at : ℕ) → AreBytes bytes → IfSome u (λ r. r < 256) → break_of c h u bytes ≡ Some at → CanBegin c h u (take at bytes)
break_begins c h u bytes at small fits e =
    elim (place_of c h u bytes at e) [
      | in_front p ↦ front_begins c h u (take at bytes) fits (pattern_fills (front_pattern c h) bytes at p)
      | behind f long k b s ↦ subst (λ i. CanBegin c h u (take i bytes)) (sym s) (behind_begins c h u k bytes small fits f long b)
    ]

-- so it is the first byte that breaks the grammar
pub break_breaks : (c h : ℕ) (u : Option ℕ) (bytes : List ℕ) (at : ℕ) → AreBytes bytes → IfSome u (λ r. r < 256) → break_of c h u bytes ≡ Some at → BreaksAt c h u bytes at
break_breaks c h u bytes at small fits e =
    let begins = break_begins c h u bytes at small fits e in
    record {
      inside = break_inside c h u bytes at e;
      begins = (begins.records, begins.rest, begins.is);
      breaks = λ l rs rest f. (let w = follows_read c h u rs (take (at + 1) bytes ++ rest) f in let v = break_stays c h u bytes at small e l rest in absurd (cc));
      none = λ rs f. (let w = follows_read c h u rs bytes f in let v = break_some c h u bytes at e in absurd (cc));
    }
