-- Segments that are joined without a fault are those of records.
use Rattle.std.proofs.Common.{◌≡◌, ◌↔◌, ◌∙◌, ap, sym, refl, subst, inl, inr, ℕ, zero, suc, ◌+◌, ◌≤◌, Bool, true, false, Result, Ok, Err, List, [], ◌∷◌, ◌++◌, length, Option, Some, None, arith, append_assoc, length-append}
use Rattle.std.specs.Prelude.{if◌then◌else◌, nat_lt, not, ◌⊎◌}
use Rattle.std.proofs.lemmas.Bool.Decides.{nat_tests}
use Rattle.record_blocks.specs.declared.joiner.JoinErr.{JoinErr}
use Rattle.record_blocks.specs.declared.joiner.JoinErr.TheVariants.{BadSegment, TooLong}
use Rattle.record_blocks.specs.Blocks.{Segment, piece}
use Rattle.record_blocks.specs.Segments.{AreRestOf, AreSegmentsOf, AreRecords, AreCodes}
use Rattle.record_blocks.specs.Segments.AreRestOf.{last, middle}
use Rattle.record_blocks.specs.Segments.AreSegmentsOf.{whole, parted}
use Rattle.record_blocks.specs.Segments.AreRecords.{empty, more}
use Rattle.record_blocks.specs.Joining.{joined_records, records_given, go_on, is_bad}
use Rattle.record_blocks.specs.Segments.{bytes_with}
use Rattle.record_blocks.specs.Segments.{begins, ends}

pub small : (longest : ℕ) (bytes : List ℕ) → length bytes ≤ longest → nat_lt longest (length bytes) ≡ false
small longest bytes h = grind (arith, nat_tests)

rest-joins : (longest : ℕ) (body : List ℕ) (others : List Segment) {front : List Segment} {rest : List ℕ} → AreRestOf front rest → length (body ++ rest) ≤ longest
    → joined_records longest (Some body) (front ++ others) ≡ records_given true (body ++ rest) (joined_records longest None others)
unfolding joined_records
rest-joins longest body others (last bytes) h = rw (small longest (body ++ bytes) h) refl
rest-joins longest body others (middle bytes os rest r) h =
    let all : length (body ++ (bytes ++ rest)) ≡ length (body ++ bytes) + length rest = simp length-append (omega arith) in
    let part : nat_lt longest (length (body ++ bytes)) ≡ false = small longest (body ++ bytes) (omega arith) in
    let behind : length ((body ++ bytes) ++ rest) ≤ longest = rw append_assoc h in
    rw part (rest-joins longest (body ++ bytes) others r behind ∙ ap (λ rec. records_given true rec (joined_records longest None others)) (append_assoc body bytes rest))

spread-joins : (longest : ℕ) (others : List Segment) {front : List Segment} {rec : List ℕ} → AreSegmentsOf front rec → length rec ≤ longest
    → joined_records longest None (front ++ others) ≡ records_given true rec (joined_records longest None others)
unfolding joined_records
spread-joins longest others (whole bytes) h = rw (small longest bytes h) refl
spread-joins longest others (parted bytes os rest r) h =
    let all : length (bytes ++ rest) ≡ length bytes + length rest = length-append bytes rest in
    let part : nat_lt longest (length bytes) ≡ false = small longest bytes (omega arith) in
    rw part (rest-joins longest bytes others r h)

pub records-join : (longest : ℕ) {segments : List Segment} {recs : List (List ℕ)} → AreRecords longest segments recs → joined_records longest None segments ≡ Ok recs
unfolding joined_records
records-join longest empty = refl
records-join longest (more front others rec recs s h r) = spread-joins longest others s h ∙ ap (records_given true rec) (records-join longest r)

-- what begins with the rest of a record whose front is this body
pub record OpenRest (longest : ℕ) (body : List ℕ) (segments : List Segment) (recs : List (List ℕ)) : Type 0 where
  pub front : List Segment
  pub others : List Segment
  pub rest : List ℕ
  pub tail : List (List ℕ)
  pub is : segments ≡ front ++ others
  pub parts : AreRestOf front rest
  pub short : length (body ++ rest) ≤ longest
  pub recs_are : recs ≡ (body ++ rest) ∷ tail
  pub behind : AreRecords longest others tail

abbrev pub Sound : ℕ → Option (List ℕ) → List Segment → List (List ℕ) → Type 0
Sound longest None segments recs = AreRecords longest segments recs
Sound longest (Some body) segments recs = OpenRest longest body segments recs

-- a record in front of others is one of all
pub record GivenOne (rec : List ℕ) (others : Result (List (List ℕ)) JoinErr) (recs : List (List ℕ)) : Type 0 where
  pub tail : List (List ℕ)
  pub others_are : others ≡ Ok tail
  pub recs_are : recs ≡ rec ∷ tail

pub given-one : (rec : List ℕ) (others : Result (List (List ℕ)) JoinErr) (recs : List (List ℕ)) → records_given true rec others ≡ Ok recs → GivenOne rec others recs
given-one rec (Ok tail) recs e = record { tail = tail; others_are = refl; recs_are = cc }
given-one rec (Err x) recs e = cc

-- what is joined of a segment of this code
pub record Part (longest : ℕ) (start : Option (List ℕ)) (s : Segment) (ss : List Segment) (recs : List (List ℕ)) : Type 0 where
  pub fits : length (bytes_with start s.bytes) ≤ longest
  pub goes : records_given (ends s.code) (bytes_with start s.bytes) (joined_records longest (if ends s.code then None else Some (bytes_with start s.bytes)) ss) ≡ Ok recs

part-of : (longest : ℕ) (start : Option (List ℕ)) (s : Segment) (ss : List Segment) (recs : List (List ℕ)) (bad long : Bool)
    → nat_lt longest (length (bytes_with start s.bytes)) ≡ long
    → go_on (ends s.code) (λ behind. joined_records longest behind ss) (if bad then Err BadSegment else (if long then Err (TooLong (length (bytes_with start s.bytes))) else Ok (bytes_with start s.bytes))) ≡ Ok recs
    → (bad ≡ false) × Part longest start s ss recs
part-of longest start s ss recs true long l e = cc
part-of longest start s ss recs false true l e = cc
part-of longest start s ss recs false false l e = (refl, record { fits = grind (arith, nat_tests); goes = e })

pub part-at : (longest : ℕ) (start : Option (List ℕ)) (s : Segment) (ss : List Segment) (recs : List (List ℕ)) → joined_records longest start (s ∷ ss) ≡ Ok recs → (is_bad start s.code ≡ false) × Part longest start s ss recs
unfolding joined_records
part-at longest start s ss recs e = part-of longest start s ss recs (is_bad start s.code) (nat_lt longest (length (bytes_with start s.bytes))) refl e

front-code : (code : ℕ) → not (begins code) ≡ false → (code ≡ 0) ⊎ (code ≡ 1)
front-code zero e = inl refl
front-code (suc zero) e = inr refl
front-code (suc (suc n)) e = absurd (grind (arith, nat_tests))

rest-code : (code : ℕ) → code ≤ 3 → begins code ≡ false → (code ≡ 2) ⊎ (code ≡ 3)
rest-code zero h e = cc
rest-code (suc zero) h e = cc
rest-code (suc (suc zero)) h e = inl refl
rest-code (suc (suc (suc zero))) h e = inr refl
rest-code (suc (suc (suc (suc n)))) h e = absurd (omega arith)

-- the steps, with the code as a numeral
sound-whole : (longest : ℕ) (bytes : List ℕ) (ss : List Segment) (recs : List (List ℕ)) → Part longest None (piece 0 bytes) ss recs → ((tail : List (List ℕ)) → joined_records longest None ss ≡ Ok tail → AreRecords longest ss tail) → AreRecords longest (piece 0 bytes ∷ ss) recs
sound-whole longest bytes ss recs p behind =
    let g = given-one bytes (joined_records longest None ss) recs p.goes in
    subst (λ r. AreRecords longest (piece 0 bytes ∷ ss) r) (sym g.recs_are) (more (piece 0 bytes ∷ []) ss bytes g.tail (whole bytes) p.fits (behind g.tail g.others_are))

sound-parted : (longest : ℕ) (bytes : List ℕ) (ss : List Segment) (recs : List (List ℕ)) → OpenRest longest bytes ss recs → AreRecords longest (piece 1 bytes ∷ ss) recs
sound-parted longest bytes ss recs o =
    subst (λ r. AreRecords longest (piece 1 bytes ∷ ss) r) (sym o.recs_are)
    (subst (λ x. AreRecords longest (piece 1 bytes ∷ x) ((bytes ++ o.rest) ∷ o.tail)) (sym o.is)
    (more (piece 1 bytes ∷ o.front) o.others (bytes ++ o.rest) o.tail (parted bytes o.front o.rest o.parts) o.short o.behind))

sound-last : (longest : ℕ) (body bytes : List ℕ) (ss : List Segment) (recs : List (List ℕ)) → Part longest (Some body) (piece 2 bytes) ss recs → ((tail : List (List ℕ)) → joined_records longest None ss ≡ Ok tail → AreRecords longest ss tail) → OpenRest longest body (piece 2 bytes ∷ ss) recs
sound-last longest body bytes ss recs p behind =
    let g = given-one (body ++ bytes) (joined_records longest None ss) recs p.goes in
    record { front = piece 2 bytes ∷ []; others = ss; rest = bytes; tail = g.tail; is = refl; parts = last bytes; short = p.fits; recs_are = g.recs_are; behind = behind g.tail g.others_are }

sound-middle : (longest : ℕ) (body bytes : List ℕ) (ss : List Segment) (recs : List (List ℕ)) → OpenRest longest (body ++ bytes) ss recs → OpenRest longest body (piece 3 bytes ∷ ss) recs
sound-middle longest body bytes ss recs o = record {
  front = piece 3 bytes ∷ o.front;
  others = o.others;
  rest = bytes ++ o.rest;
  tail = o.tail;
  is = ap (λ xs. piece 3 bytes ∷ xs) o.is;
  parts = middle bytes o.front o.rest o.parts;
  short = subst (λ xs. length xs ≤ longest) (append_assoc body bytes o.rest) o.short;
  recs_are = o.recs_are ∙ ap (λ xs. xs ∷ o.tail) (append_assoc body bytes o.rest);
  behind = o.behind;
}

none-left : (longest : ℕ) (recs : List (List ℕ)) → joined_records longest None [] ≡ Ok recs → AreRecords longest [] recs
unfolding joined_records
none-left longest recs e = let same : [] ≡ recs = cc in subst (λ r. AreRecords longest [] r) same empty

none-open : (longest : ℕ) (body : List ℕ) (recs : List (List ℕ)) → joined_records longest (Some body) [] ≡ Ok recs → ⊥
unfolding joined_records
none-open longest body recs e = cc

by-front : (longest code : ℕ) (bytes : List ℕ) (ss : List Segment) (recs : List (List ℕ)) → (code ≡ 0) ⊎ (code ≡ 1) → Part longest None (piece code bytes) ss recs
    → ((start : Option (List ℕ)) (r : List (List ℕ)) → joined_records longest start ss ≡ Ok r → Sound longest start ss r) → AreRecords longest (piece code bytes ∷ ss) recs
by-front longest code bytes ss recs (inl e) p behind =
    subst (λ n. AreRecords longest (piece n bytes ∷ ss) recs) (sym e) (sound-whole longest bytes ss recs (subst (λ n. Part longest None (piece n bytes) ss recs) e p) (behind None))
by-front longest code bytes ss recs (inr e) p behind =
    let q = subst (λ n. Part longest None (piece n bytes) ss recs) e p in
    subst (λ n. AreRecords longest (piece n bytes ∷ ss) recs) (sym e) (sound-parted longest bytes ss recs (behind (Some bytes) recs q.goes))

by-rest : (longest code : ℕ) (body bytes : List ℕ) (ss : List Segment) (recs : List (List ℕ)) → (code ≡ 2) ⊎ (code ≡ 3) → Part longest (Some body) (piece code bytes) ss recs
    → ((start : Option (List ℕ)) (r : List (List ℕ)) → joined_records longest start ss ≡ Ok r → Sound longest start ss r) → OpenRest longest body (piece code bytes ∷ ss) recs
by-rest longest code body bytes ss recs (inl e) p behind =
    subst (λ n. OpenRest longest body (piece n bytes ∷ ss) recs) (sym e) (sound-last longest body bytes ss recs (subst (λ n. Part longest (Some body) (piece n bytes) ss recs) e p) (behind None))
by-rest longest code body bytes ss recs (inr e) p behind =
    let q = subst (λ n. Part longest (Some body) (piece n bytes) ss recs) e p in
    subst (λ n. OpenRest longest body (piece n bytes ∷ ss) recs) (sym e) (sound-middle longest body bytes ss recs (behind (Some (body ++ bytes)) recs q.goes))

pub sound : (longest : ℕ) (start : Option (List ℕ)) (segments : List Segment) (recs : List (List ℕ)) → AreCodes segments → joined_records longest start segments ≡ Ok recs → Sound longest start segments recs
sound longest None [] recs c e = none-left longest recs e
sound longest (Some body) [] recs c e = absurd (none-open longest body recs e)
sound longest None (s ∷ ss) recs c e =
    let p = part-at longest None s ss recs e in
    by-front longest s.code s.bytes ss recs (front-code s.code p.0) p.1 (λ start r h. sound longest start ss r c.1 h)
sound longest (Some body) (s ∷ ss) recs c e =
    let p = part-at longest (Some body) s ss recs e in
    by-rest longest s.code body s.bytes ss recs (rest-code s.code c.0 p.0) p.1 (λ start r h. sound longest start ss r c.1 h)

pub joins-exact : (longest : ℕ) (segments : List Segment) (recs : List (List ℕ)) → AreCodes segments → (joined_records longest None segments ≡ Ok recs) ↔ AreRecords longest segments recs
joins-exact longest segments recs c = ((λ e. sound longest None segments recs c e), (λ r. records-join longest r))
