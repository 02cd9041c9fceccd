-- Blocks that are placed after a lawful body, on tracks that its set owns, leave it lawful.
use Rattle.std.proofs.Common.{◌≡◌, ◌+◌, ◌-◌, ◌≤◌, ◌<◌, ◌==◌, ◌&&◌, ◌||◌, nat_lt, ℕ, zero, suc, Bool, true, false, cond, List, [], ◌∷◌, ◌++◌, length, map, filter, refl, sym, ◌∙◌, ap, subst, append_assoc, length-append, arith}
use Rattle.std.proofs.lemmas.Bool.Decides.{nat_tests}
use Rattle.std.proofs.lemmas.List.{append-nil, length-map}
use Rattle.std.proofs.lemmas.List.Sums.{length-filter, sum_by-cons}
use Rattle.std.specs.Prelude.{replicate, if◌then◌else◌}
use Rattle.std.specs.List.{AllByRecursion, count_by}
use Rattle.ckd_image.specs.Fit.{fits}
use Rattle.ckd_image.specs.declared.device.DiskType.{DiskType}
use Rattle.vol_model.specs.declared.contents.Block.{Block}
use Rattle.vol_model.specs.declared.contents.Body.{Body}
use Rattle.vol_model.specs.declared.contents.Body.TheVariants as bodies
use Rattle.vol_model.specs.declared.contents.Entry.{Entry}
use Rattle.vol_model.specs.declared.contents.Place.{Place}
use Rattle.vol_model.specs.Lawful.{FollowFrom, IsLawfulBlock, IsLawfulBody, is_next}
use Rattle.vol_model.specs.Places.{Content, content, directory_lengths, front_lengths, last_place, lengths, lengths_on, next_block, next_place, place_behind, placed, with_blocks}
use Rattle.shelf_laws.specs.Ready.{IsContent}
use Rattle.shelf_laws.proofs.Costs.{fits_few}
use Rattle.shelf_laws.proofs.Lists.{all_joined}

-- ---- the last place

last_on : (tracks : ℕ) (p : Place) (bs : List Block) → p.tt < tracks → FollowFrom tracks p bs → (last_place p bs).tt < tracks
last_on tracks p [] here h = here
last_on tracks p (b ∷ bs) here h = last_on tracks b.place bs h.0 h.2

-- its number is that of the records on its track, from the first place on
last_counts : (tracks : ℕ) (p : Place) (bs : List Block) → FollowFrom tracks p bs
    → (last_place p bs).r ≤ cond (p.tt == (last_place p bs).tt) p.r 0 + count_by (λ (b : Block). b.place.tt == (last_place p bs).tt) bs
last_counts tracks p [] h = same p.tt p.r
  where
    same : (t r : ℕ) → r ≤ cond (t == t) r 0 + 0
    same t r = grind (arith, nat_tests)
last_counts tracks p (b ∷ bs) h =
    let last = last_place b.place bs in
    let rest = last_counts tracks b.place bs h.2 in
    let more = sum_by-cons (λ (c : Block). cond (c.place.tt == last.tt) 1 0) b bs in
    let first = one p.tt p.r b.place.tt b.place.r last.tt h.1 in
    omega (arith, rest, more, first)
  where
    one : (a r b s l : ℕ) → ((b == a && s == r + 1) || (nat_lt a b && s == 1)) ≡ true → cond (b == l) s 0 ≤ cond (a == l) r 0 + cond (b == l) 1 0
    one a r b s l e = by_tests (a == l) refl (b == l) refl
      where
        by_tests : (u : Bool) → (a == l) ≡ u → (v : Bool) → (b == l) ≡ v → cond v s 0 ≤ cond u r 0 + cond v 1 0
        by_tests true f true g = grind (arith, nat_tests)
        by_tests true f false g = omega arith
        by_tests false f true g = grind (arith, nat_tests)
        by_tests false f false g = omega arith

on_length : (tt : ℕ) (bs : List Block) → length (lengths_on tt bs) ≡ count_by (λ (b : Block). b.place.tt == tt) bs
on_length tt bs = length-map (filter (λ (b : Block). b.place.tt == tt) bs) (λ (b : Block). lengths (content b)) ∙ length-filter (λ (b : Block). b.place.tt == tt) bs

replicate_length : {X : Type 0} (n : ℕ) (x : X) → length (replicate n x) ≡ n
replicate_length zero x = refl
replicate_length (suc n) x = ap suc (replicate_length n x)

front_counts : (end : Place) (tt : ℕ) → cond (end.tt == tt) end.r 0 ≤ length (front_lengths end tt)
front_counts end tt = by_test (end.tt == tt)
  where
    by_test : (b : Bool) → cond b end.r 0 ≤ length (if b then replicate (end.r - 1) directory_lengths ++ (0, 0) ∷ [] else [])
    by_test true = let long = length-append (replicate (end.r - 1) directory_lengths) ((0, 0) ∷ []) in let some = replicate_length (end.r - 1) directory_lengths in omega (arith, long, some)
    by_test false = omega arith

-- ---- the next place

-- a place after the last: it is next to it, on its track or that after it, and its number is one byte
record IsBehind (last p : Place) : Type 0 where
  next : is_next last p ≡ true
  track : p.tt ≤ last.tt + 1
  number : p.r ≤ 255

behind_by : (d : DiskType) (last : Place) (earlier : List (ℕ × ℕ)) (new : ℕ × ℕ) → last.r ≤ length earlier → (b : Bool) → fits d earlier new.0 new.1 ≡ b
    → IsBehind last (if b then record { tt = last.tt; r = last.r + 1 } else record { tt = last.tt + 1; r = 1 })
behind_by d last earlier new few true e = let most = fits_few d earlier new.0 new.1 e in record { next = here last.tt last.r; track = omega arith; number = omega (arith, most, few) }
  where
    here : (t r : ℕ) → ((t == t && r + 1 == r + 1) || (nat_lt t t && r + 1 == 1)) ≡ true
    here t r = grind (arith, nat_tests)
behind_by d last earlier new few false e = record { next = there last.tt last.r; track = omega arith; number = omega arith }
  where
    there : (t r : ℕ) → ((t + 1 == t && 1 == r + 1) || (nat_lt t (t + 1) && 1 == 1)) ≡ true
    there t r = grind (arith, nat_tests)

behind : (d : DiskType) (last : Place) (earlier : List (ℕ × ℕ)) (new : ℕ × ℕ) → last.r ≤ length earlier → IsBehind last (place_behind d last earlier new)
behind d last earlier new few = behind_by d last earlier new few (fits d earlier new.0 new.1) refl

seq_behind : (d : DiskType) (tracks : ℕ) (bs : List Block) (c : Content) → FollowFrom tracks (record { tt = 0; r = 0 }) bs → IsBehind (last_place (record { tt = 0; r = 0 }) bs) (next_place d (bodies.Seq bs) c)
unfolding next_place
seq_behind d tracks [] c h = record { next = refl; track = omega arith; number = omega arith }
seq_behind d tracks (b ∷ bs) c h =
    let last = last_place b.place bs in
    let count = last_counts tracks (record { tt = 0; r = 0 }) (b ∷ bs) h in
    let long = on_length last.tt (b ∷ bs) in
    behind d last (lengths_on last.tt (b ∷ bs)) (lengths c) (none (0 == last.tt) last.r (count_by (λ (c : Block). c.place.tt == last.tt) (b ∷ bs)) (length (lengths_on last.tt (b ∷ bs))) count long)
  where
    none : (b : Bool) (r n l : ℕ) → r ≤ cond b 0 0 + n → l ≡ n → r ≤ l
    none true r n l h e = omega arith
    none false r n l h e = omega arith

part_behind : (d : DiskType) (tracks dir : ℕ) (end : Place) (es : List Entry) (bs : List Block) (c : Content) → FollowFrom tracks end bs → IsBehind (last_place end bs) (next_place d (bodies.Part dir end es bs) c)
unfolding next_place
part_behind d tracks dir end es bs c h =
    let last = last_place end bs in
    let count = last_counts tracks end bs h in
    let long = on_length last.tt bs in
    let front = front_counts end last.tt in
    let all = length-append (front_lengths end last.tt) (lengths_on last.tt bs) in
    behind d last (front_lengths end last.tt ++ lengths_on last.tt bs) (lengths c) (omega (arith, count, long, front, all))

follow_one : (tracks : ℕ) (p : Place) (bs : List Block) (b : Block) → FollowFrom tracks p bs → b.place.tt < tracks → is_next (last_place p bs) b.place ≡ true → FollowFrom tracks p (bs ++ b ∷ [])
follow_one tracks p [] b h on next = (on, next, tt)
follow_one tracks p (c ∷ bs) b h on next = (h.0, h.1, follow_one tracks c.place bs b h.2 on next)

-- ---- one block more

module _ (d : DiskType) (tracks : ℕ) (few : tracks < 65535) where
  block_lawful : (last p : Place) (c : Content) → IsContent c → IsBehind last p → p.tt < tracks → IsLawfulBlock (record { place = p; key = c.0; payload = c.1 })
  block_lawful last p c is at on = record { key = is.0; payload = is.1; track = omega arith; place = at.number }

  one_placed : (body : Body) (c : Content) → IsContent c → IsLawfulBody tracks body → (next_place d body c).tt < tracks → IsLawfulBody tracks (with_blocks body (next_block d body c ∷ []))
  one_placed (bodies.Seq bs) c is h on =
      let zero : Place = record { tt = 0; r = 0 } in
      let at = seq_behind d tracks bs c h.0 in
      let b = next_block d (bodies.Seq bs) c in
      (follow_one tracks zero bs b h.0 on at.next, all_joined IsLawfulBlock bs (b ∷ []) h.1 (block_lawful (last_place zero bs) (next_place d (bodies.Seq bs) c) c is at on, tt))
  one_placed (bodies.Part dir end es bs) c is h on =
      let body = bodies.Part dir end es bs in
      let at = part_behind d tracks dir end es bs c h.follow in
      let b = next_block d body c in
      record {
        few = h.few;
        room = h.room;
        order = h.order;
        entries = h.entries;
        end = h.end;
        follow = follow_one tracks end bs b h.follow on at.next;
        blocks = all_joined IsLawfulBlock bs (b ∷ []) h.blocks (block_lawful (last_place end bs) (next_place d body c) c is at on, tt);
      }
  one_placed bodies.Catalog c is h on = h
  one_placed bodies.Other c is h on = h
  one_placed (bodies.Unreadable track) c is h on = h

  -- the next block stands on an owned track, or on that after them
  pub next_track : (body : Body) (c : Content) → IsLawfulBody tracks body → (next_place d body c).tt ≤ tracks
  unfolding next_place
  next_track (bodies.Seq []) c h = omega arith
  next_track (bodies.Seq (b ∷ bs)) c h =
      let at = seq_behind d tracks (b ∷ bs) c h.0 in
      let last = last_on tracks b.place bs h.0.0 h.0.2 in
      let track = at.track in
      omega (arith, track, last)
  next_track (bodies.Part dir end es bs) c h =
      let at = part_behind d tracks dir end es bs c h.follow in
      let last = last_on tracks end bs h.end h.follow in
      let track = at.track in
      omega (arith, track, last)
  next_track bodies.Catalog c h = omega arith
  next_track bodies.Other c h = omega arith
  next_track (bodies.Unreadable track) c h = omega arith

with_none : (body : Body) → with_blocks body [] ≡ body
with_none (bodies.Seq bs) = ap (λ (l : List Block). bodies.Seq l) (append-nil bs)
with_none (bodies.Part dir end es bs) = ap (λ (l : List Block). bodies.Part dir end es l) (append-nil bs)
with_none bodies.Catalog = refl
with_none bodies.Other = refl
with_none (bodies.Unreadable track) = refl

pub with_more : (body : Body) (xs ys : List Block) → with_blocks (with_blocks body xs) ys ≡ with_blocks body (xs ++ ys)
with_more (bodies.Seq bs) xs ys = ap (λ (l : List Block). bodies.Seq l) (append_assoc bs xs ys)
with_more (bodies.Part dir end es bs) xs ys = ap (λ (l : List Block). bodies.Part dir end es l) (append_assoc bs xs ys)
with_more bodies.Catalog xs ys = refl
with_more bodies.Other xs ys = refl
with_more (bodies.Unreadable track) xs ys = refl

-- ---- several blocks more

pub all_placed : (d : DiskType) (tracks : ℕ) → tracks < 65535 → (cs : List Content) (body : Body) → AllByRecursion IsContent cs → IsLawfulBody tracks body → AllByRecursion (λ (b : Block). b.place.tt < tracks) (placed d body cs) → IsLawfulBody tracks (with_blocks body (placed d body cs))
unfolding placed
all_placed d tracks few [] body is h on = subst (IsLawfulBody tracks) (sym (with_none body)) h
all_placed d tracks few (c ∷ cs) body is h on =
    let b = next_block d body c in
    let more = with_blocks body (b ∷ []) in
    subst (IsLawfulBody tracks) (with_more body (b ∷ []) (placed d more cs)) (all_placed d tracks few cs more is.1 (one_placed d tracks few body c is.0 h on.0) on.1)

-- contents after others
pub placed_joined : (d : DiskType) (xs ys : List Content) (body : Body) → placed d body (xs ++ ys) ≡ placed d body xs ++ placed d (with_blocks body (placed d body xs)) ys
unfolding placed
placed_joined d [] ys body = ap (λ (b : Body). placed d b ys) (sym (with_none body))
placed_joined d (c ∷ xs) ys body =
    let b = next_block d body c in
    let more = with_blocks body (b ∷ []) in
    ap (λ (l : List Block). b ∷ l) (placed_joined d xs ys more ∙ ap (λ (u : Body). placed d more xs ++ placed d u ys) (with_more body (b ∷ []) (placed d more xs)))

-- they hold the contents
pub placed_contents : (d : DiskType) (cs : List Content) (body : Body) → map content (placed d body cs) ≡ cs
unfolding placed
placed_contents d [] body = refl
placed_contents d (c ∷ cs) body = ap (λ (l : List Content). c ∷ l) (placed_contents d cs (with_blocks body (next_block d body c ∷ [])))
