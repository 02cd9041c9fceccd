-- The member at a place stays the same where more blocks are written after those of its set.
use Rattle.std.proofs.Common.{◌≡◌, ◌+◌, ◌<◌, ◌==◌, ◌&&◌, ◌||◌, not, nat_lt, ℕ, zero, suc, Bool, true, false, cond, List, [], ◌∷◌, ◌++◌, length, get_or, refl, sym, ◌∙◌, ap, subst, append_assoc, arith}
use Rattle.std.proofs.lemmas.Bool.Decides.{nat_tests}
use Rattle.std.proofs.lemmas.List.Elements.{Contains-append_left, filter-append}
use Rattle.std.proofs.lemmas.List.Sums.{take_while-cons}
use Rattle.std.specs.Prelude.{take_while, if◌then◌else◌}
use Rattle.ckd_image.specs.Fit.{fits}
use Rattle.ckd_image.specs.declared.device.DiskType.{DiskType}
use Rattle.vol_model.specs.declared.answers.Mode.TheVariants as modes
use Rattle.vol_model.specs.declared.contents.Block.{Block}
use Rattle.vol_model.specs.declared.contents.Body.{Body}
use Rattle.vol_model.specs.declared.contents.Body.TheVariants as bodies
use Rattle.vol_model.specs.declared.contents.Entry.{Entry}
use Rattle.vol_model.specs.declared.contents.Place.{Place}
use Rattle.vol_model.specs.Places.{Content, end_of_file, front_lengths, is_before, is_end_of_file, is_open_ended, last_place, lengths, lengths_on, next_block, next_place, placed}
use Rattle.vol_model.specs.Reading.{blocks_from, member}
use Rattle.vol_model.specs.Shelf.{written}
use Rattle.member_laws.specs.Members.{NamesBlock}
use Rattle.member_laws.proofs.Ordered.{Follow}

-- ---- the blocks from a place up to an end-of-file block

module _ {X : Type 0} (t : X → Bool) where
  -- what is taken ends in front of what doesn't pass
  taken_before : (xs : List X) (y : X) (ys : List X) → t y ≡ false → take_while t (xs ++ y ∷ ys) ≡ take_while t xs
  taken_before [] y ys e = take_while-cons t y ys ∙ ap (λ b. cond b (y ∷ take_while t ys) []) e
  taken_before (x ∷ xs) y ys e = take_while-cons t x (xs ++ y ∷ ys) ∙ ap (λ l. cond (t x) (x ∷ l) []) (taken_before xs y ys e) ∙ sym (take_while-cons t x xs)

-- a member ends in front of an end-of-file block that isn't before its place
member_before : (xs ys : List Block) (y : Block) (p : Place) → is_before y.place p ≡ false → is_end_of_file y ≡ true → member (xs ++ y ∷ ys) p ≡ member xs p
unfolding member
member_before xs ys y p at ends =
    let goes_on : Block → Bool = λ b. not (is_end_of_file b) in
    ap (take_while goes_on) (filter-append (λ (b : Block). not (is_before b.place p)) xs (y ∷ ys) ∙ ap (λ b. blocks_from p xs ++ cond (not b) (y ∷ blocks_from p ys) (blocks_from p ys)) at)
    ∙ taken_before goes_on (blocks_from p xs) y (blocks_from p ys) (ap not ends)

-- ---- places

-- a place that is next to one that isn't before another isn't before that either
next_later : (a r b s c u : ℕ) → (nat_lt b a || (b == a && nat_lt s r)) ≡ false → ((c == b && u == s + 1) || (nat_lt b c && u == 1)) ≡ true → (nat_lt c a || (c == a && nat_lt u r)) ≡ false
next_later a r b s c u e next = grind (arith, nat_tests)

not_self : (t r : ℕ) → (nat_lt t t || (t == t && nat_lt r r)) ≡ false
not_self t r = grind (arith, nat_tests)

-- the last of blocks after a place isn't before what that isn't before
last_later : (p q : Place) (bs : List Block) → Follow q bs → is_before q p ≡ false → is_before (last_place q bs) p ≡ false
last_later p q [] h at = at
last_later p q (b ∷ bs) h at = last_later p b.place bs h.1 (next_later p.tt p.r q.tt q.r b.place.tt b.place.r at h.0)

-- the last of blocks isn't before any of them
last_behind : (q : Place) (bs : List Block) (b : Block) (k : ℕ) → k < length bs → get_or bs k b ≡ b → Follow q bs → is_before (last_place q bs) b.place ≡ false
last_behind q [] b k lt at h = absurd (omega arith)
last_behind q (c ∷ bs) b zero lt at h = subst (λ (x : Block). is_before (last_place c.place bs) x.place ≡ false) at (last_later c.place c.place bs h.1 (not_self c.place.tt c.place.r))
last_behind q (c ∷ bs) b (suc k) lt at h = last_behind c.place bs b k (omega arith) at h.1

-- ---- the last block

-- blocks that end with one, at the last place
record EndWith (q : Place) (bs : List Block) : Type 0 where
  front : List Block
  last : Block
  is : bs ≡ front ++ last ∷ []
  place : last.place ≡ last_place q bs
  is_open : is_open_ended bs ≡ not (is_end_of_file last)

end_with : (q : Place) (b : Block) (bs : List Block) → EndWith q (b ∷ bs)
end_with q b [] = record { front = []; last = b; is = refl; place = refl; is_open = refl }
end_with q b (c ∷ bs) = let rest = end_with b.place c bs in record { front = b ∷ rest.front; last = rest.last; is = ap (λ l. b ∷ l) rest.is; place = rest.place; is_open = rest.is_open }

so : (b : Bool) → not b ≡ false → b ≡ true
so true e = refl
so false e = cc

-- ---- blocks written to a partitioned set

module _ (d : DiskType) (dir : ℕ) (end : Place) (es : List Entry) (bs : List Block) (p : Place) (named : NamesBlock bs p) (h : Follow end bs) where
  abbrev body : Body
  body = bodies.Part dir end es bs

  last_at : is_before (last_place end bs) p ≡ false
  last_at = subst (λ (x : Place). is_before (last_place end bs) x ≡ false) named.2 (last_behind end bs named.0 named.1.0 named.1.1 named.1.2 h)

  -- where the last block ends a member, nothing after it belongs to one in front
  closed : (new : List Block) → is_open_ended bs ≡ false → member (bs ++ new) p ≡ member bs p
  closed new shut = by_end bs refl
    where
      by_end : (l : List Block) → bs ≡ l → member (bs ++ new) p ≡ member bs p
      by_end [] none = absurd (let lt = named.1.1 in let long = ap length none in omega arith)
      by_end (b ∷ l) is =
          let e : EndWith end bs = subst (EndWith end) (sym is) (end_with end b l) in
          let at : is_before e.last.place p ≡ false = ap (λ (x : Place). is_before x p) e.place ∙ last_at in
          let ends = so (is_end_of_file e.last) (sym e.is_open ∙ shut) in
          ap (λ (l : List Block). member (l ++ new) p) e.is
          ∙ ap (λ (l : List Block). member l p) (append_assoc e.front (e.last ∷ []) new)
          ∙ member_before e.front new e.last p at ends
          ∙ sym (member_before e.front [] e.last p at ends)
          ∙ ap (λ (l : List Block). member l p) (sym e.is)

  -- the next place isn't before that of a block
  next_at : (c : Content) → is_before (next_place d body c) p ≡ false
  unfolding next_place
  next_at c =
      let last = last_place end bs in
      by_fit (fits d (front_lengths end last.tt ++ lengths_on last.tt bs) (lengths c).0 (lengths c).1)
    where
      by_fit : (b : Bool) → is_before (if b then record { tt = (last_place end bs).tt; r = (last_place end bs).r + 1 } else record { tt = (last_place end bs).tt + 1; r = 1 }) p ≡ false
      by_fit true = next_later p.tt p.r (last_place end bs).tt (last_place end bs).r (last_place end bs).tt ((last_place end bs).r + 1) last_at (here (last_place end bs).tt (last_place end bs).r)
        where
          here : (t r : ℕ) → ((t == t && r + 1 == r + 1) || (nat_lt t t && r + 1 == 1)) ≡ true
          here t r = grind (arith, nat_tests)
      by_fit false = next_later p.tt p.r (last_place end bs).tt (last_place end bs).r ((last_place end bs).tt + 1) 1 last_at (there (last_place end bs).tt (last_place end bs).r)
        where
          there : (t r : ℕ) → ((t + 1 == t && 1 == r + 1) || (nat_lt t (t + 1) && 1 == 1)) ≡ true
          there t r = grind (arith, nat_tests)

  -- where the last block doesn't end a member, an end-of-file block is put after it
  opened : (cs : List Content) → member (bs ++ placed d body (end_of_file ∷ cs)) p ≡ member bs p
  unfolding placed
  opened cs = member_before bs (placed d (bodies.Part dir end es (bs ++ next_block d body end_of_file ∷ [])) cs) (next_block d body end_of_file) p (next_at end_of_file) refl

  -- an area after blocks leaves the members among them
  pub area_kept : (cs : List Content) → member (bs ++ placed d body (written modes.Area body cs)) p ≡ member bs p
  area_kept cs = by_open (is_open_ended bs) refl
    where
      by_open : (b : Bool) → is_open_ended bs ≡ b → member (bs ++ placed d body ((if b then end_of_file ∷ [] else []) ++ cs ++ end_of_file ∷ [])) p ≡ member bs p
      by_open true e = opened (cs ++ end_of_file ∷ [])
      by_open false e = closed (placed d body (cs ++ end_of_file ∷ [])) e

-- a place that names a block names it among more
pub named_among : (bs new : List Block) (p : Place) → NamesBlock bs p → NamesBlock (bs ++ new) p
named_among bs new p named = (named.0, Contains-append_left bs new named.0 named.1, named.2)
