-- The place of a body's next block is the one after all its records: of a partitioned set those of its directory count on their track.
use Rattle.std.proofs.Common.{◌≡◌, ◌⊎◌, ◌+◌, ◌-◌, ◌≤◌, ◌<◌, ℕ, Bool, true, false, cond, List, [], ◌∷◌, ◌++◌, map, inl, inr, refl, sym, ap, ◌∙◌, arith, append_assoc}
use Rattle.std.specs.Prelude.{◌==◌, replicate}
use Rattle.std.proofs.lemmas.Bool.Decides.{eqb_tells, nat_tests}
use Rattle.std.proofs.lemmas.List.{map-append}
use Rattle.std.proofs.lemmas.List.Elements.{filter-append}
use Rattle.ckd_image.specs.Fit.{fits}
use Rattle.ckd_image.specs.declared.device.DiskType.{DiskType}
use Rattle.vol_model.specs.declared.contents.Block.{Block}
use Rattle.vol_model.specs.declared.contents.Body.{Body}
use Rattle.vol_model.specs.declared.contents.Body.TheVariants.{Part, Seq}
use Rattle.vol_model.specs.declared.contents.Entry.{Entry}
use Rattle.vol_model.specs.declared.contents.Place.{Place}
use Rattle.vol_model.specs.Places.{Content, content, directory_lengths, front_lengths, is_before, last_place, lengths, lengths_on, next_block, next_place, place_behind, placed, with_blocks}
use Rattle.pack_spec.specs.Blocks.{last_of, seq_body}
use Rattle.pack_spec.specs.Directories.{part_body, read_to}
use Rattle.pack_spec.specs.Volume.{attr_of}
use Rattle.vtoc_index.specs.declared.vol.Vol.{Vol}
use Rattle.vtoc_index.specs.Last.{lstar_of}
use Rattle.vtoc_sets.specs.Sets.{extents_in}
use Rattle.seq_access.specs.declared.writer.Writer.{Writer}
use Rattle.seq_access.specs.Bodies.{body_of_set, data_in, last_in, last_read}
use Rattle.seq_access.specs.Writing.{IsWriting, place_next, puts_in, record_next}
use Rattle.seq_access.proofs.LastPlaces.{body_said, last_said, some_said}
use Rattle.seq_access.proofs.OwnBodies.{as_partitioned, as_sequential, by_body, part_first}
use Rattle.seq_access.proofs.PartFronts.{AreBehind, AreFront, IsSplit, behind_both, not_both, split}
use Rattle.seq_access.proofs.PartReading.{all, read_up_to}
use Rattle.seq_access.proofs.PutPlaces.{last_low, last_small}

last_both : (p : Place) (us ws : List Block) → last_place p (us ++ ws) ≡ last_place (last_place p us) ws
last_both p [] ws = refl
last_both p (u ∷ us) ws = last_both u.place us ws

lengths_both : (k : ℕ) (us ws : List Block) → lengths_on k (us ++ ws) ≡ lengths_on k us ++ lengths_on k ws
lengths_both k us ws =
    ap (map (λ (b : Block). lengths (content b))) (filter-append (λ (b : Block). b.place.tt == k) us ws)
    ∙ map-append (λ (b : Block). lengths (content b)) _ _

-- the last of blocks after a place isn't before that
not_itself : (p : Place) → is_before p p ≡ false
not_itself p = grind (arith, nat_tests)

last_behind : (end p : Place) (bs : List Block) → is_before p end ≡ false → AreBehind end bs → is_before (last_place p bs) end ≡ false
last_behind end p [] low behind = low
last_behind end p (b ∷ bs) low behind = last_behind end b.place bs (not_both end b.place behind.0) behind.1

from_track : (end p : Place) → is_before p end ≡ false → end.tt ≤ p.tt
from_track end p low = grind (arith, nat_tests)

-- and the next place is after that
place_past : (device : DiskType) (end last : Place) (earlier : List (ℕ × ℕ)) (new : ℕ × ℕ) → is_before last end ≡ false → is_before end (place_behind device last earlier new) ≡ true
place_past device end last earlier new low = by (fits device earlier new.0 new.1)
  where
    here : (end last : Place) → is_before last end ≡ false → is_before end (record { tt = last.tt; r = last.r + 1 }) ≡ true
    here end last low = grind (arith, nat_tests)

    next : (end last : Place) → is_before last end ≡ false → is_before end (record { tt = last.tt + 1; r = 1 }) ≡ true
    next end last low = grind (arith, nat_tests)

    by : (b : Bool) → is_before end (cond b (record { tt = last.tt; r = last.r + 1 }) (record { tt = last.tt + 1; r = 1 })) ≡ true
    by true = here end last low
    by false = next end last low

module _ (device : DiskType) (n : ℕ) (end : Place) (es : List Entry) (front : List Block) (ahead : AreFront end front) where
  -- the records on a track that isn't before the end's
  fronts : (k : ℕ) → end.tt ≤ k → front_lengths end k ≡ lengths_on k front
  fronts k low = by (eqb_tells end.tt k)
    where
      by : (((end.tt == k) ≡ true) × (end.tt ≡ k)) ⊎ (((end.tt == k) ≡ false) × (end.tt ≡ k → ⊥)) → front_lengths end k ≡ lengths_on k front
      by (inl w) =
          ap (λ (b : Bool). cond b (replicate (end.r - 1) directory_lengths ++ (0, 0) ∷ []) []) w.0
          ∙ sym ahead.here ∙ ap (λ (j : ℕ). lengths_on j front) w.1
      by (inr w) =
          ap (λ (b : Bool). cond b (replicate (end.r - 1) directory_lengths ++ (0, 0) ∷ []) []) w.0
          ∙ sym (ahead.later k (omega (arith, low, w.1)))

  next_part : (bs : List Block) (c : Content) → AreBehind end bs → next_place device (Part n end es bs) c ≡ next_place device (Seq (front ++ bs)) c
  unfolding next_place
  next_part bs c from = by front refl
    where
      last : Place
      last = last_place end bs

      low : end.tt ≤ (last_place end bs).tt
      low = from_track end (last_place end bs) (last_behind end end bs (not_itself end) from)

      all_lengths : front_lengths end (last_place end bs).tt ++ lengths_on (last_place end bs).tt bs ≡ lengths_on (last_place end bs).tt (front ++ bs)
      all_lengths = ap (λ (ls : List (ℕ × ℕ)). ls ++ lengths_on (last_place end bs).tt bs) (fronts (last_place end bs).tt low) ∙ sym (lengths_both (last_place end bs).tt front bs)

      by : (us : List Block) → front ≡ us → place_behind device (last_place end bs) (front_lengths end (last_place end bs).tt ++ lengths_on (last_place end bs).tt bs) (lengths c) ≡ next_place device (Seq (us ++ bs)) c
      by [] none =
          let one : record { tt = end.tt + 1; r = 0 } ≡ end = sym (ap (last_place (record { tt = end.tt + 1; r = 0 })) none) ∙ ahead.ends (record { tt = end.tt + 1; r = 0 }) in
          absurd (omega (arith, ap (λ (p : Place). p.tt) one))
      by (u ∷ us) same =
          let ends : last_place u.place us ≡ end = sym (ap (last_place end) same) ∙ ahead.ends end in
          let at : last_place u.place (us ++ bs) ≡ last_place end bs = last_both u.place us bs ∙ ap (λ (p : Place). last_place p bs) ends in
          ap (λ (ls : List (ℕ × ℕ)). place_behind device (last_place end bs) ls (lengths c)) (all_lengths ∙ ap (λ (xs : List Block). lengths_on (last_place end bs).tt (xs ++ bs)) same)
          ∙ ap (λ (p : Place). place_behind device p (lengths_on p.tt (u ∷ us ++ bs)) (lengths c)) (sym at)

  next_past : (bs : List Block) (c : Content) → AreBehind end bs → is_before end (next_place device (Part n end es bs) c) ≡ true
  unfolding next_place
  next_past bs c from = place_past device end (last_place end bs) (front_lengths end (last_place end bs).tt ++ lengths_on (last_place end bs).tt bs) (lengths c) (last_behind end end bs (not_itself end) from)

  pub placed_behind : (bs : List Block) (cs : List Content) → AreBehind end bs → AreBehind end (placed device (Part n end es bs) cs)
  unfolding placed
  placed_behind bs [] from = tt
  placed_behind bs (c ∷ cs) from =
      let b : Block = next_block device (Part n end es bs) c in
      (next_past bs c from, placed_behind (bs ++ b ∷ []) cs (behind_both end bs (b ∷ []) from (next_past bs c from, tt)))

  pub placed_part : (bs : List Block) (cs : List Content) → AreBehind end bs → placed device (Part n end es bs) cs ≡ placed device (Seq (front ++ bs)) cs
  unfolding placed
  placed_part bs [] from = refl
  placed_part bs (c ∷ cs) from =
      let b : Block = next_block device (Part n end es bs) c in
      let same : b ≡ next_block device (Seq (front ++ bs)) c = ap (λ (p : Place). record { place = p; key = c.0; payload = c.1 }) (next_part bs c from) in
      ap (λ (l : List Block). b ∷ l)
      (placed_part (bs ++ b ∷ []) cs (behind_both end bs (b ∷ []) from (next_past bs c from, tt))
      ∙ ap (λ (l : List Block). placed device (Seq l) cs) (sym (append_assoc front bs (b ∷ []))))
      ∙ ap (λ (d : Block). d ∷ placed device (Seq ((front ++ bs) ++ d ∷ [])) cs) same

  -- all records after which the next block comes
  pub written_part : (bs : List Block) (cs : List Content) → AreBehind end bs → front ++ (bs ++ placed device (Part n end es bs) cs) ≡ (front ++ bs) ++ placed device (Seq (front ++ bs)) cs
  written_part bs cs from = sym (append_assoc front bs (placed device (Part n end es bs) cs)) ∙ ap (λ (l : List Block). (front ++ bs) ++ l) (placed_part bs cs from)

  pub next_written : (bs : List Block) (cs : List Content) (c : Content) → AreBehind end bs
      → next_place device (Part n end es (bs ++ placed device (Part n end es bs) cs)) c ≡ next_place device (Seq ((front ++ bs) ++ placed device (Seq (front ++ bs)) cs)) c
  next_written bs cs c from =
      next_part (bs ++ placed device (Part n end es bs) cs) c (behind_both end bs (placed device (Part n end es bs) cs) from (placed_behind bs cs from))
      ∙ ap (λ (l : List Block). next_place device (Seq l) c) (written_part bs cs from)

same_blocks : (xs ys : List Block) → Seq xs ≡ Seq ys → xs ≡ ys
same_blocks xs ys e = cc

module _ (image : List ℕ) (v : Vol) (w : Writer) (is : IsWriting image v w) (low : w.last.tt < 65536) where
  abbrev body : Body
  body = body_of_set image v is.f

  -- of a sequential set they are its blocks
  pub old_blocks : (bs : List Block) → body ≡ Seq bs → is.old ≡ bs
  old_blocks bs e =
      let read = (as_sequential v.geometry (data_in image v) is.f.name (attr_of is.f) (extents_in image v is.f) is.f.lstar bs e).1 in
      let at : last_in image v is.f ≡ last_of is.f.lstar = ap (λ (b : Body). last_read b is.f.lstar) e in
      same_blocks is.old bs (sym is.front ∙ body_said v.geometry (data_in image v) (extents_in image v is.f) is.f.lstar (last_in image v is.f) bs at (last_low image v w is low) (last_small image v w is) read)

  module _ (n : ℕ) (end : Place) (es : List Entry) (bs : List Block) (e : body ≡ Part n end es bs) where
    pub read : part_body v.geometry (data_in image v) (extents_in image v is.f) is.f.lstar ≡ Part n end es bs
    read = (as_partitioned v.geometry (data_in image v) is.f.name (attr_of is.f) (extents_in image v is.f) is.f.lstar n end es bs e).1

    pub last_at : last_in image v is.f ≡ read_to end is.f.lstar
    last_at = ap (λ (b : Body). last_read b is.f.lstar) e

    pub parts : IsSplit v.geometry (data_in image v) (extents_in image v is.f) is.f.lstar n end es bs read (all v.geometry (data_in image v) (extents_in image v is.f) is.f.lstar n end es bs read)
    parts = split v.geometry (data_in image v) (extents_in image v is.f) is.f.lstar n end es bs read

    -- and of a partitioned one its directory's records, too
    pub old_part : is.old ≡ parts.front ++ bs
    old_part =
        let first : 1 ≤ (last_in image v is.f).r = omega (arith, part_first v.geometry (data_in image v) (extents_in image v is.f) is.f.lstar n end es bs read, ap (λ (p : Place). p.r) last_at) in
        let here : seq_body v.geometry (data_in image v) (extents_in image v is.f) (lstar_of (last_in image v is.f)) ≡ Seq (all v.geometry (data_in image v) (extents_in image v is.f) is.f.lstar n end es bs read) =
        read_up_to v.geometry (data_in image v) (extents_in image v is.f) is.f.lstar n end es bs read (lstar_of (last_in image v is.f))
        (last_said (last_in image v is.f) (last_low image v w is low) (last_small image v w is) ∙ last_at) (some_said (last_in image v is.f) first)
        in
        same_blocks is.old _ (sym is.front ∙ here) ∙ parts.all

  -- The next block's place is the one after them.
  pub next_same : (c : Content) → place_next is c ≡ record_next is c
  next_same c = by_body v.geometry (data_in image v) is.f.name (attr_of is.f) (extents_in image v is.f) is.f.lstar (place_next is c ≡ record_next is c) is.writable seq part
    where
      puts : List Content
      puts = puts_in image v is.f w

      place_in : Body → Place
      place_in b = next_place v.geometry.device (with_blocks b (placed v.geometry.device b (puts_in image v is.f w))) c

      seq : (bs : List Block) → body ≡ Seq bs → place_next is c ≡ record_next is c
      seq bs e = ap place_in (e ∙ ap Seq (sym (old_blocks bs e)))

      part : (n : ℕ) (end : Place) (es : List Entry) (bs : List Block) → body ≡ Part n end es bs → place_next is c ≡ record_next is c
      part n end es bs e =
          let p = parts n end es bs e in
          ap place_in e
          ∙ next_written v.geometry.device n end es p.front p.ahead bs (puts_in image v is.f w) c p.behind
          ∙ ap (λ (l : List Block). next_place v.geometry.device (Seq (l ++ placed v.geometry.device (Seq l) (puts_in image v is.f w))) c) (sym (old_part n end es bs e))
