-- Blocks put one after another find the room of all of them at once, and a set written as a whole is one written block by block.
use Rattle.std.proofs.Common.{◌≡◌, Bool, true, false, List, [], ◌∷◌, ◌++◌, length, drop, refl, sym, ◌∙◌, ap, subst, append_assoc}
use Rattle.std.proofs.lemmas.List.{append-nil}
use Rattle.std.specs.Prelude.{Result, Ok, Err, if◌then◌else◌}
use Rattle.vol_model.specs.declared.answers.Mode.{Mode}
use Rattle.vol_model.specs.declared.contents.Body.{Body}
use Rattle.vol_model.specs.declared.contents.Shelf.{Shelf}
use Rattle.vol_model.specs.declared.refusals.Refusal.{Refusal}
use Rattle.vol_model.specs.declared.refusals.Refusal.TheVariants.{NoRoom}
use Rattle.vol_model.specs.declared.requests.Op.{Op}
use Rattle.vol_model.specs.Did.{and_then, on_answer}
use Rattle.vol_model.specs.Events.{after_operations, behind}
use Rattle.vol_model.specs.Places.{Content, placed}
use Rattle.vol_model.specs.Shelf.{put_first, put_last, step, written}
use Rattle.vol_model.specs.Writing.{Making, OpenWriter, Room, Owned, Wanted, Never, Target, at_close, begun, blocks_for, device_on, did_commit, did_put, did_puts, did_write, extension, if_made, making_by, making_close, making_puts, making_room, next_up, room_for, room_made, so_far, target_body, with_puts, writes}
use Rattle.vol_model.proofs.Keeping.{KeepsBodies, bodies_kept_none, bodies_kept_then, extension_keeps}

-- the shelf after what was done to make room
abbrev pub made : Shelf → Making → Shelf
made s m = after_operations s m.extends

-- room made for some, and then for more
abbrev pub made_then : Making → Making → Making
made_then m rest = if m.all then record { extends = m.extends ++ rest.extends; all = rest.all } else m

-- one extension in front
abbrev in_front : Op → Making → Making
in_front op m = record { extends = op ∷ m.extends; all = m.all }

front_then : (op : Op) (es : List Op) (b : Bool) (rest : Making) → in_front op (made_then (record { extends = es; all = b }) rest) ≡ made_then (in_front op (record { extends = es; all = b })) rest
front_then op es true rest = refl
front_then op es false rest = refl

module _ (t : Target) (c : Content) (xs ys : List Content) (before : List Content) (s : Shelf) where
  abbrev op : Op
  op = extension t

  abbrev next : List Content
  next = before ++ c ∷ []

  abbrev some : Shelf → Making
  some u = making_room u t next xs

  abbrev all_of : Shelf → Making
  all_of u = making_room u t next (xs ++ ys)

  abbrev rest : Shelf → Making
  rest u = making_room u t (before ++ c ∷ xs) ys

  by_room : (r : Room) (q : Result Shelf Refusal) → step s op ≡ q → ((u : Shelf) → all_of u ≡ made_then (some u) (making_room (made u (some u)) t (next ++ xs) ys))
      → making_by s op q all_of r ≡ made_then (making_by s op q some r) (rest (made s (making_by s op q some r)))
  by_room Owned q is more = more s ∙ ap (λ (l : List Content). made_then (some s) (making_room (made s (some s)) t l ys)) (append_assoc before (c ∷ []) xs)
  by_room Wanted (Ok u) is more =
      let there : made u (some u) ≡ made s (in_front op (some u)) = ap (λ (q : Result Shelf Refusal). after_operations (behind s q) (some u).extends) (sym is) in
      ap (in_front op) (more u ∙ ap (λ (l : List Content). made_then (some u) (making_room (made u (some u)) t l ys)) (append_assoc before (c ∷ []) xs) ∙ ap (λ (v : Shelf). made_then (some u) (rest v)) there)
      ∙ front_then op (some u).extends (some u).all (rest (made s (in_front op (some u))))
  by_room Wanted (Err r) is more = refl
  by_room Never q is more = refl

-- room for some contents and more after them
pub making_append : (t : Target) (xs ys before : List Content) (s : Shelf) → making_room s t before (xs ++ ys) ≡ made_then (making_room s t before xs) (making_room (made s (making_room s t before xs)) t (before ++ xs) ys)
making_append t [] ys before s = ap (λ (l : List Content). making_room s t l ys) (sym (append-nil before))
making_append t (c ∷ xs) ys before s = by_room t c xs ys before s (room_for s t before c) (step s (extension t)) refl (λ u. making_append t xs ys (before ++ c ∷ []) u)

module _ (t : Target) (s : Shelf) (more : Shelf → Making) (keeps : (u : Shelf) → KeepsBodies u (made u (more u))) where
  kept_by : (r : Room) (q : Result Shelf Refusal) → step s (extension t) ≡ q → KeepsBodies s (made s (making_by s (extension t) q more r))
  kept_by Owned q is = keeps s
  kept_by Wanted (Ok u) is =
      let there : made u (more u) ≡ made s (in_front (extension t) (more u)) = ap (λ (q : Result Shelf Refusal). after_operations (behind s q) (more u).extends) (sym is) in
      subst (λ (v : Shelf). KeepsBodies s v) there (bodies_kept_then (extension_keeps s u t.v t.dsn is) (keeps u))
  kept_by Wanted (Err r) is = bodies_kept_none s
  kept_by Never q is = bodies_kept_none s

-- making room keeps all bodies
pub making_keeps : (t : Target) (xs before : List Content) (s : Shelf) → KeepsBodies s (made s (making_room s t before xs))
making_keeps t [] before s = bodies_kept_none s
making_keeps t (c ∷ xs) before s = kept_by t s (λ u. making_room u t (before ++ c ∷ []) xs) (λ u. making_keeps t xs (before ++ c ∷ []) u) (room_for s t before c) (step s (extension t)) refl

-- ---- put by put

so_far_next : (mode : Mode) (body : Body) (puts : List Content) (c : Content) → so_far mode body (puts ++ c ∷ []) ≡ so_far mode body puts ++ next_up mode body puts (c ∷ [])
so_far_next mode body [] c = refl
so_far_next mode body (b ∷ puts) c = sym (append_assoc (put_first mode body) (b ∷ puts) (c ∷ []))

next_up_split : (mode : Mode) (body : Body) (puts : List Content) (c : Content) (cs : List Content) → next_up mode body puts (c ∷ cs) ≡ next_up mode body puts (c ∷ []) ++ cs
next_up_split mode body [] c cs = sym (append_assoc (put_first mode body) (c ∷ []) cs)
next_up_split mode body (b ∷ puts) c cs = refl

next_up_rest : (mode : Mode) (body : Body) (puts : List Content) (c : Content) (cs : List Content) → next_up mode body (puts ++ c ∷ []) cs ≡ cs
next_up_rest mode body [] c [] = refl
next_up_rest mode body [] c (d ∷ cs) = refl
next_up_rest mode body (b ∷ puts) c [] = refl
next_up_rest mode body (b ∷ puts) c (d ∷ cs) = refl

module _ {X Y : Type 0} (s : Shelf) (es : List Op) (x : X) (y : Y) (m : Making) (f : Shelf → Making) where
  puts_by : (b : Bool) → f (after_operations s es) ≡ m → room_made (made_then (record { extends = es; all = b }) m) y ≡ on_answer s es (if b then Ok x else Err NoRoom) (λ (z : X) (u : Shelf). room_made (f u) y)
  puts_by true is = ap (λ (n : Making). room_made (record { extends = es ++ n.extends; all = n.all }) y) (sym is)
  puts_by false is = refl

  made_by : (ops : List Op) (b : Bool) → f (after_operations s es) ≡ m → if_made (made_then (record { extends = es; all = b }) m) ops y ≡ on_answer s es (if b then Ok x else Err NoRoom) (λ (z : X) (u : Shelf). if_made (f u) ops y)
  made_by ops true is = by_rest m.extends m.all ∙ ap (λ (n : Making). on_answer s es (Ok x) (λ (z : X) (u : Shelf). if_made n ops y)) (sym is)
    where
      by_rest : (fs : List Op) (c : Bool) → if_made (record { extends = es ++ fs; all = c }) ops y ≡ record { operations = es ++ (if_made (record { extends = fs; all = c }) ops y).operations; answer = (if_made (record { extends = fs; all = c }) ops y).answer }
      by_rest fs true = ap (λ (l : List Op). record { operations = l; answer = Ok y }) (append_assoc es fs ops)
      by_rest fs false = refl
  made_by ops false is = refl

-- one content put, and then others
pub puts_cons : (s : Shelf) (w : OpenWriter) (c : Content) (cs : List Content) → did_puts s w (c ∷ cs) ≡ and_then s (did_put s w c) (λ p u. did_puts u (with_puts w (c ∷ [])) cs)
unfolding and_then did_puts did_put
puts_cons s w c cs =
    let t = w.target in
    let body = target_body s t in
    let before = so_far t.mode body w.puts in
    let first = next_up t.mode body w.puts (c ∷ []) in
    let m = making_room s t before first in
    let u = made s m in
    let same : target_body u t ≡ body = (making_keeps t first before s).bodies t.v t.dsn.bytes in
    let rest : making_puts u (with_puts w (c ∷ [])) cs ≡ making_room u t (before ++ first) cs =
    ap (λ (b : Body). making_room u t (so_far t.mode b (w.puts ++ c ∷ [])) (next_up t.mode b (w.puts ++ c ∷ []) cs)) same
    ∙ ap (λ (l : List Content). making_room u t l (next_up t.mode body (w.puts ++ c ∷ []) cs)) (so_far_next t.mode body w.puts c)
    ∙ ap (making_room u t (before ++ first)) (next_up_rest t.mode body w.puts c cs) in
    ap (λ (l : List Content). room_made (making_room s t before l) tt) (next_up_split t.mode body w.puts c cs)
    ∙ ap (λ (n : Making). room_made n tt) (making_append t first cs before s)
    ∙ puts_by s m.extends _ tt (making_room u t (before ++ first) cs) (λ v. making_puts v (with_puts w (c ∷ [])) cs) m.all rest

-- no content
pub puts_none : (s : Shelf) (w : OpenWriter) → did_puts s w [] ≡ record { operations = []; answer = Ok tt }
unfolding did_puts
puts_none s w = refl

written_parts : (mode : Mode) (body : Body) (cs : List Content) → written mode body cs ≡ next_up mode body [] cs ++ at_close mode body cs
written_parts mode body [] = ap (λ (l : List Content). l ++ put_last mode) (append-nil (put_first mode body))
written_parts mode body (c ∷ cs) = refl

so_far_all : (mode : Mode) (body : Body) (cs : List Content) → so_far mode body cs ≡ next_up mode body [] cs
so_far_all mode body [] = refl
so_far_all mode body (c ∷ cs) = refl

-- a set written as a whole is one written block by block
pub write_parts : (s : Shelf) (t : Target) (cs : List Content) → did_write s t cs ≡ and_then s (did_puts s (begun t) cs) (λ x u. did_commit u (with_puts (begun t) cs))
unfolding and_then did_write did_puts did_commit
write_parts s t cs =
    let body = target_body s t in
    let first = next_up t.mode body [] cs in
    let m = making_room s t [] first in
    let u = made s m in
    let keeps = making_keeps t first [] s in
    let same : target_body u t ≡ body = keeps.bodies t.v t.dsn.bytes in
    let close : making_close u (with_puts (begun t) cs) ≡ making_room u t first (at_close t.mode body cs) =
    ap (λ (b : Body). making_room u t (so_far t.mode b cs) (at_close t.mode b cs)) same
    ∙ ap (λ (l : List Content). making_room u t l (at_close t.mode body cs)) (so_far_all t.mode body cs) in
    let blocks : blocks_for u t cs ≡ blocks_for s t cs =
    ap (λ (b : Body). drop (length (put_first t.mode b)) (placed (device_on u t.v) b (put_first t.mode b ++ cs))) same
    ∙ ap (λ d. drop (length (put_first t.mode body)) (placed d body (put_first t.mode body ++ cs))) (keeps.devices t.v) in
    let ops = writes t (blocks_for s t cs) ∷ [] in
    ap (λ (l : List Content). if_made (making_room s t [] l) ops tt) (written_parts t.mode body cs)
    ∙ ap (λ (n : Making). if_made n ops tt) (making_append t first (at_close t.mode body cs) [] s)
    ∙ made_by s m.extends tt tt (making_room u t first (at_close t.mode body cs)) (λ v. making_close v (with_puts (begun t) cs)) ops m.all close
    ∙ last_blocks s t cs m.extends m.all (ap (λ l. writes t l ∷ []) blocks)
  where
    last_blocks : (s : Shelf) (t : Target) (cs : List Content) (es : List Op) (b : Bool) → writes t (blocks_for (after_operations s es) t cs) ∷ [] ≡ writes t (blocks_for s t cs) ∷ []
        → on_answer s es (if b then Ok tt else Err NoRoom) (λ (x : Unit {0}) (v : Shelf). if_made (making_close v (with_puts (begun t) cs)) (writes t (blocks_for s t cs) ∷ []) tt)
        ≡ on_answer s es (if b then Ok tt else Err NoRoom) (λ (x : Unit {0}) (v : Shelf). did_commit v (with_puts (begun t) cs))
    last_blocks s t cs es true is = ap (λ (l : List Op). on_answer s es (Ok tt) (λ (x : Unit {0}) (v : Shelf). if_made (making_close v (with_puts (begun t) cs)) l tt)) (sym is)
    last_blocks s t cs es false is = refl
