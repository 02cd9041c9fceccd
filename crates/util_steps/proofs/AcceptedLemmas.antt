-- What steps and items do is accepted: each is done only where it isn't refused.
use Rattle.std.proofs.Common.{◌≡◌, ℕ, ◌++◌, Bool, true, false, List, [], ◌∷◌, map, refl, sym, ◌∙◌, ap, subst, ⊎_elim}
use Rattle.std.specs.Prelude.{Option, Some, None, Result, Ok, Err, IsOk, option_map, option_and_then, slice_get, if◌then◌else◌}
use Rattle.std.specs.List.{list_all}
use Rattle.ebcdic_names.specs.declared.names.Dsn.{Dsn}
use Rattle.vol_model.specs.declared.answers.Mode.{Mode}
use Rattle.vol_model.specs.declared.answers.Mode.TheVariants as modes
use Rattle.vol_model.specs.declared.contents.Block.{Block}
use Rattle.vol_model.specs.declared.contents.DataSet.{DataSet}
use Rattle.vol_model.specs.declared.contents.Run.{Run}
use Rattle.vol_model.specs.declared.contents.Shelf.{Shelf}
use Rattle.vol_model.specs.declared.contents.Volume.{Volume}
use Rattle.vol_model.specs.declared.refusals.Refusal.{Refusal}
use Rattle.vol_model.specs.declared.requests.Op.{Op}
use Rattle.vol_model.specs.declared.requests.Op.TheVariants.{Extend, Fill, Area}
use Rattle.vol_model.specs.Did.{Did, and_then, answered, on_answer, with_reason}
use Rattle.vol_model.specs.Events.{Event, Do, Say, Item, after_operations, behind, events_in, events_of, operations_of, shelf_behind}
use Rattle.vol_model.specs.Places.{Content, content}
use Rattle.vol_model.specs.Shelf.{has_name, on_volume, set_of, step, step_on, unless_refused, with_extents, with_set, with_volume, with_written, write_on, write_refusal, write_refusal_for, written}
use Rattle.vol_model.specs.Writing.{Making, OpenWriter, Room, Owned, Wanted, Never, Target, begin_refusal, begun, blocks_for, by_refusal, by_step, did_apply, did_begin, did_puts, did_write, extension, if_made, making_by, making_puts, making_room, next_up, room_for, set_on, so_far, target_body, target_refusal, writes}
use Rattle.vol_model.proofs.Keeping.{extends_set, set_after}
use Rattle.vol_model.proofs.Stops.{events_append}
use Rattle.util_steps.specs.declared.calls.Fault.{Fault}
use Rattle.util_steps.specs.declared.calls.Fault.TheVariants.{BadRecord, Refused}
use Rattle.util_steps.specs.declared.calls.SetRef.{SetRef}
use Rattle.util_steps.specs.Accepted.{AllAccepted, AreAccepted}
use Rattle.util_steps.specs.Copying.{did_all, did_blocks, filled, has_data, refusing, target, with_data}
use Rattle.util_steps.specs.Items.{items_along}

-- the operations of steps are accepted
abbrev pub DidAccepted : {X E : Type 0} → Shelf → Did X E → Type 0
DidAccepted shelf d = AllAccepted shelf d.operations

-- the operations of items are
abbrev pub ItemsAccepted : Shelf → List Item → Type 0
ItemsAccepted shelf items = AreAccepted shelf (events_of items)

-- ---- steps one after another

pub accepted_more : (s : Shelf) (xs ys : List Op) → AllAccepted s xs → AllAccepted (after_operations s xs) ys → AllAccepted s (xs ++ ys)
accepted_more s [] ys first second = second
accepted_more s (op ∷ xs) ys first second = (first.0, accepted_more (behind s (step s op)) xs ys first.1 second)

pub accepted_then : {X Y E : Type 0} (s : Shelf) (first : Did X E) (more : X → Shelf → Did Y E) → DidAccepted s first → ((x : X) (u : Shelf) → DidAccepted u (more x u)) → DidAccepted s (and_then s first more)
unfolding and_then
accepted_then {X} {Y} {E} s first more here next = by_answer first.answer
  where
    by_answer : (r : Result X E) → AllAccepted s (on_answer s first.operations r more).operations
    by_answer (Ok x) = accepted_more s first.operations (more x (after_operations s first.operations)).operations here (next x (after_operations s first.operations))
    by_answer (Err e) = here

pub accepted_reason : {X E F : Type 0} (s : Shelf) (f : E → F) (d : Did X E) → DidAccepted s d → DidAccepted s (with_reason f d)
unfolding with_reason
accepted_reason s f d here = here

-- one operation
pub accepted_apply : (s : Shelf) (op : Op) → DidAccepted s (did_apply s op)
unfolding did_apply
accepted_apply s op = by_result (step s op) refl
  where
    by_result : (r : Result Shelf Refusal) → step s op ≡ r → AllAccepted s (by_step op r).operations
    by_result (Ok after) is = (subst (λ (q : Result Shelf Refusal). IsOk q) (sym is) refl, tt)
    by_result (Err r) is = tt

-- and its refusal as a fault
pub accepted_refusing : (s : Shelf) (op : Op) → DidAccepted s (refusing (did_apply s op))
accepted_refusing s op = accepted_reason s Refused (did_apply s op) (accepted_apply s op)

-- ---- writing

-- a set can be written to
abbrev MayWrite : Shelf → Target → Type 0
MayWrite s t = write_refusal_for t.mode t.dsn.bytes (set_on s t.v t.dsn.bytes) ≡ None

may_write : (s : Shelf) (t : Target) → begin_refusal s t ≡ None → MayWrite s t
unfolding begin_refusal set_on write_refusal
may_write s t is = by_volume (slice_get s.volumes t.v) is
  where
    by_volume : (o : Option Volume) → target_refusal t o ≡ None → write_refusal_for t.mode t.dsn.bytes (option_and_then (set_of t.dsn.bytes) o) ≡ None
    by_volume None none = absurd (cc none)
    by_volume (Some volume) none = none

-- an extension leaves the kind of a set, and whether it can be read
extended_kind : (mode : Mode) (name other : List ℕ) (runs : List Run) (o : Option DataSet) → write_refusal_for mode name (option_map (λ (x : DataSet). if has_name other x then with_extents runs x else x) o) ≡ write_refusal_for mode name o
extended_kind mode name other runs None = refl
extended_kind mode name other runs (Some x) = by_name (has_name other x)
  where
    by_name : (b : Bool) → write_refusal_for mode name (Some (if b then with_extents runs x else x)) ≡ write_refusal_for mode name (Some x)
    by_name true = refl
    by_name false = refl

extension_writes : (t : Target) (s after : Shelf) (v : ℕ) (dsn : Dsn) → step s (Extend v dsn) ≡ Ok after → MayWrite s t → MayWrite after t
extension_writes t s after v dsn is may =
    let c = extends_set s after v dsn is in
    let of : Option DataSet → Option Refusal = λ o. write_refusal_for t.mode t.dsn.bytes o in
    ⊎_elim
    (λ other. ap of other ∙ may)
    (λ same. ap of same.1 ∙ extended_kind t.mode t.dsn.bytes dsn.bytes c.0 (set_on s t.v t.dsn.bytes) ∙ may)
    (set_after s after v dsn.bytes (with_extents c.0) (λ x. refl) c.1 t.v t.dsn.bytes)

-- the shelf after what was done to make room
abbrev made : Shelf → Making → Shelf
made s m = after_operations s m.extends

-- Room is made by extensions that are accepted, and the set can be written to as before.
record MakesRoom (t : Target) (s : Shelf) (m : Making) : Type 0 where
  all : AllAccepted s m.extends
  may : MayWrite s t → MayWrite (made s m) t

module _ (t : Target) (s : Shelf) (more : Shelf → Making) (next : (u : Shelf) → MakesRoom t u (more u)) where
  making_step : (r : Room) (q : Result Shelf Refusal) → step s (extension t) ≡ q → MakesRoom t s (making_by s (extension t) q more r)
  making_step Owned q is = next s
  making_step Wanted (Ok u) is =
      let there : Ok u ≡ step s (extension t) = sym is in
      record {
        all = (subst (λ (q : Result Shelf Refusal). IsOk q) there refl, subst (λ (q : Result Shelf Refusal). AllAccepted (behind s q) (more u).extends) there (next u).all);
        may = λ may. subst (λ (q : Result Shelf Refusal). MayWrite (after_operations (behind s q) (more u).extends) t) there ((next u).may (extension_writes t s u t.v t.dsn is may));
      }
  making_step Wanted (Err r) is = record { all = tt; may = λ may. may }
  making_step Never q is = record { all = tt; may = λ may. may }

makes_room : (t : Target) (cs before : List Content) (s : Shelf) → MakesRoom t s (making_room s t before cs)
makes_room t [] before s = record { all = tt; may = λ may. may }
makes_room t (c ∷ cs) before s = making_step t s (λ u. making_room u t (before ++ c ∷ []) cs) (λ u. makes_room t cs (before ++ c ∷ []) u) (room_for s t before c) (step s (extension t)) refl

-- blocks are put
pub accepted_puts : (s : Shelf) (w : OpenWriter) (cs : List Content) → DidAccepted s (did_puts s w cs)
unfolding did_puts
accepted_puts s w cs =
    let body = target_body s w.target in
    (makes_room w.target (next_up w.target.mode body w.puts cs) (so_far w.target.mode body w.puts) s).all

written_on : (mode : Mode) (dsn : Dsn) (cs : List Content) (s : Shelf) (v : ℕ) → write_refusal_for mode dsn.bytes (set_on s v dsn.bytes) ≡ None → IsOk (on_volume s v (write_on mode dsn cs) (slice_get s.volumes v))
unfolding set_on write_on write_refusal
written_on mode dsn cs s v may = by_volume (slice_get s.volumes v) may
  where
    by_refusal_of : (volume : Volume) (r : Option Refusal) → r ≡ None → IsOk (with_volume s v (unless_refused r (with_set volume dsn.bytes (with_written volume.geometry.device mode cs))))
    by_refusal_of volume None is = refl
    by_refusal_of volume (Some r) is = absurd (cc is)

    by_volume : (o : Option Volume) → write_refusal_for mode dsn.bytes (option_and_then (set_of dsn.bytes) o) ≡ None → IsOk (on_volume s v (write_on mode dsn cs) o)
    by_volume None none = absurd (cc none)
    by_volume (Some volume) none = by_refusal_of volume (write_refusal mode dsn volume) none

writes_accepted : (s : Shelf) (v : ℕ) (dsn : Dsn) (mode : Mode) (bs : List Block) → MayWrite s (record { v = v; dsn = dsn; mode = mode }) → IsOk (step s (writes (record { v = v; dsn = dsn; mode = mode }) bs))
unfolding step step_on
writes_accepted s v dsn modes.Fill bs may = written_on modes.Fill dsn (map content bs) s v may
writes_accepted s v dsn modes.Area bs may = written_on modes.Area dsn (map content bs) s v may

-- a set is written to as a whole, if it can be
accepted_write : (s : Shelf) (t : Target) (cs : List Content) → MayWrite s t → DidAccepted s (did_write s t cs)
unfolding did_write
accepted_write s t cs may = by_room m.all
  where
    m : Making
    m = making_room s t [] (written t.mode (target_body s t) cs)

    ops : List Op
    ops = writes t (blocks_for s t cs) ∷ []

    by_room : (b : Bool) → AllAccepted s (if_made {X = Unit {0}} (record { extends = m.extends; all = b }) ops tt).operations
    by_room true =
        let room = makes_room t (written t.mode (target_body s t) cs) [] s in
        let last : AllAccepted (made s m) ops = (writes_accepted (made s m) t.v t.dsn t.mode (blocks_for s t cs) (room.may may), tt) in
        accepted_more s m.extends ops room.all last
    by_room false = (makes_room t (written t.mode (target_body s t) cs) [] s).all

-- ---- copies

pub accepted_blocks : (s : Shelf) (w : OpenWriter) (bs : List Block) → DidAccepted s (did_blocks s w bs)
unfolding did_blocks
accepted_blocks s w bs = by_data (list_all has_data bs)
  where
    put : (cs : List Content) → DidAccepted s (refusing (did_puts s w cs))
    put cs = accepted_reason s Refused (did_puts s w cs) (accepted_puts s w cs)

    by_data : (b : Bool) → DidAccepted s (if b then refusing (did_puts s w (map content bs)) else and_then s (refusing (did_puts s w (map content (with_data bs)))) (λ x u. answered (Err BadRecord)))
    by_data true = put (map content bs)
    by_data false = accepted_then s (refusing (did_puts s w (map content (with_data bs)))) (λ x u. answered (Err BadRecord)) (put (map content (with_data bs))) (λ x u. tt)

-- blocks are written as a whole to a set whose writing isn't refused
pub accepted_all : (s : Shelf) (t : Target) (bs : List Block) → begin_refusal s t ≡ None → DidAccepted s (did_all s t bs)
unfolding did_all
accepted_all s t bs is = by_data (list_all has_data bs)
  where
    some : List Content
    some = map content (with_data bs)

    by_data : (b : Bool) → DidAccepted s (if b then refusing (did_write s t (map content bs)) else and_then s (refusing (did_puts s (begun t) some)) (λ x u. answered (Err BadRecord)))
    by_data true = accepted_reason s Refused (did_write s t (map content bs)) (accepted_write s t (map content bs) (may_write s t is))
    by_data false = accepted_then s (refusing (did_puts s (begun t) some)) (λ x u. answered (Err BadRecord)) (accepted_reason s Refused (did_puts s (begun t) some) (accepted_puts s (begun t) some)) (λ x u. tt)

-- a writer is opened, and what is done with it is accepted where it wasn't refused
pub accepted_begin : {Y : Type 0} (s : Shelf) (t : Target) (more : Shelf → Did Y Fault) → (begin_refusal s t ≡ None → DidAccepted s (more s)) → DidAccepted s (and_then s (refusing (did_begin s t)) (λ x u. more u))
unfolding and_then did_begin with_reason
accepted_begin {Y} s t more next = by_refused (begin_refusal s t) refl
  where
    by_refused : (o : Option Refusal) → begin_refusal s t ≡ o → AllAccepted s (on_answer s (refusing (by_refusal o)).operations (refusing (by_refusal o)).answer (λ (x : Unit {0}) (u : Shelf). more u)).operations
    by_refused None is = next is
    by_refused (Some r) is = tt

pub accepted_filled : (s : Shelf) (to : SetRef) (mode : Mode) (bs : List Block) → DidAccepted s (filled s to mode bs)
unfolding filled
accepted_filled s to mode bs = accepted_begin s (target to mode) (λ u. did_all u (target to mode) bs) (λ is. accepted_all s (target to mode) bs is)

-- ---- events and items

events_then : (s : Shelf) (es fs : List Event) → AreAccepted s es → AreAccepted (shelf_behind s es) fs → AreAccepted s (es ++ fs)
events_then s [] fs first second = second
events_then s (Do op ∷ es) fs first second = (first.0, events_then (behind s (step s op)) es fs first.1 second)
events_then s (Say line ∷ es) fs first second = events_then s es fs first second

said : (s : Shelf) (lines : List (List ℕ)) → AreAccepted s (map Say lines)
said s [] = tt
said s (line ∷ lines) = said s lines

none_said : (lines : List (List ℕ)) → operations_of (map Say lines) ≡ []
none_said [] = refl
none_said (line ∷ lines) = none_said lines

-- the operations of an item stand before its lines
done_said : (ops : List Op) (lines : List (List ℕ)) → operations_of (map Do ops ++ map Say lines) ≡ ops
done_said [] lines = none_said lines
done_said (op ∷ ops) lines = ap (λ (l : List Op). op ∷ l) (done_said ops lines)

item_events : (s : Shelf) (ops : List Op) (lines : List (List ℕ)) → AllAccepted s ops → AreAccepted s (map Do ops ++ map Say lines)
item_events s [] lines all = said s lines
item_events s (op ∷ ops) lines all = (all.0, item_events (behind s (step s op)) ops lines all.1)

-- an item, and others after it
pub accepted_cons : (s : Shelf) (item : Item) (items : List Item) → AllAccepted s item.operations → ItemsAccepted (after_operations s item.operations) items → ItemsAccepted s (item ∷ items)
accepted_cons s item items first others =
    let there : after_operations s item.operations ≡ shelf_behind s (events_in item) = ap (λ (l : List Op). after_operations s l) (sym (done_said item.operations item.lines)) in
    events_then s (events_in item) (events_of items) (item_events s item.operations item.lines first) (subst (λ (u : Shelf). ItemsAccepted u items) there others)

pub accepted_one : (s : Shelf) (item : Item) → AllAccepted s item.operations → ItemsAccepted s (item ∷ [])
accepted_one s item all = accepted_cons s item [] all tt

pub accepted_append : (s : Shelf) (xs ys : List Item) → ItemsAccepted s xs → ItemsAccepted (shelf_behind s (events_of xs)) ys → ItemsAccepted s (xs ++ ys)
accepted_append s xs ys first second = subst (λ (es : List Event). AreAccepted s es) (sym (events_append xs ys)) (events_then s (events_of xs) (events_of ys) first second)

-- the items of tasks, each accepted wherever it stands
pub accepted_along : {X : Type 0} (item_of : Shelf → X → Item) → ((s : Shelf) (x : X) → AllAccepted s (item_of s x).operations) → (s : Shelf) (xs : List X) → ItemsAccepted s (items_along item_of s xs)
accepted_along item_of each s [] = tt
accepted_along item_of each s (x ∷ xs) = let item = item_of s x in accepted_cons s item (items_along item_of (after_operations s item.operations) xs) (each s x) (accepted_along item_of each (after_operations s item.operations) xs)
