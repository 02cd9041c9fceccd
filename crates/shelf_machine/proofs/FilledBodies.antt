-- Which data sets can't be read where blocks are written after those of one: the same as before.
use Rattle.std.proofs.Common.{◌≡◌, ℕ, Bool, true, false, cond, List, map, set, Option, Some, None, inl, inr, refl, sym, ap, ◌∙◌, subst}
use Rattle.std.specs.Prelude.{Result, Ok, Err, find, option_and_then, slice_get}
use Rattle.std.specs.Option.{option_map}
use Rattle.std.proofs.lemmas.Bool.Decides.{eqb_tells}
use Rattle.ckd_image.specs.declared.device.DiskType.{DiskType}
use Rattle.ebcdic_names.specs.declared.names.Dsn.{Dsn}
use Rattle.vol_model.specs.declared.answers.Mode.{Mode}
use Rattle.vol_model.specs.declared.answers.Mode.TheVariants as modes
use Rattle.vol_model.specs.declared.contents.Block.{Block}
use Rattle.vol_model.specs.declared.contents.Body.{Body}
use Rattle.vol_model.specs.declared.contents.Body.TheVariants as bodies
use Rattle.vol_model.specs.declared.contents.DataSet.{DataSet}
use Rattle.vol_model.specs.declared.contents.Shelf.{Shelf}
use Rattle.vol_model.specs.declared.contents.Volume.{Volume}
use Rattle.vol_model.specs.declared.refusals.Refusal.{Refusal}
use Rattle.vol_model.specs.declared.requests.Op.{Op}
use Rattle.vol_model.specs.declared.requests.Op.TheVariants.{Area, Fill}
use Rattle.vol_model.specs.Places.{Content, content, placed, with_blocks}
use Rattle.vol_model.specs.Shelf.{has_name, on_volume, set_of, step, step_on, unless_refused, volume_number, with_set, with_volume, with_written, write_on, write_refusal, written}
use Rattle.vol_model.specs.Writing.{set_on, writes}
use Rattle.shelf_machine.specs.Known.{KnowsBodies}
use Rattle.pack_machine.specs.Known.{ListsBroken, ListsUnread}
use Rattle.pack_machine.specs.Unread.{broken_at, broken_in, is_walked}
use Rattle.pack_machine.specs.declared.pack_cache.PackCache.{PackCache}
use Rattle.pack_machine.specs.declared.unread.Unread.{Unread}
use Rattle.pack_machine.proofs.FoundByKey.{found_changed}
use Rattle.pack_machine.proofs.ListPlaces.{get_other, get_set}
use Rattle.pack_machine.proofs.Operating.{ok_volume}
use Rattle.pack_machine.proofs.WriteSteps.{to_set}

-- more blocks don't tell whether a body can be read
broken_still : (b : Body) (bs : List Block) → broken_at (with_blocks b bs) ≡ broken_at b
broken_still (bodies.Seq old) bs = refl
broken_still (bodies.Part dir end entries old) bs = refl
broken_still bodies.Catalog bs = refl
broken_still bodies.Other bs = refl
broken_still (bodies.Unreadable track) bs = refl

set_still : (device : DiskType) (mode : Mode) (cs : List Content) (x : DataSet) → broken_in (with_written device mode cs x) ≡ broken_in x
set_still device mode cs x = ap (λ (o : Option ℕ). cond (is_walked x.name.bytes x.attr) o None) (broken_still x.body (placed device x.body (written mode x.body cs)))

-- the list of a volume of which a data set is changed, but not in its name nor in whether it can be read
lists_still : (w : Volume) (unread : List Unread) (name : List ℕ) (f : DataSet → DataSet) → ((x : DataSet) → (f x).name.bytes ≡ x.name.bytes) → ((x : DataSet) → broken_in (f x) ≡ broken_in x) → ListsBroken w unread → ListsBroken (with_set w name f) unread
lists_still w unread name f keeps whole lists m =
    lists m ∙ by (find (has_name m) w.sets) ∙ sym (ap (option_and_then broken_in) (found_changed (λ (x : DataSet). x.name.bytes) name f keeps m w.sets))
  where
    test : (x : DataSet) (b : Bool) → broken_in x ≡ broken_in (cond b (f x) x)
    test x true = sym (whole x)
    test x false = refl

    by : (o : Option DataSet) → option_and_then broken_in o ≡ option_and_then broken_in (option_map (λ (x : DataSet). cond (has_name name x) (f x) x) o)
    by None = refl
    by (Some x) = test x (has_name name x)

lists_written : (mode : Mode) (dsn : Dsn) (cs : List Content) (w after : Volume) → write_on mode dsn cs w ≡ Ok after → (unread : List Unread) → ListsBroken w unread → ListsBroken after unread
unfolding write_on
lists_written mode dsn cs w after done unread lists = by (write_refusal mode dsn w) done
  where
    by : (o : Option Refusal) → unless_refused o (with_set w dsn.bytes (with_written w.geometry.device mode cs)) ≡ Ok after → ListsBroken after unread
    by None is = subst (λ (y : Volume). ListsBroken y unread) (ok_volume is) (lists_still w unread dsn.bytes (with_written w.geometry.device mode cs) (λ x. refl) (set_still w.geometry.device mode cs) lists)
    by (Some r) is = absurd cc

-- ---- the shelf

ok_shelf : {a b : Shelf} → ◌≡◌ {A = Result Shelf Refusal} (Ok a) (Ok b) → a ≡ b
ok_shelf same = cc

-- an operation that doesn't tell on its volume tells on none
module _ (op : Op) (still : (w after : Volume) → step_on op w ≡ Ok after → (unread : List Unread) → ListsBroken w unread → ListsBroken after unread) where
  unread_still : (shelf after : Shelf) → step shelf op ≡ Ok after → (n : ℕ) (unread : List Unread) → ListsUnread shelf n unread → ListsUnread after n unread
  unfolding step set_on
  unread_still shelf after done n unread lists = by (slice_get shelf.volumes (volume_number op)) refl done
    where
      with_it : (w : Volume) → slice_get shelf.volumes (volume_number op) ≡ Some w → (r : Result Volume Refusal) → step_on op w ≡ r → with_volume shelf (volume_number op) r ≡ Ok after → ListsUnread after n unread
      with_it w there (Err r) stepped is = absurd cc
      with_it w there (Ok changed) stepped is = subst (λ (s : Shelf). ListsUnread s n unread) (ok_shelf is) (λ name. elim (eqb_tells (volume_number op) n) [
        | inl e ↦
            let here : ListsBroken w unread = λ m. lists m ∙ ap (λ (k : ℕ). option_and_then broken_in (option_and_then (set_of m) (slice_get shelf.volumes k))) (sym e.1) ∙ ap (λ (o : Option Volume). option_and_then broken_in (option_and_then (set_of m) o)) there in
            still w changed stepped unread here name
            ∙ sym (ap (λ (k : ℕ). option_and_then broken_in (option_and_then (set_of name) (slice_get (set shelf.volumes (volume_number op) changed) k))) (sym e.1)
            ∙ ap (λ (o : Option Volume). option_and_then broken_in (option_and_then (set_of name) o)) (get_set shelf.volumes (volume_number op) w changed there))
        | inr e ↦
            lists name
            ∙ sym (ap (λ (o : Option Volume). option_and_then broken_in (option_and_then (set_of name) o)) (get_other shelf.volumes n (volume_number op) changed (λ same. e.1 (sym same))))
      ])

      by : (o : Option Volume) → slice_get shelf.volumes (volume_number op) ≡ o → on_volume shelf (volume_number op) (step_on op) o ≡ Ok after → ListsUnread after n unread
      by None there is = absurd cc
      by (Some w) there is = with_it w there (step_on op w) refl is

-- What is known of bodies stays where blocks are written.
knows_by : (op : Op) → ((w after : Volume) → step_on op w ≡ Ok after → (unread : List Unread) → ListsBroken w unread → ListsBroken after unread) → (shelf after : Shelf) (known : List PackCache) → step shelf op ≡ Ok after → KnowsBodies shelf known → KnowsBodies after known
knows_by op still shelf after known done knows n b there = unread_still op still shelf after done n b.unread.items (knows n b there)

pub knows_written : (v : ℕ) (dsn : Dsn) (mode : Mode) (bs : List Block) (shelf after : Shelf) (known : List PackCache) → step shelf (writes (to_set v dsn mode) bs) ≡ Ok after → KnowsBodies shelf known → KnowsBodies after known
unfolding step_on
knows_written v dsn modes.Fill bs shelf after known = knows_by (Fill v dsn bs) (λ w x is unread lists. lists_written modes.Fill dsn (map content bs) w x is unread lists) shelf after known
knows_written v dsn modes.Area bs shelf after known = knows_by (Area v dsn bs) (λ w x is unread lists. lists_written modes.Area dsn (map content bs) w x is unread lists) shelf after known
