-- A member is copied, case by case.
use Rattle.std.proofs.Common.{◌≡◌, ℕ, Bool, true, false, not, List, refl, sym, ◌∙◌, ap, subst}
use Rattle.std.specs.Prelude.{Option, Some, None, Result, Ok, Err, IsErr, IsErrAnd, IsTrue, if◌then◌else◌}
use Rattle.std.specs.List.{list_all}
use Rattle.vol_model.specs.declared.answers.Stop.{Stop}
use Rattle.ebcdic_names.specs.declared.names.Dsn.{Dsn}
use Rattle.vol_model.specs.declared.contents.Attr.{Attr}
use Rattle.vol_model.specs.declared.contents.Block.{Block}
use Rattle.vol_model.specs.declared.contents.Body.{Body}
use Rattle.vol_model.specs.declared.contents.Body.TheVariants as bodies
use Rattle.vol_model.specs.declared.contents.DataSet.{DataSet}
use Rattle.vol_model.specs.declared.contents.Place.{Place}
use Rattle.vol_model.specs.declared.contents.Shelf.{Shelf}
use Rattle.vol_model.specs.declared.refusals.Refusal.{Refusal}
use Rattle.vol_model.specs.declared.refusals.Refusal.TheVariants.{Unreadable}
use Rattle.vol_model.specs.declared.requests.Op.{Op}
use Rattle.vol_model.specs.declared.requests.Op.TheVariants.{Empty}
use Rattle.vol_model.specs.Did.{Did, answered, because, with_reason}
use Rattle.vol_model.specs.Events.{after_operations, behind}
use Rattle.vol_model.specs.Reading.{member}
use Rattle.vol_model.specs.declared.machine.Machine.{Ghosts}
use Rattle.vol_model.specs.Shelf.{emptied, step, without_blocks}
use Rattle.vol_model.specs.Writing.{body_on, by_step, did_apply}
use Rattle.vol_model.proofs.Keeping.{empties_set}
use Rattle.vol_model.proofs.Working.{done_state, has_done}
use Rattle.util_steps.specs.declared.calls.Fault.{Fault}
use Rattle.util_steps.specs.declared.calls.Fault.TheVariants.{BadRecord, Refused}
use Rattle.util_steps.specs.declared.calls.SetRef.{SetRef}
use Rattle.util_steps.specs.Copying.{has_data, source}
use Rattle.util_steps.specs.Steps.{AreApart}
use Rattle.util_steps.specs.Taking.{Takes}
use Rattle.util_steps.proofs.Ending.{source_kept}
use Rattle.util_syntax.specs.declared.listing.Outcome.{Outcome}
use Rattle.util_syntax.specs.declared.listing.Outcome.TheVariants as outcome
use Rattle.util_program.specs.Outcomes.{outcome_for, performed}
use Rattle.iebcopy_util.specs.declared.copying.Copy.{Copy}
use Rattle.iebcopy_util.specs.declared.copying.OutputState.{OutputState}
use Rattle.iebcopy_util.specs.declared.tasks.MemberCopy.{MemberCopy}
use Rattle.iebcopy_util.specs.declared.walking.Walk.{Walk}
use Rattle.iebcopy_util.specs.Copying.{can_move, copied, copied_again, copied_anew, copied_from, copied_if, copied_or_again, copy_before, first_refusal, output_state, member_copied, places, with_attributes, unless_refused, written}
use Rattle.iebcopy_util.specs.Sets.{library}
use Rattle.iebcopy_util.specs.Steps.{HasWalked, IsClosed, IsRead, ProbesOutput, TakesWhole, Tells}
use Rattle.record_files.proofs.KeepLemmas.{IsReadable, changed_readable}
use Rattle.iebcopy_util.proofs.WholeLemmas.{performed_closed, whole_as, whole_ends, whole_stops, whole_then}

-- a set that is emptied can be read
without_blocks_readable : (b : Body) → IsReadable (without_blocks b)
without_blocks_readable (bodies.Seq old) = refl
without_blocks_readable (bodies.Part dir end es old) = refl
without_blocks_readable bodies.Catalog = refl
without_blocks_readable bodies.Other = refl
without_blocks_readable (bodies.Unreadable track) = refl

emptied_readable : (s after : Shelf) (v : ℕ) (dsn : Dsn) (attr : Attr) (v2 : ℕ) (n2 : List ℕ) → step s (Empty v dsn attr) ≡ Ok after → IsReadable (body_on s v2 n2) → IsReadable (body_on after v2 n2)
emptied_readable s after v dsn attr v2 n2 done is = changed_readable s after v dsn.bytes (emptied attr) (λ x. refl) (λ x read. without_blocks_readable x.body) (empties_set s after v dsn attr done) v2 n2 is

-- ---- a blank output

-- an operation that is done
performed_step : (s : Shelf) (op : Op) (x : Unit {0}) → Ok x ≡ (performed s op).answer → step s op ≡ Ok (after_operations s (performed s op).operations)
unfolding did_apply with_reason
performed_step s op x is = by_result (step s op) refl is
  where
    by_result : (q : Result Shelf Refusal) → step s op ≡ q → Ok x ≡ because outcome_for (because Refused (by_step op q).answer) → q ≡ Ok (after_operations s (by_step op q).operations)
    by_result (Ok after) at is = ap Ok (sym (ap (behind s) at))
    by_result (Err r) at is = let never : ⊥ = cc in absurd never

-- the input stays
readied_keeps : (s : Shelf) (out from : SetRef) (t : MemberCopy) (blank : Bool) (x : Unit {0}) → AreApart out from → Ok x ≡ (with_attributes s out t blank).answer → source (after_operations s (with_attributes s out t blank).operations) from ≡ source s from
readied_keeps s out from t true x apart is = source_kept s (after_operations s (with_attributes s out t true).operations) from out t.source.given apart (performed_step s (Empty out.v out.dsn t.source.given) x is)
readied_keeps s out from t false x apart is = refl

-- and the output can be read
readied_reads : (s : Shelf) (out : SetRef) (t : MemberCopy) (blank : Bool) (x : Unit {0}) → Ok x ≡ (with_attributes s out t blank).answer → IsReadable (body_on s out.v out.dsn.bytes) → IsReadable (body_on (after_operations s (with_attributes s out t blank).operations) out.v out.dsn.bytes)
readied_reads s out t true x is read = emptied_readable s (after_operations s (with_attributes s out t true).operations) out.v out.dsn t.source.given out.v out.dsn.bytes (performed_step s (Empty out.v out.dsn t.source.given) x is) read
readied_reads s out t false x is read = read

module _ {X : Type 0} (g : Ghosts X) (out : SetRef) (t : MemberCopy) (blank : Bool) where
  abbrev first : Shelf → Did (Unit {0}) Outcome
  first s = with_attributes s out t blank

  readied_closed : (s : Shelf) → IsClosed (first s).operations
  readied_closed s = by_blank blank
    where
      by_blank : (b : Bool) → IsClosed (with_attributes s out t b).operations
      by_blank true = performed_closed s (Empty out.v out.dsn t.source.given) refl
      by_blank false = tt

  module _ {old mid : X} (x : Unit {0}) (one : Takes g first old mid (Ok (Ok x))) (told : IsTrue g.tells) where
    ready_state : (g.meaning mid).state ≡ after_operations (g.meaning old).state (first (g.meaning old).state).operations
    ready_state = done_state (has_done (one.works told))

    -- the input stays
    pub ready_input : (from : SetRef) → AreApart out from → source (g.meaning mid).state from ≡ source (g.meaning old).state from
    ready_input from apart = ap (λ (u : Shelf). source u from) ready_state ∙ readied_keeps (g.meaning old).state out from t blank x apart (one.works told).answer

    -- and the output can be read
    pub ready_output : IsRead (g.meaning old).state out → IsRead (g.meaning mid).state out
    ready_output read = subst (λ (u : Shelf). IsRead u out) (sym ready_state) (readied_reads (g.meaning old).state out t blank x (one.works told).answer read)

  -- ---- made ready, and written

  abbrev more : List Block → Unit {0} → Shelf → Did (Option Copy) Outcome
  more bs x u = written u out t bs

  module _ (blocks : Shelf → List Block) {old : X} where
    pub copied_stops : {new : X} {e : Stop} (q : Result (Result (Option Copy) Outcome) Stop) → IsErr q × IsErrAnd q (λ f. f ≡ e) → TakesWhole g first old new (Err e) → TakesWhole g (λ s. copied s out t blank (blocks s)) old new q
    unfolding copied
    copied_stops q same one = whole_as g (λ told. refl) (whole_stops g first (more (blocks (g.meaning old).state)) q same one)

    pub copied_ends : {new : X} {e : Outcome} → Takes g first old new (Ok (Err e)) → TakesWhole g (λ s. copied s out t blank (blocks s)) old new (Ok (Err e))
    unfolding copied
    copied_ends one = whole_as g (λ told. refl) (whole_ends g first (more (blocks (g.meaning old).state)) one)

    pub copied_then : {mid new : X} (x : Unit {0}) {r : Result (Result (Option Copy) Outcome) Stop} → Takes g first old mid (Ok (Ok x)) → (IsTrue g.tells → blocks (g.meaning mid).state ≡ blocks (g.meaning old).state)
        → TakesWhole g (λ u. written u out t (blocks u)) mid new r → TakesWhole g (λ s. copied s out t blank (blocks s)) old new r
    unfolding copied
    copied_then {mid = mid} x one same two =
        whole_as g (λ told. refl)
        (whole_then g first (more (blocks (g.meaning old).state)) (λ told. readied_closed (g.meaning old).state) one (whole_as g (λ told. ap (written (g.meaning mid).state out t) (sym (same told))) two))

-- ---- walked first

-- A member was walked: its input can be read, and this is known of its blocks.
pub record WalkTold (src : Result (List Block) ℕ) (place : Place) (walk : Walk) : Type 0 where
  pub all_blocks : List Block
  pub is : src ≡ Ok all_blocks
  pub at : walk.places.items ≡ places (member all_blocks place)
  pub data_is : walk.has_data ≡ list_all has_data (member all_blocks place)

-- what a walk answers of an input
abbrev pub Walked : Result (List Block) ℕ → Place → Result Walk Fault → Type 0
Walked src place answer = Tells src (λ bs a. HasWalked (member bs place) a) answer

pub walk_told : (src : Result (List Block) ℕ) (place : Place) (walk : Walk) → Walked src place (Ok walk) → WalkTold src place walk
walk_told (Ok bs) place walk tells =
    let so = tells.blocks bs refl in
    let same : so.0 ≡ walk = cc in
    record { all_blocks = bs; is = refl; at = ap (λ (w : Walk). w.places.items) (sym same) ∙ so.2; data_is = ap (λ (w : Walk). w.has_data) (sym same) ∙ so.3 }
walk_told (Err track) place walk tells = let no = tells.unreadable track refl in let never : ⊥ = cc in absurd never

-- an input that can't be read
pub walk_refused : (s : Shelf) (out : SetRef) (t : MemberCopy) (blank : Bool) (src : Result (List Block) ℕ) (place : Place) (f : Fault) → Walked src place (Err f) → copied_from s out t blank src ≡ answered (Err (outcome_for f))
walk_refused s out t blank (Ok bs) place f tells = let no = (tells.blocks bs refl).1 in let never : ⊥ = cc in absurd never
walk_refused s out t blank (Err track) place f tells = let same = tells.unreadable track refl in let is : f ≡ Refused (Unreadable track) = cc in ap (λ (q : Fault). answered (Err (outcome_for q))) (sym is)

module _ (s : Shelf) (out : SetRef) (t : MemberCopy) (blank : Bool) (walk : Walk) (src : Result (List Block) ℕ) (so : WalkTold src t.entry.place walk) where
  abbrev bs : List Block
  bs = member so.all_blocks t.entry.place

  from_walk : copied_from s out t blank src ≡ copied_anew s out t blank bs
  from_walk = ap (copied_from s out t blank) so.is

  abbrev by_data : Bool → Did (Option Copy) Outcome
  by_data d = if not d then answered (Err outcome.BadRecord) else copied s out t blank bs

  -- its TTRs can't be moved
  pub from_bad_ttr : can_move walk.places.items t.entry ≡ false → copied_from s out t blank src ≡ answered (Err outcome.BadTtr)
  unfolding copied_anew
  from_bad_ttr bad = from_walk ∙ ap (λ (m : Bool). if not m then answered (Err outcome.BadTtr) else by_data (list_all has_data bs)) (ap (λ (l : List Place). can_move l t.entry) (sym so.at) ∙ bad)

  module _ (good : can_move walk.places.items t.entry ≡ true) where
    from_moved : copied_from s out t blank src ≡ by_data (list_all has_data bs)
    unfolding copied_anew
    from_moved = from_walk ∙ ap (λ (m : Bool). if not m then answered (Err outcome.BadTtr) else by_data (list_all has_data bs)) (ap (λ (l : List Place). can_move l t.entry) (sym so.at) ∙ good)

    -- a block has no data
    pub from_bad_record : walk.has_data ≡ false → copied_from s out t blank src ≡ answered (Err outcome.BadRecord)
    from_bad_record none = from_moved ∙ ap by_data (sym so.data_is ∙ none)

    -- it is copied
    pub from_copied : walk.has_data ≡ true → copied_from s out t blank src ≡ copied s out t blank bs
    from_copied all = from_moved ∙ ap by_data (sym so.data_is ∙ all)

-- ---- a member

module _ (s : Shelf) (out : SetRef) (copies : List Copy) (t : MemberCopy) where
  pub member_none : (f : Fault) → ProbesOutput (Err f) t (library s out) → member_copied s out copies t ≡ answered (Err (outcome_for f))
  unfolding member_copied
  member_none (Refused r) is = ap (copied_if s out copies t) is
  member_none BadRecord is = absurd is

  module _ (x : DataSet) (found : OutputState) (is : library s out ≡ Ok x) (told : found ≡ output_state t x) where
    member_found : member_copied s out copies t ≡ unless_refused (first_refusal t found) (copied_or_again s out t found.is_blank (copy_before copies t))
    unfolding member_copied
    member_found = ap (copied_if s out copies t) is ∙ ap (λ (f : OutputState). unless_refused (first_refusal t f) (copied_or_again s out t f.is_blank (copy_before copies t))) (sym told)

    pub member_refused : (o : Outcome) → first_refusal t found ≡ Some o → member_copied s out copies t ≡ answered (Err o)
    member_refused o refused = member_found ∙ ap (λ (r : Option Outcome). unless_refused r (copied_or_again s out t found.is_blank (copy_before copies t))) refused

    module _ (none : first_refusal t found ≡ None) where
      member_goes : member_copied s out copies t ≡ copied_or_again s out t found.is_blank (copy_before copies t)
      member_goes = member_found ∙ ap (λ (r : Option Outcome). unless_refused r (copied_or_again s out t found.is_blank (copy_before copies t))) none

      pub member_again : (c : Copy) → copy_before copies t ≡ Some c → member_copied s out copies t ≡ copied_again s out t c
      member_again c at = member_goes ∙ ap (copied_or_again s out t found.is_blank) at

      pub member_anew : copy_before copies t ≡ None → member_copied s out copies t ≡ copied_from s out t found.is_blank (source s t.source.set)
      member_anew at = member_goes ∙ ap (copied_or_again s out t found.is_blank) at
