use Rattle.std.proofs.Common.{◌≡◌, ◌∙◌, List, Some, ℕ, ap, arith, refl, subst, sym}
use Rattle.std.specs.Prelude.{slice_index_or}
use Rattle.std.proofs.lemmas.Option.{get_or_from_slice_get}
use Rattle.std.proofs.lemmas.Result.{on_ok_weaker}
use Rattle.dscb_codec.specs.declared.Dscb.{Dscb}
use Rattle.dscb_codec.specs.declared.Dscb.TheVariants as formats
use Rattle.hall_core.specs.Facts.{Attached, unit_of}
use Rattle.hall_core.specs.Images.{image_in}
use Rattle.vtoc_index.specs.Index.{IsIndexOf}
use Rattle.vtoc_index.specs.Last.{with_last}
use Rattle.vtoc_index.specs.Names.{name_at}
use Rattle.vtoc_index.specs.declared.vol.Vol.{Vol}
use Rattle.free_rebuild.specs.Repairs.{image_named}
use Rattle.seq_access.proofs.CommitSteps.{commit_done, commit_fails}
use Rattle.seq_access.proofs.EndSteps.{first_put}
use Rattle.seq_access.proofs.writing.commit_put.Goals as goal

pub returns-in_err-balance-clause-files : goal.returns-in_err-balance-clause-files
returns-in_err-balance-clause-files g c told is before volume set stands left here mode cs kind all =
    let v = c.args.vol.now in
    let m0 = g.H.Hall.meaning c.args.hall.now in
    let f0 = g.H.Hall.facts c.args.hall.now in
    let name : List ℕ = (unit_of f0.units v.unit).name in
    commit_fails name v c.args.writer (image_in m0 f0 v.unit) is before volume set stands m0.state here refl mode cs kind all (omega arith) (omega arith) (first_put (image_in m0 f0 v.unit) v c.args.writer is c.requires.put (omega arith) (omega arith)) c.from_residual.result c.end_durably.new.vol c.from_residual.ensures.0 (c.end_durably.ensures.files told is before set left here)

pub raise_durably-requires-clause-index : goal.raise_durably-requires-clause-index
raise_durably-requires-clause-index g c told =
    let v1 = c.end_durably.new.vol in
    let m1 = g.H.Hall.meaning c.end_durably.new.hall in
    let f1 = g.H.Hall.facts c.end_durably.new.hall in
    let unit : v1.unit ≡ c.args.vol.now.unit = ap (λ (v : Vol). v.unit) c.end_durably.ensures.others in
    subst (λ (n : ℕ). IsIndexOf (image_in m1 f1 n) v1) (sym unit) (c.in_ok-balance.ensures.mounted told).index

pub returns-clause-files : goal.returns-clause-files
returns-clause-files g c told is before volume set stands left here mode cs kind all =
    let v = c.args.vol.now in
    let v1 = c.end_durably.new.vol in
    let m0 = g.H.Hall.meaning c.args.hall.now in
    let m1 = g.H.Hall.meaning c.end_durably.new.hall in
    let m2 = g.H.Hall.meaning c.raise_durably.new.hall in
    let f0 = g.H.Hall.facts c.args.hall.now in
    let f1 = g.H.Hall.facts c.end_durably.new.hall in
    let name : List ℕ = (unit_of f0.units v.unit).name in
    let told_name : List ℕ = (unit_of f1.units v1.unit).name in
    let units = c.in_ok-balance.ensures.faults.units in
    let names : told_name ≡ name = ap (λ (u : Vol). (unit_of f1.units u.unit).name) c.end_durably.ensures.others ∙ ap (λ (us : List Attached). (unit_of us v.unit).name) units in
    let image : image_in m1 f1 v.unit ≡ image_named m1.state name = ap (λ (us : List Attached). image_named m1.state (unit_of us v.unit).name) units in
    commit_done name v c.args.writer (image_in m0 f0 v.unit) is before volume set stands m0.state here refl mode cs kind all (omega arith) (omega arith) (first_put (image_in m0 f0 v.unit) v c.args.writer is c.requires.put (omega arith) (omega arith)) m0 m1 m2 v1 c.raise_durably.new.vol told_name (image_in m1 f1 v.unit) c.in_ok-balance.balance c.raise_durably.result c.in_ok-balance.balance
    c.end_durably.ensures.others names image (c.in_ok-balance.ensures.mounted told) (c.in_ok-balance.ensures.blocks told is) (c.in_ok-balance.ensures.files told is before set left here) (c.raise_durably.ensures.files told) c.raise_durably.ensures.others

pub returns-clause-names : goal.returns-clause-names
returns-clause-names g c = on_ok_weaker c.raise_durably.result (λ same k. same k ∙ ap (λ (v : Vol). name_at v.slots.items k) c.end_durably.ensures.others) c.raise_durably.ensures.names

pub returns-clause-raised : goal.returns-clause-raised
returns-clause-raised g c told =
    let v = c.args.vol.now in
    let v1 = c.end_durably.new.vol in
    let w = c.args.writer in
    let balance = c.in_ok-balance.balance in
    on_ok_weaker c.raise_durably.result
    (λ there is. record {
      balance = balance;
      is = c.in_ok-balance.ensures.balance told is;
      there =
          there
          ∙ ap (λ (u : Vol). Some (with_last w.last balance (slice_index_or u.slots.items w.slot formats.F0))) c.end_durably.ensures.others
          ∙ ap (λ (d : Dscb). Some (with_last w.last balance d)) (get_or_from_slice_get v.slots.items w.slot (formats.F1 is.f) formats.F0 is.slot);
    })
    c.raise_durably.ensures.slot
