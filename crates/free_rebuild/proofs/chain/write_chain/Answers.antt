use Rattle.std.proofs.Common.{◌≡◌, ◌<◌, ◌+◌, ◌∙◌, List, [], ℕ, Bool, true, length, drop, replicate, Some, sym, ap, subst, arith, cond}
use Rattle.std.specs.Prelude.{Ok, get_or, nat_lt}
use Rattle.std.proofs.lemmas.List.{drop_all, length-set}
use Rattle.dscb_codec.specs.declared.Dscb.{Dscb}
use Rattle.stop_model.specs.Files.{file_of}
use Rattle.hall_core.specs.Facts.{Attached, unit_of}
use Rattle.hall_core.specs.Images.{image_in}
use Rattle.hall_core.specs.declared.steps.Device.{Device}
use Rattle.pack_spec.specs.FreeChain.{entries_in, entries_of}
use Rattle.pack_spec.specs.Label.{heads_of}
use Rattle.vtoc_index.specs.Index.{IsIndexOf, address_in}
use Rattle.vtoc_index.specs.Puts.{AfterPut}
use Rattle.vtoc_index.specs.declared.vol.Vol.{Vol}
use Rattle.free_rebuild.specs.Chain.{IsOpenAt, chained, is_open, space_of}
use Rattle.free_rebuild.proofs.WriteLemmas.{chain_step, chosen_above, chosen_opened, device_then, entries_at, entries_many, image_there, opened_set, told_done, told_not, told_step}
use Rattle.free_rebuild.proofs.chain.write_chain.Goals as goal

-- src/chain.rt:50:9
pub returns-in_err-put_slot-clause-files : goal.returns-in_err-put_slot-clause-files
returns-in_err-put_slot-clause-files g c told =
    let v0 = c.args.vol.now in
    let v1 = c.loop-number.vol in
    let inv = c.loop-number.invariant in
    let m1 = g.H.Hall.meaning c.loop-number.hall in
    let f0 = g.H.Hall.facts c.args.hall.now in
    let f1 = g.H.Hall.facts c.loop-number.hall in
    let mn = g.H.Hall.meaning c.put_slot.new.hall in
    let fn = g.H.Hall.facts c.put_slot.new.hall in
    let d : Dscb = c.link_at-link.result.dscb in
    let name0 : List ℕ = (unit_of f0.units v0.unit).name in
    let same : (unit_of f1.units v1.unit).name ≡ name0 = ap (λ (us : List Attached). (unit_of us v1.unit).name) inv.faults.units ∙ ap (λ (v : Vol). (unit_of f0.units v.unit).name) inv.others in
    let image : List ℕ = image_in m1 f1 v1.unit in
    let there = image_there m1.state f1.units v1.unit (g.met.H.Hall.whole c.loop-number.hall told) inv.unit.attached in
    let there0 = subst (λ (n : List ℕ). file_of m1.state n ≡ Some image) same there in
    let after = subst (λ (n : List ℕ). AfterPut n v1 c.loop-number.slot d c.put_slot.new.vol image (image_in mn fn v1.unit) m1 mn c.put_slot.result) same (c.put_slot.ensures.files told) in
    told_not name0 v0 c.from_residual.result c.from_residual.ensures.0
    (told_step name0 v0 v1 c.put_slot.new.vol c.loop-number.slot d image (image_in mn fn v1.unit) (inv.files told) inv.others after (g.met.H.Hall.leaves_state c.loop-number.hall) there0 (inv.index told) inv.some inv.opened (ap is_open c.link_at-link.ensures.dscb))

-- src/chain.rt:48:5
pub loop-number-preserved : goal.loop-number-preserved
loop-number-preserved g c =
    let v0 = c.args.vol.now in
    let v1 = c.loop-number.vol in
    let v2 = c.put_slot.new.vol in
    let inv = c.loop-number.invariant in
    let m1 = g.H.Hall.meaning c.loop-number.hall in
    let f0 = g.H.Hall.facts c.args.hall.now in
    let f1 = g.H.Hall.facts c.loop-number.hall in
    let mn = g.H.Hall.meaning c.put_slot.new.hall in
    let fn = g.H.Hall.facts c.put_slot.new.hall in
    let d : Dscb = c.link_at-link.result.dscb in
    let slot : ℕ = c.loop-number.slot in
    let next : ℕ = c.link_at-link.result.next in
    let number : ℕ = c.loop-number.number in
    let ds : List Dscb = v1.slots.items in
    let done = c.in_ok-put_slot.ensures.index.done in
    let heads : ℕ = heads_of v0.geometry in
    let entries : List (List (List ℕ)) = entries_of heads v0.free.items in
    let many : length entries ≡ c.dscbs_for-count.result = entries_many heads v0.free.items ∙ sym inv.count in
    let low : number < length entries = omega (arith, c.loop-number-test.true, many) in
    let t : Bool = nat_lt (number + 1) c.dscbs_for-count.result in
    let test : nat_lt (number + 1) (length entries) ≡ t = ap (nat_lt (number + 1)) many in
    let at : ℕ → List ℕ = address_in v0 in
    let here : entries_in (heads_of v1.geometry) v1.free.items number ≡ get_or entries number [] = ap (λ (v : Vol). entries_in (heads_of v.geometry) v.free.items number) inv.others ∙ sym (entries_at heads v0.free.items number (omega (arith, low, many, inv.count))) in
    let address : address_in v1 next ≡ at next = ap (λ (v : Vol). address_in v next) inv.others in
    let is : d ≡ space_of (get_or entries number []) (cond t (at next) (replicate 5 0)) =
    c.link_at-link.ensures.dscb
    ∙ ap (λ (es : List (List ℕ)). space_of es (cond t (address_in v1 next) (replicate 5 0))) here
    ∙ ap (λ (a : List ℕ). space_of (get_or entries number []) (cond t a (replicate 5 0))) address in
    let opens : is_open d ≡ true = ap is_open c.link_at-link.ensures.dscb in
    let name0 : List ℕ = (unit_of f0.units v0.unit).name in
    let same : (unit_of f1.units v1.unit).name ≡ name0 = ap (λ (us : List Attached). (unit_of us v1.unit).name) inv.faults.units ∙ ap (λ (v : Vol). (unit_of f0.units v.unit).name) inv.others in
    let image : List ℕ = image_in m1 f1 v1.unit in
    let unit : v2.unit ≡ v1.unit = ap (λ (v : Vol). v.unit) done.others in
    record {
      others = done.others ∙ ap (λ (x : Vol). record x { slots = v2.slots; buf = v2.buf }) inv.others;
      unit = c.put_slot.ensures.unit;
      inside = omega (arith, c.link_at-link.ensures.inside, ap length done.items, length-set ds slot d);
      some = chosen_above ds slot next t c.link_at-link.ensures.next inv.some;
      count = inv.count;
      chain = ap (λ (l : List Dscb). chained at l next (drop (number + 1) entries)) done.items ∙ chain_step at ds slot number next entries d t low test c.link_at-link.ensures.next is ∙ inv.chain;
      faults = device_then inv.faults c.in_ok-put_slot.ensures.faults;
      index = λ told. subst (λ (u : ℕ). IsIndexOf (image_in mn fn u) v2) (sym unit) (c.in_ok-put_slot.ensures.files told).done.1;
      opened = subst (λ (l : List Dscb). IsOpenAt l next) (sym done.items) (opened_set ds slot next d inv.inside opens (chosen_opened ds slot next t c.link_at-link.ensures.next inv.opened));
      files = λ told.
          let there = image_there m1.state f1.units v1.unit (g.met.H.Hall.whole c.loop-number.hall told) inv.unit.attached in
          let there0 = subst (λ (n : List ℕ). file_of m1.state n ≡ Some image) same there in
          let after = subst (λ (n : List ℕ). AfterPut {T = Unit {0}} {E = Device} n v1 slot d v2 image (image_in mn fn v1.unit) m1 mn (Ok c.in_ok-put_slot.field-0)) same (c.in_ok-put_slot.ensures.files told) in
          let kept = told_step name0 v0 v1 v2 slot d image (image_in mn fn v1.unit) (inv.files told) inv.others after (g.met.H.Hall.leaves_state c.loop-number.hall) there0 (inv.index told) inv.some inv.opened opens in
          told_done name0 v0 tt kept;
    }

-- src/chain.rt:29:1
pub returns-clause-chain : goal.returns-clause-chain
returns-clause-chain g c =
    let v0 = c.args.vol.now in
    let inv = c.loop-number.invariant in
    let heads : ℕ = heads_of v0.geometry in
    let entries : List (List (List ℕ)) = entries_of heads v0.free.items in
    let many : length entries ≡ c.dscbs_for-count.result = entries_many heads v0.free.items ∙ sym inv.count in
    let none : drop c.loop-number.number entries ≡ [] = drop_all c.loop-number.number entries (omega (arith, many, c.loop-number-test.false)) in
    ap (chained (address_in v0) c.loop-number.vol.slots.items c.loop-number.slot) (sym none) ∙ inv.chain
