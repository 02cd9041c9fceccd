use Rattle.std.proofs.Common.{◌≡◌, List, ℕ, Ok, length, sym, ap, ◌∙◌, arith}
use Rattle.std.specs.Prelude.{count_by}
use Rattle.dscb_codec.specs.declared.Dscb.{Dscb}
use Rattle.pack_spec.specs.FreeChain.{dscbs_for, entries_of}
use Rattle.pack_spec.specs.Label.{heads_of}
use Rattle.pack_spec.specs.Settled.{is_f5}
use Rattle.free_rebuild.specs.Settled.{slots_held}
use Rattle.free_rebuild.proofs.HeldLemmas.{extra_counted, held_count}
use Rattle.free_rebuild.proofs.WriteLemmas.{entries_many}
use Rattle.free_rebuild.proofs.settled.has_no_extra.Goals as goal

pub returns-then-are_kept : goal.returns-then-are_kept
returns-then-are_kept c =
    let v = c.args.vol.now in
    let heads : ℕ = heads_of v.geometry in
    let ess : List (List (List ℕ)) = entries_of heads v.free.items in
    let runs : c.len.result ≡ length v.free.items = omega (arith, c.len.ensures) in
    let count = c.chain_count.ensures ∙ ap (count_by (λ (d : Dscb). is_f5 (Ok d))) c.deref.ensures.value ∙ sym (held_count is_f5 v) in
    let many = c.dscbs_for.ensures ∙ ap dscbs_for runs ∙ sym (entries_many heads v.free.items) in
    extra_counted (slots_held v) ess c.chain_count.result c.dscbs_for.result (sym c.are_kept.ensures ∙ c.if-are_kept.true) count many
