use Rattle.std.proofs.Common.{◌≡◌, ◌+◌, length, drop}
use Rattle.pack_spec.specs.FreeChain.{dscbs_for, entries_of}
use Rattle.pack_spec.specs.Label.{heads_of}
use Rattle.free_rebuild.specs.Settled.{is_chain, slots_held}
use Rattle.free_rebuild.proofs.settled.lists_free.Given as goal

abbrev pub invariant-loop-number : goal.invariant-loop-number
invariant-loop-number l =
    let slots = slots_held l.fn.vol in
    let entries = entries_of (heads_of l.fn.vol.geometry) l.fn.vol.free.items in record {
      last : l.last + 1 ≡ dscbs_for (length l.fn.vol.free.items);
      chain : is_chain slots l.slot (drop l.number entries) ≡ is_chain slots 1 entries;
    }
