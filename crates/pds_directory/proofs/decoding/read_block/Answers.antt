use Rattle.std.proofs.Common.{ℕ, List, Some, None, sym, ap, ◌∙◌, arith}
use Rattle.std.specs.Option.{option_map}
use Rattle.chain_spec.specs.Store.{Block as Stored}
use Rattle.vol_model.specs.declared.contents.Entry.{Entry}
use Rattle.pack_spec.specs.Directories.{rise_from}
use Rattle.pds_directory.specs.Entries.{stored_of}
use Rattle.pds_directory.proofs.ReadBlocks.{AreUsed, UsedHold, broken_block, falling_block, high_count, low_count, of_block, rising_block}
use Rattle.pds_directory.proofs.decoding.read_block.Goals as goal
use Rattle.pds_directory.proofs.decoding.read_block.Goals.{then-used-lt-COUNT_LEN-via-then-used-lt-COUNT_LEN, then-used-lt-COUNT_LEN-via-else-used-lt-COUNT_LEN+then-used-bytes}

pub returns-then-used-lt-COUNT_LEN-clause-block : goal.returns-then-used-lt-COUNT_LEN-clause-block
returns-then-used-lt-COUNT_LEN-clause-block c =
    let bytes : List ℕ = c.args.bytes.now in
    let used : ℕ = c.from-used.result in
    let counted : AreUsed used bytes = record { long = c.requires; below = λ i. omega (arith, c.type_inv.bytes i); count = c.from-used.ensures ∙ c.from_be_bytes.ensures } in
    elim c.then-used-lt-COUNT_LEN.branch [
      | then-used-lt-COUNT_LEN-via-then-used-lt-COUNT_LEN w ↦ sym (low_count used bytes counted (omega arith))
      | then-used-lt-COUNT_LEN-via-else-used-lt-COUNT_LEN+then-used-bytes w ↦ sym (high_count used bytes counted (omega arith))
    ]

pub returns-in_default-clause-block : goal.returns-in_default-clause-block
returns-in_default-clause-block c =
    let bytes : List ℕ = c.args.bytes.now in
    let used : ℕ = c.from-used.result in
    let counted : AreUsed used bytes = record { long = c.requires; below = λ i. omega (arith, c.type_inv.bytes i); count = c.from-used.ensures ∙ c.from_be_bytes.ensures } in
    let hold : UsedHold used bytes None = record { counted = counted; low = omega arith; high = omega arith; hold = sym (ap (option_map stored_of) c.in_default.is) ∙ c.in_ok-block.ensures } in
    sym (broken_block used bytes hold)

pub returns-then-not-rise-clause-block : goal.returns-then-not-rise-clause-block
returns-then-not-rise-clause-block c =
    let bytes : List ℕ = c.args.bytes.now in
    let used : ℕ = c.from-used.result in
    let b : Stored Entry = stored_of c.in-Some.block in
    let counted : AreUsed used bytes = record { long = c.requires; below = λ i. omega (arith, c.type_inv.bytes i); count = c.from-used.ensures ∙ c.from_be_bytes.ensures } in
    let hold : UsedHold used bytes (Some b) = record { counted = counted; low = omega arith; high = omega arith; hold = sym (ap (option_map stored_of) c.in-Some.is) ∙ c.in_ok-block.ensures } in
    sym (falling_block used bytes b hold (sym (ap (rise_from 0) c.deref.ensures.value) ∙ sym c.rise.ensures ∙ c.if-not-rise.true))

pub returns-clause-block : goal.returns-clause-block
returns-clause-block c =
    let bytes : List ℕ = c.args.bytes.now in
    let used : ℕ = c.from-used.result in
    let b : Stored Entry = stored_of c.in-Some.block in
    let counted : AreUsed used bytes = record { long = c.requires; below = λ i. omega (arith, c.type_inv.bytes i); count = c.from-used.ensures ∙ c.from_be_bytes.ensures } in
    let hold : UsedHold used bytes (Some b) = record { counted = counted; low = omega arith; high = omega arith; hold = sym (ap (option_map stored_of) c.in-Some.is) ∙ c.in_ok-block.ensures } in
    sym (rising_block used bytes b hold (sym (ap (rise_from 0) c.deref.ensures.value) ∙ sym c.rise.ensures ∙ c.if-not-rise.false))

pub returns-clause-entries : goal.returns-clause-entries
returns-clause-entries c =
    let bytes : List ℕ = c.args.bytes.now in
    let used : ℕ = c.from-used.result in
    let b : Stored Entry = stored_of c.in-Some.block in
    let counted : AreUsed used bytes = record { long = c.requires; below = λ i. omega (arith, c.type_inv.bytes i); count = c.from-used.ensures ∙ c.from_be_bytes.ensures } in
    of_block used bytes b (record { counted = counted; low = omega arith; high = omega arith; hold = sym (ap (option_map stored_of) c.in-Some.is) ∙ c.in_ok-block.ensures })
