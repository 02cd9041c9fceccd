-- The records that a `SkippedGroups` leaves.
use Rattle.std.specs.Prelude.{ℕ, List}
use Rattle.iebgener_util.specs.declared.skipped_groups.SkippedGroups.{SkippedGroups}
use Rattle.iebgener_util.specs.Editing.{behind_groups, behind_orders}
use Rattle.record_files.specs.Streams.{Stream}

-- the records after what is still to be passed over
unfoldable pub left_by : SkippedGroups → List (List ℕ) → List (List ℕ)
left_by p recs = behind_orders p.orders.now (behind_groups p.groups.now recs)

-- what is left of a stream; a fault stays to be met
abbrev pub left_of : SkippedGroups → Stream → Stream
left_of p st = record { records = left_by p st.records; broken = st.broken }
