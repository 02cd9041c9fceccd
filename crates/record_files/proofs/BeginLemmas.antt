-- What is to come at the beginning: the blocks of all records.
use Rattle.std.proofs.Common.{◌≡◌, List, ◌∙◌, ap, ℕ}
use Rattle.record_blocks.specs.declared.formats.Format.{Format}
use Rattle.record_blocks.specs.Layout.{packing}
use Rattle.record_blocks.specs.Packer.{format_of}
use Rattle.record_blocks.specs.Packing.{longest}
use Rattle.record_files.specs.declared.record_writer.RecordWriter.{RecordWriter}
use Rattle.record_files.specs.RecordWriter.{blocks_to_come, coming}
use Rattle.record_files.specs.Streams.{Stream, fitting}
use Rattle.record_files.specs.Writing.{coming_of, packed}

-- a new writer makes the blocks of the records to come
pub new_coming : (w : RecordWriter) (format : Format) → ((records : List (List ℕ)) → blocks_to_come w records ≡ packing format records) → format_of w.packer ≡ format → (st : Stream) → coming w st ≡ packed format st
unfolding coming packed
new_coming w format blocks same st =
    let fit : Stream = fitting (longest format) st.broken st.records in
    ap (λ (f : Format). let fits = fitting (longest f) st.broken st.records in coming_of (blocks_to_come w fits.records) fits.broken) same
    ∙ ap (λ (l : List (List ℕ)). coming_of l fit.broken) (blocks fit.records)
