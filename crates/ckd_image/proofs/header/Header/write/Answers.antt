-- The fields are written after one another, and read back.
use Rattle.std.proofs.Common.{◌≡◌, Ok, sym, subst, ◌∙◌}
use Rattle.ckd_image.specs.Header.{geometry_of}
use Rattle.ckd_image.proofs.WrittenHeaders.{written_bytes, written_read}
use Rattle.ckd_image.proofs.header.Header.write.Goals as goal

pub returns : goal.returns
returns c =
    let bytes = written_bytes c.args.geometry.now c.copy_from_slice.new.self c.copy_from_slice-2.new.self c.copy_from_slice-3.new.self c.from.result c.type_byte.result
    c.copy_from_slice.ensures.after (c.copy_from_slice-2.ensures.after ∙ c.four_bytes_of-heads.ensures) (c.from.ensures ∙ c.heads.ensures) (c.copy_from_slice-3.ensures.after ∙ c.four_bytes_of-track_size.ensures) c.type_byte.ensures in
    record {
      bytes = bytes;
      read_back = λ len has. subst (λ xs. geometry_of xs len ≡ Ok c.args.geometry.now) (sym bytes) (written_read c.args.geometry.now len has);
    }
