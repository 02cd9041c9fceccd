use Rattle.dscb_codec.specs.Layout.{f1_of}
use Rattle.dscb_codec.proofs.decoding.f1_of.Goals as goal

pub returns : goal.returns
unfolding f1_of
returns c =
    λ i. record {
      name = c.array_at.ensures i;
      serial = c.array_at-2.ensures i;
      volseq = c.halfword_at.ensures i;
      created = c.array_at-3.ensures i;
      expires = c.array_at-4.ensures i;
      extents = c.byte_at.ensures i;
      dir_used = c.byte_at-2.ensures i;
      res61 = c.array_at-5.ensures i;
      system = c.array_at-6.ensures i;
      res75 = c.array_at-7.ensures i;
      dsorg = c.halfword_at-2.ensures i;
      recfm = c.byte_at-3.ensures i;
      optcd = c.byte_at-4.ensures i;
      blksize = c.halfword_at-3.ensures i;
      lrecl = c.halfword_at-4.ensures i;
      keylen = c.byte_at-5.ensures i;
      rkp = c.halfword_at-5.ensures i;
      indicators = c.byte_at-6.ensures i;
      scalo = c.word_at.ensures i;
      lstar = c.array_at-8.ensures i;
      balance = c.halfword_at-6.ensures i;
      res103 = c.array_at-9.ensures i;
      runs = c.rows_at.ensures i;
      pointer = c.array_at-10.ensures i;
    }
