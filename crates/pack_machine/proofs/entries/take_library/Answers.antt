use Rattle.std.proofs.Common.{refl, ap, rules}
use Rattle.hall_core.specs.Images.{image_in}
use Rattle.vol_model.specs.declared.answers.StoreErr.{StoreErr}
use Rattle.std.specs.Prelude.{Err}
use Rattle.seq_access.specs.declared.read_buf.ReadBuf.{ReadBuf}
use Rattle.vtoc_index.proofs.KeptLemmas.{mounted_of}
use Rattle.pack_machine.proofs.ChangedLibraries.{fails_refused, fails_unread, takes_library}
use Rattle.pack_machine.proofs.entries.take_library.Goals as goal

pub returns-in-Err-clause-failed : goal.returns-in-Err-clause-failed
returns-in-Err-clause-failed g c =
    fails_refused g.H.Hall.tells c.args.dsn.now (g.H.Hall.facts c.args.hall.now) (g.H.Hall.meaning c.args.hall.now) c.args.pack.now c.requires.ready c.requires.durable (g.met.H.Hall.counts_now c.args.hall.now) _ refl refl refl (ap (λ (b : ReadBuf). b.reach) c.forget.ensures) c.in-Err.refusal
    (λ told change. let its = c.requires.ready.image told in c.in-Err.ensures.refused _ change (mounted_of _ _ its.kept.kept) its.lists)

pub lend_library-requires-clause-part : goal.lend_library-requires-clause-part
lend_library-requires-clause-part g c told =
    (c.in-Ok.ensures.part (image_in (g.H.Hall.meaning c.args.hall.now) (g.H.Hall.facts c.args.hall.now) c.args.pack.now.vol.unit) (mounted_of _ _ (c.requires.ready.image told).kept.kept) (c.requires.ready.image told).lists).1

pub lend_library-requires-clause-libraries : goal.lend_library-requires-clause-libraries
lend_library-requires-clause-libraries g c told = (c.requires.ready.image told).held.libraries

pub returns-in-Err-lend_library-clause-failed : goal.returns-in-Err-lend_library-clause-failed
returns-in-Err-lend_library-clause-failed g c =
    let took = c.in-Err-lend_library.ensures in
    fails_unread g.H.Hall.tells c.args.dsn.now (g.H.Hall.facts c.args.hall.now) (g.H.Hall.meaning c.args.hall.now) c.args.pack.now c.requires.ready c.requires.durable (g.H.Hall.facts c.lend_library.new.hall) (g.H.Hall.meaning c.lend_library.new.hall) took.same _ took.vol (ap (λ ls. ls.items) took.failed) took.unread (took.reach (ap (λ (b : ReadBuf). b.reach) c.forget.ensures)) c.in-Ok.found.1 c.in-Err-lend_library.error
    (λ why is. took.refused why (ap (λ (e : StoreErr). Err e) is)) took.faults

pub returns-in-Ok-lend_library-clause-taken : goal.returns-in-Ok-lend_library-clause-taken
returns-in-Ok-lend_library-clause-taken g c =
    let took = c.in-Ok-lend_library.ensures in
    takes_library g.H.Hall.tells c.args.dsn.now (g.H.Hall.facts c.args.hall.now) (g.H.Hall.meaning c.args.hall.now) c.args.pack.now c.requires.ready c.requires.durable (g.H.Hall.facts c.lend_library.new.hall) (g.H.Hall.meaning c.lend_library.new.hall) took.same _ took.vol took.unread (took.reach (ap (λ (b : ReadBuf). b.reach) c.forget.ensures)) c.in-Ok.found.1 c.in-Ok.found.0 c.in-Ok.ensures.set
    (λ told. c.in-Ok.ensures.part _ (mounted_of _ _ (c.requires.ready.image told).kept.kept) (c.requires.ready.image told).lists) c.in-Ok-lend_library.library took.library (search rules) took.others took.faults
