use Rattle.std.proofs.Common.{◌<◌, arith}
use Rattle.std.proofs.lemmas.Iterator.{YieldsList-from_chars}
use Rattle.std.proofs.lemmas.Iterator.Consumers.{YieldsList-turn, YieldsList-end}
use Rattle.std.proofs.lemmas.List.{length_push}
use Rattle.std.specs.Str.{chars}
use Rattle.ebcdic_names.proofs.EncodeLemmas.{one_byte, all_bytes}
use Rattle.ebcdic_names.proofs.names.encode.Goals as goal

pub bounds-bytes-at : goal.bounds-bytes-at
bounds-bytes-at g c =
    let t = YieldsList-turn (YieldsList-from_chars c.args.text.now c.utf8.text cc) c.loop-c.yielded _ c.loop-c.yielded_by _ _ c.in-Some.c c.in-Some.is c.next.ensures.steps in
    omega (arith, t.0, c.requires, c.loop-c.invariant.0)

pub loop-c-preserved : goal.loop-c-preserved
loop-c-preserved g c =
    let t = YieldsList-turn (YieldsList-from_chars c.args.text.now c.utf8.text cc) c.loop-c.yielded _ c.loop-c.yielded_by _ _ c.in-Some.c c.in-Some.is c.next.ensures.steps in
    let n = length_push c.loop-c.yielded c.in-Some.c in
    let room : c.loop-c.at < g.row.N = omega (arith, t.0, c.requires, c.loop-c.invariant.0) in (
      omega (arith, n, c.loop-c.invariant.0),
      one_byte c.loop-c.yielded c.in-Some.c g.row.N c.loop-c.at c.byte_of.result c.loop-c.bytes c.loop-c.invariant.0 room c.byte_of.ensures c.loop-c.invariant.1,
    )

pub returns : goal.returns
returns g c =
    let t = YieldsList-end (YieldsList-from_chars c.args.text.now c.utf8.text cc) c.loop-c.yielded _ c.loop-c.yielded_by _ _ c.in-None.is c.next.ensures.steps in
    all_bytes c.loop-c.yielded (chars c.args.text.now) g.row.N c.loop-c.at c.loop-c.bytes c.loop-c.invariant.0 t.0 c.loop-c.invariant.1
