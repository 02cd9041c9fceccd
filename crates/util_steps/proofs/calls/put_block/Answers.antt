use Rattle.util_steps.proofs.calls.put_block.Goals as goal

pub returns-clause-works : goal.returns-clause-works
returns-clause-works g c told = c.put_bytes.ensures.works told c.args.buf.now c.key.ensures c.payload.ensures
