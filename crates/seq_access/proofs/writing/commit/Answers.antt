use Rattle.seq_access.proofs.writing.commit.Goals as goal

pub returns-clause-files : goal.returns-clause-files
returns-clause-files g c told put = c.commit_put.ensures.files told
