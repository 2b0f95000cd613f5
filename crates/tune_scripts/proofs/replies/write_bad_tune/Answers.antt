use Rattle.tune_scripts.proofs.replies.write_bad_tune.Goals as goal

pub returns-in-NoKey-clause-bytes : goal.returns-in-NoKey-clause-bytes
returns-in-NoKey-clause-bytes g c = rw c.in-NoKey.is c.write_between.ensures.bytes

pub returns-in-TooLong-clause-bytes : goal.returns-in-TooLong-clause-bytes
returns-in-TooLong-clause-bytes g c = rw c.in-TooLong.is c.write_between-in-TooLong.ensures.bytes
