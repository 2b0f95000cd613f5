use Rattle.tune_scripts.proofs.replies.write_refusal.Goals as goal

pub returns-in-NotOne-clause-bytes : goal.returns-in-NotOne-clause-bytes
returns-in-NotOne-clause-bytes g c = rw c.in-NotOne.is c.write_number.ensures.bytes

pub returns-in-Unknown-clause-bytes : goal.returns-in-Unknown-clause-bytes
returns-in-Unknown-clause-bytes g c = rw c.in-Unknown.is c.write_number-in-Unknown.ensures.bytes

pub returns-in-ArchiveFull-clause-bytes : goal.returns-in-ArchiveFull-clause-bytes
returns-in-ArchiveFull-clause-bytes g c = rw c.in-ArchiveFull.is c.write-in-ArchiveFull.ensures.bytes

pub returns-in-NumbersSpent-clause-bytes : goal.returns-in-NumbersSpent-clause-bytes
returns-in-NumbersSpent-clause-bytes g c = rw c.in-NumbersSpent.is c.write-in-NumbersSpent.ensures.bytes

pub returns-in-BookTooLong-clause-bytes : goal.returns-in-BookTooLong-clause-bytes
returns-in-BookTooLong-clause-bytes g c = rw c.in-BookTooLong.is c.write-in-BookTooLong.ensures.bytes

pub returns-in-OutOfMemory-clause-bytes : goal.returns-in-OutOfMemory-clause-bytes
returns-in-OutOfMemory-clause-bytes g c = rw c.in-OutOfMemory.is c.write-in-OutOfMemory.ensures.bytes

pub returns-in-Device-clause-bytes : goal.returns-in-Device-clause-bytes
returns-in-Device-clause-bytes g c = rw c.in-Device.is c.write-in-Device.ensures.bytes

pub returns-in-Closed-clause-bytes : goal.returns-in-Closed-clause-bytes
returns-in-Closed-clause-bytes g c = rw c.in-Closed.is c.write-in-Closed.ensures.bytes

pub returns-in-Stale-clause-bytes : goal.returns-in-Stale-clause-bytes
returns-in-Stale-clause-bytes g c = rw c.in-Stale.is c.write_number-in-Stale.ensures.bytes

pub returns-in-Worn-clause-bytes : goal.returns-in-Worn-clause-bytes
returns-in-Worn-clause-bytes g c = rw c.in-Worn.is c.write-in-Worn.ensures.bytes

pub returns-in-Taken-clause-bytes : goal.returns-in-Taken-clause-bytes
returns-in-Taken-clause-bytes g c = rw c.in-Taken.is c.write_number-in-Taken.ensures.bytes

pub returns-in-InSet-clause-bytes : goal.returns-in-InSet-clause-bytes
returns-in-InSet-clause-bytes g c = rw c.in-InSet.is c.write_name.ensures.bytes
