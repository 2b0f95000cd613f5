use Rattle.desk_copies.proofs.put_aside.put_aside.Goals as goal

pub loop-number-preserved : goal.loop-number-preserved
loop-number-preserved g c = λ file was h. c.in-Err-Taken.ensures file was (c.loop-number.invariant file was h)

pub returns-in-Err : goal.returns-in-Err
returns-in-Err g c = λ file was h. c.in-Err.ensures file was (c.loop-number.invariant file was h)

pub returns-in-Ok : goal.returns-in-Ok
returns-in-Ok g c = λ file was h. c.in-Ok.ensures file was (c.loop-number.invariant file was h)

pub returns : goal.returns
returns g c = λ file was h. c.loop-number.invariant file was h
