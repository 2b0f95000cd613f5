use Rattle.std.proofs.Common.{inl, subst}
use Rattle.tune_scripts.specs.Streams.{streams_in}
use Rattle.desk_scenes.specs.Printing.{Prints}
use Rattle.desk_orders.proofs.orders.tell.Goals as goal

pub returns-in-Ok : goal.returns-in-Ok
returns-in-Ok g c = inl (
  c.in-Ok.bytes,
  c.in-Ok.ensures,
  subst (λ bytes. Prints (streams_in g.C.Console c.args.standard.now.console c.print.new.standard.console) bytes c.print.result)
      c.as_slice-in-Ok.ensures c.print.ensures,
)
