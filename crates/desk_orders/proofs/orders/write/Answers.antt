use Rattle.std.proofs.Common.{inl, subst, string_bytes}
use Rattle.tune_scripts.specs.Streams.{streams_in}
use Rattle.desk_orders.specs.Orders.{Delivers}
use Rattle.desk_orders.proofs.orders.write.Goals as goal

pub returns-in-Ok : goal.returns-in-Ok
returns-in-Ok g c = inl (
  c.in-Ok.bytes,
  g.K.Desk.deeds c.ask_question.new.desk,
  c.in-Ok.ensures,
  subst (λ bytes. Delivers (string_bytes c.args.file.now) c.args.target.now bytes (record {
    streams = streams_in g.C.Console c.args.standard.now.console c.deliver.new.standard.console;
    was = g.K.Desk.deeds c.ask_question.new.desk;
    now = g.K.Desk.deeds c.deliver.new.desk;
    status = c.deliver.result;
  })) c.as_slice.ensures c.deliver.ensures,
)
