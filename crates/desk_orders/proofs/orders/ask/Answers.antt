use Rattle.std.proofs.Common.{inl}
use Rattle.desk_orders.proofs.orders.ask.Goals as goal

pub returns-in-Ok : goal.returns-in-Ok
returns-in-Ok g c = inl (g.K.Desk.deeds c.bring_to_rest.new.desk, c.in-Ok.ensures, c.run_script.ensures)
