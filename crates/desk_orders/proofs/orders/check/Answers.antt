use Rattle.std.proofs.Common.{string_bytes}
use Rattle.desk_orders.proofs.OrderLemmas.{checks}
use Rattle.desk_orders.proofs.orders.check.Goals as goal

pub returns-in-Ok : goal.returns-in-Ok
returns-in-Ok g c = checks g.D.Disk (string_bytes c.args.file.now) c.in-Ok.counts _ c.in-Ok.ensures c.print_counts.ensures
