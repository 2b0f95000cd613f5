use Rattle.std.proofs.Common.{None, false, string_bytes}
use Rattle.std.specs.Vec.Iter.{into_iter_items, into_iter_len}
use Rattle.tune_desk.specs.Results.{SparesFiles, result_places}
use Rattle.desk_books.specs.AddedBooks.{reached_by}
use Rattle.desk_books.proofs.AddLemmas.{Continues}
use Rattle.desk_books.proofs.taken_books.take_parts.Given as goal

-- where the parts that are left are taken in, all were
abbrev pub invariant-loop-part : goal.invariant-loop-part
invariant-loop-part g l = record {
  files : SparesFiles (result_places (string_bytes l.request.file.now) None false) (g.K.Desk.deeds l.fn.desk) (g.K.Desk.deeds l.desk);
  takes : Continues g.S.TuneStore (string_bytes l.request.file.now) l.fn.choice.parts.items (reached_by (g.K.Desk.deeds l.fn.desk) l.fn.intake)
      (into_iter_items l.rest) (reached_by (g.K.Desk.deeds l.desk) l.intake);
}

abbrev pub decreases-loop-part : goal.decreases-loop-part
decreases-loop-part g l = into_iter_len l.rest
