use Rattle.std.proofs.Common.{None, false, refl, string_bytes}
use Rattle.std.specs.Vec.Iter.{into_iter_items}
use Rattle.tune_desk.specs.Results.{result_places}
use Rattle.tune_desk.proofs.SpareLemmas.{spares_none, spares_both}
use Rattle.desk_books.specs.AddedBooks.{reached_by}
use Rattle.desk_books.proofs.AddLemmas.{continues_first, continues_next, continues_stop}
use Rattle.desk_books.proofs.taken_books.take_parts.Goals as goal

pub loop-part-init : goal.loop-part-init
loop-part-init g c = record {
  files = spares_none (result_places (string_bytes c.args.request.now.file.now) None false) (g.K.Desk.deeds c.args.desk.now);
  takes = continues_first g.S.TuneStore (string_bytes c.args.request.now.file.now) c.args.choice.parts.items
      (reached_by (g.K.Desk.deeds c.args.desk.now) c.args.intake.now) (into_iter_items c.into_iter-rest.result) c.into_iter-rest.ensures.rest;
}

pub loop-part-preserved : goal.loop-part-preserved
loop-part-preserved g c =
    let file = string_bytes c.args.request.now.file.now in
    let start = reached_by (g.K.Desk.deeds c.args.desk.now) c.args.intake.now in
    let here = reached_by (g.K.Desk.deeds c.loop-part.desk) c.loop-part.intake in
    let mid = reached_by (g.K.Desk.deeds c.take_part.new.desk) c.take_part.new.intake in
    record {
      files = spares_both (result_places file None false) (g.K.Desk.deeds c.args.desk.now) (g.K.Desk.deeds c.loop-part.desk)
          (g.K.Desk.deeds c.take_part.new.desk) c.loop-part.invariant.files c.take_part.ensures.files;
      takes = continues_next g.S.TuneStore file c.args.choice.parts.items start (into_iter_items c.loop-part.rest) (into_iter_items c.next.new.self)
          c.in-Some.part here mid 0 c.in-Some.ensures.items refl c.loop-part.invariant.takes c.in-Ok.ensures.takes;
    }

pub returns-in-Err-clause-files : goal.returns-in-Err-clause-files
returns-in-Err-clause-files g c =
    spares_both (result_places (string_bytes c.args.request.now.file.now) None false) (g.K.Desk.deeds c.args.desk.now) (g.K.Desk.deeds c.loop-part.desk)
    (g.K.Desk.deeds c.take_part.new.desk) c.loop-part.invariant.files c.take_part.ensures.files

pub returns-in-Err-clause-takes : goal.returns-in-Err-clause-takes
returns-in-Err-clause-takes g c =
    let file = string_bytes c.args.request.now.file.now in
    let start = reached_by (g.K.Desk.deeds c.args.desk.now) c.args.intake.now in
    let here = reached_by (g.K.Desk.deeds c.loop-part.desk) c.loop-part.intake in
    let new = reached_by (g.K.Desk.deeds c.take_part.new.desk) c.take_part.new.intake in
    let refused = c.say_untaken.ensures in
    continues_stop g.S.TuneStore file c.args.choice.parts.items start (into_iter_items c.loop-part.rest) (into_iter_items c.next.new.self)
    c.in-Some.part here new c.say_untaken.result c.in-Some.ensures.items refused c.loop-part.invariant.takes
    (c.in-Err.ensures.takes c.say_untaken.result refused)
