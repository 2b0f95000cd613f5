use Rattle.std.proofs.Common.{◌≡◌, false, take}
use Rattle.tune_asking.proofs.CallLemmas.{Goes}
use Rattle.desk_books.specs.KnownSums.{KnowsTextsAt}
use Rattle.desk_books.proofs.asked_texts.put_texts.Given as goal

-- the texts of the first numbers are known
abbrev pub invariant-loop-number : goal.invariant-loop-number
invariant-loop-number g l = record {
  goes : Goes g.S.TuneStore l.fn.store l.store;
  knows : g.S.TuneStore.closed l.fn.store ≡ false → g.S.TuneStore.honest l.store
      → KnowsTextsAt (take l.number-index l.numbers) l.fn.known (g.S.TuneStore.state l.fn.store) l.known;
}
