use Rattle.std.proofs.Common.{◌≡◌}
use Rattle.tune_pages.proofs.CacheLemmas.{ReplacesFirst}
use Rattle.tune_pages.proofs.cached.replace_all_in.Given as goal

abbrev pub invariant-loop-place : goal.invariant-loop-place
invariant-loop-place l = record {
  only : ReplacesFirst l.changes l.place l.initial.cache.entries l.cache.entries;
  cap : l.cache.cap ≡ l.initial.cache.cap;
}
