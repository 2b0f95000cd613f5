use Rattle.std.proofs.Common.{◌≡◌, ◌<◌, [], ◌++◌, length, refl, ap, sym, ◌∙◌, arith, append-nil, length-append}
use Rattle.std.specs.Prelude.{decimal}
use Rattle.std.proofs.lemmas.Bool.Decides.{nat_tests}
use Rattle.std.proofs.lemmas.List.{nil_from_length}
use Rattle.tune_undo.specs.EntryBytes.{numbers_bytes}
use Rattle.tune_undo.specs.Inside.EntryLines.{word_before_space}
use Rattle.tune_undo.proofs.PartLaws.{numbers_end, next_takes, numbers_more, are-append, numbers_stop}
use Rattle.tune_undo.proofs.parts.numbers.Goals as goal

pub loop-rest-init : goal.loop-rest-init
loop-rest-init c = rw c.new-numbers.ensures.items record { same = refl; narrow = tt; ends = λ numbers e. ap word_before_space (sym e) ∙ numbers_end numbers }

pub loop-rest-preserved : goal.loop-rest-preserved
loop-rest-preserved c =
    let n = c.in-Some.number in
    let later = c.in-Some.later.now in
    let read = next_takes c.loop-rest.rest.now (n, later) c.in-Some.ensures in
    rw c.in_ok-push.ensures.items record {
      same = numbers_more c.loop-rest.numbers.items n c.loop-rest.rest.now later c.args.bytes.now c.loop-rest.invariant.same read.whole;
      narrow = are-append c.loop-rest.numbers.items n c.loop-rest.invariant.narrow read.small;
      ends = λ numbers e. read.ends;
    }

pub loop-rest-smaller : goal.loop-rest-smaller
loop-rest-smaller c =
    let n = c.in-Some.number in
    let later = c.in-Some.later.now in
    let read = next_takes c.loop-rest.rest.now (n, later) c.in-Some.ensures in
    omega (arith, ap length read.whole, length-append (decimal n) later)

pub returns-in_default-clause-none : goal.returns-in_default-clause-none
returns-in_default-clause-none c =
    let some : 0 < length c.loop-rest.rest.now = grind (arith, nat_tests) in
    λ numbers are e. numbers_stop c.loop-rest.numbers.items c.loop-rest.rest.now numbers c.args.bytes.now c.loop-rest.invariant.narrow
    (c.loop-rest.invariant.ends numbers e) c.loop-rest.invariant.same some c.in_default.ensures are e

pub returns-clause-found : goal.returns-clause-found
returns-clause-found c =
    let none : c.loop-rest.rest.now ≡ [] = nil_from_length _ (grind (arith, nat_tests)) in
    sym (append-nil (numbers_bytes c.loop-rest.numbers.items)) ∙ ap (λ t. numbers_bytes c.loop-rest.numbers.items ++ t) (sym none) ∙ c.loop-rest.invariant.same
