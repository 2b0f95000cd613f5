use Rattle.std.proofs.Common.{sym, ◌∙◌, ap, length, arith}
use Rattle.std.proofs.lemmas.Option.{none-some}
use Rattle.tune_undo.proofs.PartLaws.{parts_same}
use Rattle.tune_undo.proofs.ItemLaws.{entry_again, entry_front, entry_whole}
use Rattle.tune_undo.proofs.old_items.entry.Goals as goal

pub returns-in_default-clause-none : goal.returns-in_default-clause-none
returns-in_default-clause-none c = λ e rest is same.
    none-some _ (sym c.in_default.ensures ∙ entry_again e rest c.args.bytes.now is same)

pub returns-then-rest-len-clause-none : goal.returns-then-rest-len-clause-none
returns-then-rest-len-clause-none c = λ e rest is same.
    let front = entry_front e rest c.args.bytes.now c.in-Some.line c.in-Some.rest.now is same c.in-Some.ensures in
    let fits = front.fits in
    omega arith

pub returns-in_default-2-clause-none : goal.returns-in_default-2-clause-none
returns-in_default-2-clause-none c = λ e rest is same.
    let front = entry_front e rest c.args.bytes.now c.in-Some.line c.in-Some.rest.now is same c.in-Some.ensures in
    let none = rw c.in_default-2.is at c.in_ok-parts.ensures.none in
    none e.parts is.parts (front.parts ∙ sym c.split_at.ensures.front)

pub returns-then-as_slice-count-clause-found : goal.returns-then-as_slice-count-clause-found
returns-then-as_slice-count-clause-found c =
    let are = rw c.in-Some-2.is at c.in_ok-parts.ensures.parts in
    let same = rw c.in-Some-2.is at c.in_ok-parts.ensures.found in
    entry_whole c.args.bytes.now c.in-Some.line c.in-Some.rest.now c.split_at.result.0.now c.split_at.result.1.now c.in-Some-2.parts.items
    c.in-Some.ensures c.split_at.ensures.by_index.0 c.split_at.ensures.front_len are same
    (sym (ap length c.as_slice.ensures.value) ∙ c.if-as_slice-count.true)

pub returns-else-as_slice-count-clause-none : goal.returns-else-as_slice-count-clause-none
returns-else-as_slice-count-clause-none c = λ e rest is same.
    let front = entry_front e rest c.args.bytes.now c.in-Some.line c.in-Some.rest.now is same c.in-Some.ensures in
    let are = rw c.in-Some-2.is at c.in_ok-parts.ensures.parts in
    let found = rw c.in-Some-2.is at c.in_ok-parts.ensures.found in
    let parts = parts_same e.parts c.in-Some-2.parts.items is.parts are (front.parts ∙ sym c.split_at.ensures.front ∙ sym found) in
    c.if-as_slice-count.false (ap length (c.as_slice.ensures.value ∙ sym parts) ∙ front.count)
