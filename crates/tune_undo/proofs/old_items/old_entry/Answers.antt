use Rattle.std.proofs.Common.{◌≡◌, ◌++◌, ◌∷◌, [], List, ap, sym, subst, ◌∙◌}
use Rattle.std.specs.Prelude.{Some}
use Rattle.std.proofs.lemmas.Option.{none-some, same_Some}
use Rattle.tune_undo.specs.EntryBytes.{book_tune}
use Rattle.tune_undo.specs.Inside.EntryLines.{after_old_of, text_len_of}
use Rattle.tune_undo.specs.Inside.Found.{OldRead}
use Rattle.tune_undo.specs.declared.old_entries.Part.{Part}
use Rattle.tune_undo.specs.declared.old_entries.Part.TheVariants.{Tune}
use Rattle.tune_undo.proofs.ItemLaws.{old_again, old_front, old_after, old_text_len, old_whole}
use Rattle.tune_undo.proofs.old_items.old_entry.Goals as goal

pub returns-in_default-clause-none : goal.returns-in_default-clause-none
returns-in_default-clause-none c = λ old rest is same.
    none-some _ (sym c.in_default.ensures ∙ old_again old rest c.args.bytes.now is same)

pub returns-in_default-after_old-clause-none : goal.returns-in_default-after_old-clause-none
returns-in_default-after_old-clause-none c = λ old rest is same.
    let front = old_front old rest c.args.bytes.now c.in-Some.line c.in-Some.rest.now is same c.in-Some.ensures in
    none-some _ (c.in_default-after_old.ensures ∙ (λ i. after_old_of (front.kind i) (front.revision i)) ∙ old_after old is)

pub returns-in_default-text_len-clause-none : goal.returns-in_default-text_len-clause-none
returns-in_default-text_len-clause-none c = λ old rest is same.
    let front = old_front old rest c.args.bytes.now c.in-Some.line c.in-Some.rest.now is same c.in-Some.ensures in
    none-some _ (c.in_default-text_len.ensures ∙ ap (λ n. text_len_of n c.in-Some.rest.now) front.len
    ∙ old_text_len old.number old.text rest c.in-Some.rest.now is.number front.whole)

pub returns-in_default-2-clause-none : goal.returns-in_default-2-clause-none
returns-in_default-2-clause-none c = λ old rest is same.
    let front = old_front old rest c.args.bytes.now c.in-Some.line c.in-Some.rest.now is same c.in-Some.ensures in
    let len = same_Some _ _ (c.in-Some-text_len.ensures ∙ ap (λ n. text_len_of n c.in-Some.rest.now) front.len
    ∙ old_text_len old.number old.text rest c.in-Some.rest.now is.number front.whole) in
    let none = rw c.in_default-2.is at c.in_ok-found.ensures.none in
    none old.text rest is.text (sym len) (ap (λ n. book_tune n old.text ++ rest) front.number ∙ front.whole)

pub returns-clause-found : goal.returns-clause-found
returns-clause-found c =
    let line = c.in-Some.line in
    let found = c.in-Some-2.found in
    let good = rw c.in-Some-2.is at c.in_ok-found.ensures.text in
    let size = rw c.in-Some-2.is at c.in_ok-found.ensures.len in
    let whole = rw c.in-Some-2.is at c.in_ok-found.ensures.found in
    let read = old_whole c.args.bytes.now line c.in-Some.rest.now found.0 found.1.now c.in-Some-after_old.is' c.in-Some-text_len.len c.in-Some.ensures
    c.in-Some-after_old.ensures c.in-Some-text_len.ensures good size whole in
    let parts : c.push.new.self.items ≡ Tune line.number (Some found.0) c.in-Some-after_old.is' ∷ [] =
    c.in_ok-push.ensures.items ∙ ap (λ t. t ++ (Tune line.number (Some found.0) c.in-Some-after_old.is' ∷ [])) c.new-parts.ensures.items in
    let P : List Part → Type 0 = λ ps. OldRead c.args.bytes.now (record { kind = line.kind; parts = ps }) in
    subst P (sym parts) read
