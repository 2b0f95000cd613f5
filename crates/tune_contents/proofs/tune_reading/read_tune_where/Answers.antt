use Rattle.std.proofs.Common.{◌≡◌, ℕ, List, ◌∙◌, sym, subst}
use Rattle.tune_contents.specs.Texts.{IsTextOf}
use Rattle.tune_contents.proofs.tune_reading.read_tune_where.Goals as goal

pub returns-in-Ok-Some-clause-text : goal.returns-in-Ok-Some-clause-text
returns-in-Ok-Some-clause-text g c = λ h revision other holds.
    (let bytes : c.deref.result.now ≡ holds.bytes =
    c.deref.ensures.value ∙ c.in_ok-bytes.ensures.bytes h holds.trail holds.bytes holds.has in
    (rw c.in-Ok-Some.field-0-is at c.in-Ok-Some.ensures.text) revision other
    (subst (λ (l : List ℕ). IsTextOf c.args.layout l revision other) (sym bytes) holds.is))

pub close-requires : goal.close-requires
close-requires g c = λ h.
    (let there = c.requires.there (c.in_ok-bytes.ensures.consults.looks.was_honest h) in
    let holds = there.2 in
    let bytes : c.deref.result.now ≡ holds.bytes =
    c.deref.ensures.value ∙ c.in_ok-bytes.ensures.bytes h holds.trail holds.bytes holds.has in
    (rw c.in-Ok-None.field-0-is at c.in-Ok-None.ensures.none) there.0 there.1
    (subst (λ (l : List ℕ). IsTextOf c.args.layout l there.0 there.1) (sym bytes) holds.is))
