use Rattle.std.proofs.Common.{◌≡◌, ℕ, List, ◌++◌, length, drop, sym, ◌∙◌, ap, subst, arith, rules}
use Rattle.std.proofs.lemmas.List.{length-drop, drop_at}
use Rattle.byteorder.specs.Endian.{big_bytes}
use Rattle.tune_journal.specs.ChangeList.{change_at}
use Rattle.tune_journal.specs.Inside.ShortImages.{IsBlankFrom}
use Rattle.tune_journal.proofs.Entries.{tail_of, with_tail}
use Rattle.tune_journal.proofs.commit.fill_entry.Goals as goal

pub fill_next-requires-clause-used : goal.fill_next-requires-clause-used
fill_next-requires-clause-used c =
    let head : List ℕ = c.copy_from_slice.new.self in
    let tail : List ℕ = drop 4 c.args.entry.now in
    let four : length head ≡ 4 = ap length (c.copy_from_slice.ensures.after ∙ c.number_bytes.ensures) in
    let long : length c.args.entry.now ≡ 4100 = search rules in
    let size : length tail ≡ 4096 = omega (arith, long, length-drop 4 c.args.entry.now) in
    subst (IsBlankFrom c.args.used) (sym (tail_of head tail four size)) c.requires.used

pub returns-clause-entry : goal.returns-clause-entry
returns-clause-entry c =
    let head : List ℕ = c.copy_from_slice.new.self in
    let tail : List ℕ = drop 4 c.args.entry.now in
    let its : head ≡ big_bytes 4 c.page_at.result = c.copy_from_slice.ensures.after ∙ c.number_bytes.ensures in
    let four : length head ≡ 4 = ap length its in
    let long : length c.args.entry.now ≡ 4100 = search rules in
    let size : length tail ≡ 4096 = omega (arith, long, length-drop 4 c.args.entry.now) in
    with_tail head tail four size c.fill_next.new.image
    ∙ ap (λ (l : List ℕ). l ++ c.fill_next.new.image) (its ∙ ap (big_bytes 4) c.page_at.ensures.page)
    ∙ ap (λ (l : List ℕ). big_bytes 4 (change_at c.args.changes.now c.args.place).0 ++ l) c.fill_next.ensures.image

pub returns-clause-used : goal.returns-clause-used
returns-clause-used c =
    let head : List ℕ = c.copy_from_slice.new.self in
    let tail : List ℕ = drop 4 c.args.entry.now in
    let four : length head ≡ 4 = ap length (c.copy_from_slice.ensures.after ∙ c.number_bytes.ensures) in
    let long : length c.args.entry.now ≡ 4100 = search rules in
    let size : length tail ≡ 4096 = omega (arith, long, length-drop 4 c.args.entry.now) in
    subst (IsBlankFrom c.fill_next.result)
    (sym (ap (λ (l : List ℕ). drop 4 l) (with_tail head tail four size c.fill_next.new.image) ∙ drop_at head c.fill_next.new.image 4 four))
    c.fill_next.ensures.used
