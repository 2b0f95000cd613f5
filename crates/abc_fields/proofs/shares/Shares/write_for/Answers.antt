use Rattle.std.proofs.Common.{◌≡◌, ◌∙◌, ◌<◌, ◌≤◌, ◌++◌, None, Some, refl, ap, sym, subst, arith, length, get_or, take}
use Rattle.std.proofs.lemmas.List.{append-nil, append_assoc}
use Rattle.abc_fields.specs.Tunes.{joined}
use Rattle.abc_fields.specs.Inside.HeaderRows.{in_table, taken_lines}
use Rattle.abc_fields.specs.Inside.Shares.{RuleLines, IsFirstAt, lines_from, run_length}
use Rattle.abc_fields.proofs.ShareLemmas.{all_left, none_left, one_left, turn_taken, next_first, next_later, run_fits, first_of}
use Rattle.abc_fields.proofs.shares.Shares.write_for.Goals as goal

pub returns-in_default : goal.returns-in_default
returns-in_default c =
    let owns = in_table c.args.letters.now.table in
    let rests = c.in_ok-rests.rests.items in
    let left = all_left owns c.args.self.now rests c.in_ok-rests.ensures in
    let count : c.len-2.result ≡ length rests = omega (arith, c.len-2.ensures, c.deref.ensures.len, ap length c.deref.ensures.value) in
    let first = first_of rests c.deref.result.now (length rests) c.len-2.result None c.deref.ensures.value count c.in_default.ensures in
    sym (append-nil c.args.out.now.items)
    ∙ ap (λ t. c.args.out.now.items ++ t) (sym (none_left owns rests (joined (taken_lines owns c.args.self.now)) (length rests) left (omega arith) first))

pub loop-next-init : goal.loop-next-init
loop-next-init c =
    let owns = in_table c.args.letters.now.table in
    let rests = c.in_ok-rests.rests.items in
    let count : c.len-2.result ≡ length rests = omega (arith, c.len-2.ensures, c.deref.ensures.len, ap length c.deref.ensures.value) in
    record {
      left = (joined (taken_lines owns c.args.self.now), all_left owns c.args.self.now rests c.in_ok-rests.ensures, refl);
      first = first_of rests c.deref.result.now (length rests) c.len-2.result (Some c.in-Some.turn) c.deref.ensures.value count c.in-Some.ensures;
    }

pub write_before-requires : goal.write_before-requires
write_before-requires c =
    let owns = in_table c.args.letters.now.table in
    let left = c.loop-next.invariant.left in
    subst (λ (lines : RuleLines). run_length c.in-Some-first_turn.next.place lines.marks ≤ length lines.bytes) (sym c.index_mut.ensures.value)
    (run_fits owns c.loop-next.rests.items left.0 c.loop-next.turn.index c.in-Some-first_turn.next.place c.index_mut.result.now left.1
    c.loop-next.invariant.first.within)

pub loop-next-smaller : goal.loop-next-smaller
loop-next-smaller c =
    let owns = in_table c.args.letters.now.table in
    let left = c.loop-next.invariant.left in
    let later : c.loop-next.turn.place < c.in-Some-first_turn.next.place = next_later owns c.loop-next.rests.items left.0 c.loop-next.turn.index
    c.in-Some-first_turn.next.index c.loop-next.turn.place c.in-Some-first_turn.next.place left.1 c.loop-next.invariant.first.within c.loop-next.invariant.first
    (first_of c.loop-next.rests.items c.deref-in-loop-next.result.now c.loop-next.turn.index c.loop-next.turn.index (Some c.in-Some-first_turn.next)
    c.deref-in-loop-next.ensures.value refl c.in-Some-first_turn.ensures) in
    omega (arith, later)

pub loop-next-preserved : goal.loop-next-preserved
loop-next-preserved c =
    let owns = in_table c.args.letters.now.table in
    let left = c.loop-next.invariant.left in
    let rests = c.loop-next.rests.items in
    let index = c.loop-next.turn.index in
    let none = c.index_mut.result.now in
    let next = c.in-Some-first_turn.next in
    let within = c.loop-next.invariant.first.within in
    let first : IsFirstAt (length rests) index rests next.index next.place =
    first_of rests c.deref-in-loop-next.result.now index index (Some next) c.deref-in-loop-next.ensures.value refl c.in-Some-first_turn.ensures in
    let taken = turn_taken owns rests left.0 index next.place none left.1 within (λ other d inside differ. first.others other d inside differ) in
    let changed : c.write_before.new.self ≡ lines_from next.place (get_or rests index none) =
    c.in_ok-write_before.ensures.rest ∙ ap (lines_from next.place) c.index_mut.ensures.value in
    let lines = get_or rests index none in
    let written : c.write_before.new.out.items ≡ c.loop-next.out.items ++ take (run_length next.place lines.marks) lines.bytes =
    c.in_ok-write_before.ensures.bytes
    ∙ ap (λ (lines : RuleLines). c.loop-next.out.items ++ take (run_length next.place lines.marks) lines.bytes) c.index_mut.ensures.value in
    rw changed record {
      left = (
        taken.0,
        taken.2,
        ap (λ t. t ++ taken.0) written ∙ append_assoc c.loop-next.out.items _ taken.0 ∙ ap (λ t. c.loop-next.out.items ++ t) taken.1 ∙ left.2,
      );
      first = next_first rests index none next.index next.place within first;
    }

pub returns : goal.returns
returns c =
    let owns = in_table c.args.letters.now.table in
    let left = c.loop-next.invariant.left in
    let rests = c.loop-next.rests.items in
    let index = c.loop-next.turn.index in
    let first = first_of rests c.deref-in-loop-next.result.now index index None c.deref-in-loop-next.ensures.value refl c.in_default-first_turn.ensures in
    let last = one_left owns rests left.0 index c.index.result.now left.1 c.loop-next.invariant.first.within first in
    let bytes = ap (λ (lines : RuleLines). lines.bytes) c.index.ensures ∙ last in
    c.in_ok-write_all.ensures ∙ ap (λ t. c.loop-next.out.items ++ t) bytes ∙ left.2
