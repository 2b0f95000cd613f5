use Rattle.std.proofs.Common.{◌≡◌, ◌+◌, ◌∷◌, [], ℕ, List, length, take, sym, ap, ◌∙◌, subst, arith, rules}
use Rattle.std.proofs.lemmas.List.{get_or_default, take_all}
use Rattle.tune_disk.specs.Disk.{DiskState, fresh}
use Rattle.tune_disk.specs.Inside.Fills.{Fills}
use Rattle.tune_disk.specs.Records.{record_to, state_of_records}
use Rattle.tune_disk.specs.declared.memory.Record.{Record}
use Rattle.tune_disk.specs.declared.memory.Record.TheVariants.{Write, Sync}
use Rattle.tune_disk.proofs.Filled.{fills_more}
use Rattle.tune_disk.proofs.Kept.{one_more}
use Rattle.tune_disk.proofs.memory.fill_written.Goals as goal
use Rattle.tune_disk.proofs.memory.fill_written.Goals.{in-Write, in-Sync}

pub loop-i-preserved : goal.loop-i-preserved
loop-i-preserved c =
    let records = c.args.records.now in
    let i = c.loop-i.i in
    let one : Record = c.index-records-i.result in
    let inv = c.loop-i.invariant in
    let more : (first : List ℕ) → state_of_records first (take (i + 1) records) ≡ record_to one (state_of_records first (take i records)) =
    λ first. one_more records i one (fresh first) c.loop-i-test.true c.index-records-i.is in
    elim c.match-records-i.branch [
      | in-Write w ↦
          (let at = w.in-Write.at in
          let v = w.in-Write.bytes in
          let it : one ≡ Write at v = search rules in
          record {
            from = omega (arith, inv.from);
            fills = λ first.
                (let s = state_of_records first (take i records) in
                let to = more first ∙ ap (λ (x : Record). record_to x s) it in
                let here : Fills c.args.byte ((at, length v.items) ∷ []) c.loop-i.file c.match-records-i.file = search rules in
                subst (λ (t : DiskState). Fills c.args.byte t.now.written c.args.file.now c.match-records-i.file) (sym to)
                (fills_more c.args.byte at (length v.items) s.now.written _ _ _ (inv.fills first) here));
          })
      | in-Sync w ↦
          (let it : one ≡ Sync = search rules in
          let sync = sym (get_or_default records i one Sync c.loop-i-test.true) ∙ sym c.index-records-i.is ∙ it in
          absurd (c.requires.last.later i inv.from c.loop-i-test.true sync))
    ]

pub returns : goal.returns
returns c = λ first.
    (let all : take c.loop-i.i c.args.records.now ≡ c.args.records.now = take_all c.loop-i.i c.args.records.now (omega arith) in
    subst (λ (l : List Record). Fills c.args.byte (state_of_records first l).now.written c.args.file.now c.loop-i.file) all (c.loop-i.invariant.fills first))
