use Rattle.std.proofs.Common.{◌≡◌, ℕ, ◌+◌, ◌-◌, ◌++◌, List, [], ◌∷◌, length, take, drop, rules, Ok, Err, arith, sym, ap, ◌∙◌, subst}
use Rattle.std.proofs.Math.Seq.{take-add}
use Rattle.std.proofs.lemmas.List.{take-append-drop}
use Rattle.tune_pages.specs.Stand.{Stand}
use Rattle.tune_pages.proofs.Edits.{alters_edits, alters_failed, alters_fuller, edits_failed, edits_fuller, edits_next, went}
use Rattle.index_keys.specs.Entries.{Entry, IsRising, inserted_all}
use Rattle.index_keys.proofs.RisingEntries.{rises_back}
use Rattle.tune_index.specs.Indexes.{entries_of}
use Rattle.tune_index.proofs.Changes.{shape_none, shape_then}
use Rattle.tune_index.proofs.Runs.{inserted_all-append, inserted_in_none}
use Rattle.tune_index.proofs.index.Index.insert_all.Goals as goal

pub returns-then-is_empty-clause-shape : goal.returns-then-is_empty-clause-shape
returns-then-is_empty-clause-shape g c = shape_none c.args.self.now c.args.edit.now.next c.requires.pages

-- a run goes whole into an index without leaves
none_first : (width : ℕ) (all : Stand) (pages : List ℕ) (run : List Entry) → length pages ≡ 0 → IsRising run
    → length (inserted_all run (entries_of width all pages)) ≡ length run
none_first width all [] run none up = ap length (inserted_in_none run up)
none_first width all (p ∷ ps) run none up = absurd (omega arith)

pub returns-in-Err-clause-edits : goal.returns-in-Err-clause-edits
returns-in-Err-clause-edits g c = alters_edits g.D.Disk (Err c.in-Err.fault) _ _ _ (alters_failed c.in-Err.fault _ _ _ (alters_fuller
    (Err c.in-Err.fault) _ _ _ _
    (λ full honest. (let all = none_first g.row.W c.args.edit.now.next c.args.self.now.pages c.args.run.now full.0 c.requires.rising in
    omega (arith, full.0, full.1, all)))
    c.in-Err.ensures.alters))

-- what is left of a run rises
rest_rises : (at : ℕ) (run : List Entry) → IsRising run → IsRising (drop at run)
rest_rises at run up = rises_back 0 (take at run) (drop at run) (subst (λ (x : List Entry). IsRising x) (sym (take-append-drop at run)) up)

pub insert_from-requires : goal.insert_from-requires
insert_from-requires g c =
    let i = c.loop-at.invariant in (
      search rules,
      (
        search rules,
        (
          i.shape.pages,
          (
            i.index,
            (
              i.some,
              (
                rest_rises c.loop-at.at c.args.run.now c.requires.rising,
                c.loop-at-test.true,
              ),
            ),
          ),
        ),
      ),
    )

pub loop-at-preserved : goal.loop-at-preserved
loop-at-preserved g c =
    let i = c.loop-at.invariant in
    let e = c.in-Ok-insert_from.ensures in
    let at = c.loop-at.at in
    let end = c.in-Ok-insert_from.end in
    let run : List Entry = c.args.run.now in
    let s0 = c.args.edit.now.next in
    let s1 = c.loop-at.edit.next in
    let s2 = c.insert_from.new.edit.next in
    record {
      within = e.within;
      some = e.some;
      edits = edits_next g.D.Disk tt (Ok tt) ⊥ ⊥ c.args.edit.now c.loop-at.edit c.insert_from.new.edit i.edits (went g.D.Disk _ _ _ _ _ _ e.edits);
      shape = shape_then c.args.self.now c.loop-at.self c.insert_from.new.index s0 s1 s2 e.edits.looks.was_honest (λ h. h) i.shape e.shape;
      index = λ h. (e.entries h).0;
      entries = λ h.
          let old = i.entries (e.edits.looks.was_honest h) in
          let first = entries_of g.row.W s0 c.args.self.now.pages in
          let part = take (end - at) (drop at run) in
          let sum : at + (end - at) ≡ end = omega (arith, e.later) in
          let t : take end run ≡ take at run ++ part = ap (λ (k : ℕ). take k run) (sym sum) ∙ take-add at (end - at) run in
          (e.entries h).1 ∙ ap (inserted_all part) old ∙ sym (inserted_all-append (take at run) part first)
          ∙ ap (λ (x : List Entry). inserted_all x first) (sym t);
    }

pub returns-in-Err-insert_from-clause-edits : goal.returns-in-Err-insert_from-clause-edits
returns-in-Err-insert_from-clause-edits g c =
    let i = c.loop-at.invariant in
    let e = c.in-Err-insert_from.ensures in
    let at = c.loop-at.at in
    let run : List Entry = c.args.run.now in
    let first = entries_of g.row.W c.args.edit.now.next c.args.self.now.pages in
    edits_next g.D.Disk tt (Err c.in-Err-insert_from.fault) ⊥ _ _ _ _ i.edits (edits_failed g.D.Disk c.in-Err-insert_from.fault _ _ _
    (edits_fuller g.D.Disk (Err c.in-Err-insert_from.fault) _ _ _ _
    (λ full honest.
    let back = e.edits.looks.was_honest honest in
    let few = full honest in
    let now = ap (λ (x : List Entry). length (inserted_all (drop at run) x)) (i.entries back) in
    let whole = ap length (sym (inserted_all-append (take at run) (drop at run) first)
    ∙ ap (λ (x : List Entry). inserted_all x first) (take-append-drop at run)) in
    omega (arith, few, now, whole, i.shape.balance)) e.edits))
