use Rattle.std.proofs.Common.{◌≡◌, [], ◌∷◌, ◌++◌, ap, ◌∙◌, rules, arith, None}
use Rattle.sha2.specs.Sha256.{sha256}
use Rattle.tune_undo.specs.declared.old_entries.After.TheVariants.{Text}
use Rattle.tune_undo.specs.declared.old_entries.Part.{Part}
use Rattle.tune_undo.specs.declared.old_entries.Part.TheVariants.{Tune}
use Rattle.desk_books.proofs.AddLemmas.{added_more}
use Rattle.desk_books.proofs.added_entries.added_parts.Goals as goal

pub loop-text-preserved : goal.loop-text-preserved
loop-text-preserved c =
    let kept = c.loop-text.invariant in
    let part : Part = Tune c.loop-text.number None (Text c.of.result) in
    let pushed : c.push.new.self.items ≡ c.loop-text.parts.items ++ part ∷ [] = search rules in
    let sum : c.of.result ≡ sha256 c.text-item.result = c.of.ensures ∙ ap sha256 c.bytes.ensures.value in
    record {
      number = omega (arith, kept.number);
      parts = pushed ∙ ap (λ parts. parts ++ part ∷ []) kept.parts
          ∙ added_more c.args.texts.now c.args.first c.loop-text.text-index c.loop-text.number c.text-item.result c.of.result c.loop-text-test.true
          c.text-item.is
          kept.number sum;
    }
