use Rattle.std.proofs.Common.{ap, ◌∙◌, refl, string_bytes}
use Rattle.desk_books.specs.AddedBooks.{added_parts}
use Rattle.desk_books.proofs.AddLemmas.{grows_nothing}
use Rattle.desk_books.proofs.taken_books.keep.Goals as goal

pub returns-in_default-clause-keeps : goal.returns-in_default-clause-keeps
returns-in_default-clause-keeps g c = (grows_nothing (string_bytes c.args.file.now) (g.K.Desk.deeds c.args.desk.now), refl)

pub returns-clause-keeps : goal.returns-clause-keeps
returns-clause-keeps g c = λ book layout answer. (
  c.in-Ok.entry,
  record {
    layout = layout;
    texts = c.args.brought.now.texts.items;
    first = c.args.brought.now.first;
    answer = answer;
    kind = c.in-Ok.ensures.kind;
    parts = c.in-Ok.ensures.parts ∙ ap (added_parts c.args.brought.now.first) c.as_slice-texts.ensures.value;
  },
  c.in_ok-keep_entry.ensures.kept,
  refl,
)
