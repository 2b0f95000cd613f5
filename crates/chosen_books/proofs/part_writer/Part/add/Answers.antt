use Rattle.std.proofs.Common.{length, arith, ap}
use Rattle.chosen_books.proofs.PartLemmas.{book_length, one_longer}
use Rattle.chosen_books.proofs.part_writer.Part.add.Goals as goal

pub returns-clause-is : goal.returns-clause-is
returns-clause-is c =
    let numbers = c.in_ok-push.ensures.items in
    let texts = c.in_ok-push-2.ensures.items in
    let old = c.args.self.now in
    record {
      numbers = rw (numbers, texts) (one_longer old.numbers.items old.texts.items c.args.number c.args.text c.requires.is.numbers);
      bytes = rw (numbers, texts, c.bytes.ensures.value)
          (book_length old.numbers.items old.texts.items c.args.number c.args.text old.length c.ranges.number.fits c.requires.is.numbers c.requires.is.bytes);
      few = omega (arith, c.requires.open, c.bytes.ensures.short, ap length c.bytes.ensures.value);
    }
