use Rattle.std.proofs.Common.{[], ◌∷◌, refl}
use Rattle.tune_asking.proofs.AskLemmas.{asked_stays, asked_quiet, asked_answer, stays_by}
use Rattle.tune_asking.proofs.store_questions.ask.Goals as goal

pub returns : goal.returns
returns g c = record {
  asked = record {
    was_honest = c.apply.ensures.stops.was_honest;
    same_state = λ h. asked_stays _ _ _ _ (c.apply.ensures.answer h) c.requires;
    same_moment = λ h. c.apply.ensures.quiet (asked_quiet _ _ c.requires) h;
    stays_sound = c.apply.ensures.stops.stays_sound;
    carried = λ h. record {
      carried = record { command = c.args.command.now; answer = c.apply.result; after = c.apply.new.self } ∷ [];
      carries_out = (record { answers = c.apply.ensures.answer h; passes = c.apply.ensures.stops }, refl);
      questions = (c.requires, tt);
    };
  };
  stays = stays_by _ _ _ c.apply.ensures.closes (c.apply.ensures.when_closed.0);
  answer = λ is_open h. asked_answer _ _ _ _ (c.apply.ensures.answer h) is_open;
}
