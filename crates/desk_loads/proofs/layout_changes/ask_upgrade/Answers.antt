use Rattle.desk_loads.proofs.layout_changes.ask_upgrade.Goals as goal

pub returns-clause-answers : goal.returns-clause-answers
returns-clause-answers g c = record { answers = c.apply.ensures.answer; stops = c.apply.ensures.stops }
