use Rattle.std.proofs.Common.{◌≡◌, ◌++◌, ◌∷◌, [], OnOk, subst}
use Rattle.json.specs.Token.{string}
use Rattle.desk_lists.proofs.AppendLemmas.{ok_after_four}
use Rattle.desk_lists.proofs.twins.put_pair.Goals as goal

pub returns-clause-tokens : goal.returns-clause-tokens
returns-clause-tokens c =
    let one = rw c.from.ensures at c.in_ok-put_number.ensures.tokens in
    let other = rw c.from-2.ensures at c.in_ok-put_number-2.ensures.tokens in
    let name = subst (λ text. OnOk c.string.result (c.string.new.self.tokens ≡ c.key.new.self.tokens ++ string text ∷ [])) c.name.ensures c.string.ensures.ok in
    ok_after_four _ _ _ _ _ _ _ _ _ c.string.result one other c.in_ok-key.ensures.ok name
