use Rattle.std.proofs.Common.{◌≡◌, ◌++◌, codes, subst}
use Rattle.desk_lists.specs.JsonLists.{text_members}
use Rattle.desk_lists.proofs.AppendLemmas.{ok_after_four}
use Rattle.desk_lists.proofs.json_lists.put_set.Goals as goal

pub returns-clause-tokens : goal.returns-clause-tokens
returns-clause-tokens c =
    let name = subst (λ text. c.put_text.new.out.tokens ≡ c.begin_object.new.self.tokens ++ text_members (codes "name") text)
    c.as_slice.ensures.value c.in_ok-put_text.ensures.tokens in
    ok_after_four _ _ _ _ _ _ _ _ _ c.end_object.result c.in_ok-begin_object.ensures.ok name c.in_ok-put_number.ensures.tokens
    c.end_object.ensures.ok
