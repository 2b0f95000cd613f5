-- Parts that an owner trades, among others, which stay.
use Rattle.std.proofs.Common.{◌≡◌, ◌≢◌, ℕ, ◌<◌, List, ◌++◌, length, All, ◌∙◌, ap}
use Rattle.std.specs.List.{AllByRecursion, Contains}
use Rattle.std.proofs.lemmas.List.Elements.{Contains-append_left, Contains-append_right}
use Rattle.tune_pages.specs.Frame.{SamePage, TradesPages}
use Rattle.tune_pages.specs.Stand.{Stand, IsUsed, AllUsed}
use Rattle.tune_parts.specs.Parts.{Part, IsPart, HoldsParts, trails}
use Rattle.tune_parts.proofs.Lists.{all_left, all_right, all_join}
use Rattle.tune_parts.proofs.Staying.{Stays, trails_join, parts_stay}
use Rattle.tune_parts.proofs.Traded.{UsesPages, traded}

-- THE TRADE
-- What is held with the owner's parts is held with those that it has then.
pub parts_traded : (old new : Stand) (before mine yours after : List Part) → HoldsParts old (before ++ (mine ++ after))
    → TradesPages (trails mine) (trails yours) old new → length new.used ≡ length old.used → IsUsed new.used 0
    → ((page : ℕ) → IsUsed new.used page → page < length new.pages) → AllUsed (trails yours) new.used → All (λ p. p ≢ 0) (trails yours)
    → AllByRecursion (IsPart new.pages) yours → HoldsParts new (before ++ (yours ++ after))
parts_traded old new before mine yours after held trades long root inside theirs above are = record {
  root = inside 0 root;
  stand = all_join (IsPart new.pages) before (yours ++ after)
      (parts_stay old.pages new.pages before (λ page c. stays page (Contains-append_left (trails before) (trails after) page c)) front)
      (all_join (IsPart new.pages) yours after are
      (parts_stay old.pages new.pages after (λ page c. stays page (Contains-append_right (trails before) (trails after) page c)) back));
  apart = rw pages_new pages_uses.0.apart;
  used = rw pages_new pages_uses.0.marks;
}
  where
    pages_old : trails (before ++ (mine ++ after)) ≡ trails before ++ (trails mine ++ trails after)
    pages_old = trails_join before (mine ++ after) ∙ ap (λ pages. trails before ++ pages) (trails_join mine after)

    pages_new : trails (before ++ (yours ++ after)) ≡ trails before ++ (trails yours ++ trails after)
    pages_new = trails_join before (yours ++ after) ∙ ap (λ pages. trails before ++ pages) (trails_join yours after)

    uses_old : UsesPages old.used (trails before ++ (trails mine ++ trails after))
    uses_old = record { apart = rw (← pages_old) held.apart; marks = rw (← pages_old) held.used }

    pages_uses : UsesPages new.used (trails before ++ (trails yours ++ trails after))
        × ((page : ℕ) → Contains (trails before ++ trails after) page → SamePage old new page × IsUsed new.used page)
    pages_uses = traded old new (trails before) (trails mine) (trails yours) (trails after) uses_old trades long root theirs above

    stays : (page : ℕ) → Contains (trails before ++ trails after) page → Stays old.pages new.pages page
    stays page c = record { image = (pages_uses.1 page c).0.image; there = inside page (pages_uses.1 page c).1 }

    front : AllByRecursion (IsPart old.pages) before
    front = all_left (IsPart old.pages) before (mine ++ after) held.stand

    back : AllByRecursion (IsPart old.pages) after
    back = all_right (IsPart old.pages) mine after (all_right (IsPart old.pages) before (mine ++ after) held.stand)
