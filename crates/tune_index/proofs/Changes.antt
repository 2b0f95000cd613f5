-- An index that a call changed: its list of leaves, and what calls of the pages say of one page.
use Rattle.std.proofs.Common.{◌≡◌, ℕ, ◌<◌, ◌≤◌, length, refl, sym, ◌∙◌, subst}
use Rattle.tune_pages.specs.Stand.{Stand, IsLeastFree, taken, without_page}
use Rattle.tune_pages.specs.Frame.{Allocates, Frees}
use Rattle.tune_pages.proofs.Frames.{taken_allocates, trades_none, trades_then, without_frees}
use Rattle.tune_index.specs.Indexes.{HasPages, KeepsList, Reshapes, Shape}

-- WHAT A CALL DID TO ONE PAGE
pub allocates_by : (old new : Stand) (page most : ℕ) → IsLeastFree old.used page → (0 < page) × (page < most) × (page ≤ length old.pages)
    → new ≡ taken page old → Allocates old new page
allocates_by old new page most least within is = subst (λ (s : Stand). Allocates old s page) (sym is) (taken_allocates old page least.free within.0 within.2)

pub frees_by : (old new : Stand) (page : ℕ) → new ≡ without_page page old → Frees old new page
frees_by old new page is = subst (λ (s : Stand). Frees old s page) (sym is) (without_frees old page)

-- THE LIST OF LEAVES
list_none : (shape : Shape) → KeepsList shape shape
list_none shape = record { first = refl; listed = λ is. (is, refl) }

list_then : (a b c : Shape) → KeepsList a b → KeepsList b c → KeepsList a c
list_then a b c one two = record {
  first = two.first ∙ one.first;
  listed = λ is. (let second = two.listed is in let first = one.listed second.0 in (first.0, second.1 ∙ first.1));
}

-- two changes of an index, one after the other, are one
module _ {One Two Both : Type 0} (was mid is : Shape) (old now new : Stand) where
  pub shape_then : (Both → One) → (Both → Two) → Reshapes One old now was mid → Reshapes Two now new mid is → Reshapes Both old new was is
  shape_then back owned first next = record {
    list = list_then was mid is first.list next.list;
    pages = λ has. next.pages (owned has);
    trades = λ has. trades_then was.pages mid.pages is.pages old now new (first.trades (back has)) (next.trades (owned has));
    balance = first.balance ∙ next.balance;
  }

-- and no change is one
pub shape_none : {Owned : Type 0} (shape : Shape) (all : Stand) → (Owned → HasPages all shape.pages) → Reshapes Owned all all shape shape
shape_none shape all has = record {
  list = list_none shape;
  pages = has;
  trades = λ _. trades_none shape.pages all;
  balance = refl;
}
