-- States that are among others, files that stand for one of some, and what a store passes over one
-- call after another.
use Rattle.std.proofs.Common.{ℕ, List, [], ◌∷◌, ◌++◌, ◌⊎◌, refl, sym, subst, inl, inr, arith}
use Rattle.tune_store.specs.State.{State}
use Rattle.tune_store.specs.StoreStops.{Among, StandsForOne}
use Rattle.tune_store.specs.Stores.{StorePasses}
use Rattle.tune_store.specs.declared.tune_store.TuneStore.{Ghosts}

-- ONE OF SOME STATES
-- a state among some is among those and more
pub among_left : (state : State) (states more : List State) → Among state states → Among state (states ++ more)
among_left state [] more among = absurd among
among_left state (other ∷ states) more (inl same) = inl same
among_left state (other ∷ states) more (inr later) = inr (among_left state states more later)

-- and it is among those after more
pub among_right : (state : State) (more states : List State) → Among state states → Among state (more ++ states)
among_right state [] states among = among
among_right state (other ∷ more) states among = inr (among_right state more states among)

-- A FILE THAT STANDS FOR ONE
-- a file that stands for one of some states stands for one of those and more
pub stands_left : (stands_for : List ℕ → State → Type 0) (states more : List State) (file : List ℕ)
    → StandsForOne stands_for states file → StandsForOne stands_for (states ++ more) file
stands_left stands_for [] more file one = absurd one
stands_left stands_for (state ∷ states) more file (inl stands) = inl stands
stands_left stands_for (state ∷ states) more file (inr later) = inr (stands_left stands_for states more file later)

-- and for one of those after more
pub stands_right : (stands_for : List ℕ → State → Type 0) (more states : List State) (file : List ℕ)
    → StandsForOne stands_for states file → StandsForOne stands_for (more ++ states) file
stands_right stands_for [] states file one = one
stands_right stands_for (state ∷ more) states file one = inr (stands_right stands_for more states file one)

-- a file that stands for a state stands for one of the states that it is among
pub stands_among : (stands_for : List ℕ → State → Type 0) (state : State) (states : List State) (file : List ℕ)
    → Among state states → stands_for file state → StandsForOne stands_for states file
stands_among stands_for state [] file among stands = absurd among
stands_among stands_for state (other ∷ states) file (inl same) stands = inl (subst (λ one. stands_for file one) same stands)
stands_among stands_for state (other ∷ states) file (inr later) stands = inr (stands_among stands_for state states file later stands)

-- ONE CALL AFTER ANOTHER
module _ {S : Type 0} (s : Ghosts S) where
  -- no call passes no state
  pub passes_none : (here : S) → StorePasses s here here []
  passes_none here = record {
    reaches = λ h. inl refl;
    was_honest = λ h. h;
    stays_sound = λ h. h;
    later = λ h. omega arith;
    keeps = λ h since file left. left;
    recalls = λ h at file early left. left;
    leaves = λ h k since file q left. inl left;
  }

  -- the state that the store stands for is one of these
  abbrev IsAmong : S → S → List State → Type 0
  IsAmong old new states = Among (s.state new) (s.state old ∷ states)

  -- a file stands for the state of the store, or for one of these
  abbrev FitsOne : S → List State → List ℕ → Type 0
  FitsOne old states file = StandsForOne s.stands_for (s.state old ∷ states) file

  -- the state in between is one of those before, so a file that stands for it, or for a later one, stands for one of all
  stands_for_all : (old mid : S) (a b : List State) (file : List ℕ) → IsAmong old mid a → FitsOne mid b file → FitsOne old (a ++ b) file
  stands_for_all old mid a b file m (inl p) =
      let before = s.state old ∷ a in
      stands_left s.stands_for before b file (stands_among s.stands_for (s.state mid) before file m p)
  stands_for_all old mid a b file m (inr h) = stands_right s.stands_for (s.state old ∷ a) b file h

  left_before_or_all : (old mid : S) (a b : List State) (since : ℕ) (file : List ℕ) → IsAmong old mid a
      → s.left_since mid since file ⊎ FitsOne mid b file → (s.left_since mid since file → s.left_since old since file ⊎ FitsOne old a file)
      → s.left_since old since file ⊎ FitsOne old (a ++ b) file
  left_before_or_all old mid a b since file m (inl left) f = elim (f left) [
    | inl before ↦ inl before
    | inr h ↦ inr (stands_left s.stands_for (s.state old ∷ a) b file h)
  ]
  left_before_or_all old mid a b since file m (inr h) f = inr (stands_for_all old mid a b file m h)

  reaches_all : (old mid new : S) (a b : List State) → IsAmong old mid a → IsAmong mid new b → IsAmong old new (a ++ b)
  reaches_all old mid new a b m (inl e) =
      let Q : State → Type 0 = λ x. Among x (s.state old ∷ (a ++ b)) in
      subst Q (sym e) (among_left (s.state mid) (s.state old ∷ a) b m)
  reaches_all old mid new a b m (inr h) = among_right (s.state new) (s.state old ∷ a) b h

  -- one call after another passes the states of both
  pub passes_more : (old mid new : S) (a b : List State) → StorePasses s old mid a → StorePasses s mid new b → StorePasses s old new (a ++ b)
  passes_more old mid new a b h k = record {
    reaches = λ honest_now. reaches_all old mid new a b (h.reaches (k.was_honest honest_now)) (k.reaches honest_now);
    was_honest = λ honest_now. h.was_honest (k.was_honest honest_now);
    stays_sound = λ sound. k.stays_sound (h.stays_sound sound);
    later = λ honest_now. let x = h.later (k.was_honest honest_now) in let y = k.later honest_now in omega arith;
    keeps = λ honest_now since file left. k.keeps honest_now since file (h.keeps (k.was_honest honest_now) since file left);
    recalls = λ honest_now at file early left.
        let x = h.later (k.was_honest honest_now) in
        h.recalls (k.was_honest honest_now) at file early (k.recalls honest_now at file (omega arith) left);
    leaves = λ sound honest_now since file q left.
        let x = h.later (k.was_honest honest_now) in
        let later = k.leaves (h.stays_sound sound) honest_now since file (omega arith) left in
        left_before_or_all old mid a b since file (h.reaches (k.was_honest honest_now)) later (λ m. h.leaves sound (k.was_honest honest_now) since file q m);
  }
