-- The events of a bar so far, newest first.
use Rattle.std.proofs.Common.{◌≡◌, ℕ, zero, suc, ◌+◌, List, [], ◌∷◌, ◌++◌, take, drop, reverse, refl, ap, ◌∙◌, arith, append_assoc, append-nil}
use Rattle.std.proofs.lemmas.List.{reverse-append}
use Rattle.abc_notes.specs.Events.{Event}
use Rattle.abc_notes.specs.Inside.KeptBar.{past_of}

-- one more event of a list that leads to the rest
take_one : (n : ℕ) (all : List Event) (e : Event) (rest : List Event) → drop n all ≡ e ∷ rest → take (n + 1) all ≡ take n all ++ e ∷ []
take_one zero [] e rest is = absurd (cc)
take_one zero (x ∷ all) e rest is = cc
take_one (suc n) [] e rest is = absurd (cc)
take_one (suc n) (x ∷ all) e rest is =
    let k : suc n + 1 ≡ suc (n + 1) = omega arith in ap (λ j. take j (x ∷ all)) k ∙ ap (λ r. x ∷ r) (take_one n all e rest is)

pub drop_one : (n : ℕ) (all : List Event) (e : Event) (rest : List Event) → drop n all ≡ e ∷ rest → drop (n + 1) all ≡ rest
drop_one zero [] e rest is = absurd (cc)
drop_one zero (x ∷ all) e rest is = cc
drop_one (suc n) [] e rest is = absurd (cc)
drop_one (suc n) (x ∷ all) e rest is = let k : suc n + 1 ≡ suc (n + 1) = omega arith in ap (λ j. drop j (x ∷ all)) k ∙ drop_one n all e rest is

-- the past after one more event
pub past_one : (n : ℕ) (all : List Event) (e : Event) (rest : List Event) → drop n all ≡ e ∷ rest → past_of (n + 1) all ≡ e ∷ past_of n all
unfolding past_of
past_one n all e rest is = ap reverse (take_one n all e rest is) ∙ reverse-append (take n all) (e ∷ [])

pub past_none : (n : ℕ) (all : List Event) → n ≡ 0 → past_of n all ≡ []
unfolding past_of
past_none n all none = ap (λ k. reverse (take k all)) none

-- READING AGAIN: so many events that are left go before those that were read
abbrev pub events_read_on : ℕ → List Event → List Event → List Event
events_read_on count events past = reverse (take count events) ++ past

pub read_from_start : (n : ℕ) (all : List Event) → events_read_on n all [] ≡ past_of n all
unfolding past_of
read_from_start n all = append-nil (reverse (take n all))

pub read_one : (k j : ℕ) (events rest past : List Event) (e : Event) → k ≡ suc j → events ≡ e ∷ rest
    → events_read_on k events past ≡ events_read_on j rest (e ∷ past)
read_one k j events rest past e more is =
    (λ i. reverse (take (more i) (is i)) ++ past) ∙ ap (λ front. front ++ past) (reverse-append (e ∷ []) (take j rest))
    ∙ append_assoc (reverse (take j rest)) (e ∷ []) past

pub read_to_end : (k : ℕ) (events past : List Event) → events ≡ [] → events_read_on k events past ≡ past
read_to_end zero events past none = refl
read_to_end (suc k) events past none = ap (λ all. reverse (take (suc k) all) ++ past) none

pub read_enough : (k : ℕ) (events past : List Event) → k ≡ 0 → events_read_on k events past ≡ past
read_enough k events past none = ap (λ n. reverse (take n events) ++ past) none
