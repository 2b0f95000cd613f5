-- The commands that are left, as some are carried out.
use Rattle.std.proofs.Common.{◌≡◌, ◌≢◌, ℕ, zero, suc, ◌+◌, ◌-◌, ◌<◌, ◌≤◌, Bool, true, false, cond, List, [], ◌∷◌, ◌++◌, length, map, take, drop}
use Rattle.std.proofs.Common.{get_or, replicate, Option, Some, None}
use Rattle.std.proofs.Common.{refl, sym, ap, ◌∙◌, subst, inl, inr, ◌⊎◌, arith}
use Rattle.std.specs.Prelude.{◌==◌, Result, Ok, Err, is_some, nat_lt}
use Rattle.std.specs.Str.{bytes_eq}
use Rattle.std.proofs.lemmas.Bool.{eq-eqb, ne_eqb}
use Rattle.std.proofs.lemmas.List.{drop_more, drop_all, take_more, reverse-append}
use Rattle.tune_store.specs.State.{State, greatest}
use Rattle.tune_store.specs.declared.command.Command.{Command}
use Rattle.tune_store.specs.declared.command.Command.TheVariants.{Import, Delete, Renumber, SetAdd, SetCut, SetDrop}
use Rattle.tune_store.specs.declared.command.Reply.{Reply}
use Rattle.tune_store.specs.declared.command.Reply.TheVariants.{Imported}
use Rattle.tune_store.specs.declared.command.Refusal.{Refusal}
use Rattle.tune_store.specs.declared.command.Refusal.TheVariants.{ArchiveFull, NumbersSpent}
use Rattle.tune_store.specs.declared.layout.Layout.{Layout}
use Rattle.tune_store.specs.declared.tune.Tune.{Tune}
use Rattle.tune_store.specs.Limits.{greatest_number, longest_text, most_tunes}
use Rattle.tune_store.specs.Step.{step}
use Rattle.tune_store.specs.TuneSteps.{TunesOutcome, import_book, with_texts}
use Rattle.abc_fields.specs.Books.{Texts, book_answer}
use Rattle.tune_changes.specs.Aims.{aim_for, aimed_back, brought_about, turn_of}
use Rattle.tune_changes.specs.Bringing.{brought, brought_each, common_front, cut_behind, relaid, renumber_commands, set_commands, tune_commands}
use Rattle.tune_changes.specs.CommandRuns.{after_commands}
use Rattle.tune_changes.specs.declared.turns.Aim as told_aim
use Rattle.tune_changes.specs.declared.turns.Turn as told

-- LISTS
pub mapped_next : {A B : Type 0} (f : A → B) (xs : List A) (i : ℕ) (d : A) → i < length xs
    → map f (drop i xs) ≡ f (get_or xs i d) ∷ map f (drop (i + 1) xs)
mapped_next f xs i d l = ap (map f) (drop_more xs i d l)

pub mapped_end : {A B : Type 0} (f : A → B) (xs : List A) (i : ℕ) → length xs ≤ i → map f (drop i xs) ≡ []
mapped_end f xs i l = ap (map f) (drop_all i xs l)

pub repeated_next : {A : Type 0} (n i : ℕ) (x : A) → i < n → replicate (n - i) x ≡ x ∷ replicate (n - (i + 1)) x
repeated_next n i x l = let e : n - i ≡ suc (n - (i + 1)) = omega arith in ap (λ m. replicate m x) e

pub repeated_end : {A : Type 0} (n i : ℕ) (x : A) → n ≤ i → replicate (n - i) x ≡ []
repeated_end n i x l = let e : n - i ≡ zero = omega arith in ap (λ m. replicate m x) e

-- PLACES BEHIND A FRONT
pub cut_next : (name : List ℕ) (kept left : ℕ) → 0 < left → cut_behind name kept left ≡ SetCut name (kept + left) ∷ cut_behind name kept (left - 1)
cut_next name kept zero l = absurd (omega arith)
cut_next name kept (suc more) l =
    let place : kept + more + 1 ≡ kept + suc more = omega arith in
    let rest : more ≡ suc more - 1 = omega arith in
    ap (λ p. SetCut name p ∷ cut_behind name kept more) place ∙ ap (λ m. SetCut name (kept + suc more) ∷ cut_behind name kept m) rest

-- COMMON FRONTS
front_none : (old : List ℕ) → common_front old [] ≡ 0
front_none [] = refl
front_none (number ∷ old) = refl

fronts_at : (old new : List ℕ) (i : ℕ) → i < length old → i < length new
    → common_front (drop i old) (drop i new)
    ≡ cond (get_or old i 0 == get_or new i 0) (suc (common_front (drop (i + 1) old) (drop (i + 1) new))) 0
fronts_at old new i in_old in_new =
    ap (λ (front : List ℕ). common_front front (drop i new)) (drop_more old i 0 in_old)
    ∙ ap (λ (front : List ℕ). common_front (get_or old i 0 ∷ drop (i + 1) old) front) (drop_more new i 0 in_new)

pub front_next : (old new : List ℕ) (i : ℕ) → i < length old → i < length new → get_or old i 0 ≡ get_or new i 0
    → common_front (drop i old) (drop i new) ≡ suc (common_front (drop (i + 1) old) (drop (i + 1) new))
front_next old new i in_old in_new same =
    fronts_at old new i in_old in_new
    ∙ ap (λ t. cond t (suc (common_front (drop (i + 1) old) (drop (i + 1) new))) 0) (eq-eqb (get_or old i 0) (get_or new i 0) same)

pub front_differs : (old new : List ℕ) (i : ℕ) → i < length old → i < length new → (get_or old i 0 ≡ get_or new i 0 → ⊥)
    → common_front (drop i old) (drop i new) ≡ 0
front_differs old new i in_old in_new other =
    fronts_at old new i in_old in_new
    ∙ ap (λ t. cond t (suc (common_front (drop (i + 1) old) (drop (i + 1) new))) 0) (ne_eqb (get_or old i 0) (get_or new i 0) other)

pub front_ends : (old new : List ℕ) (i : ℕ) → (length old ≤ i) ⊎ (length new ≤ i) → common_front (drop i old) (drop i new) ≡ 0
front_ends old new i (inl l) = ap (λ (front : List ℕ). common_front front (drop i new)) (drop_all i old l)
front_ends old new i (inr l) = ap (common_front (drop i old)) (drop_all i new l) ∙ front_none (drop i old)

-- numbers that are put anew
pub relaid_apart : (name old new : List ℕ) (kept fewer : ℕ) → kept ≡ common_front old new → fewer ≡ length old - length new
    → bytes_eq (drop (kept + fewer) old) (drop kept new) ≡ false
    → relaid name old new ≡ cut_behind name kept (length old - kept) ++ map (SetAdd name) (drop kept new)
relaid_apart name old new kept fewer front less apart =
    let apart_at : ℕ → ℕ → Bool = λ k f. bytes_eq (drop (k + f) old) (drop k new) in
    let by : ℕ → ℕ → Bool → List Command = λ k f same. cond same (replicate f (SetCut name (k + 1)))
    (cut_behind name k (length old - k) ++ map (SetAdd name) (drop k new)) in
    ap (λ k. by k (length old - length new) (apart_at k (length old - length new))) (sym front)
    ∙ ap (λ f. by kept f (apart_at kept f)) (sym less) ∙ ap (by kept fewer) apart

-- a set list that goes, or is not there
pub drops_none : (name : List ℕ) (there : Option (List ℕ)) → is_some there ≡ false → set_commands name there None ≡ []
drops_none name None e = refl
drops_none name (Some old) e = absurd cc

pub drops_some : (name : List ℕ) (there : Option (List ℕ)) → is_some there ≡ true → set_commands name there None ≡ SetDrop name ∷ []
drops_some name None e = absurd cc
drops_some name (Some old) e = refl

-- TUNES
-- a tune that goes, or is not there
pub deletes_none : (last number : ℕ) (there : Option Tune) → is_some there ≡ false → tune_commands last number there None ≡ []
deletes_none last number None e = refl
deletes_none last number (Some tune) e = absurd cc

pub deletes_some : (last number : ℕ) (there : Option Tune) → is_some there ≡ true → tune_commands last number there None ≡ Delete number ∷ []
deletes_some last number None e = absurd cc
deletes_some last number (Some tune) e = refl

-- a tune that gets another number
pub renumbers_other : (number to : ℕ) → (number ≡ to → ⊥) → renumber_commands number to ≡ Renumber number to ∷ []
renumbers_other number to other = ap (λ (same : Bool). cond same [] (Renumber number to ∷ [])) (ne_eqb number to other)

-- a tune that goes in gets the number after the greatest
imported_by : (full spent : Bool) (tunes more : List Tune) (first last : ℕ) (reply : Reply)
    → (let outcome : TunesOutcome = cond full (tunes, Err ArchiveFull) (cond spent (tunes, Err NumbersSpent) (more, Ok (Imported first last)))
    in outcome.1 ≡ Ok reply)
    → reply ≡ Imported first last
imported_by true spent tunes more first last reply e = absurd cc
imported_by false true tunes more first last reply e = absurd cc
imported_by false false tunes more first last reply e = cc

imported_as : (layout : Layout) (tunes : List Tune) (book : Texts) (reply : Reply) → (import_book layout tunes book).1 ≡ Ok reply
    → (last : ℕ) × (reply ≡ Imported (greatest tunes + 1) last)
imported_as layout tunes (Err why) reply e = absurd cc
imported_as layout tunes (Ok texts) reply e = (
  greatest tunes + length texts,
  imported_by (nat_lt (most_tunes layout) (length tunes + length texts)) (nat_lt greatest_number (greatest tunes + length texts)) tunes
      (with_texts tunes texts) (greatest tunes + 1) (greatest tunes + length texts) reply e,
)

pub imported_first : (state : State) (book : List ℕ) (first last : ℕ) (reply : Reply) → (step state (Import book)).1 ≡ Ok reply
    → reply ≡ Imported first last → greatest state.tunes + 1 ≡ first
imported_first state book first last reply e is =
    let h = imported_as state.layout state.tunes (book_answer (longest_text state.layout) book) reply e in cc (h.1, is)

pub imported_always : (state : State) (book : List ℕ) (reply : Reply) → (step state (Import book)).1 ≡ Ok reply
    → ((first last : ℕ) → reply ≡ Imported first last → ⊥) → ⊥
imported_always state book reply e other =
    let h = imported_as state.layout state.tunes (book_answer (longest_text state.layout) book) reply e in other (greatest state.tunes + 1) h.0 h.1

-- TURNS
pub about_next : (turns : List told.Turn) (i : ℕ) (turn : told.Turn) (state : State) → i < length turns → turn ≡ get_or turns i turn
    → brought_about (drop i turns) state
    ≡ brought (turn_of turn).subject (turn_of turn).is state
    ++ brought_about (drop (i + 1) turns) (after_commands (brought (turn_of turn).subject (turn_of turn).is state) state)
about_next turns i turn state l at =
    ap (λ left. brought_about left state) (drop_more turns i turn l ∙ ap (λ (t : told.Turn). t ∷ drop (i + 1) turns) (sym at))

-- AIMS
-- the last of them first
pub back_next : (aims : List told_aim.Aim) (i : ℕ) (aim : told_aim.Aim) (state : State) → i < length aims → aim ≡ get_or aims i aim
    → aimed_back (take (i + 1) aims) state
    ≡ brought (aim_for aim).subject (aim_for aim).to state
    ++ aimed_back (take i aims) (after_commands (brought (aim_for aim).subject (aim_for aim).to state) state)
back_next aims i aim state l at =
    ap (λ some. aimed_back some state) (take_more aims i aim l ∙ ap (λ (a : told_aim.Aim). take i aims ++ a ∷ []) (sym at))
    ∙ ap (λ some. brought_each (map aim_for some) state) (reverse-append (take i aims) (aim ∷ []))
