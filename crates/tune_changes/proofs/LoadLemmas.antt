-- Tunes and set lists that come, one after another.
use Rattle.std.proofs.Common.{◌≡◌, ℕ, ◌+◌, ◌<◌, ◌≤◌, List, [], ◌∷◌, ◌++◌, map, length, take, get_or, Option, Some, None, Ok, refl, sym, ap, ◌∙◌, subst}
use Rattle.std.proofs.Common.{true, false, arith, append-nil, append_assoc}
use Rattle.std.specs.Prelude.{◌==◌}
use Rattle.std.specs.List.{AllByRecursion}
use Rattle.std.proofs.lemmas.Bool.{eq-eqb, ne_eqb}
use Rattle.std.proofs.lemmas.List.{take_more, take_all}
use Rattle.sha2.specs.Sha256.{sha256}
use Rattle.tune_sets.specs.declared.set_lists.TuneSet.{TuneSet}
use Rattle.tune_store.specs.Labels.{labels_of, numbers_of, LabelsRise}
use Rattle.tune_store.specs.State.{State, NumbersRiseFrom, tune_at}
use Rattle.tune_store.specs.declared.catalog.Label.{Label}
use Rattle.tune_store.specs.declared.tune.Tune.{Tune}
use Rattle.tune_asking.specs.AskingCalls.{tune_told, tune_or}
use Rattle.tune_undo.specs.declared.old_entries.After.TheVariants.{Text}
use Rattle.tune_undo.specs.declared.old_entries.Part.{Part}
use Rattle.tune_undo.specs.declared.old_entries.Part.TheVariants as part
use Rattle.tune_changes.specs.BroughtParts.{tune_comes, set_comes, loaded_parts}
use Rattle.tune_changes.specs.Inside.LoadCalls.{TunesCome}

-- A TUNE MORE
told_some : (number : ℕ) (there : Option Tune) (tune : Tune) → tune_or number there ≡ Ok tune → there ≡ Some tune
told_some number None tune e = absurd cc
told_some number (Some other) tune e = (let same : other ≡ tune = cc in ap Some same)

comes_more : (numbers : List ℕ) (number : ℕ) (was mid : List Part) (state : State) (tune : Tune) → TunesCome numbers was state mid
    → tune_told number state ≡ Ok tune → TunesCome (numbers ++ number ∷ []) was state (mid ++ tune_comes tune ∷ [])
comes_more [] number was mid state tune h told =
    (tune, told_some number (tune_at number state.tunes) tune told, ap (λ parts. parts ++ tune_comes tune ∷ []) h)
comes_more (first ∷ numbers) number was mid state tune h told =
    (h.0, h.1, comes_more numbers number (was ++ tune_comes h.0 ∷ []) mid state tune h.2 told)

-- the first numbers, one by one
pub comes_next : (numbers : List ℕ) (i number : ℕ) (was mid now : List Part) (state : State) (tune : Tune) (text sum : List ℕ) → i < length numbers
    → number ≡ get_or numbers i 0 → text ≡ tune.text → sum ≡ sha256 text
    → now ≡ mid ++ part.Tune tune.number None (Text sum) ∷ [] → TunesCome (take i numbers) was state mid
    → tune_told number state ≡ Ok tune → TunesCome (take (i + 1) numbers) was state now
comes_next numbers i number was mid now state tune text sum lt at same of is h told =
    let longer : take (i + 1) numbers ≡ take i numbers ++ number ∷ [] = take_more numbers i 0 lt ∙ ap (λ n. take i numbers ++ n ∷ []) (sym at) in
    let parts : now ≡ mid ++ tune_comes tune ∷ [] = is ∙ ap (λ s. mid ++ part.Tune tune.number None (Text s) ∷ []) (of ∙ ap sha256 same) in
    subst (λ l. TunesCome l was state now) (sym longer)
    (subst (TunesCome (take i numbers ++ number ∷ []) was state) (sym parts) (comes_more (take i numbers) number was mid state tune h told))

-- all of them
pub all_come : (numbers : List ℕ) (i : ℕ) (was now : List Part) (state : State) → length numbers ≤ i
    → TunesCome (take i numbers) was state now → TunesCome numbers was state now
all_come numbers i was now state le h = subst (λ l. TunesCome l was state now) (take_all i numbers le) h

-- ALL TUNES
rises_of : (low : ℕ) (tunes : List Tune) → LabelsRise low (labels_of tunes) → NumbersRiseFrom low tunes
rises_of low [] rises = tt
rises_of low (tune ∷ tunes) rises = (rises.0, rises_of tune.number tunes rises.1)

-- each of these tunes is the one of its number
abbrev AreOwn : List Tune → List Tune → Type 0
AreOwn all tunes = AllByRecursion (λ (tune : Tune). tune_at tune.number all ≡ Some tune) tunes

in_later : (first : Tune) (all tunes : List Tune) (low : ℕ) → first.number ≤ low → NumbersRiseFrom low tunes → AreOwn all tunes → AreOwn (first ∷ all) tunes
in_later first all [] low le rises own = tt
in_later first all (tune ∷ tunes) low le rises own =
    let l : low < tune.number = rises.0 in
    let apart : (first.number == tune.number) ≡ false = ne_eqb first.number tune.number (λ e. absurd (omega arith)) in
    (rw apart own.0, in_later first all tunes tune.number (omega arith) rises.1 own.1)

all_own : (low : ℕ) (tunes : List Tune) → NumbersRiseFrom low tunes → AreOwn tunes tunes
all_own low [] rises = tt
all_own low (tune ∷ tunes) rises =
    let own : (tune.number == tune.number) ≡ true = eq-eqb tune.number tune.number refl in
    (rw own refl, in_later tune tunes tunes tune.number (omega arith) rises.1 (all_own tune.number tunes rises.1))

came : (state : State) (tunes : List Tune) (was now : List Part) → AreOwn state.tunes tunes → TunesCome (numbers_of (labels_of tunes)) was state now
    → now ≡ was ++ map tune_comes tunes
came state [] was now own h = h ∙ sym (append-nil was)
came state (tune ∷ tunes) was now own h =
    let found : Some h.0 ≡ Some tune = sym h.1 ∙ own.0 in
    let same : h.0 ≡ tune = cc in
    came state tunes (was ++ tune_comes h.0 ∷ []) now own.1 h.2
    ∙ append_assoc was (tune_comes h.0 ∷ []) (map tune_comes tunes)
    ∙ ap (λ t. was ++ tune_comes t ∷ map tune_comes tunes) same

-- THE WHOLE
pub parts_whole : (labels : List Label) (state : State) (numbers : List ℕ) (none mid now : List Part) (sets : List TuneSet) → LabelsRise 0 labels
    → labels ≡ labels_of state.tunes → none ≡ [] → numbers ≡ numbers_of labels → TunesCome numbers none state mid → sets ≡ state.sets
    → now ≡ mid ++ map set_comes sets → now ≡ loaded_parts state
parts_whole labels state numbers none mid now sets rise same empty are come sets_are is =
    let own = all_own 0 state.tunes (rises_of 0 state.tunes (subst (LabelsRise 0) same rise)) in
    let come_all : TunesCome (numbers_of (labels_of state.tunes)) [] state mid = subst (λ l. TunesCome (numbers_of (labels_of state.tunes)) l state mid) empty
    (subst (λ l. TunesCome l none state mid) (are ∙ ap numbers_of same) come) in
    is ∙ ap (λ l. l ++ map set_comes sets) (came state state.tunes [] mid own come_all)
    ∙ ap (λ l. map tune_comes state.tunes ++ map set_comes l) sets_are
