-- What is known of tunes without their texts.
use Rattle.std.specs.Prelude.{ℕ, ◌<◌, List, [], ◌∷◌, length, map, ⊤}
use Rattle.tune_store.specs.declared.tune.Tune.{Tune}
use Rattle.tune_store.specs.declared.catalog.Label.{Label}

-- the label of a tune
abbrev pub label_of : Tune → Label
label_of tune =
    record { number = tune.number; revision = tune.revision; length = length tune.text }

-- the labels of tunes
abbrev pub labels_of : List Tune → List Label
labels_of tunes = map label_of tunes

-- the numbers of labels
abbrev pub numbers_of : List Label → List ℕ
numbers_of labels = map (λ label. label.number) labels

-- numbers rise strictly, and are above this one
abbrev pub LabelsRise : ℕ → List Label → Type 0
LabelsRise low [] = ⊤
LabelsRise low (label ∷ labels) = (low < label.number) × LabelsRise label.number labels
