-- A pitch that is put behind those of the notes before it.
use Rattle.std.proofs.Common.{◌≡◌, ℕ, ◌+◌, ◌<◌, List, [], ◌∷◌, ◌++◌, length, map, take, set, ℤ, ap, sym, ◌∙◌, append_assoc}
use Rattle.std.proofs.lemmas.List.{take_more_set}
use Rattle.abc_keys.specs.declared.signatures.Signature.{Signature}
use Rattle.abc_items.specs.ItemSpans.{ItemSpan}
use Rattle.abc_notes.specs.Inside.BareNotes.{bare_note}
use Rattle.abc_notes.specs.Music.{written}
use Rattle.abc_notes.specs.Pitches.{SoundedNote, counting}

pub pitches_more : (s : Signature) (base : ℕ) (span : ItemSpan) (rest : List SoundedNote) (row : List ℤ) (taken : ℕ) (put : ℤ)
    → taken < length row → put ≡ (bare_note s base span).pitch
    → take taken row ++ map (λ n. n.pitch) (counting (bare_note s base span ∷ rest))
    ≡ take (taken + 1) (set row taken put) ++ map (λ n. n.pitch) (counting rest)
unfolding written
pitches_more s base span rest row taken put room is =
    let later : List ℤ = map (λ n. n.pitch) (counting rest) in
    ap (λ pitch. take taken row ++ pitch ∷ later) (sym is)
    ∙ sym (append_assoc (take taken row) (put ∷ []) later)
    ∙ ap (λ front. front ++ later) (sym (take_more_set row taken put room))
