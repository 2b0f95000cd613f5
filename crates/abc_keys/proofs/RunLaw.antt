-- The longest front of a text whose bytes pass a test.
use Rattle.std.proofs.Common.{◌≡◌, ℕ, suc, ◌+◌, Bool, true, false, cond, List, [], ◌∷◌, ◌++◌}
use Rattle.std.proofs.Common.{length, take, drop, refl, ap, sym, ◌∙◌, arith}
use Rattle.std.specs.List.{prefix_len, list_all}
use Rattle.std.proofs.lemmas.Bool.{and_parts, and_from}
use Rattle.std.proofs.lemmas.List.{take-append-drop, take_at, drop_at}
use Rattle.abc_fields.specs.Bytes.{begins}
use Rattle.abc_keys.specs.ByteRuns.{IsRun}

-- one byte more, or none
front_step : (p : ℕ → Bool) (byte n : ℕ) (text : List ℕ) (c : Bool) → p byte ≡ c
    → list_all p (take n text) ≡ true
    → list_all p (take (cond c (1 + n) 0) (byte ∷ text)) ≡ true
front_step p byte n text true passes rest =
    let k : 1 + n ≡ suc n = omega arith in
    ap (λ m. list_all p (take m (byte ∷ text))) k
    ∙ and_from (p byte) (list_all p (take n text)) passes rest
front_step p byte n text false passes rest = refl

-- one byte more, or none, and what stops the front
stop_step : (p : ℕ → Bool) (byte n : ℕ) (text : List ℕ) (c : Bool) → p byte ≡ c
    → begins p (drop n text) ≡ false
    → begins p (drop (cond c (1 + n) 0) (byte ∷ text)) ≡ false
stop_step p byte n text true passes rest = let k : 1 + n ≡ suc n =
    omega arith in ap (λ m. begins p (drop m (byte ∷ text))) k ∙ rest
stop_step p byte n text false passes rest = passes

-- each byte of the longest front passes
front_passes : (p : ℕ → Bool) (text : List ℕ) → list_all p (take (prefix_len p text) text) ≡ true
front_passes p [] = refl
front_passes p (byte ∷ text) =
    front_step p byte (prefix_len p text) text (p byte) refl (front_passes p text)

-- the byte after it does not
rest_stops : (p : ℕ → Bool) (text : List ℕ) → begins p (drop (prefix_len p text) text) ≡ false
rest_stops p [] = refl
rest_stops p (byte ∷ text) =
    stop_step p byte (prefix_len p text) text (p byte) refl (rest_stops p text)

-- the longest front is a run
pub front_is_run : (p : ℕ → Bool) (text : List ℕ)
    → IsRun p (take (prefix_len p text) text) (drop (prefix_len p text) text)
front_is_run p text = record { all = front_passes p text; ends = rest_stops p text }

-- bytes that pass, before one that does not, are the longest front
longest : (p : ℕ → Bool) (run rest : List ℕ) → list_all p run ≡ true → begins p rest ≡ false
    → prefix_len p (run ++ rest) ≡ length run
longest p [] [] all ends = refl
longest p [] (byte ∷ rest) all ends = rw ends refl
longest p (byte ∷ run) rest all ends =
    let parts = and_parts (p byte) (list_all p run) all in
    let one : 1 + length run ≡ suc (length run) = omega arith in
    rw (parts.0) (ap (λ n. 1 + n) (longest p run rest parts.1 ends) ∙ one)

-- a run is the longest front of the text that it begins
pub run_is_longest : (p : ℕ → Bool) (run rest : List ℕ) → IsRun p run rest
    → prefix_len p (run ++ rest) ≡ length run
run_is_longest p run rest is = longest p run rest is.all is.ends

-- a run before a text that is cut in two
pub run_before : (p : ℕ → Bool) (run text : List ℕ) (n : ℕ) → IsRun p run text
    → IsRun p run (take n text ++ drop n text)
run_before p run text n is =
    record { all = is.all; ends = ap (begins p) (take-append-drop n text) ∙ is.ends }

-- so it is taken from the text by that front, and the rest is what is past it
pub run_taken : (p : ℕ → Bool) (run rest : List ℕ) → IsRun p run rest
    → take (prefix_len p (run ++ rest)) (run ++ rest) ≡ run
run_taken p run rest is =
    take_at run rest (prefix_len p (run ++ rest)) (sym (run_is_longest p run rest is))

pub run_past : (p : ℕ → Bool) (run rest : List ℕ) → IsRun p run rest
    → drop (prefix_len p (run ++ rest)) (run ++ rest) ≡ rest
run_past p run rest is =
    drop_at run rest (prefix_len p (run ++ rest)) (sym (run_is_longest p run rest is))
