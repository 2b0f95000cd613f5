-- What a line does to the tune that it stands in.
use Rattle.std.proofs.Common.{◌≡◌, ℕ, ◌+◌, Bool, true, false, ◌||◌, List, [], ◌∷◌, ◌++◌, length}
use Rattle.std.proofs.Common.{refl, ap, sym, ◌∙◌, subst, arith}
use Rattle.std.proofs.lemmas.List.{append_assoc, length-append}
use Rattle.std.proofs.lemmas.Bool.{cond_both, or_parts}
use Rattle.abc_fields.specs.Bytes.{line_feed}
use Rattle.abc_fields.specs.Tunes.{is_key_line, is_tune_start, is_empty_line, ends_tune, tune_run, tune_runs, joined, has_key}
use Rattle.abc_fields.specs.Fields.{header_of}
use Rattle.abc_fields.specs.FileHeaders.{before_key}
use Rattle.abc_fields.specs.Inside.LinesLeft.{IsRestAfter, still}
use Rattle.abc_fields.proofs.RuleSums.{joined-append, joined-length}

-- THE LINES LEFT
-- a line of a tune was read
pub rest_more : (all old : List (List ℕ)) (line : List ℕ) (new : List (List ℕ)) → IsRestAfter all old → old ≡ line ∷ new → ends_tune line ≡ false
    → IsRestAfter all new
rest_more all old line new is whole within =
    let at : IsRestAfter all (line ∷ new) = subst (IsRestAfter all) whole is in
    let parts = or_parts (is_empty_line line) (is_tune_start line) within in
    let runs : tune_runs (line ∷ new) ≡ tune_runs new = rw parts.1 refl in
    record { runs = sym runs ∙ at.runs; fewer = omega (arith, at.fewer); shorter = omega (arith, at.shorter, joined-length line new) }

pub rest_none : (all : List (List ℕ)) → IsRestAfter all all
rest_none all = record { runs = refl; fewer = omega arith; shorter = omega arith }

-- the lines of the tune, after one of them
pub run_more : (old : List (List ℕ)) (line : List ℕ) (new : List (List ℕ)) → old ≡ line ∷ new → ends_tune line ≡ false → tune_run old ≡ line ∷ tune_run new
run_more old line new whole within = ap tune_run whole ∙ rw within refl

pub runs_start : (line : List ℕ) (lines : List (List ℕ)) → is_tune_start line ≡ true → tune_runs (line ∷ lines) ≡ tune_run lines ∷ tune_runs lines
runs_start line lines starts = rw starts refl

pub runs_other : (line : List ℕ) (lines : List (List ℕ)) → is_tune_start line ≡ false → tune_runs (line ∷ lines) ≡ tune_runs lines
runs_other line lines other = rw other refl

-- THE KEY
or_true : (b : Bool) → (b || true) ≡ true
or_true true = refl
or_true false = refl

key_behind : (front lines : List (List ℕ)) → has_key lines ≡ true → has_key (front ++ lines) ≡ true
key_behind [] lines keyed = keyed
key_behind (line ∷ front) lines keyed = rw (key_behind front lines keyed) (or_true (is_key_line line))

-- a tune with lines put before its key has a key where it has one
pub key_before : (put run : List (List ℕ)) → has_key run ≡ true → has_key (before_key put run) ≡ true
key_before put [] keyed = keyed
key_before put (line ∷ run) keyed =
    cond_both (is_key_line line) (put ++ (line ∷ run)) (line ∷ before_key put run) (λ ls. has_key ls ≡ true)
    (λ is. key_behind put (line ∷ run) keyed)
    (λ other. rw other (key_before put run (rw other at keyed)))

pub none_before : (put run : List (List ℕ)) → has_key run ≡ false → before_key put run ≡ run
none_before put [] none = refl
none_before put (line ∷ run) none =
    let parts = or_parts (is_key_line line) (has_key run) none in
    rw parts.0 (ap (λ ls. line ∷ ls) (none_before put run parts.1))

pub before_length : (put run : List (List ℕ)) → has_key run ≡ true → length (joined (before_key put run)) ≡ length (joined run) + length (joined put)
before_length put [] keyed = cc
before_length put (line ∷ run) keyed =
    cond_both (is_key_line line) (put ++ (line ∷ run)) (line ∷ before_key put run)
    (λ ls. length (joined ls) ≡ length (joined (line ∷ run)) + length (joined put))
    (λ is. omega (arith, ap length (joined-append put (line ∷ run)), length-append (joined put) (joined (line ∷ run))))
    (λ other.
    let later = before_length put run (rw other at keyed) in
    omega (arith, joined-length line (before_key put run), joined-length line run))

-- WRITING
-- the key comes
pub key_comes : (old out : List ℕ) (put rest : List (List ℕ)) (line : List ℕ) → is_key_line line ≡ true → out ≡ (old ++ joined put) ++ (line ++ line_feed ∷ [])
    → out ++ joined rest ≡ old ++ joined (before_key put (line ∷ rest))
key_comes old out put rest line is written =
    rw is (ap (λ t. t ++ joined rest) written ∙ append_assoc (old ++ joined put) (line ++ line_feed ∷ []) (joined rest)
    ∙ append_assoc old (joined put) (joined (line ∷ rest)) ∙ ap (λ t. old ++ t) (sym (joined-append put (line ∷ rest))))

-- another line comes before it, or a line after it
pub line_comes : (done : Bool) (old out : List ℕ) (put rest : List (List ℕ)) (line : List ℕ) → (done ≡ false → is_key_line line ≡ false)
    → out ≡ old ++ (line ++ line_feed ∷ []) → out ++ joined (still done put rest) ≡ old ++ joined (still done put (line ∷ rest))
line_comes false old out put rest line not_key written =
    rw (not_key refl) (ap (λ t. t ++ joined (before_key put rest)) written ∙ append_assoc old (line ++ line_feed ∷ []) (joined (before_key put rest)))
line_comes true old out put rest line not_key written =
    ap (λ t. t ++ joined rest) written ∙ append_assoc old (line ++ line_feed ∷ []) (joined rest)

-- LETTERS
pub header_key : (line : List ℕ) (run : List (List ℕ)) → is_key_line line ≡ true → header_of (line ∷ run) ≡ line ∷ []
header_key line run is = rw is refl

pub header_other : (line : List ℕ) (run : List (List ℕ)) → is_key_line line ≡ false → header_of (line ∷ run) ≡ line ∷ header_of run
header_other line run other = rw other refl

pub or_swap : (a b c : Bool) → (a || (b || c)) ≡ ((b || a) || c)
or_swap true true c = refl
or_swap true false c = refl
or_swap false true c = refl
or_swap false false c = refl

pub or_false : (a : Bool) → (a || false) ≡ a
or_false true = refl
or_false false = refl
