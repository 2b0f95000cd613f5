-- What a text without blanks at its ends is, and that blanks put round a text change nothing.
use Rattle.std.proofs.Common.{◌≡◌, ℕ, ◌+◌, ◌-◌, ◌≤◌, Bool, true, false, List, [], ◌∷◌, ◌++◌, length, get_or, take, refl, ap, sym, ◌∙◌, ⊎_elim, arith}
use Rattle.std.specs.List.{list_all}
use Rattle.std.proofs.lemmas.Bool.{and_right, cases_Bool, cond_both, cond-true, cond-false, true≢false}
use Rattle.std.proofs.lemmas.List.{take_more}
use Rattle.std.proofs.Math.Seq.{take-length}
use Rattle.abc_fields.specs.Bytes.{is_blank, is_all_blank}
use Rattle.abc_fields.specs.Values.{IsTrimmed}
use Rattle.abc_fields.specs.Words.{trimmed_front, trimmed_back, trimmed}

module _ (test : ℕ → Bool) where
  -- the kept bytes are a text but for passing bytes before them, and their first byte does not pass
  record FrontTrimmed (text kept : List ℕ) : Type 0 where
    front : List ℕ
    whole : front ++ kept ≡ text
    passes : list_all test front ≡ true
    first : (byte : ℕ) (later : List ℕ) → byte ∷ later ≡ kept → test byte ≡ false

  -- the kept bytes are a text but for passing bytes after them, and their last byte does not pass
  record BackTrimmed (text kept : List ℕ) : Type 0 where
    back : List ℕ
    whole : kept ++ back ≡ text
    passes : list_all test back ≡ true
    last : (byte : ℕ) (earlier : List ℕ) → earlier ++ byte ∷ [] ≡ kept → test byte ≡ false

  front_law : (text : List ℕ) → FrontTrimmed text (trimmed_front test text)
  front_law [] = record { front = []; whole = refl; passes = refl; first = λ byte later e. cc }
  front_law (byte ∷ text) =
      let later = front_law text in
      cond_both (test byte) _ _ (λ kept. FrontTrimmed (byte ∷ text) kept)
      (λ is. record { front = byte ∷ later.front; whole = ap (λ t. byte ∷ t) later.whole; passes = rw is later.passes; first = later.first })
      (λ no. record { front = []; whole = refl; passes = refl; first = λ b l e. let same : b ≡ byte = cc in rw same no })

  -- where nothing is kept, each byte passes
  nothing_kept : (text : List ℕ) → BackTrimmed text (trimmed_back test text) → trimmed_back test text ≡ [] → list_all test text ≡ true
  nothing_kept text law none = let whole : law.back ≡ text = ap (λ kept. kept ++ law.back) (sym none) ∙ law.whole in rw (← whole) law.passes

  not_passing : (byte : ℕ) (text : List ℕ) → list_all test (byte ∷ text) ≡ false → list_all test text ≡ true → test byte ≡ false
  not_passing byte text not_all later = ⊎_elim (λ is. absurd (true≢false (sym (rw is later) ∙ not_all))) (λ no. no) (cases_Bool (test byte))

  last_of_more : (byte : ℕ) (text : List ℕ) → list_all test (byte ∷ text) ≡ false → BackTrimmed text (trimmed_back test text)
      → (b : ℕ) (earlier : List ℕ) → earlier ++ b ∷ [] ≡ byte ∷ trimmed_back test text → test b ≡ false
  last_of_more byte text not_all law b [] e =
      let same : b ≡ byte = cc in
      let none : [] ≡ trimmed_back test text = cc in
      rw same (not_passing byte text not_all (nothing_kept text law (sym none)))
  last_of_more byte text not_all law b (x ∷ earlier) e = law.last b earlier (cc)

  last_of_nothing : (byte : ℕ) (earlier : List ℕ) → earlier ++ byte ∷ [] ≡ [] → test byte ≡ false
  last_of_nothing byte [] e = cc
  last_of_nothing byte (x ∷ earlier) e = cc

  back_law : (text : List ℕ) → BackTrimmed text (trimmed_back test text)
  back_law [] = record { back = []; whole = refl; passes = refl; last = last_of_nothing }
  back_law (byte ∷ text) =
      let later = back_law text in
      cond_both (list_all test (byte ∷ text)) _ _ (λ kept. BackTrimmed (byte ∷ text) kept)
      (λ all. record { back = byte ∷ text; whole = refl; passes = all; last = last_of_nothing })
      (λ not_all. record { back = later.back; whole = ap (λ t. byte ∷ t) later.whole; passes = later.passes; last = last_of_more byte text not_all later })

  -- the front of what is left of a front-trimmed text by a trim of its back
  first_stays : (text : List ℕ) → ((byte : ℕ) (later : List ℕ) → byte ∷ later ≡ text → test byte ≡ false)
      → (byte : ℕ) (later : List ℕ) → byte ∷ later ≡ trimmed_back test text → test byte ≡ false
  first_stays [] first byte later e = cc
  first_stays (x ∷ text) first byte later e =
      cond_both (list_all test (x ∷ text)) [] (x ∷ trimmed_back test text) (λ kept. byte ∷ later ≡ kept → test byte ≡ false) (λ all h. cc)
      (λ not_all h. let same : byte ≡ x = cc in rw same (first x text refl)) e

  -- BYTES PUT ROUND A TEXT
  front-passing : (front text : List ℕ) → list_all test front ≡ true → trimmed_front test (front ++ text) ≡ trimmed_front test text
  front-passing [] text all = refl
  front-passing (byte ∷ front) text all = ⊎_elim
      (λ is. cond-true _ _ _ is ∙ front-passing front text (rw is at all))
      (λ no. absurd (true≢false (sym all ∙ rw no refl)))
      (cases_Bool (test byte))

  all-passing : (text back : List ℕ) → list_all test back ≡ true → list_all test (text ++ back) ≡ list_all test text
  all-passing [] back all = all
  all-passing (byte ∷ text) back all = rw (all-passing text back all) refl

  back-all : (text : List ℕ) → list_all test text ≡ true → trimmed_back test text ≡ []
  back-all [] all = refl
  back-all (byte ∷ text) all = cond-true _ _ _ all

  back-passing : (text back : List ℕ) → list_all test back ≡ true → trimmed_back test (text ++ back) ≡ trimmed_back test text
  back-passing [] back all = back-all back all
  back-passing (byte ∷ text) back all = rw (all-passing text back all, back-passing text back all) refl

  front-all : (text : List ℕ) → list_all test text ≡ true → trimmed_front test text ≡ []
  front-all [] all = refl
  front-all (byte ∷ text) all = ⊎_elim
      (λ is. cond-true _ _ _ is ∙ front-all text (rw is at all))
      (λ no. absurd (true≢false (sym all ∙ rw no refl)))
      (cases_Bool (test byte))

  both-passing : (text back : List ℕ) → list_all test back ≡ true
      → trimmed_back test (trimmed_front test (text ++ back)) ≡ trimmed_back test (trimmed_front test text)
  both-passing [] back all = ap (trimmed_back test) (front-all back all)
  both-passing (byte ∷ text) back all = ⊎_elim
      (λ is. ap (trimmed_back test) (cond-true _ _ _ is) ∙ both-passing text back all ∙ sym (ap (trimmed_back test) (cond-true _ _ _ is)))
      (λ no. ap (trimmed_back test) (cond-false _ _ _ no) ∙ back-passing (byte ∷ text) back all ∙ sym (ap (trimmed_back test) (cond-false _ _ _ no)))
      (cases_Bool (test byte))

  -- A BYTE FROM THE BACK
  -- a text with a byte that does not pass behind it
  not_all : (text : List ℕ) (byte : ℕ) → test byte ≡ false → list_all test (text ++ byte ∷ []) ≡ false
  not_all [] byte fails = rw fails refl
  not_all (b ∷ text) byte fails = and_right (test b) (list_all test (text ++ byte ∷ [])) (not_all text byte fails)

  back-stays : (text : List ℕ) (byte : ℕ) → test byte ≡ false → trimmed_back test (text ++ byte ∷ []) ≡ text ++ byte ∷ []
  back-stays [] byte fails = rw fails refl
  back-stays (b ∷ text) byte fails = cond-false _ _ _ (not_all (b ∷ text) byte fails) ∙ ap (λ kept. b ∷ kept) (back-stays text byte fails)

  -- the text is what stands before its last byte, and that byte
  with_last : (text : List ℕ) (byte : ℕ) → 1 ≤ length text → byte ≡ get_or text (length text - 1) 0 → take (length text - 1) text ++ byte ∷ [] ≡ text
  with_last text byte some is =
      let all : length text - 1 + 1 ≡ length text = omega arith in
      ap (λ b. take (length text - 1) text ++ b ∷ []) is
      ∙ sym (take_more text (length text - 1) 0 (omega arith)) ∙ ap (λ n. take n text) all ∙ take-length text

  -- a last byte that passes is trimmed, and one that does not stays with the whole text
  pub back-shorter : (text : List ℕ) (byte : ℕ) → 1 ≤ length text → byte ≡ get_or text (length text - 1) 0 → test byte ≡ true
      → trimmed_back test (take (length text - 1) text) ≡ trimmed_back test text
  back-shorter text byte some is passes =
      sym (back-passing (take (length text - 1) text) (byte ∷ []) (rw passes refl)) ∙ ap (trimmed_back test) (with_last text byte some is)

  pub back-whole : (text : List ℕ) (byte : ℕ) → 1 ≤ length text → byte ≡ get_or text (length text - 1) 0 → test byte ≡ false
      → trimmed_back test text ≡ text
  back-whole text byte some is fails =
      let whole = with_last text byte some is in
      ap (trimmed_back test) (sym whole) ∙ back-stays (take (length text - 1) text) byte fails ∙ whole

-- the trimmed text is the text but for blanks at its ends, and is not blank at either end itself
pub is_trimmed : (text : List ℕ) → IsTrimmed text (trimmed text)
is_trimmed text =
    let front = front_law is_blank text in
    let back = back_law is_blank (trimmed_front is_blank text) in
    record {
      front = front.front;
      back = back.back;
      whole = ap (λ t. front.front ++ t) back.whole ∙ front.whole;
      front_blank = front.passes;
      back_blank = back.passes;
      first = first_stays is_blank (trimmed_front is_blank text) front.first;
      last = back.last;
    }

-- blanks put round a text are trimmed with those at its ends
pub trimmed-blanks : (text front back : List ℕ) → is_all_blank front ≡ true → is_all_blank back ≡ true → trimmed (front ++ (text ++ back)) ≡ trimmed text
trimmed-blanks text front back before after =
    ap (trimmed_back is_blank) (front-passing is_blank front (text ++ back) before) ∙ both-passing is_blank text back after
