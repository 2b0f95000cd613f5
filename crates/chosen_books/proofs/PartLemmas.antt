-- Parts as far as they are written.
use Rattle.std.proofs.Common.{◌≡◌, ◌≢◌, ℕ, ◌+◌, ◌<◌, ◌≤◌, ◌^◌, List, [], ◌∷◌, ◌++◌, length, Ok, refl, ap, sym, ◌∙◌, subst, arith, append_assoc, append-nil}
use Rattle.std.proofs.Common.{true, false}
use Rattle.std.specs.Prelude.{codes, decimal, ◌==◌}
use Rattle.std.proofs.lemmas.Bool.{eqb-true}
use Rattle.std.proofs.lemmas.Fmt.{length-decimal-le}
use Rattle.std.proofs.lemmas.List.{length-append}
use Rattle.abc_fields.specs.Books.{book_answer}
use Rattle.tune_books.specs.WrittenBooks.{written_tune, written_tunes, written_book}
use Rattle.chosen_books.specs.ChosenTunes.{GoIn, texts_of}
use Rattle.chosen_books.specs.declared.found_tunes.GoodTune.{GoodTune}
use Rattle.chosen_books.specs.Inside.WrittenParts.{TextsFit, IsClosed}

-- BYTES
tunes_more : (numbers : List ℕ) (texts : List (List ℕ)) (number : ℕ) (text : List ℕ) → length numbers ≡ length texts
    → written_tunes (numbers ++ number ∷ []) (texts ++ text ∷ []) ≡ written_tunes numbers texts ++ (codes "\n" ++ written_tune number text)
tunes_more [] [] number text same = append-nil (codes "\n" ++ written_tune number text)
tunes_more [] (t ∷ texts) number text same = absurd (omega arith)
tunes_more (n ∷ numbers) [] number text same = absurd (omega arith)
tunes_more (n ∷ numbers) (t ∷ texts) number text same =
    ap (λ bytes. (codes "\n" ++ written_tune n t) ++ bytes) (tunes_more numbers texts number text (omega arith))
    ∙ sym (append_assoc (codes "\n" ++ written_tune n t) (written_tunes numbers texts) (codes "\n" ++ written_tune number text))

tune_length : (number : ℕ) (text : List ℕ) → number < 2 ^ 32 → length (codes "\n" ++ written_tune number text) ≤ 14 + length text
tune_length number text small =
    omega (
      arith,
      length-decimal-le 10 number (omega arith) (omega arith) (omega arith),
      length-append (decimal number ++ codes "\n") text,
      length-append (decimal number) (codes "\n"),
    )

-- a text more
pub book_length : (numbers : List ℕ) (texts : List (List ℕ)) (number : ℕ) (text : List ℕ) (bound : ℕ) → number < 2 ^ 32 → length numbers ≡ length texts
    → length (written_book numbers texts) ≤ bound
    → length (written_book (numbers ++ number ∷ []) (texts ++ text ∷ [])) ≤ bound + (length text + 14)
book_length numbers texts number text bound small same fits =
    let more : written_book (numbers ++ number ∷ []) (texts ++ text ∷ []) ≡ written_book numbers texts ++ (codes "\n" ++ written_tune number text) =
    ap (λ bytes. codes "%abc-2.1\n" ++ bytes) (tunes_more numbers texts number text same)
    ∙ sym (append_assoc (codes "%abc-2.1\n") (written_tunes numbers texts) (codes "\n" ++ written_tune number text)) in
    omega (arith, ap length more, length-append (written_book numbers texts) (codes "\n" ++ written_tune number text), tune_length number text small)

pub one_longer : (xs : List ℕ) (ys : List (List ℕ)) (x : ℕ) (y : List ℕ) → length xs ≡ length ys → length (xs ++ x ∷ []) ≡ length (ys ++ y ∷ [])
one_longer xs ys x y same = omega (arith, length-append xs (x ∷ []), length-append ys (y ∷ []))

-- TEXTS THAT FIT
pub fit_front : (longest : ℕ) (xs ys : List (List ℕ)) → TextsFit longest (xs ++ ys) → TextsFit longest xs
fit_front longest [] ys fit = tt
fit_front longest (x ∷ xs) ys fit = (fit.0, fit_front longest xs ys fit.1)

pub fit_back : (longest : ℕ) (xs ys : List (List ℕ)) → TextsFit longest (xs ++ ys) → TextsFit longest ys
fit_back longest [] ys fit = fit
fit_back longest (x ∷ xs) ys fit = fit_back longest xs ys fit.1

-- PARTS
-- a part more
pub go_more : (longest : ℕ) (parts : List (List ℕ)) (done : List (List ℕ)) (part : List ℕ) (some : List (List ℕ)) → GoIn longest parts done
    → book_answer longest part ≡ Ok some → GoIn longest (parts ++ part ∷ []) (done ++ some)
go_more longest [] done part some go answer = (some, [], answer, append-nil some ∙ ap (λ ts. ts ++ some) (sym go), refl)
go_more longest (first ∷ parts) done part some go answer = (
  go.0,
  go.1 ++ some,
  go.2,
  sym (append_assoc go.0 go.1 some) ∙ ap (λ ts. ts ++ some) go.3,
  go_more longest parts go.1 part some go.4 answer,
)

-- a part that is left goes in behind the others
pub closed_last : (longest : ℕ) (texts parts rest : List (List ℕ)) (part : List ℕ) → IsClosed longest texts parts rest → book_answer longest part ≡ Ok rest
    → GoIn longest (parts ++ part ∷ []) texts
closed_last longest texts parts rest part closed answer =
    subst (GoIn longest (parts ++ part ∷ [])) closed.whole (go_more longest parts closed.done part rest closed.go answer)

-- a part is put behind the others
pub closed_part : (longest : ℕ) (done texts old new rest : List (List ℕ)) (part : List ℕ) → GoIn longest old done → book_answer longest part ≡ Ok texts
    → new ≡ old ++ part ∷ [] → rest ≡ [] → IsClosed longest (done ++ texts) new rest
closed_part longest done texts old new rest part go answer put none = record {
  done = done ++ texts;
  go = subst (λ ps. GoIn longest ps (done ++ texts)) (sym put) (go_more longest old done part texts go answer);
  whole = ap (λ ts. (done ++ texts) ++ ts) none ∙ append-nil (done ++ texts);
}

-- a part without a text is none
pub closed_none : (longest : ℕ) (done texts old new rest : List (List ℕ)) → GoIn longest old done → texts ≡ [] → new ≡ old → rest ≡ []
    → IsClosed longest (done ++ texts) new rest
closed_none longest done texts old new rest go empty same none = record {
  done = done;
  go = subst (λ ps. GoIn longest ps done) (sym same) go;
  whole = ap (λ ts. done ++ ts) (none ∙ sym empty);
}

-- what is left of the texts fits
pub part_fits : (longest : ℕ) (all parts texts later : List (List ℕ)) → TextsFit longest all → IsClosed longest all parts (texts ++ later)
    → TextsFit longest texts
part_fits longest all parts texts later fit was =
    fit_front longest texts later (fit_back longest was.done (texts ++ later) (subst (TextsFit longest) (sym was.whole) fit))

-- a text goes from what is left into the part
pub closed_more : (longest : ℕ) (all old parts texts later rest more next : List (List ℕ)) (text : List ℕ) (was : IsClosed longest all old (texts ++ later))
    → IsClosed longest (was.done ++ texts) parts rest → later ≡ text ∷ next → more ≡ rest ++ text ∷ [] → IsClosed longest all parts (more ++ next)
closed_more longest all old parts texts later rest more next text was is first put = record {
  done = is.done;
  go = is.go;
  whole = ap (λ ts. is.done ++ (ts ++ next)) put ∙ ap (λ ts. is.done ++ ts) (append_assoc rest (text ∷ []) next ∙ ap (λ ts. rest ++ ts) (sym first))
      ∙ sym (append_assoc is.done rest later) ∙ ap (λ ts. ts ++ later) is.whole ∙ append_assoc was.done texts later ∙ was.whole;
}

-- nothing is left
pub closed_end : (longest : ℕ) (texts parts rest : List (List ℕ)) → IsClosed longest texts parts rest → rest ≡ [] → GoIn longest parts texts
closed_end longest texts parts rest closed none =
    subst (GoIn longest parts) (sym (ap (λ ts. closed.done ++ ts) none ∙ append-nil closed.done) ∙ closed.whole) closed.go

pub no_texts : (tunes : List GoodTune) → length tunes ≡ 0 → texts_of tunes ≡ []
no_texts [] none = refl
no_texts (tune ∷ tunes) none = absurd (omega arith)

pub full_texts : (texts : List (List ℕ)) (n : ℕ) → false ≡ (n == 0) → n ≡ length texts → texts ≢ []
full_texts [] n some same none = absurd (let h : false ≡ true = rw same at some in cc)
full_texts (text ∷ texts) n some same none = absurd (let h : text ∷ texts ≡ [] = none in cc)

pub empty_texts : (texts : List (List ℕ)) (n : ℕ) → true ≡ (n == 0) → n ≡ length texts → texts ≡ []
empty_texts [] n none same = refl
empty_texts (text ∷ texts) n none same = absurd (omega (arith, same, eqb-true n 0 (sym none)))
