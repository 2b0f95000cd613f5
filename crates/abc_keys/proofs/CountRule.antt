-- A count of sharps or flats: the first letters of the order have them.
use Rattle.std.proofs.Common.{◌≡◌, ℕ, zero, suc, ◌<◌, refl, ℤ, pos, negsuc, ◌≤ℤ◌, arith, ◌∙◌}
use Rattle.std.proofs.lemmas.Int.{ints}
use Rattle.abc_keys.specs.declared.letters.Accidental.{Accidental}
use Rattle.abc_keys.specs.declared.signatures.Signature.{Signature}
use Rattle.abc_keys.specs.Inside.LetterCounts.{by_count}
use Rattle.abc_keys.specs.Signatures.{of_count, HasCount}

-- THE CODE'S NUMBERS GIVE THE ORDERS
abbrev pub signature_with : (c d e f g a b : Accidental) → Signature
signature_with x d e f g a b = record { c = x; d = d; e = e; f = f; g = g; a = a; b = b }

abbrev pub by_letter : ℤ → Signature
by_letter z =
    signature_with (by_count z (pos 2) (pos 6)) (by_count z (pos 4) (pos 4)) (by_count z (pos 6) (pos 2)) (by_count z (pos 1) (pos 7))
    (by_count z (pos 3) (pos 5)) (by_count z (pos 5) (pos 3)) (by_count z (pos 7) (pos 1))

sharps_by_letter : (n : ℕ) → n < 8 → by_letter (pos n) ≡ of_count (pos n)
sharps_by_letter zero few = refl
sharps_by_letter (suc zero) few = refl
sharps_by_letter (suc (suc zero)) few = refl
sharps_by_letter (suc (suc (suc zero))) few = refl
sharps_by_letter (suc (suc (suc (suc zero)))) few = refl
sharps_by_letter (suc (suc (suc (suc (suc zero))))) few = refl
sharps_by_letter (suc (suc (suc (suc (suc (suc zero)))))) few = refl
sharps_by_letter (suc (suc (suc (suc (suc (suc (suc zero))))))) few = refl
sharps_by_letter (suc (suc (suc (suc (suc (suc (suc (suc n)))))))) few = absurd (omega arith)

flats_by_letter : (n : ℕ) → n < 7 → by_letter (negsuc n) ≡ of_count (negsuc n)
flats_by_letter zero few = refl
flats_by_letter (suc zero) few = refl
flats_by_letter (suc (suc zero)) few = refl
flats_by_letter (suc (suc (suc zero))) few = refl
flats_by_letter (suc (suc (suc (suc zero)))) few = refl
flats_by_letter (suc (suc (suc (suc (suc zero))))) few = refl
flats_by_letter (suc (suc (suc (suc (suc (suc zero)))))) few = refl
flats_by_letter (suc (suc (suc (suc (suc (suc (suc n))))))) few = absurd (omega arith)

count_by_letter : (z : ℤ) → negsuc 6 ≤ℤ z → z ≤ℤ pos 7 → by_letter z ≡ of_count z
count_by_letter (pos n) low high = sharps_by_letter n (omega (arith, ints))
count_by_letter (negsuc n) low high = flats_by_letter n (omega (arith, ints))

-- the seven parts of a signature, each by its numbers
pub by_parts : (z : ℤ) (c d e f g a b : Accidental) → c ≡ by_count z (pos 2) (pos 6) → d ≡ by_count z (pos 4) (pos 4)
    → e ≡ by_count z (pos 6) (pos 2) → f ≡ by_count z (pos 1) (pos 7) → g ≡ by_count z (pos 3) (pos 5)
    → a ≡ by_count z (pos 5) (pos 3) → b ≡ by_count z (pos 7) (pos 1)
    → negsuc 6 ≤ℤ z → z ≤ℤ pos 7 → signature_with c d e f g a b ≡ of_count z
by_parts z c d e f g a b pc pd pe pf pg pa pb low high =
    (λ i. signature_with (pc i) (pd i) (pe i) (pf i) (pg i) (pa i) (pb i)) ∙ count_by_letter z low high

-- THE ORDERS ARE KEPT
sharps_in_order : (n : ℕ) → n < 8 → HasCount (pos n) (of_count (pos n))
sharps_in_order zero few = (refl, (refl, (refl, (refl, (refl, (refl, (refl, tt)))))))
sharps_in_order (suc zero) few = (refl, (refl, (refl, (refl, (refl, (refl, (refl, tt)))))))
sharps_in_order (suc (suc zero)) few = (refl, (refl, (refl, (refl, (refl, (refl, (refl, tt)))))))
sharps_in_order (suc (suc (suc zero))) few = (refl, (refl, (refl, (refl, (refl, (refl, (refl, tt)))))))
sharps_in_order (suc (suc (suc (suc zero)))) few = (refl, (refl, (refl, (refl, (refl, (refl, (refl, tt)))))))
sharps_in_order (suc (suc (suc (suc (suc zero))))) few = (refl, (refl, (refl, (refl, (refl, (refl, (refl, tt)))))))
sharps_in_order (suc (suc (suc (suc (suc (suc zero)))))) few = (refl, (refl, (refl, (refl, (refl, (refl, (refl, tt)))))))
sharps_in_order (suc (suc (suc (suc (suc (suc (suc zero))))))) few = (refl, (refl, (refl, (refl, (refl, (refl, (refl, tt)))))))
sharps_in_order (suc (suc (suc (suc (suc (suc (suc (suc n)))))))) few = absurd (omega arith)

flats_in_order : (n : ℕ) → n < 7 → HasCount (negsuc n) (of_count (negsuc n))
flats_in_order zero few = (refl, (refl, (refl, (refl, (refl, (refl, (refl, tt)))))))
flats_in_order (suc zero) few = (refl, (refl, (refl, (refl, (refl, (refl, (refl, tt)))))))
flats_in_order (suc (suc zero)) few = (refl, (refl, (refl, (refl, (refl, (refl, (refl, tt)))))))
flats_in_order (suc (suc (suc zero))) few = (refl, (refl, (refl, (refl, (refl, (refl, (refl, tt)))))))
flats_in_order (suc (suc (suc (suc zero)))) few = (refl, (refl, (refl, (refl, (refl, (refl, (refl, tt)))))))
flats_in_order (suc (suc (suc (suc (suc zero))))) few = (refl, (refl, (refl, (refl, (refl, (refl, (refl, tt)))))))
flats_in_order (suc (suc (suc (suc (suc (suc zero)))))) few = (refl, (refl, (refl, (refl, (refl, (refl, (refl, tt)))))))
flats_in_order (suc (suc (suc (suc (suc (suc (suc n))))))) few = absurd (omega arith)

-- a count that is listed has its sharps or flats in their order
pub in_order : (z : ℤ) → negsuc 6 ≤ℤ z → z ≤ℤ pos 7 → HasCount z (of_count z)
in_order (pos n) low high = sharps_in_order n (omega (arith, ints))
in_order (negsuc n) low high = flats_in_order n (omega (arith, ints))
