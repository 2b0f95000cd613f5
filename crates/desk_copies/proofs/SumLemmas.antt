-- What is known of a copy by the sum beside it.
use Rattle.std.proofs.Common.{◌≡◌, ℕ, List, [], ◌∷◌, ◌++◌, refl, ap, sym, ◌∙◌, inl, inr, Result, Ok, Err, OnOk, append-nil}
use Rattle.std.proofs.lemmas.List.{append_assoc}
use Rattle.tune_desk.specs.DeskDeeds.{DeskDeed, ChangesNothing, looked, read}
use Rattle.tune_desk.specs.declared.desk.Standing.TheVariants.{Nothing}
use Rattle.tune_desk.proofs.DeedLists.{covers_rest, first_of_one}
use Rattle.desk_copies.specs.Inside.Asked.{AsksSum}
use Rattle.desk_copies.specs.SumFiles.{AgreesWith, TellsSum, sum_path}

agrees_more : {D : Type 0} (copy sum : List ℕ) (deed : DeskDeed D) (asked : List (DeskDeed D)) → AgreesWith copy sum asked
    → AgreesWith copy sum (deed ∷ asked)
agrees_more copy sum deed asked (inl h) = inl ((covers_rest (deed ∷ []) asked).each _ h)
agrees_more copy sum deed asked (inr h) = inr (h.0, (covers_rest (deed ∷ []) asked).each _ h.1, h.2)

module _ {D T E : Type 0} (copy sum : List ℕ) where
  pub sum_unasked : (why : E) (was : List (DeskDeed D)) → AsksSum {T = T} copy sum (Err why) was was
  sum_unasked why was = record { asked = []; history = sym (append-nil was); quiet = tt; agrees = tt }

  pub sum_untold : (why : E) (was now : List (DeskDeed D)) (deed : DeskDeed D) → now ≡ was ++ deed ∷ [] → ChangesNothing deed
      → AsksSum {T = T} copy sum (Err why) was now
  sum_untold why was now deed e quiet = record { asked = deed ∷ []; history = e; quiet = (quiet, tt); agrees = tt }

  -- nothing stands there
  pub no_sum : (done : T) (path : List ℕ) (was now : List (DeskDeed D)) → path ≡ sum_path copy → now ≡ was ++ looked path (Ok Nothing) ∷ []
      → AsksSum {E = E} copy sum (Ok done) was now
  no_sum done path was now same e = record {
    asked = looked (sum_path copy) (Ok Nothing) ∷ [];
    history = e ∙ ap (λ p. was ++ looked p (Ok Nothing) ∷ []) same;
    quiet = (refl, tt);
    agrees = inl (first_of_one (looked (sum_path copy) (Ok Nothing)) []);
  }

  -- what stands there tells it
  pub sum_told : (outcome : Result T E) (text path : List ℕ) (was now : List (DeskDeed D)) → path ≡ sum_path copy → now ≡ was ++ read path (Ok text) ∷ []
      → OnOk outcome (TellsSum text sum) → AsksSum copy sum outcome was now
  sum_told (Ok done) text path was now same e tells = record {
    asked = read (sum_path copy) (Ok text) ∷ [];
    history = e ∙ ap (λ p. was ++ read p (Ok text) ∷ []) same;
    quiet = (refl, tt);
    agrees = inr (text, first_of_one (read (sum_path copy) (Ok text)) [], tells);
  }
  sum_told (Err why) text path was now same e tells =
      record { asked = read path (Ok text) ∷ []; history = e; quiet = (refl, tt); agrees = tt }

  -- it was looked at, and then read
  pub sum_looked : (outcome : Result T E) (was mid now : List (DeskDeed D)) (deed : DeskDeed D) → mid ≡ was ++ deed ∷ [] → ChangesNothing deed
      → AsksSum copy sum outcome mid now → AsksSum copy sum outcome was now
  sum_looked (Ok done) was mid now deed e quiet h = record {
    asked = deed ∷ h.asked;
    history = h.history ∙ ap (λ l. l ++ h.asked) e ∙ append_assoc was (deed ∷ []) h.asked;
    quiet = (quiet, h.quiet);
    agrees = agrees_more copy sum deed h.asked h.agrees;
  }
  sum_looked (Err why) was mid now deed e quiet h = record {
    asked = deed ∷ h.asked;
    history = h.history ∙ ap (λ l. l ++ h.asked) e ∙ append_assoc was (deed ∷ []) h.asked;
    quiet = (quiet, h.quiet);
    agrees = tt;
  }
