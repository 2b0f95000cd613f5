-- How a result is begun, by the deeds.
use Rattle.std.proofs.Common.{◌≡◌, ℕ, List, [], ◌∷◌, ◌++◌, Bool, refl, ap, sym, ◌∙◌, subst, inl, inr, Result, Ok, Err, Some, MatchOption, string_bytes}
use Rattle.std.specs.List.{AllByRecursion}
use Rattle.tune_desk.specs.BegunResults.{IsBegun}
use Rattle.tune_desk.specs.DeskDeeds.{DeskDeed, ChangesNothing, followed, created}
use Rattle.tune_desk.specs.Inside.Asks.{MayBeWritten}
use Rattle.tune_desk.specs.Inside.Begins.{BeginsAt, BeginsNew}
use Rattle.tune_desk.specs.Inside.Puts.{refusal_of_making}
use Rattle.tune_desk.specs.Refusals.{Refuses, HasCause, DoneBefore}
use Rattle.tune_desk.specs.Results.{Places, KeepsTo, ComesInOrder, EachAfter, SparesFiles, new_of}
use Rattle.tune_desk.specs.declared.begun_results.NewDisk.{NewDisk}
use Rattle.tune_desk.specs.declared.desk.DeskFault.{DeskFault}
use Rattle.tune_desk.specs.declared.desk.DeskFault.TheVariants as desk
use Rattle.tune_desk.specs.declared.refusals.ResultFault.{ResultFault}
use Rattle.tune_desk.specs.declared.refusals.ResultRefusal.{ResultRefusal}
use Rattle.tune_desk.proofs.DeedLists.{first_of_one}
use Rattle.tune_desk.proofs.ResultLemmas.{Cleared, cleared-more, cleared_at, history_of, asked_history, quiet_spares, refused_quiet, refused_by}
use Rattle.tune_desk.proofs.SpareLemmas.{each_append, each_of_all, quiet_reads, reading_keeps, reading_comes}

created_story : (D : Type 0) (places : Places) (target : List ℕ) (fault : DeskFault)
    → AllByRecursion (DoneBefore {D = D} (refusal_of_making fault)) (created (new_of target) (Err fault) ∷ [])
    × HasCause {D = D} places target (refusal_of_making fault) (created (new_of target) (Err fault) ∷ [])
created_story D places target desk.Taken = ((tt, tt), inr (first_of_one _ []))
created_story D places target desk.Missing = ((tt, tt), inr (first_of_one _ []))
created_story D places target desk.NotFile = ((tt, tt), inr (first_of_one _ []))
created_story D places target desk.Busy = ((tt, tt), inr (first_of_one _ []))
created_story D places target desk.Unkept = ((tt, tt), inr (first_of_one _ []))
created_story D places target desk.OutOfMemory = ((tt, tt), inr (first_of_one _ []))
created_story D places target desk.Device = ((tt, tt), inr (first_of_one _ []))

-- OUT was followed, and then it was asked, and TARGET.new was made.
module _ {D : Type 0} (places : Places) (target : List ℕ) (out : List ℕ) (was mid now : List (DeskDeed D)) (asked_out : places.out ≡ Some out)
    (e : mid ≡ was ++ followed out (Ok target) ∷ []) where
  module _ (over : Bool) (between asked : List (DeskDeed D)) (answer : Result D DeskFault) (k : between ≡ mid ++ asked)
      (l : now ≡ between ++ created (new_of target) answer ∷ []) (quiet : AllByRecursion ChangesNothing asked)
      (may : MayBeWritten places target over asked) where
    abbrev since : List (DeskDeed D)
    since = followed out (Ok target) ∷ (asked ++ created (new_of target) answer ∷ [])

    known : Cleared places target over (followed out (Ok target) ∷ asked)
    known = cleared_at places target out was mid now asked_out e over asked may

    all : now ≡ was ++ since
    all = history_of places target out was mid now asked_out e (asked ++ created (new_of target) answer ∷ [])
        (asked_history places target out was mid now asked_out e asked (created (new_of target) answer ∷ []) between k l)

    keeps : EachAfter (KeepsTo places) [] since
    keeps = (
      tt,
      each_append (KeepsTo places) (followed out (Ok target) ∷ []) asked (created (new_of target) answer ∷ [])
          (each_of_all ChangesNothing (KeepsTo places) (λ before deed h. reading_keeps places before deed (quiet_reads places deed h))
          (followed out (Ok target) ∷ []) asked quiet) ((target, known.leads, refl), tt),
    )

    comes : EachAfter (ComesInOrder places) [] since
    comes = (
      tt,
      each_append (ComesInOrder places) (followed out (Ok target) ∷ []) asked (created (new_of target) answer ∷ [])
          (each_of_all ChangesNothing (ComesInOrder places) (λ before deed h. reading_comes places before deed (quiet_reads places deed h))
          (followed out (Ok target) ∷ []) asked quiet) ((target, known.may.spares, refl), tt),
    )

    created_spares : SparesFiles places was now
    created_spares = record { since = since; history = all; keeps = keeps; in_order = comes }

    created_begun : (disk : D) → answer ≡ Ok disk → IsBegun places target over was now
    created_begun disk is = record {
      since = since;
      history = all;
      keeps = keeps;
      in_order = comes;
      leads = then.leads;
      spares = then.may.spares;
      replaces = then.may.replaces;
      own = record {
        making = created (new_of target) answer;
        earlier = followed out (Ok target) ∷ asked;
        since = [];
        makes = inr (disk, ap (created (new_of target)) is);
        history = refl;
        left = tt;
      };
    }
      where
        then : Cleared places target over since
        then = cleared-more places target over (followed out (Ok target) ∷ asked) (created (new_of target) answer ∷ []) known

  pub begins_spares : (result : Result (NewDisk D) ResultRefusal) → BeginsAt places target result mid now → SparesFiles places was now
  begins_spares (Ok begun) h = created_spares begun.over h.mid h.asks.since (Ok begun.disk) h.asks.history h.history h.asks.changes_nothing h.asks.known
  begins_spares (Err why) (inl h) = quiet_spares places target out was mid now asked_out e h.since h.history h.changes_nothing
  begins_spares (Err why) (inr h) = created_spares h.over h.mid h.asks.since (Err h.fault) h.asks.history h.history h.asks.changes_nothing h.asks.known

  pub begins_begun : (begun : NewDisk D) → BeginsNew places target begun mid now → IsBegun places target begun.over was now
  begins_begun begun h =
      created_begun begun.over h.mid h.asks.since (Ok begun.disk) h.asks.history h.history h.asks.changes_nothing h.asks.known begun.disk refl

  pub begins_refused : (fault : ResultFault) → MatchOption fault.target ⊥ (λ name. string_bytes name ≡ target)
      → BeginsAt places target (Err fault.why) mid now → Refuses places fault was now
  begins_refused fault same (inl h) = refused_quiet places target out was mid now asked_out e fault h.since same h.history h.changes_nothing h.known
  begins_refused fault same (inr h) =
      let story = created_story D places target h.fault in
      refused_by places target out was mid now asked_out e fault h.asks.since (created (new_of target) (Err h.fault) ∷ []) same
      (asked_history places target out was mid now asked_out e h.asks.since (created (new_of target) (Err h.fault) ∷ []) h.mid h.asks.history h.history)
      h.asks.changes_nothing
      (subst (λ w. AllByRecursion (DoneBefore {D = D} w) (created (new_of target) (Err h.fault) ∷ [])) (sym h.told) story.0)
      (subst (λ w. HasCause {D = D} places target w (created (new_of target) (Err h.fault) ∷ [])) (sym h.told) story.1)

-- the deed of a path that is that of another
pub created_at : {D : Type 0} (path other : List ℕ) (answer : Result D DeskFault) (mid now : List (DeskDeed D)) → path ≡ other
    → now ≡ mid ++ created path answer ∷ [] → now ≡ mid ++ created other answer ∷ []
created_at path other answer mid now same e = e ∙ ap (λ p. mid ++ created p answer ∷ []) same
