-- A result by all its deeds.
use Rattle.std.proofs.Common.{◌≡◌, ◌≢◌, ℕ, List, [], ◌∷◌, ◌++◌, Bool, true, false, refl, ap}
use Rattle.std.proofs.Common.{sym, ◌∙◌, subst, inl, inr, Ok, Err, Option, Some, None, MatchOption, string_bytes}
use Rattle.std.proofs.lemmas.List.{append_assoc}
use Rattle.std.specs.List.{AllByRecursion, Contains}
use Rattle.tune_desk.specs.DeskDeeds.{DeskDeed, Answer, ChangesNothing, looked, compared, tested, followed}
use Rattle.tune_desk.specs.DeskDeeds.{read, listed, made, named, named_over, removed, opened, closed}
use Rattle.tune_desk.specs.DeskDeeds.{grown, created, linked, shared}
use Rattle.tune_desk.specs.Inside.Asks.{MayBeWritten}
use Rattle.tune_desk.specs.BegunResults.{PutOutcome, naming_of, refusal_of_removal}
use Rattle.tune_desk.specs.Inside.Puts.{WritesTo, refusal_of_making}
use Rattle.tune_desk.specs.Refusals.{Refuses, HasCause, DoneBefore, NamesNothing, LeadsNowhere}
use Rattle.tune_desk.specs.Results.{Places, LeadsTo, KeepsTo, ComesInOrder, EachAfter, SparesFiles, IsOwn, LeavesFile, Names, WritesTarget, new_of}
use Rattle.tune_desk.specs.declared.desk.DeskFault.{DeskFault}
use Rattle.tune_desk.specs.declared.desk.DeskFault.TheVariants as desk
use Rattle.tune_desk.specs.declared.refusals.ResultFault.{ResultFault}
use Rattle.tune_desk.specs.declared.refusals.ResultRefusal.{ResultRefusal}
use Rattle.tune_desk.specs.declared.refusals.ResultRefusal.TheVariants.{Archive, OtherArchive, Companion}
use Rattle.tune_desk.specs.declared.refusals.ResultRefusal.TheVariants.{Standing, Folder, NotFile}
use Rattle.tune_desk.specs.declared.refusals.ResultRefusal.TheVariants.{NoFolder, Unasked, OutOfMemory}
use Rattle.tune_desk.specs.declared.refusals.ResultRefusal.TheVariants.{NewStands, NotMade, NotNamed, Left, Unkept}
use Rattle.tune_desk.proofs.DeedLists.{covers_front, covers_rest, first_of_one, All-append, All-map, leads-more, archive-more, replaced-more, cause-more}
use Rattle.tune_desk.proofs.PutLemmas.{Done, not_made, put, unkept, taken_away, done_of}
use Rattle.tune_desk.proofs.SpareLemmas.{each_append, each_of_all, quiet_reads, reading_keeps, reading_comes}

-- What is known before TARGET.new is made.
pub record Cleared {D : Type 0} (places : Places) (target : List ℕ) (over : Bool) (before : List (DeskDeed D)) : Type 0 where
  pub leads : LeadsTo places target before
  pub may : MayBeWritten places target over before

pub cleared-more : {D : Type 0} (places : Places) (target : List ℕ) (over : Bool) (front rest : List (DeskDeed D)) → Cleared places target over front
    → Cleared places target over (front ++ rest)
cleared-more places target over front rest h = record {
  leads = leads-more (covers_front front rest) places target h.leads;
  may = record {
    spares = archive-more (covers_front front rest) places target h.may.spares;
    replaces = λ e. replaced-more (covers_front front rest) places target (h.may.replaces e);
  };
}

pub naming_keeps : {D : Type 0} (places : Places) (target : List ℕ) (over : Bool) (answer : Answer) (before : List (DeskDeed D))
    → Cleared places target over before
    → KeepsTo places before (naming_of target over answer)
naming_keeps places target true answer before h = (h.leads, refl)
naming_keeps places target false answer before h = (h.leads, refl)

pub naming_comes : {D : Type 0} (places : Places) (target : List ℕ) (over : Bool) (answer : Answer) (before : List (DeskDeed D))
    → Cleared places target over before
    → IsOwn (new_of target) before → ComesInOrder places before (naming_of target over answer)
naming_comes places target true answer before h own = (own, h.may.spares, h.may.replaces refl)
naming_comes places target false answer before h own = (own, h.may.spares)

pub naming_leaves : (D : Type 0) (target : List ℕ) (over : Bool) (fault : DeskFault) → fault ≢ desk.Unkept
    → LeavesFile {D = D} (new_of target) (naming_of target over (Err fault))
naming_leaves D target true fault h = h
naming_leaves D target false fault h = h

naming_names : {D : Type 0} (target : List ℕ) (over : Bool) (answer : Answer) → Names {D = D} target answer (naming_of target over answer)
naming_names target true answer = inr refl
naming_names target false answer = inl refl

naming_fails : (D : Type 0) (target : List ℕ) (over : Bool) (fault : DeskFault) → fault ≢ desk.Unkept → NamesNothing {D = D} (naming_of target over (Err fault))
naming_fails D target true fault h = (refl, λ e. h (cc))
naming_fails D target false fault h = (refl, λ e. h (cc))

module _ {D : Type 0} (places : Places) (target : List ℕ) (over : Bool) (bytes : List ℕ) (before : List (DeskDeed D))
    (h : Cleared places target over before) where
  own_made : IsOwn (new_of target) (before ++ made (new_of target) bytes (Ok tt) ∷ [])
  own_made = record {
    making = made (new_of target) bytes (Ok tt);
    earlier = before;
    since = [];
    makes = inl (bytes, refl);
    history = refl;
    left = tt;
  }

  own_unnamed : (fault : DeskFault) → fault ≢ desk.Unkept
      → IsOwn (new_of target) ((before ++ made (new_of target) bytes (Ok tt) ∷ []) ++ naming_of target over (Err fault) ∷ [])
  own_unnamed fault other = record {
    making = made (new_of target) bytes (Ok tt);
    earlier = before;
    since = naming_of target over (Err fault) ∷ [];
    makes = inl (bytes, refl);
    history = append_assoc before (made (new_of target) bytes (Ok tt) ∷ []) (naming_of target over (Err fault) ∷ []);
    left = (naming_leaves D target over fault other, tt);
  }

  after_made : (answer : Answer) → Cleared places target over (before ++ made (new_of target) bytes answer ∷ [])
  after_made answer = cleared-more places target over before (made (new_of target) bytes answer ∷ []) h

  pub done_keeps : (outcome : PutOutcome) (deeds : List (DeskDeed D)) → Done target over bytes outcome deeds → EachAfter (KeepsTo places) before deeds
  done_keeps outcome deeds (not_made fault e o) = subst (λ l. EachAfter (KeepsTo places) before l) (sym e) ((target, h.leads, refl), tt)
  done_keeps outcome deeds (put e o) = subst (λ l. EachAfter (KeepsTo places) before l) (sym e)
      ((target, h.leads, refl), (naming_keeps places target over (Ok tt) _ (after_made (Ok tt)), tt))
  done_keeps outcome deeds (unkept e o) = subst (λ l. EachAfter (KeepsTo places) before l) (sym e)
      ((target, h.leads, refl), (naming_keeps places target over (Err desk.Unkept) _ (after_made (Ok tt)), tt))
  done_keeps outcome deeds (taken_away fault answer other e o) = subst (λ l. EachAfter (KeepsTo places) before l) (sym e) (
    (target, h.leads, refl),
    (
      naming_keeps places target over (Err fault) _ (after_made (Ok tt)),
      (
        (
          target,
          (cleared-more places target over (before ++ made (new_of target) bytes (Ok tt) ∷ []) (naming_of target over (Err fault) ∷ [])
              (after_made (Ok tt))).leads,
          refl,
        ),
        tt,
      ),
    ),
  )

  pub done_comes : (outcome : PutOutcome) (deeds : List (DeskDeed D)) → Done target over bytes outcome deeds → EachAfter (ComesInOrder places) before deeds
  done_comes outcome deeds (not_made fault e o) = subst (λ l. EachAfter (ComesInOrder places) before l) (sym e) ((target, h.may.spares, refl), tt)
  done_comes outcome deeds (put e o) = subst (λ l. EachAfter (ComesInOrder places) before l) (sym e)
      ((target, h.may.spares, refl), (naming_comes places target over (Ok tt) _ (after_made (Ok tt)) own_made, tt))
  done_comes outcome deeds (unkept e o) = subst (λ l. EachAfter (ComesInOrder places) before l) (sym e)
      ((target, h.may.spares, refl), (naming_comes places target over (Err desk.Unkept) _ (after_made (Ok tt)) own_made, tt))
  done_comes outcome deeds (taken_away fault answer other e o) = subst (λ l. EachAfter (ComesInOrder places) before l) (sym e)
      ((target, h.may.spares, refl), (naming_comes places target over (Err fault) _ (after_made (Ok tt)) own_made, (own_unnamed fault other, tt)))

at_target : {X : Type 0} (found : Option X) (bytes_of : X → List ℕ) (target : List ℕ) (P : Type 0) (Q : List ℕ → Type 0)
    → MatchOption found ⊥ (λ name. bytes_of name ≡ target)
    → Q target → MatchOption found P (λ name. Q (bytes_of name))
at_target None bytes_of target P Q h q = absurd h
at_target (Some name) bytes_of target P Q h q = subst Q (sym h) q

ok_is_no_err : (why : ResultRefusal) → (let o : PutOutcome = Ok tt in o) ≡ Err why → ⊥
ok_is_no_err why e = cc

err_once : (a b : ResultRefusal) → (let o : PutOutcome = Err a in o) ≡ Err b → a ≡ b
err_once a b e = cc

not_removed : (fault : DeskFault) (answer : Answer) → refusal_of_removal fault answer ≡ Ok tt → ⊥
not_removed fault (Ok done) e = cc
not_removed fault (Err left) e = cc

quiet_names : {D : Type 0} (deed : DeskDeed D) → ChangesNothing deed → NamesNothing deed
quiet_names (looked path answer) h = tt
quiet_names (compared path other answer) h = tt
quiet_names (tested path bytes answer) h = tt
quiet_names (followed path answer) h = tt
quiet_names (read path answer) h = tt
quiet_names (listed path answer) h = tt
quiet_names (made path bytes answer) h = tt
quiet_names (named from to answer) h = absurd (cc)
quiet_names (named_over from to answer) h = absurd (cc)
quiet_names (removed path answer) h = tt
quiet_names (opened path access answer) h = tt
quiet_names (closed path disk) h = tt
quiet_names (grown path bytes answer) h = tt
quiet_names (created path answer) h = tt
quiet_names (linked from to answer) h = tt
quiet_names (shared path like answer) h = tt

quiet_done : {D : Type 0} (why : ResultRefusal) (deed : DeskDeed D) → ChangesNothing deed → DoneBefore why deed
quiet_done Archive deed h = h
quiet_done OtherArchive deed h = h
quiet_done Companion deed h = h
quiet_done Standing deed h = h
quiet_done Folder deed h = h
quiet_done NotFile deed h = h
quiet_done NoFolder deed h = h
quiet_done (Unasked fault) deed h = h
quiet_done OutOfMemory deed h = h
quiet_done NewStands deed h = quiet_names deed h
quiet_done (NotMade fault) deed h = quiet_names deed h
quiet_done (NotNamed fault) deed h = quiet_names deed h
quiet_done (Left fault) deed h = quiet_names deed h
quiet_done Unkept deed h = tt

module _ (D : Type 0) (places : Places) (target : List ℕ) (over : Bool) (bytes : List ℕ) where
  made_story : (fault : DeskFault) → AllByRecursion (DoneBefore {D = D} (refusal_of_making fault)) (made (new_of target) bytes (Err fault) ∷ [])
      × HasCause {D = D} places target (refusal_of_making fault) (made (new_of target) bytes (Err fault) ∷ [])
  made_story desk.Taken = ((tt, tt), inl (bytes, first_of_one _ []))
  made_story desk.Missing = ((tt, tt), inl (bytes, first_of_one _ []))
  made_story desk.NotFile = ((tt, tt), inl (bytes, first_of_one _ []))
  made_story desk.Busy = ((tt, tt), inl (bytes, first_of_one _ []))
  made_story desk.Unkept = ((tt, tt), inl (bytes, first_of_one _ []))
  made_story desk.OutOfMemory = ((tt, tt), inl (bytes, first_of_one _ []))
  made_story desk.Device = ((tt, tt), inl (bytes, first_of_one _ []))

  second : (a b : DeskDeed D) (more : List (DeskDeed D)) → Contains (a ∷ b ∷ more) b
  second a b more = (covers_rest (a ∷ []) (b ∷ more)).each b (first_of_one b more)

  third : (a b c : DeskDeed D) → Contains (a ∷ b ∷ c ∷ []) c
  third a b c = (covers_rest (a ∷ b ∷ []) (c ∷ [])).each c (first_of_one c [])

  away_story : (fault : DeskFault) (answer : Answer) (why : ResultRefusal) → fault ≢ desk.Unkept → refusal_of_removal fault answer ≡ Err why
      → AllByRecursion (DoneBefore {D = D} why) (made (new_of target) bytes (Ok tt) ∷ naming_of target over (Err fault) ∷ removed (new_of target) answer ∷ [])
      × HasCause {D = D} places target why (made (new_of target) bytes (Ok tt) ∷ naming_of target over (Err fault) ∷ removed (new_of target) answer ∷ [])
  away_story fault (Ok done) why other e =
      let all : List (DeskDeed D) = made (new_of target) bytes (Ok tt) ∷ naming_of target over (Err fault) ∷ removed (new_of target) (Ok tt) ∷ [] in
      subst (λ w. AllByRecursion (DoneBefore w) all × HasCause places target w all) (err_once (NotNamed fault) why e) (
        (tt, (naming_fails D target over fault other, (tt, tt))),
        ((naming_of target over (Err fault), naming_names target over (Err fault), second _ _ (removed (new_of target) (Ok tt) ∷ [])), third _ _ _),
      )
  away_story fault (Err left) why other e =
      let all : List (DeskDeed D) = made (new_of target) bytes (Ok tt) ∷ naming_of target over (Err fault) ∷ removed (new_of target) (Err left) ∷ [] in
      subst (λ w. AllByRecursion (DoneBefore w) all × HasCause places target w all) (err_once (Left left) why e)
      ((tt, (naming_fails D target over fault other, (tt, tt))), third _ _ _)

  done_refused : (outcome : PutOutcome) (why : ResultRefusal) (deeds : List (DeskDeed D)) → outcome ≡ Err why → Done target over bytes outcome deeds
      → AllByRecursion (DoneBefore why) deeds × HasCause places target why deeds
  done_refused outcome why deeds is (put d o) = absurd (ok_is_no_err why (sym o ∙ is))
  done_refused outcome why deeds is (not_made fault d o) =
      subst (λ l. AllByRecursion (DoneBefore why) l × HasCause places target why l) (sym d)
      (let all : List (DeskDeed D) = made (new_of target) bytes (Err fault) ∷ [] in
      subst (λ w. AllByRecursion (DoneBefore w) all × HasCause places target w all) (err_once (refusal_of_making fault) why (sym o ∙ is)) (made_story fault))
  done_refused outcome why deeds is (unkept d o) =
      subst (λ l. AllByRecursion (DoneBefore why) l × HasCause places target why l) (sym d)
      (let all : List (DeskDeed D) = made (new_of target) bytes (Ok tt) ∷ naming_of target over (Err desk.Unkept) ∷ [] in
      subst (λ w. AllByRecursion (DoneBefore w) all × HasCause places target w all) (err_once Unkept why (sym o ∙ is))
      ((tt, (tt, tt)), (naming_of target over (Err desk.Unkept), naming_names target over (Err desk.Unkept), second _ _ [])))
  done_refused outcome why deeds is (taken_away fault answer other d o) =
      subst (λ l. AllByRecursion (DoneBefore why) l × HasCause places target why l) (sym d) (away_story fault answer why other (sym o ∙ is))

-- OUT was followed, and then it was only asked.
module _ {D : Type 0} (places : Places) (target : List ℕ) (out : List ℕ) (was mid now : List (DeskDeed D)) (asked_out : places.out ≡ Some out)
    (e : mid ≡ was ++ followed out (Ok target) ∷ []) where
  leads_at : (rest : List (DeskDeed D)) → LeadsTo places target (followed out (Ok target) ∷ rest)
  leads_at rest = record { out = out; asked = asked_out; answered = first_of_one (followed out (Ok target)) rest }

  pub history_of : (rest : List (DeskDeed D)) → now ≡ mid ++ rest → now ≡ was ++ followed out (Ok target) ∷ rest
  history_of rest k = k ∙ ap (λ l. l ++ rest) e ∙ append_assoc was (followed out (Ok target) ∷ []) rest

  pub quiet_spares : (rest : List (DeskDeed D)) → now ≡ mid ++ rest → AllByRecursion ChangesNothing rest → SparesFiles places was now
  quiet_spares rest k quiet = record {
    since = followed out (Ok target) ∷ rest;
    history = history_of rest k;
    keeps = (
      tt,
      each_of_all ChangesNothing (KeepsTo places) (λ before deed h. reading_keeps places before deed (quiet_reads places deed h))
          (followed out (Ok target) ∷ []) rest quiet,
    );
    in_order = (
      tt,
      each_of_all ChangesNothing (ComesInOrder places) (λ before deed h. reading_comes places before deed (quiet_reads places deed h))
          (followed out (Ok target) ∷ []) rest quiet,
    );
  }

  pub cleared_at : (over : Bool) (rest : List (DeskDeed D)) → MayBeWritten places target over rest
      → Cleared places target over (followed out (Ok target) ∷ rest)
  cleared_at over rest may = record {
    leads = leads_at rest;
    may = record {
      spares = archive-more (covers_rest (followed out (Ok target) ∷ []) rest) places target may.spares;
      replaces = λ is. replaced-more (covers_rest (followed out (Ok target) ∷ []) rest) places target (may.replaces is);
    };
  }

  put_spares : (over : Bool) (bytes : List ℕ) (outcome : PutOutcome) (asked deeds : List (DeskDeed D)) → now ≡ mid ++ (asked ++ deeds)
      → AllByRecursion ChangesNothing asked
      → MayBeWritten places target over asked → Done target over bytes outcome deeds → SparesFiles places was now
  put_spares over bytes outcome asked deeds k quiet may done = record {
    since = followed out (Ok target) ∷ (asked ++ deeds);
    history = history_of (asked ++ deeds) k;
    keeps = (
      tt,
      each_append (KeepsTo places) (followed out (Ok target) ∷ []) asked deeds
          (each_of_all ChangesNothing (KeepsTo places) (λ before deed h. reading_keeps places before deed (quiet_reads places deed h))
          (followed out (Ok target) ∷ []) asked quiet)
          (done_keeps places target over bytes (followed out (Ok target) ∷ asked) (cleared_at over asked may) outcome deeds done),
    );
    in_order = (
      tt,
      each_append (ComesInOrder places) (followed out (Ok target) ∷ []) asked deeds
          (each_of_all ChangesNothing (ComesInOrder places) (λ before deed h. reading_comes places before deed (quiet_reads places deed h))
          (followed out (Ok target) ∷ []) asked quiet)
          (done_comes places target over bytes (followed out (Ok target) ∷ asked) (cleared_at over asked may) outcome deeds done),
    );
  }

  pub asked_history : (asked deeds between : List (DeskDeed D)) → between ≡ mid ++ asked → now ≡ between ++ deeds → now ≡ mid ++ (asked ++ deeds)
  asked_history asked deeds between k l = l ∙ ap (λ x. x ++ deeds) k ∙ append_assoc mid asked deeds

  pub spares_result : (bytes : List ℕ) (outcome : PutOutcome) → WritesTo places target bytes outcome mid now → SparesFiles places was now
  spares_result bytes outcome (inl h) = quiet_spares h.2.since h.2.history h.2.changes_nothing
  spares_result bytes outcome (inr h) =
      let done = done_of target h.over bytes outcome h.mid now h.puts in
      put_spares h.over bytes outcome h.asks.since done.0 (asked_history h.asks.since done.0 h.mid h.asks.history done.1)
      h.asks.changes_nothing h.asks.known done.2

  written_by : (over : Bool) (bytes : List ℕ) (outcome : PutOutcome) (asked deeds : List (DeskDeed D)) → outcome ≡ Ok tt → now ≡ mid ++ (asked ++ deeds)
      → AllByRecursion ChangesNothing asked
      → Done target over bytes outcome deeds → WritesTarget places bytes was now
  written_by over bytes outcome asked deeds is k quiet (not_made fault d o) = absurd (cc)
  written_by over bytes outcome asked deeds is k quiet (unkept d o) = absurd (cc)
  written_by over bytes outcome asked deeds is k quiet (taken_away fault answer other d o) = absurd (not_removed fault answer (sym o ∙ is))
  written_by over bytes outcome asked deeds is k quiet (put d o) = record {
    target = target;
    asked = followed out (Ok target) ∷ asked;
    naming = naming_of target over (Ok tt);
    history = history_of (asked ++ deeds) k ∙ ap (λ l. was ++ followed out (Ok target) ∷ (asked ++ l)) d
        ∙ sym (append_assoc was (followed out (Ok target) ∷ asked) (made (new_of target) bytes (Ok tt) ∷ naming_of target over (Ok tt) ∷ []));
    changes_nothing = (refl, quiet);
    leads = leads_at asked;
    names = naming_names target over (Ok tt);
  }

  pub written_result : (bytes : List ℕ) (outcome : PutOutcome) → outcome ≡ Ok tt → WritesTo places target bytes outcome mid now
      → WritesTarget places bytes was now
  written_result bytes outcome is (inl h) = absurd (ok_is_no_err h.0 (sym is ∙ h.1))
  written_result bytes outcome is (inr h) =
      let done = done_of target h.over bytes outcome h.mid now h.puts in
      written_by h.over bytes outcome h.asks.since done.0 is (asked_history h.asks.since done.0 h.mid h.asks.history done.1) h.asks.changes_nothing done.2

  pub refused_quiet : (fault : ResultFault) (rest : List (DeskDeed D)) → MatchOption fault.target ⊥ (λ name. string_bytes name ≡ target) → now ≡ mid ++ rest
      → AllByRecursion ChangesNothing rest → HasCause places target fault.why rest → Refuses places fault was now
  refused_quiet fault rest same k quiet cause = record {
    since = followed out (Ok target) ∷ rest;
    history = history_of rest k;
    done = (quiet_done fault.why (followed out (Ok target)) refl, All-map ChangesNothing (DoneBefore fault.why) (quiet_done fault.why) rest quiet);
    cause = at_target fault.target string_bytes target (LeadsNowhere places (followed out (Ok target) ∷ rest) fault.why)
        (λ t. LeadsTo places t (followed out (Ok target) ∷ rest) × HasCause places t fault.why (followed out (Ok target) ∷ rest)) same
        (leads_at rest, cause-more (covers_rest (followed out (Ok target) ∷ []) rest) places target fault.why cause);
  }

  pub refused_by : (fault : ResultFault) (asked deeds : List (DeskDeed D)) → MatchOption fault.target ⊥ (λ name. string_bytes name ≡ target)
      → now ≡ mid ++ (asked ++ deeds)
      → AllByRecursion ChangesNothing asked → AllByRecursion (DoneBefore fault.why) deeds → HasCause places target fault.why deeds
      → Refuses places fault was now
  refused_by fault asked deeds same k quiet done cause = record {
    since = followed out (Ok target) ∷ (asked ++ deeds);
    history = history_of (asked ++ deeds) k;
    done = (
      quiet_done fault.why (followed out (Ok target)) refl,
      All-append (DoneBefore fault.why) asked deeds (All-map ChangesNothing (DoneBefore fault.why) (quiet_done fault.why) asked quiet) done,
    );
    cause = at_target fault.target string_bytes target (LeadsNowhere places (followed out (Ok target) ∷ (asked ++ deeds)) fault.why)
        (λ t. LeadsTo places t (followed out (Ok target) ∷ (asked ++ deeds)) × HasCause places t fault.why (followed out (Ok target) ∷ (asked ++ deeds))) same (
          leads_at (asked ++ deeds),
          cause-more (covers_rest (followed out (Ok target) ∷ []) (asked ++ deeds)) places target fault.why
              (cause-more (covers_rest asked deeds) places target fault.why cause),
        );
  }

  pub refused_result : (fault : ResultFault) (bytes : List ℕ) (outcome : PutOutcome) → MatchOption fault.target ⊥ (λ name. string_bytes name ≡ target)
      → outcome ≡ Err fault.why
      → WritesTo places target bytes outcome mid now → Refuses places fault was now
  refused_result fault bytes outcome same is (inl h) =
      refused_quiet fault h.2.since same h.2.history h.2.changes_nothing
      (subst (λ w. HasCause places target w h.2.since) (err_once h.0 fault.why (sym h.1 ∙ is)) h.2.known)
  refused_result fault bytes outcome same is (inr h) =
      let done = done_of target h.over bytes outcome h.mid now h.puts in
      let story = done_refused D places target h.over bytes outcome fault.why done.0 is done.2 in
      refused_by fault h.asks.since done.0 same (asked_history h.asks.since done.0 h.mid h.asks.history done.1) h.asks.changes_nothing story.0 story.1

-- OUT led nowhere
pub nowhere : {D : Type 0} (places : Places) (out : List ℕ) (fault : DeskFault) (was now : List (DeskDeed D)) → places.out ≡ Some out
    → now ≡ was ++ followed out (Err fault) ∷ [] → SparesFiles places was now
nowhere places out fault was now asked e = record {
  since = followed out (Err fault) ∷ [];
  history = e;
  keeps = (tt, tt);
  in_order = (tt, tt);
}
