-- Orders that spare files: what is done before and after may be any reading.
use Rattle.std.proofs.Common.{◌≡◌, ℕ, List, [], ◌∷◌, ◌++◌, refl, ap, sym, ◌∙◌, subst}
use Rattle.std.proofs.lemmas.List.{append_assoc, append-nil}
use Rattle.std.specs.List.{AllByRecursion}
use Rattle.tune_disk.specs.declared.file.Access.TheVariants.{Read, Change}
use Rattle.tune_desk.specs.DeskDeeds.{DeskDeed, ChangesNothing, looked, compared, tested, followed, read, listed, made, named, named_over, removed, opened}
use Rattle.tune_desk.specs.DeskDeeds.{closed, grown, created, linked, shared}
use Rattle.tune_desk.specs.Results.{Places, KeepsTo, ComesInOrder, EachAfter, SparesFiles, IsReading, IsOwn}
use Rattle.tune_desk.proofs.DeedLists.{covers_rest, leads-more, archive-more, replaced-more, grows-more}

pub quiet_reads : {D : Type 0} (places : Places) (deed : DeskDeed D) → ChangesNothing deed → IsReading places deed
quiet_reads places (looked path answer) h = h
quiet_reads places (compared path other answer) h = h
quiet_reads places (tested path bytes answer) h = h
quiet_reads places (followed path answer) h = h
quiet_reads places (read path answer) h = h
quiet_reads places (listed path answer) h = h
quiet_reads places (made path bytes answer) h = h
quiet_reads places (named from to answer) h = h
quiet_reads places (named_over from to answer) h = h
quiet_reads places (removed path answer) h = h
quiet_reads places (opened path Read answer) h = h
quiet_reads places (opened path Change answer) h = absurd (cc)
quiet_reads places (closed path disk) h = h
quiet_reads places (grown path bytes answer) h = h
quiet_reads places (created path answer) h = h
quiet_reads places (linked from to answer) h = h
quiet_reads places (shared path like answer) h = h

pub reading_keeps : {D : Type 0} (places : Places) (before : List (DeskDeed D)) (deed : DeskDeed D) → IsReading places deed → KeepsTo places before deed
reading_keeps places before (looked path answer) h = tt
reading_keeps places before (compared path other answer) h = tt
reading_keeps places before (tested path bytes answer) h = tt
reading_keeps places before (followed path answer) h = tt
reading_keeps places before (read path answer) h = tt
reading_keeps places before (listed path answer) h = tt
reading_keeps places before (made path bytes answer) h = absurd (cc)
reading_keeps places before (named from to answer) h = absurd (cc)
reading_keeps places before (named_over from to answer) h = absurd (cc)
reading_keeps places before (removed path answer) h = absurd (cc)
reading_keeps places before (opened path Read answer) h = tt
reading_keeps places before (opened path Change answer) h = h
reading_keeps places before (closed path disk) h = tt
reading_keeps places before (grown path bytes answer) h = absurd (cc)
reading_keeps places before (created path answer) h = absurd (cc)
reading_keeps places before (linked from to answer) h = absurd (cc)
reading_keeps places before (shared path like answer) h = absurd (cc)

pub reading_comes : {D : Type 0} (places : Places) (before : List (DeskDeed D)) (deed : DeskDeed D) → IsReading places deed → ComesInOrder places before deed
reading_comes places before (looked path answer) h = tt
reading_comes places before (compared path other answer) h = tt
reading_comes places before (tested path bytes answer) h = tt
reading_comes places before (followed path answer) h = tt
reading_comes places before (read path answer) h = tt
reading_comes places before (listed path answer) h = tt
reading_comes places before (made path bytes answer) h = absurd (cc)
reading_comes places before (named from to answer) h = absurd (cc)
reading_comes places before (named_over from to answer) h = absurd (cc)
reading_comes places before (removed path answer) h = absurd (cc)
reading_comes places before (opened path access answer) h = tt
reading_comes places before (closed path disk) h = tt
reading_comes places before (grown path bytes answer) h = absurd (cc)
reading_comes places before (created path answer) h = absurd (cc)
reading_comes places before (linked from to answer) h = absurd (cc)
reading_comes places before (shared path like answer) h = absurd (cc)

pub each_append : {D : Type 0} (Fits : List (DeskDeed D) → DeskDeed D → Type 0) (before xs ys : List (DeskDeed D)) → EachAfter Fits before xs
    → EachAfter Fits (before ++ xs) ys
    → EachAfter Fits before (xs ++ ys)
each_append Fits before [] ys h k = subst (λ l. EachAfter Fits l ys) (append-nil before) k
each_append Fits before (x ∷ xs) ys h k =
    (h.0, each_append Fits (before ++ x ∷ []) xs ys h.1 (subst (λ l. EachAfter Fits l ys) (sym (append_assoc before (x ∷ []) xs)) k))

pub each_of_all : {D : Type 0} (P : DeskDeed D → Type 0) (Fits : List (DeskDeed D) → DeskDeed D → Type 0)
    → ((before : List (DeskDeed D)) (deed : DeskDeed D) → P deed → Fits before deed)
    → (before xs : List (DeskDeed D)) → AllByRecursion P xs → EachAfter Fits before xs
each_of_all P Fits f before [] h = tt
each_of_all P Fits f before (x ∷ xs) h = (f before x h.0, each_of_all P Fits f (before ++ x ∷ []) xs h.1)

-- the same after more
pub each_after : {D : Type 0} (Fits : List (DeskDeed D) → DeskDeed D → Type 0) (front : List (DeskDeed D))
    → ((before : List (DeskDeed D)) (deed : DeskDeed D) → Fits before deed → Fits (front ++ before) deed) → (before xs : List (DeskDeed D))
    → EachAfter Fits before xs → EachAfter Fits (front ++ before) xs
each_after Fits front f before [] h = tt
each_after Fits front f before (x ∷ xs) h =
    (f before x h.0, subst (λ l. EachAfter Fits l xs) (sym (append_assoc front before (x ∷ []))) (each_after Fits front f (before ++ x ∷ []) xs h.1))

module _ {D : Type 0} (front : List (DeskDeed D)) where
  pub own_after : (path : List ℕ) (before : List (DeskDeed D)) → IsOwn path before → IsOwn path (front ++ before)
  own_after path before h = record {
    making = h.making;
    earlier = front ++ h.earlier;
    since = h.since;
    makes = h.makes;
    history = ap (λ l. front ++ l) h.history ∙ sym (append_assoc front h.earlier (h.making ∷ h.since));
    left = h.left;
  }

  pub keeps_after : (places : Places) (before : List (DeskDeed D)) (deed : DeskDeed D) → KeepsTo places before deed → KeepsTo places (front ++ before) deed
  keeps_after places before (looked path answer) h = tt
  keeps_after places before (compared path other answer) h = tt
  keeps_after places before (tested path bytes answer) h = tt
  keeps_after places before (followed path answer) h = tt
  keeps_after places before (read path answer) h = tt
  keeps_after places before (listed path answer) h = tt
  keeps_after places before (made path bytes answer) h = (h.0, leads-more (covers_rest front before) places h.0 h.1, h.2)
  keeps_after places before (named from to answer) h = (leads-more (covers_rest front before) places to h.0, h.1)
  keeps_after places before (named_over from to answer) h = (leads-more (covers_rest front before) places to h.0, h.1)
  keeps_after places before (removed path answer) h = (h.0, leads-more (covers_rest front before) places h.0 h.1, h.2)
  keeps_after places before (opened path Read answer) h = tt
  keeps_after places before (opened path Change answer) h = h
  keeps_after places before (closed path disk) h = tt
  keeps_after places before (grown path bytes answer) h = h
  keeps_after places before (created path answer) h = (h.0, leads-more (covers_rest front before) places h.0 h.1, h.2)
  keeps_after places before (linked from to answer) h = h
  keeps_after places before (shared path like answer) h = (h.0, leads-more (covers_rest front before) places h.0 h.1, h.2)

  pub comes_after : (places : Places) (before : List (DeskDeed D)) (deed : DeskDeed D) → ComesInOrder places before deed → ComesInOrder places
      (front ++ before) deed
  comes_after places before (looked path answer) h = tt
  comes_after places before (compared path other answer) h = tt
  comes_after places before (tested path bytes answer) h = tt
  comes_after places before (followed path answer) h = tt
  comes_after places before (read path answer) h = tt
  comes_after places before (listed path answer) h = tt
  comes_after places before (made path bytes answer) h = (h.0, archive-more (covers_rest front before) places h.0 h.1, h.2)
  comes_after places before (named from to answer) h = (own_after from before h.0, archive-more (covers_rest front before) places to h.1)
  comes_after places before (named_over from to answer) h =
      (own_after from before h.0, archive-more (covers_rest front before) places to h.1, replaced-more (covers_rest front before) places to h.2)
  comes_after places before (removed path answer) h = own_after path before h
  comes_after places before (opened path access answer) h = tt
  comes_after places before (closed path disk) h = tt
  comes_after places before (grown path bytes answer) h = grows-more (covers_rest front before) places path h
  comes_after places before (created path answer) h = (h.0, archive-more (covers_rest front before) places h.0 h.1, h.2)
  comes_after places before (linked from to answer) h = tt
  comes_after places before (shared path like answer) h = own_after path before h

-- Nothing was done.
pub spares_none : {D : Type 0} (places : Places) (was : List (DeskDeed D)) → SparesFiles places was was
spares_none places was = record { since = []; history = sym (append-nil was); keeps = tt; in_order = tt }

-- What was done since is reading alone.
pub spares_reading : {D : Type 0} (places : Places) (was more : List (DeskDeed D)) → AllByRecursion (IsReading places) more → SparesFiles places was
    (was ++ more)
spares_reading places was more h = record {
  since = more;
  history = refl;
  keeps = each_of_all (IsReading places) (KeepsTo places) (reading_keeps places) [] more h;
  in_order = each_of_all (IsReading places) (ComesInOrder places) (reading_comes places) [] more h;
}

-- An order that spares files does so after another that does.
pub spares_both : {D : Type 0} (places : Places) (was mid now : List (DeskDeed D)) → SparesFiles places was mid → SparesFiles places mid now
    → SparesFiles places was now
spares_both places was mid now h k = record {
  since = h.since ++ k.since;
  history = k.history ∙ ap (λ l. l ++ k.since) h.history ∙ append_assoc was h.since k.since;
  keeps = each_append (KeepsTo places) [] h.since k.since h.keeps
      (subst (λ l. EachAfter (KeepsTo places) l k.since) (append-nil h.since)
      (each_after (KeepsTo places) h.since (keeps_after h.since places) [] k.since k.keeps));
  in_order = each_append (ComesInOrder places) [] h.since k.since h.in_order
      (subst (λ l. EachAfter (ComesInOrder places) l k.since) (append-nil h.since)
      (each_after (ComesInOrder places) h.since (comes_after h.since places) [] k.since k.in_order));
}

-- one more deed of reading
pub spares_one_more : {D : Type 0} (places : Places) (was mid now : List (DeskDeed D)) (deed : DeskDeed D) → SparesFiles places was mid → now ≡ mid ++ deed ∷ []
    → IsReading places deed → SparesFiles places was now
spares_one_more places was mid now deed h e reads =
    spares_both places was mid now h (subst (λ l. SparesFiles places mid l) (sym e) (spares_reading places mid (deed ∷ []) (reads, tt)))

-- what changes nothing is reading
pub quiet_all : {D : Type 0} (places : Places) (deeds : List (DeskDeed D)) → AllByRecursion ChangesNothing deeds → AllByRecursion (IsReading places) deeds
quiet_all places [] h = tt
quiet_all places (deed ∷ deeds) h = (quiet_reads places deed h.0, quiet_all places deeds h.1)
