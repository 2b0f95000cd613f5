-- Calls one after another: what a stop leaves, and what is kept.
use Rattle.std.proofs.Common.{◌≡◌, inl, inr, ℕ, List, subst, Result, Ok, Err, IfOk}
use Rattle.tune_disk.specs.Disk.{DiskState}
use Rattle.tune_disk.specs.Stops.{SinceThen}
use Rattle.tune_disk.proofs.Moments.{since_then, since_weaker}
use Rattle.tune_journal.specs.Held.{Held, disk_of}
use Rattle.tune_journal.specs.Image.{StandsFor, StandsForEither}
use Rattle.tune_journal.specs.declared.open_fault.Broken.{Broken}

pub either_as : (b b' a a' : List (List ℕ)) → b ≡ b' → a ≡ a' → (c : List ℕ) → StandsForEither b a c → StandsForEither b' a' c
either_as b b' a a' is is' c (inl s) = inl (subst (λ (p : List (List ℕ)). StandsFor p c) is s)
either_as b b' a a' is is' c (inr s) = inr (subst (λ (p : List (List ℕ)). StandsFor p c) is' s)

pub inr_as : (b a a' : List (List ℕ)) → a ≡ a' → (c : List ℕ) → StandsFor a c → StandsForEither b a' c
inr_as b a a' is c s = inr (subst (λ (p : List (List ℕ)). StandsFor p c) is s)

pub stands_as : (a a' : List (List ℕ)) → a ≡ a' → (c : List ℕ) → StandsFor a c → StandsFor a' c
stands_as a a' is c s = subst (λ (p : List (List ℕ)). StandsFor p c) is s

-- what an answer says of its disk, with a clause on it
pub ok_held : {D : Type 0} (r : Result (Held D) (Broken D)) (P : D → Type 0) (Q R : Held D → Type 0) → P (disk_of r) → IfOk r Q
    → ((x : Held D) → P x.disk → Q x → R x) → IfOk r R
ok_held (Ok x) P Q R p q so = so x p q
ok_held (Err e) P Q R p q so = tt

pub ok_and : {T E : Type 0} (r : Result T E) (P Q R : T → Type 0) → IfOk r P → IfOk r Q → ((x : T) → P x → Q x → R x) → IfOk r R
ok_and (Ok x) P Q R p q so = so x p q
ok_and (Err e) P Q R p q so = tt

-- The parts of a commit, one after another: first the log.
pub logging : (before after : List (List ℕ)) (old new : DiskState) → SinceThen old new (StandsFor before) → SinceThen old new (StandsForEither before after)
logging before after old new since = since_weaker (StandsFor before) (StandsForEither before after) (λ file s. inl s) old new since

module _ (before after : List (List ℕ)) (old mid new : DiskState) where
  abbrev Either : List ℕ → Type 0
  Either = StandsForEither before after

  -- the gate
  pub opening : (pages next : List (List ℕ)) → pages ≡ before → next ≡ after → SinceThen old mid Either
      → SinceThen mid new (StandsForEither pages next) → SinceThen old new Either
  opening pages next is is' until since =
      since_then Either old mid new until
      (since_weaker (StandsForEither pages next) Either (either_as pages before next after is is') mid new since)

  -- from the open gate on
  pub going_on : (pages : List (List ℕ)) → pages ≡ after → SinceThen old mid Either
      → SinceThen mid new (StandsFor pages) → SinceThen old new Either
  going_on pages is until since =
      since_then Either old mid new until (since_weaker (StandsFor pages) Either (inr_as before pages after is) mid new since)
