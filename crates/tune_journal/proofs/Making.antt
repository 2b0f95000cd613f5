-- A stop while a journal is made.
use Rattle.std.proofs.Common.{◌≡◌, ◌≢◌, ◌⊎◌, inl, inr, ℕ, zero, suc, ◌+◌, ◌<◌, ◌≤◌, List, [], ◌∷◌, length, get_or, refl, sym, ◌∙◌, ap, subst, arith, Result, Ok}
use Rattle.std.proofs.Common.{Err}
use Rattle.byteorder.specs.Endian.{big_bytes}
use Rattle.std.proofs.lemmas.List.{same_lists}
use Rattle.std.proofs.lemmas.Bool.{cases_eq}
use Rattle.tune_disk.specs.Disk.{DiskState, MayLeave, Written, Writes, settled, touched, GoesTo}
use Rattle.tune_disk.specs.Inside.Spares.{Agrees}
use Rattle.tune_disk.specs.Stops.{SinceThen, LeavesOnly}
use Rattle.tune_disk.proofs.Moments.{since_same, since_then}
use Rattle.tune_disk.proofs.Writes.{written_long}
use Rattle.tune_disk.proofs.Overwrites.{length_after_some}
use Rattle.tune_journal.specs.Image.{window, gate_of, count_of, pages_of, HasPageCount, StandsFor, StandsForNone}
use Rattle.tune_journal.specs.Inside.LaidFile.{IsCleared, IsLaid}
use Rattle.tune_journal.specs.Inside.Phases.{IsOutside, Settles}
use Rattle.tune_journal.specs.Inside.Rest.{IsAtRest}
use Rattle.tune_journal.specs.FileOffsets.{magic, block_bytes, magic_offset, magic_bytes, gate_offset, descriptor_offset, count_offset, pages_offset}
use Rattle.tune_journal.specs.FileOffsets.{least_length}
use Rattle.tune_journal.specs.Making.{StandsForNoneOr}
use Rattle.tune_journal.proofs.Windows.{get_or-window, written_window, written_other}
use Rattle.tune_journal.proofs.Agreeing.{agree_number, agree_pages_of, pages_of_at, length-pages_of, number_is}
use Rattle.tune_journal.proofs.Standing.{stands_closed}
use Rattle.tune_journal.specs.Refusal.{IsSynced}
use Rattle.tune_journal.proofs.Openings.{synced_since}
use Rattle.tune_journal.proofs.CallRuns.{settles_settled, settles_agrees}

-- Files that stand for nothing.

-- lists of numbers are equal or not
list_cases : (xs ys : List ℕ) → (xs ≡ ys) ⊎ (xs ≢ ys)
list_cases [] [] = inl refl
list_cases [] (y ∷ ys) = inr (λ e. cc)
list_cases (x ∷ xs) [] = inr (λ e. cc)
list_cases (x ∷ xs) (y ∷ ys) = elim (cases_eq x y) [
  | inl same ↦ (elim (list_cases xs ys) [
    | inl rest ↦ inl (λ i. same i ∷ rest i)
    | inr other ↦ inr (λ e. (let rest : xs ≡ ys = cc in other rest))
  ])
  | inr other ↦ inr (λ e. (let same : x ≡ y = cc in other same))
]

short_none : (c : List ℕ) → length c < least_length → StandsForNone c
short_none c short pages s = omega (arith, s.headed.long, short)

-- a file that does not begin with the magic's first letter
other_none : (c : List ℕ) → get_or c 0 0 ≡ 0 → StandsForNone c
other_none c is_zero pages s =
    let first : get_or (window magic_offset magic_bytes c) 0 0 ≡ get_or c 0 0 = get_or-window magic_offset magic_bytes c 0 (omega arith) in
    let letter : get_or (window magic_offset magic_bytes c) 0 0 ≡ 65 = ap (λ (l : List ℕ). get_or l 0 0) s.headed.magic in
    omega (arith, first, letter, is_zero)

-- The first block, and what is laid behind it.
pub cleared_since : {T E : Type 0} (bytes : List ℕ) (r : Result T E) (a b : DiskState) → length bytes ≡ block_bytes → a.now ≡ settled [] → Writes 0 bytes r a b
    → SinceThen a b StandsForNone
cleared_since {T} {E} bytes r a b size rest w = by_cases r w
  where
    first : LeavesOnly a.now StandsForNone
    first = λ c left. short_none c (let l : MayLeave (settled []) c = subst (λ m. MayLeave m c) rest left in omega (arith, l.no_longer))

    goes : GoesTo (touched 0 (length bytes) a.now) a b → SinceThen a b StandsForNone
    goes to = record {
      since = touched 0 (length bytes) a.now ∷ [];
      history = λ i. to.now i ∷ to.past i;
      each = (
        (λ c left. short_none c
            (let l : MayLeave (touched 0 (length bytes) (settled [])) c = subst (λ m. MayLeave (touched 0 (length bytes) m) c) rest left in omega
            (arith, l.no_longer, size, length_after_some 0 (length bytes) 0 (omega (arith, size))))),
        tt,
      );
      first = first;
    }

    by_cases : (r : Result T E) → Writes 0 bytes r a b → SinceThen a b StandsForNone
    by_cases (Ok t) w = goes w.1
    by_cases (Err e) (inl same) = subst (λ (s : DiskState). SinceThen a s StandsForNone) (sym same) (since_same StandsForNone a first)
    by_cases (Err e) (inr w) = goes w.1

-- while the blocks behind the first are written
pub laying : (s : DiskState) → IsCleared s → (c : List ℕ) → Agrees (λ i. i < block_bytes) s.seen c → StandsForNone c
laying s cleared c agrees = other_none c (agrees.same 0 (omega (arith, cleared.long)) (omega arith) ∙ cleared.zero)

one_page : (first f : List ℕ) → window pages_offset block_bytes f ≡ first → pages_of 1 f ≡ first ∷ []
one_page first f is = same_lists (pages_of 1 f) (first ∷ []) (length-pages_of 1 f) (λ p d lt. at p d (omega (arith, lt, length-pages_of 1 f)))
  where
    here : (d : List ℕ) → get_or (pages_of 1 f) 0 d ≡ first
    here d = pages_of_at 1 0 f d (omega arith) ∙ is

    at : (p : ℕ) (d : List ℕ) → p < 1 → get_or (pages_of 1 f) p d ≡ get_or (first ∷ []) p d
    at zero d lt = here d
    at (suc p) d lt = absurd (omega arith)

-- The magic.
module _ (first f c : List ℕ) (laid : IsLaid first f) (agrees : Agrees (IsOutside magic_offset magic_bytes) f c) where
  titled_count : count_of c ≡ 1
  titled_count =
      agree_number (IsOutside magic_offset magic_bytes) f c agrees count_offset (omega (arith, laid.long)) (λ i le lt. inr (omega arith)) ∙ laid.count

  titled_gate : gate_of c ≡ 0
  titled_gate = agrees.same gate_offset (omega (arith, laid.long)) (inr (omega arith)) ∙ laid.gate

  titled_has : HasPageCount 1 c
  titled_has = record { least = omega arith; most = omega arith; long = omega (arith, laid.long, agrees.longer) }

  titled_pages : pages_of 1 c ≡ pages_of 1 f
  titled_pages = agree_pages_of (IsOutside magic_offset magic_bytes) f c agrees 1 (omega (arith, laid.long)) (λ i le lt. inr (omega arith))

  titled_long : least_length ≤ length c
  titled_long = omega (arith, laid.long, agrees.longer)

  -- while the magic is written
  pub titling : StandsForNoneOr first c
  titling = elim (cases_magic (window magic_offset magic_bytes c)) [
    | inl is ↦ inr (subst (λ (p : List (List ℕ)). StandsFor p c) (one_page first f laid.page)
        (stands_closed 1 f c (record { magic = is; long = titled_long }) (λ it. omega (arith, it, titled_gate)) titled_count titled_has titled_pages))
    | inr other ↦ inl (λ pages s. other s.headed.magic)
  ]
    where
      cases_magic : (l : List ℕ) → (l ≡ magic) ⊎ (l ≢ magic)
      cases_magic l = list_cases l magic

pub titled_after : (first : List ℕ) (old new : DiskState) → IsLaid first old.seen → Settles (IsOutside magic_offset magic_bytes) old new
    → window magic_offset magic_bytes new.seen ≡ magic → IsAtRest 1 new × (pages_of 1 new.seen ≡ first ∷ [])
titled_after first old new laid ran is =
    let agrees = settles_agrees (IsOutside magic_offset magic_bytes) old new ran in (
      record {
        settled = settles_settled (IsOutside magic_offset magic_bytes) old new ran;
        headed = record { magic = is; long = titled_long first old.seen new.seen laid agrees };
        gate = λ it. omega (arith, it, titled_gate first old.seen new.seen laid agrees);
        count = titled_count first old.seen new.seen laid agrees;
        pages = titled_has first old.seen new.seen laid agrees;
      },
      titled_pages first old.seen new.seen laid agrees ∙ one_page first old.seen laid.page,
    )

-- The four writes of a layout.
pub laid_after : (first zeros one old a b c d : List ℕ) → length old ≡ block_bytes → length zeros ≡ block_bytes → get_or zeros 0 0 ≡ 0 → one ≡ big_bytes 4 1
    → length first ≡ block_bytes
    → Written gate_offset zeros old a → Written descriptor_offset zeros a b → Written count_offset one b c → Written pages_offset first c d → IsLaid first d
laid_after first zeros one old a b c d old_size zeros_size zero_is one_is first_size wa wb wc wd =
    let one_size : length one ≡ 4 = ap length one_is in
    let a_size : length a ≡ descriptor_offset = omega (arith, written_long gate_offset zeros old a wa (omega arith)) in
    let b_size : length b ≡ count_offset = omega (arith, written_long descriptor_offset zeros a b wb (omega arith)) in
    let c_size : length c ≡ count_offset + 4 = omega (arith, written_long count_offset one b c wc (omega arith)) in
    record {
      gate =
          wd.outside gate_offset (inl (omega arith)) ∙ wc.outside gate_offset (inl (omega arith)) ∙ wb.outside gate_offset (inl (omega arith))
          ∙ wa.inside 0 (omega arith) ∙ zero_is;
      count =
          number_is count_offset 1 d (omega arith)
          (written_other pages_offset first c d (omega arith) wd count_offset 4 (omega arith) (inl (omega arith))
          ∙ subst (λ (n : ℕ). window count_offset n c ≡ one) one_size (written_window count_offset one b c (omega arith) wc) ∙ one_is);
      page = subst (λ (n : ℕ). window pages_offset n d ≡ first) first_size (written_window pages_offset first c d (omega arith) wd);
      long = omega (arith, written_long pages_offset first c d wd (omega arith));
    }

-- An empty file.
pub empty_leaves : (s : DiskState) → MayLeave s.now s.seen → LeavesOnly s.now (λ c. c ≡ []) → s.seen ≡ []
empty_leaves s stays only = only s.seen stays

pub none_either : (first c : List ℕ) → StandsForNone c → StandsForNoneOr first c
none_either first c none = inl none

pub empty_none : (first c : List ℕ) → c ≡ [] → StandsForNoneOr first c
empty_none first c is = inl (short_none c (omega (arith, ap length is)))

pub nothing_in : (n : ℕ) (f : List ℕ) → n ≡ 0 → n ≡ length f → f ≡ []
nothing_in n [] none is = refl
nothing_in n (b ∷ f) none is = absurd (omega (arith, none, is))

-- A file without a byte is synced, and laid out.
pub making_since : (first : List ℕ) (old mid new : DiskState) → MayLeave old.now old.seen → LeavesOnly old.now (λ c. c ≡ []) → IsSynced old mid
    → (mid.now ≡ settled [] → mid.seen ≡ [] → SinceThen mid new (StandsForNoneOr first)) → SinceThen old new (StandsForNoneOr first)
making_since first old mid new stays only synced laid =
    let empty : old.seen ≡ [] = empty_leaves old stays only in
    since_then (StandsForNoneOr first) old mid new
    (synced_since (StandsForNoneOr first) old mid (λ file left. empty_none first file (only file left)) stays (inr synced))
    (laid (synced.goes.now ∙ ap settled empty) (synced.seen ∙ empty))
