-- An index as the list of its leaves: a leaf replaced, added, taken out.
use Rattle.std.proofs.Common.{◌≡◌, ◌≢◌, ℕ, zero, suc, ◌+◌, ◌-◌, ◌<◌, ◌≤◌, List, [], ◌∷◌, ◌++◌, length, take, drop, set, slice_index, refl, sym, ap, ◌∙◌, arith}
use Rattle.std.proofs.Common.{append_assoc, inl, inr, subst}
use Rattle.std.specs.List.{Contains, insert, remove}
use Rattle.std.proofs.lemmas.Bool.{cases_eq}
use Rattle.tune_pages.specs.Stand.{Stand}
use Rattle.tune_pages.specs.Frame.{mark_at, Apart, TradesPages, image_at, InUse, Puts, OthersKept, Allocates, Frees}
use Rattle.index_keys.specs.Entries.{Entry, IsRising, AllFit}
use Rattle.tune_index.specs.Indexes.{entries_of, heads_of, AllLeaves, IsIndex, Shape}
use Rattle.tune_index.specs.Inside.EachPage.{HasEachPage}
use Rattle.tune_index.specs.Inside.LeafLists.{leaves_of, joined_leaves, firsts, HasLeaves}
use Rattle.tune_index.specs.Leaves.{slice_entry, leaf_in, IsLeaf}
use Rattle.tune_pages.proofs.Marks.{apart_or, not_both}
use Rattle.index_keys.proofs.Members.{contains_first, contains_later, contains_cases, contains_none}
use Rattle.std.proofs.lemmas.List.{take-append-drop, drop-drop}
use Rattle.tune_index.proofs.Puts.{put_form, put_in_use}

-- THE TWO VIEWS OF AN INDEX
entries_joined : (width : ℕ) (all : Stand) (pages : List ℕ) → entries_of width all pages ≡ joined_leaves (leaves_of width all pages)
entries_joined width all [] = refl
entries_joined width all (p ∷ ps) = ap (λ (x : List Entry). leaf_in width (image_at all p) ++ x) (entries_joined width all ps)

heads_firsts : (width : ℕ) (all : Stand) (pages : List ℕ) → heads_of width all pages ≡ firsts (leaves_of width all pages)
heads_firsts width all [] = refl
heads_firsts width all (p ∷ ps) = ap (λ (x : List Entry). slice_entry (leaf_in width (image_at all p)) 0 ∷ x) (heads_firsts width all ps)

pub leaves_of_index : (width : ℕ) (all : Stand) (shape : Shape) → IsIndex width all shape → HasLeaves width all shape (leaves_of width all shape.pages)
leaves_of_index width all shape ix = record { are = refl; heads = ix.heads ∙ heads_firsts width all shape.pages; form = ix.form }

pub leaves_entries : (width : ℕ) (all : Stand) (shape : Shape) (leaves : List (List Entry)) → HasLeaves width all shape leaves
    → entries_of width all shape.pages ≡ joined_leaves leaves
leaves_entries width all shape leaves h = entries_joined width all shape.pages ∙ ap joined_leaves h.are

pub index_of_leaves : (width : ℕ) (all : Stand) (shape : Shape) (leaves : List (List Entry)) → HasLeaves width all shape leaves
    → IsRising (joined_leaves leaves)
    → AllFit width (joined_leaves leaves) → IsIndex width all shape
index_of_leaves width all shape leaves h up fit = record {
  form = h.form;
  heads = h.heads ∙ ap firsts (sym h.are) ∙ sym (heads_firsts width all shape.pages);
  rising = subst (λ (x : List Entry). IsRising x) (sym (leaves_entries width all shape leaves h)) up;
  fit = subst (λ (x : List Entry). AllFit width x) (sym (leaves_entries width all shape leaves h)) fit;
}

-- PAGES THAT ARE APART
apart_from : (page : ℕ) (ps : List ℕ) → ((k : ℕ) → k < length ps → slice_index ps k ≢ page) → Apart page ps
apart_from page [] d = tt
apart_from page (p ∷ ps) d = (d 0 (omega arith), apart_from page ps (λ k l. d (suc k) (omega arith)))

apart_to : (page : ℕ) (ps : List ℕ) → Apart page ps → (k : ℕ) → k < length ps → slice_index ps k ≢ page
apart_to page [] a k l = absurd (omega arith)
apart_to page (p ∷ ps) a zero l = a.0
apart_to page (p ∷ ps) a (suc k) l = apart_to page ps a.1 k (omega arith)

apart_insert : (page : ℕ) (ps : List ℕ) (i q : ℕ) → Apart page ps → q ≢ page → Apart page (insert ps i q)
apart_insert page [] zero q a d = (d, tt)
apart_insert page [] (suc i) q a d = (d, tt)
apart_insert page (p ∷ ps) zero q a d = (d, a)
apart_insert page (p ∷ ps) (suc i) q a d = (a.0, apart_insert page ps i q a.1 d)

apart_remove : (page : ℕ) (ps : List ℕ) (i : ℕ) → Apart page ps → Apart page (remove ps i)
apart_remove page [] zero a = tt
apart_remove page [] (suc i) a = tt
apart_remove page (p ∷ ps) zero a = a.1
apart_remove page (p ∷ ps) (suc i) a = (a.0, apart_remove page ps i a.1)

has_insert : (all : Stand) (ps : List ℕ) (i q : ℕ) → HasEachPage all ps → InUse all q → Apart q ps → HasEachPage all (insert ps i q)
has_insert all [] zero q h u a = (u, (λ k l. absurd (omega arith)), tt)
has_insert all [] (suc i) q h u a = (u, (λ k l. absurd (omega arith)), tt)
has_insert all (p ∷ ps) zero q h u a = (u, apart_to q (p ∷ ps) a, h)
has_insert all (p ∷ ps) (suc i) q h u a =
    (h.0, apart_to p (insert ps i q) (apart_insert p ps i q (apart_from p ps h.1) (λ e. a.0 (sym e))), has_insert all ps i q h.2 u a.1)

has_remove : (all : Stand) (ps : List ℕ) (i : ℕ) → HasEachPage all ps → HasEachPage all (remove ps i)
has_remove all [] zero h = tt
has_remove all [] (suc i) h = tt
has_remove all (p ∷ ps) zero h = h.2
has_remove all (p ∷ ps) (suc i) h = (h.0, apart_to p (remove ps i) (apart_remove p ps i (apart_from p ps h.1)), has_remove all ps i h.2)

-- the page at a place is not among the others
apart_removed : (all : Stand) (ps : List ℕ) (i : ℕ) → HasEachPage all ps → i < length ps → Apart (slice_index ps i) (remove ps i)
apart_removed all [] i h l = absurd (omega arith)
apart_removed all (p ∷ ps) zero h l = apart_from p ps h.1
apart_removed all (p ∷ ps) (suc i) h l = ((λ e. h.1 i (omega arith) (sym e)), apart_removed all ps i h.2 (omega arith))

-- PAGES THAT DID NOT CHANGE
kept_leaves : (width : ℕ) (old new : Stand) (page : ℕ) (ps : List ℕ) → OthersKept old new page → Apart page ps → leaves_of width new ps ≡ leaves_of width old ps
kept_leaves width old new page [] o a = refl
kept_leaves width old new page (p ∷ ps) o a =
    let i : image_at new p ≡ image_at old p = (o p a.0).image in
    let r = kept_leaves width old new page ps o a.1 in
    rw (i, r) refl

kept_form : (width : ℕ) (old new : Stand) (page : ℕ) (ps : List ℕ) → OthersKept old new page → Apart page ps → AllLeaves width old ps → AllLeaves width new ps
kept_form width old new page [] o a f = tt
kept_form width old new page (p ∷ ps) o a f =
    let i : image_at new p ≡ image_at old p = (o p a.0).image in
    (rw i f.0, kept_form width old new page ps o a.1 f.1)

kept_in_use : (old new : Stand) (page q : ℕ) → OthersKept old new page → q ≢ page → InUse old q → InUse new q
kept_in_use old new page q o d u = record { flag = (o q d).used ∙ u.flag; not_root = u.not_root }

kept_back : (old new : Stand) (page q : ℕ) → OthersKept old new page → q ≢ page → InUse new q → InUse old q
kept_back old new page q o d u = record { flag = sym (o q d).used ∙ u.flag; not_root = u.not_root }

kept_pages : (old new : Stand) (page : ℕ) (ps : List ℕ) → OthersKept old new page → Apart page ps → HasEachPage old ps → HasEachPage new ps
kept_pages old new page [] o a h = tt
kept_pages old new page (p ∷ ps) o a h = (kept_in_use old new page p o a.0 h.0, h.1, kept_pages old new page ps o a.1 h.2)

-- ONE LEAF MORE, ONE LESS, ANOTHER ONE: leaves, firsts and forms
leaves-insert : (width : ℕ) (all : Stand) (ps : List ℕ) (i q : ℕ)
    → leaves_of width all (insert ps i q) ≡ insert (leaves_of width all ps) i (leaf_in width (image_at all q))
leaves-insert width all [] zero q = refl
leaves-insert width all [] (suc i) q = refl
leaves-insert width all (p ∷ ps) zero q = refl
leaves-insert width all (p ∷ ps) (suc i) q = ap (λ (x : List (List Entry)). leaf_in width (image_at all p) ∷ x) (leaves-insert width all ps i q)

firsts-insert : (leaves : List (List Entry)) (i : ℕ) (leaf : List Entry) → firsts (insert leaves i leaf) ≡ insert (firsts leaves) i (slice_entry leaf 0)
firsts-insert [] zero leaf = refl
firsts-insert [] (suc i) leaf = refl
firsts-insert (r ∷ leaves) zero leaf = refl
firsts-insert (r ∷ leaves) (suc i) leaf = ap (λ (x : List Entry). slice_entry r 0 ∷ x) (firsts-insert leaves i leaf)

form-insert : (width : ℕ) (all : Stand) (ps : List ℕ) (i q : ℕ) → AllLeaves width all ps → IsLeaf width (image_at all q) → AllLeaves width all (insert ps i q)
form-insert width all [] zero q f k = (k, tt)
form-insert width all [] (suc i) q f k = (k, tt)
form-insert width all (p ∷ ps) zero q f k = (k, f)
form-insert width all (p ∷ ps) (suc i) q f k = (f.0, form-insert width all ps i q f.1 k)

leaves-remove : (width : ℕ) (all : Stand) (ps : List ℕ) (i : ℕ) → leaves_of width all (remove ps i) ≡ remove (leaves_of width all ps) i
leaves-remove width all [] zero = refl
leaves-remove width all [] (suc i) = refl
leaves-remove width all (p ∷ ps) zero = refl
leaves-remove width all (p ∷ ps) (suc i) = ap (λ (x : List (List Entry)). leaf_in width (image_at all p) ∷ x) (leaves-remove width all ps i)

firsts-remove : (leaves : List (List Entry)) (i : ℕ) → firsts (remove leaves i) ≡ remove (firsts leaves) i
firsts-remove [] zero = refl
firsts-remove [] (suc i) = refl
firsts-remove (r ∷ leaves) zero = refl
firsts-remove (r ∷ leaves) (suc i) = ap (λ (x : List Entry). slice_entry r 0 ∷ x) (firsts-remove leaves i)

form-remove : (width : ℕ) (all : Stand) (ps : List ℕ) (i : ℕ) → AllLeaves width all ps → AllLeaves width all (remove ps i)
form-remove width all [] zero f = tt
form-remove width all [] (suc i) f = tt
form-remove width all (p ∷ ps) zero f = f.1
form-remove width all (p ∷ ps) (suc i) f = (f.0, form-remove width all ps i f.1)

firsts-set : (leaves : List (List Entry)) (i : ℕ) (leaf : List Entry) → firsts (set leaves i leaf) ≡ set (firsts leaves) i (slice_entry leaf 0)
firsts-set [] i leaf = refl
firsts-set (r ∷ leaves) zero leaf = refl
firsts-set (r ∷ leaves) (suc i) leaf = ap (λ (x : List Entry). slice_entry r 0 ∷ x) (firsts-set leaves i leaf)

put_leaves : (width : ℕ) (old new : Stand) (bytes : List ℕ) (ps : List ℕ) (i : ℕ) → HasEachPage old ps → i < length ps → Puts old new (slice_index ps i) bytes
    → leaves_of width new ps ≡ set (leaves_of width old ps) i (leaf_in width bytes)
put_leaves width old new bytes [] i h l p = absurd (omega arith)
put_leaves width old new bytes (q ∷ qs) zero h l p =
    let r = kept_leaves width old new q qs p.others (apart_from q qs h.1) in
    rw (p.image, r) refl
put_leaves width old new bytes (q ∷ qs) (suc i) h l p =
    let s : image_at new q ≡ image_at old q = (p.others q (λ e. h.1 i (omega arith) (sym e))).image in
    let r = put_leaves width old new bytes qs i h.2 (omega arith) p in
    rw (s, r) refl

-- A LEAF IS REPLACED
pub leaves_set : (width : ℕ) (old new : Stand) (was is : Shape) (leaves : List (List Entry)) (i : ℕ) (leaf : List Entry) (bytes : List ℕ)
    → HasEachPage old was.pages → i < length was.pages
    → Puts old new (slice_index was.pages i) bytes → IsLeaf width bytes → leaf_in width bytes ≡ leaf → is.pages ≡ was.pages
    → is.heads ≡ set was.heads i (slice_entry leaf 0)
    → HasLeaves width old was leaves → HasLeaves width new is (set leaves i leaf)
leaves_set width old new was is leaves i leaf bytes has l p form at pages heads h = record {
  are = ap (leaves_of width new) pages ∙ put_leaves width old new bytes was.pages i has l p
      ∙ ap (λ (x : List Entry). set (leaves_of width old was.pages) i x) at ∙ ap (λ (x : List (List Entry)). set x i leaf) h.are;
  heads = heads ∙ ap (λ (x : List Entry). set x i (slice_entry leaf 0)) h.heads ∙ sym (firsts-set leaves i leaf);
  form = subst (λ (x : List ℕ). AllLeaves width new x) (sym pages) (put_form width old new bytes was.pages i has l p form h.form);
}

in_list : (ps : List ℕ) (i : ℕ) → i < length ps → Contains ps (slice_index ps i)
in_list [] i l = absurd (omega arith)
in_list (p ∷ ps) zero l = contains_first p ps
in_list (p ∷ ps) (suc i) l = contains_later p ps (slice_index ps i) (in_list ps i (omega arith))

pub set_trades : (old new : Stand) (ps : List ℕ) (i : ℕ) (bytes : List ℕ) → i < length ps → Puts old new (slice_index ps i) bytes → TradesPages ps ps old new
set_trades old new ps i bytes l p = record {
  kept = λ page u a. (p.others page (λ e. not_both page ps (subst (λ (x : ℕ). Contains ps x) (sym e) (in_list ps i l)) a), a);
  taken = λ page u. elim (apart_or page ps) [
    | inl c ↦ inl c
    | inr a ↦ inr (
      kept_back old new (slice_index ps i) page p.others (λ e. not_both page ps (subst (λ (x : ℕ). Contains ps x) (sym e) (in_list ps i l)) a) u,
      a,
    )
  ];
}

-- A LEAF IS ADDED
fresh_apart : (old new : Stand) (page : ℕ) (ps : List ℕ) → Allocates old new page → HasEachPage old ps → Apart page ps
fresh_apart old new page [] a h = tt
fresh_apart old new page (q ∷ qs) a h = ((λ e. a.free (ap (λ (x : ℕ). mark_at old x) (sym e) ∙ h.0.flag)), fresh_apart old new page qs a h.2)

-- a page in use stays so where another one comes
pub kept_by_add : (old mid new : Stand) (page : ℕ) (bytes : List ℕ) (q : ℕ) → Allocates old mid page → Puts mid new page bytes → InUse old q → InUse new q
kept_by_add old mid new page bytes q al p u =
    let other : q ≢ page = λ e. al.free (ap (λ (x : ℕ). mark_at old x) (sym e) ∙ u.flag) in
    put_in_use mid new page bytes q p (kept_in_use old mid page q al.others other u)

pub leaves_added : (width : ℕ) (old mid new : Stand) (was is : Shape) (leaves : List (List Entry)) (i page : ℕ) (leaf : List Entry) (bytes : List ℕ)
    → HasEachPage old was.pages
    → Allocates old mid page → Puts mid new page bytes → IsLeaf width bytes → leaf_in width bytes ≡ leaf → is.pages ≡ insert was.pages i page
    → is.heads ≡ insert was.heads i (slice_entry leaf 0)
    → HasLeaves width old was leaves → HasLeaves width new is (insert leaves i leaf)
leaves_added width old mid new was is leaves i page leaf bytes has al p form at pages heads h =
    let apart = fresh_apart old mid page was.pages al has in
    let same : leaves_of width new was.pages ≡ leaves = kept_leaves width mid new page was.pages p.others apart
    ∙ kept_leaves width old mid page was.pages al.others apart ∙ h.are in
    let mine : leaf_in width (image_at new page) ≡ leaf = ap (leaf_in width) p.image ∙ at in
    let fs = kept_form width mid new page was.pages p.others apart (kept_form width old mid page was.pages al.others apart h.form) in
    let k : IsLeaf width (image_at new page) = subst (λ (x : List ℕ). IsLeaf width x) (sym p.image) form in
    record {
      are = ap (leaves_of width new) pages ∙ leaves-insert width new was.pages i page
          ∙ ap (λ (x : List Entry). insert (leaves_of width new was.pages) i x) mine ∙ ap (λ (x : List (List Entry)). insert x i leaf) same;
      heads = heads ∙ ap (λ (x : List Entry). insert x i (slice_entry leaf 0)) h.heads ∙ sym (firsts-insert leaves i leaf);
      form = subst (λ (x : List ℕ). AllLeaves width new x) (sym pages) (form-insert width new was.pages i page fs k);
    }

pub add_pages : (old mid new : Stand) (ps is : List ℕ) (i page : ℕ) (bytes : List ℕ) → HasEachPage old ps → Allocates old mid page → Puts mid new page bytes
    → is ≡ insert ps i page → HasEachPage new is
add_pages old mid new ps is i page bytes has al p e =
    let apart = fresh_apart old mid page ps al has in
    let h1 = kept_pages mid new page ps p.others apart (kept_pages old mid page ps al.others apart has) in
    let u : InUse new page = put_in_use mid new page bytes page p al.in_use in
    subst (λ (x : List ℕ). HasEachPage new x) (sym e) (has_insert new ps i page h1 u apart)

contains_insert_here : (ps : List ℕ) (i q : ℕ) → Contains (insert ps i q) q
contains_insert_here [] zero q = contains_first q []
contains_insert_here [] (suc i) q = contains_first q []
contains_insert_here (p ∷ ps) zero q = contains_first q (p ∷ ps)
contains_insert_here (p ∷ ps) (suc i) q = contains_later p (insert ps i q) q (contains_insert_here ps i q)

contains_insert : (ps : List ℕ) (i q page : ℕ) → Contains ps page → Contains (insert ps i q) page
contains_insert [] i q page c = absurd (contains_none page c)
contains_insert (p ∷ ps) zero q page c = contains_later q (p ∷ ps) page c
contains_insert (p ∷ ps) (suc i) q page c = elim (contains_cases p ps page c) [
  | inl e ↦ subst (λ (x : ℕ). Contains (p ∷ insert ps i q) x) e (contains_first p (insert ps i q))
  | inr l ↦ contains_later p (insert ps i q) page (contains_insert ps i q page l)
]

pub add_trades : (old mid new : Stand) (ps is : List ℕ) (i page : ℕ) (bytes : List ℕ) → HasEachPage old ps → Allocates old mid page → Puts mid new page bytes
    → is ≡ insert ps i page → TradesPages ps is old new
add_trades old mid new ps is i page bytes has al p e = record {
  kept = λ q u a.
      let d : q ≢ page = λ s. al.free (ap (λ (x : ℕ). mark_at old x) (sym s) ∙ u.flag) in
      let one = al.others q d in let two = p.others q d in (
        record { image = two.image ∙ one.image; used = two.used ∙ one.used },
        subst (λ (x : List ℕ). Apart q x) (sym e) (apart_insert q ps i page a (λ s. d (sym s))),
      );
  taken = λ q u. elim (cases_eq q page) [
    | inl here ↦ inl (subst (λ (x : List ℕ). Contains x q) (sym e)
        (subst (λ (x : ℕ). Contains (insert ps i page) x) (sym here) (contains_insert_here ps i page)))
    | inr d ↦ elim (apart_or q ps) [
      | inl c ↦ inl (subst (λ (x : List ℕ). Contains x q) (sym e) (contains_insert ps i page q c))
      | inr a ↦ inr (kept_back old mid page q al.others d (kept_back mid new page q p.others d u), a)
    ]
  ];
}

-- A LEAF IS TAKEN OUT
pub leaves_dropped : (width : ℕ) (old new : Stand) (was is : Shape) (leaves : List (List Entry)) (i : ℕ) → HasEachPage old was.pages → i < length was.pages
    → Frees old new (slice_index was.pages i) → is.pages ≡ remove was.pages i → is.heads ≡ remove was.heads i → HasLeaves width old was leaves
    → HasLeaves width new is (remove leaves i)
leaves_dropped width old new was is leaves i has l f pages heads h =
    let apart = apart_removed old was.pages i has l in
    record {
      are = ap (leaves_of width new) pages ∙ kept_leaves width old new (slice_index was.pages i) (remove was.pages i) f.others apart
          ∙ leaves-remove width old was.pages i ∙ ap (λ (x : List (List Entry)). remove x i) h.are;
      heads = heads ∙ ap (λ (x : List Entry). remove x i) h.heads ∙ sym (firsts-remove leaves i);
      form = subst (λ (x : List ℕ). AllLeaves width new x) (sym pages)
          (kept_form width old new (slice_index was.pages i) (remove was.pages i) f.others apart (form-remove width old was.pages i h.form));
    }

pub drop_pages : (old new : Stand) (ps is : List ℕ) (i : ℕ) → HasEachPage old ps → i < length ps → Frees old new (slice_index ps i) → is ≡ remove ps i
    → HasEachPage new is
drop_pages old new ps is i has l f e =
    subst (λ (x : List ℕ). HasEachPage new x) (sym e)
    (kept_pages old new (slice_index ps i) (remove ps i) f.others (apart_removed old ps i has l) (has_remove old ps i has))

contains_remove : (ps : List ℕ) (i page : ℕ) → i < length ps → Contains ps page → slice_index ps i ≢ page → Contains (remove ps i) page
contains_remove [] i page l c d = absurd (omega arith)
contains_remove (p ∷ ps) zero page l c d = elim (contains_cases p ps page c) [ inl e ↦ absurd (d e) | inr r ↦ r ]
contains_remove (p ∷ ps) (suc i) page l c d = elim (contains_cases p ps page c) [
  | inl e ↦ subst (λ (x : ℕ). Contains (p ∷ remove ps i) x) e (contains_first p (remove ps i))
  | inr r ↦ contains_later p (remove ps i) page (contains_remove ps i page (omega arith) r d)
]

pub drop_trades : (old new : Stand) (ps is : List ℕ) (i : ℕ) → i < length ps → Frees old new (slice_index ps i) → is ≡ remove ps i → TradesPages ps is old new
drop_trades old new ps is i l f e = record {
  kept = λ q u a.
      let d : q ≢ slice_index ps i = λ s. not_both q ps (subst (λ (x : ℕ). Contains ps x) (sym s) (in_list ps i l)) a in
      (f.others q d, subst (λ (x : List ℕ). Apart q x) (sym e) (apart_remove q ps i a));
  taken = λ q u.
      let d : q ≢ slice_index ps i = λ s. f.free (ap (λ (x : ℕ). mark_at new x) (sym s) ∙ u.flag) in
      elim (apart_or q ps) [
        | inl c ↦ inl (subst (λ (x : List ℕ). Contains x q) (sym e) (contains_remove ps i q l c (λ s. d (sym s))))
        | inr a ↦ inr (kept_back old new (slice_index ps i) q f.others d u, a)
      ];
}

-- LEAVES ADDED BEHIND A PLACE
take_insert_next : {X : Type 0} (xs : List X) (i : ℕ) (y : X) → i < length xs → take i (insert xs (suc i) y) ≡ take i xs
take_insert_next [] i y l = absurd (omega arith)
take_insert_next (x ∷ xs) zero y l = refl
take_insert_next {X} (x ∷ xs) (suc i) y l = ap (λ (z : List X). x ∷ z) (take_insert_next xs i y (omega arith))

take_insert : {X : Type 0} (xs : List X) (i : ℕ) (y : X) → i < length xs → take i (insert xs (i + 1) y) ≡ take i xs
take_insert xs i y l = let e : suc i ≡ i + 1 = omega arith in subst (λ (k : ℕ). take i (insert xs k y) ≡ take i xs) e (take_insert_next xs i y l)

drop_insert : {X : Type 0} (xs : List X) (i : ℕ) (y : X) → i ≤ length xs → drop i (insert xs i y) ≡ y ∷ drop i xs
drop_insert [] zero y l = refl
drop_insert [] (suc i) y l = absurd (omega arith)
drop_insert (x ∷ xs) zero y l = refl
drop_insert (x ∷ xs) (suc i) y l = drop_insert xs i y (omega arith)

joined_set_next : (leaves : List (List Entry)) (i : ℕ) (leaf : List Entry) → i < length leaves
    → joined_leaves (set leaves i leaf) ≡ joined_leaves (take i leaves) ++ (leaf ++ joined_leaves (drop (suc i) leaves))
joined_set_next [] i leaf l = absurd (omega arith)
joined_set_next (r ∷ leaves) zero leaf l = refl
joined_set_next (r ∷ leaves) (suc i) leaf l = ap (λ (x : List Entry). r ++ x) (joined_set_next leaves i leaf (omega arith))
    ∙ sym (append_assoc r (joined_leaves (take i leaves)) (leaf ++ joined_leaves (drop (suc i) leaves)))

pub joined_set : (leaves : List (List Entry)) (i : ℕ) (leaf : List Entry) → i < length leaves
    → joined_leaves (set leaves i leaf) ≡ joined_leaves (take i leaves) ++ (leaf ++ joined_leaves (drop (i + 1) leaves))
joined_set leaves i leaf l = let e : suc i ≡ i + 1 = omega arith in
    subst (λ (k : ℕ). joined_leaves (set leaves i leaf) ≡ joined_leaves (take i leaves) ++ (leaf ++ joined_leaves (drop k leaves))) e
    (joined_set_next leaves i leaf l)

length-leaves_of : (width : ℕ) (all : Stand) (pages : List ℕ) → length (leaves_of width all pages) ≡ length pages
length-leaves_of width all [] = refl
length-leaves_of width all (p ∷ ps) = let r = length-leaves_of width all ps in omega arith

pub length-leaves : (width : ℕ) (all : Stand) (shape : Shape) (leaves : List (List Entry)) → HasLeaves width all shape leaves
    → length leaves ≡ length shape.pages
length-leaves width all shape leaves h = ap length (sym h.are) ∙ length-leaves_of width all shape.pages

-- what was spread so far: the leaves before the place stay, and those behind it hold the last entries
pub record Spread (place rest : ℕ) (entries : List Entry) (leaves more : List (List Entry)) : Type 0 where
  pub before : take place more ≡ take place leaves
  pub behind : joined_leaves (drop (place + 1) more) ≡ drop rest entries ++ joined_leaves (drop (place + 1) leaves)

pub spread_more : (place from rest : ℕ) (entries leaf : List Entry) (leaves more : List (List Entry)) → Spread place rest entries leaves more → from ≤ rest
    → place + 1 ≤ length more
    → leaf ≡ take (rest - from) (drop from entries) → Spread place from entries leaves (insert more (place + 1) leaf)
spread_more place from rest entries leaf leaves more s l n is = record {
  before = take_insert more place leaf (omega arith) ∙ s.before;
  behind =
      let parts : drop from entries ≡ take (rest - from) (drop from entries) ++ drop (rest - from) (drop from entries) =
      sym (take-append-drop (rest - from) (drop from entries)) in
      let d : drop (rest - from) (drop from entries) ≡ drop rest entries = drop-drop (rest - from) from entries
      ∙ ap (λ (k : ℕ). drop k entries) (omega arith) in
      ap joined_leaves (drop_insert more (place + 1) leaf n) ∙ ap (λ (x : List Entry). leaf ++ x) s.behind
      ∙ sym (append_assoc leaf (drop rest entries) (joined_leaves (drop (place + 1) leaves)))
      ∙ ap (λ (x : List Entry). x ++ joined_leaves (drop (place + 1) leaves)) (ap (λ (x : List Entry). x ++ drop rest entries) is
      ∙ ap (λ (x : List Entry). take (rest - from) (drop from entries) ++ x) (sym d) ∙ sym parts);
}

pub spread_done : (place rest : ℕ) (entries leaf : List Entry) (leaves more : List (List Entry)) → Spread place rest entries leaves more → place < length more
    → leaf ≡ take rest entries
    → joined_leaves (set more place leaf) ≡ joined_leaves (take place leaves) ++ (entries ++ joined_leaves (drop (place + 1) leaves))
spread_done place rest entries leaf leaves more s n is =
    joined_set more place leaf n ∙ ap (λ (x : List (List Entry)). joined_leaves x ++ (leaf ++ joined_leaves (drop (place + 1) more))) s.before
    ∙ ap (λ (x : List Entry). joined_leaves (take place leaves) ++ (leaf ++ x)) s.behind
    ∙ ap (λ (x : List Entry). joined_leaves (take place leaves) ++ x) (sym (append_assoc leaf (drop rest entries) (joined_leaves (drop (place + 1) leaves)))
    ∙ ap (λ (x : List Entry). (x ++ drop rest entries) ++ joined_leaves (drop (place + 1) leaves)) is
    ∙ ap (λ (x : List Entry). x ++ joined_leaves (drop (place + 1) leaves)) (take-append-drop rest entries))
