-- What is told of entries that are taken back, one part after another.
use Rattle.std.proofs.Common.{◌≡◌, ◌∙◌, ℕ, List, [], ◌∷◌, ◌++◌, drop, refl, sym, ap, subst, append_assoc, append-nil}
use Rattle.tune_store.specs.State.{State}
use Rattle.tune_store.specs.declared.tune_store.TuneStore.{Ghosts}
use Rattle.tune_asking.specs.Asking.{IsOnlyAsked}
use Rattle.tune_asking.proofs.CallLemmas.{asked_more, asked_none}
use Rattle.tune_undo.specs.declared.old_entries.Part.{Part}
use Rattle.desk_changes.specs.ToldUndoings.{part_revised, parts_revised}
use Rattle.desk_changes.specs.TakenBack.{Stood}
use Rattle.desk_changes.specs.Inside.Telling.{Tells, TellsOf}

-- bytes behind bytes
pub puts_more : (was mid now one more : List ℕ) → mid ≡ was ++ one → now ≡ mid ++ more → now ≡ was ++ (one ++ more)
puts_more was mid now one more first then_ = then_ ∙ ap (λ (l : List ℕ). l ++ more) first ∙ append_assoc was one more

-- all bytes, where there were none
pub tells_all : (was now : List ℕ) (Is : List ℕ → Type 0) → was ≡ [] → Tells (record { was = was; now = now }) Is → Is now
tells_all was now Is none tells =
    subst (λ (l : List ℕ). Is l) (sym (tells.are ∙ ap (λ (l : List ℕ). l ++ tells.more) none)) tells.so

module _ {S : Type 0} (k : Ghosts S) where
  -- so far some parts were told, and what is told of all is this and what is told of the rest
  pub record TellsTo (old here : S) (was now : List ℕ) (parts left : List Part) : Type 0 where
    pub asked : IsOnlyAsked k old here
    pub tells : Tells (record { was = was; now = now })
        (λ more. Stood k old here (λ state. more ++ parts_revised left state ≡ parts_revised parts state))

  pub tells_none : (here : S) (was : List ℕ) (parts : List Part) → TellsTo here here was was parts (drop 0 parts)
  tells_none here was parts = record {
    asked = asked_none k here;
    tells = record {
      more = [];
      are = sym (append-nil was);
      so = record { stays = λ is_open. is_open; was = λ is_open h. refl };
    };
  }

  pub tells_next : (old mid new : S) (was then_ now : List ℕ) (parts left rest : List Part) (part : Part) → TellsTo old mid was then_ parts left
      → IsOnlyAsked k mid new → TellsOf k mid new (record { was = then_; now = now }) (part_revised part) → left ≡ part ∷ rest
      → TellsTo old new was now parts rest
  tells_next old mid new was then_ now parts left rest part so asked tells e =
      let state = k.state old in
      record {
        asked = asked_more k old mid new so.asked asked;
        tells = record {
          more = so.tells.more ++ tells.more;
          are = puts_more was then_ now so.tells.more tells.more so.tells.are tells.are;
          so = record {
            stays = λ is_open. tells.so.stays (so.tells.so.stays is_open);
            was = λ is_open h.
                let honest = asked.was_honest h in
                let this : tells.more ≡ part_revised part state =
                subst (λ (at : State). tells.more ≡ part_revised part at) (so.asked.same_state honest)
                (tells.so.was (so.tells.so.stays is_open) h) in
                append_assoc so.tells.more tells.more (parts_revised rest state)
                ∙ ap (λ (l : List ℕ). so.tells.more ++ (l ++ parts_revised rest state)) this
                ∙ ap (λ (some : List Part). so.tells.more ++ parts_revised some state) (sym e)
                ∙ so.tells.so.was is_open honest;
          };
        };
      }

  pub tells_done : (old new : S) (was now : List ℕ) (parts left : List Part) → TellsTo old new was now parts left → left ≡ []
      → TellsOf k old new (record { was = was; now = now }) (parts_revised parts)
  tells_done old new was now parts left so e = record {
    more = so.tells.more;
    are = so.tells.are;
    so = record {
      stays = so.tells.so.stays;
      was = λ is_open h. sym (append-nil so.tells.more)
          ∙ ap (λ (some : List Part). so.tells.more ++ parts_revised some (k.state old)) (sym e) ∙ so.tells.so.was is_open h;
    };
  }
