-- In every run a state that a call takes to its server is of the call's object.
use Rattle.arj_law_parts.proofs.Words
use Words.{◌≡◌, ◌⊎◌, ◌∙◌, ℕ, true, List, Some, sym, ap, subst, inl, inr, uid_is, Asked, ObjectState, Uid, object, Reply, heard, At}
use Words.{AtActivate, Known, Steps, Calling, Coord, Doing, doing_of, Intent, is_loaded_for, is_loaded_in, reply_is_meant}
use Words.loaded
use Rattle.arj_law_lock_view.proofs.Terms.{AnswersWaiting}
use Rattle.arj_law_lock_view.proofs.facts.{Asked.AreWaiting, Asked.IsNewAt, Asked.waiting_heard, CoordRuns.PlaceAt, CoordRuns.Sender}
use Rattle.arj_law_lock_view.specs.facts.States.{KnowsStates}

-- the step's state is of its object
abbrev IsStated : Steps → Type 0
IsStated w = (k : Known) (o : ObjectState) → w.at ≡ AtActivate k o → o.uid.num ≡ w.x

to_waiting : (c : Coord) → KnowsStates c → AreWaiting IsStated c
to_waiting c knows u d w found is k o at = knows u d w k o found is at

of_waiting : (c : Coord) → AreWaiting IsStated c → KnowsStates c
of_waiting c all u d w k o found is at = all u d w found is k o at

-- a state that comes, and can be meant, is of the object of the step for which its action waits
loaded_is : (c : Coord) (a : Asked) (r : Reply) → reply_is_meant c a r ≡ true → (d : Doing) (w : Steps) (o : ObjectState) →
    doing_of a.act c ≡ Some d → d.now ≡ Calling w → r ≡ Reply.Loaded (loaded.State o) → o.uid.num ≡ w.x
loaded_is c a r meant d w o found is reply = ap (λ (u : Uid). u.num)
    (uid_is o.uid (object w.x) (sym (ap (is_loaded_for o) found ∙ ap (is_loaded_in o) is) ∙ ap (reply_is_meant c a) (sym reply) ∙ meant))

pub states_heard : (s : Sender) (c : Coord) → PlaceAt s c → (from : ℕ) (a : Asked) (r : Reply) (intents : List (Uid × Intent)) →
    AnswersWaiting from a r c → reply_is_meant c a r ≡ true → KnowsStates c → KnowsStates (heard from a r intents c).part
states_heard s c place from a r intents fits meant knows = of_waiting (heard from a r intents c).part
    (waiting_heard IsStated s.sent s.node c place from a r intents fits next (to_waiting c knows))
  where
    next : (w : Steps) (d : Doing) (req : ℕ) (at : At) → doing_of a.act c ≡ Some d → d.now ≡ Calling w → IsStated w →
        (at ≡ w.at) ⊎ IsNewAt r at → IsStated (record w { req = req; at = at })
    next w d req at found is known (inl same) = λ k o at_it. known k o (sym same ∙ at_it)
    next w d req at found is known (inr new) = λ k o at_it. loaded_is c a r meant d w o found is (subst (IsNewAt r) at_it new)
