-- A node halts, a restart finds records, an action begins: the tie of the journal is kept.
use Rattle.arj_law_parts.proofs.Words
use Words.{◌≡◌, ◌≢◌, ◌≤◌, ◌⊎◌, ◌∙◌, ◌==◌, ℕ, List, true, false, Option, Some, refl, ap, inl, inr, ⊎_elim, arith, eqb-true, Contains}
use Words.{and_parts, Line, Uid, Branch, Tree, branch_of, is_serial}
use Rattle.arj_law_lock_view.proofs.Terms
use Terms.{acts, is_action, State, found_by, Acts, SameEnd, HasStopped, OnlyStopped, AreNamed, CallsStay, EndsStay, StopsSo}
use Terms.{AreHereOrGone}
use Terms.body
use Terms.model
use Terms.machine
use Rattle.arj_law_lock_view.proofs.journal.Ties.{ties_are_kept}
use Rattle.arj_law_lock_view.specs.journal.Stops.{BeginsAreTied, HaltsAreTied, OldRecordsAreTied}

same_end : (a b : machine.Action) → b ≡ a → SameEnd a b
same_end a b is = record {
  stage = ap (λ (k : machine.Action). k.stage) is;
  place = ap (λ (k : machine.Action). k.place) is;
  done = ap (λ (k : machine.Action). k.done) is;
}

-- ---- a halt

module _ (act : Acts) (n : ℕ) (lines : List Line) (t : Tree) (last : Option Uid) (S T : State) (named : AreNamed act lines)
    (node : t.node ≡ n) (there : AreHereOrGone act n t lines S) (stopped : HasStopped act t last T) (only : OnlyStopped act t S T) where
  -- who is of the tree was begun at its node
  at_node : (u : Uid) (b : Branch) → branch_of u t ≡ Some b → u.node ≡ n
  at_node u b found = let own = (found_by u t b found).0 in
      eqb-true u.node t.node (and_parts (u.node == t.node) (u.inc == t.inc) own).0 ∙ node

  module _ (a : model.Act) (i : Contains (acts lines) a) (plain : is_serial a.kind ≡ false) where
    its : is_action (act a.uid) ≡ true
    its = named.actions a i plain

    away : a.uid.node ≢ n → SameEnd (S.action (act a.uid)) (T.action (act a.uid))
    away other = ⊎_elim (same_end (S.action (act a.uid)) (T.action (act a.uid)))
        (λ h. (let w = h.0 in absurd (other (ap (λ (v : Uid). v.node) (named.one a.uid w.0 w.3) ∙ at_node w.0 w.1 w.2))))
        (only.ends (act a.uid) its)

    stops_so : StopsSo (S.action (act a.uid)) (T.action (act a.uid))
    stops_so = ⊎_elim
        (λ (low : (S.action (act a.uid)).stage ≤ 2). ⊎_elim
        (λ same. inl (same_end (S.action (act a.uid)) (T.action (act a.uid)) same))
        (λ h. inr (
          low,
          ⊎_elim (λ gone. inl (ap (λ (k : machine.Action). k.stage) gone)) (λ sure. inr (ap (λ (k : machine.Action). k.stage) sure)) h.1,
          ⊎_elim (ap (λ (k : machine.Action). k.place)) (ap (λ (k : machine.Action). k.place)) h.1,
          ⊎_elim (ap (λ (k : machine.Action). k.done)) (ap (λ (k : machine.Action). k.done)) h.1,
        ))
        (only.ends (act a.uid) its))
        (λ (over : 3 ≤ (S.action (act a.uid)).stage).
        inl (same_end (S.action (act a.uid)) (T.action (act a.uid)) (only.ended (act a.uid) over)))
        (either (S.action (act a.uid)).stage)
      where
        either : (k : ℕ) → (k ≤ 2) ⊎ (3 ≤ k)
        either k = grind arith

    -- its action has an end by then, or is decided
    far : a.uid.node ≡ n → 2 ≤ (T.action (act a.uid)).stage
    far home = ⊎_elim
        (λ here. ⊎_elim (λ its_last. (let z = stopped.top a.uid its_last in let e = z.3 in omega (arith, e)))
        (high (T.action (act a.uid)).stage) (stopped.each a.uid here.0 here.1 its))
        (λ gone. (let z = ap (λ (k : machine.Action). k.stage) (only.ended (act a.uid) (three (S.action (act a.uid)).stage gone)) in
        high (T.action (act a.uid)).stage (⊎_elim (λ e. inl (z ∙ e)) (λ e. inr (z ∙ e)) gone)))
        (there a i plain home)
      where
        high : (k : ℕ) → (k ≡ 3) ⊎ (k ≡ 4) → 2 ≤ k
        high k (inl e) = omega (arith, e)
        high k (inr e) = omega (arith, e)

        three : (k : ℕ) → (k ≡ 3) ⊎ (k ≡ 4) → 3 ≤ k
        three k (inl e) = omega (arith, e)
        three k (inr e) = omega (arith, e)

  calls_stay : CallsStay S T
  calls_stay = (ap (λ (s : State). s.calls) only.rest, ap (λ (s : State). s.includes) only.rest)

pub halts_are_tied : HaltsAreTied
halts_are_tied act code values x event n lines t last S T named node there stopped only tied =
    ties_are_kept act code values x event lines (body.Halted n) S T named (ap (λ (s : State). s.initial) only.rest)
    (let e = ap (λ (s : State). s.now) only.rest in let k = tied.now in omega (arith, e, k)) (
      calls_stay act n lines t last S T named node there stopped only,
      λ a i plain other. away act n lines t last S T named node there stopped only a i plain other,
      λ a i plain home. (
        stops_so act n lines t last S T named node there stopped only a i plain,
        far act n lines t last S T named node there stopped only a i plain home,
      ),
    ) tied

-- ---- records

stays : (S : State) → EndsStay S S
stays S a action = record { stage = refl; place = refl; done = refl }

pub old_records_are_tied : OldRecordsAreTied
old_records_are_tied act code values x event n lines u S named three tied = ties_are_kept act code values x event lines (body.Recovered n u)
    S S named refl (let k = tied.now in omega (arith, k)) ((refl, refl), inl (three, stays S)) tied

pub begins_are_tied : BeginsAreTied
begins_are_tied act code values x event lines l k u parent S named untouched unfound tied = ties_are_kept act code values x event lines
    (body.Began l k u parent) S S named refl (let n = tied.now in omega (arith, n)) ((refl, refl), stays S, untouched.stage, unfound) tied
