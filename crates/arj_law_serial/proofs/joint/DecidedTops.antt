-- Where both machines stand in one run, a top with a surviving write was decided by the disk machine, with what was voted for it.
use Rattle.arj_law_parts.proofs.Words
use Words.{◌≡◌, ℕ, Bool, true, false, Option, Some, None, refl, sym, ◌∙◌, ap, subst, inl, inr, arith, List, in_from, in_to, ObjectState}
use Words.{Uid, Used, changed_of, uid_number, Seen}
use Words.list
use Rattle.arj_law_serial.proofs.Terms
use Terms.{Act, acts, Values, Action, World, plan_by, used_at, book, is_decided, is_top, new_book, IsIdle, AreRight, one_act, is_book}
use Terms.{its_acts, its_sound, idle_has_nothing, AreDone, IsDoneBy, IsPlain, top, Alive, Call, State, Survives, start_holds, lives}
use Terms.{roots_low, start_low, run_values, start_values, survives_of, AreOne, IsSeenIn, StandsFor, Fixed, case_of, AreApart, WasVotedOver}
use Terms.{ArePlannedOver, ArePlannedSo, IsPlannedSo}
use Terms.disk
use Terms.machine
use Rattle.arj_law_serial.proofs.joint
use joint.{BasedPlans.was_voted_over, Called.wrote_something, Surviving.HasWritten, Surviving.has_written, Writing.VotedIn}
use joint.{Writing.planned_voted}

never : {P : Type 0} {b : Bool} → b ≡ true → b ≡ false → P
never {P} {b} holds fails = let no_way : true ≡ false = sym holds ∙ fails in absurd (cc no_way)

module _ (f : Fixed) (x : ℕ) (begun : List Action) (S : State) (M : Seen) (seen : IsSeenIn (case_of f x begun S) M) (values : Values)
    (begins : StandsFor f (values x)) (W : World) (done : AreDone (λ ls v. IsIdle (book ls) v) W M) (planned : ArePlannedSo f x S W M) where
  right : AreRight new_book M.lines
  right = let w = seen.written in w.right

  one : AreOne f.act
  one = let a = seen.agrees in let w = a.whole in let l = w.alike in l.one

  module _ (t : Uid) (three : (let a = S.action (f.act t) in a.stage) ≡ 3) (k : Call) (there : machine.In k S.calls)
      (write : k.write ≡ true) (of : top k.act ≡ f.act t) where
    -- without a write in its plan it would have written nothing
    not_without : Alive S k.act → IsPlannedSo f x S W t → (let p = W.disk.plan (uid_number t) in p.writes) ≡ None → ⊥
    not_without alive p none =
        let voted : VotedIn f S t None = subst (VotedIn f S t) none
        (planned_voted f x S W t one p (omega (arith, three)) (omega (arith, three))) in
        voted k there write of alive

    module _ (survives : Survives S k.act) where
      pub its : HasWritten M.lines x t
      its = has_written f x begun S M seen values begins k there write survives t of

      said : is_decided (book M.lines) t ≡ true
      said = ap (is_decided (book M.lines)) (sym its.uid)
          ∙ sym (let b = is_book M.lines right in b.decided its.act (in_to its.act (acts M.lines) its.there)) ∙ its.done

      pub not_idle : IsIdle (book M.lines) t → ⊥
      not_idle idle =
          wrote_something M.lines x (record { id = its.act.id; root = its.act.id; at = 0 }) its.act refl its.wrote (idle_has_nothing M.lines
          right its.act (in_to its.act (acts M.lines) its.there) its.done (subst (IsIdle (book M.lines)) (sym its.uid) idle))

      pub not_plain : IsPlain M.lines t → ⊥
      not_plain (p, known, uid, plain) =
          let sound = its_sound M.lines right in
          let same = one_act (acts M.lines) sound.distinct p its.act (subst (list.In p) (its_acts M.lines right)
          (in_from p (let B = book M.lines in B.acts) known)) its.there (uid ∙ sym its.uid) in
          never (ap (λ (y : Act). is_top y.kind) same ∙ its.kind) plain

      pub machine_decided : disk.decided W.disk (uid_number t) ≡ true
      machine_decided = by (done t said)
        where
          by : IsDoneBy (λ ls v. IsIdle (book ls) v) W M.lines t → disk.decided W.disk (uid_number t) ≡ true
          by (inl on) = on
          by (inr (inl on)) = let b = planned.bares t on in
              absurd (not_without (lives S (let s = seen.sees in roots_low s.run (start_low f.first)) k.act survives) b.0 b.1)
          by (inr (inr (inl idle))) = absurd (not_idle idle)
          by (inr (inr (inr plain))) = absurd (not_plain plain)

    -- what was voted for it
    voted_over : AreApart f.code → Alive S k.act → WasVotedOver f x t S W
    voted_over apart alive = by (changed_of x p.plan) refl
      where
        survives : Survives S k.act
        survives =
            let s = seen.sees in
            let h = run_values s.run (start_holds f.first) (start_values f.first) in
            survives_of S h.0 h.1 k there alive (ap (λ a. let b = S.action a in b.stage) of ∙ three)

        decided : disk.decided W.disk (uid_number t) ≡ true
        decided = machine_decided survives

        p : IsPlannedSo f x S W t
        p = planned.decisions t decided

        none_by : (o : Option Used) → (let q = plan_by o None in q.writes) ≡ None
        none_by None = refl
        none_by (Some q) = refl

        by : (o : Option ObjectState) → changed_of x p.plan ≡ o → WasVotedOver f x t S W
        by (Some st) is = was_voted_over f x t S W p (p.over apart) decided st is
        by None is = absurd (not_without alive p (ap (λ (q : disk.Plan). q.writes) p.same ∙ ap (λ (o : Option ObjectState).
            (let q = plan_by (used_at x (let z = p.plan in z.used)) o in q.writes)) is ∙ none_by (used_at x (let z = p.plan in z.used))))

  pub planned_over : AreApart f.code → ArePlannedOver f x S W
  planned_over apart u three c there write of alive = voted_over u three c there write of apart alive
