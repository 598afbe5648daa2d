-- Decided tops wrote what their plans have, in the words of the journal.
use Rattle.arj_law_parts.proofs.Words
use Words.{Contains, ◌≡◌, ◌==◌, ◌||◌, ℕ, Bool, true, false, List, [], ◌∷◌, Option, Some, None, refl, sym, ◌∙◌, ap, subst, inl, inr, arith}
use Words.{eq-eqb, In, in_from, Header, Uid, uid_number, World, Post, Seen, see}
use Rattle.arj_law_serial.proofs.Terms
use Terms.{acts, Top, tops, first_values, uid_of_id, Values, Action, paths_of, Done, Packed, Plan, decided_in, Kinds, SeesDisks, new_book}
use Terms.{AreAlike, IsAlikeOf, AreRight, State, Fixed, SeesLocks, AreTied, code_of, VotedSo, WroteSo, RequestsAreOne, IsTied, its_acts}
use Terms.{acts_of, AgreesApart, AreBareSo, ArePlannedSo, AreWritten, IsPlannedSo}
use Terms.Effects as machine
use Terms.words as disk
use Rattle.arj_law_runs.proofs.journal.Books.{never}
use Rattle.arj_law_serial.proofs.joint.Writing.{VotedIn, planned_voted}
use Rattle.arj_law_serial.proofs.order
use order.{Begun.begun_have_places, Codes.codes_are_apart, Locks.number_uid, Locks.tie, Seeing.agrees_at, Seeing.fixed_at, Votes.votes_give}
use order.Order.{IsTopOf, same_number, stage_of_top, top_item}

decided_there : (ds : List Done) (d : Done) → disk.In d ds → decided_in ds d.top ≡ true
decided_there [] d i = absurd i
decided_there (e ∷ ds) d (inl is) = ap (λ b. b || decided_in ds d.top) (eq-eqb e.top d.top (ap (λ (z : Done). z.top) is))
decided_there (e ∷ ds) d (inr i) = by (e.top == d.top) (decided_there ds d i)
  where
    by : (b : Bool) → decided_in ds d.top ≡ true → (b || decided_in ds d.top) ≡ true
    by true on = refl
    by false on = on

module _ (hd : Header) (w : World) (x : ℕ) (right : AreRight new_book w.lines) (sent : List Post) (kinds : Kinds) (W : machine.World)
    (disks : SeesDisks x kinds W (see sent w)) (begun : List Action) (alike : IsAlikeOf begun (see sent w))
    (seen : (f : Fixed) → AgreesApart (first_values hd) w.start.marks f x begun sent → (S : State) × SeesLocks f x begun S (see sent w)
    × AreTied f x w.lines S × ArePlannedSo f x S W (see sent w)) (knows : RequestsAreOne (see sent w)) where
  abbrev M : Seen
  M = see sent w

  abbrev values : Values
  values = first_values hd

  locks : (f : Fixed) → AgreesApart (first_values hd) M.start.marks f x begun M.sent →
      (S : State) × SeesLocks f x begun S M × AreTied f x M.lines S
  locks f a = let z = seen f a in (z.0, z.1, z.2)

  abbrev f : Fixed
  f = fixed_at values x M begun alike (λ g apart a. locks g (a.0, (a.1, apart))) knows code_of

  agrees : AgreesApart values M.start.marks f x begun M.sent
  agrees = let a = agrees_at values x M begun alike (λ g apart a. locks g (a.0, (a.1, apart))) knows code_of in
      (a.0, (a.1, codes_are_apart))

  abbrev S : State
  S = (seen f agrees).0

  planned : ArePlannedSo f x S W M
  planned = (seen f agrees).3

  tied : IsTied values M.lines x S
  tied = record {
    act = acts_of begun;
    code = code_of;
    apart = codes_are_apart;
    places = begun_have_places begun (paths_of begun) (acts_of begun) M.lines right
        (subst (AreAlike begun) (its_acts M.lines right) alike.1) agrees.0.whole;
    first = code_of (values x) (acts_of begun (let m = w.start.marks.states x in m.writer));
    run = (let s = (seen f agrees).1 in s.run);
    tied = (seen f agrees).2 values (acts_of begun (let m = w.start.marks.states x in m.writer), refl);
  }

  voted : (u : Uid) (o : Option Packed) → VotedIn f S u o → VotedSo values M.lines x S tied u o
  unfolding tied
  voted u None v = v
  voted u (Some w) v = (v.0, v.1, v.2, v.3, v.4, v.5, v.6, v.7, v.8, v.9)

  -- a top of the journal that had planned so wrote what its plan has
  its_plan : (u : Top) (listed : Contains (tops M.lines) u) →
      (let k = top_item M.lines right u (in_from u (tops M.lines) listed) in IsPlannedSo f x S W (let a = k.act in a.uid)) →
      WroteSo values M.lines x u (let k = W.disk.plan (uid_number (uid_of_id (acts M.lines) u.id)) in k.writes)
  unfolding tied
  its_plan u listed planned_its = votes_give values M.lines right x S tied u there _ (subst
      (λ (v : Uid). VotedSo values M.lines x S tied v (let p = W.disk.plan (uid_number v) in p.writes)) (sym is_own) (voted own _ its))
    where
      there : In u (tops M.lines)
      there = in_from u (tops M.lines) listed

      k : IsTopOf M.lines u
      k = top_item M.lines right u there

      own : Uid
      own = let a = k.act in a.uid

      is_own : uid_of_id (acts M.lines) u.id ≡ own
      is_own = ap (uid_of_id (acts M.lines)) (sym k.number)
          ∙ number_uid k.act (acts M.lines) (λ y j e. same_number M.lines right y k.act j k.there e) k.there

      stage : (let a = S.action (f.act own) in a.stage) ≡ 3
      stage = stage_of_top values M.lines right x S (tie values M.lines right x S tied) u k

      its : VotedIn f S own (let p = W.disk.plan (uid_number own) in p.writes)
      its = planned_voted f x S W own (let t = agrees.0.whole in let a = t.alike in
          a.one) planned_its (omega (arith, stage)) (omega (arith, stage))

  pub bare : AreBareSo M.lines x W.disk
  bare u listed on wrote = absurd (never wrote.2 (none wrote.0 wrote.1 wrote.3))
    where
      k : IsTopOf M.lines u
      k = top_item M.lines right u (in_from u (tops M.lines) listed)

      is_own : uid_of_id (acts M.lines) u.id ≡ (let a = k.act in a.uid)
      is_own = ap (uid_of_id (acts M.lines)) (sym k.number)
          ∙ number_uid k.act (acts M.lines) (λ y j e. same_number M.lines right y k.act j k.there e) k.there

      planned_its :
          IsPlannedSo f x S W (let a = k.act in a.uid) × ((let p = W.disk.plan (uid_number (let a = k.act in a.uid)) in p.writes) ≡ None)
      planned_its = planned.bares (let a = k.act in a.uid) (ap (λ (v : Uid). W.disk.bare (uid_number v)) (sym is_own) ∙ on)

      none : WroteSo values M.lines x u None
      none = subst (WroteSo values M.lines x u) (ap (λ (v : Uid). let p = W.disk.plan (uid_number v) in p.writes) is_own ∙ planned_its.1)
          (its_plan u listed planned_its.0)

  pub wrote : AreWritten values M.lines x W.disk.tops
  wrote d u i listed number = subst (WroteSo values M.lines x u) (sym (ap (λ (k : Plan). k.writes) plan)) (its_plan u listed planned_its)
    where
      k : IsTopOf M.lines u
      k = top_item M.lines right u (in_from u (tops M.lines) listed)

      own : Uid
      own = let a = k.act in a.uid

      is_own : uid_of_id (acts M.lines) u.id ≡ own
      is_own = ap (uid_of_id (acts M.lines)) (sym k.number)
          ∙ number_uid k.act (acts M.lines) (λ y j e. same_number M.lines right y k.act j k.there e) k.there

      plan : d.plan ≡ W.disk.plan (uid_number (uid_of_id (acts M.lines) u.id))
      plan = (let c = (let w = disks.whole in w.core) in let j = c.journal in j.plan d i) ∙ ap W.disk.plan number

      planned_its : IsPlannedSo f x S W own
      planned_its = planned.decisions own (ap (λ (v : Uid). decided_in W.disk.tops (uid_number v)) (sym is_own)
          ∙ (ap (decided_in W.disk.tops) (sym number) ∙ decided_there W.disk.tops d i))
