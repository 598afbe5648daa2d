-- Which ends are shown to a server.
use Rattle.arj_law_parts.proofs.Words
use Words.{◌≡◌, ◌⊎◌, ◌∙◌, ℕ, Bool, true, false, cond, Option, Some, None, refl, sym, ap, subst, inl, inr, ⊎_elim, arith, in_to, Uid, is_on}
use Words.{last_uid, Copy, at_number, Server}
use Words.ending
use Rattle.arj_law_lock_view.proofs.Terms
use Terms.{Act, In, Root, Sub, at_act, is_action, on, root, same, top, Guard, Run, next, stay, step, State, Abort, ActivateCopy, Answered}
use Terms.{Apply, BindLive, BindNew, Change, CommitNested, CommitTop, ConfirmTop, CrashNaming, CrashServer, Decide, DropEntry, DropRows}
use Terms.{EndUnit, Event, GiveUp, Grant, Included, Keep, Load, Lost, Name, PassEntry, PassRow, PassTop, Record, Refuse, Report}
use Terms.{SendConfirm, SendInvoke, SendVote, TurnedDown, VoteTop, Holds, run_keeps, start_holds, step_keeps, by_cases, differ, on_above}
use Terms.{on_root, on_self, on_top, on_up, same_is, top_action, top_is, top_root, start_values, Acts, IsReached, CountsForNone, IsDead}
use Terms.{SeesCopy, SeesObject, AreOneTree, IsOfFamily, Sees, View}
use Rattle.arj_law_lock.proofs.machine.{Paths.one_top, ValueClaims.EntryHolds, ValueRun.run_values}
use Rattle.arj_law_lock.specs.machine.{Machine.stopped, State.Action}
use Rattle.arj_law_lock_view.proofs.view.LogSteps.{held_for}
use Rattle.arj_law_lock_view.specs.view
use view.{Copies.AreUndone}
use view.Telling.{EndedAreShown, EndedStay, HasNoneLeft, OverAreShown, UnvotedAreShown}

pub ended_are_shown : EndedAreShown
ended_are_shown v u ending.Abort S aborted = inl (inl aborted)
ended_are_shown v u ending.Commit S committed = committed

pub unvoted_are_shown : UnvotedAreShown
unvoted_are_shown v u s S sees fresh off top committed = inl (inr (inr (top, committed, sees.voted u fresh off)))

-- ---- of a unit that is over

-- a number is four or not
pub is_four : (n : ℕ) → (n ≡ 4) ⊎ (n ≡ 4 → ⊥)
is_four n = grind arith

module _ (v : View) (u : Uid) (s : Server) (S : State) (reached : IsReached S) (whole : AreOneTree v.family) (of : IsOfFamily v.family s)
    (sees : Sees v s S) (none : HasNoneLeft v u s S) where
  abbrev act : Acts
  act = v.family.act

  -- who is aborted on the path of a holder, and stands below the action
  abbrev NoneDead : Act → Type 0
  NoneDead h = (b : Act) → on h b ≡ true → on b (act u) ≡ true → (S.action b).stage ≡ 4 → ⊥

  dead_on : (h : Act) → IsDead S h (act u) ⊎ NoneDead h
  dead_on (Root r) = by (by_cases (on (Root r) (act u))) (is_four (S.action (Root r)).stage)
    where
      one : (b : Act) → on (Root r) b ≡ true → b ≡ Root r
      one b up = sym (same_is (Root r) b up)

      by : (on (Root r) (act u) ≡ true) ⊎ (on (Root r) (act u) ≡ false) →
          ((S.action (Root r)).stage ≡ 4) ⊎ ((S.action (Root r)).stage ≡ 4 → ⊥) → IsDead S (Root r) (act u) ⊎ NoneDead (Root r)
      by (inl under) (inl four) = inl (Root r, on_self (Root r), under, four)
      by (inl under) (inr never) = inr (λ b up below four. never (ap (λ (z : Act). (S.action z).stage) (sym (one b up)) ∙ four))
      by (inr off) four_or = inr (λ b up below four. differ (ap (λ (z : Act). on z (act u)) (sym (one b up)) ∙ below) off)
  dead_on (Sub a j) = by (dead_on a) (by_cases (on (Sub a j) (act u))) (is_four (S.action (Sub a j)).stage)
    where
      by : IsDead S a (act u) ⊎ NoneDead a → (on (Sub a j) (act u) ≡ true) ⊎ (on (Sub a j) (act u) ≡ false) →
          ((S.action (Sub a j)).stage ≡ 4) ⊎ ((S.action (Sub a j)).stage ≡ 4 → ⊥) → IsDead S (Sub a j) (act u) ⊎ NoneDead (Sub a j)
      by (inl d) under four_or = inl (d.0, on_above a j d.0 d.1, d.2, d.3)
      by (inr none) (inl under) (inl four) = inl (Sub a j, on_self (Sub a j), under, four)
      by (inr none) (inl under) (inr never) = inr (λ b up below four.
          ⊎_elim (λ it. never (ap (λ (z : Act). (S.action z).stage) (sym it) ∙ four)) (λ above. none b above below four) (on_up a j b up))
      by (inr none) (inr off) four_or = inr (λ b up below four.
          ⊎_elim (λ it. differ (ap (λ (z : Act). on z (act u)) (sym it) ∙ below) off) (λ above. none b above below four) (on_up a j b up))

  -- a write that is left is dead, or of nobody that counts
  undone : AreUndone v.node S (act u)
  undone e i above = ⊎_elim (λ dead. inl dead) (λ living. inr (λ committed voted k called write survives same.
      by (at_number v.x s.objects) refl living committed voted k called write survives same)) (dead_on e.holder)
    where
      holds : EntryHolds S v.node e
      holds = let all = run_values reached.1 (start_holds reached.0) (start_values reached.0) in let values = all.1 in
          values.logs v.node e i

      has : (o : Option Copy) → at_number v.x s.objects ≡ o → SeesObject act v.code v.x s.inc o (S.server v.node) S
      has o is = subst (λ (f : Option Copy). SeesObject act v.code v.x s.inc f (S.server v.node) S) is sees.object

      here : (c : Copy) → at_number v.x s.objects ≡ Some c → NoneDead e.holder → CountsForNone v.node S e
      here c there living committed voted k called write survives same =
          let copy : SeesCopy act v.code v.x c (S.server v.node) = (has (Some c) there).0 in
          let f = held_for act v.code c.stack (let m = S.server v.node in m.log) copy.overs e i in
          let w : Uid = last_uid f.0.holder in
          let action : is_action (act w) ≡ true = ap is_action (sym f.2) ∙ holds.holder in
          let t = whole.alike.filled w (top (act w)) (on_top (act w)) (top_action (top (act w)) (top_is (act w) action)) in
          let path = of.good.copies v.x c there in
          let on_path : (z : Uid) → is_on f.0.holder z ≡ on (act w) (act z) = λ z.
          ap (λ us. is_on us z) (path.overs f.0 (in_to f.0 c.stack f.1)) ∙ sym (whole.alike.above w z) in
          let on_it : is_on f.0.holder t.0 ≡ true = on_path t.0 ∙ ap (on (act w)) (sym t.1) ∙ on_top (act w) in
          let unit : root (act t.0) ≡ root (act u) = ap root (sym t.1) ∙ top_root (act w) ∙ ap root (sym f.2)
          ∙ on_root e.holder (act u) above in
          let its_top : top e.by ≡ act t.0 = one_top e.by e.holder holds.holder holds.path ∙ ap top f.2 ∙ t.1 in
          differ on_it (none t.0 k c f.0 unit (ap (λ (b : Act). (S.action b).stage) (sym its_top) ∙ committed) called write survives (same
          ∙ its_top) (ap (λ (b : Act). (let m = S.server v.node in m.voted b)) (sym its_top) ∙ voted) there (in_to f.0 c.stack f.1) (
            on_path u ∙ ap (λ (h : Act). on h (act u)) (sym f.2) ∙ above,
            λ z at under four. living (act z) (ap (λ (h : Act). on h (act z)) f.2 ∙ sym (on_path z) ∙ at) under four,
          ))

      by : (o : Option Copy) → at_number v.x s.objects ≡ o → NoneDead e.holder → CountsForNone v.node S e
      by None is living = let empty = has None is in absurd (subst (In e) empty.1 i)
      by (Some c) is living = here c is living

pub over_are_shown : OverAreShown
over_are_shown v u s S reached whole of sees over none = inr (over, undone v u s S reached whole of sees none)

-- ---- later

-- a commit is for ever
pub committed_on : {S T : State} → Run S T → Holds S → (a : Act) → (let z = S.action a in z.stage) ≡ 3 → (let z = T.action a in z.stage) ≡ 3
committed_on stay holds a is = is
committed_on (step e guard rest) holds a is = let k = step_keeps e _ guard holds in let later = k.0 in
    committed_on rest k.1 a (later.ends a is).0

-- ---- an abort is for ever

-- an action is another one, or this one with this stage
end_cases : (s : State) (b : Act) (x : Action) → ((let z = s.action b in z.stage) ≡ 4 → x.stage ≡ 4) → (a : Act) →
    (let z = s.action a in z.stage) ≡ 4 → (let z = at_act s.action b x a in z.stage) ≡ 4
end_cases s b x its a is = by (same a b) refl
  where
    by : (t : Bool) → same a b ≡ t → (let z = cond t x (s.action a) in z.stage) ≡ 4
    by true e = its (ap (λ (c : Act). (let z = s.action c in z.stage)) (sym (same_is a b e)) ∙ is)
    by false e = is

same_stage : (s : State) (b : Act) (x : Action) → x.stage ≡ (let z = s.action b in z.stage) → (a : Act) →
    (let z = s.action a in z.stage) ≡ 4 → (let z = at_act s.action b x a in z.stage) ≡ 4
same_stage s b x e = end_cases s b x (λ four. e ∙ four)

same_end : (s : State) (b : Act) (x : Action) → x.stage ≡ 4 → (a : Act) → (let z = s.action a in z.stage) ≡ 4 →
    (let z = at_act s.action b x a in z.stage) ≡ 4
same_end s b x e = end_cases s b x (λ four. e)

other_stage : (s : State) (b : Act) (x : Action) → ((let z = s.action b in z.stage) ≡ 4 → ⊥) → (a : Act) →
    (let z = s.action a in z.stage) ≡ 4 → (let z = at_act s.action b x a in z.stage) ≡ 4
other_stage s b x never = end_cases s b x (λ four. absurd (never four))

aborted_next : (e : Event) (s : State) → Guard e s → (a : Act) → (let z = s.action a in z.stage) ≡ 4 →
    (let z = (let t = next e s in t.action) a in z.stage) ≡ 4
aborted_next (CrashNaming g) s guard a is = is
aborted_next (BindLive m) s guard a is = is
aborted_next (BindNew m b n) s guard a is = is
aborted_next (Grant m) s guard a is = is
aborted_next (Record b) s guard a is = is
aborted_next (ConfirmTop m q) s guard a is = is
aborted_next (PassEntry u n) s guard a is = is
aborted_next (DropEntry b) s guard a is = is
aborted_next (CrashServer n i) s guard a is = is
aborted_next (ActivateCopy n b w) s guard a is = is
aborted_next (Apply n q g) s guard a is = is
aborted_next (Refuse n q) s guard a is = is
aborted_next (Change n q) s guard a is = is
aborted_next (PassRow n b j) s guard a is = is
aborted_next (PassTop n u j) s guard a is = is
aborted_next (DropRows n b) s guard a is = is
aborted_next (VoteTop n m b i) s guard a is = is
aborted_next (Keep m b) s guard a is = is
aborted_next (Name b i) s guard a is = is
aborted_next (Load b w) s guard a is = is
aborted_next (Included b g p) s guard a is = is
aborted_next (SendInvoke b k w) s guard a is = same_stage s (b) (record (s.action b) { request = k; waits = true; since = s.now }) refl a is
aborted_next (Answered r p) s guard a is = same_stage s (r.request.act) (stopped (s.action r.request.act)) refl a is
aborted_next (TurnedDown q) s guard a is = same_stage s (q.act) (stopped (s.action q.act)) refl a is
aborted_next (Lost b) s guard a is = same_stage s (b) (stopped (s.action b)) refl a is
aborted_next (GiveUp b) s guard a is = same_stage s (b) (record (s.action b) { waits = false; doomed = true }) refl a is
aborted_next (CommitNested b p) s guard a is = other_stage s b (record (s.action b) { stage = 3; done = p })
    (λ four. (let before = guard.2 b (on_self b) in omega (arith, four, before))) a is
aborted_next (Abort b) s guard a is = same_end s b (record (s.action b) { stage = 4 }) refl a is
aborted_next (CommitTop m p) s guard a is = other_stage s m (record (s.action m) { stage = 1; place = p })
    (λ four. (let before = guard.1 m (on_self m) in omega (arith, four, before))) a is
aborted_next (SendVote m i) s guard a is = is
aborted_next (SendConfirm m q) s guard a is = is
aborted_next (Decide m) s guard a is =
    other_stage s m (record (s.action m) { stage = 2 }) (λ four. (let one = guard.1 in omega (arith, four, one))) a is
aborted_next (Report m p) s guard a is =
    other_stage s m (record (s.action m) { stage = 3; done = p }) (λ four. (let two = guard.1 in omega (arith, four, two))) a is
aborted_next (EndUnit u) s guard a is =
    other_stage s (Root u) (record (s.action (Root u)) { stage = 3 }) (λ four. (let before = guard.0 in omega (arith, four, before))) a is

pub aborted_on : {S T : State} → Run S T → (a : Act) → (let z = S.action a in z.stage) ≡ 4 → (let z = T.action a in z.stage) ≡ 4
aborted_on stay a is = is
aborted_on (step e guard rest) a is = aborted_on rest a (aborted_next e _ guard a is)

-- ---- any end is

pub ended_stay : EndedStay
ended_stay v u ending.Abort S T reached run aborted = aborted_on run (v.family.act u) aborted
ended_stay v u ending.Commit S T reached run so = record {
  action = so.action;
  begun = so.begun;
  of = so.of;
  unserial = so.unserial;
  committed = committed_on run holds (v.family.act u) so.committed;
  over = λ plain. committed_on run holds (Root (root (v.family.act u))) (so.over plain);
}
  where
    holds : Holds S
    holds = run_keeps reached.1 (start_holds reached.0)
