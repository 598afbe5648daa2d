-- A unit is open or over.
use Rattle.arj_law_lock.proofs.Terms
use Terms.{◌≡◌, ◌≤◌, ℕ, true, false, arith, Act, Root, is_action, at_act, Action, State, Event, CrashNaming, BindLive, BindNew, Grant}
use Terms.{Record, ConfirmTop, PassEntry, DropEntry, CrashServer, ActivateCopy, Apply, Refuse, Change, PassRow, PassTop, DropRows, VoteTop}
use Terms.{Keep, Name, Load, SendInvoke, Answered, TurnedDown, Lost, GiveUp, CommitNested, Abort, CommitTop, SendVote, SendConfirm, Decide}
use Terms.{Report, EndUnit, Included, Guard, next, start, Run, stay, step, stopped}
use Rattle.arj_law_lock.proofs.machine.Paths.{act_cases, differ, top_action}

abbrev pub RootsLow : State → Type 0
RootsLow s = (a : Act) → is_action a ≡ false → (s.action a).stage ≤ 3

-- another action of a root's stage
one : (s : State) (a : Act) (x : Action) → (is_action a ≡ false → x.stage ≤ 3) → RootsLow s → (b : Act) → is_action b ≡ false →
    (at_act s.action a x b).stage ≤ 3
one s a x here low = act_cases (λ (b : Act) (v : Action). is_action b ≡ false → v.stage ≤ 3) s.action a x here (λ b f e. low b e)

roots_step : (e : Event) (s : State) → Guard e s → RootsLow s → RootsLow (next e s)
roots_step (CrashNaming g) s guard low = low
roots_step (BindLive m) s guard low = low
roots_step (BindNew m b n) s guard low = low
roots_step (Grant m) s guard low = low
roots_step (Record b) s guard low = low
roots_step (ConfirmTop m q) s guard low = low
roots_step (PassEntry u n) s guard low = low
roots_step (DropEntry a) s guard low = low
roots_step (CrashServer n i) s guard low = low
roots_step (ActivateCopy n b v) s guard low = low
roots_step (Apply n q g) s guard low = low
roots_step (Refuse n q) s guard low = low
roots_step (Change n q) s guard low = low
roots_step (PassRow n a j) s guard low = low
roots_step (PassTop n u j) s guard low = low
roots_step (DropRows n a) s guard low = low
roots_step (VoteTop n m b i) s guard low = low
roots_step (Keep m b) s guard low = low
roots_step (Name b i) s guard low = low
roots_step (Load b v) s guard low = low
roots_step (SendInvoke a k w) s guard low = one s a (record (s.action a) { request = k; waits = true; since = s.now }) (low a) low
roots_step (Answered r p) s guard low = one s (r.request.act) (stopped (s.action r.request.act)) (low (r.request.act)) low
roots_step (TurnedDown q) s guard low = one s (q.act) (stopped (s.action q.act)) (low (q.act)) low
roots_step (Lost a) s guard low = one s a (stopped (s.action a)) (low a) low
roots_step (GiveUp a) s guard low = one s a (record (s.action a) { waits = false; doomed = true }) (low a) low
roots_step (CommitNested a p) s guard low = one s a (record (s.action a) { stage = 3; done = p }) (λ e. differ (guard.0) e) low
roots_step (Abort a) s guard low = one s a (record (s.action a) { stage = 4 }) (λ e. differ (guard.0) e) low
roots_step (CommitTop m p) s guard low = one s m (record (s.action m) { stage = 1; place = p }) (λ e. differ (top_action m guard.0) e) low
roots_step (SendVote m i) s guard low = low
roots_step (SendConfirm m q) s guard low = low
roots_step (Decide m) s guard low = one s m (record (s.action m) { stage = 2 }) (λ e. differ (top_action m guard.0) e) low
roots_step (Report m p) s guard low = one s m (record (s.action m) { stage = 3; done = p }) (λ e. differ (top_action m guard.0) e) low
roots_step (EndUnit u) s guard low = one s (Root u) (record (s.action (Root u)) { stage = 3 }) (λ e. omega arith) low
roots_step (Included a g p) s guard low = low

pub roots_low : {s t : State} → Run s t → RootsLow s → RootsLow t
roots_low stay low = low
roots_low (step e guard rest) low = roots_low rest (roots_step e _ guard low)

pub start_low : (v : ℕ) → RootsLow (start v)
start_low v a e = omega arith
