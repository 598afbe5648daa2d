-- Each step keeps the invariant of values, and so does each run; and what each surviving call saw.
use Rattle.arj_law_lock.proofs.Terms
use Terms.{◌≡◌, ◌⊎◌, ℕ, List, [], ◌∷◌, true, false, cond, inl, inr, refl, sym, subst, arith, Act, Root, Sub, on, top, at_act, In, raise}
use Terms.{pass, drop_below, Call, Message, Live, Granted, State, Event, CrashNaming, BindLive, BindNew, Grant, Record, ConfirmTop}
use Terms.{PassEntry, DropEntry, CrashServer, ActivateCopy, Apply, Refuse, Change, PassRow, PassTop, DropRows, VoteTop, Keep, Name, Load}
use Terms.{SendInvoke, Answered, TurnedDown, Lost, GiveUp, CommitNested, Abort, CommitTop, SendVote, SendConfirm, Decide, Report, EndUnit}
use Terms.{Included, Survives, IsLast, Guard, next, start, Run, stay, step}
use Rattle.arj_law_lock.proofs.machine
use machine.{CallSteps.top_acts, Claims.Holds, Later.Later, Order.step_keeps, Ordered.good_last, Paths.on_top, ValueAnswer.value_answered}
use machine.ValueCalls.{value_send_invoke, value_turned_down, value_lost, value_give_up, value_commit_nested, value_abort, value_commit_top}
use machine.ValueCalls.{value_decide, value_report, value_end_unit}
use machine.ValueClaims.{Mine, Seen, Says, Values}
use machine.ValueLasts.{newest_on, survives_clean, clean_alive}
use machine.ValueMore.{value_pass_top, value_apply, value_record}
use machine.ValueServers.{value_crash_server, value_activate, value_pass_row, value_drop_rows, survives_of}
use machine.ValueSteps.{value_naming, value_send, value_change, value_load, value_refuse, value_vote, value_bind_new, value_confirm}
use machine.ValueSteps.{value_keep, value_name, value_included}
use Rattle.arj_law_lock.specs.machine.Laws.{SawTheLast}

-- a message that says nothing of values
quiet : (s t : State) (m : Message) → t.net ≡ m ∷ s.net → Says t m → (x : Message) → In x t.net → In x s.net ⊎ Says t x
quiet s t m e says x i = by (subst (λ (ms : List Message). In x ms) e i)
  where
    by : In x (m ∷ s.net) → In x s.net ⊎ Says t x
    by (inl is) = inr (subst (λ (y : Message). Says t y) (sym is) says)
    by (inr j) = inl j

pub step_values : (e : Event) (s : State) → Guard e s → Holds s → Values s → Later s (next e s) → Values (next e s)
step_values (CrashNaming g) s guard h v later =
    value_naming s (record s.naming { first = g; bound = g; rows = λ a. 0; told = λ a. false; confirmed = λ a. false; asked = λ a. false })
    s.net h v later refl (λ m i. inl i)
step_values (BindLive m) s guard h v later = value_naming s (record s.naming { rows = raise s.naming.rows m 1 })
    (Live m s.naming.recorded ∷ s.net) h v later refl (quiet s (next (BindLive m) s) (Live m s.naming.recorded) refl tt)
step_values (BindNew m b n) s guard h v later = value_bind_new s m b n h v later
step_values (Grant m) s guard h v later =
    value_naming s (record s.naming { rows = raise s.naming.rows m 2; asked = at_act s.naming.asked m true })
    (Granted m s.naming.first ∷ s.net) h v later refl (quiet s (next (Grant m) s) (Granted m s.naming.first) refl tt)
step_values (Record b) s guard h v later = value_record s b guard h v later
step_values (ConfirmTop m q) s guard h v later = value_confirm s m q h v later
step_values (PassEntry u n) s guard h v later = value_naming s (record s.naming
    { rows = pass s.naming.rows (Root u) n; told = at_act s.naming.told (Sub (Root u) n) true }) s.net h v later refl (λ m i. inl i)
step_values (DropEntry a) s guard h v later = value_naming s (record s.naming
    { rows = drop_below s.naming.rows a; told = λ b. cond (on b a) true (s.naming.told b) }) s.net h v later refl (λ m i. inl i)
step_values (CrashServer n i) s guard h v later = value_crash_server s n i guard h v later
step_values (ActivateCopy n b w) s guard h v later = value_activate s n b w guard h v later
step_values (Apply n q g) s guard h v later = value_apply s n q g guard h v later
step_values (Refuse n q) s guard h v later = value_refuse s n q guard h v later
step_values (Change n q) s guard h v later = value_change s n q guard h v later
step_values (PassRow n a j) s guard h v later = value_pass_row s n a j guard h v later
step_values (PassTop n u j) s guard h v later = value_pass_top s n u j guard h v later
step_values (DropRows n a) s guard h v later = value_drop_rows s n a guard h v later
step_values (VoteTop n m b i) s guard h v later = value_vote s n m b i h v later
step_values (Keep m b) s guard h v later = value_keep s m b h v later
step_values (Name b i) s guard h v later = value_name s b i h v later
step_values (Load b w) s guard h v later = value_load s b w guard h v later
step_values (SendInvoke a k w) s guard h v later = value_send_invoke s a k w guard h v later
step_values (Answered r p) s guard h v later = value_answered s r p guard h v later
step_values (TurnedDown q) s guard h v later = value_turned_down s q guard h v later
step_values (Lost a) s guard h v later = value_lost s a guard h v later
step_values (GiveUp a) s guard h v later = value_give_up s a guard h v later
step_values (CommitNested a p) s guard h v later = value_commit_nested s a p guard h v later
step_values (Abort a) s guard h v later = value_abort s a guard h v later
step_values (CommitTop m p) s guard h v later = value_commit_top s m p guard h v later
step_values (SendVote m i) s guard h v later = value_send s _ h v later tt
step_values (SendConfirm m q) s guard h v later = value_send s _ h v later tt
step_values (Decide m) s guard h v later = value_decide s m guard h v later
step_values (Report m p) s guard h v later = value_report s m p guard h v later
step_values (EndUnit u) s guard h v later = value_end_unit s u guard h v later
step_values (Included a g p) s guard h v later = value_included s a g p h v later

pub start_values : (x : ℕ) → Values (start x)
start_values x = record {
  waits = λ a w. (let never : false ≡ true = w in absurd (cc));
  path = λ a w. (let never : false ≡ true = w in absurd (cc));
  doomed = λ a d. (let never : false ≡ true = d in absurd (cc));
  roots = λ a e. omega arith;
  whole = λ c i. absurd i;
  logs = λ n e i. absurd i;
  fresh = λ n l. absurd (omega (arith, l));
  copy = λ l. absurd (omega (arith, l));
  seen = tt;
  says = λ m i. absurd i;
}

pub run_values : {s t : State} → Run s t → Holds s → Values s → Holds t × Values t
run_values stay h v = (h, v)
run_values {s} (step e guard more') h v = let k = step_keeps e s guard h in run_values more' k.1 (step_values e s guard h v k.0)

-- Each surviving call saw the last value that surviving writes left before it.
pub saw_the_last : {s : State} → Holds s → Values s → SawTheLast s s.calls
saw_the_last {s} h v = along s.calls (λ c i. i) v.seen
  where
    along : (cs : List Call) → ((c : Call) → In c cs → In c s.calls) → Seen s cs → SawTheLast s cs
    along [] sub x = tt
    along (d ∷ cs) sub (sorted, sees, tail) = (now, along cs (λ c i. sub c (inr i)) tail)
      where
        now : Survives s d.act → IsLast s d.sees cs
        now f = newest_on s.initial s.initial (Mine s d.act) (Survives s) d.sees cs refl (λ c i write m. mine c (sub c (inr i)) m)
            (λ c i write g. inl g) (sees (survives_clean s v.doomed v.roots d.act f) (good_last h v.roots d (sub d (inl refl)) f))
          where
            mine : (c : Call) → In c s.calls → Mine s d.act c.act → Survives s c.act
            mine c i (inl g) = g
            mine c i (inr (e, clean)) = survives_of s h v c i (clean_alive s c.act clean) (subst (λ (y : Act). (s.action y).stage ≡ 3)
                (sym e) (f (top d.act) (on_top d.act) (top_acts d.act (h.calls d (sub d (inl refl))).acts)))
