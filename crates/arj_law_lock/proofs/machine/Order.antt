-- Each step keeps the invariant of order, and so does each run.
use Rattle.arj_law_lock.proofs.Terms
use Terms.{◌≡◌, ℕ, true, false, arith, State, Event, CrashNaming, BindLive, BindNew, Grant, Record, ConfirmTop, PassEntry, DropEntry}
use Terms.{CrashServer, ActivateCopy, Apply, Refuse, Change, PassRow, PassTop, DropRows, VoteTop, Keep, Name, Load, SendInvoke, Answered}
use Terms.{TurnedDown, Lost, GiveUp, CommitNested, Abort, CommitTop, SendVote, SendConfirm, Decide, Report, EndUnit, Included, Guard, next}
use Terms.{start, Run, stay, step}
use Rattle.arj_law_lock.proofs.machine
use machine.{AnswerStep.answered, Claims.Holds, Later.Later, Rows.apart_none}
use machine.CallSteps.{send_invoke, stop_call, commit_nested, abort}
use machine.CommitSteps.{commit_top, decide, report, end_unit, keep, name_binding, included}
use machine.NamingMore.{bind_new, record_binding, confirm_top}
use machine.NamingSteps.{crash_naming, bind_live, grant, pass_entry, drop_entry}
use machine.ServerSteps.{crash_server, activate, apply, refuse, change, pass_row, pass_top, drop_rows, vote_top, load, send_vote}
use machine.ServerSteps.{send_confirm}

pub step_keeps : (e : Event) (s : State) → Guard e s → Holds s → Later s (next e s) × Holds (next e s)
step_keeps (CrashNaming g) s guard h = crash_naming s g guard h
step_keeps (BindLive m) s guard h = bind_live s m guard h
step_keeps (BindNew m b n) s guard h = bind_new s m b n guard h
step_keeps (Grant m) s guard h = grant s m guard h
step_keeps (Record b) s guard h = record_binding s b guard h
step_keeps (ConfirmTop m q) s guard h = confirm_top s m q guard h
step_keeps (PassEntry u n) s guard h = pass_entry s u n guard h
step_keeps (DropEntry a) s guard h = drop_entry s a guard h
step_keeps (CrashServer n i) s guard h = crash_server s n i guard h
step_keeps (ActivateCopy n b v) s guard h = activate s n b v guard h
step_keeps (Apply n q g) s guard h = apply s n q g guard h
step_keeps (Refuse n q) s guard h = refuse s n q guard h
step_keeps (Change n q) s guard h = change s n q guard h
step_keeps (PassRow n a j) s guard h = pass_row s n a j guard h
step_keeps (PassTop n u j) s guard h = pass_top s n u j guard h
step_keeps (DropRows n a) s guard h = drop_rows s n a guard h
step_keeps (VoteTop n m b i) s guard h = vote_top s n m b i guard h
step_keeps (Keep m b) s guard h = keep s m b guard h
step_keeps (Name b i) s guard h = name_binding s b i guard h
step_keeps (Load b v) s guard h = load s b v guard h
step_keeps (SendInvoke a k w) s guard h = send_invoke s a k w guard h
step_keeps (Answered r p) s guard h = answered s r p guard h
step_keeps (TurnedDown q) s guard h = stop_call s q.act (s.action q.act).doomed h
step_keeps (Lost a) s guard h = stop_call s a (s.action a).doomed h
step_keeps (GiveUp a) s guard h = stop_call s a true h
step_keeps (CommitNested a p) s guard h = commit_nested s a p guard h
step_keeps (Abort a) s guard h = abort s a guard h
step_keeps (CommitTop m p) s guard h = commit_top s m p guard h
step_keeps (SendVote m i) s guard h = send_vote s m i guard h
step_keeps (SendConfirm m q) s guard h = send_confirm s m q guard h
step_keeps (Decide m) s guard h = decide s m guard h
step_keeps (Report m p) s guard h = report s m p guard h
step_keeps (EndUnit u) s guard h = end_unit s u guard h
step_keeps (Included a g p) s guard h = included s a g p guard h

pub start_holds : (v : ℕ) → Holds (start v)
start_holds v = record {
  naming = record {
    apart = apart_none;
    told = λ m is e. (let never : false ≡ true = e in absurd (cc));
    known = λ l. absurd (omega (arith, l));
    recorded_below = omega arith;
    first_below = omega arith;
    first_above = omega arith;
    kept_below = λ u. omega arith;
    made_below = λ m. omega arith;
    making = λ m is e l. absurd (omega (arith, l));
    doubt = λ l. absurd (omega (arith, l));
  };
  bindings = λ b e. (let never : false ≡ true = e in absurd (cc));
  servers = λ n. apart_none;
  calls = λ c i. absurd i;
  includes = λ c i. absurd i;
  tops = λ m is. record {
    before = omega arith;
    ordered = λ e. absurd (omega (arith, e));
    goes = λ l k. absurd (omega (arith, l));
    called = λ l k. absurd (omega (arith, l));
    included = λ l k. absurd (omega (arith, l));
    asked = λ e. (let never : false ≡ true = e in absurd (cc));
    confirmed = λ e. (let never : false ≡ true = e in absurd (cc));
    voting = λ l. absurd (omega (arith, l));
    named = λ l. absurd (omega (arith, l));
    voted = λ l. absurd (omega (arith, l));
  };
  turns = λ m t is it r apart l k. absurd (let q = l.0 in omega (arith, q));
  ended = λ a act e. absurd (omega (arith, e));
  waits = λ a w. (let never : false ≡ true = w in absurd (cc));
  anti = λ a b w. (let never : false ≡ true = w in absurd (cc));
  pairs = λ c d m i. absurd i;
  nested = λ c d i. absurd i;
  mail = λ m i. absurd i;
}

pub run_keeps : {s t : State} → Run s t → Holds s → Holds t
run_keeps stay h = h
run_keeps (step e guard rest) h = run_keeps rest (step_keeps e _ guard h).1

pub go_on : {s t u : State} → Run s t → Run t u → Run s u
go_on stay more' = more'
go_on (step e guard rest) more' = step e guard (go_on rest more')
