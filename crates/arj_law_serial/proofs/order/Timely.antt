-- A call's line stands before the lines of all commits on its path, and before that of the call of its top's commit.
use Rattle.arj_law_parts.proofs.Words.{[], ◌∷◌, false, ◌≡◌, ◌≤◌, ◌<◌, ◌+◌, ◌⊎◌, ℕ, List, true, inl, inr, refl, sym, ◌∙◌, subst, arith}
use Rattle.arj_law_serial.proofs.Terms
use Terms.{Root, is_action, on, Answer, Call, Include, State, Event, CrashNaming, BindLive, BindNew, Grant, Record, ConfirmTop, PassEntry}
use Terms.{DropEntry, CrashServer, ActivateCopy, Apply, Refuse, PassRow, PassTop, DropRows, VoteTop, Keep, Name, Load, SendInvoke, Answered}
use Terms.{TurnedDown, Lost, GiveUp, CommitNested, Abort, CommitTop, SendVote, SendConfirm, Decide, Report, EndUnit, Included, Guard, next}
use Terms.{start, Run, stay, step, stopped, act_cases, differ}
use Rattle.arj_law_lock.specs.machine.{Actions.Act, Actions.In, Actions.is_top, Actions.at_act, State.Action, Steps.Change}

-- of these calls, before a place, by what actions are
pub record AreTimely (calls : List Call) (now : ℕ) (action : Act → Action) : Type 0 where
  pub before : (c : Call) → In c calls → c.line < now
  pub commits : (c : Call) (u : Act) → In c calls → on c.act u ≡ true → is_action u ≡ true → (action u).stage ≡ 3 → c.line < (action u).done
  pub places : (c : Call) (u : Act) → In c calls → on c.act u ≡ true → is_top u ≡ true → 1 ≤ (action u).stage → (action u).stage ≤ 3 →
      c.line < (action u).place

abbrev pub Timely : State → Type 0
Timely s = AreTimely s.calls s.now s.action

-- an action with other fields: who newly commits, or has its commit called, does so at no place before the present one
record IsFresh (now : ℕ) (a : Act) (old new : Action) : Type 0 where
  commit : is_action a ≡ true → new.stage ≡ 3 → ((old.stage ≡ 3) × (new.done ≡ old.done)) ⊎ (now ≤ new.done)
  place : is_top a ≡ true → 1 ≤ new.stage → new.stage ≤ 3 →
      ((1 ≤ old.stage) × (old.stage ≤ 3) × (new.place ≡ old.place)) ⊎ (now ≤ new.place)

acted_on : (cs : List Call) (s : State) (a : Act) (x : Action) (p : ℕ) → s.now ≤ p → IsFresh s.now a (s.action a) x →
    AreTimely cs s.now s.action → AreTimely cs p (at_act s.action a x)
acted_on cs s a x p le f t = record {
  before = λ c i. let l = t.before c i in omega (arith, l, le);
  commits = λ c u i.
      act_cases (λ (b : Act) (v : Action). on c.act b ≡ true → is_action b ≡ true → v.stage ≡ 3 → c.line < v.done) s.action a x
      (λ o act e. elim (f.commit act e) [
        | inl was ↦ (let l = t.commits c a i o act was.0 in let same = was.1 in omega (arith, l, same))
        | inr late ↦ (let l = t.before c i in omega (arith, l, late))
      ])
      (λ b other o act e. t.commits c b i o act e) u;
  places = λ c u i.
      act_cases (λ (b : Act) (v : Action). on c.act b ≡ true → is_top b ≡ true → 1 ≤ v.stage → v.stage ≤ 3 → c.line < v.place) s.action a x
      (λ o top low high. elim (f.place top low high) [
        | inl was ↦ (let l = t.places c a i o top was.0 was.1 in let same = was.2 in omega (arith, l, same))
        | inr late ↦ (let l = t.before c i in omega (arith, l, late))
      ])
      (λ b other o top low high. t.places c b i o top low high) u;
}

acted : (s : State) (a : Act) (x : Action) (p : ℕ) → s.now ≤ p → IsFresh s.now a (s.action a) x → Timely s →
    AreTimely s.calls p (at_act s.action a x)
acted s a x p le f t = acted_on s.calls s a x p le f t

-- one that commits or is called as before
same_act : (s : State) (a : Act) (x : Action) → x.stage ≡ (s.action a).stage → x.done ≡ (s.action a).done → x.place ≡ (s.action a).place →
    IsFresh s.now a (s.action a) x
same_act s a x stage done place = record {
  commit = λ act e. inl (omega (arith, stage, e), done);
  place = λ top low high. inl (omega (arith, stage, low), omega (arith, stage, high), place);
}

-- one more call, of an open action
called : (s : State) (r : Answer) (p : ℕ) → Guard (Answered r p) s → Timely s → Timely (next (Answered r p) s)
called s r p guard t = record {
  before = λ c i. elim i [ inl is ↦ subst (λ (d : Call). d.line < p + 1) (sym is) (omega arith) | inr old ↦ rest.before c old ];
  commits = λ c u i. elim i [
    | inl is ↦ (λ o act e. stays u (subst (λ (d : Call). on d.act u ≡ true) is o) (λ zero. omega (arith, zero, e)))
    | inr old ↦ (λ o act e. rest.commits c u old o act e)
  ];
  places = λ c u i. elim i [
    | inl is ↦ (λ o top low high. stays u (subst (λ (d : Call). on d.act u ≡ true) is o) (λ zero. omega (arith, zero, low)))
    | inr old ↦ (λ o top low high. rest.places c u old o top low high)
  ];
}
  where
    rest : AreTimely s.calls (p + 1) (at_act s.action r.request.act (stopped (s.action r.request.act)))
    rest = acted s r.request.act (stopped (s.action r.request.act)) (p + 1) (let l = guard.4 in
        omega (arith, l)) (same_act s r.request.act (stopped (s.action r.request.act)) refl refl refl) t

    stays : {P : Type 0} (u : Act) → on r.request.act u ≡ true →
        (((at_act s.action r.request.act (stopped (s.action r.request.act))) u).stage ≡ 0 → P) → P
    stays {P} u o = act_cases (λ (b : Act) (v : Action). on r.request.act b ≡ true → (v.stage ≡ 0 → P) →
        P) s.action r.request.act (stopped (s.action r.request.act))
        (λ on_it k. k (guard.3 r.request.act on_it)) (λ b other on_it k. k (guard.3 b on_it)) u o

timely_step : (e : Event) (s : State) → Guard e s → Timely s → Timely (next e s)
timely_step (CrashNaming g) s guard t = t
timely_step (BindLive m) s guard t = t
timely_step (BindNew m b n) s guard t = t
timely_step (Grant m) s guard t = t
timely_step (Record b) s guard t = t
timely_step (ConfirmTop m q) s guard t = t
timely_step (PassEntry u n) s guard t = t
timely_step (DropEntry a) s guard t = t
timely_step (CrashServer n i) s guard t = t
timely_step (ActivateCopy n b v) s guard t = t
timely_step (Apply n q g) s guard t = t
timely_step (Refuse n q) s guard t = t
timely_step (Change n q) s guard t = t
timely_step (PassRow n a j) s guard t = t
timely_step (PassTop n u j) s guard t = t
timely_step (DropRows n a) s guard t = t
timely_step (VoteTop n m b i) s guard t = t
timely_step (Keep m b) s guard t = t
timely_step (Name b i) s guard t = t
timely_step (Load b v) s guard t = t
timely_step (SendInvoke a k w) s guard t =
    acted s a _ s.now (omega arith) (same_act s a (record (s.action a) { request = k; waits = true; since = s.now }) refl refl refl) t
timely_step (Answered r p) s guard t = called s r p guard t
timely_step (TurnedDown q) s guard t = acted s q.act _ s.now (omega arith) (same_act s q.act (stopped (s.action q.act)) refl refl refl) t
timely_step (Lost a) s guard t = acted s a _ s.now (omega arith) (same_act s a (stopped (s.action a)) refl refl refl) t
timely_step (GiveUp a) s guard t =
    acted s a _ s.now (omega arith) (same_act s a (record (s.action a) { waits = false; doomed = true }) refl refl refl) t
timely_step (CommitNested a p) s guard t =
    let l = guard.5 in
    acted s a (record (s.action a) { stage = 3; done = p }) (p + 1) (omega (arith, l))
    (record { commit = λ act e. inr l; place = λ top low high. differ top guard.1 }) t
timely_step (Abort a) s guard t = acted s a (record (s.action a) { stage = 4 }) s.now (omega arith)
    (record { commit = λ act e. absurd (omega (arith, e)); place = λ top low high. absurd (omega (arith, high)) }) t
timely_step (CommitTop m p) s guard t =
    let l = guard.5 in
    acted s m (record (s.action m) { stage = 1; place = p }) (p + 1) (omega (arith, l))
    (record { commit = λ act e. absurd (omega (arith, e)); place = λ top low high. inr l }) t
timely_step (SendVote m i) s guard t = t
timely_step (SendConfirm m q) s guard t = t
timely_step (Decide m) s guard t =
    let was = guard.1 in
    acted s m (record (s.action m) { stage = 2 }) s.now (omega arith)
    (record { commit = λ act e. absurd (omega (arith, e)); place = λ top low high. inl (omega (arith, was), omega (arith, was), refl) })
    t
timely_step (Report m p) s guard t =
    let was = guard.1 in
    let l = guard.2 in
    acted s m (record (s.action m) { stage = 3; done = p }) (p + 1) (omega (arith, l))
    (record { commit = λ act e. inr l; place = λ top low high. inl (omega (arith, was), omega (arith, was), refl) }) t
timely_step (EndUnit u) s guard t = acted s (Root u) (record (s.action (Root u)) { stage = 3 }) s.now (omega arith)
    (record { commit = λ act e. absurd (cc act); place = λ top low high. absurd (cc top) }) t
timely_step (Included a g p) s guard t =
    record { before = λ c i. let l = t.before c i in let q = guard.3 in omega (arith, l, q); commits = t.commits; places = t.places }

pub run_timely : {s t : State} → Run s t → Timely s → Timely t
run_timely stay t = t
run_timely (step e guard rest) t = run_timely rest (timely_step e _ guard t)

pub start_timely : (v : ℕ) → Timely (start v)
start_timely v = record { before = λ c i. absurd i; commits = λ c u i. absurd i; places = λ c u i. absurd i }

-- ---- includes

-- includes as calls, with their actions and lines
abbrev pub as_calls : List Include → List Call
as_calls [] = []
as_calls (k ∷ ks) = record { act = k.act; write = false; line = k.line; sees = 0; gives = 0 } ∷ as_calls ks

abbrev pub TimelyToo : State → Type 0
TimelyToo s = AreTimely (as_calls s.includes) s.now s.action

moved : (s : State) (a : Act) (x : Action) (p : ℕ) → s.now ≤ p → IsFresh s.now a (s.action a) x → TimelyToo s →
    AreTimely (as_calls s.includes) p (at_act s.action a x)
moved s a x p le f t = acted_on (as_calls s.includes) s a x p le f t

-- one more include, of an open action
included : (s : State) (a : Act) (g p : ℕ) → Guard (Included a g p) s → TimelyToo s → TimelyToo (next (Included a g p) s)
included s a g p guard t = record {
  before = λ c i. elim i [
    | inl is ↦ subst (λ (d : Call). d.line < p + 1) (sym is) (omega arith)
    | inr old ↦ (let l = t.before c old in let q = guard.3 in omega (arith, l, q))
  ];
  commits = λ c u i. elim i [
    | inl is ↦ (λ o act e. (let zero = guard.2 u (subst (λ (d : Call). on d.act u ≡ true) is o) in absurd (omega (arith, zero, e))))
    | inr old ↦ (λ o act e. t.commits c u old o act e)
  ];
  places = λ c u i. elim i [
    | inl is ↦
        (λ o top low high. (let zero = guard.2 u (subst (λ (d : Call). on d.act u ≡ true) is o) in absurd (omega (arith, zero, low))))
    | inr old ↦ (λ o top low high. t.places c u old o top low high)
  ];
}

too_step : (e : Event) (s : State) → Guard e s → TimelyToo s → TimelyToo (next e s)
too_step (SendInvoke a k w) s guard t =
    moved s a _ s.now (omega arith) (same_act s a (record (s.action a) { request = k; waits = true; since = s.now }) refl refl refl) t
too_step (Answered r p) s guard t = moved s r.request.act _ (p + 1) (let l = guard.4 in
    omega (arith, l)) (same_act s r.request.act (stopped (s.action r.request.act)) refl refl refl) t
too_step (TurnedDown q) s guard t = moved s q.act _ s.now (omega arith) (same_act s q.act (stopped (s.action q.act)) refl refl refl) t
too_step (Lost a) s guard t = moved s a _ s.now (omega arith) (same_act s a (stopped (s.action a)) refl refl refl) t
too_step (GiveUp a) s guard t =
    moved s a _ s.now (omega arith) (same_act s a (record (s.action a) { waits = false; doomed = true }) refl refl refl) t
too_step (CommitNested a p) s guard t =
    let l = guard.5 in
    moved s a (record (s.action a) { stage = 3; done = p }) (p + 1) (omega (arith, l))
    (record { commit = λ act e. inr l; place = λ top low high. differ top guard.1 }) t
too_step (Abort a) s guard t = moved s a (record (s.action a) { stage = 4 }) s.now (omega arith)
    (record { commit = λ act e. absurd (omega (arith, e)); place = λ top low high. absurd (omega (arith, high)) }) t
too_step (CommitTop m p) s guard t =
    let l = guard.5 in
    moved s m (record (s.action m) { stage = 1; place = p }) (p + 1) (omega (arith, l))
    (record { commit = λ act e. absurd (omega (arith, e)); place = λ top low high. inr l }) t
too_step (Decide m) s guard t =
    let was = guard.1 in
    moved s m (record (s.action m) { stage = 2 }) s.now (omega arith)
    (record { commit = λ act e. absurd (omega (arith, e)); place = λ top low high. inl (omega (arith, was), omega (arith, was), refl) })
    t
too_step (Report m p) s guard t =
    let was = guard.1 in
    let l = guard.2 in
    moved s m (record (s.action m) { stage = 3; done = p }) (p + 1) (omega (arith, l))
    (record { commit = λ act e. inr l; place = λ top low high. inl (omega (arith, was), omega (arith, was), refl) }) t
too_step (EndUnit u) s guard t = moved s (Root u) (record (s.action (Root u)) { stage = 3 }) s.now (omega arith)
    (record { commit = λ act e. absurd (cc act); place = λ top low high. absurd (cc top) }) t
too_step (Included a g p) s guard t = included s a g p guard t
too_step e s guard t = t

pub run_too : {s t : State} → Run s t → TimelyToo s → TimelyToo t
run_too stay t = t
run_too (step e guard rest) t = run_too rest (too_step e _ guard t)

pub start_too : (v : ℕ) → TimelyToo (start v)
start_too v = record { before = λ c i. absurd i; commits = λ c u i. absurd i; places = λ c u i. absurd i }

-- the first value stays
initial_step : (e : Event) (s : State) → (next e s).initial ≡ s.initial
initial_step (CrashNaming g) s = refl
initial_step e s = refl

pub run_initial : {s t : State} → Run s t → t.initial ≡ s.initial
run_initial stay = refl
run_initial (step e guard rest) = run_initial rest ∙ initial_step e _
