-- What a store may give for a binding it may give for ever.
use Rattle.arj_law_lock.proofs.Terms
use Terms.{◌≡◌, ◌≤◌, ◌<◌, ◌⊎◌, ℕ, true, false, inl, inr, refl, sym, ◌∙◌, ap, subst, arith, Act, Root, In, at_act, is_action, is_top, root}
use Terms.{top, Action, Alive, Answer, Call, Invoked, Made, Message, State, CrashNaming, BindLive, BindNew, Grant, Record, ConfirmTop}
use Terms.{PassEntry, DropEntry, CrashServer, ActivateCopy, Apply, Refuse, Change, PassRow, PassTop, DropRows, VoteTop, Keep, Name, Load}
use Terms.{SendInvoke, Answered, TurnedDown, Lost, GiveUp, CommitNested, Abort, CommitTop, SendVote, SendConfirm, Decide, Report, EndUnit}
use Terms.{Included, IsCurrent, IsLast, Survives, Event, older, Guard, next, stay, step, stopped}
use Rattle.arj_law_lock.proofs.machine
use machine.{CallSteps.top_acts, Claims.Holds, Claims.Mean, Later.Later, Later.alive_back, Later.doubt_on, Order.step_keeps}
use machine.{ValueClaims.Values, ValueJoin.none_reported, ValueRun.step_values, ValueServers.survives_of}
use machine.Paths.{act_cases, differ, on_top, top_is}
use machine.ValueLasts.{clean_alive, newest_on, survives_clean}
use Rattle.arj_law_lock.specs.machine.Loads.{LoadsStand}

-- ---- one step

-- Nothing that was sent is taken back, a top gets its committed line after its decision, and a call that comes doesn't survive yet.
record Goes (s t : State) : Type 0 where
  pub initial : t.initial ≡ s.initial
  pub sent : (m : Message) → In m s.net → In m t.net
  pub tops : (m : Act) → is_top m ≡ true → (t.action m).stage ≡ 3 → ((s.action m).stage ≡ 3) ⊎ ((s.action m).stage ≡ 2)
  pub last : (v : ℕ) → IsLast t v s.calls → IsLast t v t.calls

-- one action changes
one_action : (s : State) (a m : Act) (x : Action) → (m ≡ a → x.stage ≡ 3 → ((s.action m).stage ≡ 3) ⊎ ((s.action m).stage ≡ 2)) →
    (let t = record s { action = at_act s.action a x } in (t.action m).stage) ≡ 3 → ((s.action m).stage ≡ 3) ⊎ ((s.action m).stage ≡ 2)
one_action s a m x here = act_cases (λ b y. (b ≡ m → y.stage ≡ 3 → ((s.action m).stage ≡ 3) ⊎ ((s.action m).stage ≡ 2))) s.action a x
    (λ is. here (sym is)) (λ b other is three. inl (subst (λ c. (s.action c).stage ≡ 3) is three)) m refl

-- an answered call is of an open top
answered_not : (s : State) (r : Answer) (p : ℕ) → Guard (Answered r p) s → Holds s → Survives (next (Answered r p) s) r.request.act → ⊥
answered_not s r p guard h survives = act_cases (λ b y. (b ≡ top a → y.stage ≡ 3 → ⊥)) s.action a (stopped (s.action a)) (λ is three.
    none a (λ i. is i) three) (λ b other is three. none b is three) (top a) refl (survives (top a) (on_top a) (top_acts a acts))
  where
    a : Act
    a = r.request.act

    acts : is_action a ≡ true
    acts = let m : Mean s (Invoked r) = h.mail (Invoked r) guard.0 in m.0.0

    none : (b : Act) → b ≡ top a → (s.action b).stage ≡ 3 → ⊥
    none b is three = let zero = guard.3 (top a) (on_top a) in let same = ap (λ x. (s.action x).stage) is in
        omega (arith, three, zero, same)

goes : (e : Event) (s : State) → Guard e s → Holds s → Goes s (next e s)
goes (CrashNaming a) s guard h = record { initial = refl; sent = λ m i. i; tops = λ m is three. inl three; last = λ v l. l }
goes (BindLive a) s guard h = record { initial = refl; sent = λ m i. inr i; tops = λ m is three. inl three; last = λ v l. l }
goes (BindNew a b c) s guard h = record { initial = refl; sent = λ m i. inr i; tops = λ m is three. inl three; last = λ v l. l }
goes (Grant a) s guard h = record { initial = refl; sent = λ m i. inr i; tops = λ m is three. inl three; last = λ v l. l }
goes (Record a) s guard h = record { initial = refl; sent = λ m i. inr i; tops = λ m is three. inl three; last = λ v l. l }
goes (ConfirmTop a b) s guard h = record { initial = refl; sent = λ m i. i; tops = λ m is three. inl three; last = λ v l. l }
goes (PassEntry a b) s guard h = record { initial = refl; sent = λ m i. i; tops = λ m is three. inl three; last = λ v l. l }
goes (DropEntry a) s guard h = record { initial = refl; sent = λ m i. i; tops = λ m is three. inl three; last = λ v l. l }
goes (CrashServer a b) s guard h = record { initial = refl; sent = λ m i. i; tops = λ m is three. inl three; last = λ v l. l }
goes (ActivateCopy a b c) s guard h = record { initial = refl; sent = λ m i. inr i; tops = λ m is three. inl three; last = λ v l. l }
goes (Apply a b c) s guard h = record { initial = refl; sent = λ m i. inr i; tops = λ m is three. inl three; last = λ v l. l }
goes (Refuse a b) s guard h = record { initial = refl; sent = λ m i. inr i; tops = λ m is three. inl three; last = λ v l. l }
goes (Change a b) s guard h = record { initial = refl; sent = λ m i. inr i; tops = λ m is three. inl three; last = λ v l. l }
goes (PassRow a b c) s guard h = record { initial = refl; sent = λ m i. i; tops = λ m is three. inl three; last = λ v l. l }
goes (PassTop a b c) s guard h = record { initial = refl; sent = λ m i. i; tops = λ m is three. inl three; last = λ v l. l }
goes (DropRows a b) s guard h = record { initial = refl; sent = λ m i. i; tops = λ m is three. inl three; last = λ v l. l }
goes (VoteTop a b c d) s guard h = record { initial = refl; sent = λ m i. i; tops = λ m is three. inl three; last = λ v l. l }
goes (Keep a b) s guard h = record { initial = refl; sent = λ m i. i; tops = λ m is three. inl three; last = λ v l. l }
goes (Name a b) s guard h = record { initial = refl; sent = λ m i. i; tops = λ m is three. inl three; last = λ v l. l }
goes (Load a b) s guard h = record { initial = refl; sent = λ m i. inr i; tops = λ m is three. inl three; last = λ v l. l }
goes (SendInvoke a b c) s guard h = record {
  initial = refl;
  sent = λ m i. inr i;
  tops = λ m is. one_action s a m (record (s.action a) { request = b; waits = true; since = s.now })
      (λ same three. inl (ap (λ x. (s.action x).stage) same ∙ three));
  last = λ v l. l;
}
goes (Answered a b) s guard h = record {
  initial = refl;
  sent = λ m i. i;
  tops = λ m is.
      one_action s a.request.act m (stopped (s.action a.request.act)) (λ same three. inl (ap (λ x. (s.action x).stage) same ∙ three));
  last = λ v l. older (record { act = a.request.act; write = a.request.write; line = b; sees = a.sees; gives = a.gives })
      (λ write survives. answered_not s a b guard h survives) l;
}
goes (TurnedDown a) s guard h = record {
  initial = refl;
  sent = λ m i. i;
  tops = λ m is. one_action s a.act m (stopped (s.action a.act)) (λ same three. inl (ap (λ x. (s.action x).stage) same ∙ three));
  last = λ v l. l;
}
goes (Lost a) s guard h = record {
  initial = refl;
  sent = λ m i. i;
  tops = λ m is. one_action s a m (stopped (s.action a)) (λ same three. inl (ap (λ x. (s.action x).stage) same ∙ three));
  last = λ v l. l;
}
goes (GiveUp a) s guard h = record {
  initial = refl;
  sent = λ m i. i;
  tops = λ m is. one_action s a m (record (s.action a) { waits = false; doomed = true })
      (λ same three. inl (ap (λ x. (s.action x).stage) same ∙ three));
  last = λ v l. l;
}
goes (CommitNested a b) s guard h = record {
  initial = refl;
  sent = λ m i. i;
  tops = λ m is. one_action s a m (record (s.action a) { stage = 3; done = b }) (λ same three. differ (sym (ap is_top same) ∙ is) guard.1);
  last = λ v l. l;
}
goes (Abort a) s guard h = record {
  initial = refl;
  sent = λ m i. i;
  tops = λ m is. one_action s a m (record (s.action a) { stage = 4 }) (λ same three. absurd (omega (arith, three)));
  last = λ v l. l;
}
goes (CommitTop a b) s guard h = record {
  initial = refl;
  sent = λ m i. i;
  tops = λ m is. one_action s a m (record (s.action a) { stage = 1; place = b }) (λ same three. absurd (omega (arith, three)));
  last = λ v l. l;
}
goes (SendVote a b) s guard h = record { initial = refl; sent = λ m i. inr i; tops = λ m is three. inl three; last = λ v l. l }
goes (SendConfirm a b) s guard h = record { initial = refl; sent = λ m i. inr i; tops = λ m is three. inl three; last = λ v l. l }
goes (Decide a) s guard h = record {
  initial = refl;
  sent = λ m i. i;
  tops = λ m is. one_action s a m (record (s.action a) { stage = 2 }) (λ same three. absurd (omega (arith, three)));
  last = λ v l. l;
}
goes (Report a b) s guard h = record {
  initial = refl;
  sent = λ m i. i;
  tops = λ m is.
      one_action s a m (record (s.action a) { stage = 3; done = b }) (λ same three. inr (ap (λ x. (s.action x).stage) same ∙ guard.1));
  last = λ v l. l;
}
goes (EndUnit a) s guard h = record {
  initial = refl;
  sent = λ m i. i;
  tops = λ m is. one_action s (Root a) m (record (s.action (Root a)) { stage = 3 }) (λ same three. differ is (ap is_top same));
  last = λ v l. l;
}
goes (Included a b c) s guard h = record { initial = refl; sent = λ m i. i; tops = λ m is three. inl three; last = λ v l. l }

-- ---- what may be given

-- the value stays the last one while the binding is current
last_stands : {s : State} (e : Event) (b v : ℕ) → Guard e s → Holds s → Values s → Guard (Load b v) s → Guard (Load b v) (next e s)
last_stands {s} e b v guard h w load = (
  made,
  (let up = later.kept (root maker) in let low = load.1 in
      subst (λ (m : Act). b ≤ (let t = next e s in t.kept (root m))) (sym same) (omega (arith, up, low))),
  λ current. record { value = value current; settled = doubt_on later b below (λ old. (load.2 old).settled) current },
)
  where
    k : Later s (next e s) × Holds (next e s)
    k = step_keeps e s guard h

    later : Later s (next e s)
    later = k.0

    after : Values (next e s)
    after = step_values e s guard h w later

    on : Goes s (next e s)
    on = goes e s guard h

    maker : Act
    maker = (s.binding b).maker

    mean : Mean s (Made maker b)
    mean = h.mail (Made maker b) load.0

    below : b < s.naming.bound
    below = mean.3

    same : (let t = next e s in (t.binding b).maker) ≡ maker
    same = (later.made b below).1

    made : In (Made (let t = next e s in (t.binding b).maker) b) (let t = next e s in t.net)
    made = subst (λ (m : Act). In (Made m b) (let t = next e s in t.net)) (sym same) (on.sent (Made maker b) load.0)

    value : IsCurrent (let t = next e s in t.naming) (let t = next e s in (t.binding b).maker) b →
        IsLast (next e s) v (let t = next e s in t.calls)
    value current = on.last v (newest_on s.initial (let t = next e s in t.initial) (Survives s) (Survives (next e s)) v s.calls
        (sym on.initial) (λ c i write survives u o acts. (later.ends u (survives u o acts)).0) back (load.2 old).value)
      where
        old : IsCurrent s.naming maker b
        old = later.current b below current

        back : (c : Call) → In c s.calls → c.write ≡ true → Survives (next e s) c.act → Survives s c.act
        back c i write survives =
            elim (on.tops (top c.act) (top_is c.act acts) (survives (top c.act) (on_top c.act) (top_acts c.act acts))) [
              | inl three ↦ survives_of s h w c i alive three
              | inr two ↦ absurd (none_reported h b load.1 mean.0 (λ at. (load.2 at).settled) old c i write alive two)
            ]
          where
            acts : is_action c.act ≡ true
            acts = (h.calls c i).acts

            alive : Alive s c.act
            alive =
                alive_back later c.act (clean_alive (next e s) c.act (survives_clean (next e s) after.doomed after.roots c.act survives))

pub loads_stand : {s : State} → Holds s → Values s → LoadsStand s
loads_stand h w b v t load stay = load
loads_stand h w b v t load (step e guard more) = let k = step_keeps e _ guard h in
    loads_stand k.1 (step_values e _ guard h w k.0) b v t (last_stands e b v guard h w load) more
