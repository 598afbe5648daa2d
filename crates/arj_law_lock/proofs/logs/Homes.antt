-- A copy that has a write is that of its active binding, in the incarnation of which the maker's root heard; and a binding that may count
-- might before.
use Rattle.arj_law_lock.proofs.Terms
use Terms.{arith, ◌≡◌, ◌<◌, ◌⊎◌, ℕ, true, not, inl, inr, refl, sym, ◌∙◌, ap, subst, at, In, Entry, Invoke, Server, State, Event}
use Terms.{CrashNaming, BindLive, BindNew, Grant, Record, ConfirmTop, PassEntry, DropEntry, CrashServer, ActivateCopy, Apply, Refuse}
use Terms.{Change, PassRow, PassTop, DropRows, VoteTop, Keep, Name, Load, SendInvoke, Answered, TurnedDown, Lost, GiveUp, CommitNested}
use Terms.{Abort, CommitTop, SendVote, SendConfirm, Decide, Report, EndUnit, Included, IsCurrent, Guard, Run, handed, next, start, stay}
use Terms.{step, on, Root, Sub, MayCount}
use Rattle.arj_law_lock.proofs.machine
use machine.{Claims.Holds, Later.Later, Later.first_rises, Order.run_keeps, Order.start_holds, Order.step_keeps, Paths.at_cases}
use machine.{ValueLogs.in_filter, ValueLogs.in_map}
use Rattle.arj_law_lock.specs.logs.Under.{CountingIsOld}

-- ---- where a copy with writes is

-- the server is that of its active binding, in its incarnation
pub record IsHome (s : State) (n : ℕ) : Type 0 where
  pub named : (s.binding (s.server n).active).named ≡ true
  pub server : (s.binding (s.server n).active).server ≡ n
  pub incarnation : (s.server n).incarnation ≡ (s.binding (s.server n).active).incarnation

abbrev pub HaveHomes : State → Type 0
HaveHomes s = (n : ℕ) (e : Entry) → In e (s.server n).log → IsHome s n

module _ (s : State) (h : Holds s) where
  -- it had writes, under the same binding in the same incarnation; or the first write comes to the server of its binding
  abbrev Comes : ℕ → Server → Type 0
  Comes n w = (d : Entry) → In d w.log →
      (((f : Entry) × In f (s.server n).log) × (w.incarnation ≡ (s.server n).incarnation) × (w.active ≡ (s.server n).active))
      ⊎ ((((s.binding w.active).named ≡ true) × ((s.binding w.active).server ≡ n)) × (w.incarnation ≡ (s.binding w.active).incarnation))

  still : (n : ℕ) → Comes n (s.server n)
  still n d i = inl ((d, i), refl, refl)

  only_at : (k : ℕ) (w : Server) → Comes k w → (n : ℕ) → Comes n (at s.server k w n)
  only_at k w here = at_cases (λ (n : ℕ) (x : Server). Comes n x) s.server k w here (λ n other. still n)

  comes : (e : Event) → Guard e s → (n : ℕ) → Comes n ((next e s).server n)
  comes (CrashNaming g) guard = still
  comes (BindLive a) guard = still
  comes (BindNew a b n) guard = still
  comes (Grant a) guard = still
  comes (Record b) guard = still
  comes (ConfirmTop a q) guard = still
  comes (PassEntry u n) guard = still
  comes (DropEntry a) guard = still
  comes (CrashServer n i) guard = only_at n _ (λ d j. absurd j)
  comes (ActivateCopy n b w) guard = only_at n _ (λ d j. absurd j)
  comes (Apply n q g) guard = only_at n _ (λ d j. inr ((
    (
      subst (λ (b : ℕ). (s.binding b).named ≡ true) (sym guard.1.2) (h.mail (Invoke q) guard.0).2,
      subst (λ (b : ℕ). (s.binding b).server ≡ n) (sym guard.1.2) guard.1.0,
    ),
    guard.1.1 ∙ ap (λ (b : ℕ). (s.binding b).incarnation) (sym guard.1.2),
  )))
  comes (Refuse n q) guard = only_at n _ (λ d j. inl ((d, j), refl, refl))
  comes (Change n q) guard = still
  comes (PassRow n a j) guard = only_at n _ (λ d k. let p = in_map (handed a j) d (s.server n).log k in inl ((p.0, p.1), refl, refl))
  comes (PassTop n u j) guard =
      only_at n _ (λ d k. inl ((d, (in_filter (λ (e : Entry). not (on e.holder (Sub (Root u) j))) d (s.server n).log k).0), refl, refl))
  comes (DropRows n a) guard =
      only_at n _ (λ d k. inl ((d, (in_filter (λ (e : Entry). not (on e.holder a)) d (s.server n).log k).0), refl, refl))
  comes (VoteTop n a b i) guard = only_at n _ (λ d j. inl ((d, j), refl, refl))
  comes (Keep a b) guard = still
  comes (Name b i) guard = still
  comes (Load b w) guard = still
  comes (SendInvoke a k w) guard = still
  comes (Answered r p) guard = still
  comes (TurnedDown q) guard = still
  comes (Lost a) guard = still
  comes (GiveUp a) guard = still
  comes (CommitNested a p) guard = still
  comes (Abort a) guard = still
  comes (CommitTop a p) guard = still
  comes (SendVote a i) guard = still
  comes (SendConfirm a q) guard = still
  comes (Decide a) guard = still
  comes (Report a p) guard = still
  comes (EndUnit u) guard = still
  comes (Included a g p) guard = still

  home_step : (e : Event) → Guard e s → Later s (next e s) → HaveHomes s → HaveHomes (next e s)
  home_step e guard later homes n d i = by (comes e guard n d i)
    where
      -- a binding that was named is what it was
      of : (b : ℕ) → (s.binding b).named ≡ true → (((next e s).binding b).named ≡ true)
          × (((next e s).binding b).server ≡ (s.binding b).server) × (((next e s).binding b).incarnation ≡ (s.binding b).incarnation)
      of b named = let p = later.named b named in (p.0, (later.made b (h.bindings b named).below).0, p.1)

      by : (((f : Entry) × In f (s.server n).log) × (((next e s).server n).incarnation ≡ (s.server n).incarnation)
          × (((next e s).server n).active ≡ (s.server n).active))
          ⊎ ((((s.binding ((next e s).server n).active).named ≡ true) × ((s.binding ((next e s).server n).active).server ≡ n))
          × (((next e s).server n).incarnation ≡ (s.binding ((next e s).server n).active).incarnation)) → IsHome (next e s) n
      by (inr new) = let p = of ((next e s).server n).active (new.0).0 in
          record { named = p.0; server = p.1 ∙ (new.0).1; incarnation = new.1 ∙ sym p.2 }
      by (inl old) =
          let z = homes n (old.0).0 (old.0).1 in
          let same = old.2 in
          let p = of (s.server n).active z.named in
          record {
            named = subst (λ (b : ℕ). ((next e s).binding b).named ≡ true) (sym same) p.0;
            server = subst (λ (b : ℕ). ((next e s).binding b).server ≡ n) (sym same) (p.1 ∙ z.server);
            incarnation = old.1 ∙ z.incarnation ∙ sym p.2 ∙ ap (λ (b : ℕ). ((next e s).binding b).incarnation) (sym same);
          }

home_run : {s t : State} → Run s t → Holds s → HaveHomes s → HaveHomes t
home_run stay h homes = homes
home_run {s} (step e guard more_steps) h homes = let k = step_keeps e s guard h in home_run more_steps k.1 (home_step s h e guard k.0 homes)

pub homes_of : (first : ℕ) (s : State) → Run (start first) s → HaveHomes s
homes_of first s reached = home_run reached (start_holds first) (λ n e i. absurd i)

-- ---- bindings that may count

-- who is recorded was, or might still be
recorded_step : (e : Event) (s : State) → Guard e s → ((next e s).naming.recorded ≡ s.naming.recorded)
    ⊎ IsCurrent s.naming (s.binding (next e s).naming.recorded).maker (next e s).naming.recorded
recorded_step (CrashNaming g) s guard = inl refl
recorded_step (BindLive a) s guard = inl refl
recorded_step (BindNew a b n) s guard = inl refl
recorded_step (Grant a) s guard = inl refl
recorded_step (Record b) s guard = inr guard.1
recorded_step (ConfirmTop a q) s guard = inl refl
recorded_step (PassEntry u n) s guard = inl refl
recorded_step (DropEntry a) s guard = inl refl
recorded_step (CrashServer n i) s guard = inl refl
recorded_step (ActivateCopy n b w) s guard = inl refl
recorded_step (Apply n q g) s guard = inl refl
recorded_step (Refuse n q) s guard = inl refl
recorded_step (Change n q) s guard = inl refl
recorded_step (PassRow n a j) s guard = inl refl
recorded_step (PassTop n u j) s guard = inl refl
recorded_step (DropRows n a) s guard = inl refl
recorded_step (VoteTop n a b i) s guard = inl refl
recorded_step (Keep a b) s guard = inl refl
recorded_step (Name b i) s guard = inl refl
recorded_step (Load b w) s guard = inl refl
recorded_step (SendInvoke a k w) s guard = inl refl
recorded_step (Answered r p) s guard = inl refl
recorded_step (TurnedDown q) s guard = inl refl
recorded_step (Lost a) s guard = inl refl
recorded_step (GiveUp a) s guard = inl refl
recorded_step (CommitNested a p) s guard = inl refl
recorded_step (Abort a) s guard = inl refl
recorded_step (CommitTop a p) s guard = inl refl
recorded_step (SendVote a i) s guard = inl refl
recorded_step (SendConfirm a q) s guard = inl refl
recorded_step (Decide a) s guard = inl refl
recorded_step (Report a p) s guard = inl refl
recorded_step (EndUnit u) s guard = inl refl
recorded_step (Included a g p) s guard = inl refl

count_step : (e : Event) (s : State) → Guard e s → Later s (next e s) → (b : ℕ) → b < s.naming.bound → MayCount (next e s) b → MayCount s b
count_step e s guard later b made (inr now) = inr (later.current b made now)
count_step e s guard later b made (inl (is, low)) = elim (recorded_step e s guard) [
  | inl same ↦ inl (sym same ∙ is, (let f = first_rises later in omega (arith, f, low)))
  | inr now ↦ inr (subst (λ (k : ℕ). IsCurrent s.naming (s.binding k).maker k) is now)
]

count_run : {s t : State} → Run s t → Holds s → (b : ℕ) → b < s.naming.bound → MayCount t b → MayCount s b
count_run stay h b made now = now
count_run {s} (step e guard more_steps) h b made now =
    let k = step_keeps e s guard h in
    let later = k.0 in
    let up = later.bound in
    count_step e s guard later b made (count_run more_steps k.1 b (omega (arith, made, up)) now)

pub counting_is_old : CountingIsOld
counting_is_old first s t b reached made run now = count_run run (run_keeps reached (start_holds first)) b made now
