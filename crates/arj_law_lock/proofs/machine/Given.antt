-- A vote that was given stands.
use Rattle.arj_law_lock.proofs.Terms
use Terms.{◌≡◌, ◌≤◌, ◌==◌, ℕ, Bool, true, false, cond, max, inl, inr, refl, sym, ◌∙◌, ap, subst, arith, Act, In, root, same, top, Alive}
use Terms.{Call, State, Vote, Event, CrashNaming, BindLive, BindNew, Grant, Record, ConfirmTop, PassEntry, DropEntry, CrashServer}
use Terms.{ActivateCopy, Apply, Refuse, Change, PassRow, PassTop, DropRows, VoteTop, Keep, Name, Load, SendInvoke, Answered, TurnedDown}
use Terms.{Lost, GiveUp, CommitNested, Abort, CommitTop, SendVote, SendConfirm, Decide, Report, EndUnit, Included, Guard, Run, ballot, next}
use Terms.{stay, step, given_by}
use Rattle.arj_law_lock.proofs.machine
use machine.{Claims.Holds, Later.Later, Later.alive_back, Later.first_rises, Order.step_keeps, Paths.act_here, Paths.same_is}
use machine.{ValueClaims.Values, VoteLasts.Votes, VoteSteps.votes_agree}
use Rattle.arj_law_lock.specs.machine.Laws.{GivenStands}
use Rattle.std.proofs.Common.{eq-eqb, eqb-true}

-- ---- one step

-- the greatest binding under which a server voted for the top only rises, and while it stays so does what the vote gives
abbrev IsVoteLater : Act → State → State → Type 0
IsVoteLater m s t = (s.yes m ≤ t.yes m) × (t.yes m ≡ s.yes m → t.vote m ≡ s.vote m)

step_vote : (e : Event) (s : State) (m : Act) →
    (s.yes m ≤ (let t = next e s in t.yes m)) × ((let t = next e s in t.yes m) ≡ s.yes m → (let t = next e s in t.vote m) ≡ s.vote m)
step_vote (VoteTop n a b i) s m = by (same m a) refl
  where
    by : (w : Bool) → same m a ≡ w → (s.yes m ≤ cond w (max (s.yes a) b) (s.yes m))
        × (cond w (max (s.yes a) b) (s.yes m) ≡ s.yes m → cond w (ballot s n a b) (s.vote m) ≡ s.vote m)
    by false other = (omega arith, λ stays. refl)
    by true is =
        let one : m ≡ a = same_is m a is in
        let old : s.yes m ≡ s.yes a = ap s.yes one in (
          omega (arith, old),
          λ stays. (λ i. cond (eq-eqb (max (s.yes a) b) (s.yes a) (stays ∙ old) i) (s.vote a) (given_by s n a)) ∙ ap s.vote (sym one),
        )
step_vote (CrashNaming a) s m = (omega arith, λ same. refl)
step_vote (BindLive a) s m = (omega arith, λ same. refl)
step_vote (BindNew a b c) s m = (omega arith, λ same. refl)
step_vote (Grant a) s m = (omega arith, λ same. refl)
step_vote (Record a) s m = (omega arith, λ same. refl)
step_vote (ConfirmTop a b) s m = (omega arith, λ same. refl)
step_vote (PassEntry a b) s m = (omega arith, λ same. refl)
step_vote (DropEntry a) s m = (omega arith, λ same. refl)
step_vote (CrashServer a b) s m = (omega arith, λ same. refl)
step_vote (ActivateCopy a b c) s m = (omega arith, λ same. refl)
step_vote (Apply a b c) s m = (omega arith, λ same. refl)
step_vote (Refuse a b) s m = (omega arith, λ same. refl)
step_vote (Change a b) s m = (omega arith, λ same. refl)
step_vote (PassRow a b c) s m = (omega arith, λ same. refl)
step_vote (PassTop a b c) s m = (omega arith, λ same. refl)
step_vote (DropRows a b) s m = (omega arith, λ same. refl)
step_vote (Keep a b) s m = (omega arith, λ same. refl)
step_vote (Name a b) s m = (omega arith, λ same. refl)
step_vote (Load a b) s m = (omega arith, λ same. refl)
step_vote (SendInvoke a b c) s m = (omega arith, λ same. refl)
step_vote (Answered a b) s m = (omega arith, λ same. refl)
step_vote (TurnedDown a) s m = (omega arith, λ same. refl)
step_vote (Lost a) s m = (omega arith, λ same. refl)
step_vote (GiveUp a) s m = (omega arith, λ same. refl)
step_vote (CommitNested a b) s m = (omega arith, λ same. refl)
step_vote (Abort a) s m = (omega arith, λ same. refl)
step_vote (CommitTop a b) s m = (omega arith, λ same. refl)
step_vote (SendVote a b) s m = (omega arith, λ same. refl)
step_vote (SendConfirm a b) s m = (omega arith, λ same. refl)
step_vote (Decide a) s m = (omega arith, λ same. refl)
step_vote (Report a b) s m = (omega arith, λ same. refl)
step_vote (EndUnit a) s m = (omega arith, λ same. refl)
step_vote (Included a b c) s m = (omega arith, λ same. refl)

-- ---- a run

-- What a run leaves of a top whose commit was called: nothing that was known of it is taken back, no call of it is new, and what was
-- aborted stays so.
record Since (m : Act) (s t : State) : Type 0 where
  pub stage : (s.action m).stage ≤ (t.action m).stage
  pub first : s.naming.first ≤ t.naming.first
  pub kept : (u : ℕ) → s.kept u ≤ t.kept u
  pub vote : IsVoteLater m s t
  pub calls : 1 ≤ (s.action m).stage → (c : Call) → In c t.calls → top c.act ≡ m → In c s.calls
  pub alive : (a : Act) → Alive t a → Alive s a

since_none : (m : Act) (s : State) → Since m s s
since_none m s = record {
  stage = omega arith;
  first = omega arith;
  kept = λ u. omega arith;
  vote = (omega arith, λ same. refl);
  calls = λ one c i is. i;
  alive = λ a h. h;
}

since_step : (m : Act) (e : Event) (s : State) → Later s (next e s) → Since m s (next e s)
since_step m e s later = record {
  stage = later.stage m;
  first = first_rises later;
  kept = later.kept;
  vote = step_vote e s m;
  calls = λ one c i is. elim (later.fresh_call c i) [
    | inl old ↦ old
    | inr new ↦ (let zero : (let t = next e s in (t.action m).stage) ≡ 0 = ap (λ (a : Act). (let t = next e s in (t.action a).stage))
        (sym is) ∙ new.0 in let up = later.stage m in absurd (omega (arith, one, zero, up)))
  ];
  alive = alive_back later;
}

since_both : (m : Act) (s t u : State) → Since m s t → Since m t u → Since m s u
since_both m s t u a b = record {
  stage = (let x = a.stage in let y = b.stage in omega (arith, x, y));
  first = (let x = a.first in let y = b.first in omega (arith, x, y));
  kept = λ k. (let x = a.kept k in let y = b.kept k in omega (arith, x, y));
  vote = (
    (let x = a.vote in let y = b.vote in let p = x.0 in let q = y.0 in omega (arith, p, q)),
    λ stays. (let x = a.vote in let y = b.vote in let p = x.0 in let q = y.0 in let last : u.yes m ≡ t.yes m = omega (arith, p, q, stays) in
        let early : t.yes m ≡ s.yes m = omega (arith, p, q, stays) in y.1 last ∙ x.1 early),
  );
  calls = λ one c i is. (let x = a.stage in a.calls one c (b.calls (omega (arith, x, one)) c i is) is);
  alive = λ k h. a.alive k (b.alive k h);
}

since : (m : Act) {s t : State} → Run s t → Holds s → Since m s t
since m {s} stay h = since_none m s
since m {s} {t} (step e guard more) h = let k = step_keeps e s guard h in
    since_both m s (next e s) t (since_step m e s k.0) (since m more k.1)

-- ---- what was given

pub given_stands : {s : State} → Holds s → Values s → Votes s → GivenStands s
given_stands {s} h v o n m b i t c guard run one given kept first ci write tops alive = by (max (s.yes m) b == s.yes m) refl
  where
    k1 : Later s (next (VoteTop n m b i) s) × Holds (next (VoteTop n m b i) s)
    k1 = step_keeps (VoteTop n m b i) s guard h

    behind : Since m (next (VoteTop n m b i) s) t
    behind = since m run k1.1

    whole : Since m s t
    whole = since_both m s (next (VoteTop n m b i) s) t (since_step m (VoteTop n m b i) s k1.0) behind

    its_yes : (let u = next (VoteTop n m b i) s in u.yes m) ≡ max (s.yes m) b
    its_yes = act_here s.yes m (max (s.yes m) b)

    -- the vote is what it was right behind it
    stays : t.vote m ≡ ballot s n m b
    stays =
        (let z = behind.vote in let up = z.0 in let e = its_yes in z.1 (omega (arith, up, e, given))) ∙ act_here s.vote m (ballot s n m b)

    again : max (s.yes m) b ≡ s.yes m → s.vote m ≡ given_by s n m
    again same =
        let mean = h.mail (Vote m b i) guard.0 in
        let z = whole.vote in let up = z.0 in
        let is : s.yes m ≡ b = omega (arith, same, up, given) in
        let named = mean.2 in let most = whole.kept (root m) in let stage = whole.stage in let least = mean.4 in let rises = whole.first in
        votes_agree h v o n m i c (subst (λ (k : ℕ). Guard (VoteTop n m k i) s) (sym is) guard) (omega (arith, stage, least, one))
        (omega (arith, is, named, most, kept)) (omega (arith, rises, first, named)) (whole.calls least c ci tops) write tops
        (whole.alive c.act alive)

    by : (w : Bool) → (max (s.yes m) b == s.yes m) ≡ w → t.vote m ≡ given_by s n m
    by true is = stays ∙ (λ j. cond (is j) (s.vote m) (given_by s n m)) ∙ again (eqb-true (max (s.yes m) b) (s.yes m) is)
    by false is = stays ∙ (λ j. cond (is j) (s.vote m) (given_by s n m))
