-- What a run of the machine leaves for ever: messages, votes and confirmations; and what a vote that was asked says of the kept binding.
use Rattle.arj_law_parts.proofs.Words
use Words.{◌≡◌, ◌≤◌, ◌<◌, ◌⊎◌, ◌∙◌, ℕ, ◌∷◌, Bool, true, false, cond, max, refl, sym, ap, subst, inl, inr, ⊎_elim, arith}
use Rattle.arj_law_lock_view.proofs.Terms
use Terms.{Act, In, root, same, top, Guard, Run, next, start, stay, step, Alive, Call, Covered, Message, State, Event, CrashNaming}
use Terms.{BindLive, BindNew, Grant, Record, ConfirmTop, PassEntry, DropEntry, CrashServer, ActivateCopy, Apply, Refuse, Change, PassRow}
use Terms.{PassTop, DropRows, VoteTop, Keep, Name, Load, SendInvoke, Answered, TurnedDown, Lost, GiveUp, CommitNested, Abort, CommitTop}
use Terms.{SendVote, SendConfirm, Decide, Report, EndUnit, Included, Holds, Later, alive_back, covered_back, start_holds, step_keeps}
use Terms.{same_is, IsReached}
use Terms.machine
use Rattle.arj_law_lock.proofs.machine.Claims.{Mean}

is_vote : Message → Bool
is_vote (machine.Vote m b i) = true
is_vote (machine.Live m b) = false
is_vote _ = false

-- one step
record Goes1 (s t : State) : Type 0 where
  sent : (y : Message) → In y s.net → In y t.net
  yes : (m : Act) → s.yes m ≤ t.yes m
  confirmed : (m : Act) → s.confirmed m ≡ true → t.confirmed m ≡ true
  votes : (m : Act) (b i : ℕ) → In (machine.Vote m b i) t.net → In (machine.Vote m b i) s.net ⊎ (b ≡ t.kept (root m))
  low : ((m : Act) → s.yes m ≤ s.kept (root m)) → (m : Act) → t.yes m ≤ t.kept (root m)

-- nothing is sent, no vote is given, nobody is confirmed
silent : (s t : State) → Later s t → t.net ≡ s.net → ((m : Act) → t.yes m ≡ s.yes m) → ((m : Act) → t.confirmed m ≡ s.confirmed m) →
    Goes1 s t
silent s t later net votes confirmed = record {
  sent = λ y i. subst (In y) (sym net) i;
  yes = λ m. (let e = votes m in omega (arith, e));
  confirmed = λ m is. confirmed m ∙ is;
  votes = λ m b i there. inl (subst (In (machine.Vote m b i)) net there);
  low = λ old m. (let e = votes m in let o = old m in let k = later.kept (root m) in omega (arith, e, o, k));
}

-- a message that is no vote is sent
sends : (s t : State) (x : Message) → Later s t → is_vote x ≡ false → t.net ≡ x ∷ s.net → ((m : Act) → t.yes m ≡ s.yes m) →
    ((m : Act) → t.confirmed m ≡ s.confirmed m) → Goes1 s t
unfolding is_vote
sends s t x later other net votes confirmed = record {
  sent = λ y i. subst (In y) (sym net) (inr i);
  yes = λ m. (let e = votes m in omega (arith, e));
  confirmed = λ m is. confirmed m ∙ is;
  votes = λ m b i there. ⊎_elim (λ is. absurd (let e : true ≡ false = ap is_vote is ∙ other in cc e)) (λ old. inl old)
      (subst (In (machine.Vote m b i)) net there);
  low = λ old m. (let e = votes m in let o = old m in let k = later.kept (root m) in omega (arith, e, o, k));
}

one_step : (e : Event) (s : State) → Guard e s → Holds s → Later s (next e s) → Goes1 s (next e s)
unfolding is_vote
one_step (CrashNaming g) s guard h l = silent s _ l refl (λ m. refl) (λ m. refl)
one_step (BindLive m) s guard h l = sends s _ _ l refl refl (λ m. refl) (λ m. refl)
one_step (BindNew m b n) s guard h l = sends s _ _ l refl refl (λ m. refl) (λ m. refl)
one_step (Grant m) s guard h l = sends s _ _ l refl refl (λ m. refl) (λ m. refl)
one_step (Record b) s guard h l = sends s _ _ l refl refl (λ m. refl) (λ m. refl)
one_step (ConfirmTop m q) s guard h l = record {
  sent = λ y i. i;
  yes = λ a. omega arith;
  confirmed = λ a is. here (same a m) a is;
  votes = λ a b i there. inl there;
  low = λ old a. old a;
}
  where
    here : (v : Bool) (a : Act) → s.confirmed a ≡ true → cond v true (s.confirmed a) ≡ true
    here true a is = refl
    here false a is = is
one_step (PassEntry u n) s guard h l = silent s _ l refl (λ m. refl) (λ m. refl)
one_step (DropEntry a) s guard h l = silent s _ l refl (λ m. refl) (λ m. refl)
one_step (CrashServer n i) s guard h l = silent s _ l refl (λ m. refl) (λ m. refl)
one_step (ActivateCopy n b v) s guard h l = sends s _ _ l refl refl (λ m. refl) (λ m. refl)
one_step (Apply n q g) s guard h l = sends s _ _ l refl refl (λ m. refl) (λ m. refl)
one_step (Refuse n q) s guard h l = sends s _ _ l refl refl (λ m. refl) (λ m. refl)
one_step (Change n q) s guard h l = sends s _ _ l refl refl (λ m. refl) (λ m. refl)
one_step (PassRow n a j) s guard h l = silent s _ l refl (λ m. refl) (λ m. refl)
one_step (PassTop n u j) s guard h l = silent s _ l refl (λ m. refl) (λ m. refl)
one_step (DropRows n a) s guard h l = silent s _ l refl (λ m. refl) (λ m. refl)
one_step (VoteTop n m b i) s guard h l = record {
  sent = λ y j. j;
  yes = λ a. rises (same a m) a refl;
  confirmed = λ a is. is;
  votes = λ a k j there. inl there;
  low = λ old a. stays old (same a m) a refl;
}
  where
    mean : Mean s (machine.Vote m b i)
    mean = h.mail (machine.Vote m b i) guard.0

    least : (x y : ℕ) → x ≤ max x y
    least x y = grind arith

    most : (x y z : ℕ) → x ≤ z → y ≤ z → max x y ≤ z
    most x y z p q = grind (arith, p, q)

    rises : (v : Bool) (a : Act) → same a m ≡ v → s.yes a ≤ cond v (max (s.yes m) b) (s.yes a)
    rises true a is = subst (λ (k : Act). s.yes k ≤ max (s.yes m) b) (sym (same_is a m is)) (least (s.yes m) b)
    rises false a is = omega arith

    stays : ((a : Act) → s.yes a ≤ s.kept (root a)) → (v : Bool) (a : Act) → same a m ≡ v →
        cond v (max (s.yes m) b) (s.yes a) ≤ s.kept (root a)
    stays old true a is =
        subst (λ (k : Act). max (s.yes m) b ≤ s.kept (root k)) (sym (same_is a m is)) (most (s.yes m) b (s.kept (root m)) (old m) mean.2)
    stays old false a is = old a
one_step (Keep m b) s guard h l = silent s _ l refl (λ m. refl) (λ m. refl)
one_step (Name b i) s guard h l = silent s _ l refl (λ m. refl) (λ m. refl)
one_step (Load b v) s guard h l = sends s _ _ l refl refl (λ m. refl) (λ m. refl)
one_step (SendInvoke a k w) s guard h l = sends s _ _ l refl refl (λ m. refl) (λ m. refl)
one_step (Answered r p) s guard h l = silent s _ l refl (λ m. refl) (λ m. refl)
one_step (TurnedDown q) s guard h l = silent s _ l refl (λ m. refl) (λ m. refl)
one_step (Lost a) s guard h l = silent s _ l refl (λ m. refl) (λ m. refl)
one_step (GiveUp a) s guard h l = silent s _ l refl (λ m. refl) (λ m. refl)
one_step (CommitNested a p) s guard h l = silent s _ l refl (λ m. refl) (λ m. refl)
one_step (Abort a) s guard h l = silent s _ l refl (λ m. refl) (λ m. refl)
one_step (CommitTop m p) s guard h l = silent s _ l refl (λ m. refl) (λ m. refl)
one_step (SendVote m i) s guard h l = record {
  sent = λ y j. inr j;
  yes = λ a. omega arith;
  confirmed = λ a is. is;
  votes = λ a b j there. ⊎_elim (λ is. inr (kept_is a b j is)) (λ old. inl old) there;
  low = λ old a. old a;
}
  where
    kept_is : (a : Act) (b j : ℕ) → machine.Vote a b j ≡ machine.Vote m (s.kept (root m)) i → b ≡ s.kept (root a)
    kept_is a b j is = let number : b ≡ s.kept (root m) = cc is in let who : a ≡ m = cc is in
        number ∙ ap (λ (k : Act). s.kept (root k)) (sym who)
one_step (SendConfirm m q) s guard h l = sends s _ _ l refl refl (λ m. refl) (λ m. refl)
one_step (Decide m) s guard h l = silent s _ l refl (λ m. refl) (λ m. refl)
one_step (Report m p) s guard h l = silent s _ l refl (λ m. refl) (λ m. refl)
one_step (EndUnit u) s guard h l = silent s _ l refl (λ m. refl) (λ m. refl)
one_step (Included a g p) s guard h l = silent s _ l refl (λ m. refl) (λ m. refl)

-- ---- what is kept by every run

-- a vote that was asked was of the binding that a call which counts stands on
abbrev pub AsksKept : State → Type 0
AsksKept s = (m : Act) (b i : ℕ) → In (machine.Vote m b i) s.net → (c : Call) → In c s.calls → Alive s c.act → Covered s m c.act →
    b ≡ s.kept (root m)

pub record Kept (s : State) : Type 0 where
  pub holds : Holds s
  pub low : (m : Act) → s.yes m ≤ s.kept (root m)
  pub asked : AsksKept s

-- and from one state to a later one
pub record Ever (s t : State) : Type 0 where
  pub sent : (y : Message) → In y s.net → In y t.net
  pub yes : (m : Act) → s.yes m ≤ t.yes m
  pub confirmed : (m : Act) → s.confirmed m ≡ true → t.confirmed m ≡ true
  pub server : (b : ℕ) → b < s.naming.bound → (t.binding b).server ≡ (s.binding b).server
  pub named : (b : ℕ) → (s.binding b).named ≡ true → ((t.binding b).named ≡ true) × ((t.binding b).incarnation ≡ (s.binding b).incarnation)
  pub bound : s.naming.bound ≤ t.naming.bound

asks_on : (s t : State) → Holds s → Later s t → Goes1 s t → AsksKept s → AsksKept t
asks_on s t h later g old m b i there c ci alive covered = ⊎_elim was (λ is. is) (g.votes m b i there)
  where
    was : In (machine.Vote m b i) s.net → b ≡ t.kept (root m)
    was before = ⊎_elim
        (λ j. let e = old m b i before c j (alive_back later c.act alive) (covered_back later m c.act (h.calls c j).acts mean.4
        (h.tops m mean.0).before covered) in e ∙ ap s.kept (sym covered.0) ∙ sym (later.keeps c j alive) ∙ ap t.kept covered.0)
        (λ new. absurd (never new.0 covered))
        (later.fresh_call c ci)
      where
        mean : Mean s (machine.Vote m b i)
        mean = h.mail (machine.Vote m b i) before

        never : (t.action (top c.act)).stage ≡ 0 → Covered t m c.act → ⊥
        never zero_one (r, inl is) = let e : (t.action (top c.act)).stage ≡ (t.action m).stage = ap (λ (a : Act). (t.action a).stage) is in
            let l = later.stage m in let k = mean.4 in omega (arith, zero_one, e, l, k)
        never zero_one (r, inr (three, less)) = omega (arith, zero_one, three)

ever_step : (s t : State) → Later s t → Goes1 s t → Ever s t
ever_step s t later g = record {
  sent = g.sent;
  yes = g.yes;
  confirmed = g.confirmed;
  server = λ b below. (later.made b below).0;
  named = later.named;
  bound = later.bound;
}

ever_both : (s t u : State) → Ever s t → Ever t u → Ever s u
ever_both s t u a b = record {
  sent = λ y i. b.sent y (a.sent y i);
  yes = λ m. (let p = a.yes m in let q = b.yes m in omega (arith, p, q));
  confirmed = λ m is. b.confirmed m (a.confirmed m is);
  server = λ k below. (let l = a.bound in b.server k (omega (arith, below, l)) ∙ a.server k below);
  named = λ k is. (let p = a.named k is in let q = b.named k p.0 in (q.0, q.1 ∙ p.1));
  bound = let p = a.bound in let q = b.bound in omega (arith, p, q);
}

ever_none : (s : State) → Ever s s
ever_none s = record {
  sent = λ y i. i;
  yes = λ m. omega arith;
  confirmed = λ m is. is;
  server = λ b below. refl;
  named = λ b is. (is, refl);
  bound = omega arith;
}

-- a property that later states keep
pub on_run : (P : State → Type 0) → ((s t : State) → Kept s → Later s t → Ever s t → P s → P t) → {s t : State} → Run s t → Kept s → P s →
    Kept t × Ever s t × P t
on_run P more {s} stay k p = (k, ever_none s, p)
on_run P more {s} {t} (step e guard rest) k p =
    let q = step_keeps e s guard k.holds in
    let g = one_step e s guard k.holds q.0 in
    let v = ever_step s (next e s) q.0 g in
    let r = on_run P more rest (record { holds = q.1; low = g.low k.low; asked = asks_on s (next e s) k.holds q.0 g k.asked })
    (more s (next e s) k q.0 v p) in
    (r.0, ever_both s (next e s) t v r.1, r.2)

start_kept : (v : ℕ) → Kept (start v)
start_kept v = record { holds = start_holds v; low = λ m. omega arith; asked = λ m b i there. absurd there }

pub reached_kept : (s : State) → IsReached s → Kept s
reached_kept s reached = (on_run (λ t. s ≡ s) (λ x y k l v p. p) reached.1 (start_kept reached.0) refl).0

pub ever : {s t : State} → IsReached s → Run s t → Ever s t
ever {s} {t} reached run = (on_run (λ x. s ≡ s) (λ x y k l v p. p) run (reached_kept s reached) refl).1
