-- What a message means stays true: what each effect makes of the facts that meanings speak of.
use Rattle.arj_law_disk.proofs.Terms
use Terms.{◌≡◌, ◌⊎◌, ℕ, List, Bool, true, false, ◌==◌, ◌||◌, Option, Some, None, is_some, refl, sym, ◌∙◌, ap, subst, inl, inr, ⊎_elim, Core}
use Terms.{changed, Begin, Take, Seal, Intend, Decide, EndBare, Halt, Keep, Move, Finish, Drop, Agree, Pass, Enter, MoveEntry, FinishEntry}
use Terms.{DropEntry, CanBegin, entry_hold, Message, Prepare, Prepared, Confirm, Confirmed, ToldCommit, ToldBare, ToldAbort, Acked}
use Terms.{ToldSerial, Meaning, IsOver, State, Plan, Hold, Stage, Preparing, Confirming, Gone, is_open, is_sealed, is_gone, is_idle}
use Terms.{open_by, decided, undecided, lists, listed_by, target, state_for, hold, put}
use Rattle.arj_law_disk.proofs.machine
use machine.{Confirming.marked_rises}
use machine.Base.{put_cases, put_rises, put_other, put2_true, put2_rises, test_not, or_right, never, never_some, some_is, open_done}
use machine.Base.{open_parts, open_made, falls_to}
use machine.Stages.{Ages, ages_gone, ages_seal}
use Rattle.arj_law_disk.specs.machine.{Effects.Remove, Effects.IsNot, State.Idle}

-- what a later state has of an earlier one, as far as messages speak of it
pub record Grows (S V : State) : Type 0 where
  pub begun : (a : ℕ) → S.begun a ≡ true → V.begun a ≡ true
  pub plan : (a : ℕ) → S.begun a ≡ true → V.plan a ≡ S.plan a
  pub falls : (a : ℕ) → (S.begun a ≡ true) ⊎ ((is_gone (S.stage a) ≡ true) ⊎ (is_gone (S.stage (S.root a)) ≡ true)) → undecided V a ≡ true →
      undecided S a ≡ true
  pub sealed : (a : ℕ) → is_sealed (S.stage a) ≡ true → is_sealed (V.stage a) ≡ true
  pub gone : (a : ℕ) → is_gone (S.stage a) ≡ true → is_gone (V.stage a) ≡ true
  pub conf : (a : ℕ) → S.conf a ≡ true → V.conf a ≡ true
  pub light : (a : ℕ) → S.light a ≡ true → V.light a ≡ true
  pub done : (a : ℕ) → decided S a ≡ true → decided V a ≡ true
  pub bare : (a : ℕ) → S.bare a ≡ true → V.bare a ≡ true
  pub root : V.root ≡ S.root
  pub lists : (a m : ℕ) → undecided S a ≡ false → lists S a m ≡ false → lists V a m ≡ false
  pub pend : (a s : ℕ) → undecided S a ≡ true → S.pend s ≡ Some (hold S a) → V.pend s ≡ Some (hold S a)
  pub landed : (a m : ℕ) → decided S a ≡ true → (S.got a m ≡ true → S.went a m ≡ true) → V.got a m ≡ true → V.went a m ≡ true
  pub entry : (a : ℕ) → decided S a ≡ true → IsNot S.entry_pend a → IsNot V.entry_pend a

over_later : (S V : State) → Grows S V → (r : ℕ) → IsOver S r → IsOver V r
over_later S V g r o = (
  g.gone r o.0,
  λ z e. let was : S.root z ≡ r = ap (λ f. f z) (sym g.root) ∙ e in
      falls_to (undecided V z) (λ u. never (g.falls z (inr (inr (ap (λ x. is_gone (S.stage x)) was ∙ o.0))) u) (o.1 z was)),
)

-- What was sent goes on to mean what it meant, where no top that had gone becomes bare.
pub later : (S V : State) → Grows S V → ((t : ℕ) → V.bare t ≡ true → is_gone (S.stage t) ≡ true → S.bare t ≡ true) → (m : Message) →
    Meaning S m → Meaning V m
later S V g old (Prepare t s) x = (g.begun t x.0, subst (λ (p : Plan). target p s ≡ true) (sym (g.plan t x.0)) x.1)
later S V g old (Prepared t s) x = (
  g.begun t x.0,
  subst (λ (p : Plan). target p s ≡ true) (sym (g.plan t x.0)) x.1,
  λ u. let v = g.falls t (inl x.0) u in
      subst (λ (p : Plan). V.pend s ≡ Some (record { top = t; new = state_for p })) (sym (g.plan t x.0)) (g.pend t s v (x.2 v)),
)
later S V g old (Confirm t) x = (g.begun t x.0, g.sealed t x.1)
later S V g old (Confirmed t) x = (g.begun t x.0, λ u. taken (x.1 (g.falls t (inl x.0) u)))
  where
    taken : (S.conf t ≡ true) ⊎ (S.light t ≡ true) → (V.conf t ≡ true) ⊎ (V.light t ≡ true)
    taken (inl h) = inl (g.conf t h)
    taken (inr h) = inr (g.light t h)
later S V g old (ToldCommit t m) x = g.done t x
later S V g old (ToldBare t m) x = g.bare t x
later S V g old (ToldAbort t m) x = (
  g.gone t x.0,
  falls_to (undecided V t) (λ u. never (g.falls t (inr (inl x.0)) u) x.1),
  g.lists t m x.1 x.2,
  λ b. subst (λ f. IsOver V (f t)) (sym g.root) (over_later S V g (S.root t) (x.3 (old t b x.0))),
)
later S V g old (Acked t m) x = (g.done t x.0, g.landed t m x.0 x.1, λ e. g.entry t x.0 (x.2 e))
later S V g old (ToldSerial r m) x =
    (over_later S V g r x.0, λ z e. let was : S.root z ≡ r = ap (λ f. f z) (sym g.root) ∙ e in g.lists z m (x.0.1 z was) (x.1 z was))

-- an open outcome falls with its parts
open_falls : (d e : Bool) (g f : Stage) (i j : Option (List ℕ)) → (d ≡ false → e ≡ false) → (d ≡ false → is_open g ≡ true →
    is_open f ≡ true) → (is_some i ≡ true → (is_open f ≡ true) ⊎ (is_some j ≡ true)) → open_by d g i ≡ true → open_by e f j ≡ true
open_falls d e g f i j done opens records u = let n = open_done d g i u in
    open_made e f j (done n) (⊎_elim (λ (o : is_open g ≡ true). inl (opens n o)) (λ (r : is_some i ≡ true). records r) (open_parts d g i u))

-- a decision leaves no new outcome open
pub decide_falls : (S : State) (t a : ℕ) → undecided (changed S (Decide t)) a ≡ true → undecided S a ≡ true
decide_falls S t a = open_falls ((t == a) || decided S a) (decided S a) (put t Gone S.stage a) (S.stage a) (S.intent a) (S.intent a) undone
    (λ n. (ages_gone t S.stage).opens a) (λ i. inr i)
  where
    undone : ((t == a) || decided S a) ≡ false → decided S a ≡ false
    undone n = falls_to (decided S a) (λ d. never (or_right (t == a) (decided S a) d) n)

pub stage_falls : (S : State) (g : ℕ → Stage) → Ages S.stage g → (a : ℕ) → open_by (decided S a) (g a) (S.intent a) ≡ true →
    undecided S a ≡ true
stage_falls S g ages a =
    open_falls (decided S a) (decided S a) (g a) (S.stage a) (S.intent a) (S.intent a) (λ n. n) (λ n. ages.opens a) (λ i. inr i)

pub grows_same : (S : State) → Grows S S
grows_same S = record {
  begun = λ a b. b;
  plan = λ a b. refl;
  falls = λ a w u. u;
  sealed = λ a h. h;
  gone = λ a h. h;
  conf = λ a h. h;
  light = λ a h. h;
  done = λ a h. h;
  bare = λ a h. h;
  root = refl;
  lists = λ a m u n. n;
  pend = λ a s u p. p;
  landed = λ a m d l g. l g;
  entry = λ a d n. n;
}

pub grows_begun : (S : State) (t : ℕ) (p : Plan) → CanBegin S t p → Core S → Grows S (changed S (Begin t p))
grows_begun S t p can c = record {
  begun = λ a b. put_rises t S.begun a b;
  plan = λ a b. put_other t p S.plan a (other a b);
  falls = λ a w u. falls a w u;
  sealed = λ a h. subst (λ g. is_sealed g ≡ true) (sym (put_other t Preparing S.stage a (kept a is_sealed refl h))) h;
  gone = λ a h. subst (λ g. is_gone g ≡ true) (sym (put_other t Preparing S.stage a (kept a is_gone refl h))) h;
  conf = λ a h. h;
  light = λ a h. h;
  done = λ a h. h;
  bare = λ a h. h;
  root = refl;
  lists = λ a m u n. n;
  pend = λ a s u p. p;
  landed = λ a m d l g. l g;
  entry = λ a d n. n;
}
  where
    other : (a : ℕ) → S.begun a ≡ true → (a == t) ≡ false
    other a b = test_not a t (λ e. let n : ◌≡◌ {A = Bool} true false = sym (ap is_idle (ap S.stage e ∙ can.idle)) ∙ c.fresh.begun a b in cc)

    kept : (a : ℕ) (f : Stage → Bool) → f Idle ≡ false → f (S.stage a) ≡ true → (a == t) ≡ false
    kept a f no_ h = test_not a t (λ e. never h (ap f (ap S.stage e ∙ can.idle) ∙ no_))

    same : (a : ℕ) → (a == t) ≡ false → open_by (decided S a) (put t Preparing S.stage a) (S.intent a) ≡ true → undecided S a ≡ true
    same a e u = subst (λ g. open_by (decided S a) g (S.intent a) ≡ true) (put_other t Preparing S.stage a e) u

    falls : (a : ℕ) → (S.begun a ≡ true) ⊎ ((is_gone (S.stage a) ≡ true) ⊎ (is_gone (S.stage (S.root a)) ≡ true)) →
        open_by (decided S a) (put t Preparing S.stage a) (S.intent a) ≡ true → undecided S a ≡ true
    falls a (inl b) u = same a (other a b) u
    falls a (inr (inl g)) u = same a (kept a is_gone refl g) u
    falls a (inr (inr g)) u = same a (test_not a t (λ e. never g (ap (λ n. is_gone (S.stage (S.root n))) e ∙ can.root))) u

pub grows_took : (S : State) (t s : ℕ) → S.stage t ≡ Preparing → Core S → Grows S (changed S (Take t s))
grows_took S t s is c = record {
  begun = λ a b. b;
  plan = λ a b. refl;
  falls = λ a w u. u;
  sealed = λ a h. h;
  gone = λ a h. h;
  conf = λ a h. h;
  light = λ a h. h;
  done = λ a h. h;
  bare = λ a h. h;
  root = refl;
  lists = λ a m u n. n;
  pend = λ a s u p. p;
  landed = λ a m d l g. ⊎_elim (λ (x : (a ≡ t) × (m ≡ s)). let n : ◌≡◌ {A = Bool} false true = sym (ap is_gone (ap S.stage x.0 ∙ is))
      ∙ c.coordinators.decided_closed a d in cc) (λ (x : S.got a m ≡ true). l x) (put2_true t s S.got a m g);
  entry = λ a d n. n;
}

pub grows_sealed : (S : State) (t : ℕ) → S.stage t ≡ Preparing → Grows S (changed S (Seal t))
grows_sealed S t is = record {
  begun = λ a b. b;
  plan = λ a b. refl;
  falls = λ a w. stage_falls S (put t Confirming S.stage) (ages_seal t S.stage is) a;
  sealed = (ages_seal t S.stage is).sealed;
  gone = (ages_seal t S.stage is).gone;
  conf = λ a h. h;
  light = λ a h. h;
  done = λ a h. h;
  bare = λ a h. h;
  root = refl;
  lists = λ a m u n. n;
  pend = λ a s u p. p;
  landed = λ a m d l g. l g;
  entry = λ a d n. n;
}

pub grows_halted : (S : State) (t : ℕ) → Grows S (changed S (Halt t))
grows_halted S t = record {
  begun = λ a b. b;
  plan = λ a b. refl;
  falls = λ a w. stage_falls S (put t Gone S.stage) (ages_gone t S.stage) a;
  sealed = (ages_gone t S.stage).sealed;
  gone = (ages_gone t S.stage).gone;
  conf = λ a h. h;
  light = λ a h. h;
  done = λ a h. h;
  bare = λ a h. h;
  root = refl;
  lists = λ a m u n. n;
  pend = λ a s u p. p;
  landed = λ a m d l g. l g;
  entry = λ a d n. n;
}

pub grows_ended_bare : (S : State) (t : ℕ) → Grows S (changed S (EndBare t))
grows_ended_bare S t = record {
  begun = λ a b. b;
  plan = λ a b. refl;
  falls = λ a w. stage_falls S (put t Gone S.stage) (ages_gone t S.stage) a;
  sealed = (ages_gone t S.stage).sealed;
  gone = (ages_gone t S.stage).gone;
  conf = λ a h. h;
  light = λ a h. h;
  done = λ a h. h;
  bare = λ a h. put_rises t S.bare a h;
  root = refl;
  lists = λ a m u n. n;
  pend = λ a s u p. p;
  landed = λ a m d l g. l g;
  entry = λ a d n. n;
}

pub grows_intended : (S : State) (t : ℕ) (nodes : List ℕ) → S.stage t ≡ Confirming → Core S → Grows S (changed S (Intend t nodes))
grows_intended S t nodes is c = record {
  begun = λ a b. b;
  plan = λ a b. refl;
  falls = λ a w. put_cases (λ o. open_by (decided S a) (S.stage a) o ≡ true →
      undecided S a ≡ true) t (Some nodes) S.intent a (λ e u. open_made (decided S a) (S.stage a) (S.intent a)
      (open_done (decided S a) (S.stage a) (Some nodes) u) (inl (ap is_open (ap S.stage e ∙ is)))) (λ e u. u);
  sealed = λ a h. h;
  gone = λ a h. h;
  conf = λ a h. h;
  light = λ a h. h;
  done = λ a h. h;
  bare = λ a h. h;
  root = refl;
  lists = λ a m u n. put_cases (λ o. listed_by o m ≡ false) t (Some nodes) S.intent a (λ e. absurd (never (open_t a e) u)) (λ e. n);
  pend = λ a s u p. p;
  landed = λ a m d l g. l g;
  entry = λ a d n. n;
}
  where
    open_t : (a : ℕ) → a ≡ t → undecided S a ≡ true
    open_t a e = open_made (decided S a) (S.stage a) (S.intent a) (falls_to (decided S a) (λ d. let n : ◌≡◌ {A = Bool} false true = sym
        (ap is_gone (ap S.stage e ∙ is)) ∙ c.coordinators.decided_closed a d in cc)) (inl (ap is_open (ap S.stage e ∙ is)))

pub grows_decided : (S : State) (t : ℕ) → Grows S (changed S (Decide t))
grows_decided S t = record {
  begun = λ a b. b;
  plan = λ a b. refl;
  falls = λ a w. decide_falls S t a;
  sealed = (ages_gone t S.stage).sealed;
  gone = (ages_gone t S.stage).gone;
  conf = λ a h. h;
  light = λ a h. h;
  done = λ a h. or_right (t == a) (decided S a) h;
  bare = λ a h. h;
  root = refl;
  lists = λ a m u n. n;
  pend = λ a s u p. p;
  landed = λ a m d l g. l g;
  entry = λ a d n. n;
}

pub grows_removed : (S : State) (t : ℕ) (nodes : List ℕ) → decided S t ≡ true → Grows S (changed S (Remove t nodes))
grows_removed S t nodes done = record {
  begun = λ a b. b;
  plan = λ a b. refl;
  falls = λ a w. put_cases (λ o. open_by (decided S a) (S.stage a) o ≡ true → undecided S a ≡ true) t None S.intent a
      (λ e u. absurd (never (ap (decided S) e ∙ done) (open_done (decided S a) (S.stage a) None u))) (λ e u. u);
  sealed = λ a h. h;
  gone = λ a h. h;
  conf = λ a h. h;
  light = λ a h. h;
  done = λ a h. h;
  bare = λ a h. h;
  root = refl;
  lists = λ a m u n. put_cases (λ o. listed_by o m ≡ false) t None S.intent a (λ e. refl) (λ e. n);
  pend = λ a s u p. p;
  landed = λ a m d l g. l g;
  entry = λ a d n. n;
}

pub grows_kept : (S : State) (t s : ℕ) → S.pend s ≡ None → Grows S (changed S (Keep t s))
grows_kept S t s free = record {
  begun = λ a b. b;
  plan = λ a b. refl;
  falls = λ a w u. u;
  sealed = λ a h. h;
  gone = λ a h. h;
  conf = λ a h. h;
  light = λ a h. h;
  done = λ a h. h;
  bare = λ a h. h;
  root = refl;
  lists = λ a m u n. n;
  pend = λ a m u p.
      put_cases (λ o. o ≡ Some (hold S a)) s (Some (hold S t)) S.pend m (λ e. absurd (never_some p (ap S.pend e ∙ free))) (λ e. p);
  landed = λ a m d l g. l g;
  entry = λ a d n. n;
}

pub grows_moved : (S : State) (s : ℕ) (h : Hold) → Grows S (changed S (Move s h))
grows_moved S s h = record {
  begun = λ a b. b;
  plan = λ a b. refl;
  falls = λ a w u. u;
  sealed = λ a h. h;
  gone = λ a h. h;
  conf = λ a h. h;
  light = λ a h. h;
  done = λ a h. h;
  bare = λ a h. h;
  root = refl;
  lists = λ a m u n. n;
  pend = λ a s u p. p;
  landed = λ a m d l g. l g;
  entry = λ a d n. n;
}

pub grows_finished : (S : State) (s : ℕ) (h : Hold) → S.pend s ≡ Some h → undecided S h.top ≡ false → Grows S (changed S (Finish s h))
grows_finished S s h prepared closed = record {
  begun = λ a b. b;
  plan = λ a b. refl;
  falls = λ a w u. u;
  sealed = λ a h. h;
  gone = λ a h. h;
  conf = λ a h. h;
  light = λ a h. h;
  done = λ a h. h;
  bare = λ a h. h;
  root = refl;
  lists = λ a m u n. n;
  pend = λ a m u p. put_cases (λ o. o ≡ Some (hold S a)) s None S.pend m
      (λ e. absurd (never u (ap (λ (x : Hold). undecided S x.top) (some_is (ap S.pend (sym e) ∙ p) prepared) ∙ closed))) (λ e. p);
  landed = λ a m d l g. put2_rises h.top s S.went a m (l g);
  entry = λ a d n. n;
}

pub grows_dropped : (S : State) (s : ℕ) (h : Hold) → S.pend s ≡ Some h → undecided S h.top ≡ false → Grows S (changed S (Drop s h))
grows_dropped S s h prepared closed = record {
  begun = λ a b. b;
  plan = λ a b. refl;
  falls = λ a w u. u;
  sealed = λ a h. h;
  gone = λ a h. h;
  conf = λ a h. h;
  light = λ a h. h;
  done = λ a h. h;
  bare = λ a h. h;
  root = refl;
  lists = λ a m u n. n;
  pend = λ a m u p. put_cases (λ o. o ≡ Some (hold S a)) s None S.pend m
      (λ e. absurd (never u (ap (λ (x : Hold). undecided S x.top) (some_is (ap S.pend (sym e) ∙ p) prepared) ∙ closed))) (λ e. p);
  landed = λ a m d l g. l g;
  entry = λ a d n. n;
}

pub grows_agreed : (S : State) (t : ℕ) → Grows S (changed S (Agree t))
grows_agreed S t = record {
  begun = λ a b. b;
  plan = λ a b. refl;
  falls = λ a w u. u;
  sealed = λ a h. h;
  gone = λ a h. h;
  conf = λ a h. marked_rises S t S.conf a h;
  light = λ a h. h;
  done = λ a h. h;
  bare = λ a h. h;
  root = refl;
  lists = λ a m u n. n;
  pend = λ a s u p. p;
  landed = λ a m d l g. l g;
  entry = λ a d n. n;
}

pub grows_passed : (S : State) (t : ℕ) → Grows S (changed S (Pass t))
grows_passed S t = record {
  begun = λ a b. b;
  plan = λ a b. refl;
  falls = λ a w u. u;
  sealed = λ a h. h;
  gone = λ a h. h;
  conf = λ a h. h;
  light = λ a h. marked_rises S t S.light a h;
  done = λ a h. h;
  bare = λ a h. h;
  root = refl;
  lists = λ a m u n. n;
  pend = λ a s u p. p;
  landed = λ a m d l g. l g;
  entry = λ a d n. n;
}

pub grows_entered : (S : State) (t : ℕ) → decided S t ≡ false → Grows S (changed S (Enter t))
grows_entered S t undone = record {
  begun = λ a b. b;
  plan = λ a b. refl;
  falls = λ a w u. u;
  sealed = λ a h. h;
  gone = λ a h. h;
  conf = λ a h. marked_rises S t S.conf a h;
  light = λ a h. h;
  done = λ a h. h;
  bare = λ a h. h;
  root = refl;
  lists = λ a m u n. n;
  pend = λ a s u p. p;
  landed = λ a m d l g. l g;
  entry = λ a d n h e top. let same : entry_hold S t ≡ h = some_is refl e in
      never (ap (decided S) (ap (λ (x : Hold). x.top) same ∙ top) ∙ d) undone;
}

pub grows_entry_moved : (S : State) (h : Hold) → Grows S (changed S (MoveEntry h))
grows_entry_moved S h = record {
  begun = λ a b. b;
  plan = λ a b. refl;
  falls = λ a w u. u;
  sealed = λ a h. h;
  gone = λ a h. h;
  conf = λ a h. h;
  light = λ a h. h;
  done = λ a h. h;
  bare = λ a h. h;
  root = refl;
  lists = λ a m u n. n;
  pend = λ a s u p. p;
  landed = λ a m d l g. l g;
  entry = λ a d n. n;
}

pub grows_entry_finished : (S : State) (h : Hold) → Grows S (changed S (FinishEntry h))
grows_entry_finished S h = record {
  begun = λ a b. b;
  plan = λ a b. refl;
  falls = λ a w u. u;
  sealed = λ a h. h;
  gone = λ a h. h;
  conf = λ a h. h;
  light = λ a h. h;
  done = λ a h. h;
  bare = λ a h. h;
  root = refl;
  lists = λ a m u n. n;
  pend = λ a s u p. p;
  landed = λ a m d l g. l g;
  entry = λ a d n k e. let x : ◌≡◌ {A = Option Hold} None (Some k) = e in cc;
}

pub grows_entry_dropped : (S : State) (h : Hold) → Grows S (changed S (DropEntry h))
grows_entry_dropped S h = record {
  begun = λ a b. b;
  plan = λ a b. refl;
  falls = λ a w u. u;
  sealed = λ a h. h;
  gone = λ a h. h;
  conf = λ a h. h;
  light = λ a h. h;
  done = λ a h. h;
  bare = λ a h. h;
  root = refl;
  lists = λ a m u n. n;
  pend = λ a s u p. p;
  landed = λ a m d l g. l g;
  entry = λ a d n k e. let x : ◌≡◌ {A = Option Hold} None (Some k) = e in cc;
}
