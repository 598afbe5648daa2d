-- Values through the steps that leave each copy alone.
use Rattle.arj_law_lock.proofs.Terms
use Terms.{◌≡◌, ◌≢◌, ◌≤◌, ◌<◌, ◌⊎◌, ℕ, List, ◌∷◌, true, inl, inr, refl, sym, ap, subst, arith, Act, In, Entry, Server, Request, Message}
use Terms.{Made, Activate, Invoke, Refused, Changed, State, Naming, at, at_act, BindNew, ConfirmTop, Keep, Name, Included, Load, Refuse}
use Terms.{Change, VoteTop, Guard, next, max, Ballot, ballot}
use Rattle.arj_law_lock.proofs.machine
use machine.{Lasts.asked_on, Later.Later, Paths.at_cases, Paths.act_cases, Paths.act_here, ServerSteps.there, ValueClaims.Says}
use machine.{ValueClaims.Values, ValueLasts.ValueLater}
use machine.Claims.{server_of, Reached, IsPast, Asked, Holds}
use machine.ValueJoin.{Still, still_self, join_still, whole_on}
use Rattle.arj_law_lock.specs.machine.Steps.{IsElsewhere}

-- Values through the steps that leave each copy alone.

-- Actions stay as they are.
pub same_actions : (s : State) (n : Naming) (ms : List Message) → ValueLater s (record s { naming = n; net = ms })
same_actions s n ms = record {
  initial = refl;
  request = λ k e a. omega arith;
  clean = λ a c. c;
  doomed = λ a d. d;
  spoils = λ a c. inl c;
  news = λ a act f. inl f;
  tops = λ m is e. inl e;
  wait_back = λ a k l e w. (e, w);
}

pub value_naming : (s : State) (n : Naming) (ms : List Message) → Holds s → Values s → Later s (record s { naming = n; net = ms }) →
    n.recorded ≡ s.naming.recorded → ((m : Message) → In m ms → In m s.net ⊎ Says (record s { naming = n; net = ms }) m) →
    Values (record s { naming = n; net = ms })
value_naming s n ms h v later e mail =
    join_still h v later (same_actions s n ms) v.doomed v.roots refl e (λ k. still_self (s.server k)) v.waits v.path (λ c i alive one.
    whole_on h v later (same_actions s n ms) v.doomed v.roots c i alive one) (λ f act w fine k i p up. w) (λ q i e' w. inl (e', w)) mail

pub value_send : (s : State) (m : Message) → Holds s → Values s → Later s (record s { net = m ∷ s.net }) →
    Says (record s { net = m ∷ s.net }) m → Values (record s { net = m ∷ s.net })
value_send s m h v later says = value_naming s s.naming (m ∷ s.net) h v later refl mail
  where
    mail : (x : Message) → In x (m ∷ s.net) → In x s.net ⊎ Says (record s { net = m ∷ s.net }) x
    mail x (inl is) = inr (subst (λ (y : Message). Says (record s { net = m ∷ s.net }) y) (sym is) says)
    mail x (inr i) = inl i

-- the same with a message that says nothing of values
quiet_mail : (s t : State) (m : Message) → t.net ≡ m ∷ s.net → Says t m → (x : Message) → In x t.net → In x s.net ⊎ Says t x
quiet_mail s t m e says x i = by (subst (λ (ms : List Message). In x ms) e i)
  where
    by : In x (m ∷ s.net) → In x s.net ⊎ Says t x
    by (inl is) = inr (subst (λ (y : Message). Says t y) (sym is) says)
    by (inr j) = inl j

pub value_change : (s : State) (n : ℕ) (q : Request) → Guard (Change n q) s → Holds s → Values s → Later s (next (Change n q) s) →
    Values (next (Change n q) s)
value_change s n q guard h v later = value_send s (Changed q.binding) h v later (
  asked.2,
  past (subst (λ (x : Server). Reached x (s.binding q.binding).incarnation q.binding) (ap s.server guard.1)
      (h.bindings q.binding asked.2).reached) guard.2,
)
  where
    asked : Asked s q
    asked = h.mail (Invoke q) guard.0

    past : Reached (s.server n) (s.binding q.binding).incarnation q.binding →
        IsElsewhere (s.server n) (s.binding q.binding).incarnation q.binding → IsPast s q.binding
    past r e = subst (λ (x : Server). ((s.binding q.binding).incarnation < x.incarnation)
        ⊎ (((s.binding q.binding).incarnation ≡ x.incarnation) × (q.binding < x.active))) (sym (ap s.server guard.1)) (by r e)
      where
        by : Reached (s.server n) (s.binding q.binding).incarnation q.binding → IsElsewhere (s.server n) (s.binding q.binding).incarnation
            q.binding → ((s.binding q.binding).incarnation < (s.server n).incarnation)
            ⊎ (((s.binding q.binding).incarnation ≡ (s.server n).incarnation) × (q.binding < (s.server n).active))
        by (inl l) f = inl l
        by (inr (e', l)) (inl f) = absurd (f (sym e'))
        by (inr (e', l)) (inr f) = inr (e', omega (arith, l, f))

pub value_load : (s : State) (b x : ℕ) → Guard (Load b x) s → Holds s → Values s → Later s (next (Load b x) s) → Values (next (Load b x) s)
value_load s b x guard h v later = value_send s (Activate b x) h v later (λ current.
    (guard.2 (record { present = current.present; unrecorded = current.unrecorded; untold = current.untold; last = current.last })).value)

-- One server changes, and no copy or log.
module _ (s : State) (n : ℕ) (x : Server) (ys : Act → ℕ) (vs : Act → Ballot) (ms : List Message) where
  pub same_server_actions : ((a : Act) → (s.server n).request a ≤ x.request a) ⊎ ((s.server n).incarnation < x.incarnation) →
      ValueLater s (record s { server = at s.server n x; yes = ys; vote = vs; net = ms })
  same_server_actions rises = record {
    initial = refl;
    request = at_cases (λ (k : ℕ) (w : Server). (s.server k).incarnation ≡ w.incarnation → (a : Act) →
        (s.server k).request a ≤ w.request a) s.server n x (λ e a. by e a rises) (λ k f e a. omega arith);
    clean = λ a c. c;
    doomed = λ a d. d;
    spoils = λ a c. inl c;
    news = λ a act f. inl f;
    tops = λ m is e. inl e;
    wait_back = λ a k l e w. (e, w);
  }
    where
      by : (s.server n).incarnation ≡ x.incarnation → (a : Act) → ((a : Act) → (s.server n).request a ≤ x.request a)
          ⊎ ((s.server n).incarnation < x.incarnation) → (s.server n).request a ≤ x.request a
      by e a (inl f) = f a
      by e a (inr l) = absurd (omega (arith, e, l))

  pub value_server : Holds s → Values s → Later s (record s { server = at s.server n x; yes = ys; vote = vs; net = ms }) → Still (s.server
      n) x → ((m : Message) → In m ms → In m s.net ⊎ Says (record s { server = at s.server n x; yes = ys; vote = vs; net = ms }) m) →
      Values (record s { server = at s.server n x; yes = ys; vote = vs; net = ms })
  value_server h v later still mail = join_still h v later w v.doomed v.roots refl refl
      (at_cases (λ (k : ℕ) (y : Server). Still (s.server k) y) s.server n x still (λ k f. still_self (s.server k))) v.waits v.path
      (λ c i alive one. whole_on h v later w v.doomed v.roots c i alive one) (λ f act z fine k i p up. z) (λ q i e' z. inl (e', z)) mail
    where
      w : ValueLater s (record s { server = at s.server n x; yes = ys; vote = vs; net = ms })
      w = same_server_actions (inl still.request)

pub value_refuse : (s : State) (n : ℕ) (q : Request) → Guard (Refuse n q) s → Holds s → Values s → Later s (next (Refuse n q) s) →
    Values (next (Refuse n q) s)
value_refuse s n q guard h v later = value_server s n x s.yes s.vote ms h v later
    (record { active = refl; base = refl; log = refl; rows = λ a. omega arith; request = rise }) mail
  where
    x : Server
    x = record (s.server n) { request = at_act (s.server n).request q.act q.number }

    ms : List Message
    ms = Refused q ∷ s.net

    t : State
    t = next (Refuse n q) s

    asked : Asked s q
    asked = h.mail (Invoke q) guard.0

    rise : (a : Act) → (s.server n).request a ≤ x.request a
    rise = act_cases (λ (a : Act) (k : ℕ). (s.server n).request a ≤ k) (s.server n).request q.act q.number (let l = guard.2 in
        omega (arith, l)) (λ a f. omega arith)

    here : server_of t q.binding ≡ x
    here = there s n x s.yes s.vote ms q.binding guard.1.0

    mail : (m : Message) → In m ms → In m s.net ⊎ Says t m
    mail m (inl is) = inr (subst (λ (y : Message). Says t y) (sym is) (
      asked_on h later q asked,
      inr (subst (λ (y : Server). (q.number ≤ y.request q.act) × ((e : Entry) → In e y.log → e.by ≡ q.act → e.request ≢ q.number))
          (sym here) ((let e = act_here (s.server n).request q.act q.number in omega (arith, e)), less)),
    ))
      where
        less : (e : Entry) → In e (s.server n).log → e.by ≡ q.act → e.request ≢ q.number
        less e i a k = let l = (v.logs n e i).request in let r : (s.server n).request e.by ≡ (s.server n).request q.act = ap
            (s.server n).request a in let g = guard.2 in omega (arith, l, r, g, k)
    mail m (inr i) = inl i

pub value_vote : (s : State) (n : ℕ) (m : Act) (b i : ℕ) → Holds s → Values s → Later s (next (VoteTop n m b i) s) →
    Values (next (VoteTop n m b i) s)
value_vote s n m b i h v later = value_server s n (record (s.server n) { voted = at_act (s.server n).voted m true })
    (at_act s.yes m (max (s.yes m) b)) (at_act s.vote m (ballot s n m b)) s.net h v later
    (record { active = refl; base = refl; log = refl; rows = λ a. omega arith; request = λ a. omega arith }) (λ x j. inl j)

-- Naming and coordinators where actions stay as they are.

pub value_bind_new : (s : State) (m : Act) (b k : ℕ) → Holds s → Values s → Later s (next (BindNew m b k) s) →
    Values (next (BindNew m b k) s)
value_bind_new s m b k h v later = join_still h v later w v.doomed v.roots refl refl (λ n. still_self (s.server n)) v.waits v.path
    (λ c i alive one. whole_on h v later w v.doomed v.roots c i alive one) (λ f act z fine e i p up. z) (λ q i e' z. inl (e', z))
    (quiet_mail s (next (BindNew m b k) s) (Made m b) refl tt)
  where
    w : ValueLater s (next (BindNew m b k) s)
    w = record {
      initial = refl;
      request = λ n e a. omega arith;
      clean = λ a c. c;
      doomed = λ a d. d;
      spoils = λ a c. inl c;
      news = λ a act f. inl f;
      tops = λ y is e. inl e;
      wait_back = λ a j l e z. (e, z);
    }

pub value_confirm : (s : State) (m : Act) (q : ℕ) → Holds s → Values s → Later s (next (ConfirmTop m q) s) →
    Values (next (ConfirmTop m q) s)
value_confirm s m q h v later = join_still h v later w v.doomed v.roots refl refl (λ n. still_self (s.server n)) v.waits v.path (λ c i alive
    one. whole_on h v later w v.doomed v.roots c i alive one) (λ f act z fine e i p up. z) (λ r i e' z. inl (e', z)) (λ x i. inl i)
  where
    w : ValueLater s (next (ConfirmTop m q) s)
    w = record {
      initial = refl;
      request = λ n e a. omega arith;
      clean = λ a c. c;
      doomed = λ a d. d;
      spoils = λ a c. inl c;
      news = λ a act f. inl f;
      tops = λ y is e. inl e;
      wait_back = λ a j l e z. (e, z);
    }

pub value_keep : (s : State) (m : Act) (b : ℕ) → Holds s → Values s → Later s (next (Keep m b) s) → Values (next (Keep m b) s)
value_keep s m b h v later = join_still h v later w v.doomed v.roots refl refl (λ n. still_self (s.server n)) v.waits v.path (λ c i alive
    one. whole_on h v later w v.doomed v.roots c i alive one) (λ f act z fine e i p up. z) (λ r i e' z. inl (e', z)) (λ x i. inl i)
  where
    w : ValueLater s (next (Keep m b) s)
    w = record {
      initial = refl;
      request = λ n e a. omega arith;
      clean = λ a c. c;
      doomed = λ a d. d;
      spoils = λ a c. inl c;
      news = λ a act f. inl f;
      tops = λ y is e. inl e;
      wait_back = λ a j l e z. (e, z);
    }

pub value_name : (s : State) (b i : ℕ) → Holds s → Values s → Later s (next (Name b i) s) → Values (next (Name b i) s)
value_name s b i h v later = join_still h v later w v.doomed v.roots refl refl (λ n. still_self (s.server n)) v.waits v.path (λ c j alive
    one. whole_on h v later w v.doomed v.roots c j alive one) (λ f act z fine e j p up. z) (λ r j e' z. inl (e', z)) (λ x j. inl j)
  where
    w : ValueLater s (next (Name b i) s)
    w = record {
      initial = refl;
      request = λ n e a. omega arith;
      clean = λ a c. c;
      doomed = λ a d. d;
      spoils = λ a c. inl c;
      news = λ a act f. inl f;
      tops = λ y is e. inl e;
      wait_back = λ a j l e z. (e, z);
    }

pub value_included : (s : State) (a : Act) (g p : ℕ) → Holds s → Values s → Later s (next (Included a g p) s) →
    Values (next (Included a g p) s)
value_included s a g p h v later = join_still h v later w v.doomed v.roots refl refl (λ n. still_self (s.server n)) v.waits v.path (λ c j
    alive one. whole_on h v later w v.doomed v.roots c j alive one) (λ f act z fine e j q up. z) (λ r j e' z. inl (e', z)) (λ x j. inl j)
  where
    w : ValueLater s (next (Included a g p) s)
    w = record {
      initial = refl;
      request = λ n e b. omega arith;
      clean = λ b c. c;
      doomed = λ b d. d;
      spoils = λ b c. inl c;
      news = λ b act f. inl f;
      tops = λ y is e. inl e;
      wait_back = λ b j l e z. (e, z);
    }
