-- How many requests an action may still come to by answers, at each step of a call and of a commit.
use Rattle.arj_law_parts.proofs.Words
use Words.{◌≡◌, ◌≤◌, ◌<◌, ◌+◌, ◌==◌, ℕ, Bool, true, false, cond, List, [], ◌∷◌, Option, Some, None, refl, sym, subst, arith, ⊤}
use Words.{Reply, ask_kind, reply_kind}
use Words.{Now, Idle, Calling, Committing}
use Words.{At, AtActivate, AtBind, AtInvoke, AtLoad, AtNote, CallStep, Changed, Ended, On, Goal, Include, Known, Run, answered}
use Words.{activated_by, bound_by, live_known, load_from, made_by, made_known, or_lost, other_binding, same_binding, with_inc, write_known}
use Words.{Aborts, Asks, CommitStep, Confirming, Decides, Machine, Plan, Preparing, Stays, Used, Voting, begin_confirm, begin_prepare}
use Words.{begin_vote, marks_store, marks_stores, plan_of, stores_left, targets_of, votes_left, with_states}
use Words.{with_number, without_number, binding_eq, binding_less}
use Words.bound
use Words.calls
use Words.commit
use Words.confirmed
use Words.invoked
use Words.loaded
use Words.prepared
use Words.recorded
use Words.voted

-- ---- what is left to ask

-- the requests that a step may still lead to by answers
abbrev pub left_at : At → ℕ
left_at (AtBind avoid) = 4
left_at (AtLoad k s rest) = 3
left_at (AtActivate k st) = 2
left_at (AtNote k i) = 1
left_at (AtInvoke k i) = 0

abbrev pub left_of : Machine → ℕ
left_of (Voting p nodes) = 2
left_of (Preparing p nodes) = 1
left_of (Confirming p) = 0

-- the number up to which answers may lead
abbrev pub reach : Now → ℕ
reach Idle = 0
reach (Calling s) = s.req + left_at s.at
reach (Committing m) = (plan_of m).req + left_of m

-- ---- a step of a call

-- it goes on to a step that has less left, or ends
abbrev pub HasLess : ℕ → CallStep → Type 0
HasLess n (On at) = left_at at < n
HasLess n (Ended e) = ⊤

module _ (n : ℕ) (at : At) (less : left_at at < n) where
  named_less : (i : ℕ) (kept : Known) (o : Option ℕ) → HasLess n (with_inc i kept at o).step
  named_less i kept None = less
  named_less i kept (Some first) = by (first == i)
    where
      by : (b : Bool) → HasLess n (cond b (calls.moves (Some kept) at) (calls.finds (Some kept)
          (calls.Changed kept.server (calls.two_incs first i)))).step
      by true = less
      by false = tt

  same_less : (old k : Known) (o : Option ℕ) → HasLess n (same_binding old k at o).step
  same_less old k None = less
  same_less old k (Some i) = named_less i (calls.named_again old k) old.inc

  other_less : (free : Bool) (old k : Known) → HasLess n (other_binding free old k at).step
  other_less true old k = by (binding_less old.binding k.binding)
    where
      by : (b : Bool) → HasLess n (cond b (calls.moves (Some k) at) (calls.finds (Some old)
          (calls.Changed 1 (calls.two_bindings old.binding k.binding)))).step
      by true = less
      by false = tt
  other_less false old k = tt

  bound_less : (free : Bool) (k : Known) (kept : Option Known) → HasLess n (bound_by free k at kept).step
  bound_less free k None = less
  bound_less free k (Some old) = by (binding_eq old.binding k.binding)
    where
      by : (b : Bool) → HasLess n (cond b (same_binding old k at k.inc) (other_binding free old k at)).step
      by true = same_less old k k.inc
      by false = other_less free old k

made_less : (free : Bool) (k : Known) (kept : Option Known) (stores : List ℕ) → HasLess 4 (made_by free k kept (load_from k stores)).step
made_less free k kept [] = tt
made_less free k kept (s ∷ ss) = bound_less 4 (AtLoad k s ss) (omega arith) free k kept

lost_less : (k : Known) (kept : Option Known) (stores : List ℕ) → HasLess 4 (or_lost kept (load_from k stores)).step
lost_less k kept [] = tt
lost_less k kept (s ∷ ss) = omega arith

active_less : (k : Known) (i : ℕ) (kept : Option Known) → HasLess 2 (activated_by k i kept).step
active_less k i None = omega arith
active_less k i (Some old) = by (binding_eq old.binding k.binding)
  where
    by : (b : Bool) → HasLess 2 (cond b (with_inc i old (AtNote k i) old.inc) (calls.moves (Some old) (AtNote k i))).step
    by true = named_less 2 (AtNote k i) (omega arith) i old old.inc
    by false = omega arith

-- an answer of the kind for which the step waits
pub answer_less : (free : Bool) (kept : Option Known) (x : ℕ) (g : Goal) (at : At) (r : Reply) →
    (reply_kind r == ask_kind (calls.ask_at x g [] at)) ≡ true →
    HasLess (left_at at) (answered free kept g at r).step
answer_less free kept x g (AtBind avoid) (Reply.Bound (bound.Live b server i n stores)) is =
    bound_less 4 (AtInvoke (live_known b server i n stores) i) (omega arith) free (live_known b server i n stores) kept
answer_less free kept x g (AtBind avoid) (Reply.Bound (bound.Make b server n stores)) is = made_less free (made_known b server n stores)
    kept stores
answer_less free kept x g (AtBind avoid) (Reply.Bound (bound.Write n stores)) is = lost_less (write_known n stores) kept stores
answer_less free kept x g (AtBind avoid) (Reply.Bound (bound.Conflict holder m)) is = tt
answer_less free kept x g (AtBind avoid) (Reply.Loaded r) is = absurd (cc is)
answer_less free kept x g (AtBind avoid) (Reply.Activated r) is = absurd (cc is)
answer_less free kept x g (AtBind avoid) (Reply.Noted r) is = absurd (cc is)
answer_less free kept x g (AtBind avoid) (Reply.Invoked r) is = absurd (cc is)
answer_less free kept x g (AtBind avoid) (Reply.Voted r) is = absurd (cc is)
answer_less free kept x g (AtBind avoid) (Reply.Prepared r) is = absurd (cc is)
answer_less free kept x g (AtBind avoid) (Reply.Confirmed r) is = absurd (cc is)
answer_less free kept x (Run o) (AtLoad k n rest) (Reply.Loaded (loaded.State st)) is = omega arith
answer_less free kept x (Include s) (AtLoad k n rest) (Reply.Loaded (loaded.State st)) is = tt
answer_less free kept x g (AtLoad k n rest) (Reply.Loaded (loaded.InDoubt q)) is = tt
answer_less free kept x g (AtLoad k n rest) (Reply.Bound r) is = absurd (cc is)
answer_less free kept x g (AtLoad k n rest) (Reply.Activated r) is = absurd (cc is)
answer_less free kept x g (AtLoad k n rest) (Reply.Noted r) is = absurd (cc is)
answer_less free kept x g (AtLoad k n rest) (Reply.Invoked r) is = absurd (cc is)
answer_less free kept x g (AtLoad k n rest) (Reply.Voted r) is = absurd (cc is)
answer_less free kept x g (AtLoad k n rest) (Reply.Prepared r) is = absurd (cc is)
answer_less free kept x g (AtLoad k n rest) (Reply.Confirmed r) is = absurd (cc is)
answer_less free kept x g (AtActivate k st) (Reply.Activated i) is = active_less k i kept
answer_less free kept x g (AtActivate k st) (Reply.Bound r) is = absurd (cc is)
answer_less free kept x g (AtActivate k st) (Reply.Loaded r) is = absurd (cc is)
answer_less free kept x g (AtActivate k st) (Reply.Noted r) is = absurd (cc is)
answer_less free kept x g (AtActivate k st) (Reply.Invoked r) is = absurd (cc is)
answer_less free kept x g (AtActivate k st) (Reply.Voted r) is = absurd (cc is)
answer_less free kept x g (AtActivate k st) (Reply.Prepared r) is = absurd (cc is)
answer_less free kept x g (AtActivate k st) (Reply.Confirmed r) is = absurd (cc is)
answer_less free kept x g (AtNote k i) (Reply.Noted recorded.Yes) is = omega arith
answer_less free kept x g (AtNote k i) (Reply.Noted (recorded.Changed w)) is = tt
answer_less free kept x g (AtNote k i) (Reply.Bound r) is = absurd (cc is)
answer_less free kept x g (AtNote k i) (Reply.Loaded r) is = absurd (cc is)
answer_less free kept x g (AtNote k i) (Reply.Activated r) is = absurd (cc is)
answer_less free kept x g (AtNote k i) (Reply.Invoked r) is = absurd (cc is)
answer_less free kept x g (AtNote k i) (Reply.Voted r) is = absurd (cc is)
answer_less free kept x g (AtNote k i) (Reply.Prepared r) is = absurd (cc is)
answer_less free kept x g (AtNote k i) (Reply.Confirmed r) is = absurd (cc is)
answer_less free kept x g (AtInvoke k i) (Reply.Invoked (invoked.Answered a)) is = tt
answer_less free kept x g (AtInvoke k i) (Reply.Invoked (invoked.Conflict holder m)) is = tt
answer_less free kept x g (AtInvoke k i) (Reply.Invoked (invoked.Changed w)) is = tt
answer_less free kept x g (AtInvoke k i) (Reply.Bound r) is = absurd (cc is)
answer_less free kept x g (AtInvoke k i) (Reply.Loaded r) is = absurd (cc is)
answer_less free kept x g (AtInvoke k i) (Reply.Activated r) is = absurd (cc is)
answer_less free kept x g (AtInvoke k i) (Reply.Noted r) is = absurd (cc is)
answer_less free kept x g (AtInvoke k i) (Reply.Voted r) is = absurd (cc is)
answer_less free kept x g (AtInvoke k i) (Reply.Prepared r) is = absurd (cc is)
answer_less free kept x g (AtInvoke k i) (Reply.Confirmed r) is = absurd (cc is)

-- ---- a step of a commit

-- it waits or asks within this number
abbrev pub Within : ℕ → CommitStep → Type 0
Within c (Stays m) = (plan_of m).req + left_of m ≤ c
Within c (Asks m) = (plan_of m).req + left_of m ≤ c
Within c (Decides p) = ⊤
Within c (Aborts why p) = ⊤

module _ (c : ℕ) where
  confirm_within : (us : List Used) (p : Plan) → p.req + 1 ≤ c → Within c (begin_confirm us p)
  confirm_within [] p le = tt
  confirm_within (u ∷ us) p le = low p.req le
    where
      low : (r : ℕ) → r + 1 ≤ c → r + 1 + 0 ≤ c
      low r is = omega (arith, is)

  prepare_within : (ns : List ℕ) (p : Plan) → p.req + 2 ≤ c → Within c (begin_prepare ns p)
  prepare_within [] p le = confirm_within p.used p (low p.req le)
    where
      low : (r : ℕ) → r + 2 ≤ c → r + 1 ≤ c
      low r is = omega (arith, is)
  prepare_within (n ∷ ns) p le = low p.req le
    where
      low : (r : ℕ) → r + 2 ≤ c → r + 1 + 1 ≤ c
      low r is = omega (arith, is)

  pub vote_within : (ns : List ℕ) (p : Plan) → p.req + 3 ≤ c → Within c (begin_vote ns p)
  vote_within [] p le = prepare_within (targets_of p) p (low p.req le)
    where
      low : (r : ℕ) → r + 3 ≤ c → r + 2 ≤ c
      low r is = omega (arith, is)
  vote_within (n ∷ ns) p le = low p.req le
    where
      low : (r : ℕ) → r + 3 ≤ c → r + 1 + 2 ≤ c
      low r is = omega (arith, is)

  votes_within : (ns : List ℕ) (p : Plan) → p.req + 2 ≤ c → Within c (votes_left ns p)
  votes_within [] p le = prepare_within (targets_of p) p le
  votes_within (n ∷ ns) p le = le

  stores_within : (ns : List ℕ) (p : Plan) → p.req + 1 ≤ c → Within c (stores_left ns p).step
  stores_within [] p le = confirm_within p.used p le
  stores_within (n ∷ ns) p le = le

  marked_req : (ss : List ℕ) (p : Plan) → (marks_stores ss p).req ≡ p.req
  marked_req [] p = refl
  marked_req (s ∷ ss) p = marked_req ss (marks_store s p)

  pub answer_within : (from : ℕ) (m : Machine) (r : Reply) → (plan_of m).req + left_of m ≤ c → Within c (commit.answered from m r).step
  answer_within from (Voting p left) (Reply.Voted (voted.Yes states)) le =
      votes_within (without_number from left) (record p { changed = with_states states p.changed }) le
  answer_within from (Voting p left) (Reply.Voted (voted.Changed w)) le = tt
  answer_within from (Voting p left) (Reply.Bound r) le = le
  answer_within from (Voting p left) (Reply.Loaded r) le = le
  answer_within from (Voting p left) (Reply.Activated r) le = le
  answer_within from (Voting p left) (Reply.Noted r) le = le
  answer_within from (Voting p left) (Reply.Invoked r) le = le
  answer_within from (Voting p left) (Reply.Prepared r) le = le
  answer_within from (Voting p left) (Reply.Confirmed r) le = le
  answer_within from (Preparing p left) (Reply.Prepared prepared.Yes) le =
      stores_within (without_number from left) (record p { prepared = with_number from p.prepared }) le
  answer_within from (Preparing p left) (Reply.Prepared (prepared.InDoubt x h)) le = stores_within (without_number from left)
      (marks_store from p) le
  answer_within from (Preparing p left) (Reply.Prepared (prepared.Old x v)) le = tt
  answer_within from (Preparing p left) (Reply.Bound r) le = le
  answer_within from (Preparing p left) (Reply.Loaded r) le = le
  answer_within from (Preparing p left) (Reply.Activated r) le = le
  answer_within from (Preparing p left) (Reply.Noted r) le = le
  answer_within from (Preparing p left) (Reply.Invoked r) le = le
  answer_within from (Preparing p left) (Reply.Voted r) le = le
  answer_within from (Preparing p left) (Reply.Confirmed r) le = le
  answer_within from (Confirming p) (Reply.Confirmed confirmed.Yes) le = tt
  answer_within from (Confirming p) (Reply.Confirmed (confirmed.Conflict h m)) le = tt
  answer_within from (Confirming p) (Reply.Confirmed (confirmed.Changed w)) le = tt
  answer_within from (Confirming p) (Reply.Confirmed (confirmed.NoStores x)) le = tt
  answer_within from (Confirming p) (Reply.Confirmed (confirmed.Listed x s)) le = tt
  answer_within from (Confirming p) (Reply.Bound r) le = le
  answer_within from (Confirming p) (Reply.Loaded r) le = le
  answer_within from (Confirming p) (Reply.Activated r) le = le
  answer_within from (Confirming p) (Reply.Noted r) le = le
  answer_within from (Confirming p) (Reply.Invoked r) le = le
  answer_within from (Confirming p) (Reply.Voted r) le = le
  answer_within from (Confirming p) (Reply.Prepared r) le = le

  pub giveup_within : (m : Machine) → (plan_of m).req + left_of m ≤ c → Within c (commit.given_up m).step
  giveup_within (Voting p left) le = tt
  giveup_within (Preparing p left) le = stores_within [] (marks_stores left p) (subst (λ r. r + 1 ≤ c) (sym (marked_req left p)) le)
  giveup_within (Confirming p) le = tt
