-- In which steps calls and includes wait, behind all that a coordinator does.
use Rattle.arj_law_parts.proofs.Words
use Words.{◌≢◌, ◌++◌, zero, suc, ◌≡◌, ◌∙◌, ◌⊎◌, ◌+◌, ◌==◌, ℕ, List, [], ◌∷◌, Bool, true, false, cond, Option, Some, None, refl, sym, ap}
use Words.{subst, inl, inr, ⊎_elim, ⊤, Asked, Binding, Header, Kind, Label, Path, Uid, Reply, actor, again_all, begin_action, call_steps}
use Words.{doomed_by, goes_on, heard, heard_call, kept_at, next_req, renewed, root_heard, root_lost, root_moved, step_call, waits_for_call}
use Words.{At, AtActivate, AtBind, AtInvoke, AtLoad, AtNote, CallEnd, CallStep, Ended, Goal, Include, Known, On, Run, Steps, activated_by}
use Words.{answered, bound_by, given_up, live_known, load_from, made_by, made_known, or_lost, other_binding, same_binding, start, with_inc}
use Words.{write_known, plan_of, Calling, Committing, Coord, Doing, Idle, doing_of, is_free, keeping_of, new_coord, on_doing, on_root}
use Words.{root_at, with_keeping, Intent, acked, binding_eq, binding_less, unbound, Input, acts, parent_of, refusal_up, Tree, at_place}
use Words.{doomed_at, ended_at, is_own, root_of, uses_object, Post}
use Words.bound
use Words.invoked
use Words.loaded
use Words.recorded
use Words.calls
use Words.input
use Rattle.arj_law_lock_view.proofs.Terms.{on_cases, doomed_same, uses_same, get_more, end_tree_on, AnswersWaiting}
use Rattle.arj_law_lock_view.proofs.facts
use facts.{Kept.Place}
use facts.Pieces.{IsStep, Pieces, acked_so, acts_so, again_so, heard_so}

-- ---- the step behind an answer

-- It is new by the answer: it asks for no binding, and a state that it takes to a server came with it.
abbrev pub IsNewAt : Reply → At → Type 0
IsNewAt r (AtBind avoid) = ⊥
IsNewAt r (AtActivate k st) = r ≡ Reply.Loaded (loaded.State st)
IsNewAt r at = ⊤

module _ (at : At) (r : Reply) where
  abbrev IsStepBehind : CallStep → Type 0
  IsStepBehind (On n) = (n ≡ at) ⊎ IsNewAt r n
  IsStepBehind (Ended e) = ⊤

  module _ (n : At) (new : IsNewAt r n) where
    named_so : (i : ℕ) (kept : Known) (o : Option ℕ) → IsStepBehind (with_inc i kept n o).step
    named_so i kept None = inr new
    named_so i kept (Some first) = by (first == i)
      where
        by : (b : Bool) → IsStepBehind
            (cond b (calls.moves (Some kept) n) (calls.finds (Some kept) (calls.Changed kept.server (calls.two_incs first i)))).step
        by true = inr new
        by false = tt

    same_so : (old k : Known) (o : Option ℕ) → IsStepBehind (same_binding old k n o).step
    same_so old k None = inr new
    same_so old k (Some i) = named_so i (calls.named_again old k) old.inc

    other_so : (free : Bool) (old k : Known) → IsStepBehind (other_binding free old k n).step
    other_so true old k = by (binding_less old.binding k.binding)
      where
        by : (b : Bool) → IsStepBehind
            (cond b (calls.moves (Some k) n) (calls.finds (Some old) (calls.Changed 1 (calls.two_bindings old.binding k.binding)))).step
        by true = inr new
        by false = tt
    other_so false old k = tt

    bound_so : (free : Bool) (k : Known) (kept : Option Known) → IsStepBehind (bound_by free k n kept).step
    bound_so free k None = inr new
    bound_so free k (Some old) = by (binding_eq old.binding k.binding)
      where
        by : (b : Bool) → IsStepBehind (cond b (same_binding old k n k.inc) (other_binding free old k n)).step
        by true = same_so old k k.inc
        by false = other_so free old k

  made_so : (free : Bool) (k : Known) (kept : Option Known) (stores : List ℕ) → IsStepBehind (made_by free k kept (load_from k stores)).step
  made_so free k kept [] = tt
  made_so free k kept (s ∷ ss) = bound_so (AtLoad k s ss) tt free k kept

  lost_so : (k : Known) (kept : Option Known) (stores : List ℕ) → IsStepBehind (or_lost kept (load_from k stores)).step
  lost_so k kept [] = tt
  lost_so k kept (s ∷ ss) = inr tt

  active_so : (k : Known) (i : ℕ) (kept : Option Known) → IsStepBehind (activated_by k i kept).step
  active_so k i None = inr tt
  active_so k i (Some old) = by (binding_eq old.binding k.binding)
    where
      by : (b : Bool) → IsStepBehind (cond b (with_inc i old (AtNote k i) old.inc) (calls.moves (Some old) (AtNote k i))).step
      by true = named_so (AtNote k i) tt i old old.inc
      by false = inr tt

-- it is that step still, or a new one
step_behind : (free : Bool) (kept : Option Known) (g : Goal) (at : At) (r : Reply) → IsStepBehind at r (answered free kept g at r).step
step_behind free kept g (AtBind avoid) (Reply.Bound (bound.Live b server i n stores)) = bound_so (AtBind avoid) (Reply.Bound
    (bound.Live b server i n stores)) (AtInvoke (live_known b server i n stores) i) tt free (live_known b server i n stores) kept
step_behind free kept g (AtBind avoid) (Reply.Bound (bound.Make b server n stores)) =
    made_so (AtBind avoid) (Reply.Bound (bound.Make b server n stores)) free (made_known b server n stores) kept stores
step_behind free kept g (AtBind avoid) (Reply.Bound (bound.Write n stores)) =
    lost_so (AtBind avoid) (Reply.Bound (bound.Write n stores)) (write_known n stores) kept stores
step_behind free kept g (AtBind avoid) (Reply.Bound (bound.Conflict holder m)) = tt
step_behind free kept g (AtBind avoid) (Reply.Loaded r) = inl refl
step_behind free kept g (AtBind avoid) (Reply.Activated r) = inl refl
step_behind free kept g (AtBind avoid) (Reply.Noted r) = inl refl
step_behind free kept g (AtBind avoid) (Reply.Invoked r) = inl refl
step_behind free kept g (AtBind avoid) (Reply.Voted r) = inl refl
step_behind free kept g (AtBind avoid) (Reply.Prepared r) = inl refl
step_behind free kept g (AtBind avoid) (Reply.Confirmed r) = inl refl
step_behind free kept (Run o) (AtLoad k n rest) (Reply.Loaded (loaded.State st)) = inr refl
step_behind free kept (Include s) (AtLoad k n rest) (Reply.Loaded (loaded.State st)) = tt
step_behind free kept g (AtLoad k n rest) (Reply.Loaded (loaded.InDoubt q)) = tt
step_behind free kept g (AtLoad k n rest) (Reply.Bound r) = inl refl
step_behind free kept g (AtLoad k n rest) (Reply.Activated r) = inl refl
step_behind free kept g (AtLoad k n rest) (Reply.Noted r) = inl refl
step_behind free kept g (AtLoad k n rest) (Reply.Invoked r) = inl refl
step_behind free kept g (AtLoad k n rest) (Reply.Voted r) = inl refl
step_behind free kept g (AtLoad k n rest) (Reply.Prepared r) = inl refl
step_behind free kept g (AtLoad k n rest) (Reply.Confirmed r) = inl refl
step_behind free kept g (AtActivate k st) (Reply.Activated i) = active_so (AtActivate k st) (Reply.Activated i) k i kept
step_behind free kept g (AtActivate k st) (Reply.Bound r) = inl refl
step_behind free kept g (AtActivate k st) (Reply.Loaded r) = inl refl
step_behind free kept g (AtActivate k st) (Reply.Noted r) = inl refl
step_behind free kept g (AtActivate k st) (Reply.Invoked r) = inl refl
step_behind free kept g (AtActivate k st) (Reply.Voted r) = inl refl
step_behind free kept g (AtActivate k st) (Reply.Prepared r) = inl refl
step_behind free kept g (AtActivate k st) (Reply.Confirmed r) = inl refl
step_behind free kept g (AtNote k i) (Reply.Noted recorded.Yes) = inr tt
step_behind free kept g (AtNote k i) (Reply.Noted (recorded.Changed w)) = tt
step_behind free kept g (AtNote k i) (Reply.Bound r) = inl refl
step_behind free kept g (AtNote k i) (Reply.Loaded r) = inl refl
step_behind free kept g (AtNote k i) (Reply.Activated r) = inl refl
step_behind free kept g (AtNote k i) (Reply.Invoked r) = inl refl
step_behind free kept g (AtNote k i) (Reply.Voted r) = inl refl
step_behind free kept g (AtNote k i) (Reply.Prepared r) = inl refl
step_behind free kept g (AtNote k i) (Reply.Confirmed r) = inl refl
step_behind free kept g (AtInvoke k i) (Reply.Invoked (invoked.Answered a)) = tt
step_behind free kept g (AtInvoke k i) (Reply.Invoked (invoked.Conflict holder m)) = tt
step_behind free kept g (AtInvoke k i) (Reply.Invoked (invoked.Changed w)) = tt
step_behind free kept g (AtInvoke k i) (Reply.Bound r) = inl refl
step_behind free kept g (AtInvoke k i) (Reply.Loaded r) = inl refl
step_behind free kept g (AtInvoke k i) (Reply.Activated r) = inl refl
step_behind free kept g (AtInvoke k i) (Reply.Noted r) = inl refl
step_behind free kept g (AtInvoke k i) (Reply.Voted r) = inl refl
step_behind free kept g (AtInvoke k i) (Reply.Prepared r) = inl refl
step_behind free kept g (AtInvoke k i) (Reply.Confirmed r) = inl refl

-- ---- a coordinator

-- each step in which a call or an include waits is so
module _ (P : Steps → Type 0) where
  abbrev pub AreWaiting : Coord → Type 0
  AreWaiting e = (u : Uid) (d : Doing) (s : Steps) → doing_of u e ≡ Some d → d.now ≡ Calling s → P s

  waiting_own : (e : Coord) (v : Tree) → ((u : Uid) → is_own u v ≡ is_own u e.tree) → AreWaiting e → AreWaiting (record e { tree = v })
  waiting_own e v own all u d s found is = all u d s ((λ i. cond (sym (own u) i) (at_place u.num e.doings) None) ∙ found) is

  waiting_do : (u : Uid) (f : Doing → Doing) (e : Coord) → ((d : Doing) (s : Steps) → doing_of u e ≡ Some d → (f d).now ≡ Calling s → P s) →
      AreWaiting e → AreWaiting (on_doing u f e)
  waiting_do u f e its all w d s found is = ⊎_elim (λ same. its same.1 s (ap (λ v. doing_of v e) (sym same.0) ∙ same.2)
      (ap (λ (z : Doing). z.now) same.3 ∙ is)) (λ other. all w d s other.1 is) (on_cases u f e w d found)

  waiting_pieces : (c : Coord) → AreWaiting c → Pieces c AreWaiting
  waiting_pieces c start = record {
    start = start;
    end_tree = λ u how e all. let g = end_tree_on u how e in waiting_own e (ended_at u how e.tree) g.own all;
    idle = λ u e all. waiting_do u (λ (d : Doing). record d { now = Idle }) e (λ d s found is. absurd (cc is)) all;
    took = λ u ns e all. waiting_do u (λ (d : Doing). record d { took = ns }) e (λ d s found is. all u d s found is) all;
    commits = λ u m e planned all.
        waiting_do u (λ (d : Doing). record d { req = (plan_of m).req; now = Committing m }) e (λ d s found is. absurd (cc is)) all;
    asks = λ p req a e rooted all u d s found is. all u d s found is;
    decides = λ p e rooted all u d s found is. all u d s found is;
    telling = λ i e all u d s found is. all u d s found is;
  }

  waiting_goes : (s : Steps) (e : Coord) → P s → AreWaiting e → AreWaiting (goes_on s e).part
  waiting_goes s e its all = λ u d w found is.
      waiting_do (actor s.path) (λ (d : Doing). record d { req = s.req; now = Calling s }) e (λ d w found is. one w is) all u d w found is
    where
      one : (w : Steps) → Calling s ≡ Calling w → P w
      one w is = let same : s ≡ w = cc is in subst P same its

  waiting_step : (s : Steps) (n : CallStep) (e : Coord) → ((at : At) → n ≡ On at → P (record s { req = s.req + 1; at = at })) →
      AreWaiting e → AreWaiting (step_call s n e).part
  waiting_step s (On at) e next all = waiting_goes (record s { req = s.req + 1; at = at }) e (next at refl) all
  waiting_step s (Ended g) e next all = by g
    where
      told : Coord
      told = on_root (root_of s.path) (root_heard s g) (on_doing (actor s.path) (λ (d : Doing). record d { now = Idle }) e)

      its : AreWaiting told
      its u d w found is =
          waiting_do (actor s.path) (λ (d : Doing). record d { now = Idle }) e (λ d w found is. absurd (cc is)) all u d w found is

      by : (h : CallEnd) → AreWaiting (doomed_by (actor s.path) h told)
      by (calls.Answered a) = its
      by (calls.Included st) = its
      by (calls.Conflict h x n) = its
      by (calls.Changed n w) = its
      by (calls.Lost n false) = its
      by (calls.Lost n true) = let q = doomed_same (actor s.path) told.tree in
          waiting_own told (doomed_at (actor s.path) told.tree) q.own its

  -- behind an answer, where a step that is new by it is so
  pub waiting_heard : (sent : List Post) (k : ℕ) (c : Coord) (place : Place sent k c) (from : ℕ) (a : Asked) (r : Reply)
      (intents : List (Uid × Intent)) → AnswersWaiting from a r c
      → ((s : Steps) (d : Doing) (req : ℕ) (at : At) → doing_of a.act c ≡ Some d → d.now ≡ Calling s → P s → (at ≡ s.at) ⊎ IsNewAt r at →
      P (record s { req = req; at = at })) → AreWaiting c → AreWaiting (heard from a r intents c).part
  waiting_heard sent k c place from a r intents fits next all =
      heard_so sent k c place AreWaiting (waiting_pieces c all) from a r intents fits calls_on
    where
      calls_on : (s : Steps) → IsStep c s → waits_for_call from a r s ≡ true → actor s.path ≡ a.act → AreWaiting (heard_call s r c).part
      calls_on s step on who =
          let m = answered (is_free (root_of s.path) (actor s.path) s.x c) (kept_at s c) s.goal s.at r in
          waiting_step s m.step (on_root (root_of s.path) (root_moved s r m) c) (λ at is. next s step.doing (s.req + 1)
          at (ap (λ v. doing_of v c) (sym who) ∙ step.found) step.now (all (actor s.path) step.doing s step.found step.now)
          (subst (IsStepBehind s.at r) is (step_behind (is_free (root_of s.path) (actor s.path) s.x c) (kept_at s c) s.goal s.at r)))
          (λ u d w found is. all u d w found is)

  -- behind an input, where a step that starts is so, and one that goes on by a giveup
  pub waiting_acts : (sent : List Post) (k : ℕ) (c : Coord) (place : Place sent k c) (hd : Header) (i : Input) (intents : List
      (Uid × Intent)) → refusal_up hd i c ≡ None → ((l : Label) (how : Kind) (parent : Option Label) → i ≢ input.Begin l how parent)
      → ((p : Path) (x : ℕ) (g : Goal) (known : Option Known) (avoid : Binding) (req : ℕ) → P (start p x g known avoid req)) →
      ((s : Steps) (req : ℕ) (at : At) → P s → given_up s.at ≡ On at → P (record s { req = req; at = at })) → AreWaiting c →
      AreWaiting (acts i intents c).part
  waiting_acts sent k c place hd i intents free other starts lost all =
      acts_so sent k c place AreWaiting (waiting_pieces c all) hd i intents free other
      (λ b x o found none.
      waiting_goes (call_steps b.path x o (next_req (actor b.path) c) (root_at (root_of b.path) c) c (renewed (is_free (root_of b.path)
      (actor b.path) x c) (keeping_of x (root_at (root_of b.path) c)) (keeping_of x (root_at (root_of b.path) c)).kept))
      (on_root (root_of b.path) (with_keeping x (renewed (is_free (root_of b.path) (actor b.path) x c) (keeping_of x (root_at
      (root_of b.path) c)) (keeping_of x (root_at (root_of b.path) c)).kept)) (record c { tree = uses_object b.path x c.tree }))
      (starts b.path x (Run o) _ _ (next_req (actor b.path) c)) (λ u d w found is. waiting_uses b.path x u d w found is))
      (λ b x s found none. waiting_goes (start b.path x (Include s) None unbound (next_req (actor b.path) c))
      (record c { tree = uses_object b.path x c.tree }) (starts b.path x (Include s) None unbound (next_req (actor b.path) c))
      (waiting_uses b.path x))
      (λ s step. waiting_step s (given_up s.at) (on_root (root_of s.path) (root_lost s (given_up s.at)) c)
      (λ at is. lost s (s.req + 1) at (all (actor s.path) step.doing s step.found step.now) is) (λ u d w found is. all u d w found is))
    where
      waiting_uses : (p : Path) (x : ℕ) → AreWaiting (record c { tree = uses_object p x c.tree })
      waiting_uses p x = let q = uses_same p x c.tree in waiting_own c (uses_object p x c.tree) q.own all

  pub waiting_acked : (sent : List Post) (k : ℕ) (c : Coord) (place : Place sent k c) (from : ℕ) (u : Uid) (intents : List (Uid × Intent)) →
      AreWaiting c → AreWaiting (acked from u intents c).part
  waiting_acked sent k c place from u intents all = acked_so sent k c place AreWaiting (waiting_pieces c all) from u intents

  pub waiting_again : (sent : List Post) (k : ℕ) (c : Coord) (place : Place sent k c) → AreWaiting c →
      AreWaiting (again_all c.doings c).part
  waiting_again sent k c place all = again_so sent k c place AreWaiting (waiting_pieces c all)

  pub waiting_begins : (l : Label) (how : Kind) (parent : Option Label) (c : Coord) → AreWaiting c →
      AreWaiting (begin_action l how parent (parent_of parent c) c).part
  waiting_begins l how parent c all u d w found is = ⊎_elim (λ old. all u d w old is)
      (λ idle. absurd (let no_way : Idle ≡ Calling w = sym idle ∙ is in cc no_way)) (was (is_own u c.tree) u.num found)
    where
      fresh : Doing
      fresh = record { label = l; req = 0; now = Idle; took = [] }

      was : (b : Bool) (j : ℕ) → cond b (at_place j (c.doings ++ fresh ∷ [])) None ≡ Some d →
          (cond b (at_place j c.doings) None ≡ Some d) ⊎ (d.now ≡ Idle)
      was true zero at = absurd (cc at)
      was true (suc j) at = ⊎_elim (λ old. inl old) (λ its. inr (ap (λ (z : Doing). z.now) (sym its.1))) (get_more j fresh d c.doings at)
      was false j at = absurd (cc at)

  pub waiting_new : (node inc : ℕ) (telling : List (Uid × Intent)) → AreWaiting (record (new_coord node inc) { telling = telling })
  waiting_new node inc telling u d w found is = absurd (none (is_own u (let c = new_coord node inc in c.tree)) u.num found)
    where
      none : (b : Bool) (j : ℕ) → cond b (at_place j []) None ≡ Some d → ⊥
      none true zero at = cc at
      none true (suc j) at = cc at
      none false j at = cc at
