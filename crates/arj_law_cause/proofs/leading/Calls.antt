-- What is left to do of a call, behind an answer that it waits for and where it is given up: two frames less for each request that was
-- asked.
use Rattle.arj_law_parts.proofs.Words
use Words.{◌≡◌, ◌≤◌, ◌+◌, ◌==◌, ◌&&◌, ℕ, Bool, true, false, cond, List, [], ◌∷◌, Option, Some, None, arith}
use Words.{Reply, ask_kind, reply_kind, At, CallStep, CallEnd, On, Ended, Goal, Run, Include, Known, Moved, moves, finds, answered, ask_at}
use Words.{bound_by, same_binding, other_binding, with_inc, named_again, live_known, made_known, two_bindings, two_incs, binding_eq}
use Words.{binding_less}
use Words.bound
use Words.calls
use Words.invoked
use Words.loaded
use Words.recorded
use Rattle.arj_law_cause.proofs.leading.Loads.{steps_left}

-- ---- the next step of a call

-- what goes on asks one request more
abbrev pub step_left : CallStep → ℕ
step_left (On at) = 2 + steps_left at
step_left (Ended e) = 0

abbrev Within : ℕ → Moved → Type 0
Within a m = step_left m.step ≤ a

pub least : (a : ℕ) → 0 ≤ a
least a = omega arith

inc_left : (i a : ℕ) (old : Known) (at : At) (o : Option ℕ) → 2 + steps_left at ≤ a → Within a (with_inc i old at o)
inc_left i a old at None le = le
inc_left i a old at (Some first) le = by (first == i)
  where
    by : (b : Bool) → Within a (cond b (moves (Some old) at) (finds (Some old) (CallEnd.Changed old.server (two_incs first i))))
    by true = le
    by false = least a

bound_left : (a : ℕ) (free : Bool) (n : Known) (at : At) (o : Option Known) → 2 + steps_left at ≤ a → Within a (bound_by free n at o)
bound_left a free n at None le = le
bound_left a free n at (Some old) le = by (binding_eq old.binding n.binding)
  where
    same : (i : Option ℕ) → Within a (same_binding old n at i)
    same None = le
    same (Some i) = inc_left i a (named_again old n) at old.inc le

    other : (b : Bool) → Within a (cond b (moves (Some n) at) (finds (Some old) (CallEnd.Changed 1 (two_bindings old.binding n.binding))))
    other true = le
    other false = least a

    by : (b : Bool) → Within a (cond b (same_binding old n at n.inc) (other_binding free old n at))
    by true = same n.inc
    by false = other (free && binding_less old.binding n.binding)

pub reply_left : (free : Bool) (kept : Option Known) (x : ℕ) (g : Goal) (at : At) (r : Reply) →
    (reply_kind r == ask_kind (ask_at x g [] at)) ≡ true → Within (steps_left at) (answered free kept g at r)
reply_left free kept x g (calls.AtBind avoid) (Reply.Bound (bound.Live b s i n ss)) is =
    bound_left 8 free (live_known b s i n ss) (calls.AtInvoke (live_known b s i n ss) i) kept (omega arith)
reply_left free kept x g (calls.AtBind avoid) (Reply.Bound (bound.Make b s n [])) is = omega arith
reply_left free kept x g (calls.AtBind avoid) (Reply.Bound (bound.Make b s n (t ∷ ts))) is =
    bound_left 8 free (made_known b s n (t ∷ ts)) (calls.AtLoad (made_known b s n (t ∷ ts)) t ts) kept (omega arith)
reply_left free kept x g (calls.AtBind avoid) (Reply.Bound (bound.Write n [])) is = omega arith
reply_left free kept x g (calls.AtBind avoid) (Reply.Bound (bound.Write n (t ∷ ts))) is = omega arith
reply_left free kept x g (calls.AtBind avoid) (Reply.Bound (bound.Conflict q m)) is = omega arith
reply_left free kept x (Run o) (calls.AtLoad k s rest) (Reply.Loaded (loaded.State st)) is = omega arith
reply_left free kept x (Include t) (calls.AtLoad k s rest) (Reply.Loaded (loaded.State st)) is = omega arith
reply_left free kept x g (calls.AtLoad k s rest) (Reply.Loaded (loaded.InDoubt q)) is = omega arith
reply_left free None x g (calls.AtActivate k st) (Reply.Activated i) is = omega arith
reply_left free (Some old) x g (calls.AtActivate k st) (Reply.Activated i) is = by (binding_eq old.binding k.binding)
  where
    by : (b : Bool) → Within 4 (cond b (with_inc i old (calls.AtNote k i) old.inc) (moves (Some old) (calls.AtNote k i)))
    by true = inc_left i 4 old (calls.AtNote k i) old.inc (omega arith)
    by false = omega arith
reply_left free kept x g (calls.AtNote k i) (Reply.Noted recorded.Yes) is = omega arith
reply_left free kept x g (calls.AtNote k i) (Reply.Noted (recorded.Changed w)) is = omega arith
reply_left free kept x g (calls.AtInvoke k i) (Reply.Invoked (invoked.Answered a)) is = omega arith
reply_left free kept x g (calls.AtInvoke k i) (Reply.Invoked (invoked.Conflict q m)) is = omega arith
reply_left free kept x g (calls.AtInvoke k i) (Reply.Invoked (invoked.Changed w)) is = omega arith
reply_left free kept x g at r is = absurd (cc is)

-- one that is given up may ask the next store
pub given_left : (at : At) → step_left (Words.given_up at) ≤ 2 + steps_left at
given_left (calls.AtLoad k s []) = omega arith
given_left (calls.AtLoad k s (t ∷ ts)) = omega arith
given_left (calls.AtBind avoid) = omega arith
given_left (calls.AtActivate k st) = omega arith
given_left (calls.AtNote k i) = omega arith
given_left (calls.AtInvoke k i) = omega arith
