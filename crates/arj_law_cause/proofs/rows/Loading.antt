-- An include that loads, and a call until it comes to its server, has been granted its top's write lock on the entry since it was asked: by
-- what a coordinator does.
use Rattle.arj_law_parts.proofs.Words
use Words.{⊤, ⊎_elim, ◌≡◌, ◌≢◌, ◌⊎◌, ◌≤◌, ◌∙◌, ◌+◌, ◌++◌, ◌&&◌, ℕ, zero, suc, Bool, true, false, cond, List, [], ◌∷◌, length, Option, Some}
use Words.{None}
use Words.{refl, sym, ap, subst, inl, inr, entry, Asked, Binding, BoundReply, Header, Kind, Label, Line, Path, Uid, name, top_of, top_path}
use Words.{Reply, actor, again_all, begin_action, call_steps, doomed_by, goes_on, heard, heard_call, kept_at, ◌==◌, Run, Start}
use Words.{activated_by, binding_eq, binding_less, bound_by, finds, live_known, load_from, made_by, made_known, moves, named_again, or_lost}
use Words.{other_binding, same_binding, start_at, two_bindings, two_incs, with_inc, write_known}
use Words.{next_req, renewed, root_heard, root_lost, root_moved, step_call, waits_for_call}
use Words.{At, AtActivate, AtBind, AtInvoke, AtLoad, AtNote, CallEnd, CallStep, Ended, Goal, Include, Known, Lost, On, Steps}
use Words.{answered, given_up, start, plan_of, Calling, Committing, Coord, Doing, Idle, doing_of, is_free, keeping_of}
use Words.{new_coord, on_doing, on_root, root_at, with_keeping, Intent, unbound, Input, acts as does, parent_of, refusal_up}
use Words.{Tree, at_place, doomed_at, ended_at, is_own, root_of, uses_object, Post}
use Words.bound
use Words.calls
use Words.invoked
use Words.loaded
use Words.recorded
use Words.input
use Words.mode
use Rattle.arj_law_serial.proofs.Terms.{on_cases, doomed_same, uses_same, end_tree_on, get_more}
use Rattle.arj_law_lock_view.proofs.facts.{Kept.Place}
use Rattle.arj_law_lock_view.proofs.facts.Pieces.{IsStep, Pieces, acts_so, again_so, heard_so}
use Rattle.arj_law_lock_view.specs.asking.Asked.{accepted_of}
use Rattle.arj_law_parts.specs.moves.Moments.{Asking}
use Rattle.arj_law_runs.specs.addresses.Binds.{AnswersWaiting}
use Rattle.arj_model.specs.CauseAnswers.{has_lock}
use Rattle.arj_model.specs.Past.{Asked as AskedOf}
use Rattle.arj_model.specs.Refusals.{asks_by, incarnation, last_asked}
use Rattle.arj_law_cause.proofs.rows.Meeting.{is_write}
use Rattle.arj_law_cause.specs.rows.Says.{meets_none}

-- ---- what goes on

-- the step of a call or an include that goes on by naming's lock, and isn't at its server yet
abbrev pub is_on_way : At → Bool
is_on_way (AtLoad k s rest) = true
is_on_way (AtActivate k st) = true
is_on_way (AtNote k i) = true
is_on_way _ = false

-- the incarnation of naming that granted it
abbrev pub grant_of : At → ℕ
grant_of (AtLoad k s rest) = k.grant
grant_of (AtActivate k st) = k.grant
grant_of (AtNote k i) = k.grant
grant_of _ = 0

-- so it is of a call or an include
abbrev pub goes : Steps → Bool
goes s = is_on_way s.at

-- a call knows the incarnation in which its lock was granted
abbrev pub IsGrantOf : Start → List Line → Goal → At → Type 0
IsGrantOf st before (Run o) at = grant_of at ≡ incarnation st before 1
IsGrantOf st before (Include n) at = ⊤

-- At some place, no earlier than the event that asked last of this label, the table of naming's node had the top's write lock on the entry,
-- and no lock that stands against it; and naming was in the incarnation that the call knows.
pub record IsLocked (st : Start) (lines : List Line) (askings : List Asking) (l : Label) (s : Steps) : Type 0 where
  pub before : List Line
  pub after : List Line
  pub are : lines ≡ before ++ after
  pub late : (e : AskedOf) → last_asked (asks_by (accepted_of askings) (name l)) ≡ Some e → e.at ≤ length before
  pub lock : has_lock 1 (top_of s.path) (entry s.x) mode.Write before ≡ true
  pub free : meets_none 1 (top_path s.path) (entry s.x) mode.Write before ≡ true
  pub inc : IsGrantOf st before s.goal s.at

-- so it is of each call and include of a coordinator that goes on so
abbrev pub AreLocked : Start → List Line → List Asking → Coord → Type 0
AreLocked st lines askings c = (u : Uid) (w : Doing) (s : Steps) → doing_of u c ≡ Some w → w.now ≡ Calling s → goes s ≡ true →
    IsLocked st lines askings w.label s

-- ---- the step behind an answer

-- the incarnation of naming that an answer tells
abbrev pub grant_in : BoundReply → ℕ
grant_in (bound.Make b server g stores) = g
grant_in (bound.Write g stores) = g
grant_in q = 0

-- it went on before, by the same grant; or it was answered a Bind, under the write lock
pub data GoesBy (at next : At) (r : Reply) : Type 0 where
  Stays : is_on_way at ≡ true → grant_of next ≡ grant_of at → GoesBy at next r
  Named : (avoid : Binding) (q : BoundReply) → at ≡ AtBind avoid → r ≡ Reply.Bound q → is_write q ≡ true → grant_of next ≡ grant_in q →
      GoesBy at next r

abbrev step_goes : CallStep → Bool
step_goes (On n) = is_on_way n
step_goes (Ended e) = false

abbrev step_grant : CallStep → ℕ
step_grant (On n) = grant_of n
step_grant (Ended e) = 0

-- a step that is no further
never_on : {P : Type 0} (z : CallStep) (next : At) → step_goes z ≡ false → z ≡ On next → is_on_way next ≡ true → P
never_on z next off is on = let no_way : false ≡ true = sym off ∙ ap step_goes is ∙ on in absurd (cc no_way)

-- whatever is kept, a binding leads to the step that it was named for
bound_step : (free : Bool) (k : Known) (at next : At) (kept : Option Known) → (bound_by free k at kept).step ≡ On next → at ≡ next
bound_step free k at next kept is = by kept is
  where
    on_it : On at ≡ On next → at ≡ next
    on_it same = cc same

    none : {P : Type 0} (e : CallEnd) → Ended e ≡ On next → P
    none e same = absurd (cc same)

    with_one : (old : Known) (i : ℕ) (o : Option ℕ) → (with_inc i old at o).step ≡ On next → at ≡ next
    with_one old i None is = on_it is
    with_one old i (Some first) is = one (first == i) is
      where
        one : (b : Bool) → (cond b (moves (Some old) at) (finds (Some old) (calls.Changed old.server (two_incs first i)))).step ≡ On next →
            at ≡ next
        one true is = on_it is
        one false is = none _ is

    by : (o : Option Known) → (bound_by free k at o).step ≡ On next → at ≡ next
    by None is = on_it is
    by (Some old) is = one (binding_eq old.binding k.binding) is
      where
        same : (i : Option ℕ) → (same_binding old k at i).step ≡ On next → at ≡ next
        same None is = on_it is
        same (Some i) is = with_one (named_again old k) i old.inc is

        other : (b : Bool) → (cond b (moves (Some k) at) (finds (Some old) (calls.Changed 1 (two_bindings old.binding k.binding)))).step
            ≡ On next → at ≡ next
        other true is = on_it is
        other false is = none _ is

        one : (b : Bool) → (cond b (same_binding old k at k.inc) (other_binding free old k at)).step ≡ On next → at ≡ next
        one true is = same k.inc is
        one false is = other (free && binding_less old.binding k.binding) is

-- where the next step goes on so
goes_by : (free : Bool) (kept : Option Known) (g : Goal) (at next : At) (r : Reply) → (answered free kept g at r).step ≡ On next →
    is_on_way next ≡ true → GoesBy at next r
goes_by free kept (Run o) (AtLoad k s rest) next (Reply.Loaded (loaded.State st)) is on = Stays refl (ap step_grant (sym is))
goes_by free kept (Include n) (AtLoad k s rest) next (Reply.Loaded (loaded.State st)) is on = never_on _ next refl is on
goes_by free kept g (AtLoad k s rest) next (Reply.Loaded (loaded.InDoubt u)) is on = never_on _ next refl is on
goes_by free kept g (AtLoad k s rest) next r is on = Stays refl (ap step_grant (sym is))
goes_by free kept g (AtActivate k st) next (Reply.Activated i) is on = Stays refl (by kept is)
  where
    noted : On (AtNote k i) ≡ On next → grant_of next ≡ k.grant
    noted same = ap step_grant (sym same)

    none : {P : Type 0} (e : CallEnd) → Ended e ≡ On next → P
    none e same = absurd (cc same)

    with_one : (old : Known) (o : Option ℕ) → (with_inc i old (AtNote k i) o).step ≡ On next → grant_of next ≡ k.grant
    with_one old None is = noted is
    with_one old (Some first) is = one (first == i) is
      where
        one : (b : Bool) → (cond b (moves (Some old) (AtNote k i)) (finds (Some old) (calls.Changed old.server (two_incs first i)))).step
            ≡ On next → grant_of next ≡ k.grant
        one true is = noted is
        one false is = none _ is

    by : (o : Option Known) → (activated_by k i o).step ≡ On next → grant_of next ≡ k.grant
    by None is = noted is
    by (Some old) is = one (binding_eq old.binding k.binding) is
      where
        one : (b : Bool) → (cond b (with_inc i old (AtNote k i) old.inc) (moves (Some old) (AtNote k i))).step ≡ On next →
            grant_of next ≡ k.grant
        one true is = with_one old old.inc is
        one false is = noted is
goes_by free kept g (AtActivate k st) next r is on = Stays refl (ap step_grant (sym is))
goes_by free kept g (AtNote k i) next (Reply.Noted recorded.Yes) is on = never_on _ next refl is on
goes_by free kept g (AtNote k i) next (Reply.Noted (recorded.Changed w)) is on = never_on _ next refl is on
goes_by free kept g (AtNote k i) next r is on = Stays refl (ap step_grant (sym is))
goes_by free kept g (AtInvoke k i) next (Reply.Invoked (invoked.Answered a)) is on = never_on _ next refl is on
goes_by free kept g (AtInvoke k i) next (Reply.Invoked (invoked.Conflict u m)) is on = never_on _ next refl is on
goes_by free kept g (AtInvoke k i) next (Reply.Invoked (invoked.Changed w)) is on = never_on _ next refl is on
goes_by free kept g (AtInvoke k i) next r is on = never_on _ next refl is on
goes_by free kept g (AtBind avoid) next (Reply.Bound (bound.Conflict u m)) is on = never_on _ next refl is on
goes_by free kept g (AtBind avoid) next (Reply.Bound (bound.Live b server i n stores)) is on =
    let same : AtInvoke (live_known b server i n stores) i ≡ next =
    bound_step free (live_known b server i n stores) (AtInvoke (live_known b server i n stores) i) next kept is in
    let no_way : false ≡ true = ap is_on_way same ∙ on in absurd (cc no_way)
goes_by free kept g (AtBind avoid) next (Reply.Bound (bound.Make b server n stores)) is on =
    Named avoid (bound.Make b server n stores) refl refl refl (by stores is)
  where
    by : (ss : List ℕ) → (made_by free (made_known b server n stores) kept (load_from (made_known b server n stores) ss)).step ≡ On next →
        grant_of next ≡ n
    by [] is = absurd (cc is)
    by (s ∷ ss) is = ap grant_of (sym (bound_step free (made_known b server n stores) (AtLoad (made_known b server n stores) s ss) next kept
        is))
goes_by free kept g (AtBind avoid) next (Reply.Bound (bound.Write n stores)) is on =
    Named avoid (bound.Write n stores) refl refl refl (by stores is)
  where
    by : (ss : List ℕ) → (or_lost kept (load_from (write_known n stores) ss)).step ≡ On next → grant_of next ≡ n
    by [] is = absurd (cc is)
    by (s ∷ ss) is = ap step_grant (sym is)
goes_by free kept g (AtBind avoid) next r is on = never_on _ next refl is on

-- a step that is given up goes on with the same grant
given_goes : (at next : At) → given_up at ≡ On next → (is_on_way at ≡ true) × (grant_of next ≡ grant_of at)
given_goes (AtLoad k s []) next is = absurd (cc is)
given_goes (AtLoad k s (t ∷ ts)) next is = (refl, ap step_grant (sym is))
given_goes (AtBind avoid) next is = absurd (cc is)
given_goes (AtActivate k st) next is = absurd (cc is)
given_goes (AtNote k i) next is = absurd (cc is)
given_goes (AtInvoke k i) next is = absurd (cc is)

-- the lock serves what goes on by the same grant
pub locked_on : (st : Start) (lines : List Line) (askings : List Asking) (l : Label) (s : Steps) (req : ℕ) (next : At) →
    grant_of next ≡ grant_of s.at → IsLocked st lines askings l s → IsLocked st lines askings l (record s { req = req; at = next })
locked_on st lines askings l s req next same h = record {
  before = h.before;
  after = h.after;
  are = h.are;
  late = h.late;
  lock = h.lock;
  free = h.free;
  inc = by s.goal h.inc;
}
  where
    by : (g : Goal) → IsGrantOf st h.before g s.at → IsGrantOf st h.before g next
    by (Run o) is = same ∙ is
    by (Include n) is = tt

-- ---- a coordinator

module _ (st : Start) (lines : List Line) (askings : List Asking) where
  abbrev Are : Coord → Type 0
  Are c = AreLocked st lines askings c

  -- what its actions are at is the same
  pub are_same : (c e : Coord) → ((u : Uid) → doing_of u e ≡ doing_of u c) → Are c → Are e
  are_same c e same all u w s found is load = all u w s (sym (same u) ∙ found) is load

  are_own : (e : Coord) (v : Tree) → ((u : Uid) → is_own u v ≡ is_own u e.tree) → Are e → Are (record e { tree = v })
  are_own e v own all u w s found is load = all u w s ((λ i. cond (sym (own u) i) (at_place u.num e.doings) None) ∙ found) is load

  are_do : (u : Uid) (f : Doing → Doing) (e : Coord) → ((w : Doing) (s : Steps) → doing_of u e ≡ Some w → (f w).now ≡ Calling s →
      goes s ≡ true → IsLocked st lines askings (f w).label s) → Are e → Are (on_doing u f e)
  are_do u f e its all w d s found is load = ⊎_elim {C = IsLocked st lines askings d.label s}
      (λ same. subst (λ (z : Doing). IsLocked st lines askings z.label s) same.3
      (its same.1 s (ap (λ v. doing_of v e) (sym same.0) ∙ same.2) (ap (λ (z : Doing). z.now) same.3 ∙ is) load))
      (λ other. all w d s other.1 is load) (on_cases u f e w d found)

  are_pieces : (c : Coord) → Are c → Pieces c Are
  are_pieces c first = record {
    start = first;
    end_tree = λ u how e all. let g = end_tree_on u how e in are_own e (ended_at u how e.tree) g.own all;
    idle = λ u e all. are_do u (λ (d : Doing). record d { now = Idle }) e (λ d s found is load. absurd (cc is)) all;
    took = λ u ns e all.
        are_do u (λ (d : Doing). record d { took = ns }) e (λ d s found is load. all u d s found is load) all;
    commits = λ u m e planned all. are_do u (λ (d : Doing). record d { req = (plan_of m).req; now = Committing m }) e
        (λ d s found is load. absurd (cc is)) all;
    asks = λ p req a e rooted all u d s found is load. all u d s found is load;
    decides = λ p e rooted all u d s found is load. all u d s found is load;
    telling = λ i e all u d s found is load. all u d s found is load;
  }

  are_goes : (s : Steps) (e : Coord) → ((w : Doing) → doing_of (actor s.path) e ≡ Some w → goes s ≡ true →
      IsLocked st lines askings w.label s) → Are e → Are (goes_on s e).part
  are_goes s e its all = λ u w z found is load.
      are_do (actor s.path) (λ (d : Doing). record d { req = s.req; now = Calling s }) e
      (λ d y there same load. one d y there same load) all u w z found is load
    where
      one : (d : Doing) (y : Steps) → doing_of (actor s.path) e ≡ Some d → Calling s ≡ Calling y → goes y ≡ true →
          IsLocked st lines askings d.label y
      one d y there same load = let it : s ≡ y = cc same in
          subst (λ (z : Steps). IsLocked st lines askings d.label z) it
          (its d there (subst (λ (z : Steps). goes z ≡ true) (sym it) load))

  are_step : (s : Steps) (n : CallStep) (e : Coord) → ((at : At) → n ≡ On at → (w : Doing) → doing_of (actor s.path) e ≡ Some w →
      goes (record s { req = s.req + 1; at = at }) ≡ true → IsLocked st lines askings w.label (record s { req = s.req + 1; at = at })) → Are e →
      Are (step_call s n e).part
  are_step s (On at) e next all = are_goes (record s { req = s.req + 1; at = at }) e (λ w found load. next at refl w found load) all
  are_step s (Ended g) e next all = by g
    where
      told : Coord
      told = on_root (root_of s.path) (root_heard s g) (on_doing (actor s.path) (λ (d : Doing). record d { now = Idle }) e)

      its : Are told
      its u d w found is load = are_do (actor s.path) (λ (d : Doing). record d { now = Idle }) e
          (λ d w found is load. absurd (cc is)) all u d w found is load

      by : (h : CallEnd) → Are (doomed_by (actor s.path) h told)
      by (calls.Answered a) = its
      by (calls.Included st) = its
      by (calls.Conflict h x n) = its
      by (calls.Changed n w) = its
      by (calls.Lost n false) = its
      by (calls.Lost n true) = let q = doomed_same (actor s.path) told.tree in are_own told (doomed_at (actor s.path) told.tree) q.own its

  -- behind an answer, where what is granted by it is locked
  pub are_heard : (sent : List Post) (k : ℕ) (c : Coord) (place : Place sent k c) (from : ℕ) (a : Asked) (r : Reply)
      (intents : List (Uid × Intent)) → AnswersWaiting from a r c
      → ((s : Steps) (w : Doing) (avoid : Binding) (q : BoundReply) (next : At) → doing_of a.act c ≡ Some w → w.now ≡ Calling s →
      waits_for_call from a r s ≡ true → s.at ≡ AtBind avoid → r ≡ Reply.Bound q → is_write q ≡ true → grant_of next ≡ grant_in q →
      IsLocked st lines askings w.label (record s { req = s.req + 1; at = next })) → Are c → Are (heard from a r intents c).part
  are_heard sent k c place from a r intents fits new all =
      heard_so sent k c place Are (are_pieces c all) from a r intents fits calls_on
    where
      calls_on : (s : Steps) → IsStep c s → waits_for_call from a r s ≡ true → actor s.path ≡ a.act → Are (heard_call s r c).part
      calls_on s step on who =
          let m = answered (is_free (root_of s.path) (actor s.path) s.x c) (kept_at s c) s.goal s.at r in
          are_step s m.step (on_root (root_of s.path) (root_moved s r m) c) next (λ u d w found is load. all u d w found is load)
        where
          mine : doing_of a.act c ≡ Some step.doing
          mine = ap (λ v. doing_of v c) (sym who) ∙ step.found

          next : (at : At) → (answered (is_free (root_of s.path) (actor s.path) s.x c) (kept_at s c) s.goal s.at r).step ≡ On at →
              (w : Doing) → doing_of (actor s.path) c ≡ Some w → goes (record s { req = s.req + 1; at = at }) ≡ true →
              IsLocked st lines askings w.label (record s { req = s.req + 1; at = at })
          next at is w found load = subst (λ (z : Doing). IsLocked st lines askings z.label (record s { req = s.req + 1; at = at }))
              (one step.doing w (sym step.found ∙ found))
              (by (goes_by (is_free (root_of s.path) (actor s.path) s.x c) (kept_at s c) s.goal s.at at r is load))
            where
              one : (x y : Doing) → Some x ≡ Some y → x ≡ y
              one x y same = let k : ◌≡◌ {A = Option Doing} (Some x) (Some y) = same in cc

              by : GoesBy s.at at r → IsLocked st lines askings (let d = step.doing in d.label) (record s { req = s.req + 1; at = at })
              by (Stays old same) = locked_on st lines askings (let d = step.doing in d.label) s (s.req + 1) at same
                  (all (actor s.path) step.doing s step.found step.now old)
              by (Named avoid q at_it is_it write grant) = new s step.doing avoid q at mine step.now on at_it is_it write grant

  -- behind an input
  pub are_acts : (sent : List Post) (k : ℕ) (c : Coord) (place : Place sent k c) (hd : Header) (i : Input) (intents : List
      (Uid × Intent)) → refusal_up hd i c ≡ None → ((l : Label) (how : Kind) (parent : Option Label) → i ≢ input.Begin l how parent) →
      Are c → Are (does i intents c).part
  are_acts sent k c place hd i intents free other all =
      acts_so sent k c place Are (are_pieces c all) hd i intents free other
      (λ b x o found none. are_goes (call_steps b.path x o (next_req (actor b.path) c) (root_at (root_of b.path) c) c
      (renewed (is_free (root_of b.path) (actor b.path) x c) (keeping_of x (root_at (root_of b.path) c))
      (keeping_of x (root_at (root_of b.path) c)).kept))
      (on_root (root_of b.path) (with_keeping x (renewed (is_free (root_of b.path) (actor b.path) x c) (keeping_of x (root_at
      (root_of b.path) c)) (keeping_of x (root_at (root_of b.path) c)).kept)) (record c { tree = uses_object b.path x c.tree }))
      (λ w there load. never_begun _ _ load) (λ u d w found is load. uses b.path x u d w found is load))
      (λ b x s found none. are_goes (start b.path x (Include s) None unbound (next_req (actor b.path) c))
      (record c { tree = uses_object b.path x c.tree }) (λ w there load. let no_way : false ≡ true = load in absurd (cc no_way))
      (uses b.path x))
      (λ s step. are_step s (given_up s.at) (on_root (root_of s.path) (root_lost s (given_up s.at)) c) (lost s step)
      (λ u d w found is load. all u d w found is load))
    where
      never_begun : {P : Type 0} (o : Option Known) (avoid : Binding) → is_on_way (start_at o avoid) ≡ true → P
      never_begun None avoid on = absurd (cc on)
      never_begun (Some k) avoid on = absurd (cc on)

      uses : (p : Path) (x : ℕ) → Are (record c { tree = uses_object p x c.tree })
      uses p x = let q = uses_same p x c.tree in are_own c (uses_object p x c.tree) q.own all

      lost : (s : Steps) → IsStep c s → (at : At) → given_up s.at ≡ On at → (w : Doing) → doing_of (actor s.path) c ≡ Some w →
          goes (record s { req = s.req + 1; at = at }) ≡ true → IsLocked st lines askings w.label (record s { req = s.req + 1; at = at })
      lost s step at is w found load =
          let z = given_goes s.at at is in
          subst (λ (z : Doing). IsLocked st lines askings z.label (record s { req = s.req + 1; at = at }))
          (one step.doing w (sym step.found ∙ found)) (locked_on st lines askings (let d = step.doing in d.label) s (s.req + 1) at z.1
          (all (actor s.path) step.doing s step.found step.now z.0))
        where
          one : (x y : Doing) → Some x ≡ Some y → x ≡ y
          one x y same = let k : ◌≡◌ {A = Option Doing} (Some x) (Some y) = same in cc

  pub are_again : (sent : List Post) (k : ℕ) (c : Coord) (place : Place sent k c) → Are c → Are (again_all c.doings c).part
  are_again sent k c place all = again_so sent k c place Are (are_pieces c all)

  pub are_begins : (l : Label) (how : Kind) (parent : Option Label) (c : Coord) → Are c →
      Are (begin_action l how parent (parent_of parent c) c).part
  are_begins l how parent c all u d w found is load = ⊎_elim {C = IsLocked st lines askings d.label w}
      (λ old. all u d w old is load)
      (λ idle. let no_way : Idle ≡ Calling w = sym idle ∙ is in absurd (cc no_way)) (was (is_own u c.tree) u.num found)
    where
      fresh : Doing
      fresh = record { label = l; req = 0; now = Idle; took = [] }

      was : (b : Bool) (j : ℕ) → cond b (at_place j (c.doings ++ fresh ∷ [])) None ≡ Some d →
          (cond b (at_place j c.doings) None ≡ Some d) ⊎ (d.now ≡ Idle)
      was true zero at = absurd (cc at)
      was true (suc j) at = ⊎_elim {C = (cond true (at_place (suc j) c.doings) None ≡ Some d) ⊎ (d.now ≡ Idle)} (λ old. inl old)
          (λ its. inr (ap (λ (z : Doing). z.now) (sym its.1))) (get_more j fresh d c.doings at)
      was false j at = absurd (cc at)

  -- a coordinator that begins has none
  pub are_new : (node inc : ℕ) (telling : List (Uid × Intent)) → Are (record (new_coord node inc) { telling = telling })
  are_new node inc telling u d w found is load = absurd (none (is_own u (let c = new_coord node inc in c.tree)) u.num found)
    where
      none : (b : Bool) (j : ℕ) → cond b (at_place j []) None ≡ Some d → ⊥
      none true zero at = cc at
      none true (suc j) at = cc at
      none false j at = cc at
