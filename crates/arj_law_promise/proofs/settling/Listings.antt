-- Stores that lists name: naming's, those of its answers, and those that calls are still to ask. What is claimed of each such store.
use Rattle.arj_law_parts.proofs.Words
use Words.{◌≡◌, ◌≢◌, ◌⊎◌, ◌∙◌, ◌+◌, ℕ, Bool, true, false, cond, List, [], ◌∷◌, Option, Some, None, refl, sym, ap, subst, inl, inr, ⊎_elim}
use Words.{⊤, AllByRecursion, Ask, Asked, Binding, BoundReply, Head, Header, Kind, Label, ObjectState, Uid, Reply, actor, again_all}
use Words.{begin_action, doomed_by, heard, heard_by, heard_call, heard_doing, heard_none, heard_now, kept_at, root_heard, root_moved}
use Words.{step_call, waits_for_call, At, AtActivate, AtBind, AtInvoke, AtLoad, AtNote, CallEnd, CallStep, Ended, Goal, Include, Known, On}
use Words.{Run, Steps, activated_by, answered, given_up, live_known, load_from, made_by, made_known, or_lost, start, with_inc, write_known}
use Words.{Calling, Committing, Coord, Doing, Idle, Now, doing_of, is_free, new_coord, on_doing, on_root, Intent, Pair, Served, acked}
use Words.{binding_eq, Input, acts, parent_of, refusal_up, at_place, root_of, state_entry, Post}
use Words.ask
use Words.bound
use Words.invoked
use Words.loaded
use Words.recorded
use Words.calls
use Words.input
use Rattle.arj_law_promise.proofs.Terms
use Terms.{doomed_same, on_cases, AnswersWaiting, some_is, all_each, waiting_acked, waiting_acts, waiting_again, waiting_begins}
use Terms.{waiting_heard, waiting_new, Place, IsAnsweredBy}
use Rattle.arj_law_promise.proofs.waiting.Stepping.{IsOn, bound_so, inc_so}

-- what is claimed of a store of an object
abbrev pub Of : Type 1
Of = ℕ → ℕ → Type 0

-- of each store that a Load may go to
abbrev pub AtHas : Of → ℕ → At → Type 0
AtHas P x (AtLoad k n rest) = AllByRecursion (P x) (n ∷ rest)
AtHas P x at = ⊤

abbrev pub StepHas : Of → Steps → Type 0
StepHas P s = AtHas P s.x s.at

abbrev pub StepsHave : Of → Coord → Type 0
StepsHave P c = (u : Uid) (d : Doing) (s : Steps) → doing_of u c ≡ Some d → d.now ≡ Calling s → StepHas P s

-- of each store of an answer that a call goes on to load from
abbrev pub BoundHas : Of → ℕ → BoundReply → Type 0
BoundHas P x (bound.Make b server g stores) = AllByRecursion (P x) stores
BoundHas P x (bound.Write g stores) = AllByRecursion (P x) stores
BoundHas P x r = ⊤

-- so it is of an answer to a Bind
abbrev pub ReplyHas : Of → List Post → Post → Asked → Reply → Type 0
ReplyHas P sent p a (Reply.Bound r) =
    (h : Head) × (x : ℕ) × (include : Bool) × (avoid : Binding) × IsAnsweredBy sent p a h (ask.Bind x include avoid) × BoundHas P x r
ReplyHas P sent p a r = ⊤

-- of each store of an entry
abbrev pub EntryHas : (ℕ → Type 0) → ObjectState → Type 0
EntryHas P st = AllByRecursion P (let e = state_entry st in e.stores)

-- or the action includes it
abbrev pub OrBy : Of → (Uid → ℕ → ℕ → Type 0) → Uid → ℕ → ℕ → Type 0
OrBy P I u x n = P x n ⊎ I u x n

-- so it is of committed entries, and of prepared ones
pub record NamesHave (P : Of) (I : Uid → ℕ → ℕ → Type 0) (d : Pair) : Type 0 where
  pub held : AllByRecursion (λ (e : Uid × ObjectState). EntryHas (P (let u = e.0 in u.num)) e.1) d.held
  pub pend : AllByRecursion (λ (e : Uid × List ObjectState).
      AllByRecursion (λ (st : ObjectState). EntryHas (OrBy P I e.0 (let u = st.uid in u.num)) st) e.1) d.pend

-- ---- it is claimed of more

module _ (P Q : Of) (more : (x n : ℕ) → P x n → Q x n) where
  numbers_more : (x : ℕ) (ns : List ℕ) → AllByRecursion (P x) ns → AllByRecursion (Q x) ns
  numbers_more x ns all = all_each (P x) (Q x) ns (λ n its. more x n its) all

  at_more : (x : ℕ) (at : At) → AtHas P x at → AtHas Q x at
  at_more x (AtBind avoid) its = tt
  at_more x (AtLoad k n rest) its = numbers_more x (n ∷ rest) its
  at_more x (AtActivate k st) its = tt
  at_more x (AtNote k i) its = tt
  at_more x (AtInvoke k i) its = tt

  pub steps_more : (c : Coord) → StepsHave P c → StepsHave Q c
  steps_more c all u d s found now = at_more s.x s.at (all u d s found now)

  bound_more : (x : ℕ) (r : BoundReply) → BoundHas P x r → BoundHas Q x r
  bound_more x (bound.Make b server g stores) its = numbers_more x stores its
  bound_more x (bound.Write g stores) its = numbers_more x stores its
  bound_more x (bound.Live b server i g stores) its = tt
  bound_more x (bound.Conflict h m) its = tt

  pub reply_more : (few many : List Post) → ((p : Post) (a : Asked) (h : Head) (b : Ask) → IsAnsweredBy few p a h b →
      IsAnsweredBy many p a h b) → (p : Post) (a : Asked) (r : Reply) → ReplyHas P few p a r → ReplyHas Q many p a r
  reply_more few many by p a (Reply.Bound r) its =
      (its.0, its.1, its.2, its.3, by p a its.0 (ask.Bind its.1 its.2 its.3) its.4, bound_more its.1 r its.5)
  reply_more few many by p a (Reply.Loaded r) its = tt
  reply_more few many by p a (Reply.Activated r) its = tt
  reply_more few many by p a (Reply.Noted r) its = tt
  reply_more few many by p a (Reply.Invoked r) its = tt
  reply_more few many by p a (Reply.Voted r) its = tt
  reply_more few many by p a (Reply.Prepared r) its = tt
  reply_more few many by p a (Reply.Confirmed r) its = tt

  pub names_more : (I J : Uid → ℕ → ℕ → Type 0) → ((u : Uid) (x n : ℕ) → I u x n → J u x n) → (d : Pair) → NamesHave P I d → NamesHave Q J d
  names_more I J on d its = record {
    held = all_each (λ (e : Uid × ObjectState). EntryHas (P (let u = e.0 in u.num)) e.1) (λ (e : Uid × ObjectState).
        EntryHas (Q (let u = e.0 in u.num)) e.1) d.held (λ e so. numbers_more e.0.num (state_entry e.1).stores so) its.held;
    pend = all_each (λ (e : Uid × List ObjectState).
        AllByRecursion (λ (st : ObjectState). EntryHas (OrBy P I e.0 (let u = st.uid in u.num)) st) e.1) (λ (e : Uid × List ObjectState).
        AllByRecursion (λ (st : ObjectState). EntryHas (OrBy Q J e.0 (let u = st.uid in u.num)) st) e.1) d.pend
        (λ e so. all_each (λ (st : ObjectState). EntryHas (OrBy P I e.0 st.uid.num) st) (λ (st : ObjectState).
        EntryHas (OrBy Q J e.0 st.uid.num) st) e.1 (λ st its. all_each (OrBy P I e.0 st.uid.num) (OrBy Q J e.0 st.uid.num) (state_entry
        st).stores (λ n z. ⊎_elim (λ old. inl (more st.uid.num n old)) (λ new. inr (on e.0 st.uid.num n new)) z) its) so) its.pend;
  }

-- ---- the step behind an answer

module _ (P : Of) (x : ℕ) where
  abbrev Is : CallStep → Type 0
  Is = IsOn (AtHas P x)

  made_so : (free : Bool) (k : Known) (kept : Option Known) (stores : List ℕ) → AllByRecursion (P x) stores →
      Is (made_by free k kept (load_from k stores)).step
  made_so free k kept [] all = tt
  made_so free k kept (s ∷ ss) all = bound_so (AtHas P x) (AtLoad k s ss) all free k kept

  active_so : (k : Known) (i : ℕ) (kept : Option Known) → Is (activated_by k i kept).step
  active_so k i None = tt
  active_so k i (Some old) = by (binding_eq old.binding k.binding)
    where
      by : (b : Bool) → Is (cond b (with_inc i old (AtNote k i) old.inc) (calls.moves (Some old) (AtNote k i))).step
      by true = inc_so (AtHas P x) (AtNote k i) tt i old old.inc
      by false = tt

  lost_so : (k : Known) (kept : Option Known) (stores : List ℕ) → AllByRecursion (P x) stores → Is (or_lost kept (load_from k stores)).step
  lost_so k kept [] all = tt
  lost_so k kept (n ∷ ns) all = all

  -- what an answer has to bring
  abbrev pub Brings : At → Reply → Type 0
  Brings (AtBind avoid) (Reply.Bound r) = BoundHas P x r
  Brings at r = ⊤

  next_has : (free : Bool) (kept : Option Known) (g : Goal) (at : At) (r : Reply) → Brings at r → AtHas P x at →
      Is (answered free kept g at r).step
  next_has free kept g (AtBind avoid) (Reply.Bound (bound.Live b server i n stores)) brings was =
      bound_so (AtHas P x) (AtInvoke (live_known b server i n stores) i) tt free (live_known b server i n stores) kept
  next_has free kept g (AtBind avoid) (Reply.Bound (bound.Make b server n stores)) brings was =
      made_so free (made_known b server n stores) kept stores brings
  next_has free kept g (AtBind avoid) (Reply.Bound (bound.Write n stores)) brings was = lost_so (write_known n stores) kept stores brings
  next_has free kept g (AtBind avoid) (Reply.Bound (bound.Conflict holder m)) brings was = tt
  next_has free kept g (AtBind avoid) (Reply.Loaded r) brings was = tt
  next_has free kept g (AtBind avoid) (Reply.Activated r) brings was = tt
  next_has free kept g (AtBind avoid) (Reply.Noted r) brings was = tt
  next_has free kept g (AtBind avoid) (Reply.Invoked r) brings was = tt
  next_has free kept g (AtBind avoid) (Reply.Voted r) brings was = tt
  next_has free kept g (AtBind avoid) (Reply.Prepared r) brings was = tt
  next_has free kept g (AtBind avoid) (Reply.Confirmed r) brings was = tt
  next_has free kept (Run o) (AtLoad k n rest) (Reply.Loaded (loaded.State st)) brings was = tt
  next_has free kept (Include s) (AtLoad k n rest) (Reply.Loaded (loaded.State st)) brings was = tt
  next_has free kept g (AtLoad k n rest) (Reply.Loaded (loaded.InDoubt q)) brings was = tt
  next_has free kept g (AtLoad k n rest) (Reply.Bound r) brings was = was
  next_has free kept g (AtLoad k n rest) (Reply.Activated r) brings was = was
  next_has free kept g (AtLoad k n rest) (Reply.Noted r) brings was = was
  next_has free kept g (AtLoad k n rest) (Reply.Invoked r) brings was = was
  next_has free kept g (AtLoad k n rest) (Reply.Voted r) brings was = was
  next_has free kept g (AtLoad k n rest) (Reply.Prepared r) brings was = was
  next_has free kept g (AtLoad k n rest) (Reply.Confirmed r) brings was = was
  next_has free kept g (AtActivate k st) (Reply.Activated i) brings was = active_so k i kept
  next_has free kept g (AtActivate k st) (Reply.Bound r) brings was = tt
  next_has free kept g (AtActivate k st) (Reply.Loaded r) brings was = tt
  next_has free kept g (AtActivate k st) (Reply.Noted r) brings was = tt
  next_has free kept g (AtActivate k st) (Reply.Invoked r) brings was = tt
  next_has free kept g (AtActivate k st) (Reply.Voted r) brings was = tt
  next_has free kept g (AtActivate k st) (Reply.Prepared r) brings was = tt
  next_has free kept g (AtActivate k st) (Reply.Confirmed r) brings was = tt
  next_has free kept g (AtNote k i) (Reply.Noted recorded.Yes) brings was = tt
  next_has free kept g (AtNote k i) (Reply.Noted (recorded.Changed w)) brings was = tt
  next_has free kept g (AtNote k i) (Reply.Bound r) brings was = tt
  next_has free kept g (AtNote k i) (Reply.Loaded r) brings was = tt
  next_has free kept g (AtNote k i) (Reply.Activated r) brings was = tt
  next_has free kept g (AtNote k i) (Reply.Invoked r) brings was = tt
  next_has free kept g (AtNote k i) (Reply.Voted r) brings was = tt
  next_has free kept g (AtNote k i) (Reply.Prepared r) brings was = tt
  next_has free kept g (AtNote k i) (Reply.Confirmed r) brings was = tt
  next_has free kept g (AtInvoke k i) (Reply.Invoked (invoked.Answered a)) brings was = tt
  next_has free kept g (AtInvoke k i) (Reply.Invoked (invoked.Conflict h m)) brings was = tt
  next_has free kept g (AtInvoke k i) (Reply.Invoked (invoked.Changed w)) brings was = tt
  next_has free kept g (AtInvoke k i) (Reply.Bound r) brings was = tt
  next_has free kept g (AtInvoke k i) (Reply.Loaded r) brings was = tt
  next_has free kept g (AtInvoke k i) (Reply.Activated r) brings was = tt
  next_has free kept g (AtInvoke k i) (Reply.Noted r) brings was = tt
  next_has free kept g (AtInvoke k i) (Reply.Voted r) brings was = tt
  next_has free kept g (AtInvoke k i) (Reply.Prepared r) brings was = tt
  next_has free kept g (AtInvoke k i) (Reply.Confirmed r) brings was = tt

-- ---- a coordinator goes on

module _ (P : Of) where
  abbrev Steady : Coord → Type 0
  Steady c = StepsHave P c

  do_has : (u : Uid) (f : Doing → Doing) (e : Coord) →
      ((d : Doing) (s : Steps) → doing_of u e ≡ Some d → (f d).now ≡ Calling s → StepHas P s) → Steady e → Steady (on_doing u f e)
  do_has u f e its all w d s found is = ⊎_elim (λ same. its same.1 s (ap (λ v. doing_of v e) (sym same.0) ∙ same.2)
      (ap (λ (z : Doing). z.now) same.3 ∙ is)) (λ other. all w d s other.1 is) (on_cases u f e w d found)

  step_has : (s : Steps) (n : CallStep) (e : Coord) → ((at : At) → n ≡ On at → AtHas P s.x at) → Steady e → Steady (step_call s n e).part
  step_has s (On at) e next all = λ u d w found is. do_has (actor s.path) (λ (d : Doing).
      record d { req = s.req + 1; now = Calling (record s { req = s.req + 1; at = at }) }) e (λ d w found is. one w is) all u d w found is
    where
      one : (w : Steps) → Calling (record s { req = s.req + 1; at = at }) ≡ Calling w → StepHas P w
      one w is = let same : record s { req = s.req + 1; at = at } ≡ w = cc is in subst (StepHas P) same (next at refl)
  step_has s (Ended g) e next all = by g
    where
      told : Coord
      told = on_root (root_of s.path) (root_heard s g) (on_doing (actor s.path) (λ (d : Doing). record d { now = Idle }) e)

      its : Steady told
      its u d w found is =
          do_has (actor s.path) (λ (d : Doing). record d { now = Idle }) e (λ d w found is. absurd (cc is)) all u d w found is

      by : (h : CallEnd) → Steady (doomed_by (actor s.path) h told)
      by (calls.Answered a) = its
      by (calls.Included st) = its
      by (calls.Conflict h w n) = its
      by (calls.Changed n w) = its
      by (calls.Lost n false) = its
      by (calls.Lost n true) = λ u d w found is. its u d w
          ((λ i. cond (sym (let q = doomed_same (actor s.path) told.tree in q.own u) i) (at_place u.num told.doings) None) ∙ found) is

  module _ (sent : List Post) (k : ℕ) (c : Coord) (place : Place sent k c) (all : Steady c) where
    pub heard_has : (from : ℕ) (a : Asked) (r : Reply) (intents : List (Uid × Intent)) → AnswersWaiting from a r c →
        ((d : Doing) (s : Steps) → doing_of a.act c ≡ Some d → d.now ≡ Calling s → waits_for_call from a r s ≡ true → Brings P s.x s.at r) →
        Steady (heard from a r intents c).part
    heard_has from a r intents fits brings = by (doing_of a.act c) refl
      where
        now : (d : Doing) → doing_of a.act c ≡ Some d → (n : Now) → d.now ≡ n → Steady (heard_now from a r intents c n).part
        now d found Idle is = all
        now d found (Calling s) is = one (waits_for_call from a r s) refl
          where
            one : (w : Bool) → waits_for_call from a r s ≡ w →
                Steady (cond {A = Served Coord (Unit {0})} w (heard_by (heard_call s r c)) (heard_none c)).part
            one true on =
                let m = answered (is_free (root_of s.path) (actor s.path) s.x c) (kept_at s c) s.goal s.at r in
                step_has s m.step (on_root (root_of s.path) (root_moved s r m) c)
                (λ at n_is. subst (Is P s.x) n_is (next_has P s.x (is_free (root_of s.path) (actor s.path) s.x c) (kept_at s c) s.goal s.at
                r (brings d s found is on) (all a.act d s found is)))
                (λ u e w at is. all u e w at is)
            one false off = all
        now d found (Committing m) is = subst (λ (n : Now). Steady (heard_now from a r intents c n).part) is
            (subst (λ (o : Option Doing). Steady (heard_doing from a r intents c o).part) found
            (waiting_heard (StepHas P) sent k c place from a r intents fits
            (λ s e req at e_found e_now was new. absurd (let same : d ≡ e = some_is (sym found ∙ e_found) in
            let no_way : Committing m ≡ Calling s = sym is ∙ ap (λ (z : Doing). z.now) same ∙ e_now in cc no_way)) all))

        by : (o : Option Doing) → doing_of a.act c ≡ o → Steady (heard_doing from a r intents c o).part
        by None none = all
        by (Some d) found = now d found d.now refl

    pub acked_has : (from : ℕ) (u : Uid) (intents : List (Uid × Intent)) → Steady (acked from u intents c).part
    acked_has from u intents = waiting_acked (StepHas P) sent k c place from u intents all

    pub again_has : Steady (again_all c.doings c).part
    again_has = waiting_again (StepHas P) sent k c place all

    pub acts_has : (hd : Header) (i : Input) (intents : List (Uid × Intent)) → refusal_up hd i c ≡ None →
        ((l : Label) (how : Kind) (parent : Option Label) → i ≢ input.Begin l how parent) → Steady (acts i intents c).part
    acts_has hd i intents free other = waiting_acts (StepHas P) sent k c place hd i intents free other starts lost all
      where
        starts : (p : _) (x : ℕ) (g : Goal) (known : Option Known) (avoid : Binding) (req : ℕ) → StepHas P (start p x g known avoid req)
        starts p x g None avoid req = tt
        starts p x g (Some q) avoid req = tt

        lost : (w : Steps) (req : ℕ) (at : At) → StepHas P w → given_up w.at ≡ On at → StepHas P (record w { req = req; at = at })
        lost w req at was is = by w.at was is
          where
            by : (n : At) → AtHas P w.x n → given_up n ≡ On at → AtHas P w.x at
            by (AtBind avoid) its e = absurd (cc e)
            by (AtLoad q m []) its e = absurd (cc e)
            by (AtLoad q m (t ∷ ts)) its e = let same : AtLoad q t ts ≡ at = cc e in subst (AtHas P w.x) same its.1
            by (AtActivate q st) its e = absurd (cc e)
            by (AtNote q i) its e = absurd (cc e)
            by (AtInvoke q i) its e = absurd (cc e)

  pub begins_has : (l : Label) (how : Kind) (parent : Option Label) (c : Coord) → Steady c →
      Steady (begin_action l how parent (parent_of parent c) c).part
  begins_has l how parent c all = waiting_begins (StepHas P) l how parent c all

  pub new_has : (node inc : ℕ) (telling : List (Uid × Intent)) → Steady (record (new_coord node inc) { telling = telling })
  new_has node inc telling = waiting_new (StepHas P) node inc telling
