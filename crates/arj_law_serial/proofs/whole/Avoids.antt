-- What a coordinator avoids, whatever it does: a call that begins avoids what its root kept, and asks so.
use Rattle.arj_law_parts.proofs.Words
use Words.{◌≡◌, ◌≢◌, ◌⊎◌, ◌∙◌, ◌+◌, ◌&&◌, ◌++◌, ℕ, zero, suc, Bool, true, false, cond, List, [], ◌∷◌, Option, Some, None, refl, sym, ap}
use Words.{subst, inl, inr, ⊎_elim, ⊤, ◌==◌, unwrap_or, list_any, In as In_list, Asked, Binding, Head, Header, Kind, Label, Op, Path, Uid}
use Words.{request, uids_of, Reply, actor, top_of, again_all, asks_node, begin_action, call, call_steps, commit_action, doomed_by, give_up}
use Words.{give_up_call, given_away, goes_on, granted_by, heard, heard_call, include, is_invoke_ask, keeps_after, kept_at, known_at_start}
use Words.{next_req, notes_grant, renewed, root_heard, root_lost, root_moved, step_call, At, AtActivate, AtBind, AtInvoke, AtLoad, AtNote}
use Words.{CallEnd, CallStep, Ended, Goal, Include, Known, Moved, On, Run, Steps, answered, bound_by, given_up, has_changed, live_known}
use Words.{load_from, made_by, made_known, next_ask, next_node, or_lost, other_binding, same_binding, start, with_inc, write_known, plan_of}
use Words.{Calling, Committing, Coord, Doing, Grant, Idle, Keeping, Now, Root, Went, doing_of, is_free, keeping_of, new_coord, no_keeping}
use Words.{no_root, on_doing, on_root, root_at, same_said, same_went, with_keeping, with_went, Effect, Intent, Send, abort_action, acked}
use Words.{root_after, keeping_after, at_number, binding_eq, binding_less, unbound, Input, acts, branch_named, commit_reasons, on_branch}
use Words.{parent_of, refusal_up, refused_by, Branch, at_place, doomed_at, ended_at, ends_of, is_own, root_of, uses_object, put_other}
use Words.{put_same, one_or_two, Post}
use Words.ask
use Words.bound
use Words.loaded
use Words.recorded
use Words.invoked
use Words.calls
use Words.input
use Rattle.arj_law_serial.proofs.Terms
use Terms.{on_cases, on_roots, root_cases, paths_of, begun_tree, named_found, off, doomed_same, uses_same, get_more, at_each, end_tree_on}
use Terms.{AnswersWaiting, Place, Pieces, abort_so, acked_so, again_so, commit_so, give_up_so, heard_so, Avoids}
use Rattle.arj_law_lock_view.proofs.facts.Pieces.{IsStep}

some_is : {A : Type 0} {a b : A} → Some a ≡ Some b → a ≡ b
some_is {A} {a} {b} is = let k : ◌≡◌ {A = Option A} (Some a) (Some b) = is in cc

-- ---- the step that waits next

-- it is none that binds, or the one that waited
abbrev StepOn : At → CallStep → Type 0
StepOn at (On next) = (next ≡ at) ⊎ ((a : Binding) → next ≢ AtBind a)
StepOn at (Ended e) = ⊤

abbrev IsPast : At → Type 0
IsPast next = (a : Binding) → next ≢ AtBind a

on_with_inc : (at : At) (i : ℕ) (kept : Known) (next : At) (o : Option ℕ) → IsPast next →
    StepOn at (let m = with_inc i kept next o in m.step)
on_with_inc at i kept next None past = inr past
on_with_inc at i kept next (Some first) past = by (first == i)
  where
    by : (b : Bool) → StepOn at (let m = cond {A = Moved} b (calls.moves (Some kept) next)
        (calls.finds (Some kept) (calls.Changed kept.server (calls.two_incs first i))) in m.step)
    by true = inr past
    by false = tt

on_bound : (at : At) (free : Bool) (k : Known) (next : At) (kept : Option Known) → IsPast next →
    StepOn at (let m = bound_by free k next kept in m.step)
on_bound at free k next None past = inr past
on_bound at free k next (Some old) past = by (binding_eq old.binding k.binding)
  where
    same : (o : Option ℕ) → StepOn at (let m = same_binding old k next o in m.step)
    same None = inr past
    same (Some i) = on_with_inc at i (calls.named_again old k) next old.inc past

    other : (b : Bool) → StepOn at (let m = cond {A = Moved} b (calls.moves (Some k) next)
        (calls.finds (Some old) (calls.Changed 1 (calls.two_bindings old.binding k.binding))) in m.step)
    other true = inr past
    other false = tt

    by : (b : Bool) → StepOn at (let m = cond {A = Moved} b (same_binding old k next k.inc) (other_binding free old k next) in m.step)
    by true = same k.inc
    by false = other (free && binding_less old.binding k.binding)

on_loads : (at : At) (k : Known) (stores : List ℕ) (n : At) → load_from k stores ≡ Some n → IsPast n
on_loads at k [] n is = absurd (cc is)
on_loads at k (s ∷ ss) n is = let same : AtLoad k s ss ≡ n = some_is is in subst IsPast same (λ a e. cc e)

on_answered : (free : Bool) (kept : Option Known) (g : Goal) (at : At) (r : Reply) → StepOn at (let m = answered free kept g at r in m.step)
on_answered free kept g (AtBind avoid) (Reply.Bound (bound.Live b server i gr stores)) =
    on_bound (AtBind avoid) free (live_known b server i gr stores) (AtInvoke (live_known b server i gr stores) i) kept (λ a e. cc e)
on_answered free kept g (AtBind avoid) (Reply.Bound (bound.Make b server gr stores)) =
    by (load_from (made_known b server gr stores) stores) refl
  where
    by : (o : Option At) → load_from (made_known b server gr stores) stores ≡ o →
        StepOn (AtBind avoid) (let m = made_by free (made_known b server gr stores) kept o in m.step)
    by None is = tt
    by (Some n) is =
        on_bound (AtBind avoid) free (made_known b server gr stores) n kept (on_loads n (made_known b server gr stores) stores n is)
on_answered free kept g (AtBind avoid) (Reply.Bound (bound.Write gr stores)) = by (load_from (write_known gr stores) stores) refl
  where
    by : (o : Option At) → load_from (write_known gr stores) stores ≡ o → StepOn (AtBind avoid) (let m = or_lost kept o in m.step)
    by None is = tt
    by (Some n) is = inr (on_loads n (write_known gr stores) stores n is)
on_answered free kept g (AtBind avoid) (Reply.Bound (bound.Conflict holder m)) = tt
on_answered free kept (Run o) (AtLoad k s rest) (Reply.Loaded (loaded.State st)) = inr (λ a e. cc e)
on_answered free kept (Include n) (AtLoad k s rest) (Reply.Loaded (loaded.State st)) = tt
on_answered free kept g (AtLoad k s rest) (Reply.Loaded (loaded.InDoubt holder)) = tt
on_answered free None g (AtActivate k st) (Reply.Activated i) = inr (λ a e. cc e)
on_answered free (Some old) g (AtActivate k st) (Reply.Activated i) = by (binding_eq old.binding k.binding)
  where
    by : (b : Bool) → StepOn (AtActivate k st)
        (let m = cond {A = Moved} b (with_inc i old (AtNote k i) old.inc) (calls.moves (Some old) (AtNote k i)) in m.step)
    by true = on_with_inc (AtActivate k st) i old (AtNote k i) old.inc (λ a e. cc e)
    by false = inr (λ a e. cc e)
on_answered free kept g (AtNote k i) (Reply.Noted recorded.Yes) = inr (λ a e. cc e)
on_answered free kept g (AtNote k i) (Reply.Noted (recorded.Changed w)) = tt
on_answered free kept g (AtInvoke k i) (Reply.Invoked (invoked.Answered a)) = tt
on_answered free kept g (AtInvoke k i) (Reply.Invoked (invoked.Conflict holder m)) = tt
on_answered free kept g (AtInvoke k i) (Reply.Invoked (invoked.Changed w)) = tt
on_answered free kept g at r = inl refl

on_given_up : (at : At) → StepOn at (given_up at)
on_given_up (AtBind avoid) = tt
on_given_up (AtLoad k s []) = tt
on_given_up (AtLoad k s (t ∷ ts)) = inr (λ a e. cc e)
on_given_up (AtActivate k st) = tt
on_given_up (AtNote k i) = tt
on_given_up (AtInvoke k i) = tt

-- ---- what is avoided

-- what the root of an action's call keeps of the object from then on
abbrev pub renewed_at : Branch → ℕ → Coord → Keeping
renewed_at b x c = let r = root_at (root_of b.path) c in
    renewed (is_free (root_of b.path) (actor b.path) x c) (keeping_of x r) (let h = keeping_of x r in h.kept)

module _ (W : ℕ → Binding → Type 0) (none : (x : ℕ) → W x unbound) where
  -- what a root avoids
  abbrev AtRoot : Root → Type 0
  AtRoot q = (x : ℕ) → W x (let k = keeping_of x q in k.avoid)

  put_so : (y : ℕ) (k : Keeping) (q : Root) → W y k.avoid → AtRoot q → AtRoot (with_keeping y k q)
  put_so y k q its so x = ⊎_elim
      (λ same. subst (λ (z : ℕ). W z (let h = keeping_of z (with_keeping y k q) in h.avoid)) same
      (subst (λ (h : Option Keeping). W y (let u = unwrap_or h no_keeping in u.avoid)) (sym (put_same y k q.keeping)) its))
      (λ apart. subst (λ (h : Option Keeping). W x (let u = unwrap_or h no_keeping in u.avoid)) (sym (put_other y x k q.keeping apart.0))
      (so x)) (one_or_two y x)

  keeps_so : (g : Goal) (spoilt : Bool) (kept : Option Known) (y : ℕ) (k : Keeping) → W y k.avoid →
      W y (let h = keeps_after g spoilt kept k in h.avoid)
  keeps_so (Run o) spoilt kept y k its = its
  keeps_so (Include s) spoilt kept y k its = its

  notes_so : (g : Option Grant) (q : Root) → AtRoot q → AtRoot (notes_grant g q)
  notes_so None q so = so
  notes_so (Some g) q so = so

  went_so : (w : Went) (q : Root) → AtRoot q → AtRoot (with_went w q)
  went_so w q so = by (list_any (same_went w) q.went)
    where
      by : (b : Bool) → AtRoot (cond b q (record q { went = q.went ++ w ∷ [] }))
      by true = so
      by false = so

  heard_so_root : (s : Steps) (e : CallEnd) (q : Root) → AtRoot q → AtRoot (root_heard s e q)
  heard_so_root s (calls.Answered a) q so = by (list_any (same_said (record { path = uids_of s.path; x = s.x })) q.said)
    where
      by : (b : Bool) → AtRoot (cond b q (record q { said = q.said ++ record { path = uids_of s.path; x = s.x } ∷ [] }))
      by true = so
      by false = so
  heard_so_root s (calls.Included st) q so = so
  heard_so_root s (calls.Conflict holder m n) q so = so
  heard_so_root s (calls.Changed n w) q so = so
  heard_so_root s (calls.Lost n b) q so = so

  after_so : (p : _) (q : Root) → AtRoot q → AtRoot (root_after p q)
  after_so p q so x = by (at_number x (let r = root_after p q in r.keeping)) refl
    where
      by : (o : Option Keeping) → at_number x (let r = root_after p q in r.keeping) ≡ o → W x (let u = unwrap_or o no_keeping in u.avoid)
      by None is = none x
      by (Some k) is =
          let g = at_each (keeping_after p) x q.keeping k is in
          subst (λ (z : Keeping). W x z.avoid) (sym g.2)
          (subst (λ (o : Option Keeping). W x (let u = unwrap_or o no_keeping in u.avoid)) g.1 (so x))

  -- ---- a coordinator

  on_root_so : (r : Uid) (f : Root → Root) (e : Coord) → ((q : Root) → AtRoot q → AtRoot (f q)) → Avoids W e → Avoids W (on_root r f e)
  on_root_so r f e goes a = record {
    works = λ u d s b found is at. a.works u d s b found is at;
    roots = λ root x. ⊎_elim
        (λ same. subst (λ (z : Root). W x (let k = keeping_of x z in k.avoid)) (sym same.1) (goes (root_at root e) (λ y. a.roots root y) x))
        (λ other. subst (λ (z : Root). W x (let k = keeping_of x z in k.avoid)) (sym other) (a.roots root x)) (root_cases r f e root);
  }

  on_work_so : (u : Uid) (f : Doing → Doing) (e : Coord) → ((d : Doing) (s : Steps) (b : Binding) → doing_of u e ≡ Some d →
      (let z = f d in z.now) ≡ Calling s → s.at ≡ AtBind b → W s.x b) → Avoids W e → Avoids W (on_doing u f e)
  on_work_so u f e its a = record {
    works = λ w d s b found is at. ⊎_elim
        (λ same. its same.1 s b (ap (λ v. doing_of v e) (sym same.0) ∙ same.2) (ap (λ (z : Doing). z.now) same.3 ∙ is) at)
        (λ other. a.works w d s b other.1 is at) (on_cases u f e w d found);
    roots = λ root x. subst (λ rs. W x (let k = keeping_of x (unwrap_or (at_number root.num rs) no_root) in k.avoid)) (sym (on_roots u f e))
        (a.roots root x);
  }

  own_so : (e f : Coord) → ((u : Uid) → is_own u f.tree ≡ is_own u e.tree) → f.doings ≡ e.doings → f.roots ≡ e.roots → Avoids W e →
      Avoids W f
  own_so e f own doings roots a = record {
    works = λ w d s b found is at. a.works w d s b ((λ i. cond (sym (own w) i) (at_place w.num (sym doings i)) None) ∙ found) is at;
    roots = λ root x.
        subst (λ rs. W x (let k = keeping_of x (unwrap_or (at_number root.num rs) no_root) in k.avoid)) (sym roots) (a.roots root x);
  }

  idle_so : (u : Uid) (e : Coord) → Avoids W e → Avoids W (on_doing u (λ (d : Doing). record d { now = Idle }) e)
  idle_so u e a = on_work_so u (λ (d : Doing). record d { now = Idle }) e (λ d s b found is at. absurd (cc is)) a

  asks_so : (p : Path) (req : ℕ) (q : ℕ × _) (e : Coord) → Avoids W e → Avoids W (asks_node p req q e).part
  asks_so p req q e a = on_root_so (root_of p) (with_went (record { path = uids_of p; node = q.0; invoke = is_invoke_ask q.1 })) e
      (λ r so. went_so (record { path = uids_of p; node = q.0; invoke = is_invoke_ask q.1 }) r so) a

  goes_so : (s : Steps) (e : Coord) → ((b : Binding) → s.at ≡ AtBind b → W s.x b) → Avoids W e → Avoids W (goes_on s e).part
  goes_so s e its a =
      let f : Coord = on_doing (actor s.path) (λ (d : Doing). record d { req = s.req; now = Calling s }) e in
      asks_so s.path s.req (next_node s, next_ask (ends_of (root_of s.path) f.tree) s) f
      (on_work_so (actor s.path) (λ (d : Doing). record d { req = s.req; now = Calling s }) e
      (λ d z b found is at. let same : s ≡ z = cc is in subst (λ (y : Steps). y.at ≡ AtBind b → W y.x b) same (its b) at) a)

  pub pieces_so : (c : Coord) → Avoids W c → Pieces c (Avoids W)
  pieces_so c a = record {
    start = a;
    end_tree = λ u how e q. let g = end_tree_on u how e in own_so e (record e { tree = ended_at u how e.tree }) g.own refl refl q;
    idle = idle_so;
    took = λ u ns e q. on_work_so u (λ (d : Doing). record d { took = ns }) e (λ d s b found is at. q.works u d s b found is at) q;
    commits = λ u m e planned q.
        on_work_so u (λ (d : Doing). record d { req = (plan_of m).req; now = Committing m }) e (λ d s b found is at. absurd (cc is)) q;
    asks = λ p req b e rooted q. asks_so p req b e q;
    decides = λ p e rooted q. on_root_so (root_of p.path) (root_after p) e (λ r so. after_so p r so) q;
    telling = λ i e q. record { works = q.works; roots = q.roots };
  }

  step_so : (s : Steps) (n : CallStep) (e : Coord) → StepOn s.at n → ((b : Binding) → s.at ≡ AtBind b → W s.x b) → Avoids W e →
      Avoids W (step_call s n e).part
  step_so s (On next) e on its a =
      goes_so (record s { req = s.req + 1; at = next }) e (λ b is. ⊎_elim (λ same. its b (sym same ∙ is)) (λ past. absurd (past b is)) on) a
  step_so s (Ended g) e on its a = by g
    where
      told : Coord
      told = on_root (root_of s.path) (root_heard s g) (on_doing (actor s.path) (λ (d : Doing). record d { now = Idle }) e)

      so : Avoids W told
      so = on_root_so (root_of s.path) (root_heard s g) (on_doing (actor s.path) (λ (d : Doing). record d { now = Idle }) e)
          (λ r h. heard_so_root s g r h) (idle_so (actor s.path) e a)

      by : (h : CallEnd) → Avoids W (doomed_by (actor s.path) h told)
      by (calls.Answered x) = so
      by (calls.Included st) = so
      by (calls.Conflict h x n) = so
      by (calls.Changed n w) = so
      by (calls.Lost n false) = so
      by (calls.Lost n true) = let q = doomed_same (actor s.path) told.tree in
          own_so told (record told { tree = doomed_at (actor s.path) told.tree }) q.own refl refl so

  heard_step : (c : Coord) (r : Reply) (s : Steps) → Avoids W c → IsStep c s → Avoids W (heard_call s r c).part
  heard_step c r s a i =
      let m = answered (is_free (root_of s.path) (actor s.path) s.x c) (kept_at s c) s.goal s.at r in
      step_so s m.step (on_root (root_of s.path) (root_moved s r m) c) (on_answered (is_free (root_of s.path) (actor s.path) s.x c)
      (kept_at s c) s.goal s.at r) (λ b at. a.works (actor s.path) i.doing s b i.found i.now at)
      (on_root_so (root_of s.path) (root_moved s r m) c (λ q so. put_so s.x
      (keeps_after s.goal (has_changed m.step) m.kept (keeping_of s.x q)) (notes_grant (granted_by (top_of s.path) s.x r) q) (keeps_so
      s.goal (has_changed m.step) m.kept s.x (keeping_of s.x q) (so s.x)) (notes_so (granted_by (top_of s.path) s.x r) q so)) a)

  lost_step : (c : Coord) (s : Steps) → Avoids W c → IsStep c s → Avoids W (give_up_call s c).part
  lost_step c s a i =
      step_so s (given_up s.at) (on_root (root_of s.path) (root_lost s (given_up s.at)) c) (on_given_up s.at)
      (λ b at. a.works (actor s.path) i.doing s b i.found i.now at)
      (on_root_so (root_of s.path) (root_lost s (given_up s.at)) c
      (λ q so. put_so s.x _ q (keeps_so s.goal _ _ s.x (keeping_of s.x q) (so s.x)) so) a)

  include_step : (c : Coord) (p : Path) (x s : ℕ) → Avoids W c → Avoids W (include p x s c).part
  include_step c p x s a = goes_so (start p x (Include s) None unbound (next_req (actor p) c)) (record c { tree = uses_object p x c.tree })
      (λ b at. let same : unbound ≡ b = cc at in subst (W x) same (none x)) (let q = uses_same p x c.tree in
      own_so c (record c { tree = uses_object p x c.tree }) q.own refl refl a)

  -- the binding that a call avoids from now on is so
  call_step : (c : Coord) (p : Path) (x : ℕ) (o : Op) → W x (let r = root_at (root_of p) c in let k = renewed (is_free (root_of p) (actor p)
      x c) (keeping_of x r) (let h = keeping_of x r in h.kept) in k.avoid) → Avoids W c → Avoids W (call p x o c).part
  call_step c p x o its a =
      let r = root_at (root_of p) c in
      let old = keeping_of x r in
      let k = renewed (is_free (root_of p) (actor p) x c) old old.kept in
      let t = record c { tree = uses_object p x c.tree } in
      goes_so (call_steps p x o (next_req (actor p) c) r c k) (on_root (root_of p) (with_keeping x k) t)
      (by (known_at_start (top_of p) x r c k.kept) k.avoid its)
      (on_root_so (root_of p) (with_keeping x k) t (λ q so. put_so x k q its so) (let q = uses_same p x c.tree in
      own_so c t q.own refl refl a))
    where
      by : (known : Option Known) (avoid : Binding) → W x avoid → (b : Binding) → calls.start_at known avoid ≡ AtBind b → W x b
      by None avoid so b at = let same : avoid ≡ b = cc at in subst (W x) same so
      by (Some k) avoid so b at = absurd (cc at)

  -- ---- all that it does, but calls that begin

  module _ (sent : List Post) (k : ℕ) (c : Coord) (place : Place sent k c) (a : Avoids W c) where
    pub avoids_heard : (from : ℕ) (q : Asked) (r : Reply) (intents : List (Uid × Intent)) → AnswersWaiting from q r c →
        Avoids W (heard from q r intents c).part
    avoids_heard from q r intents fits =
        heard_so sent k c place (Avoids W) (pieces_so c a) from q r intents fits (λ s step on who. heard_step c r s a step)

    pub avoids_acked : (from : ℕ) (u : Uid) (intents : List (Uid × Intent)) → Avoids W (acked from u intents c).part
    avoids_acked from u intents = acked_so sent k c place (Avoids W) (pieces_so c a) from u intents

    pub avoids_again : Avoids W (again_all c.doings c).part
    avoids_again = again_so sent k c place (Avoids W) (pieces_so c a)

    -- all inputs, where the binding that a call avoids from now on is so
    pub avoids_by : (hd : Header) (i : Input) (intents : List (Uid × Intent)) → refusal_up hd i c ≡ None →
        ((l : Label) (q : Kind) (parent : Option Label) → i ≢ input.Begin l q parent)
        → ((l : Label) (x : ℕ) (o : Op) (b : Branch) → i ≡ input.Call l x o → branch_named l c ≡ Some b →
        W x (let k = renewed_at b x c in k.avoid)) → Avoids W (let d = acts i intents c in d.part)
    avoids_by hd (input.Begin l q parent) intents free other calls_it = absurd (other l q parent refl)
    avoids_by hd (input.Call l x o) intents free other calls_it = by (branch_named l c) refl
      where
        by : (f : Option Branch) → branch_named l c ≡ f → (let d = on_branch (λ b. call b.path x o c) c f in Avoids W d.part)
        by None is = a
        by (Some b) is = call_step c b.path x o (calls_it l x o b refl is) a
    avoids_by hd (input.Include l x s) intents free other calls_it = by (branch_named l c)
      where
        by : (f : Option Branch) → (let d = on_branch (λ b. include b.path x s c) c f in Avoids W d.part)
        by None = a
        by (Some b) = include_step c b.path x s a
    avoids_by hd (input.Commit l) intents free other calls_it = by (branch_named l c) refl free
      where
        by : (f : Option Branch) → branch_named l c ≡ f → refused_by commit_reasons c f ≡ None →
            (let d = on_branch (λ b. commit_action b intents c) c f in Avoids W d.part)
        by None is e = a
        by (Some b) is e = commit_so sent k c place (Avoids W) (pieces_so c a) b intents (named_found place.actions
            (paths_of place.actions) (begun_tree place.actions place.begun) intents c place.good l b is) (off (commit_reasons b c) e).0
    avoids_by hd (input.Abort l) intents free other calls_it = by (branch_named l c)
      where
        by : (f : Option Branch) → (let d = on_branch (λ b. abort_action (actor b.path) intents c) c f in Avoids W d.part)
        by None = a
        by (Some b) = abort_so sent k c place (Avoids W) (pieces_so c a) (actor b.path) intents
    avoids_by hd (input.GiveUp l) intents free other calls_it = by (branch_named l c)
      where
        by : (f : Option Branch) → (let d = on_branch (λ b. give_up (actor b.path) intents c) c f in Avoids W d.part)
        by None = a
        by (Some b) = give_up_so sent k c place (Avoids W) (pieces_so c a) (actor b.path) intents (λ s step. lost_step c s a step)
    avoids_by hd (input.Frame j from m) intents free other calls_it = a
    avoids_by hd input.Tick intents free other calls_it = a
    avoids_by hd input.Restart intents free other calls_it = a
    avoids_by hd input.Crash intents free other calls_it = a
    avoids_by hd (input.Show x) intents free other calls_it = a

  pub avoids_begin : (l : Label) (how : Kind) (parent : Option Label) (c : Coord) → Avoids W c →
      Avoids W (begin_action l how parent (parent_of parent c) c).part
  avoids_begin l how parent c a = record { works = works; roots = a.roots }
    where
      fresh : Doing
      fresh = record { label = l; req = 0; now = Idle; took = [] }

      was : (b : Bool) (j : ℕ) (d : Doing) → cond b (at_place j (c.doings ++ fresh ∷ [])) None ≡ Some d →
          (cond b (at_place j c.doings) None ≡ Some d) ⊎ (d.now ≡ Idle)
      was true zero d at = absurd (cc at)
      was true (suc j) d at = ⊎_elim (λ old. inl old) (λ its. inr (ap (λ (z : Doing). z.now) (sym its.1))) (get_more j fresh d c.doings at)
      was false j d at = absurd (cc at)

      works : (u : Uid) (d : Doing) (s : Steps) (b : Binding) →
          doing_of u (begin_action l how parent (parent_of parent c) c).part ≡ Some d → d.now ≡ Calling s → s.at ≡ AtBind b → W s.x b
      works u d s b found is at = ⊎_elim (λ old. a.works u d s b old is at)
          (λ idle. let no_way : ◌≡◌ {A = Now} Idle (Calling s) = sym idle ∙ is in absurd (cc no_way)) (was (is_own u c.tree) u.num d found)

  -- nothing is avoided at first
  pub avoids_new : (node inc : ℕ) (telling : List (Uid × Intent)) → Avoids W (record (new_coord node inc) { telling = telling })
  avoids_new node inc telling = record { works = λ u d s b found is at. absurd (no_doing u d found); roots = λ root x. none x }
    where
      no_doing : (u : Uid) (d : Doing) → doing_of u (new_coord node inc) ≡ Some d → ⊥
      no_doing u d is = by (is_own u (let c = new_coord node inc in c.tree)) u.num is
        where
          by : (x : Bool) (j : ℕ) → cond x (at_place j []) None ≡ Some d → ⊥
          by true zero e = cc e
          by true (suc j) e = cc e
          by false j e = cc e

-- ---- what is sent with it

-- a Bind of the object that avoids the binding goes out
pub record GoesOut (outs : List Effect) (x : ℕ) (a : Binding) : Type 0 where
  pub to : ℕ
  pub head : Head
  pub include : Bool
  pub out : In_list (Send to (request head (ask.Bind x include a))) outs

module _ (W : ℕ → Binding → Type 0) (none : (x : ℕ) → W x unbound) where
  abbrev OrOut : List Effect → ℕ → Binding → Type 0
  OrOut outs x a = W x a ⊎ GoesOut outs x a

  weaker : (outs : List Effect) (c : Coord) → Avoids W c → Avoids (OrOut outs) c
  weaker outs c a = record { works = λ u d s b found is at. inl (a.works u d s b found is at); roots = λ root x. inl (a.roots root x) }

  -- a call that begins asks so
  called_out : (c : Coord) (b : Branch) (x : ℕ) (o : Op) → Avoids W c →
      (let d = call b.path x o c in OrOut d.outs x (let k = renewed_at b x c in k.avoid))
  called_out c b x o a = by old.kept refl
    where
      p : Path
      p = b.path

      r : Root
      r = root_at (root_of p) c

      old : Keeping
      old = keeping_of x r

      -- with what the root keeps from now on
      Outs : Keeping → List Effect
      Outs k = let d = goes_on (call_steps p x o (next_req (actor p) c) r c k)
          (on_root (root_of p) (with_keeping x k) (record c { tree = uses_object p x c.tree })) in d.outs

      given : (f : Bool) (was : Known) → (let k = cond f (given_away old was) old in OrOut (Outs k) x k.avoid)
      given true was = inr (record { to = 1; head = record { path = p; req = next_req (actor p) c }; include = false; out = inl refl })
      given false was = inl (a.roots (root_of p) x)

      by : (kept : Option Known) → old.kept ≡ kept →
          (let k = renewed (is_free (root_of p) (actor p) x c) old kept in OrOut (Outs k) x k.avoid)
      by None is = inl (a.roots (root_of p) x)
      by (Some was) is = given (is_free (root_of p) (actor p) x c && old.spoiled) was

  pub avoids_acts : (sent : List Post) (k : ℕ) (c : Coord) → Place sent k c → Avoids W c →
      (hd : Header) (i : Input) (intents : List (Uid × Intent)) → refusal_up hd i c ≡ None → ((l : Label) (q : Kind) (parent : Option Label)
      → i ≢ input.Begin l q parent) → Avoids (OrOut (let d = acts i intents c in d.outs)) (let d = acts i intents c in d.part)
  avoids_acts sent k c place a hd i intents free other = avoids_by (OrOut (let d = acts i intents c in d.outs)) (λ y. inl (none y)) sent k c
      place (weaker (let d = acts i intents c in d.outs) c a) hd i intents free other calls_it
    where
      calls_it : (l : Label) (x : ℕ) (o : Op) (b : Branch) → i ≡ input.Call l x o → branch_named l c ≡ Some b →
          OrOut (let d = acts i intents c in d.outs) x (let h = renewed_at b x c in h.avoid)
      calls_it l x o b same is =
          subst (λ (j : Input). OrOut (let d = acts j intents c in d.outs) x (let h = renewed_at b x c in h.avoid)) (sym same)
          (subst (λ (f : Option Branch). OrOut (let d = on_branch (λ z. call z.path x o c) c f in d.outs) x (let h = renewed_at b x c in
          h.avoid)) (sym is) (called_out c b x o a))
