-- The steps of a call stand on what naming answered.
use Rattle.arj_law_parts.proofs.Words
use Words.{Bool, List, None, Option, Some, [], ap, cond, false, refl, subst, sym, true, ℕ, ⊎_elim, ◌+◌, ◌∙◌, ◌∷◌, ◌≡◌, ◌≢◌, Ask, Asked}
use Words.{Binding, BoundReply, Head, Header, Kind, Label, Message, ObjectState, Path, Uid, asks, At, AtActivate, AtBind, AtInvoke, AtLoad}
use Words.{AtNote, CallEnd, CallStep, Ended, Goal, Include, Known, On, Run, Steps, activated_by, answered, ask_at, given_up, live_known}
use Words.{load_from, made_by, made_known, or_lost, start, with_inc, write_known, Calling, Committing, Coord, Doing, Idle, Now, doing_of}
use Words.{is_free, new_coord, on_doing, on_root, Confirming, Machine, Preparing, Voting, ask_of, In, Input, acts, parent_of, refusal_up}
use Words.{Intent, Send, Served, Post, Reply, actor, acked, again_all, begin_action, doomed_by, heard, heard_by, heard_call, heard_doing}
use Words.{heard_none, heard_now, kept_at, root_heard, root_moved, step_call, waits_for_call, at_place, root_of, binding_eq, ⊤}
use Words.calls
use Words.input
use Words.ask
use Words.bound
use Words.invoked
use Words.loaded
use Words.recorded
use Rattle.arj_law_promise.proofs.Terms
use Terms.{AnswersWaiting, IsSentBy, SendsSo, Place, on_cases, doomed_same, some_is, waiting_acked, waiting_acts, waiting_again}
use Terms.{waiting_begins, waiting_heard, waiting_new, ActivateNamed, Claims, IsAnsweredBy, NamedAt, StepsNamed, WasNamed}
use Rattle.arj_law_promise.proofs.waiting.Stepping.{IsOn, bound_so, inc_so}
use Rattle.arj_law_promise.specs.waiting.Asked.{StepNamed}
use Rattle.arj_law_runs.specs.addresses.Binds.{AnswersAt}

-- ---- the step behind an answer

module _ (sent : List Post) (claims : Claims) (p : Path) (x : ℕ) where
  abbrev Named : Known → Type 0
  Named k = WasNamed sent claims p x k.binding k.grant

  module _ (g : Goal) where
    abbrev Is : CallStep → Type 0
    Is = IsOn (NamedAt sent claims g p x)

    made_so : (free : Bool) (k : Known) (kept : Option Known) → Named k → (stores : List ℕ) →
        Is (made_by free k kept (load_from k stores)).step
    made_so free k kept named [] = tt
    made_so free k kept named (s ∷ ss) = bound_so (NamedAt sent claims g p x) (AtLoad k s ss) (λ o is. named) free k kept

    active_so : (k : Known) (i : ℕ) (kept : Option Known) → Named k → Is (activated_by k i kept).step
    active_so k i None named = named
    active_so k i (Some old) named = by (binding_eq old.binding k.binding)
      where
        by : (b : Bool) → Is (cond b (with_inc i old (AtNote k i) old.inc) (calls.moves (Some old) (AtNote k i))).step
        by true = inc_so (NamedAt sent claims g p x) (AtNote k i) named i old old.inc
        by false = named

  -- an include has no binding
  lost_so : (s : ℕ) (k : Known) (kept : Option Known) (stores : List ℕ) → Is (Include s) (or_lost kept (load_from k stores)).step
  lost_so s k kept [] = tt
  lost_so s k kept (n ∷ ns) = λ o is. absurd (cc is)

  -- what an answer has to bring: a new binding was answered to this path, and a state is of the object
  abbrev pub BindBrings : At → BoundReply → Type 0
  BindBrings (AtBind avoid) (bound.Make b server g stores) = WasNamed sent claims p x b g
  BindBrings at r = ⊤

  abbrev pub Brings : At → Reply → Type 0
  Brings at (Reply.Bound r) = BindBrings at r
  Brings at (Reply.Loaded (loaded.State st)) = (let u = st.uid in u.num) ≡ x
  Brings at r = ⊤

  pub next_named : (free : Bool) (kept : Option Known) (g : Goal) (at : At) (r : Reply) → AnswersAt g at r → Brings at r →
      NamedAt sent claims g p x at → Is g (answered free kept g at r).step
  next_named free kept g (AtBind avoid) (Reply.Bound (bound.Live b server i n stores)) fits brings was =
      bound_so (NamedAt sent claims g p x) (AtInvoke (live_known b server i n stores) i) tt free (live_known b server i n stores) kept
  next_named free kept g (AtBind avoid) (Reply.Bound (bound.Make b server n stores)) fits brings was =
      made_so g free (made_known b server n stores) kept brings stores
  next_named free kept (Run o) (AtBind avoid) (Reply.Bound (bound.Write n stores)) fits brings was = absurd fits
  next_named free kept (Include s) (AtBind avoid) (Reply.Bound (bound.Write n stores)) fits brings was =
      lost_so s (write_known n stores) kept stores
  next_named free kept g (AtBind avoid) (Reply.Bound (bound.Conflict holder m)) fits brings was = tt
  next_named free kept g (AtBind avoid) (Reply.Loaded r) fits brings was = tt
  next_named free kept g (AtBind avoid) (Reply.Activated r) fits brings was = tt
  next_named free kept g (AtBind avoid) (Reply.Noted r) fits brings was = tt
  next_named free kept g (AtBind avoid) (Reply.Invoked r) fits brings was = tt
  next_named free kept g (AtBind avoid) (Reply.Voted r) fits brings was = tt
  next_named free kept g (AtBind avoid) (Reply.Prepared r) fits brings was = tt
  next_named free kept g (AtBind avoid) (Reply.Confirmed r) fits brings was = tt
  next_named free kept (Run o) (AtLoad k n rest) (Reply.Loaded (loaded.State st)) fits brings was = (was o refl, brings)
  next_named free kept (Include s) (AtLoad k n rest) (Reply.Loaded (loaded.State st)) fits brings was = tt
  next_named free kept g (AtLoad k n rest) (Reply.Loaded (loaded.InDoubt q)) fits brings was = tt
  next_named free kept g (AtLoad k n rest) (Reply.Bound r) fits brings was = was
  next_named free kept g (AtLoad k n rest) (Reply.Activated r) fits brings was = was
  next_named free kept g (AtLoad k n rest) (Reply.Noted r) fits brings was = was
  next_named free kept g (AtLoad k n rest) (Reply.Invoked r) fits brings was = was
  next_named free kept g (AtLoad k n rest) (Reply.Voted r) fits brings was = was
  next_named free kept g (AtLoad k n rest) (Reply.Prepared r) fits brings was = was
  next_named free kept g (AtLoad k n rest) (Reply.Confirmed r) fits brings was = was
  next_named free kept g (AtActivate k st) (Reply.Activated i) fits brings was = active_so g k i kept was.0
  next_named free kept g (AtActivate k st) (Reply.Bound r) fits brings was = was
  next_named free kept g (AtActivate k st) (Reply.Loaded r) fits brings was = was
  next_named free kept g (AtActivate k st) (Reply.Noted r) fits brings was = was
  next_named free kept g (AtActivate k st) (Reply.Invoked r) fits brings was = was
  next_named free kept g (AtActivate k st) (Reply.Voted r) fits brings was = was
  next_named free kept g (AtActivate k st) (Reply.Prepared r) fits brings was = was
  next_named free kept g (AtActivate k st) (Reply.Confirmed r) fits brings was = was
  next_named free kept g (AtNote k i) (Reply.Noted recorded.Yes) fits brings was = tt
  next_named free kept g (AtNote k i) (Reply.Noted (recorded.Changed w)) fits brings was = tt
  next_named free kept g (AtNote k i) (Reply.Bound r) fits brings was = was
  next_named free kept g (AtNote k i) (Reply.Loaded r) fits brings was = was
  next_named free kept g (AtNote k i) (Reply.Activated r) fits brings was = was
  next_named free kept g (AtNote k i) (Reply.Invoked r) fits brings was = was
  next_named free kept g (AtNote k i) (Reply.Voted r) fits brings was = was
  next_named free kept g (AtNote k i) (Reply.Prepared r) fits brings was = was
  next_named free kept g (AtNote k i) (Reply.Confirmed r) fits brings was = was
  next_named free kept g (AtInvoke k i) (Reply.Invoked (invoked.Answered a)) fits brings was = tt
  next_named free kept g (AtInvoke k i) (Reply.Invoked (invoked.Conflict h m)) fits brings was = tt
  next_named free kept g (AtInvoke k i) (Reply.Invoked (invoked.Changed w)) fits brings was = tt
  next_named free kept g (AtInvoke k i) (Reply.Bound r) fits brings was = tt
  next_named free kept g (AtInvoke k i) (Reply.Loaded r) fits brings was = tt
  next_named free kept g (AtInvoke k i) (Reply.Activated r) fits brings was = tt
  next_named free kept g (AtInvoke k i) (Reply.Noted r) fits brings was = tt
  next_named free kept g (AtInvoke k i) (Reply.Voted r) fits brings was = tt
  next_named free kept g (AtInvoke k i) (Reply.Prepared r) fits brings was = tt
  next_named free kept g (AtInvoke k i) (Reply.Confirmed r) fits brings was = tt

-- ---- more was sent

pub by_more : (few many : List Post) → ((q : Post) → In q few → In q many) → (r : Post) (a : Asked) (h : Head) (b : Ask) →
    IsAnsweredBy few r a h b → IsAnsweredBy many r a h b
by_more few many in_it r a h b w =
    record { post = w.post; posted = in_it w.post w.posted; from = w.from; asking = w.asking; asker = w.asker }

module _ (few many : List Post) (in_it : (q : Post) → In q few →
    In q many) (less more : Claims) (grows : (p : Path) (x : ℕ) (b : Binding) (s g : ℕ) → less p x b s g → more p x b s g) where
  pub named_more : (p : Path) (x : ℕ) (b : Binding) (g : ℕ) → WasNamed few less p x b g → WasNamed many more p x b g
  named_more p x b g w = record {
    reply = w.reply;
    asked = w.asked;
    server = w.server;
    stores = w.stores;
    head = w.head;
    include = w.include;
    avoid = w.avoid;
    posted = in_it w.reply w.posted;
    answer = w.answer;
    by = by_more few many in_it w.reply w.asked w.head (ask.Bind x w.include w.avoid) w.by;
    path = w.path;
    claim = grows p x b w.server g w.claim;
  }

  pub at_more : (g : Goal) (p : Path) (x : ℕ) (at : At) → NamedAt few less g p x at → NamedAt many more g p x at
  at_more g p x (AtBind avoid) w = tt
  at_more g p x (AtLoad k n rest) w = λ o is. named_more p x k.binding k.grant (w o is)
  at_more g p x (AtActivate k st) w = (named_more p x k.binding k.grant w.0, w.1)
  at_more g p x (AtNote k i) w = named_more p x k.binding k.grant w
  at_more g p x (AtInvoke k i) w = tt

  pub steps_more : (c : Coord) → StepsNamed few less c → StepsNamed many more c
  steps_more c w u d s found now = at_more s.goal s.path s.x s.at (w u d s found now)

-- ---- what a coordinator sends

no_activate : (m : Machine) (n : ℕ) (b : Binding) (st : ObjectState) → ask.Activate b st ≡ ask_of m n → ⊥
no_activate (Voting p left) n b st is = cc is
no_activate (Preparing p left) n b st is = cc is
no_activate (Confirming p) n b st is = cc is

of_at : (sent : List Post) (claims : Claims) (g : Goal) (p : Path) (x : ℕ) (at : At) (b : Binding) (st : ObjectState) →
    ask.Activate b st ≡ ask_at x g [] at → NamedAt sent claims g p x at → (n : ℕ) × WasNamed sent claims p (let u = st.uid in u.num) b n
of_at sent claims g p x (AtBind avoid) b st is was = absurd (cc is)
of_at sent claims g p x (AtLoad k n rest) b st is was = absurd (cc is)
of_at sent claims g p x (AtActivate k o) b st is was =
    let one : b ≡ k.binding = cc is in
    let two : st ≡ o = cc is in (
      k.grant,
      subst (λ y. WasNamed sent claims p y b k.grant) (sym (ap (λ (z : ObjectState). let u = z.uid in u.num) two ∙ was.1))
          (subst (λ c. WasNamed sent claims p x c k.grant) (sym one) was.0),
    )
of_at sent claims g p x (AtNote k i) b st is was = absurd (cc is)
of_at sent claims g p x (AtInvoke k i) b st is was = absurd (cc is)

pub sends_named : (sent : List Post) (claims : Claims) (c : Coord) (to : ℕ) (m : Message) → SendsSo c (Send to m) → StepsNamed sent claims c
    → (h : Head) (b : Binding) (st : ObjectState) → asks m ≡ Some (h, ask.Activate b st) → ActivateNamed sent claims h b st
sends_named sent claims c to m so steps h b st is = by s.doing.now refl
  where
    s : IsSentBy c to h (ask.Activate b st)
    s = so h (ask.Activate b st) is

    by : (n : Now) → s.doing.now ≡ n → ActivateNamed sent claims h b st
    by Idle now = absurd (s.busy now)
    by (Calling w) now =
        let o = s.step w now in
        let z = of_at sent claims w.goal w.path w.x w.at b st o.same (steps (actor h.path) s.doing w s.found now) in
        (z.0, subst (λ (y : Head). WasNamed sent claims y.path (let u = st.uid in u.num) b z.0) (sym o.head) z.1)
    by (Committing q) now = let o = s.commit q now in absurd (no_activate q to b st o.same)

-- ---- a coordinator goes on

module _ (sent : List Post) (claims : Claims) where
  abbrev Steady : Coord → Type 0
  Steady c = StepsNamed sent claims c

  do_named : (u : Uid) (f : Doing → Doing) (e : Coord) → ((d : Doing) (s : Steps) → doing_of u e ≡ Some d → (f d).now ≡ Calling s →
      StepNamed sent claims s) → Steady e → Steady (on_doing u f e)
  do_named u f e its all w d s found is = ⊎_elim (λ same. its same.1 s (ap (λ v. doing_of v e) (sym same.0) ∙ same.2)
      (ap (λ (z : Doing). z.now) same.3 ∙ is)) (λ other. all w d s other.1 is) (on_cases u f e w d found)

  step_named : (s : Steps) (n : CallStep) (e : Coord) → ((at : At) → n ≡ On at → NamedAt sent claims s.goal s.path s.x at) → Steady e →
      Steady (step_call s n e).part
  step_named s (On at) e next all = λ u d w found is. do_named (actor s.path) (λ (d : Doing).
      record d { req = s.req + 1; now = Calling (record s { req = s.req + 1; at = at }) }) e (λ d w found is. one w is) all u d w found is
    where
      one : (w : Steps) → Calling (record s { req = s.req + 1; at = at }) ≡ Calling w → StepNamed sent claims w
      one w is = let same : record s { req = s.req + 1; at = at } ≡ w = cc is in subst (StepNamed sent claims) same (next at refl)
  step_named s (Ended g) e next all = by g
    where
      told : Coord
      told = on_root (root_of s.path) (root_heard s g) (on_doing (actor s.path) (λ (d : Doing). record d { now = Idle }) e)

      its : Steady told
      its u d w found is =
          do_named (actor s.path) (λ (d : Doing). record d { now = Idle }) e (λ d w found is. absurd (cc is)) all u d w found is

      by : (h : CallEnd) → Steady (doomed_by (actor s.path) h told)
      by (calls.Answered a) = its
      by (calls.Included st) = its
      by (calls.Conflict h w n) = its
      by (calls.Changed n w) = its
      by (calls.Lost n false) = its
      by (calls.Lost n true) = λ u d w found is. its u d w
          ((λ i. cond (sym (let q = doomed_same (actor s.path) told.tree in q.own u) i) (at_place u.num told.doings) None) ∙ found) is

  module _ (k : ℕ) (c : Coord) (place : Place sent k c) (all : Steady c) where
    pub heard_named : (from : ℕ) (a : Asked) (r : Reply) (intents : List (Uid × Intent)) → AnswersWaiting from a r c →
        ((d : Doing) (s : Steps) → doing_of a.act c ≡ Some d → d.now ≡ Calling s → waits_for_call from a r s ≡ true →
        Brings sent claims s.path s.x s.at r) → Steady (heard from a r intents c).part
    heard_named from a r intents fits brings = by (doing_of a.act c) refl
      where
        now : (d : Doing) → doing_of a.act c ≡ Some d → (n : Now) → d.now ≡ n → Steady (heard_now from a r intents c n).part
        now d found Idle is = all
        now d found (Calling s) is = one (waits_for_call from a r s) refl
          where
            one : (w : Bool) → waits_for_call from a r s ≡ w →
                Steady (cond {A = Served Coord (Unit {0})} w (heard_by (heard_call s r c)) (heard_none c)).part
            one true on =
                let m = answered (is_free (root_of s.path) (actor s.path) s.x c) (kept_at s c) s.goal s.at r in
                step_named s m.step (on_root (root_of s.path) (root_moved s r m) c)
                (λ at n_is. subst (Is sent claims s.path s.x s.goal) n_is
                (next_named sent claims s.path s.x (is_free (root_of s.path) (actor s.path) s.x c) (kept_at s c) s.goal s.at r
                (fits d s found is on) (brings d s found is on) (all a.act d s found is)))
                (λ u e w at is. all u e w at is)
            one false off = all
        now d found (Committing m) is = subst (λ (n : Now). Steady (heard_now from a r intents c n).part) is
            (subst (λ (o : Option Doing). Steady (heard_doing from a r intents c o).part) found
            (waiting_heard (StepNamed sent claims) sent k c place from a r intents fits
            (λ s e req at e_found e_now was new. absurd (let same : d ≡ e = some_is (sym found ∙ e_found) in
            let no_way : Committing m ≡ Calling s = sym is ∙ ap (λ (z : Doing). z.now) same ∙ e_now in cc no_way)) all))

        by : (o : Option Doing) → doing_of a.act c ≡ o → Steady (heard_doing from a r intents c o).part
        by None none = all
        by (Some d) found = now d found d.now refl

    pub acked_named : (from : ℕ) (u : Uid) (intents : List (Uid × Intent)) → Steady (acked from u intents c).part
    acked_named from u intents = waiting_acked (StepNamed sent claims) sent k c place from u intents all

    pub again_named : Steady (again_all c.doings c).part
    again_named = waiting_again (StepNamed sent claims) sent k c place all

    pub acts_named : (hd : Header) (i : Input) (intents : List (Uid × Intent)) → refusal_up hd i c ≡ None →
        ((l : Label) (how : Kind) (parent : Option Label) → i ≢ input.Begin l how parent) → Steady (acts i intents c).part
    acts_named hd i intents free other = waiting_acts (StepNamed sent claims) sent k c place hd i intents free other starts lost all
      where
        starts : (p : Path) (x : ℕ) (g : Goal) (known : Option Known) (avoid : Binding) (req : ℕ) →
            StepNamed sent claims (start p x g known avoid req)
        starts p x g None avoid req = tt
        starts p x g (Some q) avoid req = tt

        lost : (w : Steps) (req : ℕ) (at : At) → StepNamed sent claims w → given_up w.at ≡ On at →
            StepNamed sent claims (record w { req = req; at = at })
        lost w req at was is = by w.at was is
          where
            by : (n : At) → NamedAt sent claims w.goal w.path w.x n → given_up n ≡ On at → NamedAt sent claims w.goal w.path w.x at
            by (AtBind avoid) its e = absurd (cc e)
            by (AtLoad q m []) its e = absurd (cc e)
            by (AtLoad q m (t ∷ ts)) its e = let same : AtLoad q t ts ≡ at = cc e in subst (NamedAt sent claims w.goal w.path w.x) same its
            by (AtActivate q st) its e = absurd (cc e)
            by (AtNote q i) its e = absurd (cc e)
            by (AtInvoke q i) its e = absurd (cc e)

  pub begins_named : (l : Label) (how : Kind) (parent : Option Label) (c : Coord) → Steady c →
      Steady (begin_action l how parent (parent_of parent c) c).part
  begins_named l how parent c all = waiting_begins (StepNamed sent claims) l how parent c all

  pub new_named : (node inc : ℕ) (telling : List (Uid × Intent)) → Steady (record (new_coord node inc) { telling = telling })
  new_named node inc telling = waiting_new (StepNamed sent claims) node inc telling
