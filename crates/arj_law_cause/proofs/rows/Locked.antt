-- Each include that loads, and each call until it comes to its server, has been granted its top's write lock on the entry since it was
-- asked: at each node that is up, whatever nodes do.
use Rattle.arj_law_parts.proofs.Words
use Words.{⊤, ◌≡◌, ◌≢◌, ◌≤◌, ◌∙◌, ◌==◌, ◌+◌, ◌++◌, ◌||◌, not, ℕ, Bool, true, false, cond, if◌then◌else◌, List, [], ◌∷◌, length, Option}
use Words.{Some, None, refl, sym, ap, subst, append-nil, append_assoc, bytes_eq, is_some}
use Words.{Ask, Asked, Body, BoundReply, Binding, Event, Head, Header, Kind, Label, Line, Message, Uid, asks, name, top_of, numbered}
use Words.{top_path}
use Words.{Reply, actor, answers, ask_at, frame_kind, again_all, begin_action, heard, waits_for_call, tick_outs, is_serial}
use Words.{At, AtBind, Goal, Include, Run, Steps, is_include}
use Words.{Calling, Coord, Doing, doing_of, Disk, Do, Effect, Say, Send, stopped, worked, Handled, Parts, Took, Void, handle}
use Words.{handle_answer, handle_ask, handle_other, by_reply, serve, with_coord, Input, Node, acts as does, Branch, branch_named}
use Words.{call_reasons, class_at, first_reason, has_many_objects, include_reasons, lacks_op, parent_of, parts_in, refusal_up, refused_by}
use Words.{restart_outs, Post, see, world_from}
use Words.body
use Words.bound
use Words.ask
use Words.event
use Words.frame
use Words.input
use Words.message
use Words.mode
use Words.{entry, End, In, inl, inr, acked, handle_ends, last_end, is_own, first_uid, call, include, is_call, on_branch, bytes_eq-Decides}
use Rattle.arj_protocol.specs.Step.{waits_above, waits_below}
use Rattle.arj_law_serial.proofs.Terms
use Terms.{is_act, paths_of, begun_tree, path_found, same_number, IsUp, disk_by, first_up}
use Rattle.arj_law_lock_view.proofs.asking.{Keeping.its, Keeping.mine, Keeping.other_names, Keeping.same_names, Keeping.tree}
use Rattle.arj_law_lock_view.proofs.asking.Turning.{asked_idle}
use Rattle.arj_law_lock_view.proofs.facts.Kept.{Place}
use Rattle.arj_law_lock_view.specs.asking.Asked.{accepted_of}
use Rattle.arj_law_lock_view.specs.asking.Turns.{calling}
use Rattle.arj_law_parts.proofs.moves.{Flat.post, Together.with_both}
use Rattle.arj_law_parts.specs.moves.Moments.{Asking, Moment, asking_of, asks_now, at, fits, framed_if, given, no_history, posted, said}
use Rattle.arj_law_parts.specs.moves.Moments.{sent, up, with_asking}
use Rattle.arj_law_parts.specs.moves.Seen as seen
use Rattle.arj_law_parts.specs.moves.With.{Brings, KeepsSteps, UpWith, WalksWith}
use Rattle.arj_law_runs.proofs.addresses.BindRuns.{answers_fit}
use Rattle.arj_law_runs.proofs.journal.Beginning as Beginning
use Rattle.arj_law_runs.proofs.journal.Beginning.{named_at}
use Rattle.arj_law_runs.specs.addresses.Binds.{AnswersWaiting, BindsAreKnown}
use Rattle.arj_law_runs.specs.calls.Coords.{head_of}
use Rattle.arj_law_runs.specs.kept.Worlds.{IsGoodOf}
use Rattle.arj_model.specs.Past.{Asked as AskedOf, Past}
use Rattle.arj_model.specs.CauseAnswers.{has_lock}
use Rattle.arj_model.specs.Refusals.{asks_by, incarnation, is_ask_by, last_asked}
use Rattle.arj_start.specs.Start.{Start}
use Rattle.arj_law_cause.proofs.rows.Asks.{filter_both}
use Rattle.arj_law_cause.proofs.rows.Rows.{used_is}
use Rattle.arj_law_cause.proofs.waits.waiting.Lists.{in_filter_too}
use Rattle.arj_law_runs.proofs.resting.Serving.{IsServed, serve_served}
use Rattle.arj_law_parts.proofs.parts.Begun.{path_some}
use Rattle.arj_law_lock_view.specs.asking.Asked.{asks_goal}
use Rattle.arj_model.specs.CauseSpans.{is_call as is_call_event}
use Rattle.arj_law_cause.proofs.bindings.Since.{in_front, in_last}
use Rattle.arj_law_cause.proofs.rows.Ending.{acked_works}
use Rattle.arj_law_cause.proofs.rows.Keepers
use Rattle.arj_law_cause.proofs.rows.Keepers.{AreNewAsks, IsNew, IsOther, KeepFromCalls, asks_for, keepers_more, names_one}
use Rattle.arj_law_cause.proofs.rows.Loading.{AreLocked, IsLocked, are_acts, are_again, are_begins, are_heard, are_new, are_same}
use Rattle.arj_law_cause.proofs.rows.Loading.{IsGrantOf, grant_in, grant_of}
use Rattle.arj_law_cause.proofs.rows.Differing.{says_differs}
use Rattle.arj_law_cause.proofs.rows.Meeting.{is_write}
use Rattle.arj_law_cause.proofs.rows.Taking.{IsCaller, IsGranted, Works, bind_is, caller, granted, root_own}
use Rattle.arj_law_cause.specs.rows.Says.{meets_none, says_of}

some_is : {A : Type 0} {a b : A} → Some a ≡ Some b → a ≡ b
some_is {A} {a} {b} is = let k : ◌≡◌ {A = Option A} (Some a) (Some b) = is in cc

none_is : {A P : Type 0} {x : A} → None ≡ Some x → P
none_is {A} {P} {x} is = let no_way : ◌≡◌ {A = Option A} None (Some x) = is in absurd (cc no_way)

never : {P : Type 0} {b : Bool} → b ≡ true → b ≡ false → P
never holds fails = let no_way : true ≡ false = sym holds ∙ fails in absurd (cc no_way)

-- its calls and includes stand on locks, and its roots keep what calls were told
abbrev pub AreSo : Start → List Line → List Asking → Coord → Type 0
AreSo st lines askings c = AreLocked st lines askings c × KeepFromCalls askings (accepted_of askings) c

-- so it is at each node that is up
abbrev pub LoadsAreLocked : Moment → Type 0
LoadsAreLocked M = (j : ℕ) (n : Node) (t : Parts) → M.seen.nodes j ≡ Some n → n.live ≡ Some t →
    AreSo M.seen.start M.seen.lines M.past.askings t.coord

-- ---- lines

more_locked : (st : Start) (ls ms : List Line) (A : List Asking) (l : Label) (s : Steps) → IsLocked st ls A l s → IsLocked st (ls ++ ms) A l s
more_locked st ls ms A l s h = record {
  before = h.before;
  after = h.after ++ ms;
  are = (λ i. h.are i ++ ms) ∙ append_assoc h.before h.after ms;
  late = h.late;
  lock = h.lock;
  free = h.free;
  inc = h.inc;
}

pub more_are : (st : Start) (ls ms : List Line) (A : List Asking) (c : Coord) → AreSo st ls A c → AreSo st (ls ++ ms) A c
more_are st ls ms A c h = ((λ u w s found is load. more_locked st ls ms A w.label s (h.0 u w s found is load)), h.1)

-- ---- nodes but one

module _ (k : ℕ) where
  abbrev Off : Moment → Type 0
  Off N = (j : ℕ) (n : Node) (t : Parts) → (j == k) ≡ false → N.seen.nodes j ≡ Some n → n.live ≡ Some t →
      AreSo N.seen.start N.seen.lines N.past.askings t.coord

  put : (d : Disk) (live : Option Parts) (N : Moment) → Off N → ((t : Parts) → live ≡ Some t →
      AreSo N.seen.start N.seen.lines N.past.askings t.coord) → LoadsAreLocked (at k d live N)
  put d live N off own j n t there up_it = by (j == k) refl there
    where
      by : (b : Bool) → (j == k) ≡ b → (if b then Some (record { number = k; disk = d; live = live }) else N.seen.nodes j) ≡ Some n →
          AreSo N.seen.start N.seen.lines N.past.askings t.coord
      by true is here = own t (ap (λ (z : Node). z.live) (some_is here) ∙ up_it)
      by false is here = off j n t is here up_it

  off_of : (d : Disk) (live : Option Parts) (M : Moment) → LoadsAreLocked (at k d live M) → Off M
  off_of d live M h j n t other there up_it =
      h j n t ((λ i. if other i then Some (record { number = k; disk = d; live = live }) else M.seen.nodes j) ∙ there) up_it

  pub own_of : (d : Disk) (t : Parts) (M : Moment) → LoadsAreLocked (up k d t M) → AreSo M.seen.start M.seen.lines M.past.askings t.coord
  own_of d t M h = h k (record { number = k; disk = d; live = Some t }) t
      (λ i. if same_number k i then Some (record { number = k; disk = d; live = Some t }) else M.seen.nodes k) refl

  off_said : (bs : List Body) (N : Moment) → Off N → Off (said bs N)
  off_said bs N h j n t other there up_it =
      more_are N.seen.start N.seen.lines (numbered N.past.number bs) N.past.askings t.coord (h j n t other there up_it)

  off_sent : (p : Post) (N : Moment) → Off N → Off (sent p N)
  off_sent p N h = by (p.to == p.from) (fits N)
    where
      by : (self fit : Bool) → Off (if self then posted p N else framed_if fit p N)
      by true fit = h
      by false true = off_said (body.Sent (N.past.frames + 1) p.from p.to (frame_kind p.message) ∷ []) N h
      by false false = h

  own_sent : (c : Coord) (p : Post) (N : Moment) → AreSo N.seen.start N.seen.lines N.past.askings c →
      (let O = sent p N in AreSo O.seen.start O.seen.lines O.past.askings c)
  own_sent c p N h = by (p.to == p.from) (fits N)
    where
      by : (self fit : Bool) → (let O = if self then posted p N else framed_if fit p N in AreSo O.seen.start O.seen.lines O.past.askings c)
      by true fit = h
      by false true = more_are N.seen.start N.seen.lines (numbered N.past.number
          (body.Sent (N.past.frames + 1) p.from p.to (frame_kind p.message) ∷ [])) N.past.askings c h
      by false false = h

  walk : (v : Parts) (outs : List Effect) (d : Disk) (N : Moment) → Off N → AreSo N.seen.start N.seen.lines N.past.askings v.coord →
      WalksWith LoadsAreLocked k outs (UpWith LoadsAreLocked k v) d N
  walk v [] d N off own =
      put d (Some v) N off (λ t is. subst (λ (z : Parts). AreSo N.seen.start N.seen.lines N.past.askings z.coord) (some_is is) own)
  walk v (Do w ∷ es) d N off own = (
    (λ how. put (stopped how w d) None (said (body.Halted k ∷ []) N) (off_said (body.Halted k ∷ []) N off) (λ t is. none_is is)),
    walk v es (worked w d) N off own,
  )
  walk v (Say b ∷ es) d N off own = walk v es d (said (b ∷ []) N) (off_said (b ∷ []) N off)
      (more_are N.seen.start N.seen.lines (numbered N.past.number (b ∷ [])) N.past.askings v.coord own)
  walk v (Send to m ∷ es) d N off own = walk v es d (sent (post k to m) N) (off_sent (post k to m) N off)
      (own_sent v.coord (post k to m) N own)

-- ---- what is asked

-- the input asks for a call or an include of this label
abbrev asks_of : Input → List ℕ → Bool
asks_of (input.Call l x o) m = bytes_eq (name l) m
asks_of (input.Include l x n) m = bytes_eq (name l) m
asks_of _ m = false

-- so does the event that brings it
asked_by_event : (e : Event) (i : Input) → Brings e i → (m : List ℕ) → is_ask_by m e ≡ asks_of i m
asked_by_event (event.Begin l n) i is m = sym (ap (λ z. asks_of z m) is)
asked_by_event (event.Serial l n) i is m = sym (ap (λ z. asks_of z m) is)
asked_by_event (event.BeginIn l p) i is m = sym (ap (λ z. asks_of z m) is.1)
asked_by_event (event.Top l p) i is m = sym (ap (λ z. asks_of z m) is)
asked_by_event (event.Call l x o) i is m = sym (ap (λ z. asks_of z m) is)
asked_by_event (event.Include l x n) i is m = sym (ap (λ z. asks_of z m) is)
asked_by_event (event.Commit l) i is m = sym (ap (λ z. asks_of z m) is)
asked_by_event (event.Abort l) i is m = sym (ap (λ z. asks_of z m) is)
asked_by_event (event.GiveUp l) i is m = sym (ap (λ z. asks_of z m) is)
asked_by_event e i is m = absurd is

module _ (c : Coord) (run : Past) (e : Event) (askings : List Asking) (m : List ℕ) where
  one_more : (q : Asking) → is_ask_by m (let k = q.asked in k.event) ≡ false →
      asks_by (accepted_of (q ∷ askings)) m ≡ asks_by (accepted_of askings) m
  one_more q off = filter_both (λ (z : AskedOf). is_ask_by m z.event) (accepted_of askings) (q.asked ∷ [])
      ∙ (λ i. asks_by (accepted_of askings) m ++ cond (off i) (q.asked ∷ []) []) ∙ append-nil (asks_by (accepted_of askings) m)

  -- what is asked of another label is as before
  grown : (i : Input) → is_ask_by m e ≡ false →
      asks_by (accepted_of (with_asking i c run e askings)) m ≡ asks_by (accepted_of askings) m
  grown (input.Call l x o) off = one_more (asking_of l c run e) off
  grown (input.Include l x n) off = one_more (asking_of l c run e) off
  grown (input.Commit l) off = one_more (asking_of l c run e) off
  grown i off = refl

-- what was asked is accepted
pub accepted_in : (q : Asking) (A : List Asking) → In q A → In q.asked (accepted_of A)
accepted_in q [] i = absurd i
accepted_in q (k ∷ A) (inl same) = subst (λ (z : Asking). In z.asked (accepted_of A ++ k.asked ∷ [])) same (in_last k.asked (accepted_of A))
accepted_in q (k ∷ A) (inr i) = in_front q.asked (accepted_of A) (k.asked ∷ []) (accepted_in q A i)

-- and stays so
more_asked : (i : Input) (c : Coord) (run : Past) (e : Event) (A : List Asking) (q : AskedOf) → In q (accepted_of A) →
    In q (accepted_of (with_asking i c run e A))
more_asked (input.Call l x o) c run e A q i = in_front q (accepted_of A) ((let k = asking_of l c run e in k.asked) ∷ []) i
more_asked (input.Include l x n) c run e A q i = in_front q (accepted_of A) ((let k = asking_of l c run e in k.asked) ∷ []) i
more_asked (input.Commit l) c run e A q i = in_front q (accepted_of A) ((let k = asking_of l c run e in k.asked) ∷ []) i
more_asked i c run e A q there = there

asked_locked : (st : Start) (ls : List Line) (A B : List Asking) (l : Label) (s : Steps) →
    asks_by (accepted_of B) (name l) ≡ asks_by (accepted_of A) (name l) → IsLocked st ls A l s → IsLocked st ls B l s
asked_locked st ls A B l s same h = record {
  before = h.before;
  after = h.after;
  are = h.are;
  late = λ e last. h.late e (ap last_asked (sym same) ∙ last);
  lock = h.lock;
  free = h.free;
  inc = h.inc;
}

-- ---- one node

module _ (A : List AskedOf) (hd : Header) (k : ℕ) (d : Disk) (t : Parts) (M : Moment) (W : Works A hd k d t M)
    (locked : LoadsAreLocked (up k d t M)) where
  abbrev mine_node : Node
  mine_node = record { number = k; disk = d; live = Some t }

  here : (let N = up k d t M in N.seen.nodes k) ≡ Some (record { number = k; disk = d; live = Some t })
  here = λ i. cond (same_number k i) (Some (record { number = k; disk = d; live = Some t })) (M.seen.nodes k)

  good : IsGoodOf W.known.2.0.0.0.0 (let N = up k d t M in seen.with_sent W.known.0 N.seen)
  good = W.known.2.0.0.0.1

  binds : BindsAreKnown (let N = up k d t M in seen.with_sent W.known.0 N.seen)
  binds = W.known.2.0.0.1

  place : Place W.known.0 k t.coord
  place =
      let p = good.places k mine_node here in
      let u : IsUp W.known.2.0.0.0.0 W.known.0 M.seen.labels k d.inc t = p.memory in record {
        actions = W.known.2.0.0.0.0;
        begun = good.begun;
        good = (let g = u.good (paths_of W.known.2.0.0.0.0) (begun_tree W.known.2.0.0.0.0 good.begun)
            (path_found W.known.2.0.0.0.0 good.begun) in g.coord);
        numbered = u.numbered;
        faithful = u.faithful;
        binds = binds.nodes k mine_node t here refl;
      }

  own : AreSo M.seen.start M.seen.lines M.past.askings t.coord
  own = own_of k d t M locked

  off : Off k M
  off = off_of k d (Some t) M locked

  -- ---- an answer

  module _ (from : ℕ) (m : Message) (sent_it : seen.In (post from k m) M.seen.sent) (a : Asked) (r : Reply)
      (answer : answers m ≡ Some (a, r)) where
    fitting : AnswersWaiting from a r t.coord
    fitting = answers_fit W.known.2.0.0.0.0 0 k d t (seen.with_sent W.known.0 M.seen) good binds from m
        (W.known.1 (post from k m) sent_it) a r answer

    -- naming let it go on in its top's write lock
    new : (s : Steps) (w : Doing) (avoid : Binding) (q : BoundReply) (next : At) → doing_of a.act t.coord ≡ Some w → w.now ≡ Calling s →
        waits_for_call from a r s ≡ true → s.at ≡ AtBind avoid → r ≡ Reply.Bound q → is_write q ≡ true → grant_of next ≡ grant_in q →
        IsLocked M.seen.start M.seen.lines M.past.askings w.label (record s { req = s.req + 1; at = next })
    new s w avoid q next found is waits bind reply write grant =
        given_by (granted A hd k d t M W a.act w s found is from m sent_it a r answer refl waits)
      where
        given_by : IsGranted A hd from M s (let c = caller A hd k d t M W a.act w s found is in let z = c.asked in z.asking) r →
            IsLocked M.seen.start M.seen.lines M.past.askings w.label (record s { req = s.req + 1; at = next })
        given_by T = by q reply write grant
          where
            request : T.ask ≡ ask.Bind s.x (is_include s.goal) avoid
            request = bind_is T.ask s.x (is_include s.goal) avoid (T.same ∙ (λ j. ask_at s.x s.goal [] (bind j)))

            so : says_of A hd from (head_of s) (ask.Bind s.x (is_include s.goal) avoid) r T.before
            so = subst (λ z. says_of A hd from (head_of s) z r T.before) request T.so

            differs : says_differs M.seen.start from (head_of s) (ask.Bind s.x (is_include s.goal) avoid) r T.before
            differs = subst (λ z. says_differs M.seen.start from (head_of s) z r T.before) request T.differs

            late : (e : AskedOf) → last_asked (asks_by (accepted_of M.past.askings) (name w.label)) ≡ Some e → e.at ≤ length T.before
            late e last = subst (λ (z : AskedOf). z.at ≤ length T.before)
                (some_is (sym (let c = caller A hd k d t M W a.act w s found is in let z = c.asked in z.last) ∙ last)) T.late

            Free : Type 0
            Free = (has_lock 1 (top_of s.path) (entry s.x) mode.Write T.before ≡ true)
                × (meets_none 1 (top_path s.path) (entry s.x) mode.Write T.before ≡ true)

            locked_by : Free → IsGrantOf M.seen.start T.before s.goal next →
                IsLocked M.seen.start M.seen.lines M.past.askings w.label (record s { req = s.req + 1; at = next })
            locked_by free inc =
                record { before = T.before; after = T.after; are = T.are; late = late; lock = free.0; free = free.1; inc = inc }

            known : (g : Goal) → grant_of next ≡ incarnation M.seen.start T.before 1 → IsGrantOf M.seen.start T.before g next
            known (Run o) is = is
            known (Include n) is = tt

            by : (z : BoundReply) → r ≡ Reply.Bound z → is_write z ≡ true → grant_of next ≡ grant_in z →
                IsLocked M.seen.start M.seen.lines M.past.askings w.label (record s { req = s.req + 1; at = next })
            by (bound.Conflict u h) same on its = absurd (cc on)
            by (bound.Live b server i g stores) same on its = absurd (cc on)
            by (bound.Make b server g stores) same on its =
                let says : (is_include s.goal ≡ false) × (has_lock 1 (top_of s.path) (entry s.x) mode.Write T.before ≡ true)
                × (meets_none 1 (top_path s.path) (entry s.x) mode.Write T.before ≡ true) =
                subst (λ z. says_of A hd from (head_of s) (ask.Bind s.x (is_include s.goal) avoid) z T.before) same so in
                locked_by (says.1, says.2) (known s.goal (its
                ∙ subst (λ z. says_differs M.seen.start from (head_of s) (ask.Bind s.x (is_include s.goal) avoid) z T.before) same differs))
            by (bound.Write g stores) same on its =
                locked_by (subst (λ z. says_of A hd from (head_of s) (ask.Bind s.x (is_include s.goal) avoid) z T.before) same so)
                (known s.goal (its
                ∙ subst (λ z. says_differs M.seen.start from (head_of s) (ask.Bind s.x (is_include s.goal) avoid) z T.before) same differs))

    -- a call whose answer names a binding was asked so
    newly : (s : Steps) (w : Doing) (avoid : Binding) (q : BoundReply) → doing_of a.act t.coord ≡ Some w → w.now ≡ Calling s →
        actor s.path ≡ a.act → waits_for_call from a r s ≡ true → s.at ≡ AtBind avoid → r ≡ Reply.Bound q → names_one q ≡ true →
        is_call s.goal ≡ true → IsNew M.past.askings (accepted_of M.past.askings) t.coord s
    newly s w avoid q found is who waits bind reply names call = record {
      asked = asked;
      there = accepted_in c.asked.asking M.past.askings c.asked.there;
      call = ap is_call_event its_event ∙ called s.goal call;
      object = used_is asked.event (let g = c.asked.goal in g.0) s.x s.goal its_event;
      some = subst (λ us. 1 ≤ length us) (sym (let a = c.asked in a.path)) (path_some s.path);
      root = ap (λ us. (let u = first_uid us in u.num)) (let a = c.asked in a.path);
      own = ap (λ us. is_own (first_uid us) t.coord.tree) (let a = c.asked in a.path) ∙ root_own A hd k d t M W a.act w s found is;
      others = λ u y z other there calls on. inl (ap (is_ask_by (name y.label)) its_event ∙ label_off (name y.label) (let g = c.asked.goal in g.0)
          s.goal ∙ ap (λ l. bytes_eq l (name y.label)) (let g = c.asked.goal in g.1) ∙ apart u y other there (bytes_eq (name w.label) (name y.label)) refl);
    }
      where
        c : IsCaller k M a.act w s
        c = caller A hd k d t M W a.act w s found is

        asked : AskedOf
        asked = let z = c.asked.asking in z.asked

        its_event : (let z = (let y = c.asked.asking in y.asked) in z.event) ≡ asks_goal (let g = c.asked.goal in g.0) s.x s.goal
        its_event = let g = c.asked.goal in g.2

        called : (g : Goal) → is_call g ≡ true → is_call_event (asks_goal (let g = c.asked.goal in g.0) s.x g) ≡ true
        called (Run o) is = refl
        called (Include n) is = absurd (cc is)

        label_off : (m : List ℕ) (l : Label) (g : Goal) → is_ask_by m (asks_goal l s.x g) ≡ bytes_eq (name l) m
        label_off m l (Run o) = refl
        label_off m l (Include n) = refl

        apart : (u : Uid) (y : Doing) → u ≢ actor s.path → doing_of u t.coord ≡ Some y → (b : Bool) → bytes_eq (name w.label) (name y.label) ≡ b →
            b ≡ false
        apart u y other there false e = refl
        apart u y other there true e =
            absurd (other (same_names k d t M W.paths W.tied a.act w found u y there e ∙ sym who))

    heard_locked : AreSo M.seen.start M.seen.lines M.past.askings (let q = heard from a r d.intents t.coord in q.part)
    heard_locked = (
      are_heard M.seen.start M.seen.lines M.past.askings W.known.0 k t.coord place from a r d.intents fitting new own.0,
      Keepers.are_heard M.past.askings (accepted_of M.past.askings) W.known.0 k t.coord place from a r d.intents fitting newly own.1,
    )

  -- ---- a message

  abbrev LeftSo : Handled → Type 0
  LeftSo (Void outs) = ⊤
  LeftSo (Took v outs) = AreSo M.seen.start M.seen.lines M.past.askings v.coord

  handled : (from : ℕ) (m : Message) → seen.In (post from k m) M.seen.sent → LeftSo (handle k d t from m)
  handled from m sent_it = by (asks m) refl
    where
      -- a request leaves the coordinator
      asked : (h : Head) (a : Ask) (z : Handled) → IsServed from h a t z → LeftSo z
      asked h a (Void outs) served = tt
      asked h a (Took v outs) served = subst (AreSo M.seen.start M.seen.lines M.past.askings) (sym served.coord) own

      ends : (ack : Bool) (es : List (Uid × End)) (o : Option (Uid × End)) → LeftSo (handle_ends k d t from ack es o)
      ends ack es None = own
      ends ack es (Some e) = own

      other : LeftSo (handle_other k d t from m)
      other = of m
        where
          of : (p : Message) → LeftSo (handle_other k d t from p)
          of (message.Told p) = ends p.ack p.ends (last_end p.ends)
          of (message.Acked p) = by (let r = acked from p.act d.intents t.coord in r.reply)
            where
              its : AreSo M.seen.start M.seen.lines M.past.askings (acked from p.act d.intents t.coord).part
              its = (
                are_same M.seen.start M.seen.lines M.past.askings t.coord (acked from p.act d.intents t.coord).part
                    (λ u. acked_works k d t from p.act u d.intents t.coord) own.0,
                Keepers.are_acked M.past.askings (accepted_of M.past.askings) W.known.0 k t.coord place from p.act d.intents own.1,
              )

              by : (o : Option (Unit {0})) →
                  LeftSo (by_reply (with_coord t (acked from p.act d.intents t.coord).part) (acked from p.act d.intents t.coord).outs o)
              by None = tt
              by (Some u) = its
          of (message.Query p) = own
          of (message.Hello p) = own
          of p = tt

      answer : (o : Option (Asked × Reply)) → answers m ≡ o → LeftSo (handle_answer k d t from m o)
      answer None none = other
      answer (Some a) some = replied (let q = heard from a.0 a.1 d.intents t.coord in q.reply)
        where
          replied : (o : Option (Unit {0})) → LeftSo (by_reply (with_coord t (heard from a.0 a.1 d.intents t.coord).part)
              (heard from a.0 a.1 d.intents t.coord).outs o)
          replied None = tt
          replied (Some u) = heard_locked from m sent_it a.0 a.1 some

      by : (o : Option (Head × Ask)) → asks m ≡ o → LeftSo (handle_ask k d t from m o)
      by None none = answer (answers m) refl
      by (Some a) some = asked a.0 a.1 (serve k d t from a.0 a.1) (serve_served k d t from a.0 a.1)

  message_walk : (v : Parts) (from : ℕ) (m : Message) (outs : List Effect) → seen.In (post from k m) M.seen.sent →
      handle k d t from m ≡ Took v outs → WalksWith LoadsAreLocked k outs (UpWith LoadsAreLocked k v) d M
  message_walk v from m outs sent_it is = walk k v outs d M off (subst LeftSo is (handled from m sent_it))

  -- ---- an input

  -- of whom a call or an include is asked is no other's label, and doesn't wait
  module _ (l : Label) (b : Branch) (is_named : branch_named l t.coord ≡ Some b) (rest : List (ℕ × Bool))
      (free : first_reason ((6, is_some b.ended) ∷ (7, waits_above b t.coord || waits_below b t.coord) ∷ rest) ≡ None) where
    nm : Beginning.IsNamed t.coord l b
    nm = named_at t.coord (let i = its k d t M W.paths W.tied in i.names) l b is_named

    at_act : actor b.path ≡ nm.act
    at_act =
        let i = mine k d t M W.paths W.tied nm.act nm.doing nm.does in
        ap (λ (z : Branch). actor z.path) (some_is (sym nm.found ∙ i.found)) ∙ i.at_end

    idle : calling (let x = nm.doing in x.now) ≡ None
    idle = asked_idle t.coord W.paths.2.0 (paths_of W.paths.2.0) (tree k d t M W.paths W.tied)
        (let i = its k d t M W.paths W.tied in i.coord) b rest free nm.doing (ap (λ w. doing_of w t.coord) at_act ∙ nm.does)

    apart_own : (u : Uid) (y : Doing) (s : Steps) → doing_of u t.coord ≡ Some y → y.now ≡ Calling s →
        bytes_eq (name l) (name y.label) ≡ false
    apart_own u y s found is = by (bytes_eq (name l) (name y.label)) refl
      where
        by : (c : Bool) → bytes_eq (name l) (name y.label) ≡ c → c ≡ false
        by false e = refl
        by true e =
            let same : u ≡ nm.act = same_names k d t M W.paths W.tied nm.act nm.doing nm.does u y found
            (ap (λ z. bytes_eq z (name y.label)) nm.name_is ∙ e) in
            let one : y ≡ nm.doing = some_is (sym found ∙ ap (λ v. doing_of v t.coord) same ∙ nm.does) in
            none_is (sym idle ∙ ap (λ (z : Doing). calling z.now) (sym one) ∙ ap calling is)

    apart_off : (j : ℕ) (n : Node) (z : Parts) (u : Uid) (y : Doing) → (j == k) ≡ false → M.seen.nodes j ≡ Some n → n.live ≡ Some z →
        doing_of u z.coord ≡ Some y → bytes_eq (name l) (name y.label) ≡ false
    apart_off j n z u y other there live found = ap (λ w. bytes_eq w (name y.label)) (sym nm.name_is)
        ∙ other_names k d t M W.paths W.tied nm.act nm.doing nm.does j n z u y other there live found

  -- who waits isn't asked
  record Apart (i : Input) : Type 0 where
    own : (u : Uid) (y : Doing) (s : Steps) → doing_of u t.coord ≡ Some y → y.now ≡ Calling s → asks_of i (name y.label) ≡ false
    off : (j : ℕ) (n : Node) (z : Parts) (u : Uid) (y : Doing) → (j == k) ≡ false → M.seen.nodes j ≡ Some n → n.live ≡ Some z →
        doing_of u z.coord ≡ Some y → asks_of i (name y.label) ≡ false

  apart : (i : Input) → refusal_up hd i t.coord ≡ None → Apart i
  apart (input.Call l x o) free = by (branch_named l t.coord) refl free
    where
      by : (f : Option Branch) → branch_named l t.coord ≡ f → refused_by (call_reasons hd x o) t.coord f ≡ None → Apart (input.Call l x o)
      by None named none = none_is (sym none)
      by (Some b) named none = record {
        own = apart_own l b named ((11, is_serial b.kind) ∷ (12, b.doomed) ∷ (13, not (is_some (class_at x hd))) ∷
            (14, lacks_op o (class_at x hd)) ∷ (16, has_many_objects b x t.coord.tree) ∷ []) none;
        off = apart_off l b named ((11, is_serial b.kind) ∷ (12, b.doomed) ∷ (13, not (is_some (class_at x hd))) ∷
            (14, lacks_op o (class_at x hd)) ∷ (16, has_many_objects b x t.coord.tree) ∷ []) none;
      }
  apart (input.Include l x n) free = by (branch_named l t.coord) refl free
    where
      by : (f : Option Branch) → branch_named l t.coord ≡ f → refused_by (include_reasons hd x) t.coord f ≡ None →
          Apart (input.Include l x n)
      by None named none = none_is (sym none)
      by (Some b) named none = record {
        own = apart_own l b named ((11, is_serial b.kind) ∷ (12, b.doomed) ∷ (13, not (is_some (class_at x hd))) ∷
            (16, has_many_objects b x t.coord.tree) ∷ []) none;
        off = apart_off l b named ((11, is_serial b.kind) ∷ (12, b.doomed) ∷ (13, not (is_some (class_at x hd))) ∷
            (16, has_many_objects b x t.coord.tree) ∷ []) none;
      }
  apart i free = record { own = λ u y s found is. refl; off = λ j n z u y other there live found. refl }

  act_walk : (i : Input) → is_act i ≡ true → Brings M.past.event i → refusal_up hd i t.coord ≡ None →
      (let did = does i d.intents t.coord in
      WalksWith LoadsAreLocked k did.outs (UpWith LoadsAreLocked k (with_coord t did.part)) d (asks_now i t.coord M))
  act_walk i is brings free =
      let did = does i d.intents t.coord in
      walk k (with_coord t did.part) did.outs d (asks_now i t.coord M)
      (λ j n z other there live. (
        (λ u y s found calls load. asked_locked M.seen.start M.seen.lines M.past.askings
            (with_asking i t.coord M.past.run M.past.event M.past.askings) y.label s
            (same y (let a = apart i free in a.off j n z u y other there live found)) ((off j n z other there live).0 u y s found calls load)),
        keepers_more M.past.askings (with_asking i t.coord M.past.run M.past.event M.past.askings) (accepted_of M.past.askings)
            (accepted_of (with_asking i t.coord M.past.run M.past.event M.past.askings)) z.coord
            (more_asked i t.coord M.past.run M.past.event M.past.askings)
            (λ u y s found calls. same y (let a = apart i free in a.off j n z u y other there live found)) (off j n z other there live).1,
      )) (
        are_acts M.seen.start M.seen.lines (with_asking i t.coord M.past.run M.past.event M.past.askings) W.known.0 k t.coord place hd i d.intents
            free (no_begin i is) (λ u y s found calls load. asked_locked M.seen.start M.seen.lines M.past.askings
            (with_asking i t.coord M.past.run M.past.event M.past.askings) y.label s
            (same y (let a = apart i free in a.own u y s found calls)) (own.0 u y s found calls load)),
        keepers i is brings free,
      )
    where
      New : Input → List Asking
      New i = with_asking i t.coord M.past.run M.past.event M.past.askings

      -- what roots keep, with the coordinator as it was
      before : (i : Input) → Brings M.past.event i → refusal_up hd i t.coord ≡ None → (K : List AskedOf) →
          ((q : AskedOf) → In q (accepted_of M.past.askings) → In q K) →
          KeepFromCalls (with_asking i t.coord M.past.run M.past.event M.past.askings) K t.coord
      before i brings free K wider = keepers_more M.past.askings (with_asking i t.coord M.past.run M.past.event M.past.askings)
          (accepted_of M.past.askings) K t.coord wider
          (λ u y s found calls. grown t.coord M.past.run M.past.event M.past.askings (name y.label) i
          (asked_by_event M.past.event i brings (name y.label) ∙ (let a = apart i free in a.own u y s found calls))) own.1

      -- whoever asks now is asked something new
      newly_asked : (i : Input) (l : Label) (b : Branch) (rest : List (ℕ × Bool)) → branch_named l t.coord ≡ Some b →
          first_reason ((6, is_some b.ended) ∷ (7, waits_above b t.coord || waits_below b t.coord) ∷ rest) ≡ None → (q : Asking) →
          with_asking i t.coord M.past.run M.past.event M.past.askings ≡ q ∷ M.past.askings → ((m : List ℕ) → is_ask_by m (let k = q.asked in k.event) ≡
          bytes_eq (name l) m) →
          AreNewAsks (with_asking i t.coord M.past.run M.past.event M.past.askings) (accepted_of M.past.askings) t.coord b
      newly_asked i l b rest named free q are asks e there w found = by (is_ask_by (name w.label) e.event) refl
        where
          n : Beginning.IsNamed t.coord l b
          n = nm l b named rest free

          label : name w.label ≡ name l
          label = ap (λ (z : Doing). name z.label) (some_is (sym found ∙ ap (λ v. doing_of v t.coord) (at_act l b named rest free) ∙ n.does)) ∙ n.name_is

          last : asks_by (accepted_of (with_asking i t.coord M.past.run M.past.event M.past.askings)) (name w.label) ≡
              asks_by (accepted_of M.past.askings) (name w.label) ++ q.asked ∷ []
          last = ap (λ ks. asks_by (accepted_of ks) (name w.label)) are
              ∙ filter_both (λ (z : AskedOf). is_ask_by (name w.label) z.event) (accepted_of M.past.askings) (q.asked ∷ [])
              ∙ (λ j. asks_by (accepted_of M.past.askings) (name w.label) ++ cond ((asks (name w.label) ∙ (bytes_eq-Decides (name l)
              (name w.label)).1 (sym label)) j) (q.asked ∷ []) [])

          by : (c : Bool) → is_ask_by (name w.label) e.event ≡ c →
              IsOther (with_asking i t.coord M.past.run M.past.event M.past.askings) e (name w.label)
          by false off = inl off
          by true on = inr (
            asks_by (accepted_of M.past.askings) (name w.label),
            q.asked,
            last,
            in_filter_too (λ (z : AskedOf). is_ask_by (name w.label) z.event) e (accepted_of M.past.askings) there on,
          )

      no_begin : (z : Input) → is_act z ≡ true → (l : Label) (how : Kind) (parent : Option Label) → z ≢ input.Begin l how parent
      no_begin z one l how parent it = let no_way : false ≡ true = sym (ap is_act it) ∙ one in cc no_way

      plainly : (i : Input) → is_act i ≡ true → Brings M.past.event i → refusal_up hd i t.coord ≡ None → asks_for i ≡ false →
          KeepFromCalls (with_asking i t.coord M.past.run M.past.event M.past.askings)
          (accepted_of (with_asking i t.coord M.past.run M.past.event M.past.askings)) (does i d.intents t.coord).part
      plainly i is brings free none = Keepers.are_acts (New i) (accepted_of (New i)) W.known.0 k t.coord place hd i d.intents free (no_begin i is)
          none (before i brings free (accepted_of (New i)) (more_asked i t.coord M.past.run M.past.event M.past.askings))

      keepers : (i : Input) → is_act i ≡ true → Brings M.past.event i → refusal_up hd i t.coord ≡ None →
          KeepFromCalls (with_asking i t.coord M.past.run M.past.event M.past.askings)
          (accepted_of (with_asking i t.coord M.past.run M.past.event M.past.askings)) (does i d.intents t.coord).part
      keepers (input.Call l x o) is brings free = by (branch_named l t.coord) refl free
        where
          by : (f : Option Branch) → branch_named l t.coord ≡ f → refused_by (call_reasons hd x o) t.coord f ≡ None →
              KeepFromCalls (New (input.Call l x o)) (accepted_of (New (input.Call l x o))) (on_branch (λ b. call b.path x o t.coord) t.coord f).part
          by None named none = none_is (sym none)
          by (Some b) named none = keepers_more (New (input.Call l x o)) (New (input.Call l x o)) (accepted_of M.past.askings)
              (accepted_of (New (input.Call l x o))) (call b.path x o t.coord).part
              (more_asked (input.Call l x o) t.coord M.past.run M.past.event M.past.askings) (λ u y s found calls. refl)
              (Keepers.are_calls (New (input.Call l x o)) (accepted_of M.past.askings) t.coord b x o
              (newly_asked (input.Call l x o) l b ((11, is_serial b.kind) ∷ (12, b.doomed) ∷ (13, not (is_some (class_at x hd))) ∷
              (14, lacks_op o (class_at x hd)) ∷ (16, has_many_objects b x t.coord.tree) ∷ []) named none
              (asking_of l t.coord M.past.run M.past.event) refl (λ m. asked_by_event M.past.event (input.Call l x o) brings m))
              (before (input.Call l x o) brings free (accepted_of M.past.askings) (λ q i. i)))
      keepers (input.Include l x n) is brings free = by (branch_named l t.coord) refl free
        where
          by : (f : Option Branch) → branch_named l t.coord ≡ f → refused_by (include_reasons hd x) t.coord f ≡ None →
              KeepFromCalls (New (input.Include l x n)) (accepted_of (New (input.Include l x n)))
              (on_branch (λ b. include b.path x n t.coord) t.coord f).part
          by None named none = none_is (sym none)
          by (Some b) named none = keepers_more (New (input.Include l x n)) (New (input.Include l x n)) (accepted_of M.past.askings)
              (accepted_of (New (input.Include l x n))) (include b.path x n t.coord).part
              (more_asked (input.Include l x n) t.coord M.past.run M.past.event M.past.askings) (λ u y s found calls. refl)
              (Keepers.are_includes (New (input.Include l x n)) (accepted_of M.past.askings) t.coord b x n
              (newly_asked (input.Include l x n) l b ((11, is_serial b.kind) ∷ (12, b.doomed) ∷ (13, not (is_some (class_at x hd))) ∷
              (16, has_many_objects b x t.coord.tree) ∷ []) named none
              (asking_of l t.coord M.past.run M.past.event) refl (λ m. asked_by_event M.past.event (input.Include l x n) brings m))
              (before (input.Include l x n) brings free (accepted_of M.past.askings) (λ q i. i)))
      keepers (input.Commit l) is brings free = plainly (input.Commit l) is brings free refl
      keepers (input.Abort l) is brings free = plainly (input.Abort l) is brings free refl
      keepers (input.GiveUp l) is brings free = plainly (input.GiveUp l) is brings free refl
      keepers i is brings free = absurd (cc is)

      same : (y : Doing) → asks_of i (name y.label) ≡ false →
          asks_by (accepted_of (with_asking i t.coord M.past.run M.past.event M.past.askings)) (name y.label)
          ≡ asks_by (accepted_of M.past.askings) (name y.label)
      same y none = grown t.coord M.past.run M.past.event M.past.askings (name y.label) i
          (asked_by_event M.past.event i brings (name y.label) ∙ none)

  begin_walk : (l : Label) (how : Kind) (parent : Option Label) →
      (let did = begin_action l how parent (parent_of parent t.coord) t.coord in
      WalksWith LoadsAreLocked k did.outs (UpWith LoadsAreLocked k (with_coord t did.part)) d
      (given l (record { node = k; serial = is_serial how }) M))
  begin_walk l how parent =
      let did = begin_action l how parent (parent_of parent t.coord) t.coord in
      walk k (with_coord t did.part) did.outs d (given l (record { node = k; serial = is_serial how }) M) off (
        are_begins M.seen.start M.seen.lines M.past.askings l how parent t.coord own.0,
        Keepers.are_begins M.past.askings (accepted_of M.past.askings) l how parent t.coord own.1,
      )

  tick_walk : WalksWith LoadsAreLocked k (tick_outs (record { number = k; disk = d; live = Some t }) t)
      (UpWith LoadsAreLocked k (with_coord t (again_all t.coord.doings t.coord).part)) d M
  tick_walk = walk k (with_coord t (again_all t.coord.doings t.coord).part) (tick_outs (record { number = k; disk = d; live = Some t }) t)
      d M off (
        are_again M.seen.start M.seen.lines M.past.askings W.known.0 k t.coord place own.0,
        Keepers.are_again M.past.askings (accepted_of M.past.askings) W.known.0 k t.coord place own.1,
      )

-- ---- every handler

module _ (A : List AskedOf) (hd : Header) (G : Moment → Type 0) (steps : KeepsSteps hd G)
    (works : (k : ℕ) (d : Disk) (t : Parts) (M : Moment) → G (up k d t M) → Works A hd k d t M) where
  pub locked_step : KeepsSteps hd (λ M. G M × LoadsAreLocked M)
  locked_step = record {
    quiet = λ bs M plain h. (
      steps.quiet bs M plain h.0,
      λ j n t there live. more_are M.seen.start M.seen.lines (numbered M.past.number bs) M.past.askings t.coord (h.1 j n t there live),
    );
    junk = λ n M fit h. (
      steps.junk n M fit h.0,
      λ j z t there live. more_are M.seen.start M.seen.lines (numbered M.past.number (body.Sent (M.past.frames + 1) 0 n frame.Junk ∷ []))
          M.past.askings t.coord (h.1 j z t there live),
    );
    stop = λ k d live M h. (
      steps.stop k d live M h.0,
      put k d None (said (body.Halted k ∷ []) M) (off_said k (body.Halted k ∷ []) M (off_of k d live M h.1)) (λ t is. none_is is),
    );
    message = λ k d t v from m outs M h there meant may is.
        both k outs v d M (steps.message k d t v from m outs M h.0 there meant may is)
        (message_walk A hd k d t M (works k d t M h.0) h.1 v from m outs there is);
    act = λ k d t i M is brings first asks free h. let did = does i d.intents t.coord in
        both k did.outs (with_coord t did.part) d (asks_now i t.coord M) (steps.act k d t i M is brings first asks free h.0)
        (act_walk A hd k d t M (works k d t M h.0) h.1 i is brings free);
    begin = λ k d t l how parent M brings first new gives none h.
        let did = begin_action l how parent (parent_of parent t.coord) t.coord in
        both k did.outs (with_coord t did.part) d (given l (record { node = k; serial = is_serial how }) M)
        (steps.begin k d t l how parent M brings first new gives none h.0)
        (begin_walk A hd k d t M (works k d t M h.0) h.1 l how parent);
    tick = λ k d t M h. let r = again_all t.coord.doings t.coord in
        both k (tick_outs (record { number = k; disk = d; live = Some t }) t) (with_coord t r.part) d M (steps.tick k d t M h.0)
        (tick_walk A hd k d t M (works k d t M h.0) h.1);
    restart = λ k d M event first h. both k (restart_outs hd k (d.inc + 1) d) (parts_in k (d.inc + 1) d) d M
        (steps.restart k d M event first h.0) (walk k (parts_in k (d.inc + 1) d) (restart_outs hd k (d.inc + 1) d) d M
        (off_of k d None M h.1) (
          are_new M.seen.start M.seen.lines M.past.askings k (d.inc + 1) d.intents,
          Keepers.are_new M.past.askings (accepted_of M.past.askings) k (d.inc + 1) d.intents,
        ));
  }
    where
      both : (k : ℕ) (outs : List Effect) (v : Parts) (d : Disk) (M : Moment) → WalksWith G k outs (UpWith G k v) d M →
          WalksWith LoadsAreLocked k outs (UpWith LoadsAreLocked k v) d M →
          WalksWith (λ M. G M × LoadsAreLocked M) k outs (UpWith (λ M. G M × LoadsAreLocked M) k v) d M
      both k outs v d M a b = with_both G LoadsAreLocked k outs (UpWith G k v) (UpWith LoadsAreLocked k v) d M a b

-- as a run begins
pub first_locked : (hd : Header) (st : Start) → LoadsAreLocked (record { past = no_history st; seen = see [] (world_from hd st) })
first_locked hd st j n t there live = subst
    (λ (z : Parts). AreSo (let N = see [] (world_from hd st) in N.start) (let N = see [] (world_from hd st) in N.lines) [] z.coord)
    (first_up hd st j n t there live) (
      are_new (let N = see [] (world_from hd st) in N.start) (let N = see [] (world_from hd st) in N.lines) [] j (st.incs j + 1)
          (let z = disk_by hd st j in z.intents),
      Keepers.are_new [] [] j (st.incs j + 1) (let z = disk_by hd st j in z.intents),
    )
