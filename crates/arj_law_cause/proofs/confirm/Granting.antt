-- What roots were granted on entries stands in the journal, and what plans of commits use: at each node that is up, whatever nodes do.
use Rattle.arj_law_parts.proofs.Words
use Words.{⊤, ◌≡◌, ◌≤◌, ◌∙◌, ◌==◌, ◌+◌, ◌++◌, ◌&&◌, eqb-true, ℕ, Bool, true, false, if◌then◌else◌, List, [], ◌∷◌, Option, Some, None}
use Words.{IfSome, refl, sym}
use Words.{ap, subst, and_parts, Ask, Asked, Binding, Body, End, Head, Header, Kind, Label, Line, Message, Reply, Start}
use Words.{Uid, actor, answers, entry, first_uid, numbered, top_of, frame_kind, is_serial, ask_at, ask_kind, reply_kind, next_ask}
use Words.{next_node, waits_for_call, is_include, At, AtActivate, AtBind, AtInvoke, AtLoad, AtNote, Goal, Steps, Calling, Coord}
use Words.{Doing, doing_of, Grant, granted_by, is_own, root_of, acked, again_all, begin_action, heard, Disk, Do, Effect, Say, Send, stopped}
use Words.{worked, Handled, Parts, Took, Void, handle, handle_ends, handle_other, serve, last_end, with_coord, tick_outs, Input, Node}
use Words.{acts as does, parent_of, parts_in, restart_outs, refusal_up, Post, Seen, see, world_from}
use Words.ask
use Words.body
use Words.bound
use Words.frame
use Words.input
use Words.message
use Words.mode
use Rattle.arj_law_lock_view.proofs.Terms.{same_number}
use Rattle.arj_law_lock_view.proofs.facts.Requests.{requests_keep}
use Rattle.arj_law_lock_view.specs.facts.Requests.{IsAskedBy, RequestsAreKnown}
use Rattle.arj_law_lock_view.specs.moments.Made.{AnswersAreMade, AnswersTo}
use Rattle.arj_law_parts.proofs.coordinator.Trace.{Hears, Takes}
use Rattle.arj_law_parts.proofs.moves.{Flat.post, Happens.Wide, Happens.keeps_asked, Together.with_both}
use Rattle.arj_law_parts.specs.moves.Moments.{Moment, asks_now, at, fits, framed_if, given, no_history, posted, said, sent, up}
use Rattle.arj_law_parts.specs.moves.Seen as seen
use Rattle.arj_law_parts.specs.moves.With.{KeepsSteps, UpWith, WalksWith}
use Rattle.arj_law_parts.specs.parts.Coords.{IsAsking, IsBusy}
use Rattle.arj_law_parts.specs.parts.Requests.{IsNumbered}
use Rattle.arj_law_promise.proofs.Terms.{by_coord, by_message}
use Rattle.arj_law_runs.proofs.follow.Halts.{KnowsAll, halts_keep}
use Rattle.arj_law_runs.proofs.resting.Serving.{IsServed, serve_served}
use Rattle.arj_law_runs.specs.calls.Coords.{IsOfStep, head_of}
use Rattle.arj_law_runs.specs.journal.Right.{has_act}
use Rattle.arj_law_serial.proofs.Terms.{acts, disk_by, first_up, path_by, uids}
use Rattle.arj_law_serial.proofs.joint.{MarkRuns.own_doing}
use Rattle.arj_model.specs.CauseAnswers.{has_lock}
use Rattle.arj_model.specs.Refusals.{incarnation}
use Rattle.arj_promise.specs.Starts.{next_inc}
use Rattle.arj_law_cause.proofs.confirm.{Granted.CameHad, Granted.CoordHad, Granted.had_acked, Granted.had_acts, Granted.had_again}
use Rattle.arj_law_cause.proofs.confirm.{Granted.had_begins, Granted.had_heard, Granted.had_map, Granted.had_new}
use Rattle.arj_law_cause.proofs.confirm.{Had.HadIn, Had.PlanSo, Had.had_in_more, Had.plan_more, Planned.plan_so, Reached.Reached}
use Rattle.arj_law_cause.proofs.confirm.{Reached.reached_has, Says.confirms_so, Says.says_of}
use Rattle.arj_law_cause.proofs.confirm.Placed as placed
use Rattle.arj_promise.specs.Runs.{HeaderFits}
use Rattle.arj_law_cause.proofs.rows.Machines.{kept_inc}
use Rattle.arj_law_cause.proofs.rows.Taking.{bind_is}
use Rattle.arj_law_cause.proofs.waits.waiting.Acting as acting

some_is : {A : Type 0} {a b : A} → Some a ≡ Some b → a ≡ b
some_is {A} {a} {b} is = let k : ◌≡◌ {A = Option A} (Some a) (Some b) = is in cc

none_is : {A P : Type 0} {x : A} → None ≡ Some x → P
none_is {A} {P} {x} is = let no_way : ◌≡◌ {A = Option A} None (Some x) = is in absurd (cc no_way)

-- ---- answers that grant

-- an answer that grants is to a Bind
at_bind : (top : Uid) (x : ℕ) (goal : Goal) (at : At) (r : Reply) (g : Grant) → granted_by top x r ≡ Some g →
    (reply_kind r == ask_kind (ask_at x goal [] at)) ≡ true → (avoid : Binding) × (at ≡ AtBind avoid)
at_bind top x goal (AtBind avoid) r g is kind = (avoid, refl)
at_bind top x goal (AtLoad k s rest) (Reply.Bound q) g is kind = absurd (cc kind)
at_bind top x goal (AtActivate k st) (Reply.Bound q) g is kind = absurd (cc kind)
at_bind top x goal (AtNote k i) (Reply.Bound q) g is kind = absurd (cc kind)
at_bind top x goal (AtInvoke k i) (Reply.Bound q) g is kind = absurd (cc kind)
at_bind top x goal at r g is kind = none_is is

-- it grants to the top, for the object
granted_is : (top : Uid) (x : ℕ) (r : Reply) (g : Grant) → granted_by top x r ≡ Some g → g.top ≡ top
granted_is top x (Reply.Bound (bound.Live b server i n stores)) g is = ap (λ (z : Grant). z.top) (sym (some_is is))
granted_is top x (Reply.Bound (bound.Make b server n stores)) g is = ap (λ (z : Grant). z.top) (sym (some_is is))
granted_is top x (Reply.Bound (bound.Write n stores)) g is = ap (λ (z : Grant). z.top) (sym (some_is is))
granted_is top x (Reply.Bound (bound.Conflict u m)) g is = none_is is
granted_is top x r g is = none_is is

module _ (st : Start) where
  -- so it is of a coordinator, by these lines
  abbrev pub IsHadSo : List Line → Coord → Type 0
  IsHadSo ls c = CoordHad (HadIn st ls) (PlanSo st ls) c

  -- and of each node that is up
  abbrev pub GrantsAreHad : Moment → Type 0
  GrantsAreHad M = (j : ℕ) (n : Node) (t : Parts) → M.seen.nodes j ≡ Some n → n.live ≡ Some t → IsHadSo M.seen.lines t.coord

  pub more_had : (ls ms : List Line) (c : Coord) → IsHadSo ls c → IsHadSo (ls ++ ms) c
  more_had ls ms c h = had_map (HadIn st ls) (HadIn st (ls ++ ms)) (PlanSo st ls) (PlanSo st (ls ++ ms))
      (λ k top x g. had_in_more st ls ms k top x g) (λ u w. plan_more st ls ms u w) c h

  -- ---- nodes but one

  module _ (k : ℕ) where
    abbrev Off : Moment → Type 0
    Off N = (j : ℕ) (n : Node) (t : Parts) → (j == k) ≡ false → N.seen.nodes j ≡ Some n → n.live ≡ Some t → IsHadSo N.seen.lines t.coord

    put : (d : Disk) (live : Option Parts) (N : Moment) → Off N → ((t : Parts) → live ≡ Some t → IsHadSo N.seen.lines t.coord) →
        GrantsAreHad (at k d live N)
    put d live N off own j n t there up_it = by (j == k) refl there
      where
        by : (b : Bool) → (j == k) ≡ b → (if b then Some (record { number = k; disk = d; live = live }) else N.seen.nodes j) ≡ Some n →
            IsHadSo N.seen.lines t.coord
        by true is here = own t (ap (λ (z : Node). z.live) (some_is here) ∙ up_it)
        by false is here = off j n t is here up_it

    off_of : (d : Disk) (live : Option Parts) (M : Moment) → GrantsAreHad (at k d live M) → Off M
    off_of d live M h j n t other there up_it =
        h j n t ((λ i. if other i then Some (record { number = k; disk = d; live = live }) else M.seen.nodes j) ∙ there) up_it

    pub own_of : (d : Disk) (t : Parts) (M : Moment) → GrantsAreHad (up k d t M) → IsHadSo M.seen.lines t.coord
    own_of d t M h = h k (record { number = k; disk = d; live = Some t }) t
        (λ i. if same_number k i then Some (record { number = k; disk = d; live = Some t }) else M.seen.nodes k) refl

    off_said : (bs : List Body) (N : Moment) → Off N → Off (said bs N)
    off_said bs N h j n t other there up_it = more_had N.seen.lines (numbered N.past.number bs) t.coord (h j n t other there up_it)

    off_sent : (p : Post) (N : Moment) → Off N → Off (sent p N)
    off_sent p N h = by (p.to == p.from) (fits N)
      where
        by : (self fit : Bool) → Off (if self then posted p N else framed_if fit p N)
        by true fit = h
        by false true = off_said (body.Sent (N.past.frames + 1) p.from p.to (frame_kind p.message) ∷ []) N h
        by false false = h

    own_sent : (c : Coord) (p : Post) (N : Moment) → IsHadSo N.seen.lines c → (let O = sent p N in IsHadSo O.seen.lines c)
    own_sent c p N h = by (p.to == p.from) (fits N)
      where
        by : (self fit : Bool) → (let O = if self then posted p N else framed_if fit p N in IsHadSo O.seen.lines c)
        by true fit = h
        by false true = more_had N.seen.lines (numbered N.past.number
            (body.Sent (N.past.frames + 1) p.from p.to (frame_kind p.message) ∷ [])) c h
        by false false = h

    walk : (v : Parts) (outs : List Effect) (d : Disk) (N : Moment) → Off N → IsHadSo N.seen.lines v.coord →
        WalksWith GrantsAreHad k outs (UpWith GrantsAreHad k v) d N
    walk v [] d N off own = put d (Some v) N off (λ t is. subst (λ (z : Parts). IsHadSo N.seen.lines z.coord) (some_is is) own)
    walk v (Do w ∷ es) d N off own = (
      (λ how. put (stopped how w d) None (said (body.Halted k ∷ []) N) (off_said (body.Halted k ∷ []) N off) (λ t is. none_is is)),
      walk v es (worked w d) N off own,
    )
    walk v (Say b ∷ es) d N off own = walk v es d (said (b ∷ []) N) (off_said (b ∷ []) N off)
        (more_had N.seen.lines (numbered N.past.number (b ∷ [])) v.coord own)
    walk v (Send to m ∷ es) d N off own = walk v es d (sent (post k to m) N) (off_sent (post k to m) N off)
        (own_sent v.coord (post k to m) N own)

  -- ---- one node

  module _ (hd : Header) (form : HeaderFits hd) (k : ℕ) (d : Disk) (t : Parts) (M : Moment) (known : Wide (Reached hd) (up k d t M))
      (starts : (let N = M.seen in N.start) ≡ st) (made : AnswersAreMade (confirms_so hd st) (up k d t M)) (had : GrantsAreHad (up k d t M)) where
    abbrev Z : Seen
    Z = let N = up k d t M in seen.with_sent known.0 N.seen

    abbrev mine : Node
    mine = record { number = k; disk = d; live = Some t }

    here : (let N = up k d t M in N.seen.nodes k) ≡ Some (record { number = k; disk = d; live = Some t })
    here = λ i. if same_number k i then Some (record { number = k; disk = d; live = Some t }) else M.seen.nodes k

    all : KnowsAll Z
    all = reached_has hd KnowsAll (keeps_asked hd KnowsAll (halts_keep hd)) Z known.2

    own : IsHadSo M.seen.lines t.coord
    own = own_of k d t M had

    off : Off k M
    off = off_of k d (Some t) M had

    module _ (from : ℕ) (m : Message) (sent_it : seen.In (post from k m) M.seen.sent) (a : Asked) (r : Reply)
        (answer : answers m ≡ Some (a, r)) where
      ans : AnswersTo (confirms_so hd st) ⊥ (up k d t M) from k a r
      ans = made.sent (post from k m) a r sent_it answer

      asker : actor (let h = ans.0 in h.path) ≡ a.act
      asker = ap (λ (b : Asked). b.act) ans.2

      -- what it grants its top had, where it was made
      granted : (w : Doing) (s : Steps) → doing_of a.act t.coord ≡ Some w → w.now ≡ Calling s → waits_for_call from a r s ≡ true →
          (g : Grant) → granted_by (top_of s.path) s.x r ≡ Some g → HadIn st M.seen.lines (let u = root_of s.path in u.num) g.top g.x g.least
      granted w s found is waits g gives = record {
        had = let z = ans.3 in record {
          before = z.made.before;
          after = z.made.after;
          are = z.made.are;
          lock = so.0;
          inc = so.1;
          since = so.2;
        };
        there = ap (has_act_of M.seen.lines) (granted_is (top_of s.path) s.x r g gives) ∙ began.0;
        of = λ distinct. ap (λ v. (let u = first_uid (uids (path_by (acts M.seen.lines) v)) in u.num))
            (granted_is (top_of s.path) s.x r g gives) ∙ ap (λ (u : Uid). u.num) began.1;
      }
        where
          has_act_of : List Line → Uid → Bool
          has_act_of ls u = has_act (acts ls) u

          own_it : is_own a.act t.coord.tree ≡ true
          own_it = own_doing a.act t.coord w found

          asked_for : IsAskedBy t.coord (let z = ans.3 in let q = z.request in q.to) ans.0 ans.1
          asked_for =
              let z = ans.3 in
              let known_now : RequestsAreKnown Z = reached_has hd RequestsAreKnown (keeps_asked hd RequestsAreKnown (requests_keep hd)) Z known.2 in
              known_now.1 k (record { number = k; disk = d; live = Some t }) t here refl z.request ans.0 ans.1 (known.1 z.request z.posted) z.from
              z.asking (ap (λ v. is_own v t.coord.tree) asker ∙ own_it)

          doing_is : (let z = asked_for in z.doing) ≡ w
          doing_is = let z = asked_for in some_is (sym z.found ∙ ap (λ v. doing_of v t.coord) asker ∙ found)

          its_parts : ((s.req == a.req) ≡ true) × ((reply_kind r == ask_kind (next_ask [] s)) ≡ true)
          its_parts =
              let z = and_parts (s.req == a.req) ((reply_kind r == ask_kind (next_ask [] s)) && (next_node s == from)) waits in
              (z.0, (and_parts (reply_kind r == ask_kind (next_ask [] s)) (next_node s == from) z.1).0)

          number : s.req ≡ w.req
          number = subst (IsNumbered w.req) is (acting.numbered Z all k mine t here refl a.act w found)

          step : IsOfStep s (let z = ans.3 in let q = z.request in q.to) ans.0 ans.1
          step = let z = asked_for in z.step s (ap (λ (x : Doing). x.now) doing_is ∙ is)
              (ap (λ (b : Asked). b.req) ans.2 ∙ sym (eqb-true s.req a.req its_parts.0) ∙ number ∙ ap (λ (x : Doing). x.req) (sym doing_is))

          bind : (avoid : Binding) × (s.at ≡ AtBind avoid)
          bind = at_bind (top_of s.path) s.x s.goal s.at r g gives its_parts.1

          request : ans.1 ≡ ask.Bind s.x (is_include s.goal) bind.0
          request = bind_is ans.1 s.x (is_include s.goal) bind.0 (step.same ∙ (λ j. ask_at s.x s.goal [] (bind.1 j)))

          so : (has_lock 1 g.top (entry g.x) mode.Read (let z = ans.3 in z.made.before) ≡ true)
              × (incarnation st (let z = ans.3 in z.made.before) 1 ≡ g.least) × (next_inc st 1 ≤ g.least)
          so = let z = ans.3 in
              subst (λ o. IfSome o (λ (e : Grant). (has_lock 1 e.top (entry e.x) mode.Read z.made.before ≡ true)
              × (incarnation st z.made.before 1 ≡ e.least) × (next_inc st 1 ≤ e.least))) gives
              (subst (λ b. says_of hd st (head_of s) b r z.made.before) request
              (subst (λ h. says_of hd st h ans.1 r z.made.before) step.head z.made.so.0))

          asking : IsAsking t.coord.tree a.act s.path
          asking = subst (IsBusy t.coord.tree a.act) is (let c = acting.coord Z all k mine t here refl in c.busy a.act w found)

          began : (has_act (acts M.seen.lines) (top_of s.path) ≡ true)
              × (first_uid (uids (path_by (acts M.seen.lines) (top_of s.path))) ≡ root_of s.path)
          began = placed.top_began hd Z known.2 k mine t here refl a.act asking.branch s.path asking.found asking.path

      came : CameHad (HadIn st M.seen.lines) (PlanSo st M.seen.lines) (Hears from a r d.intents) t.coord
      came w s found is waits = by (granted_by (top_of s.path) s.x r) (λ g gives. granted w s found is waits g gives)
        where
          by : (o : Option Grant) →
              ((g : Grant) → o ≡ Some g → HadIn st M.seen.lines (let u = root_of s.path in u.num) g.top g.x g.least) →
              IfSome o (λ (g : Grant). HadIn st M.seen.lines (let u = root_of s.path in u.num) g.top g.x g.least)
          by None so = tt
          by (Some g) so = so g refl

    -- ---- a message

    abbrev LeftSo : Handled → Type 0
    LeftSo (Void outs) = ⊤
    LeftSo (Took v outs) = IsHadSo M.seen.lines v.coord

    handled : (from : ℕ) (m : Message) → seen.In (post from k m) M.seen.sent → LeftSo (handle k d t from m)
    handled from m sent_it = by_message k d t from LeftSo tt m (λ h a is. asked h a (serve k d t from h a) (serve_served k d t from h a))
        (λ a r is. by_coord k d t from LeftSo tt (heard from a r d.intents t.coord) (had_heard (HadIn st M.seen.lines) (PlanSo st M.seen.lines)
        from a r d.intents t.coord own (came from m sent_it a r is))) (other m)
      where
        asked : (h : Head) (a : Ask) (z : Handled) → IsServed from h a t z → LeftSo z
        asked h a (Void outs) served = tt
        asked h a (Took v outs) served = subst (IsHadSo M.seen.lines) (sym served.coord) own

        ends : (ack : Bool) (es : List (Uid × End)) (o : Option (Uid × End)) → LeftSo (handle_ends k d t from ack es o)
        ends ack es None = own
        ends ack es (Some e) = own

        other : (p : Message) → LeftSo (handle_other k d t from p)
        other (message.Told p) = ends p.ack p.ends (last_end p.ends)
        other (message.Acked p) = by_coord k d t from LeftSo tt (acked from p.act d.intents t.coord)
            (had_acked (HadIn st M.seen.lines) (PlanSo st M.seen.lines) from p.act d.intents t.coord own)
        other (message.Query p) = own
        other (message.Hello p) = own
        other p = tt

    message_walk : (v : Parts) (from : ℕ) (m : Message) (outs : List Effect) → seen.In (post from k m) M.seen.sent →
        handle k d t from m ≡ Took v outs → WalksWith GrantsAreHad k outs (UpWith GrantsAreHad k v) d M
    message_walk v from m outs sent_it is = walk k v outs d M off (subst LeftSo is (handled from m sent_it))

    -- ---- an input

    taken : (i : Input) → refusal_up hd i t.coord ≡ None → CameHad (HadIn st M.seen.lines) (PlanSo st M.seen.lines) (Takes i d.intents) t.coord
    taken (input.Commit l) free = λ b named unnested unserial. plan_so hd st Z known.2 k mine t here refl starts
        (let o = own in o.roots) l b named free unnested unserial
        (λ early found s i old is recorded. kept_inc hd form k d t M.seen known.0 known.2 early (actor b.path) b found s i old is recorded)
    taken (input.Begin l how parent) free = tt
    taken (input.Call l x o) free = tt
    taken (input.Include l x n) free = tt
    taken (input.Abort l) free = tt
    taken (input.GiveUp l) free = tt
    taken i free = tt

    act_walk : (i : Input) → refusal_up hd i t.coord ≡ None → (let did = does i d.intents t.coord in
        WalksWith GrantsAreHad k did.outs (UpWith GrantsAreHad k (with_coord t did.part)) d (asks_now i t.coord M))
    act_walk i free = let did = does i d.intents t.coord in
        walk k (with_coord t did.part) did.outs d (asks_now i t.coord M) off
        (had_acts (HadIn st M.seen.lines) (PlanSo st M.seen.lines) i d.intents t.coord own (taken i free))

    begin_walk : (l : Label) (how : Kind) (parent : Option Label) →
        (let did = begin_action l how parent (parent_of parent t.coord) t.coord in
        WalksWith GrantsAreHad k did.outs (UpWith GrantsAreHad k (with_coord t did.part)) d
        (given l (record { node = k; serial = is_serial how }) M))
    begin_walk l how parent = let did = begin_action l how parent (parent_of parent t.coord) t.coord in
        walk k (with_coord t did.part) did.outs d (given l (record { node = k; serial = is_serial how }) M) off
        (had_begins (HadIn st M.seen.lines) (PlanSo st M.seen.lines) l how parent (parent_of parent t.coord) t.coord own)

    tick_walk : WalksWith GrantsAreHad k (tick_outs (record { number = k; disk = d; live = Some t }) t)
        (UpWith GrantsAreHad k (with_coord t (again_all t.coord.doings t.coord).part)) d M
    tick_walk = walk k (with_coord t (again_all t.coord.doings t.coord).part) (tick_outs (record { number = k; disk = d; live = Some t }) t)
        d M off (had_again (HadIn st M.seen.lines) (PlanSo st M.seen.lines) t.coord own)

  -- ---- every handler

  module _ (hd : Header) (form : HeaderFits hd) (G : Moment → Type 0) (steps : KeepsSteps hd G)
      (known : (k : ℕ) (d : Disk) (t : Parts) (M : Moment) → G (up k d t M) → Wide (Reached hd) (up k d t M))
      (starts : (k : ℕ) (d : Disk) (t : Parts) (M : Moment) → G (up k d t M) → (let N = M.seen in N.start) ≡ st)
      (made : (k : ℕ) (d : Disk) (t : Parts) (M : Moment) → G (up k d t M) → AnswersAreMade (confirms_so hd st) (up k d t M)) where
    pub had_steps : KeepsSteps hd (λ M. G M × GrantsAreHad M)
    had_steps = record {
      quiet = λ bs M plain h. (
        steps.quiet bs M plain h.0,
        λ j n t there live. more_had M.seen.lines (numbered M.past.number bs) t.coord (h.1 j n t there live),
      );
      junk = λ n M fit h. (
        steps.junk n M fit h.0,
        λ j z t there live. more_had M.seen.lines (numbered M.past.number (body.Sent (M.past.frames + 1) 0 n frame.Junk ∷ []))
            t.coord (h.1 j z t there live),
      );
      stop = λ k d live M h. (
        steps.stop k d live M h.0,
        put k d None (said (body.Halted k ∷ []) M) (off_said k (body.Halted k ∷ []) M (off_of k d live M h.1)) (λ t is. none_is is),
      );
      message = λ k d t v from m outs M h there meant may is. both k outs v d M (steps.message k d t v from m outs M h.0 there meant may is)
          (message_walk hd form k d t M (known k d t M h.0) (starts k d t M h.0) (made k d t M h.0) h.1 v from m outs there is);
      act = λ k d t i M is brings first asks free h. let did = does i d.intents t.coord in
          both k did.outs (with_coord t did.part) d (asks_now i t.coord M) (steps.act k d t i M is brings first asks free h.0)
          (act_walk hd form k d t M (known k d t M h.0) (starts k d t M h.0) (made k d t M h.0) h.1 i free);
      begin = λ k d t l how parent M brings first new gives none h.
          let did = begin_action l how parent (parent_of parent t.coord) t.coord in
          both k did.outs (with_coord t did.part) d (given l (record { node = k; serial = is_serial how }) M)
          (steps.begin k d t l how parent M brings first new gives none h.0)
          (begin_walk hd form k d t M (known k d t M h.0) (starts k d t M h.0) (made k d t M h.0) h.1 l how parent);
      tick = λ k d t M h. let r = again_all t.coord.doings t.coord in
          both k (tick_outs (record { number = k; disk = d; live = Some t }) t) (with_coord t r.part) d M (steps.tick k d t M h.0)
          (tick_walk hd form k d t M (known k d t M h.0) (starts k d t M h.0) (made k d t M h.0) h.1);
      restart = λ k d M event first h. both k (restart_outs hd k (d.inc + 1) d) (parts_in k (d.inc + 1) d) d M
          (steps.restart k d M event first h.0) (walk k (parts_in k (d.inc + 1) d) (restart_outs hd k (d.inc + 1) d) d M
          (off_of k d None M h.1) (had_new (HadIn st M.seen.lines) (PlanSo st M.seen.lines) k (d.inc + 1) d.intents));
    }
      where
        both : (k : ℕ) (outs : List Effect) (v : Parts) (d : Disk) (M : Moment) → WalksWith G k outs (UpWith G k v) d M →
            WalksWith GrantsAreHad k outs (UpWith GrantsAreHad k v) d M →
            WalksWith (λ N. G N × GrantsAreHad N) k outs (UpWith (λ N. G N × GrantsAreHad N) k v) d M
        both k outs v d M a b = with_both G GrantsAreHad k outs (UpWith G k v) (UpWith GrantsAreHad k v) d M a b

-- as a run begins
pub first_had : (hd : Header) (st : Start) → GrantsAreHad st (record { past = no_history st; seen = see [] (world_from hd st) })
first_had hd st j n t there live = subst (λ (z : Parts). IsHadSo st (let N = see [] (world_from hd st) in N.lines) z.coord)
    (first_up hd st j n t there live) (had_new (HadIn st (let N = see [] (world_from hd st) in N.lines))
    (PlanSo st (let N = see [] (world_from hd st) in N.lines)) j (st.incs j + 1) (let z = disk_by hd st j in z.intents))
