-- In runs in form each operation that is asked of a server is in form: it is that of the event which asked for the call.
use Rattle.arj_law_parts.proofs.Words
use Words.{◌≡◌, ◌+◌, ◌==◌, ◌∙◌, ◌&&◌, ◌++◌, ℕ, Bool, true, false, cond, if◌then◌else◌, List, [], ◌∷◌, Option, Some, None, refl, sym}
use Words.{ap, subst, ⊎_elim, inl, inr, ⊤, AllByRecursion, and_parts, append-nil, list_all, Ask, Body, Event, Head, Header, Uid}
use Words.{asks, frame_kind, begin_action, is_serial, At, AtActivate, AtBind, AtInvoke, AtLoad, AtNote, Goal, Include, Run, Steps, ask_at}
use Words.{Confirming, Machine, Preparing, Voting, ask_of, Calling, Committing, Coord, Doing, Idle, Now, doing_of, again_all, Disk, Do}
use Words.{Effect, Say}
use Words.{Send, worked, tick_outs, Parts, with_coord, Input, Node, acts as acts_of, parent_of, parts_in, restart_outs}
use Words.{World, lacks_labels, giving, run_event, first_reason, reasons, at_place, Move, Post, Seen, world_by, moved, IsInForm}
use Words.{AreMovesInForm, actor, refusal_at, world_from, Message, IfSome}
use Words.list
use Words.ask
use Words.body
use Words.frame
use Words.input
use Rattle.arj_law_promise.proofs.Terms
use Terms.{AllSo, Holds, In, IsGood, IsSentBy, KeepsAsked, Up, Walks, bare, node_here, up as seen_up, walks_both}
use Rattle.arj_journal.specs.ScriptForm.{EventInForm}
use Rattle.arj_law_lock_view.proofs.asking.Tied.{Pathed, tied_keep}
use Rattle.arj_law_lock_view.specs.asking.Asked.{AskedAreTied, IsAskedSo, IsTied, asks_goal}
use Rattle.arj_law_lock_view.specs.asking.Turns.{calling}
use Rattle.arj_law_parts.proofs.moves.{Events.run_with, Flat.within_more, Happens.Wide, Places.all_to, Together.with_both}
use Rattle.arj_law_parts.specs.moves.Keeps.{IsSent}
use Rattle.arj_law_parts.specs.moves.Moments.{Asking, History, Moment, asks_now, come, fits, framed_if, given, posted, said, up}
use Rattle.arj_law_parts.specs.moves.Seen as seen
use Rattle.arj_law_parts.specs.moves.Seen.{Within, is_quiet_line}
use Rattle.arj_law_parts.specs.moves.With.{ArePlain, KeepsAll, UpWith, WalksWith, asked_at, asked_of_node, is_plain_line, past_event}
use Rattle.arj_law_parts.specs.moves.With.{past_moves}
use Rattle.arj_law_parts.specs.moves.With.{past_unless, written}
use Rattle.arj_law_parts.specs.moves.Moments.{gone, no_history, taken_by}
use Rattle.arj_law_parts.specs.steps.Writes.{asks as asks_of}
use Rattle.arj_law_promise.proofs.meant.Posts.{act_sends, message_sends, tick_sends}
use Rattle.arj_law_promise.proofs.waiting.Serving.{restart_asks}
use Rattle.arj_protocol.specs.Call.{invoked_op}
use Rattle.arj_promise.specs.Runs.{Run as RunOf}
use Rattle.arj_protocol.specs.World.{Frame}
use Rattle.arj_text.specs.Fields.{OpTextInForm}

-- ---- what was asked

-- each event that asked something of an action is in form
abbrev AsksForm : History → Type 0
AsksForm g = AllByRecursion (λ (k : Asking). EventInForm (let a = k.asked in a.event)) g.askings

all_in : {A : Type 0} (P : A → Type 0) (xs : List A) (x : A) → AllByRecursion P xs → list.In x xs → P x
all_in P [] x all i = absurd i
all_in P (y ∷ ys) x all (inl same) = subst P same all.0
all_in P (y ∷ ys) x all (inr i) = all_in P ys x all.1 i

abbrev T : Moment → Type 0
T M = Wide Pathed M × AskedAreTied M

-- what a coordinator waits for
goal_form : (k : ℕ) (c : Disk) (v : Parts) (N : Moment) → T (up k c v N) → AsksForm N.past → (u : Uid) (q : Doing) (s : Steps) →
    doing_of u v.coord ≡ Some q → q.now ≡ Calling s → OpTextInForm (invoked_op s.goal)
goal_form k c v N t forms u q s does now = by s.goal (its.goal.2)
  where
    tied : AskedAreTied (up k c v N)
    tied = t.1

    its : IsAskedSo N.past.askings u q s
    its = (subst (λ n. IsTied N.past.askings (let M = N.seen in M.lines) u q (calling n)) now
        (tied.tied k (record { number = k; disk = c; live = Some v }) v u q
        (node_here (let M = N.seen in M) k (record { number = k; disk = c; live = Some v })) refl does)).1

    form : EventInForm (let k = its.asking in let a = k.asked in a.event)
    form = all_in (λ (k : Asking). EventInForm (let a = k.asked in a.event)) N.past.askings its.asking forms its.there

    by : (g : Goal) → (let k = its.asking in let a = k.asked in a.event) ≡ asks_goal its.goal.0 s.x g → OpTextInForm (invoked_op g)
    by (Run o) same = (subst EventInForm same form).2
    by (Include n) same = tt

-- ---- requests

abbrev pub OpOf : Ask → Type 0
OpOf (ask.Invoke x b i ends o) = OpTextInForm o
OpOf a = ⊤

bare_op : (a : Ask) → OpOf (bare a) → OpOf a
bare_op (ask.Bind x include avoid) its = tt
bare_op (ask.Load x) its = tt
bare_op (ask.Activate b st) its = tt
bare_op (ask.Record x b i g) its = tt
bare_op (ask.Invoke x b i ends o) its = its
bare_op (ask.Vote i ties ends) its = tt
bare_op (ask.Prepare states) its = tt
bare_op (ask.Confirm grants ex inc) its = tt

at_op : (x : ℕ) (g : Goal) (at : At) → OpTextInForm (invoked_op g) → OpOf (ask_at x g [] at)
at_op x g (AtBind avoid) its = tt
at_op x g (AtLoad k s rest) its = tt
at_op x g (AtActivate k st) its = tt
at_op x g (AtNote k i) its = tt
at_op x g (AtInvoke k i) its = its

commit_op : (m : Machine) (to : ℕ) → OpOf (ask_of m to)
commit_op (Voting p left) to = tt
commit_op (Preparing p left) to = tt
commit_op (Confirming p) to = tt

-- those of a coordinator's calls are so
abbrev GoalsFit : Coord → Type 0
GoalsFit c = (u : Uid) (q : Doing) (s : Steps) → doing_of u c ≡ Some q → q.now ≡ Calling s → OpTextInForm (invoked_op s.goal)

sent_op : (c : Coord) → GoalsFit c → (to : ℕ) (h : Head) (a : Ask) → IsSentBy c to h a → OpOf a
sent_op c goals to h a s = by (let q = s.doing in q.now) refl
  where
    by : (n : Now) → (let q = s.doing in q.now) ≡ n → OpOf a
    by Idle is = absurd (s.busy is)
    by (Calling w) is = let o = s.step w is in
        bare_op a (subst OpOf (sym o.same) (at_op w.x w.goal w.at (goals (actor h.path) s.doing w s.found is)))
    by (Committing m) is = let o = s.commit m is in subst OpOf (sym o.same) (commit_op m to)

-- so it is of all that was sent, where this holds
abbrev OpsWhere : Type 0 → Seen → Type 0
OpsWhere A M = A → (p : Post) (h : Head) (a : Ask) → In p M.sent → asks p.message ≡ Some (h, a) → OpOf a

ops_walk : (A : Type 0) (e k : ℕ) (v : Parts) (outs : List Effect) (d : Disk) (M : Seen) → AllSo v.coord outs → (A → GoalsFit v.coord) →
    OpsWhere A M → Walks (OpsWhere A) e k outs (Up (OpsWhere A) k v) d M
ops_walk A e k v [] d M so goals all = all
ops_walk A e k v (Do x ∷ es) d M so goals all = ((λ how. all), ops_walk A e k v es (worked x d) M so.1 goals all)
ops_walk A e k v (Say b ∷ es) d M so goals all = ops_walk A e k v es d _ so.1 goals all
ops_walk A e k v (Send to m ∷ es) d M so goals all = λ more quiet. ops_walk A e k v es d _ so.1 goals
    (λ is p h a there asked. ⊎_elim (λ same. sent_op v.coord (goals is) to h a (so.0 h a (ap (λ (q : Post). asks q.message) same ∙ asked)))
    (λ old. all is p h a old asked) there)

-- ---- moments

-- the end of a walk
end_with : (Q : Moment → Type 0) (k : ℕ) (v : Parts) (outs : List Effect) (d : Disk) (M : Moment) → WalksWith Q k outs (UpWith Q k v) d M →
    (c : Disk) × (N : Moment) × Q (up k c v N) × (N.past.askings ≡ M.past.askings)
end_with Q k v [] d M w = (d, M, w, refl)
end_with Q k v (Do x ∷ es) d M w = end_with Q k v es (worked x d) M w.1
end_with Q k v (Say b ∷ es) d M w = end_with Q k v es d (said (b ∷ []) M) w
end_with Q k v (Send to m ∷ es) d M w = by (to == k) (fits M) w (λ N. end_with Q k v es d N)
  where
    p : Post
    p = record { from = k; to = to; message = m }

    End : Type 0
    End = (c : Disk) × (N : Moment) × Q (up k c v N) × (N.past.askings ≡ M.past.askings)

    by : (a b : Bool) → WalksWith Q k es (UpWith Q k v) d (if a then posted p M else framed_if b p M) →
        ((N : Moment) → WalksWith Q k es (UpWith Q k v) d N →
        (c : Disk) × (O : Moment) × Q (up k c v O) × (O.past.askings ≡ N.past.askings)) → End
    by true b goes rest = rest (posted p M) goes
    by false true goes rest = rest (framed_if true p M) goes
    by false false goes rest = rest M goes

-- where more was sent, and operations of all of it are in form
abbrev WideBy : (Seen → Type 0) → Moment → Type 0
WideBy X M = (sent : List Post) × Within M.seen.sent sent × X (seen.with_sent sent M.seen) ×
    OpsWhere (AsksForm M.past) (seen.with_sent sent M.seen)

no_line : (Q : Seen → Type 0) (M : Seen) → Q (record M { lines = M.lines ++ [] }) → Q M
no_line Q M q = subst (λ ls. Q (record M { lines = ls })) (append-nil M.lines) q

module _ (X : Seen → Type 0) (A : Type 0) where
  abbrev Both : Seen → Type 0
  Both M = X M × OpsWhere A M

  wide_walk : (k : ℕ) (es : List Effect) (v : Parts) (d : Disk) (M : Moment) (sent : List Post) → AsksForm M.past ≡ A →
      Within M.seen.sent sent → Walks Both M.past.number k es (Up Both k v) d (seen.with_sent sent M.seen) →
      WalksWith (WideBy X) k es (UpWith (WideBy X) k v) d M
  wide_walk k [] v d M sent same within w = (sent, within, w.0, λ a. w.1 (subst (λ B. B) same a))
  wide_walk k (Do x ∷ es) v d M sent same within w = (
    (λ how. let h = w.0 how in (sent, within, h.0, λ a. h.1 (subst (λ B. B) same a))),
    wide_walk k es v (worked x d) M sent same within w.1,
  )
  wide_walk k (Say b ∷ es) v d M sent same within w = wide_walk k es v d (said (b ∷ []) M) sent same within w
  wide_walk k (Send to m ∷ es) v d M all same within w = by (to == k)
      (wide_walk k es v d (posted p M) (p ∷ all) same (within_more p M.seen.sent all within) alone)
      (frames (fits M)
      (wide_walk k es v d (framed_if true p M) (p ∷ all) same (within_more p M.seen.sent all within)
      (w (body.Sent (M.past.frames + 1) k to (frame_kind m) ∷ []) refl))
      (wide_walk k es v d M (p ∷ all) same (λ q h. inr (within q h)) alone))
    where
      p : Post
      p = record { from = k; to = to; message = m }

      alone : Walks Both M.past.number k es (Up Both k v) d (seen.posted p (seen.with_sent all M.seen))
      alone = no_line (Walks Both M.past.number k es (Up Both k v) d) (seen.posted p (seen.with_sent all M.seen)) (w [] refl)

      Goes : Moment → Type 0
      Goes N = WalksWith (WideBy X) k es (UpWith (WideBy X) k v) d N

      frames : (b : Bool) → Goes (framed_if true p M) → Goes M → Goes (framed_if b p M)
      frames true t f = t
      frames false t f = f

      by : (b : Bool) → Goes (posted p M) → Goes (framed_if (fits M) p M) → Goes (if b then posted p M else framed_if (fits M) p M)
      by true t f = t
      by false t f = f

plain_quiet : (bs : List Body) → ArePlain bs → seen.AreQuiet bs
plain_quiet [] h = refl
plain_quiet (b ∷ bs) h = let parts = and_parts (is_plain_line b) (list_all is_plain_line bs) h in
    λ i. one b parts.0 i && plain_quiet bs parts.1 i
  where
    one : (b : Body) → is_plain_line b ≡ true → is_quiet_line b ≡ true
    one (body.Sent k from to what) h = refl
    one b h = h

-- an input adds what it asks
less_asked : (i : Input) (c : Coord) (M : Moment) → AsksForm (asks_now i c M).past → AsksForm M.past
less_asked (input.Call l x o) c M forms = forms.1
less_asked (input.Include l x s) c M forms = forms.1
less_asked (input.Commit l) c M forms = forms.1
less_asked (input.Begin l how parent) c M forms = forms
less_asked (input.Abort l) c M forms = forms
less_asked (input.GiveUp l) c M forms = forms
less_asked (input.Frame k from m) c M forms = forms
less_asked input.Tick c M forms = forms
less_asked input.Restart c M forms = forms
less_asked input.Crash c M forms = forms
less_asked (input.Show x) c M forms = forms

-- ---- what is kept

module _ (hd : Header) (X : Seen → Type 0) (keeps : KeepsAsked hd X) (good : (M : Seen) → X M → IsGood M) where
  abbrev pub P : Moment → Type 0
  P M = T M × WideBy X M

  -- what is at work at the end has goals in form
  goals_at : (k : ℕ) (v : Parts) (outs : List Effect) (d : Disk) (M : Moment) → WalksWith T k outs (UpWith T k v) d M → AsksForm M.past →
      GoalsFit v.coord
  goals_at k v outs d M w forms = let e = end_with T k v outs d M w in
      goal_form k e.0 v e.1 e.2 (subst (AllByRecursion (λ (a : Asking). EventInForm (let z = a.asked in z.event))) (sym e.3) forms)

  step : (k : ℕ) (v : Parts) (outs : List Effect) (d : Disk) (M : Moment) (sent : List Post) → Within M.seen.sent sent →
      WalksWith T k outs (UpWith T k v) d M → AllSo v.coord outs →
      Walks X M.past.number k outs (Up X k v) d (seen.with_sent sent M.seen) →
      OpsWhere (AsksForm M.past) (seen.with_sent sent M.seen) → WalksWith P k outs (UpWith P k v) d M
  step k v outs d M sent within tied so walked ops = with_both T (WideBy X) k outs (UpWith T k v) (UpWith (WideBy X) k v) d M tied
      (wide_walk X (AsksForm M.past) k outs v d M sent refl within
      (walks_both X (OpsWhere (AsksForm M.past)) M.past.number k outs (Up X k v) (Up (OpsWhere (AsksForm M.past)) k v) d
      (seen.with_sent sent M.seen) walked
      (ops_walk (AsksForm M.past) M.past.number k v outs d (seen.with_sent sent M.seen) so (goals_at k v outs d M tied) ops)))

  pub ops_keep : KeepsAll hd P
  ops_keep = let t = tied_keep hd in record {
    opens = λ e M first number h. (t.opens e M first number h.0, h.1);
    closes = λ bodies M number lines h. (t.closes bodies M number lines h.0, h.1);
    steps = record {
      quiet = λ bs M plain h. let w = h.1 in (
        t.steps.quiet bs M plain h.0,
        (w.0, w.1, keeps.quiet M.past.number bs (seen.with_sent w.0 M.seen) (plain_quiet bs plain) w.2, w.3),
      );
      junk = λ n M fit h. let w = h.1 in (
        t.steps.junk n M fit h.0,
        (
          w.0,
          w.1,
          keeps.quiet M.past.number (body.Sent (M.past.frames + 1) 0 n frame.Junk ∷ []) (seen.with_sent w.0 M.seen) refl w.2,
          w.3,
        ),
      );
      stop = λ k d live M h. let w = h.1 in
          (t.steps.stop k d live M h.0, (w.0, w.1, keeps.stop M.past.number k d live (seen.with_sent w.0 M.seen) w.2, w.3));
      message = λ k d t0 v from m outs M h there meant may is. let w = h.1 in
          let S = seen.with_sent w.0 M.seen in
          let g = good (seen_up k d t0 S) w.2 in
          step k v outs d M w.0 w.1 (t.steps.message k d t0 v from m outs M h.0 there meant may is)
          (message_sends g.0 M.past.number k d t0 S g.1 from m v outs is)
          (keeps.message M.past.number k d t0 v from m outs S w.2 (w.1 (record { from = from; to = k; message = m }) there) meant is) w.3;
      act = λ k d t0 i M is brings fresh asks_node_so free h. let w = h.1 in
          let S = seen.with_sent w.0 M.seen in
          let g = good (seen_up k d t0 S) w.2 in
          let did = acts_of i d.intents t0.coord in
          step k (with_coord t0 did.part) did.outs d (asks_now i t0.coord M) w.0 w.1
          (t.steps.act k d t0 i M is brings fresh asks_node_so free h.0) (act_sends g.0 M.past.number k d t0 S g.1 i is)
          (keeps.act M.past.number k d t0 i S is asks_node_so free w.2) (λ forms. w.3 (less_asked i t0.coord M forms));
      begin = λ k d t0 l how parent M brings fresh new may free h. let w = h.1 in
          let S = seen.with_sent w.0 M.seen in
          let did = begin_action l how parent (parent_of parent t0.coord) t0.coord in
          step k (with_coord t0 did.part) did.outs d (given l (record { node = k; serial = is_serial how }) M) w.0 w.1
          (t.steps.begin k d t0 l how parent M brings fresh new may free h.0) (tt, tt)
          (keeps.begin M.past.number k d t0 l how parent S new may free w.2) w.3;
      tick = λ k d t0 M h. let w = h.1 in
          let S = seen.with_sent w.0 M.seen in
          let g = good (seen_up k d t0 S) w.2 in
          step k (with_coord t0 (again_all t0.coord.doings t0.coord).part)
          (tick_outs (record { number = k; disk = d; live = Some t0 }) t0) d M
          w.0 w.1 (t.steps.tick k d t0 M h.0) (tick_sends g.0 M.past.number k d t0 S g.1)
          (keeps.tick M.past.number k d t0 S w.2) w.3;
      restart = λ k d M comes fresh h. let w = h.1 in
          let S = seen.with_sent w.0 M.seen in
          step k (parts_in k (d.inc + 1) d) (restart_outs hd k (d.inc + 1) d) d M w.0 w.1 (t.steps.restart k d M comes fresh h.0)
          (restart_asks hd k (d.inc + 1) d) (keeps.restart M.past.number k d S w.2) w.3;
    };
    first = λ st formed. (t.first st formed, ([], (λ p i. i), keeps.first st formed, λ forms p h a there. absurd there));
  }

-- ---- what runs in form ask

with_form : (i : Input) (o : Option Parts) (r : Option ℕ) (g : History) → EventInForm g.event → AsksForm g → AsksForm (taken_by i o r g)
with_form i None r g form all = all
with_form i (Some t) (Some c) g form all = all
with_form (input.Call l x o) (Some t) None g form all = (form, all)
with_form (input.Include l x s) (Some t) None g form all = (form, all)
with_form (input.Commit l) (Some t) None g form all = (form, all)
with_form (input.Begin l how parent) (Some t) None g form all = all
with_form (input.Abort l) (Some t) None g form all = all
with_form (input.GiveUp l) (Some t) None g form all = all
with_form (input.Frame k from m) (Some t) None g form all = all
with_form input.Tick (Some t) None g form all = all
with_form input.Restart (Some t) None g form all = all
with_form input.Crash (Some t) None g form all = all
with_form (input.Show x) (Some t) None g form all = all

event_form : (e : Event) (w v : World) (g : History) (r : Option ℕ) → EventInForm e → AsksForm g → AsksForm (past_unless e w v g r)
event_form e w v g (Some c) form all = all
event_form e w v g None form all = by (lacks_labels (giving e w) w)
  where
    at_node : (i : Input) (o : Option Node) → AsksForm (asked_at w.header i o (come e g))
    at_node i None = all
    at_node i (Some n) = with_form i n.live (refusal_at w.header i n.live) (come e g) form all

    asked : (o : Option (ℕ × Input)) → AsksForm (asked_of_node o w (come e g))
    asked None = all
    asked (Some a) = at_node a.1 (at_place a.0 w.nodes)

    by : (b : Bool) → AsksForm (cond b g (gone (written w v) (asked_of_node (asks_of e w) w (come e g))))
    by true = all
    by false = asked (asks_of e w)

pub moves_form : (ms : List Move) (w : World) (g : History) → AreMovesInForm ms → AsksForm g → AsksForm (past_moves ms w g)
moves_form [] w g forms all = all
moves_form (m ∷ ms) w g forms all =
    moves_form ms (moved m w) (past_event m.asked (record w { arms = m.falls }) g) forms.1
    (by (let v = record w { arms = m.falls } in v.over))
  where
    v : World
    v = record w { arms = m.falls }

    by : (b : Bool) → AsksForm (cond b g (past_unless (let a = m.asked in a.event) v (run_event m.asked v) g
        (first_reason (reasons (let a = m.asked in a.event) v))))
    by true = all
    by false = event_form (let a = m.asked in a.event) v (run_event m.asked v) g
        (first_reason (reasons (let a = m.asked in a.event) v)) forms.0 all

-- what is kept holds of a run in form, with what operations are in form
pub ops_in_form : (hd : Header) (X : Seen → Type 0) → KeepsAsked hd X → ((M : Seen) → X M → IsGood M) → (r : RunOf hd) →
    IsInForm hd r → Holds hd (λ M. X M × ((p : Post) (h : Head) (a : Ask) → In p M.sent → asks p.message ≡ Some (h, a) →
    OpOf a)) (world_by hd r)
ops_in_form hd X keeps good r form =
    let h = run_with hd (P hd X keeps good) (ops_keep hd X keeps good) r in
    let n = h.now in
    let w = n.holds.1 in
    record {
      sent = w.0;
      stands = record {
        frames = all_to (IsSent n.sent) (IsSent w.0) (let v = world_by hd r in v.frames) (λ f is. more n.sent w.0 w.1 f is)
            (let s = n.stands in s.frames);
        junk = (let s = n.stands in s.junk);
        header = (let s = n.stands in s.header);
        numbers = (let s = n.stands in s.numbers);
        places = (let s = n.stands in s.places);
        labels = (let s = n.stands in s.labels);
      };
      holds = (w.2, w.3 (moves_form r.moves (world_from hd r.start) (no_history r.start) form.events tt));
    }
  where
    more : (few many : List Post) → Within few many → (f : Frame) → IsSent few f → IsSent many f
    more few many within f is = by f.message is
      where
        by : (o : Option Message) → IfSome o (λ m. In (record { from = f.from; to = f.to; message = m }) few) →
            IfSome o (λ m. In (record { from = f.from; to = f.to; message = m }) many)
        by None i = tt
        by (Some m) i = within (record { from = f.from; to = f.to; message = m }) i
