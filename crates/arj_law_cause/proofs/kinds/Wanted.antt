-- Each request of a call or of an include that was sent is of what its action was asked.
use Rattle.arj_law_parts.proofs.Words
use Words.{⊤, ◌≡◌, ◌+◌, ◌++◌, ◌∙◌, ◌==◌, ℕ, Bool, true, false, if◌then◌else◌, List, [], ◌∷◌, Option, Some, None, refl, sym, ap, subst}
use Words.{inl, inr, ⊎_elim}
use Words.{Ask, Coord, Disk, Do, Doing, Effect, Goal, Head, Header, Include, Input, Kind, Label, Machine, Message, Parts, Path, Run, Say}
use Words.{Send}
use Words.{Steps, Uid, At, AtActivate, AtBind, AtInvoke, AtLoad, AtNote, Binding, Calling, Committing, Confirming, Idle, Now, Preparing}
use Words.{Voting}
use Words.{End, Post, Seen, actor, acts as does, again_all, ask_at, ask_of, asks, begin_action, doing_of, handle, is_include, is_serial}
use Words.{kept_at, name, next_ask, node_at, parent_of, parts_in, restart_outs, tick_outs, uids_of, with_coord, worked}
use Words.{append-nil, append_assoc, frame_kind, numbered, top_of, Body, Event, Line}
use Words.ask
use Words.body
use Words.frame
use Words.input
use Words.kind
use Words.list
use Rattle.arj_law_lock_view.proofs.asking.{Keeping.HasPaths, Keeping.its, Keeping.mine, Knowing.IsThere, Knowing.KnowsCoord}
use Rattle.arj_law_lock_view.proofs.asking.Tied.{paths_of_wide, tied_keep}
use Rattle.arj_law_lock_view.specs.asking.Asked.{IsAskedSo, IsTied, asks_goal}
use Rattle.arj_law_lock_view.specs.asking.Turns.{calling}
use Rattle.arj_law_parts.proofs.moves.{Flat.post, Happens.Wide, Together.with_both}
use Rattle.arj_law_parts.specs.moves.Moments.{Asking, Moment, asking_of, asks_now, fits, framed_if, given, posted, said, sent, up}
use Rattle.arj_law_parts.specs.moves.Seen as seen
use Rattle.arj_law_parts.specs.moves.With.{IsFirst, KeepsAll, UpWith, WalksWith}
use Rattle.arj_law_promise.proofs.Terms.{AllSo, IsGood, IsSentBy}
use Rattle.arj_law_promise.proofs.meant.Posts.{act_sends, message_sends, tick_sends}
use Rattle.arj_law_promise.proofs.waiting.Serving.{restart_asks}
use Rattle.arj_law_runs.proofs.addresses.BindRuns.{binds_keep}
use Rattle.arj_law_runs.proofs.kept.Walked.{same_number}
use Rattle.arj_law_runs.specs.addresses.Binds.{BindsAreKnown, StandsOn}
use Rattle.arj_law_runs.specs.calls.Coords.{bare}
use Rattle.arj_law_runs.proofs.journal.Models.{AreSound}
use Rattle.arj_law_runs.specs.journal.Knows.{IsWritten}
use Rattle.arj_law_serial.proofs.Terms
use Terms.{Act, AreAlike, AreBegun, IsAsking, IsBusy, IsKnown, act_in, action_of, acts, actor_is, begun_tree, book, its_acts, its_sound}
use Terms.{paths_of}
use Rattle.arj_model.specs.Actions.{path, top_in, uids}
use Rattle.arj_model.specs.Past.{label_of}
use Rattle.arj_law_cause.proofs.bindings.Every.{keeps_both}
use Rattle.arj_law_cause.proofs.kinds.Nodes.{wide_all}
use Rattle.arj_law_cause.proofs.kinds.Waiting.{Tied}
use Rattle.arj_law_cause.proofs.rows.{Lined.path_more, Paths.one_top, Paths.some_is, Rows.label_is, Taking.AskedPaths, Taking.IsPathAt}

-- ---- requests

-- it is one of a call or of an include
abbrev pub is_of_call : Ask → Bool
is_of_call (ask.Vote i ties ends) = false
is_of_call (ask.Prepare states) = false
is_of_call (ask.Confirm grants excluded included) = false
is_of_call a = true

-- a Bind or an Invoke is of this object, and for this
abbrev pub IsFor : ℕ → Goal → Ask → Type 0
IsFor x g (ask.Bind y include avoid) = (y ≡ x) × (include ≡ is_include g)
IsFor x g (ask.Invoke y b i ends o) = (y ≡ x) × (g ≡ Run o)
IsFor x g a = ⊤

-- its action was asked for that
pub record IsWanted (askings : List Asking) (h : Head) (a : Ask) : Type 0 where
  pub asking : Asking
  pub there : list.In asking askings
  pub act : asking.act ≡ actor h.path
  pub label : Label
  pub object : ℕ
  pub goal : Goal
  pub event : (let k = asking.asked in k.event) ≡ asks_goal label object goal
  pub path : uids (let k = asking.asked in k.path) ≡ uids_of h.path
  pub is_for : IsFor object goal a
  pub top : Act
  pub top_is : top_in (let k = asking.asked in k.path) ≡ Some top
  pub top_uid : top.uid ≡ top_of h.path

-- so it is of each that was sent
abbrev pub AreRequested : Moment → Type 0
AreRequested M = (p : Post) (h : Head) (a : Ask) → seen.In p M.seen.sent → asks p.message ≡ Some (h, a) → is_of_call a ≡ true →
    IsWanted M.past.askings h a

-- and paths of what was asked are those of the journal by then
abbrev pub AreWanted : Moment → Type 0
AreWanted M = AskedPaths M × AreRequested M

-- what is known besides
abbrev pub Base : Moment → Type 0
Base M = Tied M × Wide (λ S. IsGood S × BindsAreKnown S) M

pub base_all : (hd : Header) → KeepsAll hd Base
base_all hd = keeps_both hd Tied (Wide (λ S. IsGood S × BindsAreKnown S)) (tied_keep hd) (wide_all hd (λ S. IsGood S × BindsAreKnown S) (binds_keep hd))

-- ---- a request of what waits

for_bind : (x : ℕ) (g : Goal) (at : At) (y : ℕ) (include : Bool) (avoid : Binding) → ask.Bind y include avoid ≡ ask_at x g [] at →
    (y ≡ x) × (include ≡ is_include g)
for_bind x g (AtBind b) y include avoid is = (cc is, cc is)
for_bind x g (AtLoad k s rest) y include avoid is = absurd (cc is)
for_bind x g (AtActivate k st) y include avoid is = absurd (cc is)
for_bind x g (AtNote k i) y include avoid is = absurd (cc is)
for_bind x g (AtInvoke k i) y include avoid is = absurd (cc is)

for_invoke : (x : ℕ) (g : Goal) (kept : Option Words.Known) (at : At) → StandsOn g kept at → (y : ℕ) (b : Binding) (i : ℕ) (o : Words.Op) →
    ask.Invoke y b i [] o ≡ ask_at x g [] at → (y ≡ x) × (g ≡ Run o)
for_invoke x g kept (AtBind c) stands y b i o is = absurd (cc is)
for_invoke x g kept (AtLoad k s rest) stands y b i o is = absurd (cc is)
for_invoke x g kept (AtActivate k st) stands y b i o is = absurd (cc is)
for_invoke x g kept (AtNote k j) stands y b i o is = absurd (cc is)
for_invoke x (Run p) kept (AtInvoke k j) stands y b i o is = (cc is, (let same : p ≡ o = cc is in ap Run same))
for_invoke x (Include n) kept (AtInvoke k j) stands y b i o is = absurd stands

for_it : (x : ℕ) (g : Goal) (kept : Option Words.Known) (at : At) → StandsOn g kept at → (a : Ask) → bare a ≡ ask_at x g [] at → IsFor x g a
for_it x g kept at stands (ask.Bind y include avoid) is = for_bind x g at y include avoid is
for_it x g kept at stands (ask.Invoke y b i ends o) is = for_invoke x g kept at stands y b i o is
for_it x g kept at stands (ask.Load y) is = tt
for_it x g kept at stands (ask.Activate b st) is = tt
for_it x g kept at stands (ask.Record y b i n) is = tt
for_it x g kept at stands (ask.Vote i ties ends) is = tt
for_it x g kept at stands (ask.Prepare states) is = tt
for_it x g kept at stands (ask.Confirm grants excluded included) is = tt

-- a commit asks nothing of a call
no_call : (m : Machine) (n : ℕ) → is_of_call (ask_of m n) ≡ false
no_call (Voting p left) n = refl
no_call (Preparing p left) n = refl
no_call (Confirming p) n = refl

module _ (k : ℕ) (d : Disk) (v : Parts) (N : Moment) (base : Base (up k d v N)) (paths : AskedPaths N) where
  here : (let M = up k d v N in M.seen.nodes k) ≡ Some (record { number = k; disk = d; live = Some v })
  here = λ i. if same_number k i then Some (record { number = k; disk = d; live = Some v }) else N.seen.nodes k

  -- the top of an action that waits, as it was asked
  its_top : (u : Uid) (x : Doing) (st : Steps) → doing_of u v.coord ≡ Some x → x.now ≡ Calling st → (q : IsAskedSo N.past.askings u x st) →
      (t : Act) × (top_in (let z = q in (let a = z.asking in (let k = a.asked in k.path))) ≡ Some t) × (t.uid ≡ top_of st.path)
  its_top u x st found is q =
      let f = paths q.asking q.there in
      let l : label_of (let a = q.asking in (let k = a.asked in k.event)) ≡ name x.label =
      label_is (let a = q.asking in (let k = a.asked in k.event)) q.goal.0 st.x st.goal q.goal.2 ∙ q.goal.1 in
      let at_first : (let a = q.asking in (let k = a.asked in k.path)) ≡ path (acts f.first) (name x.label) = f.path ∙ ap (path (acts f.first)) l in
      let o = one_top P.2.0 all N.seen.lines f.first f.more f.are sound.distinct alike (name x.label) stands.act stands.named
      (action_of asking.branch) (let g = knows.coord in g.known u asking.branch asking.found)
      (stands.uid ∙ sym act_is ∙ ap actor (sym asking.path)) sound.formed unserial
      (ap uids (sym at_first) ∙ q.path ∙ ap uids_of (sym asking.path)) in
      (o.0, ap top_in at_first ∙ o.1, o.2 ∙ ap top_of asking.path)
    where
      P : HasPaths (up k d v N)
      P = paths_of_wide (up k d v N) base.0.0

      knows : KnowsCoord P.2.0 (let M = up k d v N in seen.with_sent P.0 M.seen) k v
      knows = its k d v N P base.0.1

      stands : IsThere (let M = up k d v N in seen.with_sent P.0 M.seen) k v u x
      stands = mine k d v N P base.0.1 u x found

      asking : IsAsking v.coord.tree u st.path
      asking = subst (IsBusy v.coord.tree u) is (let g = knows.coord in g.busy u x found)

      all : AreBegun P.2.0
      all = let g = P.2.1.1.0 in g.begun

      written : IsWritten (let M = up k d v N in seen.with_sent P.0 M.seen)
      written = P.2.1.1.2

      sound : AreSound (acts N.seen.lines)
      sound = its_sound N.seen.lines written.right

      acts_are : (let B = book N.seen.lines in B.acts) ≡ acts N.seen.lines
      acts_are = its_acts N.seen.lines written.right

      alike : AreAlike P.2.0 (acts N.seen.lines)
      alike = subst (AreAlike P.2.0) acts_are P.2.1.1.1

      act_is : actor st.path ≡ u
      act_is = actor_is P.2.0 (paths_of P.2.0) (begun_tree P.2.0 (let g = P.2.1.1.0 in g.begun)) u st.path v.coord knows.coord asking

      known : IsKnown (book N.seen.lines) u (let b = asking.branch in b.kind) (let b = asking.branch in b.ended) x.label
      known = let there = knows.knows in (let n = there.knows in n.acts u asking.branch x asking.found found)

      unserial : is_serial (let b = stands.act in b.kind) ≡ false
      unserial =
          let same : known.act ≡ stands.act = some_is (sym known.named ∙ ap (λ xs. act_in xs (name x.label)) acts_are ∙ stands.named) in
          by (let b = stands.act in b.kind) (λ serial. asking.unserial (sym known.kind ∙ ap (λ (z : Act). z.kind) same ∙ serial))
        where
          by : (q : Kind) → (q ≡ kind.Serial → ⊥) → is_serial q ≡ false
          by kind.Serial other = absurd (other refl)
          by kind.Top other = refl
          by kind.Nested other = refl
          by kind.Constituent other = refl
          by kind.Independent other = refl

  sent_wanted : (to : ℕ) (h : Head) (a : Ask) → IsSentBy v.coord to h a → is_of_call a ≡ true → IsWanted N.past.askings h a
  sent_wanted to h a s its = by (let x = s.doing in x.now) refl
    where
      by : (n : Now) → (let x = s.doing in x.now) ≡ n → IsWanted N.past.askings h a
      by Idle is = absurd (s.busy is)
      by (Committing m) is = let c = s.commit m is in
          let no_way : true ≡ false = sym its ∙ ap is_of_call c.same ∙ no_call m to in absurd (cc no_way)
      by (Calling st) is =
          let f = s.step st is in
          let tied = base.0.1 in
          let t : IsTied N.past.askings N.seen.lines (actor h.path) s.doing (Some st) =
          subst (IsTied N.past.askings N.seen.lines (actor h.path) s.doing) (ap calling is)
          (tied.tied k (record { number = k; disk = d; live = Some v }) v (actor h.path) s.doing here refl s.found) in
          let q : IsAskedSo N.past.askings (actor h.path) s.doing st = t.1 in
          let b = base.1.2.1 in
          let c = b.nodes k (record { number = k; disk = d; live = Some v }) v here refl in
          let top = its_top (actor h.path) s.doing st s.found is q in
          record {
            asking = q.asking;
            there = q.there;
            act = q.act;
            label = q.goal.0;
            object = st.x;
            goal = st.goal;
            event = q.goal.2;
            path = q.path ∙ ap (λ (z : Head). uids_of z.path) (sym f.head);
            is_for = for_it st.x st.goal (kept_at st v.coord) st.at (c.steps (actor h.path) s.doing st s.found is) a f.same;
            top = top.0;
            top_is = top.1;
            top_uid = top.2 ∙ ap (λ (z : Head). top_of z.path) (sym f.head);
          }

-- ---- a node's effects

-- what holds at the end of a walk, with lines that came
end_of : (R : Moment → Type 0) (k : ℕ) (v : Parts) (outs : List Effect) (d : Disk) (M : Moment) → WalksWith R k outs (UpWith R k v) d M →
    (c : Disk) × (N : Moment) × (N.past.askings ≡ M.past.askings) × (more : List Line) × (N.seen.lines ≡ M.seen.lines ++ more) × R (up k c v N)
end_of R k v [] d M w = (d, M, refl, [], sym (append-nil M.seen.lines), w)
end_of R k v (Do x ∷ es) d M w = end_of R k v es (worked x d) M w.1
end_of R k v (Say b ∷ es) d M w =
    let r = end_of R k v es d (said (b ∷ []) M) w in
    (r.0, r.1, r.2, numbered M.past.number (b ∷ []) ++ r.3, r.4 ∙ append_assoc M.seen.lines (numbered M.past.number (b ∷ [])) r.3, r.5)
end_of R k v (Send to m ∷ es) d M w =
    let r = end_of R k v es d (sent (post k to m) M) w in
    let g = grown (to == k) (fits M) in
    (r.0, r.1, r.2 ∙ same (to == k) (fits M), g.0 ++ r.3, r.4 ∙ ap (λ ls. ls ++ r.3) g.1 ∙ append_assoc M.seen.lines g.0 r.3, r.5)
  where
    same : (self fit : Bool) → (let N = if self then posted (post k to m) M else framed_if fit (post k to m) M in N.past.askings) ≡ M.past.askings
    same true fit = refl
    same false true = refl
    same false false = refl

    grown : (self fit : Bool) → (more : List Line) × ((let N = if self then posted (post k to m) M else framed_if fit (post k to m) M in
        N.seen.lines) ≡ M.seen.lines ++ more)
    grown true fit = ([], sym (append-nil M.seen.lines))
    grown false true = (numbered M.past.number (body.Sent (M.past.frames + 1) k to (frame_kind m) ∷ []), refl)
    grown false false = ([], sym (append-nil M.seen.lines))

-- paths of what was asked stay as lines come
paths_said : (bs : List Body) (M : Moment) → AskedPaths M → AskedPaths (said bs M)
paths_said bs M all q i = path_more M.seen.lines (numbered M.past.number bs) q (all q i)

walk : (k : ℕ) (v : Parts) (outs : List Effect) (d : Disk) (M : Moment) → AllSo v.coord outs →
    ((to : ℕ) (h : Head) (a : Ask) → IsSentBy v.coord to h a → is_of_call a ≡ true → IsWanted M.past.askings h a) → AreWanted M →
    WalksWith AreWanted k outs (UpWith AreWanted k v) d M
walk k v [] d M so each all = all
walk k v (Do x ∷ es) d M so each all = (
  (λ how. (paths_said (body.Halted k ∷ []) M all.0, all.1)),
  walk k v es (worked x d) M so.1 each all,
)
walk k v (Say b ∷ es) d M so each all = walk k v es d (said (b ∷ []) M) so.1 each (paths_said (b ∷ []) M all.0, all.1)
walk k v (Send to m ∷ es) d M so each all = by (to == k) (fits M) (walk k v es d (posted (post k to m) M) so.1 each (all.0, more))
    (walk k v es d (framed_if true (post k to m) M) so.1 each
    (paths_said (body.Sent (M.past.frames + 1) k to (frame_kind m) ∷ []) M all.0, more))
    (walk k v es d M so.1 each all)
  where
    more : (p : Post) (h : Head) (a : Ask) → seen.In p (post k to m ∷ M.seen.sent) → asks p.message ≡ Some (h, a) → is_of_call a ≡ true →
        IsWanted M.past.askings h a
    more p h a there is its = ⊎_elim (λ same. each to h a (so.0 h a (ap (λ (q : Post). asks q.message) same ∙ is)) its)
        (λ old. all.1 p h a old is its) there

    Then : Moment → Type 0
    Then N = WalksWith AreWanted k es (UpWith AreWanted k v) d N

    by : (self fit : Bool) → Then (posted (post k to m) M) → Then (framed_if true (post k to m) M) → Then M →
        Then (if self then posted (post k to m) M else framed_if fit (post k to m) M)
    by true fit own other same = own
    by false true own other same = other
    by false false own other same = same

-- ---- every handler

wanted_more : (q : Asking) (A : List Asking) (h : Head) (a : Ask) → IsWanted A h a → IsWanted (q ∷ A) h a
wanted_more q A h a w = record {
  asking = w.asking;
  there = inr w.there;
  act = w.act;
  label = w.label;
  object = w.object;
  goal = w.goal;
  event = w.event;
  path = w.path;
  is_for = w.is_for;
  top = w.top;
  top_is = w.top_is;
  top_uid = w.top_uid;
}

asks_wanted : (i : Input) (c : Coord) (M : Moment) → IsFirst M → AreWanted M → AreWanted (asks_now i c M)
asks_wanted i c M fresh all = by i
  where
    new : (l : Label) (q : Asking) → list.In q (asking_of l c M.past.run M.past.event ∷ M.past.askings) → IsPathAt M.seen.lines q
    new l q (inl is) = subst (IsPathAt M.seen.lines) is (record {
      first = (let r = M.past.run in r.lines);
      more = [];
      are = sym fresh ∙ sym (append-nil (let r = M.past.run in r.lines));
      path = refl;
    })
    new l q (inr i) = all.0 q i

    asked : (l : Label) → AreWanted (record M { past = record M.past { askings = asking_of l c M.past.run M.past.event ∷ M.past.askings } })
    asked l = (new l, λ p h a there is its. wanted_more (asking_of l c M.past.run M.past.event) M.past.askings h a (all.1 p h a there is its))

    by : (i : Input) → AreWanted (asks_now i c M)
    by (input.Call l x o) = asked l
    by (input.Include l x n) = asked l
    by (input.Commit l) = asked l
    by (input.Begin l how q) = all
    by (input.Abort l) = all
    by (input.GiveUp l) = all
    by (input.Frame f from m) = all
    by input.Tick = all
    by input.Restart = all
    by input.Crash = all
    by (input.Show x) = all

pub wanted_all : (hd : Header) → KeepsAll hd (λ M. Base M × AreWanted M)
wanted_all hd = record {
  opens = λ e M fresh number h. (base.opens e M fresh number h.0, h.1);
  closes = λ bodies M number lines h. (base.closes bodies M number lines h.0, h.1);
  steps = record {
    quiet = λ bs M plain h. (base.steps.quiet bs M plain h.0, (paths_said bs M h.1.0, h.1.1));
    junk = λ n M fit h. (base.steps.junk n M fit h.0, (paths_said (body.Sent (M.past.frames + 1) 0 n frame.Junk ∷ []) M h.1.0, h.1.1));
    stop = λ k d live M h. (base.steps.stop k d live M h.0, (paths_said (body.Halted k ∷ []) M h.1.0, h.1.1));
    message = λ k d t v from m outs M h there meant may is.
        beside k outs v d M (let g = h.0.1 in message_sends g.2.0.0 M.past.number k d t (seen.with_sent g.0 M.seen) g.2.0.1 from m v outs is)
        (base.steps.message k d t v from m outs M h.0 there meant may is) h.1;
    act = λ k d t i M is brings fresh asks free h. let did = does i d.intents t.coord in
        beside k did.outs (with_coord t did.part) d (asks_now i t.coord M)
        (let g = h.0.1 in act_sends g.2.0.0 M.past.number k d t (seen.with_sent g.0 M.seen) g.2.0.1 i is)
        (base.steps.act k d t i M is brings fresh asks free h.0) (asks_wanted i t.coord M fresh h.1);
    begin = λ k d t l how parent M brings fresh new gives none h. let did = begin_action l how parent (parent_of parent t.coord) t.coord in
        beside k did.outs (with_coord t did.part) d (given l (record { node = k; serial = is_serial how }) M) (tt, tt)
        (base.steps.begin k d t l how parent M brings fresh new gives none h.0) h.1;
    tick = λ k d t M h. beside k (tick_outs (record { number = k; disk = d; live = Some t }) t)
        (with_coord t (let r = again_all t.coord.doings t.coord in r.part)) d M
        (let g = h.0.1 in tick_sends g.2.0.0 M.past.number k d t (seen.with_sent g.0 M.seen) g.2.0.1) (base.steps.tick k d t M h.0) h.1;
    restart = λ k d M event first h. beside k (restart_outs hd k (d.inc + 1) d) (parts_in k (d.inc + 1) d) d M (restart_asks hd k (d.inc + 1) d)
        (base.steps.restart k d M event first h.0) h.1;
  };
  first = λ st formed. (base.first st formed, ((λ q i. absurd i), λ p h a there. absurd there));
}
  where
    base : KeepsAll hd Base
    base = base_all hd

    beside : (k : ℕ) (outs : List Effect) (v : Parts) (d : Disk) (M : Moment) → AllSo v.coord outs → WalksWith Base k outs (UpWith Base k v) d M →
        AreWanted M → WalksWith (λ N. Base N × AreWanted N) k outs (UpWith (λ N. Base N × AreWanted N) k v) d M
    beside k outs v d M sends walked all = let z = end_of Base k v outs d M walked in
        with_both Base AreWanted k outs (UpWith Base k v) (UpWith AreWanted k v) d M walked
        (walk k v outs d M sends
        (λ to h a by its. subst (λ A. IsWanted A h a) z.2 (sent_wanted k z.0 v z.1 z.5 (paths_at z.1 z.2 z.3 z.4) to h a by its)) all)
      where
        paths_at : (N : Moment) → N.past.askings ≡ M.past.askings → (more : List Line) → N.seen.lines ≡ M.seen.lines ++ more → AskedPaths N
        paths_at N same more are q i = subst (λ ls. IsPathAt ls q) (sym are)
            (path_more M.seen.lines more q (all.0 q (subst (list.In q) same i)))
