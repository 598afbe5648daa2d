-- Events, one by one: what each writes of frames and halts fits.
use Rattle.arj_law_parts.proofs.Words
use Words.{◌≡◌, ◌∙◌, ◌+◌, ◌≤◌, ◌<◌, ◌==◌, ◌&&◌, ◌||◌, not, ℕ, zero, suc, Bool, true, false, cond, List, [], ◌∷◌, ◌++◌, length, refl, sym}
use Words.{ap}
use Words.{subst, arith, Option, Some, None, take, nat_le, nat_lt, nat_tests, length-append, at_place, Input}
use Words.{Body, Event, FrameNo, Header, Frame, Arm, World, Giving, armed, as_lost, begins, change_frame, deliver}
use Words.{frame_number, happens, is_quiet, is_up_at, junk_fits, labels_unless, limited, lose, lose_frame, lowest, lowest_from, most_frames}
use Words.{node_numbers, numbered, quiesce, quiet_line, reasons, refused_at, settle, settle_for, show_all, show_up, steps, tick_all}
use Words.{tick_up}
use Words.{first_reason, node_of, kind_below, new_frame, is_open_frame, Seen, is_node as is_node_of}
use Words.body
use Words.event
use Words.frame
use Words.frame_no
use Words.input
use Words.kind
use Rattle.arj_law_parts.proofs.Terms.{says}
use Rattle.arj_law_parts.proofs.Terms.which
use Rattle.arj_law_parts.proofs.moves.Happens.{deliver_holds, happens_hold, steps_hold}
use Rattle.arj_law_parts.proofs.moves.Reasons.{first_not, not_not}
use Rattle.arj_law_parts.proofs.parts.LivesNamed.{all_put}
use Rattle.arj_law_parts.specs.moves.Keeps.{Holds, KeepsAsked}
use Rattle.arj_law_parts.proofs.steps.Shapes.{is_frame}
use Rattle.arj_law_runs.proofs.follow.Delivering.{set_long}
use Rattle.arj_law_runs.proofs.follow.Framing
use Framing.{ArePlaced, HaveWork, IsAsked, Of, Reaches, deliver_reach, quiet_reach, reach_here, reach_on, same_number, says_reach}
use Framing.{steps_reach}
use Rattle.arj_law_runs.proofs.follow.Stepping.{and_all}
use Rattle.arj_law_runs.proofs.follow.Telling.{dropped_tells, frame_test, has_is, nothing_tells, opens, send_tells}
use Rattle.arj_law_runs.proofs.follow.Walking.{AreFor, Stays, Telling as Told, behind_all, lines_behind, stays_behind}
use Rattle.arj_model.specs.CauseNodes.{arms, delivers, is_junk_to, loses, may_halt, restarts}
use Rattle.arj_model.specs.CauseSpans.{Here, same_frame}
use Rattle.arj_model.specs.Refusals.{frame_no as frame_named, is_first, is_node, open_frames}
use Rattle.arj_promise.specs.Runs.{HasWork}
use Rattle.arj_protocol.specs.{Words.read_message, World.reads_whole}

-- a restart
abbrev is_restart : Input → Bool
is_restart input.Restart = true
is_restart _ = false

-- the lowest open frame is the first, whatever is sent behind
first_open : (k j : ℕ) (fs more : List Frame) → lowest_from k fs ≡ Some j → is_first j (opens k (fs ++ more)) ≡ true
first_open k j [] more is = let no_way : ◌≡◌ {A = Option ℕ} None (Some j) = is in cc
first_open k j (f ∷ fs) more is = by (is_open_frame f) is (first_open (k + 1) j fs more)
  where
    by : (b : Bool) → cond b (Some k) (lowest_from (k + 1) fs) ≡ Some j →
        (lowest_from (k + 1) fs ≡ Some j → is_first j (opens (k + 1) (fs ++ more)) ≡ true) →
        is_first j (cond b (k ∷ opens (k + 1) (fs ++ more)) (opens (k + 1) (fs ++ more))) ≡ true
    by true is rest = let same : k ≡ j = cc is in subst (λ x. (k == x) ≡ true) same (same_number k)
    by false is rest = rest is

-- the lines before the event's first
take_all : {A : Type 0} (xs ys : List A) → take (length xs) (xs ++ ys) ≡ xs
take_all [] ys = by ys
  where
    by : {A : Type 0} (ys : List A) → take 0 ys ≡ []
    by ys = refl
take_all {A} (x ∷ xs) ys = ap (λ (zs : List A). x ∷ zs) (take_all xs ys)

is_eq : (a b : ℕ) → (a == b) ≡ true → a ≡ b
is_eq a b is = grind (arith, nat_tests, is)

-- an event that delivers whatever is open, and in which any node may halt
record Settles (e : Event) : Type 0 where
  pub opens : (g : Here) (j : ℕ) → is_first j (open_frames g.lines) ≡ true → delivers g j e ≡ true
  pub may : (k : ℕ) → may_halt k e ≡ true

module _ (hd : Header) (P : Seen → Type 0) (keeps : KeepsAsked hd P) (within : (w : World) → Holds hd P w → AreFor hd w.frames) where
  abbrev Comes : Here → World → Type 0
  Comes h v = Reaches hd h v × Holds hd P v

  on : (h : Here) (v u : World) → Comes h v → ((g : Here) → Stays h g → Of hd g v → Holds hd P v → Comes g u) → Comes h u
  on h v u c more = (
    reach_on hd h v u c.0 (λ g s of. (more g s of c.1).0),
    (more (behind_all h c.0.bodies) (stays_behind h c.0.bodies) c.0.of c.1).1,
  )

  -- ---- rounds of frames, ticks and shows

  settle_comes : (fuel : ℕ) (e : Event) → Settles e → (h : Here) (w : World) → h.event ≡ e → Of hd h w → Holds hd P w → Comes h
      (settle_for fuel w)
  settle_comes zero e s h w is of holds = (reach_here hd h w of, holds)
  settle_comes (suc fuel) e s h w is of holds = by (lowest w) refl (λ g v same of_g holds_g. settle_comes fuel e s g v same of_g holds_g)
    where
      low : (b : Bool) (j : ℕ) → cond b None (lowest_from 1 w.frames) ≡ Some j → lowest_from 1 w.frames ≡ Some j
      low true j some = let no_way : ◌≡◌ {A = Option ℕ} None (Some j) = some in cc
      low false j some = some

      asked : (j : ℕ) → lowest w ≡ Some j → IsAsked hd h w j
      asked j some bs more t =
          let g = behind_all h bs in
          subst (λ x. delivers g j x ≡ true) (sym is)
          (s.opens g j (subst (λ ks. is_first j ks ≡ true) (sym t.pending) (first_open 1 j w.frames more (low w.full j some))))

      by : (o : Option ℕ) → lowest w ≡ o → ((g : Here) (v : World) → g.event ≡ e → Of hd g v → Holds hd P v → Comes g (settle_for fuel v)) →
          Comes h (elim o [ None ↦ w | Some k ↦ settle_for fuel (deliver k w) ])
      by None none rest = (reach_here hd h w of, holds)
      by (Some j) some rest =
          let held = deliver_holds hd P keeps j w holds in
          let r = deliver_reach hd h w j of (λ k. subst (λ x. may_halt k x ≡ true) (sym is) (s.may k)) (asked j some)
          (within (deliver j w) held) (within w holds) in
          on h (deliver j w) (settle_for fuel (deliver j w)) (r, held)
          (λ g st of_g holds_g. rest g (deliver j w) (st.event ∙ is) of_g holds_g)

  ticks_come : (e : Event) → Settles e → (ns : List ℕ) (h : Here) (w : World) → h.event ≡ e → Of hd h w → Holds hd P w → Comes h
      (tick_all ns w)
  ticks_come e s [] h w is of holds = (reach_here hd h w of, holds)
  ticks_come e s (n ∷ ns) h w is of holds =
      on h (tick_up n w) (tick_all ns (tick_up n w)) (by (w.full || not (is_up_at n w)))
      (λ g st of_g holds_g. ticks_come e s ns g (tick_up n w) (st.event ∙ is) of_g holds_g)
    where
      by : (b : Bool) → Comes h (cond b w (steps n input.Tick w))
      by true = (reach_here hd h w of, holds)
      by false =
          let held = steps_hold hd P keeps n input.Tick w holds tt in (
            steps_reach hd h w n input.Tick of refl (λ known. subst (λ x. may_halt n x ≡ true) (sym is) (s.may n))
                (λ no. let no_way : input.Tick ≡ input.Restart = no in cc) (within (steps n input.Tick w) held),
            held,
          )

  shows_come : (x : ℕ) (ns : List ℕ) (h : Here) (w : World) → ((k : ℕ) → may_halt k h.event ≡ true) → Of hd h w → Holds hd P w →
      Comes h (show_all x ns w)
  shows_come x [] h w may of holds = (reach_here hd h w of, holds)
  shows_come x (n ∷ ns) h w may of holds =
      on h (show_up x n w) (show_all x ns (show_up x n w)) (by (is_up_at n w))
      (λ g st of_g holds_g. shows_come x ns g (show_up x n w) (λ k. subst (λ e. may_halt k e ≡ true) (sym st.event) (may k)) of_g holds_g)
    where
      by : (b : Bool) → Comes h (cond b (steps n (input.Show x) w) w)
      by false = (reach_here hd h w of, holds)
      by true =
          let held = steps_hold hd P keeps n (input.Show x) w holds tt in (
            steps_reach hd h w n (input.Show x) of refl (λ known. may n)
                (λ no. let no_way : input.Show x ≡ input.Restart = no in cc) (within (steps n (input.Show x) w) held),
            held,
          )

  -- ---- events

  abbrev same_world : (h : Here) (w v : World) → Of hd h w → v.header ≡ w.header → v.lines ≡ w.lines → v.event ≡ w.event → v.frames ≡
      w.frames →
      v.nodes ≡ w.nodes → HaveWork hd v.arms → Of hd h v
  same_world h w v of header lines event frames nodes arms = record {
    base = record {
      header = of.base.header;
      is = header ∙ of.base.is;
      lines = of.base.lines ∙ sym lines;
      number = of.base.number ∙ sym event;
      few = subst (λ fs. length fs ≤ most_frames) (sym frames) of.base.few;
      arms = arms;
      placed = subst (ArePlaced hd) (sym nodes) of.base.placed;
    };
    tells = subst (λ fs. Told h fs v.nodes) (sym frames) (subst (λ ns. Told h w.frames ns) (sym nodes) of.tells);
  }

  -- Where an event begins.
  pub record Begins (h : Here) (w : World) (e : Event) : Type 0 where
    pub of : Of hd h w
    pub holds : Holds hd P w
    pub event : h.event ≡ e
    pub free : first_reason (reasons e w) ≡ None
    pub first : h.first ≡ length h.lines

  first_is : (h : Here) (w : World) (e : Event) → Begins h w e → (length h.lines == h.first) ≡ true
  first_is h w e b = subst (λ n. (length h.lines == n) ≡ true) (sym b.first) (same_number (length h.lines))

  -- the lines before the event are those that stood there as it began
  before : (h : Here) (w : World) (e : Event) → Begins h w e → (bs : List Body) → (let g = behind_all h bs in take g.first g.lines) ≡
      h.lines
  before h w e b bs =
      let g = behind_all h bs in
      ap (λ n. take n g.lines) ((stays_behind h bs).first ∙ b.first) ∙ ap (take (length h.lines)) (lines_behind h bs)
      ∙ take_all h.lines (numbered h.number bs)

  -- a frame by the number that the script names it
  named : (h : Here) (w : World) → Of hd h w → (x : FrameNo) → frame_named h.lines x ≡ frame_number x w
  named h w of (frame_no.Number k) = refl
  named h w of frame_no.Last = of.tells.last

  named_is : (h : Here) (w : World) (e : Event) → Begins h w e → (x : FrameNo) (bs : List Body) →
      (let g = behind_all h bs in frame_named (take g.first g.lines) x == frame_number x w) ≡ true
  named_is h w e b x bs = subst (λ n. (n == frame_number x w) ≡ true) (sym (ap (λ ls. frame_named ls x) (before h w e b bs) ∙ named h w
      b.of x))
      (same_number (frame_number x w))

  -- a node is asked something
  one_step : (h : Here) (w v : World) (k : ℕ) (i : Input) (e : Event) → Begins h w e → Of hd h v → is_frame i ≡ false → may_halt k e ≡ true
      →
      (i ≡ input.Restart → restarts k e ≡ true) → Holds hd P (steps k i v) → Reaches hd h (steps k i v)
  one_step h w v k i e b of other may again held = steps_reach hd h v k i of other
      (λ known. subst (λ x. may_halt k x ≡ true) (sym b.event) may)
      (λ is. (subst (λ x. restarts k x ≡ true) (sym b.event) (again is), first_is h w e b)) (within (steps k i v) held)

  begin_reach : (h : Here) (w : World) (g : Giving) (e : Event) → Begins h w e → may_halt g.node e ≡ true → Holds hd P (begins g w) →
      Reaches hd h (begins g w)
  begin_reach h w g e b may held = by (refused_at (input.Begin g.label g.kind g.parent) w (at_place g.node w.nodes)) held
    where
      by : (r : Option ℕ) → Holds hd P (steps g.node (input.Begin g.label g.kind g.parent) (labels_unless g w r)) →
          Reaches hd h (steps g.node (input.Begin g.label g.kind g.parent) (labels_unless g w r))
      by None held = one_step h w (labels_unless g w None) g.node (input.Begin g.label g.kind g.parent) e b
          (same_world h w (labels_unless g w None) b.of refl refl refl refl refl (let base = b.of.base in base.arms)) refl may
          (λ no. let no_way : input.Begin g.label g.kind g.parent ≡ input.Restart = no in cc) held
      by (Some c) held = one_step h w w g.node (input.Begin g.label g.kind g.parent) e b b.of refl may
          (λ no. let no_way : input.Begin g.label g.kind g.parent ≡ input.Restart = no in cc) held

  lose_reach : (h : Here) (w : World) (x : FrameNo) → Begins h w (event.Lose x) → Reaches hd h (lose (frame_number x w) w)
  lose_reach h w x b = by (at_place j w.frames) refl
    where
      j : ℕ
      j = frame_number x w

      by : (o : Option Frame) → at_place j w.frames ≡ o → Reaches hd h (lose_frame j w o)
      by None is = reach_here hd h w b.of
      by (Some f) is =
          let of = b.of in
          let t = of.tells in
          says_reach hd h w (change_frame j as_lost f w) (body.Dropped j) of refl refl refl
          (let same = set_long j w.frames (as_lost f) in let few = of.base.few in omega (arith, few, same)) of.base.arms refl
          (and_all (subst (λ e. loses h j e ≡ true) (sym b.event) (named_is h w (event.Lose x) b x []))
          (has_is h.lines j ∙ t.frames (λ from to what. true) j ∙ ap (frame_test (λ from to what. true)) is))
          (dropped_tells h.start h.number h.lines w.frames w.nodes j f is t)

  junk_reach : (h : Here) (w : World) (n : ℕ) (bytes : List ℕ) → Begins h w (event.Junk n bytes) → (b : Bool) → nat_lt (length w.frames)
      most_frames ≡ b →
      Reaches hd h (junk_fits n w b)
  junk_reach h w n bytes b false is =
      reach_here hd h (junk_fits n w false) (same_world h w (junk_fits n w false) b.of refl refl refl refl refl
      (let base = b.of.base in base.arms))
  junk_reach h w n bytes b true is =
      let of = b.of in
      says_reach hd h w (record w { frames = w.frames ++ new_frame 0 n None ∷ [] }) (body.Sent (length w.frames + 1) 0 n frame.Junk) of
      refl refl refl
      (let long = length-append w.frames (new_frame 0 n None ∷ []) in let less = less_so (length w.frames) most_frames is in omega
      (arith, long, less))
      of.base.arms refl
      (and_all (subst (λ k. (length w.frames + 1 == k + 1) ≡ true) (sym of.tells.last) (same_number (length w.frames + 1)))
      (and_all (subst (λ x. is_node x n ≡ true) (sym of.base.header) node)
      (subst (λ e. (is_junk_to n e && same_frame frame.Junk frame.Junk) ≡ true) (sym b.event) (λ i. same_number n i && true))))
      (send_tells h.start h.number h.lines w.frames w.nodes 0 n None of.tells)
    where
      less_so : (j n : ℕ) → nat_lt j n ≡ true → j < n
      less_so j n less = grind (arith, nat_tests, less)

      node : is_node hd n ≡ true
      node = let r = first_not 1 (not (is_node_of n w)) ((18, reads_whole (read_message bytes)) ∷ []) b.free in
          subst (λ (x : Header). (nat_le 1 n && nat_le n x.nodes) ≡ true) (let base = b.of.base in base.is) (not_not (is_node_of n w) r.0)

  settles : Settles event.Settle
  settles = record { opens = λ g j is. is; may = λ k. refl }

  quiesces : Settles event.Quiesce
  quiesces = record { opens = λ g j is. is; may = λ k. refl }

  quiesce_reach : (a : Arm) (h : Here) (w : World) → Begins h w event.Quiesce → Reaches hd h (quiesce w)
  quiesce_reach a h w b =
      (on h (settle w) (quiesce w) (settle_comes most_frames event.Quiesce quiesces h w b.event b.of b.holds)
      (λ g s of holds. let is = s.event ∙ b.event in
      on g (tick_all (node_numbers w) (settle w)) (quiesce w) (ticks_come event.Quiesce quiesces (node_numbers w) g (settle w) is of holds)
      (λ i t of_i holds_i. let is_i = t.event ∙ is in
      on i (settle (tick_all (node_numbers w) (settle w))) (quiesce w)
      (settle_comes most_frames event.Quiesce quiesces i (tick_all (node_numbers w) (settle w)) is_i of_i holds_i)
      (λ j u of_j holds_j. (last j (settle (tick_all (node_numbers w) (settle w))) of_j, end))))).0
    where
      end : Holds hd P (quiesce w)
      end = happens_hold hd P keeps event.Quiesce a w b.free b.holds

      last : (j : Here) (v : World) → Of hd j v → Reaches hd j (quiet_line v)
      last j v of = by v.full
        where
          by : (x : Bool) → Reaches hd j (cond x v (says (body.Quiet (is_quiet v) ∷ []) v))
          by true = reach_here hd j v of
          by false = quiet_reach hd j v (body.Quiet (is_quiet v)) of refl refl

  happens_reach : (e : Event) (a : Arm) (h : Here) (w : World) → HasWork a → Begins h w e → Reaches hd h (happens e a w)
  happens_reach e a h w work b = by e b (happens_hold hd P keeps e a w b.free b.holds)
    where
      no_restart : (i : Input) → is_restart i ≡ false → (k : ℕ) (e : Event) → i ≡ input.Restart → restarts k e ≡ true
      no_restart i isnt k e is = let no_way : true ≡ false = ap is_restart (sym is) ∙ isnt in cc

      asks : (e : Event) (k : ℕ) (i : Input) → Begins h w e → is_frame i ≡ false → is_restart i ≡ false → may_halt k e ≡ true →
          Holds hd P (steps k i w) → Reaches hd h (steps k i w)
      asks e k i b other isnt may held = one_step h w w k i e b b.of other may (no_restart i isnt k e) held

      by : (e : Event) → Begins h w e → Holds hd P (happens e a w) → Reaches hd h (happens e a w)
      by (event.Begin l n) b held = begin_reach h w (record { label = l; kind = kind.Top; parent = None; node = n }) (event.Begin l n) b
          refl held
      by (event.Serial l n) b held = begin_reach h w (record { label = l; kind = kind.Serial; parent = None; node = n }) (event.Serial l n)
          b refl held
      by (event.BeginIn l p) b held =
          begin_reach h w (record { label = l; kind = kind_below p w; parent = Some p; node = node_of p w }) (event.BeginIn l p) b refl held
      by (event.Top l p) b held =
          begin_reach h w (record { label = l; kind = kind.Independent; parent = Some p; node = node_of p w }) (event.Top l p) b refl held
      by (event.Call l x o) b held = asks (event.Call l x o) (node_of l w) (input.Call l x o) b refl refl refl held
      by (event.Include l x n) b held = asks (event.Include l x n) (node_of l w) (input.Include l x n) b refl refl refl held
      by (event.Commit l) b held = asks (event.Commit l) (node_of l w) (input.Commit l) b refl refl refl held
      by (event.Abort l) b held = asks (event.Abort l) (node_of l w) (input.Abort l) b refl refl refl held
      by (event.GiveUp l) b held = asks (event.GiveUp l) (node_of l w) (input.GiveUp l) b refl refl refl held
      by (event.Deliver x) b held = deliver_reach hd h w (frame_number x w) b.of (λ k. subst (λ e. may_halt k e ≡ true) (sym b.event) refl)
          (λ bs more t. subst (λ e. delivers (behind_all h bs) (frame_number x w) e ≡ true) (sym b.event)
          (named_is h w (event.Deliver x) b x bs))
          (within (deliver (frame_number x w) w) held) (within w b.holds)
      by (event.Lose x) b held = lose_reach h w x b
      by (event.Tick n) b held = asks (event.Tick n) n input.Tick b refl refl refl held
      by event.Settle b held = (settle_comes most_frames event.Settle settles h w b.event b.of b.holds).0
      by event.Quiesce b held = quiesce_reach a h w b
      by (event.Crash n) b held = asks (event.Crash n) n input.Crash b refl refl (same_number n) held
      by (event.Restart n) b held = one_step h w w n input.Restart (event.Restart n) b b.of refl refl (λ is. same_number n) held
      by (event.Stop n c how) b held =
          let of = b.of in
          says_reach hd h w (armed n a w) (body.Armed n) of refl refl refl of.base.few (all_put HasWork n a w.arms work of.base.arms) refl
          (subst (λ e. arms n e ≡ true) (sym b.event) (same_number n))
          (nothing_tells h.start h.number h.lines w.frames w.nodes (body.Armed n) refl of.tells)
      by (event.Junk n bytes) b held = junk_reach h w n bytes b (nat_lt (length w.frames) most_frames) refl
      by (event.Show x) b held =
          (shows_come x (node_numbers w) h w (λ k. subst (λ e. may_halt k e ≡ true) (sym b.event) refl) b.of b.holds).0

  -- and the limit behind it
  pub limited_reach : (e : Event) (a : Arm) (h : Here) (w : World) → HasWork a → Begins h w e → Reaches hd h (limited (happens e a w))
  limited_reach e a h w work b = reach_on hd h (happens e a w) (limited (happens e a w)) (happens_reach e a h w work b)
      (λ g s of. by g of (happens e a w).full)
    where
      v : World
      v = happens e a w

      by : (g : Here) → Of hd g v → (x : Bool) → Reaches hd g (cond x (says (body.Limit which.Frames ∷ []) (record v { over = true })) v)
      by g of false = reach_here hd g v of
      by g of true = quiet_reach hd g (record v { over = true }) (body.Limit which.Frames)
          (same_world g v (record v { over = true }) of refl refl refl refl refl (let base = of.base in base.arms)) refl refl
