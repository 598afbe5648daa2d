-- What an event says: lines of its own number, and of no node that it starts, but of the one that it restarts.
use Rattle.arj_law_parts.proofs.Words
use Words.{◌≡◌, ◌≤◌, ◌∙◌, ◌==◌, ◌&&◌, ◌++◌, ◌+◌, ◌-◌, ℕ, zero, suc, List, [], ◌∷◌, Bool, true, false, cond, length, Option, Some, None}
use Words.{refl, sym, ap, subst, append-nil, append_assoc, ⊤, nat_le, nat_lt, not, ◌||◌, if◌then◌else◌, list_all, and_parts, map-append}
use Words.{Body, Event, Header, Line, frame_kind, Disk, Do, Effect, Say, Send, Stop, worked, effects_of, effects_of_node, effects_until}
use Words.{at_number, is_coord_line, is_naming_line, is_server_line, Input, Node, Step, step, at_place, Arm, Frame, Giving, World}
use Words.{as_delivered, as_lost, armed, begins, begins_any, bodies, change_frame, count_works, cut, deliver, deliver_frame, frame_number}
use Words.{giving, halted_outs, disarmed, done_step, halted_at, happens, is_quiet, is_up_at, junk_fits, labels_unless, limited, lose_frame}
use Words.{lowest, node_numbers, node_of, numbered, quiesce, refused_at, settle, settle_for, show_all, show_up, step_node}
use Words.{step_with, steps, tick_all, tick_up, steps_lines, most_frames}
use Words.body
use Words.event
use Words.frame
use Words.input
use Rattle.arj_law_serial.proofs.Terms
use Terms.{says, is_quiet_line, up_from, up_of, up_step}
use Terms.which
use Rattle.arj_law_serial.proofs.holding
use holding.{Lines.start_most, Lines.ups_on, Says.All, Says.restart_says, Says.step_says, Sorts.by_kind, Sorts.is_no_start}
use Rattle.arj_law_serial.proofs.holding.Says as tests

-- ---- a step starts no node but the one that restarts

module _ (j : ℕ) where
  abbrev test : Body → Bool
  test = is_no_start j

  server_none : (n : ℕ) (b : Body) → is_server_line n b ≡ true → test b ≡ true
  server_none n = by_kind (λ b. is_server_line n b ≡ true → test b ≡ true) (λ b plain is. plain.none j) (λ l k u p is. refl)
      (λ m u o how is. refl) (λ m u o is. refl) (λ m x c is. refl) (λ m u e q is. refl) (λ m is. refl) (λ m i is. absurd (cc is))

  naming_none : (b : Body) → is_naming_line b ≡ true → test b ≡ true
  naming_none = by_kind (λ b. is_naming_line b ≡ true → test b ≡ true) (λ b plain is. plain.none j) (λ l k u p is. refl)
      (λ m u o how is. refl) (λ m u o is. refl) (λ m x c is. refl) (λ m u e q is. refl) (λ m is. refl) (λ m i is. absurd (cc is))

  coord_none : (b : Body) → is_coord_line b ≡ true → test b ≡ true
  coord_none = by_kind (λ b. is_coord_line b ≡ true → test b ≡ true) (λ b plain is. plain.none j) (λ l k u p is. refl)
      (λ m u o how is. refl) (λ m u o is. refl) (λ m x c is. refl) (λ m u e q is. refl) (λ m is. refl) (λ m i is. absurd (cc is))

  quiet_none : (b : Body) → is_quiet_line b ≡ true → test b ≡ true
  quiet_none = by_kind (λ b. is_quiet_line b ≡ true → test b ≡ true) (λ b plain is. plain.none j) (λ l k u p is. refl)
      (λ m u o how is. refl) (λ m u o is. refl) (λ m x c is. refl) (λ m u e q is. refl) (λ m is. refl) (λ m i is. absurd (cc is))

  -- what an input starts
  abbrev pub StartsOther : Input → Node → Type 0
  StartsOther i n = i ≡ input.Restart → (n.number == j) ≡ false

  step_none : (hd : Header) (n : Node) (i : Input) → StartsOther i n → All test (step hd n i).outs × All test (step hd n i).halting
  step_none hd n i other = step_says test server_none naming_none coord_none quiet_none (λ m u r. refl) (λ m u r e. refl) hd n i refl
      (λ is. restart_says test hd n.number (n.disk.inc + 1) n.disk coord_none (λ one u o how. refl) (λ u. refl) (λ k. not (other is k)))

  -- up to a stop
  cut_none : (k : ℕ) (how : Stop) (es : List Effect) (d : Disk) → All test es → All test (cut k how es d).outs
  cut_none k how [] d all = refl
  cut_none zero how (Do w ∷ es) d all = refl
  cut_none (suc k) how (Do w ∷ es) d all = cut_none k how es (worked w d) all
  cut_none k how (Say b ∷ es) d all = let q = and_parts (test b) (list_all (tests.says test) es) all in
      λ i. q.0 i && cut_none k how es d q.1 i
  cut_none k how (Send to m ∷ es) d all = cut_none k how es d all

  until_none : (k : ℕ) (hd : Header) (n : Node) (i : Input) → StartsOther i n → (a : Option Arm) →
      All test (effects_until k n (step hd n i) a)
  until_none k hd n i other None = (step_none hd n i other).0
  until_none k hd n i other (Some a) = by (nat_lt (count_works (step hd n i).halting) a.works)
    where
      halted : (es fs : List Effect) → All test es → All test fs → All test (es ++ fs)
      halted [] fs one two = two
      halted (Say b ∷ es) fs one two = let q = and_parts (test b) (list_all (tests.says test) es) one in
          λ i. q.0 i && halted es fs q.1 two i
      halted (Send to m ∷ es) fs one two = halted es fs one two
      halted (Do w ∷ es) fs one two = halted es fs one two

      by : (b : Bool) → All test (cond b (step hd n i).outs (halted_outs k (cut (a.works - 1) a.how (step hd n i).halting n.disk)))
      by true = (step_none hd n i other).0
      by false = halted (cut (a.works - 1) a.how (step hd n i).halting n.disk).outs (Say (body.Halted k) ∷ [])
          (cut_none (a.works - 1) a.how (step hd n i).halting n.disk (step_none hd n i other).1) refl

  -- the lines of effects, with those of frames
  bodies_none : (n k : ℕ) (es : List Effect) → All test es → list_all test (bodies n k es) ≡ true
  bodies_none n k [] all = refl
  bodies_none n k (Say b ∷ es) all = let q = and_parts (test b) (list_all (tests.says test) es) all in
      λ i. q.0 i && bodies_none n k es q.1 i
  bodies_none n k (Send to m ∷ es) all = by (nat_le (k + 1) most_frames) (bodies_none n (k + 1) es all)
    where
      by : (b : Bool) → list_all test (bodies n (k + 1) es) ≡ true →
          list_all test (cond b (body.Sent (k + 1) n to (frame_kind m) ∷ []) [] ++ bodies n (k + 1) es) ≡ true
      by true rest = rest
      by false rest = rest
  bodies_none n k (Do w ∷ es) all = bodies_none n k es all

  -- ---- what is said

  -- Lines of the world's event are added, and by none of them the node starts.
  pub record Writes (w v : World) : Type 0 where
    pub same : v.event ≡ w.event
    pub said : List Body
    pub lines : v.lines ≡ w.lines ++ numbered w.event said
    pub none : list_all (is_no_start j) said ≡ true

  both_none : (bs cs : List Body) → list_all test bs ≡ true → list_all test cs ≡ true → list_all test (bs ++ cs) ≡ true
  both_none [] cs one two = two
  both_none (b ∷ bs) cs one two = let q = and_parts (test b) (list_all test bs) one in λ i. q.0 i && both_none bs cs q.1 two i

  writes_none : (w v : World) → v.event ≡ w.event → v.lines ≡ w.lines → Writes w v
  writes_none w v event lines = record { same = event; said = []; lines = lines ∙ sym (append-nil w.lines); none = refl }

  writes_on : (u v w : World) → Writes u v → Writes v w → Writes u w
  writes_on u v w a b = record {
    same = b.same ∙ a.same;
    said = a.said ++ b.said;
    lines = b.lines ∙ ap (λ ls. ls ++ numbered v.event b.said) a.lines
        ∙ append_assoc u.lines (numbered u.event a.said) (numbered v.event b.said)
        ∙ ap (λ ls. u.lines ++ ls) ((λ i. numbered u.event a.said ++ numbered (a.same i) b.said)
        ∙ sym (map-append (λ (z : Body). record { event = u.event; body = z }) a.said b.said));
    none = both_none a.said b.said a.none b.none;
  }

  armed_event : (k : ℕ) (n : Node) (s : Step) (w : World) (a : Arm) (b : Bool) →
      (if b then done_step k s (armed k (record a { works = a.works - count_works s.halting }) w) else halted_at k n
      (cut (a.works - 1) a.how s.halting n.disk) (disarmed k w)).event ≡ w.event
  armed_event k n s w a true = refl
  armed_event k n s w a false = refl

  with_event : (k : ℕ) (n : Node) (s : Step) (w : World) (a : Option Arm) → (step_with k n s w a).event ≡ w.event
  with_event k n s w None = refl
  with_event k n s w (Some a) = armed_event k n s w a (nat_lt (count_works s.halting) a.works)

  pub node_event : (k : ℕ) (i : Input) (w : World) (n : Option Node) → (step_node k i w n).event ≡ w.event
  node_event k i w None = refl
  node_event k i w (Some n) = with_event k n (step w.header n i) w (at_number k w.arms)

  steps_write : (k : ℕ) (i : Input) (w : World) → ((n : Node) → at_place k w.nodes ≡ Some n → StartsOther i n) → Writes w (steps k i w)
  steps_write k i w other = record {
    same = node_event k i w (at_place k w.nodes);
    said = bodies k (length w.frames) (effects_of k i w);
    lines = steps_lines k i w;
    none = bodies_none k (length w.frames) (effects_of k i w) (by (at_place k w.nodes) other);
  }
    where
      by : (o : Option Node) → ((n : Node) → o ≡ Some n → StartsOther i n) → All test (effects_of_node k i w o)
      by None each = refl
      by (Some n) each = until_none k w.header n i (each n refl) (at_number k w.arms)

  plain_write : (k : ℕ) (i : Input) (w : World) → (i ≡ input.Restart → ⊥) → Writes w (steps k i w)
  plain_write k i w isnt = steps_write k i w (λ n there is. absurd (isnt is))

  says_write : (bs : List Body) (w v : World) → v.event ≡ w.event → v.lines ≡ w.lines → list_all test bs ≡ true → Writes w (says bs v)
  says_write bs w v event lines none = record { same = event; said = bs; lines = λ i. lines i ++ numbered (event i) bs; none = none }

  deliver_writes : (k : ℕ) (w : World) → Writes w (deliver k w)
  deliver_writes k w = by (at_place k w.frames)
    where
      by : (o : Option Frame) → Writes w (deliver_frame k w o)
      by None = writes_none w w refl refl
      by (Some f) = let a = plain_write f.to (input.Frame k f.from f.message) (change_frame k as_delivered f w) (λ is. absurd (cc is)) in
          record { same = a.same; said = a.said; lines = a.lines; none = a.none }

  loses_write : (k : ℕ) (w : World) (o : Option Frame) → Writes w (lose_frame k w o)
  loses_write k w None = writes_none w w refl refl
  loses_write k w (Some f) = says_write (body.Dropped k ∷ []) w (change_frame k as_lost f w) refl refl refl

  settled_writes : (fuel : ℕ) (w : World) → Writes w (settle_for fuel w)
  settled_writes zero w = writes_none w w refl refl
  settled_writes (suc fuel) w = by (lowest w) (settled_writes fuel)
    where
      by : (o : Option ℕ) → ((v : World) → Writes v (settle_for fuel v)) →
          Writes w (elim o [ None ↦ w | Some k ↦ settle_for fuel (deliver k w) ])
      by None ih = writes_none w w refl refl
      by (Some k) ih = writes_on w (deliver k w) (settle_for fuel (deliver k w)) (deliver_writes k w) (ih (deliver k w))

  on_either : (w v u : World) (b : Bool) → Writes w v → Writes w u → Writes w (if b then v else u)
  on_either w v u true a c = a
  on_either w v u false a c = c

  ticks_write : (ns : List ℕ) (w : World) → Writes w (tick_all ns w)
  ticks_write [] w = writes_none w w refl refl
  ticks_write (n ∷ ns) w = writes_on w (tick_up n w) (tick_all ns (tick_up n w)) (on_either w w (steps n input.Tick w) (w.full
      || not (is_up_at n w)) (writes_none w w refl refl) (plain_write n input.Tick w (λ is. absurd (cc is)))) (ticks_write ns (tick_up n w))

  quiesce_writes : (w : World) → Writes w (quiesce w)
  quiesce_writes w =
      let a = settle w in
      let b = tick_all (node_numbers w) a in
      let c = settle b in
      writes_on w a (quiesce w) (settled_writes most_frames w) (writes_on a b (quiesce w) (ticks_write (node_numbers w) a)
      (writes_on b c (quiesce w) (settled_writes most_frames b) (on_either c c (says (body.Quiet (is_quiet c) ∷ []) c) c.full
      (writes_none c c refl refl) (says_write (body.Quiet (is_quiet c) ∷ []) c c refl refl refl))))

  shows_write : (x : ℕ) (ns : List ℕ) (w : World) → Writes w (show_all x ns w)
  shows_write x [] w = writes_none w w refl refl
  shows_write x (n ∷ ns) w = writes_on w (show_up x n w) (show_all x ns (show_up x n w)) (on_either w (steps n (input.Show x) w) w
      (is_up_at n w) (plain_write n (input.Show x) w (λ is. absurd (cc is))) (writes_none w w refl refl)) (shows_write x ns (show_up x n w))

  junks_write : (n : ℕ) (w : World) (b : Bool) → Writes w (junk_fits n w b)
  junks_write n w true = record { same = refl; said = body.Sent (length w.frames + 1) 0 n frame.Junk ∷ []; lines = refl; none = refl }
  junks_write n w false = writes_none w (junk_fits n w false) refl refl

  begins_write : (g : Giving) (w : World) → Writes w (begins g w)
  begins_write g w =
      let i = input.Begin g.label g.kind g.parent in
      let o = refused_at i w (at_place g.node w.nodes) in
      writes_on w (labels_unless g w o) (begins g w) (labelled o) (plain_write g.node i (labels_unless g w o) (λ is. absurd (cc is)))
    where
      labelled : (o : Option ℕ) → Writes w (labels_unless g w o)
      labelled None = writes_none w (labels_unless g w None) refl refl
      labelled (Some c) = writes_none w w refl refl

  given_write : (e : Event) (w : World) (o : Option Giving) → Writes w (begins_any e w o)
  given_write e w None = writes_none w w refl refl
  given_write e w (Some g) = begins_write g w

  -- the event restarts another node
  abbrev pub RestartsOther : Event → World → Type 0
  RestartsOther (event.Restart n) w = (m : Node) → at_place n w.nodes ≡ Some m → (m.number == j) ≡ false
  RestartsOther e w = ⊤

  happens_write : (e : Event) (a : Arm) (w : World) → RestartsOther e w → Writes w (happens e a w)
  happens_write (event.Begin l n) a w other = given_write (event.Begin l n) w (giving (event.Begin l n) w)
  happens_write (event.BeginIn l p) a w other = given_write (event.BeginIn l p) w (giving (event.BeginIn l p) w)
  happens_write (event.Top l p) a w other = given_write (event.Top l p) w (giving (event.Top l p) w)
  happens_write (event.Serial l n) a w other = given_write (event.Serial l n) w (giving (event.Serial l n) w)
  happens_write (event.Call l x o) a w other = plain_write (node_of l w) (input.Call l x o) w (λ is. absurd (cc is))
  happens_write (event.Include l x n) a w other = plain_write (node_of l w) (input.Include l x n) w (λ is. absurd (cc is))
  happens_write (event.Commit l) a w other = plain_write (node_of l w) (input.Commit l) w (λ is. absurd (cc is))
  happens_write (event.Abort l) a w other = plain_write (node_of l w) (input.Abort l) w (λ is. absurd (cc is))
  happens_write (event.GiveUp l) a w other = plain_write (node_of l w) (input.GiveUp l) w (λ is. absurd (cc is))
  happens_write (event.Deliver k) a w other = deliver_writes (frame_number k w) w
  happens_write (event.Lose k) a w other = loses_write (frame_number k w) w (at_place (frame_number k w) w.frames)
  happens_write (event.Tick n) a w other = plain_write n input.Tick w (λ is. absurd (cc is))
  happens_write event.Settle a w other = settled_writes most_frames w
  happens_write event.Quiesce a w other = quiesce_writes w
  happens_write (event.Crash n) a w other = plain_write n input.Crash w (λ is. absurd (cc is))
  happens_write (event.Restart n) a w other = steps_write n input.Restart w (λ m there is. other m there)
  happens_write (event.Stop n c how) a w other = says_write (body.Armed n ∷ []) w (armed n a w) refl refl refl
  happens_write (event.Junk n bytes) a w other = junks_write n w (nat_lt (length w.frames) most_frames)
  happens_write (event.Show x) a w other = shows_write x (node_numbers w) w

  -- with a frame that didn't fit
  pub runs_write : (e : Event) (a : Arm) (w : World) → RestartsOther e w → Writes w (limited (happens e a w))
  runs_write e a w other =
      let v = happens e a w in
      writes_on w v (limited v) (happens_write e a w other) (on_either v (says (body.Limit which.Frames ∷ []) (record v { over = true })) v
      v.full (says_write (body.Limit which.Frames ∷ []) v (record v { over = true }) refl refl refl) (writes_none v v refl refl))

-- ---- when a node started

-- not in these lines
pub none_starts : (j event : ℕ) (bs : List Body) → list_all (is_no_start j) bs ≡ true → (ls : List Line) →
    up_of j (ls ++ numbered event bs) ≡ up_of j ls
none_starts j event bs all ls = ups_on j 0 ls (numbered event bs) ∙ go bs all (up_of j ls)
  where
    one : (b : Body) → is_no_start j b ≡ true → (up : ℕ) → up_step j event b up ≡ up
    one = by_kind (λ b. is_no_start j b ≡ true → (up : ℕ) → up_step j event b up ≡ up) (λ b plain is up. plain.starts j event up) (λ l k u p
        is up. refl) (λ m u o how is up. refl) (λ m u o is up. refl) (λ m x c is up. refl) (λ m u e q is up. refl) (λ m is up. refl)
        (λ m i is up. at (m == j) is up)
      where
        at : (b : Bool) → not b ≡ true → (up : ℕ) → cond b event up ≡ up
        at true is up = absurd (cc is)
        at false is up = refl

    go : (bs : List Body) → list_all (is_no_start j) bs ≡ true → (up : ℕ) → up_from j up (numbered event bs) ≡ up
    go [] all up = refl
    go (b ∷ bs) all up = let q = and_parts (is_no_start j b) (list_all (is_no_start j) bs) all in
        go bs q.1 (up_step j event b up) ∙ one b q.0 up

-- and never later than the lines
pub most_starts : (j event : ℕ) (bs : List Body) (ls : List Line) → up_of j ls ≤ event → up_of j (ls ++ numbered event bs) ≤ event
most_starts j event bs ls le = subst (λ u. u ≤ event) (sym (ups_on j 0 ls (numbered event bs))) (go bs (up_of j ls) le)
  where
    go : (bs : List Body) (up : ℕ) → up ≤ event → up_from j up (numbered event bs) ≤ event
    go [] up le = le
    go (b ∷ bs) up le = go bs (up_step j event b up) (start_most j event up b le)
