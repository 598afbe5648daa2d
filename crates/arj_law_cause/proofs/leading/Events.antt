-- What each event adds at most to the frames that are sent, with all that they and what actions do still lead to.
use Rattle.arj_law_parts.proofs.Words
use Words.{◌≡◌, ◌≤◌, ◌<◌, ◌∙◌, ◌+◌, ◌-◌, ◌*◌, ◌==◌, ◌&&◌, ◌||◌, not, ℕ, zero, suc, Bool, true, false, cond, List, [], ◌∷◌, ◌++◌, map}
use Words.{length}
use Words.{refl, sym, ap, subst, arith, nat_tests, nat_lt, nat_le, slice_get, slice_set, filter, Option, Some, None, and_parts}
use Words.{AllByRecursion}
use Words.{Arm, Body, Coord, Disk, Do, Effect, Event, Frame, FrameNo, Header, Input, Intent, Kind, Label, Look, Message, Node, Parts}
use Words.{PutInc, Say}
use Words.{Send, Step, Uid, World, Giving, Branch, Did, actor, acts as does, as_delivered, as_lost, at_place, begins, branch_named}
use Words.{change_frame}
use Words.{coord_did, counted, deliver, deliver_frame, first_reason, frame_number, giving, happens, hello_to, holders, is_open_frame}
use Words.{is_some}
use Words.{is_up_at, junk, junk_fits, labels_unless, lacks_labels, limited, lose, lose_frame, most_frames, naming_at, naming_back}
use Words.{new_frame}
use Words.{no_labels, node_did, node_numbers, node_of, numbers_to, on_branch, open_below, parent_of, parts_in, prepared_actions}
use Words.{query_about}
use Words.{reasons, recovered_records, refused_at, restart_outs, run_unless, see, set_place, show_all, show_up, step, step_down, step_up}
use Words.{steps}
use Words.{tolds_again, uid_set, with_coord, without_number, refusal, Move, moved, name, quiesce, settle, tick_all, is_quiet}
use Words.body
use Words.event
use Words.input
use Words.message
use Rattle.arj_law_runs.proofs.Terms.{acts}
use Rattle.arj_law_serial.proofs.joint.Restarting.{back_said}
use Rattle.arj_law_runs.proofs.follow.Telling.{carried_by}
use Rattle.arj_law_cause.proofs.leading.Bounds.{numbers_long}
use Rattle.arj_law_cause.proofs.leading.Counts.{message_lead}
use Rattle.arj_law_cause.proofs.leading.Loads as loads
use loads.{all_told, count_in, inside, lead, left_all, sum_both, sum_of, sum_set, times}
use Rattle.arj_law_cause.proofs.leading.Settles as settles
use settles.{Stood, all_in_world, few, number, tick_cost, tolds_load, up}
use Rattle.arj_law_cause.proofs.leading.Spends as spends
use Rattle.arj_law_cause.proofs.leading.Worlds as worlds
use worlds.{Spent}
use Rattle.arj_law_cause.proofs.quiesces.Framed.{shown_few}
use Rattle.arj_law_cause.proofs.quiesces.Sends.{count_sent}
use Rattle.arj_law_cause.specs.rounds.Sends.{is_hello}
use Rattle.arj_law_cause.proofs.sending.Begun.{FewAt}
use Rattle.arj_law_cause.proofs.sending.Ordered.{UpCoord, UpRecords, acts_up, restart_up}

-- ---- what a restart leads to

-- with so many nodes, where so many actions have records, or are asked about, and a hello leads to so many
abbrev pub restart_cost : ℕ → ℕ → ℕ → ℕ
restart_cost n a hello = (times (all_told n) a + times (suc (suc (suc n))) a) + times (suc hello) n

module _ (n k hello own : ℕ) where
  abbrev load : List Effect → ℕ
  load es = loads.load n k hello own es

  abbrev Silent : Effect → Type 0
  Silent e = load (e ∷ []) ≡ 0

  silent_load : (es : List Effect) → AllByRecursion Silent es → load es ≡ 0
  silent_load [] all = refl
  silent_load (Send to m ∷ es) all = both (loads.cost n k hello own to m) (load es) all.0 (silent_load es all.1)
    where
      both : (a b : ℕ) → a + 0 ≡ 0 → b ≡ 0 → a + b ≡ 0
      both a b one two = omega (arith, one, two)
  silent_load (Say b ∷ es) all = silent_load es all.1
  silent_load (Do w ∷ es) all = silent_load es all.1

  found_none : (es : List (Uid × Intent)) (i : ℕ) → load (recovered_records i es) ≡ 0
  found_none [] i = refl
  found_none (e ∷ es) i = found_none es i

  hellos_load : (inc : ℕ) (ns : List ℕ) → load (map (hello_to k inc) (without_number k ns)) ≤ times (suc hello) (length ns)
  hellos_load inc [] = omega arith
  hellos_load inc (m ∷ ns) = by (m == k) refl (hellos_load inc ns)
    where
      rest : List Effect
      rest = map (hello_to k inc) (without_number k ns)

      more : (x y z : ℕ) → x ≤ y → x ≤ z + y
      more x y z le = omega (arith, le)

      one : (b : Bool) (x y : ℕ) → x ≤ y → cond b (suc hello) 0 + x ≤ suc hello + y
      one true x y le = omega (arith, le)
      one false x y le = omega (arith, le)

      by : (b : Bool) → (m == k) ≡ b → load rest ≤ times (suc hello) (length ns) →
          load (map (hello_to k inc) (cond (not b) (m ∷ without_number k ns) (without_number k ns))) ≤ times (suc hello) (suc (length ns))
      by true same ih = more (load rest) (times (suc hello) (length ns)) (suc hello) ih
      by false apart ih = subst (λ x. cond (inside n m) (suc x) 0 + load rest ≤ suc hello + times (suc hello) (length ns))
          (λ i. cond (sym apart i) own hello) (one (inside n m) (load rest) (times (suc hello) (length ns)) ih)

  pub restart_load : (hd : Header) (a inc : ℕ) (d : Disk) → hd.nodes ≡ n → UpRecords d.intents → length d.intents ≤ a →
      length (uid_set (prepared_actions d.store ++ prepared_actions d.names)) ≤ a → load (restart_outs hd k inc d) ≤ restart_cost n a hello
  restart_load hd a inc d nodes up few_told few_asked =
      four (load (three ++ asks ++ hellos)) (load (three ++ asks)) (load three) (load (one ++ two)) (load one) (load two)
      (load (tolds_again d.intents)) (load asks) (load hellos) (times (all_told n) (length d.intents))
      (times (suc (suc (suc n))) (length (uid_set (prepared_actions d.store ++ prepared_actions d.names)))) (times (all_told n) a)
      (times (suc (suc (suc n))) a) (times (suc hello) n) (loads.load_both n k hello own (three ++ asks) hellos)
      (loads.load_both n k hello own three asks) (loads.load_both n k hello own (one ++ two) (tolds_again d.intents))
      (loads.load_both n k hello own one two) (silent_load back (back_said Silent (λ b. refl) (naming_at k inc d.names)))
      (found_none d.intents k) (tolds_load n k hello own d.intents up)
      (loads.asks_load n k hello own (uid_set (prepared_actions d.store ++ prepared_actions d.names)))
      (loads.times_longer (all_told n) (length d.intents) a few_told)
      (loads.times_longer (suc (suc (suc n))) (length (uid_set (prepared_actions d.store ++ prepared_actions d.names))) a few_asked)
      (subst (λ x. load hellos ≤ times (suc hello) x) (numbers_long hd.nodes ∙ nodes) (hellos_load inc (numbers_to hd.nodes)))
    where
      back : List Effect
      back = naming_back (naming_at k inc d.names)

      one : List Effect
      one = Do Look ∷ Do (PutInc inc) ∷ Say (body.Up k inc) ∷ Do Look ∷ back

      two : List Effect
      two = Do Look ∷ recovered_records k d.intents

      three : List Effect
      three = (one ++ two) ++ tolds_again d.intents

      asks : List Effect
      asks = map query_about (uid_set (prepared_actions d.store ++ prepared_actions d.names))

      hellos : List Effect
      hellos = map (hello_to k inc) (without_number k (numbers_to hd.nodes))

      four : (a b c e f g t q h x y p r s : ℕ) → a ≡ b + h → b ≡ c + q → c ≡ e + t → e ≡ f + g → f ≡ 0 → g ≡ 0 → t ≤ x → q ≤ y → x ≤ p →
          y ≤ r → h ≤ s → a ≤ (p + r) + s
      four a b c e f g t q h x y p r s e1 e2 e3 e4 e5 e6 e7 e8 e9 e10 e11 =
          omega (arith, e1, e2, e3, e4, e5, e6, e7, e8, e9, e10, e11)

-- ---- without what is known of nodes

module _ (n hello : ℕ) where
  itself : (b : ℕ) → b ≤ b
  itself b = omega arith

  abbrev all_there : World → ℕ
  all_there v = worlds.all_of n hello hello (omega arith) v

  low : (b : ℕ) → 0 ≤ 0 + b
  low b = omega arith

  pub crash_adds : (k : ℕ) (w : World) → all_there (steps k input.Crash w) ≤ all_there w + 0
  crash_adds k w = worlds.steps_more n hello hello (itself hello) k 0 input.Crash w (λ x at. worlds.step_spent n hello hello (itself hello)
      w.header k 0 input.Crash x (worlds.idle_spent n hello hello (itself hello) k 0 x) (λ t live free. record {
        through = low (worlds.left_node n hello hello (itself hello) x);
        halted = low (worlds.left_node n hello hello (itself hello) x);
      }))

  pub show_adds : (k y : ℕ) (w : World) → all_there (steps k (input.Show y) w) ≤ all_there w + 0
  show_adds k y w = worlds.steps_more n hello hello (itself hello) k 0 (input.Show y) w (λ x at. worlds.step_spent n hello hello (itself
      hello)
      w.header k 0 (input.Show y) x (worlds.idle_spent n hello hello (itself hello) k 0 x) (λ t live free. record {
        through = sum (loads.load n k hello hello (input.show_outs x.number y x.disk)) (worlds.left_node n hello hello (itself hello) x)
            (none x);
        halted = none_low (loads.load n k hello hello (input.show_outs x.number y x.disk)) (worlds.left_node n hello hello (itself hello) x)
            (none x);
      }))
    where
      zero_is : (b : ℕ) → b ≤ 0 → b ≡ 0
      zero_is b le = omega (arith, le)

      none : (x : Node) → loads.load n k hello hello (input.show_outs x.number y x.disk) ≡ 0
      none x = loads.unsent n k hello hello (input.show_outs x.number y x.disk)
          (zero_is (count_sent (input.show_outs x.number y x.disk)) (shown_few y x.number x.disk))

      sum : (b c : ℕ) → b ≡ 0 → b + c ≤ 0 + c
      sum b c is = omega (arith, is)

      none_low : (b c : ℕ) → b ≡ 0 → b ≤ 0 + c
      none_low b c is = omega (arith, is)

  both_none : (b c d : ℕ) → b ≤ c + 0 → c ≤ d + 0 → b ≤ d + 0
  both_none b c d x y = omega (arith, x, y)

  none_more : (b : ℕ) → b ≤ b + 0
  none_more b = omega arith

  pub shows_add : (y : ℕ) (ks : List ℕ) (w : World) → all_there (show_all y ks w) ≤ all_there w + 0
  shows_add y [] w = none_more (all_there w)
  shows_add y (k ∷ ks) w = both_none (all_there (show_all y ks (show_up y k w))) (all_there (show_up y k w)) (all_there w)
      (shows_add y ks (show_up y k w)) (one (is_up_at k w))
    where
      one : (b : Bool) → all_there (cond b (steps k (input.Show y) w) w) ≤ all_there w + 0
      one true = show_adds k y w
      one false = none_more (all_there w)

  -- a frame that was delivered or lost leads to no more
  changed_less : (f : ℕ) (y z : Frame) (w : World) → at_place f w.frames ≡ Some y →
      worlds.weight n hello hello (itself hello) z ≤ worlds.weight n hello hello (itself hello) y →
      all_there (record w { frames = set_place f z w.frames }) ≤ all_there w
  changed_less zero y z w there less = itself (all_there w)
  changed_less (suc i) y z w there less = sum (sum_of (worlds.weight n hello hello (itself hello)) (slice_set w.frames i z))
      (sum_of (worlds.weight n hello hello (itself hello)) w.frames) (worlds.weight n hello hello (itself hello) y)
      (worlds.weight n hello hello (itself hello) z) (sum_of (worlds.left_node n hello hello (itself hello)) w.nodes)
      (sum_set (worlds.weight n hello hello (itself hello)) i y z w.frames there) less
    where
      sum : (a b c e m : ℕ) → a + c ≡ b + e → e ≤ c → a + m ≤ b + m
      sum a b c e m is le = omega (arith, is, le)

  more_one : (b c : Bool) (l : ℕ) → cond c (suc 0) 0 ≤ cond c (suc (cond b l 0)) 0
  more_one b true l = some (cond b l 0)
    where
      some : (x : ℕ) → 1 ≤ suc x
      some x = omega arith
  more_one b false l = omega arith

  pub delivered_less : (f : ℕ) (y : Frame) (w : World) → at_place f w.frames ≡ Some y →
      all_there (change_frame f as_delivered y w) ≤ all_there w
  delivered_less f y w there = changed_less f y (as_delivered y) w there
      (more_one (is_open_frame y) (inside n y.to) (worlds.lead_of n hello hello (itself hello) y.message))

  pub lose_adds : (f : ℕ) (w : World) → all_there (lose f w) ≤ all_there w + 0
  lose_adds f w = by (at_place f w.frames) refl
    where
      lost : (y : Frame) (d l : Bool) → cond (inside n y.to) (suc (cond (not (d || true)) (worlds.lead_of n hello hello (itself hello)
          y.message) 0)) 0 ≤ cond (inside n y.to) (suc (cond (not (d || l)) (worlds.lead_of n hello hello (itself hello) y.message) 0)) 0
      lost y true l = itself (cond (inside n y.to) (suc 0) 0)
      lost y false l = more_one (not l) (inside n y.to) (worlds.lead_of n hello hello (itself hello) y.message)

      more : (b c : ℕ) → b ≤ c → b ≤ c + 0
      more b c le = omega (arith, le)

      by : (o : Option Frame) → at_place f w.frames ≡ o → all_there (lose_frame f w o) ≤ all_there w + 0
      by None there = none_more (all_there w)
      by (Some y) there = more (all_there (change_frame f as_lost y w)) (all_there w)
          (changed_less f y (as_lost y) w there (lost y y.delivered y.lost))

  pub junk_adds : (k : ℕ) (w : World) → all_there (junk k w) ≤ all_there w + 1
  junk_adds k w = by (nat_lt (length w.frames) most_frames)
    where
      one : (b : Bool) → cond b 1 0 + 0 ≤ 1
      one true = omega arith
      one false = omega arith

      sum : (a b c m : ℕ) → a ≡ b + c → c ≤ 1 → a + m ≤ (b + m) + 1
      sum a b c m is le = omega (arith, is, le)

      none : (b : ℕ) → b ≤ b + 1
      none b = omega arith

      by : (b : Bool) → all_there (junk_fits k w b) ≤ all_there w + 1
      by true = sum (sum_of (worlds.weight n hello hello (itself hello)) (w.frames ++ new_frame 0 k None ∷ []))
          (sum_of (worlds.weight n hello hello (itself hello)) w.frames)
          (sum_of (worlds.weight n hello hello (itself hello)) (new_frame 0 k None ∷ []))
          (sum_of (worlds.left_node n hello hello (itself hello)) w.nodes)
          (sum_both (worlds.weight n hello hello (itself hello)) w.frames (new_frame 0 k None ∷ [])) (one (inside n k))
      by false = none (all_there w)

-- ---- a world

module _ (hd : Header) (a : ℕ) (w : World) (s : Stood hd a w) where
  abbrev n : ℕ
  n = hd.nodes

  abbrev hello : ℕ
  hello = times (suc (suc (suc hd.nodes))) a

  abbrev all : World → ℕ
  all v = all_in_world hd a v

  -- with so much more room
  abbrev own : ℕ → ℕ
  own c = (suc (all_in_world hd a w) + c) + times (suc (suc (suc hd.nodes))) a

  more : (c : ℕ) → times (suc (suc (suc hd.nodes))) a ≤ own c
  more c = above (suc (all_in_world hd a w) + c) (times (suc (suc (suc hd.nodes))) a)
    where
      above : (b c : ℕ) → c ≤ b + c
      above b c = omega arith

  abbrev Has : ℕ → ℕ → Input → Type 0
  Has k c i = (x : Node) → at_place k w.nodes ≡ Some x → c + worlds.left_node n hello (own c) (more c) x < own c →
      Spent n hello (own c) (more c) k c x (step w.header x i)

  room : (k c : ℕ) (x : Node) → at_place k w.nodes ≡ Some x → c + worlds.left_node n hello (own c) (more c) x < own c
  room k c x at = has_room c (worlds.left_node n hello (own c) (more c) x) (sum_of (worlds.weight n hello (own c) (more c)) w.frames)
      (sum_of (worlds.left_node n hello (own c) (more c)) w.nodes) hello
      (settles.one_at (worlds.left_node n hello (own c) (more c)) k x w.nodes at)
    where
      has_room : (c m fs ms h : ℕ) → m ≤ ms → c + m < (suc (fs + ms) + c) + h
      has_room c m fs ms h le = omega (arith, le)

  steps_add : (k c : ℕ) (i : Input) → Has k c i → all (steps k i w) ≤ all w + c
  steps_add k c i has = worlds.steps_more n hello (own c) (more c) k c i w (λ x at. has x at (room k c x at))

  -- what the script asks of an action
  acts_has : (k c : ℕ) (x : Node) (at : at_place k w.nodes ≡ Some x) → c + worlds.left_node n hello (own c) (more c) x < own c →
      (i : Input) (t : Parts) → x.live ≡ Some t → spends.Spends n k hello (own c) c t.coord (does i (let d = x.disk in d.intents) t.coord) →
      Spent n hello (own c) (more c) k c x (coord_did x t (does i (let d = x.disk in d.intents) t.coord))
  acts_has k c x at fits i t live le =
      let did = does i (let d = x.disk in d.intents) t.coord in
      let so = acts_up i (let d = x.disk in d.intents) t.coord ((up hd a w s k x at).1 t live) in
      worlds.whole_spent n hello (own c) (more c) k x (number hd a w s k x at) (up hd a w s k x at) (s.2 k x at) [] (with_coord t did.part)
      did.outs c refl so.0 so.1 (subst (λ z. loads.load n k hello (own c) did.outs + left_all n did.part.doings ≤ c + z)
      (ap (worlds.left_up n hello (own c) (more c)) (sym live)) le) fits

  few_here : (k : ℕ) (x : Node) → at_place k w.nodes ≡ Some x → FewAt a x
  few_here k x at = let f = few hd a w s k x at in record {
    asked = λ t live. two (length (holders x.disk t)) (length (acts w.lines)) (f.asked t live) s.1;
    works = λ t live. two (length t.coord.doings) (length (acts w.lines)) (f.works t live) s.1;
    telling = λ t live. two (length t.coord.telling) (length (acts w.lines)) (f.telling t live) s.1;
    records = two (length (let d = x.disk in d.intents)) (length (acts w.lines)) f.records s.1;
    ready = two (length (uid_set (let d = x.disk in prepared_actions d.store ++ prepared_actions d.names))) (length (acts w.lines))
        f.ready s.1;
  }
    where
      two : (x y : ℕ) → x ≤ y → y ≤ a → x ≤ a
      two x y one le = omega (arith, one, le)

  -- ---- events of one node

  idle : (k c : ℕ) (x : Node) → Spent n hello (own c) (more c) k c x (input.does_nothing x)
  idle k c x = worlds.idle_spent n hello (own c) (more c) k c x

  pub call_adds : (k : ℕ) (l : Label) (y : ℕ) (o : Words.Op) → all (steps k (input.Call l y o) w) ≤ all w + 10
  call_adds k l y o = steps_add k 10 (input.Call l y o) (λ x at fits. worlds.step_spent n hello (own 10) (more 10) w.header k 10
      (input.Call l y o) x (idle k 10 x) (λ t live free. acts_has k 10 x at fits (input.Call l y o) t live
      (by k (branch_named l t.coord) t.coord)))
    where
      by : (k : ℕ) (b : Option Branch) (c : Coord) → spends.Spends n k hello (own 10) 10 c (on_branch (λ f. Words.call f.path y o c) c b)
      by k None c = spends.more_or_same n k hello (own 10) 10 (left_all n c.doings)
      by k (Some b) c = spends.call_spends n k hello (own 10) b y o c

  pub include_adds : (k : ℕ) (l : Label) (y z : ℕ) → all (steps k (input.Include l y z) w) ≤ all w + 10
  include_adds k l y z = steps_add k 10 (input.Include l y z) (λ x at fits. worlds.step_spent n hello (own 10) (more 10) w.header k 10
      (input.Include l y z) x (idle k 10 x) (λ t live free. acts_has k 10 x at fits (input.Include l y z) t live
      (by k (branch_named l t.coord) t.coord)))
    where
      by : (k : ℕ) (b : Option Branch) (c : Coord) → spends.Spends n k hello (own 10) 10 c (on_branch (λ f. Words.include f.path y z c) c b)
      by k None c = spends.more_or_same n k hello (own 10) 10 (left_all n c.doings)
      by k (Some b) c = spends.include_spends n k hello (own 10) b y z c

  -- of a commit, also of one at which no request was asked
  abbrev pub commit_cost : ℕ
  commit_cost = times 2 hd.nodes + (times 2 hd.nodes + (2 + all_told hd.nodes))

  pub commit_adds : (k : ℕ) (l : Label) → all (steps k (input.Commit l) w) ≤ all w + commit_cost
  commit_adds k l = steps_add k commit_cost (input.Commit l) (λ x at fits. worlds.step_spent n hello (own commit_cost) (more commit_cost)
      w.header k commit_cost (input.Commit l) x (idle k commit_cost x) (λ t live free. acts_has k commit_cost x at fits (input.Commit l)
      t live
      (by k (let d = x.disk in d.intents) (branch_named l t.coord) t.coord)))
    where
      by : (k : ℕ) (intents : List (Uid × Intent)) (b : Option Branch) (c : Coord) →
          spends.Spends n k hello (own commit_cost) commit_cost c (on_branch (λ f. Words.commit_action f intents c) c b)
      by k intents None c = spends.more_or_same n k hello (own commit_cost) commit_cost (left_all n c.doings)
      by k intents (Some b) c = spends.commit_spends n k hello (own commit_cost) b intents c

  pub giveup_adds : (k : ℕ) (l : Label) → all (steps k (input.GiveUp l) w) ≤ all w + 2
  giveup_adds k l = steps_add k 2 (input.GiveUp l) (λ x at fits. worlds.step_spent n hello (own 2) (more 2) w.header k 2
      (input.GiveUp l) x (idle k 2 x) (λ t live free. acts_has k 2 x at fits (input.GiveUp l) t live
      (by k (let d = x.disk in d.intents) (branch_named l t.coord) t.coord ((up hd a w s k x at).1 t live))))
    where
      by : (k : ℕ) (intents : List (Uid × Intent)) (b : Option Branch) (c : Coord) → UpCoord c →
          spends.Spends n k hello (own 2) 2 c (on_branch (λ f. Words.give_up (actor f.path) intents c) c b)
      by k intents None c its = spends.more_or_same n k hello (own 2) 2 (left_all n c.doings)
      by k intents (Some b) c its = spends.giveup_spends n k hello (own 2) (actor b.path) intents c its

  -- so many at most end
  abbrev pub abort_cost : ℕ
  abort_cost = times (times 1 hd.nodes) a

  pub abort_adds : (k : ℕ) (l : Label) → ((x : Node) (t : Parts) (b : Branch) → at_place k w.nodes ≡ Some x → x.live ≡ Some t →
      branch_named l t.coord ≡ Some b → is_some b.ended ≡ false → length (open_below (actor b.path) t.coord.tree ++ actor b.path ∷ []) ≤
      a) →
      all (steps k (input.Abort l) w) ≤ all w + abort_cost
  abort_adds k l ends = steps_add k abort_cost (input.Abort l) (λ x at fits. worlds.step_spent n hello (own abort_cost) (more abort_cost)
      w.header k abort_cost (input.Abort l) x (idle k abort_cost x) (λ t live free. acts_has k abort_cost x at fits (input.Abort l) t live
      (by x t at live free (branch_named l t.coord) refl)))
    where
      by : (x : Node) (t : Parts) → at_place k w.nodes ≡ Some x → x.live ≡ Some t → refusal w.header (input.Abort l) x ≡ None →
          (o : Option Branch) → branch_named l t.coord ≡ o → spends.Spends n k hello (own abort_cost) abort_cost t.coord
          (on_branch (λ b. Words.abort_action (actor b.path) (let d = x.disk in d.intents) t.coord) t.coord o)
      by x t at live free None none = spends.more_or_same n k hello (own abort_cost) abort_cost (left_all n t.coord.doings)
      by x t at live free (Some b) named = spends.abort_spends n k hello (own abort_cost) (actor b.path) (let d = x.disk in
          d.intents) t.coord a
          (ends x t b at live named opened)
        where
          opened : is_some b.ended ≡ false
          opened = (Rattle.arj_law_parts.proofs.moves.Reasons.first_not 6 (is_some b.ended)
              ((7, Words.waits_above b t.coord || Words.waits_below b t.coord) ∷ [])
              (ap (Words.refused_by Words.abort_reasons t.coord) (sym named) ∙ sym (ap (input.refusal_at w.header (input.Abort l)) live)
              ∙ free)).0

  pub restart_adds : (k : ℕ) → w.header ≡ hd → all (steps k input.Restart w) ≤ all w + restart_cost hd.nodes a hello
  restart_adds k header = steps_add k c input.Restart (λ x at fits. worlds.step_spent n hello (own c) (more c) w.header k c input.Restart x
      (down x at fits) (λ t live free. idle k c x))
    where
      c : ℕ
      c = restart_cost hd.nodes a (times (suc (suc (suc hd.nodes))) a)

      down : (x : Node) → at_place k w.nodes ≡ Some x → c + worlds.left_node n hello (own c) (more c) x < own c →
          Spent n hello (own c) (more c) k c x (step_down w.header input.Restart x)
      down x at fits =
          let inc = (let d = x.disk in d.inc + 1) in
          let f = few_here k x at in
          let so = restart_up w.header x.number inc x.disk (up hd a w s k x at).0 in
          worlds.whole_spent n hello (own c) (more c) k x (number hd a w s k x at) (up hd a w s k x at) (s.2 k x at) []
          (parts_in x.number inc x.disk) (restart_outs w.header x.number inc x.disk) c refl so.0 so.1
          (subst (λ z. loads.load n k hello (own c) (restart_outs w.header z inc x.disk) + left_all n [] ≤ c
          + worlds.left_node n hello (own c) (more c) x) (sym (number hd a w s k x at))
          (sum (loads.load n k hello (own c) (restart_outs w.header k inc x.disk)) c (worlds.left_node n hello (own c) (more c) x)
          (restart_load n k hello (own c) w.header a inc x.disk (ap (λ (h : Header). h.nodes) header) (up hd a w s k x at).0 f.records
          f.ready))) fits
        where
          sum : (x c z : ℕ) → x ≤ c → x + 0 ≤ c + z
          sum x c z le = omega (arith, le)

  pub tick_adds : (k : ℕ) → all (steps k input.Tick w) ≤ all w + tick_cost hd.nodes a
  tick_adds k = settles.tick_steps hd a k w s

  -- an action begins
  pub begins_adds : (g : Giving) → all (begins g w) ≤ all w + 0
  begins_adds g = by (refused_at (input.Begin g.label g.kind g.parent) w (at_place g.node w.nodes))
    where
      spent : (v : World) → v.header ≡ w.header → (x : Node) → at_place g.node w.nodes ≡ Some x →
          Spent n hello (own 0) (more 0) g.node 0 x (step v.header x (input.Begin g.label g.kind g.parent))
      spent v same x at = worlds.step_spent n hello (own 0) (more 0) v.header g.node 0 (input.Begin g.label g.kind g.parent) x
          (idle g.node 0 x) (λ t live free. acts_has g.node 0 x at (room g.node 0 x at) (input.Begin g.label g.kind g.parent) t live
          (spends.begin_spends n g.node hello (own 0) g.label g.kind g.parent (parent_of g.parent t.coord) t.coord))

      by : (o : Option ℕ) → all (steps g.node (input.Begin g.label g.kind g.parent) (labels_unless g w o)) ≤ all w + 0
      by None = worlds.steps_more n hello (own 0) (more 0) g.node 0 (input.Begin g.label g.kind g.parent) (labels_unless g w None)
          (λ x at. spent (labels_unless g w None) refl x at)
      by (Some c) = worlds.steps_more n hello (own 0) (more 0) g.node 0 (input.Begin g.label g.kind g.parent) w (λ x at. spent w refl x at)

  -- a frame is delivered, perhaps again
  abbrev pub deliver_cost : ℕ
  deliver_cost = suc (suc hd.nodes) + times (suc (suc (suc hd.nodes))) a

  pub deliver_adds : (f : ℕ) → all (deliver f w) ≤ all w + deliver_cost
  deliver_adds f = by (at_place f w.frames) refl
    where
      c : ℕ
      c = suc (suc hd.nodes) + times (suc (suc (suc hd.nodes))) a

      stays : (b d : ℕ) → b ≤ b + d
      stays b d = omega arith

      sum : (x y z : ℕ) → x ≤ y + c → y ≤ z → x ≤ z + c
      sum x y z one two = omega (arith, one, two)

      low : (y : Frame) → worlds.lead_of n hello (own c) (more c) y.message ≤ c
      low y = one (is_hello (carried_by y.message)) (message_lead n hello (own c) (more c) y.message)
        where
          one : (b : Bool) → worlds.lead_of n hello (own c) (more c) y.message ≤ cond b hello (suc (suc n)) →
              worlds.lead_of n hello (own c) (more c) y.message ≤ c
          one true le = right (worlds.lead_of n hello (own c) (more c) y.message) (suc (suc n)) hello le
            where
              right : (l x y : ℕ) → l ≤ y → l ≤ x + y
              right l x y le = omega (arith, le)
          one false le = first (worlds.lead_of n hello (own c) (more c) y.message) (suc (suc n)) hello le
            where
              first : (l x y : ℕ) → l ≤ x → l ≤ x + y
              first l x y le = omega (arith, le)

      two : (x y z : ℕ) → x ≤ y → y ≤ z → x ≤ z
      two x y z one le = omega (arith, one, le)

      by : (o : Option Frame) → at_place f w.frames ≡ o → all (deliver_frame f w o) ≤ all w + c
      by None there = stays (all w) c
      by (Some y) there =
          let v = change_frame f as_delivered y w in
          sum (all (steps y.to (input.Frame f y.from y.message) v)) (all v) (all w)
          (worlds.steps_more n hello (own c) (more c) y.to c (input.Frame f y.from y.message) v (λ x at.
          worlds.frame_spent n hello (own c) (more c) y.to x (number hd a w s y.to x at) (up hd a w s y.to x at) (s.2 y.to x at) w.header f
          y.from y.message c (λ t m h live q e. let z = few hd a w s y.to x at in
          loads.times_longer (suc (suc (suc n))) (length (holders x.disk t)) a
          (two (length (holders x.disk t)) (length (acts w.lines)) a (z.asked t live) s.1)) (low y) (room y.to c x at)))
          (delivered_less n hello f y w there)
