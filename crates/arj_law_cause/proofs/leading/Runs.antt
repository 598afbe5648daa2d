-- A run sends no more frames than its events add, in words of the journal; so where they add few no limit of frames is met.
use Rattle.arj_law_parts.proofs.Words
use Words.{◌≡◌, ◌≤◌, ◌<◌, ◌∙◌, ◌+◌, ◌-◌, ◌*◌, ◌==◌, ◌&&◌, ◌||◌, not, ℕ, zero, suc, Bool, true, false, cond, List, [], ◌∷◌, ◌++◌, map}
use Words.{length}
use Words.{refl, sym, ap, subst, arith, nat_tests, list_any, filter, Option, Some, None, AllByRecursion, length-append, append_assoc}
use Words.{append-nil}
use Words.{Arm, Body, Event, Frame, Giving, Header, Kind, Label, Line, Move, Node, Parts, Start, World, Branch, actor, at_place}
use Words.{branch_named}
use Words.{counted, first_reason, frame_number, giving, happens, is_some, kind_below, lacks_labels, limited, moved, most_events}
use Words.{most_frames}
use Words.{name, no_labels, node_by, node_numbers, node_of, numbers_to, open_below, quiesce, reasons, run_unless, see, settle, tick_all}
use Words.{is_quiet, world_by, world_from, journal_by, parts_in}
use Words.body
use Words.event
use Words.input
use Rattle.arj_law_parts.proofs.Terms.which
use Rattle.arj_law_parts.proofs.Terms.{says as world_says}
use Rattle.arj_law_parts.proofs.moves.{Moving.more_moves, Moving.moves_asked}
use Rattle.arj_law_parts.specs.moves.Keeps.{Holds}
use Rattle.arj_law_runs.proofs.Terms.{Act, acts, act_in}
use Rattle.arj_law_runs.proofs.follow.Along.{event_of}
use Rattle.arj_law_runs.proofs.journal.Owners.{acts_more}
use Rattle.arj_law_runs.specs.addresses.Addresses.{GoWithin}
use Rattle.arj_law_runs.specs.follow.Frames.{run_events}
use Rattle.arj_model.specs.Actions as model
use Rattle.arj_model.specs.Follows.{is_limited}
use Rattle.arj_model.specs.Actions.{is_over, path_in}
use Rattle.arj_model.specs.Own.{aborted_by, aborted_of}
use Rattle.arj_model.specs.Past.{Past, at_start, block, next}
use Rattle.arj_model.specs.Refusals.{last_frame}
use Rattle.arj_promise.specs.Runs.{HeaderFits, IsInForm, Run, then}
use Rattle.arj_law_cause.proofs.leading.Bounds.{ticks_cost}
use Rattle.arj_law_cause.proofs.leading.Counts.{frames_long}
use Rattle.arj_law_cause.proofs.leading.Events as events
use Rattle.arj_law_cause.proofs.leading.Loads as loads
use loads.{all_told, sum_of, times, times_is}
use Rattle.arj_law_cause.proofs.leading.Settles as settles
use settles.{KnownUp, Stood, all_in_world, known_up, quiesce_all, settle_all, stood_on, tick_cost}
use Rattle.arj_law_cause.proofs.leading.Worlds as worlds
use Rattle.arj_law_cause.proofs.quiesces.Answered.{Kept}
use Rattle.arj_law_cause.proofs.quiesces.Framed.{behind_tells, ends, within as within_all}
use Rattle.arj_law_cause.proofs.quiesces.Ties as ties
use Rattle.arj_law_cause.proofs.quiesces.Walked as walked
use Rattle.arj_law_cause.proofs.told.Joined as joined
use Rattle.arj_law_cause.proofs.sending.{Fits.ending_free, Fits.limited_both, Light.full, Light.light_fit}
use Rattle.arj_law_cause.specs.rounds.Fits.{AddedFit, RunsFit, all_added, most_added}
use Rattle.arj_law_cause.specs.rounds.Rounds.{Did, behind}

-- ---- so many times, as products

module _ (n a : ℕ) where
  commit_is : times 2 n + (times 2 n + (2 + all_told n)) ≡ n * (n + 6) + 2
  commit_is = (λ i. times_is 2 n i + (times_is 2 n i + (2 + times_is (suc (suc n)) n i))) ∙ same n
    where
      same : (n : ℕ) → 2 * n + (2 * n + (2 + suc (suc n) * n)) ≡ n * (n + 6) + 2
      same n = grind arith

  abort_is : times (times 1 n) a ≡ n * a
  abort_is = times_is (times 1 n) a ∙ (λ i. times_is 1 n i * a) ∙ same n a
    where
      same : (n a : ℕ) → (1 * n) * a ≡ n * a
      same n a = grind arith

  hello_is : times (suc (suc (suc n))) a ≡ (n + 3) * a
  hello_is = times_is (suc (suc (suc n))) a ∙ same n a
    where
      same : (n a : ℕ) → suc (suc (suc n)) * a ≡ (n + 3) * a
      same n a = grind arith

  deliver_is : suc (suc n) + times (suc (suc (suc n))) a ≡ (n + 2) + (n + 3) * a
  deliver_is = ap (λ x. suc (suc n) + x) hello_is ∙ same n ((n + 3) * a)
    where
      same : (n x : ℕ) → suc (suc n) + x ≡ (n + 2) + x
      same n x = omega arith

  tick_is : tick_cost n a ≡ (n * (n + 5) + 5) * a
  tick_is = (λ i. (times_is (2 + times 2 n) a i + times_is (all_told n) a i) + times_is (suc (suc (suc n))) a i)
      ∙ (λ i. ((2 + times_is 2 n i) * a + times_is (suc (suc n)) n i * a) + suc (suc (suc n)) * a) ∙ same n a
    where
      same : (n a : ℕ) → ((2 + 2 * n) * a + (suc (suc n) * n) * a) + suc (suc (suc n)) * a ≡ (n * (n + 5) + 5) * a
      same n a = grind arith

  restart_is : events.restart_cost n a (times (suc (suc (suc n))) a) ≡ (n * (n + 3) + 3) * a + n * ((n + 3) * a + 1)
  restart_is = (λ i. (times_is (all_told n) a i + times_is (suc (suc (suc n))) a i) + times_is (suc (times (suc (suc (suc n))) a)) n i)
      ∙ (λ i. (times_is (suc (suc n)) n i * a + suc (suc (suc n)) * a) + suc (times_is (suc (suc (suc n))) a i) * n) ∙ same n a
    where
      same : (n a : ℕ) → ((suc (suc n) * n) * a + suc (suc (suc n)) * a) + suc (suc (suc (suc n)) * a) * n
          ≡ (n * (n + 3) + 3) * a + n * ((n + 3) * a + 1)
      same n a = grind arith

-- ---- an event

module _ (hd : Header) (a : ℕ) (w : World) (s : Stood hd a w) (header : w.header ≡ hd)
    (ended : (l : Label) (x : Node) (t : Parts) (b : Branch) → at_place (node_of l w) w.nodes ≡ Some x → x.live ≡ Some t →
    branch_named l t.coord ≡ Some b → is_some b.ended ≡ false → length (open_below (actor b.path) t.coord.tree ++ actor b.path ∷ []) ≤
    a) where
  abbrev all : World → ℕ
  all v = all_in_world hd a v

  so_many : (v : World) (c d : ℕ) → c ≡ d → all v ≤ all w + c → all v ≤ all w + d
  so_many v c d is le = subst (λ x. all v ≤ all w + x) is le

  stays : (b : ℕ) → b ≤ b + 0
  stays b = omega arith

  begun : (g : Giving) → all (Words.begins g w) ≤ all w + 0
  begun g = events.begins_adds hd a w s g

  pub happens_adds : (e : Event) (arm : Arm) → all (happens e arm w) ≤ all w + most_added hd a e
  happens_adds (event.Call l x o) arm = events.call_adds hd a w s (node_of l w) l x o
  happens_adds (event.Include l x n) arm = events.include_adds hd a w s (node_of l w) l x n
  happens_adds (event.Commit l) arm = so_many (happens (event.Commit l) arm w) (events.commit_cost hd a w s) (hd.nodes * (hd.nodes + 6) + 2)
      (commit_is hd.nodes a) (events.commit_adds hd a w s (node_of l w) l)
  happens_adds (event.Abort l) arm = so_many (happens (event.Abort l) arm w) (events.abort_cost hd a w s) (hd.nodes * a) (abort_is
      hd.nodes a)
      (events.abort_adds hd a w s (node_of l w) l (λ x t b at live named opened. ended l x t b at live named opened))
  happens_adds (event.GiveUp l) arm = events.giveup_adds hd a w s (node_of l w) l
  happens_adds (event.Deliver k) arm = so_many (happens (event.Deliver k) arm w) (events.deliver_cost hd a w s)
      ((hd.nodes + 2) + (hd.nodes + 3) * a) (deliver_is hd.nodes a) (events.deliver_adds hd a w s (frame_number k w))
  happens_adds (event.Lose k) arm = events.lose_adds hd.nodes (times (suc (suc (suc hd.nodes))) a) (frame_number k w) w
  happens_adds (event.Tick n) arm = so_many (happens (event.Tick n) arm w) (tick_cost hd.nodes a) ((hd.nodes * (hd.nodes + 5) + 5) * a)
      (tick_is hd.nodes a) (events.tick_adds hd a w s n)
  happens_adds event.Settle arm = more (all (settle w)) (all w) (settle_all hd a most_frames w s).0
    where
      more : (x y : ℕ) → x ≤ y → x ≤ y + 0
      more x y le = omega (arith, le)
  happens_adds event.Quiesce arm = by (let v = before in v.full)
    where
      before : World
      before = Words.settle (tick_all (node_numbers w) (settle w))

      le : all (Words.settle (tick_all (node_numbers w) (settle w))) ≤ all w + hd.nodes * ((hd.nodes * (hd.nodes + 5) + 5) * a)
      le = so_many (Words.settle (tick_all (node_numbers w) (settle w))) (times (tick_cost hd.nodes a) (length (node_numbers w)))
          (hd.nodes * ((hd.nodes * (hd.nodes + 5) + 5) * a)) (ticks_cost hd a w header) (quiesce_all hd a w s)

      by : (b : Bool) → all (cond b before (world_says (body.Quiet (is_quiet before) ∷ []) before))
          ≤ all w + hd.nodes * ((hd.nodes * (hd.nodes + 5) + 5) * a)
      by true = le
      by false = le
  happens_adds (event.Crash n) arm = events.crash_adds hd.nodes (times (suc (suc (suc hd.nodes))) a) n w
  happens_adds (event.Restart n) arm = so_many (happens (event.Restart n) arm w) (events.restart_cost hd.nodes a (times (suc (suc (suc
      hd.nodes))) a))
      ((hd.nodes * (hd.nodes + 3) + 3) * a + hd.nodes * ((hd.nodes + 3) * a + 1)) (restart_is hd.nodes a)
      (events.restart_adds hd a w s n header)
  happens_adds (event.Stop n c how) arm = stays (all w)
  happens_adds (event.Junk n bytes) arm = events.junk_adds hd.nodes (times (suc (suc (suc hd.nodes))) a) n w
  happens_adds (event.Show x) arm = events.shows_add hd.nodes (times (suc (suc (suc hd.nodes))) a) x (node_numbers w) w
  happens_adds (event.Begin l n) arm = begun (record { label = l; kind = Words.kind.Top; parent = None; node = n })
  happens_adds (event.Serial l n) arm = begun (record { label = l; kind = Words.kind.Serial; parent = None; node = n })
  happens_adds (event.BeginIn l p) arm = begun (record { label = l; kind = kind_below p w; parent = Some p; node = node_of p w })
  happens_adds (event.Top l p) arm = begun (record { label = l; kind = Words.kind.Independent; parent = Some p; node = node_of p w })

-- an event that is refused, or not run, adds none
module _ (hd : Header) (a : ℕ) (w : World) (s : Stood hd a w) (header : w.header ≡ hd)
    (ended : (l : Label) (x : Node) (t : Parts) (b : Branch) → at_place (node_of l w) w.nodes ≡ Some x → x.live ≡ Some t →
    branch_named l t.coord ≡ Some b → is_some b.ended ≡ false → length (open_below (actor b.path) t.coord.tree ++ actor b.path ∷ []) ≤ a)
    (m : Move) where
  abbrev In : World → Type 0
  In v = all_in_world hd a v ≤ all_in_world hd a w + most_added hd a (event_of m)

  above : (b c : ℕ) → b ≤ b + c
  above b c = omega arith

  abbrev u : World
  u = counted (record w { arms = m.falls })

  fits : (b : Bool) → let v = happens (event_of m) (let x = m.asked in x.arm) (counted (record w { arms = m.falls })) in
      In (record (cond b (world_says (body.Limit which.Frames ∷ []) (record v { over = true })) v) { arms = [] })
  fits true = happens_adds hd a (counted (record w { arms = m.falls })) (stood_on hd a w m.falls s) header ended (event_of m)
      (let x = m.asked in x.arm)
  fits false = happens_adds hd a (counted (record w { arms = m.falls })) (stood_on hd a w m.falls s) header ended (event_of m)
      (let x = m.asked in x.arm)

  accepted : (lacks : Bool) → In (record (cond lacks (no_labels (record w { arms = m.falls }))
      (limited (happens (event_of m) (let x = m.asked in x.arm) (counted (record w { arms = m.falls }))))) { arms = [] })
  accepted true = above (all_in_world hd a w) (most_added hd a (event_of m))
  accepted false = fits (let v = happens (event_of m) (let x = m.asked in x.arm) (counted (record w { arms = m.falls })) in v.full)

  asked : (r : Option ℕ) → In (record (run_unless (event_of m) (let x = m.asked in x.arm) (record w { arms = m.falls }) r) { arms = [] })
  asked (Some c) = above (all_in_world hd a w) (most_added hd a (event_of m))
  asked None = accepted (lacks_labels (giving (event_of m) (record w { arms = m.falls })) (record w { arms = m.falls }))

  pub moved_adds : In (moved m w)
  moved_adds = by w.over
    where
      by : (over : Bool) → In (record (cond over (record w { arms = m.falls })
          (run_unless (event_of m) (let x = m.asked in x.arm) (record w { arms = m.falls })
          (first_reason (reasons (event_of m) (record w { arms = m.falls }))))) { arms = [] })
      by true = above (all_in_world hd a w) (most_added hd a (event_of m))
      by false = asked (first_reason (reasons (event_of m) (record w { arms = m.falls })))

-- ---- a run

-- actions are there from then on
acts_from_more : (xs : List Act) (ls : List Line) → length xs ≤ length (model.acts_from xs ls)
acts_from_more xs [] = itself (length xs)
  where
    itself : (b : ℕ) → b ≤ b
    itself b = omega arith
acts_from_more xs (l ∷ ls) = two (length xs) (length (model.acts_after xs l.body))
    (length (model.acts_from (model.acts_after xs l.body) ls))
    (one (model.begun_of l.body)) (acts_from_more (model.acts_after xs l.body) ls)
  where
    two : (x y z : ℕ) → x ≤ y → y ≤ z → x ≤ z
    two x y z p q = omega (arith, p, q)

    itself : (b : ℕ) → b ≤ b
    itself b = omega arith

    next_one : (b : ℕ) → b ≤ suc b
    next_one b = omega arith

    one : (o : Option model.Begun) → length xs ≤ length (model.numbered xs o)
    one None = itself (length xs)
    one (Some b) = next_one (length xs)

acts_grow : (ls more : List Line) → length (acts ls) ≤ length (acts (ls ++ more))
acts_grow ls more = subst (λ (xs : List Act). length (acts ls) ≤ length xs) (sym (acts_more [] ls more)) (acts_from_more (acts ls) more)

acts_behind : (p : Past) (ds : List Did) → length (acts p.lines) ≤ length (acts (behind p ds).lines)
acts_behind p [] = itself (length (acts p.lines))
  where
    itself : (b : ℕ) → b ≤ b
    itself b = omega arith
acts_behind p (d ∷ ds) = two (length (acts p.lines)) (length (acts (next p d.event d.bodies).lines))
    (length (acts (behind (next p d.event d.bodies) ds).lines)) (acts_grow p.lines (block (p.count + 1) d.bodies))
    (acts_behind (next p d.event d.bodies) ds)
  where
    two : (x y z : ℕ) → x ≤ y → y ≤ z → x ≤ z
    two x y z p q = omega (arith, p, q)

-- an abort ends no more than there are
aborted_few : (ls : List Line) (id : ℕ) (xs : List Act) → length (aborted_by ls id xs) ≤ length xs
aborted_few ls id [] = omega arith
aborted_few ls id (x ∷ xs) = by (not (is_over ls x) && list_any (λ (b : Act). b.id == id) (path_in xs x)) (aborted_few ls id xs)
  where
    both : (a b : ℕ) → a ≤ b → suc a ≤ suc b
    both a b le = omega (arith, le)

    more : (a b : ℕ) → a ≤ b → a ≤ suc b
    more a b le = omega (arith, le)

    by : (b : Bool) → length (aborted_by ls id xs) ≤ length xs →
        length (cond b (x ∷ aborted_by ls id xs) (aborted_by ls id xs)) ≤ suc (length xs)
    by true le = both (length (aborted_by ls id xs)) (length xs) le
    by false le = more (length (aborted_by ls id xs)) (length xs) le

-- as a run begins there is nothing
none_left : (hd : Header) (st : Start) (hello : ℕ) (more : hello ≤ hello) (ns : List ℕ) →
    sum_of (worlds.left_node hd.nodes hello hello more) (map (node_by hd st) ns) ≡ 0
none_left hd st hello more [] = refl
none_left hd st hello more (n ∷ ns) = both (worlds.left_node hd.nodes hello hello more (node_by hd st n))
    (sum_of (worlds.left_node hd.nodes hello hello more) (map (node_by hd st) ns)) (by (st.up n)) (none_left hd st hello more ns)
  where
    both : (a b : ℕ) → a ≡ 0 → b ≡ 0 → a + b ≡ 0
    both a b x y = omega (arith, x, y)

    by : (b : Bool) → worlds.left_up hd.nodes hello hello more (cond b (Some (parts_in n (st.incs n + 1) (Words.input.disk_by hd st n)))
        None) ≡ 0
    by true = refl
    by false = refl

module _ (hd : Header) (form : HeaderFits hd) (a : ℕ) where
  stood : (front : Run hd) (p : Past) → Kept hd form p (world_by hd front) → length (acts p.lines) ≤ a → Stood hd a (world_by hd front)
  stood front p s few = (
    moves_asked hd KnownUp (known_up hd) front,
    subst (λ ls. length (acts ls) ≤ a) (ties.same_lines hd form p (world_by hd front) s.all) few,
    λ n x there. (let t = ties.told hd form p (world_by hd front) s.all in (t.placed.nodes n x there).0),
  )

  -- what one event more adds, and that no limit is met by it
  module _ (front : Run hd) (m : Move) (p : Past) (bodies : List Body) (s : Kept hd form p (world_by hd front))
      (on : (let w = world_by hd front in w.over) ≡ false) (step : joined.Said hd form p (event_of m) bodies)
      (after : Kept hd form (next p (event_of m) bodies) (moved m (world_by hd front))) (few : length (acts p.lines) ≤ a) where
    adds : all_in_world hd a (moved m (world_by hd front)) ≤ all_in_world hd a (world_by hd front) + most_added hd a (event_of m)
    adds = moved_adds hd a (world_by hd front) (stood front p s few)
        (let h : Holds hd KnownUp (world_by hd front) = moves_asked hd KnownUp (known_up hd) front in h.stands.header)
        (λ l x t b there live named opened. two (length (open_below (actor b.path) t.coord.tree ++ actor b.path ∷ []))
        (length (aborted_of p.lines (act_in (acts p.lines) (name l)))) a (ends hd form front m p bodies s after l x t b there live named
        opened)
        (ended (act_in (acts p.lines) (name l)))) m
      where
        two : (x y z : ℕ) → x ≤ y → y ≤ z → x ≤ z
        two x y z p q = omega (arith, p, q)

        least : (b : ℕ) → 0 ≤ b
        least b = omega arith

        ended : (o : Option Act) → length (aborted_of p.lines o) ≤ a
        ended None = least a
        ended (Some b) = two (length (aborted_of p.lines (Some b))) (length (acts p.lines)) a (aborted_few p.lines b.id (acts p.lines)) few

    free : all_in_world hd a (moved m (world_by hd front)) < most_frames → is_limited (next p (event_of m) bodies).lines ≡ false
    free less = by (is_limited (next p (event_of m) bodies).lines) refl
      where
        never : (l f v : ℕ) → l ≡ f → l ≡ most_frames → f ≤ v → v < most_frames → ⊥
        never l f v one two le few = omega (arith, one, two, le, few)

        within : GoWithin hd.nodes (moved m (world_by hd front))
        within = within_all hd form front m p bodies s after

        long : length (moved m (world_by hd front)).frames ≤ all_in_world hd a (moved m (world_by hd front))
        long = more (length (moved m (world_by hd front)).frames)
            (sum_of (worlds.weight hd.nodes (times (suc (suc (suc hd.nodes))) a) (times (suc (suc (suc hd.nodes))) a)
            (itself (times (suc (suc (suc hd.nodes))) a))) (moved m (world_by hd front)).frames)
            (sum_of (worlds.left_node hd.nodes (times (suc (suc (suc hd.nodes))) a) (times (suc (suc (suc hd.nodes))) a)
            (itself (times (suc (suc (suc hd.nodes))) a))) (moved m (world_by hd front)).nodes)
            (frames_long hd.nodes (times (suc (suc (suc hd.nodes))) a) (times (suc (suc (suc hd.nodes))) a)
            (itself (times (suc (suc (suc hd.nodes))) a)) (moved m (world_by hd front)).frames within)
          where
            itself : (b : ℕ) → b ≤ b
            itself b = omega arith

            more : (x y z : ℕ) → x ≤ y → x ≤ y + z
            more x y z le = omega (arith, le)

        by : (b : Bool) → is_limited (next p (event_of m) bodies).lines ≡ b → is_limited (next p (event_of m) bodies).lines ≡ false
        by false is = is
        by true is = absurd (never (last_frame (next p (event_of m) bodies).lines) (length (moved m (world_by hd front)).frames)
            (all_in_world hd a (moved m (world_by hd front)))
            (let t = behind_tells hd form front m p bodies s after in t.last) (full hd form front m p bodies s on step after is) long less)

  along : (front : Run hd) (ds : List Did) (ms : List Move) (p : Past) → walked.IsWalked hd form ms p (world_by hd front) ds →
      length (acts (behind p ds).lines) ≤ a →
      all_in_world hd a (world_by hd front) + all_added hd a (map (λ (d : Did). d.event) ds) < most_frames → is_limited p.lines ≡ false →
      is_limited (behind p ds).lines ≡ false
  along front [] ms p walk few less none = none
  along front (d ∷ ds) [] p walk few less none = absurd walk
  along front (d ∷ ds) (m ∷ ms) p walk few less none =
      let on : walked.IsWalked hd form ms (next p d.event d.bodies) (world_by hd (then front (m ∷ []))) ds =
      subst (λ x. walked.IsWalked hd form ms (next p d.event d.bodies) x ds) (sym same) walk.4 in
      let after = subst (λ e. Kept hd form (next p e d.bodies) (moved m (world_by hd front))) walk.2
      (walked.kept_first hd form ms (next p d.event d.bodies) (moved m (world_by hd front)) ds walk.4) in
      let now = two (length (acts p.lines)) (length (acts (behind p (d ∷ ds)).lines)) a (acts_behind p (d ∷ ds)) few in
      let more = adds front m p d.bodies walk.0 walk.1 walk.3 after now in
      along (then front (m ∷ [])) ds ms (next p d.event d.bodies) on few
      (subst (λ x. all_in_world hd a x + all_added hd a (map (λ (e : Did). e.event) ds) < most_frames) (sym same)
      (later (all_in_world hd a (moved m (world_by hd front))) (all_in_world hd a (world_by hd front)) (most_added hd a (event_of m))
      (most_added hd a d.event) (all_added hd a (map (λ (e : Did). e.event) ds)) more (ap (most_added hd a) (sym walk.2)) less))
      (subst (λ e. is_limited (next p e d.bodies).lines ≡ false) (sym walk.2) (free front m p d.bodies walk.0 walk.1 walk.3 after now
      (first (all_in_world hd a (moved m (world_by hd front))) (all_in_world hd a (world_by hd front)) (most_added hd a (event_of m))
      (most_added hd a d.event) (all_added hd a (map (λ (e : Did). e.event) ds)) more (ap (most_added hd a) (sym walk.2)) less)))
    where
      same : world_by hd (then front (m ∷ [])) ≡ moved m (world_by hd front)
      same = more_moves front.moves (m ∷ []) (world_from hd front.start)

      two : (x y z : ℕ) → x ≤ y → y ≤ z → x ≤ z
      two x y z p q = omega (arith, p, q)

      later : (v w c e r : ℕ) → v ≤ w + c → c ≡ e → w + (e + r) < most_frames → v + r < most_frames
      later v w c e r le is few = omega (arith, le, is, few)

      first : (v w c e r : ℕ) → v ≤ w + c → c ≡ e → w + (e + r) < most_frames → v < most_frames
      first v w c e r le is few = omega (arith, le, is, few)

-- where the events of a run add few, no limit of frames is met
pub added_fit : (hd : Header) (r : Run hd) → IsInForm hd r → AddedFit hd (run_events hd r) (journal_by hd r)
added_fit hd r its less =
    let k = walked.run_walk hd its.header r its in
    let w = walked.run_written hd its.header r its in
    let a = length (acts (journal_by hd r)) in
    let end = behind (at_start r.start) k.did in
    let none = along hd its.header a (record r { moves = [] }) k.did r.moves (at_start r.start) k.walked
    (subst (λ ls. length (acts end.lines) ≤ length (acts ls)) (sym w.lines) (acts_grow end.lines w.ending))
    (subst (λ es. all_in_world hd a (world_from hd r.start) + all_added hd a es < most_frames) (sym w.events)
    (zero_more (all_in_world hd a (world_from hd r.start)) (all_added hd a (run_events hd r))
    (plus (sum_of (worlds.left_node hd.nodes (times (suc (suc (suc hd.nodes))) a) (times (suc (suc (suc hd.nodes))) a)
    (itself (times (suc (suc (suc hd.nodes))) a))) (map (node_by hd r.start) (numbers_to hd.nodes)))
    (none_left hd r.start (times (suc (suc (suc hd.nodes))) a) (itself (times (suc (suc (suc hd.nodes))) a)) (numbers_to hd.nodes)))
    less))
    refl in
    ap is_limited w.lines ∙ limited_both end.lines w.ending
    ∙ (λ i. none i || ending_free hd its.header (length (run_events hd r)) w.ending w.last i)
  where
    itself : (b : ℕ) → b ≤ b
    itself b = omega arith

    plus : (x : ℕ) → x ≡ 0 → 0 + x ≡ 0
    plus x is = omega (arith, is)

    zero_more : (x y : ℕ) → x ≡ 0 → y < most_frames → x + y < most_frames
    zero_more x y is less = omega (arith, is, less)

pub runs_fit : RunsFit
runs_fit hd r its = record { light = light_fit hd r its; added = added_fit hd r its }
