-- What ticks and settles keep, and what is asked of actions, of nodes and of what is under way, holds behind a tick of a node, events that
-- lose nothing, and a settle: at that node, where all stay up and no limit is met.
use Rattle.arj_law_parts.proofs.Words
use Words.{◌≡◌, ◌≤◌, ◌∙◌, ◌+◌, ◌&&◌, ◌||◌, not, ℕ, suc, Bool, true, false, cond, List, [], ◌∷◌, ◌++◌, length, length-append, most_events}
use Words.{refl, sym, ap, subst, inl, Option, Some, None, and_parts, eqb-true, arith, nat_le, list_all, list_any, Body, Event, Header}
use Words.{Move, Node, Parts, World, Arm, Disk, Input, Seen, Post, AreUp, acts, all_moved, at_place, coord_did, counted, first_reason}
use Words.{giving, happens, is_known, is_up_at, lacks_labels, limited, lowest_from, moved, most_frames, no_labels, numbered, reasons}
use Words.{refusal_up, run_unless, settle, step_node, step_up, steps, was_given, with_coord, world_by, world_from, IsSaid}
use Words.{is_node as world_is, node_of as world_node}
use Words.body
use Words.event
use Words.input
use Rattle.arj_law_parts.proofs.Terms.{says as world_says}
use Rattle.arj_law_parts.proofs.Terms.which
use Rattle.arj_law_parts.proofs.moves.Moving.{more_moves}
use Rattle.arj_law_parts.proofs.moves.Reasons.{first_not, not_not}
use Rattle.arj_law_parts.proofs.steps.Settled.{events_settle}
use Rattle.arj_law_parts.specs.moves.Keeps.{AsksNode, is_act}
use Rattle.arj_law_promise.proofs.Terms.{Holds, KeepsAsked, move_asked, moves_asked}
use Rattle.arj_law_runs.proofs.Terms.{In, up}
use Rattle.arj_law_runs.proofs.bindings.Events.{moves_few}
use Rattle.arj_law_runs.proofs.follow.Along.{event_of}
use Rattle.arj_law_runs.proofs.resting
use resting.{Acting.act_flown, Effects.works, Fits.runs_few, Flights.MayGrow, Flights.MessagesKeep, Flights.with_here, Settles.Also}
use resting.{Settles.Nobody, Ways.Then, Worlds.Flown, Worlds.Of, Worlds.TicksGive, Worlds.Under, Worlds.said_more, Worlds.settle_flown}
use resting.{Worlds.tick_flown}
use Rattle.arj_law_runs.specs.calls.Bindings.{HasFewBindings}
use Rattle.arj_model.specs.Past.{Past, next}
use Rattle.arj_promise.specs.Runs.{HeaderFits, Run, then}
use Rattle.arj_law_cause.proofs.quiesces.Answered as answered
use Rattle.arj_law_cause.proofs.quiesces.Answered.{Kept}
use Rattle.arj_law_cause.proofs.quiesces.Ties as ties
use Rattle.arj_law_cause.proofs.quiesces.Walked as walked
use Rattle.arj_law_cause.specs.rounds.Quiesces.{cuts_short}
use Rattle.arj_law_cause.specs.rounds.Rounds.{Did as Wrote, behind}
use Rattle.arj_law_cause.specs.rounds.Settles.{IsSettled, is_settle, is_tick_of, loses_nothing}

-- ---- an event that ends no run

-- It is refused, with a line alone, or it is run.
data Went (m : Move) (w : World) : Type 0 where
  Refused : (c : ℕ) → first_reason (reasons (event_of m) (record w { arms = m.falls })) ≡ Some c →
      moved m w ≡ record (world_says (body.Refused c ∷ []) (counted (record w { arms = m.falls }))) { arms = [] } → Went m w
  Ran : first_reason (reasons (event_of m) (record w { arms = m.falls })) ≡ None →
      (happens (event_of m) (let a = m.asked in a.arm) (counted (record w { arms = m.falls }))).full ≡ false →
      moved m w ≡ record (happens (event_of m) (let a = m.asked in a.arm) (counted (record w { arms = m.falls }))) { arms = [] } → Went m w

went : (m : Move) (w : World) → w.over ≡ false → (moved m w).over ≡ false → Went m w
went m w on still = by (first_reason (reasons (event_of m) u)) refl
  where
    u : World
    u = record w { arms = m.falls }

    t : World
    t = counted (record w { arms = m.falls })

    arm : Arm
    arm = let a = m.asked in a.arm

    now_is : (y : World) → run_unless (event_of m) arm u (first_reason (reasons (event_of m) u)) ≡ y → moved m w ≡ record y { arms = [] }
    now_is y is = ap (λ (z : World). record z { arms = [] })
        ((λ j. cond (on j) u (run_unless (event_of m) arm u (first_reason (reasons (event_of m) u)))) ∙ is)

    never : (y : World) → moved m w ≡ record y { arms = [] } → y.over ≡ true → Went m w
    never y is over = let no_way : false ≡ true = sym still ∙ ap (λ (z : World). z.over) is ∙ over in absurd (cc no_way)

    run : first_reason (reasons (event_of m) u) ≡ None → moved m w ≡ record (limited (happens (event_of m) arm t)) { arms = [] } → Went m w
    run none is = full (happens (event_of m) arm t).full refl
      where
        full : (b : Bool) → (happens (event_of m) arm t).full ≡ b → Went m w
        full true met = never (world_says (body.Limit which.Frames ∷ []) (record (happens (event_of m) arm t) { over = true })) (is
            ∙ (λ j. record (cond (met j) (world_says (body.Limit which.Frames ∷ []) (record (happens (event_of m) arm t) { over = true }))
            (happens (event_of m) arm t)) { arms = [] })) refl
        full false fits = Ran none fits (is
            ∙ (λ j. record (cond (fits j) (world_says (body.Limit which.Frames ∷ []) (record (happens (event_of m) arm t) { over = true }))
            (happens (event_of m) arm t)) { arms = [] }))

    labels : first_reason (reasons (event_of m) u) ≡ None → (b : Bool) → lacks_labels (giving (event_of m) u) u ≡ b → Went m w
    labels none true lacks = never (no_labels u) (now_is (no_labels u) (ap (run_unless (event_of m) arm u) none
        ∙ (λ j. cond (lacks j) (no_labels u) (limited (happens (event_of m) arm t))))) refl
    labels none false has_one = run none (now_is (limited (happens (event_of m) arm t)) (ap (run_unless (event_of m) arm u) none
        ∙ (λ j. cond (has_one j) (no_labels u) (limited (happens (event_of m) arm t)))))

    by : (o : Option ℕ) → first_reason (reasons (event_of m) u) ≡ o → Went m w
    by (Some c) refused = Refused c refused (now_is (world_says (body.Refused c ∷ []) t) (ap (run_unless (event_of m) arm u) refused))
    by None none = labels none (lacks_labels (giving (event_of m) u) u) refl

-- ---- what is kept

-- a call, an include or a commit
abbrev pub asks_it : Input → Bool
asks_it (input.Call l x op) = true
asks_it (input.Include l x s) = true
asks_it (input.Commit l) = true
asks_it i = false

-- what is kept by what a coordinator does that is asked so
abbrev pub ActsKeep : Header → (Seen → Type 0) → ((ℕ → Option Node) → (Post → Type 0) → (Body → Type 0) → Type 0) → Type 1
ActsKeep hd P I = (n : ℕ) (i : Input) → asks_it i ≡ true → (d : Disk) (t : Parts) (M : Seen) → P (up n d t M) →
    refusal_up hd i t.coord ≡ None → (F : Post → Type 0) (B : Body → Type 0) → I (up n d t M).nodes F B →
    let did = acts i d.intents t.coord in
    I (with_here n (record { disk = works did.outs d; parts = with_coord t did.part }) M.nodes) (Then F n did.outs) B

none_of_two : (a b : Bool) → a || b ≡ false → (a ≡ false) × (b ≡ false)
none_of_two false false is = (refl, refl)
none_of_two true b is = absurd (cc is)
none_of_two false true is = absurd (cc is)

settle_is : (e : Event) → is_settle e ≡ true → e ≡ event.Settle
settle_is event.Settle is = refl
settle_is e is = absurd (cc is)

tick_is : (n : ℕ) (e : Event) → is_tick_of n e ≡ true → e ≡ event.Tick n
tick_is n (event.Tick k) is = ap event.Tick (eqb-true k n is)
tick_is n e is = absurd (cc is)

module _ (hd : Header) (form : HeaderFits hd) (P : Seen → Type 0) (keeps : KeepsAsked hd P)
    (within : (M : Seen) (p : Post) → P M → In p M.sent → Of hd p.to)
    (I : (ℕ → Type 0) → (ℕ → Option Node) → (Post → Type 0) → (Body → Type 0) → Type 0) (more : (nodes : ℕ → Type 0) → MayGrow (I nodes))
    (message : (nodes : ℕ → Type 0) → MessagesKeep P (I nodes)) (fewer : (nodes other : ℕ → Type 0) (found : ℕ → Option Node)
    (F : Post → Type 0) (B : Body → Type 0) → ((k : ℕ) → other k → nodes k) → I nodes found F B → I other found F B)
    (ticked : (nodes : ℕ → Type 0) (n : ℕ) → TicksGive P n (I nodes) (I (Also nodes n)))
    (acted : (nodes : ℕ → Type 0) → ActsKeep hd P (I nodes))
    (nobody : (found : ℕ → Option Node) (F : Post → Type 0) (B : Body → Type 0) → I Nobody found F B) where
  abbrev pub FlownAt : (ℕ → Type 0) → World → Type 0
  FlownAt nodes w = Flown (I nodes) (more nodes) w

  -- ---- behind an event

  module _ (front : Run hd) (m : Move) (p : Past) (s : Kept hd form p (world_by hd front))
      (on : (let w = world_by hd front in w.over) ≡ false) (ups : AreUp (world_by hd front))
      (still : (moved m (world_by hd front)).over ≡ false) (up_on : AreUp (moved m (world_by hd front))) where
    abbrev w : World
    w = world_by hd front

    abbrev t : World
    t = counted (record (world_by hd front) { arms = m.falls })

    held : Holds hd P (world_by hd front)
    held = moves_asked hd P keeps front

    marked : Holds hd P (counted (record (world_by hd front) { arms = m.falls }))
    marked = record {
      sent = held.sent;
      stands = record {
        frames = held.stands.frames;
        junk = held.stands.junk;
        header = held.stands.header;
        numbers = held.stands.numbers;
        places = held.stands.places;
        labels = held.stands.labels;
      };
      holds = held.holds;
    }

    header : (world_by hd front).header ≡ hd
    header = held.stands.header

    later : (moved m (world_by hd front)).header ≡ hd
    later = let h = move_asked hd P keeps m (world_by hd front) held in h.stands.header

    -- behind it a node of the header is up
    up_there : (v : World) → moved m (world_by hd front) ≡ record v { arms = [] } → (k : ℕ) → Of hd k → is_up_at k v ≡ true
    up_there v is k of = ap (is_up_at k) (sym is)
        ∙ up_on k (subst (λ (x : Header). (nat_le 1 k && nat_le k x.nodes) ≡ true) (sym later) of)

    module _ (nodes : ℕ → Type 0) (flown : FlownAt nodes (world_by hd front)) where
      refused : (c : ℕ) → FlownAt nodes (record (world_says (body.Refused c ∷ []) t) { arms = [] })
      refused c = more nodes (λ k. at_place k w.nodes) (Under w.frames) (Under w.frames) (IsSaid w.lines)
          (IsSaid (w.lines ++ numbered (w.event + 1) (body.Refused c ∷ []))) (λ q f. f, λ q f. f)
          (λ b l. said_more w.lines (numbered (w.event + 1) (body.Refused c ∷ [])) b l) flown

      settled : moved m (world_by hd front) ≡ record (settle t) { arms = [] } → (settle t).full ≡ false → FlownAt nodes (settle t)
      settled is fits = settle_flown hd P keeps within (I nodes) (more nodes) (message nodes) most_frames t marked flown
          (λ k of. up_there (settle t) is k of) fits

      after_tick : (k : ℕ) → first_reason (reasons (event.Tick k) (record w { arms = m.falls })) ≡ None →
          moved m (world_by hd front) ≡ record (steps k input.Tick t) { arms = [] } → (steps k input.Tick t).full ≡ false →
          FlownAt (Also nodes k) (steps k input.Tick t)
      after_tick k none is fits = tick_flown hd P keeps (I nodes) (I (Also nodes k)) (more nodes) (more (Also nodes k))
          (message (Also nodes k)) k t marked flown (ticked nodes k) (ups k there)
          (up_there (steps k input.Tick t) is k (subst (λ (x : Header). (nat_le 1 k && nat_le k x.nodes) ≡ true) header there)) fits
        where
          there : world_is k w ≡ true
          there = not_not (world_is k w) (first_not 1 (not (world_is k w))
              ((2, not (is_up_at k (record w { arms = m.falls }))) ∷ []) none).0

      asked : (k : ℕ) (i : Input) → is_act i ≡ true → asks_it i ≡ true → AsksNode hd i →
          ((a : Node) (z : Parts) → step_up i a z ≡ coord_did a z (acts i (let d = a.disk in d.intents) z.coord)) →
          moved m (world_by hd front) ≡ record (steps k i t) { arms = [] } → (steps k i t).full ≡ false → FlownAt nodes (steps k i t)
      asked k i about one asks up_is is fits = by (at_place k w.nodes) refl
        where
          by : (o : Option Node) → at_place k w.nodes ≡ o → FlownAt nodes (steps k i t)
          by None none = subst (λ o. FlownAt nodes (step_node k i t o)) (sym none) flown
          by (Some a) there =
              let node : world_is k w ≡ true = ties.node_there hd form p (world_by hd front) s.all k a there in
              act_flown hd P keeps (I nodes) (more nodes) (message nodes) k i about asks up_is
              (λ d t M h free F B own. acted nodes k i one d t M h free F B own) t marked flown (ups k node)
              (up_there (steps k i t) is k (subst (λ (x : Header). (nat_le 1 k && nat_le k x.nodes) ≡ true) header node)) fits

      abbrev Behind : World → Type 0
      Behind v = moved m (world_by hd front) ≡ record v { arms = [] } → v.full ≡ false → FlownAt nodes v

      -- an event that loses nothing
      ran : (e : Event) → loses_nothing e ≡ true → first_reason (reasons e (record w { arms = m.falls })) ≡ None →
          Behind (happens e (let a = m.asked in a.arm) t)
      ran (event.Call l x op) loses none = asked (world_node l t) (input.Call l x op) refl refl tt (λ a z. refl)
      ran (event.Include l x n) loses none = asked (world_node l t) (input.Include l x n) refl refl
          (sym (ties.node_so hd form p (world_by hd front) s.all n) ∙ not_not (world_is n w)
          (first_not 1 (not (world_is n w)) ((5, not (is_known l (record w { arms = m.falls })))
          ∷ (6, was_given l (record w { arms = m.falls })) ∷ []) none).0) (λ a z. refl)
      ran (event.Commit l) loses none = asked (world_node l t) (input.Commit l) refl refl tt (λ a z. refl)
      ran (event.Tick k) loses none = λ is fits. fewer (Also nodes k) nodes (λ j. at_place j (steps k input.Tick t).nodes)
          (Under (steps k input.Tick t).frames) (IsSaid (steps k input.Tick t).lines) (λ j there. inl there) (after_tick k none is fits)
      ran event.Settle loses none = settled
      ran e loses none = absurd (cc loses)

      goes_on : loses_nothing (event_of m) ≡ true → FlownAt nodes (moved m (world_by hd front))
      goes_on loses = by (went m (world_by hd front) on still)
        where
          by : Went m (world_by hd front) → FlownAt nodes (moved m (world_by hd front))
          by (Refused c denied is) = subst (FlownAt nodes) (sym is) (refused c)
          by (Ran none fits is) = subst (FlownAt nodes) (sym is) (ran (event_of m) loses none is fits)

    -- a tick of a node
    begins : (n : ℕ) → world_is n (world_by hd front) ≡ true → event_of m ≡ event.Tick n →
        FlownAt (Also Nobody n) (moved m (world_by hd front))
    begins n node tick = by (went m (world_by hd front) on still)
      where
        none_yet : FlownAt Nobody (world_by hd front)
        none_yet = nobody (λ k. at_place k w.nodes) (Under w.frames) (IsSaid w.lines)

        so : (e : Event) → e ≡ event.Tick n → first_reason (reasons e (record w { arms = m.falls })) ≡ None →
            let v = happens e (let a = m.asked in a.arm) t in v.full ≡ false → moved m (world_by hd front) ≡ record v { arms = [] } →
            FlownAt (Also Nobody n) (moved m (world_by hd front))
        so e same none fits is =
            let free = ap (λ x. first_reason (reasons x (record w { arms = m.falls }))) (sym same) ∙ none in
            let there = is ∙ ap (λ x. record (happens x (let a = m.asked in a.arm) t) { arms = [] }) same in
            subst (FlownAt (Also Nobody n)) (sym there) (after_tick Nobody none_yet n free there
            (ap (λ x. (happens x (let a = m.asked in a.arm) t).full) (sym same) ∙ fits))

        -- it isn't refused
        free : first_reason (reasons (event.Tick n) (record w { arms = m.falls })) ≡ None
        free = λ i. first_reason ((1, not (node i)) ∷ (2, not (ups n node i)) ∷ [])

        by : Went m (world_by hd front) → FlownAt (Also Nobody n) (moved m (world_by hd front))
        by (Refused c denied is) = let no_way : ◌≡◌ {A = Option ℕ} (Some c) None = sym denied
            ∙ ap (λ x. first_reason (reasons x (record w { arms = m.falls }))) tick ∙ free in absurd (cc no_way)
        by (Ran none fits is) = so (event_of m) tick none fits is

  -- ---- along a run

  -- the run with one move more
  longer : (front : Run hd) (m : Move) → world_by hd (then front (m ∷ [])) ≡ moved m (world_by hd front)
  longer front m = more_moves front.moves (m ∷ []) (world_from hd front.start)

  -- an event of these, that nothing cuts short
  record Stays (front : Run hd) (m : Move) (p : Past) (d : Wrote) : Type 0 where
    pub after : Kept hd form (next p (event_of m) d.bodies) (moved m (world_by hd front))
    pub on : (moved m (world_by hd front)).over ≡ false
    pub ups : AreUp (moved m (world_by hd front))
    pub few : HasFewBindings (moved m (world_by hd front)).lines

  stays : (front : Run hd) (m : Move) (ms : List Move) (p : Past) (d : Wrote) (ds : List Wrote) →
      length front.moves + suc (length ms) ≤ most_events → walked.IsWalked hd form (m ∷ ms) p (world_by hd front) (d ∷ ds) →
      list_any cuts_short d.bodies ≡ false → AreUp (world_by hd front) → Stays front m p d
  stays front m ms p d ds short k whole ups = record {
    after = after;
    on = answered.stays_on hd form front m p d.bodies k.0 after whole k.1;
    ups = answered.stays_up hd form front m p d.bodies k.0 after whole ups;
    few = subst (λ (x : World). HasFewBindings x.lines) (longer front m)
        (moves_few hd (then front (m ∷ [])) (subst (λ n. n ≤ most_events) (sym (length-append front.moves (m ∷ [])))
        (least (length front.moves) (length ms) short)));
  }
    where
      after : Kept hd form (next p (event_of m) d.bodies) (moved m (world_by hd front))
      after = subst (λ e. Kept hd form (next p e d.bodies) (moved m (world_by hd front))) k.2
          (walked.kept_first hd form ms (next p d.event d.bodies) (moved m (world_by hd front)) ds k.4)

      least : (a b : ℕ) → a + suc b ≤ most_events → a + 1 ≤ most_events
      least a b le = omega (arith, le)

  abbrev cut : Wrote → Bool
  cut d = list_any cuts_short d.bodies

  one_on : (a b : ℕ) → a + suc b ≤ most_events → (a + 1) + b ≤ most_events
  one_on a b le = omega (arith, le)

  -- What there is behind the last settle, of a run that ends in this world.
  pub record Ends (n : ℕ) (end : World) (rest : List Wrote) (q : Past) : Type 0 where
    pub front : Run hd
    pub move : Move
    pub left : List Move
    pub after : Kept hd form q (moved move (world_by hd front))
    pub on : (moved move (world_by hd front)).over ≡ false
    pub ups : AreUp (moved move (world_by hd front))
    pub few : HasFewBindings (moved move (world_by hd front)).lines
    pub flown : FlownAt (Also Nobody n) (moved move (world_by hd front))
    pub none : lowest_from 1 (moved move (world_by hd front)).frames ≡ None
    pub walked : walked.IsWalked hd form left q (moved move (world_by hd front)) rest
    pub goes : end ≡ all_moved left (moved move (world_by hd front))

  walks : (n : ℕ) (between : List Wrote) (last : Wrote) (rest : List Wrote) (end : World) (front : Run hd) (ms : List Move) (p : Past) →
      length front.moves + length ms ≤ most_events → walked.IsWalked hd form ms p (world_by hd front) (between ++ (last ∷ rest)) →
      end ≡ all_moved ms (world_by hd front) → list_all (λ (d : Wrote). loses_nothing d.event) between ≡ true →
      is_settle last.event ≡ true → list_any cut (between ++ (last ∷ [])) ≡ false → AreUp (world_by hd front) →
      FlownAt (Also Nobody n) (world_by hd front) → Ends n end rest (behind p (between ++ (last ∷ [])))
  walks n [] last rest end front [] p short k goes only is whole ups flown = absurd k
  walks n [] last rest end front (m ∷ ms) p short k goes only is whole ups flown =
      let z = stays front m ms p last rest short k (none_of_two (cut last) false whole).0 ups in
      let settles : event_of m ≡ event.Settle = sym k.2 ∙ settle_is last.event is in
      record {
        front = front;
        move = m;
        left = ms;
        after = subst (λ e. Kept hd form (next p e last.bodies) (moved m (world_by hd front))) (sym k.2) z.after;
        on = z.on;
        ups = z.ups;
        few = z.few;
        flown = goes_on front m p k.0 k.1 ups z.on z.ups (Also Nobody n) flown (ap loses_nothing settles);
        none = events_settle m.asked (record (world_by hd front) { arms = m.falls }) (inl settles) (runs_few hd front) k.1 z.on;
        walked = k.4;
        goes = goes;
      }
  walks n (d ∷ ds) last rest end front [] p short k goes only is whole ups flown = absurd k
  walks n (d ∷ ds) last rest end front (m ∷ ms) p short k goes only is whole ups flown =
      let w = none_of_two (cut d) (list_any cut (ds ++ (last ∷ []))) whole in
      let z = stays front m ms p d (ds ++ (last ∷ rest)) short k w.0 ups in
      let o = and_parts (loses_nothing d.event) (list_all (λ (d : Wrote). loses_nothing d.event) ds) only in
      let ways = goes_on front m p k.0 k.1 ups z.on z.ups (Also Nobody n) flown (ap loses_nothing (sym k.2) ∙ o.0) in
      walks n ds last rest end (then front (m ∷ [])) ms (next p d.event d.bodies)
      (subst (λ j. j + length ms ≤ most_events) (sym (length-append front.moves (m ∷ []))) (one_on (length front.moves) (length ms) short))
      (subst (λ x. walked.IsWalked hd form ms (next p d.event d.bodies) x (ds ++ (last ∷ rest))) (sym (longer front m)) k.4)
      (subst (λ x. end ≡ all_moved ms x) (sym (longer front m)) goes) o.1 is w.1 (subst AreUp (sym (longer front m)) z.ups)
      (subst (FlownAt (Also Nobody n)) (sym (longer front m)) ways)

  -- from the tick on
  pub ends_so : (n : ℕ) (first : Wrote) (between : List Wrote) (last : Wrote) (rest : List Wrote) (end : World) (front : Run hd)
      (ms : List Move) (p : Past) → length front.moves + length ms ≤ most_events →
      walked.IsWalked hd form ms p (world_by hd front) (first ∷ (between ++ (last ∷ rest))) → end ≡ all_moved ms (world_by hd front) →
      IsSettled hd p n first between last → Ends n end rest (behind p (first ∷ (between ++ (last ∷ []))))
  ends_so n first between last rest end front [] p short k goes its = absurd k
  ends_so n first between last rest end front (m ∷ ms) p short k goes its =
      let w = none_of_two (cut first) (list_any cut (between ++ (last ∷ []))) its.whole in
      let ups = ties.all_up hd form p (world_by hd front) (let s = k.0 in s.all) its.up in
      let z = stays front m ms p first (between ++ (last ∷ rest)) short k w.0 ups in
      let node = ties.node_so hd form p (world_by hd front) (let s = k.0 in s.all) n ∙ its.node in
      let ways = begins front m p k.0 k.1 ups z.on z.ups n node (sym k.2 ∙ tick_is n first.event its.ticks) in
      walks n between last rest end (then front (m ∷ [])) ms (next p first.event first.bodies)
      (subst (λ j. j + length ms ≤ most_events) (sym (length-append front.moves (m ∷ []))) (one_on (length front.moves) (length ms) short))
      (subst (λ x. walked.IsWalked hd form ms (next p first.event first.bodies) x (between ++ (last ∷ rest))) (sym (longer front m)) k.4)
      (subst (λ x. end ≡ all_moved ms x) (sym (longer front m)) goes) its.only its.settles w.1 (subst AreUp (sym (longer front m)) z.ups)
      (subst (FlownAt (Also Nobody n)) (sym (longer front m)) ways)
