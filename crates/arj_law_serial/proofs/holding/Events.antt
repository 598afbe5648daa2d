-- After each event of each run tables show the locks of nodes.
use Rattle.arj_law_parts.proofs.Words
use Words.{parts_in}
use Words.{IsFormed, Start, world_from}
use Words.{◌≡◌, ◌⊎◌, ◌≤◌, ◌∙◌, ◌==◌, ◌&&◌, ◌++◌, ◌+◌, ◌-◌, ℕ, List, [], ◌∷◌, Bool, true, false, cond, length, map, Option, Some, None, refl}
use Words.{sym, ap, subst, inl, inr, ⊎_elim, arith, append_assoc, eqb-true, Contains, ⊤, if◌then◌else◌, is_some, nat_le, nat_lt, not}
use Words.{AllByRecursion, is_eq, nat_cmp, map-append, is_on, nobody, object, entry, uid_eq, in_from, Body, Event, Header, Line}
use Words.{ObjectState, Uid, uids_of, frame_kind, named_back, Disk, Do, Effect, Intent, Pair, Say, Send, AreEntries, rows_in_named, Parts}
use Words.{prepared_actions, at_number, Node, Step, first_reason, naming_at, step, at_place, set_place, Arm, World, armed}
use Words.{bodies, count_works, counted, cut, disarmed, done_step, giving, halted_at, happens, is_node, is_up, is_up_at}
use Words.{lacks_labels, limited, no_labels, numbered, reasons, run_event, run_unless, step_node, step_with, steps, Move}
use Words.{moved, Seen, see, most_frames}
use Words.body
use Words.event
use Words.input
use Rattle.arj_law_serial.proofs.Terms
use Terms.{IsAtStarts, disk_by}
use Terms.{table, Asked, says, Action, act_of, AreOfTops, on_own, IsBegun, all_keys, arms_hold, event_asked, first_asked, place_same}
use Terms.{rows_on, up_of, memory_of, named_locks, AreShown, ShowsLocks}
use Terms.which
use Rattle.arj_law_parts.proofs.moves.Reasons.{first_not, not_not}
use Rattle.arj_law_parts.specs.moves.Keeps.{Holds}
use Rattle.arj_law_runs.proofs.{journal.Paths.first_pathed, kept.Starts.first_at}
use Rattle.arj_law_serial.proofs.holding
use holding.{Keeping.same_shown, Restarts.Restarts, Restarts.restarts, Starts.restart_shows}
use holding.Facts.{are_entries, facts_of, on_path, someone}
use holding.Lines.{Since, halted_table, quiet_table, since_all}
use holding.Running.{Known, Showing, showing_kept}
use holding.Writes.{RestartsOther, Writes, most_starts, none_starts, runs_write}
use Rattle.arj_law_serial.specs.holding.Shown.{TablesShowLocks}
use Rattle.arj_promise.specs.Runs.{AfterMoves}

-- ---- a node that restarts

halted_bodies : (n k : ℕ) (es : List Effect) (b : Body) → bodies n k (es ++ Say b ∷ []) ≡ bodies n k es ++ b ∷ []
halted_bodies n k [] b = refl
halted_bodies n k (Say c ∷ es) b = ap (λ bs. c ∷ bs) (halted_bodies n k es b)
halted_bodies n k (Send to m ∷ es) b = by (nat_le (k + 1) most_frames) (halted_bodies n (k + 1) es b)
  where
    by : (c : Bool) → bodies n (k + 1) (es ++ Say b ∷ []) ≡ bodies n (k + 1) es ++ b ∷ []
        → cond c (body.Sent (k + 1) n to (frame_kind m) ∷ []) [] ++ bodies n (k + 1) (es ++ Say b ∷ [])
        ≡ (cond c (body.Sent (k + 1) n to (frame_kind m) ∷ []) [] ++ bodies n (k + 1) es) ++ b ∷ []
    by true ih = ap (λ bs. body.Sent (k + 1) n to (frame_kind m) ∷ bs) ih
    by false ih = ih
halted_bodies n k (Do w ∷ es) b = halted_bodies n k es b

halted_rows : (n e frames : ℕ) (es : List Effect) (ls : List Line) →
    table n (ls ++ numbered e (bodies n frames (es ++ Say (body.Halted n) ∷ []))) ≡ []
halted_rows n e frames es ls =
    ap (table n) (ap (λ bs. ls ++ numbered e bs) (halted_bodies n frames es (body.Halted n))
    ∙ ap (λ ms. ls ++ ms) (map-append (λ (b : Body). record { event = e; body = b }) (bodies n frames es) (body.Halted n ∷ []))
    ∙ sym (append_assoc ls (numbered e (bodies n frames es)) (numbered e (body.Halted n ∷ []))))
    ∙ halted_table n e (ls ++ numbered e (bodies n frames es))

none_shown : (n : ℕ) (ls : List Line) → table n ls ≡ [] → ShowsLocks n ls None
none_shown n ls none = record { server = λ x. ap (rows_on (object x)) none; naming = λ x one. ap (rows_on (entry x)) none }

module _ (w : World) (n : ℕ) (d : Disk) (there : at_place n w.nodes ≡ Some (record { number = n; disk = d; live = None }))
    (entries : (n == 1) ≡ true →
    AreEntries (let p = d.names in p.held)) (records : AllByRecursion (λ (e : Uid × Intent). uid_eq nobody e.0 ≡ false) d.intents)
    (store : AllByRecursion (λ (u : Uid). uid_eq nobody u ≡ false) (prepared_actions d.store))
    (names : AllByRecursion (λ (u : Uid). uid_eq nobody u ≡ false) (prepared_actions d.names)) where
  abbrev resting : Node
  resting = record { number = n; disk = d; live = None }

  abbrev s : Step
  s = step w.header resting input.Restart

  done :
      ShowsLocks n (w.lines ++ numbered w.event (bodies n (length w.frames) s.outs)) (memory_of (at_place n (set_place n s.after w.nodes)))
  done = subst (λ o. ShowsLocks n (w.lines ++ numbered w.event (bodies n (length w.frames) s.outs)) (memory_of o)) (sym (place_same n
      s.after resting w.nodes there)) (restart_shows w.header n d entries records store names w.event (length w.frames) w.lines)

  stopped : (es : List Effect) (c : Disk) → ShowsLocks n (w.lines ++ numbered w.event (bodies n (length w.frames)
      (es ++ Say (body.Halted n) ∷ []))) (memory_of (at_place n (set_place n (record { number = n; disk = c; live = None }) w.nodes)))
  stopped es c = subst (λ o. ShowsLocks n (w.lines ++ numbered w.event (bodies n (length w.frames) (es ++ Say (body.Halted n) ∷ [])))
      (memory_of o)) (sym (place_same n (record { number = n; disk = c; live = None }) resting w.nodes there))
      (none_shown n (w.lines ++ numbered w.event (bodies n (length w.frames) (es ++ Say (body.Halted n) ∷ [])))
      (halted_rows n w.event (length w.frames) es w.lines))

  restarted : ShowsLocks n (steps n input.Restart w).lines (memory_of (at_place n (steps n input.Restart w).nodes))
  restarted = subst (λ o. ShowsLocks n (step_node n input.Restart w o).lines (memory_of (at_place n (step_node n input.Restart w o).nodes)))
      (sym there) (with_arm (at_number n w.arms))
    where
      until : (m : Arm) (b : Bool) → ShowsLocks n (if b then done_step n s (armed n (record m { works = m.works - count_works s.halting })
          w) else halted_at n resting (cut (m.works - 1) m.how s.halting d) (disarmed n w)).lines
          (memory_of (at_place n (if b then done_step n s (armed n (record m { works = m.works - count_works s.halting }) w) else halted_at
          n resting (cut (m.works - 1) m.how s.halting d) (disarmed n w)).nodes))
      until m true = done
      until m false = stopped (cut (m.works - 1) m.how s.halting d).outs (cut (m.works - 1) m.how s.halting d).disk

      with_arm : (o : Option Arm) →
          ShowsLocks n (step_with n resting s w o).lines (memory_of (at_place n (step_with n resting s w o).nodes))
      with_arm None = done
      with_arm (Some m) = until m (nat_lt (count_works s.halting) m.works)

-- ---- events

-- what is known
abbrev pub Base : Seen → Type 0
Base M = (begun : List Action) × Known begun M

-- it is known, tables show locks, and no node started in an event to come
pub record IsShown (hd : Header) (w : World) : Type 0 where
  pub known : Holds hd Base w
  pub shown : AreShown w
  pub early : (j : ℕ) → up_of j w.lines ≤ w.event

-- a number that comes later
pub later_off : (u e : ℕ) → u ≤ e → (e + 1 == u) ≡ false
later_off u e le = by (e + 1 == u) refl
  where
    by : (b : Bool) → (e + 1 == u) ≡ b → b ≡ false
    by true is = let same = eqb-true (e + 1) u is in absurd (omega (arith, le, same))
    by false is = refl

module _ (hd : Header) (w : World) (h : IsShown hd w) where
  abbrev N : ℕ
  N = w.event + 1

  base : Holds hd Base w
  base = h.known

  -- so much is shown by handlers
  abbrev Handled : World → Type 0
  Handled v = Since N (length w.lines) v.lines → (n : ℕ) → (N == up_of n v.lines) ≡ false →
      ShowsLocks n v.lines (memory_of (at_place n v.nodes))

  abbrev Goal : World → Type 0
  Goal v = AreShown v × ((j : ℕ) → up_of j v.lines ≤ v.event)

  -- lines of this event, by which the node doesn't start
  shown_by : (n : ℕ) (v : World) → Writes n (counted w) v → Handled v → ShowsLocks n v.lines (memory_of (at_place n v.nodes))
  shown_by n v writes handled =
      let lines = writes.lines in
      handled (subst (Since N (length w.lines)) (sym lines) (since_all N writes.said w.lines)) n
      ((λ i. N == up_of n (lines i)) ∙ (λ i. N == none_starts n N writes.said writes.none w.lines i)
      ∙ later_off (up_of n w.lines) w.event (h.early n))

  early_by : (n : ℕ) (v : World) → Writes n (counted w) v → (j : ℕ) → up_of j v.lines ≤ v.event
  early_by n v writes j =
      let le = h.early j in
      subst (λ e. up_of j v.lines ≤ e) (sym writes.same)
      (subst (λ ls. up_of j ls ≤ N) (sym writes.lines) (most_starts j N writes.said w.lines (omega (arith, le))))

  -- ---- a restart

  module _ (n : ℕ) (free : first_reason (reasons (event.Restart n) w) ≡ None) where
    own_node : (a : Node) × (at_place n w.nodes ≡ Some a) × (a.number ≡ n) × (a.live ≡ None)
    own_node =
        let p = first_not 1 (not (is_node n w)) ((3, is_up_at n w) ∷ []) free in
        let q = first_not 3 (is_up_at n w) [] p.1 in
        let node = not_not (is_node n w) p.0 in
        by (at_place n w.nodes) refl (let s = base.stands in
        s.places n (subst (λ (x : Header). (nat_le 1 n && nat_le n x.nodes) ≡ true) s.header node)) q.0
      where
        down : (o : Option Parts) → is_some o ≡ false → o ≡ None
        down None is = refl
        down (Some t) is = absurd (cc is)

        by : (o : Option Node) → at_place n w.nodes ≡ o → is_some o ≡ true → is_up o ≡ false →
            (a : Node) × (at_place n w.nodes ≡ Some a) × (a.number ≡ n) × (a.live ≡ None)
        by None is there off = absurd (cc there)
        by (Some a) is there off = (a, is, (let s = base.stands in s.numbers n a is), down a.live off)

    abbrev its_disk : Disk
    its_disk = let a = own_node.0 in a.disk

    there : at_place n w.nodes ≡ Some (record { number = n; disk = its_disk; live = None })
    there = own_node.1 ∙ (λ i. Some (record { number = own_node.2 i; disk = its_disk; live = own_node.3 i }))

    abbrev node : Node
    node = record { number = n; disk = its_disk; live = None }

    abbrev known : Known base.holds.0 (see base.sent w)
    known = base.holds.1

    one : (u : Uid) (b : Action) → Contains base.holds.0 b → act_of b ≡ u → uid_eq nobody u ≡ false
    one u b i same =
        let good = known.0.1.0 in
        someone u (on_path base.holds.0 good.begun known.1.0.1 b (in_from b base.holds.0 i) u
        (subst (λ (z : Uid). is_on (uids_of b.path) z ≡ true) same (on_own b.path)))

    its_records : AllByRecursion (λ (e : Uid × Intent). uid_eq nobody e.0 ≡ false) its_disk.intents
    its_records = go its_disk.intents (let good = known.0.1.0 in let p = good.places n node there in let q = p.disk in q.tops)
      where
        go : (es : List (Uid × Intent)) → AreOfTops base.holds.0 es → AllByRecursion (λ (e : Uid × Intent). uid_eq nobody e.0 ≡ false) es
        go [] all = tt
        go (e ∷ es) all = (one e.0 all.0.0 all.0.1 all.0.2, go es all.1)

    its_prepared : (p : Pair) → AllByRecursion (λ (e : Uid × List ObjectState). IsBegun base.holds.0 e.0) p.pend →
        AllByRecursion (λ (u : Uid). uid_eq nobody u ≡ false) (prepared_actions p)
    its_prepared p all = all_keys (λ (u : Uid). uid_eq nobody u ≡ false) p.pend (go p.pend all)
      where
        go : (es : List (Uid × List ObjectState)) → AllByRecursion (λ (e : Uid × List ObjectState). IsBegun base.holds.0 e.0) es →
            AllByRecursion (λ (e : Uid × List ObjectState). uid_eq nobody e.0 ≡ false) es
        go [] all = tt
        go (e ∷ es) all = (one e.0 all.0.0 all.0.1 all.0.2, go es all.1)

    its_entries : AreEntries (let p = its_disk.names in p.held)
    its_entries = let u = known.1.1.0 n node there in let p = u.names in
        are_entries (let q = its_disk.names in q.held) p.held (known.1.1.1 n node there)

    -- what its restart leaves
    pub its_restart : Restarts n (counted w) (steps n input.Restart (counted w))
    its_restart = let p = known.1.0.0.nodes n node there in
        restarts (counted w) n its_disk there its_records (its_prepared its_disk.store p.store) (its_prepared its_disk.names p.names)

    itself : ShowsLocks n (steps n input.Restart (counted w)).lines (memory_of (at_place n (steps n input.Restart (counted w)).nodes))
    itself = let p = known.1.0.0.nodes n node there in restarted (counted w) n its_disk there (λ is. its_entries) its_records
        (its_prepared its_disk.store p.store) (its_prepared its_disk.names p.names)

  limited_shown : (n : ℕ) (v : World) → ShowsLocks n v.lines (memory_of (at_place n v.nodes)) →
      ShowsLocks n (limited v).lines (memory_of (at_place n (limited v).nodes))
  limited_shown n v s = by v.full
    where
      by : (b : Bool) → ShowsLocks n (if b then says (body.Limit which.Frames ∷ []) (record v { over = true }) else v).lines
          (memory_of (at_place n (if b then says (body.Limit which.Frames ∷ []) (record v { over = true }) else v).nodes))
      by true = same_shown n v.lines (v.lines ++ numbered v.event (body.Limit which.Frames ∷ [])) (memory_of (at_place n v.nodes))
          (quiet_table n v.event (body.Limit which.Frames ∷ []) refl v.lines) s
      by false = s

  -- it restarts the node, or no node but others
  sorts : (n : ℕ) (e : Event) → ((m : ℕ) × (e ≡ event.Restart m) × (m ≡ n)) ⊎ RestartsOther n e (counted w)
  sorts n (event.Restart m) = by (m == n) refl
    where
      by : (b : Bool) → (m == n) ≡ b →
          ((k : ℕ) × (event.Restart m ≡ event.Restart k) × (k ≡ n)) ⊎ RestartsOther n (event.Restart m) (counted w)
      by true is = inl (m, refl, eqb-true m n is)
      by false is = inr (λ a there. ap (λ k. k == n) (let s = base.stands in s.numbers m a there) ∙ is)
  sorts n (event.Begin l k) = inr tt
  sorts n (event.BeginIn l p) = inr tt
  sorts n (event.Top l p) = inr tt
  sorts n (event.Serial l k) = inr tt
  sorts n (event.Call l x o) = inr tt
  sorts n (event.Include l x k) = inr tt
  sorts n (event.Commit l) = inr tt
  sorts n (event.Abort l) = inr tt
  sorts n (event.GiveUp l) = inr tt
  sorts n (event.Deliver k) = inr tt
  sorts n (event.Lose k) = inr tt
  sorts n (event.Tick k) = inr tt
  sorts n event.Settle = inr tt
  sorts n event.Quiesce = inr tt
  sorts n (event.Crash k) = inr tt
  sorts n (event.Stop k c how) = inr tt
  sorts n (event.Junk k bytes) = inr tt
  sorts n (event.Show x) = inr tt

  -- no node has the number 0
  no_zero : (e : Event) → RestartsOther 0 e (counted w)
  no_zero e = ⊎_elim (λ own. subst (λ (z : Event). RestartsOther 0 z (counted w)) (sym own.1)
      (λ a there. absurd (cc (sym (ap (λ k. at_place k w.nodes) own.2) ∙ there)))) (λ other. other) (sorts 0 e)

  happens_shown : (e : Event) (a : Arm) → first_reason (reasons e w) ≡ None → Handled (limited (happens e a (counted w))) →
      Goal (limited (happens e a (counted w)))
  happens_shown e a free handled = (
    (λ n. ⊎_elim {C = ShowsLocks n X.lines (memory_of (at_place n X.nodes))} (own n)
        (λ other. shown_by n X (runs_write n e a (counted w) other) handled) (sorts n e)),
    early_by 0 X (runs_write 0 e a (counted w) (no_zero e)),
  )
    where
      X : World
      X = limited (happens e a (counted w))

      own : (n : ℕ) → ((m : ℕ) × (e ≡ event.Restart m) × (m ≡ n)) →
          ShowsLocks n (limited (happens e a (counted w))).lines (memory_of (at_place n (limited (happens e a (counted w))).nodes))
      own n (m, is, same) = subst (λ (z : Event). ShowsLocks n (limited (happens z a (counted w))).lines
          (memory_of (at_place n (limited (happens z a (counted w))).nodes))) (sym is)
          (subst (λ k. ShowsLocks k (limited (steps m input.Restart (counted w))).lines
          (memory_of (at_place k (limited (steps m input.Restart (counted w))).nodes))) same
          (limited_shown m (steps m input.Restart (counted w))
          (itself m (subst (λ (z : Event). first_reason (reasons z w) ≡ None) is free))))

  unless_shown : (e : Event) (a : Arm) (r : Option ℕ) → first_reason (reasons e w) ≡ r → Handled (run_unless e a w r) →
      Goal (run_unless e a w r)
  unless_shown e a (Some c) is handled = (
    (λ n. shown_by n (says (body.Refused c ∷ []) (counted w)) (refused n) handled),
    early_by 0 (says (body.Refused c ∷ []) (counted w)) (refused 0),
  )
    where
      refused : (n : ℕ) → Writes n (counted w) (says (body.Refused c ∷ []) (counted w))
      refused n = record { same = refl; said = body.Refused c ∷ []; lines = refl; none = refl }
  unless_shown e a None is handled = by (lacks_labels (giving e w) w) handled
    where
      by : (b : Bool) → Handled (if b then no_labels w else limited (happens e a (counted w))) →
          Goal (if b then no_labels w else limited (happens e a (counted w)))
      by false f = happens_shown e a is f
      by true f = (
        (λ n. same_shown n w.lines (w.lines ++ numbered w.event (body.Limit which.Labels ∷ [])) (memory_of (at_place n w.nodes))
            (quiet_table n w.event (body.Limit which.Labels ∷ []) refl w.lines) (h.shown n)),
        (λ j. most_starts j w.event (body.Limit which.Labels ∷ []) w.lines (h.early j)),
      )

  event_goal : (e : Asked) → Handled (run_event e w) → Goal (run_event e w)
  event_goal e handled = by w.over handled
    where
      by : (b : Bool) → Handled (if b then w else run_unless e.event e.arm w (first_reason (reasons e.event w))) →
          Goal (if b then w else run_unless e.event e.arm w (first_reason (reasons e.event w)))
      by true f = (h.shown, h.early)
      by false f = unless_shown e.event e.arm (first_reason (reasons e.event w)) refl f

  pub event_shown : (e : Asked) → IsShown hd (run_event e w)
  event_shown e =
      let start : Holds hd (Showing hd (length w.lines) N) w = record {
        sent = base.sent;
        stands = base.stands;
        holds = (base.holds.0, base.holds.1, record { long = omega arith; shown = λ since n off. h.shown n });
      } in
      let z = event_asked hd (Showing hd (length w.lines) N) (showing_kept hd (length w.lines) N ⊤ tt) e w start in
      let goal = event_goal e (let s = z.holds.2 in s.shown) in
      record { known = record { sent = z.sent; stands = z.stands; holds = (z.holds.0, z.holds.1) }; shown = goal.0; early = goal.1 }

-- ---- runs

-- which stops are to fall is nothing to it
arms_shown : (hd : Header) (arms : List (ℕ × Arm)) (w : World) → IsShown hd w → IsShown hd (record w { arms = arms })
arms_shown hd arms w h = record { known = arms_hold hd Base arms w h.known; shown = h.shown; early = h.early }

move_shown : (hd : Header) (m : Move) (w : World) → IsShown hd w → IsShown hd (moved m w)
move_shown hd m w h = arms_shown hd [] (run_event m.asked (record w { arms = m.falls }))
    (event_shown hd (record w { arms = m.falls }) (arms_shown hd m.falls w h) m.asked)

all_shown : (hd : Header) (ms : List Move) (w : World) → IsShown hd w → AfterMoves AreShown w ms
all_shown hd [] w h = h.shown
all_shown hd (m ∷ ms) w h = (h.shown, all_shown hd ms (moved m w) (move_shown hd m w h))

-- at first no lock is there
none_at_first : (x : ℕ) (d : Pair) → d.pend ≡ [] → (es : List (Uid × ObjectState)) →
    rows_in_named (at_number x (map (named_back d) es)) ≡ []
none_at_first x d none [] = refl
none_at_first x d none (e ∷ es) =
    (λ i. rows_in_named (at_number x (map (named_back (record d { pend = none i })) (e ∷ es)))) ∙ by (is_eq (nat_cmp x e.0.num))
    (sym (λ i. rows_in_named (at_number x (map (named_back (record d { pend = none i })) es))) ∙ none_at_first x d none es)
  where
    by : (b : Bool) → rows_in_named (at_number x (map (named_back (record d { pend = [] })) es)) ≡ [] → rows_in_named
        (cond b (Some (named_back (record d { pend = [] }) e).1) (at_number x (map (named_back (record d { pend = [] })) es))) ≡ []
    by true ih = refl
    by false ih = ih

first_shown : (hd : Header) (st : Start) → AreShown (world_from hd st)
first_shown hd st n = by (at_place n (world_from hd st).nodes) refl
  where
    named : (x : ℕ) (b : Bool) → named_locks x (cond b (naming_at 1 (st.incs n + 1) (disk_by hd st n).names) None) ≡ []
    named x true = none_at_first x (disk_by hd st n).names refl (disk_by hd st n).names.held
    named x false = refl

    its : (b : Bool) → ShowsLocks n [] (cond b (Some (parts_in n (st.incs n + 1) (disk_by hd st n))) None)
    its true = record { server = λ x. refl; naming = λ x one. sym (named x (n == 1)) }
    its false = record { server = λ x. refl; naming = λ x one. refl }

    by : (o : Option Node) → at_place n (world_from hd st).nodes ≡ o → ShowsLocks n [] (memory_of o)
    by None is = record { server = λ x. refl; naming = λ x one. refl }
    by (Some a) is = subst (λ (z : Node). ShowsLocks n [] z.live) (first_at hd st n a is) (its (st.up n))

-- so it begins
pub first_showing : (hd : Header) (event : ℕ) → IsAtStarts hd (Showing hd 0 event)
first_showing hd event st formed = (
  [],
  (first_pathed hd st formed, (let f = facts_of hd in f.first st formed)),
  record { long = omega arith; shown = λ since n off. first_shown hd st n },
)

pub first_is_shown : (hd : Header) (st : Start) → IsFormed hd st → IsShown hd (world_from hd st)
first_is_shown hd st formed = record {
  known = let z = first_asked hd st (Showing hd 0 0) formed (showing_kept hd 0 0 (IsAtStarts hd (Showing hd 0 0)) (first_showing hd 0)) in
      record { sent = z.sent; stands = z.stands; holds = (z.holds.0, z.holds.1) };
  shown = first_shown hd st;
  early = λ j. omega arith;
}

pub tables_show : TablesShowLocks
tables_show hd r = all_shown hd r.moves (world_from hd r.start) (first_is_shown hd r.start r.formed)
