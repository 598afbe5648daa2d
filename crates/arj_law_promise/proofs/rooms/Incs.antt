-- A node's incarnation rises by one at most in each event.
use Rattle.arj_law_parts.proofs.Words
use Rattle.arj_protocol.specs.Step.{does_nothing, restart_step}
use Words.{◌≡◌, ◌≢◌, ◌≤◌, ◌<◌, ◌+◌, ◌-◌, ◌*◌, ◌==◌, ℕ, zero, suc, Bool, true, false, not, cond, List, [], ◌∷◌, ◌++◌, length, map, filter}
use Words.{Option, Some, None, refl, sym, ◌∙◌, ap, subst, arith, ⊤}
use Words.{AllByRecursion, and_parts, list_all, flat_map, option_map, slice_set, nat_lt, ◌||◌}
use Words.{Ask, Asked, Head, Header, Message, ObjectState, Uid, Body, Reply, actor, answers, asks, last_end, object, Kind, Label, Op, Event}
use Words.{End}
use Words.{After, Before, InPart, Already, Disk, Do, Effect, InDoubt, Intent, Look, Old, Prep, Prepare, PutInc, Ready, Say, Send, Stop}
use Words.{Work, Commit, Abort}
use Words.{PutIntent, RemoveIntent, Served, Did, held_at, holder_of, is_prepared, prepare_answer, stopped, worked, in_part}
use Words.{Handled, Here, Parts, Ran, Took, Void, ack_told, by_reply, coord_heard, end_states, handle, handle_all, handle_answer}
use Words.{handle_ask, handle_ends, handle_other}
use Words.{holders, if_naming, is_earlier, is_meant, load_by, load_held, naming_told, next_round, prepare_by, query_about, ran, ran_handled}
use Words.{rounds, most_rounds}
use Words.{sends_answer, serve, served, store_told, taken, whole, with_coord, with_naming, with_server, prepared_actions}
use Words.{Coord, acked, again_all, answer_query, heard, Naming, confirm, back_lines, Named}
use Words.{AreAll, is_coord_effect, is_naming_effect, is_server_effect, acked_own, acts_own, again_own, heard_own, query_own}
use Words.{tolds_again_own}
use Words.{activate_own, bind_own, confirm_own, ends_own, invoke_own, note_own, told_own, vote_own}
use Words.{Input, Node, Step, acts, frame_step, handled_step, hello_to, naming_at, naming_back, node_by, numbers_to, parts_in}
use Words.{recovered_records, refusal, restart_outs, step, step_of, step_unless, step_up}
use Words.{tolds_again, uid_set, without_number, show_outs, coord_did}
use Words.{Arm, Frame, World, Giving, armed, at_number, begins, begins_any, change_frame, count_works, counted, cut, deliver, deliver_frame}
use Words.{disarmed, done_step, giving, halted_at, happens, is_up_at, junk, junk_fits}
use Words.{labels_unless, limited, lose, lose_frame, lowest, node_numbers, quiesce, quiet_line, refused_at, run_event, run_unless}
use Words.{lacks_labels, settle, settle_for, show_all, show_up}
use Words.{set_place, step_node, step_with, steps, tick_all, tick_up, at_place, first_reason, reasons, Move, all_moved, moved, world_by}
use Words.{world_from, Start}
use Words.ask
use Words.body
use Words.ending
use Words.event
use Words.input
use Words.message
use Words.naming
use Words.prepared
use Words.loaded
use Words.role
use Words.server
use Rattle.arj_law_promise.proofs.Terms.{all_append}
use Rattle.arj_law_promise.proofs.rooms.Events.{Rises, moves_rise}
use Rattle.arj_law_promise.specs.rooms.Incs.{IncsHaveNext, IncsRiseByOne, last_inc}
use Rattle.arj_law_runs.proofs.addresses.Lists.{all_placed}
use Rattle.arj_promise.specs.Runs.{most_events}

-- ---- effects

module _ (j : ℕ) where
  -- it puts no greater incarnation than this
  abbrev pub IsUpTo : Effect → Type 0
  IsUpTo (Do (PutInc i)) = i ≤ j
  IsUpTo _ = ⊤

  abbrev pub AreUpTo : List Effect → Type 0
  AreUpTo outs = AllByRecursion IsUpTo outs

  both : (es fs : List Effect) → AreUpTo es → AreUpTo fs → AreUpTo (es ++ fs)
  both es fs a b = all_append IsUpTo es fs a b

  -- effects of a kind that puts none
  of_kind : (test : Effect → Bool) → ((e : Effect) → test e ≡ true → IsUpTo e) → (outs : List Effect) → AreAll test outs → AreUpTo outs
  of_kind test each [] all = tt
  of_kind test each (e ∷ es) all = let p = and_parts (test e) (list_all test es) all in (each e p.0, of_kind test each es p.1)

  naming_up : (outs : List Effect) → AreAll is_naming_effect outs → AreUpTo outs
  naming_up = of_kind is_naming_effect one
    where
      one : (e : Effect) → is_naming_effect e ≡ true → IsUpTo e
      one (Do (PutInc i)) is = absurd (cc is)
      one (Do Look) is = tt
      one (Do (Prepare r u states)) is = tt
      one (Do (Commit r u)) is = tt
      one (Do (Abort r u)) is = tt
      one (Do (PutIntent u i)) is = tt
      one (Do (RemoveIntent u)) is = tt
      one (Say b) is = tt
      one (Send to m) is = tt

  coord_up : (outs : List Effect) → AreAll is_coord_effect outs → AreUpTo outs
  coord_up = of_kind is_coord_effect one
    where
      one : (e : Effect) → is_coord_effect e ≡ true → IsUpTo e
      one (Do (PutInc i)) is = absurd (cc is)
      one (Do Look) is = tt
      one (Do (Prepare r u states)) is = tt
      one (Do (Commit r u)) is = tt
      one (Do (Abort r u)) is = tt
      one (Do (PutIntent u i)) is = tt
      one (Do (RemoveIntent u)) is = tt
      one (Say b) is = tt
      one (Send to m) is = tt

  server_up : (n : ℕ) (outs : List Effect) → AreAll (is_server_effect n) outs → AreUpTo outs
  server_up n = of_kind (is_server_effect n) one
    where
      one : (e : Effect) → is_server_effect n e ≡ true → IsUpTo e
      one (Do w) is = absurd (cc is)
      one (Say b) is = tt
      one (Send to m) is = tt

  sends_up : {A : Type 0} (f : A → Effect) → ((a : A) → IsUpTo (f a)) → (items : List A) → AreUpTo (map f items)
  sends_up f each [] = tt
  sends_up f each (a ∷ rest) = (each a, sends_up f each rest)

  -- ---- what a node makes of a message

  abbrev AllIn : Handled → Type 0
  AllIn (Void outs) = AreUpTo outs
  AllIn (Took t outs) = AreUpTo outs

  module _ (n : ℕ) (d : Disk) (t : Parts) (from : ℕ) where
    answered : (h : Head) (v : Parts) (outs : List Effect) (o : Option Reply) → AreUpTo outs → AllIn (sends_answer from h v outs o)
    answered h v outs None up = tt
    answered h v outs (Some r) up = both outs (Send from (Words.response (Words.asked_by h) r) ∷ []) up (tt, tt)

    with_it : (f : Naming → Handled) (o : Option Naming) → ((z : Naming) → AllIn (f z)) → AllIn (if_naming f o)
    with_it f None each = tt
    with_it f (Some z) each = each z

    asked : (h : Head) (a : Ask) → AllIn (serve n d t from h a)
    asked h (ask.Bind x include avoid) = with_it _ t.naming (λ o. let r = naming.bind h.path x include avoid d.names o in
        answered h (with_naming t r.part) r.outs (option_map Reply.Bound r.reply)
        (naming_up r.outs (bind_own h.path x include avoid d.names o)))
    asked h (ask.Load x) = load (holder_of (object x) d.store)
      where
        held : (s : Option ObjectState) → AllIn (load_held from h t s)
        held None = (tt, tt)
        held (Some s) = (tt, (tt, tt))

        load : (o : Option Uid) → AllIn (load_by x d.store from h t o)
        load (Some u) = (tt, tt)
        load None = held (held_at (object x) d.store)
    asked h (ask.Activate b st) = let r = server.activate n h.path b st t.server in
        answered h (with_server t r.part) r.outs (option_map Reply.Activated r.reply)
        (server_up n r.outs (activate_own n h.path b st t.server))
    asked h (ask.Record x b i g) = with_it _ t.naming (λ o. let r = naming.note h.path x b i g o in
        answered h (with_naming t r.part) r.outs (option_map Reply.Noted r.reply) (naming_up r.outs (note_own h.path x b i g o)))
    asked h (ask.Invoke x b i ends o) = let r = server.invoke n h x b i ends o t.server in
        answered h (with_server t r.part) r.outs (option_map Reply.Invoked r.reply)
        (server_up n r.outs (invoke_own n h x b i ends o t.server))
    asked h (ask.Vote i ties ends) = let r = server.vote n h.path i ties ends t.server in
        answered h (with_server t r.part) r.outs (option_map Reply.Voted r.reply)
        (server_up n r.outs (vote_own n h.path i ties ends t.server))
    asked h (ask.Prepare states) = by (is_prepared (actor h.path) d.store)
      where
        new : (a : Prep) → AllIn (prepare_by n states from h t a)
        new Ready = (tt, (tt, (tt, (tt, tt))))
        new (Already u) = (tt, tt)
        new (Old u v) = (tt, (tt, tt))
        new (InDoubt u holder) = (tt, (tt, tt))

        by : (b : Bool) → AllIn (cond b (sends_answer from h t [] (Some (Reply.Prepared prepared.Yes)))
            (prepare_by n states from h t (prepare_answer (actor h.path) states d.store)))
        by true = (tt, tt)
        by false = new (prepare_answer (actor h.path) states d.store)
    asked h (ask.Confirm grants ex inc) = with_it _ t.naming (λ o. let r = confirm h.path grants ex inc d.names o in
        answered h (with_naming t r.part) r.outs (option_map Reply.Confirmed r.reply)
        (naming_up r.outs (confirm_own h.path grants ex inc d.names o)))

    coord_left : (r : Served Coord (Unit {0})) → AreUpTo r.outs → AllIn (coord_heard t r)
    coord_left r up = by r.reply
      where
        by : (o : Option (Unit {0})) → AllIn (by_reply (with_coord t r.part) r.outs o)
        by None = tt
        by (Some u) = up

    ends_left : (ack : Bool) (ends : List (Uid × End)) (o : Option (Uid × End)) → AllIn (handle_ends n d t from ack ends o)
    ends_left ack ends None = tt
    ends_left ack ends (Some e) = let s = server.told n ends t.server in let o = naming_told e.0 e.1 d.names t.naming in
        both (store_told n e.0 e.1 d.store ++ o.outs ++ s.outs) (ack_told from e.0 ack)
        (both (store_told n e.0 e.1 d.store ++ o.outs) s.outs (both (store_told n e.0 e.1 d.store) o.outs
        (stored (is_prepared e.0 d.store) e.1) (named t.naming)) (server_up n s.outs (ends_own n ends t.server))) (acks ack)
      where
        stored : (b : Bool) (how : End) → AreUpTo (cond b (end_states n e.0 how) [])
        stored false how = tt
        stored true ending.Commit = (tt, (tt, tt))
        stored true ending.Abort = (tt, (tt, tt))

        named : (o : Option Naming) → AreUpTo (naming_told e.0 e.1 d.names o).outs
        named None = tt
        named (Some z) = naming_up (naming.told e.0 e.1 d.names z).outs (told_own e.0 e.1 d.names z)

        acks : (b : Bool) → AreUpTo (ack_told from e.0 b)
        acks true = (tt, tt)
        acks false = tt

    queries : (us : List Uid) → AreUpTo (map query_about us)
    queries us = sends_up query_about (λ u. tt) us

    other : (m : Message) → AllIn (handle_other n d t from m)
    other (message.Told m) = ends_left m.ack m.ends (last_end m.ends)
    other (message.Acked m) = coord_left (acked from m.act d.intents t.coord) (coord_up (acked from m.act d.intents t.coord).outs
        (acked_own from m.act d.intents t.coord))
    other (message.Query m) = coord_up (answer_query from m.act d.intents t.coord) (query_own from m.act d.intents t.coord)
    other (message.Hello m) = queries (filter (is_earlier m.node m.inc) (holders d t))
    other m = tt

    handled_up : (m : Message) → AllIn (handle n d t from m)
    handled_up m = by (asks m)
      where
        heard_or : (a : Option (Asked × Reply)) → AllIn (handle_answer n d t from m a)
        heard_or None = other m
        heard_or (Some a) = coord_left (heard from a.0 a.1 d.intents t.coord) (coord_up (heard from a.0 a.1 d.intents t.coord).outs
            (heard_own from a.0 a.1 d.intents t.coord))

        by : (o : Option (Head × Ask)) → AllIn (handle_ask n d t from m o)
        by None = heard_or (answers m)
        by (Some a) = asked a.0 a.1

    taken_up : (m : Message) → AllIn (taken n d t from m)
    taken_up m = by (is_meant t m)
      where
        by : (b : Bool) → AllIn (cond b (handle n d t from m) (Void []))
        by true = handled_up m
        by false = tt

  -- ---- work

  worked_up : (w : Work) (d : Disk) → IsUpTo (Do w) → d.inc ≤ j → (worked w d).inc ≤ j
  worked_up Look d up le = le
  worked_up (PutInc i) d up le = up
  worked_up (Prepare role.Store u states) d up le = le
  worked_up (Prepare role.Names u states) d up le = le
  worked_up (Commit role.Store u) d up le = le
  worked_up (Commit role.Names u) d up le = le
  worked_up (Abort role.Store u) d up le = le
  worked_up (Abort role.Names u) d up le = le
  worked_up (PutIntent u i) d up le = le
  worked_up (RemoveIntent u) d up le = le

  part_up : (which : Uid → Bool) (w : Work) (d : Disk) → d.inc ≤ j → (in_part which w d).inc ≤ j
  part_up which (Commit role.Store u) d le = le
  part_up which (Commit role.Names u) d le = le
  part_up which Look d le = le
  part_up which (PutInc i) d le = le
  part_up which (Prepare r u states) d le = le
  part_up which (Abort r u) d le = le
  part_up which (PutIntent u i) d le = le
  part_up which (RemoveIntent u) d le = le

  stopped_up : (how : Stop) (w : Work) (d : Disk) → IsUpTo (Do w) → d.inc ≤ j → (stopped how w d).inc ≤ j
  stopped_up Before w d up le = le
  stopped_up After w d up le = worked_up w d up le
  stopped_up (InPart which) w d up le = part_up which w d le

  cut_up : (k : ℕ) (how : Stop) (outs : List Effect) (d : Disk) → AreUpTo outs → d.inc ≤ j → (cut k how outs d).disk.inc ≤ j
  cut_up k how [] d up le = le
  cut_up zero how (Do w ∷ es) d up le = stopped_up how w d up.0 le
  cut_up (suc k) how (Do w ∷ es) d up le = cut_up k how es (worked w d) up.1 (worked_up w d up.0 le)
  cut_up k how (Say b ∷ es) d up le = cut_up k how es d up.1 le
  cut_up k how (Send to m ∷ es) d up le = cut_up k how es d up.1 le

  -- ---- rounds

  abbrev RanUp : Ran → Type 0
  RanUp r = (r.here.disk.inc ≤ j) × AreUpTo r.outs

  ran_up : (n : ℕ) (t : Parts) (outs : List Effect) (d : Disk) → AreUpTo outs → d.inc ≤ j → RanUp (ran n t outs d)
  ran_up n t [] d up le = (le, tt)
  ran_up n t (Say b ∷ es) d up le = let r = ran_up n t es d up.1 le in (r.0, (tt, r.1))
  ran_up n t (Do w ∷ es) d up le = let r = ran_up n t es (worked w d) up.1 (worked_up w d up.0 le) in (r.0, (up.0, r.1))
  ran_up n t (Send to m ∷ es) d up le = by (to == n) (ran_up n t es d up.1 le)
    where
      by : (b : Bool) → RanUp (ran n t es d) → RanUp (cond b (Words.first_queued m (ran n t es d))
          (Words.first_done (Send to m) (ran n t es d)))
      by true r = r
      by false r = (r.0, (tt, r.1))

  handled_ran : (n : ℕ) (h : Here) (o : Handled) → AllIn o → h.disk.inc ≤ j → RanUp (ran_handled n h o)
  handled_ran n h (Void outs) up le = ran_up n h.parts outs h.disk up le
  handled_ran n h (Took t outs) up le = ran_up n t outs h.disk up le

  all_ran : (n : ℕ) (ms : List Message) (h : Here) → h.disk.inc ≤ j → RanUp (handle_all n ms h)
  all_ran n [] h le = (le, tt)
  all_ran n (m ∷ ms) h le =
      let r = handled_ran n h (taken n h.disk h.parts n m) (taken_up n h.disk h.parts n m) le in
      let q = ran_handled n h (taken n h.disk h.parts n m) in
      let t = all_ran n ms q.here r.0 in
      (t.0, both q.outs (handle_all n ms q.here).outs r.1 t.1)

  rounds_up : (n k : ℕ) (r : Ran) → RanUp r → RanUp (rounds n k r)
  rounds_up n zero r up = up
  rounds_up n (suc k) r up = by r.queue (rounds_up n k)
    where
      by : (q : List Message) → ((s : Ran) → RanUp s → RanUp (rounds n k s)) → RanUp
          (elim q [ [] ↦ r | m ∷ ms ↦ rounds n k (next_round n r) ])
      by [] ih = up
      by (m ∷ ms) ih = ih (next_round n r) (let t = all_ran n r.queue r.here up.0 in
          (t.0, both r.outs (handle_all n r.queue r.here).outs up.1 t.1))

  whole_up : (n : ℕ) (t : Parts) (outs : List Effect) (d : Disk) → AreUpTo outs → d.inc ≤ j → RanUp (whole n t outs d)
  whole_up n t outs d up le = rounds_up n most_rounds (ran n t outs d) (ran_up n t outs d up le)

  -- ---- steps

  -- a step leaves no greater incarnation, whether it goes through or stops
  pub record StepUp (n : Node) (s : Step) : Type 0 where
    pub number : s.after.number ≡ n.number
    pub after : s.after.disk.inc ≤ j
    pub halting : AreUpTo s.halting

  node_up : (n : Node) (before : List Effect) (t : Parts) (outs : List Effect) → AreUpTo before → AreUpTo outs → n.disk.inc ≤ j →
      StepUp n (Words.node_did n before t outs)
  node_up n before t outs b up le = let r = whole_up n.number t outs n.disk up le in
      record { number = refl; after = r.0; halting = both before (whole n.number t outs n.disk).outs b r.1 }

  frame_up : (k from : ℕ) (n : Node) (t : Parts) (m : Option Message) → n.disk.inc ≤ j → StepUp n (frame_step k from n t m)
  frame_up k from n t None le = record { number = refl; after = le; halting = (tt, tt) }
  frame_up k from n t (Some m) le = by (taken n.number n.disk t from m) (taken_up n.number n.disk t from m)
    where
      by : (o : Handled) → AllIn o → StepUp n (handled_step k n o)
      by (Void outs) up = record { number = refl; after = le; halting = (tt, up) }
      by (Took v outs) up = node_up n (Say (body.Got k) ∷ []) v outs (tt, tt) up le

  shows_up : (n x : ℕ) (d : Disk) → AreUpTo (show_outs n x d)
  shows_up n x d = both (Words.show_entry n x d.names) (Words.shown (Words.copy_line n x) (object x) d.store (holder_of (object x) d.store))
      (entry (n == 1)) (one (Words.copy_line n x) (λ o. copy o) (object x) d.store (holder_of (object x) d.store))
    where
      copy : (o : Option ObjectState) → AreUpTo (Words.copy_line n x o)
      copy None = tt
      copy (Some s) = (tt, tt)

      entry_said : (o : Option ObjectState) → AreUpTo (Words.entry_line x o)
      entry_said None = tt
      entry_said (Some s) = (tt, tt)

      one : (line : Option ObjectState → List Effect) → ((o : Option ObjectState) → AreUpTo (line o)) → (u : Uid) (p : _) (o : Option Uid) →
          AreUpTo (Words.shown line u p o)
      one line each u p None = (tt, each (held_at u p))
      one line each u p (Some holder) = tt

      entry : (b : Bool) → AreUpTo (cond b (Words.shown (Words.entry_line x) (Words.entry x) d.names (holder_of (Words.entry x) d.names))
          [])
      entry true = one (Words.entry_line x) (λ o. entry_said o) (Words.entry x) d.names (holder_of (Words.entry x) d.names)
      entry false = tt

  did_up : (i : Input) (n : Node) (t : Parts) → n.disk.inc ≤ j → StepUp n (coord_did n t (acts i n.disk.intents t.coord))
  did_up i n t le = let d = acts i n.disk.intents t.coord in node_up n [] (with_coord t d.part) d.outs tt
      (coord_up d.outs (acts_own i n.disk.intents t.coord)) le

  up_step : (i : Input) (n : Node) (t : Parts) → n.disk.inc ≤ j → StepUp n (step_up i n t)
  up_step (input.Frame k from m) n t le = frame_up k from n t m le
  up_step input.Tick n t le = let d = again_all t.coord.doings t.coord in
      node_up n [] (with_coord t d.part) (d.outs ++ tolds_again t.coord.telling ++ map query_about (holders n.disk t)) tt
      (both (d.outs ++ tolds_again t.coord.telling) (map query_about (holders n.disk t)) (both d.outs (tolds_again t.coord.telling)
      (coord_up d.outs (again_own t.coord.doings t.coord)) (coord_up (tolds_again t.coord.telling) (tolds_again_own t.coord.telling)))
      (sends_up query_about (λ u. tt) (holders n.disk t))) le
  up_step input.Restart n t le = record { number = refl; after = le; halting = tt }
  up_step input.Crash n t le = record { number = refl; after = le; halting = (tt, tt) }
  up_step (input.Show x) n t le = record { number = refl; after = le; halting = shows_up n.number x n.disk }
  up_step (input.Begin l k p) n t le = did_up (input.Begin l k p) n t le
  up_step (input.Call l x o) n t le = did_up (input.Call l x o) n t le
  up_step (input.Include l x s) n t le = did_up (input.Include l x s) n t le
  up_step (input.Commit l) n t le = did_up (input.Commit l) n t le
  up_step (input.Abort l) n t le = did_up (input.Abort l) n t le
  up_step (input.GiveUp l) n t le = did_up (input.GiveUp l) n t le

  restarted_up : (hd : Header) (n : Node) → n.disk.inc + 1 ≤ j → StepUp n (restart_step hd n)
  restarted_up hd n le = node_up n [] (parts_in n.number (n.disk.inc + 1) n.disk) (restart_outs hd n.number (n.disk.inc + 1) n.disk) tt
      outs_up (under n.disk.inc le)
    where
      under : (i : ℕ) → i + 1 ≤ j → i ≤ j
      under i is = omega (arith, is)

      one : List Effect
      one = Do Look ∷ Do (PutInc (n.disk.inc + 1)) ∷ Say (body.Up n.number (n.disk.inc + 1)) ∷ Do Look
          ∷ naming_back (naming_at n.number (n.disk.inc + 1) n.disk.names)

      two : List Effect
      two = Do Look ∷ recovered_records n.number n.disk.intents

      asking : List Effect
      asking = map query_about (uid_set (prepared_actions n.disk.store ++ prepared_actions n.disk.names))

      rows_up : (o : Named) → AreUpTo (back_lines o)
      rows_up o = sends_up _ (λ r. tt) o.rows

      flat_up : (es : List (ℕ × Named)) → AreUpTo (flat_map (λ (e : ℕ × Named). back_lines e.1) es)
      flat_up [] = tt
      flat_up (e ∷ es) = both (back_lines e.1) (flat_map (λ (z : ℕ × Named). back_lines z.1) es) (rows_up e.1) (flat_up es)

      back : (o : Option Naming) → AreUpTo (naming_back o)
      back None = tt
      back (Some o) = flat_up o.objects

      outs_up : AreUpTo (restart_outs hd n.number (n.disk.inc + 1) n.disk)
      outs_up = both (one ++ two ++ tolds_again n.disk.intents ++ asking) (map (hello_to n.number (n.disk.inc + 1))
          (without_number n.number (numbers_to hd.nodes)))
          (both (one ++ two ++ tolds_again n.disk.intents) asking (both (one ++ two) (tolds_again n.disk.intents) (both one two
          (tt, (le, (tt, (tt, back (naming_at n.number (n.disk.inc + 1) n.disk.names)))))
          (tt, sends_up (λ (e : Uid × Intent). Say (body.Recovered n.number e.0)) (λ e. tt) n.disk.intents))
          (coord_up (tolds_again n.disk.intents) (tolds_again_own n.disk.intents)))
          (sends_up query_about (λ u. tt) (uid_set (prepared_actions n.disk.store ++ prepared_actions n.disk.names))))
          (sends_up (hello_to n.number (n.disk.inc + 1)) (λ m. tt) (without_number n.number (numbers_to hd.nodes)))

  -- an input but a restart leaves it as it is
  abbrev pub Allows : Input → Node → Type 0
  Allows input.Restart n = n.disk.inc + 1 ≤ j
  Allows i n = n.disk.inc ≤ j

  allowed : (i : Input) (n : Node) → Allows i n → n.disk.inc ≤ j
  allowed input.Restart n le = under n.disk.inc le
    where
      under : (i : ℕ) → i + 1 ≤ j → i ≤ j
      under i is = omega (arith, is)
  allowed input.Tick n le = le
  allowed input.Crash n le = le
  allowed (input.Show x) n le = le
  allowed (input.Frame k from m) n le = le
  allowed (input.Begin l k p) n le = le
  allowed (input.Call l x o) n le = le
  allowed (input.Include l x s) n le = le
  allowed (input.Commit l) n le = le
  allowed (input.Abort l) n le = le
  allowed (input.GiveUp l) n le = le

  still_up : (n : Node) → n.disk.inc ≤ j → StepUp n (does_nothing n)
  still_up n le = record { number = refl; after = le; halting = tt }

  pub any_step : (hd : Header) (i : Input) (n : Node) → Allows i n → StepUp n (step hd n i)
  any_step hd i n may = by (refusal hd i n)
    where
      down : (i : Input) → Allows i n → StepUp n (Words.step_down hd i n)
      down input.Restart may = restarted_up hd n may
      down (input.Frame k from m) may = record { number = refl; after = may; halting = (tt, tt) }
      down input.Tick may = still_up n may
      down input.Crash may = still_up n may
      down (input.Show x) may = still_up n may
      down (input.Begin l k p) may = still_up n may
      down (input.Call l x o) may = still_up n may
      down (input.Include l x s) may = still_up n may
      down (input.Commit l) may = still_up n may
      down (input.Abort l) may = still_up n may
      down (input.GiveUp l) may = still_up n may

      at : (o : Option Parts) → StepUp n (step_of hd i n o)
      at None = down i may
      at (Some t) = up_step i n t (allowed i n may)

      by : (o : Option ℕ) → StepUp n (step_unless hd i n o)
      by (Some c) = record { number = refl; after = allowed i n may; halting = (tt, tt) }
      by None = at n.live

-- ---- in every run

-- a restart costs one
abbrev cost : Input → ℕ
cost input.Restart = 1
cost i = 0

module _ (first : ℕ → ℕ) where
  -- the incarnation has risen by so much at most
  abbrev Rose : ℕ → Node → Type 0
  Rose c n = n.disk.inc ≤ first n.number + c

  plain_allows : (i f c : ℕ) → i ≤ f + c → i ≤ f + (c + 0)
  plain_allows i f c is = omega (arith, is)

  allows : (c : ℕ) (i : Input) (n : Node) → Rose c n → Allows (first n.number + (c + cost i)) i n
  allows c input.Restart n le = next n.disk.inc (first n.number) le
    where
      next : (i f : ℕ) → i ≤ f + c → i + 1 ≤ f + (c + 1)
      next i f is = omega (arith, is)
  allows c input.Tick n le = plain_allows n.disk.inc (first n.number) c le
  allows c input.Crash n le = plain_allows n.disk.inc (first n.number) c le
  allows c (input.Show x) n le = plain_allows n.disk.inc (first n.number) c le
  allows c (input.Frame k from m) n le = plain_allows n.disk.inc (first n.number) c le
  allows c (input.Begin l k p) n le = plain_allows n.disk.inc (first n.number) c le
  allows c (input.Call l x o) n le = plain_allows n.disk.inc (first n.number) c le
  allows c (input.Include l x s) n le = plain_allows n.disk.inc (first n.number) c le
  allows c (input.Commit l) n le = plain_allows n.disk.inc (first n.number) c le
  allows c (input.Abort l) n le = plain_allows n.disk.inc (first n.number) c le
  allows c (input.GiveUp l) n le = plain_allows n.disk.inc (first n.number) c le

  stepped : (c : ℕ) (hd : Header) (i : Input) (n : Node) → Rose c n → StepUp (first n.number + (c + cost i)) n (step hd n i)
  stepped c hd i n le = any_step (first n.number + (c + cost i)) hd i n (allows c i n le)

  rises : Rises Rose cost 1
  rises = record {
    more = λ c k n le its. wider n.disk.inc (first n.number) c k le its;
    steps = λ c hd i n le. let up = stepped c hd i n le in
        subst (λ m. (step hd n i).after.disk.inc ≤ first m + (c + cost i)) (sym up.number) up.after;
    stops = λ c hd i n k how le. let up = stepped c hd i n le in cut_up (first n.number + (c + cost i)) k how (step hd n i).halting n.disk
        up.halting
        (allowed (first n.number + (c + cost i)) i n (allows c i n le));
    few = few;
    frames = λ k from m. refl;
    ticks = refl;
    shows = λ x. refl;
  }
    where
      wider : (i f c k : ℕ) → c ≤ k → i ≤ f + c → i ≤ f + k
      wider i f c k le is = omega (arith, le, is)

      few : (i : Input) → cost i ≤ 1
      few input.Restart = omega arith
      few input.Tick = omega arith
      few input.Crash = omega arith
      few (input.Show x) = omega arith
      few (input.Frame k from m) = omega arith
      few (input.Begin l k p) = omega arith
      few (input.Call l x o) = omega arith
      few (input.Include l x s) = omega arith
      few (input.Commit l) = omega arith
      few (input.Abort l) = omega arith
      few (input.GiveUp l) = omega arith

  firsts : (hd : Header) (st : Start) (ns : List ℕ) → ((n : ℕ) → st.incs n + 1 ≡ first n) → AllByRecursion (Rose 0) (map (node_by hd st) ns)
  firsts hd st [] same = tt
  firsts hd st (n ∷ ns) same = (one (st.incs n + 1) (first n) (same n), firsts hd st ns same)
    where
      one : (a b : ℕ) → a ≡ b → a ≤ b + 0
      one a b is = omega (arith, is)

pub incs_rise : IncsRiseByOne
incs_rise hd r k n there = le n.disk.inc (r.start.incs n.number + 1) (length r.moves)
    (all_placed (Rose first (0 + 1 * length r.moves)) k (world_by hd r).nodes n
    (moves_rise (Rose first) cost 1 (rises first) 0 r.moves (world_from hd r.start)
    (firsts first hd r.start (numbers_to hd.nodes) (λ m. refl))) there)
  where
    first : ℕ → ℕ
    first m = r.start.incs m + 1

    le : (i f l : ℕ) → i ≤ f + (0 + 1 * l) → i ≤ f + l
    le i f l is = omega (arith, is)

pub incs_next : IncsHaveNext
incs_next hd r k n few low there = below n.disk.inc (r.start.incs n.number + 1) (length r.moves) (incs_rise hd r k n there) few low
  where
    below : (i f l : ℕ) → i ≤ f + l → l ≤ most_events → f + most_events < last_inc → i < last_inc
    below i f l is few low = omega (arith, is, few, low)
