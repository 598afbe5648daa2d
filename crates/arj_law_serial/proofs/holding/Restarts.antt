-- A restart: its lines are the node's own, call no commit, answer no call and begin no action, and it leaves no lock on an object at the
-- node.
use Rattle.arj_law_parts.proofs.Words
use Words.{◌≡◌, ◌∙◌, ◌==◌, ◌++◌, ◌+◌, ◌-◌, ℕ, zero, suc, List, [], ◌∷◌, Bool, true, false, cond, length, Option, Some, None, refl, sym, ap}
use Words.{subst, append_assoc, eq-eqb, if◌then◌else◌, is_some, nat_le, nat_lt, AllByRecursion, list_all, and_parts, map-append, nobody}
use Words.{uid_eq, Asked, Body, End, Message, Uid, Reply, answers, frame_kind, last_end, recovered_naming, Disk, Do, Effect, Intent, Say}
use Words.{Send, Stop, worked, acked, answer_query, effects_of, effects_of_node, effects_until, rows_in_copy, Naming, Handled, Here, Parts}
use Words.{Ran, Took, Void, ack_told, by_reply, first_done, first_queued, handle, handle_all, handle_ends, is_meant, most_rounds}
use Words.{naming_told, next_round, prepared_actions, ran, ran_handled, rounds, store_told, taken, whole, with_coord, at_number, Node, Step}
use Words.{parts_in, restart_outs, step, at_place, set_place, Arm, World, armed, bodies, count_works, cut, disarmed, done_step, halted_at}
use Words.{halted_outs, limited, numbered, step_node, step_with, steps, place_other, steps_lines, most_frames}
use Words.body
use Words.message
use Words.server
use Words.input
use Rattle.arj_law_serial.proofs.Terms
use Terms.{begun_of, says as says_in, HasNaming, place_same, SayOf, locks_in, memory_of}
use Terms.which
use Rattle.arj_law_disk_view.proofs.running.Lists.{all_append}
use Rattle.arj_law_serial.proofs.holding
use holding.{Fronts.none_told, Lines.itself, Lines.never, Messages.own_lines, Running.restart_of, Says.All, Says.outs_of, Says.says}
use holding.{Sorts.is_of}
use holding.Calling.{NoAnswer, NoCommit, apart_answer, apart_commit, message_commits}
use holding.Telling.{IsTelling, Tells, handled_tells, restart_tells, taken_tells}
use Rattle.arj_law_serial.proofs.whole.CalledSays.{message_fine, restart_fine}

-- the line is of this node alone, calls no commit and answers no call, and no action begins by it
abbrev pub IsMute : ℕ → Body → Type 0
IsMute n b = (is_of n b ≡ true) × NoCommit b × NoAnswer b × (begun_of b ≡ None)

-- what tells, asks or acknowledges is no answer
no_reply : (m : Message) → IsTelling m → (y : Asked × Reply) → answers m ≡ Some y → ⊥
no_reply (message.Told m) is y of = cc of
no_reply (message.Acked m) is y of = cc of
no_reply (message.Query m) is y of = cc of
no_reply m is y of = absurd is

module _ (n : ℕ) where
  abbrev Mute : List Effect → Type 0
  Mute outs = AllByRecursion (SayOf (IsMute n)) outs

  all_mute : (es : List Effect) → All (is_of n) es → AllByRecursion (SayOf NoCommit) es → AllByRecursion (SayOf NoAnswer) es → Tells n es →
      Mute es
  all_mute [] of calls answers tells = tt
  all_mute (Say b ∷ es) of calls answers tells = let q = and_parts (is_of n b) (list_all (says (is_of n)) es) of in
      ((q.0, calls.0, answers.0, tells.0), all_mute es q.1 calls.1 answers.1 tells.1)
  all_mute (Send to m ∷ es) of calls answers tells = (tt, all_mute es of calls.1 answers.1 tells.1)
  all_mute (Do w ∷ es) of calls answers tells = (tt, all_mute es of calls.1 answers.1 tells.1)

  -- naming is at its node, and no object has a copy at the server
  record IsBare (t : Parts) : Type 0 where
    place : HasNaming n t
    none : (x : ℕ) → at_number x (let s = t.server in s.objects) ≡ None

  -- ---- messages to itself

  abbrev FineBy : Handled → Type 0
  FineBy (Void outs) = Mute outs
  FineBy (Took v outs) = Mute outs × IsBare v

  module _ (d : Disk) (t : Parts) (bare : IsBare t) (from : ℕ) where
    took : (m : Message) → IsTelling m → (v : Parts) (outs : List Effect) → handle n d t from m ≡ Took v outs → Mute outs
    took m tells v outs is = all_mute outs (own_lines n d t v bare.place from m outs is) (message_commits n d t v from m outs is)
        (message_fine NoAnswer apart_answer n d t v from m outs is (λ a r q s of found now waits e ends l.
        absurd (no_reply m tells (a, r) of)) (λ a r q c of found now. absurd (no_reply m tells (a, r) of)))
        (subst (λ (h : Handled). Tells n (outs_of h)) is (handled_tells n d t from m tells))

    fine : (m : Message) → IsTelling m → FineBy (handle n d t from m)
    fine (message.Told m) is = told (last_end m.ends) refl
      where
        names : (u : Uid) (e : End) (o : Option Naming) → is_some (naming_told u e d.names o).part ≡ is_some o
        names u e None = refl
        names u e (Some o) = refl

        told : (o : Option (Uid × End)) → last_end m.ends ≡ o → FineBy (handle_ends n d t from m.ack m.ends o)
        told None e = (tt, bare)
        told (Some z) e =
            let o = naming_told z.0 z.1 d.names t.naming in
            let s = server.told n m.ends t.server in (
              took (message.Told m) is (record { server = s.part; naming = o.part; coord = t.coord }) (store_told n z.0 z.1 d.store
                  ++ o.outs ++ s.outs ++ ack_told from z.0 m.ack) (ap (handle_ends n d t from m.ack m.ends) e),
              record { place = names z.0 z.1 t.naming ∙ bare.place; none = λ x. none_told n m.ends t.server x (bare.none x) },
            )
    fine (message.Acked m) is = let r = acked from m.act d.intents t.coord in by r.reply refl
      where
        by : (o : Option (Unit {0})) → (acked from m.act d.intents t.coord).reply ≡ o →
            FineBy (by_reply (with_coord t (acked from m.act d.intents t.coord).part) (acked from m.act d.intents t.coord).outs o)
        by None e = tt
        by (Some u) e =
            let r = acked from m.act d.intents t.coord in (
              took (message.Acked m) is (with_coord t r.part) r.outs (ap (by_reply (with_coord t r.part) r.outs) e),
              record { place = bare.place; none = bare.none },
            )
    fine (message.Query m) is = (took (message.Query m) is t (answer_query from m.act d.intents t.coord) refl, bare)
    fine m is = absurd is

    fine_taken : (m : Message) → IsTelling m → FineBy (taken n d t from m)
    fine_taken m is = by (is_meant t m)
      where
        by : (b : Bool) → FineBy (cond b (handle n d t from m) (Void []))
        by true = fine m is
        by false = tt

  abbrev FineRan : Ran → Type 0
  FineRan r = Mute r.outs × IsBare (let h = r.here in h.parts) × AllByRecursion IsTelling r.queue

  ran_fine : (t : Parts) → IsBare t → (es : List Effect) (d : Disk) → Mute es → Tells n es → FineRan (ran n t es d)
  ran_fine t bare [] d mute tells = (tt, bare, tt)
  ran_fine t bare (Say b ∷ es) d mute tells = let r = ran_fine t bare es d mute.1 tells.1 in ((mute.0, r.0), r.1, r.2)
  ran_fine t bare (Do w ∷ es) d mute tells = let r = ran_fine t bare es (worked w d) mute.1 tells.1 in ((tt, r.0), r.1, r.2)
  ran_fine t bare (Send to m ∷ es) d mute tells = by (to == n) refl (ran_fine t bare es d mute.1 tells.1)
    where
      by : (b : Bool) → (to == n) ≡ b → FineRan (ran n t es d) →
          FineRan (cond b (first_queued m (ran n t es d)) (first_done (Send to m) (ran n t es d)))
      by true is r = (r.0, r.1, (tells.0 is, r.2))
      by false is r = ((tt, r.0), r.1, r.2)

  each_fine : (h : Here) (v : Handled) → IsBare h.parts → FineBy v → Tells n (outs_of v) → FineRan (ran_handled n h v)
  each_fine h (Void outs) bare f tells = ran_fine h.parts bare outs h.disk f tells
  each_fine h (Took t outs) bare f tells = ran_fine t f.1 outs h.disk f.0 tells

  all_fine : (ms : List Message) (h : Here) → AllByRecursion IsTelling ms → IsBare h.parts → FineRan (handle_all n ms h)
  all_fine [] h all bare = (tt, bare, tt)
  all_fine (m ∷ ms) h all bare =
      let v = taken n h.disk h.parts n m in
      let r = ran_handled n h v in
      let one = each_fine h v bare (fine_taken h.disk h.parts bare n m all.0) (taken_tells n h.disk h.parts n m all.0) in
      let two = all_fine ms r.here all.1 one.1 in (
        all_append (SayOf (IsMute n)) r.outs (handle_all n ms r.here).outs one.0 two.0,
        two.1,
        all_append IsTelling r.queue (handle_all n ms r.here).queue one.2 two.2,
      )

  rounds_fine : (k : ℕ) (r : Ran) → FineRan r → FineRan (rounds n k r)
  rounds_fine zero r f = f
  rounds_fine (suc k) r f = by r.queue (rounds_fine k (next_round n r) (next r f))
    where
      next : (r : Ran) → FineRan r → FineRan (next_round n r)
      next r f = let t = all_fine r.queue r.here f.2 f.1 in
          (all_append (SayOf (IsMute n)) r.outs (handle_all n r.queue r.here).outs f.0 t.0, t.1, t.2)

      after : List Message → Ran
      after q = elim q [ [] ↦ r | m ∷ ms ↦ rounds n k (next_round n r) ]

      by : (q : List Message) → FineRan (rounds n k (next_round n r)) → FineRan (after q)
      by [] more = f
      by (m ∷ ms) more = more

  -- ---- up to a stop, and with frames

  cut_mute : (k : ℕ) (how : Stop) (es : List Effect) (d : Disk) → Mute es → Mute (cut k how es d).outs
  cut_mute k how [] d mute = tt
  cut_mute zero how (Do w ∷ es) d mute = tt
  cut_mute (suc k) how (Do w ∷ es) d mute = (tt, cut_mute k how es (worked w d) mute.1)
  cut_mute k how (Say b ∷ es) d mute = (mute.0, cut_mute k how es d mute.1)
  cut_mute k how (Send to m ∷ es) d mute = (tt, cut_mute k how es d mute.1)

  bodies_mute : (from k : ℕ) (es : List Effect) → Mute es → AllByRecursion (IsMute n) (bodies from k es)
  bodies_mute from k [] mute = tt
  bodies_mute from k (Say b ∷ es) mute = (mute.0, bodies_mute from k es mute.1)
  bodies_mute from k (Send to m ∷ es) mute = by (nat_le (k + 1) most_frames) (bodies_mute from (k + 1) es mute.1)
    where
      by : (b : Bool) → AllByRecursion (IsMute n) (bodies from (k + 1) es) →
          AllByRecursion (IsMute n) (cond b (body.Sent (k + 1) from to (frame_kind m) ∷ []) [] ++ bodies from (k + 1) es)
      by true rest = ((refl, refl, refl, refl), rest)
      by false rest = rest
  bodies_mute from k (Do w ∷ es) mute = bodies_mute from k es mute.1

-- ---- a node that restarts

-- What a restart of this node leaves: lines of the node alone, in which no commit is called, no call answered and no action begins, no lock
-- on an object there, where the node was down, and the other nodes as they were.
pub record Restarts (n : ℕ) (w v : World) : Type 0 where
  pub said : List Body
  pub lines : v.lines ≡ w.lines ++ numbered w.event said
  pub mute : AllByRecursion (IsMute n) said
  pub down : memory_of (at_place n w.nodes) ≡ None
  pub gone : (x : ℕ) → locks_in x (memory_of (at_place n v.nodes)) ≡ []
  pub others : (k : ℕ) → (k == n) ≡ false → at_place k v.nodes ≡ at_place k w.nodes

module _ (w : World) (n : ℕ) (d : Disk) (there : at_place n w.nodes ≡ Some (record { number = n; disk = d; live = None }))
    (records : AllByRecursion (λ (e : Uid × Intent). uid_eq nobody e.0 ≡ false) d.intents)
    (store : AllByRecursion (λ (u : Uid). uid_eq nobody u ≡ false) (prepared_actions d.store))
    (names : AllByRecursion (λ (u : Uid). uid_eq nobody u ≡ false) (prepared_actions d.names)) where
  abbrev resting : Node
  resting = record { number = n; disk = d; live = None }

  abbrev s : Step
  s = step w.header resting input.Restart

  bare : IsBare n (parts_in n (d.inc + 1) d)
  bare = record { place = by (n == 1); none = λ x. refl }
    where
      by : (b : Bool) → is_some (cond b (Some (recovered_naming (d.inc + 1) d.names)) None) ≡ b
      by true = refl
      by false = refl

  done : FineRan n (whole n (parts_in n (d.inc + 1) d) (restart_outs w.header n (d.inc + 1) d) d)
  done =
      let outs = restart_outs w.header n (d.inc + 1) d in
      let tells = restart_tells n w.header (d.inc + 1) d records store names in
      let mute = all_mute n outs (restart_of w.header 0 0 n (d.inc + 1) d) (restart_fine NoCommit apart_commit w.header n (d.inc + 1) d)
      (restart_fine NoAnswer apart_answer w.header n (d.inc + 1) d) tells in
      rounds_fine n most_rounds (ran n (parts_in n (d.inc + 1) d) outs d) (ran_fine n (parts_in n (d.inc + 1) d) bare outs d mute tells)

  until_mute : (a : Option Arm) → Mute n (effects_until n resting s a)
  until_mute None = done.0
  until_mute (Some a) = by (nat_lt (count_works s.halting) a.works)
    where
      by : (b : Bool) → Mute n (cond b s.outs (halted_outs n (cut (a.works - 1) a.how s.halting d)))
      by true = done.0
      by false = all_append (SayOf (IsMute n)) (cut (a.works - 1) a.how s.halting d).outs (Say (body.Halted n) ∷ [])
          (cut_mute n (a.works - 1) a.how s.halting d done.0) ((itself n, refl, refl, refl), tt)

  -- the node, and the others
  set_gone : (x : ℕ) (m : Node) → locks_in x m.live ≡ [] → locks_in x (memory_of (at_place n (set_place n m w.nodes))) ≡ []
  set_gone x m gone = ap (λ (o : Option Node). locks_in x (memory_of o)) (place_same n m resting w.nodes there) ∙ gone

  after_gone : (x : ℕ) → locks_in x s.after.live ≡ []
  after_gone x = let b = done.1 in ap rows_in_copy (b.none x)

  with_gone : (x : ℕ) (a : Option Arm) → locks_in x (memory_of (at_place n (step_with n resting s w a).nodes)) ≡ []
  with_gone x None = set_gone x s.after (after_gone x)
  with_gone x (Some a) = by (nat_lt (count_works s.halting) a.works)
    where
      by : (b : Bool) →
          locks_in x (memory_of (at_place n (if b then done_step n s (armed n (record a { works = a.works - count_works s.halting }) w) else
          halted_at n resting (cut (a.works - 1) a.how s.halting d) (disarmed n w)).nodes)) ≡ []
      by true = set_gone x s.after (after_gone x)
      by false = set_gone x (record { number = n; disk = (cut (a.works - 1) a.how s.halting d).disk; live = None }) refl

  with_others : (k : ℕ) → (k == n) ≡ false → (a : Option Arm) → at_place k (step_with n resting s w a).nodes ≡ at_place k w.nodes
  with_others k off None = place_other n k s.after w.nodes (λ same. never (k == n) (eq-eqb k n same) off)
  with_others k off (Some a) = by (nat_lt (count_works s.halting) a.works)
    where
      by : (b : Bool) → at_place k (if b then done_step n s (armed n (record a { works = a.works - count_works s.halting }) w) else
          halted_at n resting (cut (a.works - 1) a.how s.halting d) (disarmed n w)).nodes ≡ at_place k w.nodes
      by true = place_other n k s.after w.nodes (λ same. never (k == n) (eq-eqb k n same) off)
      by false = place_other n k (record { number = n; disk = (cut (a.works - 1) a.how s.halting d).disk; live = None }) w.nodes
          (λ same. never (k == n) (eq-eqb k n same) off)

  pub restarts : Restarts n w (steps n input.Restart w)
  restarts = record {
    said = bodies n (length w.frames) (effects_of n input.Restart w);
    lines = steps_lines n input.Restart w;
    mute = bodies_mute n n (length w.frames) (effects_of n input.Restart w)
        (subst (λ (o : Option Node). Mute n (effects_of_node n input.Restart w o)) (sym there) (until_mute (at_number n w.arms)));
    down = ap memory_of there;
    gone = λ x. subst (λ (o : Option Node). locks_in x (memory_of (at_place n (step_node n input.Restart w o).nodes)) ≡ []) (sym there)
        (with_gone x (at_number n w.arms));
    others = λ k off. subst (λ (o : Option Node). at_place k (step_node n input.Restart w o).nodes ≡ at_place k w.nodes) (sym there)
        (with_others k off (at_number n w.arms));
  }

-- with a frame that didn't fit
pub limited_restarts : (n : ℕ) (w v : World) → v.event ≡ w.event → Restarts n w v → Restarts n w (limited v)
limited_restarts n w v same r = by v.full
  where
    by : (b : Bool) → Restarts n w (if b then says_in (body.Limit which.Frames ∷ []) (record v { over = true }) else v)
    by false = r
    by true = record {
      said = r.said ++ body.Limit which.Frames ∷ [];
      lines = (λ i. r.lines i ++ numbered (same i) (body.Limit which.Frames ∷ []))
          ∙ append_assoc w.lines (numbered w.event r.said) (numbered w.event (body.Limit which.Frames ∷ [])) ∙ ap (λ ls. w.lines ++ ls)
          (sym (map-append (λ (b : Body). record { event = w.event; body = b }) r.said (body.Limit which.Frames ∷ [])));
      mute = all_append (IsMute n) r.said (body.Limit which.Frames ∷ []) r.mute ((refl, refl, refl, refl), tt);
      down = r.down;
      gone = r.gone;
      others = r.others;
    }
