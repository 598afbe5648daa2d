-- The steps of a node, input by input: each keeps the relation, done to the end or stopped.
use Rattle.arj_law_parts.proofs.Words
use Words.{◌≡◌, ◌∙◌, ℕ, ◌+◌, Bool, true, false, List, [], ◌∷◌, refl, sym, ap, subst, Option, Some, None, ◌==◌, IfSome, ⊤, if◌then◌else◌}
use Words.{list_all, and_parts, Event, Header, Label, Kind, Message, ObjectState, Uid, object, entry, Disk, Pair, Effect, Say, Send, Do}
use Words.{Look}
use Words.{Prepare, Stop, Before, After, InPart, stopped, holder_of, held_at, again_all, begin_action, tick_outs, Parts, Handled, Void}
use Words.{Took, taken, whole, with_coord, AreAll, Node, Input, Step, step, step_up, step_down, step_unless, refusal_at, frame_step}
use Words.{handled_step, void_step, node_did, coord_did, restart_outs, parts_in, show_outs, show_entry, shown, entry_line, copy_line}
use Words.{only_says, acts, parent_of, Labelled, all_both, taken_took, is_serial}
use Words.body
use Words.event
use Words.input
use Rattle.arj_law_parts.proofs.Terms.{In, MayGive, label_at}
use Rattle.arj_law_parts.proofs.moves
use moves.Flat.{Flat, Behind, within_same, flat_to}
use moves.Others.{SendOthers, restart_others}
use moves.Rounds.{AreLooks, LooksAlone, taken_looks, taken_meant, whole_ended, Ended}
use Rattle.arj_law_parts.specs.moves.Keeps.{AsksNode, is_act}
use Rattle.arj_law_parts.specs.moves.Moments.{Moment, asks_now, at, down, given, halted, is_restart, said, taken_by, up}
use Rattle.arj_law_parts.specs.moves.Moments.{with_node}
use Rattle.arj_law_parts.specs.moves.With.{Brings, IsFirst, KeepsSteps, UpWith, WalksWith, is_plain_line}
use Rattle.arj_protocol.specs.Step.{show_step, does_nothing, crash_step}

-- looks at the disk, and lines at which no view looks
abbrev is_still : Effect → Bool
is_still (Do Look) = true
is_still (Say b) = is_plain_line b
is_still _ = false

looks_still : (outs : List Effect) → AreLooks outs → AreAll is_still outs
looks_still [] h = refl
looks_still (Do Look ∷ es) h = looks_still es h
looks_still (Say b ∷ es) h = absurd (cc h)
looks_still (Send to m ∷ es) h = absurd (cc h)
looks_still (Do w ∷ es) h = absurd (cc h)

shown_still : (line : Option ObjectState → List Effect) → ((s : Option ObjectState) → AreAll is_still (line s)) →
    (u : Uid) (d : Pair) (o : Option Uid) → AreAll is_still (shown line u d o)
shown_still line each u d None = each (held_at u d)
shown_still line each u d (Some holder) = refl

show_still : (k x : ℕ) (d : Disk) → AreAll is_still (show_outs k x d)
show_still k x d = all_both is_still (show_entry k x d.names) (shown (copy_line k x) (object x) d.store (holder_of (object x) d.store))
    (by (k == 1)) (shown_still (copy_line k x) copies (object x) d.store (holder_of (object x) d.store))
  where
    copies : (s : Option ObjectState) → AreAll is_still (copy_line k x s)
    copies None = refl
    copies (Some s) = refl

    entries : (s : Option ObjectState) → AreAll is_still (entry_line x s)
    entries None = refl
    entries (Some s) = refl

    by : (b : Bool) → AreAll is_still (if b then shown (entry_line x) (entry x) d.names (holder_of (entry x) d.names) else [])
    by true = shown_still (entry_line x) entries (entry x) d.names (holder_of (entry x) d.names)
    by false = refl

module _ (hd : Header) (P : Moment → Type 0) (keeps : KeepsSteps hd P) (k : ℕ) where
  -- the relation holds after the step, and where a stop falls into it; the node keeps its number
  abbrev pub Goes : Disk → Step → Moment → Type 0
  Goes d s M =
      Flat P k s.outs (λ c N. P (with_node k s.after N)) d M × Flat P k s.halting (λ c N. P (halted k c N)) d M × (s.after.number ≡ k)

  still_flat : (outs : List Effect) (d : Disk) (live : Option Parts) (M : Moment) → AreAll is_still outs → P (at k d live M) →
      Flat P k outs (λ c N. (c ≡ d) × P (at k d live N)) d M
  still_flat [] d live M still h = (M.seen.sent, within_same M.seen.sent, (refl, h))
  still_flat (Do Look ∷ es) d live M still h = (stops, still_flat es d live M still h)
    where
      stops : (how : Stop) → Behind (λ N. P (halted k (stopped how Look d) N)) M
      stops Before = (M.seen.sent, within_same M.seen.sent, keeps.stop k d live M h)
      stops After = (M.seen.sent, within_same M.seen.sent, keeps.stop k d live M h)
      stops (InPart which) = (M.seen.sent, within_same M.seen.sent, keeps.stop k d live M h)
  still_flat (Say b ∷ es) d live M still h =
      let parts = and_parts (is_plain_line b) (list_all is_still es) still in
      still_flat es d live (said (b ∷ []) M) parts.1 (keeps.quiet (b ∷ []) (at k d live M) (rw parts.0 refl) h)
  still_flat (Send to m ∷ es) d live M still h = absurd (cc still)
  still_flat (Do (Prepare r u states) ∷ es) d live M still h = absurd (cc still)
  still_flat (Do w ∷ es) d live M still h = absurd (cc still)

  -- a step that leaves the node as it is
  still_goes : (s : Step) (d : Disk) (live : Option Parts) (M : Moment) → s.after ≡ record { number = k; disk = d; live = live } →
      AreAll is_still s.outs → AreAll is_still s.halting → P (at k d live M) → Goes d s M
  still_goes s d live M same outs halting h = (
    flat_to P k s.outs (λ c N. (c ≡ d) × P (at k d live N)) (λ c N. P (with_node k s.after N)) d M
        (λ c N f. subst (λ n. P (with_node k n N)) (sym same) f.1) (still_flat s.outs d live M outs h),
    flat_to P k s.halting (λ c N. (c ≡ d) × P (at k d live N)) (λ c N. P (halted k c N)) d M
        (λ c N f. subst (λ x. P (halted k x N)) (sym f.0) (keeps.stop k d live N f.1)) (still_flat s.halting d live M halting h),
    ap (λ (n : Node). n.number) same,
  )

  void_goes : (f : ℕ) (outs : List Effect) (d : Disk) (live : Option Parts) (M : Moment) → AreLooks outs → P (at k d live M) →
      Goes d (void_step f (record { number = k; disk = d; live = live }) outs) M
  void_goes f outs d live M looks h = still_goes (void_step f (record { number = k; disk = d; live = live }) outs) d live M refl
      (all_both is_still outs (Say (body.Void f) ∷ []) (looks_still outs looks) refl) (looks_still outs looks) h

  -- in an event that restarts no node
  not_restarting : {A : Type 0} (e : Event) → is_restart e ≡ false → is_restart e ≡ true → A
  not_restarting e other is = let no_way : true ≡ false = sym is ∙ other in absurd (cc no_way)

  -- a step that a handler walks through
  did_goes : (live : Option Parts) (v : Parts) (outs : List Effect) (d : Disk) (M : Moment) →
      (is_restart M.past.event ≡ true → SendOthers outs) → WalksWith P k outs (UpWith P k v) d M →
      Goes d (node_did (record { number = k; disk = d; live = live }) [] v outs) M
  did_goes live v outs d M may w =
      let r = whole k v outs d in
      let f = whole_ended hd P keeps k v outs d M may w in (
        flat_to P k r.outs (Ended hd P keeps k r) (λ c N. P (up k r.here.disk r.here.parts N)) d M
            (λ c N g. subst (λ x. P (up k x r.here.parts N)) g.0 g.2) f,
        flat_to P k r.outs (Ended hd P keeps k r) (λ c N. P (halted k c N)) d M (λ c N g. keeps.stop k c (Some r.here.parts) N g.2)
            f,
        refl,
      )

  got_goes : (f : ℕ) (live : Option Parts) (v : Parts) (outs : List Effect) (d : Disk) (M : Moment) → is_restart M.past.event ≡ false →
      WalksWith P k outs (UpWith P k v) d
      (said (body.Got f ∷ []) M) → Goes d (node_did (record { number = k; disk = d; live = live }) (Say (body.Got f) ∷ []) v outs) M
  got_goes f live v outs d M other w = did_goes live v outs d (said (body.Got f ∷ []) M) (not_restarting M.past.event other) w

  frame_goes : (f from : ℕ) (m : Option Message) (d : Disk) (t : Parts) (M : Moment) →
      IfSome m (λ x. In (record { from = from; to = k; message = x }) M.seen.sent) → is_restart M.past.event ≡ false → P (up k d t M)
      → Goes d (frame_step f from (record { number = k; disk = d; live = Some t }) t m) M
  frame_goes f from None d t M sent other h = void_goes f [] d (Some t) M refl h
  frame_goes f from (Some m) d t M sent other h = by (taken k d t from m) (taken_looks k d t from m) refl
    where
      got : P (up k d t (said (body.Got f ∷ []) M))
      got = keeps.quiet (body.Got f ∷ []) (up k d t M) refl h

      by : (a : Handled) → LooksAlone a → taken k d t from m ≡ a →
          Goes d (handled_step f (record { number = k; disk = d; live = Some t }) a) M
      by (Void outs) looks is = void_goes f outs d (Some t) M looks h
      by (Took v outs) looks is = got_goes f (Some t) v outs d M other
          (keeps.message k d t v from m outs (said (body.Got f ∷ []) M) got sent
          (taken_meant k d t v from m outs is) (not_restarting M.past.event other) (taken_took k d t v from m outs is))

  crash_goes : (d : Disk) (t : Parts) (M : Moment) → P (up k d t M) → Goes d (crash_step (record { number = k; disk = d; live = Some t })) M
  crash_goes d t M h =
      let once : P (halted k d M) = keeps.stop k d (Some t) M h in (
        (M.seen.sent, within_same M.seen.sent, once),
        (
          M.seen.sent,
          within_same M.seen.sent,
          keeps.stop k d None
              (said (body.Halted k ∷ []) M) once,
        ),
        refl,
      )

  -- what an input rests on: a frame's message was sent, the event restarts the node or none, and it brings what is asked of an action,
  -- before it has a line
  abbrev pub MayCome : Input → Moment → Type 0
  MayCome (input.Frame f from m) M =
      IfSome m (λ x. In (record { from = from; to = k; message = x }) M.seen.sent) × (is_restart M.past.event ≡ false)
  MayCome (input.Begin l how parent) M = ⊥
  MayCome input.Tick M = is_restart M.past.event ≡ false
  MayCome input.Restart M = (M.past.event ≡ event.Restart k) × IsFirst M
  MayCome input.Crash M = ⊤
  MayCome (input.Show x) M = ⊤
  MayCome i M = Brings M.past.event i × IsFirst M × AsksNode hd i

  -- an event that brings an input about an action restarts no node
  brings_other : {A : Type 0} (e : Event) (i : Input) → Brings e i → is_restart e ≡ true → A
  brings_other (event.Restart n) i brings is = absurd brings
  brings_other e i brings is = absurd (cc is)

  act_goes : (i : Input) (d : Disk) (t : Parts) (M : Moment) → is_act i ≡ true → Brings M.past.event i × IsFirst M × AsksNode hd i →
      input.refusal_up hd i t.coord ≡ None → P (up k d t M)
      → Goes d (coord_did (record { number = k; disk = d; live = Some t }) t (acts i d.intents t.coord)) (asks_now i t.coord M)
  act_goes i d t M is comes free h = let a = acts i d.intents t.coord in
      did_goes (Some t) (with_coord t a.part) a.outs d (asks_now i t.coord M) (brings_other M.past.event i comes.0)
      (keeps.act k d t i M is comes.0 comes.1 comes.2 free h)

  up_goes : (i : Input) (d : Disk) (t : Parts) (M : Moment) → MayCome i M → input.refusal_up hd i t.coord ≡ None → P (up k d t M) →
      Goes d (step_up i (record { number = k; disk = d; live = Some t }) t) (asks_now i t.coord M)
  up_goes (input.Frame f from m) d t M sent free h = frame_goes f from m d t M sent.0 sent.1 h
  up_goes input.Tick d t M sent free h =
      let n : Node = record { number = k; disk = d; live = Some t } in
      did_goes (Some t) (with_coord t (again_all t.coord.doings t.coord).part) (tick_outs n t) d M (not_restarting M.past.event sent)
      (keeps.tick k d t M h)
  up_goes input.Restart d t M sent free h =
      still_goes (does_nothing (record { number = k; disk = d; live = Some t })) d (Some t) M refl refl refl h
  up_goes input.Crash d t M sent free h = crash_goes d t M h
  up_goes (input.Show x) d t M sent free h =
      still_goes (show_step x (record { number = k; disk = d; live = Some t })) d (Some t) M refl (show_still k x d) (show_still k x d) h
  up_goes (input.Begin l how parent) d t M sent free h = absurd sent
  up_goes (input.Call l x o) d t M sent free h = act_goes (input.Call l x o) d t M refl sent free h
  up_goes (input.Include l x s) d t M sent free h = act_goes (input.Include l x s) d t M refl sent free h
  up_goes (input.Commit l) d t M sent free h = act_goes (input.Commit l) d t M refl sent free h
  up_goes (input.Abort l) d t M sent free h = act_goes (input.Abort l) d t M refl sent free h
  up_goes (input.GiveUp l) d t M sent free h = act_goes (input.GiveUp l) d t M refl sent free h

  nothing_goes : (d : Disk) (M : Moment) → P (down k d M) → Goes d (does_nothing (record { number = k; disk = d; live = None })) M
  nothing_goes d M h = still_goes (does_nothing (record { number = k; disk = d; live = None })) d None M refl refl refl h

  down_goes : (i : Input) (d : Disk) (M : Moment) → MayCome i M → P (down k d M) → Goes d
      (step_down hd i (record { number = k; disk = d; live = None })) M
  down_goes (input.Frame f from m) d M comes h = void_goes f [] d None M refl h
  down_goes input.Restart d M comes h = did_goes None (parts_in k (d.inc + 1) d) (restart_outs hd k (d.inc + 1) d) d M
      (λ is. restart_others hd k (d.inc + 1) d) (keeps.restart k d M comes.0 comes.1 h)
  down_goes input.Tick d M comes h = nothing_goes d M h
  down_goes input.Crash d M comes h = nothing_goes d M h
  down_goes (input.Show x) d M comes h = nothing_goes d M h
  down_goes (input.Begin l how parent) d M comes h = nothing_goes d M h
  down_goes (input.Call l x o) d M comes h = nothing_goes d M h
  down_goes (input.Include l x s) d M comes h = nothing_goes d M h
  down_goes (input.Commit l) d M comes h = nothing_goes d M h
  down_goes (input.Abort l) d M comes h = nothing_goes d M h
  down_goes (input.GiveUp l) d M comes h = nothing_goes d M h

  refused_goes : (c : ℕ) (d : Disk) (live : Option Parts) (M : Moment) → P (at k d live M) →
      Goes d (only_says (record { number = k; disk = d; live = live }) (body.Refused c)) M
  refused_goes c d live M h =
      still_goes (only_says (record { number = k; disk = d; live = live }) (body.Refused c)) d live M refl refl refl h

  -- what is asked of an action is noted, where the node doesn't refuse it
  abbrev pub noted : Input → Option Parts → Option ℕ → Moment → Moment
  noted i live r M = record M { past = taken_by i live r M.past }

  -- any input but the beginning of an action
  pub step_goes : (i : Input) (d : Disk) (live : Option Parts) (M : Moment) → MayCome i M → P (at k d live M) →
      Goes d (step hd (record { number = k; disk = d; live = live }) i) (noted i live (refusal_at hd i live) M)
  step_goes i d live M sent h = by (refusal_at hd i live) live refl sent h
    where
      by : (r : Option ℕ) (live : Option Parts) → refusal_at hd i live ≡ r → MayCome i M → P (at k d live M) →
          Goes d (step_unless hd i (record { number = k; disk = d; live = live }) r) (noted i live r M)
      by (Some c) None is sent h = refused_goes c d None M h
      by (Some c) (Some t) is sent h = refused_goes c d (Some t) M h
      by None None is sent h = down_goes i d M sent h
      by None (Some t) is sent h = up_goes i d t M sent is h

  -- where the node doesn't refuse, the label is given
  abbrev pub unless_refused : Label → Labelled → Moment → Option ℕ → Moment
  unless_refused l g M None = given l g M
  unless_refused l g M (Some c) = M

  -- the beginning of an action: where the node doesn't refuse, the label is given
  pub begin_goes : (l : Label) (how : Kind) (parent : Option Label) (d : Disk) (live : Option Parts) (M : Moment)
      → Brings M.past.event (input.Begin l how parent) → IsFirst M → label_at l M.seen.labels ≡ None → MayGive M.seen.labels k how parent →
      P (at k d live M)
      → (r : Option ℕ) → refusal_at hd (input.Begin l how parent) live ≡ r
      → Goes d (step_unless hd (input.Begin l how parent) (record { number = k; disk = d; live = live }) r)
      (unless_refused l (record { node = k; serial = is_serial how }) M r)
  begin_goes l how parent d live M brings at_first free gives h (Some c) is = refused_goes c d live M h
  begin_goes l how parent d None M brings at_first free gives h None is = absurd (cc is)
  begin_goes l how parent d (Some t) M brings at_first free gives h None is =
      let a = begin_action l how parent (parent_of parent t.coord) t.coord in
      let N : Moment = given l (record { node = k; serial = is_serial how }) M in
      did_goes (Some t) (with_coord t a.part) a.outs d N (brings_other M.past.event (input.Begin l how parent) brings)
      (keeps.begin k d t l how parent M brings at_first free gives is h)
