-- Events that were run, as turns.
use Rattle.std.proofs.Common.{◌≡◌, ℕ, ◌+◌, ◌≤◌, Bool, true, false, List, [], ◌∷◌, ◌++◌, refl, ap, sym, ◌∙◌, subst, Option, Some, None}
use Rattle.std.specs.Prelude.{if◌then◌else◌, not, Result, Ok, Err, OnOk}
use Rattle.std.proofs.lemmas.Result.{on_ok_weaker}
use Rattle.arj_core.specs.declared.node.Core.{Ghosts}
use Rattle.arj_core.specs.Steps.{message_of}
use Rattle.arj_disk.specs.FileMap.{FileMap}
use Rattle.arj_journal.specs.declared.body.Line.{Line}
use Rattle.arj_protocol.specs.Step.{first_reason}
use Rattle.arj_protocol.specs.Words.{Event, FrameNo, Header}
use Rattle.arj_protocol.specs.Words.{read_message}
use Rattle.arj_protocol.specs.Words.body
use Rattle.arj_protocol.specs.Words.event
use Rattle.arj_protocol.specs.Words.which
use Rattle.arj_protocol.specs.World.{World, Arm, counted, frame_number, giving, is_node, reads_whole, happens, lacks_labels, limited}
use Rattle.arj_protocol.specs.World.{no_labels, numbered, reasons, run_event, run_unless, says}
use Rattle.arj_world.specs.Goes.{BeginsTo, GoesTo, arms_of}
use Rattle.arj_world.specs.Happens.{Happened, HappensTo, IsOver, RunsOver, RunsTo, done}
use Rattle.arj_world.specs.Stands.{Hand, Keeps, Kept, Stands, StandsSome}
use Rattle.arj_world.specs.Turns.{asked, with_arms}
use Rattle.arj_world.proofs.Going.{as_well, begins, fallen, finish}
use Rattle.arj_world.proofs.Tests.{in_range, keeps_armed, keeps_of, no_message, passed}

pub on_ok_both : {E : Type 0} (A B : Type 0) (r : Result (Unit {0}) E) → OnOk r A → OnOk r B → OnOk r (A × B)
on_ok_both A B (Ok u) a b = (a, b)
on_ok_both A B (Err e) a b = tt

module _ {C D : Type 0} (core : Ghosts C) (file : D → FileMap) where
  -- between events no stop is due
  unarmed : (h : Hand C D) (w : World) → Stands core file h w → Stands core file h (with_arms [] w)
  unarmed h w st =
      record {
        header = st.header;
        given = st.given;
        frames = st.frames;
        lines = st.lines;
        labels = st.labels;
        arms = refl;
        event =
            st.event;
        full = st.full;
        over = st.over;
        nodes = st.nodes;
      }

  pub happens_so : (go : World → World) (old new : Hand C D) → BeginsTo core file go old new → HappensTo core file go old new
  happens_so go old new to w st =
      let b = to w st in
      record {
        falls = arms_of old.kept.header.nodes (b.reaches.pick (λ k. None));
        works = fallen old.kept.header.nodes go (λ v. v) w b.now b.reaches;
        stands = subst (Stands core file new) (ap (with_arms []) (sym (finish old.kept.header.nodes go w b.now b.reaches))) (unarmed new b.now b.stands);
      }

  pub begins_so : (go : World → World) (old new : Hand C D) → GoesTo core file go old new → BeginsTo core file go old new
  begins_so go old new goes w st = begins old.kept.header.nodes go w (Stands core file new) (goes w st)

  -- ---- what an accepted event does, at Ok

  pub stands_on : {E : Type 0} (r : Result (Unit {0}) E) (e given : Event) (old new : Hand C D) → given ≡ e →
      OnOk r (HappensTo core file (done e) old new) → OnOk r (HappensTo core file (done given) old new)
  stands_on r e given old new is to = subst (λ x. OnOk r (HappensTo core file (done x) old new)) (sym is) to

  pub begins_on : {E : Type 0} (r : Result (Unit {0}) E) (e given : Event) (old new : Hand C D) → given ≡ e →
      OnOk r (BeginsTo core file (done e) old new) → OnOk r (HappensTo core file (done given) old new)
  begins_on r e given old new is to =
      stands_on r e given old new is (on_ok_weaker r (λ (go : BeginsTo core file (done e) old new). happens_so (done e) old new go) to)

  pub goes_on : {E : Type 0} (r : Result (Unit {0}) E) (e given : Event) (old new : Hand C D) → given ≡ e →
      OnOk r (GoesTo core file (done e) old new) → OnOk r (HappensTo core file (done given) old new)
  goes_on r e given old new is to =
      begins_on r e given old new is (on_ok_weaker r (λ (go : GoesTo core file (done e) old new). begins_so (done e) old new go) to)

  -- a frame by the number that is asked for
  pub goes_numbered : (f : FrameNo) (k : ℕ) (go : ℕ → World → World) (old new : Hand C D) →
      ((w : World) → Keeps core old.kept w → k ≡ frame_number f w) → GoesTo core file (go k) old new
      → GoesTo core file (λ w. go (frame_number f w) w) old new
  goes_numbered f k go old new tells goes w st =
      as_well old.kept.header.nodes (λ v. go (frame_number f v) v) (go k) (λ v. v) w (Stands core file new)
      (λ arms. ap (λ m. go m (with_arms arms w)) (sym (tells (with_arms arms w) (keeps_armed core old.kept w arms (keeps_of core file old w st))))) (goes w st)

  -- the node of an accepted event is there, where the first reason asks for it
  pub accepted_range : (e given : Event) (n : ℕ) (rest : World → List (ℕ × Bool)) (old : Hand C D) → given ≡ e →
      ((w : World) → reasons e w ≡ (1, not (is_node n w)) ∷ rest w)
      → ((w : World) → Keeps core old.kept w → None ≡ first_reason (reasons given w)) → StandsSome core file old →
      (1 ≤ n) × (n ≤ old.kept.header.nodes)
  accepted_range e given n rest old is reason tests some =
      let w = some.0 in
      let keeps = keeps_of core file old w some.1 in
      in_range core n (rest w) old.kept w keeps (tests w keeps ∙ ap (λ x. first_reason (reasons x w)) is ∙ ap first_reason (reason w))

  -- bytes of accepted junk are no message
  pub accepted_junk : (given : Event) (n : ℕ) (bytes : List ℕ) (old : Hand C D) → given ≡ event.Junk n bytes →
      ((w : World) → Keeps core old.kept w → None ≡ first_reason (reasons given w)) → StandsSome core file old → message_of bytes ≡ None
  accepted_junk given n bytes old is tests some =
      let w = some.0 in
      let first = passed 1 (not (is_node n w)) ((18, reads_whole (read_message bytes)) ∷ []) (tests w (keeps_of core file old w some.1) ∙ ap (λ x. first_reason (reasons x w)) is) in
      no_message bytes (passed 18 (reads_whole (read_message bytes)) [] first.1).0

  -- what goes by the header
  pub goes_headed : (go : Header → World → World) (old new : Hand C D) → GoesTo core file (go old.kept.header) old new →
      GoesTo core file (λ w. go w.header w) old new
  goes_headed go old new goes w st =
      as_well old.kept.header.nodes (λ v. go v.header v) (go old.kept.header) (λ v. v) w (Stands core file new)
      (λ arms. ap (λ hd. go hd (with_arms arms w)) st.header) (goes w st)

  -- ---- an event that the world refuses, or runs

  -- the world tests so
  abbrev pub Tests : Event → Option ℕ → Kept C → Type 0
  Tests e o k = (w : World) → Keeps core k w → o ≡ first_reason (reasons e w)

  abbrev pub Lacks : Event → Bool → Kept C → Type 0
  Lacks e b k = (w : World) → Keeps core k w → b ≡ lacks_labels (giving e w) w

  tested : (e : Event) (o : Option ℕ) (h : Hand C D) (w : World) (arms : List (ℕ × Arm)) → Stands core file h w → Tests e o h.kept
      → run_event (asked e) (with_arms arms w) ≡ run_unless e (asked e).arm (with_arms arms w) o
  tested e o h w arms st tests =
      (λ i. if st.over i then with_arms arms w else run_unless e (asked e).arm (with_arms arms w) (first_reason (reasons e (with_arms arms w))))
      ∙ ap (run_unless e (asked e).arm (with_arms arms w)) (sym (tests (with_arms arms w) (keeps_armed core h.kept w arms (keeps_of core file h w st))))

  -- the next event
  abbrev pub counted_hand : Hand C D → Hand C D
  counted_hand h = record h { kept = record h.kept { event = h.kept.event + 1 } }

  pub counted_stands : (h : Hand C D) (w : World) → Stands core file h w → Stands core file (counted_hand h) (counted w)
  counted_stands h w st =
      record {
        header = st.header;
        given = st.given;
        frames = st.frames;
        lines = st.lines;
        labels = st.labels;
        arms = st.arms;
        event =
            ap (λ n. n + 1) st.event;
        full = st.full;
        over = st.over;
        nodes = st.nodes;
      }

  pub keeps_uncounted : (k : Kept C) (n : ℕ) (w : World) → Keeps core (record k { event = n }) w → Keeps core k w
  keeps_uncounted k n w keeps =
      record {
        header = keeps.header;
        given = keeps.given;
        frames = keeps.frames;
        labels = keeps.labels;
        nodes = keeps.nodes;
        count =
            keeps.count;
      }

  pub runs_refused : (e : Event) (c : ℕ) (old : Hand C D) (journal : List Line) → Tests e (Some c) old.kept →
      journal ≡ old.journal ++ numbered (old.kept.event + 1) (body.Refused c ∷ [])
      → RunsTo core file e old (record (counted_hand old) { journal = journal })
  runs_refused e c old journal tests said w st = record {
    falls = [];
    works = tt;
    stands = subst (Stands core file new) (ap (with_arms []) (sym (tested e (Some c) old w [] st tests))) (record {
      header = st.header;
      given = st.given;
      frames = st.frames;
      lines = (λ i. st.lines i ++ numbered (st.event i + 1) (body.Refused c ∷ [])) ∙ sym said;
      labels = st.labels;
      arms = refl;
      event = ap (λ n. n + 1) st.event;
      full = st.full;
      over = st.over;
      nodes = st.nodes;
    });
  }
    where
      new : Hand C D
      new = record (counted_hand old) { journal = journal }

  -- what an accepted event makes, before a limit is tested
  module _ (e : Event) (old new : Hand C D) (tests : Tests e None old.kept) (lacks : Lacks e false old.kept) (to : HappensTo core file (done e) (counted_hand old) new) where
    abbrev happened : (w : World) (st : Stands core file old w) → Happened (done e) (counted w) (Stands core file new)
    happened w st = to (counted w) (counted_stands old w st)

    abbrev made : (w : World) (st : Stands core file old w) → World
    made w st = done e (with_arms (happened w st).falls (counted w))

    run : (w : World) (st : Stands core file old w) → run_event (asked e) (with_arms (happened w st).falls w) ≡ limited (made w st)
    run w st =
        let v = with_arms (happened w st).falls w in
        tested e None old w (happened w st).falls st tests
        ∙ ap (λ b. if b then no_labels v else limited (happens e (asked e).arm (counted v))) (sym (lacks v (keeps_armed core old.kept w (happened w st).falls (keeps_of core file old w st))))

    pub runs_accepted : new.kept.full ≡ false → RunsTo core file e old new
    runs_accepted fits w st = record {
      falls = (happened w st).falls;
      works = (happened w st).works;
      stands = subst (Stands core file new) (sym (ap (with_arms []) (run w st ∙ (λ i. if ((happened w st).stands.full ∙ fits) i then says (body.Limit which.Frames ∷ []) (record (made w st) { over = true }) else made w st)))) (happened w st).stands;
    }

    pub runs_over : (journal : List Line) → new.kept.full ≡ true →
        journal ≡ new.journal ++ numbered new.kept.event (body.Limit which.Frames ∷ []) →
        RunsOver core file e old (record new { journal = journal })
    runs_over journal full said w st = record {
      falls = (happened w st).falls;
      works = (happened w st).works;
      stands = subst (IsOver core file (record new {
        journal =
            journal;
      })) (sym (ap (with_arms []) (run w st ∙ (λ i. if ((happened w st).stands.full ∙ full) i then says (body.Limit which.Frames ∷ []) (record (made w st) { over = true }) else made w st)))) (record {
        over = refl;
        stands =
            let h = (happened w st).stands in
            record {
              header = h.header;
              given = h.given;
              frames = h.frames;
              lines = (λ i. h.lines i ++ numbered (h.event i) (body.Limit which.Frames ∷ [])) ∙ sym said;
              labels = h.labels;
              arms = refl;
              event = h.event;
              full = h.full;
              over = refl;
              nodes = h.nodes;
            };
      });
    }
