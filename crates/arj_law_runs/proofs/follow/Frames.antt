-- In every run each line of a frame and of a stop to come has its cause, and nodes halt where they are up.
use Rattle.arj_law_parts.proofs.Words
use Words.{◌≡◌, ◌∙◌, ◌+◌, ◌≤◌, ◌&&◌, not, ℕ, zero, suc, Bool, true, false, cond, List, [], ◌∷◌, ◌++◌, length, map, refl, sym, ap}
use Words.{subst, arith, inl, inr, ◌⊎◌, ⊎_elim, Option, Some, None, is_some, if◌then◌else◌, slice_get, nat_le, nat_tests, length-append}
use Words.{map-append, at_place, Node, Body, Event, FrameNo, Header, Arm, World, counted, giving, happens}
use Words.{first_reason, lacks_labels, limited, no_labels, node_by, numbers_to, parts_in, reasons, run_unless, world_from}
use Words.{Move, moved, journal_by, IsInForm, Start, most_frames}
use Words.body
use Words.event
use Words.frame_no
use Rattle.arj_law_parts.proofs.Terms.{says}
use Rattle.arj_law_parts.proofs.moves.Happens.{arms_hold, first_asked}
use Rattle.arj_law_parts.proofs.moves.Moving.{move_asked}
use Rattle.arj_law_parts.specs.moves.Keeps.{Holds}
use Rattle.arj_law_runs.proofs.addresses.Runs.{kept, within_of}
use Rattle.arj_law_runs.proofs.follow.Along.{Ended, Outcome, Went, event_of, runs_along}
use Rattle.arj_law_runs.proofs.follow.Framing
use Framing.{ArePlaced, Of, Reaches, quiet_reach}
use Rattle.arj_law_runs.proofs.follow.Happening.{limited_reach}
use Rattle.arj_law_runs.proofs.follow.Telling.{Tells, frame_test}
use Rattle.arj_law_runs.proofs.follow.Walking.{AreFor, Fit, behind_all, lines_behind, stays_behind}
use Rattle.arj_law_runs.specs.addresses.Addresses.{AreAddressed}
use Rattle.arj_law_runs.specs.follow.Frames.{FramesStep, are_so, frame_fits, run_events}
use Rattle.arj_model.specs.CausePends.{frame_is}
use Rattle.arj_model.specs.CauseSpans.{Here, behind, here_at}
use Rattle.arj_model.specs.Follows.{Runs}
use Rattle.arj_model.specs.Past.{Asked as AskedOf, Past, at_start, block}
use Rattle.arj_model.specs.Refusals.{is_down, is_node}
use Rattle.arj_promise.specs.Runs.{HeaderFits, IsStoppedInForm, Run}
use Rattle.arj_promise.specs.Starts.{IsFormed}
use Rattle.arj_protocol.specs.{Step.disk_by, Words.FrameKind}

-- ---- who was accepted is nothing to these lines

fits_any : (accepted : List AskedOf) (h : Here) (b : Body) → frame_fits (record h { accepted = accepted }) b ≡ frame_fits h b
fits_any accepted h (body.Began a b c d) = refl
fits_any accepted h (body.Ok a b c d) = refl
fits_any accepted h (body.Includes a b c) = refl
fits_any accepted h (body.Conflict a b c d) = refl
fits_any accepted h (body.Lost a b) = refl
fits_any accepted h (body.Changed a b c) = refl
fits_any accepted h (body.Committing a) = refl
fits_any accepted h (body.Committed a) = refl
fits_any accepted h (body.Ended a) = refl
fits_any accepted h (body.Aborted a b) = refl
fits_any accepted h (body.GaveUp a b) = refl
fits_any accepted h (body.Excluded a b c) = refl
fits_any accepted h (body.Granted a b c d) = refl
fits_any accepted h (body.Lowered a b c) = refl
fits_any accepted h (body.Bound a b c) = refl
fits_any accepted h (body.Active a b c) = refl
fits_any accepted h (body.Told a b c d) = refl
fits_any accepted h (body.Prepared a b c) = refl
fits_any accepted h (body.Done a b c d) = refl
fits_any accepted h (body.Sent a b c d) = refl
fits_any accepted h (body.Got a) = refl
fits_any accepted h (body.Void a) = refl
fits_any accepted h (body.Dropped a) = refl
fits_any accepted h (body.Halted a) = refl
fits_any accepted h (body.Up a b) = refl
fits_any accepted h (body.Armed a) = refl
fits_any accepted h (body.Recovered a b) = refl
fits_any accepted h (body.Refused a) = refl
fits_any accepted h (body.Entry a b c d) = refl
fits_any accepted h (body.Copy a b c d e) = refl
fits_any accepted h (body.Quiet a) = refl
fits_any accepted h (body.Bad a) = refl
fits_any accepted h (body.Limit a) = refl

fit_any : (accepted : List AskedOf) (h : Here) (bs : List Body) → are_so frame_fits (record h { accepted = accepted }) bs ≡ are_so
    frame_fits h bs
fit_any accepted h [] = refl
fit_any accepted h (b ∷ bs) = λ i. fits_any accepted h b i && fit_any accepted (behind h b) bs i

-- an event that is counted is refused as before
pub same_reasons : (e : Event) (w : World) → reasons e (counted w) ≡ reasons e w
same_reasons (event.Begin l n) w = refl
same_reasons (event.Serial l n) w = refl
same_reasons (event.BeginIn l p) w = refl
same_reasons (event.Top l p) w = refl
same_reasons (event.Call l x o) w = refl
same_reasons (event.Include l x n) w = refl
same_reasons (event.Commit l) w = refl
same_reasons (event.Abort l) w = refl
same_reasons (event.GiveUp l) w = refl
same_reasons (event.Deliver k) w = by k
  where
    by : (k : FrameNo) → reasons (event.Deliver k) (counted w) ≡ reasons (event.Deliver k) w
    by (frame_no.Number j) = refl
    by frame_no.Last = refl
same_reasons (event.Lose k) w = by k
  where
    by : (k : FrameNo) → reasons (event.Lose k) (counted w) ≡ reasons (event.Lose k) w
    by (frame_no.Number j) = refl
    by frame_no.Last = refl
same_reasons (event.Tick n) w = refl
same_reasons event.Settle w = refl
same_reasons event.Quiesce w = refl
same_reasons (event.Crash n) w = refl
same_reasons (event.Restart n) w = refl
same_reasons (event.Stop n c how) w = refl
same_reasons (event.Junk n bytes) w = refl
same_reasons (event.Show x) w = refl

module _ (hd : Header) (form : HeaderFits hd) where
  for_nodes : (w : World) → Holds hd (AreAddressed hd) w → AreFor hd w.frames
  for_nodes w h = within_of hd form w h

  -- the number of the event isn't seen
  counted_holds : (w : World) → Holds hd (AreAddressed hd) w → Holds hd (AreAddressed hd) (counted w)
  counted_holds w h = record {
    sent = h.sent;
    stands = record {
      frames = h.stands.frames;
      junk = h.stands.junk;
      header = h.stands.header;
      numbers = h.stands.numbers;
      places = h.stands.places;
      labels = h.stands.labels;
    };
    holds = h.holds;
  }

  -- A run up to an event, and the world there.
  pub record Stands (p : Past) (w : World) : Type 0 where
    pub lines : p.lines ≡ w.lines
    pub count : p.count ≡ w.event
    pub is : w.header ≡ hd
    pub few : length w.frames ≤ most_frames
    pub placed : ArePlaced hd w.nodes
    pub tells : Tells p.start p.lines w.frames w.nodes
    pub holds : Holds hd (AreAddressed hd) w

  -- where the event's first line comes
  abbrev first_here : Past → Event → Here
  first_here p e = record {
    header = hd;
    start = p.start;
    accepted = [];
    event = e;
    number = p.count + 1;
    first = length p.lines;
    lines = p.lines;
  }

  fits_there : (p : Past) (e : Event) (bs : List Body) → Fit (first_here p e) bs → FramesStep hd p e bs
  fits_there p e bs fit = fit_any (here_at hd p e bs).accepted (first_here p e) bs ∙ fit

  module _ (m : Move) (p : Past) (w : World) (stops : IsStoppedInForm m) (s : Stands p w) (on : w.over ≡ false) where
    abbrev armed_world : World
    armed_world = record w { arms = m.falls }

    abbrev e : Event
    e = event_of m

    abbrev arm : Arm
    arm = let a = m.asked in a.arm

    held : Holds hd (AreAddressed hd) (moved m w)
    held = move_asked hd (AreAddressed hd) (kept hd form) m w s.holds

    held_before : Holds hd (AreAddressed hd) (counted armed_world)
    held_before = counted_holds (record w { arms = m.falls }) (arms_hold hd (AreAddressed hd) m.falls w s.holds)

    -- a world that is reached
    reached : (v : World) → moved m w ≡ record v { arms = [] } → Reaches hd (first_here p e) v → Outcome (FramesStep hd) Stands m p w
    reached v is r =
        let g = behind_all (first_here p e) r.bodies in
        let st = stays_behind (first_here p e) r.bodies in
        let base = r.of.base in
        let lines : p.lines ++ block (p.count + 1) r.bodies ≡ v.lines = sym (lines_behind (first_here p e) r.bodies) ∙ base.lines in
        Went r.bodies (fits_there p e r.bodies r.fit) (record {
          lines = lines ∙ ap (λ (x : World). x.lines) (sym is);
          count = sym st.number ∙ base.number ∙ ap (λ (x : World). x.event) (sym is);
          is = ap (λ (x : World). x.header) is ∙ base.is;
          few = subst (λ (x : World). length x.frames ≤ most_frames) (sym is) base.few;
          placed = subst (λ (x : World). ArePlaced hd x.nodes) (sym is) base.placed;
          tells = subst (λ (x : World). Tells p.start (p.lines ++ block (p.count + 1) r.bodies) x.frames x.nodes) (sym is)
              (subst (λ z. Tells z (p.lines ++ block (p.count + 1) r.bodies) v.frames v.nodes) st.start
              (subst (λ ls. Tells g.start ls v.frames v.nodes) (lines_behind (first_here p e) r.bodies) r.of.tells));
          holds = held;
        })

    begins : Of hd (first_here p e) (counted armed_world)
    begins = record {
      base = record {
        header = refl;
        is = s.is;
        lines = s.lines;
        number = ap (λ n. n + 1) s.count;
        few = s.few;
        arms = stops.1;
        placed = s.placed;
      };
      tells = s.tells;
    }

    -- a refused event writes no more
    refused_by : (c : ℕ) → Reaches hd (first_here p e) (says (body.Refused c ∷ []) (counted armed_world))
    refused_by c = quiet_reach hd (first_here p e) (counted armed_world) (body.Refused c) begins refl refl

    moved_is : (v : World) → run_unless e arm armed_world (first_reason (reasons e armed_world)) ≡ v → moved m w ≡ record v { arms = [] }
    moved_is v is = ap (λ (x : World). record x { arms = [] })
        ((λ i. cond (on i) armed_world (run_unless e arm armed_world (first_reason (reasons e armed_world)))) ∙ is)

    pub goes : Outcome (FramesStep hd) Stands m p w
    goes = by (first_reason (reasons e armed_world)) refl
      where
        accepted : first_reason (reasons e armed_world) ≡ None → (b : Bool) → lacks_labels (giving e armed_world) armed_world ≡ b →
            Outcome (FramesStep hd) Stands m p w
        accepted none true full =
            let is = moved_is (no_labels armed_world) (ap (run_unless e arm armed_world) none
            ∙ (λ i. cond (full i) (no_labels armed_world) (limited (happens e arm (counted armed_world))))) in
            Ended (ap (λ (x : World). x.over) is) (ap (λ (x : World). x.event) is) (ap (λ (x : World). x.lines) is)
        accepted none false fits =
            let v = limited (happens e arm (counted armed_world)) in
            let is = moved_is v (ap (run_unless e arm armed_world) none
            ∙ (λ i. cond (fits i) (no_labels armed_world) (limited (happens e arm (counted armed_world))))) in
            reached v is (limited_reach hd (AreAddressed hd) (kept hd form) for_nodes e arm (first_here p e) (counted armed_world) stops.0
            (record {
              of = begins;
              holds = held_before;
              event = refl;
              free = ap first_reason (same_reasons e armed_world) ∙ none;
              first = refl;
            }))

        by : (r : Option ℕ) → first_reason (reasons e armed_world) ≡ r → Outcome (FramesStep hd) Stands m p w
        by (Some c) is = let v = says (body.Refused c ∷ []) (counted armed_world) in
            reached v (moved_is v (ap (run_unless e arm armed_world) is)) (refused_by c)
        by None is = accepted is (lacks_labels (giving e armed_world) armed_world) refl

  -- ---- as a run begins

  module _ (st : Start) where
    abbrev Firsts : ℕ → List Node
    Firsts n = map (node_by hd st) (numbers_to n)

    snoc : (n : ℕ) → Firsts (suc n) ≡ Firsts n ++ node_by hd st (suc n) ∷ []
    snoc n = map-append (node_by hd st) (numbers_to n) (suc n ∷ [])

    long : (n : ℕ) → length (Firsts n) ≡ n
    long zero = refl
    long (suc n) = ap (λ (ns : List Node). length ns) (snoc n) ∙ length-append (Firsts n) (node_by hd st (suc n) ∷ [])
        ∙ (λ i. long n i + 1) ∙ next_is n
      where
        next_is : (n : ℕ) → n + 1 ≡ suc n
        next_is n = omega arith

    got_behind : {A : Type 0} (xs : List A) (y : A) (j : ℕ) (a : A) → slice_get (xs ++ y ∷ []) j ≡ Some a →
        (slice_get xs j ≡ Some a) ⊎ ((j ≡ length xs) × (y ≡ a))
    got_behind [] y zero a h = inr (refl, cc h)
    got_behind [] y (suc j) a h = absurd (cc h)
    got_behind (x ∷ xs) y zero a h = inl h
    got_behind (x ∷ xs) y (suc j) a h = ⊎_elim (λ old. inl old) (λ new. inr (ap suc new.0, new.1)) (got_behind xs y j a h)

    firsts_are : (n j : ℕ) (a : Node) → slice_get (Firsts n) j ≡ Some a → (node_by hd st (suc j) ≡ a) × (suc j ≤ n)
    firsts_are zero j a h = absurd (cc h)
    firsts_are (suc n) j a h = ⊎_elim
        (λ old. let r = firsts_are n j a old in (r.0, omega (arith, r.1)))
        (λ new. let same : j ≡ n = new.0 ∙ long n in (subst (λ k. node_by hd st (suc k) ≡ a) (sym same) new.1, omega (arith, same)))
        (got_behind (Firsts n) (node_by hd st (suc n)) j a (sym (ap (λ ns. slice_get ns j) (snoc n)) ∙ h))

    up_as : (k : ℕ) → not (st.up k) ≡ not (is_some (node_by hd st k).live)
    up_as k = by (st.up k)
      where
        x : Node
        x = node_by hd st k

        by : (b : Bool) → not b ≡ not (is_some (if b then Some (parts_in k (st.incs k + 1) (disk_by hd st k)) else None))
        by true = refl
        by false = refl

    pub first_stands : IsFormed hd st → Stands (at_start st) (world_from hd st)
    first_stands formed = record {
      lines = refl;
      count = refl;
      is = refl;
      few = omega arith;
      placed = record { nodes = nodes; places = λ n is. h.stands.places n is };
      tells = record { last = refl; frames = none; pending = refl; ups = ups };
      holds = h;
    }
      where
        h : Holds hd (AreAddressed hd) (world_from hd st)
        h = first_asked hd st (AreAddressed hd) formed (kept hd form)

        within : (j n : ℕ) → suc j ≤ n → (nat_le 1 (suc j) && nat_le (suc j) n) ≡ true
        within j n few = grind (arith, nat_tests, few)

        nodes : (n : ℕ) (m : Node) → at_place n (Firsts hd.nodes) ≡ Some m → (is_node hd n ≡ true) × (m.number ≡ n)
        nodes zero m is = absurd (cc is)
        nodes (suc j) m is = let r = firsts_are hd.nodes j m is in (within j hd.nodes r.1, ap (λ (x : Node). x.number) (sym r.0))

        ups : (n : ℕ) (m : Node) → at_place n (Firsts hd.nodes) ≡ Some m → is_down st [] n ≡ not (is_some m.live)
        ups zero m is = absurd (cc is)
        ups (suc j) m is = let r = firsts_are hd.nodes j m is in up_as (suc j) ∙ ap (λ (x : Node). not (is_some x.live)) r.0

        none : (test : ℕ → ℕ → FrameKind → Bool) (k : ℕ) → frame_is test [] k ≡ frame_test test (at_place k [])
        none test zero = refl
        none test (suc k) = refl

-- ---- a whole run

pub frames_are_caused : (hd : Header) (r : Run hd) → IsInForm hd r → Runs (FramesStep hd) r.start (run_events hd r) (journal_by hd r)
frames_are_caused hd r form =
    runs_along (FramesStep hd) (Stands hd form.header) IsStoppedInForm (λ p w s. s.lines) (λ p w s. s.count)
    (λ m p w stops s on. goes hd form.header m p w stops s on) r.start r.moves (world_from hd r.start) form.stops
    (first_stands hd form.header r.start r.formed)
