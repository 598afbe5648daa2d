-- Event by event: what is refused with 12, and each commit whose action is aborted as doomed, is of an action that the journal dooms.
use Rattle.arj_law_parts.proofs.Words
use Words.{◌≡◌, ◌∙◌, ◌+◌, ◌++◌, ℕ, zero, suc, Bool, true, false, cond, if◌then◌else◌, List, [], ◌∷◌, Option, Some, None, refl, sym, ap}
use Words.{subst, append_assoc, map-append, append-nil}
use Words.{actor, at_place, branch_named, counted, doing_of, first_reason, giving, happens, is_invoke, lacks_labels, limited, moved, name}
use Words.{no_labels, node_in, node_of}
use Words.{reasons, refusal_up, refused_at, refused_by, run_unless, steps, world_from, numbered, see, Body, Branch, Calling, Doing, Event}
use Words.{Header, Input, Kind, parts_in}
use Words.{commit_reasons, Label, Labelled, Move, Node, Parts, Start, Steps, Uid, World, next_node}
use Words.body
use Words.cause
use Words.event
use Words.input
use Rattle.arj_law_parts.proofs.Terms.which
use Rattle.arj_law_parts.proofs.moves.Events.{move_with}
use Rattle.arj_law_parts.proofs.moves.Firsts.{first_stands as first_places}
use Rattle.arj_law_parts.proofs.moves.Happens.{first_asked, keeps_asked}
use Rattle.arj_law_parts.proofs.moves.Reasons.{is_there}
use Rattle.arj_law_parts.specs.moves.Keeps.{KeepsAsked}
use Rattle.arj_law_parts.specs.moves.Moments.{History, no_history}
use Rattle.arj_law_parts.specs.moves.With.{past_event}
use Rattle.arj_law_parts.specs.steps.Writes.{node_refusal}
use Rattle.arj_law_runs.proofs.Terms
use Terms.{Holds, IsGood, IsBusy, Want, actor_is, move_asked, says, paths_of}
use Rattle.arj_law_runs.proofs.addresses.BindRuns.{binds_keep}
use Rattle.arj_law_runs.proofs.follow.Along.{Ended, Outcome, Went, event_of, runs_along}
use Rattle.arj_law_runs.proofs.follow.Frames as frames
use Rattle.arj_law_runs.proofs.follow.Halts.{KnowsAll}
use Rattle.arj_law_runs.proofs.follow.Reasons.{joined, refused_by_any}
use Rattle.arj_law_runs.proofs.follow.Refusing as refusing
use Rattle.arj_law_runs.proofs.follow.Refusing.{Came, IsRefused, IsRun, same_bodies}
use Rattle.arj_law_runs.proofs.journal.Beginning.{named_at}
use Rattle.arj_law_runs.proofs.kept.Starts.{first_up}
use Rattle.arj_law_serial.proofs.Terms.{disk_by}
use Rattle.arj_law_runs.specs.addresses.Binds.{BindsAreKnown}
use Rattle.arj_law_promise.proofs.settling.Waiting.{AllKnown}
use Rattle.arj_model.specs.Follows.{label_doomed}
use Rattle.arj_model.specs.Past.{Past, asked_of, at_start, block, is_refused, next}
use Rattle.arj_model.specs.Refusals.{is_ask_by}
use Rattle.arj_protocol.specs.Step.{refusal_at}
use Rattle.arj_promise.specs.Runs.{HeaderFits, IsStoppedInForm}
use Rattle.arj_promise.specs.Starts.{IsFormed}
use Rattle.arj_law_cause.proofs.follow.causes.Turning.{of_acts}
use Rattle.arj_law_cause.proofs.follow.lines.Saying.{Adds}
use Rattle.arj_law_cause.proofs.waits.waiting.Acting as acting
use Rattle.arj_law_cause.proofs.waits.waiting.Running as running
use Rattle.arj_law_cause.proofs.waits.waiting.Running.{Leaves, Ran, Stopped}
use Rattle.arj_law_cause.proofs.waits.doomed.Asking.{AreUnderWay}
use Rattle.arj_law_cause.proofs.waits.doomed.Behind.{BasedBehind, behind_keep}
use Rattle.arj_law_cause.proofs.waits.doomed.Flags.{Flags, flags_begun, flags_doomed, flags_ended, flags_new, flags_uses}
use Rattle.arj_law_cause.proofs.waits.doomed.Giving as giving
use Rattle.arj_law_cause.proofs.waits.doomed.Lost.{IsDoomedSo, doomed_next}
use Rattle.arj_law_cause.proofs.waits.doomed.Meaning.{told_doomed, twelve_doomed}
use Rattle.arj_law_cause.proofs.waits.doomed.Said.{Fronts, commit_says, giveup_says, is_doom}
use Rattle.arj_law_cause.proofs.waits.doomed.Spans.{Both, lined_keep}
use Rattle.arj_law_cause.proofs.waits.doomed.Standing.{Stands, Ways, flags_hear, ways_more}
use Rattle.arj_law_cause.proofs.waits.doomed.Stepping.{IsUnderWay}
use Rattle.arj_law_cause.proofs.waits.doomed.Walking as walking
use Rattle.arj_law_cause.proofs.waits.doomed.Wanting.{AreAsked, Calls, Commits, Waits}
use Rattle.arj_law_cause.specs.waits.doomed.Dooms.{DoomsHaveCauses, DoomsStep, IsToldDoomed}

-- ---- lines

-- where frames fit the limit says nothing
limited_free : (x : World) → (limited x).over ≡ false → x.full ≡ false
limited_free x = by x.full refl
  where
    by : (b : Bool) → x.full ≡ b → (cond b (says (body.Limit which.Frames ∷ []) (record x { over = true })) x).over ≡ false → b ≡ false
    by true full over = absurd (cc over)
    by false full over = refl

limited_same : (x : World) → x.full ≡ false → limited x ≡ x
limited_same x is = λ i. cond (is i) (says (body.Limit which.Frames ∷ []) (record x { over = true })) x

-- it says nothing, or that a limit was met
limited_more : (x : World) → (more : List Body) × ((limited x).lines ≡ x.lines ++ numbered x.event more)
limited_more x = by x.full
  where
    by : (b : Bool) → (more : List Body) × ((cond b (says (body.Limit which.Frames ∷ []) (record x { over = true })) x).lines
        ≡ x.lines ++ numbered x.event more)
    by true = (body.Limit which.Frames ∷ [], refl)
    by false = ([], sym (append-nil x.lines))

blocks : (n : ℕ) (xs ys : List Body) → numbered n (xs ++ ys) ≡ numbered n xs ++ numbered n ys
blocks n xs ys = map-append (λ (b : Body). record { event = n; body = b }) xs ys

-- the first line says that a doomed action was aborted
abbrev begins_doom : List Body → Bool
begins_doom [] = false
begins_doom (b ∷ bs) = is_doom b

module _ (hd : Header) (form : HeaderFits hd) where
  abbrev Doomed : Past → Uid → Type 0
  Doomed p u = IsDoomedSo p.accepted p.lines u

  known_keep : KeepsAsked hd (λ M. AllKnown hd M × IsGood M)
  known_keep = walking.keeps hd form (λ t. Words.⊤) (λ from a r intents c i. i) (λ how parent t i. i) (λ n inc. tt)

  binds_kept : KeepsAsked hd (λ M. IsGood M × BindsAreKnown M)
  binds_kept = keeps_asked hd (λ M. IsGood M × BindsAreKnown M) (binds_keep hd)

  module _ (m : Move) (g : History) (p : Past) (w : World) (stops : IsStoppedInForm m) (s : Stands hd form g p w)
      (on : w.over ≡ false) where
    abbrev V : World
    V = happens (event_of m) (let a = m.asked in a.arm) (counted (record w { arms = m.falls }))

    lines_are : p.lines ≡ w.lines
    lines_are = s.base.base.base.lines

    count_is : p.count ≡ w.event
    count_is = s.base.base.base.count

    same_reasons : first_reason (reasons (event_of m) (counted (record w { arms = m.falls })))
        ≡ first_reason (reasons (event_of m) (record w { arms = m.falls }))
    same_reasons = ap first_reason (frames.same_reasons (event_of m) (record w { arms = m.falls }))

    known_then : Holds hd (λ M. AllKnown hd M × IsGood M) (counted (record w { arms = m.falls }))
    known_then = let h = s.known in record {
      sent = h.sent;
      stands = record {
        frames = h.stands.frames;
        junk = h.stands.junk;
        header = h.stands.header;
        numbers = h.stands.numbers;
        places = h.stands.places;
        labels = h.stands.labels;
      };
      holds = h.holds;
    }

    -- ---- who is doomed behind it

    module _ (bodies : List Body) (free : (moved m w).over ≡ false)
        (lines : (next p (event_of m) bodies).lines ≡ (moved m w).lines) where
      abbrev D : Uid → Type 0
      D = Doomed (next p (event_of m) bodies)

      ways : Ways hd form (Doomed (next p (event_of m) bodies)) w
      ways = ways_more hd form (Doomed p) (Doomed (next p (event_of m) bodies)) w (doomed_next p (event_of m) bodies) (s.ways on)

      ways_then : Ways hd form (Doomed (next p (event_of m) bodies)) (counted (record w { arms = m.falls }))
      ways_then = let z = ways in record { calls = z.calls; trees = z.trees; asked = z.asked }

      keeps_it : (v : World) → v.nodes ≡ w.nodes → v.frames ≡ w.frames → Ways hd form (Doomed (next p (event_of m) bodies)) v
      keeps_it v nodes same = walking.same_stands hd form (Flags D) (flags_hear D) (flags_begun D) (flags_new D) w v nodes same ways

      module _ (i : Input) (k : ℕ) where
        plain_acts : ((l : Label) (how : Kind) (parent : Option Label) → i ≡ input.Begin l how parent → ⊥) →
            ((l : Label) → i ≡ input.GiveUp l → ⊥) →
            walking.MayAct hd form (Flags D) (flags_hear D) (flags_begun D) (flags_new D) k (counted (record w { arms = m.falls })) i
        plain_acts begins gives a c there live is none its =
            of_acts (Flags D) (flags_ended D) (flags_uses D) (let d = a.disk in d.intents) c.coord its i begins
            (λ l b same. absurd (gives l same))

      -- a giveup dooms an action that waits for its operation
      giveup_acts : (l : Label) → event_of m ≡ event.GiveUp l → (moved m w).lines ≡ V.lines →
          walking.MayAct hd form (Flags D) (flags_hear D) (flags_begun D) (flags_new D) (node_of l w)
          (counted (record w { arms = m.falls }))
          (input.GiveUp l)
      giveup_acts l event all a c there live is none its =
          of_acts (Flags D) (flags_ended D) (flags_uses D) (let d = a.disk in d.intents) c.coord its (input.GiveUp l)
          (λ q how parent same. cc same)
          (λ q b same named d q_steps does now waits tree it.
          flags_doomed D (actor q_steps.path) tree (dooms q b (label_of q same) named d q_steps does now waits) it)
        where
          label_of : (q : Label) → ◌≡◌ {A = Input} (input.GiveUp l) (input.GiveUp q) → l ≡ q
          label_of q same = cc same

          dooms : (q : Label) (b : Branch) → l ≡ q → branch_named q c.coord ≡ Some b → (d : Doing) (x : Steps) →
              doing_of (actor b.path) c.coord ≡ Some d → d.now ≡ Calling x → is_invoke x.at ≡ true → D (actor x.path)
          dooms q b same named d x does now waits =
              subst D (sym actor_same)
              (subst (λ ks. IsDoomedSo ks (next p (event_of m) bodies).lines (actor b.path)) (sym accepted)
              (subst (λ ls. IsDoomedSo (p.accepted ++ asked_of p (event_of m) ∷ []) ls (actor b.path)) (sym its_lines)
              (giving.doomed hd form g p w s on (node_of l w) a c there live (actor b.path) d x does now waits (asked_of p (event_of m))
              (record { event = w.event + 1; body = body.GaveUp d.label (next_node x) })
              (record { event = w.event + 1; body = body.Lost d.label (next_node x) }) (numbered (w.event + 1) said.has.0)
              (ap (is_ask_by (name d.label)) event) refl)))
            where
              h : Holds hd KnowsAll w
              h = s.base.base.halts

              actor_same : actor x.path ≡ actor b.path
              actor_same =
                  let coord = acting.coord (see h.sent w) h.holds (node_of l w) a c there live in
                  let tree = acting.tree (see h.sent w) h.holds (node_of l w) a c there live in
                  actor_is h.holds.0.0.0 (paths_of h.holds.0.0.0) tree (actor b.path) x.path c.coord coord
                  (subst (IsBusy c.coord.tree (actor b.path)) now (coord.busy (actor b.path) d does))

              refused : refusal_up w.header (input.GiveUp l) c.coord ≡ None
              refused = none

              said : Adds (Fronts (body.GaveUp d.label (next_node x) ∷ body.Lost d.label (next_node x) ∷ []))
                  (counted (record w { arms = m.falls })) (steps (node_of l w) (input.GiveUp l) (counted (record w { arms = m.falls })))
              said = giveup_says (counted (record w { arms = m.falls })) (node_of l w) a c there live l b
                  (ap (refusal_at w.header (input.GiveUp l)) live ∙ refused) (ap (λ z. branch_named z c.coord) same ∙ named)
                  d x does now actor_same waits

              its_lines : (next p (event_of m) bodies).lines ≡ w.lines ++ record {
                event = w.event + 1;
                body = body.GaveUp d.label
                    (next_node x);
              }
                  ∷ record { event = w.event + 1; body = body.Lost d.label (next_node x) } ∷ numbered (w.event + 1) said.has.0
              its_lines = lines ∙ all ∙ ap (λ e. (happens e (let z = m.asked in z.arm) (counted (record w { arms = m.falls }))).lines) event
                  ∙ said.lines ∙ ap (λ bs. w.lines ++ numbered (w.event + 1) bs) said.has.1

              accepted : (next p (event_of m) bodies).accepted ≡ p.accepted ++ asked_of p (event_of m) ∷ []
              accepted = ap (λ z. if z then p.accepted else p.accepted ++ asked_of p (event_of m) ∷ [])
                  (ap is_refused (same_bodies (p.count + 1) bodies
                  (body.GaveUp d.label (next_node x) ∷ body.Lost d.label (next_node x) ∷ said.has.0) p.lines (its_lines
                  ∙ (λ i. sym lines_are i ++ numbered (sym count_is i + 1) (body.GaveUp d.label (next_node x)
                  ∷ body.Lost d.label (next_node x) ∷ said.has.0)))))

      its_acts : (x : Event) → event_of m ≡ x → (moved m w).lines ≡ V.lines →
          walking.Acts hd form (Flags D) (flags_hear D) (flags_begun D) (flags_new D) x (counted (record w { arms = m.falls }))
      its_acts (event.Call l x o) is all = plain_acts (input.Call l x o) (node_of l w) (λ q how parent same. cc same) (λ q same. cc same)
      its_acts (event.Include l x n) is all = plain_acts (input.Include l x n) (node_of l w) (λ q how parent same. cc same)
          (λ q same. cc same)
      its_acts (event.Commit l) is all = plain_acts (input.Commit l) (node_of l w) (λ q how parent same. cc same) (λ q same. cc same)
      its_acts (event.Abort l) is all = plain_acts (input.Abort l) (node_of l w) (λ q how parent same. cc same) (λ q same. cc same)
      its_acts (event.GiveUp l) is all = giveup_acts l is all
      its_acts (event.Begin l n) is all = tt
      its_acts (event.Serial l n) is all = tt
      its_acts (event.BeginIn l q) is all = tt
      its_acts (event.Top l q) is all = tt
      its_acts (event.Deliver k) is all = tt
      its_acts (event.Lose k) is all = tt
      its_acts (event.Tick n) is all = tt
      its_acts event.Settle is all = tt
      its_acts event.Quiesce is all = tt
      its_acts (event.Crash n) is all = tt
      its_acts (event.Restart n) is all = tt
      its_acts (event.Stop n calls how) is all = tt
      its_acts (event.Junk n bytes) is all = tt
      its_acts (event.Show x) is all = tt

      ways_on : Ways hd form (Doomed (next p (event_of m) bodies)) (moved m w)
      ways_on = by (first_reason (reasons (event_of m) (record w { arms = m.falls }))) refl
        where
          is_so : (x : World) → run_unless (event_of m) (let a = m.asked in a.arm) (record w { arms = m.falls })
              (first_reason (reasons (event_of m) (record w { arms = m.falls }))) ≡ x → moved m w ≡ record x { arms = [] }
          is_so x is = ap (λ (y : World). record y { arms = [] }) ((λ i. cond (on i) (record w { arms = m.falls })
              (run_unless (event_of m) (let a = m.asked in a.arm) (record w { arms = m.falls })
              (first_reason (reasons (event_of m) (record w { arms = m.falls }))))) ∙ is)

          run : first_reason (reasons (event_of m) (record w { arms = m.falls })) ≡ None → moved m w ≡ record (limited V) { arms = [] } →
              Ways hd form (Doomed (next p (event_of m) bodies)) (moved m w)
          run none is =
              let full = limited_free V (sym (ap (λ (y : World). y.over) is) ∙ free) in
              let one : moved m w ≡ record V { arms = [] } = is ∙ ap (λ (y : World). record y { arms = [] }) (limited_same V full) in
              let after = walking.happens_stand hd form (Flags D) (flags_hear D) (flags_begun D) (flags_new D) (event_of m)
              (let a = m.asked in a.arm) (counted (record w { arms = m.falls })) known_then (same_reasons ∙ none)
              (its_acts (event_of m) refl (ap (λ (y : World). y.lines) one)) ways_then full in
              walking.same_stands hd form (Flags D) (flags_hear D) (flags_begun D) (flags_new D) V (moved m w)
              (ap (λ (y : World). y.nodes) one) (ap (λ (y : World). y.frames) one) after

          labelled : first_reason (reasons (event_of m) (record w { arms = m.falls })) ≡ None → (b : Bool) →
              lacks_labels (Words.giving (event_of m) (record w { arms = m.falls })) (record w { arms = m.falls }) ≡ b →
              Ways hd form (Doomed (next p (event_of m) bodies)) (moved m w)
          labelled none true lacks =
              let is = is_so (no_labels (record w { arms = m.falls }))
              (ap (run_unless (event_of m) (let a = m.asked in a.arm) (record w { arms = m.falls })) none
              ∙ (λ i. cond (lacks i) (no_labels (record w { arms = m.falls })) (limited V))) in
              keeps_it (moved m w) (ap (λ (y : World). y.nodes) is) (ap (λ (y : World). y.frames) is)
          labelled none false has = run none
              (is_so (limited V) (ap (run_unless (event_of m) (let a = m.asked in a.arm) (record w { arms = m.falls })) none
              ∙ (λ i. cond (has i) (no_labels (record w { arms = m.falls })) (limited V))))

          by : (o : Option ℕ) → first_reason (reasons (event_of m) (record w { arms = m.falls })) ≡ o →
              Ways hd form (Doomed (next p (event_of m) bodies)) (moved m w)
          by (Some c) refused =
              let is = is_so (says (body.Refused c ∷ []) (counted (record w { arms = m.falls })))
              (ap (run_unless (event_of m) (let a = m.asked in a.arm) (record w { arms = m.falls })) refused) in
              keeps_it (moved m w) (ap (λ (y : World). y.nodes) is) (ap (λ (y : World). y.frames) is)
          by None none = labelled none
              (lacks_labels (Words.giving (event_of m) (record w { arms = m.falls })) (record w { arms = m.falls })) refl

    -- ---- what it writes

    twelve : (c : ℕ) → ◌≡◌ {A = List Body} (body.Refused c ∷ []) (body.Refused 12 ∷ []) → c ≡ 12
    twelve c is = cc is

    -- what is refused with 12
    refused_so : refused_by_any (event_of m) (counted (record w { arms = m.falls })) ≡ Some 12 →
        (l : List ℕ) × (label_doomed (event_of m) ≡ Some l) × IsToldDoomed p l
    refused_so is =
        let r = twelve_doomed (event_of m) (counted (record w { arms = m.falls })) is in
        let x = r.2 in
        (name r.0, r.1, told_doomed hd form g p w s on x.number x.node x.parts x.there x.live r.0 x.branch x.named x.doomed)

    -- the action of a commit that was aborted as doomed
    module _ (l : Label) (rest bodies : List Body) (its_event : event_of m ≡ event.Commit l)
        (are : bodies ≡ body.Aborted l cause.Doomed ∷ rest)
        (free : refused_by_any (event_of m) (counted (record w { arms = m.falls })) ≡ None) (count : (moved m w).event ≡ w.event + 1)
        (lines : w.lines ++ block (w.event + 1) bodies ≡ (limited V).lines) where
      granted : running.Granted hd form m g p w stops s.base on
      granted = running.granted hd form m g p w stops s.base on free count

      none_so : first_reason (reasons (event.Commit l) (counted (record w { arms = m.falls }))) ≡ None
      none_so = ap (λ e. first_reason (reasons e (counted (record w { arms = m.falls })))) (sym its_event) ∙ same_reasons ∙ granted.none

      node_free : node_refusal (event.Commit l) (counted (record w { arms = m.falls })) ≡ None
      node_free = ap (λ e. node_refusal e (counted (record w { arms = m.falls }))) (sym its_event)
          ∙ sym (ap (λ f. joined f (node_refusal (event_of m) (counted (record w { arms = m.falls })))) (same_reasons ∙ granted.none))
          ∙ free

      -- the action isn't doomed
      module _ (n : Node) (c : Parts) (b : Branch) (there : at_place (node_of l w) w.nodes ≡ Some n) (live : n.live ≡ Some c)
          (named : branch_named l c.coord ≡ Some b) (off : b.doomed ≡ false) where
        h : Holds hd KnowsAll w
        h = s.base.base.halts

        said : (x : Body) × (is_doom x ≡ false) × Adds (Fronts (x ∷ [])) (counted (record w { arms = m.falls }))
            (steps (node_of l w) (input.Commit l) (counted (record w { arms = m.falls })))
        said =
            let up_there = acting.up (see h.sent w) h.holds (node_of l w) n c there live in
            let nm = named_at c.coord (let x = up_there.tops in x.names) l b named in
            let coord = acting.coord (see h.sent w) h.holds (node_of l w) n c there live in
            let act : actor b.path ≡ nm.act = coord.tree.lists.places nm.act b nm.found in
            commit_says (counted (record w { arms = m.falls })) (node_of l w) n c there live l b
            (ap (λ o. refused_at (input.Commit l) (counted (record w { arms = m.falls })) o) (sym there) ∙ node_free) named nm.doing
            (ap (λ z. doing_of z c.coord) act ∙ nm.does) off

        begins : (x : Body) × (is_doom x ≡ false) × ((more : List Body) × (bodies ≡ x ∷ more))
        begins =
            let a = said.2 in
            let more = limited_more (steps (node_of l w) (input.Commit l) (counted (record w { arms = m.falls }))) in (
              said.0,
              said.1,
              (
                a.has.0 ++ more.0,
                same_bodies (w.event + 1) bodies (said.0 ∷ (a.has.0 ++ more.0)) w.lines
                    (lines ∙ ap (λ e. (limited
                    (happens e (let z = m.asked in z.arm) (counted (record w { arms = m.falls })))).lines) its_event ∙ more.1
                    ∙ (λ i. (a.lines ∙ ap (λ bs. w.lines ++ numbered (w.event + 1) bs) a.has.1) i ++ numbered (a.event i) more.0)
                    ∙ append_assoc w.lines (numbered (w.event + 1) (said.0 ∷ a.has.0)) (numbered (w.event + 1) more.0)
                    ∙ ap (λ ls. w.lines ++ ls) (sym (blocks (w.event + 1) (said.0 ∷ a.has.0) more.0))),
              ),
            )

        never : {A : Type 0} → A
        never =
            let x = begins in
            let no_way : true ≡ false = ap begins_doom (sym are ∙ x.2.1) ∙ x.1 in absurd (cc no_way)

      by_doom : (n : Node) (c : Parts) (b : Branch) → at_place (node_of l w) w.nodes ≡ Some n → n.live ≡ Some c →
          branch_named l c.coord ≡ Some b → (z : Bool) → b.doomed ≡ z → IsToldDoomed p (name l)
      by_doom n c b there live named true doomed = told_doomed hd form g p w s on (node_of l w) n c there live l b named doomed
      by_doom n c b there live named false off = never n c b there live named off

      up : (n : Node) → at_place (node_of l w) w.nodes ≡ Some n → (o : Option Parts) → n.live ≡ o → IsToldDoomed p (name l)
      up n there None live = let no_way : ◌≡◌ {A = Option ℕ} (Some 6) None = sym (ap (refusal_at w.header (input.Commit l)) live)
          ∙ ap (λ o. refused_at (input.Commit l) (counted (record w { arms = m.falls })) o) (sym there) ∙ node_free in absurd (cc no_way)
      up n there (Some c) live = by (branch_named l c.coord) refl
          (sym (ap (refusal_at w.header (input.Commit l)) live)
          ∙ ap (λ o. refused_at (input.Commit l) (counted (record w { arms = m.falls })) o) (sym there) ∙ node_free)
        where
          by : (f : Option Branch) → branch_named l c.coord ≡ f → refused_by commit_reasons c.coord f ≡ None → IsToldDoomed p (name l)
          by None named none = absurd (cc none)
          by (Some b) named none = by_doom n c b there live named b.doomed refl

      aborted_so : IsToldDoomed p (name l)
      aborted_so =
          let q = refusing.labelled_so hd form m p w stops s.base.base on l (is_there l (counted (record w { arms = m.falls })) none_so) in
          up q.1 (ap (λ (o : Option Labelled). at_place (node_in o) w.nodes) q.2 ∙ q.3) (let n = q.1 in n.live) refl

    its_step : (bodies : List Body) → Came (event_of m) (let a = m.asked in a.arm) (counted (record w { arms = m.falls })) bodies →
        (moved m w).event ≡ w.event + 1 → DoomsStep hd p (event_of m) bodies
    its_step bodies (IsRefused c r is) count = record {
      refused = λ line. refused_so (r ∙ ap Some (twelve c (sym is ∙ line)));
      aborted = λ l rest event are. absurd (cc (sym is ∙ are));
    }
    its_step bodies (IsRun free isnt all) count = record {
      refused = λ line. (let no_way : true ≡ false = sym (ap is_refused line) ∙ isnt in absurd (cc no_way));
      aborted = λ l rest event are. aborted_so l rest bodies event are free count all;
    }

  -- the run up to an event, with some history
  abbrev pub Inv : Past → World → Type 0
  Inv p w = (g : History) × Stands hd form g p w

  pub goes : (m : Move) (p : Past) (w : World) → IsStoppedInForm m → Inv p w → w.over ≡ false → Outcome (DoomsStep hd) Inv m p w
  goes m p w stops x on = by (running.leaves hd form m x.0 p w stops (let s = x.1 in s.base) on)
    where
      by : Leaves hd form m x.0 p w stops (let s = x.1 in s.base) on → Outcome (DoomsStep hd) Inv m p w
      by (Ran bodies came after stands) =
          let s : Stands hd form x.0 p w = x.1 in
          Went bodies (its_step m x.0 p w stops s on bodies came (sym after.count ∙ ap (λ n. n + 1) s.base.base.base.count)) (
            past_event m.asked (record w { arms = m.falls }) x.0,
            record {
              base = stands;
              all = move_with hd Both (lined_keep hd) m x.0 w s.all;
              commits = move_with hd BasedBehind (behind_keep hd) m x.0 w s.commits;
              known = move_asked hd (λ M. AllKnown hd M × IsGood M) known_keep m w s.known;
              binds = move_asked hd (λ M. IsGood M × BindsAreKnown M) binds_kept m w s.binds;
              ways = λ free. ways_on m x.0 p w stops s on bodies free after.lines;
            },
          )
      by (Stopped over event lines past nodes) = Ended over event lines

  -- ---- runs

  no_doing : (b : Bool) (j : ℕ) (x : Doing) → cond b (at_place j []) None ≡ Some x → ⊥
  no_doing true zero x is = cc is
  no_doing true (suc j) x is = cc is
  no_doing false j x is = cc is

  pub first_stands : (st : Start) → IsFormed hd st → Stands hd form (no_history st) (at_start st) (world_from hd st)
  first_stands st formed = record {
    base = running.first_stands hd form st formed;
    all = record {
      now = record {
        sent = [];
        stands = first_places hd st;
        number = refl;
        wrote = ([], refl);
        holds = (let k = lined_keep hd in k.first st formed);
      };
      count = refl;
      lines = λ over. refl;
    };
    commits = record {
      now = record {
        sent = [];
        stands = first_places hd st;
        number = refl;
        wrote = ([], refl);
        holds = (let k = behind_keep hd in k.first st formed);
      };
      count = refl;
      lines = λ over. refl;
    };
    known = first_asked hd st (λ M. AllKnown hd M × IsGood M) formed known_keep;
    binds = first_asked hd st (λ M. IsGood M × BindsAreKnown M) formed binds_kept;
    ways = λ over. record {
      calls = λ k a t there live. (new k a t there live).0;
      trees = λ k a t there live. (new k a t there live).1;
      asked = λ k a t there live. (new k a t there live).2;
    };
  }
    where
      new : (k : ℕ) (a : Node) (t : Parts) → at_place k (world_from hd st).nodes ≡ Some a → a.live ≡ Some t →
          AreUnderWay k t.coord (IsUnderWay []) × Flags (Doomed (at_start st)) t.coord.tree × AreAsked k t.coord []
      new k a t there live = subst (λ (x : Parts). AreUnderWay k x.coord (IsUnderWay []) × Flags (Doomed (at_start st)) x.coord.tree
          × AreAsked k x.coord [])
          (first_up hd st k a t there live) (
            record {
              calls = λ u q s does now is. absurd (no_doing _ u.num q does);
              commits = λ u q m j does now left. absurd (no_doing _ u.num q does);
            },
            flags_new (Doomed (at_start st)) _ _,
            (λ x apart on. none_waits x on),
          )
        where
          none_waits : {A : Type 0} (x : Want) → Waits (let v = parts_in k (st.incs k + 1) (disk_by hd st k) in v.coord) x → A
          none_waits x (Calls u q s does now is) = absurd (no_doing _ u.num q does)
          none_waits x (Commits u q m j does now left is) = absurd (no_doing _ u.num q does)

pub dooms_have_causes : DoomsHaveCauses
dooms_have_causes hd r its =
    let form = its.header in
    runs_along (DoomsStep hd) (Inv hd form) IsStoppedInForm (λ p w s. let z = s.1 in z.base.base.base.lines)
    (λ p w s. let z = s.1 in z.base.base.base.count) (goes hd form) r.start r.moves
    (world_from hd r.start) its.stops (no_history r.start, first_stands hd form r.start r.formed)
