-- Event by event: each node that a giveup names is one that the action may wait for.
use Rattle.arj_law_parts.proofs.Words
use Words.{◌≡◌, ◌∙◌, ◌+◌, ◌++◌, ℕ, true, false, if◌then◌else◌, List, [], ◌∷◌, None, refl, sym, ap, subst}
use Words.{append-nil, append_assoc, bytes_eq-Decides, filter-append, Body, Event, Header, Label, Move, Arm, Start, Uid, World, actor}
use Words.{counted, happens, limited, moved, name, node_of, world_from, Doing}
use Words.{In, Now, Calling, Committing, Idle, Confirming, Preparing, Voting, Some, inl, inr, ◌⊎◌, list_all, is_committing_now, see}
use Words.body
use Words.cause
use Words.commit
use Words.event
use Words.input
use Rattle.arj_law_parts.proofs.moves.Reasons.{is_there}
use Rattle.arj_law_parts.specs.moves.Moments.{History, no_history}
use Rattle.arj_law_runs.proofs.follow.Along.{Ended, Outcome, Went, event_of, runs_along}
use Rattle.arj_law_runs.proofs.follow.Reasons.{refused_by_any}
use Rattle.arj_law_runs.proofs.follow.Refusing as refusing
use Rattle.arj_law_runs.proofs.follow.Refusing.{Came, IsRefused, IsRun, same_bodies}
use Rattle.arj_law_runs.proofs.follow.Walking.{behind_all}
use Rattle.arj_law_runs.specs.follow.Frames.{are_so, run_events}
use Rattle.arj_model.specs.Actions.{Act, act_in, acts}
use Rattle.arj_model.specs.Follows.{Runs}
use Rattle.arj_model.specs.CauseSpans.{Here, here_at}
use Rattle.arj_model.specs.Past.{Asked as AskedOf, Past, asked_of, at_start, block, is_refused, next}
use Rattle.arj_model.specs.Refusals.{asks_by, is_ask_by, is_committing}
use Rattle.arj_promise.specs.Runs.{HeaderFits, IsInForm, IsStoppedInForm, Run, journal_by}
use Rattle.arj_promise.specs.Starts.{IsFormed}
use Rattle.arj_law_lock_view.specs.asking.Asked.{accepted_of}
use Rattle.arj_law_cause.proofs.follow.causes.{Reasons.finds_giveup}
use Rattle.arj_law_cause.proofs.follow.lines.Adding as adding
use Rattle.arj_law_cause.proofs.follow.lines.Events as events
use Rattle.arj_law_cause.proofs.follow.lines.Fitting.{Limited, limit_parts, may_meet}
use Rattle.arj_law_cause.proofs.follow.lines.Rising.{IsRising}
use Rattle.arj_law_cause.proofs.follow.lines.Saying.{Led}
use Rattle.arj_law_cause.proofs.follow.lines.Steps.{first_lines, given_up_of, loses, lost_line}
use Rattle.arj_law_cause.proofs.follow.lines.Working.{works}
use Rattle.arj_law_cause.proofs.kinds.Walks.{so_both}
use Rattle.arj_law_cause.proofs.waits.doomed.Running as doomed
use Rattle.arj_law_cause.proofs.waits.doomed.Standing as standing
use Rattle.arj_law_cause.proofs.waits.given.Asked as asked
use Rattle.arj_law_cause.proofs.waits.given.Lines as given
use Rattle.arj_law_cause.proofs.waits.given.Lines.{MayWait, gave}
use Rattle.arj_law_cause.proofs.waits.given.Others.{goes_other, is_give_up, is_other, limit_other, lines_other, none_given, others_so}
use Rattle.arj_law_cause.proofs.waits.given.Asked.{WasSent}
use Rattle.arj_law_cause.proofs.waits.given.Stores.{EndsFirst, IsGivenSo, SaysFirst, StoresStep, all_uncalled, ends_first, named_so}
use Rattle.arj_law_cause.proofs.waits.given.Stores.{none_stores}
use Rattle.arj_law_cause.proofs.waits.waiting.Waiting.{commit_is}
use Rattle.arj_law_cause.proofs.kinds.Forms.{runs_too}
use Rattle.arj_law_cause.specs.follow.lines.Lines.{LinesStep}
use Rattle.arj_law_cause.specs.kinds.Kinds.{is_node_given_up}
use Rattle.arj_law_cause.specs.kinds.Rows.{RowHolds, RowStep, row}
use Rattle.arj_law_cause.specs.waits.doomed.Dooms.{DoomsStep}

-- each line that names a node has its cause, and of stores it says what is so
abbrev GivenStep : Header → Past → Event → List Body → Type 0
GivenStep hd p e bodies = RowStep (λ g. is_node_given_up) hd p e bodies × StoresStep hd p e bodies

-- a refusal names no node
refused_other : (h : Here) (bodies : List Body) (c : ℕ) → bodies ≡ body.Refused c ∷ [] → are_so (row (λ g. is_node_given_up)) h bodies ≡
    true
refused_other h bodies c is = ap (are_so (row (λ g. is_node_given_up)) h) is

module _ (hd : Header) (form : HeaderFits hd) where
  -- the run up to an event
  abbrev pub Inv : Past → World → Type 0
  Inv p w = events.Turned hd form p w × doomed.Inv hd form p w

  module _ (m : Move) (p : Past) (w : World) (stops : IsStoppedInForm m) (x : events.Turned hd form p w) (g : History)
      (s : standing.Stands hd form g p w) (on : w.over ≡ false) where
    abbrev arm : Arm
    arm = let a = m.asked in a.arm

    abbrev t : World
    t = counted (record w { arms = m.falls })

    lines_are : p.lines ≡ w.lines
    lines_are = s.base.base.base.lines

    -- ---- a giveup

    module _ (l : Label) (bodies : List Body) (none : refused_by_any (event.GiveUp l) t ≡ None) (isnt : is_refused bodies ≡ false)
        (lines : w.lines ++ block t.event bodies ≡ (limited (happens (event.GiveUp l) arm t)).lines) where
      q : adding.Asks hd form m p w stops x.base on l (input.GiveUp l)
      q = adding.asks_so hd form m p w stops x.base on l (input.GiveUp l) (finds_giveup l)
          (is_there l t (events.world_none hd form m p w stops x.base on (event.GiveUp l) none))
          (events.node_none hd form m p w stops x.base on (event.GiveUp l) none)

      abbrev o : adding.Works hd form m p w stops x.base on l (input.GiveUp l) q
      o = adding.works_so hd form m p w stops x.base on l (input.GiveUp l) q

      abbrev u : Uid
      u = let b = q.branch in actor b.path

      abbrev d : Doing
      d = o.doing

      -- its own lines
      abbrev Own : Label → List Body → Type 0
      Own k own = own ≡ gave k (given_up_of d.now)

      parts : Limited (Led (loses l) (Own l) (node_of l t)) t (happens (event.GiveUp l) arm t) bodies
      parts = limit_parts (Led (loses l) (Own l) (node_of l t)) t (happens (event.GiveUp l) arm t) bodies
          (adding.given_adds hd form m p w stops x.base on Own l q refl) lines

      same : (k : List ℕ) → asks_by (p.accepted ++ asked_of p (event.GiveUp l) ∷ []) k ≡ asks_by (accepted_of g.askings) k
      same k = filter-append (λ (a : AskedOf). is_ask_by k a.event) p.accepted (asked_of p (event.GiveUp l) ∷ [])
          ∙ append-nil (asks_by p.accepted k) ∙ s.base.asked k

      rise : IsRising d.now
      rise = let r = x.rising in r.holds.1 (node_of l t) q.node q.parts q.there q.live u o.doing o.does

      abbrev h : Here
      h = here_at hd p (event.GiveUp l) bodies

      own_so : are_so (row (λ g. is_node_given_up)) (here_at hd p (event.GiveUp l) bodies) (gave l (given_up_of d.now)) ≡ true
      own_so =
          let a = asked.f hd form g p w s on (node_of l t) q.node q.parts q.there q.live u d o.does
          (p.accepted ++ asked_of p (event.GiveUp l) ∷ []) same in
          given.lines_so (p.accepted ++ asked_of p (event.GiveUp l) ∷ []) p.lines l a.act
          (ap (λ ls. act_in (acts ls) (name l)) lines_are ∙ ap (λ k. act_in (acts w.lines) (name k)) (sym o.label) ∙ a.named)
          (here_at hd p (event.GiveUp l) bodies)
          (λ i. if isnt i then p.accepted else p.accepted ++ asked_of p (event.GiveUp l) ∷ []) refl
          ((bytes_eq-Decides (name l) (name l)).1 refl) [] (given_up_of d.now) (sym (append-nil p.lines))
          (asked.given_rise d.now rise)
          (λ n i. subst (λ ls. MayWait (p.accepted ++ asked_of p (event.GiveUp l) ∷ []) ls (name l) a.act n) (sym lines_are)
          (subst (λ k. MayWait (p.accepted ++ asked_of p (event.GiveUp l) ∷ []) w.lines (name k) a.act n) o.label
          (asked.all_may hd form g p w s on (node_of l t) q.node q.parts q.there q.live u d o.does
          (p.accepted ++ asked_of p (event.GiveUp l) ∷ []) same d.now refl rise n i)))

      given_so : RowStep (λ g. is_node_given_up) hd p (event.GiveUp l) bodies
      given_so =
          let led = parts.has in
          let r = row (λ g. is_node_given_up) in
          let h = here_at hd p (event.GiveUp l) bodies in
          subst (λ bs. are_so r h bs ≡ true)
          (sym (parts.parts ∙ ap (λ bs. bs ++ parts.last) led.parts ∙ append_assoc led.own led.others parts.last))
          (so_both r h led.own (led.others ++ parts.last) (ap (are_so r h) led.is_own ∙ own_so)
          (so_both r (behind_all h led.own) led.others parts.last
          (others_so (behind_all h led.own) led.others (goes_other l (node_of l t) led.others led.rest))
          (others_so (behind_all (behind_all h led.own) led.others) parts.last
          (limit_other parts.last (may_meet (Led (loses l) (Own l) (node_of l t)) t (happens (event.GiveUp l) arm t) bodies parts)))))

      -- ---- the same by what it says first

      first_parts : Limited (Led works (λ own. own ≡ first_lines l d.now) (node_of l t)) t (happens (event.GiveUp l) arm t) bodies
      first_parts = limit_parts (Led works (λ own. own ≡ first_lines l d.now) (node_of l t)) t (happens (event.GiveUp l) arm t) bodies
          (adding.first_adds hd form m p w stops x.base on l q) lines

      says_first : SaysFirst l d.now (node_of l t) bodies
      says_first = let led = first_parts.has in record {
        others = led.others;
        last = first_parts.last;
        are = first_parts.parts ∙ ap (λ bs. bs ++ first_parts.last) (led.parts ∙ ap (λ bs. bs ++ led.others) led.is_own);
        goes = led.rest;
        met = may_meet (Led works (λ own. own ≡ first_lines l d.now) (node_of l t)) t (happens (event.GiveUp l) arm t) bodies first_parts;
      }

      abbrev its_act : Act
      its_act = let a = asked.f hd form g p w s on (node_of l t) q.node q.parts q.there q.live u d o.does
          (p.accepted ++ asked_of p (event.GiveUp l) ∷ []) same in a.act

      its_name : act_in (acts p.lines) (name l) ≡ Some its_act
      its_name = let a = asked.f hd form g p w s on (node_of l t) q.node q.parts q.there q.live u d o.does
          (p.accepted ++ asked_of p (event.GiveUp l) ∷ []) same in
          ap (λ ls. act_in (acts ls) (name l)) lines_are ∙ ap (λ k. act_in (acts w.lines) (name k)) (sym o.label) ∙ a.named

      under_is : is_committing p.lines (name l) ≡ is_committing_now d.now
      under_is = ap (λ ls. is_committing ls (name l)) lines_are ∙ ap (λ k. is_committing w.lines (name k)) (sym o.label)
          ∙ commit_is (let h = s.base.base.halts in see h.sent w) (let h = s.base.base.halts in h.holds) (node_of l t) q.node q.parts
          q.there
          q.live u d o.does (asked.f hd form g p w s on (node_of l t) q.node q.parts q.there q.live u d o.does
          (p.accepted ++ asked_of p (event.GiveUp l) ∷ []) same)

      -- why it names a node
      why : (z : Now) → d.now ≡ z → (n : ℕ) → In n (given_up_of z) →
          WasSent p.lines (let a = its_act in a.uid) n ⊎ ((is_committing p.lines (name l) ≡ false) ⊎ EndsFirst l bodies)
      why Idle now n i = absurd i
      why (Calling y) now n i = inr (inl (under_is ∙ ap is_committing_now now))
      why (Committing (Voting y left)) now n i =
          inr (inr (ends_first l d.now (node_of l t) bodies says_first (cause.Lost (commit.first_of left)) (ap (lost_line l) now)))
      why (Committing (Preparing y left)) now n i = inl (subst (λ ls. WasSent ls (let a = its_act in a.uid) n) (sym lines_are)
          (asked.prepare_sent hd form g p w s on (node_of l t) q.node q.parts q.there q.live u d o.does
          (p.accepted ++ asked_of p (event.GiveUp l) ∷ []) same y left now n (asked.in_has left n i)))
      why (Committing (Confirming y)) now n i =
          inr (inr (ends_first l d.now (node_of l t) bodies says_first (cause.Lost 1) (ap (lost_line l) now)))

      stores_so : StoresStep hd p (event.GiveUp l) bodies
      stores_so k n i =
          let z = named_so l d.now (node_of l t) bodies says_first k n i in
          subst (λ j. IsGivenSo p.lines j n bodies) z.0 (record {
            act = its_act;
            named = its_name;
            uncalled = all_uncalled l d.now (node_of l t) bodies says_first;
            why = why d.now refl n z.1;
          })

    -- ---- an event

    -- it gives up whom it may, and of stores it says what is so
    event_so : (e : Event) (bodies : List Body) → Came e arm t bodies → LinesStep hd p e bodies → GivenStep hd p e bodies
    event_so e bodies (IsRefused c refused is) step = (
      refused_other (here_at hd p e bodies) bodies c is,
      none_stores hd p e bodies (ap (list_all is_other) is),
    )
    event_so e bodies (IsRun none isnt lines) step = by e none lines step
      where
        other : (e : Event) → is_give_up e ≡ false → LinesStep hd p e bodies → GivenStep hd p e bodies
        other e off step = (
          lines_other hd p e bodies off (step.lines isnt),
          none_stores hd p e bodies (none_given hd p e bodies off (step.lines isnt)),
        )

        by : (e : Event) → refused_by_any e t ≡ None → w.lines ++ block t.event bodies ≡ (limited (happens e arm t)).lines →
            LinesStep hd p e bodies → GivenStep hd p e bodies
        by (event.GiveUp l) none lines step = (given_so l bodies none isnt lines, stores_so l bodies none isnt lines)
        by (event.Begin l n) none lines step = other (event.Begin l n) refl step
        by (event.Serial l n) none lines step = other (event.Serial l n) refl step
        by (event.BeginIn l k) none lines step = other (event.BeginIn l k) refl step
        by (event.Top l k) none lines step = other (event.Top l k) refl step
        by (event.Call l k z) none lines step = other (event.Call l k z) refl step
        by (event.Include l k z) none lines step = other (event.Include l k z) refl step
        by (event.Commit l) none lines step = other (event.Commit l) refl step
        by (event.Abort l) none lines step = other (event.Abort l) refl step
        by (event.Deliver k) none lines step = other (event.Deliver k) refl step
        by (event.Lose k) none lines step = other (event.Lose k) refl step
        by (event.Tick k) none lines step = other (event.Tick k) refl step
        by event.Settle none lines step = other event.Settle refl step
        by event.Quiesce none lines step = other event.Quiesce refl step
        by (event.Crash k) none lines step = other (event.Crash k) refl step
        by (event.Restart k) none lines step = other (event.Restart k) refl step
        by (event.Stop n c k) none lines step = other (event.Stop n c k) refl step
        by (event.Junk n c) none lines step = other (event.Junk n c) refl step
        by (event.Show k) none lines step = other (event.Show k) refl step

  lines_turned : (p : Past) (w : World) → events.Turned hd form p w → p.lines ≡ w.lines
  lines_turned p w x = let s = x.base in s.base.base.lines

  lines_doomed : (p : Past) (w : World) → doomed.Inv hd form p w → p.lines ≡ w.lines
  lines_doomed p w s = let z = s.1 in z.base.base.base.lines

  pub goes : (m : Move) (p : Past) (w : World) → IsStoppedInForm m → Inv p w → w.over ≡ false →
      Outcome (GivenStep hd) Inv m p w
  goes m p w stops x on = by (events.goes hd form m p w stops x.0 on) (doomed.goes hd form m p w stops x.1 on)
    where
      by : Outcome (LinesStep hd) (events.Turned hd form) m p w → Outcome (DoomsStep hd) (doomed.Inv hd form) m p w →
          Outcome (GivenStep hd) Inv m p w
      by (Ended over event lines) other = Ended over event lines
      by (Went bodies step after) (Ended over event lines) = Ended over event lines
      by (Went bodies step after) (Went more also behind) =
          let same : more ≡ bodies = same_bodies (p.count + 1) more bodies p.lines
          (lines_doomed (next p (event_of m) more) (moved m w) behind ∙ sym (lines_turned (next p (event_of m) bodies) (moved m w) after))
          in
          let came = refusing.goes_with hd form m p w stops (let s = (let t = x.0 in t.base) in s.base) on bodies
          (let s = after.base in let b = s.base in b.base) in
          Went bodies (event_so m p w stops x.0 x.1.0 x.1.1 on (event_of m) bodies came.0 step)
          (after, subst (λ bs. doomed.Inv hd form (next p (event_of m) bs) (moved m w)) same behind)

  pub first_stands : (st : Start) → IsFormed hd st → Inv (at_start st) (world_from hd st)
  first_stands st formed = (events.first_turned hd form st formed, (no_history st, doomed.first_stands hd form st formed))

given_run : (hd : Header) (r : Run hd) → IsInForm hd r → Runs (GivenStep hd) r.start (run_events hd r) (journal_by hd r)
given_run hd r form =
    runs_along (GivenStep hd) (Inv hd form.header) IsStoppedInForm
    (λ p w x. lines_turned hd form.header p w x.0)
    (λ p w x. (let s = (let t = x.0 in t.base) in s.base.base.count))
    (λ m p w stops x on. goes hd form.header m p w stops x on) r.start r.moves (world_from hd r.start) form.stops
    (first_stands hd form.header r.start r.formed)

pub given_row : RowHolds is_node_given_up
given_row hd r form = runs_too (GivenStep hd) (RowStep (λ g. is_node_given_up) hd) (λ p e bs step. step.0) r.start (run_events hd r)
    (journal_by hd r) (given_run hd r form)

-- and of stores what is so, event by event
pub stores_run : (hd : Header) (r : Run hd) → IsInForm hd r → Runs (StoresStep hd) r.start (run_events hd r) (journal_by hd r)
stores_run hd r form = runs_too (GivenStep hd) (StoresStep hd) (λ p e bs step. step.1) r.start (run_events hd r)
    (journal_by hd r) (given_run hd r form)
