-- The row of ends that were told: where a server or naming says that it was told, a lock of the action or of one below it is in the table
-- of its node, and the action ended so.
use Rattle.arj_law_parts.proofs.Words
use Words.{⊤, ◌≡◌, ◌≤◌, ◌∙◌, ◌==◌, ◌&&◌, ◌||◌, ◌++◌, ◌+◌, not, ℕ, Bool, true, false, if◌then◌else◌, List, [], ◌∷◌, length, Some, None}
use Words.{refl, sym, ap, subst, arith, inl, inr, ⊎_elim, and_parts, list_all, list_any, AllByRecursion, Contains, in_from, in_to, is_on}
use Words.{uid_eq, nobody, Body, End, Event, Header, Line, Message, Start, Uid, Disk, Do, Effect, Say, Send, Handled, Parts}
use Words.{Naming, Option, Part, Took, Void, entry, eqb-true, handle, is_some, holders, query_about, AreAll, is_coord_effect}
use Words.{is_coord_line, acts as does, acts_own, again_all}
use Words.{again_own, all_both, begin_action, parent_of, restart_outs, tick_outs, tolds_again, tolds_again_own, World, Arm, Post, counted}
use Words.{Seen, run_event, numbered, map}
use Words.body
use Words.ending
use Words.event
use Words.input
use Rattle.arj_law_parts.proofs.moves.Happens.{Wide, arms_hold, wide_steps}
use Rattle.arj_law_parts.proofs.steps.Still.{Still, outs_of, says_still, taken_good}
use Rattle.arj_law_parts.specs.moves.Moments as moments
use Rattle.arj_law_parts.specs.moves.Moments.{History, MayTake, Moment, come, up}
use Rattle.arj_law_parts.specs.moves.Seen.{is_quiet_line}
use Rattle.arj_law_parts.specs.moves.Seen as seen
use Rattle.arj_law_parts.specs.moves.With.{look}
use Rattle.arj_law_parts.specs.parts.Ends.{brought, told_by}
use Rattle.arj_law_parts.specs.steps.Spoken.{SaidIn}
use Rattle.arj_law_runs.proofs.kept.Walked.{same_number}
use Rattle.arj_law_runs.specs.follow.Frames.{are_so, run_events}
use Rattle.arj_law_serial.proofs.Terms.{ShowsLocks, is_steady, memory_of, named_locks, rows_on, up_from, up_of}
use Rattle.arj_law_serial.proofs.holding.{Events.IsShown, Events.event_shown, Events.first_is_shown, Events.later_off, Facts.on_path}
use Rattle.arj_law_serial.proofs.holding.{Facts.someone, Lines.Since, Lines.since_all, Lines.ups_on, Messages.coord_or_steady}
use Rattle.arj_law_serial.proofs.holding.Running.{Showing, showing_kept}
use Rattle.arj_law_serial.proofs.holding.Says as saying
use Rattle.arj_law_serial.specs.past.Told.{ArePastIn, IsPast, SaysPast, ToldPast, live_in}
use Rattle.arj_model.specs.Actions.{begun_of}
use Rattle.arj_model.specs.Caused.{has_cause}
use Rattle.arj_model.specs.CauseLocks.{has_end_of, is_restart}
use Rattle.arj_model.specs.CauseSpans.{Here, act_by, behind, here_at, holds_in}
use Rattle.arj_model.specs.Follows.{Runs}
use Rattle.arj_model.specs.Past.{Along, Past, at_start, next}
use Rattle.arj_model.specs.Table.{is_in_part, table}
use Rattle.arj_promise.specs.Runs.{journal_by}
use Rattle.arj_law_cause.proofs.rows.Running.{Base, steps_both}
use Rattle.arj_law_cause.proofs.kinds.Aborts.{is_over_by}
use Rattle.arj_law_cause.proofs.kinds.Committed.{IsDecided, committed_so, decided_line, right_lines}
use Rattle.arj_law_cause.proofs.kinds.Ended.{IsOver, Known, known_all, message_ends, over_map}
use Rattle.arj_law_cause.proofs.kinds.Lines.{tested_row}
use Rattle.arj_law_cause.proofs.kinds.Over.{Ends, ends_quiet, ends_say}
use Rattle.arj_law_cause.proofs.kinds.Anew.{IsAnew, anew_step}
use Rattle.arj_law_cause.proofs.kinds.Numbered.{Rise}
use Rattle.arj_law_cause.proofs.kinds.Regained.{AllRise, IsRegained, its_place, regained_step, rising_keep}
use Rattle.arj_law_cause.proofs.kinds.Rowed.{HasRow, IsTableOf, NamesTable, Rowed, RowedBy, message_rowed, silent_rowed}
use Rattle.arj_law_cause.proofs.kinds.Running.{Knows, row_run}
use Rattle.arj_law_cause.proofs.kinds.Walks as walks
use Rattle.arj_law_cause.specs.kinds.Kinds.{is_told}
use Rattle.arj_law_cause.specs.kinds.Rows.{RowHolds, RowStep, TestedStep, row, tested}

-- ---- lines

-- a line of an end that was told, and one by which a node starts anew
abbrev of : Body → Bool
of (body.Told n u f p) = true
of (body.Up n i) = true
of b = false

-- the table has the row
abbrev has_row : Here → ℕ → Uid → Part → Bool
has_row h n u p = list_any (λ row. is_in_part p row && is_on row.holder u) (table n h.lines)

-- whoever is aborted is over, and the table has the row; and a node starts anew in a restart
abbrev passes : Here → Body → Bool
passes h (body.Told n u f p) = is_over_by h (body.Told n u f p) && has_row h n u p
passes h (body.Up n i) = is_restart h.event
passes h b = true

quiet : (b : Body) → is_quiet_line b ≡ true → of b ≡ false
quiet (body.Told n u f p) is = absurd (cc is)
quiet (body.Up n i) is = absurd (cc is)
quiet b is = refl

no_halt : (k : ℕ) → of (body.Halted k) ≡ false
no_halt k = refl

-- a line of no end that was told
abbrev is_free : Body → Bool
is_free b = not (is_told b)

coord_free : (b : Body) → is_coord_line b ≡ true → is_free b ≡ true
coord_free (body.Told n u f p) is = absurd (cc is)
coord_free b is = refl

abbrev is_none : Body → Bool
is_none b = not (of b)

coord_none : (b : Body) → is_coord_line b ≡ true → is_none b ≡ true
coord_none (body.Told n u f p) is = absurd (cc is)
coord_none (body.Up n i) is = absurd (cc is)
coord_none b is = refl

-- ---- no node starts anew in an event that is no restart

abbrev no_start : Body → Bool
no_start (body.Up n i) = false
no_start b = true

no_starts : (g : Here) → is_restart g.event ≡ false → (bs : List Body) → are_so (tested passes (λ h. of)) g bs ≡ true →
    list_all no_start bs ≡ true
no_starts g other [] all = refl
no_starts g other (b ∷ bs) all =
    let p = and_parts (tested passes (λ h. of) g b) (are_so (tested passes (λ h. of)) (behind g b) bs) all in
    λ i. one b p.0 i && no_starts (behind g b) other bs p.1 i
  where
    one : (b : Body) → tested passes (λ h. of) g b ≡ true → no_start b ≡ true
    one (body.Up n i) is = absurd (cc (sym other ∙ is))
    one b is = refl

same_start : (n e up : ℕ) (bs : List Body) → list_all no_start bs ≡ true → up_from n up (numbered e bs) ≡ up
same_start n e up [] all = refl
same_start n e up (b ∷ bs) all =
    let p = and_parts (no_start b) (list_all no_start bs) all in by b p.0 (same_start n e up bs p.1)
  where
    by : (b : Body) → no_start b ≡ true → up_from n up (numbered e bs) ≡ up → up_from n up (numbered e (b ∷ bs)) ≡ up
    by (body.Up m i) is ih = absurd (cc is)
    by b is ih = ih

-- ---- ends of actions

pub all_ends : (P : Uid → Type 0) (ends : List (Uid × End)) → ((u : Uid) (e : End) → Contains {X = Uid × End} ends (u, e) → P u) →
    AllByRecursion (λ (e : Uid × End). P e.0) ends
all_ends P [] each = tt
all_ends P (e ∷ ends) each = (
  each e.0 e.1 (in_to e (e ∷ ends) (inl refl)),
  all_ends P ends (λ u f c. each u f (in_to (u, f) (e ∷ ends) (inr (in_from (u, f) ends c)))),
)

-- ---- what a node says at a message

-- a restart, as moments have it
pub restart_is : (e : Event) → is_restart e ≡ true → moments.is_restart e ≡ true
restart_is (event.Restart n) is = refl
restart_is e is = absurd (cc is)

module _ (hd : Header) (st : Start) (q : Past) (e : Event) (w : World) (shown : IsShown hd w) (lines_are : q.lines ≡ w.lines)
    (count_is : q.count ≡ w.event) where
  abbrev Number : ℕ
  Number = w.event + 1

  -- what is known in the event: tables show locks, but those of a node that starts anew in it, whose server is empty while it restarts
  abbrev InIt : Moment → Type 0
  InIt M = (Known hd M × (Wide (Showing hd (length w.lines) Number) M × IsAnew Number M))
      × ((Known hd M × AllRise M) × (Wide (Showing hd (length w.lines) Number) M × IsRegained Number M))

  abbrev Inside : Moment → Type 0
  Inside = walks.Inside passes hd of quiet no_halt st q e

  abbrev Well : List Effect → List Line → Type 0
  Well es ls = walks.Well passes hd of quiet no_halt st q e es ls

  abbrev at : List Line → Here
  at ls = walks.here_behind passes hd of quiet no_halt st q e ls

  none_well : (es : List Effect) (ls : List Line) → saying.All is_none es → Well es ls
  none_well es ls all = walks.each_well passes hd of quiet no_halt st q e is_none (λ ms b is. λ i. is i || passes (at ms) b) es ls all

  coord_effects : (es : List Effect) → AreAll is_coord_effect es → saying.All is_none es
  coord_effects = saying.kind_says is_none is_coord_effect is_coord_line (λ b. refl) coord_none

  one_passes : (k : ℕ) (ls : List Line) (b : Body) → says_still (Say b) ≡ true → IsOver (Ends ls) b →
      HasRow k (q.count + 1) ls b → tested passes (λ g. of) (at ls) b ≡ true
  one_passes k ls (body.Up n i) still over row = absurd (cc still)
  one_passes k ls (body.Told n u ending.Abort p) still over row = λ i. over i && row i
  one_passes k ls (body.Told n u ending.Commit p) still over row = row
  one_passes k ls b still over row = refl

  begins_none : (b : Body) → is_steady b ≡ true → begun_of b ≡ None
  begins_none (body.Began l k u p) is = absurd (cc is)
  begins_none b is = refl

  served_well : (k : ℕ) (K : Uid → Type 0) (es : List Effect) (ls : List Line) → AllByRecursion (SaidIn (IsOver K)) es →
      saying.All is_steady es → Still es → Rowed k (q.count + 1) es ls → ((u : Uid) → K u → Ends ls u) → Well es ls
  served_well k K [] ls all steady still rows ends = tt
  served_well k K (Do x ∷ es) ls all steady still rows ends = served_well k K es ls all.1 steady
      (and_parts (says_still (Do x)) (list_all says_still es) still).1 rows ends
  served_well k K (Say b ∷ es) ls all steady still rows ends =
      let p = and_parts (is_steady b) (list_all (saying.says is_steady) es) steady in
      let s = and_parts (says_still (Say b)) (list_all says_still es) still in (
        one_passes k ls b s.0 (over_map K (Ends ls) ends b all.0) rows.0,
        served_well k K es (ls ++ numbered (q.count + 1) (b ∷ [])) all.1 p.1 s.1 rows.1
            (λ u its. ends_say ls (q.count + 1) b u (begins_none b p.0) (ends u its)),
      )
  served_well k K (Send to m ∷ es) ls all steady still rows ends = λ more are. served_well k K es (ls ++ numbered (q.count + 1) more) all.1
      steady (and_parts (says_still (Send to m)) (list_all says_still es) still).1 (rows more are)
      (λ u its. ends_quiet ls (q.count + 1) more u are (ends u its))

  -- tables show the locks of a node that takes a message, and did not start in the event
  module _ (k : ℕ) (d : Disk) (t : Parts) (M : Moment) (known : InIt (up k d t M)) (h : Inside M) where
    lines_now : M.seen.lines ≡ w.lines ++ numbered Number h.wrote
    lines_now = h.lines ∙ (λ i. lines_are i ++ numbered (count_is i + 1) h.wrote)

    here : memory_of ((up k d t M).seen.nodes k) ≡ Some t
    here = λ i. memory_of (if same_number k i then Some (record { number = k; disk = d; live = Some t }) else M.seen.nodes k)

    start_off : is_restart e ≡ false → (Number == up_of k M.seen.lines) ≡ false
    start_off other =
        let none = no_starts (walks.first_here passes hd of quiet no_halt st q e) other h.wrote h.fit in
        ap (λ n. Number == n) (ap (up_of k) lines_now ∙ ups_on k 0 w.lines (numbered Number h.wrote)
        ∙ same_start k Number (up_of k w.lines) h.wrote none)
        ∙ later_off (up_of k w.lines) w.event (shown.early k)

    shows_now : (Number == up_of k M.seen.lines) ≡ false → ShowsLocks k M.seen.lines (Some t)
    shows_now off =
        let z = known.0.1.0.2.2 in
        let s : ShowsLocks k M.seen.lines (memory_of ((up k d t M).seen.nodes k)) = z.shown
        (subst (Since Number (length w.lines)) (sym lines_now) (since_all Number h.wrote w.lines)) k off in
        subst (ShowsLocks k M.seen.lines) here s

    shown_now : (Number == up_of k M.seen.lines) ≡ false → IsTableOf k (q.count + 1) t.server M.seen.lines
    shown_now off x = let r = shows_now off in r.server x

    its_node : (let N = up k d t M in N.seen.nodes k) ≡ Some (record { number = k; disk = d; live = Some t })
    its_node = λ i. if same_number k i then Some (record { number = k; disk = d; live = Some t }) else M.seen.nodes k

    rises : (o : Naming) → t.naming ≡ Some o → Rise o
    rises o has = known.1.0.1 k (record { number = k; disk = d; live = Some t }) t its_node refl o has

    -- naming's table
    module _ (all : (k == 1) ≡ true → (x : ℕ) → rows_on (entry x) (table 1 M.seen.lines) ≡ named_locks x t.naming) where
      named_now : NamesTable k (q.count + 1) t.naming M.seen.lines
      named_now = by t.naming refl
        where
          base : Wide (Showing hd 0 0) (up k d t M)
          base = known.0.0.1

          place : is_some t.naming ≡ (k == 1)
          place = its_place hd 0 0 k d t M base

          by : (o : Option Naming) → t.naming ≡ o → NamesTable k (q.count + 1) o M.seen.lines
          by None is = tt
          by (Some o) is = λ x. all (sym place ∙ ap (λ (z : Option Naming). is_some z) is) x ∙ ap (named_locks x) is

    named_off : (Number == up_of k M.seen.lines) ≡ false → NamesTable k (q.count + 1) t.naming M.seen.lines
    named_off off = named_now (λ one x. (let r = shows_now off in
        (λ i. rows_on (entry x) (table (sym (eqb-true k 1 one) i) M.seen.lines)) ∙ r.naming x one))

    named_new : moments.is_restart M.past.event ≡ true → (Number == up_of k M.seen.lines) ≡ true →
        NamesTable k (q.count + 1) t.naming M.seen.lines
    named_new r new = named_now (λ one x. known.1.1.1 k (record { number = k; disk = d; live = Some t }) t its_node refl one r
        (h.number ∙ ap (λ n. n + 1) count_is) (ap (λ j. Number == up_of j M.seen.lines) (sym (eqb-true k 1 one)) ∙ new) x)

    rowed : (v : Parts) (from : ℕ) (m : Message) (outs : List Effect) →
        seen.In (record { from = from; to = k; message = m }) M.seen.sent → MayTake M.past.event m → handle k d t from m ≡ Took v outs →
        (b : Bool) → (Number == up_of k M.seen.lines) ≡ b → Rowed k (q.count + 1) outs M.seen.lines
    rowed v from m outs there may is true new = by (is_restart e) refl
      where
        by : (b : Bool) → is_restart e ≡ b → Rowed k (q.count + 1) outs M.seen.lines
        by false other = absurd (cc (sym (start_off other) ∙ new))
        by true restarts =
            let r : moments.is_restart M.past.event ≡ true = ap moments.is_restart h.event ∙ restart_is e restarts in
            let nothing = may r in
            subst (λ z. RowedBy k (q.count + 1) z M.seen.lines) is (silent_rowed k (q.count + 1) d t from M.seen.lines
            (known.0.1.1 r k (record { number = k; disk = d; live = Some t }) t
            (λ i. if same_number k i then Some (record { number = k; disk = d; live = Some t }) else M.seen.nodes k) refl new)
            rises (named_new r new) m nothing.0 nothing.1)
    rowed v from m outs there may is false off =
        subst (λ z. RowedBy k (q.count + 1) z M.seen.lines) is
        (message_rowed k (q.count + 1) d t from M.seen.lines told.keys (shown_now off) rises (named_off off) m
        (all_ends (λ u. uid_eq nobody u ≡ false) (brought m) (λ u f c. of_past u (says.brings u f c)))
        (all_ends (λ u. uid_eq nobody u ≡ false) (told_by m) (λ u f c. of_past u (says.told u f c))))
      where
        base : Wide (Showing hd 0 0) (up k d t M)
        base = known.0.0.1

        S : Seen
        S = seen.with_sent base.0 (let N = up k d t M in N.seen)

        past : ArePastIn base.2.0 S
        past = base.2.1.1.0.0

        says : SaysPast base.2.0 (λ j. live_in (S.nodes j)) (record { from = from; to = k; message = m })
        says = past.posts (record { from = from; to = k; message = m }) (base.1 (record { from = from; to = k; message = m }) there)

        told : ToldPast base.2.0 (λ j. live_in (S.nodes j)) k t
        told = (let n = past.nodes k (record { number = k; disk = d; live = Some t })
            (λ i. if same_number k i then Some (record { number = k; disk = d; live = Some t }) else M.seen.nodes k) in n.live t refl)

        of_past : (u : Uid) → IsPast base.2.0 (λ j. live_in (S.nodes j)) u → uid_eq nobody u ≡ false
        of_past u its =
            let good = base.2.1.0.1.0 in
            someone u (on_path base.2.0 good.begun base.2.1.1.0.1 its.0.0 (in_from its.0.0 base.2.0 its.0.1) u its.0.2)

  well : walks.SaysWell passes hd of quiet no_halt st q e InIt
  well = record {
    message = λ k d t v from m outs M known h there meant may is.
        let r = message_ends hd k d t v from m outs M known.0.0 there is in
        ⊎_elim {C = Well outs M.seen.lines} (λ own. none_well outs M.seen.lines (coord_effects outs own))
        (λ steady. served_well k (Ends M.seen.lines) outs M.seen.lines r.1 steady
        (subst (λ (x : Handled). Still (outs_of x)) ((λ i. if meant i then handle k d t from m else Void []) ∙ is) (taken_good k d t from
        m))
        (rowed k d t M known h v from m outs there may is (Number == up_of k M.seen.lines) refl) (λ u its. its))
        (coord_or_steady k d t v r.0 from m outs is);
    act = λ k d t i M is brings fresh asks free known h. none_well (does i d.intents t.coord).outs M.seen.lines
        (coord_effects (does i d.intents t.coord).outs (acts_own i d.intents t.coord));
    begin = λ k d t l how parent M brings fresh new gives none known h.
        let did = begin_action l how parent (parent_of parent t.coord) t.coord in
        none_well did.outs M.seen.lines (coord_effects did.outs (acts_own (input.Begin l how parent) d.intents t.coord));
    tick = λ k d t M known h.
        let r = again_all t.coord.doings t.coord in
        none_well (tick_outs (record { number = k; disk = d; live = Some t }) t) M.seen.lines
        (all_both (saying.says is_none) (r.outs ++ tolds_again t.coord.telling) (map query_about (holders d t))
        (all_both (saying.says is_none) r.outs (tolds_again t.coord.telling) (coord_effects r.outs (again_own t.coord.doings t.coord))
        (coord_effects (tolds_again t.coord.telling) (tolds_again_own t.coord.telling)))
        (saying.map_says is_none query_about (holders d t) (λ u. refl)));
    restart = λ k d M its fresh known h.
        let restarts : is_restart e ≡ true = ap is_restart (sym h.event ∙ its) in
        walks.each_well passes hd of quiet no_halt st q e is_free (λ ms b is. in_restart restarts ms b is) (restart_outs hd k (d.inc + 1) d)
        M.seen.lines (saying.restart_says is_free hd k (d.inc + 1) d coord_free (λ is u o how. refl) (λ u. refl) refl);
  }
    where
      in_restart : is_restart e ≡ true → (ms : List Line) (b : Body) → is_free b ≡ true → tested passes (λ g. of) (at ms) b ≡ true
      in_restart restarts ms (body.Told n u f p) is = absurd (cc is)
      in_restart restarts ms (body.Up n i) is = restarts
      in_restart restarts ms b is = refl

-- ---- runs

-- which stops are to fall is nothing to it
pub armed_shown : (hd : Header) (w : World) (arms : List (ℕ × Arm)) → IsShown hd w → IsShown hd (record w { arms = arms })
armed_shown hd w arms h = record { known = arms_hold hd Base arms w h.known; shown = h.shown; early = h.early }

pub least : (n : ℕ) → n ≤ n
least n = omega arith

-- as an event comes no node started in it
pub early_anew : (hd : Header) (w : World) → IsShown hd w → (g : History) (sent : List Post) → IsAnew (w.event + 1) (look g sent (counted
    w))
early_anew hd w b g sent r j n t there its new = absurd (cc (sym (later_off (up_of j w.lines) w.event (b.early j)) ∙ new))

early_regained : (hd : Header) (w : World) → IsShown hd w → (g : History) (sent : List Post) →
    IsRegained (w.event + 1) (look g sent (counted w))
early_regained hd w b g sent j n t there its one r num new x = absurd (cc (sym (later_off (up_of 1 w.lines) w.event (b.early 1)) ∙ new))

-- what is known of worlds: tables show locks between events
abbrev pub shown_knows : (hd : Header) → Knows hd (Known hd)
shown_knows hd = record {
  Between = IsShown hd;
  In = λ w M. Known hd M × (Wide (Showing hd (length w.lines) (w.event + 1)) M × IsAnew (w.event + 1) M);
  first = λ st formed. first_is_shown hd st formed;
  next = λ m w h. armed_shown hd (run_event m.asked (record w { arms = m.falls })) []
      (event_shown hd (record w { arms = m.falls }) (armed_shown hd w m.falls h) m.asked);
  arms = λ w arms h. armed_shown hd w arms h;
  opens = λ w e g sent b c. (
    c,
    (
      (
        c.1.0,
        c.1.1,
        (
          c.1.2.0,
          c.1.2.1,
          record {
            long = least (length w.lines);
            shown = λ since n off. b.shown n;
          },
        ),
      ),
      early_anew hd w b (come e g) sent,
    ),
  );
  steps = λ w b. let event = w.event + 1 in
      steps_both hd (Known hd) (λ M. Wide (Showing hd (length w.lines) event) M × IsAnew event M) (let k = known_all hd in k.steps)
      (steps_both hd (Wide (Showing hd (length w.lines) event)) (IsAnew event)
      (wide_steps hd ⊤ (Showing hd (length w.lines) event) (showing_kept hd (length w.lines) event ⊤ tt)) (anew_step event hd));
  back = λ w M c. c.0;
}

-- and naming's objects rise, and in a restart node 1 has naming's locks in its table as it starts anew
abbrev rowed_knows : (hd : Header) → Knows hd (λ M. Known hd M × AllRise M)
rowed_knows hd = record {
  Between = K.Between;
  In = λ w M. K.In w M × ((Known hd M × AllRise M) × (Wide (Showing hd (length w.lines) (w.event + 1)) M × IsRegained (w.event + 1) M));
  first = K.first;
  next = K.next;
  arms = K.arms;
  opens = λ w e g sent b c. let o = K.opens w e g sent b c.0 in (o, (c, (o.1.0, early_regained hd w b (come e g) sent)));
  steps = λ w b. let event = w.event + 1 in
      steps_both hd (K.In w) (λ M. (Known hd M × AllRise M) × (Wide (Showing hd (length w.lines) event) M × IsRegained event M)) (K.steps
      w b)
      (steps_both hd (λ M. Known hd M × AllRise M) (λ M. Wide (Showing hd (length w.lines) event) M × IsRegained event M)
      (let k = rising_keep hd in k.steps) (regained_step event hd (length w.lines) event
      (wide_steps hd ⊤ (Showing hd (length w.lines) event) (showing_kept hd (length w.lines) event ⊤ tt))));
  back = λ w M c. c.1.0;
}
  where
    K : Knows hd (Known hd)
    K = shown_knows hd

-- lines of fewer kinds
fewer_so : (test : Here → Body → Bool) (all some : Body → Bool) → ((b : Body) → some b ≡ true → all b ≡ true) → (h : Here) (bs : List
    Body) →
    are_so (tested test (λ g. all)) h bs ≡ true → are_so (tested test (λ g. some)) h bs ≡ true
fewer_so test all some to h [] passed = refl
fewer_so test all some to h (b ∷ bs) passed =
    let p = and_parts (tested test (λ g. all) h b) (are_so (tested test (λ g. all)) (behind h b) bs) passed in
    λ i. one (some b) refl p.0 i && fewer_so test all some to (behind h b) bs p.1 i
  where
    one : (x : Bool) → some b ≡ x → (not (all b) || test h b) ≡ true → (not x || test h b) ≡ true
    one false other passed = refl
    one true its passed = (λ i. not (sym (to b its) i) || test h b) ∙ passed

pub fewer_along : (test : Here → Body → Bool) (all some : Body → Bool) → ((b : Body) → some b ≡ true → all b ≡ true) → (hd : Header) →
    (es : List Event) (p end : Past) → Along (TestedStep test (λ h. all) hd) p es end → Along (TestedStep test (λ h. some) hd) p es end
fewer_along test all some to hd [] p end a = a
fewer_along test all some to hd (e ∷ es) p end a =
    (a.0, fewer_so test all some to (here_at hd p e a.0) a.0 a.1, fewer_along test all some to hd es (next p e a.0) end a.2)

-- what is so of a line of these kinds: nothing is asked of one by which a node starts anew
abbrev told_or_starts : Here → Body → Bool
told_or_starts h (body.Up n i) = true
told_or_starts h b = has_cause h b

both_so : (over row its : Bool) → (over && row) ≡ true → (over ≡ true → its ≡ true) → (row && its) ≡ true
both_so true true its is to = to refl
both_so true false its is to = absurd (cc is)
both_so false row its is to = absurd (cc is)

to_cause : (h : Here) (b : Body) → of b ≡ true → IsDecided h.lines b → passes h b ≡ true → told_or_starts h b ≡ true
to_cause h (body.Told n u ending.Abort p) its k is = both_so
    (is_over_by h (body.Told n u ending.Abort p)) (has_row h n u p)
    (holds_in (λ a. has_end_of h.lines a ending.Abort) (act_by h.lines u)) is (λ over. over)
to_cause h (body.Told n u ending.Commit p) its k is = both_so true (has_row h n u p)
    (holds_in (λ a. has_end_of h.lines a ending.Commit) (act_by h.lines u)) is
    (λ over. committed_so h u k.distinct k.caused)
to_cause h (body.Up n i) its k is = refl
to_cause h b its k is = absurd (cc its)

its_told : (b : Body) → is_told b ≡ true → of b ≡ true
its_told (body.Told n u f p) is = refl
its_told b is = absurd (cc is)

told_so : (h : Here) (bs : List Body) → are_so (tested told_or_starts (λ g. is_told)) h bs ≡ true →
    are_so (row (λ g. is_told)) h bs ≡ true
told_so h [] all = refl
told_so h (b ∷ bs) all =
    let p = and_parts (tested told_or_starts (λ g. is_told) h b) (are_so (tested told_or_starts (λ g. is_told)) (behind h b) bs)
    all in λ i. one b p.0 i && told_so (behind h b) bs p.1 i
  where
    one : (b : Body) → tested told_or_starts (λ g. is_told) h b ≡ true → row (λ g. is_told) h b ≡ true
    one (body.Up n i) is = refl
    one b is = is

told_along : (hd : Header) (es : List Event) (p end : Past) → Along (TestedStep told_or_starts (λ h. is_told) hd) p es end →
    Along (RowStep (λ h. is_told) hd) p es end
told_along hd [] p end a = a
told_along hd (e ∷ es) p end a = (a.0, told_so (here_at hd p e a.0) a.0 a.1, told_along hd es (next p e a.0) end a.2)

pub told_row : RowHolds is_told
told_row hd r form =
    let lines = journal_by hd r in
    let keeps = rising_keep hd in
    let runs : Runs (TestedStep told_or_starts (λ h. of) hd) r.start (run_events hd r) lines =
    tested_row IsDecided of passes told_or_starts to_cause lines (decided_line lines (right_lines hd r))
    hd r.start (run_events hd r)
    (row_run passes of quiet no_halt hd (λ M. Known hd M × AllRise M) keeps (rowed_knows hd)
    (λ st q e w between lines count. well hd st q e w between lines count) r form) in (
      runs.0,
      runs.1,
      told_along hd (run_events hd r) (at_start r.start) runs.0
          (fewer_along told_or_starts of is_told its_told hd (run_events hd r) (at_start r.start) runs.0 runs.2),
      runs.3,
      runs.4,
    )
