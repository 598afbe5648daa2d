-- The lines of ends that a node says at a message are of actions that are over: whoever was told of has ended where it began, and so has
-- whoever began below.
use Rattle.arj_law_parts.proofs.Words
use Words.{⊤, ◌≡◌, ◌∙◌, ◌&&◌, ◌||◌, ◌++◌, ◌+◌, not, ℕ, Bool, true, false, if◌then◌else◌, cond, List, [], ◌∷◌, Option, Some, None, refl}
use Words.{sym, ap, subst, inl, inr, ⊎_elim, ◌⊎◌, and_parts, list_all, list_any, AllByRecursion, Contains, filter}
use Words.{in_from, in_to, is_on, last_uid, uid_eq, uid_is, Body, End, Event, Header, Line, Message, Row, Start, Uid}
use Words.{Disk, Do, Effect, Say, Send, Named, Naming, loses, loses_row, orphans, Parts, Took, handle, holders, query_about}
use Words.{AreAll, is_coord_effect, is_coord_line, acts as does, acts_own, again_all, again_own, all_both, begin_action}
use Words.{parent_of, restart_outs, tick_outs, tolds_again, tolds_again_own, Node, ObjectState, Seen, numbered, map}
use Words.body
use Words.ending
use Words.input
use Words.part
use Words.role
use Rattle.arj_law_disk_view.proofs.running.Holders.{constituent}
use Rattle.arj_law_disk_view.specs.running.Places.{HasNaming, IsEntryRow, AreNamesRows}
use Rattle.arj_law_parts.proofs.moves.Happens.{Wide, wide_kept}
use Rattle.arj_law_parts.specs.moves.Moments.{Moment, up}
use Rattle.arj_law_parts.specs.moves.Seen.{is_quiet_line}
use Rattle.arj_law_parts.specs.moves.Seen as seen
use Rattle.arj_law_parts.specs.moves.With.{KeepsAll}
use Rattle.arj_law_parts.specs.parts.{Actions.Action, Actions.act_of, Ends.brought, Ends.told_by}
use Rattle.arj_law_parts.specs.steps.Spoken.{SaidIn}
use Rattle.arj_law_runs.proofs.follow.Halts.{KnowsAll, KnowsHalts, halts_keep}
use Rattle.arj_law_runs.proofs.journal.Paths.{IsPathedOf}
use Rattle.arj_law_runs.proofs.kept.Walked.{same_number}
use Rattle.arj_law_runs.specs.follow.Frames.{run_events}
use Rattle.arj_law_serial.proofs.Terms.{is_steady}
use Rattle.arj_law_serial.proofs.holding.Events.{first_showing}
use Rattle.arj_law_serial.proofs.holding.Facts.{Facts}
use Rattle.arj_law_serial.proofs.holding.Messages.{coord_or_steady}
use Rattle.arj_law_serial.proofs.holding.Running.{Showing, showing_kept}
use Rattle.arj_law_serial.proofs.holding.Says as saying
use Rattle.arj_law_serial.specs.past.Told.{IsClosedAt, IsPast, SaysPast, ToldPast, live_in}
use Rattle.arj_model.specs.Actions.{begun_of}
use Rattle.arj_model.specs.CauseSpans.{Here}
use Rattle.arj_model.specs.Follows.{Runs}
use Rattle.arj_model.specs.Past.{Past}
use Rattle.arj_promise.specs.Runs.{IsInForm, Run, journal_by}
use Rattle.arj_law_parts.specs.moves.Keeps.{IsAtStarts}
use Rattle.arj_law_cause.proofs.kinds.Nodes.{wide_all}
use Rattle.arj_law_cause.proofs.kinds.Over.{Ends, below_ends, ends_quiet, ends_say, past_ends}
use Rattle.arj_law_cause.proofs.kinds.Running.{nothing_more, row_run}
use Rattle.arj_law_cause.proofs.kinds.Tells.{AskPrepares, FitsEnds, SaysBy, is_of_ends, message_all}
use Rattle.arj_law_cause.proofs.kinds.Walks as walks
use Rattle.arj_law_cause.proofs.rows.{Holders.one_passes, Running.steps_both}
use Rattle.arj_law_cause.specs.kinds.Rows.{TestedStep, tested}

-- ---- what is known at each moment

-- nodes' halts, and whom they told
abbrev pub Known : Header → Moment → Type 0
Known hd M = Wide KnowsAll M × Wide (Showing hd 0 0) M

pub known_all : (hd : Header) → KeepsAll hd (Known hd)
known_all hd =
    let a = wide_all hd KnowsAll (halts_keep hd) in
    let b = wide_kept hd (IsAtStarts hd (Showing hd 0 0)) (Showing hd 0 0)
    (showing_kept hd 0 0 (IsAtStarts hd (Showing hd 0 0)) (first_showing hd 0)) in
    record {
      opens = λ e M fresh number h. (a.opens e M fresh number h.0, b.opens e M fresh number h.1);
      closes = λ bodies M number lines h. (a.closes bodies M number lines h.0, b.closes bodies M number lines h.1);
      steps = steps_both hd (Wide KnowsAll) (Wide (Showing hd 0 0)) a.steps b.steps;
      first = λ st formed. (a.first st formed, ([], (λ p i. i), b.first st formed));
    }

-- ---- of whose ends a message speaks

-- whom a line says aborted is one of these
abbrev pub IsOver : (Uid → Type 0) → Body → Type 0
IsOver K (body.Told n u ending.Abort p) = K u
IsOver K (body.Done n u r ending.Abort) = K u
IsOver K b = ⊤

any_all : {A : Type 0} (P : A → Type 0) (f : A → Bool) (xs : List A) → AllByRecursion P xs → list_any f xs ≡ true →
    (x : A) × P x × (f x ≡ true)
any_all P f [] all is = absurd (cc is)
any_all {A} P f (x ∷ xs) all is = by (f x) refl is (any_all P f xs all.1)
  where
    by : (b : Bool) → f x ≡ b → (b || list_any f xs) ≡ true → (list_any f xs ≡ true → (y : A) × P y × (f y ≡ true)) →
        (y : A) × P y × (f y ≡ true)
    by true on is ih = (x, all.0, on)
    by false off is ih = ih is

filtered : (f : Uid → Bool) (us : List Uid) (a : Uid) → is_on (filter f us) a ≡ true → f a ≡ true
filtered f [] a is = absurd (cc is)
filtered f (u ∷ us) a is = by (f u) refl (filtered f us a) is
  where
    by : (b : Bool) → f u ≡ b → (is_on (filter f us) a ≡ true → f a ≡ true) → is_on (cond b (u ∷ filter f us) (filter f us)) a ≡ true →
        f a ≡ true
    by false off ih on = ih on
    by true its ih on = one (uid_eq u a) refl on
      where
        one : (c : Bool) → uid_eq u a ≡ c → (c || is_on (filter f us) a) ≡ true → f a ≡ true
        one true same on = ap f (sym (uid_is u a same)) ∙ its
        one false other on = ih on

module _ (begun : List Action) (S : Seen) (pathed : IsPathedOf begun S) (halts : KnowsHalts S) (facts : Facts begun S) where
  abbrev lives : ℕ → Option Parts
  lives j = live_in (S.nodes j)

  -- whoever loses a row at naming with one that is past began below it
  lost_ends : (u act : Uid) (n : Naming) (d : Words.Pair) → AreNamesRows begun (Some n) → IsPast begun lives u →
      is_on (orphans u d n) act ≡ true → Ends S.lines act
  lost_ends u act n d rows past on =
      let is = and_parts (not (uid_eq act u)) (loses_row u act n)
      (filtered (λ (a : Uid). not (uid_eq a u) && loses_row u a n) (map (λ (p : Uid × List ObjectState). p.0) d.pend) act on) in
      let at = any_all (λ (e : ℕ × Named). (r : Row) → Contains (let o = e.1 in o.rows) r → IsEntryRow begun r)
      (λ (e : ℕ × Named). list_any (loses u act) e.1.rows) n.objects rows is.1 in
      let r = one_passes (loses u act) (let o = (let e = at.0 in e.1) in o.rows) at.2 in
      let l = and_parts (uid_eq (last_uid r.0.holder) act) (is_on r.0.holder u) r.2 in
      by r.0 (uid_is (last_uid r.0.holder) act l.0) l.1 is.0 (at.1 r.0 (in_to r.0 (let o = (let e = at.0 in e.1) in o.rows) r.1))
    where
      no_one : (c : Bool) → c ≡ true → not c ≡ true → ⊥
      no_one true on off = cc off
      no_one false on off = cc on

      one : (w : Uid) → is_on (w ∷ []) u ≡ true → w ≡ act → not (uid_eq act u) ≡ true → ⊥
      one w on same other = no_one (uid_eq act u) (ap (λ z. uid_eq z u) (sym same) ∙ sym (or_false (uid_eq w u)) ∙ on) other
        where
          or_false : (b : Bool) → (b || false) ≡ b
          or_false true = refl
          or_false false = refl

      by : (r : Row) → last_uid r.holder ≡ act → is_on r.holder u ≡ true → not (uid_eq act u) ≡ true → IsEntryRow begun r → Ends S.lines act
      by r last on other (inl f) = absurd (one f.0 (ap (λ us. is_on us u) (sym f.2) ∙ on) (ap last_uid (sym f.2) ∙ last) other)
      by r last on other (inr f) =
          let good = pathed.1.0 in
          let q = constituent begun good.begun f.0 f.1 f.2 in
          let is : act_of f.0 ≡ act = ap last_uid (sym (f.3 ∙ q.3)) ∙ last in
          subst (Ends S.lines) is
          (below_ends begun S pathed halts f.0 q.0 (in_from f.0 begun f.1) q.3
          (subst (λ (w : Uid). IsClosedAt w (live_in (S.nodes w.node))) (sym (above q.0 f.0 (f.3 ∙ q.3) is)) past.1))
        where
          above : (s a : Action) → r.holder ≡ act_of s ∷ act_of a ∷ [] → act_of a ≡ act → act_of s ≡ u
          above s a path same = at (uid_eq (act_of s) u) refl (ap (λ us. is_on us u) (sym path) ∙ on)
            where
              at : (c : Bool) → uid_eq (act_of s) u ≡ c → (c || is_on (act_of a ∷ []) u) ≡ true → act_of s ≡ u
              at true is on = uid_is (act_of s) u is
              at false is on = absurd (one (act_of a) on same other)

  -- whoever has ended by what came, and what is lost with that
  pub comes_ended : (k : ℕ) (d : Disk) (t : Parts) (from : ℕ) (m : Message) →
      SaysPast begun lives (record { from = from; to = k; message = m }) → ToldPast begun lives k t →
      FitsEnds (IsOver (Ends S.lines)) k d t m
  comes_ended k d t from m says told = record {
    server = λ u e f c. over_told k u f part.Server (⊎_elim {C = Ends S.lines u} (λ i. of_told u e i) (λ i. of_brought u e i) c);
    naming = λ u e f c. over_told 1 u f part.Naming (of_told u e c);
    store = λ u e c. over_done k u role.Store e (of_told u e c);
    names = λ u e c. over_done 1 u role.Names e (of_told u e c);
    orphans = λ u e o act c there on. lost_ends u act o d.names (subst (AreNamesRows begun) there told.entries) (says.told u e c) on;
    prepares = λ h a is. over_prepared h a;
  }
    where
      of_told : (u : Uid) (e : End) → Contains {X = Uid × End} (told_by m) (u, e) → Ends S.lines u
      of_told u e c = past_ends begun S pathed halts u (says.told u e c)

      of_brought : (u : Uid) (e : End) → Contains {X = Uid × End} (brought m) (u, e) → Ends S.lines u
      of_brought u e c = past_ends begun S pathed halts u (says.brings u e c)

      over_told : (n : ℕ) (u : Uid) (f : End) (p : Words.Part) → Ends S.lines u → IsOver (Ends S.lines) (body.Told n u f p)
      over_told n u ending.Abort p ends = ends
      over_told n u ending.Commit p ends = tt

      over_prepared : (h : Words.Head) (a : Words.Ask) → AskPrepares (IsOver (Ends S.lines)) k h a
      over_prepared h (Words.ask.Prepare states) = tt
      over_prepared h (Words.ask.Confirm grants excluded included) = λ some. tt
      over_prepared h a = tt

      over_done : (n : ℕ) (u : Uid) (r : Words.Role) (f : End) → Ends S.lines u → IsOver (Ends S.lines) (body.Done n u r f)
      over_done n u r ending.Abort ends = ends
      over_done n u r ending.Commit ends = tt

others_over : (K : Uid → Type 0) (b : Body) → is_of_ends b ≡ false → IsOver K b
others_over K (body.Told n u e p) is = absurd (cc is)
others_over K (body.Done n u r e) is = absurd (cc is)
others_over K b is = tt

-- At a moment: the lines of ends that a node says at a message are of actions that are over.
pub message_ends : (hd : Header) (k : ℕ) (d : Disk) (t v : Parts) (from : ℕ) (m : Message) (outs : List Effect) (M : Moment) →
    Known hd (up k d t M) → seen.In (record { from = from; to = k; message = m }) M.seen.sent → handle k d t from m ≡ Took v outs →
    HasNaming k t × AllByRecursion (SaidIn (IsOver (Ends M.seen.lines))) outs
message_ends hd k d t v from m outs M known there is =
    let base = known.1 in
    let halts = known.0.2.1 in
    let begun = base.2.0 in
    let S = seen.with_sent base.0 (let N = up k d t M in N.seen) in
    let pathed = base.2.1.0 in
    let facts = base.2.1.1 in
    let past = facts.0.0 in
    let n : Node = record { number = k; disk = d; live = Some t } in
    let told = (let q = past.nodes k n (λ i. if same_number k i then Some (record { number = k; disk = d; live = Some t })
    else M.seen.nodes k) in q.live t refl) in (
      told.place,
      subst (SaysBy (IsOver (Ends M.seen.lines)) (others_over (Ends M.seen.lines))) is
          (message_all (IsOver (Ends M.seen.lines)) (others_over (Ends M.seen.lines)) k d t from m
          (comes_ended begun S pathed halts facts k d t from m
          (past.posts (record { from = from; to = k; message = m }) (base.1 (record { from = from; to = k; message = m }) there)) told)),
    )

-- ---- lines of a kind

or_none : (b : Body) → is_steady b ≡ true → begun_of b ≡ None
or_none (body.Began l k u p) is = absurd (cc is)
or_none b is = refl

pub over_map : (K L : Uid → Type 0) → ((u : Uid) → K u → L u) → (b : Body) → IsOver K b → IsOver L b
over_map K L to (body.Told n u ending.Abort p) its = to u its
over_map K L to (body.Done n u r ending.Abort) its = to u its
over_map K L to b its = tt

-- A kind of lines that neither coordinators say nor restarts: what passes where whoever is aborted is over passes in every run.
module _ (test : Here → Body → Bool) (of : Body → Bool) (quiet : (b : Body) → is_quiet_line b ≡ true → of b ≡ false)
    (halts : (k : ℕ) → of (body.Halted k) ≡ false) (coord : (b : Body) → is_coord_line b ≡ true → not (of b) ≡ true)
    (granted : (u o : Uid) (how : Words.Mode) → not (of (body.Granted 1 u o how)) ≡ true)
    (found : (n : ℕ) (u : Uid) → not (of (body.Recovered n u)) ≡ true) (ups : (n i : ℕ) → not (of (body.Up n i)) ≡ true)
    (pass : (h : Here) (b : Body) → IsOver (Ends h.lines) b → tested test (λ g. of) h b ≡ true) where
  abbrev none_by : Body → Bool
  none_by b = not (of b)

  coord_effects : (es : List Effect) → AreAll is_coord_effect es → saying.All none_by es
  coord_effects = saying.kind_says none_by is_coord_effect is_coord_line (λ b. refl) coord

  module _ (hd : Header) (st : Start) (q : Past) (e : Event) where
    abbrev Well : List Effect → List Line → Type 0
    Well es ls = walks.Well test hd of quiet halts st q e es ls

    abbrev at : List Line → Here
    at ls = walks.here_behind test hd of quiet halts st q e ls

    none_well : (es : List Effect) (ls : List Line) → saying.All none_by es → Well es ls
    none_well es ls all = walks.each_well test hd of quiet halts st q e none_by (λ ms b is. λ i. is i || test (at ms) b) es ls all

    over_well : (K : Uid → Type 0) (es : List Effect) (ls : List Line) → AllByRecursion (SaidIn (IsOver K)) es →
        saying.All is_steady es → ((u : Uid) → K u → Ends ls u) → Well es ls
    over_well K [] ls all steady ends = tt
    over_well K (Do w ∷ es) ls all steady ends = over_well K es ls all.1 steady ends
    over_well K (Say b ∷ es) ls all steady ends =
        let p = and_parts (is_steady b) (list_all (saying.says is_steady) es) steady in (
          pass (at ls) b (over_map K (Ends ls) ends b all.0),
          over_well K es (ls ++ numbered (q.count + 1) (b ∷ [])) all.1 p.1
              (λ u its. ends_say ls (q.count + 1) b u (or_none b p.0) (ends u its)),
        )
    over_well K (Send to m ∷ es) ls all steady ends = λ more are. over_well K es (ls ++ numbered (q.count + 1) more) all.1 steady
        (λ u its. ends_quiet ls (q.count + 1) more u are (ends u its))

    well : walks.SaysWell test hd of quiet halts st q e (Known hd)
    well = record {
      message = λ k d t v from m outs M known h there meant may is.
          let r = message_ends hd k d t v from m outs M known there is in
          ⊎_elim {C = Well outs M.seen.lines} (λ own. none_well outs M.seen.lines (coord_effects outs own))
          (λ steady. over_well (Ends M.seen.lines) outs M.seen.lines r.1 steady (λ u its. its))
          (coord_or_steady k d t v r.0 from m outs is);
      act = λ k d t i M is brings fresh asks free known h. none_well (does i d.intents t.coord).outs M.seen.lines
          (coord_effects (does i d.intents t.coord).outs (acts_own i d.intents t.coord));
      begin = λ k d t l how parent M brings fresh new gives none known h.
          let did = begin_action l how parent (parent_of parent t.coord) t.coord in
          none_well did.outs M.seen.lines (coord_effects did.outs (acts_own (input.Begin l how parent) d.intents t.coord));
      tick = λ k d t M known h.
          let r = again_all t.coord.doings t.coord in
          none_well (tick_outs (record { number = k; disk = d; live = Some t }) t) M.seen.lines
          (all_both (saying.says none_by) (r.outs ++ tolds_again t.coord.telling) (map query_about (holders d t))
          (all_both (saying.says none_by) r.outs (tolds_again t.coord.telling) (coord_effects r.outs (again_own t.coord.doings t.coord))
          (coord_effects (tolds_again t.coord.telling) (tolds_again_own t.coord.telling)))
          (saying.map_says none_by query_about (holders d t) (λ u. refl)));
      restart = λ k d M its fresh known h. none_well (restart_outs hd k (d.inc + 1) d) M.seen.lines
          (saying.restart_says none_by hd k (d.inc + 1) d coord (λ is u o how. granted u o how) (λ u. found k u) (ups k (d.inc + 1)));
    }

  -- in every run
  pub over_run : (hd : Header) (r : Run hd) → IsInForm hd r →
      Runs (TestedStep test (λ g. of) hd) r.start (run_events hd r) (journal_by hd r)
  over_run hd r form =
      let keeps = known_all hd in
      row_run test of quiet halts hd (Known hd) keeps (nothing_more hd (Known hd) keeps.steps)
      (λ st q e w between lines count. well hd st q e) r form
