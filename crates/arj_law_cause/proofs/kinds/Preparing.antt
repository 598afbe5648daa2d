-- The row of what is prepared, but for what a top has changed: for a top whose commit was called, and at naming where the top has excluded
-- a store or includes one.
use Rattle.arj_law_parts.proofs.Words
use Words.{⊤, ◌≡◌, ◌∙◌, ◌&&◌, ◌||◌, ◌==◌, ◌++◌, ◌+◌, not, ℕ, Bool, true, false, List, [], ◌∷◌, Option, Some, None, refl, sym, ap, subst}
use Words.{inl, inr}
use Words.{⊎_elim, and_parts, list_all, list_any, AllByRecursion, In, Body, Event, Header, Line, Message, Start, Uid, Head, Ask, asks}
use Words.{actor}
use Words.{Disk, Do, Effect, Say, Send, Parts, Post, Took, handle, holders, query_about, AreAll, is_coord_effect, is_coord_line}
use Words.{acts as does}
use Words.{acts_own, again_all, again_own, all_both, begin_action, parent_of, restart_outs, tick_outs, tolds_again, tolds_again_own}
use Words.{numbered}
use Words.{Seen, map, cond}
use Words.ask
use Words.body
use Words.input
use Words.role
use Rattle.arj_law_disk_view.specs.running.Places.{HasNaming}
use Rattle.arj_law_parts.proofs.moves.Happens.{Wide}
use Rattle.arj_law_parts.specs.moves.Moments.{Moment, up}
use Rattle.arj_law_parts.specs.moves.Seen as seen
use Rattle.arj_law_parts.specs.moves.Seen.{AreQuiet, is_quiet_line}
use Rattle.arj_law_parts.specs.steps.Spoken.{SaidIn}
use Rattle.arj_law_promise.specs.settling.Prepared.{AsksForItself, PreparedWereAsked}
use Rattle.arj_law_parts.specs.parts.Actions.{Action}
use Rattle.arj_law_runs.proofs.Terms.{Act, Placed, acts, new_book}
use Rattle.arj_law_runs.proofs.journal.{Models.its_sound, Owners.acts_more}
use Rattle.arj_law_runs.proofs.kept.Walked.{same_number}
use Rattle.arj_law_runs.specs.follow.Frames.{run_events}
use Rattle.arj_law_runs.specs.journal.Right.{AreRight}
use Rattle.arj_law_serial.proofs.Terms.{is_steady}
use Rattle.arj_law_serial.proofs.holding.Lines.{quiet_acts}
use Rattle.arj_law_serial.proofs.holding.Messages.{coord_or_steady}
use Rattle.arj_law_serial.proofs.holding.Says as saying
use Rattle.arj_model.specs.Actions as model
use Rattle.arj_model.specs.Actions.{begun_of}
use Rattle.arj_model.specs.Calls.{committing_of, committings}
use Rattle.arj_model.specs.CausePends.{has_some}
use Rattle.arj_model.specs.CauseSpans.{Here, act_by, holds_in}
use Rattle.arj_model.specs.Caused.{has_cause}
use Rattle.arj_model.specs.Follows.{Runs}
use Rattle.arj_model.specs.Last as last
use Rattle.arj_model.specs.Last.{included, is_among, joins_by, joins_of}
use Rattle.arj_model.specs.Past.{Past}
use Rattle.arj_model.specs.Refusals.{was_called}
use Rattle.arj_promise.specs.Runs.{IsInForm, Run, journal_by}
use Rattle.arj_law_cause.proofs.kinds.Asking.{AskSo, AsksAreSo, ChangesLists, IsCalled, NamesLists, Stood, among_those, any_later}
use Rattle.arj_law_cause.proofs.kinds.Asking.{asking_keep}
use Rattle.arj_law_cause.proofs.kinds.Asking.{changes_later}
use Rattle.arj_law_cause.proofs.kinds.Committed.{act_found}
use Rattle.arj_law_cause.proofs.kinds.Nodes.{wide_all}
use Rattle.arj_law_cause.proofs.kinds.Over.{read_later}
use Rattle.arj_law_cause.proofs.kinds.Running.{nothing_more, row_run}
use Rattle.arj_law_cause.proofs.kinds.Tells.{AskPrepares, FitsEnds, SaysBy, is_of_ends, message_all}
use Rattle.arj_law_cause.proofs.kinds.Walks as walks
use Rattle.arj_law_cause.specs.kinds.Kinds.{is_prepared}
use Rattle.arj_law_cause.specs.kinds.Rows.{TestHolds, TestedStep, tested}

-- ---- what a line says

-- the action with this Uid is so by the lines, and its commit was called
abbrev CalledBy : List Line → Uid → Type 0
CalledBy lines u = (a : Act) × (act_by lines u ≡ Some a) × (was_called (committings lines) a.id ≡ true)

-- and it has excluded a store, or includes one
abbrev NamesBy : List Line → Uid → Type 0
NamesBy lines u = (a : Act) × (act_by lines u ≡ Some a) × (was_called (committings lines) a.id ≡ true) × ChangesLists lines a.id

abbrev pub PreparedSo : List Line → Body → Type 0
PreparedSo lines (body.Prepared n u role.Store) = CalledBy lines u
PreparedSo lines (body.Prepared n u role.Names) = (n ≡ 1) × NamesBy lines u
PreparedSo lines b = ⊤

others_so : (lines : List Line) (b : Body) → is_of_ends b ≡ false → PreparedSo lines b
others_so lines (body.Prepared n u r) is = absurd (cc is)
others_so lines b is = tt

called_same : (ls ms : List Line) (u : Uid) → acts (ls ++ ms) ≡ acts ls → CalledBy ls u → CalledBy (ls ++ ms) u
called_same ls ms u same (a, found, on) = (
  a,
  (λ i. Words.find (λ (b : Act). Words.uid_eq b.uid u) (same i)) ∙ found,
  read_later committing_of (λ (m : Placed (List Act)). holds_in (λ (t : Act). t.id == a.id) (model.top_in m.it)) [] 0 ls ms on,
)

names_same : (ls ms : List Line) (u : Uid) → acts (ls ++ ms) ≡ acts ls → NamesBy ls u → NamesBy (ls ++ ms) u
names_same ls ms u same (a, found, on, changes) = (
  a,
  (λ i. Words.find (λ (b : Act). Words.uid_eq b.uid u) (same i)) ∙ found,
  read_later committing_of (λ (m : Placed (List Act)). holds_in (λ (t : Act). t.id == a.id) (model.top_in m.it)) [] 0 ls ms on,
  changes_later ls ms a.id changes,
)

so_later : (ls ms : List Line) (b : Body) → acts (ls ++ ms) ≡ acts ls → PreparedSo ls b → PreparedSo (ls ++ ms) b
so_later ls ms (body.Prepared n u role.Store) same so = called_same ls ms u same so
so_later ls ms (body.Prepared n u role.Names) same so =
    (so.0, names_same ls ms u same so.1)
so_later ls ms (body.Began p q r s) same so = tt
so_later ls ms (body.Ok p q r s) same so = tt
so_later ls ms (body.Includes p q r) same so = tt
so_later ls ms (body.Conflict p q r s) same so = tt
so_later ls ms (body.Lost p q) same so = tt
so_later ls ms (body.Changed p q r) same so = tt
so_later ls ms (body.Committing p) same so = tt
so_later ls ms (body.Committed p) same so = tt
so_later ls ms (body.Aborted p q) same so = tt
so_later ls ms (body.Ended p) same so = tt
so_later ls ms (body.GaveUp p q) same so = tt
so_later ls ms (body.Excluded p q r) same so = tt
so_later ls ms (body.Granted p q r s) same so = tt
so_later ls ms (body.Lowered p q r) same so = tt
so_later ls ms (body.Bound p q r) same so = tt
so_later ls ms (body.Active p q r) same so = tt
so_later ls ms (body.Told p q r s) same so = tt
so_later ls ms (body.Done p q r s) same so = tt
so_later ls ms (body.Sent p q r s) same so = tt
so_later ls ms (body.Got p) same so = tt
so_later ls ms (body.Void p) same so = tt
so_later ls ms (body.Dropped p) same so = tt
so_later ls ms (body.Halted p) same so = tt
so_later ls ms (body.Up p q) same so = tt
so_later ls ms (body.Armed p) same so = tt
so_later ls ms (body.Recovered p q) same so = tt
so_later ls ms (body.Refused p) same so = tt
so_later ls ms (body.Entry p q r s) same so = tt
so_later ls ms (body.Copy p q r s v) same so = tt
so_later ls ms (body.Quiet p) same so = tt
so_later ls ms (body.Bad p) same so = tt
so_later ls ms (body.Limit p) same so = tt

-- ---- at a message

called_by : (lines : List Line) → AreRight new_book lines → (u : Uid) → IsCalled lines u → CalledBy lines u
called_by lines right u (a, there, its, on) = (a, act_found (acts lines) (let s = its_sound lines right in s.distinct) a there u its, on)

names_by : (lines : List Line) → AreRight new_book lines → (u : Uid) → NamesLists lines u → NamesBy lines u
names_by lines right u (a, there, its, on, changes) =
    (a, act_found (acts lines) (let s = its_sound lines right in s.distinct) a there u its, on, changes)

-- what the nodes' requests are, and where naming is
message_so : (hd : Header) (k : ℕ) (d : Disk) (t v : Parts) (from : ℕ) (m : Message) (outs : List Effect) (M : Moment) →
    Wide (λ S. Stood S × AsksAreSo S) (up k d t M) → seen.In (record { from = from; to = k; message = m }) M.seen.sent →
    handle k d t from m ≡ Took v outs → HasNaming k t × AllByRecursion (SaidIn (PreparedSo M.seen.lines)) outs
message_so hd k d t v from m outs M known there is = (
  (let n = asked.nodes k (record { number = k; disk = d; live = Some t })
      (λ i. cond (same_number k i) (Some (record { number = k; disk = d; live = Some t })) (M.seen.nodes k)) in n.live t refl),
  subst (SaysBy (PreparedSo M.seen.lines) (others_so M.seen.lines)) is
      (message_all (PreparedSo M.seen.lines) (others_so M.seen.lines) k d t from m fits),
)
  where
    P : Post
    P = record { from = from; to = k; message = m }

    stood : Stood (seen.with_sent known.0 (let N = up k d t M in N.seen))
    stood = known.2.0

    begun : List Action
    begun = stood.0.0.0.0.0.1.0

    asked : PreparedWereAsked stood.0.0.0.0.0.1.0 (seen.with_sent known.0 (let N = up k d t M in N.seen))
    asked = let z = stood.0.0.0.0.0.1 in z.2.1

    right : AreRight new_book M.seen.lines
    right = let w = stood.0.0.0.0.0.0.0.1 in w.right

    so : AskSo M.seen.lines (asks m)
    so = known.2.1 P (known.1 P there)

    prepares : (h : Head) (a : Ask) → asks m ≡ Some (h, a) → AskPrepares (PreparedSo M.seen.lines) k h a
    prepares h a is_it = by a (subst (AskSo M.seen.lines) is_it so) (subst (AsksForItself begun from) is_it
        (asked.sent P (known.1 P there)))
      where
        by : (b : Ask) → AskSo M.seen.lines (Some (h, b)) → AsksForItself begun from (Some (h, b)) → AskPrepares (PreparedSo M.seen.lines)
            k h b
        by (ask.Prepare states) its own = called_by M.seen.lines right (actor h.path) its
        by (ask.Confirm grants excluded included) its own = λ some.
            let z = its.0 some in (
              refl,
              subst (NamesBy M.seen.lines) (let o = own (Words.top_of h.path) refl in o.same)
                  (names_by M.seen.lines right (actor h.path) z),
            )
        by (ask.Bind x y z) its own = tt
        by (ask.Load x) its own = tt
        by (ask.Activate x y) its own = tt
        by (ask.Record x y z w) its own = tt
        by (ask.Invoke x y z w q) its own = tt
        by (ask.Vote x y z) its own = tt

    fits : FitsEnds (PreparedSo M.seen.lines) k d t m
    fits = record {
      server = λ u e f c. tt;
      naming = λ u e f c. tt;
      store = λ u e c. tt;
      names = λ u e c. tt;
      orphans = λ u e o act c there on. tt;
      prepares = prepares;
    }

-- ---- lines of a kind

or_none : (b : Body) → is_steady b ≡ true → begun_of b ≡ None
or_none (body.Began l k u p) is = absurd (cc is)
or_none b is = refl

coord_none : (b : Body) → is_coord_line b ≡ true → not (is_prepared b) ≡ true
coord_none (body.Prepared n u r) is = absurd (cc is)
coord_none b is = refl

quiet : (b : Body) → is_quiet_line b ≡ true → is_prepared b ≡ false
quiet (body.Prepared n u r) is = absurd (cc is)
quiet b is = refl

-- What passes where what is prepared is so passes in every run.
module _ (test : Here → Body → Bool) (of : Body → Bool) (less : (b : Body) → is_prepared b ≡ false → of b ≡ false)
    (pass : (h : Here) (b : Body) → PreparedSo h.lines b → tested test (λ g. of) h b ≡ true) where
  abbrev none_by : Body → Bool
  none_by b = not (of b)

  coord : (b : Body) → is_coord_line b ≡ true → none_by b ≡ true
  coord b is = ap not (less b (off (is_prepared b) (coord_none b is)))
    where
      off : (c : Bool) → not c ≡ true → c ≡ false
      off true e = absurd (cc e)
      off false e = refl

  coord_effects : (es : List Effect) → AreAll is_coord_effect es → saying.All none_by es
  coord_effects = saying.kind_says none_by is_coord_effect is_coord_line (λ b. refl) coord

  module _ (hd : Header) (st : Start) (q : Past) (e : Event) where
    abbrev Well : List Effect → List Line → Type 0
    Well es ls = walks.Well test hd of (λ b is. less b (quiet b is)) (λ k. less (body.Halted k) refl) st q e es ls

    abbrev at : List Line → Here
    at ls = walks.here_behind test hd of (λ b is. less b (quiet b is)) (λ k. less (body.Halted k) refl) st q e ls

    none_well : (es : List Effect) (ls : List Line) → saying.All none_by es → Well es ls
    none_well es ls all = walks.each_well test hd of (λ b is. less b (quiet b is)) (λ k. less (body.Halted k) refl) st q e none_by
        (λ ms b is. λ i. is i || test (at ms) b) es ls all

    so_well : (es : List Effect) (ls : List Line) → AllByRecursion (SaidIn (PreparedSo ls)) es → saying.All is_steady es → Well es ls
    so_well [] ls all steady = tt
    so_well (Do w ∷ es) ls all steady = so_well es ls all.1 steady
    so_well (Say b ∷ es) ls all steady =
        let p = and_parts (is_steady b) (list_all (saying.says is_steady) es) steady in (
          pass (at ls) b all.0,
          so_well es (ls ++ numbered (q.count + 1) (b ∷ [])) (grown es (numbered (q.count + 1) (b ∷ []))
              (acts_more [] ls (numbered (q.count + 1) (b ∷ [])) ∙ ap (model.numbered (acts ls)) (or_none b p.0)) all.1) p.1,
        )
      where
        grown : (fs : List Effect) (ms : List Line) → acts (ls ++ ms) ≡ acts ls → AllByRecursion (SaidIn (PreparedSo ls)) fs →
            AllByRecursion (SaidIn (PreparedSo (ls ++ ms))) fs
        grown [] ms same so = tt
        grown (Say c ∷ fs) ms same so = (so_later ls ms c same so.0, grown fs ms same so.1)
        grown (Do w ∷ fs) ms same so = (tt, grown fs ms same so.1)
        grown (Send to m ∷ fs) ms same so = (tt, grown fs ms same so.1)
    so_well (Send to m ∷ es) ls all steady = λ more are. so_well es (ls ++ numbered (q.count + 1) more)
        (grown es (numbered (q.count + 1) more) (quiet_acts (q.count + 1) more are ls) all.1) steady
      where
        grown : (fs : List Effect) (ms : List Line) → acts (ls ++ ms) ≡ acts ls → AllByRecursion (SaidIn (PreparedSo ls)) fs →
            AllByRecursion (SaidIn (PreparedSo (ls ++ ms))) fs
        grown [] ms same so = tt
        grown (Say c ∷ fs) ms same so = (so_later ls ms c same so.0, grown fs ms same so.1)
        grown (Do w ∷ fs) ms same so = (tt, grown fs ms same so.1)
        grown (Send to2 m2 ∷ fs) ms same so = (tt, grown fs ms same so.1)

    well : walks.SaysWell test hd of (λ b is. less b (quiet b is)) (λ k. less (body.Halted k) refl) st q e
        (Wide (λ S. Stood S × AsksAreSo S))
    well = record {
      message = λ k d t v from m outs M known h there meant may is.
          let r = message_so hd k d t v from m outs M known there is in
          ⊎_elim {C = Well outs M.seen.lines} (λ own. none_well outs M.seen.lines (coord_effects outs own))
          (λ steady. so_well outs M.seen.lines r.1 steady)
          (coord_or_steady k d t v r.0 from m outs is);
      act = λ k d t i M is brings fresh asks free known h. none_well (does i d.intents t.coord).outs M.seen.lines
          (coord_effects (does i d.intents t.coord).outs (acts_own i d.intents t.coord));
      begin = λ k d t l how parent M brings fresh new gives none known h.
          let did = begin_action l how parent (parent_of parent t.coord) t.coord in
          none_well did.outs M.seen.lines (coord_effects did.outs (acts_own (input.Begin l how parent) d.intents t.coord));
      tick = λ k d t M known h.
          let r = again_all t.coord.doings t.coord in
          none_well (tick_outs (record { number = k; disk = d; live = Some t }) t) M.seen.lines
          (all_both (saying.says none_by) (r.outs ++ tolds_again t.coord.telling) (map query_about (holders d t))
          (all_both (saying.says none_by) r.outs (tolds_again t.coord.telling) (coord_effects r.outs (again_own t.coord.doings t.coord))
          (coord_effects (tolds_again t.coord.telling) (tolds_again_own t.coord.telling)))
          (saying.map_says none_by query_about (holders d t) (λ u. refl)));
      restart = λ k d M its fresh known h. none_well (restart_outs hd k (d.inc + 1) d) M.seen.lines
          (saying.restart_says none_by hd k (d.inc + 1) d coord (λ is u o how. ap not (less (body.Granted 1 u o how) refl))
          (λ u. ap not (less (body.Recovered k u) refl)) (ap not (less (body.Up k (d.inc + 1)) refl)));
    }

  -- in every run
  so_run : (hd : Header) (r : Run hd) → IsInForm hd r → Runs (TestedStep test (λ g. of) hd) r.start (run_events hd r) (journal_by hd r)
  so_run hd r form =
      let keeps = wide_all hd (λ S. Stood S × AsksAreSo S) (asking_keep hd) in
      row_run test of (λ b is. less b (quiet b is)) (λ k. less (body.Halted k) refl) hd (Wide (λ S. Stood S × AsksAreSo S)) keeps
      (nothing_more hd (Wide (λ S. Stood S × AsksAreSo S)) keeps.steps)
      (λ st q e w between lines count. well hd st q e) r form

-- ---- whose commit was called

its_call : (lines : List Line) (u : Uid) → CalledBy lines u → holds_in (λ a. was_called (committings lines) a.id) (act_by lines u) ≡ true
its_call lines u (a, found, on) = ap (holds_in (λ a. was_called (committings lines) a.id)) found ∙ on

-- ---- at naming

one_some : {A : Type 0} (f : A → Option ℕ) (s : ℕ) (xs : List A) → is_among (Words.filter_map f xs) s ≡ true → has_some
    (Words.filter_map f xs) ≡ true
one_some f s xs on = by (Words.filter_map f xs) on
  where
    by : (ns : List ℕ) → is_among ns s ≡ true → has_some ns ≡ true
    by [] e = absurd (cc e)
    by (n ∷ ns) e = refl

-- an include of the top is of some object
its_include : (lines : List Line) (id x s : ℕ) → is_among (joins_of lines id x) s ≡ true →
    list_any (λ (i : Placed last.Inclusion). has_some (joins_of lines id i.it.x)) (included lines) ≡ true
its_include lines id x s on = any_later old (λ (i : Placed last.Inclusion). has_some (joins_of lines id i.it.x)) of_x (included lines)
    (sym (among_those (λ (i : Placed last.Inclusion). joins_by (model.committed lines) id x i (model.top_in i.it.path)) (included lines) s)
    ∙ on)
  where
    old : Placed last.Inclusion → Bool
    old i = holds_in (λ n. n == s) (joins_by (model.committed lines) id x i (model.top_in i.it.path))

    of_x : (i : Placed last.Inclusion) → old i ≡ true → has_some (joins_of lines id i.it.x) ≡ true
    of_x i is = by (model.top_in i.it.path) is
      where
        one : (a b c : Bool) → b ≡ (i.it.x == x) → holds_in (λ n. n == s) (cond (a && (b && c)) (Some i.it.node) None) ≡ true →
            has_some (joins_of lines id i.it.x) ≡ true
        one true true true same e = subst (λ y. has_some (joins_of lines id y) ≡ true) (sym (Words.eqb-true i.it.x x (sym same)))
            (one_some (λ (j : Placed last.Inclusion). joins_by (model.committed lines) id x j (model.top_in j.it.path)) s (included lines)
            on)
        one true true false same e = absurd (cc e)
        one true false c same e = absurd (cc e)
        one false b c same e = absurd (cc e)

        by : (o : Option Act) → holds_in (λ n. n == s) (joins_by (model.committed lines) id x i o) ≡ true → has_some
            (joins_of lines id i.it.x) ≡ true
        by None e = absurd (cc e)
        by (Some t) e = one (t.id == id) (i.it.x == x) (list_all (λ (a : Act). model.has_end (model.committed lines) a.id)
            (model.chain_in i.it.path))
            refl e

lists : (lines : List Line) (id : ℕ) → ChangesLists lines id →
    (list_any (λ (e : Placed last.Exclusion). e.it.top == id) (last.excluded lines)
    || list_any (λ (i : Placed last.Inclusion). has_some (joins_of lines id i.it.x)) (included lines)) ≡ true
lists lines id (inl ex) = λ i. ex i || list_any (λ (j : Placed last.Inclusion). has_some (joins_of lines id j.it.x)) (included lines)
lists lines id (inr (x, s, on)) = (λ i. list_any (λ (e : Placed last.Exclusion). e.it.top == id) (last.excluded lines)
    || its_include lines id x s on i) ∙ last_true (list_any (λ (e : Placed last.Exclusion). e.it.top == id) (last.excluded lines))
  where
    last_true : (b : Bool) → (b || true) ≡ true
    last_true true = refl
    last_true false = refl

-- ---- the row, but for what a store's top has changed

abbrev pub is_called_so : Here → Body → Bool
is_called_so h (body.Prepared n u role.Store) = holds_in (λ a. was_called (committings h.lines) a.id) (act_by h.lines u)
is_called_so h b = has_cause h b

pub called_run : TestHolds is_called_so is_prepared
called_run = so_run is_called_so is_prepared (λ b is. is) pass
  where
    pass : (h : Here) (b : Body) → PreparedSo h.lines b → tested is_called_so (λ g. is_prepared) h b ≡ true
    pass h (body.Prepared n u role.Store) so = its_call h.lines u so
    pass h (body.Prepared n u role.Names) (one, (a, found, on, changes)) =
        ap (holds_in (λ (c : Act). was_called (committings h.lines) c.id &&
        ((n == 1) && (list_any (λ (e : Placed last.Exclusion). e.it.top == c.id)
        (last.excluded h.lines) || list_any (λ (i : Placed last.Inclusion). has_some (joins_of h.lines c.id i.it.x)) (included h.lines)))))
        found
        ∙ (λ i. on i && ((ap (λ j. j == 1) one i) && lists h.lines a.id changes i))
    pass h b so = refl
