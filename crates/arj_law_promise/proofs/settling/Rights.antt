-- What holds of outcomes is kept by each handler, and so in every run.
use Rattle.arj_law_parts.proofs.Words
use Words.{node_by, world_from}
use Words.{◌≡◌, ◌∙◌, ◌++◌, ◌+◌, ℕ, zero, suc, Bool, true, false, cond, List, [], ◌∷◌, Option, Some, None, refl, sym, ap, subst, inl, inr}
use Words.{⊎_elim, Contains, AllByRecursion, list_all, and_parts, in_from, in_to, Body, End, Header, Kind, Label, Line, Message, Uid}
use Words.{begin_action, heard, Machine, back_lines, Committing, Coord, Doing, doing_of, Disk, Do, Effect, Intent, Look, PutInc, Served}
use Words.{is_prepared, tell_all, Named, Naming, Parts, with_coord, at_uid, Node, naming_at, naming_back, parent_of, parts_in}
use Words.{recovered_records, restart_outs, tolds_again, at_place, is_own, next_uid, numbered, world_by, Post}
use Words.{Seen, see, is_serial}
use Words.ask
use Words.body
use Words.ending
use Words.world
use Rattle.arj_law_promise.proofs.Terms
use Terms.{IsAtStarts, disk_by, first_up}
use Terms.{AreSorted, all_both, all_flat, all_map, at_in, in_at, IsGood, BindsAreKnown, Holds, Keeps, AreQuiet, In, down, given}
use Terms.{is_quiet_line, said, up, Up, Walks, keeps_asked, moves_asked, keeps_given, kept_both, AreRecorded, IsRecorded, is_awaited_by}
use Terms.{first_at, book, is_decided, new_book, IsKept, KnowsNode, Later, book_more, later_from, lines_keep, kept_of, at_begins}
use Terms.{coords_plain, EndsArePast, past_keep, AskersAreSettled, PreparedWereAsked, AskersSettle, DisksAreKnown, IsAt, restart_each}
use Terms.{some_is}
use Rattle.arj_law_promise.proofs.settling
use settling.{Acks.acked_walk, Askers.askers_kept, Causes.cause_more, Decides.decided_walk, Knowns.Known, Moves.act_walk, Moves.heard_walk}
use settling.{Moves.tick_walk, Settled.disks_keep, Settled.sorted_as, Steps.Either, Steps.step_walk, Stills.IsRight}
use settling.Cases.{Acks, Again, Asks, Beside, Ends, HandleCase, Hears, Prepares, handle_case}
use settling.Cores.{IsCore, IsDone, IsWatched, core_on, marks_on}
use settling.Lights.{HasThese, IsIdleSend, IsNoEnd, all_undeciding, aside_these, no_drop, quiet_no_end, stop_core, undecided}
use settling.Milds.{here_is, held_stays, lists_back, lists_on, mild_core, recorded_back, the_node}
use settling.Parts.{again_walk, asks_walk, beside_walk, ends_walks, prepares_walk}
use settling.Trails.{FitsSo, LineMild, Went, mild_clean, mild_decides, quiet_mild}
use Rattle.arj_promise.specs.Runs.{Run}

-- ---- what is known

known_keep : (hd : Header) → Keeps hd Known
known_keep hd =
    kept_both hd (λ M. (IsKept M × EndsArePast M) × DisksAreKnown M) (λ M. (IsGood M × BindsAreKnown M) × AskersSettle M)
    (kept_both hd (λ M. IsKept M × EndsArePast M) DisksAreKnown
    (kept_both hd IsKept EndsArePast (lines_keep hd) (keeps_given hd IsKept EndsArePast (past_keep hd)))
    (keeps_given hd (λ M. IsKept M × EndsArePast M) DisksAreKnown
    (kept_of hd (λ begun M. AreRecorded begun M × PreparedWereAsked begun M) (disks_keep hd))))
    (keeps_given hd (λ M. (IsKept M × EndsArePast M) × DisksAreKnown M) (λ M. (IsGood M × BindsAreKnown M) × AskersSettle M)
    (coords_plain (λ s c. AskersAreSettled s.sent s.node c) askers_kept hd))

-- ---- quiet lines

quiet_no_ends : (e : ℕ) (bs : List Body) → AreQuiet bs → AllByRecursion (λ (l : Line). IsNoEnd l.body) (numbered e bs)
quiet_no_ends e [] q = tt
quiet_no_ends e (b ∷ bs) q = let p = and_parts (is_quiet_line b) (list_all is_quiet_line bs) q in
    (quiet_no_end b p.0, quiet_no_ends e bs p.1)

quiet_core : (e : ℕ) (bs : List Body) (M : Seen) → AreQuiet bs → IsCore M → IsCore (said e bs M)
quiet_core e bs M quiet core = core_on M (said e bs M) core (record {
  more = numbered e bs;
  lines = refl;
  sent = λ p i. i;
  called = λ u on. let l = subst (Later (book M.lines)) (sym (book_more new_book M.lines (numbered e bs)))
      (later_from (book M.lines) (numbered e bs)) in l.called u on;
  done = λ u n done asked. inl (was_done u done);
  safe = λ u n done asked safe. ⊎_elim (λ both. inl both) (λ cause. inr (cause_more M.lines (numbered e bs) n u cause)) safe;
  asked = λ u n asked. inl asked;
  acked = λ u n acked. inl acked;
  tells = λ u n tells asked lists. (tells, lists);
  held = λ u n held. inl held;
  yeses = λ u n said_it. inl said_it;
  clean = no_drop M.lines (numbered e bs) (quiet_no_ends e bs quiet);
  coords = λ k a t is up_it. let w = core.coords k a t is up_it in record {
    marked = λ u q m found now. marks_on M.lines (numbered e bs) u m (w.marked u q m found now);
    held = w.held;
    votes = w.votes;
    telling = w.telling;
  };
})
  where
    was_done : (u : Uid) → IsDone (said e bs M) u → IsDone M u
    was_done u (inl on) = inl (undecided M.lines (numbered e bs) (all_undeciding (numbered e bs) (quiet_no_ends e bs quiet)) u on)
    was_done u (inr r) = inr r

-- ---- an action begins

module _ (k : ℕ) (d : Disk) (t : Parts) (M : Seen) (core : IsCore (up k d t M)) (e : ℕ) (l : Label) (how : Kind) (parent : Option Label)
    (labels : List (Label × world.Labelled)) where
  abbrev v : Parts
  v = with_coord t (begin_action l how parent (parent_of parent t.coord) t.coord).part

  abbrev Begun : Seen
  Begun = up k d (with_coord t (begin_action l how parent (parent_of parent t.coord) t.coord).part)
      (said e (body.Began l how (next_uid t.coord.tree) parent ∷ []) (record M { labels = labels }))

  abbrev Same : Disk → Option Parts → Type 0
  Same c live = (c ≡ d) × (live ≡ Some (with_coord t (begin_action l how parent (parent_of parent t.coord) t.coord).part))

  abbrev began : Went k M IsNoEnd (λ p. ⊥) Same Begun
  began = record {
    more = record { event = e; body = body.Began l how (next_uid t.coord.tree) parent } ∷ [];
    lines = refl;
    said_so = (tt, tt);
    back = λ p i. inl i;
    on = λ p i. i;
    others = λ j other. (λ i. cond (other i) (Some (the_node k d (Some v))) (M.nodes j));
    disk = d;
    live = Some v;
    here = here_is k d (Some v) M;
    fits = (refl, refl);
  }

  was : (x : Uid) (r : Doing) (m : Machine) → doing_of x v.coord ≡ Some r → r.now ≡ Committing m → IsAt t.coord x m
  was x r m at_it is = at_begins (λ w z. IsAt t.coord w z) t.coord (λ w y z found now. (y, found, now)) l how parent x r m at_it is

  watches : IsWatched Begun k (the_node k d (Some v)) v
  watches = let w = core.coords k (the_node k d (Some t)) t (here_is k d (Some t) M) refl in record {
    marked = λ x r m at_it is. let o = was x r m at_it is in
        marks_on M.lines (record { event = e; body = body.Began l how (next_uid t.coord.tree) parent } ∷ []) x m (w.marked x o.0 m o.1 o.2);
    held = λ x n own at_it said_it. let o = was x at_it.0 at_it.1 at_it.2 at_it.3 in
        held_stays k d (Some t) M IsNoEnd (λ p. ⊥) Same Begun began (λ u on. on) n x (w.held x n own (o.0, at_it.1, o.1, o.2) said_it);
    votes = λ x r m at_it is. let o = was x r m at_it is in w.votes x o.0 m o.1 o.2;
    telling = w.telling;
  }

  begun_core : IsCore Begun
  begun_core = mild_core k d (Some t) M (λ x. ⊥) IsNoEnd (λ p. ⊥) Same Begun began core (record {
    decides =
        λ u on. inl (undecided M.lines (record { event = e; body = body.Began l how (next_uid t.coord.tree) parent } ∷ []) (tt, tt) u on);
    clean = no_drop M.lines (record { event = e; body = body.Began l how (next_uid t.coord.tree) parent } ∷ []) (tt, tt);
    recorded = λ u r. inl (recorded_back k d (Some t) M IsNoEnd (λ p. ⊥) Same Begun began refl u r);
    done = λ u n none asked. absurd none;
    lists = λ u n x asked. inl (lists_on k d (Some t) M IsNoEnd (λ p. ⊥) Same Begun began refl u n x);
    back = λ u n tells asked x. lists_back k d (Some t) M IsNoEnd (λ p. ⊥) Same Begun began refl u n x;
    keeps = λ u on. inl on;
    new = λ u on. inl on;
    asks = λ p so h states is. absurd so;
    tells = λ p so u last asked x. so;
    yeses = λ p so a is. absurd so;
    acks = λ p so u is. absurd so;
    here = λ x up_it. subst (IsWatched Begun k (the_node k d (Some v))) (some_is up_it) watches;
  })

-- ---- a restart

module _ (hd : Header) (k : ℕ) (d : Disk) (M : Seen) (right : IsRight (down k d M)) (e : ℕ) where
  abbrev Stopped : Seen
  Stopped = down k d M

  here : Stopped.nodes k ≡ Some (the_node k d None)
  here = here_is k d None M

  -- it has a record
  abbrev pub Found : Uid → Type 0
  Found x = (i : Intent) × (at_uid x d.intents ≡ Some i)

  abbrev Says : Body → Type 0
  Says = LineMild Found (let B = book M.lines in B.acts)

  abbrev Sends : Post → Type 0
  Sends p = IsIdleSend p.message

  recorded : IsRecorded right.0.0.1.0 (the_node k d None)
  recorded = let z = right.0.0.1 in let y = z.2 in y.0 k (the_node k d None) here

  pub its_home : (x : Uid) → Found x → x.node ≡ k
  its_home x (i, at_it) =
      let w = right.0.0.0.0.1 in
      let n : KnowsNode (book M.lines) k (the_node k d None) = w.nodes k (the_node k d None) here in
      let m = n.records x i (in_to (x, i) d.intents (at_in x i d.intents at_it)) in
      m.here

  abbrev new : Parts
  new = parts_in k (d.inc + 1) d

  -- ---- its effects

  abbrev Fits : Effect → Type 0
  Fits = FitsSo k M Says Sends (quiet_mild Found (let B = book M.lines in B.acts)) tt (HasThese d)

  tolds_fit : (telling : List (Uid × Intent)) → AllByRecursion Fits (tolds_again telling)
  tolds_fit [] = tt
  tolds_fit (x ∷ es) = let i = x.1 in
      all_both Fits (tell_all i.root true ((x.0, ending.Commit) ∷ []) i.nodes) (tolds_again es) (one i.nodes) (tolds_fit es)
    where
      one : (ns : List ℕ) → AllByRecursion Fits (tell_all (let i = x.1 in i.root) true ((x.0, ending.Commit) ∷ []) ns)
      one [] = tt
      one (n ∷ ns) = (
        (
          (
            (λ h states q. absurd (cc q)),
            (λ w last. absurd (let z : ending.Commit ≡ ending.Abort = ap (λ (y : Uid × End). y.1) (some_is last) in cc z)),
          ),
          ((λ a q. cc q), (λ w q. cc q)),
        ),
        one ns,
      )

  records_fit : (is : List (Uid × Intent)) → ((x : Uid) (i : Intent) → Contains is (x, i) → Found x) →
      AllByRecursion Fits (recovered_records k is)
  records_fit [] each = tt
  records_fit (x ∷ is) each = (
    each x.0 x.1 (in_to x (x ∷ is) (inl refl)),
    records_fit is (λ y i there. each y i (in_to (y, i) (x ∷ is) (inr (in_from (y, i) is there)))),
  )

  back_fit : (o : Option Naming) → AllByRecursion Fits (naming_back o)
  back_fit None = tt
  back_fit (Some o) = all_flat Fits (λ (x : ℕ × Named). back_lines x.1) o.objects (λ x. all_map Fits _ x.1.rows (λ r. tt))

  looks : FitsSo k M Says Sends (quiet_mild Found (let B = book M.lines in B.acts)) tt (HasThese d) (Do Look)
  looks c these how = aside_these how Look d c tt these

  puts : FitsSo k M Says Sends (quiet_mild Found (let B = book M.lines in B.acts)) tt (HasThese d) (Do (PutInc (d.inc + 1)))
  puts c these how = aside_these how (PutInc (d.inc + 1)) d c tt these

  pub restart_fits : AllByRecursion Fits (restart_outs hd k (d.inc + 1) d)
  restart_fits = restart_each Fits hd k (d.inc + 1) d looks puts tt (back_fit (naming_at k (d.inc + 1) d.names))
      (records_fit d.intents (λ x i there. (i, in_at (x, i) d.intents sorted (in_from (x, i) d.intents there)))) (tolds_fit d.intents)
      (λ u. (((λ h states q. absurd (cc q)), (λ w q. absurd (cc q))), ((λ a q. cc q), (λ w q. cc q))))
      (λ n. (((λ h states q. absurd (cc q)), (λ w q. absurd (cc q))), ((λ a q. cc q), (λ w q. cc q))))
    where
      sorted : AreSorted d.intents
      sorted = let r = recorded in let c = r.disk in sorted_as d.intents c.sorted

  -- ---- what holds then

  no_doing : (x : Uid) (r : Doing) → doing_of x (let z = parts_in k (d.inc + 1) d in z.coord) ≡ Some r → ⊥
  no_doing x r is = by (is_own x (let z = parts_in k (d.inc + 1) d in let c = z.coord in c.tree)) x.num is
    where
      by : (b : Bool) (j : ℕ) → cond b (at_place j []) None ≡ Some r → ⊥
      by false j z = let no_way : ◌≡◌ {A = Option Doing} None (Some r) = z in cc no_way
      by true zero z = let no_way : ◌≡◌ {A = Option Doing} None (Some r) = z in cc no_way
      by true (suc j) z = let no_way : ◌≡◌ {A = Option Doing} None (Some r) = z in cc no_way

  restart_core : (Z : Seen) → Went k M Says Sends (Either (HasThese d) new) Z → IsCore Z
  restart_core Z w = mild_core k d None M Found Says Sends (Either (HasThese d) new) Z w right.1 (record {
    decides = λ u on. mild_decides Found M.lines w.more w.said_so u (subst (λ ls. is_decided (book ls) u ≡ true) w.lines on);
    clean = λ before line behind n u is says decided.
        absurd (mild_clean Found (let B = book M.lines in B.acts) w.more before line behind n u w.said_so is says);
    recorded = λ u r. inl (recorded_back k d None M Says Sends (Either (HasThese d) new) Z w w.fits.0.1 u r);
    done = λ u n found asked. inl (inr (the_node k d None, found.0, ap Stopped.nodes (its_home u found) ∙ here, found.1));
    lists = λ u n x asked. inl (lists_on k d None M Says Sends (Either (HasThese d) new) Z w w.fits.0.1 u n x);
    back = λ u n tells asked x. lists_back k d None M Says Sends (Either (HasThese d) new) Z w w.fits.0.1 u n x;
    keeps = λ u on. inl (ap (is_prepared u) w.fits.0.0 ∙ on);
    new = λ u on. inl (ap (is_prepared u) (sym w.fits.0.0) ∙ on);
    asks = λ p so h states is. absurd (let z = so.0 in z.0 h (ask.Prepare states) is);
    tells = λ p so u last asked x. let z = so.0 in z.1 u last;
    yeses = λ p so a is. absurd (let z = so.1 in z.0 a is);
    acks = λ p so u is. absurd (let z = so.1 in z.1 u is);
    here = λ x up_it. ⊎_elim (λ none. absurd (let no_way : ◌≡◌ {A = Option Parts} None (Some x) = sym none ∙ up_it in cc no_way))
        (λ its. subst (IsWatched Z k (the_node k w.disk w.live)) (some_is (sym its ∙ up_it)) watches) w.fits.1;
  })
    where
      watches : IsWatched Z k (the_node k w.disk w.live) new
      watches = record {
        marked = λ x r m at_it is. absurd (no_doing x r at_it);
        held = λ x n own at_it said_it. absurd (no_doing x at_it.0 at_it.2);
        votes = λ x r m at_it is. absurd (no_doing x r at_it);
        telling = λ x j n at_it on. inl (ap (λ ts. is_awaited_by n (at_uid x ts)) (sym w.fits.0.1) ∙ ap (is_awaited_by n) at_it ∙ on);
      }

  restart_walk : Walks Known e k (restart_outs hd k (d.inc + 1) d) (Up Known k (parts_in k (d.inc + 1) d)) d M →
      Walks IsRight e k (restart_outs hd k (d.inc + 1) d) (Up IsRight k (parts_in k (d.inc + 1) d)) d M
  restart_walk known = step_walk Known IsCore k M Says Sends (quiet_mild Found (let B = book M.lines in B.acts)) tt (HasThese d)
      (parts_in k (d.inc + 1) d) e (restart_outs hd k (d.inc + 1) d) d restart_fits (refl, refl) (λ Z its w. restart_core Z w) known

-- ---- a message

message_walk : (hd : Header) (e k : ℕ) (d : Disk) (t v : Parts) (from : ℕ) (m : Message) (outs : List Effect) (M : Seen) →
    IsRight (up k d t M) → In (record { from = from; to = k; message = m }) M.sent → HandleCase k d t from m v outs →
    Walks Known e k outs (Up Known k v) d M → Walks IsRight e k outs (Up IsRight k v) d M
message_walk hd e k d t v from m outs M right there (Beside same all) known = beside_walk k d t M right from m there e v same outs all known
message_walk hd e k d t v from m outs M right there (Prepares h states asking same are) known =
    prepares_walk k d t M right from m there e v (ap (λ (x : Parts). x.coord) same) h states asking outs are known
message_walk hd e k d t v from m outs M right there (Again h states asking on same are) known =
    again_walk k d t M right from m there e v (ap (λ (x : Parts). x.coord) same) h states asking on outs are known
message_walk hd e k d t v from m outs M right there (Ends u how ack rest last same all are) known =
    ends_walks k d t M right from m there e v same u how last ack rest all outs are known
message_walk hd e k d t v from m outs M right there (Asks u same is are) known =
    asks_walk k d t M right from m there e v same u is outs are known
message_walk hd e k d t v from m outs M right there (Hears a r of is are) known =
    let z = heard from a r d.intents t.coord in
    subst (λ x. Walks IsRight e k outs (Up IsRight k x) d M) (sym is)
    (subst (λ es. Walks IsRight e k es (Up IsRight k (with_coord t z.part)) d M) (sym are)
    (heard_walk k d t M right e from m there a r of (λ u q p found now part tells.
    decided_walk k d t M right e u q p found now (with_coord t z.part) part z.outs tells (come z is are)) (come z is are)))
  where
    come : (z : Served Coord (Unit {0})) → v ≡ with_coord t z.part → outs ≡ z.outs →
        Walks Known e k z.outs (Up Known k (with_coord t z.part)) d M
    come z is are =
        subst (λ x. Walks Known e k z.outs (Up Known k x) d M) is (subst (λ es. Walks Known e k es (Up Known k v) d M) are known)
message_walk hd e k d t v from m outs M right there (Acks u is part are) known =
    acked_walk k d t M right e from u (record { from = from; to = k; message = m }, there, refl, is) v outs part are known

-- ---- at first

first_core : (hd : Header) → IsAtStarts hd IsCore
first_core hd st formed = record {
  done = λ u n done asked. absurd asked.1;
  acked = λ u n acked done asked. absurd asked.1;
  told = λ u n tells asked lists. asked.1;
  held = λ u n held. absurd (no_held u n held.0 held.1 held.2);
  yeses = λ u n yes_said. absurd yes_said.1;
  ends = λ u n acked. absurd acked.1;
  called = λ u n asked. absurd asked.1;
  lines = λ before line behind n u is says decided. absurd (no_lines before line behind is);
  coords = λ k a t is up_it. watches k a t is up_it;
}
  where
    no_lines : (before : List Line) (line : Line) (behind : List Line) → [] ≡ before ++ line ∷ behind → ⊥
    no_lines [] line behind is = cc is
    no_lines (x ∷ before) line behind is = cc is

    no_held : (u : Uid) (n : ℕ) (a : Node) → (let W = see [] (world_from hd st) in W.nodes n) ≡ Some a →
        is_prepared u (let d = a.disk in d.store) ≡ true → ⊥
    no_held u n a is on =
        let no_way : false ≡ true = ap (λ (z : Node). let d = z.disk in is_prepared u d.store) (first_at hd st n a is) ∙ on in cc no_way

    watches : (k : ℕ) (a : Node) (t : Parts) → (let W = see [] (world_from hd st) in W.nodes k) ≡ Some a → a.live ≡ Some t →
        IsWatched (see [] (world_from hd st)) k a t
    watches k a t is up_it = subst (λ (z : Node). IsWatched (see [] (world_from hd st)) k z t) (first_at hd st k a is) (subst
        (IsWatched (see [] (world_from hd st)) k (node_by hd st k)) (first_up hd st k a t is up_it) (record {
          marked = λ x r m at_it z. absurd (none x r at_it);
          held = λ x n own at_it said_it. absurd (none x at_it.0 at_it.2);
          votes = λ x r m at_it z. absurd (none x r at_it);
          telling = λ x j n at_it on. absurd (let no_way : ◌≡◌ {A = Option Intent} None (Some j) = at_it in cc no_way);
        }))
      where
        none : (x : Uid) (r : Doing) → doing_of x (let z = parts_in k (st.incs k + 1) (disk_by hd st k) in z.coord) ≡ Some r → ⊥
        none x r z = by (is_own x (let y = parts_in k (st.incs k + 1) (disk_by hd st k) in let c = y.coord in c.tree)) x.num z
          where
            by : (b : Bool) (j : ℕ) → cond b (at_place j []) None ≡ Some r → ⊥
            by false j q = let no_way : ◌≡◌ {A = Option Doing} None (Some r) = q in cc no_way
            by true zero q = let no_way : ◌≡◌ {A = Option Doing} None (Some r) = q in cc no_way
            by true (suc j) q = let no_way : ◌≡◌ {A = Option Doing} None (Some r) = q in cc no_way

-- ---- all handlers

pub right_keep : (hd : Header) → Keeps hd IsRight
right_keep hd = record {
  quiet = λ e bs M quiet right. (its.quiet e bs M quiet right.0, quiet_core e bs M quiet right.1);
  stop = λ e k d live M right. (its.stop e k d live M right.0, stop_core k d live M right.1 e);
  message = λ e k d t v from m outs M right there meant is. message_walk hd e k d t v from m outs M right there
      (handle_case k d t from m v outs is) (its.message e k d t v from m outs M right.0 there meant is);
  act = λ e k d t i M is free right. act_walk k d t M right e hd i is free (its.act e k d t i M is free right.0);
  begin = λ e k d t l how parent M new may free right. (
    its.begin e k d t l how parent M new may free right.0,
    begun_core k d t M right.1 e l how parent (let G = given l (record { node = k; serial = is_serial how }) M in G.labels),
  );
  tick = λ e k d t M right. tick_walk k d t M right e (its.tick e k d t M right.0);
  restart = λ e k d M right. restart_walk hd k d M right e (its.restart e k d M right.0);
  first = λ st formed. (its.first st formed, first_core hd st formed);
}
  where
    its : Keeps hd Known
    its = known_keep hd

pub right_run : (hd : Header) (r : Run hd) → Holds hd IsRight (world_by hd r)
right_run hd r = moves_asked hd IsRight (keeps_asked hd IsRight (right_keep hd)) r
