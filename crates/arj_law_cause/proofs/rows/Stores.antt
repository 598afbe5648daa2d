-- Each store that a list names, or a binding that a root keeps, or the plan of a commit, and each that is asked for a state of an object,
-- may be a store of the object by the lines: in every run.
use Rattle.arj_law_parts.proofs.Words
use Words.{world_from}
use Words.{arith, and_parts, nat_lt, nat_tests, ◌<◌}
use Words.{◌≡◌, ◌≢◌, ◌⊎◌, ◌∙◌, ◌++◌, ◌==◌, ◌&&◌, ◌||◌, ◌+◌, ℕ, Bool, true, false, cond, filter, find, length, list_any, list_all, map}
use Words.{List, []}
use Words.{◌∷◌, Option, Some, None}
use Words.{refl, sym, ap, subst, inl, inr, ⊎_elim, ⊤, AllByRecursion, In as Among, acked_own, acts_own}
use Words.{again_own, heard_own, query_own, entry_back, Ask, Asked, Binding, Body, BoundReply, End, Entry, Head, Header, Kind, Label, Line}
use Words.{Message, ObjectState, Uid, asks, entry, Reply, actor, answers, last_end, top_of, again_all, begin_action, heard}
use Words.{waits_for_call, At}
use Words.{AtActivate, AtBind, AtInvoke, AtLoad, AtNote, Steps, Grants, Machine, Marks, Calling, Committing, Confirming, Coord, Doing, Idle}
use Words.{Now, Preparing, Voting, doing_of}
use Words.{Disk, Do, Effect, Say, Send, Stop, Goal, ask_at, ask_of}
use Words.{stopped, acked, answer_query, tick_outs, Naming, Handled, Parts, Took, Void, handle, holders, query_about, with_coord}
use Words.{has, put_uid, Server, Input, Node, acts as does, parent_of, parts_in, put_states, refusal_up}
use Words.{restart_outs, tolds_again, Labelled, numbered, ObjectLine, Post, Seen, see, is_serial, changed_of, name, plan_of}
use Words.ask
use Words.body
use Words.bound
use Words.ending
use Words.naming
use Words.input
use Rattle.arj_law_promise.proofs.Terms
use Terms.{IsAtStarts, entry_by, first_up}
use Terms.{paths_of, IsGoodCoord, IsTree, begun_tree, IsGoodOf, IsUp, good_coord, it, same_number, Keeps}
use Terms.{is_act, In, at, down, given, said, up, Up, Walks, halted, walks_to, BindsAreKnown, answers_fit, some_is, IsOfStep, acked_so}
use Terms.{heard_so, query_so, KeepsGiven, keeps_given, kept_both, first_at, node_here, AllSo, IsSentBy}
use Terms.{AreAsked, RequestsAreKnown, Place, requests_keep, IsAnsweredBy, AllSilent, restart_silent, AreOnce, IsKept, IsNumbered}
use Rattle.arj_law_promise.proofs.meant.Posts.{act_sends, tick_sends}
use Rattle.arj_law_promise.proofs.settling
use settling.{Milds.here_is, Milds.now_cases, Milds.the_node}
use settling.ListingNames.{Fine, coord_fine, fine_both, handled_fine, listed_so, queries, restart_fine, stopped_so, tells_fine}
use settling.Listings.{AtHas, BoundHas, Brings, EntryHas, NamesHave, Of, StepsHave, acked_has, acts_has, again_has, begins_has}
use settling.Listings.{heard_has, names_more, new_has, steps_more}
use settling.Trails.{Down, FitsSo, UpBy, Went, halt_went, went}
use Rattle.arj_law_promise.proofs.waiting
use waiting.{Known.binds_own, Named.by_more, Stepping.of_waiting, WriterNodes.put_at}
use waiting.AskedEffects.{acked_quiet, acts_quiet, heard_quiet, query_quiet, tick_quiet}
use waiting.Serving.{AllSend, AnswerSo, IsKeptIn, message_served, quiet_silent, quiet_so, restart_asks}
use Rattle.arj_journal.specs.ScriptForm.{are_by_number}
use Rattle.arj_promise.specs.Runs.{HeaderFits}
use Rattle.arj_law_disk_view.specs.view.Plans.{plan_by}
use Rattle.arj_law_runs.proofs.Terms.{Act, Placed, acts, book, new_book}
use Rattle.arj_law_runs.proofs.journal.{Models.its_acts, Models.named_in}
use Rattle.arj_law_runs.specs.journal.Right.{AreRight}
use Rattle.arj_law_serial.proofs.joint.JoinModel.{joined}
use Rattle.arj_law_serial.specs.joint.Joins.{FitsIncludes}
use Rattle.arj_model.specs.Actions.{chain_in, committed, has_end, top_in}
use Rattle.arj_model.specs.CausePends.{may_store}
use Rattle.arj_model.specs.CauseSpans.{holds_in}
use Rattle.arj_model.specs.Last as last
use Rattle.arj_model.specs.Last.{included, is_among, joins_by, joins_of, object_line, stores_of_line}
use Rattle.arj_law_cause.proofs.kinds.Asking.{AskSo, AsksAreSo, Stood, among_those, any_later, asking_keep, found_in}
use Rattle.arj_law_cause.proofs.kinds.Over.{or_later, read_later}
use Rattle.arj_law_cause.proofs.rows.Lists.{AnswerLists, AreListed, BoundLists, JoinsAreSo, acked_lists, acts_lists, again_lists, all_has}
use Rattle.arj_law_cause.proofs.rows.Lists.{begins_lists, bind_lists, bound_more, heard_lists, lists_more, new_lists}
use Rattle.arj_law_cause.proofs.rows.Spans.{or_first, or_last}

-- ---- by the lines

-- the node may be a store of the object, where the header is in form
abbrev pub MayStore : Header → List Line → Of
MayStore hd lines x n = HeaderFits hd → may_store hd lines n x ≡ true

-- whoever includes it
abbrev MayInclude : Header → List Line → Uid → Of
MayInclude hd lines u x n = MayStore hd lines x n

-- so it may by more lines
pub stores_later : (hd : Header) (ls ms : List Line) (x n : ℕ) → MayStore hd ls x n → MayStore hd (ls ++ ms) x n
stores_later hd ls ms x n is = λ form. or_later (is_among (stores_of_line (object_line hd x)) n)
    (list_any (λ (i : Placed last.Inclusion). (i.it.x == x) && (i.it.node == n)) (included ls))
    (is_among (stores_of_line (object_line hd x)) n)
    (list_any (λ (i : Placed last.Inclusion). (i.it.x == x) && (i.it.node == n)) (included (ls ++ ms))) (λ on. on)
    (read_later last.included_of (λ (i : Placed last.Inclusion). (i.it.x == x) && (i.it.node == n)) [] 0 ls ms) (is form)

-- a store that an include of a top names
pub joined_stores : (hd : Header) (lines : List Line) (id x n : ℕ) → is_among (joins_of lines id x) n ≡ true → MayStore hd lines x n
joined_stores hd lines id x n on = λ form. or_last (is_among (stores_of_line (object_line hd x)) n)
    (list_any (λ (i : Placed last.Inclusion). (i.it.x == x) && (i.it.node == n)) (included lines))
    (any_later joins names to (included lines)
    (sym (among_those (λ (i : Placed last.Inclusion). joins_by (committed lines) id x i (top_in i.it.path)) (included lines) n) ∙ on))
  where
    joins : Placed last.Inclusion → Bool
    joins i = holds_in (λ m. m == n) (joins_by (committed lines) id x i (top_in i.it.path))

    names : Placed last.Inclusion → Bool
    names i = (i.it.x == x) && (i.it.node == n)

    one : (a b c d : Bool) (m : ℕ) → (m == n) ≡ d → holds_in (λ k. k == n) (cond (a && (b && c)) (Some m) None) ≡ true → (b && d) ≡ true
    one true true true d m same is = sym same ∙ is
    one true true false d m same is = absurd (cc is)
    one true false c d m same is = absurd (cc is)
    one false b c d m same is = absurd (cc is)

    to : (i : Placed last.Inclusion) → joins i ≡ true → names i ≡ true
    to i is = by (top_in i.it.path) is
      where
        by : (o : Option Act) → holds_in (λ m. m == n) (joins_by (committed lines) id x i o) ≡ true → names i ≡ true
        by None e = absurd (cc e)
        by (Some t) e = one (t.id == id) (i.it.x == x) (list_all (λ (a : Act). has_end (committed lines) a.id) (chain_in i.it.path))
            (i.it.node == n) i.it.node refl e

-- ---- what is seen

-- an answer to a Bind names such stores
abbrev pub ReplyLists : Of → List Post → Post → Asked → Reply → Type 0
ReplyLists P sent p a (Reply.Bound r) =
    (h : Head) × (x : ℕ) × (include : Bool) × (avoid : Binding) × IsAnsweredBy sent p a h (ask.Bind x include avoid) × BoundLists P x r
ReplyLists P sent p a r = ⊤

-- a coordinator's calls are to ask such, and its roots and commits have lists of such
abbrev pub CoordHas : Of → Coord → Type 0
CoordHas P c = StepsHave P c × AreListed P c

-- each store that an entry lists, that an answer to a Bind names, that a call is to ask for a state or that is asked for one, that a root
-- keeps with a binding, or that a plan has
pub record AreStored (hd : Header) (M : Seen) : Type 0 where
  pub names : (j : ℕ) (n : Node) → M.nodes j ≡ Some n → NamesHave (MayStore hd M.lines) (MayInclude hd M.lines) (let d = n.disk in d.names)
  pub replies : (p : Post) (a : Asked) (r : Reply) → In p M.sent → answers p.message ≡ Some (a, r) →
      ReplyLists (MayStore hd M.lines) M.sent p a r
  pub coords : (j : ℕ) (n : Node) (t : Parts) → M.nodes j ≡ Some n → n.live ≡ Some t → CoordHas (MayStore hd M.lines) t.coord
  pub loads : (p : Post) (h : Head) (x : ℕ) → In p M.sent → asks p.message ≡ Some (h, ask.Load x) → MayStore hd M.lines x p.to

-- any line
abbrev AnyLine : Body → Type 0
AnyLine b = ⊤

-- who is asked for a state is one that the call is to ask
loads_of : (P : Of) (c : Coord) → StepsHave P c → (to : ℕ) (h : Head) (x : ℕ) → IsSentBy c to h (ask.Load x) → P x to
loads_of P c all to h x s = by s.doing.now refl
  where
    machine : (m : Machine) → ask.Load x ≡ ask_of m to → ⊥
    machine (Voting p left) is = cc is
    machine (Preparing p left) is = cc is
    machine (Confirming p) is = cc is

    step : (w : Steps) → s.doing.now ≡ Calling w → (at : At) → w.at ≡ at → P x to
    step w now (AtBind avoid) is = absurd (let f = s.step w now in let z : ask.Load x ≡ ask.Bind w.x (Words.is_include w.goal) avoid =
        f.same ∙ ap (ask_at w.x w.goal []) is in cc z)
    step w now (AtLoad k n rest) is =
        let f = s.step w now in
        let its : AllByRecursion (P w.x) (n ∷ rest) = subst (AtHas P w.x) is (all (actor h.path) s.doing w s.found now) in
        let same : ask.Load x ≡ ask.Load w.x = f.same ∙ ap (ask_at w.x w.goal []) is in
        let object : x ≡ w.x = cc same in
        subst (P x) (sym (f.node ∙ ap Words.node_at is)) (subst (λ y. P y n) (sym object) its.0)
    step w now (AtActivate k st) is = absurd (let f = s.step w now in let z : ask.Load x ≡ ask.Activate k.binding st =
        f.same ∙ ap (ask_at w.x w.goal []) is in cc z)
    step w now (AtNote k i) is = absurd (let f = s.step w now in let z : ask.Load x ≡ ask.Record w.x k.binding i k.grant =
        f.same ∙ ap (ask_at w.x w.goal []) is in cc z)
    step w now (AtInvoke k i) is = absurd (let f = s.step w now in let z : ask.Load x ≡ ask_at w.x w.goal [] (AtInvoke k i) =
        f.same ∙ ap (ask_at w.x w.goal []) is in cc z)

    by : (n : Now) → s.doing.now ≡ n → P x to
    by Idle now = absurd (s.busy now)
    by (Calling w) now = step w now w.at refl
    by (Committing m) now = absurd (machine m (let f = s.commit m now in f.same))

-- what is claimed of more stores
module _ (P Q : Of) (more : (x n : ℕ) → P x n → Q x n) where
  answers_more : (few many : List Post) → ((p : Post) (a : Asked) (h : Head) (b : Ask) → IsAnsweredBy few p a h b →
      IsAnsweredBy many p a h b) → (p : Post) (a : Asked) (r : Reply) → ReplyLists P few p a r → ReplyLists Q many p a r
  answers_more few many by p a (Reply.Bound r) its =
      (its.0, its.1, its.2, its.3, by p a its.0 (ask.Bind its.1 its.2 its.3) its.4, bound_more P Q more its.1 r its.5)
  answers_more few many by p a (Reply.Loaded r) its = tt
  answers_more few many by p a (Reply.Activated r) its = tt
  answers_more few many by p a (Reply.Noted r) its = tt
  answers_more few many by p a (Reply.Invoked r) its = tt
  answers_more few many by p a (Reply.Voted r) its = tt
  answers_more few many by p a (Reply.Prepared r) its = tt
  answers_more few many by p a (Reply.Confirmed r) its = tt

  coord_more : (c : Coord) → CoordHas P c → CoordHas Q c
  coord_more c its = (steps_more P Q more c its.0, lists_more P Q more c its.1)

-- of each number of a list
of_has : (Q : ℕ → Type 0) (ns : List ℕ) → ((n : ℕ) → has ns n ≡ true → Q n) → AllByRecursion Q ns
of_has Q [] each = tt
of_has Q (n ∷ ns) each = (each n (ap (λ b. b || has ns n) (same_number n)), of_has Q ns (λ m on. each m (or_last (n == m) (has ns m) on)))

-- so each store that a call goes on to load from is such
bound_has : (P : Of) (x : ℕ) (r : BoundReply) → BoundLists P x r → BoundHas P x r
bound_has P x (bound.Live b server i g stores) its = tt
bound_has P x (bound.Make b server g stores) its = of_has (P x) stores its
bound_has P x (bound.Write g stores) its = of_has (P x) stores its
bound_has P x (bound.Conflict holder m) its = tt

-- ---- one node's step

module _ (hd : Header) (k : ℕ) (d : Disk) (live : Option Parts) (M : Seen) where
  abbrev P : Of
  P = MayStore hd M.lines

  abbrev I : Uid → Of
  I = MayInclude hd M.lines

  -- its entries list such stores
  abbrev Goes : Disk → Type 0
  Goes c = NamesHave (MayStore hd M.lines) (MayInclude hd M.lines) c.names

  -- and its coordinator asks them
  abbrev Fits : Disk → Option Parts → Type 0
  Fits c l = Goes c × ((t : Parts) → l ≡ Some t → CoordHas (MayStore hd M.lines) t.coord)

  -- an answer names such stores, and a request for a state goes to one
  abbrev Sends : Post → Type 0
  Sends p = ((a : Asked) (r : Reply) → answers p.message ≡ Some (a, r) → ReplyLists (MayStore hd M.lines) M.sent p a r)
      × ((h : Head) (x : ℕ) → asks p.message ≡ Some (h, ask.Load x) → MayStore hd M.lines x p.to)

  module _ (lists : AreStored hd (at k d live M)) where
    module _ (Z : Seen) (w : Went k M AnyLine Sends Fits Z) where
      more : (x n : ℕ) → MayStore hd M.lines x n → MayStore hd Z.lines x n
      more x n is = subst (λ ls. MayStore hd ls x n) (sym w.lines) (stores_later hd M.lines w.more x n is)

      by_on : (p : Post) (a : Asked) (h : Head) (b : Ask) → IsAnsweredBy M.sent p a h b → IsAnsweredBy Z.sent p a h b
      by_on p a h b = by_more M.sent Z.sent w.on p a h b

      stored_on : AreStored hd Z
      stored_on = record {
        names = λ j n is. ⊎_elim
            (λ here. subst (λ (z : Node). NamesHave (MayStore hd Z.lines) (MayInclude hd Z.lines) (let c = z.disk in c.names)) (sym here.1)
            (names_more P (MayStore hd Z.lines) more I (MayInclude hd Z.lines) (λ u x n is. more x n is) (let c = w.disk in c.names)
            w.fits.0))
            (λ there. names_more P (MayStore hd Z.lines) more I (MayInclude hd Z.lines) (λ u x n is. more x n is)
            (let c = n.disk in c.names) (lists.names j n there.1))
            (now_cases k d live M AnyLine Sends Fits Z w j n is);
        replies = λ p a r i is. answers_more P (MayStore hd Z.lines) more M.sent Z.sent by_on p a r
            (⊎_elim (λ old. lists.replies p a r old is) (λ new. let s = new.1 in s.0 a r is) (w.back p i));
        coords = λ j n t is live_is. coord_more P (MayStore hd Z.lines) more t.coord (⊎_elim
            (λ here. w.fits.1 t (ap (λ (z : Node). z.live) (sym here.1) ∙ live_is))
            (λ there. lists.coords j n t there.1 live_is)
            (now_cases k d live M AnyLine Sends Fits Z w j n is));
        loads = λ p h x i is. more x p.to (⊎_elim (λ old. lists.loads p h x old is) (λ new. let s = new.1 in s.1 h x is) (w.back p i));
      }

    names_here : NamesHave (MayStore hd M.lines) (MayInclude hd M.lines) d.names
    names_here = lists.names k (the_node k d live) (here_is k d live M)

    -- the disk goes on behind each work
    abbrev FitsHere : Effect → Type 0
    FitsHere = FitsSo k M AnyLine Sends (λ b q. tt) tt Goes

    abbrev Replies : Effect → Type 0
    Replies (Send to m) = Sends (record { from = k; to = to; message = m })
    Replies f = ⊤

    fits : (outs : List Effect) → Fine P I outs → AllByRecursion Replies outs → AllByRecursion FitsHere outs
    fits [] fine all = tt
    fits (Say b ∷ es) fine all = (tt, fits es fine.1 all.1)
    fits (Send to m ∷ es) fine all = (all.0, fits es fine.1 all.1)
    fits (Do w ∷ es) fine all = ((λ c goes how. stopped_so P I how w c fine.0 goes), fits es fine.1 all.1)

    down_stored : (Z : Seen) → Went k M AnyLine Sends (Down k M AnyLine Sends (λ b q. tt) tt Goes) Z → AreStored hd Z
    down_stored Z w = stored_on Z (record {
      more = w.more;
      lines = w.lines;
      said_so = w.said_so;
      back = w.back;
      on = w.on;
      others = w.others;
      disk = w.disk;
      live = w.live;
      here = w.here;
      fits = (w.fits.0, λ t is. let no_way : ◌≡◌ {A = Option Parts} None (Some t) = sym w.fits.1 ∙ is in absurd (cc no_way));
    })

    pub halt_stored : (e : ℕ) → AreStored hd (halted e k d M)
    halt_stored e = down_stored (halted e k d M) (halt_went k M AnyLine Sends (λ b q. tt) tt Goes e d names_here)

    pub go : (e : ℕ) (v : Parts) (outs : List Effect) → CoordHas P v.coord → Fine P I outs → AllByRecursion Replies outs →
        Walks (AreStored hd) e k outs (Up (AreStored hd) k v) d M
    go e v outs its fine all = walks_to (Went k M AnyLine Sends (Down k M AnyLine Sends (λ b q. tt) tt Goes)) (AreStored hd) e k outs
        (λ c N. Went k M AnyLine Sends (UpBy k M AnyLine Sends (λ b q. tt) tt Goes v) (up k c v N)) (Up (AreStored hd) k v) d M
        down_stored
        (λ c N w. stored_on (up k c v N) (record {
          more = w.more;
          lines = w.lines;
          said_so = w.said_so;
          back = w.back;
          on = w.on;
          others = w.others;
          disk = w.disk;
          live = w.live;
          here = w.here;
          fits = (w.fits.0, λ t is. subst (λ (z : Parts). CoordHas P z.coord) (some_is (sym w.fits.1 ∙ is)) its);
        }))
        (went k M AnyLine Sends (λ b q. tt) tt Goes e v outs d (fits outs fine all) names_here)

    -- what is no answer, and is asked by whoever waits
    silent_sends : (c : Coord) (outs : List Effect) → StepsHave P c → AllSilent outs → AllSo c outs → AllByRecursion Replies outs
    silent_sends c [] steps q so = tt
    silent_sends c (Say b ∷ es) steps q so = (tt, silent_sends c es steps q.1 so.1)
    silent_sends c (Do w ∷ es) steps q so = (tt, silent_sends c es steps q.1 so.1)
    silent_sends c (Send to m ∷ es) steps q so = (
      (
        (λ a r is. let no_way : ◌≡◌ {A = Option (Asked × Reply)} None (Some (a, r)) = sym q.0 ∙ is in absurd (cc no_way)),
        λ h x is. loads_of P c steps to h x (so.0 h (ask.Load x) is),
      ),
      silent_sends c es steps q.1 so.1,
    )

    -- an action that begins
    pub begun_stored : (e : ℕ) (v : Parts) (b : Body) (l : Label) (g : Labelled) → CoordHas P v.coord →
        AreStored hd (up k d v (said e (b ∷ []) (given l g M)))
    begun_stored e v b l g its = stored_on (up k d v (said e (b ∷ []) (given l g M))) (record {
      more = numbered e (b ∷ []);
      lines = refl;
      said_so = (tt, tt);
      back = λ p i. inl i;
      on = λ p i. i;
      others = λ j other i. cond (other i) (Some (the_node k d (Some v))) (M.nodes j);
      disk = d;
      live = Some v;
      here = here_is k d (Some v) M;
      fits = (names_here, λ t is. subst (λ (z : Parts). CoordHas P z.coord) (some_is is) its);
    })

-- ---- lines

quiet_stored : (hd : Header) (e : ℕ) (bs : List Body) (M : Seen) → AreStored hd M → AreStored hd (said e bs M)
quiet_stored hd e bs M lists = record {
  names = λ j n is. names_more (MayStore hd M.lines) (MayStore hd (M.lines ++ numbered e bs)) more (MayInclude hd M.lines)
      (MayInclude hd (M.lines ++ numbered e bs)) (λ u x n i. more x n i) (let d = n.disk in d.names) (lists.names j n is);
  replies = λ p a r i is. answers_more (MayStore hd M.lines) (MayStore hd (M.lines ++ numbered e bs)) more M.sent M.sent
      (λ p a h b z. z) p a r (lists.replies p a r i is);
  coords = λ j n t is live. coord_more (MayStore hd M.lines) (MayStore hd (M.lines ++ numbered e bs)) more t.coord
      (lists.coords j n t is live);
  loads = λ p h x i is. more x p.to (lists.loads p h x i is);
}
  where
    more : (x n : ℕ) → MayStore hd M.lines x n → MayStore hd (M.lines ++ numbered e bs) x n
    more x n is = stores_later hd M.lines (numbered e bs) x n is

-- ---- each handler

-- what is known beside
abbrev pub Base : Seen → Type 0
Base M = RequestsAreKnown M × (Stood M × AsksAreSo M)

module _ (hd : Header) (e k : ℕ) (d : Disk) (t : Parts) (M : Seen) (base : Base (up k d t M)) (lists : AreStored hd (up k d t M)) where
  good : IsGoodOf base.0.0.0.0 (up k d t M)
  good = base.0.0.0.1

  bound_all : BindsAreKnown (up k d t M)
  bound_all = base.0.0.1

  asked : AreAsked (up k d t M)
  asked = base.0.1

  abbrev here : Node
  here = record { number = k; disk = d; live = Some t }

  its_coord : CoordHas (MayStore hd M.lines) t.coord
  its_coord = lists.coords k here t (node_here M k here) refl

  steps : StepsHave (MayStore hd M.lines) t.coord
  steps = its_coord.0

  tree_is : IsTree (paths_of base.0.0.0.0)
  tree_is = begun_tree base.0.0.0.0 good.begun

  coord_good : IsGoodCoord base.0.0.0.0 (paths_of base.0.0.0.0) t.coord
  coord_good = good_coord e k d t M (base.0.0.0.0, good)

  its_up : IsUp base.0.0.0.0 M.sent M.labels k d.inc t
  its_up = it e k d t M (base.0.0.0.0, good)

  place : Place M.sent k t.coord
  place = let u = its_up in record {
    actions = base.0.0.0.0;
    begun = good.begun;
    good = coord_good;
    numbered = u.numbered;
    faithful = u.faithful;
    binds = bound_all.nodes k here t (node_here M k here) refl;
  }

  works : length t.coord.doings ≡ length t.coord.tree.branches
  works = let u = its_up in let f = u.faithful in f.works

  right : AreRight new_book M.lines
  right = let kept : IsKept (up k d t M) = base.1.0.0.0.0.0.0.0.0 in let w = kept.1 in w.right

  -- what commits under way include, includes of their tops name
  joins : JoinsAreSo (MayStore hd M.lines) t.coord
  joins u q m found now w i n on = joined_stores hd M.lines (let a = includes.0 in a.id) w.x n
      (sym (joined M.lines right w.x includes.0 in_acts n) ∙ sym (let l = includes.3 in l.same w.x n)
      ∙ (λ j. has (let y = plan_by (found_in (plan_of m).used once w i j) (changed_of w.x (plan_of m)) in y.joins) n) ∙ on)
    where
      includes : FitsIncludes (book M.lines) (name q.label) m
      includes = (base.1.0.0.1 k here t (node_here M k here) refl).1 u q m found now

      in_acts : Among includes.0 (acts M.lines)
      in_acts = subst (Among includes.0) (its_acts M.lines right)
          (named_in (let B = book M.lines in B.acts) (name q.label) includes.0 includes.1)

      once : AreOnce (plan_of m).used
      once = (subst (IsNumbered q.req) now (its_up.numbered u q found)).1.0

  -- ---- an answer that comes

  module _ (from : ℕ) (m : Message) (there : In (record { from = from; to = k; message = m }) M.sent) (a : Asked) (r : Reply)
      (of : answers m ≡ Some (a, r)) (q : Doing) (s : Steps) (does_it : doing_of a.act t.coord ≡ Some q) (now : q.now ≡ Calling s)
      (waits : waits_for_call from a r s ≡ true) where
    -- the stores that naming names are of the object that was asked
    names_them : (b : BoundReply) → r ≡ Reply.Bound b → BoundLists (MayStore hd M.lines) s.x b
    names_them b is = subst (λ y. BoundLists (MayStore hd M.lines) y b) x_is w.5
      where
        w : ReplyLists (MayStore hd M.lines) M.sent (record { from = from; to = k; message = m }) a (Reply.Bound b)
        w = lists.replies (record { from = from; to = k; message = m }) a (Reply.Bound b) there (of ∙ (λ i. Some (a, is i)))

        h : Head
        h = w.0

        of_step : IsOfStep s w.4.post.to h (ask.Bind w.1 w.2 w.3)
        of_step = of_waiting k d t M asked from a r q s does_it now (let u = its_up in
            u.numbered a.act q does_it) waits (record { from = from; to = k; message = m }) refl h (ask.Bind w.1 w.2 w.3) w.4

        x_is : w.1 ≡ s.x
        x_is = binds_own s.x w.1 w.2 w.3 s.goal s.at of_step.same

    brings : Brings (MayStore hd M.lines) s.x s.at r
    brings = by s.at r refl
      where
        by : (at : At) (z : Reply) → r ≡ z → Brings (MayStore hd M.lines) s.x at z
        by (AtBind avoid) (Reply.Bound b) is = bound_has (MayStore hd M.lines) s.x b (names_them b is)
        by (AtBind avoid) (Reply.Loaded i) is = tt
        by (AtBind avoid) (Reply.Activated i) is = tt
        by (AtBind avoid) (Reply.Noted i) is = tt
        by (AtBind avoid) (Reply.Invoked i) is = tt
        by (AtBind avoid) (Reply.Voted i) is = tt
        by (AtBind avoid) (Reply.Prepared i) is = tt
        by (AtBind avoid) (Reply.Confirmed i) is = tt
        by (AtLoad z n others) i is = tt
        by (AtActivate z st) i is = tt
        by (AtNote z j) i is = tt
        by (AtInvoke z j) i is = tt

    lists_fit : AnswerLists (MayStore hd M.lines) s.x s.at r
    lists_fit = by s.at r refl
      where
        by : (at : At) (z : Reply) → r ≡ z → AnswerLists (MayStore hd M.lines) s.x at z
        by (AtBind avoid) (Reply.Bound b) is = names_them b is
        by (AtBind avoid) (Reply.Loaded i) is = tt
        by (AtBind avoid) (Reply.Activated i) is = tt
        by (AtBind avoid) (Reply.Noted i) is = tt
        by (AtBind avoid) (Reply.Invoked i) is = tt
        by (AtBind avoid) (Reply.Voted i) is = tt
        by (AtBind avoid) (Reply.Prepared i) is = tt
        by (AtBind avoid) (Reply.Confirmed i) is = tt
        by (AtLoad z n others) i is = tt
        by (AtActivate z st) i is = tt
        by (AtNote z j) i is = tt
        by (AtInvoke z j) i is = tt

  -- ---- a message

  module _ (from : ℕ) (m : Message) (there : In (record { from = from; to = k; message = m }) M.sent) where
    abbrev p : Post
    p = record { from = from; to = k; message = m }

    -- what a Confirm includes an include of its top names
    includes : (h : Head) (g : Grants) (x i : Marks) → asks m ≡ Some (h, ask.Confirm g x i) → (y n : ℕ) → Among (y, n) i →
        MayStore hd M.lines y n
    includes h g x i is y n among =
        let so : AskSo M.lines (Some (h, ask.Confirm g x i)) = subst (AskSo M.lines) is (base.1.1 p there) in
        let z = so.2 (y, n) among in
        joined_stores hd M.lines (let a = z.0 in a.id) y n z.3

    -- an answer of naming's names stores of its list
    abbrev Names : Head → ℕ → Bool → Binding → BoundReply → Type 0
    Names h x include avoid r = BoundLists (MayStore hd M.lines) x r

    abbrev Any : Head → ℕ → ObjectState → Type 0
    Any h x st = ⊤

    bind_names : (h : Head) (x : ℕ) (include : Bool) (avoid : Binding) (n : Naming) (q : BoundReply) →
        (let r = naming.bind h.path x include avoid d.names n in r.reply) ≡ Some q → BoundLists (MayStore hd M.lines) x q
    bind_names h x include avoid n q is = bind_lists (MayStore hd M.lines) x h.path include avoid d.names n
        (all_has (MayStore hd M.lines) x (let e = naming.listed_entry x d.names in e.stores)
        (listed_so (MayStore hd M.lines) (MayInclude hd M.lines) x d.names (names_here hd k d (Some t) M lists))) q is

    abbrev ItsServer : Server → Type 0
    ItsServer s = ⊤

    abbrev ItsNaming : Option Naming → Type 0
    ItsNaming o = ⊤

    abbrev ItsCoord : Coord → Type 0
    ItsCoord c = CoordHas (MayStore hd M.lines) c

    kept : IsKeptIn Names Any from m k d t ItsServer ItsNaming ItsCoord
    kept = record {
      its_server = tt;
      its_coord = its_coord;
      activate = λ h b st is. tt;
      invoke = λ h x b i ends o is. tt;
      vote = λ h i ties ends. tt;
      told = λ ends. tt;
      its_naming = tt;
      bind = λ h x include avoid n is there. (tt, λ q is. bind_names h x include avoid n q is);
      note = λ h x b i g n there. tt;
      confirm = λ h grants ex inc n there. tt;
      ended = λ u how n there. tt;
      hello = λ node inc n there. tt;
      load = λ h x st is. tt;
    }

    abbrev By : Handled → Type 0
    By (Void es) = ⊤
    By (Took w es) = ((ItsServer w.server × ItsNaming w.naming) × ItsCoord w.coord) × AllSend Names Any from m w.coord es

    served : (v : Parts) (outs : List Effect) → handle k d t from m ≡ Took v outs →
        ((ItsServer v.server × ItsNaming v.naming) × ItsCoord v.coord) × AllSend Names Any from m v.coord outs
    served v outs is = subst By is (message_served Names Any from m k d t ItsServer ItsNaming ItsCoord kept
        (λ a r of. let q = heard from a r d.intents t.coord in (
          (
            heard_has (MayStore hd M.lines) M.sent k t.coord place steps from a r d.intents
                (answers_fit base.0.0.0.0 e k d t M good bound_all from m there a r of)
                (λ z s does_it now waits. brings from m there a r of z s does_it now waits),
            heard_lists (MayStore hd M.lines) from a r d.intents t.coord its_coord.1 joins
                (λ z s does_it now waits. lists_fit from m there a r of z s does_it now waits),
          ),
          quiet_so Names Any from m q.part q.outs (heard_quiet base.0.0.0.0 e k d t M good from a r) (heard_so base.0.0.0.0
              (paths_of base.0.0.0.0) tree_is t.coord coord_good (let u = its_up in u.numbered) works from a r d.intents),
        ))
        (λ u. let q = acked from u d.intents t.coord in (
          (
            acked_has (MayStore hd M.lines) M.sent k t.coord place steps from u d.intents,
            acked_lists (MayStore hd M.lines) from u d.intents t.coord its_coord.1 joins,
          ),
          quiet_so Names Any from m q.part q.outs (acked_quiet base.0.0.0.0 e k d t M good from u) (acked_so from u d.intents t.coord),
        ))
        (λ u. quiet_so Names Any from m t.coord (answer_query from u d.intents t.coord) (query_quiet base.0.0.0.0 e k d t M good from u)
        (query_so t.coord from u d.intents t.coord)))

    answer_has : (to : ℕ) (o : Message) (a : Asked) (r : Reply) → AnswerSo Names Any from m to a r →
        ReplyLists (MayStore hd M.lines) M.sent (record { from = k; to = to; message = o }) a r
    answer_has to o a (Reply.Bound r) so = (
      so.head,
      so.object,
      so.include,
      so.avoid,
      record { post = p; posted = there; from = sym so.back; asking = so.asking; asker = so.asker },
      so.so,
    )
    answer_has to o a (Reply.Loaded r) so = tt
    answer_has to o a (Reply.Activated r) so = tt
    answer_has to o a (Reply.Noted r) so = tt
    answer_has to o a (Reply.Invoked r) so = tt
    answer_has to o a (Reply.Voted r) so = tt
    answer_has to o a (Reply.Prepared r) so = tt
    answer_has to o a (Reply.Confirmed r) so = tt

    all_replies : (c : Coord) (outs : List Effect) → StepsHave (MayStore hd M.lines) c → AllSend Names Any from m c outs →
        AllByRecursion (Replies hd k d (Some t) M lists) outs
    all_replies c [] its so = tt
    all_replies c (Say b ∷ es) its so = (tt, all_replies c es its so.1)
    all_replies c (Do w ∷ es) its so = (tt, all_replies c es its so.1)
    all_replies c (Send to o ∷ es) its so = (
      (
        (λ a r is. answer_has to o a r (so.0.0 a r is)),
        λ h x is. loads_of (MayStore hd M.lines) c its to h x (so.0.1 h (ask.Load x) is),
      ),
      all_replies c es its so.1,
    )

    message_stored : (v : Parts) (outs : List Effect) → handle k d t from m ≡ Took v outs →
        Walks (AreStored hd) e k outs (Up (AreStored hd) k v) d M
    message_stored v outs is =
        let s = served v outs is in
        go hd k d (Some t) M lists e v outs s.0.1
        (handled_fine (MayStore hd M.lines) (MayInclude hd M.lines) k d t from m (names_here hd k d (Some t) M lists) includes
        (λ u last x n its. its)
        (λ a r of. coord_fine (MayStore hd M.lines) (MayInclude hd M.lines) (heard from a r d.intents t.coord).outs
        (heard_own from a r d.intents t.coord))
        (λ u. coord_fine (MayStore hd M.lines) (MayInclude hd M.lines) (acked from u d.intents t.coord).outs
        (acked_own from u d.intents t.coord))
        (λ u. coord_fine (MayStore hd M.lines) (MayInclude hd M.lines) (answer_query from u d.intents t.coord)
        (query_own from u d.intents t.coord)) v outs is)
        (all_replies v.coord outs s.0.1.0 s.1)

  -- ---- an act, and a tick

  act_stored : (i : Input) → is_act i ≡ true → refusal_up hd i t.coord ≡ None →
      Walks (AreStored hd) e k (let r = does i d.intents t.coord in r.outs)
      (Up (AreStored hd) k (with_coord t (does i d.intents t.coord).part)) d M
  act_stored i is free =
      let r = does i d.intents t.coord in
      let its = acts_has (MayStore hd M.lines) M.sent k t.coord place steps hd i d.intents free other in
      go hd k d (Some t) M lists e (with_coord t r.part) r.outs
      (its, acts_lists (MayStore hd M.lines) i d.intents t.coord its_coord.1 joins)
      (coord_fine (MayStore hd M.lines) (MayInclude hd M.lines) r.outs (acts_own i d.intents t.coord))
      (silent_sends hd k d (Some t) M lists r.part r.outs its
      (quiet_silent r.outs (acts_quiet base.0.0.0.0 e k d t M good hd i is free)) (act_sends base.0.0.0.0 e k d t M good i is))
    where
      other : (l : Label) (how : Kind) (parent : Option Label) → i ≢ input.Begin l how parent
      other l how parent same = let no_way : false ≡ true = sym (ap is_act same) ∙ is in cc no_way

  tick_stored : Walks (AreStored hd) e k (tick_outs (record { number = k; disk = d; live = Some t }) t)
      (Up (AreStored hd) k (with_coord t (again_all t.coord.doings t.coord).part)) d M
  tick_stored =
      let r = again_all t.coord.doings t.coord in
      let tolds = tolds_again t.coord.telling in
      let outs = tick_outs (record { number = k; disk = d; live = Some t }) t in
      let its = again_has (MayStore hd M.lines) M.sent k t.coord place steps in
      go hd k d (Some t) M lists e (with_coord t r.part) outs
      (its, again_lists (MayStore hd M.lines) t.coord its_coord.1 joins)
      (fine_both (MayStore hd M.lines) (MayInclude hd M.lines) (r.outs ++ tolds) (map query_about (holders d t))
      (fine_both (MayStore hd M.lines) (MayInclude hd M.lines) r.outs tolds (coord_fine (MayStore hd M.lines) (MayInclude hd M.lines)
      r.outs (again_own t.coord.doings t.coord)) (tells_fine (MayStore hd M.lines) (MayInclude hd M.lines) t.coord.telling))
      (queries (MayStore hd M.lines) (MayInclude hd M.lines) (holders d t)))
      (silent_sends hd k d (Some t) M lists r.part outs its (quiet_silent outs (tick_quiet base.0.0.0.0 e k d t M good))
      (tick_sends base.0.0.0.0 e k d t M good))

-- ---- a restart

module _ (hd : Header) (e k : ℕ) (d : Disk) (M : Seen) (lists : AreStored hd (down k d M)) where
  restart_stored : Walks (AreStored hd) e k (restart_outs hd k (d.inc + 1) d) (Up (AreStored hd) k (parts_in k (d.inc + 1) d)) d M
  restart_stored = go hd k d None M lists e (parts_in k (d.inc + 1) d) (restart_outs hd k (d.inc + 1) d)
      (its, new_lists (MayStore hd M.lines) k (d.inc + 1) d.intents)
      (restart_fine (MayStore hd M.lines) (MayInclude hd M.lines) hd k (d.inc + 1) d)
      (silent_sends hd k d None M lists (let t = parts_in k (d.inc + 1) d in t.coord) (restart_outs hd k (d.inc + 1) d) its
      (restart_silent hd k (d.inc + 1) d) (restart_asks hd k (d.inc + 1) d))
    where
      its : StepsHave (MayStore hd M.lines) (let t = parts_in k (d.inc + 1) d in t.coord)
      its = new_has (MayStore hd M.lines) k (d.inc + 1) d.intents

-- ---- at first

has_among : (ns : List ℕ) (n : ℕ) → is_among ns n ≡ has ns n
has_among [] n = refl
has_among (m ∷ ns) n = ap (λ b. (m == n) || b) (has_among ns n)

-- lines of objects by number
all_above : (p : ObjectLine) (os : List ObjectLine) → are_by_number (p ∷ os) ≡ true → (o : ObjectLine) → Among o os → p.x < o.x
all_above p [] by o i = absurd i
all_above p (q ∷ os) by o i =
    let b = and_parts (nat_lt p.x q.x) (are_by_number (q ∷ os)) by in
    ⊎_elim (λ same. subst (λ (z : ObjectLine). p.x < z.x) same (lower p.x q.x b.0))
    (λ more. let low = lower p.x q.x b.0 in let high = all_above q os b.1 o more in omega (arith, low, high)) i
  where
    lower : (j k : ℕ) → nat_lt j k ≡ true → j < k
    lower j k is = grind (arith, nat_tests, is)

-- each is that of its object
line_found : (os : List ObjectLine) → are_by_number os ≡ true → (o : ObjectLine) → Among o os →
    find (λ (p : ObjectLine). p.x == o.x) os ≡ Some o
line_found [] by o i = absurd i
line_found (p ∷ os) by o i = ⊎_elim
    (λ same. (λ j. cond ((ap (λ (z : ObjectLine). z.x == o.x) same ∙ same_number o.x) j) (Some p)
    (find (λ (q : ObjectLine). q.x == o.x) os)) ∙ ap Some same)
    (λ more. (λ j. cond (other p.x o.x (all_above p os by o more) j) (Some p) (find (λ (q : ObjectLine). q.x == o.x) os))
    ∙ line_found os (rest os by) o more) i
  where
    other : (j k : ℕ) → j < k → (j == k) ≡ false
    other j k less = grind (arith, nat_tests, less)

    rest : (os : List ObjectLine) → are_by_number (p ∷ os) ≡ true → are_by_number os ≡ true
    rest [] is = refl
    rest (q ∷ qs) is = (and_parts (nat_lt p.x q.x) (are_by_number (q ∷ qs)) is).1

first_stored : (hd : Header) → IsAtStarts hd (AreStored hd)
first_stored hd st formed = record {
  names = λ j n is. subst (λ (z : Node). NamesHave P0 (MayInclude hd []) (let d = z.disk in d.names)) (first_at hd st j n is)
      (record { held = by_node (j == 1); pend = tt });
  replies = λ p a r i is. absurd i;
  coords = λ j n t is live. subst (λ (z : Parts). CoordHas P0 z.coord) (first_up hd st j n t is live)
      (new_has P0 j (st.incs j + 1) [], new_lists P0 j (st.incs j + 1) []);
  loads = λ p h x i is. absurd i;
}
  where
    P0 : Of
    P0 = MayStore hd []

    entry_of : ObjectLine → ObjectState
    entry_of o = entry_by hd.format (st.marks.entries o.x) o

    Its : List (Uid × ObjectState) → Type 0
    Its held = AllByRecursion (λ (e : Uid × ObjectState). EntryHas (MayStore hd [] (let u = e.0 in u.num)) e.1) held

    has_line : (o : ObjectLine) → Among o hd.objects → (n : ℕ) → has o.stores n ≡ true → MayStore hd [] o.x n
    has_line o i n on = λ form. or_first (is_among (stores_of_line (object_line hd o.x)) n)
        (list_any (λ (j : Placed last.Inclusion). (j.it.x == o.x) && (j.it.node == n)) (included []))
        (ap (λ l. is_among (stores_of_line l) n) (line_found hd.objects (let f = form.objects in f.1) o i) ∙ has_among o.stores n ∙ on)

    one : (o : ObjectLine) → Among o hd.objects → EntryHas (MayStore hd [] o.x) (entry_of o)
    one o i = subst (λ (e : Entry). AllByRecursion (MayStore hd [] o.x) e.stores) (sym
        (entry_back (record { servers = o.servers; stores = o.stores }))) (of_has (MayStore hd [] o.x) o.stores (has_line o i))

    lines : (os : List ObjectLine) (held : List (Uid × ObjectState)) → ((o : ObjectLine) → Among o os → Among o hd.objects) → Its held →
        Its (put_states (map entry_of os) held)
    lines [] held within so = so
    lines (o ∷ os) held within so = lines os (put_uid (entry o.x) (entry_of o) held) (λ z i. within z (inr i)) (put_at (λ u
        (z : ObjectState). EntryHas (MayStore hd [] u.num) z) (entry o.x) (entry_of o) held (one o (within o (inl refl))) so)

    by_node : (b : Bool) → Its (put_states (cond b (map entry_of hd.objects) []) [])
    by_node true = lines hd.objects [] (λ o i. i) tt
    by_node false = tt

-- ---- all handlers

stored_given : (hd : Header) → KeepsGiven hd Base (AreStored hd)
stored_given hd = record {
  quiet = λ e bs M q base lists. quiet_stored hd e bs M lists;
  stop = λ e k d live M base lists. halt_stored hd k d live M lists e;
  message = λ e k d t v from m outs M base lists there meant is. message_stored hd e k d t M base lists from m there v outs is;
  act = λ e k d t i M is free base lists. act_stored hd e k d t M base lists i is free;
  begin = λ e k d t l how parent M new may free base lists. begun_stored hd k d (Some t) M lists e (with_coord t (begin_action l how parent
      (parent_of parent t.coord) t.coord).part) (body.Began l how _ parent) l (record { node = k; serial = is_serial how }) (
        begins_has (MayStore hd M.lines) l how parent t.coord (steps hd e k d t M base lists),
        begins_lists (MayStore hd M.lines) l how parent t.coord (its_coord hd e k d t M base lists).1,
      );
  tick = λ e k d t M base lists. tick_stored hd e k d t M base lists;
  restart = λ e k d M base lists. restart_stored hd e k d M lists;
  first = first_stored hd;
}

-- with it
abbrev pub StoresAreKnown : Header → Seen → Type 0
StoresAreKnown hd M = Base M × AreStored hd M

pub stored_keep : (hd : Header) → Keeps hd (StoresAreKnown hd)
stored_keep hd = kept_both hd Base (AreStored hd) (kept_both hd RequestsAreKnown (λ M. Stood M × AsksAreSo M) (requests_keep hd)
    (keeps_given hd RequestsAreKnown (λ M. Stood M × AsksAreSo M) (asking_keep hd))) (stored_given hd)
