-- Each store that a list names has the object, or a decided top includes it: in every run.
use Rattle.arj_law_parts.proofs.Words
use Words.{world_from}
use Words.{◌≡◌, ◌≢◌, ◌⊎◌, ◌∙◌, ◌++◌, ◌==◌, ◌||◌, ◌+◌, ℕ, Bool, true, false, cond, filter, length, map, List, [], ◌∷◌, Option, Some, None}
use Words.{refl, sym, ap, subst, inl, inr, ⊎_elim, ⊤, is_some, AllByRecursion, or_cases, is_on, object, In as Among, acked_own, acts_own}
use Words.{again_own, heard_own, query_own, entry_back, Ask, Asked, Binding, Body, BoundReply, End, Entry, Head, Header, Kind, Label}
use Words.{Message, ObjectState, Uid, asks, entry, Reply, answers, last_end, top_of, again_all, begin_action, heard, waits_for_call, At}
use Words.{AtActivate, AtBind, AtInvoke, AtLoad, AtNote, Steps, Grants, Marks, Calling, Coord, Doing, doing_of, Abort, After, Before}
use Words.{Commit, Disk, Do, Effect, InPart, Look, Prepare, PutInc, PutIntent, RemoveIntent, Say, Send, Stop, Work, held_at, new_states}
use Words.{stopped, acked, answer_query, tick_outs, Naming, Handled, Parts, Took, Void, handle, holders, query_about, with_coord, at_uid}
use Words.{has, put_uid, Server, Input, Node, acts, parent_of, parts_in, put_states, refusal_up}
use Words.{restart_outs, tolds_again, Labelled, numbered, ObjectLine, Post, Seen, see, is_serial}
use Words.ask
use Words.body
use Words.ending
use Words.role
use Words.naming
use Words.input
use Rattle.arj_base.specs.declared.state.Format.{Format}
use Rattle.arj_law_promise.proofs.Terms
use Terms.{IsAtStarts, Mark, entry_by, first_up, older_at, state_by, states_from}
use Terms.{HeaderFits, paths_of, IsGoodCoord, IsTree, told_by, begun_tree, put_same, IsGoodOf, IsUp, good_coord, it, same_number, Keeps}
use Terms.{is_act, In, at, down, given, said, up, Up, Walks, halted, walks_to, BindsAreKnown, answers_fit, some_is, IsOfStep, acked_so}
use Terms.{heard_so, query_so, KeepsGiven, keeps_given, kept_both, first_at, node_here, book, is_decided, new_book, IsSaid, Later}
use Terms.{book_more, later_from, AreAsked, RequestsAreKnown, Place, requests_keep, IsAnsweredBy, AllSilent, restart_silent, AsksForItself}
use Terms.{IsForItself}
use Rattle.arj_law_promise.proofs.settling
use settling.{Milds.here_is, Milds.now_cases, Milds.the_node, StockRuns.StocksAreKnown, StockRuns.stocks_keep, Stocks.IsIncluded}
use settling.ListingNames.{Fine, binds, coord_fine, fine_both, handled_fine, listed_so, queries, restart_fine, stopped_so, tells_fine}
use settling.Listings.{BoundHas, Brings, EntryHas, NamesHave, Of, ReplyHas, StepsHave, acked_has, acts_has, again_has, begins_has}
use settling.Listings.{heard_has, names_more, new_has, reply_more, steps_more}
use settling.StockParts.{moved_keeps, put_keeps, some_keeps}
use settling.Trails.{Down, FitsSo, UpBy, Went, halt_went, went}
use Rattle.arj_law_promise.proofs.waiting
use waiting.{Known.binds_own, Named.by_more, Stepping.of_waiting, WriterNodes.put_at}
use waiting.AskedEffects.{acked_quiet, acts_quiet, heard_quiet, query_quiet, tick_quiet}
use waiting.Serving.{AllSend, AnswerSo, IsKeptIn, message_served, quiet_silent, quiet_so}

-- the node, if it's there, has a committed state of the object
abbrev pub IsHeldAt : Seen → ℕ → ℕ → Type 0
IsHeldAt M n x = (a : Node) → M.nodes n ≡ Some a → is_some (held_at (object x) (let d = a.disk in d.store)) ≡ true

-- or a decided top includes it
abbrev pub HasIt : Seen → Of
HasIt M x n = IsHeldAt M n x ⊎ ((u : Uid) × IsIncluded M u x n × (is_decided (book M.lines) u ≡ true))

-- so it is of each store that a list names
pub record AreListed (M : Seen) : Type 0 where
  pub names : (j : ℕ) (n : Node) → M.nodes j ≡ Some n → NamesHave (HasIt M) (IsIncluded M) (let d = n.disk in d.names)
  pub replies : (p : Post) (a : Asked) (r : Reply) → In p M.sent → answers p.message ≡ Some (a, r) → ReplyHas (HasIt M) M.sent p a r
  pub steps : (j : ℕ) (n : Node) (t : Parts) → M.nodes j ≡ Some n → n.live ≡ Some t → StepsHave (HasIt M) t.coord

decided_on : (first more : List _) → (u : Uid) → is_decided (book first) u ≡ true → is_decided (book (first ++ more)) u ≡ true
decided_on first more u on = by (subst (Later (book first)) (sym (book_more new_book first more)) (later_from (book first) more))
  where
    left : (a b : Bool) → a ≡ true → (a || b) ≡ true
    left a b is = ap (λ z. z || b) is

    right : (a b : Bool) → b ≡ true → (a || b) ≡ true
    right true b is = refl
    right false b is = is

    by : Later (book first) (book (first ++ more)) → is_decided (book (first ++ more)) u ≡ true
    by l = ⊎_elim (λ c. left _ _ (l.committed u c)) (λ f. right _ _ (l.found u f))
        (or_cases (is_on (book first).committed u) (is_on (book first).found u) on)

-- ---- states that stay

-- no work takes a committed state
pub held_stays : (y : Uid) (how : Stop) (w : Work) (d : Disk) → is_some (held_at y d.store) ≡ true →
    is_some (held_at y (let c = stopped how w d in c.store)) ≡ true
held_stays y Before w d on = on
held_stays y After Look d on = on
held_stays y After (PutInc i) d on = on
held_stays y After (Prepare role.Store u states) d on = on
held_stays y After (Prepare role.Names u states) d on = on
held_stays y After (Commit role.Store u) d on = moved_keeps y (new_states u d.store) d.store.held on
held_stays y After (Commit role.Names u) d on = on
held_stays y After (Abort role.Store u) d on = on
held_stays y After (Abort role.Names u) d on = on
held_stays y After (PutIntent u i) d on = on
held_stays y After (RemoveIntent u) d on = on
held_stays y (InPart which) (Commit role.Store u) d on = some_keeps which y (new_states u d.store) d.store.held on
held_stays y (InPart which) (Commit role.Names u) d on = on
held_stays y (InPart which) Look d on = on
held_stays y (InPart which) (PutInc i) d on = on
held_stays y (InPart which) (Prepare r u states) d on = on
held_stays y (InPart which) (Abort r u) d on = on
held_stays y (InPart which) (PutIntent u i) d on = on
held_stays y (InPart which) (RemoveIntent u) d on = on

-- ---- one node's step

-- any line
abbrev AnyLine : Body → Type 0
AnyLine b = ⊤

module _ (k : ℕ) (d : Disk) (live : Option Parts) (M : Seen) where
  -- its disk goes on with what it had
  abbrev Goes : Disk → Type 0
  Goes c = ((y : Uid) → is_some (held_at y d.store) ≡ true → is_some (held_at y c.store) ≡ true)
      × NamesHave (HasIt (at k d live M)) (IsIncluded (at k d live M)) c.names

  -- and its coordinator
  abbrev Fits : Disk → Option Parts → Type 0
  Fits c l = Goes c × ((t : Parts) → l ≡ Some t → StepsHave (HasIt (at k d live M)) t.coord)

  -- an answer that names such stores
  abbrev Sends : Post → Type 0
  Sends p = (a : Asked) (r : Reply) → answers p.message ≡ Some (a, r) → ReplyHas (HasIt (at k d live M)) M.sent p a r

  module _ (lists : AreListed (at k d live M)) where
    module _ (Z : Seen) (w : Went k M AnyLine Sends Fits Z) where
      included_on : (u : Uid) (x n : ℕ) → IsIncluded (at k d live M) u x n → IsIncluded Z u x n
      included_on u x n (p, i, from, h, g, e, l, is, act, there) = (p, w.on p i, from, h, g, e, l, is, act, there)

      more : (x n : ℕ) → HasIt (at k d live M) x n → HasIt Z x n
      more x n (inr (u, included, decided)) = inr
          (u, included_on u x n included, subst (λ ls. is_decided (book ls) u ≡ true) (sym w.lines) (decided_on M.lines w.more u decided))
      more x n (inl held) = inl stays
        where
          stays : IsHeldAt Z n x
          stays a is = ⊎_elim
              (λ here. ap (λ (z : Node). is_some (held_at (object x) (let c = z.disk in c.store))) here.1 ∙ w.fits.0.0 (object x)
              (held (the_node k d live) (ap (λ j. (let X = at k d live M in X.nodes j)) here.0 ∙ here_is k d live M)))
              (λ there. held a there.1) (now_cases k d live M AnyLine Sends Fits Z w n a is)

      by_on : (p : Post) (a : Asked) (h : Head) (b : Ask) → IsAnsweredBy M.sent p a h b → IsAnsweredBy Z.sent p a h b
      by_on p a h b = by_more M.sent Z.sent w.on p a h b

      listed_on : AreListed Z
      listed_on = record {
        names = λ j n is. ⊎_elim
            (λ here. subst (λ (z : Node). NamesHave (HasIt Z) (IsIncluded Z) (let c = z.disk in c.names)) (sym here.1)
            (names_more (HasIt (at k d live M)) (HasIt Z) more (IsIncluded (at k d live M)) (IsIncluded Z) included_on
            (let c = w.disk in c.names) w.fits.0.1))
            (λ there. names_more (HasIt (at k d live M)) (HasIt Z) more (IsIncluded (at k d live M)) (IsIncluded Z) included_on
            (let c = n.disk in c.names) (lists.names j n there.1))
            (now_cases k d live M AnyLine Sends Fits Z w j n is);
        replies = λ p a r i is. reply_more (HasIt (at k d live M)) (HasIt Z) more M.sent Z.sent by_on p a r
            (⊎_elim (λ old. lists.replies p a r old is) (λ new. new.1 a r is) (w.back p i));
        steps = λ j n t is live_is. steps_more (HasIt (at k d live M)) (HasIt Z) more t.coord (⊎_elim
            (λ here. w.fits.1 t (ap (λ (z : Node). z.live) (sym here.1) ∙ live_is))
            (λ there. lists.steps j n t there.1 live_is)
            (now_cases k d live M AnyLine Sends Fits Z w j n is));
      }

    names_here : NamesHave (HasIt (at k d live M)) (IsIncluded (at k d live M)) d.names
    names_here = lists.names k (the_node k d live) (here_is k d live M)

    goes_here : Goes d
    goes_here = ((λ y on. on), names_here)

    -- the disk goes on behind each work
    abbrev FitsHere : Effect → Type 0
    FitsHere = FitsSo k M AnyLine Sends (λ b q. tt) tt Goes

    abbrev Replies : Effect → Type 0
    Replies (Send to m) = Sends (record { from = k; to = to; message = m })
    Replies f = ⊤

    fits : (outs : List Effect) → Fine (HasIt (at k d live M)) (IsIncluded (at k d live M)) outs → AllByRecursion Replies outs →
        AllByRecursion FitsHere outs
    fits [] fine all = tt
    fits (Say b ∷ es) fine all = (tt, fits es fine.1 all.1)
    fits (Send to m ∷ es) fine all = (all.0, fits es fine.1 all.1)
    fits (Do w ∷ es) fine all = (
      (λ c goes how. (
        (λ y on. held_stays y how w c (goes.0 y on)),
        stopped_so (HasIt (at k d live M)) (IsIncluded (at k d live M)) how w c fine.0 goes.1,
      )),
      fits es fine.1 all.1,
    )

    down_lists : (Z : Seen) → Went k M AnyLine Sends (Down k M AnyLine Sends (λ b q. tt) tt Goes) Z → AreListed Z
    down_lists Z w = listed_on Z (record {
      more = w.more;
      lines = w.lines;
      said_so = w.said_so;
      back = w.back;
      on = w.on;
      others = w.others;
      disk = w.disk;
      live = w.live;
      here = w.here;
      fits = (w.fits.0, λ t is. let no_way : ◌≡◌ {A = Option Parts} None (Some t) = sym w.fits.1 ∙ is in absurd (cc no_way));
    })

    pub halt_lists : (e : ℕ) → AreListed (halted e k d M)
    halt_lists e = down_lists (halted e k d M) (halt_went k M AnyLine Sends (λ b q. tt) tt Goes e d goes_here)

    pub go : (e : ℕ) (v : Parts) (outs : List Effect) → StepsHave (HasIt (at k d live M)) v.coord → Fine (HasIt (at k d live M))
        (IsIncluded (at k d live M)) outs → AllByRecursion Replies outs → Walks AreListed e k outs (Up AreListed k v) d M
    go e v outs steps fine all = walks_to (Went k M AnyLine Sends (Down k M AnyLine Sends (λ b q. tt) tt Goes)) AreListed e k outs
        (λ c N. Went k M AnyLine Sends (UpBy k M AnyLine Sends (λ b q. tt) tt Goes v) (up k c v N)) (Up AreListed k v) d M
        down_lists
        (λ c N w. listed_on (up k c v N) (record {
          more = w.more;
          lines = w.lines;
          said_so = w.said_so;
          back = w.back;
          on = w.on;
          others = w.others;
          disk = w.disk;
          live = w.live;
          here = w.here;
          fits = (w.fits.0, λ t is. subst (λ (z : Parts). StepsHave (HasIt (at k d live M)) z.coord) (some_is (sym w.fits.1 ∙ is)) steps);
        }))
        (went k M AnyLine Sends (λ b q. tt) tt Goes e v outs d (fits outs fine all) goes_here)

    silent_replies : (outs : List Effect) → AllSilent outs → AllByRecursion Replies outs
    silent_replies [] q = tt
    silent_replies (Say b ∷ es) q = (tt, silent_replies es q.1)
    silent_replies (Do w ∷ es) q = (tt, silent_replies es q.1)
    silent_replies (Send to m ∷ es) q = (
      (λ a r is. let no_way : ◌≡◌ {A = Option (Asked × Reply)} None (Some (a, r)) = sym q.0 ∙ is in absurd (cc no_way)),
      silent_replies es q.1,
    )

    -- an action that begins
    pub begun_lists : (e : ℕ) (v : Parts) (b : Body) (l : Label) (g : Labelled) → StepsHave (HasIt (at k d live M)) v.coord →
        AreListed (up k d v (said e (b ∷ []) (given l g M)))
    begun_lists e v b l g steps = listed_on (up k d v (said e (b ∷ []) (given l g M))) (record {
      more = numbered e (b ∷ []);
      lines = refl;
      said_so = (tt, tt);
      back = λ p i. inl i;
      on = λ p i. i;
      others = λ j other i. cond (other i) (Some (the_node k d (Some v))) (M.nodes j);
      disk = d;
      live = Some v;
      here = here_is k d (Some v) M;
      fits = (goes_here, λ t is. subst (λ (z : Parts). StepsHave (HasIt (at k d live M)) z.coord) (some_is is) steps);
    })

-- ---- lines

quiet_lists : (e : ℕ) (bs : List Body) (M : Seen) → AreListed M → AreListed (said e bs M)
quiet_lists e bs M lists = record {
  names = λ j n is. names_more (HasIt M) (HasIt (said e bs M)) more (IsIncluded M) (IsIncluded M) (λ u x n i. i) (let d = n.disk in
      d.names) (lists.names j n is);
  replies = λ p a r i is. reply_more (HasIt M) (HasIt (said e bs M)) more M.sent M.sent (λ p a h b z. z) p a r (lists.replies p a r i is);
  steps = λ j n t is live. steps_more (HasIt M) (HasIt (said e bs M)) more t.coord (lists.steps j n t is live);
}
  where
    more : (x n : ℕ) → HasIt M x n → HasIt (said e bs M) x n
    more x n (inl held) = inl held
    more x n (inr (u, included, decided)) = inr (u, included, decided_on M.lines (numbered e bs) u decided)

-- ---- each handler

-- what is known beside
abbrev pub ListBase : Header → Seen → Type 0
ListBase hd M = RequestsAreKnown M × StocksAreKnown hd M

all_last : (Q : Uid × End → Type 0) (es : List (Uid × End)) (e : Uid × End) → AllByRecursion Q es → last_end es ≡ Some e → Q e
all_last Q [] e all is = absurd (cc is)
all_last Q (x ∷ []) e all is = subst Q (some_is is) all.0
all_last Q (x ∷ y ∷ es) e all is = all_last Q (y ∷ es) e all.1 is

module _ (hd : Header) (e k : ℕ) (d : Disk) (t : Parts) (M : Seen) (base : ListBase hd (up k d t M)) (lists : AreListed (up k d t M)) where
  good : IsGoodOf base.0.0.0.0 (up k d t M)
  good = base.0.0.0.1

  bound_all : BindsAreKnown (up k d t M)
  bound_all = base.0.0.1

  asked : AreAsked (up k d t M)
  asked = base.0.1

  abbrev here : Node
  here = record { number = k; disk = d; live = Some t }

  steps : StepsHave (HasIt (up k d t M)) t.coord
  steps = lists.steps k here t (node_here M k here) refl

  tree_is : IsTree (paths_of base.0.0.0.0)
  tree_is = begun_tree base.0.0.0.0 good.begun

  coord_good : IsGoodCoord base.0.0.0.0 (paths_of base.0.0.0.0) t.coord
  coord_good = good_coord e k d t M (base.0.0.0.0, good)

  its_up : IsUp base.0.0.0.0 M.sent M.labels k d.inc t
  its_up = it e k d t M (base.0.0.0.0, good)

  place : Place M.sent k t.coord
  place = let u = its_up in record {
    actions = base.0.0.0.0;
    begun = good.begun;
    good = coord_good;
    numbered = u.numbered;
    faithful = u.faithful;
    binds = bound_all.nodes k here t (node_here M k here) refl;
  }

  works : length t.coord.doings ≡ length t.coord.tree.branches
  works = let u = its_up in let f = u.faithful in f.works

  -- ---- an answer that comes

  module _ (from : ℕ) (m : Message) (there : In (record { from = from; to = k; message = m }) M.sent) (a : Asked) (r : Reply)
      (of : answers m ≡ Some (a, r)) (q : Doing) (s : Steps) (does : doing_of a.act t.coord ≡ Some q) (now : q.now ≡ Calling s)
      (waits : waits_for_call from a r s ≡ true) where
    -- the stores that naming names are of the object that was asked
    names_them : (b : BoundReply) → r ≡ Reply.Bound b → BoundHas (HasIt (up k d t M)) s.x b
    names_them b is = subst (λ y. BoundHas (HasIt (up k d t M)) y b) x_is w.5
      where
        w : ReplyHas (HasIt (up k d t M)) M.sent (record { from = from; to = k; message = m }) a (Reply.Bound b)
        w = lists.replies (record { from = from; to = k; message = m }) a (Reply.Bound b) there (of ∙ (λ i. Some (a, is i)))

        h : Head
        h = w.0

        of_step : IsOfStep s w.4.post.to h (ask.Bind w.1 w.2 w.3)
        of_step = of_waiting k d t M asked from a r q s does now (let u = its_up in
            u.numbered a.act q does) waits (record { from = from; to = k; message = m }) refl h (ask.Bind w.1 w.2 w.3) w.4

        x_is : w.1 ≡ s.x
        x_is = binds_own s.x w.1 w.2 w.3 s.goal s.at of_step.same

    brings : Brings (HasIt (up k d t M)) s.x s.at r
    brings = by s.at r refl
      where
        by : (at : At) (z : Reply) → r ≡ z → Brings (HasIt (up k d t M)) s.x at z
        by (AtBind avoid) (Reply.Bound b) is = names_them b is
        by (AtBind avoid) (Reply.Loaded i) is = tt
        by (AtBind avoid) (Reply.Activated i) is = tt
        by (AtBind avoid) (Reply.Noted i) is = tt
        by (AtBind avoid) (Reply.Invoked i) is = tt
        by (AtBind avoid) (Reply.Voted i) is = tt
        by (AtBind avoid) (Reply.Prepared i) is = tt
        by (AtBind avoid) (Reply.Confirmed i) is = tt
        by (AtLoad z n others) i is = tt
        by (AtActivate z st) i is = tt
        by (AtNote z j) i is = tt
        by (AtInvoke z j) i is = tt

  -- ---- a message

  module _ (from : ℕ) (m : Message) (there : In (record { from = from; to = k; message = m }) M.sent) where
    abbrev p : Post
    p = record { from = from; to = k; message = m }

    -- what a Confirm includes its top includes
    includes : (h : Head) (g : Grants) (x i : Marks) → asks m ≡ Some (h, ask.Confirm g x i) → (y n : ℕ) → Among (y, n) i →
        IsIncluded (up k d t M) (top_of h.path) y n
    includes h g x i is y n among =
        let known = base.1.0.0.0.0.0.1 in
        let prepared = known.2.1 in
        let f : IsForItself known.0 from h (top_of h.path) = subst (AsksForItself known.0 from) is (prepared.sent p there) (top_of h.path)
        refl in
        (p, there, sym f.home, h, g, x, i, is, f.same, among)

    -- whose commit is told, is decided
    told_decided : (u : Uid) → last_end (told_by m) ≡ Some (u, ending.Commit) → (x n : ℕ) → IsIncluded (up k d t M) u x n →
        HasIt (up k d t M) x n
    told_decided u last x n included =
        let written = (let kept = base.1.0.0.0.0.0.0.0 in kept.1) in
        let claims = written.posts p there in
        inr (u, included, all_last (λ (z : Uid × End). IsSaid (book M.lines) z.0 z.1) (told_by m) (u, ending.Commit) claims.1 last)

    -- an answer of naming's names stores of its list
    abbrev Names : Head → ℕ → Bool → Binding → BoundReply → Type 0
    Names h x include avoid r = BoundHas (HasIt (up k d t M)) x r

    abbrev Any : Head → ℕ → ObjectState → Type 0
    Any h x st = ⊤

    bind_names : (h : Head) (x : ℕ) (include : Bool) (avoid : Binding) (n : Naming) (q : BoundReply) →
        (let r = naming.bind h.path x include avoid d.names n in r.reply) ≡ Some q → BoundHas (HasIt (up k d t M)) x q
    bind_names h x include avoid n q is = binds (HasIt (up k d t M)) x h.path include avoid d.names n
        (listed_so (HasIt (up k d t M)) (IsIncluded (up k d t M)) x d.names (names_here k d (Some t) M lists)) q is

    abbrev ItsServer : Server → Type 0
    ItsServer s = ⊤

    abbrev ItsNaming : Option Naming → Type 0
    ItsNaming o = ⊤

    abbrev ItsCoord : Coord → Type 0
    ItsCoord c = StepsHave (HasIt (up k d t M)) c

    kept : IsKeptIn Names Any from m k d t ItsServer ItsNaming ItsCoord
    kept = record {
      its_server = tt;
      its_coord = steps;
      activate = λ h b st is. tt;
      invoke = λ h x b i ends o is. tt;
      vote = λ h i ties ends. tt;
      told = λ ends. tt;
      its_naming = tt;
      bind = λ h x include avoid n is there. (tt, λ q is. bind_names h x include avoid n q is);
      note = λ h x b i g n there. tt;
      confirm = λ h grants ex inc n there. tt;
      ended = λ u how n there. tt;
      hello = λ node inc n there. tt;
      load = λ h x st is. tt;
    }

    abbrev By : Handled → Type 0
    By (Void es) = ⊤
    By (Took w es) = ((ItsServer w.server × ItsNaming w.naming) × ItsCoord w.coord) × AllSend Names Any from m w.coord es

    served : (v : Parts) (outs : List Effect) → handle k d t from m ≡ Took v outs →
        ((ItsServer v.server × ItsNaming v.naming) × ItsCoord v.coord) × AllSend Names Any from m v.coord outs
    served v outs is = subst By is (message_served Names Any from m k d t ItsServer ItsNaming ItsCoord kept
        (λ a r of. let q = heard from a r d.intents t.coord in (
          heard_has (HasIt (up k d t M)) M.sent k t.coord place steps from a r d.intents (answers_fit base.0.0.0.0 e k d t M good bound_all
              from m there a r of) (λ z s does now waits. brings from m there a r of z s does now waits),
          quiet_so Names Any from m q.part q.outs (heard_quiet base.0.0.0.0 e k d t M good from a r) (heard_so base.0.0.0.0
              (paths_of base.0.0.0.0) tree_is t.coord coord_good (let u = its_up in u.numbered) works from a r d.intents),
        ))
        (λ u. let q = acked from u d.intents t.coord in (
          acked_has (HasIt (up k d t M)) M.sent k t.coord place steps from u d.intents,
          quiet_so Names Any from m q.part q.outs (acked_quiet base.0.0.0.0 e k d t M good from u) (acked_so from u d.intents t.coord),
        ))
        (λ u. quiet_so Names Any from m t.coord (answer_query from u d.intents t.coord) (query_quiet base.0.0.0.0 e k d t M good from u)
        (query_so t.coord from u d.intents t.coord)))

    answer_has : (to : ℕ) (o : Message) (a : Asked) (r : Reply) → AnswerSo Names Any from m to a r →
        ReplyHas (HasIt (up k d t M)) M.sent (record { from = k; to = to; message = o }) a r
    answer_has to o a (Reply.Bound r) so = (
      so.head,
      so.object,
      so.include,
      so.avoid,
      record { post = p; posted = there; from = sym so.back; asking = so.asking; asker = so.asker },
      so.so,
    )
    answer_has to o a (Reply.Loaded r) so = tt
    answer_has to o a (Reply.Activated r) so = tt
    answer_has to o a (Reply.Noted r) so = tt
    answer_has to o a (Reply.Invoked r) so = tt
    answer_has to o a (Reply.Voted r) so = tt
    answer_has to o a (Reply.Prepared r) so = tt
    answer_has to o a (Reply.Confirmed r) so = tt

    all_replies : (c : Coord) (outs : List Effect) → AllSend Names Any from m c outs → AllByRecursion (Replies k d (Some t) M lists) outs
    all_replies c [] so = tt
    all_replies c (Say b ∷ es) so = (tt, all_replies c es so.1)
    all_replies c (Do w ∷ es) so = (tt, all_replies c es so.1)
    all_replies c (Send to o ∷ es) so = ((λ a r is. answer_has to o a r (so.0.0 a r is)), all_replies c es so.1)

    message_lists : (v : Parts) (outs : List Effect) → handle k d t from m ≡ Took v outs → Walks AreListed e k outs (Up AreListed k v) d M
    message_lists v outs is =
        let s = served v outs is in
        go k d (Some t) M lists e v outs s.0.1
        (handled_fine (HasIt (up k d t M)) (IsIncluded (up k d t M)) k d t from m (names_here k d (Some t) M lists) includes told_decided
        (λ a r of. coord_fine (HasIt (up k d t M)) (IsIncluded (up k d t M)) (heard from a r d.intents t.coord).outs
        (heard_own from a r d.intents t.coord))
        (λ u. coord_fine (HasIt (up k d t M)) (IsIncluded (up k d t M)) (acked from u d.intents t.coord).outs
        (acked_own from u d.intents t.coord))
        (λ u. coord_fine (HasIt (up k d t M)) (IsIncluded (up k d t M)) (answer_query from u d.intents t.coord)
        (query_own from u d.intents t.coord)) v outs is)
        (all_replies v.coord outs s.1)

  -- ---- an act, and a tick

  act_lists : (i : Input) → is_act i ≡ true → refusal_up hd i t.coord ≡ None →
      Walks AreListed e k (let r = acts i d.intents t.coord in r.outs) (Up AreListed k (with_coord t (acts i d.intents t.coord).part)) d M
  act_lists i is free =
      let r = acts i d.intents t.coord in
      go k d (Some t) M lists e (with_coord t r.part) r.outs
      (acts_has (HasIt (up k d t M)) M.sent k t.coord place steps hd i d.intents free other)
      (coord_fine (HasIt (up k d t M)) (IsIncluded (up k d t M)) r.outs (acts_own i d.intents t.coord))
      (silent_replies k d (Some t) M lists r.outs (quiet_silent r.outs (acts_quiet base.0.0.0.0 e k d t M good hd i is free)))
    where
      other : (l : Label) (how : Kind) (parent : Option Label) → i ≢ input.Begin l how parent
      other l how parent same = let no_way : false ≡ true = sym (ap is_act same) ∙ is in cc no_way

  tick_lists : Walks AreListed e k (tick_outs (record { number = k; disk = d; live = Some t }) t)
      (Up AreListed k (with_coord t (again_all t.coord.doings t.coord).part)) d M
  tick_lists =
      let r = again_all t.coord.doings t.coord in
      let tolds = tolds_again t.coord.telling in
      let outs = tick_outs (record { number = k; disk = d; live = Some t }) t in
      go k d (Some t) M lists e (with_coord t r.part) outs (again_has (HasIt (up k d t M)) M.sent k t.coord place steps)
      (fine_both (HasIt (up k d t M)) (IsIncluded (up k d t M)) (r.outs ++ tolds) (map query_about (holders d t))
      (fine_both (HasIt (up k d t M)) (IsIncluded (up k d t M)) r.outs tolds (coord_fine (HasIt (up k d t M)) (IsIncluded (up k d t M))
      r.outs (again_own t.coord.doings t.coord)) (tells_fine (HasIt (up k d t M)) (IsIncluded (up k d t M)) t.coord.telling))
      (queries (HasIt (up k d t M)) (IsIncluded (up k d t M)) (holders d t)))
      (silent_replies k d (Some t) M lists outs (quiet_silent outs (tick_quiet base.0.0.0.0 e k d t M good)))

-- ---- a restart

module _ (hd : Header) (e k : ℕ) (d : Disk) (M : Seen) (lists : AreListed (down k d M)) where
  restart_lists : Walks AreListed e k (restart_outs hd k (d.inc + 1) d) (Up AreListed k (parts_in k (d.inc + 1) d)) d M
  restart_lists = go k d None M lists e (parts_in k (d.inc + 1) d) (restart_outs hd k (d.inc + 1) d)
      (new_has (HasIt (down k d M)) k (d.inc + 1) d.intents)
      (restart_fine (HasIt (down k d M)) (IsIncluded (down k d M)) hd k (d.inc + 1) d)
      (silent_replies k d None M lists (restart_outs hd k (d.inc + 1) d) (restart_silent hd k (d.inc + 1) d))

-- ---- at first

-- a state that is put is there, and those before it stay
puts_keep : (y : Uid) (ss : List ObjectState) (held : List (Uid × ObjectState)) → is_some (at_uid y held) ≡ true →
    is_some (at_uid y (put_states ss held)) ≡ true
puts_keep y [] held on = on
puts_keep y (s ∷ ss) held on = puts_keep y ss (put_uid s.uid s held) (put_keeps y s s.uid held on)

-- states that are put one behind another
puts_both : (ss rs : List ObjectState) (held : List (Uid × ObjectState)) → put_states (ss ++ rs) held ≡ put_states rs (put_states ss held)
puts_both [] rs held = refl
puts_both (s ∷ ss) rs held = puts_both ss rs (put_uid s.uid s held)

-- each store of an object's line has the state that it begins with
module _ (format : Format) (states : ℕ → Mark) where
  abbrev state_of : ObjectLine → ObjectState
  state_of o = state_by format (states o.x) o

  line_held : (o : ObjectLine) (n : ℕ) (os : List ObjectLine) (held : List (Uid × ObjectState)) → has o.stores n ≡ true → Among o os →
      is_some (at_uid (object o.x) (put_states (map state_of (filter (λ (z : ObjectLine). has z.stores n) os)) held)) ≡ true
  line_held o n [] held on i = absurd i
  line_held o n (z ∷ zs) held on (inl same) = by (has z.stores n) (ap (λ (l : ObjectLine). has l.stores n) same ∙ on)
    where
      by : (b : Bool) → b ≡ true → is_some (at_uid (object o.x) (put_states (map state_of
          (cond b (z ∷ filter (λ (l : ObjectLine). has l.stores n) zs) (filter (λ (l : ObjectLine). has l.stores n) zs))) held)) ≡ true
      by true is = puts_keep (object o.x) (map state_of (filter (λ (l : ObjectLine). has l.stores n) zs))
          (put_uid (object z.x) (state_of z) held)
          (ap (λ (l : ObjectLine). is_some (at_uid (object l.x) (put_uid (object z.x) (state_of z) held))) (sym same)
          ∙ ap (λ (q : Option ObjectState). is_some q) (put_same (object z.x) (state_of z) held))
      by false is = absurd (cc is)
  line_held o n (z ∷ zs) held on (inr i) =
      by (has z.stores n) (line_held o n zs held on i) (line_held o n zs (put_uid (object z.x) (state_of z) held) on i)
    where
      by : (b : Bool) → is_some (at_uid (object o.x) (put_states (map state_of (filter (λ (l : ObjectLine). has l.stores n) zs)) held))
          ≡ true → is_some (at_uid (object o.x)
          (put_states (map state_of (filter (λ (l : ObjectLine). has l.stores n) zs)) (put_uid (object z.x) (state_of z) held))) ≡ true
          → is_some (at_uid (object o.x) (put_states (map state_of
          (cond b (z ∷ filter (λ (l : ObjectLine). has l.stores n) zs) (filter (λ (l : ObjectLine). has l.stores n) zs))) held)) ≡ true
      by true old new = new
      by false old new = old

-- of each number of a list
of_has : (Q : ℕ → Type 0) (ns : List ℕ) → ((n : ℕ) → has ns n ≡ true → Q n) → AllByRecursion Q ns
of_has Q [] each = tt
of_has Q (n ∷ ns) each = (each n (ap (λ b. b || has ns n) (same_number n)), of_has Q ns (λ m on. each m (second (n == m) (has ns m) on)))
  where
    second : (a b : Bool) → b ≡ true → (a || b) ≡ true
    second true b is = refl
    second false b is = is

first_lists : (hd : Header) → IsAtStarts hd AreListed
first_lists hd st formed = record {
  names = λ j n is. subst (λ (z : Node). NamesHave P0 I0 (let d = z.disk in d.names)) (first_at hd st j n is)
      (record { held = by_node (j == 1); pend = tt });
  replies = λ p a r i is. absurd i;
  steps = λ j n t is live. subst (λ (z : Parts). StepsHave P0 z.coord) (first_up hd st j n t is live) (new_has P0 j (st.incs j + 1) []);
}
  where
    M0 : Seen
    M0 = see [] (world_from hd st)

    P0 : Of
    P0 = HasIt M0

    I0 : Uid → ℕ → ℕ → Type 0
    I0 = IsIncluded M0

    entry_of : ObjectLine → ObjectState
    entry_of o = entry_by hd.format (st.marks.entries o.x) o

    Its : List (Uid × ObjectState) → Type 0
    Its held = AllByRecursion (λ (e : Uid × ObjectState). EntryHas (HasIt M0 (let u = e.0 in u.num)) e.1) held

    there : (o : ObjectLine) → Among o hd.objects → (n : ℕ) → has o.stores n ≡ true →
        is_some (at_uid (object o.x) (put_states (states_from n hd st) [])) ≡ true
    there o i n on = ap (λ held. is_some (at_uid (object o.x) held)) (puts_both (older_at n st.older)
        (map (state_of hd.format st.marks.states) (filter (λ (z : ObjectLine). has z.stores n) hd.objects)) [])
        ∙ line_held hd.format st.marks.states o n hd.objects (put_states (older_at n st.older) []) on i

    has_line : (o : ObjectLine) → Among o hd.objects → (n : ℕ) → has o.stores n ≡ true → HasIt M0 o.x n
    has_line o i n on = inl (λ a is. subst (λ (z : Node). is_some (held_at (object o.x) (let d = z.disk in d.store)) ≡ true)
        (first_at hd st n a is) (there o i n on))

    one : (o : ObjectLine) → Among o hd.objects → EntryHas (HasIt M0 o.x) (entry_of o)
    one o i = subst (λ (e : Entry). AllByRecursion (HasIt M0 o.x) e.stores) (sym
        (entry_back (record { servers = o.servers; stores = o.stores }))) (of_has (HasIt M0 o.x) o.stores (has_line o i))

    lines : (os : List ObjectLine) (held : List (Uid × ObjectState)) → ((o : ObjectLine) → Among o os → Among o hd.objects) → Its held →
        Its (put_states (map entry_of os) held)
    lines [] held within so = so
    lines (o ∷ os) held within so = lines os (put_uid (entry o.x) (entry_of o) held) (λ z i. within z (inr i)) (put_at (λ u
        (z : ObjectState). EntryHas (HasIt M0 u.num) z) (entry o.x) (entry_of o) held (one o (within o (inl refl))) so)

    by_node : (b : Bool) → Its (put_states (cond b (map entry_of hd.objects) []) [])
    by_node true = lines hd.objects [] (λ o i. i) tt
    by_node false = tt

-- ---- all handlers

pub lists_given : (hd : Header) → KeepsGiven hd (ListBase hd) AreListed
lists_given hd = record {
  quiet = λ e bs M q base lists. quiet_lists e bs M lists;
  stop = λ e k d live M base lists. halt_lists k d live M lists e;
  message = λ e k d t v from m outs M base lists there meant is. message_lists hd e k d t M base lists from m there v outs is;
  act = λ e k d t i M is free base lists. act_lists hd e k d t M base lists i is free;
  begin = λ e k d t l how parent M new may free base lists. begun_lists k d (Some t) M lists e (with_coord t (begin_action l how parent
      (parent_of parent t.coord) t.coord).part) (body.Began l how _ parent) l (record { node = k; serial = is_serial how })
      (begins_has (HasIt (up k d t M)) l how parent t.coord (steps hd e k d t M base lists));
  tick = λ e k d t M base lists. tick_lists hd e k d t M base lists;
  restart = λ e k d M base lists. restart_lists hd e k d M lists;
  first = first_lists hd;
}

-- with it
abbrev pub ListsAreKnown : Header → Seen → Type 0
ListsAreKnown hd M = ListBase hd M × AreListed M

pub lists_keep : (hd : Header) → HeaderFits hd → Keeps hd (ListsAreKnown hd)
lists_keep hd form = kept_both hd (ListBase hd) AreListed (kept_both hd RequestsAreKnown (StocksAreKnown hd) (requests_keep hd)
    (keeps_given hd RequestsAreKnown (StocksAreKnown hd) (stocks_keep hd form))) (lists_given hd)
