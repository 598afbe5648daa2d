-- Each handler keeps that answers go to who asked, and that what servers have was asked for.
use Rattle.arj_law_parts.proofs.Words
use Words.{ℕ, node_by, world_from}
use Words.{Bool, List, None, Option, Some, [], ap, arith, cond, false, inl, inr, length, map, refl, subst, sym, true}
use Words.{◌++◌, ◌+◌, ◌==◌, ◌∙◌, ◌∷◌, ◌≡◌, ◌≢◌, ◌≤◌, ◌⊎◌, option_map, ⊤, AllByRecursion, object, Ask, Asked, Binding, Body}
use Words.{BoundReply, Head, Header, Kind, Label, Message, ObjectState, Path, Uid, asks, Reply, answers, asked_by, response, top_of}
use Words.{again_all, begin_action, heard, waits_for_call, Disk, Do, Effect, Look, PutInc}
use Words.{Say, Send, Served, held_at, stopped, acked, answer_query, tick_outs, Naming, Handled, Parts, Took}
use Words.{Void, answer_is_meant, asked_is_meant, handle, handle_ask, holders, if_naming, is_loaded_for, is_loaded_in, is_meant}
use Words.{query_about, reply_is_meant, sends_answer, served, with_coord, with_naming, Server, Input, Node, acts as acts_of}
use Words.{numbers_to, parent_of, parts_in, refusal_up, restart_outs, tolds_again, at_place, Labelled}
use Words.{Post, Seen, see, At, AtActivate}
use Words.{AtBind, AtInvoke, AtLoad, AtNote, Steps, IsSaid, Calling, Coord, Doing, doing_of, and_parts, uid_is, confirm}
use Words.{Named, at_number, is_serial}
use Words.ask
use Words.loaded
use Words.naming
use Words.input
use Words.bound
use Words.body
use Rattle.arj_law_promise.proofs.Terms
use Terms.{IsAtStarts, disk_by, first_up}
use Terms.{Action, paths_of, IsGoodCoord, IsTree, begun_tree, IsGoodOf, IsUp}
use Terms.{good_coord, it, own_of_disk, tops_of_disk, other_number, is_act, In, at, down, given, up, Up, Walks}
use Terms.{halted, some_is, all_map, KeepsGiven, node_here, Claims, HaveForms, IsAnsweredBy, MadeWasSaid}
use Terms.{ReplyWasAsked, ServerWasAsked, StandsIn, StepsNamed, WasMade, WasNamed, WereAsked, AllSilent, restart_silent, acked_so, acts_so}
use Terms.{again_so, heard_so, query_so, tolds_so, AllSo, SendsSo, so_both, BindsAreKnown, AreAsked, RequestsAreKnown, IsOfStep, Place}
use Terms.{answers_fit, ObjectsAreHeld}
use Rattle.arj_law_lock_view.proofs.records
use records.{NamingKept.rest, NamingKept.rest_quiet, NamingRuns.inc_stopped}
use records.Quiet.{IncsUp, bind_said, quiet_incs}
use Rattle.arj_law_parts.proofs.parts.{SaidIncs.truly_handled}
use Rattle.arj_law_parts.specs.parts.Incs.{AreOfInc, IsTrulyHandled}
use Rattle.arj_law_promise.proofs.waiting
use waiting.{Known.binds_own, Stepping.of_waiting}
use waiting.AskedServers.{activate_asked, invoke_asked, none_asked, told_asked, vote_asked}
use waiting.Made.{MakeSaid, SaidIn, bind_made_said, confirm_made_said, hello_made_said}
use waiting.Made.{note_made_said, told_made_said}
use waiting.Named.{Brings, acked_named, acts_named, again_named, begins_named, heard_named, new_named, sends_named}
use waiting.Named.{steps_more}
use waiting.Serving.{AllSend, AnswerSo, IsKeptIn, message_served, quiet_silent, quiet_so, restart_asks}
use waiting.Standing.{Counts, Goes, MakeStands, bind_stands, confirm_goes, goes_same, hello_goes, note_goes, told_goes}
use Rattle.arj_law_promise.specs.waiting.Asked.{IsPlaced, StandsAt}
use Rattle.arj_law_runs.proofs.kept.Starts.{first_at}
use Rattle.arj_law_promise.proofs.waiting.AskedEffects.{heard_quiet, acked_quiet, query_quiet, acts_quiet, tick_quiet}
use Rattle.arj_law_promise.proofs.waiting.AskedEffects.{PartsSo, others_of, own_of, AreSo, back, so_more, quiet_asked, Fine, Made, walk}
use Rattle.arj_law_promise.proofs.waiting.AskedEffects.{walk_lines, of_incs, NamingGoes, start_made, start_inc, start_placed, stop_so}

-- ---- each handler

-- an answer of a node to what came
abbrev IsOf : Head → ℕ → ObjectState → Type 0
IsOf h x st = st.uid ≡ object x

-- so much is claimed of a new binding
abbrev Bound : Claims → Head → ℕ → Bool → Binding → BoundReply → Type 0
Bound claims h x include avoid (bound.Make b server g stores) = claims h.path x b server g
Bound claims h x include avoid r = ⊤

module _ (sent : List Post) (claims : Claims) (k from : ℕ) (m : Message)
    (there : In (record { from = from; to = k; message = m }) sent) where
  answer_fine : (to : ℕ) (p : Message) (a : Asked) (r : Reply) → AnswerSo (Bound claims) IsOf from m to a r →
      ReplyWasAsked sent claims (record { from = k; to = to; message = p }) a r
  answer_fine to p a (Reply.Loaded (loaded.State st)) so = (
    so.head,
    so.object,
    record { post = record { from = from; to = k; message = m }; posted = there; from = sym so.back; asking = so.asking; asker = so.asker },
    so.so,
  )
  answer_fine to p a (Reply.Loaded (loaded.InDoubt h)) so = tt
  answer_fine to p a (Reply.Bound (bound.Make b server g stores)) so = (
    so.head,
    so.object,
    so.include,
    so.avoid,
    record { post = record { from = from; to = k; message = m }; posted = there; from = sym so.back; asking = so.asking; asker = so.asker },
    so.so,
  )
  answer_fine to p a (Reply.Bound (bound.Live b server i g stores)) so = tt
  answer_fine to p a (Reply.Bound (bound.Write g stores)) so = tt
  answer_fine to p a (Reply.Bound (bound.Conflict h l)) so = tt
  answer_fine to p a (Reply.Activated i) so = tt
  answer_fine to p a (Reply.Noted r) so = tt
  answer_fine to p a (Reply.Invoked r) so = tt
  answer_fine to p a (Reply.Voted r) so = tt
  answer_fine to p a (Reply.Prepared r) so = tt
  answer_fine to p a (Reply.Confirmed r) so = tt

  all_fine : (c : Coord) → StepsNamed sent claims c → (outs : List Effect) → AllSend (Bound claims) IsOf from m c outs →
      AllByRecursion (Fine sent claims k) outs
  all_fine c steps [] so = tt
  all_fine c steps (Say b ∷ es) so = (tt, all_fine c steps es so.1)
  all_fine c steps (Do w ∷ es) so = (tt, all_fine c steps es so.1)
  all_fine c steps (Send to p ∷ es) so = (
    ((λ a r is. answer_fine to p a r (so.0.0 a r is)), λ h b st is. sends_named sent claims c to p so.0.1 steps h b st is),
    all_fine c steps es so.1,
  )

-- what a coordinator sends
own_fine : (sent : List Post) (claims : Claims) (k : ℕ) (c : Coord) → StepsNamed sent claims c → (outs : List Effect) → AllSilent outs →
    AllSo c outs → AllByRecursion (Fine sent claims k) outs
own_fine sent claims k c steps [] q so = tt
own_fine sent claims k c steps (Say b ∷ es) q so = (tt, own_fine sent claims k c steps es q.1 so.1)
own_fine sent claims k c steps (Do w ∷ es) q so = (tt, own_fine sent claims k c steps es q.1 so.1)
own_fine sent claims k c steps (Send to p ∷ es) q so = (
  (
    (λ a r is. let no_way : ◌≡◌ {A = Option (Asked × Reply)} None (Some (a, r)) = sym q.0 ∙ is in absurd (cc no_way)),
    λ h b st is. sends_named sent claims c to p so.0 steps h b st is,
  ),
  own_fine sent claims k c steps es q.1 so.1,
)

module _ (hd : Header) (begun : List Action) (e k : ℕ) (d : Disk) (t : Parts) (M : Seen) (good : IsGoodOf begun (up k d t M))
    (bound_all : BindsAreKnown (up k d t M)) (asked : AreAsked (up k d t M)) (forms : HaveForms hd (up k d t M))
    (held : ObjectsAreHeld (up k d t M)) (all : WereAsked (up k d t M)) where
  abbrev here : Node
  here = record { number = k; disk = d; live = Some t }

  abbrev lines : Body → Type 0
  lines = IsSaid M.lines

  -- what was made, as it was before
  abbrev old : Claims
  old = WasMade (up k d t M)

  -- and as the node goes on with this naming
  abbrev new : Option Naming → Claims
  new o = Made lines k d.inc o M.nodes

  own : PartsSo M.sent lines old t × IsPlaced k d.inc t.naming
  own = own_of k d t M all

  still : (more : Body → Type 0) → ((z : Body) → lines z → more z) → (o : Option Naming) → NamingGoes t.naming o →
      (p : Path) (x : ℕ) (b : Binding) (s g : ℕ) → old p x b s g → Made more k d.inc o M.nodes p x b s g
  still more grows o goes p x b s g w = (
    grows (body.Bound x b s) w.0,
    record {
      here = one;
      there = λ apart n found. w.1 n ((λ i. cond (other_number 1 k (λ same. apart (sym same)) i) (Some here) (M.nodes 1)) ∙ found);
    },
  )
    where
      one : k ≡ 1 → (g ≤ d.inc) × ((m : Naming) → o ≡ Some m → g ≡ m.inc → StandsIn m (top_of p) x b)
      one is = let z = w.1 here (ap (λ i. (up k d t M).nodes i) (sym is) ∙ node_here M k here) in
          (z.low, λ m there ours. let q = goes m there in q.2.1 (top_of p) x b (z.stands t q.0 refl q.1 (ours ∙ q.2.0)))

  placed_on : (o : Option Naming) → NamingGoes t.naming o → IsPlaced k d.inc o
  placed_on o goes m there = let q = goes m there in let w = own.1 q.0 q.1 in (w.0, subst (λ i. i ≤ d.inc) (sym q.2.0) w.1)

  same_naming : NamingGoes t.naming t.naming
  same_naming m there = (m, there, goes_same m)

  -- the node goes on with these parts
  goes_on : (v : Parts) → PartsSo M.sent lines old v → AreSo k (Some v) M lines old
  goes_on v its = record {
    its = λ w is. subst (PartsSo M.sent lines old) (some_is is) its;
    others = others_of k d (Some t) M all;
    replies = all.replies;
    activates = all.activates;
  }

  walk_on : (v : Parts) (outs : List Effect) → NamingGoes t.naming v.naming → IncsUp d.inc outs →
      AllByRecursion (Fine M.sent (new v.naming) k) outs → PartsSo M.sent lines old v → Walks WereAsked e k outs (Up WereAsked k v) d M
  walk_on v outs goes incs fine its = walk M.sent lines d.inc e k v outs d M (λ p i. i) (λ z s. s) (placed_on v.naming goes) (omega arith)
      incs fine (so_more k (Some v) M lines lines (λ z s. s) old (new v.naming) (still lines (λ z s. s) v.naming goes) (goes_on v its))

  -- steps that stood stand
  steps_on : (o : Option Naming) → NamingGoes t.naming o → (c : Coord) → StepsNamed M.sent old c → StepsNamed M.sent (new o) c
  steps_on o goes c steps = steps_more M.sent M.sent (λ p i. i) old (new o) (still lines (λ z s. s) o goes) c steps

  tree_is : IsTree (paths_of begun)
  tree_is = begun_tree begun good.begun

  coord_good : IsGoodCoord begun (paths_of begun) t.coord
  coord_good = good_coord e k d t M (begun, good)

  its_up : IsUp begun M.sent M.labels k d.inc t
  its_up = it e k d t M (begun, good)

  place : Place M.sent k t.coord
  place = let u = its_up in record {
    actions = begun;
    begun = good.begun;
    good = coord_good;
    numbered = u.numbered;
    faithful = u.faithful;
    binds = bound_all.nodes k here t (node_here M k here) refl;
  }

  works : length t.coord.doings ≡ length t.coord.tree.branches
  works = let u = its_up in let f = u.faithful in f.works

  -- what a store holds is of its object
  held_is : (x : ℕ) (st : ObjectState) → held_at (object x) d.store ≡ Some st → st.uid ≡ object x
  held_is x st is = let f = (forms x).0 k here (node_here M k here) in let s = f.0.store in (s.held (object x) st is).1

  -- ---- an answer that comes

  module _ (from : ℕ) (m : Message) (there : In (record { from = from; to = k; message = m }) M.sent) (meant : is_meant t m ≡ true)
      (a : Asked) (r : Reply) (of : answers m ≡ Some (a, r)) (q : Doing) (s : Steps) (does : doing_of a.act t.coord ≡ Some q)
      (now : q.now ≡ Calling s) (waits : waits_for_call from a r s ≡ true) where
    reply_meant : reply_is_meant t.coord a r ≡ true
    reply_meant =
        ap (answer_is_meant t.coord) (sym of) ∙ (and_parts (asked_is_meant t.server (asks m)) (answer_is_meant t.coord (answers m)) meant).1

    -- a binding that naming made for it was asked by its Bind
    was_named : (b : Binding) (server g : ℕ) (stores : List ℕ) → r ≡ Reply.Bound (bound.Make b server g stores) →
        WasNamed M.sent old s.path s.x b g
    was_named b server g stores is = record {
      reply = record { from = from; to = k; message = m };
      asked = a;
      server = server;
      stores = stores;
      head = h;
      include = w.2;
      avoid = w.3;
      posted = there;
      answer = of ∙ (λ i. Some (a, is i));
      by = subst (λ y. IsAnsweredBy M.sent (record { from = from; to = k; message = m }) a h (ask.Bind y w.2 w.3)) x_is w.4;
      path = ap (λ (z : Head). z.path) of_step.head;
      claim = subst (λ y. old s.path y b server g) x_is (subst (λ z. old z w.1 b server g) (ap (λ (z : Head). z.path) of_step.head) w.5);
    }
      where
        w : ReplyWasAsked M.sent old (record { from = from; to = k; message = m }) a (Reply.Bound (bound.Make b server g stores))
        w = all.replies (record { from = from; to = k; message = m }) a (Reply.Bound (bound.Make b server g stores)) there
            (of ∙ (λ i. Some (a, is i)))

        h : Head
        h = w.0

        of_step : IsOfStep s w.4.post.to h (ask.Bind w.1 w.2 w.3)
        of_step = of_waiting k d t M asked from a r q s does now (let u = its_up in
            u.numbered a.act q does) waits (record { from = from; to = k; message = m }) refl h (ask.Bind w.1 w.2 w.3) w.4

        x_is : w.1 ≡ s.x
        x_is = binds_own s.x w.1 w.2 w.3 s.goal s.at of_step.same

    loads_it : (st : ObjectState) → r ≡ Reply.Loaded (loaded.State st) → st.uid.num ≡ s.x
    loads_it st is = ap (λ (u : Uid). u.num) (uid_is st.uid (object s.x)
        (sym (ap (is_loaded_for st) does ∙ ap (is_loaded_in st) now) ∙ ap (reply_is_meant t.coord a) (sym is) ∙ reply_meant))

    brings : Brings M.sent old s.path s.x s.at r
    brings = by s.at r refl
      where
        by : (at : At) (z : Reply) → r ≡ z → Brings M.sent old s.path s.x at z
        by (AtBind avoid) (Reply.Bound (bound.Make b server g stores)) is = was_named b server g stores is
        by (AtBind avoid) (Reply.Bound (bound.Live b server i g stores)) is = tt
        by (AtBind avoid) (Reply.Bound (bound.Write g stores)) is = tt
        by (AtBind avoid) (Reply.Bound (bound.Conflict h l)) is = tt
        by (AtLoad z n others) (Reply.Bound b) is = tt
        by (AtActivate z st) (Reply.Bound b) is = tt
        by (AtNote z i) (Reply.Bound b) is = tt
        by (AtInvoke z i) (Reply.Bound b) is = tt
        by at (Reply.Loaded (loaded.State st)) is = loads_it st is
        by at (Reply.Loaded (loaded.InDoubt h)) is = tt
        by at (Reply.Activated i) is = tt
        by at (Reply.Noted i) is = tt
        by at (Reply.Invoked i) is = tt
        by at (Reply.Voted i) is = tt
        by at (Reply.Prepared i) is = tt
        by at (Reply.Confirmed i) is = tt

  -- ---- a message that comes

  module _ (from : ℕ) (m : Message) (there : In (record { from = from; to = k; message = m }) M.sent) (meant : is_meant t m ≡ true) where
    abbrev p : Post
    p = record { from = from; to = k; message = m }

    abbrev Left : Handled → Type 0
    Left (Void es) = ⊤
    Left (Took w es) = Walks WereAsked e k es (Up WereAsked k w) d M

    -- other than a Bind
    plain : ((h : Head) (x : ℕ) (include : Bool) (avoid : Binding) → asks m ≡ Some (h, ask.Bind x include avoid) → ⊥) →
        (v : Parts) (outs : List Effect) → handle k d t from m ≡ Took v outs → Walks WereAsked e k outs (Up WereAsked k v) d M
    plain off v outs is = walk_on v outs h.0.0.1.1 (of_incs k d.inc outs incs) (all_fine M.sent (new v.naming) k from m there v.coord
        (steps_on v.naming h.0.0.1.1 v.coord h.0.1) outs h.1) ((h.0.0.0, h.0.1), h.0.0.1.0)
      where
        S : Server → Type 0
        S s = ServerWasAsked M.sent s

        N : Option Naming → Type 0
        N o = MadeWasSaid lines o × NamingGoes t.naming o

        C : Coord → Type 0
        C c = StepsNamed M.sent old c

        made : (n : Naming) → t.naming ≡ Some n → MadeWasSaid lines (Some n)
        made n there = subst (MadeWasSaid lines) there own.0.1

        to : (n m : Naming) → t.naming ≡ Some n → Goes n m → NamingGoes t.naming (Some m)
        to n m there goes w same = (n, there, subst (Goes n) (some_is same) goes)

        truly : IsTrulyHandled k t (Took v outs)
        truly = subst (IsTrulyHandled k t) is (truly_handled k t begun (paths_of begun) tree_is coord_good d
            (own_of_disk e k d t M (begun, good)) from m (tops_of_disk e k d t M (begun, good)))

        incs : AreOfInc k d.inc outs
        incs = subst (λ i. AreOfInc k i outs) (let u = its_up in u.server) truly.3

        kept : IsKeptIn (Bound (new v.naming)) IsOf from m k d t S N C
        kept = record {
          its_server = own.0.0.0;
          its_coord = own.0.0.1;
          activate = λ h b st asked. activate_asked M.sent p there h k b st t.server asked own.0.0.0;
          invoke = λ h x b i ends o asked. invoke_asked M.sent p there h (ask.Invoke x b i ends o) asked k x b i ends o t.server own.0.0.0;
          vote = λ h i ties ends. vote_asked M.sent k h.path i ties ends t.server own.0.0.0;
          told = λ ends. told_asked M.sent k ends t.server own.0.0.0;
          its_naming = (own.0.1, same_naming);
          bind = λ h x include avoid n asked there. absurd (off h x include avoid asked);
          note = λ h x b i g n there. (
            note_made_said lines h.path x b i g n (made n there),
            to n (let r = naming.note h.path x b i g n in r.part) there (note_goes h.path x b i g n),
          );
          confirm = λ h grants ex inc n there. (
            confirm_made_said lines h.path grants ex inc d.names n (made n there),
            to n (let r = confirm h.path grants ex inc d.names n in r.part) there (confirm_goes h.path grants ex inc d.names n),
          );
          ended = λ u how n there. (
            told_made_said lines u how d.names n (made n there),
            to n (let r = naming.told u how d.names n in r.part) there (told_goes u how d.names n),
          );
          hello = λ node inc n there.
              (hello_made_said lines node inc n (made n there), to n (naming.hello node inc n) there (hello_goes node inc n));
          load = λ h x st is. held_is x st is;
        }

        By : Handled → Type 0
        By (Void es) = ⊤
        By (Took w es) = ((S w.server × N w.naming) × C w.coord) × AllSend (Bound (new v.naming)) IsOf from m w.coord es

        h : ((S v.server × N v.naming) × C v.coord) × AllSend (Bound (new v.naming)) IsOf from m v.coord outs
        h = subst By is (message_served (Bound (new v.naming)) IsOf from m k d t S N C kept
            (λ a r of. let q = heard from a r d.intents t.coord in (
              heard_named M.sent old k t.coord place own.0.0.1 from a r d.intents (answers_fit begun e k d t M good bound_all from m there a
                  r of) (λ z s does now waits. brings from m there meant a r of z s does now waits),
              quiet_so (Bound (new v.naming)) IsOf from m q.part q.outs (heard_quiet begun e k d t M good from a r)
                  (heard_so begun (paths_of begun) tree_is t.coord coord_good (let u = its_up in u.numbered) works from a r d.intents),
            ))
            (λ u. let q = acked from u d.intents t.coord in (
              acked_named M.sent old k t.coord place own.0.0.1 from u d.intents,
              quiet_so (Bound (new v.naming)) IsOf from m q.part q.outs (acked_quiet begun e k d t M good from u)
                  (acked_so from u d.intents t.coord),
            ))
            (λ u. quiet_so (Bound (new v.naming)) IsOf from m t.coord (answer_query from u d.intents t.coord)
            (query_quiet begun e k d t M good from u) (query_so t.coord from u d.intents t.coord)))

    -- A Bind: the line that a binding was made comes before the answer.
    module _ (h : Head) (x : ℕ) (include : Bool) (avoid : Binding) (comes : asks m ≡ Some (h, ask.Bind x include avoid)) where
      named_by : (n : Naming) → t.naming ≡ Some n →
          Left (served from h (with_naming t) Reply.Bound (naming.bind h.path x include avoid d.names n))
      named_by n is = by r.reply refl
        where
          r : Served Naming BoundReply
          r = naming.bind h.path x include avoid d.names n

          after : Body → Type 0
          after z = lines z ⊎ SaidIn r.outs z

          told : MadeWasSaid after (Some r.part) × MakeSaid lines after (λ z s. inl s) x r.reply
          told = bind_made_said lines after (λ z s. inl s) h.path x include avoid d.names n (subst (MadeWasSaid lines) is own.0.1)
              (λ z s. inr s)

          -- objects at naming are good
          counts : (y : ℕ) (o : Named) → at_number y n.objects ≡ Some o → Counts n.inc n.count o
          counts y o there u z at_u = let a = held.2 k here (node_here M k here) in let b = a.live t n refl is in
              let c = b.objects y o there in (c.made u z at_u).1

          stood : Goes n r.part × MakeStands r.part h.path x r.reply
          stood = bind_stands h.path x include avoid d.names n counts

          goes_to : NamingGoes t.naming (Some r.part)
          goes_to w same = (n, is, subst (Goes n) (some_is same) stood.0)

          made : Claims
          made = Made after k d.inc (Some r.part) M.nodes

          stays : (p : Path) (y : ℕ) (b : Binding) (s g : ℕ) → old p y b s g → made p y b s g
          stays p y b s g w = still after (λ z s. inl s) (Some r.part) goes_to p y b s g w

          so : AreSo k (Some t) M after made
          so = so_more k (Some t) M lines after (λ z s. inl s) old made stays (goes_on t own.0)

          v : Parts
          v = with_naming t r.part

          goes : AreSo k (Some v) M after made
          goes = record {
            its = λ w same. subst (PartsSo M.sent after made) (some_is same)
                ((own.0.0.0, steps_more M.sent M.sent (λ q i. i) old made stays t.coord own.0.0.1), told.0);
            others = so.others;
            replies = so.replies;
            activates = so.activates;
          }

          back_to : Post
          back_to = record { from = from; to = k; message = m }

          answer : (q : BoundReply) → MakeSaid lines after (λ z s. inl s) x (Some q) → MakeStands r.part h.path x (Some q) → (o : Post) →
              o.to ≡ from → ReplyWasAsked M.sent made o (asked_by h) (Reply.Bound q)
          answer (bound.Make b server g stores) line stand o to = (
            h,
            x,
            include,
            avoid,
            record { post = back_to; posted = there; from = sym to; asking = comes; asker = refl },
            (
              line,
              record {
                here = λ one. (
                  subst (λ i. i ≤ d.inc) (sym (stand.0 ∙ stood.0.0)) (own.1 n is).1,
                  λ m same ours. subst (λ z. StandsIn z (top_of h.path) x b) (some_is same) stand.1,
                );
                there = λ apart. absurd (apart (own.1 n is).0);
              },
            ),
          )
          answer (bound.Live b server i g stores) line stand o to = tt
          answer (bound.Write g stores) line stand o to = tt
          answer (bound.Conflict z l) line stand o to = tt

          fine : (q : BoundReply) → MakeSaid lines after (λ z s. inl s) x (Some q) → MakeStands r.part h.path x (Some q) →
              Fine M.sent made k (Send from (response (asked_by h) (Reply.Bound q)))
          fine q line stand = (
            (λ a z same. let two : ◌≡◌ {A = Asked × Reply} (asked_by h, Reply.Bound q) (a, z) = some_is same in subst (λ (y : Asked ×
                Reply). ReplyWasAsked M.sent made (record { from = k; to = from; message = response (asked_by h) (Reply.Bound q) }) y.0 y.1)
                two (answer q line stand (record { from = k; to = from; message = response (asked_by h) (Reply.Bound q) }) refl)),
            λ g b st same. absurd (cc same),
          )

          by : (o : Option BoundReply) → r.reply ≡ o → Left (sends_answer from h v r.outs (option_map Reply.Bound o))
          by None none = tt
          by (Some q) there = walk_lines M.sent after d.inc e k v r.outs (Send from (response (asked_by h) (Reply.Bound q)) ∷ []) d M
              (λ z i. i) (bind_said h.path x include avoid d.names n) (λ z s. s) (placed_on (Some r.part) goes_to) (omega arith) (tt, tt)
              (fine q (subst (MakeSaid lines after (λ z s. inl s) x) there told.1) (subst (MakeStands r.part h.path x) there stood.1), tt)
              goes

      bind_walk : (o : Option Naming) → t.naming ≡ o →
          Left (if_naming (λ n. served from h (with_naming t) Reply.Bound (naming.bind h.path x include avoid d.names n)) o)
      bind_walk None is = tt
      bind_walk (Some n) is = named_by n is

    message_walk : (v : Parts) (outs : List Effect) → handle k d t from m ≡ Took v outs → Walks WereAsked e k outs (Up WereAsked k v) d M
    message_walk v outs is = by (asks m) refl
      where
        other : (h : Head) (b : Ask) → asks m ≡ Some (h, b) → ((x : ℕ) (include : Bool) (avoid : Binding) → b ≢ ask.Bind x include avoid) →
            Walks WereAsked e k outs (Up WereAsked k v) d M
        other h b it not_it = plain (λ g x include avoid its. let two : ◌≡◌ {A = Head × Ask} (h, b) (g, ask.Bind x include avoid) = some_is
            (sym it ∙ its) in not_it x include avoid (ap (λ (z : Head × Ask). z.1) two)) v outs is

        one : (h : Head) (b : Ask) → asks m ≡ Some (h, b) → Walks WereAsked e k outs (Up WereAsked k v) d M
        one h (ask.Bind x include avoid) it =
            subst Left (sym (ap (handle_ask k d t from m) it) ∙ is) (bind_walk h x include avoid it t.naming refl)
        one h (ask.Load x) it = other h (ask.Load x) it (λ y i a same. cc same)
        one h (ask.Activate b st) it = other h (ask.Activate b st) it (λ y i a same. cc same)
        one h (ask.Record x b i g) it = other h (ask.Record x b i g) it (λ y i a same. cc same)
        one h (ask.Invoke x b i ends o) it = other h (ask.Invoke x b i ends o) it (λ y i a same. cc same)
        one h (ask.Vote i ties ends) it = other h (ask.Vote i ties ends) it (λ y i a same. cc same)
        one h (ask.Prepare states) it = other h (ask.Prepare states) it (λ y i a same. cc same)
        one h (ask.Confirm g ex inc) it = other h (ask.Confirm g ex inc) it (λ y i a same. cc same)

        by : (o : Option (Head × Ask)) → asks m ≡ o → Walks WereAsked e k outs (Up WereAsked k v) d M
        by None it = plain (λ g x include avoid its. let no_way : ◌≡◌ {A = Option (Head × Ask)} None (Some (g, ask.Bind x include avoid)) =
            sym it ∙ its in absurd (cc no_way)) v outs is
        by (Some o) it = one o.0 o.1 it

  act_walk : (i : Input) → is_act i ≡ true → refusal_up hd i t.coord ≡ None → Walks WereAsked e k (let r = acts_of i d.intents t.coord in
      r.outs) (Up WereAsked k (with_coord t (acts_of i d.intents t.coord).part)) d M
  act_walk i is free =
      let r = acts_of i d.intents t.coord in
      let steps = acts_named M.sent old k t.coord place own.0.0.1 hd i d.intents free other in
      walk_on (with_coord t r.part) r.outs same_naming (quiet_incs d.inc r.outs (acts_quiet begun e k d t M good hd i is free))
      (own_fine M.sent (new t.naming) k r.part (steps_on t.naming same_naming r.part steps) r.outs
      (quiet_silent r.outs (acts_quiet begun e k d t M good hd i is free)) (acts_so begun (paths_of begun) tree_is t.coord coord_good
      (let u = its_up in u.numbered) works i d.intents other)) ((own.0.0.0, steps), own.0.1)
    where
      other : (l : Label) (how : Kind) (parent : Option Label) → i ≢ input.Begin l how parent
      other l how parent same = let no_way : false ≡ true = sym (ap is_act same) ∙ is in cc no_way

  tick_walk : Walks WereAsked e k (tick_outs (record { number = k; disk = d; live = Some t }) t)
      (Up WereAsked k (with_coord t (again_all t.coord.doings t.coord).part)) d M
  tick_walk =
      let r = again_all t.coord.doings t.coord in
      let tolds = tolds_again t.coord.telling in
      let steps = again_named M.sent old k t.coord place own.0.0.1 in
      let outs = tick_outs (record { number = k; disk = d; live = Some t }) t in
      walk_on (with_coord t r.part) outs same_naming (quiet_incs d.inc outs (tick_quiet begun e k d t M good)) (own_fine M.sent
      (new t.naming) k r.part (steps_on t.naming same_naming r.part steps) outs (quiet_silent outs (tick_quiet begun e k d t M good))
      (so_both r.part (r.outs ++ tolds) (map query_about (holders d t))
      (so_both r.part r.outs tolds (again_so begun (paths_of begun) tree_is t.coord coord_good (let u = its_up in u.numbered) works)
      (tolds_so r.part t.coord.telling)) (all_map (SendsSo r.part) query_about (holders d t) (λ w h a is. absurd (cc is)))))
      ((own.0.0.0, steps), own.0.1)

  begin_walk : (l : Label) (how : Kind) (parent : Option Label) (g : Labelled) →
      Walks WereAsked e k (let r = begin_action l how parent (parent_of parent t.coord) t.coord in
      r.outs) (Up WereAsked k (with_coord t (begin_action l how parent (parent_of parent t.coord) t.coord).part)) d (given l g M)
  begin_walk l how parent g =
      let r = begin_action l how parent (parent_of parent t.coord) t.coord in
      let v = with_coord t r.part in
      let so = so_more k (Some v) M lines lines (λ z s. s) old (new t.naming) (still lines (λ z s. s) t.naming same_naming)
      (goes_on v ((own.0.0.0, begins_named M.sent old l how parent t.coord own.0.0.1), own.0.1)) in
      walk M.sent lines d.inc e k v r.outs d (given l g M) (λ p i. i) (λ z s. s) (placed_on t.naming same_naming) (omega arith) (tt, tt)
      (tt, tt) (record { its = so.its; others = so.others; replies = so.replies; activates = so.activates })

first_asked : (hd : Header) → IsAtStarts hd WereAsked
first_asked hd st formed = record {
  replies = λ p a r i. absurd i;
  activates = λ p h b st i. absurd i;
  servers = λ j n t is live. (by j n t is live).0.0.0;
  steps = λ j n t is live. (by j n t is live).0.0.1;
  namings = λ j n t is live. (by j n t is live).0.1;
  places = λ j n t is live. (by j n t is live).1;
}
  where
    L : Body → Type 0
    L = let w = world_from hd st in IsSaid w.lines

    C : Claims
    C = WasMade (see [] (world_from hd st))

    by : (j : ℕ) (n : Node) (t : Parts) → at_place j (map (node_by hd st) (numbers_to hd.nodes)) ≡ Some n → n.live ≡ Some t →
        PartsSo [] L C t × IsPlaced j (let d = n.disk in d.inc) t.naming
    by j n t is live =
        let same = first_up hd st j n t is live in
        let names = (let d = disk_by hd st j in d.names) in (
          subst (PartsSo [] L C) same
              ((none_asked [] (st.incs j + 1), new_named [] C j (st.incs j + 1) []), start_made L j (st.incs j + 1) names),
          subst (λ (z : Node). IsPlaced j (let d = z.disk in d.inc) t.naming) (first_at hd st j n is)
              (subst (λ (z : Parts). IsPlaced j (st.incs j + 1) z.naming) same (start_placed j (st.incs j + 1) names)),
        )

-- a restart
module _ (hd : Header) (e k : ℕ) (d : Disk) (M : Seen) (p : WereAsked (down k d M)) where
  -- where the node is still down, on a later disk
  halts : (c : Disk) → d.inc ≤ c.inc → WereAsked (halted e k c M)
  halts c low = quiet_asked e (body.Halted k ∷ []) (down k c M) (back k c None M (so_more k None M (IsSaid M.lines) (IsSaid M.lines)
      (λ z s. s) (WasMade (down k d M)) (WasMade (down k c M)) (λ q x b s g w. (w.0, stays q x b g w.1))
      (record { its = λ t is. absurd (cc is); others = others_of k d None M p; replies = p.replies; activates = p.activates }))
      (λ t is. absurd (cc is)))
    where
      up_to : (a b c : ℕ) → a ≤ b → b ≤ c → a ≤ c
      up_to a b c x y = omega (arith, x, y)

      stays : (q : Path) (x : ℕ) (b : Binding) (g : ℕ) → ((n : Node) → (let w = down k d M in w.nodes) 1 ≡ Some n → StandsAt n q x b g) →
          (n : Node) → (let w = down k c M in w.nodes) 1 ≡ Some n → StandsAt n q x b g
      stays q x b g was n found = by (1 == k) refl found
        where
          by : (is : Bool) → (1 == k) ≡ is → cond is (Some (record { number = k; disk = c; live = None })) (M.nodes 1) ≡ Some n →
              StandsAt n q x b g
          by true same it = let w = was (record { number = k; disk = d; live = None }) (λ i.
              cond (same i) (Some (record { number = k; disk = d; live = None })) (M.nodes 1)) in subst (λ (z : Node). StandsAt z q x b g)
              (some_is it) (record { low = up_to g d.inc c.inc w.low low; stands = λ t o live. absurd (cc live) })
          by false apart it = was n ((λ i. cond (apart i) (Some (record { number = k; disk = d; live = None })) (M.nodes 1)) ∙ it)

  restart_walk : Walks WereAsked e k (restart_outs hd k (d.inc + 1) d) (Up WereAsked k (parts_in k (d.inc + 1) d)) d M
  restart_walk = (
    λ how. halts (stopped how Look d) (inc_stopped d.inc how Look d tt (omega arith)),
    (λ how. halts (stopped how (PutInc (d.inc + 1)) d) (inc_stopped d.inc how (PutInc (d.inc + 1)) d (omega arith) (omega arith)), goes),
  )
    where
      v : Parts
      v = parts_in k (d.inc + 1) d

      after : Disk
      after = record d { inc = d.inc + 1 }

      C : Claims
      C = Made (IsSaid M.lines) k (d.inc + 1) v.naming M.nodes

      stays : (q : Path) (x : ℕ) (b : Binding) (s g : ℕ) → WasMade (down k d M) q x b s g → C q x b s g
      stays q x b s g w = (
        w.0,
        record {
          here = one;
          there = λ apart n found. w.1 n ((λ i. cond (other_number 1 k (λ same. apart (sym same)) i)
              (Some (record { number = k; disk = d; live = None })) (M.nodes 1)) ∙ found);
        },
      )
        where
          under : (a b : ℕ) → a ≤ b → a ≤ b + 1
          under a b le = omega (arith, le)

          apart_from : (a b c : ℕ) → a ≤ b → a ≡ c → c ≡ b + 1 → ⊥
          apart_from a b c le same is = omega (arith, le, same, is)

          one : k ≡ 1 → (g ≤ d.inc + 1) × ((m : Naming) → v.naming ≡ Some m → g ≡ m.inc → StandsIn m (top_of q) x b)
          one is =
              let z = w.1 (record { number = k; disk = d; live = None })
              (ap (λ i. (let w = down k d M in w.nodes) i) (sym is) ∙ node_here M k (record { number = k; disk = d; live = None })) in
              (under g d.inc z.low, λ m there ours. absurd (apart_from g d.inc m.inc z.low ours (start_inc k (d.inc + 1) d.names m there)))

      steps : StepsNamed M.sent C v.coord
      steps = new_named M.sent C k (d.inc + 1) d.intents

      so : AreSo k None M (IsSaid M.lines) C
      so = so_more k None M (IsSaid M.lines) (IsSaid M.lines) (λ z s. s) (WasMade (down k d M)) C stays
          (record { its = λ t is. absurd (cc is); others = others_of k d None M p; replies = p.replies; activates = p.activates })

      goes : Walks WereAsked e k (rest hd k d) (Up WereAsked k v) after M
      goes = walk M.sent (IsSaid M.lines) (d.inc + 1) e k v (rest hd k d) after M (λ p i. i) (λ z s. s) (start_placed k (d.inc + 1) d.names)
          (omega arith) (quiet_incs (d.inc + 1) (rest hd k d) (rest_quiet hd k d)) (own_fine M.sent C k v.coord steps
          (restart_outs hd k (d.inc + 1) d) (restart_silent hd k (d.inc + 1) d) (restart_asks hd k (d.inc + 1) d)).1.1
          (record {
            its = λ t is. subst (PartsSo M.sent (IsSaid M.lines) C) (some_is is)
                ((none_asked M.sent (d.inc + 1), steps), start_made (IsSaid M.lines) k (d.inc + 1) d.names);
            others = so.others;
            replies = so.replies;
            activates = so.activates;
          })

pub asked_given : (hd : Header) → KeepsGiven hd (λ M. (RequestsAreKnown M × HaveForms hd M) × ObjectsAreHeld M) WereAsked
asked_given hd = record {
  quiet = λ e bs M quiet g p. quiet_asked e bs M p;
  stop = λ e k d live M g p. stop_so e k d live M p;
  message = λ e k d t v from m outs M g p there meant is.
      message_walk hd g.0.0.0.0.0 e k d t M g.0.0.0.0.1 g.0.0.0.1 g.0.0.1 g.0.1 g.1 p from m there meant v outs is;
  act = λ e k d t i M is free g p. act_walk hd g.0.0.0.0.0 e k d t M g.0.0.0.0.1 g.0.0.0.1 g.0.0.1 g.0.1 g.1 p i is free;
  begin = λ e k d t l how parent M new may free g p. begin_walk hd g.0.0.0.0.0 e k d t M g.0.0.0.0.1 g.0.0.0.1 g.0.0.1 g.0.1 g.1 p l how
      parent (record { node = k; serial = is_serial how });
  tick = λ e k d t M g p. tick_walk hd g.0.0.0.0.0 e k d t M g.0.0.0.0.1 g.0.0.0.1 g.0.0.1 g.0.1 g.1 p;
  restart = λ e k d M g p. restart_walk hd e k d M p;
  first = first_asked hd;
}
