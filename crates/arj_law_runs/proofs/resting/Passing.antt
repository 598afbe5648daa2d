-- Who waits goes on having what answers it under way, where a node handles a message.
use Rattle.arj_law_parts.proofs.Words
use Words.{◌≡◌, ◌∙◌, ℕ, Bool, true, false, List, [], ◌∷◌, refl, sym, ap, subst, inl, Option, Some, None, arith, ◌&&◌, ◌==◌, if◌then◌else◌}
use Words.{nat_tests, taken_took, Ask, Asked, Body, End, Head, Header, Message, ObjectState, Uid, asks, Reply, answers, last_end, heard}
use Words.{Calling, Committing, Coord, Idle, Now, doing_of, Disk, Effect, Intent, Served, acked, acked_by, acked_left, answer_query}
use Words.{Handled, Parts, Took, Void, answer_is_meant, asked_is_meant, by_reply, coord_heard, handle, handle_answer, handle_ask}
use Words.{handle_ends, is_loaded_for, is_loaded_in, naming_hello, naming_told, reply_is_meant, serve, taken, with_coord, at_uid, has}
use Words.{without_number, Node, Post, Seen, IsSaid, coord_in}
use Words.loaded
use Words.message
use Words.server
use Rattle.arj_law_runs.proofs.Terms.{In, up, AnswersWaits, AreBrought, want_of_call, want_of_commit}
use Rattle.arj_law_runs.proofs.resting
use resting.Hearing.{Heard, IsHeardSo, IsHome, Unheard, heard_so}
use resting.Serving.{HasAnswered, IsServed, serve_served}
use resting.Ways.{AllBut, Then, brought_of, heard_stays, other_stays, post_of, put, put_same, request_stays, unheard_stays, void_stays}
use Rattle.arj_law_runs.specs.resting.Rounds.{HasCome, IsVoid}

-- ---- one message

-- the coordinators of nodes that are seen
abbrev pub coords : (ℕ → Option Node) → ℕ → Option Coord
coords found k = coord_in (found k)

same_number : (n : ℕ) → (n == n) ≡ true
same_number n = grind (arith, nat_tests)

up_coord : (n : ℕ) (d : Disk) (t : Parts) (M : Seen) → coords (up n d t M).nodes n ≡ Some t.coord
up_coord n d t M = ap (λ b. coord_in (if b then Some (record { number = n; disk = d; live = Some t }) else M.nodes n)) (same_number n)

-- only a state is meant for its object alone
meant_there : (a : Asked) (c : Coord) (r : Reply) → ((st : ObjectState) → is_loaded_for st (doing_of a.act c) ≡ true) →
    reply_is_meant c a r ≡ true
meant_there a c (Reply.Loaded (loaded.State st)) each = each st
meant_there a c (Reply.Loaded (loaded.InDoubt h)) each = refl
meant_there a c (Reply.Bound x) each = refl
meant_there a c (Reply.Activated i) each = refl
meant_there a c (Reply.Noted x) each = refl
meant_there a c (Reply.Invoked x) each = refl
meant_there a c (Reply.Voted x) each = refl
meant_there a c (Reply.Prepared x) each = refl
meant_there a c (Reply.Confirmed x) each = refl

acked_work : (from : ℕ) (u : Uid) (intents : List (Uid × Intent)) (c : Coord) (w : Uid) →
    doing_of w (acked from u intents c).part ≡ doing_of w c
acked_work from u intents c w = by (at_uid u c.telling)
  where
    left : (i : Intent) (ns : List ℕ) → doing_of w (acked_left u i intents c ns).part ≡ doing_of w c
    left i [] = refl
    left i (n ∷ ns) = refl

    one : (i : Intent) (b : Bool) → doing_of w (if b then acked_left u i intents c (without_number from i.nodes) else
        record { part = c; outs = []; reply = None }).part ≡ doing_of w c
    one i true = left i (without_number from i.nodes)
    one i false = refl

    by : (o : Option Intent) → doing_of w (acked_by from u intents c o).part ≡ doing_of w c
    by None = refl
    by (Some i) = one i (has i.nodes from)

took_is : (u v : Parts) (es fs : List Effect) → Took u es ≡ Took v fs → u ≡ v
took_is u v es fs is = cc is

-- a message that is no request and no answer leaves who waits
pub other_work : (n : ℕ) (d : Disk) (t : Parts) (from : ℕ) (m : Message) → asks m ≡ None → answers m ≡ None →
    (v : Parts) (outs : List Effect) → handle n d t from m ≡ Took v outs → (w : Uid) → doing_of w v.coord ≡ doing_of w t.coord
other_work n d t from (message.Told m) silent mute v outs is w = by (last_end m.ends) is
  where
    by : (o : Option (Uid × End)) → handle_ends n d t from m.ack m.ends o ≡ Took v outs → doing_of w v.coord ≡ doing_of w t.coord
    by None is = ap (λ (x : Parts). doing_of w x.coord) (sym (took_is t v [] outs is))
    by (Some e) is = let o = naming_told e.0 e.1 d.names t.naming in let s = server.told n m.ends t.server in
        ap (λ (x : Parts). doing_of w x.coord) (sym (took_is (record { server = s.part; naming = o.part; coord = t.coord }) v _ outs is))
other_work n d t from (message.Acked m) silent mute v outs is w = by (acked from m.act d.intents t.coord).reply is
  where
    by : (o : Option (Unit {0})) → by_reply (with_coord t (acked from m.act d.intents t.coord).part)
        (acked from m.act d.intents t.coord).outs o ≡ Took v outs → doing_of w v.coord ≡ doing_of w t.coord
    by None is = absurd (cc is)
    by (Some u) is = ap (λ (x : Parts). doing_of w x.coord) (sym (took_is (with_coord t (acked from m.act d.intents t.coord).part) v
        (acked from m.act d.intents t.coord).outs outs is)) ∙ acked_work from m.act d.intents t.coord w
other_work n d t from (message.Query m) silent mute v outs is w =
    ap (λ (x : Parts). doing_of w x.coord) (sym (took_is t v (answer_query from m.act d.intents t.coord) outs is))
other_work n d t from (message.Hello m) silent mute v outs is w =
    ap (λ (x : Parts). doing_of w x.coord) (sym (took_is (record t { naming = naming_hello m.node m.inc t.naming }) v _ outs is))
other_work n d t from (message.Bind m) silent mute v outs is w = absurd (cc silent)
other_work n d t from (message.Load m) silent mute v outs is w = absurd (cc silent)
other_work n d t from (message.Activate m) silent mute v outs is w = absurd (cc silent)
other_work n d t from (message.RecordMsg m) silent mute v outs is w = absurd (cc silent)
other_work n d t from (message.Invoke m) silent mute v outs is w = absurd (cc silent)
other_work n d t from (message.Vote m) silent mute v outs is w = absurd (cc silent)
other_work n d t from (message.Prepare m) silent mute v outs is w = absurd (cc silent)
other_work n d t from (message.Confirm m) silent mute v outs is w = absurd (cc silent)
other_work n d t from (message.Bound m) silent mute v outs is w = absurd (cc mute)
other_work n d t from (message.Loaded m) silent mute v outs is w = absurd (cc mute)
other_work n d t from (message.Activated m) silent mute v outs is w = absurd (cc mute)
other_work n d t from (message.Recorded m) silent mute v outs is w = absurd (cc mute)
other_work n d t from (message.Invoked m) silent mute v outs is w = absurd (cc mute)
other_work n d t from (message.Voted m) silent mute v outs is w = absurd (cc mute)
other_work n d t from (message.Prepared m) silent mute v outs is w = absurd (cc mute)
other_work n d t from (message.Confirmed m) silent mute v outs is w = absurd (cc mute)

module _ (hd : Header) (P : Seen → Type 0) (gives : AnswersWaits hd P) (homes : (k : ℕ) (d : Disk) (t : Parts) (M : Seen) → P (up k d t M) →
    IsHome t.coord) (nodes : ℕ → Type 0) (n : ℕ) where
  -- what is brought after the message, as the node handled it
  abbrev pub Brought : (ℕ → Option Coord) → (Post → Type 0) → (Body → Type 0) → Handled → Type 0
  Brought cs G B (Void outs) = AreBrought nodes cs G B
  Brought cs G B (Took v outs) = AreBrought nodes (put n v.coord cs) (Then G n outs) B

  module _ (d : Disk) (t : Parts) (from : ℕ) (m : Message) (M : Seen) (holds : P (up n d t M)) (sent : In (post_of from n m) M.sent)
      (F G : Post → Type 0) (B : Body → Type 0) (less : AllBut (post_of from n m) F G)
      (lines : (b : Body) → IsSaid M.lines b → B b) (brought : AreBrought nodes (coords (up n d t M).nodes) F B) where
    abbrev Cs : ℕ → Option Coord
    Cs = coords (up n d t M).nodes

    request : (h : Head) (a : Ask) → asks m ≡ Some (h, a) → (r : Handled) → taken n d t from m ≡ r → Brought Cs G B r
    request h a is (Void outs) so = void_stays nodes Cs n from m F G B less h a is
        (λ c u q s there found does now node asked.
        let come : HasCome n (up n d t M) c (want_of_call u s) =
        record { post = post_of from n m; sent = sent; to = refl; node = node; coord = found; asks = asked } in
        let o = gives.calls n d t M c u q s holds does now come (subst IsVoid (sym so) tt) in
        record { known = o.known; step = o.step; binding = o.binding; server = o.server; line = lines _ o.line; greater = o.greater })
        (λ c u q x there found does now left asked.
        let come : HasCome n (up n d t M) c (want_of_commit u x n) =
        record { post = post_of from n m; sent = sent; to = refl; node = refl; coord = found; asks = asked } in
        gives.commits n d t M c u q x n holds does now left come (subst IsVoid (sym so) tt)) brought
    request h a is (Took v outs) so =
        let served : serve n d t from h a ≡ Took v outs = (λ i. handle_ask n d t from m (sym is i)) ∙ taken_took n d t v from m outs so in
        let x : HasAnswered from h a t v outs = subst (IsServed from h a t) served (serve_served n d t from h a) in
        brought_of nodes Cs (put n v.coord Cs) (Then G n outs) B (put_same nodes n v.coord Cs (up_coord n d t M ∙ ap Some (sym x.coord)))
        (request_stays nodes Cs n from m F G B less h a outs x.reply is x.sent x.kind brought)

    answer : (a : Asked) (r : Reply) → asks m ≡ None → answers m ≡ Some (a, r) → Brought Cs G B (taken n d t from m)
    answer a r silent is = subst (Brought Cs G B) (sym both) (by (heard_so from a r d.intents t.coord (homes n d t M holds)))
      where
        said_so : Served Coord (Unit {0})
        said_so = heard from a r d.intents t.coord

        -- by whether it can be meant
        both : taken n d t from m ≡ (if reply_is_meant t.coord a r then coord_heard t said_so else Void [])
        both =
            let handled : handle n d t from m ≡ coord_heard t said_so = (λ i. handle_ask n d t from m (silent i))
            ∙ (λ i. handle_answer n d t from m (is i)) in
            λ i. if (asked_is_meant t.server (silent i) && answer_is_meant t.coord (is i)) then handled i else Void []

        meant_or : (b : Bool) → AreBrought nodes Cs G B → Brought Cs G B (if b then Void [] else Void [])
        meant_or true k = k
        meant_or false k = k

        by : IsHeardSo from a r t.coord said_so → Brought Cs G B (if reply_is_meant t.coord a r then coord_heard t said_so else Void [])
        by (Unheard none unasked) = subst (λ o.
            Brought Cs G B (if reply_is_meant t.coord a r then by_reply (with_coord t said_so.part) said_so.outs o else Void [])) (sym none)
            (meant_or (reply_is_meant t.coord a r)
            (unheard_stays nodes Cs n from m F G B less a r silent is t.coord (up_coord n d t M) unasked brought))
        by (Heard q found some waits moves) = subst (λ b. Brought Cs G B (if b then coord_heard t said_so else Void [])) (sym meant)
            (subst (λ o. Brought Cs G B (by_reply (with_coord t said_so.part) said_so.outs o)) (sym some) (heard_stays nodes Cs n from m F G
            B less a r silent is t.coord said_so.part q said_so.outs (up_coord n d t M) found moves brought))
          where
            now : (x : Now) → q.now ≡ x → reply_is_meant t.coord a r ≡ true
            now (Calling s) calling = gives.meant n d t M (post_of from n m) a r q s holds sent refl is found calling (waits s calling)
            now Idle idle = meant_there a t.coord r (λ st. ap (is_loaded_for st) found ∙ ap (is_loaded_in st) idle)
            now (Committing k) committing = meant_there a t.coord r (λ st. ap (is_loaded_for st) found ∙ ap (is_loaded_in st) committing)

            meant : reply_is_meant t.coord a r ≡ true
            meant = now q.now refl

    -- no request and no answer
    other : asks m ≡ None → answers m ≡ None → (r : Handled) → taken n d t from m ≡ r → Brought Cs G B r
    other silent mute (Void outs) so =
        brought_of nodes (put n t.coord Cs) Cs G B (λ k. sym (put_same nodes n t.coord Cs (up_coord n d t M) k))
        (other_stays nodes Cs n from m F G B less t.coord t.coord G silent mute (up_coord n d t M) (λ w. refl) (λ q g. g) brought)
    other silent mute (Took v outs) so = other_stays nodes Cs n from m F G B less t.coord v.coord (Then G n outs) silent mute
        (up_coord n d t M) (λ w. other_work n d t from m silent mute v outs (taken_took n d t v from m outs so) w) (λ q g. inl g) brought

    pub message_brings : Brought Cs G B (taken n d t from m)
    message_brings = by (asks m) refl
      where
        reply : asks m ≡ None → (o : Option (Asked × Reply)) → answers m ≡ o → Brought Cs G B (taken n d t from m)
        reply silent None mute = other silent mute (taken n d t from m) refl
        reply silent (Some x) is = answer x.0 x.1 silent is

        by : (o : Option (Head × Ask)) → asks m ≡ o → Brought Cs G B (taken n d t from m)
        by (Some x) is = request x.0 x.1 is (taken n d t from m) refl
        by None silent = reply silent (answers m) refl
