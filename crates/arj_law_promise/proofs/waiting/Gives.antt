-- What is known of whoever waits gives that requests are answered, with what is still to be given.
use Rattle.arj_law_parts.proofs.Words
use Words.{Bool, List, None, Option, Some, [], ap, arith, cond, eqb-true, false, map, refl, subst, sym, true, ℕ, ⊎_elim, ◌<◌, ◌==◌, ◌∙◌}
use Words.{◌∷◌, ◌≡◌, ◌≢◌, ◌≤◌, IfSome, is_some, nat_lt, not, option_map, ◌&&◌, ◌||◌, AllByRecursion, list_any, and_parts}
use Words.{false_from_ne_true, or_cases, Ask, Binding, End, Head, Header, ObjectState, Op, Path, RecordedReply, Uid, asks, own_class, has_op}
use Words.{is_on, object, uid_eq, Reply, actor, answers, top_of, top_path, At, AtActivate, AtBind, AtInvoke, AtLoad, AtNote, Goal, Include}
use Words.{Known, Run, Steps, ask_at, is_include, next_ask, node_at, Confirming, Machine, Preparing, Used, Voting, ask_of, confirm_ask}
use Words.{included_of, left_of, plan_of, states_for, vote_ask, Calling, Committing, Coord, Doing, doing_of, kept_of, root_at, Already}
use Words.{Disk, Served, prepare_answer, reply, void, Naming, is_over, Parts, are_of_objects, ask_is_meant, copy_has_op, is_loaded_for}
use Words.{is_loaded_in, reply_is_meant, serve, stand_once, taken, Kept, active_binding, binding_of, has_ended, is_below, Node, class_at}
use Words.{at_place, is_own, root_of, Post, Seen, IsOvertaken, IsSaid, IsToSettle, coord_in, coord_of, at_number, at_uid, binding_eq}
use Words.{binding_less, binding_number, has, unbound, uid_is, uid_same, waits_for_call, Copy, nat_tests, Made, Named, in_use}
use Words.{lower_lines, lowered, note_made, note_named, note_other, is_binding}
use Words.words
use Words.ask
use Words.loaded
use Words.body
use Words.recorded
use Rattle.arj_law_promise.proofs.Terms
use Terms.{Action, action_of, IsAsking, IsBusy, AreOnce, IsNumbered, IsOfStep, bare, IsGoodOf, IsUp, In, up, node_here, all_at_uid, some_is}
use Terms.{keyed_found, IsAskedBy, AnswersWaits, IsVoid, HasObject, ArePastIn, HasStored, LoadsFind, WaitsAreKnown, UsesOf, kind_of, stored}
use Terms.{NowIsSo, OwnOf, HeaderFits, IsUsedIn, ActivateNamed, HasMade, MadeWasSaid, NamedAt, NamedWasSaid, ReplyWasAsked}
use Terms.{ServerWasAsked, StandsIn, WasBrought, WasMade, WasNamed, all_each, first_values}
use Rattle.arj_law_disk_view.specs.running.{Entries.IsEntryNode, Entries.KnowsEntries, States.AtIsSo}
use Rattle.arj_law_lock_view.proofs.records.Tops.{top_among}
use Rattle.arj_law_parts.specs.parts.{AskedObjects.IsNowOf, AskedObjects.KnowsObjects, Messages.IsAsker}
use Rattle.arj_law_promise.proofs.waiting
use waiting.{Uncommitted.already_written, Uncommitted.uncommitted}
use waiting.Known.{all_send, are_objects, class_is, copy_fits, has_each, keyed_at, loads_own, not_below, object_is, op_fits, used_is}
use waiting.Known.{waits_req}
use waiting.Replies.{activate_answers, bind_answers, confirm_answers, invoke_answers, load_answers, prepare_answers, record_answers}
use waiting.Replies.{taken_void, vote_answers}
use waiting.Untold.{its_coord, its_up, naming_untold, server_untold}
use Rattle.arj_law_promise.specs.waiting.{Asked.WasAsked, Waits.KnownGive}
use Rattle.arj_law_runs.proofs.addresses.Lists.{never}
use Rattle.arj_law_runs.specs.addresses.Binds.{KnowsBinds, StandsOn}
use Rattle.arj_law_runs.specs.calls.Coords.{head_of}
use Rattle.arj_law_runs.specs.resting.{Rounds.HasCome, Waits.want_of_call, Waits.want_of_commit}
use Rattle.arj_law_serial.specs.{joint.Forms.UpIsSo, joint.Forms.so_of, whole.Called.FitsGoal, whole.Called.IsOfHeader}
use Rattle.arj_protocol.specs.Call.{invoked_op}

-- ---- requests without their ends

abbrev is_invoke_ask : Ask → Bool
is_invoke_ask (ask.Invoke x b i ends o) = true
is_invoke_ask _ = false

-- a request other than an Invoke brings no ends
pub same_bare : (a b : Ask) → is_invoke_ask b ≡ false → bare a ≡ b → a ≡ b
same_bare (ask.Bind x include_it avoid) b not_it is = is
same_bare (ask.Load x) b not_it is = is
same_bare (ask.Activate c st) b not_it is = is
same_bare (ask.Record x c i g) b not_it is = is
same_bare (ask.Invoke x c i ends o) b not_it is = let no_way : true ≡ false = ap is_invoke_ask is ∙ not_it in absurd (cc no_way)
same_bare (ask.Vote i ties ends) b not_it is = is
same_bare (ask.Prepare states) b not_it is = is
same_bare (ask.Confirm g x y) b not_it is = is

abbrev with_ends : List (Uid × End) → Ask → Ask
with_ends ends (ask.Invoke x b i es o) = ask.Invoke x b i ends o
with_ends ends a = a

same_invoke : (a : Ask) (x : ℕ) (b : Binding) (i : ℕ) (o : Op) → bare a ≡ ask.Invoke x b i [] o →
    (ends : List (Uid × End)) × (a ≡ ask.Invoke x b i ends o)
same_invoke (ask.Bind y include_it avoid) x b i o is = absurd (cc is)
same_invoke (ask.Load y) x b i o is = absurd (cc is)
same_invoke (ask.Activate c st) x b i o is = absurd (cc is)
same_invoke (ask.Record y c k g) x b i o is = absurd (cc is)
same_invoke (ask.Invoke y c k ends p) x b i o is = (ends, ap (with_ends ends) is)
same_invoke (ask.Vote k ties ends) x b i o is = absurd (cc is)
same_invoke (ask.Prepare states) x b i o is = absurd (cc is)
same_invoke (ask.Confirm g y z) x b i o is = absurd (cc is)

-- ---- bindings

-- nothing is less than no binding
nothing_less : (b : Binding) → binding_less b unbound ≡ true → ⊥
nothing_less b less = by (binding_number b) less
  where
    by : (n : ℕ) → nat_lt n 0 ≡ true → ⊥
    by n is = grind (arith, nat_tests, is)

-- whoever is told on a path
over_one : (f : Uid → Bool) (us : List Uid) (w : Uid) → is_on us w ≡ true → f w ≡ true → list_any f us ≡ true
over_one f [] w on is = absurd (cc on)
over_one f (u ∷ us) w on is = ⊎_elim (λ same. first (f u) (list_any f us) (ap f (uid_is u w same) ∙ is))
    (λ late. second (f u) (list_any f us) (over_one f us w late is)) (or_cases (uid_eq u w) (is_on us w) on)
  where
    first : (a b : Bool) → a ≡ true → (a || b) ≡ true
    first true b e = refl
    first false b e = absurd (cc e)

    second : (a b : Bool) → b ≡ true → (a || b) ≡ true
    second true b e = refl
    second false b e = e

-- a binding is recorded where it was made last for the top
not_noted : (x : ℕ) (top : Uid) (b : Binding) (i : ℕ) (o : Named) (m : Made) → at_uid top o.made ≡ Some m →
    is_some (note_named x top b i o).reply ≡ false → binding_eq b m.binding ≡ false
not_noted x top b i o m there none = by (is_binding b o.recorded) none
  where
    made : (r : Bool) → is_some (cond {A = Served Named RecordedReply} r (reply o recorded.Yes)
        (record { part = lowered x top (in_use top m i o); outs = lower_lines x top o; reply = Some recorded.Yes })).reply ≡ false → ⊥
    made true e = cc e
    made false e = cc e

    one : (e : Bool) → is_some (cond {A = Served Named RecordedReply} e (note_made x top i o m) (void o)).reply ≡ false → e ≡ false
    one true unsaid = absurd (made m.recorded unsaid)
    one false unsaid = refl

    by : (e : Bool) → is_some (cond {A = Served Named RecordedReply} e (reply o recorded.Yes)
        (note_other x top b i o (at_uid top o.made))).reply ≡ false → binding_eq b m.binding ≡ false
    by true unsaid = absurd (cc unsaid)
    by false unsaid =
        one (binding_eq b m.binding) (subst (λ (q : Option Made). is_some (note_other x top b i o q).reply ≡ false) there unsaid)

-- ---- a Confirm

-- objects that stand in order stand once
abbrev grants_of : List Used → List (ℕ × ℕ)
grants_of us = map {A = Used} {B = ℕ × ℕ} (λ u. (u.x, u.grant)) us

stand_above : (n : ℕ) (us : List Used) → AllByRecursion (λ (v : Used). n < v.x) us → has (map (λ (g : ℕ × ℕ). g.0) (grants_of us)) n ≡ false
stand_above n [] all = refl
stand_above n (v ∷ us) all = λ i. false_from_ne_true (v.x == n) (λ e. apart n v.x all.0 (eqb-true v.x n e)) i || stand_above n us all.1 i
  where
    apart : (n m : ℕ) → n < m → m ≡ n → ⊥
    apart n m less same = omega (arith, less, same)

pub stand_in_order : (us : List Used) → AreOnce us → stand_once (map (λ (g : ℕ × ℕ). g.0) (grants_of us)) ≡ true
stand_in_order [] all = refl
stand_in_order (u ∷ us) all = λ i. not (stand_above u.x us all.0 i) && stand_in_order us all.1 i

-- ---- a request that has come

-- whose coordinator this is
pub record IsAt (M : Seen) (k : ℕ) (c : Coord) : Type 0 where
  pub node : Node
  pub parts : Parts
  pub found : M.nodes k ≡ Some node
  pub live : (let n = node in n.live) ≡ Some parts
  pub same : (let t = parts in t.coord) ≡ c

pub at_of : (M : Seen) (k : ℕ) (c : Coord) → coord_in (M.nodes k) ≡ Some c → IsAt M k c
at_of M k c is = by (M.nodes k) refl is
  where
    up_at : (n : Node) → M.nodes k ≡ Some n → (o : Option Parts) → n.live ≡ o → option_map coord_of o ≡ Some c → IsAt M k c
    up_at n found None live e = absurd (cc e)
    up_at n found (Some t) live e = record { node = n; parts = t; found = found; live = live; same = some_is e }

    by : (o : Option Node) → M.nodes k ≡ o → coord_in o ≡ Some c → IsAt M k c
    by None found e = absurd (cc e)
    by (Some n) found e = up_at n found n.live refl e

own_of : (u : Uid) (c : Coord) (q : Doing) → doing_of u c ≡ Some q → is_own u c.tree ≡ true
own_of u c q is = by (is_own u c.tree) is
  where
    by : (b : Bool) → cond b (at_place u.num c.doings) None ≡ Some q → b ≡ true
    by true e = refl
    by false e = absurd (cc e)

module _ (hd : Header) (M : Seen) (known : WaitsAreKnown hd M) (j : ℕ) (u : Uid) (c : Coord) (q : Doing)
    (does : doing_of u c ≡ Some q) where
  abbrev begun : List Action
  begun = let e = known.0.0.0.0 in e.0

  abbrev good : IsGoodOf begun M
  good = let e = known.0.0.0.0 in e.1

  abbrev past : ArePastIn begun M
  past = let e = known.0.0.0.0 in e.2

  module _ (k : ℕ) (at_k : IsAt M k c) where
    does_there : doing_of u (let t = at_k.parts in t.coord) ≡ Some q
    does_there = ap (doing_of u) at_k.same ∙ does

    busy : IsBusy (let t = at_k.parts in t.coord.tree) u q.now
    busy = (its_coord begun M good k at_k.node at_k.parts at_k.found at_k.live).busy u q does_there

    number : IsNumbered q.req q.now
    number = (its_up begun M good k at_k.node at_k.parts at_k.found at_k.live).numbered u q does_there

    -- the last request of the action is of what waits
    asked_last : (p : Post) (h : Head) (a : Ask) → In p M.sent → p.from ≡ k → asks p.message ≡ Some (h, a) → actor h.path ≡ u →
        IsAskedBy (let t = at_k.parts in t.coord) p.to h a
    asked_last p h a sent from is by_u = known.0.0.0.1.1 k at_k.node at_k.parts at_k.found at_k.live p h a sent from is
        (ap (λ w. is_own w (let t = at_k.parts in t.coord.tree)) by_u ∙ own_of u (let t = at_k.parts in t.coord) q does_there)

  -- its own entry is the one that is found
  same_doing : (k : ℕ) (at_k : IsAt M k c) (p : Post) (h : Head) (a : Ask) → actor h.path ≡ u →
      (x : IsAskedBy (let t = at_k.parts in t.coord) p.to h a) → q ≡ x.doing
  same_doing k at_k p h a by_u x =
      some_is (sym (does_there k at_k) ∙ ap (λ w. doing_of w (let t = at_k.parts in t.coord)) (sym by_u) ∙ x.found)

-- ---- whoever waits

module _ (hd : Header) (form : HeaderFits hd) (j : ℕ) (d : Disk) (t : Parts) (M : Seen) (known : WaitsAreKnown hd (up j d t M))
    (c : Coord) (u : Uid) (q : Doing) (does : doing_of u c ≡ Some q) where
  abbrev W : Seen
  W = up j d t M

  abbrev here : Node
  here = record { number = j; disk = d; live = Some t }

  -- no action on this path was told at the node
  module _ (k : ℕ) (at_k : IsAt W k c) (p : Path) (asking : IsAsking (let x = at_k.parts in x.coord.tree) u p) where
    untold_server_here : has_ended p t.server ≡ false
    untold_server_here = server_untold (begun hd W known j u c q does) W (good hd W known j u c q does) k at_k.node at_k.parts at_k.found
        at_k.live (past hd W known j u c q does) j here t (node_here M j here) refl u p asking

    untold_naming_here : (o : Naming) → t.naming ≡ Some o → is_over p o ≡ false
    untold_naming_here o is = naming_untold (begun hd W known j u c q does) W (good hd W known j u c q does) k at_k.node at_k.parts
        at_k.found at_k.live (past hd W known j u c q does) j here t (node_here M j here) refl u p asking o is

  -- naming is there where a request to it comes
  naming_here : j ≡ 1 → (o : Naming) × (t.naming ≡ Some o)
  naming_here one = by t.naming refl (place ∙ ap (λ i. i == 1) one)
    where
      place : is_some t.naming ≡ (j == 1)
      place = let n = (past hd W known j u c q does).nodes j here (node_here M j here) in let l = n.live t refl in l.place

      by : (o : Option Naming) → t.naming ≡ o → is_some o ≡ true → (m : Naming) × (t.naming ≡ Some m)
      by None is there = absurd (cc there)
      by (Some m) is there = (m, is)

  -- and it has each object of the header
  object_here : j ≡ 1 → (o : Naming) → t.naming ≡ Some o → (x : ℕ) → HasObject hd x → is_some (at_number x o.objects) ≡ true
  object_here one o is x has = (subst (λ n. KnowsEntries x n d.names) is (entries.live t refl)).there
    where
      entries : IsEntryNode x here
      entries = known.0.1.1 x has here (ap W.nodes (sym one) ∙ node_here M j here)

  -- what is known of its states
  state_now : (k : ℕ) (at_k : IsAt W k c) (x : ℕ) → NowIsSo (so_of (kind_of hd x)) q.now
  state_now k at_k x =
      let f = (known.1.0.0.0.1 x).0 k at_k.node at_k.found in
      let p = subst (UpIsSo (kind_of hd x)) at_k.live f.1 in
      let e = p.coord in
      e.works u q (ap (doing_of u) at_k.same ∙ does)

  -- a call
  module _ (s : Steps) (now : q.now ≡ Calling s) (h : HasCome j W c (want_of_call u s)) where
    abbrev from : ℕ
    from = let p = h.post in p.from

    at_it : IsAt W from c
    at_it = at_of W from c h.coord

    by_u : actor (let a = h.asks in a.head.path) ≡ u
    by_u = ap (λ (z : words.Asked). z.act) (let a = h.asks in a.by)

    last : IsAskedBy (let x = at_it.parts in x.coord) (let p = h.post in p.to) (let a = h.asks in a.head) (let a = h.asks in a.ask)
    last = asked_last hd W known j u c q does from at_it h.post (let a = h.asks in a.head) (let a = h.asks in
        a.ask) h.sent refl (let a = h.asks in a.is) by_u

    its : q ≡ (let x = last in x.doing)
    its = same_doing hd W known j u c q does from at_it h.post (let a = h.asks in a.head) (let a = h.asks in a.ask) by_u last

    of_step : IsOfStep s (let p = h.post in p.to) (let a = h.asks in a.head) (let a = h.asks in a.ask)
    of_step = last.step s (ap (λ (z : Doing). z.now) (sym its) ∙ now) (ap (λ (z : words.Asked). z.req) (let a = h.asks in a.by)
        ∙ subst (IsNumbered q.req) now (number hd W known j u c q does from at_it) ∙ ap (λ (z : Doing). z.req) its)

    asking_call : IsAsking (let x = at_it.parts in x.coord.tree) u s.path
    asking_call = subst (IsBusy (let x = at_it.parts in x.coord.tree) u) now (busy hd W known j u c q does from at_it)

    -- of an object of the header, and an operation of its class
    its_goal : IsOfHeader hd s.x s.goal
    its_goal = let w = known.0.1.0.1 in
        (w.works from at_it.node at_it.parts at_it.found at_it.live).0 u q s (ap (doing_of u) at_it.same ∙ does) now

    object_there : HasObject hd s.x
    object_there = its_goal.0

    -- it is void only where its part doesn't answer
    unserved : IsVoid (taken j d t from (let p = h.post in p.message)) → (a : Ask) → (let x = h.asks in x.ask) ≡ a →
        ask_is_meant t.server a ≡ true → IsVoid (serve j d t from (head_of s) a)
    unserved void_it a is meant = subst (λ (z : Head). IsVoid (serve j d t from z a)) of_step.head
        (subst (λ (z : Ask). IsVoid (serve j d t from (let x = h.asks in x.head) z)) is
        (taken_void j d t from (let p = h.post in p.message) (let x = h.asks in x.head) (let x = h.asks in x.ask) (let x = h.asks in
        x.is) (ap (ask_is_meant t.server) is ∙ meant) void_it))

    -- the state that it takes to a server is of its object
    its_state : (k : Known) (st : ObjectState) → s.at ≡ AtActivate k st → st.uid ≡ object s.x
    its_state k st is = let o = subst (AtIsSo (so_of (kind_of hd s.x)) s.x) is
        (subst (NowIsSo (so_of (kind_of hd s.x))) now (state_now from at_it s.x)) in (o.0).0 ∙ ap object o.1

    -- the copy's class has its operation
    op_meant : (k : Known) (i : ℕ) → s.at ≡ AtInvoke k i →
        copy_has_op (invoked_op s.goal) (at_number s.x (let v = t.server in v.objects)) ≡ true
    op_meant k i is = copy_fits (invoked_op s.goal) s.x (own_class (first_values hd s.x)) t.server
        (let p = (known.1.0.0.0.1 s.x).0 j here (node_here M j here) in let z = p.1 in z.server) (fits s.goal refl its_goal.2)
      where
        binds : KnowsBinds W.sent from (let x = at_it in let y = x.parts in y.coord)
        binds = let b = known.0.1.0.0.1 in b.nodes from at_it.node at_it.parts at_it.found at_it.live

        stands : StandsOn s.goal (kept_of s.x (root_at (root_of s.path) (let x = at_it in let y = x.parts in y.coord))) s.at
        stands = binds.steps u q s (ap (doing_of u) at_it.same ∙ does) now

        fits : (g : Goal) → s.goal ≡ g → FitsGoal hd s.x g → has_op (own_class (first_values hd s.x)) (invoked_op g) ≡ true
        fits (Run o) goal ok = op_fits (own_class (first_values hd s.x)) o (class_at s.x hd) (class_is hd form s.x object_there) ok
        fits (Include n) goal ok = absurd (subst
            (λ z. StandsOn (Include n) (kept_of s.x (root_at (root_of s.path) (let x = at_it in let y = x.parts in y.coord))) z) is (subst
            (λ z. StandsOn z (kept_of s.x (root_at (root_of s.path) (let x = at_it in let y = x.parts in y.coord))) s.at) goal stands))

    -- the server has run no later request of the action
    kept_low : is_below s.req (at_uid (actor s.path) (let v = t.server in v.kept)) ≡ false
    kept_low = by (at_uid (actor s.path) (let v = t.server in v.kept)) refl
      where
        who : actor s.path ≡ u
        who = ap (λ (z : Head). actor z.path) (sym of_step.head) ∙ by_u

        of_server : ServerWasAsked W.sent t.server
        of_server = let w = known.1.0.1 in w.servers j here t (node_here M j here) refl

        by : (o : Option Kept) → at_uid (actor s.path) (let v = t.server in v.kept) ≡ o → is_below s.req o ≡ false
        by None is = refl
        by (Some k) is = not_below s.req k
            (low (keyed_at (λ v (z : Kept). WasAsked W.sent v z.req) (actor s.path) (let v = t.server in v.kept) k of_server.kept is))
          where
            low : WasAsked W.sent (actor s.path) k.req → k.req ≤ s.req
            low w = omega (arith, asked.low, ap (λ (z : Doing). z.req) same, number_is, w.number)
              where
                up_there : IsUp (begun hd W known j u c q does) W.sent W.labels from (let x = at_it in let y = x.node in let z = y.disk in
                    z.inc) (let x = at_it in x.parts)
                up_there = its_up (begun hd W known j u c q does) W (good hd W known j u c q does) from at_it.node at_it.parts at_it.found
                    at_it.live

                its_node : u.node ≡ from
                its_node = eqb-true u.node (let x = at_it in let y = x.parts in y.coord.tree.node) (and_parts (u.node == (let x = at_it in
                    let y = x.parts in y.coord.tree.node)) (u.inc == (let x = at_it in let y = x.parts in y.coord.tree.inc))
                    (own_of u (let x = at_it in let y = x.parts in y.coord) q (ap (doing_of u) at_it.same ∙ does))).0 ∙ up_there.node

                asked : IsAskedBy (let x = at_it in let y = x.parts in y.coord) (let p = w.post in p.to) w.head w.ask
                asked = asked_last hd W known j u c q does from at_it w.post w.head w.ask w.posted (sym (known.1.1.0.1.0 w.post w.head w.ask
                    w.posted w.asking) ∙ ap (λ (v : Uid). v.node) (w.actor_is ∙ who) ∙ its_node) w.asking (w.actor_is ∙ who)

                same : q ≡ asked.doing
                same = same_doing hd W known j u c q does from at_it w.post w.head w.ask (w.actor_is ∙ who) asked

                number_is : s.req ≡ q.req
                number_is = subst (IsNumbered q.req) now (number hd W known j u c q does from at_it)

    -- a server has a copy under a later binding only where a line said that it was made
    overtaken : (k : Known) (st : ObjectState) → s.at ≡ AtActivate k st →
        binding_less k.binding (active_binding (let u = st.uid in u.num) t.server) ≡ true → IsOvertaken (IsSaid M.lines) s
    overtaken k st is = by (at_number st.uid.num (let v = t.server in v.objects)) refl
      where
        of_server : ServerWasAsked W.sent t.server
        of_server = let w = known.1.0.1 in w.servers j here t (node_here M j here) refl

        by : (o : Option Copy) → at_number st.uid.num (let v = t.server in v.objects) ≡ o → binding_less k.binding (binding_of o) ≡ true →
            IsOvertaken (IsSaid M.lines) s
        by None none less = absurd (nothing_less k.binding less)
        by (Some y) there less = record {
          known = k;
          step = subst (λ z. IsToSettle z k) (sym is) refl;
          binding = y.binding;
          server = named.1.server;
          line = subst (λ x. IsSaid M.lines (body.Bound x y.binding named.1.server)) x_is named.1.claim.0;
          greater = less;
        }
          where
            brought : WasBrought W.sent st.uid.num y.binding
            brought = keyed_found (λ x (z : Copy). WasBrought W.sent x z.binding) st.uid.num (let v = t.server in
                v.objects) y of_server.copies there

            named : ActivateNamed W.sent (WasMade W) brought.head y.binding brought.state
            named = let w = known.1.0.1 in w.activates brought.post brought.head y.binding brought.state brought.posted brought.asking

            x_is : (let z = brought.state in z.uid.num) ≡ s.x
            x_is = brought.object_is ∙ ap (λ (z : Uid). z.num) (its_state k st is)

    -- naming records a binding of its incarnation, where it made no later one for the top
    unrecorded : (k : Known) (i : ℕ) → s.at ≡ AtNote k i → j ≡ 1 → (o : Naming) (v : Named) → t.naming ≡ Some o →
        at_number s.x o.objects ≡ Some v → (k.grant == o.inc) ≡ true →
        is_some (note_named s.x (top_of s.path) k.binding i v).reply ≡ false → IsOvertaken (IsSaid M.lines) s
    unrecorded k i is one o v naming_is at_v ours none =
        ⊎_elim (λ told. absurd (never (over told) (untold_naming_here from at_it s.path asking_call o naming_is))) made stands
      where
        of_step_named : WasNamed W.sent (WasMade W) s.path s.x k.binding k.grant
        of_step_named = subst (NamedAt W.sent (WasMade W) s.goal s.path s.x) is (let w = known.1.0.1 in
            w.steps from at_it.node at_it.parts at_it.found at_it.live u q s (ap (doing_of u) at_it.same ∙ does) now)

        stands : StandsIn o (top_of s.path) s.x k.binding
        stands = let z = of_step_named.claim.1 here (ap W.nodes (sym one) ∙ node_here M j here) in
            z.stands t o refl naming_is (eqb-true k.grant o.inc ours)

        asker : IsAsker (begun hd W known j u c q does) s.path
        asker = let a = asking_call in let g = its_coord (begun hd W known j u c q does) W (good hd W known j u c q does) from at_it.node
            at_it.parts at_it.found at_it.live in (action_of a.branch, g.known u a.branch a.found, a.path, a.unserial)

        over : is_on o.told (top_of s.path) ≡ true → is_over s.path o ≡ true
        over told = over_one (λ w. is_on o.told w) (top_path s.path) (top_of s.path)
            (top_among (begun hd W known j u c q does) (let g = good hd W known j u c q does in g.begun) s.path asker) told

        made : HasMade o.objects (top_of s.path) s.x k.binding → IsOvertaken (IsSaid M.lines) s
        made w = record {
          known = k;
          step = subst (λ z. IsToSettle z k) (sym is) refl;
          binding = w.made.binding;
          server = w.made.server;
          line = line;
          greater = unequal (binding_number k.binding) (binding_number w.made.binding) w.above other;
        }
          where
            same : v ≡ w.named
            same = some_is (sym at_v ∙ w.there)

            line : IsSaid M.lines (body.Bound s.x w.made.binding w.made.server)
            line = all_at_uid (λ (z : Made). IsSaid M.lines (body.Bound s.x z.binding z.server)) (top_of s.path) w.made w.named.made
                (keyed_found (NamedWasSaid (IsSaid M.lines)) s.x o.objects w.named (subst (MadeWasSaid (IsSaid M.lines)) naming_is
                (let z = known.1.0.1 in z.namings j here t (node_here M j here) refl)) w.there) w.of

            other : (binding_number k.binding == binding_number w.made.binding) ≡ false
            other = not_noted s.x (top_of s.path) k.binding i v w.made (ap (λ (z : Named). at_uid (top_of s.path) z.made) same ∙ w.of) none

            unequal : (a b : ℕ) → a ≤ b → (a == b) ≡ false → nat_lt a b ≡ true
            unequal a b le apart = grind (arith, nat_tests, le, apart)

    call_given : ((k : Known) (n : ℕ) (later : List ℕ) → s.at ≡ AtLoad k n later → HasStored d s.x) →
        IsVoid (taken j d t from (let p = h.post in p.message)) → IsOvertaken (IsSaid M.lines) s
    call_given left void_it = by s.at refl
      where
        same_ask : (a : Ask) → is_invoke_ask a ≡ false → next_ask [] s ≡ a → (let x = h.asks in x.ask) ≡ a
        same_ask a plain is = same_bare (let x = h.asks in x.ask) a plain (of_step.same ∙ is)

        by : (at : At) → s.at ≡ at → IsOvertaken (IsSaid M.lines) s
        by (AtBind avoid) is = let one = sym h.node ∙ ap node_at is in let o = naming_here one in
            absurd (bind_answers j d t from (head_of s) s.x (is_include s.goal) avoid o.0 o.1
            (untold_naming_here from at_it s.path asking_call o.0 o.1) (object_here one o.0 o.1 s.x object_there)
            (unserved void_it (ask.Bind s.x (is_include s.goal) avoid)
            (same_ask (ask.Bind s.x (is_include s.goal) avoid) refl (ap (ask_at s.x s.goal []) is)) refl))
        by (AtLoad k n rest) is = absurd (load_answers j d t from (head_of s) s.x (left k n rest is)
            (unserved void_it (ask.Load s.x) (same_ask (ask.Load s.x) refl (ap (ask_at s.x s.goal []) is)) refl))
        by (AtActivate k st) is =
            activate_answers j d t from (head_of s) k.binding st (untold_server_here from at_it s.path asking_call) (overtaken k st is)
            (unserved void_it (ask.Activate k.binding st) (same_ask (ask.Activate k.binding st) refl (ap (ask_at s.x s.goal []) is))
            (object_is hd form s.x object_there st.uid (its_state k st is)))
        by (AtNote k i) is = let one = sym h.node ∙ ap node_at is in let o = naming_here one in
            record_answers j d t from (head_of s) s.x k.binding i k.grant o.0 o.1 (untold_naming_here from at_it s.path asking_call o.0 o.1)
            (object_here one o.0 o.1 s.x object_there) (λ v at_v ours none. unrecorded k i is one o.0 v o.1 at_v ours none)
            (unserved void_it (ask.Record s.x k.binding i k.grant)
            (same_ask (ask.Record s.x k.binding i k.grant) refl (ap (ask_at s.x s.goal []) is)) refl)
        by (AtInvoke k i) is = let e = same_invoke (let x = h.asks in
            x.ask) s.x k.binding i (invoked_op s.goal) (of_step.same ∙ ap (ask_at s.x s.goal []) is) in
            absurd (invoke_answers j d t from (head_of s) s.x k.binding i e.0 (invoked_op s.goal) (untold_server_here from at_it s.path
            asking_call) kept_low (unserved void_it (ask.Invoke s.x k.binding i e.0 (invoked_op s.goal)) e.1 (op_meant k i is)))

  -- a commit
  module _ (m : Machine) (n : ℕ) (now : q.now ≡ Committing m) (waits : has (left_of m) n ≡ true)
      (h : HasCome j W c (want_of_commit u m n)) where
    abbrev from_it : ℕ
    from_it = let p = h.post in p.from

    at_its : IsAt W from_it c
    at_its = at_of W from_it c h.coord

    by_its : actor (let a = h.asks in a.head.path) ≡ u
    by_its = ap (λ (z : words.Asked). z.act) (let a = h.asks in a.by)

    last_its : IsAskedBy (let x = at_its.parts in x.coord) (let p = h.post in p.to) (let a = h.asks in a.head) (let a = h.asks in a.ask)
    last_its = asked_last hd W known j u c q does from_it at_its h.post (let a = h.asks in a.head) (let a = h.asks in
        a.ask) h.sent refl (let a = h.asks in a.is) by_its

    same_its : q ≡ (let x = last_its in x.doing)
    same_its = same_doing hd W known j u c q does from_it at_its h.post (let a = h.asks in a.head) (let a = h.asks in a.ask) by_its last_its

    of_commit :
        ((let a = h.asks in a.head.path) ≡ (let p = plan_of m in p.path)) × ((let a = h.asks in a.ask) ≡ ask_of m (let p = h.post in p.to))
    of_commit = last_its.commit m (ap (λ (z : Doing). z.now) (sym same_its) ∙ now) (ap (λ (z : words.Asked). z.req) (let a = h.asks in a.by)
        ∙ (subst (IsNumbered q.req) now (number hd W known j u c q does from_it at_its)).0 ∙ ap (λ (z : Doing). z.req) same_its)

    asking_commit : IsAsking (let x = at_its.parts in x.coord.tree) u (let a = h.asks in a.head.path)
    asking_commit = let v = subst (IsBusy (let x = at_its.parts in x.coord.tree) u) now (busy hd W known j u c q does from_it at_its) in
        subst (IsAsking (let x = at_its.parts in x.coord.tree) u) (sym of_commit.0) v.asking

    its_ask : (let a = h.asks in a.ask) ≡ ask_of m n
    its_ask = of_commit.1 ∙ ap (ask_of m) (h.to ∙ sym h.node)

    unserved_commit : IsVoid (taken j d t from_it (let p = h.post in p.message)) → (a : Ask) → ask_of m n ≡ a →
        ask_is_meant t.server a ≡ true → IsVoid (serve j d t from_it (let x = h.asks in x.head) a)
    unserved_commit void_it a is meant = subst (λ (z : Ask). IsVoid (serve j d t from_it (let x = h.asks in x.head) z)) (its_ask ∙ is)
        (taken_void j d t from_it (let p = h.post in p.message) (let x = h.asks in x.head) (let x = h.asks in x.ask) (let x = h.asks in
        x.is) (ap (ask_is_meant t.server) (its_ask ∙ is) ∙ meant) void_it)

    -- its plan uses objects of the header
    of_header : AllByRecursion (λ (w : Used). HasObject hd w.x) (plan_of m).used
    of_header = all_each (λ (w : Used). IsUsedIn (let x = at_its in let y = x.parts in y.coord.tree) (root_of (plan_of m).path).num w.x)
        (λ (w : Used). HasObject hd w.x) (plan_of m).used
        (λ w used. used_is (HasObject hd) (let x = at_its in let y = x.parts in y.coord.tree) asks (root_of (plan_of m).path).num w.x used)
        (subst (IsNowOf (let x = at_its in let y = x.parts in y.coord.tree)) now (knows.works u q (ap (doing_of u) at_its.same ∙ does)))
      where
        asks : UsesOf (HasObject hd) (let x = at_its in let y = x.parts in y.coord.tree)
        asks = let w = known.0.1.0.1 in (w.works from_it at_its.node at_its.parts at_its.found at_its.live).1

        knows : KnowsObjects (let x = at_its in let y = x.parts in y.coord)
        knows = let v = its_up (begun hd W known j u c q does) W (good hd W known j u c q does) from_it at_its.node at_its.parts
            at_its.found at_its.live in v.objects

    states_meant : are_of_objects (states_for n (plan_of m)) ≡ true
    states_meant = are_objects n (plan_of m) (HasObject hd) (object_is hd form) (plan_of m).used
        (all_send n (plan_of m) (plan_of m).used (all_each (λ (w : Used). IfSome w.loaded (OwnOf (stored (kind_of hd 0)) w.x))
        (λ (w : Used). IfSome w.loaded (λ st. st.uid ≡ object w.x)) (plan_of m).used (λ w its. plain w w.loaded its)
        (let p = subst (NowIsSo (so_of (kind_of hd 0))) now (state_now from_it at_its 0) in p.used)))
        of_header (subst (IsNumbered q.req) now (number hd W known j u c q does from_it at_its)).1.0
      where
        plain : (w : Used) (o : Option ObjectState) → IfSome o (OwnOf (stored (kind_of hd 0)) w.x) → IfSome o (λ st. st.uid ≡ object w.x)
        plain w None own = tt
        plain w (Some st) own = (own.0).0 ∙ ap object own.1

    -- the store has committed none of its states
    untaken : (states : List ObjectState) (w : Uid) → prepare_answer (actor (let a = h.asks in a.head.path)) states d.store ≢ Already w
    untaken states w is =
        let z = already_written (actor (let a = h.asks in a.head.path)) d.store states w is in
        uncommitted (begun hd W known j u c q does) W (good hd W known j u c q does)
        (past hd W known j u c q does) known.1.1.1.0.1 known.1.1.1.1 from_it
        at_its.node at_its.parts at_its.found at_its.live u q (ap (doing_of u) at_its.same ∙ does)
        (let a = h.asks in a.head.path) by_its asking_commit j here (node_here M j here) z.0 z.1 z.2 (z.3 ∙ by_its)

    commit_given : IsVoid (taken j d t from_it (let p = h.post in p.message)) → ⊥
    commit_given void_it = by m refl of_commit.0
      where
        by : (x : Machine) → m ≡ x → (let a = h.asks in a.head.path) ≡ (let p = plan_of m in p.path) → ⊥
        by (Voting p nodes) is path = vote_answers j d t from_it (let x = h.asks in x.head) _ _ p.ends (untold_server_here from_it at_its
            (let a = h.asks in a.head.path) asking_commit) (unserved_commit void_it (vote_ask p n) (ap (λ x. ask_of x n) is) refl)
        by (Preparing p nodes) is path =
            prepare_answers j d t from_it (let x = h.asks in x.head) (states_for n p) (λ w already. untaken (states_for n p) w already)
            (unserved_commit void_it (ask.Prepare (states_for n p)) (ap (λ x. ask_of x n) is)
            (subst (λ x. are_of_objects (states_for n (plan_of x)) ≡ true) is states_meant))
        by (Confirming p) is path = let one = sym h.node ∙ only n (ap (λ x. has (left_of x) n) (sym is) ∙ waits) in
            let o = naming_here one in
            confirm_answers j d t from_it (let x = h.asks in x.head) (map {A = Used} {B = ℕ × ℕ} (λ z. (z.x, z.grant)) p.used) p.excluded
            (included_of p) o.0 o.1 (untold_naming_here from_it at_its (let a = h.asks in a.head.path) asking_commit o.0 o.1) (has_each
            o.0 p.used (subst (λ (x : Machine). AllByRecursion (λ (w : Used). is_some (at_number w.x (let y = o.0 in y.objects)) ≡ true)
            (let y = plan_of x in y.used)) is (all_each (λ (w : Used). HasObject hd w.x) (λ (w : Used). is_some
            (at_number w.x (let y = o.0 in y.objects)) ≡ true) (plan_of m).used (λ w has. object_here one o.0 o.1 w.x has) of_header)))
            (unserved_commit void_it (confirm_ask p) (ap (λ x. ask_of x n) is) (stand_in_order p.used (subst (λ (x : Machine). AreOnce
            (let y = plan_of x in y.used)) is (subst (IsNumbered q.req) now (number hd W known j u c q does from_it at_its)).1.0)))
          where
            only : (n : ℕ) → has (1 ∷ []) n ≡ true → n ≡ 1
            only n is = ⊎_elim (λ one. sym (eqb-true 1 n one)) (λ no. absurd (cc no)) (or_cases (1 == n) false is)

-- ---- answers

module _ (hd : Header) (j : ℕ) (d : Disk) (t : Parts) (M : Seen) (known : WaitsAreKnown hd (up j d t M)) (p : Post) (a : words.Asked)
    (q : Doing) (s : Steps) (sent : In p M.sent) (to : p.to ≡ j) (does : doing_of a.act t.coord ≡ Some q) (now : q.now ≡ Calling s) where
  -- an answer for which a call waits can be meant
  pub answer_meant : (r : Reply) → answers p.message ≡ Some (a, r) → waits_for_call p.from a r s ≡ true → reply_is_meant t.coord a r ≡ true
  answer_meant (Reply.Loaded (loaded.State st)) is waits =
      ap (is_loaded_for st) does ∙ ap (is_loaded_in st) now ∙ (λ i. uid_eq (same i) (object s.x)) ∙ uid_same (object s.x)
    where
      there : IsAt (up j d t M) j t.coord
      there = record {
        node = record { number = j; disk = d; live = Some t };
        parts = t;
        found = node_here M j (record { number = j; disk = d; live = Some t });
        live = refl;
        same = refl;
      }

      asked : ReplyWasAsked M.sent (WasMade (up j d t M)) p a (Reply.Loaded (loaded.State st))
      asked = let w = known.1.0.1 in w.replies p a (Reply.Loaded (loaded.State st)) sent is

      h : Head
      h = asked.0

      who : actor h.path ≡ a.act
      who = ap (λ (z : words.Asked). z.act) asked.2.asker

      last : IsAskedBy t.coord (let y = asked.2.post in y.to) h (ask.Load asked.1)
      last = asked_last hd (up j d t M) known j a.act t.coord q does j there asked.2.post h (ask.Load asked.1) asked.2.posted
          (asked.2.from ∙ to) asked.2.asking who

      its : q ≡ last.doing
      its = same_doing hd (up j d t M) known j a.act t.coord q does j there asked.2.post h (ask.Load asked.1) who last

      of_step : IsOfStep s (let y = asked.2.post in y.to) h (ask.Load asked.1)
      of_step = last.step s (ap (λ (z : Doing). z.now) (sym its) ∙ now)
          (ap (λ (z : words.Asked). z.req) asked.2.asker ∙ sym (waits_req p.from a (Reply.Loaded (loaded.State st)) s waits)
          ∙ subst (IsNumbered q.req) now (number hd (up j d t M) known j a.act t.coord q does j there) ∙ ap (λ (z : Doing). z.req) its)

      same : st.uid ≡ object s.x
      same = asked.3 ∙ ap object (loads_own s.x asked.1 s.goal s.at of_step.same)
  answer_meant (Reply.Loaded (loaded.InDoubt holder)) is waits = refl
  answer_meant (Reply.Bound r) is waits = refl
  answer_meant (Reply.Activated i) is waits = refl
  answer_meant (Reply.Noted r) is waits = refl
  answer_meant (Reply.Invoked r) is waits = refl
  answer_meant (Reply.Voted r) is waits = refl
  answer_meant (Reply.Prepared r) is waits = refl
  answer_meant (Reply.Confirmed r) is waits = refl

-- so it is with any relation by which so much is known
pub known_give_by : (hd : Header) → HeaderFits hd → (P : Seen → Type 0) → ((M : Seen) → P M → WaitsAreKnown hd M) → LoadsFind P →
    AnswersWaits hd P
known_give_by hd form P to rest = record {
  within = λ M p r sent. let k = (to M r).0.0.1 in let so = k.1 in let z = so.1 p sent in z.1;
  calls = λ j d t M c u q s r does now h void_it. call_given hd form j d t M (to (up j d t M) r) c u q does s now h
      (λ k n later is. rest j d t M c u q s k n later r does now is h) void_it;
  meant = λ j d t M p a x q s r sent at is does now waits. answer_meant hd j d t M (to (up j d t M) r) p a q s sent at does now x is waits;
  commits =
      λ j d t M c u q m n r does now left h void_it. commit_given hd form j d t M (to (up j d t M) r) c u q does m n now left h void_it;
}

pub known_give : KnownGive
known_give hd form test rest = known_give_by hd form (λ M. WaitsAreKnown hd M × (test M ≡ true)) (λ M r. r.0) rest
