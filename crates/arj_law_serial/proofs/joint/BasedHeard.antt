-- An answer that a coordinator takes is so as to states: what a store gave is known, and what a server voted was voted so.
use Rattle.arj_law_parts.proofs.Words
use Words.{◌≡◌, ◌∙◌, ◌==◌, ◌&&◌, ℕ, List, [], ◌∷◌, Bool, true, false, cond, filter, map, Option, None, Some, refl, sym, ap, subst, inl, inr}
use Words.{Contains, eqb-true, AllByRecursion, and_parts, in_find, in_to, Asked, Binding, Message, ObjectState, object, Reply, actor}
use Words.{answers, ask_kind, reply_kind, heard_by, heard_call, heard_doing, heard_none, heard_now, moved_commit, waits_for_call}
use Words.{waits_for_commit, At, AtActivate, AtBind, AtInvoke, AtLoad, AtNote, Steps, ask_at, next_ask, next_node, Confirming, Machine}
use Words.{Plan, Preparing, Used, Voting, ask_of, is_at_server, left_of, plan_of, Calling, Committing, Doing, Idle, Now, doing_of, Disk}
use Words.{Effect, Parts, Took, coord_heard, handle, has, is_own, Post, Seen}
use Words.list
use Words.loaded
use Words.voted
use Words.commit
use Rattle.arj_law_serial.proofs.Terms
use Terms.{doing_by, VotesAreUsed, World, AnsweredIsSo, Own, ReplyIsSo, IsAskedBy, KnowsRequests, State, Fixed, handled_answer, response_is}
use Terms.{In, up, AreBased, IsVotedState, IsYesBased, coord_fits, post_fits}
use Rattle.arj_law_lock.proofs.machine.Paths.{number_self}
use Rattle.arj_law_lock_view.proofs.view.ReplySteps.{tied_in}

-- no step of a call asks for a vote
no_vote : (s : Steps) → (6 == ask_kind (next_ask [] s)) ≡ true → ⊥
no_vote s = by s.at
  where
    by : (at : At) → (6 == ask_kind (ask_at s.x s.goal [] at)) ≡ true → ⊥
    by (AtBind avoid) e = cc e
    by (AtLoad k q rest) e = cc e
    by (AtActivate k st) e = cc e
    by (AtNote k i) e = cc e
    by (AtInvoke k i) e = cc e

module _ (f : Fixed) (x k : ℕ) (S : State) (W : World) (d : Disk) (t v : Parts) (outs : List Effect) (M : Seen)
    (are : AreBased f x S W (up k d t M)) (from : ℕ) (m : Message) (a : Asked)
    (posted : In (record { from = from; to = k; message = m }) M.sent) (took : handle k d t from m ≡ Took v outs)
    (requests : KnowsRequests M.sent k t.coord) (used : VotesAreUsed k t (up k d t M)) (numbered : (q : Doing) (y : Machine) →
    doing_of a.act t.coord ≡ Some q → q.now ≡ Committing y → (plan_of y).req ≡ q.req) where
  abbrev post : Post
  post = record { from = from; to = k; message = m }

  module _ (states : List ObjectState) (answering : answers m ≡ Some (a, Reply.Voted (voted.Yes states))) where
    abbrev r : Reply
    r = Reply.Voted (voted.Yes states)

    taken : coord_heard t (heard_doing from a r d.intents t.coord (doing_of a.act t.coord)) ≡ Took v outs
    taken = sym (handled_answer k d t from a r)
        ∙ subst (λ (z : Message). handle k d t from z ≡ Took v outs) (response_is m (a, r) answering) took

    -- it was waited for
    abbrev Waits : Type 0
    Waits = (q : Doing) × (p : Plan) × (left : List ℕ) × (doing_of a.act t.coord ≡ Some q) × (q.now ≡ Committing (Voting p left))
        × (p.req ≡ a.req)

    waited : Waits
    waited = by (doing_of a.act t.coord) refl taken
      where
        commits : (q : Doing) → doing_of a.act t.coord ≡ Some q → (y : Machine) → q.now ≡ Committing y → ((plan_of y).req == a.req) ≡ true →
            (6 == ask_kind (ask_of y from)) ≡ true → Waits
        commits q does (Voting p left) now number kind = (q, p, left, does, now, eqb-true p.req a.req number)
        commits q does (Preparing p left) now number kind = absurd (cc kind)
        commits q does (Confirming p) now number kind = absurd (cc kind)

        calling : (s : Steps) (b : Bool) → waits_for_call from a r s ≡ b →
            coord_heard t (cond b (heard_by (heard_call s r t.coord)) (heard_none t.coord)) ≡ Took v outs → ⊥
        calling s false waits e = cc e
        calling s true waits e =
            let one = and_parts (s.req == a.req) ((reply_kind r == ask_kind (next_ask [] s)) && (next_node s == from)) waits in
            no_vote s (and_parts (reply_kind r == ask_kind (next_ask [] s)) (next_node s == from) one.1).0

        committing : (q : Doing) → doing_of a.act t.coord ≡ Some q → (y : Machine) → q.now ≡ Committing y → (b : Bool) →
            waits_for_commit from a r y ≡ b → coord_heard t
            (cond b (heard_by (moved_commit a.act (commit.answered from y r) d.intents t.coord)) (heard_none t.coord)) ≡ Took v outs → Waits
        committing q does y now false waits e = absurd (cc e)
        committing q does y now true waits e =
            let one = and_parts ((plan_of y).req == a.req) ((reply_kind r == ask_kind (ask_of y from)) && has (left_of y) from) waits in
            commits q does y now one.0 (and_parts (reply_kind r == ask_kind (ask_of y from)) (has (left_of y) from) one.1).0

        by_now : (q : Doing) → doing_of a.act t.coord ≡ Some q → (n : Now) → q.now ≡ n →
            coord_heard t (heard_now from a r d.intents t.coord n) ≡ Took v outs → Waits
        by_now q does Idle now e = absurd (cc e)
        by_now q does (Calling s) now e = absurd (calling s (waits_for_call from a r s) refl e)
        by_now q does (Committing y) now e = committing q does y now (waits_for_commit from a r y) refl e

        by : (o : Option Doing) → doing_of a.act t.coord ≡ o → coord_heard t (heard_doing from a r d.intents t.coord o) ≡ Took v outs →
            Waits
        by None does e = absurd (cc e)
        by (Some q) does e = by_now q does q.now refl e

    yes : IsYesBased x (IsVotedState f x S W) M.sent post a states
    yes = are.yeses post a states posted answering

    one_state : (st : ObjectState) → Contains states st → list.In st states → st.uid ≡ object x → IsVotedState f x S W st
    one_state st there i of =
        let q = waited.0 in
        let p = waited.1 in
        let left = waited.2 in
        let does = waited.3 in
        let now = waited.4 in
        let u = used from m a states posted answering q (Voting p left) does now st i in
        let g = in_find (λ (w : Used). w.x == (let z = st.uid in z.num)) u.0 p.used u.1 in
        let about : (let w = u.0 in w.x) ≡ x = eqb-true (let w = u.0 in w.x) (let z = st.uid in z.num) g.1 ∙ ap (λ z. z.num) of in
        let here : is_at_server from u.0 ≡ true = (λ j. u.3 j && (u.2 j == from)) ∙ number_self from in
        let tie = tied_in from u.0 p.used g.0 here in
        let ties : List (ℕ × Binding) = map {A = Used} {B = ℕ × Binding} (λ w. (w.x, w.binding)) (filter (is_at_server from) p.used) in
        let y = yes in
        let acts : actor (let h = y.head in h.path) ≡ a.act = ap (λ (z : Asked). z.act) y.of in
        let was : IsAskedBy t.coord (let z = y.request in z.to) y.head y.ask = requests y.request y.head y.ask y.asked y.from y.is
        (ap (λ w. is_own w (let c = t.coord in c.tree)) acts ∙ (doing_by a.act t.coord q does).0) in
        let same : was.doing ≡ q = let two : ◌≡◌ {A = Option Doing} (Some was.doing) (Some q) = sym was.found
        ∙ ap (λ w. doing_of w t.coord) acts ∙ does in cc two in
        let number : (let h = y.head in h.req) ≡ (let w = was.doing in w.req) = ap (λ (z : Asked). z.req) y.of ∙ sym waited.5
        ∙ numbered q (Voting p left) does now ∙ ap (λ (z : Doing). z.req) (sym same) in
        let c = was.commit (Voting p left) (ap (λ (z : Doing). z.now) same ∙ now) number in
        let is_ask : y.ask ≡ ask_of (Voting p left) from = c.1 ∙ ap (ask_of (Voting p left)) y.to in
        y.over _ ties p.ends (let w = u.0 in w.binding) st is_ask (in_to {X = ℕ × Binding} (x, (let w = u.0 in w.binding)) ties
        (subst (λ (n : ℕ). list.In {X = ℕ × Binding} (n, (let w = u.0 in w.binding)) ties) about tie)) there of

    all_states : (zs : List ObjectState) → ((st : ObjectState) → list.In st zs → list.In st states) →
        AllByRecursion (Own (let q = coord_fits f x S W in q.voted)) zs
    all_states [] among = tt
    all_states (st ∷ zs) among =
        ((λ of. one_state st (in_to st states (among st (inl refl))) (among st (inl refl)) of), all_states zs (λ z i. among z (inr i)))

  pub hears_so : (r : Reply) → answers m ≡ Some (a, r) → ReplyIsSo (coord_fits f x S W) r
  hears_so (Reply.Voted (voted.Yes states)) is = all_states states is states (λ st i. i)
  hears_so (Reply.Voted (voted.Changed w)) is = tt
  hears_so (Reply.Loaded (loaded.State st)) is = subst (AnsweredIsSo (post_fits x W)) is (are.posts post posted).1
  hears_so (Reply.Loaded _) is = tt
  hears_so (Reply.Bound r) is = tt
  hears_so (Reply.Activated r) is = tt
  hears_so (Reply.Noted r) is = tt
  hears_so (Reply.Invoked r) is = tt
  hears_so (Reply.Prepared r) is = tt
  hears_so (Reply.Confirmed r) is = tt
