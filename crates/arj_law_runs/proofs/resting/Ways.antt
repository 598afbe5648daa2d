-- What answers whoever waits stays under way, while a message is handled.
use Rattle.arj_law_parts.proofs.Words
use Words.{◌≡◌, ◌≢◌, ◌⊎◌, ◌∙◌, ℕ, Bool, true, false, List, [], refl, sym, ap, subst, inl, inr, ⊎_elim, Option, Some, None, eqb-true, arith}
use Words.{◌&&◌, ◌==◌, if◌then◌else◌, nat_tests, uid_cases, In, Ask, Asked, Body, Head, Message, Uid, asks, Reply, answers, ask_kind}
use Words.{asked_by, reply_kind, response, waits_for_call, waits_for_commit, Steps, next_ask, next_node, Machine, ask_of, left_of, plan_of}
use Words.{Calling, Committing, Coord, Doing, doing_of, Effect, Send, has, Post, IsOvertaken}
use Rattle.arj_law_runs.proofs.Terms.{AreBrought, Asking, AsksFor, HasWay, Want, want_of_call, want_of_commit}
use Rattle.arj_law_runs.proofs.{coordinators.CoordUses.some_is, resting.Serving.answers_response, resting.Serving.asks_no_answer}
use Rattle.arj_law_runs.proofs.resting.Hearing.{AsksIn, Goes, IsUnasked, Moves, Waited}
use Rattle.arj_law_runs.specs.resting.Waits.{Answering, Brings, asked_for}

-- the coordinator of one node is this one
abbrev pub put : ℕ → Coord → (ℕ → Option Coord) → ℕ → Option Coord
put n c cs k = if k == n then Some c else cs k

abbrev pub post_of : ℕ → ℕ → Message → Post
post_of from to m = record { from = from; to = to; message = m }

-- these effects of node n send it
abbrev pub SentBy : ℕ → List Effect → Post → Type 0
SentBy n outs p = (p.from ≡ n) × In (Send p.to p.message) outs

-- what is under way, and what these effects send
abbrev pub Then : (Post → Type 0) → ℕ → List Effect → Post → Type 0
Then G n outs q = G q ⊎ SentBy n outs q

-- all but this one is still under way
abbrev pub AllBut : Post → (Post → Type 0) → (Post → Type 0) → Type 0
AllBut p F G = (q : Post) → F q → (q ≡ p) ⊎ G q

no_way : {P : Type 0} {b : Bool} → b ≡ true → b ≡ false → P
no_way holds fails = let never : true ≡ false = sym holds ∙ fails in absurd (cc never)

same_test : (a b : ℕ) → a ≡ b → (a == b) ≡ true
same_test a b is = grind (arith, nat_tests)

apart_test : (a b : ℕ) → (a == b) ≡ false → a ≢ b
apart_test a b is = grind (arith, nat_tests)

all_three : {a b c : Bool} → a ≡ true → b ≡ true → c ≡ true → (a && (b && c)) ≡ true
all_three x y z = rw x (rw y z)

module _ (nodes : ℕ → Type 0) where
  -- ways lead on
  pub brought_to : (cs : ℕ → Option Coord) (F U : Post → Type 0) (B D : Body → Type 0) →
      ((k : ℕ) (w : Want) → HasWay F k w → HasWay U k w) → ((b : Body) → B b → D b) → AreBrought nodes cs F B → AreBrought nodes cs U D
  brought_to cs F U B D on said a = record {
    calls = λ k c u q s there found does is. ⊎_elim (λ o.
        inl (record { known = o.known; step = o.step; binding = o.binding; server = o.server; line = said _ o.line; greater = o.greater }))
        (λ w. inr (on k (want_of_call u s) w)) (a.calls k c u q s there found does is);
    commits = λ k c u q m n there found does is left. on k (want_of_commit u m n) (a.commits k c u q m n there found does is left);
  }

  -- the same coordinators
  pub brought_of : (cs ds : ℕ → Option Coord) (F : Post → Type 0) (B : Body → Type 0) → ((k : ℕ) → ds k ≡ cs k) → AreBrought nodes cs F B →
      AreBrought nodes ds F B
  brought_of cs ds F B same a = record {
    calls = λ k c u q s there found. a.calls k c u q s there (sym (same k) ∙ found);
    commits = λ k c u q m n there found. a.commits k c u q m n there (sym (same k) ∙ found);
  }

  -- more is under way, and more was said
  pub brought_more : (cs : ℕ → Option Coord) (F U : Post → Type 0) (B D : Body → Type 0) → ((q : Post) → F q → U q) →
      ((b : Body) → B b → D b) → AreBrought nodes cs F B → AreBrought nodes cs U D
  brought_more cs F U B D on said a =
      brought_to cs F U B D (λ k w h. record { post = h.post; under_way = on h.post h.under_way; brings = h.brings }) said a

  -- a node that has its coordinator
  pub put_same : (n : ℕ) (c : Coord) (cs : ℕ → Option Coord) → cs n ≡ Some c → (k : ℕ) → put n c cs k ≡ cs k
  put_same n c cs is k = by (k == n) refl
    where
      by : (b : Bool) → (k == n) ≡ b → (if b then Some c else cs k) ≡ cs k
      by true same = sym is ∙ ap cs (sym (eqb-true k n same))
      by false apart = refl

  -- ---- requests

  module _ (cs : ℕ → Option Coord) (n from : ℕ) (m : Message) (F G : Post → Type 0) (B : Body →
      Type 0) (less : AllBut (post_of from n m) F G) where
    -- what was asked is what is answered
    asked_way : (h : Head) (a : Ask) → asks m ≡ Some (h, a) → (k : ℕ) (w : Want) → Brings k w (post_of from n m) →
        (from ≡ k) × (n ≡ w.node) × (asked_by h ≡ asked_for w) × (ask_kind a ≡ w.kind)
    asked_way h a is k w (Asking f t q) =
        let same : ◌≡◌ {A = Head × Ask} (h, a) (q.head, q.ask) = some_is (h, a) (q.head, q.ask) (sym is ∙ q.is) in
        (f, t, ap (λ (x : Head × Ask). asked_by x.0) same ∙ q.by, ap (λ (x : Head × Ask). ask_kind x.1) same ∙ q.kind)
    asked_way h a is k w (Answering f t q) = absurd (cc (sym (asks_no_answer m h a is) ∙ q.is))

    -- it is answered
    pub request_stays : (h : Head) (a : Ask) (outs : List Effect) (r : Reply) → asks m ≡ Some (h, a) → In (Send from
        (response (asked_by h) r)) outs → reply_kind r ≡ ask_kind a → AreBrought nodes cs F B → AreBrought nodes cs (Then G n outs) B
    request_stays h a outs r is sent kind brought = brought_to cs F (Then G n outs) B B on (λ b h. h) brought
      where
        on : (k : ℕ) (w : Want) → HasWay F k w → HasWay (Then G n outs) k w
        on k w way =
            ⊎_elim here (λ there. record { post = way.post; under_way = inl there; brings = way.brings }) (less way.post way.under_way)
          where
            here : way.post ≡ post_of from n m → HasWay (Then G n outs) k w
            here same =
                let q = asked_way h a is k w (subst (Brings k w) same way.brings) in
                record {
                  post = post_of n from (response (asked_by h) r);
                  under_way = inr (refl, sent);
                  brings = Answering q.1 q.0
                      (record { reply = r; is = answers_response (asked_by h) r ∙ ap (λ x. Some (x, r)) q.2; kind = kind ∙ q.3 });
                }

    -- it is void, but nobody waits for it who isn't overtaken
    pub void_stays : (h : Head) (a : Ask) → asks m ≡ Some (h, a)
        → ((c : Coord) (u : Uid) (q : Doing) (s : Steps) → nodes from → cs from ≡ Some c → doing_of u c ≡ Some q → q.now ≡ Calling s →
        next_node s ≡ n → AsksFor (want_of_call u s) m → IsOvertaken B s)
        → ((c : Coord) (u : Uid) (q : Doing) (x : Machine) → nodes from → cs from ≡ Some c → doing_of u c ≡ Some q →
        q.now ≡ Committing x → has (left_of x) n ≡ true → AsksFor (want_of_commit u x n) m → ⊥)
        → AreBrought nodes cs F B → AreBrought nodes cs G B
    void_stays h a is calls commits brought = record {
      calls = λ k c u q s there found does now. ⊎_elim (λ o. inl o) (λ way. ⊎_elim
          (λ same. inl (call k c u q s there found does now (subst (Brings k (want_of_call u s)) same way.brings)))
          (λ under. inr (record { post = way.post; under_way = under; brings = way.brings })) (less way.post way.under_way))
          (brought.calls k c u q s there found does now);
      commits = λ k c u q x j there found does now left. let way = brought.commits k c u q x j there found does now left in ⊎_elim
          (λ same. absurd (commit k c u q x j there found does now left (subst (Brings k (want_of_commit u x j)) same way.brings)))
          (λ under. record { post = way.post; under_way = under; brings = way.brings }) (less way.post way.under_way);
    }
      where
        call : (k : ℕ) (c : Coord) (u : Uid) (q : Doing) (s : Steps) → nodes k → cs k ≡ Some c → doing_of u c ≡ Some q → q.now ≡ Calling s →
            Brings k (want_of_call u s) (post_of from n m) → IsOvertaken B s
        call k c u q s there found does now (Asking f t asked) =
            calls c u q s (subst nodes (sym f) there) (ap cs f ∙ found) does now (sym t) asked
        call k c u q s there found does now (Answering f t reply) = absurd (cc (sym (asks_no_answer m h a is) ∙ reply.is))

        commit : (k : ℕ) (c : Coord) (u : Uid) (q : Doing) (x : Machine) (j : ℕ) → nodes k → cs k ≡ Some c → doing_of u c ≡ Some q →
            q.now ≡ Committing x → has (left_of x) j ≡ true → Brings k (want_of_commit u x j) (post_of from n m) → ⊥
        commit k c u q x j there found does now left (Asking f t asked) =
            commits c u q x (subst nodes (sym f) there) (ap cs f ∙ found) does now (ap (has (left_of x)) t ∙ left)
            (subst (λ i. AsksFor (want_of_commit u x i) m) (sym t) asked)
        commit k c u q x j there found does now left (Answering f t reply) = absurd (cc (sym (asks_no_answer m h a is) ∙ reply.is))

    -- ---- answers

    module _ (a : Asked) (r : Reply) (silent : asks m ≡ None) (is : answers m ≡ Some (a, r)) where
      reply_way : (k : ℕ) (w : Want) → Brings k w (post_of from n m) →
          (from ≡ w.node) × (n ≡ k) × (a ≡ asked_for w) × (reply_kind r ≡ w.kind)
      reply_way k w (Asking f t q) = absurd (cc (sym silent ∙ q.is))
      reply_way k w (Answering f t q) =
          let same : ◌≡◌ {A = Asked × Reply} (a, r) (asked_for w, q.reply) = some_is (a, r) (asked_for w, q.reply) (sym is ∙ q.is) in
          (f, t, ap (λ (x : Asked × Reply). x.0) same, ap (λ (x : Asked × Reply). reply_kind x.1) same ∙ q.kind)

      call_waits : (k : ℕ) (u : Uid) (s : Steps) → Brings k (want_of_call u s) (post_of from n m) →
          (n ≡ k) × (a.act ≡ u) × (waits_for_call from a r s ≡ true)
      call_waits k u s b = let q = reply_way k (want_of_call u s) b in (
        q.1,
        ap (λ (x : Asked). x.act) q.2,
        all_three (same_test s.req a.req (sym (ap (λ (x : Asked). x.req) q.2))) (same_test (reply_kind r) (ask_kind (next_ask [] s)) q.3)
            (same_test (next_node s) from (sym q.0)),
      )

      commit_waits : (k : ℕ) (u : Uid) (x : Machine) (j : ℕ) → has (left_of x) j ≡ true →
          Brings k (want_of_commit u x j) (post_of from n m) → (n ≡ k) × (a.act ≡ u) × (from ≡ j) × (waits_for_commit from a r x ≡ true)
      commit_waits k u x j left b = let q = reply_way k (want_of_commit u x j) b in (
        q.1,
        ap (λ (y : Asked). y.act) q.2,
        q.0,
        all_three (same_test (plan_of x).req a.req (sym (ap (λ (y : Asked). y.req) q.2))) (same_test (reply_kind r)
            (ask_kind (ask_of x from)) (q.3 ∙ ap (λ i. ask_kind (ask_of x i)) (sym q.0))) (ap (has (left_of x)) q.0 ∙ left),
      )

      -- nobody waits for it
      pub unheard_stays : (c : Coord) → cs n ≡ Some c → ((q : Doing) → doing_of a.act c ≡ Some q → IsUnasked from a r q.now) →
          AreBrought nodes cs F B → AreBrought nodes cs G B
      unheard_stays c mine unasked brought = record {
        calls = λ k e u q s there found does now. ⊎_elim (λ o. inl o) (λ way. ⊎_elim
            (λ same. absurd (call k e u q s found does now (call_waits k u s (subst (Brings k (want_of_call u s)) same way.brings))))
            (λ under. inr (record { post = way.post; under_way = under; brings = way.brings })) (less way.post way.under_way))
            (brought.calls k e u q s there found does now);
        commits = λ k e u q x j there found does now left. let way = brought.commits k e u q x j there found does now left in ⊎_elim
            (λ same. absurd
            (commit k e u q x j found does now (commit_waits k u x j left (subst (Brings k (want_of_commit u x j)) same way.brings))))
            (λ under. record { post = way.post; under_way = under; brings = way.brings }) (less way.post way.under_way);
      }
        where
          there_is : (k : ℕ) (e : Coord) (u : Uid) (q : Doing) → n ≡ k → a.act ≡ u → cs k ≡ Some e → doing_of u e ≡ Some q →
              IsUnasked from a r q.now
          there_is k e u q at who found does =
              let same : e ≡ c = some_is e c (sym found ∙ ap cs (sym at) ∙ mine) in
              unasked q (ap (λ v. doing_of v c) who ∙ ap (doing_of u) (sym same) ∙ does)

          call : (k : ℕ) (e : Coord) (u : Uid) (q : Doing) (s : Steps) → cs k ≡ Some e → doing_of u e ≡ Some q → q.now ≡ Calling s →
              (n ≡ k) × (a.act ≡ u) × (waits_for_call from a r s ≡ true) → ⊥
          call k e u q s found does now w = no_way w.2 (subst (IsUnasked from a r) now (there_is k e u q w.0 w.1 found does))

          commit : (k : ℕ) (e : Coord) (u : Uid) (q : Doing) (x : Machine) (j : ℕ) → cs k ≡ Some e → doing_of u e ≡ Some q →
              q.now ≡ Committing x → (n ≡ k) × (a.act ≡ u) × (from ≡ j) × (waits_for_commit from a r x ≡ true) → ⊥
          commit k e u q x j found does now w = no_way w.3 (subst (IsUnasked from a r) now (there_is k e u q w.0 w.1 found does))

      -- who waited moves on
      pub heard_stays : (c e : Coord) (p : Doing) (outs : List Effect) → cs n ≡ Some c → doing_of a.act c ≡ Some p →
          Moves from p.now a.act c e outs → AreBrought nodes cs F B → AreBrought nodes (put n e cs) (Then G n outs) B
      heard_stays c e p outs mine did moves brought = record {
        calls = λ k f u q s there found does now. call k f u q s there (k == n) refl found does now;
        commits = λ k f u q x j there found does now left. commit k f u q x j there (k == n) refl found does now left;
      }
        where
          asked : (k : ℕ) (w : Want) → k ≡ n → AsksIn outs w → HasWay (Then G n outs) k w
          asked k w at i =
              record { post = post_of n w.node i.message; under_way = inr (refl, i.sent); brings = Asking (sym at) refl i.asks }

          -- what was under way to somebody else, or for somebody else
          call_old : (k : ℕ) (u : Uid) (s : Steps) → (n ≡ k → a.act ≡ u → ⊥) → IsOvertaken B s ⊎ HasWay F k (want_of_call u s) →
              IsOvertaken B s ⊎ HasWay (Then G n outs) k (want_of_call u s)
          call_old k u s other old = ⊎_elim (λ o. inl o) (λ way. ⊎_elim
              (λ same. let w = call_waits k u s (subst (Brings k (want_of_call u s)) same way.brings) in absurd (other w.0 w.1))
              (λ under. inr (record { post = way.post; under_way = inl under; brings = way.brings })) (less way.post way.under_way)) old

          commit_old : (k : ℕ) (u : Uid) (x : Machine) (j : ℕ) → has (left_of x) j ≡ true → (n ≡ k → a.act ≡ u → from ≡ j → ⊥) →
              HasWay F k (want_of_commit u x j) → HasWay (Then G n outs) k (want_of_commit u x j)
          commit_old k u x j left other way = ⊎_elim
              (λ same. let w = commit_waits k u x j left (subst (Brings k (want_of_commit u x j)) same way.brings) in
              absurd (other w.0 w.1 w.2))
              (λ under. record { post = way.post; under_way = inl under; brings = way.brings }) (less way.post way.under_way)

          call : (k : ℕ) (f : Coord) (u : Uid) (q : Doing) (s : Steps) → nodes k → (b : Bool) → (k == n) ≡ b → (if b then Some e else cs k)
              ≡ Some f → doing_of u f ≡ Some q → q.now ≡ Calling s → IsOvertaken B s ⊎ HasWay (Then G n outs) k (want_of_call u s)
          call k f u q s there false apart found does now =
              call_old k u s (λ at who. apart_test k n apart (sym at)) (brought.calls k f u q s there found does now)
          call k f u q s there true same found does now = ⊎_elim mine_now others (uid_cases u a.act)
            where
              at : k ≡ n
              at = eqb-true k n same

              it : doing_of u e ≡ Some q
              it = ap (doing_of u) (some_is e f found) ∙ does

              mine_now : u ≡ a.act → IsOvertaken B s ⊎ HasWay (Then G n outs) k (want_of_call u s)
              mine_now who = inr (asked k (want_of_call u s) at (subst (λ v. AsksIn outs (want_of_call v s)) (sym who)
                  (subst (Goes from p.now outs a.act) now (moves.own q (ap (λ v. doing_of v e) (sym who) ∙ it)))))

              others : u ≢ a.act → IsOvertaken B s ⊎ HasWay (Then G n outs) k (want_of_call u s)
              others other = call_old k u s (λ here who. other (sym who))
                  (brought.calls k c u q s there (ap cs at ∙ mine) (moves.others u q other it) now)

          commit : (k : ℕ) (f : Coord) (u : Uid) (q : Doing) (x : Machine) (j : ℕ) → nodes k → (b : Bool) → (k == n) ≡ b →
              (if b then Some e else cs k) ≡ Some f → doing_of u f ≡ Some q → q.now ≡ Committing x → has (left_of x) j ≡ true →
              HasWay (Then G n outs) k (want_of_commit u x j)
          commit k f u q x j there false apart found does now left =
              commit_old k u x j left (λ at who is. apart_test k n apart (sym at)) (brought.commits k f u q x j there found does now left)
          commit k f u q x j there true same found does now left = ⊎_elim mine_now others (uid_cases u a.act)
            where
              at : k ≡ n
              at = eqb-true k n same

              it : doing_of u e ≡ Some q
              it = ap (doing_of u) (some_is e f found) ∙ does

              goes : u ≡ a.act → AsksIn outs (want_of_commit a.act x j) ⊎ Waited from p.now a.act x j
              goes who = subst (Goes from p.now outs a.act) now (moves.own q (ap (λ v. doing_of v e) (sym who) ∙ it)) j left

              was : Waited from p.now a.act x j → HasWay (Then G n outs) k (want_of_commit a.act x j)
              was w = subst (HasWay (Then G n outs) k) w.same (commit_old k a.act w.was j w.left (λ here who is. w.other (sym is))
                  (brought.commits k c a.act p w.was j there (ap cs at ∙ mine) did w.is w.left))

              mine_now : u ≡ a.act → HasWay (Then G n outs) k (want_of_commit u x j)
              mine_now who = subst (λ v. HasWay (Then G n outs) k (want_of_commit v x j)) (sym who)
                  (⊎_elim (λ i. asked k (want_of_commit a.act x j) at i) was (goes who))

              others : u ≢ a.act → HasWay (Then G n outs) k (want_of_commit u x j)
              others other = commit_old k u x j left (λ here who is. other (sym who))
                  (brought.commits k c u q x j there (ap cs at ∙ mine) (moves.others u q other it) now left)

    -- ---- other messages

    -- no request and no answer: who waits is who waited
    pub other_stays : (c e : Coord) (U : Post → Type 0) → asks m ≡ None → answers m ≡ None → cs n ≡ Some c →
        ((w : Uid) → doing_of w e ≡ doing_of w c) → ((q : Post) → G q → U q) → AreBrought nodes cs F B → AreBrought nodes (put n e cs) U B
    other_stays c e U silent mute mine same on brought = record {
      calls = λ k f u q s there found does now. let x = at_it k f u q (k == n) refl found does in
          ⊎_elim (λ o. inl o) (λ way. inr (still k (want_of_call u s) way)) (brought.calls k x.0 u q s there x.1 x.2 now);
      commits = λ k f u q y j there found does now left. let x = at_it k f u q (k == n) refl found does in
          still k (want_of_commit u y j) (brought.commits k x.0 u q y j there x.1 x.2 now left);
    }
      where
        at_it : (k : ℕ) (f : Coord) (u : Uid) (q : Doing) (b : Bool) → (k == n) ≡ b → (if b then Some e else cs k) ≡ Some f →
            doing_of u f ≡ Some q → (g : Coord) × (cs k ≡ Some g) × (doing_of u g ≡ Some q)
        at_it k f u q false apart found does = (f, found, does)
        at_it k f u q true here found does =
            (c, ap cs (eqb-true k n here) ∙ mine, sym (same u) ∙ ap (doing_of u) (some_is e f found) ∙ does)

        brings : (k : ℕ) (w : Want) → Brings k w (post_of from n m) → ⊥
        brings k w (Asking f t q) = absurd (cc (sym silent ∙ q.is))
        brings k w (Answering f t q) = absurd (cc (sym mute ∙ q.is))

        still : (k : ℕ) (w : Want) → HasWay F k w → HasWay U k w
        still k w way = ⊎_elim (λ is. absurd (brings k w (subst (Brings k w) is way.brings)))
            (λ under. record { post = way.post; under_way = on way.post under; brings = way.brings }) (less way.post way.under_way)
