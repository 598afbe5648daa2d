-- What coordinators have of naming's answers, where a request is taken.
use Rattle.arj_law_parts.proofs.Words
use Words.{◌≡◌, ℕ, ◌==◌, ◌||◌, if◌then◌else◌, Bool, true, false, List, [], ◌∷◌, ◌++◌, Option, Some, None, refl, sym, ◌∙◌, ap, subst, inl}
use Words.{option_map, AllByRecursion, Ask, Asked, Binding, BoundReply, ConfirmedReply, Head, InvokedReply, Message, PreparedReply}
use Words.{RecordedReply, VotedReply, ObjectState, Uid, asks, object, Reply, actor, ask_kind, asked_by, reply_kind, response, top_of, At}
use Words.{AtActivate, AtBind, AtInvoke, AtLoad, AtNote, Known, Steps, ask_at, is_include, next_ask, node_at, confirm, Calling, Committing}
use Words.{Doing, Idle, Now, doing_of, root_at, Already, Disk, Do, Effect, InDoubt, Look, Old, Prep, Prepare, Ready, Say, Send, Served}
use Words.{held_at, holder_of, is_prepared, prepare_answer, Naming, Handled, Parts, Took, Void, handle, handle_ask, if_naming, load_by}
use Words.{load_held, prepare_by, sends_answer, serve, served, with_naming, with_server, uid_number, Node, activate_own, bind_own}
use Words.{confirm_own, invoke_own, note_own, vote_own, Seen}
use Words.ask
use Words.loaded
use Words.prepared
use Words.role
use Words.body
use Words.naming
use Words.server
use Rattle.arj_law_disk_view.proofs.Terms
use Terms.{IsGood, IsOfStep, head_of, KnowsFew, Names, Office, In, has, never, some_is, test_is, test_same, up, Walks, Up, packed, IsLater}
use Terms.{Kinds, SeesEntry, OnlyAnswers, OnlyMemory, SeesBoth, HasGiven, Answering, Change, Changes, Quietly, answer_change, ask_change}
use Terms.{asked_change, bind_change, change_by, NamesOwn, IsOfGoal, NamesNow, SeesHeard, HoldsFrom}
use Terms.seen
use Rattle.arj_law_disk_view.proofs.names.{Heard.loads_are_given, Heard.none_heard, Onward.onward_same, Onward.onward_still}
use Rattle.arj_law_disk_view.proofs.running
use running.{HeardLike.IsLike, HeardPosts.SaysHeard, HeardQuiet.fixed_in, HeardQuiet.heard_still, HeardStays.SaysToStep}
use running.HeardBinds.{bind_kind, bind_names, entry_stored}
use running.HeardOther.{leaves_rises, names_say, server_says, took_to}
use running.HeardServe.{actor_of_step, serve_step, step_of}
use Rattle.arj_law_disk_view.proofs.view.{Frames.node_here, Later.later_same}
use Rattle.arj_law_disk_view.specs.names.Heard.{LeavesRoots}
use Rattle.arj_law_runs.specs.calls.Coords.{bare}
use Rattle.arj_law_disk.specs.machine.Names as machine

-- ---- what a request says of its step

abbrev bind_in : Ask → Option (ℕ × Bool)
bind_in (ask.Bind y include avoid) = Some (y, include)
bind_in _ = None

abbrev load_in : Ask → Option ℕ
load_in (ask.Load y) = Some y
load_in _ = None

-- a step whose request is this Bind
bind_step : (s : Steps) (y : ℕ) (include : Bool) (avoid : Binding) → ask.Bind y include avoid ≡ next_ask [] s →
    (s.x ≡ y) × (is_include s.goal ≡ include)
bind_step s y include avoid same = by s.at (ap bind_in same)
  where
    by : (at : At) → ◌≡◌ {A = Option (ℕ × Bool)} (Some (y, include)) (bind_in (ask_at s.x s.goal [] at)) →
        (s.x ≡ y) × (is_include s.goal ≡ include)
    by (AtBind b) is = let e : (y, include) ≡ (s.x, is_include s.goal) = some_is refl is in
        (sym (ap (λ (z : ℕ × Bool). z.0) e), sym (ap (λ (z : ℕ × Bool). z.1) e))
    by (AtLoad q n rest) is = absurd (cc is)
    by (AtActivate q st) is = absurd (cc is)
    by (AtNote q i) is = absurd (cc is)
    by (AtInvoke q i) is = absurd (cc is)

-- the step of a call, and what a Load asks
abbrev pub step_in : Now → Option Steps
step_in (Calling s) = Some s
step_in _ = None

abbrev asked_in : At → Option (Known × ℕ)
asked_in (AtLoad q n rest) = Some (q, n)
asked_in _ = None

-- nothing but answers has changed
pub answers_memory : (A D : Office) → OnlyAnswers A D → LeavesRoots A D → OnlyMemory A D
answers_memory A D only roots = record {
  later = subst (λ W. IsLater A.world W) (sym only.world) (later_same A.world);
  tops = ap (λ W. let S = W in S.disk.tops) only.world;
  bare = λ t is. ap (λ W. let S = W in S.disk.bare t) (sym only.world) ∙ is;
  had = roots.0;
  kept = roots.1;
  answers = only.answers;
  inc = ap (λ (N : Names). N.inc) only.names;
  confd = λ t is. ap (λ (N : Names). N.confd t) only.names ∙ is;
  onward = onward_still A D A.world (onward_same A.world) (λ z on. on) (λ z on. on) only.world;
}

-- ---- a request is taken

module _ (x : ℕ) (tops : Kinds) (e k : ℕ) (d : Disk) (t v : Parts) (from : ℕ) (m : Message) (outs : List Effect) (M : Seen)
    (good : IsGood (up k d t M)) (few : KnowsFew (up k d t M)) (own : (n : Naming) → t.naming ≡ Some n → (k ≡ 1) × NamesOwn n) (h : Head)
    (a : Ask) (posted : seen.In (record { from = from; to = k; message = m }) M.sent) (asking : asks m ≡ Some (h, a)) where
  abbrev pub Along : Change → Office → Parts → List Effect → Type 0
  Along o D w es = Walks (HoldsFrom (SeesHeard x) x tops o D) e k es (Up (HoldsFrom (SeesHeard x) x tops o D) k w) d M

  -- what an answer has to say to the steps of the one who asked
  abbrev Says : Change → Office → Reply → Type 0
  Says o D q = (B : Office) → Changes o D B → (n : Node) (z : Parts) → (up k d t M).nodes from ≡ Some n → n.live ≡ Some z →
      (u : Uid) (y : Doing) (s : Steps) → doing_of u z.coord ≡ Some y → y.now ≡ Calling s → s.x ≡ x → asked_by (head_of s) ≡ asked_by h →
      SaysToStep x s q B.names

  -- the step that waits for an answer to this request
  step_is : (n : Node) (z : Parts) → (up k d t M).nodes from ≡ Some n → n.live ≡ Some z → (u : Uid) (y : Doing) (s : Steps) →
      doing_of u z.coord ≡ Some y → y.now ≡ Calling s → asked_by (head_of s) ≡ asked_by h → IsOfStep s k h a
  step_is n z there live u y s does now same = step_of (up k d t M) good few from n z there live u y s does now k m h a posted asking same

  module _ (D : Office) (both : SeesBoth x tops D (up k d t M)) (p : SeesHeard x tops D (up k d t M)) where
    -- an answer is sent
    answered : (o : Change) (memory : (B : Office) → Changes o D B → OnlyMemory D B) (q : Reply) → ask_kind a ≡ reply_kind q → Says o D q →
        (w : Parts) (es : List Effect) → IsLike t.coord w.coord → AllByRecursion (SaysHeard x d.inc D) es
        → sends_answer from h w es (Some q) ≡ Took v outs → IsLike t.coord v.coord × Along o D v outs
    answered o memory q kind says w es like all is =
        took_to (λ w es. IsLike t.coord w.coord × Along o D w es) w (es ++ Send from (response (asked_by h) q) ∷ []) v outs is
        (like, serve_step x tops k d t M D both p from m h a q posted asking kind o memory says w like e es all)

    quietly : (B : Office) → Changes Quietly D B → OnlyMemory D B
    quietly B c = c

  -- ---- whichever it is

  module _ (A : Office) (both : SeesBoth x tops A (up k d t M)) (p : SeesHeard x tops A (up k d t M)) where
    -- first answers are given, to an office from which it is kept along the step
    pub record Served_by (o : Change) : Type 0 where
      pub office : Office
      pub only : OnlyAnswers A office
      pub sees : SeesBoth x tops office (up k d t M)
      pub heard : SeesHeard x tops office (up k d t M)
      pub like : IsLike t.coord v.coord
      pub along : Along o office v outs

    at_once : (o : Change) → IsLike t.coord v.coord × Along o A v outs → Served_by o
    at_once o g = record { office = A; only = none_heard A; sees = both; heard = p; like = g.0; along = g.1 }

    same_like : IsLike t.coord t.coord
    same_like = record {
      own = λ u. refl;
      branches = λ w. inl refl;
      works = λ u q does. inl does;
      roots = λ u. ((let r = root_at u t.coord in r.went), refl);
    }

    -- an answer of a server
    by_server : (S R : Type 0) (put : S → Parts) (say : R → Reply) (r : Served S R) →
        ((w : S) → IsLike t.coord (let z = put w in z.coord)) → ((y : R) → (ask_kind a ≡ reply_kind (say y)) × Says Quietly A (say y)) →
        AllByRecursion (SaysHeard x d.inc A) r.outs → served from h put say r ≡ Took v outs → Served_by Quietly
    by_server S R put say r like says all is = at_once Quietly (by r.reply is)
      where
        by : (y : Option R) → sends_answer from h (put r.part) r.outs (option_map say y) ≡ Took v outs →
            IsLike t.coord v.coord × Along Quietly A v outs
        by None g = absurd (cc g)
        by (Some y) g = let z = says y in
            answered A both p Quietly (quietly A both p) (say y) z.0 z.1 (put r.part) r.outs (like r.part) all g

    -- naming takes the request
    by_naming : (b : Ask) (g : Naming → Handled) → (t.naming ≡ None → serve k d t from h b ≡ Void []) →
        ((n : Naming) → t.naming ≡ Some n → serve k d t from h b ≡ g n) → serve k d t from h b ≡ Took v outs → (o : Change) →
        ((n : Naming) → t.naming ≡ Some n → g n ≡ Took v outs → Served_by o) → Served_by o
    by_naming b g none some is o each = by t.naming refl
      where
        by : (y : Option Naming) → t.naming ≡ y → Served_by o
        by None named = absurd (let e : Void [] ≡ Took v outs = sym (none named) ∙ is in cc)
        by (Some n) named = each n named (sym (some n named) ∙ is)

    -- ---- a Load

    -- who waits for the answer, in an include on the object that loads
    record Waits : Type 0 where
      node : Node
      there : (up k d t M).nodes from ≡ Some node
      parts : Parts
      live : node.live ≡ Some parts
      uid : Uid
      doing : Doing
      step : Steps
      does : doing_of uid parts.coord ≡ Some doing
      now : doing.now ≡ Calling step
      of : step.x ≡ x
      same : asked_by (head_of step) ≡ asked_by h
      known : Known
      first : ℕ
      rest : List ℕ
      at : step.at ≡ AtLoad known first rest
      include : is_include step.goal ≡ true

    -- the answer is among the machine's
    record Gives (st : ObjectState) : Type 0 where
      office : Office
      only : OnlyAnswers A office
      sees : SeesBoth x tops office (up k d t M)
      memory : OnlyMemory A office
      given : (w : Waits) →
          In (machine.Loaded (uid_number (top_of (let s = w.step in s.path))) (let q = w.known in q.grant) (packed st)) office.names.answers

    nobody : (st : ObjectState) → (Waits → ⊥) → Gives st
    nobody st none = record {
      office = A;
      only = none_heard A;
      sees = both;
      memory = answers_memory A A (none_heard A) (refl, refl);
      given = λ w. absurd (none w);
    }

    module _ (n : Node) (there : (up k d t M).nodes from ≡ Some n) where
      node_is : (w : Waits) → w.node ≡ n
      node_is w = some_is w.there there

      module _ (z : Parts) (live : n.live ≡ Some z) where
        parts_are : (w : Waits) → w.parts ≡ z
        parts_are w = some_is w.live (ap (λ (y : Node). y.live) (node_is w) ∙ live)

        doing_is : (w : Waits) → doing_of (actor h.path) z.coord ≡ Some w.doing
        doing_is w = ap (λ u. doing_of u z.coord) (sym (ap (λ (y : Asked). y.act) w.same)
            ∙ actor_of_step (up k d t M) good few from w.node w.parts w.there w.live w.uid w.doing w.step w.does w.now)
            ∙ (ap (λ (y : Parts). doing_of w.uid y.coord) (sym (parts_are w)) ∙ w.does)

        module _ (y : Doing) (does : doing_of (actor h.path) z.coord ≡ Some y) where
          now_is : (w : Waits) → y.now ≡ Calling w.step
          now_is w = ap (λ (q : Doing). q.now) (some_is does (doing_is w)) ∙ w.now

          module _ (s : Steps) (now : y.now ≡ Calling s) where
            step_same : (w : Waits) → w.step ≡ s
            step_same w = some_is {A = Steps} (ap step_in (now_is w)) (ap step_in now)

            load_same : (w : Waits) (q : Known) (f : ℕ) (rest : List ℕ) → s.at ≡ AtLoad q f rest → (w.known ≡ q) × (w.first ≡ f)
            load_same w q f rest at =
                let e : (w.known, w.first) ≡ (q, f) = some_is {A = Known × ℕ} (ap asked_in w.at)
                (ap (λ (v : Steps). asked_in v.at) (step_same w) ∙ ap asked_in at) in
                (ap (λ (v : Known × ℕ). v.0) e, ap (λ (v : Known × ℕ). v.1) e)

            -- where the step is such a one, the state may be given
            gives_to : (st : ObjectState) → holder_of (object x) d.store ≡ None → held_at (object x) d.store ≡ Some st → s.x ≡ x →
                (q : Known) (f : ℕ) (rest : List ℕ) → s.at ≡ AtLoad q f rest → is_include s.goal ≡ true → f ≡ k → Gives st
            gives_to st free held of q f rest at include same =
                let c = p.coords from n z there live in
                let l = (c.steps (actor h.path) y s does now of).listed q f rest at include in
                let g = loads_are_given x k tops d t st (uid_number (top_of s.path)) q.grant q.stores A M free held l.answered
                (l.stores k (subst (λ i. has k (i ∷ rest) ≡ true) (sym same) (λ i. test_same k i || has k rest))) both in
                record {
                  office = g.0;
                  only = g.1;
                  sees = g.2;
                  memory = answers_memory A g.0 g.1 (let r = g.3 in r.1);
                  given = λ w. subst (λ (v : Steps × Known). In (machine.Loaded (uid_number (top_of v.0.path)) v.1.grant (packed st))
                      g.0.names.answers) (λ i. (sym (step_same w) i, sym (load_same w q f rest at).0 i)) (let r = g.3 in r.0);
                }

    -- a state that is held and in no doubt is given where an include waits for it
    gives : (b : ℕ) (st : ObjectState) → a ≡ ask.Load b → holder_of (object b) d.store ≡ None → held_at (object b) d.store ≡ Some st →
        Gives st
    gives b st load free held = by_object (b == x) refl
      where
        -- of whoever waits the request is this Load
        asks_it : (w : Waits) → IsOfStep w.step k h a
        asks_it w = step_is w.node w.parts w.there w.live w.uid w.doing w.step w.does w.now w.same

        object_is : (w : Waits) → b ≡ x
        object_is w = let o = asks_it w in
            some_is refl (ap load_in (sym (ap bare load)) ∙ (ap load_in o.same ∙ loads w.step.at w.at)) ∙ w.of
          where
            loads : (at : At) → at ≡ AtLoad w.known w.first w.rest → load_in (ask_at w.step.x w.step.goal [] at) ≡ Some w.step.x
            loads at is = ap (λ y. load_in (ask_at w.step.x w.step.goal [] y)) is

        first_is : (w : Waits) → w.first ≡ k
        first_is w = let o = asks_it w in sym (o.node ∙ ap node_at w.at)

        other : (n : Node) (there : (up k d t M).nodes from ≡ Some n) (z : Parts) (live : n.live ≡ Some z) (y : Doing) (does : doing_of
            (actor h.path) z.coord ≡ Some y) (s : Steps) (now : y.now ≡ Calling s) (at : At) → s.at ≡ at → asked_in at ≡ None → Waits → ⊥
        other n there z live y does s now at is none w =
            (let e : ◌≡◌ {A = Option (Known × ℕ)} None (Some (w.known, w.first)) = sym none ∙ (ap asked_in (sym is)
            ∙ (ap (λ (v : Steps). asked_in v.at) (sym (step_same n there z live y does s now w)) ∙ ap asked_in w.at)) in cc)

        by_step : b ≡ x → (n : Node) (there : (up k d t M).nodes from ≡ Some n) (z : Parts) (live : n.live ≡ Some z) (y : Doing)
            (does : doing_of (actor h.path) z.coord ≡ Some y) (s : Steps) (now : y.now ≡ Calling s) (at : At) → s.at ≡ at → Gives st
        by_step same n there z live y does s now (AtLoad q f rest) at = tests (s.x == x) (f == k) (is_include s.goal) refl refl refl
          where
            tests : (i j c : Bool) → (s.x == x) ≡ i → (f == k) ≡ j → is_include s.goal ≡ c → Gives st
            tests true true true of first include =
                gives_to n there z live y does s now st (subst (λ i. holder_of (object i) d.store ≡ None) same free)
                (subst (λ i. held_at (object i) d.store ≡ Some st) same held) (test_is s.x x of) q f rest at include (test_is f k first)
            tests false j c of first include = nobody st (λ w.
                never (ap (λ i. i == x) (sym (ap (λ (v : Steps). v.x) (step_same n there z live y does s now w)) ∙ w.of) ∙ test_same x) of)
            tests true false c of first include = nobody st (λ w.
                never (ap (λ i. i == k) (sym (load_same n there z live y does s now w q f rest at).1 ∙ first_is w) ∙ test_same k) first)
            tests true true false of first include = nobody st
                (λ w. never (ap (λ (v : Steps). is_include v.goal) (sym (step_same n there z live y does s now w)) ∙ w.include) include)
        by_step same n there z live y does s now (AtBind avoid) at =
            nobody st (λ w. other n there z live y does s now (AtBind avoid) at refl w)
        by_step same n there z live y does s now (AtActivate q u) at =
            nobody st (λ w. other n there z live y does s now (AtActivate q u) at refl w)
        by_step same n there z live y does s now (AtNote q i) at = nobody st (λ w. other n there z live y does s now (AtNote q i) at refl w)
        by_step same n there z live y does s now (AtInvoke q i) at =
            nobody st (λ w. other n there z live y does s now (AtInvoke q i) at refl w)

        by_now : b ≡ x → (n : Node) (there : (up k d t M).nodes from ≡ Some n) (z : Parts) (live : n.live ≡ Some z) (y : Doing)
            (does : doing_of (actor h.path) z.coord ≡ Some y) (now : Now) → y.now ≡ now → Gives st
        by_now same n there z live y does Idle is =
            nobody st (λ w. let e : Idle ≡ Calling w.step = sym is ∙ now_is n there z live y does w in cc)
        by_now same n there z live y does (Calling s) is = by_step same n there z live y does s is s.at refl
        by_now same n there z live y does (Committing c) is =
            nobody st (λ w. let e : Committing c ≡ Calling w.step = sym is ∙ now_is n there z live y does w in cc)

        by_doing : b ≡ x → (n : Node) (there : (up k d t M).nodes from ≡ Some n) (z : Parts) (live : n.live ≡ Some z) (o : Option Doing) →
            doing_of (actor h.path) z.coord ≡ o → Gives st
        by_doing same n there z live None is = nobody st (λ w. let e : None ≡ Some w.doing = sym is ∙ doing_is n there z live w in cc)
        by_doing same n there z live (Some y) is = by_now same n there z live y is y.now refl

        by_live : b ≡ x → (n : Node) (there : (up k d t M).nodes from ≡ Some n) (o : Option Parts) → n.live ≡ o → Gives st
        by_live same n there None is =
            nobody st (λ w. let e : None ≡ Some w.parts = sym is ∙ (ap (λ (y : Node). y.live) (sym (node_is n there w)) ∙ w.live) in cc)
        by_live same n there (Some z) is = by_doing same n there z is (doing_of (actor h.path) z.coord) refl

        by_node : b ≡ x → (o : Option Node) → (up k d t M).nodes from ≡ o → Gives st
        by_node same None is = nobody st (λ w. let e : None ≡ Some w.node = sym is ∙ w.there in cc)
        by_node same (Some n) is = by_live same n is n.live refl

        by_object : (i : Bool) → (b == x) ≡ i → Gives st
        by_object true is = by_node (test_is b x is) ((up k d t M).nodes from) refl
        by_object false is = nobody st (λ w. never (ap (λ i. i == x) (object_is w) ∙ test_same x) is)

    -- ---- each kind

    load_looks : AllByRecursion (SaysHeard x d.inc A) (Do Look ∷ [])
    load_looks = (leaves_rises d.inc Look refl, tt)

    by_load : (b : ℕ) → a ≡ ask.Load b → serve k d t from h (ask.Load b) ≡ Took v outs → Served_by Quietly
    by_load b same is = by (holder_of (object b) d.store) refl is
      where
        held : holder_of (object b) d.store ≡ None → (o : Option ObjectState) → held_at (object b) d.store ≡ o →
            load_held from h t o ≡ Took v outs → Served_by Quietly
        held free None at g = absurd (cc g)
        held free (Some st) at g =
            let z = gives b st same free at in
            let pz = heard_still x tops (up k d t M) A z.office (fixed_in x tops A (up k d t M) both)
            (fixed_in x tops z.office (up k d t M) z.sees) both.named (let q = z.sees in q.named) z.memory p in
            let r = answered z.office z.sees pz Quietly (quietly z.office z.sees pz) (Reply.Loaded (loaded.State st)) (ap ask_kind same)
            (λ B changes n y there live u w s does now of asker q f rest at include. let only : OnlyMemory z.office B = changes in
            only.answers (machine.Loaded (uid_number (top_of s.path)) q.grant (packed st))
            (z.given (record {
              node = n;
              there = there;
              parts = y;
              live = live;
              uid = u;
              doing = w;
              step = s;
              does = does;
              now = now;
              of = of;
              same = asker;
              known = q;
              first = f;
              rest = rest;
              at = at;
              include = include;
            })))
            t (Do Look ∷ []) same_like (leaves_rises d.inc Look refl, tt) g in
            record { office = z.office; only = z.only; sees = z.sees; heard = pz; like = r.0; along = r.1 }

        by : (o : Option Uid) → holder_of (object b) d.store ≡ o → load_by b d.store from h t o ≡ Took v outs → Served_by Quietly
        by None free g = held free (held_at (object b) d.store) refl g
        by (Some w) free g = at_once Quietly (answered A both p Quietly (quietly A both p) (Reply.Loaded (loaded.InDoubt w))
            (ap ask_kind same) (λ B c n z there live u y s does now of asker. tt) t [] same_like tt g)

    by_prepare : (states : List ObjectState) → a ≡ ask.Prepare states → serve k d t from h (ask.Prepare states) ≡ Took v outs →
        Served_by Quietly
    by_prepare states same is = at_once Quietly (by (is_prepared (actor h.path) d.store) is)
      where
        says : (r : PreparedReply) → Says Quietly A (Reply.Prepared r)
        says r B c n z there live u y s does now of asker = tt

        new : (w : Prep) → prepare_by k states from h t w ≡ Took v outs → IsLike t.coord v.coord × Along Quietly A v outs
        new Ready g = answered A both p Quietly (quietly A both p) (Reply.Prepared prepared.Yes) (ap ask_kind same) (says prepared.Yes) t
            (Do Look ∷ Do (Prepare role.Store (actor h.path) states) ∷ Say (body.Prepared k (actor h.path) role.Store) ∷ []) same_like
            (leaves_rises d.inc Look refl, (leaves_rises d.inc (Prepare role.Store (actor h.path) states) refl, (tt, tt))) g
        new (Already u) g = absurd (cc g)
        new (Old u i) g = answered A both p Quietly (quietly A both p) (Reply.Prepared (prepared.Old u.num i)) (ap ask_kind same)
            (says (prepared.Old u.num i)) t (Do Look ∷ []) same_like load_looks g
        new (InDoubt u z) g = answered A both p Quietly (quietly A both p) (Reply.Prepared (prepared.InDoubt u.num z)) (ap ask_kind same)
            (says (prepared.InDoubt u.num z)) t (Do Look ∷ []) same_like load_looks g

        by : (b : Bool) → (if b then sends_answer from h t [] (Some (Reply.Prepared prepared.Yes)) else prepare_by k states from h t
            (prepare_answer (actor h.path) states d.store)) ≡ Took v outs → IsLike t.coord v.coord × Along Quietly A v outs
        by true g = answered A both p Quietly (quietly A both p) (Reply.Prepared prepared.Yes) (ap ask_kind same) (says prepared.Yes) t []
            same_like tt g
        by false g = new (prepare_answer (actor h.path) states d.store) g

    by_bind : (y : ℕ) (include : Bool) (avoid : Binding) → a ≡ ask.Bind y include avoid →
        serve k d t from h (ask.Bind y include avoid) ≡ Took v outs → Served_by (bind_change x y include avoid h d t.naming)
    by_bind y include avoid same is = by t.naming refl
      where
        abbrev_serve : (n : Naming) → Handled
        abbrev_serve n = served from h (with_naming t) Reply.Bound (naming.bind h.path y include avoid d.names n)

        names : (n : Naming) → t.naming ≡ Some n → (r : BoundReply) → (naming.bind h.path y include avoid d.names n).reply ≡ Some r →
            y ≡ x → NamesNow r
        names n named r reply same =
            let o = own n named in
            let e : SeesEntry x d.names A.world.disk = (let s = both.disks in s.entry (record { number = k; disk = d; live = Some t })
            (ap (up k d t M).nodes (sym o.0) ∙ node_here M k (record { number = k; disk = d; live = Some t }))) in
            bind_names h.path x include avoid d.names n r o.1 (entry_stored x d.names A.world (let s = both.disks in s.whole) e)
            (ap (λ z. (naming.bind h.path z include avoid d.names n).reply) (sym same) ∙ reply)

        replied : (n : Naming) → t.naming ≡ Some n → (r : BoundReply) → (naming.bind h.path y include avoid d.names n).reply ≡ Some r →
            (i : Bool) → (y == x) ≡ i → (o : Change) → (if i then Answering (uid_number (top_of h.path)) r else Quietly) ≡ o
            → sends_answer from h (with_naming t (naming.bind h.path y include avoid d.names n).part)
            (naming.bind h.path y include avoid d.names n).outs (Some (Reply.Bound r)) ≡ Took v outs → Served_by o
        replied n named r reply true here o is_change g = subst Served_by is_change (at_once (Answering (uid_number (top_of h.path)) r)
            (answered A both p (Answering (uid_number (top_of h.path)) r) (λ B c. c.0) (Reply.Bound r) (ap ask_kind same)
            (λ B changes m z there live u w s does now of asker. let f = step_is m z there live u w s does now asker in
            let b = bind_step s y include avoid (sym (ap bare same) ∙ f.same) in (
              subst (λ c. IsOfGoal c r) (sym b.1) (bind_kind h.path y include avoid d.names n r reply),
              λ about. subst (λ c. HasGiven (uid_number (top_of c)) r B.names) (ap (λ (c : Head). c.path) f.head) changes.1,
              names n named r reply (test_is y x here),
            ))
            (with_naming t (naming.bind h.path y include avoid d.names n).part) (naming.bind h.path y include avoid d.names n).outs
            same_like
            (names_say x d.inc A (naming.bind h.path y include avoid d.names n).outs (bind_own h.path y include avoid d.names n)) g))
        replied n named r reply false here o is_change g =
            subst Served_by is_change (at_once Quietly (answered A both p Quietly (quietly A both p) (Reply.Bound r) (ap ask_kind same)
            (λ B changes m z there live u w s does now of asker. let f = step_is m z there live u w s does now asker in
            let b = bind_step s y include avoid (sym (ap bare same) ∙ f.same) in (
              subst (λ c. IsOfGoal c r) (sym b.1) (bind_kind h.path y include avoid d.names n r reply),
              λ about. absurd (never (ap (λ c. c == x) (sym b.0 ∙ of) ∙ test_same x) here),
              absurd (never (ap (λ c. c == x) (sym b.0 ∙ of) ∙ test_same x) here),
            ))
            (with_naming t (naming.bind h.path y include avoid d.names n).part) (naming.bind h.path y include avoid d.names n).outs
            same_like
            (names_say x d.inc A (naming.bind h.path y include avoid d.names n).outs (bind_own h.path y include avoid d.names n)) g))

        with_reply : (n : Naming) → t.naming ≡ Some n → (r : Option BoundReply) → (naming.bind h.path y include avoid d.names n).reply ≡ r
            → sends_answer from h (with_naming t (naming.bind h.path y include avoid d.names n).part) (naming.bind h.path y include avoid
            d.names n).outs (option_map Reply.Bound r) ≡ Took v outs → Served_by (bind_change x y include avoid h d t.naming)
        with_reply n named None reply g = absurd (cc g)
        with_reply n named (Some r) reply g = replied n named r reply (y == x) refl (bind_change x y include avoid h d t.naming)
            (sym (ap (bind_change x y include avoid h d) named ∙ ap (answer_change x y (top_of h.path)) reply)) g

        by : (o : Option Naming) → t.naming ≡ o → Served_by (bind_change x y include avoid h d t.naming)
        by None named = absurd (let e : Void [] ≡ Took v outs = sym (ap (if_naming abbrev_serve) named) ∙ is in cc)
        by (Some n) named =
            with_reply n named (naming.bind h.path y include avoid d.names n).reply refl (sym (ap (if_naming abbrev_serve) named) ∙ is)

    by_ask : (b : Ask) → a ≡ b → serve k d t from h b ≡ Took v outs → Served_by (ask_change x d t h b)
    by_ask (ask.Bind y include avoid) same is = by_bind y include avoid same is
    by_ask (ask.Load b) same is = by_load b same is
    by_ask (ask.Activate b st) same is = by_server server.Server ℕ (with_server t) Reply.Activated (server.activate k h.path b st t.server)
        (λ w. same_like) (λ y. (ap ask_kind same, λ B c n z there live u q s does now of asker. tt))
        (server_says x d.inc A k (server.activate k h.path b st t.server).outs (activate_own k h.path b st t.server)) is
    by_ask (ask.Invoke y b i ends op) same is = by_server server.Server InvokedReply (with_server t) Reply.Invoked (server.invoke k h y b i
        ends op t.server) (λ w. same_like) (λ y. (ap ask_kind same, λ B c n z there live u q s does now of asker. tt))
        (server_says x d.inc A k (server.invoke k h y b i ends op t.server).outs (invoke_own k h y b i ends op t.server)) is
    by_ask (ask.Vote i ties ends) same is = by_server server.Server VotedReply (with_server t) Reply.Voted (server.vote k h.path i ties ends
        t.server) (λ w. same_like) (λ y. (ap ask_kind same, λ B c n z there live u q s does now of asker. tt))
        (server_says x d.inc A k (server.vote k h.path i ties ends t.server).outs (vote_own k h.path i ties ends t.server)) is
    by_ask (ask.Record y b i g0) same is = by_naming (ask.Record y b i g0) (λ n. served from h (with_naming t) Reply.Noted (naming.note
        h.path y b i g0 n)) (λ named. ap (if_naming (λ n. served from h (with_naming t) Reply.Noted (naming.note h.path y b i g0 n))) named)
        (λ n named. ap (if_naming (λ n. served from h (with_naming t) Reply.Noted (naming.note h.path y b i g0 n))) named) is Quietly
        (λ n named g. by_server Naming RecordedReply (with_naming t) Reply.Noted (naming.note h.path y b i g0 n) (λ w. same_like)
        (λ y. (ap ask_kind same, λ B c n z there live u q s does now of asker. tt))
        (names_say x d.inc A (naming.note h.path y b i g0 n).outs (note_own h.path y b i g0 n)) g)
    by_ask (ask.Confirm grants excluded included) same is = by_naming (ask.Confirm grants excluded included)
        (λ n. served from h (with_naming t) Reply.Confirmed (confirm h.path grants excluded included d.names n)) (λ named.
        ap (if_naming (λ n. served from h (with_naming t) Reply.Confirmed (confirm h.path grants excluded included d.names n))) named)
        (λ n named. ap (if_naming (λ n. served from h (with_naming t) Reply.Confirmed (confirm h.path grants excluded included d.names n)))
        named) is Quietly
        (λ n named g. by_server Naming ConfirmedReply (with_naming t) Reply.Confirmed (confirm h.path grants excluded included d.names n)
        (λ w. same_like) (λ y. (ap ask_kind same, λ B c n z there live u q s does now of asker. tt)) (names_say x d.inc A
        (confirm h.path grants excluded included d.names n).outs (confirm_own h.path grants excluded included d.names n)) g)
    by_ask (ask.Prepare states) same is = by_prepare states same is

    pub ask_heard : handle k d t from m ≡ Took v outs → Served_by (change_by x d t m)
    ask_heard is = subst Served_by (sym (ap (asked_change x d t m) asking)) (by_ask a refl (sym (ap (handle_ask k d t from m) asking) ∙ is))
