-- What a coordinator asks for is shown, where it is seen whole.
use Rattle.arj_law_parts.proofs.Words
use Words.{◌≡◌, ◌≢◌, ◌<◌, ◌∙◌, ◌*◌, ℕ, List, [], length, Bool, true, false, Some, refl, sym, ap, subst, Contains, in_from, Ask, Binding}
use Words.{End, Head, ObjectState, Op, Uid, actor, top_of, At, AtActivate, AtBind, AtInvoke, AtLoad, AtNote, Goal, Include, Known, Run}
use Words.{Steps, ask_at, next_ask, next_node, Confirming, Machine, Preparing, Voting, ask_of, plan_of, Calling, Committing, Coord, Doing}
use Words.{Idle, Now, doing_of, is_call, binding_number, Branch, branch_of}
use Words.ask
use Words.kind
use Rattle.arj_law_lock_view.proofs.Terms
use Terms.{State, Action, action_of, IsBusy, IsGoodCoord, IsVoting, IsOfStep, bare, IsSentBy, ShowsAsk, SeesWhole, IsTelling, ends_in}
use Terms.{is_early, HaveEnded, post_to, AreOneTree, HasEnded, View, Fixed, family_of, view_of, IsRequestSeen, SaysToNaming}
use Terms.machine as machine_state
use Rattle.arj_law_lock_view.proofs.facts.Confirms.{top_own}
use Rattle.arj_law_lock_view.proofs.view.{AskSteps.requests_are_shown, ListedSteps.decided_have_ended, PlanSteps.commit_requests_are_shown}
use Rattle.arj_law_lock_view.specs.view.Serving.{IsForServer}
use Rattle.arj_law_parts.specs.parts.Messages.{IsDecided}
use Rattle.arj_law_runs.proofs.calls.CoordSends.{IsOfCommit}
use Rattle.arj_law_lock.specs.machine.Actions as machine

with_ends : List (Uid × End) → Ask → Ask
with_ends ends (ask.Invoke y b i e o) = ask.Invoke y b i ends o
with_ends ends a = a

no_vote : (i : ℕ) (ties : List (ℕ × Binding)) (ends : List (Uid × End)) (x : ℕ) (g : Goal) (at : At) →
    ask.Vote i ties ends ≡ ask_at x g [] at → ⊥
no_vote i ties ends x g (AtBind avoid) is = cc is
no_vote i ties ends x g (AtLoad k n rest) is = cc is
no_vote i ties ends x g (AtActivate k st) is = cc is
no_vote i ties ends x g (AtNote k j) is = cc is
no_vote i ties ends x g (AtInvoke k j) is = cc is

-- a request is that of its step, with the ends that it brings
pub step_back : (a : Ask) (s : Steps) → bare a ≡ next_ask [] s → a ≡ next_ask (ends_in a) s
unfolding with_ends
step_back (ask.Invoke y b i ends o) s is = by s.at is
  where
    by : (at : At) → ask.Invoke y b i [] o ≡ ask_at s.x s.goal [] at → ask.Invoke y b i ends o ≡ ask_at s.x s.goal ends at
    by (AtInvoke k j) is = ap (with_ends ends) is
    by (AtBind avoid) is = absurd (cc is)
    by (AtLoad k n rest) is = absurd (cc is)
    by (AtActivate k st) is = absurd (cc is)
    by (AtNote k j) is = absurd (cc is)
step_back (ask.Vote i ties ends) s is = absurd (no_vote i ties ends s.x s.goal s.at is)
step_back _ s is = is

-- ---- a coordinator that is seen whole

module _ (f : Fixed) (x : ℕ) (begun : List Action) (k : ℕ) (T : State) (e : Coord) (whole : AreOneTree (family_of f begun))
    (good : IsGoodCoord begun f.paths e) (works : length e.doings ≡ length e.tree.branches) (sees : SeesWhole f.act f.code x e T)
    (binds_made : (u : Uid) (d : Doing) (s : Steps) (avoid : Binding) → doing_of u e ≡ Some d → d.now ≡ Calling s → s.x ≡ x →
    s.at ≡ AtBind avoid → binding_number avoid < T.naming.bound)
    (stated : (u : Uid) (d : Doing) (s : Steps) (q : Known) (st : ObjectState) → doing_of u e ≡ Some d → d.now ≡ Calling s →
    s.at ≡ AtActivate q st → st.uid.num ≡ s.x) where
  abbrev at_node : ℕ → View
  at_node to = view_of f x begun to

  telling : (to : ℕ) → IsTelling (at_node to) e T
  telling to = record { whole = whole; good = good; works = works; actions = (let c = sees.coord in c.actions); units = sees.units }

  -- an end that was decided here is the machine's
  decided_ended : (to : ℕ) (u : Uid) (g : End) → IsDecided u g e.tree →
      ((b : Branch) → branch_of u e.tree ≡ Some b → b.kind ≢ kind.Serial) → HasEnded (at_node to) T u g
  decided_ended to u g (b, found, ended) unserial = decided_have_ended (at_node to) e u g b T (telling to) found ended (unserial b found)

  -- ---- a call's step

  module _ (to : ℕ) (h : Head) (a : Ask) (d : Doing) (s : Steps) (found : doing_of (actor h.path) e ≡ Some d) (calling : d.now ≡ Calling s)
      (of : IsOfStep s to h a) where
    its : a ≡ next_ask (ends_in a) s
    its = step_back a s of.same

    -- of a call on the object
    step_shown : (o : Op) → s.x ≡ x → s.goal ≡ Run o → ShowsAsk f.act f.code (post_to (at_node to) h) T a
    step_shown o about goal =
        let shows = requests_are_shown f.act f.code x e (actor h.path) d s o (ends_in a) T sees.coord found calling about goal in
        subst (λ (b : Ask). ShowsAsk f.act f.code (post_to (at_node to) h) T b) (sym its)
        (subst (λ (n : ℕ). ShowsAsk f.act f.code (record { x = x; path = h.path; number = h.req; node = n }) T (next_ask (ends_in a) s))
        (sym of.node)
        (subst (λ (g : Head). ShowsAsk f.act f.code (record { x = x; path = g.path; number = g.req; node = next_node s }) T
        (next_ask (ends_in a) s)) (sym of.head) shows))

    late : s.x ≡ x → is_early s.at ≡ false → ShowsAsk f.act f.code (post_to (at_node to) h) T a
    late about is_late = by s.goal refl (let c = sees.coord in c.plain (actor h.path) d s found calling about is_late)
      where
        by : (g : Goal) → s.goal ≡ g → is_call s.goal ≡ true → ShowsAsk f.act f.code (post_to (at_node to) h) T a
        by (Run o) goal yes_call = step_shown o about goal
        by (Include store) goal yes_call = absurd (let bad : false ≡ true = ap is_call (sym goal) ∙ yes_call in cc bad)

    step_says : IsForServer x a → ShowsAsk f.act f.code (post_to (at_node to) h) T a
    step_says mine = by a mine of.same
      where
        activates : (b : Binding) (st : ObjectState) → st.uid.num ≡ x → (at : At) → s.at ≡ at →
            ask.Activate b st ≡ ask_at s.x s.goal [] at → ShowsAsk f.act f.code (post_to (at_node to) h) T a
        activates b st mine (AtActivate q st2) is same =
            let one : st ≡ st2 = activate_is same in
            late (sym (stated (actor h.path) d s q st2 found calling is) ∙ ap (λ (z : ObjectState). z.uid.num) (sym one) ∙ mine)
            (ap is_early is)
          where
            activate_is : ask.Activate b st ≡ ask.Activate q.binding st2 → st ≡ st2
            activate_is q2 = cc q2
        activates b st mine (AtBind avoid) is same = absurd (cc same)
        activates b st mine (AtLoad q n rest) is same = absurd (cc same)
        activates b st mine (AtNote q j) is same = absurd (cc same)
        activates b st mine (AtInvoke q j) is same = absurd (cc same)

        invokes : (y : ℕ) (b : Binding) (i : ℕ) (o : Op) → y ≡ x → (at : At) → s.at ≡ at → ask.Invoke y b i [] o ≡ ask_at s.x s.goal [] at →
            ShowsAsk f.act f.code (post_to (at_node to) h) T a
        invokes y b i o mine (AtInvoke q j) is same = let one : y ≡ s.x = cc same in late (sym one ∙ mine) (ap is_early is)
        invokes y b i o mine (AtBind avoid) is same = absurd (cc same)
        invokes y b i o mine (AtLoad q n rest) is same = absurd (cc same)
        invokes y b i o mine (AtActivate q st) is same = absurd (cc same)
        invokes y b i o mine (AtNote q j) is same = absurd (cc same)

        by : (c : Ask) → IsForServer x c → bare c ≡ next_ask [] s → ShowsAsk f.act f.code (post_to (at_node to) h) T a
        by (ask.Activate b st) mine same = activates b st mine s.at refl same
        by (ask.Invoke y b i ends o) mine same = invokes y b i o mine s.at refl same
        by (ask.Vote i ties ends) mine same = absurd (no_vote i ties ends s.x s.goal s.at same)
        by _ mine same = absurd mine

    step_names : SaysToNaming (at_node to) h a T
    step_names = by a refl of.same
      where
        binds : (y : ℕ) (include : Bool) (avoid : Binding) → y ≡ x → (at : At) → s.at ≡ at →
            ask.Bind y include avoid ≡ ask_at s.x s.goal [] at → binding_number avoid < T.naming.bound
        binds y include avoid about (AtBind q) is same =
            let one : avoid ≡ q = bind_is same in
            let two : y ≡ s.x = cc same in
            subst (λ (z : Binding). binding_number z < T.naming.bound) (sym one)
            (binds_made (actor h.path) d s q found calling (sym two ∙ about) is)
          where
            bind_is : ask.Bind y include avoid ≡ ask_at s.x s.goal [] (AtBind q) → avoid ≡ q
            bind_is z = cc z
        binds y include avoid about (AtLoad q n rest) is same = absurd (cc same)
        binds y include avoid about (AtActivate q st) is same = absurd (cc same)
        binds y include avoid about (AtNote q j) is same = absurd (cc same)
        binds y include avoid about (AtInvoke q j) is same = absurd (cc same)

        notes : (y : ℕ) (b : Binding) (i g : ℕ) → y ≡ x → (at : At) → s.at ≡ at → ask.Record y b i g ≡ ask_at s.x s.goal [] at →
            ShowsAsk f.act f.code (post_to (at_node to) h) T a
        notes y b i g about (AtNote q j) is same = let two : y ≡ s.x = cc same in late (sym two ∙ about) (ap is_early is)
        notes y b i g about (AtBind q) is same = absurd (cc same)
        notes y b i g about (AtLoad q n rest) is same = absurd (cc same)
        notes y b i g about (AtActivate q st) is same = absurd (cc same)
        notes y b i g about (AtInvoke q j) is same = absurd (cc same)

        never : (grants : List (ℕ × ℕ)) (excluded included : List (ℕ × ℕ)) (at : At) →
            ask.Confirm grants excluded included ≡ ask_at s.x s.goal [] at → ⊥
        never grants excluded included (AtBind q) same = cc same
        never grants excluded included (AtLoad q n rest) same = cc same
        never grants excluded included (AtActivate q st) same = cc same
        never grants excluded included (AtNote q j) same = cc same
        never grants excluded included (AtInvoke q j) same = cc same

        by : (c : Ask) → a ≡ c → bare c ≡ next_ask [] s → SaysToNaming (at_node to) h c T
        by (ask.Bind y include avoid) is same = λ about. binds y include avoid about s.at refl same
        by (ask.Record y b i g) is same =
            λ about. subst (λ (z : Ask). ShowsAsk f.act f.code (post_to (at_node to) h) T z) is (notes y b i g about s.at refl same)
        by (ask.Confirm grants excluded included) is same = absurd (never grants excluded included s.at same)
        by _ is same = tt

  -- ---- a commit

  module _ (to : ℕ) (h : Head) (a : Ask) (d : Doing) (m : Machine) (found : doing_of (actor h.path) e ≡ Some d)
      (committing : d.now ≡ Committing m) (of : IsOfCommit m to h a) where
    pub commit_says : ShowsAsk f.act f.code (post_to (at_node to) h) T a
    commit_says = subst (λ (b : Ask). ShowsAsk f.act f.code (post_to (at_node to) h) T b) (sym of.same) (commit_requests_are_shown f.act
        f.code x (actor h.path) m (post_to (at_node to) h) T refl refl (sees.commits (actor h.path) d m found committing))

    voting : IsVoting e.tree (actor h.path) (plan_of m)
    voting = subst (IsBusy e.tree (actor h.path)) committing (good.busy (actor h.path) d found)

    -- its path is a top's
    own_top : top_of h.path ≡ actor h.path
    own_top =
        let q = voting.asking in
        let b : Branch = q.branch in
        let path : h.path ≡ b.path = of.path ∙ sym q.path in
        ap top_of path ∙ top_own begun whole.begun (action_of b) (in_from (action_of b) begun (good.known (actor h.path) b q.found))
        (voting.top b q.found) q.unserial ∙ ap actor (sym path)

    pub commit_names : SaysToNaming (at_node to) h a T
    commit_names = by a refl of.same
      where
        no_bind : (y : ℕ) (include : Bool) (avoid : Binding) (n : Machine) → ask.Bind y include avoid ≡ ask_of n to → ⊥
        no_bind y include avoid (Voting p left) same = cc same
        no_bind y include avoid (Preparing p left) same = cc same
        no_bind y include avoid (Confirming p) same = cc same

        no_record : (y : ℕ) (b : Binding) (i g : ℕ) (n : Machine) → ask.Record y b i g ≡ ask_of n to → ⊥
        no_record y b i g (Voting p left) same = cc same
        no_record y b i g (Preparing p left) same = cc same
        no_record y b i g (Confirming p) same = cc same

        by : (c : Ask) → a ≡ c → c ≡ ask_of m to → SaysToNaming (at_node to) h c T
        by (ask.Bind y include avoid) is same = absurd (no_bind y include avoid m same)
        by (ask.Record y b i g) is same = absurd (no_record y b i g m same)
        by (ask.Confirm grants excluded included) is same =
            λ g there. subst (λ (u : Uid). machine.In (machine_state.Confirm (f.act u) (g * 4294967296)) T.net) (sym own_top)
            (subst (λ (z : Ask). ShowsAsk f.act f.code (post_to (at_node to) h) T z) is commit_says g there)
        by _ is same = tt

  -- ---- any request

  pub request_seen : (to : ℕ) (h : Head) (a : Ask) → IsSentBy e to h a →
      ((u : Uid) (g : End) → Contains {X = Uid × End} (ends_in a) (u, g) → IsDecided u g e.tree) → ((u : Uid) (g : End) (b : Branch) →
      Contains {X = Uid × End} (ends_in a) (u, g) → branch_of u e.tree ≡ Some b → b.kind ≢ kind.Serial) → IsRequestSeen (at_node to) h a T
  request_seen to h a sent decided unserial = by sent.doing.now refl
    where
      ended : HaveEnded (at_node to) (ends_in a) T
      ended u g there = decided_ended to u g (decided u g there) (λ b found. unserial u g b there found)

      by : (n : Now) → sent.doing.now ≡ n → IsRequestSeen (at_node to) h a T
      by Idle is = absurd (sent.busy is)
      by (Calling s) is = record {
        says = step_says to h a sent.doing s sent.found is (sent.step s is);
        names = step_names to h a sent.doing s sent.found is (sent.step s is);
        ended = ended;
      }
      by (Committing m) is = record {
        says = λ mine. commit_says to h a sent.doing m sent.found is (sent.commit m is);
        names = commit_names to h a sent.doing m sent.found is (sent.commit m is);
        ended = ended;
      }
