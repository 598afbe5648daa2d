-- Whoever is asked to prepare states gets one at least, for a top that has changed the object of each, by the journal; and may be a store
-- of each.
use Rattle.arj_law_parts.proofs.Words
use Words.{⊤, ◌≡◌, ◌⊎◌, ◌∙◌, ◌||◌, ◌++◌, ◌+◌, ℕ, Bool, true, false, cond, List, [], ◌∷◌, Option, Some, None, refl, sym, ap, subst, inl, inr}
use Words.{⊎_elim, AllByRecursion, IfSome, in_find, in_filter_map, in_from, is_on, numbered, uid_is, uid_eq, is_some}
use Words.{Ask, Body, Disk, Do, Effect, Say, Send, Head, Header, Label, Line, Message, ObjectState, Parts, Post, Seen, Uid, asks, actor}
use Words.{object, In}
use Words.{Confirming, Machine, Node, Preparing, Voting, Plan, Used, ask_of, changed_of, plan_of, state_by, state_for, states_for, has}
use Words.{or_cases, root_of}
use Words.{Committing, Calling, Doing, Idle, Now, doing_of, again_all, begin_action, parent_of, parts_in, restart_outs, tick_outs}
use Words.{with_coord}
use Words.{worked, stopped, is_serial, name}
use Words.{acts as acts_of}
use Words.ask
use Words.body
use Words.list as members
use Rattle.arj_promise.specs.Runs.{HeaderFits}
use Rattle.arj_law_promise.proofs.Terms
use Terms.{AllSo, AreOnce, HasObject, IsNumbered, IsSentBy, IsUsedIn, KeepsAsked, IsGood, IsKept, UsesOf, Up, Walks, up, given, said}
use Terms.{halted, posted}
use Terms.{it, AreQuiet, IsUp, keeps_asked}
use Rattle.arj_law_disk_view.proofs.Terms.{or_left, or_right}
use Rattle.arj_law_disk_view.specs.view.Plans.{plan_by}
use Rattle.arj_law_parts.specs.moves.Seen as seen
use Rattle.arj_law_parts.specs.parts.AskedObjects.{IsNowOf}
use Rattle.arj_law_promise.proofs.meant.Posts.{act_sends, message_sends, tick_sends}
use Rattle.arj_law_promise.proofs.meant.Requests.{meant_keep}
use Rattle.arj_law_promise.proofs.waiting.{Known.used_is, Serving.restart_asks}
use Rattle.arj_law_promise.specs.meant.Meant.{MeantAreKnown}
use Rattle.arj_law_promise.specs.waiting.Waits.{WaitsAreKnown}
use Rattle.arj_law_runs.proofs.Terms.{Act, acts, book, new_book}
use Rattle.arj_law_runs.proofs.coordinators.CoordRooms.{Room}
use Rattle.arj_law_runs.proofs.coordinators.RunCoords as coords
use Rattle.arj_law_runs.proofs.journal.{Models.in_later, Models.its_acts, Models.named_in, Owners.acts_more}
use Rattle.arj_law_runs.proofs.kept.Walked.{same_number}
use Rattle.arj_model.specs.Actions.{act_in}
use Rattle.arj_law_runs.specs.journal.Knows.{AreIdle}
use Rattle.arj_law_runs.specs.journal.Right.{AreRight}
use Rattle.arj_law_serial.proofs.joint.{Clean.object_some, JoinModel.joined, MarkRuns.IsNamed, MarkRuns.named_at}
use Rattle.arj_law_serial.proofs.Terms.{object_line}
use Rattle.arj_law_serial.specs.joint.Joins.{FitsIncludes, has_included}
use Rattle.arj_model.specs.CausePends.{changes, has_some, has_written}
use Rattle.arj_model.specs.Last.{is_among, joins_of}
use Rattle.arj_law_cause.proofs.confirm.{Joined.IsEarly, Joined.early_before, Reached.Reached, Reached.reached_has, Reached.reached_kept}
use Rattle.arj_law_cause.proofs.kinds.Asking.{Stood, found_in, stood_keep}
use Rattle.arj_law_cause.proofs.kinds.Late.{Late, acts_late, message_late, restart_late, tick_late}
use Rattle.arj_law_cause.proofs.rows.Lists.{AreListed, Lists, NowLists}
use Rattle.arj_law_cause.proofs.rows.Stores.{MayStore, StoresAreKnown, joined_stores, stored_keep, stores_later}
use Rattle.arj_law_cause.proofs.spelled.{Commits.of_few, Commits.rooms, Plans.IsOfFew}
use Rattle.arj_law_cause.proofs.votes.{Filled.AreFilled, Filled.Full, Filled.IsFilled, Filled.acts_filled, Filled.fulls}
use Rattle.arj_law_cause.proofs.votes.{Filled.message_filled, Filled.restart_filled, Filled.tick_filled}
use Rattle.arj_law_cause.proofs.votes.{Growing.among_some, Growing.changes_more, Written.changed_written}

-- ---- what is known of the asked

-- the top with this number has written the object, or includes this store for it
abbrev pub ChangesFor : List Line → ℕ → ℕ → ℕ → Type 0
ChangesFor lines id x s = (has_written lines id x || is_among (joins_of lines id x) s) ≡ true

-- the action with this Uid has changed the object of each of these states
abbrev pub ChangesEach : List Line → Uid → List ObjectState → Type 0
ChangesEach lines u states = (a : Act) × In a (acts lines) × (a.uid ≡ u)
    × ((st : ObjectState) → In st states → changes lines a.id (let v = st.uid in v.num) ≡ true)

-- where the lines are early a Prepare is so, and it brings a state
abbrev pub AskChanged : List Line → Option (Head × Ask) → Type 0
AskChanged lines None = ⊤
AskChanged lines (Some (h, ask.Prepare states)) = (states ≡ [] → ⊥) × (IsEarly lines → ChangesEach lines (actor h.path) states)
AskChanged lines (Some (h, a)) = ⊤

-- the node may be a store of the object of each of these states
abbrev pub StoresEach : Header → List Line → ℕ → List ObjectState → Type 0
StoresEach hd lines n states = (st : ObjectState) → In st states → MayStore hd lines (let u = st.uid in u.num) n

-- so may who gets a Prepare
abbrev pub AskStored : Header → List Line → ℕ → Option (Head × Ask) → Type 0
AskStored hd lines n (Some (h, ask.Prepare states)) = StoresEach hd lines n states
AskStored hd lines n o = ⊤

-- both are so of a message
abbrev pub PostKnown : Header → List Line → Post → Type 0
PostKnown hd lines p = AskChanged lines (asks p.message) × AskStored hd lines p.to (asks p.message)

-- so it is of each request that was sent
abbrev pub AsksAreChanged : Header → Seen → Type 0
AsksAreChanged hd M = (p : Post) → seen.In p M.sent → PostKnown hd M.lines p

each_later : (ls ms : List Line) (u : Uid) (states : List ObjectState) → ChangesEach ls u states → ChangesEach (ls ++ ms) u states
each_later ls ms u states (a, there, its, each) = (
  a,
  subst (In a) (sym (acts_more [] ls ms)) (in_later ms (acts ls) a there),
  its,
  λ st i. changes_more ls ms a.id (let v = st.uid in v.num) (each st i),
)

ask_later : (ls ms : List Line) (o : Option (Head × Ask)) → AskChanged ls o → AskChanged (ls ++ ms) o
ask_later ls ms None so = so
ask_later ls ms (Some (h, ask.Prepare states)) so =
    (so.0, λ early. each_later ls ms (actor h.path) states (so.1 (early_before ls ms early)))
ask_later ls ms (Some (h, ask.Confirm grants excluded included)) so = so
ask_later ls ms (Some (h, ask.Bind a b c)) so = so
ask_later ls ms (Some (h, ask.Load a)) so = so
ask_later ls ms (Some (h, ask.Activate a b)) so = so
ask_later ls ms (Some (h, ask.Record a b c d)) so = so
ask_later ls ms (Some (h, ask.Invoke a b c d e)) so = so
ask_later ls ms (Some (h, ask.Vote a b c)) so = so

store_later : (hd : Header) (ls ms : List Line) (n : ℕ) (o : Option (Head × Ask)) → AskStored hd ls n o → AskStored hd (ls ++ ms) n o
store_later hd ls ms n None so = tt
store_later hd ls ms n (Some (h, ask.Prepare states)) so = λ st i. stores_later hd ls ms (let u = st.uid in u.num) n (so st i)
store_later hd ls ms n (Some (h, ask.Confirm grants excluded included)) so = tt
store_later hd ls ms n (Some (h, ask.Bind a b c)) so = tt
store_later hd ls ms n (Some (h, ask.Load a)) so = tt
store_later hd ls ms n (Some (h, ask.Activate a b)) so = tt
store_later hd ls ms n (Some (h, ask.Record a b c d)) so = tt
store_later hd ls ms n (Some (h, ask.Invoke a b c d e)) so = tt
store_later hd ls ms n (Some (h, ask.Vote a b c)) so = tt

post_later : (hd : Header) (ls ms : List Line) (p : Post) → PostKnown hd ls p → PostKnown hd (ls ++ ms) p
post_later hd ls ms p so = (ask_later ls ms (asks p.message) so.0, store_later hd ls ms p.to (asks p.message) so.1)

-- ---- what a coordinator asks

-- stores are asked what the plan has for them
record PreparesBy (c : Words.Coord) (to : ℕ) (u : Uid) (states : List ObjectState) : Type 0 where
  pub doing : Doing
  pub plan : Plan
  pub left : List ℕ
  pub found : doing_of u c ≡ Some doing
  pub now : doing.now ≡ Committing (Preparing plan left)
  pub same : states ≡ states_for to plan

prepares_by : (c : Words.Coord) (to : ℕ) (h : Head) (ss : List ObjectState) → IsSentBy c to h (ask.Prepare ss) →
    PreparesBy c to (actor h.path) ss
prepares_by c to h ss s = by s.doing.now refl
  where
    step : (x : ℕ) (goal : Words.Goal) (at : Words.At) → ask.Prepare ss ≡ Words.ask_at x goal [] at → ⊥
    step x goal (Words.AtBind avoid) is = cc is
    step x goal (Words.AtLoad k t rest) is = cc is
    step x goal (Words.AtActivate k st) is = cc is
    step x goal (Words.AtNote k j) is = cc is
    step x goal (Words.AtInvoke k j) is = cc is

    machine : (m : Machine) → s.doing.now ≡ Committing m → ask.Prepare ss ≡ ask_of m to → PreparesBy c to (actor h.path) ss
    machine (Voting p left) now is = absurd (cc is)
    machine (Preparing p left) now is = record { doing = s.doing; plan = p; left = left; found = s.found; now = now; same = cc is }
    machine (Confirming p) now is = absurd (cc is)

    by : (n : Now) → s.doing.now ≡ n → PreparesBy c to (actor h.path) ss
    by Idle now = absurd (s.busy now)
    by (Calling z) now = absurd (step z.x z.goal z.at (let f = s.step z now in f.same))
    by (Committing m) now = machine m now (let f = s.commit m now in f.same)

module _ (hd : Header) (form : HeaderFits hd) (k : ℕ) (d : Disk) (v : Parts) (N : Seen) (r : Reached hd (up k d v N)) where
  abbrev M : Seen
  M = up k d v N

  abbrev mine : Node
  mine = record { number = k; disk = d; live = Some v }

  stood : Stood (up k d v N)
  stood = reached_has hd Stood (keeps_asked hd Stood (stood_keep hd)) (up k d v N) r

  meant : MeantAreKnown hd (up k d v N)
  meant = reached_has hd (MeantAreKnown hd) (meant_keep hd form) (up k d v N) r

  room : coords.IsSo Room rooms (up k d v N)
  room = reached_has hd (coords.IsSo Room rooms) (keeps_asked hd (coords.IsSo Room rooms) (coords.all_keep_so Room rooms hd)) (up k d v N) r

  kept : IsKept (up k d v N)
  kept = stood.0.0.0.0.0.0.0

  right : AreRight new_book N.lines
  right = let w = kept.1 in w.right

  here : (up k d v N).nodes k ≡ Some (record { number = k; disk = d; live = Some v })
  here = λ i. cond (same_number k i) (Some (record { number = k; disk = d; live = Some v })) (N.nodes k)

  known : WaitsAreKnown hd (up k d v N)
  known = let b = meant in b.0

  its_up : IsUp (let e = known.0.0.0.0 in e.0) N.sent N.labels k d.inc v
  its_up = let e = known.0.0.0.0 in it 0 k d v N (e.0, e.1)

  lists : AreListed (MayStore hd N.lines) v.coord
  lists =
      let s : StoresAreKnown hd (up k d v N) =
      reached_has hd (StoresAreKnown hd) (keeps_asked hd (StoresAreKnown hd) (stored_keep hd)) (up k d v N) r in
      (let z = s.1 in z.coords k (record { number = k; disk = d; live = Some v }) v here refl).1

  module _ (u : Uid) (q : Doing) (m : Machine) (found : doing_of u v.coord ≡ Some q) (now : q.now ≡ Committing m) where
    named : IsNamed (up k d v N) k u q
    named = named_at (up k d v N) kept k (record { number = k; disk = d; live = Some v }) v u q m here refl found now

    includes : FitsIncludes (book N.lines) (name q.label) m
    includes = (stood.0.1 k (record { number = k; disk = d; live = Some v }) v here refl).1 u q m found now

    same_act : includes.0 ≡ named.act
    same_act = let e : ◌≡◌ {A = Option Act} (Some includes.0) (Some named.act) = sym includes.1 ∙ named.named in cc e

    -- the top of the commit
    pub its_act : Act
    its_act = named.act

    pub in_acts : In its_act (acts N.lines)
    unfolding its_act
    in_acts = subst (In named.act) (its_acts N.lines right) (named_in (let B = book N.lines in B.acts) (name q.label) named.act named.named)

    pub its_uid : (let a = its_act in a.uid) ≡ u
    unfolding its_act
    its_uid = named.uid

    abbrev p : Plan
    p = plan_of m

    once : AreOnce (plan_of m).used
    once = (subst (IsNumbered q.req) now (its_up.numbered u q found)).1.0

    used : AllByRecursion (λ (w : Used). IsUsedIn v.coord.tree (root_of (plan_of m).path).num w.x) (plan_of m).used
    used = subst (IsNowOf v.coord.tree) now (let o = its_up.objects in o.works u q found)

    uses : UsesOf (HasObject hd) v.coord.tree
    uses = let w = known.0.1.0.1 in (w.works k (record { number = k; disk = d; live = Some v }) v here refl).1

    -- what it uses is an object of the header
    pub used_there : (w : Used) → In w (plan_of m).used → is_some (object_line hd w.x) ≡ true
    used_there w i = object_some hd w.x (at (plan_of m).used used i)
      where
        at : (us : List Used) → AllByRecursion (λ (z : Used). IsUsedIn v.coord.tree (root_of (plan_of m).path).num z.x) us → In w us →
            HasObject hd w.x
        at [] all i = absurd i
        at (z ∷ zs) all (inl same) = used_is (HasObject hd) v.coord.tree uses (root_of (plan_of m).path).num w.x
            (subst (λ (y : Used). IsUsedIn v.coord.tree (root_of (plan_of m).path).num y.x) same all.0)
        at (z ∷ zs) all (inr i) = at zs all.1 i

    few : IsOfFew m
    few = of_few hd form k d v N (meant, room) u q found m now

    -- a state that is loaded is of its object
    pub loaded_of : (w : Used) → In w (plan_of m).used → (st : ObjectState) → w.loaded ≡ Some st → st.uid ≡ object w.x
    loaded_of w i st is = subst (λ (o : Option ObjectState). IfSome o (λ z. z.uid ≡ object w.x)) is (at (plan_of m).used few.loaded i)
      where
        at : (us : List Used) → AllByRecursion (λ (z : Used). IfSome z.loaded (λ y. y.uid ≡ object z.x)) us → In w us →
            IfSome w.loaded (λ y. y.uid ≡ object w.x)
        at [] all i = absurd i
        at (z ∷ zs) all (inl same) = subst (λ (y : Used). IfSome y.loaded (λ e. e.uid ≡ object y.x)) same all.0
        at (z ∷ zs) all (inr i) = at zs all.1 i

    -- the top has written the object of what it has changed
    pub has_changed : IsEarly N.lines → (w : Used) → In w (plan_of m).used → (st : ObjectState) → changed_of w.x (plan_of m) ≡ Some st →
        has_written N.lines (let a = its_act in a.id) w.x ≡ true
    has_changed early w i st is = changed_written hd w.x form (used_there w i) k d v N r early u q m found now st is its_act in_acts its_uid

    -- and includes stores of the object for which it has these
    pub has_joined : (w : Used) → In w (plan_of m).used → (s : ℕ) → has w.joins s ≡ true →
        is_among (joins_of N.lines (let a = its_act in a.id) w.x) s ≡ true
    unfolding its_act in_acts
    has_joined w i s on = sym (joined N.lines right w.x named.act in_acts s)
        ∙ subst (λ (z : Act). has_included (book N.lines) z.uid w.x s ≡ true) same_act (sym (let l = includes.3 in l.same w.x s)
        ∙ (λ j. has (let y = plan_by (found_in (plan_of m).used once w i j) (changed_of w.x (plan_of m)) in y.joins) s) ∙ on)

    -- its name is that of the commit
    pub its_name : act_in (book N.lines).acts (name q.label) ≡ Some its_act
    unfolding its_act
    its_name = named.named

    -- so the top has written the object of what a store is sent, or includes this store
    pub sends_written : IsEarly N.lines → (to : ℕ) (st : ObjectState) → In st (states_for to (plan_of m)) →
        ChangesFor N.lines (let a = its_act in a.id) (let z = st.uid in z.num) to
    sends_written early to st i = by (changed_of w.0.x (plan_of m)) refl
      where
        w : (w : Used) × In w (plan_of m).used × (state_for to (plan_of m) w ≡ Some st)
        w = in_filter_map (state_for to (plan_of m)) st (plan_of m).used i

        wrote : (cs : ObjectState) → changed_of w.0.x (plan_of m) ≡ Some cs → (b : Bool) → cond b (Some cs) None ≡ Some st →
            ChangesFor N.lines (let a = its_act in a.id) (let z = st.uid in z.num) to
        wrote cs is true same =
            let one : cs ≡ st = (let e : ◌≡◌ {A = Option ObjectState} (Some cs) (Some st) = same in cc e) in
            let f = in_find (λ (z : ObjectState). uid_eq z.uid (object w.0.x)) cs (let y = plan_of m in y.changed) is in
            subst (λ y. ChangesFor N.lines (let a = its_act in a.id) y to) (sym (ap (λ (z : ObjectState). let y = z.uid in y.num)
            (sym one) ∙ ap (λ (z : Uid). z.num) (uid_is cs.uid
            (object w.0.x) f.1)))
            (or_left (has_written N.lines (let a = its_act in a.id) w.0.x) (is_among (joins_of N.lines (let a = its_act in a.id) w.0.x) to)
            (has_changed early w.0 w.1 cs is))
        wrote cs is false same = let no_way : ◌≡◌ {A = Option ObjectState} None (Some st) = same in absurd (cc no_way)

        join : (b : Bool) → has w.0.joins to ≡ b → cond b w.0.loaded None ≡ Some st → ChangesFor N.lines (let a = its_act in a.id)
            (let z = st.uid in z.num) to
        join true on same = subst (λ y. ChangesFor N.lines (let a = its_act in a.id) y to) (sym (ap (λ (z : Uid). z.num)
            (loaded_of w.0 w.1 st same)))
            (or_right (has_written N.lines (let a = its_act in a.id) w.0.x) (is_among (joins_of N.lines (let a = its_act in a.id) w.0.x) to)
            (has_joined w.0 w.1 to on))
        join false on same = let no_way : ◌≡◌ {A = Option ObjectState} None (Some st) = same in absurd (cc no_way)

        by : (o : Option ObjectState) → changed_of w.0.x (plan_of m) ≡ o → ChangesFor N.lines (let a = its_act in a.id)
            (let z = st.uid in z.num) to
        by None is = join (has w.0.joins to) refl (ap (state_by to w.0) (sym is) ∙ w.2)
        by (Some cs) is = wrote cs is (has w.0.stores to || has w.0.joins to) (ap (state_by to w.0) (sym is) ∙ w.2)

    -- and may be a store of it
    pub sends_stored : (to : ℕ) (st : ObjectState) → In st (states_for to (plan_of m)) → MayStore hd N.lines (let z = st.uid in z.num) to
    sends_stored to st i = by (changed_of w.0.x (plan_of m)) refl
      where
        w : (w : Used) × In w (plan_of m).used × (state_for to (plan_of m) w ≡ Some st)
        w = in_filter_map (state_for to (plan_of m)) st (plan_of m).used i

        at : (us : List Used) → AllByRecursion (λ (z : Used). Lists (MayStore hd N.lines) z.x z.stores) us → In w.0 us →
            Lists (MayStore hd N.lines) w.0.x w.0.stores
        at [] all j = absurd j
        at (z ∷ zs) all (inl same) = subst (λ (y : Used). Lists (MayStore hd N.lines) y.x y.stores) same all.0
        at (z ∷ zs) all (inr j) = at zs all.1 j

        wrote : (cs : ObjectState) → changed_of w.0.x (plan_of m) ≡ Some cs → (b : Bool) → (has w.0.stores to || has w.0.joins to) ≡ b →
            cond b (Some cs) None ≡ Some st → MayStore hd N.lines (let z = st.uid in z.num) to
        wrote cs is true on same =
            let one : cs ≡ st = (let e : ◌≡◌ {A = Option ObjectState} (Some cs) (Some st) = same in cc e) in
            let f = in_find (λ (z : ObjectState). uid_eq z.uid (object w.0.x)) cs (let y = plan_of m in y.changed) is in
            subst (λ y. MayStore hd N.lines y to) (sym (ap (λ (z : ObjectState). let y = z.uid in y.num)
            (sym one) ∙ ap (λ (z : Uid). z.num) (uid_is cs.uid
            (object w.0.x) f.1)))
            (⊎_elim (λ old. at (plan_of m).used (subst (NowLists (MayStore hd N.lines)) now (lists.works u q found)) w.1 to old)
            (λ new. joined_stores hd N.lines (let a = its_act in a.id) w.0.x to (has_joined w.0 w.1 to new))
            (or_cases (has w.0.stores to) (has w.0.joins to) on))
        wrote cs is false on same = let no_way : ◌≡◌ {A = Option ObjectState} None (Some st) = same in absurd (cc no_way)

        join : (b : Bool) → has w.0.joins to ≡ b → cond b w.0.loaded None ≡ Some st → MayStore hd N.lines (let z = st.uid in z.num) to
        join true on same = subst (λ y. MayStore hd N.lines y to) (sym (ap (λ (z : Uid). z.num) (loaded_of w.0 w.1 st same)))
            (joined_stores hd N.lines (let a = its_act in a.id) w.0.x to (has_joined w.0 w.1 to on))
        join false on same = let no_way : ◌≡◌ {A = Option ObjectState} None (Some st) = same in absurd (cc no_way)

        by : (o : Option ObjectState) → changed_of w.0.x (plan_of m) ≡ o → MayStore hd N.lines (let z = st.uid in z.num) to
        by None is = join (has w.0.joins to) refl (ap (state_by to w.0) (sym is) ∙ w.2)
        by (Some cs) is = wrote cs is (has w.0.stores to || has w.0.joins to) refl (ap (state_by to w.0) (sym is) ∙ w.2)

    -- and so has changed it
    pub sends_changed : IsEarly N.lines → (to : ℕ) (st : ObjectState) → In st (states_for to (plan_of m)) →
        changes N.lines (let a = its_act in a.id) (let z = st.uid in z.num) ≡ true
    sends_changed early to st i = ⊎_elim
        (λ wrote. or_left (has_written N.lines (let a = its_act in a.id) (let z = st.uid in z.num))
        (has_some (joins_of N.lines (let a = its_act in a.id) (let z = st.uid in z.num))) wrote)
        (λ among. or_right (has_written N.lines (let a = its_act in a.id) (let z = st.uid in z.num))
        (has_some (joins_of N.lines (let a = its_act in a.id) (let z = st.uid in z.num)))
        (among_some (joins_of N.lines (let a = its_act in a.id) (let z = st.uid in z.num)) to among))
        (or_cases (has_written N.lines (let a = its_act in a.id) (let z = st.uid in z.num))
        (is_among (joins_of N.lines (let a = its_act in a.id) (let z = st.uid in z.num)) to) (sends_written early to st i))

  sent_so : (to : ℕ) (h : Head) (a : Ask) → IsSentBy v.coord to h a → IsFilled (Some (h, a)) → AskChanged N.lines (Some (h, a))
  sent_so to h (ask.Prepare states) s filled =
      let b = prepares_by v.coord to h states s in (
        filled,
        λ early. (
          its_act (actor h.path) b.doing (Preparing b.plan b.left) b.found b.now,
          in_acts (actor h.path) b.doing (Preparing b.plan b.left) b.found b.now,
          its_uid (actor h.path) b.doing (Preparing b.plan b.left) b.found b.now,
          λ st i. sends_changed (actor h.path) b.doing (Preparing b.plan b.left) b.found b.now early to st
              (subst (In st) b.same i),
        ),
      )
  sent_so to h (ask.Confirm grants excluded included) s filled = tt
  sent_so to h (ask.Bind a b c) s filled = tt
  sent_so to h (ask.Load a) s filled = tt
  sent_so to h (ask.Activate a b) s filled = tt
  sent_so to h (ask.Record a b c e) s filled = tt
  sent_so to h (ask.Invoke a b c e f) s filled = tt
  sent_so to h (ask.Vote a b c) s filled = tt

  sent_stored : (to : ℕ) (h : Head) (a : Ask) → IsSentBy v.coord to h a → AskStored hd N.lines to (Some (h, a))
  sent_stored to h (ask.Prepare states) s =
      let b = prepares_by v.coord to h states s in
      λ st i. sends_stored (actor h.path) b.doing (Preparing b.plan b.left) b.found b.now to st (subst (In st) b.same i)
  sent_stored to h (ask.Confirm grants excluded included) s = tt
  sent_stored to h (ask.Bind a b c) s = tt
  sent_stored to h (ask.Load a) s = tt
  sent_stored to h (ask.Activate a b) s = tt
  sent_stored to h (ask.Record a b c e) s = tt
  sent_stored to h (ask.Invoke a b c e f) s = tt
  sent_stored to h (ask.Vote a b c) s = tt

-- ---- along effects

-- each is so, or comes with these effects, behind which nothing is done on the disk
abbrev AreOrNew : Header → Parts → List Effect → Seen → Type 0
AreOrNew hd v es M = (p : Post) → seen.In p M.sent → PostKnown hd M.lines p
    ⊎ (((h : Head) (a : Ask) → asks p.message ≡ Some (h, a) → IsSentBy v.coord p.to h a) × IsFilled (asks p.message) × AreIdle es)

module _ (hd : Header) (form : HeaderFits hd) where
  walk : (e k : ℕ) (v : Parts) (outs : List Effect) (d : Disk) (M : Seen) → AllSo v.coord outs → AreFilled outs → Late outs →
      AreOrNew hd v outs M → Walks (Reached hd) e k outs (Up (Reached hd) k v) d M →
      Walks (AsksAreChanged hd) e k outs (Up (AsksAreChanged hd) k v) d M
  walk e k v [] d M so filled late are reached = λ p there. ⊎_elim (λ old. old) (λ new. by p (asks p.message) refl new.0 new.1)
      (are p there)
    where
      by : (p : Post) (o : Option (Head × Ask)) → asks p.message ≡ o → ((h : Head) (a : Ask) → asks p.message ≡ Some (h, a) →
          IsSentBy v.coord p.to h a) → IsFilled (asks p.message) → PostKnown hd M.lines p
      by p None is new full = subst (λ o. AskChanged M.lines o × AskStored hd M.lines p.to o) (sym is) (tt, tt)
      by p (Some q) is new full = subst (λ o. AskChanged M.lines o × AskStored hd M.lines p.to o) (sym is) (
        sent_so hd form k d v M reached p.to q.0 q.1 (new q.0 q.1 is) (subst IsFilled is full),
        sent_stored hd form k d v M reached p.to q.0 q.1 (new q.0 q.1 is),
      )
  walk e k v (Do w ∷ es) d M so filled late are reached = (
    λ how p there. post_later hd M.lines (numbered e (body.Halted k ∷ [])) p (was p there),
    walk e k v es (worked w d) M so.1 filled late (λ p there. inl (was p there)) reached.1,
  )
    where
      was : AsksAreChanged hd M
      was p there = ⊎_elim (λ old. old) (λ new. let z : AreIdle (Do w ∷ es) = new.2 in absurd z.0) (are p there)
  walk e k v (Say b ∷ es) d M so filled late are reached = walk e k v es d (said e (b ∷ []) M) so.1 filled late
      (λ p there. ⊎_elim (λ old. inl (post_later hd M.lines (numbered e (b ∷ [])) p old))
      (λ new. let z : AreIdle (Say b ∷ es) = new.2 in inr (new.0, new.1, z.1)) (are p there)) reached
  walk e k v (Send to m ∷ es) d M so filled late are reached = λ more quiet. walk e k v es d
      (said e more (posted (record { from = k; to = to; message = m }) M)) so.1 filled.1 late.1
      (λ p there. ⊎_elim (λ same. here more p same)
      (λ old. ⊎_elim (λ is. inl (post_later hd M.lines (numbered e more) p is))
      (λ new. let z : AreIdle (Send to m ∷ es) = new.2 in inr (new.0, new.1, z.1)) (are p old)) there) (reached more quiet)
    where
      here : (more : List Body) (p : Post) → record { from = k; to = to; message = m } ≡ p →
          PostKnown hd (M.lines ++ numbered e more) p
          ⊎ (((h : Head) (a : Ask) → asks p.message ≡ Some (h, a) → IsSentBy v.coord p.to h a) × IsFilled (asks p.message) × AreIdle es)
      here more p same = ⊎_elim
          (λ none. inl (subst (λ o. AskChanged (M.lines ++ numbered e more) o × AskStored hd (M.lines ++ numbered e more) p.to o)
          (sym none ∙ ap (λ (q : Post). asks q.message) same) (tt, tt)))
          (λ idle. inr (
            (λ h a is. subst (λ (q : Post). IsSentBy v.coord q.to h a) same
                (so.0 h a (ap (λ (q : Post). asks q.message) same ∙ is))),
            subst (λ (q : Post). IsFilled (asks q.message)) same filled.0,
            idle,
          ))
          late.0

  beside : (e k : ℕ) (v : Parts) (outs : List Effect) (d : Disk) (M : Seen) → AllSo v.coord outs → AreFilled outs → Late outs →
      AsksAreChanged hd M → Walks (Reached hd) e k outs (Up (Reached hd) k v) d M →
      Walks (λ N. Reached hd N × AsksAreChanged hd N) e k outs (Up (λ N. Reached hd N × AsksAreChanged hd N) k v) d M
  beside e k v outs d M so filled late are reached = Terms.walks_both (Reached hd) (AsksAreChanged hd) e k outs (Up (Reached hd) k v)
      (Up (AsksAreChanged hd) k v) d M reached (walk e k v outs d M so filled late (λ p there. inl (are p there)) reached)

  -- ---- in every run

  good : (k : ℕ) (d : Disk) (t : Parts) (M : Seen) → Reached hd (up k d t M) → IsGood (up k d t M)
  good k d t M r = let z : IsKept (up k d t M) = (stood hd form k d t M r).0.0.0.0.0.0.0 in z.0

  full : (k : ℕ) (d : Disk) (t : Parts) (M : Seen) → Reached hd (up k d t M) → Full t.coord
  full k d t M r =
      let f : coords.IsSo Full fulls (up k d t M) = reached_has hd (coords.IsSo Full fulls)
      (keeps_asked hd (coords.IsSo Full fulls) (coords.all_keep_so Full fulls hd)) (up k d t M) r in
      f.1 k (record { number = k; disk = d; live = Some t }) t (here hd form k d t M r) refl

  pub changed_keep : KeepsAsked hd (λ M. Reached hd M × AsksAreChanged hd M)
  changed_keep = let keeps = reached_kept hd in record {
    quiet = λ e bs M quiet g. (keeps.quiet e bs M quiet g.0, λ p there. post_later hd M.lines (numbered e bs) p (g.1 p there));
    stop = λ e k d live M g.
        (keeps.stop e k d live M g.0, λ p there. post_later hd M.lines (numbered e (body.Halted k ∷ [])) p (g.1 p there));
    message = λ e k d t v from m outs M g there meant is. let b = good k d t M g.0 in
        beside e k v outs d M (message_sends b.0 e k d t M b.1 from m v outs is) (message_filled k d t v from m outs (full k d t M g.0) is)
        (message_late k d t v from m outs is) g.1 (keeps.message e k d t v from m outs M g.0 there meant is);
    act = λ e k d t i M is asks free g. let did = acts_of i d.intents t.coord in let b = good k d t M g.0 in
        beside e k (with_coord t did.part) did.outs d M (act_sends b.0 e k d t M b.1 i is) (acts_filled t.coord
        (full k d t M g.0) i d.intents)
        (acts_late i d.intents t.coord) g.1 (keeps.act e k d t i M is asks free g.0);
    begin = λ e k d t l how parent M new may free g. let did = begin_action l how parent (parent_of parent t.coord) t.coord in
        beside e k (with_coord t did.part) did.outs d (given l (record { node = k; serial = is_serial how }) M) (tt, tt) tt tt g.1
        (keeps.begin e k d t l how parent M new may free g.0);
    tick = λ e k d t M g. let b = good k d t M g.0 in
        beside e k (with_coord t (again_all t.coord.doings t.coord).part) (tick_outs (record { number = k; disk = d; live = Some t }) t) d M
        (tick_sends b.0 e k d t M b.1) (tick_filled (record { number = k; disk = d; live = Some t }) t (full k d t M g.0))
        (tick_late (record { number = k; disk = d; live = Some t }) t) g.1 (keeps.tick e k d t M g.0);
    restart = λ e k d M g. beside e k (parts_in k (d.inc + 1) d) (restart_outs hd k (d.inc + 1) d) d M
        (restart_asks hd k (d.inc + 1) d) (restart_filled hd k (d.inc + 1) d) (restart_late hd k (d.inc + 1) d) g.1
        (keeps.restart e k d M g.0);
    first = λ st formed. (keeps.first st formed, λ p there. absurd there);
  }
