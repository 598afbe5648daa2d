-- Coordinators stay sound, whatever they do and hear, where votes that they wait for fit their plans, and commits of tops that aren't
-- refused are the first of their roots.
use Rattle.arj_law_parts.proofs.Words
use Words.{◌≡◌, ◌≢◌, ℕ, ◌+◌, ◌==◌, ◌&&◌, zero, suc, List, [], ◌∷◌, ◌++◌, Bool, true, false, cond, Option, Some, None, refl, sym, ◌∙◌, ap}
use Words.{subst, inl, inr, ⊎_elim, Contains, arith, unwrap_or, AllByRecursion, list_any, and_parts, uid_cases, In, in_from, Uid, Ask}
use Words.{Asked, End, Kind, Label, ObjectState, Op, Path, is_on, last_uid, object, uid_eq, uids_of, Reply, actor, ask_kind, reply_kind}
use Words.{top_of, again_all, again_now, asks_all, asks_node, begin_action, call, call_steps, commit_action, commit_open, commit_top}
use Words.{commits_in, doomed_by, give_up, give_up_doing, gives_up, goes_on, granted_by, heard, heard_by, heard_doing, heard_none}
use Words.{heard_now, heard_call, include, kept_at, last_req, moved_commit, next_req, notes_grant, renewed, root_heard, root_lost}
use Words.{root_moved, step_call, step_commit, store_of, waits_for_call, waits_for_commit, is_invoke_ask, Answered, CallEnd, CallStep}
use Words.{Changed, Conflict, Ended, Included, Lost, Moved, On, Steps, answered, given_up, next_ask, next_node, start, Aborts, Asks}
use Words.{CommitStep, Decides, Machine, Plan, Stays, Voting, has_record, left_of, participants, plan_of, servers_of, Calling, Committing}
use Words.{Coord, Doing, Grant, Idle, Joined, Keeping, Now, Root, Said, Went, change_doing, doing_of, is_free, joined_with, keeping_of}
use Words.{new_coord, no_root, on_doing, on_root, plan_for, root_at, same_join, same_said, same_went, set_doing, with_keeping, with_said}
use Words.{with_went, later_state, Did, Intent, Served, abort_action, aborts_with, acked, acked_by, acked_left, all_aborted, decide, ended}
use Words.{root_after, states_after, at_number, at_uid, has, put_number, put_uid, unbound, without_number, Input, acts, branch_named}
use Words.{on_branch, parent_of, Branch, Tree, at_place, behind, doomed_at, ended_at, ends_of, is_own, open_below, root_of, uses_object}
use Words.{put_same as put_number_same, put_other as put_number_other, one_or_two}
use Words.cause
use Words.ending
use Words.kind
use Words.loaded
use Words.voted
use Words.calls
use Words.commit
use Words.order
use Words.input
use Rattle.arj_law_disk_view.proofs.Terms
use Terms.{paths_of, IsSure, begun_tree, IsStepOf, answer_step, doomed_same, giveup_step, uses_same, vote_step, get_more, own_is}
use Terms.{doing_other, doing_put, end_tree_on, some_is, test_is, CommitsAt, IsFirstAt, IsFromRoot, Among, Uses, AreChanged, AreIncluded}
use Terms.{AreOnPaths, AreSound, FitsVote, IsOwnRoot, IsSound, IsSoundNow}
use Rattle.arj_law_disk_view.proofs.running
use running.{Included.starts_included}
use running.SoundPlans.{IsNextSound, answer_sound, given_up_sound, later_of, put_keyed, start_sound}
use Rattle.arj_law_disk_view.proofs.view
use view.{Doings.doing_tree}
use view.CallWalks.{EndIs, StepIs, lost_is, step_is}
use Rattle.arj_law_disk_view.specs.running.Sound.{HasJoin, IsRootPath}
use Rattle.arj_law_parts.proofs.parts.LivesNamed.{keyed_at}
use Rattle.arj_law_runs.proofs.calls.CommitPlans.{IsNextOf, answer_next, giveup_next, heard_plan, heard_same, vote_next}

-- ---- a root

none_own : (t : Tree) (n : ℕ) → IsOwnRoot t n no_root
none_own t n = record { joined = tt; states = tt; said = tt }

pub root_own : (root : Uid) (c : Coord) → AreSound c → IsOwnRoot c.tree root.num (root_at root c)
root_own root c s = keyed_at (λ n r. IsOwnRoot c.tree n r) no_root root.num (none_own c.tree root.num) c.roots s.roots

-- what a root was answered is by paths that it begins
pub said_from : (c : Coord) → AreSound c → (root : Uid) (s : Said) → is_own root c.tree ≡ true →
    Contains (let r = root_at root c in r.said) s → IsFromRoot root s.path
said_from c sound root s own there =
    let r = root_own root c sound in
    let p = one (let z = root_at root c in z.said) r.said (in_from s (let z = root_at root c in z.said) there) in
    subst (λ u. IsFromRoot u s.path) (own_is p.root root c.tree p.own own p.number) p.from
  where
    one : (all : List Said) → AllByRecursion (λ (w : Said). IsRootPath c.tree root.num w.path) all → In s all →
        IsRootPath c.tree root.num s.path
    one [] its i = absurd i
    one (w ∷ all) its (inl same) = subst (λ (z : Said). IsRootPath c.tree root.num z.path) same its.0
    one (w ∷ all) its (inr i) = one all its.1 i

went_own : {t : Tree} {n : ℕ} (w : Went) (r : Root) → IsOwnRoot t n r → IsOwnRoot t n (with_went w r)
went_own {t} {n} w r own = by (list_any (same_went w) r.went)
  where
    by : (b : Bool) → IsOwnRoot t n (cond b r (record r { went = r.went ++ w ∷ [] }))
    by true = own
    by false = record { joined = own.joined; states = own.states; said = own.said }

said_own : {t : Tree} {n : ℕ} (s : Said) (r : Root) → IsRootPath t n s.path → IsOwnRoot t n r → IsOwnRoot t n (with_said s r)
said_own {t} {n} s r its own = by (list_any (same_said s) r.said)
  where
    more : (all : List Said) → AllByRecursion (λ (w : Said). IsRootPath t n w.path) all →
        AllByRecursion (λ (w : Said). IsRootPath t n w.path) (all ++ s ∷ [])
    more [] each = (its, tt)
    more (w ∷ all) each = (each.0, more all each.1)

    by : (b : Bool) → IsOwnRoot t n (cond b r (record r { said = r.said ++ s ∷ [] }))
    by true = own
    by false = record { joined = own.joined; states = own.states; said = more r.said own.said }

abbrev Own : Joined → Type 0
Own j = (let s = j.loaded in s.uid) ≡ object j.x

join_own : (j : Joined) (js : List Joined) → Own j → AllByRecursion Own js → AllByRecursion Own (joined_with j js)
join_own j [] its all = (its, tt)
join_own j (i ∷ js) its all = by (same_join j i) refl (join_own j js its all.1)
  where
    by : (b : Bool) → same_join j i ≡ b → AllByRecursion Own (joined_with j js) →
        AllByRecursion Own (cond b (record i { loaded = later_state i.loaded j.loaded } ∷ js) (i ∷ joined_with j js))
    by true same ih = (
      later_of i.x i.loaded j.loaded all.0 (its ∙ ap object (test_is j.x i.x (and_parts (j.x == i.x) (j.store == i.store)
          (and_parts (uid_eq (last_uid j.path) (last_uid i.path)) ((j.x == i.x) && (j.store == i.store)) same).1).0)),
      all.1,
    )
    by false other ih = (all.0, ih)

heard_own : {t : Tree} {n : ℕ} (s : Steps) (e : CallEnd) → EndIs (λ st. st.uid ≡ object s.x) e → IsRootPath t n (uids_of s.path) →
    (r : Root) → IsOwnRoot t n r → IsOwnRoot t n (root_heard s e r)
heard_own s (Answered a) its path r own = said_own (record { path = uids_of s.path; x = s.x }) r path own
heard_own s (Included st) its path r own = record {
  joined = join_own (record { path = uids_of s.path; x = s.x; store = store_of s.goal; loaded = st }) r.joined its own.joined;
  states = own.states;
  said = own.said;
}
heard_own s (Conflict holder m k) its path r own = own
heard_own s (Changed k w) its path r own = own
heard_own s (Lost k b) its path r own = own

keep_own : {t : Tree} {n : ℕ} (x : ℕ) (k : Keeping) (r : Root) → IsOwnRoot t n r → IsOwnRoot t n (with_keeping x k r)
keep_own x k r own = record { joined = own.joined; states = own.states; said = own.said }

granted_own : {t : Tree} {n : ℕ} (g : Option Grant) (r : Root) → IsOwnRoot t n r → IsOwnRoot t n (notes_grant g r)
granted_own None r own = own
granted_own (Some g) r own = record { joined = own.joined; states = own.states; said = own.said }

moved_own : {t : Tree} {n : ℕ} (s : Steps) (a : Reply) (m : Moved) (r : Root) → IsOwnRoot t n r → IsOwnRoot t n (root_moved s a m r)
moved_own s a m r own = let g = granted_own (granted_by (top_of s.path) s.x a) r own in
    record { joined = g.joined; states = g.states; said = g.said }

after_own : {t : Tree} {n : ℕ} (p : Plan) (r : Root) → AreChanged p [] → IsOwnRoot t n r → IsOwnRoot t n (root_after p r)
after_own p r changed own =
    record { joined = own.joined; said = own.said; states = each p.changed r.states (λ s i. let u = changed.used s i in u.own) own.states }
  where
    each : (ss : List ObjectState) (states : List (ℕ × ObjectState)) → ((s : ObjectState) → Among s ss → s.uid ≡ object s.uid.num) →
        AllByRecursion (λ (e : ℕ × ObjectState). (let s = e.1 in s.uid) ≡ object e.0) states
        → AllByRecursion (λ (e : ℕ × ObjectState). (let s = e.1 in s.uid) ≡ object e.0) (states_after ss states)
    each [] states its all = all
    each (s ∷ ss) states its all = each ss (order.put_number s.uid.num s states) (λ w i. its w (inr i))
        (put_keyed (λ n (v : ObjectState). v.uid ≡ object n) s.uid.num s states (its s (inl refl)) all)

-- ---- what it has included

abbrev KeepsJoins : (Root → Root) → Type 0
KeepsJoins f = (us : List Uid) (x : ℕ) (r : Root) → HasJoin us x r → HasJoin us x (f r)

went_joins : (w : Went) → KeepsJoins (with_went w)
went_joins w us x r h = by (list_any (same_went w) r.went)
  where
    by : (b : Bool) → HasJoin us x (cond b r (record r { went = r.went ++ w ∷ [] }))
    by true = h
    by false = h

said_joins : (s : Said) → KeepsJoins (with_said s)
said_joins s us x r h = by (list_any (same_said s) r.said)
  where
    by : (b : Bool) → HasJoin us x (cond b r (record r { said = r.said ++ s ∷ [] }))
    by true = h
    by false = h

abbrev IsAmong : List Uid → ℕ → List Joined → Type 0
IsAmong us x js = (j : Joined) × In j js × (j.path ≡ us) × (j.x ≡ x)

join_joins : (n : Joined) (us : List Uid) (x : ℕ) (js : List Joined) → IsAmong us x js → IsAmong us x (joined_with n js)
join_joins n us x [] h = absurd h.1
join_joins n us x (i ∷ js) h = by (same_join n i) h (join_joins n us x js)
  where
    by : (b : Bool) → IsAmong us x (i ∷ js) → (IsAmong us x js → IsAmong us x (joined_with n js)) →
        IsAmong us x (cond b (record i { loaded = later_state i.loaded n.loaded } ∷ js) (i ∷ joined_with n js))
    by true (j, inl same, path, of) ih = (
      record i { loaded = later_state i.loaded n.loaded },
      inl refl,
      ap (λ (z : Joined). z.path) same ∙ path,
      ap (λ (z : Joined). z.x) same ∙ of,
    )
    by true (j, inr old, path, of) ih = (j, inr old, path, of)
    by false (j, inl same, path, of) ih = (j, inl same, path, of)
    by false (j, inr old, path, of) ih = let r = ih (j, old, path, of) in (r.0, inr r.1, r.2, r.3)

heard_joins : (s : Steps) (e : CallEnd) → KeepsJoins (root_heard s e)
heard_joins s (Answered a) us x r h = said_joins (record { path = uids_of s.path; x = s.x }) us x r h
heard_joins s (Included st) us x r h =
    join_joins (record { path = uids_of s.path; x = s.x; store = store_of s.goal; loaded = st }) us x r.joined h
heard_joins s (Conflict holder m k) us x r h = h
heard_joins s (Changed k w) us x r h = h
heard_joins s (Lost k b) us x r h = h

moved_joins : (s : Steps) (a : Reply) (m : Moved) → KeepsJoins (root_moved s a m)
moved_joins s a m us x r h = by (granted_by (top_of s.path) s.x a)
  where
    by : (g : Option Grant) → HasJoin us x (notes_grant g r)
    by None = h
    by (Some g) = h

grows : (root : Uid) (f : Root → Root) (c : Coord) → KeepsJoins f → (r : Uid) (us : List Uid) (x : ℕ) → HasJoin us x (root_at r c) →
    HasJoin us x (root_at r (on_root root f c))
grows root f c joins r us x h = ⊎_elim
    (λ same. subst (HasJoin us x) (sym (ap (λ n. unwrap_or (at_number n (put_number root.num (f (root_at root c)) c.roots)) no_root)
    (sym same) ∙ ap (λ o. unwrap_or o no_root) (put_number_same root.num (f (root_at root c)) c.roots)))
    (joins us x (root_at root c) (subst (HasJoin us x) (ap (λ n. unwrap_or (at_number n c.roots) no_root) (sym same)) h)))
    (λ apart. subst (HasJoin us x) (sym (ap (λ o. unwrap_or o no_root)
    (put_number_other root.num r.num (f (root_at root c)) c.roots apart.0))) h) (one_or_two root.num r.num)

included_on : (r s : Root) (p : Plan) → ((us : List Uid) (x : ℕ) → HasJoin us x r → HasJoin us x s) → AreIncluded r p → AreIncluded s p
included_on r s p grow all v i on = let a = all v i on in
    record { path = a.path; joined = grow a.path v.x a.joined; on = a.on; lives = a.lives }

-- ---- from one coordinator to the next

sound_root : (root : Uid) (f : Root → Root) (c : Coord) → ((r : Root) → IsOwnRoot c.tree root.num r → IsOwnRoot c.tree root.num (f r)) →
    KeepsJoins f → AreSound c → AreSound (on_root root f c)
sound_root root f c step joins s = record {
  works = s.works;
  alone = s.alone;
  roots = put_keyed (λ n r. IsOwnRoot c.tree n r) root.num (f (root_at root c)) c.roots (step (root_at root c) (root_own root c s)) s.roots;
  includes = λ u q m at now. included_on (root_at (root_of (plan_of m).path) c) (root_at (root_of (plan_of m).path) (on_root root f c))
      (plan_of m) (grows root f c joins (root_of (plan_of m).path)) (s.includes u q m at now);
}

-- what the action waits for is sound, and if it is a commit, it is the only one of its root
abbrev IsFirstNow : Coord → Uid → Now → Type 0
IsFirstNow c u (Committing m) = IsFirstAt c (root_of (plan_of m).path) u
IsFirstNow c u _ = Unit {0}

-- what it includes the root has, if it is a commit
abbrev IsIncludedNow : Coord → Now → Type 0
IsIncludedNow c (Committing m) = AreIncluded (root_at (root_of (plan_of m).path) c) (plan_of m)
IsIncludedNow c _ = Unit {0}

sound_do : (u : Uid) (f : Doing → Doing) (c : Coord) → ((d : Doing) → doing_of u c ≡ Some d →
    (let q = f d in IsSoundNow q.now × IsFirstNow c u q.now × IsIncludedNow c q.now)) → AreSound c → AreSound (on_doing u f c)
sound_do u f c so s = by (doing_of u c) refl
  where
    by : (o : Option Doing) → doing_of u c ≡ o → AreSound (change_doing f u c o)
    by None none = s
    by (Some old) found = record {
      works = λ w d at. ⊎_elim (λ same. subst (λ (q : Doing). IsSoundNow q.now)
          (some_is (doing_put u (f old) old c found) (ap (λ v. doing_of v (set_doing u (f old) c)) (sym same) ∙ at)) (so old found).0)
          (λ other. s.works w d (sym (doing_other u w (f old) old c found other) ∙ at)) (uid_cases w u);
      alone = λ root v p w q. ⊎_elim
          (λ vu. ⊎_elim (λ wu. wu ∙ sym vu) (λ wo. fresh root v w vu wo p q ∙ sym vu) (uid_cases w u))
          (λ vo. ⊎_elim (λ wu. wu ∙ sym (fresh root w v wu vo q p)) (λ wo. s.alone root v (was v vo root p) w (was w wo root q))
          (uid_cases w u))
          (uid_cases v u);
      roots = s.roots;
      includes = λ w d m at now. ⊎_elim (λ same. subst (IsIncludedNow c) (ap (λ (x : Doing). x.now) (some_is
          (doing_put u (f old) old c found) (ap (λ v. doing_of v (set_doing u (f old) c)) (sym same) ∙ at)) ∙ now) (so old found).2)
          (λ other. s.includes w d m (sym (doing_other u w (f old) old c found other) ∙ at) now) (uid_cases w u);
    }
      where
        e : Coord
        e = set_doing u (f old) c

        was : (v : Uid) → v ≢ u → (root : Uid) → CommitsAt (set_doing u (f old) c) root v → CommitsAt c root v
        was v other root p = (p.0, p.1, sym (doing_other u v (f old) old c found other) ∙ p.2, p.3, p.4)

        fresh : (root v w : Uid) → v ≡ u → w ≢ u → CommitsAt (set_doing u (f old) c) root v → CommitsAt (set_doing u (f old) c) root w →
            w ≡ u
        fresh root v w same other p q =
            let it : f old ≡ p.0 = some_is (doing_put u (f old) old c found) (ap (λ z. doing_of z e) (sym same) ∙ p.2) in
            let first : IsFirstAt c (root_of (plan_of p.1).path) u = subst (IsFirstNow c u) (ap (λ (x : Doing). x.now) it ∙ p.3)
            (so old found).1 in
            first w (was w other (root_of (plan_of p.1).path) (q.0, q.1, q.2, q.3, q.4 ∙ sym p.4))

-- what it waited for before is so
same_first : (u : Uid) (c : Coord) → AreSound c → (q : Doing) → doing_of u c ≡ Some q → (n : Now) → q.now ≡ n → IsFirstNow c u n
same_first u c s q found Idle is = tt
same_first u c s q found (Calling t) is = tt
same_first u c s q found (Committing m) is = s.alone (root_of (plan_of m).path) u (q, m, found, is, refl)

-- paths are the same in a tree of the same node and incarnation
roots_on : (t v : Tree) → ((u : Uid) → is_own u v ≡ is_own u t) → (all : List (ℕ × Root)) →
    AllByRecursion (λ (e : ℕ × Root). IsOwnRoot t e.0 e.1) all → AllByRecursion (λ (e : ℕ × Root). IsOwnRoot v e.0 e.1) all
roots_on t v own [] its = tt
roots_on t v own (e ∷ all) its = (
  let r = its.0 in record { joined = r.joined; states = r.states; said = paths e.0 (let z = e.1 in z.said) r.said },
  roots_on t v own all its.1,
)
  where
    paths : (n : ℕ) (all : List Said) → AllByRecursion (λ (w : Said). IsRootPath t n w.path) all →
        AllByRecursion (λ (w : Said). IsRootPath v n w.path) all
    paths n [] its = tt
    paths n (w ∷ all) its =
        (let p = its.0 in record { root = p.root; own = own p.root ∙ p.own; number = p.number; from = p.from }, paths n all its.1)

same_includes : (u : Uid) (c : Coord) → AreSound c → (q : Doing) → doing_of u c ≡ Some q → (n : Now) → q.now ≡ n → IsIncludedNow c n
same_includes u c s q found Idle is = tt
same_includes u c s q found (Calling t) is = tt
same_includes u c s q found (Committing m) is = s.includes u q m found is

sound_tree : (c : Coord) (v : Tree) → ((u : Uid) → is_own u v ≡ is_own u c.tree) → AreSound c → AreSound (record c { tree = v })
sound_tree c v own s = record {
  works = λ u d at. s.works u d (sym (same u) ∙ at);
  alone = λ root u p w q. s.alone root u (was u root p) w (was w root q);
  roots = roots_on c.tree v own c.roots s.roots;
  includes = λ u q m at now. s.includes u q m (sym (same u) ∙ at) now;
}
  where
    same : (u : Uid) → doing_of u (record c { tree = v }) ≡ doing_of u c
    same u = λ i. cond (own u i) (at_place u.num c.doings) None

    was : (u root : Uid) → CommitsAt (record c { tree = v }) root u → CommitsAt c root u
    was u root p = (p.0, p.1, sym (same u) ∙ p.2, p.3, p.4)

sound_idle : (u : Uid) (c : Coord) → AreSound c → AreSound (on_doing u (λ (d : Doing). record d { now = Idle }) c)
sound_idle u c s = sound_do u (λ (d : Doing). record d { now = Idle }) c (λ d found. (tt, tt, tt)) s

sound_asks : (p : Path) (req : ℕ) (a : ℕ × Ask) (c : Coord) → AreSound c → AreSound (asks_node p req a c).part
sound_asks p req a c s = sound_root (root_of p) (with_went (record { path = uids_of p; node = a.0; invoke = is_invoke_ask a.1 })) c
    (went_own (record { path = uids_of p; node = a.0; invoke = is_invoke_ask a.1 }))
    (went_joins (record { path = uids_of p; node = a.0; invoke = is_invoke_ask a.1 })) s

sound_asked : (p : Path) (req : ℕ) (asked : List (ℕ × Ask)) (c : Coord) → AreSound c → AreSound (asks_all p req asked c).part
sound_asked p req [] c s = s
sound_asked p req (a ∷ rest) c s = sound_asked p req rest (asks_node p req a c).part (sound_asks p req a c s)

-- ---- calls

sound_goes : (s : Steps) (c : Coord) → AreSound c → AreSound (goes_on s c).part
sound_goes s c so =
    let w : Coord = on_doing (actor s.path) (λ (d : Doing). record d { req = s.req; now = Calling s }) c in
    sound_asks s.path s.req (next_node s, next_ask (ends_of (root_of s.path) w.tree) s) w
    (sound_do (actor s.path) (λ (d : Doing). record d { req = s.req; now = Calling s }) c (λ d found. (tt, tt, tt)) so)

sound_call : (p : Path) (x : ℕ) (o : Op) (c : Coord) → AreSound c → AreSound (call p x o c).part
sound_call p x o c s =
    let r = root_at (root_of p) c in
    let old = keeping_of x r in
    let k = renewed (is_free (root_of p) (actor p) x c) old old.kept in
    let u : Coord = record c { tree = uses_object p x c.tree } in
    let same = uses_same p x c.tree in
    sound_goes (call_steps p x o (next_req (actor p) c) r c k) (on_root (root_of p) (with_keeping x k) u)
    (sound_root (root_of p) (with_keeping x k) u (keep_own x k) (λ us y r h. h) (sound_tree c (uses_object p x c.tree) same.own s))

sound_include : (p : Path) (x n : ℕ) (c : Coord) → AreSound c → AreSound (include p x n c).part
sound_include p x n c s = let same = uses_same p x c.tree in sound_goes (start p x (calls.Include n) None unbound (next_req (actor p) c))
    (record c { tree = uses_object p x c.tree }) (sound_tree c (uses_object p x c.tree) same.own s)

sound_step : (s : Steps) (t : CallStep) (c : Coord) → StepIs (λ st. st.uid ≡ object s.x) t →
    IsRootPath c.tree (let root = root_of s.path in root.num) (uids_of s.path) → AreSound c → AreSound (step_call s t c).part
sound_step s (On at) c its path so = sound_goes (record s { req = s.req + 1; at = at }) c so
sound_step s (Ended e) c its path so = by e
  where
    idle : Coord
    idle = on_root (root_of s.path) (root_heard s e) (on_doing (actor s.path) (λ (d : Doing). record d { now = Idle }) c)

    ends : AreSound (on_root (root_of s.path) (root_heard s e) (on_doing (actor s.path) (λ (d : Doing). record d { now = Idle }) c))
    ends = sound_root (root_of s.path) (root_heard s e) (on_doing (actor s.path) (λ (d : Doing). record d { now = Idle }) c)
        (heard_own s e its (subst (λ v. IsRootPath v (root_of s.path).num (uids_of s.path)) (sym (doing_tree (actor s.path)
        (λ (d : Doing). record d { now = Idle }) c)) path)) (heard_joins s e) (sound_idle (actor s.path) c so)

    by : (g : CallEnd) → AreSound (doomed_by (actor s.path) g
        (on_root (root_of s.path) (root_heard s e) (on_doing (actor s.path) (λ (d : Doing). record d { now = Idle }) c)))
    by (Answered a) = ends
    by (Included st) = ends
    by (Conflict h x n) = ends
    by (Changed n w) = ends
    by (Lost n false) = ends
    by (Lost n true) = let same = doomed_same (actor s.path) idle.tree in sound_tree idle (doomed_at (actor s.path) idle.tree) same.own ends

-- ---- ends

sound_ended : (u : Uid) (e : End) (c : Coord) → AreSound c → AreSound (ended u e c)
sound_ended u e c s = let g = end_tree_on u e c in
    sound_idle u (record c { tree = ended_at u e c.tree }) (sound_tree c (ended_at u e c.tree) g.own s)

sound_all : (us : List Uid) (c : Coord) → AreSound c → AreSound (all_aborted us c).part
sound_all [] c s = s
sound_all (u ∷ us) c s = sound_all us (ended u ending.Abort c) (sound_ended u ending.Abort c s)

-- ---- commits

sound_commits : (u : Uid) (m : Machine) (c : Coord) → IsSound m → IsFirstAt c (root_of (plan_of m).path) u →
    AreIncluded (root_at (root_of (plan_of m).path) c) (plan_of m) → AreSound c → AreSound (commits_in u m c)
sound_commits u m c its first has s =
    sound_do u (λ (d : Doing). record d { req = (plan_of m).req; now = Committing m }) c (λ d found. (its, first, has)) s

sound_decide : (p : Plan) (c : Coord) → AreChanged p [] → AreSound c → AreSound (decide p c).part
sound_decide p c changed s = by (has_record p)
  where
    e : Coord
    e = ended (actor p.path) ending.Commit c

    took : Coord
    took = on_doing (actor p.path) (λ (d : Doing). record d { took = participants p }) (ended (actor p.path) ending.Commit c)

    one : AreSound (ended (actor p.path) ending.Commit c)
    one = sound_ended (actor p.path) ending.Commit c s

    r : Coord
    r = on_root (root_of p.path) (root_after p) took

    two : AreSound r
    two = sound_root (root_of p.path) (root_after p) took (λ q own. after_own p q changed own) (λ us x q h. h)
        (sound_do (actor p.path) (λ (d : Doing). record d { took = participants p }) e (λ d found. let a = one in (
          a.works (actor p.path) d found,
          same_first (actor p.path) e one d found d.now refl,
          same_includes (actor p.path) e one d found d.now refl,
        )) one)

    by : (w : Bool) → AreSound
        (cond w (record r { telling = put_uid (actor p.path) (record { root = root_of p.path; nodes = participants p }) r.telling }) r)
    by true = record { works = two.works; alone = two.alone; roots = two.roots; includes = two.includes }
    by false = two

-- no other commit of the plan's root is under way
abbrev IsFirstStep : Coord → Uid → CommitStep → Type 0
IsFirstStep c u (Stays m) = IsFirstAt c (root_of (plan_of m).path) u
IsFirstStep c u (Asks m) = IsFirstAt c (root_of (plan_of m).path) u
IsFirstStep c u _ = Unit {0}

abbrev IsPlanStep : Plan → CommitStep → Type 0
IsPlanStep p t = IsStepOf [] (paths_of []) (begun_tree [] tt) p t

-- each step of a commit has its plan's path
step_first : (c : Coord) (u : Uid) (p : Plan) (t : CommitStep) → IsPlanStep p t → IsFirstAt c (root_of p.path) u → IsFirstStep c u t
step_first c u p (Stays m) same first = subst (λ z. IsFirstAt c (root_of z) u) (sym same.0) first
step_first c u p (Asks m) same first = subst (λ z. IsFirstAt c (root_of z) u) (sym same.0) first
step_first c u p (Decides q) same first = tt
step_first c u p (Aborts why q) same first = tt

-- what the plan includes the root has
abbrev IsIncludedStep : Coord → CommitStep → Type 0
IsIncludedStep c (Stays m) = AreIncluded (root_at (root_of (plan_of m).path) c) (plan_of m)
IsIncludedStep c (Asks m) = AreIncluded (root_at (root_of (plan_of m).path) c) (plan_of m)
IsIncludedStep c _ = Unit {0}

plan_included : (c : Coord) (p q : Plan) → q.path ≡ p.path → q.ends ≡ p.ends → q.used ≡ p.used →
    AreIncluded (root_at (root_of p.path) c) p → AreIncluded (root_at (root_of q.path) c) q
plan_included c p q path ends used all v i on =
    let a = all v (subst (Uses v) used i) on in
    record {
      path = a.path;
      joined = subst (λ w. HasJoin a.path v.x (root_at (root_of w) c)) (sym path) a.joined;
      on = subst (λ w. is_on a.path (actor w) ≡ true) (sym path) a.on;
      lives = λ w on_it there. a.lives w (subst (λ z. is_on (behind (actor z) a.path) w ≡ true) path on_it)
          (subst (λ es. Contains es (w, ending.Abort)) ends there);
    }

-- each step of a commit includes the same
step_included : (c : Coord) (p q : Plan) (t : CommitStep) → IsPlanStep p t → IsNextOf q t → q.used ≡ p.used →
    AreIncluded (root_at (root_of p.path) c) p → IsIncludedStep c t
step_included c p q (Stays m) same next used all = plan_included c p (plan_of m) same.0 same.1 (next.0 ∙ used) all
step_included c p q (Asks m) same next used all = plan_included c p (plan_of m) same.0 same.1 (next.0 ∙ used) all
step_included c p q (Decides z) same next used all = tt
step_included c p q (Aborts why z) same next used all = tt

sound_commit_step : (u : Uid) (t : CommitStep) (intents : List (Uid × Intent)) (c : Coord) → IsNextSound t → IsFirstStep c u t →
    IsIncludedStep c t → AreSound c → AreSound (step_commit u t intents c).part
sound_commit_step u (Stays m) intents c its first has s = sound_commits u m c its first has s
sound_commit_step u (Asks m) intents c its first has s =
    sound_asked (plan_of m).path (plan_of m).req (commit.waiting m) (commits_in u m c) (sound_commits u m c its first has s)
sound_commit_step u (Decides p) intents c its first has s = sound_decide p c its s
sound_commit_step u (Aborts why p) intents c its first has s = sound_ended u ending.Abort c s

-- ---- what a coordinator hears

pub sound_heard : (from : ℕ) (a : Asked) (r : Reply) (intents : List (Uid × Intent)) (c : Coord) → ((st : ObjectState) (s : Steps)
    (q : Doing) → r ≡ Reply.Loaded (loaded.State st) → doing_of a.act c ≡ Some q → q.now ≡ Calling s → st.uid ≡ object s.x)
    → ((states : List ObjectState) (q : Doing) (p : Plan) (left : List ℕ) → r ≡ Reply.Voted (voted.Yes states) →
    doing_of a.act c ≡ Some q → q.now ≡ Committing (Voting p left) → p.req ≡ a.req → has left from ≡ true → FitsVote p from states)
    → AreOnPaths c → AreSound c → AreSound (let h = heard from a r intents c in h.part)
sound_heard from a r intents c loads votes paths s = by (doing_of a.act c) refl
  where
    now : (q : Doing) → doing_of a.act c ≡ Some q → (n : Now) → q.now ≡ n → AreSound (heard_now from a r intents c n).part
    now q at Idle is = s
    now q at (Calling t) is = one (waits_for_call from a r t)
      where
        free : Bool
        free = is_free (root_of t.path) (actor t.path) t.x c

        m : Moved
        m = answered free (kept_at t c) t.goal t.at r

        one : (w : Bool) → AreSound (cond {A = Served Coord (Unit {0})} w (heard_by (heard_call t r c)) (heard_none c)).part
        one true = sound_step t m.step (on_root (root_of t.path) (root_moved t r m) c)
            (step_is (λ st. st.uid ≡ object t.x) free (kept_at t c) t.goal t.at r (λ st same. loads st t q same at is))
            (paths a.act q t at is) (sound_root (root_of t.path) (root_moved t r m) c (moved_own t r m) (moved_joins t r m) s)
        one false = s
    now q at (Committing m) is = one (waits_for_commit from a r m) refl
      where
        its : IsSound m
        its = subst IsSoundNow is (s.works a.act q at)

        one : (w : Bool) → waits_for_commit from a r m ≡ w → AreSound
            (cond {A = Served Coord (Unit {0})} w (heard_by (moved_commit a.act (commit.answered from m r) intents c)) (heard_none c)).part
        one true waits =
            let w = and_parts ((plan_of m).req == a.req) ((reply_kind r == ask_kind (commit.ask_of m from)) && has (left_of m) from)
            waits in
            let on = (and_parts (reply_kind r == ask_kind (commit.ask_of m from)) (has (left_of m) from) w.1).1 in
            sound_commit_step a.act (commit.answered from m r).step intents c
            (answer_sound from m r its on (λ p left states voting yes.
            votes states q p left yes at (is ∙ ap Committing voting) (ap (λ (x : Machine). let y = plan_of x in y.req) (sym voting)
            ∙ test_is (plan_of m).req a.req w.0) (ap (λ (x : Machine). has (left_of x) from) (sym voting) ∙ on)))
            (step_first c a.act (plan_of m) (commit.answered from m r).step (answer_step [] (paths_of []) (begun_tree [] tt) from m r)
            (s.alone (root_of (plan_of m).path) a.act (q, m, at, is, refl)))
            (step_included c (plan_of m) (heard_plan m r) (commit.answered from m r).step (answer_step [] (paths_of []) (begun_tree [] tt)
            from m r) (answer_next from m r) (heard_same m r).0 (s.includes a.act q m at is)) s
        one false waits = s

    by : (o : Option Doing) → doing_of a.act c ≡ o → AreSound (heard_doing from a r intents c o).part
    by None is = s
    by (Some q) is = now q is q.now refl

pub sound_acked : (from : ℕ) (u : Uid) (intents : List (Uid × Intent)) (c : Coord) → AreSound c →
    AreSound (let h = acked from u intents c in h.part)
sound_acked from u intents c s = by (at_uid u c.telling)
  where
    left : (i : Intent) (ns : List ℕ) → AreSound (acked_left u i intents c ns).part
    left i [] = record { works = s.works; alone = s.alone; roots = s.roots; includes = s.includes }
    left i (m ∷ ms) = record { works = s.works; alone = s.alone; roots = s.roots; includes = s.includes }

    by : (o : Option Intent) → AreSound (acked_by from u intents c o).part
    by None = s
    by (Some i) = one (has i.nodes from)
      where
        one : (b : Bool) → AreSound (cond {A = Served Coord (Unit {0})} b (acked_left u i intents c (without_number from i.nodes))
            (record { part = c; outs = []; reply = None })).part
        one true = left i (without_number from i.nodes)
        one false = s

-- ---- inputs

sound_give_up : (u : Uid) (intents : List (Uid × Intent)) (c : Coord) → AreOnPaths c → AreSound c → AreSound (give_up u intents c).part
sound_give_up u intents c paths s = by (doing_of u c) refl
  where
    now : (q : Doing) → doing_of u c ≡ Some q → (n : Now) → q.now ≡ n → IsSoundNow n → AreSound (gives_up u intents c n).part
    now q at Idle is its = s
    now q at (Calling t) is its = sound_step t (given_up t.at) (on_root (root_of t.path) (root_lost t (given_up t.at)) c)
        (lost_is (λ st. st.uid ≡ object t.x) t.at) (paths u q t at is) (sound_root (root_of t.path) (root_lost t (given_up t.at)) c
        (λ r own. record { joined = own.joined; states = own.states; said = own.said }) (λ us x r h. h) s)
    now q at (Committing m) is its = sound_commit_step u (commit.given_up m).step intents c (given_up_sound m its)
        (step_first c u (plan_of m) (commit.given_up m).step (giveup_step [] (paths_of []) (begun_tree [] tt) m)
        (s.alone (root_of (plan_of m).path) u (q, m, at, is, refl))) (step_included c (plan_of m) (plan_of m) (commit.given_up m).step
        (giveup_step [] (paths_of []) (begun_tree [] tt) m) (giveup_next m) refl (s.includes u q m at is)) s

    by : (o : Option Doing) → doing_of u c ≡ o → AreSound (give_up_doing u intents c o).part
    by None is = s
    by (Some q) is = now q is q.now refl (s.works u q is)

pub sound_again : (ds : List Doing) (c : Coord) → AreSound c → AreSound (let h = again_all ds c in h.part)
sound_again [] c s = s
sound_again (d ∷ ds) c s = sound_again ds (again_now c d.now).part (now d.now)
  where
    now : (n : Now) → AreSound (again_now c n).part
    now Idle = s
    now (Calling t) = sound_asks t.path t.req (next_node t, next_ask (ends_of (root_of t.path) c.tree) t) c s
    now (Committing m) = sound_asked (plan_of m).path (plan_of m).req (commit.waiting m) c s

sound_commit : (b : Branch) (intents : List (Uid × Intent)) (c : Coord) → IsSure c → (b.kind ≢ kind.Nested → b.kind ≢ kind.Serial →
    IsFirstAt c (root_of b.path) (actor b.path)) → AreSound c → AreSound (commit_action b intents c).part
sound_commit b intents c sure first s = by b.doomed
  where
    u : Uid
    u = actor b.path

    p : Plan
    p = plan_for b.path (last_req (doing_of u c)) (root_at (root_of b.path) c) c

    top : IsFirstAt c (root_of b.path) (actor b.path) → AreSound (commit_top b.path intents c).part
    top alone = sound_commit_step u (commit.start p).step intents c
        (start_sound b.path (last_req (doing_of u c)) (root_at (root_of b.path) c) c (root_of b.path).num (root_own (root_of b.path) c s))
        (step_first c u p (commit.start p).step (vote_step [] (paths_of []) (begun_tree [] tt) (servers_of p) p p (refl, refl)) alone)
        (step_included c p p (commit.start p).step (vote_step [] (paths_of []) (begun_tree [] tt) (servers_of p) p p (refl, refl))
        (vote_next (servers_of p) p p (refl, omega arith, refl, refl)) refl
        (starts_included b.path (last_req (doing_of u c)) (root_at (root_of b.path) c) c sure)) s

    kinds : (k : Kind) → b.kind ≡ k → AreSound (commit_open b intents c k).part
    kinds kind.Nested is = sound_ended u ending.Commit c s
    kinds kind.Serial is = sound_ended u ending.Commit c s
    kinds kind.Top is = top (first (λ e. cc (sym is ∙ e)) (λ e. cc (sym is ∙ e)))
    kinds kind.Independent is = top (first (λ e. cc (sym is ∙ e)) (λ e. cc (sym is ∙ e)))
    kinds kind.Constituent is = top (first (λ e. cc (sym is ∙ e)) (λ e. cc (sym is ∙ e)))

    by : (d : Bool) → AreSound (cond {A = Did Coord} d (aborts_with u cause.Doomed intents c) (commit_open b intents c b.kind)).part
    by true = sound_ended u ending.Abort c s
    by false = kinds b.kind refl

on_named : (f : Branch → Did Coord) (c : Coord) (o : Option Branch) → AreSound c → ((b : Branch) → o ≡ Some b → AreSound (f b).part) →
    AreSound (on_branch f c o).part
on_named f c None s each = s
on_named f c (Some b) s each = each b refl

pub sound_begins : (l : Label) (k : Kind) (parent : Option Label) (above : Option Branch) (c : Coord) → AreSound c →
    AreSound (let h = begin_action l k parent above c in h.part)
sound_begins l k parent above c s = record {
  works = λ u q at. was q (is_own u c.tree) u.num at (λ f. s.works u q f);
  alone = λ root u p w q. s.alone root u (older u root p) w (older w root q);
  roots = roots_on c.tree (let h = begin_action l k parent above c in let n = h.part in n.tree) (λ u. refl) c.roots s.roots;
  includes = λ u q m at now. s.includes u q m (found q m (is_own u c.tree) u.num at now) now;
}
  where
    fresh : Doing
    fresh = record { label = l; req = 0; now = Idle; took = [] }

    was : (q : Doing) (b : Bool) (j : ℕ) → cond b (at_place j (c.doings ++ fresh ∷ [])) None ≡ Some q →
        (cond b (at_place j c.doings) None ≡ Some q → IsSoundNow q.now) → IsSoundNow q.now
    was q true zero at f = absurd (cc at)
    was q true (suc j) at f =
        ⊎_elim (λ old. f old) (λ new. subst (λ (x : Doing). IsSoundNow x.now) new.1 tt) (get_more j fresh q c.doings at)
    was q false j at f = absurd (cc at)

    found : (q : Doing) (m : Machine) (b : Bool) (j : ℕ) → cond b (at_place j (c.doings ++ fresh ∷ [])) None ≡ Some q →
        q.now ≡ Committing m → cond b (at_place j c.doings) None ≡ Some q
    found q m true zero at is = absurd (cc at)
    found q m true (suc j) at is = ⊎_elim (λ old. old) (λ new. let idle : Idle ≡ Committing m = ap (λ (x : Doing). x.now) new.1 ∙ is in
        absurd (cc idle)) (get_more j fresh q c.doings at)
    found q m false j at is = absurd (cc at)

    older : (u root : Uid) → CommitsAt (let h = begin_action l k parent above c in h.part) root u → CommitsAt c root u
    older u root p = (p.0, p.1, found p.0 p.1 (is_own u c.tree) u.num p.2 p.3, p.3, p.4)

-- where the commit of a top isn't refused no other one of its root is under way
abbrev pub IsFirstInput : Coord → Input → Type 0
IsFirstInput c (input.Commit l) = (b : Branch) → branch_named l c ≡ Some b → b.kind ≢ kind.Nested → b.kind ≢ kind.Serial →
    IsFirstAt c (root_of b.path) (actor b.path)
IsFirstInput c _ = Unit {0}

pub sound_acts : (i : Input) (intents : List (Uid × Intent)) (c : Coord) → IsFirstInput c i → AreOnPaths c → IsSure c → AreSound c →
    AreSound (let h = acts i intents c in h.part)
sound_acts (input.Begin l k parent) intents c first paths sure s = sound_begins l k parent (parent_of parent c) c s
sound_acts (input.Call l x o) intents c first paths sure s =
    on_named (λ b. call b.path x o c) c (branch_named l c) s (λ b is. sound_call b.path x o c s)
sound_acts (input.Include l x n) intents c first paths sure s =
    on_named (λ b. include b.path x n c) c (branch_named l c) s (λ b is. sound_include b.path x n c s)
sound_acts (input.Commit l) intents c first paths sure s =
    on_named (λ b. commit_action b intents c) c (branch_named l c) s (λ b is. sound_commit b intents c sure (first b is) s)
sound_acts (input.Abort l) intents c first paths sure s = on_named (λ b. abort_action (actor b.path) intents c) c (branch_named l c) s
    (λ b is. sound_all (open_below (actor b.path) c.tree ++ actor b.path ∷ []) c s)
sound_acts (input.GiveUp l) intents c first paths sure s =
    on_named (λ b. give_up (actor b.path) intents c) c (branch_named l c) s (λ b is. sound_give_up (actor b.path) intents c paths s)
sound_acts (input.Frame j from m) intents c first paths sure s = s
sound_acts input.Tick intents c first paths sure s = s
sound_acts input.Restart intents c first paths sure s = s
sound_acts input.Crash intents c first paths sure s = s
sound_acts (input.Show x) intents c first paths sure s = s

pub sound_new : (node inc : ℕ) (records : List (Uid × Intent)) → AreSound (record (new_coord node inc) { telling = records })
sound_new node inc records = record {
  works = λ u q at. none q (is_own u (let c = new_coord node inc in c.tree)) u.num at;
  alone = λ root u p w q. none_at p.0 (is_own u (let c = new_coord node inc in c.tree)) u.num p.2;
  roots = tt;
  includes = λ u q m at now. none_at q (is_own u (let c = new_coord node inc in c.tree)) u.num at;
}
  where
    none : (q : Doing) (b : Bool) (j : ℕ) → cond b (at_place j []) None ≡ Some q → IsSoundNow q.now
    none q true zero is = absurd (cc is)
    none q true (suc j) is = absurd (cc is)
    none q false j is = absurd (cc is)

    none_at : {A : Type 0} (q : Doing) (b : Bool) (j : ℕ) → cond b (at_place j []) None ≡ Some q → A
    none_at q true zero is = absurd (cc is)
    none_at q true (suc j) is = absurd (cc is)
    none_at q false j is = absurd (cc is)
