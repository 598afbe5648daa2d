-- What coordinators in order give to the machine's view.
use Rattle.arj_law_parts.proofs.Words
use Words.{◌≡◌, ◌≢◌, ◌⊎◌, ◌∙◌, ◌≤◌, ◌<◌, ◌+◌, ◌&&◌, ◌||◌, ◌++◌, ℕ, zero, suc, Bool, true, false, cond, not, filter, List, [], ◌∷◌, length}
use Words.{take, Some, refl, sym, ap, subst, inl, inr, ⊎_elim, arith, Contains, unwrap_or, list_any, false_from_ne_true, or_cases, or_parts}
use Words.{take-append-le, uid_is, uid_same, in_from, in_to, none_in, on_last, End, Kind, Uid, first_uid, is_on, last_uid, tops_of, uid_eq}
use Words.{uids_of, actor, top_of, top_path, Machine, plan_of, Calling, Committing, Coord, Doing, Idle, Now, doing_of, no_root, of_root}
use Words.{is_committing, is_committing_now, is_sibling, is_waiting, is_waiting_now, waits, Branch, branch_of, ends_of}
use Words.{next_uid, root_of, is_constituent}
use Words.list
use Words.kind
use Rattle.arj_law_lock_view.proofs.Terms
use Terms.{Act, is_top, on, root, Action, AreBegun, Stands, act_of, action_of, IsBusy, IsVoting, on_own, one_action, path_length, path_some}
use Terms.{serial_alone, where_stands, found_by, place_in, Family, AreInner}
use Rattle.arj_law_lock_view.proofs.facts.Waits.{IsFree, one_free, there}
use Rattle.arj_law_lock_view.specs.facts
use facts.Given.{ActionsAreTopped, BroughtAreUnserial, CommitsAreFirst, FreeAreLone, IsPlaced, ListedAreUnserial, NewRootsAreEmpty}
use facts.Given.{WaitersAreLone}
use Rattle.arj_law_lock.proofs.machine.Paths as machine
use Rattle.arj_law_lock_view.specs.view.Actions as view

never : {A : Type 0} {b : Bool} → b ≡ true → b ≡ false → A
never holds fails = let no_way : true ≡ false = sym holds ∙ fails in absurd (cc no_way)

-- ---- the actions that were begun

-- a top that isn't a constituent stands alone; a constituent stands in a serializing action
pub data Form (acts : List Action) (a : Action) : Type 0 where
  Alone : uids_of a.path ≡ act_of a ∷ [] → Form acts a
  Within : (s : Action) → list.In s acts → s.kind ≡ kind.Serial → a.kind ≡ kind.Constituent → uids_of a.path ≡ act_of s ∷ act_of a ∷ [] →
      Form acts a

pub form_of : (acts : List Action) → AreBegun acts → (a : Action) → list.In a acts → a.kind ≢ kind.Nested → Form acts a
form_of acts begun a i unnested = by a.kind refl (where_stands acts begun a i)
  where
    by : (k : Kind) → a.kind ≡ k → Stands acts a k → Form acts a
    by kind.Top is s = Alone s.0
    by kind.Independent is s = Alone s.0
    by kind.Serial is s = Alone s.0
    by kind.Nested is s = absurd (unnested is)
    by kind.Constituent is s = let up = serial_alone acts begun s.0 (in_from s.0 acts s.1) s.2 in
        Within s.0 (in_from s.0 acts s.1) s.2 is (s.3 ∙ ap (λ us. us ++ act_of a ∷ []) up.0)

-- the top of an action that isn't serializing was begun
pub top_action : (acts : List Action) → AreBegun acts → (a : Action) → list.In a acts → a.kind ≢ kind.Serial →
    (b : Action) × list.In b acts × (uids_of b.path ≡ top_path a.path) × (b.kind ≢ kind.Nested) × (b.kind ≢ kind.Serial)
top_action [] begun a i unserial = absurd i
top_action (c ∷ acts) begun a (inr i) unserial = let r = top_action acts begun.1 a i unserial in (r.0, inr r.1, r.2, r.3, r.4)
top_action (c ∷ acts) begun a (inl is) unserial =
    subst Found is (of (top_action acts begun.1) c.kind refl (let new = begun.0 in new.stands))
  where
    Found : Action → Type 0
    Found z = (b : Action) × list.In b (c ∷ acts) × (uids_of b.path ≡ top_path z.path) × (b.kind ≢ kind.Nested) × (b.kind ≢ kind.Serial)

    alone : uids_of c.path ≡ act_of c ∷ [] → tops_of c.path ≡ 1 → uids_of c.path ≡ top_path c.path
    alone path tops = path ∙ sym (λ j. take (tops j) (path j))

    of : ((a : Action) → list.In a acts → a.kind ≢ kind.Serial → (b : Action) × list.In b acts × (uids_of b.path ≡ top_path a.path)
        × (b.kind ≢ kind.Nested) × (b.kind ≢ kind.Serial)) → (k : Kind) → c.kind ≡ k → Stands acts c k → Found c
    of ih kind.Top kind_is s = (c, inl refl, alone s.0 s.1, (λ e. cc (sym kind_is ∙ e)), (λ e. cc (sym kind_is ∙ e)))
    of ih kind.Independent kind_is s = (c, inl refl, alone s.0 s.1, (λ e. cc (sym kind_is ∙ e)), (λ e. cc (sym kind_is ∙ e)))
    of ih kind.Serial kind_is s = absurd (unserial (ap (λ (z : Action). z.kind) (sym is) ∙ kind_is))
    of ih kind.Nested kind_is s =
        let b : Action = s.0 in
        let inside : tops_of b.path ≤ length (uids_of b.path) = omega (arith, b.path.within, path_length b.path) in
        let same : take (tops_of c.path) (uids_of c.path) ≡ take (tops_of b.path) (uids_of b.path) = (λ j. take (s.4 j) (s.3 j))
        ∙ take-append-le (tops_of b.path) (uids_of b.path) (act_of c ∷ []) inside in
        let f = ih b (in_from b acts s.1) s.2 in
        (f.0, inr f.1, f.2 ∙ sym same, f.3, f.4)
    of ih kind.Constituent kind_is s =
        let b : Action = s.0 in
        let up = serial_alone acts begun.1 b (in_from b acts s.1) s.2 in
        let path : uids_of c.path ≡ act_of b ∷ act_of c ∷ [] = s.3 ∙ ap (λ us. us ++ act_of c ∷ []) up.0 in
        (c, inl refl, path ∙ sym (λ j. take (s.4 j) (path j)), (λ e. cc (sym kind_is ∙ e)), (λ e. cc (sym kind_is ∙ e)))

placed_top : (a : Act) (k : Kind) → view.IsPlaced a k → k ≢ kind.Nested → k ≢ kind.Serial → is_top a ≡ true
placed_top a kind.Top placed nested serial = placed
placed_top a kind.Independent placed nested serial = placed
placed_top a kind.Constituent placed nested serial = placed
placed_top a kind.Nested placed nested serial = absurd (nested refl)
placed_top a kind.Serial placed nested serial = absurd (serial refl)

on_front : (n : ℕ) (us : List Uid) (w : Uid) → is_on (take n us) w ≡ true → is_on us w ≡ true
on_front zero us w on = absurd (cc on)
on_front (suc n) [] w on = absurd (cc on)
on_front (suc n) (x ∷ us) w on = by (uid_eq x w) on (on_front n us w)
  where
    by : (b : Bool) → (b || is_on (take n us) w) ≡ true → (is_on (take n us) w ≡ true → is_on us w ≡ true) → (b || is_on us w) ≡ true
    by true h ih = refl
    by false h ih = ih h

-- nobody on the list waits
quiet : (c : Coord) (us : List Uid) (u : Uid) → list_any (waits c) us ≡ false → is_on us u ≡ true → waits c u ≡ false
quiet c [] u none on = absurd (cc on)
quiet c (x ∷ us) u none on = let p = or_parts (waits c x) (list_any (waits c) us) none in
    ⊎_elim (λ it. ap (waits c) (sym (uid_is x u it)) ∙ p.0) (λ rest. quiet c us u p.1 rest) (or_cases (uid_eq x u) (is_on us u) on)

kept_in : {A : Type 0} (p : A → Bool) (x : A) (xs : List A) → list.In x xs → p x ≡ true → list.In x (filter p xs)
kept_in p x [] i is = absurd i
kept_in {A} p x (y ∷ ys) i is = by (p y) refl (kept_in p x ys) i
  where
    by : (b : Bool) → p y ≡ b → (list.In x ys → p x ≡ true → list.In x (filter p ys)) → (y ≡ x) ⊎ list.In x ys →
        list.In x (cond b (y ∷ filter p ys) (filter p ys))
    by true e ih (inl same) = inl same
    by true e ih (inr j) = inr (ih j is)
    by false e ih (inl same) = never (ap p same ∙ is) e
    by false e ih (inr j) = ih j is

-- ---- who waits

pub waiters_alone : WaitersAreLone
waiters_alone g c u d placed knows found waits_now w e at is other = (
  false_from_ne_true (is_on (g.paths u) w) (λ on. other (sym (above u w d e found at waits_now is on))),
  false_from_ne_true (is_on (g.paths w) u) (λ on. other (above w u e d at found is waits_now on)),
)
  where
    above : (v z : Uid) (p q : Doing) → doing_of v c ≡ Some p → doing_of z c ≡ Some q → is_waiting_now p.now ≡ true →
        is_waiting_now q.now ≡ true → is_on (g.paths v) z ≡ true → v ≡ z
    above v z p q at_v at_z wv wz on =
        let good = placed.good in
        let b = there (λ n. ⊥) c g.begun g.begun g.paths placed.good c (λ x y b dx wx at_x. good.tree.lists.paths_are x b at_x) v p at_v
        wv in
        knows.apart v z p q b.0 at_v at_z wv wz b.1 (ap (λ us. is_on us z) (good.tree.lists.paths_are v b.0 b.1) ∙ on)

pub free_alone : FreeAreLone
free_alone g c b d placed found does up down = (
  idle d.now refl,
  λ w e at is other. (
    false_from_ne_true (is_on (g.paths (actor b.path)) w) (λ on. other (sym (free.above (actor b.path) w e refl at is on))),
    false_from_ne_true (is_on (g.paths w) (actor b.path)) (λ on. other (free.below w (actor b.path) e at is refl on)),
  ),
)
  where
    free : IsFree (λ w. w ≡ actor b.path) g.paths c
    free = one_free g.begun g.paths c placed.good b found up down

    idle : (n : Now) → d.now ≡ n → d.now ≡ Idle
    idle Idle is = is
    idle (Calling s) is = never (ap is_waiting does ∙ ap is_waiting_now is) (quiet c (uids_of b.path) (actor b.path) up (on_own b.path))
    idle (Committing m) is = never (ap is_waiting does ∙ ap is_waiting_now is) (quiet c (uids_of b.path) (actor b.path) up (on_own b.path))

-- ---- commits

pub commits_first : CommitsAreFirst
commits_first g c b placed found unserial unnested up siblings w e at is same =
    by (form_of g.begun (let t = placed.whole in t.begun) (action_of b) its unnested)
    (form_of g.begun (let t = placed.whole in t.begun) (action_of v.asking.branch) theirs (v.top v.asking.branch v.asking.found))
  where
    u : Uid
    u = actor b.path

    m : (k : Machine) × (e.now ≡ Committing k)
    m = now e.now refl is
      where
        now : (n : Now) → e.now ≡ n → is_committing_now n ≡ true → (k : Machine) × (e.now ≡ Committing k)
        now Idle q h = absurd (cc h)
        now (Calling s) q h = absurd (cc h)
        now (Committing k) q h = (k, q)

    v : IsVoting c.tree w (plan_of m.0)
    v = subst (IsBusy c.tree w) m.1 (let good = placed.good in good.busy w e at)

    its : list.In (action_of b) g.begun
    its = in_from (action_of b) g.begun (let good = placed.good in good.known u b found)

    theirs : list.In (action_of v.asking.branch) g.begun
    theirs = in_from (action_of v.asking.branch) g.begun (let good = placed.good in good.known w v.asking.branch v.asking.found)

    its_path : g.paths u ≡ uids_of b.path
    its_path = let good = placed.good in sym (good.tree.lists.paths_are u b found)

    their_path : g.paths w ≡ uids_of v.asking.branch.path
    their_path = let good = placed.good in sym (good.tree.lists.paths_are w v.asking.branch v.asking.found)

    who : actor v.asking.branch.path ≡ w
    who = let good = placed.good in good.tree.lists.places w v.asking.branch v.asking.found

    -- the roots of both are one
    first : first_uid (uids_of v.asking.branch.path) ≡ first_uid (uids_of b.path)
    first = ap first_uid (sym their_path) ∙ (let t = placed.whole in t.alike.units w u same) ∙ ap first_uid its_path

    -- the action itself waits for nothing
    other : w ≡ u → ⊥
    other is_u = never (ap (waits c) (sym is_u) ∙ ap is_waiting at ∙ ap is_waiting_now m.1)
        (quiet c (uids_of b.path) (actor b.path) up (on_own b.path))

    -- a top isn't a serializing action
    one_kind : (x y : Action) → list.In x g.begun → list.In y g.begun → act_of x ≡ act_of y → x.kind ≡ y.kind
    one_kind x y i j it = ap (λ (z : Action). z.kind) (one_action g.begun (let t = placed.whole in t.begun) x y i j it)

    by : Form g.begun (action_of b) → Form g.begun (action_of v.asking.branch) → ⊥
    by (Alone p) (Alone q) = other (sym who ∙ ap first_uid (sym q) ∙ first ∙ ap first_uid p)
    by (Alone p) (Within s i serial const q) =
        unserial (sym (one_kind s (action_of b) i its (ap first_uid (sym q) ∙ first ∙ ap first_uid p)) ∙ serial)
    by (Within s i serial const p) (Alone q) = v.asking.unserial
        (sym (one_kind s (action_of v.asking.branch) i theirs (ap first_uid (sym p) ∙ sym first ∙ ap first_uid q)) ∙ serial)
    by (Within s i serial const p) (Within z j serial2 const2 q) = never here (none_in (is_sibling b c) v.asking.branch
        (filter (of_root (root_of b.path)) c.tree.branches) none (kept_in (of_root (root_of b.path)) v.asking.branch c.tree.branches
        (place_in w.num v.asking.branch c.tree.branches (found_by w c.tree v.asking.branch v.asking.found).1) same_root))
      where
        none : list_any (is_sibling b c) (filter (of_root (root_of b.path)) c.tree.branches) ≡ false
        none =
            (λ k. is_constituent (sym const k) && list_any (is_sibling b c) (filter (of_root (root_of b.path)) c.tree.branches)) ∙ siblings

        same_root : of_root (root_of b.path) v.asking.branch ≡ true
        same_root = ap (λ x. uid_eq x (root_of b.path)) first ∙ uid_same (root_of b.path)

        apart : uid_eq (actor v.asking.branch.path) (actor b.path) ≡ false
        apart = false_from_ne_true (uid_eq (actor v.asking.branch.path) (actor b.path))
            (λ it. other (sym who ∙ uid_is (actor v.asking.branch.path) (actor b.path) it))

        at_commit : is_committing (doing_of (actor v.asking.branch.path) c) ≡ true
        at_commit = ap (λ x. is_committing (doing_of x c)) who ∙ ap is_committing at ∙ is

        here : is_sibling b c v.asking.branch ≡ true
        here = λ k. is_constituent (const2 k) && (not (apart k) && at_commit k)

-- ---- tops

pub actions_topped : ActionsAreTopped
actions_topped g c placed w q found action =
    let good = placed.good in
    let whole = placed.whole in
    let i = good.known w q found in
    let who = good.tree.lists.places w q found in
    let t = top_action g.begun whole.begun (action_of q) (in_from (action_of q) g.begun i)
    (unserial q.kind refl (subst (λ (x : Uid). view.IsPlaced (g.act x) q.kind) who (whole.placed (action_of q) i))) in
    let b : Action = t.0 in
    let tops : last_uid (top_path q.path) ≡ act_of b = ap last_uid (sym t.2) in
    machine.top_of (g.act w) (g.act (top_of q.path))
    (ap (λ (x : Uid). is_top (g.act x)) tops ∙ placed_top (g.act (act_of b)) b.kind (whole.placed b (in_to b g.begun t.1)) t.3 t.4)
    (whole.alike.above w (top_of q.path) ∙ ap (λ us. is_on us (top_of q.path)) (sym (good.tree.lists.paths_are w q found))
    ∙ on_front (tops_of q.path) (uids_of q.path) (top_of q.path)
    (on_last (top_path q.path) (some (uids_of b.path) (top_path q.path) t.2 (path_some b.path))))
  where
    some : (us vs : List Uid) → us ≡ vs → 1 ≤ length us → 1 ≤ length vs
    some us vs is le = subst (λ (xs : List Uid). 1 ≤ length xs) is le

    unserial : (k : Kind) → q.kind ≡ k → view.IsPlaced (g.act w) q.kind → q.kind ≢ kind.Serial
    unserial k is its serial = never action (subst (view.IsPlaced (g.act w)) serial its)

-- ---- ends

unserial_in : (g : Family) (c : Coord) (ends : List (Uid × End)) → IsPlaced g c → AreInner c.tree ends → (u : Uid) (e : End) (b : Branch) →
    Contains ends (u, e) → branch_of u c.tree ≡ Some b → b.kind ≢ kind.Serial
unserial_in g c ends placed inner u e b i found serial =
    let good = placed.good in
    let whole = placed.whole in
    let up = serial_alone g.begun whole.begun (action_of b) (in_from (action_of b) g.begun (good.known u b found)) serial in
    short (uids_of b.path) (actor b.path) up.0 (inner u e b i found)
  where
    short : (us : List Uid) (v : Uid) → us ≡ v ∷ [] → 2 ≤ length us → ⊥
    short us v is two = let one : length us ≡ 1 = ap length is in omega (arith, one, two)

pub listed_unserial : ListedAreUnserial
listed_unserial g c root placed knows u e b i found = unserial_in g c (ends_of root c.tree) placed (knows.lists root) u e b i found

pub brought_unserial : BroughtAreUnserial
brought_unserial g c u d m placed knows found is w e b i at =
    unserial_in g c (plan_of m).ends placed (knows.plans u d m found is) w e b i at

pub new_root : NewRootsAreEmpty
new_root c roots = ap (λ o. unwrap_or o no_root) (roots (let u = next_uid c.tree in u.num) (less (length c.tree.branches)))
  where
    less : (n : ℕ) → n < n + 1
    less n = omega arith
