-- Who waits above, below and beside an action: at its coordinator exactly who does by the journal.
use Rattle.arj_law_parts.proofs.Words
use Words.{◌≡◌, ◌∙◌, ◌==◌, ◌&&◌, ◌||◌, not, ℕ, Bool, true, false, List, [], ◌∷◌, filter, Option, Some, None, refl, sym, ap, subst}
use Words.{is_some, inl, bytes_eq, bytes_eq-Decides, and_parts, or_parts, In, in_filter, in_to, is_on, list_any, uid_eq, uid_is, uid_same}
use Words.{Uid, Label, first_uid, name, uids_of, actor, root_of, of_root, is_constituent}
use Words.{Doing, doing_of, Calling, Committing, Idle, Now, Node, Parts, Seen, Branch, branch_of, is_open_below, is_sibling}
use Words.{is_committing, is_committing_now, is_waiting, is_waiting_now, sibling_waits, waits, waits_above, waits_below}
use Rattle.arj_law_runs.proofs.Terms.{Act, act_in, acts, path, uids, book, found_by, on_own}
use Rattle.arj_law_runs.proofs.follow.Halts.{KnowsAll}
use Rattle.arj_law_runs.proofs.journal.{Closed.one_act, Models.apart_acts, Ties.on_path, Ties.on_uids}
use Rattle.arj_law_lock_view.proofs.view.TreeSteps.{above_there}
use Rattle.arj_law_parts.proofs.parts.GoodTrees.{place_in}
use Rattle.arj_model.specs.Actions.{root_in}
use Rattle.arj_model.specs.Past.{Past}
use Rattle.arj_model.specs.Refusals as model
use Rattle.arj_law_cause.proofs.waits.waiting.Acting as acting
use Rattle.arj_law_cause.proofs.waits.waiting.Acting.{Stands, Works}
use Rattle.arj_law_cause.proofs.waits.waiting.Lists.{any_in, any_same, any_uids, found_there, in_filter_too, on_of, same_test, some_in}
use Rattle.arj_law_cause.specs.waits.waiting.Waits.{IsAt}

never : {A : Type 0} {b : Bool} → b ≡ true → b ≡ false → A
never holds fails = let no_way : true ≡ false = sym holds ∙ fails in absurd (cc no_way)

and_all : {a b : Bool} → a ≡ true → b ≡ true → (a && b) ≡ true
and_all a b = λ i. a i && b i

-- node k is up with these parts, and each of its actions is at what the journal has, of a run so far
module _ (M : Seen) (all : KnowsAll M) (k : ℕ) (n : Node) (t : Parts) (there : M.nodes k ≡ Some n) (live : n.live ≡ Some t) (p : Past)
    (at : (u : Uid) (d : Doing) → doing_of u t.coord ≡ Some d → IsAt p.accepted M.lines d.label d.now) where
  abbrev pub Q : Past
  Q = record p { lines = M.lines }

  abbrev xs : List Act
  xs = acts M.lines

  abbrev Its : Uid → Doing → Type 0
  Its u d = Stands M all k n t there live u d

  -- ---- one action

  waits_now : (l : Label) (z : Now) → IsAt p.accepted M.lines l z → model.is_waiting Q (name l) ≡ is_waiting_now z
  waits_now l Idle h = λ i. is_some (h.0 i) || h.1 i
  waits_now l (Calling s) h = λ i. is_some (h.waits i) || h.rests i
  waits_now l (Committing m) h = λ i. is_some (h.0 i) || h.1 i

  commits_now : (l : Label) (z : Now) → IsAt p.accepted M.lines l z → model.is_committing M.lines (name l) ≡ is_committing_now z
  commits_now l Idle h = h.1
  commits_now l (Calling s) h = h.rests
  commits_now l (Committing m) h = h.1

  waits_so : (u : Uid) (d : Doing) → doing_of u t.coord ≡ Some d → model.is_waiting Q (name d.label) ≡ waits t.coord u
  waits_so u d does = waits_now d.label d.now (at u d does) ∙ sym (ap is_waiting does)

  commit_so : (u : Uid) (d : Doing) → doing_of u t.coord ≡ Some d → model.is_committing M.lines (name d.label) ≡ is_committing
      (doing_of u t.coord)
  commit_so u d does = commits_now d.label d.now (at u d does) ∙ sym (ap is_committing does)

  -- the same of an action of the journal whose branch is there
  act_waits : (a : Act) → In a (acts M.lines) → (b : Branch) → branch_of a.uid t.coord.tree ≡ Some b →
      (model.is_waiting Q a.label ≡ waits t.coord a.uid) × (model.is_committing M.lines a.label ≡ is_committing (doing_of a.uid t.coord))
  act_waits a began b found =
      let w = acting.works M all k n t there live a began b found in
      let s = w.stands in
      let label : a.label ≡ name (let d = w.doing in d.label) = ap (λ (x : Act). x.label) (sym w.same) ∙ s.label in (
        ap (model.is_waiting Q) label ∙ waits_so a.uid w.doing w.does,
        ap (model.is_committing M.lines) label ∙ commit_so a.uid w.doing w.does,
      )

  -- who waits at the coordinator is at work there, and open
  doing_there : (u : Uid) → waits t.coord u ≡ true → (d : Doing) × (doing_of u t.coord ≡ Some d) × (is_waiting_now d.now ≡ true)
  doing_there u is = by (doing_of u t.coord) refl is
    where
      by : (o : Option Doing) → doing_of u t.coord ≡ o → is_waiting o ≡ true →
          (d : Doing) × (doing_of u t.coord ≡ Some d) × (is_waiting_now d.now ≡ true)
      by None does w = absurd (cc w)
      by (Some d) does w = (d, does, w)

  commits_wait : (o : Option Doing) → is_committing o ≡ true → is_waiting o ≡ true
  commits_wait None is = absurd (cc is)
  commits_wait (Some d) is = by d.now is
    where
      by : (z : Now) → is_committing_now z ≡ true → is_waiting_now z ≡ true
      by Idle c = absurd (cc c)
      by (Calling s) c = absurd (cc c)
      by (Committing m) c = refl

  -- ---- around an action of this coordinator

  module _ (u : Uid) (d : Doing) (does : doing_of u t.coord ≡ Some d) (s : Stands M all k n t there live u d) where
    abbrev l : List ℕ
    l = name d.label

    abbrev b : Branch
    b = s.branch

    abbrev x : Act
    x = s.act

    abbrev its_path : List Act
    its_path = path (acts M.lines) (name d.label)

    -- its own Uid
    actor_is : actor (let z = s.branch in z.path) ≡ u
    actor_is = let c = acting.coord M all k n t there live in c.tree.lists.places u s.branch s.found

    -- whoever stands above is of this coordinator
    above_branch : (v : Uid) → is_on (uids_of (let z = s.branch in z.path)) v ≡ true → (c : Branch) × (branch_of v t.coord.tree ≡ Some c)
    above_branch v on =
        let c = acting.coord M all k n t there live in
        above_there _ (acting.tree M all k n t there live) t.coord.tree c.tree.lists v u s.branch s.found
        (ap (λ us. is_on us v) (sym (c.tree.lists.paths_are u s.branch s.found)) ∙ on)

    on_its : (a : Act) → In a (path (acts M.lines) (name d.label)) → is_on (uids_of (let z = s.branch in z.path)) a.uid ≡ true
    on_its a i = ap (λ us. is_on us a.uid) (sym s.path) ∙ on_of (path (acts M.lines) (name d.label)) a i

    pub above_so : model.waits_above Q (name d.label) ≡ waits_above s.branch t.coord
    above_so =
        any_same (λ a. model.is_waiting Q a.label) (λ (a : Act). waits t.coord a.uid) (path (acts M.lines) (name d.label))
        (λ a i. let c = above_branch a.uid (on_its a i) in (act_waits a (on_path (acts M.lines) (name d.label) a i) c.0 c.1).0)
        ∙ sym (any_uids (waits t.coord) (path (acts M.lines) (name d.label))) ∙ ap (list_any (waits t.coord)) s.path

    -- where nobody waits above, it doesn't itself
    itself : waits_above s.branch t.coord ≡ false → waits t.coord u ≡ false
    itself none = quiet (uids_of (let z = s.branch in z.path)) none
        (ap (is_on (uids_of (let z = s.branch in z.path))) (sym actor_is) ∙ on_own (let z = s.branch in z.path))
      where
        quiet : (us : List Uid) → list_any (waits t.coord) us ≡ false → is_on us u ≡ true → waits t.coord u ≡ false
        quiet [] e on = absurd (cc on)
        quiet (w ∷ us) e on = let q = or_parts (waits t.coord w) (list_any (waits t.coord) us) e in
            by (uid_eq w u) refl on q.0 (λ o. quiet us q.1 o)
          where
            by : (c : Bool) → uid_eq w u ≡ c → (c || is_on us u) ≡ true → waits t.coord w ≡ false →
                (is_on us u ≡ true → waits t.coord u ≡ false) →
                waits t.coord u ≡ false
            by true same o one rest = ap (waits t.coord) (sym (uid_is w u same)) ∙ one
            by false other o one rest = rest o

    -- the action of its label is itself
    by_label : (z : Act) → In z (acts M.lines) → bytes_eq z.label (name d.label) ≡ true → z ≡ s.act
    by_label z i same =
        let here : act_in (acts M.lines) (name d.label) ≡ Some z
        = ap (act_in (acts M.lines)) (sym ((bytes_eq-Decides z.label (name d.label)).0 same))
        ∙ found_there (acts M.lines) (acting.distinct M all k n t there live) z i in
        let k : ◌≡◌ {A = Option Act} (Some z) (Some s.act) = sym here ∙ s.named in cc

    -- who has one of this coordinator's actions on its path is of this coordinator
    below_branch : (a : Act) → In a (acts M.lines) → (v : Uid) (c : Branch) → branch_of v t.coord.tree ≡ Some c →
        is_on (uids (path (acts M.lines) a.label)) v ≡ true → (w : Branch) × (branch_of a.uid t.coord.tree ≡ Some w)
    below_branch a began v c found on =
        let w = acting.up M all k n t there live in
        w.knows.ties.homes a v (in_to a (let B = book M.lines in B.acts)
        (subst (In a) (sym (acting.acts_are M all k n t there live)) began))
        (ap (λ zs. is_on (uids (path zs a.label)) v) (acting.acts_are M all k n t there live) ∙ on)
        (found_by v t.coord.tree c found).0

    -- the path of an action that is at work
    path_so : (a : Act) (began : In a (acts M.lines)) (w : Branch) (found : branch_of a.uid t.coord.tree ≡ Some w) →
        uids (path (acts M.lines) a.label) ≡ uids_of w.path
    path_so a began w found =
        let z = acting.works M all k n t there live a began w found in
        let y = z.stands in
        ap (λ m. uids (path (acts M.lines) m)) (ap (λ (v : Act). v.label) (sym z.same) ∙ y.label) ∙ y.path
        ∙ ap (λ (v : Branch). uids_of v.path) z.branch

    kind_so : (a : Act) (began : In a (acts M.lines)) (w : Branch) (found : branch_of a.uid t.coord.tree ≡ Some w) → a.kind ≡ w.kind
    kind_so a began w found =
        let z = acting.works M all k n t there live a began w found in
        let y = z.stands in
        ap (λ (v : Act). v.kind) (sym z.same) ∙ y.kind ∙ ap (λ (v : Branch). v.kind) z.branch

    not_itself : waits t.coord u ≡ false → (w : Branch) → waits t.coord (actor w.path) ≡ true →
        not (uid_eq (actor w.path) (actor (let z = s.branch in z.path))) ≡ true
    not_itself quiet w waits_now = by (uid_eq (actor w.path) (actor (let z = s.branch in z.path))) refl
      where
        by : (c : Bool) → uid_eq (actor w.path) (actor (let z = s.branch in z.path)) ≡ c → not c ≡ true
        by false other = refl
        by true same =
            never (ap (waits t.coord) (sym (uid_is (actor w.path) (actor (let z = s.branch in z.path)) same ∙ actor_is)) ∙ waits_now) quiet

    -- ---- below

    abbrev is_below_by : Act → Bool
    is_below_by a = list_any (λ z. bytes_eq z.label (name d.label)) (path (acts M.lines) a.label)

    below_there : waits t.coord u ≡ false → (a : Act) → In a (acts M.lines) → (is_below_by a && model.is_waiting Q a.label) ≡ true →
        waits_below s.branch t.coord ≡ true
    below_there quiet a began is =
        let q = and_parts (is_below_by a) (model.is_waiting Q a.label) is in
        let z = some_in (λ z. bytes_eq z.label (name d.label)) (path (acts M.lines) a.label) q.0 in
        let same : z.0 ≡ s.act = by_label z.0 (on_path (acts M.lines) a.label z.0 z.1) z.2 in
        let on : is_on (uids (path (acts M.lines) a.label)) u ≡ true
        = ap (is_on (uids (path (acts M.lines) a.label))) (sym s.uid ∙ ap (λ (v : Act). v.uid) (sym same))
        ∙ on_of (path (acts M.lines) a.label) z.0 z.1 in
        let w = below_branch a began u s.branch s.found on in
        let c = acting.coord M all k n t there live in
        let its : actor (let y = w.0 in y.path) ≡ a.uid = c.tree.lists.places a.uid w.0 w.1 in
        let waits_it : waits t.coord (actor (let y = w.0 in y.path)) ≡ true = ap (waits t.coord) its ∙ sym (act_waits a began w.0 w.1).0
        ∙ q.1 in
        let y = doing_there a.uid (ap (waits t.coord) (sym its) ∙ waits_it) in
        let opened = acting.open_waits M all k n t there live a.uid y.0 y.1 y.2 w.0 w.1 in
        any_in (λ v. is_open_below (actor (let z = s.branch in z.path)) v && waits t.coord (actor v.path)) t.coord.tree.branches w.0
        (place_in (let v = a.uid in v.num) w.0 t.coord.tree.branches (found_by a.uid t.coord.tree w.0 w.1).1)
        (and_all (and_all (and_all (ap (is_on (uids_of (let y = w.0 in y.path))) actor_is
        ∙ ap (λ us. is_on us u) (sym (path_so a began w.0 w.1)) ∙ on) (not_itself quiet w.0 waits_it)) (ap not opened)) waits_it)

    below_here : waits_below s.branch t.coord ≡ true →
        list_any (λ a. is_below_by a && model.is_waiting Q a.label) (acts M.lines) ≡ true
    below_here is =
        let r = some_in (λ v. is_open_below (actor (let z = s.branch in z.path)) v && waits t.coord (actor v.path))
        t.coord.tree.branches is in
        let w = r.0 in
        let q = and_parts (is_open_below (actor (let z = s.branch in z.path)) w) (waits t.coord (actor w.path)) r.2 in
        let below = and_parts (is_on (uids_of w.path) (actor (let z = s.branch in z.path))
        && not (uid_eq (actor w.path) (actor (let z = s.branch in z.path)))) (not (is_some w.ended)) q.0 in
        let on = and_parts (is_on (uids_of w.path) (actor (let z = s.branch in z.path)))
        (not (uid_eq (actor w.path) (actor (let z = s.branch in z.path)))) below.0 in
        let y = doing_there (actor w.path) q.1 in
        let f = acting.stands M all k n t there live (actor w.path) y.0 y.1 in
        let found : branch_of f.act.uid t.coord.tree ≡ Some w = ap (λ v. branch_of v t.coord.tree) f.uid
        ∙ acting.branch_there M all k n t there live w r.1 in
        let up : is_on (uids (path (acts M.lines) f.act.label)) u ≡ true = ap (λ us. is_on us u) (path_so f.act f.began w found)
        ∙ ap (is_on (uids_of w.path)) (sym actor_is) ∙ on.0 in
        let z = on_uids (path (acts M.lines) f.act.label) u up in
        let same : z.0 ≡ s.act = one_act (acts M.lines) (acting.distinct M all k n t there live) z.0 s.act
        (on_path (acts M.lines) f.act.label z.0 z.1) s.began (z.2 ∙ sym s.uid) in
        any_in (λ a. is_below_by a && model.is_waiting Q a.label) (acts M.lines) f.act f.began
        (and_all (any_in (λ v. bytes_eq v.label (name d.label)) (path (acts M.lines) f.act.label) z.0 z.1
        ((bytes_eq-Decides (let v = z.0 in v.label) (name d.label)).1 (ap (λ (v : Act). v.label) same ∙ s.label)))
        ((act_waits f.act f.began w found).0 ∙ ap (waits t.coord) f.uid ∙ q.1))

    below_so : waits t.coord u ≡ false → model.waits_below Q (name d.label) ≡ waits_below s.branch t.coord
    below_so quiet = same_test (model.waits_below Q (name d.label)) (waits_below s.branch t.coord)
        (λ is. let r = some_in (λ a. is_below_by a && model.is_waiting Q a.label) (acts M.lines) is in below_there quiet r.0 r.1 r.2)
        below_here

    pub near_so : model.waits_near Q (name d.label) ≡ (waits_above s.branch t.coord || waits_below s.branch t.coord)
    near_so = (λ i. above_so i || model.waits_below Q (name d.label)) ∙ by (waits_above s.branch t.coord) refl
      where
        by : (c : Bool) → waits_above s.branch t.coord ≡ c → (c || model.waits_below Q (name d.label)) ≡ (c || waits_below s.branch t.coord)
        by true is = refl
        by false is = below_so (itself is)

    -- ---- beside

    -- the root of a path that isn't empty
    root_some : (zs : List Act) (v : Uid) → is_on (uids zs) v ≡ true → (r : Act) × In r zs × (root_in zs ≡ Some r.id) × (first_uid
        (uids zs) ≡ r.uid)
    root_some [] v on = absurd (cc on)
    root_some (z ∷ zs) v on = (z, inl refl, refl, refl)

    abbrev beside : Act → Bool
    beside z = is_constituent z.kind
        && (model.is_root (root_in (path (acts M.lines) z.label)) (root_in (path (acts M.lines) (name d.label)))
        && model.is_committing M.lines z.label)

    own_root : (r : Act) × In r (path (acts M.lines) (name d.label)) × (root_in (path (acts M.lines) (name d.label)) ≡ Some r.id)
        × (first_uid (uids (path (acts M.lines) (name d.label))) ≡ r.uid)
    own_root = root_some (path (acts M.lines) (name d.label)) u (ap (λ us. is_on us u) s.path
        ∙ ap (is_on (uids_of (let z = s.branch in z.path))) (sym actor_is) ∙ on_own (let z = s.branch in z.path))

    beside_there : waits t.coord u ≡ false → (z : Act) → In z (acts M.lines) → beside z ≡ true →
        list_any (is_sibling s.branch t.coord) (filter (of_root (root_of (let y = s.branch in y.path))) t.coord.tree.branches) ≡ true
    beside_there quiet z began is = by (path (acts M.lines) z.label) refl q.0
      where
        kind : is_constituent z.kind ≡ true
        kind = (and_parts (is_constituent z.kind) _ is).0

        q : (model.is_root (root_in (path (acts M.lines) z.label)) (root_in (path (acts M.lines) (name d.label))) ≡ true)
            × (model.is_committing M.lines z.label ≡ true)
        q = and_parts (model.is_root (root_in (path (acts M.lines) z.label)) (root_in (path (acts M.lines) (name d.label))))
            (model.is_committing M.lines z.label) (and_parts (is_constituent z.kind) _ is).1

        r : Act
        r = own_root.0

        by : (zs : List Act) → path (acts M.lines) z.label ≡ zs →
            model.is_root (root_in zs) (root_in (path (acts M.lines) (name d.label))) ≡ true →
            list_any (is_sibling s.branch t.coord) (filter (of_root (root_of (let y = s.branch in y.path))) t.coord.tree.branches) ≡ true
        by [] are no_way = absurd (cc no_way)
        by (y ∷ ys) are same =
            let ids : (y.id == r.id) ≡ true = sym (ap (model.is_root (Some y.id)) own_root.2) ∙ same in
            let on_y : In y (path (acts M.lines) z.label) = subst (In y) (sym are) (inl refl) in
            let uid : y.uid ≡ r.uid = uid_is y.uid r.uid (sym (apart_acts (acts M.lines) (acting.distinct M all k n t there live) y r
            (on_path (acts M.lines) z.label y on_y) (on_path (acts M.lines) (name d.label) r own_root.1)) ∙ ids) in
            let c = above_branch r.uid (on_its r own_root.1) in
            let w = below_branch z began r.uid c.0 c.1 (ap (is_on (uids (path (acts M.lines) z.label))) (sym uid)
            ∙ on_of (path (acts M.lines) z.label) y on_y) in
            let g = acting.coord M all k n t there live in
            let its : actor (let v = w.0 in v.path) ≡ z.uid = g.tree.lists.places z.uid w.0 w.1 in
            let commits : is_committing (doing_of (actor (let v = w.0 in v.path)) t.coord) ≡ true
            = ap (λ v. is_committing (doing_of v t.coord)) its ∙ sym (act_waits z began w.0 w.1).1 ∙ q.1 in
            let roots : of_root (root_of (let v = s.branch in v.path)) w.0 ≡ true
            = (λ i. uid_eq (first_uid ((sym (path_so z began w.0 w.1)) i)) (first_uid ((sym s.path) i)))
            ∙ (λ i. uid_eq (first_uid (uids (are i))) (own_root.3 i)) ∙ (λ i. uid_eq (uid i) r.uid) ∙ uid_same r.uid in
            any_in (is_sibling s.branch t.coord) (filter (of_root (root_of (let v = s.branch in v.path))) t.coord.tree.branches) w.0
            (in_filter_too (of_root (root_of (let v = s.branch in v.path))) w.0 t.coord.tree.branches
            (place_in (let v = z.uid in v.num) w.0 t.coord.tree.branches (found_by z.uid t.coord.tree w.0 w.1).1) roots)
            (and_all (ap is_constituent (sym (kind_so z began w.0 w.1)) ∙ kind) (and_all (not_itself quiet w.0
            (commits_wait (doing_of (actor (let v = w.0 in v.path)) t.coord) commits)) commits))

    beside_here : waits t.coord u ≡ false → list_any (is_sibling s.branch t.coord)
        (filter (of_root (root_of (let y = s.branch in y.path))) t.coord.tree.branches) ≡ true → list_any beside (acts M.lines) ≡ true
    beside_here quiet is =
        let r = some_in (is_sibling s.branch t.coord) (filter (of_root (root_of (let y = s.branch in y.path))) t.coord.tree.branches) is in
        let w = r.0 in
        let f = in_filter (of_root (root_of (let y = s.branch in y.path))) w t.coord.tree.branches r.1 in
        let q = and_parts (is_constituent w.kind) (not (uid_eq (actor w.path) (actor (let y = s.branch in y.path)))
        && is_committing (doing_of (actor w.path) t.coord)) r.2 in
        let commits = (and_parts (not (uid_eq (actor w.path) (actor (let y = s.branch in y.path))))
        (is_committing (doing_of (actor w.path) t.coord)) q.1).1 in
        let y = doing_there (actor w.path) (commits_wait (doing_of (actor w.path) t.coord) commits) in
        let g = acting.stands M all k n t there live (actor w.path) y.0 y.1 in
        let found : branch_of g.act.uid t.coord.tree ≡ Some w = ap (λ v. branch_of v t.coord.tree) g.uid
        ∙ acting.branch_there M all k n t there live w f.0 in
        let its_uids : uids (path (acts M.lines) g.act.label) ≡ uids_of w.path = path_so g.act g.began w found in
        let top = root_some (path (acts M.lines) g.act.label) (actor w.path)
        (ap (λ us. is_on us (actor w.path)) its_uids ∙ on_own w.path) in
        let uid : (let v = top.0 in v.uid) ≡ (let v = own_root.0 in v.uid) = sym top.3 ∙ ap first_uid its_uids
        ∙ uid_is (root_of w.path) (root_of (let v = s.branch in v.path)) f.1 ∙ ap first_uid (sym s.path) ∙ own_root.3 in
        let ids : ((let v = top.0 in v.id) == (let v = own_root.0 in v.id)) ≡ true
        = apart_acts (acts M.lines) (acting.distinct M all k n t there live) top.0 own_root.0
        (on_path (acts M.lines) g.act.label top.0 top.1) (on_path (acts M.lines) (name d.label) own_root.0 own_root.1)
        ∙ (λ i. uid_eq (uid i) (let v = own_root.0 in v.uid)) ∙ uid_same (let v = own_root.0 in v.uid) in
        any_in beside (acts M.lines) g.act g.began
        (and_all (ap is_constituent (kind_so g.act g.began w found) ∙ q.0)
        (and_all ((λ i. model.is_root (top.2 i) (own_root.2 i)) ∙ ids)
        ((act_waits g.act g.began w found).1 ∙ ap (λ v. is_committing (doing_of v t.coord)) g.uid ∙ commits)))

    beside_so : waits t.coord u ≡ false → model.commits_beside Q (name d.label) ≡ sibling_waits s.branch t.coord
    beside_so quiet =
        ap (λ o. model.holds_of (λ a. is_constituent a.kind) o && list_any beside (acts M.lines)) s.named
        ∙ (λ i. is_constituent (s.kind i) && list_any beside (acts M.lines))
        ∙ ap (λ c. is_constituent (let y = s.branch in y.kind) && c) (same_test (list_any beside (acts M.lines))
        (list_any (is_sibling s.branch t.coord) (filter (of_root (root_of (let y = s.branch in y.path))) t.coord.tree.branches))
        (λ is. let r = some_in beside (acts M.lines) is in beside_there quiet r.0 r.1 r.2) (beside_here quiet))

    -- what a commit must not meet
    pub commits_so : (model.waits_near Q (name d.label) || model.commits_beside Q (name d.label))
        ≡ ((waits_above s.branch t.coord || waits_below s.branch t.coord) || sibling_waits s.branch t.coord)
    commits_so = (λ i. near_so i || model.commits_beside Q (name d.label)) ∙ by (waits_above s.branch t.coord) refl
      where
        by : (c : Bool) → waits_above s.branch t.coord ≡ c → ((c || waits_below s.branch t.coord) || model.commits_beside Q (name d.label))
            ≡ ((c || waits_below s.branch t.coord) || sibling_waits s.branch t.coord)
        by true is = refl
        by false is = ap (λ c. waits_below s.branch t.coord || c) (beside_so (itself is))

    -- what a giveup asks for
    pub waits_here : model.is_waiting Q (name d.label) ≡ waits t.coord (actor (let z = s.branch in z.path))
    waits_here = waits_so u d does ∙ ap (waits t.coord) (sym actor_is)
