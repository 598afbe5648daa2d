-- A commit at a server goes in the machine.
use Rattle.arj_law_parts.proofs.Words
use Words.{◌≡◌, ◌≤◌, ◌∙◌, ◌+◌, ◌++◌, not, ℕ, List, [], ◌∷◌, Bool, true, false, cond, filter, length, map, Option, Some, None, refl, sym, ap}
use Words.{subst, inl, inr, arith, AllByRecursion, min, map-append, before_last, front, uid_is, uid_same, in_find, in_find_none, in_to}
use Words.{heir_is, Uid, is_on, last_uid, object, pass_rows, uid_eq, Copy, Over, end_copy, folded, is_of, is_top_over, over_of}
use Words.{overs_committed, settled, written}
use Words.list as over
use Words.ending
use Rattle.arj_law_lock_view.proofs.Terms
use Terms.{Act, In, Root, Sub, depth, is_action, on, top, Guard, handed, next, stay, step, Entry, Server, State, DropRows, IsFolded}
use Terms.{PassRow, PassTop, held_value, at_here, on_above, on_self, pass_cases, IsTree, Paths, Acts, IsAlone, IsCommitting, IsRightBelow}
use Terms.{value_in, maker_in, AreHeld, Codes, IsOver, OnlyEnds, SeesCopy, SeesOvers, Goes, SeesRows, held_in}
use Rattle.arj_law_lock_view.proofs.view
use view.{CopySteps.put_seen, RunSteps.goes_then, RunSteps.goes_to}
use view.LeftSteps.{ends_both, ends_only, left_handed, left_kept}
use view.LogSteps.{all_handed, all_kept, folded_here, held_for, held_seen, lowest_over, none_undone, others_handed, over_deep, own_undone}
use view.PassSteps.{others_keep, passed_seen}
use view.UndoSteps.{drop_goes, keeps, undone_seen, without}
use Rattle.arj_law_lock_view.specs.view.Commits.{FoldingsAreSeen, IsCommitSeen, RetainingsAreSeen, SettlingsAreSeen}
use Rattle.arj_law_lock_view.specs.view.Copies.{writer_of}
use Rattle.arj_law_parts.specs.parts.Copies.{IsChain}
use Rattle.std.proofs.lemmas.Bool.{le-leb, lt-leb}
use Rattle.arj_law_lock.specs.machine.Rows as machine

-- a path with one before its last Uid is one longer than its front
front_length : (us : List Uid) (h : Uid) → before_last us ≡ Some h → length (front us) + 1 ≡ length us
front_length [] h e = absurd (cc e)
front_length (u ∷ []) h e = absurd (cc e)
front_length (u ∷ w ∷ []) h e = refl
front_length (u ∷ w ∷ v ∷ us) h e = let i = front_length (w ∷ v ∷ us) h e in omega (arith, i)

-- a top wrote its own overlay
own_writer : (act : Acts) (u : Uid) (unit number : ℕ) → act u ≡ Sub (Root unit) number → (e : Over) → last_uid e.holder ≡ u →
    writer_of act e ≡ act u
own_writer act u unit number below e last = ap (λ (w : Uid). top (act w)) last ∙ ap top below ∙ sym below

-- an action has its parent's top
top_below : (a : Act) (n : ℕ) → is_action a ≡ true → top (Sub a n) ≡ top a
top_below (Root r) n is = absurd (cc is)
top_below (Sub a m) n is = refl

module _ (act : Acts) (code : Codes) (paths : Paths) (n x : ℕ) (u : Uid) (c : Copy) (S : State) (ends : IsCommitting act paths x u c)
    (sees : SeesCopy act code x c (S.server n)) where
  -- the server in the machine
  abbrev v : Server
  v = S.server n

  path_of : (o : Over) → over.In o c.stack → last_uid o.holder ≡ u → o.holder ≡ paths u
  path_of o i last = ends.good.overs o (in_to o c.stack i) ∙ ap paths last

  -- ---- the commit of a top

  module _ (unit number : ℕ) (below : act u ≡ Sub (Root unit) number) (committed : (S.action (act u)).stage ≡ 3) where
    -- the server after it
    abbrev settled_server : Server
    settled_server = record v {
      rows = machine.pass v.rows (Root unit) number;
      base = held_value (Sub (Root unit) number) v.base v.log;
      log = filter (keeps (Sub (Root unit) number)) v.log;
    }

    settles : Goes S (λ T. (T.server n ≡ settled_server) × OnlyEnds n S T)
    settles = record {
      state = next (PassTop n unit number) S;
      run = step (PassTop n unit number) (
        ap (λ (a : Act). (S.action a).stage) (sym below) ∙ committed,
        subst (IsFolded S v.log) below (folded_here act paths x u c ends code S v.log sees.overs),
      ) stay;
      holds = (
        at_here S.server n settled_server,
        ends_only n S settled_server (record { incarnation = refl; voted = refl; request = refl })
            (left_kept S (keeps (Sub (Root unit) number)) v.log),
      );
    }

    left : SeesOvers act code (filter (λ (o : Over). not (is_of u o)) c.stack) settled_server.log
    left = subst (λ (a : Act). SeesOvers act code (filter (λ (o : Over). not (is_of u o)) c.stack) (filter (keeps a) v.log)) below
        (subst (λ (os : List Over). SeesOvers act code os (filter (keeps (act u)) v.log))
        (sym (own_undone act paths x u c ends c.stack (λ o i. i))) (undone_seen act code u c.stack v.log ends.told.overs sees.overs))

    value_is : settled_server.base ≡ code (value_in c.base (over_of u c.stack)) (maker_in act c.base (over_of u c.stack))
    value_is = ap (λ (a : Act). held_value a v.base v.log) (sym below)
        ∙ held_seen act ends.one code u c.base v.base sees.base c.stack v.log sees.overs

    -- the copy after it, with these rows in the machine
    top_seen : (w : Server) → w.active ≡ v.active → w.base ≡ settled_server.base → w.log ≡ settled_server.log →
        SeesRows act (object x) (pass_rows u c.rows) w.rows → SeesCopy act code x (end_copy u ending.Commit c) w
    top_seen w active base log rows = by (over_of u c.stack) refl
      where
        by : (o : Option Over) → over_of u c.stack ≡ o →
            SeesCopy act code x (let d = overs_committed u o c in record d { rows = pass_rows u c.rows }) w
        by None none = record {
          active = active ∙ sees.active;
          base = base ∙ value_is ∙ ap (λ (o : Option Over). code (value_in c.base o) (maker_in act c.base o)) none;
          overs = subst (λ (os : List Over). SeesOvers act code os w.log) (none_undone u c.stack none)
              (subst (SeesOvers act code (filter (λ (o : Over). not (is_of u o)) c.stack)) (sym log) left);
          rows = rows;
        }
        by (Some e) some =
            let f = in_find (is_of u) e c.stack some in
            let deep = over_deep act code c.stack v.log sees.overs e f.0 in
            let one_deep : depth (act (last_uid e.holder)) ≡ 1 = ap (λ (w : Uid). depth (act w)) (uid_is (last_uid e.holder) u f.1)
            ∙ ap depth below in
            let top : is_top_over e ≡ true = le-leb (length e.holder) e.tops (omega (arith, deep, one_deep)) in
            subst (λ (b : Bool). SeesCopy act code x (let d = cond b (settled u e c) (record c { stack = folded u c.stack }) in
            record d { rows = pass_rows u c.rows }) w) (sym top) (record {
              active = active ∙ sees.active;
              base = base ∙ value_is ∙ ap (λ (o : Option Over). code (value_in c.base o) (maker_in act c.base o)) some
                  ∙ ap (code e.value) (own_writer act u unit number below e (uid_is (last_uid e.holder) u f.1));
              overs = subst (SeesOvers act code (filter (λ (o : Over). not (is_of u o)) c.stack)) (sym log) left;
              rows = rows;
            })

  retainings_go : (h : Uid) (unit : ℕ) → IsRightBelow act paths u h S → act h ≡ Root unit → IsCommitSeen act code n x u c S
  retainings_go h unit under serial =
      let below : act u ≡ Sub (Root unit) under.number = under.below ∙ ap (λ (a : Act). Sub a under.number) serial in
      goes_to (settles unit under.number below under.committed) (λ T g. (
        subst (SeesCopy act code x (end_copy u ending.Commit c)) (sym g.0)
            (top_seen unit under.number below under.committed (settled_server unit under.number below under.committed) refl refl refl
            (passed_seen act ends.one (object x) u h c.rows ends.good.one (Root unit) under.number serial below (λ r i held. ap before_last
            (ends.good.holders r (in_to r c.rows i) ∙ ap paths (uid_is (last_uid r.holder) u held)) ∙ under.parent) v.rows sees.rows)),
        g.1,
      ))

  -- ---- a plain top, whose rows go then

  module _ (alone : IsAlone act u S) where
    abbrev a : Act
    a = Root alone.unit

    abbrev w : Server
    w = settled_server alone.unit alone.number alone.below alone.committed

    none_left : (e : Entry) → In e w.log → on e.holder a ≡ false
    none_left e i =
        let j = in_kept (keeps (Sub a alone.number)) e v.log i in
        let f = held_for act code c.stack v.log sees.overs e j.0 in
        ap (λ (b : Act). on b a) f.2 ∙ alone.alone (last_uid f.0.holder) ∙ ap (λ (b : Act). on b (act u)) (sym f.2)
        ∙ ap (on e.holder) alone.below ∙ not_true (on e.holder (Sub a alone.number)) j.1
      where
        not_true : (b : Bool) → not b ≡ true → b ≡ false
        not_true true h = absurd (cc h)
        not_true false h = refl

        in_kept : (p : Entry → Bool) (e : Entry) (es : List Entry) → In e (filter p es) → In e es × (p e ≡ true)
        in_kept p e [] i = absurd i
        in_kept p e (y ∷ ys) i = by (p y) refl i (in_kept p e ys)
          where
            by : (b : Bool) → p y ≡ b → In e (cond b (y ∷ filter p ys) (filter p ys)) → (In e (filter p ys) → In e ys × (p e ≡ true)) →
                In e (y ∷ ys) × (p e ≡ true)
            by true is (inl same_one) ih = (inl same_one, ap p same_one ∙ is)
            by true is (inr j) ih = let k = ih j in (inr k.0, k.1)
            by false is j ih = let k = ih j in (inr k.0, k.1)

    stays_left : filter (keeps a) w.log ≡ w.log
    stays_left = all_kept (keeps a) w.log (each w.log (λ e i. i))
      where
        each : (es : List Entry) → ((e : Entry) → In e es → In e w.log) → AllByRecursion (λ (e : Entry). keeps a e ≡ true) es
        each [] there = tt
        each (e ∷ es) there = (ap not (none_left e (there e (inl refl))), each es (λ f i. there f (inr i)))

    rows_left : SeesRows act (object x) (pass_rows u c.rows) (machine.drop_below w.rows a)
    rows_left = λ b. by b (on b a) refl
      where
        by : (b : Act) (t : Bool) → on b a ≡ t → cond t 0 (w.rows b) ≤ held_in act (object x) b (pass_rows u c.rows)
        by b true is = omega arith
        by b false is =
            pass_cases (λ (d : Act) (k : ℕ). on d a ≡ false → k ≤ held_in act (object x) d (pass_rows u c.rows)) v.rows a alone.number
            (λ off. omega arith)
            (λ off. absurd (let s = on_self a in cc (sym s ∙ off)))
            (λ d here under off. (let other : d ≡ act u → ⊥ = λ is_it. (let s = on_above a alone.number a (on_self a) in
            absurd (cc (sym s ∙ ap (λ (e : Act). on e a) (sym (is_it ∙ alone.below)) ∙ off))) in
            let i = sees.rows d in let j = others_keep act ends.one (object x) u c.rows d other c.rows in omega (arith, i, j)))
            b is

    drained : (T : State) → T.server n ≡ w → OnlyEnds n S T → Guard (DropRows n a) T
    drained T is only =
        inr (inl (
          ap (λ (s : State). (s.action a).stage) only.rest ∙ alone.over,
          (λ e i above. absurd (let k = none_left e (subst (λ (r : Server). In e r.log) is i) in cc (sym above ∙ k))),
        ))

    settlings_go : IsCommitSeen act code n x u c S
    settlings_go = goes_then (settles alone.unit alone.number alone.below alone.committed)
        (λ T g. goes_to (drop_goes n a T (drained T g.0 g.1)) (λ V h. (
          subst (SeesCopy act code x (end_copy u ending.Commit c)) (sym (h.0 ∙ ap (without a) g.0))
              (top_seen alone.unit alone.number alone.below alone.committed (without a w) refl refl stays_left rows_left),
          ends_both g.1 h.1,
        )))

  -- ---- the commit of a nested action

  module _ (tree : IsTree paths) (h : Uid) (under : IsRightBelow act paths u h S) (action : is_action (act h) ≡ true) where
    abbrev j : ℕ
    j = under.number

    -- the server after it
    abbrev passed_server : Server
    passed_server = record v { rows = machine.pass v.rows (act h) j; log = map (handed (act h) j) v.log }

    deeper : (a : Act) → is_action a ≡ true → 1 ≤ depth a
    deeper (Root k) is = absurd (cc is)
    deeper (Sub b k) is = omega arith

    -- its overlay is the deepest one
    first_own : (o : Over) (os : List Over) (e : Over) → c.stack ≡ o ∷ os → over_of u c.stack ≡ Some e → is_of u o ≡ true
    first_own o os e is found = by (is_of u o) refl
      where
        by : (b : Bool) → is_of u o ≡ b → b ≡ true
        by true own = refl
        by false other =
            let deep = in_find (is_of u) e os (sym (λ i. cond (other i) (Some o) (over_of u os)) ∙ ap (over_of u) (sym is) ∙ found) in
            let chain = subst IsChain is ends.good.chain in
            let up : is_on o.holder u ≡ true = ap (is_on o.holder) (sym (uid_is (last_uid e.holder) u deep.1))
            ∙ (chain.0 e (in_to e os deep.0)).0 in
            let same_one = lowest_over act paths x u c ends o (subst (over.In o) (sym is) (inl refl)) up in
            let own = uid_same u in absurd (cc (sym own ∙ ap (λ (w : Uid). uid_eq w u) (sym same_one) ∙ other))

    folded_seen : (o : Over) (os : List Over) → c.stack ≡ o ∷ os → is_of u o ≡ true →
        SeesOvers act code (folded u c.stack) passed_server.log
    folded_seen o os is own = subst (λ (ws : List Over). SeesOvers act code ws passed_server.log)
        (sym (ap (folded u) is ∙ (λ i. cond (own i) (written (front o.holder) (min o.tops (length (front o.holder))) o.value os) (o ∷ os))))
        (subst (SeesOvers act code (written (front o.holder) (min o.tops (length (front o.holder))) o.value os)) (sym log_is)
        (put_seen act code (front o.holder) (min o.tops (length (front o.holder))) o.value (map (handed (act h) j) own_part) os rest_part
        over_is overs.4))
      where
        overs : SeesOvers act code (o ∷ os) v.log
        overs = subst (λ (qs : List Over). SeesOvers act code qs v.log) is sees.overs

        own_part : List Entry
        own_part = overs.0

        rest_part : List Entry
        rest_part = overs.1

        of : IsOver act code o own_part
        of = overs.3

        last : last_uid o.holder ≡ u
        last = uid_is (last_uid o.holder) u own

        path : o.holder ≡ paths u
        path = path_of o (subst (over.In o) (sym is) (inl refl)) last

        parent : before_last o.holder ≡ Some h
        parent = ap before_last path ∙ under.parent

        others : (q : Over) → over.In q os → uid_eq (last_uid q.holder) u ≡ false
        others q i = let chain = subst IsChain is ends.good.chain in
            ap (uid_eq (last_uid q.holder)) (sym last) ∙ (chain.0 q (in_to q os i)).1

        log_is : passed_server.log ≡ map (handed (act h) j) own_part ++ rest_part
        log_is = ap (map (handed (act h) j)) overs.2 ∙ map-append (handed (act h) j) own_part rest_part
            ∙ ap (λ (es : List Entry). map (handed (act h) j) own_part ++ es)
            (others_handed act ends.one u (act h) j under.below code os rest_part others overs.4)

        over_is : IsOver act code (record { holder = front o.holder; tops = min o.tops (length (front o.holder)); value = o.value })
            (map (handed (act h) j) own_part)
        over_is = record {
          newest = handed (act h) j of.newest;
          older = map (handed (act h) j) of.older;
          are = ap (map (handed (act h) j)) of.are;
          held = subst (λ (w : Uid). AreHeld (act w) (map (handed (act h) j) own_part)) (sym (heir_is o.holder h parent).0)
              (all_handed act ends.one u (act h) j under.below own_part (subst (λ (w : Uid). AreHeld (act w) own_part) last of.held));
          value = of.value ∙ ap (code o.value) (ap (λ (w : Uid). top (act w)) last ∙ ap top under.below ∙ top_below (act h) j action
              ∙ ap (λ (w : Uid). top (act w)) (sym (heir_is o.holder h parent).0));
          deep =
              let long = front_length o.holder h parent in
              let deep : length o.holder + 1 ≡ depth (act h) + 1 + o.tops = of.deep ∙ ap (λ (w : Uid). depth (act w) + o.tops) last
              ∙ ap (λ (b : Act). depth b + o.tops) under.below in
              let some = deeper (act h) action in
              let up : depth (act (last_uid (front o.holder))) ≡ depth (act h) = ap (λ (w : Uid). depth (act w))
              (heir_is o.holder h parent).0 in
              omega (arith, long, deep, some, up);
        }

    rows_passed : SeesRows act (object x) (pass_rows u c.rows) passed_server.rows
    rows_passed = passed_seen act ends.one (object x) u h c.rows ends.good.one (act h) j refl under.below (λ r i held. ap before_last
        (ends.good.holders r (in_to r c.rows i) ∙ ap paths (uid_is (last_uid r.holder) u held)) ∙ under.parent) v.rows sees.rows

    copy_after : SeesCopy act code x (end_copy u ending.Commit c) passed_server
    copy_after = by (over_of u c.stack) refl
      where
        by : (o : Option Over) → over_of u c.stack ≡ o →
            SeesCopy act code x (let d = overs_committed u o c in record d { rows = pass_rows u c.rows }) passed_server
        by None none = record {
          active = sees.active;
          base = sees.base;
          overs = subst (SeesOvers act code c.stack) (sym (others_handed act ends.one u (act h) j under.below code c.stack v.log
              (λ o i. in_find_none (is_of u) o c.stack none i) sees.overs)) sees.overs;
          rows = rows_passed;
        }
        by (Some e) some =
            let f = in_find (is_of u) e c.stack some in
            let deep = over_deep act code c.stack v.log sees.overs e f.0 in
            let two : depth (act (last_uid e.holder)) ≡ depth (act h) + 1 = ap (λ (w : Uid). depth (act w))
            (uid_is (last_uid e.holder) u f.1) ∙ ap depth under.below in
            let more = deeper (act h) action in
            let nested : is_top_over e ≡ false = lt-leb (length e.holder) e.tops (omega (arith, deep, two, more)) in
            subst (λ (b : Bool). SeesCopy act code x (let d = cond b (settled u e c) (record c { stack = folded u c.stack }) in
            record d { rows = pass_rows u c.rows }) passed_server) (sym nested) (record {
              active = sees.active;
              base = sees.base;
              overs = overs_after c.stack refl e some;
              rows = rows_passed;
            })
          where
            overs_after : (stack : List Over) → c.stack ≡ stack → (e : Over) → over_of u c.stack ≡ Some e →
                SeesOvers act code (folded u c.stack) passed_server.log
            overs_after [] is e found = absurd (let g : ◌≡◌ {A = Option Over} None (Some e) = ap (over_of u) (sym is) ∙ found in cc)
            overs_after (o ∷ os) is e found = folded_seen o os is (first_own o os e is found)

    foldings_go : IsCommitSeen act code n x u c S
    foldings_go = record {
      state = next (PassRow n (act h) j) S;
      run = step (PassRow n (act h) j) (action, ap (λ (b : Act). (S.action b).stage) (sym under.below) ∙ under.committed) stay;
      holds = (
        subst (SeesCopy act code x (end_copy u ending.Commit c)) (sym (at_here S.server n passed_server)) copy_after,
        ends_only n S passed_server (record { incarnation = refl; voted = refl; request = refl })
            (left_handed S (act h) j (ap (λ (b : Act). (S.action b).stage) (sym under.below) ∙ under.committed) v.log),
      );
    }

pub foldings_are_seen : FoldingsAreSeen
foldings_are_seen act code paths n x u h c S tree ends under action sees =
    foldings_go act code paths n x u c S ends sees tree h under action

pub retainings_are_seen : RetainingsAreSeen
retainings_are_seen act code paths n x u h unit c S ends under serial sees =
    retainings_go act code paths n x u c S ends sees h unit under serial

pub settlings_are_seen : SettlingsAreSeen
settlings_are_seen act code paths n x u c S ends alone sees = settlings_go act code paths n x u c S ends sees alone
