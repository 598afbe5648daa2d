-- A coordinator stays good at each input that isn't refused, and where an action begins.
use Rattle.arj_law_parts.proofs.Words
use Words.{◌≡◌, ◌≢◌, ◌⊎◌, ◌+◌, zero, suc, ℕ, List, [], ◌∷◌, ◌++◌, length, Bool, true, false, cond, not, ◌&&◌, ◌==◌, Option, Some, None}
use Words.{refl, sym, ◌∙◌, ap, subst, inl, inr, ⊎_elim, arith, is_some, ⊤, list_any, and_parts, or_parts, or_cases, false_from_ne_true}
use Words.{length-append, before_last, last_uid, is_on, uid_eq, uid_is, In, in_from, in_to, none_in, path_is, Uid, Kind, Path, Header}
use Words.{Label, uids_of, tops_of, path_of, actor, begin_action, call, include, commit_action, give_up, Coord, Doing, Now, Idle, Calling}
use Words.{Committing, doing_of, number_of, Plan, plan_of, Intent, abort_action, Input, first_reason, is_waiting_now, is_waiting, waits}
use Words.{waits_above, begin_reasons, call_reasons, include_reasons, commit_reasons, branch_numbered, branch_named, refused_by}
use Words.{begin_refusal, refusal_up, parent_of, on_branch, acts, Tree, Branch, branch_of, is_own, is_open, is_open_branch, at_place}
use Words.{next_uid, path_below, begun, has_open_child, is_parent, is_serial}
use Words.kind
use Words.input
use Rattle.arj_law_parts.proofs.Terms
use Terms.{Action, action_of, AreBegun, MayBegin, IsAsking, IsVoting, IsBusy, IsGoodCoord, IsOver, IsCommitting, Paths, IsTree, MayStand}
use Rattle.arj_law_parts.proofs.parts
use parts.Begun.{path_length, path_some, last_more, before_more, on_more, before_on, serial_alone}
use parts.GoodCoords.{any_false, good_call, good_include, good_commit, good_abort, good_give_up}
use parts.GoodTrees.{whole_in, good_begun, new, grown, not_yet, grown_cases, grown_still, open_above, get_more}
use parts.ToldInOrder.{home_begun, home_others}

never : {P : Type 0} (b : Bool) → b ≡ true → b ≡ false → P
never b holds fails = let no_way : true ≡ false = sym holds ∙ fails in cc

-- ---- refusals

-- the reasons behind the first, and that the first doesn't hold
abbrev pub behind : List (ℕ × Bool) → List (ℕ × Bool)
behind [] = []
behind (r ∷ rs) = rs

abbrev pub IsOff : List (ℕ × Bool) → Type 0
IsOff [] = ⊤
IsOff (r ∷ rs) = r.1 ≡ false

-- where none holds, the first doesn't, nor any behind it
pub off : (rs : List (ℕ × Bool)) → first_reason rs ≡ None → IsOff rs × (first_reason (behind rs) ≡ None)
off [] is = (tt, refl)
off (r ∷ rs) is = by r.1 refl is
  where
    by : (b : Bool) → r.1 ≡ b → cond b (Some r.0) (first_reason rs) ≡ None → (r.1 ≡ false) × (first_reason rs ≡ None)
    by true e f = let no_way : ◌≡◌ {A = Option ℕ} (Some r.0) None = f in cc
    by false e f = (e, f)

pub off_third : (rs : List (ℕ × Bool)) → first_reason rs ≡ None → IsOff (behind (behind rs))
off_third rs is = (off (behind (behind rs)) (off (behind rs) (off rs is).1).1).0

unserial : (k : Kind) → is_serial k ≡ false → k ≢ kind.Serial
unserial k other is = never (is_serial k) (ap is_serial is) other

module _ (actions : List Action) (paths : Paths) (tree : IsTree paths) (intents : List (Uid × Intent)) (c : Coord)
    (good : IsGoodCoord actions paths c) where
  -- the branch of a label is found by its Uid
  pub named_found : (l : Label) (b : Branch) → branch_named l c ≡ Some b → branch_of (actor b.path) c.tree ≡ Some b
  named_found l b is = by (number_of l c) is
    where
      itself : (n : ℕ) → (n == n) ≡ true
      itself n = grind arith

      by : (o : Option ℕ) → branch_numbered c o ≡ Some b → branch_of (actor b.path) c.tree ≡ Some b
      by None e = let no_way : ◌≡◌ {A = Option Branch} None (Some b) = e in cc
      by (Some k) e =
          let u : Uid = record { node = c.tree.node; inc = c.tree.inc; num = k } in
          let found : branch_of u c.tree ≡ Some b =
          (λ i. cond (itself c.tree.node i && itself c.tree.inc i) (at_place k c.tree.branches) None) ∙ e in
          ap (λ v. branch_of v c.tree) (good.tree.lists.places u b found) ∙ found

  pub asks_by : (b : Branch) → branch_of (actor b.path) c.tree ≡ Some b → is_some b.ended ≡ false → is_serial b.kind ≡ false →
      IsAsking c.tree (actor b.path) b.path
  asks_by b found opened other = record { branch = b; found = found; path = refl; unserial = unserial b.kind other; opened = opened }

  pub good_acts : (hd : Header) (i : Input) → refusal_up hd i c ≡ None →
      ((l : Label) (k : Kind) (parent : Option Label) → i ≢ input.Begin l k parent) → IsGoodCoord actions paths (acts i intents c).part
  good_acts hd (input.Begin l k parent) none other = absurd (other l k parent refl)
  good_acts hd (input.Call l x o) none other = by (branch_named l c) refl none
    where
      by : (f : Option Branch) → branch_named l c ≡ f → refused_by (call_reasons hd x o) c f ≡ None →
          IsGoodCoord actions paths (on_branch (λ b. call b.path x o c) c f).part
      by None is e = good
      by (Some b) is e =
          let r6 : is_some b.ended ≡ false = (off (call_reasons hd x o b c) e).0 in
          let r11 : is_serial b.kind ≡ false = off_third (call_reasons hd x o b c) e in
          good_call actions paths b.path x o c (asks_by b (named_found l b is) r6 r11) good
  good_acts hd (input.Include l x s) none other = by (branch_named l c) refl none
    where
      by : (f : Option Branch) → branch_named l c ≡ f → refused_by (include_reasons hd x) c f ≡ None →
          IsGoodCoord actions paths (on_branch (λ b. include b.path x s c) c f).part
      by None is e = good
      by (Some b) is e =
          let r6 : is_some b.ended ≡ false = (off (include_reasons hd x b c) e).0 in
          let r11 : is_serial b.kind ≡ false = off_third (include_reasons hd x b c) e in
          good_include actions paths b.path x s c (asks_by b (named_found l b is) r6 r11) good
  good_acts hd (input.Commit l) none other = by (branch_named l c) refl none
    where
      by : (f : Option Branch) → branch_named l c ≡ f → refused_by commit_reasons c f ≡ None →
          IsGoodCoord actions paths (on_branch (λ b. commit_action b intents c) c f).part
      by None is e = good
      by (Some b) is e =
          let r6 : is_some b.ended ≡ false = (off (commit_reasons b c) e).0 in
          let r9 : has_open_child (actor b.path) c.tree ≡ false = off_third (commit_reasons b c) e in
          good_commit actions paths tree b intents c (named_found l b is) r6 r9 good
  good_acts hd (input.Abort l) none other = by (branch_named l c)
    where
      by : (f : Option Branch) → IsGoodCoord actions paths (on_branch (λ b. abort_action (actor b.path) intents c) c f).part
      by None = good
      by (Some b) = good_abort actions paths tree (actor b.path) intents c good
  good_acts hd (input.GiveUp l) none other = by (branch_named l c)
    where
      by : (f : Option Branch) → IsGoodCoord actions paths (on_branch (λ b. give_up (actor b.path) intents c) c f).part
      by None = good
      by (Some b) = good_give_up actions paths tree (actor b.path) intents c good
  good_acts hd (input.Frame k from m) none other = good
  good_acts hd input.Tick none other = good
  good_acts hd input.Restart none other = good
  good_acts hd input.Crash none other = good
  good_acts hd (input.Show x) none other = good

-- ---- a beginning

-- the path of a next action: its Uid comes last, behind its parent's
pub record IsNext (k : Kind) (parent : Option Branch) (t : Tree) : Type 0 where
  pub uid : actor (path_below k parent (next_uid t)) ≡ next_uid t
  pub above : (w : Uid) → is_on (uids_of (path_below k parent (next_uid t))) w ≡ true → w ≢ next_uid t →
      (b : Branch) × (parent ≡ Some b) × (is_on (uids_of b.path) w ≡ true)
  pub heir : (h : Uid) → before_last (uids_of (path_below k parent (next_uid t))) ≡ Some h →
      (b : Branch) × (parent ≡ Some b) × (h ≡ actor b.path)

pub next_path : (actions : List Action) → AreBegun actions → (k : Kind) (parent : Option Branch) (t : Tree) → MayBegin actions k parent →
    IsNext k parent t
next_path actions begun k parent t may = by k parent may
  where
    u : Uid
    u = next_uid t

    one : (k' : Kind) (o : Option Branch) → path_below k' o u ≡ path_of (u ∷ []) 1 → IsNext k' o t
    one k' o is =
        let m = path_is (u ∷ []) 1 (omega arith) (omega arith) (omega arith) (omega arith) (omega arith) in
        let path : uids_of (path_below k' o u) ≡ u ∷ [] = ap uids_of is ∙ m.has in
        record {
          uid = ap last_uid path;
          above = λ w on other. ⊎_elim (λ same. absurd (other (sym (uid_is u w same)))) (λ none. let no_way : false ≡ true = none in
              cc) (or_cases (uid_eq u w) false (ap (λ us. is_on us w) (sym path) ∙ on));
          heir = λ h is_h. let no_way : ◌≡◌ {A = Option Uid} None (Some h) = sym (ap before_last path) ∙ is_h in cc;
        }

    more : (k' : Kind) (b : Branch) → uids_of (path_below k' (Some b) u) ≡ uids_of b.path ++ u ∷ [] → IsNext k' (Some b) t
    more k' b path = record {
      uid = ap last_uid path ∙ last_more (uids_of b.path) u;
      above = λ w on other. ⊎_elim (λ up. (b, refl, up)) (λ same. absurd (other (sym same)))
          (on_more (uids_of b.path) u w (ap (λ us. is_on us w) (sym path) ∙ on));
      heir = λ h is. (
        b,
        refl,
        (let e : ◌≡◌ {A = Option Uid} (Some h) (Some (actor b.path)) = sym is ∙ ap before_last path
            ∙ before_more (uids_of b.path) u (path_some b.path) in cc),
      );
    }

    longer : (us : List Uid) → length (us ++ u ∷ []) ≡ length us + 1
    longer us = length-append us (u ∷ [])

    by : (k' : Kind) (o : Option Branch) → MayBegin actions k' o → IsNext k' o t
    by kind.Nested None m = absurd m
    by kind.Nested (Some b) m =
        let us : List Uid = uids_of b.path in
        let long = longer us in
        let made = path_is (us ++ u ∷ []) (tops_of b.path) (omega (arith, long)) (omega (arith, long, m.2)) b.path.one_top b.path.two_tops
        (omega (arith, long, b.path.within, path_length b.path)) in
        more kind.Nested b made.has
    by kind.Constituent None m = absurd m
    by kind.Constituent (Some b) m =
        let up = serial_alone actions begun (action_of b) (in_from (action_of b) actions m.0) m.1 in
        let us : List Uid = uids_of b.path in
        let long : length (us ++ u ∷ []) ≡ 2 = longer us ∙ ap (λ vs. length vs + 1) up.0 in
        let made = path_is (us ++ u ∷ []) 2 (omega (arith, long)) (omega (arith, long)) (omega arith) (omega arith) (omega (arith, long)) in
        more kind.Constituent b made.has
    by kind.Top None m = one kind.Top None refl
    by kind.Top (Some b) m = one kind.Top (Some b) refl
    by kind.Serial None m = one kind.Serial None refl
    by kind.Serial (Some b) m = one kind.Serial (Some b) refl
    by kind.Independent None m = one kind.Independent None refl
    by kind.Independent (Some b) m = one kind.Independent (Some b) refl

-- an action more, elsewhere
pub good_more : (a : Action) (actions : List Action) (paths : Paths) (c : Coord) → ((u : Uid) → is_on (uids_of a.path) u ≡ true →
    is_own u c.tree ≡ false) → IsGoodCoord actions paths c → IsGoodCoord (a ∷ actions) paths c
good_more a actions paths c off good = record {
  tree = good.tree;
  home = home_others a actions c.tree off good.home;
  known = λ u b f. let k = good.known u b f in in_to (action_of b) (a ∷ actions) (inr (in_from (action_of b) actions k));
  busy = good.busy;
}

module _ (actions : List Action) (begun_all : AreBegun actions) (paths : Paths) (tree : IsTree paths) (l : Label) (k : Kind)
    (parent : Option Label) (c : Coord) (good : IsGoodCoord actions paths c)
    (may : MayBegin actions k (parent_of parent c)) (none : begin_refusal k c parent ≡ None)
    (agree : uids_of (path_below k (parent_of parent c) (next_uid c.tree)) ≡ paths (next_uid c.tree)) where
  abbrev o : Option Branch
  o = parent_of parent c

  abbrev p : Path
  p = path_below k o (next_uid c.tree)

  its : IsNext k o c.tree
  its = next_path actions begun_all k o c.tree may

  -- the parent is open, and nobody on its path waits
  free_parent : (b : Branch) → o ≡ Some b → (is_some b.ended ≡ false) × (waits_above b c ≡ false)
  free_parent b is = by parent is none
    where
      by : (q : Option Label) → parent_of q c ≡ Some b → begin_refusal k c q ≡ None → (is_some b.ended ≡ false) × (waits_above b c ≡ false)
      by None e f = let no_way : ◌≡◌ {A = Option Branch} None (Some b) = e in cc
      by (Some x) e f =
          let g : refused_by (begin_reasons k) c (Some b) ≡ None = ap (refused_by (begin_reasons k) c) (sym e) ∙ f in
          let first = off (begin_reasons k b c) g in
          (first.0, (off (behind (begin_reasons k b c)) first.1).0)

  pub parent_found : (b : Branch) → o ≡ Some b → branch_of (actor b.path) c.tree ≡ Some b
  parent_found b is = by parent is
    where
      by : (q : Option Label) → parent_of q c ≡ Some b → branch_of (actor b.path) c.tree ≡ Some b
      by None e = let no_way : ◌≡◌ {A = Option Branch} None (Some b) = e in cc
      by (Some x) e = named_found actions paths tree [] c good x b e

  stand : MayStand paths k c.tree p
  stand = record {
    uid = its.uid;
    path = agree;
    parent = λ h is. let f = its.heir h is in
        ap (λ u. is_open u c.tree) f.2 ∙ ap is_open_branch (parent_found f.0 f.1) ∙ ap not (free_parent f.0 f.1).0;
  }

  -- who waits isn't above the new action
  not_above : (w : Uid) (d : Doing) → doing_of w c ≡ Some d → is_waiting_now d.now ≡ true → w ≢ next_uid c.tree →
      is_on (uids_of p) w ≡ false
  not_above w d found waiting other = false_from_ne_true (is_on (uids_of p) w) (λ on.
      let f = its.above w on other in
      never (waits c w) (ap is_waiting found ∙ waiting) (quiet (uids_of f.0.path) (free_parent f.0 f.1).1 f.2))
    where
      quiet : (us : List Uid) → list_any (waits c) us ≡ false → is_on us w ≡ true → waits c w ≡ false
      quiet [] e on = let no_way : false ≡ true = on in cc
      quiet (x ∷ us) e on = let q = or_parts (waits c x) (list_any (waits c) us) e in
          ⊎_elim (λ same. ap (waits c) (sym (uid_is x w same)) ∙ q.0) (λ rest. quiet us q.1 rest) (or_cases (uid_eq x w) (is_on us w) on)

  abbrev t : Tree
  t = c.tree

  abbrev v : Tree
  v = grown k p t

  asking_grown : (w : Uid) (q : Path) → IsAsking t w q → IsAsking v w q
  asking_grown w q a =
      record { branch = a.branch; found = grown_still k p t w a.branch a.found; path = a.path; unserial = a.unserial; opened = a.opened }

  voting_grown : (w : Uid) (q : Plan) → is_on (uids_of p) w ≡ false → IsVoting t w q → IsVoting v w q
  voting_grown w q off a = record {
    asking = asking_grown w q.path a.asking;
    top = λ b f. ⊎_elim (λ old. a.top b old) (λ g. absurd (fresh g.0)) (grown_cases k p t w b f);
    childless = any_false (λ b. is_parent w (before_last (uids_of b.path)) && not (is_some b.ended)) v.branches (λ b i. ⊎_elim
        (λ old. none_in (λ (x : Branch). is_parent w (before_last (uids_of x.path)) && not (is_some x.ended)) b t.branches a.childless old)
        (λ same. ap (λ (x : Branch). is_parent w (before_last (uids_of x.path)) && not (is_some x.ended)) (sym same)
        ∙ no_child (before_last (uids_of p)) refl) (in_last b t.branches i));
    below = λ x b f on other. ⊎_elim (λ old. a.below x b old on other)
        (λ g. never (is_on (uids_of p) w) (ap (λ (d : Branch). is_on (uids_of d.path) w) g.1 ∙ on) off) (grown_cases k p t x b f);
    over = λ x is. let y = a.over x is in (y.0, grown_still k p t x y.0 y.1, y.2);
    whole = whole_in t v [] q.ends (λ x y b is f on other. ⊎_elim (λ old. (b, old, refl)) (λ g. let z = a.over x is in absurd (open_above
        paths tree k p t stand good.tree x z.0 z.1 z.2 (ap (λ us. is_on us x) (sym (ap (λ (d : Branch). uids_of d.path) (sym g.1) ∙ agree))
        ∙ on) (λ same. other (g.0 ∙ sym same)))) (grown_cases k p t y b f)) a.whole;
  }
    where
      fresh : w ≡ next_uid t → ⊥
      fresh same = let no_way : ◌≡◌ {A = Option Branch} None (Some a.asking.branch) = sym (not_yet k p t)
          ∙ ap (λ x. branch_of x t) (sym same) ∙ a.asking.found in cc

      no_child : (h : Option Uid) → before_last (uids_of p) ≡ h → (is_parent w h && true) ≡ false
      no_child None is = refl
      no_child (Some h) is = false_from_ne_true (is_parent w (Some h) && true) (λ e. never (is_on (uids_of p) w)
          (ap (is_on (uids_of p)) (sym (uid_is h w (and_parts (uid_eq h w) true e).0)) ∙ before_on (uids_of p) h is) off)

      in_last : (b : Branch) (bs : List Branch) → In b (bs ++ new k p t ∷ []) → In b bs ⊎ (new k p t ≡ b)
      in_last b [] (inl same) = inr same
      in_last b [] (inr i) = absurd i
      in_last b (x ∷ bs) (inl same) = inl (inl same)
      in_last b (x ∷ bs) (inr i) = ⊎_elim (λ old. inl (inr old)) (λ same. inr same) (in_last b bs i)

  pub good_begins : IsGoodCoord (record { path = p; kind = k } ∷ actions) paths (begin_action l k parent o c).part
  good_begins = record {
    tree = good_begun paths tree k p t stand good.tree;
    home = home_begun actions k p t its.uid good.home;
    known = λ w b f. ⊎_elim (λ old. let q = good.known w b old in
        in_to (action_of b) (record { path = p; kind = k } ∷ actions) (inr (in_from (action_of b) actions q)))
        (λ g. in_to (action_of b) (record { path = p; kind = k } ∷ actions) (inl (ap action_of g.1))) (grown_cases k p t w b f);
    busy = λ w d f.
        ⊎_elim (λ old. still w d old (good.busy w d old)) (λ same. subst (λ (x : Doing). IsBusy v w x.now) same tt) (doing_cases w d f);
  }
    where
      fresh : Doing
      fresh = record { label = l; req = 0; now = Idle; took = [] }

      still : (w : Uid) (d : Doing) → doing_of w c ≡ Some d → IsBusy t w d.now → IsBusy v w d.now
      still w d found b = by d.now refl b
        where
          not_new : (br : Branch) → branch_of w t ≡ Some br → w ≢ next_uid t
          not_new br f same =
              let no_way : ◌≡◌ {A = Option Branch} None (Some br) = sym (not_yet k p t) ∙ ap (λ x. branch_of x t) (sym same) ∙ f in cc

          by : (n : Now) → d.now ≡ n → IsBusy t w n → IsBusy v w n
          by Idle is a = tt
          by (Calling s) is a = asking_grown w s.path a
          by (Committing m) is a =
              voting_grown w (plan_of m) (not_above w d found (ap is_waiting_now is) (not_new a.asking.branch a.asking.found)) a

      place_cases : (j : ℕ) (d : Doing) → at_place j (c.doings ++ fresh ∷ []) ≡ Some d → (at_place j c.doings ≡ Some d) ⊎ (fresh ≡ d)
      place_cases zero d is = let no_way : ◌≡◌ {A = Option Doing} None (Some d) = is in cc
      place_cases (suc j) d is = ⊎_elim (λ old. inl old) (λ f. inr f.1) (get_more j fresh d c.doings is)

      doing_cases : (w : Uid) (d : Doing) → cond (is_own w t) (at_place w.num (c.doings ++ fresh ∷ [])) None ≡ Some d →
          (doing_of w c ≡ Some d) ⊎ (fresh ≡ d)
      doing_cases w d is = by (is_own w t) is
        where
          by : (y : Bool) → cond y (at_place w.num (c.doings ++ fresh ∷ [])) None ≡ Some d →
              (cond y (at_place w.num c.doings) None ≡ Some d) ⊎ (fresh ≡ d)
          by true e = place_cases w.num d e
          by false e = let no_way : ◌≡◌ {A = Option Doing} None (Some d) = e in cc

  -- what has ended here, or is at its commit, isn't above the new action
  pub none_above : (u : Uid) → IsOver u t ⊎ IsCommitting u c → is_on (uids_of p) u ≡ false
  none_above u (inl over) = false_from_ne_true (is_on (uids_of p) u)
      (λ on. open_above paths tree k p t stand good.tree u over.0 over.1 over.2 (ap (λ us. is_on us u) (sym agree) ∙ on) (λ same.
      let no_way : ◌≡◌ {A = Option Branch} None (Some over.0) = sym (not_yet k p t) ∙ ap (λ x. branch_of x t) (sym same) ∙ over.1 in cc))
  none_above u (inr at_work) = not_above u at_work.0 at_work.2 (ap is_waiting_now at_work.3) (λ same. let no_way : ◌≡◌ {A = Option Branch}
      None (Some v'.asking.branch) = sym (not_yet k p t) ∙ ap (λ x. branch_of x t) (sym same) ∙ v'.asking.found in cc)
    where
      v' : IsVoting t u (plan_of at_work.1)
      v' = subst (IsBusy t u) at_work.3 (good.busy u at_work.0 at_work.2)
