-- A coordinator takes an input, hears an answer, or sends again: what holds of naming's confirmations goes on.
use Rattle.arj_law_parts.proofs.Words
use Words.{◌≡◌, ◌≢◌, ◌∙◌, ◌++◌, ◌==◌, ◌&&◌, ◌||◌, ℕ, Bool, true, false, List, [], ◌∷◌, map, Option, Some, None, refl, sym, ap, inl, inr}
use Words.{arith, eqb-true, is_some, AllByRecursion, and_parts, Asked, Header, Label, Message, Uid, Reply, actor, answers, again_all, heard}
use Words.{Coord, doing_of, Did, Disk, Effect, Intent, Served, tell_all, tick_outs, Parts, holders, query_about, with_coord, Input, acts}
use Words.{branch_named, commit_reasons, refusal_up, refused_by, tolds_again, waits_above, waits_below, Branch, branch_of, is_own, Seen}
use Words.ending
use Words.input
use Words.ask
use Rattle.arj_law_promise.proofs.Terms
use Terms.{paths_of, AreNumbered, named_found, off, found_by, well_again, is_act, In, up, Up, Walks, IsPart, KnowsParts, AllSeek, waits_not}
use Terms.{some_is}
use Rattle.arj_law_lock_view.proofs.facts.PartSends.{acts_seeks, again_seeks, heard_seeks, seek_both}
use Rattle.arj_law_promise.proofs.settling
use settling.{ConfirmDecides.decided_naming, Confirms.AsksConfirm, Confirms.AsksMarked, Knowns.never, Knowns.numbers, Milds.here_is}
use settling.{Milds.the_node, Moves.queries_calm, Moves.tolds_calm}
use settling.Calms.{Decided, Goes, IsYes, Still, acts_goes, again_calm, calm_both, heard_goes}
use settling.ConfirmCoords.{SendsBare, coord_walk, true_bare}
use settling.ConfirmKnown.{AllKnown, IsNaming, parted}
use Rattle.arj_law_promise.proofs.settling.Moves as moves

-- ---- what asks for nothing

bare_both : (xs ys : List Effect) → AllByRecursion SendsBare xs → AllByRecursion SendsBare ys → AllByRecursion SendsBare (xs ++ ys)
bare_both [] ys a b = b
bare_both (x ∷ xs) ys a b = (a.0, bare_both xs ys a.1 b)

queries_bare : (us : List Uid) → AllByRecursion SendsBare (map query_about us)
queries_bare [] = tt
queries_bare (u ∷ us) = ((refl, refl), queries_bare us)

queries_seek : (c : Coord) (us : List Uid) → AllSeek c (map query_about us)
queries_seek c [] = tt
queries_seek c (u ∷ us) = ((λ h a is part. cc is), queries_seek c us)

tolds_bare : (telling : List (Uid × Intent)) → AllByRecursion SendsBare (tolds_again telling)
tolds_bare [] = tt
tolds_bare (x ∷ es) = let i = x.1 in
    bare_both (tell_all i.root true ((x.0, ending.Commit) ∷ []) i.nodes) (tolds_again es) (one i.nodes) (tolds_bare es)
  where
    one : (ns : List ℕ) → AllByRecursion SendsBare (tell_all (let i = x.1 in i.root) true ((x.0, ending.Commit) ∷ []) ns)
    one [] = tt
    one (n ∷ ns) = ((refl, refl), one ns)

tolds_seek : (c : Coord) (telling : List (Uid × Intent)) → AllSeek c (tolds_again telling)
tolds_seek c [] = tt
tolds_seek c (x ∷ es) = let i = x.1 in
    seek_both c (tell_all i.root true ((x.0, ending.Commit) ∷ []) i.nodes) (tolds_again es) (one i.nodes) (tolds_seek c es)
  where
    one : (ns : List ℕ) → AllSeek c (tell_all (let i = x.1 in i.root) true ((x.0, ending.Commit) ∷ []) ns)
    one [] = tt
    one (n ∷ ns) = ((λ h a is part. cc is), one ns)

-- a coordinator with the same actions of its own is of the same incarnation
own_inc : (c e : Coord) → ((u : Uid) → is_own u e.tree ≡ is_own u c.tree) → (let z = e.tree in z.inc) ≡ (let z = c.tree in z.inc)
own_inc c e same =
    let u : Uid = record { node = c.tree.node; inc = c.tree.inc; num = 0 } in
    sym (eqb-true c.tree.inc e.tree.inc
    (and_parts (c.tree.node == e.tree.node) (c.tree.inc == e.tree.inc) (same u ∙ (λ i. one c.tree.node i && one c.tree.inc i))).1)
  where
    one : (m : ℕ) → (m == m) ≡ true
    one m = grind arith

module _ (k : ℕ) (d : Disk) (t : Parts) (M : Seen) (right : IsNaming (up k d t M)) (e : ℕ) where
  abbrev Start : Seen
  Start = up k d t M

  here : Start.nodes k ≡ Some (the_node k d (Some t))
  here = here_is k d (Some t) M

  abbrev Unmarked : Uid → Type 0
  Unmarked u = AsksMarked M.sent u → ⊥

  -- ---- an answer

  module _ (from : ℕ) (m : Message) (there : In (record { from = from; to = k; message = m }) M.sent) (a : Asked) (r : Reply)
      (of : answers m ≡ Some (a, r)) where
    abbrev its : Served Coord (Unit {0})
    its = heard from a r d.intents t.coord

    pub heard_naming : Walks AllKnown e k (heard from a r d.intents t.coord).outs
        (Up AllKnown k (with_coord t (heard from a r d.intents t.coord).part)) d M → Walks IsNaming e k
        (heard from a r d.intents t.coord).outs (Up IsNaming k (with_coord t (heard from a r d.intents t.coord).part)) d M
    heard_naming known =
        by (heard_goes Unmarked (moves.begun k d t M right.0.0 e) (paths_of (moves.begun k d t M right.0.0 e)) (moves.tree k d t M right.0.0
        e) t.coord (moves.coords k d t M right.0.0 e) (moves.long k d t M right.0.0 e) (moves.uses k d t M right.0.0 e) from a r d.intents)
      where
        by : Goes Unmarked (IsYes a r) t.coord its.part its.outs → Walks IsNaming e k (heard from a r d.intents t.coord).outs
            (Up IsNaming k (with_coord t (heard from a r d.intents t.coord).part)) d M
        by (Still telling calm) = coord_walk k d t M right e (with_coord t its.part) refl its.outs calm
            (heard_seeks (moves.begun k d t M right.0.0 e) (paths_of (moves.begun k d t M right.0.0 e)) (moves.tree k d t M right.0.0 e)
            t.coord (moves.coords k d t M right.0.0 e) (moves.long k d t M right.0.0 e) from a r d.intents)
            (true_bare its.part its.outs (moves.well k d t M right.0.0 e from m there a r of).1) known
        by (Decided u q p found now part outs yes_it) = decided_naming k d t M right e u q p found now
            (record { from = from; to = k; message = m }, there, a, of ∙ ap (λ (y : Reply). Some (a, y)) yes_it.0, yes_it.1)
            (with_coord t its.part) refl
            (own_inc t.coord its.part (λ w. let g = (moves.well k d t M right.0.0 e from m there a r of).0 in g.own w)) its.outs outs known

  -- ---- an input

  module _ (hd : Header) (i : Input) (is : is_act i ≡ true) (free : refusal_up hd i t.coord ≡ None) where
    abbrev does : Did Coord
    does = acts i d.intents t.coord

    -- of whom naming was asked no new commit begins
    none_asked : (l : Label) (b : Branch) → i ≡ input.Commit l → branch_named l t.coord ≡ Some b → AsksMarked M.sent (actor b.path) → ⊥
    none_asked l b same named asked = by part
      where
        found : branch_of (actor b.path) t.coord.tree ≡ Some b
        found = named_found (moves.begun k d t M right.0.0 e) (paths_of (moves.begun k d t M right.0.0 e)) (moves.tree k d t M right.0.0 e)
            d.intents t.coord (moves.coords k d t M right.0.0 e) l b named

        free_it : refused_by commit_reasons t.coord (Some b) ≡ None
        free_it = ap (refused_by commit_reasons t.coord) (sym named) ∙ sym (ap (λ z. refusal_up hd z t.coord) same) ∙ free

        c : AsksConfirm M.sent (actor b.path)
        c = asked.0

        parts : KnowsParts M.sent t.coord
        parts = let z = parted Start right.0 in (z.coords k (the_node k d (Some t)) t here refl).0

        own : is_own (actor (let h = asked.0.head in h.path)) t.coord.tree ≡ true
        own = ap (λ x. is_own x t.coord.tree) asked.0.by ∙ (found_by (actor b.path) t.coord.tree b found).0

        part : IsPart t.coord (actor (let h = asked.0.head in h.path)) (let z = asked.0.post in
            z.to) (ask.Confirm asked.0.grants asked.0.excluded asked.0.included)
        part = parts asked.0.post asked.0.head (ask.Confirm asked.0.grants asked.0.excluded asked.0.included) asked.0.posted asked.0.asking
            refl own

        first : (x y z : Bool) → (x || y || z) ≡ false → x ≡ false
        first true y z q = absurd (cc q)
        first false y z q = refl

        by : IsPart t.coord (actor (let h = asked.0.head in h.path)) (let z = asked.0.post in
            z.to) (ask.Confirm asked.0.grants asked.0.excluded asked.0.included) → ⊥
        by (inl s) =
            let r = off (commit_reasons b t.coord) free_it in
            let r7 = off ((7, waits_above b t.coord || waits_below b t.coord || input.sibling_waits b t.coord) ∷ (9, _) ∷ []) r.1 in
            waits_not t.coord b (first (waits_above b t.coord) (waits_below b t.coord) (input.sibling_waits b t.coord) r7.0)
            (s.doing, s.machine, ap (λ x. doing_of x t.coord) (sym asked.0.by) ∙ s.works, s.now)
        by (inr h) =
            let r = off (commit_reasons b t.coord) free_it in
            let one : h.branch ≡ b = some_is (sym h.found ∙ ap (λ x. branch_of x t.coord.tree) asked.0.by ∙ found) in
            never (ap (λ (z : Branch). is_some z.ended) (sym one) ∙ h.ended) r.0

    pub act_naming : Walks AllKnown e k (acts i d.intents t.coord).outs (Up AllKnown k (with_coord t (acts i d.intents t.coord).part)) d M →
        Walks IsNaming e k (acts i d.intents t.coord).outs (Up IsNaming k (with_coord t (acts i d.intents t.coord).part)) d M
    act_naming known = by (acts_goes Unmarked (moves.begun k d t M right.0.0 e) (paths_of (moves.begun k d t M right.0.0 e))
        (moves.tree k d t M right.0.0 e) t.coord (moves.coords k d t M right.0.0 e) (moves.long k d t M right.0.0 e)
        (moves.uses k d t M right.0.0 e) i d.intents other (λ l b same found named. none_asked l b same named))
      where
        other : (l : Label) (how : _) (parent : Option Label) → i ≢ input.Begin l how parent
        other = moves.other k d t M right.0.0 e hd i is free

        by : Goes Unmarked (λ u. ⊥) t.coord does.part does.outs →
            Walks IsNaming e k (acts i d.intents t.coord).outs (Up IsNaming k (with_coord t (acts i d.intents t.coord).part)) d M
        by (Still telling calm) = coord_walk k d t M right e (with_coord t does.part) refl does.outs calm
            (acts_seeks (moves.begun k d t M right.0.0 e) (paths_of (moves.begun k d t M right.0.0 e)) (moves.tree k d t M right.0.0 e)
            t.coord (moves.coords k d t M right.0.0 e) (moves.long k d t M right.0.0 e) i d.intents
            (moves.other k d t M right.0.0 e hd i is free))
            (true_bare does.part does.outs (moves.act_well k d t M right.0.0 e hd i is free).1) known
        by (Decided u q p found now part outs nobody) = absurd nobody

  -- ---- a tick

  pub tick_naming : let r = again_all t.coord.doings t.coord in
      Walks AllKnown e k (tick_outs (record { number = k; disk = d; live = Some t }) t) (Up AllKnown k (with_coord t r.part)) d M →
      Walks IsNaming e k (tick_outs (record { number = k; disk = d; live = Some t }) t) (Up IsNaming k (with_coord t r.part)) d M
  tick_naming known =
      let r = again_all t.coord.doings t.coord in
      let tolds = tolds_again t.coord.telling in
      let queries = map query_about (holders d t) in
      let begun = moves.begun k d t M right.0.0 e in
      let tree = moves.tree k d t M right.0.0 e in
      let coords = moves.coords k d t M right.0.0 e in
      let long = moves.long k d t M right.0.0 e in
      let well = well_again begun (paths_of begun) tree t.coord coords in
      coord_walk k d t M right e (with_coord t r.part) refl (r.outs ++ tolds ++ queries)
      (calm_both Unmarked t.coord r.part (r.outs ++ tolds) queries (calm_both Unmarked t.coord r.part r.outs tolds
      (again_calm Unmarked begun (paths_of begun) tree t.coord coords long (moves.uses k d t M right.0.0 e) numbered)
      (tolds_calm Unmarked t.coord r.part t.coord.telling)) (queries_calm Unmarked t.coord r.part (holders d t)))
      (seek_both r.part (r.outs ++ tolds) queries (seek_both r.part r.outs tolds (again_seeks begun (paths_of begun) tree t.coord coords
      long numbered) (tolds_seek r.part t.coord.telling)) (queries_seek r.part (holders d t)))
      (bare_both (r.outs ++ tolds) queries (bare_both r.outs tolds (true_bare r.part r.outs well.1) (tolds_bare t.coord.telling))
      (queries_bare (holders d t))) known
    where
      numbered : AreNumbered t.coord
      numbered = numbers Start right.0.0.0 k (the_node k d (Some t)) t here refl
