-- What a decision leaves at its coordinator of a root: what survives, what is retained, and what is kept.
use Rattle.arj_law_parts.proofs.Words
use Words.{◌≡◌, ◌≢◌, ◌⊎◌, ℕ, ◌==◌, ◌&&◌, ◌||◌, not, List, [], ◌∷◌, Bool, true, false, cond, Option, Some, None, refl, sym, ◌∙◌, ap, inl}
use Words.{inr, ⊎_elim, Contains, if◌then◌else◌, option_map, unwrap_or, list_any, is_eq, nat_cmp, Ordering, Less, Equal, Greater}
use Words.{nat_cmp-IsAntisymmetric, and_parts, or_cases, or_left, or_right, uid_cases, uid_same, In as Stands, in_from, Uid, is_on, uid_eq}
use Words.{has_record, participants, Coord, Doing, Idle, Joined, Keeping, Root, Said, is_constituent_branch, is_kept_top, kept_of}
use Words.{no_keeping, no_root, on_doing, on_root, retained_in, root_at, second_uid, survives, top_uses, decided, kept_after, keeping_after}
use Words.{root_after, at_number, each, put_number, put_uid, Branch, behind, branch_of, ended_at, ended_so, has_end, is_aborted}
use Words.{is_committed, is_merged, is_spent, root_of, put_same, is_constituent}
use Words.ending
use Words.commit
use Words.coord
use Rattle.arj_law_disk_view.proofs.Terms.{never, test_same, StaysRetained, is_retained}
use Rattle.arj_law_disk_view.proofs.view.{DecidedCoord.decided_tree, Ended.HasEnded, Ended.ended_here, Ended.ended_other, Notes.doing_roots}

-- ---- lists of actions

-- all of these pass the test
abbrev all_of : (Uid → Bool) → List Uid → Bool
all_of f ws = not (list_any (λ w. not (f w)) ws)

first_of : (f : Uid → Bool) (w : Uid) (ws : List Uid) → all_of f (w ∷ ws) ≡ true → (f w ≡ true) × (all_of f ws ≡ true)
first_of f w ws all = by (f w) all
  where
    by : (b : Bool) → not (not b || list_any (λ z. not (f z)) ws) ≡ true → (b ≡ true) × (all_of f ws ≡ true)
    by true h = (refl, h)
    by false h = absurd (never h refl)

both_of : (f : Uid → Bool) (w : Uid) (ws : List Uid) → f w ≡ true → all_of f ws ≡ true → all_of f (w ∷ ws) ≡ true
both_of f w ws one all = ap (λ b. not (not b || list_any (λ z. not (f z)) ws)) one ∙ all

-- one test may be passed where the other is, of all but one action
all_then : (f g : Uid → Bool) (t : Uid) → ((w : Uid) → w ≢ t → f w ≡ true → g w ≡ true) → (ws : List Uid) → is_on ws t ≡ false →
    all_of f ws ≡ true → all_of g ws ≡ true
all_then f g t on [] off all = refl
all_then f g t on (w ∷ ws) off all =
    let p = first_of f w ws all in
    let o = neither (uid_eq w t) (is_on ws t) off in
    both_of g w ws (on w (λ same. never (ap (λ z. uid_eq z t) same ∙ uid_same t) o.0) p.0) (all_then f g t on ws o.1 p.1)
  where
    neither : (a b : Bool) → (a || b) ≡ false → (a ≡ false) × (b ≡ false)
    neither true b h = absurd (never refl h)
    neither false b h = (refl, h)

all_more : (f g : Uid → Bool) → ((w : Uid) → f w ≡ true → g w ≡ true) → (ws : List Uid) → all_of f ws ≡ true → all_of g ws ≡ true
all_more f g on [] all = refl
all_more f g on (w ∷ ws) all = let p = first_of f w ws all in both_of g w ws (on w p.0) (all_more f g on ws p.1)

-- who isn't on a path isn't behind another on it
behind_off : (u t : Uid) (ws : List Uid) → is_on ws t ≡ false → is_on (behind u ws) t ≡ false
behind_off u t [] off = refl
behind_off u t (w ∷ ws) off = by (uid_eq w u) (uid_eq w t) off (λ h. behind_off u t ws h)
  where
    by : (b e : Bool) → (e || is_on ws t) ≡ false → (is_on ws t ≡ false → is_on (behind u ws) t ≡ false) →
        is_on (if b then ws else behind u ws) t ≡ false
    by b true h ih = absurd (never refl h)
    by true false h ih = h
    by false false h ih = ih h

behind_more : (f : Uid → Bool) (u : Uid) (zs : List Uid) → all_of f zs ≡ true → all_of f (behind u zs) ≡ true
behind_more f u [] a = refl
behind_more f u (z ∷ zs) a = here (uid_eq z u) (first_of f z zs a).1 (λ h. behind_more f u zs h)
  where
    here : (b : Bool) → all_of f zs ≡ true → (all_of f zs ≡ true → all_of f (behind u zs) ≡ true) →
        all_of f (if b then zs else behind u zs) ≡ true
    here true h ih = h
    here false h ih = ih h

-- all that is behind an action passes where all behind the first one does
behind_all : (f : Uid → Bool) (u w : Uid) (ws : List Uid) → all_of f ws ≡ true → all_of f (behind u (w ∷ ws)) ≡ true
behind_all f u w ws all = by (uid_eq w u)
  where
    by : (b : Bool) → all_of f (if b then ws else behind u ws) ≡ true
    by true = all
    by false = behind_more f u ws all

-- ---- tests of lists

any_more : {X : Type 0} (f g : X → Bool) (xs : List X) → ((z : X) → f z ≡ true → g z ≡ true) → list_any f xs ≡ true → list_any g xs ≡ true
any_more f g [] on h = h
any_more f g (z ∷ zs) on h = ⊎_elim (λ one. or_left (g z) (list_any g zs) (on z one))
    (λ more. or_right (g z) (list_any g zs) (any_more f g zs on more)) (or_cases (f z) (list_any f zs) h)

any_here : {X : Type 0} (f : X → Bool) (z : X) (xs : List X) → Stands z xs → f z ≡ true → list_any f xs ≡ true
any_here f z [] i on = absurd i
any_here f z (w ∷ ws) (inl same) on = or_left (f w) (list_any f ws) (ap f same ∙ on)
any_here f z (w ∷ ws) (inr i) on = or_right (f w) (list_any f ws) (any_here f z ws i on)

either : (a b c d : Bool) → (a ≡ true → c ≡ true) → (b ≡ true → d ≡ true) → (a || b) ≡ true → (c || d) ≡ true
either a b c d one other h = ⊎_elim (λ x. or_left c d (one x)) (λ y. or_right c d (other y)) (or_cases a b h)

both : (a b : Bool) → a ≡ true → b ≡ true → (a && b) ≡ true
both a b one other = (λ i. one i && other i)

-- ---- maps changed everywhere

each_at : {X : Type 0} (f : ℕ → X → X) (k : ℕ) (m : List (ℕ × X)) → at_number k (each f m) ≡ option_map (f k) (at_number k m)
each_at f k [] = refl
each_at {X} f k (e ∷ es) = by (nat_cmp k e.0) refl (each_at f k es)
  where
    by : (r : Ordering) → nat_cmp k e.0 ≡ r → at_number k (each f es) ≡ option_map (f k) (at_number k es) →
        cond (is_eq r) (Some (f e.0 e.1)) (at_number k (each f es)) ≡ option_map (f k) (cond (is_eq r) (Some e.1) (at_number k es))
    by Less is ih = ih
    by Equal is ih = ap (λ n. Some (f n e.1)) (sym (nat_cmp-IsAntisymmetric k e.0 is))
    by Greater is ih = ih

-- ---- a decision

module _ (x : ℕ) (t : Uid) (p : commit.Plan) (c : Coord) (b : Branch) (q : Doing) (found : branch_of t c.tree ≡ Some b)
    (unended : b.ended ≡ None) (at_work : coord.doing_of t c ≡ Some q) where
  -- its root
  mid_roots : (let z = on_doing t (λ (r : Doing). record r { took = participants p })
      (on_doing t (λ (r : Doing). record r { now = Idle }) (record c { tree = ended_at t ending.Commit c.tree })) in z.roots) ≡ c.roots
  mid_roots = doing_roots t (λ (r : Doing). record r { took = participants p })
      (on_doing t (λ (r : Doing). record r { now = Idle }) (record c { tree = ended_at t ending.Commit c.tree }))
      ∙ doing_roots t (λ (r : Doing). record r { now = Idle }) (record c { tree = ended_at t ending.Commit c.tree })

  pub root_now : root_at (root_of p.path) (decided t p c) ≡ root_after p (root_at (root_of p.path) c)
  root_now = by (has_record p) ∙ ap (λ o. unwrap_or o no_root) (put_same k.num (root_after p (root_at k mid)) mid.roots)
      ∙ ap (λ rs. root_after p (unwrap_or (at_number k.num rs) no_root)) mid_roots
    where
      k : Uid
      k = root_of p.path

      mid : Coord
      mid = on_doing t (λ (r : Doing). record r { took = participants p })
          (on_doing t (λ (r : Doing). record r { now = Idle }) (record c { tree = ended_at t ending.Commit c.tree }))

      by : (e : Bool) → root_at k (if e then record (on_root k (root_after p) mid) {
        telling = put_uid t
            (record { root = k; nodes = participants p }) (on_root k (root_after p) mid).telling;
      } else on_root k (root_after p) mid)
          ≡ unwrap_or (at_number k.num (put_number k.num (root_after p (root_at k mid)) mid.roots)) no_root
      by true = refl
      by false = refl

  ended : HasEnded t b ending.Commit c.tree (decided t p c).tree
  ended = decided_tree c t b q p found at_work

  here : branch_of t (decided t p c).tree ≡ Some (record b { ended = Some ending.Commit })
  here = ended_here t b ending.Commit c.tree (decided t p c).tree found ended

  other : (w : Uid) → w ≢ t → branch_of w (decided t p c).tree ≡ branch_of w c.tree
  other w off = ended_other t b ending.Commit c.tree (decided t p c).tree found ended w off

  uncommitted : is_committed t c.tree ≡ false
  uncommitted = ap (ended_so ending.Commit) found ∙ ap (has_end ending.Commit) unended

  pub committed_more : (w : Uid) → is_committed w c.tree ≡ true → is_committed w (decided t p c).tree ≡ true
  committed_more w on = ⊎_elim (λ same. absurd (never on (ap (λ z. is_committed z c.tree) same ∙ uncommitted)))
      (λ off. ap (ended_so ending.Commit) (other w off) ∙ on) (uid_cases w t)

  committed_back : (w : Uid) → w ≢ t → is_committed w (decided t p c).tree ≡ true → is_committed w c.tree ≡ true
  committed_back w off on = sym (ap (ended_so ending.Commit) (other w off)) ∙ on

  aborted_same : (w : Uid) → is_aborted w (decided t p c).tree ≡ is_aborted w c.tree
  aborted_same w = ⊎_elim (λ same. ap (λ z. is_aborted z (decided t p c).tree) same ∙ ap (ended_so ending.Abort) here
      ∙ sym (ap (λ z. is_aborted z c.tree) same ∙ ap (ended_so ending.Abort) found ∙ ap (has_end ending.Abort) unended))
      (λ off. ap (ended_so ending.Abort) (other w off)) (uid_cases w t)

  pub spent_same : (path : List Uid) → is_spent path (decided t p c).tree ≡ is_spent path c.tree
  spent_same path = λ i. list_any (λ w. aborted_same w i) path

  pub survives_more : (w : Uid) (path : List Uid) → survives w path c ≡ true → survives w path (decided t p c) ≡ true
  survives_more w path on = let s = and_parts (is_on path w) (is_merged w path c.tree) on in
      both (is_on path w) (is_merged w path (decided t p c).tree) s.0
      (all_more (λ z. is_committed z c.tree) (λ z. is_committed z (decided t p c).tree) committed_more (behind w path) s.1)

  kept_more : (w : Uid) → is_kept_top w c ≡ true → is_kept_top w (decided t p c) ≡ true
  kept_more w on =
      let s = and_parts (is_constituent_branch (branch_of w c.tree)) (is_committed w c.tree) on in
      both (is_constituent_branch (branch_of w (decided t p c).tree)) (is_committed w (decided t p c).tree)
      (ap is_constituent_branch (other w (λ same. never s.1 (ap (λ z. is_committed z c.tree) same ∙ uncommitted))) ∙ s.0)
      (committed_more w s.1)

  kept_back : (w : Uid) → w ≢ t → is_kept_top w (decided t p c) ≡ true → is_kept_top w c ≡ true
  kept_back w off on =
      let s = and_parts (is_constituent_branch (branch_of w (decided t p c).tree)) (is_committed w (decided t p c).tree) on in
      both (is_constituent_branch (branch_of w c.tree)) (is_committed w c.tree) (ap is_constituent_branch (sym (other w off)) ∙ s.0)
      (committed_back w off s.1)

  -- of a root with the same calls and includes
  module _ (r n : Root) (said : n.said ≡ r.said) (joined : n.joined ≡ r.joined) where
    pub uses_more : (w : Uid) → top_uses w x r c ≡ true → top_uses w x n (decided t p c) ≡ true
    uses_more w on = either (list_any (λ (s : Said). (s.x == x) && survives w s.path c) r.said)
        (list_any (λ (j : Joined). (j.x == x) && survives w j.path c) r.joined)
        (list_any (λ (s : Said). (s.x == x) && survives w s.path (decided t p c)) n.said)
        (list_any (λ (j : Joined). (j.x == x) && survives w j.path (decided t p c)) n.joined)
        (λ h. ap (list_any (λ (s : Said). (s.x == x) && survives w s.path (decided t p c))) said ∙ any_more
        (λ (s : Said). (s.x == x) && survives w s.path c) (λ (s : Said). (s.x == x) && survives w s.path (decided t p c)) r.said
        (λ s e. let z = and_parts (s.x == x) (survives w s.path c) e in
        both (s.x == x) (survives w s.path (decided t p c)) z.0 (survives_more w s.path z.1)) h)
        (λ h. ap (list_any (λ (j : Joined). (j.x == x) && survives w j.path (decided t p c))) joined ∙ any_more
        (λ (j : Joined). (j.x == x) && survives w j.path c) (λ (j : Joined). (j.x == x) && survives w j.path (decided t p c)) r.joined
        (λ j e. let z = and_parts (j.x == x) (survives w j.path c) e in
        both (j.x == x) (survives w j.path (decided t p c)) z.0 (survives_more w j.path z.1)) h) on

    pub stays_retained : StaysRetained x c r (decided t p c) n
    stays_retained w on = let z = and_parts (is_kept_top w c) (top_uses w x r c) on in
        both (is_kept_top w (decided t p c)) (top_uses w x n (decided t p c)) (kept_more w z.0) (uses_more w z.1)

    pub now_retained : is_constituent b.kind ≡ true → top_uses t x r c ≡ true → is_retained x (decided t p c) n t ≡ true
    now_retained kind uses = both (is_kept_top t (decided t p c)) (top_uses t x n (decided t p c))
        (both (is_constituent_branch (branch_of t (decided t p c).tree)) (is_committed t (decided t p c).tree)
        (ap is_constituent_branch here ∙ kind) (ap (ended_so ending.Commit) here)) (uses_more t uses)

  -- ---- what is retained from now on

  -- what is retained was so before, or its path has the top
  retained_before : (path : List Uid) → is_on path t ≡ false → (o : Option Uid) → second_uid path ≡ o →
      retained_in path (decided t p c) o ≡ true → retained_in path c o ≡ true
  retained_before path off None e on = absurd (never on refl)
  retained_before path off (Some w) e on =
      let s = and_parts (is_kept_top w (decided t p c)) (survives w path (decided t p c)) on in
      let z = and_parts (is_on path w) (is_merged w path (decided t p c).tree) s.1 in
      both (is_kept_top w c) (survives w path c) (kept_back w (λ same. never (ap (is_on path) (sym same) ∙ z.0) off) s.0)
      (both (is_on path w) (is_merged w path c.tree) z.0 (all_then (λ y. is_committed y (decided t p c).tree) (λ y. is_committed y c.tree) t
      committed_back (behind w path) (behind_off w t path off) z.1))

  -- in what is retained the top survived, if it is on the path once
  module _ (path : List Uid) (once : is_on (behind t path) t ≡ false) (on_path : is_on path t ≡ true) where
    survived : (a w : Uid) (rest : List Uid) → path ≡ a ∷ w ∷ rest → is_kept_top w (decided t p c) ≡ true →
        is_merged w (a ∷ w ∷ rest) (decided t p c).tree ≡ true → survives t path c ≡ true
    survived a w rest same kept merged =
        let done = (λ (y : Uid). is_committed y (decided t p c).tree) in
        let w_in = (and_parts (is_constituent_branch (branch_of w (decided t p c).tree)) (is_committed w (decided t p c).tree) kept).1 in
        let all = both_of done w rest w_in (rest_of (uid_eq a w) merged) in
        both (is_on path t) (is_merged t path c.tree) on_path
        (all_then done (λ y. is_committed y c.tree) t committed_back (behind t path) once
        (ap (λ us. all_of done (behind t us)) same ∙ behind_all done t a (w ∷ rest) all))
      where
        rest_of : (e : Bool) → all_of (λ y. is_committed y (decided t p c).tree) (if e then w
            ∷ rest else (if uid_eq w w then rest else behind w rest)) ≡ true → all_of (λ y. is_committed y (decided t p c).tree) rest ≡ true
        rest_of true h = (first_of (λ y. is_committed y (decided t p c).tree) w rest h).1
        rest_of false h =
            sym (ap (λ e. all_of (λ y. is_committed y (decided t p c).tree) (if e then rest else behind w rest)) (uid_same w)) ∙ h

    pub survives_now : (us : List Uid) → path ≡ us → coord.is_retained us (decided t p c) ≡ true → survives t path c ≡ true
    survives_now [] same on = absurd (never on refl)
    survives_now (a ∷ []) same on = absurd (never on refl)
    survives_now (a ∷ w ∷ rest) same on =
        let s = and_parts (is_kept_top w (decided t p c)) (survives w (a ∷ w ∷ rest) (decided t p c)) on in
        survived a w rest same s.0 (and_parts (is_on (a ∷ w ∷ rest) w) (is_merged w (a ∷ w ∷ rest) (decided t p c).tree) s.1).1

    -- where the top is its own root, and no constituent, what is retained was so before
    pub retained_below : (rest : List Uid) → path ≡ t ∷ rest → is_constituent b.kind ≡ false →
        coord.is_retained path (decided t p c) ≡ true → coord.is_retained path c ≡ true
    retained_below rest same plain on =
        ap (λ us. coord.is_retained us c) same ∙ by rest refl (ap (λ us. coord.is_retained us (decided t p c)) (sym same) ∙ on)
      where
        off_rest : is_on rest t ≡ false
        off_rest =
            ap (λ e. is_on (if e then rest else behind t rest) t) (sym (uid_same t)) ∙ ap (λ us. is_on (behind t us) t) (sym same) ∙ once

        by : (ws : List Uid) → rest ≡ ws → coord.is_retained (t ∷ ws) (decided t p c) ≡ true → coord.is_retained (t ∷ ws) c ≡ true
        by [] e h = absurd (never h refl)
        by (w ∷ ws) e h =
            let s = and_parts (is_kept_top w (decided t p c)) (survives w (t ∷ w ∷ ws) (decided t p c)) h in
            let z = and_parts (is_on (t ∷ w ∷ ws) w) (is_merged w (t ∷ w ∷ ws) (decided t p c).tree) s.1 in
            let off : w ≢ t = (λ is.
            never (and_parts (is_constituent_branch (branch_of w (decided t p c).tree)) (is_committed w (decided t p c).tree) s.0).0
            (ap (λ y. is_constituent_branch (branch_of y (decided t p c).tree)) is ∙ ap is_constituent_branch here ∙ plain)) in
            let no_t : is_on (w ∷ ws) t ≡ false = ap (λ us. is_on us t) (sym e) ∙ off_rest in
            both (is_kept_top w c) (survives w (t ∷ w ∷ ws) c) (kept_back w off s.0)
            (both (is_on (t ∷ w ∷ ws) w) (is_merged w (t ∷ w ∷ ws) c.tree) z.0
            (all_then (λ y. is_committed y (decided t p c).tree) (λ y. is_committed y c.tree) t committed_back (behind w (t ∷ w ∷ ws))
            (no_more (uid_eq t w) no_t) z.1))
          where
            no_more : (d : Bool) → is_on (w ∷ ws) t ≡ false → is_on (if d then w ∷ ws else behind w (w ∷ ws)) t ≡ false
            no_more true off = off
            no_more false off = behind_off w t (w ∷ ws) off

  pub retained_more : (path : List Uid) → (is_spent path (decided t p c).tree ≡ false) → coord.is_retained path (decided t p c) ≡ true →
      (coord.is_retained path c ≡ true) ⊎ ((is_on path t ≡ true) × (is_spent path c.tree ≡ false))
  retained_more path lasts on = by (is_on path t) refl
    where
      by : (e : Bool) → is_on path t ≡ e → (coord.is_retained path c ≡ true) ⊎ ((is_on path t ≡ true) × (is_spent path c.tree ≡ false))
      by true e = inr (e, sym (spent_same path) ∙ lasts)
      by false e = inl (retained_before path e (second_uid path) refl on)

  pub retained_off : (path : List Uid) → is_on path t ≡ false → coord.is_retained path (decided t p c) ≡ true →
      coord.is_retained path c ≡ true
  retained_off path off on = retained_before path off (second_uid path) refl on

  -- a call that is retained with the top on its path survives in it
  pub uses_if : (r : Root) (s : Said) → Contains r.said s → s.x ≡ x → survives t s.path c ≡ true → top_uses t x r c ≡ true
  uses_if r s i of on = or_left (list_any (λ (z : Said). (z.x == x) && survives t z.path c) r.said)
      (list_any (λ (j : Joined). (j.x == x) && survives t j.path c) r.joined)
      (any_here (λ (z : Said). (z.x == x) && survives t z.path c) s r.said (in_from s r.said i)
      (both (s.x == x) (survives t s.path c) (ap (λ n. n == x) of ∙ test_same x) on))

-- what a root keeps after a decision
pub kept_then : (x : ℕ) (p : commit.Plan) (r : Root) → kept_of x (root_after p r) ≡ kept_after p x (kept_of x r)
kept_then x p r = ap (λ (o : Option Keeping). (let k = unwrap_or o no_keeping in k.kept)) (each_at (keeping_after p) x r.keeping)
    ∙ by (at_number x r.keeping)
  where
    by : (o : Option Keeping) → (let k = unwrap_or (option_map (keeping_after p x) o) no_keeping in k.kept)
        ≡ kept_after p x (let k = unwrap_or o no_keeping in k.kept)
    by None = refl
    by (Some k) = refl
