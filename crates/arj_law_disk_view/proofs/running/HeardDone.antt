-- What a coordinator has of naming's answers once it has committed a top: of other roots, of calls, and of other commits.
use Rattle.arj_law_parts.proofs.Words
use Words.{◌≡◌, ◌≢◌, ◌⊎◌, ◌==◌, ◌&&◌, ℕ, Bool, true, false, List, Option, Some, None, refl, sym, ◌∙◌, ap, subst, inl, inr, ⊎_elim}
use Words.{if◌then◌else◌, Contains, option_map, unwrap_or, uid_cases, End, Uid, is_on, top_of, Steps, is_include, Machine, has_record}
use Words.{participants, Calling, Committing, Coord, Doing, Idle, Joined, Root, Said, doing_of, kept_of, no_root, on_doing, on_root}
use Words.{root_at, decided, root_after, at_number, put_number, put_uid, Branch, branch_of, ended_at, is_own, root_of}
use Words.{put_other as put_number_other, put_same as put_number_same, one_or_two, Post}
use Words.ending
use Words.commit
use Words.coord
use Rattle.arj_law_disk_view.proofs.Terms
use Terms.{packed, own_is, roots_work, Names, Office, some_is, KnowsKinds, Kinds, SeesRootOf, SeesLists, IsPathIn, IsWorkingRoot, SeesCall}
use Terms.{SeesHeardAt, SeesPlan, SeesStep, is_bound}
use Rattle.arj_law_disk_view.proofs.names.GrantSteps.{grants_stay}
use Rattle.arj_law_disk_view.proofs.running.HeardLike.{StaysOnPath, call_same, path_on, same_path}
use Rattle.arj_law_disk_view.proofs.view
use view.DecidedCoord.{decided_doing, decided_doings, decided_tree}
use view.Ended.{HasEnded, ended_here, ended_other, own_same}
use Rattle.arj_law_disk_view.proofs.names.DecidedTrees as tree

module _ (x : ℕ) (u : Uid) (p : commit.Plan) (c : Coord) (b : Branch) (q : Doing) (found : branch_of u c.tree ≡ Some b)
    (unended : b.ended ≡ None) (at_work : doing_of u c ≡ Some q) where
  has : HasEnded u b ending.Commit c.tree (decided u p c).tree
  has = decided_tree c u b q p found at_work

  pub own_then : (w : Uid) → is_own w (decided u p c).tree ≡ is_own w c.tree
  own_then w = own_same u b ending.Commit c.tree (decided u p c).tree found has w

  -- who waits did so before
  pub works_then : (w : Uid) (z : Doing) → doing_of w (decided u p c) ≡ Some z → ((w ≢ u) × (doing_of w c ≡ Some z)) ⊎ (z.now ≡ Idle)
  works_then w z does = ⊎_elim
      (λ same. inr (ap (λ (y : Doing). y.now)
      (sym (some_is (decided_doing c u b q p found at_work) (ap (λ v. doing_of v (decided u p c)) (sym same) ∙ does)))))
      (λ other. inl (other, sym (decided_doings c u b q p found at_work w other) ∙ does)) (uid_cases w u)

  -- who is a root at work was one, and isn't the top
  pub was_root : (tops : Kinds) (root : Uid) → IsWorkingRoot tops (decided u p c) root → (root ≢ u) × IsWorkingRoot tops c root
  was_root tops root w = (
    apart,
    record {
      own = sym (own_then root) ∙ w.own;
      alone = w.alone;
      unended = λ z is. w.unended z (ended_other u b ending.Commit c.tree (decided u p c).tree found has root apart ∙ is);
    },
  )
    where
      apart : root ≢ u
      apart same = let n : ◌≡◌ {A = Option End} (Some ending.Commit) None = w.unended (record b { ended = Some ending.Commit })
          (ap (λ v. branch_of v (decided u p c).tree) same ∙ ended_here u b ending.Commit c.tree (decided u p c).tree found has) in cc n

  abbrev mid : Coord
  mid = on_doing u (λ (r : Doing). record r { took = participants p })
      (on_doing u (λ (r : Doing). record r { now = Idle }) (record c { tree = ended_at u ending.Commit c.tree }))

  mid_roots : mid.roots ≡ c.roots
  mid_roots = roots_work u (λ (r : Doing). record r { took = participants p })
      (on_doing u (λ (r : Doing). record r { now = Idle }) (record c { tree = ended_at u ending.Commit c.tree }))
      ∙ roots_work u (λ (r : Doing). record r { now = Idle }) (record c { tree = ended_at u ending.Commit c.tree })

  -- another root is as it was
  root_else : (w : Uid) → is_own w c.tree ≡ true → is_own (root_of p.path) c.tree ≡ true → w ≢ root_of p.path →
      root_at w (decided u p c) ≡ root_at w c
  root_else w own its other = by (has_record p) ∙ (⊎_elim (λ same. absurd (other (sym (own_is (root_of p.path) w c.tree its own same))))
      (λ apart. ap (λ z. unwrap_or z no_root) (put_number_other (root_of p.path).num w.num (root_after p (root_at (root_of p.path) mid))
      mid.roots apart.0)) (one_or_two (root_of p.path).num w.num)
      ∙ ap (λ (rs : List (ℕ × Root)). unwrap_or (at_number w.num rs) no_root) mid_roots)
    where
      by : (e : Bool) → root_at w (if e then record (on_root (root_of p.path) (root_after p) mid) {
        telling = put_uid u
            (record { root = root_of p.path; nodes = participants p }) (on_root (root_of p.path) (root_after p) mid).telling;
      } else on_root
          (root_of p.path) (root_after p) mid)
          ≡ unwrap_or (at_number w.num (put_number (root_of p.path).num (root_after p (root_at (root_of p.path) mid)) mid.roots)) no_root
      by true = refl
      by false = refl

  -- what was included stays
  joined_then : (w : Uid) → (root_at w (decided u p c)).joined ≡ (root_at w c).joined
  joined_then w = by (has_record p) ∙ (⊎_elim
      (λ same. ap (λ n. (unwrap_or (at_number n (put_number (root_of p.path).num (root_after p (root_at (root_of p.path) mid)) mid.roots))
      no_root).joined) (sym same) ∙ (ap (λ z. (unwrap_or z no_root).joined) (put_number_same (root_of p.path).num
      (root_after p (root_at (root_of p.path) mid)) mid.roots) ∙ ap (λ n. (unwrap_or (at_number n mid.roots) no_root).joined) same))
      (λ apart. ap (λ z. (unwrap_or z no_root).joined)
      (put_number_other (root_of p.path).num w.num (root_after p (root_at (root_of p.path) mid)) mid.roots apart.0))
      (one_or_two (root_of p.path).num w.num) ∙ ap (λ (rs : List (ℕ × Root)). (unwrap_or (at_number w.num rs) no_root).joined) mid_roots)
    where
      by : (e : Bool) → (root_at w (if e then record (on_root (root_of p.path) (root_after p) mid) {
        telling = put_uid u
            (record { root = root_of p.path; nodes = participants p }) (on_root (root_of p.path) (root_after p) mid).telling;
      } else on_root
          (root_of p.path) (root_after p) mid)).joined
          ≡ (unwrap_or (at_number w.num (put_number (root_of p.path).num (root_after p (root_at (root_of p.path) mid)) mid.roots))
          no_root).joined
      by true = refl
      by false = refl

  -- an action's path stays
  path_then : (w : Uid) → StaysOnPath (branch_of w c.tree) (branch_of w (decided u p c).tree)
  path_then w = ⊎_elim (λ same. λ y is. (
    record b { ended = Some ending.Commit },
    ap (λ v. branch_of v (decided u p c).tree) same ∙ ended_here u b ending.Commit c.tree (decided u p c).tree found has,
    ap (λ (z : Branch). z.path) (some_is found (ap (λ v. branch_of v c.tree) (sym same) ∙ is)),
  ))
      (λ other. same_path (branch_of w c.tree) (branch_of w (decided u p c).tree)
      (ended_other u b ending.Commit c.tree (decided u p c).tree found has w other)) (uid_cases w u)

  -- lists stay, where no more is retained
  pub lists_then : (tops : Kinds) (root : Uid) (r n : Root) (N : Names) → n.grants ≡ r.grants → n.said ≡ r.said → kept_of x n ≡ kept_of x r
      → ((s : Said) → Contains r.said s → s.x ≡ x → coord.is_retained s.path (decided u p c) ≡ true → coord.is_retained s.path c ≡ true)
      → SeesLists x tops root c r N → SeesLists x tops root (decided u p c) n N
  lists_then tops root r n N grants said kept few s = record {
    agree = λ k h l is. s.agree k h l (sym kept ∙ is);
    family = λ g there. s.family g (subst (λ gs. Contains gs g) grants there);
    granted = λ g z there. s.granted g z (subst (λ gs. Contains gs g) grants there);
    named = λ k g is there. s.named k g (sym kept ∙ is) (subst (λ gs. Contains gs g) grants there);
    short = λ k is. s.short k (sym kept ∙ is);
    called = λ k z t is there of alive on top. s.called k z t (sym kept ∙ is) (subst (λ ss. Contains ss z) said there) of
        (sym (tree.spent_same x u p c b q found unended at_work z.path) ∙ alive) on top;
    retained = λ k z is there of on.
        s.retained k z (sym kept ∙ is) (subst (λ ss. Contains ss z) said there) of (few z (subst (λ ss. Contains ss z) said there) of on);
    nothing = λ is z there of. tree.spent_same x u p c b q found unended at_work z.path
        ∙ s.nothing (sym kept ∙ is) z (subst (λ ss. Contains ss z) said there) of;
  }

  -- so does a root where nothing of it has changed, and no more is retained
  pub root_then : (tops : Kinds) (root : Uid) (r n : Root) (B : Office) → n.grants ≡ r.grants → n.said ≡ r.said → n.joined ≡ r.joined →
      n.states ≡ r.states → kept_of x n ≡ kept_of x r
      → ((s : Said) → Contains r.said s → s.x ≡ x → coord.is_retained s.path (decided u p c) ≡ true → coord.is_retained s.path c ≡ true) →
      SeesRootOf x tops root c r B → SeesRootOf x tops root (decided u p c) n B
  root_then tops root r n B grants said joined states kept few s = record {
    grants = grants_stay x root c (decided u p c) r n B.world.disk B.world.disk B.names s.grants grants
        (tree.stays_retained x u p c b q found unended at_work r n said joined) refl refl;
    lists = lists_then tops root r n B.names grants said kept few s.lists;
    loads = λ j w there. s.loads j w (subst (λ js. Contains js j) joined there);
    state = ap (λ ss. option_map packed (at_number x ss)) states ∙ s.state;
  }

  -- so does a call under way, where its root keeps what it did
  pub call_then : (tops : Kinds) (s : Steps) (N : Names) → KnowsKinds tops → is_own (root_of p.path) c.tree ≡ true →
      (root_of s.path ≡ root_of p.path → kept_of x (root_at (root_of p.path) (decided u p c)) ≡ kept_of x (root_at (root_of p.path) c)) →
      SeesCall x tops c s N → SeesCall x tops (decided u p c) s N
  call_then tops s N kinds its same z = call_same x tops c (decided u p c) s N (own_then (top_of s.path))
      (⊎_elim (λ here. ap (λ y. kept_of x (root_at y (decided u p c))) here ∙ (same here ∙ ap (λ y. kept_of x (root_at y c)) (sym here)))
      (λ other. ap (kept_of x) (root_else (root_of s.path) own its other)) (uid_cases (root_of s.path) (root_of p.path))) z
    where
      own : is_own (root_of s.path) c.tree ≡ true
      own = let q = kinds.own (top_of s.path) (root_of s.path) (let y = z.top in y.top) (let y = z.top in y.of_root) in
          (λ i. (sym q.0 i == c.tree.node) && (sym q.1 i == c.tree.inc)) ∙ z.own

  -- What the coordinator has then: of the top's root it is shown apart, of other roots what it had, as no call of theirs is below the top.
  pub at_decided : (k : ℕ) (tops : Kinds) (sent : List Post) (B : Office) → is_own (root_of p.path) c.tree ≡ true → (IsWorkingRoot tops
      (decided u p c) (root_of p.path) → SeesRootOf x tops (root_of p.path) (decided u p c) (root_at (root_of p.path) (decided u p c)) B)
      → ((root : Uid) → IsWorkingRoot tops c root → root ≢ root_of p.path → SeesRootOf x tops root c (root_at root c) B
      × ((s : Said) → Contains (let r = root_at root c in r.said) s → is_on s.path u ≡ false))
      → ((w : Uid) (z : Doing) (s : Steps) → doing_of w c ≡ Some z → z.now ≡ Calling s → s.x ≡ x → SeesStep x k sent s B.names) →
      ((w : Uid) (z : Doing) (s : Steps) → doing_of w c ≡ Some z → z.now ≡ Calling s → s.x ≡ x → is_include s.goal ≡ false →
      is_bound s.at ≡ true → SeesCall x tops (decided u p c) s B.names)
      → ((w : Uid) (z : Doing) (m : Machine) → w ≢ u → doing_of w c ≡ Some z → z.now ≡ Committing m → SeesPlan x tops w m B) →
      ((root : Uid) (j : Joined) → Contains (let r = root_at root c in r.joined) j → IsPathIn c.tree j.path) →
      SeesHeardAt x k tops sent (decided u p c) B
  at_decided k tops sent B root_own its others steps calls plans includes = record {
    roots = λ root w. ⊎_elim (λ same. subst (λ y. SeesRootOf x tops y (decided u p c) (root_at y (decided u p c)) B) (sym same)
        (its (subst (IsWorkingRoot tops (decided u p c)) same w)))
        (λ other.
        let old = was_root tops root w in
        let o = others root old.1 other in
        subst (λ r. SeesRootOf x tops root (decided u p c) r B) (sym (root_else root (let y = old.1 in y.own) root_own other))
        (root_then tops root (root_at root c) (root_at root c) B refl refl refl refl refl (λ s there of on.
        tree.retained_off x u p c b q found unended at_work s.path (o.1 s there) on) o.0)) (uid_cases root (root_of p.path));
    steps = λ w z s does now of.
        ⊎_elim (λ old. steps w z s old.1 now of) (λ idle. absurd (let n : Idle ≡ Calling s = sym idle ∙ now in cc)) (works_then w z does);
    calls = λ w z s does now of call bound. ⊎_elim (λ old. calls w z s old.1 now of call bound)
        (λ idle. absurd (let n : Idle ≡ Calling s = sym idle ∙ now in cc)) (works_then w z does);
    includes = λ root j i. path_on c (decided u p c) path_then j.path (includes root j (subst (λ js. Contains js j) (joined_then root) i));
    plans = λ w z m does now. ⊎_elim (λ old. plans w z m old.0 old.1 now)
        (λ idle. absurd (let n : Idle ≡ Committing m = sym idle ∙ now in cc)) (works_then w z does);
  }
