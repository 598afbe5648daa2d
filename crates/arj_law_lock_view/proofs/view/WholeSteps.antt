-- What roots keep and calls stand on stays where actions end.
use Rattle.arj_law_parts.proofs.Words
use Words.{◌≡◌, ◌≢◌, ◌≤◌, ◌⊎◌, ◌∙◌, ◌||◌, ℕ, List, [], ◌∷◌, Bool, true, false, cond, Option, Some, None, is_some, refl, sym, ap, subst}
use Words.{⊎_elim, option_map, unwrap_or, arith, Ordering, Less, Equal, Greater, nat_cmp, is_eq, nat_cmp-IsAntisymmetric, uid_cases}
use Words.{Binding, End, Op, Uid, last_uid, uids_of, commits_in, At, AtActivate, AtBind, AtInvoke, AtLoad, AtNote, Known, Steps, has_record}
use Words.{participants, plan_of, Calling, Committing, Coord, Doing, Idle, Keeping, Root, change_doing, doing_of, keeping_of, kept_of}
use Words.{no_keeping, no_root, on_doing, on_root, root_at, set_doing, ended, kept_after, keeping_after, list_after, root_after, at_number}
use Words.{each, put_uid, Branch, Tree, branch_of, ended_at, ended_so, has_end, is_aborted, is_spent, root_of}
use Words.ending
use Words.commit
use Rattle.arj_law_lock_view.proofs.Terms
use Terms.{Act, root, Include, State, SeesActions, invokes, stage_of, Acts, Codes, IsTied, SeesCoord, SeesKeeping, SeesRoot, SeesStep}
use Terms.{doing_other, doing_put}
use Rattle.arj_law_lock.specs.machine.State.{Action}
use Rattle.arj_law_lock_view.proofs.view
use view.{ActingSteps.unended_none, BeginSteps.same_coord, Looked.kept_same}
use view.OneSteps.{OnlyOne, end_changed, work_changed}
use view.RootSteps.{root_else, root_here}
use Rattle.arj_law_lock_view.specs.view.Whole.{CommitsKeepRoots, DecisionsKeepRoots, EndsKeepRoots, UnitsKeepRoots}

-- ---- actions, the clock and includes are another

module _ (act : Acts) (code : Codes) (x : ℕ) (c e : Coord) (S : State) (f : Act →
    Action) (now : ℕ) (includes : List Include) (sees : SeesCoord act code x c S) (acts : SeesActions act x e f)
    (was : (w : Uid) (k : Branch) → branch_of w e.tree ≡ Some k → (q : Branch) × (branch_of w c.tree ≡ Some q) × (q.path ≡ k.path))
    (still : (w : Uid) (k : Branch) → branch_of w c.tree ≡ Some k → (q : Branch) × (branch_of w e.tree ≡ Some q) × (q.path ≡ k.path))
    (spent : (us : List Uid) → is_spent us c.tree ≡ true → is_spent us e.tree ≡ true) (roots : (w : Uid) → root_at w e ≡ root_at w c)
    (calls : (w : Uid) (d : Doing) (s : Steps) → doing_of w e ≡ Some d → d.now ≡ Calling s → doing_of w c ≡ Some d) where
  abbrev T : State
  T = record S { action = f; now = now; includes = includes }

  kept_stays : (v : ℕ) (o : Option Known) (avoid : Binding) → SeesKeeping v o avoid S → SeesKeeping v o avoid T
  kept_stays v None avoid low = low
  kept_stays v (Some k) avoid seen = kept_same v k S T refl (λ n. refl) (λ m i. i) seen

  step_stays : (s : Steps) (o : Op) (kp : Keeping) (a : At) → SeesStep act code s o kp S a → SeesStep act code s o kp T a
  step_stays s o kp (AtBind avoid) h = h
  step_stays s o kp (AtLoad k n rest) h = h
  step_stays s o kp (AtActivate k st) h = h
  step_stays s o kp (AtNote k i) h = h
  step_stays s o kp (AtInvoke k i) h = h

  pub stays_coord : SeesCoord act code x e T
  stays_coord = record {
    actions = acts;
    roots = λ u b there own. (let q = was u b there in
        let s = sees.roots u q.0 q.1 (ap (λ p. root_of p) q.2 ∙ own) in
        subst (λ (r : Root). SeesRoot act x u r e.tree T) (sym (roots u)) (record {
          keeping = kept_stays (root (act u)) (kept_of x (root_at u c)) (let v = keeping_of x (root_at u c) in v.avoid) s.keeping;
          spent = λ none z i about. spent z.path (s.spent none z i about);
          said = λ z i about. (let y = s.said z i about in let g = still (last_uid z.path) y.branch y.there in record {
            branch = g.0;
            there = g.1;
            path = ap uids_of g.2 ∙ y.path;
            of = ap (λ p. root_of p) g.2 ∙ y.of;
            call = y.call;
            called = y.called;
            by = y.by;
          });
          calls = s.calls;
          heard = s.heard;
        }));
    calls = λ u d s o works calling about goal.
        subst (λ (r : Root). SeesStep act code s o (keeping_of x r) T s.at) (sym (roots (root_of s.path))) (step_stays s o
        (keeping_of x (root_at (root_of s.path) c)) s.at (sees.calls u d s o (calls u d s works calling) calling about goal));
    plain = λ u d s works calling. sees.plain u d s (calls u d s works calling) calling;
  }

-- ---- one action is another

module _ (act : Acts) (code : Codes) (x : ℕ) (c e : Coord) (u : Uid) (b b' : Branch) (d' : Doing) (S T : State)
    (found : branch_of u c.tree ≡ Some b) (gone : is_aborted u c.tree ≡ true → is_aborted u e.tree ≡ true) (sees : SeesCoord act code x c S)
    (rest : T ≡ record S { action = T.action; now = T.now }) (acts : SeesActions act x e T.action)
    (one : OnlyOne c u b' d' e) (path : b'.path ≡ b.path) (roots : (w : Uid) → root_at w e ≡ root_at w c) (quiet : (s : Steps) →
    d'.now ≡ Calling s → ⊥) where
  same_found : (t : Tree) (w : Uid) (k l : Branch) → w ≡ u → branch_of u t ≡ Some k → branch_of w t ≡ Some l → k ≡ l
  same_found t w k l is p q = let two : ◌≡◌ {A = Option Branch} (Some k) (Some l) = sym p ∙ ap (λ (v : Uid). branch_of v t) (sym is) ∙ q in
      cc two

  pub was : (w : Uid) (k : Branch) → branch_of w e.tree ≡ Some k → (q : Branch) × (branch_of w c.tree ≡ Some q) × (q.path ≡ k.path)
  was w k there = ⊎_elim
      (λ (is : w ≡ u). (
        b,
        ap (λ (v : Uid). branch_of v c.tree) is ∙ found,
        sym path ∙ ap (λ (v : Branch). v.path) (same_found e.tree w b' k is one.branch there),
      ))
      (λ (other : w ≢ u). (k, sym (one.branches w other) ∙ there, refl))
      (uid_cases w u)

  still : (w : Uid) (k : Branch) → branch_of w c.tree ≡ Some k → (q : Branch) × (branch_of w e.tree ≡ Some q) × (q.path ≡ k.path)
  still w k there = ⊎_elim
      (λ (is : w ≡ u). (
        b',
        ap (λ (v : Uid). branch_of v e.tree) is ∙ one.branch,
        path ∙ ap (λ (v : Branch). v.path) (same_found c.tree w b k is found there),
      ))
      (λ (other : w ≢ u). (k, one.branches w other ∙ there, refl))
      (uid_cases w u)

  aborted : (w : Uid) → is_aborted w c.tree ≡ true → is_aborted w e.tree ≡ true
  aborted w h = ⊎_elim
      (λ (is : w ≡ u). ap (λ (v : Uid). is_aborted v e.tree) is ∙ gone (ap (λ (v : Uid). is_aborted v c.tree) (sym is) ∙ h))
      (λ (other : w ≢ u). ap (ended_so ending.Abort) (one.branches w other) ∙ h)
      (uid_cases w u)

  spent : (us : List Uid) → is_spent us c.tree ≡ true → is_spent us e.tree ≡ true
  spent [] h = absurd (cc h)
  spent (w ∷ us) h = by (is_aborted w c.tree) refl h (spent us)
    where
      right : (t v : Bool) → v ≡ true → (t || v) ≡ true
      right true v is = refl
      right false v is = is

      by : (t : Bool) → is_aborted w c.tree ≡ t → (t || is_spent us c.tree) ≡ true →
          (is_spent us c.tree ≡ true → is_spent us e.tree ≡ true) → (is_aborted w e.tree || is_spent us e.tree) ≡ true
      by true is all ih = ap (λ (t : Bool). t || is_spent us e.tree) (aborted w is)
      by false is all ih = right (is_aborted w e.tree) (is_spent us e.tree) (ih all)

  pub one_stays : SeesCoord act code x e T
  one_stays = subst (SeesCoord act code x e) (sym rest)
      (stays_coord act code x c e S T.action T.now S.includes sees acts was still spent roots (λ w k s works calling. ⊎_elim
      (λ (is : w ≡ u). absurd (let two : ◌≡◌ {A = Option Doing} (Some d') (Some k) = sym one.doing ∙ ap (λ (v : Uid). doing_of v e) (sym is)
      ∙ works in let same : d' ≡ k = cc two in quiet s (ap (λ (v : Doing). v.now) same ∙ calling)))
      (λ (other : w ≢ u). sym (one.doings w other) ∙ works)
      (uid_cases w u)))

-- an open action isn't aborted
open_unaborted : (c : Coord) (u : Uid) (b : Branch) → branch_of u c.tree ≡ Some b → is_some b.ended ≡ false → is_aborted u c.tree ≡ true → ⊥
open_unaborted c u b found unended h = let none : is_aborted u c.tree ≡ false = ap (ended_so ending.Abort) found
    ∙ ap (has_end ending.Abort) (unended_none b.ended unended) in cc (sym h ∙ none)

-- an end is nothing to roots
pub ended_roots : (u : Uid) (e : End) (c : Coord) (w : Uid) → root_at w (ended u e c) ≡ root_at w c
ended_roots u e c w = on_roots (doing_of u (record c { tree = ended_at u e c.tree }))
  where
    on_roots : (o : Option Doing) →
        root_at w (change_doing (λ (q : Doing). record q { now = Idle }) u (record c { tree = ended_at u e c.tree }) o) ≡ root_at w c
    on_roots None = refl
    on_roots (Some q) = refl

pub ends_keep_roots : EndsKeepRoots
ends_keep_roots act code paths x unit c u b d e S T opened sees only acts =
    one_stays act code x c (ended u e c) u b (record b { ended = Some e }) (record d { now = Idle }) S T opened.there
    (λ h. absurd (open_unaborted c u b opened.there opened.unended h)) sees only.rest acts
    (end_changed c u b d opened.there opened.works e) refl (ended_roots u e c) (λ s is. absurd (cc is))

pub commits_keep_roots : CommitsKeepRoots
commits_keep_roots act code paths x unit c u b d m S T opened sees only acts =
    one_stays act code x c (commits_in u m c) u b b (h d) S T opened.there
    (λ k. absurd (open_unaborted c u b opened.there opened.unended k)) sees only.rest acts
    (work_changed c u b d opened.there opened.works h) refl (λ w. on_roots w (doing_of u c)) (λ s is. absurd (cc is))
  where
    h : Doing → Doing
    h q = record q { req = (let v = plan_of m in v.req); now = Committing m }

    on_roots : (w : Uid) (o : Option Doing) → root_at w (change_doing h u c o) ≡ root_at w c
    on_roots w None = refl
    on_roots w (Some q) = refl

pub units_keep_roots : UnitsKeepRoots
units_keep_roots act code x unit c S T sees only acts =
    subst (SeesCoord act code x c) (sym only.rest) (stays_coord act code x c c S T.action T.now S.includes sees acts
    (λ w k there. (k, there, refl)) (λ w k there. (k, there, refl)) (λ us h. h) (λ w. refl) (λ w d s works calling. works))

-- ---- a decision

-- each value changed by its key is found changed
each_at : {X : Type 0} (f : ℕ → X → X) (k : ℕ) (m : List (ℕ × X)) → at_number k (each f m) ≡ option_map (f k) (at_number k m)
each_at f k [] = refl
each_at {X} f k (e ∷ es) = by (nat_cmp k e.0) refl (each_at f k es)
  where
    by : (r : Ordering) → nat_cmp k e.0 ≡ r → at_number k (each f es) ≡ option_map (f k) (at_number k es) →
        cond (is_eq r) (Some (f e.0 e.1)) (at_number k (each f es)) ≡ option_map (f k) (cond (is_eq r) (Some e.1) (at_number k es))
    by Less is ih = ih
    by Equal is ih = ap (λ (n : ℕ). Some (f n e.1)) (sym (nat_cmp-IsAntisymmetric k e.0 is))
    by Greater is ih = ih

module _ (x : ℕ) (p : commit.Plan) where
  keeps_lists : (r : Root) → keeping_of x (root_after p r) ≡ keeping_after p x (keeping_of x r)
  keeps_lists r = ap (λ (v : Option Keeping). unwrap_or v no_keeping) (each_at (keeping_after p) x r.keeping) ∙ by (at_number x r.keeping)
    where
      by : (v : Option Keeping) → unwrap_or (option_map (keeping_after p x) v) no_keeping ≡ keeping_after p x (unwrap_or v no_keeping)
      by None = refl
      by (Some k) = refl

  kept_lists : (unit : ℕ) (o : Option Known) (avoid : Binding) (S : State) → SeesKeeping unit o avoid S →
      SeesKeeping unit (kept_after p x o) avoid S
  kept_lists unit None avoid S low = low
  kept_lists unit (Some k) avoid S seen =
      record { kept = seen.kept; server = seen.server; named = seen.named; unnamed = seen.unnamed; recorded = seen.recorded }

  none_before : (o : Option Known) → kept_after p x o ≡ None → o ≡ None
  none_before None h = refl
  none_before (Some k) h = absurd (cc h)

  tied_after : (o : Option Known) (k : Known) → IsTied o k → IsTied (kept_after p x o) k
  tied_after o k t =
      subst (λ (v : Option Known). IsTied (kept_after p x v) k) (sym t.is) (record { old = list_after p x t.old; is = refl; same = t.same })

  root_lists : (act : Acts) (u : Uid) (r : Root) (t : Tree) (S : State) → SeesRoot act x u r t S → SeesRoot act x u (root_after p r) t S
  root_lists act u r t S s = record {
    keeping = subst (λ (k : Keeping). SeesKeeping (root (act u)) k.kept k.avoid S) (sym (keeps_lists r))
        (kept_lists (root (act u)) (kept_of x r) (let k = keeping_of x r in k.avoid) S s.keeping);
    spent = λ none. s.spent (none_before (kept_of x r) (ap (λ (k : Keeping). k.kept) (sym (keeps_lists r)) ∙ none));
    said = s.said;
    calls = s.calls;
    heard = s.heard;
  }

  step_lists : (act : Acts) (code : Codes) (s : Steps) (o : Op) (kp : Keeping) (S : State) (a : At) → SeesStep act code s o kp S a →
      SeesStep act code s o (keeping_after p x kp) S a
  step_lists act code s o kp S (AtBind avoid) h = λ none. h (none_before kp.kept none)
  step_lists act code s o kp S (AtLoad k n rest) h = (tied_after kp.kept k h.0, h.1)
  step_lists act code s o kp S (AtActivate k st) h = (tied_after kp.kept k h.0, h.1, h.2)
  step_lists act code s o kp S (AtNote k i) h = (tied_after kp.kept k h.0, h.1, h.2)
  step_lists act code s o kp S (AtInvoke k i) h = (tied_after kp.kept k h.0, h.1, h.2, h.3)

module _ (act : Acts) (code : Codes) (x : ℕ) (c : Coord) (u rt : Uid) (d : Doing) (p : commit.Plan) (took : List ℕ) (S : State)
    (sees : SeesCoord act code x c S) (works : doing_of u c ≡ Some d) (idle : d.now ≡ Idle) where
  abbrev took_one : Doing
  took_one = record d { took = took }

  abbrev e : Coord
  e = on_root rt (root_after p) (set_doing u took_one c)

  -- a root is as it was, or with other lists
  root_cases : (P : Root → Type 0) (w : Uid) → P (root_at w c) → P (root_after p (root_at w c)) → P (root_at w e)
  root_cases P w same other = ⊎_elim
      (λ (is : w.num ≡ rt.num).
      subst P (sym (by_num e is ∙ root_here rt (root_after p) (set_doing u took_one c) ∙ ap (root_after p) (sym (by_num c is)))) other)
      (λ (apart : w.num ≢ rt.num). subst P (sym (root_else rt (root_after p) (set_doing u took_one c) w apart)) same)
      (number_cases w.num rt.num)
    where
      number_cases : (m n : ℕ) → (m ≡ n) ⊎ (m ≢ n)
      number_cases m n = grind arith

      by_num : (v : Coord) → w.num ≡ rt.num → root_at w v ≡ root_at rt v
      by_num v is = ap (λ (n : ℕ). unwrap_or (at_number n v.roots) no_root) is

  work_was : (w : Uid) (k : Doing) → doing_of w e ≡ Some k → (q : Doing) × (doing_of w c ≡ Some q) × (q.now ≡ k.now) × (q.req ≡ k.req)
  work_was w k found = ⊎_elim
      (λ (is : w ≡ u).
      let two : ◌≡◌ {A = Option Doing} (Some took_one) (Some k) = sym (doing_put u took_one d c works)
      ∙ ap (λ (v : Uid). doing_of v e) (sym is) ∙ found in
      let one : took_one ≡ k = cc two in
      (d, ap (λ (v : Uid). doing_of v c) is ∙ works, ap (λ (v : Doing). v.now) one, ap (λ (v : Doing). v.req) one))
      (λ (other : w ≢ u). (k, sym (doing_other u w took_one d c works other) ∙ found, refl, refl))
      (uid_cases w u)

  calling_was : (w : Uid) (k : Doing) (s : Steps) → doing_of w e ≡ Some k → k.now ≡ Calling s → doing_of w c ≡ Some k
  calling_was w k s found calling = ⊎_elim
      (λ (is : w ≡ u).
      let two : ◌≡◌ {A = Option Doing} (Some took_one) (Some k) = sym (doing_put u took_one d c works)
      ∙ ap (λ (v : Uid). doing_of v e) (sym is) ∙ found in
      let one : took_one ≡ k = cc two in
      let bad : Idle ≡ Calling s = sym idle ∙ ap (λ (v : Doing). v.now) one ∙ calling in absurd (cc bad))
      (λ (other : w ≢ u). sym (doing_other u w took_one d c works other) ∙ found)
      (uid_cases w u)

  took_seen : SeesCoord act code x e S
  took_seen = record {
    actions = let a = sees.actions in record {
      each = λ w b k there found action. (let q = work_was w k found in let y = a.each w b q.0 there q.1 action in
          record {
            stage = y.stage ∙ ap (stage_of b.ended) q.2;
            request = subst (λ (n : ℕ). (let z = S.action (act w) in z.request) ≤ n) q.3 y.request;
            waits = λ h. y.waits h ∙ ap (invokes x) q.2;
            last = λ h. y.last (ap (invokes x) q.2 ∙ h) ∙ q.3;
            doomed = y.doomed;
          });
      opened = a.opened;
      quiet = a.quiet;
      others = a.others;
    };
    roots = λ w b there own. root_cases (λ (r : Root). SeesRoot act x w r c.tree S) w (sees.roots w b there own)
        (root_lists x p act w (root_at w c) c.tree S (sees.roots w b there own));
    calls = λ w k s o found calling about goal. (let y = sees.calls w k s o (calling_was w k s found calling) calling about goal in
        root_cases (λ (r : Root). SeesStep act code s o (keeping_of x r) S s.at) (root_of s.path) y
        (subst (λ (v : Keeping). SeesStep act code s o v S s.at) (sym (keeps_lists x p (root_at (root_of s.path) c)))
        (step_lists x p act code s o (keeping_of x (root_at (root_of s.path) c)) S s.at y)));
    plain = λ w k s found calling. sees.plain w k s (calling_was w k s found calling) calling;
  }

pub decisions_keep_roots : DecisionsKeepRoots
decisions_keep_roots act code x c u d p S works idle sees = by (has_record p)
  where
    mid : Coord
    mid = ended u ending.Commit c

    g : Doing → Doing
    g q = record q { took = participants p }

    seen : SeesCoord act code x (on_root (root_of p.path) (root_after p) (on_doing u g mid)) S
    seen = subst (λ (v : Coord). SeesCoord act code x (on_root (root_of p.path) (root_after p) v) S)
        (λ i. change_doing g u mid (sym works i)) (took_seen act code x mid u (root_of p.path) d p (participants p) S sees works idle)

    by : (t : Bool) → SeesCoord act code x (cond t (record (on_root (root_of p.path) (root_after p) (on_doing u g mid)) {
      telling = put_uid
          u (record { root = root_of p.path; nodes = participants p })
          (let v = on_root (root_of p.path) (root_after p) (on_doing u g mid) in
          v.telling);
    }) (on_root (root_of p.path) (root_after p) (on_doing u g mid))) S
    by true = same_coord act code x (on_root (root_of p.path) (root_after p) (on_doing u g mid)) (record (on_root (root_of p.path)
        (root_after p) (on_doing u g mid)) {
          telling = put_uid u (record { root = root_of p.path; nodes = participants p })
              (let v = on_root (root_of p.path) (root_after p) (on_doing u g mid) in v.telling);
        }) S refl (λ w. refl) (λ w. refl) seen
    by false = seen
