-- The root of a top that was decided, as its coordinator and the machine have it.
use Rattle.arj_law_parts.proofs.Words
use Words.{◌≡◌, ◌⊎◌, ℕ, ◌==◌, ◌&&◌, ◌||◌, not, List, [], ◌∷◌, ◌++◌, map, filter, find, Bool, true, false, cond, Option, Some, None, refl}
use Words.{sym, ◌∙◌, ap, subst, inl, inr, ⊎_elim, is_some, Contains, if◌then◌else◌, option_map, or_cases, or_parts, Uid, ObjectState, is_on}
use Words.{object, uid_eq, uid_is, Used, changed_of, included_of, Coord, Root, Said, root_at, top_uses, Known, decided, kept_after}
use Words.{list_after, root_after, at_number, uid_number, is_spent, root_of, number_tells}
use Words.commit
use Words.coord
use Rattle.arj_law_disk_view.proofs.Terms
use Terms.{done_of, Named, Names, Office, Kept, Loaded, lists_after, or_else, retained, with_list, written_in, chosen, State, Done, Plan}
use Terms.{list_after as list_left, target, In, has, put, falls_to, never, put_cases, some_is, test_is, test_same, SeesConfirming}
use Terms.{SaysMarks, Among, packed, plan_at, plan_by, used_at, IsFixed, IsLater, Kinds, IsEndedBare, IsRecorded, OnlyDecided, SeesRootOf}
use Terms.{decided_names, ended_names, has_part, DecidesTop, SeesGrants, root_retains, AfterDecision, HasList, HasRetained, IsLasting}
use Terms.{IsSaid, IsTopOf, SeesLists, HaveLoads, KeepsState}
use Terms.disk
use Rattle.arj_law_disk_view.proofs.names.GrantSteps.{grants_are_retained, grants_stay}
use Rattle.arj_law_disk_view.proofs.names.ListEnds.{decisions_keep_lists, list_on, list_too, retained_lists_are_seen, retained_on}
use Rattle.arj_law_disk_view.proofs.names.ListEnds.{retained_too}
use Rattle.arj_law_disk_view.proofs.names.LoadSteps.{decisions_keep_states, states_left}
use Rattle.arj_law_disk_view.proofs.view.Later.{effects_are_later}
use Rattle.arj_law_disk_view.specs.names.Decided.{DecidedCallsHaveLists, DecidedRootsAreSeen, IsSettled}
use Rattle.arj_law_disk_view.proofs.view.Asked as confirm
use Rattle.arj_law_disk_view.proofs.names.DecidedTrees as tree

-- ---- kept lists where nothing was sent

no_joins : (s : List ℕ) → ((n : ℕ) → has n s ≡ false) → s ≡ []
no_joins [] off = refl
no_joins (n ∷ ns) off = absurd (never (ap (λ b. b || has n ns) (test_same n)) (off n))

left_whole : (p : Plan) (got : ℕ → Bool) (l : List ℕ) → ((s : ℕ) → target p s ≡ false) → list_left p got l ≡ l
left_whole p got l off = (λ i. all l i ++ filter got (none i)) ∙ end l
  where
    none : p.joins ≡ []
    none = no_joins p.joins (λ n. (or_parts (is_some p.writes && has n p.list) (has n p.joins) (off n)).1)

    all : (m : List ℕ) → filter (λ s. not (target p s && not (got s))) m ≡ m
    all [] = refl
    all (n ∷ ns) = ap (λ b. cond (not (b && not (got n))) (n ∷ filter (λ s. not (target p s && not (got s))) ns)
        (filter (λ s. not (target p s && not (got s))) ns)) (off n) ∙ ap (λ ms. n ∷ ms) (all ns)

    end : (m : List ℕ) → m ++ [] ≡ m
    end [] = refl
    end (n ∷ ns) = ap (λ ms. n ∷ ms) (end ns)

lists_whole : (S : State) (t : ℕ) (kept : ℕ → Option Kept) → ((s : ℕ) → target (S.plan t) s ≡ false) → lists_after S t kept ≡ kept
lists_whole S t kept off = λ i h. at h (S.root h == S.root t) i
  where
    whole : (o : Option Kept) → with_list (S.plan t) (S.got t) o ≡ o
    whole None = refl
    whole (Some k) = ap (λ l. Some (record { since = k.since; list = l })) (left_whole (S.plan t) (S.got t) k.list off)

    at : (h : ℕ) (b : Bool) → (if b then with_list (S.plan t) (S.got t) (kept h) else kept h) ≡ kept h
    at h true = whole (kept h)
    at h false = refl

-- a top that is its own root retains what it has
retained_own : (S : State) (t : ℕ) (N : Names) → S.root t ≡ t → retained S t N ≡ N
retained_own S t N own =
    ap (λ r. record N { had = put r (λ i. N.had r i || N.had t i) N.had; kept = put r (or_else (N.kept r) (N.kept t)) N.kept }) own
    ∙ (λ i. record N { had = λ h. had_at h i; kept = λ h. kept_at h i })
  where
    twice : (b : Bool) → (b || b) ≡ b
    twice true = refl
    twice false = refl

    or_self : (o : Option Kept) → or_else o o ≡ o
    or_self None = refl
    or_self (Some k) = refl

    had_at : (h : ℕ) → put t (λ i. N.had t i || N.had t i) N.had h ≡ N.had h
    had_at h = put_cases (λ f. f ≡ N.had h) t (λ i. N.had t i || N.had t i) N.had h
        (λ same. (λ j i. twice (N.had t i) j) ∙ ap N.had (sym same)) (λ other. refl)

    kept_at : (h : ℕ) → put t (or_else (N.kept t) (N.kept t)) N.kept h ≡ N.kept h
    kept_at h = put_cases (λ o. o ≡ N.kept h) t (or_else (N.kept t) (N.kept t)) N.kept h (λ same. or_self (N.kept t) ∙ ap N.kept (sym same))
        (λ other. refl)

-- ---- what the plan changes

pub found_among : (f : ObjectState → Bool) (ss : List ObjectState) (st : ObjectState) → find f ss ≡ Some st → Among st ss × (f st ≡ true)
found_among f [] st is = absurd (cc is)
found_among f (s ∷ ss) st is = by (f s) refl is (λ h. found_among f ss st h)
  where
    by : (b : Bool) → f s ≡ b → cond b (Some s) (find f ss) ≡ Some st → (find f ss ≡ Some st → Among st ss × (f st ≡ true)) →
        Among st (s ∷ ss) × (f st ≡ true)
    by true e h ih = let same = some_is refl h in (inl same, ap f (sym same) ∙ e)
    by false e h ih = let r = ih h in (inr r.0, r.1)

-- two decided tops with one plan wrote the same
same_written : (root : ℕ → ℕ) (r : ℕ) (d e : Done) (ds : List Done) → d.top ≡ e.top → d.plan ≡ e.plan →
    written_in root r (d ∷ ds) ≡ written_in root r (e ∷ ds)
same_written root r d e ds top plan =
    λ i. if root (top i) == r then or_else ((plan i).writes) (written_in root r ds) else written_in root r ds

module _ (x : ℕ) (tops : Kinds) (root t : Uid) (p : commit.Plan) (c : Coord) (A B : Office) (named : Named A) (held : Named B)
    (fixed : IsFixed tops A.world.disk) (fixed_then : IsFixed tops B.world.disk) (top : DecidesTop x tops root t p c)
    (sees : SeesConfirming x A.world.disk (uid_number t) p) (has_root : SeesRootOf x tops root c (root_at root c) A)
    (only : OnlyDecided (λ z. z == uid_number t) (λ z. root_retains x t p c) A B) (settled : IsSettled B (uid_number t))
    (lasting : IsLasting x (decided t p c) (root_at root (decided t p c))) where
  abbrev n : ℕ
  n = uid_number t

  abbrev S : State
  S = B.world.disk

  abbrev r : Root
  r = root_at root c

  abbrev q : Root
  q = root_at root (decided t p c)

  abbrev d : Coord
  d = decided t p c

  later : IsLater A.world B.world
  later = let a = only.along in subst (IsLater A.world) a.here (effects_are_later A.world a.effects a.allowed named.whole)

  sealed : disk.is_sealed (A.world.disk.stage n) ≡ true
  sealed = ap disk.is_sealed sees.stage

  said_then : IsSaid x S t p
  said_then = subst (λ g. SaysMarks x (S.plan n) g (map {A = Used} {B = ℕ × ℕ} (λ u. (u.x, u.grant)) p.used) p.excluded (included_of p))
      (sym (later.got n sealed))
      (subst (λ z. SaysMarks x z (A.world.disk.got n) (map {A = Used} {B = ℕ × ℕ} (λ u. (u.x, u.grant)) p.used) p.excluded (included_of p))
      (sym (later.plan n sees.begun)) (confirm.confirm_says x A.world.disk n p sees))

  -- ---- the root

  after : q ≡ root_after p r
  after = subst (λ k. root_at k (decided t p c) ≡ root_after p (root_at k c)) top.of_root
      (tree.root_now x t p c top.branch top.doing top.found top.unended top.at_work)

  same_grants : q.grants ≡ r.grants
  same_grants = ap (λ (z : Root). z.grants) after

  same_said : q.said ≡ r.said
  same_said = ap (λ (z : Root). z.said) after

  same_joined : q.joined ≡ r.joined
  same_joined = ap (λ (z : Root). z.joined) after

  decision : AfterDecision x t p c (decided t p c) r q
  decision = record {
    grants = same_grants;
    said = same_said;
    kept = ap (coord.kept_of x) after ∙ tree.kept_then x p r;
    spent = λ s i. tree.spent_same x t p c top.branch top.doing top.found top.unended top.at_work s.path;
  }

  more : (s : Said) → Contains r.said s → s.x ≡ x → coord.is_retained s.path (decided t p c) ≡ true →
      (coord.is_retained s.path c ≡ true) ⊎ ((is_on s.path t ≡ true) × (is_spent s.path c.tree ≡ false))
  more s i of on = tree.retained_more x t p c top.branch top.doing top.found top.unended top.at_work s.path
      (lasting.retained s (subst (λ ss. Contains ss s) (sym same_said) i) of on) on

  -- where the root doesn't retain what the top has, or is the top itself, no more calls are retained
  few_if : (top_uses t x r c ≡ false) ⊎ (tops.is_serial (uid_number root) ≡ false) → (s : Said) → Contains r.said s → s.x ≡ x →
      coord.is_retained s.path (decided t p c) ≡ true → coord.is_retained s.path c ≡ true
  few_if why s i of on = by (is_on s.path t) refl
    where
      own_root : tops.is_serial (uid_number root) ≡ false → root ≡ t
      own_root plain = number_tells root t (sym (ap (λ f. f n) fixed.root ∙ top.top.of_root) ∙ named.roots.plain n
          (ap A.world.disk.serial (ap (λ f. f n) fixed.root ∙ top.top.of_root) ∙ ap (λ f. f (uid_number root)) fixed.serial ∙ plain))

      by : (e : Bool) → is_on s.path t ≡ e → coord.is_retained s.path c ≡ true
      by false e = tree.retained_off x t p c top.branch top.doing top.found top.unended top.at_work s.path e on
      by true e = ⊎_elim
          (λ unused.
          absurd (never (tree.uses_if x t p c top.branch top.doing top.found top.unended top.at_work r s i of (tree.survives_now x t p c
          top.branch top.doing top.found top.unended top.at_work s.path (let g = top.paths s i in g.once) e s.path refl on)) unused))
          (λ plain. let g = top.paths s i in tree.retained_below x t p c top.branch top.doing top.found top.unended top.at_work s.path
          g.once e g.rest (g.headed ∙ ap (λ z. z ∷ g.rest) (own_root plain)) (top.kind ∙ plain) on)
          why

  -- ---- names

  abbrev L : Names
  L = record A.names { kept = lists_after B.world.disk (uid_number t) A.names.kept }

  t_root : S.root n ≡ uid_number root
  t_root = ap (λ f. f n) fixed_then.root ∙ top.top.of_root

  had_of : SeesGrants x root c r S A.names
  had_of = grants_stay x root c c r r A.world.disk S A.names has_root.grants refl (λ w h. h) later.root later.serial

  grants_left : SeesGrants x root d q S L
  grants_left = let g = grants_stay x root c d r q S S A.names had_of same_grants (tree.stays_retained x t p c top.branch top.doing
      top.found top.unended top.at_work r q same_said same_joined) refl refl in record { own = g.own; least = g.least; kept = g.kept }

  lists_left : (top_uses t x r c ≡ false) ⊎ (tops.is_serial (uid_number root) ≡ false) → SeesLists x tops root d q L
  lists_left why =
      decisions_keep_lists x tops root t c d r q p S A.names fixed_then has_root.lists top.top top.own_root said_then decision (few_if why)

  uses_top : root_retains x t p c ≡ true → top_uses t x r c ≡ true
  uses_top on = ⊎_elim (λ u. subst (λ k. top_uses t x (root_at k c) c ≡ true) top.of_root u) top.own_part
      (or_cases (top_uses t x (root_at (root_of p.path) c) c) (has_part (plan_at x p)) on)

  unused : root_retains x t p c ≡ false → top_uses t x r c ≡ false
  unused off = subst (λ k. top_uses t x (root_at k c) c ≡ false) top.of_root
      (or_parts (top_uses t x (root_at (root_of p.path) c) c) (has_part (plan_at x p)) off).0

  -- a call under way of a top of the root has a list of what the root keeps
  abbrev Calls : Names → Type 0
  Calls N = (w : Uid) (k : Known) → IsTopOf tops root w → HasList A.names (uid_number w) k ⊎ HasRetained A.names (uid_number root) k →
      HasList N (uid_number w) (list_after p x k) ⊎ HasRetained N (uid_number root) (list_after p x k)

  calls_left : Calls L
  calls_left w k of h = ⊎_elim
      (λ l. inl (list_on x tops root t c d r q p S A.names fixed_then has_root.lists top.top top.own_root said_then decision (uid_number w)
      k (ap (λ f. f (uid_number w)) fixed_then.root ∙ of.of_root) l))
      (λ l. inr (retained_on x tops root t c d r q p S A.names fixed_then has_root.lists top.top top.own_root said_then decision k l)) h

  calls_kept : tops.is_serial (uid_number root) ≡ true → Calls (retained B.world.disk (uid_number t) L)
  calls_kept serial w k of h = ⊎_elim
      (λ l. inl (list_too x tops root t c d r q p S A.names fixed_then has_root.lists top.top top.own_root said_then decision serial
      named.lists.had more w (list_after p x k) of l))
      (λ l. inr (retained_too x tops root t c d r q p S A.names fixed_then has_root.lists top.top top.own_root said_then decision serial
      named.lists.had more (list_after p x k) l)) (calls_left w k of h)

  abbrev Has : Names → Type 0
  Has N = SeesGrants x root d q S N × SeesLists x tops root d q N × Calls N

  kept_by : (serial : Bool) → tops.is_serial (uid_number root) ≡ serial → root_retains x t p c ≡ true →
      Has (retained B.world.disk (uid_number t) L)
  kept_by true serial on = (
    grants_are_retained x root t c d r q S S L (record { own = had_of.own; least = had_of.least; kept = had_of.kept }) same_grants
        (tree.stays_retained x t p c top.branch top.doing top.found top.unended top.at_work r q same_said same_joined) refl refl t_root
        (ap (λ f. f n) fixed_then.serial ∙ top.top.plain) (ap (λ f. f (uid_number root)) fixed_then.serial ∙ serial)
        (tree.now_retained x t p c top.branch top.doing top.found top.unended top.at_work r q same_said same_joined (top.kind ∙ serial)
        (uses_top on)),
    retained_lists_are_seen x tops root t c d r q p S A.names fixed_then has_root.lists named.lists.had top.top top.own_root serial
        said_then decision more,
    calls_kept serial,
  )
  kept_by false serial on = subst Has (sym (retained_own S n L (held.roots.plain n
      (ap S.serial t_root ∙ ap (λ f. f (uid_number root)) fixed_then.serial ∙ serial)))) (grants_left, lists_left (inr serial), calls_left)

  has_names : (keeps : Bool) → root_retains x t p c ≡ keeps → Has (decided_names keeps B.world.disk (uid_number t) A.names)
  has_names true is = kept_by (tops.is_serial (uid_number root)) refl is
  has_names false is = (grants_left, lists_left (inl (unused is)), calls_left)

  -- ---- loads and states

  loads_then : HaveLoads x tops root q B.names
  loads_then j w i of on at =
      let h = has_root.loads j w (subst (λ js. Contains js j) same_joined i) of on at in
      record {
        inc = h.inc;
        answered = subst (λ (N : Names). In (Loaded (uid_number w) h.inc (packed j.loaded)) N.answers) (sym (let o = only.only in o.names))
            h.answered;
        had = (let o = only.only in o.grows) (uid_number w) h.inc h.had;
      }

  same_states : q.states ≡ (let z = root_after p r in z.states)
  same_states = ap (λ (z : Root). z.states) after

  once : (s : ObjectState) → Among s p.changed → s.uid ≡ object x → changed_of x p ≡ Some s
  once s i of = (top.changes x s i of).found

  writes_is : (let z = A.world.disk.plan n in z.writes) ≡ option_map packed (changed_of x p)
  writes_is = ap (λ (z : Plan). z.writes) sees.plan ∙ by (used_at x p.used) refl (changed_of x p) refl
    where
      by : (u : Option Used) → used_at x p.used ≡ u → (o : Option ObjectState) → changed_of x p ≡ o →
          (let z = plan_by u o in z.writes) ≡ option_map packed o
      by (Some u) e o f = refl
      by None e None f = refl
      by None e (Some st) f =
          let g = found_among (λ s. uid_eq s.uid (object x)) p.changed st f in
          let k = top.changes x st g.0 (uid_is st.uid (object x) g.1) in
          absurd (let clash : ◌≡◌ {A = Option Used} None (Some k.used) = sym e ∙ k.uses in cc clash)

  state_recorded : IsRecorded (root_retains x t p c) n A B → KeepsState x root q B.world.disk
  state_recorded z =
      decisions_keep_states x root t p r q A.world.disk
      (record A.world.disk { tops = done_of A.world.disk (uid_number t) ∷ A.world.disk.tops }) has_root.state same_states refl refl
      (ap (λ f. f n) fixed.root ∙ top.top.of_root) (record { writes = writes_is; objects = top.objects; once = once })
      ∙ same_written A.world.disk.root (uid_number root) (done_of A.world.disk n) z.done A.world.disk.tops (sym z.top)
      (sym (z.plan ∙ later.plan n sees.begun))
      ∙ (λ i. written_in ((sym later.root) i) (uid_number root) ((sym z.tops) i))

  state_bare : IsEndedBare (root_retains x t p c) n A B → KeepsState x root q B.world.disk
  state_bare z =
      ap (λ m. option_map packed (at_number x m)) same_states
      ∙ ap (option_map packed) (states_left x p top.objects once r.states)
      ∙ ap (λ o. option_map packed (or_else o (at_number x r.states)))
      (none (changed_of x p) (sym writes_is ∙ ap (λ (y : Plan). y.writes) (sym (later.plan n sees.begun)) ∙ z.plain))
      ∙ has_root.state
      ∙ (λ i. written_in ((sym later.root) i) (uid_number root) ((sym z.tops) i))
    where
      none : (o : Option ObjectState) → option_map packed o ≡ None → o ≡ None
      none None h = refl
      none (Some s) h = absurd (cc h)

  -- ---- whichever way

  undone : disk.decided A.world.disk n ≡ false
  undone =
      falls_to (disk.decided A.world.disk n) (λ e. never (named.whole.core.coordinators.decided_closed n e) (ap disk.is_gone sees.stage))

  unended : A.world.disk.bare n ≡ true → ⊥
  unended e = never (named.whole.core.bare.gone n e) (ap disk.is_gone sees.stage)

  all_seen : Has B.names × KeepsState x root q B.world.disk
  all_seen = ⊎_elim
      (λ u. absurd (⊎_elim (λ e. never (ap (λ ds. disk.decided_in ds n) (sym u.tops) ∙ e) undone) (λ e. unended (u.bare e)) settled))
      (λ h. ⊎_elim
      (λ (z : IsRecorded (root_retains x t p c) n A B). (subst Has (sym z.names) (has_names (root_retains x t p c) refl), state_recorded z))
      (λ (z : IsEndedBare (root_retains x t p c) n A B). (
        subst Has (sym (z.names ∙ same_ended (root_retains x t p c) (held.whole.core.bare.untouched n z.bare)))
            (has_names (root_retains x t p c) refl),
        state_bare z,
      ))
      h)
      (only.how n (λ z is. test_is z n is))
    where
      same_ended : (keeps : Bool) → ((s : ℕ) → target (S.plan n) s ≡ false) →
          ended_names keeps S n A.names ≡ decided_names keeps S n A.names
      same_ended keeps off =
          ap (λ k. let N = record A.names { kept = k } in chosen keeps (retained S n N) N) (sym (lists_whole S n A.names.kept off))

  pub root_seen : SeesRootOf x tops root d q B
  root_seen = record { grants = all_seen.0.0; lists = all_seen.0.1; loads = loads_then; state = all_seen.1 }

  pub call_seen : (w : Uid) (k : Known) → IsTopOf tops root w → coord.kept_of x (root_at root c) ≡ Some k →
      HasList A.names (uid_number w) k ⊎ HasRetained A.names (uid_number root) k
      → (l : Known) × (coord.kept_of x (root_at root (decided t p c)) ≡ Some l)
      × (HasList B.names (uid_number w) l ⊎ HasRetained B.names (uid_number root) l)
  call_seen w k of is h = (list_after p x k, decision.kept ∙ ap (kept_after p x) is, all_seen.0.2 w k of h)

pub decided_roots_are_seen : DecidedRootsAreSeen
decided_roots_are_seen x tops root t p c A B named held fixed fixed_then top sees has_root only settled lasting =
    root_seen x tops root t p c A B named held fixed fixed_then top sees has_root only settled lasting

pub decided_calls_have_lists : DecidedCallsHaveLists
decided_calls_have_lists x tops root t p c A B named held fixed fixed_then top sees has_root only settled lasting w k of is h =
    call_seen x tops root t p c A B named held fixed fixed_then top sees has_root only settled lasting w k of is h
